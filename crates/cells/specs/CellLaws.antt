-- What a store leaves: the stored cell, the others, and the length.
use Rattle.std.specs.Prelude.{◌≡◌, refl, ◌≢◌, List, [], ◌∷◌, ◌++◌, ℕ, zero, suc, ◌+◌, ◌≤◌, ◌<◌, ℤ, pos, length, set, drop, replicate}
use Rattle.std.proofs.Common.{ap, ◌∙◌, ⊎_elim, append-nil, not-suc-le-zero, le_of_suc-le-suc, add-one, arith, length-set, drop_of_length-le, get_or-set_same, get_or-set_other}
use Rattle.std.proofs.lemmas.List.Edits.{paste_none, fill_from_more}
use lib.Seq.{paste}
use Rattle.number.specs.Order.{eq_or_ne}
use Rattle.number.specs.Zed.{up}
use Rattle.cells.specs.Cell.{cell, store, cell_z, store_z, filled}

-- ---- natural numbers
pub cell_same : (xs : List ℤ) (at v : ℕ) → at < length xs → cell (store xs at v) at ≡ v
unfolding cell store
cell_same xs at v h = ap up (get_or-set_same xs at (pos v) (pos 0) h)

pub cell_other : (xs : List ℤ) (i at v : ℕ) → at ≢ i → cell (store xs i v) at ≡ cell xs at
unfolding cell store
cell_other xs i at v h = ap up (get_or-set_other xs i at (pos v) (pos 0) h)

pub length_store : (xs : List ℤ) (at v : ℕ) → length (store xs at v) ≡ length xs
unfolding store
length_store xs at v = length-set xs at (pos v)

-- ---- integers
pub cell_z_same : (xs : List ℤ) (at : ℕ) (z : ℤ) → at < length xs → cell_z (store_z xs at z) at ≡ z
unfolding cell_z store_z
cell_z_same xs at z h = get_or-set_same xs at z (pos 0) h

pub cell_z_other : (xs : List ℤ) (i at : ℕ) (z : ℤ) → at ≢ i → cell_z (store_z xs i z) at ≡ cell_z xs at
unfolding cell_z store_z
cell_z_other xs i at z h = get_or-set_other xs i at z (pos 0) h

pub length_store_z : (xs : List ℤ) (at : ℕ) (z : ℤ) → length (store_z xs at z) ≡ length xs
unfolding store_z
length_store_z xs at z = length-set xs at z

-- the two readings of one cell
pub cell_up : (xs : List ℤ) (at : ℕ) → cell xs at ≡ up (cell_z xs at)
unfolding cell cell_z
cell_up xs at = refl

pub store_pos : (xs : List ℤ) (at v : ℕ) → store xs at v ≡ store_z xs at (pos v)
unfolding store store_z
store_pos xs at v = refl

-- ---- a run of stores of one number
pub length_filled : (xs : List ℤ) (base v n : ℕ) → length (filled xs base v n) ≡ length xs
unfolding filled
length_filled xs base v zero = refl
length_filled xs base v (suc n) = length_store (filled xs base v n) (base + n) v ∙ length_filled xs base v n

-- one more, at the code's n + 1
pub filled_more : (xs : List ℤ) (base v n : ℕ) → store (filled xs base v n) (base + n) v ≡ filled xs base v (n + 1)
unfolding filled
filled_more xs base v n = rw (add-one n)

-- the run as std writes it
pub filled_paste : (xs : List ℤ) (base v n : ℕ) → base + n ≤ length xs → filled xs base v n ≡ paste xs base (replicate n (pos v)) n
unfolding filled store
filled_paste xs base v zero h = paste_none xs base []
filled_paste xs base v (suc n) h =
    ap (λ (t : List ℤ). set t (base + n) (pos v)) (filled_paste xs base v n (omega arith)) ∙ fill_from_more xs base n (pos v) (omega arith)
    ∙ ap (λ (m : ℕ). paste xs base (replicate m (pos v)) m) (add-one n)

pub filled_same : (xs : List ℤ) (base v n at : ℕ) → base + n ≤ length xs → base ≤ at → at < base + n → cell (filled xs base v n) at ≡ v
unfolding filled
filled_same xs base v zero at b h k = absurd (omega arith)
filled_same xs base v (suc n) at b h k =
    ⊎_elim (λ e. rw e (cell_same (filled xs base v n) (base + n) v (omega (arith, length_filled xs base v n))))
    (λ ne. cell_other (filled xs base v n) (base + n) at v ne ∙ filled_same xs base v n at (omega arith) h (omega arith)) (eq_or_ne at (base + n))

pub filled_before : (xs : List ℤ) (base v n at : ℕ) → at < base → cell (filled xs base v n) at ≡ cell xs at
unfolding filled
filled_before xs base v zero at h = refl
filled_before xs base v (suc n) at h =
    cell_other (filled xs base v n) (base + n) at v (λ e. omega arith) ∙ filled_before xs base v n at h

pub filled_after : (xs : List ℤ) (base v n at : ℕ) → base + n ≤ at → cell (filled xs base v n) at ≡ cell xs at
unfolding filled
filled_after xs base v zero at h = refl
filled_after xs base v (suc n) at h =
    cell_other (filled xs base v n) (base + n) at v (λ e. omega arith) ∙ filled_after xs base v n at (omega arith)

-- ---- a run of stores from the front, at any type of element
module _ {A : Type 0} where
  pub front_more : (n : ℕ) (v : A) (d : List A) → n < length d → set (replicate n v ++ drop n d) n v ≡ replicate (n + 1) v ++ drop (n + 1) d
  front_more n v d h = rw (add-one n) (go n d h)
    where
      go : (n : ℕ) (d : List A) → n < length d → set (replicate n v ++ drop n d) n v ≡ replicate (suc n) v ++ drop (suc n) d
      go n [] l = absurd (not-suc-le-zero l)
      go zero (x ∷ d) l = refl
      go (suc n) (x ∷ d) l = ap (λ (t : List A). v ∷ t) (go n d (le_of_suc-le-suc l))

  pub front_all : (n : ℕ) (v : A) (d : List A) → length d ≤ n → n ≤ length d → replicate n v ++ drop n d ≡ replicate (length d) v
  front_all n v d h k = let e : n ≡ length d = omega arith in rw (drop_of_length-le d h, append-nil, e)
