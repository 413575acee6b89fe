-- What a store to a cell does to the state, and what the state reads after stores.
use Rattle.std.specs.Prelude.{◌≡◌, ◌≢◌, ◌⊎◌, Bool, true, false, cond, eqb, ltb, pos, length, replicate}
use Rattle.std.proofs.Math.Path.{refl, ap}
use Rattle.std.proofs.Common.{sym, ◌∙◌, inl, inr, ⊎_elim, eq-eqb, ne_eqb, lt-ltb, le-ltb, ltb-true}
use mathlib.Core.List.{List}
use Prim.Native.Nat.{ℕ, ◌+◌, ◌*◌, ◌≤◌, ◌<◌}
use native.Mathlib.Omega.{arith}
use Rattle.std.proofs.Math.IntN.{ℤ}
use Rattle.std.proofs.lemmas.List.{get_or-replicate, length-replicate}
use Rattle.std.proofs.Math.ListN.{get_or-eq_default}
use Rattle.number.specs.Order.{eq_or_ne, lt_or_le}
use Rattle.number.specs.Zed.{up}
use Rattle.cells.specs.Cell.{cell_z, store_z}
use Rattle.cells.specs.CellLaws.{cell_z_same, cell_z_other}
use Rattle.memory.specs.Columns.{place_before, place_to, place_apart}
use Rattle.memory.specs.State.{State, Room, place, table, state_of, zero_state, replaced, put_act, put_act_z, put_link_z, filled_to, fill_act}

-- ---- choices
module _ {A : Type 0} where
  cond_then : (b : Bool) (x y z : A) → (b ≡ true → x ≡ y) → cond b x z ≡ cond b y z
  cond_then true x y z h = h refl
  cond_then false x y z h = refl

  cond_same : (b : Bool) (x y : A) → x ≡ y → cond b x y ≡ y
  cond_same true x y h = h
  cond_same false x y h = refl

  cond_map : {B : Type 0} (g : A → B) (b : Bool) (x y : A) → g (cond b x y) ≡ cond b (g x) (g y)
  cond_map g true x y = refl
  cond_map g false x y = refl

-- ---- a table with one cell replaced
module _ {A : Type 0} (t : ℕ → ℕ → A) (f i : ℕ) (v : A) where
  pub replaced_same : replaced t f i v f i ≡ v
  replaced_same = simp (eq-eqb f f refl, eq-eqb i i refl)

  pub replaced_row : (g j : ℕ) → j ≢ i → replaced t f i v g j ≡ t g j
  replaced_row g j h = cond_same (eqb g f) _ _ (simp (ne_eqb j i h))

  pub replaced_field : (g : ℕ) → g ≢ f → replaced t f i v g ≡ t g
  replaced_field g h = λ z j. at j z
    where
      at : (j : ℕ) → replaced t f i v g j ≡ t g j
      at j = simp (ne_eqb g f h)

  -- by where the cell is read
  by_cell : {C : Type 0} (g j : ℕ) → (g ≡ f → j ≡ i → C) → (j ≢ i → C) → (g ≢ f → C) → C
  by_cell g j here row field = ⊎_elim (λ (e : g ≡ f). ⊎_elim (here e) row (eq_or_ne j i)) field (eq_or_ne g f)

  pub replaced_is : (u : ℕ → ℕ → A) → u f i ≡ v → ((g j : ℕ) → (g ≡ f → j ≡ i → ⊥) → u g j ≡ t g j) → u ≡ replaced t f i v
  replaced_is u h k = λ z g j. at g j z
    where
      at : (g j : ℕ) → u g j ≡ replaced t f i v g j
      at g j =
          by_cell g j (λ d e. rw (d, e) (h ∙ sym replaced_same)) (λ n. k g j (λ d e. n e) ∙ sym (replaced_row g j n))
          (λ n. k g j (λ d e. n d) ∙ sym (ap (λ (c : ℕ → A). c j) (replaced_field g n)))

  pub replaced_twice : (w : A) → replaced (replaced t f i w) f i v ≡ replaced t f i v
  replaced_twice w = λ z g j. at g j z
    where
      at : (g j : ℕ) → replaced (replaced t f i w) f i v g j ≡ replaced t f i v g j
      at g j = go (eqb g f) (eqb j i)
        where
          go : (b c : Bool) → cond b (cond c v (cond b (cond c w (t g j)) (t g j))) (cond b (cond c w (t g j)) (t g j)) ≡ cond b (cond c v (t g j)) (t g j)
          go true true = refl
          go true false = refl
          go false c = refl

-- two cells apart are replaced in either order
pub replaced_swap : {A : Type 0} (t : ℕ → ℕ → A) (f i : ℕ) (v : A) (g j : ℕ) (w : A) → (f ≡ g → i ≡ j → ⊥) → replaced (replaced t f i v) g j w ≡ replaced (replaced t g j w) f i v
replaced_swap t f i v g j w n =
    replaced_is (replaced t g j w) f i v (replaced (replaced t f i v) g j w) (other ∙ replaced_same t f i v)
    (λ h k m.
    by_cell t g j w h k (λ d e. rw (d, e) (replaced_same (replaced t f i v) g j w ∙ sym (replaced_same t g j w)))
    (λ o. replaced_row (replaced t f i v) g j w h k o ∙ kept h k m ∙ sym (replaced_row t g j w h k o))
    (λ o. field (replaced t f i v) h k o ∙ kept h k m ∙ sym (field t h k o)))
  where
    field : (s : ℕ → ℕ → _) (h k : ℕ) → h ≢ g → replaced s g j w h k ≡ s h k
    field s h k o = ap (λ (c : ℕ → _). c k) (replaced_field s g j w h o)

    kept : (h k : ℕ) → (h ≡ f → k ≡ i → ⊥) → replaced t f i v h k ≡ t h k
    kept h k m = by_cell t f i v h k (λ d e. absurd (m d e)) (λ o. replaced_row t f i v h k o) (λ o. ap (λ (c : ℕ → _). c k) (replaced_field t f i v h o))

    other : replaced (replaced t f i v) g j w f i ≡ replaced t f i v f i
    other = by_cell t g j w f i (λ d e. absurd (n d e)) (λ o. replaced_row (replaced t f i v) g j w f i o) (λ o. field (replaced t f i v) f i o)

-- the natural numbers of a table with a cell replaced
replaced_up : (t : ℕ → ℕ → ℤ) (f i : ℕ) (z : ℤ) (g j : ℕ) → up (replaced t f i z g j) ≡ replaced (λ h k. up (t h k)) f i (up z) g j
replaced_up t f i z g j = cond_map up (eqb g f) _ _ ∙ ap (λ (x : ℕ). cond (eqb g f) x (up (t g j))) (cond_map up (eqb j i) _ _)

-- ---- a table in cells
module _ (base size n : ℕ) (xs : List ℤ) where
  pub table_at : (f i : ℕ) → f < size → i < n → table base size n xs f i ≡ cell_z xs (base + place n f i)
  table_at f i p q = simp (lt-ltb _ _ p, lt-ltb _ _ q)

  pub table_past : (f i : ℕ) → n ≤ i → table base size n xs f i ≡ pos 0
  table_past f i h = cond_same (ltb f size) _ _ (simp (le-ltb _ _ h))

  pub table_wide : (f i : ℕ) → size ≤ f → table base size n xs f i ≡ pos 0
  table_wide f i h = simp (le-ltb _ _ h)

  -- a table is as its cells
  table_same : (ys : List ℤ) (f i : ℕ) → (f < size → i < n → cell_z ys (base + place n f i) ≡ cell_z xs (base + place n f i)) → table base size n ys f i ≡ table base size n xs f i
  table_same ys f i h = cond_then (ltb f size) _ _ _ (λ p. cond_then (ltb i n) _ _ _ (λ q. h (ltb-true f size p) (ltb-true i n q)))

  table_put : (f i : ℕ) (z : ℤ) → f < size → i < n → (size ≤ 20) ⊎ (27 < size) → base + size * n ≤ length xs
      → table base size n (store_z xs (base + place n f i) z) ≡ replaced (table base size n xs) f i z
  table_put f i z p q w room =
      replaced_is (table base size n xs) f i z (table base size n (store_z xs (base + place n f i) z))
      (at_cell ∙ cell_z_same xs (base + place n f i) z (omega (arith, place_to n size f i w p q)))
      (λ g j m.
      table_same (store_z xs (base + place n f i) z) g j
      (λ s u. cell_z_other xs (base + place n f i) (base + place n g j) z (λ e. let d = place_apart n g j f i u q (omega arith) in m d.0 d.1)))
    where
      at_cell : table base size n (store_z xs (base + place n f i) z) f i ≡ cell_z (store_z xs (base + place n f i) z) (base + place n f i)
      at_cell = simp (lt-ltb _ _ p, lt-ltb _ _ q)

-- ---- a store to a cell is a put
module _ (a l : ℕ) (xs : List ℤ) (room : Room a l xs) (f i : ℕ) (z : ℤ) where
  pub state_put_act : f < 64 → i < a → state_of a l (store_z xs (place a f i) z) ≡ put_act_z (state_of a l xs) f i z
  unfolding state_of
  state_put_act p q =
      let y : place a f i ≡ 0 + place a f i = omega arith in
      let ys : List ℤ = store_z xs (0 + place a f i) z in
      let e : table 0 64 a ys ≡ replaced (table 0 64 a xs) f i z = table_put 0 64 a xs f i z p q (inr (omega arith)) (omega arith) in
      let k : (g j : ℕ) → table (64 * a) 16 l ys g j ≡ table (64 * a) 16 l xs g j =
      λ g j. table_same (64 * a) 16 l xs ys g j (λ s u. cell_z_other xs (0 + place a f i) (64 * a + place l g j) z (λ w. omega (arith, place_to a 64 f i (inr (omega arith)) p q))) in
      rw y λ t. record {
        act = λ g j. (ap (λ (c : ℕ → ℕ → ℤ). up (c g j)) e ∙ replaced_up (table 0 64 a xs) f i z g j) t;
        link = λ g j. up (k g j t);
        act_z = λ g j. e t g j;
        link_z = λ g j. k g j t;
      }

  -- the fields of links stand in columns
  pub state_put_link : f < 16 → i < l → state_of a l (store_z xs (64 * a + f * l + i) z) ≡ put_link_z (state_of a l xs) f i z
  unfolding state_of
  state_put_link p q =
      let y : 64 * a + f * l + i ≡ 64 * a + place l f i = omega (arith, place_before l f i (omega arith)) in
      let ys : List ℤ = store_z xs (64 * a + place l f i) z in
      let e : table (64 * a) 16 l ys ≡ replaced (table (64 * a) 16 l xs) f i z = table_put (64 * a) 16 l xs f i z p q (inl (omega arith)) room in
      let k : (g j : ℕ) → table 0 64 a ys g j ≡ table 0 64 a xs g j =
      λ g j. table_same 0 64 a xs ys g j (λ s u. cell_z_other xs (64 * a + place l f i) (0 + place a g j) z (λ w. omega (arith, place_to a 64 g j (inr (omega arith)) s u))) in
      rw y λ t. record {
        act = λ g j. up (k g j t);
        link = λ g j. (ap (λ (c : ℕ → ℕ → ℤ). up (c g j)) e ∙ replaced_up (table (64 * a) 16 l xs) f i z g j) t;
        act_z = λ g j. k g j t;
        link_z = λ g j. e t g j;
      }

-- ---- what the state reads
module _ (a l : ℕ) (xs : List ℤ) (f i : ℕ) where
  pub act_z_at : f < 64 → i < a → (state_of a l xs).act_z f i ≡ cell_z xs (place a f i)
  unfolding state_of
  act_z_at p q = let y : 0 + place a f i ≡ place a f i = omega arith in table_at 0 64 a xs f i p q ∙ ap (cell_z xs) y

  pub link_z_at : f < 16 → i < l → (state_of a l xs).link_z f i ≡ cell_z xs (64 * a + f * l + i)
  unfolding state_of
  link_z_at p q = let y : 64 * a + f * l + i ≡ 64 * a + place l f i = omega (arith, place_before l f i (omega arith)) in rw y (table_at (64 * a) 16 l xs f i p q)

  pub act_up : (state_of a l xs).act f i ≡ up ((state_of a l xs).act_z f i)
  unfolding state_of
  act_up = refl

  pub link_up : (state_of a l xs).link f i ≡ up ((state_of a l xs).link_z f i)
  unfolding state_of
  link_up = refl

  -- 0 past the last row
  pub act_z_past : a ≤ i → (state_of a l xs).act_z f i ≡ pos 0
  unfolding state_of
  act_z_past h = table_past 0 64 a xs f i h

  pub link_z_past : l ≤ i → (state_of a l xs).link_z f i ≡ pos 0
  unfolding state_of
  link_z_past h = table_past (64 * a) 16 l xs f i h

  pub act_past : a ≤ i → (state_of a l xs).act f i ≡ 0
  act_past h = act_up ∙ ap up (act_z_past h)

  pub link_past : l ≤ i → (state_of a l xs).link f i ≡ 0
  link_past h = link_up ∙ ap up (link_z_past h)

-- ---- what is read after a put; that a put to one table leaves the other is `refl`
module _ (S : State) (f i : ℕ) (z : ℤ) where
  pub act_same : (put_act_z S f i z).act f i ≡ up z
  act_same = replaced_same S.act f i (up z)

  pub act_row : (g j : ℕ) → j ≢ i → (put_act_z S f i z).act g j ≡ S.act g j
  act_row g j h = replaced_row S.act f i (up z) g j h

  pub act_field : (g : ℕ) → g ≢ f → (put_act_z S f i z).act g ≡ S.act g
  act_field g h = replaced_field S.act f i (up z) g h

  pub act_z_same : (put_act_z S f i z).act_z f i ≡ z
  act_z_same = replaced_same S.act_z f i z

  pub act_z_row : (g j : ℕ) → j ≢ i → (put_act_z S f i z).act_z g j ≡ S.act_z g j
  act_z_row g j h = replaced_row S.act_z f i z g j h

  pub act_z_field : (g : ℕ) → g ≢ f → (put_act_z S f i z).act_z g ≡ S.act_z g
  act_z_field g h = replaced_field S.act_z f i z g h

  pub link_same : (put_link_z S f i z).link f i ≡ up z
  link_same = replaced_same S.link f i (up z)

  pub link_row : (g j : ℕ) → j ≢ i → (put_link_z S f i z).link g j ≡ S.link g j
  link_row g j h = replaced_row S.link f i (up z) g j h

  pub link_field : (g : ℕ) → g ≢ f → (put_link_z S f i z).link g ≡ S.link g
  link_field g h = replaced_field S.link f i (up z) g h

  pub link_z_same : (put_link_z S f i z).link_z f i ≡ z
  link_z_same = replaced_same S.link_z f i z

  pub link_z_row : (g j : ℕ) → j ≢ i → (put_link_z S f i z).link_z g j ≡ S.link_z g j
  link_z_row g j h = replaced_row S.link_z f i z g j h

  pub link_z_field : (g : ℕ) → g ≢ f → (put_link_z S f i z).link_z g ≡ S.link_z g
  link_z_field g h = replaced_field S.link_z f i z g h

  -- the last of two puts to one cell stands, and puts to two cells go in either order
  pub put_act_twice : (w : ℤ) → put_act_z (put_act_z S f i w) f i z ≡ put_act_z S f i z
  put_act_twice w = λ t. record {
    act = replaced_twice S.act f i (up z) (up w) t;
    link = S.link;
    act_z = replaced_twice S.act_z f i z w t;
    link_z = S.link_z;
  }

  pub put_link_twice : (w : ℤ) → put_link_z (put_link_z S f i w) f i z ≡ put_link_z S f i z
  put_link_twice w = λ t. record {
    act = S.act;
    link = replaced_twice S.link f i (up z) (up w) t;
    act_z = S.act_z;
    link_z = replaced_twice S.link_z f i z w t;
  }

  module _ (g j : ℕ) (w : ℤ) where
    pub put_act_swap : (f ≡ g → i ≡ j → ⊥) → put_act_z (put_act_z S f i z) g j w ≡ put_act_z (put_act_z S g j w) f i z
    put_act_swap n = λ t. record {
      act = replaced_swap S.act f i (up z) g j (up w) n t;
      link = S.link;
      act_z = replaced_swap S.act_z f i z g j w n t;
      link_z = S.link_z;
    }

    pub put_link_swap : (f ≡ g → i ≡ j → ⊥) → put_link_z (put_link_z S f i z) g j w ≡ put_link_z (put_link_z S g j w) f i z
    put_link_swap n = λ t. record {
      act = S.act;
      link = replaced_swap S.link f i (up z) g j (up w) n t;
      act_z = S.act_z;
      link_z = replaced_swap S.link_z f i z g j w n t;
    }

-- ---- cleared memory
cell_z_zeros : (n at : ℕ) → cell_z (replicate n (pos 0)) at ≡ pos 0
unfolding cell_z
cell_z_zeros n at =
    ⊎_elim (λ (h : at < n). get_or-replicate n at (pos 0) (pos 0) h)
    (λ (h : n ≤ at). get_or-eq_default (replicate n (pos 0)) (pos 0) (rw (length-replicate n (pos 0)) h)) (lt_or_le at n)

table_zeros : (base size n m f i : ℕ) → table base size n (replicate m (pos 0)) f i ≡ pos 0
table_zeros base size n m f i = cond_same (ltb f size) _ _ (cond_same (ltb i n) _ _ (cell_z_zeros m (base + place n f i)))

pub state_zeros : (a l n : ℕ) → state_of a l (replicate n (pos 0)) ≡ zero_state
unfolding state_of
state_zeros a l n = λ t. record {
  act = λ f i. up (table_zeros 0 64 a n f i t);
  link = λ f k. up (table_zeros (64 * a) 16 l n f k t);
  act_z = λ f i. table_zeros 0 64 a n f i t;
  link_z = λ f k. table_zeros (64 * a) 16 l n f k t;
}

-- ---- a field of all rows
module _ {A : Type 0} (t : ℕ → ℕ → A) (f : ℕ) (v : A) where
  filled_row : (n j : ℕ) → j < n → filled_to t f n v f j ≡ v
  filled_row n j h = simp (eq-eqb f f refl, lt-ltb _ _ h)

  filled_past : (n g j : ℕ) → n ≤ j → filled_to t f n v g j ≡ t g j
  filled_past n g j h = cond_same (eqb g f) _ _ (simp (le-ltb _ _ h))

  filled_field : (n g : ℕ) → g ≢ f → filled_to t f n v g ≡ t g
  filled_field n g h = λ z j. at j z
    where
      at : (j : ℕ) → filled_to t f n v g j ≡ t g j
      at j = simp (ne_eqb g f h)

  filled_none : filled_to t f 0 v ≡ t
  filled_none = λ z g j. filled_past 0 g j (omega arith) z

  filled_more : (n : ℕ) → replaced (filled_to t f n v) f n v ≡ filled_to t f (n + 1) v
  filled_more n = sym (replaced_is (filled_to t f n v) f n v (filled_to t f (n + 1) v) (filled_row (n + 1) n (omega arith)) kept)
    where
      row : (j : ℕ) → j ≢ n → filled_to t f (n + 1) v f j ≡ filled_to t f n v f j
      row j o =
          ⊎_elim (λ (h : j < n). filled_row (n + 1) j (omega arith) ∙ sym (filled_row n j h))
          (λ (h : n ≤ j). filled_past (n + 1) f j (omega arith) ∙ sym (filled_past n f j h)) (lt_or_le j n)

      kept : (g j : ℕ) → (g ≡ f → j ≡ n → ⊥) → filled_to t f (n + 1) v g j ≡ filled_to t f n v g j
      kept g j m =
          ⊎_elim (λ (e : g ≡ f). rw e (row j (λ d. m e d)))
          (λ (o : g ≢ f). ap (λ (c : ℕ → A). c j) (filled_field (n + 1) g o ∙ sym (filled_field n g o))) (eq_or_ne g f)

module _ (S : State) (f v : ℕ) where
  pub fill_none : S ≡ fill_act S f 0 v
  fill_none = sym (λ t. record { act = filled_none S.act f v t; link = S.link; act_z = filled_none S.act_z f (pos v) t; link_z = S.link_z })

  -- one more row, at the code's n + 1
  pub fill_more : (n : ℕ) → put_act (fill_act S f n v) f n v ≡ fill_act S f (n + 1) v
  fill_more n = λ t. record { act = filled_more S.act f v n t; link = S.link; act_z = filled_more S.act_z f (pos v) n t; link_z = S.link_z }

  pub fill_act_lem : (n i : ℕ) → i < n → (fill_act S f n v).act f i ≡ v
  fill_act_lem n i h = filled_row S.act f v n i h

  pub fill_act_z : (n i : ℕ) → i < n → (fill_act S f n v).act_z f i ≡ pos v
  fill_act_z n i h = filled_row S.act_z f (pos v) n i h

  pub fill_act_field : (n g : ℕ) → g ≢ f → (fill_act S f n v).act g ≡ S.act g
  fill_act_field n g h = filled_field S.act f v n g h

  pub fill_act_z_field : (n g : ℕ) → g ≢ f → (fill_act S f n v).act_z g ≡ S.act_z g
  fill_act_z_field n g h = filled_field S.act_z f (pos v) n g h
