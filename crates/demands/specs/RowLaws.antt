-- Where the fields of an activity stand among the results.
use Rattle.std.specs.Prelude.{◌≡◌, false, List, ◌++◌, ℤ, pos, get_or}
use Rattle.std.proofs.Math.Path.{refl}
use Rattle.std.proofs.Common.{◌∙◌, get_or-append-add}
use Rattle.std.proofs.Math.Logic.{⊎_elim}
use Prim.Native.Nat.{ℕ, zero, suc, ◌+◌, ◌*◌, ◌≤◌, ◌<◌}
use native.Mathlib.Omega.{arith}
use Rattle.std.proofs.Math.ListN.{length, length-append, get_or-append}
use Rattle.number.specs.Order.{lt_or_le}
use Rattle.date.specs.Days.{signed_minute}
use Rattle.worktime.specs.Reads.{on_false}
use Rattle.order.specs.Plan.{Plan}
use Rattle.order.specs.Ids.{summary}
use Rattle.passes.specs.Run.{Ran}
use Rattle.results.specs.declared.Shown.{Shown}
use Rattle.results.specs.Rows.{minute_of, row_of, rows_below}

module _ (p : Plan) (r : Ran) (f : ℕ → Shown) where
  row_length : (i : ℕ) → length (row_of p r f i) ≡ 15
  unfolding row_of
  row_length i = refl

  pub rows_length : (n : ℕ) → length (rows_below p r f n) ≡ 15 * n
  unfolding rows_below
  rows_length zero = refl
  rows_length (suc n) = omega (arith, length-append (rows_below p r f n) (row_of p r f n), rows_length n, row_length n)

  -- field j of activity i
  pub rows_at : (n i j : ℕ) → i < n → j < 15 → get_or (rows_below p r f n) (15 * i + j) (pos 0) ≡ get_or (row_of p r f i) j (pos 0)
  unfolding rows_below
  rows_at zero i j l h = absurd (omega arith)
  rows_at (suc n) i j l h =
      ⊎_elim
      (λ (m : i < n).
      get_or-append (rows_below p r f n) (row_of p r f n) (pos 0) (15 * i + j) (omega (arith, rows_length n)) ∙ rows_at n i j m h)
      (λ (m : n ≤ i).
      let e : i ≡ n = omega arith in
      let d : 15 * i + j ≡ length (rows_below p r f n) + j = omega (arith, rows_length n) in
      rw (d, e) (get_or-append-add (rows_below p r f n) (row_of p r f n) j (pos 0))) (lt_or_le i n)

  row_start : (i : ℕ) → get_or (row_of p r f i) 13 (pos 0) ≡ minute_of p r f i (r.early.es i)
  unfolding row_of
  row_start i = refl

  -- the early start minute, whatever follows the rows
  pub start_shown : (rest : List ℤ) (n i : ℕ) → i < n → summary p i ≡ false
      → get_or (rows_below p r f n ++ rest) (15 * i + 13) (pos 0) ≡ signed_minute (r.early.es i)
  unfolding minute_of
  start_shown rest n i l z =
      get_or-append (rows_below p r f n) rest (pos 0) (15 * i + 13) (omega (arith, rows_length n)) ∙ rows_at n i 13 l (omega arith) ∙ row_start i
      ∙ on_false (summary p i) (pos 0) (signed_minute (r.early.es i)) z
