-- Laws of a run of records: its ways, one record at a time, and what is known of the records once they are counted.
use Rattle.std.specs.Prelude.{◌≡◌, ◌⊎◌, Result, Ok, Err, List, length}
use Rattle.std.proofs.Math.Path.{refl, sym}
use Rattle.std.proofs.Common.{◌∙◌, inl, inr, arith, add-one}
use Rattle.std.proofs.Math.Logic.{⊎_elim}
use Prim.Native.Nat.{ℕ, zero, suc, ◌+◌, ◌-◌, ◌*◌, ◌≤◌, ◌<◌}
use borrow.Author.Tests.{le-leb, lt-leb, eq-eqb, ne_eqb}
use Rattle.number.specs.Bytes.{byte_at}
use Rattle.number.specs.Order.{lt_or_le, eq_or_ne}
use Rattle.judges.specs.declared.SheetError.{SheetError}
use Rattle.judges.specs.declared.SheetError.TheVariants.{Malformed}
use Rattle.sheet.specs.declared.runs.RecordKind.{RecordKind}
use Rattle.sheet.specs.Kinds.{byte_of, size_of, judge_of}
use Rattle.sheet.specs.Reading.{run, run_of}

-- ---- a value or a refusal
pub never_ok : {A : Type 0} {e : SheetError} {x : A} → Err e ≡ Ok x → ⊥
never_ok q = let z : ◌≡◌ {A = ℕ} 0 1 = cc in omega arith

pub which : {A : Type 0} (r : Result A SheetError) → ((x : A) × (r ≡ Ok x)) ⊎ ((e : SheetError) × (r ≡ Err e))
which (Ok x) = inl (x, refl)
which (Err e) = inr (e, refl)

-- what is known of a run of n records: each has its kind, lies within the sheet and may stand, and no other follows
pub record Counted (s : List ℕ) (kind : RecordKind) (at n : ℕ) : Type 0 where
  pub within : at + size_of kind * n ≤ length s
  pub kinds : (i : ℕ) → i < n → byte_at s (at + size_of kind * i) ≡ byte_of kind
  pub stands : (i : ℕ) → i < n → judge_of kind s at i ≡ Ok tt
  pub end : byte_at s (at + size_of kind * n) ≡ byte_of kind → ⊥

module _ (s : List ℕ) (kind : RecordKind) (at : ℕ) where
  -- ---- the ways of one record
  module _ (f i : ℕ) where
    way_end : (byte_at s (at + size_of kind * i) ≡ byte_of kind → ⊥) → run s kind at (suc f) i ≡ Ok i
    unfolding run
    way_end h = rw (ne_eqb (byte_at s (at + size_of kind * i)) (byte_of kind) h, run)

    module _ (h : byte_at s (at + size_of kind * i) ≡ byte_of kind) where
      way_cut : length s < at + size_of kind * suc i → run s kind at (suc f) i ≡ Err Malformed
      unfolding run
      way_cut k = rw (eq-eqb (byte_at s (at + size_of kind * i)) (byte_of kind) h, lt-leb (at + size_of kind * suc i) (length s) k, run)

      module _ (k : at + size_of kind * suc i ≤ length s) where
        way_refused : (e : SheetError) → judge_of kind s at i ≡ Err e → run s kind at (suc f) i ≡ Err e
        unfolding run
        way_refused e j = rw (eq-eqb (byte_at s (at + size_of kind * i)) (byte_of kind) h, le-leb (at + size_of kind * suc i) (length s) k, j, run)

        way_more : judge_of kind s at i ≡ Ok tt → run s kind at (suc f) i ≡ run s kind at f (suc i)
        unfolding run
        way_more j = rw (eq-eqb (byte_at s (at + size_of kind * i)) (byte_of kind) h, le-leb (at + size_of kind * suc i) (length s) k, j, run)

  -- ---- what remains of the run from record i on; a record takes a byte at least, so i is at most the sheet's length
  abbrev pub rest : ℕ → Result ℕ SheetError
  rest i = run s kind at (suc (length s) - i) i

  pub rest_all : rest 0 ≡ run_of s kind at
  unfolding run_of
  rest_all = let e : suc (length s) - 0 ≡ suc (length s) = omega arith in rw e

  module _ (i : ℕ) (short : i ≤ length s) where
    fuel : suc (length s) - i ≡ suc (length s - i)
    fuel = omega arith

    pub run_end : (byte_at s (at + size_of kind * i) ≡ byte_of kind → ⊥) → rest i ≡ Ok i
    run_end h = rw fuel (way_end (length s - i) i h)

    module _ (h : byte_at s (at + size_of kind * i) ≡ byte_of kind) where
      pub run_cut : length s < at + size_of kind * suc i → rest i ≡ Err Malformed
      run_cut k = rw fuel (way_cut (length s - i) i h k)

      pub run_refused : at + size_of kind * suc i ≤ length s → (e : SheetError) → judge_of kind s at i ≡ Err e → rest i ≡ Err e
      run_refused k e j = rw fuel (way_refused (length s - i) i h k e j)

      pub run_more : at + size_of kind * suc i ≤ length s → judge_of kind s at i ≡ Ok tt → rest i ≡ rest (i + 1)
      run_more k j =
          let e : suc (length s) - suc i ≡ length s - i = omega arith in
          rw (add-one i, fuel, e) (way_more (length s - i) i h k j)

  -- ---- a count
  -- the same of the records from i on
  abbrev From : ℕ → ℕ → Type 0
  From i n =
      (at + size_of kind * n ≤ length s) × (i ≤ n) × ((j : ℕ) → i ≤ j → j < n → (byte_at s (at + size_of kind * j) ≡ byte_of kind) × (judge_of kind s at j ≡ Ok tt))
      × (byte_at s (at + size_of kind * n) ≡ byte_of kind → ⊥)

  from_more : (i n : ℕ) → byte_at s (at + size_of kind * i) ≡ byte_of kind → judge_of kind s at i ≡ Ok tt → From (suc i) n → From i n
  from_more i n h g (w, l, all, e) =
      (w, omega arith, λ j x y. ⊎_elim (λ q. rw (← q) (h, g)) (λ q. all j (omega (arith, q)) y) (same_or_more j x), e)
    where
      same_or_more : (j : ℕ) → i ≤ j → (i ≡ j) ⊎ (suc i ≤ j)
      same_or_more j x = ⊎_elim (λ q. inr q) (λ q. inl (omega arith)) (lt_or_le i j)

  from_end : (i : ℕ) → at + size_of kind * i ≤ length s → (byte_at s (at + size_of kind * i) ≡ byte_of kind → ⊥) → From i i
  from_end i w h = (w, omega arith, λ j x y. absurd (omega arith), h)

  counts : (f i n : ℕ) → at + size_of kind * i ≤ length s → run s kind at f i ≡ Ok n → From i n
  unfolding run
  counts zero i n w e = absurd (never_ok e)
  counts (suc f) i n w e =
      ⊎_elim
      (λ h. ⊎_elim (λ l. absurd (never_ok (sym (way_cut f i h l) ∙ e)))
      (λ l. ⊎_elim (λ g. from_more i n h g.1 (counts f (suc i) n l (sym (way_more f i h l g.1) ∙ e)))
      (λ g. absurd (never_ok (sym (way_refused f i h l g.0 g.1) ∙ e))) (which (judge_of kind s at i))) (lt_or_le (length s) (at + size_of kind * suc i)))
      (λ h. let d : Ok i ≡ Ok n = sym (way_end f i h) ∙ e in let q : i ≡ n = cc in rw (← q) (from_end i w h))
      (eq_or_ne (byte_at s (at + size_of kind * i)) (byte_of kind))

  pub run_counted : (n : ℕ) → at ≤ length s → run_of s kind at ≡ Ok n → Counted s kind at n
  unfolding run_of
  run_counted n w e =
      let k : From 0 n = counts (suc (length s)) 0 n (omega arith) e in
      record { within = k.0; kinds = λ i l. (k.2 i (omega arith) l).0; stands = λ i l. (k.2 i (omega arith) l).1; end = k.3 }
