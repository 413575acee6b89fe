-- A run of records as the loop over it goes: what the loop keeps, and each of its ways.
use Rattle.std.specs.Prelude.{◌≡◌, Ok, Err, List, ℕ, suc, ◌+◌, ◌*◌, ◌≤◌, ◌<◌, length}
use Rattle.std.proofs.Common.{sym, ap, ◌∙◌, ⊎_elim, arith, mul-le-mul_left, mul-suc, add-one}
use Rattle.number.specs.Bytes.{byte_at}
use Rattle.number.specs.Order.{lt_or_le}
use Rattle.judges.specs.declared.SheetError.{SheetError}
use Rattle.judges.specs.declared.SheetError.TheVariants.{Malformed}
use Rattle.sheet.specs.declared.runs.RecordKind.{RecordKind}
use Rattle.sheet.specs.Kinds.{byte_of, size_of, judge_of}
use Rattle.sheet.specs.Reading.{run_of}
use Rattle.sheet.specs.RunLaws.{Counted, run_counted, rest, rest_all, run_end, run_cut, run_refused, run_more}

-- the place of the next record
pub next_record : (at size i : ℕ) → at + size * i + size ≡ at + size * suc i
next_record at size i = rw mul-suc (omega arith)

-- the loop stands at record i, whose place is p
pub record Here (s : List ℕ) (kind : RecordKind) (at p i : ℕ) : Type 0 where
  pub place : p ≡ at + size_of kind * i
  pub within : p ≤ length s
  pub short : i ≤ p
  pub whole : rest s kind at i ≡ run_of s kind at

pub here_start : (s : List ℕ) (kind : RecordKind) (at : ℕ) → at ≤ length s → Here s kind at at 0
here_start s kind at l = record { place = omega arith; within = l; short = omega arith; whole = rest_all s kind at }

module _ (s : List ℕ) (kind : RecordKind) (at p i : ℕ) (here : Here s kind at p i) where
  few : i ≤ length s
  few = omega (arith, here.within, here.short)

  -- the bytes by the place
  byte : byte_at s p ≡ byte_at s (at + size_of kind * i)
  byte = ap (byte_at s) here.place

  next : p + size_of kind ≡ at + size_of kind * suc i
  next = ap (λ (q : ℕ). q + size_of kind) here.place ∙ next_record at (size_of kind) i

  pub here_end : (byte_at s p ≡ byte_of kind → ⊥) → Ok i ≡ run_of s kind at
  here_end h = sym (run_end s kind at i few (λ e. h (byte ∙ e))) ∙ here.whole

  module _ (kinds : byte_at s p ≡ byte_of kind) where
    pub here_cut : length s < p + size_of kind → Err Malformed ≡ run_of s kind at
    here_cut l = sym (run_cut s kind at i few (sym byte ∙ kinds) (rw next at l)) ∙ here.whole

    module _ (l : p + size_of kind ≤ length s) where
      pub here_refused : (e : SheetError) → judge_of kind s at i ≡ Err e → Err e ≡ run_of s kind at
      here_refused e j = sym (run_refused s kind at i few (sym byte ∙ kinds) (rw next at l) e j) ∙ here.whole

      pub here_more : 0 < size_of kind → (u : Unit {0}) → judge_of kind s at i ≡ Ok u → Here s kind at (p + size_of kind) (i + 1)
      here_more o u j =
          record {
            place = rw (add-one i) next;
            within = l;
            short = omega (arith, here.short);
            whole = sym (run_more s kind at i few (sym byte ∙ kinds) (rw next at l) j) ∙ here.whole;
          }

-- ---- counting a run that was read before
module _ (s : List ℕ) (kind : RecordKind) (at n : ℕ) (short : at ≤ length s) (counts : run_of s kind at ≡ Ok n) where
  counted : Counted s kind at n
  counted = run_counted s kind at n short counts

  -- i records of the kind stand there in a row, and none after them that is whole
  pub counted_is : (i : ℕ) → ((k : ℕ) → k < i → byte_at s (at + size_of kind * k) ≡ byte_of kind) → (at + size_of kind * i + size_of kind ≤ length s → byte_at s (at + size_of kind * i) ≡ byte_of kind → ⊥) → i ≡ n
  counted_is i all none =
      ⊎_elim
      (λ l.
      let m : size_of kind * suc i ≤ size_of kind * n = mul-le-mul_left (size_of kind) l in
      absurd (none (omega (arith, next_record at (size_of kind) i, counted.within)) (counted.kinds i l)))
      (λ l. ⊎_elim (λ h. absurd (counted.end (all n h))) (λ h. omega arith) (lt_or_le n i)) (lt_or_le i n)
