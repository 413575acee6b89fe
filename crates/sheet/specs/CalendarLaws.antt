-- Laws of the calendars' reading: its ways, one calendar at a time, and what is known of the calendars once they have ended.
use Rattle.std.specs.Prelude.{◌≡◌, Result, Ok, Err, List, length}
use Rattle.std.proofs.Math.Path.{refl, sym, ap, subst}
use Rattle.std.proofs.Common.{◌∙◌, arith, add-one}
use Rattle.std.proofs.Math.Logic.{⊎_elim}
use Rattle.std.specs.Result.{result_unwrap_or}
use Prim.Native.Nat.{ℕ, zero, suc, ◌+◌, ◌-◌, ◌*◌, ◌≤◌, ◌<◌}
use borrow.Author.Tests.{le-leb, lt-leb, eq-eqb, ne_eqb}
use Rattle.number.specs.Bytes.{byte_at}
use Rattle.number.specs.Order.{lt_or_le, eq_or_ne}
use Rattle.project.specs.Fields.{calendar_kind, header_size, calendar_size, week_size, exception_size}
use Rattle.judges.specs.declared.SheetError.{SheetError}
use Rattle.judges.specs.declared.SheetError.TheVariants.{Malformed}
use Rattle.sheet.specs.declared.CalendarsEnd.{CalendarsEnd}
use Rattle.sheet.specs.declared.runs.RecordKind.TheVariants.{Week, Exception}
use Rattle.sheet.specs.Reading.{run_of, calendar_end, calendars_from}
use Rattle.judges.specs.Judging.{judge_calendar}
use Rattle.sheet.specs.Places.{week_count, exceptions_at, exception_count, next_calendar, calendar_at, week_at}
use Rattle.sheet.specs.Known.{CalendarRead}
use Rattle.sheet.specs.RunLaws.{never_ok, which, run_counted}
use Rattle.sheet.specs.JudgeLaws.{calendar_stands}
use Rattle.sheet.specs.ValidLaws.{weekdays, week_few, exceptions_few, read_valid}

-- ---- where a calendar's records end
module _ (s : List ℕ) (at : ℕ) where
  pub end_weeks : (x : SheetError) → run_of s Week (at + calendar_size) ≡ Err x → calendar_end s at ≡ Err x
  unfolding calendar_end
  end_weeks x h = rw (h, calendar_end)

  module _ (w : ℕ) (h : run_of s Week (at + calendar_size) ≡ Ok w) where
    pub end_exceptions : (x : SheetError) → run_of s Exception (at + calendar_size + week_size * w) ≡ Err x → calendar_end s at ≡ Err x
    unfolding calendar_end
    end_exceptions x k = rw (h, k, calendar_end)

    pub end_count : (e : ℕ) → run_of s Exception (at + calendar_size + week_size * w) ≡ Ok e → calendar_end s at ≡ Ok (at + calendar_size + week_size * w + exception_size * e)
    unfolding calendar_end
    end_count e k = rw (h, k, calendar_end)

-- ---- the ways of one calendar
module _ (s : List ℕ) (f k at : ℕ) where
  way_end : (byte_at s at ≡ calendar_kind → ⊥) → calendars_from s (suc f) k at ≡ Ok (record { count = k; at = at })
  unfolding calendars_from
  way_end h = rw (ne_eqb (byte_at s at) calendar_kind h, calendars_from)

  module _ (h : byte_at s at ≡ calendar_kind) where
    way_cut : length s < at + calendar_size → calendars_from s (suc f) k at ≡ Err Malformed
    unfolding calendars_from
    way_cut l = rw (eq-eqb (byte_at s at) calendar_kind h, lt-leb (at + calendar_size) (length s) l, calendars_from)

    module _ (l : at + calendar_size ≤ length s) where
      way_refused : (x : SheetError) → judge_calendar s at k ≡ Err x → calendars_from s (suc f) k at ≡ Err x
      unfolding calendars_from
      way_refused x j = rw (eq-eqb (byte_at s at) calendar_kind h, le-leb (at + calendar_size) (length s) l, j, calendars_from)

      module _ (j : judge_calendar s at k ≡ Ok tt) where
        way_stop : (x : SheetError) → calendar_end s at ≡ Err x → calendars_from s (suc f) k at ≡ Err x
        unfolding calendars_from
        way_stop x e = rw (eq-eqb (byte_at s at) calendar_kind h, le-leb (at + calendar_size) (length s) l, j, e, calendars_from)

        way_more : (n : ℕ) → calendar_end s at ≡ Ok n → calendars_from s (suc f) k at ≡ calendars_from s f (suc k) n
        unfolding calendars_from
        way_more n e = rw (eq-eqb (byte_at s at) calendar_kind h, le-leb (at + calendar_size) (length s) l, j, e, calendars_from)

-- ---- what remains from calendar k on; a calendar takes a byte at least, so k is at most the sheet's length
abbrev pub remaining : List ℕ → ℕ → ℕ → Result CalendarsEnd SheetError
remaining s k at = calendars_from s (suc (length s) - k) k at

pub remaining_all : (s : List ℕ) (at : ℕ) → remaining s 0 at ≡ calendars_from s (suc (length s)) 0 at
remaining_all s at = let e : suc (length s) - 0 ≡ suc (length s) = omega arith in rw e

module _ (s : List ℕ) (k at : ℕ) (short : k ≤ length s) where
  fuel : suc (length s) - k ≡ suc (length s - k)
  fuel = omega arith

  pub calendars_end : (byte_at s at ≡ calendar_kind → ⊥) → remaining s k at ≡ Ok (record { count = k; at = at })
  calendars_end h = rw fuel (way_end s (length s - k) k at h)

  module _ (h : byte_at s at ≡ calendar_kind) where
    pub calendars_cut : length s < at + calendar_size → remaining s k at ≡ Err Malformed
    calendars_cut l = rw fuel (way_cut s (length s - k) k at h l)

    module _ (l : at + calendar_size ≤ length s) where
      pub calendars_refused : (x : SheetError) → judge_calendar s at k ≡ Err x → remaining s k at ≡ Err x
      calendars_refused x j = rw fuel (way_refused s (length s - k) k at h l x j)

      module _ (j : judge_calendar s at k ≡ Ok tt) where
        pub calendars_stop : (x : SheetError) → calendar_end s at ≡ Err x → remaining s k at ≡ Err x
        calendars_stop x e = rw fuel (way_stop s (length s - k) k at h l j x e)

        pub calendars_more : (n : ℕ) → calendar_end s at ≡ Ok n → remaining s k at ≡ remaining s (k + 1) n
        calendars_more n e =
            let d : suc (length s) - suc k ≡ length s - k = omega arith in
            rw (add-one k, fuel, d) (way_more s (length s - k) k at h l j n e)

-- ---- what is known of a calendar whose records have been counted
module _ (s : List ℕ) (at k : ℕ) (kind : byte_at s at ≡ calendar_kind) (within : at + calendar_size ≤ length s) (judge : judge_calendar s at k ≡ Ok tt) where
  module _ (w e : ℕ) (weeks : run_of s Week (at + calendar_size) ≡ Ok w) (exceptions : run_of s Exception (at + calendar_size + week_size * w) ≡ Ok e) where
    week_count_lem : week_count s at ≡ w
    unfolding week_count
    week_count_lem = ap (λ (r : Result ℕ SheetError). result_unwrap_or r 0) weeks

    exceptions_at_lem : exceptions_at s at ≡ at + calendar_size + week_size * w
    unfolding exceptions_at
    exceptions_at_lem = rw week_count_lem

    exception_count_lem : exception_count s at ≡ e
    unfolding exception_count
    exception_count_lem = rw exceptions_at_lem (ap (λ (r : Result ℕ SheetError). result_unwrap_or r 0) exceptions)

    next_at : next_calendar s at ≡ at + calendar_size + week_size * w + exception_size * e
    unfolding next_calendar
    next_at = rw (exceptions_at_lem, exception_count_lem)

    read : CalendarRead s at
    unfolding week_at
    read =
        let p = run_counted s Week (at + calendar_size) w within weeks in
        let q = run_counted s Exception (at + calendar_size + week_size * w) e p.within exceptions in
        record {
          kind = kind;
          within = within;
          fields = (calendar_stands s at k judge).1;
          weeks = rw week_count_lem weeks;
          exceptions = rw (exceptions_at_lem, exception_count_lem) exceptions;
          weeks_within = rw week_count_lem p.within;
          weekdays = rw week_count_lem (weekdays s (at + calendar_size) w p);
          weeks_few = rw week_count_lem (week_few s (at + calendar_size) w p);
          exceptions_few = rw exception_count_lem (exceptions_few s (at + calendar_size + week_size * w) e q);
          valid = rw (week_count_lem, exceptions_at_lem, exception_count_lem) (read_valid s (at + calendar_size) w (at + calendar_size + week_size * w) e p q);
        }

    next_within : next_calendar s at ≤ length s
    next_within =
        let p = run_counted s Week (at + calendar_size) w within weeks in
        rw next_at (run_counted s Exception (at + calendar_size + week_size * w) e p.within exceptions).within

    ends_at : (n : ℕ) → calendar_end s at ≡ Ok n → next_calendar s at ≡ n
    ends_at n x = let y : Ok n ≡ Ok (at + calendar_size + week_size * w + exception_size * e) = sym x ∙ end_count s at w weeks e exceptions in let z : n ≡ at + calendar_size + week_size * w + exception_size * e = cc in next_at ∙ sym z

  pub end_known : (n : ℕ) → calendar_end s at ≡ Ok n → CalendarRead s at × (next_calendar s at ≡ n) × (n ≤ length s)
  end_known n x =
      ⊎_elim
      (λ p.
      let w = p.0 in
      ⊎_elim
      (λ q. let e = q.0 in let y = ends_at w e p.1 q.1 n x in (read w e p.1 q.1, y, rw y at (next_within w e p.1 q.1)))
      (λ q. absurd (never_ok (sym (end_exceptions s at w p.1 q.0 q.1) ∙ x))) (which (run_of s Exception (at + calendar_size + week_size * w))))
      (λ p. absurd (never_ok (sym (end_weeks s at p.0 p.1) ∙ x))) (which (run_of s Week (at + calendar_size)))

-- ---- the calendars' end
module _ (s : List ℕ) where
  -- of calendar k, which begins at `at`, and those after it
  abbrev pub Rest : ℕ → ℕ → ℕ → Type 0
  Rest k n end =
      (k ≤ n) × (n ≤ 15) × (calendar_at s n ≡ end) × (end ≤ length s) × ((j : ℕ) → k ≤ j → j < n → CalendarRead s (calendar_at s j))

  rest_more : (k n end : ℕ) → CalendarRead s (calendar_at s k) → Rest (suc k) n end → Rest k n end
  rest_more k n end c (a, b, d, e, all) =
      (omega arith, b, d, e, λ j x y. ⊎_elim (λ q. all j q y) (λ q. let z : k ≡ j = omega arith in rw z at c) (lt_or_le k j))

  rest_end : (k at n end : ℕ) → k ≡ n → at ≡ end → calendar_at s k ≡ at → at ≤ length s → k ≤ 15 → Rest k n end
  rest_end k at n end a b p w m = (omega arith, omega arith, ap (calendar_at s) (sym a) ∙ p ∙ b, omega arith, λ j x y. absurd (omega arith))

  next_place : (k : ℕ) → calendar_at s (suc k) ≡ next_calendar s (calendar_at s k)
  unfolding calendar_at
  next_place k = refl

  ended : (f k at : ℕ) (c : CalendarsEnd) → calendar_at s k ≡ at → at ≤ length s → k ≤ 15 → calendars_from s f k at ≡ Ok c → Rest k c.count c.at
  unfolding calendars_from
  ended zero k at c p w m x = absurd (never_ok x)
  ended (suc f) k at c p w m x =
      ⊎_elim
      (λ h.
      ⊎_elim (λ l. absurd (never_ok (sym (way_cut s f k at h l) ∙ x)))
      (λ l.
      ⊎_elim
      (λ g.
      ⊎_elim
      (λ q.
      let z = end_known s at k h l g.1 q.0 q.1 in
      rest_more k c.count c.at (rw p z.0)
      (ended f (suc k) q.0 c (next_place k ∙ ap (next_calendar s) p ∙ z.1) z.2 (omega (arith, (calendar_stands s at k g.1).0))
      (sym (way_more s f k at h l g.1 q.0 q.1) ∙ x)))
      (λ q. absurd (never_ok (sym (way_stop s f k at h l g.1 q.0 q.1) ∙ x))) (which (calendar_end s at)))
      (λ g. absurd (never_ok (sym (way_refused s f k at h l g.0 g.1) ∙ x))) (which (judge_calendar s at k)))
      (lt_or_le (length s) (at + calendar_size)))
      (λ h.
      let y : Ok (record { count = k; at = at }) ≡ Ok c = sym (way_end s f k at h) ∙ x in
      let d : record { count = k; at = at } ≡ c = cc in
      subst (λ (d : CalendarsEnd). Rest k d.count d.at) d (rest_end k at k at refl refl p w m))
      (eq_or_ne (byte_at s at) calendar_kind)

  first_place : calendar_at s 0 ≡ header_size
  unfolding calendar_at
  first_place = refl

  -- the calendars of the sheet, read from the end of its header on
  pub calendars_known : (f : ℕ) (c : CalendarsEnd) → header_size ≤ length s → calendars_from s f 0 header_size ≡ Ok c → Rest 0 c.count c.at
  calendars_known f c w x = ended f 0 header_size c first_place w (omega arith) x
