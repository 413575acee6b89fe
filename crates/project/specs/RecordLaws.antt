-- A record whose test holds has values in range, in a sheet of bytes.
use Rattle.std.proofs.Math.Path.{◌≡◌, subst}
use Rattle.std.specs.Prelude.{refl, Bool, true, false, ◌&&◌, ◌||◌, List, ◌⊎◌, ℕ, ◌+◌, ◌≤◌, ◌<◌, leb, ltb, pos, Option, Some, None}
use Rattle.std.proofs.Common.{sym, ap, ◌∙◌, true≢false, arith}
use Rattle.std.proofs.Math.Logic.{inl, inr, ⊎_elim}
use borrow.Author.Tests.{leb-true, eqb-true, eqb-false, not-true, ne_eqb}
use Rattle.std.proofs.Math.Dec.{eqb}
use Rattle.number.specs.Tests.{and_both, or_either}
use Rattle.number.specs.ZedLaws.{apart}
use Rattle.number.specs.Bytes.{byte_at, u16_at, u32_at, signed32, i32_at, biased_at}
use Rattle.number.specs.BytesLaws.{u32_below, i32_biased}
use Rattle.date.specs.declared.Date.{Date}
use Rattle.date.specs.Days.{biased}
use Rattle.date.specs.Years.{in_years, years_within}
use Rattle.project.specs.declared.Constraint.{Constraint}
use Rattle.project.specs.declared.End.{End}
use Rattle.project.specs.declared.End.TheVariants.{Start, Finish}
use Rattle.project.specs.Fields.{day_ok, day_or_absent, header_ok, calendar_ok, constraint_ok, activity_ok}
use Rattle.project.specs.Records.{pick, date_at, optional_date_at, activity_kind_of, constraint_of, activity_at, project_at, day_length_at}
use Rattle.project.specs.Status.{is_milestone, on_start}
use Rattle.project.specs.Ranges.{DayInRange, OptionalInRange, ConstraintInRange, ActivityInRange, ProjectInRange}

-- "day length in minutes, u16, 0 to 1,440"
pub day_length_in : (s : List ℕ) (at : ℕ) → calendar_ok s at ≡ true → day_length_at s at ≤ 1440
unfolding calendar_ok
day_length_in s at e = leb-true (u16_at s (at + 1)) 1440 e

-- the number of a day in range, counted from the first that an i32 can name
pub day_ok_in : (d : ℕ) → day_ok d ≡ true → (2147348508 ≤ d) × (d ≤ 2147859847)
unfolding day_ok
day_ok_in d e =
    let (a, b) = and_both (leb 2147348508 d) (leb d 2147859847) e in
    (leb-true 2147348508 d a, leb-true d 2147859847 b)

module _ (d : Date) (r : DayInRange d) where
  pub biased_in : (2147348508 ≤ biased d.0) × (biased d.0 ≤ 2147859847)
  biased_in = (omega arith, omega arith)

  -- a clock reads such a day
  pub day_in_years : in_years (biased d.0) ≡ true
  day_in_years = years_within (biased d.0) (omega arith) (omega arith)

-- ---- what a code's value says
pub milestone_code : (n : ℕ) → is_milestone (activity_kind_of n) ≡ true → eqb n 0 ≡ true → ⊥
unfolding is_milestone activity_kind_of
milestone_code n m e = true≢false (sym m ∙ rw e)

-- the day of an end, or another where it has none
abbrev day_or : Date → Option End → Date
day_or d (Some (Start e)) = e
day_or d (Some (Finish e)) = e
day_or d None = d

OwnDay : Date → Option Constraint → Type 0
OwnDay d c = day_or d (on_start c) ≡ d

either : (d : Date) (b : Bool) (x y : Option Constraint) → OwnDay d x → OwnDay d y → OwnDay d (pick b x y)
either d true x y p q = p
either d false x y p q = q

own_day : (n : ℕ) (d : Date) → OwnDay d (constraint_of n d)
unfolding constraint_of on_start OwnDay
own_day n d =
    either d (eqb n 0) _ _ refl
    (either d (eqb n 1) _ _ refl
    (either d (eqb n 2) _ _ refl
    (either d (eqb n 3) _ _ refl
    (either d (eqb n 4) _ _ refl
    (either d (eqb n 5) _ _ refl
    (either d (eqb n 6) _ _ refl (either d (eqb n 7) _ _ refl (either d (eqb n 8) _ _ refl refl))))))))

-- a constraint bounds an end on the day that it holds
pub start_day : (n : ℕ) (d e : Date) → on_start (constraint_of n d) ≡ Some (Start e) → d ≡ e
unfolding OwnDay
start_day n d e h = sym (own_day n d) ∙ ap (day_or d) h

pub finish_day_lem : (n : ℕ) (d e : Date) → on_start (constraint_of n d) ≡ Some (Finish e) → d ≡ e
unfolding OwnDay
finish_day_lem n d e h = sym (own_day n d) ∙ ap (day_or d) h

-- the codes 0 and 9 bound neither end
pub neither_end : (n : ℕ) (d : Date) → (n ≡ 0) ⊎ (n ≡ 9) → on_start (constraint_of n d) ≡ None
unfolding constraint_of on_start
neither_end n d (inl e) = rw e
neither_end n d (inr e) = rw e

-- ---- a sheet of bytes
module _ (s : List ℕ) (bytes : (i : ℕ) → byte_at s i < 256) where
  -- a day's two readings agree
  pub date_biased : (at : ℕ) → biased (date_at s at).0 ≡ biased_at s at
  date_biased at = omega (arith, i32_biased s at (u32_below s at bytes))

  pub date_in : (at : ℕ) → day_ok (biased_at s at) ≡ true → DayInRange (date_at s at)
  date_in at e =
      let (l, h) = day_ok_in (biased_at s at) e in
      let z = i32_biased s at (u32_below s at bytes) in
      ⊎_elim (λ a. record { low = omega arith; high = omega arith }) (λ a. record { low = omega arith; high = omega arith }) (apart (i32_at s at))

  pub optional_in : (at : ℕ) → day_or_absent (biased_at s at) ≡ true → OptionalInRange (optional_date_at s at)
  unfolding day_or_absent optional_date_at
  optional_in at e d h =
      ⊎_elim (λ z. let h' : None ≡ Some d = rw z at h in let never : ◌≡◌ {A = ℕ} 0 1 = cc in absurd (omega arith))
      (λ k.
      let l = day_ok_in (biased_at s at) k in
      let h' : Some (date_at s at) ≡ Some d = rw (ne_eqb (biased_at s at) 0 (λ z. omega arith)) at h in
      let same : date_at s at ≡ d = cc in
      subst DayInRange same (date_in at k))
      (or_either (eqb (biased_at s at) 0) (day_ok (biased_at s at)) e)

  pub constraint_in : (at day : ℕ) → at + 1 ≡ day → constraint_ok s at ≡ true → ConstraintInRange (constraint_of (byte_at s at) (date_at s day))
  unfolding constraint_ok
  constraint_in at day next e =
      ⊎_elim
      (λ z.
      let unread = ⊎_elim (λ a. inl (eqb-true (byte_at s at) 0 a)) (λ a. inr (eqb-true (byte_at s at) 9 a)) (or_either (eqb (byte_at s at) 0) (eqb (byte_at s at) 9) z) in
      let free = neither_end (byte_at s at) (date_at s day) unread in
      record {
        start = λ d h. let never : ◌≡◌ {A = ℕ} 0 1 = cc in absurd (omega arith);
        finish = λ d h. let never : ◌≡◌ {A = ℕ} 0 1 = cc in absurd (omega arith);
      })
      (λ k.
      let in_range = date_in day (rw next at (and_both (ltb (byte_at s at) 9) (day_ok (biased_at s (at + 1))) k).1) in
      record {
        start = λ d h. subst DayInRange (start_day (byte_at s at) (date_at s day) d h) in_range;
        finish = λ d h. subst DayInRange (finish_day_lem (byte_at s at) (date_at s day) d h) in_range;
      })
      (or_either (eqb (byte_at s at) 0 || eqb (byte_at s at) 9) (ltb (byte_at s at) 9 && day_ok (biased_at s (at + 1))) e)

  -- minutes that read 0 are 0
  zero_minutes : (at : ℕ) → eqb (u32_at s at) 0 ≡ true → i32_at s at ≡ pos 0
  unfolding i32_at signed32
  zero_minutes at e = rw (eqb-true (u32_at s at) 0 e)

  pub activity_in : (at : ℕ) → activity_ok s at ≡ true → ActivityInRange (activity_at s at)
  unfolding activity_ok activity_at
  activity_in at e =
      let (e7, levelled) = and_both _ (day_or_absent (biased_at s (at + 41))) e in
      let (e6, second) = and_both _ (constraint_ok s (at + 36)) e7 in
      let (e5, first) = and_both _ (constraint_ok s (at + 31)) e6 in
      let (e4, expected) = and_both _ (day_or_absent (biased_at s (at + 27))) e5 in
      let (e3, finish) = and_both _ (day_or_absent (biased_at s (at + 19))) e4 in
      let (e2, start) = and_both _ (day_or_absent (biased_at s (at + 15))) e3 in
      let (e1, minutes) = and_both _ (eqb (byte_at s (at + 5)) 0 || eqb (u32_at s (at + 11)) 0) e2 in
      let (id, kind) = and_both _ (leb (byte_at s (at + 5)) 2) e1 in
      record {
        named = eqb-false (u32_at s (at + 1)) 0 (not-true (eqb (u32_at s (at + 1)) 0) id);
        moment = λ m.
            ⊎_elim (λ z. absurd (milestone_code (byte_at s (at + 5)) m z)) (zero_minutes (at + 11)) (or_either (eqb (byte_at s (at + 5)) 0) (eqb (u32_at s (at + 11)) 0) minutes);
        actual_start = optional_in (at + 15) start;
        actual_finish = optional_in (at + 19) finish;
        expected_finish = optional_in (at + 27) expected;
        constraint = constraint_in (at + 31) (at + 32) (omega arith) first;
        secondary_constraint = constraint_in (at + 36) (at + 37) (omega arith) second;
        levelled = optional_in (at + 41) levelled;
      }

  pub project_in : (at : ℕ) → header_ok s at ≡ true → ProjectInRange (project_at s at)
  unfolding header_ok project_at
  project_in at e =
      let (e5, critical) = and_both _ (leb (byte_at s (at + 16)) 1) e in
      let (e4, mode) = and_both _ (leb (byte_at s (at + 15)) 1) e5 in
      let (e3, float) = and_both _ (leb (byte_at s (at + 14)) 2) e4 in
      let (e2, calendar) = and_both _ (leb (byte_at s (at + 13)) 3) e3 in
      let (e1, finish) = and_both _ (day_or_absent (biased_at s (at + 9))) e2 in
      let (start, now) = and_both _ (day_or_absent (biased_at s (at + 5))) e1 in
      record { start = date_in (at + 1) start; data_date = optional_in (at + 5) now; must_finish_by = optional_in (at + 9) finish }
