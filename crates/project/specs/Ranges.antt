-- What holds of the values of a record whose fields are in range.
use Rattle.std.specs.Prelude.{◌≡◌, true, ◌≤◌, pos, Option, Some}
use Rattle.number.specs.Zed.{up, dn}
use Rattle.date.specs.declared.Date.{Date}
use Rattle.project.specs.declared.Constraint.{Constraint}
use Rattle.project.specs.declared.End.TheVariants.{Start, Finish}
use Rattle.project.specs.declared.Activity.{Activity}
use Rattle.project.specs.declared.Project.{Project}
use Rattle.project.specs.Status.{is_milestone, on_start}

-- "−135,140 to 376,199"
pub record DayInRange (d : Date) : Type 0 where
  pub low : dn d.0 ≤ 135140
  pub high : up d.0 ≤ 376199

abbrev pub OptionalInRange : Option Date → Type 0
OptionalInRange o = (d : Date) → o ≡ Some d → DayInRange d

pub record ConstraintInRange (c : Option Constraint) : Type 0 where
  pub start : (d : Date) → on_start c ≡ Some (Start d) → DayInRange d
  pub finish : (d : Date) → on_start c ≡ Some (Finish d) → DayInRange d

pub record ActivityInRange (a : Activity) : Type 0 where
  pub named : a.id ≡ 0 → ⊥
  pub moment : is_milestone a.kind ≡ true → a.minutes ≡ pos 0
  pub actual_start : OptionalInRange a.actual_start
  pub actual_finish : OptionalInRange a.actual_finish
  pub expected_finish : OptionalInRange a.expected_finish
  pub constraint : ConstraintInRange a.constraint
  pub secondary_constraint : ConstraintInRange a.secondary_constraint
  pub levelled : OptionalInRange a.levelled

pub record ProjectInRange (p : Project) : Type 0 where
  pub start : DayInRange p.start
  pub data_date : OptionalInRange p.data_date
  pub must_finish_by : OptionalInRange p.must_finish_by
