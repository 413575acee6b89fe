-- The walks of an activity as the plan has them, and of the work in hand; and how near its start lies.
use Rattle.std.specs.Prelude.{◌≡◌, ℕ, ◌^◌, ◌<◌}
use Rattle.std.proofs.Common.{sym, ap, ◌∙◌, arith}
use Rattle.number.specs.Bytes.{byte_at, biased_at}
use Rattle.number.specs.BytesLaws.{biased_below}
use Rattle.date.specs.Days.{midnight}
use Rattle.clock.specs.On.{worked_by}
use Rattle.worktime.specs.Walks.{next_start, retreat}
use Rattle.project.specs.declared.RelationshipType.{RelationshipType}
use Rattle.project.specs.RecordLaws.{date_biased}
use Rattle.sheet.specs.declared.value.Sheet.{Sheet}
use Rattle.placing.specs.declared.work.Work.{Work}
use Rattle.placing.specs.Placing.{bounded, midnight_of, place_finish, latest_same, start_of}
use Rattle.order.specs.Plan.{Plan, plan_in}
use Rattle.passes.specs.Plan.{own, origin, kind_of}
use Rattle.passes.specs.Dates.{Early}
use Rattle.dates.specs.InHand.{InHand}
use Rattle.dates.specs.ReadLaws.{plan_start}
use Rattle.late.specs.declared.unfinished.Unfinished.{Unfinished}
use Rattle.late.specs.Unfinished.{IsUnfinished}
use Rattle.late.specs.Times.{finish_by}

pub own_bounded : {p : Plan} {d : Early} {i : ℕ} {u : Unfinished} → IsUnfinished p d i u → (t : ℕ) → bounded (origin p) t ≡ bounded u.origin t
own_bounded O t = λ z. bounded (sym O.origin_is z) t

-- the start of a sheet of bytes lies so near that a cell holds every time of the plan's span
pub near : (sheet : Sheet) → ((k : ℕ) → byte_at sheet.bytes.now k < 256) → {d : Early} {i : ℕ} {u : Unfinished} → IsUnfinished (plan_in sheet) d i u → u.origin < 2 ^ 43
near sheet bytes {d} {i} {u} O =
    let s = sheet.bytes.now in
    let e : u.origin ≡ midnight (biased_at s 1) = O.origin_is ∙ ap midnight_of (sym (plan_start s sheet.contents)) ∙ ap midnight (date_biased s bytes 1) in
    omega (arith, e, biased_below s 1 bytes)

module _ {p : Plan} {d : Early} {i : ℕ} {work : Work} (H : InHand p d i work) where
  pub own_same : (t : ℕ) → latest_same (own p i) t ≡ latest_same (worked_by work.calendar) t
  own_same t = λ z. next_start (H.own_is z) t

  pub own_finish : (t : ℕ) → place_finish (own p i) (kind_of p i) (d.left i) t ≡ place_finish (worked_by work.calendar) work.activity.kind work.left t
  own_finish t = λ z. place_finish (H.own_is z) (sym H.activity_is z).kind (sym H.left_is z) t

  pub own_start : (f : ℕ) → start_of (own p i) (d.left i) f ≡ start_of (worked_by work.calendar) work.left f
  own_start f = λ z. retreat (H.own_is z) f (sym H.left_is z)

  pub own_by : (kind : RelationshipType) (v : ℕ) → finish_by (own p i) (d.left i) kind v ≡ finish_by (worked_by work.calendar) work.left kind v
  own_by kind v = λ z. finish_by (H.own_is z) (sym H.left_is z) kind v
