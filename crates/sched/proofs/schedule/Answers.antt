-- `sched::schedule` meets its contract.
use Rattle.std.specs.Prelude.{List, ℕ}
use Rattle.std.proofs.Common.{sym, ap₂, ◌∙◌}
use Rattle.number.specs.Exits.{handed_on}
use Rattle.sheet.specs.ReadLaws.{read_known}
use Rattle.sheet.specs.declared.Contents.{Contents}
use Rattle.order.specs.Plan.{plan_of}
use Rattle.sched.specs.Outcome.{Lent, planned}
use Rattle.sched.proofs.CallLaws.{room_for_lem, unread_is, short_is, planned_is}
use Rattle.sched.proofs.schedule.Goals as goal

pub returns-in_err-contents : goal.returns-in_err-contents
returns-in_err-contents c =
    let x = c.args in
    rw (handed_on _ _ c.from_residual.ensures.1)
    (unread_is x.sheet.now (record { results = x.results.now; names = x.names.now; work = x.work.now }) _ (sym c.in_err-contents.ensures))

pub has_room-requires : goal.has_room-requires
has_room-requires c =
    let x = c.args in
    let k = read_known x.sheet.now c.in_ok-contents.contents (sym c.in_ok-contents.ensures) in
    (k.activities_few, k.links_few)

pub new-requires : goal.new-requires
new-requires c = read_known c.args.sheet.now c.in_ok-contents.contents (sym c.in_ok-contents.ensures)

pub returns : goal.returns
returns c =
    let x = c.args in
    let m : Lent = (record { results = x.results.now; names = x.names.now; work = x.work.now }) in
    c.plan_sheet.ensures ∙ ap₂ (λ (s : List ℕ) (k : Contents). planned m (plan_of s k)) c.new.ensures.0 c.new.ensures.1
    ∙ planned_is x.sheet.now m c.in_ok-contents.contents (sym c.in_ok-contents.ensures) (sym (room_for_lem x.sheet.now c.in_ok-contents.contents m) ∙ sym c.has_room.ensures ∙ c.if-not-has_room.false)

pub returns-then-not-has_room : goal.returns-then-not-has_room
returns-then-not-has_room c =
    let x = c.args in
    let m : Lent = (record { results = x.results.now; names = x.names.now; work = x.work.now }) in
    short_is x.sheet.now m c.in_ok-contents.contents (sym c.in_ok-contents.ensures) (sym (room_for_lem x.sheet.now c.in_ok-contents.contents m) ∙ sym c.has_room.ensures ∙ c.if-not-has_room.true)
