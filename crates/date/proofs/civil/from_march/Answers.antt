-- `date::civil::from_march` meets its contract: March to December are of the year, January and February of the next.
use mir.Facts.{to_z-of_z}
use Rattle.date.specs.CivilLaws.{spring, winter}
use Rattle.date.proofs.civil.from_march.Goals as goal

pub returns-then-mp-lt10 : goal.returns-then-mp-lt10
returns-then-mp-lt10 c day h =
    let d = c.before.before in
    let y = c.signed_year in
    rw (to_z-of_z (record { sfits = y.type_inv }), d.days_before.ensures)
    (spring day d.args.t d.year_of-n.result h d.year_of-n.ensures.0 (rw d.days_before.ensures at c.if-mp-lt10.true) y.result y.ensures)

pub returns : goal.returns
returns c day h =
    let d = c.before.before in
    let y = c.signed_year-2 in
    rw (to_z-of_z (record { sfits = y.type_inv }), d.days_before.ensures)
    (winter day d.args.t d.year_of-n.result h d.year_of-n.ensures.0 (rw d.days_before.ensures at c.if-mp-lt10.false) y.result y.ensures)
