-- `judges::weekday_count` meets its contract: the numbers that pass are those of the records of the weekday.
use Rattle.std.specs.Prelude.{ℕ, eqb}
use Rattle.std.proofs.Common.{◌∙◌, rules, tests, arith}
use Rattle.std.proofs.lemmas.Iterator.{YieldsList-from_range}
use Rattle.std.proofs.lemmas.Iterator.Consumers.{YieldsList-from_filter, count_from_yields_List}
use Rattle.calendar.specs.Records.{weekday_at}
use Rattle.judges.specs.StepLaws.{count_filtered}
use Rattle.judges.proofs.weekday_count.Goals as goal

pub returns : goal.returns
returns c =
    let x = c.args in
    count_from_yields_List _ _ c.count.ensures.ran
    (YieldsList-from_filter _ (λ (j : ℕ). eqb (weekday_at x.sheet.now x.at j) x.k) (YieldsList-from_range 0 x.n x.n c.filter.ensures.source (omega arith)) c.filter.ensures.closure (λ y b q h. search (rules, tests)))
    ∙ count_filtered x.sheet.now x.at x.k x.n
