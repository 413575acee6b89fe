-- The answer of a link's checks: refused, ignored, or kept with its ends.
use Rattle.std.specs.Prelude.{◌≡◌, true, false, ℕ, Option, Some, None, Result, Ok, Err}
use Rattle.order.specs.Plan.{Plan}
use Rattle.order.specs.Ties.{ignored}
use Rattle.order.specs.Checks.{fine, judge_link}
use Rattle.order.specs.declared.PlanError.{PlanError}
use Rattle.order.specs.Refusals.{refused}
use Rattle.network.specs.Links.{Link}
use Rattle.ties.specs.Ends.{Between}

abbrev pub LinkAnswered : Plan → ℕ → Result (Option Link) PlanError → Type 0
LinkAnswered p k (Err e) = judge_link p k ≡ refused e
LinkAnswered p k (Ok None) = (judge_link p k ≡ fine) × (ignored p k ≡ true)
LinkAnswered p k (Ok (Some ends)) = (judge_link p k ≡ fine) × (ignored p k ≡ false) × Between p k ends.from ends.to
