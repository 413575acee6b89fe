-- What the answer of a check says of the verdict's number.
use Rattle.std.specs.Prelude.{◌≡◌, ◌≢◌, Ok, Err}
use Rattle.std.proofs.Common.{sym, ap, arith}
use Rattle.order.specs.Checks.{Verdict}
use Rattle.order.specs.declared.PlanError.{PlanError}
use Rattle.order.specs.Refusals.{plan_number}
use Rattle.order.specs.RefusalLaws.{number_some}
use Rattle.ids.specs.Answers.{Answered}

module _ {T : Type 0} {v : Verdict} where
  pub fine_number : {x : T} → Answered (Ok x) v → v.number ≡ 0
  fine_number A = ap (λ (u : Verdict). u.number) (sym A.is)

  pub refused_number : {e : PlanError} → Answered {T = T} (Err e) v → v.number ≢ 0
  refused_number {e} A h =
      let q : v.number ≡ plan_number e = ap (λ (u : Verdict). u.number) (sym A.is) in omega (arith, number_some e)
