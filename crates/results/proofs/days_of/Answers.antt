-- `results::days_of` meets its contract.
use mathlib.Core.Path.{ap, ◌∙◌}
use Prim.Native.Nat.{◌/◌}
use Rattle.results.specs.Results.{start_minute}
use Rattle.results.proofs.days_of.Goals as goal

pub returns : goal.returns
returns c = λ p.
    let kind = c.args.kind in
    let es = c.start_minute-es.ensures ∙ ap (start_minute kind) (c.begun_at.ensures p) in
    let ls = c.start_minute-ls.ensures ∙ ap (start_minute kind) (c.begun_at-2.ensures p) in
    λ z. record {
      es = es z / 1440;
      ef = c.finish_minute-ef.ensures z / 1440;
      ls = ls z / 1440;
      lf = c.finish_minute-lf.ensures z / 1440;
    }
