-- What stands once all links are judged: the kept ones in the memory, the ignored ones' positions in names over zeros.
use Rattle.std.specs.Prelude.{◌≡◌, List, ◌++◌, ℕ, ◌-◌, length, drop, replicate}
use Rattle.std.proofs.Common.{sym, ap, ◌∙◌, arith}
use Rattle.std.proofs.lemmas.List.{drop-replicate}
use Rattle.memory.specs.State.{State}
use Rattle.memory.specs.declared.Tables.{Tables}
use Rattle.memory.specs.Seen.{state}
use Rattle.memory.specs.Fields.{parent, is_summary}
use Rattle.order.specs.Plan.{Plan}
use Rattle.order.specs.Ties.{ignored_links}
use Rattle.order.specs.TieLaws.{kept_and_ignored}
use Rattle.ids.specs.SummaryLaws.{marks_summary}
use Rattle.links.specs.Answers.{ActsKept, LinksIn}
use Rattle.checks.specs.Names.{then_zeros}
use Rattle.checks.specs.StoredLinks.{StoredLinks}
use Rattle.checks.specs.Stages.{Prepared}

module _ (p : Plan) {n : ℕ} {t : Tables} {names after : List ℕ} (L : LinksIn p p.links n t names after) where
  pub links_stored : {S : State} → Prepared p S → ActsKept S (state t) → StoredLinks p t.kept (state t)
  links_stored {S} P K = record {
    count = L.kept_count;
    within = omega (arith, L.kept_count, kept_and_ignored p p.links);
    tied = L.tied;
    parents = λ i l. ap (λ (f : ℕ → ℕ → ℕ). f parent i) K.acts ∙ P.parented.parents i l;
    marks = λ i l. ap (λ (f : ℕ → ℕ → ℕ). f is_summary i) K.acts ∙ marks_summary p S P.parented i l;
  }

  pub ignored_named : (size : ℕ) → names ≡ replicate size 0 → length after ≡ size → after ≡ then_zeros (ignored_links p) after
  ignored_named size e k =
      L.named ∙ ap (λ (ys : List ℕ). ignored_links p ++ drop n ys) e ∙ ap (λ (ys : List ℕ). ignored_links p ++ ys) (drop-replicate n size 0)
      ∙ ap (λ (m : ℕ). ignored_links p ++ replicate (m - n) 0) (sym k) ∙ ap (λ (m : ℕ). ignored_links p ++ replicate (length after - m) 0) L.ignored_count
