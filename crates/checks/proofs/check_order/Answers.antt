-- `checks::check_order` meets its contract.
use mathlib.Core.Path.{◌≡◌, refl, sym, ap, subst, ◌∙◌}
use mathlib.Core.Logic.{◌≢◌}
use Prim.Native.Nat.{ℕ, ◌<◌}
use native.Mathlib.Omega.{arith}
use lib.IntN.{pos}
use lib.ListN.{length, replicate}
use Rattle.memory.specs.State.{State}
use Rattle.memory.specs.Seen.{state}
use Rattle.rest.specs.Stands.{rest_cleared}
use Rattle.dates.specs.Standing.{Standing}
use Rattle.memory.specs.SeenLaws.{same_then, same_lent, lent_then}
use Rattle.network.specs.Kahn.{named_loop}
use Rattle.topology.specs.Links.{Ends}
use Rattle.topology.specs.Order.{Topological}
use Rattle.topology.specs.Loop.{Stuck, NamedLoop}
use Rattle.order.specs.Plan.{plan_of, plan_in}
use Rattle.order.specs.declared.PlanError.TheVariants.{LinkLoop}
use Rattle.order.specs.Ids.{id_of}
use Rattle.order.specs.Ties.{kept_links}
use Rattle.order.specs.Checks.{Verdict, named, judge_order}
use Rattle.order.proofs.LoopLaws.{named_length}
use Rattle.ids.specs.LentLaws.{lent_left}
use Rattle.checks.specs.Elsewhere.{Elsewhere}
use Rattle.checks.specs.OrderSteps.{ends_are, whole_fine, whole_stands, short_refused, short_stuck, short_loop}
use Rattle.checks.specs.RestSteps.{rest_stands, rest_elsewhere}
use Rattle.checks.specs.StageLaws.{loop_refused}
use Rattle.checks.proofs.check_order.Goals as goal

-- what holds of an order over t links of a plan with a activities holds of tables that have them
taken : {a t n k : ℕ} {S T : State} → n ≡ a → k ≡ t → T ≡ S → (P : ℕ → ℕ → State → Type 0) → P a t S → P n k T
taken e f g P h = rw (e, f, g) h

back : {a t n k : ℕ} {S T : State} → n ≡ a → k ≡ t → T ≡ S → (P : ℕ → ℕ → State → Type 0) → P n k T → P a t S
back e f g P h = taken (sym e) (sym f) (sym g) P h

pub order_activities-requires : goal.order_activities-requires
unfolding plan_of
order_activities-requires c =
    taken c.requires.0.activities refl refl Ends (ends_are (plan_in c.args.sheet.now) c.requires.1 c.requires.2)

pub open_ends-requires : goal.open_ends-requires
unfolding plan_of
open_ends-requires c =
    let x = c.args in
    let p = plan_in x.sheet.now in
    let o = c.order_activities in
    let r = c.clear_rest.ensures in
    let T = state o.new.tables in
    let q = o.ensures.1.kept in
    let e = r.0 ∙ ap (λ (n : ℕ). rest_cleared n T) q in
    let O = back c.requires.0.activities refl refl (λ n t S. Topological n t S T o.result) o.ensures.0 in (
      lent_left c.requires.0 (same_lent (same_then o.ensures.1 r.2)),
      subst (λ (n : ℕ). Standing p n (state c.clear_rest.new.tables)) (sym (r.2.kept ∙ q)) (rest_stands o.new.tables c.clear_rest.new.tables x.tables.now.kept e p (whole_stands p c.requires.1 O (omega arith))),
    )

pub returns-then-order_activities-sheet : goal.returns-then-order_activities-sheet
unfolding plan_of
returns-then-order_activities-sheet c =
    let x = c.args in
    let p = plan_in x.sheet.now in
    let o = c.order_activities in
    let r = c.clear_rest.ensures in
    let T = state o.new.tables in
    let q = o.ensures.1.kept in
    let e = r.0 ∙ ap (λ (n : ℕ). rest_cleared n T) q in
    let O = back c.requires.0.activities refl refl (λ n t S. Topological n t S T o.result) o.ensures.0 in (
      record {
        fine = ap (λ (v : Verdict). v.number) (whole_fine p c.requires.1 O (omega arith));
        standing = subst (λ (n : ℕ). Standing p n (state c.clear_rest.new.tables)) (sym (r.2.kept ∙ q)) (rest_stands o.new.tables c.clear_rest.new.tables x.tables.now.kept e p (whole_stands p c.requires.1 O (omega arith)));
        elsewhere = subst (λ (n : ℕ). Elsewhere n c.clear_rest.new.tables) (sym (r.2.kept ∙ q)) (rest_elsewhere o.new.tables c.clear_rest.new.tables x.tables.now.kept e r.2 r.1);
        named = c.requires.4;
        counted = record { ignored = c.requires.3; ends = c.open_ends.ensures.0 };
      },
      same_lent (same_then o.ensures.1 r.2),
    )

pub name_loop-m-requires : goal.name_loop-m-requires
unfolding plan_of
name_loop-m-requires c =
    let x = c.args in
    let p = plan_in x.sheet.now in
    let o = c.order_activities in
    let m = o.ensures.1 in
    let T = state o.new.tables in
    let O = back c.requires.0.activities refl refl (λ n t S. Topological n t S T o.result) o.ensures.0 in
    let stuck = short_stuck p c.requires.1 O (λ e. omega arith) c.requires.2 in
    taken (m.activities ∙ c.requires.0.activities) (m.kept) refl Stuck stuck

pub name_links-requires : goal.name_links-requires
unfolding plan_of
name_links-requires c =
    let x = c.args in
    let p = plan_in x.sheet.now in
    let o = c.order_activities in
    let m = o.ensures.1 in
    let n = c.name_loop-m in
    let T = state o.new.tables in
    let O = back c.requires.0.activities refl refl (λ n t S. Topological n t S T o.result) o.ensures.0 in
    let N = back (m.activities ∙ c.requires.0.activities) (m.kept) refl (λ i t S. NamedLoop i t S (state n.new.tables) n.result) n.ensures.0 in (
      lent_left c.requires.0 (same_lent (same_then m n.ensures.1)),
      short_loop p c.requires.1 O (λ e. omega arith) N,
      N.within,
      c.requires.5,
    )

pub returns : goal.returns
unfolding plan_of
returns c =
    let x = c.args in
    let p = plan_in x.sheet.now in
    let o = c.order_activities in
    let left : o.result ≢ x.sheet.now.contents.activities = λ e. omega arith in
    let n = c.name_loop-m in
    let T = state o.new.tables in
    let O = back c.requires.0.activities refl refl (λ n t S. Topological n t S T o.result) o.ensures.0 in
    let N = back (o.ensures.1.activities ∙ c.requires.0.activities) (o.ensures.1.kept) refl (λ i t S. NamedLoop i t S (state n.new.tables) n.result) n.ensures.0 in
    let m = same_lent (same_then o.ensures.1 n.ensures.1) in
    let xs = named (id_of p) (named_loop (kept_links p) x.sheet.now.contents.activities) in
    let some : 0 < length xs = omega (arith, named_length (id_of p) (named_loop (kept_links p) x.sheet.now.contents.activities), (short_loop p c.requires.1 O left N).count) in (
      loop_refused p (judge_order p) (length x.names.now) (length x.tables.now.cells.now) _ _ (LinkLoop _) xs some (short_refused p c.requires.1 O left) refl
          c.name_links.ensures (c.clear.ensures.0 ∙ ap (λ (k : ℕ). replicate k (pos 0)) m.cells),
      lent_then m (same_lent c.clear.ensures.1),
    )
