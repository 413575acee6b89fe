-- One law for each way to the finish that a link leaves; and the links out of an activity as a walk along its chain.
use Rattle.std.specs.Prelude.{◌≡◌, Bool, ℕ, ◌+◌, ◌^◌, ◌<◌, min, eqb, ℤ, pos, negsuc, neg_ℤ, Result, Ok, Err}
use Rattle.dates.specs.declared.Span.{Span}
use Rattle.late.specs.Times.{dates_of}
use Rattle.worktime.specs.declared.ClockError.{ClockError}
use Rattle.std.proofs.Math.Path.{refl, ap}
use Rattle.std.proofs.Common.{sym, ◌∙◌, arith, ne_eqb, SFits, to_z, of_z, to_z-of_z}
use Rattle.std.proofs.Math.Bool.{true, false}
use mathlib.Core.List.{List, [], ◌∷◌}
use Rattle.std.specs.Int.{w64}
use Rattle.number.specs.Zed.{up, dn}
use Rattle.number.specs.ZedLaws.{neg_fits}
use Rattle.worktime.specs.Walks.{next_start, shift, advance}
use Rattle.worktime.specs.Reads.{on_false}
use Rattle.project.specs.declared.RelationshipType.{RelationshipType}
use Rattle.project.specs.declared.RelationshipType.TheVariants.{FinishToStart, StartToStart, FinishToFinish, StartToFinish}
use Rattle.placing.specs.Placing.{via, bounded, latest_same}
use Rattle.placing.proofs.PlacingLaws.{via_at, via_refused}
use Rattle.cells.specs.Chain.{gather}
use Rattle.order.specs.Plan.{Plan}
use Rattle.order.specs.Ties.{Tie}
use Rattle.passes.specs.Plan.{own, lag_own, tie, origin}
use Rattle.passes.specs.Dates.{Early, Late}
use Rattle.passes.specs.Backward.{over_lag, finish_for, link_finish, lowered}
use Rattle.late.specs.Times.{times_of, target_of, finish_by, lowering}

-- ---- two walks, one after the other
both_refused : (x y : Result ℕ ClockError) (go : ℕ → ℕ → Result ℕ ClockError) (k : ClockError) → via Err x (λ s. via Err y (λ f. dates_of s f)) ≡ Err k
    → via Err x (λ s. via Err y (go s)) ≡ Err k
both_refused (Ok s) (Ok f) go k e = let z : ◌≡◌ {A = ℕ} 0 1 = cc in absurd (omega arith)
both_refused (Ok s) (Err j) go k e = let z : j ≡ k = cc in ap Err z
both_refused (Err j) y go k e = let z : j ≡ k = cc in ap Err z

both_at : (x y : Result ℕ ClockError) (go : ℕ → ℕ → Result ℕ ClockError) (a b : ℕ) → via Err x (λ s. via Err y (λ f. dates_of s f)) ≡ dates_of a b
    → via Err x (λ s. via Err y (go s)) ≡ go a b
both_at (Ok s) (Ok f) go a b e =
    let r : ◌≡◌ {A = Span} (record { start = s; finish = f }) (record { start = a; finish = b }) = cc in
    let p : s ≡ a = ap (λ (z : Span). z.start) r in
    let q : f ≡ b = ap (λ (z : Span). z.finish) r in
    λ z. go (p z) (q z)
both_at (Ok s) (Err j) go a b e = let z : ◌≡◌ {A = ℕ} 0 1 = cc in absurd (omega arith)
both_at (Err j) y go a b e = let z : ◌≡◌ {A = ℕ} 0 1 = cc in absurd (omega arith)

module _ (w : ℕ → Bool) (ls lf : ℕ) where
  pub times_start_refused : (k : ClockError) → next_start w ls ≡ Err k → times_of w ls lf ≡ Err k
  unfolding times_of
  times_start_refused k e = via_refused Err _ _ k e

  pub times_finish_refused : (s : ℕ) (k : ClockError) → next_start w ls ≡ Ok s → next_start w lf ≡ Err k → times_of w ls lf ≡ Err k
  unfolding times_of
  times_finish_refused s k e f = via_at Err _ _ s e ∙ via_refused Err _ _ k f

  pub times_at : (s f : ℕ) → next_start w ls ≡ Ok s → next_start w lf ≡ Ok f → times_of w ls lf ≡ dates_of s f
  unfolding times_of
  times_at s f e g = via_at Err _ _ s e ∙ via_at Err _ _ f g

-- ---- a lag of no minutes, and a lag's other sign
pub none_is : (z : ℤ) → up z + dn z ≡ 0 → z ≡ pos 0
none_is (pos n) e = let z : n ≡ 0 = omega arith in ap pos z
none_is (negsuc n) e = absurd (omega arith)

-- a negated number in a word of 64 bits
pub negated_back : (z : ℤ) → SFits w64 z → dn z < 2 ^ 63 → (r : ℤ) → r ≡ neg_ℤ (to_z w64 (of_z w64 z)) → to_z w64 (of_z w64 r) ≡ neg_ℤ z
negated_back z f b r e = let q : r ≡ neg_ℤ z = e ∙ ap neg_ℤ (to_z-of_z f) in rw q (to_z-of_z (neg_fits w64 z f b))

via_all : (x : Result ℕ ClockError) → via Err x (λ v. Ok v) ≡ x
via_all (Ok t) = refl
via_all (Err k) = refl

module _ (p : Plan) (d : Early) (l : Late) where
  -- ---- back over the lag
  module _ (t : Tie) (x : ℕ) where
    pub over_none : t.lag ≡ pos 0 → over_lag p d l t x ≡ Ok x
    unfolding over_lag shift advance
    over_none e =
        ap (λ (z : ℤ). via Err (shift (lag_own p t) x (neg_ℤ z)) (λ v. elim (eqb (up z + dn z) 0) [ true ↦ Ok v | false ↦ next_start (lag_own p t) v ])) e

    pub over_refused : (k : ClockError) → shift (lag_own p t) x (neg_ℤ t.lag) ≡ Err k → over_lag p d l t x ≡ Err k
    unfolding over_lag
    over_refused k e = via_refused Err _ _ k e

    pub over_at : (v : ℕ) → shift (lag_own p t) x (neg_ℤ t.lag) ≡ Ok v → (up t.lag + dn t.lag ≡ 0 → ⊥) → over_lag p d l t x ≡ next_start (lag_own p t) v
    unfolding over_lag
    over_at v e h =
        via_at Err _ _ v e ∙ on_false (eqb (up t.lag + dn t.lag) 0) (Ok v) (next_start (lag_own p t) v) (ne_eqb (up t.lag + dn t.lag) 0 h)

  module _ (i : ℕ) where
    -- ---- the finish that a link leaves, by the successor's times
    finish_for_is : (t : Tie) (kind : RelationshipType) (ls lf : ℕ)
        → finish_for p d l i t kind ls lf ≡ via Err (over_lag p d l t (target_of kind ls lf)) (finish_by (own p i) (d.left i) kind)
    finish_for_is t FinishToStart ls lf = sym (via_all (over_lag p d l t ls))
    finish_for_is t StartToStart ls lf = refl
    finish_for_is t FinishToFinish ls lf = sym (via_all (over_lag p d l t lf))
    finish_for_is t StartToFinish ls lf = refl

    module _ (k : ℕ) where
      abbrev times : Result Span ClockError
      times = times_of (own p (tie p k).to) (l.ls (tie p k).to) (l.lf (tie p k).to)

      pub link_times_refused : (r : ClockError) → times ≡ Err r → link_finish p d l i k ≡ Err r
      unfolding link_finish times_of
      link_times_refused r e =
          both_refused (latest_same (own p (tie p k).to) (l.ls (tie p k).to)) (latest_same (own p (tie p k).to) (l.lf (tie p k).to))
          (λ ls lf. via Err (finish_for p d l i (tie p k) (tie p k).kind ls lf) (bounded (origin p))) r e

      module _ (ls lf : ℕ) (e : times ≡ dates_of ls lf) where
        link_over : link_finish p d l i k
            ≡ via Err (via Err (over_lag p d l (tie p k) (target_of (tie p k).kind ls lf)) (finish_by (own p i) (d.left i) (tie p k).kind)) (bounded (origin p))
        unfolding link_finish times_of
        link_over =
            both_at (latest_same (own p (tie p k).to) (l.ls (tie p k).to)) (latest_same (own p (tie p k).to) (l.lf (tie p k).to))
            (λ ls lf. via Err (finish_for p d l i (tie p k) (tie p k).kind ls lf) (bounded (origin p))) ls lf e
            ∙ ap (λ (x : Result ℕ ClockError). via Err x (bounded (origin p))) (finish_for_is (tie p k) (tie p k).kind ls lf)

        pub link_lag_refused : (r : ClockError) → over_lag p d l (tie p k) (target_of (tie p k).kind ls lf) ≡ Err r → link_finish p d l i k ≡ Err r
        link_lag_refused r f =
            link_over ∙ ap (λ (x : Result ℕ ClockError). via Err (via Err x (finish_by (own p i) (d.left i) (tie p k).kind)) (bounded (origin p))) f

        module _ (v : ℕ) (f : over_lag p d l (tie p k) (target_of (tie p k).kind ls lf) ≡ Ok v) where
          link_by : link_finish p d l i k ≡ via Err (finish_by (own p i) (d.left i) (tie p k).kind v) (bounded (origin p))
          link_by = link_over ∙ ap (λ (x : Result ℕ ClockError). via Err (via Err x (finish_by (own p i) (d.left i) (tie p k).kind)) (bounded (origin p))) f

          pub link_finish_refused : (r : ClockError) → finish_by (own p i) (d.left i) (tie p k).kind v ≡ Err r → link_finish p d l i k ≡ Err r
          link_finish_refused r g = link_by ∙ via_refused Err _ _ r g

          pub link_at : (u : ℕ) → finish_by (own p i) (d.left i) (tie p k).kind v ≡ Ok u → link_finish p d l i k ≡ bounded (origin p) u
          link_at u g = link_by ∙ via_at Err _ _ u g

    -- ---- all links out of i
    pub lowered_gather : (ks : List ℕ) (latest : ℕ) → lowered p d l i ks latest ≡ gather (lowering (link_finish p d l i)) Ok ks latest
    unfolding lowered gather
    lowered_gather [] latest = refl
    lowered_gather (k ∷ ks) latest = λ z. via Err (link_finish p d l i k) (λ f. lowered_gather ks (min latest f) z)
