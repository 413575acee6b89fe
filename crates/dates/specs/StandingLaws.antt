-- What stands for the passes stays under their frames; what is recorded is no refusal; the chains list the links of the definitions.
use Rattle.std.specs.Prelude.{◌≡◌, refl, ℕ, ◌-◌, ◌≤◌, ◌<◌, length, Result, Ok, Err}
use Rattle.worktime.specs.declared.ClockError.{ClockError}
use Rattle.std.proofs.Math.Path.{sym, ap}
use Rattle.std.proofs.Common.{◌∙◌}
use native.Mathlib.Omega.{arith}
use Rattle.cells.specs.Chain.{after}
use Rattle.cells.specs.ChainLaws.{keyed_same}
use Rattle.memory.specs.State.{State}
use Rattle.memory.specs.Fields.{from_field, to_field, kind_field, lag_field, lag_calendar_field, first_in, first_out, next_into, next_out, is_summary, parent, order_at}
use Rattle.topology.specs.Frame.{Frame}
use Rattle.topology.specs.FrameLaws.{outside_below}
use Rattle.topology.specs.Order.{ChainsIn, ChainsOut}
use Rattle.network.specs.Outgoing.{incoming, outgoing, from_at, to_at}
use Rattle.order.specs.Plan.{Plan}
use Rattle.order.specs.Ties.{Tie, kept_links, tie_of}
use Rattle.network.specs.Links.{Link}
use Rattle.project.specs.Records.{relationship_type_of}
use Rattle.placing.specs.declared.Actual.{Actual}
use Rattle.order.specs.TieLaws.{ends_length, ends_at}
use Rattle.passes.specs.Plan.{ties_into, ties_out}
use Rattle.dates.specs.Standing.{tie_in, actual_of, Standing}

-- ---- under a frame of the dates' fields
module _ {lo hi : ℕ} {S T : State} (F : Frame lo hi 0 0 S T) where
  act_kept : (f : ℕ) → f < lo → T.act f ≡ S.act f
  act_kept f l = F.acts f (outside_below lo hi f l)

  pub tie_kept : (k : ℕ) → tie_in T k ≡ tie_in S k
  tie_kept k = λ z. record {
    from = F.links from_field refl z k;
    to = F.links to_field refl z k;
    kind = relationship_type_of (F.links kind_field refl z k);
    lag = F.links_z lag_field refl z k;
    calendar = F.links lag_calendar_field refl z k;
  }

  into_kept : {a t : ℕ} → 10 ≤ lo → ChainsIn a t S → ChainsIn a t T
  into_kept {a} {t} l C = rw (F.links to_field refl, act_kept first_in (omega arith), F.links next_into refl) C

  out_kept : {a t : ℕ} → 10 ≤ lo → ChainsOut a t S → ChainsOut a t T
  out_kept {a} {t} l C = rw (F.links from_field refl, act_kept first_out (omega arith), F.links next_out refl) C

  module _ (p : Plan) where
    pub standing_kept : {t : ℕ} → 10 ≤ lo → Standing p t S → Standing p t T
    standing_kept l W = record {
      count = W.count;
      within = W.within;
      tied = λ k b. tie_kept k ∙ W.tied k b;
      parents = λ i b. ap (λ (c : ℕ → ℕ). c i) (act_kept parent (omega arith)) ∙ W.parents i b;
      marks = λ i b. ap (λ (c : ℕ → ℕ). c i) (act_kept is_summary (omega arith)) ∙ W.marks i b;
      chains_in = into_kept l W.chains_in;
      chains_out = out_kept l W.chains_out;
      ordered = λ q b. ap (λ (c : ℕ → ℕ). c q) (act_kept order_at (omega arith)) ∙ W.ordered q b;
    }

-- what the memory records is never a refusal
pub never_refused : (how start finish : ℕ) (k : ClockError) → ◌≡◌ {A = Result Actual ClockError} (Ok (actual_of how start finish)) (Err k) → ⊥
never_refused how start finish k e = let z : ◌≡◌ {A = ℕ} 0 1 = cc in omega arith

-- ---- the chains list the definitions' links
module _ (p : Plan) {t : ℕ} {S : State} (W : Standing p t S) where
  kept_count : length (kept_links p) ≡ t
  kept_count = ends_length p p.links ∙ sym W.count

  from_is : (k : ℕ) → k < t → S.link from_field k ≡ from_at (kept_links p) k
  unfolding tie_of
  from_is k l = ap (λ (x : Tie). x.from) (W.tied k l) ∙ sym (ap (λ (x : Link). x.from) (ends_at p p.links k (omega (arith, W.count))))

  to_is : (k : ℕ) → k < t → S.link to_field k ≡ to_at (kept_links p) k
  unfolding tie_of
  to_is k l = ap (λ (x : Tie). x.to) (W.tied k l) ∙ sym (ap (λ (x : Link). x.to) (ends_at p p.links k (omega (arith, W.count))))

  -- as the chains have them: from the first link on
  pub into_is : (i : ℕ) → after (S.link to_field) t i 0 ≡ ties_into p i
  unfolding incoming
  into_is i =
      let e : t - 0 ≡ t = omega arith in
      rw (e, kept_count) (keyed_same (S.link to_field) (to_at (kept_links p)) i t 0 (λ j b. to_is j (omega arith)))

  pub out_is : (i : ℕ) → after (S.link from_field) t i 0 ≡ ties_out p i
  unfolding outgoing
  out_is i =
      let e : t - 0 ≡ t = omega arith in
      rw (e, kept_count) (keyed_same (S.link from_field) (from_at (kept_links p)) i t 0 (λ j b. from_is j (omega arith)))
