-- The rest of the memory cleared: what stood still stands, and all else is 0.
use Rattle.std.specs.Prelude.{◌≡◌, refl, Bool, true, false, cond, ℕ, ◌+◌, ◌*◌, ◌≤◌, ◌<◌, ltb, ℤ, pos}
use Rattle.std.proofs.Common.{sym, ap, subst, ◌∙◌, arith, lt-ltb, le-ltb}
use Rattle.cells.specs.Cell.{cell_z}
use Rattle.memory.specs.State.{State}
use Rattle.memory.specs.Seen.{state, SameSlice}
use Rattle.memory.specs.declared.Tables.{Tables}
use Rattle.memory.specs.Fields.{from_field, to_field, kind_field, lag_field, lag_calendar_field}
use Rattle.project.specs.Records.{relationship_type_of}
use Rattle.order.specs.Plan.{Plan}
use Rattle.dates.specs.Standing.{tie_in, Standing}
use Rattle.rest.specs.Stands.{link_stands, rest_cleared}
use Rattle.rest.specs.ChainedLaws.{chained_same}
use Rattle.checks.specs.Elsewhere.{Elsewhere}

-- ---- in the state
module _ (t : ℕ) (S : State) where
  link_kept : (f k : ℕ) → k < t → cond (ltb k t) (S.link f k) 0 ≡ S.link f k
  link_kept f k h = ap (λ (b : Bool). cond b (S.link f k) 0) (lt-ltb k t h)

  tie_left : (k : ℕ) → k < t → tie_in (rest_cleared t S) k ≡ tie_in S k
  tie_left k h =
      let e = lt-ltb k t h in
      λ z. record {
        from = cond (e z) (S.link from_field k) 0;
        to = cond (e z) (S.link to_field k) 0;
        kind = relationship_type_of (cond (e z) (S.link kind_field k) 0);
        lag = cond (e z) (S.link_z lag_field k) (pos 0);
        calendar = cond (e z) (S.link lag_calendar_field k) 0;
      }

  pub standing_left : (p : Plan) → Standing p t S → Standing p t (rest_cleared t S)
  standing_left p W = record {
    count = W.count;
    within = W.within;
    tied = λ k h. tie_left k h ∙ W.tied k h;
    parents = W.parents;
    marks = W.marks;
    chains_in = chained_same (λ k h. link_kept _ k h) (λ k h. link_kept _ k h) W.chains_in;
    chains_out = chained_same (λ k h. link_kept _ k h) (λ k h. link_kept _ k h) W.chains_out;
    ordered = W.ordered;
  }

-- ---- in the memory
module _ (before after : Tables) (t : ℕ) (e : state after ≡ rest_cleared t (state before)) where
  pub rest_stands : (p : Plan) → Standing p t (state before) → Standing p t (state after)
  rest_stands p W = subst (Standing p t) (sym e) (standing_left t (state before) p W)

  pub rest_elsewhere : SameSlice before after → ((j : ℕ) → 64 * before.activities + 16 * before.links ≤ j → cell_z after.cells.now j ≡ pos 0) → Elsewhere t after
  rest_elsewhere m h = record {
    acts = λ f i n. ap (λ (S : State). S.act_z f i) e ∙ ap (λ (b : Bool). cond b ((state before).act_z f i) (pos 0)) n;
    links = λ f k b n. link_at f k ∙ ap (λ (c : Bool). cond c (cond (ltb k t) ((state before).link_z f k) (pos 0)) (pos 0)) n;
    unused = λ f k b. link_at f k ∙ ap (λ (c : Bool). cond (link_stands f) (cond c ((state before).link_z f k) (pos 0)) (pos 0)) (le-ltb k t b) ∙ both (link_stands f);
    after = λ j b. h j (omega (arith, m, b));
  }
    where
      link_at : (f k : ℕ) → (state after).link_z f k ≡ (rest_cleared t (state before)).link_z f k
      link_at f k = ap (λ (S : State). S.link_z f k) e

      both : (b : Bool) → ◌≡◌ {A = ℤ} (cond b (pos 0) (pos 0)) (pos 0)
      both true = refl
      both false = refl
