-- The order over the stored links is the definition's: the memory stands for the passes where all come out, and else holds the named loop.
use Rattle.std.specs.Prelude.{◌≡◌, refl, ◌≢◌, List, ℕ, ◌<◌, length, get_or}
use Rattle.std.proofs.Math.Path.{sym, ap}
use Rattle.std.proofs.Common.{◌∙◌, arith}
use Rattle.std.proofs.Math.Seq.{ext_get_or}
use Rattle.memory.specs.State.{State}
use Rattle.memory.specs.Fields.{parent, is_summary, from_field, to_field, kind_field, lag_field, lag_calendar_field}
use Rattle.project.specs.Records.{relationship_type_of}
use Rattle.network.specs.Links.{Link, no_link}
use Rattle.network.specs.Kahn.{kahn, named_loop}
use Rattle.topology.specs.Links.{links_of, Ends}
use Rattle.topology.specs.LinksLaws.{links_length, links_at, links_same}
use Rattle.topology.specs.Order.{Topological}
use Rattle.topology.specs.Loop.{Stuck, NamedLoop}
use Rattle.topology.specs.LoopLaws.{topological_stuck}
use Rattle.order.specs.Plan.{Plan}
use Rattle.order.specs.Ids.{id_of}
use Rattle.order.specs.Ties.{Tie, kept_below, kept_links, tie_of}
use Rattle.order.specs.TieLaws.{ends_of, ends_length, ends_at, kept_picked, from_below, to_below}
use Rattle.order.specs.Checks.{fine, named, refuse_loop, order, judge_order}
use Rattle.order.proofs.CheckLaws.{order_whole, order_loop}
use Rattle.order.specs.FineLaws.{LinksFine}
use Rattle.dates.specs.Standing.{tie_in, Standing}
use Rattle.checks.specs.StoredLinks.{StoredLinks}
use Rattle.checks.specs.Column.{LoopIn}

module _ (p : Plan) {t : ℕ} {S : State} (W : StoredLinks p t S) where
  -- the k-th kept link among all
  kept_at : ℕ → ℕ
  kept_at k = get_or (kept_below p p.links) k 0

  from_is : (k : ℕ) → k < t → S.link from_field k ≡ (ends_of p (kept_at k)).from
  unfolding tie_of kept_at
  from_is k l = ap (λ (x : Tie). x.from) (W.tied k l)

  to_is : (k : ℕ) → k < t → S.link to_field k ≡ (ends_of p (kept_at k)).to
  unfolding tie_of kept_at
  to_is k l = ap (λ (x : Tie). x.to) (W.tied k l)

  kept_below_lem : (k : ℕ) → k < t → kept_at k < p.links
  unfolding kept_at
  kept_below_lem k l = (kept_picked p p.links).below k (omega (arith, W.count))

  pub links_are : links_of S t ≡ kept_links p
  unfolding kept_at
  links_are =
      ext_get_or no_link (links_of S t) (kept_links p) (links_length S t ∙ W.count ∙ sym (ends_length p p.links))
      (λ k b.
      let l : k < t = omega (arith, links_length S t) in
      let f = from_is k l in
      let g = to_is k l in
      links_at S t k l ∙ (λ z. record { from = f z; to = g z }) ∙ sym (ends_at p p.links k (omega (arith, W.count))))

  pub ends_are : LinksFine p → Ends p.activities t S
  ends_are F = record {
    leaves = λ k l. omega (arith, from_is k l, from_below p F (kept_at k) (kept_below_lem k l));
    enters = λ k l. omega (arith, to_is k l, to_below p F (kept_at k) (kept_below_lem k l));
  }

  module _ {T : State} {r : ℕ} (O : Topological p.activities t S T r) where
    pub order_count : r ≡ length (order p)
    order_count = O.count ∙ ap (λ (ls : List Link). length (kahn ls p.activities)) links_are

    tie_left : (k : ℕ) → tie_in T k ≡ tie_in S k
    tie_left k = λ z. record {
      from = O.kept.links from_field refl z k;
      to = O.kept.links to_field refl z k;
      kind = relationship_type_of (O.kept.links kind_field refl z k);
      lag = O.kept.links_z lag_field refl z k;
      calendar = O.kept.links lag_calendar_field refl z k;
    }

    -- all come out
    pub whole_fine : r ≡ p.activities → judge_order p ≡ fine
    whole_fine e = order_whole p (sym order_count ∙ e)

    pub whole_stands : r ≡ p.activities → Standing p t T
    whole_stands e = record {
      count = W.count;
      within = W.within;
      tied = λ k l. tie_left k ∙ W.tied k l;
      parents = λ i l. ap (λ (f : ℕ → ℕ). f i) (O.kept.acts parent refl) ∙ W.parents i l;
      marks = λ i l. ap (λ (f : ℕ → ℕ). f i) (O.kept.acts is_summary refl) ∙ W.marks i l;
      chains_in = O.chains_in;
      chains_out = O.chains_out;
      ordered = λ q l. O.order q (omega arith) ∙ ap (λ (ls : List Link). get_or (kahn ls p.activities) q 0) links_are;
    }

    -- some still wait
    module _ (n : r ≢ p.activities) where
      pub short_refused : judge_order p ≡ refuse_loop 15 (named (id_of p) (named_loop (kept_links p) p.activities))
      short_refused = order_loop p (λ e. n (order_count ∙ e))

      pub short_stuck : LinksFine p → Stuck p.activities t T
      short_stuck F = topological_stuck (ends_are F) O (omega (arith, O.within))

      left_are : links_of T t ≡ kept_links p
      left_are = links_same S T (O.kept.links from_field refl) (O.kept.links to_field refl) t ∙ links_are

      pub short_loop : {U : State} {m : ℕ} → NamedLoop p.activities t T U m → LoopIn p.activities m (named_loop (kept_links p) p.activities) U
      short_loop N = rw (sym left_are) (record {
        some = N.some;
        count = N.count;
        is = N.names;
        below = N.below;
        closed = N.closed;
      })
