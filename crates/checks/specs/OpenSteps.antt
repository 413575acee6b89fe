-- Open ends by the heads of the chains: an activity's chain is empty exactly where its head is the count of links.
use Rattle.std.specs.Prelude.{◌≡◌, true, false, ◌≢◌, ℕ, ◌<◌, ltb, length}
use Rattle.std.proofs.Common.{sym, ap, ◌∙◌, arith}
use Rattle.number.specs.BitLaws.{mark_flag}
use Rattle.cells.specs.Chain.{after, Stands}
use Rattle.memory.specs.State.{State}
use Rattle.memory.specs.Fields.{is_summary, first_in, first_out, from_field, to_field}
use Rattle.network.specs.Outgoing.{incoming, outgoing}
use Rattle.network.specs.OutgoingLaws.{keyed_end, keyed_hit}
use Rattle.order.specs.Plan.{Plan}
use Rattle.order.specs.Ids.{summary}
use Rattle.order.specs.Ties.{kept_links, is_open}
use Rattle.order.proofs.OpenLaws.{open_summary, open_in, open_out, open_neither}
use Rattle.dates.specs.Standing.{Standing}
use Rattle.dates.specs.StandingLaws.{into_is, out_is}

module _ (key : ℕ → ℕ) (t i k : ℕ) (s : Stands key t i 0 k) where
  chain_none : k ≡ t → length (after key t i 0) ≡ 0
  chain_none e = ap length (s.rest ∙ keyed_end key i t k (omega arith))

  chain_some : k ≢ t → length (after key t i 0) ≢ 0
  chain_some n z =
      let b : k < t = omega (arith, s.top) in omega (arith, ap length (s.rest ∙ keyed_hit key i t k b (s.hits b)))

module _ (p : Plan) {t : ℕ} {S : State} (W : Standing p t S) (i : ℕ) (l : i < p.activities) where
  is_marked : ltb 0 (S.act is_summary i) ≡ summary p i
  is_marked = mark_flag (summary p i) (W.marks i l)

  in_none : S.act first_in i ≡ t → length (incoming (kept_links p) i) ≡ 0
  in_none e = ap length (sym (into_is p W i)) ∙ chain_none (S.link to_field) t i (S.act first_in i) (W.chains_in.heads i l) e

  in_some : S.act first_in i ≢ t → length (incoming (kept_links p) i) ≢ 0
  in_some n z = chain_some (S.link to_field) t i (S.act first_in i) (W.chains_in.heads i l) n (ap length (into_is p W i) ∙ z)

  out_none : S.act first_out i ≡ t → length (outgoing (kept_links p) i) ≡ 0
  out_none e = ap length (sym (out_is p W i)) ∙ chain_none (S.link from_field) t i (S.act first_out i) (W.chains_out.heads i l) e

  out_some : S.act first_out i ≢ t → length (outgoing (kept_links p) i) ≢ 0
  out_some n z = chain_some (S.link from_field) t i (S.act first_out i) (W.chains_out.heads i l) n (ap length (out_is p W i) ∙ z)

  -- ---- the ways of the code, by the three fields
  pub summary_closed : true ≡ ltb 0 (S.act is_summary i) → false ≡ is_open p i
  summary_closed e = sym (open_summary p i (sym (e ∙ is_marked)))

  module _ (e : false ≡ ltb 0 (S.act is_summary i)) where
    no_summary : summary p i ≡ false
    no_summary = sym (e ∙ is_marked)

    pub nothing_in : S.act first_in i ≡ t → true ≡ is_open p i
    nothing_in z = sym (open_in p i no_summary (in_none z))

    module _ (n : S.act first_in i ≢ t) where
      pub nothing_out : S.act first_out i ≡ t → true ≡ is_open p i
      nothing_out z = sym (open_out p i no_summary (in_some n) (out_none z))

      pub both_ways : S.act first_out i ≢ t → false ≡ is_open p i
      both_ways m = sym (open_neither p i no_summary (in_some n) (out_some m))
