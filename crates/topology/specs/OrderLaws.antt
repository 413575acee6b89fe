-- The walk along an activity's outgoing links, and the loop over the queue.
use Rattle.std.specs.Prelude.{◌≡◌, refl, [], ◌∷◌, ℕ, ◌+◌, ◌≤◌, ◌<◌}
use Rattle.std.proofs.Common.{sym, ap, ◌∙◌, arith}
use Rattle.cells.specs.Chain.{Stands}
use Rattle.memory.specs.State.{State}
use Rattle.memory.specs.Fields.{first_in, first_out, waiting, order_at, seen, from_field, to_field, next_into, next_out}
use Rattle.memory.specs.Chains.{Chains}
use Rattle.network.specs.Kahn.{into}
use Rattle.network.specs.Outgoing.{targets_from}
use Rattle.network.specs.Array.{Progress, Filled}
use Rattle.network.proofs.ProgressLaws.{progress_le, progress_at, progress_enter}
use Rattle.network.proofs.ProgressEnds.{progress_start, progress_count, progress_length, progress_at_kahn}
use Rattle.topology.specs.Links.{links_of, Ends}
use Rattle.topology.specs.LinksLaws.{links_ranged, links_same, targets_stands, targets_first, targets_hit, targets_none}
use Rattle.topology.specs.Frame.{Frame}
use Rattle.topology.specs.FrameLaws.{frame_refl, frame_then, frame_wider, frame_acts, frame_chains}
use Rattle.topology.specs.Steps.{queued, met}
use Rattle.topology.specs.StepLaws.{met_frame, met_progress}
use Rattle.topology.specs.Order.{ChainsIn, ChainsOut, Draining, Topological}

-- ---- the walk along the links out of v

-- h are out, v the last of them; link k of v is next to be met, and the queue reaches up to `end`
pub record Walk (a t : ℕ) (S T : State) (h v k end : ℕ) : Type 0 where
  pub kept : Frame waiting seen 0 0 S T
  pub top : k ≤ t
  pub hits : k < t → S.link from_field k ≡ v
  pub progress : Progress (links_of S t) a (T.act order_at) (T.act waiting) h end (targets_from (links_of S t) v k)

module _ {a t : ℕ} {S : State} (O : ChainsOut a t S) where
  pub walk_start : {h end : ℕ} → Progress (links_of S t) a (S.act order_at) (S.act waiting) h end [] → h < end
      → Walk a t S S (h + 1) (S.act order_at h) (S.act first_out (S.act order_at h)) end
  walk_start {h} {end} g l =
      let v : ℕ = S.act order_at h in
      let s : Stands (S.link from_field) t v 0 (S.act first_out v) = O.heads v (progress_at g h l).0 in record {
        kept = frame_refl waiting seen 0 0 S;
        top = s.top;
        hits = s.hits;
        progress = rw (targets_first S t v (S.act first_out v) s) (progress_enter g l);
      }

  module _ {T : State} {h v k end : ℕ} (W : Walk a t S T h v k end) where
    pub walk_meets : k < t → Progress (links_of S t) a (T.act order_at) (T.act waiting) h end (T.link to_field k ∷ targets_from (links_of S t) v (k + 1))
    walk_meets b =
        let e : T.link to_field k ≡ S.link to_field k = ap (λ (f : ℕ → ℕ). f k) (W.kept.links to_field refl) in
        let p : Progress (links_of S t) a (T.act order_at) (T.act waiting) h end (S.link to_field k ∷ targets_from (links_of S t) v (k + 1)) =
        rw (targets_hit S t v k b (W.hits b)) at W.progress in
        rw e p

    pub walk_step : (U : State) (r k' : ℕ) → k < t → queued U r ≡ met (queued T end) k → k' ≡ S.link next_out k → Walk a t S U h v k' r
    walk_step U r k' b q e =
        let s : Stands (S.link from_field) t v (k + 1) k' = rw (e, sym (W.hits b)) (O.nexts k (omega arith) b) in record {
          kept = frame_then waiting seen 0 0 W.kept (met_frame T U k end r q);
          top = s.top;
          hits = s.hits;
          progress = rw (targets_stands S t v (k + 1) k' s) (met_progress T U k end r q (walk_meets b));
        }

    -- the next link of the chain, read after this one is met
    pub walk_next : (U : State) (r : ℕ) → queued U r ≡ met (queued T end) k → U.link next_out k ≡ S.link next_out k
    walk_next U r q = ap (λ (f : ℕ → ℕ). f k) ((frame_then waiting seen 0 0 W.kept (met_frame T U k end r q)).links next_out refl)

    pub walk_later : k < t → k < S.link next_out k
    walk_later b = omega (arith, (O.nexts k (omega arith) b).low)

    pub walk_end : t ≤ k → Progress (links_of S t) a (T.act order_at) (T.act waiting) h end []
    walk_end b = rw (targets_none S t v k b) at W.progress

-- ---- the loop over the queue

module _ {S T : State} (F : Frame waiting seen 0 0 S T) where
  pub chains_out_kept : {a t : ℕ} → ChainsOut a t S → ChainsOut a t T
  chains_out_kept O = rw (F.links from_field refl, F.acts first_out refl, F.links next_out refl) O

  pub chains_in_kept : {a t : ℕ} → ChainsIn a t S → ChainsIn a t T
  chains_in_kept O = rw (F.links to_field refl, F.acts first_in refl, F.links next_into refl) O

  pub links_kept : (t : ℕ) → links_of T t ≡ links_of S t
  links_kept t = links_same S T (F.links from_field refl) (F.links to_field refl) t

module _ {a t : ℕ} {S T : State} {h end : ℕ} (D : Draining a t S T h end) where
  -- as the state is now
  pub draining_now : Progress (links_of T t) a (T.act order_at) (T.act waiting) h end []
  draining_now = rw (links_kept D.kept t) D.progress

  pub draining_step : (U : State) (r : ℕ) → Frame waiting seen 0 0 T U → Progress (links_of T t) a (U.act order_at) (U.act waiting) (h + 1) r []
      → Draining a t S U (h + 1) r
  draining_step U r F g = record {
    kept = frame_then waiting seen 0 0 D.kept F;
    progress = rw (links_kept D.kept t) at g;
  }

-- ---- the chains, the start of the queue, and the whole

module _ {a t : ℕ} {S T U : State} (C : Chains to_field first_in next_into a t S T) (D : Chains from_field first_out next_out a t T U) where
  pub both_in : ChainsIn a t U
  both_in = rw (D.kept.links to_field (λ e. omega arith), D.kept.acts first_in (λ e. omega arith), D.kept.links next_into (λ e. omega arith)) C.chained

  pub both_frame : Frame first_in waiting next_into 7 S U
  both_frame =
      frame_then first_in waiting next_into 7
      (frame_chains first_in waiting next_into 7 first_in (omega arith) (omega arith) next_into (omega arith) (omega arith) C.kept)
      (frame_chains first_in waiting next_into 7 first_out (omega arith) (omega arith) next_out (omega arith) (omega arith) D.kept)

pub draining_start : {a t : ℕ} {S T U : State} {r : ℕ} → Ends a t S → ((i : ℕ) → T.act waiting i ≡ into (links_of S t) i)
    → Frame waiting order_at 0 0 S T → Filled (U.act waiting) (U.act order_at) a r → Frame order_at seen 0 0 T U → Draining a t S U 0 r
draining_start {a} {t} {S} E c F f G = record {
  kept =
      frame_then waiting seen 0 0 (frame_acts waiting seen 0 0 waiting order_at (omega arith) (omega arith) F)
      (frame_acts waiting seen 0 0 order_at seen (omega arith) (omega arith) G);
  progress = progress_start (links_ranged S E) (λ i. ap (λ (w : ℕ → ℕ). w i) (G.acts waiting refl) ∙ c i) f;
}

module _ {a t : ℕ} {S T U X : State} {r end : ℕ} (C : ChainsIn a t T) (O : ChainsOut a t T) (F : Frame first_in waiting next_into 7 S T)
    (D : Draining a t T U 0 end) (G : Draining a t U X r r) where
  late : Frame waiting seen 0 0 T X
  late = frame_then waiting seen 0 0 D.kept G.kept

  done : Progress (links_of S t) a (X.act order_at) (X.act waiting) r r []
  done = rw (links_kept D.kept t ∙ links_same S T (F.links from_field refl) (F.links to_field refl) t) at G.progress

  pub topological : Topological a t S X r
  topological = record {
    kept =
        frame_then first_in seen next_into 7
        (frame_wider first_in seen next_into 7 first_in waiting next_into 7 (omega arith) (omega arith) (omega arith) (omega arith) F)
        (frame_acts first_in seen next_into 7 waiting seen (omega arith) (omega arith) late);
    chains_in = chains_in_kept late C;
    chains_out = chains_out_kept late O;
    count = sym (progress_length done);
    within = progress_le done;
    order = λ p h. sym (progress_at_kahn done p h);
    waits = λ i. sym (ap (λ (w : ℕ → ℕ). w i) (progress_count done));
  }
