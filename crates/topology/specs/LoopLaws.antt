-- The way back along the links into each activity, and the loop that is named.
use Rattle.std.specs.Prelude.{◌≡◌, ◌≢◌, pos, length}
use Rattle.std.proofs.Math.Path.{refl, sym, ap, subst}
use Rattle.std.proofs.Common.{ap₂, ◌∙◌, ⊎_elim, arith, add-one, lt-ltb, ltb, unwrap_or, IfSome, Option, Some, None, option_map}
use Rattle.std.specs.List.{find, range_with_len}
use mathlib.Core.List.{List, [], ◌∷◌, map}
use Rattle.std.specs.List.{AllByRecursion}
use Prim.Native.Nat.{ℕ, zero, suc, ◌+◌, ◌-◌, ◌≤◌, ◌<◌}
use Rattle.std.proofs.Math.ListN.{get_or}
use Rattle.number.specs.Order.{eq_or_ne, zero_or_pos}
use Rattle.cells.specs.Chain.{after}
use Rattle.cells.specs.ChainLaws.{after_all}
use Rattle.memory.specs.State.{State, put_act}
use Rattle.memory.specs.StateLaws.{act_same, act_row}
use Rattle.memory.specs.Fields.{first_in, waiting, seen, path_at, from_field, to_field, next_into}
use Rattle.network.specs.Links.{Link}
use Rattle.network.specs.Kahn.{drained, first_waiting, waiting_before, go_back, again, named_loop}
use Rattle.network.specs.Outgoing.{waiting_in}
use Rattle.network.specs.Pending.{Ranged}
use Rattle.network.proofs.Draining.{drained_kept, waits_below}
use Rattle.network.proofs.GoingBack.{first_waiting_skip, first_waiting_here}
use Rattle.network.proofs.NamedLoop.{again_length, again_at, again_last, drained_back, first_waits}
use Rattle.network.proofs.KahnLaws.{kahn_length, named_loop_le, named_loop_below}
use Rattle.network.proofs.BackSteps.{waiting_in_skip, waiting_in_here, waiting_in_none, waiting_before_sources}
use Rattle.network.proofs.BackWalk.{Back, back_start, back_le, back_room, back_on, back_length, back_at}
use Rattle.topology.specs.Links.{links_of, Ends}
use Rattle.topology.specs.LinksLaws.{links_ranged, links_same, ends_same, sources_are}
use Rattle.topology.specs.Frame.{Frame}
use Rattle.topology.specs.FrameLaws.{frame_refl, frame_then, frame_acts, frame_put}
use Rattle.topology.specs.StepLaws.{put_column}
use Rattle.topology.specs.Order.{ChainsIn, Topological}
use Rattle.topology.specs.Loop.{Stuck, loop_at, NamedLoop, passed, WalkedBack}

-- ---- the first that waits

pub first_start : (links : List Link) (c : ℕ → ℕ) (n : ℕ) → first_waiting links c (n - 0) 0 ≡ first_waiting links c n 0
first_start links c n = ap (λ (k : ℕ). first_waiting links c k 0) (omega arith)

pub first_end : (links : List Link) (c : ℕ → ℕ) (n i : ℕ) → n ≤ i → first_waiting links c (n - i) i ≡ i
unfolding first_waiting
first_end links c n i h = let e : n - i ≡ 0 = omega arith in rw e

-- as a search among the activities goes
module _ (c : ℕ → ℕ) where
  abbrev pub found : ℕ → ℕ → Option ℕ
  found n i = find (λ j. ltb 0 (c j)) (range_with_len i n)

  found_is : (links : List Link) (n i : ℕ) → unwrap_or (found n i) (i + n) ≡ first_waiting links c n i
  unfolding first_waiting
  found_is links zero i = omega arith
  found_is links (suc n) i =
      ⊎_elim
      (λ (z : c i ≡ 0).
      let e : i + suc n ≡ i + 1 + n = omega arith in
      rw (z, e) (found_is links n (i + 1)) ∙ ap (first_waiting links c n) (add-one i) ∙ sym (first_waiting_skip links c n i z))
      (λ (z : 0 < c i). rw (lt-ltb 0 (c i) z) refl ∙ sym (first_waiting_here links c n i z))
      (zero_or_pos (c i))

  found_below : (n i : ℕ) → IfSome (found n i) (λ j. j < i + n)
  found_below zero i = tt
  found_below (suc n) i =
      ⊎_elim
      (λ (z : c i ≡ 0). let e : i + suc n ≡ i + 1 + n = omega arith in rw (z, e) (found_below n (i + 1)))
      (λ (z : 0 < c i). let l : i < i + suc n = omega arith in rw (lt-ltb 0 (c i) z) l) (zero_or_pos (c i))

  abbrev pub First : ℕ → Option ℕ → ℕ → Type 0
  First n o m = ((links : List Link) → unwrap_or o m ≡ first_waiting links c n 0) × IfSome o (λ j. j < m)

  found_all : (n : ℕ) → First n (found n 0) n
  found_all n = let z : 0 + n ≡ n = omega arith in subst (First n (found n 0)) z (λ links. found_is links n 0, found_below n 0)

  pub first_found : (n : ℕ) (r : Option ℕ) → option_map (λ j. j) r ≡ found n 0 → First n r n
  first_found n None e = subst (λ o. First n o n) (sym e) (found_all n)
  first_found n (Some i) e = subst (λ o. First n o n) (sym e) (found_all n)

-- ---- the first waiting predecessor, along the links into x

-- the links into x that are left to be looked at are ks
pub record Looking (t : ℕ) (S : State) (x : ℕ) (ks : List ℕ) : Type 0 where
  pub each : AllByRecursion (λ k. (k < t) × (S.link to_field k ≡ x)) ks
  pub left : waiting_in (S.act waiting) (map (S.link from_field) ks) x ≡ waiting_before (links_of S t) (S.act waiting) (links_of S t) x

module _ {t : ℕ} {S : State} where
  pub looking_start : (x : ℕ) → Looking t S x (after (S.link to_field) t x 0)
  looking_start x = record {
    each = after_all (S.link to_field) t x 0 (omega arith);
    left = ap (λ (ys : List ℕ). waiting_in (S.act waiting) ys x) (sym (sources_are S t x)) ∙ sym (waiting_before_sources (S.act waiting) x (links_of S t) (links_of S t));
  }

  module _ {x : ℕ} where
    pub looking_end : Looking t S x [] → x ≡ waiting_before (links_of S t) (S.act waiting) (links_of S t) x
    looking_end L = sym (waiting_in_none (S.act waiting) x) ∙ L.left

    module _ {k : ℕ} {ks : List ℕ} (L : Looking t S x (k ∷ ks)) where
      pub looking_found : 0 < S.act waiting (S.link from_field k) → S.link from_field k ≡ waiting_before (links_of S t) (S.act waiting) (links_of S t) x
      looking_found p = sym (waiting_in_here (S.act waiting) x (S.link from_field k) (map (S.link from_field) ks) p) ∙ L.left

      pub looking_step : S.act waiting (S.link from_field k) ≡ 0 → Looking t S x ks
      looking_step z = record {
        each = L.each.1;
        left = sym (waiting_in_skip (S.act waiting) x (S.link from_field k) (map (S.link from_field) ks) z) ∙ L.left;
      }

pub looking_later : (a t : ℕ) (S : State) → ChainsIn a t S → (k : ℕ) → k < t → k < S.link next_into k
looking_later a t S C k b = omega (arith, (C.nexts k (omega arith) b).low)

-- ---- the state of an order that stopped early

module _ {lo hi : ℕ} {S T : State} (F : Frame lo hi 0 0 S T) where
  pub links_left : (t : ℕ) → links_of T t ≡ links_of S t
  links_left t = links_same S T (F.links from_field refl) (F.links to_field refl) t

module _ {S T : State} (F : Frame seen 10 0 0 S T) where
  pub ends_left : {a t : ℕ} → Ends a t S → Ends a t T
  ends_left E = ends_same S T (F.links from_field refl) (F.links to_field refl) E

  pub chains_left : {a t : ℕ} → ChainsIn a t S → ChainsIn a t T
  chains_left C = rw (F.links to_field refl, F.acts first_in refl, F.links next_into refl) C

  pub before_left : (t x : ℕ) → waiting_before (links_of T t) (T.act waiting) (links_of T t) x ≡ waiting_before (links_of S t) (S.act waiting) (links_of S t) x
  before_left t x = ap₂ (λ (ls : List Link) (c : ℕ → ℕ). waiting_before ls c ls x) (links_left F t) (F.acts waiting refl)

  pub stuck_left : {a t : ℕ} → Stuck a t S → Stuck a t T
  stuck_left {a} {t} s = record {
    ends = ends_left s.ends;
    chains_in = chains_left s.chains_in;
    waits = λ i. ap (λ (w : ℕ → ℕ). w i) (F.acts waiting refl) ∙ s.waits i ∙ ap (λ (ls : List Link). (drained ls a).count i) (sym (links_left F t));
    short = rw (links_left F t) s.short;
  }

-- so leaves `order_activities` it
pub topological_stuck : {a t : ℕ} {S T : State} {r : ℕ} → Ends a t S → Topological a t S T r → r < a → Stuck a t T
topological_stuck {a} {t} {S} {T} E O h =
    let f = O.kept.links from_field refl in
    let g = O.kept.links to_field refl in
    let e : links_of T t ≡ links_of S t = links_same S T f g t in record {
      ends = ends_same S T f g E;
      chains_in = O.chains_in;
      waits = λ i. O.waits i ∙ ap (λ (ls : List Link). (drained ls a).count i) (sym e);
      short = rw e (omega (arith, O.count));
    }

module _ {a t : ℕ} {S : State} (s : Stuck a t S) where
  same_waits : S.act waiting ≡ (drained (links_of S t) a).count
  same_waits = λ i x. s.waits x i

  range : Ranged (links_of S t) a
  range = links_ranged S s.ends

  pub stuck_inside : (j : ℕ) → 0 < S.act waiting j → j < a
  stuck_inside j p = waits_below (drained_kept (links_of S t) a range) j (omega (arith, s.waits j))

  pub stuck_back : (x : ℕ) → 0 < S.act waiting x → 0 < S.act waiting (waiting_before (links_of S t) (S.act waiting) (links_of S t) x)
  stuck_back x p = rw same_waits (drained_back range x (omega (arith, s.waits x))).1

  pub stuck_first : 0 < S.act waiting (first_waiting (links_of S t) (S.act waiting) a 0)
  stuck_first = rw same_waits (first_waits range (omega (arith, s.short, kahn_length (links_of S t) a))).waits

  named_is : named_loop (links_of S t) a ≡ again (go_back (links_of S t) (S.act waiting) a (first_waiting (links_of S t) (S.act waiting) a 0) [])
  unfolding named_loop
  named_is = ap (λ (c : ℕ → ℕ). again (go_back (links_of S t) c a (first_waiting (links_of S t) c a 0) [])) (sym same_waits)

-- ---- the way back

-- m were passed, and x is next
pub record GoingBack (a t : ℕ) (S T : State) (start m x : ℕ) : Type 0 where
  pub kept : Frame seen 10 0 0 S T
  pub back : Back (links_of S t) (S.act waiting) a start (T.act path_at) (T.act seen) m x

pub passed_frame : (S : State) (m x : ℕ) → Frame seen 10 0 0 S (passed S m x)
unfolding passed
passed_frame S m x =
    frame_then seen 10 0 0 (frame_put seen 10 0 0 seen (omega arith) (omega arith) S x (pos (m + 1)))
    (frame_put seen 10 0 0 path_at (omega arith) (omega arith) (put_act S seen x (m + 1)) m (pos x))

module _ (T : State) (m x : ℕ) where
  passed_path : (passed T m x).act path_at m ≡ x
  unfolding passed
  passed_path = act_same (put_act T seen x (m + 1)) path_at m (pos x)

  passed_old : (p : ℕ) → p < m → (passed T m x).act path_at p ≡ T.act path_at p
  unfolding passed
  passed_old p h = act_row (put_act T seen x (m + 1)) path_at m (pos x) path_at p (λ e. omega arith)

  passed_mark : (y : ℕ) → (passed T m x).act seen y ≡ (put_act T seen x (m + 1)).act seen y
  unfolding passed
  passed_mark y = refl

module _ {a t : ℕ} {S : State} (s : Stuck a t S) where
  pub going_start : (start : ℕ) → ((y : ℕ) → S.act seen y ≡ 0) → start ≡ first_waiting (links_of S t) (S.act waiting) a 0 → GoingBack a t S S start 0 start
  going_start start z e = record {
    kept = frame_refl seen 10 0 0 S;
    back = back_start (links_of S t) (S.act waiting) a start (S.act path_at) (S.act seen) z (rw e (stuck_first s));
  }

  module _ {T : State} {start m x : ℕ} (G : GoingBack a t S T start m x) where
    pub going_inside : x < a
    going_inside = stuck_inside s x G.back.waits

    pub going_room : T.act seen x ≡ 0 → m < a
    going_room z = back_room (links_of S t) (S.act waiting) a start G.back (stuck_inside s) z

    pub going_step : (U : State) (r : ℕ) → T.act seen x ≡ 0 → U ≡ passed T m x → r ≡ waiting_before (links_of T t) (T.act waiting) (links_of T t) x
        → GoingBack a t S U start (m + 1) r
    going_step U r z e q =
        let d : r ≡ waiting_before (links_of S t) (S.act waiting) (links_of S t) x = q ∙ before_left G.kept t x in record {
          kept = frame_then seen 10 0 0 G.kept (rw e (passed_frame T m x));
          back =
              rw (d, e)
              (back_on (links_of S t) (S.act waiting) a start G.back (stuck_inside s) z ((passed T m x).act path_at) ((passed T m x).act seen)
              (passed_path T m x) (passed_old T m x) (λ y. passed_mark T m x y ∙ put_column T seen x (m + 1) y) (stuck_back s x G.back.waits));
        }

    pub going_stop : 0 < T.act seen x → WalkedBack a t S T start (T.act seen x - 1) m
    going_stop p =
        let r = G.back.marked x p in record {
          kept = G.kept;
          some = omega (arith, r.0);
          within = back_le (links_of S t) (S.act waiting) a start G.back;
          count = back_length (links_of S t) (S.act waiting) a start G.back p;
          names = back_at (links_of S t) (S.act waiting) a start G.back p;
        }

-- ---- the loop is copied out of the path

pub copied_step : (S T U : State) (end k v : ℕ) → Frame seen path_at 0 0 S T → U ≡ put_act T loop_at k v → v ≡ T.act path_at (end - 1 - k)
    → ((j : ℕ) → j < k → T.act loop_at j ≡ S.act path_at (end - 1 - j)) → (j : ℕ) → j < k + 1 → U.act loop_at j ≡ S.act path_at (end - 1 - j)
copied_step S T U end k v F e d c j h =
    ap (λ (W : State). W.act loop_at j) e
    ∙ ⊎_elim
    (λ (q : j ≡ k). rw q (act_same T loop_at k (pos v) ∙ d ∙ ap (λ (f : ℕ → ℕ). f (end - 1 - k)) (F.acts path_at refl)))
    (λ (q : j ≢ k). act_row T loop_at k (pos v) loop_at j q ∙ c j (omega arith)) (eq_or_ne j k)

-- ---- the whole

module _ {a t : ℕ} {S T U : State} {start from end r : ℕ} (s : Stuck a t S) (first : start ≡ first_waiting (links_of S t) (S.act waiting) a 0)
    (B : WalkedBack a t S T start from end) (F : Frame seen path_at 0 0 T U) (n : r ≡ end - from)
    (copied : (k : ℕ) → k < r → U.act loop_at k ≡ T.act path_at (end - 1 - k)) where
  loop : List ℕ
  loop = go_back (links_of S t) (S.act waiting) a start []

  is : named_loop (links_of S t) a ≡ again loop
  unfolding loop
  is = named_is s ∙ ap (λ (x : ℕ). again (go_back (links_of S t) (S.act waiting) a x [])) (sym first)

  size : length loop ≡ r
  unfolding loop
  size = B.count ∙ sym n

  named_size : length (named_loop (links_of S t) a) ≡ r + 1
  named_size = ap length is ∙ again_length loop ∙ ap (λ (m : ℕ). m + 1) size

  at : (k : ℕ) → k < r → U.act loop_at k ≡ get_or (named_loop (links_of S t) a) k 0
  unfolding loop
  at k h =
      copied k h ∙ sym (B.names k (omega arith)) ∙ sym (again_at loop k (omega (arith, size))) ∙ ap (λ (xs : List ℕ). get_or xs k 0) (sym is)

  pub named_loop_lem : NamedLoop a t S U r
  named_loop_lem = record {
    kept = frame_then seen 10 0 0 B.kept (frame_acts seen 10 0 0 seen path_at (omega arith) (omega arith) F);
    some = omega (arith, B.some);
    within = omega (arith, named_loop_le (links_ranged S s.ends) s.short, named_size);
    count = named_size;
    names = at;
    below = λ k h. omega (arith, at k h, named_loop_below (links_ranged S s.ends) s.short k (omega (arith, named_size)));
    closed =
        ap (λ (xs : List ℕ). get_or xs r 0) is ∙ ap (λ (m : ℕ). get_or (again loop) m 0) (sym size) ∙ again_last loop
        ∙ sym (again_at loop 0 (omega (arith, size, B.some))) ∙ ap (λ (xs : List ℕ). get_or xs 0 0) (sym is);
  }

-- the loop is named from a state whose marks are cleared
pub named_from : {a t : ℕ} {S T U : State} {r : ℕ} → Frame seen path_at 0 0 S T → NamedLoop a t T U r → NamedLoop a t S U r
named_from {a} {t} {S} {T} F N =
    let e : links_of T t ≡ links_of S t = links_left F t in record {
      kept = frame_then seen 10 0 0 (frame_acts seen 10 0 0 seen path_at (omega arith) (omega arith) F) N.kept;
      some = N.some;
      within = N.within;
      count = rw (sym e) N.count;
      names = rw (sym e) N.names;
      below = N.below;
      closed = rw (sym e) N.closed;
    }
