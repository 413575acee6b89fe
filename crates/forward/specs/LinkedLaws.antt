-- The links into an activity: the start that each leaves, the walk along them, and the placing after them.
use Rattle.std.specs.Prelude.{◌≡◌, ℕ, max, Result, Ok, Err}
use Rattle.worktime.specs.declared.ClockError.{ClockError}
use Rattle.std.proofs.Math.Path.{refl}
use Rattle.std.proofs.Common.{sym, ap, ap₂, ◌∙◌, arith}
use mathlib.Core.List.{List, [], ◌∷◌}
use Rattle.project.specs.declared.RelationshipType.{RelationshipType}
use Rattle.placing.specs.declared.Actual.{Actual}
use Rattle.placing.specs.Placing.{via}
use Rattle.cells.specs.Chain.{gather}
use Rattle.order.specs.Plan.{Plan}
use Rattle.passes.specs.Plan.{tie, ties_into, floor}
use Rattle.passes.specs.Dates.{Early, refused}
use Rattle.passes.specs.Forward.{link_bound, link_start, start_for, raised}
use Rattle.early.specs.InHand.{after_start}
use Rattle.early.specs.EarlyLaws.{goes_on_lem, stops}
use Rattle.forward.specs.Linked.{after_links}

-- ---- a walk, raised
turn : (y : Result ℕ ClockError) (start s : ℕ) (f : ℕ → Result ℕ ClockError) → via Err y (λ x. Ok (max start x)) ≡ Ok s → via Err y (λ x. f (max start x)) ≡ f s
turn (Ok u) start s f e = let q : max start u ≡ s = cc in ap f q
turn (Err k) start s f e = let z : ◌≡◌ {A = ℕ} 0 1 = cc in absurd (omega arith)

stop : (y : Result ℕ ClockError) (start : ℕ) (k : ClockError) (f : ℕ → Result ℕ ClockError) → via Err y (λ x. Ok (max start x)) ≡ Err k → via Err y (λ x. f (max start x)) ≡ Err k
stop (Ok u) start k f e = let z : ◌≡◌ {A = ℕ} 0 1 = cc in absurd (omega arith)
stop (Err j) start k f e = e

module _ (p : Plan) (d : Early) (i : ℕ) where
  -- ---- the start that link k leaves
  module _ (k : ℕ) {x : Result ℕ ClockError} (e : x ≡ link_bound p d k) where
    pub link_start_at : (b : ℕ) → x ≡ Ok b → (left : ℕ) → left ≡ d.left i → (kind : RelationshipType) → kind ≡ (tie p k).kind
        → link_start p d i k ≡ start_for p i left kind b
    link_start_at b a left l kind q =
        goes_on_lem Err (start_for p i (d.left i) (tie p k).kind) e a
        ∙ ap₂ (λ (m : ℕ) (n : RelationshipType). start_for p i m n b) (sym l) (sym q)

    pub link_start_refused : (r : ClockError) → x ≡ Err r → link_start p d i k ≡ Err r
    link_start_refused r a = stops Err (start_for p i (d.left i) (tie p k).kind) e a

  -- ---- raised by it
  module _ (k start : ℕ) {x : Result ℕ ClockError} (e : x ≡ link_start p d i k) where
    abbrev raised_by : Result ℕ ClockError
    raised_by = via Err (link_start p d i k) (λ s. Ok (max start s))

    pub raised_found : (s : ℕ) → x ≡ Ok s → raised_by ≡ Ok (max start s)
    raised_found s a = goes_on_lem Err (λ s. Ok (max start s)) e a

    pub raised_refused : (r : ClockError) → x ≡ Err r → raised_by ≡ Err r
    raised_refused r a = stops Err (λ s. Ok (max start s)) e a

  -- ---- the walk along the links
  abbrev pub raise_step : ℕ → ℕ → (ℕ → Result ℕ ClockError) → Result ℕ ClockError
  raise_step start k f = via Err (link_start p d i k) (λ x. f (max start x))

  pub raised_gathers : (ks : List ℕ) (start : ℕ) → raised p d i ks start ≡ gather raise_step Ok ks start
  unfolding raised gather
  raised_gathers [] start = refl
  raised_gathers (k ∷ ks) start = λ z. via Err (link_start p d i k) (λ x. raised_gathers ks (max start x) z)

  module _ (k start : ℕ) {x : Result ℕ ClockError} (e : x ≡ via Err (link_start p d i k) (λ s. Ok (max start s))) where
    pub raise_turn : (s : ℕ) → x ≡ Ok s → (f : ℕ → Result ℕ ClockError) → raise_step start k f ≡ f s
    raise_turn s a f = turn (link_start p d i k) start s f (sym e ∙ a)

    pub raise_stop : (r : ClockError) → x ≡ Err r → (f : ℕ → Result ℕ ClockError) → raise_step start k f ≡ Err r
    raise_stop r a f = stop (link_start p d i k) start r f (sym e ∙ a)

  -- ---- the placing after the links
  module _ (a : Result Actual ClockError) (least : ℕ) (q : least ≡ floor p) {x : Result ℕ ClockError} (e : x ≡ raised p d i (ties_into p i) least) where
    from_floor : x ≡ raised p d i (ties_into p i) (floor p)
    from_floor = e ∙ ap (raised p d i (ties_into p i)) q

    pub after_links_lem : (s : ℕ) → x ≡ Ok s → after_links p d i a ≡ after_start p d i a s
    after_links_lem s h = goes_on_lem refused (after_start p d i a) from_floor h

    pub after_links_refused : (k : ClockError) → x ≡ Err k → after_links p d i a ≡ refused k
    after_links_refused k h = stops refused (after_start p d i a) from_floor h
