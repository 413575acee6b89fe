-- Whether a link sets the start of its successor, by where its bound places it.
use Rattle.std.specs.Prelude.{◌≡◌, refl, Bool, ◌&&◌, ◌≢◌, ℕ, eqb, Result, Ok, Err}
use Rattle.worktime.specs.declared.ClockError.{ClockError}
use Rattle.std.proofs.Math.Path.{sym, ap, ap₂}
use Rattle.std.proofs.Common.{◌∙◌, eq-eqb, ne_eqb}
use Rattle.std.proofs.Math.Bool.{false, not}
use Rattle.placing.specs.Placing.{via, place_start}
use Rattle.placing.proofs.PlacingLaws.{via_at, via_refused}
use Rattle.order.specs.Plan.{Plan}
use Rattle.passes.specs.Plan.{own, tie, kind_of, recorded}
use Rattle.passes.specs.Dates.{Early, Pass, refused}
use Rattle.passes.specs.Forward.{link_bound, link_start, start_for}
use Rattle.passes.specs.Floats.{is_completed, drives}
use Rattle.longest.specs.Path.{bound_start}

-- a walk after a walk, and what follows both
via_via : {A : Type 0} (stop : ClockError → A) (x : Result ℕ ClockError) (f : ℕ → Result ℕ ClockError) (go : ℕ → A) → via stop (via Err x f) go ≡ via stop x (λ b. via stop (f b) go)
via_via stop (Ok t) f go = refl
via_via stop (Err k) f go = refl

via_each : {A : Type 0} (stop : ClockError → A) (x : Result ℕ ClockError) (f g : ℕ → A) → ((b : ℕ) → f b ≡ g b) → via stop x f ≡ via stop x g
via_each stop (Ok t) f g h = h t
via_each stop (Err k) f g h = refl

module _ (p : Plan) (d : Early) (i t : ℕ) where
  -- ---- where the bound places i
  pub start_no_bound : (x : Result ℕ ClockError) (k : ClockError) → x ≡ link_bound p d t → x ≡ Err k → bound_start p d i t ≡ Err k
  unfolding bound_start
  start_no_bound x k e f = via_refused Err (link_bound p d t) _ k (sym e ∙ f)

  module _ (x : Result ℕ ClockError) (b : ℕ) (e : x ≡ link_bound p d t) (f : x ≡ Ok b) (y : Result ℕ ClockError) (g : y ≡ start_for p i (d.left i) (tie p t).kind b) where
    from_bound : bound_start p d i t ≡ via Err y (place_start (own p i) (kind_of p i))
    unfolding bound_start
    from_bound = via_at Err (link_bound p d t) _ b (sym e ∙ f) ∙ ap (λ (w : Result ℕ ClockError). via Err w (place_start (own p i) (kind_of p i))) (sym g)

    pub start_no_start : (k : ClockError) → y ≡ Err k → bound_start p d i t ≡ Err k
    start_no_start k h = from_bound ∙ via_refused Err y (place_start (own p i) (kind_of p i)) k h

    pub start_placed : (s : ℕ) → y ≡ Ok s → bound_start p d i t ≡ place_start (own p i) (kind_of p i) s
    start_placed s h = from_bound ∙ via_at Err y (place_start (own p i) (kind_of p i)) s h

  -- the same from the start that the link leaves i
  module _ (x : Result ℕ ClockError) (e : x ≡ link_start p d i t) where
    from_link : bound_start p d i t ≡ via Err x (place_start (own p i) (kind_of p i))
    unfolding bound_start
    from_link =
        sym (via_via Err (link_bound p d t) (start_for p i (d.left i) (tie p t).kind) (place_start (own p i) (kind_of p i)))
        ∙ ap (λ (y : Result ℕ ClockError). via Err y (place_start (own p i) (kind_of p i))) (sym e)

    pub start_refused_by_link : (k : ClockError) → x ≡ Err k → bound_start p d i t ≡ Err k
    start_refused_by_link k h = from_link ∙ via_refused Err x (place_start (own p i) (kind_of p i)) k h

    pub start_placed_by_link : (s : ℕ) → x ≡ Ok s → bound_start p d i t ≡ place_start (own p i) (kind_of p i) s
    start_placed_by_link s h = from_link ∙ via_at Err x (place_start (own p i) (kind_of p i)) s h

  -- ---- whether it sets the start
  module _ (go : Bool → Pass (ℕ → Bool)) where
    whether : ℕ → Bool
    whether u = eqb u (d.es i) && not (is_completed p (recorded p (tie p t).from))

    drives_is : drives p d i t go ≡ via refused (bound_start p d i t) (λ u. go (whether u))
    unfolding drives bound_start whether
    drives_is =
        sym
        (via_via refused (link_bound p d t) (λ b. via Err (start_for p i (d.left i) (tie p t).kind b) (place_start (own p i) (kind_of p i))) (λ u. go (whether u))
        ∙ via_each refused (link_bound p d t) _ _
        (λ b. via_via refused (start_for p i (d.left i) (tie p t).kind b) (place_start (own p i) (kind_of p i)) (λ u. go (whether u))))

    module _ (x : Result ℕ ClockError) (e : x ≡ bound_start p d i t) where
      pub drives_refused : (k : ClockError) → x ≡ Err k → refused k ≡ drives p d i t go
      drives_refused k f = sym (drives_is ∙ via_refused refused (bound_start p d i t) (λ u. go (whether u)) k (sym e ∙ f))

      module _ (u : ℕ) (f : x ≡ Ok u) where
        placed_at : (b : Bool) → whether u ≡ b → go b ≡ drives p d i t go
        placed_at b h = sym (drives_is ∙ via_at refused (bound_start p d i t) (λ v. go (whether v)) u (sym e ∙ f) ∙ ap go h)

        pub drives_elsewhere : u ≢ d.es i → go false ≡ drives p d i t go
        unfolding whether
        drives_elsewhere n = placed_at false (ap (λ (c : Bool). c && not (is_completed p (recorded p (tie p t).from))) (ne_eqb u (d.es i) n))

        module _ (here : u ≡ d.es i) where
          by_record : (c : Bool) → is_completed p (recorded p (tie p t).from) ≡ c → whether u ≡ not c
          unfolding whether
          by_record c h = ap₂ (λ (x y : Bool). x && not y) (eq-eqb u (d.es i) here) h

          pub drives_by : (b : Bool) → is_completed p (recorded p (tie p t).from) ≡ b → go (not b) ≡ drives p d i t go
          drives_by b h = placed_at (not b) (by_record b h)
