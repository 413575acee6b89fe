-- One law for each way to an activity's late dates.
use Rattle.std.specs.Prelude.{◌≡◌, refl, Bool, true, false, ◌&&◌, ℕ, ◌^◌, ◌≤◌, ◌<◌, ltb, leb, Result, Ok, Err}
use Rattle.late.specs.Times.{dates_of}
use Rattle.dates.specs.declared.Span.{Span}
use Rattle.worktime.specs.declared.ClockError.{ClockError}
use Rattle.std.proofs.Common.{◌∙◌, ap, arith}
use borrow.Author.Tests.{lt-ltb, le-ltb, le-leb, lt-leb}
use Rattle.worktime.specs.Reads.{on_true, on_false}
use Rattle.placing.specs.Placing.{via, bounded, place_finish, latest_same, start_of}
use Rattle.placing.proofs.PlacingLaws.{via_at, via_refused}
use Rattle.placing.proofs.PlacingSound.{bounded_sound}
use Rattle.order.specs.Plan.{Plan}
use Rattle.passes.specs.Plan.{own, origin, kind_of}
use Rattle.passes.specs.Dates.{Early, Late, leaves, refused}
use Rattle.passes.specs.Backward.{lifted, late, placed_late}
use Rattle.late.specs.Times.{Fitting}

and_second : (b : Bool) → (b && false) ≡ false
and_second true = refl
and_second false = refl

-- ---- what fits the memory
pub fitting_refused : (k : ClockError) → Fitting (Err k)
fitting_refused k s f e = let z : ◌≡◌ {A = ℕ} 0 1 = cc in absurd (omega arith)

pub fitting_dates : (s f : ℕ) → s < 2 ^ 63 → f < 2 ^ 63 → Fitting (dates_of s f)
fitting_dates s f a b t g e =
    let q : ◌≡◌ {A = Span} (record { start = s; finish = f }) (record { start = t; finish = g }) = cc in
    let x : s ≡ t = ap (λ (z : Span). z.start) q in
    let y : f ≡ g = ap (λ (z : Span). z.finish) q in
    (omega arith, omega arith)

pub fits_at : (t : ℕ) → t < 2 ^ 63 → (v : ℕ) → ◌≡◌ {A = Result ℕ ClockError} (Ok t) (Ok v) → v < 2 ^ 63
fits_at t h v e = let z : t ≡ v = cc in omega arith

pub fits_refused : (k : ClockError) (v : ℕ) → ◌≡◌ {A = Result ℕ ClockError} (Err k) (Ok v) → v < 2 ^ 63
fits_refused k v e = let z : ◌≡◌ {A = ℕ} 0 1 = cc in absurd (omega arith)

pub bounded_fits : (o t b : ℕ) → o < 2 ^ 43 → bounded o t ≡ Ok b → b < 2 ^ 63
bounded_fits o t b h e = let q = bounded_sound o t b e in omega (arith, q.0, q.1)

module _ (p : Plan) (d : Early) (l : Late) (i : ℕ) where
  -- ---- the late finish lifted to the early one
  module _ (latest f : ℕ) where
    pub lifted_not_before : d.ef i ≤ f → lifted p d l i latest f ≡ Ok f
    unfolding lifted
    lifted_not_before h = rw (le-ltb f (d.ef i) h, lifted)

    pub lifted_after_latest : latest < d.ef i → lifted p d l i latest f ≡ Ok f
    unfolding lifted
    lifted_after_latest h = rw (lt-leb (d.ef i) latest h, and_second (ltb f (d.ef i)), lifted)

    module _ (a : f < d.ef i) (b : d.ef i ≤ latest) where
      lifted_walk : lifted p d l i latest f ≡ via Err (latest_same (own p i) f) (λ s. elim (leb (d.ef i) s) [ true ↦ Ok (d.ef i) | false ↦ Ok f ])
      unfolding lifted
      lifted_walk = rw (lt-ltb f (d.ef i) a, le-leb (d.ef i) latest b, lifted)

      pub lifted_refused : (k : ClockError) → latest_same (own p i) f ≡ Err k → lifted p d l i latest f ≡ Err k
      lifted_refused k e = lifted_walk ∙ via_refused Err _ _ k e

      pub lifted_same : (s : ℕ) → latest_same (own p i) f ≡ Ok s → d.ef i ≤ s → lifted p d l i latest f ≡ Ok (d.ef i)
      lifted_same s e h = lifted_walk ∙ via_at Err _ _ s e ∙ on_true (leb (d.ef i) s) (Ok (d.ef i)) (Ok f) (le-leb (d.ef i) s h)

      pub lifted_apart : (s : ℕ) → latest_same (own p i) f ≡ Ok s → s < d.ef i → lifted p d l i latest f ≡ Ok f
      lifted_apart s e h = lifted_walk ∙ via_at Err _ _ s e ∙ on_false (leb (d.ef i) s) (Ok (d.ef i)) (Ok f) (lt-leb (d.ef i) s h)

  -- ---- placed by a latest finish
  module _ (latest : ℕ) where
    pub placed_finish_refused : (k : ClockError) → place_finish (own p i) (kind_of p i) (d.left i) latest ≡ Err k → placed_late p d l i latest ≡ refused k
    unfolding placed_late
    placed_finish_refused k e = via_refused refused _ _ k e

    module _ (t : ℕ) (e : place_finish (own p i) (kind_of p i) (d.left i) latest ≡ Ok t) where
      pub placed_finish_beyond : (k : ClockError) → bounded (origin p) t ≡ Err k → placed_late p d l i latest ≡ refused k
      unfolding placed_late
      placed_finish_beyond k g = via_at refused _ _ t e ∙ via_refused refused _ _ k g

      module _ (b : ℕ) (g : bounded (origin p) t ≡ Ok b) where
        pub placed_lift_refused : (k : ClockError) → lifted p d l i latest b ≡ Err k → placed_late p d l i latest ≡ refused k
        unfolding placed_late
        placed_lift_refused k h = via_at refused _ _ t e ∙ via_at refused _ _ b g ∙ via_refused refused _ _ k h

        module _ (f : ℕ) (h : lifted p d l i latest b ≡ Ok f) where
          pub placed_start_refused : (k : ClockError) → start_of (own p i) (d.left i) f ≡ Err k → placed_late p d l i latest ≡ refused k
          unfolding placed_late
          placed_start_refused k m = via_at refused _ _ t e ∙ via_at refused _ _ b g ∙ via_at refused _ _ f h ∙ via_refused refused _ _ k m

          module _ (u : ℕ) (m : start_of (own p i) (d.left i) f ≡ Ok u) where
            pub placed_start_beyond : (k : ClockError) → bounded (origin p) u ≡ Err k → placed_late p d l i latest ≡ refused k
            unfolding placed_late
            placed_start_beyond k n =
                via_at refused _ _ t e ∙ via_at refused _ _ b g ∙ via_at refused _ _ f h ∙ via_at refused _ _ u m ∙ via_refused refused _ _ k n

            pub placed_at : (s : ℕ) → bounded (origin p) u ≡ Ok s → placed_late p d l i latest ≡ leaves (late p d l i s f)
            unfolding placed_late
            placed_at s n =
                via_at refused _ _ t e ∙ via_at refused _ _ b g ∙ via_at refused _ _ f h ∙ via_at refused _ _ u m ∙ via_at refused _ _ s n
