-- The plain forms are the definition's: free float in two stages, and the way laws of each.
use Rattle.std.specs.Prelude.{◌≡◌, ◌⊎◌, Bool, true, false, ℕ, eqb, ℤ, Result, Ok, Err, Option}
use Rattle.floats.specs.Slack.{moved_to}
use Rattle.worktime.specs.declared.ClockError.{ClockError}
use Rattle.std.proofs.Math.Path.{refl, sym}
use Rattle.std.proofs.Common.{ap, ◌∙◌, inl, inr, eq-eqb, ne_eqb}
use mathlib.Core.List.{List, [], ◌∷◌}
use Rattle.number.specs.Sign.{min_z}
use Rattle.number.specs.Zed.{up}
use Rattle.worktime.specs.Walks.{advance, retreat, between}
use Rattle.worktime.specs.Reads.{on_true, on_false}
use Rattle.project.specs.declared.ActivityKind.{ActivityKind}
use Rattle.project.specs.declared.Constraint.{Constraint}
use Rattle.placing.specs.declared.Actual.{Actual}
use Rattle.placing.specs.declared.Actual.TheVariants.{Unstarted, Begun, Completed}
use Rattle.placing.specs.Placing.{via, place_start, finish_of}
use Rattle.placing.proofs.PlacingLaws.{via_at, via_refused}
use Rattle.cells.specs.Chain.{gather}
use Rattle.order.specs.Plan.{Plan}
use Rattle.order.specs.Ids.{summary}
use Rattle.passes.specs.Plan.{own, tie, ties_out, kind_of, recorded, begun}
use Rattle.passes.specs.Dates.{Early, Late, Freed, Pass, leaves, refused, put}
use Rattle.passes.specs.Forward.{forward_bound, early}
use Rattle.passes.specs.Floats.{measured, is_late, not_begun, gap, slack_by, holds_late, held_start, held_move, free_by, freed, free_float}
use Rattle.floats.specs.Slack.{marked_late, start_moved, dates_moved, on_moved, gap_by, gap_of, least_slack, slack_of, free_of}

-- ---- what follows a count
module _ {A : Type 0} (refusal : ClockError → A) (x : Result ℤ ClockError) (go : ℤ → A) where
  pub measured_at : (z : ℤ) → x ≡ Ok z → measured refusal x go ≡ go z
  measured_at z e = rw e

  pub measured_refused : (k : ClockError) → x ≡ Err k → measured refusal x go ≡ refusal k
  measured_refused k e = rw e

-- one count after another, and a count after a walk
measured_measured : {A : Type 0} (refusal : ClockError → A) (x : Result ℤ ClockError) (f : ℤ → Result ℤ ClockError) (go : ℤ → A)
    → measured refusal (measured Err x f) go ≡ measured refusal x (λ z. measured refusal (f z) go)
measured_measured refusal (Ok z) f go = refl
measured_measured refusal (Err k) f go = refl

measured_via : {A : Type 0} (refusal : ClockError → A) (x : Result ℕ ClockError) (f : ℕ → Result ℤ ClockError) (go : ℤ → A)
    → measured refusal (via Err x f) go ≡ via refusal x (λ b. measured refusal (f b) go)
measured_via refusal (Ok t) f go = refl
measured_via refusal (Err k) f go = refl

via_measured : {A : Type 0} (refusal : ClockError → A) (x : Result ℤ ClockError) (f : ℤ → Result ℕ ClockError) (go : ℕ → A)
    → via refusal (measured Err x f) go ≡ measured refusal x (λ z. via refusal (f z) go)
via_measured refusal (Ok z) f go = refl
via_measured refusal (Err k) f go = refl

-- what follows is the same for each count
measured_same : {A : Type 0} (refusal : ClockError → A) (x : Result ℤ ClockError) (f g : ℤ → A) → ((z : ℤ) → f z ≡ g z) → measured refusal x f ≡ measured refusal x g
measured_same refusal (Ok z) f g h = h z
measured_same refusal (Err k) f g h = refl

module _ (p : Plan) (d : Early) where
  -- ---- the definition's continuations as plain values
  pub gap_is : (i t : ℕ) (go : ℤ → Pass Freed) → gap p d i t go ≡ measured refused (gap_of p d i t) go
  unfolding gap gap_by
  gap_is i t go = sym (measured_via refused (forward_bound p (tie p t) (begun p (recorded p i) (d.es i)) (d.ef i)) _ go)

  pub slack_is : (i : ℕ) (ts : List ℕ) (slack : ℤ) (go : ℤ → Pass Freed) → slack_by p d i ts slack go ≡ measured refused (least_slack p d i ts slack) go
  unfolding slack_by gather
  slack_is i [] slack go = refl
  slack_is i (t ∷ ts) slack go =
      gap_is i t (λ g. slack_by p d i ts (min_z slack g) go)
      ∙ measured_same refused (gap_of p d i t) _ _ (λ g. slack_is i ts (min_z slack g) go)
      ∙ sym (measured_measured refused (gap_of p d i t) (λ g. least_slack p d i ts (min_z slack g)) go)

  pub held_start_is : (i n : ℕ) → held_start p d i n ≡ start_moved (own p i) (kind_of p i) (d.es i) (d.ef i) (d.left i) n
  unfolding held_start start_moved
  held_start_is i n = refl

  pub holds_late_summary : (i : ℕ) → summary p i ≡ true → holds_late p d i ≡ false
  unfolding holds_late
  holds_late_summary i e = rw e

  pub holds_late_else : (i : ℕ) → summary p i ≡ false
      → holds_late p d i ≡ marked_late p d (recorded p i) (p.activity i).constraint (p.activity i).secondary_constraint
  unfolding holds_late marked_late
  holds_late_else i e = rw e

moved_via : {A : Type 0} (refusal : ClockError → A) (x : Result ℕ ClockError) (f : ℕ → Result ℕ ClockError) (go : ℕ → ℕ → A)
    → on_moved refusal (via Err x (λ s. via Err (f s) (λ u. moved_to s u))) go ≡ via refusal x (λ s. via refusal (f s) (λ u. go s u))
moved_via refusal (Ok s) f go = inner (f s)
  where
    inner : (y : Result ℕ ClockError) → on_moved refusal (via Err y (λ u. moved_to s u)) go ≡ via refusal y (λ u. go s u)
    inner (Ok u) = refl
    inner (Err k) = refl
moved_via refusal (Err k) f go = refl

pub held_move_is : (p : Plan) (d : Early) (i n : ℕ) (free : ℕ → ℕ)
    → held_move p d i n free
    ≡ on_moved refused (dates_moved (own p i) (kind_of p i) (d.es i) (d.ef i) (d.left i) n)
    (λ s f. leaves (record { early = early p d i s f (d.left i); free = put free i 0 }))
unfolding held_move dates_moved
held_move_is p d i n free =
    let go : ℕ → ℕ → Pass Freed = λ s f. leaves (record { early = early p d i s f (d.left i); free = put free i 0 }) in
    ap (λ (x : Result ℕ ClockError). via refused x (λ s. via refused (finish_of (own p i) (d.left i) s) (λ f. go s f))) (held_start_is p d i n)
    ∙ sym (moved_via refused (start_moved (own p i) (kind_of p i) (d.es i) (d.ef i) (d.left i) n) (finish_of (own p i) (d.left i)) go)

-- free float in two stages: what is found, and what becomes of it
pub free_is : (p : Plan) (finish : ℕ) (l : Late) (x : Freed) (i : ℕ)
    → free_float p finish l x i ≡ via refused (free_of p x.early finish (l.lf i) i) (λ n. freed p x.early i n x.free)
unfolding free_float free_of slack_of
free_is p finish l x i =
    let d = x.early in
    let w = own p i in
    let total = between w (d.ef i) (l.lf i) in
    let last : ℕ → Pass Freed = λ n. freed p d i n x.free in
    let end : ℤ → Pass Freed = λ least. measured refused total (λ z. last (free_by p d (recorded p i) least z)) in
    measured_same refused (between w (d.ef i) finish) _ _ (λ slack. slack_is p d i (ties_out p i) slack end)
    ∙ sym (measured_measured refused (between w (d.ef i) finish) (least_slack p d i (ties_out p i)) end)
    ∙ measured_same refused (slack_of p d finish i) _ _ (λ least. sym (via_measured refused total (λ z. Ok (free_by p d (recorded p i) least z)) last))
    ∙ sym (via_measured refused (slack_of p d finish i) (λ least. measured Err total (λ z. Ok (free_by p d (recorded p i) least z))) last)

-- ---- the mark, by its ways
module _ (p : Plan) (d : Early) (actual : Actual) (first second : Option Constraint) where
  pub marked_first : actual ≡ Unstarted → is_late first ≡ true → marked_late p d (Ok actual) first second ≡ true
  unfolding marked_late
  marked_first e f = rw (e, f)

  pub marked_second : actual ≡ Unstarted → is_late first ≡ false → marked_late p d (Ok actual) first second ≡ is_late second
  unfolding marked_late
  marked_second e f = rw (e, f)

  pub marked_in_hand : ((s : ℕ) × (actual ≡ Begun s)) ⊎ ((s : ℕ) × (f : ℕ) × (actual ≡ Completed s f))
      → marked_late p d (Ok actual) first second ≡ false
  unfolding marked_late
  marked_in_hand (inl (s, e)) = rw e
  marked_in_hand (inr (s, f, e)) = rw e

pub marked_begun : (p : Plan) (d : Early) (actual : Result Actual ClockError) (first second : Option Constraint) → not_begun p d actual ≡ false
    → marked_late p d actual first second ≡ false
unfolding marked_late
marked_begun p d actual first second e = rw e

-- ---- the free float of work that is not completed
pub free_left : (p : Plan) (d : Early) (actual : Actual) (slack total : ℤ) → (actual ≡ Unstarted) ⊎ ((s : ℕ) × (actual ≡ Begun s))
    → free_by p d (Ok actual) slack total ≡ up (min_z slack total)
free_left p d actual slack total (inl e) = rw e
free_left p d actual slack total (inr (s, e)) = rw e

-- ---- the moved start and dates, by their ways
module _ (w : ℕ → Bool) (kind : ActivityKind) (es ef left n : ℕ) where
  abbrev placed_on : ℕ → Result ℕ ClockError
  placed_on moved = elim (eqb left 0) [ true ↦ Ok moved | false ↦ via Err (advance w ef n) (λ f. retreat w f left) ]

  pub start_moved_refuses : (k : ClockError) → advance w es n ≡ Err k → start_moved w kind es ef left n ≡ Err k
  unfolding start_moved
  start_moved_refuses k a = via_refused Err (advance w es n) (λ t. via Err (place_start w kind t) placed_on) k a

  module _ (t : ℕ) (a : advance w es n ≡ Ok t) where
    first : start_moved w kind es ef left n ≡ via Err (place_start w kind t) placed_on
    unfolding start_moved
    first = via_at Err (advance w es n) (λ t. via Err (place_start w kind t) placed_on) t a

    pub start_moved_unplaced : (k : ClockError) → place_start w kind t ≡ Err k → start_moved w kind es ef left n ≡ Err k
    start_moved_unplaced k b = first ∙ via_refused Err (place_start w kind t) placed_on k b

    module _ (m : ℕ) (b : place_start w kind t ≡ Ok m) where
      pub start_moved_none : left ≡ 0 → start_moved w kind es ef left n ≡ Ok m
      start_moved_none z = first ∙ via_at Err (place_start w kind t) placed_on m b ∙ on_true (eqb left 0) (Ok m) _ (eq-eqb left 0 z)

      some : (left ≡ 0 → ⊥) → start_moved w kind es ef left n ≡ via Err (advance w ef n) (λ f. retreat w f left)
      some z = first ∙ via_at Err (place_start w kind t) placed_on m b ∙ on_false (eqb left 0) (Ok m) _ (ne_eqb left 0 z)

      pub start_moved_far : (left ≡ 0 → ⊥) → (k : ClockError) → advance w ef n ≡ Err k → start_moved w kind es ef left n ≡ Err k
      start_moved_far z k c = some z ∙ via_refused Err (advance w ef n) (λ f. retreat w f left) k c

      pub start_moved_back : (left ≡ 0 → ⊥) → (f : ℕ) → advance w ef n ≡ Ok f → start_moved w kind es ef left n ≡ retreat w f left
      start_moved_back z f c = some z ∙ via_at Err (advance w ef n) (λ f. retreat w f left) f c

  pub dates_moved_refuses : (k : ClockError) → start_moved w kind es ef left n ≡ Err k → dates_moved w kind es ef left n ≡ Err k
  unfolding dates_moved
  dates_moved_refuses k a = rw a

  module _ (s : ℕ) (a : start_moved w kind es ef left n ≡ Ok s) where
    pub dates_moved_far : (k : ClockError) → finish_of w left s ≡ Err k → dates_moved w kind es ef left n ≡ Err k
    unfolding dates_moved
    dates_moved_far k b = rw (a, b)

    pub dates_moved_to : (f : ℕ) → finish_of w left s ≡ Ok f → dates_moved w kind es ef left n ≡ moved_to s f
    unfolding dates_moved
    dates_moved_to f b = rw (a, b)
