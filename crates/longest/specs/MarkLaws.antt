-- The marks along the links into an activity, and those of an activity's turn.
use Rattle.std.specs.Prelude.{◌≡◌, Bool, ℕ, ◌<◌, Result, Ok, Err}
use Rattle.worktime.specs.declared.ClockError.{ClockError}
use Rattle.std.proofs.Math.Path.{refl, ap}
use Rattle.std.proofs.Common.{sym, ◌∙◌}
use Rattle.std.proofs.Math.Bool.{true, false}
use mathlib.Core.List.{List, [], ◌∷◌}
use Rattle.cells.specs.Chain.{after, gather}
use Rattle.memory.specs.State.{State, put_act}
use Rattle.memory.specs.Fields.{longest_path, to_field}
use Rattle.worktime.specs.Reads.{on_true, on_false}
use Rattle.order.specs.Plan.{Plan}
use Rattle.passes.specs.Plan.{tie, ties_into}
use Rattle.passes.specs.Dates.{Early, Pass, leaves, refused, put}
use Rattle.passes.specs.Floats.{drives, marked, on_path}
use Rattle.dates.specs.Columns.{path_in}
use Rattle.dates.specs.ColumnLaws.{flags_put}
use Rattle.dates.specs.Standing.{Standing}
use Rattle.dates.specs.StandingLaws.{into_is}
use Rattle.longest.specs.Path.{driven, marks}

module _ (p : Plan) (d : Early) (i : ℕ) where
  -- the definition's walk is the chain's
  pub marked_gather : (ts : List ℕ) (on : ℕ → Bool) → gather (marks p d i) leaves ts on ≡ marked p d i ts on
  unfolding gather marked
  marked_gather [] on = refl
  marked_gather (t ∷ ts) on =
      let e : gather (marks p d i) leaves ts ≡ marked p d i ts = λ z f. marked_gather ts f z in
      ap (λ (go : (ℕ → Bool) → Pass (ℕ → Bool)). drives p d i t (λ b. go (elim b [ true ↦ put on (tie p t).from true | false ↦ on ]))) e

  pub marked_chain : {t : ℕ} {S : State} → Standing p t S → (on : ℕ → Bool)
      → gather (marks p d i) leaves (after (S.link to_field) t i 0) on ≡ marked p d i (ties_into p i) on
  marked_chain W on = ap (λ (ts : List ℕ). gather (marks p d i) leaves ts on) (into_is p W i) ∙ marked_gather (ties_into p i) on

  -- ---- the turn of activity i
  module _ (on : ℕ → Bool) where
    pub path_on : on i ≡ true → on_path p d on i ≡ marked p d i (ties_into p i) on
    unfolding on_path
    path_on e = on_true (on i) (marked p d i (ties_into p i) on) (leaves on) e

    pub path_off : on i ≡ false → on_path p d on i ≡ leaves on
    unfolding on_path
    path_off e = on_false (on i) (marked p d i (ties_into p i) on) (leaves on) e

-- ---- one link's turn, by whether it sets the start
module _ (p : Plan) (d : Early) (i k : ℕ) (S : State) (other : ℕ → Bool) (go : (ℕ → Bool) → Pass (ℕ → Bool)) (x : Result Bool ClockError)
    (e : (f : Bool → Pass (ℕ → Bool)) → driven x f ≡ drives p d i k f) where
  abbrev next : Bool → Pass (ℕ → Bool)
  next b = go (elim b [ true ↦ put (path_in p S other) (tie p k).from true | false ↦ path_in p S other ])

  pub mark_refused : (m : ClockError) → x ≡ Err m → refused m ≡ marks p d i (path_in p S other) k go
  mark_refused m f = sym (ap (λ (y : Result Bool ClockError). driven y next) f) ∙ e next

  pub mark_leaves : x ≡ (Ok false) → go (path_in p S other) ≡ marks p d i (path_in p S other) k go
  mark_leaves f = sym (ap (λ (y : Result Bool ClockError). driven y next) f) ∙ e next

  pub mark_sets : x ≡ (Ok true) → (T : State) (v : ℕ) → v < p.activities → v ≡ (tie p k).from → T ≡ put_act S longest_path v 1
      → go (path_in p T other) ≡ marks p d i (path_in p S other) k go
  mark_sets f T v l g h =
      ap go
      (ap (λ (U : State). path_in p U other) h ∙ flags_put p.activities other longest_path S v true l
      ∙ ap (λ (j : ℕ). put (path_in p S other) j true) g)
      ∙ sym (ap (λ (y : Result Bool ClockError). driven y next) f) ∙ e next
