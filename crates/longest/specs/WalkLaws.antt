-- The walk along the links into an activity, and the pass over the activities from the last of the order to the first, as loops take them.
use Rattle.std.specs.Prelude.{◌≡◌, refl, Bool, true, false, reverse, ◌≢◌, ℕ, ◌+◌, ◌-◌, ◌≤◌, ◌<◌, ltb, length, get_or, Result, Ok, Err}
use Rattle.worktime.specs.declared.ClockError.{ClockError}
use Rattle.std.proofs.Common.{sym, ap, ◌∙◌, arith, lt-ltb, le-ltb}
use Rattle.cells.specs.Chain.{Stands}
use Rattle.cells.specs.ChainLaws.{Cursor, cursor_start, cursor_turn, cursor_stop, cursor_end}
use Rattle.memory.specs.State.{State}
use Rattle.memory.specs.Fields.{first_in, order_at, longest_path, to_field, next_into}
use Rattle.topology.specs.Frame.{Frame}
use Rattle.order.specs.Plan.{Plan}
use Rattle.order.specs.Checks.{order, checked}
use Rattle.passes.specs.Plan.{ties_into}
use Rattle.passes.specs.Dates.{Early, Pass, leaves, refused, after, through}
use Rattle.passes.specs.Floats.{last_ones, marked, on_path}
use Rattle.passes.specs.Run.{path_pass}
use Rattle.dates.specs.Columns.{early_in, path_in, ended}
use Rattle.dates.specs.ColumnLaws.{flags_at}
use Rattle.dates.specs.Standing.{Standing}
use Rattle.dates.specs.KeptLaws.{early_kept}
use Rattle.dates.specs.OrderLaws.{back_length, back_at}
use Rattle.dates.specs.ThroughLaws.{Through, through_start, through_turn, through_stop, through_end}
use Rattle.longest.specs.Path.{marks}
use Rattle.longest.specs.MarkLaws.{marked_chain, path_on, path_off}

-- ---- the links into activity i, from the memory S₀ on
-- link k is next, and the marks stand in S
abbrev pub Marking : Plan → ℕ → State → ℕ → State → (ℕ → Bool) → ℕ → Type 0
Marking p t S₀ i S other k = Cursor (marks p (early_in p S₀) i) leaves (S₀.link to_field) t i (path_in p S₀ other) (path_in p S other) k

module _ (p : Plan) {t : ℕ} {S₀ : State} (W : Standing p t S₀) (i : ℕ) where
  pub marking_start : i < p.activities → (k : ℕ) → k ≡ S₀.act first_in i → (other : ℕ → Bool) → Marking p t S₀ i S₀ other k
  marking_start l k e other =
      cursor_start (marks p (early_in p S₀) i) leaves (S₀.link to_field) t i (path_in p S₀ other) (rw e (W.chains_in.heads i l))

  module _ {S : State} (F : Frame 16 17 0 0 S₀ S) {k : ℕ} (l : k < t) where
    pub next_stands : {T : State} → Frame 16 17 0 0 S T → (k' : ℕ) → k' ≡ T.link next_into k → Stands (S₀.link to_field) t (S₀.link to_field k) (k + 1) k'
    next_stands G k' e =
        rw (e ∙ ap (λ (c : ℕ → ℕ). c k) (G.links next_into refl ∙ F.links next_into refl)) (W.chains_in.nexts k (omega arith) l)

    module _ (other : ℕ → Bool) (C : Marking p t S₀ i S other k) (T : State) (r : Result Unit ClockError)
        (e : (go : (ℕ → Bool) → Pass (ℕ → Bool)) → after (ended (path_in p T other) r) go ≡ marks p (early_in p S) i (path_in p S other) k go) where
      step : (go : (ℕ → Bool) → Pass (ℕ → Bool)) → marks p (early_in p S₀) i (path_in p S other) k go ≡ after (ended (path_in p T other) r) go
      step go = ap (λ (d : Early). marks p d i (path_in p S other) k go) (sym (early_kept F p refl refl refl)) ∙ sym (e go)

      pub marking_turn : Frame 16 17 0 0 S T → r ≡ (Ok tt) → (k' : ℕ) → k' ≡ T.link next_into k → Marking p t S₀ i T other k'
      marking_turn G d k' f =
          cursor_turn (marks p (early_in p S₀) i) leaves (S₀.link to_field) t i (path_in p S₀ other) C (path_in p T other) l (next_stands G k' f)
          (λ go. step go ∙ ap (λ (x : Result Unit ClockError). after (ended (path_in p T other) x) go) d)

      pub marking_stop : (m : ClockError) → r ≡ Err m → refused m ≡ marked p (early_in p S₀) i (ties_into p i) (path_in p S₀ other)
      marking_stop m d =
          cursor_stop (marks p (early_in p S₀) i) leaves (S₀.link to_field) t i (path_in p S₀ other) C (refused m) l
          (λ go. step go ∙ ap (λ (x : Result Unit ClockError). after (ended (path_in p T other) x) go) d)
          ∙ marked_chain p (early_in p S₀) i W (path_in p S₀ other)

  pub marking_end : (S : State) (other : ℕ → Bool) {k : ℕ} → Marking p t S₀ i S other k → t ≤ k
      → leaves (path_in p S other) ≡ marked p (early_in p S₀) i (ties_into p i) (path_in p S₀ other)
  marking_end S other C l =
      cursor_end (marks p (early_in p S₀) i) leaves (S₀.link to_field) t i (path_in p S₀ other) C l ∙ marked_chain p (early_in p S₀) i W (path_in p S₀ other)

-- ---- activity i in its turn, by its mark
module _ (p : Plan) (S : State) (i : ℕ) (l : i < p.activities) (other : ℕ → Bool) (v : ℕ) (e : v ≡ S.act longest_path i) where
  flag_is : (b : Bool) → ltb 0 v ≡ b → path_in p S other i ≡ b
  flag_is b f = flags_at p.activities other longest_path S i l ∙ ap (ltb 0) (sym e) ∙ f

  pub turn_on : v ≢ 0 → on_path p (early_in p S) (path_in p S other) i ≡ marked p (early_in p S) i (ties_into p i) (path_in p S other)
  turn_on n = path_on p (early_in p S) i (path_in p S other) (flag_is true (lt-ltb 0 v (omega (arith, n))))

  pub turn_off : v ≡ 0 → on_path p (early_in p S) (path_in p S other) i ≡ leaves (path_in p S other)
  turn_off z = path_off p (early_in p S) i (path_in p S other) (flag_is false (le-ltb 0 v (omega arith)))

-- ---- the pass from the memory S₀ on
module _ (p : Plan) (S₀ : State) where
  -- q activities are done, and the marks stand in S
  abbrev pub PathDone : State → (ℕ → Bool) → ℕ → Type 0
  PathDone S other q = Through (on_path p (early_in p S₀)) (reverse (order p)) (path_in p S₀ other) (path_in p S other) q

  abbrev pub whole_path : (ℕ → Bool) → Pass (ℕ → Bool)
  whole_path other = through (on_path p (early_in p S₀)) (reverse (order p)) (path_in p S₀ other)

  pub path_start : (other : ℕ → Bool) → PathDone S₀ other 0
  path_start other = through_start (on_path p (early_in p S₀)) (reverse (order p)) (path_in p S₀ other)

module _ (p : Plan) (fine : (checked p).number ≡ 0) (S₀ : State) where
  module _ {t : ℕ} {S : State} (W : Standing p t S) (F : Frame 16 17 0 0 S₀ S) {q : ℕ} (l : q < p.activities) (other : ℕ → Bool) (B : PathDone p S₀ S other q)
      (i : ℕ) (at : i ≡ S.act order_at (p.activities - (q + 1))) (T : State) (r : Result Unit ClockError)
      (e : ended (path_in p T other) r ≡ on_path p (early_in p S) (path_in p S other) i) where
    here : i ≡ get_or (reverse (order p)) q 0
    here = at ∙ back_at p fine W q l

    inside : q < length (reverse (order p))
    inside = omega (arith, back_length p fine)

    placed : ended (path_in p T other) r ≡ on_path p (early_in p S₀) (path_in p S other) i
    placed = e ∙ ap (λ (d : Early). on_path p d (path_in p S other) i) (early_kept F p refl refl refl)

    pub path_turn : r ≡ (Ok tt) → PathDone p S₀ T other (q + 1)
    path_turn d =
        through_turn (on_path p (early_in p S₀)) (reverse (order p)) (path_in p S₀ other) B i here inside (path_in p T other) r placed d

    pub path_stop : (m : ClockError) → r ≡ Err m → refused m ≡ whole_path p S₀ other
    path_stop m d =
        through_stop (on_path p (early_in p S₀)) (reverse (order p)) (path_in p S₀ other) B i here inside (path_in p T other) r placed (path_in p T other) m d

  pub path_end : (S : State) (other : ℕ → Bool) {q : ℕ} → PathDone p S₀ S other q → p.activities ≤ q → leaves (path_in p S other) ≡ whole_path p S₀ other
  path_end S other B l =
      through_end (on_path p (early_in p S₀)) (reverse (order p)) (path_in p S₀ other) B (omega (arith, back_length p fine))

-- ---- the marks of what finishes the project first, and then the pass
pub pass_is : (p : Plan) (S₀ S : State) → Frame 16 17 0 0 S₀ S → (finish : ℕ) (x : Pass (ℕ → Bool))
    → path_in p S (last_ones p (early_in p S₀) finish) ≡ last_ones p (early_in p S₀) finish
    → x ≡ through (on_path p (early_in p S)) (reverse (order p)) (path_in p S (last_ones p (early_in p S₀) finish))
    → x ≡ path_pass p finish (early_in p S₀)
unfolding path_pass
pass_is p S₀ S F finish x e f = f ∙ (λ z. through (on_path p (early_kept F p refl refl refl z)) (reverse (order p)) (e z))
