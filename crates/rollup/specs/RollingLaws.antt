-- The turns of the roll-up.
use Rattle.std.specs.Prelude.{◌≡◌, refl, Bool, ℤ, Result, Ok, Err}
use Rattle.worktime.specs.declared.ClockError.{ClockError}
use Rattle.std.proofs.Math.Path.{sym, ap}
use Rattle.std.proofs.Common.{◌∙◌}
use mathlib.Core.List.{List, [], ◌∷◌, ◌++◌}
use Prim.Native.Nat.{ℕ, suc, ◌+◌, ◌-◌, ◌≤◌, ◌<◌}
use native.Mathlib.Omega.{arith}
use Rattle.cells.specs.Chain.{after, Stands}
use Rattle.cells.specs.ChainLaws.{after_hit, after_end}
use Rattle.worktime.specs.Walks.{between}
use Rattle.memory.specs.State.{State}
use Rattle.memory.specs.Fields.{parent, depth_of, first_deep, next_deep, first_child, next_child}
use Rattle.topology.specs.Frame.{Frame}
use Rattle.order.specs.Plan.{Plan}
use Rattle.passes.specs.Plan.{own}
use Rattle.passes.specs.Dates.{Pass, leaves, refused, put, through}
use Rattle.passes.specs.Dates as pass
use Rattle.passes.specs.Floats.{measured, day_of}
use Rattle.passes.specs.Run.{Ran}
use Rattle.dates.specs.Columns.{ended}
use Rattle.results.specs.declared.Shown.{Shown}
use Rattle.results.specs.declared.row.ShownRow.{ShownRow}
use Rattle.results.specs.Results.{summaries_at, deepest_first, rolled}
use Rattle.results.specs.View.{shown_in, put_shown}
use Rattle.results.specs.ViewLaws.{to_put}
use Rattle.results.specs.Showing.{showing, critical_in}
use Rattle.rollup.specs.Roll.{child_sum, summed}
use Rattle.rollup.specs.RollLaws.{roll_none, roll_some, summaries_are}
use Rattle.rollup.specs.Rolling.{Deep, summed_pass}

-- ---- one summary
abbrev pub put_pass : Pass Shown → (ℕ → Shown) → ℕ → Pass (ℕ → Shown)
put_pass x f s = pass.after x (λ y. leaves (put f s y))

measured_put : (w : Result ℤ ClockError) (g : ℤ → Shown) (f : ℕ → Shown) (s : ℕ) → put_pass (measured refused w (λ t. leaves (g t))) f s ≡ measured refused w (λ t. leaves (put f s (g t)))
measured_put (Ok z) g f s = refl
measured_put (Err k) g f s = refl

module _ (p : Plan) (S : State) (D : Deep p S) (s : ℕ) (b : s < p.activities) where
  pub one_none : p.activities ≤ S.act first_child s → (q : Ran) → ended (shown_in p S) (Ok tt) ≡ rolled p q (shown_in p S) s
  one_none l q = roll_none p q S s D.parents (D.children.heads s b) l (shown_in p S)

  one_some : S.act first_child s < p.activities → (q : Ran) → put_pass (summed_pass p s (child_sum S p.activities s)) (shown_in p S) s ≡ rolled p q (shown_in p S) s
  unfolding summed_pass
  one_some l q =
      let J : Shown = child_sum S p.activities s in
      measured_put (between (own p s) J.finish J.late) (λ t. summed p s t J) (shown_in p S) s ∙ roll_some p q S s D.parents (D.children.heads s b) l

  module _ (l : S.act first_child s < p.activities) (r : Result ShownRow ClockError) (x : Shown) (e : x ≡ child_sum S p.activities s) (h : showing r ≡ summed_pass p s x) where
    by_sum : (q : Ran) → put_pass (showing r) (shown_in p S) s ≡ rolled p q (shown_in p S) s
    by_sum q = ap (λ (y : Pass Shown). put_pass y (shown_in p S) s) (h ∙ ap (summed_pass p s) e) ∙ one_some l q

    pub one_done : (y : ShownRow) (T : State) → r ≡ Ok y → T ≡ put_shown S s y.shown → (q : Ran) → ended (shown_in p T) (Ok tt) ≡ rolled p q (shown_in p S) s
    one_done y T d f q =
        ap (λ (U : State). leaves (shown_in p U)) f ∙ ap leaves (to_put p.activities S s y.shown b) ∙ ap (λ (z : Result ShownRow ClockError). put_pass (showing z) (shown_in p S) s) (sym d) ∙ by_sum q

    pub one_refused : (k : ClockError) (g : ℕ → Shown) → r ≡ Err k → (q : Ran) → ended g (Err k) ≡ rolled p q (shown_in p S) s
    one_refused k g d q = ap (λ (z : Result ShownRow ClockError). put_pass (showing z) (shown_in p S) s) (sym d) ∙ by_sum q

-- ---- the roll-up's fields stay while days and floats are put
pub deep_kept : (p : Plan) (S T : State) → Frame 20 30 0 0 S T → Deep p S → Deep p T
deep_kept p S T F D = record {
  parents = λ j b. ap (λ (f : ℕ → ℕ). f j) (F.acts parent refl) ∙ D.parents j b;
  depths = λ j b. ap (λ (f : ℕ → ℕ). f j) (F.acts depth_of refl) ∙ D.depths j b;
  children = rw (F.acts parent refl, F.acts first_child refl, F.acts next_child refl) D.children;
  deep = rw (F.acts depth_of refl, F.acts first_deep refl, F.acts next_deep refl) D.deep;
}

-- ---- the summaries of a depth
module _ (p : Plan) (S₀ : State) (d : ℕ) where
  abbrev key₀ : ℕ → ℕ
  key₀ = S₀.act depth_of

  -- the next is k
  pub record Rolls (S : State) (k : ℕ) : Type 0 where
    pub top : k ≤ p.activities
    pub hits : k < p.activities → key₀ k ≡ d
    pub frame : Frame 20 30 0 0 S₀ S
    pub left : (q : Ran) → through (rolled p q) (after key₀ p.activities d k) (shown_in p S) ≡ through (rolled p q) (after key₀ p.activities d 0) (shown_in p S₀)

  pub rolls_start : (k : ℕ) → Frame 20 30 0 0 S₀ S₀ → Stands key₀ p.activities d 0 k → Rolls S₀ k
  rolls_start k F T = record {
    top = T.top;
    hits = T.hits;
    frame = F;
    left = λ q. ap (λ (ks : List ℕ). through (rolled p q) ks (shown_in p S₀)) (sym T.rest);
  }

  module _ (S T : State) (k : ℕ) (W : Rolls S k) (b : k < p.activities) (r : Result Unit ClockError) (h : (q : Ran) → ended (shown_in p T) r ≡ rolled p q (shown_in p S) k) where
    on : (q : Ran) → pass.after (ended (shown_in p T) r) (through (rolled p q) (after key₀ p.activities d (k + 1))) ≡ through (rolled p q) (after key₀ p.activities d 0) (shown_in p S₀)
    unfolding through
    on q =
        ap (λ (x : Pass (ℕ → Shown)). pass.after x (through (rolled p q) (after key₀ p.activities d (k + 1)))) (h q)
        ∙ sym (ap (λ (ks : List ℕ). through (rolled p q) ks (shown_in p S)) (after_hit key₀ p.activities d k b (W.hits b))) ∙ W.left q

    pub rolls_turn : (m : ℕ) (U : State) → U ≡ T → r ≡ (Ok tt) → Frame 20 30 0 0 S₀ U → Stands key₀ p.activities (key₀ k) (k + 1) m → Rolls U m
    rolls_turn m U u e F G =
        let c = rw (W.hits b) at G in record {
          top = c.top;
          hits = c.hits;
          frame = F;
          left = λ q.
              (λ z. through (rolled p q) (sym c.rest z) (shown_in p (u z)))
              ∙ ap (λ (x : Result Unit ClockError). pass.after (ended (shown_in p T) x) (through (rolled p q) (after key₀ p.activities d (k + 1)))) (sym e) ∙ on q;
        }

    pub rolls_stop : (n : ClockError) (g : ℕ → Shown) → r ≡ Err n → (q : Ran) → ended g (Err n) ≡ through (rolled p q) (after key₀ p.activities d 0) (shown_in p S₀)
    rolls_stop n g e q = ap (λ (x : Result Unit ClockError). pass.after (ended (shown_in p T) x) (through (rolled p q) (after key₀ p.activities d (k + 1)))) (sym e) ∙ on q

  pub rolls_end : (S : State) (k : ℕ) → Rolls S k → p.activities ≤ k → (q : Ran) → ended (shown_in p S) (Ok tt) ≡ through (rolled p q) (after key₀ p.activities d 0) (shown_in p S₀)
  unfolding through
  rolls_end S k W l q = sym (ap (λ (ks : List ℕ). through (rolled p q) ks (shown_in p S)) (after_end key₀ p.activities d k l)) ∙ W.left q

pub depth_is : (p : Plan) (S : State) → Deep p S → (d : ℕ) → 0 < d → (q : Ran) → after (S.act depth_of) p.activities d 0 ≡ summaries_at p q d p.activities
depth_is p S D d o q = let e : d ≡ suc (d - 1) = omega arith in rw e (summaries_are p q (S.act depth_of) D.depths (d - 1))

-- ---- all depths
after_append : {A : Type 0} (f g h : A → Pass A) → ((y : A) → g y ≡ pass.after (f y) h) → (r : Pass A) → pass.after r g ≡ pass.after (pass.after r f) h
after_append f g h e (leaves y) = e y
after_append f g h e (refused k) = refl

through_append : {A : Type 0} (step : A → ℕ → Pass A) (xs ys : List ℕ) (x : A) → through step (xs ++ ys) x ≡ pass.after (through step xs x) (through step ys)
unfolding through
through_append step [] ys x = refl
through_append step (i ∷ xs) ys x = after_append (through step xs) (through step (xs ++ ys)) (through step ys) (λ y. through_append step xs ys y) (step x i)

module _ (p : Plan) (S₀ : State) where
  -- d depths are left
  pub record Rising (S : State) (d : ℕ) : Type 0 where
    pub frame : Frame 20 30 0 0 S₀ S
    pub left : (q : Ran) → through (rolled p q) (deepest_first p q d) (shown_in p S) ≡ through (rolled p q) (deepest_first p q p.activities) (shown_in p S₀)

  module _ (S T : State) (d : ℕ) (W : Rising S (d + 1)) (r : Result Unit ClockError) (h : (q : Ran) → ended (shown_in p T) r ≡ through (rolled p q) (summaries_at p q (d + 1) p.activities) (shown_in p S)) where
    rest : (q : Ran) → pass.after (ended (shown_in p T) r) (through (rolled p q) (deepest_first p q d)) ≡ through (rolled p q) (deepest_first p q p.activities) (shown_in p S₀)
    unfolding deepest_first
    rest q =
        let e : d + 1 ≡ suc d = omega arith in
        ap (λ (x : Pass (ℕ → Shown)). pass.after x (through (rolled p q) (deepest_first p q d))) (h q)
        ∙ sym (through_append (rolled p q) (summaries_at p q (d + 1) p.activities) (deepest_first p q d) (shown_in p S))
        ∙ ap (λ (n : ℕ). through (rolled p q) (summaries_at p q n p.activities ++ deepest_first p q d) (shown_in p S)) e
        ∙ sym (ap (λ (n : ℕ). through (rolled p q) (deepest_first p q n) (shown_in p S)) e) ∙ W.left q

    pub rising_turn : r ≡ (Ok tt) → Frame 20 30 0 0 S₀ T → Rising T d
    rising_turn e F = record {
      frame = F;
      left = λ q. ap (λ (x : Result Unit ClockError). pass.after (ended (shown_in p T) x) (through (rolled p q) (deepest_first p q d))) (sym e) ∙ rest q;
    }

    pub rising_stop : (n : ClockError) (g : ℕ → Shown) → r ≡ Err n → (q : Ran) → ended g (Err n) ≡ through (rolled p q) (deepest_first p q p.activities) (shown_in p S₀)
    rising_stop n g e q = ap (λ (x : Result Unit ClockError). pass.after (ended (shown_in p T) x) (through (rolled p q) (deepest_first p q d))) (sym e) ∙ rest q

  pub rising_end : (S : State) → Rising S 0 → (q : Ran) → ended (shown_in p S) (Ok tt) ≡ through (rolled p q) (deepest_first p q p.activities) (shown_in p S₀)
  unfolding through deepest_first
  rising_end S W q = W.left q

-- ---- a sum with its float, by its ways
module _ (p : Plan) (s : ℕ) (x : Shown) where
  pub summed_at : (z total : ℤ) (critical : Bool) → between (own p s) x.finish x.late ≡ Ok z → total ≡ z → critical ≡ critical_in p.project.critical_by (day_of p s) z x.path
      → leaves (record { days = x.days; total = total; free = 0; critical = critical; path = x.path; finish = x.finish; late = x.late }) ≡ summed_pass p s x
  unfolding summed_pass
  summed_at z total critical e f g = rw (e, f, g)

  pub summed_refused : (k : ClockError) → between (own p s) x.finish x.late ≡ Err k → refused k ≡ summed_pass p s x
  unfolding summed_pass
  summed_refused k e = rw e
