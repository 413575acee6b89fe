-- The turns of a climb that counts its steps, and depths put one after the other.
use Rattle.std.specs.Prelude.{◌≡◌, true, false, ◌≢◌, eqb, ltb, pos}
use Rattle.std.proofs.Math.Path.{sym, ap}
use Rattle.std.proofs.Common.{◌∙◌, ⊎_elim, eq-eqb, ne_eqb, ltb-true, ltb-false}
use Prim.Native.Nat.{ℕ, zero, suc, ◌+◌, ◌-◌, ◌≤◌, ◌<◌}
use native.Mathlib.Omega.{arith}
use Rattle.number.specs.Order.{eq_or_ne}
use Rattle.worktime.specs.Reads.{on_true, on_false}
use Rattle.memory.specs.State.{State, put_act}
use Rattle.memory.specs.StateLaws.{act_same, act_row}
use Rattle.memory.specs.Fields.{parent, is_summary, depth_of}
use Rattle.topology.specs.Frame.{Frame}
use Rattle.topology.specs.FrameLaws.{outside_below, frame_put}
use Rattle.network.specs.ParentLinks.{steps_out, depth}
use Rattle.rollup.specs.Depths.{depth_key, DepthsTo}

-- k steps are made and lead to y, one more than an activity, or 0 for none
pub record Climbs (up : ℕ → ℕ) (a i y k : ℕ) : Type 0 where
  pub steps : k ≤ a
  pub low : y ≤ a
  pub left : k + steps_out up (a - k) y ≡ depth up a i

module _ (up : ℕ → ℕ) (a i : ℕ) where
  pub climbs_start : i < a → Climbs up a i (i + 1) 0
  unfolding depth
  climbs_start b = let e : a - 0 ≡ a = omega arith in let d : i + 1 ≡ suc i = omega arith in record { steps = omega arith; low = omega arith; left = rw (e, d) (omega arith) }

  module _ (k : ℕ) where
    pub climbs_turn : (j : ℕ) → Climbs up a i (j + 1) k → k < a → up j ≤ a → (z : ℕ) → z ≡ up j → Climbs up a i z (k + 1)
    unfolding steps_out
    climbs_turn j C b h z e =
        let d : a - k ≡ suc (a - (k + 1)) = omega arith in
        let f : j + 1 ≡ suc j = omega arith in
        let m : k + steps_out up (a - k) (j + 1) ≡ k + suc (steps_out up (a - (k + 1)) z) = (λ t. k + steps_out up (d t) (f t)) ∙ ap (λ (x : ℕ). k + suc (steps_out up (a - (k + 1)) x)) (sym e) in
        record { steps = omega arith; low = omega arith; left = omega (arith, m, C.left) }

    pub climbs_top : Climbs up a i 0 k → k ≡ depth up a i
    unfolding steps_out
    climbs_top C = top (a - k) C.left
      where
        top : (f : ℕ) → k + steps_out up f 0 ≡ depth up a i → k ≡ depth up a i
        top zero h = omega (arith, h)
        top (suc f) h = omega (arith, h)

    pub climbs_end : (y : ℕ) → Climbs up a i y k → a ≤ k → k ≡ depth up a i
    unfolding steps_out
    climbs_end y C l = let e : a - k ≡ 0 = omega arith in omega (arith, ap (λ (f : ℕ). k + steps_out up f y) (sym e) ∙ C.left)

-- ---- the depths of the rows
module _ (S : State) (a i : ℕ) where
  pub key_none : ltb 0 (S.act is_summary i) ≡ false → 0 ≡ depth_key S a i
  unfolding depth_key
  key_none e = sym (on_true (eqb (S.act is_summary i) 0) 0 (depth (S.act parent) a i) (eq-eqb _ _ (omega (arith, ltb-false 0 (S.act is_summary i) e))))

  pub key_some : ltb 0 (S.act is_summary i) ≡ true → depth (S.act parent) a i ≡ depth_key S a i
  unfolding depth_key
  key_some e = sym (on_false (eqb (S.act is_summary i) 0) 0 (depth (S.act parent) a i) (ne_eqb _ _ (λ d. omega (arith, ltb-true 0 (S.act is_summary i) e, d))))

pub key_kept : (S T : State) (a i : ℕ) → Frame 30 31 0 0 S T → depth_key T a i ≡ depth_key S a i
unfolding depth_key
key_kept S T a i F =
    let e = F.acts is_summary (outside_below 30 31 is_summary (omega arith)) in
    let d = F.acts parent (outside_below 30 31 parent (omega arith)) in
    λ z. elim (eqb (e z i) 0) [ true ↦ 0 | false ↦ depth (d z) a i ]

pub depths_none : (S₀ S : State) (a : ℕ) → DepthsTo S₀ S a 0
depths_none S₀ S a i b = absurd (omega arith)

pub depths_more : (S₀ S : State) (a n v : ℕ) → v ≡ depth_key S₀ a n → DepthsTo S₀ S a n → DepthsTo S₀ (put_act S depth_of n v) a (n + 1)
depths_more S₀ S a n v e D i b =
    ⊎_elim (λ (d : i ≡ n). rw d (act_same S depth_of n (pos v) ∙ e)) (λ (o : i ≢ n). act_row S depth_of n (pos v) depth_of i o ∙ D i (omega (arith, o))) (eq_or_ne i n)

pub depth_frame : (S : State) (i v : ℕ) → Frame 30 31 0 0 S (put_act S depth_of i v)
depth_frame S i v = frame_put 30 31 0 0 depth_of (omega arith) (omega arith) S i (pos v)
