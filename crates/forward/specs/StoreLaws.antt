-- What is stored of an activity is what the definition leaves, and the rest stands.
use Rattle.std.specs.Prelude.{◌≡◌, refl, List, ℕ, ◌<◌, pos, Result, Ok, Err}
use Rattle.worktime.specs.declared.ClockError.{ClockError}
use Rattle.std.proofs.Math.Path.{sym, ap}
use Rattle.std.proofs.Common.{◌∙◌, arith}
use Rattle.early.specs.declared.values.Placement.{Placement}
use Rattle.placing.specs.declared.Actual.{Actual}
use Rattle.placing.specs.declared.Actual.TheVariants.{Unstarted, Begun, Completed}
use Rattle.memory.specs.State.{State, put_act, fill_act}
use Rattle.memory.specs.Fields.{early_start, early_finish, work_left}
use Rattle.topology.specs.Frame.{Frame}
use Rattle.topology.specs.FrameLaws.{frame_then, frame_put, frame_fill}
use Rattle.sheet.specs.declared.Contents.{Contents}
use Rattle.order.specs.Plan.{Plan, plan_of}
use Rattle.order.specs.Checks.{order}
use Rattle.passes.specs.Plan.{origin, recorded}
use Rattle.passes.specs.Dates.{Early, leaves, put, through}
use Rattle.passes.specs.Forward.{early, forward_by, forward}
use Rattle.passes.specs.Run.{early₀, forward_pass}
use Rattle.dates.specs.Columns.{column, early_in, left_in, ended}
use Rattle.dates.specs.ColumnLaws.{column_at, column_same, column_put, column_fill}
use Rattle.dates.specs.Standing.{actual_in}
use Rattle.bounds.specs.ReadyLaws.{activities_are}
use Rattle.early.specs.InHand.{placed_as}
use Rattle.forward.specs.Linked.{after_links, stored, Settled}

module _ (p : Plan) (S : State) (i s f m : ℕ) (l : i < p.activities) where
  pub early_stored : early_in p (stored S i s f m) ≡ early p (early_in p S) i s f m
  early_stored =
      let n : ℕ = p.activities in
      let a : column n (λ i. origin p) (stored S i s f m) early_start ≡ put (column n (λ i. origin p) S early_start) i s =
      column_same n (λ i. origin p) early_start (put_act S early_start i s) (stored S i s f m) refl ∙ column_put n (λ i. origin p) early_start S i s l in
      let b : column n (λ i. origin p) (stored S i s f m) early_finish ≡ put (column n (λ i. origin p) S early_finish) i f =
      column_same n (λ i. origin p) early_finish (put_act S early_finish i f) (stored S i s f m) refl ∙ column_put n (λ i. origin p) early_finish S i f l in
      let c : column n (λ i. 0) (stored S i s f m) work_left ≡ put (column n (λ i. 0) S work_left) i m =
      column_same n (λ i. 0) work_left (put_act S work_left i m) (stored S i s f m) refl ∙ column_put n (λ i. 0) work_left S i m l in
      λ z. record { es = a z; ef = b z; left = c z }

pub frame_stored : (S : State) (i s f m : ℕ) → Frame 12 15 0 0 S (stored S i s f m)
frame_stored S i s f m =
    frame_then 12 15 0 0
    (frame_then 12 15 0 0 (frame_put 12 15 0 0 early_start (omega arith) (omega arith) S i (pos s))
    (frame_put 12 15 0 0 early_finish (omega arith) (omega arith) (put_act S early_start i s) i (pos f)))
    (frame_put 12 15 0 0 work_left (omega arith) (omega arith) (put_act (put_act S early_start i s) early_finish i f) i (pos m))

-- ---- stored or refused
pub settled_ended : (p : Plan) (i : ℕ) (x : Result Placement ClockError) (S T : State) (r : Result Unit ClockError) → i < p.activities → Settled i x S T r
    → ended (early_in p T) r ≡ placed_as p (early_in p S) i x
settled_ended p i (Ok x) S T r l W =
    let h = W.placed x refl in
    ap (λ (y : Result Unit ClockError). ended (early_in p T) y) h.1 ∙ ap (λ (U : State). leaves (early_in p U)) h.0 ∙ ap leaves (early_stored p S i x.start x.finish x.left l)
settled_ended p i (Err k) S T r l W = ap (λ (y : Result Unit ClockError). ended (early_in p T) y) (W.not_placed k refl).1

pub settled_frame : (i : ℕ) (x : Result Placement ClockError) (S T : State) (r : Result Unit ClockError) → Settled i x S T r → Frame 12 15 0 0 S T
settled_frame i (Ok x) S T r W = rw (W.placed x refl).0 (frame_stored S i x.start x.finish x.left)
settled_frame i (Err k) S T r W =
    rw (W.not_placed k refl).0 (record { acts = λ f n. refl; links = λ f n. refl; acts_z = λ f n. refl; links_z = λ f n. refl })

ok_same : {y y' : Placement} → ◌≡◌ {A = Result Placement ClockError} (Ok y) (Ok y') → y ≡ y'
ok_same {y} e = ap (λ (x : Result Placement ClockError). of y x) e
  where
    of : Placement → Result Placement ClockError → Placement
    of z (Ok x) = x
    of z (Err k) = z

pub settled_at : (i : ℕ) (S T : State) (y : Placement) (x : Result Placement ClockError) → x ≡ Ok y → T ≡ stored S i y.start y.finish y.left → Settled i x S T (Ok tt)
settled_at i S T y x e h = record {
  placed = λ y' g.
      let q : y ≡ y' = ok_same (sym e ∙ g) in
      (h ∙ ap (λ (v : Placement). stored S i v.start v.finish v.left) q, refl);
  not_placed = λ k g. let z : ◌≡◌ {A = ℕ} 0 1 = cc in absurd (omega arith);
}

pub settled_refused : (i : ℕ) (S : State) (k : ClockError) (x : Result Placement ClockError) → x ≡ Err k → Settled i x S S (Err k)
settled_refused i S k x e = record {
  placed = λ y g. let z : ◌≡◌ {A = ℕ} 0 1 = cc in absurd (omega arith);
  not_placed = λ j g. let q : k ≡ j = cc in (refl, ap Err q);
}

-- ---- by what is recorded
module _ (p : Plan) (d : Early) (i : ℕ) where
  by_links : (a : Actual) → ((s f : ℕ) → a ≡ Completed s f → ⊥) → after_links p d i (Ok a) ≡ forward_by p d i (Ok a)
  by_links Unstarted h = refl
  by_links (Begun s) h = refl
  by_links (Completed s f) h = absurd (h s f refl)

  module _ (S : State) (a : Actual) (e : a ≡ actual_in S i) (q : Ok (actual_in S i) ≡ recorded p i) where
    pub forward_open : ((s f : ℕ) → a ≡ Completed s f → ⊥) → after_links p d i (Ok a) ≡ forward p d i
    unfolding forward
    forward_open h = by_links a h ∙ ap (forward_by p d i) (ap Ok e ∙ q)

    pub forward_completed : (s f m : ℕ) → a ≡ Completed s f → m ≡ d.left i → forward p d i ≡ leaves (early p d i s f m)
    unfolding forward
    forward_completed s f m h l =
        ap (forward_by p d i) (sym q ∙ ap Ok (sym e ∙ h)) ∙ ap (λ (v : ℕ). leaves (early p d i s f v)) (sym l)

-- completed work, stored as it happened
module _ (p : Plan) (S T : State) (i s f m : ℕ) (l : i < p.activities) (h : T ≡ stored S i s f m) where
  pub completed_ended : (a : Actual) → a ≡ actual_in S i → Ok (actual_in S i) ≡ recorded p i → a ≡ Completed s f → m ≡ S.act work_left i
      → ended (early_in p T) (Ok tt) ≡ forward p (early_in p S) i
  completed_ended a e q k n =
      ap (λ (U : State). leaves (early_in p U)) h ∙ ap leaves (early_stored p S i s f m l)
      ∙ sym (forward_completed p (early_in p S) i S a e q s f m k (n ∙ sym (column_at p.activities (λ i. 0) work_left S i l)))

  pub completed_frame : Frame 12 15 0 0 S T
  completed_frame = rw h (frame_stored S i s f m)

pub in_plan : (s : List ℕ) (c : Contents) (i : ℕ) → i < c.activities → i < (plan_of s c).activities
in_plan s c i l = omega (arith, activities_are s c)

-- ---- the dates before the pass: the origin throughout
early_filled : (p : Plan) (S : State)
    → early_in p (fill_act (fill_act S early_start p.activities (origin p)) early_finish p.activities (origin p)) ≡ early₀ p (left_in p S)
early_filled p S =
    let n : ℕ = p.activities in
    let o : ℕ = origin p in
    let T : State = fill_act (fill_act S early_start n o) early_finish n o in
    let x : column n (λ i. o) T early_start ≡ (λ (i : ℕ). o) =
    column_same n (λ i. o) early_start (fill_act S early_start n o) T refl ∙ column_fill n S early_start o in
    let y : column n (λ i. o) T early_finish ≡ (λ (i : ℕ). o) = column_fill n (fill_act S early_start n o) early_finish o in
    let w : column n (λ i. 0) T work_left ≡ column n (λ i. 0) S work_left = column_same n (λ i. 0) work_left S T refl in
    λ z. record { es = x z; ef = y z; left = w z }

module _ (p : Plan) (S T U : State) (n o : ℕ) (g : T ≡ fill_act S early_start n o) (h : U ≡ fill_act T early_finish n o) where
  filled : U ≡ fill_act (fill_act S early_start n o) early_finish n o
  filled = h ∙ ap (λ (R : State). fill_act R early_finish n o) g

  pub filled_frame : Frame 12 15 0 0 S U
  filled_frame =
      rw filled
      (frame_then 12 15 0 0 (frame_fill 12 15 0 0 early_start (omega arith) (omega arith) S n o)
      (frame_fill 12 15 0 0 early_finish (omega arith) (omega arith) (fill_act S early_start n o) n o))

  pub filled_pass : n ≡ p.activities → o ≡ origin p → through (forward p) (order p) (early_in p U) ≡ forward_pass p (left_in p S)
  unfolding forward_pass
  filled_pass a q =
      ap (λ (R : State). through (forward p) (order p) (early_in p R)) (filled ∙ (λ z. fill_act (fill_act S early_start (a z) (q z)) early_finish (a z) (q z)))
      ∙ ap (through (forward p) (order p)) (early_filled p S)
