-- `topology::name_loop` meets its contract.
use mathlib.Core.Path.{◌≡◌, refl, sym, ap, subst, ◌∙◌}
use Prim.Native.Nat.{ℕ}
use Rattle.std.specs.Prelude.{Option, None, Some, unwrap_or, IsSome}
use Rattle.memory.specs.State.{State}
use native.Mathlib.Omega.{arith}
use Rattle.memory.specs.Seen.{state}
use Rattle.memory.specs.SeenLaws.{same_then, sized, sized_back}
use Rattle.memory.specs.Fields.{waiting, seen, path_at}
use Rattle.network.specs.Kahn.{first_waiting}
use Rattle.topology.specs.Links.{links_of}
use Rattle.topology.specs.Frame.{Frame}
use Rattle.topology.specs.FrameLaws.{frame_fill, frame_acts}
use Rattle.topology.specs.StepLaws.{fill_zero}
use Rattle.topology.specs.Loop.{Stuck, WalkedBack}
use Rattle.topology.specs.LoopLaws.{stuck_left, stuck_inside, stuck_first, named_loop_lem, named_from}
use Rattle.topology.proofs.name_loop.Goals as goal

-- one that waits is found, since some do
found : (a t : ℕ) (S : State) → Stuck a t S → (o : Option ℕ) → unwrap_or o a ≡ first_waiting (links_of S t) (S.act waiting) a 0 → IsSome o
found a t S s None e = absurd (omega (arith, stuck_inside s (first_waiting (links_of S t) (S.act waiting) a 0) (stuck_first s)))
found a t S s (Some i) e = refl

pub unwrap-start-requires : goal.unwrap-start-requires
unwrap-start-requires c =
    let x = c.args in
    let p = c.requires in
    let S = state x.tables.now in
    let T = state c.fill_act.new.self in
    let e = c.fill_act.ensures in
    let F : Frame seen 10 0 0 S T = rw e.0 (frame_fill seen 10 0 0 seen (omega arith) (omega arith) S x.tables.now.activities 0) in
    found _ _ T (sized e.1 (λ n k. Stuck n k T) (stuck_left F p)) c.first_waiting.result (c.first_waiting.ensures.0 (links_of T c.fill_act.new.self.kept))

pub walk_back-way-requires : goal.walk_back-way-requires
walk_back-way-requires c =
    let x = c.args in
    let p = c.requires in
    let S = state x.tables.now in
    let T = state c.fill_act.new.self in
    let e = c.fill_act.ensures in
    let a = e.1.activities in
    let F : Frame seen 10 0 0 S T = rw e.0 (frame_fill seen 10 0 0 seen (omega arith) (omega arith) S x.tables.now.activities 0) in (sized e.1 (λ n k. Stuck n k T) (stuck_left F p), fill_zero c.fill_act.new.self S seen x.tables.now.activities a e.0, sym (ap (λ o. unwrap_or o c.fill_act.new.self.activities) c.unwrap-start.ensures) ∙ c.first_waiting.ensures.0 (links_of T c.fill_act.new.self.kept))

pub returns : goal.returns
returns c =
    let x = c.args in
    let p = c.requires in
    let S = state x.tables.now in
    let T = state c.fill_act.new.self in
    let U = state c.walk_back-way.new.tables in
    let e = c.fill_act.ensures in
    let a = e.1.activities in
    let F : Frame seen path_at 0 0 S T = rw e.0 (frame_fill seen path_at 0 0 seen (omega arith) (omega arith) S x.tables.now.activities 0) in
    let s = stuck_left (frame_acts seen 10 0 0 seen path_at (omega arith) (omega arith) F) p in
    let start = c.unwrap-start.result in
    let f = subst (λ n. start ≡ first_waiting (links_of T x.tables.now.kept) (T.act waiting) n 0) a (sym (ap (λ o. unwrap_or o c.fill_act.new.self.activities) c.unwrap-start.ensures) ∙ c.first_waiting.ensures.0 (links_of T x.tables.now.kept)) in
    let way = c.walk_back-way.result in
    let w = c.walk_back-way.ensures in
    let v = sized_back e.1 (λ n k. WalkedBack n k T U start way.start way.end) w.0 in
    let d = c.copy_loop.ensures in
    (named_from F (named_loop_lem s f v d.2 d.0 d.1), same_then e.1 (same_then w.1 d.3))
