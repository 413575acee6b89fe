-- `topology::step_back` meets its contract.
use Prim.Native.Nat.{ℕ}
use mathlib.Core.Path.{◌≡◌, ap, ◌∙◌}
use Rattle.memory.specs.State.{State, put_act}
use Rattle.memory.specs.Seen.{state}
use Rattle.memory.specs.Fields.{waiting, seen, path_at}
use Rattle.network.specs.Kahn.{waiting_before}
use Rattle.topology.specs.Links.{links_of}
use Rattle.topology.specs.Frame.{Frame}
use Rattle.topology.specs.Loop.{passed}
use Rattle.topology.specs.LoopLaws.{before_left, passed_frame}
use Rattle.memory.specs.SeenLaws.{same_then}
use Rattle.topology.proofs.step_back.Goals as goal

pub returns : goal.returns
unfolding passed
returns c =
    let x = c.args in
    let S = state x.tables.now in
    let U = state c.put_act-2.new.self in
    let e : U ≡ passed S x.m x.x = c.put_act-2.ensures.0 ∙ ap (λ (T : State). put_act T path_at x.m x.x) c.put_act.ensures.0 in
    let F : Frame seen 10 0 0 S U = rw e (passed_frame S x.m x.x) in
    let m = same_then c.put_act.ensures.1 c.put_act-2.ensures.1 in
    (e, c.unwrap_or.ensures ∙ c.waiting_before.ensures ∙ ap (λ (n : ℕ). waiting_before (links_of U n) (U.act waiting) (links_of U n) x.x) m.kept ∙ before_left F x.tables.now.kept x.x, m)
