-- What naming a loop asks of the state and what it leaves there.
use Rattle.std.specs.Prelude.{◌≡◌, [], ℕ, ◌+◌, ◌-◌, ◌≤◌, ◌<◌, length, get_or}
use Rattle.memory.specs.State.{State, put_act}
use Rattle.memory.specs.Fields.{waiting, seen, path_at}
use Rattle.network.specs.Kahn.{drained, kahn, go_back, named_loop}
use Rattle.topology.specs.Links.{links_of, Ends}
use Rattle.topology.specs.Frame.{Frame}
use Rattle.topology.specs.Order.{ChainsIn}

-- the order stopped early: some activities still wait
pub record Stuck (a t : ℕ) (S : State) : Type 0 where
  pub ends : Ends a t S
  pub chains_in : ChainsIn a t S
  pub waits : (i : ℕ) → S.act waiting i ≡ (drained (links_of S t) a).count i
  pub short : length (kahn (links_of S t) a) < a

-- the loop is put where the marks stood
abbrev pub loop_at : ℕ
loop_at = seen

-- from S to T the loop is named: m activities, of which the first stands once more at the end of `named_loop` and not in the state
pub record NamedLoop (a t : ℕ) (S T : State) (m : ℕ) : Type 0 where
  -- all but seen and path_at of activities
  pub kept : Frame seen 10 0 0 S T
  pub some : 0 < m
  pub within : m ≤ a
  pub count : length (named_loop (links_of S t) a) ≡ m + 1
  pub names : (k : ℕ) → k < m → T.act loop_at k ≡ get_or (named_loop (links_of S t) a) k 0
  pub below : (k : ℕ) → k < m → T.act loop_at k < a
  pub closed : get_or (named_loop (links_of S t) a) m 0 ≡ get_or (named_loop (links_of S t) a) 0 0

-- ---- on the way back

-- x is passed as the one at place m: marked, and put into the path
unfoldable pub passed : State → ℕ → ℕ → State
passed S m x = put_act (put_act S seen x (m + 1)) path_at m x

-- the way back from `start` is in the path, up to `end`; the loop is what stands there from `from` on, read from its end
pub record WalkedBack (a t : ℕ) (S T : State) (start from end : ℕ) : Type 0 where
  pub kept : Frame seen 10 0 0 S T
  pub some : from < end
  pub within : end ≤ a
  pub count : length (go_back (links_of S t) (S.act waiting) a start []) ≡ end - from
  pub names : (k : ℕ) → k < end - from → get_or (go_back (links_of S t) (S.act waiting) a start []) k 0 ≡ T.act path_at (end - 1 - k)
