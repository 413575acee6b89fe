-- What the order of the activities leaves in the state: the order, the counts, and the chains of the links.
use Rattle.std.specs.Prelude.{◌≡◌, [], ℕ, ◌≤◌, ◌<◌, length, get_or}
use Rattle.memory.specs.State.{State}
pub use Rattle.memory.specs.Chains.{ChainsIn, ChainsOut}
use Rattle.memory.specs.Fields.{first_in, waiting, order_at, seen, next_into}
use Rattle.network.specs.Kahn.{drained, kahn}
use Rattle.network.specs.Array.{Progress}
use Rattle.topology.specs.Links.{links_of}
use Rattle.topology.specs.Frame.{Frame}

-- from S to T the fields `waiting` and `order_at` have changed: h activities are out and the queue reaches up to `end`
pub record Draining (a t : ℕ) (S T : State) (h end : ℕ) : Type 0 where
  pub kept : Frame waiting seen 0 0 S T
  pub progress : Progress (links_of S t) a (T.act order_at) (T.act waiting) h end []

-- from S to T the chains are built and the r activities that come out are put in order
pub record Topological (a t : ℕ) (S T : State) (r : ℕ) : Type 0 where
  -- all but first_in, first_out, waiting and order_at of activities and next_into and next_out of links
  pub kept : Frame first_in seen next_into 7 S T
  pub chains_in : ChainsIn a t T
  pub chains_out : ChainsOut a t T
  pub count : r ≡ length (kahn (links_of S t) a)
  pub within : r ≤ a
  pub order : (p : ℕ) → p < r → T.act order_at p ≡ get_or (kahn (links_of S t) a) p 0
  pub waits : (i : ℕ) → T.act waiting i ≡ (drained (links_of S t) a).count i
