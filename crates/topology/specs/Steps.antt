-- The steps of Kahn's algorithm on the state: a link is counted, an activity that waits for none joins the queue, a link is met.
use Rattle.std.proofs.Common.{MutBor}
use Rattle.std.specs.Prelude.{◌≡◌, true, false, ℕ, ◌+◌, ◌-◌, eqb}
use Rattle.memory.specs.State.{State, put_act}
use Rattle.memory.specs.Seen.{state, SameSlice}
use Rattle.memory.specs.Fields.{waiting, order_at, to_field}
use Rattle.memory.specs.declared.Tables.{Tables}
use Rattle.topology.specs.declared.queue.Queue.{Queue}

-- link k is one more into the activity that it leads to
unfoldable pub counted : State → ℕ → State
counted S k = put_act S waiting (S.link to_field k) (S.act waiting (S.link to_field k) + 1)

-- the state, and the queue's end
pub record Queued : Type 0 where
  pub state : State
  pub end : ℕ

abbrev pub queued : State → ℕ → Queued
queued S end = record { state = S; end = end }

-- of the code's queue
abbrev pub queue_in : Queue → Queued
queue_in q = queued (state q.tables.now) q.end

-- j is put at the end of the queue if it waits for none
unfoldable pub readied : Queued → ℕ → Queued
readied q j = elim (eqb (q.state.act waiting j) 0) [ true ↦ queued (put_act q.state order_at q.end j) (q.end + 1) | false ↦ q ]

-- the activity that link k leads to waits for one less, and joins the queue if that was the last
unfoldable pub met : Queued → ℕ → Queued
met q k = let j : ℕ = q.state.link to_field k in readied (queued (put_act q.state waiting j (q.state.act waiting j - 1)) q.end) j

-- s is the reference that r was, and its tables are in the slice and of the sizes that they were
-- a clause, and no type's field: it relates what a function found to what it leaves
pub record SameTables (r s : MutBor Tables) : Type 0 where
  pub same : SameSlice r.now s.now
  pub lent : s.ghost_name ≡ r.ghost_name
