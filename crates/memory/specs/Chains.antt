-- The chains of links through the state: `key` is a field of a link, `head` of an activity, `next` of a link.
use Rattle.std.specs.Prelude.{◌≡◌, ◌≢◌, ℕ, zero, suc, ◌+◌}
use Rattle.cells.specs.Chain.{Chained}
use Rattle.memory.specs.State.{State, put_act, put_link, fill_act}
use Rattle.memory.specs.Fields.{first_in, first_out, from_field, to_field, next_into, next_out}

-- link k comes before the links that have its key
unfoldable pub linked : ℕ → ℕ → ℕ → State → ℕ → State
linked key head next S k = put_act (put_link S next k (S.act head (S.link key k))) head (S.link key k) k

-- so do the n links from k on, the last of them first
unfoldable pub linked_from : ℕ → ℕ → ℕ → ℕ → ℕ → State → State
linked_from key head next zero k S = S
linked_from key head next (suc n) k S = linked key head next (linked_from key head next n (k + 1) S) k

-- S with the chains of its first t links; t ends a chain
abbrev pub with_chains : ℕ → ℕ → ℕ → ℕ → ℕ → State → State
with_chains key head next a t S = linked_from key head next t 0 (fill_act S head a t)

-- the first t links into each of a activities, and those out of it, as chains
-- clauses, and no type's field: they are of fields of the tables, which are written
abbrev pub ChainsIn : ℕ → ℕ → State → Type 0
ChainsIn a t S = Chained (S.link to_field) (S.act first_in) (S.link next_into) a t 0

abbrev pub ChainsOut : ℕ → ℕ → State → Type 0
ChainsOut a t S = Chained (S.link from_field) (S.act first_out) (S.link next_out) a t 0

-- T is S but for the fields head and next
pub record Kept (head next : ℕ) (S T : State) : Type 0 where
  pub acts : (f : ℕ) → f ≢ head → T.act f ≡ S.act f
  pub links : (f : ℕ) → f ≢ next → T.link f ≡ S.link f
  pub acts_z : (f : ℕ) → f ≢ head → T.act_z f ≡ S.act_z f
  pub links_z : (f : ℕ) → f ≢ next → T.link_z f ≡ S.link_z f

-- and these hold the chains of the first t links
pub record Chains (key head next a t : ℕ) (S T : State) : Type 0 where
  pub kept : Kept head next S T
  pub chained : Chained (T.link key) (T.act head) (T.link next) a t 0
