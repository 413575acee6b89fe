-- A kept link in its row of the link table.
use Rattle.std.specs.Prelude.{◌≡◌, ◌≢◌, ℕ}
use Rattle.project.specs.Records.{relationship_type_of}
use Rattle.memory.specs.State.{State}
use Rattle.memory.specs.Fields.{from_field, to_field, kind_field, lag_field, lag_calendar_field}
use Rattle.order.specs.Plan.{Plan}
use Rattle.order.specs.Ties.{Tie, tie_of}

-- the link in row t
abbrev pub tie_in : State → ℕ → Tie
tie_in S t = record {
  from = S.link from_field t;
  to = S.link to_field t;
  kind = relationship_type_of (S.link kind_field t);
  lag = S.link_z lag_field t;
  calendar = S.link lag_calendar_field t;
}

-- T is S but for row t of the link table, which holds link k
pub record Stored (p : Plan) (k t : ℕ) (S T : State) : Type 0 where
  pub row : tie_in T t ≡ tie_of p k
  pub rows : (f q : ℕ) → q ≢ t → T.link f q ≡ S.link f q
  pub rows_z : (f q : ℕ) → q ≢ t → T.link_z f q ≡ S.link_z f q
  pub acts : T.act ≡ S.act
  pub acts_z : T.act_z ≡ S.act_z
