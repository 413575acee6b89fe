-- What the calls of this crate are lent: a sheet that was read and tables of its plan's sizes. It stays a clause: it relates the tables, which most stages write, to the sheet; for the functions that only read them a struct of both would be made at each call.
use Rattle.std.specs.Prelude.{◌≡◌, ℕ}
use Rattle.memory.specs.State.{State}
use Rattle.memory.specs.declared.Tables.{Tables}
use Rattle.sheet.specs.declared.value.Sheet.{Sheet}

pub record Lent (sheet : Sheet) (t : Tables) : Type 0 where
  pub activities : t.activities ≡ sheet.contents.activities
  pub links : t.links ≡ sheet.contents.links

-- T is S but for the fields of activities that F names
pub record KeptBut (F : ℕ → Type 0) (S T : State) : Type 0 where
  pub acts : (h : ℕ) → (F h → ⊥) → T.act h ≡ S.act h
  pub acts_z : (h : ℕ) → (F h → ⊥) → T.act_z h ≡ S.act_z h
  pub links : T.link ≡ S.link
  pub links_z : T.link_z ≡ S.link_z
