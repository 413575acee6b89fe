-- The answers of the checks in 01's numbers, and what the memory holds where they are fine.
use Rattle.std.specs.Prelude.{◌≡◌, ◌⊎◌, ℕ, Result, Ok, Err, IfOk}
use Rattle.memory.specs.State.{State}
use Rattle.memory.specs.Fields.{low_child, high_child, root, parent, is_summary}
use Rattle.order.specs.Plan.{Plan}
use Rattle.order.specs.Checks.{Verdict, fine}
use Rattle.order.specs.declared.PlanError.{PlanError}
use Rattle.order.specs.Refusals.{refused}
use Rattle.ids.specs.Index.{Indexed}
use Rattle.ids.specs.Lent.{KeptBut}
use Rattle.ids.specs.Parented.{Parented}

-- rows 6 to 10: the number and its id
abbrev pub verdict_of : {T : Type 0} → Result T PlanError → Verdict
verdict_of (Ok x) = fine
verdict_of (Err e) = refused e

-- r answers v
pub record Answered {T : Type 0} (r : Result T PlanError) (v : Verdict) : Type 0 where
  pub is : verdict_of r ≡ v

-- S became U: but for the fields of activities that F names it is the same, and where the answer is fine H holds of it
pub record PassedBy {T : Type 0} (F : ℕ → Type 0) (H : State → Type 0) (S U : State) (r : Result T PlanError) : Type 0 where
  pub kept : KeptBut F S U
  pub holds : IfOk r (λ x. H U)

-- the fields of the index, and those of parents
abbrev pub OfIndex : ℕ → Type 0
OfIndex f = (f ≡ low_child) ⊎ (f ≡ high_child) ⊎ (f ≡ root)

abbrev pub OfParents : ℕ → Type 0
OfParents f = (f ≡ parent) ⊎ (f ≡ is_summary)

-- the index of the first n activities
abbrev pub IndexedBy : {T : Type 0} → Plan → ℕ → State → State → Result T PlanError → Type 0
IndexedBy p n = PassedBy OfIndex (λ (W : State). Indexed p W n)

-- the parents of the first n activities
abbrev pub ParentedBy : {T : Type 0} → Plan → ℕ → State → State → Result T PlanError → Type 0
ParentedBy p n = PassedBy OfParents (λ (W : State). Parented p W n)
