-- A summary from its children: joined one after the other, with its own float.
use Rattle.std.specs.Prelude.{Bool, true, false, ◌||◌, List, [], ◌∷◌, ◌++◌, ℕ, zero, suc, ◌+◌, min, max, ℤ}
use Rattle.cells.specs.Chain.{after}
use Rattle.memory.specs.State.{State}
use Rattle.memory.specs.Fields.{parent, first_child}
use Rattle.order.specs.Plan.{Plan}
use Rattle.passes.specs.Floats.{day_of}
use Rattle.results.specs.declared.Shown.{Shown}
use Rattle.results.specs.View.{shown_to}
use Rattle.results.specs.Showing.{critical_in}

-- the float and what hangs on it stay the first one's: nothing reads them
abbrev pub joined : Shown → Shown → Shown
joined x y = record {
  days = record {
    es = min x.days.es y.days.es;
    ef = max x.days.ef y.days.ef;
    ls = min x.days.ls y.days.ls;
    lf = max x.days.lf y.days.lf;
  };
  total = x.total;
  free = x.free;
  critical = x.critical;
  path = x.path || y.path;
  finish = max x.finish y.finish;
  late = max x.late y.late;
}

unfoldable pub join_all : (ℕ → Shown) → Shown → List ℕ → Shown
join_all f x [] = x
join_all f x (c ∷ cs) = join_all f (joined x (f c)) cs

-- the children of s, by the chains of the memory
abbrev pub child_sum : State → ℕ → ℕ → Shown
child_sum S a s = join_all (shown_to a S) (shown_to a S (S.act first_child s)) (after (S.act parent) a (suc s) (S.act first_child s + 1))

-- with the summary's own float
abbrev pub summed : Plan → ℕ → ℤ → Shown → Shown
summed p s total x = record {
  days = x.days;
  total = total;
  free = 0;
  critical = critical_in p.project.critical_by (day_of p s) total x.path;
  path = x.path;
  finish = x.finish;
  late = x.late;
}

-- those of the first n that a test takes
unfoldable pub chosen : (ℕ → Bool) → ℕ → List ℕ
chosen b zero = []
chosen b (suc n) = elim (b n) [ true ↦ chosen b n ++ (n ∷ []) | false ↦ chosen b n ]
