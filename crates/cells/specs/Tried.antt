-- A step that can refuse, done for 0, 1, .. up to n or to the first refusal: what such a loop leaves, and its answer.
use Rattle.std.specs.Prelude.{Bool, true, false, ℕ, zero, suc, ◌+◌}

-- what a step leaves, and its answer
pub record Out (W R : Type 0) : Type 0 where
  pub work : W
  pub answer : R

abbrev pub out : {W R : Type 0} → W → R → Out W R
out w r = record { work = w; answer = r }

-- k steps from i on; `on` says of an answer whether the loop goes on, and `done` is the answer where no step refuses
unfoldable pub tried : {W R : Type 0} → (W → ℕ → Out W R) → (R → Bool) → R → ℕ → ℕ → W → Out W R
tried step on done zero i w = out w done
tried step on done (suc k) i w = elim (on (step w i).answer) [ true ↦ tried step on done k (i + 1) (step w i).work | false ↦ step w i ]
