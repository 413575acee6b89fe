-- What is left of the links out of an activity and into it, from link k on: what a walk along a chain of them meets.
use Rattle.std.specs.Prelude.{◌≡◌, ◌≢◌, ℕ, ◌+◌, ◌-◌, ◌≤◌, ◌<◌}
use Rattle.std.proofs.Math.Path.{ap}
use Rattle.std.proofs.Common.{◌∙◌}
use mathlib.Core.List.{List, [], ◌∷◌, map}
use native.Mathlib.Omega.{arith}
use Rattle.std.proofs.Math.ListN.{length}
use Rattle.network.specs.Links.{Link}
use Rattle.network.specs.Outgoing.{from_at, to_at, outgoing, incoming, targets, sources, targets_from, sources_from}
use Rattle.cells.specs.Chain.{keyed}
use Rattle.network.specs.OutgoingLaws.{keyed_hit, keyed_miss, keyed_end, targets_outgoing, sources_incoming}

module _ (links : List Link) (v : ℕ) where
  pub targets_start : targets_from links v 0 ≡ targets links v
  unfolding targets_from outgoing
  targets_start =
      let e : length links - 0 ≡ length links = omega arith in
      ap (λ (m : ℕ). map (to_at links) (keyed (from_at links) v m 0)) e ∙ targets_outgoing links v

  pub targets_here : (k : ℕ) → k < length links → from_at links k ≡ v → targets_from links v k ≡ to_at links k ∷ targets_from links v (k + 1)
  unfolding targets_from
  targets_here k l e = ap (map (to_at links)) (keyed_hit (from_at links) v (length links) k l e)

  pub targets_pass : (k : ℕ) → k < length links → from_at links k ≢ v → targets_from links v k ≡ targets_from links v (k + 1)
  unfolding targets_from
  targets_pass k l e = ap (map (to_at links)) (keyed_miss (from_at links) v (length links) k l e)

  pub targets_end : (k : ℕ) → length links ≤ k → targets_from links v k ≡ []
  unfolding targets_from
  targets_end k l = ap (map (to_at links)) (keyed_end (from_at links) v (length links) k l)

  pub sources_start : sources_from links v 0 ≡ sources links v
  unfolding sources_from incoming
  sources_start =
      let e : length links - 0 ≡ length links = omega arith in
      ap (λ (m : ℕ). map (from_at links) (keyed (to_at links) v m 0)) e ∙ sources_incoming links v

  pub sources_here : (k : ℕ) → k < length links → to_at links k ≡ v → sources_from links v k ≡ from_at links k ∷ sources_from links v (k + 1)
  unfolding sources_from
  sources_here k l e = ap (map (from_at links)) (keyed_hit (to_at links) v (length links) k l e)

  pub sources_pass : (k : ℕ) → k < length links → to_at links k ≢ v → sources_from links v k ≡ sources_from links v (k + 1)
  unfolding sources_from
  sources_pass k l e = ap (map (from_at links)) (keyed_miss (to_at links) v (length links) k l e)

  pub sources_end : (k : ℕ) → length links ≤ k → sources_from links v k ≡ []
  unfolding sources_from
  sources_end k l = ap (map (from_at links)) (keyed_end (to_at links) v (length links) k l)
