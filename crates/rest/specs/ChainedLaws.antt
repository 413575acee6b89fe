-- Chains stay where keys, heads and nexts do: only those of the rows that they list are read.
use Rattle.std.specs.Prelude.{◌≡◌, ℕ, ◌+◌, ◌-◌, ◌≤◌, ◌<◌}
use Rattle.std.proofs.Common.{sym, ◌∙◌, arith}
use Rattle.cells.specs.Chain.{after, Stands, Chained}
use Rattle.cells.specs.ChainLaws.{keyed_same}

module _ {key key' : ℕ → ℕ} {l : ℕ} (same : (j : ℕ) → j < l → key' j ≡ key j) where
  after_same : (i k : ℕ) → k ≤ l → after key' l i k ≡ after key l i k
  after_same i k h = keyed_same key' key i (l - k) k (λ j b. same j (omega arith))

  stands_same : (i k₀ k : ℕ) → Stands key l i k₀ k → Stands key' l i k₀ k
  stands_same i k₀ k s = record {
    low = s.low;
    top = s.top;
    hits = λ h. same k h ∙ s.hits h;
    rest = after_same i k₀ (omega (arith, s.low, s.top)) ∙ s.rest ∙ sym (after_same i k s.top);
  }

  pub chained_same : {head next next' : ℕ → ℕ} {a k : ℕ} → ((j : ℕ) → j < l → next' j ≡ next j) → Chained key head next a l k → Chained key' head next' a l k
  chained_same {head} {next} {next'} n C = record {
    heads = λ i b. stands_same i _ (head i) (C.heads i b);
    nexts = λ j g b. rw (same j b, n j b) (stands_same (key j) (j + 1) (next j) (C.nexts j g b));
  }
