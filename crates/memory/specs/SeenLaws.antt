-- Tables in one slice: first the same, then one after another.
use Rattle.std.specs.Prelude.{◌≡◌, refl, List, ℕ, ℤ}
use Rattle.std.proofs.Common.{sym, subst, ◌∙◌}
use Rattle.memory.specs.State.{state_of}
use Rattle.memory.specs.declared.Tables.{Tables}
use Rattle.memory.specs.Seen.{state, SameLent, SameSlice}

pub same_refl : (s : Tables) → SameSlice s s
same_refl s = record { activities = refl; links = refl; kept = refl; cells = refl; lent = refl }

pub same_then : {s t u : Tables} → SameSlice s t → SameSlice t u → SameSlice s u
same_then p q = record {
  activities = q.activities ∙ p.activities;
  links = q.links ∙ p.links;
  kept = q.kept ∙ p.kept;
  cells = q.cells ∙ p.cells;
  lent = q.lent ∙ p.lent;
}

-- the slice and the sizes alone
pub same_lent : {s t : Tables} → SameSlice s t → SameLent s t
same_lent p = record { activities = p.activities; links = p.links; cells = p.cells; lent = p.lent }

pub lent_then : {s t u : Tables} → SameLent s t → SameLent t u → SameLent s u
lent_then p q = record {
  activities = q.activities ∙ p.activities;
  links = q.links ∙ p.links;
  cells = q.cells ∙ p.cells;
  lent = q.lent ∙ p.lent;
}

-- what holds of the sizes and of the kept links of one holds of the other's
module _ {s t : Tables} (m : SameSlice s t) (P : ℕ → ℕ → Type 0) where
  pub sized : P s.activities s.kept → P t.activities t.kept
  sized h = subst (λ (n : ℕ). P n t.kept) (sym m.activities) (subst (P s.activities) (sym m.kept) h)

  pub sized_back : P t.activities t.kept → P s.activities s.kept
  sized_back h = subst (λ (n : ℕ). P n s.kept) m.activities (subst (P t.activities) m.kept h)

-- the slice that the tables leave
pub given_back : {a l : ℕ} {xs : List ℤ} (t : Tables) → t.activities ≡ a → t.links ≡ l → xs ≡ t.cells.now → state_of a l xs ≡ state t
unfolding state
given_back t p q e = λ i. state_of (sym p i) (sym q i) (e i)
