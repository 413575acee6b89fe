-- Trees of rows: ways in them, none, and one row more.
use Rattle.std.specs.Prelude.{◌≡◌, refl, ◌≢◌, ℕ, suc, ◌+◌, ◌/◌, ◌%◌, ◌<◌}
use Rattle.std.proofs.Common.{sym, ap, ◌∙◌, ⊎_elim, arith, mod-lt}
use Rattle.number.specs.Order.{eq_or_ne}
use Rattle.memory.specs.Fields.{root}
use Rattle.ids.specs.Tree.{Children, Way, here, down, Leads, Trees, Vacant, at_root, at_child, Leaf}

-- ---- ways
-- one step more
pub way_then : {t : Children} {left m rest j : ℕ} → Way t left m rest j → (k : ℕ) → t (left % 2) m ≡ suc k → Way t (left / 2) k rest j
way_then here k e = down k e here
way_then (down q f w) k e = down q f (way_then w k e)

-- a way that does not end where it starts goes on to a child
pub way_on : {t : Children} {left m rest j : ℕ} → Way t left m rest j → j ≢ m → (k : ℕ) × (t (rest % 2) j ≡ suc k) × Way t left m (rest / 2) k
way_on here n = absurd (n refl)
way_on (down k e w) n = (k, e, w)

module _ (id : ℕ → ℕ) (a : ℕ) where
  module _ {t : Children} {n : ℕ} (A : Trees id a t n) where
    -- a way stays where the children on it are the same
    way_same : (u : Children) → ((b j k : ℕ) → b < 2 → j < n → t b j ≡ suc k → u b j ≡ suc k) → {left m rest j : ℕ} → j < n → Way t left m rest j → Way u left m rest j
    way_same u h l here = here
    way_same u h l (down k e w) = down k (h _ _ k (omega arith) l e) (way_same u h (A.later _ _ k (omega arith) l e).1 w)

    module _ (u : Children) (h : (b j k : ℕ) → b < 2 → j < n → t b j ≡ suc k → u b j ≡ suc k) (g : (r k : ℕ) → t root r ≡ suc k → u root r ≡ suc k) where
      -- what leads to a row stays where the roots are the same too
      leads_same : (d : ℕ) {left m : ℕ} → Leads a t d left m → Leads a u d left m
      leads_same d w = (w.0, g (d % a) w.0 w.1, way_same u h (A.roots (d % a) w.0 w.1) w.2)

    -- trees stay where their rows and roots do
    pub trees_same : (u : Children) → ((b j : ℕ) → b < 2 → j < n → u b j ≡ t b j) → ((r : ℕ) → u root r ≡ t root r) → Trees id a u n
    trees_same u h g = record {
      later = λ b j k c l e. A.later b j k c l (sym (h b j c l) ∙ e);
      roots = λ r k e. A.roots r k (sym (g r) ∙ e);
      reached =
          λ m l.
          let w = A.reached m l in (w.0, leads_same u (λ b j k c q e. h b j c q ∙ e) (λ r k e. g r ∙ e) (id m) w.1);
    }

    -- and so does what is vacant
    pub vacant_same : (u : Children) → ((b j : ℕ) → b < 2 → j < n → u b j ≡ t b j) → ((r : ℕ) → u root r ≡ t root r)
        → {d parent side : ℕ} → Vacant a t n d parent side → Vacant a u n d parent side
    vacant_same u h g (at_root e) = at_root (g _ ∙ e)
    vacant_same u h g (at_child {left} l e w) =
        at_child {left = left} l (h (left % 2) _ (omega arith) l ∙ e)
        (leads_same u (λ b j k c q e. h b j c q ∙ e) (λ r k e. g r ∙ e) _ w)

  pub trees_none : (t : Children) → ((r : ℕ) → t root r ≡ 0) → Trees id a t 0
  trees_none t h = record {
    later = λ b j k c l e. absurd (omega arith);
    roots = λ r k e. absurd (omega (arith, h r, e));
    reached = λ m l. absurd (omega arith);
  }

  -- ---- where row i comes in
  module _ {t : Children} {i d : ℕ} where
    vacant_none : {parent side : ℕ} → Vacant a t i d parent side → t side parent ≡ 0
    vacant_none (at_root e) = e
    vacant_none (at_child l e w) = e

    -- a child comes after its parent
    vacant_after : {parent side : ℕ} → Vacant a t i d parent side → side < 2 → parent < i
    vacant_after (at_root e) c = absurd (omega arith)
    vacant_after (at_child l e w) c = l

    pub vacant_within : {parent side : ℕ} → Vacant a t i d parent side → i < a → (parent < a) × (side < 64)
    vacant_within (at_root e) l = (mod-lt d (omega arith), omega arith)
    vacant_within (at_child q e w) l = (omega arith, omega arith)

  -- row i comes in there: nothing else changes
  module _ {t : Children} {i parent side : ℕ} (A : Trees id a t i) (L : Leaf t i) (E : Vacant a t i (id i) parent side) where
    module _ (u : Children) (put : u side parent ≡ suc i) (rest : (b j : ℕ) → (b ≡ side → j ≡ parent → ⊥) → u b j ≡ t b j) where
      -- what was there stays
      stays : (b j k : ℕ) → t b j ≡ suc k → u b j ≡ suc k
      stays b j k e = rest b j (λ p q. let z : t b j ≡ 0 = rw (p, q) (vacant_none E) in absurd (omega arith)) ∙ e

      -- and each that is there was, or is row i
      was : {C : Type 0} (b j k : ℕ) → u b j ≡ suc k → (b ≡ side → j ≡ parent → k ≡ i → C) → (t b j ≡ suc k → C) → C
      was b j k e new old =
          ⊎_elim
          (λ (p : b ≡ side).
          ⊎_elim (λ (q : j ≡ parent). let z : u b j ≡ suc i = rw (p, q) put in new p q (omega arith))
          (λ (q : j ≢ parent). old (sym (rest b j (λ x y. q y)) ∙ e)) (eq_or_ne j parent))
          (λ (p : b ≢ side). old (sym (rest b j (λ x y. p x)) ∙ e)) (eq_or_ne b side)

      after : (b j k : ℕ) → b < 2 → j < i + 1 → u b j ≡ suc k → (j < k) × (k < i + 1)
      after b j k c l e =
          was b j k e (λ p q r. (omega (arith, vacant_after E (omega arith)), omega arith))
          (λ g.
          ⊎_elim (λ (q : j ≡ i). absurd (omega (arith, L b c, ap (t b) q)))
          (λ (q : j ≢ i). let r = A.later b j k c (omega arith) g in (r.0, omega (arith, r.1))) (eq_or_ne j i))

      leads_stay : (d : ℕ) {left m : ℕ} → Leads a t d left m → Leads a u d left m
      leads_stay d w = leads_same A u (λ b j k c l e. stays b j k e) (λ r k e. stays root r k e) d w

      leads_in : {parent side : ℕ} → Vacant a t i (id i) parent side → u side parent ≡ suc i → (left : ℕ) × Leads a u (id i) left i
      leads_in (at_root e) p = (id i / a, (i, p, here))
      leads_in (at_child {left} l e w) p = let x = leads_stay (id i) w in (left / 2, (x.0, x.1, way_then x.2 i p))

      pub trees_more : Trees id a u (i + 1)
      trees_more = record {
        later = after;
        roots = λ r k e. was root r k e (λ p q z. omega arith) (λ g. omega (arith, A.roots r k g));
        reached =
            λ m l.
            ⊎_elim (λ (q : m ≡ i). rw q (leads_in E put))
            (λ (q : m ≢ i). let w = A.reached m (omega arith) in (w.0, leads_stay (id m) w.1)) (eq_or_ne m i);
      }
