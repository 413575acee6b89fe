-- Tables in one slice are lent for one plan; and what is kept of the memory where fields of activities are put.
use Rattle.std.specs.Prelude.{◌≡◌, refl, ℕ, pos}
use Rattle.std.proofs.Common.{subst, sym, ◌∙◌}
use Rattle.memory.specs.State.{State, put_act, fill_act}
use Rattle.memory.specs.Seen.{SameLent, SameSlice}
use Rattle.memory.specs.SeenLaws.{same_lent}
use Rattle.memory.specs.declared.Tables.{Tables}
use Rattle.memory.specs.StateLaws.{act_field, act_z_field, fill_act_field, fill_act_z_field}
use Rattle.ids.specs.Lent.{Lent, KeptBut}
use Rattle.sheet.specs.declared.value.Sheet.{Sheet}

pub lent_left : {sheet : Sheet} {t u : Tables} → Lent sheet t → SameLent t u → Lent sheet u
lent_left h m = record { activities = m.activities ∙ h.activities; links = m.links ∙ h.links }

pub still_lent : {sheet : Sheet} {t u : Tables} → Lent sheet t → SameSlice t u → Lent sheet u
still_lent h m = lent_left h (same_lent m)

module _ (F : ℕ → Type 0) where
  pub kept_refl : (S : State) → KeptBut F S S
  kept_refl S = record { acts = λ h n. refl; acts_z = λ h n. refl; links = refl; links_z = refl }

  pub kept_then : {S T U : State} → KeptBut F S T → KeptBut F T U → KeptBut F S U
  kept_then p q = record {
    acts = λ h n. q.acts h n ∙ p.acts h n;
    acts_z = λ h n. q.acts_z h n ∙ p.acts_z h n;
    links = q.links ∙ p.links;
    links_z = q.links_z ∙ p.links_z;
  }

  module _ (f : ℕ) (is : F f) where
    other : (h : ℕ) → (F h → ⊥) → h ≡ f → ⊥
    other h n e = n (subst F (sym e) is)

    pub kept_put : (S : State) (i v : ℕ) → KeptBut F S (put_act S f i v)
    kept_put S i v = record {
      acts = λ h n. act_field S f i (pos v) h (other h n);
      acts_z = λ h n. act_z_field S f i (pos v) h (other h n);
      links = refl;
      links_z = refl;
    }

    pub kept_fill : (S : State) (a v : ℕ) → KeptBut F S (fill_act S f a v)
    kept_fill S a v = record {
      acts = λ h n. fill_act_field S f v a h (other h n);
      acts_z = λ h n. fill_act_z_field S f v a h (other h n);
      links = refl;
      links_z = refl;
    }
