-- Frames: one after another, a wider one, and those of puts, of a filled field and of chains.
use Rattle.std.specs.Prelude.{◌≡◌, refl, true, not, ◌≢◌, ◌⊎◌, ℕ, ◌≤◌, ◌<◌, ltb, ℤ}
use Rattle.std.proofs.Common.{◌∙◌, inl, inr, ⊎_elim, arith, ltb-true, ltb-false, lt-ltb, le-ltb}
use Rattle.std.proofs.Math.Bool.{or-true}
use Rattle.std.proofs.lemmas.Bool.{or_cases, not-true}
use Rattle.memory.specs.State.{State, put_act_z, fill_act}
use Rattle.memory.specs.StateLaws.{act_field, act_z_field, fill_act_field, fill_act_z_field}
use Rattle.memory.specs.Chains.{Kept}
use Rattle.topology.specs.Frame.{outside, Frame}

outside_cases : (lo hi f : ℕ) → outside lo hi f ≡ true → (f < lo) ⊎ (hi ≤ f)
outside_cases lo hi f e = ⊎_elim (λ h. inl (ltb-true f lo h)) (λ h. inr (ltb-false f hi (not-true (ltb f hi) h))) (or_cases (ltb f lo) (not (ltb f hi)) e)

pub outside_below : (lo hi f : ℕ) → f < lo → outside lo hi f ≡ true
outside_below lo hi f h = simp (lt-ltb _ _ h)

pub outside_above : (lo hi f : ℕ) → hi ≤ f → outside lo hi f ≡ true
outside_above lo hi f h = simp (le-ltb _ _ h) (or-true (ltb f lo))

-- what lies outside a wider stretch lies outside a narrower one
outside_wider : (lo hi low high f : ℕ) → low ≤ lo → hi ≤ high → outside low high f ≡ true → outside lo hi f ≡ true
outside_wider lo hi low high f p q e =
    ⊎_elim (λ h. outside_below lo hi f (omega arith)) (λ h. outside_above lo hi f (omega arith)) (outside_cases low high f e)

-- what lies outside is none of them
outside_ne : (lo hi f g : ℕ) → outside lo hi f ≡ true → lo ≤ g → g < hi → f ≢ g
outside_ne lo hi f g o p q e = ⊎_elim (λ h. omega arith) (λ h. omega arith) (outside_cases lo hi f o)

module _ (lo hi low high : ℕ) where
  pub frame_refl : (S : State) → Frame lo hi low high S S
  frame_refl S = record { acts = λ f n. refl; links = λ f n. refl; acts_z = λ f n. refl; links_z = λ f n. refl }

  pub frame_then : {S T U : State} → Frame lo hi low high S T → Frame lo hi low high T U → Frame lo hi low high S U
  frame_then p q = record {
    acts = λ f n. q.acts f n ∙ p.acts f n;
    links = λ f n. q.links f n ∙ p.links f n;
    acts_z = λ f n. q.acts_z f n ∙ p.acts_z f n;
    links_z = λ f n. q.links_z f n ∙ p.links_z f n;
  }

  pub frame_wider : (lo' hi' low' high' : ℕ) → lo ≤ lo' → hi' ≤ hi → low ≤ low' → high' ≤ high → {S T : State} → Frame lo' hi' low' high' S T → Frame lo hi low high S T
  frame_wider lo' hi' low' high' p q r s F = record {
    acts = λ f n. F.acts f (outside_wider lo' hi' lo hi f p q n);
    links = λ f n. F.links f (outside_wider low' high' low high f r s n);
    acts_z = λ f n. F.acts_z f (outside_wider lo' hi' lo hi f p q n);
    links_z = λ f n. F.links_z f (outside_wider low' high' low high f r s n);
  }

  -- of one that leaves all links
  pub frame_acts : (lo' hi' : ℕ) → lo ≤ lo' → hi' ≤ hi → {S T : State} → Frame lo' hi' 0 0 S T → Frame lo hi low high S T
  frame_acts lo' hi' p q F = record {
    acts = λ f n. F.acts f (outside_wider lo' hi' lo hi f p q n);
    links = λ f n. F.links f (outside_above 0 0 f (omega arith));
    acts_z = λ f n. F.acts_z f (outside_wider lo' hi' lo hi f p q n);
    links_z = λ f n. F.links_z f (outside_above 0 0 f (omega arith));
  }

  module _ (g : ℕ) (p : lo ≤ g) (q : g < hi) where
    pub frame_put : (S : State) (i : ℕ) (z : ℤ) → Frame lo hi low high S (put_act_z S g i z)
    frame_put S i z = record {
      acts = λ f n. act_field S g i z f (outside_ne lo hi f g n p q);
      links = λ f n. refl;
      acts_z = λ f n. act_z_field S g i z f (outside_ne lo hi f g n p q);
      links_z = λ f n. refl;
    }

    pub frame_fill : (S : State) (a v : ℕ) → Frame lo hi low high S (fill_act S g a v)
    frame_fill S a v = record {
      acts = λ f n. fill_act_field S g v a f (outside_ne lo hi f g n p q);
      links = λ f n. refl;
      acts_z = λ f n. fill_act_z_field S g v a f (outside_ne lo hi f g n p q);
      links_z = λ f n. refl;
    }

    pub frame_chains : {S T : State} (next : ℕ) → low ≤ next → next < high → Kept g next S T → Frame lo hi low high S T
    frame_chains next r s K = record {
      acts = λ f n. K.acts f (outside_ne lo hi f g n p q);
      links = λ f n. K.links f (outside_ne low high f next n r s);
      acts_z = λ f n. K.acts_z f (outside_ne lo hi f g n p q);
      links_z = λ f n. K.links_z f (outside_ne low high f next n r s);
    }
