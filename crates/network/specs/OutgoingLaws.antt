-- Releasing an activity is meeting the links that leave it, in rising order; and those links as a chain lists them.
use Rattle.std.specs.Prelude.{◌≡◌, ◌≢◌, ℕ, suc, ◌+◌, ◌-◌, ◌≤◌, ◌<◌, length}
use Rattle.std.proofs.Math.Path.{refl, ap}
use Rattle.std.proofs.Common.{sym, ◌∙◌}
use Rattle.std.proofs.Math.Logic.{⊎_elim}
use mathlib.Core.List.{List, [], ◌∷◌, ◌++◌, map}
use native.Mathlib.Omega.{arith}
use borrow.Author.Tests.{eq-eqb, ne_eqb}
use Rattle.number.specs.Order.{eq_or_ne}
use Rattle.network.specs.Links.{Link}
use Rattle.network.specs.Kahn.{Waiting, meet, release}
use Rattle.network.specs.Times.{same, same_cases, times, times_nil, times_cons}
use Rattle.network.specs.Pending.{sent}
use Rattle.network.specs.PendingLaws.{gate_one, gate_zero}
use Rattle.network.specs.Outgoing.{from_at, to_at, outgoing, incoming, targets, sources, meet_all}
use Rattle.cells.specs.Chain.{keyed}

-- ---- the indexes from k on, of l in all

module _ (key : ℕ → ℕ) (v : ℕ) where
  keyed_yes : (m k : ℕ) → key k ≡ v → keyed key v (suc m) k ≡ k ∷ keyed key v m (k + 1)
  unfolding keyed
  keyed_yes m k e = simp (keyed, eq-eqb (key k) v e)

  keyed_no : (m k : ℕ) → key k ≢ v → keyed key v (suc m) k ≡ keyed key v m (k + 1)
  unfolding keyed
  keyed_no m k e = simp (keyed, ne_eqb (key k) v e)

  pub keyed_end : (l k : ℕ) → l ≤ k → keyed key v (l - k) k ≡ []
  unfolding keyed
  keyed_end l k h = let e : l - k ≡ 0 = omega arith in rw e

  pub keyed_hit : (l k : ℕ) → k < l → key k ≡ v → keyed key v (l - k) k ≡ k ∷ keyed key v (l - (k + 1)) (k + 1)
  keyed_hit l k h e = let q : l - k ≡ suc (l - (k + 1)) = omega arith in rw q (keyed_yes (l - (k + 1)) k e)

  pub keyed_miss : (l k : ℕ) → k < l → key k ≢ v → keyed key v (l - k) k ≡ keyed key v (l - (k + 1)) (k + 1)
  keyed_miss l k h e = let q : l - k ≡ suc (l - (k + 1)) = omega arith in rw q (keyed_no (l - (k + 1)) k e)

-- ---- the same by the links' other ends

pub targets_hit : (l : Link) (ls : List Link) (v : ℕ) → l.from ≡ v → targets (l ∷ ls) v ≡ l.to ∷ targets ls v
unfolding targets
targets_hit l ls v e = simp (targets, eq-eqb l.from v e)

pub targets_miss : (l : Link) (ls : List Link) (v : ℕ) → l.from ≢ v → targets (l ∷ ls) v ≡ targets ls v
unfolding targets
targets_miss l ls v e = simp (targets, ne_eqb l.from v e)

pub sources_hit : (l : Link) (ls : List Link) (v : ℕ) → l.to ≡ v → sources (l ∷ ls) v ≡ l.from ∷ sources ls v
unfolding sources
sources_hit l ls v e = simp (sources, eq-eqb l.to v e)

pub sources_miss : (l : Link) (ls : List Link) (v : ℕ) → l.to ≢ v → sources (l ∷ ls) v ≡ sources ls v
unfolding sources
sources_miss l ls v e = simp (sources, ne_eqb l.to v e)

-- the indexes of a part of the links that begins at k, under functions that hold its ends
module _ (key other : ℕ → ℕ) (v : ℕ) where
  pub targets_keyed : (ls : List Link) (k : ℕ)
      → ((p : ℕ) → p < length ls → key (k + p) ≡ from_at ls p) → ((p : ℕ) → p < length ls → other (k + p) ≡ to_at ls p)
      → map other (keyed key v (length ls) k) ≡ targets ls v
  unfolding keyed targets
  targets_keyed [] k f t = refl
  targets_keyed (l ∷ ls) k f t =
      let a : key k ≡ l.from = ap key (omega arith) ∙ f 0 (omega arith) in
      let b : other k ≡ l.to = ap other (omega arith) ∙ t 0 (omega arith) in
      let rest : map other (keyed key v (length ls) (k + 1)) ≡ targets ls v =
      targets_keyed ls (k + 1) (λ p h. ap key (omega arith) ∙ f (suc p) (omega arith)) (λ p h. ap other (omega arith) ∙ t (suc p) (omega arith)) in
      ⊎_elim (λ e. ap (map other) (keyed_yes key v (length ls) k (a ∙ e)) ∙ cc (targets_hit l ls v e))
      (λ e. ap (map other) (keyed_no key v (length ls) k (λ q. e (sym a ∙ q))) ∙ cc (targets_miss l ls v e)) (eq_or_ne l.from v)

  pub sources_keyed : (ls : List Link) (k : ℕ)
      → ((p : ℕ) → p < length ls → key (k + p) ≡ to_at ls p) → ((p : ℕ) → p < length ls → other (k + p) ≡ from_at ls p)
      → map other (keyed key v (length ls) k) ≡ sources ls v
  unfolding keyed sources
  sources_keyed [] k f t = refl
  sources_keyed (l ∷ ls) k f t =
      let a : key k ≡ l.to = ap key (omega arith) ∙ f 0 (omega arith) in
      let b : other k ≡ l.from = ap other (omega arith) ∙ t 0 (omega arith) in
      let rest : map other (keyed key v (length ls) (k + 1)) ≡ sources ls v =
      sources_keyed ls (k + 1) (λ p h. ap key (omega arith) ∙ f (suc p) (omega arith)) (λ p h. ap other (omega arith) ∙ t (suc p) (omega arith)) in
      ⊎_elim (λ e. ap (map other) (keyed_yes key v (length ls) k (a ∙ e)) ∙ cc (sources_hit l ls v e))
      (λ e. ap (map other) (keyed_no key v (length ls) k (λ q. e (sym a ∙ q))) ∙ cc (sources_miss l ls v e)) (eq_or_ne l.to v)

pub targets_outgoing : (links : List Link) (v : ℕ) → map (to_at links) (outgoing links v) ≡ targets links v
unfolding outgoing
targets_outgoing links v =
    targets_keyed (from_at links) (to_at links) v links 0 (λ p h. ap (from_at links) (omega arith)) (λ p h. ap (to_at links) (omega arith))

pub sources_incoming : (links : List Link) (v : ℕ) → map (from_at links) (incoming links v) ≡ sources links v
unfolding incoming
sources_incoming links v =
    sources_keyed (to_at links) (from_at links) v links 0 (λ p h. ap (to_at links) (omega arith)) (λ p h. ap (from_at links) (omega arith))

-- ---- releasing is meeting

pub release_hit : (v : ℕ) (l : Link) (ls : List Link) (s : Waiting) → l.from ≡ v → release v (l ∷ ls) s ≡ release v ls (meet l.to s)
unfolding release
release_hit v l ls s e = simp (eq-eqb l.from v e)

pub release_miss : (v : ℕ) (l : Link) (ls : List Link) (s : Waiting) → l.from ≢ v → release v (l ∷ ls) s ≡ release v ls s
unfolding release
release_miss v l ls s e = simp (ne_eqb l.from v e)

pub meet_all_cons : (j : ℕ) (js : List ℕ) (s : Waiting) → meet_all (j ∷ js) s ≡ meet_all js (meet j s)
unfolding meet_all
meet_all_cons j js s = refl

pub meet_all_nil : (s : Waiting) → meet_all [] s ≡ s
unfolding meet_all
meet_all_nil s = refl

pub meet_all_append : (is js : List ℕ) (s : Waiting) → meet_all (is ++ js) s ≡ meet_all js (meet_all is s)
unfolding meet_all
meet_all_append [] js s = refl
meet_all_append (i ∷ is) js s = meet_all_append is js (meet i s)

pub release_targets : (v : ℕ) (ls : List Link) (s : Waiting) → release v ls s ≡ meet_all (targets ls v) s
unfolding release meet_all targets
release_targets v [] s = refl
release_targets v (l ∷ ls) s =
    ⊎_elim
    (λ e. release_hit v l ls s e ∙ release_targets v ls (meet l.to s) ∙ ap (λ (js : List ℕ). meet_all js s) (sym (targets_hit l ls v e)))
    (λ e. release_miss v l ls s e ∙ release_targets v ls s ∙ ap (λ (js : List ℕ). meet_all js s) (sym (targets_miss l ls v e)))
    (eq_or_ne l.from v)

pub release_outgoing : (v : ℕ) (links : List Link) (s : Waiting) → release v links s ≡ meet_all (map (to_at links) (outgoing links v)) s
release_outgoing v links s = rw (targets_outgoing links v) (release_targets v links s)

-- each target as often as links lead there
pub sent_targets : (v : ℕ) (ls : List Link) (x : ℕ) → sent v ls x ≡ times x (targets ls v)
unfolding sent targets
sent_targets v [] x = sym (times_nil x)
sent_targets v (l ∷ ls) x =
    let m = same l.from v in
    ⊎_elim
    (λ e.
    ⊎_elim (λ c. omega (arith, ap (times x) (targets_hit l ls v e.0), times_cons x l.to (targets ls v), gate_one m c.1, sent_targets v ls x))
    (λ c. omega (arith, ap (times x) (targets_hit l ls v e.0), times_cons x l.to (targets ls v), gate_zero m c.1, sent_targets v ls x))
    (same_cases x l.to))
    (λ e.
    ⊎_elim (λ c. omega (arith, ap (times x) (targets_miss l ls v e.0), gate_one m c.1, sent_targets v ls x))
    (λ c. omega (arith, ap (times x) (targets_miss l ls v e.0), gate_zero m c.1, sent_targets v ls x)) (same_cases x l.to))
    (same_cases l.from v)
