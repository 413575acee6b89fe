-- Counts, releases and those that wait for none, over a part that grows by one: what a loop over links or activities meets.
use Rattle.std.specs.Prelude.{◌≡◌, refl, true, false, ◌≢◌, List, [], ◌∷◌, ◌++◌, ℕ, ◌+◌, ◌≤◌, ◌<◌, eqb, length, get_or, take, drop}
use Rattle.std.proofs.Common.{sym, ap, ◌∙◌, ⊎_elim, arith, add-one, eq-eqb, ne_eqb, length-take, take-append-drop, take-suc}
use Rattle.std.proofs.Math.Seq.{take-length}
use Rattle.network.specs.Links.{Link, no_link}
use Rattle.network.specs.Kahn.{Waiting, put, meet, release, into, ready}
use Rattle.network.specs.Times.{same, same_cases}
use Rattle.network.specs.Outgoing.{from_at, to_at}
use Rattle.network.specs.OutgoingLaws.{release_hit, release_miss}
use Rattle.network.proofs.Meeting.{put_same, put_other, joined_last, joined_not, ready_suc}

-- ---- links into an activity

pub into_nil : (x : ℕ) → into [] x ≡ 0
unfolding into
into_nil x = refl

pub into_cons : (l : Link) (ls : List Link) (x : ℕ) → into (l ∷ ls) x ≡ same x l.to + into ls x
unfolding into
into_cons l ls x =
    ⊎_elim (λ c. simp (into, eq-eqb l.to x (sym c.0)) (omega arith)) (λ c. simp (into, ne_eqb l.to x (λ q. c.0 (sym q))) (omega arith))
    (same_cases x l.to)

pub into_append : (ls ms : List Link) (x : ℕ) → into (ls ++ ms) x ≡ into ls x + into ms x
into_append [] ms x = omega (arith, into_nil x)
into_append (l ∷ ls) ms x = omega (arith, into_cons l (ls ++ ms) x, into_cons l ls x, into_append ls ms x)

pub into_le : (ls : List Link) (x : ℕ) → into ls x ≤ length ls
into_le [] x = omega (arith, into_nil x)
into_le (l ∷ ls) x =
    ⊎_elim (λ c. omega (arith, into_cons l ls x, into_le ls x)) (λ c. omega (arith, into_cons l ls x, into_le ls x)) (same_cases x l.to)

module _ (links : List Link) where
  pub into_take : (k x : ℕ) → k < length links → into (take (k + 1) links) x ≡ into (take k links) x + same x (to_at links k)
  into_take k x l =
      rw (add-one, take-suc links k no_link)
      (omega (arith, into_append (take k links) (get_or links k no_link ∷ []) x, into_cons (get_or links k no_link) [] x, into_nil x))

  -- no more of the first k links than k, nor than of all
  pub into_take_le : (k x : ℕ) → into (take k links) x ≤ k
  into_take_le k x = omega (arith, into_le (take k links) x, length-take k links)

  pub into_take_part : (k x : ℕ) → into (take k links) x ≤ into links x
  into_take_part k x = omega (arith, into_append (take k links) (drop k links) x, ap (λ ls. into ls x) (take-append-drop k links))

  -- ---- counting: the store that raises the count of what link k leads to

  pub record Counted (count : ℕ → ℕ) (k : ℕ) : Type 0 where
    pub counts : (x : ℕ) → count x ≡ into (take k links) x

  pub counted_start : (count : ℕ → ℕ) → ((x : ℕ) → count x ≡ 0) → Counted count 0
  counted_start count z = record { counts = λ x. z x ∙ sym (into_nil x) }

  pub counted_turn : {count : ℕ → ℕ} {k : ℕ} → Counted count k → k < length links
      → (count' : ℕ → ℕ) → ((x : ℕ) → count' x ≡ put count (to_at links k) (count (to_at links k) + 1) x) → Counted count' (k + 1)
  counted_turn {count} {k} c l count' up = record {
    counts = λ x.
        ⊎_elim
        (λ e. omega (arith, up x, ap (put count (to_at links k) (count (to_at links k) + 1)) e.0, put_same count (to_at links k) (count (to_at links k) + 1), ap count e.0, c.counts x, into_take k x l))
        (λ e. omega (arith, up x, put_other count (to_at links k) (count (to_at links k) + 1) x e.0, c.counts x, into_take k x l))
        (same_cases x (to_at links k));
  }

  pub counted_done : {count : ℕ → ℕ} → Counted count (length links) → (x : ℕ) → count x ≡ into links x
  counted_done c x = c.counts x ∙ ap (λ (ls : List Link). into ls x) (take-length links)

-- ---- releasing

release_snoc : (v : ℕ) (ls : List Link) (l : Link) (s : Waiting) → release v (ls ++ (l ∷ [])) s ≡ release v (l ∷ []) (release v ls s)
unfolding release
release_snoc v [] l s = refl
release_snoc v (k ∷ ls) l s = release_snoc v ls l (elim (eqb k.from v) [ true ↦ meet k.to s | false ↦ s ])

release_nil : (v : ℕ) (s : Waiting) → release v [] s ≡ s
unfolding release
release_nil v s = refl

module _ (v : ℕ) (links : List Link) (k : ℕ) (s : Waiting) (l : k < length links) where
  grown : release v (take (k + 1) links) s ≡ release v (get_or links k no_link ∷ []) (release v (take k links) s)
  grown = rw (add-one, take-suc links k no_link) (release_snoc v (take k links) (get_or links k no_link) s)

  pub release_take_hit : from_at links k ≡ v → release v (take (k + 1) links) s ≡ meet (to_at links k) (release v (take k links) s)
  release_take_hit e = grown ∙ release_hit v (get_or links k no_link) [] (release v (take k links) s) e ∙ release_nil v (meet (to_at links k) (release v (take k links) s))

  pub release_take_miss : from_at links k ≢ v → release v (take (k + 1) links) s ≡ release v (take k links) s
  release_take_miss e = grown ∙ release_miss v (get_or links k no_link) [] (release v (take k links) s) e ∙ release_nil v (release v (take k links) s)

-- ---- those that wait for none

pub ready_zero : (c : ℕ → ℕ) → ready c 0 ≡ []
unfolding ready
ready_zero c = refl

pub ready_hit : (c : ℕ → ℕ) (m : ℕ) → c m ≡ 0 → ready c (m + 1) ≡ ready c m ++ (m ∷ [])
ready_hit c m e = rw (add-one m) (ready_suc c m ∙ joined_last (c m) m (ready c m) e)

pub ready_miss : (c : ℕ → ℕ) (m : ℕ) → 0 < c m → ready c (m + 1) ≡ ready c m
ready_miss c m p = rw (add-one m) (ready_suc c m ∙ joined_not (c m) m (ready c m) p)
