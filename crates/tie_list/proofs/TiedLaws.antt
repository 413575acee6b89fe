-- Counting the links of a slice one after another counts the links into each activity.
use Rattle.std.specs.Prelude.{◌≡◌, List, ℕ, ◌+◌, ◌^◌, ◌<◌, length, get_or, take, replicate}
use Rattle.std.proofs.Common.{sym, ◌∙◌, ap, subst, ⊎_elim, arith, length-set, get_or-set_same, get_or-set_other}
use Rattle.std.proofs.lemmas.List.{length-replicate, get_or-replicate}
use Rattle.std.proofs.Math.ListN.{get_or-eq_default}
use Rattle.std.proofs.Math.Seq.{take-length}
use Rattle.number.specs.Order.{lt_or_le}
use Rattle.network.specs.Links.{Link}
use Rattle.network.specs.Kahn.{into}
use Rattle.network.specs.Times.{same, same_cases}
use Rattle.network.proofs.Prefix.{into_nil, into_take, into_take_le}
use Rattle.tie_list.specs.Tied.{leads_to, one_more, Counted}

module _ (ls : List Link) where
  pub counted_none : (n : ℕ) → Counted ls 0 (replicate n 0)
  counted_none n i l = get_or-replicate n i 0 0 (subst (λ (m : ℕ). i < m) (length-replicate n 0) l) ∙ sym (into_nil i)

  module _ (k : ℕ) (cs : List ℕ) (l : k < length ls) (h : Counted ls k cs) where
    -- the links into i among the first k + 1 links
    grown : (i : ℕ) → into (take (k + 1) ls) i ≡ into (take k ls) i + same i (leads_to ls k)
    grown i = into_take ls k i l

    pub counted_more : Counted ls (k + 1) (one_more cs (leads_to ls k))
    counted_more i b =
        let to = leads_to ls k in
        let up = get_or cs to 0 + 1 in
        let was = h i (subst (λ (m : ℕ). i < m) (length-set cs to up) b) in
        ⊎_elim
        (λ c.
        let inside : to < length cs = subst (λ (m : ℕ). m < length cs) c.0 (subst (λ (m : ℕ). i < m) (length-set cs to up) b) in
        omega (arith, grown i, c.1, was, ap (λ (j : ℕ). get_or cs j 0) c.0, ap (λ (j : ℕ). get_or (one_more cs to) j 0) c.0, get_or-set_same cs to up 0 inside))
        (λ c. omega (arith, grown i, c.1, was, get_or-set_other cs to i up 0 c.0)) (same_cases i to)

    -- no count runs over
    pub counted_fits : (to : ℕ) → length ls < 2 ^ 64 → get_or cs to 0 + 1 < 2 ^ 64
    counted_fits to r =
        ⊎_elim (λ b. omega (arith, h to b, into_take_le ls k to)) (λ b. omega (arith, get_or-eq_default cs 0 b)) (lt_or_le to (length cs))

  pub counted_all : (cs : List ℕ) → Counted ls (length ls) cs → (i : ℕ) → i < length cs → get_or cs i 0 ≡ into ls i
  counted_all cs h i l =
      h i l ∙ ap (λ (xs : List Link). into xs i) (take-length ls)
