-- A week that is put into a table number by number, and read back.
use Rattle.std.specs.Prelude.{◌≡◌, refl, ℕ, ◌+◌, ◌*◌, ◌/◌, ◌%◌, ◌≤◌, ◌<◌, length, set}
use Rattle.std.proofs.Math.Path.{sym}
use Rattle.std.proofs.Common.{◌∙◌, below_more, get_or-set_same, get_or-set_other}
use mathlib.Core.List.{List, [], ◌∷◌}
use native.Mathlib.Omega.{arith}
use Rattle.std.proofs.Math.ListN.{get_or}
use Rattle.calendar.specs.declared.Period.{Period}
use Rattle.calendar.specs.Hours.{none}
use Rattle.calendars.specs.Packed.{period_in, row_in, week_in, Holds}

-- what stands before the number that is set is as it was
pub earlier : (xs : List ℕ) (i j a : ℕ) → j < i → get_or (set xs i a) j 0 ≡ get_or xs j 0
earlier xs i j a h = get_or-set_other xs i j a 0 (λ e. omega arith)

-- a row is its eight periods, a week its seven rows
eight : (row : List Period) → length row ≡ 8
    → row
    ≡ get_or row 0 none ∷ get_or row 1 none ∷ get_or row 2 none ∷ get_or row 3 none ∷ get_or row 4 none ∷ get_or row 5 none ∷ get_or row 6 none ∷ get_or row 7 none ∷ []
eight [] l = absurd (omega arith)
eight (a ∷ []) l = absurd (omega arith)
eight (a ∷ b ∷ []) l = absurd (omega arith)
eight (a ∷ b ∷ c ∷ []) l = absurd (omega arith)
eight (a ∷ b ∷ c ∷ d ∷ []) l = absurd (omega arith)
eight (a ∷ b ∷ c ∷ d ∷ e ∷ []) l = absurd (omega arith)
eight (a ∷ b ∷ c ∷ d ∷ e ∷ f ∷ []) l = absurd (omega arith)
eight (a ∷ b ∷ c ∷ d ∷ e ∷ f ∷ g ∷ []) l = absurd (omega arith)
eight (a ∷ b ∷ c ∷ d ∷ e ∷ f ∷ g ∷ h ∷ []) l = refl
eight (a ∷ b ∷ c ∷ d ∷ e ∷ f ∷ g ∷ h ∷ i ∷ rest) l = absurd (omega arith)

seven : (week : List (List Period)) → length week ≡ 7
    → week ≡ get_or week 0 [] ∷ get_or week 1 [] ∷ get_or week 2 [] ∷ get_or week 3 [] ∷ get_or week 4 [] ∷ get_or week 5 [] ∷ get_or week 6 [] ∷ []
seven [] l = absurd (omega arith)
seven (a ∷ []) l = absurd (omega arith)
seven (a ∷ b ∷ []) l = absurd (omega arith)
seven (a ∷ b ∷ c ∷ []) l = absurd (omega arith)
seven (a ∷ b ∷ c ∷ d ∷ []) l = absurd (omega arith)
seven (a ∷ b ∷ c ∷ d ∷ e ∷ []) l = absurd (omega arith)
seven (a ∷ b ∷ c ∷ d ∷ e ∷ f ∷ []) l = absurd (omega arith)
seven (a ∷ b ∷ c ∷ d ∷ e ∷ f ∷ g ∷ []) l = refl
seven (a ∷ b ∷ c ∷ d ∷ e ∷ f ∷ g ∷ h ∷ rest) l = absurd (omega arith)

-- two periods in one number
module _ (a b : Period) (from_a : a.from < 65536) (to_a : a.to < 65536) (from_b : b.from < 65536) (to_b : b.to < 65536) where
  abbrev both : ℕ
  both = a.from + 65536 * a.to + 4294967296 * b.from + 281474976710656 * b.to

  pub packed_low : period_in both ≡ a
  unfolding period_in
  packed_low =
      let f : both % 65536 ≡ a.from = omega arith in
      let h : both / 65536 ≡ a.to + 65536 * (b.from + 65536 * b.to) = omega arith in
      let t : both / 65536 % 65536 ≡ a.to = rw h (omega arith) in
      λ i. record { from = f i; to = t i }

  pub packed_high : period_in (both / 4294967296) ≡ b
  unfolding period_in
  packed_high =
      let h : both / 4294967296 ≡ b.from + 65536 * b.to = omega arith in
      let f : both / 4294967296 % 65536 ≡ b.from = rw h (omega arith) in
      let t : both / 4294967296 / 65536 % 65536 ≡ b.to = rw h (omega arith) in
      λ i. record { from = f i; to = t i }

module _ (xs : List ℕ) (at : ℕ) (week : List (List Period)) where
  -- another number is put
  pub holds_more : (n v : ℕ) → at + n < length xs → ((q : ℕ) → q < n → Holds xs at week q)
      → period_in v ≡ get_or (get_or week (n / 4) []) (n % 4) none
      → period_in (v / 4294967296) ≡ get_or (get_or week (n / 4) []) (n % 4 + 4) none
      → (q : ℕ) → q < n + 1 → Holds (set xs (at + n) v) at week q
  holds_more n v l H low high =
      below_more (Holds (set xs (at + n) v) at week) n (λ q m. rw (earlier xs (at + n) (at + q) v (omega arith)) (H q m))
      (rw (get_or-set_same xs (at + n) v 0 l) (low, high))

  -- all 28 stand there
  module _ (H : (q : ℕ) → q < 28 → Holds xs at week q) where
    low : (r i j : ℕ) → i ≡ at + (4 * r + j) → r < 7 → j < 4 → period_in (get_or xs i 0) ≡ get_or (get_or week r []) j none
    low r i j e l m =
        let f : (4 * r + j) / 4 ≡ r = omega arith in
        let g : (4 * r + j) % 4 ≡ j = omega arith in
        rw e (rw (f, g) at (H (4 * r + j) (omega arith)).0)

    high : (r i j : ℕ) → i ≡ at + (4 * r + j) → r < 7 → j < 4 → period_in (get_or xs i 0 / 4294967296) ≡ get_or (get_or week r []) (j + 4) none
    high r i j e l m =
        let f : (4 * r + j) / 4 ≡ r = omega arith in
        let g : (4 * r + j) % 4 ≡ j = omega arith in
        rw e (rw (f, g) at (H (4 * r + j) (omega arith)).1)

    row_held : (r b : ℕ) → b ≡ at + 4 * r → r < 7 → length (get_or week r []) ≡ 8 → row_in xs b ≡ get_or week r []
    unfolding row_in
    row_held r b e l m =
        let l0 = low r b 0 (omega arith) l (omega arith) in
        let h0 = high r b 0 (omega arith) l (omega arith) in
        let l1 = low r (b + 1) 1 (omega arith) l (omega arith) in
        let h1 = high r (b + 1) 1 (omega arith) l (omega arith) in
        let l2 = low r (b + 2) 2 (omega arith) l (omega arith) in
        let h2 = high r (b + 2) 2 (omega arith) l (omega arith) in
        let l3 = low r (b + 3) 3 (omega arith) l (omega arith) in
        let h3 = high r (b + 3) 3 (omega arith) l (omega arith) in
        (λ i. l0 i ∷ l1 i ∷ l2 i ∷ l3 i ∷ h0 i ∷ h1 i ∷ h2 i ∷ h3 i ∷ []) ∙ sym (eight (get_or week r []) m)

    pub week_held : length week ≡ 7 → ((r : ℕ) → r < 7 → length (get_or week r []) ≡ 8) → week_in xs at ≡ week
    unfolding week_in
    week_held l m =
        let row : (r b : ℕ) → b ≡ at + 4 * r → r < 7 → row_in xs b ≡ get_or week r [] = λ r b e h. row_held r b e h (m r h) in
        let r0 = row 0 at (omega arith) (omega arith) in
        let r1 = row 1 (at + 4) (omega arith) (omega arith) in
        let r2 = row 2 (at + 8) (omega arith) (omega arith) in
        let r3 = row 3 (at + 12) (omega arith) (omega arith) in
        let r4 = row 4 (at + 16) (omega arith) (omega arith) in
        let r5 = row 5 (at + 20) (omega arith) (omega arith) in
        let r6 = row 6 (at + 24) (omega arith) (omega arith) in
        (λ i. r0 i ∷ r1 i ∷ r2 i ∷ r3 i ∷ r4 i ∷ r5 i ∷ r6 i ∷ []) ∙ sym (seven week l)

-- a week that stands before n is as it was where all numbers before n are
module _ (xs ys : List ℕ) (n : ℕ) (same : (j : ℕ) → j < n → get_or ys j 0 ≡ get_or xs j 0) where
  row_same : (b : ℕ) → b + 4 ≤ n → row_in ys b ≡ row_in xs b
  unfolding row_in
  row_same b l = rw (same b (omega arith), same (b + 1) (omega arith), same (b + 2) (omega arith), same (b + 3) (omega arith))

  pub week_same : (at : ℕ) → at + 28 ≤ n → week_in ys at ≡ week_in xs at
  unfolding week_in
  week_same at l =
      rw (
        row_same at (omega arith),
        row_same (at + 4) (omega arith),
        row_same (at + 8) (omega arith),
        row_same (at + 12) (omega arith),
        row_same (at + 16) (omega arith),
        row_same (at + 20) (omega arith),
        row_same (at + 24) (omega arith),
      )
