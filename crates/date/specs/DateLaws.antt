-- A day has one year, month and day of the month at most.
use Rattle.std.specs.Prelude.{◌≡◌, refl, List, [], ◌∷◌, ℕ, zero, suc, ◌+◌, ◌-◌, ◌≤◌, ◌<◌, ℤ, pos, get_or, take}
use Rattle.std.proofs.Math.Path.{ap}
use Rattle.std.proofs.Common.{⊎_elim, arith}
use Rattle.number.specs.Order.{lt_or_le}
use Rattle.number.specs.Zed.{up, dn}
use Rattle.number.specs.ZedLaws.{same, add_is}
use Rattle.date.specs.Gregorian.{sum, month_lengths, days_before, year_length, years_up, years_down, new_year, IsDate}
use Rattle.date.specs.YearLaws.{new_year_up, new_year_dn, year_before}

-- ---- the first m of a list of numbers
pub sum_more : (xs : List ℕ) (m : ℕ) → sum (take (suc m) xs) ≡ sum (take m xs) + get_or xs m 0
unfolding sum
sum_more [] zero = refl
sum_more [] (suc m) = refl
sum_more (x ∷ xs) zero = omega arith
sum_more (x ∷ xs) (suc m) = omega (arith, sum_more xs m)

pub sum_part : (xs : List ℕ) (m n : ℕ) → m ≤ n → sum (take m xs) ≤ sum (take n xs)
unfolding sum
sum_part xs zero n h = omega arith
sum_part [] (suc m) n h = omega arith
sum_part (x ∷ xs) (suc m) zero h = absurd (omega arith)
sum_part (x ∷ xs) (suc m) (suc n) h = omega (arith, sum_part xs m n (omega arith))

pub sum_all : (xs : List ℕ) (m : ℕ) → sum (take m xs) ≤ sum xs
unfolding sum
sum_all xs zero = omega arith
sum_all [] (suc m) = omega arith
sum_all (x ∷ xs) (suc m) = omega (arith, sum_all xs m)

-- ---- a date's day of the year, from 0
module _ {day year : ℤ} {month day_of_month : ℕ} (D : IsDate day year month day_of_month) where
  -- it lies in its month
  pub in_month : days_before year month + (day_of_month - 1) < sum (take (suc (month - 1)) (month_lengths year))
  in_month = omega (arith, sum_more (month_lengths year) (month - 1), D.from, D.to)

  -- and in its year
  pub in_year : days_before year month + (day_of_month - 1) < year_length year
  in_year = omega (arith, in_month, sum_all (month_lengths year) (suc (month - 1)))

  -- the count, by the two sides of its integers
  pub count_is : up day + years_up 1970 + years_down (dn year) ≡ dn day + years_up (up year) + (days_before year month + (day_of_month - 1))
  unfolding new_year
  count_is =
      let o = days_before year month + (day_of_month - 1) in
      let l = add_is day (new_year (pos 1970)) in
      let r = add_is (new_year year) (pos o) in
      omega (arith, l, r, ap up D.counted, ap dn D.counted, new_year_up year, new_year_dn year)

module _ {day year year' : ℤ} {month month' dom dom' : ℕ} (D : IsDate day year month dom) (D' : IsDate day year' month' dom') where
  not_before : up year + dn year' < up year' + dn year → ⊥
  not_before h = omega (arith, count_is D, count_is D', in_year D, year_before year year' h)

module _ {day year : ℤ} {month month' dom dom' : ℕ} (D : IsDate day year month dom) (D' : IsDate day year month' dom') where
  month_not_before : month < month' → ⊥
  month_not_before h =
      let p = D.month_from in
      omega (arith, count_is D, count_is D', in_month D, sum_part (month_lengths year) (suc (month - 1)) (month' - 1) (omega arith))

pub same_year : {day year year' : ℤ} {month month' dom dom' : ℕ} → IsDate day year month dom → IsDate day year' month' dom' → year ≡ year'
same_year {day} {year} {year'} D D' =
    ⊎_elim (λ h. absurd (not_before D D' h))
    (λ h. ⊎_elim (λ k. absurd (not_before D' D k)) (λ k. same year year' (omega arith)) (lt_or_le (up year' + dn year) (up year + dn year')))
    (lt_or_le (up year + dn year') (up year' + dn year))

same_month : {day year : ℤ} {month month' dom dom' : ℕ} → IsDate day year month dom → IsDate day year month' dom' → month ≡ month'
same_month {day} {year} {month} {month'} D D' =
    ⊎_elim (λ h. absurd (month_not_before D D' h))
    (λ h. ⊎_elim (λ k. absurd (month_not_before D' D k)) (λ k. omega arith) (lt_or_le month' month)) (lt_or_le month month')

same_day : {day year : ℤ} {month dom dom' : ℕ} → IsDate day year month dom → IsDate day year month dom' → dom ≡ dom'
same_day D D' = omega (arith, count_is D, count_is D', D.from, D'.from)

-- all three are the only ones
pub only_date : {day year year' : ℤ} {month month' dom dom' : ℕ} → IsDate day year month dom → IsDate day year' month' dom'
    → (year ≡ year') × (month ≡ month') × (dom ≡ dom')
only_date {day} {year} {year'} {month} {month'} {dom} {dom'} D D' =
    let y : year ≡ year' = same_year D D' in
    let E : IsDate day year month' dom' = rw y D' in
    let m : month ≡ month' = same_month D E in
    let F : IsDate day year month dom' = rw m E in
    (y, m, same_day D F)
