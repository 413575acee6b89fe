-- The open ends counted by a filter of the activities.
use Rattle.std.specs.Prelude.{◌≡◌, true, false, cond, map, List, [], ◌∷◌, ℕ, zero, suc, ◌+◌, length}
use Rattle.std.specs.List.{filter, range_with_len}
use Rattle.std.proofs.Common.{sym, ap, ◌∙◌, ⊎_elim, length-append, arith}
use Rattle.std.proofs.lemmas.List.{map-id}
use Rattle.std.proofs.lemmas.List.FromFn.{filter_of_map_range_with_len_more}
use Rattle.number.specs.Order.{cases}
use Rattle.order.specs.Plan.{Plan}
use Rattle.order.specs.Ties.{is_open, open_below}
use Rattle.order.proofs.OpenLaws.{open_none, open_one, open_same}

module _ (p : Plan) where
  one_more : (i : ℕ) → open_below p i + length (cond (is_open p i) (i ∷ []) []) ≡ open_below p (i + 1)
  one_more i =
      ⊎_elim (λ (e : is_open p i ≡ true). rw e (sym (open_one p i e))) (λ (e : is_open p i ≡ false). rw e (omega (arith, open_same p i e))) (cases (is_open p i))

  filtered : (n : ℕ) → length (filter (is_open p) (map (λ (j : ℕ). j) (range_with_len 0 n))) ≡ open_below p n
  filtered zero = sym (open_none p)
  filtered (suc i) =
      let on : suc i ≡ i + 1 = omega arith in
      ap (λ (m : ℕ). length (filter (is_open p) (map (λ (j : ℕ). j) (range_with_len 0 m)))) on
      ∙ ap length (filter_of_map_range_with_len_more (is_open p) (λ (j : ℕ). j) 0 i i (omega arith))
      ∙ length-append (filter (is_open p) (map (λ (j : ℕ). j) (range_with_len 0 i))) (cond (is_open p i) (i ∷ []) [])
      ∙ ap (λ (m : ℕ). m + length (cond (is_open p i) (i ∷ []) [])) (filtered i) ∙ one_more i ∙ ap (open_below p) (sym on)

  pub open_filtered : (n : ℕ) → length (filter (is_open p) (range_with_len 0 n)) ≡ open_below p n
  open_filtered n = ap (λ (xs : List ℕ). length (filter (is_open p) xs)) (sym (map-id (range_with_len 0 n))) ∙ filtered n
