-- The children and the summaries of a depth as the chains list them, and a summary by its children's sum.
use Rattle.std.specs.Prelude.{◌≡◌, Bool, ◌||◌, ◌&&◌}
use Rattle.std.proofs.Math.Path.{refl, sym, ap}
use Rattle.std.proofs.Common.{◌∙◌, arith, ne_eqb}
use Rattle.std.proofs.Math.Bool.{true, false, or-false, or_assoc}
use mathlib.Core.List.{List, [], ◌∷◌, ◌++◌, append-nil}
use Prim.Native.Nat.{ℕ, zero, suc, ◌+◌, ◌-◌, ◌≤◌, ◌<◌}
use Rattle.std.proofs.Math.Dec.{eqb}
use Rattle.std.specs.List.{AllByRecursion}
use Rattle.cells.specs.Chain.{keyed, after, Stands}
use Rattle.cells.specs.ChainLaws.{after_all, after_hit, after_end}
use Rattle.worktime.specs.Walks.{between}
use Rattle.memory.specs.State.{State}
use Rattle.memory.specs.Fields.{parent, first_child}
use Rattle.network.specs.ParentLinks.{depth}
use Rattle.order.specs.Plan.{Plan}
use Rattle.order.specs.Ids.{parent_of, summary}
use Rattle.passes.specs.Plan.{own}
use Rattle.passes.specs.Dates.{leaves, refused, put}
use Rattle.passes.specs.Floats.{measured, critical_by}
use Rattle.passes.specs.Run.{Ran}
use Rattle.results.specs.declared.Shown.{Shown}
use Rattle.results.specs.Results.{least_of, greatest_of, some_of, children_below, summaries_at, rolled_from, rolled}
use Rattle.results.specs.View.{shown_to}
use Rattle.results.proofs.ShowingLaws.{critical_in_lem}
use Rattle.rollup.specs.Rolling.{deep_of}
use Rattle.rollup.specs.Roll.{joined, join_all, child_sum, summed, chosen}

-- ---- lists by a key and by a test
one_more : (b : Bool) (xs : List ℕ) (n : ℕ) → xs ++ elim b [ true ↦ n ∷ [] | false ↦ [] ] ≡ elim b [ true ↦ xs ++ (n ∷ []) | false ↦ xs ]
one_more true xs n = refl
one_more false xs n = append-nil xs

keyed_last : (key : ℕ → ℕ) (i n k : ℕ) → keyed key i (suc n) k ≡ keyed key i n k ++ elim (eqb (key (k + n)) i) [ true ↦ (k + n) ∷ [] | false ↦ [] ]
unfolding keyed
keyed_last key i zero k = let e : k + 0 ≡ k = omega arith in sym (ap (λ (m : ℕ). [] ++ elim (eqb (key m) i) [ true ↦ m ∷ [] | false ↦ [] ]) e)
keyed_last key i (suc n) k =
    let e : k + 1 + n ≡ k + suc n = omega arith in
    let h = keyed_last key i n (k + 1) ∙ ap (λ (m : ℕ). keyed key i n (k + 1) ++ elim (eqb (key m) i) [ true ↦ m ∷ [] | false ↦ [] ]) e in
    front (eqb (key k) i) (keyed key i n (k + 1)) (elim (eqb (key (k + suc n)) i) [ true ↦ (k + suc n) ∷ [] | false ↦ [] ]) (keyed key i (suc n) (k + 1)) h
  where
    front : (b : Bool) (xs ys zs : List ℕ) → zs ≡ xs ++ ys → elim b [ true ↦ k ∷ zs | false ↦ zs ] ≡ elim b [ true ↦ k ∷ xs | false ↦ xs ] ++ ys
    front true xs ys zs g = ap (λ (us : List ℕ). k ∷ us) g
    front false xs ys zs g = g

pub keyed_chosen : (key : ℕ → ℕ) (i n : ℕ) → keyed key i n 0 ≡ chosen (λ j. eqb (key j) i) n
unfolding keyed chosen
keyed_chosen key i zero = refl
keyed_chosen key i (suc n) =
    let e : 0 + n ≡ n = omega arith in
    keyed_last key i n 0 ∙ ap (λ (m : ℕ). keyed key i n 0 ++ elim (eqb (key m) i) [ true ↦ m ∷ [] | false ↦ [] ]) e ∙ one_more (eqb (key n) i) (keyed key i n 0) n
    ∙ ap (λ (xs : List ℕ). elim (eqb (key n) i) [ true ↦ xs ++ (n ∷ []) | false ↦ xs ]) (keyed_chosen key i n)

chosen_same : (b d : ℕ → Bool) (n : ℕ) → ((j : ℕ) → j < n → b j ≡ d j) → chosen b n ≡ chosen d n
unfolding chosen
chosen_same b d zero h = refl
chosen_same b d (suc n) h =
    let e = h n (omega arith) in let f = chosen_same b d n (λ j l. h j (omega arith)) in
    λ z. elim (e z) [ true ↦ f z ++ (n ∷ []) | false ↦ f z ]

module _ (p : Plan) (r : Ran) where
  children_chosen : (s n : ℕ) → children_below p r s n ≡ chosen (λ j. eqb (parent_of p j) (suc s)) n
  unfolding children_below chosen
  children_chosen s zero = refl
  children_chosen s (suc n) = ap (λ (xs : List ℕ). elim (eqb (parent_of p n) (suc s)) [ true ↦ xs ++ (n ∷ []) | false ↦ xs ]) (children_chosen s n)

  summaries_chosen : (k n : ℕ) → summaries_at p r k n ≡ chosen (λ j. summary p j && eqb (depth (parent_of p) p.activities j) k) n
  unfolding summaries_at chosen
  summaries_chosen k zero = refl
  summaries_chosen k (suc n) = ap (λ (xs : List ℕ). elim (summary p n && eqb (depth (parent_of p) p.activities n) k) [ true ↦ xs ++ (n ∷ []) | false ↦ xs ]) (summaries_chosen k n)

  -- the chains of a key list the children, where the keys are the parents
  pub children_are : (key : ℕ → ℕ) → ((j : ℕ) → j < p.activities → key j ≡ parent_of p j) → (s : ℕ) → after key p.activities (suc s) 0 ≡ children_below p r s p.activities
  children_are key h s =
      let e : p.activities - 0 ≡ p.activities = omega arith in
      ap (λ (n : ℕ). keyed key (suc s) n 0) e ∙ keyed_chosen key (suc s) p.activities
      ∙ chosen_same (λ j. eqb (key j) (suc s)) (λ j. eqb (parent_of p j) (suc s)) p.activities (λ j l. ap (λ (x : ℕ). eqb x (suc s)) (h j l))
      ∙ sym (children_chosen s p.activities)

-- ---- a sum field by field
module _ (f : ℕ → Shown) where
  join_es : (x : Shown) (cs : List ℕ) → (join_all f x cs).days.es ≡ least_of (λ k. (f k).days.es) x.days.es cs
  unfolding join_all
  join_es x [] = refl
  join_es x (c ∷ cs) = join_es (joined x (f c)) cs

  join_ef : (x : Shown) (cs : List ℕ) → (join_all f x cs).days.ef ≡ greatest_of (λ k. (f k).days.ef) x.days.ef cs
  unfolding join_all
  join_ef x [] = refl
  join_ef x (c ∷ cs) = join_ef (joined x (f c)) cs

  join_ls : (x : Shown) (cs : List ℕ) → (join_all f x cs).days.ls ≡ least_of (λ k. (f k).days.ls) x.days.ls cs
  unfolding join_all
  join_ls x [] = refl
  join_ls x (c ∷ cs) = join_ls (joined x (f c)) cs

  join_lf : (x : Shown) (cs : List ℕ) → (join_all f x cs).days.lf ≡ greatest_of (λ k. (f k).days.lf) x.days.lf cs
  unfolding join_all
  join_lf x [] = refl
  join_lf x (c ∷ cs) = join_lf (joined x (f c)) cs

  join_finish : (x : Shown) (cs : List ℕ) → (join_all f x cs).finish ≡ greatest_of (λ k. (f k).finish) x.finish cs
  unfolding join_all
  join_finish x [] = refl
  join_finish x (c ∷ cs) = join_finish (joined x (f c)) cs

  join_late : (x : Shown) (cs : List ℕ) → (join_all f x cs).late ≡ greatest_of (λ k. (f k).late) x.late cs
  unfolding join_all
  join_late x [] = refl
  join_late x (c ∷ cs) = join_late (joined x (f c)) cs

  join_path : (x : Shown) (cs : List ℕ) → (join_all f x cs).path ≡ x.path || some_of (λ k. (f k).path) cs
  unfolding join_all
  join_path x [] = sym (or-false x.path)
  join_path x (c ∷ cs) = join_path (joined x (f c)) cs ∙ or_assoc x.path (f c).path (some_of (λ k. (f k).path) cs)

-- a summary with children is their sum
module _ (p : Plan) (r : Ran) (f : ℕ → Shown) (s c : ℕ) (cs : List ℕ) where
  sum_is : rolled_from p r f s (c ∷ cs)
      ≡ measured refused (between (own p s) (join_all f (f c) cs).finish (join_all f (f c) cs).late) (λ total. leaves (put f s (summed p s total (join_all f (f c) cs))))
  sum_is =
      let g = join_path f (f c) cs in
      sym (λ z. measured refused (between (own p s) (join_finish f (f c) cs z) (join_late f (f c) cs z)) (λ total. leaves (put f s (record {
        days = record { es = join_es f (f c) cs z; ef = join_ef f (f c) cs z; ls = join_ls f (f c) cs z; lf = join_lf f (f c) cs z };
        total = total;
        free = 0;
        critical = (sym (critical_in_lem p s p.project.critical_by total (join_all f (f c) cs).path) ∙ ap (critical_by p s p.project.critical_by total) g) z;
        path = g z;
        finish = join_finish f (f c) cs z;
        late = join_late f (f c) cs z;
      }))))

-- ---- the walk along the children
-- the children ks are left, and x is the sum so far
pub record Sums (f : ℕ → Shown) (key : ℕ → ℕ) (a i : ℕ) (whole x : Shown) (ks : List ℕ) : Type 0 where
  pub each : AllByRecursion (λ k. (k < a) × (key k ≡ i)) ks
  pub left : join_all f x ks ≡ whole

module _ (f : ℕ → Shown) (key : ℕ → ℕ) (a i : ℕ) where
  pub sums_start : (c m : ℕ) → c < a → m ≡ c → (x : Shown) → x ≡ f c → Sums f key a i (join_all f (f c) (after key a i (c + 1))) x (after key a i (m + 1))
  sums_start c m b d x e = record {
    each = after_all key a i (m + 1) (omega arith);
    left = (λ z. join_all f (e z) (after key a i (d z + 1)));
  }

  module _ (whole x : Shown) where
    pub sums_turn : (k : ℕ) (ks : List ℕ) → Sums f key a i whole x (k ∷ ks) → (y : Shown) → y ≡ f k → Sums f key a i whole (joined x y) ks
    unfolding join_all
    sums_turn k ks W y e = record { each = W.each.1; left = (λ z. join_all f (joined x (e z)) ks) ∙ W.left }

    pub sums_end : Sums f key a i whole x [] → x ≡ whole
    unfolding join_all
    sums_end W = W.left

-- ---- a summary by the first of its chain
module _ (p : Plan) (r : Ran) (S : State) (s : ℕ) (parents : (j : ℕ) → j < p.activities → S.act parent j ≡ parent_of p j)
    (T : Stands (S.act parent) p.activities (suc s) 0 (S.act first_child s)) where
  pub roll_none : p.activities ≤ S.act first_child s → (f : ℕ → Shown) → leaves f ≡ rolled p r f s
  unfolding rolled
  roll_none l f =
      let e = sym (children_are p r (S.act parent) parents s) ∙ T.rest ∙ after_end (S.act parent) p.activities (suc s) (S.act first_child s) l in
      sym (ap (rolled_from p r f s) e)

  pub roll_some : S.act first_child s < p.activities → let J = child_sum S p.activities s in let f = shown_to p.activities S in
      measured refused (between (own p s) J.finish J.late) (λ total. leaves (put f s (summed p s total J))) ≡ rolled p r f s
  unfolding rolled
  roll_some l =
      let c : ℕ = S.act first_child s in
      let e = sym (children_are p r (S.act parent) parents s) ∙ T.rest ∙ after_hit (S.act parent) p.activities (suc s) c l (T.hits l) in
      let f : ℕ → Shown = shown_to p.activities S in
      sym (ap (rolled_from p r f s) e ∙ sum_is p r f s c (after (S.act parent) p.activities (suc s) (c + 1)))

-- ---- the summaries of a depth, where the keys are their depths
deep_test : (b : Bool) (n k : ℕ) → eqb (elim b [ true ↦ n | false ↦ 0 ]) (suc k) ≡ b && eqb n (suc k)
deep_test true n k = refl
deep_test false n k = ne_eqb 0 (suc k) (λ e. omega arith)

pub summaries_are : (p : Plan) (r : Ran) (key : ℕ → ℕ) → ((j : ℕ) → j < p.activities → key j ≡ deep_of p j) → (k : ℕ) → after key p.activities (suc k) 0 ≡ summaries_at p r (suc k) p.activities
unfolding deep_of
summaries_are p r key h k =
    let e : p.activities - 0 ≡ p.activities = omega arith in
    ap (λ (n : ℕ). keyed key (suc k) n 0) e ∙ keyed_chosen key (suc k) p.activities
    ∙ chosen_same (λ j. eqb (key j) (suc k)) (λ j. summary p j && eqb (depth (parent_of p) p.activities j) (suc k)) p.activities
    (λ j l. ap (λ (x : ℕ). eqb x (suc k)) (h j l) ∙ deep_test (summary p j) (depth (parent_of p) p.activities j) k)
    ∙ sym (summaries_chosen p r (suc k) p.activities)
