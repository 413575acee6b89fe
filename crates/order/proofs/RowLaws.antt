-- The rows that the checks give: 5 to 15 or none, no id with 5 and 8, and ids of a loop only with 12 and 15.
use Rattle.std.specs.Prelude.{◌≡◌, refl, Bool, true, false, ◌&&◌, List, [], ◌≢◌, ℕ, ◌≤◌, ◌<◌, eqb, ltb, leb, length, get_or}
use Rattle.std.proofs.Common.{arith}
use Rattle.number.specs.Zed.{up, dn}
use Rattle.project.specs.Status.{is_milestone}
use Rattle.network.specs.Kahn.{named_loop}
use Rattle.network.specs.Parents.{loop_steps, upward}
use Rattle.order.specs.Plan.{Plan}
use Rattle.order.specs.Ids.{id_of, known, parent_of, summary}
use Rattle.order.specs.Ties.{ignored, tie_too_long, kept_links}
use Rattle.order.specs.Checks.{Verdict, refuse, fine, or_else, named, refuse_loop, judge_calendar, judge_activity, judge_parent, judge_summary, judge_link, order, judge_order, before_ordering, checked}
use Rattle.calendar.specs.Records.{weekly_hours}
use Rattle.order.specs.VerdictLaws.{or_both, first_each}
use Rattle.order.specs.CheckLaws.{calendars_first, activities_first, parents_first, summaries_first, links_first}

-- ---- each check gives one of its rows
module _ (P : Verdict → Type 0) where
  either : (b : Bool) {x y : Verdict} → P x → P y → P (elim b [ true ↦ x | false ↦ y ])
  either true x y = x
  either false x y = y

  module _ (p : Plan) where
    pub calendar_rows : (k : ℕ) → P fine → P (refuse 5 0) → P (judge_calendar p k)
    unfolding judge_calendar
    calendar_rows k f a = either (weekly_hours (p.week k)) f a

    pub activity_rows : (i : ℕ) → P fine → P (refuse 6 (id_of p i)) → P (refuse 7 (id_of p i)) → P (refuse 8 0) → P (refuse 9 (id_of p i))
        → P (judge_activity p i)
    unfolding judge_activity
    activity_rows i f a b c d =
        either (known p i (id_of p i)) a
        (either (eqb (dn (p.activity i).minutes) 0)
        (either (leb (up (p.activity i).minutes) 48000000) (either (ltb (p.activity i).calendar p.calendars) f d) c) b)

    pub parent_rows : (i : ℕ) → P fine → P (refuse 10 (id_of p i)) → P (judge_parent p i)
    unfolding judge_parent
    parent_rows i f a = either (eqb (p.activity i).parent 0) f (either (known p p.activities (p.activity i).parent) f a)

    pub summary_rows : (i : ℕ) → P fine → P (refuse 11 (id_of p i))
        → P (refuse_loop 12 (named (id_of p) (upward (parent_of p) (loop_steps (parent_of p) p.activities i) i))) → P (judge_summary p i)
    unfolding judge_summary
    summary_rows i f a b =
        either (summary p i && is_milestone (p.activity i).kind) a (either (eqb (loop_steps (parent_of p) p.activities i) 0) f b)

    pub link_rows : (k : ℕ) → P fine → P (refuse 13 (p.link k).predecessor) → P (refuse 13 (p.link k).successor)
        → P (refuse 14 (p.link k).predecessor) → P (refuse 8 0) → P (judge_link p k)
    unfolding judge_link
    link_rows k f a b c d =
        either (known p p.activities (p.link k).predecessor)
        (either (known p p.activities (p.link k).successor)
        (either (eqb (p.link k).predecessor (p.link k).successor) c (either (ignored p k) f (either (tie_too_long p k) d f))) b) a

    pub order_rows : P fine → P (refuse_loop 15 (named (id_of p) (named_loop (kept_links p) p.activities))) → P (judge_order p)
    unfolding judge_order
    order_rows f a = either (eqb (length (order p)) p.activities) f a

-- a row of the table up to `last`, with what it says of the id and the loop
pub record RowTo (last : ℕ) (v : Verdict) : Type 0 where
  pub most : v.number ≤ last
  pub least : v.number ≢ 0 → 5 ≤ v.number
  pub none : v.number ≡ 0 → v ≡ fine
  pub five : v.number ≡ 5 → v.id ≡ 0
  pub eight : v.number ≡ 8 → v.id ≡ 0
  pub alone : v.number ≢ 12 → v.number ≢ 15 → v.loop ≡ []
  pub twelve : v.number ≡ 12 → v.id ≡ get_or v.loop 0 0
  pub fifteen : v.number ≡ 15 → v.id ≡ get_or v.loop 0 0

row_fine : (last : ℕ) → RowTo last fine
row_fine last = record {
  most = omega arith;
  least = λ n. absurd (n refl);
  none = λ h. refl;
  five = λ h. refl;
  eight = λ h. refl;
  alone = λ a b. refl;
  twelve = λ h. absurd (omega arith);
  fifteen = λ h. absurd (omega arith);
}

-- with an id where the row is neither 5 nor 8
row_id : (last number id : ℕ) → (5 < number) × (number ≢ 8) × (number ≤ last) × (number < 15) × (number ≢ 12) → RowTo last (refuse number id)
row_id last number id h = record {
  most = h.2;
  least = λ n. omega arith;
  none = λ z. absurd (omega arith);
  five = λ e. absurd (omega arith);
  eight = λ e. absurd (h.1 e);
  alone = λ a b. refl;
  twelve = λ e. absurd (h.4 e);
  fifteen = λ e. absurd (omega arith);
}

row_none : (last number : ℕ) → (5 ≤ number) × (number ≤ last) → RowTo last (refuse number 0)
row_none last number h = record {
  most = h.1;
  least = λ n. h.0;
  none = λ z. absurd (omega arith);
  five = λ e. refl;
  eight = λ e. refl;
  alone = λ a b. refl;
  twelve = λ e. refl;
  fifteen = λ e. refl;
}

row_loop : (last number : ℕ) (xs : List ℕ) → (8 < number) × (number ≤ last) → (number ≢ 12 → number ≢ 15 → ⊥) → RowTo last (refuse_loop number xs)
row_loop last number xs h f = record {
  most = h.1;
  least = λ n. omega arith;
  none = λ z. absurd (omega arith);
  five = λ e. absurd (omega arith);
  eight = λ e. absurd (omega arith);
  alone = λ a b. absurd (f a b);
  twelve = λ e. refl;
  fifteen = λ e. refl;
}

row_later : (v : Verdict) → RowTo 14 v → RowTo 15 v
row_later v r = record {
  most = omega (arith, r.most);
  least = r.least;
  none = r.none;
  five = r.five;
  eight = r.eight;
  alone = r.alone;
  twelve = r.twelve;
  fifteen = r.fifteen;
}

module _ (p : Plan) where
  abbrev Row : Verdict → Type 0
  Row = RowTo 14

  first_calendar : Row (calendars_first p)
  first_calendar =
      first_each (judge_calendar p) p.calendars Row (row_fine 14)
      (λ k l. calendar_rows Row p k (row_fine 14) (row_none 14 5 (omega arith)))

  first_activity : Row (activities_first p)
  first_activity =
      first_each (judge_activity p) p.activities Row (row_fine 14)
      (λ i l.
      activity_rows Row p i (row_fine 14) (row_id 14 6 (id_of p i) (omega arith)) (row_id 14 7 (id_of p i) (omega arith))
      (row_none 14 8 (omega arith)) (row_id 14 9 (id_of p i) (omega arith)))

  first_parent : Row (parents_first p)
  first_parent =
      first_each (judge_parent p) p.activities Row (row_fine 14)
      (λ i l. parent_rows Row p i (row_fine 14) (row_id 14 10 (id_of p i) (omega arith)))

  first_summary : Row (summaries_first p)
  first_summary =
      first_each (judge_summary p) p.activities Row (row_fine 14)
      (λ i l.
      summary_rows Row p i (row_fine 14) (row_id 14 11 (id_of p i) (omega arith))
      (row_loop 14 12 (named (id_of p) (upward (parent_of p) (loop_steps (parent_of p) p.activities i) i)) (omega arith) (λ a b. a refl)))

  first_link : Row (links_first p)
  first_link =
      first_each (judge_link p) p.links Row (row_fine 14)
      (λ k l.
      link_rows Row p k (row_fine 14) (row_id 14 13 (p.link k).predecessor (omega arith)) (row_id 14 13 (p.link k).successor (omega arith))
      (row_id 14 14 (p.link k).predecessor (omega arith)) (row_none 14 8 (omega arith)))

  pub before_rows : RowTo 14 (before_ordering p)
  unfolding before_ordering
  before_rows =
      or_both (calendars_first p) (or_else (activities_first p) (or_else (parents_first p) (or_else (summaries_first p) (links_first p)))) Row first_calendar
      (or_both (activities_first p) (or_else (parents_first p) (or_else (summaries_first p) (links_first p))) Row first_activity
      (or_both (parents_first p) (or_else (summaries_first p) (links_first p)) Row first_parent
      (or_both (summaries_first p) (links_first p) Row first_summary first_link)))

  -- "rows 5 to 15": `checked` gives one of them, or none
  pub checked_rows : RowTo 15 (checked p)
  unfolding checked
  checked_rows =
      or_both (before_ordering p) (judge_order p) (RowTo 15) (row_later (before_ordering p) before_rows)
      (order_rows (RowTo 15) p (row_fine 15)
      (row_loop 15 15 (named (id_of p) (named_loop (kept_links p) p.activities)) (omega arith) (λ a b. b refl)))
