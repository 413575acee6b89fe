-- Rows 5 to 15 of 01's table, in 01's order: "5 for all calendars; each activity 6, 7, 8, 9; 10 for all; each activity 11, 12; each link
-- 13 (predecessor first), 14, ignored if an end is a summary, else kept, 8; 15".
use Rattle.std.specs.Prelude.{true, false, ◌&&◌, List, [], ◌∷◌, ℕ, zero, suc, eqb, ltb, leb, length, get_or}
use Rattle.number.specs.Zed.{up, dn}
use Rattle.calendar.specs.Records.{weekly_hours}
use Rattle.project.specs.Status.{is_milestone}
use Rattle.network.specs.Kahn.{kahn, named_loop}
use Rattle.network.specs.Parents.{loop_steps, upward}
use Rattle.order.specs.Plan.{Plan}
use Rattle.order.specs.Ids.{id_of, known, parent_of, summary}
use Rattle.order.specs.Ties.{ignored, tie_too_long, kept_links}

-- a row of the table and its id, with the loop's ids for rows 12 and 15; number 0 where there is no refusal
pub record Verdict : Type 0 where
  pub number : ℕ
  pub id : ℕ
  pub loop : List ℕ

abbrev pub refuse : ℕ → ℕ → Verdict
refuse number id = record { number = number; id = id; loop = [] }

abbrev pub fine : Verdict
fine = refuse 0 0

-- the first refusal of the two
unfoldable pub or_else : Verdict → Verdict → Verdict
or_else v w = elim (eqb v.number 0) [ true ↦ w | false ↦ v ]

-- the first refusal among k from i on
unfoldable pub first_of : (ℕ → Verdict) → ℕ → ℕ → Verdict
first_of judge zero i = fine
first_of judge (suc k) i = elim (eqb (judge i).number 0) [ true ↦ first_of judge k (suc i) | false ↦ judge i ]

abbrev pub named : (ℕ → ℕ) → List ℕ → List ℕ
named id [] = []
named id (i ∷ is) = id i ∷ named id is

-- a row that names a loop: its id is the first name
abbrev pub refuse_loop : ℕ → List ℕ → Verdict
refuse_loop number loop = record { number = number; id = get_or loop 0 0; loop = loop }

module _ (p : Plan) where
  -- 5, "calendar with no weekly hours"
  unfoldable pub judge_calendar : ℕ → Verdict
  judge_calendar k = elim (weekly_hours (p.week k)) [ true ↦ fine | false ↦ refuse 5 0 ]

  -- 6, "id met before"; 7, "negative minutes"; 8, "too long": 100,000 days of 480 minutes; 9, "no such calendar"
  unfoldable pub judge_activity : ℕ → Verdict
  judge_activity i =
      elim (known p i (id_of p i)) [
        | true ↦ refuse 6 (id_of p i)
        | false ↦
            elim (eqb (dn (p.activity i).minutes) 0) [
              | false ↦ refuse 7 (id_of p i)
              | true ↦
                  elim (leb (up (p.activity i).minutes) 48000000) [
                    | false ↦ refuse 8 0
                    | true ↦ elim (ltb (p.activity i).calendar p.calendars) [ false ↦ refuse 9 (id_of p i) | true ↦ fine ]
                  ]
            ]
      ]

  -- 10, "no such parent"
  unfoldable pub judge_parent : ℕ → Verdict
  judge_parent i =
      elim (eqb (p.activity i).parent 0) [
        | true ↦ fine
        | false ↦ elim (known p p.activities (p.activity i).parent) [ true ↦ fine | false ↦ refuse 10 (id_of p i) ]
      ]

  -- 11, "a milestone is a parent"; 12, "parents close a loop", named upward from the first activity that lies on it
  unfoldable pub judge_summary : ℕ → Verdict
  judge_summary i =
      elim (summary p i && is_milestone (p.activity i).kind) [
        | true ↦ refuse 11 (id_of p i)
        | false ↦
            elim (eqb (loop_steps (parent_of p) p.activities i) 0) [
              | true ↦ fine
              | false ↦ refuse_loop 12 (named (id_of p) (upward (parent_of p) (loop_steps (parent_of p) p.activities i) i))
            ]
      ]

  -- 13, "link to an unknown id"; 14, "link to itself"; 8, a kept link's lag
  unfoldable pub judge_link : ℕ → Verdict
  judge_link k =
      elim (known p p.activities (p.link k).predecessor) [
        | false ↦ refuse 13 (p.link k).predecessor
        | true ↦
            elim (known p p.activities (p.link k).successor) [
              | false ↦ refuse 13 (p.link k).successor
              | true ↦
                  elim (eqb (p.link k).predecessor (p.link k).successor) [
                    | true ↦ refuse 14 (p.link k).predecessor
                    | false ↦ elim (ignored p k) [ true ↦ fine | false ↦ elim (tie_too_long p k) [ true ↦ refuse 8 0 | false ↦ fine ] ]
                  ]
            ]
      ]

  -- the order of the activities, as far as it comes
  abbrev pub order : List ℕ
  order = kahn (kept_links p) p.activities

  -- 15, "kept links close a loop"
  unfoldable pub judge_order : Verdict
  judge_order =
      elim (eqb (length order) p.activities) [ true ↦ fine | false ↦ refuse_loop 15 (named (id_of p) (named_loop (kept_links p) p.activities)) ]

  -- "The checks before ordering are all that are made before 15."
  unfoldable pub before_ordering : Verdict
  before_ordering =
      or_else (first_of judge_calendar p.calendars 0)
      (or_else (first_of judge_activity p.activities 0)
      (or_else (first_of judge_parent p.activities 0) (or_else (first_of judge_summary p.activities 0) (first_of judge_link p.links 0))))

  unfoldable pub checked : Verdict
  checked = or_else before_ordering judge_order
