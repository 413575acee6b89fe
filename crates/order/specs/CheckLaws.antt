-- Each check of rows 5 to 15 by its ways, and what holds where it is fine.
use Rattle.std.specs.Prelude.{◌≡◌, ◌&&◌, ◌≢◌, ℕ, ◌≤◌, ◌<◌}
use Rattle.std.proofs.Math.Bool.{true, false}
use Rattle.number.specs.Zed.{up, dn}
use Rattle.project.specs.Status.{is_milestone}
use Rattle.network.specs.Parents.{loop_steps}
use Rattle.order.specs.Plan.{Plan}
use Rattle.order.specs.Ids.{id_of, known, parent_of, summary}
use Rattle.order.specs.Ties.{ignored, tie_too_long}
use Rattle.order.specs.Checks.{Verdict, first_of, judge_calendar, judge_activity, judge_parent, judge_summary, judge_link}

module _ (p : Plan) where
  -- ---- 6, 7, 8, 9
  module _ (i : ℕ) where
    pub record ActivityFine : Type 0 where
      pub new : known p i (id_of p i) ≡ false
      pub whole : dn (p.activity i).minutes ≡ 0
      pub short : up (p.activity i).minutes ≤ 48000000
      pub calendar : (p.activity i).calendar < p.calendars

  -- ---- 11, 12
  module _ (i : ℕ) where
    pub record SummaryFine : Type 0 where
      pub task : (summary p i && is_milestone (p.activity i).kind) ≡ false
      pub free : loop_steps (parent_of p) p.activities i ≡ 0

  -- ---- 13, 14, 8
  module _ (k : ℕ) where
    pub record LinkFine : Type 0 where
      pub from : known p p.activities (p.link k).predecessor ≡ true
      pub to : known p p.activities (p.link k).successor ≡ true
      pub apart : (p.link k).predecessor ≢ (p.link k).successor
      pub short : ignored p k ≡ false → tie_too_long p k ≡ false

  -- ---- the first refusal of each stage
  abbrev pub calendars_first : Verdict
  calendars_first = first_of (judge_calendar p) p.calendars 0

  abbrev pub activities_first : Verdict
  activities_first = first_of (judge_activity p) p.activities 0

  abbrev pub parents_first : Verdict
  parents_first = first_of (judge_parent p) p.activities 0

  abbrev pub summaries_first : Verdict
  summaries_first = first_of (judge_summary p) p.activities 0

  abbrev pub links_first : Verdict
  links_first = first_of (judge_link p) p.links 0
