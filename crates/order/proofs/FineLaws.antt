-- What holds of a plan that passes the checks before ordering.
use Rattle.std.specs.Prelude.{◌≡◌, true, ◌↔◌, ℕ, ◌<◌}
use Rattle.order.specs.Plan.{Plan}
use Rattle.order.specs.Checks.{or_else, judge_calendar, judge_activity, judge_parent, judge_summary, judge_link, before_ordering}
use Rattle.calendar.specs.Records.{weekly_hours}
use Rattle.order.specs.VerdictLaws.{or_fine, first_fine}
use Rattle.order.specs.IdLaws.{DistinctIds, distinct_ids_lem}
use Rattle.order.specs.CheckLaws.{calendars_first, activities_first, parents_first, summaries_first, links_first}
use Rattle.order.proofs.CheckLaws.{calendar_fine, activity_fine_lem, parent_fine, summary_fine_lem, link_fine_lem}
use Rattle.order.specs.FineLaws.{ActivitiesFine, ParentsKnown, SummariesFine, LinksFine, PlanFine}

module _ (p : Plan) where
  pub activities_fine_lem : ((activities_first p).number ≡ 0) ↔ ActivitiesFine p
  activities_fine_lem = (
    λ h i l. (activity_fine_lem p i).0 ((first_fine (judge_activity p) p.activities).0 h i l),
    λ h. (first_fine (judge_activity p) p.activities).1 (λ i l. (activity_fine_lem p i).1 (h i l)),
  )

  pub parents_fine : ((parents_first p).number ≡ 0) ↔ ParentsKnown p
  parents_fine = (
    λ h i l. (parent_fine p i).0 ((first_fine (judge_parent p) p.activities).0 h i l),
    λ h. (first_fine (judge_parent p) p.activities).1 (λ i l. (parent_fine p i).1 (h i l)),
  )

  pub summaries_fine_lem : ((summaries_first p).number ≡ 0) ↔ SummariesFine p
  summaries_fine_lem = (
    λ h i l. (summary_fine_lem p i).0 ((first_fine (judge_summary p) p.activities).0 h i l),
    λ h. (first_fine (judge_summary p) p.activities).1 (λ i l. (summary_fine_lem p i).1 (h i l)),
  )

  pub links_fine_lem : ((links_first p).number ≡ 0) ↔ LinksFine p
  links_fine_lem = (
    λ h k l. (link_fine_lem p k).0 ((first_fine (judge_link p) p.links).0 h k l),
    λ h. (first_fine (judge_link p) p.links).1 (λ k l. (link_fine_lem p k).1 (h k l)),
  )

  pub calendars_fine : ((calendars_first p).number ≡ 0) ↔ ((k : ℕ) → k < p.calendars → weekly_hours (p.week k) ≡ true)
  calendars_fine = (
    λ h k l. (calendar_fine p k).0 ((first_fine (judge_calendar p) p.calendars).0 h k l),
    λ h. (first_fine (judge_calendar p) p.calendars).1 (λ k l. (calendar_fine p k).1 (h k l)),
  )

  -- "whatever plan passes the checks before ordering"
  pub plan_fine_lem : ((before_ordering p).number ≡ 0) ↔ PlanFine p
  unfolding before_ordering
  plan_fine_lem = (
    λ h.
        let a = (or_fine (calendars_first p) (or_else (activities_first p) (or_else (parents_first p) (or_else (summaries_first p) (links_first p))))).0 h in
        let b = (or_fine (activities_first p) (or_else (parents_first p) (or_else (summaries_first p) (links_first p)))).0 a.1 in
        let c = (or_fine (parents_first p) (or_else (summaries_first p) (links_first p))).0 b.1 in
        let d = (or_fine (summaries_first p) (links_first p)).0 c.1 in
        record {
          calendars = calendars_fine.0 a.0;
          activities = activities_fine_lem.0 b.0;
          parents = parents_fine.0 c.0;
          summaries = summaries_fine_lem.0 d.0;
          links = links_fine_lem.0 d.1;
        },
    λ f.
        (or_fine (calendars_first p) (or_else (activities_first p) (or_else (parents_first p) (or_else (summaries_first p) (links_first p))))).1 (
          calendars_fine.1 f.calendars,
          (or_fine (activities_first p) (or_else (parents_first p) (or_else (summaries_first p) (links_first p)))).1 (
            activities_fine_lem.1 f.activities,
            (or_fine (parents_first p) (or_else (summaries_first p) (links_first p))).1 (
              parents_fine.1 f.parents,
              (or_fine (summaries_first p) (links_first p)).1 (summaries_fine_lem.1 f.summaries, links_fine_lem.1 f.links),
            ),
          ),
        ),
  )

  -- after row 6 the ids are distinct
  pub fine_distinct : ActivitiesFine p → DistinctIds p
  fine_distinct h = distinct_ids_lem p (λ i l. (h i l).new)
