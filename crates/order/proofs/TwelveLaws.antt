-- Row 12: refused so exactly where parents close a loop, which is named upward from the first activity that lies on one.
use Rattle.std.specs.Prelude.{◌≡◌, false, ◌&&◌, ◌≢◌, ◌↔◌, ℕ, ◌+◌, ◌≤◌, ◌<◌, length, get_or}
use Rattle.std.proofs.Common.{sym, ap, ◌∙◌, ⊎_elim, arith}
use Rattle.project.specs.Status.{is_milestone}
use Rattle.network.specs.Links.{Loop}
use Rattle.network.specs.Parents.{OnLoop, loop_steps, upward}
use Rattle.network.specs.ParentLinks.{parent_links}
use Rattle.network.proofs.ParentLoops.{loop_steps_back, loop_steps_le, loop_steps_on, loop_steps_zero}
use Rattle.network.proofs.ParentRows.{length_upward, upward_at, upward_loop, upward_below}
use Rattle.network.specs.Climbing.{climb_zero}
use Rattle.order.specs.Plan.{Plan}
use Rattle.order.specs.Ids.{id_of, parent_of, summary}
use Rattle.order.specs.Checks.{Verdict, refuse_loop, named, or_else, judge_calendar, judge_activity, judge_parent, judge_summary, judge_link, judge_order, before_ordering, checked}
use Rattle.order.specs.Demand.{LoopOfParents, ParentsCloseLoop}
use Rattle.order.specs.VerdictLaws.{or_first, or_second, or_skips, or_stays, Refusal, first_cases, first_each}
use Rattle.order.specs.CheckLaws.{calendars_first, activities_first, parents_first, summaries_first, links_first}
use Rattle.order.proofs.CheckLaws.{summary_fine_lem}
use Rattle.order.proofs.RowLaws.{calendar_rows, activity_rows, parent_rows, link_rows, order_rows}
use Rattle.order.specs.FineLaws.{ParentsKnown}
use Rattle.order.proofs.FineLaws.{plan_fine_lem, activities_fine_lem, parents_fine, fine_distinct}
use Rattle.order.specs.ParentLaws.{parent_le, no_parents_loop}
use Rattle.order.proofs.LoopLaws.{named_length, named_at}
use Rattle.order.proofs.ParentLoopLaws.{parent_loop_ids, parents_close_ids, summary_twelve, summary_refused}

module _ (p : Plan) where
  -- ---- where 12 is given, the checks up to 10 passed, and it is the first refusal of 11 and 12
  abbrev Other : Verdict → Type 0
  Other v = v.number ≢ 12

  calendars_other : Other (calendars_first p)
  calendars_other = first_each (judge_calendar p) p.calendars Other (omega arith) (λ k l. calendar_rows Other p k (omega arith) (omega arith))

  activities_other : Other (activities_first p)
  activities_other =
      first_each (judge_activity p) p.activities Other (omega arith)
      (λ i l. activity_rows Other p i (omega arith) (omega arith) (omega arith) (omega arith) (omega arith))

  parents_other : Other (parents_first p)
  parents_other = first_each (judge_parent p) p.activities Other (omega arith) (λ i l. parent_rows Other p i (omega arith) (omega arith))

  links_other : Other (links_first p)
  links_other =
      first_each (judge_link p) p.links Other (omega arith)
      (λ k l. link_rows Other p k (omega arith) (omega arith) (omega arith) (omega arith) (omega arith))

  order_other : Other (judge_order p)
  order_other = order_rows Other p (omega arith) (omega arith)

  pub record Twelve : Type 0 where
    pub calendars : (calendars_first p).number ≡ 0
    pub activities : (activities_first p).number ≡ 0
    pub parents : (parents_first p).number ≡ 0
    pub is : checked p ≡ summaries_first p

  pub twelve_is : (checked p).number ≡ 12 → Twelve
  unfolding checked before_ordering
  twelve_is e =
      let a = or_stays (before_ordering p) (judge_order p) 12 order_other e in
      let b = or_skips (calendars_first p) (or_else (activities_first p) (or_else (parents_first p) (or_else (summaries_first p) (links_first p)))) 12
      calendars_other (ap (λ (v : Verdict). v.number) (sym a) ∙ e) in
      let c = or_skips (activities_first p) (or_else (parents_first p) (or_else (summaries_first p) (links_first p))) 12 activities_other
      (ap (λ (v : Verdict). v.number) (sym (a ∙ b.1)) ∙ e) in
      let d = or_skips (parents_first p) (or_else (summaries_first p) (links_first p)) 12 parents_other
      (ap (λ (v : Verdict). v.number) (sym (a ∙ b.1 ∙ c.1)) ∙ e) in
      let f = or_stays (summaries_first p) (links_first p) 12 links_other (ap (λ (v : Verdict). v.number) (sym (a ∙ b.1 ∙ c.1 ∙ d.1)) ∙ e) in
      record { calendars = b.0; activities = c.0; parents = d.0; is = a ∙ b.1 ∙ c.1 ∙ d.1 ∙ f }

  -- the first activity in sheet order that lies on a loop of parents
  pub record FirstOnLoop (i : ℕ) : Type 0 where
    pub below : i < p.activities
    pub on : OnLoop (parent_of p) i
    pub first : (j : ℕ) → j < i → ¬ (OnLoop (parent_of p) j)

  module _ (e : (checked p).number ≡ 12) where
    known_parents : ParentsKnown p
    known_parents = (parents_fine p).0 (twelve_is e).parents

    refusal : Refusal (judge_summary p) p.activities 0 (summaries_first p)
    refusal =
        ⊎_elim (λ a. absurd (omega (arith, ap (λ (v : Verdict). v.number) ((twelve_is e).is ∙ a.1)))) (λ r. r)
        (first_cases (judge_summary p) p.activities)

    abbrev place : ℕ
    place = refusal.place

    abbrev steps : ℕ
    steps = loop_steps (parent_of p) p.activities place

    place_below : place < p.activities
    place_below = omega (arith, refusal.below)

    at_place : (judge_summary p place).number ≡ 12
    at_place = ap (λ (v : Verdict). v.number) (sym ((twelve_is e).is ∙ refusal.is)) ∙ e

    some_steps : 0 < steps
    some_steps = (summary_twelve p place at_place).0

    twelve_loop : checked p ≡ refuse_loop 12 (named (id_of p) (upward (parent_of p) steps place))
    twelve_loop = (twelve_is e).is ∙ refusal.is ∙ (summary_twelve p place at_place).1

    upward_closed : Loop (parent_links (parent_of p) p.activities) (upward (parent_of p) steps place)
    upward_closed =
        upward_loop (parent_of p) (parent_le p known_parents) steps place place_below some_steps
        (loop_steps_back (parent_of p) p.activities place some_steps)

    -- the ids given name a loop of parents
    pub parent_loop_named : LoopOfParents p (checked p).loop
    parent_loop_named = rw twelve_loop (parent_loop_ids p known_parents (upward (parent_of p) steps place) upward_closed)

    -- its first name is the first activity's that lies on one
    pub parent_loop_first : (i : ℕ) × FirstOnLoop i × ((checked p).id ≡ id_of p i)
    parent_loop_first = (
      place,
      record {
        below = place_below;
        on = loop_steps_on (parent_of p) p.activities place some_steps;
        first = λ j l.
            (loop_steps_zero (parent_of p) (parent_le p known_parents) j (omega (arith, place_below))).0
            ((summary_fine_lem p j).0 (refusal.first j (omega arith) l)).free;
      },
      ap (λ (v : Verdict). v.id) twelve_loop
          ∙ named_at (id_of p) (upward (parent_of p) steps place) 0 (omega (arith, length_upward (parent_of p) steps place))
          ∙ ap (id_of p) (omega (arith, upward_at (parent_of p) steps place 0 (omega arith), climb_zero (parent_of p) place)),
    )

    -- there is room for it in `names`
    pub parent_loop_fits : length (checked p).loop ≤ p.activities + 1
    parent_loop_fits =
        omega (
          arith,
          ap (λ (v : Verdict). length v.loop) twelve_loop,
          named_length (id_of p) (upward (parent_of p) steps place),
          length_upward (parent_of p) steps place,
          loop_steps_le (parent_of p) p.activities place,
        )

    -- what holds of every activity's id, such as that it is not 0, holds of each of them
    pub parent_loop_each : (P : ℕ → Type 0) → ((i : ℕ) → i < p.activities → P (id_of p i)) → (q : ℕ) → q < length (checked p).loop
        → P (get_or (checked p).loop q 0)
    parent_loop_each P h q l =
        let xs = upward (parent_of p) steps place in
        let b : q < length xs = omega (arith, ap (λ (v : Verdict). length v.loop) twelve_loop, named_length (id_of p) xs) in
        rw (ap (λ (v : Verdict). get_or v.loop q 0) twelve_loop ∙ named_at (id_of p) xs q b)
        (h (get_or xs q 0)
        (upward_below (parent_of p) (parent_le p known_parents) steps place q place_below (omega (arith, length_upward (parent_of p) steps place))
        (omega (arith, loop_steps_back (parent_of p) p.activities place some_steps))))

  -- ---- exactly where parents close a loop
  module _ (calendars : (calendars_first p).number ≡ 0) (activities : (activities_first p).number ≡ 0) (parents : (parents_first p).number ≡ 0) where
    stage : (summaries_first p).number ≢ 0 → checked p ≡ summaries_first p
    unfolding checked before_ordering
    stage n =
        let a = or_first (summaries_first p) (links_first p) n in
        let b = or_second (parents_first p) (or_else (summaries_first p) (links_first p)) parents ∙ a in
        let c = or_second (activities_first p) (or_else (parents_first p) (or_else (summaries_first p) (links_first p))) activities ∙ b in
        let d = or_second (calendars_first p) (or_else (activities_first p) (or_else (parents_first p) (or_else (summaries_first p) (links_first p)))) calendars ∙ c in
        or_first (before_ordering p) (judge_order p) (λ z. n (ap (λ (v : Verdict). v.number) (sym d) ∙ z)) ∙ d

    -- where the checks before passed and no milestone is a parent, 12 is given exactly where parents close a loop
    pub parent_loop_iff : ((i : ℕ) → i < p.activities → (summary p i && is_milestone (p.activity i).kind) ≡ false)
        → ((checked p).number ≡ 12) ↔ ParentsCloseLoop p
    parent_loop_iff tasks = (
      λ e. ((checked p).loop, parent_loop_named e),
      λ w.
          let o = (parents_close_ids p (fine_distinct p ((activities_fine_lem p).0 activities)) ((parents_fine p).0 parents)).1 w in
          ⊎_elim
          (λ a.
          absurd ((loop_steps_zero (parent_of p) (parent_le p ((parents_fine p).0 parents)) o.0 o.1).0
          ((summary_fine_lem p o.0).0 (a.0 o.0 o.1)).free o.2))
          (λ (r : Refusal (judge_summary p) p.activities 0 (summaries_first p)).
          let l : r.place < p.activities = omega (arith, r.below) in
          let t : (judge_summary p r.place).number ≡ 12 = summary_refused p r.place (tasks r.place l) r.refuses in
          ap (λ (v : Verdict). v.number) (stage (λ z. r.refuses (ap (λ (v : Verdict). v.number) (sym r.is) ∙ z)) ∙ r.is) ∙ t)
          (first_cases (judge_summary p) p.activities),
    )

  -- and a plan that passes the checks before ordering has no such loop
  pub fine_no_parent_loop : (before_ordering p).number ≡ 0 → ¬ (ParentsCloseLoop p)
  fine_no_parent_loop h w =
      let f = (plan_fine_lem p).0 h in
      no_parents_loop p f.parents f.summaries ((parents_close_ids p (fine_distinct p f.activities) f.parents).1 w)
