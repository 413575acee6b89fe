-- Each check of rows 5 to 15 by its ways, and what holds where it is fine.
use Rattle.std.specs.Prelude.{◌≡◌, refl, ◌&&◌, ◌≢◌, ◌↔◌, ℕ, suc, ◌≤◌, ◌<◌, length}
use Rattle.std.proofs.Common.{ap, ⊎_elim, arith}
use Rattle.std.proofs.Math.Bool.{true, false}
use borrow.Author.Tests.{eq-eqb, ne_eqb, le-leb, lt-leb, lt-ltb, le-ltb}
use Rattle.std.proofs.Math.Dec.{eqb, ltb, leb}
use Rattle.number.specs.Zed.{up, dn}
use Rattle.number.specs.Order.{cases, lt_or_le, eq_or_ne}
use Rattle.project.specs.Status.{is_milestone}
use Rattle.network.specs.Kahn.{named_loop}
use Rattle.network.specs.Parents.{loop_steps, upward}
use Rattle.order.specs.Plan.{Plan}
use Rattle.order.specs.Ids.{id_of, known, parent_of, summary}
use Rattle.order.specs.Ties.{ignored, tie_too_long, kept_links}
use Rattle.order.specs.Checks.{Verdict, refuse, fine, named, refuse_loop, judge_calendar, judge_activity, judge_parent, judge_summary, judge_link, order, judge_order}
use Rattle.calendar.specs.Records.{weekly_hours}
use Rattle.order.specs.CheckLaws.{ActivityFine, SummaryFine, LinkFine}

-- a check that refuses is not fine
not_fine : {v : Verdict} (n : ℕ) {w : Verdict} → v ≡ w → w.number ≡ suc n → v.number ≡ 0 → ⊥
not_fine n e h z = omega (arith, ap (λ (u : Verdict). u.number) e)

module _ (p : Plan) where
  -- ---- 5
  module _ (k : ℕ) where
    pub calendar_works : weekly_hours (p.week k) ≡ true → judge_calendar p k ≡ fine
    unfolding judge_calendar
    calendar_works e = simp (e, judge_calendar)

    pub calendar_empty : weekly_hours (p.week k) ≡ false → judge_calendar p k ≡ refuse 5 0
    unfolding judge_calendar
    calendar_empty e = simp (e, judge_calendar)

    pub calendar_fine : ((judge_calendar p k).number ≡ 0) ↔ (weekly_hours (p.week k) ≡ true)
    calendar_fine = (
      λ z. ⊎_elim (λ e. e) (λ e. absurd (not_fine 4 (calendar_empty e) refl z)) (cases (weekly_hours (p.week k))),
      λ e. ap (λ (u : Verdict). u.number) (calendar_works e),
    )

  -- ---- 6, 7, 8, 9
  module _ (i : ℕ) where
    pub activity_met : known p i (id_of p i) ≡ true → judge_activity p i ≡ refuse 6 (id_of p i)
    unfolding judge_activity
    activity_met e = simp (e, judge_activity)

    module _ (new : known p i (id_of p i) ≡ false) where
      pub activity_negative : dn (p.activity i).minutes ≢ 0 → judge_activity p i ≡ refuse 7 (id_of p i)
      unfolding judge_activity
      activity_negative h =
          let e : eqb (dn (p.activity i).minutes) 0 ≡ false = ne_eqb (dn (p.activity i).minutes) 0 h in simp (new, e, judge_activity)

      module _ (whole : dn (p.activity i).minutes ≡ 0) where
        zeroed : eqb (dn (p.activity i).minutes) 0 ≡ true
        zeroed = eq-eqb (dn (p.activity i).minutes) 0 whole

        pub activity_long : 48000000 < up (p.activity i).minutes → judge_activity p i ≡ refuse 8 0
        unfolding judge_activity
        activity_long h =
            let e : leb (up (p.activity i).minutes) 48000000 ≡ false = lt-leb (up (p.activity i).minutes) 48000000 h in
            simp (new, zeroed, e, judge_activity)

        module _ (short : up (p.activity i).minutes ≤ 48000000) where
          shorter : leb (up (p.activity i).minutes) 48000000 ≡ true
          shorter = le-leb (up (p.activity i).minutes) 48000000 short

          pub activity_uncalendared : p.calendars ≤ (p.activity i).calendar → judge_activity p i ≡ refuse 9 (id_of p i)
          unfolding judge_activity
          activity_uncalendared h =
              let e : ltb (p.activity i).calendar p.calendars ≡ false = le-ltb (p.activity i).calendar p.calendars h in
              simp (new, zeroed, shorter, e, judge_activity)

          pub activity_passes : (p.activity i).calendar < p.calendars → judge_activity p i ≡ fine
          unfolding judge_activity
          activity_passes h =
              let e : ltb (p.activity i).calendar p.calendars ≡ true = lt-ltb (p.activity i).calendar p.calendars h in
              simp (new, zeroed, shorter, e, judge_activity)

    pub activity_fine_lem : ((judge_activity p i).number ≡ 0) ↔ ActivityFine p i
    activity_fine_lem = (
      λ z.
          ⊎_elim (λ e. absurd (not_fine 5 (activity_met e) refl z))
          (λ new.
          ⊎_elim
          (λ whole.
          ⊎_elim (λ l. absurd (not_fine 7 (activity_long new whole l) refl z))
          (λ short.
          ⊎_elim (λ l. record { new = new; whole = whole; short = short; calendar = l })
          (λ l. absurd (not_fine 8 (activity_uncalendared new whole short l) refl z)) (lt_or_le (p.activity i).calendar p.calendars))
          (lt_or_le 48000000 (up (p.activity i).minutes)))
          (λ n. absurd (not_fine 6 (activity_negative new n) refl z)) (eq_or_ne (dn (p.activity i).minutes) 0)) (cases (known p i (id_of p i))),
      λ f. ap (λ (u : Verdict). u.number) (activity_passes f.new f.whole f.short f.calendar),
    )

  -- ---- 10
  module _ (i : ℕ) where
    pub parent_none : (p.activity i).parent ≡ 0 → judge_parent p i ≡ fine
    unfolding judge_parent
    parent_none h = let e : eqb (p.activity i).parent 0 ≡ true = eq-eqb (p.activity i).parent 0 h in simp (e, judge_parent)

    module _ (some : (p.activity i).parent ≢ 0) where
      named_parent : eqb (p.activity i).parent 0 ≡ false
      named_parent = ne_eqb (p.activity i).parent 0 some

      pub parent_unknown : known p p.activities (p.activity i).parent ≡ false → judge_parent p i ≡ refuse 10 (id_of p i)
      unfolding judge_parent
      parent_unknown e = simp (named_parent, e, judge_parent)

      pub parent_passes : known p p.activities (p.activity i).parent ≡ true → judge_parent p i ≡ fine
      unfolding judge_parent
      parent_passes e = simp (named_parent, e, judge_parent)

    pub parent_fine : ((judge_parent p i).number ≡ 0) ↔ ((p.activity i).parent ≢ 0 → known p p.activities (p.activity i).parent ≡ true)
    parent_fine = (
      λ z some.
          ⊎_elim (λ e. e) (λ e. absurd (not_fine 9 (parent_unknown some e) refl z)) (cases (known p p.activities (p.activity i).parent)),
      λ h.
          ⊎_elim (λ e. ap (λ (u : Verdict). u.number) (parent_none e))
          (λ some. ap (λ (u : Verdict). u.number) (parent_passes some (h some))) (eq_or_ne (p.activity i).parent 0),
    )

  -- ---- 11, 12
  module _ (i : ℕ) where
    pub summary_milestone : (summary p i && is_milestone (p.activity i).kind) ≡ true → judge_summary p i ≡ refuse 11 (id_of p i)
    unfolding judge_summary
    summary_milestone e = simp (e, judge_summary)

    module _ (task : (summary p i && is_milestone (p.activity i).kind) ≡ false) where
      pub summary_loop : loop_steps (parent_of p) p.activities i ≢ 0
          → judge_summary p i ≡ refuse_loop 12 (named (id_of p) (upward (parent_of p) (loop_steps (parent_of p) p.activities i) i))
      unfolding judge_summary
      summary_loop h =
          let e : eqb (loop_steps (parent_of p) p.activities i) 0 ≡ false = ne_eqb (loop_steps (parent_of p) p.activities i) 0 h in
          simp (task, e, judge_summary)

      pub summary_passes : loop_steps (parent_of p) p.activities i ≡ 0 → judge_summary p i ≡ fine
      unfolding judge_summary
      summary_passes h =
          let e : eqb (loop_steps (parent_of p) p.activities i) 0 ≡ true = eq-eqb (loop_steps (parent_of p) p.activities i) 0 h in
          simp (task, e, judge_summary)

    pub summary_fine_lem : ((judge_summary p i).number ≡ 0) ↔ SummaryFine p i
    summary_fine_lem = (
      λ z.
          ⊎_elim (λ e. absurd (not_fine 10 (summary_milestone e) refl z))
          (λ task.
          ⊎_elim (λ e. record { task = task; free = e }) (λ n. absurd (not_fine 11 (summary_loop task n) refl z))
          (eq_or_ne (loop_steps (parent_of p) p.activities i) 0)) (cases (summary p i && is_milestone (p.activity i).kind)),
      λ f. ap (λ (u : Verdict). u.number) (summary_passes f.task f.free),
    )

  -- ---- 13, 14, 8
  module _ (k : ℕ) where
    pub link_from_unknown : known p p.activities (p.link k).predecessor ≡ false → judge_link p k ≡ refuse 13 (p.link k).predecessor
    unfolding judge_link
    link_from_unknown e = simp (e, judge_link)

    module _ (from : known p p.activities (p.link k).predecessor ≡ true) where
      pub link_to_unknown : known p p.activities (p.link k).successor ≡ false → judge_link p k ≡ refuse 13 (p.link k).successor
      unfolding judge_link
      link_to_unknown e = simp (from, e, judge_link)

      module _ (to : known p p.activities (p.link k).successor ≡ true) where
        pub link_to_itself : (p.link k).predecessor ≡ (p.link k).successor → judge_link p k ≡ refuse 14 (p.link k).predecessor
        unfolding judge_link
        link_to_itself h =
            let e : eqb (p.link k).predecessor (p.link k).successor ≡ true = eq-eqb (p.link k).predecessor (p.link k).successor h in
            simp (from, to, e, judge_link)

        module _ (apart : (p.link k).predecessor ≢ (p.link k).successor) where
          differ : eqb (p.link k).predecessor (p.link k).successor ≡ false
          differ = ne_eqb (p.link k).predecessor (p.link k).successor apart

          pub link_ignored : ignored p k ≡ true → judge_link p k ≡ fine
          unfolding judge_link
          link_ignored e = simp (from, to, differ, e, judge_link)

          module _ (kept : ignored p k ≡ false) where
            pub link_long : tie_too_long p k ≡ true → judge_link p k ≡ refuse 8 0
            unfolding judge_link
            link_long e = simp (from, to, differ, kept, e, judge_link)

            pub link_kept : tie_too_long p k ≡ false → judge_link p k ≡ fine
            unfolding judge_link
            link_kept e = simp (from, to, differ, kept, e, judge_link)

    pub link_fine_lem : ((judge_link p k).number ≡ 0) ↔ LinkFine p k
    link_fine_lem = (
      λ z.
          ⊎_elim
          (λ from.
          ⊎_elim
          (λ to.
          ⊎_elim (λ e. absurd (not_fine 13 (link_to_itself from to e) refl z))
          (λ apart. record {
            from = from;
            to = to;
            apart = apart;
            short = λ kept.
                ⊎_elim (λ e. absurd (not_fine 7 (link_long from to apart kept e) refl z)) (λ e. e) (cases (tie_too_long p k));
          }) (eq_or_ne (p.link k).predecessor (p.link k).successor))
          (λ e. absurd (not_fine 12 (link_to_unknown from e) refl z)) (cases (known p p.activities (p.link k).successor)))
          (λ e. absurd (not_fine 12 (link_from_unknown e) refl z)) (cases (known p p.activities (p.link k).predecessor)),
      λ f.
          ⊎_elim (λ e. ap (λ (u : Verdict). u.number) (link_ignored f.from f.to f.apart e))
          (λ e. ap (λ (u : Verdict). u.number) (link_kept f.from f.to f.apart e (f.short e))) (cases (ignored p k)),
    )

  -- ---- 15
  pub order_whole : length (order p) ≡ p.activities → judge_order p ≡ fine
  unfolding judge_order
  order_whole h =
      let e : eqb (length (order p)) p.activities ≡ true = eq-eqb (length (order p)) p.activities h in simp (e, judge_order)

  pub order_loop : length (order p) ≢ p.activities
      → judge_order p ≡ refuse_loop 15 (named (id_of p) (named_loop (kept_links p) p.activities))
  unfolding judge_order
  order_loop h =
      let e : eqb (length (order p)) p.activities ≡ false = ne_eqb (length (order p)) p.activities h in simp (e, judge_order)
