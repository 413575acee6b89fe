-- The slack before the successors of an activity, from what stands in the memory: one link's part, and the walk along the links out of it.
use Rattle.std.specs.Prelude.{◌≡◌, refl, Bool, List, [], ◌∷◌, ℕ, ◌<◌, ℤ, Result, Ok, Err}
use Rattle.worktime.specs.declared.ClockError.{ClockError}
use Rattle.std.proofs.Math.Path.{sym, ap}
use Rattle.std.proofs.Common.{◌∙◌, arith}
use Rattle.number.specs.Sign.{min_z}
use Rattle.worktime.specs.Walks.{between}
use Rattle.project.specs.declared.RelationshipType.{RelationshipType}
use Rattle.project.specs.declared.RelationshipType.TheVariants.{FinishToStart, StartToStart, FinishToFinish, StartToFinish}
use Rattle.placing.specs.declared.Actual.{Actual}
use Rattle.placing.proofs.PlacingLaws.{via_at, via_refused}
use Rattle.cells.specs.Chain.{after, gather}
use Rattle.cells.specs.ChainLaws.{Along, along_start, along_turn, along_stop, along_end}
use Rattle.memory.specs.State.{State}
use Rattle.memory.specs.declared.Tables.{Tables}
use Rattle.memory.specs.Seen.{state}
use Rattle.memory.specs.Fields.{early_start, early_finish, from_field, next_out}
use Rattle.order.specs.Plan.{Plan, plan_in}
use Rattle.order.specs.Ties as ties
use Rattle.passes.specs.Plan.{own, tie, ties_out, recorded, begun}
use Rattle.passes.specs.Dates.{Early}
use Rattle.passes.specs.Forward.{forward_bound}
use Rattle.passes.specs.Floats.{target_of, measured, free_by}
use Rattle.dates.specs.declared.Tie.{Tie}
use Rattle.dates.specs.Columns.{early_in}
use Rattle.dates.specs.Standing.{as_tie, tie_in, actual_in, Ready, Recorded}
use Rattle.dates.specs.StandingLaws.{out_is}
use Rattle.bounds.specs.ReadyLaws.{activities_are}
use Rattle.bounds.specs.LinkLaws.{tie_is, to_in}
use Rattle.floats.specs.Slack.{gap_by, gap_of, slack_step, least_slack, slack_of, From, free_of}
use Rattle.floats.specs.SlackLaws.{measured_at, measured_refused}
use Rattle.floats.specs.StoreLaws.{es_at, ef_at}
use Rattle.calendars.specs.declared.plan_sheet.PlanSheet.{PlanSheet}

-- the end that a link leads to, read by its field
target_read : (p : Plan) (S : State) (kind : RelationshipType) (j : ℕ)
    → S.act (target_of p kind early_start early_finish) j ≡ target_of p kind (S.act early_start j) (S.act early_finish j)
target_read p S FinishToStart j = refl
target_read p S StartToStart j = refl
target_read p S FinishToFinish j = refl
target_read p S StartToFinish j = refl

module _ {plan : PlanSheet} {tables : Tables} (R : Ready plan tables) where
  abbrev p : Plan
  p = plan_in plan.sheet

  abbrev S : State
  S = state tables

  abbrev d : Early
  d = early_in p S

  -- ---- one link: w is the minutes that count
  module _ (k : ℕ) (l : k < tables.kept) (τ : Tie) (e : as_tie τ ≡ tie_in S k) (w : ℕ → Bool) (start finish : ℕ) where
    abbrev gap_to : Result ℤ ClockError
    gap_to = gap_by p w (tie p k) start finish (d.es (tie p k).to) (d.ef (tie p k).to)

    by_tie : gap_by p w (as_tie τ) start finish (S.act early_start τ.to) (S.act early_finish τ.to) ≡ gap_to
    by_tie =
        let b : τ.to < p.activities = omega (arith, to_in R k l τ e, activities_are plan.sheet.bytes.now plan.sheet.contents) in
        sym (λ z. gap_by p w (as_tie τ) start finish (es_at p S τ.to b z) (ef_at p S τ.to b z))
        ∙ ap (λ (x : ties.Tie). gap_by p w x start finish (d.es x.to) (d.ef x.to)) (tie_is R k l τ e)

    module _ (x : Result ℕ ClockError) (f : x ≡ forward_bound p (as_tie τ) start finish) where
      pub gap_refused : (j : ClockError) → x ≡ Err j → Err j ≡ gap_to
      unfolding gap_by
      gap_refused j a = sym (via_refused Err (forward_bound p (as_tie τ) start finish) _ j (sym f ∙ a)) ∙ by_tie

      pub gap_between : (b r u : ℕ) → x ≡ Ok b → r ≡ target_of p τ.kind early_start early_finish → u ≡ S.act r τ.to → between w b u ≡ gap_to
      unfolding gap_by
      gap_between b r u a h g =
          ap (between w b) (g ∙ ap (λ (y : ℕ). S.act y τ.to) h ∙ target_read p S τ.kind τ.to)
          ∙ sym
          (via_at Err (forward_bound p (as_tie τ) start finish)
          (λ b. between w b (target_of p τ.kind (S.act early_start τ.to) (S.act early_finish τ.to))) b (sym f ∙ a))
          ∙ by_tie

  -- the predecessor's own calendar and dates
  pub gap_own : (i k start finish : ℕ) (w : ℕ → Bool) → w ≡ own p i → From p d i start finish
      → gap_by p w (tie p k) start finish (d.es (tie p k).to) (d.ef (tie p k).to) ≡ gap_of p d i k
  gap_own i k start finish w o F = λ z. gap_by p (o z) (tie p k) (F.start_is z) (F.finish_is z) (d.es (tie p k).to) (d.ef (tie p k).to)

  pub from_is : Recorded p S → (i : ℕ) → i < plan.sheet.contents.activities → (actual : Actual) (es start ef : ℕ) → actual ≡ actual_in S i → es ≡ S.act early_start i
      → ((r : Plan) → start ≡ begun r (Ok actual) es) → ef ≡ S.act early_finish i → From p d i start ef
  from_is N i l actual es start ef f g h m =
      let b : i < p.activities = omega (arith, activities_are plan.sheet.bytes.now plan.sheet.contents) in
      let x : Ok actual ≡ recorded p i = ap Ok f ∙ N i b in
      let y : es ≡ d.es i = g ∙ sym (es_at p S i b) in
      record { start_is = h p ∙ (λ z. begun p (x z) (y z)); finish_is = m ∙ sym (ef_at p S i b) }

  pub from_counted : (i : ℕ) → i < plan.sheet.contents.activities → (start ef : ℕ) → start ≡ begun p (recorded p i) (d.es i) → ef ≡ S.act early_finish i → From p d i start ef
  from_counted i l start ef f m =
      let b : i < p.activities = omega (arith, activities_are plan.sheet.bytes.now plan.sheet.contents) in
      record { start_is = f; finish_is = m ∙ sym (ef_at p S i b) }

  -- ---- the walk along the links out of i: ks are left, and `least` is the least so far
  module _ (i : ℕ) (slack : ℤ) where
    abbrev pub Slack : ℤ → List ℕ → Type 0
    Slack least ks = Along (slack_step p d i) Ok (S.link from_field) tables.kept i slack least ks

    pub slack_start : Slack slack (after (S.link from_field) tables.kept i 0)
    slack_start = along_start (slack_step p d i) Ok (S.link from_field) tables.kept i slack

    pub slack_later : (k m : ℕ) → k < tables.kept → m ≡ S.link next_out k → k < m
    slack_later k m b e = omega (arith, (R.standing.chains_out.nexts k (omega arith) b).low)

    all : gather (slack_step p d i) Ok (after (S.link from_field) tables.kept i 0) slack ≡ least_slack p d i (ties_out p i) slack
    all = ap (λ (ks : List ℕ). gather (slack_step p d i) Ok ks slack) (out_is p R.standing i)

    module _ {least : ℤ} where
      pub slack_end : Slack least [] → Ok least ≡ least_slack p d i (ties_out p i) slack
      slack_end W = along_end (slack_step p d i) Ok (S.link from_field) tables.kept i slack W ∙ all

      module _ {k : ℕ} {ks : List ℕ} (W : Slack least (k ∷ ks)) where
        pub slack_turn : (g : ℤ) → gap_of p d i k ≡ Ok g → Slack (min_z least g) ks
        slack_turn g a =
            along_turn (slack_step p d i) Ok (S.link from_field) tables.kept i slack W (min_z least g)
            (λ f. measured_at Err (gap_of p d i k) (λ z. f (min_z least z)) g a)

        pub slack_stop : (j : ClockError) → gap_of p d i k ≡ Err j → Err j ≡ least_slack p d i (ties_out p i) slack
        slack_stop j a =
            along_stop (slack_step p d i) Ok (S.link from_field) tables.kept i slack W (Err j)
            (λ f. measured_refused Err (gap_of p d i k) (λ z. f (min_z least z)) j a)
            ∙ all

  -- ---- the ways of the slack of i, and of its free float
  module _ (i finish ef : ℕ) (w : ℕ → Bool) (o : w ≡ own p i) (h : ef ≡ d.ef i) where
    abbrev first : Result ℤ ClockError
    first = between (own p i) (d.ef i) finish

    first_is : between w ef finish ≡ first
    first_is = λ z. between (o z) (h z) finish

    pub slack_found : (slack : ℤ) → between w ef finish ≡ Ok slack → least_slack p d i (ties_out p i) slack ≡ slack_of p d finish i
    unfolding slack_of
    slack_found slack a = sym (measured_at Err first (least_slack p d i (ties_out p i)) slack (sym first_is ∙ a))

    pub slack_refused : (j : ClockError) → between w ef finish ≡ Err j → Err j ≡ slack_of p d finish i
    unfolding slack_of
    slack_refused j a = sym (measured_refused Err first (least_slack p d i (ties_out p i)) j (sym first_is ∙ a))

  module _ (i finish : ℕ) (x : Result ℤ ClockError) (g : x ≡ slack_of p d finish i) (lf : ℕ) where
    abbrev rest : ℤ → Result ℕ ClockError
    rest least = measured Err (between (own p i) (d.ef i) lf) (λ total. Ok (free_by p d (recorded p i) least total))

    pub free_of_refused : (j : ClockError) → x ≡ Err j → Err j ≡ free_of p d finish lf i
    unfolding free_of
    free_of_refused j a = sym (measured_refused Err (slack_of p d finish i) rest j (sym g ∙ a))

    module _ (slack : ℤ) (a : x ≡ Ok slack) (ef : ℕ) (w : ℕ → Bool) (o : w ≡ own p i) (h : ef ≡ d.ef i) where
      to_late : between w ef lf ≡ between (own p i) (d.ef i) lf
      to_late = λ z. between (o z) (h z) lf

      with_slack : rest slack ≡ free_of p d finish lf i
      unfolding free_of
      with_slack = sym (measured_at Err (slack_of p d finish i) rest slack (sym g ∙ a))

      pub free_of_late : (j : ClockError) → between w ef lf ≡ Err j → Err j ≡ free_of p d finish lf i
      free_of_late j b =
          sym
          (measured_refused Err (between (own p i) (d.ef i) lf) (λ total. Ok (free_by p d (recorded p i) slack total)) j (sym to_late ∙ b))
          ∙ with_slack

      pub free_of_found : (total : ℤ) → between w ef lf ≡ Ok total → (actual : Result Actual ClockError) → actual ≡ recorded p i → (n : ℕ)
          → n ≡ free_by p d actual slack total → Ok n ≡ free_of p d finish lf i
      free_of_found total b actual r n q =
          ap Ok (q ∙ ap (λ (y : Result Actual ClockError). free_by p d y slack total) r)
          ∙ sym
          (measured_at Err (between (own p i) (d.ef i) lf) (λ total. Ok (free_by p d (recorded p i) slack total)) total (sym to_late ∙ b))
          ∙ with_slack
