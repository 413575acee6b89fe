-- The loop over the links: those before k are fine, and stand in the memory or in names.
use Rattle.std.specs.Prelude.{◌≡◌, refl, List, [], ◌∷◌, ◌++◌, ◌≢◌, ℕ, suc, ◌+◌, ◌-◌, ◌≤◌, ◌<◌, length, set, drop, Ok, Err}
use Rattle.std.proofs.Common.{sym, ap, subst, ◌∙◌, ⊎_elim, arith, add-one, length-append, drop-cons}
use Rattle.std.proofs.Math.ListN.{get_or-append}
use Rattle.std.proofs.lemmas.List.{get_or_at, set_at}
use Rattle.std.proofs.Math.Seq.{append_snoc}
use Rattle.number.specs.Order.{eq_or_ne}
use Rattle.project.specs.Records.{relationship_type_of}
use Rattle.memory.specs.State.{State}
use Rattle.memory.specs.declared.Tables.{Tables}
use Rattle.memory.specs.Seen.{state, SameLent}
use Rattle.memory.specs.Fields.{from_field, to_field, kind_field, lag_field, lag_calendar_field}
use Rattle.calendars.specs.declared.plan_calendar.PlanCalendar.{PlanCalendar}
use Rattle.order.specs.Plan.{Plan, plan_in}
use Rattle.order.specs.Ties.{tie_of, kept_below, ignored_below}
use Rattle.order.specs.TieLaws.{kept_none, ignored_none, kept_ignored, ignored_ignored, kept_kept, ignored_kept, kept_and_ignored}
use Rattle.order.specs.Checks.{Verdict, fine, first_of, judge_link}
use Rattle.order.specs.declared.PlanError.{PlanError}
use Rattle.order.specs.RefusalLaws.{number_some}
use Rattle.order.specs.VerdictLaws.{first_start, first_end, first_passes, first_stops}
use Rattle.ids.specs.Index.{Indexed}
use Rattle.ids.specs.Parented.{Parented}
use Rattle.links.specs.Stored.{tie_in}
use Rattle.ties.specs.Judging.{Judging}
use Rattle.links.specs.Answers.{ActsKept, LinkIgnored, LinkKept, LinkedOne, LinksIn, LinkedAll}
use Rattle.sheet.specs.declared.value.Sheet.{Sheet}

-- ---- where the activities' fields stay
pub acts_then : {S T U : State} → ActsKept S T → ActsKept T U → ActsKept S U
acts_then p q = record { acts = q.acts ∙ p.acts; acts_z = q.acts_z ∙ p.acts_z }

module _ (p : Plan) {S T : State} (K : ActsKept S T) (n : ℕ) where
  pub indexed_kept : Indexed p S n → Indexed p T n
  indexed_kept I = record { trees = rw K.acts I.trees; fresh = I.fresh }

  pub parented_kept : Parented p S n → Parented p T n
  parented_kept P = record { parents = rw K.acts P.parents; marks = rw K.acts P.marks }

pub judging_kept : {sheet : Sheet} {calendars : List PlanCalendar} {t u : Tables} → Judging sheet calendars t → ActsKept (state t) (state u) → SameLent t u
    → Judging sheet calendars u
judging_kept {sheet} J K e = record {
  lent = record { activities = e.activities ∙ J.lent.activities; links = e.links ∙ J.lent.links };
  distinct = J.distinct;
  indexed = indexed_kept (plan_in sheet) K sheet.contents.activities J.indexed;
  parented = parented_kept (plan_in sheet) K sheet.contents.activities J.parented;
  activities = J.activities;
  lengths_are = J.lengths_are;
}

-- ---- one more name
module _ (names after xs : List ℕ) (n k : ℕ) where
  one_more : n ≡ length xs → n < length names → after ≡ xs ++ drop n names → set after n k ≡ (xs ++ (k ∷ [])) ++ drop (n + 1) names
  one_more e l h =
      ap (λ (ys : List ℕ). set ys n k) (h ∙ ap (λ (ys : List ℕ). xs ++ ys) (drop-cons names n 0 l)) ∙ set_at xs _ _ k n (sym e)
      ∙ sym (append_snoc xs k (drop (suc n) names)) ∙ ap (λ (m : ℕ). (xs ++ (k ∷ [])) ++ drop m names) (sym (add-one n))

module _ (p : Plan) (S : State) (names : List ℕ) where
  pub record Linking (k n : ℕ) (t : Tables) (after : List ℕ) : Type 0 where
    pub judged : first_of (judge_link p) (p.links - k) k ≡ first_of (judge_link p) p.links 0
    pub acts : ActsKept S (state t)
    pub links : LinksIn p k n t names after

  pub linking_start : (t : Tables) → state t ≡ S → t.kept ≡ 0 → Linking 0 0 t names
  linking_start t e z = record {
    judged = first_start (judge_link p) p.links;
    acts = rw e (record { acts = refl; acts_z = refl });
    links = record {
      kept_count = rw (kept_none p, z) refl;
      ignored_count = rw (ignored_none p);
      tied = λ q l. absurd (omega arith);
      named = rw (ignored_none p);
    };
  }

  module _ (k n : ℕ) (t : Tables) (after : List ℕ) (X : Linking k n t after) where
    -- there is a row and a place for one more
    pub kept_le : t.kept + n ≤ k
    kept_le = omega (arith, kept_and_ignored p k, X.links.kept_count, X.links.ignored_count)

    pub linking_end : k ≡ p.links → LinkedAll p t names after (Ok n)
    linking_end z = (
      sym X.judged ∙ first_end (judge_link p) p.links k (omega arith),
      subst (λ (m : ℕ). LinksIn p m n t names after) z X.links,
    )

    module _ (l : k < p.links) (u : Tables) (next : List ℕ) where
      pub linking_stop : (e : PlanError) → LinkedOne p k n t u after next (Err e) → LinkedAll p u names next (Err e) × ActsKept S (state u)
      linking_stop e A = (
        sym X.judged ∙ first_stops (judge_link p) p.links k l (λ z. omega (arith, ap (λ (u : Verdict). u.number) A.0, number_some e)) ∙ A.0,
        rw A.1 X.acts,
      )

      passes : judge_link p k ≡ fine → first_of (judge_link p) (p.links - (k + 1)) (k + 1) ≡ first_of (judge_link p) p.links 0
      passes e = sym (first_passes (judge_link p) p.links k l (ap (λ (u : Verdict). u.number) e)) ∙ X.judged

      module _ (m : ℕ) (fits : n < length names) (f : judge_link p k ≡ fine) where
        turn_ignored : LinkIgnored p k n t u after next m → Linking (k + 1) m u next
        turn_ignored A = record {
          judged = passes f;
          acts = rw A.same X.acts;
          links = record {
            kept_count = A.kept ∙ X.links.kept_count ∙ ap length (sym (kept_ignored p k A.is));
            ignored_count = omega (arith, A.more, X.links.ignored_count, ap length (ignored_ignored p k A.is) ∙ length-append (ignored_below p k) (k ∷ []));
            tied = λ q b. rw (kept_ignored p k A.is) (ap (λ (T : State). tie_in T q) A.same ∙ X.links.tied q (omega (arith, A.kept)));
            named = rw (A.more, ignored_ignored p k A.is) (A.named ∙ one_more names after (ignored_below p k) n k X.links.ignored_count fits X.links.named);
          };
        }

        turn_kept : LinkKept p k n t u after next m → Linking (k + 1) m u next
        turn_kept A = record {
          judged = passes f;
          acts = acts_then X.acts (record { acts = A.stored.acts; acts_z = A.stored.acts_z });
          links = record {
            kept_count = omega (arith, A.more, X.links.kept_count, ap length (kept_kept p k A.is) ∙ length-append (kept_below p k) (k ∷ []));
            ignored_count = A.others ∙ X.links.ignored_count ∙ ap length (sym (ignored_kept p k A.is));
            tied = λ q b. rw (kept_kept p k A.is)
                (⊎_elim (λ (h : q ≡ t.kept). ap (tie_in (state u)) h ∙ A.stored.row ∙ ap (tie_of p) (sym (get_or_at (kept_below p k) k [] 0 q (sym X.links.kept_count ∙ sym h))))
                (λ (h : q ≢ t.kept).
                let r : q < t.kept = omega (arith, A.more) in
                (λ z. record {
                  from = A.stored.rows from_field q h z;
                  to = A.stored.rows to_field q h z;
                  kind = relationship_type_of (A.stored.rows kind_field q h z);
                  lag = A.stored.rows_z lag_field q h z;
                  calendar = A.stored.rows lag_calendar_field q h z;
                }) ∙ X.links.tied q r ∙ ap (tie_of p) (sym (get_or-append (kept_below p k) (k ∷ []) 0 q (omega (arith, X.links.kept_count))))) (eq_or_ne q t.kept));
            named = rw (A.others, ignored_kept p k A.is) (A.same ∙ X.links.named);
          };
        }

      pub linking_turn : {m : ℕ} → n < length names → LinkedOne p k n t u after next (Ok m) → Linking (k + 1) m u next
      linking_turn {m} h A = ⊎_elim (turn_ignored m h A.0) (turn_kept m h A.0) A.1
