-- A link in its row: what the row reads as, and what stays.
use Rattle.std.specs.Prelude.{◌≡◌, true, false, ◌≢◌, ℕ, ℤ, pos}
use Rattle.std.proofs.Common.{sym, ap, ◌∙◌, true≢false}
use Rattle.std.proofs.Math.Logic.{⊎_elim}
use Rattle.number.specs.Order.{cases}
use Rattle.project.specs.declared.LagKind.{LagKind}
use Rattle.project.specs.Records.{relationship_type_of}
use Rattle.memory.specs.State.{State, put_link, put_link_z}
use Rattle.memory.specs.declared.KeptLink.{KeptLink}
use Rattle.memory.specs.Kept.{with_link}
use Rattle.memory.specs.StateLaws.{link_same, link_row, link_z_same, link_z_row}
use Rattle.memory.specs.Fields.{from_field, to_field, kind_field, lag_field, lag_calendar_field}
use Rattle.order.specs.Plan.{Plan}
use Rattle.order.specs.Ties.{ignored, tie_calendar, tie_too_long, tie_of}
use Rattle.order.specs.Lags.{lag_minutes, lag_before}
use Rattle.order.specs.LagLaws.{lag_long_before}
use Rattle.order.specs.Checks.{Verdict, fine, judge_link}
use Rattle.order.proofs.CheckLaws.{link_fine_lem}
use Rattle.ties.specs.Ends.{Between}
use Rattle.links.specs.Stored.{tie_in, Stored}

-- ---- the five fields
module _ (S : State) (t : ℕ) (x : KeptLink) where
  abbrev B : State
  B = put_link S from_field t x.from

  abbrev C : State
  C = put_link B to_field t x.to

  abbrev D : State
  D = put_link C kind_field t x.kind

  abbrev E : State
  E = put_link_z D lag_field t x.lag

  -- the row, at each field
  row_from : (with_link S t x).link from_field t ≡ x.from
  row_from = link_same S from_field t (pos x.from)

  row_to : (with_link S t x).link to_field t ≡ x.to
  row_to = link_same B to_field t (pos x.to)

  row_kind : (with_link S t x).link kind_field t ≡ x.kind
  row_kind = link_same C kind_field t (pos x.kind)

  row_lag : (with_link S t x).link_z lag_field t ≡ x.lag
  row_lag = link_z_same D lag_field t x.lag

  row_calendar : (with_link S t x).link lag_calendar_field t ≡ x.calendar
  row_calendar = link_same E lag_calendar_field t (pos x.calendar)

  -- the other rows
  other : (f q : ℕ) → q ≢ t → (with_link S t x).link f q ≡ S.link f q
  other f q n =
      link_row E lag_calendar_field t (pos x.calendar) f q n ∙ link_row D lag_field t x.lag f q n ∙ link_row C kind_field t (pos x.kind) f q n
      ∙ link_row B to_field t (pos x.to) f q n ∙ link_row S from_field t (pos x.from) f q n

  other_z : (f q : ℕ) → q ≢ t → (with_link S t x).link_z f q ≡ S.link_z f q
  other_z f q n =
      link_z_row E lag_calendar_field t (pos x.calendar) f q n ∙ link_z_row D lag_field t x.lag f q n ∙ link_z_row C kind_field t (pos x.kind) f q n
      ∙ link_z_row B to_field t (pos x.to) f q n ∙ link_z_row S from_field t (pos x.from) f q n

  module _ (p : Plan) (k : ℕ) (G : Between p k x.from x.to) (kinds : relationship_type_of x.kind ≡ (p.link k).kind) (lags : x.lag ≡ (tie_of p k).lag) (calendars : x.calendar ≡ tie_calendar p k) where
    put_row : tie_in (with_link S t x) t ≡ tie_of p k
    unfolding tie_of
    put_row = λ z. record {
      from = (row_from ∙ G.from_is) z;
      to = (row_to ∙ G.to_is) z;
      kind = (ap relationship_type_of row_kind ∙ kinds) z;
      lag = (row_lag ∙ lags) z;
      calendar = (row_calendar ∙ calendars) z;
    }

    pub put_stored : (T : State) → T ≡ with_link S t x → Stored p k t S T
    put_stored T e = record {
      row = ap (λ (X : State). tie_in X t) e ∙ put_row;
      rows = λ f q n. ap (λ (X : State). X.link f q) e ∙ other f q n;
      rows_z = λ f q n. ap (λ (X : State). X.link_z f q) e ∙ other_z f q n;
      acts = ap (λ (X : State). X.act) e;
      acts_z = ap (λ (X : State). X.act_z) e;
    }

-- ---- the lag of a kept link
module _ (p : Plan) (k : ℕ) where
  pub kept_short : judge_link p k ≡ fine → ignored p k ≡ false → tie_too_long p k ≡ false
  kept_short j e = ((link_fine_lem p k).0 (ap (λ (u : Verdict). u.number) j)).short e

  pub short_before : tie_too_long p k ≡ false → lag_before (p.link k).lag ≡ false
  unfolding tie_too_long
  short_before e =
      ⊎_elim (λ (b : lag_before (p.link k).lag ≡ true). absurd (true≢false (sym (lag_long_before (p.link k).lag _ _ b) ∙ e)))
      (λ (b : lag_before (p.link k).lag ≡ false). b) (cases (lag_before (p.link k).lag))

  pub lag_is : (from to : ℕ) → Between p k from to → (lag : LagKind) (length : ℕ) (minutes : ℤ) → lag ≡ (p.link k).lag → length ≡ p.day_length (tie_calendar p k)
      → minutes ≡ (p.activity from).minutes → lag_minutes lag length minutes ≡ (tie_of p k).lag
  unfolding tie_of
  lag_is from to G lag length minutes e f g = rw (e, f, g, G.from_is)
