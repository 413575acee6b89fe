-- The kept links by the activities' numbers, with their lags; and which links are ignored.
use Rattle.std.specs.Prelude.{Bool, true, false, ◌||◌, not, ◌&&◌, List, [], ◌∷◌, ◌++◌, ℕ, zero, suc, eqb, ℤ, length}
use Rattle.project.specs.declared.RelationshipType.{RelationshipType}
use Rattle.network.specs.Links.{Link}
use Rattle.network.specs.Outgoing.{incoming, outgoing}
use Rattle.order.specs.Plan.{Plan}
use Rattle.order.specs.Ids.{index_of, summary}
use Rattle.order.specs.Lags.{lag_calendar, lag_minutes, lag_too_long}

-- 000's `Tie`
pub record Tie : Type 0 where
  pub from : ℕ
  pub to : ℕ
  pub kind : RelationshipType
  pub lag : ℤ
  pub calendar : ℕ

module _ (p : Plan) where
  abbrev pub from_of : ℕ → ℕ
  from_of k = index_of p (p.link k).predecessor

  abbrev pub to_of : ℕ → ℕ
  to_of k = index_of p (p.link k).successor

  -- "ignored if an end is a summary [..], else kept"
  unfoldable pub ignored : ℕ → Bool
  ignored k = summary p (from_of k) || summary p (to_of k)

  abbrev pub calendar_of : ℕ → ℕ
  calendar_of i = (p.activity i).calendar

  unfoldable pub tie_calendar : ℕ → ℕ
  tie_calendar k =
      lag_calendar (p.link k).lag p.project.lag_calendar (calendar_of (from_of k)) (calendar_of (to_of k)) p.calendars

  -- the lag of link k is too long
  unfoldable pub tie_too_long : ℕ → Bool
  tie_too_long k = lag_too_long (p.link k).lag (p.day_length (tie_calendar k)) (p.activity (from_of k)).minutes

  unfoldable pub tie_of : ℕ → Tie
  tie_of k = record {
    from = from_of k;
    to = to_of k;
    kind = (p.link k).kind;
    lag = lag_minutes (p.link k).lag (p.day_length (tie_calendar k)) (p.activity (from_of k)).minutes;
    calendar = tie_calendar k;
  }

  -- the numbers of those of the first l links that are kept, and of those that are ignored: "from 0, rising"
  unfoldable pub kept_below : ℕ → List ℕ
  kept_below zero = []
  kept_below (suc k) = elim (ignored k) [ true ↦ kept_below k | false ↦ kept_below k ++ (k ∷ []) ]

  unfoldable pub ignored_below : ℕ → List ℕ
  ignored_below zero = []
  ignored_below (suc k) = elim (ignored k) [ true ↦ ignored_below k ++ (k ∷ []) | false ↦ ignored_below k ]

  abbrev pub ignored_links : List ℕ
  ignored_links = ignored_below p.links

  -- the ends of the kept links among the first l, in link order
  unfoldable pub ends_below : ℕ → List Link
  ends_below zero = []
  ends_below (suc k) = elim (ignored k) [ true ↦ ends_below k | false ↦ ends_below k ++ (record { from = from_of k; to = to_of k } ∷ []) ]

  abbrev pub kept_links : List Link
  kept_links = ends_below p.links

  -- "Open ends [..] counts non-summaries with no kept incoming or no kept outgoing link"
  unfoldable pub is_open : ℕ → Bool
  is_open i = not (summary p i) && (eqb (length (incoming kept_links i)) 0 || eqb (length (outgoing kept_links i)) 0)

  unfoldable pub open_below : ℕ → ℕ
  open_below zero = 0
  open_below (suc n) = elim (is_open n) [ true ↦ suc (open_below n) | false ↦ open_below n ]

  abbrev pub open_ends : ℕ
  open_ends = open_below p.activities
