-- A kept link in its row of the link table.
use Rattle.std.specs.Prelude.{◌≡◌, ℕ}
use Rattle.std.proofs.Common.{ap, ◌∙◌}
use Rattle.memory.specs.State.{State, put_link, put_link_z}
use Rattle.memory.specs.Fields.{from_field, to_field, kind_field, lag_field, lag_calendar_field}
use Rattle.memory.specs.declared.KeptLink.{KeptLink}

-- S with a link in row t
abbrev pub with_link : State → ℕ → KeptLink → State
with_link S t k =
    put_link (put_link_z (put_link (put_link (put_link S from_field t k.from) to_field t k.to) kind_field t k.kind) lag_field t k.lag) lag_calendar_field t k.calendar

-- by five puts
pub put_five : (S : State) (t : ℕ) (k : KeptLink) (b c d e w : State) → b ≡ put_link S from_field t k.from → c ≡ put_link b to_field t k.to → d ≡ put_link c kind_field t k.kind
    → e ≡ put_link_z d lag_field t k.lag → w ≡ put_link e lag_calendar_field t k.calendar → w ≡ with_link S t k
put_five S t k b c d e w f g h i j =
    j
    ∙ ap (λ (X : State). put_link X lag_calendar_field t k.calendar)
    (i
    ∙ ap (λ (X : State). put_link_z X lag_field t k.lag)
    (h ∙ ap (λ (X : State). put_link X kind_field t k.kind) (g ∙ ap (λ (X : State). put_link X to_field t k.to) f)))
