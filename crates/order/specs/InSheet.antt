-- The records that a sheet gives hold the plan's activities and links.
use Rattle.std.specs.Prelude.{◌≡◌, List, ℕ}
use Rattle.project.specs.Records.{activity_at, relationship_at}
use Rattle.sheet.specs.declared.value.Sheet.{Sheet}
use Rattle.sheet.specs.Places as places
use Rattle.order.specs.Plan.{plan_of, plan_in}

module _ (sheet : Sheet) (i : ℕ) where
  pub activity_is : {s : List ℕ} {at : ℕ} → (s ≡ sheet.bytes.now) × (at ≡ places.activity_at sheet.contents i) → activity_at s at ≡ (plan_in sheet).activity i
  unfolding plan_of
  activity_is h = rw (h.0, h.1)

  pub link_is : {s : List ℕ} {at : ℕ} → (s ≡ sheet.bytes.now) × (at ≡ places.link_at sheet.contents i) → relationship_at s at ≡ (plan_in sheet).link i
  unfolding plan_of
  link_is h = rw (h.0, h.1)
