-- 01's marked instance (13): row 15's example, links 1 to 2 and 2 to 1, names 2, 1, 2. By evaluation of the definitions, over activities 0 and 1.
use Rattle.std.specs.Prelude.{◌≡◌, refl, List, [], ◌∷◌, ℕ, get_or}
use Rattle.network.specs.Links.{Link}
use Rattle.network.specs.Parents.{above, climb, steps_back, loop_steps, upward}
use Rattle.network.specs.ParentLinks.{first_on_loop, parent_loop, steps_out, depth}
use Rattle.network.specs.Kahn.{put, joined, meet, release, drain, into, ready, drained, kahn, first_waiting, waiting_before, member, up_to, go_back, again, named_loop}

pub both : List Link
both = record { from = 0; to = 1 } ∷ record { from = 1; to = 0 } ∷ []

pub thirteen : named_loop both 2 ≡ 1 ∷ 0 ∷ 1 ∷ []
unfolding both put joined meet release drain into ready drained first_waiting waiting_before member up_to go_back again named_loop
thirteen = refl

pub chain : List Link
chain = record { from = 2; to = 0 } ∷ record { from = 0; to = 1 } ∷ []

pub in_order : kahn chain 3 ≡ 2 ∷ 0 ∷ 1 ∷ []
unfolding chain put joined meet release drain into ready drained kahn
in_order = refl

-- row 12's example, 1 under 1; and activity 0 under 1, which with 2 goes round: 0 only hangs below the loop
pub under_itself : parent_loop (λ i. 1) 1 ≡ 0 ∷ 0 ∷ []
unfolding above climb steps_back loop_steps upward first_waiting first_on_loop parent_loop
under_itself = refl

pub hanging : ℕ → ℕ
hanging i = get_or (2 ∷ 3 ∷ 2 ∷ []) i 0

pub hangs_below : parent_loop hanging 3 ≡ 1 ∷ 2 ∷ 1 ∷ []
unfolding hanging above climb steps_back loop_steps upward first_waiting first_on_loop parent_loop
hangs_below = refl

pub third_level : depth (λ i. get_or (0 ∷ 1 ∷ 2 ∷ []) i 0) 3 2 ≡ 3
unfolding steps_out depth
third_level = refl
