-- What the steps do to the counts and the queue, as the network has them, and what they leave.
use Rattle.std.specs.Prelude.{◌≡◌, refl, ◌≢◌, List, ◌∷◌, ℕ, ◌+◌, ◌-◌, ◌<◌, pos}
use Rattle.std.proofs.Common.{sym, ap, ◌∙◌, ⊎_elim, arith, MutBor}
use borrow.Author.Tests.{eq-eqb, ne_eqb}
use Rattle.number.specs.Order.{lt_or_le, zero_or_pos, eq_or_ne}
use Rattle.memory.specs.State.{State, put_act, fill_act}
use Rattle.memory.specs.Seen.{state}
use Rattle.memory.specs.declared.Tables.{Tables}
use Rattle.memory.specs.SeenLaws.{same_refl, same_then}
use Rattle.memory.specs.StateLaws.{act_past, act_same, act_row, fill_act_lem}
use Rattle.memory.specs.Fields.{waiting, order_at, seen, to_field}
use Rattle.network.specs.Links.{Link}
use Rattle.network.specs.Kahn.{put}
use Rattle.network.specs.Outgoing.{to_at}
use Rattle.network.proofs.Meeting.{put_same, put_other}
use Rattle.network.specs.Array.{Filled, Progress}
use Rattle.network.proofs.Prefix.{Counted, counted_turn}
use Rattle.network.proofs.ProgressLaws.{progress_pos, progress_more, progress_last}
use Rattle.network.proofs.ProgressEnds.{filled_push, filled_skip}
use Rattle.topology.specs.Links.{links_of}
use Rattle.topology.specs.LinksLaws.{links_length, to_at_lem}
use Rattle.topology.specs.Steps.{counted, Queued, queued, readied, met, SameTables}
use Rattle.topology.specs.Frame.{Frame}
use Rattle.topology.specs.FrameLaws.{frame_refl, frame_then, frame_put, frame_acts}

-- a put to a field is a put to its column
pub put_column : (S : State) (f i v x : ℕ) → (put_act S f i v).act f x ≡ put (S.act f) i v x
put_column S f i v x =
    ⊎_elim (λ (e : x ≡ i). rw e (act_same S f i (pos v) ∙ sym (put_same (S.act f) i v)))
    (λ (e : x ≢ i). act_row S f i (pos v) f x e ∙ sym (put_other (S.act f) i v x e)) (eq_or_ne x i)

-- a field that is filled with 0 is 0, also past the last row
pub fill_zero : (t : Tables) (S : State) (f a : ℕ) → t.activities ≡ a → state t ≡ fill_act S f a 0 → (i : ℕ) → (state t).act f i ≡ 0
unfolding state
fill_zero t S f a d e i =
    ⊎_elim (λ h. ap (λ (T : State). T.act f i) e ∙ fill_act_lem S f 0 a i h) (λ h. act_past t.activities t.links t.cells.now f i (omega arith)) (lt_or_le i a)

-- ---- counting

pub counted_frame : (S : State) (k : ℕ) → Frame waiting order_at 0 0 S (counted S k)
unfolding counted
counted_frame S k = frame_put waiting order_at 0 0 waiting (omega arith) (omega arith) S (S.link to_field k) (pos (S.act waiting (S.link to_field k) + 1))

pub counted_column : (S : State) (k x : ℕ) → (counted S k).act waiting x ≡ put (S.act waiting) (S.link to_field k) (S.act waiting (S.link to_field k) + 1) x
unfolding counted
counted_column S k x = put_column S waiting (S.link to_field k) (S.act waiting (S.link to_field k) + 1) x

-- ---- tables behind one reference

pub tables_refl : (r : MutBor Tables) → SameTables r r
tables_refl r = record { same = same_refl r.now; lent = refl }

pub tables_then : {r s t : MutBor Tables} → SameTables r s → SameTables s t → SameTables r t
tables_then d e = record { same = same_then d.same e.same; lent = e.lent ∙ d.lent }

-- ---- joining the queue

module _ (S : State) (j end : ℕ) where
  pub readied_joins : S.act waiting j ≡ 0 → readied (queued S end) j ≡ queued (put_act S order_at end j) (end + 1)
  unfolding readied
  readied_joins e = simp (readied, eq-eqb (S.act waiting j) 0 e)

  pub readied_waits : 0 < S.act waiting j → readied (queued S end) j ≡ queued S end
  unfolding readied
  readied_waits p = simp (readied, ne_eqb (S.act waiting j) 0 (λ e. omega arith))

  module _ (T : State) (r : ℕ) (q : queued T r ≡ readied (queued S end) j) where
    ways : {C : Type 0} → (S.act waiting j ≡ 0 → T ≡ put_act S order_at end j → r ≡ end + 1 → C) → (0 < S.act waiting j → T ≡ S → r ≡ end → C) → C
    ways joins waits =
        ⊎_elim (λ z. let e = q ∙ readied_joins z in joins z (ap (λ (w : Queued). w.state) e) (ap (λ (w : Queued). w.end) e))
        (λ p. let e = q ∙ readied_waits p in waits p (ap (λ (w : Queued). w.state) e) (ap (λ (w : Queued). w.end) e)) (zero_or_pos (S.act waiting j))

    pub readied_frame : Frame order_at seen 0 0 S T
    readied_frame =
        ways (λ z e d. rw e (frame_put order_at seen 0 0 order_at (omega arith) (omega arith) S end (pos j))) (λ p e d. rw e (frame_refl order_at seen 0 0 S))

    pub readied_filled : Filled (S.act waiting) (S.act order_at) j end → Filled (T.act waiting) (T.act order_at) (j + 1) r
    readied_filled f =
        ways
        (λ z e d.
        rw (e, d)
        (filled_push f z ((put_act S order_at end j).act order_at) (act_same S order_at end (pos j))
        (λ p h. act_row S order_at end (pos j) order_at p (λ w. omega arith))))
        (λ p e d. rw (e, d) (filled_skip f p))

-- ---- one link more is counted

module _ (S T U : State) (t k : ℕ) (h : k < t) (F : Frame waiting order_at 0 0 S T) where
  pub link_to : T.link to_field k ≡ to_at (links_of S t) k
  link_to = ap (λ (f : ℕ → ℕ). f k) (F.links to_field refl) ∙ sym (to_at_lem S t k h)

  pub counted_step : U ≡ counted T k → Counted (links_of S t) (T.act waiting) k → Counted (links_of S t) (U.act waiting) (k + 1)
  counted_step e c =
      let j : ℕ = to_at (links_of S t) k in
      counted_turn (links_of S t) c (omega (arith, links_length S t)) (U.act waiting)
      (λ x. ap (λ (W : State). W.act waiting x) e ∙ counted_column T k x ∙ ap (λ (i : ℕ). put (T.act waiting) i (T.act waiting i + 1) x) link_to)

-- ---- a link is met

module _ (T U : State) (k end r : ℕ) (q : queued U r ≡ met (queued T end) k) where
  abbrev lowered : State
  lowered = put_act T waiting (T.link to_field k) (T.act waiting (T.link to_field k) - 1)

  as_readied : queued U r ≡ readied (queued lowered end) (T.link to_field k)
  unfolding met
  as_readied = q

  pub met_frame : Frame waiting seen 0 0 T U
  met_frame =
      frame_then waiting seen 0 0
      (frame_put waiting seen 0 0 waiting (omega arith) (omega arith) T (T.link to_field k) (pos (T.act waiting (T.link to_field k) - 1)))
      (frame_acts waiting seen 0 0 order_at seen (omega arith) (omega arith) (readied_frame lowered (T.link to_field k) end U r as_readied))

  pub met_progress : {links : List Link} {n h : ℕ} {js : List ℕ} → Progress links n (T.act order_at) (T.act waiting) h end (T.link to_field k ∷ js)
      → Progress links n (U.act order_at) (U.act waiting) h r js
  met_progress g =
      let j : ℕ = T.link to_field k in
      let w : ℕ = T.act waiting j in
      let at : lowered.act waiting j ≡ w - 1 = act_same T waiting j (pos (w - 1)) in
      let low : (x : ℕ) → lowered.act waiting x ≡ put (T.act waiting) j (w - 1) x = put_column T waiting j (w - 1) in
      ways lowered j end U r as_readied
      (λ z e d.
      rw (e, d)
      (progress_last g (lowered.act waiting) low ((put_act lowered order_at end j).act order_at) (omega (arith, progress_pos g))
      (act_same lowered order_at end (pos j)) (λ p h. act_row lowered order_at end (pos j) order_at p (λ x. omega arith))))
      (λ p e d. rw (e, d) (progress_more g (lowered.act waiting) low (omega arith)))
