-- The ways of rows 6 to 9 as the code takes them: the id is looked for, then the minutes and the calendar are read.
use Rattle.std.specs.Prelude.{◌≡◌, true, false, ℕ, ◌≤◌, ◌<◌, ℤ, pos}
use Rattle.std.proofs.Common.{sym, ap, ◌∙◌, arith}
use Rattle.std.specs.Int.Signed.{lt_z}
use Rattle.number.specs.Zed.{up, dn}
use Rattle.number.specs.ZedLaws.{lt_z_true, lt_z_false, nlt0}
use Rattle.order.specs.Plan.{Plan}
use Rattle.order.specs.Ids.{id_of, known}
use Rattle.order.specs.Checks.{refuse, fine, judge_activity}
use Rattle.order.proofs.CheckLaws.{activity_met, activity_negative, activity_long, activity_uncalendared, activity_passes}
use Rattle.ids.specs.Index.{found_in}
use Rattle.ids.specs.IndexLaws.{found_known, found_unknown, found_le}

module _ (p : Plan) (i : ℕ) (within : i < p.activities) (id found : ℕ) (e : id ≡ id_of p i) (g : found_in p i id ≡ found) where
  abbrev again : found ≡ found_in p i (id_of p i)
  again = sym g ∙ ap (found_in p i) e

  pub judged_met : found < p.activities → refuse 6 id ≡ judge_activity p i
  judged_met l =
      ap (refuse 6) e ∙ sym (activity_met p i (found_known p i (id_of p i) (omega arith) (omega (arith, again))))

  module _ (out : p.activities ≤ found) (z : ℤ) (m : z ≡ (p.activity i).minutes) where
    new : known p i (id_of p i) ≡ false
    new = found_unknown p i (id_of p i) (omega arith) (omega (arith, again, found_le p i (id_of p i) (omega arith)))

    pub judged_negative : lt_z z (pos 0) ≡ true → refuse 7 id ≡ judge_activity p i
    judged_negative h =
        ap (refuse 7) e ∙ sym (activity_negative p i new (λ q. omega (arith, lt_z_true z (pos 0) h, ap dn m)))

    module _ (h : lt_z z (pos 0) ≡ false) where
      whole : dn (p.activity i).minutes ≡ 0
      whole = ap dn (sym m) ∙ nlt0 z h

      pub judged_long : lt_z (pos 48000000) z ≡ true → refuse 8 0 ≡ judge_activity p i
      judged_long k = sym (activity_long p i new whole (omega (arith, lt_z_true (pos 48000000) z k, ap up m)))

      module _ (k : lt_z (pos 48000000) z ≡ false) (calendar : ℕ) (q : calendar ≡ (p.activity i).calendar) where
        short : up (p.activity i).minutes ≤ 48000000
        short = omega (arith, lt_z_false (pos 48000000) z k, ap up m, ap dn m, whole)

        pub judged_uncalendared : p.calendars ≤ calendar → refuse 9 id ≡ judge_activity p i
        judged_uncalendared l = ap (refuse 9) e ∙ sym (activity_uncalendared p i new whole short (omega (arith, q)))

        pub judged_fine : calendar < p.calendars → fine ≡ judge_activity p i
        judged_fine l = sym (activity_passes p i new whole short (omega (arith, q)))
