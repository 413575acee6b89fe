-- The ways of rows 13 and 14 as the code takes them: each end is looked for by its id.
use Rattle.std.specs.Prelude.{◌≡◌, true, false, ◌≢◌, ℕ, ◌<◌}
use Rattle.std.proofs.Common.{sym, ap, ◌∙◌, arith}
use Rattle.order.specs.Plan.{Plan}
use Rattle.order.specs.Ids.{known, index_of}
use Rattle.order.specs.IdLaws.{DistinctIds}
use Rattle.order.specs.Checks.{refuse, judge_link}
use Rattle.order.proofs.CheckLaws.{link_from_unknown, link_to_unknown, link_to_itself}
use Rattle.ids.specs.Index.{found_in}
use Rattle.ids.specs.IndexLaws.{found_known, found_unknown, found_index}
use Rattle.ties.specs.Ends.{Between}

module _ (p : Plan) (id named r : ℕ) (d : id ≡ named) (f : r ≡ found_in p p.activities id) where
  looked : r ≡ found_in p p.activities named
  looked = f ∙ ap (found_in p p.activities) d

  pub end_unknown : r ≡ p.activities → known p p.activities named ≡ false
  end_unknown h = found_unknown p p.activities named (omega arith) (sym looked ∙ h)

  pub end_known : r < p.activities → known p p.activities named ≡ true
  end_known l = found_known p p.activities named (omega arith) (omega (arith, looked))

  pub end_is : DistinctIds p → r < p.activities → r ≡ index_of p named
  end_is D l = looked ∙ found_index p D named (end_known l)

module _ (p : Plan) (k pred from : ℕ) (d : pred ≡ (p.link k).predecessor) (f : from ≡ found_in p p.activities pred) where
  pub from_unknown : from ≡ p.activities → judge_link p k ≡ refuse 13 pred
  from_unknown h = link_from_unknown p k (end_unknown p pred (p.link k).predecessor from d f h) ∙ ap (refuse 13) (sym d)

  module _ (l : from < p.activities) (succ to : ℕ) (e : succ ≡ (p.link k).successor) (g : to ≡ found_in p p.activities succ) where
    a : known p p.activities (p.link k).predecessor ≡ true
    a = end_known p pred (p.link k).predecessor from d f l

    pub to_unknown : to ≡ p.activities → judge_link p k ≡ refuse 13 succ
    to_unknown h = link_to_unknown p k a (end_unknown p succ (p.link k).successor to e g h) ∙ ap (refuse 13) (sym e)

    module _ (m : to < p.activities) where
      b : known p p.activities (p.link k).successor ≡ true
      b = end_known p succ (p.link k).successor to e g m

      pub to_itself : pred ≡ succ → judge_link p k ≡ refuse 14 pred
      to_itself h = link_to_itself p k a b (sym d ∙ h ∙ e) ∙ ap (refuse 14) (sym d)

      pub between : DistinctIds p → pred ≢ succ → Between p k from to
      between D n = record {
        known_from = a;
        known_to = b;
        apart = λ q. n (d ∙ q ∙ sym e);
        from_is = end_is p pred (p.link k).predecessor from d f D l;
        to_is = end_is p succ (p.link k).successor to e g D m;
        from_below = l;
        to_below = m;
      }
