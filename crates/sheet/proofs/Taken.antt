-- What `take_while` takes of a slice's whole chunks by the first byte of each.
use Rattle.std.specs.Prelude.{◌≡◌, Bool, true, false, Option, Some, None, MatchOption, List, ℕ, ◌+◌, ◌-◌, ◌*◌, ◌≤◌, ◌<◌, eqb, length, take, drop, get_or}
use Rattle.std.proofs.Common.{sym, ap, subst, ◌∙◌, arith, true-eqb, false-eqb}
use Rattle.std.proofs.Math.Path.{refl}
use Rattle.std.proofs.Math.Logic.{⊎_elim}
use Rattle.std.proofs.Math.Nat.{mul_comm, lt-div-mul-add}
use Rattle.std.proofs.lemmas.List.{get_or-drop, length-drop, take_all}
use Rattle.std.proofs.lemmas.Option.{slice_get_cases}
use Rattle.std.proofs.iter.runs.Made.{at-is}
use Rattle.std.specs.Iterator.Runs.{Run, CallKeepsClosure, IsTakeWhileRun, IsChunksExactRun}
use Rattle.std.specs.Fn.{CalledAt}
use Rattle.number.specs.Bytes.{byte_at}
use denote.Ref.{Bor}
use denote.Param.Members.{Mut}

pub tail : (s : List ℕ) (at : ℕ) → take (length s - at) (drop at s) ≡ drop at s
tail s at = take_all (length s - at) (drop at s) (omega (arith, length-drop at s))

-- the chunks of n bytes of the slice s from `at` on, and those before the first that does not begin with b
module _ {S T F : Type 0} {steps : S → Option (Bor (List ℕ)) → S → Type 0} {source : T → Option (Bor (List ℕ)) → T → Type 0} (p : Run steps) (q : Run source) (g : Mut F (Bor (Bor (List ℕ)) × Unit {0}) Bool) (f : F)
    (s : List ℕ) (at n b : ℕ) (short : at ≤ length s) (some : 0 < n) (taken : IsTakeWhileRun p q g f) (chunks : IsChunksExactRun q n (drop at s))
    (keeps : CallKeepsClosure g f) (tests : (x : Bor (List ℕ)) (r : Bool) (f' : F) → CalledAt g f x r f' → r ≡ eqb (get_or x.now 0 0) b) where
  first : (k : ℕ) (x : Bor (List ℕ)) → q.at k ≡ Some x → get_or x.now 0 0 ≡ byte_at s (at + n * k)
  first k x e =
      let c = rw e at (chunks.2 k) in
      c.2.2 0 0 some ∙ get_or-drop at s (k * n + 0) 0 ∙ ap (byte_at s) (omega (arith, mul_comm k n))

  pub taken_pass : (k : ℕ) → k < p.len → byte_at s (at + n * k) ≡ b
  taken_pass k l =
      ⊎_elim
      (λ w.
      let x = w.0 in
      let e : p.at k ≡ Some x = at-is p k ∙ w.2 in
      sym (first k x (taken.1 k l ∙ e)) ∙ true-eqb _ _ (tests x true f (rw e at ((taken.2 keeps).0 k))))
      (λ w. absurd (omega (arith, p.long, w.0))) (slice_get_cases p.items k).1

  ends : (o : Option (Bor (List ℕ))) → q.at p.len ≡ o → MatchOption o ((q.whole ≡ true) × (q.len ≡ p.len)) (λ x. (f' : F) × CalledAt g f x false f') → at + n * p.len + n ≤ length s → byte_at s (at + n * p.len) ≡ b → ⊥
  ends None e h l z =
      let few : length (drop at s) < p.len * n + n = subst (λ m. length (drop at s) < m * n + n) (sym (chunks.1 h.0) ∙ h.1) (lt-div-mul-add {a = length (drop at s)} some) in
      omega (arith, few, l, mul_comm p.len n, length-drop at s)
  ends (Some x) e h l z = false-eqb _ _ (tests x false h.0 h.1) (first p.len x e ∙ z)

  pub taken_end : p.whole ≡ true → at + n * p.len + n ≤ length s → byte_at s (at + n * p.len) ≡ b → ⊥
  taken_end w = ends (q.at p.len) refl ((taken.2 keeps).1 w)
