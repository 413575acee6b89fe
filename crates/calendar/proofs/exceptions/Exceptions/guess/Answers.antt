-- `calendar::Exceptions::guess` meets its contract: a part of the records is less than all of them.
use native.Mathlib.Omega.{arith}
use Prim.Native.Nat.{ℕ, ◌*◌, ◌/◌, ◌<◌}
use native.Mathlib.Nat.{div-lt_iff_lt-mul, suc-mul, mul-le-mul_right, mul_comm}
use Rattle.calendar.proofs.exceptions.Exceptions.guess.Goals as goal

part : (a n q : ℕ) → a < q → 0 < n → a * n / q < n
part a n q l p = (div-lt_iff_lt-mul {k = q} {x = a * n} {y = n} (omega arith)).1 (omega (arith, suc-mul a n, mul-le-mul_right n l, mul_comm n q))

pub returns : goal.returns
returns c = part _ _ _ (omega arith) (omega arith)
