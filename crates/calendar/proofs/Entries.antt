-- E records as arrays of their bytes.
use Rattle.std.specs.Prelude.{◌≡◌, List, [], ℕ, zero, suc, ◌+◌, ◌*◌, ◌<◌, get_or, take, drop}
use Rattle.std.specs.Simd.{first_chunks}
use Rattle.std.proofs.Common.{◌∙◌, arith}
use Rattle.std.proofs.lemmas.List.{get_or-drop, get_or-take}
use Rattle.number.specs.Bytes.{biased_at, u32_at}
use Rattle.calendar.specs.Records.{exception_day}

chunk_byte : (n m : ℕ) (xs : List ℕ) (i k : ℕ) → i < m → k < n → get_or (get_or (first_chunks n m xs) i []) k 0 ≡ get_or xs (n * i + k) 0
chunk_byte n zero xs i k l h = absurd (omega arith)
chunk_byte n (suc m) xs zero k l h = let e : n * 0 + k ≡ k = omega arith in rw e (get_or-take n xs k 0 h)
chunk_byte n (suc m) xs (suc i) k l h =
    let e : n * suc i + k ≡ n + (n * i + k) = omega arith in
    rw e (chunk_byte n m (drop n xs) i k (omega arith) h ∙ get_or-drop n xs (n * i + k) 0)

-- the bytes of record i among n from the byte `at` on
entry_byte : (s : List ℕ) (at n m i k : ℕ) → i < n → m ≡ 9 * n → k < 9 → get_or (get_or (first_chunks 9 n (take m (drop at s))) i []) k 0 ≡ get_or s (at + 9 * i + k) 0
entry_byte s at n m i k l e h =
    let p : at + (9 * i + k) ≡ at + 9 * i + k = omega arith in
    rw p at (chunk_byte 9 n (take m (drop at s)) i k l h ∙ get_or-take m (drop at s) (9 * i + k) 0 (omega arith) ∙ get_or-drop at s (9 * i + k) 0)

pub entry_day : (s : List ℕ) (at n m i : ℕ) → i < n → m ≡ 9 * n → exception_day (get_or (first_chunks 9 n (take m (drop at s))) i []) 0 0 ≡ exception_day s at i
unfolding biased_at u32_at
entry_day s at n m i l e =
    let b0 = entry_byte s at n m i 1 l e (omega arith) in
    let b1 = entry_byte s at n m i 2 l e (omega arith) in
    let b2 = entry_byte s at n m i 3 l e (omega arith) in
    let b3 = entry_byte s at n m i 4 l e (omega arith) in
    let e1 : at + 9 * i + 1 + 1 ≡ at + 9 * i + 2 = omega arith in
    let e2 : at + 9 * i + 1 + 2 ≡ at + 9 * i + 3 = omega arith in
    let e3 : at + 9 * i + 1 + 3 ≡ at + 9 * i + 4 = omega arith in
    rw (e1, e2, e3, b0, b1, b2, b3)
