-- Values at the edges: groups of exponents. Assumes nothing.
use mathlib.Core.Path.{◌≡◌, refl}
use Prim.Native.Nat.{ℕ, ◌+◌, ◌-◌, ◌≤◌}
use native.Mathlib.Omega.{arith}
use borrow.Author.Tests.{le-leb}
use Rattle.std.specs.Prelude.{Some, Ok, Err}
use Rattle.refusals.specs.declared.Refusal.TheVariants.{ExponentOutside}
use Rattle.exponents.specs.Exponents.{next_of, decode_of}

next-is : (prev m e : ℕ) → prev + m ≡ e + 2 → e ≤ 24 → next_of prev m ≡ Some e
unfolding next_of
next-is prev m e q h =
    let a : 2 ≤ e + 2 = omega arith in
    let b : e + 2 ≤ 26 = omega arith in
    let c : e + 2 - 2 ≡ e = omega arith in
    rw (q, le-leb 2 (e + 2) a, le-leb (e + 2) 26 b, c)

-- group 62 moves by 0, 0, 0
pub group-62 : (e : ℕ) → e ≤ 24 → decode_of e 62 ≡ Ok (e, e, e)
unfolding decode_of
group-62 e h = rw (next-is e 2 e refl h, next-is e 2 e refl h, next-is e 2 e refl h)

-- group 124 by 2, 2, 2
pub group-124 : (e : ℕ) → e ≤ 18 → decode_of e 124 ≡ Ok (e + 2, e + 4, e + 6)
unfolding decode_of
group-124 e h =
    rw (next-is e 4 (e + 2) (omega arith) (omega arith), next-is (e + 2) 4 (e + 4) (omega arith) (omega arith), next-is (e + 4) 4 (e + 6) (omega arith) (omega arith))

-- from 24 a step of 1 is refused
pub from-24 : decode_of 24 75 ≡ Err ExponentOutside
unfolding decode_of next_of
from-24 = refl
