-- How great an exponent may be.
use Rattle.std.proofs.Common.{◌≡◌, ℕ, ◌+◌, ◌*◌, ◌^◌, ◌≤◌, Bool, true, false, refl, arith}
use Rattle.std.specs.Prelude.{nat_le}
use Rattle.std.proofs.Math.Nat.{pow-le-pow_right}

bound_by : (b : Bool) (d most : ℕ) → nat_le d most ≡ b → 2 ^ d ≤ 2 ^ most + 5 → 5 ≤ most → 2 ^ most + 5 + 1 ≤ 2 ^ (most + 1) → d ≤ most
bound_by true d most e h few more = grind (arith, e)
bound_by false d most e h few more =
    let past : most + 1 ≤ d = grind (arith, e) in
    let greater : 2 ^ (most + 1) ≤ 2 ^ d = pow-le-pow_right (omega arith) past in
    absurd (omega (arith, greater, h, more))

-- 2 ^ 11 is 2,048
pub at_most_11 : (d n : ℕ) → n ≡ 1026 → 2 ^ d ≤ 2 * n + 1 → d ≤ 11
at_most_11 d n e h = bound_by (nat_le d 11) d 11 refl (omega (arith, e, h)) (omega arith) (omega arith)

none_by : (b : Bool) (d : ℕ) → nat_le d 0 ≡ b → 2 ^ d ≤ 1 → d ≡ 0
none_by true d e h = grind (arith, e)
none_by false d e h =
    let past : 1 ≤ d = grind (arith, e) in
    let greater : 2 ^ 1 ≤ 2 ^ d = pow-le-pow_right (omega arith) past in
    absurd (omega (arith, greater, h))

pub none_at_all : (d n : ℕ) → n ≡ 0 → 2 ^ d ≤ 2 * n + 1 → d ≡ 0
none_at_all d n e h = none_by (nat_le d 0) d refl (omega (arith, e, h))
