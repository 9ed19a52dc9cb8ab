-- What bytes make of a checksum is the xor of what each of them makes, with zero bytes behind it.
use Rattle.std.proofs.Common.{◌≡◌, ℕ, zero, suc, ◌+◌, ◌*◌, ◌/◌, ◌%◌, ◌^◌, ◌<◌, cond, eqb, List, [], ◌∷◌, length, fold, refl, sym, ap, ◌∙◌, arith}
use Rattle.std.specs.Int.Bits.{bit_xor, xor_comm, xor_assoc, xor_self, xor_shr, xor_mod, xor_shifted, xor_zero_r}
use Rattle.chunk_crc.specs.Crc.{bit_step, eight_steps, byte_step, zero_bytes}

-- ---- a step goes through xor

within : (a b p : ℕ) → bit_xor (bit_xor a b) p ≡ bit_xor (bit_xor a p) b
within a b p = xor_assoc a b p ∙ ap (bit_xor a) (xor_comm b p) ∙ sym (xor_assoc a p b)

twice : (a b p : ℕ) → bit_xor a b ≡ bit_xor (bit_xor a p) (bit_xor b p)
twice a b p =
    let gone : bit_xor (bit_xor a p) p ≡ a = xor_assoc a p p ∙ ap (bit_xor a) (xor_self p) ∙ xor_zero_r a in
    sym (sym (xor_assoc (bit_xor a p) b p) ∙ within (bit_xor a p) b p ∙ ap (λ v. bit_xor v b) gone)

by_low_bits : (x y a b p : ℕ) → x < 2 → y < 2 → cond (eqb (bit_xor x y) 1) (bit_xor (bit_xor a b) p) (bit_xor a b) ≡ bit_xor (cond (eqb x 1) (bit_xor a p) a) (cond (eqb y 1) (bit_xor b p) b)
by_low_bits zero zero a b p u v = refl
by_low_bits zero (suc zero) a b p u v = xor_assoc a b p
by_low_bits (suc zero) zero a b p u v = within a b p
by_low_bits (suc zero) (suc zero) a b p u v = twice a b p
by_low_bits (suc (suc x)) y a b p u v = absurd (omega arith)
by_low_bits zero (suc (suc y)) a b p u v = absurd (omega arith)
by_low_bits (suc zero) (suc (suc y)) a b p u v = absurd (omega arith)

bit_step-xor : (x y : ℕ) → bit_step (bit_xor x y) ≡ bit_xor (bit_step x) (bit_step y)
unfolding bit_step
bit_step-xor x y = rw (xor_mod x y 1, xor_shr x y 1) (by_low_bits (x % 2) (y % 2) (x / 2) (y / 2) 0xedb88320 (omega arith) (omega arith))

eight_steps-xor : (x y : ℕ) → eight_steps (bit_xor x y) ≡ bit_xor (eight_steps x) (eight_steps y)
unfolding eight_steps
eight_steps-xor x y = rw (bit_step-xor, bit_step-xor, bit_step-xor, bit_step-xor, bit_step-xor, bit_step-xor, bit_step-xor, bit_step-xor) refl

pub zero_bytes-xor : (n x y : ℕ) → zero_bytes n (bit_xor x y) ≡ bit_xor (zero_bytes n x) (zero_bytes n y)
unfolding zero_bytes
zero_bytes-xor zero x y = refl
zero_bytes-xor (suc n) x y = ap (zero_bytes n) (eight_steps-xor x y) ∙ zero_bytes-xor n (eight_steps x) (eight_steps y)

pub zero_bytes-zero_bytes : (m n x : ℕ) → zero_bytes m (zero_bytes n x) ≡ zero_bytes (n + m) x
unfolding zero_bytes
zero_bytes-zero_bytes m zero x = let none : 0 + m ≡ m = omega arith in rw none refl
zero_bytes-zero_bytes m (suc n) x = let more : suc n + m ≡ suc (n + m) = omega arith in rw more (zero_bytes-zero_bytes m n (eight_steps x))

pub fold-xor : (bytes : List ℕ) (x y : ℕ) → fold byte_step (bit_xor x y) bytes ≡ bit_xor (zero_bytes (length bytes) x) (fold byte_step y bytes)
unfolding zero_bytes
fold-xor [] x y = refl
fold-xor (b ∷ bytes) x y =
    ap (λ c. fold byte_step c bytes) (ap eight_steps (xor_assoc x y b) ∙ eight_steps-xor x (bit_xor y b)) ∙ fold-xor bytes (eight_steps x) (byte_step y b)

-- ---- what stands above the low byte moves down untouched

bit_step-double : (k : ℕ) → bit_step (k * 2) ≡ k
unfolding bit_step
bit_step-double k = let even : k * 2 % 2 ≡ 0 = omega arith in let half : k * 2 / 2 ≡ k = omega arith in rw (even, half) refl

eight_steps-high : (k : ℕ) → eight_steps (k * 256) ≡ k
unfolding eight_steps
eight_steps-high k =
    let e : k * 256 ≡ k * 2 * 2 * 2 * 2 * 2 * 2 * 2 * 2 = omega arith in
    rw (e, bit_step-double, bit_step-double, bit_step-double, bit_step-double, bit_step-double, bit_step-double, bit_step-double, bit_step-double) refl

low_and_high : (c : ℕ) → c ≡ bit_xor (c % 256) (c / 256 * 256)
low_and_high c =
    let low : c % 2 ^ 8 < 2 ^ 8 = omega arith in
    let parts : c / 256 * 256 + c % 256 ≡ c = omega arith in
    sym (xor_comm (c % 256) (c / 256 * 256) ∙ xor_shifted (c / 256) 8 (c % 256) low ∙ parts)

-- a byte goes in with the low byte of the checksum
byte_step-parts : (c b : ℕ) → byte_step c b ≡ bit_xor (eight_steps (bit_xor (c % 256) b)) (c / 256)
byte_step-parts c b =
    ap (λ v. byte_step v b) (low_and_high c) ∙ ap eight_steps (within (c % 256) (c / 256 * 256) b)
    ∙ eight_steps-xor (bit_xor (c % 256) b) (c / 256 * 256)
    ∙ ap (bit_xor (eight_steps (bit_xor (c % 256) b))) (eight_steps-high (c / 256))

-- ---- the bytes' shares

abbrev pub shares : ℕ → List ℕ → ℕ
shares c [] = c
shares c (b ∷ bytes) = bit_xor (zero_bytes (suc (length bytes)) (bit_xor (c % 256) b)) (shares (c / 256) bytes)

pub fold-shares : (bytes : List ℕ) (c : ℕ) → fold byte_step c bytes ≡ shares c bytes
unfolding zero_bytes
fold-shares [] c = refl
fold-shares (b ∷ bytes) c =
    let one = bit_xor (c % 256) b in
    ap (λ v. fold byte_step v bytes) (byte_step-parts c b) ∙ fold-xor bytes (eight_steps one) (c / 256)
    ∙ ap (bit_xor (zero_bytes (length bytes) (eight_steps one))) (fold-shares bytes (c / 256))
