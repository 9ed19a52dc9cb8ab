-- A checksum has 32 bits.
use Rattle.std.proofs.Common.{ℕ, suc, ◌/◌, ◌%◌, ◌^◌, ◌<◌, List, [], ◌∷◌, fold, get_or, Bool, true, false, cond, eqb, arith}
use Rattle.std.specs.Prelude.{bit_xor}
use Rattle.std.proofs.lemmas.Nat.{xor_lt}
use Rattle.chunk_crc.specs.Crc.{bit_step, eight_steps, byte_step, crc_of}

chosen_fits : (b : Bool) (x y : ℕ) → x < 2 ^ 32 → y < 2 ^ 32 → cond b x y < 2 ^ 32
chosen_fits true x y p q = p
chosen_fits false x y p q = q

bit_fits : (c : ℕ) → c < 2 ^ 32 → bit_step c < 2 ^ 32
unfolding bit_step
bit_fits c fits =
    let half : c / 2 < 2 ^ 32 = omega arith in
    chosen_fits (eqb (c % 2) 1) (bit_xor (c / 2) 0xedb88320) (c / 2) (xor_lt 32 (c / 2) 0xedb88320 half (omega arith)) half

eight_fit : (c : ℕ) → c < 2 ^ 32 → eight_steps c < 2 ^ 32
unfolding eight_steps
eight_fit c fits = bit_fits _ (bit_fits _ (bit_fits _ (bit_fits _ (bit_fits _ (bit_fits _ (bit_fits _ (bit_fits c fits)))))))

fold_fits : (bytes : List ℕ) (c : ℕ) → c < 2 ^ 32 → ((i : ℕ) → get_or bytes i 0 < 256) → fold byte_step c bytes < 2 ^ 32
fold_fits [] c fits each = fits
fold_fits (b ∷ bytes) c fits each =
    let first : b < 256 = each 0 in
    fold_fits bytes (byte_step c b) (eight_fit (bit_xor c b) (xor_lt 32 c b fits (omega arith))) (λ i. each (suc i))

pub crc_fits : (bytes : List ℕ) → ((i : ℕ) → get_or bytes i 0 < 256) → crc_of bytes < 2 ^ 32
crc_fits bytes each = xor_lt 32 (fold byte_step 0xffffffff bytes) 0xffffffff (fold_fits bytes 0xffffffff (omega arith) each) (omega arith)
