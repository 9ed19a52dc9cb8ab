-- The parts of a block of sixteen bytes, and the blocks of all bytes.
use Rattle.std.proofs.Common.{◌≡◌, ℕ, zero, suc, ◌+◌, ◌*◌, ◌/◌, ◌%◌, ◌^◌, ◌<◌, List, [], ◌∷◌, map, length, get_or, take, drop, fold, refl, sym, ap, ◌∙◌, take-append-drop, length-drop, drop-drop, arith}
use Rattle.std.specs.List.{range_with_len}
use Rattle.std.specs.Simd.{first_chunks}
use Rattle.std.specs.Int.Bits.{bit_xor, xor_comm, xor_assoc, xor_zero_l, xor_zero_r}
use Rattle.std.proofs.lemmas.Grind.{fold-append}
use Rattle.std.proofs.lemmas.List.FromFn.{fill_by_all}
use Rattle.chunk_crc.specs.Crc.{byte_step, zero_bytes}
use Rattle.chunk_crc.proofs.Steps.{shares, fold-shares, fold-xor, zero_bytes-xor, zero_bytes-zero_bytes}

written : (bytes : List ℕ) → length bytes ≡ 16 → bytes ≡ map (λ k. get_or bytes k 0) (range_with_len 0 16)
written bytes long = fill_by_all (λ k. get_or bytes k 0) bytes 16 0 long (λ k lt. refl)

pub far_is : (bytes : List ℕ) → length bytes ≡ 16 →
    bit_xor (bit_xor (bit_xor (bit_xor (bit_xor (bit_xor (bit_xor (bit_xor (bit_xor (bit_xor (bit_xor (zero_bytes 12 (get_or bytes 4 0)) (zero_bytes 11 (get_or bytes 5 0)))
    (zero_bytes 10 (get_or bytes 6 0))) (zero_bytes 9 (get_or bytes 7 0))) (zero_bytes 8 (get_or bytes 8 0))) (zero_bytes 7 (get_or bytes 9 0)))
    (zero_bytes 6 (get_or bytes 10 0))) (zero_bytes 5 (get_or bytes 11 0))) (zero_bytes 4 (get_or bytes 12 0))) (zero_bytes 3 (get_or bytes 13 0)))
    (zero_bytes 2 (get_or bytes 14 0))) (zero_bytes 1 (get_or bytes 15 0))
    ≡ fold byte_step 0 (drop 4 bytes)
far_is bytes long = rw (fold-shares (drop 4 bytes) 0, ap (λ v. shares 0 (drop 4 v)) (written bytes long)) (simp (xor_assoc, xor_zero_l, xor_zero_r))

pub near_is : (crc : ℕ) (bytes : List ℕ) → crc < 2 ^ 32 → length bytes ≡ 16 →
    bit_xor (bit_xor (zero_bytes 16 (bit_xor (crc % 256) (get_or bytes 0 0))) (zero_bytes 15 (bit_xor (crc / 256 % 256) (get_or bytes 1 0))))
    (bit_xor (zero_bytes 14 (bit_xor (crc / 65536 % 256) (get_or bytes 2 0))) (zero_bytes 13 (bit_xor (crc / 16777216 % 256) (get_or bytes 3 0))))
    ≡ zero_bytes 12 (fold byte_step crc (take 4 bytes))
near_is crc bytes lt long =
    let two : crc / 256 / 256 ≡ crc / 65536 = omega arith in
    let three : crc / 256 / 256 / 256 ≡ crc / 16777216 = omega arith in
    let none : crc / 256 / 256 / 256 / 256 ≡ 0 = omega arith in
    rw (fold-shares (take 4 bytes) crc, ap (λ v. shares crc (take 4 v)) (written bytes long), none, three, two)
    (simp (xor_assoc, xor_zero_r, zero_bytes-xor, zero_bytes-zero_bytes))

pub block_is : (crc : ℕ) (bytes : List ℕ) → length bytes ≡ 16 →
    bit_xor (fold byte_step 0 (drop 4 bytes)) (zero_bytes 12 (fold byte_step crc (take 4 bytes))) ≡ fold byte_step crc bytes
block_is crc bytes long =
    let rest : length (drop 4 bytes) ≡ 12 = omega (arith, length-drop 4 bytes) in
    let first = fold byte_step crc (take 4 bytes) in
    xor_comm (fold byte_step 0 (drop 4 bytes)) (zero_bytes 12 first)
    ∙ ap (λ n. bit_xor (zero_bytes n first) (fold byte_step 0 (drop 4 bytes))) (sym rest)
    ∙ sym (fold-xor (drop 4 bytes) first 0) ∙ ap (λ v. fold byte_step v (drop 4 bytes)) (xor_zero_r first)
    ∙ sym (fold-append byte_step crc (take 4 bytes) (drop 4 bytes)) ∙ ap (fold byte_step crc) (take-append-drop 4 bytes)

pub one_is : (crc byte : ℕ) → bit_xor (zero_bytes 1 (bit_xor (crc % 256) byte)) (crc / 256) ≡ byte_step crc byte
one_is crc byte = sym (fold-shares (byte ∷ []) crc)

-- block by block, and then what is left
pub blocks_are : (n : ℕ) (bytes : List ℕ) (crc : ℕ) → fold byte_step (fold (fold byte_step) crc (first_chunks 16 n bytes)) (drop (n * 16) bytes) ≡ fold byte_step crc bytes
blocks_are zero bytes crc = refl
blocks_are (suc n) bytes crc =
    let e : suc n * 16 ≡ 16 + n * 16 = omega arith in
    ap (λ k. fold byte_step (fold (fold byte_step) crc (first_chunks 16 (suc n) bytes)) (drop k bytes)) e
    ∙ ap (fold byte_step (fold (fold byte_step) crc (first_chunks 16 (suc n) bytes))) (sym (drop-drop (n * 16) 16 bytes))
    ∙ blocks_are n (drop 16 bytes) (fold byte_step crc (take 16 bytes))
    ∙ sym (fold-append byte_step crc (take 16 bytes) (drop 16 bytes)) ∙ ap (fold byte_step crc) (take-append-drop 16 bytes)
