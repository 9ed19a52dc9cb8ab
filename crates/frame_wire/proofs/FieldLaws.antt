-- The spelling of a number has one length and gives the number back, so that two numbers never share one.
use Rattle.std.proofs.Common.{◌≡◌, ℕ, ◌^◌, ◌<◌, List, ◌++◌, length, take, drop, refl, sym, ap, ◌∙◌, arith}
use Rattle.std.specs.Int.{w8, w16, w32, w64, from_be_bytes}
use Rattle.std.proofs.lemmas.List.{take_at, drop_at}
use Rattle.std.proofs.lemmas.Nat.{from_be_bytes-to_be_bytes_2, from_be_bytes-to_be_bytes_4, from_be_bytes-to_be_bytes_8}
use Rattle.frame_wire.specs.Fields.{u8_bytes, u16_bytes, u32_bytes, u64_bytes}

-- two lists in one, cut at one place
pub same_front : (a b x y : List ℕ) → length a ≡ length b → a ++ x ≡ b ++ y → (a ≡ b) × (x ≡ y)
same_front a b x y len e =
    (sym (take_at a x (length a) refl) ∙ ap (take (length a)) e ∙ take_at b y (length a) (sym len), sym (drop_at a x (length a) refl) ∙ ap (drop (length a)) e ∙ drop_at b y (length a) (sym len))

pub u8_length : (n : ℕ) → length (u8_bytes n) ≡ 1
unfolding u8_bytes
u8_length n = refl

pub u16_length : (n : ℕ) → length (u16_bytes n) ≡ 2
unfolding u16_bytes
u16_length n = refl

pub u32_length : (n : ℕ) → length (u32_bytes n) ≡ 4
unfolding u32_bytes
u32_length n = refl

pub u64_length : (n : ℕ) → length (u64_bytes n) ≡ 8
unfolding u64_bytes
u64_length n = refl

pub u8_back : (n : ℕ) → n < 2 ^ 8 → from_be_bytes w8 (u8_bytes n) ≡ n
unfolding u8_bytes
u8_back n lt = omega arith

pub u16_back : (n : ℕ) → n < 2 ^ 16 → from_be_bytes w16 (u16_bytes n) ≡ n
unfolding u16_bytes
u16_back n lt = from_be_bytes-to_be_bytes_2 n lt

pub u32_back : (n : ℕ) → n < 2 ^ 32 → from_be_bytes w32 (u32_bytes n) ≡ n
unfolding u32_bytes
u32_back n lt = from_be_bytes-to_be_bytes_4 n lt

pub u64_back : (n : ℕ) → n < 2 ^ 64 → from_be_bytes w64 (u64_bytes n) ≡ n
unfolding u64_bytes
u64_back n lt = from_be_bytes-to_be_bytes_8 n lt

-- the numbers and what follows them are the same, where the bytes are
pub u8_same : (n m : ℕ) (x y : List ℕ) → n < 2 ^ 8 → m < 2 ^ 8 → u8_bytes n ++ x ≡ u8_bytes m ++ y → (n ≡ m) × (x ≡ y)
u8_same n m x y n_fits m_fits e =
    let parts = same_front (u8_bytes n) (u8_bytes m) x y (u8_length n ∙ sym (u8_length m)) e in
    (sym (u8_back n n_fits) ∙ ap (from_be_bytes w8) parts.0 ∙ u8_back m m_fits, parts.1)

pub u16_same : (n m : ℕ) (x y : List ℕ) → n < 2 ^ 16 → m < 2 ^ 16 → u16_bytes n ++ x ≡ u16_bytes m ++ y → (n ≡ m) × (x ≡ y)
u16_same n m x y n_fits m_fits e =
    let parts = same_front (u16_bytes n) (u16_bytes m) x y (u16_length n ∙ sym (u16_length m)) e in
    (sym (u16_back n n_fits) ∙ ap (from_be_bytes w16) parts.0 ∙ u16_back m m_fits, parts.1)

pub u32_same : (n m : ℕ) (x y : List ℕ) → n < 2 ^ 32 → m < 2 ^ 32 → u32_bytes n ++ x ≡ u32_bytes m ++ y → (n ≡ m) × (x ≡ y)
u32_same n m x y n_fits m_fits e =
    let parts = same_front (u32_bytes n) (u32_bytes m) x y (u32_length n ∙ sym (u32_length m)) e in
    (sym (u32_back n n_fits) ∙ ap (from_be_bytes w32) parts.0 ∙ u32_back m m_fits, parts.1)

pub u64_same : (n m : ℕ) (x y : List ℕ) → n < 2 ^ 64 → m < 2 ^ 64 → u64_bytes n ++ x ≡ u64_bytes m ++ y → (n ≡ m) × (x ≡ y)
u64_same n m x y n_fits m_fits e =
    let parts = same_front (u64_bytes n) (u64_bytes m) x y (u64_length n ∙ sym (u64_length m)) e in
    (sym (u64_back n n_fits) ∙ ap (from_be_bytes w64) parts.0 ∙ u64_back m m_fits, parts.1)
