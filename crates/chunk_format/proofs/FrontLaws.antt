-- What is read back by places is what was spelled.
use Rattle.std.proofs.Common.{◌≡◌, ℕ, zero, suc, ◌-◌, ◌/◌, ◌%◌, ◌^◌, ◌<◌, ◌≤◌, Bool, true, false, cond, List, [], ◌∷◌, ◌++◌, length, get_or, take, drop, refl, sym, ap, ◌∙◌, append_assoc, arith, length-append}
use Rattle.std.specs.Prelude.{nat_lt}
use Rattle.std.specs.Int.{w16, w32, from_be_bytes}
use Rattle.std.specs.List.{flat_map, All}
use Rattle.std.proofs.lemmas.List.{drop_at}
use Rattle.std.proofs.lemmas.List.Elements.{All-head, All-tail}
use Rattle.frame_wire.specs.Fields.{u8_bytes, u16_bytes, u32_bytes}
use Rattle.frame_wire.proofs.FieldLaws.{u8_length, u16_length, u32_length, u16_back, u32_back}
use Rattle.chunk_format.specs.declared.entry.Entry.{Entry}
use Rattle.chunk_format.specs.declared.entry.Entry.TheVariants.{Simple, Batch}
use Rattle.chunk_format.specs.Chunks.{batch_code, entry_bytes, IsEntry}
use Rattle.chunk_format.proofs.ChunkLaws.{part_at}
use Rattle.chunk_format.specs.ReadBack.{u16_at, u32_at, simple_at, batch_at, first_entry, after_entry, entries_at}

is_less : (n m : ℕ) → n < m → nat_lt n m ≡ true
is_less n m less = grind arith

is_not_less : (n m : ℕ) → m ≤ n → nat_lt n m ≡ false
is_not_less n m more = grind arith

-- the first byte tells which entry is read
reads_simple : (bytes : List ℕ) → get_or bytes 0 0 < 128 → first_entry bytes ≡ simple_at bytes
unfolding first_entry
reads_simple bytes small = ap (λ (b : Bool). cond b (simple_at bytes) (batch_at bytes)) (is_less (get_or bytes 0 0) 128 small)

reads_batch : (bytes : List ℕ) → 128 ≤ get_or bytes 0 0 → first_entry bytes ≡ batch_at bytes
unfolding first_entry
reads_batch bytes large = ap (λ (b : Bool). cond b (simple_at bytes) (batch_at bytes)) (is_not_less (get_or bytes 0 0) 128 large)

-- numbers and what is behind them, at the place behind a front
u16_there : (front back bytes : List ℕ) (at n : ℕ) → n < 2 ^ 16 → length front ≡ at → bytes ≡ front ++ (u16_bytes n ++ back) → u16_at at bytes ≡ n
u16_there front back bytes at n fits len e =
    ap (λ (l : List ℕ). from_be_bytes w16 (take 2 (drop at l))) e ∙ ap (from_be_bytes w16) (part_at front (u16_bytes n) back at 2 len (u16_length n)) ∙ u16_back n fits

u32_there : (front back bytes : List ℕ) (at n : ℕ) → n < 2 ^ 32 → length front ≡ at → bytes ≡ front ++ (u32_bytes n ++ back) → u32_at at bytes ≡ n
u32_there front back bytes at n fits len e =
    ap (λ (l : List ℕ). from_be_bytes w32 (take 4 (drop at l))) e ∙ ap (from_be_bytes w32) (part_at front (u32_bytes n) back at 4 len (u32_length n)) ∙ u32_back n fits

body_there : (front body back bytes : List ℕ) (at n : ℕ) → n ≡ length body → length front ≡ at → bytes ≡ front ++ (body ++ back) → take n (drop at bytes) ≡ body
body_there front body back bytes at n count len e =
    ap (λ (m : ℕ). take m (drop at bytes)) count ∙ ap (λ (l : List ℕ). take (length body) (drop at l)) e ∙ part_at front body back at (length body) len refl

simple_small : (n : ℕ) (back bytes : List ℕ) → n < 2 ^ 31 → bytes ≡ u32_bytes n ++ back → get_or bytes 0 0 < 128
unfolding u32_bytes
simple_small n back bytes fits e = let first = ap (λ (l : List ℕ). get_or l 0 0) e in omega arith

simple_back : (body rest bytes : List ℕ) → length body < 2 ^ 31 → bytes ≡ entry_bytes (Simple body) ++ rest → first_entry bytes ≡ Simple body
simple_back body rest bytes fits e =
    let flat : bytes ≡ u32_bytes (length body) ++ (body ++ rest) = e ∙ append_assoc (u32_bytes (length body)) body rest in
    let small = simple_small (length body) (body ++ rest) bytes fits flat in
    let len : u32_at 0 bytes ≡ length body = u32_there [] (body ++ rest) bytes 0 (length body) (omega arith) refl flat in
    let there : take (u32_at 0 bytes) (drop 4 bytes) ≡ body = body_there (u32_bytes (length body)) body rest bytes 4 (u32_at 0 bytes) len (u32_length (length body)) flat in
    reads_simple bytes small ∙ ap (λ (l : List ℕ). Simple l) there

batch_first : (code : ℕ) (back bytes : List ℕ) → code < 256 → bytes ≡ u8_bytes code ++ back → get_or bytes 0 0 ≡ code
unfolding u8_bytes
batch_first code back bytes fits e = let first = ap (λ (l : List ℕ). get_or l 0 0) e in omega arith

same_batch : (a c b s p r q u : ℕ) (x y : List ℕ) → a ≡ c → b ≡ s → p ≡ r → q ≡ u → x ≡ y → Batch a b p q x ≡ Batch c s r u y
same_batch a c b s p r q u x y e0 e1 e2 e3 e4 = cc

batch_back : (c s r u : ℕ) (body rest bytes : List ℕ) → IsEntry (Batch c s r u body) → bytes ≡ entry_bytes (Batch c s r u body) ++ rest → first_entry bytes ≡ Batch c s r u body
batch_back c s r u body rest bytes is e =
    let code : ℕ = batch_code c s in
    let c_fits : c < 8 = is.0 in
    let s_fits : s < 16 = is.1 in
    let n : ℕ = length body in
    let sized = u32_bytes n ++ body in
    let at7 = u32_bytes n ++ (body ++ rest) in
    let flat1 : bytes ≡ u8_bytes code ++ (u16_bytes r ++ (u32_bytes u ++ at7)) =
    e ∙ append_assoc (u8_bytes code) (u16_bytes r ++ (u32_bytes u ++ sized)) rest
    ∙ ap (λ (l : List ℕ). u8_bytes code ++ l) (append_assoc (u16_bytes r) (u32_bytes u ++ sized) rest)
    ∙ ap (λ (l : List ℕ). u8_bytes code ++ (u16_bytes r ++ l)) (append_assoc (u32_bytes u) sized rest ∙ ap (λ (l : List ℕ). u32_bytes u ++ l) (append_assoc (u32_bytes n) body rest)) in
    let front3 = u8_bytes code ++ u16_bytes r in
    let front7 = front3 ++ u32_bytes u in
    let front11 = front7 ++ u32_bytes n in
    let flat3 : bytes ≡ front3 ++ (u32_bytes u ++ at7) = flat1 ∙ sym (append_assoc (u8_bytes code) (u16_bytes r) (u32_bytes u ++ at7)) in
    let flat7 : bytes ≡ front7 ++ at7 = flat3 ∙ sym (append_assoc front3 (u32_bytes u) at7) in
    let flat11 : bytes ≡ front11 ++ (body ++ rest) = flat7 ∙ sym (append_assoc front7 (u32_bytes n) (body ++ rest)) in
    let len3 : length front3 ≡ 3 = omega (arith, length-append (u8_bytes code) (u16_bytes r), u8_length code, u16_length r) in
    let len7 : length front7 ≡ 7 = omega (arith, length-append front3 (u32_bytes u), len3, u32_length u) in
    let len11 : length front11 ≡ 11 = omega (arith, length-append front7 (u32_bytes n), len7, u32_length n) in
    let first : get_or bytes 0 0 ≡ code = batch_first code (u16_bytes r ++ (u32_bytes u ++ at7)) bytes (omega arith) flat1 in
    let records = u16_there (u8_bytes code) (u32_bytes u ++ at7) bytes 1 r is.2 (u8_length code) flat1 in
    let uncompressed = u32_there front3 at7 bytes 3 u is.3 len3 flat3 in
    let len = u32_there front7 (body ++ rest) bytes 7 n is.4 len7 flat7 in
    let there = body_there front11 body rest bytes 11 (u32_at 7 bytes) len len11 flat11 in
    let compression_is : (get_or bytes 0 0 - 128) / 16 ≡ c = omega (arith, first) in
    let spare_is : get_or bytes 0 0 % 16 ≡ s = omega (arith, first) in
    reads_batch bytes (omega (arith, first))
    ∙ same_batch ((get_or bytes 0 0 - 128) / 16) c (get_or bytes 0 0 % 16) s (u16_at 1 bytes) r (u32_at 3 bytes) u (take (u32_at 7 bytes) (drop 11 bytes)) body compression_is spare_is records uncompressed there

-- an entry at the front is read back
pub entry_back : (entry : Entry) (rest bytes : List ℕ) → IsEntry entry → bytes ≡ entry_bytes entry ++ rest → first_entry bytes ≡ entry
entry_back (Simple body) rest bytes is e = simple_back body rest bytes is e
entry_back (Batch c s r u body) rest bytes is e = batch_back c s r u body rest bytes is e

-- and so are entries one after the other
pub entries_back : (n : ℕ) (entries : List Entry) (bytes : List ℕ) → length entries ≡ n → All IsEntry entries → bytes ≡ flat_map entry_bytes entries → entries_at n bytes ≡ entries
entries_back zero [] bytes count each e = refl
entries_back zero (entry ∷ entries) bytes count each e = absurd (omega arith)
entries_back (suc n) [] bytes count each e = absurd (omega arith)
entries_back (suc n) (entry ∷ entries) bytes count each e =
    let more = flat_map entry_bytes entries in
    let first : first_entry bytes ≡ entry = entry_back entry more bytes (All-head IsEntry entry entries each) e in
    let after : after_entry bytes ≡ more =
    ap (λ (x : Entry). drop (length (entry_bytes x)) bytes) first ∙ ap (drop (length (entry_bytes entry))) e ∙ drop_at (entry_bytes entry) more (length (entry_bytes entry)) refl in
    let behind : entries_at n (after_entry bytes) ≡ entries = entries_back n entries (after_entry bytes) (omega arith) (All-tail IsEntry entry entries each) after in
    ap (λ (x : Entry). x ∷ entries_at n (after_entry bytes)) first ∙ ap (λ (es : List Entry). entry ∷ es) behind
