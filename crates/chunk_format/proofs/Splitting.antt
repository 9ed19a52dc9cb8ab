-- Entries, names and tracking entries at the front of bytes.
use Rattle.std.proofs.Common.{◌≡◌, ℕ, ◌+◌, ◌-◌, ◌/◌, ◌%◌, ◌^◌, ◌<◌, ◌≤◌, List, [], ◌∷◌, ◌++◌, length, get_or, take, drop, sym, ap, ◌∙◌, append_assoc, arith, length-append}
use Rattle.std.proofs.lemmas.List.{drop-drop, drop_at, take-append-drop, length-take-le, length-drop}
use Rattle.frame_wire.specs.Fields.{u8_bytes, u16_bytes, u32_bytes, u64_bytes}
use Rattle.frame_wire.proofs.FieldLaws.{u8_length, u16_length, u32_length, u32_same}
use Rattle.chunk_format.specs.declared.entry.Entry.{Entry}
use Rattle.chunk_format.specs.declared.entry.Entry.TheVariants.{Simple, Batch}
use Rattle.chunk_format.specs.Chunks.{batch_code, entry_bytes, IsEntry}
use Rattle.chunk_format.specs.Items.{NoneAtFront}
use Rattle.chunk_format.specs.Tags.{DeltaSequence, DeltaOffset, SnapshotSequence, SnapshotOffset, IsName, named_bytes, delta_bytes, IsDelta, snapshot_bytes, IsSnapshot}
use Rattle.chunk_format.specs.Named.{NameStands}
use Rattle.chunk_format.proofs.Sizes.{simple_length, batch_length}
use Rattle.chunk_format.proofs.Codes.{named_length, named_number_length, same_named, sequence_length}

-- ---- entries

first_byte : (bytes : List ℕ) → 1 ≤ length bytes → get_or bytes 0 0 < 256 → bytes ≡ u8_bytes (get_or bytes 0 0) ++ drop 1 bytes
unfolding u8_bytes
first_byte [] some fits = absurd (omega arith)
first_byte (b ∷ bytes) some fits = let same : b ≡ b % 256 = omega arith in ap (λ (n : ℕ). n ∷ bytes) same

pub simple_first : (body more bytes : List ℕ) → length body < 2 ^ 31 → bytes ≡ entry_bytes (Simple body) ++ more → get_or bytes 0 0 < 128
unfolding u32_bytes
simple_first body more bytes fits e = let first = ap (λ (l : List ℕ). get_or l 0 0) e in omega arith

pub batch_first : (c s r u : ℕ) (body more bytes : List ℕ) → IsEntry (Batch c s r u body) → bytes ≡ entry_bytes (Batch c s r u body) ++ more → 128 ≤ get_or bytes 0 0
unfolding u8_bytes
batch_first c s r u body more bytes f e =
    let f0 = f.0 in
    let f1 = f.1 in
    let first = ap (λ (l : List ℕ). get_or l 0 0) e in omega arith

simple_whole : (body more bytes : List ℕ) → bytes ≡ entry_bytes (Simple body) ++ more → length bytes ≡ 4 + length body + length more
simple_whole body more bytes e = omega (arith, ap length e, length-append (entry_bytes (Simple body)) more, simple_length body)

batch_whole : (c s r u : ℕ) (body more bytes : List ℕ) → bytes ≡ entry_bytes (Batch c s r u body) ++ more → length bytes ≡ 11 + length body + length more
batch_whole c s r u body more bytes e = omega (arith, ap length e, length-append (entry_bytes (Batch c s r u body)) more, batch_length c s r u body)

-- the length of a sub-batch's body stands at place 7
batch_sized : (c s r u : ℕ) (body more bytes : List ℕ) → bytes ≡ entry_bytes (Batch c s r u body) ++ more → drop 7 bytes ≡ u32_bytes (length body) ++ (body ++ more)
batch_sized c s r u body more bytes e =
    let code = batch_code c s in
    let front = u8_bytes code ++ (u16_bytes r ++ u32_bytes u) in
    let len : length front ≡ 7 = omega (arith, length-append (u8_bytes code) (u16_bytes r ++ u32_bytes u), length-append (u16_bytes r) (u32_bytes u), u8_length code, u16_length r, u32_length u) in
    let sized = u32_bytes (length body) ++ body in
    let regroup : entry_bytes (Batch c s r u body) ≡ front ++ sized =
    ap (λ (l : List ℕ). u8_bytes code ++ l) (sym (append_assoc (u16_bytes r) (u32_bytes u) sized)) ∙ sym (append_assoc (u8_bytes code) (u16_bytes r ++ u32_bytes u) sized) in
    ap (drop 7) (e ∙ ap (λ (l : List ℕ). l ++ more) regroup ∙ append_assoc front sized more) ∙ drop_at front (sized ++ more) 7 len ∙ append_assoc (u32_bytes (length body)) body more

pub no_entry_in_nothing : (bytes : List ℕ) → length bytes ≡ 0 → NoneAtFront entry_bytes IsEntry bytes
no_entry_in_nothing bytes none (Simple body) more f e = omega (arith, simple_whole body more bytes e)
no_entry_in_nothing bytes none (Batch c s r u body) more f e = omega (arith, batch_whole c s r u body more bytes e)

pub no_simple_length : (bytes : List ℕ) → get_or bytes 0 0 < 128 → length bytes < 4 → NoneAtFront entry_bytes IsEntry bytes
no_simple_length bytes first short (Simple body) more f e = omega (arith, simple_whole body more bytes e)
no_simple_length bytes first short (Batch c s r u body) more f e = omega (arith, batch_first c s r u body more bytes f e)

pub no_simple_body : (bytes : List ℕ) (len : ℕ) → get_or bytes 0 0 < 128 → len < 2 ^ 32 → drop 0 bytes ≡ u32_bytes len ++ drop 4 bytes → length bytes - 4 < len → NoneAtFront entry_bytes IsEntry bytes
no_simple_body bytes len first fits stands short (Simple body) more f e =
    let body_fits : length body < 2 ^ 32 = omega arith in
    let s = u32_same len (length body) (drop 4 bytes) (body ++ more) fits body_fits (sym stands ∙ e ∙ append_assoc (u32_bytes (length body)) body more) in
    omega (arith, s.0, simple_whole body more bytes e)
no_simple_body bytes len first fits stands short (Batch c s r u body) more f e = omega (arith, batch_first c s r u body more bytes f e)

pub no_batch_length : (bytes : List ℕ) → 128 ≤ get_or bytes 0 0 → length bytes < 11 → NoneAtFront entry_bytes IsEntry bytes
no_batch_length bytes first short (Simple body) more f e = omega (arith, simple_first body more bytes f e)
no_batch_length bytes first short (Batch c s r u body) more f e = omega (arith, batch_whole c s r u body more bytes e)

pub no_batch_body : (bytes : List ℕ) (len : ℕ) → 128 ≤ get_or bytes 0 0 → len < 2 ^ 32 → drop 7 bytes ≡ u32_bytes len ++ drop 11 bytes → length bytes - 11 < len → NoneAtFront entry_bytes IsEntry bytes
no_batch_body bytes len first fits stands short (Simple body) more f e = omega (arith, simple_first body more bytes f e)
no_batch_body bytes len first fits stands short (Batch c s r u body) more f e =
    let same = u32_same len (length body) (drop 11 bytes) (body ++ more) fits f.4 (sym stands ∙ batch_sized c s r u body more bytes e) in
    omega (arith, same.0, batch_whole c s r u body more bytes e)

-- a body of so many bytes at a place, and what is behind it
cut_at : (bytes : List ℕ) (at len : ℕ) → at + len ≤ length bytes → (length (take len (drop at bytes)) ≡ len) × (drop at bytes ≡ take len (drop at bytes) ++ drop (at + len) bytes)
cut_at bytes at len long =
    (length-take-le len (drop at bytes) (omega (arith, length-drop at bytes)), sym (take-append-drop len (drop at bytes)) ∙ ap (λ (l : List ℕ). take len (drop at bytes) ++ l) (drop-drop len at bytes))

record SplitOff (entry : Entry) (bytes : List ℕ) (len : ℕ) : Type 0 where
  right : IsEntry entry
  parts : bytes ≡ entry_bytes entry ++ drop len bytes
  behind : len ≡ length (entry_bytes entry)

pub simple_split : (bytes body : List ℕ) (len : ℕ) → get_or bytes 0 0 < 128 → len < 2 ^ 32 → drop 0 bytes ≡ u32_bytes len ++ drop 4 bytes → 4 + len ≤ length bytes
    → body ≡ take len (drop 4 bytes) → IsEntry (Simple body) × (bytes ≡ entry_bytes (Simple body) ++ drop (4 + len) bytes) × (4 + len ≡ length (entry_bytes (Simple body)))
unfolding u32_bytes
simple_split bytes body len first fits stands long is =
    let top = ap (λ (l : List ℕ). get_or l 0 0) stands in
    let cut = cut_at bytes 4 len long in
    let body_len : length body ≡ len = ap length is ∙ cut.0 in
    let rest : drop 4 bytes ≡ body ++ drop (4 + len) bytes = cut.1 ∙ ap (λ (l : List ℕ). l ++ drop (4 + len) bytes) (sym is) in
    let whole : bytes ≡ u32_bytes (length body) ++ (body ++ drop (4 + len) bytes) = stands ∙ ap (λ (n : ℕ). u32_bytes n ++ drop 4 bytes) (sym body_len) ∙ ap (λ (l : List ℕ). u32_bytes (length body) ++ l) rest in
    (omega arith, whole ∙ sym (append_assoc (u32_bytes (length body)) body (drop (4 + len) bytes)), omega (arith, simple_length body))

pub batch_split : (bytes body : List ℕ) (r u len : ℕ) → 128 ≤ get_or bytes 0 0 → get_or bytes 0 0 < 256 → r < 2 ^ 16 → u < 2 ^ 32 → len < 2 ^ 32
    → drop 1 bytes ≡ u16_bytes r ++ drop 3 bytes → drop 3 bytes ≡ u32_bytes u ++ drop 7 bytes → drop 7 bytes ≡ u32_bytes len ++ drop 11 bytes → 11 + len ≤ length bytes
    → body ≡ take len (drop 11 bytes)
    → (let entry = Batch ((get_or bytes 0 0 - 128) / 16) (get_or bytes 0 0 % 16) r u body in IsEntry entry × (bytes ≡ entry_bytes entry ++ drop (11 + len) bytes) × (11 + len ≡ length (entry_bytes entry)))
batch_split bytes body r u len large first r_fits u_fits len_fits e1 e3 e7 long is =
    let code : ℕ = get_or bytes 0 0 in
    let c : ℕ = (code - 128) / 16 in
    let s : ℕ = code % 16 in
    let code_is : code ≡ batch_code c s = omega arith in
    let cut = cut_at bytes 11 len long in
    let body_len : length body ≡ len = ap length is ∙ cut.0 in
    let back = drop (11 + len) bytes in
    let rest : drop 11 bytes ≡ body ++ back = cut.1 ∙ ap (λ (l : List ℕ). l ++ back) (sym is) in
    let sized : drop 7 bytes ≡ (u32_bytes (length body) ++ body) ++ back =
    e7 ∙ ap (λ (n : ℕ). u32_bytes n ++ drop 11 bytes) (sym body_len) ∙ ap (λ (l : List ℕ). u32_bytes (length body) ++ l) rest ∙ sym (append_assoc (u32_bytes (length body)) body back) in
    let three : drop 3 bytes ≡ (u32_bytes u ++ (u32_bytes (length body) ++ body)) ++ back =
    e3 ∙ ap (λ (l : List ℕ). u32_bytes u ++ l) sized ∙ sym (append_assoc (u32_bytes u) (u32_bytes (length body) ++ body) back) in
    let one : drop 1 bytes ≡ (u16_bytes r ++ (u32_bytes u ++ (u32_bytes (length body) ++ body))) ++ back =
    e1 ∙ ap (λ (l : List ℕ). u16_bytes r ++ l) three ∙ sym (append_assoc (u16_bytes r) (u32_bytes u ++ (u32_bytes (length body) ++ body)) back) in
    let tail = u16_bytes r ++ (u32_bytes u ++ (u32_bytes (length body) ++ body)) in
    let whole : bytes ≡ (u8_bytes (batch_code c s) ++ tail) ++ back =
    first_byte bytes (omega arith) first ∙ ap (λ (l : List ℕ). u8_bytes code ++ l) one ∙ ap (λ (n : ℕ). u8_bytes n ++ (tail ++ back)) code_is ∙ sym (append_assoc (u8_bytes (batch_code c s)) tail back) in
    let c_fits : c < 8 = omega arith in
    let s_fits : s < 16 = omega arith in
    let body_fits : length body < 2 ^ 32 = omega arith in
    ((c_fits, s_fits, r_fits, u_fits, body_fits), whole, omega (arith, batch_length c s r u body))

-- ---- names

pub named_whole : (kind : ℕ) (name more bytes : List ℕ) → bytes ≡ named_bytes kind name ++ more → length bytes ≡ 2 + length name + length more
named_whole kind name more bytes e = omega (arith, ap length e, length-append (named_bytes kind name) more, named_length kind name)

pub named_second : (kind : ℕ) (name more bytes : List ℕ) → length name < 2 ^ 8 → bytes ≡ named_bytes kind name ++ more → get_or bytes 1 0 ≡ length name
unfolding u8_bytes
named_second kind name more bytes fits e = let second = ap (λ (l : List ℕ). get_or l 1 0) e in omega arith

pub name_stands : (bytes name : List ℕ) → 2 + get_or bytes 1 0 ≤ length bytes → 0 < get_or bytes 1 0 → get_or bytes 0 0 < 256 → get_or bytes 1 0 < 256 → name ≡ take (get_or bytes 1 0) (drop 2 bytes)
    → NameStands (get_or bytes 0 0) name bytes
unfolding u8_bytes
name_stands [] name long some fits_0 fits_1 is = absurd (omega arith)
name_stands (a ∷ []) name long some fits_0 fits_1 is = absurd (omega arith)
name_stands (a ∷ b ∷ rest) name long some fits_0 fits_1 is =
    let len : length name ≡ b = ap length is ∙ length-take-le b rest (omega arith) in
    let same_a : a ≡ a % 256 = omega arith in
    let same_b : b ≡ length name % 256 = omega arith in
    let behind : drop b rest ≡ drop (2 + length name) (a ∷ b ∷ rest) = ap (λ (n : ℕ). drop n rest) (sym len) ∙ drop-drop (length name) 2 (a ∷ b ∷ rest) in
    let tail : rest ≡ name ++ drop (2 + length name) (a ∷ b ∷ rest) =
    sym (take-append-drop b rest) ∙ ap (λ (l : List ℕ). l ++ drop b rest) (sym is) ∙ ap (λ (l : List ℕ). name ++ l) behind in
    let whole : a ∷ b ∷ rest ≡ named_bytes a name ++ drop (2 + length name) (a ∷ b ∷ rest) =
    ap (λ (n : ℕ). n ∷ b ∷ rest) same_a ∙ ap (λ (n : ℕ). a % 256 ∷ n ∷ rest) same_b ∙ ap (λ (l : List ℕ). a % 256 ∷ length name % 256 ∷ l) tail in
    ((omega arith, omega arith), whole)

pub stands_long : (kind : ℕ) (name bytes : List ℕ) → NameStands kind name bytes → 2 + length name ≤ length bytes
stands_long kind name bytes stands = omega (arith, named_whole kind name (drop (2 + length name) bytes) bytes stands.1)

-- ---- delta entries

-- a name and a number behind it
number_behind : (kind k n : ℕ) (name x bytes more : List ℕ) → kind < 2 ^ 8 → k < 2 ^ 8 → IsName x → NameStands kind name bytes → bytes ≡ (named_bytes k x ++ u64_bytes n) ++ more
    → (kind ≡ k) × (10 + length name ≤ length bytes)
number_behind kind k n name x bytes more kind_fits k_fits f stands e =
    let s = same_named kind k name x (drop (2 + length name) bytes) (u64_bytes n ++ more) kind_fits k_fits stands.0 f (sym stands.1 ∙ e ∙ append_assoc (named_bytes k x) (u64_bytes n) more) in
    (s.0, omega (arith, ap length s.1, ap length e, length-append (named_bytes k x ++ u64_bytes n) more, named_number_length k x n))

pub no_delta_number : (kind : ℕ) (name bytes : List ℕ) → kind < 2 ^ 8 → NameStands kind name bytes → length bytes - (2 + length name) < 8 → NoneAtFront delta_bytes IsDelta bytes
no_delta_number kind name bytes fits stands short (DeltaSequence x n) more f e = omega (arith, (number_behind kind 0 n name x bytes more fits (omega arith) f.0 stands e).1)
no_delta_number kind name bytes fits stands short (DeltaOffset x n) more f e = omega (arith, (number_behind kind 1 n name x bytes more fits (omega arith) f.0 stands e).1)

pub no_delta_kind : (kind : ℕ) (name bytes : List ℕ) → kind < 2 ^ 8 → 2 ≤ kind → NameStands kind name bytes → NoneAtFront delta_bytes IsDelta bytes
no_delta_kind kind name bytes fits large stands (DeltaSequence x n) more f e = omega (arith, (number_behind kind 0 n name x bytes more fits (omega arith) f.0 stands e).0)
no_delta_kind kind name bytes fits large stands (DeltaOffset x n) more f e = omega (arith, (number_behind kind 1 n name x bytes more fits (omega arith) f.0 stands e).0)

-- ---- snapshot entries

-- a name and two numbers behind it
numbers_behind : (kind n m : ℕ) (name x bytes more : List ℕ) → kind < 2 ^ 8 → IsName x → NameStands kind name bytes → bytes ≡ snapshot_bytes (SnapshotSequence x n m) ++ more
    → (kind ≡ 0) × (18 + length name ≤ length bytes)
numbers_behind kind n m name x bytes more kind_fits f stands e =
    let s = same_named kind 0 name x (drop (2 + length name) bytes) ((u64_bytes n ++ u64_bytes m) ++ more) kind_fits (omega arith) stands.0 f (sym stands.1 ∙ e ∙ append_assoc (named_bytes 0 x) (u64_bytes n ++ u64_bytes m) more) in
    (s.0, omega (arith, ap length s.1, ap length e, length-append (snapshot_bytes (SnapshotSequence x n m)) more, sequence_length x n m))

pub no_sequence : (name bytes : List ℕ) → NameStands 0 name bytes → length bytes - (2 + length name) < 16 → NoneAtFront snapshot_bytes IsSnapshot bytes
no_sequence name bytes stands short (SnapshotSequence x n m) more f e = omega (arith, (numbers_behind 0 n m name x bytes more (omega arith) f.0 stands e).1)
no_sequence name bytes stands short (SnapshotOffset x n) more f e = omega (arith, (number_behind 0 1 n name x bytes more (omega arith) (omega arith) f.0 stands e).0)

pub no_offset : (name bytes : List ℕ) → NameStands 1 name bytes → length bytes - (2 + length name) < 8 → NoneAtFront snapshot_bytes IsSnapshot bytes
no_offset name bytes stands short (SnapshotSequence x n m) more f e = omega (arith, (numbers_behind 1 n m name x bytes more (omega arith) f.0 stands e).0)
no_offset name bytes stands short (SnapshotOffset x n) more f e = omega (arith, (number_behind 1 1 n name x bytes more (omega arith) (omega arith) f.0 stands e).1)

pub no_snapshot_kind : (kind : ℕ) (name bytes : List ℕ) → kind < 2 ^ 8 → 2 ≤ kind → NameStands kind name bytes → NoneAtFront snapshot_bytes IsSnapshot bytes
no_snapshot_kind kind name bytes fits large stands (SnapshotSequence x n m) more f e = omega (arith, (numbers_behind kind n m name x bytes more fits f.0 stands e).0)
no_snapshot_kind kind name bytes fits large stands (SnapshotOffset x n) more f e = omega (arith, (number_behind kind 1 n name x bytes more fits (omega arith) f.0 stands e).0)
