-- The spellings of entries, tags and tracking entries are codes.
use Rattle.std.proofs.Common.{◌≡◌, ℕ, ◌+◌, ◌^◌, ◌<◌, ◌≤◌, List, ◌++◌, length, get_or, refl, sym, ap, ◌∙◌, append_assoc, arith, length-append}
use Rattle.frame_wire.specs.Fields.{u8_bytes, u16_bytes, u32_bytes, u64_bytes}
use Rattle.frame_wire.proofs.FieldLaws.{same_front, u8_length, u64_length, u8_same, u16_same, u32_same, u64_same}
use Rattle.chunk_format.specs.declared.entry.Entry.{Entry}
use Rattle.chunk_format.specs.declared.entry.Entry.TheVariants.{Simple, Batch}
use Rattle.chunk_format.specs.Chunks.{batch_code, entry_bytes, IsEntry}
use Rattle.chunk_format.specs.Tags.{Tag, DeltaEntry, DeltaSequence, DeltaOffset, SnapshotEntry, SnapshotSequence, SnapshotOffset, IsName, named_bytes, tag_bytes, IsTag, delta_bytes, IsDelta, snapshot_bytes, IsSnapshot}
use Rattle.chunk_format.proofs.ItemLaws.{IsCode}
use Rattle.chunk_format.proofs.Sizes.{simple_length, batch_length}

-- ---- entries

-- bytes behind their length
same_sized : (x y a b : List ℕ) → length x < 2 ^ 32 → length y < 2 ^ 32 → (u32_bytes (length x) ++ x) ++ a ≡ (u32_bytes (length y) ++ y) ++ b → (x ≡ y) × (a ≡ b)
same_sized x y a b x_fits y_fits e =
    let s = u32_same (length x) (length y) (x ++ a) (y ++ b) x_fits y_fits (sym (append_assoc (u32_bytes (length x)) x a) ∙ e ∙ append_assoc (u32_bytes (length y)) y b) in
    same_front x y a b s.0 s.1

-- the first bit tells a simple entry from a sub-batch
other_bit : (n k : ℕ) (a b : List ℕ) → n < 2 ^ 31 → 128 ≤ k → k < 256 → u32_bytes n ++ a ≡ u8_bytes k ++ b → ⊥
unfolding u32_bytes u8_bytes
other_bit n k a b small large fits e = let first = ap (λ (l : List ℕ). get_or l 0 0) e in omega arith

same_code : (c d s t : ℕ) → s < 16 → t < 16 → batch_code c s ≡ batch_code d t → (c ≡ d) × (s ≡ t)
same_code c d s t s_fits t_fits e = (omega arith, omega arith)

record BatchSame (c d s t r q u v : ℕ) (x y a b : List ℕ) : Type 0 where
  compression : c ≡ d
  spare : s ≡ t
  records : r ≡ q
  uncompressed : u ≡ v
  body : x ≡ y
  rest : a ≡ b

tail_of : ℕ → ℕ → List ℕ → List ℕ → List ℕ
tail_of r u x a = u16_bytes r ++ (u32_bytes u ++ ((u32_bytes (length x) ++ x) ++ a))

batch_flat : (c s r u : ℕ) (x a : List ℕ) → entry_bytes (Batch c s r u x) ++ a ≡ u8_bytes (batch_code c s) ++ tail_of r u x a
unfolding tail_of
batch_flat c s r u x a =
    append_assoc (u8_bytes (batch_code c s)) (u16_bytes r ++ (u32_bytes u ++ (u32_bytes (length x) ++ x))) a
    ∙ ap (λ (l : List ℕ). u8_bytes (batch_code c s) ++ l) (append_assoc (u16_bytes r) (u32_bytes u ++ (u32_bytes (length x) ++ x)) a
    ∙ ap (λ (l : List ℕ). u16_bytes r ++ l) (append_assoc (u32_bytes u) (u32_bytes (length x) ++ x) a))

same_batch : (c d s t r q u v : ℕ) (x y a b : List ℕ) → IsEntry (Batch c s r u x) → IsEntry (Batch d t q v y) → entry_bytes (Batch c s r u x) ++ a ≡ entry_bytes (Batch d t q v y) ++ b
    → BatchSame c d s t r q u v x y a b
unfolding tail_of
same_batch c d s t r q u v x y a b f g e =
    let flat = sym (batch_flat c s r u x a) ∙ e ∙ batch_flat d t q v y b in
    let f0 = f.0 in
    let f1 = f.1 in
    let g0 = g.0 in
    let g1 = g.1 in
    let one = u8_same (batch_code c s) (batch_code d t) (tail_of r u x a) (tail_of q v y b) (omega arith) (omega arith) flat in
    let codes = same_code c d s t f1 g1 one.0 in
    let two = u16_same r q (u32_bytes u ++ ((u32_bytes (length x) ++ x) ++ a)) (u32_bytes v ++ ((u32_bytes (length y) ++ y) ++ b)) f.2 g.2 one.1 in
    let three = u32_same u v ((u32_bytes (length x) ++ x) ++ a) ((u32_bytes (length y) ++ y) ++ b) f.3 g.3 two.1 in
    let four = same_sized x y a b f.4 g.4 three.1 in
    record { compression = codes.0; spare = codes.1; records = two.0; uncompressed = three.0; body = four.0; rest = four.1 }

simple_not_batch : (x : List ℕ) (d t q v : ℕ) (y a b : List ℕ) → IsEntry (Simple x) → IsEntry (Batch d t q v y) → entry_bytes (Simple x) ++ a ≡ entry_bytes (Batch d t q v y) ++ b → ⊥
simple_not_batch x d t q v y a b f g e =
    let g0 = g.0 in
    let g1 = g.1 in
    other_bit (length x) (batch_code d t) (x ++ a) (tail_of q v y b) f (omega arith) (omega arith) (sym (append_assoc (u32_bytes (length x)) x a) ∙ e ∙ batch_flat d t q v y b)

same_entry : (x y : Entry) (a b : List ℕ) → IsEntry x → IsEntry y → entry_bytes x ++ a ≡ entry_bytes y ++ b → (x ≡ y) × (a ≡ b)
same_entry (Simple x) (Simple y) a b f g e =
    let s = same_sized x y a b (omega arith) (omega arith) e in (ap (λ z. Simple z) s.0, s.1)
same_entry (Simple x) (Batch d t q v y) a b f g e = absurd (simple_not_batch x d t q v y a b f g e)
same_entry (Batch c s r u x) (Simple y) a b f g e = absurd (simple_not_batch y c s r u x b a g f (sym e))
same_entry (Batch c s r u x) (Batch d t q v y) a b f g e =
    let h = same_batch c d s t r q u v x y a b f g e in
    let compression = h.compression in
    let spare = h.spare in
    let records = h.records in
    let uncompressed = h.uncompressed in
    let body = h.body in
    (cc, h.rest)

some_entry : (x : Entry) → IsEntry x → 0 < length (entry_bytes x)
some_entry (Simple body) f = omega (arith, simple_length body)
some_entry (Batch c s r u body) f = omega (arith, batch_length c s r u body)

pub entry_code : IsCode entry_bytes IsEntry
entry_code = record { some = some_entry; one = same_entry }

-- ---- names

pub named_length : (kind : ℕ) (name : List ℕ) → length (named_bytes kind name) ≡ 2 + length name
named_length kind name =
    omega (arith, length-append (u8_bytes kind) (u8_bytes (length name) ++ name), length-append (u8_bytes (length name)) name, u8_length kind, u8_length (length name))

pub same_named : (j k : ℕ) (x y a b : List ℕ) → j < 2 ^ 8 → k < 2 ^ 8 → IsName x → IsName y → named_bytes j x ++ a ≡ named_bytes k y ++ b → (j ≡ k) × (x ≡ y) × (a ≡ b)
same_named j k x y a b j_fits k_fits f g e =
    let flat : (i : ℕ) (z c : List ℕ) → named_bytes i z ++ c ≡ u8_bytes i ++ (u8_bytes (length z) ++ (z ++ c)) =
    λ i z c. append_assoc (u8_bytes i) (u8_bytes (length z) ++ z) c ∙ ap (λ (l : List ℕ). u8_bytes i ++ l) (append_assoc (u8_bytes (length z)) z c) in
    let one = u8_same j k (u8_bytes (length x) ++ (x ++ a)) (u8_bytes (length y) ++ (y ++ b)) j_fits k_fits (sym (flat j x a) ∙ e ∙ flat k y b) in
    let two = u8_same (length x) (length y) (x ++ a) (y ++ b) f.1 g.1 one.1 in
    let three = same_front x y a b two.0 two.1 in
    (one.0, three.0, three.1)

-- a name and a number behind it
pub named_number_length : (kind : ℕ) (name : List ℕ) (n : ℕ) → length (named_bytes kind name ++ u64_bytes n) ≡ 10 + length name
named_number_length kind name n = omega (arith, length-append (named_bytes kind name) (u64_bytes n), named_length kind name, u64_length n)

pub same_named_number : (j k : ℕ) (x y : List ℕ) (n m : ℕ) (a b : List ℕ) → j < 2 ^ 8 → k < 2 ^ 8 → IsName x → IsName y → n < 2 ^ 64 → m < 2 ^ 64
    → (named_bytes j x ++ u64_bytes n) ++ a ≡ (named_bytes k y ++ u64_bytes m) ++ b → (j ≡ k) × (x ≡ y) × (n ≡ m) × (a ≡ b)
same_named_number j k x y n m a b j_fits k_fits f g n_fits m_fits e =
    let one = same_named j k x y (u64_bytes n ++ a) (u64_bytes m ++ b) j_fits k_fits f g (sym (append_assoc (named_bytes j x) (u64_bytes n) a) ∙ e ∙ append_assoc (named_bytes k y) (u64_bytes m) b) in
    let two = u64_same n m a b n_fits m_fits one.2 in
    (one.0, one.1, two.0, two.1)

-- ---- tags and delta entries

apart : {A : Type 0} (n : ℕ) → n ≡ 0 → n ≡ 1 → A
apart n zero one = absurd (omega arith)

same_tag : (x y : Tag) (a b : List ℕ) → IsTag x → IsTag y → tag_bytes x ++ a ≡ tag_bytes y ++ b → (x ≡ y) × (a ≡ b)
same_tag x y a b f g e =
    let s = same_named_number 0 0 x.name y.name x.id y.id a b (omega arith) (omega arith) f.0 g.0 f.1 g.1 e in
    (ap (λ (n : List ℕ). record { name = n; id = x.id }) s.1 ∙ ap (λ (i : ℕ). record { name = y.name; id = i }) s.2, s.3)

pub tag_code : IsCode tag_bytes IsTag
tag_code = record { some = λ x f. omega (arith, named_number_length 0 x.name x.id); one = same_tag }

same_delta : (x y : DeltaEntry) (a b : List ℕ) → IsDelta x → IsDelta y → delta_bytes x ++ a ≡ delta_bytes y ++ b → (x ≡ y) × (a ≡ b)
same_delta (DeltaSequence x n) (DeltaSequence y m) a b f g e =
    let s = same_named_number 0 0 x y n m a b (omega arith) (omega arith) f.0 g.0 f.1 g.1 e in
    (ap (λ (z : List ℕ). DeltaSequence z n) s.1 ∙ ap (λ (i : ℕ). DeltaSequence y i) s.2, s.3)
same_delta (DeltaSequence x n) (DeltaOffset y m) a b f g e =
    let s = same_named_number 0 1 x y n m a b (omega arith) (omega arith) f.0 g.0 f.1 g.1 e in apart 0 refl s.0
same_delta (DeltaOffset x n) (DeltaSequence y m) a b f g e =
    let s = same_named_number 1 0 x y n m a b (omega arith) (omega arith) f.0 g.0 f.1 g.1 e in apart 0 refl (sym s.0)
same_delta (DeltaOffset x n) (DeltaOffset y m) a b f g e =
    let s = same_named_number 1 1 x y n m a b (omega arith) (omega arith) f.0 g.0 f.1 g.1 e in
    (ap (λ (z : List ℕ). DeltaOffset z n) s.1 ∙ ap (λ (i : ℕ). DeltaOffset y i) s.2, s.3)

some_delta : (x : DeltaEntry) → IsDelta x → 0 < length (delta_bytes x)
some_delta (DeltaSequence x n) f = omega (arith, named_number_length 0 x n)
some_delta (DeltaOffset x n) f = omega (arith, named_number_length 1 x n)

pub delta_code : IsCode delta_bytes IsDelta
delta_code = record { some = some_delta; one = same_delta }

-- ---- snapshot entries

pub sequence_flat : (x : List ℕ) (first id : ℕ) (a : List ℕ) → snapshot_bytes (SnapshotSequence x first id) ++ a ≡ (named_bytes 0 x ++ u64_bytes first) ++ (u64_bytes id ++ a)
sequence_flat x first id a =
    ap (λ (l : List ℕ). l ++ a) (sym (append_assoc (named_bytes 0 x) (u64_bytes first) (u64_bytes id))) ∙ append_assoc (named_bytes 0 x ++ u64_bytes first) (u64_bytes id) a

same_snapshot : (x y : SnapshotEntry) (a b : List ℕ) → IsSnapshot x → IsSnapshot y → snapshot_bytes x ++ a ≡ snapshot_bytes y ++ b → (x ≡ y) × (a ≡ b)
same_snapshot (SnapshotSequence x n i) (SnapshotSequence y m j) a b f g e =
    let s = same_named_number 0 0 x y n m (u64_bytes i ++ a) (u64_bytes j ++ b) (omega arith) (omega arith) f.0 g.0 f.1 g.1 (sym (sequence_flat x n i a) ∙ e ∙ sequence_flat y m j b) in
    let t = u64_same i j a b f.2 g.2 s.3 in
    (ap (λ (z : List ℕ). SnapshotSequence z n i) s.1 ∙ ap (λ (k : ℕ). SnapshotSequence y k i) s.2 ∙ ap (λ (k : ℕ). SnapshotSequence y m k) t.0, t.1)
same_snapshot (SnapshotSequence x n i) (SnapshotOffset y m) a b f g e =
    let s = same_named_number 0 1 x y n m (u64_bytes i ++ a) b (omega arith) (omega arith) f.0 g.0 f.1 g.1 (sym (sequence_flat x n i a) ∙ e) in apart 0 refl s.0
same_snapshot (SnapshotOffset x n) (SnapshotSequence y m j) a b f g e =
    let s = same_named_number 1 0 x y n m a (u64_bytes j ++ b) (omega arith) (omega arith) f.0 g.0 f.1 g.1 (e ∙ sequence_flat y m j b) in apart 0 refl (sym s.0)
same_snapshot (SnapshotOffset x n) (SnapshotOffset y m) a b f g e =
    let s = same_named_number 1 1 x y n m a b (omega arith) (omega arith) f.0 g.0 f.1 g.1 e in
    (ap (λ (z : List ℕ). SnapshotOffset z n) s.1 ∙ ap (λ (i : ℕ). SnapshotOffset y i) s.2, s.3)

pub sequence_length : (x : List ℕ) (first id : ℕ) → length (snapshot_bytes (SnapshotSequence x first id)) ≡ 18 + length x
sequence_length x first id =
    omega (arith, length-append (named_bytes 0 x) (u64_bytes first ++ u64_bytes id), named_length 0 x, length-append (u64_bytes first) (u64_bytes id), u64_length first, u64_length id)

some_snapshot : (x : SnapshotEntry) → IsSnapshot x → 0 < length (snapshot_bytes x)
some_snapshot (SnapshotSequence x n i) f = omega (arith, sequence_length x n i)
some_snapshot (SnapshotOffset x n) f = omega (arith, named_number_length 1 x n)

pub snapshot_code : IsCode snapshot_bytes IsSnapshot
snapshot_code = record { some = some_snapshot; one = same_snapshot }
