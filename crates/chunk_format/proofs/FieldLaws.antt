-- Entries and headers as fields are lawful.
use Rattle.std.proofs.Common.{◌≡◌, ℕ, ℤ, ◌+◌, ◌-◌, ◌/◌, ◌%◌, ◌^◌, ◌<◌, ◌≤◌, Bool, true, false, cond, eqb, List, [], ◌++◌, length, get_or, drop, Option, Some, None, Result, Ok, Err, refl, sym, ap, subst, ◌∙◌, append_assoc, arith, inl, inr}
use Rattle.std.proofs.lemmas.Bool.{eqb-true, ltb-false, lt-ltb, le-ltb}
use Rattle.std.specs.Int.{w64, cast_unsigned}
use Rattle.std.proofs.lemmas.List.{length-append, append-nil}
use Rattle.std.proofs.Math.Seq.{drop-append_seam}
use Rattle.frame_wire.specs.Fields.{u8_bytes, u16_bytes, u32_bytes, u64_bytes, i64_bytes}
use Rattle.frame_wire.specs.Reading.{Spot, past}
use Rattle.frame_wire.specs.Formats.{Format, Spelled, NumberWrong, u8_field, u16_field, u32_field, u64_field, i64_field}
use Rattle.frame_wire.specs.Joins.{◌then◌}
use Rattle.frame_wire.specs.Laws.{IsBytes, Lawful}
use Rattle.frame_wire.specs.Views.{begins_low, OneOf, Low, High, low_or_high, as_one}
use Rattle.frame_wire.proofs.FieldLaws.{u8_length, u16_length, u32_length, u64_length}
use Rattle.frame_wire.proofs.FieldFormats.{u8_lawful, u16_lawful, u32_lawful, u64_lawful, i64_lawful, count_lawful}
use Rattle.frame_wire.proofs.JoinLaws.{then_lawful}
use Rattle.frame_wire.proofs.ViewLaws.{raw_lawful, behind_lawful, both_are_lawful, viewed_lawful, one_lawful}
use Rattle.chunk_format.specs.declared.entry.Entry.{Entry}
use Rattle.chunk_format.specs.declared.entry.Entry.TheVariants.{Simple, Batch}
use Rattle.chunk_format.specs.declared.chunk.ChunkKind.{ChunkKind}
use Rattle.chunk_format.specs.declared.chunk.ChunkKind.TheVariants.{User, Delta, Snapshot}
use Rattle.chunk_format.specs.declared.chunk.Header.{Header}
use Rattle.chunk_format.specs.declared.field.HeaderFault.{HeaderFault}
use Rattle.chunk_format.specs.declared.field.HeaderFault.TheVariants.{NotWhole, Wrong}
use Rattle.frame_wire.specs.declared.fault.FieldFault.{FieldFault}
use Rattle.frame_wire.specs.declared.fault.FieldFault.TheVariants.{Short, Negative}
use Rattle.chunk_format.specs.declared.fault.ChunkFault.{ChunkFault}
use Rattle.chunk_format.proofs.ChunkOnly.{header_not_wrong}
use Rattle.chunk_format.specs.Items.{NoneAtFront}
use Rattle.chunk_format.specs.Faults.{IsHeader, HeaderStands, HeaderWrong}
use Rattle.chunk_format.specs.Chunks.{batch_code, entry_bytes, IsEntry, kind_code, header_bytes}
use Rattle.chunk_format.proofs.Splitting.{simple_first, batch_first}
use Rattle.chunk_format.specs.ChunkFields.{short, simple_field, batch_field, entry_made, entry_parts, entry_format, entry_at, NoEntry, entry_field, HeaderNumbers, header_numbers, kind_made, with_kind, header_made, header_parts, header_format, header_at, NoHeader, header_field}

abbrev SimpleParts : Type 0
SimpleParts = ℕ × List ℕ

abbrev BatchParts : Type 0
BatchParts = ℕ × (ℕ × (ℕ × (ℕ × List ℕ)))

simple_lawful : Lawful simple_field
simple_lawful = behind_lawful _ _ count_lawful (λ n. raw_lawful short n)

batch_lawful : Lawful batch_field
batch_lawful = then_lawful _ _ u8_lawful (then_lawful _ _ u16_lawful (then_lawful _ _ u32_lawful (behind_lawful _ _ u32_lawful (λ n. raw_lawful short n))))

simple_some : (x : SimpleParts) → 0 < length (simple_field.spell x)
simple_some x = omega (arith, length-append (u32_bytes x.0) x.1, u32_length x.0)

batch_some : (x : BatchParts) → 0 < length (batch_field.spell x)
batch_some x = omega (arith, length-append (u8_bytes x.0) (u16_bytes x.1.0 ++ (u32_bytes x.1.1.0 ++ (u32_bytes x.1.1.1.0 ++ x.1.1.1.1))), u8_length x.0)

entry_right : (y : Entry) → IsEntry y → (low_or_high simple_field batch_field).Fits (entry_parts y) × (entry_made (entry_parts y) ≡ Some y)
entry_right (Simple body) fits =
    let low : begins_low (u32_bytes (length body) ++ body) ≡ true = lt-ltb (get_or (u32_bytes (length body) ++ body) 0 0) 128 (simple_first body [] (u32_bytes (length body) ++ body) fits (sym (append-nil (u32_bytes (length body) ++ body)))) in
    (((fits, refl), low), refl)
entry_right (Batch c s r u body) fits =
    let f0 = fits.0 in
    let f1 = fits.1 in
    let all : List ℕ = entry_bytes (Batch c s r u body) in
    let high : begins_low all ≡ false = le-ltb (get_or all 0 0) 128 (batch_first c s r u body [] all fits (sym (append-nil all))) in
    let code : batch_code c s < 2 ^ 8 = omega arith in
    let first : (batch_code c s - 128) / 16 ≡ c = omega arith in
    let second : batch_code c s % 16 ≡ s = omega arith in
    let same : entry_made (entry_parts (Batch c s r u body)) ≡ Some (Batch c s r u body) = ap (λ k. Some (Batch k (batch_code c s % 16) r u body)) first ∙ ap (λ k. Some (Batch c k r u body)) second in
    (((code, (fits.2, (fits.3, (fits.4, refl)))), high), same)

high_code : (code : ℕ) (more : List ℕ) → code < 256 → 128 ≤ get_or (u8_bytes code ++ more) 0 0 → 128 ≤ code
unfolding u8_bytes
high_code code more below high = omega arith

entry_back : (x : OneOf SimpleParts BatchParts) (y : Entry) → (low_or_high simple_field batch_field).Fits x → entry_made x ≡ Some y → IsEntry y × (entry_parts y ≡ x)
entry_back (Low (n, body)) y fits e =
    let is : Simple body ≡ y = cc in
    let len : length body ≡ n = fits.0.1 in
    let right : IsEntry (Simple body) = omega (arith, len, fits.0.0) in
    let parts : entry_parts (Simple body) ≡ Low (n, body) = ap (λ k. Low (k, body)) len in
    subst (λ z. IsEntry z × (entry_parts z ≡ Low (n, body))) is (right, parts)
entry_back (High (code, (r, (u, (n, body))))) y fits e =
    let made : Entry = Batch ((code - 128) / 16) (code % 16) r u body in
    let is : made ≡ y = cc in
    let f = fits.0 in
    let len : length body ≡ n = f.1.1.1.1 in
    let below : code < 256 = f.0 in
    let high : 128 ≤ get_or (u8_bytes code ++ (u16_bytes r ++ (u32_bytes u ++ (u32_bytes n ++ body)))) 0 0 = ltb-false _ 128 fits.1 in
    let large : 128 ≤ code = high_code code (u16_bytes r ++ (u32_bytes u ++ (u32_bytes n ++ body))) below high in
    let back : batch_code ((code - 128) / 16) (code % 16) ≡ code = omega arith in
    let right : IsEntry made = (omega arith, omega arith, f.1.0, f.1.1.0, omega (arith, len, f.1.1.1.0)) in
    let parts : entry_parts made ≡ High (code, (r, (u, (n, body)))) = ap (λ k. High (k, (r, (u, (length body, body))))) back ∙ ap (λ k. High (code, (r, (u, (k, body))))) len in
    subst (λ z. IsEntry z × (entry_parts z ≡ High (code, (r, (u, (n, body)))))) is (right, parts)

-- the same format with an equal spelling
respelled : {A F : Type 0} (f : Format A F) (spell : A → List ℕ) → ((x : A) → f.spell x ≡ spell x) → Lawful f → Lawful (record { spell = spell; Fits = f.Fits; read = f.read; Wrong = f.Wrong })
respelled f spell same p = record {
  takes = λ s x t fits e.
      let all = p.takes s x t fits e in
      record { fits = all.fits; parts = all.parts ∙ ap (λ (b : List ℕ). b ++ t.rest) (same x); moved = all.moved ∙ ap (λ (b : List ℕ). s.at + length b) (same x) };
  again = λ s x t all.
      p.again s x t (record { fits = all.fits; parts = all.parts ∙ ap (λ (b : List ℕ). b ++ t.rest) (sym (same x)); moved = all.moved ∙ ap (λ (b : List ℕ). s.at + length b) (sym (same x)) });
  fails = p.fails;
  refuses = p.refuses;
}

entry_spelled : (x : Entry) → entry_format.spell x ≡ entry_bytes x
entry_spelled (Simple body) = refl
entry_spelled (Batch c s r u body) = refl

entry_format_lawful : Lawful entry_format
entry_format_lawful = one_lawful short _ (viewed_lawful entry_made entry_parts IsEntry short (low_or_high simple_field batch_field) (both_are_lawful simple_field batch_field simple_lawful batch_lawful simple_some batch_some) (record { right = entry_right; made = entry_back }))

pub entry_lawful : Lawful entry_field
unfolding entry_at NoEntry
entry_lawful = respelled entry_format entry_bytes entry_spelled entry_format_lawful

pub entry_there : (at : ℕ) (bytes : List ℕ) (x : Entry) (len : ℕ) → IsEntry x × (bytes ≡ entry_bytes x ++ drop len bytes) × (len ≡ length (entry_bytes x))
    → (let s : Spot = record { at = at; rest = bytes } in (entry_at s ≡ Ok (x, past len s)) × (len ≤ length s.rest))
entry_there at bytes x len all =
    let s : Spot = record { at = at; rest = bytes } in
    (entry_lawful.again s x (past len s) (record { fits = all.0; parts = all.1; moved = ap (λ (n : ℕ). at + n) all.2 }), omega (arith, all.2, ap length all.1, length-append (entry_bytes x) (drop len bytes)))

-- every fault of an entry is that it is not whole
entry_fault : (s : Spot) (fault : FieldFault) → NoEntry s fault → fault ≡ Short s.at
unfolding NoEntry
entry_fault s fault wrong = wrong.1

no_entry_read : (s : Spot) (r : Result (Entry × Spot) FieldFault) → entry_at s ≡ r → IsBytes s.rest → NoneAtFront entry_bytes IsEntry s.rest → r ≡ Err (Short s.at)
no_entry_read s (Ok x) e fits none =
    let all = entry_lawful.takes s x.0 x.1 fits e in
    absurd (none x.0 x.1.rest all.fits all.parts)
no_entry_read s (Err fault) e fits none = ap (λ z. Err z) (entry_fault s fault (entry_lawful.fails s fault fits e))

pub no_entry : (at : ℕ) (bytes : List ℕ) → IsBytes bytes → NoneAtFront entry_bytes IsEntry bytes → entry_at (record { at = at; rest = bytes }) ≡ Err (Short at)
no_entry at bytes fits none = let s : Spot = record { at = at; rest = bytes } in no_entry_read s (entry_at s) refl fits none

-- ---- headers

numbers_lawful : Lawful header_numbers
numbers_lawful =
    then_lawful _ _ u8_lawful (then_lawful _ _ u8_lawful (then_lawful _ _ u16_lawful (then_lawful _ _ u32_lawful (then_lawful _ _ i64_lawful
    (then_lawful _ _ u64_lawful (then_lawful _ _ u64_lawful (then_lawful _ _ u32_lawful (then_lawful _ _ u32_lawful (then_lawful _ _ u32_lawful u32_lawful)))))))))

kind_there : (k : ChunkKind) → kind_made (kind_code k) ≡ Some k
kind_there User = refl
kind_there Delta = refl
kind_there Snapshot = refl

kind_below : (k : ChunkKind) → kind_code k < 2 ^ 8
kind_below User = omega arith
kind_below Delta = omega arith
kind_below Snapshot = omega arith

some_if : {A : Type 0} (b : Bool) (o : Option A) (x : A) → cond b o None ≡ Some x → (b ≡ true) × (o ≡ Some x)
some_if true o x e = (refl, e)
some_if false o x e = absurd cc

kind_one : (b : Bool) (code n : ℕ) (one k : ChunkKind) (others : Option ChunkKind) → eqb code n ≡ b → kind_code one ≡ n → cond b (Some one) others ≡ Some k → (others ≡ Some k → kind_code k ≡ code) → kind_code k ≡ code
kind_one true code n one k others test is e next =
    let same : one ≡ k = cc in
    ap kind_code (sym same) ∙ is ∙ sym (eqb-true code n test)
kind_one false code n one k others test is e next = next e

kind_back : (code : ℕ) (k : ChunkKind) → kind_made code ≡ Some k → kind_code k ≡ code
kind_back code k e =
    kind_one (eqb code 0) code 0 User k _ refl refl e λ e.
    kind_one (eqb code 1) code 1 Delta k _ refl refl e λ e.
    kind_one (eqb code 2) code 2 Snapshot k _ refl refl e λ e. absurd cc

header_right : (h : Header) → IsHeader h → header_numbers.Fits (header_parts h) × (header_made (header_parts h) ≡ Some h)
header_right h fits =
    let made : header_made (header_parts h) ≡ Some h = ap (with_kind (header_parts h)) (kind_there h.kind) in
    ((omega arith, (kind_below h.kind, (fits.entries, (fits.records, (fits.stamp, (fits.epoch, (fits.first, (fits.crc, (fits.payload_len, (fits.trailer_len, omega arith)))))))))), made)

-- the numbers of a header behind magic and kind
abbrev Behind : Type 0
Behind = ℕ × (ℕ × (ℤ × (ℕ × (ℕ × (ℕ × (ℕ × ℕ))))))

abbrev numbers : ℕ → ℕ → Behind → ℕ → HeaderNumbers
numbers magic kind (entries, (records, (stamp, (epoch, (first, (crc, (payload_len, trailer_len))))))) end = (magic, (kind, (entries, (records, (stamp, (epoch, (first, (crc, (payload_len, (trailer_len, end))))))))))

header_kind : (magic kind end : ℕ) (b : Behind) (o : Option ChunkKind) (h : Header) → with_kind (numbers magic kind b end) o ≡ Some h → (k : ChunkKind) × (o ≡ Some k) × (header_parts h ≡ numbers 0x50 (kind_code k) b 0)
header_kind magic kind end (e, (r, (s, (ep, (f, (c, (p, t))))))) (Some k) h is =
    let made : Header = record { kind = k; entries = e; records = r; stamp = s; epoch = ep; first = f; crc = c; payload_len = p; trailer_len = t } in
    let same : made ≡ h = cc in
    (k, refl, ap header_parts (sym same))
header_kind magic kind end b None h is = absurd cc

header_back : (x : HeaderNumbers) (h : Header) → header_numbers.Fits x → header_made x ≡ Some h → IsHeader h × (header_parts h ≡ x)
header_back (magic, (kind, (e, (r, (s, (ep, (f, (c, (p, (t, end)))))))))) h fits is =
    let b : Behind = (e, (r, (s, (ep, (f, (c, (p, t))))))) in
    let one = some_if (eqb magic 0x50) (cond (eqb end 0) (with_kind (numbers magic kind b end) (kind_made kind)) None) h is in
    let two = some_if (eqb end 0) (with_kind (numbers magic kind b end) (kind_made kind)) h one.1 in
    let got = header_kind magic kind end b (kind_made kind) h two.1 in
    let first : magic ≡ 0x50 = eqb-true magic 0x50 one.0 in
    let last : end ≡ 0 = eqb-true end 0 two.0 in
    let middle : kind_code got.0 ≡ kind = kind_back kind got.0 got.1 in
    let same : header_parts h ≡ numbers magic kind b end = got.2 ∙ ap (λ (k : ℕ). numbers 0x50 k b 0) middle ∙ ap (λ (m : ℕ). numbers m kind b 0) (sym first) ∙ ap (λ (z : ℕ). numbers magic kind b z) (sym last) in
    let there : header_numbers.Fits (header_parts h) = subst header_numbers.Fits (sym same) fits in (
      record {
        entries = there.1.1.0;
        records = there.1.1.1.0;
        stamp = there.1.1.1.1.0;
        epoch = there.1.1.1.1.1.0;
        first = there.1.1.1.1.1.1.0;
        crc = there.1.1.1.1.1.1.1.0;
        payload_len = there.1.1.1.1.1.1.1.1.0;
        trailer_len = there.1.1.1.1.1.1.1.1.1.0;
      },
      same,
    )

-- the same bytes as those of a chunk
header_spelled : (h : Header) → header_numbers.spell (header_parts h) ≡ header_bytes h
unfolding header_bytes
header_spelled h = simp append_assoc

header_format_lawful : Lawful header_format
header_format_lawful = viewed_lawful header_made header_parts IsHeader (λ place. Wrong place) (as_one (λ place. NotWhole place) header_numbers) (one_lawful (λ place. NotWhole place) header_numbers numbers_lawful) (record { right = header_right; made = header_back })

pub header_lawful : Lawful header_field
unfolding header_at NoHeader
header_lawful = respelled header_format header_bytes header_spelled header_format_lawful

-- ---- what stands and what is wrong

-- a format whose spellings all have one length, and which is wrong only where fewer bytes are left
record IsFixed {A F : Type 0} (f : Format A F) (n : ℕ) : Type 0 where
  long : (x : A) → length (f.spell x) ≡ n
  wrong : (s : Spot) (fault : F) → f.Wrong s fault → length s.rest < n

number_wrong : (n : ℕ) (s : Spot) (fault : FieldFault) → NumberWrong n s fault → length s.rest < n
number_wrong n s (Short place) wrong = wrong.0
number_wrong n s (Negative place) wrong = absurd wrong

then_wrong : {A B F : Type 0} (f : Format A F) (g : Format B F) (m n : ℕ) → IsFixed f m → IsFixed g n → (s : Spot) (fault : F) → (f then g).Wrong s fault → length s.rest < m + n
then_wrong f g m n p q s fault (inl a) = omega (arith, p.wrong s fault a)
then_wrong f g m n p q s fault (inr (x, t, all, wrong)) = omega (arith, q.wrong t fault wrong, p.long x, ap length all.parts, length-append (f.spell x) t.rest)

then_fixed : {A B F : Type 0} (f : Format A F) (g : Format B F) (m n : ℕ) → IsFixed f m → IsFixed g n → IsFixed (f then g) (m + n)
then_fixed f g m n p q = record {
  long = λ x. omega (arith, p.long x.0, q.long x.1, length-append (f.spell x.0) (g.spell x.1));
  wrong = then_wrong f g m n p q;
}

u8_fixed : IsFixed u8_field 1
u8_fixed = record { long = u8_length; wrong = number_wrong 1 }

u16_fixed : IsFixed u16_field 2
u16_fixed = record { long = u16_length; wrong = number_wrong 2 }

u32_fixed : IsFixed u32_field 4
u32_fixed = record { long = u32_length; wrong = number_wrong 4 }

u64_fixed : IsFixed u64_field 8
u64_fixed = record { long = u64_length; wrong = number_wrong 8 }

i64_length : (z : ℤ) → length (i64_bytes z) ≡ 8
unfolding i64_bytes u64_bytes
i64_length z = u64_length (cast_unsigned w64 z)

i64_fixed : IsFixed i64_field 8
i64_fixed = record { long = i64_length; wrong = number_wrong 8 }

numbers_fixed : IsFixed header_numbers 48
numbers_fixed =
    then_fixed _ _ 1 47 u8_fixed (then_fixed _ _ 1 46 u8_fixed (then_fixed _ _ 2 44 u16_fixed (then_fixed _ _ 4 40 u32_fixed (then_fixed _ _ 8 32 i64_fixed
    (then_fixed _ _ 8 24 u64_fixed (then_fixed _ _ 8 16 u64_fixed (then_fixed _ _ 4 12 u32_fixed (then_fixed _ _ 4 8 u32_fixed (then_fixed _ _ 4 4 u32_fixed u32_fixed)))))))))

pub header_long : (h : Header) → length (header_bytes h) ≡ 48
header_long h = ap length (sym (header_spelled h)) ∙ numbers_fixed.long (header_parts h)

-- a header that stands in bytes, as one that is read
pub header_there : (at : ℕ) (bytes : List ℕ) (h : Header) → HeaderStands h bytes → 48 ≤ length bytes → (let s : Spot = record { at = at; rest = bytes } in (header_at s ≡ Ok (h, past 48 s)) × (48 ≤ length s.rest))
header_there at bytes h stands enough =
    let s : Spot = record { at = at; rest = bytes } in
    let moved : at + 48 ≡ at + length (header_bytes h) = ap (λ (n : ℕ). at + n) (sym (header_long h)) in
    (header_lawful.again s h (past 48 s) (record { fits = stands.0; parts = stands.1; moved = moved }), enough)

stands_long : (bytes : List ℕ) (h : Header) → HeaderStands h bytes → 48 ≤ length bytes
stands_long bytes h stands = omega (arith, ap length stands.1, length-append (header_bytes h) (drop 48 bytes), header_long h)

-- a header that was read, as one that stands in bytes
read_stands : (s : Spot) (h : Header) (t : Spot) → Spelled header_field s h t → HeaderStands h s.rest
read_stands s h t all =
    let left : drop 48 s.rest ≡ t.rest = ap (λ (n : ℕ). drop n s.rest) (sym (header_long h)) ∙ ap (drop (length (header_bytes h))) all.parts ∙ drop-append_seam (header_bytes h) t.rest in
    (all.fits, all.parts ∙ ap (λ (r : List ℕ). header_bytes h ++ r) (sym left))

-- which fault of a header bytes have
header_short : (s : Spot) (fault : HeaderFault) → NoHeader s fault → length s.rest < 48 → fault ≡ NotWhole s.at
unfolding NoHeader
header_short s fault (inl wrong) few = wrong.1
header_short s fault (inr (x, t, all, none, is)) few = absurd (omega (arith, few, ap length all.parts, length-append (header_numbers.spell x) t.rest, numbers_fixed.long x))

header_bad : (s : Spot) (fault : HeaderFault) → NoHeader s fault → 48 ≤ length s.rest → fault ≡ Wrong s.at
unfolding NoHeader
header_bad s fault (inl wrong) enough = absurd (omega (arith, enough, numbers_fixed.wrong s wrong.0.0 wrong.0.1))
header_bad s fault (inr (x, t, all, none, is)) enough = is

none_read : (s : Spot) (fault : HeaderFault) (r : Result (Header × Spot) HeaderFault) → header_at s ≡ r → IsBytes s.rest → ((h : Header) → HeaderStands h s.rest → ⊥) → ((f : HeaderFault) → NoHeader s f → f ≡ fault) → r ≡ Err fault
none_read s fault (Ok x) e fits none told = absurd (none x.0 (read_stands s x.0 x.1 (header_lawful.takes s x.0 x.1 fits e)))
none_read s fault (Err f) e fits none told = ap (λ z. Err z) (told f (header_lawful.fails s f fits e))

pub header_not_whole : (at : ℕ) (bytes : List ℕ) → IsBytes bytes → length bytes < 48 → header_at (record { at = at; rest = bytes }) ≡ Err (NotWhole at)
header_not_whole at bytes fits few =
    let s : Spot = record { at = at; rest = bytes } in
    none_read s (NotWhole at) (header_at s) refl fits (λ h stands. omega (arith, few, stands_long bytes h stands)) (λ f wrong. header_short s f wrong few)

pub header_wrong : (at : ℕ) (bytes : List ℕ) (fault : ChunkFault) → IsBytes bytes → 48 ≤ length bytes → HeaderWrong bytes fault → header_at (record { at = at; rest = bytes }) ≡ Err (Wrong at)
header_wrong at bytes fault fits enough wrong =
    let s : Spot = record { at = at; rest = bytes } in
    none_read s (Wrong at) (header_at s) refl fits (λ h stands. header_not_wrong fault h (drop 48 bytes) bytes stands.1 wrong) (λ f no. header_bad s f no enough)
