-- The tests of what stands in a chunk decide what they say.
use Rattle.std.proofs.Common.{◌≡◌, ℕ, zero, suc, ◌+◌, ◌^◌, ◌<◌, ◌≤◌, Bool, false, cond, eqb, List, [], ◌∷◌, ◌++◌, length, get_or, take, drop, Option, Some, refl, sym, ap, subst, ◌∙◌, append_assoc, length-append, arith}
use Rattle.std.specs.Prelude.{nat_lt, nat_le}
use Rattle.std.specs.Bool.{Decides}
use Rattle.std.specs.Int.{w64, from_be_bytes}
use Rattle.std.specs.List.{flat_map, list_all, All, AllByRecursion}
use Rattle.std.proofs.lemmas.Bool.Decides.{Decides-and, Decides-like, Decides-eqb, Decides-by_and}
use Rattle.std.proofs.lemmas.List.{append-nil, take_at, drop_at}
use Rattle.std.proofs.lemmas.List.Elements.{recursion_from_All, All-weaker}
use Rattle.frame_wire.specs.Fields.{u64_bytes}
use Rattle.frame_wire.proofs.FieldLaws.{u64_length, u64_back}
use Rattle.chunk_format.specs.declared.entry.Entry.{Entry}
use Rattle.chunk_format.specs.declared.entry.Entry.TheVariants.{Simple, Batch}
use Rattle.chunk_format.specs.Tags.{Tag, IsName, IsTag, IsTagOf, SpellsTags, tag_bytes, named_bytes, DeltaEntry, DeltaSequence, DeltaOffset, IsDelta, delta_bytes, SpellsDelta, SnapshotEntry, SnapshotSequence, SnapshotOffset, IsSnapshot, snapshot_bytes, SpellsSnapshot}
use Rattle.chunk_format.specs.Chunks.{IsEntry, HasRecords, entry_records, IsOneSimple}
use Rattle.chunk_format.specs.LogRows.{first_tag, after_tag}
use Rattle.chunk_format.specs.ByName.{same_name, delta_in}
use Rattle.chunk_format.proofs.NameLaws.{same_decides}
use Rattle.chunk_format.proofs.Codes.{named_number_length}
use Rattle.chunk_format.proofs.RowLaws.{front_tag}
use Rattle.chunk_format.proofs.NamedRead.{named_read}
use Rattle.chunk_format.proofs.DeltaRows.{delta_back}
use Rattle.chunk_search.specs.Finding.{is_entry, has_records, is_name, is_number, is_tag_of, or_no_tag, tags_in, name_of_first, are_tags, is_delta, spells_delta, u64_at, snapshot_in, after_snapshot, snapshots_in, is_snapshot, spells_snapshot, one_simple, is_empty}

pub below_decides : (a b : ℕ) → Decides (nat_lt a b) (a < b)
below_decides a b = (λ e. grind arith, λ h. grind arith)

pub most_decides : (a b : ℕ) → Decides (nat_le a b) (a ≤ b)
most_decides a b = (λ e. grind arith, λ h. grind arith)

pub all_decides : {X : Type 0} (p : X → Bool) (P : X → Type 0) → ((x : X) → Decides (p x) (P x)) → (xs : List X) → Decides (list_all p xs) (All P xs)
all_decides p P each xs = Decides-by_and p P (list_all p) each refl (λ x xs. refl) xs

-- tests of three and of five facts
three : {A B C : Type 0} (r : Bool) → Decides r (A × (B × C)) → Decides r (A × B × C)
three r d = Decides-like r (λ (a, (b, c)). (a, b, c)) (λ (a, b, c). (a, (b, c))) d

five : {A B C D E : Type 0} (r : Bool) → Decides r (A × (B × (C × (D × E)))) → Decides r (A × B × C × D × E)
five r all = Decides-like r (λ (a, (b, (c, (d, e)))). (a, b, c, d, e)) (λ (a, b, c, d, e). (a, (b, (c, (d, e))))) all

pub entry_decides : (x : Entry) → Decides (is_entry x) (IsEntry x)
entry_decides (Simple body) = below_decides (length body) (2 ^ 31)
entry_decides (Batch c s r u body) =
    five (is_entry (Batch c s r u body)) (Decides-and (nat_lt c 8) _ (below_decides c 8) (Decides-and (nat_lt s 16) _ (below_decides s 16) (Decides-and (nat_lt r (2 ^ 16)) _ (below_decides r (2 ^ 16))
    (Decides-and (nat_lt u (2 ^ 32)) _ (below_decides u (2 ^ 32)) (below_decides (length body) (2 ^ 32))))))

pub records_decide : (x : Entry) → Decides (has_records x) (HasRecords x)
records_decide x = most_decides 1 (entry_records x)

name_decides : (name : List ℕ) → Decides (is_name name) (IsName name)
name_decides name = Decides-and (nat_le 1 (length name)) _ (most_decides 1 (length name)) (below_decides (length name) (2 ^ 8))

pub number_decides : (n : ℕ) → Decides (is_number n) (n < 2 ^ 64)
number_decides n = below_decides n (2 ^ 64)

-- ---- tags

tag_decides : (name : List ℕ) (t : Tag) → Decides (is_tag_of name t) (IsTagOf name t)
tag_decides name t = Decides-and (same_name t.name name) _ (same_decides t.name name) (Decides-and (is_name t.name) _ (name_decides t.name) (number_decides t.id))

tags_count : (n : ℕ) (trailer : List ℕ) → length (tags_in n trailer) ≡ n
tags_count zero trailer = refl
tags_count (suc n) trailer = ap suc (tags_count n (after_tag trailer))

-- what is read by places is what is spelled
tags_back : (tags : List Tag) (trailer : List ℕ) → AllByRecursion IsTag tags → trailer ≡ flat_map tag_bytes tags → tags_in (length tags) trailer ≡ tags
tags_back [] trailer each is = refl
tags_back (t ∷ tags) trailer each is =
    let front = front_tag t (flat_map tag_bytes tags) each.0 in
    let first : first_tag trailer ≡ Some t = ap first_tag is ∙ front.0 in
    let after : after_tag trailer ≡ flat_map tag_bytes tags = ap after_tag is ∙ front.1 in
    ap (λ (o : Option Tag). or_no_tag o ∷ tags_in (length tags) (after_tag trailer)) first ∙ ap (λ (ts : List Tag). t ∷ ts) (tags_back tags (after_tag trailer) each.1 after)

named_first : (name : List ℕ) (tags : List Tag) → All (IsTagOf name) tags → 1 ≤ length tags → name_of_first tags ≡ name
named_first name [] each some = absurd (omega arith)
named_first name (t ∷ tags) each some = (recursion_from_All (IsTagOf name) (t ∷ tags) each).0.0

-- so many tags are told
abbrev pub TagsRead : ℕ → List ℕ → List Tag → Type 0
TagsRead n trailer tags = All (IsTagOf (name_of_first tags)) tags × (trailer ≡ flat_map tag_bytes tags)

read_decides : (n : ℕ) (trailer : List ℕ) → Decides (are_tags n trailer) (TagsRead n trailer (tags_in n trailer))
read_decides n trailer =
    let tags = tags_in n trailer in
    Decides-and (list_all (is_tag_of (name_of_first tags)) tags) _ (all_decides (is_tag_of (name_of_first tags)) (IsTagOf (name_of_first tags)) (tag_decides (name_of_first tags)) tags) (same_decides trailer (flat_map tag_bytes tags))

spells_read : (n : ℕ) (trailer : List ℕ) → TagsRead n trailer (tags_in n trailer) → (tags : List Tag) × SpellsTags n trailer tags
spells_read n trailer read =
    let tags = tags_in n trailer in
    (tags, record { right = ((name_of_first tags, read.0), let count = tags_count n trailer in omega arith); whole = tags_count n trailer; spelled = read.1 })

read_spelled : (n : ℕ) (trailer : List ℕ) → 1 ≤ n → ((tags : List Tag) × SpellsTags n trailer tags) → TagsRead n trailer (tags_in n trailer)
read_spelled n trailer some (tags, spells) =
    let name = spells.right.0.0 in
    let each : All IsTag tags = All-weaker (IsTagOf name) IsTag (λ t f. f.1) tags spells.right.0.1 in
    let back : tags_in n trailer ≡ tags = ap (λ (k : ℕ). tags_in k trailer) (sym spells.whole) ∙ tags_back tags trailer (recursion_from_All IsTag tags each) spells.spelled in
    let first : name_of_first tags ≡ name = named_first name tags spells.right.0.1 (let count = spells.whole in omega arith) in
    subst (TagsRead n trailer) (sym back) (subst (λ (m : List ℕ). All (IsTagOf m) tags) (sym first) spells.right.0.1, spells.spelled)

pub tags_decide : (n : ℕ) (trailer : List ℕ) → 1 ≤ n → Decides (are_tags n trailer) ((tags : List Tag) × SpellsTags n trailer tags)
tags_decide n trailer some = Decides-like (are_tags n trailer) (spells_read n trailer) (read_spelled n trailer some) (read_decides n trailer)

-- ---- a delta entry

said_decides : (d : DeltaEntry) → Decides (is_delta d) (IsDelta d)
said_decides (DeltaSequence name id) = Decides-and (is_name name) _ (name_decides name) (number_decides id)
said_decides (DeltaOffset name offset) = Decides-and (is_name name) _ (name_decides name) (number_decides offset)

delta_spelled : (body : List ℕ) → ((d : DeltaEntry) × SpellsDelta body d) → SpellsDelta body (delta_in body)
delta_spelled body (d, spells) = subst (SpellsDelta body) (sym (delta_back body d spells)) spells

pub delta_decides : (body : List ℕ) → Decides (spells_delta body) ((d : DeltaEntry) × SpellsDelta body d)
delta_decides body =
    Decides-like (spells_delta body) (λ spells. (delta_in body, spells)) (delta_spelled body)
    (Decides-and (is_delta (delta_in body)) _ (said_decides (delta_in body)) (same_decides body (delta_bytes (delta_in body))))

-- ---- snapshot entries

listed_decides : (x : SnapshotEntry) → Decides (is_snapshot x) (IsSnapshot x)
listed_decides (SnapshotSequence name first id) =
    three (is_snapshot (SnapshotSequence name first id)) (Decides-and (is_name name) _ (name_decides name) (Decides-and (is_number first) _ (number_decides first) (number_decides id)))
listed_decides (SnapshotOffset name offset) = Decides-and (is_name name) _ (name_decides name) (number_decides offset)

abbrev entry_by : Bool → List ℕ → ℕ → ℕ → SnapshotEntry
entry_by stored name one two = cond stored (SnapshotOffset name one) (SnapshotSequence name one two)

-- an entry stands in front of other bytes
record InFront (bytes : List ℕ) (x : SnapshotEntry) (rest : List ℕ) : Type 0 where
  read : snapshot_in bytes ≡ x
  behind : after_snapshot bytes ≡ rest
  some : 1 ≤ length bytes

sequence_front : (bytes name : List ℕ) (first id : ℕ) (rest : List ℕ) → IsName name → first < 2 ^ 64 → id < 2 ^ 64 → bytes ≡ snapshot_bytes (SnapshotSequence name first id) ++ rest → InFront bytes (SnapshotSequence name first id) rest
sequence_front bytes name first id rest is first_fits id_fits e =
    let head = named_bytes 0 name in
    let more = u64_bytes id ++ rest in
    let flat : bytes ≡ (head ++ u64_bytes first) ++ more =
    e ∙ append_assoc head (u64_bytes first ++ u64_bytes id) rest ∙ ap (λ (l : List ℕ). head ++ l) (append_assoc (u64_bytes first) (u64_bytes id) rest) ∙ sym (append_assoc head (u64_bytes first) more) in
    let read = named_read bytes 0 name first more (omega arith) is first_fits flat in
    let second : u64_at (10 + length name) bytes ≡ id = ap (λ (l : List ℕ). from_be_bytes w64 (take 8 l)) read.rest_is ∙ ap (from_be_bytes w64) (take_at (u64_bytes id) rest 8 (u64_length id)) ∙ u64_back id id_fits in
    let made : ℕ → List ℕ → ℕ → ℕ → SnapshotEntry = λ kind n one two. entry_by (eqb kind 1) n one two in
    let left : bytes ≡ ((head ++ u64_bytes first) ++ u64_bytes id) ++ rest = flat ∙ sym (append_assoc (head ++ u64_bytes first) (u64_bytes id) rest) in
    let long : length ((head ++ u64_bytes first) ++ u64_bytes id) ≡ 18 + length name = omega (arith, length-append (head ++ u64_bytes first) (u64_bytes id), named_number_length 0 name first, u64_length id) in
    let gone : drop (18 + length name) bytes ≡ rest = ap (drop (18 + length name)) left ∙ drop_at ((head ++ u64_bytes first) ++ u64_bytes id) rest (18 + length name) long in
    record {
      read = ap (λ (k : ℕ). made k (take (get_or bytes 1 0) (drop 2 bytes)) (u64_at (2 + get_or bytes 1 0) bytes) (u64_at (10 + get_or bytes 1 0) bytes)) read.kind_is
          ∙ ap (λ (len : ℕ). made 0 (take len (drop 2 bytes)) (u64_at (2 + len) bytes) (u64_at (10 + len) bytes)) read.len_is
          ∙ ap (λ (n : List ℕ). made 0 n (u64_at (2 + length name) bytes) (u64_at (10 + length name) bytes)) read.name_is
          ∙ ap (λ (one : ℕ). made 0 name one (u64_at (10 + length name) bytes)) read.number_is
          ∙ ap (λ (two : ℕ). made 0 name first two) second;
      behind = ap (λ (k : ℕ). cond (eqb k 1) (drop (10 + get_or bytes 1 0) bytes) (drop (18 + get_or bytes 1 0) bytes)) read.kind_is ∙ ap (λ (len : ℕ). drop (18 + len) bytes) read.len_is ∙ gone;
      some = omega (arith, ap length left, length-append ((head ++ u64_bytes first) ++ u64_bytes id) rest, long);
    }

offset_front : (bytes name : List ℕ) (offset : ℕ) (rest : List ℕ) → IsName name → offset < 2 ^ 64 → bytes ≡ snapshot_bytes (SnapshotOffset name offset) ++ rest → InFront bytes (SnapshotOffset name offset) rest
offset_front bytes name offset rest is fits e =
    let read = named_read bytes 1 name offset rest (omega arith) is fits e in
    let made : ℕ → List ℕ → ℕ → ℕ → SnapshotEntry = λ kind n one two. entry_by (eqb kind 1) n one two in
    record {
      read = ap (λ (k : ℕ). made k (take (get_or bytes 1 0) (drop 2 bytes)) (u64_at (2 + get_or bytes 1 0) bytes) (u64_at (10 + get_or bytes 1 0) bytes)) read.kind_is
          ∙ ap (λ (len : ℕ). made 1 (take len (drop 2 bytes)) (u64_at (2 + len) bytes) (u64_at (10 + len) bytes)) read.len_is
          ∙ ap (λ (n : List ℕ). made 1 n (u64_at (2 + length name) bytes) (u64_at (10 + length name) bytes)) read.name_is
          ∙ ap (λ (one : ℕ). made 1 name one (u64_at (10 + length name) bytes)) read.number_is;
      behind = ap (λ (k : ℕ). cond (eqb k 1) (drop (10 + get_or bytes 1 0) bytes) (drop (18 + get_or bytes 1 0) bytes)) read.kind_is ∙ ap (λ (len : ℕ). drop (10 + len) bytes) read.len_is ∙ read.rest_is;
      some = omega (arith, ap length e, length-append (snapshot_bytes (SnapshotOffset name offset)) rest, named_number_length 1 name offset);
    }

front : (x : SnapshotEntry) (bytes rest : List ℕ) → IsSnapshot x → bytes ≡ snapshot_bytes x ++ rest → InFront bytes x rest
front (SnapshotSequence name first id) bytes rest is e = sequence_front bytes name first id rest is.0 is.1 is.2 e
front (SnapshotOffset name offset) bytes rest is e = offset_front bytes name offset rest is.0 is.1 e

some_there : (n : ℕ) → 1 ≤ n → eqb n 0 ≡ false
some_there n some = grind arith

snapshots_none : (n : ℕ) → snapshots_in n [] ≡ []
snapshots_none zero = refl
snapshots_none (suc n) = refl

snapshots_back : (n : ℕ) (xs : List SnapshotEntry) (body : List ℕ) → length xs ≤ n → AllByRecursion IsSnapshot xs → body ≡ flat_map snapshot_bytes xs → snapshots_in n body ≡ xs
snapshots_back n [] body few each is = ap (snapshots_in n) is ∙ snapshots_none n
snapshots_back zero (x ∷ xs) body few each is = absurd (omega arith)
snapshots_back (suc n) (x ∷ xs) body few each is =
    let at = front x body (flat_map snapshot_bytes xs) each.0 is in
    ap (λ (b : Bool). cond b [] (snapshot_in body ∷ snapshots_in n (after_snapshot body))) (some_there (length body) at.some)
    ∙ ap (λ (y : SnapshotEntry). y ∷ snapshots_in n (after_snapshot body)) at.read
    ∙ ap (λ (ys : List SnapshotEntry). x ∷ ys) (snapshots_back n xs (after_snapshot body) (omega arith) each.1 at.behind)

-- there are no more entries than bytes
few_listed : (xs : List SnapshotEntry) (body : List ℕ) → AllByRecursion IsSnapshot xs → body ≡ flat_map snapshot_bytes xs → length xs ≤ length body
few_listed [] body each is = omega arith
few_listed (x ∷ xs) body each is =
    let rest = flat_map snapshot_bytes xs in
    let one : 1 ≤ length (snapshot_bytes x) = (front x (snapshot_bytes x) [] each.0 (sym (append-nil (snapshot_bytes x)))).some in
    omega (arith, ap length is, length-append (snapshot_bytes x) rest, one, few_listed xs rest each.1 refl)

listed : (body : List ℕ) → ((xs : List SnapshotEntry) × SpellsSnapshot body xs) → SpellsSnapshot body (snapshots_in (length body) body)
listed body (xs, spells) =
    let each = recursion_from_All IsSnapshot xs spells.0 in
    subst (SpellsSnapshot body) (sym (snapshots_back (length body) xs body (few_listed xs body each spells.1) each spells.1)) spells

pub snapshot_decides : (body : List ℕ) → Decides (spells_snapshot body) ((xs : List SnapshotEntry) × SpellsSnapshot body xs)
snapshot_decides body =
    let xs = snapshots_in (length body) body in
    Decides-like (spells_snapshot body) (λ spells. (xs, spells)) (listed body)
    (Decides-and (list_all is_snapshot xs) _ (all_decides is_snapshot IsSnapshot listed_decides xs) (same_decides body (flat_map snapshot_bytes xs)))

-- ---- one simple entry

pub one_decides : (test : List ℕ → Bool) (P : List ℕ → Type 0) → ((body : List ℕ) → Decides (test body) (P body)) → (entries : List Entry) → Decides (one_simple test entries) ((body : List ℕ) × IsOneSimple entries body × P body)
one_decides test P each [] = (λ e. absurd (cc e), λ (body, is, p). absurd (cc is))
one_decides test P each (Simple body ∷ []) = (
  λ e. (body, refl, (each body).0 e),
  λ (other, is, p). let same : other ≡ body = cc in (each body).1 (subst P same p),
)
one_decides test P each (Simple body ∷ next ∷ more) = (λ e. absurd (cc e), λ (other, is, p). absurd (cc is))
one_decides test P each (Batch c s r u body ∷ more) = (λ e. absurd (cc e), λ (other, is, p). absurd (cc is))

none_left : (bytes : List ℕ) → length bytes ≡ 0 → bytes ≡ []
none_left [] e = refl
none_left (b ∷ bytes) e = absurd (omega (arith, e))

pub empty_decides : (bytes : List ℕ) → Decides (is_empty bytes) (bytes ≡ [])
empty_decides bytes = Decides-like (is_empty bytes) (none_left bytes) (λ e. ap length e) (Decides-eqb (length bytes) 0)
