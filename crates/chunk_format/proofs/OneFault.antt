-- The bytes fix the first check that fails, and its place.
use Rattle.std.proofs.Common.{◌≡◌, ◌≢◌, ℕ, ◌+◌, ◌/◌, ◌%◌, ◌⊎◌, false, cond, ltb, eqb, List, [], ◌∷◌, ◌++◌, length, get_or, drop, refl, sym, ap, subst, ◌∙◌, append_assoc, arith, inl, inr}
use Rattle.std.specs.List.{flat_map, All}
use Rattle.std.proofs.lemmas.Bool.{lt-ltb, le-ltb, eq-eqb, ne_eqb}
use Rattle.std.proofs.lemmas.List.{append-nil}
use Rattle.std.proofs.lemmas.List.Elements.{All-head, All-tail}
use Rattle.chunk_format.specs.declared.entry.Entry.{Entry}
use Rattle.chunk_format.specs.declared.entry.Entry.TheVariants.{Simple}
use Rattle.chunk_format.specs.declared.chunk.ChunkKind.{ChunkKind}
use Rattle.chunk_format.specs.declared.chunk.ChunkKind.TheVariants.{User, Delta, Snapshot}
use Rattle.chunk_format.specs.declared.chunk.Header.{Header}
use Rattle.chunk_format.specs.declared.fault.ChunkFault.{ChunkFault}
use Rattle.chunk_format.specs.declared.fault.ChunkFault.TheVariants.{Short, Magic, Version, Kind, Reserved, Count, Crc, Trailer, Tracking}
use Rattle.chunk_format.specs.Items.{FirstWrong, NoneAtFront}
use Rattle.chunk_format.specs.Tags as tags
use Rattle.chunk_format.specs.Chunks.{entry_bytes, records_of, IsOneSimple}
use Rattle.chunk_format.specs.Faults.{HeaderWrong, payload_of, trailer_of, IsChunkEntry, AreEntries, SpellsEntries, WrongEntry, Counted, CountWrong, LongPayload, NoEntries, EntryWrong, SumWrong, LastWrong, TrailerRight, TrailerWrong, TrackingWrong, PartsWrong, BodyWrong, ChunkWrong}
use Rattle.chunk_format.proofs.ItemLaws.{IsCode, IsClosed, not_wrong, same_items}
use Rattle.chunk_format.proofs.Codes.{tag_code, delta_code, snapshot_code}
use Rattle.chunk_format.proofs.Gone.{limited_closed, tags_closed, snapshot_closed, tags_not_wrong}
use Rattle.chunk_format.proofs.EntryLaws.{chunk_entry_code}
use Rattle.chunk_format.proofs.HeaderLaws.{header_same}
use Rattle.chunk_format.proofs.ChunkOnly.{header_not_wrong}

-- ---- the first wrong item

record Fronts {A : Type 0} (spell : A → List ℕ) (xs ys : List A) (a b : List ℕ) : Type 0 where
  back : List A
  longer : ys ≡ xs ++ back
  left : a ≡ flat_map spell back ++ b

two_fronts : {A : Type 0} (spell : A → List ℕ) (Right : A → Type 0) → IsCode spell Right → (xs ys : List A) (a b : List ℕ) → All Right xs → All Right ys → flat_map spell xs ++ a ≡ flat_map spell ys ++ b
    → Fronts spell xs ys a b ⊎ Fronts spell ys xs b a
two_fronts spell Right code [] ys a b p q e = inl (record { back = ys; longer = refl; left = e })
two_fronts spell Right code (x ∷ xs) [] a b p q e = inr (record { back = x ∷ xs; longer = refl; left = sym e })
two_fronts {A} spell Right code (x ∷ xs) (y ∷ ys) a b p q e =
    let same = code.one x y (flat_map spell xs ++ a) (flat_map spell ys ++ b) (All-head Right x xs p) (All-head Right y ys q) (sym (append_assoc (spell x) (flat_map spell xs) a) ∙ e ∙ append_assoc (spell y) (flat_map spell ys) b) in
    elim (two_fronts spell Right code xs ys a b (All-tail Right x xs p) (All-tail Right y ys q) same.1) [
      | inl f ↦ inl (record { back = f.back; longer = ap (λ z. z ∷ ys) (sym same.0) ∙ ap (λ zs. x ∷ zs) f.longer; left = f.left })
      | inr f ↦ inr (record { back = f.back; longer = ap (λ z. z ∷ xs) same.0 ∙ ap (λ zs. y ∷ zs) f.longer; left = f.left })
    ]

none_longer : {A : Type 0} (spell : A → List ℕ) (Rights : List A → Type 0) → ((xs ys : List A) → Rights (xs ++ ys) → Rights xs) → (xs back : List A) (a b : List ℕ) → NoneAtFront spell (λ x. Rights (xs ++ x ∷ [])) a
    → Rights (xs ++ back) → a ≡ flat_map spell back ++ b → back ≡ []
none_longer spell Rights closed xs [] a b none right left = refl
none_longer spell Rights closed xs (z ∷ back) a b none right left =
    absurd (none z (flat_map spell back ++ b) (closed (xs ++ z ∷ []) back (subst Rights (sym (append_assoc xs (z ∷ []) back)) right)) (left ∙ append_assoc (spell z) (flat_map spell back) b))

same_place : {A : Type 0} (spell : A → List ℕ) (xs ys back : List A) → ys ≡ xs ++ back → back ≡ [] → length (flat_map spell xs) ≡ length (flat_map spell ys)
same_place spell xs ys back longer none = ap (λ zs. length (flat_map spell zs)) (sym (longer ∙ ap (λ b. xs ++ b) none ∙ append-nil xs))

wrong_place : {A : Type 0} (spell : A → List ℕ) (Right : A → Type 0) (Rights Whole : List A → Type 0) → IsCode spell Right → IsClosed Right Rights → (bytes : List ℕ) (x y : ℕ)
    → FirstWrong spell Rights Whole bytes x → FirstWrong spell Rights Whole bytes y → x ≡ y
wrong_place spell Right Rights Whole code closed bytes x y p q =
    elim (two_fronts spell Right code p.front q.front p.left q.left (closed.each p.front p.right) (closed.each q.front q.right) (sym p.parts ∙ q.parts)) [
      | inl f ↦ p.behind ∙ same_place spell p.front q.front f.back f.longer (none_longer spell Rights closed.front p.front f.back p.left q.left p.none (subst Rights f.longer q.right) f.left) ∙ sym q.behind
      | inr f ↦ p.behind ∙ sym (same_place spell q.front p.front f.back f.longer (none_longer spell Rights closed.front q.front f.back q.left p.left q.none (subst Rights f.longer p.right) f.left)) ∙ sym q.behind
    ]

-- ---- the counts

same_entries : (n : ℕ) (payload : List ℕ) (xs ys : List Entry) → SpellsEntries n payload xs → SpellsEntries n payload ys → xs ≡ ys
same_entries n payload xs ys p q = same_items entry_bytes IsChunkEntry (AreEntries n) (tags.Count n) chunk_entry_code (limited_closed IsChunkEntry n) payload xs ys p q

entry_not_wrong : (n : ℕ) (payload : List ℕ) (entries : List Entry) (place : ℕ) → SpellsEntries n payload entries → WrongEntry n payload place → ⊥
entry_not_wrong n payload entries place are wrong = not_wrong entry_bytes IsChunkEntry (AreEntries n) (tags.Count n) chunk_entry_code (limited_closed IsChunkEntry n) payload entries place are wrong

one_entry_place : (n : ℕ) (payload : List ℕ) (x y : ℕ) → WrongEntry n payload x → WrongEntry n payload y → x ≡ y
one_entry_place n payload x y p q = wrong_place entry_bytes IsChunkEntry (AreEntries n) (tags.Count n) chunk_entry_code (limited_closed IsChunkEntry n) payload x y p q

count_place : (h : Header) (payload : List ℕ) (x y : ℕ) → CountWrong h payload x → CountWrong h payload y → x ≡ y
count_place h payload x y (LongPayload a1 b1) (LongPayload a2 b2) = b1 ∙ sym b2
count_place h payload x y (LongPayload a1 b1) (NoEntries a2 b2 c2) = absurd (omega arith)
count_place h payload x y (LongPayload a1 b1) (EntryWrong a2 i2 w2 b2) = absurd (omega (arith, a2.0))
count_place h payload x y (LongPayload a1 b1) (SumWrong a2 es2 r2 d2 b2) = absurd (omega (arith, a2.0))
count_place h payload x y (LongPayload a1 b1) (LastWrong a2 es2 r2 s2 d2 b2) = absurd (omega (arith, a2.0))
count_place h payload x y (NoEntries a1 b1 c1) (LongPayload a2 b2) = absurd (omega arith)
count_place h payload x y (NoEntries a1 b1 c1) (NoEntries a2 b2 c2) = c1 ∙ sym c2
count_place h payload x y (NoEntries a1 b1 c1) (EntryWrong a2 i2 w2 b2) = absurd (omega (arith, a2.1))
count_place h payload x y (NoEntries a1 b1 c1) (SumWrong a2 es2 r2 d2 b2) = absurd (omega (arith, a2.1))
count_place h payload x y (NoEntries a1 b1 c1) (LastWrong a2 es2 r2 s2 d2 b2) = absurd (omega (arith, a2.1))
count_place h payload x y (EntryWrong a1 i1 w1 b1) (LongPayload a2 b2) = absurd (omega (arith, a1.0))
count_place h payload x y (EntryWrong a1 i1 w1 b1) (NoEntries a2 b2 c2) = absurd (omega (arith, a1.1))
count_place h payload x y (EntryWrong a1 i1 w1 b1) (EntryWrong a2 i2 w2 b2) = b1 ∙ ap (λ (n : ℕ). 48 + n) (one_entry_place h.entries payload i1 i2 w1 w2) ∙ sym b2
count_place h payload x y (EntryWrong a1 i1 w1 b1) (SumWrong a2 es2 r2 d2 b2) = absurd (entry_not_wrong h.entries payload es2 i1 r2 w1)
count_place h payload x y (EntryWrong a1 i1 w1 b1) (LastWrong a2 es2 r2 s2 d2 b2) = absurd (entry_not_wrong h.entries payload es2 i1 r2 w1)
count_place h payload x y (SumWrong a1 es1 r1 d1 b1) (LongPayload a2 b2) = absurd (omega (arith, a1.0))
count_place h payload x y (SumWrong a1 es1 r1 d1 b1) (NoEntries a2 b2 c2) = absurd (omega (arith, a1.1))
count_place h payload x y (SumWrong a1 es1 r1 d1 b1) (EntryWrong a2 i2 w2 b2) = absurd (entry_not_wrong h.entries payload es1 i2 r1 w2)
count_place h payload x y (SumWrong a1 es1 r1 d1 b1) (SumWrong a2 es2 r2 d2 b2) = b1 ∙ sym b2
count_place h payload x y (SumWrong a1 es1 r1 d1 b1) (LastWrong a2 es2 r2 s2 d2 b2) = absurd (d1 (ap records_of (same_entries h.entries payload es1 es2 r1 r2) ∙ s2))
count_place h payload x y (LastWrong a1 es1 r1 s1 d1 b1) (LongPayload a2 b2) = absurd (omega (arith, a1.0))
count_place h payload x y (LastWrong a1 es1 r1 s1 d1 b1) (NoEntries a2 b2 c2) = absurd (omega (arith, a1.1))
count_place h payload x y (LastWrong a1 es1 r1 s1 d1 b1) (EntryWrong a2 i2 w2 b2) = absurd (entry_not_wrong h.entries payload es1 i2 r1 w2)
count_place h payload x y (LastWrong a1 es1 r1 s1 d1 b1) (SumWrong a2 es2 r2 d2 b2) = absurd (d2 (ap records_of (same_entries h.entries payload es2 es1 r2 r1) ∙ s1))
count_place h payload x y (LastWrong a1 es1 r1 s1 d1 b1) (LastWrong a2 es2 r2 s2 d2 b2) = b1 ∙ sym b2

count_not_wrong : (h : Header) (payload : List ℕ) (x : ℕ) → CountWrong h payload x → (entries : List Entry) → Counted h payload entries → ⊥
count_not_wrong h payload x (LongPayload a b) entries counted = omega (arith, counted.sized.0)
count_not_wrong h payload x (NoEntries a b c) entries counted = omega (arith, counted.sized.1)
count_not_wrong h payload x (EntryWrong a i w b) entries counted = entry_not_wrong h.entries payload entries i counted.are w
count_not_wrong h payload x (SumWrong a es r d b) entries counted = d (ap records_of (same_entries h.entries payload es entries r counted.are) ∙ counted.sum)
count_not_wrong h payload x (LastWrong a es r s d b) entries counted = omega (arith, counted.last)

-- ---- the trailer and the tracking entries

trailer_not_wrong : (kind : ChunkKind) (n : ℕ) (trailer : List ℕ) (at : ℕ) → TrailerWrong kind n trailer at → TrailerRight kind n trailer → ⊥
trailer_not_wrong User n trailer at wrong (inl none) = wrong.0 none
trailer_not_wrong User n trailer at wrong (inr spelled) = tags_not_wrong n trailer spelled.0 at spelled.1 wrong.1
trailer_not_wrong Delta n trailer at wrong right = wrong.0 right
trailer_not_wrong Snapshot n trailer at wrong right = wrong.0 right

trailer_place : (kind : ChunkKind) (n : ℕ) (trailer : List ℕ) (x y : ℕ) → TrailerWrong kind n trailer x → TrailerWrong kind n trailer y → x ≡ y
trailer_place User n trailer x y p q = wrong_place tags.tag_bytes tags.IsTag (tags.AreTags n) (tags.Count n) tag_code (tags_closed n) trailer x y p.1 q.1
trailer_place Delta n trailer x y p q = p.1 ∙ sym q.1
trailer_place Snapshot n trailer x y p q = p.1 ∙ sym q.1

same_body : (entries : List Entry) (x y : List ℕ) → IsOneSimple entries x → IsOneSimple entries y → x ≡ y
same_body entries x y p q = let e : Simple x ∷ [] ≡ Simple y ∷ [] = sym p ∙ q in cc

tracking_place : (kind : ChunkKind) (entries : List Entry) (x y : ℕ) → TrackingWrong kind entries x → TrackingWrong kind entries y → x ≡ y
tracking_place User entries x y p q = absurd p
tracking_place Delta entries x y (inl p) (inl q) = p.1 ∙ sym q.1
tracking_place Delta entries x y (inl p) (inr q) = absurd (p.0 q.0 q.2)
tracking_place Delta entries x y (inr p) (inl q) = absurd (q.0 p.0 p.2)
tracking_place Delta entries x y (inr p) (inr q) =
    let wrong = subst (λ (l : List ℕ). tags.WrongDelta l q.1) (same_body entries q.0 p.0 q.2 p.2) q.3 in
    p.4 ∙ ap (λ (n : ℕ). 52 + n) (wrong_place tags.delta_bytes tags.IsDelta tags.AreDeltas (tags.Count 1) delta_code (limited_closed tags.IsDelta 1) p.0 p.1 q.1 p.3 wrong) ∙ sym q.4
tracking_place Snapshot entries x y (inl p) (inl q) = p.1 ∙ sym q.1
tracking_place Snapshot entries x y (inl p) (inr q) = absurd (p.0 q.0 q.2)
tracking_place Snapshot entries x y (inr p) (inl q) = absurd (q.0 p.0 p.2)
tracking_place Snapshot entries x y (inr p) (inr q) =
    let wrong = subst (λ (l : List ℕ). tags.WrongSnapshot l q.1) (same_body entries q.0 p.0 q.2 p.2) q.3 in
    p.4 ∙ ap (λ (n : ℕ). 52 + n) (wrong_place tags.snapshot_bytes tags.IsSnapshot (All tags.IsSnapshot) tags.AnyCount snapshot_code snapshot_closed p.0 p.1 q.1 p.3 wrong) ∙ sym q.4

-- ---- all checks

same_crc : (x y s t c d : ℕ) → x ≡ y → s ≡ t → c ≡ d → Crc x s c ≡ Crc y t d
same_crc x y s t c d p q r = cc

one_parts : (h : Header) (payload trailer : List ℕ) (f g : ChunkFault) → PartsWrong h payload trailer f → PartsWrong h payload trailer g → f ≡ g
one_parts h payload trailer (Short x) g p q = absurd p
one_parts h payload trailer (Magic x) g p q = absurd p
one_parts h payload trailer (Version x) g p q = absurd p
one_parts h payload trailer (Kind x) g p q = absurd p
one_parts h payload trailer (Reserved x) g p q = absurd p
one_parts h payload trailer (Count x) (Short y) p q = absurd q
one_parts h payload trailer (Count x) (Magic y) p q = absurd q
one_parts h payload trailer (Count x) (Version y) p q = absurd q
one_parts h payload trailer (Count x) (Kind y) p q = absurd q
one_parts h payload trailer (Count x) (Reserved y) p q = absurd q
one_parts h payload trailer (Count x) (Count y) p q = ap (λ (n : ℕ). Count n) (count_place h payload x y p q)
one_parts h payload trailer (Count x) (Crc y s2 c2) p q = absurd (count_not_wrong h payload x p q.0.0 q.0.1)
one_parts h payload trailer (Count x) (Trailer y) p q = absurd (count_not_wrong h payload x p q.0 q.2.0)
one_parts h payload trailer (Count x) (Tracking y) p q = absurd (count_not_wrong h payload x p q.0 q.1.0)
one_parts h payload trailer (Crc x s1 c1) (Short y) p q = absurd q
one_parts h payload trailer (Crc x s1 c1) (Magic y) p q = absurd q
one_parts h payload trailer (Crc x s1 c1) (Version y) p q = absurd q
one_parts h payload trailer (Crc x s1 c1) (Kind y) p q = absurd q
one_parts h payload trailer (Crc x s1 c1) (Reserved y) p q = absurd q
one_parts h payload trailer (Crc x s1 c1) (Count y) p q = absurd (count_not_wrong h payload y q p.0.0 p.0.1)
one_parts h payload trailer (Crc x s1 c1) (Crc y s2 c2) p q = same_crc x y s1 s2 c1 c2 (p.4 ∙ sym q.4) (p.1 ∙ sym q.1) (p.2 ∙ sym q.2)
one_parts h payload trailer (Crc x s1 c1) (Trailer y) p q = absurd (p.3 (p.1 ∙ sym q.2.1 ∙ sym p.2))
one_parts h payload trailer (Crc x s1 c1) (Tracking y) p q = absurd (p.3 (p.1 ∙ sym q.1.1 ∙ sym p.2))
one_parts h payload trailer (Trailer x) (Short y) p q = absurd q
one_parts h payload trailer (Trailer x) (Magic y) p q = absurd q
one_parts h payload trailer (Trailer x) (Version y) p q = absurd q
one_parts h payload trailer (Trailer x) (Kind y) p q = absurd q
one_parts h payload trailer (Trailer x) (Reserved y) p q = absurd q
one_parts h payload trailer (Trailer x) (Count y) p q = absurd (count_not_wrong h payload y q p.0 p.2.0)
one_parts h payload trailer (Trailer x) (Crc y s2 c2) p q = absurd (q.3 (q.1 ∙ sym p.2.1 ∙ sym q.2))
one_parts h payload trailer (Trailer x) (Trailer y) p q = ap (λ (n : ℕ). Trailer n) (p.4 ∙ ap (λ (n : ℕ). 48 + h.payload_len + n) (trailer_place h.kind h.entries trailer p.1 q.1 p.3 q.3) ∙ sym q.4)
one_parts h payload trailer (Trailer x) (Tracking y) p q = absurd (trailer_not_wrong h.kind h.entries trailer p.1 p.3 q.2)
one_parts h payload trailer (Tracking x) (Short y) p q = absurd q
one_parts h payload trailer (Tracking x) (Magic y) p q = absurd q
one_parts h payload trailer (Tracking x) (Version y) p q = absurd q
one_parts h payload trailer (Tracking x) (Kind y) p q = absurd q
one_parts h payload trailer (Tracking x) (Reserved y) p q = absurd q
one_parts h payload trailer (Tracking x) (Count y) p q = absurd (count_not_wrong h payload y q p.0 p.1.0)
one_parts h payload trailer (Tracking x) (Crc y s2 c2) p q = absurd (q.3 (q.1 ∙ sym p.1.1 ∙ sym q.2))
one_parts h payload trailer (Tracking x) (Trailer y) p q = absurd (trailer_not_wrong h.kind h.entries trailer q.1 q.3 p.2)
one_parts h payload trailer (Tracking x) (Tracking y) p q = ap (λ (n : ℕ). Tracking n) (tracking_place h.kind p.0 x y p.3 (subst (λ (es : List Entry). TrackingWrong h.kind es y) (same_entries h.entries payload q.0 p.0 q.1.0.are p.1.0.are) q.3))

-- what is wrong in a header, by its tests
header_fault : List ℕ → ChunkFault
header_fault b = cond (ltb (length b) 48) (Short (length b)) (cond (eqb (get_or b 0 0 / 16) 5) (cond (eqb (get_or b 0 0 % 16) 0) (cond (ltb (get_or b 1 0) 3) (Reserved 44) (Kind 1)) (Version 0)) (Magic 0))

not_same : (n m : ℕ) → n ≢ m → eqb n m ≡ false
not_same n m differ = ne_eqb n m differ

header_fault_is : (f : ChunkFault) (b : List ℕ) → HeaderWrong b f → f ≡ header_fault b
unfolding header_fault
header_fault_is (Short x) b w = rw (lt-ltb (length b) 48 w.0) (ap (λ (n : ℕ). Short n) w.1)
header_fault_is (Magic x) b w = rw (le-ltb (length b) 48 w.0, not_same (get_or b 0 0 / 16) 5 w.1) (ap (λ (n : ℕ). Magic n) w.2)
header_fault_is (Version x) b w = rw (le-ltb (length b) 48 w.0, eq-eqb (get_or b 0 0 / 16) 5 w.1, not_same (get_or b 0 0 % 16) 0 w.2) (ap (λ (n : ℕ). Version n) w.3)
header_fault_is (Kind x) b w =
    let high : get_or b 0 0 / 16 ≡ 5 = let first = w.1 in omega arith in
    let low : get_or b 0 0 % 16 ≡ 0 = let first = w.1 in omega arith in
    rw (le-ltb (length b) 48 w.0, eq-eqb (get_or b 0 0 / 16) 5 high, eq-eqb (get_or b 0 0 % 16) 0 low, le-ltb (get_or b 1 0) 3 w.2) (ap (λ (n : ℕ). Kind n) w.3)
header_fault_is (Reserved x) b w =
    let high : get_or b 0 0 / 16 ≡ 5 = let first = w.0.1 in omega arith in
    let low : get_or b 0 0 % 16 ≡ 0 = let first = w.0.1 in omega arith in
    rw (le-ltb (length b) 48 w.0.0, eq-eqb (get_or b 0 0 / 16) 5 high, eq-eqb (get_or b 0 0 % 16) 0 low, lt-ltb (get_or b 1 0) 3 w.0.2) (ap (λ (n : ℕ). Reserved n) w.2)
header_fault_is (Count x) b w = absurd w
header_fault_is (Crc x s c) b w = absurd w
header_fault_is (Trailer x) b w = absurd w
header_fault_is (Tracking x) b w = absurd w

one_body : (h : Header) (bytes : List ℕ) (f g : ChunkFault) → BodyWrong h bytes f → BodyWrong h bytes g → f ≡ g
one_body h bytes f g (inl p) (inl q) = p.1 ∙ sym q.1
one_body h bytes f g (inl p) (inr q) = absurd (omega (arith, p.0, q.0))
one_body h bytes f g (inr p) (inl q) = absurd (omega (arith, p.0, q.0))
one_body h bytes f g (inr p) (inr q) = one_parts h (payload_of h bytes) (trailer_of h bytes) f g p.1 q.1

-- two faults of the same bytes are one
pub one_fault : (bytes : List ℕ) (f g : ChunkFault) → ChunkWrong bytes f → ChunkWrong bytes g → f ≡ g
one_fault bytes f g (inl p) (inl q) = header_fault_is f bytes p ∙ sym (header_fault_is g bytes q)
one_fault bytes f g (inl p) (inr q) = absurd (header_not_wrong f q.0 (drop 48 bytes) bytes q.1.1 p)
one_fault bytes f g (inr p) (inl q) = absurd (header_not_wrong g p.0 (drop 48 bytes) bytes p.1.1 q)
one_fault bytes f g (inr p) (inr q) =
    let same = header_same p.0 q.0 (drop 48 bytes) (drop 48 bytes) p.1.0 q.1.0 (sym p.1.1 ∙ q.1.1) in
    one_body q.0 bytes f g (subst (λ (h : Header). BodyWrong h bytes f) same.0 p.2) q.2
