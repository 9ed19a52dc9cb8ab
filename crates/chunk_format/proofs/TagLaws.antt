-- Tags beside delta entries, and how long a trailer is.
use Rattle.std.proofs.Common.{◌≡◌, ℕ, ◌*◌, ◌^◌, ◌<◌, ◌≤◌, ◌⊎◌, ◌↔◌, Bool, true, false, not, is_some, List, [], ◌∷◌, ◌++◌, length, drop, Option, Some, None, MatchOption, IsTrue, refl, sym, ap, subst, ◌∙◌, arith, inl, inr}
use Rattle.std.specs.List.{sum_by, All}
use Rattle.std.proofs.lemmas.List.Concat.{length-flat_map}
use Rattle.std.proofs.lemmas.List.Sums.{sum_by-le}
use Rattle.chunk_format.specs.declared.entry.Entry.{Entry}
use Rattle.chunk_format.specs.declared.entry.Entry.TheVariants.{Simple}
use Rattle.chunk_format.specs.declared.chunk.ChunkKind.{ChunkKind}
use Rattle.chunk_format.specs.declared.chunk.ChunkKind.TheVariants.{User, Delta, Snapshot}
use Rattle.chunk_format.specs.declared.chunk.Chunk.{Chunk}
use Rattle.chunk_format.specs.Items.{NoneAtFront}
use Rattle.chunk_format.specs.Tags.{Tag, tag_bytes, IsTag, SpellsTags, WrongTag, DeltaEntry, DeltaSequence, DeltaOffset, delta_bytes, IsDelta, SpellsDelta, WrongDelta, SnapshotEntry, SpellsSnapshot, WrongSnapshot}
use Rattle.chunk_format.specs.Chunks.{IsOneSimple, HoldsByKind, IsChunk}
use Rattle.chunk_format.proofs.Codes.{delta_code, named_number_length}
use Rattle.chunk_format.proofs.Gone.{delta_not_wrong, snapshot_not_wrong, tags_not_wrong}

pub offset_no_tag : (bytes name : List ℕ) (offset len : ℕ) → IsDelta (DeltaOffset name offset) → bytes ≡ delta_bytes (DeltaOffset name offset) ++ drop len bytes → NoneAtFront tag_bytes IsTag bytes
offset_no_tag bytes name offset len right stands x more f e =
    let same = delta_code.one (DeltaOffset name offset) (DeltaSequence x.name x.id) (drop len bytes) more right f (sym stands ∙ e) in
    let differ : DeltaOffset name offset ≡ DeltaSequence x.name x.id = same.0 in
    absurd cc

pub no_delta_no_tag : (bytes : List ℕ) → NoneAtFront delta_bytes IsDelta bytes → NoneAtFront tag_bytes IsTag bytes
no_delta_no_tag bytes none x more f e = none (DeltaSequence x.name x.id) more f e

-- ---- the length of a trailer

short_tag : (tag : Tag) → IsTag tag → length (tag_bytes tag) ≤ 265
short_tag tag f = let name = f.0 in omega (arith, name.1, named_number_length 0 tag.name tag.id)

tags_length : (n : ℕ) (trailer : List ℕ) (tags : List Tag) → SpellsTags n trailer tags → length trailer ≤ n * 265
tags_length n trailer tags spells =
    let each : All (λ (tag : Tag). length (tag_bytes tag) ≤ 265) tags = λ k d lt. short_tag _ (spells.right.0.1 k d lt).1 in
    let most = sum_by-le (λ (tag : Tag). length (tag_bytes tag)) 265 tags each in
    let count : length tags ≡ n = spells.whole in
    let sum : sum_by (λ (tag : Tag). length (tag_bytes tag)) tags ≤ n * 265 = subst (λ (m : ℕ). sum_by (λ (tag : Tag). length (tag_bytes tag)) tags ≤ m * 265) count most in
    omega (arith, ap length spells.spelled, length-flat_map tag_bytes tags, sum)

trailer_by_kind : (kind : ChunkKind) (entries : List Entry) (trailer : List ℕ) → length entries < 2 ^ 16 → HoldsByKind kind entries trailer → length trailer < 2 ^ 32
trailer_by_kind User entries trailer few (inl none) = omega (arith, ap length none)
trailer_by_kind User entries trailer few (inr tags) = omega (arith, tags_length (length entries) trailer tags.0 tags.1)
trailer_by_kind Delta entries trailer few holds = omega (arith, ap length holds.0)
trailer_by_kind Snapshot entries trailer few holds = omega (arith, ap length holds.0)

pub trailer_fits : (c : Chunk) → IsChunk c → length c.trailer < 2 ^ 32
trailer_fits c is = trailer_by_kind c.kind c.entries c.trailer is.few is.content

-- ---- what the one simple entry holds

same_body : (entries : List Entry) (x y : List ℕ) → IsOneSimple entries x → IsOneSimple entries y → x ≡ y
same_body entries x y p q = let e : Simple x ∷ [] ≡ Simple y ∷ [] = sym p ∙ q in cc

no_tags : (n : ℕ) (trailer : List ℕ) (place : ℕ) → 0 < length trailer → WrongTag n trailer place → (trailer ≡ []) ⊎ ((tags : List Tag) × SpellsTags n trailer tags) → ⊥
no_tags n trailer place some wrong (inl none) = omega (arith, ap length none)
no_tags n trailer place some wrong (inr tags) = tags_not_wrong n trailer tags.0 place tags.1 wrong

not_false : (b : Bool) → false ≡ not b → b ≡ true
not_false true e = refl
not_false false e = absurd cc

not_true : (b : Bool) → true ≡ not b → b ≡ true → ⊥
not_true true e t = let both : true ≡ false = e in absurd cc
not_true false e t = absurd cc

pub decides_delta : (entries : List Entry) (body : List ℕ) (r : Option ℕ) (b : Bool) → IsOneSimple entries body → MatchOption r ((delta : DeltaEntry) × SpellsDelta body delta) (WrongDelta body) → is_some r ≡ not b
    → IsTrue b ↔ ((x : List ℕ) × (delta : DeltaEntry) × IsOneSimple entries x × SpellsDelta x delta)
decides_delta entries body None b one found is = (λ _. (body, found.0, one, found.1), λ _. not_false b is)
decides_delta entries body (Some place) b one wrong is =
    (λ t. absurd (not_true b is t), λ h. absurd (delta_not_wrong body h.1 place (subst (λ (x : List ℕ). SpellsDelta x h.1) (same_body entries h.0 body h.2 one) h.3) wrong))

pub decides_snapshot : (entries : List Entry) (body : List ℕ) (r : Option ℕ) (b : Bool) → IsOneSimple entries body → MatchOption r ((snapshot : List SnapshotEntry) × SpellsSnapshot body snapshot) (WrongSnapshot body) → is_some r ≡ not b
    → IsTrue b ↔ ((x : List ℕ) × (snapshot : List SnapshotEntry) × IsOneSimple entries x × SpellsSnapshot x snapshot)
decides_snapshot entries body None b one found is = (λ _. (body, found.0, one, found.1), λ _. not_false b is)
decides_snapshot entries body (Some place) b one wrong is =
    (λ t. absurd (not_true b is t), λ h. absurd (snapshot_not_wrong body h.1 place (subst (λ (x : List ℕ). SpellsSnapshot x h.1) (same_body entries h.0 body h.2 one) h.3) wrong))

-- a trailer that isn't empty
pub decides_tags : (n : ℕ) (trailer : List ℕ) (r : Option ℕ) (b : Bool) → 0 < length trailer → MatchOption r ((tags : List Tag) × SpellsTags n trailer tags) (WrongTag n trailer) → is_some r ≡ not b
    → IsTrue b ↔ ((trailer ≡ []) ⊎ ((tags : List Tag) × SpellsTags n trailer tags))
decides_tags n trailer None b some found is = (λ _. inr found, λ _. not_false b is)
decides_tags n trailer (Some place) b some wrong is = (λ t. absurd (not_true b is t), λ h. absurd (no_tags n trailer place some wrong h))

pub none_false : (b : Bool) (P : Type 0) → (IsTrue b ↔ P) → b ≡ false → P → ⊥
none_false b P decides f p = let both : true ≡ false = sym (decides.1 p) ∙ f in absurd cc
