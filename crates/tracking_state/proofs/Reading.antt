-- Tags and delta entries that are read off the front of bytes.
use Rattle.std.proofs.Common.{◌≡◌, ℕ, ◌+◌, ◌-◌, ◌<◌, ◌≤◌, ◌^◌, max, List, [], ◌∷◌, ◌++◌, map, length, take, drop, Option, Some, None, unwrap_or, inl, inr, refl, sym, ap, subst, ◌∙◌, arith, length-append}
use Rattle.std.specs.List.{flat_map, fold, reduce, All, AllByRecursion}
use Rattle.std.proofs.lemmas.List.Sums.{fold-append}
use Rattle.std.proofs.lemmas.List.{append-nil, map-append, take_rest, length-drop}
use Rattle.std.proofs.lemmas.List.Elements.{All-weaker, All-tail}
use Rattle.chunk_format.specs.Items.{NoneAtFront}
use Rattle.chunk_format.proofs.SnapshotLaws.{greatest_fits}
use Rattle.tracking_state.specs.Tracked.{Tracked}
use Rattle.tracking_state.specs.Notes.{noted}
use Rattle.chunk_format.specs.Tags.{IsName, Tag, tag_bytes, IsTag, IsTagOf, SpellsTags, DeltaEntry, DeltaSequence, DeltaOffset, delta_bytes, IsDelta, SpellsDelta, SnapshotEntry, SnapshotSequence, SnapshotOffset, snapshot_bytes, IsSnapshot, SpellsSnapshot}
use Rattle.chunk_format.specs.Parts.{snapshot_of}
use Rattle.chunk_format.specs.declared.tracking.SnapshotParts.{SnapshotParts}
use Rattle.chunk_format.specs.declared.tracking.TagParts.{TagParts}
use Rattle.chunk_format.specs.declared.chunk.ChunkKind.{ChunkKind}
use Rattle.chunk_format.specs.declared.chunk.ChunkKind.TheVariants.{User}
use Rattle.chunk_format.specs.declared.chunk.Chunk.{Chunk}
use Rattle.chunk_format.specs.Chunks.{HoldsByKind, IsChunk}
use Rattle.chunk_format.specs.ByName.{greater}
use Rattle.chunk_format.proofs.ItemLaws.{IsCode, one_list, behind_front}
use Rattle.chunk_format.proofs.Codes.{tag_code, delta_code, snapshot_code}
use Rattle.chunk_format.proofs.Gone.{Gone, gone_start, gone_more, gone_more_front, gone_whole}
use Rattle.chunk_format.proofs.NameLaws.{reduce_join}
use Rattle.tracking_state.specs.Said.{AreOf, SaysOf, SaysItem}

-- ---- a delta entry

-- what is split off is what is spelled
pub delta_is : (body : List ℕ) (x delta : DeltaEntry) (len : ℕ) → IsDelta x → body ≡ delta_bytes x ++ drop len body → SpellsDelta body delta → x ≡ delta
delta_is body x delta len right stands spells = (delta_code.one x delta (drop len body) [] right spells.0 (sym stands ∙ spells.1 ∙ sym (append-nil (delta_bytes delta)))).0

pub delta_there : (body : List ℕ) (delta : DeltaEntry) → SpellsDelta body delta → NoneAtFront delta_bytes IsDelta body → ⊥
delta_there body delta spells none = none delta [] spells.0 (spells.1 ∙ sym (append-nil (delta_bytes delta)))

pub offset_said : (body name : List ℕ) (offset len : ℕ) (delta : DeltaEntry) → IsDelta (DeltaOffset name offset) → body ≡ delta_bytes (DeltaOffset name offset) ++ drop len body → SpellsDelta body delta
    → (parts : SnapshotParts) → snapshot_of parts ≡ SnapshotOffset name offset → SaysOf delta (Some parts)
offset_said body name offset len delta right stands spells parts is =
    subst (λ (d : DeltaEntry). SaysOf d (Some parts)) {x = DeltaOffset name offset} (delta_is body (DeltaOffset name offset) delta len right stands spells) is

pub sequence_said : (body name : List ℕ) (id len : ℕ) (delta : DeltaEntry) → IsDelta (DeltaSequence name id) → body ≡ delta_bytes (DeltaSequence name id) ++ drop len body → SpellsDelta body delta → SaysOf delta None
sequence_said body name id len delta right stands spells =
    subst (λ (d : DeltaEntry). SaysOf d None) {x = DeltaSequence name id} (delta_is body (DeltaSequence name id) delta len right stands spells) refl

-- ---- tags

abbrev pub ids : List Tag → List ℕ
ids tags = map (λ (tag : Tag). tag.id) tags

-- tags that were read to a place: the first of them, and the greatest of their ids
pub record Newest (trailer : List ℕ) (at id : ℕ) (first : Tag) : Type 0 where
  pub count : ℕ
  pub gone : Gone tag_bytes IsTag trailer count at
  pub rest : List Tag
  pub begins : gone.front ≡ first ∷ rest
  pub greatest : reduce max (ids gone.front) ≡ Some id

start_front : (trailer : List ℕ) (first : Tag) → (gone_start tag_bytes IsTag trailer).front ++ first ∷ [] ≡ first ∷ []
unfolding gone_start
start_front trailer first = refl

pub newest_first : (trailer : List ℕ) (first : Tag) (len : ℕ) → IsTag first → trailer ≡ tag_bytes first ++ drop len trailer → len ≡ length (tag_bytes first) → Newest trailer len first.id first
newest_first trailer first len right stands long =
    let start = gone_start tag_bytes IsTag trailer in
    let is : trailer ≡ take (length trailer - 0) (drop 0 trailer) = sym (take_rest trailer 0) in
    let gone = gone_more tag_bytes IsTag trailer 0 0 start first len trailer is right stands long in
    let front : gone.front ≡ first ∷ [] = gone_more_front tag_bytes IsTag trailer 0 0 start first len trailer is right stands long ∙ start_front trailer first in
    let place : 0 + len ≡ len = omega arith in
    let all : Newest trailer (0 + len) first.id first = record { count = 0 + 1; gone = gone; rest = []; begins = front; greatest = ap (λ (tags : List Tag). reduce max (ids tags)) front } in
    subst (λ (n : ℕ). Newest trailer n first.id first) place all

pub newest_more : (trailer : List ℕ) (at id : ℕ) (first : Tag) → Newest trailer at id first → (x : Tag) (len : ℕ) (left : List ℕ) → left ≡ take (length trailer - at) (drop at trailer) → IsTag x
    → left ≡ tag_bytes x ++ drop len left → len ≡ length (tag_bytes x) → (new : ℕ) → new ≡ max id x.id → Newest trailer (at + len) new first
newest_more trailer at id first n x len left is right stands long new new_is =
    let gone = gone_more tag_bytes IsTag trailer n.count at n.gone x len left is right stands long in
    let front : gone.front ≡ n.gone.front ++ x ∷ [] = gone_more_front tag_bytes IsTag trailer n.count at n.gone x len left is right stands long in
    record {
      count = n.count + 1;
      gone = gone;
      rest = n.rest ++ x ∷ [];
      begins = front ∙ ap (λ (tags : List Tag). tags ++ x ∷ []) n.begins;
      greatest = ap (λ (tags : List Tag). reduce max (ids tags)) front ∙ ap (λ (l : List ℕ). reduce max l) (map-append (λ (tag : Tag). tag.id) n.gone.front (x ∷ []))
          ∙ reduce_join (ids n.gone.front) (x.id ∷ []) ∙ ap (λ (o : Option ℕ). greater o (Some x.id)) n.greatest ∙ ap Some (sym new_is);
    }

right_tags : (n : ℕ) (trailer : List ℕ) (tags : List Tag) → SpellsTags n trailer tags → All IsTag tags
right_tags n trailer tags spells = All-weaker (IsTagOf spells.right.0.0) IsTag (λ t f. f.1) tags spells.right.0.1

-- all were read: they are those that are spelled
pub newest_all : (trailer : List ℕ) (at id : ℕ) (first : Tag) → Newest trailer at id first → length trailer ≤ at → (n : ℕ) (tags : List Tag) → SpellsTags n trailer tags → AreOf first.name id tags
newest_all trailer at id first newest past n tags spells =
    let whole : trailer ≡ flat_map tag_bytes newest.gone.front = gone_whole tag_bytes IsTag trailer newest.count at newest.gone past in
    let same : newest.gone.front ≡ tags = one_list tag_bytes IsTag tag_code newest.gone.front tags newest.gone.each (right_tags n trailer tags spells) (sym whole ∙ spells.spelled) in
    let name = spells.right.0.0 in
    let named : All (IsTagOf name) (first ∷ newest.rest) = subst (All (IsTagOf name)) (sym (sym newest.begins ∙ same)) spells.right.0.1 in
    let first_named : first.name ≡ name = (named 0 first (omega arith)).0 in
    (All-weaker (IsTagOf name) (λ (tag : Tag). tag.name ≡ first.name) (λ t f. f.0 ∙ sym first_named) tags spells.right.0.1, ap (λ (l : List Tag). reduce max (ids l)) (sym same) ∙ newest.greatest)

-- ---- what is left before the end begins with an item

left_by : {A : Type 0} (spell : A → List ℕ) (Right : A → Type 0) (back : List A) (left : List ℕ) → 0 < length left → left ≡ flat_map spell back → All Right back → NoneAtFront spell Right left → ⊥
left_by spell Right [] left some is right none = absurd (omega (arith, some, ap length is))
left_by spell Right (x ∷ xs) left some is right none = none x (flat_map spell xs) (right 0 x (omega arith)) is

right_back : {A : Type 0} (Right : A → Type 0) (front back : List A) → All Right (front ++ back) → All Right back
right_back Right [] back each = each
right_back Right (x ∷ xs) back each = right_back Right xs back (All-tail Right x (xs ++ back) each)

pub item_left : {A : Type 0} (spell : A → List ℕ) (Right : A → Type 0) → IsCode spell Right → (bytes : List ℕ) (count at : ℕ) → Gone spell Right bytes count at → at < length bytes → (items : List A) → All Right items
    → bytes ≡ flat_map spell items → (left : List ℕ) → left ≡ take (length bytes - at) (drop at bytes) → NoneAtFront spell Right left → ⊥
item_left spell Right code bytes count at gone within items right spelled left is none =
    let back = behind_front spell Right code gone.front items (drop at bytes) gone.each right (sym spelled ∙ gone.parts) in
    let here : left ≡ drop at bytes = is ∙ take_rest bytes at in
    let some : 0 < length left = omega (arith, within, ap length here, length-drop at bytes) in
    left_by spell Right back.0 left some (here ∙ back.2) (right_back Right gone.front back.0 (subst (All Right) back.1 right)) none

pub tag_left : (trailer : List ℕ) (at id : ℕ) (first : Tag) → Newest trailer at id first → at < length trailer → (n : ℕ) (tags : List Tag) → SpellsTags n trailer tags
    → (left : List ℕ) → left ≡ take (length trailer - at) (drop at trailer) → NoneAtFront tag_bytes IsTag left → ⊥
tag_left trailer at id first newest within n tags spells left is none =
    item_left tag_bytes IsTag tag_code trailer newest.count at newest.gone within tags (right_tags n trailer tags spells) spells.spelled left is none

pub tags_there : (n : ℕ) (trailer : List ℕ) (tags : List Tag) → 1 ≤ n → SpellsTags n trailer tags → NoneAtFront tag_bytes IsTag trailer → ⊥
tags_there n trailer [] some spells none = let count = spells.whole in absurd (omega (arith, some, count))
tags_there n trailer (t ∷ ts) some spells none = none t (flat_map tag_bytes ts) (right_tags n trailer (t ∷ ts) spells 0 t (omega arith)) spells.spelled

pub tag_in_nothing : (trailer : List ℕ) (first : Tag) (len : ℕ) → trailer ≡ tag_bytes first ++ drop len trailer → IsTag first → trailer ≡ [] → ⊥
tag_in_nothing trailer first len stands right empty =
    let some = tag_code.some first right in
    let long = length-append (tag_bytes first) (drop len trailer) in
    omega (arith, some, long, ap length stands, ap length empty)

-- ---- chunks

said_by_content : (c : Chunk) (name : List ℕ) (id : ℕ) → 1 ≤ length c.entries → c.kind ≡ User → HoldsByKind User c.entries c.trailer → (c.trailer ≡ [] → ⊥)
    → ((n : ℕ) (tags : List Tag) → 1 ≤ n → SpellsTags n c.trailer tags → AreOf name id tags) → SaysItem c (SnapshotSequence name c.first id)
said_by_content c name id some kind (inl empty) none each = absurd (none empty)
said_by_content c name id some kind (inr (tags, spells)) none each = (kind, refl, (tags, spells, each (length c.entries) tags some spells))

pub user_said : (c : Chunk) (trailer : List ℕ) (tag : TagParts) (first : ℕ) → IsChunk c → c.kind ≡ User → first ≡ c.first → trailer ≡ c.trailer → (trailer ≡ [] → Some tag ≡ None)
    → ((n : ℕ) (tags : List Tag) → 1 ≤ n → SpellsTags n trailer tags → AreOf tag.name.now tag.id tags) → SaysItem c (SnapshotSequence tag.name.now first tag.id)
user_said c trailer tag first is kind first_is trailer_is none each =
    let content : HoldsByKind User c.entries c.trailer = subst (λ (k : ChunkKind). HoldsByKind k c.entries c.trailer) kind is.content in
    let all : (n : ℕ) (tags : List Tag) → 1 ≤ n → SpellsTags n c.trailer tags → AreOf tag.name.now tag.id tags =
    λ n tags some spells. each n tags some (subst (λ (t : List ℕ). SpellsTags n t tags) (sym trailer_is) spells) in
    let there : c.trailer ≡ [] → ⊥ = λ empty. let both = none (trailer_is ∙ empty) in absurd cc in
    subst (λ (n : ℕ). SaysItem c (SnapshotSequence tag.name.now n tag.id)) (sym first_is) (said_by_content c tag.name.now tag.id is.some kind content there all)

ids_right : (tags : List Tag) → All IsTag tags → AllByRecursion (λ id. id < 2 ^ 64) (ids tags)
ids_right [] each = tt
ids_right (t ∷ ts) each = ((each 0 t (omega arith)).1, ids_right ts (All-tail IsTag t ts each))

sequence_right : (c : Chunk) (name : List ℕ) (first id : ℕ) (tags : List Tag) → IsChunk c → first ≡ c.first → SpellsTags (length c.entries) c.trailer tags → AreOf name id tags → IsSnapshot (SnapshotSequence name first id)
sequence_right c name first id [] is first_is spells are = let none = are.1 in absurd cc
sequence_right c name first id (t ∷ ts) is first_is spells are =
    let right = right_tags (length c.entries) c.trailer (t ∷ ts) spells in
    let own : IsName t.name = (right 0 t (omega arith)).0 in
    let fits = greatest_fits (2 ^ 64) (ids (t ∷ ts)) (omega arith) (ids_right (t ∷ ts) right) in
    let last = is.last in
    (subst IsName (are.0 0 t (omega arith)) own, omega (arith, first_is, last), subst (λ (o : Option ℕ). unwrap_or o 0 < 2 ^ 64) are.1 fits)

-- what a chunk says has a spelling
pub says_right : (c : Chunk) (item : SnapshotEntry) → IsChunk c → SaysItem c item → IsSnapshot item
says_right c (SnapshotSequence name first id) is (kind, first_is, (tags, spells, are)) = sequence_right c name first id tags is first_is spells are
says_right c (SnapshotOffset name offset) is (kind, (body, one, spells)) = spells.0

-- ---- the entries of a snapshot

-- entries that were read to a place, and noted
pub record Noted (body : List ℕ) (at : ℕ) (old new : Tracked) : Type 0 where
  pub count : ℕ
  pub gone : Gone snapshot_bytes IsSnapshot body count at
  pub notes : new ≡ fold noted old gone.front

pub noted_none : (body : List ℕ) (t : Tracked) → Noted body 0 t t
unfolding gone_start
noted_none body t = record { count = 0; gone = gone_start snapshot_bytes IsSnapshot body; notes = refl }

pub noted_more : (body : List ℕ) (at : ℕ) (old t new : Tracked) → Noted body at old t → (x : SnapshotEntry) (len : ℕ) (left : List ℕ) → left ≡ take (length body - at) (drop at body) → IsSnapshot x
    → left ≡ snapshot_bytes x ++ drop len left → len ≡ length (snapshot_bytes x) → new ≡ noted t x → Noted body (at + len) old new
noted_more body at old t new n x len left is right stands long new_is =
    let gone = gone_more snapshot_bytes IsSnapshot body n.count at n.gone x len left is right stands long in
    let front : gone.front ≡ n.gone.front ++ x ∷ [] = gone_more_front snapshot_bytes IsSnapshot body n.count at n.gone x len left is right stands long in
    record {
      count = n.count + 1;
      gone = gone;
      notes = new_is ∙ ap (λ (s : Tracked). noted s x) n.notes ∙ sym (fold-append noted old n.gone.front (x ∷ [])) ∙ ap (fold noted old) (sym front);
    }

pub noted_whole : (body : List ℕ) (at : ℕ) (old new : Tracked) → Noted body at old new → length body ≤ at → (items : List SnapshotEntry) → SpellsSnapshot body items → new ≡ fold noted old items
noted_whole body at old new n past items spells =
    let whole : body ≡ flat_map snapshot_bytes n.gone.front = gone_whole snapshot_bytes IsSnapshot body n.count at n.gone past in
    let same : n.gone.front ≡ items = one_list snapshot_bytes IsSnapshot snapshot_code n.gone.front items n.gone.each spells.0 (sym whole ∙ spells.1) in
    n.notes ∙ ap (fold noted old) same
