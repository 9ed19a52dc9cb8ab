-- The tags of the rows of a chunk, and of a list of chunks.
use Rattle.std.proofs.Common.{◌≡◌, ℕ, ◌^◌, ◌<◌, Bool, true, false, cond, List, [], ◌∷◌, ◌++◌, length, map, Option, Some, None, refl, sym, ap, subst, ◌∙◌, inl, inr}
use Rattle.std.specs.List.{flat_map, All, AllByRecursion}
use Rattle.std.proofs.lemmas.List.{append-nil, map-append}
use Rattle.std.proofs.lemmas.List.Elements.{All-weaker, recursion_from_All}
use Rattle.std.proofs.lemmas.List.Folds.{flat_map-map}
use Rattle.chunk_format.specs.declared.entry.Entry.{Entry}
use Rattle.chunk_format.specs.declared.chunk.ChunkKind.{ChunkKind}
use Rattle.chunk_format.specs.declared.chunk.ChunkKind.TheVariants.{User, Delta, Snapshot}
use Rattle.chunk_format.specs.declared.chunk.Chunk.{Chunk}
use Rattle.chunk_format.specs.Tags.{Tag, IsName, IsTag, IsTagOf, SpellsTags}
use Rattle.chunk_format.specs.Chunks.{HoldsByKind, IsChunk}
use Rattle.chunk_format.specs.LogRows.{LogRow, Rows, chunk_rows, rows_by_kind, rows_from}
use Rattle.chunk_format.specs.ByName.{same_name, id_by, ids_of, tag_name, tag_names}
use Rattle.chunk_format.proofs.RowLaws.{tags_of_rows, no_tags_of_rows}
use Rattle.chunk_format.proofs.NameLaws.{same_decides, each_join}

abbrev pub tag_of_row : LogRow → Option Tag
tag_of_row row = row.tag

-- the tags of rows, one for each row
abbrev pub row_tags : List Chunk → List (Option Tag)
row_tags chunks = map tag_of_row (Rows chunks)

pub names_by_tags : (chunks : List Chunk) → tag_names chunks ≡ flat_map tag_name (row_tags chunks)
names_by_tags chunks = sym (flat_map-map tag_name tag_of_row (Rows chunks))

pub ids_by_tags : (name : List ℕ) (chunks : List Chunk) → ids_of name chunks ≡ flat_map (id_by name) (row_tags chunks)
ids_by_tags name chunks = sym (flat_map-map (id_by name) tag_of_row (Rows chunks))

pub one_rows : (c : Chunk) → Rows (c ∷ []) ≡ chunk_rows c
one_rows c = append-nil (chunk_rows c)

rows_of_user : (c : Chunk) → c.kind ≡ User → chunk_rows c ≡ rows_from c.first c.entries c.trailer
rows_of_user c user = ap (λ (k : ChunkKind). rows_by_kind k c) user

-- the tags of a user chunk's rows are those of its trailer
pub user_tags : (c : Chunk) (tags : List Tag) → c.kind ≡ User → SpellsTags (length c.entries) c.trailer tags → map tag_of_row (chunk_rows c) ≡ map Some tags
user_tags c tags user spells =
    let each : All IsTag tags = All-weaker (IsTagOf spells.right.0.0) IsTag (λ t f. f.1) tags spells.right.0.1 in
    ap (map tag_of_row) (rows_of_user c user) ∙ tags_of_rows c.entries tags c.first c.trailer spells.whole each spells.spelled

-- there are none where the trailer is empty
pub user_untagged : (c : Chunk) → c.kind ≡ User → c.trailer ≡ [] → map tag_of_row (chunk_rows c) ≡ map (λ (e : Entry). None) c.entries
user_untagged c user none =
    ap (map tag_of_row) (rows_of_user c user) ∙ ap (λ (trailer : List ℕ). map tag_of_row (rows_from c.first c.entries trailer)) none ∙ no_tags_of_rows c.entries c.first

none_named : (entries : List Entry) → flat_map tag_name (map (λ (e : Entry). None) entries) ≡ []
none_named [] = refl
none_named (e ∷ es) = none_named es

no_ids : (name : List ℕ) (entries : List Entry) → flat_map (id_by name) (map (λ (e : Entry). None) entries) ≡ []
no_ids name [] = refl
no_ids name (e ∷ es) = no_ids name es

-- no tag of any name stands in a chunk
pub record Untagged (c : Chunk) : Type 0 where
  pub no_names : tag_names (c ∷ []) ≡ []
  pub no_ids : (name : List ℕ) → ids_of name (c ∷ []) ≡ []

one_tags : (c : Chunk) → row_tags (c ∷ []) ≡ map tag_of_row (chunk_rows c)
one_tags c = ap (map tag_of_row) (one_rows c)

pub untagged_user : (c : Chunk) → c.kind ≡ User → c.trailer ≡ [] → Untagged c
untagged_user c user none =
    let tags : row_tags (c ∷ []) ≡ map (λ (e : Entry). None) c.entries = one_tags c ∙ user_untagged c user none in
    record {
      no_names = names_by_tags (c ∷ []) ∙ ap (flat_map tag_name) tags ∙ none_named c.entries;
      no_ids = λ name. ids_by_tags name (c ∷ []) ∙ ap (flat_map (id_by name)) tags ∙ no_ids name c.entries;
    }

no_rows : (c : Chunk) → chunk_rows c ≡ [] → Untagged c
no_rows c none =
    let rows : Rows (c ∷ []) ≡ [] = one_rows c ∙ none in
    record {
      no_names = ap (flat_map (λ (row : LogRow). tag_name row.tag)) rows;
      no_ids = λ name. ap (flat_map (λ (row : LogRow). id_by name row.tag)) rows;
    }

pub untagged_delta : (c : Chunk) → c.kind ≡ Delta → Untagged c
untagged_delta c delta = no_rows c (ap (λ (k : ChunkKind). rows_by_kind k c) delta)

pub untagged_snapshot : (c : Chunk) → c.kind ≡ Snapshot → Untagged c
untagged_snapshot c snapshot = no_rows c (ap (λ (k : ChunkKind). rows_by_kind k c) snapshot)

-- ---- a chunk whose tags are of one name

names_of_some : (tags : List Tag) → flat_map tag_name (map Some tags) ≡ map (λ (t : Tag). t.name) tags
names_of_some [] = refl
names_of_some (t ∷ ts) = ap (λ (l : List (List ℕ)). t.name ∷ l) (names_of_some ts)

pub user_names : (c : Chunk) (tags : List Tag) → c.kind ≡ User → SpellsTags (length c.entries) c.trailer tags → tag_names (c ∷ []) ≡ map (λ (t : Tag). t.name) tags
user_names c tags user spells = names_by_tags (c ∷ []) ∙ ap (flat_map tag_name) (one_tags c ∙ user_tags c tags user spells) ∙ names_of_some tags

ids_of_same : (name : List ℕ) (tags : List Tag) → AllByRecursion (λ (t : Tag). t.name ≡ name) tags → flat_map (id_by name) (map Some tags) ≡ map (λ (t : Tag). t.id) tags
ids_of_same name [] each = refl
ids_of_same name (t ∷ ts) each =
    let is : same_name t.name name ≡ true = (same_decides t.name name).1 each.0 in
    ap (λ (b : Bool). cond b (t.id ∷ []) [] ++ flat_map (id_by name) (map Some ts)) is ∙ ap (λ (l : List ℕ). t.id ∷ l) (ids_of_same name ts each.1)

ids_of_other : (name other : List ℕ) (tags : List Tag) → same_name name other ≡ false → AllByRecursion (λ (t : Tag). t.name ≡ name) tags → flat_map (id_by other) (map Some tags) ≡ []
ids_of_other name other [] differ each = refl
ids_of_other name other (t ∷ ts) differ each =
    let is : same_name t.name other ≡ false = ap (λ (n : List ℕ). same_name n other) each.0 ∙ differ in
    ap (λ (b : Bool). cond b (t.id ∷ []) [] ++ flat_map (id_by other) (map Some ts)) is ∙ ids_of_other name other ts differ each.1

each_named : (name : List ℕ) (tags : List Tag) → All (IsTagOf name) tags → AllByRecursion (λ (t : Tag). t.name ≡ name) tags
each_named name tags each = recursion_from_All (λ (t : Tag). t.name ≡ name) tags (All-weaker (IsTagOf name) (λ (t : Tag). t.name ≡ name) (λ t f. f.0) tags each)

pub user_ids : (c : Chunk) (tags : List Tag) (user : c.kind ≡ User) (spells : SpellsTags (length c.entries) c.trailer tags) → ids_of spells.right.0.0 (c ∷ []) ≡ map (λ (t : Tag). t.id) tags
user_ids c tags user spells =
    let name = spells.right.0.0 in
    ids_by_tags name (c ∷ []) ∙ ap (flat_map (id_by name)) (one_tags c ∙ user_tags c tags user spells) ∙ ids_of_same name tags (each_named name tags spells.right.0.1)

pub user_other_ids : (c : Chunk) (tags : List Tag) (user : c.kind ≡ User) (spells : SpellsTags (length c.entries) c.trailer tags) (other : List ℕ) → same_name spells.right.0.0 other ≡ false → ids_of other (c ∷ []) ≡ []
user_other_ids c tags user spells other differ =
    let name = spells.right.0.0 in
    ids_by_tags other (c ∷ []) ∙ ap (flat_map (id_by other)) (one_tags c ∙ user_tags c tags user spells) ∙ ids_of_other name other tags differ (each_named name tags spells.right.0.1)

-- ---- the tags of chunks that have a spelling

-- a tag that may stand in a trailer, if there is one
abbrev pub RightTag : Option Tag → Type 0
RightTag None = Unit {0}
RightTag (Some tag) = IsTag tag

right_none : (entries : List Entry) → AllByRecursion RightTag (map (λ (e : Entry). None) entries)
right_none [] = tt
right_none (e ∷ es) = (tt, right_none es)

right_some : (tags : List Tag) → AllByRecursion IsTag tags → AllByRecursion RightTag (map Some tags)
right_some [] each = tt
right_some (t ∷ ts) each = (each.0, right_some ts each.1)

right_by : (kind : ChunkKind) (c : Chunk) → c.kind ≡ kind → HoldsByKind kind c.entries c.trailer → AllByRecursion RightTag (map tag_of_row (chunk_rows c))
right_by User c user (inl none) = subst (AllByRecursion RightTag) (sym (user_untagged c user none)) (right_none c.entries)
right_by User c user (inr (tags, spells)) =
    let each : All IsTag tags = All-weaker (IsTagOf spells.right.0.0) IsTag (λ t f. f.1) tags spells.right.0.1 in
    subst (AllByRecursion RightTag) (sym (user_tags c tags user spells)) (right_some tags (recursion_from_All IsTag tags each))
right_by Delta c delta holds = subst (λ (rows : List LogRow). AllByRecursion RightTag (map tag_of_row rows)) (sym (ap (λ (k : ChunkKind). rows_by_kind k c) delta)) tt
right_by Snapshot c snapshot holds = subst (λ (rows : List LogRow). AllByRecursion RightTag (map tag_of_row rows)) (sym (ap (λ (k : ChunkKind). rows_by_kind k c) snapshot)) tt

pub right_tags : (chunks : List Chunk) → AllByRecursion IsChunk chunks → AllByRecursion RightTag (row_tags chunks)
right_tags [] each = tt
right_tags (c ∷ cs) each =
    subst (AllByRecursion RightTag) (sym (map-append tag_of_row (chunk_rows c) (Rows cs)))
    (each_join RightTag (map tag_of_row (chunk_rows c)) (row_tags cs) (right_by c.kind c refl each.0.content) (right_tags cs each.1))

names_right : (tags : List (Option Tag)) → AllByRecursion RightTag tags → AllByRecursion IsName (flat_map tag_name tags)
names_right [] each = tt
names_right (None ∷ ts) each = names_right ts each.1
names_right (Some t ∷ ts) each = (each.0.0, names_right ts each.1)

fits_by : (b : Bool) (id : ℕ) → id < 2 ^ 64 → AllByRecursion (λ n. n < 2 ^ 64) (cond b (id ∷ []) [])
fits_by true id fits = (fits, tt)
fits_by false id fits = tt

ids_right : (name : List ℕ) (tags : List (Option Tag)) → AllByRecursion RightTag tags → AllByRecursion (λ id. id < 2 ^ 64) (flat_map (id_by name) tags)
ids_right name [] each = tt
ids_right name (None ∷ ts) each = ids_right name ts each.1
ids_right name (Some t ∷ ts) each = each_join (λ id. id < 2 ^ 64) (cond (same_name t.name name) (t.id ∷ []) []) (flat_map (id_by name) ts) (fits_by (same_name t.name name) t.id each.0.1) (ids_right name ts each.1)

pub tag_names_right : (chunks : List Chunk) → AllByRecursion IsChunk chunks → AllByRecursion IsName (tag_names chunks)
tag_names_right chunks each = subst (AllByRecursion IsName) (sym (names_by_tags chunks)) (names_right (row_tags chunks) (right_tags chunks each))

pub ids_fit : (name : List ℕ) (chunks : List Chunk) → AllByRecursion IsChunk chunks → AllByRecursion (λ id. id < 2 ^ 64) (ids_of name chunks)
ids_fit name chunks each = subst (AllByRecursion (λ id. id < 2 ^ 64)) (sym (ids_by_tags name chunks)) (ids_right name (row_tags chunks) (right_tags chunks each))
