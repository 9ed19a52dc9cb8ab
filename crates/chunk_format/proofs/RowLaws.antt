-- The tags of the rows of a chunk are those of its trailer.
use Rattle.std.proofs.Common.{◌≡◌, ℕ, ◌+◌, ◌<◌, List, [], ◌∷◌, ◌++◌, length, get_or, take, drop, map, Bool, false, cond, eqb, Option, Some, None, refl, ap, ◌∙◌, arith, length-append}
use Rattle.std.specs.Int.{w64, from_be_bytes}
use Rattle.std.specs.List.{flat_map, All}
use Rattle.std.proofs.lemmas.List.Elements.{All-head, All-tail}
use Rattle.chunk_format.specs.declared.entry.Entry.{Entry}
use Rattle.chunk_format.specs.Tags.{Tag, IsTag, tag_bytes}
use Rattle.chunk_format.specs.Chunks.{entry_records}
use Rattle.chunk_format.specs.LogRows.{LogRow, first_tag, after_tag, rows_from}
use Rattle.chunk_format.proofs.Codes.{named_number_length}
use Rattle.chunk_format.proofs.NamedRead.{named_read}

some_there : (n : ℕ) → 0 < n → eqb n 0 ≡ false
some_there n some = grind arith

tag_read : (trailer : List ℕ) (t : Tag) → 0 < length trailer → get_or trailer 1 0 ≡ length t.name → take (length t.name) (drop 2 trailer) ≡ t.name → from_be_bytes w64 (take 8 (drop (2 + length t.name) trailer)) ≡ t.id
    → first_tag trailer ≡ Some t
tag_read trailer t some len name id =
    let made : ℕ → Option Tag = λ n. Some (record { name = take n (drop 2 trailer); id = from_be_bytes w64 (take 8 (drop (2 + n) trailer)) }) in
    ap (λ (b : Bool). cond b None (made (get_or trailer 1 0))) (some_there (length trailer) some) ∙ ap made len
    ∙ ap (λ (n : List ℕ). Some (record { name = n; id = from_be_bytes w64 (take 8 (drop (2 + length t.name) trailer)) })) name
    ∙ ap (λ (i : ℕ). Some (record { name = t.name; id = i })) id

-- a tag in front of other bytes is the first, and they are what is after it
pub front_tag : (t : Tag) (rest : List ℕ) → IsTag t → (first_tag (tag_bytes t ++ rest) ≡ Some t) × (after_tag (tag_bytes t ++ rest) ≡ rest)
front_tag t rest f =
    let trailer = tag_bytes t ++ rest in
    let read = named_read trailer 0 t.name t.id rest (omega arith) f.0 f.1 refl in
    let some : 0 < length trailer = omega (arith, length-append (tag_bytes t) rest, named_number_length 0 t.name t.id) in
    (tag_read trailer t some read.len_is read.name_is read.number_is, ap (λ (n : ℕ). drop (10 + n) trailer) read.len_is ∙ read.rest_is)

-- one tag for each entry
pub tags_of_rows : (entries : List Entry) (tags : List Tag) (offset : ℕ) (trailer : List ℕ) → length tags ≡ length entries → All IsTag tags → trailer ≡ flat_map tag_bytes tags
    → map (λ (r : LogRow). r.tag) (rows_from offset entries trailer) ≡ map (λ (t : Tag). Some t) tags
tags_of_rows [] [] offset trailer count each is = refl
tags_of_rows [] (t ∷ tags) offset trailer count each is = absurd (omega arith)
tags_of_rows (e ∷ entries) [] offset trailer count each is = absurd (omega arith)
tags_of_rows (e ∷ entries) (t ∷ tags) offset trailer count each is =
    let front = front_tag t (flat_map tag_bytes tags) (All-head IsTag t tags each) in
    let first : first_tag trailer ≡ Some t = ap first_tag is ∙ front.0 in
    let after : after_tag trailer ≡ flat_map tag_bytes tags = ap after_tag is ∙ front.1 in
    let more = tags_of_rows entries tags (offset + entry_records e) (after_tag trailer) (omega arith) (All-tail IsTag t tags each) after in
    ap (λ (o : Option Tag). o ∷ map (λ (r : LogRow). r.tag) (rows_from (offset + entry_records e) entries (after_tag trailer))) first ∙ ap (λ (os : List (Option Tag)). Some t ∷ os) more

-- no tag where there is no trailer
pub no_tags_of_rows : (entries : List Entry) (offset : ℕ) → map (λ (r : LogRow). r.tag) (rows_from offset entries []) ≡ map (λ (e : Entry). None) entries
no_tags_of_rows [] offset = refl
no_tags_of_rows (e ∷ entries) offset = ap (λ (os : List (Option Tag)). None ∷ os) (no_tags_of_rows entries (offset + entry_records e))
