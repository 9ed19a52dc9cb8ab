-- Entries without a tag: of two parts, and of a range of offsets that a log has reached.
use Rattle.std.proofs.Common.{◌≡◌, ℕ, ◌+◌, ◌≤◌, Bool, false, cond, List, [], ◌∷◌, ◌++◌, Option, refl, ap, ◌∙◌, arith}
use Rattle.std.specs.List.{flat_map}
use Rattle.std.proofs.lemmas.Grind.{flat_map-append}
use Rattle.std.proofs.lemmas.List.{append-nil}
use Rattle.std.proofs.lemmas.List.Sums.{sum_by-append}
use Rattle.chunk_format.specs.declared.entry.Entry.{Entry}
use Rattle.chunk_format.specs.declared.chunk.ChunkKind.{ChunkKind}
use Rattle.chunk_format.specs.declared.chunk.ChunkKind.TheVariants.{User, Delta, Snapshot}
use Rattle.chunk_format.specs.declared.chunk.Chunk.{Chunk}
use Rattle.chunk_format.specs.Tags.{Tag}
use Rattle.chunk_format.specs.Chunks.{entry_records, end_of_chunk}
use Rattle.chunk_format.specs.LogRows.{Rows, rows_from, rows_by_kind, chunk_rows, first_tag, after_tag}
use Rattle.chunk_format.specs.Logs.{end_of, last_epoch, Linked, IsLog, bare, bare_by, bare_of, is_within, bare_within, bare_in, tally}
use Rattle.chunk_format.proofs.LinkLaws.{linked_behind}
use Rattle.chunk_format.proofs.NameLaws.{rows_join}

pub tally_join : {A : Type 0} (passes : A → Bool) (xs ys : List A) → tally passes (xs ++ ys) ≡ tally passes xs + tally passes ys
tally_join passes xs ys = sum_by-append (λ x. cond (passes x) 1 0) xs ys

pub bare_join : (a b : List Chunk) → bare_of (a ++ b) ≡ bare_of a ++ bare_of b
bare_join a b = ap (flat_map bare) (rows_join a b) ∙ flat_map-append bare (Rows a) (Rows b)

pub bare_in_join : (from to : ℕ) (a b : List Chunk) → bare_in from to (a ++ b) ≡ bare_in from to a ++ bare_in from to b
bare_in_join from to a b = ap (flat_map (bare_within from to)) (rows_join a b) ∙ flat_map-append (bare_within from to) (Rows a) (Rows b)

not_within : (from to at : ℕ) → to ≤ at → is_within from to at ≡ false
not_within from to at h = grind arith

none_within : (from to at : ℕ) (entry : Entry) (tag : Option Tag) → to ≤ at → cond (is_within from to at) (bare_by tag entry) [] ≡ []
none_within from to at entry tag h = ap (λ (b : Bool). cond b (bare_by tag entry) []) (not_within from to at h)

none_in_rows : (from to at : ℕ) (entries : List Entry) (trailer : List ℕ) → to ≤ at → flat_map (bare_within from to) (rows_from at entries trailer) ≡ []
none_in_rows from to at [] trailer h = refl
none_in_rows from to at (entry ∷ entries) trailer h =
    ap (λ (l : List Entry). l ++ flat_map (bare_within from to) (rows_from (at + entry_records entry) entries (after_tag trailer))) (none_within from to at entry (first_tag trailer) h)
    ∙ none_in_rows from to (at + entry_records entry) entries (after_tag trailer) (omega (arith, h))

none_by_kind : (from to : ℕ) (kind : ChunkKind) (c : Chunk) → to ≤ c.first → flat_map (bare_within from to) (rows_by_kind kind c) ≡ []
none_by_kind from to User c h = none_in_rows from to c.first c.entries c.trailer h
none_by_kind from to Delta c h = refl
none_by_kind from to Snapshot c h = refl

-- chunks that begin past a range have no row of it
pub none_later : (from to at epoch : ℕ) (chunks : List Chunk) → Linked at epoch chunks → to ≤ at → bare_in from to chunks ≡ []
none_later from to at epoch [] l h = refl
none_later from to at epoch (c ∷ cs) l h =
    let begins = l.begins in
    flat_map-append (bare_within from to) (chunk_rows c) (Rows cs)
    ∙ ap (λ (x : List Entry). x ++ bare_in from to cs) (none_by_kind from to c.kind c (omega (arith, begins, h)))
    ∙ none_later from to (end_of_chunk c) c.epoch cs l.behind (omega (arith, begins, h))

-- the rows of a range that a log has reached stay
pub bare_in_stays : (from to : ℕ) (a b : List Chunk) → IsLog (a ++ b) → to ≤ end_of a → bare_in from to (a ++ b) ≡ bare_in from to a
bare_in_stays from to a b l h =
    bare_in_join from to a b
    ∙ ap (λ (x : List Entry). bare_in from to a ++ x) (none_later from to (end_of a) (last_epoch a) b (linked_behind 0 0 a b l) h)
    ∙ append-nil (bare_in from to a)
