-- The test of a chunk decides whether it has a spelling.
use Rattle.std.proofs.Common.{ℕ, ℤ, ◌^◌, ◌<◌, ◌≤◌, Bool, true, false, ◌&&◌, List, length, subst, refl}
use Rattle.std.specs.Prelude.{nat_lt, nat_le}
use Rattle.std.specs.Bool.{Decides}
use Rattle.std.specs.Int.{w64, int_wrap}
use Rattle.std.specs.Int.RustNames.{FitsSigned}
use Rattle.std.specs.List.{list_all, All}
use Rattle.std.proofs.lemmas.Int.{SFits-int_wrap, int_wrap_fits}
use Rattle.std.proofs.lemmas.Bool.Decides.{Decides-and, Decides-or, Decides-like, Decides-int_eq}
use Rattle.chunk_format.specs.declared.entry.Entry.{Entry}
use Rattle.chunk_format.specs.declared.chunk.ChunkKind.{ChunkKind}
use Rattle.chunk_format.specs.declared.chunk.ChunkKind.TheVariants.{User, Delta, Snapshot}
use Rattle.chunk_format.specs.declared.chunk.Chunk.{Chunk}
use Rattle.chunk_format.specs.Tags.{DeltaEntry, SpellsDelta, SnapshotEntry, SpellsSnapshot}
use Rattle.chunk_format.specs.Chunks.{IsEntry, HasRecords, entries_bytes, end_of_chunk, IsOneSimple, HoldsByKind, IsChunk}
use Rattle.chunk_search.specs.Finding.{is_entry, has_records, is_number, are_tags, spells_delta, spells_snapshot, one_simple, is_empty, holds_by_kind, is_stamp, is_chunk}
use Rattle.chunk_search.proofs.Parts.{below_decides, most_decides, all_decides, entry_decides, records_decide, tags_decide, delta_decides, snapshot_decides, one_decides, empty_decides}

stamp_decides : (z : ℤ) → Decides (is_stamp z) (FitsSigned w64 z)
stamp_decides z =
    Decides-like (is_stamp z) (λ same. subst (FitsSigned w64) same (SFits-int_wrap w64 z)) (λ fits. int_wrap_fits w64 z fits) (Decides-int_eq (int_wrap w64 z) z)

-- one simple entry with a delta entry, and with snapshot entries, in the order of the format's words
one_delta : (entries : List Entry) → Decides (one_simple spells_delta entries) ((body : List ℕ) × (delta : DeltaEntry) × IsOneSimple entries body × SpellsDelta body delta)
one_delta entries =
    Decides-like (one_simple spells_delta entries) (λ (body, is, (delta, spells)). (body, delta, is, spells)) (λ (body, delta, is, spells). (body, is, (delta, spells)))
    (one_decides spells_delta (λ body. (delta : DeltaEntry) × SpellsDelta body delta) delta_decides entries)

one_snapshot : (entries : List Entry) → Decides (one_simple spells_snapshot entries) ((body : List ℕ) × (snapshot : List SnapshotEntry) × IsOneSimple entries body × SpellsSnapshot body snapshot)
one_snapshot entries =
    Decides-like (one_simple spells_snapshot entries) (λ (body, is, (listed, spells)). (body, listed, is, spells)) (λ (body, listed, is, spells). (body, is, (listed, spells)))
    (one_decides spells_snapshot (λ body. (listed : List SnapshotEntry) × SpellsSnapshot body listed) snapshot_decides entries)

content_decides : (kind : ChunkKind) (entries : List Entry) (trailer : List ℕ) → 1 ≤ length entries → Decides (holds_by_kind kind entries trailer) (HoldsByKind kind entries trailer)
content_decides User entries trailer some = Decides-or (is_empty trailer) (are_tags (length entries) trailer) (empty_decides trailer) (tags_decide (length entries) trailer some)
content_decides Delta entries trailer some = Decides-and (is_empty trailer) (one_simple spells_delta entries) (empty_decides trailer) (one_delta entries)
content_decides Snapshot entries trailer some = Decides-and (is_empty trailer) (one_simple spells_snapshot entries) (empty_decides trailer) (one_snapshot entries)

-- two tests, where the second decides only if the first passed
then_decides : {P Q : Type 0} (r s : Bool) → Decides r P → (P → Decides s Q) → Decides (r && s) (P × Q)
then_decides true s first second = (λ e. let p = first.0 refl in (p, (second p).0 e), λ h. (second h.0).1 h.1)
then_decides false s first second = (λ e. absurd (cc e), λ h. first.1 h.0)

-- what the test of a chunk asks, in its order
abbrev Asked : Chunk → Type 0
Asked c =
    FitsSigned w64 c.stamp × (c.epoch < 2 ^ 64 × (1 ≤ length c.entries × (length c.entries < 2 ^ 16 × (All IsEntry c.entries × (All HasRecords c.entries
    × (length (entries_bytes c.entries) ≤ 4294967040 × (end_of_chunk c < 2 ^ 64 × HoldsByKind c.kind c.entries c.trailer)))))))

asked_decides : (c : Chunk) → Decides (is_chunk c) (Asked c)
asked_decides c =
    let es = c.entries in
    Decides-and (is_stamp c.stamp) _ (stamp_decides c.stamp) (Decides-and (is_number c.epoch) _ (below_decides c.epoch (2 ^ 64)) (then_decides (nat_le 1 (length es)) _ (most_decides 1 (length es)) (λ some.
    Decides-and (nat_lt (length es) (2 ^ 16)) _ (below_decides (length es) (2 ^ 16)) (Decides-and (list_all is_entry es) _ (all_decides is_entry IsEntry entry_decides es)
    (Decides-and (list_all has_records es) _ (all_decides has_records HasRecords records_decide es)
    (Decides-and (nat_le (length (entries_bytes es)) 4294967040) _ (most_decides (length (entries_bytes es)) 4294967040)
    (Decides-and (is_number (end_of_chunk c)) _ (below_decides (end_of_chunk c) (2 ^ 64)) (content_decides c.kind es c.trailer some))))))))

pub chunk_decides : (c : Chunk) → Decides (is_chunk c) (IsChunk c)
chunk_decides c =
    Decides-like (is_chunk c)
    (λ (stamp, (epoch, (some, (few, (each, (recorded, (payload, (last, content)))))))).
    record { stamp_fits = stamp; epoch_fits = epoch; some = some; few = few; each = each; recorded = recorded; payload = payload; last = last; content = content })
    (λ is. (is.stamp_fits, (is.epoch_fits, (is.some, (is.few, (is.each, (is.recorded, (is.payload, (is.last, is.content)))))))))
    (asked_decides c)
