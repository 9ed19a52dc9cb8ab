use Rattle.std.proofs.Common.{◌≡◌, List, Some, length, ap, sym, ◌∙◌, arith}
use Rattle.std.specs.Prelude.{slice_get}
use Rattle.std.specs.List.{flat_map}
use Rattle.chunk_format.specs.Chunks.{entries_bytes}
use Rattle.chunk_format.specs.declared.chunk.Chunk.{Chunk}
use Rattle.chunk_view.specs.Shown.{EntryShown, shown_entries}
use Rattle.chunk_view.proofs.ShownLaws.{length-shown_from, spellings_joined, chunk_rows_shown, entry_shown}
use Rattle.chunk_view.proofs.PlaceLaws.{shown_at_place}
use Rattle.chunk_view.proofs.ViewLaws.{all_left}
use Rattle.chunk_view.proofs.view.ChunkView.entries.Goals as goal

pub invariant_of-result : goal.invariant_of-result
invariant_of-result c =
    let payload_is = c.payload.ensures ∙ ap (λ (v : Chunk). entries_bytes v.entries) (sym c.self.view_is) in
    (all_left c.self.inside.header c.self.inside.bytes.now c.payload.result.now c.self.invariant payload_is).left

pub returns-clause-shown : goal.returns-clause-shown
returns-clause-shown c =
    let payload_is = c.payload.ensures ∙ ap (λ (v : Chunk). entries_bytes v.entries) (sym c.self.view_is) in
    (all_left c.self.inside.header c.self.inside.bytes.now c.payload.result.now c.self.invariant payload_is).all ∙ ap shown_entries c.self.view_is

pub returns-clause-places : goal.returns-clause-places
returns-clause-places c = λ k entry there.
    let shown : slice_get (shown_entries c.args.self.now) k ≡ Some entry = ap (λ (l : List EntryShown). slice_get l k) (sym (returns-clause-shown c)) ∙ there in
    shown_at_place c.args.self.now k entry (entry_shown c.args.self.now k entry shown)

pub returns-clause-cover : goal.returns-clause-cover
returns-clause-cover c =
    ap (flat_map (λ (s : EntryShown). s.spelling)) (returns-clause-shown c) ∙ spellings_joined c.args.self.now.first c.args.self.now.entries

pub returns-clause-rows : goal.returns-clause-rows
returns-clause-rows c = λ user. returns-clause-shown c ∙ sym (chunk_rows_shown c.args.self.now user)

pub returns-clause-few : goal.returns-clause-few
returns-clause-few c =
    let few = c.self.invariant.0.is_chunk.few in
    let same = ap (λ (v : Chunk). length v.entries) c.self.view_is in
    omega (arith, few, same, ap length (returns-clause-shown c), length-shown_from c.args.self.now.first c.args.self.now.entries)
