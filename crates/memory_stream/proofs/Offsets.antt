-- An offset that is in the list at once.
use Rattle.std.proofs.Common.{◌≡◌, ℕ, ℤ, ◌≤◌, true, false, List, [], ◌∷◌, ◌++◌, length, Option, Some, refl, sym, ap, subst, ◌∙◌, arith}
use Rattle.std.proofs.lemmas.List.{append-nil}
use Rattle.chunk_format.specs.declared.chunk.Chunk.{Chunk}
use Rattle.chunk_format.specs.Chunks.{end_of_chunk, IsChunk}
use Rattle.chunk_format.specs.Logs.{end_of, last_epoch, IsLog}
use Rattle.chunk_format.proofs.LinkLaws.{linked_push, end_push}
use Rattle.chunk_format.proofs.NameLaws.{each_map}
use Rattle.tracking_state.specs.Tracked.{Tracked}
use Rattle.stream_terms.specs.declared.terms.Taken.{Taken}
use Rattle.stream_terms.specs.declared.terms.Given.{Given}
use Rattle.stream_terms.specs.declared.terms.Waits.{Waits}
use Rattle.stream_terms.specs.declared.terms.OfferFault.{OfferFault}
use Rattle.stream_terms.specs.declared.terms.OfferFault.TheVariants as refused
use Rattle.stream_terms.specs.Views.{StreamView, StreamHolds, Caused, name_of}
use Rattle.stream_terms.specs.Steps.{OffsetRefused, names_one, queued, offset_chunk}
use Rattle.stream_terms.proofs.Growing.{caused_stays}
use Rattle.memory_stream.specs.Chosen.{IsOffset, IsLimit}
use Rattle.memory_stream.specs.Kept.{Keeps}
use Rattle.memory_stream.specs.Gives.{OffsetGave}
use Rattle.memory_stream.proofs.Offers.{view}

pub limited : (a : StreamView) (name : Option (List ℕ)) (f : OfferFault) (epoch : ℕ) (bytes : List ℕ) → IsLimit f → a.running ≡ Some epoch → name ≡ Some bytes → 1 ≤ length bytes → length bytes ≤ 255 → OffsetRefused a name f
limited a name (refused.Stale asked running) epoch bytes is runs named some few = absurd is
limited a name (refused.BadName len) epoch bytes is runs named some few = absurd is
limited a name (refused.EmptyBatch place) epoch bytes is runs named some few = absurd is
limited a name (refused.Limit what most) epoch bytes is runs named some few =
    let same : length (name_of name) ≡ length bytes = ap (λ (n : Option (List ℕ)). length (name_of n)) named in
    let one : names_one name ≡ true = grind (arith, same, some, few) in
    ((epoch, runs), one)
limited a name refused.Memory epoch bytes is runs named some few = tt

pub misnamed : (a : StreamView) (name : Option (List ℕ)) (f : OfferFault) (epoch : ℕ) → a.running ≡ Some epoch → f ≡ refused.BadName (length (name_of name)) → names_one name ≡ false → OffsetRefused a name f
misnamed a name f epoch runs is none = subst (OffsetRefused a name) (sym is) ((epoch, runs), none, refl)

pub out_of_memory : (a : StreamView) (name : Option (List ℕ)) (f : OfferFault) → f ≡ refused.Memory → OffsetRefused a name f
out_of_memory a name f is = subst (OffsetRefused a name) (sym is) tt

gives_offset : (number : ℕ) (chunks : List Chunk) (running : Option ℕ) (passes : List Given) (ready : List Waits) (name : Option (List ℕ)) (bytes : List ℕ) (epoch : ℕ) (stamp : ℤ) (offset : ℕ) (t : Taken)
    → StreamHolds (view number chunks running passes ready) [] → running ≡ Some epoch → name ≡ Some bytes → 1 ≤ length bytes → length bytes ≤ 255 → last_epoch chunks ≤ epoch → IsChunk (offset_chunk epoch stamp (end_of chunks) bytes offset)
    → t.end ≡ end_of_chunk (offset_chunk epoch stamp (end_of chunks) bytes offset) → t.accepted ≡ 1
    → OffsetGave (view number chunks running passes ready) name offset t (view number (chunks ++ offset_chunk epoch stamp (end_of chunks) bytes offset ∷ []) running passes ready)
gives_offset number chunks running passes ready name bytes epoch stamp offset t h runs named some few epochs is ends accepted =
    let v = view number chunks running passes ready in
    let c = offset_chunk epoch stamp (end_of chunks) bytes offset in
    let all = chunks ++ c ∷ [] in
    let log : IsLog all = linked_push 0 0 chunks c h.log refl epochs is in
    let end_here : end_of (chunks ++ []) ≡ end_of chunks = ap end_of (append-nil chunks) in
    let same : c ∷ [] ≡ offset_chunk epoch stamp (end_of (chunks ++ [])) bytes offset ∷ [] = ap (λ (n : ℕ). offset_chunk epoch stamp n bytes offset ∷ []) (sym end_here) in
    record {
      mid = queued (c ∷ []) v;
      more = c ∷ [];
      step = record {
        bytes = bytes;
        name_is = named;
        some = some;
        few = few;
        epoch = epoch;
        running = runs;
        stamp = stamp;
        snapshots = [];
        kinds = tt;
        new_is = ap (λ (l : List Chunk). queued l v) same;
        end_is = ends ∙ sym (end_push chunks c);
        accepted = accepted;
      };
      moved = record {
        number = refl;
        chunks = refl;
        in_order = λ e before now. refl;
        passes = refl;
        ready = sym (append-nil ready);
        waiting = refl;
      };
      holds = record {
        log = log;
        of_stream = h.of_stream;
        waiting_known = tt;
        ready_known = h.ready_known;
        waiting_past = tt;
        ready_caused = each_map (Caused chunks) (Caused all) (caused_stays chunks (c ∷ []) log) ready h.ready_caused;
        spent_caused = tt;
        apart = h.apart;
      };
    }

pub offset_given : (a : StreamView) (number end epoch : ℕ) (tracking : Tracked) (chunks chunks' : List Chunk) (running : Option ℕ) (passes : List Given) (ready : List Waits) (name : Option (List ℕ)) (bytes : List ℕ) (offset : ℕ) (c : Chunk) (t : Taken)
    → view number chunks running passes ready ≡ a → Keeps end epoch tracking chunks passes → StreamHolds a [] → running ≡ Some epoch → name ≡ Some bytes → 1 ≤ length bytes → length bytes ≤ 255 → IsOffset epoch end bytes offset c
    → t.end ≡ end_of_chunk c → t.accepted ≡ 1 → chunks' ≡ chunks ++ c ∷ [] → OffsetGave a name offset t (view number chunks' running passes ready)
offset_given a number end epoch tracking chunks chunks' running passes ready name bytes offset c t is k holds runs named some few made ends accepted more =
    let v = view number chunks running passes ready in
    let stamp = made.0.0 in
    let c_is : c ≡ offset_chunk epoch stamp (end_of chunks) bytes offset = made.0.1 ∙ ap (λ (n : ℕ). offset_chunk epoch stamp n bytes offset) k.end_is in
    let at_holds : StreamHolds v [] = subst (λ (x : StreamView). StreamHolds x []) (sym is) holds in
    let gave = gives_offset number chunks running passes ready name bytes epoch stamp offset t at_holds runs named some few k.in_epoch (subst IsChunk c_is made.1) (ends ∙ ap end_of_chunk c_is) accepted in
    let there : chunks' ≡ chunks ++ offset_chunk epoch stamp (end_of chunks) bytes offset ∷ [] = more ∙ ap (λ (x : Chunk). chunks ++ x ∷ []) c_is in
    let at_chunks = subst (λ (l : List Chunk). OffsetGave v name offset t (view number l running passes ready)) (sym there) gave in
    subst (λ (x : StreamView). OffsetGave x name offset t (view number chunks' running passes ready)) is at_chunks

pub offset_epoch : (epoch first : ℕ) (bytes : List ℕ) (offset : ℕ) (c : Chunk) → IsOffset epoch first bytes offset c → c.epoch ≡ epoch
offset_epoch epoch first bytes offset c made = ap (λ (x : Chunk). x.epoch) made.0.1
