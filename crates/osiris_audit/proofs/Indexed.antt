-- An index that is made anew, step by step.
use Rattle.std.proofs.Common.{◌≡◌, inl, inr, ℕ, ◌+◌, ◌<◌, List, [], ◌∷◌, ◌++◌, length, take, drop, Bool, true, false, ◌==◌, ◌^◌, Option, Some, None, Ok, Err, refl, sym, ap, subst, ◌∙◌, append_assoc, length-append, arith}
use Rattle.std.proofs.lemmas.List.{append-nil, take_at, take_all, take-append-drop, length-drop}
use Rattle.std.proofs.lemmas.Bool.{and_parts, and_from}
use Rattle.outside_io.specs.Known.{before_known, after_known}
use Rattle.outside_io.proofs.KnownLaws.{taken_more, added_none, added_more}
use Rattle.chunk_format.specs.declared.chunk.Chunk.{Chunk}
use Rattle.chunk_format.specs.Chunks.{end_of_chunk, IsChunk}
use Rattle.segment_pairs.specs.Log.{Finder, spelled, size_of, record_of, begins, segment_header, index_header, Chain, segment_of, index_of}
use Rattle.segment_pairs.proofs.Reading.{begins_parts}
use Rattle.segment_pairs.proofs.Pairs.{Chain-append, end_from-append, index-push, segment-push, length-segment}
use Rattle.osiris_audit.specs.declared.window.Fault.{Fault}
use Rattle.osiris_audit.specs.declared.window.Fault.TheVariants.{Read, Write, Memory, TooLong}
use Rattle.osiris_audit.specs.declared.indexing.Step.{Step}
use Rattle.osiris_audit.specs.Windows.{WindowState, size_read, IsOver, Goes, Drained, TakesEither, TakesBy}
use Rattle.osiris_audit.specs.Fronts.{MayBegin}
use Rattle.osiris_audit.specs.Matching.{run_in}
use Rattle.osiris_audit.specs.Steps.{end_known}
use Rattle.osiris_audit.specs.Indexing.{FirstRecords, Partial, IsStopped, Reindexes, Follows, Runs, RunsOut}
use Rattle.osiris_audit.proofs.Growing.{known_end}
use Rattle.osiris_audit.proofs.Running.{run_begins, run_stops, index_begins, keep_records}

segment_begun : (rest : List ℕ) → segment_header ++ rest ≡ segment_of [] ++ rest
unfolding segment_of
segment_begun rest = refl

segment_first : 8 ≡ length (segment_of [])
unfolding segment_of
segment_first = refl

index_first : index_header ≡ index_of []
unfolding index_of
index_first = refl

has_header : (cs : List Chunk) (seg rest : List ℕ) → seg ≡ segment_of cs ++ rest → begins segment_header seg ≡ true
unfolding segment_of
has_header cs seg rest is = ap (begins segment_header) is

stopped_by : (fault : Fault) (size : ℕ) → IsOver fault size → IsStopped fault size
stopped_by Read size over = over
stopped_by Write size over = absurd over
stopped_by Memory size over = over
stopped_by TooLong size over = over

part_by : (F : Finder) (fault : Fault) (size : ℕ) (seg text : List ℕ) → IsOver fault size → FirstRecords F seg text → Partial F fault seg text
part_by F Read size seg text over first = first
part_by F Write size seg text over first = absurd over
part_by F Memory size seg text over first = first
part_by F TooLong size seg text over first = first

-- ---- the header

pub other_header : (s0 s w : Option (List ℕ)) (window : WindowState) (seg : List ℕ) → s0 ≡ before_known seg s → TakesEither segment_header false seg s window → Reindexes (Ok false) s0 s w w
other_header s0 s w window seg took t =
    let other = t.wrong refl in
    let none : begins segment_header seg ≡ false = ap (begins segment_header) (sym (append-nil seg)) ∙ other.2 [] (λ e. refl) in
    record {
      segment = seg;
      text = [];
      took = took;
      gave = added_none w;
      makes = λ F. (
        elim (t.known refl) [ inl long ↦ inl long | inr ended ↦ inr (t.ended_is ended) ],
        omega (arith, other.0, ap length other.1, t.short),
        none,
        refl,
      );
      keeps = λ right F end idx index. keep_records F end seg idx right index;
    }

pub broken_header : (fault : Fault) (s0 s w : Option (List ℕ)) (window : WindowState) (seg : List ℕ) → s0 ≡ before_known seg s → TakesBy segment_header (Err fault) seg s window → Reindexes (Err fault) s0 s w w
broken_header fault s0 s w window seg took t = record {
  segment = seg;
  text = [];
  took = took;
  gave = added_none w;
  makes = λ F. (stopped_by fault (length seg) t.0, inr t.1, part_by F fault (length seg) seg [] t.0 (inl refl));
  keeps = λ right F end idx index. keep_records F end seg idx right index;
}

header_size : (s : Option (List ℕ)) (window : WindowState) (seg : List ℕ) → TakesEither segment_header true seg s window → length seg ≡ size_read window
header_size s window seg t = let there = t.right refl in omega (arith, there.1, ap length there.0, length-append segment_header window.rest)

-- the header of the index was not written whole
pub unwritten_header : (k : ℕ) (s0 s w0 w : Option (List ℕ)) (window : WindowState) (seg : List ℕ) → s0 ≡ before_known seg s → TakesEither segment_header true seg s window → w ≡ after_known w0 (take k index_header) → Reindexes (Err Write) s0 s w0 w
unwritten_header k s0 s w0 w window seg took t wrote =
    let there = t.right refl in
    let is : seg ≡ segment_of [] ++ window.rest = there.0 ∙ segment_begun window.rest in
    record {
      segment = seg;
      text = take k index_header;
      took = took;
      gave = wrote;
      makes = λ F.
          let run = run_begins F 0 [] seg window.rest is tt in
          let index = index_begins [] (run_in F seg) in (
            omega (arith, header_size s window seg t, t.short),
            inl (has_header [] seg window.rest is),
            (
              drop k index_header ++ index.0,
              index.1
                  ∙ ap (λ (l : List ℕ). l ++ index.0) (sym index_first ∙ sym (take-append-drop k index_header))
                  ∙ append_assoc (take k index_header) (drop k index_header) index.0,
            ),
          );
      keeps = λ right F end idx other. keep_records F end seg idx right other;
    }

pub runs_start : (s0 s w0 w : Option (List ℕ)) (window : WindowState) (seg : List ℕ) → s0 ≡ before_known seg s → TakesEither segment_header true seg s window → w ≡ after_known w0 index_header → Runs s0 s w0 w window None
runs_start s0 s w0 w window seg took t wrote =
    let there = t.right refl in
    record {
      segment = seg;
      chunks = [];
      first = 0;
      took = took;
      is = there.0 ∙ segment_begun window.rest;
      chain = tt;
      place_is = there.1 ∙ segment_first;
      end_is = refl;
      gave = wrote ∙ ap (after_known w0) index_first;
      segment_end = t.ended_is;
      short = t.short;
    }

-- ---- reading on

pub runs_grow : (n : ℕ) (b : Bool) (s0 s1 s2 w0 w : Option (List ℕ)) (window window' : WindowState) (end : Option ℕ) (piece : List ℕ) → s1 ≡ before_known piece s2 → (window.ended ≡ true → piece ≡ []) → Goes n b piece s2 window window'
    → Runs s0 s1 w0 w window end → Runs s0 s2 w0 w window' end
runs_grow n b s0 s1 s2 w0 w window window' end piece took still goes r = record {
  segment = r.segment ++ piece;
  chunks = r.chunks;
  first = r.first;
  took = taken_more s0 s1 s2 r.segment piece r.took took;
  is = ap (λ (l : List ℕ). l ++ piece) r.is ∙ append_assoc (segment_of r.chunks) window.rest piece ∙ ap (λ (l : List ℕ). segment_of r.chunks ++ l) (sym goes.rest_is);
  chain = r.chain;
  place_is = goes.place_is ∙ r.place_is;
  end_is = r.end_is;
  gave = r.gave;
  segment_end = λ e. known_end window.ended s1 s2 piece took still r.segment_end (goes.ended_is e);
  short = goes.short;
}

run_size : (s0 s w0 w : Option (List ℕ)) (window : WindowState) (end : Option ℕ) (r : Runs s0 s w0 w window end) → length r.segment ≡ size_read window
run_size s0 s w0 w window end r = omega (arith, ap length r.is, r.place_is, length-append (segment_of r.chunks) window.rest)

first_records : (F : Finder) (n : ℕ) (cs : List Chunk) (seg rest : List ℕ) → seg ≡ segment_of cs ++ rest → Chain 8 n cs → FirstRecords F seg (index_of cs)
first_records F n cs seg rest is fit =
    let run = run_begins F n cs seg rest is fit in
    inr (length cs, ap index_of (sym (ap (take (length cs)) run.1 ∙ take_at cs run.0 (length cs) refl)))

pub runs_break : (fault : Fault) (s0 s1 s2 w0 w : Option (List ℕ)) (window : WindowState) (end : Option ℕ) (piece : List ℕ) → s1 ≡ before_known piece s2 → IsOver fault (size_read window + length piece) → Runs s0 s1 w0 w window end → Reindexes (Err fault) s0 s2 w0 w
runs_break fault s0 s1 s2 w0 w window end piece took over r =
    let seg = r.segment ++ piece in
    let is : seg ≡ segment_of r.chunks ++ (window.rest ++ piece) = ap (λ (l : List ℕ). l ++ piece) r.is ∙ append_assoc (segment_of r.chunks) window.rest piece in
    let size : size_read window + length piece ≡ length seg = omega (arith, run_size s0 s1 w0 w window end r, length-append r.segment piece) in
    let here : IsOver fault (length seg) = subst (IsOver fault) size over in
    record {
      segment = seg;
      text = index_of r.chunks;
      took = taken_more s0 s1 s2 r.segment piece r.took took;
      gave = r.gave;
      makes = λ F. (
        stopped_by fault (length seg) here,
        inl (has_header r.chunks seg (window.rest ++ piece) is),
        part_by F fault (length seg) seg (index_of r.chunks) here (first_records F r.first r.chunks seg (window.rest ++ piece) is r.chain),
      );
      keeps = λ right F at idx index. keep_records F at seg idx right index;
    }

-- ---- the next chunk

end_push : (cs : List Chunk) (c : Chunk) → end_known (cs ++ c ∷ []) ≡ Some (end_of_chunk c)
end_push [] c = refl
end_push (x ∷ cs) c = ap (λ (n : ℕ). Some n) (end_from-append (end_of_chunk x) cs (c ∷ []))

chain_push : (n : ℕ) (cs : List Chunk) (c : Chunk) → Chain 8 n cs → length (segment_of cs) < 2 ^ 32 → MayBegin (end_known cs) c.first → IsChunk c → (m : ℕ) × Chain 8 m (cs ++ c ∷ [])
chain_push n [] c fit small may is = (c.first, (omega arith, refl, is, tt))
chain_push n (x ∷ cs) c fit small may is = (n, Chain-append 8 n (x ∷ cs) (c ∷ []) fit (omega (arith, small, length-segment (x ∷ cs)), may, is, tt))

segment_push : (cs : List Chunk) (c : Chunk) (seg rest : List ℕ) → seg ≡ segment_of cs ++ rest → rest ≡ spelled c ++ drop (size_of c) rest → seg ≡ segment_of (cs ++ c ∷ []) ++ drop (size_of c) rest
segment_push cs c seg rest is parts =
    is ∙ ap (λ (l : List ℕ). segment_of cs ++ l) parts ∙ sym (append_assoc (segment_of cs) (spelled c) (drop (size_of c) rest)) ∙ ap (λ (l : List ℕ). l ++ drop (size_of c) rest) (sym (segment-push cs c))

pub runs_step : (s0 s w0 w w' : Option (List ℕ)) (window window' : WindowState) (end : Option ℕ) (step : Step) → Follows window.place end window.ended window.rest (Some step) → w' ≡ after_known w step.record_bytes
    → window' ≡ record { place = window.place + step.used; rest = drop step.used window.rest; ended = window.ended } → Runs s0 s w0 w window end → Runs s0 s w0 w' window' (Some step.next)
runs_step s0 s w0 w w' window window' end step (c, at_front, may, used_is, next_is, record_is) wrote moved r =
    let cs = r.chunks ++ c ∷ [] in
    let parts = begins_parts c (size_of c) window.rest at_front in
    let small : length (segment_of r.chunks) < 2 ^ 32 = omega (arith, r.place_is, r.short) in
    let chain = chain_push r.first r.chunks c r.chain small (subst (λ (e : Option ℕ). MayBegin e c.first) r.end_is may) parts.0 in
    let place : window'.place ≡ window.place + size_of c = ap (λ (x : WindowState). x.place) moved ∙ ap (λ (k : ℕ). window.place + k) used_is in
    let rest : window'.rest ≡ drop (size_of c) window.rest = ap (λ (x : WindowState). x.rest) moved ∙ ap (λ (k : ℕ). drop k window.rest) used_is in
    record {
      segment = r.segment;
      chunks = cs;
      first = chain.0;
      took = r.took;
      is = segment_push r.chunks c r.segment window.rest r.is parts.2 ∙ ap (λ (l : List ℕ). segment_of cs ++ l) (sym rest);
      chain = chain.1;
      place_is = omega (arith, place, r.place_is, ap length (segment-push r.chunks c), length-append (segment_of r.chunks) (spelled c));
      end_is = ap (λ (k : ℕ). Some k) next_is ∙ sym (end_push r.chunks c);
      gave = added_more w0 w w' (index_of r.chunks) step.record_bytes r.gave wrote
          ∙ ap (λ (l : List ℕ). after_known w0 (index_of r.chunks ++ l)) (record_is ∙ ap (λ (p : ℕ). record_of p c) r.place_is)
          ∙ ap (after_known w0) (sym (index-push r.chunks c));
      segment_end = λ e. r.segment_end (sym (ap (λ (x : WindowState). x.ended) moved) ∙ e);
      short = omega (arith, r.short, place, ap length rest, length-drop (size_of c) window.rest, at_front.0);
    }

-- the record of the next chunk was not written whole
pub runs_unwritten : (k : ℕ) (s0 s w0 w w' : Option (List ℕ)) (window : WindowState) (end : Option ℕ) (step : Step) → Follows window.place end window.ended window.rest (Some step) → w' ≡ after_known w (take k step.record_bytes) → Runs s0 s w0 w window end
    → Reindexes (Err Write) s0 s w0 w'
runs_unwritten k s0 s w0 w w' window end step (c, at_front, may, used_is, next_is, record_is) wrote r =
    let cs = r.chunks ++ c ∷ [] in
    let parts = begins_parts c (size_of c) window.rest at_front in
    let small : length (segment_of r.chunks) < 2 ^ 32 = omega (arith, r.place_is, r.short) in
    let chain = chain_push r.first r.chunks c r.chain small (subst (λ (e : Option ℕ). MayBegin e c.first) r.end_is may) parts.0 in
    let is = segment_push r.chunks c r.segment window.rest r.is parts.2 in
    let bytes : record_of (length (segment_of r.chunks)) c ≡ step.record_bytes = ap (λ (p : ℕ). record_of p c) (sym r.place_is) ∙ sym record_is in
    record {
      segment = r.segment;
      text = index_of r.chunks ++ take k step.record_bytes;
      took = r.took;
      gave = added_more w0 w w' (index_of r.chunks) (take k step.record_bytes) r.gave wrote;
      makes = λ F.
          let run = run_begins F chain.0 cs r.segment (drop (size_of c) window.rest) is chain.1 in
          let index = index_begins cs run.0 in (
            omega (arith, run_size s0 s w0 w window end r, r.short),
            inl (has_header cs r.segment (drop (size_of c) window.rest) is),
            (
              drop k step.record_bytes ++ index.0,
              ap index_of run.1
                  ∙ index.1
                  ∙ ap (λ (l : List ℕ). l ++ index.0) (index-push r.chunks c ∙ ap (λ (l : List ℕ). index_of r.chunks ++ l) (bytes ∙ sym (take-append-drop k step.record_bytes)))
                  ∙ ap (λ (l : List ℕ). l ++ index.0) (sym (append_assoc (index_of r.chunks) (take k step.record_bytes) (drop k step.record_bytes)))
                  ∙ append_assoc (index_of r.chunks ++ take k step.record_bytes) (drop k step.record_bytes) index.0,
            ),
          );
      keeps = λ right F at idx other. keep_records F at r.segment idx right other;
    }

-- ---- the end

pub runs_out : (s0 s w0 w : Option (List ℕ)) (window : WindowState) (end : Option ℕ) → Follows window.place end window.ended window.rest None → Runs s0 s w0 w window end → RunsOut s0 s w0 w window
runs_out s0 s w0 w window end never r = record {
  segment = r.segment;
  text = index_of r.chunks;
  took = r.took;
  gave = r.gave;
  segment_size = run_size s0 s w0 w window end r;
  segment_end = r.segment_end;
  short = r.short;
  header = has_header r.chunks r.segment window.rest r.is;
  made = λ F more still.
      ap index_of (sym (run_stops F r.first r.chunks (r.segment ++ more) (window.rest ++ more) (ap (λ (l : List ℕ). l ++ more) r.is ∙ append_assoc (segment_of r.chunks) window.rest more) r.chain
      (λ c used may at. never more c used still (subst (λ (e : Option ℕ). MayBegin e c.first) (sym r.end_is) may) at)));
}

begins_more : (header seg more : List ℕ) → begins header seg ≡ true → begins header (seg ++ more) ≡ true
begins_more [] seg more is = refl
begins_more (x ∷ xs) [] more is = absurd (cc is)
begins_more (x ∷ xs) (b ∷ seg) more is =
    let both = and_parts (x == b) (begins xs seg) is in
    and_from (x == b) (begins xs (seg ++ more)) both.0 (begins_more xs seg more both.1)

pub out_closed : (s0 s s' w0 w : Option (List ℕ)) (window : WindowState) → RunsOut s0 s w0 w window → Drained (Ok tt) s s' window → Reindexes (Ok true) s0 s' w0 w
out_closed s0 s s' w0 w window r d = record {
  segment = r.segment ++ d.piece;
  text = r.text;
  took = taken_more s0 s s' r.segment d.piece r.took d.took;
  gave = r.gave;
  makes = λ F. (
    known_end window.ended s s' d.piece d.took d.still r.segment_end d.by.1,
    omega (arith, r.segment_size, d.by.0, length-append r.segment d.piece),
    begins_more segment_header r.segment d.piece r.header,
    r.made F d.piece d.still,
  );
  keeps = λ right F end idx index. keep_records F end (r.segment ++ d.piece) idx right index;
}

pub out_broken : (fault : Fault) (s0 s s' w0 w : Option (List ℕ)) (window : WindowState) → RunsOut s0 s w0 w window → Drained (Err fault) s s' window → Reindexes (Err fault) s0 s' w0 w
out_broken fault s0 s s' w0 w window r d =
    let seg = r.segment ++ d.piece in
    let size : size_read window + length d.piece ≡ length seg = omega (arith, r.segment_size, length-append r.segment d.piece) in
    let here : IsOver fault (length seg) = subst (IsOver fault) size d.by in
    record {
      segment = seg;
      text = r.text;
      took = taken_more s0 s s' r.segment d.piece r.took d.took;
      gave = r.gave;
      makes = λ F.
          let all : FirstRecords F seg r.text = inr (length (run_in F seg), r.made F d.piece d.still ∙ ap index_of (sym (take_all (length (run_in F seg)) (run_in F seg) (omega arith)))) in
          (stopped_by fault (length seg) here, inl (begins_more segment_header r.segment d.piece r.header), part_by F fault (length seg) seg r.text here all);
      keeps = λ right F end idx index. keep_records F end seg idx right index;
    }
