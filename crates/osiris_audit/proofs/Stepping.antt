-- An inspection, step by step.
use Rattle.std.proofs.Common.{◌≡◌, inl, inr, ℕ, suc, ◌+◌, ◌-◌, ◌*◌, ◌/◌, ◌<◌, ◌≤◌, List, [], ◌∷◌, ◌++◌, length, take, drop, Bool, true, false, ◌==◌, Option, Some, refl, sym, ap, subst, ◌∙◌, append_assoc, length-append, arith}
use Rattle.std.proofs.lemmas.List.{append-nil, take_at, take-append-drop, length-drop}
use Rattle.std.proofs.lemmas.Grind.{flat_map-append}
use Rattle.std.proofs.lemmas.Bool.{eqb-true, eq-eqb}
use Rattle.outside_io.specs.Known.{before_known, after_known}
use Rattle.outside_io.proofs.KnownLaws.{taken_more, added_more}
use Rattle.chunk_format.specs.declared.chunk.Chunk.{Chunk}
use Rattle.chunk_format.specs.Chunks.{end_of_chunk}
use Rattle.chunk_format.specs.Logs.{end_from}
use Rattle.segment_pairs.specs.Log.{Finder, size_of, segment_of, index_of, Matches, NoMatch}
use Rattle.segment_pairs.specs.Found.{Walks}
use Rattle.segment_pairs.proofs.Reading.{no_match_short}
use Rattle.segment_pairs.proofs.Pairs.{end_from-append, length-index}
use Rattle.segment_pairs.proofs.Walking.{walk_more, match_fits, match_long}
use Rattle.osiris_audit.specs.declared.window.Fault.{Fault}
use Rattle.osiris_audit.specs.declared.window.Fault.TheVariants.{Read, Write, Memory, TooLong}
use Rattle.osiris_audit.specs.declared.inspection.Look.TheVariants as look
use Rattle.osiris_audit.specs.Windows.{WindowState, most_bytes, size_read, IsOver, Goes}
use Rattle.osiris_audit.specs.Fronts.{MayBegin}
use Rattle.osiris_audit.specs.Matching.{matching}
use Rattle.osiris_audit.specs.Lines.{chunk_lines, lines_of}
use Rattle.osiris_audit.specs.Inspecting.{EitherOver, Judged, FirstLines}
use Rattle.osiris_audit.specs.Steps.{end_known, Looks, Far, Judges, CutBy, Breaks}
use Rattle.osiris_audit.proofs.Growing.{known_end}
use Rattle.osiris_audit.proofs.Matched.{walk_segment, walk_index, walk_grows, walk_anew, segment_size, index_size, matching_front, matching_stops, all_match, not_all}

-- ---- reading on

pub far_index : (n : ℕ) (b : Bool) (s0 s i0 i1 i2 w0 w : Option (List ℕ)) (sw iw iw' : WindowState) (end : Option ℕ) (piece : List ℕ) → i1 ≡ before_known piece i2 → (iw.ended ≡ true → piece ≡ []) → Goes n b piece i2 iw iw'
    → Far s0 s i0 i1 w0 w sw iw end → Far s0 s i0 i2 w0 w sw iw' end
far_index n b s0 s i0 i1 i2 w0 w sw iw iw' end piece took still goes far = record {
  segment = far.segment;
  index = far.index ++ piece;
  chunks = far.chunks;
  first = far.first;
  took_segment = far.took_segment;
  took_index = taken_more i0 i1 i2 far.index piece far.took_index took;
  walks = walk_index far.first far.segment far.index sw.place iw.place (end_from far.first far.chunks) iw'.place far.chunks sw.rest iw.rest piece iw'.rest far.walks goes.place_is goes.rest_is;
  end_is = far.end_is;
  gave = far.gave;
  segment_end = far.segment_end;
  index_end = λ e. known_end iw.ended i1 i2 piece took still far.index_end (goes.ended_is e);
  segment_short = far.segment_short;
  index_short = goes.short;
}

pub far_segment : (n : ℕ) (b : Bool) (s0 s1 s2 i0 i w0 w : Option (List ℕ)) (sw sw' iw : WindowState) (end : Option ℕ) (piece : List ℕ) → s1 ≡ before_known piece s2 → (sw.ended ≡ true → piece ≡ []) → Goes n b piece s2 sw sw'
    → Far s0 s1 i0 i w0 w sw iw end → Far s0 s2 i0 i w0 w sw' iw end
far_segment n b s0 s1 s2 i0 i w0 w sw sw' iw end piece took still goes far = record {
  segment = far.segment ++ piece;
  index = far.index;
  chunks = far.chunks;
  first = far.first;
  took_segment = taken_more s0 s1 s2 far.segment piece far.took_segment took;
  took_index = far.took_index;
  walks = walk_segment far.first far.segment far.index sw.place iw.place (end_from far.first far.chunks) sw'.place far.chunks sw.rest iw.rest piece sw'.rest far.walks goes.place_is goes.rest_is;
  end_is = far.end_is;
  gave = far.gave;
  segment_end = λ e. known_end sw.ended s1 s2 piece took still far.segment_end (goes.ended_is e);
  index_end = far.index_end;
  segment_short = goes.short;
  index_short = far.index_short;
}

-- ---- faults

-- the lines so far are those of the first chunks that match
pub first_lines : (F : Finder) (n : ℕ) (cs : List Chunk) (seg idx rest index_rest : List ℕ) (place index_place end : ℕ) → Walks n seg idx place index_place end cs rest index_rest → FirstLines F seg idx (lines_of cs)
first_lines F n cs seg idx rest index_rest place index_place end w =
    let front = matching_front F n cs seg idx rest index_rest place index_place end w in
    (length cs, ap lines_of (sym (ap (take (length cs)) front.1 ∙ take_at cs front.0 (length cs) refl)))

cut_by : (F : Finder) (fault : Fault) (seg idx text : List ℕ) (size : ℕ) → IsOver fault size → FirstLines F seg idx text → CutBy F fault seg idx text
cut_by F Read seg idx text size over lines = lines
cut_by F Write seg idx text size over lines = absurd over
cut_by F Memory seg idx text size over lines = lines
cut_by F TooLong seg idx text size over lines = lines

pub over_segment : (fault : Fault) (m n : ℕ) → n ≤ most_bytes → IsOver fault m → EitherOver fault m n
over_segment Read m n short over = (over, short)
over_segment Write m n short over = absurd over
over_segment Memory m n short over = (over, short)
over_segment TooLong m n short over = inl over

pub over_index : (fault : Fault) (m n : ℕ) → m ≤ most_bytes → IsOver fault n → EitherOver fault m n
over_index Read m n short over = (short, over)
over_index Write m n short over = absurd over
over_index Memory m n short over = (short, over)
over_index TooLong m n short over = inr over

pub far_index_breaks : (fault : Fault) (s0 s i0 i1 i2 w0 w : Option (List ℕ)) (sw iw : WindowState) (end : Option ℕ) (piece : List ℕ) → i1 ≡ before_known piece i2 → IsOver fault (size_read iw + length piece)
    → Far s0 s i0 i1 w0 w sw iw end → Breaks fault s0 s i0 i2 w0 w
far_index_breaks fault s0 s i0 i1 i2 w0 w sw iw end piece took over far =
    let walks = walk_index far.first far.segment far.index sw.place iw.place (end_from far.first far.chunks) iw.place far.chunks sw.rest iw.rest piece (iw.rest ++ piece) far.walks refl refl in
    let seg_len = segment_size far.first far.segment far.index sw.place iw.place (end_from far.first far.chunks) far.chunks sw.rest iw.rest far.walks in
    let idx_len = index_size far.first far.segment far.index sw.place iw.place (end_from far.first far.chunks) far.chunks sw.rest iw.rest far.walks in
    let size : size_read iw + length piece ≡ length (far.index ++ piece) = omega (arith, idx_len, length-append far.index piece) in
    record {
      segment = far.segment;
      index = far.index ++ piece;
      text = lines_of far.chunks;
      took_segment = far.took_segment;
      took_index = taken_more i0 i1 i2 far.index piece far.took_index took;
      gave = far.gave;
      over = over_index fault (length far.segment) (length (far.index ++ piece)) (omega (arith, seg_len, far.segment_short)) (subst (IsOver fault) size over);
      cut = λ F. cut_by F fault far.segment (far.index ++ piece) (lines_of far.chunks) (size_read iw + length piece) over
          (first_lines F far.first far.chunks far.segment (far.index ++ piece) sw.rest (iw.rest ++ piece) sw.place iw.place (end_from far.first far.chunks) walks);
    }

pub far_segment_breaks : (fault : Fault) (s0 s1 s2 i0 i w0 w : Option (List ℕ)) (sw iw : WindowState) (end : Option ℕ) (piece : List ℕ) → s1 ≡ before_known piece s2 → IsOver fault (size_read sw + length piece)
    → Far s0 s1 i0 i w0 w sw iw end → Breaks fault s0 s2 i0 i w0 w
far_segment_breaks fault s0 s1 s2 i0 i w0 w sw iw end piece took over far =
    let walks = walk_segment far.first far.segment far.index sw.place iw.place (end_from far.first far.chunks) sw.place far.chunks sw.rest iw.rest piece (sw.rest ++ piece) far.walks refl refl in
    let seg_len = segment_size far.first far.segment far.index sw.place iw.place (end_from far.first far.chunks) far.chunks sw.rest iw.rest far.walks in
    let idx_len = index_size far.first far.segment far.index sw.place iw.place (end_from far.first far.chunks) far.chunks sw.rest iw.rest far.walks in
    let size : size_read sw + length piece ≡ length (far.segment ++ piece) = omega (arith, seg_len, length-append far.segment piece) in
    record {
      segment = far.segment ++ piece;
      index = far.index;
      text = lines_of far.chunks;
      took_segment = taken_more s0 s1 s2 far.segment piece far.took_segment took;
      took_index = far.took_index;
      gave = far.gave;
      over = over_segment fault (length (far.segment ++ piece)) (length far.index) (omega (arith, idx_len, far.index_short)) (subst (IsOver fault) size over);
      cut = λ F. cut_by F fault (far.segment ++ piece) far.index (lines_of far.chunks) (size_read sw + length piece) over
          (first_lines F far.first far.chunks (far.segment ++ piece) far.index (sw.rest ++ piece) iw.rest sw.place iw.place (end_from far.first far.chunks) walks);
    }

-- ---- the last record

counted : (cs : List Chunk) (place : ℕ) → place ≡ length (index_of cs) → (place - 8) / 29 ≡ length cs
counted cs place is =
    let size : place ≡ 8 + 29 * length cs = is ∙ length-index cs in
    omega (arith, size)

-- no record matches, whatever comes
judge_with : (good : Bool) (s0 s i0 i w0 w : Option (List ℕ)) (sw iw : WindowState) (end : Option ℕ) (far : Far s0 s i0 i w0 w sw iw end)
    → ((more index_more : List ℕ) (first : ℕ) → (sw.ended ≡ true → more ≡ []) → (iw.ended ≡ true → index_more ≡ []) → MayBegin end first → NoMatch sw.place first (sw.rest ++ more) (iw.rest ++ index_more))
    → ((F : Finder) (more index_more : List ℕ) → (iw.ended ≡ true → index_more ≡ []) → matching F (far.segment ++ more) (far.index ++ index_more) ≡ far.chunks → Judged F good (far.segment ++ more) (far.index ++ index_more))
    → Judges good s0 s i0 i w0 w sw iw
judge_with good s0 s i0 i w0 w sw iw end far never told = record {
  segment = far.segment;
  index = far.index;
  chunks = far.chunks;
  took_segment = far.took_segment;
  took_index = far.took_index;
  gave = far.gave;
  segment_size = segment_size far.first far.segment far.index sw.place iw.place (end_from far.first far.chunks) far.chunks sw.rest iw.rest far.walks;
  index_size = index_size far.first far.segment far.index sw.place iw.place (end_from far.first far.chunks) far.chunks sw.rest iw.rest far.walks;
  segment_end = far.segment_end;
  index_end = far.index_end;
  segment_short = far.segment_short;
  index_short = far.index_short;
  count = counted far.chunks iw.place far.walks.index_ends;
  judged = λ F more index_more segment_ended index_ended.
      let walks = walk_grows far.first far.segment far.index sw.place iw.place (end_from far.first far.chunks) far.chunks sw.rest iw.rest more index_more far.walks in
      let is : matching F (far.segment ++ more) (far.index ++ index_more) ≡ far.chunks =
      matching_stops F far.first far.chunks (far.segment ++ more) (far.index ++ index_more) (sw.rest ++ more) (iw.rest ++ index_more) sw.place iw.place walks
      (λ first may. never more index_more first segment_ended index_ended (subst (λ (e : Option ℕ). MayBegin e first) (sym far.end_is) may)) in
      (is, told F more index_more index_ended is);
}

no_byte : (n : ℕ) → true ≡ (suc n == 0) → ⊥
no_byte n e = omega (arith, eqb-true (suc n) 0 (sym e))

some_byte : false ≡ (0 == 0) → ⊥
some_byte e = absurd (let both : false ≡ true = e ∙ eq-eqb 0 0 refl in cc)

-- less than a record is left of the index: all matched where nothing is left
told_end : (b : Bool) (F : Finder) (cs : List Chunk) (seg idx rest index_rest : List ℕ) → b ≡ (length index_rest == 0) → matching F seg idx ≡ cs → seg ≡ segment_of cs ++ rest → idx ≡ index_of cs ++ index_rest → Judged F b seg idx
told_end true F cs seg idx [] [] none is segment index = all_match F cs seg idx [] is segment (index ∙ append-nil (index_of cs))
told_end true F cs seg idx (x ∷ rest) [] none is segment index = all_match F cs seg idx (x ∷ rest) is segment (index ∙ append-nil (index_of cs))
told_end true F cs seg idx rest (x ∷ index_rest) none is segment index = absurd (no_byte (length index_rest) none)
told_end false F cs seg idx rest [] none is segment index = absurd (some_byte none)
told_end false F cs seg idx rest (x ∷ index_rest) none is segment index = not_all F cs seg idx (x ∷ index_rest) is index (omega arith)

pub judges_end : (b : Bool) (s0 s i0 i w0 w : Option (List ℕ)) (sw iw : WindowState) (end : Option ℕ) → b ≡ (length iw.rest == 0) → length iw.rest < 29 → iw.ended ≡ true → Far s0 s i0 i w0 w sw iw end → Judges b s0 s i0 i w0 w sw iw
judges_end b s0 s i0 i w0 w sw iw end is few ended far =
    judge_with b s0 s i0 i w0 w sw iw end far
    (λ more index_more first segment_ended index_ended may.
    no_match_short sw.place first (sw.rest ++ more) (iw.rest ++ index_more) (omega (arith, few, length-append iw.rest index_more, ap length (index_ended ended))))
    (λ F more index_more index_ended same.
    let walks = walk_grows far.first far.segment far.index sw.place iw.place (end_from far.first far.chunks) far.chunks sw.rest iw.rest more index_more far.walks in
    let rest : iw.rest ++ index_more ≡ iw.rest = ap (λ (l : List ℕ). iw.rest ++ l) (index_ended ended) ∙ append-nil iw.rest in
    told_end b F far.chunks (far.segment ++ more) (far.index ++ index_more) (sw.rest ++ more) (iw.rest ++ index_more) (is ∙ ap (λ (l : List ℕ). length l == 0) (sym rest)) same walks.segment walks.index)

pub judges_wrong : (s0 s i0 i w0 w : Option (List ℕ)) (sw iw : WindowState) (end : Option ℕ) (text : List ℕ) → 29 ≤ length iw.rest → Looks sw.place end sw.ended sw.rest iw.rest text look.Wrong → Far s0 s i0 i w0 w sw iw end
    → Judges false s0 s i0 i w0 w sw iw
judges_wrong s0 s i0 i w0 w sw iw end text long wrong far =
    judge_with false s0 s i0 i w0 w sw iw end far
    (λ more index_more first segment_ended index_ended may. wrong more index_more first segment_ended may)
    (λ F more index_more index_ended same.
    let walks = walk_grows far.first far.segment far.index sw.place iw.place (end_from far.first far.chunks) far.chunks sw.rest iw.rest more index_more far.walks in
    not_all F far.chunks (far.segment ++ more) (far.index ++ index_more) (iw.rest ++ index_more) same walks.index (omega (arith, long, length-append iw.rest index_more)))

-- ---- a record that matches

end_push : (cs : List Chunk) (c : Chunk) → end_known (cs ++ c ∷ []) ≡ Some (end_of_chunk c)
end_push [] c = refl
end_push (x ∷ cs) c = ap (λ (n : ℕ). Some n) (end_from-append (end_of_chunk x) cs (c ∷ []))

-- from which first offset the chunk goes on
record Begun (seg idx : List ℕ) (place index_place : ℕ) (cs : List Chunk) (rest index_rest : List ℕ) (c : Chunk) : Type 0 where
  first : ℕ
  walks : Walks first seg idx place index_place (end_from first cs) cs rest index_rest
  is : c.first ≡ end_from first cs

begin_at : (n : ℕ) (seg idx : List ℕ) (place index_place : ℕ) (cs : List Chunk) (rest index_rest : List ℕ) (c : Chunk) → Walks n seg idx place index_place (end_from n cs) cs rest index_rest → MayBegin (end_known cs) c.first
    → Begun seg idx place index_place cs rest index_rest c
begin_at n seg idx place index_place [] rest index_rest c w may = record { first = c.first; walks = walk_anew n c.first seg idx place index_place rest index_rest w; is = refl }
begin_at n seg idx place index_place (x ∷ cs) rest index_rest c w may = record { first = n; walks = w; is = may }

at_first : (place first : ℕ) (seg idx : List ℕ) (c : Chunk) → Matches place c.first seg idx c → c.first ≡ first → Matches place first seg idx c
at_first place first seg idx c m is = record { begins_with = m.begins_with; first = is; fits = m.fits; recorded = m.recorded }

-- the chunks with the one whose record matches
record Pushed (seg idx : List ℕ) (place index_place : ℕ) (cs : List Chunk) (rest index_rest : List ℕ) (c : Chunk) : Type 0 where
  first : ℕ
  walks : Walks first seg idx (place + size_of c) (index_place + 29) (end_from first (cs ++ c ∷ [])) (cs ++ c ∷ []) (drop (size_of c) rest) (drop 29 index_rest)

push_chunk : (n : ℕ) (seg idx : List ℕ) (place index_place : ℕ) (cs : List Chunk) (rest index_rest : List ℕ) (c : Chunk) → Walks n seg idx place index_place (end_from n cs) cs rest index_rest → MayBegin (end_known cs) c.first
    → Matches place c.first rest index_rest c → Pushed seg idx place index_place cs rest index_rest c
push_chunk n seg idx place index_place cs rest index_rest c w may m =
    let b = begin_at n seg idx place index_place cs rest index_rest c w may in
    record {
      first = b.first;
      walks = walk_more b.first seg idx place index_place (end_from b.first cs) cs (cs ++ c ∷ []) c rest index_rest (drop (size_of c) rest) (drop 29 index_rest) (size_of c) (place + size_of c) (index_place + 29) (end_from b.first (cs ++ c ∷ [])) b.walks
          (at_first place (end_from b.first cs) rest index_rest c m b.is) refl refl refl refl refl refl (end_from-append b.first cs (c ∷ []));
    }

lines_push : (cs : List Chunk) (c : Chunk) → lines_of (cs ++ c ∷ []) ≡ lines_of cs ++ chunk_lines c
lines_push cs c = flat_map-append chunk_lines cs (c ∷ []) ∙ ap (λ (l : List ℕ). lines_of cs ++ l) (append-nil (chunk_lines c))

pub far_matched : (s0 s i0 i w0 w w' : Option (List ℕ)) (sw sw' iw iw' : WindowState) (end : Option ℕ) (text : List ℕ) (used next : ℕ) → Looks sw.place end sw.ended sw.rest iw.rest text (look.Match used next) → w' ≡ after_known w text
    → sw' ≡ record { place = sw.place + used; rest = drop used sw.rest; ended = sw.ended } → iw' ≡ record { place = iw.place + 29; rest = drop 29 iw.rest; ended = iw.ended }
    → Far s0 s i0 i w0 w sw iw end → Far s0 s i0 i w0 w' sw' iw' (Some next)
far_matched s0 s i0 i w0 w w' sw sw' iw iw' end text used next (c, m, may, used_is, next_is, text_is) wrote segment_is index_is far =
    let after = push_chunk far.first far.segment far.index sw.place iw.place far.chunks sw.rest iw.rest c far.walks (subst (λ (e : Option ℕ). MayBegin e c.first) far.end_is may) m in
    let cs = far.chunks ++ c ∷ [] in
    let sw_place : sw'.place ≡ sw.place + size_of c = ap (λ (x : WindowState). x.place) segment_is ∙ ap (λ (k : ℕ). sw.place + k) used_is in
    let sw_rest : sw'.rest ≡ drop (size_of c) sw.rest = ap (λ (x : WindowState). x.rest) segment_is ∙ ap (λ (k : ℕ). drop k sw.rest) used_is in
    let iw_place : iw'.place ≡ iw.place + 29 = ap (λ (x : WindowState). x.place) index_is in
    let iw_rest : iw'.rest ≡ drop 29 iw.rest = ap (λ (x : WindowState). x.rest) index_is in
    let sw_ended : sw'.ended ≡ sw.ended = ap (λ (x : WindowState). x.ended) segment_is in
    let iw_ended : iw'.ended ≡ iw.ended = ap (λ (x : WindowState). x.ended) index_is in
    record {
      segment = far.segment;
      index = far.index;
      chunks = cs;
      first = after.first;
      took_segment = far.took_segment;
      took_index = far.took_index;
      walks = record {
        segment = after.walks.segment ∙ ap (λ (l : List ℕ). segment_of cs ++ l) (sym sw_rest);
        index = after.walks.index ∙ ap (λ (l : List ℕ). index_of cs ++ l) (sym iw_rest);
        chain = after.walks.chain;
        ends = sw_place ∙ after.walks.ends;
        index_ends = iw_place ∙ after.walks.index_ends;
        end_is = refl;
      };
      end_is = ap (λ (k : ℕ). Some k) next_is ∙ sym (end_push far.chunks c);
      gave = added_more w0 w w' (lines_of far.chunks) text far.gave wrote ∙ ap (after_known w0) (ap (λ (l : List ℕ). lines_of far.chunks ++ l) text_is ∙ sym (lines_push far.chunks c));
      segment_end = λ e. far.segment_end (sym sw_ended ∙ e);
      index_end = λ e. far.index_end (sym iw_ended ∙ e);
      segment_short = omega (arith, far.segment_short, sw_place, ap length sw_rest, length-drop (size_of c) sw.rest, match_fits sw.place c.first sw.rest iw.rest c (size_of c) m refl);
      index_short = omega (arith, far.index_short, iw_place, ap length iw_rest, length-drop 29 iw.rest, match_long sw.place c.first sw.rest iw.rest c m);
    }

-- the lines of a chunk that matches were not written whole
pub far_unwritten : (s0 s i0 i w0 w w' : Option (List ℕ)) (sw iw : WindowState) (end : Option ℕ) (text : List ℕ) (used next k : ℕ) → Looks sw.place end sw.ended sw.rest iw.rest text (look.Match used next) → w' ≡ after_known w (take k text)
    → Far s0 s i0 i w0 w sw iw end → Breaks Write s0 s i0 i w0 w'
far_unwritten s0 s i0 i w0 w w' sw iw end text used next k (c, m, may, used_is, next_is, text_is) wrote far =
    let after = push_chunk far.first far.segment far.index sw.place iw.place far.chunks sw.rest iw.rest c far.walks (subst (λ (e : Option ℕ). MayBegin e c.first) far.end_is may) m in
    let cs = far.chunks ++ c ∷ [] in
    let seg_len = segment_size far.first far.segment far.index sw.place iw.place (end_from far.first far.chunks) far.chunks sw.rest iw.rest far.walks in
    let idx_len = index_size far.first far.segment far.index sw.place iw.place (end_from far.first far.chunks) far.chunks sw.rest iw.rest far.walks in
    record {
      segment = far.segment;
      index = far.index;
      text = lines_of far.chunks ++ take k text;
      took_segment = far.took_segment;
      took_index = far.took_index;
      gave = added_more w0 w w' (lines_of far.chunks) (take k text) far.gave wrote;
      over = (omega (arith, seg_len, far.segment_short), omega (arith, idx_len, far.index_short));
      cut = λ F.
          let front = matching_front F after.first cs far.segment far.index (drop (size_of c) sw.rest) (drop 29 iw.rest) (sw.place + size_of c) (iw.place + 29) (end_from after.first cs) after.walks in (
            drop k text ++ lines_of front.0,
            ap lines_of front.1
                ∙ flat_map-append chunk_lines cs front.0
                ∙ ap (λ (l : List ℕ). l ++ lines_of front.0) (lines_push far.chunks c ∙ ap (λ (l : List ℕ). lines_of far.chunks ++ l) (sym text_is ∙ sym (take-append-drop k text)))
                ∙ ap (λ (l : List ℕ). l ++ lines_of front.0) (sym (append_assoc (lines_of far.chunks) (take k text) (drop k text)))
                ∙ append_assoc (lines_of far.chunks ++ take k text) (drop k text) (lines_of front.0),
          );
    }
