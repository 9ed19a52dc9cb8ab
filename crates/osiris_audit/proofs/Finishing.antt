-- An inspection whose files are read to their end.
use Rattle.std.proofs.Common.{◌≡◌, inl, inr, ℕ, ◌+◌, ◌-◌, ◌/◌, ◌≤◌, List, [], ◌++◌, length, take, drop, Bool, true, Option, Result, Ok, Err, refl, sym, ap, subst, ◌∙◌, append_assoc, length-append, arith}
use Rattle.std.proofs.lemmas.List.{take_all, take-append-drop}
use Rattle.outside_io.specs.Known.{before_known, after_known}
use Rattle.outside_io.proofs.KnownLaws.{taken_none, taken_more, added_more}
use Rattle.chunk_format.specs.declared.chunk.Chunk.{Chunk}
use Rattle.segment_pairs.specs.Log.{Finder}
use Rattle.osiris_audit.specs.declared.window.Fault.{Fault}
use Rattle.osiris_audit.specs.declared.window.Fault.TheVariants.{Read, Write, Memory, TooLong}
use Rattle.osiris_audit.specs.Windows.{WindowState, most_bytes, size_read, IsOver, Drained}
use Rattle.osiris_audit.specs.Matching.{matching}
use Rattle.osiris_audit.specs.Lines.{lines_of}
use Rattle.osiris_audit.specs.Writing.{Closes}
use Rattle.osiris_audit.specs.Inspecting.{EitherOver, Judged, FirstLines, last_line, whole_text, Ended, Stopped, Inspects}
use Rattle.osiris_audit.specs.Steps.{Judges, CutBy, Breaks}
use Rattle.osiris_audit.proofs.Growing.{known_end}
use Rattle.osiris_audit.proofs.Stepping.{over_segment, over_index}

stop_cut : (F : Finder) (fault : Fault) (seg idx : List ℕ) (s i : Option (List ℕ)) (text : List ℕ) → CutBy F fault seg idx text → Stopped F fault seg idx s i text
stop_cut F Read seg idx s i text cut = cut
stop_cut F Write seg idx s i text cut = inl cut
stop_cut F Memory seg idx s i text cut = cut
stop_cut F TooLong seg idx s i text cut = cut

-- a fault before the last line
pub inspects_broken : (fault : Fault) (s0 s i0 i w0 w : Option (List ℕ)) → Breaks fault s0 s i0 i w0 w → Inspects (Err fault) s0 s i0 i w0 w
inspects_broken fault s0 s i0 i w0 w b = record {
  segment = b.segment;
  index = b.index;
  text = b.text;
  took_segment = b.took_segment;
  took_index = b.took_index;
  gave = b.gave;
  tells = λ F. (b.over, stop_cut F fault b.segment b.index s i b.text (b.cut F));
}

-- both files were read so far, with more of each, and these chunks match
pub record Reached (good : Bool) (s0 s i0 i w0 w : Option (List ℕ)) (chunks : List Chunk) : Type 0 where
  pub segment : List ℕ
  pub index : List ℕ
  pub took_segment : s0 ≡ before_known segment s
  pub took_index : i0 ≡ before_known index i
  pub gave : w ≡ after_known w0 (lines_of chunks)
  pub judged : (F : Finder) → (matching F segment index ≡ chunks) × Judged F good segment index

reach_both : (good : Bool) (s0 s s' i0 i i' w0 w : Option (List ℕ)) (sw iw : WindowState) (more index_more : List ℕ) (j : Judges good s0 s i0 i w0 w sw iw) → s ≡ before_known more s' → i ≡ before_known index_more i' → (sw.ended ≡ true → more ≡ [])
    → (iw.ended ≡ true → index_more ≡ []) → Reached good s0 s' i0 i' w0 w j.chunks
reach_both good s0 s s' i0 i i' w0 w sw iw more index_more j took index_took still index_still = record {
  segment = j.segment ++ more;
  index = j.index ++ index_more;
  took_segment = taken_more s0 s s' j.segment more j.took_segment took;
  took_index = taken_more i0 i i' j.index index_more j.took_index index_took;
  gave = j.gave;
  judged = λ F. j.judged F more index_more still index_still;
}

-- the lines of all chunks that match
all_lines : (F : Finder) (seg idx : List ℕ) (cs : List Chunk) → matching F seg idx ≡ cs → FirstLines F seg idx (lines_of cs)
all_lines F seg idx cs is = (length cs, ap lines_of (sym is ∙ sym (take_all (length cs) (matching F seg idx) (omega (arith, ap length is)))))

cut_all : (F : Finder) (fault : Fault) (size : ℕ) (seg idx : List ℕ) (cs : List Chunk) → IsOver fault size → matching F seg idx ≡ cs → CutBy F fault seg idx (lines_of cs)
cut_all F Read size seg idx cs over is = all_lines F seg idx cs is
cut_all F Write size seg idx cs over is = absurd over
cut_all F Memory size seg idx cs over is = all_lines F seg idx cs is
cut_all F TooLong size seg idx cs over is = all_lines F seg idx cs is

reached_breaks : (fault : Fault) (size : ℕ) (good : Bool) (s0 s i0 i w0 w : Option (List ℕ)) (cs : List Chunk) (r : Reached good s0 s i0 i w0 w cs) → IsOver fault size → EitherOver fault (length r.segment) (length r.index) → Breaks fault s0 s i0 i w0 w
reached_breaks fault size good s0 s i0 i w0 w cs r over either = record {
  segment = r.segment;
  index = r.index;
  text = lines_of cs;
  took_segment = r.took_segment;
  took_index = r.took_index;
  gave = r.gave;
  over = either;
  cut = λ F. cut_all F fault size r.segment r.index cs over (r.judged F).0;
}

-- the rest of the segment was not read
pub segment_undrained : (fault : Fault) (good : Bool) (s0 s s' i0 i w0 w : Option (List ℕ)) (sw iw : WindowState) → Judges good s0 s i0 i w0 w sw iw → Drained (Err fault) s s' sw → Inspects (Err fault) s0 s' i0 i w0 w
unfolding reach_both
segment_undrained fault good s0 s s' i0 i w0 w sw iw j d =
    let r = reach_both good s0 s s' i0 i i w0 w sw iw d.piece [] j d.took (taken_none i) d.still (λ e. refl) in
    let size : size_read sw + length d.piece ≡ length (j.segment ++ d.piece) = omega (arith, j.segment_size, length-append j.segment d.piece) in
    let short : length (j.index ++ []) ≤ most_bytes = omega (arith, j.index_size, j.index_short, length-append j.index []) in
    inspects_broken fault s0 s' i0 i w0 w
    (reached_breaks fault (size_read sw + length d.piece) good s0 s' i0 i w0 w j.chunks r d.by (over_segment fault (length (j.segment ++ d.piece)) (length (j.index ++ [])) short (subst (IsOver fault) size d.by)))

-- and that of the index was not
pub index_undrained : (fault : Fault) (good : Bool) (s0 s s' i0 i i' w0 w : Option (List ℕ)) (sw iw : WindowState) → Judges good s0 s i0 i w0 w sw iw → Drained (Ok tt) s s' sw → Drained (Err fault) i i' iw → Inspects (Err fault) s0 s' i0 i' w0 w
unfolding reach_both
index_undrained fault good s0 s s' i0 i i' w0 w sw iw j d e =
    let r = reach_both good s0 s s' i0 i i' w0 w sw iw d.piece e.piece j d.took e.took d.still e.still in
    let size : size_read iw + length e.piece ≡ length (j.index ++ e.piece) = omega (arith, j.index_size, length-append j.index e.piece) in
    let short : length (j.segment ++ d.piece) ≤ most_bytes = omega (arith, j.segment_size, d.by.0, length-append j.segment d.piece) in
    inspects_broken fault s0 s' i0 i' w0 w
    (reached_breaks fault (size_read iw + length e.piece) good s0 s' i0 i' w0 w j.chunks r e.by (over_index fault (length (j.segment ++ d.piece)) (length (j.index ++ e.piece)) short (subst (IsOver fault) size e.by)))

-- ---- the last line

closed : (outcome : Result Bool Fault) (good : Bool) (s0 s i0 i w0 w w' : Option (List ℕ)) (cs : List Chunk) (r : Reached good s0 s i0 i w0 w cs) → ((F : Finder) → Ended F good r.segment r.index s i) → (length r.segment ≤ most_bytes) × (length r.index ≤ most_bytes)
    → Closes good (last_line good (length cs)) outcome w w' → Inspects outcome s0 s i0 i w0 w'
closed (Ok told) good s0 s i0 i w0 w w' cs r ended short closes = record {
  segment = r.segment;
  index = r.index;
  text = lines_of cs ++ last_line good (length cs);
  took_segment = r.took_segment;
  took_index = r.took_index;
  gave = added_more w0 w w' (lines_of cs) (last_line good (length cs)) r.gave closes.1;
  tells = λ F.
      subst (λ (b : Bool). Ended F b r.segment r.index s i × (lines_of cs ++ last_line good (length cs) ≡ whole_text F b r.segment r.index)) (sym closes.0)
      (ended F, ap (λ (l : List Chunk). lines_of l ++ last_line good (length l)) (sym (r.judged F).0));
}
closed (Err Write) good s0 s i0 i w0 w w' cs r ended short closes = record {
  segment = r.segment;
  index = r.index;
  text = lines_of cs ++ take closes.0 (last_line good (length cs));
  took_segment = r.took_segment;
  took_index = r.took_index;
  gave = added_more w0 w w' (lines_of cs) (take closes.0 (last_line good (length cs))) r.gave closes.1;
  tells = λ F.
      let line = last_line good (length cs) in
      let all : whole_text F good r.segment r.index ≡ lines_of cs ++ line = ap (λ (l : List Chunk). lines_of l ++ last_line good (length l)) (r.judged F).0 in (
        short,
        inr (
          good,
          ended F,
          (
            drop closes.0 line,
            all ∙ ap (λ (l : List ℕ). lines_of cs ++ l) (sym (take-append-drop closes.0 line)) ∙ sym (append_assoc (lines_of cs) (take closes.0 line) (drop closes.0 line)),
          ),
        ),
      );
}
closed (Err Memory) good s0 s i0 i w0 w w' cs r ended short closes = record {
  segment = r.segment;
  index = r.index;
  text = lines_of cs;
  took_segment = r.took_segment;
  took_index = r.took_index;
  gave = closes ∙ r.gave;
  tells = λ F. (short, all_lines F r.segment r.index cs (r.judged F).0);
}
closed (Err Read) good s0 s i0 i w0 w w' cs r ended short closes = absurd closes
closed (Err TooLong) good s0 s i0 i w0 w w' cs r ended short closes = absurd closes

pub inspects_closed : (outcome : Result Bool Fault) (good : Bool) (count : ℕ) (s0 s s' i0 i i' w0 w w' : Option (List ℕ)) (sw iw : WindowState) (j : Judges good s0 s i0 i w0 w sw iw) → count ≡ (iw.place - 8) / 29 → Drained (Ok tt) s s' sw
    → Drained (Ok tt) i i' iw → Closes good (last_line good count) outcome w w' → Inspects outcome s0 s' i0 i' w0 w'
unfolding reach_both
inspects_closed outcome good count s0 s s' i0 i i' w0 w w' sw iw j counted d e closes =
    let r = reach_both good s0 s s' i0 i i' w0 w sw iw d.piece e.piece j d.took e.took d.still e.still in
    let short : length (j.segment ++ d.piece) ≤ most_bytes = omega (arith, j.segment_size, d.by.0, length-append j.segment d.piece) in
    let index_short : length (j.index ++ e.piece) ≤ most_bytes = omega (arith, j.index_size, e.by.0, length-append j.index e.piece) in
    closed outcome good s0 s' i0 i' w0 w w' j.chunks r
    (λ F. record {
      segment_end = known_end sw.ended s s' d.piece d.took d.still j.segment_end d.by.1;
      index_end = known_end iw.ended i i' e.piece e.took e.still j.index_end e.by.1;
      segment_short = short;
      index_short = index_short;
      judged = (r.judged F).1;
    })
    (short, index_short) (subst (λ (n : ℕ). Closes good (last_line good n) outcome w w') (counted ∙ j.count) closes)
