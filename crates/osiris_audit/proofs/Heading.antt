-- The headers of files that are inspected.
use Rattle.std.proofs.Common.{◌≡◌, ◌⊎◌, inl, inr, ℕ, ◌+◌, ◌-◌, ◌/◌, ◌<◌, ◌≤◌, List, [], ◌++◌, length, take, drop, Bool, true, false, ◌&&◌, Option, None, Ok, Err, refl, sym, ap, subst, ◌∙◌, length-append, arith}
use Rattle.std.proofs.lemmas.List.{take_at, take-append-le, take-append-drop, length-drop}
use Rattle.std.proofs.lemmas.Bool.{and_right, cases_Bool}
use Rattle.outside_io.specs.Known.{before_known, IsEmptyKnown}
use Rattle.outside_io.proofs.KnownLaws.{taken_none, added_none}
use Rattle.segment_pairs.specs.Log.{Finder, begins, segment_header, index_header, segment_of, index_of}
use Rattle.segment_pairs.proofs.Reading.{begins_self, begins_short, begins_split}
use Rattle.segment_pairs.proofs.Pairs.{pair_headless}
use Rattle.osiris_audit.specs.declared.window.Fault.{Fault}
use Rattle.osiris_audit.specs.declared.window.Fault.TheVariants.{Read, Write, Memory, TooLong}
use Rattle.osiris_audit.specs.Windows.{WindowState, most_bytes, size_read, IsOver, IsNear, Grew, HasEnded, TakesBy, TakesHeader}
use Rattle.osiris_audit.specs.Matching.{first_in, matching, AllMatch}
use Rattle.osiris_audit.specs.Steps.{Far, Judges, CutBy, Breaks}
use Rattle.osiris_audit.proofs.Stepping.{over_segment, over_index}

segment_begun : (rest : List ℕ) → segment_header ++ rest ≡ segment_of [] ++ rest
unfolding segment_of
segment_begun rest = refl

index_begun : (rest : List ℕ) → index_header ++ rest ≡ index_of [] ++ rest
unfolding index_of
index_begun rest = refl

segment_first : 8 ≡ length (segment_of [])
unfolding segment_of
segment_first = refl

index_first : 8 ≡ length (index_of [])
unfolding index_of
index_first = refl

-- both headers were taken
pub far_start : (s0 s i0 i w : Option (List ℕ)) (sw iw : WindowState) (seg idx : List ℕ) → s0 ≡ before_known seg s → i0 ≡ before_known idx i → TakesBy segment_header (Ok true) seg s sw → TakesBy index_header (Ok true) idx i iw
    → Far s0 s i0 i w w sw iw None
far_start s0 s i0 i w sw iw seg idx took_segment took_index segment index =
    let there = segment.right refl in
    let index_there = index.right refl in
    record {
      segment = seg;
      index = idx;
      chunks = [];
      first = 0;
      took_segment = took_segment;
      took_index = took_index;
      walks = record {
        segment = there.0 ∙ segment_begun sw.rest;
        index = index_there.0 ∙ index_begun iw.rest;
        chain = tt;
        ends = there.1 ∙ segment_first;
        index_ends = index_there.1 ∙ index_first;
        end_is = refl;
      };
      end_is = refl;
      gave = added_none w;
      segment_end = segment.ended_is;
      index_end = index.ended_is;
      segment_short = segment.short;
      index_short = index.short;
    }

no_segment : (F : Finder) (seg idx : List ℕ) → begins segment_header seg ≡ false → (matching F seg idx ≡ []) × (AllMatch F seg idx → ⊥)
no_segment F seg idx none =
    (pair_headless F (first_in F seg) seg idx (ap (λ (b : Bool). b && begins index_header idx) none), λ all. absurd (let both : false ≡ true = sym none ∙ all.0 in cc))

no_index : (F : Finder) (seg idx : List ℕ) → begins index_header idx ≡ false → (matching F seg idx ≡ []) × (AllMatch F seg idx → ⊥)
unfolding index_of
no_index F seg idx none =
    let is : matching F seg idx ≡ [] = pair_headless F (first_in F seg) seg idx (and_right (begins segment_header seg) (begins index_header idx) none) in (
      is,
      λ all.
          let begun : begins index_header idx ≡ true = ap (begins index_header) (all.1 ∙ ap index_of is) ∙ begins_self index_header [] in
          absurd (let both : false ≡ true = sym none ∙ begun in cc),
    )

-- the segment has another header, and nothing was read of the index
pub wrong_segment : (s0 s i w : Option (List ℕ)) (sw iw : WindowState) (seg : List ℕ) → s0 ≡ before_known seg s → iw ≡ record { place = 0; rest = []; ended = false } → TakesBy segment_header (Ok false) seg s sw → Judges false s0 s i i w w sw iw
wrong_segment s0 s i w sw iw seg took fresh wrong =
    let other = wrong.wrong refl in
    record {
      segment = seg;
      index = [];
      chunks = [];
      took_segment = took;
      took_index = taken_none i;
      gave = added_none w;
      segment_size = omega (arith, other.0, ap length other.1);
      index_size = omega (arith, ap (λ (x : WindowState). size_read x) fresh);
      segment_end = wrong.ended_is;
      index_end = λ e. absurd (let both : false ≡ true = sym (ap (λ (x : WindowState). x.ended) fresh) ∙ e in cc);
      segment_short = wrong.short;
      index_short = omega (arith, ap (λ (x : WindowState). size_read x) fresh);
      count = ap (λ (x : WindowState). (x.place - 8) / 29) fresh;
      judged = λ F more index_more segment_ended index_ended. no_segment F (seg ++ more) ([] ++ index_more) (other.2 more segment_ended);
    }

-- the index has another header
pub wrong_index : (s0 s i0 i w : Option (List ℕ)) (sw iw : WindowState) (seg idx : List ℕ) → s0 ≡ before_known seg s → i0 ≡ before_known idx i → TakesBy segment_header (Ok true) seg s sw → TakesBy index_header (Ok false) idx i iw
    → Judges false s0 s i0 i w w sw iw
wrong_index s0 s i0 i w sw iw seg idx took_segment took_index right wrong =
    let there = right.right refl in
    let other = wrong.wrong refl in
    record {
      segment = seg;
      index = idx;
      chunks = [];
      took_segment = took_segment;
      took_index = took_index;
      gave = added_none w;
      segment_size = omega (arith, there.1, ap length there.0, length-append segment_header sw.rest);
      index_size = omega (arith, other.0, ap length other.1);
      segment_end = right.ended_is;
      index_end = wrong.ended_is;
      segment_short = right.short;
      index_short = wrong.short;
      count = ap (λ (k : ℕ). (k - 8) / 29) other.0;
      judged = λ F more index_more segment_ended index_ended. no_index F (seg ++ more) (idx ++ index_more) (other.2 index_more index_ended);
    }

cut_none : (F : Finder) (fault : Fault) (size : ℕ) (seg idx : List ℕ) → IsOver fault size → CutBy F fault seg idx []
cut_none F Read size seg idx over = (0, refl)
cut_none F Write size seg idx over = absurd over
cut_none F Memory size seg idx over = (0, refl)
cut_none F TooLong size seg idx over = (0, refl)

pub segment_breaks : (fault : Fault) (s0 s i w : Option (List ℕ)) (seg : List ℕ) → s0 ≡ before_known seg s → IsOver fault (length seg) → Breaks fault s0 s i i w w
segment_breaks fault s0 s i w seg took over = record {
  segment = seg;
  index = [];
  text = [];
  took_segment = took;
  took_index = taken_none i;
  gave = added_none w;
  over = over_segment fault (length seg) 0 (omega arith) over;
  cut = λ F. cut_none F fault (length seg) seg [] over;
}

pub index_breaks : (fault : Fault) (s0 s i0 i w : Option (List ℕ)) (seg idx : List ℕ) → s0 ≡ before_known seg s → i0 ≡ before_known idx i → length seg ≤ most_bytes → IsOver fault (length idx) → Breaks fault s0 s i0 i w w
index_breaks fault s0 s i0 i w seg idx took_segment took_index short over = record {
  segment = seg;
  index = idx;
  text = [];
  took_segment = took_segment;
  took_index = took_index;
  gave = added_none w;
  over = over_index fault (length seg) (length idx) short over;
  cut = λ F. cut_none F fault (length idx) seg idx over;
}

-- ---- one header

-- bytes in front that are a header, or not, with more behind
pub same_front : (header bytes more : List ℕ) → 8 ≤ length bytes → length header ≡ 8 → (header ≡ take 8 bytes → ⊥) → begins header (bytes ++ more) ≡ false
same_front header bytes more long len other = elim (cases_Bool (begins header (bytes ++ more))) [
  | inl is ↦
      let split = begins_split header (bytes ++ more) is in
      absurd (other (sym (take_at header (drop (length header) (bytes ++ more)) 8 len) ∙ ap (take 8) (sym split) ∙ take-append-le 8 bytes more long))
  | inr none ↦ none
]

abbrev fresh : WindowState
fresh = record { place = 0; rest = []; ended = false }

from_fresh : (n : ℕ) (b : Bool) (l0 l1 : Option (List ℕ)) (w0 w1 : WindowState) → w0 ≡ fresh → Grew n (Ok b) l0 l1 w0 w1 → Grew n (Ok b) l0 l1 fresh w1
from_fresh n b l0 l1 w0 w1 is g = subst (λ (w : WindowState). Grew n (Ok b) l0 l1 w w1) is g

known_fresh : (left : Option (List ℕ)) → HasEnded false left → IsEmptyKnown left
known_fresh left (inl e) = absurd cc
known_fresh left (inr none) = none

-- the header stands in front
pub takes_right : (header : List ℕ) (l0 l1 : Option (List ℕ)) (w0 w1 w2 : WindowState) → length header ≡ 8 → w0 ≡ fresh → Grew 8 (Ok true) l0 l1 w0 w1 → header ≡ take 8 w1.rest → w2 ≡ record { place = w1.place + 8; rest = drop 8 w1.rest; ended = w1.ended }
    → TakesHeader header (Ok true) l0 l1 w2
takes_right header l0 l1 w0 w1 w2 len new grew same moved =
    let g = from_fresh 8 true l0 l1 w0 w1 new grew in
    let rest : w2.rest ≡ drop 8 w1.rest = ap (λ (w : WindowState). w.rest) moved in
    let place : w2.place ≡ w1.place + 8 = ap (λ (w : WindowState). w.place) moved in
    let ended : w2.ended ≡ w1.ended = ap (λ (w : WindowState). w.ended) moved in
    record {
      taken = g.piece;
      took = g.took;
      by = record {
        right = λ e. (
          sym g.by.rest_is ∙ sym (take-append-drop 8 w1.rest) ∙ ap (λ (l : List ℕ). l ++ drop 8 w1.rest) (sym same) ∙ ap (λ (l : List ℕ). header ++ l) (sym rest),
          omega (arith, place, g.by.place_is),
        );
        wrong = λ e. absurd cc;
        known = λ e. absurd cc;
        ended_is = λ e. known_fresh l1 (g.by.ended_is (sym ended ∙ e));
        short = omega (arith, place, ap length rest, length-drop 8 w1.rest, g.by.some refl, g.by.short);
      };
    }

-- other bytes do
pub takes_wrong : (header : List ℕ) (l0 l1 : Option (List ℕ)) (w0 w1 : WindowState) → length header ≡ 8 → w0 ≡ fresh → Grew 8 (Ok true) l0 l1 w0 w1 → (header ≡ take 8 w1.rest → ⊥) → TakesHeader header (Ok false) l0 l1 w1
takes_wrong header l0 l1 w0 w1 len new grew other =
    let g = from_fresh 8 true l0 l1 w0 w1 new grew in
    record {
      taken = g.piece;
      took = g.took;
      by = record {
        right = λ e. absurd cc;
        wrong = λ e. (g.by.place_is, sym g.by.rest_is, λ more still. ap (λ (l : List ℕ). begins header (l ++ more)) (sym g.by.rest_is) ∙ same_front header w1.rest more (g.by.some refl) len other);
        known = λ e. inl (omega (arith, ap length g.by.rest_is, g.by.some refl));
        ended_is = λ e. known_fresh l1 (g.by.ended_is e);
        short = g.by.short;
      };
    }

-- the file ended before
pub takes_short : (header : List ℕ) (l0 l1 : Option (List ℕ)) (w0 w1 : WindowState) → length header ≡ 8 → w0 ≡ fresh → Grew 8 (Ok false) l0 l1 w0 w1 → TakesHeader header (Ok false) l0 l1 w1
takes_short header l0 l1 w0 w1 len new grew =
    let g = from_fresh 8 false l0 l1 w0 w1 new grew in
    record {
      taken = g.piece;
      took = g.took;
      by = record {
        right = λ e. absurd cc;
        wrong = λ e. (
          g.by.place_is,
          sym g.by.rest_is,
          λ more still.
              begins_short header (g.piece ++ more) (omega (arith, len, length-append g.piece more, ap length (still (g.by.end refl)), ap length g.by.rest_is, g.by.few refl)),
        );
        known = λ e. inr (g.by.end refl);
        ended_is = λ e. known_fresh l1 (g.by.ended_is e);
        short = g.by.short;
      };
    }

broken_by : (fault : Fault) (size : ℕ) → IsOver fault size → IsNear fault size 8 → (size < 8) ⊎ (fault ≡ Memory)
broken_by Read size over near = inl near
broken_by Write size over near = absurd over
broken_by Memory size over near = inr refl
broken_by TooLong size over near = absurd (omega (arith, over, near))

broken_fresh : (fault : Fault) (header : List ℕ) (l0 l1 : Option (List ℕ)) (w1 w2 : WindowState) → Grew 8 (Err fault) l0 l1 fresh w1 → TakesHeader header (Err fault) l0 l1 w2
broken_fresh fault header l0 l1 w1 w2 g =
    let size : size_read fresh + length g.piece ≡ length g.piece = omega arith in
    let over : IsOver fault (length g.piece) = subst (IsOver fault) size g.by.0 in
    record { taken = g.piece; took = g.took; by = (over, broken_by fault (length g.piece) over (subst (λ (k : ℕ). IsNear fault k 8) size g.by.1)) }

pub takes_broken : (fault : Fault) (header : List ℕ) (l0 l1 : Option (List ℕ)) (w0 w1 w2 : WindowState) → w0 ≡ fresh → Grew 8 (Err fault) l0 l1 w0 w1 → TakesHeader header (Err fault) l0 l1 w2
takes_broken fault header l0 l1 w0 w1 w2 new grew = broken_fresh fault header l0 l1 w1 w2 (subst (λ (w : WindowState). Grew 8 (Err fault) l0 l1 w w1) new grew)

pub told_as : (n : ℕ) (b c : Bool) (l0 l1 : Option (List ℕ)) (w0 w1 : WindowState) → b ≡ c → Grew n (Ok b) l0 l1 w0 w1 → Grew n (Ok c) l0 l1 w0 w1
told_as n b c l0 l1 w0 w1 is g = subst (λ (x : Bool). Grew n (Ok x) l0 l1 w0 w1) is g
