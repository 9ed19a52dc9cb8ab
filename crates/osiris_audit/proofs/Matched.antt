-- Which chunks match in files of which these were read.
use Rattle.std.proofs.Common.{◌≡◌, ℕ, zero, ◌+◌, ◌≤◌, List, [], ◌∷◌, ◌++◌, length, take, drop, Option, refl, sym, ap, subst, ◌∙◌, append_assoc, length-append, arith}
use Rattle.std.proofs.lemmas.List.{append-nil, take_at, take-append-drop, take-append-le}
use Rattle.chunk_format.specs.declared.chunk.Chunk.{Chunk}
use Rattle.chunk_format.specs.Faults.{BeginsWith}
use Rattle.chunk_format.specs.Logs.{end_from}
use Rattle.chunk_format.proofs.BeginLaws.{begins_still}
use Rattle.chunk_format.proofs.ReadLaws.{same_begun}
use Rattle.segment_pairs.specs.Log.{Finder, spelled, size_of, begins, segment_header, record_of, chunks_behind, pair_log, Chain, flat, segment_of, index_of, NoMatch}
use Rattle.segment_pairs.specs.Found.{Walks}
use Rattle.segment_pairs.proofs.Reading.{length-record, find_front, step_no}
use Rattle.segment_pairs.proofs.Pairs.{pair_front, length-segment}
use Rattle.osiris_audit.specs.Fronts.{NoChunk, MayBegin}
use Rattle.osiris_audit.specs.Matching.{first_or_zero, first_in, matching, AllMatch}
use Rattle.osiris_audit.specs.Steps.{end_known}

-- more bytes behind what was read of a segment
pub walk_segment : (n : ℕ) (seg idx : List ℕ) (place index_place end place_then : ℕ) (cs : List Chunk) (rest index_rest more next : List ℕ) → Walks n seg idx place index_place end cs rest index_rest → place_then ≡ place → next ≡ rest ++ more
    → Walks n (seg ++ more) idx place_then index_place end cs next index_rest
walk_segment n seg idx place index_place end place_then cs rest index_rest more next w same is = record {
  segment = ap (λ (l : List ℕ). l ++ more) w.segment ∙ append_assoc (segment_of cs) rest more ∙ ap (λ (l : List ℕ). segment_of cs ++ l) (sym is);
  index = w.index;
  chain = w.chain;
  ends = same ∙ w.ends;
  index_ends = w.index_ends;
  end_is = w.end_is;
}

-- and of an index
pub walk_index : (n : ℕ) (seg idx : List ℕ) (place index_place end index_then : ℕ) (cs : List Chunk) (rest index_rest more next : List ℕ) → Walks n seg idx place index_place end cs rest index_rest → index_then ≡ index_place → next ≡ index_rest ++ more
    → Walks n seg (idx ++ more) place index_then end cs rest next
walk_index n seg idx place index_place end index_then cs rest index_rest more next w same is = record {
  segment = w.segment;
  index = ap (λ (l : List ℕ). l ++ more) w.index ∙ append_assoc (index_of cs) index_rest more ∙ ap (λ (l : List ℕ). index_of cs ++ l) (sym is);
  chain = w.chain;
  ends = w.ends;
  index_ends = same ∙ w.index_ends;
  end_is = w.end_is;
}

-- and of both
pub walk_grows : (n : ℕ) (seg idx : List ℕ) (place index_place end : ℕ) (cs : List Chunk) (rest index_rest more index_more : List ℕ) → Walks n seg idx place index_place end cs rest index_rest
    → Walks n (seg ++ more) (idx ++ index_more) place index_place end cs (rest ++ more) (index_rest ++ index_more)
walk_grows n seg idx place index_place end cs rest index_rest more index_more w =
    walk_index n (seg ++ more) idx place index_place end index_place cs (rest ++ more) index_rest index_more (index_rest ++ index_more)
    (walk_segment n seg idx place index_place end place cs rest index_rest more (rest ++ more) w refl refl) refl refl

pub segment_size : (n : ℕ) (seg idx : List ℕ) (place index_place end : ℕ) (cs : List Chunk) (rest index_rest : List ℕ) → Walks n seg idx place index_place end cs rest index_rest → length seg ≡ place + length rest
segment_size n seg idx place index_place end cs rest index_rest w = omega (arith, ap length w.segment, w.ends, length-append (segment_of cs) rest)

pub index_size : (n : ℕ) (seg idx : List ℕ) (place index_place end : ℕ) (cs : List Chunk) (rest index_rest : List ℕ) → Walks n seg idx place index_place end cs rest index_rest → length idx ≡ index_place + length index_rest
index_size n seg idx place index_place end cs rest index_rest w = omega (arith, ap length w.index, w.index_ends, length-append (index_of cs) index_rest)

-- without a chunk any offset is that of the first
pub walk_anew : (n m : ℕ) (seg idx : List ℕ) (place index_place : ℕ) (rest index_rest : List ℕ) → Walks n seg idx place index_place n [] rest index_rest → Walks m seg idx place index_place m [] rest index_rest
walk_anew n m seg idx place index_place rest index_rest w = record { segment = w.segment; index = w.index; chain = tt; ends = w.ends; index_ends = w.index_ends; end_is = refl }

drop_segment : (cs : List Chunk) (rest : List ℕ) → drop 8 (segment_of cs ++ rest) ≡ flat cs ++ rest
unfolding segment_of
drop_segment cs rest = refl

-- the first offset is that of the first chunk
pub first_is : (F : Finder) (n : ℕ) (c : Chunk) (cs : List Chunk) (seg rest : List ℕ) → Chain 8 n (c ∷ cs) → seg ≡ segment_of (c ∷ cs) ++ rest → first_in F seg ≡ n
unfolding first_in
first_is F n c cs seg rest fit is =
    let front : drop 8 seg ≡ spelled c ++ (flat cs ++ rest) = ap (drop 8) is ∙ drop_segment (c ∷ cs) rest ∙ append_assoc (spelled c) (flat cs) rest in
    ap first_or_zero (ap F.find front ∙ find_front F c (flat cs ++ rest) fit.2) ∙ fit.1

-- what matches begins with the chunks so far
pub matching_front : (F : Finder) (n : ℕ) (cs : List Chunk) (seg idx rest index_rest : List ℕ) (place index_place end : ℕ) → Walks n seg idx place index_place end cs rest index_rest
    → (more : List Chunk) × (matching F seg idx ≡ cs ++ more)
matching_front F n [] seg idx rest index_rest place index_place end w = (matching F seg idx, refl)
matching_front F n (c ∷ cs) seg idx rest index_rest place index_place end w =
    let first = first_is F n c cs seg rest w.chain w.segment in (
      chunks_behind F zero (8 + length (flat (c ∷ cs))) (end_from n (c ∷ cs)) rest index_rest,
      (λ i. pair_log F (first i) (w.segment i, w.index i)) ∙ pair_front F n (c ∷ cs) rest index_rest w.chain,
    )

-- and is these alone, where nothing matches behind them
pub matching_stops : (F : Finder) (n : ℕ) (cs : List Chunk) (seg idx rest index_rest : List ℕ) (place index_place : ℕ) → Walks n seg idx place index_place (end_from n cs) cs rest index_rest
    → ((first : ℕ) → MayBegin (end_known cs) first → NoMatch place first rest index_rest) → matching F seg idx ≡ cs
matching_stops F n [] seg idx rest index_rest place index_place w never =
    let m = first_in F seg in
    (λ i. pair_log F m (w.segment i, w.index i)) ∙ pair_front F m [] rest index_rest tt ∙ step_no F 8 m rest index_rest (subst (λ (p : ℕ). NoMatch p m rest index_rest) (w.ends ∙ length-segment []) (never m tt))
matching_stops F n (c ∷ cs) seg idx rest index_rest place index_place w never =
    let first = first_is F n c cs seg rest w.chain w.segment in
    let end = end_from n (c ∷ cs) in
    let stops : NoMatch (8 + length (flat (c ∷ cs))) end rest index_rest = subst (λ (p : ℕ). NoMatch p end rest index_rest) (w.ends ∙ length-segment (c ∷ cs)) (never end refl) in
    (λ i. pair_log F (first i) (w.segment i, w.index i))
    ∙ pair_front F n (c ∷ cs) rest index_rest w.chain
    ∙ ap (λ (l : List Chunk). (c ∷ cs) ++ l) (step_no F (8 + length (flat (c ∷ cs))) end rest index_rest stops)
    ∙ append-nil (c ∷ cs)

-- all match where no byte is left of the index, and not all where some are
pub all_match : (F : Finder) (cs : List Chunk) (seg idx rest : List ℕ) → matching F seg idx ≡ cs → seg ≡ segment_of cs ++ rest → idx ≡ index_of cs → AllMatch F seg idx
unfolding segment_of
all_match F cs seg idx rest is segment index = (ap (begins segment_header) segment, index ∙ ap index_of (sym is))

pub not_all : (F : Finder) (cs : List Chunk) (seg idx index_rest : List ℕ) → matching F seg idx ≡ cs → idx ≡ index_of cs ++ index_rest → 1 ≤ length index_rest → AllMatch F seg idx → ⊥
not_all F cs seg idx index_rest is index some all =
    let same = ap length (all.1 ∙ ap index_of is) in
    omega (arith, same, ap length index, length-append (index_of cs) index_rest, some)

-- a chunk in front whose record does not stand in front of the index
pub other_record : (place : ℕ) (end : Option ℕ) (c : Chunk) (seg idx more index_more : List ℕ) (first : ℕ) → 29 ≤ length idx → BeginsWith c (size_of c) seg → (MayBegin end c.first × (idx ≡ record_of place c ++ drop 29 idx) → ⊥) → MayBegin end first
    → NoMatch place first (seg ++ more) (idx ++ index_more)
other_record place end c seg idx more index_more first long begins other may d m =
    let same : c ≡ d = (same_begun c d (size_of c) (size_of d) (seg ++ more) (begins_still c (size_of c) seg more begins) m.begins_with).0 in
    let begun : MayBegin end c.first = subst (MayBegin end) (sym m.first ∙ ap (λ (x : Chunk). x.first) (sym same)) may in
    let front : take 29 idx ≡ record_of place c =
    sym (take-append-le 29 idx index_more long) ∙ ap (take 29) m.recorded ∙ take_at (record_of place d) (drop 29 (idx ++ index_more)) 29 (length-record place d) ∙ ap (record_of place) (sym same) in
    other (begun, sym (take-append-drop 29 idx) ∙ ap (λ (l : List ℕ). l ++ drop 29 idx) front)

-- no chunk in front
pub no_chunk_matches : (place first : ℕ) (seg idx : List ℕ) → NoChunk seg → NoMatch place first seg idx
no_chunk_matches place first seg idx none d m = none d (size_of d) m.begins_with
