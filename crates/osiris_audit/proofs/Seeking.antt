-- Reading a segment on up to the next chunk.
use Rattle.std.proofs.Common.{◌≡◌, ℕ, ◌+◌, List, ◌++◌, length, Bool, true, false, Option, Some, None, Ok, Err, refl, sym, ap, subst, ◌∙◌, arith}
use Rattle.std.proofs.lemmas.List.{append-nil}
use Rattle.chunk_format.specs.Faults.{BeginsWith}
use Rattle.segment_pairs.specs.Log.{size_of}
use Rattle.osiris_audit.specs.declared.window.Fault.{Fault}
use Rattle.osiris_audit.specs.declared.indexing.Step.{Step}
use Rattle.osiris_audit.specs.declared.inspection.Look.{Look}
use Rattle.osiris_audit.specs.declared.inspection.Look.TheVariants as look
use Rattle.osiris_audit.specs.Windows.{WindowState, size_read, IsOver, Grew}
use Rattle.osiris_audit.specs.Fronts.{NoChunk}
use Rattle.osiris_audit.specs.Steps.{Looks, LooksOr, Finds}
use Rattle.osiris_audit.specs.Indexing.{Follows, FollowsOr, Nexts}
use Rattle.osiris_audit.proofs.Growing.{grew_then, size_goes, none_came}

-- ---- of an index that is made

follows_on : (place at : ℕ) (end : Option ℕ) (ended : Bool) (seg : List ℕ) (found : Option Step) → place ≡ at → Follows place end false seg found → Follows at end ended seg found
follows_on place at end ended seg (Some step) is f = subst (λ (p : ℕ). Follows p end false seg (Some step)) is f
follows_on place at end ended seg None is f = λ more c used still. f more c used (λ e. absurd cc)

pub nexts_found : (place : ℕ) (end : Option ℕ) (found : Option Step) (l0 l1 : Option (List ℕ)) (w0 w1 : WindowState) → place ≡ w0.place → FollowsOr place end w1.rest (Some found) → Grew 0 (Ok true) l0 l1 w0 w1 → Nexts end (Ok found) l0 l1 w0 w1
nexts_found place end found l0 l1 w0 w1 is f g = record { piece = g.piece; took = g.took; still = g.still; by = (g.by, follows_on place w1.place end w1.ended w1.rest found (is ∙ sym g.by.place_is) f) }

pub nexts_ended : (m : ℕ) (end : Option ℕ) (l0 l1 l2 : Option (List ℕ)) (w0 w1 w2 : WindowState) → m ≡ 1 + length w1.rest → NoChunk w1.rest → Grew 0 (Ok true) l0 l1 w0 w1 → Grew m (Ok false) l1 l2 w1 w2 → Nexts end (Ok None) l0 l2 w0 w2
nexts_ended m end l0 l1 l2 w0 w1 w2 is none one two =
    let all = grew_then 0 m (Ok false) l0 l1 l2 w0 w1 w2 one two in
    record {
      piece = all.piece;
      took = all.took;
      still = all.still;
      by = (
        record {
          place_is = all.by.place_is;
          rest_is = all.by.rest_is;
          some = λ e. omega arith;
          few = λ e. absurd cc;
          end = λ e. absurd cc;
          keeps = all.by.keeps;
          ended_is = all.by.ended_is;
          short = all.by.short;
        },
        λ more c used still may at.
            let same : w2.rest ++ more ≡ w1.rest = ap (λ (l : List ℕ). w2.rest ++ l) (still (two.by.end refl)) ∙ append-nil w2.rest ∙ none_came m l1 l2 w1 w2 is two in
            none c used (subst (BeginsWith c used) same at),
      );
    }

pub nexts_broken : (fault : Fault) (m : ℕ) (end : Option ℕ) (l0 l1 l2 : Option (List ℕ)) (w0 w1 w2 w3 : WindowState) → Grew 0 (Ok true) l0 l1 w0 w1 → Grew m (Err fault) l1 l2 w1 w2 → Nexts end (Err fault) l0 l2 w0 w3
nexts_broken fault m end l0 l1 l2 w0 w1 w2 w3 one two =
    let all = grew_then 0 m (Err fault) l0 l1 l2 w0 w1 w2 one two in
    record { piece = all.piece; took = all.took; still = all.still; by = all.by.0 }

-- ---- of an index that is looked at

looks_on : (place at : ℕ) (end : Option ℕ) (ended : Bool) (seg idx text : List ℕ) (found : Look) → place ≡ at → Looks place end false seg idx text found → Looks at end ended seg idx text found
looks_on place at end ended seg idx text (look.Match used next) is f = subst (λ (p : ℕ). Looks p end false seg idx text (look.Match used next)) is f
looks_on place at end ended seg idx text look.Wrong is f = subst (λ (p : ℕ). Looks p end ended seg idx text look.Wrong) is (λ more index_more first still. f more index_more first (λ e. absurd cc))

pub finds_found : (place : ℕ) (end : Option ℕ) (idx text : List ℕ) (found : Look) (l0 l1 : Option (List ℕ)) (w0 w1 : WindowState) → place ≡ w0.place → LooksOr place end w1.rest idx text (Some found) → Grew 0 (Ok true) l0 l1 w0 w1
    → Finds end idx text (Ok found) l0 l1 w0 w1
finds_found place end idx text found l0 l1 w0 w1 is f g =
    record { piece = g.piece; took = g.took; still = g.still; by = (g.by, looks_on place w1.place end w1.ended w1.rest idx text found (is ∙ sym g.by.place_is) f) }

pub finds_ended : (m : ℕ) (end : Option ℕ) (idx text : List ℕ) (l0 l1 l2 : Option (List ℕ)) (w0 w1 w2 : WindowState) → m ≡ 1 + length w1.rest → NoChunk w1.rest → Grew 0 (Ok true) l0 l1 w0 w1 → Grew m (Ok false) l1 l2 w1 w2
    → Finds end idx text (Ok look.Wrong) l0 l2 w0 w2
finds_ended m end idx text l0 l1 l2 w0 w1 w2 is none one two =
    let all = grew_then 0 m (Ok false) l0 l1 l2 w0 w1 w2 one two in
    record {
      piece = all.piece;
      took = all.took;
      still = all.still;
      by = (
        record {
          place_is = all.by.place_is;
          rest_is = all.by.rest_is;
          some = λ e. omega arith;
          few = λ e. absurd cc;
          end = λ e. absurd cc;
          keeps = all.by.keeps;
          ended_is = all.by.ended_is;
          short = all.by.short;
        },
        λ more index_more first still may d m_.
            let same : w2.rest ++ more ≡ w1.rest = ap (λ (l : List ℕ). w2.rest ++ l) (still (two.by.end refl)) ∙ append-nil w2.rest ∙ none_came m l1 l2 w1 w2 is two in
            none d (size_of d) (subst (BeginsWith d (size_of d)) same m_.begins_with),
      );
    }

pub finds_broken : (fault : Fault) (m : ℕ) (end : Option ℕ) (idx text : List ℕ) (l0 l1 l2 : Option (List ℕ)) (w0 w1 w2 w3 : WindowState) → Grew 0 (Ok true) l0 l1 w0 w1 → Grew m (Err fault) l1 l2 w1 w2 → Finds end idx text (Err fault) l0 l2 w0 w3
finds_broken fault m end idx text l0 l1 l2 w0 w1 w2 w3 one two =
    let all = grew_then 0 m (Err fault) l0 l1 l2 w0 w1 w2 one two in
    record { piece = all.piece; took = all.took; still = all.still; by = all.by.0 }

-- there was no memory for the lines
pub finds_no_memory : (fault : Fault) (end : Option ℕ) (idx text : List ℕ) (l0 l1 : Option (List ℕ)) (w0 w1 : WindowState) → IsOver fault (size_read w1) → Grew 0 (Ok true) l0 l1 w0 w1 → Finds end idx text (Err fault) l0 l1 w0 w1
finds_no_memory fault end idx text l0 l1 w0 w1 over g =
    record { piece = g.piece; took = g.took; still = g.still; by = subst (IsOver fault) (size_goes 0 true g.piece l1 w0 w1 g.by) over }
