-- What holds of the rules of a node.
use Rattle.std.specs.Prelude.{◌≡◌, ℕ, ◌≤◌, List, [], ◌∷◌, ◌++◌, length}
use Rattle.std.specs.List.{flat_map}
use Rattle.chunk_format.specs.declared.entry.Entry.{Entry}
use Rattle.script_text.specs.declared.script.ScriptLine.TheVariants.{Give}
use Rattle.script_text.specs.declared.output.OutputLine.{OutputLine}
use Rattle.replay_node.specs.NodeState.{NodeState, LineGives, chunk_max, pieces_of}

-- Bytes that are given in two lines, one directly after the other, may be given in one: it gives what the two gave, and
-- leads to the same node.
abbrev pub GivesJoin : Type 0
GivesJoin =
    (old mid new : NodeState) (connection : ℕ) (first second : List ℕ) (outputs more : List OutputLine)
    → LineGives old (Give connection first) outputs mid → LineGives mid (Give connection second) more new
    → LineGives old (Give connection (first ++ second)) (outputs ++ more) new

-- given bytes give one thing only
abbrev pub GivesOnce : Type 0
GivesOnce =
    (old one other : NodeState) (connection : ℕ) (bytes : List ℕ) (outputs others : List OutputLine)
    → LineGives old (Give connection bytes) outputs one → LineGives old (Give connection bytes) others other
    → (outputs ≡ others) × (one ≡ other)

-- each piece but the last is as long as one may be, and the last is not empty
abbrev pub AreCut : {X : Type 0} → List (List X) → Type 0
AreCut [] = Unit {0}
AreCut (piece ∷ []) = (1 ≤ length piece) × (length piece ≤ chunk_max)
AreCut (piece ∷ next ∷ more) = (length piece ≡ chunk_max) × AreCut (next ∷ more)

-- The pieces of entries are such pieces, and together they are the entries.
abbrev pub PiecesCut : Type 0
PiecesCut = (es : List Entry) → (flat_map (λ (piece : List Entry). piece) (pieces_of es) ≡ es) × AreCut (pieces_of es)
