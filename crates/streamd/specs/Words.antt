-- What the words after the program's name ask for.
use Rattle.std.specs.Prelude.{◌≡◌, ℕ, List, [], ◌∷◌, codes}
use Rattle.streamd.specs.declared.words.Words.{Words}
use Rattle.streamd.specs.declared.words.Words.TheVariants.{Replay, Inspect, Reindex, Usage}

-- the one word `replay`
abbrev pub IsReplay : List (List ℕ) → Type 0
IsReplay words = words ≡ codes "replay" ∷ []

-- the word `inspect` and two names
abbrev pub IsInspect : List (List ℕ) → Type 0
IsInspect words = (segment index : List ℕ) × (words ≡ codes "inspect" ∷ segment ∷ index ∷ [])

-- the word `reindex` and a name
abbrev pub IsReindex : List (List ℕ) → Type 0
IsReindex words = (segment : List ℕ) × (words ≡ codes "reindex" ∷ segment ∷ [])

-- words that ask for nothing that the program does
pub record AskNothing (words : List (List ℕ)) : Type 0 where
  pub no_replay : IsReplay words → ⊥
  pub no_inspect : IsInspect words → ⊥
  pub no_reindex : IsReindex words → ⊥

-- these words ask for this; all that ask for nothing else ask for the usage
abbrev pub AskFor : List (List ℕ) → Words → Type 0
AskFor words Replay = IsReplay words
AskFor words Inspect = IsInspect words
AskFor words Reindex = IsReindex words
AskFor words Usage = AskNothing words

-- the line that tells which words there are
abbrev pub usage : List ℕ
usage = codes "usage: streamd replay [M] | load N | inspect SEGMENT INDEX | serve | reindex SEGMENT\n"
