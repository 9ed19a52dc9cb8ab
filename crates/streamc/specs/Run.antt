-- What the client's program does.
use Rattle.std.specs.Prelude.{◌≡◌, ◌⊎◌, ℕ, List, codes, Option, None}
use Rattle.program_words.specs.Told.{Wrote}
use Rattle.client_program.specs.Words.{Asked, AreWordsOf}
use Rattle.client_program.specs.Ends.{ClientDoes, outside_at}

-- the line that tells which words there are
abbrev pub usage : List ℕ
usage = codes "usage: streamc create | publish | resume | consume | query\n"

-- words that ask for nothing that the program does
abbrev pub AskNothing : List (List ℕ) → Type 0
AskNothing words = (a : Asked) → AreWordsOf words a → ⊥

-- no connection could be made, and nothing was read and written; or the client did what the words ask for
abbrev pub DoesAs : Asked → ℕ → Option (List ℕ) → Option (List ℕ) → Option (List ℕ) → Option (List ℕ) → Type 0
DoesAs a status left_old left_new written_old written_new =
    ((status ≡ 4) × (left_new ≡ left_old) × (written_new ≡ written_old))
    ⊎ ClientDoes a status left_old left_new (outside_at None None written_old) (outside_at None None written_new)

-- the words ask for something, and that was done; or they ask for nothing
abbrev pub DoesBy : List (List ℕ) → ℕ → Option (List ℕ) → Option (List ℕ) → Option (List ℕ) → Option (List ℕ) → Type 0
DoesBy words status left_old left_new written_old written_new =
    ((a : Asked) × AreWordsOf words a × DoesAs a status left_old left_new written_old written_new) ⊎ AskNothing words
