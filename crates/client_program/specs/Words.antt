-- What the words behind the program's name ask for.
use Rattle.std.specs.Prelude.{◌≡◌, ℕ, ◌^◌, ◌<◌, List, [], ◌∷◌, codes, Option, Some, None}
use Rattle.std.specs.Fmt.{decimal}
use Rattle.chunk_format.specs.Tags.{IsName}
use Rattle.client_program.specs.declared.words.Act.{Act}
use Rattle.client_program.specs.declared.words.Act.TheVariants as act
use Rattle.client_program.specs.declared.words.ClientWords.{ClientWords}

-- What is to be done: a stream is made; lines are published under a name, or from the id behind one on; entries from an
-- offset on are read, so many; the greatest id of a name is asked for.
pub data Deed : Type 0 where
  creates : Deed
  publishes : List ℕ → Deed
  resumes : List ℕ → ℕ → Deed
  consumes : ℕ → ℕ → Deed
  queries : List ℕ → Deed

-- the first word
abbrev pub deed_word : Deed → List ℕ
deed_word creates = codes "create"
deed_word (publishes name) = codes "publish"
deed_word (resumes name from) = codes "resume"
deed_word (consumes offset count) = codes "consume"
deed_word (queries name) = codes "query"

-- the words behind address and stream
abbrev pub deed_rest : Deed → List (List ℕ)
deed_rest creates = []
deed_rest (publishes name) = name ∷ []
deed_rest (resumes name from) = name ∷ decimal from ∷ []
deed_rest (consumes offset count) = decimal offset ∷ decimal count ∷ []
deed_rest (queries name) = name ∷ []

-- names have 1 to 255 bytes, numbers are below 2^64
abbrev pub IsDeed : Deed → Type 0
IsDeed creates = Unit {0}
IsDeed (publishes name) = IsName name
IsDeed (resumes name from) = IsName name × (from < 2 ^ 64)
IsDeed (consumes offset count) = (offset < 2 ^ 64) × (count < 2 ^ 64)
IsDeed (queries name) = IsName name

-- these are the words of it
pub record AsksFor (word : List ℕ) (rest : List (List ℕ)) (d : Deed) : Type 0 where
  pub good : IsDeed d
  pub first : word ≡ deed_word d
  pub others : rest ≡ deed_rest d

pub record Asked : Type 0 where
  pub address : List ℕ
  pub stream : List ℕ
  pub deed : Deed

abbrev pub words_of : Asked → List (List ℕ)
words_of a = deed_word a.deed ∷ a.address ∷ a.stream ∷ deed_rest a.deed

-- any address, a stream's name of 1 to 255 bytes, and what is to be done with it
abbrev pub IsAsked : Asked → Type 0
IsAsked a = IsName a.stream × IsDeed a.deed

-- these are the words of it
pub record AreWordsOf (words : List (List ℕ)) (a : Asked) : Type 0 where
  pub good : IsAsked a
  pub spelled : words ≡ words_of a

abbrev pub deed_of : Act → Deed
deed_of act.Create = creates
deed_of (act.Publish name) = publishes name.now
deed_of (act.Resume name from) = resumes name.now from
deed_of (act.Consume offset count) = consumes offset count
deed_of (act.Query name) = queries name.now

abbrev pub asked_of : ClientWords → Asked
asked_of w = record { address = w.address.now; stream = w.stream.now; deed = deed_of w.act }

-- what these words ask for, if they ask for anything
abbrev pub ReadsDeed : List ℕ → List (List ℕ) → Option Act → Type 0
ReadsDeed word rest (Some found) = AsksFor word rest (deed_of found)
ReadsDeed word rest None = (d : Deed) → AsksFor word rest d → ⊥

abbrev pub ReadsWords : List (List ℕ) → Option ClientWords → Type 0
ReadsWords words (Some found) = AreWordsOf words (asked_of found)
ReadsWords words None = (a : Asked) → AreWordsOf words a → ⊥
