-- Which line that a node gives some words are.
use Rattle.std.specs.Prelude.{◌≡◌, ℕ, List, codes, Option, Some, None}
use Rattle.script_text.specs.declared.output.OutputLine.{OutputLine}
use Rattle.script_text.specs.declared.output_word.FirstWord.{FirstWord}
use Rattle.script_text.specs.declared.output_word.FirstWord.TheVariants as firsts
use Rattle.script_text.specs.Outputs.{output_words, IsOutput}

-- the first word of a line that has others
abbrev pub first_word : FirstWord → List ℕ
first_word firsts.Sent = codes ">"
first_word firsts.Bye = codes "bye"
first_word firsts.Committed = codes "k"
first_word firsts.Message = codes "m"
first_word firsts.Later = codes "later"
first_word firsts.Down = codes "down"
first_word firsts.Up = codes "up"
first_word firsts.Log = codes "l"
first_word firsts.Refused = codes "no"
first_word firsts.Bad = codes "bad"

-- which line these words are, if they are any
abbrev pub ReadsOutput : List ℕ → Option OutputLine → Type 0
ReadsOutput words None = (line : OutputLine) → IsOutput line → words ≡ output_words line → ⊥
ReadsOutput words (Some line) = IsOutput line × (words ≡ output_words line)
