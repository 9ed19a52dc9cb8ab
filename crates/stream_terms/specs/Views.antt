-- A stream, as those that use it see it.
use Rattle.std.specs.Prelude.{◌≡◌, ℕ, ◌+◌, ◌<◌, ◌≤◌, Bool, true, false, not, ◌&&◌, List, [], ◌∷◌, ◌++◌, length, Option, Some, None}
use Rattle.std.specs.List.{flat_map, AllByRecursion, Contains}
use Rattle.chunk_format.specs.declared.entry.Entry.{Entry}
use Rattle.chunk_format.specs.declared.chunk.Chunk.{Chunk}
use Rattle.chunk_format.specs.Logs.{IsLog, tally, end_of, is_within, bare_in, bare_of}
use Rattle.chunk_format.specs.ByName.{Greatest, AtMost}
use Rattle.stream_terms.specs.declared.terms.Given.{Given}
use Rattle.stream_terms.specs.declared.terms.Waits.{Waits}

pub record StreamView : Type 0 where
  pub number : ℕ
  -- the committed chunks
  pub chunks : List Chunk
  -- those behind them that were taken, and that the list doesn't hold yet
  pub queue : List Chunk
  -- the epoch that runs with an open leader
  pub running : Option ℕ
  -- the passes that were given, with the names for which they were
  pub passes : List Given
  -- offers that were taken, and whose ends the list doesn't reach
  pub waiting : List Waits
  -- those that it reaches, and that are to be confirmed
  pub ready : List Waits

-- the list, and what was taken behind it
abbrev pub sequence : StreamView → List Chunk
sequence v = v.chunks ++ v.queue

-- a text as a name: null and empty are none
abbrev pub name_of : Option (List ℕ) → List ℕ
name_of None = []
name_of (Some name) = name

abbrev pub is_name : List ℕ → Bool
is_name [] = false
is_name (x ∷ xs) = true

-- an offset of the range that an offer without a name took
abbrev pub covers : ℕ → Waits → Bool
covers at w = not (is_name w.given.name) && is_within w.from w.end at

-- how many offers without a name took it
abbrev pub times : ℕ → List Waits → ℕ
times at ws = tally (covers at) ws

-- Why a confirm may be handed out. Without a name its entries are the untagged rows of its own range; with one no id is above the greatest of the name.
abbrev pub CausedBy : List ℕ → Waits → List Chunk → Type 0
CausedBy [] w chunks = w.entries ≡ bare_in w.from w.end chunks
CausedBy (x ∷ xs) w chunks = AllByRecursion (λ (id : ℕ). AtMost id (Greatest (x ∷ xs) chunks)) w.ids

-- and the list reaches its end
pub record Caused (chunks : List Chunk) (w : Waits) : Type 0 where
  pub reached : w.end ≤ end_of chunks
  pub by_name : CausedBy w.given.name w chunks

-- its end is past the list
abbrev pub Future : List Chunk → Waits → Type 0
Future chunks w = end_of chunks < w.end

-- its pass was given, and it has 1 to 1,048,576 ids
pub record Known (passes : List Given) (w : Waits) : Type 0 where
  pub given : Contains passes w.given
  pub some : 1 ≤ length w.ids
  pub few : length w.ids ≤ 1048576

-- What holds of a stream, and of the confirms that it handed out so far.
pub record StreamHolds (v : StreamView) (spent : List Waits) : Type 0 where
  pub log : IsLog v.chunks
  pub of_stream : AllByRecursion (λ (g : Given). g.pass.stream ≡ v.number) v.passes
  pub waiting_known : AllByRecursion (Known v.passes) v.waiting
  pub ready_known : AllByRecursion (Known v.passes) v.ready
  pub waiting_past : AllByRecursion (Future v.chunks) v.waiting
  pub ready_caused : AllByRecursion (Caused v.chunks) v.ready
  pub spent_caused : AllByRecursion (Caused v.chunks) spent
  -- no offset was taken twice
  pub apart : (at : ℕ) → times at v.waiting + times at v.ready + times at spent ≤ 1

-- the entries of those without a name
abbrev pub bare_entries : List ℕ → List Entry → List Entry
bare_entries [] entries = entries
bare_entries (x ∷ xs) entries = []

abbrev pub spent_entries : List Waits → List Entry
spent_entries spent = flat_map (λ (w : Waits). bare_entries w.given.name w.entries) spent

-- each entry stands in the list without a tag at least as often as it was confirmed to publishers without a name
abbrev pub Counted : List Waits → List Chunk → Type 0
Counted spent chunks = (p : Entry → Bool) → tally p (spent_entries spent) ≤ tally p (bare_of chunks)
