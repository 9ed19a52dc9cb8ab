-- The passes of a stream, and its offers that wait for confirms: what each call makes of them.
use Rattle.std.specs.Prelude.{◌≡◌, ℕ, Bool, true, false, not, ◌&&◌, nat_lt, List, [], ◌∷◌, ◌++◌, Option, Result}
use Rattle.std.specs.List.{filter}
use Rattle.chunk_format.specs.declared.chunk.Chunk.{Chunk}
use Rattle.stream_terms.specs.declared.terms.Pass.{Pass}
use Rattle.stream_terms.specs.declared.terms.Given.{Given}
use Rattle.stream_terms.specs.declared.terms.Waits.{Waits}
use Rattle.stream_terms.specs.declared.terms.DeclareFault.{DeclareFault}
use Rattle.stream_terms.specs.Views.{StreamView}
use Rattle.stream_terms.specs.Steps.{DeclareStep, of_epoch, is_other}

-- of a stream's view its number, its passes, and the offers that wait or are ready
pub record PassesState : Type 0 where
  pub number : ℕ
  pub passes : List Given
  pub waiting : List Waits
  pub ready : List Waits

abbrev pub parts : ℕ → List Given → List Waits → List Waits → PassesState
parts number passes waiting ready = record { number = number; passes = passes; waiting = waiting; ready = ready }

-- the view with these chunks, that queue, and the epoch that runs
abbrev pub viewed : List Chunk → List Chunk → Option ℕ → PassesState → StreamView
viewed chunks queue running s = record {
  number = s.number;
  chunks = chunks;
  queue = queue;
  running = running;
  passes = s.passes;
  waiting = s.waiting;
  ready = s.ready;
}

-- a declaration, whatever chunks the stream has
abbrev pub PartsDeclare : PassesState → Option ℕ → ℕ → Option (List ℕ) → Result Pass DeclareFault → PassesState → Type 0
PartsDeclare old running session name r new = (chunks queue : List Chunk) → DeclareStep (viewed chunks queue running old) session name r (viewed chunks queue running new)

abbrev pub put_part : Bool → Waits → PassesState → PassesState
put_part true w s = record s { waiting = s.waiting ++ w ∷ [] }
put_part false w s = record s { ready = s.ready ++ w ∷ [] }

-- an offer waits behind the others, or is ready where the list has its end already
abbrev pub parts_put : ℕ → Waits → PassesState → PassesState
parts_put end w s = put_part (nat_lt end w.end) w s

-- its end is past that of the list
abbrev pub is_past : ℕ → Waits → Bool
is_past end w = nat_lt end w.end

abbrev pub is_within : ℕ → Waits → Bool
is_within end w = not (nat_lt end w.end)

abbrev pub waits_on : ℕ → Option ℕ → Waits → Bool
waits_on end running w = nat_lt end w.end && of_epoch running w

-- What a list that ends there reaches is ready, and of the others those of the epoch that runs go on waiting.
abbrev pub parts_moved : ℕ → Option ℕ → PassesState → PassesState
parts_moved end running s = record s {
  waiting = filter (waits_on end running) s.waiting;
  ready = s.ready ++ filter (is_within end) s.waiting;
}

-- the ready ones of a session are handed out
abbrev pub parts_handed : ℕ → PassesState → PassesState
parts_handed session s = record s { ready = filter (is_other session) s.ready }
