-- What the calls of a stream in memory give.
use Rattle.std.specs.Prelude.{◌≡◌, ℕ, List, [], ◌++◌, map, Option, Some, None, Result, Ok, Err}
use Rattle.std.specs.List.{filter}
use Rattle.std.specs.declared.alloc.AllocError.{AllocError}
use Rattle.chunk_format.specs.declared.chunk.Chunk.{Chunk}
use Rattle.command_data.specs.declared.item.Tagged.{Tagged}
use Rattle.stream_terms.specs.declared.terms.Pass.{Pass}
use Rattle.stream_terms.specs.declared.terms.Taken.{Taken}
use Rattle.stream_terms.specs.declared.terms.Confirm.{Confirm}
use Rattle.stream_terms.specs.declared.terms.OfferFault.{OfferFault}
use Rattle.stream_terms.specs.Views.{StreamView, StreamHolds}
use Rattle.stream_terms.specs.Steps.{OfferTaken, OfferRefused, OffsetTaken, OffsetRefused, MoveStep, is_of, is_other, confirm_of}

-- a stream without chunks, whose epoch 1 runs
abbrev pub fresh : ℕ → StreamView
fresh number = record { number = number; chunks = []; queue = []; running = Some 1; passes = []; waiting = []; ready = [] }

-- a stream that was ended: nothing of it waits
abbrev pub ended : StreamView → StreamView
ended v = record v { queue = []; running = None; waiting = []; ready = [] }

-- the offer is taken, and is in the list at once
pub record OfferGave (old : StreamView) (pass : Pass) (items : List Tagged) (t : Taken) (new : StreamView) : Type 0 where
  pub mid : StreamView
  pub more : List Chunk
  pub step : OfferTaken old pass items t mid
  pub moved : MoveStep mid more new
  pub holds : StreamHolds new []

abbrev pub OfferGives : StreamView → Pass → List Tagged → Result Taken OfferFault → StreamView → Type 0
OfferGives old pass items (Ok t) new = OfferGave old pass items t new
OfferGives old pass items (Err fault) new = OfferRefused old pass items fault × (new ≡ old)

-- the offset's chunk is queued, and is in the list at once
pub record OffsetGave (old : StreamView) (name : Option (List ℕ)) (offset : ℕ) (t : Taken) (new : StreamView) : Type 0 where
  pub mid : StreamView
  pub more : List Chunk
  pub step : OffsetTaken old name offset t mid
  pub moved : MoveStep mid more new
  pub holds : StreamHolds new []

abbrev pub OffsetGives : StreamView → Option (List ℕ) → ℕ → Result Taken OfferFault → StreamView → Type 0
OffsetGives old name offset (Ok t) new = OffsetGave old name offset t new
OffsetGives old name offset (Err fault) new = OffsetRefused old name fault × (new ≡ old)

-- those of a session go out, and for want of memory all are given up
abbrev pub HandGives : StreamView → ℕ → List Confirm → List Confirm → Result (Unit {0}) AllocError → StreamView → Type 0
HandGives old session out0 out1 (Ok _) new = (new ≡ record old { ready = filter (is_other session) old.ready }) × (out1 ≡ out0 ++ map confirm_of (filter (is_of session) old.ready))
HandGives old session out0 out1 (Err e) new = new ≡ record old { ready = [] }
