-- A client that runs over a connection: what it sends, hears and writes, step by step.
use Rattle.std.specs.Prelude.{◌≡◌, ◌⊎◌, ℕ, suc, List, [], ◌∷◌, ◌++◌, take, Option, Some, None, Result, Ok, Err}
use Rattle.std.specs.Fmt.{decimal}
use Rattle.hex.specs.Hex.{encode_lower}
use Rattle.script_text.specs.Words.{space, line_feed}
use Rattle.outside_io.specs.Known.{after_known}
use Rattle.outside_io.specs.declared.link.Hearing.{Hearing}
use Rattle.outside_io.specs.declared.link.Hearing.TheVariants as hearing
use Rattle.command_all.specs.declared.command.Command.{Command}
use Rattle.command_all.specs.Commands.{IsFrame}
use Rattle.client_terms.specs.declared.fault.ClientFault.TheVariants as faults
use Rattle.client_terms.specs.declared.terms.Received.{Received}
use Rattle.client_terms.specs.Steps.{ClientStep, sends, takes}
use Rattle.stream_client.specs.Cores.{CoreState, IsDone}
use Rattle.stream_client.specs.Feeds.{Feeds}
use Rattle.client_program.specs.declared.run.ClientEnd.{ClientEnd}
use Rattle.client_program.specs.declared.run.ClientEnd.TheVariants.{Finished, LinkEnded, LinkFault, WriteFault, Fault, Memory}

-- a client, how many entries are still wanted, and what was heard, sent and written so far, where that is told
pub record RunState : Type 0 where
  pub core : CoreState
  pub left : ℕ
  pub heard : Option (List Hearing)
  pub sent : Option (List ℕ)
  pub written : Option (List ℕ)

abbrev pub run_at : CoreState → ℕ → Option (List Hearing) → Option (List ℕ) → Option (List ℕ) → RunState
run_at core left heard sent written = record { core = core; left = left; heard = heard; sent = sent; written = written }

-- the wishes were answered, the queued messages are confirmed, and no more entries are wanted
pub record IsFinished (s : RunState) : Type 0 where
  pub done : IsDone s.core.client
  pub none_left : s.left ≡ 0

-- the line of an entry: its offset, a space, and its body in lower-case hexadecimal digits
abbrev pub entry_line : Received → List ℕ
entry_line entry = decimal entry.offset ++ space ∷ (encode_lower entry.body ++ line_feed ∷ [])

-- the client's next frame, as these bytes
pub record SendsFrame (old : CoreState) (bytes : List ℕ) (new : CoreState) : Type 0 where
  pub frame : Command
  pub spelled : IsFrame frame bytes
  pub step : ClientStep old.client sends (Some frame) new.client
  pub reader : new.reader ≡ old.reader

-- the client's next entry is taken out
pub record TakesEntry (old : CoreState) (entry : Received) (new : CoreState) : Type 0 where
  pub first : old.client.received ≡ entry ∷ new.client.received
  pub step : ClientStep old.client takes None new.client
  pub reader : new.reader ≡ old.reader

-- a frame was sent; an entry was written; a piece of the server's bytes was fed; nothing came for a while
pub data RunStep : Type 0 where
  sent : List ℕ → RunStep
  wrote : Received → RunStep
  fed : List ℕ → RunStep
  waited : RunStep

abbrev pub StepTo : RunState → RunStep → RunState → Type 0
StepTo old (sent bytes) new = SendsFrame old.core bytes new.core × (new ≡ record old { core = new.core; sent = after_known old.sent bytes })
StepTo old (wrote entry) new = TakesEntry old.core entry new.core × (old.left ≡ suc new.left) × (new ≡ record old { core = new.core; left = new.left; written = after_known old.written (entry_line entry) })
StepTo old (fed piece) new = Feeds old.core piece (Ok tt) new.core × (new ≡ record old { core = new.core; heard = after_known old.heard (hearing.Piece piece ∷ []) })
StepTo old waited new = new ≡ record old { heard = after_known old.heard (hearing.Quiet ∷ []) }

-- one step after the other, none of them from where it has finished
abbrev pub Steps : RunState → List RunStep → RunState → Type 0
Steps old [] new = new ≡ old
Steps old (step ∷ steps) new = ¬ IsFinished old × ((mid : RunState) × StepTo old step mid × Steps mid steps new)

-- within a frame a send failed, or a receive failed
abbrev pub LosesLink : RunState → RunState → Type 0
LosesLink old new =
    ((bytes : List ℕ) × (k : ℕ) × SendsFrame old.core bytes new.core × (new ≡ record old { core = new.core; sent = after_known old.sent (take k bytes) }))
    ⊎ (new ≡ old)

-- What ends a run. No end but Finished comes from where it has finished.
abbrev pub EndsAt : ClientEnd → RunState → RunState → Type 0
EndsAt Finished old new = IsFinished old × (new ≡ old)
EndsAt LinkEnded old new = ¬ IsFinished old × (new ≡ record old { heard = after_known old.heard (hearing.Ended ∷ []) })
EndsAt LinkFault old new = ¬ IsFinished old × LosesLink old new
-- within the line of an entry
EndsAt WriteFault old new =
    ¬ IsFinished old × ((entry : Received) × (k : ℕ) × TakesEntry old.core entry new.core × (new ≡ record old { core = new.core; written = after_known old.written (take k (entry_line entry)) }))
-- at a frame of the last piece
EndsAt (Fault fault) old new =
    ¬ IsFinished old × ¬ (fault ≡ faults.Memory) × ((piece : List ℕ) × Feeds old.core piece (Err fault) new.core × (new ≡ record old { core = new.core; heard = after_known old.heard (hearing.Piece piece ∷ []) }))
EndsAt Memory old new = ¬ IsFinished old

-- a run up to its end
pub record RunsTo (end : ClientEnd) (old new : RunState) : Type 0 where
  pub steps : List RunStep
  pub last : RunState
  pub run : Steps old steps last
  pub ends : EndsAt end last new

-- one step, or the end
abbrev pub Turns : RunState → Result (Unit {0}) ClientEnd → RunState → Type 0
Turns old (Ok u) new = ¬ IsFinished old × ((step : RunStep) × StepTo old step new)
Turns old (Err end) new = EndsAt end old new

-- what a send of a frame did to what was sent
abbrev pub SentBy : Result (Unit {0}) ClientEnd → List ℕ → Option (List ℕ) → Option (List ℕ) → Type 0
SentBy (Ok u) bytes old new = new ≡ after_known old bytes
SentBy (Err Finished) bytes old new = ⊥
SentBy (Err LinkEnded) bytes old new = ⊥
SentBy (Err LinkFault) bytes old new = (k : ℕ) × (new ≡ after_known old (take k bytes))
SentBy (Err WriteFault) bytes old new = ⊥
SentBy (Err (Fault fault)) bytes old new = ⊥
SentBy (Err Memory) bytes old new = ⊥

-- what a write of an entry's line did to what was written, and to how many are wanted
abbrev pub WroteBy : Result (Unit {0}) ClientEnd → Received → ℕ → ℕ → Option (List ℕ) → Option (List ℕ) → Type 0
WroteBy (Ok u) entry left_old left_new old new = (left_old ≡ suc left_new) × (new ≡ after_known old (entry_line entry))
WroteBy (Err Finished) entry left_old left_new old new = ⊥
WroteBy (Err LinkEnded) entry left_old left_new old new = ⊥
WroteBy (Err LinkFault) entry left_old left_new old new = ⊥
WroteBy (Err WriteFault) entry left_old left_new old new = (left_new ≡ left_old) × ((k : ℕ) × (new ≡ after_known old (take k (entry_line entry))))
WroteBy (Err (Fault fault)) entry left_old left_new old new = ⊥
WroteBy (Err Memory) entry left_old left_new old new = (left_new ≡ left_old) × (new ≡ old)

-- what feeding a piece did
abbrev pub FedBy : Result (Unit {0}) ClientEnd → CoreState → List ℕ → CoreState → Type 0
FedBy (Ok u) old piece new = Feeds old piece (Ok tt) new
FedBy (Err Finished) old piece new = ⊥
FedBy (Err LinkEnded) old piece new = ⊥
FedBy (Err LinkFault) old piece new = ⊥
FedBy (Err WriteFault) old piece new = ⊥
FedBy (Err (Fault fault)) old piece new = ¬ (fault ≡ faults.Memory) × Feeds old piece (Err fault) new
FedBy (Err Memory) old piece new = Unit {0}

-- what was heard next, and what the client did with it
abbrev pub HeardBy : Result (Unit {0}) ClientEnd → CoreState → CoreState → Option (List Hearing) → Option (List Hearing) → Type 0
HeardBy (Ok u) core_old core_new old new =
    ((piece : List ℕ) × Feeds core_old piece (Ok tt) core_new × (new ≡ after_known old (hearing.Piece piece ∷ [])))
    ⊎ ((core_new ≡ core_old) × (new ≡ after_known old (hearing.Quiet ∷ [])))
HeardBy (Err Finished) core_old core_new old new = ⊥
HeardBy (Err LinkEnded) core_old core_new old new = (core_new ≡ core_old) × (new ≡ after_known old (hearing.Ended ∷ []))
HeardBy (Err LinkFault) core_old core_new old new = (core_new ≡ core_old) × (new ≡ old)
HeardBy (Err WriteFault) core_old core_new old new = ⊥
HeardBy (Err (Fault fault)) core_old core_new old new =
    ¬ (fault ≡ faults.Memory) × ((piece : List ℕ) × Feeds core_old piece (Err fault) core_new × (new ≡ after_known old (hearing.Piece piece ∷ [])))
HeardBy (Err Memory) core_old core_new old new = Unit {0}
