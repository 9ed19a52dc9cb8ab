-- What a client reads of its server's bytes.
use Rattle.std.specs.Prelude.{◌≡◌, ◌⊎◌, ℕ, Bool, true, false, List, [], ◌∷◌, None, Result, Ok, Err}
use Rattle.command_fields.specs.declared.fault.DecodeFault.{DecodeFault}
use Rattle.command_all.specs.declared.command.Command.{Command}
use Rattle.command_reader.specs.declared.reader.Next.TheVariants as answers
use Rattle.command_reader.specs.States.{ReaderState, Takes, Gives, GivesCommand}
use Rattle.client_terms.specs.declared.fault.ClientFault.{ClientFault}
use Rattle.client_terms.specs.declared.fault.ClientFault.TheVariants as client_faults
use Rattle.client_terms.specs.Hearing.{meaning}
use Rattle.client_terms.specs.Steps.{hears, faults, ClientStep}
use Rattle.stream_client.specs.Hearings.{RunsOut}
use Rattle.stream_client.specs.Cores.{CoreState}

-- the next frame is this command, and the client took the step that hears it
pub record HearsFrame (old : CoreState) (command : Command) (new : CoreState) : Type 0 where
  pub given : GivesCommand old.reader command new.reader
  pub heard : ClientStep old.client (hears command) None new.client

-- these frames, one after the other
abbrev pub HearsFrames : CoreState → List Command → CoreState → Type 0
HearsFrames old [] new = new ≡ old
HearsFrames old (command ∷ commands) new = (mid : CoreState) × HearsFrame old command mid × HearsFrames mid commands new

-- no whole frame is left
pub record IsHeard (old new : CoreState) : Type 0 where
  pub partial : Gives old.reader answers.More new.reader
  pub same : new.client ≡ old.client

-- Why a client can't go on at the next frame: no command spells it; it is too large; the client faults at the command; or
-- memory ran out, before the frame was read or behind it.
pub data StopsAt (old : CoreState) (fault : ClientFault) (new : CoreState) : Type 0 where
  Unspelt : (wrong : DecodeFault) → fault ≡ client_faults.Frame wrong → Gives old.reader (answers.Unspelt wrong) new.reader → new.client ≡ old.client → StopsAt old fault new
  Large : (size : ℕ) → fault ≡ client_faults.TooLarge size → Gives old.reader (answers.TooLarge size) new.reader → new.client ≡ old.client → StopsAt old fault new
  Faulty : (command : Command) → GivesCommand old.reader command new.reader → ClientStep old.client (faults command fault) None new.client → StopsAt old fault new
  Unread : fault ≡ client_faults.Memory → new ≡ old → StopsAt old fault new
  Unheard : (command : Command) → fault ≡ client_faults.Memory → GivesCommand old.reader command new.reader → RunsOut old.client (meaning old.client command) new.client → StopsAt old fault new

abbrev pub Ends : CoreState → Result (Unit {0}) ClientFault → CoreState → Type 0
Ends old (Ok u) new = IsHeard old new
Ends old (Err fault) new = StopsAt old fault new

-- Frames were heard, each as the client's step, up to the last whole one or to one at which the client can't go on.
pub record HearsAll (old : CoreState) (result : Result (Unit {0}) ClientFault) (new : CoreState) : Type 0 where
  pub commands : List Command
  pub last : CoreState
  pub heard : HearsFrames old commands last
  pub ends : Ends last result new

-- the reader took a piece, and frames were heard
pub record TakesPiece (old : CoreState) (piece : List ℕ) (result : Result (Unit {0}) ClientFault) (new : CoreState) : Type 0 where
  pub fed : ReaderState
  pub taken : Takes old.reader piece fed
  pub heard : HearsAll (record old { reader = fed }) result new

-- or memory ran out before
abbrev pub Feeds : CoreState → List ℕ → Result (Unit {0}) ClientFault → CoreState → Type 0
Feeds old piece result new = TakesPiece old piece result new ⊎ ((result ≡ Err client_faults.Memory) × (new ≡ old))

-- one frame, or none: whether there was one
abbrev pub HearsNext : CoreState → Result Bool ClientFault → CoreState → Type 0
HearsNext old (Ok true) new = (command : Command) × HearsFrame old command new
HearsNext old (Ok false) new = IsHeard old new
HearsNext old (Err fault) new = StopsAt old fault new

-- what hearing a frame tells: that there was one, or the fault
abbrev pub told : Result (Unit {0}) ClientFault → Result Bool ClientFault
told (Ok u) = Ok true
told (Err fault) = Err fault
