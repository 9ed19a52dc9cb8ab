-- A session over the commands that its peer's bytes spell.
use Rattle.std.specs.Prelude.{◌≡◌, ◌≢◌, ◌≤◌, ℕ, List, [], ◌∷◌, ◌++◌, length, All, Option, None, option_to_list}
use Rattle.frame_wire.specs.Frames.{stream_of, IsBody, IsPartial, IsTooLarge}
use Rattle.command_fields.specs.declared.fault.DecodeFault.{DecodeFault}
use Rattle.command_fields.specs.declared.response.ResponseCode.{ResponseCode}
use Rattle.command_fields.specs.declared.response.ResponseCode.TheVariants as code
use Rattle.command_all.specs.declared.command.Command.{Command}
use Rattle.command_all.specs.declared.identity.Identity.{Identity}
use Rattle.command_all.specs.Commands.{Spells}
use Rattle.command_all.specs.Reading.{AreSpelled, BeginsUnspelt}
use Rattle.command_reader.specs.States.{ReaderState}
use Rattle.hub_terms.specs.Meaning.{HubMeaning}
use Rattle.hub_terms.specs.Programs.{Runs}
use Rattle.session_tables.specs.Opening.{leaves, says, closed}
use Rattle.session_tables.specs.Spelling.{some_frames, frames_of, all_frames}
use Rattle.session_tables.specs.declared.reply.Reply.{Reply}
use Rattle.session_tables.specs.declared.tables.Tables.{Tables}
use Rattle.session_core.specs.Commands.{command_row}

-- a command that is read while the session stands
pub record CommandStep {S : Type 0} (m : HubMeaning S) (who : Identity) (now : ℕ) (old : Tables) (command : Command) (said : List Reply) (new : Tables) (h0 h1 : S) : Type 0 where
  pub stands : old.ended ≡ None
  pub reply : Option Reply
  pub run : Runs m (command_row who old now command) h0 (leaves reply new) h1
  pub said_is : said ≡ option_to_list reply

-- command after command
abbrev pub CommandSteps : {S : Type 0} → HubMeaning S → Identity → ℕ → Tables → List Command → List Reply → Tables → S → S → Type 0
CommandSteps m who now old [] said new h0 h1 = (said ≡ []) × (new ≡ old) × (h1 ≡ h0)
CommandSteps {S} m who now old (command ∷ commands) said new h0 h1 = (first : List Reply) × (rest : List Reply) × (mid : Tables) × (h : S)
    × (said ≡ first ++ rest) × CommandStep m who now old command first mid h0 h × CommandSteps m who now mid commands rest new h h1

-- The commands of the front of bytes are answered one after another, until one ends the session.
pub record Answered {S : Type 0} (m : HubMeaning S) (who : Identity) (now max : ℕ) (bytes : List ℕ) (old : Tables) (said : List Reply) (new : Tables) (rest : List ℕ) (h0 h1 : S) : Type 0 where
  pub bodies : List (List ℕ)
  pub commands : List Command
  pub whole : bytes ≡ stream_of bodies rest
  pub each : All (IsBody max) bodies
  pub spelled : AreSpelled bodies commands
  pub steps : CommandSteps m who now old commands said new h0 h1

-- and then the server closes the connection
pub record Closing {S : Type 0} (m : HubMeaning S) (who : Identity) (now max : ℕ) (bytes : List ℕ) (old : Tables) (response : ResponseCode) (said : List Reply) (new : Tables) (rest : List ℕ) (h0 h1 : S) : Type 0 where
  pub before : List Reply
  pub mid : Tables
  pub answered : Answered m who now max bytes old before mid rest h0 h1
  pub stands : mid.ended ≡ None
  pub reply : Reply
  pub closes : says new reply ≡ closed response mid
  pub said_is : said ≡ before ++ reply ∷ []

-- All whole frames are answered; or a command ended the session; or a frame that no command spells did; or a size above the
-- greatest did.
pub data Fed {S : Type 0} (m : HubMeaning S) (who : Identity) (now max : ℕ) (bytes : List ℕ) (old : Tables) (said : List Reply) (new : Tables) (rest : List ℕ) (h0 h1 : S) : Type 0 where
  Partly : Answered m who now max bytes old said new rest h0 h1 → new.ended ≡ None → IsPartial max rest → Fed m who now max bytes old said new rest h0 h1
  Ended : Answered m who now max bytes old said new rest h0 h1 → new.ended ≢ None → Fed m who now max bytes old said new rest h0 h1
  Unspelt : (fault : DecodeFault) → Closing m who now max bytes old code.UnknownFrame said new rest h0 h1 → BeginsUnspelt max rest fault → Fed m who now max bytes old said new rest h0 h1
  TooLarge : (size : ℕ) → Closing m who now max bytes old code.FrameTooLarge said new rest h0 h1 → IsTooLarge max rest size → Fed m who now max bytes old said new rest h0 h1

-- a command as a frame holds it that a server takes
pub record IsFramed (command : Command) : Type 0 where
  pub body : List ℕ
  pub spells : Spells command body
  pub small : length body ≤ 1048576

-- a command is answered, and the frames of what is said go behind the bytes that were there
pub record AddsStep {S : Type 0} (m : HubMeaning S) (who : Identity) (now : ℕ) (old : Tables) (command : Command) (out0 out1 : List ℕ) (new : Tables) (h0 h1 : S) : Type 0 where
  pub reply : Option Reply
  pub run : Runs m (command_row who old now command) h0 (leaves reply new) h1
  pub wrote : out1 ≡ out0 ++ some_frames who reply

-- the server closes the connection, and the frame of its Close goes behind the bytes that were there
pub record AddsClose (who : Identity) (response : ResponseCode) (old : Tables) (out0 out1 : List ℕ) (new : Tables) : Type 0 where
  pub reply : Reply
  pub closes : says new reply ≡ closed response old
  pub wrote : out1 ≡ out0 ++ frames_of who reply

-- the frames of what is said, behind the bytes that were there
pub record Adds {S : Type 0} (m : HubMeaning S) (who : Identity) (now max : ℕ) (bytes : List ℕ) (old : Tables) (out0 out1 : List ℕ) (new : Tables) (rest : List ℕ) (h0 h1 : S) : Type 0 where
  pub said : List Reply
  pub wrote : out1 ≡ out0 ++ all_frames who said
  pub fed : Fed m who now max bytes old said new rest h0 h1

-- a reader that waits for more of a frame
pub record IsReading (max : ℕ) (state : ReaderState) : Type 0 where
  pub same_max : state.max ≡ max
  pub spelt : state.unspelt ≡ None
  pub partial : IsPartial max state.rest
