-- What pieces of a peer's bytes make together.
use Rattle.std.specs.Prelude.{◌≡◌, ◌≢◌, ℕ, ◌+◌, ◌-◌, nat_le, List, [], ◌∷◌, ◌++◌, length, All, None, if◌then◌else◌}
use Rattle.frame_wire.specs.Frames.{frame, stream_of, IsBody, IsPartial, IsTooLarge}
use Rattle.command_fields.specs.declared.fault.DecodeFault.{DecodeFault}
use Rattle.command_fields.specs.declared.response.ResponseCode.{ResponseCode}
use Rattle.command_fields.specs.declared.response.ResponseCode.TheVariants as code
use Rattle.command_all.specs.declared.command.Command.{Command}
use Rattle.command_all.specs.declared.identity.Identity.{Identity}
use Rattle.command_all.specs.Reading.{AreSpelled, BeginsUnspelt}
use Rattle.hub_terms.specs.Meaning.{HubMeaning}
use Rattle.session_tables.specs.Opening.{says, closed}
use Rattle.session_tables.specs.Spelling.{all_frames}
use Rattle.session_tables.specs.declared.moments.Moments.{Moments}
use Rattle.session_tables.specs.declared.reply.Reply.{Reply}
use Rattle.session_tables.specs.declared.tables.Tables.{Tables}
use Rattle.session_core.specs.Feeding.{CommandStep, Fed}
use Rattle.session_core.specs.Sessions.{SessionState, FeedGives}

-- Where a part leaves the session standing, what it leaves goes before the next part, and both are answered as the parts joined.
abbrev pub PiecesJoin : {S : Type 0} → HubMeaning S → Type 0
PiecesJoin {S} m =
    (who : Identity) (now max : ℕ) (bytes more rest left : List ℕ) (old mid new : Tables) (first second : List Reply) (h0 h h1 : S)
    → mid.ended ≡ None → Fed m who now max bytes old first mid rest h0 h → Fed m who now max (rest ++ more) mid second new left h h1
    → Fed m who now max (bytes ++ more) old (first ++ second) new left h0 h1

-- ---- pieces that come at moments of their own

pub record Piece : Type 0 where
  pub now : ℕ
  pub bytes : List ℕ

abbrev pub all_bytes : List Piece → List ℕ
all_bytes [] = []
all_bytes (p ∷ ps) = p.bytes ++ all_bytes ps

-- These feeds of a session, one after another, and all bytes that they gave. Before, between and behind them the hub may go on.
abbrev pub AreFed : {S : Type 0} → HubMeaning S → SessionState → List Piece → List ℕ → SessionState → S → S → Type 0
AreFed m old [] gave new h0 h1 = (gave ≡ []) × (new ≡ old) × m.seen.later h0 h1
AreFed {S} m old (p ∷ ps) gave new h0 h1 = (first : List ℕ) × (rest : List ℕ) × (mid : SessionState) × (before : S) × (after : S)
    × (gave ≡ first ++ rest) × m.seen.later h0 before × FeedGives m p.now p.bytes old first mid before after × AreFed m mid ps rest new after h1

-- the moment of the piece with which so many bytes have come
abbrev pub when : List Piece → ℕ → ℕ
when [] count = 0
when (p ∷ ps) count = if nat_le count (length p.bytes) then p.now else when ps (count - length p.bytes)

pub record Timed : Type 0 where
  pub now : ℕ
  pub command : Command

-- Each command with the moment of the piece that completed its frame. So many bytes had come before the pieces, and so many of
-- all bytes stand before these frames.
abbrev pub timed : List Piece → ℕ → ℕ → List (List ℕ) → List Command → List Timed
timed pieces before at [] commands = []
timed pieces before at (body ∷ bodies) [] = []
timed pieces before at (body ∷ bodies) (command ∷ commands) =
    record { now = when pieces ((at + length (frame body)) - before); command = command } ∷ timed pieces before (at + length (frame body)) bodies commands

-- Time passes: moments alone change, and the interval between heartbeats stays.
pub record Passes (old new : Tables) : Type 0 where
  pub moments : Moments
  pub interval : moments.heartbeat ≡ old.moments.heartbeat
  pub same : new ≡ record old { moments = moments }

-- Commands are answered one after another, each at its moment. Before each of them and behind the last time may pass, and the
-- hub may go on.
abbrev pub StepsAt : {S : Type 0} → HubMeaning S → Identity → Tables → List Timed → List Reply → Tables → S → S → Type 0
StepsAt m who old [] said new h0 h1 = (said ≡ []) × Passes old new × m.seen.later h0 h1
StepsAt {S} m who old (c ∷ cs) said new h0 h1 = (first : List Reply) × (rest : List Reply) × (ready : Tables) × (mid : Tables) × (before : S) × (after : S)
    × (said ≡ first ++ rest) × Passes old ready × m.seen.later h0 before × CommandStep m who c.now ready c.command first mid before after × StepsAt m who mid cs rest new after h1

-- The commands of the front of what had come and of all pieces are answered, each at the moment of the piece that completed it.
pub record AnsweredAt {S : Type 0} (m : HubMeaning S) (who : Identity) (max : ℕ) (before : List ℕ) (pieces : List Piece) (old : Tables) (said : List Reply) (new : Tables) (rest : List ℕ) (h0 h1 : S) : Type 0 where
  pub bodies : List (List ℕ)
  pub commands : List Command
  pub whole : before ++ all_bytes pieces ≡ stream_of bodies rest
  pub each : All (IsBody max) bodies
  pub spelled : AreSpelled bodies commands
  pub steps : StepsAt m who old (timed pieces (length before) 0 bodies commands) said new h0 h1

-- and then the server closes the connection
pub record ClosingAt {S : Type 0} (m : HubMeaning S) (who : Identity) (max : ℕ) (before : List ℕ) (pieces : List Piece) (old : Tables) (response : ResponseCode) (said : List Reply) (new : Tables) (rest : List ℕ) (h0 h1 : S) : Type 0 where
  pub first : List Reply
  pub mid : Tables
  pub last : Tables
  pub answered : AnsweredAt m who max before pieces old first mid rest h0 h1
  pub stands : mid.ended ≡ None
  pub reply : Reply
  pub closes : says last reply ≡ closed response mid
  pub passes : Passes last new
  pub said_is : said ≡ first ++ reply ∷ []

-- The ends are those of one feed: all whole frames are answered; or a command ended the session; or a frame that no command
-- spells did; or a size above the greatest did.
pub data FedAt {S : Type 0} (m : HubMeaning S) (who : Identity) (max : ℕ) (before : List ℕ) (pieces : List Piece) (old : Tables) (said : List Reply) (new : Tables) (rest : List ℕ) (h0 h1 : S) : Type 0 where
  Partly : AnsweredAt m who max before pieces old said new rest h0 h1 → new.ended ≡ None → IsPartial max rest → FedAt m who max before pieces old said new rest h0 h1
  Ended : AnsweredAt m who max before pieces old said new rest h0 h1 → new.ended ≢ None → FedAt m who max before pieces old said new rest h0 h1
  Unspelt : (fault : DecodeFault) → ClosingAt m who max before pieces old code.UnknownFrame said new rest h0 h1 → BeginsUnspelt max rest fault → FedAt m who max before pieces old said new rest h0 h1
  TooLarge : (size : ℕ) → ClosingAt m who max before pieces old code.FrameTooLarge said new rest h0 h1 → IsTooLarge max rest size → FedAt m who max before pieces old said new rest h0 h1

-- Feeds of a session that stands, each at its moment, give the frames of one run over the joined pieces.
abbrev pub FeedsJoin : {S : Type 0} → HubMeaning S → Type 0
FeedsJoin {S} m =
    (old new : SessionState) (pieces : List Piece) (gave : List ℕ) (h0 h1 : S) → old.tables.ended ≡ None → IsPartial 1048576 old.rest → AreFed m old pieces gave new h0 h1
    → (said : List Reply) × (rest : List ℕ) × (gave ≡ all_frames old.who said) × FedAt m old.who 1048576 old.rest pieces old.tables said new.tables rest h0 h1
