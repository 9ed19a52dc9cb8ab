-- A served link, turn by turn: what it hears, what its session does with that, and what it sends.
use Rattle.std.specs.Prelude.{◌≡◌, ℕ, Bool, true, List, [], ◌∷◌, ◌++◌, Option, None, Some, Result, Ok, Err}
use Rattle.std.specs.Option.{option_map}
use Rattle.outside_io.specs.Clocks.{IsFirst, later_moments}
use Rattle.outside_io.specs.Known.{after_known}
use Rattle.outside_io.specs.declared.link.Hearing.{Hearing}
use Rattle.outside_io.specs.declared.link.Hearing.TheVariants as hearing
use Rattle.hub_terms.specs.Meaning.{HubMeaning}
use Rattle.hub_terms.specs.Programs.{Runs}
use Rattle.session_tables.specs.Opening.{silent}
use Rattle.session_tables.specs.declared.tables.SessionEnd.{SessionEnd}
use Rattle.session_tables.specs.declared.tables.SessionEnd.TheVariants as ends
use Rattle.session_core.specs.declared.unasked.Unasked.{Unasked}
use Rattle.session_core.specs.Living.{link_ended_row}
use Rattle.session_core.specs.Sessions.{SessionState, FeedGives, TickGives, PollGives, link_ended}
use Rattle.session_link.specs.declared.gathering.Due.{Due}
use Rattle.session_link.specs.declared.sending.Went.{Went}
use Rattle.session_link.specs.declared.sending.Went.TheVariants as went
use Rattle.session_link.specs.Sending.{frames_said, SentFront, SentBy}

-- a session with its hub, and what its link and its clock tell of the answers and the bytes so far, and of the moments to come
pub record Served (S : Type 0) : Type 0 where
  pub session : SessionState
  pub hub : S
  pub heard : Option (List Hearing)
  pub sent : Option (List ℕ)
  pub moments : Option (List ℕ)

abbrev pub served : {S : Type 0} → SessionState → S → Option (List Hearing) → Option (List ℕ) → Option (List ℕ) → Served S
served session hub heard sent moments = record { session = session; hub = hub; heard = heard; sent = sent; moments = moments }

-- How a session ended of itself. That its peer ended or that a call failed is told by its link, and no such end.
abbrev pub own_end : Option SessionEnd → Option SessionEnd
own_end None = None
own_end (Some ends.PeerEnded) = None
own_end (Some ends.ClosedByPeer) = Some ends.ClosedByPeer
own_end (Some (ends.ClosedByUs response)) = Some (ends.ClosedByUs response)
own_end (Some ends.ReadFault) = None
own_end (Some ends.WriteFault) = None
own_end (Some ends.Silent) = Some ends.Silent
own_end (Some ends.Memory) = Some ends.Memory

-- whether the peer has ended, by how the link ended
abbrev pub ended_by : Bool → SessionEnd → Bool
ended_by before ends.PeerEnded = true
ended_by before ends.ClosedByPeer = before
ended_by before (ends.ClosedByUs response) = before
ended_by before ends.ReadFault = before
ended_by before ends.WriteFault = before
ended_by before ends.Silent = before
ended_by before ends.Memory = before

-- the same after a turn that may have ended it
abbrev pub end_of : Bool → Option SessionEnd → Bool
end_of before None = before
end_of before (Some how) = ended_by before how

-- ---- a turn

-- a piece that was heard is fed; where nothing came nothing is
abbrev pub Feeds : {S : Type 0} → HubMeaning S → ℕ → Hearing → SessionState → List ℕ → SessionState → S → S → Type 0
Feeds m now (hearing.Piece piece) old bytes new h0 h1 = FeedGives m now piece old bytes new h0 h1
Feeds m now hearing.Quiet old bytes new h0 h1 = (bytes ≡ []) × (new ≡ old) × (h1 ≡ h0)
Feeds m now hearing.Ended old bytes new h0 h1 = ⊥

-- The session ticks at a moment and is polled: the frame of its tick, and what it says unasked.
pub record Beats {S : Type 0} (m : HubMeaning S) (now : ℕ) (old : SessionState) (bytes : List ℕ) (said : List Unasked) (new : SessionState) (h0 h1 : S) : Type 0 where
  pub ticked : SessionState
  pub ticks : TickGives now old bytes ticked
  pub polls : PollGives m ticked said new h0 h1

-- What was heard is fed, and then the session ticks at the same moment and is polled.
pub record Answers {S : Type 0} (m : HubMeaning S) (now : ℕ) (heard : Hearing) (old : SessionState) (first second : List ℕ) (said : List Unasked) (new : SessionState) (h0 h1 : S) : Type 0 where
  pub fed : SessionState
  pub mid : S
  pub feeds : Feeds m now heard old first fed h0 mid
  pub beats : Beats m now fed second said new mid h1

-- One receive heard something, and the clock was asked once.
pub record HearsAt {S : Type 0} (old new : Served S) (heard : Hearing) (now : ℕ) : Type 0 where
  pub stands : own_end old.session.tables.ended ≡ None
  pub heard_is : new.heard ≡ after_known old.heard (heard ∷ [])
  pub moment : IsFirst old.moments now
  pub later : new.moments ≡ option_map later_moments old.moments

-- A turn, with the frames that are due then, in the order of feed, tick and poll.
pub record Turn {S : Type 0} (m : HubMeaning S) (old new : Served S) (due : List ℕ) : Type 0 where
  pub heard : Hearing
  pub now : ℕ
  pub first : List ℕ
  pub second : List ℕ
  pub said : List Unasked
  pub hears : HearsAt old new heard now
  pub answers : Answers m now heard old.session first second said new.session old.hub new.hub
  pub due_is : due ≡ (first ++ second) ++ frames_said said

-- a turn whose frames were all sent
abbrev pub WholeTurn : {S : Type 0} → HubMeaning S → Served S → Served S → Type 0
WholeTurn m old new = (due : List ℕ) × Turn m old new due × (new.sent ≡ after_known old.sent due)

-- whole turns, one after the other, with what stands after each
abbrev pub Turns : {S : Type 0} → HubMeaning S → Served S → List (Served S) → Served S → Type 0
Turns m old [] new = new ≡ old
Turns m old (mid ∷ more) new = WholeTurn m old mid × Turns m mid more new

-- ---- the end

-- how a link ends by what came of sending
abbrev pub end_by : Went → Option SessionEnd
end_by went.Sent = None
end_by went.Failed = Some ends.WriteFault
end_by went.Memory = Some ends.Memory

-- Memory ran out before anything of a turn was sent: the hub has only gone on.
pub record RanOut {S : Type 0} (m : HubMeaning S) (old new : Served S) : Type 0 where
  pub later : m.seen.later old.hub new.hub
  pub none_sent : new.sent ≡ old.sent

-- How the link ended: the session did of itself; the peer sends no more; a receive failed; or in a turn a send failed or memory
-- ran out, where a front of the frames that were due was sent.
pub data EndsIn {S : Type 0} (m : HubMeaning S) (how : SessionEnd) (old new : Served S) : Type 0 where
  OfItself : own_end old.session.tables.ended ≡ Some how → new ≡ old → EndsIn m how old new
  PeerEnded : own_end old.session.tables.ended ≡ None → how ≡ ends.PeerEnded → new ≡ record old { heard = after_known old.heard (hearing.Ended ∷ []) } → EndsIn m how old new
  NotHeard : own_end old.session.tables.ended ≡ None → how ≡ ends.ReadFault → new ≡ old → EndsIn m how old new
  NotSent : how ≡ ends.WriteFault → (due : List ℕ) → Turn m old new due → SentFront old.sent due new.sent → EndsIn m how old new
  NotMade : how ≡ ends.Memory → (due : List ℕ) → Turn m old new due → SentFront old.sent due new.sent → EndsIn m how old new
  NoRoom : how ≡ ends.Memory → RanOut m old new → EndsIn m how old new

-- what comes of a turn: it was whole, or the link ended in it or before it
abbrev pub TurnBy : {S : Type 0} → HubMeaning S → Served S → Option SessionEnd → Served S → Type 0
TurnBy m old None new = WholeTurn m old new
TurnBy m old (Some how) new = EndsIn m how old new

-- what was due was made and sent, or a front of it; or it could not be made
abbrev pub ReplyBy : {E : Type 0} → Result Due E → Option (List ℕ) → Option SessionEnd → Option (List ℕ) → Type 0
ReplyBy (Ok due) old how new = (w : Went) × (how ≡ end_by w) × SentBy old ((due.fed ++ due.ticked) ++ frames_said due.said) w new
ReplyBy (Err e) old how new = (how ≡ Some ends.Memory) × (new ≡ old)

-- turns up to the end of the link
pub record Serves {S : Type 0} (m : HubMeaning S) (start : Served S) (how : SessionEnd) (ended : Served S) : Type 0 where
  pub each : List (Served S)
  pub last : Served S
  pub turns : Turns m start each last
  pub ends : EndsIn m how last ended

-- A served link: whole turns, then its end, and then each consumer of the session leaves its group.
pub record RunsTo {S : Type 0} (m : HubMeaning S) (start : Served S) (how : SessionEnd) (hub : S) (heard : Option (List Hearing)) (sent moments : Option (List ℕ)) : Type 0 where
  pub ended : Served S
  pub serves : Serves m start how ended
  pub leaves : Runs m (link_ended_row ended.session.tables) ended.hub (silent (link_ended ends.PeerEnded ended.session).tables) hub
  pub heard_is : heard ≡ ended.heard
  pub sent_is : sent ≡ ended.sent
  pub moments_is : moments ≡ ended.moments
