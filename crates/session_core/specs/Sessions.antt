-- A session: what it keeps between its calls, and what each call does.
use Rattle.std.specs.Prelude.{◌≡◌, ℕ, List, [], ◌∷◌, ◌++◌, Option, None, Some}
use Rattle.command_all.specs.declared.identity.Identity.{Identity}
use Rattle.hub_terms.specs.Meaning.{HubMeaning}
use Rattle.hub_terms.specs.Programs.{Runs}
use Rattle.session_tables.specs.Beating.{seen_at, received_at, sent_at}
use Rattle.session_tables.specs.Opening.{Outcome}
use Rattle.session_tables.specs.Spelling.{some_frames, all_frames}
use Rattle.session_tables.specs.declared.moments.Moments.{Moments}
use Rattle.session_tables.specs.declared.reply.Reply.{Reply}
use Rattle.session_tables.specs.declared.tables.SessionEnd.{SessionEnd}
use Rattle.session_tables.specs.declared.tables.SessionEnd.TheVariants.{Memory}
use Rattle.session_tables.specs.declared.tables.Tables.{Tables}
use Rattle.session_core.specs.declared.unasked.Unasked.{Unasked}
use Rattle.session_core.specs.Feeding.{Fed}
use Rattle.session_core.specs.Living.{at_tick, ends_by}
use Rattle.session_core.specs.Polling.{poll_row}
use Rattle.session_core.specs.Speaking.{spoken}

-- the server's limits and its user, what is kept, and the bytes that came of a command that isn't whole
pub record SessionState : Type 0 where
  pub who : Identity
  pub tables : Tables
  pub rest : List ℕ

abbrev pub new_session : Identity → Tables → SessionState
new_session who t = record { who = who; tables = t; rest = [] }

abbrev pub out_of_memory : Tables → Tables
out_of_memory t = record t { ended = Some Memory }

-- Memory ran out: a session that stood has ended so.
pub record RanOut (old new : SessionState) : Type 0 where
  pub stood : old.tables.ended ≡ None
  pub ended : new.tables.ended ≡ Some Memory
  pub same : new.who ≡ old.who

-- ---- moments

-- bytes came, if there are some
abbrev pub received_if : List ℕ → Moments → Moments
received_if [] m = m
received_if (byte ∷ bytes) m = received_at m

-- frames go, if there are some
abbrev pub sent_if : List ℕ → Moments → Moments
sent_if [] m = m
sent_if (byte ∷ bytes) m = sent_at m

-- a piece comes at a moment
abbrev pub comes : ℕ → List ℕ → Tables → Tables
comes now piece t = record t { moments = received_if piece (seen_at now t.moments) }

abbrev pub goes : List ℕ → Tables → Tables
goes bytes t = record t { moments = sent_if bytes t.moments }

-- ---- feed

-- A piece comes, what is whole with it is answered, and the frames of the replies go.
pub record Serves {S : Type 0} (m : HubMeaning S) (who : Identity) (now : ℕ) (piece : List ℕ) (old : Tables) (before : List ℕ) (bytes : List ℕ) (new : Tables) (rest : List ℕ) (h0 h1 : S) : Type 0 where
  pub said : List Reply
  pub served : Tables
  pub fed : Fed m who now 1048576 (before ++ piece) (comes now piece old) said served rest h0 h1
  pub frames : bytes ≡ all_frames who said
  pub noted : new ≡ goes bytes served

abbrev pub feed_by : {S : Type 0} → HubMeaning S → ℕ → List ℕ → SessionState → List ℕ → SessionState → S → S → Option SessionEnd → Type 0
feed_by m now piece old bytes new h0 h1 None = (new.who ≡ old.who) × Serves m old.who now piece old.tables old.rest bytes new.tables new.rest h0 h1
feed_by m now piece old bytes new h0 h1 (Some how) = (bytes ≡ []) × (new ≡ old) × (h1 ≡ h0)

-- a session that has ended does nothing more
abbrev pub FeedGives : {S : Type 0} → HubMeaning S → ℕ → List ℕ → SessionState → List ℕ → SessionState → S → S → Type 0
FeedGives m now piece old bytes new h0 h1 = feed_by m now piece old bytes new h0 h1 old.tables.ended

-- ---- tick

abbrev pub ticked_by : SessionState → List ℕ → SessionState → Outcome → Type 0
ticked_by old bytes new due = (bytes ≡ some_frames old.who due.reply) × (new ≡ record old { tables = due.tables })

abbrev pub TickGives : ℕ → SessionState → List ℕ → SessionState → Type 0
TickGives now old bytes new = ticked_by old bytes new (at_tick now old.tables)

-- ---- poll

-- what was said goes, if something was
abbrev pub told : List Unasked → Tables → Tables
told [] t = t
told (unasked ∷ more) t = record t { moments = sent_at t.moments }

-- what is due is said
pub record PollGives {S : Type 0} (m : HubMeaning S) (old : SessionState) (said : List Unasked) (new : SessionState) (h0 h1 : S) : Type 0 where
  pub polled : Tables
  pub run : Runs m (poll_row old.tables []) h0 (spoken said polled) h1
  pub noted : new ≡ record old { tables = told said polled }

-- ---- the end of the link

abbrev pub link_ended : SessionEnd → SessionState → SessionState
link_ended how s = record s { tables = ends_by how s.tables }
