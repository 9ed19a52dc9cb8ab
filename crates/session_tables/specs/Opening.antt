-- The opening of a connection: what each stage takes, and what comes of it.
use Rattle.std.specs.Prelude.{ℕ, ◌+◌, ◌==◌, Bool, ◌&&◌, ◌||◌, List, length, take, drop, position, codes, Option, Some, None, if◌then◌else◌}
use Rattle.std.specs.Option.{option_map}
use Rattle.chunk_format.specs.ByName.{same_name}
use Rattle.command_fields.specs.declared.response.ResponseCode.{ResponseCode}
use Rattle.command_fields.specs.declared.response.ResponseCode.TheVariants as code
use Rattle.command_fields.specs.Codes.{number_of_code}
use Rattle.command_admin.specs.declared.command.AdminCommand.{AdminCommand}
use Rattle.command_admin.specs.declared.command.AdminCommand.TheVariants.{PeerProperties, SaslHandshake, SaslAuthenticate, Tune, TuneAnswer, OpenHost}
use Rattle.command_all.specs.declared.identity.Identity.{Identity}
use Rattle.session_tables.specs.Subscribing.{is_text}
use Rattle.session_tables.specs.declared.tables.Tables.{Tables}
use Rattle.session_tables.specs.declared.tables.Stage.{Stage}
use Rattle.session_tables.specs.declared.tables.Stage.TheVariants as stages
use Rattle.session_tables.specs.declared.tables.SessionEnd.TheVariants.{ClosedByUs, ClosedByPeer}
use Rattle.session_tables.specs.declared.reply.Reply.{Reply}
use Rattle.session_tables.specs.declared.reply.Reply.TheVariants as say
use Rattle.session_tables.specs.declared.reply.Request.TheVariants as request

-- what a command leaves: the reply, if there is one now, and what is kept
pub record Outcome : Type 0 where
  pub reply : Option Reply
  pub tables : Tables

abbrev pub leaves : Option Reply → Tables → Outcome
leaves answer t = record { reply = answer; tables = t }

abbrev pub says : Tables → Reply → Outcome
says t answer = record { reply = Some answer; tables = t }

abbrev pub silent : Tables → Outcome
silent t = record { reply = None; tables = t }

abbrev pub at : Stage → Tables → Tables
at next t = record t { stage = next }

-- the correlations of the server's own requests go from 1 on, and behind the greatest with 1 again
abbrev pub next_asked : ℕ → ℕ
next_asked asked = if asked == 4294967295 then 1 else asked + 1

-- the server closes the connection
abbrev pub closed : ResponseCode → Tables → Outcome
closed response t = says (record t { asked = next_asked t.asked; ended = Some (ClosedByUs (number_of_code response)) }) (say.Close (next_asked t.asked) response)

-- a frame that no command spells, or that the stage doesn't take
abbrev pub unknown : Tables → Outcome
unknown t = closed code.UnknownFrame t

-- ---- who the peer is

abbrev pub is_zero : ℕ → Bool
is_zero byte = byte == 0

-- what stands before the first zero byte, and behind it
abbrev pub cut_zero : List ℕ → Option (List ℕ × List ℕ)
cut_zero bytes = option_map (λ (place : ℕ). (take place bytes, drop 1 (drop place bytes))) (position is_zero bytes)

-- The first part is empty or the user, the second the user, the third the password.
abbrev pub is_user : Identity → List ℕ → List ℕ → List ℕ → Bool
is_user who first user password = ((length first == 0) || same_name first who.user) && same_name user who.user && same_name password who.password

-- why a peer that says this isn't let in
abbrev pub judged : Identity → List ℕ → List ℕ → List ℕ → Option ℕ → Option ResponseCode
judged who first user password None = if is_user who first user password then None else Some code.AuthenticationFailure
judged who first user password (Some place) = Some code.SaslError

abbrev pub second_part : Identity → List ℕ → Option (List ℕ × List ℕ) → Option ResponseCode
second_part who first None = Some code.SaslError
second_part who first (Some parts) = judged who first parts.0 parts.1 (position is_zero parts.1)

abbrev pub first_part : Identity → Option (List ℕ × List ℕ) → Option ResponseCode
first_part who None = Some code.SaslError
first_part who (Some parts) = second_part who parts.0 (cut_zero parts.1)

-- exactly two zero bytes part the data in three
abbrev pub refusal : Identity → Option (List ℕ) → Option ResponseCode
refusal who None = Some code.SaslError
refusal who (Some opaque) = first_part who (cut_zero opaque)

-- ---- the table of the opening: one command is taken at each stage

abbrev pub let_in : Tables → ℕ → Option ResponseCode → Outcome
let_in t corr None = says (at stages.Tuning t) (say.Welcome corr)
let_in t corr (Some response) = says (record t { ended = Some (ClosedByUs (number_of_code response)) }) (say.Sasl corr response)

abbrev pub authenticated : Identity → Tables → ℕ → Option (List ℕ) → Option (List ℕ) → Outcome
authenticated who t corr mechanism opaque =
    if is_text (codes "PLAIN") mechanism then let_in t corr (refusal who opaque)
    else says t (say.Sasl corr code.SaslMechanismNotSupported)

abbrev pub tuned : Tables → ℕ → Outcome
tuned t heartbeat = silent (record t { stage = stages.Tuned; moments = record t.moments { heartbeat = heartbeat } })

abbrev pub hosted : Tables → ℕ → Option (List ℕ) → Outcome
hosted t corr host = if is_text (codes "/") host then says (at stages.Open t) (say.Host corr) else says t (say.NoHost corr)

abbrev pub fresh : Tables → AdminCommand → Outcome
fresh t (PeerProperties corr properties) = says (at stages.Greeted t) (say.Peer corr)
fresh t other = unknown t

abbrev pub greeted : Tables → AdminCommand → Outcome
greeted t (SaslHandshake corr) = says (at stages.Shaken t) (say.Mechanisms corr)
greeted t other = unknown t

abbrev pub shaken : Identity → Tables → AdminCommand → Outcome
shaken who t (SaslAuthenticate corr mechanism opaque) = authenticated who t corr mechanism opaque
shaken who t other = unknown t

abbrev pub tuning : Tables → AdminCommand → Outcome
tuning t (Tune frame_max heartbeat) = tuned t heartbeat
tuning t (TuneAnswer frame_max heartbeat) = tuned t heartbeat
tuning t other = unknown t

abbrev pub waiting : Tables → AdminCommand → Outcome
waiting t (OpenHost corr host) = hosted t corr host
waiting t other = unknown t

abbrev pub opened : Identity → Tables → Stage → AdminCommand → Outcome
opened who t stages.Fresh command = fresh t command
opened who t stages.Greeted command = greeted t command
opened who t stages.Shaken command = shaken who t command
opened who t stages.Tuning command = tuning t command
opened who t stages.Tuned command = waiting t command
opened who t stages.Open command = unknown t

-- the peer ends the connection
abbrev pub parted : Tables → ℕ → Outcome
parted t corr = says (record t { ended = Some ClosedByPeer }) (say.Answer request.Close corr code.Ok)
