-- How a command's conversation with a hub ends.
use Rattle.std.specs.Prelude.{ℕ, Option, Some, None}
use Rattle.command_fields.specs.declared.response.ResponseCode.{ResponseCode}
use Rattle.hub_terms.specs.declared.terms.Found.{Found}
use Rattle.hub_terms.specs.declared.terms.Found.TheVariants.{Missing, Closed, Running}
use Rattle.hub_terms.specs.Programs.{Program, done}
use Rattle.session_tables.specs.Opening.{Outcome, says, silent}
use Rattle.session_tables.specs.declared.reply.Reply.{Reply}
use Rattle.session_tables.specs.declared.reply.Reply.TheVariants as say
use Rattle.session_tables.specs.declared.reply.Request.{Request}
use Rattle.session_tables.specs.declared.tables.Tables.{Tables}

-- with a reply
abbrev pub replies : Tables → Reply → Program Outcome
replies t reply = done (says t reply)

-- with a code alone
abbrev pub answers : Tables → Request → ℕ → ResponseCode → Program Outcome
answers t request corr response = done (says t (say.Answer request corr response))

-- without a word
abbrev pub is_quiet : Tables → Program Outcome
is_quiet t = done (silent t)

-- the number of the stream that a name leads to
abbrev pub stream_of : Found → Option ℕ
stream_of Missing = None
stream_of (Closed stream) = Some stream
stream_of (Running stream epoch) = Some stream
