-- That what a session answers to its peer's commands can be spelled.
use Rattle.std.specs.Prelude.{ℕ, ◌≤◌, List, length, Option, IfSome}
use Rattle.command_all.specs.declared.command.Command.{Command}
use Rattle.command_all.specs.declared.identity.Identity.{Identity}
use Rattle.command_all.specs.Commands.{Spells}
use Rattle.hub_terms.specs.Meaning.{HubMeaning}
use Rattle.hub_terms.specs.Programs.{Runs}
use Rattle.session_tables.specs.Opening.{leaves}
use Rattle.session_tables.specs.Spelling.{IsSayable}
use Rattle.session_tables.specs.declared.reply.Reply.{Reply}
use Rattle.session_tables.specs.declared.tables.Tables.{Tables}
use Rattle.session_core.specs.Commands.{command_row}

-- The reply to a command of a frame of at most 1,048,576 bytes has a spelling, at every stage.
abbrev pub RepliesAreSayable : {S : Type 0} → HubMeaning S → Type 0
RepliesAreSayable {S} m =
    (who : Identity) (t : Tables) (now : ℕ) (command : Command) (body : List ℕ) → Spells command body → length body ≤ 1048576
    → (reply : Option Reply) (new : Tables) (h0 h1 : S) → Runs m (command_row who t now command) h0 (leaves reply new) h1 → IfSome reply IsSayable
