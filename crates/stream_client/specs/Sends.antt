-- What a client sends, as bytes.
use Rattle.std.specs.Prelude.{◌≡◌, ℕ, List, Option, Some, None, Result, Ok, Err}
use Rattle.std.specs.declared.alloc.AllocError.{AllocError}
use Rattle.command_all.specs.declared.command.Command.{Command}
use Rattle.command_all.specs.Commands.{IsFrame}
use Rattle.client_terms.specs.States.{ClientState}
use Rattle.client_terms.specs.Sending.{Next, due, frame_due, behind}

-- the bytes of a frame, where there is one
abbrev pub AreBytesOf : Option Command → Option (List ℕ) → Type 0
AreBytesOf None None = Unit {0}
AreBytesOf (Some command) (Some bytes) = IsFrame command bytes
AreBytesOf None (Some bytes) = ⊥
AreBytesOf (Some command) None = ⊥

-- What comes next was sent, as these bytes. Want of memory leaves the client as it was.
abbrev pub Sends : Next → ClientState → Result (Option (List ℕ)) AllocError → ClientState → Type 0
Sends next old (Ok bytes) new = AreBytesOf (frame_due old next) bytes × (new ≡ behind old next)
Sends next old (Err e) new = new ≡ old
