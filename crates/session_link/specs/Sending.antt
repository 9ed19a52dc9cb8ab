-- What is sent over a link, where small frames are joined before they go.
use Rattle.std.specs.Prelude.{◌≡◌, ℕ, List, ◌++◌, flat_map, Option}
use Rattle.outside_io.specs.Known.{after_known}
use Rattle.command_all.specs.Commands.{frame_of}
use Rattle.session_core.specs.declared.unasked.Unasked.{Unasked}
use Rattle.session_core.specs.Outgoing.{command_of}
use Rattle.session_link.specs.declared.sending.Went.{Went}
use Rattle.session_link.specs.declared.sending.Went.TheVariants as went

-- the frames of what is said unasked, one behind the other
abbrev pub frames_said : List Unasked → List ℕ
frames_said said = flat_map (λ (u : Unasked). frame_of (command_of u)) said

-- Of the bytes that are due these are left, and those before them were sent.
pub record Leaves (old : Option (List ℕ)) (due : List ℕ) (new : Option (List ℕ)) (left : List ℕ) : Type 0 where
  pub gone : List ℕ
  pub sent : new ≡ after_known old gone
  pub split : gone ++ left ≡ due

-- A front of the bytes was sent, maybe none of them or all.
abbrev pub SentFront : Option (List ℕ) → List ℕ → Option (List ℕ) → Type 0
SentFront old due new = (left : List ℕ) × Leaves old due new left

-- Bytes go behind those that are joined: what is joined then is what is still to be sent. If they do not go, a front was sent.
abbrev pub PutBy : Option (List ℕ) → List ℕ → List ℕ → Went → Option (List ℕ) → List ℕ → Type 0
PutBy old joined bytes went.Sent new joined_new = Leaves old (joined ++ bytes) new joined_new
PutBy old joined bytes went.Failed new joined_new = SentFront old (joined ++ bytes) new
PutBy old joined bytes went.Memory new joined_new = SentFront old (joined ++ bytes) new

-- All bytes are to be sent. If they are not, a front was.
abbrev pub SentBy : Option (List ℕ) → List ℕ → Went → Option (List ℕ) → Type 0
SentBy old bytes went.Sent new = new ≡ after_known old bytes
SentBy old bytes went.Failed new = SentFront old bytes new
SentBy old bytes went.Memory new = SentFront old bytes new
