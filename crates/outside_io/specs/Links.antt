-- What a receive adds to the answers of a link, where those are told, and whether the peer has ended.
use Rattle.std.specs.Prelude.{◌≡◌, ℕ, ◌≤◌, ◌<◌, Bool, true, List, [], ◌∷◌, length, take, Option}
use Rattle.outside_io.specs.Known.{after_known}
use Rattle.outside_io.specs.declared.link.Heard.{Heard}
use Rattle.outside_io.specs.declared.link.Heard.TheVariants as heard
use Rattle.outside_io.specs.declared.link.Hearing.{Hearing}
use Rattle.outside_io.specs.declared.link.Hearing.TheVariants as hearing

-- a receive adds its answer, a piece with its bytes; one that fails adds none
abbrev pub Hears : Option (List Hearing) → Heard → List ℕ → Option (List Hearing) → Type 0
Hears old (heard.Got n) buf new = (0 < n) × (n ≤ length buf) × (new ≡ after_known old (hearing.Piece (take n buf) ∷ []))
Hears old heard.Quiet buf new = new ≡ after_known old (hearing.Quiet ∷ [])
Hears old heard.Ended buf new = new ≡ after_known old (hearing.Ended ∷ [])
Hears old heard.Failed buf new = new ≡ old

-- the peer has ended from the first answer Ended on
abbrev pub ended_after : Bool → Heard → Bool
ended_after before (heard.Got n) = before
ended_after before heard.Quiet = before
ended_after before heard.Ended = true
ended_after before heard.Failed = before

-- how many bytes a receive gave
abbrev pub heard_count : Heard → ℕ
heard_count (heard.Got n) = n
heard_count heard.Quiet = 0
heard_count heard.Ended = 0
heard_count heard.Failed = 0

-- what a receive answers that hears this
abbrev pub answer_of : Hearing → Heard
answer_of (hearing.Piece bytes) = heard.Got (length bytes)
answer_of hearing.Quiet = heard.Quiet
answer_of hearing.Ended = heard.Ended
