-- What an accept does to the links that a listener is to hand out, and whether it has ended.
use Rattle.std.specs.Prelude.{◌≡◌, Bool, true, List, [], ◌∷◌}
use Rattle.outside_io.specs.declared.listener.Accepted.{Accepted}
use Rattle.outside_io.specs.declared.listener.Accepted.TheVariants as accepted

-- a listener has ended from the first answer Ended on
abbrev pub over_after : {L : Type 0} → Bool → Accepted L → Bool
over_after before (accepted.Got link) = before
over_after before accepted.Ended = true
over_after before accepted.Failed = before

-- an accept hands out the first link, says that they ended only where none is left, and takes none if it fails
abbrev pub HandsOut : {L : Type 0} → List L → Accepted L → List L → Type 0
HandsOut old (accepted.Got link) new = old ≡ link ∷ new
HandsOut old accepted.Ended new = (old ≡ []) × (new ≡ old)
HandsOut old accepted.Failed new = new ≡ old
