-- Numbers at places of bytes.
use Rattle.std.proofs.Common.{◌≡◌, ℕ, ◌+◌, ◌-◌, List, ◌++◌, length, take, drop, sym, ap, ◌∙◌}
use Rattle.std.proofs.lemmas.List.{drop-drop, take_rest}
use Rattle.frame_wire.specs.Reading.{Spot, past}

pub read_at : {X : Type 0} (spell : X → List ℕ) (size place : ℕ) (x : X) (bytes : List ℕ) (old new : Spot) → old.rest ≡ take (length bytes - place) (drop place bytes)
    → old.rest ≡ spell x ++ new.rest → new ≡ past size old → drop place bytes ≡ spell x ++ drop (place + size) bytes
read_at spell size place x bytes old new is read moved =
    let here : old.rest ≡ drop place bytes = is ∙ take_rest bytes place in
    let after : new.rest ≡ drop (place + size) bytes = ap (λ (s : Spot). s.rest) moved ∙ ap (drop size) here ∙ drop-drop size place bytes in
    sym here ∙ read ∙ ap (λ (r : List ℕ). spell x ++ r) after
