-- The lengths of spellings, up to the greatest body of a frame.
use Rattle.std.specs.Prelude.{◌≡◌, ◌≤◌, ℕ, List, length, Option, Some, None}
use Rattle.frame_wire.specs.Fields.{text_bytes, IsText}
use Rattle.frame_wire.specs.Formats.{Format}
use Rattle.command_fields.specs.Tables.{Table, FitsIn, body_of}

-- The length of the spelling; none where there is no spelling, or a longer one than a frame holds.
abbrev pub Measures : {A F : Type 0} → Format A F → A → Option ℕ → Type 0
Measures f x (Some n) = f.Fits x × (n ≡ length (f.spell x)) × (n ≤ 4294967295)
Measures f x None = f.Fits x → length (f.spell x) ≤ 4294967295 → ⊥

-- the length of a text's spelling
abbrev pub MeasuresText : Option (List ℕ) → ℕ → Type 0
MeasuresText text n = IsText text × (n ≡ length (text_bytes text)) × (n ≤ 32769)

-- the length of a command's body; none where no frame holds one
abbrev pub MeasuresIn : {C K : Type 0} → Table C K → C → Option ℕ → Type 0
MeasuresIn table c (Some n) = FitsIn table c × (n ≡ length (body_of table c))
MeasuresIn table c None = FitsIn table c → ⊥
