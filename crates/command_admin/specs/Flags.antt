-- A byte that tells yes or no: 1 or 0.
use Rattle.std.specs.Prelude.{◌≡◌, ◌<◌, ◌≤◌, ◌⊎◌, ℕ, Result, Ok, Err, ◌==◌, if◌then◌else◌}
use Rattle.frame_wire.specs.Fields.{u8_bytes}
use Rattle.frame_wire.specs.Reading.{Spot}
use Rattle.frame_wire.specs.Formats.{Format, Spelled, u8_field}
use Rattle.frame_wire.specs.Joins.{◌>>=◌, within}
use Rattle.command_fields.specs.declared.fault.DecodeFault.{DecodeFault}
use Rattle.command_fields.specs.declared.fault.DecodeFault.TheVariants.{Flag}
use Rattle.command_fields.specs.Faults.{of_field}

abbrev pub flag_at : Spot → Result (ℕ × Spot) DecodeFault
flag_at s = (within of_field u8_field).read s >>= λ n. if n.0 == 0 then Ok n else if n.0 == 1 then Ok n else Err (Flag s.at)

-- The byte is missing, or it is above 1.
abbrev pub FlagWrong : Spot → DecodeFault → Type 0
FlagWrong s fault = (within of_field u8_field).Wrong s fault ⊎ ((n : ℕ) × (t : Spot) × Spelled u8_field s n t × (1 < n) × (fault ≡ Flag s.at))

abbrev pub flag : Format ℕ DecodeFault
flag = record { spell = u8_bytes; Fits = λ n. n ≤ 1; read = flag_at; Wrong = FlagWrong }
