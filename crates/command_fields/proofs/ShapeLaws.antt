-- Contents that are never without bytes, and the answers that hold them.
use Rattle.std.proofs.Common.{ℕ, ◌<◌, List, length, Option, Some, None, arith, length-append}
use Rattle.std.specs.List.{flat_map}
use Rattle.frame_wire.specs.Fields.{u16_bytes, u32_bytes, u64_bytes, i64_bytes, blob_bytes, count_bytes}
use Rattle.frame_wire.specs.Formats.{Format}
use Rattle.frame_wire.specs.Joins.{◌then◌, or_absent}
use Rattle.frame_wire.specs.Laws.{Lawful}
use Rattle.frame_wire.specs.declared.fault.FieldFault.{FieldFault}
use Rattle.frame_wire.proofs.FieldLaws.{u16_length, u32_length, u64_length}
use Rattle.command_fields.specs.declared.fault.DecodeFault.{DecodeFault}
use Rattle.command_fields.specs.declared.offset.OffsetSpec.{OffsetSpec}
use Rattle.command_fields.specs.declared.offset.OffsetSpec.TheVariants.{Unset, First, Last, Next, At, Since}
use Rattle.command_fields.specs.Offsets.{spec_bytes}
use Rattle.command_fields.specs.Tables.{LawfulEnd, last, list_of, u16, u32}
use Rattle.command_fields.proofs.TableLaws.{last_lawful, then_ends, absent_ends, u16_in, u32_in, list_in}

pub number_some : (n : ℕ) → 0 < length (u64_bytes n)
number_some n = omega (arith, u64_length n)

pub list_some : {A : Type 0} (f : Format A FieldFault) (xs : List A) → 0 < length ((list_of f).spell xs)
list_some f xs = omega (arith, length-append (count_bytes (length xs)) (flat_map f.spell xs), u32_length (length xs))

pub blob_some : (b : Option (List ℕ)) → 0 < length (blob_bytes b)
blob_some None = omega (arith, u32_length 4294967295)
blob_some (Some bytes) = omega (arith, u32_length (length bytes), length-append (u32_bytes (length bytes)) bytes)

pub spec_some : (spec : OffsetSpec) → 0 < length (spec_bytes spec)
spec_some Unset = omega (arith, u16_length 0)
spec_some First = omega (arith, u16_length 1)
spec_some Last = omega (arith, u16_length 2)
spec_some Next = omega (arith, u16_length 3)
spec_some (At offset) = omega (arith, u16_length 4, length-append (u16_bytes 4) (u64_bytes offset))
spec_some (Since time) = omega (arith, u16_length 5, length-append (u16_bytes 5) (i64_bytes time))

-- a correlation, a code, and a field that may be absent
pub answer_ends : {A : Type 0} (f : Format A DecodeFault) → Lawful f → ((x : A) → 0 < length (f.spell x)) → LawfulEnd (u32 then u16 then or_absent (last f))
answer_ends f lawful some = then_ends _ _ u32_in (then_ends _ _ u16_in (absent_ends _ (last_lawful f lawful) some))

pub list_answer_ends : {A : Type 0} (f : Format A FieldFault) → Lawful f → LawfulEnd (u32 then u16 then or_absent (last (list_of f)))
list_answer_ends f lawful = answer_ends (list_of f) (list_in f lawful) (list_some f)
