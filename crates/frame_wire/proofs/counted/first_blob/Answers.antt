use Rattle.std.proofs.Common.{◌<◌, refl, arith, inl}
use Rattle.std.specs.Int.{w32}
use Rattle.frame_wire.specs.declared.fault.FieldFault.TheVariants.{Short, Negative}
use Rattle.frame_wire.specs.Reading.{Spot}
use Rattle.frame_wire.specs.Formats.{blob_field}
use Rattle.frame_wire.proofs.FieldFormats.{blob_lawful, refused, null_blob, some_blob, cut_off, below_null}
use Rattle.frame_wire.proofs.counted.first_blob.Goals as goal

pub returns-in_default : goal.returns-in_default
returns-in_default c =
    let s : Spot = record { at = c.args.place; rest = c.args.bytes.now } in
    refused blob_field blob_lawful s (Short c.args.place) (inl c.in_default.ensures.stands, refl)

pub returns-then-len : goal.returns-then-len
returns-then-len c = null_blob (record { at = c.args.place; rest = c.args.bytes.now }) c.in-Some.len c.in-Some.ensures.stands.0 c.in-Some.ensures.stands.1 c.if-len.true

pub returns-then-len-gt2147483647 : goal.returns-then-len-gt2147483647
returns-then-len-gt2147483647 c =
    let s : Spot = record { at = c.args.place; rest = c.args.bytes.now } in
    let other = c.if-len.false in
    let under : c.in-Some.len < 4294967295 = grind arith in
    refused blob_field blob_lawful s (Negative c.args.place) (below_null w32 2147483647 4294967295 s c.in-Some.len c.in-Some.ensures.value c.in-Some.ensures.stands.1 c.if-len-gt2147483647.true under)

pub returns-then-bytes-len : goal.returns-then-bytes-len
returns-then-bytes-len c =
    let s : Spot = record { at = c.args.place; rest = c.args.bytes.now } in
    refused blob_field blob_lawful s (Short c.args.place) (cut_off w32 2147483647 4294967295 s c.in-Some.len c.in-Some.ensures.value c.in-Some.ensures.stands.1 c.if-len-gt2147483647.false c.if-bytes-len.true)

pub returns : goal.returns
returns c = some_blob (record { at = c.args.place; rest = c.args.bytes.now }) c.in-Some.len c.in-Some.ensures.stands.0 c.in-Some.ensures.stands.1 c.if-len-gt2147483647.false c.if-bytes-len.false
