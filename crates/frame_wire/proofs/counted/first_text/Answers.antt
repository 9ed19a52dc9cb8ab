use Rattle.std.proofs.Common.{◌<◌, refl, arith, inl}
use Rattle.std.specs.Int.{w16}
use Rattle.frame_wire.specs.declared.fault.FieldFault.TheVariants.{Short, Negative}
use Rattle.frame_wire.specs.Reading.{Spot}
use Rattle.frame_wire.specs.Formats.{text_field}
use Rattle.frame_wire.proofs.FieldFormats.{text_lawful, refused, null_text, some_text, cut_off, below_null}
use Rattle.frame_wire.proofs.counted.first_text.Goals as goal

pub returns-in_default : goal.returns-in_default
returns-in_default c =
    let s : Spot = record { at = c.args.place; rest = c.args.bytes.now } in
    refused text_field text_lawful s (Short c.args.place) (inl c.in_default.ensures.stands, refl)

pub returns-then-len : goal.returns-then-len
returns-then-len c = null_text (record { at = c.args.place; rest = c.args.bytes.now }) c.in-Some.len c.in-Some.ensures.stands.0 c.in-Some.ensures.stands.1 c.if-len.true

pub returns-then-len-gt32767 : goal.returns-then-len-gt32767
returns-then-len-gt32767 c =
    let s : Spot = record { at = c.args.place; rest = c.args.bytes.now } in
    let other = c.if-len.false in
    let under : c.in-Some.len < 65535 = grind arith in
    refused text_field text_lawful s (Negative c.args.place) (below_null w16 32767 65535 s c.in-Some.len c.in-Some.ensures.value c.in-Some.ensures.stands.1 c.if-len-gt32767.true under)

pub returns-then-bytes-len : goal.returns-then-bytes-len
returns-then-bytes-len c =
    let s : Spot = record { at = c.args.place; rest = c.args.bytes.now } in
    refused text_field text_lawful s (Short c.args.place) (cut_off w16 32767 65535 s c.in-Some.len c.in-Some.ensures.value c.in-Some.ensures.stands.1 c.if-len-gt32767.false c.if-bytes-len.true)

pub returns : goal.returns
returns c = some_text (record { at = c.args.place; rest = c.args.bytes.now }) c.in-Some.len c.in-Some.ensures.stands.0 c.in-Some.ensures.stands.1 c.if-len-gt32767.false c.if-bytes-len.false
