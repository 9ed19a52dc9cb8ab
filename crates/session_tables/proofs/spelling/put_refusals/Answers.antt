use Rattle.std.proofs.Common.{◌≡◌, List, ap, ◌∙◌, arith}
use Rattle.std.specs.Prelude.{map}
use Rattle.command_data.specs.declared.item.Tagged.{Tagged}
use Rattle.session_tables.specs.Spelling.{refusal_of}
use Rattle.session_tables.proofs.Fits.{refusals_fit}
use Rattle.session_tables.proofs.spelling.put_refusals.Goals as goal

pub put_frame-requires : goal.put_frame-requires
put_frame-requires c =
    refusals_fit c.args.id c.args.code c.args.items.now c.in_ok-refusals.field-0 (omega arith) c.requires
    (c.in_ok-refusals.ensures.is ∙ ap (λ (is : List Tagged). map (refusal_of c.args.code) is) c.as_slice.ensures) c.in_ok-refusals.ensures.fits
