use Rattle.std.proofs.Common.{arith}
use Rattle.script_text.proofs.Readings.{no_image}
use Rattle.script_text.proofs.script.read_stop_all.Goals as goal

pub returns-else-image-lt-IMAGES : goal.returns-else-image-lt-IMAGES
returns-else-image-lt-IMAGES c =
    no_image c.args.words.now c.in-Some.calls c.in-Some.image c.in-Some.ensures.0 c.in-Some.ensures.1 c.in-Some.ensures.2 (let large = c.if-image-lt-IMAGES.false in omega (arith, large))
