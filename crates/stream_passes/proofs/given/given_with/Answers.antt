use Rattle.std.proofs.Common.{refl, sym, ◌∙◌}
use Rattle.stream_passes.proofs.Serials.{stands, known_copy}
use Rattle.stream_passes.proofs.given.given_with.Goals as goal

pub bounds-passes-pass : goal.bounds-passes-pass
bounds-passes-pass c = let k = c.requires.known in (stands c.args.passes.now c.args.pass.now k.0 k.0 c.requires.serials k.1 k.2).inside

pub returns : goal.returns
returns c =
    let k = c.requires.known in
    let d = c.index-passes-pass.result in
    let both = known_copy c.args.passes.now c.args.pass.now d k.0 c.in_ok-name.name c.requires.serials c.requires.short k.1 k.2 (sym c.index-passes-pass.is) (c.in_ok-name.ensures ∙ c.as_slice.ensures) in
    (refl, both.0, both.1)
