use Rattle.std.proofs.Common.{◌≡◌, ◌<◌, length, get_or, sym, ap, ◌∙◌, arith}
use Rattle.stream_terms.specs.declared.terms.Given.{Given}
use Rattle.stream_passes.proofs.Serials.{stands}
use Rattle.stream_passes.proofs.given.was_given.Goals as goal

pub returns-then-place-passes : goal.returns-then-place-passes
returns-then-place-passes c = (λ t. absurd (grind (arith, t)), λ e. absurd (let s = stands c.args.passes.now c.args.pass.now e.0 e.0 c.requires e.1 e.2 in let i = s.inside in omega (arith, i, c.if-place-passes.true)))

pub returns : goal.returns
returns c =
    let gs = c.args.passes.now in
    let p = c.args.pass.now in
    let d = c.index-passes-place.result in
    let here : get_or gs p.serial d ≡ d = sym c.index-passes-place.is in
    let inside : p.serial < length gs = omega (arith, c.if-place-passes.false) in (
      λ t. (d, (p.serial, inside, here), ap (λ (x : Given). x.pass) (sym here) ∙ c.is_same_pass.ensures.0 t),
      λ e. c.is_same_pass.ensures.1 (stands gs p d e.0 c.requires e.1 e.2).there,
    )
