use Rattle.std.proofs.Common.{◌≡◌, inl, inr, List, ℕ, refl, sym, ◌∙◌, ap, subst, arith, length, take}
use Rattle.std.proofs.lemmas.Bool.{false≢true}
use Rattle.disk_calls.specs.Disk.{Settled}
use Rattle.gated_words.specs.declared.record.Form.TheVariants as form
use Rattle.gated_words.specs.Words.{header}
use Rattle.gated_words.proofs.Tearing.{cut_done, cut_stays}
use Rattle.gated_words.proofs.Opening.{found_there, made_has, made_spelled}
use Rattle.gated_words.proofs.open_file.tidy.Goals as goal

pub returns-then-not-has_header-clause-images : goal.returns-then-not-has_header-clause-images
returns-then-not-has_header-clause-images g c = λ told d left.
    let other : take 8 c.args.bytes.now ≡ header form.Second → ⊥ = λ front. false≢true (sym c.if-not-has_header.true ∙ c.has_header.ensures.1 front) in
    elim (c.make.ensures.images d left) [
      | inl old ↦ inl old
      | inr short ↦ inr (made_has _ _ d c.requires.reads other (omega (arith, short, ap length c.header.ensures)))
    ]

pub returns-then-not-has_header-clause-done : goal.returns-then-not-has_header-clause-done
returns-then-not-has_header-clause-done g c = λ told did.
    let other : take 8 c.args.bytes.now ≡ header form.Second → ⊥ = λ front. false≢true (sym c.if-not-has_header.true ∙ c.has_header.ensures.1 front) in
    subst (λ (l : List ℕ). Settled c.args.two l (g.D.Disk.state c.make.new.disk)) (c.header.ensures ∙ made_spelled _ _ c.requires.reads other) (c.make.ensures.done told did)

pub trim-requires : goal.trim-requires
trim-requires g c = λ told. (c.args.bytes.now, found_there _ _ _ (c.requires.found told) (c.has_header.ensures.0 c.if-not-has_header.false), refl)

pub returns-clause-images : goal.returns-clause-images
returns-clause-images g c = λ told d left.
    let front = c.has_header.ensures.0 c.if-not-has_header.false in
    let settled = found_there _ _ _ (c.requires.found told) front in
    inr (cut_stays _ _ _ d (c.requires.reads.splits front) c.requires.reads.fit refl (c.trim.ensures.images told _ settled d left))

pub returns-clause-done : goal.returns-clause-done
returns-clause-done g c = λ told did.
    let front = c.has_header.ensures.0 c.if-not-has_header.false in
    let settled = found_there _ _ _ (c.requires.found told) front in
    subst (λ (l : List ℕ). Settled c.args.two l (g.D.Disk.state c.trim.new.disk)) (cut_done c.args.bytes.now c.args.pairs.now _ (c.requires.reads.splits front) refl) (c.trim.ensures.done told did _ settled)
