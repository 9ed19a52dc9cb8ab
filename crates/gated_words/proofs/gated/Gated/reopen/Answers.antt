use Rattle.std.proofs.Common.{rules, sym, ap, ◌∙◌}
use Rattle.gated_words.specs.InHand.{InHand}
use Rattle.gated_words.proofs.Hands.{backs_undamaged, hand_second, held_seen, held_backs}
use Rattle.gated_words.proofs.Opening.{seen_leaves}
use Rattle.gated_words.proofs.gated.Gated.reopen.Goals as goal

pub returns-then-self-clause-pairs : goal.returns-then-self-clause-pairs
returns-then-self-clause-pairs g c = λ told. sym (held_seen _ _ _ ((c.requires told).held (sym (ap (λ (h : InHand). h.sure) c.self.view_is) ∙ c.if-self.true)))

pub returns-in_err-self-inside-clause-undamaged : goal.returns-in_err-self-inside-clause-undamaged
returns-in_err-self-inside-clause-undamaged g c = λ told place is.
    let seen = seen_leaves c.args.self.now.id _ (λ f. g.met.D.Disk.reads_image c.args.disk.now f told) in
    backs_undamaged c.args.self.now _ c.self.inside.id place (ap (λ (h : InHand). h.id) c.self.view_is) seen (c.requires told) (c.in_err-self-inside.ensures.damaged told place (search rules))

pub returns-clause-backs : goal.returns-clause-backs
returns-clause-backs g c = λ told. held_backs _ _ (hand_second c.args.self.now _ _ (ap (λ (h : InHand). h.id) c.self.view_is) (c.requires told)) (c.in_ok-self-inside.ensures.held told)
