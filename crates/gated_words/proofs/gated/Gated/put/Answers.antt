use Rattle.std.proofs.Common.{◌≡◌, ap, ◌∙◌}
use Rattle.gated_words.specs.InHand.{InHand}
use Rattle.gated_words.proofs.Hands.{adds_backs, adds_only, hand_second, may_add}
use Rattle.gated_words.proofs.Opening.{seen_leaves}
use Rattle.gated_words.proofs.gated.Gated.put.Goals as goal

pub returns-clause-images : goal.returns-clause-images
returns-clause-images g c = λ told.
    let seen = seen_leaves c.args.self.now.id _ (λ f. g.met.D.Disk.reads_image c.args.disk.now f told) in
    let same : c.self.inside.id ≡ c.args.self.now.id = ap (λ (h : InHand). h.id) c.self.view_is ∙ c.in_ok-reopen.ensures.id in
    may_add _ _ _ _ _ _ same seen (ap (λ (h : InHand). h.pairs) c.self.view_is ∙ c.in_ok-reopen.ensures.pairs told) (c.put_sure.ensures.images told)

pub returns-clause-backs : goal.returns-clause-backs
returns-clause-backs g c = λ told.
    let put = c.put_sure.ensures in
    let second = hand_second c.reopen.new.self _ c.self.inside.id (ap (λ (h : InHand). h.id) c.self.view_is) (c.in_ok-reopen.ensures.backs told) in
    adds_backs _ _ _ _ _ _ _ second (put.images told) (put.held told) put.ok put.err

pub returns-clause-only : goal.returns-clause-only
returns-clause-only g c = λ told.
    let put = c.put_sure.ensures in
    let same : c.self.inside.id ≡ c.args.self.now.id = ap (λ (h : InHand). h.id) c.self.view_is ∙ c.in_ok-reopen.ensures.id in
    adds_only c.self.inside.id c.args.self.now.id _ _ _ _ same (put.held told) put.ok
