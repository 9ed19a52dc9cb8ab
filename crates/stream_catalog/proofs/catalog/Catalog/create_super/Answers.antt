use Rattle.std.proofs.Common.{◌≡◌, ◌∙◌, sym, ap, rules, ℕ, Ok}
use Rattle.stream_catalog.specs.Names.{Names}
use Rattle.stream_catalog.specs.Rules.{creates_super}
use Rattle.stream_catalog.specs.InHand.{Catalogued}
use Rattle.stream_catalog.proofs.Recording.{seen_leaves}
use Rattle.stream_catalog.proofs.Applying.{does_made}
use Rattle.stream_catalog.proofs.catalog.Catalog.create_super.Goals as goal

pub returns-clause-does : goal.returns-clause-does
returns-clause-does g c = λ told.
    let seen = seen_leaves (g.D.Disk.state c.read_again.new.disk) (λ f. g.met.D.Disk.reads_image c.read_again.new.disk f told) in
    let again = c.in_ok-read_again.ensures.again told in
    let names : c.self.inside.listed ≡ c.read_again.new.self.names = ap (λ (x : Catalogued). x.names) c.self.view_is in
    let limit : c.self.inside.limit ≡ c.args.self.now.limit = ap (λ (x : Catalogued). x.limit) c.self.view_is ∙ again.limit in
    let asks : creates_super c.args.self.now.limit c.args.name.now c.args.parts.now c.args.keys.now c.read_again.new.self.names ≡ Ok c.in_ok-change.change =
    sym (ap (λ (n : ℕ). creates_super n c.args.name.now c.args.parts.now c.args.keys.now c.read_again.new.self.names) limit) ∙ sym (ap (λ (n : Names). creates_super c.self.inside.limit c.args.name.now c.args.parts.now c.args.keys.now n) names) ∙ c.in_ok-change.ensures.asks in
    does_made (creates_super c.args.self.now.limit c.args.name.now c.args.parts.now c.args.keys.now) c.in_ok-change.change c.args.self.now c.read_again.new.self _ c.make.new.self c.make.result (g.D.Disk.state c.args.disk.now) (g.D.Disk.state c.read_again.new.disk) (g.D.Disk.state c.make.new.disk) again seen asks (search rules) (c.make.ensures.made told)
