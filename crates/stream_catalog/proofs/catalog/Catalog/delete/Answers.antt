use Rattle.std.proofs.Common.{◌≡◌, ◌∙◌, sym, ap, rules, Ok}
use Rattle.stream_catalog.specs.Names.{Names}
use Rattle.stream_catalog.specs.Rules.{deletes}
use Rattle.stream_catalog.specs.InHand.{Catalogued}
use Rattle.stream_catalog.proofs.Recording.{seen_leaves}
use Rattle.stream_catalog.proofs.Applying.{does_made}
use Rattle.stream_catalog.proofs.catalog.Catalog.delete.Goals as goal

pub returns-clause-does : goal.returns-clause-does
returns-clause-does g c = λ told.
    let seen = seen_leaves (g.D.Disk.state c.read_again.new.disk) (λ f. g.met.D.Disk.reads_image c.read_again.new.disk f told) in
    let again = c.in_ok-read_again.ensures.again told in
    let names : c.self.inside.listed ≡ c.read_again.new.self.names = ap (λ (x : Catalogued). x.names) c.self.view_is in
    let asks : deletes c.args.name.now c.read_again.new.self.names ≡ Ok c.in_ok-change.change = sym (ap (λ (n : Names). deletes c.args.name.now n) names) ∙ c.in_ok-change.ensures.asks in
    does_made (deletes c.args.name.now) c.in_ok-change.change c.args.self.now c.read_again.new.self _ c.make.new.self c.make.result (g.D.Disk.state c.args.disk.now) (g.D.Disk.state c.read_again.new.disk) (g.D.Disk.state c.make.new.disk) again seen asks (search rules) (c.make.ensures.made told)
