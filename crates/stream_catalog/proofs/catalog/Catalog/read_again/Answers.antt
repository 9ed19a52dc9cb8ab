use Rattle.std.proofs.Common.{◌≡◌, ◌∙◌, sym, ap, refl, rules, false}
use Rattle.stream_catalog.specs.Names.{Names}
use Rattle.stream_catalog.specs.InHand.{Catalogued, streams_without}
use Rattle.stream_catalog.proofs.Recording.{seen_leaves}
use Rattle.stream_catalog.proofs.Applying.{again_failed, again_read}
use Rattle.stream_catalog.proofs.catalog.Catalog.read_again.Goals as goal

pub returns-in_err-read-clause-again : goal.returns-in_err-read-clause-again
returns-in_err-read-clause-again g c = λ told.
    let seen = seen_leaves (g.D.Disk.state c.args.disk.now) (λ f. g.met.D.Disk.reads_image c.args.disk.now f told) in
    let unsure : c.args.self.now.sure ≡ false = sym (ap (λ (x : Catalogued). x.sure) c.self.view_is) ∙ c.if-self.false in
    again_failed c.args.self.now _ c.in_err-read.field-0.0 c.from_residual.result (g.D.Disk.state c.args.disk.now) (g.D.Disk.state c.find_again.new.disk) c.from_residual.ensures (c.requires told) seen (c.find_again.ensures.images told) c.in_err-read.ensures.fault
    (λ place is. c.in_err-read.ensures.damaged told place (search rules)) unsure
    (ap (λ (x : Catalogued). x.names) c.self.view_is) (ap (λ (x : Catalogued). x.limit) c.self.view_is) (ap (λ (x : Catalogued). x.sure) c.self.view_is) c.new.ensures c.new-2.ensures

pub returns-clause-again : goal.returns-clause-again
returns-clause-again g c = λ told.
    let unsure : c.args.self.now.sure ≡ false = sym (ap (λ (x : Catalogued). x.sure) c.self.view_is) ∙ c.if-self.false in
    let names : c.self.inside.listed ≡ c.args.self.now.names = ap (λ (x : Catalogued). x.names) c.self.view_is in
    let read = c.in_ok-read.field-0 in
    again_read c.args.self.now _ (g.D.Disk.state c.args.disk.now) (g.D.Disk.state c.find_again.new.disk) (c.find_again.ensures.images told) unsure (c.in_ok-read.ensures.known told) (c.in_ok-read.ensures.names told)
    (ap (λ (x : Catalogued). x.limit) c.self.view_is) refl
    (c.in_ok-read.ensures.came ∙ ap (λ (n : Names). streams_without n read.read.listed) names)
    (c.in_ok-read.ensures.went ∙ ap (λ (n : Names). streams_without read.read.listed n) names)
