use Rattle.std.proofs.Common.{◌≡◌, ◌∙◌, sym, ap, rules, ℕ, List, Option, Ok}
use Rattle.stream_catalog.specs.declared.holder.Holder.{Holder}
use Rattle.stream_catalog.specs.Names.{Names, streams}
use Rattle.stream_catalog.specs.Rules.{deletes_super, numbers_going, holder_at}
use Rattle.stream_catalog.specs.InHand.{Catalogued, TellsGone}
use Rattle.stream_catalog.proofs.Recording.{seen_leaves}
use Rattle.stream_catalog.proofs.Applying.{does_ok, does_err, gone_numbers}
use Rattle.stream_catalog.proofs.catalog.Catalog.delete_super.Goals as goal

pub returns-in_err-make-clause-does : goal.returns-in_err-make-clause-does
returns-in_err-make-clause-does g c = λ told.
    let seen = seen_leaves (g.D.Disk.state c.read_again.new.disk) (λ f. g.met.D.Disk.reads_image c.read_again.new.disk f told) in
    let again = c.in_ok-read_again.ensures.again told in
    let names : c.self.inside.listed ≡ c.read_again.new.self.names = ap (λ (x : Catalogued). x.names) c.self.view_is in
    let asks : deletes_super c.args.name.now c.read_again.new.self.names ≡ Ok c.in_ok-change.change = sym (ap (λ (n : Names). deletes_super c.args.name.now n) names) ∙ c.in_ok-change.ensures.asks in
    does_err TellsGone (deletes_super c.args.name.now) c.in_ok-change.change c.args.self.now c.read_again.new.self _ c.make.new.self c.in_err-make.field-0.0 c.from_residual-in_err-make.result (g.D.Disk.state c.args.disk.now) (g.D.Disk.state c.read_again.new.disk) (g.D.Disk.state c.make.new.disk)
    c.from_residual-in_err-make.ensures again seen asks (search rules) (c.in_err-make.ensures.made told)

pub returns-clause-does : goal.returns-clause-does
returns-clause-does g c = λ told.
    let seen = seen_leaves (g.D.Disk.state c.read_again.new.disk) (λ f. g.met.D.Disk.reads_image c.read_again.new.disk f told) in
    let again = c.in_ok-read_again.ensures.again told in
    let names : c.self.inside.listed ≡ c.read_again.new.self.names = ap (λ (x : Catalogued). x.names) c.self.view_is in
    let asks : deletes_super c.args.name.now c.read_again.new.self.names ≡ Ok c.in_ok-change.change = sym (ap (λ (n : Names). deletes_super c.args.name.now n) names) ∙ c.in_ok-change.ensures.asks in
    let listed : c.names.result.now ≡ c.read_again.new.self.names = c.names.ensures ∙ names in
    let numbers : c.in_ok-numbers.numbers ≡ numbers_going (holder_at c.args.name.now c.read_again.new.self.names) (streams c.read_again.new.self.names) =
    c.in_ok-numbers.ensures
    ∙ ap (λ (h : Option Holder). numbers_going h c.streams.result.now) (c.holder_at.ensures ∙ ap (λ (n : Names). holder_at c.args.name.now n) listed)
    ∙ ap (λ (l : List ℕ). numbers_going (holder_at c.args.name.now c.read_again.new.self.names) l) (c.streams.ensures.numbers ∙ ap streams names) in
    does_ok TellsGone (deletes_super c.args.name.now) c.in_ok-change.change c.args.self.now c.read_again.new.self _ c.make.new.self _ c.in_ok-numbers.numbers (g.D.Disk.state c.args.disk.now) (g.D.Disk.state c.read_again.new.disk) (g.D.Disk.state c.make.new.disk)
    again seen asks (search rules) (c.in_ok-make.ensures.made told) (gone_numbers c.args.name.now c.read_again.new.self.names c.in_ok-change.change c.in_ok-numbers.numbers asks numbers)
