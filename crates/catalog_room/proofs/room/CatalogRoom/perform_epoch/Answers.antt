use Rattle.std.proofs.Common.{◌≡◌, ◌∙◌, ℕ, subst}
use Rattle.std.specs.Prelude.{OnOk}
use Rattle.disk_calls.specs.declared.file_id.FileId.{FileId}
use Rattle.disk_calls.specs.Frames.{Besides}
use Rattle.gated_words.specs.Files.{second_file}
use Rattle.gated_words.specs.Backing.{KeepsPairs, MayAdd}
use Rattle.segment_store.specs.Words.{EachWord, word_of}
use Rattle.catalog_room.specs.Rooms.{room_of}
use Rattle.catalog_room.proofs.Apart.{catalog_stays, of_epochs}
use Rattle.catalog_room.proofs.room.CatalogRoom.perform_epoch.Goals as goal

pub returns-clause-images : goal.returns-clause-images
returns-clause-images g c = λ told.
    let was = room_of c.self.inside.catalog c.self.inside.epochs c.self.inside.disk c.self.inside.damages in
    of_epochs (λ f d. MayAdd f (c.args.stream, c.args.epoch) (g.D.Disk.state d) (g.D.Disk.state c.perform.new.disk)) was c.args.self.now c.self.view_is c.self.invariant.2 (c.perform.ensures.images told)

pub returns-clause-only : goal.returns-clause-only
returns-clause-only g c = λ told other.
    subst (λ (f : FileId). OnOk c.perform.result (EachWord f other (λ word. word ≡ word_of other c.perform.new.self.pairs) (g.D.Disk.state c.perform.new.disk))) c.self.invariant.2 (c.perform.ensures.only told other)

pub returns-clause-memory : goal.returns-clause-memory
returns-clause-memory g c = λ told out.
    let was = room_of c.self.inside.catalog c.self.inside.epochs c.self.inside.disk c.self.inside.damages in
    of_epochs (λ f d. KeepsPairs f (g.D.Disk.state d) (g.D.Disk.state c.perform.new.disk)) was c.args.self.now c.self.view_is c.self.invariant.2 (c.perform.ensures.memory told out)

pub returns-clause-others : goal.returns-clause-others
returns-clause-others g c =
    let was = room_of c.self.inside.catalog c.self.inside.epochs c.self.inside.disk c.self.inside.damages in
    of_epochs (λ f d. Besides f (second_file f) (g.D.Disk.state d) (g.D.Disk.state c.perform.new.disk)) was c.args.self.now c.self.view_is c.self.invariant.2 c.perform.ensures.others

pub invariant_of-self : goal.invariant_of-self
invariant_of-self g c =
    let others = subst (λ (f : FileId). Besides f (second_file f) (g.D.Disk.state c.self.inside.disk) (g.D.Disk.state c.perform.new.disk)) c.self.invariant.2 c.perform.ensures.others in (
      λ told. catalog_stays c.self.inside.catalog (g.D.Disk.state c.self.inside.disk) (g.D.Disk.state c.perform.new.disk) others (c.self.invariant.0 told),
      λ told. c.perform.ensures.backs told,
      c.perform.ensures.id ∙ c.self.invariant.2,
    )
