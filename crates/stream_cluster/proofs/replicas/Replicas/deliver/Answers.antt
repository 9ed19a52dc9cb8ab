use Rattle.std.proofs.Common.{◌≡◌, List, Some, position, refl, sym, subst, ◌∙◌}
use Rattle.replication_laws.specs.Cluster.{letter_in}
use Rattle.cluster_core.specs.declared.mail.Numbered.{Numbered}
use Rattle.cluster_core.specs.Parts.{has_number}
use Rattle.cluster_core.specs.States.{ReplicaState}
use Rattle.cluster_core.proofs.Letters.{letter_none, letter_at}
use Rattle.cluster_core.proofs.Deliveries.{due_none, due_down, due_busy, due_free}
use Rattle.stream_cluster.specs.Letters.{ComesTo}
use Rattle.stream_cluster.proofs.Coming.{comes_to}
use Rattle.stream_cluster.proofs.replicas.Replicas.deliver.Goals as goal

pub returns-in_default : goal.returns-in_default
returns-in_default c =
    let s = c.self.inside in
    (rw (← c.self.view_is) (due_none c.args.number _ (letter_none c.args.number s.mail.items (rw c.as_slice.ensures.value at (sym c.place_of.ensures.is ∙ c.in_default.is)))), refl)

pub returns-then-not-is_up : goal.returns-then-not-is_up
returns-then-not-is_up c =
    let n = c.index.result.now in
    let at = subst (λ (m : List Numbered). position (has_number c.args.number) m ≡ Some c.in-Some.place) c.as_slice.ensures.value (sym c.place_of.ensures.is ∙ c.in-Some.is) in
    let letter = subst (λ (r : ReplicaState). letter_in c.args.number r.cluster.mail ≡ Some n.sent) c.self.view_is (letter_at c.args.number c.self.inside.mail.items c.in-Some.place n at c.index.ensures) in
    (due_down c.args.number c.args.self.now.cluster n.sent letter (sym c.is_up.ensures ∙ c.if-not-is_up.true), refl)

pub returns-then-has_job : goal.returns-then-has_job
returns-then-has_job c =
    let n = c.index.result.now in
    let at = subst (λ (m : List Numbered). position (has_number c.args.number) m ≡ Some c.in-Some.place) c.as_slice.ensures.value (sym c.place_of.ensures.is ∙ c.in-Some.is) in
    let letter = subst (λ (r : ReplicaState). letter_in c.args.number r.cluster.mail ≡ Some n.sent) c.self.view_is (letter_at c.args.number c.self.inside.mail.items c.in-Some.place n at c.index.ensures) in
    (due_busy c.args.number c.args.self.now.cluster n.sent letter (sym c.is_up.ensures ∙ c.if-not-is_up.false) (sym c.has_job.ensures ∙ c.if-has_job.true), refl)

pub returns : goal.returns
returns c =
    let n = c.index.result.now in
    let at = subst (λ (m : List Numbered). position (has_number c.args.number) m ≡ Some c.in-Some.place) c.as_slice.ensures.value (sym c.place_of.ensures.is ∙ c.in-Some.is) in
    let letter = subst (λ (r : ReplicaState). letter_in c.args.number r.cluster.mail ≡ Some n.sent) c.self.view_is (letter_at c.args.number c.self.inside.mail.items c.in-Some.place n at c.index.ensures) in
    let comes = subst (λ (r : ReplicaState). ComesTo c.args.number c.in-Some.place n.sent.to r.cluster.mail) c.self.view_is (comes_to c.args.number c.in-Some.place c.self.inside.mail.items n at c.index.ensures) in (
      due_free c.args.number c.args.self.now.cluster n.sent letter (sym c.is_up.ensures ∙ c.if-not-is_up.false) (sym c.has_job.ensures ∙ c.if-has_job.false),
      c.in-Ok.ensures.ok c.args.number comes,
    )
