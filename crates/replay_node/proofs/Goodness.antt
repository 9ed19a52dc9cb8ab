-- A script that has no Bad line, without faults, ends well.
use Rattle.std.proofs.Common.{◌≡◌, ℕ, ◌≤◌, ◌⊎◌, List, [], ◌++◌, length, Option, Some, None, refl, sym, ap, subst, ◌∙◌, append_assoc, length-append, arith, inl, inr}
use Rattle.std.proofs.lemmas.List.{append-nil}
use Rattle.outside_io.specs.Causes.{Rose}
use Rattle.outside_io.specs.Known.{before_known, IsEmptyKnown}
use Rattle.replay_node.specs.declared.player.ReplayEnd.{ReplayEnd}
use Rattle.replay_node.specs.declared.player.ReplayEnd.TheVariants.{Done, Bad, ReadFault, WriteFault, Memory, TooLong}
use Rattle.replay_node.specs.NodeState.{NodeState}
use Rattle.replay_node.specs.Replays.{status_of, most_bytes, IsBadNext, lines_bytes, Replays}
use Rattle.replay_node.specs.Complete.{IsGoodScript}

-- what was taken of a told script, and what is left of it
told : (script taken : List ℕ) (left : Option (List ℕ)) → Some script ≡ before_known taken left → (more : List ℕ) × (left ≡ Some more) × (script ≡ taken ++ more)
told script taken None e = absurd cc
told script taken (Some more) e = (more, refl, let same : script ≡ taken ++ more = cc in same)

next_longer : (node : NodeState) (rest more : List ℕ) → IsBadNext node rest → IsBadNext node (rest ++ more)
next_longer node rest more bad =
    record { line = bad.line; more = bad.more ++ more; parts = ap (λ (l : List ℕ). l ++ more) bad.parts ∙ append_assoc bad.line bad.more more; complete = bad.complete; bad = bad.bad }

never_bad : (script : List ℕ) (left : Option (List ℕ)) (w0 w1 : Option (List ℕ)) (r : Replays Bad (Some script) left w0 w1) → IsGoodScript script → ⊥
never_bad script left w0 w1 r good =
    let p = r.plays in
    let t = told script r.taken left r.took in
    let more : List ℕ = t.0 in
    let parts : script ≡ lines_bytes p.lines ++ (r.rest ++ more) = t.2 ∙ ap (λ (l : List ℕ). l ++ more) p.read ∙ append_assoc (lines_bytes p.lines) r.rest more in
    let fine = good p.lines p.outputs r.node (r.rest ++ more) p.run parts in
    elim r.ending.0 [
      | inl next ↦ fine.0 (next_longer r.node r.rest more next)
      | inr last ↦ (
          let none : more ≡ [] = subst IsEmptyKnown t.1 last.ended in
          let same : r.rest ++ more ≡ r.rest = ap (λ (l : List ℕ). r.rest ++ l) none ∙ append-nil r.rest in
          let some = last.some in
          fine.1 (subst (λ (l : List ℕ). 1 ≤ length l) (sym same) some) (rw same last.lacks))
    ]

never_long : (script : List ℕ) (left : Option (List ℕ)) (w0 w1 : Option (List ℕ)) (r : Replays TooLong (Some script) left w0 w1) → length script ≤ most_bytes → ⊥
never_long script left w0 w1 r short =
    let t = told script r.taken left r.took in
    let len = ap length t.2 in
    let long = r.limit in
    omega (arith, len, length-append r.taken t.0)

ends_well : (end : ReplayEnd) (script : List ℕ) (left w0 w1 : Option (List ℕ)) (status s0 s1 k0 k1 : ℕ) → status ≡ status_of end → Replays end (Some script) left w0 w1 → length script ≤ most_bytes → IsGoodScript script
    → (status ≡ 4 → Rose s0 s1) → (status ≡ 5 → Rose k0 k1) → (Rose s0 s1 → ⊥) → (Rose k0 k1 → ⊥) → (status ≡ 0) ⊎ (status ≡ 6)
ends_well Done script left w0 w1 status s0 s1 k0 k1 is r short good read write no_read no_write = inl is
ends_well Bad script left w0 w1 status s0 s1 k0 k1 is r short good read write no_read no_write = absurd (never_bad script left w0 w1 r good)
ends_well ReadFault script left w0 w1 status s0 s1 k0 k1 is r short good read write no_read no_write = absurd (no_read (read is))
ends_well WriteFault script left w0 w1 status s0 s1 k0 k1 is r short good read write no_read no_write = absurd (no_write (write is))
ends_well Memory script left w0 w1 status s0 s1 k0 k1 is r short good read write no_read no_write = inr is
ends_well TooLong script left w0 w1 status s0 s1 k0 k1 is r short good read write no_read no_write = absurd (never_long script left w0 w1 r short)

pub complete : (end : ReplayEnd) (script : List ℕ) (before left w0 w1 : Option (List ℕ)) (status s0 s1 k0 k1 : ℕ) → status ≡ status_of end → Replays end before left w0 w1 → (status ≡ 4 → Rose s0 s1) → (status ≡ 5 → Rose k0 k1)
    → before ≡ Some script → length script ≤ most_bytes → IsGoodScript script → (Rose s0 s1 → ⊥) → (Rose k0 k1 → ⊥) → (status ≡ 0) ⊎ (status ≡ 6)
complete end script before left w0 w1 status s0 s1 k0 k1 is r read write told_all short good no_read no_write =
    ends_well end script left w0 w1 status s0 s1 k0 k1 is (subst (λ (l : Option (List ℕ)). Replays end l left w0 w1) told_all r) short good read write no_read no_write
