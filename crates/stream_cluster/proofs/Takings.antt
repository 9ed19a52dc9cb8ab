-- A member that is up takes a message.
use Rattle.std.proofs.Common.{◌≡◌, ℕ, Bool, true, false, List, Option, Some, None, refl, sym, ap, subst, ◌∙◌}
use Rattle.epoch_coordinator.specs.declared.message.Job.{Job}
use Rattle.epoch_coordinator.specs.declared.message.Message.{Message}
use Rattle.epoch_coordinator.specs.declared.message.Sent.{Sent}
use Rattle.epoch_coordinator.specs.Members.{MemberState}
use Rattle.epoch_coordinator.specs.MemberSteps.{Took, taken, commit_end}
use Rattle.replication_laws.specs.Cluster.{Seat}
use Rattle.member_core.specs.declared.take.Taken.{Taken}
use Rattle.member_core.specs.declared.take.Taken.TheVariants.{Done}
use Rattle.member_core.specs.States.{answer_by, state_by}
use Rattle.cluster_core.specs.States.{seat_of}
use Rattle.stream_cluster.specs.Seats.{in_seat}

idle_state : (job : Option Job) (m : MemberState) (t : Took) → job ≡ None → state_by job m t ≡ t.state
idle_state None m t h = refl
idle_state (Some job) m t h = absurd (cc h)

idle_sent : (job : Option Job) (t : Took) (sent : List Sent) → job ≡ None → answer_by job t ≡ Done sent → sent ≡ t.sent
idle_sent None t sent h e = cc e
idle_sent (Some job) t sent h e = absurd (cc h)

module _ (now : ℕ) (message : Message) where
  takes_state : (up : Bool) (m new : MemberState) → up ≡ true → m.job ≡ None → new ≡ state_by m.job m (taken now message m) → seat_of up new ≡ in_seat (taken now message (seat_of up m).state).state
  takes_state false m new u idle is = absurd (cc u)
  takes_state true m new u idle is = ap in_seat (is ∙ idle_state m.job m (taken now message m) idle)

  takes_sent : (up : Bool) (m : MemberState) (answer : Taken) (sent : List Sent) → up ≡ true → m.job ≡ None → answer ≡ answer_by m.job (taken now message m) → answer ≡ Done sent → sent ≡ (taken now message (seat_of up m).state).sent
  takes_sent false m answer sent u idle is done = absurd (cc u)
  takes_sent true m answer sent u idle is done = idle_sent m.job (taken now message m) sent idle (sym is ∙ done)

  takes_end : (up : Bool) (m new : MemberState) (end : ℕ) → up ≡ true → m.job ≡ None → new ≡ state_by m.job m (taken now message m) → end ≡ commit_end new → end ≡ commit_end (taken now message (seat_of up m).state).state
  takes_end false m new end u idle is e = absurd (cc u)
  takes_end true m new end u idle is e = e ∙ ap commit_end (is ∙ idle_state m.job m (taken now message m) idle)

  pub seat_takes : (up : Bool) (m new : MemberState) (old : Seat) → seat_of up m ≡ old → old.up ≡ true → old.state.job ≡ None → new ≡ state_by m.job m (taken now message m) → seat_of up new ≡ in_seat (taken now message old.state).state
  seat_takes up m new old view u idle is =
      subst (λ (o : Seat). seat_of up new ≡ in_seat (taken now message o.state).state) view (takes_state up m new (ap (λ (o : Seat). o.up) view ∙ u) (ap (λ (o : Seat). o.state.job) view ∙ idle) is)

  pub seat_sends : (up : Bool) (m : MemberState) (answer : Taken) (sent : List Sent) (old : Seat) → seat_of up m ≡ old → old.up ≡ true → old.state.job ≡ None → answer ≡ answer_by m.job (taken now message m) → answer ≡ Done sent → sent ≡ (taken now message old.state).sent
  seat_sends up m answer sent old view u idle is done =
      subst (λ (o : Seat). sent ≡ (taken now message o.state).sent) view (takes_sent up m answer sent (ap (λ (o : Seat). o.up) view ∙ u) (ap (λ (o : Seat). o.state.job) view ∙ idle) is done)

  pub seat_ends : (up : Bool) (m new : MemberState) (end : ℕ) (old : Seat) → seat_of up m ≡ old → old.up ≡ true → old.state.job ≡ None → new ≡ state_by m.job m (taken now message m) → end ≡ commit_end new → end ≡ commit_end (taken now message old.state).state
  seat_ends up m new end old view u idle is e =
      subst (λ (o : Seat). end ≡ commit_end (taken now message o.state).state) view (takes_end up m new end (ap (λ (o : Seat). o.up) view ∙ u) (ap (λ (o : Seat). o.state.job) view ∙ idle) is e)
