use Rattle.std.proofs.Common.{true, false, sym, ◌∙◌}
use Rattle.stream_cluster.proofs.Leading.{runs_down, runs_idle, runs_so}
use Rattle.stream_cluster.proofs.replicas.Replicas.running.Goals as goal

pub returns-then-not-self : goal.returns-then-not-self
returns-then-not-self c = let s = c.self.inside in runs_down s.seats.items s.coordinator s.mail.items s.last s.committed.items s.numbers c.args.self.now s.coordinator_up c.self.view_is c.if-not-self.true

pub returns-in_default : goal.returns-in_default
returns-in_default c = let s = c.self.inside in runs_idle s.seats.items s.coordinator s.mail.items s.last s.committed.items s.numbers c.args.self.now s.coordinator_up c.self.view_is c.if-not-self.false (sym c.running.ensures ∙ c.in_default.is)

pub returns-then-not-is_open_in : goal.returns-then-not-is_open_in
returns-then-not-is_open_in c =
    let s = c.self.inside in
    let p = c.in-Some.runs in
    runs_so s.seats.items s.coordinator s.mail.items s.last s.committed.items s.numbers c.args.self.now s.coordinator_up p.0 p.1 false c.self.view_is c.if-not-self.false (sym c.running.ensures ∙ c.in-Some.is) (sym c.is_open_in.ensures ∙ c.if-not-is_open_in.true)

pub returns : goal.returns
returns c =
    let s = c.self.inside in
    let p = c.in-Some.runs in
    runs_so s.seats.items s.coordinator s.mail.items s.last s.committed.items s.numbers c.args.self.now s.coordinator_up p.0 p.1 true c.self.view_is c.if-not-self.false (sym c.running.ensures ∙ c.in-Some.is) (sym c.is_open_in.ensures ∙ c.if-not-is_open_in.false)
