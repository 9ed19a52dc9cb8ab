-- A connection that has ended stays so.
use Rattle.std.proofs.Common.{◌≡◌, ℕ, ◌==◌, Bool, true, false, cond, List, [], ◌∷◌, ◌++◌, refl, sym, ap, subst, ◌∙◌, inl, inr, eq-eqb}
use Rattle.std.specs.List.{AllByRecursion}
use Rattle.std.proofs.lemmas.Bool.{eqb-true}
use Rattle.script_text.specs.declared.script.ScriptLine.{ScriptLine}
use Rattle.script_text.specs.declared.script.ScriptLine.TheVariants.{Create, Connect, Prepare, Give, Poll, Leave, Tick, Elect, Deliver, Lose, Perform, Stop, Restart, Fail, Settle, Inspect, StopAll}
use Rattle.script_text.specs.declared.output.Ending.{Ending}
use Rattle.chunk_format.specs.declared.chunk.Chunk.{Chunk}
use Rattle.command_all.specs.declared.command.Command.{Command}
use Rattle.list_machine.specs.Streams.{Stream}
use Rattle.list_machine.specs.Commits.{CommitStep}
use Rattle.list_machine.specs.Moves.{Move, commits, StreamRun}
use Rattle.list_machine.specs.Machines.{Phase, unused, open_now, leaving, gone, Connection, Machine, put, Moves, only}
use Rattle.list_machine.specs.Lines.{left_by, Gives, Reads}
use Rattle.list_machine.specs.Answers.{Outcome, nothing, acts, changes, doubts, agrees, closes, after_by}
use Rattle.list_machine.specs.Sends.{Sends, Confirms, Delivers, Loses, Asks, Tunes, Beats, SendStep, Owed, Unasked, MayEnd}
use Rattle.list_machine.specs.Steps.{Event, read, handled, misread, made, refused, found, committed, sent, ended, told, Does, MachineStep, MachineRun}
use Rattle.list_machine.specs.Laws.{IsNotOf}

-- it has ended, and nothing is owed to it
pub record IsOver (k : Connection) : Type 0 where
  pub is_gone : k.phase ≡ gone
  pub all_written : k.owed ≡ []

-- another connection changes, or this one in a way that it stays so
other_put : (c other : ℕ) (k : Connection) (old : ℕ → Connection) → IsOver (old c) → (c ≡ other → IsOver k) → IsOver (put other k old c)
other_put c other k old over same = go (c == other) refl
  where
    go : (b : Bool) → (c == other) ≡ b → IsOver (cond b k (old c))
    go true e = same (eqb-true c other e)
    go false e = over

not_open : (k : Connection) → IsOver k → k.phase ≡ open_now → ⊥
not_open k over is_open = clash (sym over.is_gone ∙ is_open)
  where
    clash : gone ≡ open_now → ⊥
    clash e = cc

not_unused : (k : Connection) → IsOver k → k.phase ≡ unused → ⊥
not_unused k over is = clash (sym over.is_gone ∙ is)
  where
    clash : gone ≡ unused → ⊥
    clash e = cc

at_same : (f : ℕ → Connection) (P : Connection → Type 0) (c other : ℕ) → c ≡ other → P (f c) → P (f other)
at_same f P c other same h = subst (λ (n : ℕ). P (f n)) same h

left_over : (p : Phase) (k : Connection) → p ≡ gone → IsOver k → IsOver (left_by p k)
left_over unused k is over = over
left_over open_now k is over = absurd cc
left_over (leaving how) k is over = over
left_over gone k is over = over

gives_over : (p : Phase) (k new : Connection) (piece : List ℕ) → p ≡ gone → Gives p k piece new → IsOver k → IsOver new
gives_over unused k new piece is g over = absurd g
gives_over open_now k new piece is g over = absurd cc
gives_over (leaving how) k new piece is g over = subst IsOver (sym g) over
gives_over gone k new piece is g over = subst IsOver (sym g) over

-- ---- lines

line_over : (c : ℕ) (old : Machine) (line : ScriptLine) (moves : Moves) (after : Machine) → Reads old line moves after → IsOver (old.connections c) → IsOver (after.connections c)
line_over c old (Create name) moves after r over = subst (λ (m : Machine). IsOver (m.connections c)) (sym r.1) over
line_over c old (Connect other) moves after r over =
    subst (λ (m : Machine). IsOver (m.connections c)) (sym r.2) (other_put c other _ old.connections over (λ same. absurd (not_unused (old.connections other) (at_same old.connections IsOver c other same over) r.0)))
line_over c old (Prepare other name) moves after r over =
    subst (λ (m : Machine). IsOver (m.connections c)) (sym r.4) (other_put c other _ old.connections over (λ same. absurd (not_unused (old.connections other) (at_same old.connections IsOver c other same over) r.0)))
line_over c old (Give other piece) moves after r over =
    subst (λ (m : Machine). IsOver (m.connections c)) (sym r.3)
    (other_put c other r.0 old.connections over
    (λ same. (let there = at_same old.connections IsOver c other same over in gives_over (old.connections other).phase (old.connections other) r.0 piece there.is_gone r.1 there)))
line_over c old (Leave other) moves after r over =
    subst (λ (m : Machine). IsOver (m.connections c)) (sym r.1)
    (other_put c other _ old.connections over (λ same. (let there = at_same old.connections IsOver c other same over in left_over (old.connections other).phase (old.connections other) there.is_gone there)))
line_over c old (Tick moment) moves after r over = subst (λ (m : Machine). IsOver (m.connections c)) (sym r.2) over
line_over c old (StopAll calls image) moves after r over = subst (λ (m : Machine). IsOver (m.connections c)) (sym r.1) (left_over (old.connections c).phase (old.connections c) over.is_gone over)
line_over c old (Poll other) moves after r over = subst (λ (m : Machine). IsOver (m.connections c)) (sym r.1) over
line_over c old (Elect stream) moves after r over = subst (λ (m : Machine). IsOver (m.connections c)) (sym r.1) over
line_over c old (Deliver stream message) moves after r over = subst (λ (m : Machine). IsOver (m.connections c)) (sym r.1) over
line_over c old (Lose stream message) moves after r over = subst (λ (m : Machine). IsOver (m.connections c)) (sym r.1) over
line_over c old (Perform stream member) moves after r over = subst (λ (m : Machine). IsOver (m.connections c)) (sym r.1) over
line_over c old (Stop stream member calls image) moves after r over = subst (λ (m : Machine). IsOver (m.connections c)) (sym r.1) over
line_over c old (Restart stream member) moves after r over = subst (λ (m : Machine). IsOver (m.connections c)) (sym r.1) over
line_over c old (Fail stream member call) moves after r over = subst (λ (m : Machine). IsOver (m.connections c)) (sym r.1) over
line_over c old (Settle stream) moves after r over = subst (λ (m : Machine). IsOver (m.connections c)) (sym r.1) over
line_over c old (Inspect stream) moves after r over = subst (λ (m : Machine). IsOver (m.connections c)) (sym r.1) over

-- ---- all events

-- the event is none of the connection, which stays over
pub record Silent (c : ℕ) (event : Event) (after : Machine) : Type 0 where
  pub is_not : IsNotOf c event
  pub over : IsOver (after.connections c)

outcome_over : (c other : ℕ) (old : Machine) (k : Connection) (outcome : Outcome) → (c ≡ other → ⊥) → IsOver (old.connections c) → IsOver ((after_by old other k outcome).connections c)
outcome_over c other old k nothing apart over = other_put c other _ old.connections over (λ same. absurd (apart same))
outcome_over c other old k (acts number act) apart over = other_put c other _ old.connections over (λ same. absurd (apart same))
outcome_over c other old k (changes change) apart over = other_put c other _ old.connections over (λ same. absurd (apart same))
outcome_over c other old k (doubts change) apart over = other_put c other _ old.connections over (λ same. absurd (apart same))
outcome_over c other old k (agrees version) apart over = other_put c other _ old.connections over (λ same. absurd (apart same))
outcome_over c other old k (closes how) apart over = other_put c other _ old.connections over (λ same. absurd (apart same))

apart_open : (c other : ℕ) (old : Machine) → IsOver (old.connections c) → (old.connections other).phase ≡ open_now → c ≡ other → ⊥
apart_open c other old over is_open same = not_open (old.connections other) (at_same old.connections IsOver c other same over) is_open

same_over : (c : ℕ) (old after : Machine) → after ≡ old → IsOver (old.connections c) → IsOver (after.connections c)
same_over c old after is over = subst (λ (m : Machine). IsOver (m.connections c)) (sym is) over

sends_over : (c other : ℕ) (old : Machine) (command : Command) (moves : Moves) (after : Machine) → (old.connections other).phase ≡ open_now → Sends old other command moves after → IsOver (old.connections c) → IsOver (after.connections c)
sends_over c other old command moves after is_open (Confirms number id name items is m a) over = same_over c old after a over
sends_over c other old command moves after is_open (Delivers number id chunk last is v m a) over = same_over c old after a over
sends_over c other old command moves after is_open (Loses number lost is some all m a) over = same_over c old after a over
sends_over c other old command moves after is_open (Asks number id flag is small m a) over =
    subst (λ (m : Machine). IsOver (m.connections c)) (sym a) (other_put c other _ old.connections over (λ same. absurd (apart_open c other old over is_open same)))
sends_over c other old command moves after is_open (Tunes frame heartbeat is m a) over = same_over c old after a over
sends_over c other old command moves after is_open (Beats is m a) over = same_over c old after a over

send_silent : (c other : ℕ) (old : Machine) (command : Command) (moves : Moves) (after : Machine) → SendStep old other command moves after → IsOver (old.connections c) → Silent c (sent other command) after
send_silent c other old command moves after (Owed later is m a) over =
    let apart : c ≡ other → ⊥ = λ same. clash (sym (at_same old.connections IsOver c other same over).all_written ∙ is) in
    record { is_not = λ e. apart (sym e); over = subst (λ (m : Machine). IsOver (m.connections c)) (sym a) (other_put c other _ old.connections over (λ same. absurd (apart same))) }
  where
    clash : [] ≡ command ∷ later → ⊥
    clash e = cc
send_silent c other old command moves after (Unasked is_open sends) over =
    record { is_not = λ e. apart_open c other old over is_open (sym e); over = sends_over c other old command moves after is_open sends over }

may_not : (k : Connection) (how : Ending) → IsOver k → MayEnd k.phase how → ⊥
may_not k how over (inl e) = clash (sym over.is_gone ∙ e)
  where
    clash : gone ≡ leaving how → ⊥
    clash e = cc
may_not k how over (inr e) = not_open k over e.0

event_silent : (c : ℕ) (old : Machine) (event : Event) (moves : Moves) (after : Machine) → Does old event moves after → IsOver (old.connections c) → Silent c event after
event_silent c old (read line) moves after d over = record { is_not = tt; over = line_over c old line moves after d.reads over }
event_silent c old (handled other command answer) moves after d over =
    let apart = apart_open c other old over d.is_open in
    record { is_not = λ e. apart (sym e); over = subst (λ (m : Machine). IsOver (m.connections c)) (sym d.after_is) (outcome_over c other old _ d.outcome apart over) }
event_silent c old (misread other answer) moves after d over =
    let apart = apart_open c other old over d.is_open in
    record { is_not = λ e. apart (sym e); over = subst (λ (m : Machine). IsOver (m.connections c)) (sym d.after_is) (other_put c other _ old.connections over (λ same. absurd (apart same))) }
event_silent c old made moves after d over = record { is_not = tt; over = subst (λ (m : Machine). IsOver (m.connections c)) (sym d.after_is) over }
event_silent c old (refused code) moves after d over = record { is_not = tt; over = subst (λ (m : Machine). IsOver (m.connections c)) (sym d.after_is) over }
event_silent c old (found change) moves after d over = record { is_not = tt; over = subst (λ (m : Machine). IsOver (m.connections c)) (sym d.after_is) over }
event_silent c old (committed number chunk) moves after d over = record { is_not = tt; over = same_over c old after d.1 over }
event_silent c old (sent other command) moves after d over = send_silent c other old command moves after d over
event_silent c old (ended other how) moves after d over =
    let apart : c ≡ other → ⊥ = λ same. may_not (old.connections other) how (at_same old.connections IsOver c other same over) d.may in
    record { is_not = λ e. apart (sym e); over = subst (λ (m : Machine). IsOver (m.connections c)) (sym d.after_is) (other_put c other _ old.connections over (λ same. absurd (apart same))) }
event_silent c old (told line) moves after d over = record { is_not = tt; over = same_over c old after d.2 over }

all_silent : (c : ℕ) (events : List Event) (old new : Machine) → MachineRun old events new → IsOver (old.connections c) → AllByRecursion (IsNotOf c) events
all_silent c [] old new run over = tt
all_silent c (event ∷ events) old new run over =
    let one = event_silent c old event run.1.moves run.1.after run.1.does over in
    (one.is_not, all_silent c events run.0 new run.2 (subst IsOver (sym (run.1.connections c)) one.over))

end_over : (c : ℕ) (how : Ending) (old new : Machine) → MachineStep old (ended c how) new → IsOver (new.connections c)
end_over c how old new step =
    subst IsOver (sym (step.connections c ∙ ap (λ (m : Machine). m.connections c) step.does.after_is)) (own (c == c) (eq-eqb c c refl))
  where
    own : (b : Bool) → b ≡ true → IsOver (cond b (record (old.connections c) { phase = gone }) (old.connections c))
    own true e = record { is_gone = refl; all_written = step.does.all_written }
    own false e = absurd cc

pub behind_the_end : (before behind : List Event) (c : ℕ) (how : Ending) (old new : Machine) → MachineRun old (before ++ ended c how ∷ behind) new → AllByRecursion (IsNotOf c) behind
behind_the_end [] behind c how old new run = all_silent c behind run.0 new run.2 (end_over c how old run.0 run.1)
behind_the_end (event ∷ before) behind c how old new run = behind_the_end before behind c how run.0 new run.2

-- ---- commit lines

own_moves : (n : ℕ) (s t : Stream) (l : List Move) → StreamRun s (only n l n) t → StreamRun s l t
own_moves n s t l run = subst (λ (b : Bool). StreamRun s (cond b l []) t) (eq-eqb n n refl) run

pub commit_of : (old new : Machine) (number : ℕ) (chunk : Chunk) → MachineStep old (committed number chunk) new → CommitStep (old.streams number) chunk (new.streams number)
commit_of old new number chunk step =
    let r = own_moves number (old.streams number) (new.streams number) (commits chunk ∷ [])
    (subst (λ (m : Moves). StreamRun (old.streams number) (m number) (new.streams number)) step.does.0 (step.streams number)) in
    subst (CommitStep (old.streams number) chunk) (sym r.2) r.1
