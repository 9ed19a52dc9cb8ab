-- The answers that are written on a connection are those that were fixed; and what is sent unasked is a step of a stream.
use Rattle.std.proofs.Common.{◌≡◌, ℕ, ◌==◌, ◌&&◌, Bool, true, false, cond, List, [], ◌∷◌, ◌++◌, Option, Some, None, refl, sym, ap, subst, ◌∙◌, inl, eq-eqb, append_assoc}
use Rattle.std.specs.List.{AllByRecursion}
use Rattle.std.proofs.lemmas.Bool.{eqb-true}
use Rattle.std.proofs.lemmas.List.{append-nil}
use Rattle.std.proofs.lemmas.Grind.{flat_map-append}
use Rattle.chunk_format.specs.declared.chunk.Header.{Header}
use Rattle.command_data.specs.Deliveries.{delivery_of}
use Rattle.chunk_format.specs.Chunks.{header_of, entries_bytes}
use Rattle.command_data.specs.declared.item.Tagged.{Tagged}
use Rattle.command_data.specs.declared.command.DataCommand.TheVariants as data_commands
use Rattle.command_admin.specs.declared.command.AdminCommand.TheVariants as admin_commands
use Rattle.command_all.specs.declared.command.Command.{Command}
use Rattle.command_all.specs.declared.command.Command.TheVariants.{Data, Admin}
use Rattle.script_text.specs.declared.script.ScriptLine.{ScriptLine}
use Rattle.script_text.specs.declared.script.ScriptLine.TheVariants.{Create, Connect, Prepare, Give, Poll, Leave, Tick, Elect, Deliver, Lose, Perform, Stop, Restart, Fail, Settle, Inspect, StopAll}
use Rattle.script_text.specs.declared.output.Ending.TheVariants.{ClosedByUs}
use Rattle.command_fields.specs.Codes.{number_of_code}
use Rattle.list_machine.specs.Items.{IsIn}
use Rattle.list_machine.specs.Streams.{Confirmed}
use Rattle.list_machine.specs.Laws.{confirmed_by, ConfirmedBy}
use Rattle.list_machine.specs.Moves.{Move, confirms, delivers, MoveStep, StreamRun}
use Rattle.list_machine.specs.Machines.{Phase, unused, open_now, leaving, gone, Connection, fresh, Machine, empty_machine, put, Moves, only}
use Rattle.list_machine.specs.Lines.{left_by, Gives, Reads}
use Rattle.list_machine.specs.Answers.{Outcome, nothing, acts, changes, doubts, agrees, closes, after_by, owing, Publishes, Empty, Taken, Refused, Undeclared, Credits, Granted, Unknown, Answers, Handles, Served, Untaken}
use Rattle.list_machine.specs.Sends.{InVersion, Sends, Confirms, Delivers, Loses, Asks, Tunes, Beats, SendStep, Owed, Unasked}
use Rattle.list_machine.specs.Steps.{Event, read, handled, misread, made, refused, found, committed, sent, ended, told, Does, MachineStep, MachineRun, moves_at}
use Rattle.list_machine.specs.Written.{is_answer, listed, answer_fixed, answer_written, AnswersFixed, AnswersWritten, confirm_frame, delivery_frame, IsConfirm, IsDelivery, AmongConfirmed, StepBehind}
use Rattle.list_machine.proofs.Lists.{any_front, any_back, all_append}
use Rattle.list_machine.proofs.Going.{own_at}
use Rattle.list_machine.proofs.Waiting.{parts_of}

-- ---- what a connection is owed

-- What is owed are answers, and nothing is owed to a connection that isn't made.
record Owes (k : Connection) : Type 0 where
  pub answers : AllByRecursion (λ (a : Command). is_answer a ≡ true) k.owed
  pub none_unused : k.phase ≡ unused → k.owed ≡ []

-- the same is owed
record Keeps (k j : Connection) : Type 0 where
  pub owes : Owes j
  pub same : j.owed ≡ k.owed

keeps_all : (k : Connection) → Owes k → Keeps k k
keeps_all k o = record { owes = o; same = refl }

-- what is owed depends on what is owed and on the phase
keeps_owed : (k j : Connection) → Owes k → j.owed ≡ k.owed → (j.phase ≡ unused → k.phase ≡ unused) → Keeps k j
keeps_owed k j o same unused_then = record {
  owes = record { answers = subst (AllByRecursion (λ (a : Command). is_answer a ≡ true)) (sym same) o.answers; none_unused = λ e. same ∙ o.none_unused (unused_then e) };
  same = same;
}

put_keeps : (c other : ℕ) (j : Connection) (old : ℕ → Connection) → Owes (old c) → (Owes (old other) → Keeps (old other) j) → Keeps (old c) (put other j old c)
put_keeps c other j old o keeps = go (c == other) refl
  where
    go : (b : Bool) → (c == other) ≡ b → Keeps (old c) (cond b j (old c))
    go true e = let same = eqb-true c other e in subst (λ (i : ℕ). Keeps (old i) j) (sym same) (keeps (subst (λ (i : ℕ). Owes (old i)) same o))
    go false e = keeps_all (old c) o

-- ---- lines

left_keeps : (p : Phase) (k : Connection) → Owes k → Keeps k (left_by p k)
left_keeps unused k o = keeps_all k o
left_keeps open_now k o = keeps_owed k _ o refl (λ e. absurd cc)
left_keeps (leaving how) k o = keeps_all k o
left_keeps gone k o = keeps_all k o

gives_keeps : (p : Phase) (k new : Connection) (piece : List ℕ) → Gives p k piece new → Owes k → Keeps k new
gives_keeps unused k new piece g o = absurd g
gives_keeps open_now k new piece g o = subst (Keeps k) (sym g.4) (keeps_owed k _ o refl (λ e. e))
gives_keeps (leaving how) k new piece g o = subst (Keeps k) (sym g) (keeps_all k o)
gives_keeps gone k new piece g o = subst (Keeps k) (sym g) (keeps_all k o)

-- a connection that is made
fresh_keeps : (k : Connection) → k.phase ≡ unused → Owes k → Keeps k fresh
fresh_keeps k is o = record { owes = record { answers = tt; none_unused = λ e. refl }; same = sym (o.none_unused is) }

-- the machine after has another's connections
keeps_as : (c : ℕ) (old after other : Machine) → after ≡ other → Keeps (old.connections c) (other.connections c) → Keeps (old.connections c) (after.connections c)
keeps_as c old after other is k = subst (λ (m : Machine). Keeps (old.connections c) (m.connections c)) (sym is) k

line_keeps : (c : ℕ) (old : Machine) (line : ScriptLine) (moves : Moves) (after : Machine) → Reads old line moves after → Owes (old.connections c) → Keeps (old.connections c) (after.connections c)
line_keeps c old (Create name) moves after r o = keeps_as c old after _ r.1 (keeps_all (old.connections c) o)
line_keeps c old (Connect other) moves after r o = keeps_as c old after _ r.2 (put_keeps c other _ old.connections o (fresh_keeps (old.connections other) r.0))
line_keeps c old (Prepare other name) moves after r o = keeps_as c old after _ r.4 (put_keeps c other _ old.connections o (fresh_keeps (old.connections other) r.0))
line_keeps c old (Give other piece) moves after r o =
    keeps_as c old after _ r.3 (put_keeps c other _ old.connections o (gives_keeps (old.connections other).phase (old.connections other) r.0 piece r.1))
line_keeps c old (Leave other) moves after r o = keeps_as c old after _ r.1 (put_keeps c other _ old.connections o (left_keeps (old.connections other).phase (old.connections other)))
line_keeps c old (Tick moment) moves after r o = keeps_as c old after _ r.2 (keeps_all (old.connections c) o)
line_keeps c old (StopAll calls image) moves after r o = keeps_as c old after _ r.1 (left_keeps (old.connections c).phase (old.connections c) o)
line_keeps c old (Poll other) moves after r o = keeps_as c old after _ r.1 (keeps_all (old.connections c) o)
line_keeps c old (Elect stream) moves after r o = keeps_as c old after _ r.1 (keeps_all (old.connections c) o)
line_keeps c old (Deliver stream message) moves after r o = keeps_as c old after _ r.1 (keeps_all (old.connections c) o)
line_keeps c old (Lose stream message) moves after r o = keeps_as c old after _ r.1 (keeps_all (old.connections c) o)
line_keeps c old (Perform stream member) moves after r o = keeps_as c old after _ r.1 (keeps_all (old.connections c) o)
line_keeps c old (Stop stream member calls image) moves after r o = keeps_as c old after _ r.1 (keeps_all (old.connections c) o)
line_keeps c old (Restart stream member) moves after r o = keeps_as c old after _ r.1 (keeps_all (old.connections c) o)
line_keeps c old (Fail stream member call) moves after r o = keeps_as c old after _ r.1 (keeps_all (old.connections c) o)
line_keeps c old (Settle stream) moves after r o = keeps_as c old after _ r.1 (keeps_all (old.connections c) o)
line_keeps c old (Inspect stream) moves after r o = keeps_as c old after _ r.1 (keeps_all (old.connections c) o)

-- ---- handled commands

-- it is an answer, if there is one
abbrev AnswerIs : Option Command → Type 0
AnswerIs None = Unit {0}
AnswerIs (Some a) = is_answer a ≡ true

publish_answers : (old : Machine) (c id : ℕ) (items : List Tagged) (answer : Option Command) (outcome : Outcome) → Publishes old c id items answer outcome → AnswerIs answer
publish_answers old c id items answer outcome (Empty none a is) = subst AnswerIs (sym a) tt
publish_answers old c id items answer outcome (Taken number some a is) = subst AnswerIs (sym a) tt
publish_answers old c id items answer outcome (Refused number code some a is) = subst AnswerIs (sym a) refl
publish_answers old c id items answer outcome (Undeclared some none a is) = subst AnswerIs (sym a) refl

credit_answers : (old : Machine) (c id credit : ℕ) (answer : Option Command) (outcome : Outcome) → Credits old c id credit answer outcome → AnswerIs answer
credit_answers old c id credit answer outcome (Granted number a is) = subst AnswerIs (sym a) tt
credit_answers old c id credit answer outcome (Unknown none a is) = subst AnswerIs (sym a) refl

table_answers : (old : Machine) (c : ℕ) (command : Command) (answer : Option Command) (outcome : Outcome) → Answers old c command answer outcome → AnswerIs answer
table_answers old c (Data (data_commands.DeclarePublisher corr id reference stream)) answer outcome a = subst AnswerIs (sym a.1) refl
table_answers old c (Data (data_commands.Publish id items)) answer outcome a = publish_answers old c id items answer outcome a
table_answers old c (Data (data_commands.QueryPublisherSequence corr reference stream)) answer outcome a = subst AnswerIs (sym a.2) refl
table_answers old c (Data (data_commands.DeletePublisher corr id)) answer outcome a = subst AnswerIs (sym a.1) refl
table_answers old c (Data (data_commands.Subscribe corr id stream spec credit properties)) answer outcome a = subst AnswerIs (sym a.1) refl
table_answers old c (Data (data_commands.Credit id credit)) answer outcome a = credit_answers old c id credit answer outcome a
table_answers old c (Data (data_commands.StoreOffset reference stream offset)) answer outcome a = subst AnswerIs (sym a.0) tt
table_answers old c (Data (data_commands.QueryOffset corr reference stream)) answer outcome a = subst AnswerIs (sym a.2) refl
table_answers old c (Data (data_commands.Unsubscribe corr id)) answer outcome a = subst AnswerIs (sym a.1) refl
table_answers old c (Data other) answer outcome a = absurd a
table_answers old c (Admin (admin_commands.Create corr stream properties)) answer outcome a = subst AnswerIs (sym a.1) refl
table_answers old c (Admin (admin_commands.Delete corr stream)) answer outcome a = subst AnswerIs (sym a.1) refl
table_answers old c (Admin (admin_commands.CreateSuper corr name partitions keys properties)) answer outcome a = subst AnswerIs (sym a.1) refl
table_answers old c (Admin (admin_commands.DeleteSuper corr name)) answer outcome a = subst AnswerIs (sym a.1) refl
table_answers old c (Admin (admin_commands.UpdateAnswer corr code content)) answer outcome a = subst AnswerIs (sym a.0) tt
table_answers old c (Admin (admin_commands.ExchangeVersions corr items)) answer outcome a = subst AnswerIs (sym a.2) refl
table_answers old c (Admin (admin_commands.Metadata corr names)) answer outcome a = subst AnswerIs (sym a.2) refl
table_answers old c (Admin (admin_commands.Route corr key super)) answer outcome a = subst AnswerIs (sym a.2) refl
table_answers old c (Admin (admin_commands.Partitions corr super)) answer outcome a = subst AnswerIs (sym a.2) refl
table_answers old c (Admin (admin_commands.StreamStats corr stream)) answer outcome a = subst AnswerIs (sym a.2) refl
table_answers old c (Admin (admin_commands.PeerProperties corr properties)) answer outcome a = subst AnswerIs (sym a.2) refl
table_answers old c (Admin (admin_commands.SaslHandshake corr)) answer outcome a = subst AnswerIs (sym a.2) refl
table_answers old c (Admin (admin_commands.SaslAuthenticate corr mechanism opaque)) answer outcome a = subst AnswerIs (sym a.2) refl
table_answers old c (Admin (admin_commands.TuneAnswer frame heartbeat)) answer outcome a = subst AnswerIs (sym a.0) tt
table_answers old c (Admin (admin_commands.OpenHost corr host)) answer outcome a = subst AnswerIs (sym a.2) refl
table_answers old c (Admin admin_commands.Heartbeat) answer outcome a = subst AnswerIs (sym a.0) tt
table_answers old c (Admin (admin_commands.Close corr code reason)) answer outcome a = subst AnswerIs (sym a.0) refl
table_answers old c (Admin other) answer outcome a = absurd a

handles_answers : (old : Machine) (c : ℕ) (command : Command) (answer : Option Command) (outcome : Outcome) → Handles old c command answer outcome → AnswerIs answer
handles_answers old c command answer outcome (Served a) = table_answers old c command answer outcome a
handles_answers old c command answer outcome (Untaken by_close is) = subst AnswerIs (sym by_close.1) refl

-- the connection by what handling did
abbrev by_outcome : Outcome → Connection → Connection
by_outcome nothing k = k
by_outcome (acts number act) k = k
by_outcome (changes change) k = k
by_outcome (doubts change) k = k
by_outcome (agrees version) k = record k { version = version }
by_outcome (closes how) k = record k { phase = leaving how; inbox = [] }

after_puts : (old : Machine) (other : ℕ) (k : Connection) (outcome : Outcome) (c : ℕ) → (after_by old other k outcome).connections c ≡ put other (by_outcome outcome k) old.connections c
after_puts old other k nothing c = refl
after_puts old other k (acts number act) c = refl
after_puts old other k (changes change) c = refl
after_puts old other k (doubts change) c = refl
after_puts old other k (agrees version) c = refl
after_puts old other k (closes how) c = refl

-- ---- events

-- What is owed and what the event fixes are what it writes and what is owed then.
record Settles (c : ℕ) (event : Event) (k j : Connection) : Type 0 where
  pub owes : Owes j
  pub same : k.owed ++ answer_fixed c event ≡ answer_written c event ++ j.owed

settles_still : (c : ℕ) (event : Event) (k j : Connection) → answer_fixed c event ≡ [] → answer_written c event ≡ [] → Keeps k j → Settles c event k j
settles_still c event k j none_fixed none_written keeps = record {
  owes = keeps.owes;
  same = ap (λ (l : List Command). k.owed ++ l) none_fixed ∙ append-nil k.owed ∙ sym keeps.same ∙ ap (λ (l : List Command). l ++ j.owed) (sym none_written);
}

open_is_not_unused : open_now ≡ unused → ⊥
open_is_not_unused e = cc

still_open : (outcome : Outcome) (k : Connection) → k.phase ≡ open_now → (by_outcome outcome k).phase ≡ unused → ⊥
still_open nothing k is e = open_is_not_unused (sym is ∙ e)
still_open (acts number act) k is e = open_is_not_unused (sym is ∙ e)
still_open (changes change) k is e = open_is_not_unused (sym is ∙ e)
still_open (doubts change) k is e = open_is_not_unused (sym is ∙ e)
still_open (agrees version) k is e = open_is_not_unused (sym is ∙ e)
still_open (closes how) k is e = cc

owing_phase : (later : List Command) (answer : Option Command) (k : Connection) → (owing later answer k).phase ≡ k.phase
owing_phase later None k = refl
owing_phase later (Some a) k = refl

owing_owed : (later : List Command) (answer : Option Command) (k : Connection) (outcome : Outcome) → (by_outcome outcome (owing later answer k)).owed ≡ k.owed ++ listed answer
owing_owed later None k nothing = sym (append-nil k.owed)
owing_owed later None k (acts number act) = sym (append-nil k.owed)
owing_owed later None k (changes change) = sym (append-nil k.owed)
owing_owed later None k (doubts change) = sym (append-nil k.owed)
owing_owed later None k (agrees version) = sym (append-nil k.owed)
owing_owed later None k (closes how) = sym (append-nil k.owed)
owing_owed later (Some a) k nothing = refl
owing_owed later (Some a) k (acts number act) = refl
owing_owed later (Some a) k (changes change) = refl
owing_owed later (Some a) k (doubts change) = refl
owing_owed later (Some a) k (agrees version) = refl
owing_owed later (Some a) k (closes how) = refl

answers_more : (l : List Command) (answer : Option Command) → AllByRecursion (λ (a : Command). is_answer a ≡ true) l → AnswerIs answer → AllByRecursion (λ (a : Command). is_answer a ≡ true) (l ++ listed answer)
answers_more l None all is = subst (AllByRecursion (λ (a : Command). is_answer a ≡ true)) (sym (append-nil l)) all
answers_more l (Some a) all is = all_append (λ (a : Command). is_answer a ≡ true) l (a ∷ []) all (is, tt)

-- an answer is fixed on a connection
fixes : (c other : ℕ) (old : ℕ → Connection) (later : List Command) (answer : Option Command) (outcome : Outcome) → Owes (old c) → (old other).phase ≡ open_now → AnswerIs answer
    → Owes (put other (by_outcome outcome (owing later answer (old other))) old c)
    × ((old c).owed ++ cond (c == other) (listed answer) [] ≡ (put other (by_outcome outcome (owing later answer (old other))) old c).owed)
fixes c other old later answer outcome o is_open is = go (c == other) refl
  where
    go : (b : Bool) → (c == other) ≡ b → Owes (cond b (by_outcome outcome (owing later answer (old other))) (old c)) × ((old c).owed ++ cond b (listed answer) [] ≡ (cond b (by_outcome outcome (owing later answer (old other))) (old c)).owed)
    go true e =
        let same = eqb-true c other e in
        let there : Owes (old other) = subst (λ (i : ℕ). Owes (old i)) same o in
        let owed = owing_owed later answer (old other) outcome in (
          record {
            answers = subst (AllByRecursion (λ (a : Command). is_answer a ≡ true)) (sym owed) (answers_more (old other).owed answer there.answers is);
            none_unused = λ e. absurd (still_open outcome (owing later answer (old other)) (owing_phase later answer (old other) ∙ is_open) e);
          },
          ap (λ (i : ℕ). (old i).owed ++ listed answer) same ∙ sym owed,
        )
    go false e = (o, append-nil (old c).owed)

-- ---- frames that are written

unasked_is : (old : Machine) (c : ℕ) (command : Command) (moves : Moves) (after : Machine) → Sends old c command moves after → is_answer command ≡ false
unasked_is old c command moves after (Confirms number id name items is m a) = ap is_answer is
unasked_is old c command moves after (Delivers number id chunk None is v m a) = ap is_answer is
unasked_is old c command moves after (Delivers number id chunk (Some last) is v m a) = ap is_answer is
unasked_is old c command moves after (Loses number lost is some all m a) = ap is_answer is
unasked_is old c command moves after (Asks number id flag is small m a) = ap is_answer is
unasked_is old c command moves after (Tunes frame heartbeat is m a) = ap is_answer is
unasked_is old c command moves after (Beats is m a) = ap is_answer is

sends_keeps : (c other : ℕ) (old : Machine) (command : Command) (moves : Moves) (after : Machine) → Sends old other command moves after → Owes (old.connections c) → Keeps (old.connections c) (after.connections c)
sends_keeps c other old command moves after (Confirms number id name items is m a) o = keeps_as c old after old a (keeps_all (old.connections c) o)
sends_keeps c other old command moves after (Delivers number id chunk last is v m a) o = keeps_as c old after old a (keeps_all (old.connections c) o)
sends_keeps c other old command moves after (Loses number lost is some all m a) o = keeps_as c old after old a (keeps_all (old.connections c) o)
sends_keeps c other old command moves after (Asks number id flag is small m a) o =
    keeps_as c old after _ a (put_keeps c other _ old.connections o (λ there. keeps_owed (old.connections other) _ there refl (λ e. e)))
sends_keeps c other old command moves after (Tunes frame heartbeat is m a) o = keeps_as c old after old a (keeps_all (old.connections c) o)
sends_keeps c other old command moves after (Beats is m a) o = keeps_as c old after old a (keeps_all (old.connections c) o)

none_written : (b d : Bool) (command : Command) → d ≡ false → cond (b && d) (command ∷ []) [] ≡ []
none_written true false command e = refl
none_written false false command e = refl
none_written true true command e = absurd cc
none_written false true command e = refl

-- the first answer that is owed is written
writes : (c other : ℕ) (old : ℕ → Connection) (command : Command) (later : List Command) → Owes (old c) → (old other).owed ≡ command ∷ later
    → Owes (put other (record (old other) { owed = later }) old c) × ((old c).owed ≡ cond ((c == other) && is_answer command) (command ∷ []) [] ++ (put other (record (old other) { owed = later }) old c).owed)
writes c other old command later o is = go (c == other) refl
  where
    none_of : (l : List Command) → l ≡ command ∷ later → l ≡ [] → later ≡ []
    none_of l e f = absurd cc

    one : (d : Bool) → d ≡ true → command ∷ later ≡ cond d (command ∷ []) [] ++ later
    one true e = refl
    one false e = absurd cc

    go : (b : Bool) → (c == other) ≡ b
        → Owes (cond b (record (old other) { owed = later }) (old c)) × ((old c).owed ≡ cond (b && is_answer command) (command ∷ []) [] ++ (cond b (record (old other) { owed = later }) (old c)).owed)
    go true e =
        let same = eqb-true c other e in
        let there : Owes (old other) = subst (λ (i : ℕ). Owes (old i)) same o in
        let all = subst (AllByRecursion (λ (a : Command). is_answer a ≡ true)) is there.answers in
        (record { answers = all.1; none_unused = λ e. none_of (old other).owed is (there.none_unused e) }, ap (λ (i : ℕ). (old i).owed) same ∙ is ∙ one (is_answer command) all.0)
    go false e = (o, refl)

send_settles : (c other : ℕ) (old : Machine) (command : Command) (moves : Moves) (after : Machine) → SendStep old other command moves after → Owes (old.connections c) → Settles c (sent other command) (old.connections c) (after.connections c)
send_settles c other old command moves after (Owed later is m a) o =
    let w = writes c other old.connections command later o is in
    subst (λ (x : Machine). Settles c (sent other command) (old.connections c) (x.connections c)) (sym a) (record { owes = w.0; same = append-nil (old.connections c).owed ∙ w.1 })
send_settles c other old command moves after (Unasked is_open sends) o =
    settles_still c (sent other command) (old.connections c) (after.connections c) refl (none_written (c == other) (is_answer command) command (unasked_is old other command moves after sends))
    (sends_keeps c other old command moves after sends o)

event_settles : (c : ℕ) (old : Machine) (event : Event) (moves : Moves) (after : Machine) → Does old event moves after → Owes (old.connections c) → Settles c event (old.connections c) (after.connections c)
event_settles c old (read line) moves after d o = settles_still c (read line) (old.connections c) (after.connections c) refl refl (line_keeps c old line moves after d.reads o)
event_settles c old (handled other command answer) moves after d o =
    let f = fixes c other old.connections d.later answer d.outcome o d.is_open (handles_answers old other command answer d.outcome d.handles) in
    let there = ap (λ (m : Machine). m.connections c) d.after_is ∙ after_puts old other (owing d.later answer (old.connections other)) d.outcome c in
    subst (Settles c (handled other command answer) (old.connections c)) (sym there) (record { owes = f.0; same = f.1 })
event_settles c old (misread other answer) moves after d o =
    let outcome = closes (ClosedByUs (number_of_code d.code)) in
    let f = fixes c other old.connections [] (Some answer) outcome o d.is_open (subst AnswerIs (sym d.answer_is.1) refl) in
    subst (λ (m : Machine). Settles c (misread other answer) (old.connections c) (m.connections c)) (sym d.after_is) (record { owes = f.0; same = f.1 })
event_settles c old made moves after d o = settles_still c made (old.connections c) (after.connections c) refl refl (keeps_as c old after _ d.after_is (keeps_all (old.connections c) o))
event_settles c old (refused code) moves after d o = settles_still c (refused code) (old.connections c) (after.connections c) refl refl (keeps_as c old after _ d.after_is (keeps_all (old.connections c) o))
event_settles c old (found change) moves after d o = settles_still c (found change) (old.connections c) (after.connections c) refl refl (keeps_as c old after _ d.after_is (keeps_all (old.connections c) o))
event_settles c old (committed number chunk) moves after d o = settles_still c (committed number chunk) (old.connections c) (after.connections c) refl refl (keeps_as c old after old d.1 (keeps_all (old.connections c) o))
event_settles c old (sent other command) moves after d o = send_settles c other old command moves after d o
event_settles c old (ended other how) moves after d o =
    settles_still c (ended other how) (old.connections c) (after.connections c) refl refl
    (keeps_as c old after _ d.after_is (put_keeps c other _ old.connections o (λ there. keeps_owed (old.connections other) _ there refl (λ e. absurd cc))))
event_settles c old (told line) moves after d o = settles_still c (told line) (old.connections c) (after.connections c) refl refl (keeps_as c old after old d.2 (keeps_all (old.connections c) o))

-- ---- runs

run_owes : (c : ℕ) (events : List Event) (old new : Machine) → MachineRun old events new → Owes (old.connections c) → Owes (new.connections c)
run_owes c [] old new run o = subst (λ (m : Machine). Owes (m.connections c)) (sym run) o
run_owes c (event ∷ events) old new run o =
    run_owes c events run.0 new run.2 (subst Owes (sym (run.1.connections c)) (event_settles c old event run.1.moves run.1.after run.1.does o).owes)

run_answers : (c : ℕ) (events : List Event) (old new : Machine) → MachineRun old events new → Owes (old.connections c) → (old.connections c).owed ++ AnswersFixed c events ≡ AnswersWritten c events ++ (new.connections c).owed
run_answers c [] old new run o = append-nil (old.connections c).owed ∙ ap (λ (m : Machine). (m.connections c).owed) (sym run)
run_answers c (event ∷ events) old new run o =
    let one = subst (Settles c event (old.connections c)) (sym (run.1.connections c)) (event_settles c old event run.1.moves run.1.after run.1.does o) in
    sym (append_assoc (old.connections c).owed (answer_fixed c event) (AnswersFixed c events))
    ∙ ap (λ (l : List Command). l ++ AnswersFixed c events) one.same
    ∙ append_assoc (answer_written c event) (run.0.connections c).owed (AnswersFixed c events)
    ∙ ap (λ (l : List Command). answer_written c event ++ l) (run_answers c events run.0 new run.2 one.owes)
    ∙ sym (append_assoc (answer_written c event) (AnswersWritten c events) (new.connections c).owed)

nothing_owed : (c : ℕ) → Owes (empty_machine.connections c)
nothing_owed c = record { answers = tt; none_unused = λ e. refl }

pub answers_once : (events : List Event) (new : Machine) (c : ℕ) → MachineRun empty_machine events new → AnswersFixed c events ≡ AnswersWritten c events ++ (new.connections c).owed
answers_once events new c run = run_answers c events empty_machine new run (nothing_owed c)

-- ---- what is sent unasked

-- a command that is no answer isn't owed
sent_unasked : (c : ℕ) (old : Machine) (command : Command) (moves : Moves) (after : Machine) → SendStep old c command moves after → Owes (old.connections c) → is_answer command ≡ false → Sends old c command moves after
sent_unasked c old command moves after (Owed later is m a) o no_answer =
    let all = subst (AllByRecursion (λ (a : Command). is_answer a ≡ true)) is o.answers in absurd (clash (is_answer command) all.0 no_answer)
  where
    clash : (b : Bool) → b ≡ true → b ≡ false → ⊥
    clash b e f = cc
sent_unasked c old command moves after (Unasked is_open sends) o no_answer = sends

-- the one move of a step at a stream
one_move : (n : ℕ) (old new : Machine) (moves : Moves) (move : Move) → moves ≡ only n (move ∷ []) → StreamRun (old.streams n) (moves n) (new.streams n) → MoveStep (old.streams n) move (new.streams n)
one_move n old new moves move is run =
    let r = own_at n (old.streams n) (new.streams n) (move ∷ []) (subst (λ (f : Moves). StreamRun (old.streams n) (f n) (new.streams n)) is run) in
    subst (MoveStep (old.streams n) move) (sym r.2) r.1

confirm_is : (c id : ℕ) (ids : List ℕ) (old new : Machine) (step : MachineStep old (sent c (confirm_frame id ids)) new) (moves : Moves) (after : Machine) → step.moves ≡ moves → Sends old c (confirm_frame id ids) moves after → IsConfirm c id ids old new step
confirm_is c id ids old new step moves after are (Confirms n other name items is m a) =
    let same : id ≡ other = cc in
    let here : step.moves ≡ only n (confirms c id name items ∷ []) = are ∙ m ∙ ap (λ (i : ℕ). only n (confirms c i name items ∷ [])) (sym same) in
    let run = one_move n old new step.moves (confirms c id name items) here (step.streams n) in
    record { number = n; name = name; items = items; ids_are = cc; moves_are = here; confirm = run }
confirm_is c id ids old new step moves after are (Delivers n other chunk None is v m a) = absurd cc
confirm_is c id ids old new step moves after are (Delivers n other chunk (Some last) is v m a) = absurd cc
confirm_is c id ids old new step moves after are (Loses n lost is some all m a) = absurd cc
confirm_is c id ids old new step moves after are (Asks n other flag is small m a) = absurd cc
confirm_is c id ids old new step moves after are (Tunes frame heartbeat is m a) = absurd cc
confirm_is c id ids old new step moves after are (Beats is m a) = absurd cc

confirm_step : (c id : ℕ) (ids : List ℕ) (old new : Machine) (step : MachineStep old (sent c (confirm_frame id ids)) new) → Owes (old.connections c) → IsConfirm c id ids old new step
confirm_step c id ids old new step o = confirm_is c id ids old new step step.moves step.after refl (sent_unasked c old (confirm_frame id ids) step.moves step.after step.does o refl)

pub confirm_line : (c id : ℕ) (ids : List ℕ) (before behind : List Event) (new : Machine) → MachineRun empty_machine (before ++ sent c (confirm_frame id ids) ∷ behind) new
    → StepBehind (sent c (confirm_frame id ids)) (IsConfirm c id ids) before behind new
confirm_line c id ids before behind new run =
    let parts = parts_of before (sent c (confirm_frame id ids) ∷ behind) empty_machine new run in
    (parts, confirm_step c id ids parts.mid parts.second.0 parts.second.1 (run_owes c before empty_machine parts.mid parts.first (nothing_owed c)))

-- a frame that moves of a stream confirm is among those of all its moves
confirmed_join : (a b : List Move) → ConfirmedBy (a ++ b) ≡ ConfirmedBy a ++ ConfirmedBy b
confirmed_join a b = flat_map-append confirmed_by a b

own_list : (n : ℕ) (l : List Move) → only n l n ≡ l
own_list n l = ap (λ (b : Bool). cond b l []) (eq-eqb n n refl)

among : (c id : ℕ) (ids : List ℕ) (before behind : List Event) (old new : Machine) (run : MachineRun old (before ++ sent c (confirm_frame id ids) ∷ behind) new) → Owes (old.connections c)
    → AmongConfirmed ids old (before ++ sent c (confirm_frame id ids) ∷ behind) new run
among c id ids [] behind old new run o =
    let is = confirm_step c id ids old run.0 run.1 o in
    let x : Confirmed = record { name = is.name; items = is.items } in
    let rest = moves_at is.number run.0 behind new run.2 in
    let first : ConfirmedBy (run.1.moves is.number) ≡ x ∷ [] = ap (λ (f : Moves). ConfirmedBy (f is.number)) is.moves_are ∙ ap ConfirmedBy (own_list is.number (confirms c id is.name is.items ∷ [])) in
    record {
      number = is.number;
      name = is.name;
      items = is.items;
      ids_are = is.ids_are;
      among = subst (IsIn x) (sym (confirmed_join (run.1.moves is.number) rest))
          (any_front (λ (y : Confirmed). y ≡ x) (ConfirmedBy (run.1.moves is.number)) (ConfirmedBy rest) (subst (IsIn x) (sym first) (inl refl)));
    }
among c id ids (event ∷ before) behind old new run o =
    let mid_owes = subst Owes (sym (run.1.connections c)) (event_settles c old event run.1.moves run.1.after run.1.does o).owes in
    let is = among c id ids before behind run.0 new run.2 mid_owes in
    let x : Confirmed = record { name = is.name; items = is.items } in
    let rest = moves_at is.number run.0 (before ++ sent c (confirm_frame id ids) ∷ behind) new run.2 in
    record {
      number = is.number;
      name = is.name;
      items = is.items;
      ids_are = is.ids_are;
      among = subst (IsIn x) (sym (confirmed_join (run.1.moves is.number) rest)) (any_back (λ (y : Confirmed). y ≡ x) (ConfirmedBy (run.1.moves is.number)) (ConfirmedBy rest) is.among);
    }

pub among_confirmed : (c id : ℕ) (ids : List ℕ) (before behind : List Event) (new : Machine) (run : MachineRun empty_machine (before ++ sent c (confirm_frame id ids) ∷ behind) new)
    → AmongConfirmed ids empty_machine (before ++ sent c (confirm_frame id ids) ∷ behind) new run
among_confirmed c id ids before behind new run = among c id ids before behind empty_machine new run (nothing_owed c)

delivery_unasked : (id : ℕ) (last : Option ℕ) (header : Header) (payload : List ℕ) → is_answer (Data (delivery_of id last header payload)) ≡ false
delivery_unasked id None header payload = refl
delivery_unasked id (Some last) header payload = refl

-- a delivery of either version tells its parts
record SameDelivery (id other : ℕ) (last but : Option ℕ) (header head : Header) (payload pay : List ℕ) : Type 0 where
  pub id_is : id ≡ other
  pub last_is : last ≡ but
  pub header_is : header ≡ head
  pub payload_is : payload ≡ pay

same_delivery : (id other : ℕ) (last but : Option ℕ) (header head : Header) (payload pay : List ℕ) → Data (delivery_of id last header payload) ≡ Data (delivery_of other but head pay) → SameDelivery id other last but header head payload pay
same_delivery id other None None header head payload pay e = record { id_is = cc; last_is = refl; header_is = cc; payload_is = cc }
same_delivery id other None (Some but) header head payload pay e = absurd cc
same_delivery id other (Some last) None header head payload pay e = absurd cc
same_delivery id other (Some last) (Some but) header head payload pay e = record { id_is = cc; last_is = cc; header_is = cc; payload_is = cc }

no_delivery : (id : ℕ) (last : Option ℕ) (header : Header) (payload : List ℕ) (other : Command) → Data (delivery_of id last header payload) ≡ other → (other ≡ Data (delivery_of id None header payload) → ⊥) → ((n : ℕ) → other ≡ Data (delivery_of id (Some n) header payload) → ⊥) → ⊥
no_delivery id None header payload other e one two = one (sym e)
no_delivery id (Some last) header payload other e one two = two last (sym e)

delivery_is : (c id : ℕ) (last : Option ℕ) (header : Header) (payload : List ℕ) (old new : Machine) (step : MachineStep old (sent c (delivery_frame id last header payload)) new) (moves : Moves) (after : Machine)
    → step.moves ≡ moves → Sends old c (delivery_frame id last header payload) moves after → IsDelivery c id last header payload old new step
delivery_is c id last header payload old new step moves after are (Delivers n other chunk but is v m a) =
    let same = same_delivery id other last but header (header_of chunk) payload (entries_bytes chunk.entries) is in
    let here : step.moves ≡ only n (delivers c id chunk ∷ []) = are ∙ m ∙ ap (λ (i : ℕ). only n (delivers c i chunk ∷ [])) (sym same.id_is) in
    record {
      number = n;
      chunk = chunk;
      header_is = same.header_is;
      payload_is = same.payload_is;
      version = subst (InVersion (old.connections c).version (old.streams n)) (sym same.last_is) v;
      moves_are = here;
      delivery = one_move n old new step.moves (delivers c id chunk) here (step.streams n);
    }
delivery_is c id last header payload old new step moves after are (Confirms n other name items is m a) = absurd (no_delivery id last header payload _ is (λ e. cc) (λ i e. cc))
delivery_is c id last header payload old new step moves after are (Loses n lost is some all m a) = absurd (no_delivery id last header payload _ is (λ e. cc) (λ i e. cc))
delivery_is c id last header payload old new step moves after are (Asks n other flag is small m a) = absurd (no_delivery id last header payload _ is (λ e. cc) (λ i e. cc))
delivery_is c id last header payload old new step moves after are (Tunes frame heartbeat is m a) = absurd (no_delivery id last header payload _ is (λ e. cc) (λ i e. cc))
delivery_is c id last header payload old new step moves after are (Beats is m a) = absurd (no_delivery id last header payload _ is (λ e. cc) (λ i e. cc))

pub delivery_line : (c id : ℕ) (last : Option ℕ) (header : Header) (payload : List ℕ) (before behind : List Event) (new : Machine) → MachineRun empty_machine (before ++ sent c (delivery_frame id last header payload) ∷ behind) new
    → StepBehind (sent c (delivery_frame id last header payload)) (IsDelivery c id last header payload) before behind new
delivery_line c id last header payload before behind new run =
    let parts = parts_of before (sent c (delivery_frame id last header payload) ∷ behind) empty_machine new run in
    let step = parts.second.1 in (
      parts,
      delivery_is c id last header payload parts.mid parts.second.0 step step.moves step.after refl
          (sent_unasked c parts.mid (delivery_frame id last header payload) step.moves step.after step.does (run_owes c before empty_machine parts.mid parts.first (nothing_owed c)) (delivery_unasked id last header payload)),
    )
