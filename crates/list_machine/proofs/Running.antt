-- Runs of the machine, stream by stream, and the laws over them.
use Rattle.std.proofs.Common.{◌≡◌, ℕ, ◌==◌, ◌+◌, ◌⊎◌, Bool, true, false, cond, List, [], ◌∷◌, ◌++◌, Option, Some, None, refl, sym, ap, subst, ◌∙◌, inl, inr, append_assoc}
use Rattle.std.specs.Prelude.{flat_map}
use Rattle.std.specs.List.{AllByRecursion}
use Rattle.std.proofs.lemmas.List.{append-nil}
use Rattle.chunk_format.specs.declared.chunk.Chunk.{Chunk}
use Rattle.chunk_format.specs.Logs.{GoesOn}
use Rattle.script_text.specs.declared.script.ScriptLine.{ScriptLine}
use Rattle.script_text.specs.declared.script.ScriptLine.TheVariants.{Create, Connect, Prepare, Give, Poll, Leave, Tick, Elect, Deliver, Lose, Perform, Stop, Restart, Fail, Settle, Inspect, StopAll}
use Rattle.command_all.specs.declared.command.Command.{Command}
use Rattle.command_data.specs.declared.item.Tagged.{Tagged}
use Rattle.list_machine.specs.Items.{items_in, IsIn, IsReached, AreReached}
use Rattle.list_machine.specs.Streams.{Confirmed, Declaration, Stream, no_stream, items_of}
use Rattle.list_machine.specs.Moves.{Move, begins, finishes, commits, declares, undeclares, publishes, refuses, confirms, subscribes, unsubscribes, asks, starts, rests, grants, delivers, stores, leaves, forgets, MoveStep, StreamRun}
use Rattle.list_machine.specs.Machines.{Change, adds, drops, Machine, empty_machine, Moves, only, begun, changed}
use Rattle.list_machine.specs.Lines.{Reads}
use Rattle.list_machine.specs.Answers.{Act, declare, undeclare, publish, refuse, subscribe, unsubscribe, start, rest, grant, store, move_of, Outcome, nothing, acts, changes, doubts, agrees, closes, moves_by}
use Rattle.list_machine.specs.Sends.{IsGone, Sends, Confirms, Delivers, Loses, Asks, Tunes, Beats, SendStep, Owed, Unasked}
use Rattle.list_machine.specs.Steps.{Event, read, handled, misread, made, refused, found, committed, sent, ended, told, Does, MachineRun, moves_at}
use Rattle.list_machine.specs.Transcripts.{committed_in, CommitLines}
use Rattle.list_machine.specs.Discipline.{RunsIn, IsDisciplined, Disciplined}
use Rattle.list_machine.specs.Laws.{IsSentBy, RowsRight, StandsOnce, ExactlyOnce, DeliversRun, ConfirmedBy}
use Rattle.list_machine.proofs.Lists.{Begins, begins_on, any_all, all_weaker, any_front, any_back, stands_in, once_in}
use Rattle.list_machine.proofs.Reading.{Follows}
use Rattle.list_machine.proofs.Telling.{confirmed_is}
use Rattle.list_machine.proofs.Holding.{Stood, Holds, nothing_holds, run_holds}

-- ---- a stream's moves are a run

run_join : (a b : List Move) (s t u : Stream) → StreamRun s a t → StreamRun t b u → StreamRun s (a ++ b) u
run_join [] b s t u r q = subst (λ (x : Stream). StreamRun x b u) r q
run_join (move ∷ a) b s t u r q = (r.0, r.1, run_join a b r.0 t u r.2 q)

pub stream_run : (number : ℕ) (old : Machine) (events : List Event) (new : Machine) (run : MachineRun old events new) → StreamRun (old.streams number) (moves_at number old events new run) (new.streams number)
stream_run number old [] new run = ap (λ (m : Machine). m.streams number) run
stream_run number old (event ∷ events) new run =
    run_join (run.1.moves number) (moves_at number run.0 events new run.2) (old.streams number) (run.0.streams number) (new.streams number) (run.1.streams number) (stream_run number run.0 events new run.2)

pub holds : (events : List Event) (new : Machine) (number : ℕ) → MachineRun empty_machine events new → Holds (new.streams number)
holds events new number run = run_holds (moves_at number empty_machine events new run) no_stream (new.streams number) (stream_run number empty_machine events new run) nothing_holds

-- ---- what moves commit

abbrev committed_by : Move → List Chunk
committed_by (commits chunk) = chunk ∷ []
committed_by (begins text super) = []
committed_by finishes = []
committed_by (declares connection id name) = []
committed_by (undeclares connection id) = []
committed_by (publishes connection id items) = []
committed_by (refuses connection id) = []
committed_by (confirms connection id name items) = []
committed_by (subscribes connection id group spec credits) = []
committed_by (unsubscribes connection id) = []
committed_by (asks connection id correlation activate) = []
committed_by (starts connection id correlation spec) = []
committed_by (rests connection id correlation) = []
committed_by (grants connection id credits) = []
committed_by (delivers connection id chunk) = []
committed_by (stores name offset) = []
committed_by (leaves connection) = []
committed_by forgets = []

same_chunks : (old new other : Stream) → new ≡ other → other.chunks ≡ old.chunks → new.chunks ≡ old.chunks ++ []
same_chunks old new other is same = ap (λ (s : Stream). s.chunks) is ∙ same ∙ sym (append-nil old.chunks)

move_commits : (move : Move) (old new : Stream) → MoveStep old move new → new.chunks ≡ old.chunks ++ committed_by move
move_commits (begins text super) old new step = same_chunks old new _ step.is refl
move_commits finishes old new step = same_chunks old new _ step.1 refl
move_commits (commits chunk) old new step = ap (λ (s : Stream). s.chunks) step.is
move_commits (declares connection id name) old new step = same_chunks old new _ step.is refl
move_commits (undeclares connection id) old new step = same_chunks old new _ step.is refl
move_commits (publishes connection id items) old new step = same_chunks old new _ step.is refl
move_commits (refuses connection id) old new step = same_chunks old new _ step.is refl
move_commits (confirms connection id name items) old new step = same_chunks old new _ step.is refl
move_commits (subscribes connection id group spec credits) old new step = same_chunks old new _ step.is refl
move_commits (unsubscribes connection id) old new step = same_chunks old new _ step.is refl
move_commits (asks connection id correlation activate) old new step = same_chunks old new _ step.is refl
move_commits (starts connection id correlation spec) old new step = same_chunks old new _ step.is refl
move_commits (rests connection id correlation) old new step = same_chunks old new _ step.is refl
move_commits (grants connection id credits) old new step = same_chunks old new _ step.is refl
move_commits (delivers connection id chunk) old new step = same_chunks old new _ step.is refl
move_commits (stores name offset) old new step = same_chunks old new _ step refl
move_commits (leaves connection) old new step = same_chunks old new _ step refl
move_commits forgets old new step = same_chunks old new _ step refl

moves_commit : (moves : List Move) (old new : Stream) → StreamRun old moves new → new.chunks ≡ old.chunks ++ flat_map committed_by moves
moves_commit [] old new run = ap (λ (s : Stream). s.chunks) run ∙ sym (append-nil old.chunks)
moves_commit (move ∷ moves) old new run =
    moves_commit moves run.0 new run.2
    ∙ ap (λ (l : List Chunk). l ++ flat_map committed_by moves) (move_commits move old run.0 run.1)
    ∙ append_assoc old.chunks (committed_by move) (flat_map committed_by moves)

-- ---- only the line that commits a chunk moves by it

-- these moves commit nothing
abbrev Commitless : ℕ → Moves → Type 0
Commitless number moves = flat_map committed_by (moves number) ≡ []

still : (number : ℕ) (moves none : Moves) → moves ≡ none → Commitless number none → Commitless number moves
still number moves none is h = ap (λ (m : Moves). flat_map committed_by (m number)) is ∙ h

only_none : (number other : ℕ) (l : List Move) → flat_map committed_by l ≡ [] → Commitless other (only number l)
only_none number other l h = go (other == number)
  where
    go : (b : Bool) → flat_map committed_by (cond b l []) ≡ []
    go true = h
    go false = refl

begun_none : (texts : List (Option (List ℕ))) (last number : ℕ) (super : Option (List ℕ)) → Commitless number (begun last super texts)
begun_none [] last number super = refl
begun_none (text ∷ texts) last number super = begins_none text super (begun (last + 1) super texts number) (number == last + 1) (begun_none texts (last + 1) number super)
  where
    begins_none : (text super : Option (List ℕ)) (more : List Move) (b : Bool) → flat_map committed_by more ≡ [] → flat_map committed_by (cond b (begins text super ∷ []) more) ≡ []
    begins_none text super more true h = refl
    begins_none text super more false h = h

finished_none : (b : Bool) → flat_map committed_by (cond b (finishes ∷ []) []) ≡ []
finished_none true = refl
finished_none false = refl

changed_none : (last number : ℕ) (change : Change) → Commitless number (changed last change)
changed_none last number (adds super texts) = begun_none texts last number super
changed_none last number (drops numbers) = finished_none _

act_none : (act : Act) → flat_map committed_by (move_of act ∷ []) ≡ []
act_none (declare connection id name) = refl
act_none (undeclare connection id) = refl
act_none (publish connection id items) = refl
act_none (refuse connection id) = refl
act_none (subscribe connection id group spec credits) = refl
act_none (unsubscribe connection id) = refl
act_none (start connection id correlation spec) = refl
act_none (rest connection id correlation) = refl
act_none (grant connection id credits) = refl
act_none (store name offset) = refl

outcome_none : (old : Machine) (number : ℕ) (outcome : Outcome) → Commitless number (moves_by old outcome)
outcome_none old number nothing = refl
outcome_none old number (acts other act) = only_none other number (move_of act ∷ []) (act_none act)
outcome_none old number (changes change) = changed_none old.last number change
outcome_none old number (doubts change) = refl
outcome_none old number (agrees version) = refl
outcome_none old number (closes how) = refl

line_none : (old : Machine) (line : ScriptLine) (moves : Moves) (after : Machine) (number : ℕ) → Reads old line moves after → Commitless number moves
line_none old (Create name) moves after number r = still number moves _ r.0 refl
line_none old (Connect connection) moves after number r = still number moves _ r.1 refl
line_none old (Prepare connection name) moves after number r = still number moves _ r.3 (only_none r.1 number _ refl)
line_none old (Give connection piece) moves after number r = still number moves _ r.2 refl
line_none old (Poll connection) moves after number r = still number moves _ r.0 refl
line_none old (Leave connection) moves after number r = still number moves _ r.0 refl
line_none old (Tick moment) moves after number r = still number moves _ r.1 refl
line_none old (Elect stream) moves after number r = still number moves _ r.0 refl
line_none old (Deliver stream message) moves after number r = still number moves _ r.0 refl
line_none old (Lose stream message) moves after number r = still number moves _ r.0 refl
line_none old (Perform stream member) moves after number r = still number moves _ r.0 refl
line_none old (Stop stream member calls image) moves after number r = still number moves _ r.0 refl
line_none old (Restart stream member) moves after number r = still number moves _ r.0 refl
line_none old (Fail stream member call) moves after number r = still number moves _ r.0 refl
line_none old (Settle stream) moves after number r = still number moves _ r.0 refl
line_none old (Inspect stream) moves after number r = still number moves _ r.0 refl
line_none old (StopAll calls image) moves after number r = still number moves _ r.0 refl

lost_none : (c : ℕ) (lost : List Move) → AllByRecursion (IsGone c) lost → flat_map committed_by lost ≡ []
lost_none c [] h = refl
lost_none c (move ∷ lost) h = ap (λ (l : List Chunk). l ++ flat_map committed_by lost) (gone_none move h.0) ∙ lost_none c lost h.1
  where
    gone_none : (move : Move) → IsGone c move → committed_by move ≡ []
    gone_none move (inl g) = ap committed_by g.1
    gone_none move (inr g) = ap committed_by g.1

sends_none : (old : Machine) (c : ℕ) (command : Command) (moves : Moves) (after : Machine) (number : ℕ) → Sends old c command moves after → Commitless number moves
sends_none old c command moves after number (Confirms other id name items is m a) = still number moves _ m (only_none other number _ refl)
sends_none old c command moves after number (Delivers other id chunk last is v m a) = still number moves _ m (only_none other number _ refl)
sends_none old c command moves after number (Loses other lost is some gone m a) = still number moves _ m (only_none other number lost (lost_none c lost gone))
sends_none old c command moves after number (Asks other id flag is small m a) = still number moves _ m (only_none other number _ refl)
sends_none old c command moves after number (Tunes frame heartbeat is m a) = still number moves _ m refl
sends_none old c command moves after number (Beats is m a) = still number moves _ m refl

send_none : (old : Machine) (c : ℕ) (command : Command) (moves : Moves) (after : Machine) (number : ℕ) → SendStep old c command moves after → Commitless number moves
send_none old c command moves after number (Owed later is m a) = still number moves _ m refl
send_none old c command moves after number (Unasked is_open sends) = sends_none old c command moves after number sends

commits_one : (chunk : Chunk) (b : Bool) → flat_map committed_by (cond b (commits chunk ∷ []) []) ≡ cond b (chunk ∷ []) []
commits_one chunk true = refl
commits_one chunk false = refl

event_commits : (number : ℕ) (old : Machine) (event : Event) (moves : Moves) (after : Machine) → Does old event moves after → flat_map committed_by (moves number) ≡ committed_in number event
event_commits number old (read line) moves after d = line_none old line moves after number d.reads
event_commits number old (handled c command answer) moves after d = still number moves _ d.moves_are (outcome_none old number d.outcome)
event_commits number old (misread c answer) moves after d = still number moves _ d.moves_are refl
event_commits number old made moves after d = still number moves _ d.moves_are (begun_none (Some d.name ∷ []) old.last number None)
event_commits number old (refused code) moves after d = still number moves _ d.moves_are refl
event_commits number old (found change) moves after d = still number moves _ d.moves_are (changed_none old.last number change)
event_commits number old (committed other chunk) moves after d = ap (λ (m : Moves). flat_map committed_by (m number)) d.0 ∙ commits_one chunk (number == other)
event_commits number old (sent c command) moves after d = send_none old c command moves after number d
event_commits number old (ended c how) moves after d = still number moves _ d.moves_are refl
event_commits number old (told line) moves after d = still number moves _ d.1 refl

run_commits : (number : ℕ) (events : List Event) (old new : Machine) → MachineRun old events new → (new.streams number).chunks ≡ (old.streams number).chunks ++ CommitLines number events
run_commits number [] old new run = ap (λ (m : Machine). (m.streams number).chunks) run ∙ sym (append-nil (old.streams number).chunks)
run_commits number (event ∷ events) old new run =
    run_commits number events run.0 new run.2
    ∙ ap (λ (l : List Chunk). l ++ CommitLines number events)
    (moves_commit (run.1.moves number) (old.streams number) (run.0.streams number) (run.1.streams number)
    ∙ ap (λ (l : List Chunk). (old.streams number).chunks ++ l) (event_commits number old event run.1.moves run.1.after run.1.does))
    ∙ append_assoc (old.streams number).chunks (committed_in number event) (CommitLines number events)

pub list_is : (number : ℕ) (events : List Event) (new : Machine) → MachineRun empty_machine events new → (new.streams number).chunks ≡ CommitLines number events
list_is number events new run = run_commits number events empty_machine new run

pub list_grows : (number : ℕ) (events : List Event) (old new : Machine) → MachineRun old events new → GoesOn (old.streams number).chunks (new.streams number).chunks
list_grows number events old new run = (CommitLines number events, run_commits number events old new run)

-- ---- deliveries and rows

pub deliveries : (s : Stream) → Holds s → AllByRecursion (DeliversRun s.chunks) s.subscriptions
deliveries s h = all_weaker (Follows s.chunks) (DeliversRun s.chunks) (λ t f. f.delivers) s.subscriptions h.follows

pub rows_right : (s : Stream) → Holds s → RowsRight s
rows_right s h = record { rises = h.rises; published = h.published; bare = h.bare; counted = h.counted; stored = h.stored }

-- ---- exactly once

in_run : (name : List ℕ) (P : List Tagged) (d : Declaration) (x : Tagged) → IsIn x (items_of d) → (items_of d ≡ []) ⊎ RunsIn name P d → IsIn x P
in_run name P d x there (inl none) = absurd (subst (IsIn x) none there)
in_run name P d x there (inr run) =
    subst (IsIn x) (sym run.run) (any_front (λ (y : Tagged). y ≡ x) (run.before ++ items_of d) run.behind (any_back (λ (y : Tagged). y ≡ x) run.before (items_of d) there))

in_P : (name : List ℕ) (P : List Tagged) (s : Stream) (x : Tagged) → Disciplined name P s.declarations → IsSentBy name s.declarations x → IsIn x P
in_P name P s x disciplined was_sent =
    let both = any_all (λ (d : Declaration). (d.name ≡ Some name) × IsIn x (items_of d)) (IsDisciplined name P) s.declarations was_sent disciplined.each in
    in_run name P both.one x both.left.1 (both.right both.left.0)

zip_all : (items : List Tagged) (Q : Tagged → Type 0) (others : List Tagged) → AreReached items others → AllByRecursion Q others → AllByRecursion (λ (x : Tagged). IsReached items x.id × Q x) others
zip_all items Q [] a b = tt
zip_all items Q (x ∷ others) a b = ((a.0, b.0), zip_all items Q others a.1 b.1)

pub exactly_once : (s : Stream) (name : List ℕ) (P : List Tagged) → Holds s → Disciplined name P s.declarations → ExactlyOnce name P s.chunks s.confirmed
exactly_once s name P h disciplined =
    let items = items_in name s.chunks in
    let begins : Begins items P = h.once name P disciplined in
    record {
      begins = begins_on items P begins;
      each = all_weaker (Stood s.chunks s.declarations)
          (λ (c : Confirmed). c.name ≡ Some name → AllByRecursion (λ (x : Tagged). IsIn x P × StandsOnce items x) c.items)
          (λ c stood is. all_weaker (λ (x : Tagged). IsReached items x.id × IsSentBy name s.declarations x) (λ (x : Tagged). IsIn x P × StandsOnce items x)
          (λ x (reached, was_sent).
          let of_P = in_P name P s x disciplined was_sent in
          let there = stands_in items P x disciplined.rises begins of_P reached in
          (of_P, record { stands = there; once = once_in items x (h.rises name) there }))
          c.items (zip_all items (IsSentBy name s.declarations) c.items (stood.reached name is) (stood.sent name is)))
          s.confirmed h.stood;
    }

pub once : (name : List ℕ) (P : List Tagged) (moves : List Move) (new : Stream) → StreamRun no_stream moves new → Disciplined name P new.declarations → ExactlyOnce name P new.chunks (ConfirmedBy moves)
once name P moves new run disciplined =
    subst (ExactlyOnce name P new.chunks) (confirmed_is moves new run) (exactly_once new name P (run_holds moves no_stream new run nothing_holds) disciplined)
