-- What declarations sent was given in Publish commands that were handled.
use Rattle.std.proofs.Common.{◌≡◌, ℕ, ◌+◌, ◌==◌, Bool, true, false, cond, List, [], ◌∷◌, ◌++◌, map, Option, Some, None, refl, sym, ap, subst, ◌∙◌, inl, inr, eq-eqb, append_assoc}
use Rattle.std.specs.Prelude.{flat_map}
use Rattle.std.specs.List.{AllByRecursion}
use Rattle.std.proofs.lemmas.Grind.{flat_map-append}
use Rattle.chunk_format.specs.declared.chunk.Chunk.{Chunk}
use Rattle.command_fields.specs.declared.response.ResponseCode.{ResponseCode}
use Rattle.command_fields.specs.declared.response.ResponseCode.TheVariants as says
use Rattle.command_fields.specs.declared.property.Property.{Property}
use Rattle.command_fields.specs.declared.offset.OffsetSpec.{OffsetSpec}
use Rattle.command_data.specs.declared.item.Tagged.{Tagged}
use Rattle.command_data.specs.declared.command.DataCommand.TheVariants as data_commands
use Rattle.command_admin.specs.declared.command.AdminCommand.TheVariants as admin_commands
use Rattle.command_all.specs.declared.command.Command.{Command}
use Rattle.command_all.specs.declared.command.Command.TheVariants.{Data, Admin}
use Rattle.script_text.specs.declared.script.ScriptLine.{ScriptLine}
use Rattle.script_text.specs.declared.script.ScriptLine.TheVariants.{Create, Connect, Prepare, Give, Poll, Leave, Tick, Elect, Deliver, Lose, Perform, Stop, Restart, Fail, Settle, Inspect, StopAll}
use Rattle.list_machine.specs.Items.{items_in, IsIn}
use Rattle.list_machine.specs.Streams.{Frame, Declaration, Stream, items_of}
use Rattle.list_machine.specs.Publishing.{Declared, turned, closed, closed_of}
use Rattle.list_machine.specs.Moves.{Move, begins, finishes, commits, declares, undeclares, publishes, refuses, confirms, subscribes, unsubscribes, asks, starts, rests, grants, delivers, stores, leaves, forgets, MoveStep, StreamRun}
use Rattle.list_machine.specs.Machines.{Change, adds, drops, Machine, empty_machine, Moves, nowhere, only, begun, changed}
use Rattle.list_machine.specs.Lines.{Reads}
use Rattle.list_machine.specs.Answers.{Act, declare, undeclare, publish, refuse, subscribe, unsubscribe, start, rest, grant, store, move_of, Outcome, nothing, acts, changes, doubts, agrees, closes, moves_by, Declares, Undeclares, Subscribes, Unsubscribes, Changes, Authenticates, Publishes, Empty, Taken, Refused, Undeclared, Credits, Granted, Unknown, Replies, Starts, Rests, Unasked as NoQuestion, Stores, Kept, Dropped, Answers, Handles, Served, Untaken}
use Rattle.list_machine.specs.Sends.{IsGone, Sends, Confirms, Delivers, Loses, Asks, Tunes, Beats, SendStep, Owed, Unasked}
use Rattle.list_machine.specs.Steps.{Event, read, handled, misread, made, refused, found, committed, sent, ended, told, Does, MachineRun}
use Rattle.list_machine.specs.Transcripts.{CommitLines}
use Rattle.list_machine.specs.Laws.{IsSentBy}
use Rattle.list_machine.specs.Given.{given_by, ItemsGiven, WereGiven, WasGiven}
use Rattle.list_machine.proofs.Lists.{any_front, any_back, any_all, all_weaker, all_append, all_turned, all_at, each_self}
use Rattle.list_machine.proofs.Holding.{items_stay}
use Rattle.list_machine.proofs.Running.{holds, list_is}

-- ---- moves

-- what was given, by connection and id
abbrev Gifts : Type 0
Gifts = ℕ → ℕ → List Tagged

-- the declaration sent only what was given
abbrev HasOnly : Gifts → Declaration → Type 0
HasOnly g d = AllByRecursion (λ (x : Tagged). IsIn x (g d.connection d.id)) (items_of d)

-- a move takes only what was given
abbrev Takes : Gifts → Move → Type 0
Takes g (publishes c id items) = AllByRecursion (λ (x : Tagged). IsIn x (g c id)) items
Takes g other = Unit {0}

-- one declaration changes
turned_has : (g : Gifts) (s : Stream) (c id : ℕ) (at : Declared s c id) (d : Declaration) → AllByRecursion (HasOnly g) s.declarations → (HasOnly g at.declaration → HasOnly g d) → AllByRecursion (HasOnly g) (turned at d)
turned_has g s c id at d all f = all_turned (HasOnly g) at.before at.declaration d at.after f (subst (AllByRecursion (HasOnly g)) at.declared all)

same_has : (g : Gifts) (s new other : Stream) → new ≡ other → AllByRecursion (HasOnly g) other.declarations → AllByRecursion (HasOnly g) new.declarations
same_has g s new other is all = subst (λ (x : Stream). AllByRecursion (HasOnly g) x.declarations) (sym is) all

map_has : (g : Gifts) (f : Declaration → Declaration) → ((d : Declaration) → HasOnly g d → HasOnly g (f d)) → (ds : List Declaration) → AllByRecursion (HasOnly g) ds → AllByRecursion (HasOnly g) (map f ds)
map_has g f keeps [] all = tt
map_has g f keeps (d ∷ ds) all = (keeps d all.0, map_has g f keeps ds all.1)

move_has : (g : Gifts) (move : Move) (s new : Stream) → MoveStep s move new → Takes g move → AllByRecursion (HasOnly g) s.declarations → AllByRecursion (HasOnly g) new.declarations
move_has g (begins text super) s new step t all = same_has g s new _ step.is all
move_has g finishes s new step t all = same_has g s new _ step.1 all
move_has g (commits chunk) s new step t all = same_has g s new _ step.is all
move_has g (declares c id name) s new step t all = same_has g s new _ step.is (all_append (HasOnly g) s.declarations _ all (tt, tt))
move_has g (undeclares c id) s new step t all = same_has g s new _ step.is (turned_has g s c id step.at _ all (λ h. h))
move_has g (publishes c id items) s new step t all =
    let d = step.at.declaration in
    let frame : Frame = record { items = items; waits = true } in
    let own : AllByRecursion (λ (x : Tagged). IsIn x (g d.connection d.id)) items =
    subst (λ (n : ℕ). AllByRecursion (λ (x : Tagged). IsIn x (g n d.id)) items) (sym step.at.of_connection)
    (subst (λ (n : ℕ). AllByRecursion (λ (x : Tagged). IsIn x (g c n)) items) (sym step.at.of_id) t) in
    same_has g s new _ step.is
    (turned_has g s c id step.at _ all
    (λ h. subst (AllByRecursion (λ (x : Tagged). IsIn x (g d.connection d.id))) (sym (flat_map-append (λ (f : Frame). f.items) d.frames (frame ∷ [])))
    (all_append (λ (x : Tagged). IsIn x (g d.connection d.id)) (items_of d) (items ++ []) h (all_append (λ (x : Tagged). IsIn x (g d.connection d.id)) items [] own tt))))
move_has g (refuses c id) s new step t all = same_has g s new _ step.is (turned_has g s c id step.at _ all (λ h. h))
move_has g (confirms c id name items) s new step t all =
    let d = step.at.declaration in
    let w = step.waiting in
    let same : items_of d ≡ flat_map (λ (f : Frame). f.items) (w.before ++ record { items = items; waits = false } ∷ w.after) =
    ap (flat_map (λ (f : Frame). f.items)) w.frames ∙ items_stay w.before (record { items = items; waits = true }) (record { items = items; waits = false }) w.after refl in
    same_has g s new _ step.is (turned_has g s c id step.at _ all (λ h. subst (AllByRecursion (λ (x : Tagged). IsIn x (g d.connection d.id))) same h))
move_has g (subscribes c id group spec credits) s new step t all = same_has g s new _ step.is all
move_has g (unsubscribes c id) s new step t all = same_has g s new _ step.is all
move_has g (asks c id correlation activate) s new step t all = same_has g s new _ step.is all
move_has g (starts c id correlation spec) s new step t all = same_has g s new _ step.is all
move_has g (rests c id correlation) s new step t all = same_has g s new _ step.is all
move_has g (grants c id credits) s new step t all = same_has g s new _ step.is all
move_has g (delivers c id chunk) s new step t all = same_has g s new _ step.is all
move_has g (stores name offset) s new step t all = same_has g s new _ step all
move_has g (leaves c) s new step t all = same_has g s new _ step (map_has g (closed_of c) (λ d h. h) s.declarations all)
move_has g forgets s new step t all = same_has g s new _ step (map_has g closed (λ d h. h) s.declarations all)

moves_have : (g : Gifts) (moves : List Move) (s new : Stream) → StreamRun s moves new → AllByRecursion (Takes g) moves → AllByRecursion (HasOnly g) s.declarations → AllByRecursion (HasOnly g) new.declarations
moves_have g [] s new run t all = same_has g s new s run all
moves_have g (move ∷ moves) s new run t all = moves_have g moves run.0 new run.2 t.1 (move_has g move s run.0 run.1 t.0 all)

-- ---- commands: only Publish publishes

abbrev OfCommand : ℕ → Command → Outcome → Type 0
OfCommand c command (acts n (publish other id items)) = (other ≡ c) × (command ≡ Data (data_commands.Publish id items))
OfCommand c command other = Unit {0}

declares_of : (old : Machine) (c id : ℕ) (reference stream : Option (List ℕ)) (code : ResponseCode) (command : Command) (outcome : Outcome) → Declares old c id reference stream code outcome → OfCommand c command outcome
declares_of old c id reference stream says.Ok command outcome d = subst (OfCommand c command) (sym d.3) tt
declares_of old c id reference stream says.StreamDoesNotExist command outcome d = subst (OfCommand c command) (sym d.1) tt
declares_of old c id reference stream other command outcome d = subst (OfCommand c command) (sym d) tt

undeclares_of : (old : Machine) (c id : ℕ) (code : ResponseCode) (command : Command) (outcome : Outcome) → Undeclares old c id code outcome → OfCommand c command outcome
undeclares_of old c id says.Ok command outcome d = subst (OfCommand c command) (sym d.1) tt
undeclares_of old c id says.PublisherDoesNotExist command outcome d = subst (OfCommand c command) (sym d.1) tt
undeclares_of old c id other command outcome d = absurd d

subscribes_of : (old : Machine) (c id : ℕ) (stream : Option (List ℕ)) (spec : OffsetSpec) (credit : ℕ) (properties : Option (List Property)) (code : ResponseCode) (command : Command) (outcome : Outcome)
    → Subscribes old c id stream spec credit properties code outcome → OfCommand c command outcome
subscribes_of old c id stream spec credit properties says.Ok command outcome d = subst (OfCommand c command) (sym d.3) tt
subscribes_of old c id stream spec credit properties says.StreamDoesNotExist command outcome d = subst (OfCommand c command) (sym d.1) tt
subscribes_of old c id stream spec credit properties other command outcome d = subst (OfCommand c command) (sym d) tt

unsubscribes_of : (old : Machine) (c id : ℕ) (code : ResponseCode) (command : Command) (outcome : Outcome) → Unsubscribes old c id code outcome → OfCommand c command outcome
unsubscribes_of old c id says.Ok command outcome d = subst (OfCommand c command) (sym d.1) tt
unsubscribes_of old c id says.SubscriptionIdDoesNotExist command outcome d = subst (OfCommand c command) (sym d.1) tt
unsubscribes_of old c id other command outcome d = absurd d

changes_of : (c : ℕ) (code : ResponseCode) (change : Change) (command : Command) (outcome : Outcome) → Changes code change outcome → OfCommand c command outcome
changes_of c says.Ok change command outcome d = subst (OfCommand c command) (sym d) tt
changes_of c says.InternalError change command outcome d = subst (OfCommand c command) (sym d) tt
changes_of c other change command outcome d = subst (OfCommand c command) (sym d) tt

authenticates_of : (c : ℕ) (code : ResponseCode) (command : Command) (outcome : Outcome) → Authenticates code outcome → OfCommand c command outcome
authenticates_of c says.AuthenticationFailure command outcome d = subst (OfCommand c command) (sym d) tt
authenticates_of c says.SaslError command outcome d = subst (OfCommand c command) (sym d) tt
authenticates_of c other command outcome d = subst (OfCommand c command) (sym d) tt

publishes_of : (old : Machine) (c id : ℕ) (items : List Tagged) (answer : Option Command) (outcome : Outcome) → Publishes old c id items answer outcome → OfCommand c (Data (data_commands.Publish id items)) outcome
publishes_of old c id items answer outcome (Empty none a is) = subst (OfCommand c (Data (data_commands.Publish id items))) (sym is) tt
publishes_of old c id items answer outcome (Taken number some a is) = subst (OfCommand c (Data (data_commands.Publish id items))) (sym is) (refl, refl)
publishes_of old c id items answer outcome (Refused number code some a is) = subst (OfCommand c (Data (data_commands.Publish id items))) (sym is) tt
publishes_of old c id items answer outcome (Undeclared some none a is) = subst (OfCommand c (Data (data_commands.Publish id items))) (sym is) tt

credits_of : (old : Machine) (c id credit : ℕ) (answer : Option Command) (command : Command) (outcome : Outcome) → Credits old c id credit answer outcome → OfCommand c command outcome
credits_of old c id credit answer command outcome (Granted number a is) = subst (OfCommand c command) (sym is) tt
credits_of old c id credit answer command outcome (Unknown none a is) = subst (OfCommand c command) (sym is) tt

stores_of : (old : Machine) (c : ℕ) (reference stream : Option (List ℕ)) (offset : ℕ) (command : Command) (outcome : Outcome) → Stores old reference stream offset outcome → OfCommand c command outcome
stores_of old c reference stream offset command outcome (Kept number name named is_name is) = subst (OfCommand c command) (sym is) tt
stores_of old c reference stream offset command outcome (Dropped is) = subst (OfCommand c command) (sym is) tt

replies_of : (old : Machine) (c corr : ℕ) (content : Option OffsetSpec) (command : Command) (outcome : Outcome) → Replies old c corr content outcome → OfCommand c command outcome
replies_of old c corr content command outcome (Starts number id is) = subst (OfCommand c command) (sym is) tt
replies_of old c corr content command outcome (Rests number id is) = subst (OfCommand c command) (sym is) tt
replies_of old c corr content command outcome (NoQuestion none is) = subst (OfCommand c command) (sym is) tt

-- the table, line by line
table_of : (old : Machine) (c : ℕ) (command : Command) (answer : Option Command) (outcome : Outcome) → Answers old c command answer outcome → OfCommand c command outcome
table_of old c (Data (data_commands.DeclarePublisher corr id reference stream)) answer outcome a = declares_of old c id reference stream a.0 _ outcome a.2
table_of old c (Data (data_commands.Publish id items)) answer outcome a = publishes_of old c id items answer outcome a
table_of old c (Data (data_commands.QueryPublisherSequence corr reference stream)) answer outcome a = subst (OfCommand c _) (sym a.4) tt
table_of old c (Data (data_commands.DeletePublisher corr id)) answer outcome a = undeclares_of old c id a.0 _ outcome a.2
table_of old c (Data (data_commands.Subscribe corr id stream spec credit properties)) answer outcome a = subscribes_of old c id stream spec credit properties a.0 _ outcome a.2
table_of old c (Data (data_commands.Credit id credit)) answer outcome a = credits_of old c id credit answer _ outcome a
table_of old c (Data (data_commands.StoreOffset reference stream offset)) answer outcome a = stores_of old c reference stream offset _ outcome a.1
table_of old c (Data (data_commands.QueryOffset corr reference stream)) answer outcome a = subst (OfCommand c _) (sym a.4) tt
table_of old c (Data (data_commands.Unsubscribe corr id)) answer outcome a = unsubscribes_of old c id a.0 _ outcome a.2
table_of old c (Data other) answer outcome a = absurd a
table_of old c (Admin (admin_commands.Create corr stream properties)) answer outcome a = changes_of c a.0 _ _ outcome a.2.1
table_of old c (Admin (admin_commands.Delete corr stream)) answer outcome a = changes_of c a.0 _ _ outcome a.2.3
table_of old c (Admin (admin_commands.CreateSuper corr name partitions keys properties)) answer outcome a = changes_of c a.0 _ _ outcome a.2.1
table_of old c (Admin (admin_commands.DeleteSuper corr name)) answer outcome a = changes_of c a.0 _ _ outcome a.2.4
table_of old c (Admin (admin_commands.UpdateAnswer corr code content)) answer outcome a = replies_of old c corr content _ outcome a.1
table_of old c (Admin (admin_commands.ExchangeVersions corr items)) answer outcome a = subst (OfCommand c _) (sym a.3) tt
table_of old c (Admin (admin_commands.Metadata corr names)) answer outcome a = subst (OfCommand c _) (sym a.3) tt
table_of old c (Admin (admin_commands.Route corr key super)) answer outcome a = subst (OfCommand c _) (sym a.3) tt
table_of old c (Admin (admin_commands.Partitions corr super)) answer outcome a = subst (OfCommand c _) (sym a.3) tt
table_of old c (Admin (admin_commands.StreamStats corr stream)) answer outcome a = subst (OfCommand c _) (sym a.3) tt
table_of old c (Admin (admin_commands.PeerProperties corr properties)) answer outcome a = subst (OfCommand c _) (sym a.3) tt
table_of old c (Admin (admin_commands.SaslHandshake corr)) answer outcome a = subst (OfCommand c _) (sym a.3) tt
table_of old c (Admin (admin_commands.SaslAuthenticate corr mechanism opaque)) answer outcome a = authenticates_of c a.0 _ outcome a.3
table_of old c (Admin (admin_commands.TuneAnswer frame heartbeat)) answer outcome a = subst (OfCommand c _) (sym a.1) tt
table_of old c (Admin (admin_commands.OpenHost corr host)) answer outcome a = subst (OfCommand c _) (sym a.3) tt
table_of old c (Admin admin_commands.Heartbeat) answer outcome a = subst (OfCommand c _) (sym a.1) tt
table_of old c (Admin (admin_commands.Close corr code reason)) answer outcome a = subst (OfCommand c _) (sym a.1) tt
table_of old c (Admin other) answer outcome a = absurd a

handles_of : (old : Machine) (c : ℕ) (command : Command) (answer : Option Command) (outcome : Outcome) → Handles old c command answer outcome → OfCommand c command outcome
handles_of old c command answer outcome (Served a) = table_of old c command answer outcome a
handles_of old c command answer outcome (Untaken by_close is) = subst (OfCommand c command) (sym is) tt

-- ---- the moves of an event take what it gives

abbrev gifts_of : Event → Gifts
gifts_of event c id = given_by c id event

abbrev TakesAt : Event → Moves → ℕ → Type 0
TakesAt event moves number = AllByRecursion (Takes (gifts_of event)) (moves number)

takes_as : (event : Event) (moves others : Moves) (number : ℕ) → moves ≡ others → TakesAt event others number → TakesAt event moves number
takes_as event moves others number is t = subst (λ (m : Moves). TakesAt event m number) (sym is) t

takes_only : (event : Event) (n number : ℕ) (l : List Move) → AllByRecursion (Takes (gifts_of event)) l → TakesAt event (only n l) number
takes_only event n number l t = go (number == n)
  where
    go : (b : Bool) → AllByRecursion (Takes (gifts_of event)) (cond b l [])
    go true = t
    go false = tt

begun_takes : (event : Event) (texts : List (Option (List ℕ))) (last number : ℕ) (super : Option (List ℕ)) → TakesAt event (begun last super texts) number
begun_takes event [] last number super = tt
begun_takes event (text ∷ texts) last number super = go (number == last + 1) (begun_takes event texts (last + 1) number super)
  where
    go : (b : Bool) → AllByRecursion (Takes (gifts_of event)) (begun (last + 1) super texts number) → AllByRecursion (Takes (gifts_of event)) (cond b (begins text super ∷ []) (begun (last + 1) super texts number))
    go true more = (tt, tt)
    go false more = more

finished_takes : (event : Event) (b : Bool) → AllByRecursion (Takes (gifts_of event)) (cond b (finishes ∷ []) [])
finished_takes event true = (tt, tt)
finished_takes event false = tt

changed_takes : (event : Event) (last number : ℕ) (change : Change) → TakesAt event (changed last change) number
changed_takes event last number (adds super texts) = begun_takes event texts last number super
changed_takes event last number (drops numbers) = finished_takes event _

line_takes : (old : Machine) (line : ScriptLine) (moves : Moves) (after : Machine) (number : ℕ) → Reads old line moves after → TakesAt (read line) moves number
line_takes old (Create name) moves after number r = takes_as (read (Create name)) moves nowhere number r.0 tt
line_takes old (Connect c) moves after number r = takes_as (read (Connect c)) moves nowhere number r.1 tt
line_takes old (Prepare c name) moves after number r = takes_as (read (Prepare c name)) moves _ number r.3 (takes_only (read (Prepare c name)) r.1 number (declares c 0 None ∷ []) (tt, tt))
line_takes old (Give c piece) moves after number r = takes_as (read (Give c piece)) moves nowhere number r.2 tt
line_takes old (Poll c) moves after number r = takes_as (read (Poll c)) moves nowhere number r.0 tt
line_takes old (Leave c) moves after number r = takes_as (read (Leave c)) moves nowhere number r.0 tt
line_takes old (Tick moment) moves after number r = takes_as (read (Tick moment)) moves nowhere number r.1 tt
line_takes old (Elect stream) moves after number r = takes_as (read (Elect stream)) moves nowhere number r.0 tt
line_takes old (Deliver stream message) moves after number r = takes_as (read (Deliver stream message)) moves nowhere number r.0 tt
line_takes old (Lose stream message) moves after number r = takes_as (read (Lose stream message)) moves nowhere number r.0 tt
line_takes old (Perform stream member) moves after number r = takes_as (read (Perform stream member)) moves nowhere number r.0 tt
line_takes old (Stop stream member calls image) moves after number r = takes_as (read (Stop stream member calls image)) moves nowhere number r.0 tt
line_takes old (Restart stream member) moves after number r = takes_as (read (Restart stream member)) moves nowhere number r.0 tt
line_takes old (Fail stream member call) moves after number r = takes_as (read (Fail stream member call)) moves nowhere number r.0 tt
line_takes old (Settle stream) moves after number r = takes_as (read (Settle stream)) moves nowhere number r.0 tt
line_takes old (Inspect stream) moves after number r = takes_as (read (Inspect stream)) moves nowhere number r.0 tt
line_takes old (StopAll calls image) moves after number r = takes_as (read (StopAll calls image)) moves _ number r.0 (tt, tt)

-- the items of a Publish command are given by it
own_gift : (c id : ℕ) (items : List Tagged) (answer : Option Command) → items ≡ given_by c id (handled c (Data (data_commands.Publish id items)) answer)
own_gift c id items answer = sym (ap (λ (b : Bool). cond b (cond (id == id) items []) []) (eq-eqb c c refl) ∙ ap (λ (b : Bool). cond b items []) (eq-eqb id id refl))

act_takes : (c : ℕ) (command : Command) (answer : Option Command) (n : ℕ) (act : Act) → OfCommand c command (acts n act) → Takes (gifts_of (handled c command answer)) (move_of act)
act_takes c command answer n (publish other id items) of =
    let all : AllByRecursion (λ (x : Tagged). IsIn x (given_by c id (handled c (Data (data_commands.Publish id items)) answer))) items =
    subst (λ (l : List Tagged). AllByRecursion (λ (x : Tagged). IsIn x l) items) (own_gift c id items answer) (each_self items) in
    subst (λ (o : ℕ). AllByRecursion (λ (x : Tagged). IsIn x (given_by o id (handled c command answer))) items) (sym of.0)
    (subst (λ (k : Command). AllByRecursion (λ (x : Tagged). IsIn x (given_by c id (handled c k answer))) items) (sym of.1) all)
act_takes c command answer n (declare other id name) of = tt
act_takes c command answer n (undeclare other id) of = tt
act_takes c command answer n (refuse other id) of = tt
act_takes c command answer n (subscribe other id group spec credits) of = tt
act_takes c command answer n (unsubscribe other id) of = tt
act_takes c command answer n (start other id correlation spec) of = tt
act_takes c command answer n (rest other id correlation) of = tt
act_takes c command answer n (grant other id credits) of = tt
act_takes c command answer n (store name offset) of = tt

outcome_takes : (old : Machine) (c : ℕ) (command : Command) (answer : Option Command) (number : ℕ) (outcome : Outcome) → OfCommand c command outcome → TakesAt (handled c command answer) (moves_by old outcome) number
outcome_takes old c command answer number nothing of = tt
outcome_takes old c command answer number (acts n act) of = takes_only (handled c command answer) n number (move_of act ∷ []) (act_takes c command answer n act of, tt)
outcome_takes old c command answer number (changes change) of = changed_takes (handled c command answer) old.last number change
outcome_takes old c command answer number (doubts change) of = tt
outcome_takes old c command answer number (agrees version) of = tt
outcome_takes old c command answer number (closes how) of = tt

gone_takes : (event : Event) (c : ℕ) (move : Move) → IsGone c move → Takes (gifts_of event) move
gone_takes event c move (inl g) = subst (Takes (gifts_of event)) (sym g.1) tt
gone_takes event c move (inr g) = subst (Takes (gifts_of event)) (sym g.1) tt

sends_takes : (event : Event) (old : Machine) (c : ℕ) (command : Command) (moves : Moves) (after : Machine) (number : ℕ) → Sends old c command moves after → TakesAt event moves number
sends_takes event old c command moves after number (Confirms n id name items is m a) = takes_as event moves _ number m (takes_only event n number (confirms c id name items ∷ []) (tt, tt))
sends_takes event old c command moves after number (Delivers n id chunk last is v m a) = takes_as event moves _ number m (takes_only event n number (delivers c id chunk ∷ []) (tt, tt))
sends_takes event old c command moves after number (Loses n lost is some gone m a) = takes_as event moves _ number m (takes_only event n number lost (all_weaker (IsGone c) (Takes (gifts_of event)) (λ move g. gone_takes event c move g) lost gone))
sends_takes event old c command moves after number (Asks n id flag is small m a) = takes_as event moves _ number m (takes_only event n number _ (tt, tt))
sends_takes event old c command moves after number (Tunes frame heartbeat is m a) = takes_as event moves nowhere number m tt
sends_takes event old c command moves after number (Beats is m a) = takes_as event moves nowhere number m tt

send_takes : (event : Event) (old : Machine) (c : ℕ) (command : Command) (moves : Moves) (after : Machine) (number : ℕ) → SendStep old c command moves after → TakesAt event moves number
send_takes event old c command moves after number (Owed later is m a) = takes_as event moves nowhere number m tt
send_takes event old c command moves after number (Unasked is_open sends) = sends_takes event old c command moves after number sends

event_takes : (old : Machine) (event : Event) (moves : Moves) (after : Machine) (number : ℕ) → Does old event moves after → TakesAt event moves number
event_takes old (read line) moves after number d = line_takes old line moves after number d.reads
event_takes old (handled c command answer) moves after number d =
    takes_as (handled c command answer) moves _ number d.moves_are (outcome_takes old c command answer number d.outcome (handles_of old c command answer d.outcome d.handles))
event_takes old (misread c answer) moves after number d = takes_as (misread c answer) moves nowhere number d.moves_are tt
event_takes old made moves after number d = takes_as made moves _ number d.moves_are (begun_takes made (Some d.name ∷ []) old.last number None)
event_takes old (refused code) moves after number d = takes_as (refused code) moves nowhere number d.moves_are tt
event_takes old (found change) moves after number d = takes_as (found change) moves _ number d.moves_are (changed_takes (found change) old.last number change)
event_takes old (committed n chunk) moves after number d = takes_as (committed n chunk) moves _ number d.0 (takes_only (committed n chunk) n number (commits chunk ∷ []) (tt, tt))
event_takes old (sent c command) moves after number d = send_takes (sent c command) old c command moves after number d
event_takes old (ended c how) moves after number d = takes_as (ended c how) moves _ number d.moves_are (tt, tt)
event_takes old (told line) moves after number d = takes_as (told line) moves nowhere number d.1 tt

-- ---- runs

-- what was given before, and what is given then
abbrev and_then : Gifts → Gifts → Gifts
and_then g h c id = g c id ++ h c id

has_more : (g h : Gifts) (d : Declaration) → HasOnly g d → HasOnly (and_then g h) d
has_more g h d all =
    all_weaker (λ (x : Tagged). IsIn x (g d.connection d.id)) (λ (x : Tagged). IsIn x (g d.connection d.id ++ h d.connection d.id))
    (λ x there. any_front (λ (y : Tagged). y ≡ x) (g d.connection d.id) (h d.connection d.id) there) (items_of d) all

takes_more : (g h : Gifts) (move : Move) → Takes h move → Takes (and_then g h) move
takes_more g h (publishes c id items) t =
    all_weaker (λ (x : Tagged). IsIn x (h c id)) (λ (x : Tagged). IsIn x (g c id ++ h c id)) (λ x there. any_back (λ (y : Tagged). y ≡ x) (g c id) (h c id) there) items t
takes_more g h other t = tt

-- given in other words
has_same : (g h : Gifts) (d : Declaration) → ((c id : ℕ) → g c id ≡ h c id) → HasOnly g d → HasOnly h d
has_same g h d same all = subst (λ (l : List Tagged). AllByRecursion (λ (x : Tagged). IsIn x l) (items_of d)) (same d.connection d.id) all

abbrev gifts_of_all : List Event → Gifts
gifts_of_all events c id = ItemsGiven c id events

run_has : (g : Gifts) (number : ℕ) (events : List Event) (old new : Machine) → MachineRun old events new → AllByRecursion (HasOnly g) (old.streams number).declarations
    → AllByRecursion (HasOnly (and_then g (gifts_of_all events))) (new.streams number).declarations
run_has g number [] old new run all =
    subst (λ (m : Machine). AllByRecursion (HasOnly (and_then g (gifts_of_all []))) (m.streams number).declarations) (sym run)
    (all_weaker (HasOnly g) (HasOnly (and_then g (gifts_of_all []))) (λ d h. has_more g (gifts_of_all []) d h) (old.streams number).declarations all)
run_has g number (event ∷ events) old new run all =
    let now : Gifts = and_then g (gifts_of event) in
    let takes = all_weaker (Takes (gifts_of event)) (Takes now) (λ move t. takes_more g (gifts_of event) move t) (run.1.moves number) (event_takes old event run.1.moves run.1.after number run.1.does) in
    let mid = moves_have now (run.1.moves number) (old.streams number) (run.0.streams number) (run.1.streams number) takes
    (all_weaker (HasOnly g) (HasOnly now) (λ d h. has_more g (gifts_of event) d h) (old.streams number).declarations all) in
    all_weaker (HasOnly (and_then now (gifts_of_all events))) (HasOnly (and_then g (gifts_of_all (event ∷ events))))
    (λ d h. has_same (and_then now (gifts_of_all events)) (and_then g (gifts_of_all (event ∷ events))) d (λ c id. append_assoc (g c id) (given_by c id event) (ItemsGiven c id events)) h)
    (new.streams number).declarations (run_has now number events run.0 new run.2 mid)

pub were_given : (events : List Event) (new : Machine) (number : ℕ) → MachineRun empty_machine events new → AllByRecursion (WereGiven events) (new.streams number).declarations
were_given events new number run = run_has (λ (c id : ℕ). []) number events empty_machine new run tt

given_of : (name : List ℕ) (events : List Event) (ds : List Declaration) (x : Tagged) → AllByRecursion (WereGiven events) ds → IsSentBy name ds x → WasGiven events x
given_of name events ds x given was_sent =
    let both = any_all (λ (d : Declaration). (d.name ≡ Some name) × IsIn x (items_of d)) (WereGiven events) ds was_sent given in
    (both.one.connection, both.one.id, all_at (λ (y : Tagged). IsIn y (ItemsGiven both.one.connection both.one.id events)) (items_of both.one) x both.right both.left.1)

pub rows_given : (name : List ℕ) (events : List Event) (new : Machine) (number : ℕ) → MachineRun empty_machine events new → AllByRecursion (WasGiven events) (items_in name (CommitLines number events))
rows_given name events new number run =
    let ds = (new.streams number).declarations in
    subst (λ (chunks : List Chunk). AllByRecursion (WasGiven events) (items_in name chunks)) (list_is number events new run)
    (all_weaker (IsSentBy name ds) (WasGiven events) (λ x was_sent. given_of name events ds x (were_given events new number run) was_sent) (items_in name (new.streams number).chunks) ((holds events new number run).published name))
