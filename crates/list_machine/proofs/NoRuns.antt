-- Runs of the machine with nothing that there aren't, each wrong in its last event.
use Rattle.std.proofs.Common.{ℕ, ◌≡◌, ◌≤◌, ◌<◌, true, rules, List, [], ◌∷◌, ◌++◌, length, Option, Some, None, refl, arith}
use Rattle.frame_wire.specs.Fields.{u8_bytes, u16_bytes, u32_bytes, u64_bytes}
use Rattle.command_fields.specs.Tables.{IsCommand, body_of}
use Rattle.command_fields.specs.declared.property.Property.{Property}
use Rattle.command_data.specs.declared.item.Tagged.{Tagged}
use Rattle.command_all.specs.declared.command.Command.{Command}
use Rattle.command_all.specs.Commands.{command_table}
use Rattle.script_text.specs.declared.script.ScriptLine.TheVariants as script
use Rattle.list_machine.specs.Streams.{Frame, Stream}
use Rattle.list_machine.specs.Subscribing.{new_subscription, with_delivery}
use Rattle.list_machine.specs.Machines.{Connection, fresh, Machine, empty_machine}
use Rattle.list_machine.specs.Lines.{frame_max}
use Rattle.list_machine.specs.Answers.{group_of}
use Rattle.list_machine.specs.Steps.{Event, read, handled, committed, sent, MachineRun}
use Rattle.list_machine.specs.Waits.{HasNoRun}
use Rattle.list_machine.specs.Examples.{p_name, item, chunk_of, opening, stored_chunk, stream_of, connection_of, prepared, seven, declares_seven, is_declared, delivery, gives, a_stream_made, a_declaration}
use Rattle.list_machine.specs.Wrongs.{first_chunk, second_chunk, third_chunk, confirms_ids, publishes, published_run, committed_run, three_run, stores_one, stored_run, of_group, subscribes, a_subscription}
use Rattle.list_machine.proofs.Worked.{one_reading, is_declare, short_declare}
use Rattle.list_machine.proofs.Answering.{answers_once}
use Rattle.list_machine.proofs.Going.{Comes, Leads, comes_by, comes_made, pushed, leads_commit, leads_prepare, leads_give}
use Rattle.list_machine.proofs.Handling.{read_by, joined, leads_declare, leads_publish, leads_subscribe, leads_answer, leads_confirm, leads_deliver, stored_or}
use Rattle.list_machine.proofs.Refusing.{Refused, published_stream, nobody_sent, passing, confirm_early, confirm_twice, confirm_undeclared, confirm_both, uncredited, to_waiting, other_next, none_next}

-- a run doesn't go on by what is refused where it comes to
no_run : {s : Stream} {k : Connection} {event : Event} {new : Machine} → Refused s k event → Comes s k (event ∷ []) new → ⊥
no_run refused c = refused c.mid c.rest.0 c.stands c.rest.1

leads_given : (s : Stream) (c : Command) → IsCommand command_table c → length (body_of command_table c) ≤ frame_max → Leads s fresh (gives c) s (connection_of (c ∷ []) [])
leads_given s c is short = leads_give s c is short (one_reading c is short)

-- ---- what the runs come to

abbrev pub with_seven : Stream
with_seven = stream_of (opening ∷ []) (prepared ∷ seven [] ∷ []) [] []

comes_declared : (events : List Event) (new : Machine) → MachineRun empty_machine (a_stream_made ++ (a_declaration ++ events)) new → Comes with_seven fresh events new
comes_declared events new run =
    let made = comes_made (a_declaration ++ events) new run in
    let with_one : Stream = stream_of (opening ∷ []) (prepared ∷ []) [] [] in
    let is_prepared = comes_by (leads_prepare (stream_of (opening ∷ []) [] [] [])) made in
    let given = comes_by (leads_given with_one declares_seven is_declare short_declare) is_prepared in
    let declared = comes_by (leads_declare with_one) given in
    comes_by (leads_answer with_seven 0x8001 5 1) declared

-- the items of one frame that waits
abbrev pub frame_waits : List Tagged → List Frame
frame_waits items = record { items = items; waits = true } ∷ []

-- a Publish frame can be read
pub record IsFrame (items : List Tagged) : Type 0 where
  pub some : 1 ≤ length items
  pub is : IsCommand command_table (publishes items)
  pub short : length (body_of command_table (publishes items)) ≤ frame_max

comes_published : (items : List Tagged) (events : List Event) (new : Machine) → IsFrame items → MachineRun empty_machine (published_run items ++ events) new → Comes (published_stream (opening ∷ []) (frame_waits items)) fresh events new
comes_published items events new is run =
    let declared = comes_declared (gives (publishes items) ∷ handled 1 (publishes items) None ∷ events) new run in
    let given = comes_by (leads_given with_seven (publishes items) is.is is.short) declared in
    comes_by (leads_publish with_seven items is.some refl) given

comes_committed : (items : List Tagged) (events : List Event) (new : Machine) → IsFrame items → MachineRun empty_machine (committed_run items ++ events) new
    → Comes (published_stream (opening ∷ first_chunk ∷ []) (frame_waits items)) fresh events new
comes_committed items events new is run = comes_by (leads_commit (published_stream (opening ∷ []) (frame_waits items)) fresh first_chunk) (comes_published items (committed 1 first_chunk ∷ events) new is run)

abbrev pub three_items : List Tagged
three_items = item 1 97 ∷ item 2 98 ∷ item 3 99 ∷ []

abbrev pub three_stream : Stream
three_stream = published_stream (opening ∷ first_chunk ∷ second_chunk ∷ third_chunk ∷ []) (frame_waits three_items)

comes_three : (events : List Event) (new : Machine) → IsFrame three_items → MachineRun empty_machine (three_run ++ events) new → Comes three_stream fresh events new
comes_three events new is run =
    let one = comes_committed three_items (committed 1 second_chunk ∷ committed 1 third_chunk ∷ events) new is run in
    let two = comes_by (leads_commit (published_stream (opening ∷ first_chunk ∷ []) (frame_waits three_items)) fresh second_chunk) one in
    comes_by (leads_commit (published_stream (opening ∷ first_chunk ∷ second_chunk ∷ []) (frame_waits three_items)) fresh third_chunk) two

pub record IsSubscribe (credit : ℕ) (properties : Option (List Property)) : Type 0 where
  pub is : IsCommand command_table (subscribes credit properties)
  pub short : length (body_of command_table (subscribes credit properties)) ≤ frame_max

comes_subscribed : (s : Stream) (credit : ℕ) (properties : Option (List Property)) (events : List Event) (new : Machine) → IsSubscribe credit properties → Comes s fresh (a_subscription credit properties ++ events) new
    → Comes (joined s (group_of properties) credit) fresh events new
comes_subscribed s credit properties events new is c =
    let given = comes_by (leads_given s (subscribes credit properties) is.is is.short) c in
    let taken = comes_by (leads_subscribe s credit properties) given in
    comes_by (leads_answer (joined s (group_of properties) credit) 0x8007 6 1) taken

-- ---- frames that can be read

pub frame_one : IsFrame (item 1 97 ∷ [])
unfolding u8_bytes u16_bytes u32_bytes u64_bytes
frame_one = record { some = omega arith; is = (tt, (omega arith, (omega arith, ((omega arith, omega arith), tt)))); short = omega arith }

pub frame_two : IsFrame (item 1 97 ∷ item 2 98 ∷ [])
unfolding u8_bytes u16_bytes u32_bytes u64_bytes
frame_two = record { some = omega arith; is = (tt, (omega arith, (omega arith, ((omega arith, omega arith), ((omega arith, omega arith), tt))))); short = omega arith }

pub frame_one_five : IsFrame (item 1 97 ∷ item 5 101 ∷ [])
unfolding u8_bytes u16_bytes u32_bytes u64_bytes
frame_one_five = record { some = omega arith; is = (tt, (omega arith, (omega arith, ((omega arith, omega arith), ((omega arith, omega arith), tt))))); short = omega arith }

pub frame_three : IsFrame three_items
unfolding u8_bytes u16_bytes u32_bytes u64_bytes
frame_three = record { some = omega arith; is = (tt, (omega arith, (omega arith, ((omega arith, omega arith), ((omega arith, omega arith), ((omega arith, omega arith), tt)))))); short = omega arith }

-- ---- chunks

pub no_run_nobody_sent : HasNoRun (published_run (item 1 97 ∷ []) ++ committed 1 (chunk_of 1 1 (item 9 99)) ∷ [])
no_run_nobody_sent new run = no_run nobody_sent (comes_published (item 1 97 ∷ []) (committed 1 (chunk_of 1 1 (item 9 99)) ∷ []) new frame_one run)

pub no_run_passing : HasNoRun (published_run (item 1 97 ∷ item 2 98 ∷ []) ++ committed 1 (chunk_of 1 1 (item 2 98)) ∷ [])
no_run_passing new run = no_run passing (comes_published (item 1 97 ∷ item 2 98 ∷ []) (committed 1 (chunk_of 1 1 (item 2 98)) ∷ []) new frame_two run)

-- ---- confirms

pub no_run_early : HasNoRun (published_run (item 1 97 ∷ []) ++ sent 1 (confirms_ids 7 (1 ∷ [])) ∷ [])
no_run_early new run = no_run confirm_early (comes_published (item 1 97 ∷ []) (sent 1 (confirms_ids 7 (1 ∷ [])) ∷ []) new frame_one run)

pub no_run_undeclared : HasNoRun (committed_run (item 1 97 ∷ []) ++ sent 1 (confirms_ids 9 (1 ∷ [])) ∷ [])
no_run_undeclared new run = no_run confirm_undeclared (comes_committed (item 1 97 ∷ []) (sent 1 (confirms_ids 9 (1 ∷ [])) ∷ []) new frame_one run)

pub no_run_above : HasNoRun (committed_run (item 1 97 ∷ item 5 101 ∷ []) ++ sent 1 (confirms_ids 7 (1 ∷ 5 ∷ [])) ∷ [])
no_run_above new run = no_run confirm_both (comes_committed (item 1 97 ∷ item 5 101 ∷ []) (sent 1 (confirms_ids 7 (1 ∷ 5 ∷ [])) ∷ []) new frame_one_five run)

pub no_run_confirmed_twice : HasNoRun (committed_run (item 1 97 ∷ []) ++ sent 1 (confirms_ids 7 (1 ∷ [])) ∷ sent 1 (confirms_ids 7 (1 ∷ [])) ∷ [])
no_run_confirmed_twice new run =
    let s : Stream = stream_of (opening ∷ first_chunk ∷ []) [] [] [] in
    let committed_one = comes_committed (item 1 97 ∷ []) (sent 1 (confirms_ids 7 (1 ∷ [])) ∷ sent 1 (confirms_ids 7 (1 ∷ [])) ∷ []) new frame_one run in
    no_run (confirm_twice (record s { confirmed = record { name = Some p_name; items = item 1 97 ∷ [] } ∷ [] })) (comes_by (leads_confirm s (item 1 97)) committed_one)

-- ---- deliveries

pub subscribe_with : (credit : ℕ) → credit < 100 → IsSubscribe credit None
unfolding u8_bytes u16_bytes u32_bytes u64_bytes
subscribe_with credit few = record { is = (tt, (omega arith, (omega arith, (omega arith, (tt, (omega (arith, few), tt)))))); short = omega arith }

-- three chunks, and a subscription without a group
comes_reading : (credit : ℕ) (events : List Event) (new : Machine) → credit < 100 → MachineRun empty_machine (three_run ++ (a_subscription credit None ++ events)) new → Comes (read_by three_stream (new_subscription 1 3 None 0 credit)) fresh events new
comes_reading credit events new few run = comes_subscribed three_stream credit None events new (subscribe_with credit few) (comes_three (a_subscription credit None ++ events) new frame_three run)

pub no_run_uncredited : HasNoRun (three_run ++ (a_subscription 0 None ++ sent 1 (delivery first_chunk) ∷ []))
no_run_uncredited new run = no_run (uncredited three_stream (new_subscription 1 3 None 0 0) first_chunk refl) (comes_reading 0 (sent 1 (delivery first_chunk) ∷ []) new (omega arith) run)

pub no_run_out_of_order : HasNoRun (three_run ++ (a_subscription 3 None ++ sent 1 (delivery second_chunk) ∷ []))
no_run_out_of_order new run =
    no_run (other_next three_stream (new_subscription 1 3 None 0 3) second_chunk first_chunk refl (λ e. absurd (omega (arith, e)))) (comes_reading 3 (sent 1 (delivery second_chunk) ∷ []) new (omega arith) run)

pub no_run_past_gap : HasNoRun (three_run ++ (a_subscription 3 None ++ sent 1 (delivery first_chunk) ∷ sent 1 (delivery third_chunk) ∷ []))
no_run_past_gap new run =
    let r = new_subscription 1 3 None 0 3 in
    let read_one = comes_by (leads_deliver three_stream r first_chunk refl) (comes_reading 3 (sent 1 (delivery first_chunk) ∷ sent 1 (delivery third_chunk) ∷ []) new (omega arith) run) in
    no_run (other_next three_stream (with_delivery r first_chunk) third_chunk second_chunk refl (λ e. absurd (omega (arith, e)))) read_one

pub subscribe_of_group : (credit : ℕ) → credit < 100 → IsSubscribe credit (Some of_group)
unfolding u8_bytes u16_bytes u32_bytes u64_bytes
subscribe_of_group credit few = record { is = (tt, (omega arith, (omega arith, (omega arith, (tt, (omega (arith, few), search (rules))))))); short = omega arith }

pub no_run_to_waiting : HasNoRun (three_run ++ (a_subscription 3 (Some of_group) ++ sent 1 (delivery first_chunk) ∷ []))
no_run_to_waiting new run =
    no_run (to_waiting three_stream (new_subscription 1 3 (group_of (Some of_group)) 0 3) first_chunk refl)
    (comes_subscribed three_stream 3 (Some of_group) (sent 1 (delivery first_chunk) ∷ []) new (subscribe_of_group 3 (omega arith)) (comes_three (a_subscription 3 (Some of_group) ++ sent 1 (delivery first_chunk) ∷ []) new frame_three run))

pub is_store : IsCommand command_table stores_one
is_store = (tt, (omega arith, (omega arith, omega arith)))

pub short_store : length (body_of command_table stores_one) ≤ frame_max
unfolding u8_bytes u16_bytes u32_bytes u64_bytes
short_store = omega arith

pub no_run_of_delta : HasNoRun (stored_run ++ (a_subscription 3 None ++ sent 1 (delivery (stored_chunk 1)) ∷ []))
no_run_of_delta new run =
    let behind : List Event = a_subscription 3 None ++ sent 1 (delivery (stored_chunk 1)) ∷ [] in
    let declared = comes_declared (gives stores_one ∷ handled 1 stores_one None ∷ committed 1 (stored_chunk 1) ∷ behind) new run in
    let given = comes_by (leads_given with_seven stores_one is_store short_store) declared in
    let s = stored_or given.mid given.rest.0 with_seven given.stands given.rest.1 in
    let with_offset : Stream = record with_seven { stored = s.stored } in
    let stored : Comes with_offset fresh (committed 1 (stored_chunk 1) ∷ behind) new = record { mid = given.rest.0; stands = s.stands; rest = given.rest.2 } in
    let in_list = comes_by (leads_commit with_offset fresh (stored_chunk 1)) stored in
    let reading = comes_subscribed (pushed with_offset (stored_chunk 1)) 3 None (sent 1 (delivery (stored_chunk 1)) ∷ []) new (subscribe_with 3 (omega arith)) in_list in
    no_run (none_next (pushed with_offset (stored_chunk 1)) (new_subscription 1 3 None 0 3) (stored_chunk 1) refl) reading

-- ---- answers

none_more : (c : Command) (more : List Command) → [] ≡ c ∷ more → ⊥
none_more c more e = cc

pub no_run_not_owed : HasNoRun (a_stream_made ++ read (script.Connect 1) ∷ sent 1 is_declared ∷ [])
no_run_not_owed new run = none_more is_declared (new.connections 1).owed (answers_once (a_stream_made ++ read (script.Connect 1) ∷ sent 1 is_declared ∷ []) new 1 run)

pub no_run_answered_twice : HasNoRun (a_stream_made ++ (a_declaration ++ sent 1 is_declared ∷ []))
no_run_answered_twice new run =
    let once : is_declared ∷ [] ≡ is_declared ∷ is_declared ∷ (new.connections 1).owed = answers_once (a_stream_made ++ (a_declaration ++ sent 1 is_declared ∷ [])) new 1 run in
    let tails : [] ≡ is_declared ∷ (new.connections 1).owed = cc in
    none_more is_declared (new.connections 1).owed tails
