-- The worked session, step by step.
use Rattle.std.proofs.Common.{◌≡◌, ℕ, ◌+◌, ◌==◌, ◌≤◌, true, false, List, [], ◌∷◌, ◌++◌, length, min, rules, codes, Option, Some, None, refl, inl, arith}
use Rattle.frame_wire.specs.Fields.{u8_bytes, u16_bytes, u32_bytes, u64_bytes}
use Rattle.command_fields.specs.Tables.{IsCommand, body_of}
use Rattle.command_fields.specs.declared.offset.OffsetSpec.TheVariants.{First}
use Rattle.command_fields.specs.declared.response.ResponseCode.TheVariants as says
use Rattle.command_admin.specs.declared.command.AdminCommand.TheVariants as admin_commands
use Rattle.command_all.specs.declared.command.Command.{Command}
use Rattle.command_all.specs.declared.command.Command.TheVariants.{Admin}
use Rattle.command_all.specs.Commands.{command_table}
use Rattle.command_all.specs.Reading.{Partial}
use Rattle.script_text.specs.declared.output.Ending.TheVariants.{ClosedByPeer}
use Rattle.list_machine.specs.Streams.{Declaration, starting, active, stopping, waiting, Subscription, Stream, no_stream}
use Rattle.list_machine.specs.Subscribing.{Subscribed, new_subscription, most_credits, with_delivery}
use Rattle.list_machine.specs.Moves.{undeclares, asks, delivers, leaves, StreamRun, without}
use Rattle.list_machine.specs.Machines.{leaving, gone, Connection, fresh, idle, Machine, empty_machine, nowhere, only, everywhere}
use Rattle.list_machine.specs.Lines.{frame_max}
use Rattle.list_machine.specs.Answers.{Act, undeclare, subscribe, unsubscribe, start, rest, grant, move_of, nothing, acts, agrees, closes, owing, Handles, Served, Undeclared, Granted, Starts, Rests}
use Rattle.list_machine.specs.Sends.{Delivers, Loses, Asks, Tunes, Beats, Owed, Unasked}
use Rattle.list_machine.specs.Steps.{handled, sent, ended, MachineStep, MachineRun}
use Rattle.list_machine.specs.Examples.{s_name, machine_of, prepared, seven, is_subscribed, gives}
use Rattle.list_machine.specs.Wrongs.{first_chunk, three_run, of_group, subscribes}
use Rattle.list_machine.specs.SessionExample.{versions, own_versions, is_asked, starts_first, has_stopped, second_delivery, five_credits, which_sequence, is_three, which_offset, no_offset, publishes_by_nine, no_publisher, unsubscribes_three, deletes_seven, closes_it, data_done, admin_done, a_consumer, some_questions, an_end, a_session}
use Rattle.list_machine.proofs.Worked.{linked_step, same_step, only_run, all_run, quiet_of, one_reading, run_on, undeclared_of}
use Rattle.list_machine.proofs.Handling.{read_by}
use Rattle.list_machine.proofs.NoRuns.{frame_waits, three_items, three_stream, subscribe_of_group}
use Rattle.list_machine.proofs.Prefixes.{three_there, nobody_reads}

-- ---- steps of one connection, by its version of Deliver and its count of questions

abbrev linked : ℕ → ℕ → List Command → List Command → Connection
linked version asked inbox owed = record fresh { version = version; asked = asked; inbox = inbox; owed = owed }

abbrev there : Stream → ℕ → ℕ → Machine
there s version asked = machine_of s (linked version asked [] []) idle

-- with a command that was read
abbrev having : Stream → ℕ → ℕ → Command → Machine
having s version asked c = machine_of s (linked version asked (c ∷ []) []) idle

-- with an answer that is owed
abbrev owing_to : Stream → ℕ → ℕ → Command → Machine
owing_to s version asked c = machine_of s (linked version asked [] (c ∷ [])) idle

-- a command that can be read
record IsRead (c : Command) : Type 0 where
  pub is : IsCommand command_table c
  pub short : length (body_of command_table c) ≤ frame_max

give : (s : Stream) (v a : ℕ) (c : Command) → IsRead c → MachineStep (there s v a) (gives c) (having s v a c)
give s v a c r =
    linked_step s s (linked v a [] []) (linked v a (c ∷ []) []) idle idle (gives c) nowhere
    (record { quiet = quiet_of s (linked v a [] []) idle (refl, refl, refl) (λ name e. cc); reads = (linked v a (c ∷ []) [], (c ∷ [], [], Partial, one_reading c r.is r.short, refl), refl, refl) })
    (λ n. refl)

act_step : (s t : Stream) (v a : ℕ) (c : Command) (answer : Option Command) (act : Act) → Handles (having s v a c) 1 c answer (acts 1 act) → StreamRun s (move_of act ∷ []) t
    → MachineStep (having s v a c) (handled 1 c answer) (machine_of t (owing [] answer (linked v a (c ∷ []) [])) idle)
act_step s t v a c answer act handles run =
    linked_step s t (linked v a (c ∷ []) []) (owing [] answer (linked v a (c ∷ []) [])) idle idle (handled 1 c answer) (only 1 (move_of act ∷ []))
    (record { is_open = refl; later = []; is_first = refl; outcome = acts 1 act; handles = handles; moves_are = refl; after_is = refl }) (only_run s t (move_of act ∷ []) run)

nothing_step : (s : Stream) (v a : ℕ) (c : Command) (answer : Option Command) → Handles (having s v a c) 1 c answer nothing
    → MachineStep (having s v a c) (handled 1 c answer) (machine_of s (owing [] answer (linked v a (c ∷ []) [])) idle)
nothing_step s v a c answer handles =
    linked_step s s (linked v a (c ∷ []) []) (owing [] answer (linked v a (c ∷ []) [])) idle idle (handled 1 c answer) nowhere
    (record { is_open = refl; later = []; is_first = refl; outcome = nothing; handles = handles; moves_are = refl; after_is = refl }) (λ n. refl)

answer_step : (s : Stream) (v a : ℕ) (c : Command) → MachineStep (owing_to s v a c) (sent 1 c) (there s v a)
answer_step s v a c = linked_step s s (linked v a [] (c ∷ [])) (linked v a [] []) idle idle (sent 1 c) nowhere (Owed [] refl refl refl) (λ n. refl)

-- ---- commands that can be read

read_versions : IsRead versions
unfolding u8_bytes u16_bytes u32_bytes u64_bytes
read_versions = record { is = (tt, (omega arith, search (rules))); short = omega arith }

read_starts : IsRead starts_first
unfolding u8_bytes u16_bytes u32_bytes u64_bytes
read_starts = record { is = (tt, (omega arith, (omega arith, tt))); short = omega arith }

read_stopped : IsRead has_stopped
unfolding u8_bytes u16_bytes u32_bytes u64_bytes
read_stopped = record { is = (tt, (omega arith, (omega arith, tt))); short = omega arith }

read_credits : IsRead five_credits
unfolding u8_bytes u16_bytes u32_bytes u64_bytes
read_credits = record { is = (tt, (omega arith, omega arith)); short = omega arith }

read_sequence : IsRead which_sequence
unfolding u8_bytes u16_bytes u32_bytes u64_bytes
read_sequence = record { is = (tt, (omega arith, (omega arith, omega arith))); short = omega arith }

read_offset : IsRead which_offset
unfolding u8_bytes u16_bytes u32_bytes u64_bytes
read_offset = record { is = (tt, (omega arith, (omega arith, omega arith))); short = omega arith }

read_nine : IsRead publishes_by_nine
unfolding u8_bytes u16_bytes u32_bytes u64_bytes
read_nine = record { is = (tt, (omega arith, (omega arith, ((omega arith, omega arith), tt)))); short = omega arith }

read_unsubscribe : IsRead unsubscribes_three
unfolding u8_bytes u16_bytes u32_bytes u64_bytes
read_unsubscribe = record { is = (tt, (omega arith, omega arith)); short = omega arith }

read_delete : IsRead deletes_seven
unfolding u8_bytes u16_bytes u32_bytes u64_bytes
read_delete = record { is = (tt, (omega arith, omega arith)); short = omega arith }

read_close : IsRead closes_it
unfolding u8_bytes u16_bytes u32_bytes u64_bytes
read_close = record { is = (tt, (omega arith, (omega arith, omega arith))); short = omega arith }

read_subscribe : IsRead (subscribes 1 (Some of_group))
read_subscribe = let s = subscribe_of_group 1 (omega arith) in record { is = s.is; short = s.short }

-- ---- the consumer, as it goes

abbrev r0 : Subscription
r0 = new_subscription 1 3 (Some (codes "g")) 0 1

abbrev r1 : Subscription
r1 = record r0 { activity = starting 1 }

abbrev r2 : Subscription
r2 = record r1 { activity = active }

abbrev r3 : Subscription
r3 = with_delivery r2 first_chunk

abbrev r4 : Subscription
r4 = record r3 { credits = min (r3.credits + 5) most_credits; granted = r3.granted + 5 }

abbrev r5 : Subscription
r5 = record r4 { activity = stopping 2 }

abbrev r6 : Subscription
r6 = record r5 { activity = waiting }

abbrev with_reader : Subscription → Stream
with_reader r = read_by three_stream r

-- where the one subscription stands
abbrev reader_at : (r : Subscription) → r.connection ≡ 1 → r.id ≡ 3 → Subscribed (with_reader r) 1 3
reader_at r c id = record { before = []; subscription = r; after = []; subscribed = refl; of_connection = c; of_id = id }

some_group : ◌≡◌ {A = Option (List ℕ)} (Some (codes "g")) None → ⊥
some_group e = cc

versions_step : MachineStep (having three_stream 1 0 versions) (handled 1 versions (Some own_versions)) (owing_to three_stream 2 0 own_versions)
versions_step =
    linked_step three_stream three_stream (linked 1 0 (versions ∷ []) []) (linked 2 0 [] (own_versions ∷ [])) idle idle (handled 1 versions (Some own_versions)) nowhere
    (record { is_open = refl; later = []; is_first = refl; outcome = agrees 2; handles = Served (1, _, refl, refl); moves_are = refl; after_is = refl }) (λ n. refl)

group_step : MachineStep (having three_stream 2 0 (subscribes 1 (Some of_group))) (handled 1 (subscribes 1 (Some of_group)) (Some is_subscribed)) (owing_to (with_reader r0) 2 0 is_subscribed)
group_step =
    act_step three_stream (with_reader r0) 2 0 (subscribes 1 (Some of_group)) (Some is_subscribed) (subscribe 1 3 (Some (codes "g")) First 1)
    (Served (says.Ok, refl, (1, (refl, refl), (λ number. nobody_reads three_stream (number == 1) refl), refl))) (with_reader r0, record { is_live = refl; is_new = tt; is = refl }, refl)

ask_step : MachineStep (there (with_reader r0) 2 0) (sent 1 (is_asked 1 1)) (there (with_reader r1) 2 1)
ask_step =
    linked_step (with_reader r0) (with_reader r1) (linked 2 0 [] []) (linked 2 1 [] []) idle idle (sent 1 (is_asked 1 1)) (only 1 (asks 1 3 1 true ∷ [])) (Unasked refl (Asks 1 3 1 refl (omega arith) refl refl))
    (only_run (with_reader r0) (with_reader r1) (asks 1 3 1 true ∷ [])
    (with_reader r1, record { at = reader_at r0 refl refl; of_group = λ e. some_group e; may = ((λ e. refl), tt); is = refl }, refl))

start_step : MachineStep (having (with_reader r1) 2 1 starts_first) (handled 1 starts_first None) (there (with_reader r2) 2 1)
start_step =
    act_step (with_reader r1) (with_reader r2) 2 1 starts_first None (start 1 3 1 First) (Served (refl, Starts 1 3 refl))
    (with_reader r2, record { at = reader_at r1 refl refl; was_asked = refl; is = refl }, refl)

delivery_step : MachineStep (there (with_reader r2) 2 1) (sent 1 (second_delivery first_chunk)) (there (with_reader r3) 2 1)
delivery_step =
    same_step (with_reader r2) (with_reader r3) (linked 2 1 [] []) idle idle (sent 1 (second_delivery first_chunk)) (only 1 (delivers 1 3 first_chunk ∷ []))
    (Unasked refl (Delivers 1 3 first_chunk (Some 3) refl (refl, refl) refl refl))
    (only_run (with_reader r2) (with_reader r3) (delivers 1 3 first_chunk ∷ [])
    (with_reader r3, record { is_live = refl; at = reader_at r2 refl refl; is_active = refl; has_credit = omega arith; is_next = refl; is = refl }, refl))

credit_step : MachineStep (having (with_reader r3) 2 1 five_credits) (handled 1 five_credits None) (there (with_reader r4) 2 1)
credit_step = act_step (with_reader r3) (with_reader r4) 2 1 five_credits None (grant 1 3 5) (Served (Granted 1 refl refl)) (with_reader r4, record { at = reader_at r3 refl refl; is = refl }, refl)

ask_again : MachineStep (there (with_reader r4) 2 1) (sent 1 (is_asked 2 0)) (there (with_reader r5) 2 2)
ask_again =
    linked_step (with_reader r4) (with_reader r5) (linked 2 1 [] []) (linked 2 2 [] []) idle idle (sent 1 (is_asked 2 0)) (only 1 (asks 1 3 2 false ∷ [])) (Unasked refl (Asks 1 3 0 refl (omega arith) refl refl))
    (only_run (with_reader r4) (with_reader r5) (asks 1 3 2 false ∷ []) (with_reader r5, record { at = reader_at r4 refl refl; of_group = λ e. some_group e; may = refl; is = refl }, refl))

rest_step : MachineStep (having (with_reader r5) 2 2 has_stopped) (handled 1 has_stopped None) (there (with_reader r6) 2 2)
rest_step =
    act_step (with_reader r5) (with_reader r6) 2 2 has_stopped None (rest 1 3 2) (Served (refl, Rests 1 3 refl)) (with_reader r6, record { at = reader_at r5 refl refl; was_asked = refl; is = refl }, refl)

consumer_run : MachineRun (there three_stream 1 0) a_consumer (there (with_reader r6) 2 2)
consumer_run = (
  _,
  give three_stream 1 0 versions read_versions,
  (
    _,
    versions_step,
    (
      _,
      answer_step three_stream 2 0 own_versions,
      (
        _,
        give three_stream 2 0 (subscribes 1 (Some of_group)) read_subscribe,
        (
          _,
          group_step,
          (
            _,
            answer_step (with_reader r0) 2 0 is_subscribed,
            (
              _,
              ask_step,
              (
                _,
                give (with_reader r1) 2 1 starts_first read_starts,
                (
                  _,
                  start_step,
                  (
                    _,
                    delivery_step,
                    (
                      _,
                      give (with_reader r3) 2 1 five_credits read_credits,
                      (
                        _,
                        credit_step,
                        (_, ask_again, (_, give (with_reader r5) 2 2 has_stopped read_stopped, (_, rest_step, refl))),
                      ),
                    ),
                  ),
                ),
              ),
            ),
          ),
        ),
      ),
    ),
  ),
)

-- ---- questions

sequence_step : MachineStep (having (with_reader r6) 2 2 which_sequence) (handled 1 which_sequence (Some is_three)) (owing_to (with_reader r6) 2 2 is_three)
unfolding u8_bytes u64_bytes
sequence_step = nothing_step (with_reader r6) 2 2 which_sequence (Some is_three) (Served (says.Ok, 3, refl, (1, (refl, refl), refl), refl))

offset_step : MachineStep (having (with_reader r6) 2 2 which_offset) (handled 1 which_offset (Some no_offset)) (owing_to (with_reader r6) 2 2 no_offset)
offset_step = nothing_step (with_reader r6) 2 2 which_offset (Some no_offset) (Served (says.NoOffset, 0, refl, (1, (refl, refl), (λ name e. refl), refl), refl))

nine_step : MachineStep (having (with_reader r6) 2 2 publishes_by_nine) (handled 1 publishes_by_nine (Some no_publisher)) (owing_to (with_reader r6) 2 2 no_publisher)
nine_step =
    nothing_step (with_reader r6) 2 2 publishes_by_nine (Some no_publisher)
    (Served (Undeclared (omega arith)
    (undeclared_of (with_reader r6) (linked 2 2 (publishes_by_nine ∷ []) []) idle 1 9 ((λ e. absurd (omega (arith, e))), ((λ e. absurd (omega (arith, e))), tt))) refl refl))

questions_run : MachineRun (there (with_reader r6) 2 2) some_questions (there (with_reader r6) 2 2)
questions_run = (
  _,
  give (with_reader r6) 2 2 which_sequence read_sequence,
  (
    _,
    sequence_step,
    (
      _,
      answer_step (with_reader r6) 2 2 is_three,
      (
        _,
        give (with_reader r6) 2 2 which_offset read_offset,
        (
          _,
          offset_step,
          (
            _,
            answer_step (with_reader r6) 2 2 no_offset,
            (_, give (with_reader r6) 2 2 publishes_by_nine read_nine, (_, nine_step, (_, answer_step (with_reader r6) 2 2 no_publisher, refl))),
          ),
        ),
      ),
    ),
  ),
)

-- ---- the end

unsubscribe_step : MachineStep (having (with_reader r6) 2 2 unsubscribes_three) (handled 1 unsubscribes_three (Some (data_done 0x800c 23))) (owing_to three_stream 2 2 (data_done 0x800c 23))
unsubscribe_step =
    act_step (with_reader r6) three_stream 2 2 unsubscribes_three (Some (data_done 0x800c 23)) (unsubscribe 1 3) (Served (says.Ok, refl, (1, refl))) (three_stream, record { at = reader_at r6 refl refl; is = refl }, refl)

abbrev seven_ended : Declaration
seven_ended = record (seven (frame_waits three_items)) { stands = false }

abbrev without_seven : Stream
without_seven = record three_stream { declarations = prepared ∷ seven_ended ∷ [] }

delete_step : MachineStep (having three_stream 2 2 deletes_seven) (handled 1 deletes_seven (Some (data_done 0x8006 24))) (owing_to without_seven 2 2 (data_done 0x8006 24))
delete_step =
    act_step three_stream without_seven 2 2 deletes_seven (Some (data_done 0x8006 24)) (undeclare 1 7) (Served (says.Ok, refl, (1, refl))) (
      without_seven,
      record { at = record { before = prepared ∷ []; declaration = seven (frame_waits three_items); after = []; declared = refl; stands = refl; of_connection = refl; of_id = refl }; is = refl },
      refl,
    )

tune_step : MachineStep (there without_seven 2 2) (sent 1 (Admin (admin_commands.Tune 0 0))) (there without_seven 2 2)
tune_step = same_step without_seven without_seven (linked 2 2 [] []) idle idle (sent 1 (Admin (admin_commands.Tune 0 0))) nowhere (Unasked refl (Tunes 0 0 refl refl refl)) (λ n. refl)

beat_step : MachineStep (there without_seven 2 2) (sent 1 (Admin admin_commands.Heartbeat)) (there without_seven 2 2)
beat_step = same_step without_seven without_seven (linked 2 2 [] []) idle idle (sent 1 (Admin admin_commands.Heartbeat)) nowhere (Unasked refl (Beats refl refl refl)) (λ n. refl)

abbrev without_both : Stream
without_both = record three_stream { declarations = record prepared { stands = false } ∷ seven_ended ∷ [] }

update_step : MachineStep (there without_seven 2 2) (sent 1 (Admin (admin_commands.MetadataUpdate 0x06 (Some s_name)))) (there without_both 2 2)
update_step =
    same_step without_seven without_both (linked 2 2 [] []) idle idle (sent 1 (Admin (admin_commands.MetadataUpdate 0x06 (Some s_name)))) (only 1 (undeclares 1 0 ∷ []))
    (Unasked refl (Loses 1 (undeclares 1 0 ∷ []) refl (omega arith) (inl (0, refl), tt) refl refl))
    (only_run without_seven without_both (undeclares 1 0 ∷ []) (
      without_both,
      record { at = record { before = []; declaration = prepared; after = seven_ended ∷ []; declared = refl; stands = refl; of_connection = refl; of_id = refl }; is = refl },
      refl,
    ))

abbrev leaving_it : Connection
leaving_it = record (linked 2 2 [] (admin_done 0x8016 25 ∷ [])) { phase = leaving ClosedByPeer }

abbrev written_it : Connection
written_it = record leaving_it { owed = [] }

close_step : MachineStep (having without_both 2 2 closes_it) (handled 1 closes_it (Some (admin_done 0x8016 25))) (machine_of without_both leaving_it idle)
close_step =
    linked_step without_both without_both (linked 2 2 (closes_it ∷ []) []) leaving_it idle idle (handled 1 closes_it (Some (admin_done 0x8016 25))) nowhere
    (record { is_open = refl; later = []; is_first = refl; outcome = closes ClosedByPeer; handles = Served (refl, refl); moves_are = refl; after_is = refl }) (λ n. refl)

closed_step : MachineStep (machine_of without_both leaving_it idle) (sent 1 (admin_done 0x8016 25)) (machine_of without_both written_it idle)
closed_step = linked_step without_both without_both leaving_it written_it idle idle (sent 1 (admin_done 0x8016 25)) nowhere (Owed [] refl refl refl) (λ n. refl)

bye_step : MachineStep (machine_of without_both written_it idle) (ended 1 ClosedByPeer) (machine_of (without 1 without_both) (record written_it { phase = gone }) idle)
bye_step =
    linked_step without_both (without 1 without_both) written_it (record written_it { phase = gone }) idle idle (ended 1 ClosedByPeer) (everywhere (leaves 1 ∷ []))
    (record { may = inl refl; all_written = refl; moves_are = refl; after_is = refl }) (all_run without_both (without 1 without_both) (leaves 1 ∷ []) (without 1 without_both, refl, refl) (no_stream, refl, refl))

end_run : MachineRun (there (with_reader r6) 2 2) an_end (machine_of (without 1 without_both) (record written_it { phase = gone }) idle)
end_run = (
  _,
  give (with_reader r6) 2 2 unsubscribes_three read_unsubscribe,
  (
    _,
    unsubscribe_step,
    (
      _,
      answer_step three_stream 2 2 (data_done 0x800c 23),
      (
        _,
        give three_stream 2 2 deletes_seven read_delete,
        (
          _,
          delete_step,
          (
            _,
            answer_step without_seven 2 2 (data_done 0x8006 24),
            (
              _,
              tune_step,
              (
                _,
                beat_step,
                (
                  _,
                  update_step,
                  (_, give without_both 2 2 closes_it read_close, (_, close_step, (_, closed_step, (_, bye_step, refl)))),
                ),
              ),
            ),
          ),
        ),
      ),
    ),
  ),
)

pub session_run : MachineRun empty_machine a_session (machine_of (without 1 without_both) (record written_it { phase = gone }) idle)
session_run =
    run_on three_run (a_consumer ++ (some_questions ++ an_end)) empty_machine (there three_stream 1 0) (machine_of (without 1 without_both) (record written_it { phase = gone }) idle) three_there
    (run_on a_consumer (some_questions ++ an_end) (there three_stream 1 0) (there (with_reader r6) 2 2) (machine_of (without 1 without_both) (record written_it { phase = gone }) idle) consumer_run
    (run_on some_questions an_end (there (with_reader r6) 2 2) (there (with_reader r6) 2 2) (machine_of (without 1 without_both) (record written_it { phase = gone }) idle) questions_run end_run))
