-- The worked run, step by step.
use Rattle.std.proofs.Common.{◌≡◌, ℕ, ◌==◌, ◌<◌, ◌≤◌, Bool, true, false, cond, List, [], ◌∷◌, ◌++◌, length, pos, rules, codes, Option, Some, None, refl, sym, ap, subst, ◌∙◌, inl, inr, arith, length-append}
use Rattle.std.specs.List.{AllByRecursion}
use Rattle.std.specs.Int.{w64}
use Rattle.std.specs.Int.RustNames.{FitsSigned}
use Rattle.std.proofs.lemmas.Bool.{eqb-true}
use Rattle.std.proofs.lemmas.List.{append-nil}
use Rattle.std.proofs.lemmas.List.Elements.{All-nil, All-from_recursion}
use Rattle.frame_wire.specs.Fields.{u8_bytes, u16_bytes, u32_bytes, u64_bytes}
use Rattle.frame_wire.specs.Frames.{frame, IsBody}
use Rattle.frame_wire.proofs.FieldLaws.{u32_length}
use Rattle.chunk_format.specs.declared.entry.Entry.TheVariants.{Simple}
use Rattle.chunk_format.specs.declared.chunk.Chunk.{Chunk}
use Rattle.chunk_format.specs.Tags.{Tag, tag_bytes, IsTagOf, IsSnapshot}
use Rattle.chunk_format.specs.Chunks.{IsEntry, HasRecords, IsChunk, entry_bytes, entries_bytes}
use Rattle.command_fields.specs.Tables.{IsCommand, body_of}
use Rattle.command_fields.specs.declared.response.ResponseCode.TheVariants as says
use Rattle.command_all.specs.declared.command.Command.{Command}
use Rattle.command_all.specs.Commands.{command_table, frame_of}
use Rattle.command_all.specs.Reading.{Partial, TooLarge, Reading}
use Rattle.script_text.specs.declared.script.ScriptLine.TheVariants as script
use Rattle.script_text.specs.declared.output.OutputLine.TheVariants as output
use Rattle.script_text.specs.declared.output.Ending.TheVariants.{PeerEnded, ClosedByUs}
use Rattle.list_machine.specs.Streams.{Frame, Confirmed, Declaration, active, Subscription, live, Stream, no_stream}
use Rattle.list_machine.specs.Publishing.{Declared}
use Rattle.list_machine.specs.Subscribing.{with_delivery}
use Rattle.list_machine.specs.Commits.{CommitStep}
use Rattle.list_machine.specs.Moves.{Move, begins, commits, declares, publishes, confirms, subscribes, delivers, leaves, forgets, MoveStep, StreamRun, without, forgotten}
use Rattle.list_machine.specs.Machines.{Change, adds, IsMissing, leaving, gone, Connection, fresh, no_connection, Doing, idle, making, reopening, Machine, empty_machine, put, Moves, nowhere, only, everywhere, begun, IsUndeclared}
use Rattle.list_machine.specs.Lines.{frame_max, IsAnswered, IsQuiet}
use Rattle.list_machine.specs.Answers.{declare, publish, subscribe, acts, Taken, Served}
use Rattle.list_machine.specs.Sends.{Confirms, Delivers, Owed, Unasked}
use Rattle.list_machine.specs.Steps.{Event, read, handled, misread, made, refused, found, committed, sent, ended, told, Does, MachineStep, MachineRun}
use Rattle.list_machine.specs.Examples.{s_name, p_name, item, chunk_of, opening, machine_of, stream_of, connection_of, prepared, seven, frame as one_frame, reader, declares_seven, is_declared, publishes_one, confirms_one, subscribes_three, is_subscribed, delivery, gives, a_stream_made, a_declaration, a_confirm, a_delivery, a_stop, the_worked_run, large_size, closes_large, a_frame_too_large, a_change_in_doubt}
use Rattle.list_machine.proofs.Lists.{all_back}

-- ---- steps between machines with one stream and one connection

pub only_run : (s t : Stream) (l : List Move) → StreamRun s l t → (n : ℕ) → StreamRun (cond (n == 1) s no_stream) (only 1 l n) (cond (n == 1) t no_stream)
only_run s t l run n = go (n == 1)
  where
    go : (b : Bool) → StreamRun (cond b s no_stream) (cond b l []) (cond b t no_stream)
    go true = run
    go false = refl

pub all_run : (s t : Stream) (l : List Move) → StreamRun s l t → StreamRun no_stream l no_stream → (n : ℕ) → StreamRun (cond (n == 1) s no_stream) l (cond (n == 1) t no_stream)
all_run s t l run none n = go (n == 1)
  where
    go : (b : Bool) → StreamRun (cond b s no_stream) l (cond b t no_stream)
    go true = run
    go false = none

put_one : (k j : Connection) (n : ℕ) → cond (n == 1) j no_connection ≡ put 1 j (λ (m : ℕ). cond (m == 1) k no_connection) n
put_one k j n = go (n == 1)
  where
    go : (b : Bool) → cond b j no_connection ≡ cond b j (cond b k no_connection)
    go true = refl
    go false = refl

abbrev with_link : Stream → Connection → Doing → Connection → Doing → Machine
with_link s k d j e = record (machine_of s k d) { connections = put 1 j (machine_of s k d).connections; doing = e }

pub linked_step : (s t : Stream) (k j : Connection) (d e : Doing) (event : Event) (moves : Moves) → Does (machine_of s k d) event moves (with_link s k d j e)
    → ((n : ℕ) → StreamRun (cond (n == 1) s no_stream) (moves n) (cond (n == 1) t no_stream)) → MachineStep (machine_of s k d) event (machine_of t j e)
linked_step s t k j d e event moves does runs = record {
  moves = moves;
  after = with_link s k d j e;
  does = does;
  streams = runs;
  connections = put_one k j;
  last = refl;
  unsure = refl;
  doing = refl;
  moment = refl;
}

pub same_step : (s t : Stream) (k : Connection) (d e : Doing) (event : Event) (moves : Moves) → Does (machine_of s k d) event moves (record (machine_of s k d) { doing = e })
    → ((n : ℕ) → StreamRun (cond (n == 1) s no_stream) (moves n) (cond (n == 1) t no_stream)) → MachineStep (machine_of s k d) event (machine_of t k e)
same_step s t k d e event moves does runs = record {
  moves = moves;
  after = record (machine_of s k d) { doing = e };
  does = does;
  streams = runs;
  connections = λ n. refl;
  last = refl;
  unsure = refl;
  doing = refl;
  moment = refl;
}

pub quiet_of : (s : Stream) (k : Connection) (d : Doing) → IsAnswered k.phase k → ((name : List ℕ) → d ≡ making name → ⊥) → IsQuiet (machine_of s k d)
quiet_of s k d answered idle_now = record { connections = λ n. go (n == 1); made = idle_now }
  where
    go : (b : Bool) → IsAnswered (cond b k no_connection).phase (cond b k no_connection)
    go true = answered
    go false = tt

pub fresh_quiet : (s : Stream) → IsQuiet (machine_of s fresh idle)
fresh_quiet s = quiet_of s fresh idle (refl, refl, refl) (λ name e. cc)

-- ---- frames

pub one_reading : (c : Command) → IsCommand command_table c → length (body_of command_table c) ≤ frame_max → Reading frame_max (frame_of c) (c ∷ []) [] Partial
one_reading c is short =
    let body : List ℕ = body_of command_table c in
    record {
      bodies = body ∷ [];
      framed = record {
        whole = sym (append-nil (frame body ++ []) ∙ append-nil (frame body));
        each = All-from_recursion (IsBody frame_max) (body ∷ []) (short, tt);
        partial = inl (omega arith);
      };
      spelled = (record { is_command = is; spelled = refl }, tt);
    }

pub give_step : (s : Stream) (c : Command) → IsCommand command_table c → length (body_of command_table c) ≤ frame_max → MachineStep (machine_of s fresh idle) (gives c) (machine_of s (connection_of (c ∷ []) []) idle)
give_step s c is short =
    linked_step s s fresh (connection_of (c ∷ []) []) idle idle (gives c) nowhere
    (record { quiet = fresh_quiet s; reads = (connection_of (c ∷ []) [], (c ∷ [], [], Partial, one_reading c is short, refl), refl, refl) })
    (λ n. refl)

pub owed_step : (s : Stream) (c : Command) → MachineStep (machine_of s (connection_of [] (c ∷ [])) idle) (sent 1 c) (machine_of s fresh idle)
owed_step s c = linked_step s s (connection_of [] (c ∷ [])) fresh idle idle (sent 1 c) nowhere (Owed [] refl refl refl) (λ n. refl)

poll_step : (s : Stream) → MachineStep (machine_of s fresh idle) (read (script.Poll 1)) (machine_of s fresh idle)
poll_step s = same_step s s fresh idle idle (read (script.Poll 1)) nowhere (record { quiet = fresh_quiet s; reads = (refl, refl) }) (λ n. refl)

settle_step : (s : Stream) → MachineStep (machine_of s fresh idle) (read (script.Settle 1)) (machine_of s fresh idle)
settle_step s = same_step s s fresh idle idle (read (script.Settle 1)) nowhere (record { quiet = fresh_quiet s; reads = (refl, refl) }) (λ n. refl)

pub commit_step : (s t : Stream) (k : Connection) (c : Chunk) → CommitStep s c t → MachineStep (machine_of s k idle) (committed 1 c) (machine_of t k idle)
commit_step s t k c step = same_step s t k idle idle (committed 1 c) (only 1 (commits c ∷ [])) (refl, refl) (only_run s t (commits c ∷ []) (t, step, refl))

-- ---- chunks

pub zero_fits : FitsSigned w64 (pos 0)
zero_fits = search rules

opening_length : length (entries_bytes (Simple [] ∷ [])) ≡ 4
opening_length = omega (arith, ap length (append-nil (entry_bytes (Simple []))), length-append (u32_bytes 0) [], u32_length 0)

pub opening_is : (epoch first : ℕ) → epoch < 100 → first < 100 → IsChunk (record opening { epoch = epoch; first = first })
opening_is epoch first small low = record {
  stamp_fits = zero_fits;
  epoch_fits = omega (arith, small);
  some = omega arith;
  few = omega arith;
  each = All-from_recursion IsEntry (Simple [] ∷ []) (omega arith, tt);
  recorded = All-from_recursion HasRecords (Simple [] ∷ []) (omega arith, tt);
  payload = omega (arith, opening_length);
  last = omega (arith, low);
  content = (refl, ([], [], refl, (All-nil IsSnapshot, refl)));
}

one_length : (byte : ℕ) → length (entries_bytes (Simple (byte ∷ []) ∷ [])) ≡ 5
one_length byte = omega (arith, ap length (append-nil (entry_bytes (Simple (byte ∷ [])))), length-append (u32_bytes 1) (byte ∷ []), u32_length 1)

pub chunk_is : (epoch first id byte : ℕ) → epoch < 100 → first < 100 → id < 100 → IsChunk (chunk_of epoch first (item id byte))
chunk_is epoch first id byte small low little =
    let tag : Tag = record { name = p_name; id = id } in
    record {
      stamp_fits = zero_fits;
      epoch_fits = omega (arith, small);
      some = omega arith;
      few = omega arith;
      each = All-from_recursion IsEntry (Simple (byte ∷ []) ∷ []) (omega arith, tt);
      recorded = All-from_recursion HasRecords (Simple (byte ∷ []) ∷ []) (omega arith, tt);
      payload = omega (arith, one_length byte);
      last = omega (arith, low);
      content = inr (
        tag ∷ [],
        record {
          right = ((p_name, All-from_recursion (IsTagOf p_name) (tag ∷ []) ((refl, ((omega arith, omega arith), omega (arith, little))), tt)), omega arith);
          whole = refl;
          spelled = sym (append-nil (tag_bytes tag));
        },
      );
    }

-- ---- streams along the run

abbrev one : Chunk
one = chunk_of 1 1 (item 1 97)

abbrev pub was : List Confirmed
was = record { name = Some p_name; items = item 1 97 ∷ [] } ∷ []

abbrev both : List Frame → List Declaration
both frames = prepared ∷ seven frames ∷ []

abbrev waiting_one : List Frame
waiting_one = one_frame (item 1 97 ∷ []) true ∷ []

abbrev answered_one : List Frame
answered_one = one_frame (item 1 97 ∷ []) false ∷ []

abbrev pub s0 : Stream
s0 = stream_of [] [] [] []

abbrev pub s1 : Stream
s1 = stream_of (opening ∷ []) [] [] []

abbrev s2 : Stream
s2 = stream_of (opening ∷ []) (prepared ∷ []) [] []

abbrev pub s3 : Stream
s3 = stream_of (opening ∷ []) (both []) [] []

abbrev pub s4 : Stream
s4 = stream_of (opening ∷ []) (both waiting_one) [] []

abbrev pub s5 : Stream
s5 = stream_of (opening ∷ one ∷ []) (both waiting_one) [] []

abbrev pub s6 : Stream
s6 = stream_of (opening ∷ one ∷ []) (both answered_one) [] was

abbrev pub s7 : Stream
s7 = stream_of (opening ∷ one ∷ []) (both answered_one) (reader active 0 1 [] ∷ []) was

abbrev pub s8 : Stream
s8 = stream_of (opening ∷ one ∷ []) (both answered_one) (with_delivery (reader active 0 1 []) one ∷ []) was

abbrev s9 : Stream
s9 = forgotten s8

abbrev s10 : Stream
s10 = without 1 s9

abbrev later : Chunk
later = record opening { epoch = 3; first = 2 }

abbrev s11 : Stream
s11 = record s10 { chunks = opening ∷ one ∷ later ∷ []; seen = opening ∷ one ∷ later ∷ [] }

-- ---- a stream is made

pub create_step : MachineStep empty_machine (read (script.Create s_name)) (record empty_machine { doing = making s_name })
create_step = record {
  moves = nowhere;
  after = record empty_machine { doing = making s_name };
  does = record { quiet = record { connections = λ n. tt; made = λ name e. cc }; reads = (refl, refl) };
  streams = λ n. refl;
  connections = λ n. refl;
  last = refl;
  unsure = refl;
  doing = refl;
  moment = refl;
}

pub made_step : MachineStep (record empty_machine { doing = making s_name }) made (machine_of s0 no_connection idle)
made_step = record {
  moves = begun 0 None (Some s_name ∷ []);
  after = record empty_machine { last = 1 };
  does = record { name = s_name; is_making = refl; is_new = ((λ number is. absurd (dead is.0)), tt, tt); moves_are = refl; after_is = refl };
  streams = λ n. begins_at (n == 1);
  connections = λ n. no_link (n == 1);
  last = refl;
  unsure = refl;
  doing = refl;
  moment = refl;
}
  where
    dead : no_stream.life ≡ live → ⊥
    dead e = cc

    begins_at : (b : Bool) → StreamRun no_stream (cond b (Rattle.list_machine.specs.Moves.begins (Some s_name) None ∷ []) []) (cond b s0 no_stream)
    begins_at true = (s0, record { is_unmade = refl; name = s_name; text_is = refl; is_name = (omega arith, omega arith); is = refl }, refl)
    begins_at false = refl

    no_link : (b : Bool) → cond b no_connection no_connection ≡ no_connection
    no_link true = refl
    no_link false = refl

open_commit : CommitStep s0 opening s1
open_commit = record { is_live = refl; is_chunk = opening_is 1 0 (omega arith) (omega arith); at_end = refl; epoch = omega arith; rows = tt; bare = λ counts. omega arith; stored = tt; is = refl }

-- ---- a declaration

prepare_step : MachineStep (machine_of s1 no_connection idle) (read (script.Prepare 1 s_name)) (machine_of s2 fresh idle)
prepare_step =
    linked_step s1 s2 no_connection fresh idle idle (read (script.Prepare 1 s_name)) (only 1 (declares 1 0 None ∷ []))
    (record { quiet = quiet_of s1 no_connection idle tt (λ name e. cc); reads = (refl, 1, (refl, refl), refl, refl) })
    (only_run s1 s2 (declares 1 0 None ∷ []) (s2, record { is_live = refl; is = refl }, refl))

undeclared_by : (s : Stream) (connection id : ℕ) → AllByRecursion (λ (d : Declaration). d.id ≡ id → ⊥) s.declarations → Declared s connection id → ⊥
undeclared_by s connection id all at = (all_back (λ (d : Declaration). d.id ≡ id → ⊥) at.before (at.declaration ∷ at.after) (subst (AllByRecursion (λ (d : Declaration). d.id ≡ id → ⊥)) at.declared all)).0 at.of_id

pub undeclared_of : (s : Stream) (k : Connection) (d : Doing) (connection id : ℕ) → AllByRecursion (λ (d : Declaration). d.id ≡ id → ⊥) s.declarations → IsUndeclared (machine_of s k d) connection id
undeclared_of s k d connection id all number = go (number == 1)
  where
    go : (b : Bool) → Declared (cond b s no_stream) connection id → ⊥
    go true = undeclared_by s connection id all
    go false = undeclared_by no_stream connection id tt

declare_step : MachineStep (machine_of s2 (connection_of (declares_seven ∷ []) []) idle) (handled 1 declares_seven (Some is_declared)) (machine_of s3 (connection_of [] (is_declared ∷ [])) idle)
declare_step =
    linked_step s2 s3 (connection_of (declares_seven ∷ []) []) (connection_of [] (is_declared ∷ [])) idle idle (handled 1 declares_seven (Some is_declared)) (only 1 (declares 1 7 (Some p_name) ∷ []))
    (record {
      is_open = refl;
      later = [];
      is_first = refl;
      outcome = acts 1 (declare 1 7 (Some p_name));
      handles = Served (says.Ok, refl, (1, (refl, refl), undeclared_of s2 (connection_of (declares_seven ∷ []) []) idle 1 7 ((λ e. absurd (omega (arith, e))), tt), refl));
      moves_are = refl;
      after_is = refl;
    })
    (only_run s2 s3 (declares 1 7 (Some p_name) ∷ []) (s3, record { is_live = refl; is = refl }, refl))

-- ---- a confirm

publish_step : MachineStep (machine_of s3 (connection_of (publishes_one ∷ []) []) idle) (handled 1 publishes_one None) (machine_of s4 fresh idle)
publish_step =
    linked_step s3 s4 (connection_of (publishes_one ∷ []) []) fresh idle idle (handled 1 publishes_one None) (only 1 (publishes 1 7 (item 1 97 ∷ []) ∷ []))
    (record { is_open = refl; later = []; is_first = refl; outcome = acts 1 (publish 1 7 (item 1 97 ∷ [])); handles = Served (Taken 1 (omega arith) refl refl); moves_are = refl; after_is = refl })
    (only_run s3 s4 (publishes 1 7 (item 1 97 ∷ []) ∷ []) (
      s4,
      record {
        is_live = refl;
        has_items = omega arith;
        at = record { before = prepared ∷ []; declaration = seven []; after = []; declared = refl; stands = refl; of_connection = refl; of_id = refl };
        is = refl;
      },
      refl,
    ))

pub one_commit : CommitStep s4 one s5
unfolding u8_bytes u64_bytes
one_commit = record {
  is_live = refl;
  is_chunk = chunk_is 1 1 1 97 (omega arith) (omega arith) (omega arith);
  at_end = refl;
  epoch = omega arith;
  rows = ((tt, inr (inl (record { name = refl; earlier = []; later = []; items = refl; passed = tt }))), tt);
  bare = λ counts. omega arith;
  stored = tt;
  is = refl;
}

pub confirm_step : MachineStep (machine_of s5 fresh idle) (sent 1 confirms_one) (machine_of s6 fresh idle)
unfolding u8_bytes u64_bytes
confirm_step =
    same_step s5 s6 fresh idle idle (sent 1 confirms_one) (only 1 (confirms 1 7 (Some p_name) (item 1 97 ∷ []) ∷ [])) (Unasked refl (Confirms 1 7 (Some p_name) (item 1 97 ∷ []) refl refl refl))
    (only_run s5 s6 (confirms 1 7 (Some p_name) (item 1 97 ∷ []) ∷ []) (
      s6,
      record {
        is_live = refl;
        at = record { before = prepared ∷ []; declaration = seven waiting_one; after = []; declared = refl; stands = refl; of_connection = refl; of_id = refl };
        named = refl;
        waiting = record { before = []; after = []; frames = refl };
        may = (inl (omega arith), tt);
        is = refl;
      },
      refl,
    ))

-- ---- a delivery

subscribe_step : MachineStep (machine_of s6 (connection_of (subscribes_three ∷ []) []) idle) (handled 1 subscribes_three (Some is_subscribed)) (machine_of s7 (connection_of [] (is_subscribed ∷ [])) idle)
subscribe_step =
    linked_step s6 s7 (connection_of (subscribes_three ∷ []) []) (connection_of [] (is_subscribed ∷ [])) idle idle (handled 1 subscribes_three (Some is_subscribed))
    (only 1 (subscribes 1 3 None Rattle.command_fields.specs.declared.offset.OffsetSpec.TheVariants.First 1 ∷ []))
    (record {
      is_open = refl;
      later = [];
      is_first = refl;
      outcome = acts 1 (subscribe 1 3 None Rattle.command_fields.specs.declared.offset.OffsetSpec.TheVariants.First 1);
      handles = Served (says.Ok, refl, (1, (refl, refl), (λ number. nobody (number == 1)), refl));
      moves_are = refl;
      after_is = refl;
    })
    (only_run s6 s7 _ (s7, record { is_live = refl; is_new = tt; is = refl }, refl))
  where
    nobody : (b : Bool) → AllByRecursion (λ (s : Subscription). s.connection ≡ 1 → s.id ≡ 3 → ⊥) (cond b s6 no_stream).subscriptions
    nobody true = tt
    nobody false = tt

deliver_step : MachineStep (machine_of s7 fresh idle) (sent 1 (delivery one)) (machine_of s8 fresh idle)
deliver_step =
    same_step s7 s8 fresh idle idle (sent 1 (delivery one)) (only 1 (delivers 1 3 one ∷ [])) (Unasked refl (Delivers 1 3 one None refl refl refl refl))
    (only_run s7 s8 (delivers 1 3 one ∷ []) (
      s8,
      record {
        is_live = refl;
        at = record { before = []; subscription = reader active 0 1 []; after = []; subscribed = refl; of_connection = refl; of_id = refl };
        is_active = refl;
        has_credit = omega arith;
        is_next = refl;
        is = refl;
      },
      refl,
    ))

-- ---- all stops

pub stop_step : (s : Stream) → MachineStep (machine_of s fresh idle) (read (script.Stop 1 2 0 0)) (machine_of s fresh idle)
stop_step s = same_step s s fresh idle idle (read (script.Stop 1 2 0 0)) nowhere (record { quiet = fresh_quiet s; reads = (refl, refl) }) (λ n. refl)

pub down_step : (s : Stream) → MachineStep (machine_of s fresh idle) (told (output.Down 1 2)) (machine_of s fresh idle)
down_step s = same_step s s fresh idle idle (told (output.Down 1 2)) nowhere (tt, refl, refl) (λ n. refl)

abbrev pub closing : Connection
closing = record fresh { phase = leaving PeerEnded }

abbrev pub over : Connection
over = record closing { phase = gone }

forget_step : MachineStep (machine_of s8 fresh idle) (read (script.StopAll 0 0)) (machine_of s9 closing reopening)
forget_step = record {
  moves = everywhere (forgets ∷ []);
  after = record (machine_of s8 fresh idle) { connections = λ (n : ℕ). Rattle.list_machine.specs.Lines.left ((machine_of s8 fresh idle).connections n); doing = reopening };
  does = record { quiet = fresh_quiet s8; reads = (refl, refl) };
  streams = all_run s8 s9 (forgets ∷ []) (s9, refl, refl) (no_stream, refl, refl);
  connections = λ n. left_at (n == 1);
  last = refl;
  unsure = refl;
  doing = refl;
  moment = refl;
}
  where
    left_at : (b : Bool) → cond b closing no_connection ≡ Rattle.list_machine.specs.Lines.left (cond b fresh no_connection)
    left_at true = refl
    left_at false = refl

bye_step : MachineStep (machine_of s9 closing reopening) (ended 1 PeerEnded) (machine_of s10 over reopening)
bye_step =
    linked_step s9 s10 closing over reopening reopening (ended 1 PeerEnded) (everywhere (leaves 1 ∷ [])) (record { may = inl refl; all_written = refl; moves_are = refl; after_is = refl })
    (all_run s9 s10 (leaves 1 ∷ []) (s10, refl, refl) (no_stream, refl, refl))

up_step : MachineStep (machine_of s10 over reopening) (told (output.Up 1 2 2 2)) (machine_of s10 over reopening)
up_step = same_step s10 s10 over reopening reopening (told (output.Up 1 2 2 2)) nowhere (tt, refl, refl) (λ n. refl)

settle_again : MachineStep (machine_of s10 over reopening) (read (script.Settle 1)) (machine_of s10 over idle)
settle_again = same_step s10 s10 over reopening idle (read (script.Settle 1)) nowhere (record { quiet = quiet_of s10 over reopening tt (λ name e. cc); reads = (refl, refl) }) (λ n. refl)

later_commit : CommitStep s10 later s11
unfolding u8_bytes u64_bytes
later_commit = record { is_live = refl; is_chunk = opening_is 3 2 (omega arith) (omega arith); at_end = refl; epoch = omega arith; rows = tt; bare = λ counts. omega arith; stored = tt; is = refl }

-- ---- the run

pub made_run : MachineRun empty_machine a_stream_made (machine_of s1 no_connection idle)
made_run = (_, create_step, (_, made_step, (_, commit_step s0 s1 no_connection opening open_commit, refl)))

pub is_declare : IsCommand command_table declares_seven
is_declare = (tt, (omega arith, (omega arith, (omega arith, omega arith))))

is_publish : IsCommand command_table publishes_one
is_publish = (tt, (omega arith, (omega arith, ((omega arith, omega arith), tt))))

is_subscribe : IsCommand command_table subscribes_three
is_subscribe = (tt, (omega arith, (omega arith, (omega arith, (tt, (omega arith, tt))))))

pub short_declare : length (body_of command_table declares_seven) ≤ frame_max
unfolding u8_bytes u16_bytes u32_bytes u64_bytes
short_declare = omega arith

short_publish : length (body_of command_table publishes_one) ≤ frame_max
unfolding u8_bytes u16_bytes u32_bytes u64_bytes
short_publish = omega arith

short_subscribe : length (body_of command_table subscribes_three) ≤ frame_max
unfolding u8_bytes u16_bytes u32_bytes u64_bytes
short_subscribe = omega arith

pub declared_run : MachineRun (machine_of s1 no_connection idle) a_declaration (machine_of s3 fresh idle)
declared_run = (_, prepare_step, (_, give_step s2 declares_seven is_declare short_declare, (_, declare_step, (_, owed_step s3 is_declared, refl))))

confirmed_run : MachineRun (machine_of s3 fresh idle) a_confirm (machine_of s6 fresh idle)
confirmed_run =
    (_, give_step s3 publishes_one is_publish short_publish, (_, publish_step, (_, settle_step s4, (_, commit_step s4 s5 fresh one one_commit, (_, poll_step s5, (_, confirm_step, refl))))))

delivered_run : MachineRun (machine_of s6 fresh idle) a_delivery (machine_of s8 fresh idle)
delivered_run =
    (_, give_step s6 subscribes_three is_subscribe short_subscribe, (_, subscribe_step, (_, owed_step s7 is_subscribed, (_, poll_step s7, (_, deliver_step, refl)))))

stopped_run : MachineRun (machine_of s8 fresh idle) a_stop (machine_of s11 over idle)
stopped_run = (_, stop_step s8, (_, down_step s8, (_, forget_step, (_, bye_step, (_, up_step, (_, settle_again, (_, commit_step s10 s11 over later later_commit, refl)))))))

pub run_on : (events more : List Event) (old mid new : Machine) → MachineRun old events mid → MachineRun mid more new → MachineRun old (events ++ more) new
run_on [] more old mid new r q = subst (λ (m : Machine). MachineRun m more new) r q
run_on (event ∷ events) more old mid new r q = (r.0, r.1, run_on events more r.0 mid new r.2 q)

pub worked : MachineRun empty_machine the_worked_run (machine_of s11 over idle)
worked =
    run_on a_stream_made (a_declaration ++ (a_confirm ++ (a_delivery ++ a_stop))) empty_machine (machine_of s1 no_connection idle) (machine_of s11 over idle) made_run
    (run_on a_declaration (a_confirm ++ (a_delivery ++ a_stop)) (machine_of s1 no_connection idle) (machine_of s3 fresh idle) (machine_of s11 over idle) declared_run
    (run_on a_confirm (a_delivery ++ a_stop) (machine_of s3 fresh idle) (machine_of s6 fresh idle) (machine_of s11 over idle) confirmed_run
    (run_on a_delivery a_stop (machine_of s6 fresh idle) (machine_of s8 fresh idle) (machine_of s11 over idle) delivered_run stopped_run)))

-- ---- a frame too large

pub connect_step : (s : Stream) → MachineStep (machine_of s no_connection idle) (read (script.Connect 1)) (machine_of s fresh idle)
connect_step s =
    linked_step s s no_connection fresh idle idle (read (script.Connect 1)) nowhere (record { quiet = quiet_of s no_connection idle tt (λ name e. cc); reads = (refl, refl, refl) }) (λ n. refl)

abbrev stuck : Connection
stuck = record fresh { rest = large_size; cut = TooLarge 1048577 }

abbrev told_large : Connection
told_large = record stuck { phase = leaving (ClosedByUs 0x0e); owed = closes_large ∷ [] }

abbrev closed_large : Connection
closed_large = record told_large { owed = [] }

large_reading : Reading frame_max large_size [] large_size (TooLarge 1048577)
unfolding u32_bytes
large_reading = record { bodies = []; framed = record { whole = refl; each = All-nil (IsBody frame_max); large = record { whole = omega arith; is_size = refl; above = omega arith } }; spelled = tt }

large_step : MachineStep (machine_of s1 fresh idle) (read (script.Give 1 large_size)) (machine_of s1 stuck idle)
large_step =
    linked_step s1 s1 fresh stuck idle idle (read (script.Give 1 large_size)) nowhere
    (record { quiet = fresh_quiet s1; reads = (stuck, ([], large_size, TooLarge 1048577, large_reading, refl), refl, refl) }) (λ n. refl)

misread_step : MachineStep (machine_of s1 stuck idle) (misread 1 closes_large) (machine_of s1 told_large idle)
misread_step =
    linked_step s1 s1 stuck told_large idle idle (misread 1 closes_large) nowhere
    (record { is_open = refl; is_last = refl; code = says.FrameTooLarge; misread = refl; answer_is = (Some (codes "frame too large"), refl); moves_are = refl; after_is = refl }) (λ n. refl)

close_step : MachineStep (machine_of s1 told_large idle) (sent 1 closes_large) (machine_of s1 closed_large idle)
close_step = linked_step s1 s1 told_large closed_large idle idle (sent 1 closes_large) nowhere (Owed [] refl refl refl) (λ n. refl)

closed_step : MachineStep (machine_of s1 closed_large idle) (ended 1 (ClosedByUs 0x0e)) (machine_of s1 (record closed_large { phase = gone }) idle)
closed_step =
    linked_step s1 s1 closed_large (record closed_large { phase = gone }) idle idle (ended 1 (ClosedByUs 0x0e)) (everywhere (leaves 1 ∷ [])) (record { may = inl refl; all_written = refl; moves_are = refl; after_is = refl })
    (all_run s1 s1 (leaves 1 ∷ []) (s1, refl, refl) (no_stream, refl, refl))

pub large : MachineRun empty_machine (a_stream_made ++ a_frame_too_large) (machine_of s1 (record closed_large { phase = gone }) idle)
large =
    run_on a_stream_made a_frame_too_large empty_machine (machine_of s1 no_connection idle) (machine_of s1 (record closed_large { phase = gone }) idle) made_run
    (_, connect_step s1, (_, large_step, (_, misread_step, (_, close_step, (_, closed_step, refl)))))

-- ---- a change in doubt

abbrev t_name : List ℕ
t_name = codes "t"

abbrev u_name : List ℕ
u_name = codes "u"

abbrev in_doubt : List Change
in_doubt = adds None (Some t_name ∷ []) ∷ []

-- the machine with these changes in doubt
abbrev doubting : Doing → List Change → Machine
doubting doing changes = record (machine_of s1 no_connection doing) { unsure = changes }

quiet_doubting : (changes : List Change) → IsQuiet (doubting idle changes)
quiet_doubting changes = record { connections = λ n. go (n == 1); made = λ name e. cc }
  where
    go : (b : Bool) → IsAnswered (cond b no_connection no_connection).phase (cond b no_connection no_connection)
    go true = tt
    go false = tt

doubting_step : (d e : Doing) (c c' : List Change) (event : Event) → Does (doubting d c) event nowhere (record (doubting d c) { doing = e; unsure = c' }) → MachineStep (doubting d c) event (doubting e c')
doubting_step d e c c' event does = record {
  moves = nowhere;
  after = record (doubting d c) { doing = e; unsure = c' };
  does = does;
  streams = λ n. refl;
  connections = λ n. refl;
  last = refl;
  unsure = refl;
  doing = refl;
  moment = refl;
}

naming_step : (name : List ℕ) (c : List Change) → MachineStep (doubting idle c) (read (script.Create name)) (doubting (making name) c)
naming_step name c = doubting_step idle (making name) c c (read (script.Create name)) (record { quiet = quiet_doubting c; reads = (refl, refl) })

taken_step : MachineStep (doubting (making s_name) []) (refused says.StreamAlreadyExists) (doubting idle [])
taken_step = doubting_step (making s_name) idle [] [] (refused says.StreamAlreadyExists) (record { name = s_name; is_making = refl; is_fault = λ e. cc; moves_are = refl; after_is = refl })

doubt_step : MachineStep (doubting (making t_name) []) (refused says.InternalError) (doubting idle in_doubt)
doubt_step = doubting_step (making t_name) idle [] in_doubt (refused says.InternalError) (record { name = t_name; is_making = refl; is_fault = λ e. cc; moves_are = refl; after_is = refl })

abbrev named : List ℕ → Stream
named name = record s0 { name = name }

abbrev with_t : Machine
with_t = record (doubting (making u_name) []) { streams = put 2 (named t_name) (doubting (making u_name) []).streams; last = 2 }

abbrev with_u : Machine
with_u = record with_t { streams = put 3 (named u_name) with_t.streams; last = 3; doing = idle }

dead : no_stream.life ≡ live → ⊥
dead e = cc

-- a name of another letter is no name of the stream
is_other_name : (a b : ℕ) → (a ≡ b → ⊥) → ◌≡◌ {A = Option (List ℕ)} (Some (a ∷ [])) (Some (b ∷ [])) → ⊥
is_other_name a b other e = let same : a ≡ b = cc in other same

begins_named : (name : List ℕ) → 1 ≤ length name → length name ≤ 255 → StreamRun no_stream (begins (Some name) None ∷ []) (named name)
begins_named name some few = (named name, record { is_unmade = refl; name = name; text_is = refl; is_name = (some, few); is = refl }, refl)

t_is_new : IsMissing (doubting (making u_name) in_doubt) (Some t_name)
t_is_new number is = go (number == 1) is
  where
    go : (b : Bool) → ((cond b s1 no_stream).life ≡ live) × (Some t_name ≡ Some (cond b s1 no_stream).name) → ⊥
    go true is = is_other_name 116 115 (λ e. absurd (omega (arith, e))) is.1
    go false is = dead is.0

found_step : MachineStep (doubting (making u_name) in_doubt) (found (adds None (Some t_name ∷ []))) with_t
found_step = record {
  moves = begun 1 None (Some t_name ∷ []);
  after = record (doubting (making u_name) in_doubt) { last = 2; unsure = [] };
  does = record {
    is_changing = inr (inl (u_name, refl));
    is_possible = (t_is_new, tt, tt);
    before = [];
    behind = [];
    was_unsure = refl;
    moves_are = refl;
    after_is = refl;
  };
  streams = λ n. go n (n == 2) refl;
  connections = λ n. refl;
  last = refl;
  unsure = refl;
  doing = refl;
  moment = refl;
}
  where
    go : (n : ℕ) (b : Bool) → (n == 2) ≡ b → StreamRun (cond (n == 1) s1 no_stream) (cond b (begins (Some t_name) None ∷ []) []) (cond b (named t_name) (cond (n == 1) s1 no_stream))
    go n true e = subst (λ (m : ℕ). StreamRun (cond (m == 1) s1 no_stream) (begins (Some t_name) None ∷ []) (named t_name)) (sym (eqb-true n 2 e)) (begins_named t_name (omega arith) (omega arith))
    go n false e = refl

u_is_new : IsMissing with_t (Some u_name)
u_is_new number is = go (number == 2) (number == 1) is
  where
    go : (a b : Bool) → ((cond a (named t_name) (cond b s1 no_stream)).life ≡ live) × (Some u_name ≡ Some (cond a (named t_name) (cond b s1 no_stream)).name) → ⊥
    go true b is = is_other_name 117 116 (λ e. absurd (omega (arith, e))) is.1
    go false true is = is_other_name 117 115 (λ e. absurd (omega (arith, e))) is.1
    go false false is = dead is.0

made_again : MachineStep with_t made with_u
made_again = record {
  moves = begun 2 None (Some u_name ∷ []);
  after = record with_t { last = 3; unsure = []; doing = idle };
  does = record { name = u_name; is_making = refl; is_new = (u_is_new, tt, tt); moves_are = refl; after_is = refl };
  streams = λ n. go n (n == 3) refl;
  connections = λ n. refl;
  last = refl;
  unsure = refl;
  doing = refl;
  moment = refl;
}
  where
    go : (n : ℕ) (b : Bool) → (n == 3) ≡ b → StreamRun (with_t.streams n) (cond b (begins (Some u_name) None ∷ []) []) (cond b (named u_name) (with_t.streams n))
    go n true e = subst (λ (m : ℕ). StreamRun (with_t.streams m) (begins (Some u_name) None ∷ []) (named u_name)) (sym (eqb-true n 3 e)) (begins_named u_name (omega arith) (omega arith))
    go n false e = refl

pub doubted : MachineRun empty_machine (a_stream_made ++ a_change_in_doubt) with_u
doubted =
    run_on a_stream_made a_change_in_doubt empty_machine (machine_of s1 no_connection idle) with_u made_run
    (_, naming_step s_name [], (_, taken_step, (_, naming_step t_name [], (_, doubt_step, (_, naming_step u_name in_doubt, (_, found_step, (_, made_again, refl)))))))
