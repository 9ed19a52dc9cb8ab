-- What the list machine runs of events that are written out, and what it refuses.
use Rattle.std.proofs.Common.{◌≡◌, ℕ, ◌^◌, ◌<◌, ◌≤◌, Bool, true, false, cond, List, [], ◌∷◌, ◌++◌, length, map, codes, Some, None, refl, sym, ap, subst, ◌∙◌, length-append, arith, inl, inr}
use Rattle.std.specs.Prelude.{◌==◌}
use Rattle.std.proofs.lemmas.Bool.{eqb-true}
use Rattle.std.proofs.lemmas.List.{append-nil}
use Rattle.std.proofs.lemmas.List.Elements.{All-from_recursion}
use Rattle.frame_wire.specs.Fields.{u8_bytes, u16_bytes, u32_bytes, text_bytes}
use Rattle.frame_wire.specs.Frames.{frame, IsBody}
use Rattle.frame_wire.proofs.FieldLaws.{same_front, u8_length, u16_length, u32_length}
use Rattle.chunk_format.specs.declared.entry.Entry.{Entry}
use Rattle.chunk_format.specs.declared.entry.Entry.TheVariants.{Simple}
use Rattle.chunk_format.specs.declared.chunk.Chunk.{Chunk}
use Rattle.chunk_format.specs.Chunks.{entry_bytes, entries_bytes, chunk_bytes, IsChunk}
use Rattle.chunk_format.proofs.ChunkOnly.{same_chunk}
use Rattle.command_fields.specs.Tables.{IsCommand, body_of}
use Rattle.command_fields.proofs.TableLaws.{table_apart}
use Rattle.command_data.specs.declared.item.Tagged.{Tagged}
use Rattle.command_data.specs.declared.command.DataCommand.{DataCommand}
use Rattle.command_data.specs.declared.command.DataCommand.TheVariants.{DeclarePublisher, Publish, PublishConfirm, PublishError, QueryPublisherSequence, SequenceAnswer, DeletePublisher, Subscribe, Deliver, Deliver2, Credit, CreditFault, StoreOffset, QueryOffset, OffsetAnswer, Unsubscribe, Plain}
use Rattle.command_data.specs.Commands.{data_table, DataSpells}
use Rattle.command_data.proofs.DataLaws.{data_lawful}
use Rattle.frame_commands.specs.Given.{CommandsOf}
use Rattle.script_text.specs.declared.script.ScriptLine.TheVariants.{Create, Prepare, Poll, Settle}
use Rattle.replay_node.specs.Commands.{frame_max}
use Rattle.replay_node.specs.NodeState.{end_of_list, opening, user_chunk}
use Rattle.replay_node.specs.Machine.{StreamState, PublisherState, ConnectionState, Machine, empty_machine, find, put, Counted, last_epoch}
use Rattle.replay_node.specs.MachineSteps.{prepared, Handles, Answers, AnswerStep, CommitStep, ConfirmStep, Event, read, handled, MachineStep, MachineRun}
use Rattle.replay_node.specs.Shown.{stream_with, publisher_with}
use Rattle.replay_node.specs.Examples.{HasRun, HasNoRun, entry_a, entry_b, message_a, commits, gives, sends, publishes, confirms, declares_seven, a_stream_made, a_message_given, a_chunk_committed, the_worked_run, a_declaration, a_message_committed, a_declaration_and_its_confirm, a_refused_message, a_chunk_out_of_place, a_chunk_twice, a_confirm_before_its_commit, a_confirm_of_no_publish, a_confirm_twice, a_confirm_of_no_entry, refused_and_committed, a_confirm_of_an_undeclared_publisher}
use Rattle.replay_node.proofs.Laying.{opening_is_chunk, piece_is_chunk}
use Rattle.replay_node.proofs.Commanding.{InFrame, one_reading, publish_length}
use Rattle.replay_node.proofs.GiveRuns.{with_stream, link_with}

-- ---- machines with one stream, and with connection 1

abbrev linked : List Chunk → List Entry → List DataCommand → List PublisherState → Machine
linked ch confirmed inbox publishers = with_stream (codes "s") ch confirmed ((1, link_with [] inbox publishers) ∷ [])

-- a run from a machine is one from the same machine
from : (old same : Machine) (events : List Event) (new : Machine) → old ≡ same → MachineRun old events new → MachineRun same events new
from old same events new e run = subst (λ (m : Machine). MachineRun m events new) e run

-- ---- lists of one

alone : {X : Type 0} (x y : X) (before after : List X) → x ∷ [] ≡ before ++ y ∷ after → (before ≡ []) × (x ≡ y) × (after ≡ [])
alone x y [] after e = (refl, cc, cc)
alone x y (b ∷ []) after e = absurd cc
alone x y (b ∷ c ∷ before) after e = absurd cc

not_empty : {X : Type 0} (y : X) (before after : List X) → [] ≡ before ++ y ∷ after → ⊥
not_empty y [] after e = cc
not_empty y (b ∷ before) after e = cc

if_some : {X : Type 0} (b : Bool) (x y : X) → cond b (Some x) None ≡ Some y → b ≡ true
if_some true x y e = refl
if_some false x y e = absurd cc

-- ---- frames

-- two frames with one spelling have one body
one_body : (a b : List ℕ) → frame a ≡ frame b → a ≡ b
one_body a b e = (same_front (u32_bytes (length a)) (u32_bytes (length b)) a b (u32_length (length a) ∙ sym (u32_length (length b))) e).1

one_command : (command : DataCommand) → InFrame command → CommandsOf frame_max (frame (body_of data_table command)) (command ∷ []) []
one_command command fits =
    let body : List ℕ = body_of data_table command in
    record {
      bodies = body ∷ [];
      framed = record {
        whole = sym (append-nil (frame body ++ []) ∙ append-nil (frame body));
        each = All-from_recursion (IsBody frame_max) (body ∷ []) (fits.1, tt);
        partial = inl (omega arith);
      };
      spelled = (record { is_command = fits.0; spelled = refl }, tt);
    }

-- ---- each event leads to one machine

after_create : (name : List ℕ) (events : List Event) (new : Machine) → MachineRun empty_machine (read (Create name) ∷ events) new → MachineRun (with_stream name [] [] []) events new
after_create name events new run = from run.0 (with_stream name [] [] []) events new run.1.1 run.2

after_prepare : (ch : List Chunk) (confirmed : List Entry) (events : List Event) (new : Machine) → MachineRun (with_stream (codes "s") ch confirmed []) (read (Prepare 1 (codes "s")) ∷ events) new
    → MachineRun (linked ch confirmed [] (publisher_with 0 [] ∷ [])) events new
after_prepare ch confirmed events new run =
    let step = run.1 in
    let number : step.1 ≡ 1 = eqb-true step.1 1 (if_some (step.1 == 1) (stream_with (codes "s") ch confirmed) step.2 step.3) in
    let is : run.0 ≡ linked ch confirmed [] (publisher_with 0 [] ∷ []) = step.5 ∙ ap (λ (n : ℕ). with_stream (codes "s") ch confirmed ((1, prepared n) ∷ [])) number in
    from run.0 (linked ch confirmed [] (publisher_with 0 [] ∷ [])) events new is run.2

-- the machine after a commit, by the parts of the step
abbrev committed_to : List (ℕ × ConnectionState) → StreamState → Chunk → Machine
committed_to connections s c = record { last = 1; streams = (1, record s { chunks = s.chunks ++ c ∷ []; seen = s.chunks ++ c ∷ [] }) ∷ []; connections = connections }

after_commit : (name : List ℕ) (ch : List Chunk) (confirmed : List Entry) (connections : List (ℕ × ConnectionState)) (c : Chunk) (events : List Event) (new : Machine) → IsChunk c
    → MachineRun (with_stream name ch confirmed connections) (commits c ∷ events) new
    → (c.first ≡ end_of_list ch) × MachineRun (with_stream name (ch ++ c ∷ []) confirmed connections) events new
after_commit name ch confirmed connections c events new fits run =
    let step = run.1 in
    let live = step.is_live in
    let state : step.state ≡ stream_with name ch confirmed = cc in
    let chunk : step.chunk ≡ c = sym (same_chunk c step.chunk fits step.spells.is_chunk step.spells.spelled) in
    let first : c.first ≡ end_of_list ch = ap (λ (k : Chunk). k.first) (sym chunk) ∙ step.at_end ∙ ap (λ (s : StreamState). end_of_list s.chunks) state in
    let is : run.0 ≡ with_stream name (ch ++ c ∷ []) confirmed connections = step.is
    ∙ ap (λ (s : StreamState). committed_to connections s step.chunk) state ∙ ap (committed_to connections (stream_with name ch confirmed)) chunk in
    (first, from run.0 (with_stream name (ch ++ c ∷ []) confirmed connections) events new is run.2)

after_give : (ch : List Chunk) (confirmed : List Entry) (publishers : List PublisherState) (command : DataCommand) (events : List Event) (new : Machine) → InFrame command
    → MachineRun (linked ch confirmed [] publishers) (gives command ∷ events) new → MachineRun (linked ch confirmed (command ∷ []) publishers) events new
after_give ch confirmed publishers command events new fits run =
    let step = run.1 in
    let there = step.is_there in
    let state : step.state ≡ link_with [] [] publishers = cc in
    let body : List ℕ = body_of data_table command in
    let reads : CommandsOf frame_max (frame body) step.commands step.rest = subst (λ (s : ConnectionState). CommandsOf frame_max (s.rest ++ frame body) step.commands step.rest) state step.reads in
    let one = one_reading (frame body) step.commands (command ∷ []) step.rest [] reads (one_command command fits) in
    let is : run.0 ≡ linked ch confirmed (command ∷ []) publishers = step.is
    ∙ ap (λ (s : ConnectionState). with_stream (codes "s") ch confirmed ((1, record s { rest = step.rest; inbox = s.inbox ++ step.commands }) ∷ [])) state
    ∙ ap (λ (l : List DataCommand). with_stream (codes "s") ch confirmed ((1, link_with step.rest l publishers) ∷ [])) one.0
    ∙ ap (λ (r : List ℕ). with_stream (codes "s") ch confirmed ((1, link_with r (command ∷ []) publishers) ∷ [])) one.1 in
    from run.0 (linked ch confirmed (command ∷ []) publishers) events new is run.2

one_handled : (frames : List (List Tagged)) (m : Tagged) (new : List PublisherState) → Handles (publisher_with 0 frames ∷ []) (Publish 0 (m ∷ [])) new → new ≡ publisher_with 0 (frames ++ (m ∷ []) ∷ []) ∷ []
one_handled frames m new (before, publisher, after, parts, id, is) =
    let one = alone (publisher_with 0 frames) publisher before after parts in
    is
    ∙ ap (λ (l : List PublisherState). l ++ record publisher { unanswered = publisher.unanswered ++ (m ∷ []) ∷ [] } ∷ after) one.0
    ∙ ap (λ (p : PublisherState). record p { unanswered = p.unanswered ++ (m ∷ []) ∷ [] } ∷ after) (sym one.1)
    ∙ ap (λ (l : List PublisherState). publisher_with 0 (frames ++ (m ∷ []) ∷ []) ∷ l) one.2

after_handled : (ch : List Chunk) (confirmed : List Entry) (frames : List (List Tagged)) (m : Tagged) (events : List Event) (new : Machine)
    → MachineRun (linked ch confirmed (Publish 0 (m ∷ []) ∷ []) (publisher_with 0 frames ∷ [])) (handled 1 ∷ events) new → MachineRun (linked ch confirmed [] (publisher_with 0 (frames ++ (m ∷ []) ∷ []) ∷ [])) events new
after_handled ch confirmed frames m events new run =
    let step = run.1 in
    let there = step.is_there in
    let state : step.state ≡ link_with [] (Publish 0 (m ∷ []) ∷ []) (publisher_with 0 frames ∷ []) = cc in
    let first : Publish 0 (m ∷ []) ∷ [] ≡ step.command ∷ step.later = ap (λ (s : ConnectionState). s.inbox) (sym state) ∙ step.first in
    let command : step.command ≡ Publish 0 (m ∷ []) = cc in
    let later : step.later ≡ [] = cc in
    let handles : Handles (publisher_with 0 frames ∷ []) (Publish 0 (m ∷ [])) step.publishers =
    subst (λ (c : DataCommand). Handles (publisher_with 0 frames ∷ []) c step.publishers) command (subst (λ (s : ConnectionState). Handles s.publishers step.command step.publishers) state step.handles) in
    let is : run.0 ≡ linked ch confirmed [] (publisher_with 0 (frames ++ (m ∷ []) ∷ []) ∷ []) = step.is
    ∙ ap (λ (s : ConnectionState). with_stream (codes "s") ch confirmed ((1, record s { inbox = step.later; publishers = step.publishers }) ∷ [])) state
    ∙ ap (λ (l : List DataCommand). linked ch confirmed l step.publishers) later
    ∙ ap (linked ch confirmed []) (one_handled frames m step.publishers handles) in
    from run.0 (linked ch confirmed [] (publisher_with 0 (frames ++ (m ∷ []) ∷ []) ∷ [])) events new is run.2

-- ---- confirms

-- who is confirmed to
who : (frames : List (List Tagged)) (inbox : List DataCommand) (state : ConnectionState) (before : List PublisherState) (publisher : PublisherState) (after : List PublisherState) → Some (link_with [] inbox (publisher_with 0 frames ∷ [])) ≡ Some state
    → state.publishers ≡ before ++ publisher ∷ after → (before ≡ []) × (publisher_with 0 frames ≡ publisher) × (after ≡ [])
who frames inbox state before publisher after there declared =
    let same : link_with [] inbox (publisher_with 0 frames ∷ []) ≡ state = cc in
    alone (publisher_with 0 frames) publisher before after (ap (λ (s : ConnectionState). s.publishers) same ∙ declared)

-- where no frame is unanswered there is none to confirm
no_confirm : (ch : List Chunk) (confirmed : List Entry) (inbox : List DataCommand) (bytes : List ℕ) (new : Machine) → ConfirmStep (linked ch confirmed inbox (publisher_with 0 [] ∷ [])) 1 bytes new → ⊥
no_confirm ch confirmed inbox bytes new step =
    let is = who [] inbox step.state step.before step.publisher step.after step.is_there step.declared in
    not_empty step.items step.earlier step.later (ap (λ (p : PublisherState). p.unanswered) is.1 ∙ step.unanswered)

-- where no command waits there is none to answer
no_answer : (ch : List Chunk) (confirmed : List Entry) (publishers : List PublisherState) (bytes : List ℕ) (new : Machine) → AnswerStep (linked ch confirmed [] publishers) 1 bytes new → ⊥
no_answer ch confirmed publishers bytes new step =
    let there = step.is_there in
    let state : step.state ≡ link_with [] [] publishers = cc in
    let first : [] ≡ step.command ∷ step.later = ap (λ (s : ConnectionState). s.inbox) (sym state) ∙ step.first in
    cc

-- the one id that a frame confirms
same_confirm : (id other : ℕ) (body : List ℕ) → id < 2 ^ 64 → frame (body_of data_table (PublishConfirm 0 (id ∷ []))) ≡ frame body → DataSpells (PublishConfirm 0 (other ∷ [])) body → id ≡ other
same_confirm id other body id_fits framed spells =
    let mine : DataSpells (PublishConfirm 0 (id ∷ [])) body = record { is_command = (tt, (omega arith, (omega arith, (id_fits, tt)))); spelled = sym (one_body (body_of data_table (PublishConfirm 0 (id ∷ []))) body framed) } in
    let same : PublishConfirm 0 (id ∷ []) ≡ PublishConfirm 0 (other ∷ []) = table_apart data_table data_lawful (PublishConfirm 0 (id ∷ [])) (PublishConfirm 0 (other ∷ [])) body mine spells in
    cc

-- the machine after a confirm, by the parts of the step
abbrev confirmed_to : List Chunk → List Entry → ConnectionState → List PublisherState → PublisherState → List PublisherState → List (List Tagged) → List Tagged → List (List Tagged) → StreamState → Machine
confirmed_to ch confirmed state before publisher after earlier items later stream = record {
  last = 1;
  streams = put publisher.stream (record stream { confirmed = stream.confirmed ++ map (λ (item : Tagged). item.entry) items }) ((1, stream_with (codes "s") ch confirmed) ∷ []);
  connections = (1, record state { publishers = before ++ record publisher { unanswered = earlier ++ later } ∷ after }) ∷ [];
}

confirmed_one : (ch : List Chunk) (confirmed : List Entry) (m : Tagged) (id : ℕ) (events : List Event) (mid new : Machine) → id < 2 ^ 64
    → ConfirmStep (linked ch confirmed [] (publisher_with 0 ((m ∷ []) ∷ []) ∷ [])) 1 (frame (body_of data_table (PublishConfirm 0 (id ∷ [])))) mid → MachineRun mid events new
    → (id ≡ m.id) × Counted (stream_with (codes "s") ch (confirmed ++ m.entry ∷ [])) × MachineRun (linked ch (confirmed ++ m.entry ∷ []) [] (publisher_with 0 [] ∷ [])) events new
confirmed_one ch confirmed m id events mid new id_fits step run =
    let there = step.is_there in
    let frames : List (List Tagged) = (m ∷ []) ∷ [] in
    let held : ConnectionState = link_with [] [] (publisher_with 0 frames ∷ []) in
    let state : step.state ≡ held = cc in
    let is = who frames [] step.state step.before step.publisher step.after step.is_there step.declared in
    let publisher = sym is.1 in
    let parts = alone (m ∷ []) step.items step.earlier step.later (ap (λ (p : PublisherState). p.unanswered) is.1 ∙ step.unanswered) in
    let items = sym parts.1 in
    let spells : DataSpells (PublishConfirm 0 (m.id ∷ [])) step.body =
    subst (λ (l : List Tagged). DataSpells (PublishConfirm 0 (map (λ (item : Tagged). item.id) l)) step.body) items (subst (λ (p : PublisherState). DataSpells (PublishConfirm p.id (map (λ (item : Tagged). item.id) step.items)) step.body) publisher step.confirms) in
    let live : Some (stream_with (codes "s") ch confirmed) ≡ Some step.stream = subst (λ (p : PublisherState). find p.stream ((1, stream_with (codes "s") ch confirmed) ∷ []) ≡ Some step.stream) publisher step.is_live in
    let stream : step.stream ≡ stream_with (codes "s") ch confirmed = cc in
    let counted : Counted (stream_with (codes "s") ch (confirmed ++ m.entry ∷ [])) =
    subst (λ (s : StreamState). Counted (record s { confirmed = s.confirmed ++ m.entry ∷ [] })) stream
    (subst (λ (l : List Tagged). Counted (record step.stream { confirmed = step.stream.confirmed ++ map (λ (item : Tagged). item.entry) l })) items step.counted) in
    let leads : mid ≡ linked ch (confirmed ++ m.entry ∷ []) [] (publisher_with 0 [] ∷ []) = step.is
    ∙ ap (λ (p : PublisherState). confirmed_to ch confirmed step.state step.before p step.after step.earlier step.items step.later step.stream) publisher
    ∙ ap (λ (s : ConnectionState). confirmed_to ch confirmed s step.before (publisher_with 0 frames) step.after step.earlier step.items step.later step.stream) state
    ∙ ap (λ (l : List PublisherState). confirmed_to ch confirmed held l (publisher_with 0 frames) step.after step.earlier step.items step.later step.stream) is.0
    ∙ ap (λ (l : List PublisherState). confirmed_to ch confirmed held [] (publisher_with 0 frames) l step.earlier step.items step.later step.stream) is.2
    ∙ ap (λ (l : List (List Tagged)). confirmed_to ch confirmed held [] (publisher_with 0 frames) [] l step.items step.later step.stream) parts.0
    ∙ ap (λ (l : List (List Tagged)). confirmed_to ch confirmed held [] (publisher_with 0 frames) [] [] step.items l step.stream) parts.2
    ∙ ap (λ (l : List Tagged). confirmed_to ch confirmed held [] (publisher_with 0 frames) [] [] l [] step.stream) items
    ∙ ap (λ (s : StreamState). confirmed_to ch confirmed held [] (publisher_with 0 frames) [] [] (m ∷ []) [] s) stream in
    (same_confirm id m.id step.body id_fits step.framed spells, counted, from mid (linked ch (confirmed ++ m.entry ∷ []) [] (publisher_with 0 [] ∷ [])) events new leads run)

-- the one message that was not confirmed is, and is in the list
after_confirm : (ch : List Chunk) (confirmed : List Entry) (m : Tagged) (id : ℕ) (events : List Event) (new : Machine) → id < 2 ^ 64
    → MachineRun (linked ch confirmed [] (publisher_with 0 ((m ∷ []) ∷ []) ∷ [])) (confirms 0 id ∷ events) new
    → (id ≡ m.id) × Counted (stream_with (codes "s") ch (confirmed ++ m.entry ∷ [])) × MachineRun (linked ch (confirmed ++ m.entry ∷ []) [] (publisher_with 0 [] ∷ [])) events new
after_confirm ch confirmed m id events new id_fits run =
    elim run.1 [
      | inl step ↦ confirmed_one ch confirmed m id events run.0 new id_fits step run.2
      | inr step ↦ absurd (no_answer ch confirmed (publisher_with 0 ((m ∷ []) ∷ []) ∷ []) (frame (body_of data_table (PublishConfirm 0 (id ∷ [])))) run.0 step)
    ]

-- ---- answers

-- whatever answers a Publish leaves the publishers as they are
answers_publish : (machine : Machine) (old : List PublisherState) (id : ℕ) (items : List Tagged) (answer : DataCommand) (new : List PublisherState) → Answers machine old (Publish id items) answer new → new ≡ old
answers_publish machine old id items (PublishError other refused) new a = a.4
answers_publish machine old id items (DeclarePublisher corr publisher reference name) new a = absurd a
answers_publish machine old id items (Publish publisher more) new a = absurd a
answers_publish machine old id items (PublishConfirm publisher more) new a = absurd a
answers_publish machine old id items (QueryPublisherSequence corr reference name) new a = absurd a
answers_publish machine old id items (SequenceAnswer corr code content) new a = absurd a
answers_publish machine old id items (DeletePublisher corr publisher) new a = absurd a
answers_publish machine old id items (Subscribe corr sub name spec credit properties) new a = absurd a
answers_publish machine old id items (Deliver sub header payload) new a = absurd a
answers_publish machine old id items (Deliver2 sub committed header payload) new a = absurd a
answers_publish machine old id items (Credit sub credit) new a = absurd a
answers_publish machine old id items (CreditFault code sub) new a = absurd a
answers_publish machine old id items (StoreOffset reference name offset) new a = absurd a
answers_publish machine old id items (QueryOffset corr reference name) new a = absurd a
answers_publish machine old id items (OffsetAnswer corr code content) new a = absurd a
answers_publish machine old id items (Unsubscribe corr sub) new a = absurd a
answers_publish machine old id items (Plain key corr code) new a = absurd a

answered_one : (ch : List Chunk) (confirmed : List Entry) (publishers : List PublisherState) (id : ℕ) (items : List Tagged) (bytes : List ℕ) (events : List Event) (mid new : Machine)
    → AnswerStep (linked ch confirmed (Publish id items ∷ []) publishers) 1 bytes mid → MachineRun mid events new → MachineRun (linked ch confirmed [] publishers) events new
answered_one ch confirmed publishers id items bytes events mid new step run =
    let old : Machine = linked ch confirmed (Publish id items ∷ []) publishers in
    let there = step.is_there in
    let state : step.state ≡ link_with [] (Publish id items ∷ []) publishers = cc in
    let first : Publish id items ∷ [] ≡ step.command ∷ step.later = ap (λ (s : ConnectionState). s.inbox) (sym state) ∙ step.first in
    let command : step.command ≡ Publish id items = cc in
    let later : step.later ≡ [] = cc in
    let answers : Answers old publishers (Publish id items) step.answer step.publishers =
    subst (λ (c : DataCommand). Answers old publishers c step.answer step.publishers) command (subst (λ (s : ConnectionState). Answers old s.publishers step.command step.answer step.publishers) state step.answers) in
    let is : mid ≡ linked ch confirmed [] publishers = step.is
    ∙ ap (λ (s : ConnectionState). with_stream (codes "s") ch confirmed ((1, record s { inbox = step.later; publishers = step.publishers }) ∷ [])) state
    ∙ ap (λ (l : List DataCommand). linked ch confirmed l step.publishers) later
    ∙ ap (linked ch confirmed []) (answers_publish old publishers id items step.answer step.publishers answers) in
    from mid (linked ch confirmed [] publishers) events new is run

-- a frame is sent where a Publish waits and no frame is unanswered: it is the answer
after_refusal : (ch : List Chunk) (confirmed : List Entry) (id : ℕ) (items : List Tagged) (answer : DataCommand) (events : List Event) (new : Machine)
    → MachineRun (linked ch confirmed (Publish id items ∷ []) (publisher_with 0 [] ∷ [])) (sends answer ∷ events) new → MachineRun (linked ch confirmed [] (publisher_with 0 [] ∷ [])) events new
after_refusal ch confirmed id items answer events new run =
    elim run.1 [
      | inl step ↦ absurd (no_confirm ch confirmed (Publish id items ∷ []) (frame (body_of data_table answer)) run.0 step)
      | inr step ↦ answered_one ch confirmed (publisher_with 0 [] ∷ []) id items (frame (body_of data_table answer)) events run.0 new step run.2
    ]

-- ---- the parts of the events

byte_length : (byte : ℕ) → length (entries_bytes (Simple (byte ∷ []) ∷ [])) ≡ 5
byte_length byte = omega (arith, ap length (append-nil (entry_bytes (Simple (byte ∷ [])))), length-append (u32_bytes 1) (byte ∷ []), u32_length 1)

simple_fits : (first byte : ℕ) → first < 1000 → IsChunk (user_chunk first (Simple (byte ∷ []) ∷ []))
simple_fits first byte small =
    let len = byte_length byte in
    piece_is_chunk first (record { id = 0; entry = Simple (byte ∷ []) } ∷ []) (record { laid = record { each = ((omega arith, tt), tt); short = omega (arith, len) }; some = omega arith; few = omega arith }) (omega arith)

publish_fits : (publisher : ℕ) → publisher < 2 ^ 8 → InFrame (publishes publisher)
publish_fits publisher small =
    let len = publish_length publisher (message_a ∷ []) in
    let byte = byte_length 97 in
    ((tt, (small, (omega arith, ((omega arith, omega arith), tt)))), omega (arith, len, byte))

refusal_fits : IsCommand data_table (PublishError 7 (record { id = 1; code = 0x12 } ∷ []))
refusal_fits = (tt, (omega arith, (omega arith, ((omega arith, omega arith), tt))))

confirm_is : (publisher : ℕ) → publisher < 2 ^ 8 → IsCommand data_table (PublishConfirm publisher (1 ∷ []))
confirm_is publisher small = (tt, (small, (omega arith, (omega arith, tt))))

declaration_fits : InFrame declares_seven
declaration_fits = (
  (tt, (omega arith, (omega arith, (tt, omega arith)))),
  let a = length-append (u16_bytes 1) (u16_bytes 1 ++ (u32_bytes 5 ++ (u8_bytes 7 ++ (text_bytes None ++ text_bytes (Some (codes "s")))))) in
      let b = length-append (u16_bytes 1) (u32_bytes 5 ++ (u8_bytes 7 ++ (text_bytes None ++ text_bytes (Some (codes "s"))))) in
      let c = length-append (u32_bytes 5) (u8_bytes 7 ++ (text_bytes None ++ text_bytes (Some (codes "s")))) in
      let d = length-append (u8_bytes 7) (text_bytes None ++ text_bytes (Some (codes "s"))) in
      let e = length-append (text_bytes None) (text_bytes (Some (codes "s"))) in
      let f = length-append (u16_bytes 1) (codes "s") in
      omega (arith, a, b, c, d, e, f, u16_length 1, u16_length 65535, u32_length 5, u8_length 7),
)

-- ---- runs

joined : (old mid new : Machine) (xs ys : List Event) → MachineRun old xs mid → MachineRun mid ys new → MachineRun old (xs ++ ys) new
joined old mid new [] ys p q = from mid old ys new p q
joined old mid new (x ∷ xs) ys p q = (p.0, p.1, joined p.0 mid new xs ys p.2 q)

abbrev opened : Machine
opened = with_stream (codes "s") (opening ∷ []) [] []

commit_step : (ch : List Chunk) (confirmed : List Entry) (connections : List (ℕ × ConnectionState)) (c : Chunk) → IsChunk c → c.first ≡ end_of_list ch → last_epoch ch ≤ c.epoch
    → CommitStep (with_stream (codes "s") ch confirmed connections) 1 (chunk_bytes c) (with_stream (codes "s") (ch ++ c ∷ []) confirmed connections)
commit_step ch confirmed connections c fits at epoch = record {
  state = stream_with (codes "s") ch confirmed;
  is_live = refl;
  chunk = c;
  spells = record { is_chunk = fits; spelled = refl };
  at_end = at;
  epoch = epoch;
  is = refl;
}

made_run : MachineRun empty_machine a_stream_made opened
made_run =
    let new : Machine = with_stream (codes "s") [] [] [] in
    (new, ((λ number stream is. absurd cc), refl), (opened, commit_step [] [] [] opening opening_is_chunk refl (omega arith), refl))

-- a connection is made
prepare_run : MachineRun opened (read (Prepare 1 (codes "s")) ∷ []) (linked (opening ∷ []) [] [] (publisher_with 0 [] ∷ []))
prepare_run =
    let new : Machine = linked (opening ∷ []) [] [] (publisher_with 0 [] ∷ []) in
    (new, (refl, 1, stream_with (codes "s") (opening ∷ []) [], refl, refl, refl), refl)

give_step : (ch : List Chunk) (confirmed : List Entry) (publishers : List PublisherState) (command : DataCommand) → InFrame command
    → MachineStep (linked ch confirmed [] publishers) (gives command) (linked ch confirmed (command ∷ []) publishers)
give_step ch confirmed publishers command fits = record {
  state = link_with [] [] publishers;
  is_there = refl;
  commands = command ∷ [];
  rest = [];
  reads = one_command command fits;
  is = refl;
}

handle_step : (ch : List Chunk) (confirmed : List Entry) (before after : List PublisherState) (command : DataCommand) → Handles before command after
    → MachineStep (linked ch confirmed (command ∷ []) before) (handled 1) (linked ch confirmed [] after)
handle_step ch confirmed before after command handles = record {
  state = link_with [] (command ∷ []) before;
  is_there = refl;
  command = command;
  later = [];
  first = refl;
  publishers = after;
  handles = handles;
  is = refl;
}

answer_step : (ch : List Chunk) (confirmed : List Entry) (before after : List PublisherState) (command answer : DataCommand) → IsCommand data_table answer → Answers (linked ch confirmed (command ∷ []) before) before command answer after
    → MachineStep (linked ch confirmed (command ∷ []) before) (sends answer) (linked ch confirmed [] after)
answer_step ch confirmed before after command answer fits answers = inr (record {
  state = link_with [] (command ∷ []) before;
  is_there = refl;
  command = command;
  later = [];
  first = refl;
  body = body_of data_table answer;
  framed = refl;
  answer = answer;
  spells = record { is_command = fits; spelled = refl };
  publishers = after;
  answers = answers;
  is = refl;
})

-- the first publisher's and another's frames are unanswered, or not
abbrev first_taken : List PublisherState
first_taken = publisher_with 0 ((message_a ∷ []) ∷ []) ∷ []

given_run : MachineRun empty_machine a_message_given (linked (opening ∷ []) [] [] first_taken)
given_run =
    let made : Machine = linked (opening ∷ []) [] [] (publisher_with 0 [] ∷ []) in
    let held : Machine = linked (opening ∷ []) [] (publishes 0 ∷ []) (publisher_with 0 [] ∷ []) in
    let taken : Machine = linked (opening ∷ []) [] [] first_taken in
    joined empty_machine opened taken a_stream_made (read (Prepare 1 (codes "s")) ∷ gives (publishes 0) ∷ handled 1 ∷ []) made_run
    (joined opened made taken (read (Prepare 1 (codes "s")) ∷ []) (gives (publishes 0) ∷ handled 1 ∷ []) prepare_run (
      held,
      give_step (opening ∷ []) [] (publisher_with 0 [] ∷ []) (publishes 0) (publish_fits 0 (omega arith)),
      (taken, handle_step (opening ∷ []) [] (publisher_with 0 [] ∷ []) first_taken (publishes 0) ([], publisher_with 0 [], [], refl, refl, refl), refl),
    ))

-- a chunk with one entry is committed, and the connection is polled
committed_run : (byte : ℕ) (publishers : List PublisherState)
    → MachineRun (linked (opening ∷ []) [] [] publishers) (read (Settle 1) ∷ commits (user_chunk 1 (Simple (byte ∷ []) ∷ [])) ∷ read (Poll 1) ∷ []) (linked (opening ∷ user_chunk 1 (Simple (byte ∷ []) ∷ []) ∷ []) [] [] publishers)
committed_run byte publishers =
    let c : Chunk = user_chunk 1 (Simple (byte ∷ []) ∷ []) in
    let old : Machine = linked (opening ∷ []) [] [] publishers in
    let new : Machine = linked (opening ∷ c ∷ []) [] [] publishers in
    (old, refl, (new, commit_step (opening ∷ []) [] ((1, link_with [] [] publishers) ∷ []) c (simple_fits 1 byte (omega arith)) refl (omega arith), (new, refl, refl)))

one_counted : Counted (stream_with (codes "s") (opening ∷ user_chunk 1 (entry_a ∷ []) ∷ []) (entry_a ∷ []))
one_counted entry = omega arith

pub made : HasRun a_stream_made
made = (opened, made_run)

pub given : HasRun a_message_given
given = (linked (opening ∷ []) [] [] first_taken, given_run)

-- the machine takes a chunk with any entry
chunk_run : (byte : ℕ) → MachineRun empty_machine (a_chunk_committed (Simple (byte ∷ []))) (linked (opening ∷ user_chunk 1 (Simple (byte ∷ []) ∷ []) ∷ []) [] [] first_taken)
chunk_run byte =
    joined empty_machine (linked (opening ∷ []) [] [] first_taken) (linked (opening ∷ user_chunk 1 (Simple (byte ∷ []) ∷ []) ∷ []) [] [] first_taken) a_message_given
    (read (Settle 1) ∷ commits (user_chunk 1 (Simple (byte ∷ []) ∷ [])) ∷ read (Poll 1) ∷ []) given_run (committed_run byte first_taken)

pub chunk_taken : (byte : ℕ) → HasRun (a_chunk_committed (Simple (byte ∷ [])))
chunk_taken byte = (linked (opening ∷ user_chunk 1 (Simple (byte ∷ []) ∷ []) ∷ []) [] [] first_taken, chunk_run byte)

-- the frame of one of two publishers is confirmed
confirm_step : (before after : List PublisherState) (id : ℕ) → id < 2 ^ 8
    → ConfirmStep (linked (opening ∷ user_chunk 1 (entry_a ∷ []) ∷ []) [] [] (before ++ publisher_with id ((message_a ∷ []) ∷ []) ∷ after)) 1 (frame (body_of data_table (PublishConfirm id (1 ∷ []))))
    (linked (opening ∷ user_chunk 1 (entry_a ∷ []) ∷ []) (entry_a ∷ []) [] (before ++ publisher_with id [] ∷ after))
confirm_step before after id small = record {
  state = link_with [] [] (before ++ publisher_with id ((message_a ∷ []) ∷ []) ∷ after);
  is_there = refl;
  before = before;
  publisher = publisher_with id ((message_a ∷ []) ∷ []);
  after = after;
  declared = refl;
  unnamed = refl;
  earlier = [];
  items = message_a ∷ [];
  later = [];
  unanswered = refl;
  body = body_of data_table (PublishConfirm id (1 ∷ []));
  framed = refl;
  confirms = record { is_command = confirm_is id small; spelled = refl };
  stream = stream_with (codes "s") (opening ∷ user_chunk 1 (entry_a ∷ []) ∷ []) [];
  is_live = refl;
  counted = one_counted;
  is = refl;
}

pub worked : HasRun the_worked_run
worked =
    let ch : List Chunk = opening ∷ user_chunk 1 (entry_a ∷ []) ∷ [] in
    let new : Machine = linked ch (entry_a ∷ []) [] (publisher_with 0 [] ∷ []) in
    (new, joined empty_machine (linked ch [] [] first_taken) new (a_chunk_committed entry_a) (confirms 0 1 ∷ []) (chunk_run 97) (new, inl (confirm_step [] [] 0 (omega arith)), refl))

-- publisher 7 is declared, and its message confirmed
pub declared : HasRun a_declaration_and_its_confirm
declared =
    let ch : List Chunk = opening ∷ user_chunk 1 (entry_a ∷ []) ∷ [] in
    let first : List PublisherState = publisher_with 0 [] ∷ [] in
    let both : List PublisherState = publisher_with 0 [] ∷ publisher_with 7 [] ∷ [] in
    let taken : List PublisherState = publisher_with 0 [] ∷ publisher_with 7 ((message_a ∷ []) ∷ []) ∷ [] in
    let end : Machine = linked ch (entry_a ∷ []) [] both in
    let begun : MachineRun opened (read (Prepare 1 (codes "s")) ∷ gives declares_seven ∷ sends (Plain 0x8001 5 1) ∷ []) (linked (opening ∷ []) [] [] both) =
    joined opened (linked (opening ∷ []) [] [] first) (linked (opening ∷ []) [] [] both) (read (Prepare 1 (codes "s")) ∷ []) (gives declares_seven ∷ sends (Plain 0x8001 5 1) ∷ []) prepare_run (
      linked (opening ∷ []) [] (declares_seven ∷ []) first,
      give_step (opening ∷ []) [] first declares_seven declaration_fits,
      (
        linked (opening ∷ []) [] [] both,
        answer_step (opening ∷ []) [] first both declares_seven (Plain 0x8001 5 1) (inl refl, (omega arith, omega arith))
            (refl, refl, inl (refl, refl, 1, stream_with (codes "s") (opening ∷ []) [], refl, refl, refl)),
        refl,
      ),
    ) in
    let given_then : MachineRun (linked (opening ∷ []) [] [] both) (gives (publishes 7) ∷ handled 1 ∷ []) (linked (opening ∷ []) [] [] taken) = (
      linked (opening ∷ []) [] (publishes 7 ∷ []) both,
      give_step (opening ∷ []) [] both (publishes 7) (publish_fits 7 (omega arith)),
      (linked (opening ∷ []) [] [] taken, handle_step (opening ∷ []) [] both taken (publishes 7) (publisher_with 0 [] ∷ [], publisher_with 7 [], [], refl, refl, refl), refl),
    ) in
    let committed_then : MachineRun (linked (opening ∷ []) [] [] both) a_message_committed (linked ch [] [] taken) =
    joined (linked (opening ∷ []) [] [] both) (linked (opening ∷ []) [] [] taken) (linked ch [] [] taken) (gives (publishes 7) ∷ handled 1 ∷ []) (read (Settle 1) ∷ commits (user_chunk 1 (entry_a ∷ [])) ∷ read (Poll 1) ∷ []) given_then (committed_run 97 taken) in
    let declared_first : MachineRun empty_machine a_declaration (linked (opening ∷ []) [] [] both) =
    joined empty_machine opened (linked (opening ∷ []) [] [] both) a_stream_made (read (Prepare 1 (codes "s")) ∷ gives declares_seven ∷ sends (Plain 0x8001 5 1) ∷ []) made_run begun in (
      end,
      joined empty_machine (linked (opening ∷ []) [] [] both) end a_declaration (a_message_committed ++ confirms 7 1 ∷ []) declared_first
          (joined (linked (opening ∷ []) [] [] both) (linked ch [] [] taken) end a_message_committed (confirms 7 1 ∷ []) committed_then
          (end, inl (confirm_step (publisher_with 0 [] ∷ []) [] 7 (omega arith)), refl)),
    )

-- the message of a publisher that was not declared is refused
refused_run : MachineRun empty_machine a_refused_message (linked (opening ∷ []) [] [] (publisher_with 0 [] ∷ []))
refused_run =
    let first : List PublisherState = publisher_with 0 [] ∷ [] in
    let answer : DataCommand = PublishError 7 (record { id = 1; code = 0x12 } ∷ []) in
    let new : Machine = linked (opening ∷ []) [] [] first in
    joined empty_machine opened new a_stream_made (read (Prepare 1 (codes "s")) ∷ gives (publishes 7) ∷ sends answer ∷ []) made_run
    (joined opened new new (read (Prepare 1 (codes "s")) ∷ []) (gives (publishes 7) ∷ sends answer ∷ []) prepare_run (
      linked (opening ∷ []) [] (publishes 7 ∷ []) first,
      give_step (opening ∷ []) [] first (publishes 7) (publish_fits 7 (omega arith)),
      (new, answer_step (opening ∷ []) [] first first (publishes 7) answer refusal_fits (refl, refl, omega arith, refl, refl), refl),
    ))

pub refused : HasRun a_refused_message
refused = (linked (opening ∷ []) [] [] (publisher_with 0 [] ∷ []), refused_run)

pub refused_then : HasRun refused_and_committed
refused_then =
    let ch : List Chunk = opening ∷ user_chunk 1 (entry_a ∷ []) ∷ [] in
    let first : List PublisherState = publisher_with 0 [] ∷ [] in
    (linked ch [] [] first, joined empty_machine (linked (opening ∷ []) [] [] first) (linked ch [] [] first) a_refused_message (read (Settle 1) ∷ commits (user_chunk 1 (entry_a ∷ [])) ∷ read (Poll 1) ∷ []) refused_run (committed_run 97 first))

-- ---- no runs

after_made : (events : List Event) (new : Machine) → MachineRun empty_machine (a_stream_made ++ events) new → MachineRun opened events new
after_made events new run = (after_commit (codes "s") [] [] [] opening events new opening_is_chunk (after_create (codes "s") (commits opening ∷ events) new run)).1

after_given : (events : List Event) (new : Machine) → MachineRun empty_machine (a_message_given ++ events) new → MachineRun (linked (opening ∷ []) [] [] first_taken) events new
after_given events new run =
    let made = after_made (read (Prepare 1 (codes "s")) ∷ gives (publishes 0) ∷ handled 1 ∷ events) new run in
    after_handled (opening ∷ []) [] [] message_a events new
    (after_give (opening ∷ []) [] (publisher_with 0 [] ∷ []) (publishes 0) (handled 1 ∷ events) new (publish_fits 0 (omega arith))
    (after_prepare (opening ∷ []) [] (gives (publishes 0) ∷ handled 1 ∷ events) new made))

after_chunk : (byte : ℕ) (publishers : List PublisherState) (events : List Event) (new : Machine)
    → MachineRun (linked (opening ∷ []) [] [] publishers) (read (Settle 1) ∷ commits (user_chunk 1 (Simple (byte ∷ []) ∷ [])) ∷ read (Poll 1) ∷ events) new
    → MachineRun (linked (opening ∷ user_chunk 1 (Simple (byte ∷ []) ∷ []) ∷ []) [] [] publishers) events new
after_chunk byte publishers events new run =
    let c : Chunk = user_chunk 1 (Simple (byte ∷ []) ∷ []) in
    let old : Machine = linked (opening ∷ []) [] [] publishers in
    let next : Machine = linked (opening ∷ c ∷ []) [] [] publishers in
    let settled : MachineRun old (commits c ∷ read (Poll 1) ∷ events) new = from run.0 old (commits c ∷ read (Poll 1) ∷ events) new run.1 run.2 in
    let polled = (after_commit (codes "s") (opening ∷ []) [] ((1, link_with [] [] publishers) ∷ []) c (read (Poll 1) ∷ events) new (simple_fits 1 byte (omega arith)) settled).1 in
    from polled.0 next events new polled.1 polled.2

after_committed : (byte : ℕ) (events : List Event) (new : Machine) → MachineRun empty_machine (a_chunk_committed (Simple (byte ∷ [])) ++ events) new
    → MachineRun (linked (opening ∷ user_chunk 1 (Simple (byte ∷ []) ∷ []) ∷ []) [] [] first_taken) events new
after_committed byte events new run =
    after_chunk byte first_taken events new (after_given (read (Settle 1) ∷ commits (user_chunk 1 (Simple (byte ∷ []) ∷ [])) ∷ read (Poll 1) ∷ events) new run)

pub out_of_place : HasNoRun a_chunk_out_of_place
out_of_place machine run =
    let made = after_made (commits (user_chunk 5 (entry_a ∷ [])) ∷ []) machine run in
    let step = after_commit (codes "s") (opening ∷ []) [] [] (user_chunk 5 (entry_a ∷ [])) [] machine (simple_fits 5 97 (omega arith)) made in
    absurd (omega (arith, step.0))

pub twice : HasNoRun a_chunk_twice
twice machine run =
    let made = after_made (commits opening ∷ []) machine run in
    let step = after_commit (codes "s") (opening ∷ []) [] [] opening [] machine opening_is_chunk made in
    absurd (omega (arith, step.0))

pub before_commit : HasNoRun a_confirm_before_its_commit
before_commit machine run =
    let given = after_given (confirms 0 1 ∷ []) machine run in
    let step = after_confirm (opening ∷ []) [] message_a 1 [] machine (omega arith) given in
    absurd (omega (arith, step.1 entry_a))

pub no_publish : HasNoRun a_confirm_of_no_publish
no_publish machine run =
    let committed = after_committed 97 (confirms 0 2 ∷ []) machine run in
    let step = after_confirm (opening ∷ user_chunk 1 (entry_a ∷ []) ∷ []) [] message_a 2 [] machine (omega arith) committed in
    absurd (omega (arith, step.0))

-- no frame is confirmed where none is unanswered
none_confirmed : (publisher id : ℕ) (ch : List Chunk) (confirmed : List Entry) (machine : Machine) → MachineRun (linked ch confirmed [] (publisher_with 0 [] ∷ [])) (confirms publisher id ∷ []) machine → ⊥
none_confirmed publisher id ch confirmed machine run =
    elim run.1 [
      | inl step ↦ no_confirm ch confirmed [] (frame (body_of data_table (PublishConfirm publisher (id ∷ [])))) run.0 step
      | inr step ↦ no_answer ch confirmed (publisher_with 0 [] ∷ []) (frame (body_of data_table (PublishConfirm publisher (id ∷ [])))) run.0 step
    ]

pub confirm_twice : HasNoRun a_confirm_twice
confirm_twice machine run =
    let committed = after_committed 97 (confirms 0 1 ∷ confirms 0 1 ∷ []) machine run in
    let step = after_confirm (opening ∷ user_chunk 1 (entry_a ∷ []) ∷ []) [] message_a 1 (confirms 0 1 ∷ []) machine (omega arith) committed in
    none_confirmed 0 1 (opening ∷ user_chunk 1 (entry_a ∷ []) ∷ []) (entry_a ∷ []) machine step.2

pub no_entry : HasNoRun a_confirm_of_no_entry
no_entry machine run =
    let committed = after_committed 98 (confirms 0 1 ∷ []) machine run in
    let step = after_confirm (opening ∷ user_chunk 1 (entry_b ∷ []) ∷ []) [] message_a 1 [] machine (omega arith) committed in
    absurd (omega (arith, step.1 entry_a))

pub undeclared : HasNoRun a_confirm_of_an_undeclared_publisher
undeclared machine run =
    let answer : DataCommand = PublishError 7 (record { id = 1; code = 0x12 } ∷ []) in
    let first : List PublisherState = publisher_with 0 [] ∷ [] in
    let later : List Event = read (Settle 1) ∷ commits (user_chunk 1 (entry_a ∷ [])) ∷ read (Poll 1) ∷ confirms 7 1 ∷ [] in
    let made = after_made (read (Prepare 1 (codes "s")) ∷ gives (publishes 7) ∷ sends answer ∷ later) machine run in
    let prepared_then = after_prepare (opening ∷ []) [] (gives (publishes 7) ∷ sends answer ∷ later) machine made in
    let given_then = after_give (opening ∷ []) [] first (publishes 7) (sends answer ∷ later) machine (publish_fits 7 (omega arith)) prepared_then in
    let refused_first = after_refusal (opening ∷ []) [] 7 (message_a ∷ []) answer later machine given_then in
    let committed = after_chunk 97 first (confirms 7 1 ∷ []) machine refused_first in
    none_confirmed 7 1 (opening ∷ user_chunk 1 (entry_a ∷ []) ∷ []) [] machine committed
