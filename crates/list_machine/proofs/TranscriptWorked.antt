-- The worked transcript; and that no commit line is written where nothing was read.
use Rattle.std.proofs.Common.{◌≡◌, ◌≢◌, ℕ, ◌+◌, ◌<◌, List, [], ◌∷◌, ◌++◌, length, rules, refl, sym, ap, subst, ◌∙◌, inl, inr, append_assoc, arith}
use Rattle.std.specs.Prelude.{flat_map}
use Rattle.std.specs.List.{AllByRecursion}
use Rattle.std.specs.Fmt.{decimal}
use Rattle.std.proofs.lemmas.Fmt.{decimal_digit}
use Rattle.std.proofs.lemmas.List.{append-nil}
use Rattle.std.proofs.lemmas.Grind.{flat_map-append}
use Rattle.chunk_format.specs.declared.chunk.Chunk.{Chunk}
use Rattle.command_all.specs.declared.command.Command.{Command}
use Rattle.std.proofs.lemmas.List.Elements.{All-nil}
use Rattle.script_text.specs.declared.script.ScriptLine.{ScriptLine}
use Rattle.script_text.specs.declared.script.ScriptLine.TheVariants as script
use Rattle.script_text.specs.declared.output.OutputLine.{OutputLine}
use Rattle.script_text.specs.declared.output.OutputLine.TheVariants as output
use Rattle.script_text.specs.declared.output.Ending.TheVariants.{PeerEnded}
use Rattle.script_text.specs.declared.output.Ending.{Ending}
use Rattle.script_text.specs.Words.{space, line_feed, Lacks}
use Rattle.script_text.specs.Script.{words_of, line_bytes, IsScriptLine}
use Rattle.script_text.specs.Outputs.{output_words, output_bytes}
use Rattle.script_text.proofs.Splits.{lacks_it_not}
use Rattle.list_machine.specs.Streams.{unmade, live, no_stream}
use Rattle.list_machine.specs.Machines.{unused, open_now, leaving, idle, making, fresh, Machine, empty_machine, Moves, nowhere, only, everywhere, Change}
use Rattle.list_machine.specs.Moves.{commits, leaves, StreamRun}
use Rattle.list_machine.specs.Sends.{SendStep, Owed, Unasked, MayEnd}
use Rattle.list_machine.specs.Steps.{Event, read, handled, misread, made, refused, found, committed, sent, ended, told, IsOfMembers, MachineStep, MachineRun}
use Rattle.list_machine.specs.Transcripts.{lines_read, lines_written, AreLines, read_bytes, written_bytes, IsTail, Transcript}
use Rattle.list_machine.specs.Examples.{s_name, machine_of}
use Rattle.list_machine.specs.TranscriptExample.{a_script, its_output}
use Rattle.list_machine.proofs.Worked.{s0, closing, over, linked_step, all_run, fresh_quiet, create_step, made_step, connect_step, stop_step, down_step}
use Rattle.list_machine.proofs.Going.{own_at}

leave_step : MachineStep (machine_of s0 fresh idle) (read (script.Leave 1)) (machine_of s0 closing idle)
leave_step = linked_step s0 s0 fresh closing idle idle (read (script.Leave 1)) nowhere (record { quiet = fresh_quiet s0; reads = (refl, refl) }) (λ n. refl)

bye_step : MachineStep (machine_of s0 closing idle) (ended 1 PeerEnded) (machine_of s0 over idle)
bye_step =
    linked_step s0 s0 closing over idle idle (ended 1 PeerEnded) (everywhere (leaves 1 ∷ [])) (record { may = inl refl; all_written = refl; moves_are = refl; after_is = refl })
    (all_run s0 s0 (leaves 1 ∷ []) (s0, refl, refl) (no_stream, refl, refl))

abbrev events : List Event
events = read (script.Create s_name) ∷ made ∷ read (script.Connect 1) ∷ read (script.Stop 1 2 0 0) ∷ told (output.Down 1 2) ∷ read (script.Leave 1) ∷ ended 1 PeerEnded ∷ []

events_run : MachineRun empty_machine events (machine_of s0 over idle)
events_run = (_, create_step, (_, made_step, (_, connect_step s0, (_, stop_step s0, (_, down_step s0, (_, leave_step, (_, bye_step, refl)))))))

-- the bytes of events are those of their lines
read_all : (es : List Event) → flat_map read_bytes es ≡ flat_map line_bytes (flat_map lines_read es)
read_all [] = refl
read_all (e ∷ es) = ap (λ (l : List ℕ). read_bytes e ++ l) (read_all es) ∙ sym (flat_map-append line_bytes (lines_read e) (flat_map lines_read es))

written_all : (es : List Event) → flat_map written_bytes es ≡ flat_map output_bytes (flat_map lines_written es)
written_all [] = refl
written_all (e ∷ es) = ap (λ (l : List ℕ). written_bytes e ++ l) (written_all es) ∙ sym (flat_map-append output_bytes (lines_written e) (flat_map lines_written es))

-- a digit in front of words
front : (n : ℕ) (rest : List ℕ) → n < 10 → length (decimal n ++ rest) ≡ 1 + length rest
front n rest small = let e : length (decimal n ++ rest) ≡ length ((48 + n) ∷ rest) = ap (λ (l : List ℕ). length (l ++ rest)) (decimal_digit n small) in omega (arith, e)

digit : (n : ℕ) → n < 10 → length (decimal n) ≡ 1
digit n small = ap length (decimal_digit n small)

create_line : IsScriptLine (script.Create s_name)
create_line = record { words = (omega arith, omega arith, search (rules)); short = omega arith }

connect_line : IsScriptLine (script.Connect 1)
connect_line = record { words = omega arith; short = (let one = digit 1 (omega arith) in omega (arith, one)) }

leave_line : IsScriptLine (script.Leave 1)
leave_line = record { words = omega arith; short = (let one = digit 1 (omega arith) in omega (arith, one)) }

stop_line : IsScriptLine (script.Stop 1 2 0 0)
stop_line = record {
  words = (omega arith, omega arith, omega arith, omega arith);
  short = (
      let d = digit 0 (omega arith) in
      let c = front 0 (space ∷ decimal 0) (omega arith) in
      let b = front 2 (space ∷ (decimal 0 ++ space ∷ decimal 0)) (omega arith) in
      let a = front 1 (space ∷ (decimal 2 ++ space ∷ (decimal 0 ++ space ∷ decimal 0))) (omega arith) in
      omega (arith, a, b, c, d)
      );
}

are_lines : AllByRecursion AreLines events
are_lines = (
  record { reads = (create_line, tt); writes = tt; spelt = tt },
  (
    record { reads = tt; writes = tt; spelt = tt },
    (
      record { reads = (connect_line, tt); writes = tt; spelt = tt },
      (
        record { reads = (stop_line, tt); writes = tt; spelt = tt },
        (
          record { reads = tt; writes = ((omega arith, omega arith), tt); spelt = tt },
          (record { reads = (leave_line, tt); writes = tt; spelt = tt }, (record { reads = tt; writes = ((omega arith, tt), tt); spelt = tt }, tt)),
        ),
      ),
    ),
  ),
)

pub worked_transcript : Transcript (flat_map line_bytes a_script) (flat_map output_bytes its_output)
worked_transcript = record {
  events = events;
  machine = machine_of s0 over idle;
  run = events_run;
  lines = are_lines;
  rest = [];
  tail = [];
  is_tail = inl (All-nil (λ (b : ℕ). b ≢ line_feed));
  reads = sym (append-nil (flat_map read_bytes events) ∙ read_all events);
  writes = sym (append-nil (flat_map written_bytes events) ∙ written_all events);
}

-- ---- where nothing was read

no_front : (a b : List ℕ) → a ++ b ≡ [] → a ≡ []
no_front [] b e = refl
no_front (x ∷ a) b e = absurd cc

no_behind : (a b : List ℕ) → a ++ b ≡ [] → b ≡ []
no_behind [] b e = e
no_behind (x ∷ a) b e = absurd cc

line_is_some : (line : ScriptLine) → line_bytes line ≡ [] → ⊥
line_is_some line e = clash (no_behind (words_of line) (line_feed ∷ []) e)
  where
    clash : line_feed ∷ [] ≡ [] → ⊥
    clash e = cc

-- the first event of a run that reads no line is a line on members
record ToldFirst (event : Event) : Type 0 where
  pub line : OutputLine
  pub is : event ≡ told line
  pub of_members : IsOfMembers line

unused_is_not_open : unused ≡ open_now → ⊥
unused_is_not_open e = cc

idle_is_not_making : (name : List ℕ) → idle ≡ making name → ⊥
idle_is_not_making name e = cc

none_unsure : (before behind : List Change) (change : Change) → [] ≡ before ++ change ∷ behind → ⊥
none_unsure [] behind change e = cc
none_unsure (c ∷ before) behind change e = cc

no_send : (c : ℕ) (command : Command) (moves : Moves) (after : Machine) → SendStep empty_machine c command moves after → ⊥
no_send c command moves after (Owed later is m a) = clash is
  where
    clash : [] ≡ command ∷ later → ⊥
    clash e = cc
no_send c command moves after (Unasked is_open sends) = unused_is_not_open is_open

no_end : (how : Ending) → MayEnd unused how → ⊥
no_end how (inl e) = clash e
  where
    clash : unused ≡ leaving how → ⊥
    clash e = cc
no_end how (inr e) = unused_is_not_open e.0

no_commit : (n : ℕ) (c : Chunk) (new : Machine) (moves : Moves) → moves ≡ only n (commits c ∷ []) → StreamRun no_stream (moves n) (new.streams n) → ⊥
no_commit n c new moves is run = clash (own_at n no_stream (new.streams n) (commits c ∷ []) (subst (λ (f : Moves). StreamRun no_stream (f n) (new.streams n)) is run)).1.is_live
  where
    clash : unmade ≡ live → ⊥
    clash e = cc

first_told : (event : Event) (new : Machine) → MachineStep empty_machine event new → read_bytes event ≡ [] → ToldFirst event
first_told (read line) new step none = absurd (line_is_some line (no_front (line_bytes line) [] none))
first_told (handled c command answer) new step none = absurd (unused_is_not_open step.does.is_open)
first_told (misread c answer) new step none = absurd (unused_is_not_open step.does.is_open)
first_told made new step none = absurd (idle_is_not_making step.does.name step.does.is_making)
first_told (refused code) new step none = absurd (idle_is_not_making step.does.name step.does.is_making)
first_told (found change) new step none = absurd (none_unsure step.does.before step.does.behind change step.does.was_unsure)
first_told (committed n chunk) new step none = absurd (no_commit n chunk new step.moves step.does.0 (step.streams n))
first_told (sent c command) new step none = absurd (no_send c command step.moves step.after step.does)
first_told (ended c how) new step none = absurd (no_end how step.does.may)
first_told (told line) new step none = record { line = line; is = refl; of_members = step.does.0 }

-- bytes with other first bytes are others
heads : (a b : ℕ) (x y : List ℕ) → (a ≡ b → ⊥) → a ∷ x ≡ b ∷ y → ⊥
heads a b x y other e = let same : a ≡ b = cc in other same

-- a commit line isn't one on members
no_members_line : (n : ℕ) (bytes more : List ℕ) (line : OutputLine) → IsOfMembers line → output_bytes (output.Committed n bytes) ≡ output_bytes line ++ more → ⊥
no_members_line n bytes more (output.Message stream number receiver kind epoch) is e = heads 107 109 _ _ (λ e. absurd (omega (arith, e))) e
no_members_line n bytes more (output.Later stream member) is e = heads 107 108 _ _ (λ e. absurd (omega (arith, e))) e
no_members_line n bytes more (output.Down stream member) is e = heads 107 100 _ _ (λ e. absurd (omega (arith, e))) e
no_members_line n bytes more (output.Up stream member count end) is e = heads 107 117 _ _ (λ e. absurd (omega (arith, e))) e
no_members_line n bytes more (output.CoordinatorUp stream epoch) is e = heads 107 117 _ _ (λ e. absurd (omega (arith, e))) e
no_members_line n bytes more (output.Log stream member count end) is e = heads 107 108 _ _ (λ e. absurd (omega (arith, e))) e
no_members_line n bytes more (output.LogDown stream member) is e = heads 107 108 _ _ (λ e. absurd (omega (arith, e))) e
no_members_line n bytes more (output.Sent connection frame) is e = absurd is
no_members_line n bytes more (output.Bye connection how) is e = absurd is
no_members_line n bytes more (output.Committed stream chunk) is e = absurd is
no_members_line n bytes more (output.Refused code) is e = absurd is
no_members_line n bytes more output.End is e = absurd is
no_members_line n bytes more (output.Bad number) is e = absurd is

-- nor is it a tail
no_tail : (n : ℕ) (bytes tail : List ℕ) → IsTail tail → output_bytes (output.Committed n bytes) ≡ tail → ⊥
no_tail n bytes tail (inl lacks) e = lacks_it_not line_feed (output_words (output.Committed n bytes)) [] (subst (Lacks line_feed) (sym e) lacks)
no_tail n bytes tail (inr (inl end)) e = heads 107 101 _ _ (λ e. absurd (omega (arith, e))) (e ∙ end)
no_tail n bytes tail (inr (inr bad)) e = heads 107 98 _ _ (λ e. absurd (omega (arith, e))) (e ∙ bad.1)

none_by : (n : ℕ) (bytes tail rest : List ℕ) (es : List Event) (new : Machine) → MachineRun empty_machine es new → IsTail tail → flat_map read_bytes es ++ rest ≡ [] → output_bytes (output.Committed n bytes) ≡ flat_map written_bytes es ++ tail → ⊥
none_by n bytes tail rest [] new run is_tail none e = no_tail n bytes tail is_tail e
none_by n bytes tail rest (event ∷ es) new run is_tail none e =
    let first = first_told event run.0 run.1 (no_front (read_bytes event) (flat_map read_bytes es) (no_front (read_bytes event ++ flat_map read_bytes es) rest none)) in
    let line_first : output_bytes (output.Committed n bytes) ≡ (written_bytes (told first.line) ++ flat_map written_bytes es) ++ tail = e ∙ ap (λ (x : Event). (written_bytes x ++ flat_map written_bytes es) ++ tail) first.is in
    no_members_line n bytes ([] ++ (flat_map written_bytes es ++ tail)) first.line first.of_members
    (line_first ∙ append_assoc (output_bytes first.line ++ []) (flat_map written_bytes es) tail ∙ append_assoc (output_bytes first.line) [] (flat_map written_bytes es ++ tail))

pub no_commit_unread : (n : ℕ) (bytes : List ℕ) → Transcript [] (output_bytes (output.Committed n bytes)) → ⊥
no_commit_unread n bytes t = none_by n bytes t.tail t.rest t.events t.machine t.run t.is_tail (sym t.reads) t.writes
