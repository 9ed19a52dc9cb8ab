-- A replay is a run of the list machine.
use Rattle.std.proofs.Common.{◌≡◌, ◌≢◌, ◌==◌, Bool, true, false, cond, ℕ, ◌+◌, ◌^◌, ◌<◌, ◌≤◌, ◌⊎◌, List, [], ◌∷◌, ◌++◌, length, map, Option, refl, sym, ap, subst, ◌∙◌, append_assoc, length-append, arith, inl, inr}
use Rattle.std.specs.List.{flat_map, AllByRecursion}
use Rattle.std.specs.Fmt.{decimal}
use Rattle.std.proofs.lemmas.List.{append-nil}
use Rattle.std.proofs.lemmas.List.Elements.{All-nil}
use Rattle.std.proofs.lemmas.Grind.{flat_map-append}
use Rattle.chunk_format.specs.declared.chunk.Chunk.{Chunk}
use Rattle.command_data.specs.declared.command.DataCommand.{DataCommand}
use Rattle.replay_node.specs.declared.session.Offer.{Offer}
use Rattle.script_text.specs.declared.script.ScriptLine.{ScriptLine}
use Rattle.script_text.specs.declared.script.ScriptLine.TheVariants.{Create, Prepare, Give, Poll, Settle}
use Rattle.replay_node.specs.declared.player.ReplayEnd.{ReplayEnd}
use Rattle.replay_node.specs.declared.player.ReplayEnd.TheVariants.{Done, Bad, ReadFault, WriteFault, Memory, TooLong}
use Rattle.script_text.specs.Words.{line_feed, Lacks}
use Rattle.script_text.specs.Script.{words_of, line_bytes, IsScriptLine}
use Rattle.script_text.specs.declared.output.OutputLine.{OutputLine}
use Rattle.script_text.specs.Outputs.{output_bytes}
use Rattle.replay_node.specs.NodeState.{NodeState, new_node, LineGives, commit_of, confirm_of, send, queued_chunks, offers_of, opening}
use Rattle.replay_node.specs.Replays.{Answers, lines_bytes, outputs_bytes, all_bytes, Begins, Replays, Ends, IsWithin, IsNextGiven, end_line, bad_line}
use Rattle.replay_node.specs.Machine.{Machine, empty_machine}
use Rattle.replay_node.specs.MachineSteps.{Event, read, wrote, handled, MachineRun}
use Rattle.replay_node.specs.Transcripts.{read_bytes, wrote_bytes, IsTail, Transcript, Transcribed, Writes, LineEvents}
use Rattle.replay_node.specs.Shown.{Shows, GivesRun}
use Rattle.replay_node.proofs.Pending.{same_number}
use Rattle.replay_node.proofs.Runs.{line_runs, new_shows}
use Rattle.replay_node.proofs.Cutting.{HasNumber, IsOneLine, IsCut, cut_outputs, cut_line, number_lacks, lacks_more, OtherByte}

run_append : (a b c : Machine) (xs ys : List Event) → MachineRun a xs b → MachineRun b ys c → MachineRun a (xs ++ ys) c
run_append a b c [] ys p q = subst (λ (m : Machine). MachineRun m ys c) p q
run_append a b c (x ∷ xs) ys p q = (p.0, p.1, run_append p.0 b c xs ys p.2 q)

run_front : (a c : Machine) (xs ys : List Event) → MachineRun a (xs ++ ys) c → (b : Machine) × MachineRun a xs b
run_front a c [] ys p = (a, refl)
run_front a c (x ∷ xs) ys p = let rest = run_front p.0 c xs ys p.2 in (rest.0, (p.0, p.1, rest.1))

-- ---- the events of lines

no_reads : (events : List Event) (outputs : List OutputLine) → Writes events outputs → flat_map read_bytes events ≡ []
no_reads [] outputs w = refl
no_reads (wrote o ∷ events) [] w = absurd w
no_reads (wrote o ∷ events) (p ∷ outputs) w = no_reads events outputs w.1
no_reads (handled c ∷ events) outputs w = no_reads events outputs w
no_reads (read line ∷ events) outputs w = absurd w

all_wrote : (events : List Event) (outputs : List OutputLine) → Writes events outputs → flat_map wrote_bytes events ≡ outputs_bytes outputs
all_wrote [] [] w = refl
all_wrote [] (p ∷ outputs) w = absurd w
all_wrote (wrote o ∷ events) [] w = absurd w
all_wrote (wrote o ∷ events) (p ∷ outputs) w =
    ap (λ (x : OutputLine). output_bytes x ++ flat_map wrote_bytes events) w.0 ∙ ap (λ (l : List ℕ). output_bytes p ++ l) (all_wrote events outputs w.1)
all_wrote (handled c ∷ events) outputs w = all_wrote events outputs w
all_wrote (read line ∷ events) outputs w = absurd w

line_reads : (line : ScriptLine) (outputs : List OutputLine) (events : List Event) → LineEvents line outputs events → flat_map read_bytes events ≡ line_bytes line
line_reads line outputs events e =
    ap (flat_map read_bytes) e.is ∙ ap (λ (l : List ℕ). line_bytes line ++ l) (no_reads e.behind outputs e.writes) ∙ append-nil (line_bytes line)

line_writes : (line : ScriptLine) (outputs : List OutputLine) (events : List Event) → LineEvents line outputs events → flat_map wrote_bytes events ≡ outputs_bytes outputs
line_writes line outputs events e = ap (flat_map wrote_bytes) e.is ∙ all_wrote e.behind outputs e.writes

-- the events that write the first of some outputs
split_writes : (events : List Event) (whole more : List OutputLine) → Writes events (whole ++ more) → (front : List Event) × (back : List Event) × (events ≡ front ++ back) × Writes front whole
split_writes events [] more w = ([], events, refl, tt)
split_writes [] (p ∷ whole) more w = absurd w
split_writes (wrote o ∷ events) (p ∷ whole) more w =
    let rest = split_writes events whole more w.1 in
    (wrote o ∷ rest.0, rest.1, ap (λ (l : List Event). wrote o ∷ l) rest.2, (w.0, rest.3))
split_writes (handled c ∷ events) (p ∷ whole) more w =
    let rest = split_writes events (p ∷ whole) more w in
    (handled c ∷ rest.0, rest.1, ap (λ (l : List Event). handled c ∷ l) rest.2, rest.3)
split_writes (read line ∷ events) (p ∷ whole) more w = absurd w

-- a run of answered lines, and the node shows its end
record Ran (machine : Machine) (lines : List ScriptLine) (outs : List (List OutputLine)) (node : NodeState) : Type 0 where
  events : List Event
  end : Machine
  run : MachineRun machine events end
  shows : Shows node end
  reads : flat_map read_bytes events ≡ lines_bytes lines
  writes : flat_map wrote_bytes events ≡ all_bytes outs

one_line_runs : (old new : NodeState) (line : ScriptLine) (outputs : List OutputLine) (machine : Machine) → Shows old machine → LineGives old line outputs new → GivesRun machine line outputs new
one_line_runs old new line outputs machine shows gives = subst (λ (m : Machine). GivesRun m line outputs new) (sym shows.is) (line_runs old new line outputs shows.confirmed shows.shown gives)

runs_all : (old new : NodeState) (lines : List ScriptLine) (outs : List (List OutputLine)) (machine : Machine) → Shows old machine → Answers old lines outs new → Ran machine lines outs new
runs_all old new [] [] machine shows answers = record { events = []; end = machine; run = refl; shows = subst (λ (n : NodeState). Shows n machine) (sym answers) shows; reads = refl; writes = refl }
runs_all old new [] (o ∷ outs) machine shows answers = absurd answers
runs_all old new (line ∷ lines) [] machine shows answers = absurd answers
runs_all old new (line ∷ lines) (outputs ∷ outs) machine shows answers =
    let one = one_line_runs old answers.0 line outputs machine shows answers.1 in
    let ran = one.2 in
    let rest = runs_all answers.0 new lines outs ran.0 ran.2 answers.2 in
    record {
      events = one.0 ++ rest.events;
      end = rest.end;
      run = run_append machine ran.0 rest.end one.0 rest.events ran.1 rest.run;
      shows = rest.shows;
      reads = flat_map-append read_bytes one.0 rest.events ∙ ap (λ (l : List ℕ). l ++ flat_map read_bytes rest.events) (line_reads line outputs one.0 one.1) ∙ ap (λ (l : List ℕ). line_bytes line ++ l) rest.reads;
      writes = flat_map-append wrote_bytes one.0 rest.events ∙ ap (λ (l : List ℕ). l ++ flat_map wrote_bytes rest.events) (line_writes line outputs one.0 one.1) ∙ ap (λ (l : List ℕ). outputs_bytes outputs ++ l) rest.writes;
    }

-- the numbers of outputs fit
commits_fit : (chunks : List Chunk) → AllByRecursion HasNumber (map commit_of chunks)
commits_fit [] = tt
commits_fit (c ∷ chunks) = (omega arith, commits_fit chunks)

sends_fit : (connection : ℕ) (commands : List DataCommand) → connection < 2 ^ 64 → AllByRecursion HasNumber (map (send connection) commands)
sends_fit connection [] fits = tt
sends_fit connection (command ∷ commands) fits = (fits, sends_fit connection commands fits)

confirms_by : (connection : ℕ) (o : Offer) (b : Bool) (offers : List Offer) → (o.connection == connection) ≡ b → connection < 2 ^ 64 → AllByRecursion HasNumber (map confirm_of offers) → AllByRecursion HasNumber (map confirm_of (cond b (o ∷ offers) offers))
confirms_by connection o true offers is fits rest = (subst (λ (n : ℕ). n < 2 ^ 64) (sym (same_number o.connection connection is)) fits, rest)
confirms_by connection o false offers is fits rest = rest

confirms_fit : (connection : ℕ) (offers : List Offer) → connection < 2 ^ 64 → AllByRecursion HasNumber (map confirm_of (offers_of connection offers))
confirms_fit connection [] fits = tt
confirms_fit connection (o ∷ offers) fits = confirms_by connection o (o.connection == connection) (offers_of connection offers) refl fits (confirms_fit connection offers fits)

outputs_fit : (old new : NodeState) (line : ScriptLine) (outputs : List OutputLine) → IsScriptLine line → LineGives old line outputs new → AllByRecursion HasNumber outputs
outputs_fit old new (Create name) outputs valid gives = subst (AllByRecursion HasNumber) (sym gives.1) (commits_fit (opening ∷ []))
outputs_fit old new (Prepare connection name) outputs valid gives = subst (AllByRecursion HasNumber) (sym gives.5) tt
outputs_fit old new (Give connection bytes) outputs valid gives = subst (AllByRecursion HasNumber) (sym gives.written) (sends_fit connection gives.served.answers valid.words.0)
outputs_fit old new (Poll connection) outputs valid gives = subst (AllByRecursion HasNumber) (sym gives.1) (confirms_fit connection old.unconfirmed valid.words)
outputs_fit old new (Settle stream) outputs valid gives = subst (AllByRecursion HasNumber) (sym gives.3) (commits_fit (queued_chunks old))
outputs_fit old new other outputs valid gives = absurd gives

-- each line has a byte
lines_count : (lines : List ScriptLine) → length lines ≤ length (lines_bytes lines)
lines_count [] = omega arith
lines_count (line ∷ lines) =
    omega (arith, lines_count lines, length-append (line_bytes line) (lines_bytes lines), length-append (words_of line) (line_feed ∷ []))

end_is_line : IsOneLine end_line
end_is_line =
    (101 ∷ 110 ∷ 100 ∷ [], refl, lacks_more 101 (110 ∷ 100 ∷ []) (λ e. absurd (omega arith)) (lacks_more 110 (100 ∷ []) (λ e. absurd (omega arith)) (lacks_more 100 [] (λ e. absurd (omega arith)) (All-nil OtherByte))))

bad_is_line : (n : ℕ) → n < 2 ^ 64 → IsOneLine (bad_line n)
bad_is_line n fits = (
  98 ∷ 97 ∷ 100 ∷ 32 ∷ decimal n,
  refl,
  lacks_more 98 (97 ∷ 100 ∷ 32 ∷ decimal n) (λ e. absurd (omega arith)) (lacks_more 97 (100 ∷ 32 ∷ decimal n) (λ e. absurd (omega arith))
      (lacks_more 100 (32 ∷ decimal n) (λ e. absurd (omega arith)) (lacks_more 32 (decimal n) (λ e. absurd (omega arith)) (number_lacks n fits)))),
)

tail_of_none : (tail : List ℕ) → tail ≡ [] → IsTail tail
tail_of_none tail none = inl (subst (Lacks line_feed) (sym none) (All-nil (λ b. b ≢ line_feed)))

end_tail : (tail : List ℕ) → Lacks line_feed tail ⊎ (tail ≡ end_line) → IsTail tail
end_tail tail (inl none) = inl none
end_tail tail (inr all) = inr (inl all)

bad_tail : (n : ℕ) (tail : List ℕ) → Lacks line_feed tail ⊎ (tail ≡ bad_line n) → IsTail tail
bad_tail n tail (inl none) = inl none
bad_tail n tail (inr all) = inr (inr (n, all))

-- the transcript of answered lines with a tail
plain : (node : NodeState) (lines : List ScriptLine) (outs : List (List OutputLine)) (taken rest given tail : List ℕ) → Answers new_node lines outs node → taken ≡ lines_bytes lines ++ rest → given ≡ all_bytes outs → IsTail tail
    → Transcript taken (given ++ tail)
plain node lines outs taken rest given tail answers reads writes is_tail =
    let ran = runs_all new_node node lines outs empty_machine new_shows answers in
    record {
      events = ran.events;
      machine = ran.end;
      run = ran.run;
      rest = rest;
      tail = tail;
      is_tail = is_tail;
      reads = reads ∙ ap (λ (l : List ℕ). l ++ rest) (sym ran.reads);
      writes = ap (λ (l : List ℕ). l ++ tail) (writes ∙ sym ran.writes);
    }

-- the same, with the first lines that the next line gave
cut_short : (node : NodeState) (lines : List ScriptLine) (outs : List (List OutputLine)) (taken rest given tail next : List ℕ) → Answers new_node lines outs node → taken ≡ lines_bytes lines ++ rest → given ≡ all_bytes outs
    → IsNextGiven node rest next → Begins tail next → Transcript taken (given ++ tail)
cut_short node lines outs taken rest given tail next answers reads writes n begins =
    let ran = runs_all new_node node lines outs empty_machine new_shows answers in
    let cut : IsCut n.outputs tail = cut_outputs n.outputs tail (outputs_fit node n.after n.line n.outputs n.valid n.gives) (subst (Begins tail) n.is begins) in
    let one = one_line_runs node n.after n.line n.outputs ran.end ran.shows n.gives in
    let halves = split_writes one.1.behind cut.whole cut.more (subst (Writes one.1.behind) cut.parts one.1.writes) in
    let first : List Event = read n.line ∷ halves.0 in
    let is_first : LineEvents n.line cut.whole first = record { behind = halves.0; is = refl; writes = halves.3 } in
    let split : one.0 ≡ first ++ halves.1 = one.1.is ∙ ap (λ (l : List Event). read n.line ∷ l) halves.2 in
    let whole = one.2 in
    let front = run_front ran.end whole.0 first halves.1 (subst (λ (l : List Event). MachineRun ran.end l whole.0) split whole.1) in
    let events : List Event = ran.events ++ first in
    let read_all : flat_map read_bytes events ≡ lines_bytes lines ++ line_bytes n.line =
    flat_map-append read_bytes ran.events first ∙ ap (λ (l : List ℕ). l ++ flat_map read_bytes first) ran.reads ∙ ap (λ (l : List ℕ). lines_bytes lines ++ l) (line_reads n.line cut.whole first is_first) in
    let wrote_all : flat_map wrote_bytes events ≡ given ++ outputs_bytes cut.whole =
    flat_map-append wrote_bytes ran.events first ∙ ap (λ (l : List ℕ). l ++ flat_map wrote_bytes first) (ran.writes ∙ sym writes) ∙ ap (λ (l : List ℕ). given ++ l) (line_writes n.line cut.whole first is_first) in
    record {
      events = events;
      machine = front.0;
      run = run_append empty_machine ran.end front.0 ran.events first ran.run front.1;
      rest = n.more;
      tail = cut.part;
      is_tail = inl cut.lacks;
      reads = reads ∙ ap (λ (l : List ℕ). lines_bytes lines ++ l) n.parts ∙ sym (append_assoc (lines_bytes lines) (line_bytes n.line) n.more) ∙ ap (λ (l : List ℕ). l ++ n.more) (sym read_all);
      writes = ap (λ (l : List ℕ). given ++ l) cut.is ∙ sym (append_assoc given (outputs_bytes cut.whole) cut.part) ∙ ap (λ (l : List ℕ). l ++ cut.part) (sym wrote_all);
    }

at_end : (end : ReplayEnd) (left : Option (List ℕ)) (node : NodeState) (lines : List ScriptLine) (outs : List (List OutputLine)) (taken rest given tail : List ℕ) → Answers new_node lines outs node → taken ≡ lines_bytes lines ++ rest
    → given ≡ all_bytes outs → Ends end left taken node (length lines) rest tail → IsWithin end (length taken) → Transcript taken (given ++ tail)
at_end Done left node lines outs taken rest given tail answers reads writes ends limit = plain node lines outs taken rest given tail answers reads writes (inr (inl ends.2))
at_end Bad left node lines outs taken rest given tail answers reads writes ends limit = plain node lines outs taken rest given tail answers reads writes (inr (inr (length lines + 1, ends.1)))
at_end ReadFault left node lines outs taken rest given tail answers reads writes ends limit = plain node lines outs taken rest given tail answers reads writes (tail_of_none tail ends.1)
at_end Memory left node lines outs taken rest given tail answers reads writes ends limit = plain node lines outs taken rest given tail answers reads writes (tail_of_none tail ends)
at_end TooLong left node lines outs taken rest given tail answers reads writes ends limit = plain node lines outs taken rest given tail answers reads writes (tail_of_none tail ends.7)
at_end WriteFault left node lines outs taken rest given tail answers reads writes ends limit =
    let small : length lines + 1 < 2 ^ 64 = let len = ap length reads in omega (arith, lines_count lines, len, length-append (lines_bytes lines) rest, limit) in
    let begins = ends.2 in
    elim ends.1 [
      | inl given_next ↦ cut_short node lines outs taken rest given tail ends.0 answers reads writes given_next begins
      | inr (inl bad) ↦ plain node lines outs taken rest given tail answers reads writes (bad_tail (length lines + 1) tail (cut_line (bad_line (length lines + 1)) tail (bad_is_line (length lines + 1) small) (subst (Begins tail) bad.1 begins)))
      | inr (inr done) ↦ plain node lines outs taken rest given tail answers reads writes (end_tail tail (cut_line end_line tail end_is_line (subst (Begins tail) done.2 begins)))
    ]

-- what was read and written is a transcript
pub transcribed : (end : ReplayEnd) (l0 l1 w0 w1 : Option (List ℕ)) → Replays end l0 l1 w0 w1 → Transcribed l0 l1 w0 w1
transcribed end l0 l1 w0 w1 r =
    let p = r.plays in
    record {
      taken = r.taken;
      given = r.given ++ r.tail;
      took = r.took;
      gave = r.gave;
      transcript = at_end end l1 r.node p.lines p.outputs r.taken r.rest r.given r.tail p.run p.read p.written
          (subst (λ (n : ℕ). Ends end l1 r.taken r.node n r.rest r.tail) (sym p.count) r.ending) r.limit;
    }
