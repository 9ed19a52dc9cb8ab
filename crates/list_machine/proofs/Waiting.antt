-- Lines wait for the answers of those before them; what is inspected; and runs that there aren't.
use Rattle.std.proofs.Common.{◌≡◌, ℕ, ◌*◌, ◌<◌, List, [], ◌∷◌, ◌++◌, map, Option, refl, sym, ap, subst, ◌∙◌, arith}
use Rattle.std.specs.Prelude.{count_by}
use Rattle.frame_wire.specs.Fields.{u8_bytes, u64_bytes}
use Rattle.chunk_format.specs.declared.chunk.Chunk.{Chunk}
use Rattle.chunk_format.specs.Logs.{IsLog, end_of}
use Rattle.script_text.specs.declared.script.ScriptLine.TheVariants as script
use Rattle.script_text.specs.declared.output.OutputLine.{OutputLine}
use Rattle.script_text.specs.declared.output.OutputLine.TheVariants as output
use Rattle.script_text.specs.declared.output.Ending.{Ending}
use Rattle.script_text.specs.declared.output.Ending.TheVariants.{PeerEnded}
use Rattle.command_all.specs.declared.command.Command.{Command}
use Rattle.list_machine.specs.Items.{items_in, Rises}
use Rattle.list_machine.specs.Machines.{Machine, empty_machine}
use Rattle.list_machine.specs.Steps.{Event, read, made, committed, sent, handled, ended, told, MachineRun}
use Rattle.list_machine.specs.Transcripts.{CommitLines, holds_to, MostHold, NextReads, InspectsKept}
use Rattle.list_machine.specs.Waits.{Parts, LinesWait, InspectsItsList, HasNoRun, log_to, inspected_as}
use Rattle.list_machine.specs.Examples.{s_name, p_name, item, chunk_of, opening, a_stream_made, a_declaration, a_confirm, a_delivery, the_worked_run}
use Rattle.list_machine.specs.Laws.{IsNotOf}
use Rattle.list_machine.proofs.Ends.{behind_the_end}
use Rattle.list_machine.proofs.Running.{holds, list_is}

-- ---- runs in parts

pub parts_of : (before behind : List Event) (old new : Machine) → MachineRun old (before ++ behind) new → Parts old before behind new
parts_of [] behind old new run = record { mid = old; first = refl; second = run }
parts_of (event ∷ before) behind old new run = let rest = parts_of before behind run.0 new run.2 in record { mid = rest.mid; first = (run.0, run.1, rest.first); second = rest.second }

pub lines_wait : (events : List Event) (old new : Machine) → MachineRun old events new → LinesWait old events new
lines_wait events old new run before behind line is = let parts = parts_of before (read line ∷ behind) old new (subst (λ (es : List Event). MachineRun old es new) is run) in (parts, parts.second.1.does.quiet)

pub its_list : (number : ℕ) (before behind : List Event) (new : Machine) → MachineRun empty_machine (before ++ behind) new → InspectsItsList number before behind new
its_list number before behind new run = let parts = parts_of before behind empty_machine new run in (parts, list_is number before parts.mid parts.first)

-- ---- an inspection on literals

no_read : (lines : List OutputLine) (n : ℕ) (before more : List Event) → map told lines ++ read (script.Poll 1) ∷ [] ≡ before ++ read (script.Inspect n) ∷ more → ⊥
no_read [] n [] more e = absurd cc
no_read [] n (event ∷ []) more e = absurd cc
no_read [] n (event ∷ other ∷ before) more e = absurd cc
no_read (line ∷ lines) n [] more e = absurd cc
no_read (line ∷ lines) n (event ∷ before) more e = let tails : map told lines ++ read (script.Poll 1) ∷ [] ≡ before ++ read (script.Inspect n) ∷ more = cc in no_read lines n before more tails

same_told : (lines inspected : List OutputLine) (behind : List Event) → map told lines ++ read (script.Poll 1) ∷ [] ≡ map told inspected ++ behind → NextReads behind → lines ≡ inspected
same_told [] [] behind e next = refl
same_told [] (line ∷ inspected) behind e next = absurd cc
same_told (line ∷ lines) [] behind e next = let reads : NextReads (told line ∷ (map told lines ++ read (script.Poll 1) ∷ [])) = subst NextReads (sym e) next in absurd (reads refl)
same_told (line ∷ lines) (other ∷ inspected) behind e next =
    let heads : line ≡ other = cc in
    let tails : map told lines ++ read (script.Poll 1) ∷ [] ≡ map told inspected ++ behind = cc in
    ap (λ (l : OutputLine). l ∷ lines) heads ∙ ap (λ (l : List OutputLine). other ∷ l) (same_told lines inspected behind tails next)

kept_by : (lines : List OutputLine) → MostHold 1 lines → InspectsKept (inspected_as lines)
kept_by lines most [] behind number inspected e next = absurd cc
kept_by lines most (a ∷ []) behind number inspected e next = absurd cc
kept_by lines most (a ∷ b ∷ []) behind number inspected e next = absurd cc
kept_by lines most (a ∷ b ∷ c ∷ []) behind number inspected e next =
    let first : read (script.Create s_name) ≡ a = cc in
    let second : made ≡ b = cc in
    let third : committed 1 opening ≡ c = cc in
    let one : 1 ≡ number = cc in
    let rest : map told lines ++ read (script.Poll 1) ∷ [] ≡ map told inspected ++ behind = cc in
    let front : a_stream_made ≡ a ∷ b ∷ c ∷ [] = cc in
    let here : MostHold (end_of (CommitLines number a_stream_made)) lines = subst (λ (n : ℕ). MostHold (end_of (CommitLines n a_stream_made)) lines) one most in
    let there = subst (λ (es : List Event). MostHold (end_of (CommitLines number es)) lines) front here in
    subst (MostHold (end_of (CommitLines number (a ∷ b ∷ c ∷ [])))) (same_told lines inspected behind rest next) there
kept_by lines most (a ∷ b ∷ c ∷ d ∷ before) behind number inspected e next =
    let rest : map told lines ++ read (script.Poll 1) ∷ [] ≡ before ++ read (script.Inspect number) ∷ (map told inspected ++ behind) = cc in absurd (no_read lines number before (map told inspected ++ behind) rest)

poll_reads : NextReads (read (script.Poll 1) ∷ [])
poll_reads e = cc

lost_by : (lines : List OutputLine) → (MostHold 1 lines → ⊥) → InspectsKept (inspected_as lines) → ⊥
lost_by lines few kept = few (kept a_stream_made (read (script.Poll 1) ∷ []) 1 lines refl poll_reads)

two_hold : MostHold 1 (log_to 1 1 ∷ log_to 2 1 ∷ log_to 3 0 ∷ [])
two_hold =
    let n : count_by (holds_to 1) (log_to 1 1 ∷ log_to 2 1 ∷ log_to 3 0 ∷ []) ≡ 2 = refl in
    subst (λ (k : ℕ). 3 < 2 * k) (sym n) (omega arith)

one_holds_one_down : MostHold 1 (log_to 1 1 ∷ output.LogDown 1 2 ∷ log_to 3 0 ∷ [])
one_holds_one_down =
    let n : count_by (holds_to 1) (log_to 1 1 ∷ output.LogDown 1 2 ∷ log_to 3 0 ∷ []) ≡ 2 = refl in
    subst (λ (k : ℕ). 3 < 2 * k) (sym n) (omega arith)

one_holds : MostHold 1 (log_to 1 1 ∷ log_to 2 0 ∷ log_to 3 0 ∷ []) → ⊥
one_holds most =
    let n : count_by (holds_to 1) (log_to 1 1 ∷ log_to 2 0 ∷ log_to 3 0 ∷ []) ≡ 1 = refl in
    let few = subst (λ (k : ℕ). 3 < 2 * k) n most in
    absurd (omega (arith, few))

pub held_kept : InspectsKept (inspected_as (log_to 1 1 ∷ log_to 2 1 ∷ log_to 3 0 ∷ []))
held_kept = kept_by (log_to 1 1 ∷ log_to 2 1 ∷ log_to 3 0 ∷ []) two_hold

pub down_kept : InspectsKept (inspected_as (log_to 1 1 ∷ output.LogDown 1 2 ∷ log_to 3 0 ∷ []))
down_kept = kept_by (log_to 1 1 ∷ output.LogDown 1 2 ∷ log_to 3 0 ∷ []) one_holds_one_down

pub lost_told : InspectsKept (inspected_as (log_to 1 1 ∷ log_to 2 0 ∷ log_to 3 0 ∷ [])) → ⊥
lost_told = lost_by (log_to 1 1 ∷ log_to 2 0 ∷ log_to 3 0 ∷ []) one_holds

-- ---- runs that there aren't

run_log : (events : List Event) (new : Machine) → MachineRun empty_machine events new → IsLog (CommitLines 1 events)
run_log events new run = subst IsLog (list_is 1 events new run) (holds events new 1 run).list

run_rises : (events : List Event) (new : Machine) → MachineRun empty_machine events new → Rises (items_in p_name (CommitLines 1 events))
run_rises events new run = subst (λ (chunks : List Chunk). Rises (items_in p_name chunks)) (list_is 1 events new run) ((holds events new 1 run).rises p_name)

pub no_run_out_of_place : HasNoRun (a_stream_made ++ committed 1 (chunk_of 1 5 (item 1 97)) ∷ [])
no_run_out_of_place new run = let log = run_log (a_stream_made ++ committed 1 (chunk_of 1 5 (item 1 97)) ∷ []) new run in let at = log.behind.begins in absurd (omega (arith, at))

pub no_run_twice : HasNoRun (a_stream_made ++ committed 1 opening ∷ [])
no_run_twice new run = let log = run_log (a_stream_made ++ committed 1 opening ∷ []) new run in let at = log.behind.begins in absurd (omega (arith, at))

pub no_run_of_lower_epoch : HasNoRun (the_worked_run ++ committed 1 (chunk_of 1 3 (item 2 98)) ∷ [])
no_run_of_lower_epoch new run = let log = run_log (the_worked_run ++ committed 1 (chunk_of 1 3 (item 2 98)) ∷ []) new run in let epoch = log.behind.behind.behind.not_before in absurd (omega (arith, epoch))

pub no_run_tag_twice : HasNoRun (the_worked_run ++ committed 1 (chunk_of 3 3 (item 1 97)) ∷ [])
unfolding u8_bytes u64_bytes
no_run_tag_twice new run = let rises = run_rises (the_worked_run ++ committed 1 (chunk_of 3 3 (item 1 97)) ∷ []) new run in let above = rises.0.0 in absurd (omega (arith, above))

pub no_run_tag_falls : HasNoRun (the_worked_run ++ committed 1 (chunk_of 3 3 (item 0 96)) ∷ [])
unfolding u8_bytes u64_bytes
no_run_tag_falls new run = let rises = run_rises (the_worked_run ++ committed 1 (chunk_of 3 3 (item 0 96)) ∷ []) new run in let above = rises.0.0 in absurd (omega (arith, above))

-- the worked run up to the line that ends connection 1
abbrev before_the_end : List Event
before_the_end = a_stream_made ++ (a_declaration ++ (a_confirm ++ (a_delivery ++ (read (script.Stop 1 2 0 0) ∷ told (output.Down 1 2) ∷ read (script.StopAll 0 0) ∷ []))))

abbrev behind_end : Event → List Event
behind_end event = told (output.Up 1 2 2 2) ∷ read (script.Settle 1) ∷ committed 1 (record opening { epoch = 3; first = 2 }) ∷ event ∷ []

silent_then : (event : Event) (new : Machine) → MachineRun empty_machine (the_worked_run ++ event ∷ []) new → IsNotOf 1 event
silent_then event new run = (behind_the_end before_the_end (behind_end event) 1 PeerEnded empty_machine new run).1.1.1.0

pub no_run_with_a_frame : (command : Command) → HasNoRun (the_worked_run ++ sent 1 command ∷ [])
no_run_with_a_frame command new run = silent_then (sent 1 command) new run refl

pub no_run_with_a_command : (command : Command) (answer : Option Command) → HasNoRun (the_worked_run ++ handled 1 command answer ∷ [])
no_run_with_a_command command answer new run = silent_then (handled 1 command answer) new run refl

pub no_run_with_an_end : (how : Ending) → HasNoRun (the_worked_run ++ ended 1 how ∷ [])
no_run_with_an_end how new run = silent_then (ended 1 how) new run refl
