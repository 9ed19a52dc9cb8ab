-- The steps of a run.
use Rattle.std.proofs.Common.{◌≡◌, ◌↔◌, ℕ, suc, Bool, false, IsTrue, List, [], ◌∷◌, ◌++◌, drop, length, Option, Some, None, Result, Ok, Err, refl, sym, ap, subst, ◌∙◌, arith, inl, inr}
use Rattle.std.specs.Option.{option_to_list}
use Rattle.outside_io.specs.declared.link.Hearing.{Hearing}
use Rattle.command_all.specs.declared.command.Command.{Command}
use Rattle.client_terms.specs.declared.terms.Received.{Received}
use Rattle.client_terms.specs.States.{ClientState}
use Rattle.client_terms.specs.Sending.{Next, nothing, credit, tunes, asks, publishes, due, frame_due, behind}
use Rattle.client_terms.specs.Steps.{ClientStep, sends, takes}
use Rattle.stream_client.specs.Cores.{CoreState, IsDone}
use Rattle.stream_client.specs.Sends.{AreBytesOf}
use Rattle.client_program.specs.Runs.{RunState, run_at, RunStep, sent, wrote, fed, waited, IsFinished, SendsFrame, TakesEntry, Turns, StepTo, Steps, SentBy, WroteBy, HeardBy}
use Rattle.client_program.specs.declared.run.ClientEnd.{ClientEnd}
use Rattle.client_program.specs.declared.run.ClientEnd.TheVariants.{Finished, LinkEnded, LinkFault, WriteFault, Fault, Memory}

-- ---- a frame

sends_one : (old new : CoreState) (bytes : List ℕ) (frame : Option Command) → AreBytesOf frame (Some bytes) → ClientStep old.client sends frame new.client → new.reader ≡ old.reader → SendsFrame old bytes new
sends_one old new bytes None are step reader = absurd are
sends_one old new bytes (Some command) are step reader = record { frame = command; spelled = are; step = step; reader = reader }

pub core_same : (old new : CoreState) → new.client ≡ old.client → new.reader ≡ old.reader → new ≡ old
core_same old new client reader = ap (λ (c : ClientState). record new { client = c }) client ∙ ap (λ r. record old { reader = r }) reader

pub sends_some : (old new : CoreState) (found : Option (List ℕ)) (bytes : List ℕ) (frame : Option Command) → found ≡ Some bytes → AreBytesOf frame found → ClientStep old.client sends frame new.client → new.reader ≡ old.reader → SendsFrame old bytes new
sends_some old new found bytes frame is are step reader = sends_one old new bytes frame (subst (AreBytesOf frame) is are) step reader

nothing_sent : (s : ClientState) (next : Next) → frame_due s next ≡ None → behind s next ≡ s
nothing_sent s nothing e = refl
nothing_sent s credit e = absurd cc
nothing_sent s (tunes frame_max) e = absurd cc
nothing_sent s (asks request) e = absurd cc
nothing_sent s (publishes id body) e = absurd cc

sends_nothing : (old new : CoreState) (frame : Option Command) → AreBytesOf frame None → ClientStep old.client sends frame new.client → new.reader ≡ old.reader → new ≡ old
sends_nothing old new None are step reader =
    core_same old new (step.1 ∙ nothing_sent old.client (due old.client) (sym step.0)) reader
sends_nothing old new (Some command) are step reader = absurd are

pub sends_none : (old new : CoreState) (found : Option (List ℕ)) (frame : Option Command) → found ≡ None → AreBytesOf frame found → ClientStep old.client sends frame new.client → new.reader ≡ old.reader → new ≡ old
sends_none old new found frame is are step reader = sends_nothing old new frame (subst (AreBytesOf frame) is are) step reader

pub sent_turn : (result : Result (Unit {0}) ClientEnd) (old : RunState) (core : CoreState) (bytes : List ℕ) (out : Option (List ℕ)) → ¬ IsFinished old → SendsFrame old.core bytes core → SentBy result bytes old.sent out → Turns old result (record old { core = core; sent = out })
sent_turn (Ok u) old core bytes out going frame by = (going, (sent bytes, (frame, ap (λ (o : Option (List ℕ)). record old { core = core; sent = o }) by)))
sent_turn (Err Finished) old core bytes out going frame by = absurd by
sent_turn (Err LinkEnded) old core bytes out going frame by = absurd by
sent_turn (Err LinkFault) old core bytes out going frame by = (going, inl (bytes, by.0, frame, ap (λ (o : Option (List ℕ)). record old { core = core; sent = o }) by.1))
sent_turn (Err WriteFault) old core bytes out going frame by = absurd by
sent_turn (Err (Fault fault)) old core bytes out going frame by = absurd by
sent_turn (Err Memory) old core bytes out going frame by = absurd by

-- ---- an entry

pub wrote_turn : (result : Result (Unit {0}) ClientEnd) (old : RunState) (core : CoreState) (entry : Received) (left : ℕ) (out : Option (List ℕ)) → ¬ IsFinished old → TakesEntry old.core entry core → WroteBy result entry old.left left old.written out → Turns old result (record old { core = core; left = left; written = out })
wrote_turn (Ok u) old core entry left out going taken by = (going, (wrote entry, (taken, by.0, ap (λ (o : Option (List ℕ)). record old { core = core; left = left; written = o }) by.1)))
wrote_turn (Err Finished) old core entry left out going taken by = absurd by
wrote_turn (Err LinkEnded) old core entry left out going taken by = absurd by
wrote_turn (Err LinkFault) old core entry left out going taken by = absurd by
wrote_turn (Err WriteFault) old core entry left out going taken by =
    (going, (entry, by.1.0, taken, ap (λ (l : ℕ). record old { core = core; left = l; written = out }) by.0 ∙ ap (λ (o : Option (List ℕ)). record old { core = core; written = o }) by.1.1))
wrote_turn (Err (Fault fault)) old core entry left out going taken by = absurd by
wrote_turn (Err Memory) old core entry left out going taken by = going

-- ---- a piece

pub heard_turn : (result : Result (Unit {0}) ClientEnd) (old : RunState) (core : CoreState) (heard : Option (List Hearing)) → ¬ IsFinished old → HeardBy result old.core core old.heard heard → Turns old result (record old { core = core; heard = heard })
heard_turn (Ok u) old core heard going (inl piece) = (going, (fed piece.0, (piece.1, ap (λ (o : Option (List Hearing)). record old { core = core; heard = o }) piece.2)))
heard_turn (Ok u) old core heard going (inr quiet) = (going, (waited, ap (λ (c : CoreState). record old { core = c; heard = heard }) quiet.0 ∙ ap (λ (o : Option (List Hearing)). record old { heard = o }) quiet.1))
heard_turn (Err Finished) old core heard going by = absurd by
heard_turn (Err LinkEnded) old core heard going by = (going, ap (λ (c : CoreState). record old { core = c; heard = heard }) by.0 ∙ ap (λ (o : Option (List Hearing)). record old { heard = o }) by.1)
heard_turn (Err LinkFault) old core heard going by = (going, inr (ap (λ (c : CoreState). record old { core = c; heard = heard }) by.0 ∙ ap (λ (o : Option (List Hearing)). record old { heard = o }) by.1))
heard_turn (Err WriteFault) old core heard going by = absurd by
heard_turn (Err (Fault fault)) old core heard going by =
    (going, by.0, (by.1.0, by.1.1, ap (λ (o : Option (List Hearing)). record old { core = core; heard = o }) by.1.2))
heard_turn (Err Memory) old core heard going by = going

-- ---- steps

pub steps_more : (old mid new : RunState) (steps : List RunStep) (step : RunStep) → Steps old steps mid → ¬ IsFinished mid → StepTo mid step new → Steps old (steps ++ step ∷ []) new
steps_more old mid new [] step run going one = subst (λ (s : RunState). Steps s (step ∷ []) new) run (going, (new, one, refl))
steps_more old mid new (s ∷ ss) step run going one = (run.0, (run.1.0, run.1.1, steps_more run.1.0 mid new ss step run.1.2 going one))

-- ---- with what stays

pub sent_at : (result : Result (Unit {0}) ClientEnd) (core after : CoreState) (left : ℕ) (heard heard_after : Option (List Hearing)) (out out_after written : Option (List ℕ)) (bytes : List ℕ) → ¬ IsFinished (run_at core left heard out written) → SendsFrame core bytes after → SentBy result bytes out out_after → heard_after ≡ heard → Turns (run_at core left heard out written) result (run_at after left heard_after out_after written)
sent_at result core after left heard heard_after out out_after written bytes going frame by same =
    subst (λ (h : Option (List Hearing)). Turns (run_at core left heard out written) result (run_at after left h out_after written)) (sym same) (sent_turn result (run_at core left heard out written) after bytes out_after going frame by)

pub heard_at : (result : Result (Unit {0}) ClientEnd) (core after : CoreState) (left : ℕ) (heard heard_after : Option (List Hearing)) (out out_after written : Option (List ℕ)) → ¬ IsFinished (run_at core left heard out written) → HeardBy result core after heard heard_after → out_after ≡ out → Turns (run_at core left heard out written) result (run_at after left heard_after out_after written)
heard_at result core after left heard heard_after out out_after written going by same =
    subst (λ (o : Option (List ℕ)). Turns (run_at core left heard out written) result (run_at after left heard_after o written)) (sym same) (heard_turn result (run_at core left heard out written) after heard_after going by)

pub wrote_at : (result : Result (Unit {0}) ClientEnd) (core after : CoreState) (left left_after : ℕ) (heard : Option (List Hearing)) (out written written_after : Option (List ℕ)) (entry : Received) → ¬ IsFinished (run_at core left heard out written) → TakesEntry core entry after → WroteBy result entry left left_after written written_after → Turns (run_at core left heard out written) result (run_at after left_after heard out written_after)
wrote_at result core after left left_after heard out written written_after entry going taken by = wrote_turn result (run_at core left heard out written) after entry left_after written_after going taken by

-- no entry was left
not_itself : (entries : List Received) → entries ≡ drop 1 entries → entries ≡ []
not_itself [] e = refl
not_itself (x ∷ xs) e = absurd (let len : suc (length xs) ≡ length xs = ap length e in omega arith)

pub takes_some : (old new : CoreState) (found : Option Received) (entry : Received) → found ≡ Some entry → old.client.received ≡ option_to_list found ++ new.client.received → ClientStep old.client takes None new.client → new.reader ≡ old.reader → TakesEntry old entry new
takes_some old new found entry is first step reader = record {
  first = first ∙ ap (λ (f : Option Received). option_to_list f ++ new.client.received) is;
  step = step;
  reader = reader;
}

pub takes_none : (old new : CoreState) (found : Option Received) → found ≡ None → old.client.received ≡ option_to_list found ++ new.client.received → ClientStep old.client takes None new.client → new.reader ≡ old.reader → new ≡ old
takes_none old new found is first step reader =
    let same : old.client.received ≡ new.client.received = first ∙ ap (λ (f : Option Received). option_to_list f ++ new.client.received) is in
    let empty : old.client.received ≡ [] = not_itself old.client.received (same ∙ ap (λ (s : ClientState). s.received) step.1) in
    core_same old new
    (step.1 ∙ ap (λ (r : List Received). record old.client { received = r }) (ap (drop 1) empty ∙ sym empty))
    reader

pub same_turn : (result : Result (Unit {0}) ClientEnd) (core other after : CoreState) (left left_after : ℕ) (heard heard_after : Option (List Hearing)) (out out_after written written_after : Option (List ℕ)) → other ≡ core → Turns (run_at other left heard out written) result (run_at after left_after heard_after out_after written_after) → Turns (run_at core left heard out written) result (run_at after left_after heard_after out_after written_after)
same_turn result core other after left left_after heard heard_after out out_after written written_after e turn =
    subst (λ (c : CoreState). Turns (run_at c left heard out written) result (run_at after left_after heard_after out_after written_after)) e turn

pub still_going : (core other : CoreState) (left : ℕ) (heard : Option (List Hearing)) (out written : Option (List ℕ)) → other ≡ core → ¬ IsFinished (run_at core left heard out written) → ¬ IsFinished (run_at other left heard out written)
still_going core other left heard out written e going = subst (λ (c : CoreState). ¬ IsFinished (run_at c left heard out written)) (sym e) going

pub heard_from : (result : Result (Unit {0}) ClientEnd) (core other after : CoreState) (heard heard_after : Option (List Hearing)) → other ≡ core → HeardBy result other after heard heard_after → HeardBy result core after heard heard_after
heard_from result core other after heard heard_after e by = subst (λ (c : CoreState). HeardBy result c after heard heard_after) e by

pub unfinished : (core : CoreState) (left : ℕ) (heard : Option (List Hearing)) (out written : Option (List ℕ)) (told : Bool) → IsTrue told ↔ (IsDone core.client × (left ≡ 0)) → told ≡ false → ¬ IsFinished (run_at core left heard out written)
unfinished core left heard out written told decides is_false finished = absurd (let yes = decides.1 (finished.done, finished.none_left) in cc)

pub sent_by : (result : Result (Unit {0}) ClientEnd) (lent bytes : List ℕ) (old new : Option (List ℕ)) → lent ≡ bytes → SentBy result lent old new → SentBy result bytes old new
sent_by result lent bytes old new e by = subst (λ (b : List ℕ). SentBy result b old new) e by
