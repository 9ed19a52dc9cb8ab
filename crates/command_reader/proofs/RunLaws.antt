-- What a reader's answers are of the bytes that it was given.
use Rattle.std.proofs.Common.{◌≡◌, ◌⊎◌, ℕ, ◌^◌, ◌<◌, List, [], ◌∷◌, ◌++◌, length, Option, None, Some, refl, sym, ap, subst, ◌∙◌, append_assoc, arith, inl, inr}
use Rattle.std.specs.Prelude.{IsSome}
use Rattle.std.proofs.lemmas.Bool.{cases_lt}
use Rattle.std.proofs.lemmas.List.{append-nil}
use Rattle.frame_wire.specs.Frames.{size_of, IsPartial, IsTooLarge, BeginsFrame}
use Rattle.frame_wire.proofs.Streams.{large_after, large_begins, not_both}
use Rattle.command_fields.specs.declared.fault.DecodeFault.{DecodeFault}
use Rattle.command_all.specs.declared.command.Command.{Command}
use Rattle.command_all.specs.Reading.{BeginsUnspelt, ReadingEnd, Partial, Unspelt, TooLarge}
use Rattle.command_all.proofs.Readings.{SpelledFront, read_to, reads_behind, fronts_behind, front_more, no_front, one_front, one_reading, unspelt_after}
use Rattle.command_reader.specs.declared.reader.Next.{Next}
use Rattle.command_reader.specs.declared.reader.Next.TheVariants as answers
use Rattle.command_reader.specs.States.{ReaderState, IsEnded, taken, Takes, GivesCommand, Gives, new_reader}
use Rattle.command_reader.specs.Runs.{Call, Fed, Asked, Runs, bytes_of, commands_of, with_command, ReadsTo, IsAnswer, AnswersAreOfTheBytes, IsLast, RunsTo, TheBytesAloneCount}

-- What was taken spells what was given, and then the reader's rest. What came after the commands ended was not kept.
record SoFar (max : ℕ) (bytes : List ℕ) (given : List Command) (now : ReaderState) : Type 0 where
  left : List ℕ
  dropped : List ℕ
  front : SpelledFront max bytes given left
  is_max : now.max ≡ max
  kept : left ≡ now.rest ++ dropped
  ended : (dropped ≡ []) ⊎ IsEnded now

at_start : (max : ℕ) → SoFar max [] [] (new_reader max)
at_start max = record { left = []; dropped = []; front = no_front max []; is_max = refl; kept = refl; ended = inl refl }

-- ---- whether the commands have ended

large_or_not : (state : ReaderState) → IsTooLarge state.max state.rest (size_of state.rest) ⊎ (IsTooLarge state.max state.rest (size_of state.rest) → ⊥)
large_or_not state =
    elim (cases_lt (length state.rest) 4) [
      | inl few ↦ inr (λ large. let whole = large.whole in omega arith)
      | inr four ↦
          elim (cases_lt state.max (size_of state.rest)) [
            | inl above ↦ inl (record { whole = four; is_size = refl; above = above })
            | inr le ↦ inr (λ large. let above = large.above in omega arith)
          ]
    ]

either : (o : Option DecodeFault) (Large : Type 0) → Large ⊎ (Large → ⊥) → (IsSome o ⊎ Large) ⊎ ((IsSome o ⊎ Large) → ⊥)
either (Some fault) Large h = inl (inl refl)
either None Large (inl large) = inl (inr large)
either None Large (inr small) = inr (λ ended. elim ended [ inl some ↦ absurd (cc some) | inr large ↦ small large ])

ended_or_not : (state : ReaderState) → IsEnded state ⊎ (IsEnded state → ⊥)
ended_or_not state = either state.unspelt (IsTooLarge state.max state.rest (size_of state.rest)) (large_or_not state)

goes_on : (o : Option DecodeFault) (Large : Type 0) → o ≡ None → (Large → ⊥) → (IsSome o ⊎ Large) → ⊥
goes_on o Large none small (inl some) = absurd (cc (none, some))
goes_on o Large none small (inr large) = small large

whole_frame_goes_on : (state : ReaderState) → state.max < 2 ^ 32 → state.unspelt ≡ None → BeginsFrame state.max state.rest → IsEnded state → ⊥
whole_frame_goes_on state small none b = goes_on state.unspelt _ none (λ large. large_begins state.max small state.rest (size_of state.rest) large b)

partial_goes_on : (state : ReaderState) → state.unspelt ≡ None → IsPartial state.max state.rest → IsEnded state → ⊥
partial_goes_on state none partial = goes_on state.unspelt _ none (λ large. not_both state.max state.rest (size_of state.rest) partial large)

all_kept : (max : ℕ) (bytes : List ℕ) (given : List Command) (now : ReaderState) (f : SoFar max bytes given now) → (IsEnded now → ⊥) → f.left ≡ now.rest
all_kept max bytes given now f goes =
    elim f.ended [
      | inl none ↦ f.kept ∙ ap (λ (x : List ℕ). now.rest ++ x) none ∙ append-nil now.rest
      | inr ended ↦ absurd (goes ended)
    ]

-- ---- one call

fed_more : (max : ℕ) (bytes piece : List ℕ) (given : List Command) (now next : ReaderState) → SoFar max bytes given now → Takes now piece next → SoFar max (bytes ++ piece) given next
fed_more max bytes piece given now next f takes =
    let front = front_more max bytes piece given f.left f.front in
    elim (ended_or_not now) [
      | inl ended ↦
          let all : SoFar max (bytes ++ piece) given now = record { left = f.left ++ piece; dropped = f.dropped ++ piece; front = front; is_max = f.is_max; kept = ap (λ (x : List ℕ). x ++ piece) f.kept ∙ append_assoc now.rest f.dropped piece; ended = inr ended } in
          subst (SoFar max (bytes ++ piece) given) (sym (takes.0 ended)) all
      | inr goes ↦
          let all : SoFar max (bytes ++ piece) given (taken now piece) =
          record { left = f.left ++ piece; dropped = []; front = front; is_max = f.is_max; kept = ap (λ (x : List ℕ). x ++ piece) (all_kept max bytes given now f goes) ∙ sym (append-nil (now.rest ++ piece)); ended = inl refl } in
          subst (SoFar max (bytes ++ piece) given) (sym (takes.1 goes)) all
    ]

-- what was given, with the command that this answer gives
with_next : (max : ℕ) → max < 2 ^ 32 → (bytes : List ℕ) (given : List Command) (now next : ReaderState) (command : Command) → SoFar max bytes given now → (g : GivesCommand now command next) → SpelledFront max bytes (given ++ command ∷ []) g.frame.more
with_next max small bytes given now next command f g =
    let is_max = f.is_max in
    let kept = all_kept max bytes given now f (whole_frame_goes_on now (omega arith) g.unspelt g.frame) in
    let fits = g.frame.fits in
    let begins : BeginsFrame max f.left = record { body = g.frame.body; more = g.frame.more; fits = omega arith; framed = kept ∙ g.frame.framed } in
    fronts_behind max bytes f.left given (command ∷ []) g.frame.more f.front (one_front max f.left begins command g.spells)

asked_more : (max : ℕ) → max < 2 ^ 32 → (bytes : List ℕ) (given : List Command) (now next : ReaderState) (answer : Next) → SoFar max bytes given now → Gives now answer next → SoFar max bytes (given ++ with_command answer []) next
asked_more max small bytes given now next (answers.Command command) f g =
    let all : SoFar max bytes (given ++ command ∷ []) (record { max = now.max; rest = g.frame.more; unspelt = None }) =
    record { left = g.frame.more; dropped = []; front = with_next max small bytes given now next command f g; is_max = f.is_max; kept = sym (append-nil g.frame.more); ended = inl refl } in
    subst (SoFar max bytes (given ++ command ∷ [])) (sym g.left) all
asked_more max small bytes given now next (answers.Unspelt fault) f g =
    let all : SoFar max bytes given (record { max = now.max; rest = now.rest; unspelt = Some fault }) = record { left = f.left; dropped = f.dropped; front = f.front; is_max = f.is_max; kept = f.kept; ended = inr (inl refl) } in
    subst (λ (cs : List Command). SoFar max bytes cs next) (sym (append-nil given)) (subst (SoFar max bytes given) (sym g.1) all)
asked_more max small bytes given now next (answers.TooLarge size) f g = subst (λ (cs : List Command). SoFar max bytes cs next) (sym (append-nil given)) (subst (SoFar max bytes given) (sym g.2) f)
asked_more max small bytes given now next answers.More f g = subst (λ (cs : List Command). SoFar max bytes cs next) (sym (append-nil given)) (subst (SoFar max bytes given) (sym g.2) f)

-- ---- runs

with_others : (answer : Next) (commands : List Command) → with_command answer [] ++ commands ≡ with_command answer commands
with_others (answers.Command command) commands = refl
with_others (answers.Unspelt fault) commands = refl
with_others (answers.TooLarge size) commands = refl
with_others answers.More commands = refl

runs_so_far : (max : ℕ) → max < 2 ^ 32 → (calls : List Call) (bytes : List ℕ) (given : List Command) (old now : ReaderState) → SoFar max bytes given old → Runs old calls now → SoFar max (bytes ++ bytes_of calls) (given ++ commands_of calls) now
runs_so_far max small [] bytes given old now f runs =
    subst (λ (b : List ℕ). SoFar max b (given ++ []) now) (sym (append-nil bytes)) (subst (λ (cs : List Command). SoFar max bytes cs now) (sym (append-nil given)) (subst (SoFar max bytes given) (sym runs) f))
runs_so_far max small (Fed piece ∷ calls) bytes given old now f runs =
    let one = fed_more max bytes piece given old runs.0 f runs.1 in
    let all = runs_so_far max small calls (bytes ++ piece) given runs.0 now one runs.2 in
    subst (λ (b : List ℕ). SoFar max b (given ++ commands_of calls) now) (append_assoc bytes piece (bytes_of calls)) all
runs_so_far max small (Asked answer ∷ calls) bytes given old now f runs =
    let one = asked_more max small bytes given old runs.0 answer f runs.1 in
    let all = runs_so_far max small calls bytes (given ++ with_command answer []) runs.0 now one runs.2 in
    let commands : (given ++ with_command answer []) ++ commands_of calls ≡ given ++ with_command answer (commands_of calls) = append_assoc given (with_command answer []) (commands_of calls) ∙ ap (λ (cs : List Command). given ++ cs) (with_others answer (commands_of calls)) in
    subst (λ (cs : List Command). SoFar max (bytes ++ bytes_of calls) cs now) commands all

-- ---- answers

is_answer : (max : ℕ) → max < 2 ^ 32 → (bytes : List ℕ) (given : List Command) (now after : ReaderState) (answer : Next) → SoFar max bytes given now → Gives now answer after → IsAnswer max bytes given answer
is_answer max small bytes given now after (answers.Command command) f g =
    λ commands rest end reading.
    let behind = reads_behind max small bytes g.frame.more (given ++ command ∷ []) commands rest end (with_next max small bytes given now after command f g) reading in
    (behind.more, behind.are ∙ append_assoc given (command ∷ []) behind.more)
is_answer max small bytes given now after (answers.Unspelt fault) f g =
    let here = subst (λ (m : ℕ). BeginsUnspelt m now.rest fault) f.is_max g.0 in
    let left = subst (λ (r : List ℕ). BeginsUnspelt max r fault) (sym f.kept) (unspelt_after max now.rest f.dropped fault here) in
    (f.left, read_to max bytes given f.left (Unspelt fault) f.front left)
is_answer max small bytes given now after (answers.TooLarge size) f g =
    let here = subst (λ (m : ℕ). IsTooLarge m now.rest size) f.is_max g.1 in
    let left = subst (λ (r : List ℕ). IsTooLarge max r size) (sym f.kept) (large_after max now.rest f.dropped size here) in
    (f.left, read_to max bytes given f.left (TooLarge size) f.front left)
is_answer max small bytes given now after answers.More f g =
    let kept = all_kept max bytes given now f (partial_goes_on now g.0 g.1) in
    let here = subst (λ (m : ℕ). IsPartial m now.rest) f.is_max g.1 in
    (f.left, read_to max bytes given f.left Partial f.front (subst (IsPartial max) (sym kept) here))

pub answers_follow : AnswersAreOfTheBytes
answers_follow max small calls now after answer runs gives = is_answer max small (bytes_of calls) (commands_of calls) now after answer (runs_so_far max small calls [] [] (new_reader max) now (at_start max) runs) gives

-- ---- the bytes alone

-- the end that a last answer tells
abbrev end_by : Next → ReadingEnd
end_by (answers.Command command) = Partial
end_by (answers.Unspelt fault) = Unspelt fault
end_by (answers.TooLarge size) = TooLarge size
end_by answers.More = Partial

last_reads : (max : ℕ) (bytes : List ℕ) (given : List Command) (answer : Next) → IsLast answer → IsAnswer max bytes given answer → ReadsTo max bytes given (end_by answer)
last_reads max bytes given (answers.Command command) last h = absurd (last command refl)
last_reads max bytes given (answers.Unspelt fault) last h = h
last_reads max bytes given (answers.TooLarge size) last h = h
last_reads max bytes given answers.More last h = h

same_answer : (a b : Next) → IsLast a → IsLast b → end_by a ≡ end_by b → a ≡ b
same_answer (answers.Command command) b p q e = absurd (p command refl)
same_answer (answers.Unspelt fault) (answers.Command command) p q e = absurd (q command refl)
same_answer (answers.Unspelt fault) (answers.Unspelt other) p q e = let same : fault ≡ other = cc in ap (λ (x : DecodeFault). answers.Unspelt x) same
same_answer (answers.Unspelt fault) (answers.TooLarge size) p q e = absurd cc
same_answer (answers.Unspelt fault) answers.More p q e = absurd cc
same_answer (answers.TooLarge size) (answers.Command command) p q e = absurd (q command refl)
same_answer (answers.TooLarge size) (answers.Unspelt fault) p q e = absurd cc
same_answer (answers.TooLarge size) (answers.TooLarge other) p q e = let same : size ≡ other = cc in ap (λ (n : ℕ). answers.TooLarge n) same
same_answer (answers.TooLarge size) answers.More p q e = absurd cc
same_answer answers.More (answers.Command command) p q e = absurd (q command refl)
same_answer answers.More (answers.Unspelt fault) p q e = absurd cc
same_answer answers.More (answers.TooLarge size) p q e = absurd cc
same_answer answers.More answers.More p q e = refl

run_reads : (max : ℕ) → max < 2 ^ 32 → (calls : List Call) (answer : Next) → RunsTo max calls answer → ReadsTo max (bytes_of calls) (commands_of calls) (end_by answer)
run_reads max small calls answer r = last_reads max (bytes_of calls) (commands_of calls) answer r.last (answers_follow max small calls r.now r.after answer r.runs r.gives)

pub bytes_alone : TheBytesAloneCount
bytes_alone max small calls others answer other one two same =
    let mine = run_reads max small calls answer one in
    let theirs = subst (λ (b : List ℕ). ReadsTo max b (commands_of others) (end_by other)) (sym same) (run_reads max small others other two) in
    let both = one_reading max (bytes_of calls) (commands_of calls) (commands_of others) mine.0 theirs.0 (end_by answer) (end_by other) small mine.1 theirs.1 in
    (both.0, same_answer answer other one.last two.last both.2)
