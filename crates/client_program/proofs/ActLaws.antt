-- Acts without messages.
use Rattle.std.proofs.Common.{◌≡◌, List, [], ℕ, Ok, Err, sym, subst}
use Rattle.client_terms.specs.States.{ClientState}
use Rattle.client_program.specs.Words.{Deed, Asked}
use Rattle.client_program.specs.Lines.{filled}
use Rattle.client_program.specs.Acts.{QueuedBy, QueuesFor, MakesCore}
use Rattle.client_program.specs.declared.lines.LinesFault.TheVariants.{Memory}
use Rattle.client_program.proofs.LineLaws.{lines_exist, filled_none}

pub nothing_queued : (d : Deed) (text : List ℕ) (s : ClientState) → ((lines : List (List ℕ)) → s ≡ filled s [] → QueuedBy (Ok tt) d lines s s) → QueuesFor (Ok tt) d text s s
nothing_queued d text s by =
    let some = lines_exist text in
    record { lines = some.0; are = some.1; by = by some.0 (filled_none s) }

pub nothing_for : (d e : Deed) (text : List ℕ) (s : ClientState) → d ≡ e → ((lines : List (List ℕ)) → s ≡ filled s [] → QueuedBy (Ok tt) e lines s s) → QueuesFor (Ok tt) d text s s
nothing_for d e text s same by = subst (λ (x : Deed). QueuesFor (Ok tt) x text s s) (sym same) (nothing_queued e text s by)

pub no_memory : (a : Asked) (text : List ℕ) → MakesCore (Err Memory) a text
no_memory a text =
    let some = lines_exist text in
    record { lines = some.0; are = some.1; by = tt }
