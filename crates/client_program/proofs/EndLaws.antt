-- A client's program that ran to its end.
use Rattle.std.proofs.Common.{◌≡◌, ℕ, List, Option, Result, Ok, refl, subst}
use Rattle.outside_io.specs.declared.link.Hearing.{Hearing}
use Rattle.stream_client.specs.Cores.{CoreState}
use Rattle.client_program.specs.Words.{Asked}
use Rattle.client_program.specs.Acts.{MakesCore, core_of, wanted_of}
use Rattle.client_program.specs.Runs.{run_at, RunsTo}
use Rattle.client_program.specs.Ends.{Ran, Reports, last_lines, outside_at}
use Rattle.client_program.specs.declared.lines.LinesFault.{LinesFault}
use Rattle.client_program.specs.declared.run.ClientEnd.{ClientEnd}

made_so : (core : CoreState) (a : Asked) (text : List ℕ) (m : MakesCore (Ok core) a text) → MakesCore (Ok (core_of a m.lines)) a text
made_so core a text m = record { lines = m.lines; are = m.are; by = (m.by.0, refl) }

pub made_at : (result : Result CoreState LinesFault) (a : Asked) (lent text : List ℕ) → lent ≡ text → MakesCore result a lent → MakesCore result a text
made_at result a lent text e m = subst (MakesCore result a) e m

runs_so : (end : ClientEnd) (core other after : CoreState) (wanted n left : ℕ) (heard heard_after : Option (List Hearing)) (out out_after written written_after : Option (List ℕ)) → core ≡ other → wanted ≡ n → RunsTo end (run_at core wanted heard out written) (run_at after left heard_after out_after written_after) → RunsTo end (run_at other n heard out written) (run_at after left heard_after out_after written_after)
runs_so end core other after wanted n left heard heard_after out out_after written written_after e f runs =
    subst (λ (c : CoreState). RunsTo end (run_at c n heard out written) (run_at after left heard_after out_after written_after)) e
    (subst (λ (w : ℕ). RunsTo end (run_at core w heard out written) (run_at after left heard_after out_after written_after)) f runs)

pub ran : (a : Asked) (text : List ℕ) (core after : CoreState) (status : ℕ) (end : ClientEnd) (wanted left : ℕ) (heard heard_after : Option (List Hearing)) (out out_after written written_after told : Option (List ℕ)) → MakesCore (Ok core) a text → wanted ≡ wanted_of a.deed
    → RunsTo end (run_at core wanted heard out written) (run_at after left heard_after out_after written_after) → Reports status end (last_lines a.deed end after.client) written_after told → Ran a text status (outside_at heard out written) (outside_at heard_after out_after told)
ran a text core after status end wanted left heard heard_after out out_after written written_after told m n runs reports = record {
  lines = m.lines;
  made = made_so core a text m;
  end = end;
  last = run_at after left heard_after out_after written_after;
  runs = runs_so end core (core_of a m.lines) after wanted (wanted_of a.deed) left heard heard_after out out_after written written_after m.by.1 n runs;
  reports = reports;
  heard = refl;
  sent = refl;
}
