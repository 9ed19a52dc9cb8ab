-- A session that is prepared on a stream: its connection is open from the start, without heartbeats, and publisher 0 is declared
-- without a reference.
use Rattle.std.specs.Prelude.{◌≡◌, ℕ, Result, Ok, Err, None}
use Rattle.command_all.specs.declared.identity.Identity.{Identity}
use Rattle.stream_terms.specs.declared.terms.Pass.{Pass}
use Rattle.stream_terms.specs.declared.terms.DeclareFault.{DeclareFault}
use Rattle.stream_terms.specs.declared.terms.DeclareFault.TheVariants as df
use Rattle.stream_terms.specs.Views.{name_of}
use Rattle.hub_terms.specs.declared.terms.Found.{Found}
use Rattle.hub_terms.specs.declared.terms.Found.TheVariants as found
use Rattle.hub_terms.specs.Calls.{Words, Finding, Declaring}
use Rattle.hub_terms.specs.Meaning.{HubMeaning}
use Rattle.hub_terms.specs.Programs.{Program, Runs, done, asking, lost}
use Rattle.session_tables.specs.Opening.{at}
use Rattle.session_tables.specs.Subscribing.{new_tables}
use Rattle.session_tables.specs.declared.tables.Stage.TheVariants.{Open}
use Rattle.session_tables.specs.declared.tables.Tables.{Tables}
use Rattle.session_core.specs.Publishing.{with_publisher}
use Rattle.session_core.specs.Sessions.{SessionState, new_session}
use Rattle.session_core.specs.declared.preparing.PrepareFault.{PrepareFault}
use Rattle.session_core.specs.declared.preparing.PrepareFault.TheVariants.{Missing, Closed, Memory}

abbrev pub declared : Tables → Words → Result Pass DeclareFault → Program (Result Tables PrepareFault)
declared t stream (Ok pass) = done (Ok (with_publisher 0 pass None stream (at Open t)))
declared t stream (Err df.Closed) = done (Err Closed)
declared t stream (Err df.Memory) = lost

abbrev pub prepare_on : Tables → Words → Found → Program (Result Tables PrepareFault)
prepare_on t stream found.Missing = done (Err Missing)
prepare_on t stream (found.Closed number) = done (Err Closed)
prepare_on t stream (found.Running number epoch) = asking (Declaring t.number number None) (declared t stream)

abbrev pub prepare_row : Tables → Words → Program (Result Tables PrepareFault)
prepare_row t stream = asking (Finding (name_of stream)) (prepare_on t stream)

-- nothing is prepared; of want of memory nothing is said
abbrev pub Refuses : {S : Type 0} → HubMeaning S → Program (Result Tables PrepareFault) → PrepareFault → S → S → Type 0
Refuses m row Missing h0 h1 = Runs m row h0 (Err Missing) h1
Refuses m row Closed h0 h1 = Runs m row h0 (Err Closed) h1
Refuses m row Memory h0 h1 = Unit {0}

abbrev pub Prepares : {S : Type 0} → HubMeaning S → Tables → Words → Result (Unit {0}) PrepareFault → Tables → S → S → Type 0
Prepares m t stream (Ok u) new h0 h1 = Runs m (prepare_row t stream) h0 (Ok new) h1
Prepares m t stream (Err fault) new h0 h1 = Refuses m (prepare_row t stream) fault h0 h1

abbrev pub PreparesAs : {S : Type 0} → HubMeaning S → Identity → ℕ → ℕ → Words → S → Result SessionState PrepareFault → S → Type 0
PreparesAs m who number now stream h0 (Ok s) h1 = (s ≡ new_session who s.tables) × Runs m (prepare_row (new_tables number now) stream) h0 (Ok s.tables) h1
PreparesAs m who number now stream h0 (Err fault) h1 = Refuses m (prepare_row (new_tables number now) stream) fault h0 h1
