-- The hub in memory, as what it is seen as.
use Rattle.std.specs.Prelude.{◌≡◌, ◌↔◌, ℕ, ◌+◌, ◌-◌, ◌^◌, min, Bool, true, false, List, [], Option, Some, None}
use Rattle.std.specs.List.{Contains}
use Rattle.active_groups.specs.Seating.{Seating}
use Rattle.stream_catalog.specs.Names.{Names, no_names}
use Rattle.stream_terms.specs.Views.{StreamView}
use Rattle.hub_terms.specs.declared.terms.HubDid.{HubDid}
use Rattle.hub_terms.specs.declared.terms.HubDid.TheVariants.{Failed}
use Rattle.hub_terms.specs.Calls.{Call, Answer, Creating, Deleting, CreatingSuper, DeletingSuper}
use Rattle.hub_terms.specs.Meaning.{HubSeen, HubMeaning}
use Rattle.hub_terms.specs.Tables.{HubTable, TableDoes, TableLater, list_at, passes_by, view_at, set_view}

-- a table of streams; the numbers, from 1, of the changes of the catalog that fail; and how many were asked for
pub record HubInMemory : Type 0 where
  pub table : HubTable
  pub fails : List ℕ
  pub changes : ℕ

-- no disk ever leaves other names than those in hand
abbrev pub table_of : Names → ℕ → List StreamView → List Seating → ℕ → HubTable
table_of names limit views groups faults = record { names = names; limit = limit; others = []; views = views; groups = groups; faults = faults }

abbrev pub hub_of : Names → ℕ → List StreamView → List Seating → ℕ → List ℕ → ℕ → HubInMemory
hub_of names limit views groups faults fails changes = record { table = table_of names limit views groups faults; fails = fails; changes = changes }

abbrev pub empty_hub : ℕ → List ℕ → HubInMemory
empty_hub limit fails = hub_of no_names limit [] [] 0 fails 0

-- ---- which changes fail

abbrev pub one_more : ℕ → ℕ
one_more n = min (n + 1) (2 ^ 64 - 1)

-- the next change is a listed one
abbrev pub FailsNext : HubInMemory → Type 0
FailsNext h = Contains h.fails (one_more h.changes)

abbrev pub with_fault : HubInMemory → HubInMemory
with_fault h = record h { table = record h.table { faults = one_more h.table.faults } }

-- a change was counted, and a failure of it too
abbrev pub counted : Bool → HubInMemory → HubInMemory
counted true h = with_fault (record h { changes = one_more h.changes })
counted false h = record h { changes = one_more h.changes }

-- a change fails exactly where it is listed
pub record ChangeCounts (a : HubInMemory) (r : HubDid) (b : HubInMemory) : Type 0 where
  pub listed : (r ≡ Failed) ↔ FailsNext a
  pub fails : b.fails ≡ a.fails
  pub changes : b.changes ≡ one_more a.changes

-- no other call is counted
pub record OthersCount (a b : HubInMemory) : Type 0 where
  pub fails : b.fails ≡ a.fails
  pub changes : b.changes ≡ a.changes

abbrev pub Counts : (c : Call) → HubInMemory → Answer c → HubInMemory → Type 0
Counts (Creating name) a r b = ChangeCounts a r b
Counts (Deleting name) a r b = ChangeCounts a r b
Counts (CreatingSuper name parts keys) a r b = ChangeCounts a r b
Counts (DeletingSuper name) a r b = ChangeCounts a r b
Counts _ a r b = OthersCount a b

-- ---- what it is as a hub

-- a step of the exact table, whose changes fail exactly where they are listed
pub record MemoryDoes (c : Call) (a : HubInMemory) (r : Answer c) (b : HubInMemory) : Type 0 where
  pub table : TableDoes c a.table r b.table
  pub counts : Counts c a r b

abbrev pub memory_seen : HubSeen HubInMemory
memory_seen = record {
  lists = λ h. list_at h.table;
  passes = λ h stream. passes_by (view_at h.table.views stream);
  faults = λ h. h.table.faults;
  later = λ a b. TableLater a.table b.table;
}

abbrev pub memory_meaning : HubMeaning HubInMemory
memory_meaning = record { seen = memory_seen; does = MemoryDoes }

-- ---- calls beside those of a hub

abbrev pub at_view : (StreamView → StreamView) → ℕ → List StreamView → Option StreamView → List StreamView
at_view f stream views None = views
at_view f stream views (Some v) = set_view views stream (f v)

-- another view of one stream, where there is one of the number
abbrev pub at_stream : (StreamView → StreamView) → ℕ → List StreamView → List StreamView
at_stream f stream views = at_view f stream views (view_at views stream)

abbrev pub at_hub : (StreamView → StreamView) → ℕ → HubInMemory → HubInMemory
at_hub f stream h = record h { table = record h.table { views = at_stream f stream h.table.views } }

-- a stream of which an epoch runs, or none
abbrev pub run_as : Option ℕ → StreamView → StreamView
run_as running v = record v { running = running }
