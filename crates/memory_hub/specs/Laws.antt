-- The hub in memory keeps what a hub promises.
use Rattle.std.specs.Prelude.{ℕ, List, [], ◌∷◌, Result, Ok, Err}
use Rattle.std.specs.List.{AllByRecursion}
use Rattle.std.specs.declared.alloc.AllocError.{AllocError}
use Rattle.stream_terms.specs.declared.terms.Confirm.{Confirm}
use Rattle.stream_terms.specs.declared.terms.Pass.{Pass}
use Rattle.stream_terms.specs.declared.terms.DeclareFault.{DeclareFault}
use Rattle.hub_terms.specs.declared.terms.HubDid.{HubDid}
use Rattle.hub_terms.specs.declared.terms.HubDid.TheVariants.{Code, Failed, Memory}
use Rattle.hub_terms.specs.Calls.{Call, Answer, Words, Finding, Creating, Deleting, CreatingSuper, DeletingSuper, PartsOf, Routing, Declaring, Offering, StoringOffset, Confirming, Starting, NextChunk, GreatestOf, StoredOf, LastChunk, Joining, Leaving, Changing, Answering, IsActive}
use Rattle.hub_terms.specs.Meaning.{HubLaws, Told, ToldChange, ToldPass, ToldConfirms, ConfirmTold}
use Rattle.hub_terms.specs.Tables.{table_seen}
use Rattle.hub_terms.proofs.TableLaws.{table_laws}
use Rattle.memory_hub.specs.Hubs.{HubInMemory, memory_seen, memory_meaning}

abbrev confirm_told : (session : ℕ) (b : HubInMemory) (c : Confirm) → ConfirmTold table_seen session b.table c → ConfirmTold memory_seen session b c
confirm_told session b c t = record {
  given = t.given;
  known = t.known;
  of_session = t.of_session;
  of_stream = t.of_stream;
  serial = t.serial;
  some = t.some;
  few = t.few;
  reached = t.reached;
  by_name = t.by_name;
}

abbrev each_told : (session : ℕ) (b : HubInMemory) (cs : List Confirm) → AllByRecursion (ConfirmTold table_seen session b.table) cs → AllByRecursion (ConfirmTold memory_seen session b) cs
each_told session b [] h = tt
each_told session b (c ∷ cs) h = (confirm_told session b c h.0, each_told session b cs h.1)

abbrev confirms_told : (session : ℕ) (b : HubInMemory) (r : Result (List Confirm) AllocError) → ToldConfirms table_seen session r b.table → ToldConfirms memory_seen session r b
confirms_told session b (Ok cs) h = each_told session b cs h
confirms_told session b (Err e) h = tt

abbrev change_told : (a b : HubInMemory) (r : HubDid) → ToldChange table_seen a.table r b.table → ToldChange memory_seen a r b
change_told a b (Code response) h = h
change_told a b Failed h = h
change_told a b Memory h = h

abbrev pass_told : (session stream : ℕ) (name : Words) (b : HubInMemory) (r : Result Pass DeclareFault) → ToldPass table_seen session stream name r b.table → ToldPass memory_seen session stream name r b
pass_told session stream name b (Ok p) h = h
pass_told session stream name b (Err fault) h = h

-- what an answer tells of the table it tells of the hub
abbrev told : (c : Call) (a b : HubInMemory) (r : Answer c) → Told table_seen c a.table r b.table → Told memory_seen c a r b
told (Finding name) a b r h = h
told (Creating name) a b r h = change_told a b r h
told (Deleting name) a b r h = change_told a b r h
told (CreatingSuper name parts keys) a b r h = change_told a b r h
told (DeletingSuper name) a b r h = change_told a b r h
told (PartsOf name) a b r h = h
told (Routing key name) a b r h = h
told (Declaring session stream name) a b r h = pass_told session stream name b r h
told (Offering stream pass items now) a b r h = h
told (StoringOffset stream name offset now) a b r h = h
told (Confirming session) a b r h = confirms_told session b r h
told (Starting stream spec) a b r h = h
told (NextChunk stream from) a b r h = h
told (GreatestOf stream name) a b r h = h
told (StoredOf stream name) a b r h = h
told (LastChunk stream) a b r h = h
told (Joining stream name consumer) a b r h = h
told (Leaving consumer) a b r h = h
told (Changing session) a b r h = h
told (Answering consumer) a b r h = h
told (IsActive consumer) a b r h = h

abbrev pub memory_laws : HubLaws memory_meaning
memory_laws = record {
  seen = record {
    same = λ a. table_laws.seen.same a.table;
    joins = λ a b c. table_laws.seen.joins a.table b.table c.table;
    lists_grow = λ a b. table_laws.seen.lists_grow a.table b.table;
    passes_grow = λ a b. table_laws.seen.passes_grow a.table b.table;
    counts = λ a b. table_laws.seen.counts a.table b.table;
  };
  called = λ c a b r d. record {
    later = (table_laws.called c a.table b.table r d.table).later;
    logs = (table_laws.called c a.table b.table r d.table).logs;
    told = told c a b r (table_laws.called c a.table b.table r d.table).told;
  };
}
