-- What changes of the catalog do to names and streams.
use Rattle.std.specs.Prelude.{◌≡◌, ℕ, zero, suc, ◌+◌, List, [], ◌∷◌, ◌++◌, map, length, take, drop, slice_index_or, slice_set, Result, Ok, Err}
use Rattle.std.specs.declared.alloc.AllocError.{AllocError}
use Rattle.command_fields.specs.declared.response.ResponseCode.TheVariants as code
use Rattle.stream_catalog.specs.declared.change.Change.{Change}
use Rattle.stream_catalog.specs.declared.fault.CatalogFault.{CatalogFault}
use Rattle.stream_catalog.specs.declared.fault.CatalogFault.TheVariants as refused
use Rattle.stream_catalog.specs.Names.{Names}
use Rattle.stream_catalog.specs.Rules.{changed}
use Rattle.stream_terms.specs.Views.{StreamView}
use Rattle.memory_stream.specs.Gives.{fresh}
use Rattle.hub_terms.specs.declared.terms.HubDid.{HubDid}
use Rattle.hub_terms.specs.declared.terms.HubDid.TheVariants.{Code, Failed, Memory}
use Rattle.hub_terms.specs.Tables.{stands}
use Rattle.memory_hub.specs.Hubs.{HubInMemory}

-- streams without chunks, so many, with consecutive numbers
abbrev pub new_streams : ℕ → ℕ → List StreamView
new_streams first zero = []
new_streams first (suc count) = fresh first ∷ new_streams (suc first) count

-- of the first streams, so many, those without a name have ended
abbrev pub stand_first : Names → ℕ → List StreamView → List StreamView
stand_first names count views = map (stands names) (take count views) ++ drop count views

-- the stream at a place has ended where it has no name
abbrev pub StandsAt : Names → ℕ → List StreamView → List StreamView → Type 0
StandsAt names place old new = (v : StreamView) × (v ≡ slice_index_or old place v) × (new ≡ slice_set old place (stands names v))

-- how a hub tells that a change is refused, or that memory ran out
abbrev pub told_as : CatalogFault → HubDid
told_as refused.Missing = Code code.StreamDoesNotExist
told_as refused.Exists = Code code.StreamAlreadyExists
told_as (refused.Refused why) = Code code.PreconditionFailed
told_as refused.Disk = Memory
told_as (refused.Damaged place) = Memory
told_as refused.Memory = Memory

-- how a hub tells that a change was made, or that memory ran out
abbrev pub done : Result (Unit {0}) AllocError → HubDid
done (Ok u) = Code code.Ok
done (Err e) = Memory

-- the hub with these names and streams
abbrev pub with_streams : Names → List StreamView → HubInMemory → HubInMemory
with_streams names views h = record h { table = record h.table { names = names; views = views } }

-- the names after a change; streams without one have ended, and so many new ones came behind the others
abbrev pub after_change : Names → ℕ → HubInMemory → HubInMemory
after_change names count h = with_streams names (map (stands names) h.table.views ++ new_streams (suc (length h.table.views)) count) h

-- a change was made, or memory ran out
abbrev pub Comes : Change → ℕ → HubInMemory → HubDid → HubInMemory → Type 0
Comes c count a (Code response) b = (response ≡ code.Ok) × (b ≡ after_change (changed c a.table.names) count a)
Comes c count a Failed b = ⊥
Comes c count a Memory b = b ≡ a
