-- What the lock of a server's catalog holds, and what a change of it does.
use Rattle.std.specs.Prelude.{◌≡◌, ◌⊎◌, ℕ, ◌+◌, ◌-◌, ◌^◌, ◌≤◌, min, IsTrue, Result, Ok, Err}
use Rattle.command_fields.specs.declared.response.ResponseCode.TheVariants as code
use Rattle.disk_calls.specs.Disk.{DiskState, Rose}
use Rattle.gated_words.specs.InHand.{InHand}
use Rattle.stream_catalog.specs.declared.fault.CatalogFault.{CatalogFault}
use Rattle.stream_catalog.specs.declared.fault.CatalogFault.TheVariants as refused
use Rattle.stream_catalog.specs.Names.{Names}
use Rattle.stream_catalog.specs.Rules.{after}
use Rattle.stream_catalog.specs.Files.{catalog_of, seen_files}
use Rattle.stream_catalog.specs.InHand.{Catalogued, Shows, EachCatalog, MayChange}
use Rattle.hub_terms.specs.declared.terms.HubDid.{HubDid}
use Rattle.hub_terms.specs.declared.terms.HubDid.TheVariants.{Code, Failed, Memory}
use Rattle.hub_terms.specs.Meaning.{IsHubCode}
use Rattle.hub_terms.specs.Tables.{Rule, code_of}

-- the catalog, the epochs of the streams, the disk on which both stand, and how often the catalog was found damaged
pub record Room (D : Type 0) : Type 0 where
  pub catalog : Catalogued
  pub epochs : InHand
  pub disk : D
  pub damages : ℕ

abbrev pub room_of : {D : Type 0} → Catalogued → InHand → D → ℕ → Room D
room_of catalog epochs disk damages = record { catalog = catalog; epochs = epochs; disk = disk; damages = damages }

-- ---- how a change is told

-- A refusal has its code. A disk that failed, and files that are damaged, are a failure.
abbrev pub refused_as : CatalogFault → HubDid
refused_as refused.Missing = Code code.StreamDoesNotExist
refused_as refused.Exists = Code code.StreamAlreadyExists
refused_as (refused.Refused why) = Code code.PreconditionFailed
refused_as refused.Disk = Failed
refused_as (refused.Damaged place) = Failed
refused_as refused.Memory = Memory

abbrev pub told_as : {X : Type 0} → Result X CatalogFault → HubDid
told_as (Ok x) = Code code.Ok
told_as (Err fault) = refused_as fault

-- one more, up to the end of the count
abbrev pub one_more : ℕ → ℕ
one_more n = min (n + 1) (2 ^ 64 - 1)

-- files that are damaged are counted
abbrev pub damages_with : CatalogFault → ℕ → ℕ
damages_with (refused.Damaged place) n = one_more n
damages_with _ n = n

abbrev pub damages_after : {X : Type 0} → Result X CatalogFault → ℕ → ℕ
damages_after (Ok x) n = n
damages_after (Err fault) n = damages_with fault n

-- ---- what a change does

-- a code is one of a hub's
abbrev pub HasHubCode : HubDid → Type 0
HasHubCode (Code response) = IsHubCode response
HasHubCode Failed = Unit {0}
HasHubCode Memory = Unit {0}

-- The counts of faults and damages never fall, and one of them rose where the change is told as failed.
pub record HasFailed (did : HubDid) (old new before now : ℕ) : Type 0 where
  pub faults : old ≤ new
  pub damages : before ≤ now
  pub failed : did ≡ Failed → Rose old new ⊎ Rose before now

-- By the rules, from the names with which the change begins: its code, and the names after it. A change that failed, or for which memory ran out, isn't in the names: they are those with which it began, or still the old ones.
abbrev pub NamesBy : Rule → Names → Names → HubDid → Names → Type 0
NamesBy rule old start (Code response) new = (response ≡ code_of (rule start)) × IsHubCode response × (new ≡ after (rule start) start)
NamesBy rule old start Failed new = (new ≡ start) ⊎ (new ≡ old)
NamesBy rule old start Memory new = (new ≡ start) ⊎ (new ≡ old)

-- this holds where the change was made
abbrev pub IfDone : HubDid → Type 0 → Type 0
IfDone (Code code.Ok) P = P
IfDone _ P = Unit {0}

-- A change begins with the names that the files have, which are those in hand where these are sure. Whatever is told, each image that a crash may leave has the catalog of one from before, or that after the change; where it was made, each shows the names in hand.
pub record RoomDoes (rule : Rule) (old new : Catalogued) (did : HubDid) (s t : DiskState) : Type 0 where
  pub start : Names
  pub reads : catalog_of (seen_files s) ≡ Ok start
  pub in_hand : IsTrue old.sure → start ≡ old.names
  pub names : NamesBy rule old.names start did new.names
  pub images : MayChange rule s t
  pub done : IfDone did (EachCatalog (Shows new.names) t)
  pub limit : new.limit ≡ old.limit
