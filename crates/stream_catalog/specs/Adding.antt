-- New names behind a list of names.
use Rattle.std.specs.Prelude.{◌≡◌, ◌≤◌, ◌+◌, ℕ, Bool, ◌&&◌, List, [], ◌∷◌, ◌++◌, is_none, Option, Some, None, true, false, ◌==◌}
use Rattle.std.specs.List.{list_all}
use Rattle.std.specs.Map.{lookup}
use Rattle.stream_catalog.specs.declared.holder.Holder.{Holder}
use Rattle.stream_catalog.specs.declared.change.ChangeKind.{ChangeKind}
use Rattle.stream_catalog.specs.declared.change.ChangeKind.TheVariants.{Create, Delete, CreateSuper, DeleteSuper}
use Rattle.stream_catalog.specs.declared.fault.CatalogFault.{CatalogFault}
use Rattle.stream_catalog.specs.declared.fault.CatalogFault.TheVariants as fault
use Rattle.stream_catalog.specs.Names.{Names, same_name, numbered, streams}
use Rattle.stream_catalog.specs.Rules.{all_differ}

-- none of these names stands for something, and no two of them are equal
abbrev pub are_free : List (List ℕ × Holder) → List (List ℕ) → Bool
are_free list names = list_all (λ name. is_none (lookup (same_name name) list)) names && all_differ names

-- a change that brings names
abbrev pub Comes : ChangeKind → Type 0
Comes Create = Unit {0}
Comes CreateSuper = Unit {0}
Comes Delete = ⊥
Comes DeleteSuper = ⊥

-- a change that takes names away
abbrev pub Goes : ChangeKind → Type 0
Goes Create = ⊥
Goes CreateSuper = ⊥
Goes Delete = Unit {0}
Goes DeleteSuper = Unit {0}

-- numbers that strictly rise, from one on to at most another
abbrev pub Rising : ℕ → List ℕ → ℕ → Type 0
Rising low [] high = low ≤ high + 1
Rising low (n ∷ ns) high = (low ≤ n) × Rising (n + 1) ns high

-- the numbers of the live streams rise from 1 on, to at most the greatest ever given
abbrev pub AreNumbered : Names → Type 0
AreNumbered names = Rising 1 (streams names) names.last

-- the number of a stream that comes behind others is none of theirs
abbrev pub HasNewNumber : Holder → List (ℕ × ℕ) → Type 0
HasNewNumber holder streams = (number place : ℕ) → numbered holder ≡ (number, place) ∷ [] → lookup (λ n. number == n) streams ≡ None

-- names with others behind them
pub record IsFront (front names : Names) : Type 0 where
  pub numbered : AreNumbered front
  pub more : List (List ℕ × Holder)
  pub list : names.list ≡ front.list ++ more

-- what one pair makes of the names: those after it, or it is damaged
abbrev pub TakesPair : Bool → Option Names → Names → Type 0
TakesPair true after new = after ≡ Some new
TakesPair false after new = after ≡ None

-- bytes and pairs in hand are damaged somewhere, or memory ran out
abbrev pub IsReadFault : CatalogFault → Type 0
IsReadFault fault.Missing = ⊥
IsReadFault fault.Exists = ⊥
IsReadFault (fault.Refused why) = ⊥
IsReadFault fault.Disk = ⊥
IsReadFault (fault.Damaged place) = Unit {0}
IsReadFault fault.Memory = Unit {0}
