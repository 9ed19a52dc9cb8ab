-- What a call gives that asks the rules.
use Rattle.std.specs.Prelude.{◌≡◌, Result, Ok, Err}
use Rattle.stream_catalog.specs.declared.change.Change.{Change}
use Rattle.stream_catalog.specs.declared.fault.CatalogFault.{CatalogFault}
use Rattle.stream_catalog.specs.declared.fault.CatalogFault.TheVariants as fault

-- the change that happens, or why none does, or memory ran out
abbrev pub Asks : Result Change CatalogFault → Result Change CatalogFault → Type 0
Asks (Ok c) asked = asked ≡ Ok c
Asks (Err fault.Missing) asked = asked ≡ Err fault.Missing
Asks (Err fault.Exists) asked = asked ≡ Err fault.Exists
Asks (Err (fault.Refused why)) asked = asked ≡ Err (fault.Refused why)
Asks (Err fault.Disk) asked = ⊥
Asks (Err (fault.Damaged place)) asked = ⊥
Asks (Err fault.Memory) asked = Unit {0}
