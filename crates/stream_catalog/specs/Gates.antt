-- The faults of pairs as those of the catalog.
use Rattle.gated_words.specs.declared.fault.GateFault.{GateFault}
use Rattle.gated_words.specs.declared.fault.GateFault.TheVariants as gates
use Rattle.stream_catalog.specs.declared.fault.CatalogFault.{CatalogFault}
use Rattle.stream_catalog.specs.declared.fault.CatalogFault.TheVariants as faults

abbrev pub fault_of : GateFault → CatalogFault
fault_of gates.Disk = faults.Disk
fault_of (gates.Damaged place) = faults.Damaged place
fault_of gates.Memory = faults.Memory
