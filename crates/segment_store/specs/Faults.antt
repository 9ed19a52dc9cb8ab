-- A fault of files of pairs, as one of a store.
use Rattle.gated_words.specs.declared.fault.GateFault.{GateFault}
use Rattle.gated_words.specs.declared.fault.GateFault.TheVariants as gate
use Rattle.segment_store.specs.declared.fault.StoreFault.{StoreFault}
use Rattle.segment_store.specs.declared.fault.StoreFault.TheVariants as store

abbrev pub of_gate : GateFault → StoreFault
of_gate gate.Disk = store.Disk
of_gate (gate.Damaged place) = store.DamagedWords place
of_gate gate.Memory = store.Memory
