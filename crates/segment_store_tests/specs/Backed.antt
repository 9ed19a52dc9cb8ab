-- A store that a disk stands behind.
use Rattle.std.specs.Prelude.{List}
use Rattle.disk_calls.specs.Disk.{DiskState}
use Rattle.chunk_format.specs.declared.chunk.Chunk.{Chunk}
use Rattle.segment_store.specs.Stores.{BackedStore, StoreInHand}

-- the disk is what is in hand of the store, with some log
abbrev pub IsBacked : StoreInHand → DiskState → Type 0
IsBacked store s = (chunks : List Chunk) × BackedStore store chunks s
