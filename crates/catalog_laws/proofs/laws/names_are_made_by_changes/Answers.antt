use Rattle.gated_words.specs.Files.{PairsOf}
use Rattle.disk_calls.specs.Disk.{bytes_of}
use Rattle.catalog_laws.proofs.Made.{read_made, made_next, create_fits, super_fits, delete_fits, delete_super_fits}
use Rattle.catalog_laws.proofs.laws.names_are_made_by_changes.Goals as goal

pub returns : goal.returns
returns c = record {
  read = λ files names at. read_made (bytes_of files.bytes) (PairsOf files.words) names at;
  next = made_next;
  creates = create_fits;
  creates_super = super_fits;
  deletes = delete_fits;
  deletes_super = delete_super_fits;
}
