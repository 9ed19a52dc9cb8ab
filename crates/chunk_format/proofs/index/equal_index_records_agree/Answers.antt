use Rattle.chunk_format.proofs.IndexLaws.{records_agree, fits_index}
use Rattle.chunk_format.proofs.index.equal_index_records_agree.Goals as goal

pub returns : goal.returns
returns c = record { agree = records_agree; fits = fits_index }
