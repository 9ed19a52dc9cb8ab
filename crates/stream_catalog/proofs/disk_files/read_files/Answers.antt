use Rattle.stream_catalog.proofs.Recording.{keeps_open}
use Rattle.stream_catalog.proofs.disk_files.read_files.Goals as goal

pub returns-in_err-words-clause-images : goal.returns-in_err-words-clause-images
returns-in_err-words-clause-images g c = λ told. keeps_open c.words_id.result _ _ _ c.words_id.ensures (c.read_bytes.ensures.looks told) (c.open.ensures.images told) c.open.ensures.others

pub returns-in_err-names-clause-images : goal.returns-in_err-names-clause-images
returns-in_err-names-clause-images g c = λ told. keeps_open c.words_id.result _ _ _ c.words_id.ensures (c.read_bytes.ensures.looks told) (c.open.ensures.images told) c.open.ensures.others

pub returns-in_err-listed-clause-images : goal.returns-in_err-listed-clause-images
returns-in_err-listed-clause-images g c = λ told. keeps_open c.words_id.result _ _ _ c.words_id.ensures (c.read_bytes.ensures.looks told) (c.open.ensures.images told) c.open.ensures.others

pub returns-clause-images : goal.returns-clause-images
returns-clause-images g c = λ told. keeps_open c.words_id.result _ _ _ c.words_id.ensures (c.read_bytes.ensures.looks told) (c.open.ensures.images told) c.open.ensures.others
