use Rattle.chunk_format.proofs.TagRows.{user_tags, user_untagged}
use Rattle.chunk_format.proofs.laws.rows_have_the_tags_of_their_trailer.Goals as goal

pub returns : goal.returns
returns c = record { tagged = user_tags; untagged = user_untagged }
