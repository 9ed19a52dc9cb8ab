use Rattle.chunk_format.proofs.UserLaws.{users_join, next_stays, users_step, none_above}
use Rattle.chunk_format.proofs.laws.user_chunks_above_an_offset.Goals as goal

pub returns : goal.returns
returns c = record { parts = users_join; stays = next_stays; next = λ from log. users_step from 0 0 log; none = λ from log. none_above from 0 0 log }
