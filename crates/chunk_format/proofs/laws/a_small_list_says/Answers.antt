use Rattle.chunk_format.proofs.SampleLaws.{said_greatest, said_no_greatest, said_stored, said_lists, said_users, said_next, said_truthful, said_other_order, said_repeats}
use Rattle.chunk_format.proofs.laws.a_small_list_says.Goals as goal

pub returns : goal.returns
returns c = record {
  greatest = said_greatest;
  no_greatest = said_no_greatest;
  stored = said_stored;
  items = said_lists;
  users = said_users;
  next = said_next;
  truthful = said_truthful;
  other_order = said_other_order;
  repeated = said_repeats;
}
