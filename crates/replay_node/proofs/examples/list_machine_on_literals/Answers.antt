use Rattle.replay_node.proofs.MachineExamples.{worked, declared, refused, refused_then, made, given, chunk_taken, out_of_place, twice, before_commit, no_publish, confirm_twice, no_entry, undeclared}
use Rattle.replay_node.proofs.examples.list_machine_on_literals.Goals as goal

pub returns : goal.returns
returns c = record {
  worked = worked;
  declared = declared;
  refused = refused;
  but_for_the_last = (made, given, chunk_taken 97, chunk_taken 98, refused_then);
  chunk_out_of_place = out_of_place;
  chunk_twice = twice;
  confirm_before_its_commit = before_commit;
  confirm_of_no_publish = no_publish;
  confirm_twice = confirm_twice;
  confirm_of_no_entry = no_entry;
  confirm_of_no_publisher = undeclared;
}
