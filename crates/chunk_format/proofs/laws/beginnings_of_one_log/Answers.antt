use Rattle.std.proofs.Common.{subst, sym, List}
use Rattle.chunk_format.specs.declared.chunk.Chunk.{Chunk}
use Rattle.chunk_format.specs.Logs.{HasRun, AtMost, Greatest, RisesIn}
use Rattle.chunk_format.proofs.LinkLaws.{run_left}
use Rattle.chunk_format.proofs.BeginLaws.{log_front, goes_either, shorter_begins}
use Rattle.chunk_format.proofs.NameLaws.{at_most_grows, rises_in_front}
use Rattle.chunk_format.proofs.TruthLaws.{truthful_begins}
use Rattle.chunk_format.proofs.laws.beginnings_of_one_log.Goals as goal

pub returns : goal.returns
returns c = record {
  log = log_front;
  either = goes_either;
  shorter = shorter_begins;
  run = λ front log epoch end p h. subst (λ (l : List Chunk). HasRun l epoch end) (sym p.1) (run_left front p.0 epoch end h);
  greatest = λ front log name id p h. subst (λ (l : List Chunk). AtMost id (Greatest name l)) (sym p.1) (at_most_grows id name front p.0 h);
  rises = λ front log p r. rises_in_front front p.0 (subst RisesIn p.1 r);
  truthful = truthful_begins;
}
