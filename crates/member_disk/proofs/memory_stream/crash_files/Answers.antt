use Rattle.std.proofs.Common.{rules}
use Rattle.std.specs.Map.Iter.{deref_pair}
use Rattle.std.proofs.lemmas.Map.Iter.{btree_map_turn, rest_more}
use Rattle.disk_calls.specs.contracts.file_id.FileNameOrd.TheImpl.Laws as laws
use Rattle.member_disk.proofs.CrashLoop.{crash_step, crashed_by}
use Rattle.member_disk.proofs.memory_stream.crash_files.Goals as goal

pub loop-name-preserved : goal.loop-name-preserved
loop-name-preserved c =
    let split = rest_more deref_pair c.loop-name.name-iterator c.next.new.self c.next.result (c.in-Some.name, c.in-Some.file) c.in-Some.is c.next.ensures.steps in
    let turn = btree_map_turn deref_pair c.loop-name.yielded c.into_iter-name-iterator.result c.loop-name.name-iterator c.next.new.self c.next.result (c.in-Some.name, c.in-Some.file) c.loop-name.yielded_by c.in-Some.is c.next.ensures.steps laws.total-law c.args.files.now (search rules) (search rules) in
    crash_step c.args.image c.args.order.now c.args.files.now c.loop-name.next c.keep_file.new.files c.loop-name.name-iterator c.next.new.self c.in-Some.name.now c.in-Some.file.now c.in_ok-crashed.crashed
    split turn.1 c.in_ok-keep_file.ensures.own c.in_ok-keep_file.ensures.others
    (crashed_by c.args.image c.is_last.result _ c.in-Some.file.now c.in_ok-crashed.crashed c.is_last.ensures c.in_ok-crashed.ensures.picked c.in_ok-crashed.ensures.image c.in_ok-crashed.ensures.sure)
    c.loop-name.invariant
