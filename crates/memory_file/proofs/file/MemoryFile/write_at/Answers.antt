use Rattle.std.proofs.Common.{sym}
use Rattle.memory_file.specs.declared.file.Call.TheVariants as call
use Rattle.memory_file.proofs.Undoing.{follows_on, kept_view}
use Rattle.memory_file.proofs.file.MemoryFile.write_at.Goals as goal

pub invariant_of-self : goal.invariant_of-self
invariant_of-self c = follows_on c.put_call.result _ _ _ _ (call.Write c.args.place c.args.bytes.now) _ _ c.self.invariant c.put_call.ensures.ok c.put_call.ensures.err

pub returns-clause-ok : goal.returns-clause-ok
returns-clause-ok c = kept_view c.put_call.result c.args.self.now _ _ _ _ (call.Write c.args.place c.args.bytes.now) _ _ (sym c.self.view_is) c.put_call.ensures.ok
