use Rattle.std.proofs.Common.{sym}
use Rattle.memory_file.specs.declared.file.Call.TheVariants as call
use Rattle.memory_file.proofs.Undoing.{follows_on, kept_view}
use Rattle.memory_file.proofs.file.MemoryFile.cut.Goals as goal

pub invariant_of-self : goal.invariant_of-self
invariant_of-self c = follows_on c.cut_call.result _ _ _ _ (call.Cut c.args.size) _ _ c.self.invariant c.cut_call.ensures.ok c.cut_call.ensures.err

pub returns-clause-ok : goal.returns-clause-ok
returns-clause-ok c = kept_view c.cut_call.result c.args.self.now _ _ _ _ (call.Cut c.args.size) _ _ (sym c.self.view_is) c.cut_call.ensures.ok
