use Rattle.std.proofs.Common.{Some, ap, subst, refl}
use Rattle.command_all.specs.Reading.{BeginsUnspelt}
use Rattle.command_reader.specs.States.{ReaderState}
use Rattle.command_reader.proofs.Asks.{gives_command, none_of, unspelt_front, in_front_long}
use Rattle.command_reader.proofs.reader.CommandReader.read_front.Goals as goal

pub take-requires : goal.take-requires
take-requires c = in_front_long c.self.inside.pending.max c.self.inside.pending.rest c.in-Frame.body.now c.in-Frame.ensures

pub invariant_of-self-in-Err-Fault : goal.invariant_of-self-in-Err-Fault
invariant_of-self-in-Err-Fault c = (c.self.invariant.0, unspelt_front c.self.inside.pending.max c.self.inside.pending.rest c.in-Frame.body.now c.in-Err-Fault.fault c.in-Frame.ensures (rw c.in-Err-Fault.field-0-is at c.in-Err-Fault.ensures.told))

pub returns-in-Ok-clause-given : goal.returns-in-Ok-clause-given
returns-in-Ok-clause-given c =
    gives_command c.self.inside.pending c.take.new.self _ c.in-Frame.body.now c.in-Ok.command c.self.inside.unspelt c.args.self.now c.self.view_is (none_of c.self.inside.unspelt c.in_default.not-Some) c.in-Frame.ensures c.in-Ok.ensures.found refl c.take.ensures

pub returns-in-Err-Fault-clause-given : goal.returns-in-Err-Fault-clause-given
returns-in-Err-Fault-clause-given c =
    let here = unspelt_front c.self.inside.pending.max c.self.inside.pending.rest c.in-Frame.body.now c.in-Err-Fault.fault c.in-Frame.ensures (rw c.in-Err-Fault.field-0-is at c.in-Err-Fault.ensures.told) in
    (subst (λ (s : ReaderState). BeginsUnspelt s.max s.rest c.in-Err-Fault.fault) c.self.view_is here, ap (λ (s : ReaderState). record { max = s.max; rest = s.rest; unspelt = Some c.in-Err-Fault.fault }) c.self.view_is)
