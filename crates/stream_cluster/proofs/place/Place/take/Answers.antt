use Rattle.stream_cluster.proofs.Takings.{seat_takes, seat_sends, seat_ends}
use Rattle.stream_cluster.proofs.place.Place.take.Goals as goal

pub returns-clause-state : goal.returns-clause-state
returns-clause-state c = seat_takes c.args.now c.args.message.now c.self.inside.up c.self.inside.member c.take.new.self c.args.self.now c.self.view_is c.requires.up c.requires.idle c.in_ok-sent.ensures.state

pub returns-clause-sent : goal.returns-clause-sent
returns-clause-sent c = seat_sends c.args.now c.args.message.now c.self.inside.up c.self.inside.member c.in_ok-sent.field-0 c.in-Done.sent c.args.self.now c.self.view_is c.requires.up c.requires.idle c.in_ok-sent.ensures.answer c.in-Done.is

pub returns-clause-end : goal.returns-clause-end
returns-clause-end c = seat_ends c.args.now c.args.message.now c.self.inside.up c.self.inside.member c.take.new.self c.commit_end-end.result c.args.self.now c.self.view_is c.requires.up c.requires.idle c.in_ok-sent.ensures.state c.commit_end-end.ensures
