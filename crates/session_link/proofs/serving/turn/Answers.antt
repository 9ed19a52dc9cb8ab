use Rattle.std.proofs.Common.{sym, ◌∙◌}
use Rattle.outside_io.specs.declared.link.Hearing.TheVariants as hearing
use Rattle.session_link.proofs.Runs.{replied_at}
use Rattle.session_link.proofs.serving.turn.Goals as goal

pub returns-in-Got-clause-turn : goal.returns-in-Got-clause-turn
returns-in-Got-clause-turn g c =
    replied_at g.H.Hub.meaning _ _ _ _ _ _ _ _ _ _ _ _ _ _ _ c.reply.result (sym c.ended_of_itself.ensures ∙ c.in_default.is) c.in-Got.ensures.heard.2 c.reply.ensures.heard c.in-Got.ensures.sent c.now-now.ensures.first c.now-now.ensures.later c.take_piece.ensures.ok c.take_piece.ensures.later c.reply.ensures.sent

pub returns-in-Quiet-clause-turn : goal.returns-in-Quiet-clause-turn
returns-in-Quiet-clause-turn g c =
    replied_at g.H.Hub.meaning _ _ _ _ _ _ _ _ _ _ _ _ hearing.Quiet _ _ c.reply-in-Quiet.result (sym c.ended_of_itself.ensures ∙ c.in_default.is) c.in-Quiet.ensures.heard c.reply-in-Quiet.ensures.heard c.in-Quiet.ensures.sent c.now-now-in-Quiet.ensures.first c.now-now-in-Quiet.ensures.later c.wait.ensures.ok c.wait.ensures.later c.reply-in-Quiet.ensures.sent
