use Rattle.stream_client.proofs.Hearsay.{obeys_as, close_heard, heartbeat_heard, other_heard}
use Rattle.stream_client.proofs.hearing.hear.Goals as goal

pub returns-in-Answer : goal.returns-in-Answer
returns-in-Answer c = obeys_as _ _ _ _ _ c.in-Answer.ensures c.hear_answer.ensures

pub returns-in-Confirm : goal.returns-in-Confirm
returns-in-Confirm c = obeys_as _ _ _ _ _ c.in-Confirm.ensures c.hear_confirm.ensures

pub returns-in-Error : goal.returns-in-Error
returns-in-Error c = obeys_as _ _ _ _ _ c.in-Error.ensures c.hear_error.ensures

pub returns-in-Delivery : goal.returns-in-Delivery
returns-in-Delivery c = obeys_as _ _ _ _ _ c.in-Delivery.ensures c.hear_delivery.ensures

pub returns-in-Uncredited : goal.returns-in-Uncredited
returns-in-Uncredited c = obeys_as _ _ _ _ _ c.in-Uncredited.ensures c.hear_uncredited.ensures

pub returns-in-Update : goal.returns-in-Update
returns-in-Update c = obeys_as _ _ _ _ _ c.in-Update.ensures c.hear_update.ensures

pub returns-in-Tune : goal.returns-in-Tune
returns-in-Tune c = obeys_as _ _ _ _ _ c.in-Tune.ensures c.hear_tune.ensures

pub returns-in-Close : goal.returns-in-Close
returns-in-Close c = close_heard _ _ _ c.in-Close.ensures

pub returns-in-Heartbeat : goal.returns-in-Heartbeat
returns-in-Heartbeat c = heartbeat_heard _ _ c.in-Heartbeat.ensures

pub returns-in-Other : goal.returns-in-Other
returns-in-Other c = other_heard _ _ _ c.in-Other.ensures
