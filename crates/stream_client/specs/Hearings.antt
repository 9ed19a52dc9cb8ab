-- What hearing a frame leaves.
use Rattle.std.specs.Prelude.{◌≡◌, ℕ, List, ◌++◌, Option, Result, Ok, Err}
use Rattle.client_terms.specs.declared.fault.ClientFault.{ClientFault}
use Rattle.client_terms.specs.declared.fault.ClientFault.TheVariants as faults
use Rattle.client_terms.specs.States.{ClientState}
use Rattle.client_terms.specs.Hearing.{Frame, Reply, answer, confirm, error, delivery, uncredited, update, tune, close, heartbeat, other, Meaning, passes, fails, confirms, delivers, LearnStep, HearsBy, FaultsBy}
use Rattle.stream_client.specs.declared.heard.Answer.{Answer}
use Rattle.stream_client.specs.declared.heard.Heard.{Heard}
use Rattle.stream_client.specs.declared.heard.Heard.TheVariants as heards

abbrev pub reply_of : Answer → Reply
reply_of said = record { key = said.key; corr = said.corr; code = said.code; content = said.content }

abbrev pub frame_heard : Heard → Frame
frame_heard (heards.Answer said) = answer (reply_of said)
frame_heard (heards.Confirm publisher ids) = confirm publisher ids.now
frame_heard (heards.Error publisher refusals) = error publisher refusals.now
frame_heard (heards.Delivery sub committed header payload) = delivery sub committed header.now payload.now
frame_heard (heards.Uncredited code sub) = uncredited code sub
frame_heard (heards.Update code stream) = update code stream.now
frame_heard (heards.Tune frame_max) = tune frame_max
frame_heard (heards.Close code) = close code
frame_heard heards.Heartbeat = heartbeat
frame_heard (heards.Other key) = other key

-- Where memory ran out at a frame, nothing has changed, but that the first of its ids were heard.
abbrev pub RunsOut : ClientState → Meaning → ClientState → Type 0
RunsOut old (passes kept) new = new ≡ old
RunsOut old (fails fault) new = new ≡ old
RunsOut old (confirms ids) new = (heard : List ℕ) × (more : List ℕ) × (ids ≡ heard ++ more) × LearnStep old heard new
RunsOut old (delivers kept bytes) new = new ≡ old

abbrev pub Stops : ClientState → Meaning → ClientFault → ClientState → Type 0
Stops old is faults.Memory new = RunsOut old is new
Stops old is (faults.Frame fault) new = FaultsBy is (faults.Frame fault) × (new ≡ old)
Stops old is (faults.TooLarge size) new = FaultsBy is (faults.TooLarge size) × (new ≡ old)
Stops old is (faults.Chunk fault) new = FaultsBy is (faults.Chunk fault) × (new ≡ old)
Stops old is (faults.Unexpected key) new = FaultsBy is (faults.Unexpected key) × (new ≡ old)
Stops old is (faults.Refused key code) new = FaultsBy is (faults.Refused key code) × (new ≡ old)
Stops old is (faults.Closed code) new = FaultsBy is (faults.Closed code) × (new ≡ old)
Stops old is (faults.StreamLost code) new = FaultsBy is (faults.StreamLost code) × (new ≡ old)

-- what a client does with a frame of this meaning, by what it answers
abbrev pub Obeys : ClientState → Meaning → Result (Unit {0}) ClientFault → ClientState → Type 0
Obeys old is (Ok u) new = HearsBy old is new
Obeys old is (Err fault) new = Stops old is fault new
