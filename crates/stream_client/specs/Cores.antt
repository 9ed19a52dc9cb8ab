-- What a client holds, as the state of its steps.
use Rattle.std.specs.Prelude.{◌≡◌, ℕ, ◌+◌, ◌≤◌, ◌<◌, List, [], length, Option, option_map}
use Rattle.command_reader.specs.States.{ReaderState, new_reader}
use Rattle.command_all.specs.declared.identity.Identity.{Identity}
use Rattle.client_terms.specs.declared.terms.Request.{Request}
use Rattle.client_terms.specs.States.{Awaited, ClientState, started}
use Rattle.stream_client.specs.declared.client.Client.{Client}

abbrev pub awaited_by : ℕ → Request → Awaited
awaited_by corr request = record { request = request; corr = corr }

-- the request that waits is the last one that was sent
abbrev pub state_of : Client → ClientState
state_of c = record {
  identity = c.login;
  stream = c.stream;
  name = c.name;
  confirmed = c.outbox.confirmed;
  above = c.outbox.above;
  queue = c.outbox.queue;
  last = c.outbox.last;
  creates = c.creates;
  wishes = c.wishes;
  answer = c.answer;
  spec = c.spec;
  credit = c.credit;
  received = c.received;
  stage = c.line.stage;
  corr = c.line.corr;
  awaited = option_map (awaited_by c.line.corr) c.line.awaited;
  declared = c.line.declared;
  subscribed = c.line.subscribed;
  credits = c.line.credits;
  committed = c.line.committed;
}

-- a client, and the bytes of its server that weren't read yet
pub record CoreState : Type 0 where
  pub client : ClientState
  pub reader : ReaderState

-- the greatest frame that a client takes, in bytes of its body
abbrev pub frame_max : ℕ
frame_max = 2097152

abbrev pub new_core : Identity → Option (List ℕ) → Option (List ℕ) → ℕ → CoreState
new_core identity stream name confirmed = record { client = started identity stream name confirmed; reader = new_reader frame_max }

-- the wishes were answered, and the queued messages are confirmed
pub record IsDone (s : ClientState) : Type 0 where
  pub no_creates : s.creates ≡ 0
  pub no_wishes : s.wishes ≡ []
  pub no_messages : s.queue ≡ []
