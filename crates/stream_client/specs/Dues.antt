-- What is due, as the client tells it.
use Rattle.std.specs.Prelude.{ℕ, List}
use Rattle.client_terms.specs.Sending.{Next, nothing, credit, tunes, asks, publishes}
use Rattle.stream_client.specs.declared.due.Due.{Due}
use Rattle.stream_client.specs.declared.due.Due.TheVariants as dues

abbrev pub next_of : Due → Next
next_of dues.Nothing = nothing
next_of dues.Credit = credit
next_of (dues.Tunes frame_max) = tunes frame_max
next_of (dues.Asks request) = asks request
next_of (dues.Publishes id body) = publishes id body.now

-- this holds of the message that comes next, if one does
abbrev pub IfPublishes : Next → (ℕ → List ℕ → Type 0) → Type 0
IfPublishes nothing P = Unit {0}
IfPublishes credit P = Unit {0}
IfPublishes (tunes frame_max) P = Unit {0}
IfPublishes (asks request) P = Unit {0}
IfPublishes (publishes id body) P = P id body
