-- What happens if ids that were confirmed out of order are kept over a new connection.
use Rattle.std.specs.Prelude.{ℕ, true, false, List, [], ◌∷◌, Some, None}
use Rattle.command_data.specs.declared.item.Tagged.{Tagged}
use Rattle.command_all.specs.declared.identity.Identity.{Identity}
use Rattle.client_terms.specs.declared.terms.Stage.TheVariants.{Open}
use Rattle.client_terms.specs.States.{ClientState, started}
use Rattle.client_terms.specs.Sending.{message}
use Rattle.list_machine.specs.Streams.{Declaration}
use Rattle.client_laws.specs.Worlds.{numbered}

abbrev pub client_name : List ℕ
client_name = 112 ∷ []

abbrev pub six_bodies : List (List ℕ)
six_bodies = [] ∷ [] ∷ [] ∷ [] ∷ [] ∷ [] ∷ []

abbrev pub six : List Tagged
six = numbered 0 six_bodies

abbrev pub nobody : Identity
nobody = record { user = []; password = []; host = None; port = 0 }

-- 3, 4, 5 were confirmed on a connection before; on this one 1 and 2 were sent
abbrev pub resent : ClientState
resent = record (started nobody None (Some client_name) 0) { above = record { first = 3; last = 5 } ∷ []; queue = six_bodies; last = 2; stage = Open; declared = true }

-- and then confirmed: the confirmed one passes the last that was sent
abbrev pub jumped : ClientState
jumped = record resent { confirmed = 5; above = []; queue = [] ∷ [] }

-- the declaration, if the message behind the confirmed one is sent next
abbrev pub gapped : Declaration
gapped = record {
  connection = 1;
  id = 0;
  name = Some client_name;
  frames = record { items = message 1 [] ∷ []; waits = false } ∷ record { items = message 2 [] ∷ []; waits = false } ∷ record { items = message 6 [] ∷ []; waits = true } ∷ [];
  known = [];
  stands = true;
}
