-- What the laws of the list machine say.
use Rattle.std.specs.Prelude.{◌≡◌, ◌≢◌, ℕ, ◌+◌, ◌≤◌, ◌==◌, ◌&&◌, Bool, if◌then◌else◌, List, [], ◌∷◌, ◌++◌, length, count_by, flat_map, Some}
use Rattle.std.specs.List.{AllByRecursion}
use Rattle.chunk_format.specs.declared.chunk.Chunk.{Chunk}
use Rattle.chunk_format.specs.Logs.{users_above, bare_of, deltas_of, GoesOn}
use Rattle.command_data.specs.declared.item.Tagged.{Tagged}
use Rattle.list_machine.specs.Items.{items_in, Rises, IsIn, AnyByRecursion, AtMostAsOften}
use Rattle.list_machine.specs.Streams.{Confirmed, Declaration, Subscription, Stream, items_of, sent_unnamed, Counted}
use Rattle.list_machine.specs.Commits.{WasSent}
use Rattle.list_machine.specs.Steps.{Event, read, handled, misread, made, refused, found, committed, sent, ended, told}
use Rattle.list_machine.specs.Moves.{Move, begins, finishes, commits, declares, undeclares, publishes, refuses, confirms, subscribes, unsubscribes, asks, starts, rests, grants, delivers, stores, leaves, forgets}

-- ---- rows

-- a declaration of the name sent the item
abbrev pub IsSentBy : List ℕ → List Declaration → Tagged → Type 0
IsSentBy name declarations x = AnyByRecursion (λ (d : Declaration). (d.name ≡ Some name) × IsIn x (items_of d)) declarations

-- The ids of each name strictly rise, each item was sent under its name, each entry stands without a tag at most as often
-- as publishers without a name sent it and at least as often as it was confirmed to them, and stored offsets were sent.
pub record RowsRight (stream : Stream) : Type 0 where
  pub rises : (name : List ℕ) → Rises (items_in name stream.chunks)
  pub published : (name : List ℕ) → AllByRecursion (IsSentBy name stream.declarations) (items_in name stream.chunks)
  pub bare : AtMostAsOften (bare_of stream.chunks) (sent_unnamed stream.declarations)
  pub counted : Counted stream.chunks stream.confirmed
  pub stored : AllByRecursion (WasSent stream.stored) (deltas_of stream.chunks)

-- ---- exactly once

-- the item stands there, and its id in no other item
pub record StandsOnce (items : List Tagged) (x : Tagged) : Type 0 where
  pub stands : IsIn x items
  pub once : count_by (λ (y : Tagged). y.id == x.id) items ≡ 1

-- The items of the name are a beginning of the publisher's list, and each that was confirmed is of that list and stands
-- once.
pub record ExactlyOnce (name : List ℕ) (list : List Tagged) (chunks : List Chunk) (confirmed : List Confirmed) : Type 0 where
  pub begins : GoesOn (items_in name chunks) list
  pub each : AllByRecursion (λ (c : Confirmed). c.name ≡ Some name → AllByRecursion (λ (x : Tagged). IsIn x list × StandsOnce (items_in name chunks) x) c.items) confirmed

-- ---- deliveries

-- What it was sent since its last start, and the user chunks of the list above its next offset, are the user chunks above
-- its start; and all that it was sent, with the credits left, is at most the credits granted.
pub record DeliversRun (chunks : List Chunk) (subscription : Subscription) : Type 0 where
  pub run : users_above subscription.start chunks ≡ subscription.delivered ++ users_above subscription.next chunks
  pub since : length subscription.delivered ≤ subscription.sent
  pub credit : subscription.sent + subscription.credits ≤ subscription.granted

-- ---- what moves do

abbrev pub confirmed_by : Move → List Confirmed
confirmed_by (confirms connection id name items) = record { name = name; items = items } ∷ []
confirmed_by (begins text super) = []
confirmed_by finishes = []
confirmed_by (commits chunk) = []
confirmed_by (declares connection id name) = []
confirmed_by (undeclares connection id) = []
confirmed_by (publishes connection id items) = []
confirmed_by (refuses connection id) = []
confirmed_by (subscribes connection id group spec credits) = []
confirmed_by (unsubscribes connection id) = []
confirmed_by (asks connection id correlation activate) = []
confirmed_by (starts connection id correlation spec) = []
confirmed_by (rests connection id correlation) = []
confirmed_by (grants connection id credits) = []
confirmed_by (delivers connection id chunk) = []
confirmed_by (stores name offset) = []
confirmed_by (leaves connection) = []
confirmed_by forgets = []

-- the frames that moves confirmed, in order
abbrev pub ConfirmedBy : List Move → List Confirmed
ConfirmedBy moves = flat_map confirmed_by moves

abbrev pub is_same : ℕ → ℕ → ℕ → ℕ → Bool
is_same connection id other_connection other_id = (connection == other_connection) && (id == other_id)

-- of a subscription: what it was sent since its last start, and all that it was sent and granted
pub record Tally : Type 0 where
  pub delivered : List Chunk
  pub sent : ℕ
  pub granted : ℕ

abbrev pub no_tally : Tally
no_tally = record { delivered = []; sent = 0; granted = 0 }

abbrev pub tally_of : Subscription → Tally
tally_of s = record { delivered = s.delivered; sent = s.sent; granted = s.granted }

-- the same after a move, of the subscription of a connection and id
abbrev pub tally_by : ℕ → ℕ → Move → Tally → Tally
tally_by c id (subscribes connection other group spec credits) t = if is_same connection other c id then record { delivered = []; sent = 0; granted = credits } else t
tally_by c id (starts connection other correlation spec) t = if is_same connection other c id then record t { delivered = [] } else t
tally_by c id (delivers connection other chunk) t = if is_same connection other c id then record { delivered = t.delivered ++ chunk ∷ []; sent = t.sent + 1; granted = t.granted } else t
tally_by c id (grants connection other credits) t = if is_same connection other c id then record t { granted = t.granted + credits } else t
tally_by c id (begins text super) t = t
tally_by c id finishes t = t
tally_by c id (commits chunk) t = t
tally_by c id (declares connection other name) t = t
tally_by c id (undeclares connection other) t = t
tally_by c id (publishes connection other items) t = t
tally_by c id (refuses connection other) t = t
tally_by c id (confirms connection other name items) t = t
tally_by c id (unsubscribes connection other) t = t
tally_by c id (asks connection other correlation activate) t = t
tally_by c id (rests connection other correlation) t = t
tally_by c id (stores name offset) t = t
tally_by c id (leaves connection) t = t
tally_by c id forgets t = t

-- the same after moves
abbrev pub Tallied : ℕ → ℕ → Tally → List Move → Tally
Tallied c id t [] = t
Tallied c id t (move ∷ moves) = Tallied c id (tally_by c id move t) moves

-- ---- what comes behind the end of a connection

-- the event handles nothing of the connection, writes nothing on it and doesn't end it
abbrev pub IsNotOf : ℕ → Event → Type 0
IsNotOf c (handled other command answer) = other ≢ c
IsNotOf c (misread other answer) = other ≢ c
IsNotOf c (sent other command) = other ≢ c
IsNotOf c (ended other how) = other ≢ c
IsNotOf c (read line) = Unit {0}
IsNotOf c made = Unit {0}
IsNotOf c (refused code) = Unit {0}
IsNotOf c (found change) = Unit {0}
IsNotOf c (committed number chunk) = Unit {0}
IsNotOf c (told line) = Unit {0}
