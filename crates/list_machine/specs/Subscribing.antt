-- Subscriptions of a stream: starts, credits and deliveries.
use Rattle.std.specs.Prelude.{◌≡◌, ◌≢◌, ℕ, ◌+◌, ◌-◌, ◌^◌, ◌≤◌, min, Bool, true, false, List, [], ◌∷◌, ◌++◌, Option, Some, None}
use Rattle.std.specs.List.{AllByRecursion}
use Rattle.chunk_format.specs.declared.chunk.Chunk.{Chunk}
use Rattle.chunk_format.specs.Chunks.{end_of_chunk}
use Rattle.chunk_format.specs.Logs.{next_above}
use Rattle.command_fields.specs.declared.offset.OffsetSpec.{OffsetSpec}
use Rattle.command_data.specs.Starts.{StartOf}
use Rattle.list_machine.specs.Streams.{Activity, waiting, starting, active, stopping, Subscription, live, Stream}

-- one without a group is active at once
abbrev pub first_activity : Option (List ℕ) → Activity
first_activity None = active
first_activity (Some group) = waiting

abbrev pub new_subscription : ℕ → ℕ → Option (List ℕ) → ℕ → ℕ → Subscription
new_subscription connection id group start credits = record {
  connection = connection;
  id = id;
  group = group;
  activity = first_activity group;
  next = start;
  credits = credits;
  start = start;
  delivered = [];
  granted = credits;
  sent = 0;
}

-- another subscription than that of this connection and id
abbrev pub IsOther : ℕ → ℕ → Subscription → Type 0
IsOther connection id s = s.connection ≡ connection → s.id ≡ id → ⊥

-- Subscribe: a new subscription starts by its specification, over the list as seen.
pub record SubscribeStep (old : Stream) (connection id : ℕ) (group : Option (List ℕ)) (spec : OffsetSpec) (credits : ℕ) (new : Stream) : Type 0 where
  pub is_live : old.life ≡ live
  pub is_new : AllByRecursion (IsOther connection id) old.subscriptions
  pub is : new ≡ record old { subscriptions = old.subscriptions ++ new_subscription connection id group (StartOf spec old.seen) credits ∷ [] }

-- the subscription of this connection and id
pub record Subscribed (old : Stream) (connection id : ℕ) : Type 0 where
  pub before : List Subscription
  pub subscription : Subscription
  pub after : List Subscription
  pub subscribed : old.subscriptions ≡ before ++ subscription ∷ after
  pub of_connection : subscription.connection ≡ connection
  pub of_id : subscription.id ≡ id

-- the stream's subscriptions with another in its place
abbrev pub moved : {old : Stream} {connection id : ℕ} → Subscribed old connection id → Subscription → List Subscription
moved at subscription = at.before ++ subscription ∷ at.after

pub record UnsubscribeStep (old : Stream) (connection id : ℕ) (new : Stream) : Type 0 where
  pub at : Subscribed old connection id
  pub is : new ≡ record old { subscriptions = at.before ++ at.after }

-- ---- single active consumers

-- one of this group waits
abbrev pub WaitsIn : Option (List ℕ) → Subscription → Type 0
WaitsIn group s = s.group ≡ group → s.activity ≡ waiting

-- A consumer of a group is asked to be active, where all of its group wait; or the active one is asked to stop.
abbrev pub MayAsk : Bool → List Subscription → Subscription → Type 0
MayAsk true all s = AllByRecursion (WaitsIn s.group) all
MayAsk false all s = s.activity ≡ active

abbrev pub asked_to : Bool → ℕ → Activity
asked_to true correlation = starting correlation
asked_to false correlation = stopping correlation

pub record AskStep (old : Stream) (connection id correlation : ℕ) (activate : Bool) (new : Stream) : Type 0 where
  pub at : Subscribed old connection id
  pub of_group : at.subscription.group ≢ None
  pub may : MayAsk activate old.subscriptions at.subscription
  pub is : new ≡ record old { subscriptions = moved at (record at.subscription { activity = asked_to activate correlation }) }

-- It answers that it is active: it starts anew, by the specification of its answer.
pub record StartStep (old : Stream) (connection id correlation : ℕ) (spec : OffsetSpec) (new : Stream) : Type 0 where
  pub at : Subscribed old connection id
  pub was_asked : at.subscription.activity ≡ starting correlation
  pub is : new ≡ record old {
    subscriptions = moved at (record at.subscription { activity = active; next = StartOf spec old.seen; start = StartOf spec old.seen; delivered = [] });
  }

-- It answers that it stopped.
pub record RestStep (old : Stream) (connection id correlation : ℕ) (new : Stream) : Type 0 where
  pub at : Subscribed old connection id
  pub was_asked : at.subscription.activity ≡ stopping correlation
  pub is : new ≡ record old { subscriptions = moved at (record at.subscription { activity = waiting }) }

-- ---- credits and deliveries

abbrev pub most_credits : ℕ
most_credits = 2 ^ 64 - 1

pub record GrantStep (old : Stream) (connection id credits : ℕ) (new : Stream) : Type 0 where
  pub at : Subscribed old connection id
  pub is : new ≡ record old {
    subscriptions = moved at (record at.subscription { credits = min (at.subscription.credits + credits) most_credits; granted = at.subscription.granted + credits });
  }

-- the subscription once it was sent a chunk
abbrev pub with_delivery : Subscription → Chunk → Subscription
with_delivery s chunk = record s { next = end_of_chunk chunk; credits = s.credits - 1; delivered = s.delivered ++ chunk ∷ []; sent = s.sent + 1 }

-- Deliver: an active subscription with a credit gets the first user chunk of the list as seen whose end is above its next
-- offset.
pub record DeliverStep (old : Stream) (connection id : ℕ) (chunk : Chunk) (new : Stream) : Type 0 where
  pub is_live : old.life ≡ live
  pub at : Subscribed old connection id
  pub is_active : at.subscription.activity ≡ active
  pub has_credit : 1 ≤ at.subscription.credits
  pub is_next : next_above at.subscription.next old.seen ≡ Some chunk
  pub is : new ≡ record old { subscriptions = moved at (with_delivery at.subscription chunk) }
