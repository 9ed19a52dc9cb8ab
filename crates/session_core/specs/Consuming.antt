-- Subscriptions and groups: what a session asks of its hub at each of their commands, and what comes of each answer.
use Rattle.std.specs.Prelude.{◌≡◌, ℕ, Bool, position, Result, Ok, Err, Option, Some, None, if◌then◌else◌}
use Rattle.std.specs.declared.alloc.AllocError.{AllocError}
use Rattle.command_fields.specs.declared.offset.OffsetSpec.{OffsetSpec}
use Rattle.command_fields.specs.declared.offset.OffsetSpec.TheVariants.{Unset}
use Rattle.command_fields.specs.declared.response.ResponseCode.{ResponseCode}
use Rattle.command_fields.specs.declared.response.ResponseCode.TheVariants as code
use Rattle.active_groups.specs.declared.consumer.ConsumerId.{ConsumerId}
use Rattle.stream_terms.specs.Views.{name_of}
use Rattle.hub_terms.specs.declared.terms.Found.{Found}
use Rattle.hub_terms.specs.declared.terms.Found.TheVariants.{Missing, Closed, Running}
use Rattle.hub_terms.specs.Calls.{Words, Finding, Starting, Joining, Leaving, Answering, IsActive}
use Rattle.hub_terms.specs.Meaning.{HubMeaning}
use Rattle.hub_terms.specs.Programs.{Program, asking, lost}
use Rattle.session_tables.specs.Subscribing.{with_stream, is_single, group_name, slot, put_slot, more_credit, is_asked, is_last, counted}
use Rattle.session_tables.specs.Opening.{Outcome, says, silent}
use Rattle.session_tables.specs.declared.reply.Reply.{Reply}
use Rattle.session_tables.specs.declared.reply.Reply.TheVariants as say
use Rattle.session_tables.specs.declared.reply.Request.TheVariants as request
use Rattle.session_tables.specs.declared.tables.Subscription.{Subscription}
use Rattle.session_tables.specs.declared.tables.Tables.{Tables}
use Rattle.session_core.specs.declared.consuming.Wish.{Wish}
use Rattle.session_core.specs.Ends.{replies, answers, is_quiet}

-- a consumer of this session
abbrev pub consumer : Tables → ℕ → ConsumerId
consumer t serial = record { session = t.number; serial = serial }

-- ---- Subscribe

abbrev pub subscribe_reply : Wish → ResponseCode → Reply
subscribe_reply w response = say.Answer request.Subscribe w.corr response

abbrev pub tells : Tables → Wish → ResponseCode → Program Outcome
tells t w response = replies t (subscribe_reply w response)

-- the subscription, and the name of its stream
abbrev pub with_subscription : Wish → Subscription → Tables → Tables
with_subscription w s t = put_slot w.id (Some s) (record t { streams = with_stream s.stream w.stream t.streams })

abbrev pub one_with : Wish → ℕ → ℕ → ℕ → Option ℕ → Subscription
one_with w stream epoch next single = record { stream = stream; epoch = epoch; next = next; credit = w.credit; single = single; update = None }

abbrev pub plain_one : Wish → ℕ → ℕ → ℕ → Subscription
plain_one w stream epoch next = one_with w stream epoch next None

-- it is started when it becomes active
abbrev pub single_one : Wish → ℕ → ℕ → ℕ → Subscription
single_one w stream epoch serial = one_with w stream epoch 0 (Some serial)

abbrev pub started : Tables → Wish → ℕ → ℕ → Result ℕ AllocError → Program Outcome
started t w stream epoch (Ok next) = tells (with_subscription w (plain_one w stream epoch next) t) w code.Ok
started t w stream epoch (Err e) = lost

abbrev pub joined : Tables → Wish → ℕ → ℕ → Result (Unit {0}) AllocError → Program Outcome
joined t w stream epoch (Ok u) = tells (with_subscription w (single_one w stream epoch t.subscribed) t) w code.Ok
joined t w stream epoch (Err e) = lost

-- one of a group of which one is active; its consumer has the number of this Subscribe
abbrev pub join_group : Tables → Wish → ℕ → ℕ → Option Words → Program Outcome
join_group t w stream epoch None = tells t w code.PreconditionFailed
join_group t w stream epoch (Some group) = asking (Joining stream group (consumer t t.subscribed)) (joined t w stream epoch)

abbrev pub subscribe_free : Tables → Bool → Wish → ℕ → ℕ → Program Outcome
subscribe_free t last w stream epoch =
    if last then tells t w code.PreconditionFailed else
    if is_single w.properties then join_group t w stream epoch (group_name w.properties) else
    asking (Starting stream w.spec) (started t w stream epoch)

abbrev pub subscribe_at : Tables → Bool → Wish → ℕ → ℕ → Option Subscription → Program Outcome
subscribe_at t last w stream epoch (Some s) = tells t w code.SubscriptionIdAlreadyExists
subscribe_at t last w stream epoch None = subscribe_free t last w stream epoch

abbrev pub subscribe_on : Tables → Bool → Wish → Found → Program Outcome
subscribe_on t last w Missing = tells t w code.StreamDoesNotExist
subscribe_on t last w (Closed stream) = tells t w code.StreamNotAvailable
subscribe_on t last w (Running stream epoch) = subscribe_at t last w stream epoch (slot w.id t)

-- each Subscribe counts, and none is taken behind the last number
abbrev pub subscribe_row : Tables → Wish → Program Outcome
subscribe_row t w = asking (Finding (name_of w.stream)) (subscribe_on (counted t) (is_last t) w)

-- Where memory ran out no consumer has joined a group: nothing was asked for, or only a start, or the joining was refused.
pub data JoinsNone {S : Type 0} (m : HubMeaning S) (t : Tables) (w : Wish) (h0 h1 : S) : Type 0 where
  AskedNothing : h1 ≡ h0 → JoinsNone m t w h0 h1
  AskedStart : (stream : ℕ) (answer : Result ℕ AllocError) → m.does (Starting stream w.spec) h0 answer h1 → JoinsNone m t w h0 h1
  WasRefused : (stream : ℕ) (group : Words) (e : AllocError) → m.does (Joining stream group (consumer t t.subscribed)) h0 (Err e) h1 → JoinsNone m t w h0 h1

-- once its stream was asked for
pub record SubscribeLost {S : Type 0} (m : HubMeaning S) (t : Tables) (w : Wish) (h0 h1 : S) : Type 0 where
  pub found : Found
  pub hub : S
  pub asked : m.does (Finding (name_of w.stream)) h0 found hub
  pub joins_none : JoinsNone m (counted t) w hub h1

-- ---- Credit

abbrev pub credit_at : Tables → ℕ → ℕ → Option Subscription → Outcome
credit_at t id more None = says t (say.CreditFault id)
credit_at t id more (Some s) = silent (put_slot id (Some (more_credit more s)) t)

abbrev pub credited : Tables → ℕ → ℕ → Outcome
credited t id more = credit_at t id more (slot id t)

-- ---- Unsubscribe

abbrev pub unsubscribed : Tables → ℕ → ℕ → Program Outcome
unsubscribed t corr id = answers (put_slot id None t) request.Unsubscribe corr code.Ok

-- its consumer leaves the group
abbrev pub unsubscribe_of : Tables → ℕ → ℕ → Option ℕ → Program Outcome
unsubscribe_of t corr id None = unsubscribed t corr id
unsubscribe_of t corr id (Some serial) = asking (Leaving (consumer t serial)) (λ (u : Unit {0}). unsubscribed t corr id)

abbrev pub unsubscribe_at : Tables → ℕ → ℕ → Option Subscription → Program Outcome
unsubscribe_at t corr id None = answers t request.Unsubscribe corr code.SubscriptionIdDoesNotExist
unsubscribe_at t corr id (Some s) = unsubscribe_of t corr id s.single

abbrev pub unsubscribe_row : Tables → ℕ → ℕ → Program Outcome
unsubscribe_row t corr id = unsubscribe_at t corr id (slot id t)

-- ---- UpdateAnswer

-- an answer without a place names none
abbrev pub spec_of : Option OffsetSpec → OffsetSpec
spec_of None = Unset
spec_of (Some place) = place

-- the update is answered
abbrev pub settled : Tables → ℕ → Subscription → Program Outcome
settled t id s = is_quiet (put_slot id (Some (record s { update = None })) t)

abbrev pub restarted : Tables → ℕ → Subscription → Result ℕ AllocError → Program Outcome
restarted t id s (Ok next) = is_quiet (put_slot id (Some (record s { next = next; update = None })) t)
restarted t id s (Err e) = lost

abbrev pub turned : Tables → ℕ → Subscription → Option OffsetSpec → Bool → Program Outcome
turned t id s place active =
    if active then asking (Starting s.stream (spec_of place)) (restarted t id s)
    else settled t id s

-- one that is active now starts by its answer
abbrev pub awaited : Tables → ℕ → Subscription → Option OffsetSpec → ℕ → Bool → Program Outcome
awaited t id s place serial due =
    if due then asking (IsActive (consumer t serial)) (turned t id s place)
    else settled t id s

abbrev pub update_of : Tables → ℕ → Subscription → Option OffsetSpec → Option ℕ → Program Outcome
update_of t id s place None = settled t id s
update_of t id s place (Some serial) = asking (Answering (consumer t serial)) (awaited t id s place serial)

abbrev pub update_at : Tables → ℕ → Option OffsetSpec → Option Subscription → Program Outcome
update_at t id place None = is_quiet t
update_at t id place (Some s) = update_of t id s place s.single

abbrev pub update_by : Tables → Option OffsetSpec → Option ℕ → Program Outcome
update_by t place None = is_quiet t
update_by t place (Some id) = update_at t id place (slot id t)

-- by its correlation alone, whatever its code
abbrev pub update_row : Tables → ℕ → Option OffsetSpec → Program Outcome
update_row t corr place = update_by t place (position (is_asked corr) t.subscriptions)
