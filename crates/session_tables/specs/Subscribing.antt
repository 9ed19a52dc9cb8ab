-- The streams and the subscriptions of a session.
use Rattle.std.specs.Prelude.{ℕ, ◌+◌, ◌-◌, ◌^◌, ◌==◌, Bool, true, false, ◌&&◌, nat_le, nat_lt, min, List, [], ◌∷◌, ◌++◌, length, codes, Option, Some, None, slice_index_or, slice_set, insert, replicate, position, find, if◌then◌else◌}
use Rattle.std.specs.List.{list_any}
use Rattle.chunk_format.specs.ByName.{same_name}
use Rattle.command_fields.specs.declared.property.Property.{Property}
use Rattle.command_admin.specs.declared.item.KeyVersions.{KeyVersions}
use Rattle.session_tables.specs.declared.streams.StreamName.{StreamName}
use Rattle.session_tables.specs.declared.tables.Subscription.{Subscription}
use Rattle.session_tables.specs.declared.tables.Stage.TheVariants.{Fresh}
use Rattle.session_tables.specs.declared.tables.Tables.{Tables}
use Rattle.session_tables.specs.Beating.{new_moments}

abbrev pub is_text : List ℕ → Option (List ℕ) → Bool
is_text bytes None = false
is_text bytes (Some other) = same_name other bytes

abbrev pub is_stream : ℕ → StreamName → Bool
is_stream stream known = known.stream == stream

-- a stream of a greater number
abbrev pub is_past : ℕ → StreamName → Bool
is_past stream known = nat_lt stream known.stream

-- before the stream of a place, or behind all
abbrev pub put_before : Option ℕ → StreamName → List StreamName → List StreamName
put_before None one known = known ++ one ∷ []
put_before (Some place) one known = insert known place one

-- a stream is kept once, under the first name by which it was asked for, before the first stream of a greater number
abbrev pub with_stream : ℕ → Option (List ℕ) → List StreamName → List StreamName
with_stream stream name known =
    if list_any (is_stream stream) known then known
    else put_before (position (is_past stream) known) (record { stream = stream; name = name }) known

-- ---- the properties of a subscription: of two with one key the first counts

abbrev pub has_key : List ℕ → Property → Bool
has_key key p = is_text key p.key

abbrev pub says_true : Option Property → Bool
says_true None = false
says_true (Some p) = is_text (codes "true") p.value

-- it is one of a group of which one is active
abbrev pub is_single : Option (List Property) → Bool
is_single None = false
is_single (Some properties) = says_true (find (has_key (codes "single-active-consumer")) properties)

abbrev pub is_group_name : Option (List ℕ) → Bool
is_group_name None = false
is_group_name (Some name) = nat_le 1 (length name) && nat_le (length name) 255

abbrev pub name_by : Option Property → Option (Option (List ℕ))
name_by None = None
name_by (Some p) = if is_group_name p.value then Some p.value else None

-- the name of its group, of 1 to 255 bytes
abbrev pub group_name : Option (List Property) → Option (Option (List ℕ))
group_name None = None
group_name (Some properties) = name_by (find (has_key (codes "name")) properties)

-- ---- the tables of a connection that begins

abbrev pub new_tables : ℕ → ℕ → Tables
new_tables number now = record {
  number = number;
  stage = Fresh;
  ended = None;
  publishers = [];
  subscriptions = replicate 256 None;
  streams = [];
  subscribed = 0;
  asked = 0;
  second = false;
  moments = new_moments now;
}

-- ---- subscriptions by their ids

abbrev pub slot : ℕ → Tables → Option Subscription
slot id t = slice_index_or t.subscriptions id None

abbrev pub put_slot : ℕ → Option Subscription → Tables → Tables
put_slot id s t = record t { subscriptions = slice_set t.subscriptions id s }

-- credits stop at the greatest number of eight bytes
abbrev pub more_credit : ℕ → Subscription → Subscription
more_credit credit s = record s { credit = min (s.credit + credit) (2 ^ 64 - 1) }

abbrev pub asked_by : ℕ → Option ℕ → Bool
asked_by corr None = false
asked_by corr (Some asked) = asked == corr

-- its update of this correlation isn't answered
abbrev pub is_asked : ℕ → Option Subscription → Bool
is_asked corr None = false
is_asked corr (Some s) = asked_by corr s.update

-- the last number that a connection gives a Subscribe
abbrev pub is_last : Tables → Bool
is_last t = t.subscribed == 4294967295

abbrev pub counted : Tables → Tables
counted t = record t { subscribed = if t.subscribed == 4294967295 then t.subscribed else t.subscribed + 1 }

-- ---- versions: the peer takes deliveries of version 2

abbrev pub takes_second : KeyVersions → Bool
takes_second v = (v.key == 0x0008) && nat_le v.least 2 && nat_le 2 v.greatest
