-- Epochs that ended: the publishers and subscriptions of each are gone.
use Rattle.std.specs.Prelude.{ℕ, Bool, false, ◌==◌, ◌||◌, List, [], ◌∷◌, ◌++◌, map, Option, None, Some, slice_index_or, if◌then◌else◌}
use Rattle.std.specs.List.{list_any}
use Rattle.stream_terms.specs.Views.{name_of}
use Rattle.hub_terms.specs.declared.terms.Found.{Found}
use Rattle.hub_terms.specs.declared.terms.Found.TheVariants.{Missing, Closed, Running}
use Rattle.hub_terms.specs.Calls.{Words, Finding, Leaving}
use Rattle.hub_terms.specs.Programs.{Program, done, asking}
use Rattle.session_tables.specs.Publishing.{is_over, publisher_over, without_ended}
use Rattle.session_tables.specs.declared.streams.StreamName.{StreamName}
use Rattle.session_tables.specs.declared.tables.Subscription.{Subscription}
use Rattle.session_tables.specs.declared.tables.Tables.{Tables}
use Rattle.session_core.specs.declared.unasked.Unasked.{Unasked}
use Rattle.session_core.specs.declared.unasked.Unasked.TheVariants as say
use Rattle.session_core.specs.Consuming.{consumer}
use Rattle.session_core.specs.Living.{single_of}
use Rattle.session_core.specs.Speaking.{Spoken, spoken, goes_on}

-- The epoch that runs on the stream of a number, by what its name leads to. Another stream of the name isn't that one.
abbrev pub running_on : ℕ → Found → Option ℕ
running_on stream Missing = None
running_on stream (Closed other) = None
running_on stream (Running other epoch) = if other == stream then Some epoch else None

abbrev pub slot_over : ℕ → Option ℕ → Option Subscription → Bool
slot_over stream running None = false
slot_over stream running (Some s) = is_over stream running s.stream s.epoch

-- Some publisher or subscription on the stream is of another epoch than the one that runs there; where none runs, some is on
-- the stream.
abbrev pub has_over : ℕ → Option ℕ → Tables → Bool
has_over stream running t = list_any (publisher_over stream running) t.publishers || list_any (slot_over stream running) t.subscriptions

abbrev pub kept_slot : ℕ → Option ℕ → Option Subscription → Option Subscription
kept_slot stream running s = if slot_over stream running s then None else s

-- they are gone
abbrev pub without_over : ℕ → Option ℕ → Tables → Tables
without_over stream running t = record t {
  publishers = without_ended stream running t.publishers;
  subscriptions = map (kept_slot stream running) t.subscriptions;
}

-- the consumer that leaves its group, if one does
abbrev pub leaver : ℕ → Option ℕ → Option Subscription → Option ℕ
leaver stream running s = if slot_over stream running s then single_of s else None

abbrev pub leaving : Tables → Option ℕ → Program (Unit {0}) → Program (Unit {0})
leaving t None rest = rest
leaving t (Some serial) rest = asking (Leaving (consumer t serial)) (λ (u : Unit {0}). rest)

-- the consumers of those that are over leave their groups, by their ids
abbrev pub all_leaving : Tables → ℕ → Option ℕ → List (Option Subscription) → Program (Unit {0})
all_leaving t stream running [] = done tt
all_leaving t stream running (s ∷ more) = leaving t (leaver stream running s) (all_leaving t stream running more)

abbrev pub ended_row : Tables → List Unasked → ℕ → Option ℕ → Words → Program Spoken
ended_row t said stream running name =
    goes_on (all_leaving t stream running t.subscriptions) (λ (u : Unit {0}). done (spoken (said ++ say.MetadataUpdate name ∷ []) (without_over stream running t)))

abbrev pub found_row : Tables → List Unasked → StreamName → Option ℕ → Program Spoken
found_row t said k running = if has_over k.stream running t then ended_row t said k.stream running k.name else done (spoken said t)

-- a stream is asked for where it is used
abbrev pub stream_row : Tables → List Unasked → StreamName → Program Spoken
stream_row t said k =
    if has_over k.stream None t then asking (Finding (name_of k.name)) (λ found. found_row t said k (running_on k.stream found))
    else done (spoken said t)

-- stream after stream
abbrev pub streams_row : List StreamName → Tables → List Unasked → Program Spoken
streams_row [] t said = done (spoken said t)
streams_row (k ∷ ks) t said = goes_on (stream_row t said k) (λ a. streams_row ks a.tables a.said)

-- the stream at a place of the table
abbrev pub stream_at : ℕ → Tables → StreamName
stream_at place t = slice_index_or t.streams place (record { stream = 0; name = None })
