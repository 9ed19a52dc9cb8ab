-- What the rules of the catalog make of a change that is asked for: the change that happens, or why it is refused; and what each change makes of the list of names.
use Rattle.std.specs.Prelude.{◌==◌, ℕ, ◌+◌, ◌-◌, ◌^◌, Bool, true, false, not, ◌&&◌, nat_lt, nat_le, List, [], ◌∷◌, ◌++◌, length, filter, Option, Some, None, is_some, unwrap_or, Result, Ok, Err, if◌then◌else◌}
use Rattle.std.specs.List.{list_any, list_all}
use Rattle.stream_catalog.specs.declared.holder.Holder.{Holder}
use Rattle.stream_catalog.specs.declared.holder.Holder.TheVariants as holds
use Rattle.stream_catalog.specs.declared.change.Change.{Change}
use Rattle.stream_catalog.specs.declared.change.ChangeKind.{ChangeKind}
use Rattle.stream_catalog.specs.declared.change.ChangeKind.TheVariants as kind
use Rattle.stream_catalog.specs.declared.fault.Why.TheVariants as why
use Rattle.stream_catalog.specs.declared.fault.CatalogFault.{CatalogFault}
use Rattle.stream_catalog.specs.declared.fault.CatalogFault.TheVariants.{Missing, Exists, Refused}
use Rattle.stream_catalog.specs.Names.{Names, same_name, holder_of, live, streams}

-- ---- names that are asked for

-- the bytes of a text
abbrev pub named : Option (List ℕ) → List ℕ
named text = unwrap_or text []

-- a name has 1 to 255 bytes
abbrev pub is_name : Option (List ℕ) → Bool
is_name None = false
is_name (Some bytes) = nat_lt 0 (length bytes) && nat_lt (length bytes) 256

-- what a text stands for; null stands for nothing
abbrev pub holder_at : Option (List ℕ) → Names → Option Holder
holder_at None names = None
holder_at (Some name) names = holder_of name names

abbrev pub is_taken : Names → Option (List ℕ) → Bool
is_taken names text = is_some (holder_at text names)

-- no two of these names are equal
abbrev pub all_differ : List (List ℕ) → Bool
all_differ [] = true
all_differ (name ∷ more) = not (list_any (same_name name) more) && all_differ more

abbrev pub all_named : List (Option (List ℕ)) → List (List ℕ)
all_named [] = []
all_named (text ∷ texts) = named text ∷ all_named texts

-- there are partitions and a key for each, no two names are equal, and no key is null
abbrev pub are_parts : Option (List ℕ) → List (Option (List ℕ)) → List (Option (List ℕ)) → Bool
are_parts name parts keys = nat_lt 0 (length parts) && (length keys == length parts) && all_differ (all_named (name ∷ parts)) && list_all is_some keys

-- ---- the rules, each in its order

-- why a stream of a name is refused
abbrev pub create_refused : Option (List ℕ) → Names → Option CatalogFault
create_refused name names =
    if not (is_name name) then Some (Refused why.Name) else
    if is_taken names name then Some Exists else
    None

-- why a super stream of a name with these partitions and keys is refused
abbrev pub super_refused : Option (List ℕ) → List (Option (List ℕ)) → List (Option (List ℕ)) → Names → Option CatalogFault
super_refused name parts keys names =
    if not (is_name name && list_all is_name parts) then Some (Refused why.Name) else
    if not (are_parts name parts keys) then Some (Refused why.Parts) else
    if list_any (is_taken names) (name ∷ parts) then Some Exists else
    None

-- so many streams more are within a limit of live streams, and their numbers below 2^32
abbrev pub has_room : ℕ → ℕ → Names → Bool
has_room limit count names = nat_le (length (live names) + count) limit && nat_lt (names.last + count) (2 ^ 32)

-- a change that is refused for this, or for want of room, or that happens
abbrev pub unless : Option CatalogFault → Bool → Change → Result Change CatalogFault
unless (Some fault) room change = Err fault
unless None room change = if room then Ok change else Err (Refused why.Streams)

-- ---- the changes that are asked for: the one that happens, or why none does

abbrev pub create_stream : ℕ → Option (List ℕ) → Change
create_stream number name = record { kind = kind.Create; number = number; name = name; parts = []; keys = [] }

abbrev pub delete_stream : ℕ → Option (List ℕ) → Change
delete_stream number name = record { kind = kind.Delete; number = number; name = name; parts = []; keys = [] }

abbrev pub delete_all : ℕ → Option (List ℕ) → Change
delete_all number name = record { kind = kind.DeleteSuper; number = number; name = name; parts = []; keys = [] }

abbrev pub create_all : ℕ → Option (List ℕ) → List (Option (List ℕ)) → List (Option (List ℕ)) → Change
create_all number name parts keys = record { kind = kind.CreateSuper; number = number; name = name; parts = parts; keys = keys }

-- with a limit of live streams
abbrev pub creates : ℕ → Option (List ℕ) → Names → Result Change CatalogFault
creates limit name names = unless (create_refused name names) (has_room limit 1 names) (create_stream (names.last + 1) name)

abbrev pub creates_super : ℕ → Option (List ℕ) → List (Option (List ℕ)) → List (Option (List ℕ)) → Names → Result Change CatalogFault
creates_super limit name parts keys names =
    unless (super_refused name parts keys names) (has_room limit (length parts) names) (create_all (names.last + 1) name parts keys)

abbrev pub deletes_held : Option (List ℕ) → Option Holder → Result Change CatalogFault
deletes_held name None = Err Missing
deletes_held name (Some (holds.Stream number)) = Ok (delete_stream number name)
deletes_held name (Some (holds.Part number place)) = Err (Refused why.InSuper)
deletes_held name (Some (holds.Super first parts keys)) = Err Missing

abbrev pub deletes : Option (List ℕ) → Names → Result Change CatalogFault
deletes name names = deletes_held name (holder_at name names)

abbrev pub deletes_super_held : Option (List ℕ) → Option Holder → Result Change CatalogFault
deletes_super_held name None = Err Missing
deletes_super_held name (Some (holds.Stream number)) = Err Missing
deletes_super_held name (Some (holds.Part number place)) = Err Missing
deletes_super_held name (Some (holds.Super first parts keys)) = Ok (delete_all first name)

abbrev pub deletes_super : Option (List ℕ) → Names → Result Change CatalogFault
deletes_super name names = deletes_super_held name (holder_at name names)

-- ---- what a change makes of the list

-- the number that a name stands for: of a super stream that of its first partition
abbrev pub first_of : Holder → ℕ
first_of (holds.Stream number) = number
first_of (holds.Part number place) = number
first_of (holds.Super first parts keys) = first

-- how many streams go with a name
abbrev pub count_of : Option Holder → ℕ
count_of None = 0
count_of (Some (holds.Stream number)) = 1
count_of (Some (holds.Part number place)) = 1
count_of (Some (holds.Super first parts keys)) = length parts

-- one of so many numbers from the first on
abbrev pub is_among : ℕ → ℕ → ℕ → Bool
is_among first count number = nat_le first number && nat_lt number (first + count)

-- without the names that stand for these numbers
abbrev pub without : ℕ → ℕ → List (List ℕ × Holder) → List (List ℕ × Holder)
without first count list = filter (λ e. not (is_among first count (first_of e.1))) list

-- partitions with consecutive numbers, from a place on
abbrev pub part_names : ℕ → ℕ → List (Option (List ℕ)) → List (List ℕ × Holder)
part_names first place [] = []
part_names first place (part ∷ parts) = (named part, holds.Part (first + place) place) ∷ part_names first (place + 1) parts

-- a stream comes behind all names, or the partitions of a super stream and then its own name; a stream goes, or a super stream and its partitions
abbrev pub changed_by : ChangeKind → Change → Names → Names
changed_by kind.Create c names = record { list = names.list ++ (named c.name, holds.Stream c.number) ∷ []; last = c.number }
changed_by kind.CreateSuper c names = record { list = (names.list ++ part_names c.number 0 c.parts) ++ (named c.name, holds.Super c.number c.parts c.keys) ∷ []; last = c.number + length c.parts - 1 }
changed_by kind.Delete c names = record { list = without c.number (count_of (holder_at c.name names)) names.list; last = names.last }
changed_by kind.DeleteSuper c names = record { list = without c.number (count_of (holder_at c.name names)) names.list; last = names.last }

abbrev pub changed : Change → Names → Names
changed c names = changed_by c.kind c names

-- the list after an answer: changed where the change happens, else as it was
abbrev pub after : Result Change CatalogFault → Names → Names
after (Ok c) names = changed c names
after (Err fault) names = names

-- the numbers of the live streams that go with a super stream
abbrev pub numbers_going : Option Holder → List ℕ → List ℕ
numbers_going None numbers = []
numbers_going (Some (holds.Stream number)) numbers = []
numbers_going (Some (holds.Part number place)) numbers = []
numbers_going (Some (holds.Super first parts keys)) numbers = filter (λ n. is_among first (length parts) n) numbers

abbrev pub numbers_gone : Change → Names → List ℕ
numbers_gone c names = numbers_going (holder_at c.name names) (streams names)
