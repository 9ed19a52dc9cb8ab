-- The catalog as a list of names, and what is asked of it.
use Rattle.std.specs.Prelude.{◌==◌, ℕ, Bool, false, List, [], ◌∷◌, map, Option, Some, None, is_some, option_and_then, unwrap_or, flat_map, if◌then◌else◌}
use Rattle.std.specs.Cmp.Lexicographic.{pointwise}
use Rattle.std.specs.Map.{lookup}
use Rattle.stream_catalog.specs.declared.holder.Holder.{Holder}
use Rattle.stream_catalog.specs.declared.holder.Holder.TheVariants as holds

abbrev pub same_name : List ℕ → List ℕ → Bool
same_name a b = pointwise (λ x y. x == y) a b

-- each name with what it stands for, in the order in which they came, and the greatest number ever given, or 0
pub record Names : Type 0 where
  pub list : List (List ℕ × Holder)
  pub last : ℕ

-- a catalog that nothing was done to
abbrev pub no_names : Names
no_names = record { list = []; last = 0 }

-- what a name stands for
abbrev pub holder_of : List ℕ → Names → Option Holder
holder_of name names = lookup (same_name name) names.list

-- ---- streams and their numbers

-- a stream's number, with its place in its super stream, which is 0 for a stream of its own
abbrev pub numbered : Holder → List (ℕ × ℕ)
numbered (holds.Stream number) = (number, 0) ∷ []
numbered (holds.Part number place) = (number, place) ∷ []
numbered (holds.Super first parts keys) = []

-- the live streams
abbrev pub live : Names → List (ℕ × ℕ)
live names = flat_map (λ e. numbered e.1) names.list

-- their numbers
abbrev pub streams : Names → List ℕ
streams names = map (λ p. p.0) (live names)

-- the place of a stream in its super stream, else 0
abbrev pub part_index : ℕ → Names → ℕ
part_index number names = unwrap_or (lookup (λ n. number == n) (live names)) 0

-- a live stream has the number
abbrev pub is_live : ℕ → Names → Bool
is_live number names = is_some (lookup (λ n. number == n) (live names))

abbrev pub number_of : Holder → Option ℕ
number_of (holds.Stream number) = Some number
number_of (holds.Part number place) = Some number
number_of (holds.Super first parts keys) = None

-- the number of the stream of a name
abbrev pub find : List ℕ → Names → Option ℕ
find name names = option_and_then number_of (holder_of name names)

-- ---- super streams

-- the names of the partitions of a super stream, in their order
abbrev pub parts_of : Holder → Option (List (Option (List ℕ)))
parts_of (holds.Stream number) = None
parts_of (holds.Part number place) = None
parts_of (holds.Super first parts keys) = Some parts

abbrev pub parts : List ℕ → Names → Option (List (Option (List ℕ)))
parts name names = option_and_then parts_of (holder_of name names)

-- a binding key is this routing key
abbrev pub is_key : List ℕ → Option (List ℕ) → Bool
is_key key None = false
is_key key (Some bound) = same_name key bound

-- the partitions whose key is the routing key, in their order
abbrev pub routed : List ℕ → List (Option (List ℕ)) → List (Option (List ℕ)) → List (Option (List ℕ))
routed key [] keys = []
routed key (part ∷ parts) [] = []
routed key (part ∷ parts) (bound ∷ keys) = if is_key key bound then part ∷ routed key parts keys else routed key parts keys

abbrev pub routes_of : List ℕ → Holder → Option (List (Option (List ℕ)))
routes_of key (holds.Stream number) = None
routes_of key (holds.Part number place) = None
routes_of key (holds.Super first parts keys) = Some (routed key parts keys)

abbrev pub route : List ℕ → List ℕ → Names → Option (List (Option (List ℕ)))
route key name names = option_and_then (routes_of key) (holder_of name names)
