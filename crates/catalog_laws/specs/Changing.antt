-- Changes of a catalog, one after the other.
use Rattle.std.specs.Prelude.{◌≡◌, ℕ, ◌+◌, Bool, true, List, [], ◌∷◌, ◌++◌, Option}
use Rattle.stream_catalog.specs.declared.change.Change.{Change}
use Rattle.stream_catalog.specs.declared.change.ChangeKind.{ChangeKind}
use Rattle.stream_catalog.specs.declared.change.ChangeKind.TheVariants.{Create, Delete, CreateSuper, DeleteSuper}
use Rattle.stream_catalog.specs.declared.holder.Holder.{Holder}
use Rattle.stream_catalog.specs.Names.{Names, no_names}
use Rattle.stream_catalog.specs.Rules.{changed, count_of, first_of, holder_at, is_among}
use Rattle.stream_catalog.specs.Files.{fits}

-- the names after changes
abbrev pub after_all : List Change → Names → Names
after_all [] names = names
after_all (c ∷ changes) names = after_all changes (changed c names)

-- each of them fits those before it
abbrev pub FitAll : List Change → Names → Type 0
FitAll [] names = Unit {0}
FitAll (c ∷ changes) names = (fits c names ≡ true) × FitAll changes (changed c names)

-- names that changes made of none
pub record IsMade (names : Names) : Type 0 where
  pub changes : List Change
  pub fit : FitAll changes no_names
  pub are : after_all changes no_names ≡ names

-- ---- numbers that are given

-- one number for each, one behind the other
abbrev pub numbers_from : ℕ → List (Option (List ℕ)) → List ℕ
numbers_from n [] = []
numbers_from n (part ∷ parts) = n ∷ numbers_from (n + 1) parts

-- that of a stream that comes, or those of the partitions of a super stream
abbrev pub given_by : ChangeKind → Change → List ℕ
given_by Create c = c.number ∷ []
given_by CreateSuper c = numbers_from c.number c.parts
given_by Delete c = []
given_by DeleteSuper c = []

abbrev pub all_given : List Change → List ℕ
all_given [] = []
all_given (c ∷ changes) = given_by c.kind c ++ all_given changes

-- ---- names that go

-- what a name stands for goes with a change that takes names away
abbrev pub goes_with : Change → Names → Holder → Bool
goes_with c names held = is_among c.number (count_of (holder_at c.name names)) (first_of held)
