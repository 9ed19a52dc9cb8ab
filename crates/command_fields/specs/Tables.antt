-- Tables of commands. A body is a key in two bytes, a version in two bytes, and the fields of the layout of that key in
-- that version.
use Rattle.std.specs.Prelude.{◌≡◌, ◌<◌, ◌≤◌, ◌^◌, ◌⊎◌, ℕ, List, [], ◌++◌, length, Option, Some, None, Result, Ok, Err, ◌==◌, if◌then◌else◌}
use Rattle.frame_wire.specs.Fields.{u16_bytes}
use Rattle.frame_wire.specs.Reading.{Spot}
use Rattle.frame_wire.specs.Formats.{Format, Spelled, u8_field, u16_field, u32_field, u64_field, text_field, blob_field}
use Rattle.frame_wire.specs.Joins.{◌>>=◌, within, ◌then◌, list}
use Rattle.frame_wire.specs.Items.{same_fault}
use Rattle.frame_wire.specs.declared.fault.FieldFault.{FieldFault}
use Rattle.frame_wire.specs.Laws.{IsBytes, LawfulLast}
use Rattle.command_fields.specs.declared.fault.DecodeFault.{DecodeFault}
use Rattle.command_fields.specs.declared.fault.DecodeFault.TheVariants.{UnknownKey, Version, Long}
use Rattle.command_fields.specs.Faults.{of_field}

-- the end of a body, where nothing is left
abbrev pub end_at : Spot → Result (Unit {0}) DecodeFault
end_at s = if length s.rest == 0 then Ok tt else Err (Long s.at)

-- The last field of a body: nothing stands behind it.
abbrev pub last : {A : Type 0} → Format A DecodeFault → Format A DecodeFault
last {A} f = record {
  spell = f.spell;
  Fits = f.Fits;
  read = λ s. f.read s >>= λ x. if length x.1.rest == 0 then Ok x else Err (Long x.1.at);
  Wrong = λ s fault. f.Wrong s fault ⊎ ((x : A) × (t : Spot) × Spelled f s x t × (0 < length t.rest) × (fault ≡ Long t.at));
}

-- The code and the version that begin a body, whether they are a key of the table, and the fields behind them, to the
-- body's end.
pub record Layout : Type 1 where
  pub code : ℕ
  pub version : ℕ
  pub Known : Type 0
  pub Fields : Type 0
  pub format : Format Fields DecodeFault

-- a layout in version 1
abbrev pub layout : {A : Type 0} → ℕ → Format A DecodeFault → Layout
layout {A} code format = record { code = code; version = 1; Known = Unit {0}; Fields = A; format = format }

-- The same of a key that is one of the table's only where this holds.
abbrev pub layout_if : {A : Type 0} → Type 0 → ℕ → Format A DecodeFault → Layout
layout_if {A} Known code format = record { code = code; version = 1; Known = Known; Fields = A; format = format }

-- a layout in version 2
abbrev pub layout_two : {A : Type 0} → ℕ → Format A DecodeFault → Layout
layout_two {A} code format = record { code = code; version = 2; Known = Unit {0}; Fields = A; format = format }

-- Commands of a kind C with keys of a kind K: the layout of each key, and how a command is its key and its fields.
pub record Table (C : Type 0) (K : Type 0) : Type 1 where
  pub layout_of : K → Layout
  pub key : C → K
  pub fields : (c : C) → (layout_of (key c)).Fields
  pub make : (k : K) → (layout_of k).Fields → C
  -- the key of a code in version 1, if it is one of the table's
  pub named : ℕ → Option K
  -- the key of the same code in version 2, if there is one
  pub newer : K → Option K

-- which commands have a spelling
abbrev pub IsCommand : {C K : Type 0} → Table C K → C → Type 0
IsCommand table c = (table.layout_of (table.key c)).Known × (table.layout_of (table.key c)).format.Fits (table.fields c)

abbrev pub body_of : {C K : Type 0} → Table C K → C → List ℕ
body_of table c = u16_bytes (table.layout_of (table.key c)).code ++ (u16_bytes (table.layout_of (table.key c)).version ++ (table.layout_of (table.key c)).format.spell (table.fields c))

-- a command and its body
pub record SpellsIn {C : Type 0} {K : Type 0} (table : Table C K) (c : C) (body : List ℕ) : Type 0 where
  pub is_command : IsCommand table c
  pub spelled : body ≡ body_of table c

-- a command that has a spelling in a frame, whose size is a number of four bytes
abbrev pub FitsIn : {C K : Type 0} → Table C K → C → Type 0
FitsIn table c = IsCommand table c × (length (body_of table c) ≤ 4294967295)

-- ---- the first wrong field

-- a body from its first byte
abbrev pub start : List ℕ → Spot
start body = record { at = 0; rest = body }

-- The first wrong field of a body: the key is not whole, or no command's; the version is not whole, or none of that key;
-- or what stands behind it is wrong.
pub data WrongIn {C : Type 0} {K : Type 0} (table : Table C K) (body : List ℕ) (fault : DecodeFault) : Type 0 where
  NoKey : (within of_field u16_field).Wrong (start body) fault → WrongIn table body fault
  OtherKey : (n : ℕ) (t : Spot) → Spelled u16_field (start body) n t → ((k : K) → (table.layout_of k).Known → (table.layout_of k).code ≡ n → ⊥) → fault ≡ UnknownKey 0 → WrongIn table body fault
  NoVersion : (k : K) (t : Spot) → (table.layout_of k).Known → Spelled u16_field (start body) (table.layout_of k).code t → (within of_field u16_field).Wrong t fault → WrongIn table body fault
  OtherVersion : (k : K) (t : Spot) (n : ℕ) (u : Spot) → (table.layout_of k).Known → Spelled u16_field (start body) (table.layout_of k).code t → Spelled u16_field t n u
      → ((j : K) → (table.layout_of j).Known → (table.layout_of j).code ≡ (table.layout_of k).code → (table.layout_of j).version ≡ n → ⊥) → fault ≡ Version t.at → WrongIn table body fault
  Behind : (k : K) (t u : Spot) → (table.layout_of k).Known → Spelled u16_field (start body) (table.layout_of k).code t → Spelled u16_field t (table.layout_of k).version u
      → (table.layout_of k).format.Wrong u fault → WrongIn table body fault

-- ---- reading from left to right

abbrev pub known_key : {K : Type 0} → Option K → Result K DecodeFault
known_key None = Err (UnknownKey 0)
known_key (Some k) = Ok k

-- the key of the same code in this version, if there is one
abbrev pub in_version : {K : Type 0} → (K → Option K) → K → ℕ → Option K
in_version newer k version = if version == 1 then Some k else if version == 2 then newer k else None

abbrev pub known_version : {K : Type 0} → ℕ → Option K → Result K DecodeFault
known_version place None = Err (Version place)
known_version place (Some k) = Ok k

abbrev pub command_at : {C K : Type 0} → Table C K → List ℕ → Result C DecodeFault
command_at table body =
    (within of_field u16_field).read (start body) >>= λ code.
    known_key (table.named code.0) >>= λ first.
    (within of_field u16_field).read code.1 >>= λ version.
    known_version code.1.at (in_version table.newer first version.0) >>= λ k.
    (table.layout_of k).format.read version.1 >>= λ x. Ok (table.make k x.0)

-- a version that is 1
abbrev pub version_at : Spot → Result (Unit {0} × Spot) DecodeFault
version_at s = (within of_field u16_field).read s >>= λ n. if n.0 == 1 then Ok (tt, n.1) else Err (Version s.at)

-- a format that ends a body, and leaves nothing
pub record LawfulEnd {A : Type 0} (f : Format A DecodeFault) : Type 0 where
  pub lawful : LawfulLast f
  pub whole : (s : Spot) (x : A) (t : Spot) → f.read s ≡ Ok (x, t) → t.rest ≡ []

-- What makes a table lawful: its formats are, each key is found by its code and its version and is what is found so,
-- codes and versions have two bytes, and a command is its key and its fields.
pub record LawfulTable {C : Type 0} {K : Type 0} (table : Table C K) : Type 1 where
  pub formats : (k : K) → LawfulEnd (table.layout_of k).format
  pub named : (k : K) → (table.layout_of k).Known → (first : K) × (table.named (table.layout_of k).code ≡ Some first) × (in_version table.newer first (table.layout_of k).version ≡ Some k)
  pub known : (n version : ℕ) (first k : K) → table.named n ≡ Some first → in_version table.newer first version ≡ Some k → (table.layout_of k).Known × ((table.layout_of k).code ≡ n) × ((table.layout_of k).version ≡ version)
  pub small : (k : K) → (table.layout_of k).Known → ((table.layout_of k).code < 2 ^ 16) × ((table.layout_of k).version < 2 ^ 16)
  pub made : (c : C) → table.make (table.key c) (table.fields c) ≡ c
  pub apart : (k : K) (x : (table.layout_of k).Fields) → ◌≡◌ {A = (j : K) × (table.layout_of j).Fields} (table.key (table.make k x), table.fields (table.make k x)) (k, x)

-- the fields of a key, as the command that they make
unfoldable pub fields_at : {C K : Type 0} → Table C K → K → Spot → Result (C × Spot) DecodeFault
fields_at table k s = (table.layout_of k).format.read s >>= λ x. Ok (table.make k x.0, x.1)

-- ---- the fields of commands, with the faults of commands

abbrev pub u8 : Format ℕ DecodeFault
u8 = within of_field u8_field

abbrev pub u16 : Format ℕ DecodeFault
u16 = within of_field u16_field

abbrev pub u32 : Format ℕ DecodeFault
u32 = within of_field u32_field

abbrev pub u64 : Format ℕ DecodeFault
u64 = within of_field u64_field

abbrev pub text : Format (Option (List ℕ)) DecodeFault
text = within of_field text_field

abbrev pub blob : Format (Option (List ℕ)) DecodeFault
blob = within of_field blob_field

-- a count and so many items
abbrev pub list_of : {A : Type 0} → Format A FieldFault → Format (List A) DecodeFault
list_of f = within of_field (list same_fault f)

-- A body has one outcome: a command that it spells, and never two, or one first wrong field.
pub record OneOutcomeIn {C : Type 0} {K : Type 0} (table : Table C K) : Type 0 where
  pub some : (body : List ℕ) → IsBytes body → ((c : C) × SpellsIn table c body) ⊎ ((fault : DecodeFault) × WrongIn table body fault)
  pub value : (c d : C) (body : List ℕ) → SpellsIn table c body → SpellsIn table d body → c ≡ d
  pub fault : (body : List ℕ) (a b : DecodeFault) → WrongIn table body a → WrongIn table body b → a ≡ b
  pub no_both : (body : List ℕ) (c : C) (fault : DecodeFault) → SpellsIn table c body → WrongIn table body fault → ⊥
