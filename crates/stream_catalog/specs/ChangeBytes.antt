-- How a change is spelled in the file of changes: its kind as one byte, its number in four, the name as a text, and of a super stream that comes the names of its partitions and their binding keys, as lists of texts.
use Rattle.std.specs.Prelude.{◌≡◌, ◌<◌, ◌^◌, ◌==◌, ℕ, Bool, true, false, ◌&&◌, nat_lt, List, [], length, Option, Some, None, Result, Ok, Err, if◌then◌else◌}
use Rattle.frame_wire.specs.declared.fault.FieldFault.{FieldFault}
use Rattle.frame_wire.specs.declared.fault.FieldFault.TheVariants.{Short}
use Rattle.frame_wire.specs.Fields.{IsText}
use Rattle.frame_wire.specs.Reading.{Spot}
use Rattle.frame_wire.specs.Formats.{Format, u8_field, u32_field, text_field}
use Rattle.frame_wire.specs.Joins.{◌then◌, list}
use Rattle.frame_wire.specs.Views.{behind, viewed}
use Rattle.frame_wire.specs.Items.{same_fault}
use Rattle.stream_catalog.specs.declared.change.Change.{Change}
use Rattle.stream_catalog.specs.declared.change.ChangeKind.{ChangeKind}
use Rattle.stream_catalog.specs.declared.change.ChangeKind.TheVariants.{Create, Delete, CreateSuper, DeleteSuper}

abbrev pub Texts : Type 0
Texts = List (Option (List ℕ))

abbrev pub number_of_kind : ChangeKind → ℕ
number_of_kind Create = 1
number_of_kind Delete = 2
number_of_kind CreateSuper = 3
number_of_kind DeleteSuper = 4

abbrev pub kind_of_number : ℕ → Option ChangeKind
kind_of_number n =
    if n == 1 then Some Create else
    if n == 2 then Some Delete else
    if n == 3 then Some CreateSuper else
    if n == 4 then Some DeleteSuper else
    None

-- two lists of texts
abbrev pub two_lists : Format (Texts × Texts) FieldFault
two_lists = list same_fault text_field then list same_fault text_field

-- no bytes, for two lists without texts
abbrev pub no_lists : Format (Texts × Texts) FieldFault
no_lists = record {
  spell = λ lists. [];
  Fits = λ lists. lists ≡ ([], []);
  read = λ s. Ok (([], []), s);
  Wrong = λ s fault. ⊥;
}

-- what stands behind the name: the lists of a super stream that comes
abbrev pub lists_where : Bool → Format (Texts × Texts) FieldFault
lists_where true = two_lists
lists_where false = no_lists

abbrev pub lists_of : ℕ → Format (Texts × Texts) FieldFault
lists_of kind = lists_where (kind == 3)

-- the fields of a change
abbrev pub ChangeFields : Type 0
ChangeFields = (ℕ × (ℕ × Option (List ℕ))) × (Texts × Texts)

abbrev pub change_fields : Format ChangeFields FieldFault
change_fields = behind (u8_field then u32_field then text_field) (λ head. lists_of head.0)

abbrev pub with_kind : Option ChangeKind → ChangeFields → Option Change
with_kind None fields = None
with_kind (Some kind) fields = Some (record { kind = kind; number = fields.0.1.0; name = fields.0.1.1; parts = fields.1.0; keys = fields.1.1 })

-- at most 65,535 of each
abbrev pub few : Texts × Texts → Bool
few lists = nat_lt (length lists.0) 65536 && nat_lt (length lists.1) 65536

abbrev pub change_made : ChangeFields → Option Change
change_made fields = if few fields.1 then with_kind (kind_of_number fields.0.0) fields else None

abbrev pub change_parts : Change → ChangeFields
change_parts c = ((number_of_kind c.kind, (c.number, c.name)), (c.parts, c.keys))

-- a change that has a spelling
abbrev pub HasLists : ChangeKind → Texts × Texts → Type 0
HasLists Create lists = lists ≡ ([], [])
HasLists Delete lists = lists ≡ ([], [])
HasLists CreateSuper lists = two_lists.Fits lists
HasLists DeleteSuper lists = lists ≡ ([], [])

pub record IsChange (c : Change) : Type 0 where
  pub number : c.number < 2 ^ 32
  pub name : IsText c.name
  pub lists : HasLists c.kind (c.parts, c.keys)
  pub parts : length c.parts < 65536
  pub keys : length c.keys < 65536

abbrev pub change_format : Format Change FieldFault
change_format = viewed change_made change_parts IsChange Short change_fields

abbrev pub change_bytes : Change → List ℕ
change_bytes c = change_format.spell c

-- a change that is all of these bytes
abbrev pub whole : Result (Change × Spot) FieldFault → Option Change
whole (Ok (c, t)) = if length t.rest == 0 then Some c else None
whole (Err fault) = None

-- the change that these bytes spell
unfoldable pub change_of : List ℕ → Option Change
change_of bytes = whole (change_format.read (record { at = 0; rest = bytes }))
