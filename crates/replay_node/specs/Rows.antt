-- The bytes of Publish and PublishConfirm written out: a key, a version, and the fields.
use Rattle.std.specs.Prelude.{◌≡◌, ◌↔◌, ℕ, ◌^◌, ◌<◌, List, ◌++◌, length}
use Rattle.std.specs.List.{flat_map, AllByRecursion}
use Rattle.frame_wire.specs.Fields.{u8_bytes, u16_bytes, u32_bytes, u64_bytes}
use Rattle.chunk_format.specs.Chunks.{entry_bytes, IsEntry}
use Rattle.command_data.specs.declared.item.Tagged.{Tagged}
use Rattle.replay_node.specs.Commands.{SpellsPublish, SpellsConfirm}

-- a list is the number of its items, and the items one after the other
abbrev pub list_bytes : {X : Type 0} → (X → List ℕ) → List X → List ℕ
list_bytes item_bytes items = u32_bytes (length items) ++ flat_map item_bytes items

-- an id and an entry
abbrev pub tagged_bytes : Tagged → List ℕ
tagged_bytes tagged = u64_bytes tagged.id ++ entry_bytes tagged.entry

-- Publish: key 0x0002, version 1, publisher u8, [id u64, entry]
abbrev pub publish_bytes : ℕ → List Tagged → List ℕ
publish_bytes publisher items = u16_bytes 2 ++ (u16_bytes 1 ++ (u8_bytes publisher ++ list_bytes tagged_bytes items))

-- PublishConfirm: key 0x0003, version 1, publisher u8, [id u64]
abbrev pub confirm_bytes : ℕ → List ℕ → List ℕ
confirm_bytes publisher ids = u16_bytes 3 ++ (u16_bytes 1 ++ (u8_bytes publisher ++ list_bytes u64_bytes ids))

abbrev pub IsTagged : Tagged → Type 0
IsTagged tagged = (tagged.id < 2 ^ 64) × IsEntry tagged.entry

-- a body that publishes these items
pub record IsPublish (body : List ℕ) (publisher : ℕ) (items : List Tagged) : Type 0 where
  pub spelled : body ≡ publish_bytes publisher items
  pub publisher_fits : publisher < 2 ^ 8
  pub few : length items < 2 ^ 31
  pub items_fit : AllByRecursion IsTagged items

-- a body that confirms these ids
pub record IsConfirm (body : List ℕ) (publisher : ℕ) (ids : List ℕ) : Type 0 where
  pub spelled : body ≡ confirm_bytes publisher ids
  pub publisher_fits : publisher < 2 ^ 8
  pub few : length ids < 2 ^ 31
  pub ids_fit : AllByRecursion (λ id. id < 2 ^ 64) ids

-- The rows of the data commands say just this.
abbrev pub PublishRow : Type 0
PublishRow = (body : List ℕ) (publisher : ℕ) (items : List Tagged) → SpellsPublish body publisher items ↔ IsPublish body publisher items

abbrev pub ConfirmRow : Type 0
ConfirmRow = (body : List ℕ) (publisher : ℕ) (ids : List ℕ) → SpellsConfirm body publisher ids ↔ IsConfirm body publisher ids
