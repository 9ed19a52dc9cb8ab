-- All commands: those of both halves, by their keys.
use Rattle.std.specs.Prelude.{◌≡◌, ℕ, List, length, Option, Some, None, option_map, nat_lt, if◌then◌else◌}
use Rattle.std.specs.Int.{w16}
use Rattle.frame_wire.specs.Reading.{number_of}
use Rattle.frame_wire.specs.Frames as frames
use Rattle.command_fields.specs.declared.fault.DecodeFault.{DecodeFault}
use Rattle.command_fields.specs.Tables.{Layout, Table, SpellsIn, WrongIn, body_of}
use Rattle.command_data.specs.declared.key.DataKey.{DataKey}
use Rattle.command_data.specs.Commands as one_half
use Rattle.command_admin.specs.declared.key.AdminKey.{AdminKey}
use Rattle.command_admin.specs.Commands as other_half
use Rattle.command_all.specs.declared.command.Command.{Command}
use Rattle.command_all.specs.declared.command.Command.TheVariants.{Data, Admin}

-- a key of one half or of the other
pub data AnyKey : Type 0 where
  OfData : DataKey → AnyKey
  OfAdmin : AdminKey → AnyKey

-- the table of each key's half
abbrev pub layout_of : AnyKey → Layout
layout_of (OfData k) = one_half.data_layout k
layout_of (OfAdmin k) = other_half.admin_layout k

abbrev pub key_of : Command → AnyKey
key_of (Data c) = OfData (one_half.key_of c)
key_of (Admin c) = OfAdmin (other_half.key_of c)

abbrev pub fields_of : (c : Command) → (layout_of (key_of c)).Fields
fields_of (Data c) = one_half.fields_of c
fields_of (Admin c) = other_half.fields_of c

abbrev pub command_of : (k : AnyKey) → (layout_of k).Fields → Command
command_of (OfData k) x = Data (one_half.command_of k x)
command_of (OfAdmin k) x = Admin (other_half.command_of k x)

abbrev pub either_key : Option DataKey → Option AdminKey → Option AnyKey
either_key (Some k) o = Some (OfData k)
either_key None (Some k) = Some (OfAdmin k)
either_key None None = None

abbrev pub key_named : ℕ → Option AnyKey
key_named n = either_key (one_half.key_named n) (other_half.key_named n)

-- the second version of a key is one of its half's
abbrev pub newer_key : AnyKey → Option AnyKey
newer_key (OfData k) = option_map OfData (one_half.newer_key k)
newer_key (OfAdmin k) = None

abbrev pub command_table : Table Command AnyKey
command_table = record { layout_of = layout_of; key = key_of; fields = fields_of; make = command_of; named = key_named; newer = newer_key }

-- a command and its body
abbrev pub Spells : Command → List ℕ → Type 0
Spells c body = SpellsIn command_table c body

-- the first wrong field of a body
abbrev pub Wrong : List ℕ → DecodeFault → Type 0
Wrong body fault = WrongIn command_table body fault

-- the frame of a command: the size of its body, and the body
abbrev pub frame_of : Command → List ℕ
frame_of c = frames.frame (body_of command_table c)

-- the same of a body that the command spells
pub record IsFrame (c : Command) (bytes : List ℕ) : Type 0 where
  pub body : List ℕ
  pub spells : Spells c body
  pub framed : bytes ≡ frames.frame body

-- the key of a data command at the front of bytes
abbrev pub data_key_at : List ℕ → Option DataKey
data_key_at bytes = if nat_lt (length bytes) 2 then None else one_half.key_named (number_of w16 bytes)
