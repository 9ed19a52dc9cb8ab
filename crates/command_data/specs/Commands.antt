-- The data commands: the layout of each, and the commands that a body spells.
use Rattle.std.specs.Prelude.{◌≡◌, ◌⊎◌, ℕ, List, Option, Some, None, ◌==◌, if◌then◌else◌}
use Rattle.frame_wire.specs.Formats.{u64_field}
use Rattle.frame_wire.specs.Joins.{◌then◌, or_absent}
use Rattle.command_fields.specs.declared.fault.DecodeFault.{DecodeFault}
use Rattle.command_fields.specs.Offsets.{spec_field}
use Rattle.command_fields.specs.Properties.{property_field}
use Rattle.command_fields.specs.Tables.{Layout, layout, layout_if, layout_two, Table, SpellsIn, WrongIn, last, u8, u16, u32, u64, text, list_of}
use Rattle.command_data.specs.declared.command.DataCommand.{DataCommand}
use Rattle.command_data.specs.declared.command.DataCommand.TheVariants.{DeclarePublisher, Publish, PublishConfirm, PublishError, QueryPublisherSequence, SequenceAnswer, DeletePublisher, Subscribe, Deliver, Deliver2, Credit, CreditFault, StoreOffset, QueryOffset, OffsetAnswer, Unsubscribe, Plain}
use Rattle.command_data.specs.declared.key.DataKey.{DataKey}
use Rattle.command_data.specs.declared.key.DataKey.TheVariants as keys
use Rattle.command_data.specs.Items.{tagged_field, refusal_field, delivered}

-- the responses of a code alone
abbrev pub IsPlainKey : ℕ → Type 0
IsPlainKey n = (n ≡ 0x8001) ⊎ ((n ≡ 0x8006) ⊎ ((n ≡ 0x8007) ⊎ (n ≡ 0x800c)))

-- ---- the table: the code of each key, in version 1 where no other is named, and the fields behind both

abbrev pub data_layout : DataKey → Layout
data_layout keys.DeclarePublisher = layout 0x0001 (u32 then u8 then text then last text)
data_layout keys.Publish = layout 0x0002 (u8 then last (list_of tagged_field))
data_layout keys.PublishConfirm = layout 0x0003 (u8 then last (list_of u64_field))
data_layout keys.PublishError = layout 0x0004 (u8 then last (list_of refusal_field))
data_layout keys.QueryPublisherSequence = layout 0x0005 (u32 then text then last text)
data_layout keys.SequenceAnswer = layout 0x8005 (u32 then u16 then or_absent (last u64))
data_layout keys.DeletePublisher = layout 0x0006 (u32 then last u8)
data_layout keys.Subscribe = layout 0x0007 (u32 then u8 then text then spec_field then u16 then or_absent (last (list_of property_field)))
data_layout keys.Deliver = layout 0x0008 (u8 then last delivered)
data_layout keys.Deliver2 = layout_two 0x0008 (u8 then u64 then last delivered)
data_layout keys.Credit = layout 0x0009 (u8 then last u16)
data_layout keys.CreditFault = layout 0x8009 (u16 then last u8)
data_layout keys.StoreOffset = layout 0x000a (text then text then last u64)
data_layout keys.QueryOffset = layout 0x000b (u32 then text then last text)
data_layout keys.OffsetAnswer = layout 0x800b (u32 then u16 then or_absent (last u64))
data_layout keys.Unsubscribe = layout 0x000c (u32 then last u8)
data_layout (keys.Plain n) = layout_if (IsPlainKey n) n (u32 then last u16)

abbrev pub key_of : DataCommand → DataKey
key_of (DeclarePublisher corr publisher reference stream) = keys.DeclarePublisher
key_of (Publish publisher items) = keys.Publish
key_of (PublishConfirm publisher items) = keys.PublishConfirm
key_of (PublishError publisher items) = keys.PublishError
key_of (QueryPublisherSequence corr reference stream) = keys.QueryPublisherSequence
key_of (SequenceAnswer corr code content) = keys.SequenceAnswer
key_of (DeletePublisher corr publisher) = keys.DeletePublisher
key_of (Subscribe corr sub stream spec credit properties) = keys.Subscribe
key_of (Deliver sub header payload) = keys.Deliver
key_of (Deliver2 sub committed header payload) = keys.Deliver2
key_of (Credit sub credit) = keys.Credit
key_of (CreditFault code sub) = keys.CreditFault
key_of (StoreOffset reference stream offset) = keys.StoreOffset
key_of (QueryOffset corr reference stream) = keys.QueryOffset
key_of (OffsetAnswer corr code content) = keys.OffsetAnswer
key_of (Unsubscribe corr sub) = keys.Unsubscribe
key_of (Plain key corr code) = keys.Plain key

abbrev pub fields_of : (c : DataCommand) → (data_layout (key_of c)).Fields
fields_of (DeclarePublisher corr publisher reference stream) = (corr, (publisher, (reference, stream)))
fields_of (Publish publisher items) = (publisher, items)
fields_of (PublishConfirm publisher items) = (publisher, items)
fields_of (PublishError publisher items) = (publisher, items)
fields_of (QueryPublisherSequence corr reference stream) = (corr, (reference, stream))
fields_of (SequenceAnswer corr code content) = (corr, (code, content))
fields_of (DeletePublisher corr publisher) = (corr, publisher)
fields_of (Subscribe corr sub stream spec credit properties) = (corr, (sub, (stream, (spec, (credit, properties)))))
fields_of (Deliver sub header payload) = (sub, (header, payload))
fields_of (Deliver2 sub committed header payload) = (sub, (committed, (header, payload)))
fields_of (Credit sub credit) = (sub, credit)
fields_of (CreditFault code sub) = (code, sub)
fields_of (StoreOffset reference stream offset) = (reference, (stream, offset))
fields_of (QueryOffset corr reference stream) = (corr, (reference, stream))
fields_of (OffsetAnswer corr code content) = (corr, (code, content))
fields_of (Unsubscribe corr sub) = (corr, sub)
fields_of (Plain key corr code) = (corr, code)

abbrev pub command_of : (k : DataKey) → (data_layout k).Fields → DataCommand
command_of keys.DeclarePublisher (corr, (publisher, (reference, stream))) = DeclarePublisher corr publisher reference stream
command_of keys.Publish (publisher, items) = Publish publisher items
command_of keys.PublishConfirm (publisher, items) = PublishConfirm publisher items
command_of keys.PublishError (publisher, items) = PublishError publisher items
command_of keys.QueryPublisherSequence (corr, (reference, stream)) = QueryPublisherSequence corr reference stream
command_of keys.SequenceAnswer (corr, (code, content)) = SequenceAnswer corr code content
command_of keys.DeletePublisher (corr, publisher) = DeletePublisher corr publisher
command_of keys.Subscribe (corr, (sub, (stream, (spec, (credit, properties))))) = Subscribe corr sub stream spec credit properties
command_of keys.Deliver (sub, (header, payload)) = Deliver sub header payload
command_of keys.Deliver2 (sub, (committed, (header, payload))) = Deliver2 sub committed header payload
command_of keys.Credit (sub, credit) = Credit sub credit
command_of keys.CreditFault (code, sub) = CreditFault code sub
command_of keys.StoreOffset (reference, (stream, offset)) = StoreOffset reference stream offset
command_of keys.QueryOffset (corr, (reference, stream)) = QueryOffset corr reference stream
command_of keys.OffsetAnswer (corr, (code, content)) = OffsetAnswer corr code content
command_of keys.Unsubscribe (corr, sub) = Unsubscribe corr sub
command_of (keys.Plain n) (corr, code) = Plain n corr code

-- the key of a code in version 1
abbrev pub key_named : ℕ → Option DataKey
key_named n =
    if n == 0x0001 then Some keys.DeclarePublisher else
    if n == 0x0002 then Some keys.Publish else
    if n == 0x0003 then Some keys.PublishConfirm else
    if n == 0x0004 then Some keys.PublishError else
    if n == 0x0005 then Some keys.QueryPublisherSequence else
    if n == 0x8005 then Some keys.SequenceAnswer else
    if n == 0x0006 then Some keys.DeletePublisher else
    if n == 0x0007 then Some keys.Subscribe else
    if n == 0x0008 then Some keys.Deliver else
    if n == 0x0009 then Some keys.Credit else
    if n == 0x8009 then Some keys.CreditFault else
    if n == 0x000a then Some keys.StoreOffset else
    if n == 0x000b then Some keys.QueryOffset else
    if n == 0x800b then Some keys.OffsetAnswer else
    if n == 0x000c then Some keys.Unsubscribe else
    if n == 0x8001 then Some (keys.Plain n) else
    if n == 0x8006 then Some (keys.Plain n) else
    if n == 0x8007 then Some (keys.Plain n) else
    if n == 0x800c then Some (keys.Plain n) else
    None

-- a delivery has a second version
abbrev pub newer_key : DataKey → Option DataKey
newer_key keys.Deliver = Some keys.Deliver2
newer_key _ = None

abbrev pub data_table : Table DataCommand DataKey
data_table = record { layout_of = data_layout; key = key_of; fields = fields_of; make = command_of; named = key_named; newer = newer_key }

-- a command and its body
abbrev pub DataSpells : DataCommand → List ℕ → Type 0
DataSpells c body = SpellsIn data_table c body

-- the first wrong field of a body
abbrev pub DataWrong : List ℕ → DecodeFault → Type 0
DataWrong body fault = WrongIn data_table body fault
