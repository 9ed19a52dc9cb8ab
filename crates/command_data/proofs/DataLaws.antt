-- The table of the data commands is lawful.
use Rattle.std.proofs.Common.{◌≡◌, ℕ, ◌^◌, ◌<◌, Option, Some, refl, sym, subst, ◌∙◌, arith, inl, inr}
use Rattle.frame_wire.specs.Formats.{u16_field, u64_field}
use Rattle.frame_wire.specs.Joins.{◌then◌}
use Rattle.frame_wire.specs.Laws.{Lawful}
use Rattle.frame_wire.proofs.FieldFormats.{u16_lawful, u64_lawful}
use Rattle.frame_wire.proofs.JoinLaws.{then_lawful, mapped_lawful, within_lawful}
use Rattle.frame_wire.proofs.ViewLaws.{raw_lawful, behind_lawful}
use Rattle.chunk_format.specs.ChunkFields.{entry_field, header_field}
use Rattle.chunk_format.proofs.FieldLaws.{entry_lawful, header_lawful}
use Rattle.command_fields.specs.declared.fault.DecodeFault.TheVariants.{Short}
use Rattle.command_fields.specs.Properties.{property_field}
use Rattle.command_fields.specs.Tables.{LawfulEnd, LawfulTable, in_version, u64}
use Rattle.command_fields.proofs.OffsetLaws.{spec_lawful, property_lawful}
use Rattle.command_fields.proofs.ShapeLaws.{number_some, list_some, answer_ends}
use Rattle.command_fields.proofs.TableLaws.{by_version, last_lawful, then_ends, absent_ends, named_one, u8_in, u16_in, u32_in, u64_in, text_in, list_in}
use Rattle.command_data.specs.declared.command.DataCommand.{DataCommand}
use Rattle.command_data.specs.declared.command.DataCommand.TheVariants.{Plain}
use Rattle.command_data.specs.declared.key.DataKey.{DataKey}
use Rattle.command_data.specs.declared.key.DataKey.TheVariants as keys
use Rattle.command_data.specs.Items.{tagged_of, tagged_parts, tagged_field, refusal_of, refusal_parts, refusal_field, of_header, delivered}
use Rattle.command_data.specs.Commands.{IsPlainKey, data_layout, key_of, fields_of, command_of, key_named, newer_key, data_table}

tagged_lawful : Lawful tagged_field
tagged_lawful = mapped_lawful tagged_of tagged_parts (u64_field then entry_field) (λ x. refl) (λ y. refl) (then_lawful _ _ u64_lawful entry_lawful)

refusal_lawful : Lawful refusal_field
refusal_lawful = mapped_lawful refusal_of refusal_parts (u64_field then u16_field) (λ x. refl) (λ y. refl) (then_lawful _ _ u64_lawful u16_lawful)

delivered_lawful : Lawful delivered
delivered_lawful = behind_lawful _ _ (within_lawful of_header header_field header_lawful) (λ header. raw_lawful (λ place. Short place) header.payload_len)

two_texts_end : LawfulEnd (data_layout keys.QueryOffset).format
two_texts_end = then_ends _ _ u32_in (then_ends _ _ text_in (last_lawful _ text_in))

id_ends : LawfulEnd (data_layout keys.Unsubscribe).format
id_ends = then_ends _ _ u32_in (last_lawful _ u8_in)

formats : (k : DataKey) → LawfulEnd (data_layout k).format
formats keys.DeclarePublisher = then_ends _ _ u32_in (then_ends _ _ u8_in (then_ends _ _ text_in (last_lawful _ text_in)))
formats keys.Publish = then_ends _ _ u8_in (last_lawful _ (list_in _ tagged_lawful))
formats keys.PublishConfirm = then_ends _ _ u8_in (last_lawful _ (list_in _ u64_lawful))
formats keys.PublishError = then_ends _ _ u8_in (last_lawful _ (list_in _ refusal_lawful))
formats keys.QueryPublisherSequence = two_texts_end
formats keys.SequenceAnswer = answer_ends u64 u64_in number_some
formats keys.DeletePublisher = id_ends
formats keys.Subscribe =
    then_ends _ _ u32_in (then_ends _ _ u8_in (then_ends _ _ text_in (then_ends _ _ spec_lawful (then_ends _ _ u16_in (absent_ends _ (last_lawful _ (list_in _ property_lawful)) (list_some property_field))))))
formats keys.Deliver = then_ends _ _ u8_in (last_lawful _ delivered_lawful)
formats keys.Deliver2 = then_ends _ _ u8_in (then_ends _ _ u64_in (last_lawful _ delivered_lawful))
formats keys.Credit = then_ends _ _ u8_in (last_lawful _ u16_in)
formats keys.CreditFault = then_ends _ _ u16_in (last_lawful _ u8_in)
formats keys.StoreOffset = then_ends _ _ text_in (then_ends _ _ text_in (last_lawful _ u64_in))
formats keys.QueryOffset = two_texts_end
formats keys.OffsetAnswer = answer_ends u64 u64_in number_some
formats keys.Unsubscribe = id_ends
formats (keys.Plain n) = then_ends _ _ u32_in (last_lawful _ u16_in)

plain_named : (n : ℕ) → IsPlainKey n → key_named n ≡ Some (keys.Plain n)
plain_named n (inl is) = rw is refl
plain_named n (inr (inl is)) = rw is refl
plain_named n (inr (inr (inl is))) = rw is refl
plain_named n (inr (inr (inr is))) = rw is refl

named : (k : DataKey) → (data_layout k).Known → (first : DataKey) × (key_named (data_layout k).code ≡ Some first) × (in_version newer_key first (data_layout k).version ≡ Some k)
named keys.Deliver2 known = (keys.Deliver, refl, refl)
named (keys.Plain n) known = (keys.Plain n, plain_named n known, refl)
named k known = (k, refl, refl)

abbrev Right : ℕ → DataKey → Type 0
Right n k = (data_layout k).Known × ((data_layout k).code ≡ n) × ((data_layout k).version ≡ 1)

-- the keys of version 1
begins : (n : ℕ) (k : DataKey) → key_named n ≡ Some k → Right n k
begins n k e =
    named_one (Right n) _ n 0x0001 keys.DeclarePublisher k _ refl (λ is. (tt, sym is, refl)) e λ e.
    named_one (Right n) _ n 0x0002 keys.Publish k _ refl (λ is. (tt, sym is, refl)) e λ e.
    named_one (Right n) _ n 0x0003 keys.PublishConfirm k _ refl (λ is. (tt, sym is, refl)) e λ e.
    named_one (Right n) _ n 0x0004 keys.PublishError k _ refl (λ is. (tt, sym is, refl)) e λ e.
    named_one (Right n) _ n 0x0005 keys.QueryPublisherSequence k _ refl (λ is. (tt, sym is, refl)) e λ e.
    named_one (Right n) _ n 0x8005 keys.SequenceAnswer k _ refl (λ is. (tt, sym is, refl)) e λ e.
    named_one (Right n) _ n 0x0006 keys.DeletePublisher k _ refl (λ is. (tt, sym is, refl)) e λ e.
    named_one (Right n) _ n 0x0007 keys.Subscribe k _ refl (λ is. (tt, sym is, refl)) e λ e.
    named_one (Right n) _ n 0x0008 keys.Deliver k _ refl (λ is. (tt, sym is, refl)) e λ e.
    named_one (Right n) _ n 0x0009 keys.Credit k _ refl (λ is. (tt, sym is, refl)) e λ e.
    named_one (Right n) _ n 0x8009 keys.CreditFault k _ refl (λ is. (tt, sym is, refl)) e λ e.
    named_one (Right n) _ n 0x000a keys.StoreOffset k _ refl (λ is. (tt, sym is, refl)) e λ e.
    named_one (Right n) _ n 0x000b keys.QueryOffset k _ refl (λ is. (tt, sym is, refl)) e λ e.
    named_one (Right n) _ n 0x800b keys.OffsetAnswer k _ refl (λ is. (tt, sym is, refl)) e λ e.
    named_one (Right n) _ n 0x000c keys.Unsubscribe k _ refl (λ is. (tt, sym is, refl)) e λ e.
    named_one (Right n) _ n 0x8001 (keys.Plain n) k _ refl (λ is. (inl is, refl, refl)) e λ e.
    named_one (Right n) _ n 0x8006 (keys.Plain n) k _ refl (λ is. (inr (inl is), refl, refl)) e λ e.
    named_one (Right n) _ n 0x8007 (keys.Plain n) k _ refl (λ is. (inr (inr (inl is)), refl, refl)) e λ e.
    named_one (Right n) _ n 0x800c (keys.Plain n) k _ refl (λ is. (inr (inr (inr is)), refl, refl)) e λ e. absurd cc

abbrev Known : ℕ → ℕ → DataKey → Type 0
Known n version k = (data_layout k).Known × ((data_layout k).code ≡ n) × ((data_layout k).version ≡ version)

some_is : (j k : DataKey) → ◌≡◌ {A = Option DataKey} (Some j) (Some k) → j ≡ k
some_is j k e = cc

-- the keys of version 2
goes_on : (first k : DataKey) (n version : ℕ) → Right n first → newer_key first ≡ Some k → version ≡ 2 → Known n version k
goes_on keys.Deliver k n version right e two = subst (Known n version) (some_is keys.Deliver2 k e) (tt, right.1, sym two)
goes_on first k n version right e two = absurd cc

known : (n version : ℕ) (first k : DataKey) → key_named n ≡ Some first → in_version newer_key first version ≡ Some k → Known n version k
known n version first k named e =
    let right = begins n first named in
    elim (by_version newer_key first k version e) [
      | inl one ↦ subst (Known n version) one.1 (right.0, right.1, right.2 ∙ sym one.0)
      | inr two ↦ goes_on first k n version right two.1 two.0
    ]

plain_small : (n : ℕ) → IsPlainKey n → n < 2 ^ 16
plain_small n (inl is) = omega (arith, is)
plain_small n (inr (inl is)) = omega (arith, is)
plain_small n (inr (inr (inl is))) = omega (arith, is)
plain_small n (inr (inr (inr is))) = omega (arith, is)

small : (k : DataKey) → (data_layout k).Known → ((data_layout k).code < 2 ^ 16) × ((data_layout k).version < 2 ^ 16)
small (keys.Plain n) known = (plain_small n known, omega arith)
small k known = (omega arith, omega arith)

made : (c : DataCommand) → command_of (key_of c) (fields_of c) ≡ c
made (Plain key corr code) = refl
made c = refl

abbrev Made : Type 0
Made = (k : DataKey) × (data_layout k).Fields

apart : (k : DataKey) (x : (data_layout k).Fields) → ◌≡◌ {A = Made} (key_of (command_of k x), fields_of (command_of k x)) (k, x)
apart (keys.Plain n) x = refl
apart k x = refl

pub data_lawful : LawfulTable data_table
data_lawful = record { formats = formats; named = named; known = known; small = small; made = made; apart = apart }
