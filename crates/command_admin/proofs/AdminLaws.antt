-- The administrative commands make a lawful table.
use Rattle.std.proofs.Common.{◌≡◌, ℕ, ◌<◌, ◌^◌, cond, eqb, Option, Some, None, refl, sym, subst, ◌∙◌, arith, inl, inr}
use Rattle.frame_wire.specs.Joins.{end_of}
use Rattle.frame_wire.specs.Laws.{Lawful}
use Rattle.frame_wire.specs.Items.{same_fault}
use Rattle.frame_wire.proofs.FieldFormats.{u16_lawful, u32_lawful, i64_lawful, text_lawful}
use Rattle.frame_wire.proofs.JoinLaws.{mapped_lawful, then_lawful, list_lawful, end_lawful, nothing_left}
use Rattle.command_fields.specs.declared.fault.DecodeFault.TheVariants.{Long}
use Rattle.command_fields.specs.Tables.{LawfulEnd, LawfulTable, in_version}
use Rattle.command_fields.proofs.OffsetLaws.{spec_lawful, property_lawful}
use Rattle.command_fields.proofs.ShapeLaws.{blob_some, spec_some, answer_ends, list_answer_ends}
use Rattle.command_fields.proofs.TableLaws.{by_version, last_lawful, then_ends, named_one, u8_in, u16_in, u32_in, text_in, blob_in, list_in}
use Rattle.command_admin.specs.declared.command.AdminCommand.{AdminCommand}
use Rattle.command_admin.specs.declared.command.AdminCommand.TheVariants.{Plain}
use Rattle.command_admin.specs.declared.key.AdminKey.{AdminKey}
use Rattle.command_admin.specs.declared.key.AdminKey.TheVariants as keys
use Rattle.command_admin.specs.Items.{broker_of, of_broker, broker_field, metadata_of, of_metadata, metadata_field, versions_of, of_versions, versions_field, statistic_of, of_statistic, statistic_field}
use Rattle.command_admin.specs.Commands.{IsPlainKey, admin_layout, key_of, fields_of, command_of, key_named, admin_table}
use Rattle.command_admin.proofs.FlagLaws.{flag_lawful}

-- ---- the fields

broker_lawful : Lawful broker_field
broker_lawful = mapped_lawful broker_of of_broker _ (λ x. refl) (λ y. refl) (then_lawful _ _ u16_lawful (then_lawful _ _ text_lawful u32_lawful))

metadata_lawful : Lawful metadata_field
metadata_lawful = mapped_lawful metadata_of of_metadata _ (λ x. refl) (λ y. refl) (then_lawful _ _ text_lawful (then_lawful _ _ u16_lawful (then_lawful _ _ u16_lawful (list_lawful same_fault _ u16_lawful))))

versions_lawful : Lawful versions_field
versions_lawful = mapped_lawful versions_of of_versions _ (λ x. refl) (λ y. refl) (then_lawful _ _ u16_lawful (then_lawful _ _ u16_lawful u16_lawful))

statistic_lawful : Lawful statistic_field
statistic_lawful = mapped_lawful statistic_of of_statistic _ (λ x. refl) (λ y. refl) (then_lawful _ _ text_lawful i64_lawful)

nothing_ends : LawfulEnd (end_of Long)
nothing_ends = record { lawful = end_lawful Long; whole = nothing_left Long }

-- ---- the table

formats : (k : AdminKey) → LawfulEnd (admin_layout k).format
formats keys.Create = then_ends _ _ u32_in (then_ends _ _ text_in (last_lawful _ (list_in _ property_lawful)))
formats keys.Delete = then_ends _ _ u32_in (last_lawful _ text_in)
formats keys.Metadata = then_ends _ _ u32_in (last_lawful _ (list_in _ text_lawful))
formats keys.MetadataAnswer = then_ends _ _ u32_in (then_ends _ _ (list_in _ broker_lawful) (last_lawful _ (list_in _ metadata_lawful)))
formats keys.MetadataUpdate = then_ends _ _ u16_in (last_lawful _ text_in)
formats keys.PeerProperties = then_ends _ _ u32_in (last_lawful _ (list_in _ property_lawful))
formats keys.PeerAnswer = list_answer_ends _ property_lawful
formats keys.SaslHandshake = last_lawful _ u32_in
formats keys.MechanismAnswer = list_answer_ends _ text_lawful
formats keys.SaslAuthenticate = then_ends _ _ u32_in (then_ends _ _ text_in (last_lawful _ blob_in))
formats keys.SaslAnswer = answer_ends _ blob_in blob_some
formats keys.Tune = then_ends _ _ u32_in (last_lawful _ u32_in)
formats keys.TuneAnswer = then_ends _ _ u32_in (last_lawful _ u32_in)
formats keys.OpenHost = then_ends _ _ u32_in (last_lawful _ text_in)
formats keys.HostAnswer = list_answer_ends _ property_lawful
formats keys.Close = then_ends _ _ u32_in (then_ends _ _ u16_in (last_lawful _ text_in))
formats keys.Heartbeat = nothing_ends
formats keys.Route = then_ends _ _ u32_in (then_ends _ _ text_in (last_lawful _ text_in))
formats keys.RouteAnswer = list_answer_ends _ text_lawful
formats keys.Partitions = then_ends _ _ u32_in (last_lawful _ text_in)
formats keys.PartitionsAnswer = list_answer_ends _ text_lawful
formats keys.ConsumerUpdate = then_ends _ _ u32_in (then_ends _ _ u8_in (last_lawful _ flag_lawful))
formats keys.UpdateAnswer = answer_ends _ spec_lawful spec_some
formats keys.ExchangeVersions = then_ends _ _ u32_in (last_lawful _ (list_in _ versions_lawful))
formats keys.VersionsAnswer = list_answer_ends _ versions_lawful
formats keys.StreamStats = then_ends _ _ u32_in (last_lawful _ text_in)
formats keys.StatsAnswer = list_answer_ends _ statistic_lawful
formats keys.CreateSuper = then_ends _ _ u32_in (then_ends _ _ text_in (then_ends _ _ (list_in _ text_lawful) (then_ends _ _ (list_in _ text_lawful) (last_lawful _ (list_in _ property_lawful)))))
formats keys.DeleteSuper = then_ends _ _ u32_in (last_lawful _ text_in)
formats (keys.Plain n) = then_ends _ _ u32_in (last_lawful _ u16_in)

plain_named : (n : ℕ) → IsPlainKey n → key_named n ≡ Some (keys.Plain n)
plain_named n (inl is) = rw is refl
plain_named n (inr (inl is)) = rw is refl
plain_named n (inr (inr (inl is))) = rw is refl
plain_named n (inr (inr (inr (inl is)))) = rw is refl
plain_named n (inr (inr (inr (inr is)))) = rw is refl

no_key : (k : AdminKey) → ◌≡◌ {A = Option AdminKey} None (Some k) → ⊥
no_key k e = absurd cc

-- no key has a second version
abbrev in_one : AdminKey → ℕ → Option AdminKey
in_one first version = in_version (λ k. None) first version

named : (k : AdminKey) → (admin_layout k).Known → (first : AdminKey) × (key_named (admin_layout k).code ≡ Some first) × (in_one first (admin_layout k).version ≡ Some k)
named (keys.Plain n) known = (keys.Plain n, plain_named n known, refl)
named k known = (k, refl, refl)

abbrev Found : ℕ → AdminKey → Type 0
Found n k = (admin_layout k).Known × ((admin_layout k).code ≡ n) × ((admin_layout k).version ≡ 1)

-- one line of the list of codes
named_step : (n code : ℕ) (j k : AdminKey) (others : Option AdminKey) → (n ≡ code → Found n j) → cond (eqb n code) (Some j) others ≡ Some k → (others ≡ Some k → Found n k) → Found n k
named_step n code j k others is e next = named_one (Found n) (eqb n code) n code j k others refl is e next

none_some : {n : ℕ} {k : AdminKey} → ◌≡◌ {A = Option AdminKey} None (Some k) → Found n k
none_some e = absurd cc

begins : (n : ℕ) (k : AdminKey) → key_named n ≡ Some k → Found n k
begins n k e =
    named_step n 0x000d keys.Create k _ (λ is. (tt, sym is, refl)) e (λ e.
    named_step n 0x000e keys.Delete k _ (λ is. (tt, sym is, refl)) e (λ e.
    named_step n 0x000f keys.Metadata k _ (λ is. (tt, sym is, refl)) e (λ e.
    named_step n 0x800f keys.MetadataAnswer k _ (λ is. (tt, sym is, refl)) e (λ e.
    named_step n 0x0010 keys.MetadataUpdate k _ (λ is. (tt, sym is, refl)) e (λ e.
    named_step n 0x0011 keys.PeerProperties k _ (λ is. (tt, sym is, refl)) e (λ e.
    named_step n 0x8011 keys.PeerAnswer k _ (λ is. (tt, sym is, refl)) e (λ e.
    named_step n 0x0012 keys.SaslHandshake k _ (λ is. (tt, sym is, refl)) e (λ e.
    named_step n 0x8012 keys.MechanismAnswer k _ (λ is. (tt, sym is, refl)) e (λ e.
    named_step n 0x0013 keys.SaslAuthenticate k _ (λ is. (tt, sym is, refl)) e (λ e.
    named_step n 0x8013 keys.SaslAnswer k _ (λ is. (tt, sym is, refl)) e (λ e.
    named_step n 0x0014 keys.Tune k _ (λ is. (tt, sym is, refl)) e (λ e.
    named_step n 0x8014 keys.TuneAnswer k _ (λ is. (tt, sym is, refl)) e (λ e.
    named_step n 0x0015 keys.OpenHost k _ (λ is. (tt, sym is, refl)) e (λ e.
    named_step n 0x8015 keys.HostAnswer k _ (λ is. (tt, sym is, refl)) e (λ e.
    named_step n 0x0016 keys.Close k _ (λ is. (tt, sym is, refl)) e (λ e.
    named_step n 0x0017 keys.Heartbeat k _ (λ is. (tt, sym is, refl)) e (λ e.
    named_step n 0x0018 keys.Route k _ (λ is. (tt, sym is, refl)) e (λ e.
    named_step n 0x8018 keys.RouteAnswer k _ (λ is. (tt, sym is, refl)) e (λ e.
    named_step n 0x0019 keys.Partitions k _ (λ is. (tt, sym is, refl)) e (λ e.
    named_step n 0x8019 keys.PartitionsAnswer k _ (λ is. (tt, sym is, refl)) e (λ e.
    named_step n 0x001a keys.ConsumerUpdate k _ (λ is. (tt, sym is, refl)) e (λ e.
    named_step n 0x801a keys.UpdateAnswer k _ (λ is. (tt, sym is, refl)) e (λ e.
    named_step n 0x001b keys.ExchangeVersions k _ (λ is. (tt, sym is, refl)) e (λ e.
    named_step n 0x801b keys.VersionsAnswer k _ (λ is. (tt, sym is, refl)) e (λ e.
    named_step n 0x001c keys.StreamStats k _ (λ is. (tt, sym is, refl)) e (λ e.
    named_step n 0x801c keys.StatsAnswer k _ (λ is. (tt, sym is, refl)) e (λ e.
    named_step n 0x001d keys.CreateSuper k _ (λ is. (tt, sym is, refl)) e (λ e.
    named_step n 0x001e keys.DeleteSuper k _ (λ is. (tt, sym is, refl)) e (λ e.
    named_step n 0x800d (keys.Plain n) k _ (λ is. (inl is, refl, refl)) e (λ e.
    named_step n 0x800e (keys.Plain n) k _ (λ is. (inr (inl is), refl, refl)) e (λ e.
    named_step n 0x8016 (keys.Plain n) k _ (λ is. (inr (inr (inl is)), refl, refl)) e (λ e.
    named_step n 0x801d (keys.Plain n) k _ (λ is. (inr (inr (inr (inl is))), refl, refl)) e (λ e.
    named_step n 0x801e (keys.Plain n) k _ (λ is. (inr (inr (inr (inr (is)))), refl, refl)) e (λ e.
    none_some e))))))))))))))))))))))))))))))))))

abbrev Known : ℕ → ℕ → AdminKey → Type 0
Known n version k = (admin_layout k).Known × ((admin_layout k).code ≡ n) × ((admin_layout k).version ≡ version)

known : (n version : ℕ) (first k : AdminKey) → key_named n ≡ Some first → in_one first version ≡ Some k → Known n version k
known n version first k named e =
    let right = begins n first named in
    elim (by_version {K = AdminKey} (λ k. None) first k version e) [
      | inl one ↦ subst (Known n version) one.1 (right.0, right.1, right.2 ∙ sym one.0)
      | inr two ↦ absurd (no_key k two.1)
    ]

plain_small : (n : ℕ) → IsPlainKey n → n < 2 ^ 16
plain_small n (inl is) = omega arith
plain_small n (inr (inl is)) = omega arith
plain_small n (inr (inr (inl is))) = omega arith
plain_small n (inr (inr (inr (inl is)))) = omega arith
plain_small n (inr (inr (inr (inr is)))) = omega arith

small : (k : AdminKey) → (admin_layout k).Known → ((admin_layout k).code < 2 ^ 16) × ((admin_layout k).version < 2 ^ 16)
small (keys.Plain n) known = (plain_small n known, omega arith)
small k known = (omega arith, omega arith)

made : (c : AdminCommand) → command_of (key_of c) (fields_of c) ≡ c
made (Plain key corr code) = refl
made c = refl

apart : (k : AdminKey) (x : (admin_layout k).Fields) → ◌≡◌ {A = (j : AdminKey) × (admin_layout j).Fields} (key_of (command_of k x), fields_of (command_of k x)) (k, x)
apart (keys.Plain n) x = refl
apart k x = refl

pub admin_lawful : LawfulTable admin_table
admin_lawful = record { formats = formats; named = named; known = known; small = small; made = made; apart = apart }

pub one_version : (c : AdminCommand) → (admin_layout (key_of c)).version ≡ 1
one_version (Plain key corr code) = refl
one_version c = refl
