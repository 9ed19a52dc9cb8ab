-- The frames of a client fit.
use Rattle.std.proofs.Common.{◌≡◌, ◌<◌, ◌≤◌, ◌^◌, ◌+◌, ℕ, ℤ, List, [], ◌∷◌, ◌++◌, length, Option, Some, None, refl, sym, ap, subst, ◌∙◌, arith}
use Rattle.std.specs.Prelude.{codes}
use Rattle.std.specs.Int.{w64, cast_unsigned}
use Rattle.std.proofs.lemmas.List.{length-append}
use Rattle.frame_wire.specs.Fields.{u8_bytes, u16_bytes, u32_bytes, u64_bytes, i64_bytes, text_bytes, blob_bytes, IsText}
use Rattle.frame_wire.specs.Formats.{text_field}
use Rattle.frame_wire.specs.Joins.{list_bytes}
use Rattle.frame_wire.proofs.FieldLaws.{u8_length, u16_length, u32_length, u64_length}
use Rattle.chunk_format.specs.declared.entry.Entry.{Entry}
use Rattle.chunk_format.specs.declared.entry.Entry.TheVariants.{Simple}
use Rattle.chunk_format.specs.Chunks.{entry_bytes}
use Rattle.command_fields.specs.declared.offset.OffsetSpec.{OffsetSpec}
use Rattle.command_fields.specs.declared.offset.OffsetSpec.TheVariants.{Unset, First, Last, Next, At, Since}
use Rattle.command_fields.specs.Offsets.{spec_bytes, IsSpec}
use Rattle.command_fields.specs.Properties.{property_field}
use Rattle.command_fields.proofs.SizeLaws.{body_length, list_length, text_short}
use Rattle.command_data.specs.declared.command.DataCommand.TheVariants as data_commands
use Rattle.command_data.specs.Items.{tagged_field}
use Rattle.command_admin.specs.declared.command.AdminCommand.TheVariants as admin_commands
use Rattle.command_admin.specs.declared.item.KeyVersions.{KeyVersions}
use Rattle.command_admin.specs.Items.{versions_field}
use Rattle.command_all.specs.declared.identity.Identity.{Identity}
use Rattle.command_all.specs.declared.command.Command.TheVariants.{Data, Admin}
use Rattle.command_all.specs.Commands.{command_table}
use Rattle.command_all.specs.Fitting.{Fits}
use Rattle.client_terms.specs.Sending.{plain, message}
use Rattle.stream_client.specs.Outboxes.{IsShort}

pub credit_fits : Fits (Data (data_commands.Credit 0 1))
credit_fits = ((tt, (omega arith, omega arith)), omega (arith, body_length command_table (Data (data_commands.Credit 0 1)), length-append (u8_bytes 0) (u16_bytes 1), u8_length 0, u16_length 1))

pub tuned_fits : (frame_max : ℕ) → frame_max < 2 ^ 32 → Fits (Admin (admin_commands.TuneAnswer frame_max 0))
tuned_fits n small = ((tt, (small, omega arith)), omega (arith, body_length command_table (Admin (admin_commands.TuneAnswer n 0)), length-append (u32_bytes n) (u32_bytes 0), u32_length n, u32_length 0))

-- ---- the opening

pub peer_fits : (corr : ℕ) → corr < 2 ^ 32 → Fits (Admin (admin_commands.PeerProperties corr []))
peer_fits corr small = ((tt, (small, (omega arith, tt))), omega (arith, body_length command_table (Admin (admin_commands.PeerProperties corr [])), length-append (u32_bytes corr) (list_bytes property_field.spell []), u32_length corr, list_length property_field []))

pub handshake_fits : (corr : ℕ) → corr < 2 ^ 32 → Fits (Admin (admin_commands.SaslHandshake corr))
handshake_fits corr small = ((tt, small), omega (arith, body_length command_table (Admin (admin_commands.SaslHandshake corr)), u32_length corr))

plain_length : (identity : Identity) → length (plain identity) ≡ length identity.user + length identity.password + 2
plain_length identity = omega (arith, length-append identity.user (0 ∷ identity.password))

mechanism_short : length (codes "PLAIN") < 2 ^ 15
mechanism_short = omega arith

pub authenticate_fits : (corr : ℕ) (identity : Identity) → corr < 2 ^ 32 → length identity.user + length identity.password ≤ 2147483645 → Fits (Admin (admin_commands.SaslAuthenticate corr (Some (codes "PLAIN")) (Some (plain identity))))
authenticate_fits corr identity small short =
    let opaque = plain identity in
    let mechanism : Option (List ℕ) = Some (codes "PLAIN") in
    let len = plain_length identity in (
      (tt, (small, (mechanism_short, omega (arith, len, short)))),
      omega (
        arith,
        body_length command_table (Admin (admin_commands.SaslAuthenticate corr mechanism (Some opaque))),
        length-append (u32_bytes corr) (text_bytes mechanism ++ blob_bytes (Some opaque)),
        length-append (text_bytes mechanism) (blob_bytes (Some opaque)),
        length-append (u32_bytes (length opaque)) opaque,
        u32_length corr,
        u32_length (length opaque),
        text_short mechanism mechanism_short,
        len,
        short,
      ),
    )

-- the same of texts that were made
pub authentication_fits : (corr : ℕ) (identity : Identity) (mechanism : Option (List ℕ)) (opaque : List ℕ) → corr < 2 ^ 32 → length identity.user + length identity.password ≤ 2147483645 → mechanism ≡ Some (codes "PLAIN") → opaque ≡ plain identity
    → Fits (Admin (admin_commands.SaslAuthenticate corr mechanism (Some opaque)))
authentication_fits corr identity mechanism opaque small short named told =
    subst (λ (m : Option (List ℕ)). Fits (Admin (admin_commands.SaslAuthenticate corr m (Some opaque)))) (sym named)
    (subst (λ (o : List ℕ). Fits (Admin (admin_commands.SaslAuthenticate corr (Some (codes "PLAIN")) (Some o)))) (sym told) (authenticate_fits corr identity small short))

host_short : length (codes "/") < 2 ^ 15
host_short = omega arith

pub host_fits : (corr : ℕ) → corr < 2 ^ 32 → Fits (Admin (admin_commands.OpenHost corr (Some (codes "/"))))
host_fits corr small =
    let host : Option (List ℕ) = Some (codes "/") in
    ((tt, (small, host_short)), omega (arith, body_length command_table (Admin (admin_commands.OpenHost corr host)), length-append (u32_bytes corr) (text_bytes host), u32_length corr, text_short host host_short))

pub versions_fits : (corr : ℕ) → corr < 2 ^ 32 → Fits (Admin (admin_commands.ExchangeVersions corr (record { key = 0x0008; least = 1; greatest = 2 } ∷ [])))
versions_fits corr small =
    let both : KeyVersions = record { key = 0x0008; least = 1; greatest = 2 } in
    let versions : List KeyVersions = both ∷ [] in (
      (tt, (small, (omega arith, ((omega arith, (omega arith, omega arith)), tt)))),
      omega (
        arith,
        body_length command_table (Admin (admin_commands.ExchangeVersions corr versions)),
        length-append (u32_bytes corr) (list_bytes versions_field.spell versions),
        u32_length corr,
        list_length versions_field versions,
        length-append (versions_field.spell both) [],
        length-append (u16_bytes 8) (u16_bytes 1 ++ u16_bytes 2),
        length-append (u16_bytes 1) (u16_bytes 2),
        u16_length 8,
        u16_length 1,
        u16_length 2,
      ),
    )

pub hosted_fits : (corr : ℕ) (host : Option (List ℕ)) → corr < 2 ^ 32 → host ≡ Some (codes "/") → Fits (Admin (admin_commands.OpenHost corr host))
hosted_fits corr host small named = subst (λ (h : Option (List ℕ)). Fits (Admin (admin_commands.OpenHost corr h))) (sym named) (host_fits corr small)

-- ---- wishes

pub create_fits : (corr : ℕ) (stream : Option (List ℕ)) → corr < 2 ^ 32 → IsText stream → Fits (Admin (admin_commands.Create corr stream []))
create_fits corr stream small is =
    let none = list_bytes property_field.spell [] in (
      (tt, (small, (is, (omega arith, tt)))),
      omega (arith, body_length command_table (Admin (admin_commands.Create corr stream [])), length-append (u32_bytes corr) (text_bytes stream ++ none), length-append (text_bytes stream) none, u32_length corr, text_short stream is, list_length property_field []),
    )

pub declare_fits : (corr : ℕ) (name stream : Option (List ℕ)) → corr < 2 ^ 32 → IsText name → IsText stream → Fits (Data (data_commands.DeclarePublisher corr 0 name stream))
declare_fits corr name stream small is_name is_stream = (
  (tt, (small, (omega arith, (is_name, is_stream)))),
  omega (
    arith,
    body_length command_table (Data (data_commands.DeclarePublisher corr 0 name stream)),
    length-append (u32_bytes corr) (u8_bytes 0 ++ (text_bytes name ++ text_bytes stream)),
    length-append (u8_bytes 0) (text_bytes name ++ text_bytes stream),
    length-append (text_bytes name) (text_bytes stream),
    u32_length corr,
    u8_length 0,
    text_short name is_name,
    text_short stream is_stream,
  ),
)

pub query_fits : (corr : ℕ) (name stream : Option (List ℕ)) → corr < 2 ^ 32 → IsText name → IsText stream → Fits (Data (data_commands.QueryPublisherSequence corr name stream))
query_fits corr name stream small is_name is_stream = (
  (tt, (small, (is_name, is_stream))),
  omega (
    arith,
    body_length command_table (Data (data_commands.QueryPublisherSequence corr name stream)),
    length-append (u32_bytes corr) (text_bytes name ++ text_bytes stream),
    length-append (text_bytes name) (text_bytes stream),
    u32_length corr,
    text_short name is_name,
    text_short stream is_stream,
  ),
)

i64_length : (n : ℤ) → length (i64_bytes n) ≡ 8
unfolding i64_bytes u64_bytes
i64_length n = u64_length (cast_unsigned w64 n)

spec_length : (spec : OffsetSpec) → length (spec_bytes spec) ≤ 10
spec_length Unset = omega (arith, u16_length 0)
spec_length First = omega (arith, u16_length 1)
spec_length Last = omega (arith, u16_length 2)
spec_length Next = omega (arith, u16_length 3)
spec_length (At offset) = omega (arith, length-append (u16_bytes 4) (u64_bytes offset), u16_length 4, u64_length offset)
spec_length (Since time) = omega (arith, length-append (u16_bytes 5) (i64_bytes time), u16_length 5, i64_length time)

pub subscribe_fits : (corr credit : ℕ) (stream : Option (List ℕ)) (spec : OffsetSpec) → corr < 2 ^ 32 → credit < 2 ^ 16 → IsText stream → IsSpec spec → Fits (Data (data_commands.Subscribe corr 0 stream spec credit None))
subscribe_fits corr credit stream spec small few is_stream is_spec =
    let absent : List ℕ = [] in
    let behind = u16_bytes credit ++ absent in (
      (tt, (small, (omega arith, (is_stream, (is_spec, (few, tt)))))),
      omega (
        arith,
        body_length command_table (Data (data_commands.Subscribe corr 0 stream spec credit None)),
        length-append (u32_bytes corr) (u8_bytes 0 ++ (text_bytes stream ++ (spec_bytes spec ++ behind))),
        length-append (u8_bytes 0) (text_bytes stream ++ (spec_bytes spec ++ behind)),
        length-append (text_bytes stream) (spec_bytes spec ++ behind),
        length-append (spec_bytes spec) behind,
        length-append (u16_bytes credit) absent,
        u32_length corr,
        u8_length 0,
        u16_length credit,
        text_short stream is_stream,
        spec_length spec,
      ),
    )

-- ---- messages

pub publish_fits : (id : ℕ) (body : List ℕ) → id < 2 ^ 64 → IsShort body → Fits (Data (data_commands.Publish 0 (message id body ∷ [])))
publish_fits id body small short =
    let items = message id body ∷ [] in (
      (tt, (omega arith, (omega arith, ((small, omega (arith, short)), tt)))),
      omega (
        arith,
        body_length command_table (Data (data_commands.Publish 0 items)),
        length-append (u8_bytes 0) (list_bytes tagged_field.spell items),
        u8_length 0,
        list_length tagged_field items,
        length-append (tagged_field.spell (message id body)) [],
        length-append (u64_bytes id) (entry_bytes (Simple body)),
        length-append (u32_bytes (length body)) body,
        u64_length id,
        u32_length (length body),
        short,
      ),
    )
