-- What is said unasked fits frames.
use Rattle.std.proofs.Common.{◌≡◌, ◌<◌, ◌≤◌, ◌^◌, ◌+◌, ℕ, List, [], ◌∷◌, ◌++◌, length, take, Option, Result, IfOk, sym, ap, subst, ◌∙◌, append_assoc, arith}
use Rattle.std.specs.Prelude.{All}
use Rattle.std.specs.List.{AllByRecursion}
use Rattle.std.proofs.Math.Seq.{take-append_seam}
use Rattle.std.proofs.lemmas.List.{length-append}
use Rattle.frame_wire.specs.Fields.{u8_bytes, u16_bytes, u32_bytes, text_bytes, IsText}
use Rattle.frame_wire.proofs.FieldLaws.{u8_length, u16_length, u32_length}
use Rattle.chunk_format.specs.declared.chunk.Chunk.{Chunk}
use Rattle.chunk_format.specs.declared.chunk.Header.{Header}
use Rattle.chunk_format.specs.Chunks.{header_of, header_bytes, entries_bytes, ChunkSpells}
use Rattle.chunk_format.proofs.ChunkLaws.{header_length}
use Rattle.command_fields.proofs.SizeLaws.{body_length, text_short}
use Rattle.command_data.specs.declared.command.DataCommand.TheVariants.{PublishConfirm}
use Rattle.command_admin.specs.declared.command.AdminCommand.TheVariants as of_admin
use Rattle.command_all.specs.declared.command.Command.TheVariants.{Data, Admin}
use Rattle.command_all.specs.Commands.{command_table, frame_of}
use Rattle.command_all.specs.Fitting.{Fits, IsId}
use Rattle.command_all.proofs.FitLaws.{ids_fit}
use Rattle.hub_terms.specs.Meaning.{HubSeen}
use Rattle.session_tables.specs.declared.tables.Tables.{Tables}
use Rattle.session_core.specs.declared.unasked.Unasked.{Unasked}
use Rattle.session_core.specs.declared.unasked.Unasked.TheVariants as say
use Rattle.session_core.specs.Delivered.{HasCause}
use Rattle.session_core.specs.Outgoing.{bytes_of_outgoing, command_of, delivered_bytes, IsSayableUnasked}
use Rattle.session_core.specs.declared.outgoing.Outgoing.{Outgoing}

pub confirm_fits : (publisher : ℕ) (ids : List ℕ) → publisher < 2 ^ 8 → All IsId ids → length ids ≤ 1048576 → Fits (Data (PublishConfirm publisher ids))
confirm_fits publisher ids small each few = ids_fit.confirms publisher ids small each (omega (arith, few))

pub metadata_update_fits : (code : ℕ) (stream : Option (List ℕ)) → code < 2 ^ 16 → IsText stream → Fits (Admin (of_admin.MetadataUpdate code stream))
metadata_update_fits code stream small text =
    ((tt, (small, text)), omega (arith, body_length command_table (Admin (of_admin.MetadataUpdate code stream)), length-append (u16_bytes code) (text_bytes stream), u16_length code, text_short stream text))

pub update_fits : (corr id active : ℕ) → corr < 2 ^ 32 → id < 2 ^ 8 → active ≤ 1 → Fits (Admin (of_admin.ConsumerUpdate corr id active))
update_fits corr id active a b c =
    ((tt, (a, (b, c))), omega (arith, body_length command_table (Admin (of_admin.ConsumerUpdate corr id active)), length-append (u32_bytes corr) (u8_bytes id ++ u8_bytes active), length-append (u8_bytes id) (u8_bytes active), u32_length corr, u8_length id, u8_length active))

-- ---- the front of a chunk

pub delivered_length : (c : Chunk) (bytes : List ℕ) (h : Header) → ChunkSpells c bytes → h ≡ header_of c → 48 + h.payload_len ≤ length bytes
delivered_length c bytes h spells is =
    omega (
      arith,
      ap length spells.spelled,
      length-append (header_bytes (header_of c)) (entries_bytes c.entries ++ c.trailer),
      length-append (entries_bytes c.entries) c.trailer,
      header_length (header_of c),
      ap (λ (x : Header). x.payload_len) is,
    )

pub delivered_front : (c : Chunk) (bytes : List ℕ) (h : Header) → ChunkSpells c bytes → h ≡ header_of c → take (48 + h.payload_len) bytes ≡ delivered_bytes c
delivered_front c bytes h spells is =
    let front = header_bytes (header_of c) ++ entries_bytes c.entries in
    let len : 48 + h.payload_len ≡ length front = omega (arith, length-append (header_bytes (header_of c)) (entries_bytes c.entries), header_length (header_of c), ap (λ (x : Header). x.payload_len) is) in
    ap (λ (n : ℕ). take n bytes) len ∙ ap (take (length front)) (spells.spelled ∙ sym (append_assoc (header_bytes (header_of c)) (entries_bytes c.entries) c.trailer)) ∙ take-append_seam front c.trailer

-- what goes out for something said, by the name under which it is known
pub told_so : {E : Type 0} (unasked made : Unasked) (result : Result Outgoing E) → unasked ≡ made → IfOk result (λ o. bytes_of_outgoing o ≡ frame_of (command_of made)) → IfOk result (λ o. bytes_of_outgoing o ≡ frame_of (command_of unasked))
told_so unasked made result is told = subst (λ (u : Unasked). IfOk result (λ o. bytes_of_outgoing o ≡ frame_of (command_of u))) (sym is) told

-- ---- what a poll says

-- a confirm of a hub has few ids
caused_sayable : {S : Type 0} (m : HubSeen S) (t : Tables) (h : S) (unasked : Unasked) → HasCause m t h unasked → IsSayableUnasked unasked
caused_sayable m t h (say.Confirm id ids) cause = subst (λ (l : List ℕ). length l ≤ 1048576) cause.same_ids cause.told.few
caused_sayable m t h (say.MetadataUpdate stream) cause = tt
caused_sayable m t h (say.Update corr id active) cause = tt
caused_sayable m t h (say.Deliver id committed chunk) cause = tt

pub poll_sayable : {S : Type 0} (m : HubSeen S) (t : Tables) (h : S) (said : List Unasked) → AllByRecursion (HasCause m t h) said → AllByRecursion IsSayableUnasked said
poll_sayable m t h [] causes = tt
poll_sayable m t h (unasked ∷ said) causes = (caused_sayable m t h unasked causes.0, poll_sayable m t h said causes.1)
