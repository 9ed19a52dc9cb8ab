-- What the words give of a small list of chunks.
use Rattle.std.proofs.Common.{◌≡◌, ℕ, ◌<◌, List, [], ◌∷◌, ◌++◌, get_or, Some, None, refl, ap, arith}
use Rattle.frame_wire.specs.Fields.{u8_bytes, u64_bytes}
use Rattle.chunk_format.specs.declared.entry.Entry.{Entry}
use Rattle.chunk_format.specs.declared.entry.Entry.TheVariants.{Simple}
use Rattle.chunk_format.specs.declared.chunk.ChunkKind.TheVariants.{Snapshot}
use Rattle.chunk_format.specs.declared.chunk.Chunk.{Chunk}
use Rattle.chunk_format.specs.ByName.{Greatest, LastStored, snapshot_items, RisesIn}
use Rattle.chunk_format.specs.Logs.{users_above, next_above, Truthful}
use Rattle.chunk_format.specs.Samples.{p_name, c_name, d_name, p_tagged, stores, untagged, snapshot_at, said, said_items, other_items}
use Rattle.chunk_format.proofs.TruthLaws.{truthful_none, truthful_push, truthful_last}

pub said_greatest : Greatest p_name said ≡ Some 7
unfolding u8_bytes u64_bytes
said_greatest = refl

pub said_no_greatest : Greatest c_name said ≡ None
unfolding u8_bytes u64_bytes
said_no_greatest = refl

pub said_stored : LastStored d_name said ≡ Some 3
unfolding u8_bytes u64_bytes
said_stored = refl

pub said_lists : snapshot_items said ≡ said_items
unfolding u8_bytes u64_bytes
said_lists = refl

pub said_users : users_above 1 said ≡ p_tagged 1 7 ∷ p_tagged 3 7 ∷ untagged 6 ∷ []
said_users = refl

pub said_next : next_above 4 said ≡ Some (untagged 6)
said_next = refl

-- a chunk of another kind leaves a list truthful
said_push : (chunks : List Chunk) (c : Chunk) → Truthful chunks → (c.kind ≡ Snapshot → ⊥) → Truthful (chunks ++ c ∷ [])
said_push chunks c t other = truthful_push chunks c t (λ kind. absurd (other kind))

said_is_truthful : Truthful said
said_is_truthful =
    let one = said_push [] (p_tagged 0 4) truthful_none (λ k. cc) in
    let two = said_push _ (p_tagged 1 7) one (λ k. cc) in
    let three = said_push _ (stores 2 d_name 1) two (λ k. cc) in
    let four = said_push _ (p_tagged 3 7) three (λ k. cc) in
    let five = said_push _ (stores 4 c_name 0) four (λ k. cc) in
    let six = said_push _ (stores 5 d_name 3) five (λ k. cc) in
    said_push _ (untagged 6) six (λ k. cc)

pub said_truthful : Truthful (said ++ snapshot_at 7 said_items ∷ [])
unfolding u8_bytes u64_bytes
said_truthful = truthful_push said (snapshot_at 7 said_items) said_is_truthful (λ kind. refl)

-- the body of the first entry: its byte 21 is the name of the second item
body_of : List Entry → List ℕ
body_of (Simple body ∷ more) = body
body_of _ = []

pub said_other_order : Truthful (said ++ snapshot_at 7 other_items ∷ []) → ⊥
unfolding u8_bytes u64_bytes body_of
said_other_order t =
    let same = truthful_last said (snapshot_at 7 other_items) t refl in
    let here : 99 ≡ 100 = ap (λ (entries : List Entry). get_or (body_of entries) 21 0) same in
    absurd (omega (arith, here))

pub said_repeats : RisesIn said → ⊥
unfolding u8_bytes u64_bytes
said_repeats rises =
    let again : 7 < 7 = rises p_name 1 (omega arith) in
    absurd (omega (arith, again))
