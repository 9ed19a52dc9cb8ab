-- Snapshots that say what a list says, by their bytes and by their entries.
use Rattle.std.proofs.Common.{◌≡◌, ℕ, Bool, true, false, List, [], ◌∷◌, length, drop, refl, sym, ap, ◌∙◌}
use Rattle.std.specs.Prelude.{IsTrue, ◌↔◌}
use Rattle.std.specs.Bool.{Decides}
use Rattle.std.proofs.lemmas.List.{append-nil, drop_at}
use Rattle.frame_wire.specs.Fields.{u32_bytes}
use Rattle.frame_wire.proofs.FieldLaws.{u32_length}
use Rattle.chunk_format.specs.declared.entry.Entry.{Entry}
use Rattle.chunk_format.specs.declared.entry.Entry.TheVariants.{Simple}
use Rattle.chunk_format.specs.declared.chunk.Chunk.{Chunk}
use Rattle.chunk_format.specs.declared.chunk.ChunkKind.{ChunkKind}
use Rattle.chunk_format.specs.declared.chunk.ChunkKind.TheVariants.{User, Delta, Snapshot}
use Rattle.chunk_format.specs.Chunks.{entry_bytes, entries_bytes, IsChunk, HoldsByKind}
use Rattle.chunk_format.specs.ByName.{snapshot_body, snapshot_entry_of}
use Rattle.chunk_format.proofs.NameLaws.{same_decides}
use Rattle.epoch_coordinator.specs.MemberSteps.{same_bytes, is_true_after}

body_of : (a : List ℕ) → drop 4 (entry_bytes (Simple a)) ≡ a
body_of a = drop_at (u32_bytes (length a)) a 4 (u32_length (length a))

-- simple entries of the same bytes are the same
same_simple : (a b : List ℕ) → entry_bytes (Simple a) ≡ entry_bytes (Simple b) → a ≡ b
same_simple a b is = sym (body_of a) ∙ ap (drop 4) is ∙ body_of b

decided : (x y : Bool) (P Q : Type 0) → (IsTrue x ↔ P) → Decides y Q → (P → Q) → (Q → P) → x ≡ y
decided true y P Q is so f g = sym (so.1 (f (is.0 refl)))
decided false true P Q is so f g = is.1 (g (so.0 refl))
decided false false P Q is so f g = refl

-- whether a snapshot is truthful is asked of its bytes
truth_is : (log : List Chunk) (kind : ChunkKind) (c : Chunk) (b : Bool) → kind ≡ c.kind → IsChunk c → (IsTrue b ↔ (c.kind ≡ Snapshot → c.entries ≡ snapshot_entry_of log ∷ [])) → b ≡ is_true_after log kind c
truth_is log User c b is right so = so.1 (λ snapshot. absurd (other (is ∙ snapshot)))
  where
    other : User ≡ Snapshot → ⊥
    other e = cc
truth_is log Delta c b is right so = so.1 (λ snapshot. absurd (other (is ∙ snapshot)))
  where
    other : Delta ≡ Snapshot → ⊥
    other e = cc
truth_is log Snapshot c b is right so =
    decided b (same_bytes (entries_bytes c.entries) (entry_bytes (snapshot_entry_of log))) (c.kind ≡ Snapshot → c.entries ≡ snapshot_entry_of log ∷ []) (entries_bytes c.entries ≡ entry_bytes (snapshot_entry_of log)) so
    (same_decides (entries_bytes c.entries) (entry_bytes (snapshot_entry_of log)))
    (λ says. ap entries_bytes (says (sym is)) ∙ append-nil (entry_bytes (snapshot_entry_of log)))
    (λ same kind. one c.entries (one_simple c.kind c.entries c.trailer (sym is) right.content) same)
  where
    one_simple : (kind : ChunkKind) (entries : List Entry) (trailer : List ℕ) → kind ≡ Snapshot → HoldsByKind kind entries trailer → (body : List ℕ) × (entries ≡ Simple body ∷ [])
    one_simple User entries trailer e h = absurd cc
    one_simple Delta entries trailer e h = absurd cc
    one_simple Snapshot entries trailer e h = (h.1.0, h.1.2)

    one : (entries : List Entry) → ((body : List ℕ) × (entries ≡ Simple body ∷ [])) → entries_bytes entries ≡ entry_bytes (snapshot_entry_of log) → entries ≡ snapshot_entry_of log ∷ []
    one entries it same =
        let bytes = sym (append-nil (entry_bytes (Simple it.0))) ∙ sym (ap entries_bytes it.1) ∙ same in
        it.1 ∙ ap (λ (body : List ℕ). Simple body ∷ []) (same_simple it.0 (snapshot_body log) bytes)

pub is_truth : (log : List Chunk) (c : Chunk) (b : Bool) → IsChunk c → (IsTrue b ↔ (c.kind ≡ Snapshot → c.entries ≡ snapshot_entry_of log ∷ [])) → b ≡ is_true_after log c.kind c
is_truth log c b right so = truth_is log c.kind c b refl right so
