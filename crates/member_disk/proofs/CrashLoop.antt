-- A loop that makes each file of a map as a crash leaves it.
use Rattle.std.proofs.Common.{◌≡◌, ◌≢◌, ◌↔◌, IsTrue, inl, inr, ℕ, Bool, true, cond, List, [], ◌∷◌, Option, Some, None, sym, ◌∙◌, ap, subst}
use Rattle.std.specs.BTreeMap.{BTreeMap, get, is_at}
use Rattle.std.specs.Map.{lookup}
use Rattle.memory_file.specs.Memory.{Held, IsCrashed, ImageOf, CrashedFile, held_at}
use Rattle.member_disk.specs.FilesInOrder.{last_of}
use Rattle.disk_calls.specs.declared.file_id.FileName.{FileName}
use Rattle.disk_calls.specs.contracts.file_id.FileNameOrd.TheImpl as ordered
use Rattle.member_disk.proofs.Names.{cases_at}

pub crashed_by : (image : ℕ) (is_last : Bool) (L : Type 0) (old new : Held) → (IsTrue is_last ↔ L) → IsCrashed image (is_last ≡ true) old new.base → ImageOf old new.base → new.calls ≡ [] → CrashedFile image L old new
crashed_by image is_last L old new iff picked left sure = record {
  picked = record {
    none_happened = picked.none_happened;
    all_happened = picked.all_happened;
    last_is_elsewhere = λ two not. picked.last_is_elsewhere two (λ is. not (iff.0 is));
    half_of_last = λ two l. picked.half_of_last two (iff.1 l);
    other_bytes = λ three l. picked.other_bytes three (iff.1 l);
  };
  left = left;
  sure = sure;
}

pub crash_step : (image : ℕ) (order : List FileName) (files next new : BTreeMap FileName Held) (rest after : List (FileName × Held)) (k : FileName) (v w : Held)
    → rest ≡ (k, v) ∷ after
    → get ordered.ghosts.cmp files k ≡ Some v
    → get ordered.ghosts.cmp new k ≡ Some w
    → ((f : FileName) → f ≢ k → get ordered.ghosts.cmp new f ≡ get ordered.ghosts.cmp next f)
    → CrashedFile image (last_of order ≡ Some k) v w
    → ((f : FileName) → lookup (is_at (ordered.ghosts.cmp f)) rest ≡ None → CrashedFile image (last_of order ≡ Some f) (held_at (get ordered.ghosts.cmp files f)) (held_at (get ordered.ghosts.cmp next f)))
    → (f : FileName) → lookup (is_at (ordered.ghosts.cmp f)) after ≡ None → CrashedFile image (last_of order ≡ Some f) (held_at (get ordered.ghosts.cmp files f)) (held_at (get ordered.ghosts.cmp new f))
crash_step image order files next new rest after k v w split found own others here_is before f none = elim (cases_at f k) [
  | inl is ↦
      let F : FileName → Type 0 = λ (x : FileName). CrashedFile image (last_of order ≡ Some x) (held_at (get ordered.ghosts.cmp files x)) (held_at (get ordered.ghosts.cmp new x)) in
      let at_k : F k =
      subst (λ (o : Option Held). CrashedFile image (last_of order ≡ Some k) (held_at o) (held_at (get ordered.ghosts.cmp new k))) (sym found)
      (subst (λ (o : Option Held). CrashedFile image (last_of order ≡ Some k) v (held_at o)) (sym own) here_is) in
      subst F (sym is) at_k
  | inr (ne, off) ↦
      let missing : lookup (is_at (ordered.ghosts.cmp f)) rest ≡ None = ap (λ (l : List (FileName × Held)). lookup (is_at (ordered.ghosts.cmp f)) l) split ∙ ap (λ (b : Bool). cond b (Some v) (lookup (is_at (ordered.ghosts.cmp f)) after)) off ∙ none in
      subst (λ (o : Option Held). CrashedFile image (last_of order ≡ Some f) (held_at (get ordered.ghosts.cmp files f)) (held_at o)) (sym (others f ne)) (before f missing)
]
