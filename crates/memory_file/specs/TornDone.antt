-- A call that was done is one of those that a crash may leave of it.
use Rattle.std.proofs.Common.{◌≡◌, inl, inr, ℕ, zero, suc, ◌+◌, ◌-◌, ◌≤◌, min, List, [], ◌∷◌, ◌++◌, length, take, drop, Some, None, refl, sym, ◌∙◌, ap, arith, length-append, length-drop}
use Rattle.std.proofs.lemmas.List.{drop_all, drop_at, drop-drop, length-take}
use Rattle.std.proofs.lemmas.Bool.{cases_lt}
use Rattle.std.proofs.lemmas.Grind.{common_steps}
use Rattle.disk_calls.specs.Disk.{Image, bytes_of, Torn, TornFile, CutFile, over}
use Rattle.memory_file.specs.Memory.{done, all_done, Tears, TearsAll}
use Rattle.memory_file.specs.declared.file.Call.{Call}
use Rattle.memory_file.specs.declared.file.Call.TheVariants as call

pub take_len : (n : ℕ) (old : List ℕ) → take (length (take n old)) old ≡ take n old
take_len zero old = refl
take_len (suc n) [] = refl
take_len (suc n) (x ∷ old) = ap (λ (l : List ℕ). x ∷ l) (take_len n old)

pub take_min : (n : ℕ) (old : List ℕ) → take (min n (length old)) old ≡ take n old
take_min n old = ap (λ (k : ℕ). take k old) (sym (length-take n old)) ∙ take_len n old

size_over : (old bytes : List ℕ) (at : ℕ) → length (over old at bytes) ≡ min at (length old) + (length bytes + (length old - (at + length bytes)))
size_over old bytes at =
    omega (arith, length-append (take at old ++ bytes) (drop (at + length bytes) old), length-append (take at old) bytes, length-take at old, length-drop (at + length bytes) old)

behind : (old bytes : List ℕ) (at : ℕ) → drop (length (take at old ++ bytes)) (over old at bytes) ≡ drop (at + length bytes) old
behind old bytes at = drop_at (take at old ++ bytes) (drop (at + length bytes) old) (length (take at old ++ bytes)) refl

over_after : (old bytes : List ℕ) (at n : ℕ) → length bytes ≤ n → drop (at + n) (over old at bytes) ≡ drop (at + n) old
over_after old bytes at n le = elim (cases_lt (length old) at) [
  | inl past ↦ drop_all (at + n) (over old at bytes) (omega (arith, size_over old bytes at)) ∙ sym (drop_all (at + n) old (omega arith))
  | inr within ↦
      let near : length (take at old ++ bytes) ≡ at + length bytes = omega (arith, length-append (take at old) bytes, length-take at old) in
      let far = n - length bytes in
      let is : at + n ≡ at + length bytes + far = omega arith in
      ap (λ (k : ℕ). drop k (over old at bytes)) is
      ∙ sym (drop-drop far (at + length bytes) (over old at bytes))
      ∙ ap (λ (k : ℕ). drop far (drop k (over old at bytes))) (sym near)
      ∙ ap (λ (l : List ℕ). drop far l) (behind old bytes at)
      ∙ drop-drop far (at + length bytes) old
      ∙ ap (λ (k : ℕ). drop k old) (sym is)
]

-- a write of fewer bytes in the range
pub over_torn : (old bytes : List ℕ) (at n : ℕ) → length bytes ≤ n → Torn at n old (over old at bytes)
over_torn old bytes at n le = record {
  before = grind (arith, common_steps);
  after = over_after old bytes at n le;
  no_shorter = omega (arith, size_over old bytes at);
  no_longer = omega (arith, size_over old bytes at);
}

pub over_file : (old : Image) (bytes : List ℕ) (at n : ℕ) → length bytes ≤ n → TornFile at n old (Some (over (bytes_of old) at bytes))
over_file old bytes at n le = over_torn (bytes_of old) bytes at n le

pub cut_done : (n : ℕ) (old : Image) → CutFile n old (done (call.Cut n) old)
cut_done n None = tt
cut_done n (Some old) = record { no_shorter = omega (arith, length-take n old); front = sym (take_len n old) }

pub done_tears : (c : Call) (old : Image) → Tears c old (done c old)
done_tears (call.Write at v) old = over_file old v at (length v) (omega arith)
done_tears (call.Cut n) old = cut_done n old

pub all_done_tears : (calls : List Call) (old : Image) → TearsAll calls old (all_done calls old)
all_done_tears [] old = refl
all_done_tears (c ∷ calls) old = (done c old, done_tears c old, all_done_tears calls (done c old))
