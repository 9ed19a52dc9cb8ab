-- The images that a crash picks.
use Rattle.std.proofs.Common.{◌≡◌, inl, inr, ℕ, zero, suc, ◌/◌, ◌≤◌, Bool, true, false, List, length, ◌⊎◌, refl, sym, subst, arith}
use Rattle.std.proofs.lemmas.List.{length-take, length-replicate}
use Rattle.disk_calls.specs.Disk.{Image}
use Rattle.memory_file.specs.Memory.{Held, ImageOf, IsCrashed, seen_of, half, all_a5}
use Rattle.memory_file.proofs.Tearing.{all_stay, torn_last_tears}
use Rattle.memory_file.specs.TornDone.{all_done_tears}

half_less : (v : List ℕ) → length (half v) ≤ length v
half_less v = omega (arith, length-take (length v / 2) v)

other_less : (v : List ℕ) → length (all_a5 v) ≤ length v
other_less v = omega (arith, length-replicate {A = ℕ} (length v) 0xa5)

as_image : (h : Held) (c d : Image) → d ≡ c → ImageOf h c → ImageOf h d
as_image h c d is image = subst (λ (x : Image). ImageOf h x) (sym is) image

four : (n : ℕ) → n ≤ 3 → (n ≡ 0) ⊎ ((n ≡ 1) ⊎ ((n ≡ 2) ⊎ (n ≡ 3)))
four zero le = inl refl
four (suc zero) le = inr (inl refl)
four (suc (suc zero)) le = inr (inr (inl refl))
four (suc (suc (suc zero))) le = inr (inr (inr refl))
four (suc (suc (suc (suc n)))) le = absurd (omega arith)

torn_image : (image : ℕ) (is_last : Bool) (h : Held) (new : Image) → IsCrashed image (is_last ≡ true) h new → (image ≡ 2) ⊎ (image ≡ 3) → ImageOf h new
torn_image image false h new is (inl two) = as_image h (seen_of h) new (is.last_is_elsewhere (omega arith) (λ e. cc)) (all_done_tears h.calls h.base)
torn_image image false h new is (inr three) = as_image h (seen_of h) new (is.last_is_elsewhere (omega arith) (λ e. cc)) (all_done_tears h.calls h.base)
torn_image image true h new is (inl two) = as_image h _ new (is.half_of_last two refl) (torn_last_tears half half_less h.calls h.base)
torn_image image true h new is (inr three) = as_image h _ new (is.other_bytes three refl) (torn_last_tears all_a5 other_less h.calls h.base)

-- what is picked is one of the images, whatever calls came before
pub crashed_is_image : (image : ℕ) (is_last : Bool) (h : Held) (new : Image) → image ≤ 3 → IsCrashed image (is_last ≡ true) h new → ImageOf h new
crashed_is_image image is_last h new le is = elim (four image le) [
  | inl none ↦ as_image h h.base new (is.none_happened none) (all_stay h.calls h.base)
  | inr (inl one) ↦ as_image h (seen_of h) new (is.all_happened one) (all_done_tears h.calls h.base)
  | inr (inr torn) ↦ torn_image image is_last h new is torn
]
