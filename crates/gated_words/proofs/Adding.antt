-- What a crash leaves of the calls that add a pair.
use Rattle.std.proofs.Common.{◌≡◌, ◌≢◌, inl, inr, ℕ, ◌+◌, ◌*◌, ◌≤◌, ◌<◌, ◌^◌, List, [], ◌∷◌, ◌++◌, length, sym, ◌∙◌, ap, subst, arith, length-append}
use Rattle.disk_calls.specs.declared.file_id.FileId.{FileId}
use Rattle.disk_calls.specs.Disk.{DiskState, Image, Settled, Elsewhere, Longer}
use Rattle.disk_calls.specs.Frames.{Gone}
use Rattle.disk_calls.proofs.FrameLemmas.{elsewhere_stay, gone_stays}
use Rattle.gated_words.specs.declared.record.Form.TheVariants as form
use Rattle.gated_words.specs.Words.{gate, shut, spelled, AllFit}
use Rattle.gated_words.specs.Files.{Files, second_file}
use Rattle.gated_words.specs.Backing.{EachBoth, AtMostNew, Held}
use Rattle.gated_words.proofs.Apart.{held_apart}
use Rattle.gated_words.proofs.Opening.{Has, second_has}
use Rattle.gated_words.proofs.Spelling.{length-shut, length-spelled, spelled-push, AllFit-push}
use Rattle.gated_words.proofs.Tearing.{words_torn, gate_torn}

old_near : (files : Files) (pairs : List (ℕ × ℕ)) (pair : ℕ × ℕ) → Has pairs files → AtMostNew pairs pair files
old_near files pairs pair has = record { opens = has.opens; pairs = inl has.are }

pub held_settled : (id two : FileId) (pairs : List (ℕ × ℕ)) (s : DiskState) → two ≡ second_file id → Held id pairs s → Settled two (spelled form.Second pairs) s
held_settled id two pairs s is held = subst (λ (f : FileId). Settled f (spelled form.Second pairs) s) (sym is) held.settled

-- the first file stays gone while the second changes
still_gone : (id two : FileId) (s t : DiskState) → id ≢ two → Elsewhere two s t → Gone id s → Gone id t
still_gone id two s t ne others gone = gone_stays id s t (elsewhere_stay id two s t ne others) gone

-- the words and their check are in the second file, all of it on the disk, and no gate
pub record HasWords (id two : FileId) (pairs : List (ℕ × ℕ)) (pair : ℕ × ℕ) (s : DiskState) : Type 0 where
  pub is : two ≡ second_file id
  pub apart : id ≢ two
  pub gone : Gone id s
  pub settled : Settled two (spelled form.Second pairs ++ shut form.Second pair) s
  pub fit : AllFit pairs
  pub first : pair.0 < 2 ^ 64
  pub second : pair.1 < 2 ^ 64

-- while the words are written
pub words_written : (id two : FileId) (s t : DiskState) (pairs : List (ℕ × ℕ)) (pair : ℕ × ℕ) (n : ℕ) → two ≡ second_file id → Held id pairs s → n ≤ 17 → Elsewhere two s t → ((c : Image) → t.images two c → Longer (spelled form.Second pairs) n c) → EachBoth id (AtMostNew pairs pair) t
words_written id two s t pairs pair n is held le others longer files left =
    let gone = still_gone id two s t (λ e. held_apart id pairs s held (e ∙ is)) others held.gone in
    let here : t.images two files.second = subst (λ (f : FileId). t.images f files.second) (sym is) left.second in
    old_near files pairs pair (second_has files pairs (gone.only files.first left.first) (words_torn pairs files.second n held.fit le (longer files.second here)))

pub words_sure : (id two : FileId) (s t : DiskState) (pairs : List (ℕ × ℕ)) (pair : ℕ × ℕ) (bytes : List ℕ) → two ≡ second_file id → Held id pairs s → pair.0 < 2 ^ 64 → pair.1 < 2 ^ 64 → bytes ≡ shut form.Second pair → Elsewhere two s t → Settled two (spelled form.Second pairs ++ bytes) t → HasWords id two pairs pair t
words_sure id two s t pairs pair bytes is held a b words_are others settled =
    let ne : id ≢ two = λ e. held_apart id pairs s held (e ∙ is) in
    record { is = is; apart = ne; gone = still_gone id two s t ne others held.gone; settled = subst (λ (l : List ℕ). Settled two (spelled form.Second pairs ++ l) t) words_are settled; fit = held.fit; first = a; second = b }

pub words_end : (pairs : List (ℕ × ℕ)) (pair : ℕ × ℕ) (place : ℕ) → place ≡ 8 + 18 * length pairs + 17 → place ≡ length (spelled form.Second pairs ++ shut form.Second pair)
words_end pairs pair place end = omega (arith, length-append (spelled form.Second pairs) (shut form.Second pair), length-spelled form.Second pairs, length-shut form.Second pair)

-- while the gate is written
pub gate_written : (id two : FileId) (s t : DiskState) (pairs : List (ℕ × ℕ)) (pair : ℕ × ℕ) (bytes : List ℕ) → HasWords id two pairs pair s → bytes ≡ gate ∷ [] → Elsewhere two s t → ((c : Image) → t.images two c → Longer (spelled form.Second pairs ++ shut form.Second pair) (length bytes) c) → EachBoth id (AtMostNew pairs pair) t
gate_written id two s t pairs pair bytes has gate_is others longer files left =
    let none = (still_gone id two s t has.apart others has.gone).only files.first left.first in
    let here : t.images two files.second = subst (λ (f : FileId). t.images f files.second) (sym has.is) left.second in
    let one : Longer (spelled form.Second pairs ++ shut form.Second pair) 1 files.second = subst (λ (l : List ℕ). Longer (spelled form.Second pairs ++ shut form.Second pair) (length l) files.second) gate_is (longer files.second here) in
    elim (gate_torn pairs pair files.second has.fit has.first has.second one) [
      | inl old ↦ old_near files pairs pair (second_has files pairs none old)
      | inr new ↦ let found = second_has files (pairs ++ pair ∷ []) none new in record { opens = found.opens; pairs = inr found.are }
    ]

pub gate_sure : (id two : FileId) (s t : DiskState) (pairs : List (ℕ × ℕ)) (pair : ℕ × ℕ) (bytes : List ℕ) → HasWords id two pairs pair s → bytes ≡ gate ∷ [] → Elsewhere two s t → Settled two ((spelled form.Second pairs ++ shut form.Second pair) ++ bytes) t → Held id (pairs ++ pair ∷ []) t
gate_sure id two s t pairs pair bytes has gate_is others settled =
    let more = pairs ++ pair ∷ [] in
    let same : (spelled form.Second pairs ++ shut form.Second pair) ++ bytes ≡ spelled form.Second more = ap (λ (l : List ℕ). (spelled form.Second pairs ++ shut form.Second pair) ++ l) gate_is ∙ sym (spelled-push form.Second pairs pair) in
    let here : Settled two (spelled form.Second more) t = subst (λ (l : List ℕ). Settled two l t) same settled in
    record { gone = still_gone id two s t has.apart others has.gone; settled = subst (λ (f : FileId). Settled f (spelled form.Second more) t) has.is here; fit = AllFit-push pairs pair has.fit has.first has.second }
