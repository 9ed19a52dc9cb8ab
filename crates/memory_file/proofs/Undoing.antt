-- What calls took from a file, given back, makes it what it was.
use Rattle.std.proofs.Common.{◌≡◌, inl, inr, ℕ, ◌+◌, ◌-◌, ◌≤◌, ◌<◌, min, get_or, take-take, List, [], ◌∷◌, ◌++◌, length, take, drop, Some, None, Result, Ok, Err, OnOk, OnErr, refl, sym, ◌∙◌, ap, arith, length-drop, take-append-drop, append_assoc}
use Rattle.std.proofs.lemmas.List.{take_all, drop_all, drop-drop, length-take, take_more}
use Rattle.std.proofs.lemmas.Bool.{cases_lt}
use Rattle.disk_calls.specs.Disk.{Image, over}
use Rattle.memory_file.specs.Memory.{Held, done, all_done, with_call}
use Rattle.memory_file.specs.TornDone.{over_torn, take_len}
use Rattle.memory_file.specs.Undone.{takes, given_back, undone}
use Rattle.memory_file.specs.declared.file.Call.{Call}
use Rattle.memory_file.specs.declared.file.Call.TheVariants as call
use Rattle.memory_file.specs.declared.file.Took.{Took}
use Rattle.memory_file.proofs.Tearing.{all_done_push}

-- bytes at a place, between those before and those behind
over_part : (m old : List ℕ) (at n : ℕ) → take at m ≡ take at old → drop (at + length (take n (drop at old))) m ≡ drop (at + length (take n (drop at old))) old → over m at (take n (drop at old)) ≡ old
over_part m old at n front behind =
    let saved = take n (drop at old) in
    ap (λ (l : List ℕ). l ++ saved ++ drop (at + length saved) m) front
    ∙ ap (λ (l : List ℕ). take at old ++ saved ++ l) (behind ∙ sym (drop-drop (length saved) at old))
    ∙ append_assoc (take at old) saved (drop (length saved) (drop at old))
    ∙ ap (λ (l : List ℕ). take at old ++ (l ++ drop (length saved) (drop at old))) (sym (take_len n (drop at old)))
    ∙ ap (λ (l : List ℕ). take at old ++ l) (take-append-drop (length saved) (drop at old))
    ∙ take-append-drop at old

write_back : (old v : List ℕ) (at : ℕ) → over (take (length old) (over old at v)) at (take (length v) (drop at old)) ≡ old
write_back old v at =
    let new = over old at v in
    let m = take (length old) new in
    let saved = take (length v) (drop at old) in
    let torn = over_torn old v at (length v) (omega arith) in
    let size : length m ≡ length old = length-take (length old) new ∙ (let e : min (length old) (length new) ≡ length old = omega (arith, torn.no_shorter) in e) in
    let count : length saved ≡ min (length v) (length old - at) = length-take (length v) (drop at old) ∙ ap (λ (k : ℕ). min (length v) k) (length-drop at old) in
    let front : take at m ≡ take at old = elim (cases_lt (length old) at) [
      | inl past ↦ take_all at m (omega (arith, size)) ∙ ap (λ (k : ℕ). take k new) (let e : length old ≡ min at (length old) = omega arith in e) ∙ torn.before
      | inr within ↦ take-take at (length old) new within ∙ ap (λ (k : ℕ). take k new) (let e : at ≡ min at (length old) = omega arith in e) ∙ torn.before
    ] in
    over_part m old at (length v) front (elim (cases_lt (length old) (at + length v)) [
      | inl past ↦ drop_all (at + length saved) m (omega (arith, size, count)) ∙ sym (drop_all (at + length saved) old (omega (arith, count)))
      | inr within ↦
          let whole : m ≡ new = take_all (length old) new (omega (arith, torn.no_longer)) in
          let same : length saved ≡ length v = omega (arith, count) in
          ap (λ (l : List ℕ). drop (at + length saved) l) whole ∙ ap (λ (k : ℕ). drop (at + k) new) same ∙ torn.after ∙ ap (λ (k : ℕ). drop (at + k) old) (sym same)
    ])

cut_back : (old : List ℕ) (n : ℕ) → over (take (length old) (take n old)) n (take (length old) (drop n old)) ≡ old
cut_back old n =
    let m = take (length old) (take n old) in
    let short : m ≡ take n old = take_all (length old) (take n old) (omega (arith, length-take n old)) in
    let front : take n m ≡ take n old = ap (λ (l : List ℕ). take n l) short ∙ take_all n (take n old) (omega (arith, length-take n old)) in
    let saved = take (length old) (drop n old) in
    let count : length saved ≡ length old - n = length-take (length old) (drop n old) ∙ (let e : min (length old) (length (drop n old)) ≡ length old - n = omega (arith, length-drop n old) in e) in
    over_part m old n (length old) front
    (drop_all (n + length saved) m (omega (arith, ap length short, length-take n old, count)) ∙ sym (drop_all (n + length saved) old (omega (arith, count))))

give_back_one : (c : Call) (old : Image) → given_back (takes c old) (done c old) ≡ old
give_back_one (call.Write at v) None = refl
give_back_one (call.Write at v) (Some old) = ap (λ (l : List ℕ). Some l) (write_back old v at)
give_back_one (call.Cut n) None = refl
give_back_one (call.Cut n) (Some old) = ap (λ (l : List ℕ). Some l) (cut_back old n)

pub undone_push : (ts : List Took) (t : Took) (file : Image) → undone (ts ++ t ∷ []) file ≡ undone ts (given_back t file)
undone_push [] t file = refl
undone_push (x ∷ ts) t file = ap (given_back x) (undone_push ts t file)

-- one call more: what the calls were done on stays
pub same_base : (ts more : List Took) (c : Call) (old new : Image) → more ≡ ts ++ takes c old ∷ [] → new ≡ done c old → undone more new ≡ undone ts old
same_base ts more c old new is step =
    ap (λ (l : List Took). undone l new) is ∙ undone_push ts (takes c old) new ∙ ap (λ (x : Image). undone ts (given_back (takes c old) x)) step ∙ ap (undone ts) (give_back_one c old)

pub still_follows : (calls after : List Call) (ts more : List Took) (c : Call) (old new : Image) → old ≡ all_done calls (undone ts old) → after ≡ calls ++ c ∷ [] → more ≡ ts ++ takes c old ∷ [] → new ≡ done c old → new ≡ all_done after (undone more new)
still_follows calls after ts more c old new follows with_it is step =
    step ∙ ap (done c) follows ∙ sym (all_done_push calls c (undone ts old)) ∙ ap (λ (l : List Call). all_done l (undone ts old)) (sym with_it) ∙ ap (all_done after) (sym (same_base ts more c old new is step))

-- one more given back
pub undone_step : (took : List Took) (left n : ℕ) (t : Took) (start now new : Image) → take left took ≡ take n took ++ t ∷ [] → undone (take left took) now ≡ undone took start → new ≡ given_back t now → undone (take n took) new ≡ undone took start
undone_step took left n t start now new more so_far step =
    ap (undone (take n took)) step ∙ sym (undone_push (take n took) t now) ∙ ap (λ (l : List Took). undone l now) (sym more) ∙ so_far

-- a call that was done and kept with what it takes, and one that was not
abbrev pub Kept : Call → List Call → List Call → List Took → List Took → Image → Image → Type 0
Kept c calls after ts more old new = (after ≡ calls ++ c ∷ []) × (more ≡ ts ++ takes c old ∷ []) × (new ≡ done c old)

abbrev pub NotKept : List Call → List Call → List Took → List Took → Image → Image → Type 0
NotKept calls after ts more old new = (after ≡ calls) × (more ≡ ts) × (new ≡ old)

pub follows_on : {E : Type 0} (r : Result (Unit {0}) E) (calls after : List Call) (ts more : List Took) (c : Call) (old new : Image) → old ≡ all_done calls (undone ts old) → OnOk r (Kept c calls after ts more old new) → OnErr r (NotKept calls after ts more old new) → new ≡ all_done after (undone more new)
follows_on (Ok u) calls after ts more c old new follows kept same = still_follows calls after ts more c old new follows kept.0 kept.1 kept.2
follows_on (Err e) calls after ts more c old new follows kept same =
    same.2 ∙ follows ∙ ap (λ (l : List Call). all_done l (undone ts old)) (sym same.0) ∙ ap (λ (l : List Took). all_done after (undone l old)) (sym same.1) ∙ ap (λ (x : Image). all_done after (undone more x)) (sym same.2)

held_as : (base more : Image) (calls after : List Call) → more ≡ base → after ≡ calls → (let new : Held = record { base = more; calls = after } in new) ≡ record { base = base; calls = calls }
held_as base more calls after is with_it = ap (λ (b : Image). record { base = b; calls = after }) is ∙ ap (λ (l : List Call). record { base = base; calls = l }) with_it

pub kept_view : {E : Type 0} (r : Result (Unit {0}) E) (v : Held) (calls after : List Call) (ts more : List Took) (c : Call) (old new : Image) → v ≡ record { base = undone ts old; calls = calls } → OnOk r (Kept c calls after ts more old new) → OnOk r ((let held : Held = record { base = undone more new; calls = after } in held) ≡ with_call v c)
kept_view (Ok u) v calls after ts more c old new is kept =
    held_as (undone ts old) (undone more new) (calls ++ c ∷ []) after (same_base ts more c old new kept.1 kept.2) kept.0
    ∙ ap (λ (h : Held). with_call h c) (sym is)
kept_view (Err e) v calls after ts more c old new is kept = tt

pub take_last : (xs : List Took) (i : ℕ) (v : Took) → 0 < i → i ≤ length xs → v ≡ get_or xs (i - 1) v → take i xs ≡ take (i - 1) xs ++ v ∷ []
take_last xs i v some le at =
    ap (λ (k : ℕ). take k xs) (let e : i ≡ i - 1 + 1 = omega arith in e)
    ∙ take_more xs (i - 1) v (omega arith)
    ∙ ap (λ (x : Took). take (i - 1) xs ++ x ∷ []) (sym at)
