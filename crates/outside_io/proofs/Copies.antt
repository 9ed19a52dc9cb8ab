-- A buffer that took the front of what is left.
use Rattle.std.proofs.Common.{◌≡◌, ℕ, ◌+◌, ◌≤◌, List, ◌++◌, length, take, drop, sym, ap, ◌∙◌, arith}
use Rattle.std.proofs.lemmas.List.{take-append-drop, take_at, drop-drop, length-take}

-- what was left is what the buffer got and what is left past it
pub copied : (bytes buf front : List ℕ) (at n : ℕ) → front ≡ take n (drop at bytes) → n ≤ length (drop at bytes)
    → drop at bytes ≡ take n (front ++ drop n buf) ++ drop (at + n) bytes
copied bytes buf front at n is fits =
    let len : length front ≡ n = ap length is ∙ omega (arith, length-take n (drop at bytes)) in
    let got : take n (front ++ drop n buf) ≡ take n (drop at bytes) = take_at front (drop n buf) n len ∙ is in
    let past : drop (at + n) bytes ≡ drop n (drop at bytes) = sym (drop-drop n at bytes) in
    sym (ap (λ (x : List ℕ). x ++ drop (at + n) bytes) got ∙ ap (λ (x : List ℕ). take n (drop at bytes) ++ x) past ∙ take-append-drop n (drop at bytes))
