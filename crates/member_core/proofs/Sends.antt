-- Messages to several members.
use Rattle.std.proofs.Common.{◌≡◌, ℕ, zero, suc, ◌+◌, Bool, List, [], ◌∷◌, ◌++◌, map, sym, ap, ◌∙◌, arith}
use Rattle.std.specs.Prelude.{not, ◌==◌}
use Rattle.std.specs.List.{filter}
use Rattle.std.proofs.lemmas.List.{map-append}
use Rattle.std.proofs.lemmas.List.Elements.{filter-append}
use Rattle.chunk_format.specs.declared.chunk.Chunk.{Chunk}
use Rattle.epoch_coordinator.specs.declared.tail.Tail.{Tail}
use Rattle.epoch_coordinator.specs.declared.message.Message.TheVariants as messages
use Rattle.epoch_coordinator.specs.declared.message.Sent.{Sent}
use Rattle.epoch_coordinator.specs.MemberSteps.{mail, numbers_from}

numbers_more : (first n : ℕ) → numbers_from first (n + 1) ≡ numbers_from first n ++ (first + n) ∷ []
numbers_more first zero = let same : first ≡ first + 0 = omega arith in ap (λ (k : ℕ). k ∷ []) same
numbers_more first (suc n) =
    let next : suc n + 1 ≡ suc (n + 1) = omega arith in
    let shift : first + 1 + n ≡ first + suc n = omega arith in
    ap (numbers_from first) next ∙ ap (λ (l : List ℕ). first ∷ l) (numbers_more (first + 1) n ∙ ap (λ (k : ℕ). numbers_from (first + 1) n ++ k ∷ []) shift)

abbrev pub append_to : ℕ → Tail → Chunk → ℕ → Sent
append_to epoch previous c k = mail k (messages.Append epoch previous c)

abbrev pub is_other : ℕ → ℕ → Bool
is_other me k = not (k == me)

-- Appends to the first members
abbrev pub appended : ℕ → Tail → Chunk → ℕ → ℕ → List Sent
appended epoch previous c me n = map (append_to epoch previous c) (filter (is_other me) (numbers_from 1 n))

pub appended_more : (epoch : ℕ) (previous : Tail) (c : Chunk) (me n : ℕ) (old new : List Sent) → old ≡ appended epoch previous c me n → new ≡ old ++ map (append_to epoch previous c) (filter (is_other me) ((n + 1) ∷ [])) → new ≡ appended epoch previous c me (n + 1)
appended_more epoch previous c me n old new is more =
    let same : n + 1 ≡ 1 + n = omega arith in
    let to : List ℕ → List Sent = λ l. map (append_to epoch previous c) l in
    more ∙ ap (λ (l : List Sent). l ++ to (filter (is_other me) ((n + 1) ∷ []))) is
    ∙ sym (map-append (append_to epoch previous c) (filter (is_other me) (numbers_from 1 n)) (filter (is_other me) ((n + 1) ∷ [])))
    ∙ ap to (sym (filter-append (is_other me) (numbers_from 1 n) ((n + 1) ∷ [])) ∙ ap (filter (is_other me)) (ap (λ (k : ℕ). numbers_from 1 n ++ k ∷ []) same ∙ sym (numbers_more 1 n)))
