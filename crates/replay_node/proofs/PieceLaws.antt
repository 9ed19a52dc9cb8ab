-- The pieces of a list, and the rows written out.
use Rattle.std.proofs.Common.{◌≡◌, ℕ, zero, suc, ◌≤◌, List, [], ◌∷◌, ◌++◌, length, take, drop, refl, ap, ◌∙◌, length-append, arith}
use Rattle.std.specs.List.{flat_map}
use Rattle.std.proofs.lemmas.List.{take-append-drop, length-take}
use Rattle.replay_node.specs.NodeState.{chunk_max, first_pieces, pieces_of}
use Rattle.replay_node.specs.Rows.{PublishRow, ConfirmRow}
use Rattle.replay_node.specs.Laws.{AreCut, PiecesCut}

joined : {X : Type 0} (n : ℕ) (xs : List X) → length xs ≤ n → flat_map (λ (piece : List X). piece) (first_pieces n xs) ≡ xs
joined zero [] le = refl
joined zero (x ∷ xs) le = absurd (omega (arith, le))
joined (suc n) [] le = refl
joined {X = X} (suc n) (x ∷ xs) le =
    let parts = ap length (take-append-drop chunk_max (x ∷ xs)) in
    let both = length-append (take chunk_max (x ∷ xs)) (drop chunk_max (x ∷ xs)) in
    let one = length-take chunk_max (x ∷ xs) in
    ap (λ (l : List X). take chunk_max (x ∷ xs) ++ l) (joined n (drop chunk_max (x ∷ xs)) (omega (arith, parts, both, one, le))) ∙ take-append-drop chunk_max (x ∷ xs)

-- a piece before the pieces of what is behind it
cut_more : {X : Type 0} (n : ℕ) (piece behind : List X) → 1 ≤ length piece → length piece ≤ chunk_max → (1 ≤ length behind → length piece ≡ chunk_max) → AreCut (first_pieces n behind) → AreCut (piece ∷ first_pieces n behind)
cut_more zero piece behind some few full cut = (some, few)
cut_more (suc n) piece [] some few full cut = (some, few)
cut_more (suc n) piece (y ∷ behind) some few full cut = (full (omega arith), cut)

cut : {X : Type 0} (n : ℕ) (xs : List X) → AreCut (first_pieces n xs)
cut zero xs = tt
cut (suc n) [] = tt
cut (suc n) (x ∷ xs) =
    let parts = ap length (take-append-drop chunk_max (x ∷ xs)) in
    let both = length-append (take chunk_max (x ∷ xs)) (drop chunk_max (x ∷ xs)) in
    let one = length-take chunk_max (x ∷ xs) in
    cut_more n (take chunk_max (x ∷ xs)) (drop chunk_max (x ∷ xs)) (omega (arith, one)) (omega (arith, one)) (λ more. omega (arith, parts, both, one, more)) (cut n (drop chunk_max (x ∷ xs)))

pub pieces_cut : PiecesCut
unfolding pieces_of
pieces_cut xs = (joined (length xs) xs (omega arith), cut (length xs) xs)

pub publish_row : PublishRow
publish_row body publisher items =
    (λ s. record { spelled = s.spelled; publisher_fits = s.is_command.1.0; few = s.is_command.1.1.0; items_fit = s.is_command.1.1.1 }, λ p. record { is_command = (tt, (p.publisher_fits, (p.few, p.items_fit))); spelled = p.spelled })

pub confirm_row : ConfirmRow
confirm_row body publisher ids =
    (λ s. record { spelled = s.spelled; publisher_fits = s.is_command.1.0; few = s.is_command.1.1.0; ids_fit = s.is_command.1.1.1 }, λ p. record { is_command = (tt, (p.publisher_fits, (p.few, p.ids_fit))); spelled = p.spelled })
