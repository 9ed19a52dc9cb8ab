-- Entries cut into pieces, and their chunks laid one behind the other.
use Rattle.std.proofs.Common.{◌≡◌, ℕ, zero, suc, ◌+◌, ◌*◌, ◌^◌, ◌<◌, ◌≤◌, ◌==◌, true, false, min, List, [], ◌∷◌, ◌++◌, length, get_or, take, drop, map, pos, rules, refl, sym, ap, subst, ◌∙◌, append_assoc, length-append, arith, inl, inr, ◌⊎◌}
use Rattle.std.specs.Int.{w64}
use Rattle.std.specs.Int.RustNames.{FitsSigned}
use Rattle.std.specs.List.{AllByRecursion}
use Rattle.std.proofs.lemmas.List.{append-nil, take_more, take-append-drop, length-take, map-append, length-map}
use Rattle.std.proofs.lemmas.List.Elements.{All-nil, All-from_recursion}
use Rattle.std.proofs.lemmas.Bool.{cases_lt}
use Rattle.std.proofs.lemmas.List.Sums.{sum_by-append}
use Rattle.std.proofs.lemmas.Grind.{flat_map-append}
use Rattle.frame_wire.specs.Fields.{u32_bytes}
use Rattle.frame_wire.proofs.FieldLaws.{u32_length}
use Rattle.chunk_format.specs.declared.entry.Entry.{Entry}
use Rattle.chunk_format.specs.declared.entry.Entry.TheVariants.{Simple, Batch}
use Rattle.chunk_format.specs.declared.chunk.Chunk.{Chunk}
use Rattle.chunk_format.specs.Tags.{IsSnapshot}
use Rattle.chunk_format.specs.Chunks.{IsChunk, IsEntry, HasRecords, entry_bytes, entries_bytes, records_of, entry_records, end_of_chunk}
use Rattle.command_data.specs.declared.item.Tagged.{Tagged}
use Rattle.replay_node.specs.declared.session.Offer.{Offer}
use Rattle.replay_node.specs.declared.output.Commits.{Commits}
use Rattle.replay_node.specs.Commands.{IsSimple}
use Rattle.replay_node.specs.NodeState.{chunk_max, opening, user_chunk, first_pieces, pieces_of, entries, offer_pieces, chunks_from, end_of_list}
use Rattle.replay_node.specs.Commits.{IsMessage, IsLaid, IsPiece, end_behind, LaysOut}

-- ---- pieces

same_pieces : {X : Type 0} (n m : ℕ) (xs : List X) → length xs ≤ n → length xs ≤ m → first_pieces n xs ≡ first_pieces m xs
same_pieces zero zero xs p q = refl
same_pieces zero (suc m) [] p q = refl
same_pieces zero (suc m) (x ∷ xs) p q = absurd (omega (arith, p))
same_pieces (suc n) zero [] p q = refl
same_pieces (suc n) zero (x ∷ xs) p q = absurd (omega (arith, q))
same_pieces (suc n) (suc m) [] p q = refl
same_pieces {X = X} (suc n) (suc m) (x ∷ xs) p q =
    let parts = ap length (take-append-drop chunk_max (x ∷ xs)) in
    let one = length-take chunk_max (x ∷ xs) in
    let both = length-append (take chunk_max (x ∷ xs)) (drop chunk_max (x ∷ xs)) in
    ap (λ (l : List (List X)). take chunk_max (x ∷ xs) ∷ l) (same_pieces n m (drop chunk_max (x ∷ xs)) (omega (arith, parts, one, both, p)) (omega (arith, parts, one, both, q)))

pub pieces_none : {X : Type 0} → pieces_of {X = X} [] ≡ []
unfolding pieces_of
pieces_none = refl

pub pieces_step : {X : Type 0} (x : X) (xs : List X) → pieces_of (x ∷ xs) ≡ take chunk_max (x ∷ xs) ∷ pieces_of (drop chunk_max (x ∷ xs))
unfolding pieces_of
pieces_step {X = X} x xs =
    let parts = ap length (take-append-drop chunk_max (x ∷ xs)) in
    let one = length-take chunk_max (x ∷ xs) in
    let both = length-append (take chunk_max (x ∷ xs)) (drop chunk_max (x ∷ xs)) in
    ap (λ (l : List (List X)). take chunk_max (x ∷ xs) ∷ l) (same_pieces (length xs) (length (drop chunk_max (x ∷ xs))) (drop chunk_max (x ∷ xs)) (omega (arith, parts, one, both)) (omega arith))

-- the first piece of a list that is not empty, and the pieces of what is behind it
pub pieces_split : {X : Type 0} (xs front back : List X) → 1 ≤ length xs → front ≡ take chunk_max xs → back ≡ drop chunk_max xs → pieces_of xs ≡ front ∷ pieces_of back
pieces_split [] front back some e f = absurd (omega (arith, some))
pieces_split {X = X} (x ∷ xs) front back some e f =
    pieces_step x xs ∙ ap (λ (l : List X). l ∷ pieces_of (drop chunk_max (x ∷ xs))) (sym e) ∙ ap (λ (l : List X). front ∷ pieces_of l) (sym f)

-- ---- simple entries

entry_length : (entry : Entry) → IsEntry entry → IsSimple entry → 4 ≤ length (entry_bytes entry)
entry_length (Simple bytes) fits simple = omega (arith, length-append (u32_bytes (length bytes)) bytes, u32_length (length bytes))
entry_length (Batch compression spare records uncompressed body) fits simple = absurd simple

pub entries_length : (es : List Entry) → AllByRecursion IsMessage es → 4 * length es ≤ length (entries_bytes es)
entries_length [] each = omega arith
entries_length (e ∷ es) each = omega (arith, entry_length e each.0.0 each.0.1, entries_length es each.1, length-append (entry_bytes e) (entries_bytes es))

record_one : (entry : Entry) → IsSimple entry → records_of (entry ∷ []) ≡ 1
record_one (Simple bytes) simple = refl
record_one (Batch compression spare records uncompressed body) simple = absurd simple

pub records_all : (es : List Entry) → AllByRecursion IsMessage es → records_of es ≡ length es
records_all [] each = refl
records_all (Simple bytes ∷ es) each = let rest = records_all es each.1 in let parts = sum_by-append entry_records (Simple bytes ∷ []) es in omega (arith, rest, parts)
records_all (Batch compression spare records uncompressed body ∷ es) each = absurd each.0.1

has_record : (entry : Entry) → IsSimple entry → HasRecords entry
has_record (Simple bytes) simple = omega arith
has_record (Batch compression spare records uncompressed body) simple = absurd simple

pub each_entry : (es : List Entry) → AllByRecursion IsMessage es → AllByRecursion IsEntry es
each_entry [] each = tt
each_entry (e ∷ es) each = (each.0.0, each_entry es each.1)

pub each_record : (es : List Entry) → AllByRecursion IsMessage es → AllByRecursion HasRecords es
each_record [] each = tt
each_record (e ∷ es) each = (has_record e each.0.1, each_record es each.1)

pub zero_fits : FitsSigned w64 (pos 0)
zero_fits = search rules

pub piece_is_chunk : (first : ℕ) (items : List Tagged) → IsPiece items → first + length items < 2 ^ 64 → IsChunk (user_chunk first (entries items))
piece_is_chunk first items piece room =
    let es : List Entry = entries items in
    let len : length es ≡ length items = length-map items (λ (item : Tagged). item.entry) in
    let records = records_all es piece.laid.each in
    let some = piece.some in
    let few = piece.few in
    let short = piece.laid.short in
    record {
      stamp_fits = zero_fits;
      epoch_fits = omega arith;
      some = omega (arith, len, some);
      few = omega (arith, len, few);
      each = All-from_recursion IsEntry es (each_entry es piece.laid.each);
      recorded = All-from_recursion HasRecords es (each_record es piece.laid.each);
      payload = omega (arith, short);
      last = omega (arith, len, records, room);
      content = inl refl;
    }

opening_length : length (entries_bytes (Simple [] ∷ [])) ≡ 4
opening_length = omega (arith, ap length (append-nil (entry_bytes (Simple []))), length-append (u32_bytes 0) [], u32_length 0)

pub opening_is_chunk : IsChunk opening
opening_is_chunk = record {
  stamp_fits = zero_fits;
  epoch_fits = omega arith;
  some = omega arith;
  few = omega arith;
  each = All-from_recursion IsEntry (Simple [] ∷ []) (omega arith, tt);
  recorded = All-from_recursion HasRecords (Simple [] ∷ []) (omega arith, tt);
  payload = omega (arith, opening_length);
  last = omega arith;
  content = (refl, ([], [], refl, (All-nil IsSnapshot, refl)));
}

-- ---- chunks one behind the other

pub chunks_append : (first : ℕ) (a b : List (List Entry)) → chunks_from first (a ++ b) ≡ chunks_from first a ++ chunks_from (end_behind first a) b
chunks_append first [] b = refl
chunks_append first (piece ∷ a) b = ap (λ (l : List Chunk). user_chunk first piece ∷ l) (chunks_append (first + length piece) a b)

pub end_append : (first : ℕ) (a b : List (List Entry)) → end_behind first (a ++ b) ≡ end_behind (end_behind first a) b
end_append first [] b = refl
end_append first (piece ∷ a) b = end_append (first + length piece) a b

pub all_append : {X : Type 0} (P : X → Type 0) (xs ys : List X) → AllByRecursion P xs → AllByRecursion P ys → AllByRecursion P (xs ++ ys)
all_append P [] ys p q = q
all_append P (x ∷ xs) ys p q = (p.0, all_append P xs ys p.1 q)

pub all_parts : {X : Type 0} (P : X → Type 0) (xs ys : List X) → AllByRecursion P (xs ++ ys) → AllByRecursion P xs × AllByRecursion P ys
all_parts P [] ys p = (tt, p)
all_parts P (x ∷ xs) ys p = let rest = all_parts P xs ys p.1 in ((p.0, rest.0), rest.1)

pub laid_none : (c : Commits) → LaysOut c c []
laid_none c = record { chunks = sym (append-nil c.chunks.items); end = refl; spelled = tt }

pub laid_more : (old mid new : Commits) (a b : List (List Entry)) → LaysOut old mid a → LaysOut mid new b → LaysOut old new (a ++ b)
laid_more old mid new a b p q =
    let here : chunks_from mid.end b ≡ chunks_from (end_behind old.end a) b = ap (λ (n : ℕ). chunks_from n b) p.end in
    record {
      chunks = q.chunks ∙ ap (λ (l : List Chunk). l ++ chunks_from mid.end b) p.chunks ∙ ap (λ (l : List Chunk). (old.chunks.items ++ chunks_from old.end a) ++ l) here
          ∙ append_assoc old.chunks.items (chunks_from old.end a) (chunks_from (end_behind old.end a) b) ∙ ap (λ (l : List Chunk). old.chunks.items ++ l) (sym (chunks_append old.end a b));
      end = q.end ∙ ap (λ (n : ℕ). end_behind n b) p.end ∙ sym (end_append old.end a b);
      spelled = subst (AllByRecursion IsChunk) (sym (chunks_append old.end a b))
          (all_append IsChunk (chunks_from old.end a) (chunks_from (end_behind old.end a) b) p.spelled (subst (AllByRecursion IsChunk) here q.spelled));
    }

-- ---- the parts of an offer

laid_parts : (a b : List Tagged) → IsLaid (a ++ b) → IsLaid a × IsLaid b
laid_parts a b laid =
    let es : entries (a ++ b) ≡ entries a ++ entries b = map-append (λ (item : Tagged). item.entry) a b in
    let each = all_parts IsMessage (entries a) (entries b) (subst (AllByRecursion IsMessage) es laid.each) in
    let bytes : entries_bytes (entries (a ++ b)) ≡ entries_bytes (entries a) ++ entries_bytes (entries b) = ap entries_bytes es ∙ flat_map-append entry_bytes (entries a) (entries b) in
    let len = ap length bytes in
    let both = length-append (entries_bytes (entries a)) (entries_bytes (entries b)) in
    let short = laid.short in (
      record { each = each.0; short = omega (arith, len, both, short) },
      record { each = each.1; short = omega (arith, len, both, short) },
    )

pub entries_count : (items : List Tagged) → length (entries items) ≡ length items
entries_count items = length-map items (λ (item : Tagged). item.entry)

-- what of an offer's messages was laid
pub record Laying (items rest : List Tagged) (old new : Commits) : Type 0 where
  pub laid : IsLaid rest
  pub done : List (List Entry)
  pub parts : pieces_of (entries items) ≡ done ++ pieces_of (entries rest)
  pub lays : LaysOut old new done

pub laying_start : (items : List Tagged) (c : Commits) → IsLaid items → Laying items items c c
laying_start items c laid = record { laid = laid; done = []; parts = refl; lays = laid_none c }

pub next_piece : (items rest piece : List Tagged) (count : ℕ) (old new : Commits) → Laying items rest old new → 1 ≤ length rest → count ≤ length rest → 1 ≤ count → count ≤ chunk_max → piece ≡ take count rest → IsPiece piece
next_piece items rest piece count old new laying some within one few is =
    let halves = laid_parts (take count rest) (drop count rest) (subst IsLaid (sym (take-append-drop count rest)) laying.laid) in
    let len = length-take count rest in
    subst IsPiece (sym is) (record { laid = halves.0; some = omega (arith, len, within, one); few = omega (arith, len, few, within) })

take_all : {X : Type 0} (xs : List X) (n : ℕ) → length xs ≤ n → take n xs ≡ xs
take_all [] zero le = refl
take_all [] (suc n) le = refl
take_all (x ∷ xs) zero le = absurd (omega (arith, le))
take_all {X = X} (x ∷ xs) (suc n) le = ap (λ (l : List X). x ∷ l) (take_all xs n (omega (arith, le)))

drop_all : {X : Type 0} (xs : List X) (n : ℕ) → length xs ≤ n → drop n xs ≡ []
drop_all [] zero le = refl
drop_all [] (suc n) le = refl
drop_all (x ∷ xs) zero le = absurd (omega (arith, le))
drop_all (x ∷ xs) (suc n) le = drop_all xs n (omega (arith, le))

pub map_take : {X Y : Type 0} (f : X → Y) (n : ℕ) (xs : List X) → map f (take n xs) ≡ take n (map f xs)
map_take f zero xs = refl
map_take f (suc n) [] = refl
map_take {X = X} {Y = Y} f (suc n) (x ∷ xs) = ap (λ (l : List Y). f x ∷ l) (map_take f n xs)

pub map_drop : {X Y : Type 0} (f : X → Y) (n : ℕ) (xs : List X) → map f (drop n xs) ≡ drop n (map f xs)
map_drop f zero xs = refl
map_drop f (suc n) [] = refl
map_drop f (suc n) (x ∷ xs) = map_drop f n xs

-- a count that is the greatest that a piece may have, or the whole list
cut_front : (rest : List Tagged) (count : ℕ) → (count ≡ chunk_max) ⊎ ((count ≡ length rest) × (count ≤ chunk_max)) → entries (take count rest) ≡ take chunk_max (entries rest)
cut_front rest count (inl is) = ap (λ (n : ℕ). entries (take n rest)) is ∙ map_take (λ (item : Tagged). item.entry) chunk_max rest
cut_front rest count (inr (is, few)) =
    let len = length-map rest (λ (item : Tagged). item.entry) in
    ap entries (take_all rest count (omega (arith, is))) ∙ sym (take_all (entries rest) chunk_max (omega (arith, len, is, few)))

cut_back : (rest : List Tagged) (count : ℕ) → (count ≡ chunk_max) ⊎ ((count ≡ length rest) × (count ≤ chunk_max)) → entries (drop count rest) ≡ drop chunk_max (entries rest)
cut_back rest count (inl is) = ap (λ (n : ℕ). entries (drop n rest)) is ∙ map_drop (λ (item : Tagged). item.entry) chunk_max rest
cut_back rest count (inr (is, few)) =
    let len = length-map rest (λ (item : Tagged). item.entry) in
    ap entries (drop_all rest count (omega (arith, is))) ∙ sym (drop_all (entries rest) chunk_max (omega (arith, len, is, few)))

pub laying_more : (items rest piece more : List Tagged) (count : ℕ) (old mid new : Commits) → Laying items rest old mid → 1 ≤ length rest
    → (count ≡ chunk_max) ⊎ ((count ≡ length rest) × (count ≤ chunk_max)) → piece ≡ take count rest → more ≡ drop count rest → LaysOut mid new (entries piece ∷ []) → Laying items more old new
laying_more items rest piece more count old mid new laying some which is behind lays =
    let halves = laid_parts (take count rest) (drop count rest) (subst IsLaid (sym (take-append-drop count rest)) laying.laid) in
    let len = length-map rest (λ (item : Tagged). item.entry) in
    let split : pieces_of (entries rest) ≡ entries piece ∷ pieces_of (entries more) =
    pieces_split (entries rest) (entries piece) (entries more) (omega (arith, len, some)) (ap entries is ∙ cut_front rest count which) (ap entries behind ∙ cut_back rest count which) in
    record {
      laid = subst IsLaid (sym behind) halves.1;
      done = laying.done ++ entries piece ∷ [];
      parts = laying.parts ∙ ap (λ (l : List (List Entry)). laying.done ++ l) split ∙ sym (append_assoc laying.done (entries piece ∷ []) (pieces_of (entries more)));
      lays = laid_more old mid new laying.done (entries piece ∷ []) laying.lays lays;
    }

pub laying_end : (items rest : List Tagged) (old new : Commits) → Laying items rest old new → length rest ≡ 0 → LaysOut old new (pieces_of (entries items))
laying_end items [] old new laying none =
    let all : pieces_of (entries items) ≡ laying.done = laying.parts ∙ ap (λ (l : List (List Entry)). laying.done ++ l) pieces_none ∙ append-nil laying.done in
    subst (LaysOut old new) (sym all) laying.lays
laying_end items (x ∷ rest) old new laying none = absurd (omega (arith, none))

-- ---- all offers

-- chunks of these pieces, from the end of a list on
pub record IsLaidOut (end : ℕ) (commits : Commits) (pieces : List (List Entry)) : Type 0 where
  pub chunks : commits.chunks.items ≡ chunks_from end pieces
  pub behind : commits.end ≡ end_behind end pieces
  pub spelled : AllByRecursion IsChunk (chunks_from end pieces)

pub laid_out_more : (end : ℕ) (old new : Commits) (a b : List (List Entry)) → IsLaidOut end old a → LaysOut old new b → IsLaidOut end new (a ++ b)
laid_out_more end old new a b p q =
    let here : chunks_from old.end b ≡ chunks_from (end_behind end a) b = ap (λ (n : ℕ). chunks_from n b) p.behind in
    record {
      chunks = q.chunks ∙ ap (λ (l : List Chunk). l ++ chunks_from old.end b) p.chunks ∙ ap (λ (l : List Chunk). chunks_from end a ++ l) here ∙ sym (chunks_append end a b);
      behind = q.end ∙ ap (λ (n : ℕ). end_behind n b) p.behind ∙ sym (end_append end a b);
      spelled = subst (AllByRecursion IsChunk) (sym (chunks_append end a b))
          (all_append IsChunk (chunks_from end a) (chunks_from (end_behind end a) b) p.spelled (subst (AllByRecursion IsChunk) here q.spelled));
    }

pub end_of_chunks : (first : ℕ) (chunk : Chunk) (pieces : List (List Entry)) → end_of_chunk chunk ≡ first → AllByRecursion (AllByRecursion IsMessage) pieces → end_of_list (chunk ∷ chunks_from first pieces) ≡ end_behind first pieces
end_of_chunks first chunk [] at each = at
end_of_chunks first chunk (piece ∷ pieces) at each =
    let here : end_of_chunk (user_chunk first piece) ≡ first + length piece = ap (λ (n : ℕ). first + n) (records_all piece each.0) in
    end_of_chunks (first + length piece) (user_chunk first piece) pieces here each.1

end_push : (l : List Chunk) (c : Chunk) (m : List Chunk) → end_of_list (l ++ c ∷ m) ≡ end_of_list (c ∷ m)
end_push [] c m = refl
end_push (x ∷ []) c m = refl
end_push (x ∷ y ∷ l) c m = end_push (y ∷ l) c m

last_chunk : (l : List Chunk) (c : Chunk) → (front : List Chunk) × (last : Chunk) × (c ∷ l ≡ front ++ last ∷ [])
last_chunk [] c = ([], c, refl)
last_chunk (d ∷ l) c = let rest = last_chunk l d in (c ∷ rest.0, rest.1, ap (λ (m : List Chunk). c ∷ m) rest.2)

-- where a list ends behind the chunks of pieces
pub end_of_all : (l : List Chunk) (pieces : List (List Entry)) → AllByRecursion (AllByRecursion IsMessage) pieces → end_of_list (l ++ chunks_from (end_of_list l) pieces) ≡ end_behind (end_of_list l) pieces
end_of_all [] [] each = refl
end_of_all [] (piece ∷ pieces) each =
    let here : end_of_chunk (user_chunk 0 piece) ≡ 0 + length piece = ap (λ (n : ℕ). 0 + n) (records_all piece each.0) in
    end_of_chunks (0 + length piece) (user_chunk 0 piece) pieces here each.1
end_of_all (c ∷ l) pieces each =
    let parts = last_chunk l c in
    let at : end_of_list (parts.0 ++ parts.1 ∷ []) ≡ end_of_chunk parts.1 = end_push parts.0 parts.1 [] in
    let joined : (parts.0 ++ parts.1 ∷ []) ++ chunks_from (end_of_list (parts.0 ++ parts.1 ∷ [])) pieces ≡ parts.0 ++ parts.1 ∷ chunks_from (end_of_list (parts.0 ++ parts.1 ∷ [])) pieces =
    append_assoc parts.0 (parts.1 ∷ []) (chunks_from (end_of_list (parts.0 ++ parts.1 ∷ [])) pieces) in
    subst (λ (m : List Chunk). end_of_list (m ++ chunks_from (end_of_list m) pieces) ≡ end_behind (end_of_list m) pieces) (sym parts.2)
    (ap end_of_list joined ∙ end_push parts.0 parts.1 (chunks_from (end_of_list (parts.0 ++ parts.1 ∷ [])) pieces) ∙ end_of_chunks (end_of_list (parts.0 ++ parts.1 ∷ [])) parts.1 pieces (sym at) each)

pieces_messages : (n : ℕ) (es : List Entry) → AllByRecursion IsMessage es → AllByRecursion (AllByRecursion IsMessage) (first_pieces n es)
pieces_messages zero es each = tt
pieces_messages (suc n) [] each = tt
pieces_messages (suc n) (e ∷ es) each =
    let halves = all_parts IsMessage (take chunk_max (e ∷ es)) (drop chunk_max (e ∷ es)) (subst (AllByRecursion IsMessage) (sym (take-append-drop chunk_max (e ∷ es))) each) in
    (halves.0, pieces_messages n (drop chunk_max (e ∷ es)) halves.1)

pub each_piece : (es : List Entry) → AllByRecursion IsMessage es → AllByRecursion (AllByRecursion IsMessage) (pieces_of es)
unfolding pieces_of
each_piece es each = pieces_messages (length es) es each

pub some_left : (n : ℕ) → false ≡ (n == 0) → 1 ≤ n
some_left n e = grind arith

pub none_left : (n : ℕ) → true ≡ (n == 0) → n ≡ 0
none_left n e = grind arith

min_cases : (n m : ℕ) → (min n m ≡ m) ⊎ ((min n m ≡ n) × (n ≤ m))
min_cases n m = elim (cases_lt n m) [ inl lt ↦ inr (omega arith, omega arith) | inr le ↦ inl (omega arith) ]

pub least : (n count : ℕ) → 1 ≤ n → count ≡ min n 4096 → ((count ≡ chunk_max) ⊎ ((count ≡ n) × (count ≤ chunk_max))) × ((count ≤ n) × ((1 ≤ count) × (count ≤ chunk_max)))
least n count some is =
    (elim (min_cases n 4096) [ inl e ↦ inl (is ∙ e) | inr both ↦ inr (is ∙ both.0, let e = is ∙ both.0 in let le = both.1 in omega (arith, e, le)) ], (omega (arith, is), (omega (arith, is, some), omega (arith, is))))

pub pieces_more : (offers : List Offer) (k : ℕ) (offer : Offer) → k < length offers → offer ≡ get_or offers k offer → offer_pieces (take (k + 1) offers) ≡ offer_pieces (take k offers) ++ pieces_of (entries offer.items)
pieces_more offers k offer lt is =
    let taken : take (k + 1) offers ≡ take k offers ++ offer ∷ [] = take_more offers k offer lt ∙ ap (λ (o : Offer). take k offers ++ o ∷ []) (sym is) in
    ap offer_pieces taken ∙ flat_map-append (λ (o : Offer). pieces_of (entries o.items)) (take k offers) (offer ∷ [])
    ∙ ap (λ (l : List (List Entry)). offer_pieces (take k offers) ++ l) (append-nil (pieces_of (entries offer.items)))
