-- Streams of frames.
use Rattle.std.proofs.Common.{◌≡◌, ℕ, ◌+◌, ◌^◌, ◌<◌, ◌≤◌, List, [], ◌∷◌, ◌++◌, length, get_or, take, drop, All, refl, sym, ap, subst, ◌∙◌, append_assoc, arith, inl, inr}
use Rattle.std.specs.Int.{w32, from_be_bytes}
use Rattle.std.specs.List.{flat_map}
use Rattle.std.proofs.lemmas.List.{append-nil, length-append, take-append-le, take-append-drop}
use Rattle.std.proofs.lemmas.List.Elements.{All-append, All-cons, All-head, All-tail}
use Rattle.std.proofs.lemmas.Grind.{common_steps, flat_map-append}
use Rattle.frame_wire.specs.declared.stream.StreamEnd.{StreamEnd}
use Rattle.frame_wire.specs.declared.stream.StreamEnd.TheVariants as ends
use Rattle.frame_wire.specs.Fields.{u32_bytes}
use Rattle.frame_wire.specs.Frames.{frame, size_of, IsPartial, IsTooLarge, IsBody, stream_of, Frames, TooBig, BeginsFrame}
use Rattle.frame_wire.specs.Cutting.{Held, IsStuck, fed, CutsStream}
use Rattle.frame_wire.proofs.FieldLaws.{u32_length, u32_same, same_front as same_lists}
use Rattle.frame_wire.proofs.FieldFormats.{wide32, number_first}

-- the size that a frame begins with
size_of_frame : (body more : List ℕ) → length body < 2 ^ 32 → size_of (frame body ++ more) ≡ length body
size_of_frame body more lt = ap size_of (append_assoc (u32_bytes (length body)) body more) ∙ number_first w32 u32_bytes (2 ^ 32) wide32 (length body) (body ++ more) lt

frame_length : (body more : List ℕ) → length (frame body ++ more) ≡ 4 + length body + length more
frame_length body more = omega (arith, length-append (frame body) more, length-append (u32_bytes (length body)) body, u32_length (length body))

-- each frame takes some bytes
pub frame_shortens : (old body new : List ℕ) → old ≡ frame body ++ new → length new < length old
frame_shortens old body new e = let l : length old ≡ 4 + length body + length new = ap length e ∙ frame_length body new in omega arith

-- one frame more
pub one_more : (stream : List ℕ) (bodies : List (List ℕ)) (rest body new : List ℕ) → stream ≡ stream_of bodies rest → rest ≡ frame body ++ new → stream ≡ stream_of (bodies ++ body ∷ []) new
one_more stream bodies rest body new e f =
    let last : flat_map frame (body ∷ []) ≡ frame body = append-nil (frame body) in
    e ∙ ap (λ (r : List ℕ). flat_map frame bodies ++ r) f ∙ sym (append_assoc (flat_map frame bodies) (frame body) new)
    ∙ ap (λ (r : List ℕ). flat_map frame bodies ++ r ++ new) (sym last) ∙ ap (λ (r : List ℕ). r ++ new) (sym (flat_map-append frame bodies (body ∷ [])))

pub each_more : (max : ℕ) (bodies : List (List ℕ)) (body : List ℕ) → All (IsBody max) bodies → IsBody max body → All (IsBody max) (bodies ++ body ∷ [])
each_more max bodies body each le = All-append (IsBody max) bodies (body ∷ []) each (All-cons (IsBody max) body [] le (λ k d lt. absurd (omega arith)))

-- ---- no other frames

-- no whole frame of at most max bytes stands at the front
abbrev pub NoFrame : ℕ → List ℕ → Type 0
NoFrame max rest = BeginsFrame max rest → ⊥

-- the length and the size of bytes that begin with a frame
begins_long : (greatest : ℕ) → greatest < 2 ^ 32 → (rest : List ℕ) (b : BeginsFrame greatest rest) → (4 + length b.body ≤ length rest) × (size_of rest ≡ length b.body)
begins_long greatest small rest b =
    let fits = b.fits in
    (let l : length rest ≡ 4 + length b.body + length b.more = ap length b.framed ∙ frame_length b.body b.more in omega arith, ap size_of b.framed ∙ size_of_frame b.body b.more (omega arith))

pub partial_begins : (max greatest : ℕ) → greatest < 2 ^ 32 → (rest : List ℕ) → IsPartial max rest → NoFrame greatest rest
partial_begins max greatest small rest (inl short) b = let long = begins_long greatest small rest b in let l = long.0 in omega arith
partial_begins max greatest small rest (inr p) b = let long = begins_long greatest small rest b in let l = long.0 in let is = long.1 in let short = p.1 in omega arith

pub large_begins : (max : ℕ) → max < 2 ^ 32 → (rest : List ℕ) (size : ℕ) → IsTooLarge max rest size → NoFrame max rest
large_begins max small rest size large b =
    let long = begins_long max small rest b in
    let is = long.1 in
    let fits = b.fits in
    let is_size = large.is_size in
    let above = large.above in
    omega arith

pub no_frame_behind : (max : ℕ) (stream : List ℕ) (bodies : List (List ℕ)) (rest : List ℕ) → Frames max stream bodies rest → BeginsFrame 4294967295 rest → ⊥
no_frame_behind max stream bodies rest h = partial_begins max 4294967295 (omega arith) rest h.partial

pub no_frame_at_large : (max : ℕ) (stream : List ℕ) (bodies : List (List ℕ)) (rest : List ℕ) (size : ℕ) → max < 2 ^ 32 → TooBig max stream bodies rest size → BeginsFrame max rest → ⊥
no_frame_at_large max stream bodies rest size small h = large_begins max small rest size h.large

end_none : (max : ℕ) → max < 2 ^ 32 → (stream : List ℕ) (bodies : List (List ℕ)) (rest : List ℕ) (end : StreamEnd) → CutsStream max stream bodies rest end → NoFrame max rest
end_none max small stream bodies rest ends.Open h = partial_begins max max small rest h.partial
end_none max small stream bodies rest (ends.TooLarge size) h = large_begins max small rest size h.large

end_parts : (max : ℕ) (stream : List ℕ) (bodies : List (List ℕ)) (rest : List ℕ) (end : StreamEnd) → CutsStream max stream bodies rest end → (stream ≡ stream_of bodies rest) × All (IsBody max) bodies
end_parts max stream bodies rest ends.Open h = (h.whole, h.each)
end_parts max stream bodies rest (ends.TooLarge size) h = (h.whole, h.each)

-- the same end behind other frames
ended : (max : ℕ) (stream whole : List ℕ) (ys xs : List (List ℕ)) (rest : List ℕ) (end : StreamEnd) → CutsStream max stream ys rest end → whole ≡ stream_of xs rest → All (IsBody max) xs → CutsStream max whole xs rest end
ended max stream whole ys xs rest ends.Open h e each = record { whole = e; each = each; partial = h.partial }
ended max stream whole ys xs rest (ends.TooLarge size) h e each = record { whole = e; each = each; large = h.large }

-- two frames at the front of the same bytes
same_front : (a b x y : List ℕ) → length a < 2 ^ 32 → length b < 2 ^ 32 → frame a ++ x ≡ frame b ++ y → (a ≡ b) × (x ≡ y)
same_front a b x y fits_a fits_b e =
    let spread : u32_bytes (length a) ++ (a ++ x) ≡ u32_bytes (length b) ++ (b ++ y) = sym (append_assoc (u32_bytes (length a)) a x) ∙ e ∙ append_assoc (u32_bytes (length b)) b y in
    let sizes = u32_same (length a) (length b) (a ++ x) (b ++ y) fits_a fits_b spread in
    same_lists a b x y sizes.0 sizes.1

-- bytes begin with one frame
pub same_frames : (max : ℕ) → max < 2 ^ 32 → (bytes : List ℕ) (b d : BeginsFrame max bytes) → (b.body ≡ d.body) × (b.more ≡ d.more)
same_frames max small bytes b d = let fits_b = b.fits in let fits_d = d.fits in same_front b.body d.body b.more d.more (omega arith) (omega arith) (sym b.framed ∙ d.framed)

one_reading : (max : ℕ) → max < 2 ^ 32 → (xs ys : List (List ℕ)) (a b : List ℕ) → All (IsBody max) xs → All (IsBody max) ys → NoFrame max a → NoFrame max b
    → stream_of xs a ≡ stream_of ys b → (xs ≡ ys) × (a ≡ b)
one_reading max small [] [] a b p q h k e = (refl, e)
one_reading max small [] (y ∷ ys) a b p q h k e = absurd (h (record { body = y; more = stream_of ys b; fits = All-head (IsBody max) y ys q; framed = e ∙ append_assoc (frame y) (flat_map frame ys) b }))
one_reading max small (x ∷ xs) [] a b p q h k e = absurd (k (record { body = x; more = stream_of xs a; fits = All-head (IsBody max) x xs p; framed = sym e ∙ append_assoc (frame x) (flat_map frame xs) a }))
one_reading max small (x ∷ xs) (y ∷ ys) a b p q h k e =
    let le_x = All-head (IsBody max) x xs p in
    let le_y = All-head (IsBody max) y ys q in
    let parts = same_front x y (stream_of xs a) (stream_of ys b) (omega arith) (omega arith) (sym (append_assoc (frame x) (flat_map frame xs) a) ∙ e ∙ append_assoc (frame y) (flat_map frame ys) b) in
    let rest = one_reading max small xs ys a b (All-tail (IsBody max) x xs p) (All-tail (IsBody max) y ys q) h k parts.1 in
    (ap (λ (z : List ℕ). z ∷ xs) parts.0 ∙ ap (λ (z : List (List ℕ)). y ∷ z) rest.0, rest.1)

pub not_both : (max : ℕ) (rest : List ℕ) (size : ℕ) → IsPartial max rest → IsTooLarge max rest size → ⊥
not_both max rest size (inl short) large = let whole = large.whole in omega arith
not_both max rest size (inr p) large = let le = p.0 in let is = large.is_size in let above = large.above in omega arith

same_end : (max : ℕ) (stream : List ℕ) (xs ys : List (List ℕ)) (rest : List ℕ) (end other : StreamEnd) → CutsStream max stream xs rest end → CutsStream max stream ys rest other → end ≡ other
same_end max stream xs ys rest ends.Open ends.Open h k = refl
same_end max stream xs ys rest ends.Open (ends.TooLarge size) h k = absurd (not_both max rest size h.partial k.large)
same_end max stream xs ys rest (ends.TooLarge size) ends.Open h k = absurd (not_both max rest size k.partial h.large)
same_end max stream xs ys rest (ends.TooLarge size) (ends.TooLarge more) h k = ap (λ (n : ℕ). ends.TooLarge n) (sym h.large.is_size ∙ k.large.is_size)

-- a stream has one reading
pub one_cut : (max : ℕ) → max < 2 ^ 32 → (stream : List ℕ) (xs ys : List (List ℕ)) (a b : List ℕ) (end other : StreamEnd) → CutsStream max stream xs a end → CutsStream max stream ys b other → (xs ≡ ys) × (end ≡ other)
one_cut max small stream xs ys a b end other h k =
    let p = end_parts max stream xs a end h in
    let q = end_parts max stream ys b other k in
    let both = one_reading max small xs ys a b p.1 q.1 (end_none max small stream xs a end h) (end_none max small stream ys b other k) (sym p.0 ∙ q.0) in
    (both.0, same_end max stream xs ys b end other (subst (λ (r : List ℕ). CutsStream max stream xs r end) both.1 h) k)

-- ---- piece by piece

-- the frames so far, and those of what came since
pub cuts_then : (max : ℕ) (stream piece : List ℕ) (xs ys : List (List ℕ)) (mid rest : List ℕ) (end : StreamEnd) → Frames max stream xs mid → CutsStream max (mid ++ piece) ys rest end
    → CutsStream max (stream ++ piece) (xs ++ ys) rest end
cuts_then max stream piece xs ys mid rest end f h =
    let parts = end_parts max (mid ++ piece) ys rest end h in
    let whole : stream ++ piece ≡ stream_of (xs ++ ys) rest = ap (λ (s : List ℕ). s ++ piece) f.whole ∙ append_assoc (flat_map frame xs) mid piece ∙ ap (λ (s : List ℕ). flat_map frame xs ++ s) parts.0
    ∙ sym (append_assoc (flat_map frame xs) (flat_map frame ys) rest) ∙ ap (λ (s : List ℕ). s ++ rest) (sym (flat_map-append frame xs ys)) in
    ended max (mid ++ piece) (stream ++ piece) ys (xs ++ ys) rest end h whole (All-append (IsBody max) xs ys f.each parts.1)

-- behind a size above the greatest any bytes may follow
pub large_after : (max : ℕ) (rest more : List ℕ) (size : ℕ) → IsTooLarge max rest size → IsTooLarge max (rest ++ more) size
large_after max rest more size large =
    let four = large.whole in
    let size_is : size_of (rest ++ more) ≡ size_of rest = ap (from_be_bytes w32) (take-append-le 4 rest more four) in
    record { whole = omega (arith, length-append rest more); is_size = size_is ∙ large.is_size; above = large.above }

pub large_then : (max : ℕ) (stream more : List ℕ) (bodies : List (List ℕ)) (rest : List ℕ) (size : ℕ) → TooBig max stream bodies rest size → TooBig max (stream ++ more) bodies (rest ++ more) size
large_then max stream more bodies rest size h =
    record { whole = ap (λ (s : List ℕ). s ++ more) h.whole ∙ append_assoc (flat_map frame bodies) rest more; each = h.each; large = large_after max rest more size h.large }

-- ---- a list of pieces

abbrev pub joined : List (List ℕ) → List ℕ
joined pieces = flat_map (λ piece. piece) pieces

joined_next : (pieces : List (List ℕ)) (i : ℕ) (piece : List ℕ) → i < length pieces → piece ≡ get_or pieces i piece → joined (take (i + 1) pieces) ≡ joined (take i pieces) ++ piece
joined_next pieces i piece lt is = grind (arith, common_steps)

joined_split : (pieces : List (List ℕ)) (i : ℕ) → joined (take i pieces) ++ joined (drop i pieces) ≡ joined pieces
joined_split pieces i = sym (flat_map-append (λ (piece : List ℕ). piece) (take i pieces) (drop i pieces)) ∙ ap joined (take-append-drop i pieces)

-- one piece was fed, and all its whole frames were cut off
pub piece_cut : (max : ℕ) (pieces : List (List ℕ)) (i : ℕ) (piece bytes : List ℕ) (old new : Held) (xs bodies : List (List ℕ)) (rest : List ℕ) (end : StreamEnd)
    → i < length pieces → piece ≡ get_or pieces i piece → bytes ≡ piece → Frames max (joined (take i pieces)) xs old.rest → old.max ≡ max → ((IsStuck old → ⊥) → new ≡ fed old bytes)
    → (ys : List (List ℕ)) × (bodies ≡ xs ++ ys) × CutsStream new.max new.rest ys rest end → CutsStream max (joined (take (i + 1) pieces)) bodies rest end × (new.max ≡ max)
piece_cut max pieces i piece bytes old new xs bodies rest end lt is same frames max_is feeds cut =
    let partial = subst (λ (m : ℕ). IsPartial m old.rest) (sym max_is) frames.partial in
    let now = feeds (λ stuck. not_both old.max old.rest (size_of old.rest) partial stuck) ∙ ap (fed old) same in
    let ys = cut.0 in
    let here : CutsStream old.max (old.rest ++ piece) ys rest end = subst (λ (h : Held). CutsStream h.max h.rest ys rest end) now cut.2 in
    let cuts = subst (λ (m : ℕ). CutsStream m (old.rest ++ piece) ys rest end) max_is here in
    let all = cuts_then max (joined (take i pieces)) piece xs ys old.rest rest end frames cuts in
    let whole = subst (λ (s : List ℕ). CutsStream max s (xs ++ ys) rest end) (sym (joined_next pieces i piece lt is)) all in
    (subst (λ (b : List (List ℕ)). CutsStream max (joined (take (i + 1) pieces)) b rest end) (sym cut.1) whole, ap (λ (h : Held). h.max) now ∙ max_is)

pub stays_large : (max : ℕ) (pieces : List (List ℕ)) (i : ℕ) (bodies : List (List ℕ)) (rest : List ℕ) (end : StreamEnd) (size : ℕ) → end ≡ ends.TooLarge size
    → CutsStream max (joined (take i pieces)) bodies rest end → CutsStream max (joined pieces) bodies (rest ++ joined (drop i pieces)) end
stays_large max pieces i bodies rest end size is h =
    let large = subst (λ (e : StreamEnd). CutsStream max (joined (take i pieces)) bodies rest e) is h in
    let more = large_then max (joined (take i pieces)) (joined (drop i pieces)) bodies rest size large in
    let whole = subst (λ (s : List ℕ). TooBig max s bodies (rest ++ joined (drop i pieces)) size) (joined_split pieces i) more in
    subst (λ (e : StreamEnd). CutsStream max (joined pieces) bodies (rest ++ joined (drop i pieces)) e) (sym is) whole

pub is_open : (max : ℕ) (stream : List ℕ) (bodies : List (List ℕ)) (rest : List ℕ) (end : StreamEnd) → ((size : ℕ) → end ≡ ends.TooLarge size → ⊥) → CutsStream max stream bodies rest end → Frames max stream bodies rest
is_open max stream bodies rest ends.Open other h = h
is_open max stream bodies rest (ends.TooLarge size) other h = absurd (other size refl)
