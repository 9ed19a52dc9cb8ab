-- One frame at the front of the bytes that are left, by places in all the bytes of a cutter.
use Rattle.std.proofs.Common.{◌≡◌, ℕ, ◌+◌, ◌-◌, ◌≤◌, ◌<◌, ◌^◌, List, [], ◌++◌, length, take, drop, refl, sym, ap, subst, ◌∙◌, append_assoc, arith, inl, inr}
use Rattle.std.proofs.lemmas.List.{append-nil, drop-take, drop-drop, drop-append-le, drop_at, take_at, take_rest, take-append-drop, length-append, length-take, length-drop}
use Rattle.frame_wire.specs.declared.cutter.Cut.TheVariants.{Frame}
use Rattle.frame_wire.specs.declared.cutter.Front.{Front}
use Rattle.frame_wire.specs.declared.cutter.Front.TheVariants as looks
use Rattle.frame_wire.specs.Fields.{u32_bytes}
use Rattle.frame_wire.specs.Frames.{frame, size_of, IsBody, IsTooLarge}
use Rattle.frame_wire.specs.Cutting.{Held, IsStuck, Looks, Cuts, fed}
use Rattle.frame_wire.proofs.FieldLaws.{u32_length}
use Rattle.frame_wire.proofs.Streams.{large_begins}

abbrev pub held : ℕ → ℕ → ℕ → List ℕ → Held
held max body_at at bytes = record { max = max; body = drop body_at (take at bytes); rest = drop at bytes }

behind_frame : (bytes : List ℕ) (at len : ℕ) → drop (at + 4 + len) bytes ≡ drop (4 + len) (drop at bytes)
behind_frame bytes at len = let n : at + 4 + len ≡ at + (4 + len) = omega arith in ap (λ (k : ℕ). drop k bytes) n ∙ sym (drop-drop (4 + len) at bytes)

-- a whole frame at the front of bytes
pub looks_whole : (rest : List ℕ) (size : ℕ) → rest ≡ u32_bytes size ++ drop 4 rest → size ≤ length rest - 4 → 4 ≤ length rest
    → let body = drop 4 (take (4 + size) rest) in (rest ≡ frame body ++ drop (4 + length body) rest) × (length body ≡ size)
looks_whole rest size is le four =
    let body = drop 4 (take (4 + size) rest) in
    let len : length body ≡ size = omega (arith, length-drop 4 (take (4 + size) rest), length-take (4 + size) rest) in
    let front : body ≡ take size (drop 4 rest) = drop-take 4 size rest in
    let after : drop (4 + length body) rest ≡ drop size (drop 4 rest) = ap (λ (n : ℕ). drop (4 + n) rest) len ∙ sym (drop-drop size 4 rest) in
    let parts : drop 4 rest ≡ body ++ drop (4 + length body) rest = sym (take-append-drop size (drop 4 rest)) ∙ ap (λ (b : List ℕ). b ++ drop size (drop 4 rest)) (sym front) ∙ ap (λ (r : List ℕ). body ++ r) (sym after) in
    (is ∙ ap (λ (r : List ℕ). u32_bytes size ++ r) parts ∙ sym (append_assoc (u32_bytes size) body (drop (4 + length body) rest)) ∙ ap (λ (n : ℕ). (u32_bytes n ++ body) ++ drop (4 + length body) rest) (sym len), len)

-- the body of a frame at the front of what is left, by places in all the bytes
cut_off : (bytes body : List ℕ) (at : ℕ) → drop at bytes ≡ frame body ++ drop (4 + length body) (drop at bytes) → at + 4 + length body ≤ length bytes
    → drop (at + 4) (take (at + 4 + length body) bytes) ≡ body
cut_off bytes body at h long =
    let behind = drop (4 + length body) (drop at bytes) in
    let spread : drop at bytes ≡ u32_bytes (length body) ++ (body ++ behind) = h ∙ append_assoc (u32_bytes (length body)) body behind in
    let four : drop 4 (drop at bytes) ≡ body ++ behind = ap (drop 4) spread ∙ drop_at (u32_bytes (length body)) (body ++ behind) 4 (u32_length (length body)) in
    drop-take (at + 4) (length body) bytes ∙ ap (take (length body)) (sym (drop-drop 4 at bytes) ∙ four) ∙ take_at body behind (length body) refl

-- a frame at the front ends within the bytes
within : (bytes body : List ℕ) (at : ℕ) → at ≤ length bytes → drop at bytes ≡ frame body ++ drop (4 + length body) (drop at bytes) → at + 4 + length body ≤ length bytes
within bytes body at in_range h =
    let len : length (drop at bytes) ≡ length (frame body) + length (drop (4 + length body) (drop at bytes)) = ap length h ∙ length-append (frame body) (drop (4 + length body) (drop at bytes)) in
    omega (arith, length-drop at bytes, length-append (u32_bytes (length body)) body, u32_length (length body))

abbrev Stands : ℕ → List ℕ → List ℕ → Type 0
Stands max body rest = (rest ≡ frame body ++ drop (4 + length body) rest) × IsBody max body

pub within_rest : (bytes body : List ℕ) (at max : ℕ) → at ≤ length bytes → Stands max body (take (length bytes - at) (drop at bytes)) → at + 4 + length body ≤ length bytes
within_rest bytes body at max in_range h = within bytes body at in_range (subst (Stands max body) (take_rest bytes at) h).0

-- a cutter over these bytes that moves behind the whole frame
pub cuts_whole : (bytes body : List ℕ) (at body_at max : ℕ) (old : Held) → at ≤ length bytes → held max body_at at bytes ≡ old → Stands max body (take (length bytes - at) (drop at bytes))
    → Cuts old Frame (held max (at + 4) (at + 4 + length body) bytes)
cuts_whole bytes body at body_at max old in_range is h =
    let whole = (subst (Stands max body) (take_rest bytes at) h).0 in
    let cut = cut_off bytes body at whole (within bytes body at in_range whole) in
    let after : drop (at + 4 + length body) bytes ≡ drop (4 + length body) (drop at bytes) = behind_frame bytes at (length body) in
    let parts : drop at bytes ≡ frame (drop (at + 4) (take (at + 4 + length body) bytes)) ++ drop (at + 4 + length body) bytes =
    whole ∙ ap (λ (b : List ℕ). frame b ++ drop (4 + length body) (drop at bytes)) (sym cut) ∙ ap (λ (r : List ℕ). frame (drop (at + 4) (take (at + 4 + length body) bytes)) ++ r) (sym after) in
    subst (λ (o : Held). Cuts o Frame (held max (at + 4) (at + 4 + length body) bytes)) is (parts, subst (IsBody max) (sym cut) h.1, refl)

-- no size above the greatest stands where something else was seen
not_large : (max : ℕ) → max < 2 ^ 32 → (rest : List ℕ) (front : Front) → Looks max rest front → ((size : ℕ) → front ≡ looks.TooLarge size → ⊥) → IsTooLarge max rest (size_of rest) → ⊥
not_large max small rest (looks.Frame body) h other large = large_begins max small rest (size_of rest) large (record { body = body.now; more = drop (4 + length body.now) rest; fits = h.1; framed = h.0 })
not_large max small rest looks.More (inl short) other large = let whole = large.whole in omega arith
not_large max small rest looks.More (inr p) other large = let above = large.above in let le = p.0 in omega arith
not_large max small rest (looks.TooLarge size) h other large = other size refl

pub not_stuck : (bytes : List ℕ) (at body_at max : ℕ) → max < 2 ^ 32 → (old : Held) (front : Front) → held max body_at at bytes ≡ old → Looks max (take (length bytes - at) (drop at bytes)) front
    → ((size : ℕ) → front ≡ looks.TooLarge size → ⊥) → IsStuck old → ⊥
not_stuck bytes at body_at max small old front is h other stuck =
    let seen = subst (λ (x : List ℕ). Looks max x front) (take_rest bytes at) h in
    not_large max small (drop at bytes) front seen other (subst IsStuck (sym is) stuck)

-- a piece behind the bytes, and what was taken given up
pub feeds : (bytes piece : List ℕ) (at body_at max : ℕ) (old : Held) → at ≤ length bytes → held max body_at at bytes ≡ old → fed (held max body_at at (bytes ++ piece)) [] ≡ fed old piece
feeds bytes piece at body_at max old in_range is =
    let rest : drop at (bytes ++ piece) ++ [] ≡ drop at bytes ++ piece = append-nil (drop at (bytes ++ piece)) ∙ drop-append-le at bytes piece in_range in
    ap (λ (r : List ℕ). record { max = max; body = []; rest = r }) rest ∙ ap (λ (h : Held). fed h piece) is
