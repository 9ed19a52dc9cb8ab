-- The frames of a part of a stream.
use Rattle.std.proofs.Common.{◌≡◌, ◌⊎◌, ℕ, ◌+◌, ◌^◌, ◌<◌, ◌≤◌, List, [], ◌∷◌, ◌++◌, length, take, drop, refl, sym, ap, subst, ◌∙◌, append_assoc, arith, inl, inr}
use Rattle.std.specs.Int.{w32, from_be_bytes}
use Rattle.std.specs.List.{flat_map}
use Rattle.std.proofs.lemmas.Bool.{cases_lt}
use Rattle.std.proofs.lemmas.List.{length-append, length-take, take-append-le, take-append-drop}
use Rattle.std.proofs.lemmas.List.Elements.{All-nil, All-cons, All-head, All-tail}
use Rattle.frame_wire.specs.Fields.{u32_bytes}
use Rattle.frame_wire.specs.Frames.{frame, size_of, IsPartial, IsBody, stream_of, Frames}
use Rattle.frame_wire.proofs.FieldLaws.{u32_length, same_front}
use Rattle.frame_wire.proofs.FieldFormats.{wide32, number_first}

size_of_frame : (body more : List ℕ) → length body < 2 ^ 32 → size_of (frame body ++ more) ≡ length body
size_of_frame body more lt = ap size_of (append_assoc (u32_bytes (length body)) body more) ∙ number_first w32 u32_bytes (2 ^ 32) wide32 (length body) (body ++ more) lt

frame_length : (body : List ℕ) → length (frame body) ≡ 4 + length body
frame_length body = omega (arith, length-append (u32_bytes (length body)) body, u32_length (length body))

-- the size that bytes begin with, also where more stand behind them
same_size : (a b : List ℕ) → 4 ≤ length a → size_of (a ++ b) ≡ size_of a
same_size a b four = ap (from_be_bytes w32) (take-append-le 4 a b four)

-- bytes that are shorter than their size says
short_by_size : (max : ℕ) (a b : List ℕ) → size_of (a ++ b) ≤ max → length a < 4 + size_of (a ++ b) → (length a < 4) ⊎ (4 ≤ length a) → IsPartial max a
short_by_size max a b le short (inl few) = inl few
short_by_size max a b le short (inr four) = let is = same_size a b four in inr (omega arith, omega arith)

-- the front of bytes that begin no whole frame
front_partial : (max : ℕ) (a b : List ℕ) → IsPartial max (a ++ b) → IsPartial max a
front_partial max a b (inl short) = inl (omega (arith, length-append a b))
front_partial max a b (inr p) = let short = p.1 in short_by_size max a b p.0 (omega (arith, length-append a b)) (cases_lt (length a) 4)

-- The place where a stream is cut is inside its first frame, or behind it.
abbrev Inside : ℕ → List ℕ → List ℕ → List ℕ → List ℕ → Type 0
Inside max body more a b = IsPartial max a ⊎ ((c : List ℕ) × (a ≡ frame body ++ c) × (more ≡ c ++ b))

inside_of : (max : ℕ) (body more a b : List ℕ) → max < 2 ^ 32 → IsBody max body → a ++ b ≡ frame body ++ more → (length a < 4 + length body) ⊎ (4 + length body ≤ length a) → Inside max body more a b
inside_of max body more a b small le e (inl short) =
    let is : size_of (a ++ b) ≡ length body = ap size_of e ∙ size_of_frame body more (omega arith) in
    inl (short_by_size max a b (omega arith) (omega arith) (cases_lt (length a) 4))
inside_of max body more a b small le e (inr long) =
    let n = length (frame body) in
    let len : length (frame body) ≡ length (take n a) = omega (arith, frame_length body, length-take n a) in
    let cut : take n a ++ drop n a ≡ a = take-append-drop n a in
    let both = same_front (frame body) (take n a) more (drop n a ++ b) len (sym e ∙ ap (λ (x : List ℕ). x ++ b) (sym cut) ∙ append_assoc (take n a) (drop n a) b) in
    inr (drop n a, sym cut ∙ ap (λ (x : List ℕ). x ++ drop n a) (sym both.0), both.1)

-- The frames of a stream of two parts: those of the first, what it leaves, and those of that and the second.
pub record TwoParts (max : ℕ) (first second : List ℕ) (bodies : List (List ℕ)) (rest : List ℕ) : Type 0 where
  pub before : List (List ℕ)
  pub left : List ℕ
  pub behind : List (List ℕ)
  pub of_first : Frames max first before left
  pub of_second : Frames max (left ++ second) behind rest
  pub joined : bodies ≡ before ++ behind

-- a first part that is less than a whole frame
none_before : (max : ℕ) (a b : List ℕ) (bodies : List (List ℕ)) (rest : List ℕ) → IsPartial max a → Frames max (a ++ b) bodies rest → TwoParts max a b bodies rest
none_before max a b bodies rest partial all =
    record { before = []; left = a; behind = bodies; of_first = record { whole = refl; each = All-nil (IsBody max); partial = partial }; of_second = all; joined = refl }

-- a frame more at the front
one_before : (max : ℕ) (a b c body : List ℕ) (bodies : List (List ℕ)) (rest : List ℕ) → IsBody max body → a ≡ frame body ++ c → TwoParts max c b bodies rest → TwoParts max a b (body ∷ bodies) rest
one_before max a b c body bodies rest le is p =
    let first = p.of_first in
    let whole : a ≡ stream_of (body ∷ p.before) p.left = is ∙ ap (λ (x : List ℕ). frame body ++ x) first.whole ∙ sym (append_assoc (frame body) (flat_map frame p.before) p.left) in
    let each = All-cons (IsBody max) body p.before le first.each in
    record {
      before = body ∷ p.before;
      left = p.left;
      behind = p.behind;
      of_first = record { whole = whole; each = each; partial = first.partial };
      of_second = p.of_second;
      joined = ap (λ (xs : List (List ℕ)). body ∷ xs) p.joined;
    }

pub two_parts : (max : ℕ) → max < 2 ^ 32 → (a b : List ℕ) (bodies : List (List ℕ)) (rest : List ℕ) → Frames max (a ++ b) bodies rest → TwoParts max a b bodies rest
two_parts max small a b [] rest all =
    let is : a ++ b ≡ rest = all.whole in
    none_before max a b [] rest (front_partial max a b (subst (IsPartial max) (sym is) all.partial)) all
two_parts max small a b (body ∷ bodies) rest all =
    let more = stream_of bodies rest in
    let le = All-head (IsBody max) body bodies all.each in
    let is : a ++ b ≡ frame body ++ more = all.whole ∙ append_assoc (frame body) (flat_map frame bodies) rest in
    elim (inside_of max body more a b small le is (cases_lt (length a) (4 + length body))) [
      | inl partial ↦ none_before max a b (body ∷ bodies) rest partial all
      | inr p ↦
          let behind : Frames max (p.0 ++ b) bodies rest = record { whole = sym p.2; each = All-tail (IsBody max) body bodies all.each; partial = all.partial } in
          one_before max a b p.0 body bodies rest le p.1 (two_parts max small p.0 b bodies rest behind)
    ]
