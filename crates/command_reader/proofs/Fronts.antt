-- What stands in front of bytes that come in pieces, by places in all of them.
use Rattle.std.proofs.Common.{◌≡◌, ℕ, ◌+◌, ◌-◌, ◌≤◌, ◌<◌, ◌^◌, List, [], ◌++◌, length, take, drop, refl, sym, ap, subst, ◌∙◌, arith, inl, inr}
use Rattle.std.specs.Int.{w32, from_be_bytes}
use Rattle.std.proofs.lemmas.List.{take-append-le, drop-append-le, drop-drop, length-append, length-drop}
use Rattle.frame_wire.specs.Fields.{u32_bytes}
use Rattle.frame_wire.specs.Frames.{frame, size_of, IsBody, IsPartial}
use Rattle.frame_wire.proofs.Cutting.{looks_whole}
use Rattle.command_reader.specs.Fronts.{Unread, Wants}

-- fewer bytes than are wanted are less than a whole frame
pub short_partial : (items : List ℕ) (at wanted max : ℕ) → at ≤ length items → Wants max (drop at items) (wanted - at) → length items < wanted → IsPartial max (drop at items)
short_partial items at wanted max in_range (inl few) short = inl (omega (arith, length-drop at items))
short_partial items at wanted max in_range (inr p) short = let le = p.2 in inr (p.1, omega (arith, length-drop at items, le))

wants_behind : (max : ℕ) (rest piece : List ℕ) (wanted : ℕ) → Wants max rest wanted → Wants max (rest ++ piece) wanted
wants_behind max rest piece wanted (inl few) = inl few
wants_behind max rest piece wanted (inr p) =
    let four = p.0 in
    let small = p.1 in
    let le = p.2 in
    let size_is : size_of (rest ++ piece) ≡ size_of rest = ap (from_be_bytes w32) (take-append-le 4 rest piece four) in
    inr (omega (arith, length-append rest piece), omega (arith, size_is, small), omega (arith, size_is, le))

pub wants_more : (items piece : List ℕ) (at wanted max : ℕ) → at ≤ length items → Wants max (drop at items) (wanted - at) → Wants max (drop at (items ++ piece)) (wanted - at)
wants_more items piece at wanted max in_range wants = subst (λ (r : List ℕ). Wants max r (wanted - at)) (sym (drop-append-le at items piece in_range)) (wants_behind max (drop at items) piece (wanted - at) wants)

pub pushed : (items piece : List ℕ) (at max : ℕ) (old : Unread) → at ≤ length items → record { max = max; rest = drop at items } ≡ old → ◌≡◌ {A = Unread} (record { max = max; rest = drop at (items ++ piece) }) (record { max = old.max; rest = old.rest ++ piece })
pushed items piece at max old in_range is = ap (λ (r : List ℕ). record { max = max; rest = r }) (drop-append-le at items piece in_range) ∙ ap (λ (o : Unread). record { max = o.max; rest = o.rest ++ piece }) is

pub taken_off : (items : List ℕ) (at len max : ℕ) (old : Unread) → record { max = max; rest = drop at items } ≡ old → ◌≡◌ {A = Unread} (record { max = max; rest = drop (at + (4 + len)) items }) (record { max = old.max; rest = drop (4 + len) old.rest })
taken_off items at len max old is = ap (λ (r : List ℕ). record { max = max; rest = r }) (sym (drop-drop (4 + len) at items)) ∙ ap (λ (o : Unread). record { max = o.max; rest = drop (4 + len) o.rest }) is

pub same_wants : (max : ℕ) (rest : List ℕ) (at wanted : ℕ) → Wants max rest wanted → Wants max rest (at + wanted - at)
same_wants max rest at wanted wants = subst (Wants max rest) (let n : wanted ≡ at + wanted - at = omega arith in n) wants

pub shows_whole : (rest : List ℕ) (size max : ℕ) → rest ≡ u32_bytes size ++ drop 4 rest → size ≤ max → size ≤ length rest - 4 → 4 ≤ length rest
    → let body = drop 4 (take (4 + size) rest) in (rest ≡ frame body ++ drop (4 + length body) rest) × IsBody max body
shows_whole rest size max is small le four = let whole = looks_whole rest size is le four in let len = whole.1 in (whole.0, omega (arith, len, small))
