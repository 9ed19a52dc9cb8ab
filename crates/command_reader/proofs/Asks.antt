-- One ask: the frame in front, which is cut off once its command was read.
use Rattle.std.proofs.Common.{◌≡◌, ◌⊎◌, ℕ, ◌+◌, ◌^◌, ◌<◌, List, ◌++◌, ◌≤◌, length, drop, Option, None, Some, Result, Ok, Err, refl, sym, ap, subst, ◌∙◌, inl, inr, arith}
use Rattle.std.specs.Prelude.{IsSome, IfSome, OnOk, OnErr}
use Rattle.frame_wire.specs.Frames.{frame, size_of, IsBody, IsPartial, IsTooLarge, BeginsFrame}
use Rattle.std.proofs.lemmas.List.{length-append}
use Rattle.frame_wire.specs.Fields.{u32_bytes}
use Rattle.frame_wire.proofs.FieldLaws.{u32_length}
use Rattle.frame_wire.proofs.Streams.{large_begins, partial_begins, not_both}
use Rattle.command_reader.specs.declared.pending.Front.{Front}
use Rattle.command_reader.specs.declared.pending.Front.TheVariants as looks
use Rattle.command_fields.specs.declared.fault.DecodeFault.{DecodeFault}
use Rattle.command_all.specs.declared.command.Command.{Command}
use Rattle.command_all.specs.Commands.{Spells, Wrong}
use Rattle.command_all.specs.Reading.{BeginsUnspelt}
use Rattle.command_reader.specs.Fronts.{Unread, Wants, Shows}
use Rattle.command_reader.specs.States.{ReaderState, IsEnded, taken, Takes, GivesCommand}

-- a frame with this body stands in front
abbrev InFront : ℕ → List ℕ → List ℕ → Type 0
InFront max rest body = (rest ≡ frame body ++ drop (4 + length body) rest) × IsBody max body

begins : (max : ℕ) (rest body : List ℕ) → InFront max rest body → BeginsFrame max rest
begins max rest body h = record { body = body; more = drop (4 + length body) rest; fits = h.1; framed = h.0 }

pub unspelt_front : (max : ℕ) (rest body : List ℕ) (fault : DecodeFault) → InFront max rest body → Wrong body fault → BeginsUnspelt max rest fault
unfolding begins
unspelt_front max rest body fault h wrong = record { frame = begins max rest body h; wrong = wrong }

pub none_of : (o : Option DecodeFault) → ((fault : DecodeFault) → o ≡ Some fault → ⊥) → o ≡ None
none_of (Some fault) other = absurd (other fault refl)
none_of None other = refl

abbrev state_of : Unread → Option DecodeFault → ReaderState
state_of held unspelt = record { max = held.max; rest = held.rest; unspelt = unspelt }

same_state : (m n : ℕ) (r q : List ℕ) (o p : Option DecodeFault) → m ≡ n → r ≡ q → o ≡ p → ◌≡◌ {A = ReaderState} (record { max = m; rest = r; unspelt = o }) (record { max = n; rest = q; unspelt = p })
same_state m n r q o p e f g =
    ap (λ (x : ℕ). record { max = x; rest = r; unspelt = o }) e ∙ ap (λ (x : List ℕ). record { max = n; rest = x; unspelt = o }) f ∙ ap (λ (x : Option DecodeFault). record { max = n; rest = q; unspelt = x }) g

-- the frame in front is taken off once its command was read
pub gives_command : (old new : Unread) (len : ℕ) (body : List ℕ) (command : Command) (unspelt : Option DecodeFault) (state : ReaderState) → state_of old unspelt ≡ state → unspelt ≡ None → InFront old.max old.rest body → Spells command body
    → len ≡ length body → new ≡ record { max = old.max; rest = drop (4 + len) old.rest } → GivesCommand state command (state_of new unspelt)
unfolding begins
gives_command old new len body command unspelt state is none h spells len_is taken =
    let b = begins old.max old.rest body h in
    let rest : new.rest ≡ b.more = ap (λ (u : Unread). u.rest) taken ∙ ap (λ (n : ℕ). drop (4 + n) old.rest) len_is in
    let max : new.max ≡ old.max = ap (λ (u : Unread). u.max) taken in
    let given : GivesCommand (state_of old unspelt) command (state_of new unspelt) =
    record { unspelt = none; frame = b; spells = spells; left = same_state new.max old.max new.rest b.more unspelt None max rest none } in
    subst (λ (s : ReaderState). GivesCommand s command (state_of new unspelt)) is given

-- ---- less than a whole frame is known to stand in front

none_by : (max : ℕ) (rest : List ℕ) (o : Option DecodeFault) → max < 2 ^ 32 → IfSome o (λ fault. BeginsUnspelt max rest fault) → IsPartial max rest → o ≡ None
none_by max rest None small may partial = refl
none_by max rest (Some fault) small may partial = absurd (partial_begins max max small rest partial may.frame)

-- no frame was found unspelt
pub short_unspelt : (p : Unread) (o : Option DecodeFault) (state : ReaderState) → p.max < 2 ^ 32 → IfSome o (λ fault. BeginsUnspelt p.max p.rest fault) → state_of p o ≡ state → IsPartial p.max p.rest → (state.unspelt ≡ None) × IsPartial state.max state.rest
short_unspelt p o state small may is partial = subst (λ (s : ReaderState). (s.unspelt ≡ None) × IsPartial s.max s.rest) is (none_by p.max p.rest o small may partial, partial)

open_by : (max : ℕ) (rest : List ℕ) (o : Option DecodeFault) → o ≡ None → IsPartial max rest → IsSome o ⊎ IsTooLarge max rest (size_of rest) → ⊥
open_by max rest o none partial (inl some) = absurd (cc (none, some))
open_by max rest o none partial (inr large) = not_both max rest (size_of rest) partial large

pub short_goes_on : (p : Unread) (o : Option DecodeFault) (state : ReaderState) → p.max < 2 ^ 32 → IfSome o (λ fault. BeginsUnspelt p.max p.rest fault) → state_of p o ≡ state → IsPartial p.max p.rest → IsEnded state → ⊥
short_goes_on p o state small may is partial ended = let here = short_unspelt p o state small may is partial in open_by state.max state.rest state.unspelt here.0 here.1 ended

pub none_left : (o : Option DecodeFault) (P : DecodeFault → Type 0) → o ≡ None → IfSome o P
none_left None P is = tt
none_left (Some fault) P is = absurd cc

-- ---- pieces

pub not_ended_none : (state : ReaderState) → (IsEnded state → ⊥) → state.unspelt ≡ None
not_ended_none state goes = none_of state.unspelt (λ fault is. goes (inl (subst IsSome (sym is) refl)))

same_max : {E : Type 0} (r : Result (Unit {0}) E) (old new : Unread) (piece : List ℕ) → OnOk r (new ≡ record { max = old.max; rest = old.rest ++ piece }) → OnErr r (new ≡ old) → new.max ≡ old.max
same_max {E} (Ok u) old new piece ok err = ap (λ (p : Unread). p.max) ok
same_max {E} (Err e) old new piece ok err = ap (λ (p : Unread). p.max) err

-- whatever came of a push, the reader has no unspelt frame, as before
pub still_held : {E : Type 0} (r : Result (Unit {0}) E) (old new : Unread) (piece : List ℕ) (o : Option DecodeFault) (state : ReaderState) → old.max < 2 ^ 32 → state_of old o ≡ state → (IsEnded state → ⊥)
    → OnOk r (new ≡ record { max = old.max; rest = old.rest ++ piece }) → OnErr r (new ≡ old) → (new.max < 2 ^ 32) × IfSome o (λ fault. BeginsUnspelt new.max new.rest fault)
still_held {E} r old new piece o state small is goes ok err =
    let none : o ≡ None = ap (λ (s : ReaderState). s.unspelt) is ∙ not_ended_none state goes in
    let max = same_max r old new piece ok err in
    (omega (arith, max, small), none_left o (λ fault. BeginsUnspelt new.max new.rest fault) none)

pub takes_by : {E : Type 0} (r : Result (Unit {0}) E) (old new : Unread) (piece : List ℕ) (o : Option DecodeFault) (state : ReaderState) → state_of old o ≡ state → (IsEnded state → ⊥)
    → OnOk r (new ≡ record { max = old.max; rest = old.rest ++ piece }) → OnOk r (Takes state piece (state_of new o))
takes_by {E} (Ok u) old new piece o state is goes ok =
    let front : state_of new o ≡ taken (state_of old o) piece = ap (λ (p : Unread). state_of p o) ok in
    (λ ended. absurd (goes ended), λ _. front ∙ ap (λ (s : ReaderState). taken s piece) is)
takes_by {E} (Err e) old new piece o state is goes ok = tt

-- ---- whether more can come

not_large : (max : ℕ) → max < 2 ^ 32 → (rest : List ℕ) (front : Front) → Shows max rest front → ((size : ℕ) → front ≡ looks.TooLarge size → ⊥) → IsTooLarge max rest (size_of rest) → ⊥
unfolding begins
not_large max small rest (looks.Frame body) h other large = large_begins max small rest (size_of rest) large (begins max rest body.now h)
not_large max small rest (looks.TooLarge size) h other large = other size refl
not_large max small rest (looks.Short wanted) h other large = short_of_large max rest wanted h.0 h.1 large
  where
    short_of_large : (max : ℕ) (rest : List ℕ) (wanted : ℕ) → length rest < wanted → Wants max rest wanted → IsTooLarge max rest (size_of rest) → ⊥
    short_of_large max rest wanted lt (inl few) large = let whole = large.whole in omega (arith, lt, few, whole)
    short_of_large max rest wanted lt (inr p) large = let above = large.above in let small = p.1 in omega (arith, above, small)

neither : (o : Option DecodeFault) (Large : Type 0) → o ≡ None → (Large → ⊥) → IsSome o ⊎ Large → ⊥
neither o Large none small (inl some) = absurd (cc (none, some))
neither o Large none small (inr large) = small large

pub not_ended : (p : Unread) (o : Option DecodeFault) (state : ReaderState) (front : Front) → p.max < 2 ^ 32 → state_of p o ≡ state → o ≡ None → Shows p.max p.rest front → ((size : ℕ) → front ≡ looks.TooLarge size → ⊥) → IsEnded state → ⊥
not_ended p o state front small is none shows other =
    subst (λ (s : ReaderState). IsEnded s → ⊥) is (neither o (IsTooLarge p.max p.rest (size_of p.rest)) none (not_large p.max small p.rest front shows other))

-- ---- a frame in front

pub in_front_long : (max : ℕ) (rest body : List ℕ) → InFront max rest body → 4 + length body ≤ length rest
in_front_long max rest body h =
    let len = ap length h.0 in
    omega (arith, len, length-append (frame body) (drop (4 + length body) rest), length-append (u32_bytes (length body)) body, u32_length (length body))
