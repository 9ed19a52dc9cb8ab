-- Bytes have one reading as commands, and the readings of parts join.
use Rattle.std.proofs.Common.{◌≡◌, ◌⊎◌, ℕ, zero, suc, ◌+◌, ◌^◌, ◌<◌, ◌≤◌, List, [], ◌∷◌, ◌++◌, length, take, drop, All, refl, sym, ap, subst, ◌∙◌, append_assoc, arith, inl, inr}
use Rattle.std.specs.List.{flat_map}
use Rattle.std.proofs.lemmas.Bool.{cases_lt}
use Rattle.std.proofs.lemmas.Grind.{flat_map-append}
use Rattle.std.proofs.lemmas.List.{append-nil, length-drop, length-take, take-append-drop}
use Rattle.std.proofs.lemmas.List.Elements.{All-append, All-cons, All-head, All-nil, All-tail}
use Rattle.frame_wire.specs.Fields.{u32_bytes}
use Rattle.frame_wire.specs.Frames.{frame, size_of, stream_of, IsPartial, IsTooLarge, IsBody, BeginsFrame}
use Rattle.frame_wire.specs.Laws.{IsBytes}
use Rattle.frame_wire.proofs.FieldFormats.{wide32}
use Rattle.frame_wire.proofs.Steps.{IsBytes-drop, IsBytes-take}
use Rattle.frame_wire.proofs.Streams.{large_after, large_begins, not_both, partial_begins, same_frames}
use Rattle.command_fields.proofs.TableLaws.{table_outcome}
use Rattle.command_fields.specs.declared.fault.DecodeFault.{DecodeFault}
use Rattle.command_fields.specs.Tables.{OneOutcomeIn}
use Rattle.command_all.specs.declared.command.Command.{Command}
use Rattle.command_all.specs.Commands.{Spells, Wrong, command_table}
use Rattle.command_all.specs.Reading.{AreSpelled, ReadingEnd, Partial, Unspelt, TooLarge, BeginsUnspelt, FramesTo, Reading, SomeReading, OneReading, ReadingsJoin, EndsStay}
use Rattle.command_all.proofs.CommandLaws.{command_lawful}

outcome : OneOutcomeIn command_table
outcome = table_outcome command_table command_lawful

-- ---- a reading by its parts

-- how what is left ends the commands
abbrev pub EndsAs : ℕ → List ℕ → ReadingEnd → Type 0
EndsAs max rest Partial = IsPartial max rest
EndsAs max rest (Unspelt fault) = BeginsUnspelt max rest fault
EndsAs max rest (TooLarge size) = IsTooLarge max rest size

pub record Parts (max : ℕ) (bytes : List ℕ) (bodies : List (List ℕ)) (rest : List ℕ) (end : ReadingEnd) : Type 0 where
  pub whole : bytes ≡ stream_of bodies rest
  pub each : All (IsBody max) bodies
  pub ends : EndsAs max rest end

parts_of : (max : ℕ) (bytes : List ℕ) (bodies : List (List ℕ)) (rest : List ℕ) (end : ReadingEnd) → FramesTo max bytes bodies rest end → Parts max bytes bodies rest end
parts_of max bytes bodies rest Partial h = record { whole = h.whole; each = h.each; ends = h.partial }
parts_of max bytes bodies rest (Unspelt fault) h = record { whole = h.whole; each = h.each; ends = h.unspelt }
parts_of max bytes bodies rest (TooLarge size) h = record { whole = h.whole; each = h.each; ends = h.large }

framed_of : (max : ℕ) (bytes : List ℕ) (bodies : List (List ℕ)) (rest : List ℕ) (end : ReadingEnd) → Parts max bytes bodies rest end → FramesTo max bytes bodies rest end
framed_of max bytes bodies rest Partial h = record { whole = h.whole; each = h.each; partial = h.ends }
framed_of max bytes bodies rest (Unspelt fault) h = record { whole = h.whole; each = h.each; unspelt = h.ends }
framed_of max bytes bodies rest (TooLarge size) h = record { whole = h.whole; each = h.each; large = h.ends }

-- frames that spell these commands, and what is left
pub record SpelledFront (max : ℕ) (bytes : List ℕ) (commands : List Command) (left : List ℕ) : Type 0 where
  pub bodies : List (List ℕ)
  pub whole : bytes ≡ stream_of bodies left
  pub each : All (IsBody max) bodies
  pub spelled : AreSpelled bodies commands

pub read_to : (max : ℕ) (bytes : List ℕ) (commands : List Command) (left : List ℕ) (end : ReadingEnd) → SpelledFront max bytes commands left → EndsAs max left end → Reading max bytes commands left end
read_to max bytes commands left end f ends = record { bodies = f.bodies; framed = framed_of max bytes f.bodies left end (record { whole = f.whole; each = f.each; ends = ends }); spelled = f.spelled }

pub front_of : (max : ℕ) (bytes : List ℕ) (commands : List Command) (rest : List ℕ) (end : ReadingEnd) → Reading max bytes commands rest end → SpelledFront max bytes commands rest × EndsAs max rest end
front_of max bytes commands rest end r =
    let parts = parts_of max bytes r.bodies rest end r.framed in
    (record { bodies = r.bodies; whole = parts.whole; each = parts.each; spelled = r.spelled }, parts.ends)

-- ---- what bodies spell

none_spelled : (commands : List Command) → AreSpelled [] commands → commands ≡ []
none_spelled [] p = refl
none_spelled (c ∷ cs) p = absurd p

record FirstSpelled (body : List ℕ) (bodies : List (List ℕ)) (commands : List Command) : Type 0 where
  command : Command
  more : List Command
  are : commands ≡ command ∷ more
  first : Spells command body
  others : AreSpelled bodies more

first_spelled : (body : List ℕ) (bodies : List (List ℕ)) (commands : List Command) → AreSpelled (body ∷ bodies) commands → FirstSpelled body bodies commands
first_spelled body bodies [] p = absurd p
first_spelled body bodies (c ∷ cs) p = record { command = c; more = cs; are = refl; first = p.0; others = p.1 }

spelled_both : (xs ys : List (List ℕ)) (cs ds : List Command) → AreSpelled xs cs → AreSpelled ys ds → AreSpelled (xs ++ ys) (cs ++ ds)
spelled_both [] ys [] ds p q = q
spelled_both [] ys (c ∷ cs) ds p q = absurd p
spelled_both (x ∷ xs) ys [] ds p q = absurd p
spelled_both (x ∷ xs) ys (c ∷ cs) ds p q = (p.0, spelled_both xs ys cs ds p.1 q)

-- ---- what ends the commands

-- no command's frame stands where they end
none_at_end : (max : ℕ) → max < 2 ^ 32 → (rest : List ℕ) (end : ReadingEnd) → EndsAs max rest end → (b : BeginsFrame max rest) (c : Command) → Spells c b.body → ⊥
none_at_end max small rest Partial h b c spells = partial_begins max max small rest h b
none_at_end max small rest (Unspelt fault) h b c spells =
    let same = same_frames max small rest h.frame b in
    outcome.no_both b.body c fault spells (subst (λ (x : List ℕ). Wrong x fault) same.0 h.wrong)
none_at_end max small rest (TooLarge size) h b c spells = large_begins max small rest size h b

same_ends : (max : ℕ) → max < 2 ^ 32 → (rest : List ℕ) (e f : ReadingEnd) → EndsAs max rest e → EndsAs max rest f → e ≡ f
same_ends max small rest Partial Partial h k = refl
same_ends max small rest Partial (Unspelt fault) h k = absurd (partial_begins max max small rest h k.frame)
same_ends max small rest Partial (TooLarge size) h k = absurd (not_both max rest size h k)
same_ends max small rest (Unspelt fault) Partial h k = absurd (partial_begins max max small rest k h.frame)
same_ends max small rest (Unspelt fault) (Unspelt other) h k =
    let same = same_frames max small rest h.frame k.frame in
    ap (λ (x : DecodeFault). Unspelt x) (outcome.fault k.frame.body fault other (subst (λ (x : List ℕ). Wrong x fault) same.0 h.wrong) k.wrong)
same_ends max small rest (Unspelt fault) (TooLarge size) h k = absurd (large_begins max small rest size k h.frame)
same_ends max small rest (TooLarge size) Partial h k = absurd (not_both max rest size k h)
same_ends max small rest (TooLarge size) (Unspelt fault) h k = absurd (large_begins max small rest size h k.frame)
same_ends max small rest (TooLarge size) (TooLarge other) h k = ap (λ (n : ℕ). TooLarge n) (sym h.is_size ∙ k.is_size)

-- any bytes may follow, but where the frame is not whole yet
pub unspelt_after : (max : ℕ) (rest more : List ℕ) (fault : DecodeFault) → BeginsUnspelt max rest fault → BeginsUnspelt max (rest ++ more) fault
unspelt_after max rest more fault h =
    let b = h.frame in
    record { frame = record { body = b.body; more = b.more ++ more; fits = b.fits; framed = ap (λ (r : List ℕ). r ++ more) b.framed ∙ append_assoc (frame b.body) b.more more }; wrong = h.wrong }

ends_stay : (max : ℕ) (rest more : List ℕ) (end : ReadingEnd) → (end ≡ Partial → ⊥) → EndsAs max rest end → EndsAs max (rest ++ more) end
ends_stay max rest more Partial other h = absurd (other refl)
ends_stay max rest more (Unspelt fault) other h = unspelt_after max rest more fault h
ends_stay max rest more (TooLarge size) other h = large_after max rest more size h

-- ---- one reading

-- What is read of bytes whose front spells commands begins with these, and goes on behind them.
pub record ReadsBehind (max : ℕ) (left : List ℕ) (front commands : List Command) (rest : List ℕ) (end : ReadingEnd) : Type 0 where
  pub more : List Command
  pub are : commands ≡ front ++ more
  pub behind : Reading max left more rest end

behind_bodies : (max : ℕ) → max < 2 ^ 32 → (xs ys : List (List ℕ)) (gs ds : List Command) (left rest : List ℕ) (end : ReadingEnd) → All (IsBody max) xs → AreSpelled xs gs → All (IsBody max) ys → AreSpelled ys ds → EndsAs max rest end
    → stream_of xs left ≡ stream_of ys rest → ReadsBehind max left gs ds rest end
behind_bodies max small [] ys gs ds left rest end each_x p each_y q ends is = record {
  more = ds;
  are = ap (λ (cs : List Command). cs ++ ds) (sym (none_spelled gs p));
  behind = read_to max left ds rest end (record { bodies = ys; whole = is; each = each_y; spelled = q }) ends;
}
behind_bodies max small (x ∷ xs) [] gs ds left rest end each_x p each_y q ends is =
    let first = first_spelled x xs gs p in
    let b : BeginsFrame max rest = record { body = x; more = stream_of xs left; fits = All-head (IsBody max) x xs each_x; framed = sym is ∙ append_assoc (frame x) (flat_map frame xs) left } in
    absurd (none_at_end max small rest end ends b first.command first.first)
behind_bodies max small (x ∷ xs) (y ∷ ys) gs ds left rest end each_x p each_y q ends is =
    let one = first_spelled x xs gs p in
    let two = first_spelled y ys ds q in
    let whole = stream_of (x ∷ xs) left in
    let b : BeginsFrame max whole = record { body = x; more = stream_of xs left; fits = All-head (IsBody max) x xs each_x; framed = append_assoc (frame x) (flat_map frame xs) left } in
    let d : BeginsFrame max whole = record { body = y; more = stream_of ys rest; fits = All-head (IsBody max) y ys each_y; framed = is ∙ append_assoc (frame y) (flat_map frame ys) rest } in
    let same = same_frames max small whole b d in
    let again = behind_bodies max small xs ys one.more two.more left rest end (All-tail (IsBody max) x xs each_x) one.others (All-tail (IsBody max) y ys each_y) two.others ends same.1 in
    let command : two.command ≡ one.command = outcome.value two.command one.command y two.first (subst (Spells one.command) same.0 one.first) in
    record {
      more = again.more;
      are = two.are ∙ ap (λ (c : Command). c ∷ two.more) command ∙ ap (λ (cs : List Command). one.command ∷ cs) again.are ∙ ap (λ (cs : List Command). cs ++ again.more) (sym one.are);
      behind = again.behind;
    }

pub reads_behind : (max : ℕ) → max < 2 ^ 32 → (bytes left : List ℕ) (front commands : List Command) (rest : List ℕ) (end : ReadingEnd) → SpelledFront max bytes front left → Reading max bytes commands rest end
    → ReadsBehind max left front commands rest end
reads_behind max small bytes left front commands rest end f r =
    let other = front_of max bytes commands rest end r in
    behind_bodies max small f.bodies (other.0).bodies front commands left rest end f.each f.spelled (other.0).each (other.0).spelled other.1 (sym f.whole ∙ (other.0).whole)

-- where the commands end, nothing more is read
at_end : (max : ℕ) → max < 2 ^ 32 → (left : List ℕ) (e : ReadingEnd) → EndsAs max left e → (bodies : List (List ℕ)) (more : List Command) (rest : List ℕ) (f : ReadingEnd) → left ≡ stream_of bodies rest → All (IsBody max) bodies → AreSpelled bodies more → EndsAs max rest f
    → (more ≡ []) × (left ≡ rest) × (e ≡ f)
at_end max small left e h [] more rest f is each spelled k = (none_spelled more spelled, is, same_ends max small rest e f (subst (λ (r : List ℕ). EndsAs max r e) is h) k)
at_end max small left e h (y ∷ ys) more rest f is each spelled k =
    let first = first_spelled y ys more spelled in
    let b : BeginsFrame max left = record { body = y; more = stream_of ys rest; fits = All-head (IsBody max) y ys each; framed = is ∙ append_assoc (frame y) (flat_map frame ys) rest } in
    absurd (none_at_end max small left e h b first.command first.first)

pub one_reading : OneReading
one_reading max bytes cs ds r q e f small one other =
    let mine = front_of max bytes cs r e one in
    let b = reads_behind max small bytes r cs ds q f mine.0 other in
    let theirs = front_of max r b.more q f b.behind in
    let end = at_end max small r e mine.1 (theirs.0).bodies b.more q f (theirs.0).whole (theirs.0).each (theirs.0).spelled theirs.1 in
    (sym (b.are ∙ ap (λ (xs : List Command). cs ++ xs) end.0 ∙ append-nil cs), end.1, end.2)

-- ---- parts

-- one front, and another behind it
pub fronts_behind : (max : ℕ) (bytes : List ℕ) (left : List ℕ) (cs ds : List Command) (q : List ℕ) → SpelledFront max bytes cs left → SpelledFront max left ds q → SpelledFront max bytes (cs ++ ds) q
fronts_behind max bytes left cs ds q f g = record {
  bodies = f.bodies ++ g.bodies;
  whole = f.whole ∙ ap (λ (s : List ℕ). flat_map frame f.bodies ++ s) g.whole ∙ sym (append_assoc (flat_map frame f.bodies) (flat_map frame g.bodies) q) ∙ ap (λ (s : List ℕ). s ++ q) (sym (flat_map-append frame f.bodies g.bodies));
  each = All-append (IsBody max) f.bodies g.bodies f.each g.each;
  spelled = spelled_both f.bodies g.bodies cs ds f.spelled g.spelled;
}

-- more bytes behind what is left
pub front_more : (max : ℕ) (bytes more : List ℕ) (cs : List Command) (r : List ℕ) → SpelledFront max bytes cs r → SpelledFront max (bytes ++ more) cs (r ++ more)
front_more max bytes more cs r f = record { bodies = f.bodies; whole = ap (λ (s : List ℕ). s ++ more) f.whole ∙ append_assoc (flat_map frame f.bodies) r more; each = f.each; spelled = f.spelled }

-- the front of one part, and that of what it left with more behind it
pub fronts_join : (max : ℕ) (bytes more : List ℕ) (cs ds : List Command) (r q : List ℕ) → SpelledFront max bytes cs r → SpelledFront max (r ++ more) ds q → SpelledFront max (bytes ++ more) (cs ++ ds) q
fronts_join max bytes more cs ds r q f g = fronts_behind max (bytes ++ more) (r ++ more) cs ds q (front_more max bytes more cs r f) g

pub readings_join : ReadingsJoin
readings_join max bytes more cs ds r q e one other =
    let behind = front_of max (r ++ more) ds q e other in
    read_to max (bytes ++ more) (cs ++ ds) q e (fronts_join max bytes more cs ds r q (front_of max bytes cs r Partial one).0 behind.0) behind.1

pub readings_stay : EndsStay
readings_stay max bytes more cs r e other one =
    let mine = front_of max bytes cs r e one in
    read_to max (bytes ++ more) cs (r ++ more) e (front_more max bytes more cs r mine.0) (ends_stay max r more e other mine.1)

-- ---- some reading

pub no_front : (max : ℕ) (bytes : List ℕ) → SpelledFront max bytes [] bytes
no_front max bytes = record { bodies = []; whole = refl; each = All-nil (IsBody max); spelled = tt }

-- one frame that spells a command
pub one_front : (max : ℕ) (bytes : List ℕ) (b : BeginsFrame max bytes) (c : Command) → Spells c b.body → SpelledFront max bytes (c ∷ []) b.more
one_front max bytes b c spells = record {
  bodies = b.body ∷ [];
  whole = b.framed ∙ ap (λ (f : List ℕ). f ++ b.more) (sym (append-nil (frame b.body)));
  each = All-cons (IsBody max) b.body [] b.fits (All-nil (IsBody max));
  spelled = (spells, tt);
}

-- a whole frame at the front of bytes
record FirstFrame (max : ℕ) (bytes : List ℕ) : Type 0 where
  first : BeginsFrame max bytes
  body_bytes : IsBytes first.body
  more_bytes : IsBytes first.more
  shorter : length first.more < length bytes

first_frame : (max : ℕ) (bytes : List ℕ) → IsBytes bytes → 4 ≤ length bytes → size_of bytes ≤ max → 4 + size_of bytes ≤ length bytes → FirstFrame max bytes
first_frame max bytes fits four le long =
    let size = size_of bytes in
    let behind = drop 4 bytes in
    let len : length (take size behind) ≡ size = omega (arith, length-take size behind, length-drop 4 bytes) in
    let head : u32_bytes size ≡ take 4 bytes = wide32.whole (take 4 bytes) (omega (arith, length-take 4 bytes)) (IsBytes-take 4 bytes fits) in
    let parts : bytes ≡ u32_bytes size ++ (take size behind ++ drop size behind) =
    sym (take-append-drop 4 bytes) ∙ ap (λ (x : List ℕ). x ++ behind) (sym head) ∙ ap (λ (x : List ℕ). u32_bytes size ++ x) (sym (take-append-drop size behind)) in
    let framed : bytes ≡ frame (take size behind) ++ drop size behind =
    parts ∙ sym (append_assoc (u32_bytes size) (take size behind) (drop size behind)) ∙ ap (λ (n : ℕ). (u32_bytes n ++ take size behind) ++ drop size behind) (sym len) in
    record {
      first = record { body = take size behind; more = drop size behind; fits = omega arith; framed = framed };
      body_bytes = IsBytes-take size behind (IsBytes-drop 4 bytes fits);
      more_bytes = IsBytes-drop size behind (IsBytes-drop 4 bytes fits);
      shorter = omega (arith, length-drop size behind, length-drop 4 bytes);
    }

abbrev Fronts : ℕ → List ℕ → Type 0
Fronts max bytes = IsPartial max bytes ⊎ IsTooLarge max bytes (size_of bytes) ⊎ FirstFrame max bytes

fronts : (max : ℕ) (bytes : List ℕ) → IsBytes bytes → Fronts max bytes
fronts max bytes fits =
    elim (cases_lt (length bytes) 4) [
      | inl few ↦ inl (inl few)
      | inr four ↦
          elim (cases_lt max (size_of bytes)) [
            | inl above ↦ inr (inl (record { whole = four; is_size = refl; above = above }))
            | inr le ↦
                elim (cases_lt (length bytes) (4 + size_of bytes)) [
                  | inl short ↦ inl (inr (le, short))
                  | inr long ↦ inr (inr (first_frame max bytes fits four le long))
                ]
          ]
    ]

ended_at_once : (max : ℕ) (bytes : List ℕ) (end : ReadingEnd) → EndsAs max bytes end → SomeReading max bytes
ended_at_once max bytes end ends = record { commands = []; rest = bytes; end = end; reading = read_to max bytes [] bytes end (no_front max bytes) ends }

one_before : (max : ℕ) (bytes : List ℕ) (b : BeginsFrame max bytes) (c : Command) → Spells c b.body → SomeReading max b.more → SomeReading max bytes
one_before max bytes b c spells s =
    let behind = front_of max b.more s.commands s.rest s.end s.reading in
    record { commands = c ∷ s.commands; rest = s.rest; end = s.end; reading = read_to max bytes (c ∷ s.commands) s.rest s.end (fronts_behind max bytes b.more (c ∷ []) s.commands s.rest (one_front max bytes b c spells) behind.0) behind.1 }

up_to : (max n : ℕ) (bytes : List ℕ) → length bytes ≤ n → IsBytes bytes → SomeReading max bytes
up_to max zero bytes le fits = ended_at_once max bytes Partial (inl (omega arith))
up_to max (suc n) bytes le fits =
    elim (fronts max bytes fits) [
      | inl partial ↦ ended_at_once max bytes Partial partial
      | inr (inl large) ↦ ended_at_once max bytes (TooLarge (size_of bytes)) large
      | inr (inr frame) ↦
          elim (outcome.some frame.first.body frame.body_bytes) [
            | inl spelled ↦ one_before max bytes frame.first spelled.0 spelled.1 (up_to max n frame.first.more (let lt = frame.shorter in omega arith) frame.more_bytes)
            | inr wrong ↦ ended_at_once max bytes (Unspelt wrong.0) (record { frame = frame.first; wrong = wrong.1 })
          ]
    ]

pub some_reading : (max : ℕ) (bytes : List ℕ) → IsBytes bytes → SomeReading max bytes
some_reading max bytes fits = up_to max (length bytes) bytes (omega arith) fits
