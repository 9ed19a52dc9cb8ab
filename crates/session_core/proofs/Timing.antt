-- Feeds of a session, each at its moment, are one run.
use Rattle.std.proofs.Common.{◌≡◌, ◌≢◌, ◌⊎◌, ◌≤◌, ◌<◌, ◌+◌, ◌-◌, ℕ, Bool, true, false, cond, List, [], ◌∷◌, ◌++◌, length, take, drop, All, Option, None, Some, refl, sym, ap, subst, ◌∙◌, append_assoc, arith, inl, inr}
use Rattle.std.specs.Prelude.{nat_lt}
use Rattle.std.specs.List.{flat_map}
use Rattle.std.proofs.lemmas.Bool.{cases_lt}
use Rattle.std.proofs.lemmas.Grind.{flat_map-append}
use Rattle.std.proofs.lemmas.List.{append-nil, length-append, take-append-le, take-append-drop}
use Rattle.std.proofs.lemmas.List.Elements.{All-append, All-head, All-nil}
use Rattle.std.proofs.Math.Seq.{take-append_seam}
use Rattle.frame_wire.specs.Fields.{u32_bytes}
use Rattle.frame_wire.specs.Frames.{frame, stream_of, IsBody, IsPartial}
use Rattle.frame_wire.proofs.FieldLaws.{u32_length}
use Rattle.frame_wire.proofs.Streams.{large_after, partial_begins}
use Rattle.command_fields.specs.declared.response.ResponseCode.{ResponseCode}
use Rattle.command_fields.specs.declared.response.ResponseCode.TheVariants as code
use Rattle.command_all.specs.declared.command.Command.{Command}
use Rattle.command_all.specs.declared.identity.Identity.{Identity}
use Rattle.command_all.specs.Reading.{AreSpelled}
use Rattle.command_all.proofs.Readings.{unspelt_after}
use Rattle.hub_terms.specs.Meaning.{HubMeaning, SeenLaws}
use Rattle.session_tables.specs.Beating.{seen_at}
use Rattle.session_tables.specs.Spelling.{all_frames}
use Rattle.session_tables.specs.declared.moments.Moments.{Moments}
use Rattle.session_tables.specs.declared.reply.Reply.{Reply}
use Rattle.session_tables.specs.declared.tables.SessionEnd.{SessionEnd}
use Rattle.session_tables.specs.declared.tables.Tables.{Tables}
use Rattle.session_core.specs.Feeding.{CommandStep, CommandSteps, Answered, Closing, Fed}
use Rattle.session_core.specs.Feeding as once
use Rattle.session_core.specs.Sessions.{SessionState, received_if, sent_if, comes, goes, Serves, feed_by, FeedGives}
use Rattle.session_core.specs.Joins.{Piece, all_bytes, AreFed, when, Timed, timed, Passes, StepsAt, AnsweredAt, ClosingAt, FedAt, FeedsJoin}
use Rattle.session_core.specs.Joins as timely
use Rattle.session_core.proofs.Standing.{closed_ends}
use Rattle.session_core.proofs.Wording.{frames_join}

-- ---- time passes

passes_same : (t : Tables) → Passes t t
passes_same t = record { moments = t.moments; interval = refl; same = refl }

passes_on : (a b c : Tables) → Passes a b → Passes b c → Passes a c
passes_on a b c p q = record {
  moments = q.moments;
  interval = q.interval ∙ ap (λ (x : Tables). x.moments.heartbeat) p.same ∙ p.interval;
  same = q.same ∙ ap (λ (x : Tables). record x { moments = q.moments }) p.same;
}

picks : (b : Bool) (x y : Moments) → x.heartbeat ≡ y.heartbeat → (cond b x y).heartbeat ≡ y.heartbeat
picks true x y e = e
picks false x y e = refl

received_interval : (bytes : List ℕ) (m : Moments) → (received_if bytes m).heartbeat ≡ m.heartbeat
received_interval [] m = refl
received_interval (b ∷ bs) m = refl

sent_interval : (bytes : List ℕ) (m : Moments) → (sent_if bytes m).heartbeat ≡ m.heartbeat
sent_interval [] m = refl
sent_interval (b ∷ bs) m = refl

comes_passes : (now : ℕ) (piece : List ℕ) (t : Tables) → Passes t (comes now piece t)
comes_passes now piece t = record {
  moments = received_if piece (seen_at now t.moments);
  interval = received_interval piece (seen_at now t.moments) ∙ picks (nat_lt t.moments.latest now) (record t.moments { latest = now }) t.moments refl;
  same = refl;
}

goes_passes : (bytes : List ℕ) (t t1 : Tables) → t1 ≡ goes bytes t → Passes t t1
goes_passes bytes t t1 is = record { moments = sent_if bytes t.moments; interval = sent_interval bytes t.moments; same = is }

passes_ended : (t t1 : Tables) → Passes t t1 → t1.ended ≡ t.ended
passes_ended t t1 p = ap (λ (x : Tables). x.ended) p.same

-- ---- steps

abbrev at_once : ℕ → List Command → List Timed
at_once now [] = []
at_once now (c ∷ cs) = record { now = now; command = c } ∷ at_once now cs

steps_later : {S : Type 0} (m : HubMeaning S) → SeenLaws m.seen → (who : Identity) (cs : List Timed) (old mid new : Tables) (said : List Reply) (h h0 h1 : S)
    → Passes old mid → m.seen.later h h0 → StepsAt m who mid cs said new h0 h1 → StepsAt m who old cs said new h h1
steps_later m laws who [] old mid new said h h0 h1 p l (is, q, goes) = (is, passes_on old mid new p q, laws.joins h h0 h1 l goes)
steps_later m laws who (c ∷ cs) old mid new said h h0 h1 p l (first, rest, ready, t, before, after, is, q, goes, step, more) =
    (first, rest, ready, t, before, after, is, passes_on old mid ready p q, laws.joins h h0 before l goes, step, more)

-- behind the last the hub goes on
steps_end : {S : Type 0} (m : HubMeaning S) → SeenLaws m.seen → (who : Identity) (cs : List Timed) (old new : Tables) (said : List Reply) (h0 h h1 : S)
    → StepsAt m who old cs said new h0 h → m.seen.later h h1 → StepsAt m who old cs said new h0 h1
steps_end m laws who [] old new said h0 h h1 (is, p, goes) l = (is, p, laws.joins h0 h h1 goes l)
steps_end m laws who (c ∷ cs) old new said h0 h h1 (first, rest, ready, t, before, after, is, p, goes, step, more) l =
    (first, rest, ready, t, before, after, is, p, goes, step, steps_end m laws who cs t new rest after h h1 more l)

-- those of one piece
steps_once : {S : Type 0} (m : HubMeaning S) → SeenLaws m.seen → (who : Identity) (now : ℕ) (cs : List Command) (old ready mid new : Tables) (said : List Reply) (h h0 h1 : S)
    → Passes old ready → m.seen.later h h0 → CommandSteps m who now ready cs said mid h0 h1 → Passes mid new → StepsAt m who old (at_once now cs) said new h h1
steps_once {S} m laws who now [] old ready mid new said h h0 h1 p l (is, stays, same) q =
    (is, passes_on old ready new p (subst (λ (t : Tables). Passes t new) stays q), subst (λ (x : S). m.seen.later h x) (sym same) l)
steps_once m laws who now (c ∷ cs) old ready mid new said h h0 h1 p l (first, rest, t, x, is, step, more) q =
    (first, rest, ready, t, h0, x, is, p, l, step, steps_once m laws who now cs t t mid new rest x x h1 (passes_same t) (laws.same x) more q)

steps_joined : {S : Type 0} (m : HubMeaning S) → SeenLaws m.seen → (who : Identity) (cs ds : List Timed) (old mid new : Tables) (first second : List Reply) (h0 h h1 : S)
    → StepsAt m who old cs first mid h0 h → StepsAt m who mid ds second new h h1 → StepsAt m who old (cs ++ ds) (first ++ second) new h0 h1
steps_joined {S} m laws who [] ds old mid new first second h0 h h1 (is, p, goes) two =
    subst (λ (said : List Reply). StepsAt m who old ds said new h0 h1) (ap (λ (x : List Reply). x ++ second) (sym is)) (steps_later m laws who ds old mid new second h0 h h1 p goes two)
steps_joined m laws who (c ∷ cs) ds old mid new first second h0 h h1 (said, rest, ready, t, before, after, is, p, goes, step, more) two =
    (said, rest ++ second, ready, t, before, after, ap (λ (y : List Reply). y ++ second) is ∙ append_assoc said rest second, p, goes, step, steps_joined m laws who cs ds t mid new rest second after h h1 more two)

-- ---- the moments of frames

frame_long : (body : List ℕ) → length (frame body) ≡ 4 + length body
frame_long body = omega (arith, length-append (u32_bytes (length body)) body, u32_length (length body))

frames_long : (body : List ℕ) (bodies : List (List ℕ)) → length (flat_map frame (body ∷ bodies)) ≡ length (frame body) + length (flat_map frame bodies)
frames_long body bodies = length-append (frame body) (flat_map frame bodies)

when_here : (p : Piece) (ps : List Piece) (count : ℕ) → count ≤ length p.bytes → when (p ∷ ps) count ≡ p.now
when_here p ps count le = grind arith

when_past : (p : Piece) (ps : List Piece) (count : ℕ) → length p.bytes < count → when (p ∷ ps) count ≡ when ps (count - length p.bytes)
when_past p ps count lt = grind arith

-- frames that the first piece completes
timed_here : (p : Piece) (ps : List Piece) (before at : ℕ) (bodies : List (List ℕ)) (commands : List Command)
    → AreSpelled bodies commands → at + length (flat_map frame bodies) ≤ before + length p.bytes → timed (p ∷ ps) before at bodies commands ≡ at_once p.now commands
timed_here p ps before at [] [] are le = refl
timed_here p ps before at [] (c ∷ cs) are le = absurd are
timed_here p ps before at (b ∷ bs) [] are le = absurd are
timed_here p ps before at (b ∷ bs) (c ∷ cs) are le =
    let long = frames_long b bs in
    let head : when (p ∷ ps) ((at + length (frame b)) - before) ≡ p.now = when_here p ps ((at + length (frame b)) - before) (omega (arith, le, long)) in
    let tail = timed_here p ps before (at + length (frame b)) bs cs are.1 (omega (arith, le, long)) in
    ap (λ (n : ℕ). record { now = n; command = c } ∷ timed (p ∷ ps) before (at + length (frame b)) bs cs) head ∙ ap (λ (ts : List Timed). record { now = p.now; command = c } ∷ ts) tail

-- the first of these frames, where there is one, ends behind so many bytes
abbrev EndsBehind : ℕ → ℕ → List (List ℕ) → Type 0
EndsBehind after at [] = Unit {0}
EndsBehind after at (b ∷ bs) = after < at + length (frame b)

ends_on : (after at : ℕ) (b : List ℕ) (bs : List (List ℕ)) → after < at + length (frame b) → EndsBehind after (at + length (frame b)) bs
ends_on after at b [] lt = tt
ends_on after at b (c ∷ cs) lt = omega (arith, lt, frame_long c)

-- frames that later pieces complete
timed_later : (p : Piece) (ps : List Piece) (before after front at : ℕ) (bodies : List (List ℕ)) (commands : List Command)
    → AreSpelled bodies commands → front + after ≡ before + length p.bytes → EndsBehind after at bodies → timed (p ∷ ps) before (front + at) bodies commands ≡ timed ps after at bodies commands
timed_later p ps before after front at [] [] are same far = refl
timed_later p ps before after front at [] (c ∷ cs) are same far = absurd are
timed_later p ps before after front at (b ∷ bs) [] are same far = absurd are
timed_later p ps before after front at (b ∷ bs) (c ∷ cs) are same far =
    let place : (front + at) + length (frame b) ≡ front + (at + length (frame b)) = omega arith in
    let count : ((front + at) + length (frame b)) - before ≡ length p.bytes + ((at + length (frame b)) - after) = omega (arith, same, far) in
    let left : (length p.bytes + ((at + length (frame b)) - after)) - length p.bytes ≡ (at + length (frame b)) - after = omega arith in
    let head : when (p ∷ ps) (((front + at) + length (frame b)) - before) ≡ when ps ((at + length (frame b)) - after) =
    ap (when (p ∷ ps)) count ∙ when_past p ps (length p.bytes + ((at + length (frame b)) - after)) (omega (arith, far)) ∙ ap (when ps) left in
    let tail : timed (p ∷ ps) before ((front + at) + length (frame b)) bs cs ≡ timed ps after (at + length (frame b)) bs cs =
    ap (λ (n : ℕ). timed (p ∷ ps) before n bs cs) place ∙ timed_later p ps before after front (at + length (frame b)) bs cs are.1 same (ends_on after at b bs far) in
    ap (λ (n : ℕ). record { now = n; command = c } ∷ timed (p ∷ ps) before ((front + at) + length (frame b)) bs cs) head ∙ ap (λ (ts : List Timed). record { now = when ps ((at + length (frame b)) - after); command = c } ∷ ts) tail

timed_joined : (pieces : List Piece) (before at : ℕ) (fs gs : List (List ℕ)) (cs ds : List Command)
    → AreSpelled fs cs → timed pieces before at (fs ++ gs) (cs ++ ds) ≡ timed pieces before at fs cs ++ timed pieces before (at + length (flat_map frame fs)) gs ds
timed_joined pieces before at [] gs [] ds are = ap (λ (n : ℕ). timed pieces before n gs ds) (omega arith)
timed_joined pieces before at [] gs (c ∷ cs) ds are = absurd are
timed_joined pieces before at (f ∷ fs) gs [] ds are = absurd are
timed_joined pieces before at (f ∷ fs) gs (c ∷ cs) ds are =
    let long = frames_long f fs in
    let place : (at + length (frame f)) + length (flat_map frame fs) ≡ at + length (flat_map frame (f ∷ fs)) = omega (arith, long) in
    let here : Timed = record { now = when pieces ((at + length (frame f)) - before); command = c } in
    ap (λ (ts : List Timed). here ∷ ts) (timed_joined pieces before (at + length (frame f)) fs gs cs ds are.1 ∙ ap (λ (n : ℕ). timed pieces before (at + length (frame f)) fs cs ++ timed pieces before n gs ds) place)

spelled_both : (fs gs : List (List ℕ)) (cs ds : List Command) → AreSpelled fs cs → AreSpelled gs ds → AreSpelled (fs ++ gs) (cs ++ ds)
spelled_both [] gs [] ds one two = two
spelled_both [] gs (c ∷ cs) ds one two = absurd one
spelled_both (f ∷ fs) gs [] ds one two = absurd one
spelled_both (f ∷ fs) gs (c ∷ cs) ds one two = (one.0, spelled_both fs gs cs ds one.1 two)

-- ---- what is left of a piece is less than a frame

begins : (rest more body left : List ℕ) → rest ++ more ≡ frame body ++ left → length (frame body) ≤ length rest → rest ≡ frame body ++ drop (length (frame body)) rest
begins rest more body left e le =
    let front : take (length (frame body)) rest ≡ frame body =
    sym (take-append-le (length (frame body)) rest more le) ∙ ap (take (length (frame body))) e ∙ take-append_seam (frame body) left in
    sym (take-append-drop (length (frame body)) rest) ∙ ap (λ (x : List ℕ). x ++ drop (length (frame body)) rest) front

past_by : (rest more body left : List ℕ) → IsPartial 1048576 rest → IsBody 1048576 body → rest ++ more ≡ frame body ++ left → (length rest < length (frame body)) ⊎ (length (frame body) ≤ length rest) → length rest < length (frame body)
past_by rest more body left partial fits e (inl lt) = lt
past_by rest more body left partial fits e (inr le) =
    absurd (partial_begins 1048576 1048576 (omega arith) rest partial (record { body = body; more = drop (length (frame body)) rest; fits = fits; framed = begins rest more body left e le }))

frame_past : (rest more body left : List ℕ) → IsPartial 1048576 rest → IsBody 1048576 body → rest ++ more ≡ frame body ++ left → length rest < length (frame body)
frame_past rest more body left partial fits e = past_by rest more body left partial fits e (cases_lt (length rest) (length (frame body)))

ends_past : (rest more : List ℕ) (bodies : List (List ℕ)) (left : List ℕ) → IsPartial 1048576 rest → All (IsBody 1048576) bodies → rest ++ more ≡ stream_of bodies left → EndsBehind (length rest) 0 bodies
ends_past rest more [] left partial each e = tt
ends_past rest more (b ∷ bs) left partial each e =
    let lt = frame_past rest more b (flat_map frame bs ++ left) partial (All-head (IsBody 1048576) b bs each) (e ∙ append_assoc (frame b) (flat_map frame bs) left) in omega (arith, lt)

-- ---- the first piece

-- what is answered of the first piece, where nothing more is
first_alone : {S : Type 0} (m : HubMeaning S) → SeenLaws m.seen → (who : Identity) (max : ℕ) (before : List ℕ) (p : Piece) (ps : List Piece) (old mid new : Tables) (said : List Reply) (rest : List ℕ) (g h0 h1 : S)
    → m.seen.later g h0 → Answered m who p.now max (before ++ p.bytes) (comes p.now p.bytes old) said mid rest h0 h1 → Passes mid new → AnsweredAt m who max before (p ∷ ps) old said new (rest ++ all_bytes ps) g h1
first_alone m laws who max before p ps old mid new said rest g h0 h1 l a passes =
    let all_long = length-append before p.bytes in
    let cut_long = length-append (flat_map frame a.bodies) rest in
    let same : length (before ++ p.bytes) ≡ length (flat_map frame a.bodies ++ rest) = ap length a.whole in
    let steps = steps_once m laws who p.now a.commands old (comes p.now p.bytes old) mid new said g h0 h1 (comes_passes p.now p.bytes old) l a.steps passes in
    record {
      bodies = a.bodies;
      commands = a.commands;
      whole = sym (append_assoc before p.bytes (all_bytes ps)) ∙ ap (λ (x : List ℕ). x ++ all_bytes ps) a.whole ∙ append_assoc (flat_map frame a.bodies) rest (all_bytes ps);
      each = a.each;
      spelled = a.spelled;
      steps = subst (λ (ts : List Timed). StepsAt m who old ts said new g h1) (sym (timed_here p ps (length before) 0 a.bodies a.commands a.spelled (omega (arith, all_long, cut_long, same)))) steps;
    }

-- and where the session stands, with what is answered of the others
first_then : {S : Type 0} (m : HubMeaning S) → SeenLaws m.seen → (who : Identity) (before : List ℕ) (p : Piece) (ps : List Piece) (old mid ready new : Tables) (first second : List Reply) (rest left : List ℕ) (g h0 h h1 : S)
    → m.seen.later g h0 → IsPartial 1048576 rest → Answered m who p.now 1048576 (before ++ p.bytes) (comes p.now p.bytes old) first mid rest h0 h → Passes mid ready
    → AnsweredAt m who 1048576 rest ps ready second new left h h1 → AnsweredAt m who 1048576 before (p ∷ ps) old (first ++ second) new left g h1
first_then m laws who before p ps old mid ready new first second rest left g h0 h h1 l partial a passes b =
    let all_long = length-append before p.bytes in
    let cut_long = length-append (flat_map frame a.bodies) rest in
    let same : length (before ++ p.bytes) ≡ length (flat_map frame a.bodies ++ rest) = ap length a.whole in
    let steps = steps_once m laws who p.now a.commands old (comes p.now p.bytes old) mid ready first g h0 h (comes_passes p.now p.bytes old) l a.steps passes in
    let here = timed_here p ps (length before) 0 a.bodies a.commands a.spelled (omega (arith, all_long, cut_long, same)) in
    let far = ends_past rest (all_bytes ps) b.bodies left partial b.each b.whole in
    let place : 0 + length (flat_map frame a.bodies) ≡ length (flat_map frame a.bodies) + 0 = omega arith in
    let later = ap (λ (n : ℕ). timed (p ∷ ps) (length before) n b.bodies b.commands) place
    ∙ timed_later p ps (length before) (length rest) (length (flat_map frame a.bodies)) 0 b.bodies b.commands b.spelled (omega (arith, all_long, cut_long, same)) far in
    let times : timed (p ∷ ps) (length before) 0 (a.bodies ++ b.bodies) (a.commands ++ b.commands) ≡ at_once p.now a.commands ++ timed ps (length rest) 0 b.bodies b.commands =
    timed_joined (p ∷ ps) (length before) 0 a.bodies b.bodies a.commands b.commands a.spelled
    ∙ ap (λ (ts : List Timed). ts ++ timed (p ∷ ps) (length before) (0 + length (flat_map frame a.bodies)) b.bodies b.commands) here
    ∙ ap (λ (ts : List Timed). at_once p.now a.commands ++ ts) later in
    record {
      bodies = a.bodies ++ b.bodies;
      commands = a.commands ++ b.commands;
      whole = sym (append_assoc before p.bytes (all_bytes ps)) ∙ ap (λ (x : List ℕ). x ++ all_bytes ps) a.whole ∙ append_assoc (flat_map frame a.bodies) rest (all_bytes ps)
          ∙ ap (λ (x : List ℕ). flat_map frame a.bodies ++ x) b.whole ∙ sym (append_assoc (flat_map frame a.bodies) (flat_map frame b.bodies) left) ∙ ap (λ (x : List ℕ). x ++ left) (sym (flat_map-append frame a.bodies b.bodies));
      each = All-append (IsBody 1048576) a.bodies b.bodies a.each b.each;
      spelled = spelled_both a.bodies b.bodies a.commands b.commands a.spelled b.spelled;
      steps = subst (λ (ts : List Timed). StepsAt m who old ts (first ++ second) new g h1) (sym times)
          (steps_joined m laws who (at_once p.now a.commands) (timed ps (length rest) 0 b.bodies b.commands) old ready new first second g h h1 steps b.steps);
    }

closing_alone : {S : Type 0} (m : HubMeaning S) → SeenLaws m.seen → (who : Identity) (max : ℕ) (before : List ℕ) (p : Piece) (ps : List Piece) (old mid new : Tables) (response : ResponseCode) (said : List Reply) (rest : List ℕ) (g h0 h1 : S)
    → m.seen.later g h0 → Closing m who p.now max (before ++ p.bytes) (comes p.now p.bytes old) response said mid rest h0 h1 → Passes mid new → ClosingAt m who max before (p ∷ ps) old response said new (rest ++ all_bytes ps) g h1
closing_alone m laws who max before p ps old mid new response said rest g h0 h1 l c passes = record {
  first = c.before;
  mid = c.mid;
  last = mid;
  answered = first_alone m laws who max before p ps old c.mid c.mid c.before rest g h0 h1 l c.answered (passes_same c.mid);
  stands = c.stands;
  reply = c.reply;
  closes = c.closes;
  passes = passes;
  said_is = c.said_is;
}

closing_then : {S : Type 0} (m : HubMeaning S) → SeenLaws m.seen → (who : Identity) (before : List ℕ) (p : Piece) (ps : List Piece) (old mid ready new : Tables) (response : ResponseCode) (first second : List Reply) (rest left : List ℕ) (g h0 h h1 : S)
    → m.seen.later g h0 → IsPartial 1048576 rest → Answered m who p.now 1048576 (before ++ p.bytes) (comes p.now p.bytes old) first mid rest h0 h → Passes mid ready
    → ClosingAt m who 1048576 rest ps ready response second new left h h1 → ClosingAt m who 1048576 before (p ∷ ps) old response (first ++ second) new left g h1
closing_then m laws who before p ps old mid ready new response first second rest left g h0 h h1 l partial a passes c = record {
  first = first ++ c.first;
  mid = c.mid;
  last = c.last;
  answered = first_then m laws who before p ps old mid ready c.mid first c.first rest left g h0 h h1 l partial a passes c.answered;
  stands = c.stands;
  reply = c.reply;
  closes = c.closes;
  passes = c.passes;
  said_is = ap (λ (x : List Reply). first ++ x) c.said_is ∙ sym (append_assoc first c.first (c.reply ∷ []));
}

fed_then : {S : Type 0} (m : HubMeaning S) → SeenLaws m.seen → (who : Identity) (before : List ℕ) (p : Piece) (ps : List Piece) (old mid ready new : Tables) (first second : List Reply) (rest left : List ℕ) (g h0 h h1 : S)
    → m.seen.later g h0 → IsPartial 1048576 rest → Answered m who p.now 1048576 (before ++ p.bytes) (comes p.now p.bytes old) first mid rest h0 h → Passes mid ready
    → FedAt m who 1048576 rest ps ready second new left h h1 → FedAt m who 1048576 before (p ∷ ps) old (first ++ second) new left g h1
fed_then m laws who before p ps old mid ready new first second rest left g h0 h h1 l partial a passes (timely.Partly b stands last) =
    timely.Partly (first_then m laws who before p ps old mid ready new first second rest left g h0 h h1 l partial a passes b) stands last
fed_then m laws who before p ps old mid ready new first second rest left g h0 h h1 l partial a passes (timely.Ended b over) =
    timely.Ended (first_then m laws who before p ps old mid ready new first second rest left g h0 h h1 l partial a passes b) over
fed_then m laws who before p ps old mid ready new first second rest left g h0 h h1 l partial a passes (timely.Unspelt fault c begins) =
    timely.Unspelt fault (closing_then m laws who before p ps old mid ready new code.UnknownFrame first second rest left g h0 h h1 l partial a passes c) begins
fed_then m laws who before p ps old mid ready new first second rest left g h0 h h1 l partial a passes (timely.TooLarge size c large) =
    timely.TooLarge size (closing_then m laws who before p ps old mid ready new code.FrameTooLarge first second rest left g h0 h h1 l partial a passes c) large

-- ---- all pieces

pub record Joined {S : Type 0} (m : HubMeaning S) (who : Identity) (before : List ℕ) (pieces : List Piece) (old : Tables) (gave : List ℕ) (new : Tables) (h0 h1 : S) : Type 0 where
  pub said : List Reply
  pub rest : List ℕ
  pub frames : gave ≡ all_frames who said
  pub fed : FedAt m who 1048576 before pieces old said new rest h0 h1

-- a session that has ended does nothing more
over_by : {S : Type 0} (m : HubMeaning S) (p : Piece) (old : SessionState) (gave : List ℕ) (new : SessionState) (h0 h1 : S) (how : Option SessionEnd)
    → how ≢ None → feed_by m p.now p.bytes old gave new h0 h1 how → (gave ≡ []) × (new ≡ old) × (h1 ≡ h0)
over_by m p old gave new h0 h1 None over fed = absurd (over refl)
over_by m p old gave new h0 h1 (Some how) over fed = fed

over_stays : {S : Type 0} (m : HubMeaning S) → SeenLaws m.seen → (pieces : List Piece) (old : SessionState) (gave : List ℕ) (new : SessionState) (h0 h1 : S)
    → old.tables.ended ≢ None → AreFed m old pieces gave new h0 h1 → (gave ≡ []) × (new ≡ old) × m.seen.later h0 h1
over_stays m laws [] old gave new h0 h1 over fed = fed
over_stays {S} m laws (p ∷ ps) old gave new h0 h1 over (first, more, mid, before, after, is, goes, gives, fed) =
    let here = over_by m p old first mid before after old.tables.ended over gives in
    let still : mid.tables.ended ≢ None = λ none. over (sym (ap (λ (s : SessionState). s.tables.ended) here.1) ∙ none) in
    let later = over_stays m laws ps mid more new after h1 still fed in
    (is ∙ ap (λ (x : List ℕ). x ++ more) here.0 ∙ later.0, later.1 ∙ here.1, laws.joins h0 before h1 goes (subst (λ (x : S). m.seen.later x h1) here.2 later.2))

answered_end : {S : Type 0} (m : HubMeaning S) → SeenLaws m.seen → (who : Identity) (before : List ℕ) (pieces : List Piece) (old new : Tables) (said : List Reply) (rest : List ℕ) (h0 h h1 : S)
    → m.seen.later h h1 → AnsweredAt m who 1048576 before pieces old said new rest h0 h → AnsweredAt m who 1048576 before pieces old said new rest h0 h1
answered_end m laws who before pieces old new said rest h0 h h1 l a = record {
  bodies = a.bodies;
  commands = a.commands;
  whole = a.whole;
  each = a.each;
  spelled = a.spelled;
  steps = steps_end m laws who (timed pieces (length before) 0 a.bodies a.commands) old new said h0 h h1 a.steps l;
}

closing_end : {S : Type 0} (m : HubMeaning S) → SeenLaws m.seen → (who : Identity) (before : List ℕ) (pieces : List Piece) (old new : Tables) (response : ResponseCode) (said : List Reply) (rest : List ℕ) (h0 h h1 : S)
    → m.seen.later h h1 → ClosingAt m who 1048576 before pieces old response said new rest h0 h → ClosingAt m who 1048576 before pieces old response said new rest h0 h1
closing_end m laws who before pieces old new response said rest h0 h h1 l c = record {
  first = c.first;
  mid = c.mid;
  last = c.last;
  answered = answered_end m laws who before pieces old c.mid c.first rest h0 h h1 l c.answered;
  stands = c.stands;
  reply = c.reply;
  closes = c.closes;
  passes = c.passes;
  said_is = c.said_is;
}

fed_end : {S : Type 0} (m : HubMeaning S) → SeenLaws m.seen → (who : Identity) (before : List ℕ) (pieces : List Piece) (old new : Tables) (said : List Reply) (rest : List ℕ) (h0 h h1 : S)
    → m.seen.later h h1 → FedAt m who 1048576 before pieces old said new rest h0 h → FedAt m who 1048576 before pieces old said new rest h0 h1
fed_end m laws who before pieces old new said rest h0 h h1 l (timely.Partly a stands last) = timely.Partly (answered_end m laws who before pieces old new said rest h0 h h1 l a) stands last
fed_end m laws who before pieces old new said rest h0 h h1 l (timely.Ended a over) = timely.Ended (answered_end m laws who before pieces old new said rest h0 h h1 l a) over
fed_end m laws who before pieces old new said rest h0 h h1 l (timely.Unspelt fault c begins) = timely.Unspelt fault (closing_end m laws who before pieces old new code.UnknownFrame said rest h0 h h1 l c) begins
fed_end m laws who before pieces old new said rest h0 h h1 l (timely.TooLarge size c large) = timely.TooLarge size (closing_end m laws who before pieces old new code.FrameTooLarge said rest h0 h h1 l c) large

ended_joined : {S : Type 0} (m : HubMeaning S) → SeenLaws m.seen → (who : Identity) (before : List ℕ) (pieces : List Piece) (old mid new : Tables) (first more : List ℕ) (said : List Reply) (rest : List ℕ) (h0 h h1 : S)
    → first ≡ all_frames who said → (more ≡ []) × (new ≡ mid) × m.seen.later h h1 → FedAt m who 1048576 before pieces old said mid rest h0 h → Joined m who before pieces old (first ++ more) new h0 h1
ended_joined {S} m laws who before pieces old mid new first more said rest h0 h h1 frames (none, same, l) fed = record {
  said = said;
  rest = rest;
  frames = ap (λ (x : List ℕ). first ++ x) none ∙ append-nil first ∙ frames;
  fed = fed_end m laws who before pieces old new said rest h0 h h1 l (subst (λ (t : Tables). FedAt m who 1048576 before pieces old said t rest h0 h) (sym same) fed);
}

-- what the first piece gave, and what came of the others
joined_first : {S : Type 0} (m : HubMeaning S) → SeenLaws m.seen → (who : Identity) (before : List ℕ) (p : Piece) (ps : List Piece) (old served mid new : Tables) (first more : List ℕ) (said : List Reply) (rest : List ℕ) (g h0 h h1 : S)
    → m.seen.later g h0 → Passes served mid → first ≡ all_frames who said
    → (mid.ended ≢ None → (more ≡ []) × (new ≡ mid) × m.seen.later h h1)
    → (mid.ended ≡ None → IsPartial 1048576 rest → Joined m who rest ps mid more new h h1)
    → Fed m who p.now 1048576 (before ++ p.bytes) (comes p.now p.bytes old) said served rest h0 h → Joined m who before (p ∷ ps) old (first ++ more) new g h1
joined_first {S} m laws who before p ps old served mid new first more said rest g h0 h h1 l passes frames stays next (once.Partly a stands partial) =
    let j = next (passes_ended served mid passes ∙ stands) partial in record {
      said = said ++ j.said;
      rest = j.rest;
      frames = ap (λ (x : List ℕ). x ++ more) frames ∙ ap (λ (x : List ℕ). all_frames who said ++ x) j.frames ∙ sym (frames_join who said j.said);
      fed = fed_then m laws who before p ps old served mid new said j.said rest j.rest g h0 h h1 l partial a passes j.fed;
    }
joined_first {S} m laws who before p ps old served mid new first more said rest g h0 h h1 l passes frames stays next (once.Ended a over) =
    let still : mid.ended ≢ None = λ none. over (sym (passes_ended served mid passes) ∙ none) in
    let end = stays still in
    let here : FedAt m who 1048576 before (p ∷ ps) old said mid (rest ++ all_bytes ps) g h = timely.Ended (first_alone m laws who 1048576 before p ps old served mid said rest g h0 h l a passes) still in
    ended_joined m laws who before (p ∷ ps) old mid new first more said (rest ++ all_bytes ps) g h h1 frames end here
joined_first {S} m laws who before p ps old served mid new first more said rest g h0 h h1 l passes frames stays next (once.Unspelt fault c begins) =
    let still : mid.ended ≢ None = λ none. closed_ends code.UnknownFrame c.mid served c.reply c.closes (sym (passes_ended served mid passes) ∙ none) in
    let end = stays still in
    let here : FedAt m who 1048576 before (p ∷ ps) old said mid (rest ++ all_bytes ps) g h =
    timely.Unspelt fault (closing_alone m laws who 1048576 before p ps old served mid code.UnknownFrame said rest g h0 h l c passes) (unspelt_after 1048576 rest (all_bytes ps) fault begins) in
    ended_joined m laws who before (p ∷ ps) old mid new first more said (rest ++ all_bytes ps) g h h1 frames end here
joined_first {S} m laws who before p ps old served mid new first more said rest g h0 h h1 l passes frames stays next (once.TooLarge size c large) =
    let still : mid.ended ≢ None = λ none. closed_ends code.FrameTooLarge c.mid served c.reply c.closes (sym (passes_ended served mid passes) ∙ none) in
    let end = stays still in
    let here : FedAt m who 1048576 before (p ∷ ps) old said mid (rest ++ all_bytes ps) g h =
    timely.TooLarge size (closing_alone m laws who 1048576 before p ps old served mid code.FrameTooLarge said rest g h0 h l c passes) (large_after 1048576 rest (all_bytes ps) size large) in
    ended_joined m laws who before (p ∷ ps) old mid new first more said (rest ++ all_bytes ps) g h h1 frames end here

none_fed : {S : Type 0} (m : HubMeaning S) (who : Identity) (before : List ℕ) (t : Tables) (h0 h1 : S) → m.seen.later h0 h1 → t.ended ≡ None → IsPartial 1048576 before → FedAt m who 1048576 before [] t [] t before h0 h1
none_fed m who before t h0 h1 l none partial =
    timely.Partly (record { bodies = []; commands = []; whole = append-nil before; each = All-nil (IsBody 1048576); spelled = tt; steps = (refl, passes_same t, l) }) none partial

stood : {S : Type 0} (m : HubMeaning S) (p : Piece) (old : SessionState) (first : List ℕ) (mid : SessionState) (h0 h : S)
    → old.tables.ended ≡ None → FeedGives m p.now p.bytes old first mid h0 h → (mid.who ≡ old.who) × Serves m old.who p.now p.bytes old.tables old.rest first mid.tables mid.rest h0 h
stood m p old first mid h0 h none gives = subst (λ (how : Option SessionEnd). feed_by m p.now p.bytes old first mid h0 h how) none gives

feeds_joined : {S : Type 0} (m : HubMeaning S) → SeenLaws m.seen → (pieces : List Piece) (old new : SessionState) (gave : List ℕ) (h0 h1 : S)
    → old.tables.ended ≡ None → IsPartial 1048576 old.rest → AreFed m old pieces gave new h0 h1 → Joined m old.who old.rest pieces old.tables gave new.tables h0 h1
feeds_joined {S} m laws [] old new gave h0 h1 none partial (is, same, goes) = record {
  said = [];
  rest = old.rest;
  frames = is;
  fed = subst (λ (s : SessionState). FedAt m old.who 1048576 old.rest [] old.tables [] s.tables old.rest h0 h1) (sym same) (none_fed m old.who old.rest old.tables h0 h1 goes none partial);
}
feeds_joined {S} m laws (p ∷ ps) old new gave h0 h1 none partial (first, more, mid, before, after, is, goes, gives, fed) =
    let s = stood m p old first mid before after none gives in
    let served = s.1 in
    let next : mid.tables.ended ≡ None → IsPartial 1048576 mid.rest → Joined m old.who mid.rest ps mid.tables more new.tables after h1 =
    λ stands left. subst (λ (who : Identity). Joined m who mid.rest ps mid.tables more new.tables after h1) s.0 (feeds_joined m laws ps mid new more after h1 stands left fed) in
    let stays : mid.tables.ended ≢ None → (more ≡ []) × (new.tables ≡ mid.tables) × m.seen.later after h1 =
    λ over. let end = over_stays m laws ps mid more new after h1 over fed in (end.0, ap (λ (x : SessionState). x.tables) end.1, end.2) in
    subst (λ (bytes : List ℕ). Joined m old.who old.rest (p ∷ ps) old.tables bytes new.tables h0 h1) (sym is)
    (joined_first m laws old.who old.rest p ps old.tables served.served mid.tables new.tables first more served.said mid.rest h0 before after h1 goes (goes_passes first served.served mid.tables served.noted) served.frames stays next served.fed)

pub feeds_join : {S : Type 0} (m : HubMeaning S) → SeenLaws m.seen → FeedsJoin m
feeds_join m laws old new pieces gave h0 h1 none partial fed = let j = feeds_joined m laws pieces old new gave h0 h1 none partial fed in (j.said, j.rest, j.frames, j.fed)
