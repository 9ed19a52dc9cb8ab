-- The lines of a text, one after the other.
use Rattle.std.proofs.Common.{◌≡◌, ◌≢◌, ℕ, suc, ◌+◌, ◌<◌, ◌≤◌, ◌==◌, nat_lt, if◌then◌else◌, false, List, [], ◌∷◌, ◌++◌, length, drop, Result, Ok, Err, refl, sym, ap, subst, ◌∙◌, append_assoc, length-append, arith, inl, inr}
use Rattle.std.specs.List.{All, Contains, flat_map}
use Rattle.std.proofs.lemmas.Bool.{cases_eq, cases_lt}
use Rattle.std.proofs.lemmas.List.{append-nil, drop-append-le, drop_all, length-drop, flat_map_more}
use Rattle.std.proofs.lemmas.List.Concat.{flat_map-append}
use Rattle.std.proofs.lemmas.List.Elements.{All-nil, All-cons, All-head, All-tail, All-append, Contains-append_left, Contains-push}
use Rattle.script_text.specs.Words.{line_feed, Lacks}
use Rattle.client_terms.specs.States.{ClientState, last_id}
use Rattle.client_program.specs.Lines.{AreLines, with_feed, last_line, IsShortLine, filled, TakesLine, Queues, QueuesLines}
use Rattle.client_program.specs.declared.lines.LinesFault.{LinesFault}
use Rattle.client_program.specs.declared.lines.LinesFault.TheVariants.{TooLong, Memory}

-- what was queued so far: the whole lines of a front of the text, but for the first so many
pub record Queued (text rest : List ℕ) (number passed : ℕ) (old new : ClientState) : Type 0 where
  pub whole : List (List ℕ)
  pub parts : text ≡ flat_map with_feed whole ++ rest
  pub lack : All (Lacks line_feed) whole
  pub short : All IsShortLine whole
  pub new_is : new ≡ filled old (drop passed whole)
  pub count : number ≡ length whole + 1
  pub room : length whole + length rest ≤ length text

-- ---- lines

pub line_behind : (whole lines : List (List ℕ)) (text behind : List ℕ) → text ≡ flat_map with_feed whole ++ behind → All (Lacks line_feed) whole → AreLines behind lines → AreLines text (whole ++ lines)
line_behind whole lines text behind e lack are = record {
  whole = whole ++ are.whole;
  rest = are.rest;
  parts = e ∙ ap (λ (l : List ℕ). flat_map with_feed whole ++ l) are.parts ∙ sym (append_assoc (flat_map with_feed whole) (flat_map with_feed are.whole) are.rest) ∙ ap (λ (l : List ℕ). l ++ are.rest) (sym (flat_map-append with_feed whole are.whole));
  whole_lack = All-append (Lacks line_feed) whole are.whole lack are.whole_lack;
  rest_lacks = are.rest_lacks;
  is = ap (λ (l : List (List ℕ)). whole ++ l) are.is ∙ sym (append_assoc whole are.whole (last_line are.rest));
}

-- a text of one line without a feed, maybe of no byte
pub last_lines : (rest : List ℕ) → Lacks line_feed rest → AreLines rest (last_line rest)
last_lines rest lacks = record { whole = []; rest = rest; parts = refl; whole_lack = All-nil (Lacks line_feed); rest_lacks = lacks; is = refl }

-- a byte before a text
byte_before : (x : ℕ) (xs : List ℕ) → (whole : List (List ℕ)) (rest : List ℕ) → x ≢ line_feed → xs ≡ flat_map with_feed whole ++ rest → All (Lacks line_feed) whole → Lacks line_feed rest → (lines : List (List ℕ)) × AreLines (x ∷ xs) lines
byte_before x xs [] rest other e lack lacks =
    (last_line (x ∷ rest), record { whole = []; rest = x ∷ rest; parts = ap (λ (l : List ℕ). x ∷ l) e; whole_lack = lack; rest_lacks = All-cons (λ b. b ≢ line_feed) x rest other lacks; is = refl })
byte_before x xs (w ∷ ws) rest other e lack lacks = (
  ((x ∷ w) ∷ ws) ++ last_line rest,
  record {
    whole = (x ∷ w) ∷ ws;
    rest = rest;
    parts = ap (λ (l : List ℕ). x ∷ l) e;
    whole_lack = All-cons (Lacks line_feed) (x ∷ w) ws (All-cons (λ b. b ≢ line_feed) x w other (All-head (Lacks line_feed) w ws lack)) (All-tail (Lacks line_feed) w ws lack);
    rest_lacks = lacks;
    is = refl;
  },
)

feed_before : (x : ℕ) (xs : List ℕ) (lines : List (List ℕ)) → x ≡ line_feed → AreLines xs lines → AreLines (x ∷ xs) ([] ∷ lines)
feed_before x xs lines e are = record {
  whole = [] ∷ are.whole;
  rest = are.rest;
  parts = ap (λ (b : ℕ). b ∷ xs) e ∙ ap (λ (l : List ℕ). line_feed ∷ l) are.parts;
  whole_lack = All-cons (Lacks line_feed) [] are.whole (All-nil (λ b. b ≢ line_feed)) are.whole_lack;
  rest_lacks = are.rest_lacks;
  is = ap (λ (l : List (List ℕ)). [] ∷ l) are.is;
}

-- each text has lines
pub lines_exist : (text : List ℕ) → (lines : List (List ℕ)) × AreLines text lines
lines_exist [] = ([], last_lines [] (All-nil (λ b. b ≢ line_feed)))
lines_exist (x ∷ xs) =
    let more = lines_exist xs in
    elim (cases_eq x line_feed) [
      | inl e ↦ ([] ∷ more.0, feed_before x xs more.0 e more.1)
      | inr other ↦ byte_before x xs more.1.whole more.1.rest other more.1.parts more.1.whole_lack more.1.rest_lacks
    ]

-- a line behind others
pub drop_line : (passed : ℕ) (whole : List (List ℕ)) (line : List ℕ) → drop passed (whole ++ line ∷ []) ≡ drop passed whole ++ (if nat_lt passed (length whole + 1) then line ∷ [] else [])
drop_line passed whole line = elim (cases_lt passed (length whole + 1)) [
  | inl less ↦ grind (arith, drop-append-le passed whole (line ∷ []) (omega arith))
  | inr more ↦ grind (arith, drop_all passed whole (omega arith), drop_all passed (whole ++ line ∷ []) (omega (arith, length-append whole (line ∷ []))), append-nil (drop passed whole))
]

-- ---- queueing

queue_same : (s : ClientState) (a b : List (List ℕ)) → a ≡ b → filled s a ≡ filled s b
queue_same s a b e = ap (filled s) e

pub filled_none : (s : ClientState) → s ≡ filled s []
filled_none s = ap (λ (q : List (List ℕ)). record s { queue = q }) (sym (append-nil s.queue))

filled_more : (s : ClientState) (a b : List (List ℕ)) → filled (filled s a) b ≡ filled s (a ++ b)
filled_more s a b = ap (λ (q : List (List ℕ)). record s { queue = q }) (append_assoc s.queue a b)

pub queued_none : (text : List ℕ) (passed : ℕ) (s : ClientState) → Queued text text 1 passed s s
queued_none text passed s = record {
  whole = [];
  parts = refl;
  lack = All-nil (Lacks line_feed);
  short = All-nil IsShortLine;
  new_is = filled_none s ∙ queue_same s [] (drop passed []) (sym (drop_all passed [] (omega arith)));
  count = refl;
  room = omega arith;
}

-- a front of the text, and a line behind it
lines_then : (whole : List (List ℕ)) (text line more : List ℕ) → text ≡ flat_map with_feed whole ++ (line ++ line_feed ∷ more) → text ≡ flat_map with_feed (whole ++ line ∷ []) ++ more
lines_then whole text line more e =
    e
    ∙ ap (λ (l : List ℕ). flat_map with_feed whole ++ l) (sym (append_assoc line (line_feed ∷ []) more))
    ∙ sym (append_assoc (flat_map with_feed whole) (with_feed line) more)
    ∙ ap (λ (l : List ℕ). l ++ more) (flat_map_more with_feed [] whole line)

-- what taking a line did to what was queued
taken_line : (whole : List (List ℕ)) (line : List ℕ) (number passed : ℕ) (old mid new : ClientState) → mid ≡ filled old (drop passed whole) → number ≡ length whole + 1 → new ≡ filled mid (if nat_lt passed number then line ∷ [] else []) → new ≡ filled old (drop passed (whole ++ line ∷ []))
taken_line whole line number passed old mid new e count taken =
    taken
    ∙ ap (λ (n : ℕ). filled mid (if nat_lt passed n then line ∷ [] else [])) count
    ∙ ap (λ (s : ClientState). filled s (if nat_lt passed (length whole + 1) then line ∷ [] else [])) e
    ∙ filled_more old (drop passed whole) (if nat_lt passed (length whole + 1) then line ∷ [] else [])
    ∙ queue_same old _ _ (sym (drop_line passed whole line))

pub queued_line : (text rest line more : List ℕ) (number passed : ℕ) (old mid new : ClientState) → Queued text rest number passed old mid → rest ≡ line ++ line_feed ∷ more → Lacks line_feed line → TakesLine (Ok tt) line number passed mid new → Queued text more (number + 1) passed old new
queued_line text rest line more number passed old mid new q split lacks takes =
    let room = q.room in
    let count = q.count in
    record {
      whole = q.whole ++ line ∷ [];
      parts = lines_then q.whole text line more (q.parts ∙ ap (λ (l : List ℕ). flat_map with_feed q.whole ++ l) split);
      lack = All-append (Lacks line_feed) q.whole (line ∷ []) q.lack (All-cons (Lacks line_feed) line [] lacks (All-nil (Lacks line_feed)));
      short = All-append IsShortLine q.whole (line ∷ []) q.short (All-cons IsShortLine line [] takes.0 (All-nil IsShortLine));
      new_is = taken_line q.whole line number passed old mid new q.new_is q.count takes.1;
      count = omega (arith, length-append q.whole (line ∷ []));
      room = let len : length rest ≡ length line + suc (length more) = ap length split ∙ length-append line (line_feed ∷ more) in omega (arith, length-append q.whole (line ∷ []));
    }

-- a line that stopped it: the lines behind it are lines all the same
stops_at : (fault : LinesFault) (whole lines : List (List ℕ)) (line : List ℕ) (number passed : ℕ) (old mid new : ClientState) → Contains lines line → TakesLine (Err fault) line number passed mid new → Queues (Err fault) lines passed old new
stops_at TooLong whole lines line number passed old mid new has takes = (line, has, takes)
stops_at Memory whole lines line number passed old mid new has takes = tt

pub queued_stop : (fault : LinesFault) (text rest line more : List ℕ) (number passed : ℕ) (old mid new : ClientState) → Queued text rest number passed old mid → rest ≡ line ++ line_feed ∷ more → Lacks line_feed line → TakesLine (Err fault) line number passed mid new → QueuesLines (Err fault) text passed old new
queued_stop fault text rest line more number passed old mid new q split lacks takes =
    let behind = lines_exist more in
    record {
      lines = (q.whole ++ line ∷ []) ++ behind.0;
      are = line_behind (q.whole ++ line ∷ []) behind.0 text more (lines_then q.whole text line more (q.parts ∙ ap (λ (l : List ℕ). flat_map with_feed q.whole ++ l) split)) (All-append (Lacks line_feed) q.whole (line ∷ []) q.lack (All-cons (Lacks line_feed) line [] lacks (All-nil (Lacks line_feed)))) behind.1;
      by = stops_at fault q.whole _ line number passed old mid new (Contains-append_left (q.whole ++ line ∷ []) behind.0 line (Contains-push q.whole line)) takes;
    }

-- the text ends behind a line feed
pub queued_end : (text rest : List ℕ) (number passed : ℕ) (old new : ClientState) → Queued text rest number passed old new → rest ≡ [] → QueuesLines (Ok tt) text passed old new
queued_end text rest number passed old new q empty = record {
  lines = q.whole ++ [];
  are = line_behind q.whole [] text [] (q.parts ∙ ap (λ (l : List ℕ). flat_map with_feed q.whole ++ l) empty) q.lack (last_lines [] (All-nil (λ b. b ≢ line_feed)));
  by = subst (λ (l : List (List ℕ)). Queues (Ok tt) l passed old new) (sym (append-nil q.whole)) (q.short, q.new_is);
}

last_is : (rest : List ℕ) → (rest ≡ [] → ⊥) → last_line rest ≡ rest ∷ []
last_is [] some = absurd (some refl)
last_is (x ∷ xs) some = refl

-- it ends within a line
pub queued_last : (result : Result (Unit {0}) LinesFault) (text rest : List ℕ) (number passed : ℕ) (old mid new : ClientState) → Queued text rest number passed old mid → (rest ≡ [] → ⊥) → Lacks line_feed rest → TakesLine result rest number passed mid new → QueuesLines result text passed old new
queued_last (Ok u) text rest number passed old mid new q some lacks takes = record {
  lines = q.whole ++ last_line rest;
  are = line_behind q.whole (last_line rest) text rest q.parts q.lack (last_lines rest lacks);
  by = subst (λ (l : List (List ℕ)). Queues (Ok u) (q.whole ++ l) passed old new) (sym (last_is rest some))
      (All-append IsShortLine q.whole (rest ∷ []) q.short (All-cons IsShortLine rest [] takes.0 (All-nil IsShortLine)), taken_line q.whole rest number passed old mid new q.new_is q.count takes.1);
}
queued_last (Err fault) text rest number passed old mid new q some lacks takes = record {
  lines = q.whole ++ last_line rest;
  are = line_behind q.whole (last_line rest) text rest q.parts q.lack (last_lines rest lacks);
  by = stops_at fault q.whole _ rest number passed old mid new (subst (λ (l : List (List ℕ)). Contains (q.whole ++ l) rest) (sym (last_is rest some)) (Contains-push q.whole rest)) takes;
}

-- the id of the next message is the number of its line
pub next_is : (text rest : List ℕ) (number passed : ℕ) (old new : ClientState) → Queued text rest number passed old new → last_id old ≡ passed → passed < number → last_id new + 1 ≡ number
next_is text rest number passed old new q last less =
    let count = q.count in
    let ids : last_id new ≡ old.confirmed + length (old.queue ++ drop passed q.whole) = ap last_id q.new_is in
    omega (arith, length-append old.queue (drop passed q.whole), length-drop passed q.whole)

pub queued_at : (text rest other : List ℕ) (number passed : ℕ) (old new : ClientState) → other ≡ rest → Queued text rest number passed old new → Queued text other number passed old new
queued_at text rest other number passed old new e q = subst (λ (r : List ℕ). Queued text r number passed old new) (sym e) q

pub not_empty : (rest : List ℕ) → false ≡ (length rest == 0) → rest ≡ [] → ⊥
not_empty [] e same = absurd cc
not_empty (x ∷ xs) e same = absurd cc
