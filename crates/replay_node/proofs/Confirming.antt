-- Each message that was given is confirmed in the end.
use Rattle.std.proofs.Common.{◌≡◌, ◌==◌, Bool, true, false, cond, not, ℕ, ◌⊎◌, List, [], ◌∷◌, ◌++◌, length, map, eq-eqb, refl, sym, ap, subst, ◌∙◌, append_assoc, arith, inl, inr}
use Rattle.replay_node.specs.declared.session.Offer.{Offer}
use Rattle.command_data.specs.declared.command.DataCommand.TheVariants.{PublishError}
use Rattle.replay_node.specs.Sessions.{refusals}
use Rattle.script_text.specs.declared.script.ScriptLine.{ScriptLine}
use Rattle.script_text.specs.declared.script.ScriptLine.TheVariants.{Create, Prepare, Give, Poll, Settle}
use Rattle.script_text.specs.declared.output.OutputLine.{OutputLine}
use Rattle.replay_node.specs.NodeState.{NodeState, new_node, LineGives, confirm_of, offers_of, offers_of_others, send}
use Rattle.std.proofs.lemmas.Grind.{flat_map-append}
use Rattle.replay_node.specs.Replays.{Answers}
use Rattle.replay_node.specs.Complete.{IsIn, all_outputs, given_settled_polled, GivenBehind, EachConfirmed}
use Rattle.replay_node.proofs.Commanding.{serve_own, serve_each}

in_left : {X : Type 0} (x : X) (xs ys : List X) → IsIn x xs → IsIn x (xs ++ ys)
in_left x [] ys h = absurd h
in_left x (y ∷ xs) ys (inl e) = inl e
in_left x (y ∷ xs) ys (inr h) = inr (in_left x xs ys h)

in_right : {X : Type 0} (x : X) (xs ys : List X) → IsIn x ys → IsIn x (xs ++ ys)
in_right x [] ys h = h
in_right x (y ∷ xs) ys h = inr (in_right x xs ys h)

in_map : {X Y : Type 0} (f : X → Y) (x : X) (xs : List X) → IsIn x xs → IsIn (f x) (map f xs)
in_map f x [] h = absurd h
in_map f x (y ∷ xs) (inl e) = inl (ap f e)
in_map f x (y ∷ xs) (inr h) = inr (in_map f x xs h)

-- a test picks it, or leaves it
picked : (x o : Offer) (c : ℕ) (b : Bool) (mine : List Offer) → (o.connection == c) ≡ b → x.connection ≡ c → x ≡ o → IsIn x (cond b (o ∷ mine) mine)
picked x o c true mine is own same = inl same
picked x o c false mine is own same = let here : (o.connection == c) ≡ true = eq-eqb o.connection c (ap (λ (p : Offer). p.connection) (sym same) ∙ own) in absurd cc

picked_more : (x o : Offer) (b : Bool) (mine : List Offer) → IsIn x mine → IsIn x (cond b (o ∷ mine) mine)
picked_more x o true mine h = inr h
picked_more x o false mine h = h

in_picked : (x : Offer) (c : ℕ) (offers : List Offer) → x.connection ≡ c → IsIn x offers → IsIn x (offers_of c offers)
in_picked x c [] own h = absurd h
in_picked x c (o ∷ offers) own (inl same) = picked x o c (o.connection == c) (offers_of c offers) refl own same
in_picked x c (o ∷ offers) own (inr h) = picked_more x o (o.connection == c) (offers_of c offers) (in_picked x c offers own h)

picked_or_left : (x o : Offer) (b : Bool) (mine others : List Offer) → (x ≡ o) ⊎ (IsIn x mine ⊎ IsIn x others) → IsIn x (cond b (o ∷ mine) mine) ⊎ IsIn x (cond (not b) (o ∷ others) others)
picked_or_left x o true mine others (inl same) = inl (inl same)
picked_or_left x o true mine others (inr (inl h)) = inl (inr h)
picked_or_left x o true mine others (inr (inr h)) = inr h
picked_or_left x o false mine others (inl same) = inr (inl same)
picked_or_left x o false mine others (inr (inl h)) = inl h
picked_or_left x o false mine others (inr (inr h)) = inr (inr h)

in_either : (x : Offer) (c : ℕ) (offers : List Offer) → IsIn x offers → IsIn x (offers_of c offers) ⊎ IsIn x (offers_of_others c offers)
in_either x c [] h = absurd h
in_either x c (o ∷ offers) (inl same) = picked_or_left x o (o.connection == c) (offers_of c offers) (offers_of_others c offers) (inl same)
in_either x c (o ∷ offers) (inr h) = picked_or_left x o (o.connection == c) (offers_of c offers) (offers_of_others c offers) (inr (in_either x c offers h))

-- an offer is not confirmed yet, or its confirm was written
abbrev Owed : Offer → NodeState → List OutputLine → Type 0
Owed x node written = IsIn x node.queued ⊎ (IsIn x node.unconfirmed ⊎ IsIn (confirm_of x) written)

-- it is committed, or its confirm was written
abbrev Due : Offer → NodeState → List OutputLine → Type 0
Due x node written = IsIn x node.unconfirmed ⊎ IsIn (confirm_of x) written

due_same : (x : Offer) (old new : NodeState) (written outputs : List OutputLine) → new.unconfirmed ≡ old.unconfirmed → Due x old written → Due x new (written ++ outputs)
due_same x old new written outputs same (inl h) = inl (subst (IsIn x) (sym same) h)
due_same x old new written outputs same (inr h) = inr (in_left (confirm_of x) written outputs h)

owed_same : (x : Offer) (old new : NodeState) (written outputs : List OutputLine) → new.queued ≡ old.queued → new.unconfirmed ≡ old.unconfirmed → Owed x old written → Owed x new (written ++ outputs)
owed_same x old new written outputs queue same (inl h) = inl (subst (IsIn x) (sym queue) h)
owed_same x old new written outputs queue same (inr h) = inr (due_same x old new written outputs same h)

due_polled : (x : Offer) (c : ℕ) (old new : NodeState) (written outputs : List OutputLine) → outputs ≡ map confirm_of (offers_of c old.unconfirmed) → new.unconfirmed ≡ offers_of_others c old.unconfirmed → Due x old written → Due x new (written ++ outputs)
due_polled x c old new written outputs is left (inr h) = inr (in_left (confirm_of x) written outputs h)
due_polled x c old new written outputs is left (inl h) =
    elim (in_either x c old.unconfirmed h) [
      | inl mine ↦ inr (in_right (confirm_of x) written outputs (subst (IsIn (confirm_of x)) (sym is) (in_map confirm_of x (offers_of c old.unconfirmed) mine)))
      | inr other ↦ inl (subst (IsIn x) (sym left) other)
    ]

due_settled : (x : Offer) (old new : NodeState) (written outputs : List OutputLine) → new.unconfirmed ≡ old.unconfirmed ++ old.queued → Owed x old written → Due x new (written ++ outputs)
due_settled x old new written outputs is (inl h) = inl (subst (IsIn x) (sym is) (in_right x old.unconfirmed old.queued h))
due_settled x old new written outputs is (inr (inl h)) = inl (subst (IsIn x) (sym is) (in_left x old.unconfirmed old.queued h))
due_settled x old new written outputs is (inr (inr h)) = inr (in_left (confirm_of x) written outputs h)

due_line : (x : Offer) (old new : NodeState) (line : ScriptLine) (outputs written : List OutputLine) → LineGives old line outputs new → Due x old written → Due x new (written ++ outputs)
due_line x old new (Create name) outputs written gives h = due_same x old new written outputs (ap (λ (n : NodeState). n.unconfirmed) gives.2) h
due_line x old new (Prepare connection name) outputs written gives h = due_same x old new written outputs (ap (λ (n : NodeState). n.unconfirmed) gives.6) h
due_line x old new (Give connection bytes) outputs written gives h = due_same x old new written outputs (ap (λ (n : NodeState). n.unconfirmed) gives.is) h
due_line x old new (Poll connection) outputs written gives h = due_polled x connection old new written outputs gives.1 (ap (λ (n : NodeState). n.unconfirmed) gives.2) h
due_line x old new (Settle stream) outputs written gives h = due_settled x old new written outputs (ap (λ (n : NodeState). n.unconfirmed) gives.4) (inr h)
due_line x old new other outputs written gives h = absurd gives

owed_polled : (x : Offer) (c : ℕ) (old new : NodeState) (written outputs : List OutputLine) → new.queued ≡ old.queued → outputs ≡ map confirm_of (offers_of c old.unconfirmed) → new.unconfirmed ≡ offers_of_others c old.unconfirmed → Owed x old written
    → Owed x new (written ++ outputs)
owed_polled x c old new written outputs queue is left (inl h) = inl (subst (IsIn x) (sym queue) h)
owed_polled x c old new written outputs queue is left (inr h) = inr (due_polled x c old new written outputs is left h)

owed_given : (x : Offer) (more : List Offer) (old new : NodeState) (written outputs : List OutputLine) → new.queued ≡ old.queued ++ more → new.unconfirmed ≡ old.unconfirmed → Owed x old written → Owed x new (written ++ outputs)
owed_given x more old new written outputs queue same (inl h) = inl (subst (IsIn x) (sym queue) (in_left x old.queued more h))
owed_given x more old new written outputs queue same (inr h) = inr (due_same x old new written outputs same h)

owed_line : (x : Offer) (old new : NodeState) (line : ScriptLine) (outputs written : List OutputLine) → LineGives old line outputs new → Owed x old written → Owed x new (written ++ outputs)
owed_line x old new (Create name) outputs written gives h = owed_same x old new written outputs (ap (λ (n : NodeState). n.queued) gives.2) (ap (λ (n : NodeState). n.unconfirmed) gives.2) h
owed_line x old new (Prepare connection name) outputs written gives h = owed_same x old new written outputs (ap (λ (n : NodeState). n.queued) gives.6) (ap (λ (n : NodeState). n.unconfirmed) gives.6) h
owed_line x old new (Give connection bytes) outputs written gives h =
    owed_given x gives.served.offers old new written outputs (ap (λ (n : NodeState). n.queued) gives.is) (ap (λ (n : NodeState). n.unconfirmed) gives.is) h
owed_line x old new (Poll connection) outputs written gives h =
    owed_polled x connection old new written outputs (ap (λ (n : NodeState). n.queued) gives.2) gives.1 (ap (λ (n : NodeState). n.unconfirmed) gives.2) h
owed_line x old new (Settle stream) outputs written gives h = inr (due_settled x old new written outputs (ap (λ (n : NodeState). n.unconfirmed) gives.4) h)
owed_line x old new other outputs written gives h = absurd gives

polled_due : (x : Offer) (old : NodeState) (outputs written : List OutputLine) → outputs ≡ map confirm_of (offers_of x.connection old.unconfirmed) → Due x old written → IsIn (confirm_of x) (written ++ outputs)
polled_due x old outputs written is (inl h) =
    in_right (confirm_of x) written outputs (subst (IsIn (confirm_of x)) (sym is) (in_map confirm_of x (offers_of x.connection old.unconfirmed) (in_picked x x.connection old.unconfirmed refl h)))
polled_due x old outputs written is (inr h) = in_left (confirm_of x) written outputs h

-- it is in all that was written by then
by_then : (x : OutputLine) (written o rest : List OutputLine) → IsIn x ((written ++ o) ++ rest) → IsIn x (written ++ (o ++ rest))
by_then x written o rest h = subst (IsIn x) (append_assoc written o rest) h

after_settle : (x : Offer) (mid new : NodeState) (later : List ScriptLine) (outs : List (List OutputLine)) (written : List OutputLine) → Due x mid written → Answers mid (later ++ Poll x.connection ∷ []) outs new → IsIn (confirm_of x) (written ++ all_outputs outs)
after_settle x mid new [] [] written due answers = absurd answers
after_settle x mid new [] (o ∷ outs) written due answers =
    by_then (confirm_of x) written o (all_outputs outs) (in_left (confirm_of x) (written ++ o) (all_outputs outs) (polled_due x mid o written answers.1.1 due))
after_settle x mid new (line ∷ later) [] written due answers = absurd answers
after_settle x mid new (line ∷ later) (o ∷ outs) written due answers =
    by_then (confirm_of x) written o (all_outputs outs) (after_settle x answers.0 new later outs (written ++ o) (due_line x mid answers.0 line o written answers.1 due) answers.2)

after_give : (stream : ℕ) (x : Offer) (mid new : NodeState) (between later : List ScriptLine) (outs : List (List OutputLine)) (written : List OutputLine) → Owed x mid written
    → Answers mid (between ++ Settle stream ∷ (later ++ Poll x.connection ∷ [])) outs new → IsIn (confirm_of x) (written ++ all_outputs outs)
after_give stream x mid new [] later [] written owed answers = absurd answers
after_give stream x mid new [] later (o ∷ outs) written owed answers =
    by_then (confirm_of x) written o (all_outputs outs)
    (after_settle x answers.0 new later outs (written ++ o) (due_settled x mid answers.0 written o (ap (λ (n : NodeState). n.unconfirmed) answers.1.4) owed) answers.2)
after_give stream x mid new (line ∷ between) later [] written owed answers = absurd answers
after_give stream x mid new (line ∷ between) later (o ∷ outs) written owed answers =
    by_then (confirm_of x) written o (all_outputs outs) (after_give stream x answers.0 new between later outs (written ++ o) (owed_line x mid answers.0 line o written answers.1 owed) answers.2)

-- what lines and then others gave
pub record IsSplit (old new : NodeState) (xs ys : List ScriptLine) (outs : List (List OutputLine)) : Type 0 where
  pub mid : NodeState
  pub front : List (List OutputLine)
  pub back : List (List OutputLine)
  pub parts : outs ≡ front ++ back
  pub len : length front ≡ length xs
  pub first : Answers old xs front mid
  pub second : Answers mid ys back new

split : (old new : NodeState) (xs ys : List ScriptLine) (outs : List (List OutputLine)) → Answers old (xs ++ ys) outs new → IsSplit old new xs ys outs
split old new [] ys outs answers = record { mid = old; front = []; back = outs; parts = refl; len = refl; first = refl; second = answers }
split old new (x ∷ xs) ys [] answers = absurd answers
split old new (x ∷ xs) ys (o ∷ outs) answers =
    let rest = split answers.0 new xs ys outs answers.2 in
    record {
      mid = rest.mid;
      front = o ∷ rest.front;
      back = rest.back;
      parts = ap (λ (l : List (List OutputLine)). o ∷ l) rest.parts;
      len = let len = rest.len in omega arith;
      first = (answers.0, answers.1, rest.first);
      second = rest.second;
    }

-- the first of some lines, and those behind it
pub record IsHead (old new : NodeState) (line : ScriptLine) (lines : List ScriptLine) (outs : List (List OutputLine)) : Type 0 where
  pub first : List OutputLine
  pub more : List (List OutputLine)
  pub parts : outs ≡ first ∷ more
  pub after : NodeState
  pub gives : LineGives old line first after
  pub rest : Answers after lines more new

head_of : (old new : NodeState) (line : ScriptLine) (lines : List ScriptLine) (outs : List (List OutputLine)) → Answers old (line ∷ lines) outs new → IsHead old new line lines outs
head_of old new line lines [] answers = absurd answers
head_of old new line lines (o ∷ outs) answers = record { first = o; more = outs; parts = refl; after = answers.0; gives = answers.1; rest = answers.2 }

outputs_parts : (front : List (List OutputLine)) (first : List OutputLine) (more : List (List OutputLine)) → all_outputs (front ++ first ∷ more) ≡ all_outputs front ++ (first ++ all_outputs more)
outputs_parts front first more = flat_map-append (λ (o : List OutputLine). o) front (first ∷ more)

pub each_confirmed : (node : NodeState) (lines : List ScriptLine) (outs : List (List OutputLine)) → Answers new_node lines outs node → EachConfirmed lines outs
each_confirmed node lines outs answers before between later after c stream bytes e =
    let upto : List ScriptLine = given_settled_polled before c bytes between stream later in
    let behind : List ScriptLine = between ++ Settle stream ∷ (later ++ Poll c ∷ []) in
    let parts = split new_node node upto after outs (subst (λ (l : List ScriptLine). Answers new_node l outs node) e answers) in
    let halves = split new_node parts.mid before (Give c bytes ∷ behind) parts.front parts.first in
    let step = head_of halves.mid parts.mid (Give c bytes) behind halves.back halves.second in
    let whole : outs ≡ halves.front ++ step.first ∷ (step.more ++ parts.back) =
    parts.parts ∙ ap (λ (l : List (List OutputLine)). l ++ parts.back) (halves.parts ∙ ap (λ (l : List (List OutputLine)). halves.front ++ l) step.parts) ∙ append_assoc halves.front (step.first ∷ step.more) parts.back in
    let given : GivenBehind before c bytes outs = record { first = halves.front; node = halves.mid; run = halves.first; answers = step.first; after = step.after; gives = step.gives; more = step.more ++ parts.back; parts = whole } in
    let written : all_outputs parts.front ≡ all_outputs halves.front ++ (step.first ++ all_outputs step.more) =
    ap all_outputs (halves.parts ∙ ap (λ (l : List (List OutputLine)). halves.front ++ l) step.parts) ∙ outputs_parts halves.front step.first step.more in
    let each = λ (x : Offer) (taken : IsIn x step.gives.served.offers).
    (let own : x.connection ≡ c = serve_own c step.gives.stream step.gives.link.publishers step.gives.commands step.gives.served step.gives.serves x taken in
    let held : IsIn x step.after.queued = subst (IsIn x) (sym (ap (λ (n : NodeState). n.queued) step.gives.is)) (in_right x halves.mid.queued step.gives.served.offers taken) in
    let rest : Answers step.after (between ++ Settle stream ∷ (later ++ Poll x.connection ∷ [])) step.more parts.mid =
    subst (λ (n : ℕ). Answers step.after (between ++ Settle stream ∷ (later ++ Poll n ∷ [])) step.more parts.mid) (sym own) step.rest in
    let confirmed : IsIn (confirm_of x) (step.first ++ all_outputs step.more) = after_give stream x step.after parts.mid between later step.more step.first (inl held) rest in
    let all : IsIn (confirm_of x) (all_outputs parts.front) = subst (IsIn (confirm_of x)) (sym written) (in_right (confirm_of x) (all_outputs halves.front) (step.first ++ all_outputs step.more) confirmed) in
    all) in (
      parts.front,
      parts.back,
      parts.parts,
      parts.len,
      given,
      λ publisher items read some.
          elim (serve_each c step.gives.stream step.gives.link.publishers step.gives.commands step.gives.served step.gives.serves publisher items read some) [
            | inl taken ↦ inl (each (record { connection = c; publisher = publisher; items = items }) taken)
            | inr refused ↦ inr (subst (IsIn (send c (PublishError publisher (refusals items)))) (sym step.gives.written) (in_map (send c) (PublishError publisher (refusals items)) step.gives.served.answers refused))
          ],
    )
