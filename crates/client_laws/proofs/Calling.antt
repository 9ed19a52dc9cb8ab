-- What the client does keeps it.
use Rattle.std.proofs.Common.{true, false, ◌≡◌, ◌⊎◌, ℕ, ◌+◌, ◌-◌, ◌<◌, ◌≤◌, List, [], ◌∷◌, ◌++◌, length, drop, Option, Some, None, refl, sym, ap, subst, ◌∙◌, inl, inr, append_assoc, arith}
use Rattle.std.specs.List.{AllByRecursion}
use Rattle.std.proofs.lemmas.List.{append-nil, length-append}
use Rattle.command_fields.specs.declared.offset.OffsetSpec.{OffsetSpec}
use Rattle.command_data.specs.declared.item.Tagged.{Tagged}
use Rattle.command_data.specs.declared.command.DataCommand.TheVariants as data_commands
use Rattle.command_all.specs.declared.command.Command.{Command}
use Rattle.command_all.specs.declared.command.Command.TheVariants.{Data}
use Rattle.client_terms.specs.declared.fault.ClientFault.{ClientFault}
use Rattle.client_terms.specs.declared.terms.Request.{Request}
use Rattle.client_terms.specs.declared.terms.Request.TheVariants as requests
use Rattle.client_terms.specs.declared.terms.Stage.TheVariants.{Away}
use Rattle.client_terms.specs.States.{Awaited, ClientState, IsWithin, IsConfirmed, last_id, unlinked, linked, next_corr}
use Rattle.client_terms.specs.Sending.{Next, nothing, credit, tunes, asks, publishes, due, frame_of_request, frame_due, behind, message}
use Rattle.client_terms.specs.Hearing.{Meaning, passes, fails, confirms, delivers, Frame, confirm, frame_of, means, IsIn, LearnStep, HearsBy}
use Rattle.client_terms.specs.Steps.{Input, enqueues, creates, queries, subscribes, connects, loses, sends, hears, faults, takes, ClientStep}
use Rattle.list_machine.specs.Items.{Rises}
use Rattle.list_machine.specs.Streams.{Declaration, Stream, items_of}
use Rattle.list_machine.specs.Machines.{put}
use Rattle.list_machine.specs.Discipline.{IsConfirmed as WasConfirmed}
use Rattle.list_machine.proofs.Lists.{all_weaker, all_append, rises_push}
use Rattle.client_laws.specs.Worlds.{World, numbered, IsUnused, IsTrueFrame, IsTrueInput, queued, frames_of, CallStep, ConnectStep, Kept, restarted}
use Rattle.client_laws.proofs.Lists.{numbered_append, numbered_between, Within, within, drop_front, at_put, at_both}
use Rattle.client_laws.proofs.Alike.{Of}
use Rattle.client_laws.proofs.Pipes.{published_in, published, IsAsk, NoAsks, Plain, AskFits, AllPlain, published_append, no_asks_append, plain_publish_none, plain_no_asks, fits_sent, fits_plain, fits_asked}
use Rattle.client_laws.proofs.Inputs.{Resting, AsksName, IsAsked, Gentle, IsFree, PublishFits, DueFits, due_fits, MeaningFits, gentle_self, frame_fits, request_plain}
use Rattle.client_laws.proofs.Holding.{History, Stood, PipeFits, DeclFits, Ours, Sending, Unasked, Linking, LineFits, Holds, changed_at}

-- ---- plain frames are sent

sent_decl : (name : List ℕ) (h : History) (frames more : List Command) (d : Declaration) → published more ≡ [] → DeclFits name h frames d → DeclFits name h (frames ++ more) d
sent_decl name h frames more d none q =
    record { later = q.later; sent_is = q.sent_is; unread_is = λ t. ap (λ (l : List Tagged). items_of d ++ l) (published_append frames more ∙ ap (λ (l : List Tagged). published frames ++ l) none ∙ append-nil (published frames)) ∙ q.unread_is t; known_is = q.known_is }

sent_unasked : (name : List ℕ) (c : ℕ) (ds : List Declaration) (frames more : List Command) → NoAsks name more → NoAsks name frames ⊎ IsUnused name c ds → NoAsks name (frames ++ more) ⊎ IsUnused name c ds
sent_unasked name c ds frames more n (inl h) = inl (no_asks_append name frames more h n)
sent_unasked name c ds frames more n (inr u) = inr u

sent_line : (name : List ℕ) (s : ClientState) (front : List Tagged) (ds : List Declaration) (h : History) (frames more : List Command) (line : ℕ) → AllPlain name more → LineFits name s front ds h frames line → LineFits name s front ds h (frames ++ more) line
sent_line name s front ds h frames more line p (inl r) = inl r
sent_line name s front ds h frames more line p (inr l) = inr record {
  sending = l.sending;
  asked = elim l.asked [
    | inl a ↦ inl a
    | inr u ↦ inr record { plain = all_append (Plain name) frames more u.plain p; none_sent = u.none_sent; unused = u.unused }
  ];
}

plain_keeps : (name : List ℕ) (w : World) (more : List Command) → AllPlain name more → Holds name w → Holds name (record w { unread = put w.line (w.unread w.line ++ more) w.unread })
plain_keeps name w more p h = record {
  named = h.named;
  front = h.front;
  is = h.is;
  below = h.below;
  stood = h.stood;
  rises = h.rises;
  above = h.above;
  history = h.history;
  pipes = h.pipes;
  asks_fit = λ k. changed_at (λ (k : ℕ) (u : List Command). AskFits name (h.history k).sent u) w.unread w.line _ (fits_plain name (h.history w.line).sent (w.unread w.line) more p) k (h.asks_fit k);
  unasked = λ k. changed_at (λ (k : ℕ) (u : List Command). NoAsks name u ⊎ IsUnused name k w.stream.declarations) w.unread w.line _
      (sent_unasked name w.line w.stream.declarations (w.unread w.line) more (plain_no_asks name more p)) k (h.unasked k);
  declarations = all_weaker (Of name (Ours name h.history w.unread)) (Of name (Ours name h.history (put w.line (w.unread w.line ++ more) w.unread)))
      (λ d q is. changed_at (λ (k : ℕ) (u : List Command). DeclFits name (h.history k) u d) w.unread w.line _ (sent_decl name (h.history w.line) (w.unread w.line) more d (plain_publish_none name more p)) d.connection (q is))
      w.stream.declarations h.declarations;
  apart = h.apart;
  line = changed_at (λ (k : ℕ) (u : List Command). LineFits name w.client h.front w.stream.declarations (h.history k) u k) w.unread w.line _
      (sent_line name w.client h.front w.stream.declarations (h.history w.line) (w.unread w.line) more w.line p) w.line h.line;
}

-- ---- nothing of the publishing changes

sending_same : (n m : ℕ) (queue kept : List (List ℕ)) (last end : ℕ) (front : List Tagged) (h : History) → m ≡ n → kept ≡ queue → end ≡ last → Sending n queue last front h → Sending m kept end front h
sending_same n m queue kept last end front h a b c s = record {
  ahead = s.ahead;
  rest = s.rest;
  queued_is = b ∙ s.queued_is;
  place_is = (let e = s.place_is in omega (arith, a, c, e));
  run = ap (λ (k : ℕ). front ++ numbered k s.ahead) a ∙ s.run;
}

gentle_line : (name : List ℕ) (s kept : ClientState) (front : List Tagged) (ds : List Declaration) (h : History) (frames : List Command) (line : ℕ) → Gentle s kept → LineFits name s front ds h frames line → LineFits name kept front ds h frames line
gentle_line name s kept front ds h frames line g (inl r) = inl (g.rests r)
gentle_line name s kept front ds h frames line g (inr l) = inr record {
  sending = sending_same s.confirmed kept.confirmed s.queue kept.queue s.last kept.last front h g.confirmed_is g.queue_is g.last_is l.sending;
  asked = elim l.asked [
    | inl a ↦ inl (g.asked a)
    | inr u ↦ inr u
  ];
}

gentle_keeps : (name : List ℕ) (w : World) (kept : ClientState) → Gentle w.client kept → Holds name w → Holds name (record w { client = kept })
gentle_keeps name w kept g h = record {
  named = g.name_is ∙ h.named;
  front = h.front;
  is = h.is ∙ ap (λ (n : ℕ). h.front ++ numbered n w.client.queue) (sym g.confirmed_is) ∙ ap (λ (q : List (List ℕ)). h.front ++ numbered kept.confirmed q) (sym g.queue_is);
  below = subst (λ (n : ℕ). AllByRecursion (λ (x : Tagged). x.id ≤ n) h.front) (sym g.confirmed_is) h.below;
  stood = h.stood;
  rises = h.rises;
  above = λ id i. (let old = h.above id (subst (λ (a : _). IsWithin a id) g.above_is i) in (old.0, subst (λ (n : ℕ). id ≤ n) (sym g.last_is) old.1));
  history = h.history;
  pipes = h.pipes;
  asks_fit = h.asks_fit;
  unasked = h.unasked;
  declarations = h.declarations;
  apart = h.apart;
  line = gentle_line name w.client kept h.front w.stream.declarations (h.history w.line) (w.unread w.line) w.line g h.line;
}

-- ---- a message is queued

all_below : (front : List Tagged) (n : ℕ) (queue : List (List ℕ)) → AllByRecursion (λ (x : Tagged). x.id ≤ n) front → AllByRecursion (λ (x : Tagged). x.id < n + length queue + 1) (front ++ numbered n queue)
all_below front n queue below =
    all_append (λ (x : Tagged). x.id < n + length queue + 1) front (numbered n queue)
    (all_weaker (λ (x : Tagged). x.id ≤ n) (λ (x : Tagged). x.id < n + length queue + 1) (λ x b. omega (arith, b)) front below)
    (all_weaker (λ (x : Tagged). (n < x.id) × (x.id ≤ n + length queue)) (λ (x : Tagged). x.id < n + length queue + 1) (λ x b. (let c = b.1 in omega (arith, c))) (numbered n queue) (numbered_between n queue))

queued_line : (name : List ℕ) (s : ClientState) (body : List ℕ) (front : List Tagged) (ds : List Declaration) (h : History) (frames : List Command) (line : ℕ) → LineFits name s front ds h frames line → LineFits name (record s { queue = s.queue ++ body ∷ [] }) front ds h frames line
queued_line name s body front ds h frames line (inl r) = inl r
queued_line name s body front ds h frames line (inr l) =
    let q : Sending s.confirmed s.queue s.last front h = l.sending in
    inr record {
      sending = record { ahead = q.ahead; rest = q.rest ++ body ∷ []; queued_is = ap (λ (l : List (List ℕ)). l ++ body ∷ []) q.queued_is ∙ append_assoc q.ahead q.rest (body ∷ []); place_is = q.place_is; run = q.run };
      asked = elim l.asked [
        | inl a ↦ inl a
        | inr u ↦ inr u
      ];
    }

queue_keeps : (name : List ℕ) (w : World) (body : List ℕ) → Holds name w
    → Holds name (record w { all = w.all ++ message (last_id w.client + 1) body ∷ []; client = record w.client { queue = w.client.queue ++ body ∷ [] } })
queue_keeps name w body h =
    let n : ℕ = w.client.confirmed in
    let queue : List (List ℕ) = w.client.queue in
    let x : Tagged = message (last_id w.client + 1) body in
    record {
      named = h.named;
      front = h.front;
      is = ap (λ (l : List Tagged). l ++ x ∷ []) h.is ∙ append_assoc h.front (numbered n queue) (x ∷ []) ∙ ap (λ (l : List Tagged). h.front ++ l) (sym (numbered_append n queue (body ∷ [])));
      below = h.below;
      stood = h.stood;
      rises = rises_push w.all x h.rises (subst (AllByRecursion (λ (y : Tagged). y.id < x.id)) (sym h.is) (all_below h.front n queue h.below));
      above = h.above;
      history = h.history;
      pipes = λ c. (let p = h.pipes c in record { rest = p.rest ++ x ∷ []; run = ap (λ (l : List Tagged). l ++ x ∷ []) p.run ∙ append_assoc ((h.history c).before ++ (h.history c).sent) p.rest (x ∷ []); stood = p.stood });
      asks_fit = h.asks_fit;
      unasked = h.unasked;
      declarations = h.declarations;
      apart = h.apart;
      line = queued_line name w.client body h.front w.stream.declarations (h.history w.line) (w.unread w.line) w.line h.line;
    }

-- ---- ids are confirmed

ids_hold : (P : ℕ → Type 0) (ids : List ℕ) (id : ℕ) → AllByRecursion P ids → IsIn ids id → P id
ids_hold P [] id all i = absurd i
ids_hold P (x ∷ ids) id all (inl e) = subst P e all.0
ids_hold P (x ∷ ids) id all (inr i) = ids_hold P ids id all.1 i

-- what is confirmed now and wasn't before
record Learnt (name : List ℕ) (w : World) (id : ℕ) : Type 0 where
  stood : Stood name w.stream id
  sent : id ≤ w.client.last

learnt : (name : List ℕ) (w : World) (ids : List ℕ) (new : ClientState) → AllByRecursion (WasConfirmed name w.stream.confirmed) ids → LearnStep w.client ids new → Holds name w → (id : ℕ) → w.client.confirmed < id → IsConfirmed new id → Learnt name w id
learnt name w ids new told step h id up now = elim ((step.adds id).0 now) [
  | inl old ↦ elim old [
    | inl low ↦ absurd (omega (arith, up, low))
    | inr i ↦ record { stood = (h.above id i).0; sent = (h.above id i).1 }
  ]
  | inr i ↦ record { stood = ids_hold (WasConfirmed name w.stream.confirmed) ids id told i.0; sent = i.1 }
]

reach : (n last : ℕ) (left : List (List ℕ)) → n ≤ last → (1 ≤ length left → n + length left ≤ last) → n + length left ≤ last
reach n last [] low f = omega (arith, low)
reach n last (x ∷ left) low f = f (omega arith)

learn_keeps : (name : List ℕ) (w : World) (ids : List ℕ) (new : ClientState) → AllByRecursion (WasConfirmed name w.stream.confirmed) ids → w.client.declared ≡ true → LearnStep w.client ids new → Holds name w → Holds name (record w { client = new })
learn_keeps name w ids new told declared step h =
    let n : ℕ = w.client.confirmed in
    let last_is : new.last ≡ w.client.last = ap (λ (s : ClientState). s.last) step.is in
    let place = step.place in
    let now : (id : ℕ) → n < id → IsConfirmed new id → Learnt name w id = learnt name w ids new told step h in
    record {
      named = ap (λ (s : ClientState). s.name) step.is ∙ h.named;
      front = h.front ++ numbered n step.left;
      is = h.is ∙ ap (λ (q : List (List ℕ)). h.front ++ numbered n q) step.queued ∙ ap (λ (l : List Tagged). h.front ++ l) (numbered_append n step.left new.queue)
          ∙ sym (append_assoc h.front (numbered n step.left) (numbered (n + length step.left) new.queue)) ∙ ap (λ (k : ℕ). (h.front ++ numbered n step.left) ++ numbered k new.queue) (sym place);
      below = all_append (λ (x : Tagged). x.id ≤ new.confirmed) h.front (numbered n step.left) (all_weaker (λ (x : Tagged). x.id ≤ n) (λ (x : Tagged). x.id ≤ new.confirmed) (λ x b. omega (arith, b, place)) h.front h.below)
          (all_weaker (λ (x : Tagged). (n < x.id) × (x.id ≤ n + length step.left)) (λ (x : Tagged). x.id ≤ new.confirmed) (λ x b. (let c = b.1 in omega (arith, c, place))) (numbered n step.left) (numbered_between n step.left));
      stood = all_append (λ (x : Tagged). Stood name w.stream x.id) h.front (numbered n step.left) h.stood
          (all_weaker (λ (x : Tagged). (n < x.id) × (x.id ≤ n + length step.left)) (λ (x : Tagged). Stood name w.stream x.id)
          (λ x b. (let c = b.1 in (now x.id b.0 (inl (omega (arith, c, place)))).stood)) (numbered n step.left) (numbered_between n step.left));
      rises = h.rises;
      above = λ id i. (let up = step.above id i in let l = now id (omega (arith, up, place)) (inr i) in (l.stood, subst (λ (k : ℕ). id ≤ k) (sym last_is) l.sent));
      history = h.history;
      pipes = h.pipes;
      asks_fit = h.asks_fit;
      unasked = h.unasked;
      declarations = h.declarations;
      apart = h.apart;
      line = learnt_line name w new step.left h.front (h.history w.line) (ap (λ (s : ClientState). s.declared) step.is ∙ declared) declared step.queued place last_is
          (λ some. (now new.confirmed (omega (arith, some, place)) (inl (omega arith))).sent) h.line;
    }
  where
    learnt_line : (name : List ℕ) (w : World) (new : ClientState) (left : List (List ℕ)) (front : List Tagged) (h : History) → new.declared ≡ true → w.client.declared ≡ true → w.client.queue ≡ left ++ new.queue → new.confirmed ≡ w.client.confirmed + length left
        → new.last ≡ w.client.last → (1 ≤ length left → new.confirmed ≤ w.client.last) → LineFits name w.client front w.stream.declarations h (w.unread w.line) w.line
        → LineFits name new (front ++ numbered w.client.confirmed left) w.stream.declarations h (w.unread w.line) w.line
    learnt_line name w new left front h now declared queued place last_is sent (inl r) = let e : true ≡ false = sym declared ∙ r.1 in absurd cc
    learnt_line name w new left front h now declared queued place last_is sent (inr l) =
        let n : ℕ = w.client.confirmed in
        let s : Sending n w.client.queue w.client.last front h = l.sending in
        let at = s.place_is in
        let low : n + length left ≤ w.client.last = reach n w.client.last left (omega (arith, at)) (λ some. (let e = sent some in omega (arith, e, place))) in
        let cut : Within left new.queue s.ahead s.rest = within left new.queue s.ahead s.rest (sym queued ∙ s.queued_is) (omega (arith, at, low)) in
        inr record {
          sending = record {
            ahead = cut.mid;
            rest = s.rest;
            queued_is = cut.back;
            place_is = (let a = ap (λ (l : List (List ℕ)). length l) cut.front in let b = length-append left cut.mid in omega (arith, a, b, at, place, last_is));
            run = ap (λ (k : ℕ). (front ++ numbered n left) ++ numbered k cut.mid) place ∙ append_assoc front (numbered n left) (numbered (n + length left) cut.mid)
                ∙ ap (λ (l : List Tagged). front ++ l) (sym (numbered_append n left cut.mid) ∙ ap (numbered n) (sym cut.front)) ∙ s.run;
          };
          asked = inl (inl now);
        }

-- ---- the connection is lost

lose_keeps : (name : List ℕ) (w : World) → Holds name w → Holds name (record w { client = unlinked w.client })
lose_keeps name w h = record {
  named = h.named;
  front = h.front;
  is = h.is;
  below = h.below;
  stood = h.stood;
  rises = h.rises;
  above = h.above;
  history = h.history;
  pipes = h.pipes;
  asks_fit = h.asks_fit;
  unasked = h.unasked;
  declarations = h.declarations;
  apart = h.apart;
  line = inl (refl, refl, refl);
}

-- ---- the name is declared

unasked_of : (name : List ℕ) (s : ClientState) (front : List Tagged) (ds : List Declaration) (h : History) (frames : List Command) (line : ℕ) → IsFree s → s.declared ≡ false → LineFits name s front ds h frames line → Linking name s front h frames line ds × Unasked name h frames line ds
unasked_of name s front ds h frames line free undeclared (inl r) = absurd (free.linked r.0)
unasked_of name s front ds h frames line free undeclared (inr l) = (
  l,
  elim l.asked [
    | inl a ↦ elim a [
      | inl d ↦ (let e : true ≡ false = sym d ∙ undeclared in absurd cc)
      | inr q ↦ absurd (subst AsksName free.free q)
    ]
    | inr u ↦ u
  ],
)

ask_keeps : (name : List ℕ) (w : World) → IsFree w.client → w.client.declared ≡ false → Holds name w
    → Holds name (record w { client = behind w.client (asks requests.DeclarePublisher); unread = put w.line (w.unread w.line ++ frame_of_request w.client requests.DeclarePublisher (next_corr w.client.corr) ∷ []) w.unread })
ask_keeps name w free undeclared h =
    let s : ClientState = w.client in
    let x : Command = frame_of_request s requests.DeclarePublisher (next_corr s.corr) in
    let both = unasked_of name s h.front w.stream.declarations (h.history w.line) (w.unread w.line) w.line free undeclared h.line in
    let l : Linking name s h.front (h.history w.line) (w.unread w.line) w.line w.stream.declarations = both.0 in
    let u : Unasked name (h.history w.line) (w.unread w.line) w.line w.stream.declarations = both.1 in
    let asked : IsAsked (behind s (asks requests.DeclarePublisher)) = inr refl in
    record {
      named = h.named;
      front = h.front;
      is = h.is;
      below = h.below;
      stood = h.stood;
      rises = h.rises;
      above = h.above;
      history = h.history;
      pipes = h.pipes;
      asks_fit = λ k. changed_at (λ (k : ℕ) (u : List Command). AskFits name (h.history k).sent u) w.unread w.line _
          (λ f. subst (λ (sent : List Tagged). AskFits name sent (w.unread w.line ++ x ∷ [])) (sym u.none_sent) (fits_asked name (w.unread w.line) x u.plain)) k (h.asks_fit k);
      unasked = λ k. changed_at (λ (k : ℕ) (u : List Command). NoAsks name u ⊎ IsUnused name k w.stream.declarations) w.unread w.line _ (λ f. inr u.unused) k (h.unasked k);
      declarations = all_weaker (Of name (Ours name h.history w.unread)) (Of name (Ours name h.history (put w.line (w.unread w.line ++ x ∷ []) w.unread)))
          (λ d q is. changed_at (λ (k : ℕ) (u : List Command). DeclFits name (h.history k) u d) w.unread w.line _ (sent_decl name (h.history w.line) (w.unread w.line) (x ∷ []) d refl) d.connection (q is))
          w.stream.declarations h.declarations;
      apart = h.apart;
      line = inr record { sending = l.sending; asked = inl asked };
    }

-- ---- a message is sent

record SentNext (all : List Tagged) (n : ℕ) (queue : List (List ℕ)) (id : ℕ) (front : List Tagged) (h : History) (x : Tagged) : Type 0 where
  rest : List Tagged
  run : all ≡ (h.before ++ (h.sent ++ x ∷ [])) ++ rest
  sending : Sending n queue id front (record { before = h.before; sent = h.sent ++ x ∷ [] })

send_next : (all : List Tagged) (s : ClientState) (id : ℕ) (body : List ℕ) (front : List Tagged) (h : History) → all ≡ front ++ numbered s.confirmed s.queue → Sending s.confirmed s.queue s.last front h → PublishFits s id body
    → SentNext all s.confirmed s.queue id front h (message id body)
send_next all s id body front h is sending fits =
    let n : ℕ = s.confirmed in
    let ahead : List (List ℕ) = sending.ahead in
    let x : Tagged = message id body in
    let at = sending.place_is in
    let next = fits.next in
    let gone : s.last - n ≡ length ahead = omega (arith, at) in
    let cut : sending.rest ≡ body ∷ fits.others =
    sym (drop_front ahead sending.rest) ∙ ap (λ (k : ℕ). drop k (ahead ++ sending.rest)) (sym gone) ∙ ap (drop (s.last - n)) (sym sending.queued_is) ∙ fits.queued in
    let whole : s.queue ≡ ahead ++ body ∷ fits.others = sending.queued_is ∙ ap (λ (l : List (List ℕ)). ahead ++ l) cut in
    let id_is : n + length ahead + 1 ≡ id = omega (arith, at, next) in
    let one : message (n + length ahead + 1) body ≡ x = ap (λ (i : ℕ). message i body) id_is in
    let rest : List Tagged = numbered (n + length ahead + 1) fits.others in
    let numbers : numbered n s.queue ≡ numbered n ahead ++ x ∷ rest = ap (numbered n) whole ∙ numbered_append n ahead (body ∷ fits.others) ∙ ap (λ (y : Tagged). numbered n ahead ++ y ∷ rest) one in
    record {
      rest = rest;
      run = is ∙ ap (λ (l : List Tagged). front ++ l) numbers ∙ sym (append_assoc front (numbered n ahead) (x ∷ rest)) ∙ ap (λ (l : List Tagged). l ++ x ∷ rest) sending.run
          ∙ sym (append_assoc (h.before ++ h.sent) (x ∷ []) rest) ∙ ap (λ (l : List Tagged). l ++ rest) (append_assoc h.before h.sent (x ∷ []));
      sending = record {
        ahead = ahead ++ body ∷ [];
        rest = fits.others;
        queued_is = whole ∙ sym (append_assoc ahead (body ∷ []) fits.others);
        place_is = (let l = length-append ahead (body ∷ []) in omega (arith, l, id_is));
        run = ap (λ (l : List Tagged). front ++ l) (numbered_append n ahead (body ∷ []) ∙ ap (λ (y : Tagged). numbered n ahead ++ y ∷ []) one) ∙ sym (append_assoc front (numbered n ahead) (x ∷ []))
            ∙ ap (λ (l : List Tagged). l ++ x ∷ []) sending.run ∙ append_assoc h.before h.sent (x ∷ []);
      };
    }

linking_of : (name : List ℕ) (s : ClientState) (front : List Tagged) (ds : List Declaration) (h : History) (frames : List Command) (line : ℕ) → s.declared ≡ true → LineFits name s front ds h frames line → Linking name s front h frames line ds
linking_of name s front ds h frames line declared (inl r) = let e : true ≡ false = sym declared ∙ r.1 in absurd cc
linking_of name s front ds h frames line declared (inr l) = l

published_decl : (name : List ℕ) (h : History) (x : Tagged) (frames : List Command) (d : Declaration) → DeclFits name h frames d
    → DeclFits name (record { before = h.before; sent = h.sent ++ x ∷ [] }) (frames ++ Data (data_commands.Publish 0 (x ∷ [])) ∷ []) d
published_decl name h x frames d q = record {
  later = q.later ++ x ∷ [];
  sent_is = sym (append_assoc (items_of d) q.later (x ∷ [])) ∙ ap (λ (l : List Tagged). l ++ x ∷ []) q.sent_is;
  unread_is = λ t. ap (λ (l : List Tagged). items_of d ++ l) (published_append frames (Data (data_commands.Publish 0 (x ∷ [])) ∷ []))
      ∙ sym (append_assoc (items_of d) (published frames) (x ∷ [])) ∙ ap (λ (l : List Tagged). l ++ x ∷ []) (q.unread_is t);
  known_is = q.known_is;
}

send_keeps : (name : List ℕ) (w : World) (id : ℕ) (body : List ℕ) → PublishFits w.client id body → Holds name w
    → Holds name (record w { client = record w.client { last = id }; unread = put w.line (w.unread w.line ++ Data (data_commands.Publish 0 (message id body ∷ [])) ∷ []) w.unread })
send_keeps name w id body fits h =
    let s : ClientState = w.client in
    let x : Tagged = message id body in
    let f : Command = Data (data_commands.Publish 0 (x ∷ [])) in
    let frames : List Command = w.unread w.line ++ f ∷ [] in
    let old : History = h.history w.line in
    let now : History = record { before = old.before; sent = old.sent ++ x ∷ [] } in
    let l : Linking name s h.front old (w.unread w.line) w.line w.stream.declarations = linking_of name s h.front w.stream.declarations old (w.unread w.line) w.line fits.is_declared h.line in
    let next : SentNext w.all s.confirmed s.queue id h.front old x = send_next w.all s id body h.front old h.is l.sending fits in
    let no_ask : NoAsks name (f ∷ []) = ((λ a. (let e = a.2 in absurd cc)), tt) in
    let up = fits.next in
    let one : LineFits name (record s { last = id }) h.front w.stream.declarations now frames w.line = inr record { sending = next.sending; asked = inl (inl fits.is_declared) } in
    record {
      named = h.named;
      front = h.front;
      is = h.is;
      below = h.below;
      stood = h.stood;
      rises = h.rises;
      above = λ i within. (let a = h.above i within in let b = a.1 in (a.0, omega (arith, b, up)));
      history = put w.line now h.history;
      pipes = λ k. at_put (λ (k : ℕ) (g : History). PipeFits name w.stream w.all g) w.line now h.history k
          (λ e. record { rest = next.rest; run = next.run; stood = (h.pipes w.line).stood }) (λ apart. h.pipes k);
      asks_fit = λ k. at_both (λ (k : ℕ) (g : History) (u : List Command). AskFits name g.sent u) w.line now h.history frames w.unread k
          (λ e. fits_sent name old.sent (x ∷ []) (w.unread w.line) (f ∷ []) refl no_ask (inr (tt, λ a. absurd (no_ask.0 a))) (h.asks_fit w.line)) (λ apart. h.asks_fit k);
      unasked = λ k. changed_at (λ (k : ℕ) (u : List Command). NoAsks name u ⊎ IsUnused name k w.stream.declarations) w.unread w.line frames
          (sent_unasked name w.line w.stream.declarations (w.unread w.line) (f ∷ []) no_ask) k (h.unasked k);
      declarations = all_weaker (Of name (Ours name h.history w.unread)) (Of name (Ours name (put w.line now h.history) (put w.line frames w.unread)))
          (λ d q is. at_both (λ (k : ℕ) (g : History) (u : List Command). DeclFits name g u d) w.line now h.history frames w.unread d.connection
          (λ e. published_decl name old x (w.unread w.line) d (subst (λ (k : ℕ). DeclFits name (h.history k) (w.unread k) d) e (q is))) (λ apart. q is))
          w.stream.declarations h.declarations;
      apart = h.apart;
      line = at_both (λ (k : ℕ) (g : History) (u : List Command). LineFits name (record s { last = id }) h.front w.stream.declarations g u w.line) w.line now h.history frames w.unread w.line (λ e. one) (λ apart. absurd (apart refl));
    }

-- ---- what is due is sent

free_gentle : (s kept : ClientState) (r : Request) → IsFree s → (r ≡ requests.DeclarePublisher → ⊥) → Gentle s (behind s (asks r))
free_gentle s kept r free apart = record {
  name_is = refl;
  confirmed_is = refl;
  above_is = refl;
  queue_is = refl;
  last_is = refl;
  rests = λ rest. absurd (free.linked rest.0);
  asked = λ a. elim a [
    | inl d ↦ inl d
    | inr q ↦ absurd (subst AsksName free.free q)
  ];
}

request_keeps : (name : List ℕ) (w : World) (r : Request) → IsFree w.client → (r ≡ requests.DeclarePublisher → ⊥) → Holds name w
    → Holds name (record w { client = behind w.client (asks r); unread = put w.line (w.unread w.line ++ frame_of_request w.client r (next_corr w.client.corr) ∷ []) w.unread })
request_keeps name w r free apart h =
    plain_keeps name (record w { client = behind w.client (asks r) }) (frame_of_request w.client r (next_corr w.client.corr) ∷ []) (request_plain name w.client r (next_corr w.client.corr) apart, tt)
    (gentle_keeps name w (behind w.client (asks r)) (free_gentle w.client w.client r free apart) h)

due_keeps : (name : List ℕ) (w : World) (d : Next) → DueFits w.client d → Holds name w → Holds name (record w { client = behind w.client d; unread = put w.line (w.unread w.line ++ frames_of (frame_due w.client d)) w.unread })
due_keeps name w nothing fits h = plain_keeps name (record w { client = w.client }) [] tt (gentle_keeps name w w.client (gentle_self w.client) h)
due_keeps name w credit fits h =
    plain_keeps name (record w { client = behind w.client credit }) (Data (data_commands.Credit 0 1) ∷ []) (record { no_ask = λ a. (let e = a.2 in absurd cc); no_items = refl }, tt)
    (gentle_keeps name w (behind w.client credit) (record { name_is = refl; confirmed_is = refl; above_is = refl; queue_is = refl; last_is = refl; rests = λ r. r; asked = λ a. a }) h)
due_keeps name w (tunes frame_max) fits h =
    plain_keeps name (record w { client = behind w.client (tunes frame_max) }) (frames_of (frame_due w.client (tunes frame_max))) (record { no_ask = λ a. (let e = a.2 in absurd cc); no_items = refl }, tt)
    (gentle_keeps name w (behind w.client (tunes frame_max)) (record { name_is = refl; confirmed_is = refl; above_is = refl; queue_is = refl; last_is = refl; rests = λ r. absurd (fits r.0); asked = λ a. a }) h)
due_keeps name w (publishes id body) fits h = send_keeps name w id body fits h
due_keeps name w (asks requests.DeclarePublisher) fits h = ask_keeps name w fits.0 fits.1 h
due_keeps name w (asks requests.PeerProperties) fits h = request_keeps name w requests.PeerProperties fits.0 (λ e. absurd cc) h
due_keeps name w (asks requests.SaslHandshake) fits h = request_keeps name w requests.SaslHandshake fits.0 (λ e. absurd cc) h
due_keeps name w (asks requests.SaslAuthenticate) fits h = request_keeps name w requests.SaslAuthenticate fits.0 (λ e. absurd cc) h
due_keeps name w (asks requests.OpenHost) fits h = request_keeps name w requests.OpenHost fits.0 (λ e. absurd cc) h
due_keeps name w (asks requests.ExchangeVersions) fits h = request_keeps name w requests.ExchangeVersions fits.0 (λ e. absurd cc) h
due_keeps name w (asks requests.Create) fits h = request_keeps name w requests.Create fits.0 (λ e. absurd cc) h
due_keeps name w (asks requests.QueryPublisherSequence) fits h = request_keeps name w requests.QueryPublisherSequence fits.0 (λ e. absurd cc) h
due_keeps name w (asks requests.Subscribe) fits h = request_keeps name w requests.Subscribe fits.0 (λ e. absurd cc) h

-- ---- a frame is read

told_of : (name : List ℕ) (stream : Stream) (f : Frame) (ids : List ℕ) → f ≡ confirm 0 ids → IsTrueFrame name stream f → AllByRecursion (WasConfirmed name stream.confirmed) ids
told_of name stream f ids e t = subst (IsTrueFrame name stream) e t refl

hears_keep : (name : List ℕ) (w : World) (f : Frame) (m : Meaning) (new : ClientState) → MeaningFits w.client f m → IsTrueFrame name w.stream f → HearsBy w.client m new → Holds name w → Holds name (record w { client = new })
hears_keep name w f (passes kept) new fits told step h = subst (λ (s : ClientState). Holds name (record w { client = s })) (sym step) (gentle_keeps name w kept fits h)
hears_keep name w f (fails fault) new fits told step h = absurd step
hears_keep name w f (confirms ids) new fits told step h = learn_keeps name w ids new (told_of name w.stream f ids fits.1 told) fits.0 step h
hears_keep name w f (delivers kept bytes) new fits told step h =
    subst (λ (s : ClientState). Holds name (record w { client = s })) (sym step.is)
    (gentle_keeps name w _ (record { name_is = fits.name_is; confirmed_is = fits.confirmed_is; above_is = fits.above_is; queue_is = fits.queue_is; last_is = fits.last_is; rests = fits.rests; asked = fits.asked }) h)

-- ---- each input

same_publishing : (s kept : ClientState) → kept.name ≡ s.name → kept.confirmed ≡ s.confirmed → kept.above ≡ s.above → kept.queue ≡ s.queue → kept.last ≡ s.last → kept.stage ≡ s.stage → kept.declared ≡ s.declared → kept.awaited ≡ s.awaited → Gentle s kept
same_publishing s kept a b c d e f g i = record {
  name_is = a;
  confirmed_is = b;
  above_is = c;
  queue_is = d;
  last_is = e;
  rests = λ r. (f ∙ r.0, g ∙ r.1, i ∙ r.2);
  asked = λ q. elim q [
    | inl t ↦ inl (g ∙ t)
    | inr t ↦ inr (subst AsksName (sym i) t)
  ];
}

-- nothing is queued, and nothing but the client changed
quiet : (name : List ℕ) (w : World) (client : ClientState) (frame : Option Command) → frame ≡ None → Holds name (record w { client = client })
    → Holds name (record w { all = w.all ++ []; client = client; unread = put w.line (w.unread w.line ++ frames_of frame) w.unread })
quiet name w client frame none h =
    subst (λ (f : Option Command). Holds name (record w { all = w.all ++ []; client = client; unread = put w.line (w.unread w.line ++ frames_of f) w.unread })) (sym none)
    (subst (λ (l : List Tagged). Holds name (record w { all = l; client = client; unread = put w.line (w.unread w.line ++ []) w.unread })) (sym (append-nil w.all)) (plain_keeps name (record w { client = client }) [] tt h))

-- the same, of a change that is known
changes : (name : List ℕ) (w : World) (client new : ClientState) (frame : Option Command) → frame ≡ None → client ≡ new → Holds name (record w { client = new })
    → Holds name (record w { all = w.all ++ []; client = client; unread = put w.line (w.unread w.line ++ frames_of frame) w.unread })
changes name w client new frame none is h = quiet name w client frame none (subst (λ (s : ClientState). Holds name (record w { client = s })) (sym is) h)

calls_keep : (name : List ℕ) (w : World) (input : Input) (frame : Option Command) (client : ClientState) → ClientStep w.client input frame client → IsTrueInput name w.stream input → Holds name w
    → Holds name (record w { all = w.all ++ queued w.client input; client = client; unread = put w.line (w.unread w.line ++ frames_of frame) w.unread })
calls_keep name w (enqueues body) frame client step told h =
    subst (λ (f : Option Command). Holds name (record w { all = w.all ++ message (last_id w.client + 1) body ∷ []; client = client; unread = put w.line (w.unread w.line ++ frames_of f) w.unread })) (sym step.0)
    (plain_keeps name (record w { all = w.all ++ message (last_id w.client + 1) body ∷ []; client = client }) [] tt
    (subst (λ (s : ClientState). Holds name (record w { all = w.all ++ message (last_id w.client + 1) body ∷ []; client = s })) (sym step.1) (queue_keeps name w body h)))
calls_keep name w creates frame client step told h = changes name w client _ frame step.0 step.1 (gentle_keeps name w _ (same_publishing w.client _ refl refl refl refl refl refl refl refl) h)
calls_keep name w queries frame client step told h = changes name w client _ frame step.0 step.1 (gentle_keeps name w _ (same_publishing w.client _ refl refl refl refl refl refl refl refl) h)
calls_keep name w (subscribes spec many) frame client step told h = changes name w client _ frame step.0 step.1 (gentle_keeps name w _ (same_publishing w.client _ refl refl refl refl refl refl refl refl) h)
calls_keep name w connects frame client step told h = absurd told
calls_keep name w loses frame client step told h = changes name w client _ frame step.0 step.1 (lose_keeps name w h)
calls_keep name w sends frame client step told h =
    subst (λ (f : Option Command). Holds name (record w { all = w.all ++ []; client = client; unread = put w.line (w.unread w.line ++ frames_of f) w.unread })) (sym step.0)
    (subst (λ (s : ClientState). Holds name (record w { all = w.all ++ []; client = s; unread = put w.line (w.unread w.line ++ frames_of (frame_due w.client (due w.client))) w.unread })) (sym step.1)
    (subst (λ (l : List Tagged). Holds name (record w { all = l; client = behind w.client (due w.client); unread = put w.line (w.unread w.line ++ frames_of (frame_due w.client (due w.client))) w.unread })) (sym (append-nil w.all))
    (due_keeps name w (due w.client) (due_fits w.client) h)))
calls_keep name w (hears command) frame client step told h = quiet name w client frame step.0 (hears_keep name w (frame_of command) (means w.client (frame_of command)) client (frame_fits w.client (frame_of command)) told step.1 h)
calls_keep name w (faults command fault) frame client step told h = changes name w client w.client frame step.0 step.2 (gentle_keeps name w w.client (gentle_self w.client) h)
calls_keep name w takes frame client step told h = changes name w client _ frame step.0 step.1 (gentle_keeps name w _ (same_publishing w.client _ refl refl refl refl refl refl refl refl) h)

pub call_keeps : (name : List ℕ) (w : World) (input : Input) (new : World) → CallStep name w input new → Holds name w → Holds name new
call_keeps name w input new step h = subst (Holds name) (sym step.is) (calls_keep name w input step.frame step.client step.step step.true_input h)

-- ---- connections and restarts

unused_stay : (name : List ℕ) (h g : ℕ → History) (u v : ℕ → List Command) (c : ℕ) (ds : List Declaration) → IsUnused name c ds → ((d : Declaration) → (d.connection ≡ c → ⊥) → Ours name h u d → Ours name g v d)
    → AllByRecursion (Of name (Ours name h u)) ds → AllByRecursion (Of name (Ours name g v)) ds
unused_stay name h g u v c [] n f a = tt
unused_stay name h g u v c (d ∷ ds) n f a = ((λ is. f d (n.0 is) (a.0 is)), unused_stay name h g u v c ds n.1 f a.1)

pub connect_keeps : (name : List ℕ) (w : World) (c : ℕ) (new : World) → ConnectStep name w c new → Holds name w → Holds name new
connect_keeps name w c new step h =
    subst (Holds name) (sym step.is) (subst (λ (s : ClientState). Holds name (record w { client = s; line = c; unread = put c [] w.unread })) (sym step.step.1) (linked_keeps name w c step.unused h))
  where
    linked_keeps : (name : List ℕ) (w : World) (c : ℕ) → IsUnused name c w.stream.declarations → Holds name w → Holds name (record w { client = linked w.client; line = c; unread = put c [] w.unread })
    linked_keeps name w c unused h =
        let now : History = record { before = h.front; sent = [] } in
        let rest : List Tagged = numbered w.client.confirmed w.client.queue in
        let fits : PipeFits name w.stream w.all now = record { rest = rest; run = h.is ∙ ap (λ (l : List Tagged). l ++ rest) (sym (append-nil h.front)); stood = h.stood } in
        let one : LineFits name (linked w.client) h.front w.stream.declarations now [] c = inr record {
          sending = record { ahead = []; rest = w.client.queue; queued_is = refl; place_is = omega arith; run = refl };
          asked = inr record { plain = tt; none_sent = refl; unused = unused };
        } in
        record {
          named = h.named;
          front = h.front;
          is = h.is;
          below = h.below;
          stood = h.stood;
          rises = h.rises;
          above = λ id i. absurd i;
          history = put c now h.history;
          pipes = λ k. at_put (λ (k : ℕ) (g : History). PipeFits name w.stream w.all g) c now h.history k (λ e. fits) (λ apart. h.pipes k);
          asks_fit = λ k. at_both (λ (k : ℕ) (g : History) (u : List Command). AskFits name g.sent u) c now h.history [] w.unread k (λ e. tt) (λ apart. h.asks_fit k);
          unasked = λ k. at_put (λ (k : ℕ) (u : List Command). NoAsks name u ⊎ IsUnused name k w.stream.declarations) c [] w.unread k (λ e. inl tt) (λ apart. h.unasked k);
          declarations = unused_stay name h.history (put c now h.history) w.unread (put c [] w.unread) c w.stream.declarations unused
              (λ d apart q. at_both (λ (k : ℕ) (g : History) (u : List Command). DeclFits name g u d) c now h.history [] w.unread d.connection (λ e. absurd (apart e)) (λ a. q)) h.declarations;
          apart = h.apart;
          line = at_both (λ (k : ℕ) (g : History) (u : List Command). LineFits name (linked w.client) h.front w.stream.declarations g u c) c now h.history [] w.unread c (λ e. one) (λ apart. absurd (apart refl));
        }

pub restart_keeps : (name : List ℕ) (w : World) (n : ℕ) (kept : List (List ℕ)) → Kept name w.all w.stream n kept → Holds name w → Holds name (record w { client = restarted w.client n kept })
restart_keeps name w n kept k h = record {
  named = h.named;
  front = k.front;
  is = k.is;
  below = k.below;
  stood = k.stood;
  rises = h.rises;
  above = λ id i. absurd i;
  history = h.history;
  pipes = h.pipes;
  asks_fit = h.asks_fit;
  unasked = h.unasked;
  declarations = h.declarations;
  apart = h.apart;
  line = inl (refl, refl, refl);
}
