-- What servers do keeps it.
use Rattle.std.proofs.Common.{true, false, ◌≡◌, ◌⊎◌, ℕ, List, [], ◌∷◌, ◌++◌, Option, Some, None, refl, sym, ap, subst, ◌∙◌, inl, inr, append_assoc}
use Rattle.std.specs.Prelude.{flat_map}
use Rattle.std.specs.List.{AllByRecursion}
use Rattle.std.proofs.lemmas.List.{append-nil}
use Rattle.std.proofs.lemmas.Grind.{flat_map-append}
use Rattle.command_data.specs.declared.item.Tagged.{Tagged}
use Rattle.command_data.specs.declared.command.DataCommand.{DataCommand}
use Rattle.command_data.specs.declared.command.DataCommand.TheVariants.{DeclarePublisher, Publish, PublishConfirm, PublishError, QueryPublisherSequence, SequenceAnswer, DeletePublisher, Subscribe, Deliver, Deliver2, Credit, CreditFault, StoreOffset, QueryOffset, OffsetAnswer, Unsubscribe, Plain}
use Rattle.command_all.specs.declared.command.Command.{Command}
use Rattle.command_all.specs.declared.command.Command.TheVariants.{Data, Admin}
use Rattle.client_terms.specs.States.{ClientState}
use Rattle.list_machine.specs.Streams.{Frame, Confirmed, Declaration, Stream, items_of}
use Rattle.list_machine.specs.Publishing.{DeclareStep, PublishStep, new_declaration, known_by}
use Rattle.list_machine.specs.Moves.{Move}
use Rattle.list_machine.specs.Machines.{put}
use Rattle.list_machine.specs.Discipline.{IsConfirmed}
use Rattle.list_machine.proofs.Lists.{all_weaker, all_append, all_front, all_back, all_turned}
use Rattle.client_laws.specs.Worlds.{World, IsUnused, NoneStands, IsPublish, ReadStep, ReadsName, ReadsItems, ReadsOn, ServeStep, OtherStep}
use Rattle.client_laws.proofs.Lists.{at_put}
use Rattle.client_laws.proofs.Alike.{Of, Alike, Apart, moves_alike, alike_of, alike_unused, alike_apart, apart_pushed, apart_before, apart_after, still_confirmed}
use Rattle.client_laws.proofs.Pipes.{published_in, published, IsAsk, NoAsks, AskFits, AllPlain, fits_popped}
use Rattle.client_laws.proofs.Holding.{History, Stood, PipeFits, DeclFits, Ours, Unasked, Linking, LineFits, Holds, pipe_grows, decl_same, changed_at}

-- ---- moves of others

line_stream : (name : List ℕ) (s : ClientState) (front : List Tagged) (old new : List Declaration) (h : History) (unread : List Command) (line : ℕ) → (IsUnused name line old → IsUnused name line new) → LineFits name s front old h unread line → LineFits name s front new h unread line
line_stream name s front old new h unread line f (inl r) = inl r
line_stream name s front old new h unread line f (inr l) = inr record {
  sending = l.sending;
  asked = elim l.asked [
    | inl a ↦ inl a
    | inr u ↦ inr record { plain = u.plain; none_sent = u.none_sent; unused = f u.unused }
  ];
}

either_unused : (name : List ℕ) (frames : List Command) (c : ℕ) (old new : List Declaration) → (IsUnused name c old → IsUnused name c new) → NoAsks name frames ⊎ IsUnused name c old → NoAsks name frames ⊎ IsUnused name c new
either_unused name frames c old new f (inl n) = inl n
either_unused name frames c old new f (inr u) = inr (f u)

stream_keeps : (name : List ℕ) (w : World) (stream : Stream) → ((id : ℕ) → Stood name w.stream id → Stood name stream id) → Alike name w.stream.declarations stream.declarations → Holds name w → Holds name (record w { stream = stream })
stream_keeps name w stream grow a h = record {
  named = h.named;
  front = h.front;
  is = h.is;
  below = h.below;
  stood = all_weaker (λ (x : Tagged). Stood name w.stream x.id) (λ (x : Tagged). Stood name stream x.id) (λ x. grow x.id) h.front h.stood;
  rises = h.rises;
  above = λ id i. (grow id (h.above id i).0, (h.above id i).1);
  history = h.history;
  pipes = λ c. pipe_grows name w.stream stream w.all (h.history c) grow (h.pipes c);
  asks_fit = h.asks_fit;
  unasked = λ c. either_unused name (w.unread c) c w.stream.declarations stream.declarations (alike_unused name c w.stream.declarations stream.declarations a) (h.unasked c);
  declarations = alike_of name (Ours name h.history w.unread) (decl_same name h.history w.unread) w.stream.declarations stream.declarations a h.declarations;
  apart = alike_apart name w.stream.declarations stream.declarations a h.apart;
  line = line_stream name w.client h.front w.stream.declarations stream.declarations (h.history w.line) (w.unread w.line) w.line (alike_unused name w.line w.stream.declarations stream.declarations a) h.line;
}

pub other_keeps : (name : List ℕ) (w : World) (move : Move) (new : World) → OtherStep name w move new → Holds name w → Holds name new
other_keeps name w move new step h =
    subst (Holds name) (sym step.is)
    (stream_keeps name w step.stream (still_confirmed name w.stream move step.stream step.step) (moves_alike name w.stream move step.stream step.step step.foreign) h)

-- ---- a frame is read

popped_line : (name : List ℕ) (s : ClientState) (front : List Tagged) (ds : List Declaration) (h : History) (x : Command) (rest : List Command) (line : ℕ) → LineFits name s front ds h (x ∷ rest) line → LineFits name s front ds h rest line
popped_line name s front ds h x rest line (inl r) = inl r
popped_line name s front ds h x rest line (inr l) = inr record {
  sending = l.sending;
  asked = elim l.asked [
    | inl a ↦ inl a
    | inr u ↦ inr record { plain = u.plain.1; none_sent = u.none_sent; unused = u.unused }
  ];
}

popped_unasked : (name : List ℕ) (c : ℕ) (ds : List Declaration) (x : Command) (rest : List Command) → NoAsks name (x ∷ rest) ⊎ IsUnused name c ds → NoAsks name rest ⊎ IsUnused name c ds
popped_unasked name c ds x rest (inl n) = inl n.1
popped_unasked name c ds x rest (inr u) = inr u

-- a frame goes that doesn't publish, or whose declaration stands no longer
popped_decl : (name : List ℕ) (h : History) (x : Command) (rest : List Command) (d : Declaration) → (published_in x ≡ []) ⊎ (d.stands ≡ true → ⊥) → DeclFits name h (x ∷ rest) d → DeclFits name h rest d
popped_decl name h x rest d (inl none) q = record { later = q.later; sent_is = q.sent_is; unread_is = λ t. ap (λ (l : List Tagged). items_of d ++ (l ++ published rest)) (sym none) ∙ q.unread_is t; known_is = q.known_is }
popped_decl name h x rest d (inr over) q = record { later = q.later; sent_is = q.sent_is; unread_is = λ t. absurd (over t); known_is = q.known_is }

publishes_or_not : (x : Command) → IsPublish x ⊎ (published_in x ≡ [])
publishes_or_not (Data (Publish publisher items)) = inl tt
publishes_or_not (Data (DeclarePublisher corr publisher reference stream)) = inr refl
publishes_or_not (Data (PublishConfirm publisher items)) = inr refl
publishes_or_not (Data (PublishError publisher items)) = inr refl
publishes_or_not (Data (QueryPublisherSequence corr reference stream)) = inr refl
publishes_or_not (Data (SequenceAnswer corr code content)) = inr refl
publishes_or_not (Data (DeletePublisher corr publisher)) = inr refl
publishes_or_not (Data (Subscribe corr sub stream spec credit properties)) = inr refl
publishes_or_not (Data (Deliver sub header payload)) = inr refl
publishes_or_not (Data (Deliver2 sub committed header payload)) = inr refl
publishes_or_not (Data (Credit sub credit)) = inr refl
publishes_or_not (Data (CreditFault code sub)) = inr refl
publishes_or_not (Data (StoreOffset reference stream offset)) = inr refl
publishes_or_not (Data (QueryOffset corr reference stream)) = inr refl
publishes_or_not (Data (OffsetAnswer corr code content)) = inr refl
publishes_or_not (Data (Unsubscribe corr sub)) = inr refl
publishes_or_not (Data (Plain key corr code)) = inr refl
publishes_or_not (Admin command) = inr refl

-- none of the name stands on a connection, or the frame publishes nothing
abbrev MayGo : List ℕ → ℕ → Command → List Declaration → Type 0
MayGo name c x ds = AllByRecursion (λ (d : Declaration). d.name ≡ Some name → d.connection ≡ c → (published_in x ≡ []) ⊎ (d.stands ≡ true → ⊥)) ds

may_go : (name : List ℕ) (c : ℕ) (x : Command) (ds : List Declaration) → (IsPublish x → NoneStands name c ds) → MayGo name c x ds
may_go name c x ds f = elim (publishes_or_not x) [
  | inl p ↦ over ds (f p)
  | inr none ↦ gone none ds
]
  where
    over : (ds : List Declaration) → NoneStands name c ds → MayGo name c x ds
    over [] n = tt
    over (d ∷ ds) n = ((λ is on. inr (n.0 is on)), over ds n.1)

    gone : published_in x ≡ [] → (ds : List Declaration) → MayGo name c x ds
    gone none [] = tt
    gone none (d ∷ ds) = ((λ is on. inl none), gone none ds)

popped_all : (name : List ℕ) (history : ℕ → History) (unread : ℕ → List Command) (c : ℕ) (x : Command) (rest : List Command) → unread c ≡ x ∷ rest → (ds : List Declaration) → MayGo name c x ds
    → AllByRecursion (Of name (Ours name history unread)) ds → AllByRecursion (Of name (Ours name history (put c rest unread))) ds
popped_all name history unread c x rest next [] m h = tt
popped_all name history unread c x rest next (d ∷ ds) m h = (
  (λ is. at_put (λ (k : ℕ) (u : List Command). DeclFits name (history k) u d) c rest unread d.connection
      (λ on. popped_decl name (history d.connection) x rest d (m.0 is on) (subst (λ (u : List Command). DeclFits name (history d.connection) u d) (ap unread on ∙ next) (h.0 is))) (λ apart. h.0 is)),
  popped_all name history unread c x rest next ds m.1 h.1,
)

popped_asks : (name : List ℕ) (w : World) (h : Holds name w) (c : ℕ) (x : Command) (rest : List Command) → w.unread c ≡ x ∷ rest → (k : ℕ) → AskFits name (h.history k).sent (put c rest w.unread k)
popped_asks name w h c x rest next k =
    changed_at (λ (k : ℕ) (u : List Command). AskFits name (h.history k).sent u) w.unread c rest (λ f. fits_popped name (h.history c).sent x rest (subst (AskFits name (h.history c).sent) next f)) k (h.asks_fit k)

passes_keep : (name : List ℕ) (w : World) (c : ℕ) (x : Command) (rest : List Command) → w.unread c ≡ x ∷ rest → (IsPublish x → NoneStands name c w.stream.declarations) → Holds name w → Holds name (record w { unread = put c rest w.unread; stream = w.stream })
passes_keep name w c x rest next none h = record {
  named = h.named;
  front = h.front;
  is = h.is;
  below = h.below;
  stood = h.stood;
  rises = h.rises;
  above = h.above;
  history = h.history;
  pipes = h.pipes;
  asks_fit = popped_asks name w h c x rest next;
  unasked = λ k. changed_at (λ (k : ℕ) (u : List Command). NoAsks name u ⊎ IsUnused name k w.stream.declarations) w.unread c rest
      (λ f. popped_unasked name c w.stream.declarations x rest (subst (λ (u : List Command). NoAsks name u ⊎ IsUnused name c w.stream.declarations) next f)) k (h.unasked k);
  declarations = popped_all name h.history w.unread c x rest next w.stream.declarations (may_go name c x w.stream.declarations none) h.declarations;
  apart = h.apart;
  line = changed_at (λ (k : ℕ) (u : List Command). LineFits name w.client h.front w.stream.declarations (h.history k) u k) w.unread c rest
      (λ f. popped_line name w.client h.front w.stream.declarations (h.history c) x rest c (subst (λ (u : List Command). LineFits name w.client h.front w.stream.declarations (h.history c) u c) next f)) w.line h.line;
}

-- ---- the declaration is read

record Asked (name : List ℕ) (sent : List Tagged) (rest : List Command) : Type 0 where
  none_behind : NoAsks name rest
  sent_behind : published rest ≡ sent

asked_of : (name : List ℕ) (sent : List Tagged) (x : Command) (rest : List Command) → IsAsk name x → AskFits name sent (x ∷ rest) → Asked name sent rest
asked_of name sent x rest a (inl h) = absurd (h.0.no_ask a)
asked_of name sent x rest a (inr h) = record { none_behind = h.0; sent_behind = h.1 a }

unused_here : (name : List ℕ) (c : ℕ) (ds : List Declaration) (x : Command) (rest : List Command) → IsAsk name x → NoAsks name (x ∷ rest) ⊎ IsUnused name c ds → IsUnused name c ds
unused_here name c ds x rest a (inl n) = absurd (n.0 a)
unused_here name c ds x rest a (inr u) = u

unused_pushed : (name : List ℕ) (k c : ℕ) (ds : List Declaration) → (k ≡ c → ⊥) → IsUnused name k ds → IsUnused name k (ds ++ new_declaration c 0 (Some name) ∷ [])
unused_pushed name k c ds apart u = all_append (λ (d : Declaration). d.name ≡ Some name → d.connection ≡ k → ⊥) ds (new_declaration c 0 (Some name) ∷ []) u ((λ is on. apart (sym on)), tt)

asked_line : (name : List ℕ) (s : ClientState) (front : List Tagged) (old new : List Declaration) (h : History) (x : Command) (rest : List Command) (line : ℕ) → IsAsk name x → LineFits name s front old h (x ∷ rest) line → LineFits name s front new h rest line
asked_line name s front old new h x rest line a (inl r) = inl r
asked_line name s front old new h x rest line a (inr l) = inr record {
  sending = l.sending;
  asked = elim l.asked [
    | inl b ↦ inl b
    | inr u ↦ absurd (u.plain.0.no_ask a)
  ];
}

ask_publishes_none : (name : List ℕ) (x : Command) → IsAsk name x → published_in x ≡ []
ask_publishes_none name x a = ap published_in a.2

declares_keep : (name : List ℕ) (w : World) (c : ℕ) (x : Command) (rest : List Command) → w.unread c ≡ x ∷ rest → IsAsk name x → Holds name w
    → Holds name (record w { unread = put c rest w.unread; stream = record w.stream { declarations = w.stream.declarations ++ new_declaration c 0 (Some name) ∷ [] } })
declares_keep name w c x rest next a h =
    let old : List Declaration = w.stream.declarations in
    let d : Declaration = new_declaration c 0 (Some name) in
    let asked : Asked name (h.history c).sent rest = asked_of name (h.history c).sent x rest a (subst (AskFits name (h.history c).sent) next (h.asks_fit c)) in
    let unused : IsUnused name c old = unused_here name c old x rest a (subst (λ (u : List Command). NoAsks name u ⊎ IsUnused name c old) next (h.unasked c)) in
    let fits : DeclFits name (h.history c) rest d = record { later = (h.history c).sent; sent_is = refl; unread_is = λ t. asked.sent_behind; known_is = inl refl } in
    record {
      named = h.named;
      front = h.front;
      is = h.is;
      below = h.below;
      stood = h.stood;
      rises = h.rises;
      above = h.above;
      history = h.history;
      pipes = λ k. pipe_grows name w.stream _ w.all (h.history k) (λ id s. s) (h.pipes k);
      asks_fit = popped_asks name w h c x rest next;
      unasked = λ k. at_put (λ (k : ℕ) (u : List Command). NoAsks name u ⊎ IsUnused name k (old ++ d ∷ [])) c rest w.unread k (λ e. inl asked.none_behind)
          (λ apart. either_unused name (w.unread k) k old (old ++ d ∷ []) (unused_pushed name k c old apart) (h.unasked k));
      declarations = all_append (Of name (Ours name h.history (put c rest w.unread))) old (d ∷ [])
          (popped_all name h.history w.unread c x rest next old (all_may_go name c x old (ask_publishes_none name x a)) h.declarations)
          ((λ is. at_put (λ (k : ℕ) (u : List Command). DeclFits name (h.history c) u d) c rest w.unread c (λ e. fits) (λ apart. absurd (apart refl))), tt);
      apart = apart_pushed name old d unused h.apart;
      line = at_put (λ (k : ℕ) (u : List Command). LineFits name w.client h.front (old ++ d ∷ []) (h.history k) u k) c rest w.unread w.line
          (λ e. asked_line name w.client h.front old (old ++ d ∷ []) (h.history w.line) x rest w.line a
          (subst (λ (u : List Command). LineFits name w.client h.front old (h.history w.line) u w.line) (ap w.unread e ∙ next) h.line))
          (λ apart. line_stream name w.client h.front old (old ++ d ∷ []) (h.history w.line) (w.unread w.line) w.line (unused_pushed name w.line c old apart) h.line);
    }
  where
    all_may_go : (name : List ℕ) (c : ℕ) (x : Command) (ds : List Declaration) → published_in x ≡ [] → MayGo name c x ds
    all_may_go name c x [] none = tt
    all_may_go name c x (d ∷ ds) none = ((λ is on. inl none), all_may_go name c x ds none)

-- ---- a Publish frame is taken

knows : (name : List ℕ) (before items : List Tagged) (known confirmed : List Confirmed) → (items ≡ []) ⊎ AllByRecursion (λ (x : Tagged). IsConfirmed name known x.id) before → AllByRecursion (λ (x : Tagged). IsConfirmed name confirmed x.id) before
    → AllByRecursion (λ (x : Tagged). IsConfirmed name (known_by items known confirmed) x.id) before
knows name before [] known confirmed k s = s
knows name before (x ∷ items) known confirmed (inl e) s = absurd cc
knows name before (x ∷ items) known confirmed (inr k) s = k

unused_may_go : (name : List ℕ) (c : ℕ) (x : Command) (ds : List Declaration) → IsUnused name c ds → MayGo name c x ds
unused_may_go name c x [] u = tt
unused_may_go name c x (d ∷ ds) u = ((λ is on. absurd (u.0 is on)), unused_may_go name c x ds u.1)

apart_turned : (name : List ℕ) (before : List Declaration) (d e : Declaration) (after : List Declaration) → e.name ≡ d.name → e.connection ≡ d.connection → Apart name (before ++ d ∷ after) → Apart name (before ++ e ∷ after)
apart_turned name [] d e after same on h = ((λ is. subst (λ (c : ℕ). IsUnused name c after) (sym on) (h.0 (sym same ∙ is))), h.1)
apart_turned name (x ∷ before) d e after same on h = (
  (λ is. all_turned (λ (d : Declaration). d.name ≡ Some name → d.connection ≡ x.connection → ⊥) before d e after (λ f named at. f (sym same ∙ named) (sym on ∙ at)) (h.0 is)),
  apart_turned name before d e after same on h.1,
)

takes_keep : (name : List ℕ) (w : World) (c : ℕ) (items : List Tagged) (rest : List Command) (stream : Stream) → w.unread c ≡ Data (Publish 0 items) ∷ rest → (step : PublishStep w.stream c 0 items stream) → step.at.declaration.name ≡ Some name
    → Holds name w → Holds name (record w { unread = put c rest w.unread; stream = stream })
takes_keep name w c items rest stream next step named h =
    let x : Command = Data (Publish 0 items) in
    let at = step.at in
    let d : Declaration = at.declaration in
    let frame : Frame = record { items = items; waits = true } in
    let e : Declaration = record d { frames = d.frames ++ frame ∷ []; known = known_by (items_of d) d.known w.stream.confirmed } in
    let old : List Declaration = at.before ++ d ∷ at.after in
    let new : List Declaration = at.before ++ e ∷ at.after in
    let turned_unused : (k : ℕ) → IsUnused name k w.stream.declarations → IsUnused name k new =
    λ k u. all_turned (λ (d : Declaration). d.name ≡ Some name → d.connection ≡ k → ⊥) at.before d e at.after (λ f. f) (subst (IsUnused name k) at.declared u) in
    let was : AllByRecursion (Of name (Ours name h.history w.unread)) old = subst (AllByRecursion (Of name (Ours name h.history w.unread))) at.declared h.declarations in
    let back = all_back (Of name (Ours name h.history w.unread)) at.before (d ∷ at.after) was in
    let apart : Apart name old = subst (Apart name) at.declared h.apart in
    let q : DeclFits name (h.history c) (w.unread c) d = subst (λ (k : ℕ). DeclFits name (h.history k) (w.unread k) d) at.of_connection (back.0 named) in
    let pushed : items_of e ≡ items_of d ++ items = flat_map-append (λ (f : Frame). f.items) d.frames (frame ∷ []) ∙ ap (λ (l : List Tagged). items_of d ++ l) (append-nil items) in
    let sent : items_of e ++ published rest ≡ (h.history c).sent =
    ap (λ (l : List Tagged). l ++ published rest) pushed ∙ append_assoc (items_of d) items (published rest) ∙ ap (λ (l : List Command). items_of d ++ published l) (sym next) ∙ q.unread_is at.stands in
    let fits : DeclFits name (h.history c) rest e =
    record { later = published rest; sent_is = sent; unread_is = λ t. sent; known_is = inr (knows name (h.history c).before (items_of d) d.known w.stream.confirmed q.known_is (h.pipes c).stood) } in
    let one : Of name (Ours name h.history (put c rest w.unread)) e =
    λ is. subst (λ (k : ℕ). DeclFits name (h.history k) (put c rest w.unread k) e) (sym at.of_connection) (at_put (λ (k : ℕ) (u : List Command). DeclFits name (h.history c) u e) c rest w.unread c (λ s. fits) (λ a. absurd (a refl))) in
    let all : AllByRecursion (Of name (Ours name h.history (put c rest w.unread))) new =
    all_append (Of name (Ours name h.history (put c rest w.unread))) at.before (e ∷ at.after)
    (popped_all name h.history w.unread c x rest next at.before (unused_may_go name c x at.before (subst (λ (k : ℕ). IsUnused name k at.before) at.of_connection (apart_before name at.before d at.after apart named)))
    (all_front (Of name (Ours name h.history w.unread)) at.before (d ∷ at.after) was)) (
      one,
      popped_all name h.history w.unread c x rest next at.after (unused_may_go name c x at.after (subst (λ (k : ℕ). IsUnused name k at.after) at.of_connection (apart_after name at.before d at.after apart named))) back.1,
    ) in
    subst (λ (s : Stream). Holds name (record w { unread = put c rest w.unread; stream = s })) (sym step.is) record {
      named = h.named;
      front = h.front;
      is = h.is;
      below = h.below;
      stood = h.stood;
      rises = h.rises;
      above = h.above;
      history = h.history;
      pipes = λ k. pipe_grows name w.stream _ w.all (h.history k) (λ id s. s) (h.pipes k);
      asks_fit = popped_asks name w h c x rest next;
      unasked = λ k. changed_at (λ (k : ℕ) (u : List Command). NoAsks name u ⊎ IsUnused name k new) w.unread c rest
          (λ f. popped_unasked name c new x rest (subst (λ (u : List Command). NoAsks name u ⊎ IsUnused name c new) next f)) k
          (either_unused name (w.unread k) k w.stream.declarations new (turned_unused k) (h.unasked k));
      declarations = all;
      apart = apart_turned name at.before d e at.after refl refl apart;
      line = changed_at (λ (k : ℕ) (u : List Command). LineFits name w.client h.front new (h.history k) u k) w.unread c rest
          (λ f. popped_line name w.client h.front new (h.history c) x rest c (subst (λ (u : List Command). LineFits name w.client h.front new (h.history c) u c) next f)) w.line
          (line_stream name w.client h.front w.stream.declarations new (h.history w.line) (w.unread w.line) w.line (turned_unused w.line) h.line);
    }

reads_keep : (name : List ℕ) (w : World) (c : ℕ) (x : Command) (rest : List Command) (stream : Stream) → w.unread c ≡ x ∷ rest → ReadStep name c w.stream x stream → Holds name w → Holds name (record w { unread = put c rest w.unread; stream = stream })
reads_keep name w c x rest stream next (ReadsName corr text is step) h =
    subst (λ (s : Stream). Holds name (record w { unread = put c rest w.unread; stream = s })) (sym step.is) (declares_keep name w c x rest next (corr, text, is) h)
reads_keep name w c x rest stream next (ReadsItems items is step named) h = takes_keep name w c items rest stream (next ∙ ap (λ (y : Command). y ∷ rest) is) step named h
reads_keep name w c x rest stream next (ReadsOn none is) h =
    subst (λ (s : Stream). Holds name (record w { unread = put c rest w.unread; stream = s })) (sym is) (passes_keep name w c x rest next none h)

pub serve_keeps : (name : List ℕ) (w : World) (c : ℕ) (x : Command) (new : World) → ServeStep name w c x new → Holds name w → Holds name new
serve_keeps name w c x new step h = subst (Holds name) (sym step.is) (reads_keep name w c x step.rest step.stream step.next step.reads h)
