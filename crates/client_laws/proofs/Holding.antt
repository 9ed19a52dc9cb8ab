-- What holds of each world along a run.
use Rattle.std.proofs.Common.{true, false, ◌≡◌, ◌⊎◌, ℕ, ◌+◌, ◌≤◌, List, [], ◌∷◌, ◌++◌, length, Some, refl, sym, ap, subst, ◌∙◌, inl, inr, append_assoc, arith}
use Rattle.std.specs.List.{AllByRecursion}
use Rattle.command_data.specs.declared.item.Tagged.{Tagged}
use Rattle.command_all.specs.declared.command.Command.{Command}
use Rattle.client_terms.specs.States.{ClientState, IsWithin}
use Rattle.list_machine.specs.Items.{Rises}
use Rattle.list_machine.specs.Streams.{Declaration, Stream, items_of}
use Rattle.list_machine.specs.Machines.{put}
use Rattle.list_machine.specs.Discipline.{IsConfirmed}
use Rattle.list_machine.proofs.Lists.{all_weaker}
use Rattle.client_laws.specs.Worlds.{World, numbered, IsUnused}
use Rattle.client_laws.proofs.Lists.{at_put}
use Rattle.client_laws.proofs.Alike.{Same, Of, Apart}
use Rattle.client_laws.proofs.Pipes.{published, NoAsks, AskFits, AllPlain}
use Rattle.client_laws.proofs.Inputs.{Resting, IsAsked}

-- of a connection: all messages before those that the client may send there, and all that it sent there
pub record History : Type 0 where
  pub before : List Tagged
  pub sent : List Tagged

abbrev pub Stood : List ℕ → Stream → ℕ → Type 0
Stood name stream id = IsConfirmed name stream.confirmed id

-- What was sent is a run of all messages, and those before it were confirmed.
pub record PipeFits (name : List ℕ) (stream : Stream) (all : List Tagged) (h : History) : Type 0 where
  pub rest : List Tagged
  pub run : all ≡ (h.before ++ h.sent) ++ rest
  pub stood : AllByRecursion (λ (x : Tagged). Stood name stream x.id) h.before

-- The items of a declaration begin what was sent; while it stands, what isn't read is the rest.
pub record DeclFits (name : List ℕ) (h : History) (unread : List Command) (d : Declaration) : Type 0 where
  pub later : List Tagged
  pub sent_is : items_of d ++ later ≡ h.sent
  pub unread_is : d.stands ≡ true → items_of d ++ published unread ≡ h.sent
  pub known_is : (items_of d ≡ []) ⊎ AllByRecursion (λ (x : Tagged). IsConfirmed name d.known x.id) h.before

abbrev pub Ours : List ℕ → (ℕ → History) → (ℕ → List Command) → Declaration → Type 0
Ours name history unread d = DeclFits name (history d.connection) (unread d.connection) d

-- The client sent, since the connection, the messages from `before` on to those that are `ahead` in its queue.
pub record Sending (n : ℕ) (queue : List (List ℕ)) (last : ℕ) (front : List Tagged) (h : History) : Type 0 where
  pub ahead : List (List ℕ)
  pub rest : List (List ℕ)
  pub queued_is : queue ≡ ahead ++ rest
  pub place_is : n + length ahead ≡ last
  pub run : front ++ numbered n ahead ≡ h.before ++ h.sent

-- its declaration wasn't sent yet, and so no message
pub record Unasked (name : List ℕ) (h : History) (unread : List Command) (line : ℕ) (declarations : List Declaration) : Type 0 where
  pub plain : AllPlain name unread
  pub none_sent : h.sent ≡ []
  pub unused : IsUnused name line declarations

pub record Linking (name : List ℕ) (s : ClientState) (front : List Tagged) (h : History) (unread : List Command) (line : ℕ) (declarations : List Declaration) : Type 0 where
  pub sending : Sending s.confirmed s.queue s.last front h
  pub asked : IsAsked s ⊎ Unasked name h unread line declarations

abbrev pub LineFits : List ℕ → ClientState → List Tagged → List Declaration → History → List Command → ℕ → Type 0
LineFits name s front declarations h unread line = Resting s ⊎ Linking name s front h unread line declarations

pub record Holds (name : List ℕ) (w : World) : Type 0 where
  pub named : w.client.name ≡ Some name
  pub front : List Tagged
  pub is : w.all ≡ front ++ numbered w.client.confirmed w.client.queue
  pub below : AllByRecursion (λ (x : Tagged). x.id ≤ w.client.confirmed) front
  pub stood : AllByRecursion (λ (x : Tagged). Stood name w.stream x.id) front
  pub rises : Rises w.all
  pub above : (id : ℕ) → IsWithin w.client.above id → Stood name w.stream id × (id ≤ w.client.last)
  pub history : ℕ → History
  pub pipes : (c : ℕ) → PipeFits name w.stream w.all (history c)
  pub asks_fit : (c : ℕ) → AskFits name (history c).sent (w.unread c)
  pub unasked : (c : ℕ) → NoAsks name (w.unread c) ⊎ IsUnused name c w.stream.declarations
  pub declarations : AllByRecursion (Of name (Ours name history w.unread)) w.stream.declarations
  pub apart : Apart name w.stream.declarations
  pub line : LineFits name w.client front w.stream.declarations (history w.line) (w.unread w.line) w.line

pub pipe_grows : (name : List ℕ) (old new : Stream) (all : List Tagged) (h : History) → ((id : ℕ) → Stood name old id → Stood name new id) → PipeFits name old all h → PipeFits name new all h
pipe_grows name old new all h grow p = record { rest = p.rest; run = p.run; stood = all_weaker (λ (x : Tagged). Stood name old x.id) (λ (x : Tagged). Stood name new x.id) (λ x. grow x.id) h.before p.stood }

pub decl_same : (name : List ℕ) (history : ℕ → History) (unread : ℕ → List Command) (d e : Declaration) → Same name d e → d.name ≡ Some name → Ours name history unread d → Ours name history unread e
decl_same name history unread d e s named q =
    let items = s.keeps_items named in
    subst (λ (c : ℕ). DeclFits name (history c) (unread c) e) (sym s.keeps_connection) record {
      later = q.later;
      sent_is = ap (λ (l : List Tagged). l ++ q.later) items ∙ q.sent_is;
      unread_is = λ t. ap (λ (l : List Tagged). l ++ published (unread d.connection)) items ∙ q.unread_is (s.stood t);
      known_is = elim q.known_is [
        | inl none ↦ inl (items ∙ none)
        | inr k ↦ inr (subst (λ (l : _). AllByRecursion (λ (x : Tagged). IsConfirmed name l x.id) (history d.connection).before) (sym (s.keeps_known named)) k)
      ];
    }

-- the frames of one connection change
pub changed_at : (P : ℕ → List Command → Type 0) (unread : ℕ → List Command) (c : ℕ) (frames : List Command) → (P c (unread c) → P c frames) → (k : ℕ) → P k (unread k) → P k (put c frames unread k)
changed_at P unread c frames f k p = at_put P c frames unread k (λ e. subst (λ (j : ℕ). P j frames) (sym e) (f (subst (λ (j : ℕ). P j (unread j)) e p))) (λ apart. p)
