-- The client's frames on a connection, in order: one declaration at most, and what is published stands behind it.
use Rattle.std.proofs.Common.{◌≡◌, ◌⊎◌, ℕ, List, [], ◌∷◌, ◌++◌, Option, Some, refl, sym, ap, ◌∙◌, inl, inr, append_assoc}
use Rattle.std.specs.List.{AllByRecursion}
use Rattle.std.proofs.lemmas.List.{append-nil}
use Rattle.command_data.specs.declared.item.Tagged.{Tagged}
use Rattle.command_data.specs.declared.command.DataCommand.TheVariants.{DeclarePublisher, Publish}
use Rattle.command_all.specs.declared.command.Command.{Command}
use Rattle.command_all.specs.declared.command.Command.TheVariants.{Data}
use Rattle.list_machine.proofs.Lists.{all_append}

abbrev pub published_in : Command → List Tagged
published_in (Data (Publish publisher items)) = items
published_in command = []

-- all that frames publish
abbrev pub published : List Command → List Tagged
published [] = []
published (x ∷ xs) = published_in x ++ published xs

-- the frame declares the name
abbrev pub IsAsk : List ℕ → Command → Type 0
IsAsk name command = (corr : ℕ) × (stream : Option (List ℕ)) × (command ≡ Data (DeclarePublisher corr 0 (Some name) stream))

abbrev pub NoAsks : List ℕ → List Command → Type 0
NoAsks name frames = AllByRecursion (λ (x : Command). IsAsk name x → ⊥) frames

-- the frame neither declares the name nor publishes
pub record Plain (name : List ℕ) (command : Command) : Type 0 where
  pub no_ask : IsAsk name command → ⊥
  pub no_items : published_in command ≡ []

-- Plain frames, and then any frame with none behind it that declares the name; if this one does, what is published behind it
-- is all that was sent.
abbrev pub AskFits : List ℕ → List Tagged → List Command → Type 0
AskFits name sent [] = Unit {0}
AskFits name sent (x ∷ xs) = (Plain name x × AskFits name sent xs) ⊎ (NoAsks name xs × (IsAsk name x → published xs ≡ sent))

pub no_asks_fit : (name : List ℕ) (sent : List Tagged) (xs : List Command) → NoAsks name xs → AskFits name sent xs
no_asks_fit name sent [] h = tt
no_asks_fit name sent (x ∷ xs) h = inr (h.1, λ a. absurd (h.0 a))

pub fits_popped : (name : List ℕ) (sent : List Tagged) (x : Command) (xs : List Command) → AskFits name sent (x ∷ xs) → AskFits name sent xs
fits_popped name sent x xs (inl h) = h.1
fits_popped name sent x xs (inr h) = no_asks_fit name sent xs h.0

pub published_append : (xs ys : List Command) → published (xs ++ ys) ≡ published xs ++ published ys
published_append [] ys = refl
published_append (x ∷ xs) ys = ap (λ (l : List Tagged). published_in x ++ l) (published_append xs ys) ∙ sym (append_assoc (published_in x) (published xs) (published ys))

pub no_asks_append : (name : List ℕ) (xs ys : List Command) → NoAsks name xs → NoAsks name ys → NoAsks name (xs ++ ys)
no_asks_append name xs ys a b = all_append (λ (x : Command). IsAsk name x → ⊥) xs ys a b

abbrev pub AllPlain : List ℕ → List Command → Type 0
AllPlain name frames = AllByRecursion (Plain name) frames

pub plain_publish_none : (name : List ℕ) (xs : List Command) → AllPlain name xs → published xs ≡ []
plain_publish_none name [] h = refl
plain_publish_none name (x ∷ xs) h = ap (λ (l : List Tagged). l ++ published xs) h.0.no_items ∙ plain_publish_none name xs h.1

pub plain_no_asks : (name : List ℕ) (xs : List Command) → AllPlain name xs → NoAsks name xs
plain_no_asks name [] h = tt
plain_no_asks name (x ∷ xs) h = (h.0.no_ask, plain_no_asks name xs h.1)

plain_fits : (name : List ℕ) (sent : List Tagged) (xs : List Command) → AllPlain name xs → AskFits name sent xs
plain_fits name sent [] h = tt
plain_fits name sent (x ∷ xs) h = inl (h.0, plain_fits name sent xs h.1)

-- frames behind them that publish these items and declare nothing
pub fits_sent : (name : List ℕ) (sent items : List Tagged) (xs ys : List Command) → published ys ≡ items → NoAsks name ys → AskFits name (sent ++ items) ys → AskFits name sent xs → AskFits name (sent ++ items) (xs ++ ys)
fits_sent name sent items [] ys e none f h = f
fits_sent name sent items (x ∷ xs) ys e none f (inl h) = inl (h.0, fits_sent name sent items xs ys e none f h.1)
fits_sent name sent items (x ∷ xs) ys e none f (inr h) =
    inr (no_asks_append name xs ys h.0 none, λ a. published_append xs ys ∙ ap (λ (l : List Tagged). l ++ published ys) (h.1 a) ∙ ap (λ (l : List Tagged). sent ++ l) e)

pub fits_plain : (name : List ℕ) (sent : List Tagged) (xs ys : List Command) → AllPlain name ys → AskFits name sent xs → AskFits name sent (xs ++ ys)
fits_plain name sent [] ys p h = plain_fits name sent ys p
fits_plain name sent (x ∷ xs) ys p (inl h) = inl (h.0, fits_plain name sent xs ys p h.1)
fits_plain name sent (x ∷ xs) ys p (inr h) = inr (no_asks_append name xs ys h.0 (plain_no_asks name ys p), λ a. published_plain name xs ys p ∙ h.1 a)
  where
    published_plain : (name : List ℕ) (xs ys : List Command) → AllPlain name ys → published (xs ++ ys) ≡ published xs
    published_plain name xs ys p = published_append xs ys ∙ ap (λ (l : List Tagged). published xs ++ l) (plain_publish_none name ys p) ∙ append-nil (published xs)

-- the declaration, behind plain frames
pub fits_asked : (name : List ℕ) (xs : List Command) (x : Command) → AllPlain name xs → AskFits name [] (xs ++ x ∷ [])
fits_asked name [] x h = inr (tt, λ a. refl)
fits_asked name (y ∷ xs) x h = inl (h.0, fits_asked name xs x h.1)
