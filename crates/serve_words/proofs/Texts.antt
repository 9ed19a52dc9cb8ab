-- Words that are texts.
use Rattle.std.proofs.Common.{◌≡◌, ◌<◌, ◌≤◌, ◌+◌, ◌++◌, ◌∷◌, [], ℕ, List, length, take, get_or, map, sym, ap, subst, ◌∙◌}
use Rattle.std.specs.Prelude.{All}
use Rattle.std.specs.Str.{IsUtf8}
use Rattle.std.proofs.lemmas.List.{take_all, take_more, map_push}
use Rattle.std.proofs.lemmas.List.Elements.{All-more}
use Rattle.serve_words.specs.Asked.{AreTexts, Takes, AskFor}
use Rattle.serve_words.specs.declared.words.ServeWords.{ServeWords}

pub not_a_text : (words : List (List ℕ)) (i : ℕ) (word bytes : List ℕ) → word ≡ get_or words i word → i < length words → bytes ≡ word → (IsUtf8 bytes → ⊥) → All IsUtf8 words → ⊥
not_a_text words i word bytes is lt same none all = none (subst IsUtf8 (sym (same ∙ is)) (all i word lt))

pub text_more : {T : Type 0} (f : T → List ℕ) (words : List (List ℕ)) (texts more : List T) (i : ℕ) (word bytes : List ℕ) (text : T) → AreTexts (take i words) (map f texts) → word ≡ get_or words i word → i < length words → bytes ≡ word → f text ≡ bytes → IsUtf8 bytes → more ≡ texts ++ text ∷ [] → AreTexts (take (i + 1) words) (map f more)
text_more {T} f words texts more i word bytes text so is lt same read utf8 added = (
  ap (map f) added ∙ map_push f texts text ∙ ap (λ (t : List ℕ). map f texts ++ t ∷ []) (read ∙ same ∙ is) ∙ ap (λ (ts : List (List ℕ)). ts ++ get_or words i word ∷ []) so.0 ∙ sym (take_more words i word lt),
  All-more IsUtf8 words i word lt so.1 (subst IsUtf8 (same ∙ is) utf8),
)

pub texts_all : (words texts : List (List ℕ)) (i : ℕ) → AreTexts (take i words) texts → length words ≤ i → AreTexts words texts
texts_all words texts i so le = subst (λ (ws : List (List ℕ)). AreTexts ws texts) (take_all i words le) so

pub not_asked : (words texts : List (List ℕ)) (asked : ServeWords) → texts ≡ words → (Takes texts asked → ⊥) → AskFor words asked → ⊥
not_asked words texts asked same none is = none (subst (λ (ts : List (List ℕ)). Takes ts asked) (sym same) is.1)
