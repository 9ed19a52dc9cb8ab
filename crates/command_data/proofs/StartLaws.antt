-- Where a subscription begins in a list of chunks that goes on.
use Rattle.std.proofs.Common.{◌≡◌, ℕ, ℤ, Bool, true, false, cond, List, [], ◌∷◌, ◌++◌, Option, Some, None, refl, ap, ◌∙◌}
use Rattle.std.specs.Prelude.{option_map, unwrap_or, filter, find}
use Rattle.std.specs.List.{last_or}
use Rattle.std.specs.Option.{option_or}
use Rattle.std.proofs.lemmas.List.{append-nil}
use Rattle.std.proofs.lemmas.List.Elements.{filter-append}
use Rattle.std.proofs.lemmas.List.Folds.{find-append}
use Rattle.chunk_format.specs.declared.chunk.Chunk.{Chunk}
use Rattle.chunk_format.specs.Logs.{end_of, is_user, is_since, last_user, first_since}
use Rattle.chunk_format.proofs.LinkLaws.{end_join}
use Rattle.command_fields.specs.declared.offset.OffsetSpec.TheVariants.{Last, Since}
use Rattle.command_data.specs.Starts.{StartOf, StartsGoOn}

abbrev user : Chunk → Bool
user c = is_user c.kind

abbrev first : Chunk → ℕ
first c = c.first

last_pushed : (o : Option Chunk) (xs : List Chunk) (c : Chunk) → last_or o (xs ++ c ∷ []) ≡ Some c
last_pushed o [] c = refl
last_pushed o (x ∷ xs) c = last_pushed (Some x) xs c

-- the user chunks of a list and one chunk more
users_pushed : (chunks : List Chunk) (c : Chunk) (b : Bool) → is_user c.kind ≡ b → filter user (chunks ++ c ∷ []) ≡ filter user chunks ++ cond b (c ∷ []) []
users_pushed chunks c b is = filter-append user chunks (c ∷ []) ∙ ap (λ (t : Bool). filter user chunks ++ cond t (c ∷ []) []) is

user_is_last : (chunks : List Chunk) (c : Chunk) → is_user c.kind ≡ true → StartOf Last (chunks ++ c ∷ []) ≡ c.first
user_is_last chunks c is =
    ap (λ (o : Option Chunk). unwrap_or (option_map first o) (end_of (chunks ++ c ∷ []))) (ap (last_or None) (users_pushed chunks c true is) ∙ last_pushed None (filter user chunks) c)

last_stays : (chunks : List Chunk) (c : Chunk) (at : ℕ) → is_user c.kind ≡ false → last_user chunks ≡ Some at → StartOf Last (chunks ++ c ∷ []) ≡ at
last_stays chunks c at other last =
    ap (λ (o : Option Chunk). unwrap_or (option_map first o) (end_of (chunks ++ c ∷ []))) (ap (last_or None) (users_pushed chunks c false other ∙ append-nil (filter user chunks)))
    ∙ ap (λ (o : Option ℕ). unwrap_or o (end_of (chunks ++ c ∷ []))) last

-- what is found in two parts
since_join : (moment : ℤ) (a b : List Chunk) → first_since moment (a ++ b) ≡ option_map first (option_or (find (is_since moment) a) (find (is_since moment) b))
since_join moment a b = ap (option_map first) (find-append (is_since moment) a b)

found : (a b : Option Chunk) (at : ℕ) → option_map first a ≡ Some at → option_map first (option_or a b) ≡ Some at
found (Some c) b at e = e
found None b at e = absurd cc

later : (a b : Option Chunk) → option_map first a ≡ None → option_map first (option_or a b) ≡ option_map first b
later (Some c) b e = absurd cc
later None b e = refl

found_stays : (moment : ℤ) (chunks more : List Chunk) (at : ℕ) → first_since moment chunks ≡ Some at → StartOf (Since moment) (chunks ++ more) ≡ at
found_stays moment chunks more at is = ap (λ (o : Option ℕ). unwrap_or o (end_of (chunks ++ more))) (since_join moment chunks more ∙ found (find (is_since moment) chunks) (find (is_since moment) more) at is)

found_later : (moment : ℤ) (chunks : List Chunk) (c : Chunk) → first_since moment chunks ≡ None → is_since moment c ≡ true → StartOf (Since moment) (chunks ++ c ∷ []) ≡ c.first
found_later moment chunks c none is =
    ap (λ (o : Option ℕ). unwrap_or o (end_of (chunks ++ c ∷ [])))
    (since_join moment chunks (c ∷ []) ∙ later (find (is_since moment) chunks) (find (is_since moment) (c ∷ [])) none ∙ ap (λ (t : Bool). option_map first (cond t (Some c) None)) is)

pub starts_go_on : StartsGoOn
starts_go_on = record { end_moves = λ chunks more. end_join 0 chunks more; user_is_last = user_is_last; last_stays = last_stays; found_stays = found_stays; found_later = found_later }
