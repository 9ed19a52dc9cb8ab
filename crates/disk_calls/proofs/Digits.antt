-- Numbers in 20 digits.
use Rattle.std.specs.Result.{result_ok}
use Rattle.std.proofs.Common.{Option, Some, Ok, Err, IfSome, IfOk, ◌==◌, true, false, rules, slice_index, ◌≡◌, ◌≢◌, inl, inr, ℕ, zero, suc, ◌+◌, ◌-◌, ◌^◌, ◌<◌, ◌≤◌, List, [], ◌∷◌, ◌++◌, length, replicate, Result, refl, sym, ◌∙◌, ap, subst, arith, length-append}
use Rattle.std.proofs.lemmas.Bool.{cases_eq}
use Rattle.std.proofs.lemmas.List.{length-replicate, append-nil}
use Rattle.std.proofs.lemmas.Fmt.{decimal-digits_value, decimal_is_IsNumeral, length-decimal-le}
use Rattle.std.proofs.lemmas.Str.Parse.{IsNumeralModel, numerals_by_value, tells_digits, parse_gives, parse_plain, not_in_digits}
use Rattle.std.specs.Fmt.{decimal, char_count}
use Rattle.std.specs.Str.Parse.{AllDigits, digits_value, ParsesUnsigned}
use Rattle.disk_calls.specs.FileNames.{twenty_digits}

pub own : IsNumeralModel (AllDigits 10) (digits_value 10)
own = numerals_by_value (AllDigits 10) tells_digits

-- zeros in front
zeros_value : (k : ℕ) (ds : List ℕ) → digits_value 10 (replicate k 48 ++ ds) ≡ digits_value 10 ds
zeros_value zero ds = refl
zeros_value (suc k) ds = zeros_value k ds

zeros_digits : (k : ℕ) (ds : List ℕ) → AllDigits 10 ds → AllDigits 10 (replicate k 48 ++ ds)
zeros_digits zero ds all = all
zeros_digits (suc k) ds all = (omega arith, zeros_digits k ds all)

pub twenty_are_digits : (n : ℕ) → n < 2 ^ 64 → AllDigits 10 (twenty_digits n)
unfolding twenty_digits
twenty_are_digits n lt = zeros_digits (20 - length (decimal n)) (decimal n) (decimal_is_IsNumeral n lt).0.1

pub twenty_value : (n : ℕ) → n < 2 ^ 64 → digits_value 10 (twenty_digits n) ≡ n
unfolding twenty_digits
twenty_value n lt = zeros_value (20 - length (decimal n)) (decimal n) ∙ (decimal_is_IsNumeral n lt).1

pub length-twenty : (n : ℕ) → n < 2 ^ 64 → length (twenty_digits n) ≡ 20
unfolding twenty_digits
length-twenty n lt =
    let short : length (decimal n) ≤ 20 = length-decimal-le 20 n (omega arith) (omega arith) lt in
    omega (arith, short, length-append (replicate (20 - length (decimal n)) 48) (decimal n), length-replicate {A = ℕ} (20 - length (decimal n)) 48)

no_zeros : (ds : List ℕ) (spelled : List ℕ) → spelled ≡ ds → replicate (length ds - length spelled) 48 ++ spelled ≡ ds
no_zeros ds spelled is =
    let none : length ds - length spelled ≡ 0 = omega (arith, ap length is) in
    ap (λ (k : ℕ). replicate k 48 ++ spelled) none ∙ is

one_zero : (ds spelled : List ℕ) → replicate (length ds - length spelled) 48 ++ spelled ≡ ds → replicate (length (48 ∷ ds) - length spelled) 48 ++ spelled ≡ 48 ∷ ds
one_zero ds spelled is =
    let size : length ds ≡ length ds - length spelled + length spelled = sym (ap length is) ∙ length-append (replicate (length ds - length spelled) 48) spelled ∙ ap (λ (k : ℕ). k + length spelled) (length-replicate {A = ℕ} (length ds - length spelled) 48) in
    let one : length (48 ∷ ds) - length spelled ≡ suc (length ds - length spelled) = omega (arith, size) in
    ap (λ (k : ℕ). replicate k 48 ++ spelled) one ∙ ap (λ (l : List ℕ). 48 ∷ l) is

-- digits are those of their value, with zeros in front
padded_again : (ds : List ℕ) → AllDigits 10 ds → 0 < length ds → digits_value 10 ds < 2 ^ 64 → replicate (length ds - length (decimal (digits_value 10 ds))) 48 ++ decimal (digits_value 10 ds) ≡ ds
padded_again [] all some small = absurd (omega arith)
padded_again (d ∷ []) all some small = no_zeros (d ∷ []) (decimal (digits_value 10 (d ∷ []))) (decimal-digits_value own (d ∷ []) all some (λ is. refl) small)
padded_again (d ∷ (e ∷ es)) all some small = elim (cases_eq d 48) [
  | inl is ↦ subst (λ (x : ℕ). digits_value 10 (x ∷ (e ∷ es)) < 2 ^ 64 → replicate (length (x ∷ (e ∷ es)) - length (decimal (digits_value 10 (x ∷ (e ∷ es))))) 48 ++ decimal (digits_value 10 (x ∷ (e ∷ es))) ≡ x ∷ (e ∷ es)) (sym is) (λ less. one_zero (e ∷ es) (decimal (digits_value 10 (e ∷ es))) (padded_again (e ∷ es) all.1 (omega arith) less)) small
  | inr other ↦ no_zeros (d ∷ (e ∷ es)) (decimal (digits_value 10 (d ∷ (e ∷ es)))) (decimal-digits_value own (d ∷ (e ∷ es)) all some (λ is. absurd (other is)) small)
]

pub twenty_again : (ds : List ℕ) → AllDigits 10 ds → length ds ≡ 20 → digits_value 10 ds < 2 ^ 64 → ds ≡ twenty_digits (digits_value 10 ds)
unfolding twenty_digits
twenty_again ds all size small =
    sym (padded_again ds all (omega arith) small)
    ∙ ap (λ (k : ℕ). replicate (k - length (decimal (digits_value 10 ds))) 48 ++ decimal (digits_value 10 ds)) size

no_sign : (n : ℕ) → false ≡ (n == 43) → n ≢ 43
no_sign n not is = search rules

a_sign : (n : ℕ) → true ≡ (n == 43) → n ≡ 43
a_sign n is = search rules

pub signed_none : (ds : List ℕ) (first : ℕ) → first < 2 ^ 64 → ds ≡ twenty_digits first → true ≡ (slice_index ds 0 == 43) → ⊥
signed_none ds first lt spelled sign =
    let digits : AllDigits 10 ds = subst (AllDigits 10) (sym spelled) (twenty_are_digits first lt) in
    let size : length ds ≡ 20 = ap length spelled ∙ length-twenty first lt in
    not_in_digits own ds 43 digits (λ range. omega (arith, range)) 0 (omega (arith, size)) (a_sign (slice_index ds 0) sign)

number_found : {E : Type 0} (ds : List ℕ) (r : Result ℕ E) → ParsesUnsigned 64 10 ds r → length ds ≡ 20 → slice_index ds 0 ≢ 43 → IfSome (result_ok r) (λ first. (ds ≡ twenty_digits first) × (first < 2 ^ 64))
number_found {E} ds (Ok n) parses size plain =
    let of = parse_plain own {E = E} 64 ds (Ok n) parses plain in
    let again : ds ≡ twenty_digits n = twenty_again ds of.0.0 size of.0.2 ∙ ap twenty_digits (sym of.1) in
    (again, omega (arith, of.1, of.0.2))
number_found ds (Err e) parses size plain = tt

pub parsed_found : {E : Type 0} (ds : List ℕ) (r : Result ℕ E) (o : Option ℕ) → ParsesUnsigned 64 10 ds r → length ds ≡ 20 → false ≡ (slice_index ds 0 == 43) → o ≡ result_ok r → IfSome o (λ first. (ds ≡ twenty_digits first) × (first < 2 ^ 64))
parsed_found ds r o parses size plain is = subst (λ (x : Option ℕ). IfSome x (λ first. (ds ≡ twenty_digits first) × (first < 2 ^ 64))) (sym is) (number_found ds r parses size (no_sign (slice_index ds 0) plain))

pub parsed_all : {E : Type 0} (ds : List ℕ) (r : Result ℕ E) (o : Option ℕ) → ParsesUnsigned 64 10 ds r → o ≡ result_ok r → (first : ℕ) → first < 2 ^ 64 → ds ≡ twenty_digits first → o ≡ Some first
parsed_all ds r o parses is first lt spelled =
    let digits : AllDigits 10 ds = subst (AllDigits 10) (sym spelled) (twenty_are_digits first lt) in
    let value : digits_value 10 ds ≡ first = ap (digits_value 10) spelled ∙ twenty_value first lt in
    let size : length ds ≡ 20 = ap length spelled ∙ length-twenty first lt in
    let given : r ≡ Ok (digits_value 10 ds) = parse_gives own 64 ds r parses digits (omega (arith, size)) (omega (arith, value, lt)) in
    is ∙ ap result_ok given ∙ ap (λ (n : ℕ). Some n) value

pub no_number : (ds : List ℕ) (first : ℕ) → first < 2 ^ 64 → ds ≡ twenty_digits first → length ds ≢ 20 → ⊥
no_number ds first lt spelled other = other (ap length spelled ∙ length-twenty first lt)

-- what a number shown in 20 digits is, before an ending
pub shown_twenty : (n : ℕ) (end : List ℕ) → replicate (20 - length (decimal n) - 0 - char_count []) 48 ++ (decimal n ++ []) ++ end ≡ twenty_digits n ++ end
unfolding twenty_digits char_count
shown_twenty n end = ap (λ (l : List ℕ). replicate (20 - length (decimal n) - 0 - 0) 48 ++ l ++ end) (append-nil (decimal n)) ∙ ap (λ (k : ℕ). replicate k 48 ++ decimal n ++ end) (let e : 20 - length (decimal n) - 0 - 0 ≡ 20 - length (decimal n) = omega arith in e)

pub ok_as : {T E : Type 0} (r : Result T E) (f : T → List ℕ) (xs ys : List ℕ) → xs ≡ ys → IfOk r (λ s. f s ≡ xs) → IfOk r (λ s. f s ≡ ys)
ok_as (Ok s) f xs ys is of = of ∙ is
ok_as (Err e) f xs ys is of = tt
