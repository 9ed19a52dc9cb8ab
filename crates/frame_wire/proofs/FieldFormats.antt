-- The formats of the fields are lawful: numbers, texts, blobs and counts.
use Rattle.std.proofs.Common.{◌≡◌, ℕ, ℤ, ◌+◌, ◌-◌, ◌%◌, ◌^◌, ◌<◌, ◌≤◌, true, false, cond, ltb, eqb, List, [], ◌∷◌, ◌++◌, length, take, drop, Option, Some, None, Result, Ok, Err, FitsSigned, refl, sym, ap, subst, ◌∙◌, append_assoc, arith, inl, inr}
use Rattle.std.specs.Int.{Width, w8, w16, w32, w64, byte_len, from_be_bytes, cast_signed, cast_unsigned}
use Rattle.std.proofs.lemmas.Bool.{ltb-false, le-ltb, ltb-true, lt-ltb, eqb-true, eqb-false, ne_eqb}
use Rattle.std.proofs.lemmas.List.{take_at, drop_at, take-append-drop, length-append, length-take, length-drop, drop-drop}
use Rattle.std.proofs.lemmas.Nat.{be_bytes_2, be_bytes_4, be_bytes_8}
use Rattle.std.proofs.lemmas.Int.{to_z-of_z, of_z-to_z}
use Rattle.std.proofs.Math.Facts.{sfits_to_z, Fits-of_lt, Fits-of_z}
use Rattle.frame_wire.specs.declared.fault.FieldFault.{FieldFault}
use Rattle.frame_wire.specs.declared.fault.FieldFault.TheVariants.{Short, Negative}
use Rattle.frame_wire.specs.Fields.{u8_bytes, u16_bytes, u32_bytes, u64_bytes, i64_bytes, text_bytes}
use Rattle.frame_wire.specs.Reading.{Spot, past, number_of, number_at, signed_at, bytes_at, counted_at, count_at}
use Rattle.frame_wire.specs.Formats.{Format, Spelled, NumberWrong, CountedWrong, CountWrong, u8_field, u16_field, u32_field, u64_field, i64_field, text_field, blob_field, count_field}
use Rattle.frame_wire.specs.Laws.{IsBytes, Lawful}
use Rattle.frame_wire.proofs.FieldLaws.{u8_length, u16_length, u32_length, u64_length, u8_back, u16_back, u32_back, u64_back}
use Rattle.frame_wire.proofs.Steps.{IsBytes-take, guard_ok, guard_err, chosen, ok_is, no_both, again_at}

-- ---- numbers

-- how numbers below a limit are spelled in so many bytes
pub record IsWide (w : Width) (spell : ℕ → List ℕ) (limit : ℕ) : Type 0 where
  pub len : (n : ℕ) → length (spell n) ≡ byte_len w
  pub whole : (bytes : List ℕ) → length bytes ≡ byte_len w → IsBytes bytes → spell (from_be_bytes w bytes) ≡ bytes
  pub back : (n : ℕ) → n < limit → from_be_bytes w (spell n) ≡ n
  pub below : (bytes : List ℕ) → IsBytes bytes → from_be_bytes w bytes < limit

whole8 : (bytes : List ℕ) → length bytes ≡ 1 → IsBytes bytes → u8_bytes (from_be_bytes w8 bytes) ≡ bytes
unfolding u8_bytes
whole8 [] len fits = absurd (omega arith)
whole8 (b ∷ []) len fits = let h : b < 256 = fits 0 in let e : b % 256 ≡ b = omega arith in ap (λ (x : ℕ). x ∷ []) e
whole8 (b ∷ c ∷ bs) len fits = absurd (omega arith)

whole16 : (bytes : List ℕ) → length bytes ≡ 2 → IsBytes bytes → u16_bytes (from_be_bytes w16 bytes) ≡ bytes
unfolding u16_bytes
whole16 bytes len fits = be_bytes_2 bytes _ len fits refl

whole32 : (bytes : List ℕ) → length bytes ≡ 4 → IsBytes bytes → u32_bytes (from_be_bytes w32 bytes) ≡ bytes
unfolding u32_bytes
whole32 bytes len fits = be_bytes_4 bytes _ len fits refl

whole64 : (bytes : List ℕ) → length bytes ≡ 8 → IsBytes bytes → u64_bytes (from_be_bytes w64 bytes) ≡ bytes
unfolding u64_bytes
whole64 bytes len fits = be_bytes_8 bytes _ len fits refl

wide8 : IsWide w8 u8_bytes (2 ^ 8)
wide8 = record { len = u8_length; whole = whole8; back = u8_back; below = λ bytes fits. omega (arith, fits 0) }

wide16 : IsWide w16 u16_bytes (2 ^ 16)
wide16 = record { len = u16_length; whole = whole16; back = u16_back; below = λ bytes fits. omega (arith, fits 0, fits 1) }

pub wide32 : IsWide w32 u32_bytes (2 ^ 32)
wide32 = record { len = u32_length; whole = whole32; back = u32_back; below = λ bytes fits. omega (arith, fits 0, fits 1, fits 2, fits 3) }

wide64 : IsWide w64 u64_bytes (2 ^ 64)
wide64 = record {
  len = u64_length;
  whole = whole64;
  back = u64_back;
  below = λ bytes fits. omega (arith, fits 0, fits 1, fits 2, fits 3, fits 4, fits 5, fits 6, fits 7);
}

-- a number at the front of bytes
number_front : (w : Width) (spell : ℕ → List ℕ) (limit : ℕ) → IsWide w spell limit → (bytes : List ℕ) → IsBytes bytes → byte_len w ≤ length bytes
    → (bytes ≡ spell (number_of w bytes) ++ drop (byte_len w) bytes) × (number_of w bytes < limit)
number_front w spell limit wide bytes fits long =
    let front = take (byte_len w) bytes in
    let front_fits : IsBytes front = IsBytes-take (byte_len w) bytes fits in
    let len : length front ≡ byte_len w = omega (arith, length-take (byte_len w) bytes) in
    (sym (take-append-drop (byte_len w) bytes) ∙ ap (λ (x : List ℕ). x ++ drop (byte_len w) bytes) (sym (wide.whole front len front_fits)), wide.below front front_fits)

-- the number that a spelling begins with
pub number_first : (w : Width) (spell : ℕ → List ℕ) (limit : ℕ) → IsWide w spell limit → (n : ℕ) (more : List ℕ) → n < limit → number_of w (spell n ++ more) ≡ n
number_first w spell limit wide n more lt = ap (from_be_bytes w) (take_at (spell n) more (byte_len w) (wide.len n)) ∙ wide.back n lt

long_first : (w : Width) (spell : ℕ → List ℕ) (limit : ℕ) → IsWide w spell limit → (n : ℕ) (more : List ℕ) → ltb (length (spell n ++ more)) (byte_len w) ≡ false
long_first w spell limit wide n more = le-ltb _ _ (omega (arith, wide.len n, length-append (spell n) more))

behind_first : (w : Width) (spell : ℕ → List ℕ) (limit : ℕ) → IsWide w spell limit → (n : ℕ) (more : List ℕ) → drop (byte_len w) (spell n ++ more) ≡ more
behind_first w spell limit wide n more = drop_at (spell n) more (byte_len w) (wide.len n)

abbrev number : (w : Width) (spell : ℕ → List ℕ) (limit : ℕ) → Format ℕ FieldFault
number w spell limit = record { spell = spell; Fits = λ n. n < limit; read = number_at w; Wrong = NumberWrong (byte_len w) }

number_refuses : (w : Width) (s : Spot) (fault : FieldFault) → NumberWrong (byte_len w) s fault → number_at w s ≡ Err fault
number_refuses w s (Short place) h = rw (lt-ltb _ _ h.0) (ap (λ (p : ℕ). Err (Short p)) (sym h.1))
number_refuses w s (Negative place) h = absurd h

number_lawful : (w : Width) (spell : ℕ → List ℕ) (limit : ℕ) → IsWide w spell limit → Lawful (number w spell limit)
number_lawful w spell limit wide = record {
  takes = λ s x t fits e.
      let f = number w spell limit in
      let n = number_of w s.rest in
      let g = guard_ok (ltb (length s.rest) (byte_len w)) (Short s.at) (Ok (n, past (byte_len w) s)) (x, t) e in
      let front = number_front w spell limit wide s.rest fits (ltb-false _ _ g.0) in
      let made : ℕ × Spot = (n, past (byte_len w) s) in
      let stands : Spelled f s made.0 made.1 = record { fits = front.1; parts = front.0; moved = ap (λ (k : ℕ). s.at + k) (sym (wide.len n)) } in
      subst (λ (y : ℕ × Spot). Spelled f s y.0 y.1) (ok_is made (x, t) g.1) stands;
  again = λ s x t spelled.
      let found : number_at w (record { at = s.at; rest = spell x ++ t.rest }) ≡ Ok (x, record { at = s.at + length (spell x); rest = t.rest }) =
      rw (long_first w spell limit wide x t.rest, number_first w spell limit wide x t.rest spelled.fits, behind_first w spell limit wide x t.rest, wide.len x) refl in
      again_at (number w spell limit) s x t found spelled;
  fails = λ s fault fits e.
      elim (guard_err (ltb (length s.rest) (byte_len w)) (Short s.at) (Ok (number_of w s.rest, past (byte_len w) s)) fault e) [
        | inl h ↦ subst (NumberWrong (byte_len w) s) h.1 (ltb-true _ _ h.0, refl)
        | inr h ↦ absurd (no_both _ _ h.1)
      ];
  refuses = number_refuses w;
}

pub u8_lawful : Lawful u8_field
u8_lawful = number_lawful w8 u8_bytes (2 ^ 8) wide8

pub u16_lawful : Lawful u16_field
u16_lawful = number_lawful w16 u16_bytes (2 ^ 16) wide16

pub u32_lawful : Lawful u32_field
u32_lawful = number_lawful w32 u32_bytes (2 ^ 32) wide32

pub u64_lawful : Lawful u64_field
u64_lawful = number_lawful w64 u64_bytes (2 ^ 64) wide64

-- ---- bytes with their length first, or null

record IsCounted (w : Width) (spell : ℕ → List ℕ) (greatest null : ℕ) (f : Format (Option (List ℕ)) FieldFault) : Type 0 where
  wide : IsWide w spell (null + 1)
  below : greatest < null
  none : f.spell None ≡ spell null
  some : (bytes : List ℕ) → f.spell (Some bytes) ≡ spell (length bytes) ++ bytes
  fits_none : f.Fits None
  fits_some : (bytes : List ℕ) → length bytes ≤ greatest → f.Fits (Some bytes)
  small : (bytes : List ℕ) → f.Fits (Some bytes) → length bytes ≤ greatest
  read : (s : Spot) → f.read s ≡ counted_at w greatest null s

null_spelled : (w : Width) (spell : ℕ → List ℕ) (greatest null : ℕ) (f : Format (Option (List ℕ)) FieldFault) → IsCounted w spell greatest null f
    → (s : Spot) (n : ℕ) → s.rest ≡ spell n ++ drop (byte_len w) s.rest → n ≡ null → Spelled f s None (past (byte_len w) s)
null_spelled w spell greatest null f c s n front is =
    let behind = drop (byte_len w) s.rest in
    record {
      fits = c.fits_none;
      parts = front ∙ ap (λ (m : ℕ). spell m ++ behind) is ∙ ap (λ (y : List ℕ). y ++ behind) (sym c.none);
      moved = ap (λ (m : ℕ). s.at + m) (sym (c.wide.len null) ∙ ap length (sym c.none));
    }

some_spelled : (w : Width) (spell : ℕ → List ℕ) (greatest null : ℕ) (f : Format (Option (List ℕ)) FieldFault) → IsCounted w spell greatest null f
    → (s : Spot) (n : ℕ) → s.rest ≡ spell n ++ drop (byte_len w) s.rest → n ≤ greatest → n ≤ length (drop (byte_len w) s.rest) → Spelled f s (Some (take n (drop (byte_len w) s.rest))) (past n (past (byte_len w) s))
some_spelled w spell greatest null f c s n front small there =
    let k = byte_len w in
    let behind = drop k s.rest in
    let body = take n behind in
    let len : length body ≡ n = omega (arith, length-take n behind) in
    let spelled : spell n ++ body ≡ f.spell (Some body) = ap (λ (m : ℕ). spell m ++ body) (sym len) ∙ sym (c.some body) in
    record {
      fits = c.fits_some body (omega arith);
      parts = front ∙ ap (λ (y : List ℕ). spell n ++ y) (sym (take-append-drop n behind)) ∙ sym (append_assoc (spell n) body (drop n behind)) ∙ ap (λ (y : List ℕ). y ++ drop n behind) spelled;
      moved = rw (← spelled) (omega (arith, length-append (spell n) body, c.wide.len n));
    }

counted_takes : (w : Width) (spell : ℕ → List ℕ) (greatest null : ℕ) (f : Format (Option (List ℕ)) FieldFault) → IsCounted w spell greatest null f
    → (s : Spot) (x : Option (List ℕ)) (t : Spot) → IsBytes s.rest → counted_at w greatest null s ≡ Ok (x, t) → Spelled f s x t
unfolding counted_at
counted_takes w spell greatest null f c s x t fits e =
    let k = byte_len w in
    let n = number_of w s.rest in
    let behind : Spot = past k s in
    let body = take n behind.rest in
    let text = cond {A = Result (Option (List ℕ) × Spot) FieldFault} (ltb greatest n) (Err (Negative s.at)) (bytes_at s.at n behind) in
    let g = guard_ok (ltb (length s.rest) k) (Short s.at) (cond (eqb n null) (Ok (None, behind)) text) (x, t) e in
    let front = number_front w spell (null + 1) c.wide s.rest fits (ltb-false _ _ g.0) in
    elim (chosen (eqb n null) (Ok (None, behind)) text (Ok (x, t)) g.1) [
      | inl h ↦
          let stands = null_spelled w spell greatest null f c s n front.0 (eqb-true n null h.0) in
          subst (λ (y : Option (List ℕ) × Spot). Spelled f s y.0 y.1) (ok_is (None, behind) (x, t) h.1) stands
      | inr h ↦
          let a = guard_ok (ltb greatest n) (Negative s.at) (bytes_at s.at n behind) (x, t) h.1 in
          let b = guard_ok (ltb (length behind.rest) n) (Short s.at) (Ok (Some body, past n behind)) (x, t) a.1 in
          let stands = some_spelled w spell greatest null f c s n front.0 (ltb-false _ _ a.0) (ltb-false _ _ b.0) in
          subst (λ (y : Option (List ℕ) × Spot). Spelled f s y.0 y.1) (ok_is (Some body, past n behind) (x, t) b.1) stands
    ]

counted_again : (w : Width) (spell : ℕ → List ℕ) (greatest null : ℕ) (f : Format (Option (List ℕ)) FieldFault) → IsCounted w spell greatest null f
    → (x : Option (List ℕ)) (at : ℕ) (rest : List ℕ) → f.Fits x → counted_at w greatest null (record { at = at; rest = f.spell x ++ rest }) ≡ Ok (x, record { at = at + length (f.spell x); rest = rest })
unfolding counted_at
counted_again w spell greatest null f c None at rest fits =
    let test : eqb null null ≡ true = grind arith in
    rw (c.none, long_first w spell (null + 1) c.wide null rest, number_first w spell (null + 1) c.wide null rest (omega arith), test, behind_first w spell (null + 1) c.wide null rest, c.wide.len null) refl
counted_again w spell greatest null f c (Some body) at rest fits =
    let n = length body in
    let small : n ≤ greatest = c.small body fits in
    let below = c.below in
    let whole : f.spell (Some body) ++ rest ≡ spell n ++ (body ++ rest) = ap (λ (y : List ℕ). y ++ rest) (c.some body) ∙ append_assoc (spell n) body rest in
    let not_null : eqb n null ≡ false = ne_eqb n null (λ e. omega arith) in
    let not_below : ltb greatest n ≡ false = le-ltb _ _ small in
    let there : ltb (length (body ++ rest)) n ≡ false = le-ltb _ _ (omega (arith, length-append body rest)) in
    let place : at + byte_len w + n ≡ at + length (f.spell (Some body)) = rw (c.some body) (omega (arith, length-append (spell n) body, c.wide.len n)) in
    rw (whole, long_first w spell (null + 1) c.wide n (body ++ rest), number_first w spell (null + 1) c.wide n (body ++ rest) (omega arith), not_null, not_below, behind_first w spell (null + 1) c.wide n (body ++ rest), there, take_at body rest n refl, drop_at body rest n refl, place) refl

counted_fails : (w : Width) (spell : ℕ → List ℕ) (greatest null : ℕ) → IsWide w spell (null + 1)
    → (s : Spot) (fault : FieldFault) → IsBytes s.rest → counted_at w greatest null s ≡ Err fault → CountedWrong w greatest null s fault
unfolding counted_at
counted_fails w spell greatest null wide s fault fits e =
    let k = byte_len w in
    let n = number_of w s.rest in
    let behind : Spot = past k s in
    let text = cond {A = Result (Option (List ℕ) × Spot) FieldFault} (ltb greatest n) (Err (Negative s.at)) (bytes_at s.at n behind) in
    elim (guard_err (ltb (length s.rest) k) (Short s.at) (cond (eqb n null) (Ok (None, behind)) text) fault e) [
      | inl h ↦ subst (CountedWrong w greatest null s) h.1 (inl (ltb-true _ _ h.0), refl)
      | inr h ↦
          let long : k ≤ length s.rest = ltb-false _ _ h.0 in
          elim (chosen (eqb n null) (Ok (None, behind)) text (Err fault) h.1) [
            | inl a ↦ absurd (no_both _ _ a.1)
            | inr a ↦
                elim (guard_err (ltb greatest n) (Negative s.at) (bytes_at s.at n behind) fault a.1) [
                  | inl b ↦
                      let front = number_front w spell (null + 1) wide s.rest fits long in
                      let other : n ≡ null → ⊥ = eqb-false n null a.0 in
                      let under : n < null = elim (chosen (ltb n null) true false (ltb n null) (elim (ltb n null) as (λ v. cond v true false ≡ v) [ true ↦ refl | false ↦ refl ])) [
                        | inl d ↦ ltb-true _ _ d.0
                        | inr d ↦ let ge = ltb-false n null d.0 in let same : n ≡ null = omega (arith, front.1) in absurd (other same)
                      ] in
                      subst (CountedWrong w greatest null s) b.1 ((long, ltb-true _ _ b.0, under), refl)
                  | inr b ↦
                      elim (guard_err (ltb (length behind.rest) n) (Short s.at) (Ok (Some (take n behind.rest), past n behind)) fault b.1) [
                        | inl d ↦
                            let lt : length behind.rest < n = ltb-true _ _ d.0 in
                            let cut : length s.rest < k + n = omega (arith, length-drop k s.rest) in
                            subst (CountedWrong w greatest null s) d.1 (inr (long, ltb-false _ _ b.0, cut), refl)
                        | inr d ↦ absurd (no_both _ _ d.1)
                      ]
                ]
          ]
    ]

counted_refuses : (w : Width) (greatest null : ℕ) → greatest < null → (s : Spot) (fault : FieldFault) → CountedWrong w greatest null s fault → counted_at w greatest null s ≡ Err fault
unfolding counted_at
counted_refuses w greatest null below s (Short place) h =
    elim h.0 [
      | inl short ↦ rw (lt-ltb _ _ short) (ap (λ (p : ℕ). Err (Short p)) (sym h.1))
      | inr cut ↦
          let n = number_of w s.rest in
          let not_null : eqb n null ≡ false = ne_eqb n null (λ e. omega (arith, cut.1)) in
          let fewer : length (drop (byte_len w) s.rest) < n = omega (arith, cut.0, cut.2, length-drop (byte_len w) s.rest) in
          rw (le-ltb _ _ cut.0, not_null, le-ltb _ _ cut.1, lt-ltb _ _ fewer) (ap (λ (p : ℕ). Err (Short p)) (sym h.1))
    ]
counted_refuses w greatest null below s (Negative place) h =
    let n = number_of w s.rest in
    let not_null : eqb n null ≡ false = ne_eqb n null (λ e. omega (arith, h.0.2)) in
    rw (le-ltb _ _ h.0.0, not_null, lt-ltb _ _ h.0.1) (ap (λ (p : ℕ). Err (Negative p)) (sym h.1))

text_counted : IsCounted w16 u16_bytes 32767 65535 text_field
text_counted = record {
  wide = wide16;
  below = omega arith;
  none = refl;
  some = λ bytes. refl;
  fits_none = tt;
  fits_some = λ bytes le. omega arith;
  small = λ bytes lt. omega arith;
  read = λ s. refl;
}

blob_counted : IsCounted w32 u32_bytes 2147483647 4294967295 blob_field
blob_counted = record {
  wide = wide32;
  below = omega arith;
  none = refl;
  some = λ bytes. refl;
  fits_none = tt;
  fits_some = λ bytes le. omega arith;
  small = λ bytes lt. omega arith;
  read = λ s. refl;
}

pub text_lawful : Lawful text_field
text_lawful = record {
  takes = counted_takes w16 u16_bytes 32767 65535 text_field text_counted;
  again = λ s x t spelled. again_at text_field s x t (counted_again w16 u16_bytes 32767 65535 text_field text_counted x s.at t.rest spelled.fits) spelled;
  fails = counted_fails w16 u16_bytes 32767 65535 wide16;
  refuses = counted_refuses w16 32767 65535 (omega arith);
}

pub blob_lawful : Lawful blob_field
blob_lawful = record {
  takes = counted_takes w32 u32_bytes 2147483647 4294967295 blob_field blob_counted;
  again = λ s x t spelled. again_at blob_field s x t (counted_again w32 u32_bytes 2147483647 4294967295 blob_field blob_counted x s.at t.rest spelled.fits) spelled;
  fails = counted_fails w32 u32_bytes 2147483647 4294967295 wide32;
  refuses = counted_refuses w32 2147483647 4294967295 (omega arith);
}

-- ---- counts

count_takes : (s : Spot) (n : ℕ) (t : Spot) → IsBytes s.rest → count_at s ≡ Ok (n, t) → Spelled count_field s n t
unfolding count_at
count_takes s n t fits e =
    let m = number_of w32 s.rest in
    let g = guard_ok (ltb (length s.rest) 4) (Short s.at) (cond (ltb 2147483647 m) (Err (Negative s.at)) (Ok (m, past 4 s))) (n, t) e in
    let h = guard_ok (ltb 2147483647 m) (Negative s.at) (Ok (m, past 4 s)) (n, t) g.1 in
    let front = number_front w32 u32_bytes (2 ^ 32) wide32 s.rest fits (ltb-false _ _ g.0) in
    let small : m ≤ 2147483647 = ltb-false _ _ h.0 in
    let made : ℕ × Spot = (m, past 4 s) in
    let stands : Spelled count_field s m (past 4 s) = record { fits = omega arith; parts = front.0; moved = ap (λ (k : ℕ). s.at + k) (sym (u32_length m)) } in
    subst (λ (y : ℕ × Spot). Spelled count_field s y.0 y.1) (ok_is made (n, t) h.1) stands

count_again : (n at : ℕ) (rest : List ℕ) → n < 2 ^ 31 → count_at (record { at = at; rest = u32_bytes n ++ rest }) ≡ Ok (n, record { at = at + length (u32_bytes n); rest = rest })
unfolding count_at
count_again n at rest lt =
    let small : ltb 2147483647 n ≡ false = le-ltb _ _ (omega arith) in
    rw (long_first w32 u32_bytes (2 ^ 32) wide32 n rest, number_first w32 u32_bytes (2 ^ 32) wide32 n rest (omega arith), small, behind_first w32 u32_bytes (2 ^ 32) wide32 n rest, u32_length n) refl

count_fails : (s : Spot) (fault : FieldFault) → IsBytes s.rest → count_at s ≡ Err fault → CountWrong s fault
unfolding count_at
count_fails s fault fits e =
    let m = number_of w32 s.rest in
    elim (guard_err (ltb (length s.rest) 4) (Short s.at) (cond (ltb 2147483647 m) (Err (Negative s.at)) (Ok (m, past 4 s))) fault e) [
      | inl h ↦ subst (CountWrong s) h.1 (ltb-true _ _ h.0, refl)
      | inr h ↦
          elim (guard_err (ltb 2147483647 m) (Negative s.at) (Ok (m, past 4 s)) fault h.1) [
            | inl a ↦ subst (CountWrong s) a.1 (ltb-false _ _ h.0, ltb-true _ _ a.0, refl)
            | inr a ↦ absurd (no_both _ _ a.1)
          ]
    ]

count_refuses : (s : Spot) (fault : FieldFault) → CountWrong s fault → count_at s ≡ Err fault
unfolding count_at
count_refuses s (Short place) h = rw (lt-ltb _ _ h.0) (ap (λ (p : ℕ). Err (Short p)) (sym h.1))
count_refuses s (Negative place) h = rw (le-ltb _ _ h.0, lt-ltb _ _ h.1) (ap (λ (p : ℕ). Err (Negative p)) (sym h.2))

pub count_lawful : Lawful count_field
count_lawful = record {
  takes = count_takes;
  again = λ s x t spelled. again_at count_field s x t (count_again x s.at t.rest spelled.fits) spelled;
  fails = count_fails;
  refuses = count_refuses;
}

-- ---- signed numbers

signed_bytes : (z : ℤ) → i64_bytes z ≡ u64_bytes (cast_unsigned w64 z)
unfolding i64_bytes u64_bytes
signed_bytes z = refl

signed_takes : (s : Spot) (x : ℤ) (t : Spot) → IsBytes s.rest → signed_at s ≡ Ok (x, t) → Spelled i64_field s x t
signed_takes s x t fits e =
    let m = number_of w64 s.rest in
    let z = cast_signed w64 m in
    let g = guard_ok (ltb (length s.rest) 8) (Short s.at) (Ok (z, past 8 s)) (x, t) e in
    let front = number_front w64 u64_bytes (2 ^ 64) wide64 s.rest fits (ltb-false _ _ g.0) in
    let spelled : i64_bytes z ≡ u64_bytes m = signed_bytes z ∙ ap u64_bytes (of_z-to_z w64 m front.1) in
    let parts : s.rest ≡ i64_bytes z ++ drop 8 s.rest = front.0 ∙ ap (λ (y : List ℕ). y ++ drop 8 s.rest) (sym spelled) in
    let place : s.at + 8 ≡ s.at + length (i64_bytes z) = ap (λ (k : ℕ). s.at + k) (sym (u64_length m) ∙ ap length (sym spelled)) in
    let made : ℤ × Spot = (z, past 8 s) in
    let stands : Spelled i64_field s z (past 8 s) = record { fits = sfits_to_z {w = w64} {n = m} (Fits-of_lt {w = w64} {n = m} front.1); parts = parts; moved = place } in
    subst (λ (y : ℤ × Spot). Spelled i64_field s y.0 y.1) (ok_is made (x, t) g.1) stands

signed_again : (z : ℤ) (at : ℕ) (rest : List ℕ) → FitsSigned w64 z → signed_at (record { at = at; rest = i64_bytes z ++ rest }) ≡ Ok (z, record { at = at + length (i64_bytes z); rest = rest })
signed_again z at rest fits =
    let n = cast_unsigned w64 z in
    let lt : n < 2 ^ 64 = (Fits-of_z {w = w64} {z = z} fits).fits in
    rw (signed_bytes z, long_first w64 u64_bytes (2 ^ 64) wide64 n rest, number_first w64 u64_bytes (2 ^ 64) wide64 n rest lt, to_z-of_z w64 z fits, behind_first w64 u64_bytes (2 ^ 64) wide64 n rest, u64_length n) refl

signed_fails : (s : Spot) (fault : FieldFault) → IsBytes s.rest → signed_at s ≡ Err fault → NumberWrong 8 s fault
signed_fails s fault fits e =
    elim (guard_err (ltb (length s.rest) 8) (Short s.at) (Ok (cast_signed w64 (number_of w64 s.rest), past 8 s)) fault e) [
      | inl h ↦ subst (NumberWrong 8 s) h.1 (ltb-true _ _ h.0, refl)
      | inr h ↦ absurd (no_both _ _ h.1)
    ]

signed_refuses : (s : Spot) (fault : FieldFault) → NumberWrong 8 s fault → signed_at s ≡ Err fault
signed_refuses s (Short place) h = rw (lt-ltb _ _ h.0) (ap (λ (p : ℕ). Err (Short p)) (sym h.1))
signed_refuses s (Negative place) h = absurd h

pub i64_lawful : Lawful i64_field
i64_lawful = record {
  takes = signed_takes;
  again = λ s x t spelled. again_at i64_field s x t (signed_again x s.at t.rest spelled.fits) spelled;
  fails = signed_fails;
  refuses = signed_refuses;
}

-- ---- what stands at the front of bytes

abbrev pub Found : {A : Type 0} → Format A FieldFault → Spot → A → ℕ → Type 0
Found f s x n = Spelled f s x (past n s) × (f.read s ≡ Ok (x, past n s)) × (n ≤ length s.rest)

pub found : {A : Type 0} (f : Format A FieldFault) → Lawful f → (s : Spot) (x : A) (n : ℕ) → Spelled f s x (past n s) → n ≤ length s.rest → Found f s x n
found f p s x n spelled le = (spelled, p.again s x (past n s) spelled, le)

pub refused : {A : Type 0} (f : Format A FieldFault) → Lawful f → (s : Spot) (fault : FieldFault) → f.Wrong s fault → f.Wrong s fault × (f.read s ≡ Err fault)
refused f p s fault wrong = (wrong, p.refuses s fault wrong)

some_found : (w : Width) (spell : ℕ → List ℕ) (greatest null : ℕ) (f : Format (Option (List ℕ)) FieldFault) → IsCounted w spell greatest null f → Lawful f
    → (s : Spot) (n : ℕ) → s.rest ≡ spell n ++ drop (byte_len w) s.rest → n ≤ greatest → byte_len w ≤ length s.rest → n ≤ length s.rest - byte_len w
    → Found f s (Some (take (byte_len w + n - byte_len w) (drop (byte_len w) s.rest))) (byte_len w + n)
some_found w spell greatest null f c p s n front small long there =
    let k = byte_len w in
    let spelled = some_spelled w spell greatest null f c s n front small (omega (arith, length-drop k s.rest)) in
    let place : s.at + k + n ≡ s.at + (k + n) = omega arith in
    let len : n ≡ k + n - k = omega arith in
    let same : past n (past k s) ≡ past (k + n) s = ap (λ (m : ℕ). record { at = m; rest = drop n (drop k s.rest) }) place ∙ ap (λ (r : List ℕ). record { at = s.at + (k + n); rest = r }) (drop-drop n k s.rest) in
    let moved = subst (λ (t : Spot). Spelled f s (Some (take n (drop k s.rest))) t) same spelled in
    found f p s (Some (take (k + n - k) (drop k s.rest))) (k + n) (subst (λ (m : ℕ). Spelled f s (Some (take m (drop k s.rest))) (past (k + n) s)) len moved) (omega arith)

pub null_text : (s : Spot) (n : ℕ) → s.rest ≡ u16_bytes n ++ drop 2 s.rest → 2 ≤ length s.rest → n ≡ 65535 → Found text_field s None 2
null_text s n front long is = found text_field text_lawful s None 2 (null_spelled w16 u16_bytes 32767 65535 text_field text_counted s n front is) long

pub some_text : (s : Spot) (n : ℕ) → s.rest ≡ u16_bytes n ++ drop 2 s.rest → 2 ≤ length s.rest → n ≤ 32767 → n ≤ length s.rest - 2 → Found text_field s (Some (take (2 + n - 2) (drop 2 s.rest))) (2 + n)
some_text s n front long small there = some_found w16 u16_bytes 32767 65535 text_field text_counted text_lawful s n front small long there

pub null_blob : (s : Spot) (n : ℕ) → s.rest ≡ u32_bytes n ++ drop 4 s.rest → 4 ≤ length s.rest → n ≡ 4294967295 → Found blob_field s None 4
null_blob s n front long is = found blob_field blob_lawful s None 4 (null_spelled w32 u32_bytes 2147483647 4294967295 blob_field blob_counted s n front is) long

pub some_blob : (s : Spot) (n : ℕ) → s.rest ≡ u32_bytes n ++ drop 4 s.rest → 4 ≤ length s.rest → n ≤ 2147483647 → n ≤ length s.rest - 4 → Found blob_field s (Some (take (4 + n - 4) (drop 4 s.rest))) (4 + n)
some_blob s n front long small there = some_found w32 u32_bytes 2147483647 4294967295 blob_field blob_counted blob_lawful s n front small long there

-- the same for a fault
pub cut_off : (w : Width) (greatest null : ℕ) (s : Spot) (n : ℕ) → n ≡ number_of w s.rest → byte_len w ≤ length s.rest → n ≤ greatest → length s.rest - byte_len w < n → CountedWrong w greatest null s (Short s.at)
cut_off w greatest null s n is long small fewer =
    let cut : length s.rest < byte_len w + n = omega arith in
    subst (λ (m : ℕ). (m ≤ greatest) × (length s.rest < byte_len w + m) → CountedWrong w greatest null s (Short s.at)) (sym is) (λ h. (inr (long, h.0, h.1), refl)) (small, cut)

pub below_null : (w : Width) (greatest null : ℕ) (s : Spot) (n : ℕ) → n ≡ number_of w s.rest → byte_len w ≤ length s.rest → greatest < n → n < null → CountedWrong w greatest null s (Negative s.at)
below_null w greatest null s n is long large under =
    subst (λ (m : ℕ). (greatest < m) × (m < null) → CountedWrong w greatest null s (Negative s.at)) (sym is) (λ h. ((long, h.0, h.1), refl)) (large, under)

-- ---- no field is without bytes

pub u16_some : (n : ℕ) → 0 < length (u16_bytes n)
u16_some n = omega (arith, u16_length n)

pub u64_some : (n : ℕ) → 0 < length (u64_bytes n)
u64_some n = omega (arith, u64_length n)

pub text_some : (t : Option (List ℕ)) → 0 < length (text_bytes t)
text_some None = omega (arith, u16_length 65535)
text_some (Some bytes) = omega (arith, u16_length (length bytes), length-append (u16_bytes (length bytes)) bytes)
