-- Windows that go on.
use Rattle.std.proofs.Common.{◌≡◌, inl, inr, ℕ, ◌+◌, ◌<◌, ◌≤◌, List, [], ◌++◌, length, take, drop, ◌∷◌, Bool, true, false, Option, Result, Ok, Err, refl, sym, ap, subst, ◌∙◌, append_assoc, length-append, arith}
use Rattle.std.proofs.lemmas.List.{append-nil, length-take-le, length-drop}
use Rattle.outside_io.specs.Known.{before_known, IsEmptyKnown}
use Rattle.outside_io.proofs.KnownLaws.{before_none, taken_none, taken_more}
use Rattle.osiris_audit.specs.declared.window.Fault.{Fault}
use Rattle.osiris_audit.specs.declared.window.Fault.TheVariants.{Read, Write, Memory, TooLong}
use Rattle.osiris_audit.specs.Windows.{WindowState, most_bytes, size_read, IsOver, IsNear, HasEnded, Goes, GrewBy, Grew, Drained, Passes}

-- nothing came in
pub goes_none : (left : Option (List ℕ)) (w : WindowState) → size_read w ≤ most_bytes → Goes 0 true [] left w w
goes_none left w short = record {
  place_is = refl;
  rest_is = sym (append-nil w.rest);
  some = λ e. omega arith;
  few = λ e. absurd cc;
  end = λ e. absurd cc;
  keeps = λ e. e;
  ended_is = λ e. inl e;
  short = short;
}

pub grew_none : (left : Option (List ℕ)) (w : WindowState) → size_read w ≤ most_bytes → Grew 0 (Ok true) left left w w
grew_none left w short = record { piece = []; took = taken_none left; still = λ e. refl; by = goes_none left w short }

-- the end still stands, where nothing came in behind it
pub end_stands : (l1 l2 : Option (List ℕ)) (piece : List ℕ) → l1 ≡ before_known piece l2 → piece ≡ [] → IsEmptyKnown l1 → IsEmptyKnown l2
end_stands l1 l2 piece took none is = subst IsEmptyKnown (took ∙ ap (λ (p : List ℕ). before_known p l2) none ∙ before_none l2) is

pub end_before : (b c : Bool) (l1 l2 : Option (List ℕ)) (piece : List ℕ) → l1 ≡ before_known piece l2 → (c ≡ true → piece ≡ []) → (c ≡ true → HasEnded b l1) → HasEnded c l2 → HasEnded b l2
end_before b c l1 l2 piece took still first (inl e) = elim (first e) [
  | inl before ↦ inl before
  | inr none ↦ inr (end_stands l1 l2 piece took (still e) none)
]
end_before b c l1 l2 piece took still first (inr none) = inr none

goes_then : (m n : ℕ) (b : Bool) (p q : List ℕ) (l1 l2 : Option (List ℕ)) (w0 w1 w2 : WindowState) → l1 ≡ before_known q l2 → (w1.ended ≡ true → q ≡ []) → Goes m true p l1 w0 w1 → Goes n b q l2 w1 w2 → Goes n b (p ++ q) l2 w0 w2
goes_then m n b p q l1 l2 w0 w1 w2 took still one two = record {
  place_is = two.place_is ∙ one.place_is;
  rest_is = two.rest_is ∙ ap (λ (l : List ℕ). l ++ q) one.rest_is ∙ append_assoc w0.rest p q;
  some = two.some;
  few = two.few;
  end = two.end;
  keeps = λ e. two.keeps (one.keeps e);
  ended_is = λ e. end_before w0.ended w1.ended l1 l2 q took still one.ended_is (two.ended_is e);
  short = two.short;
}

pub size_goes : (m : ℕ) (b : Bool) (p : List ℕ) (l : Option (List ℕ)) (w0 w1 : WindowState) → Goes m b p l w0 w1 → size_read w1 ≡ size_read w0 + length p
size_goes m b p l w0 w1 one = let place = one.place_is in let rest = ap length one.rest_is in omega (arith, place, rest, length-append w0.rest p)

grew_by : (m n : ℕ) (r : Result Bool Fault) (p q : List ℕ) (l1 l2 : Option (List ℕ)) (w0 w1 w2 : WindowState) → l1 ≡ before_known q l2 → (w1.ended ≡ true → q ≡ []) → Goes m true p l1 w0 w1 → GrewBy n r q l2 w1 w2 → GrewBy n r (p ++ q) l2 w0 w2
grew_by m n (Ok b) p q l1 l2 w0 w1 w2 took still one two = goes_then m n b p q l1 l2 w0 w1 w2 took still one two
grew_by m n (Err fault) p q l1 l2 w0 w1 w2 took still one two =
    let size : size_read w1 + length q ≡ size_read w0 + length (p ++ q) = omega (arith, size_goes m true p l1 w0 w1 one, length-append p q) in (
      subst (IsOver fault) size two.0,
      subst (λ (k : ℕ). IsNear fault (size_read w0 + length (p ++ q)) (k + n)) one.place_is (subst (λ (k : ℕ). IsNear fault k (w1.place + n)) size two.1),
    )

-- one reading on behind another
pub grew_then : (m n : ℕ) (r : Result Bool Fault) (l0 l1 l2 : Option (List ℕ)) (w0 w1 w2 : WindowState) → Grew m (Ok true) l0 l1 w0 w1 → Grew n r l1 l2 w1 w2 → Grew n r l0 l2 w0 w2
grew_then m n r l0 l1 l2 w0 w1 w2 one two = record {
  piece = one.piece ++ two.piece;
  took = taken_more l0 l1 l2 one.piece two.piece one.took two.took;
  still = λ e. ap (λ (l : List ℕ). l ++ two.piece) (one.still e) ∙ two.still (one.by.keeps e);
  by = grew_by m n r one.piece two.piece l1 l2 w0 w1 w2 two.took two.still one.by two.by;
}

-- what was asked for may be less
pub goes_less : (m n : ℕ) (p : List ℕ) (l : Option (List ℕ)) (w0 w1 : WindowState) → n ≤ m → Goes m true p l w0 w1 → Goes n true p l w0 w1
goes_less m n p l w0 w1 le one = record {
  place_is = one.place_is;
  rest_is = one.rest_is;
  some = λ e. omega (arith, le, one.some e);
  few = λ e. absurd cc;
  end = λ e. absurd cc;
  keeps = one.keeps;
  ended_is = one.ended_is;
  short = one.short;
}

pub grew_less : (m n : ℕ) (l0 l1 : Option (List ℕ)) (w0 w1 : WindowState) → n ≤ m → Grew m (Ok true) l0 l1 w0 w1 → Grew n (Ok true) l0 l1 w0 w1
grew_less m n l0 l1 w0 w1 le one = record { piece = one.piece; took = one.took; still = one.still; by = goes_less m n one.piece l1 w0 w1 le one.by }

-- whether the end of a file stands
pub known_end : (b : Bool) (l1 l2 : Option (List ℕ)) (piece : List ℕ) → l1 ≡ before_known piece l2 → (b ≡ true → piece ≡ []) → (b ≡ true → IsEmptyKnown l1) → HasEnded b l2 → IsEmptyKnown l2
known_end b l1 l2 piece took still known (inl e) = end_stands l1 l2 piece took (still e) (known e)
known_end b l1 l2 piece took still known (inr none) = none

-- a piece that was read and held
pub grew_piece : (n count : ℕ) (l1 l2 : Option (List ℕ)) (buf : List ℕ) (w0 w1 : WindowState) → n ≡ 1 + length w0.rest → 0 < count → count ≤ length buf → l1 ≡ before_known (take count buf) l2 → w0.ended ≡ false
    → (w1.place ≡ w0.place) × (w1.rest ≡ w0.rest ++ take count buf) × (w1.ended ≡ w0.ended) × (size_read w1 ≤ most_bytes) → Grew n (Ok true) l1 l2 w0 w1
grew_piece n count l1 l2 buf w0 w1 wanted some fits took going (place, rest, same, short) = record {
  piece = take count buf;
  took = took;
  still = λ e. absurd (let both : false ≡ true = sym going ∙ e in cc);
  by = record {
    place_is = place;
    rest_is = rest;
    some = λ e. omega (arith, wanted, some, ap length rest, length-append w0.rest (take count buf), length-take-le count buf fits);
    few = λ e. absurd cc;
    end = λ e. absurd cc;
    keeps = λ e. absurd (let both : false ≡ true = sym going ∙ e in cc);
    ended_is = λ e. absurd (let both : false ≡ true = sym going ∙ sym same ∙ e in cc);
    short = short;
  };
}

-- until there are so many
pub grew_end : (n : ℕ) (l0 l1 : Option (List ℕ)) (w0 w1 : WindowState) → n ≤ length w1.rest → Grew 0 (Ok true) l0 l1 w0 w1 → Grew n (Ok true) l0 l1 w0 w1
grew_end n l0 l1 w0 w1 le one = record {
  piece = one.piece;
  took = one.took;
  still = one.still;
  by = record {
    place_is = one.by.place_is;
    rest_is = one.by.rest_is;
    some = λ e. le;
    few = λ e. absurd cc;
    end = λ e. absurd cc;
    keeps = one.by.keeps;
    ended_is = one.by.ended_is;
    short = one.by.short;
  };
}

-- the end came before there were so many
pub grew_few : (n m : ℕ) (l1 l2 : Option (List ℕ)) (w1 w2 : WindowState) → length w1.rest < n → m ≡ 1 + length w1.rest → Grew m (Ok false) l1 l2 w1 w2 → Grew n (Ok false) l1 l2 w1 w2
grew_few n m l1 l2 w1 w2 lt is two = record {
  piece = two.piece;
  took = two.took;
  still = two.still;
  by = record {
    place_is = two.by.place_is;
    rest_is = two.by.rest_is;
    some = λ e. absurd cc;
    few = λ e. let few = two.by.few refl in omega arith;
    end = two.by.end;
    keeps = two.by.keeps;
    ended_is = two.by.ended_is;
    short = two.by.short;
  };
}

near_more : (fault : Fault) (size wanted more : ℕ) → wanted ≤ more → IsNear fault size wanted → IsNear fault size more
near_more Read size wanted more le near = omega (arith, near, le)
near_more Write size wanted more le near = tt
near_more Memory size wanted more le near = tt
near_more TooLong size wanted more le near = omega (arith, near, le)

pub grew_broken : (fault : Fault) (n m : ℕ) (l1 l2 : Option (List ℕ)) (w1 w2 w3 : WindowState) → length w1.rest < n → m ≡ 1 + length w1.rest → Grew m (Err fault) l1 l2 w1 w2 → Grew n (Err fault) l1 l2 w1 w3
grew_broken fault n m l1 l2 w1 w2 w3 lt is two = record {
  piece = two.piece;
  took = two.took;
  still = two.still;
  by = (two.by.0, near_more fault (size_read w1 + length two.piece) (w1.place + m) (w1.place + n) (omega (arith, lt, is)) two.by.1);
}

-- ---- passing over what is read

pub passes_skip : (k : ℕ) (l0 l1 : Option (List ℕ)) (w0 w1 w2 : WindowState) → k ≤ length w1.rest → w2 ≡ record { place = w1.place + k; rest = drop k w1.rest; ended = w1.ended } → Passes l0 l1 w0 w1 → Passes l0 l1 w0 w2
passes_skip k l0 l1 w0 w1 w2 le is p =
    let size : size_read w2 ≡ size_read w1 = omega (arith, ap (λ (w : WindowState). size_read w) is, length-drop k w1.rest, le) in
    let same : w2.ended ≡ w1.ended = ap (λ (w : WindowState). w.ended) is in
    record {
      piece = p.piece;
      took = p.took;
      still = p.still;
      size_is = size ∙ p.size_is;
      keeps = λ e. same ∙ p.keeps e;
      ended_is = λ e. p.ended_is (sym same ∙ e);
      short = omega (arith, size, p.short);
    }

pub passes_none : (l : Option (List ℕ)) (w : WindowState) → size_read w ≤ most_bytes → Passes l l w w
passes_none l w short = record { piece = []; took = taken_none l; still = λ e. refl; size_is = omega arith; keeps = λ e. e; ended_is = λ e. inl e; short = short }

pub passes_more : (n : ℕ) (b : Bool) (l0 l1 l2 : Option (List ℕ)) (w0 w1 w2 : WindowState) → Passes l0 l1 w0 w1 → Grew n (Ok b) l1 l2 w1 w2 → Passes l0 l2 w0 w2
passes_more n b l0 l1 l2 w0 w1 w2 p g = record {
  piece = p.piece ++ g.piece;
  took = taken_more l0 l1 l2 p.piece g.piece p.took g.took;
  still = λ e. ap (λ (l : List ℕ). l ++ g.piece) (p.still e) ∙ g.still (p.keeps e);
  size_is = omega (arith, size_goes n b g.piece l2 w1 w2 g.by, p.size_is, length-append p.piece g.piece);
  keeps = λ e. g.by.keeps (p.keeps e);
  ended_is = λ e. end_before w0.ended w1.ended l1 l2 g.piece g.took g.still p.ended_is (g.by.ended_is e);
  short = g.by.short;
}

pub passes_broken : (fault : Fault) (n : ℕ) (l0 l1 l2 : Option (List ℕ)) (w0 w1 w2 : WindowState) → Passes l0 l1 w0 w1 → Grew n (Err fault) l1 l2 w1 w2 → Drained (Err fault) l0 l2 w0
passes_broken fault n l0 l1 l2 w0 w1 w2 p g = record {
  piece = p.piece ++ g.piece;
  took = taken_more l0 l1 l2 p.piece g.piece p.took g.took;
  still = λ e. ap (λ (l : List ℕ). l ++ g.piece) (p.still e) ∙ g.still (p.keeps e);
  by = let size : size_read w1 + length g.piece ≡ size_read w0 + length (p.piece ++ g.piece) = omega (arith, p.size_is, length-append p.piece g.piece) in subst (IsOver fault) size g.by.0;
}

pub passes_end : (n : ℕ) (l0 l1 l2 : Option (List ℕ)) (w0 w1 w2 : WindowState) → Passes l0 l1 w0 w1 → Grew n (Ok false) l1 l2 w1 w2 → Drained (Ok tt) l0 l2 w0
passes_end n l0 l1 l2 w0 w1 w2 p g =
    let all = passes_more n false l0 l1 l2 w0 w1 w2 p g in
    record { piece = all.piece; took = all.took; still = all.still; by = (omega (arith, all.size_is, all.short), all.ended_is (g.by.end refl)) }

-- nothing came in at the end
pub none_came : (m : ℕ) (l1 l2 : Option (List ℕ)) (w1 w2 : WindowState) → m ≡ 1 + length w1.rest → Grew m (Ok false) l1 l2 w1 w2 → w2.rest ≡ w1.rest
none_came m l1 l2 w1 w2 is g =
    let none : length g.piece ≡ 0 = let few = g.by.few refl in omega (arith, few, is, ap length g.by.rest_is, length-append w1.rest g.piece) in
    g.by.rest_is ∙ ap (λ (l : List ℕ). w1.rest ++ l) (no_bytes g.piece none) ∙ append-nil w1.rest
  where
    no_bytes : (l : List ℕ) → length l ≡ 0 → l ≡ []
    no_bytes [] e = refl
    no_bytes (x ∷ l) e = absurd (omega arith)
