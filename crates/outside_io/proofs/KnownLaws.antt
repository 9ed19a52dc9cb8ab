-- How told items go through several calls.
use Rattle.std.proofs.Common.{◌≡◌, List, [], ◌++◌, Option, Some, None, refl, sym, ap, ◌∙◌, append_assoc}
use Rattle.std.proofs.lemmas.List.{append-nil}
use Rattle.outside_io.specs.Known.{after_known, before_known}

-- two pieces written are one
pub after_twice : {A : Type 0} (known : Option (List A)) (a b : List A) → after_known (after_known known a) b ≡ after_known known (a ++ b)
after_twice None a b = refl
after_twice {A = A} (Some xs) a b = ap (λ (x : List A). Some x) (append_assoc xs a b)

-- an empty piece adds nothing
pub after_none : {A : Type 0} (known : Option (List A)) → after_known known [] ≡ known
after_none None = refl
after_none {A = A} (Some xs) = ap (λ (x : List A). Some x) (append-nil xs)

-- two pieces read are one
pub before_twice : {A : Type 0} (a b : List A) (known : Option (List A)) → before_known a (before_known b known) ≡ before_known (a ++ b) known
before_twice a b None = refl
before_twice {A = A} a b (Some xs) = ap (λ (x : List A). Some x) (sym (append_assoc a b xs))

-- an empty piece takes nothing
pub before_none : {A : Type 0} (known : Option (List A)) → before_known [] known ≡ known
before_none None = refl
before_none (Some xs) = refl

-- at the start of a loop of reads: nothing was taken
pub taken_none : {A : Type 0} (left : Option (List A)) → left ≡ before_known [] left
taken_none left = sym (before_none left)

-- a read more: another piece was taken
pub taken_more : {A : Type 0} (left mid new : Option (List A)) (a b : List A) → left ≡ before_known a mid → mid ≡ before_known b new → left ≡ before_known (a ++ b) new
taken_more left mid new a b p q = p ∙ ap (before_known a) q ∙ before_twice a b new

-- at the start of a loop of writes: nothing was added
pub added_none : {A : Type 0} (known : Option (List A)) → known ≡ after_known known []
added_none known = sym (after_none known)

-- a write more: another piece was added
pub added_more : {A : Type 0} (old mid new : Option (List A)) (a b : List A) → mid ≡ after_known old a → new ≡ after_known mid b → new ≡ after_known old (a ++ b)
added_more {A = A} old mid new a b p q = q ∙ ap (λ (k : Option (List A)). after_known k b) p ∙ after_twice old a b
