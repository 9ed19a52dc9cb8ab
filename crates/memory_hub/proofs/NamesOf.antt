-- What the rules of the catalog tell of a change.
use Rattle.std.proofs.Common.{◌≡◌, ℕ, ◌+◌, ◌-◌, Bool, true, false, List, length, Option, Some, None, Result, Ok, Err, refl, subst, arith}
use Rattle.stream_catalog.specs.declared.change.Change.{Change}
use Rattle.stream_catalog.specs.declared.change.ChangeKind.{ChangeKind}
use Rattle.stream_catalog.specs.declared.change.ChangeKind.TheVariants as kind
use Rattle.stream_catalog.specs.declared.holder.Holder.{Holder}
use Rattle.stream_catalog.specs.declared.holder.Holder.TheVariants as holds
use Rattle.stream_catalog.specs.declared.fault.CatalogFault.{CatalogFault}
use Rattle.stream_catalog.specs.Names.{Names}
use Rattle.stream_catalog.specs.Rules.{creates, creates_super, deletes, deletes_super, deletes_held, deletes_super_held, create_refused, super_refused, has_room, unless, create_stream, create_all, holder_at, changed, changed_by}
use Rattle.stream_catalog.specs.Adding.{Comes, Goes}
use Rattle.hub_terms.specs.Calls.{Words}

ok_same : (c d : Change) → let one : Result Change CatalogFault = Ok c in one ≡ Ok d → c ≡ d
ok_same c d e = cc

not_ok : (f : CatalogFault) (d : Change) → let one : Result Change CatalogFault = Err f in one ≡ Ok d → ⊥
not_ok f d e = cc

by_room : (room : Bool) (c d : Change) → unless None room c ≡ Ok d → c ≡ d
by_room true c d e = ok_same c d e
by_room false c d e = absurd (not_ok _ d e)

-- a change that isn't refused is the one that was asked for
unless_is : (refusal : Option CatalogFault) (room : Bool) (c d : Change) → unless refusal room c ≡ Ok d → c ≡ d
unless_is None room c d e = by_room room c d e
unless_is (Some f) room c d e = absurd (not_ok f d e)

pub created : (limit : ℕ) (name : Words) (names : Names) (c : Change) → creates limit name names ≡ Ok c → create_stream (names.last + 1) name ≡ c
created limit name names c e = unless_is (create_refused name names) (has_room limit 1 names) (create_stream (names.last + 1) name) c e

pub created_super : (limit : ℕ) (name : Words) (parts keys : List Words) (names : Names) (c : Change) → creates_super limit name parts keys names ≡ Ok c → create_all (names.last + 1) name parts keys ≡ c
created_super limit name parts keys names c e = unless_is (super_refused name parts keys names) (has_room limit (length parts) names) (create_all (names.last + 1) name parts keys) c e

pub create_comes : (limit : ℕ) (name : Words) (names : Names) (c : Change) → creates limit name names ≡ Ok c → Comes c.kind
create_comes limit name names c e = subst (λ (d : Change). Comes d.kind) (created limit name names c e) tt

pub create_last : (limit : ℕ) (name : Words) (names : Names) (c : Change) → creates limit name names ≡ Ok c → (changed c names).last ≡ names.last + 1
create_last limit name names c e = subst (λ (d : Change). (changed d names).last ≡ names.last + 1) (created limit name names c e) refl

pub super_comes : (limit : ℕ) (name : Words) (parts keys : List Words) (names : Names) (c : Change) → creates_super limit name parts keys names ≡ Ok c → Comes c.kind
super_comes limit name parts keys names c e = subst (λ (d : Change). Comes d.kind) (created_super limit name parts keys names c e) tt

pub super_last : (limit : ℕ) (name : Words) (parts keys : List Words) (names : Names) (c : Change) → creates_super limit name parts keys names ≡ Ok c → (changed c names).last ≡ names.last + length parts
super_last limit name parts keys names c e = subst (λ (d : Change). (changed d names).last ≡ names.last + length parts) (created_super limit name parts keys names c e) (omega arith)

-- ---- deletions

delete_by : (name : Words) (h : Option Holder) (c : Change) → deletes_held name h ≡ Ok c → Goes c.kind
delete_by name None c e = absurd (not_ok _ c e)
delete_by name (Some (holds.Stream number)) c e = subst (λ (d : Change). Goes d.kind) (ok_same _ c e) tt
delete_by name (Some (holds.Part number place)) c e = absurd (not_ok _ c e)
delete_by name (Some (holds.Super first parts keys)) c e = absurd (not_ok _ c e)

pub delete_goes : (name : Words) (names : Names) (c : Change) → deletes name names ≡ Ok c → Goes c.kind
delete_goes name names c e = delete_by name (holder_at name names) c e

delete_super_by : (name : Words) (h : Option Holder) (c : Change) → deletes_super_held name h ≡ Ok c → Goes c.kind
delete_super_by name None c e = absurd (not_ok _ c e)
delete_super_by name (Some (holds.Stream number)) c e = absurd (not_ok _ c e)
delete_super_by name (Some (holds.Part number place)) c e = absurd (not_ok _ c e)
delete_super_by name (Some (holds.Super first parts keys)) c e = subst (λ (d : Change). Goes d.kind) (ok_same _ c e) tt

pub delete_super_goes : (name : Words) (names : Names) (c : Change) → deletes_super name names ≡ Ok c → Goes c.kind
delete_super_goes name names c e = delete_super_by name (holder_at name names) c e

gone_by : (k : ChangeKind) (c : Change) (names : Names) → Goes k → (changed_by k c names).last ≡ names.last
gone_by kind.Create c names g = absurd g
gone_by kind.CreateSuper c names g = absurd g
gone_by kind.Delete c names g = refl
gone_by kind.DeleteSuper c names g = refl

-- no number is given where names go
pub gone_last : (c : Change) (names : Names) → Goes c.kind → (changed c names).last ≡ names.last + 0
gone_last c names g = let same = gone_by c.kind c names g in omega (arith, same)
