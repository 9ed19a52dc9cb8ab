-- What the calls make of the parts.
use Rattle.std.proofs.Common.{◌≡◌, ℕ, ◌-◌, ◌^◌, ◌<◌, ◌≤◌, Bool, true, false, List, [], ◌∷◌, ◌++◌, length, Option, Some, None, refl, sym, ap, subst, ◌∙◌, arith}
use Rattle.std.specs.List.{AllByRecursion}
use Rattle.chunk_format.specs.declared.chunk.Chunk.{Chunk}
use Rattle.chunk_format.proofs.NameLaws.{each_join}
use Rattle.stream_terms.specs.declared.terms.Pass.{Pass}
use Rattle.stream_terms.specs.declared.terms.Given.{Given}
use Rattle.stream_terms.specs.declared.terms.Waits.{Waits}
use Rattle.stream_terms.specs.Views.{StreamView, name_of}
use Rattle.stream_terms.specs.Steps.{DeclaresPass, put_by}
use Rattle.stream_passes.specs.Parts.{PassesState, parts, viewed, put_part, PartsDeclare}
use Rattle.stream_passes.specs.Keeps.{Keeps, SerialsFrom, IsShort}
use Rattle.stream_passes.proofs.Serials.{serials_push, all_below}

-- ---- passes

pub declares : (a : PassesState) (number : ℕ) (passes passes' : List Given) (waiting ready : List Waits) (running : Option ℕ) (session : ℕ) (name : Option (List ℕ)) (p : Pass) (g : Given)
    → parts number passes waiting ready ≡ a → p.stream ≡ number → p.session ≡ session → running ≡ Some p.epoch → p.serial ≡ length passes → length passes < 2 ^ 32 - 1 → SerialsFrom 0 passes
    → g ≡ record { pass = p; name = name_of name } → passes' ≡ passes ++ g ∷ [] → (chunks queue : List Chunk) → DeclaresPass (viewed chunks queue running a) session name p (viewed chunks queue running (parts number passes' waiting ready))
declares a number passes passes' waiting ready running session name p g is stream of_session runs serial room serials given more chunks queue =
    let at : DeclaresPass (viewed chunks queue running (parts number passes waiting ready)) session name p (viewed chunks queue running (parts number (passes ++ record { pass = p; name = name_of name } ∷ []) waiting ready)) = record {
      of_stream = stream;
      of_session = of_session;
      running = runs;
      room = room;
      fresh = all_below passes p.serial serials (omega (arith, serial));
      new_is = refl;
    } in
    let there = more ∙ ap (λ (x : Given). passes ++ x ∷ []) given in
    subst (λ (s : PassesState). DeclaresPass (viewed chunks queue running s) session name p (viewed chunks queue running (parts number passes' waiting ready))) is
    (subst (λ (l : List Given). DeclaresPass (viewed chunks queue running (parts number passes waiting ready)) session name p (viewed chunks queue running (parts number l waiting ready))) (sym there) at)

pub keeps_pass : (passes passes' : List Given) (waiting : List Waits) (g : Given) → Keeps passes waiting → g.pass.serial ≡ length passes → IsShort g → passes' ≡ passes ++ g ∷ [] → Keeps passes' waiting
keeps_pass passes passes' waiting g k serial short more =
    let at : Keeps (passes ++ g ∷ []) waiting = record {
      serials = serials_push 0 passes g k.serials (omega (arith, serial));
      short = each_join IsShort passes (g ∷ []) k.short (short, tt);
      rise = k.rise;
      one_epoch = k.one_epoch;
    } in
    subst (λ (l : List Given). Keeps l waiting) (sym more) at

pub named_as : (p : Pass) (name other : List ℕ) → name ≡ other → let given : Given = record { pass = p; name = name } in given ≡ record { pass = p; name = other }
named_as p name other is = ap (λ (n : List ℕ). record { pass = p; name = n }) is

-- ---- offers

pub put_view : (b : Bool) (chunks queue : List Chunk) (running : Option ℕ) (w : Waits) (s : PassesState) → viewed chunks queue running (put_part b w s) ≡ put_by b w (viewed chunks queue running s)
put_view true chunks queue running w s = refl
put_view false chunks queue running w s = refl

pub parts_alike : (number number' : ℕ) (passes passes' : List Given) (waiting waiting' ready ready' : List Waits) → number ≡ number' → passes ≡ passes' → waiting ≡ waiting' → ready ≡ ready' → parts number passes waiting ready ≡ parts number' passes' waiting' ready'
parts_alike number number' passes passes' waiting waiting' ready ready' n p w r =
    ap (λ (x : ℕ). parts x passes waiting ready) n
    ∙ ap (λ (x : List Given). parts number' x waiting ready) p
    ∙ ap (λ (x : List Waits). parts number' passes' x ready) w
    ∙ ap (λ (x : List Waits). parts number' passes' waiting' x) r
