use Rattle.std.proofs.Common.{◌≡◌, ℕ, List, ◌+◌, ◌-◌, ◌∷◌, [], ◌++◌, length, take, drop, refl, sym, ap, subst, ◌∙◌, arith}
use Rattle.chunk_format.specs.declared.entry.Entry.{Entry}
use Rattle.chunk_format.specs.Parts.{entry_of}
use Rattle.chunk_format.proofs.ReadLaws.{Taken, taken_start, taken_more, taken_whole, some_entry}
use Rattle.chunk_format.proofs.decode.own_entries.Goals as goal

pub entries-init : goal.entries-init
entries-init c = let P : List Entry → Type 0 = λ row. Taken c.args.payload.now 0 0 row in subst P (sym c.new-row.ensures) (taken_start c.args.payload.now)

pub unreachable-requires : goal.unreachable-requires
unreachable-requires c =
    let payload = c.args.payload.now in
    let at = c.entries.at in
    some_entry c.args.count c.entries._done at payload (take (length payload - at) (drop at payload)) c.requires.0 c.requires.1 c.entries.invariant.0 c.entries-test.true refl c.in_default.ensures

pub entries-preserved : goal.entries-preserved
entries-preserved c =
    let payload = c.args.payload.now in
    let at = c.entries.at in
    let split = c.in-Some.ensures in
    let len = c.in-Some.len in
    let entry = entry_of c.in-Some.parts in
    let more = taken_more c.args.count c.entries._done at len payload (take (length payload - at) (drop at payload)) c.requires.0 c.entries.row entry c.requires.1 c.entries.invariant c.entries-test.true refl split.0 split.1 split.2 in
    let pushed : c.push.new.self ≡ c.entries.row ++ entry ∷ [] = c.in-Ok.ensures.ok ∙ ap (λ (e : Entry). c.entries.row ++ e ∷ []) c.in_ok-entry.ensures in
    let P : List Entry → Type 0 = λ row. Taken payload (c.entries._done + 1) (at + len) row in
    subst P (sym pushed) more

pub returns : goal.returns
returns c =
    let all : c.entries._done ≡ c.args.count = omega arith in
    let P : ℕ → Type 0 = λ n. Taken c.args.payload.now n c.entries.at c.entries.row in
    taken_whole c.args.count c.entries.at c.args.payload.now c.requires.0 c.entries.row c.requires.1 (subst P all c.entries.invariant)
