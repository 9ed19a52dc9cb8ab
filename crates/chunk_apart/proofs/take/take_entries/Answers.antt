use Rattle.std.proofs.Common.{◌≡◌, ◌+◌, ◌-◌, ◌≤◌, ◌∷◌, [], ◌++◌, List, ℕ, length, take, drop, refl, sym, ap, subst, ◌∙◌, arith}
use Rattle.chunk_format.specs.declared.entry.Entry.{Entry}
use Rattle.chunk_format.specs.Chunks.{entry_records}
use Rattle.chunk_format.specs.Parts.{entry_of}
use Rattle.chunk_format.proofs.EntryLaws.{no_entry_there, no_records_there, entry_wrong}
use Rattle.chunk_apart.proofs.TakeLaws.{TakenSo, taken_start, taken_more, taken_whole, as_walked, wrong_here}
use Rattle.chunk_apart.proofs.take.take_entries.Goals as goal

pub entries-init : goal.entries-init
entries-init c = let P : List Entry → Type 0 = λ row. TakenSo c.args.payload.now 0 0 0 row in subst P (sym c.new-entries.ensures) (taken_start c.args.payload.now)

pub returns-in_default : goal.returns-in_default
returns-in_default c =
    let payload = c.args.payload.now in
    let at = c.entries.at in
    let none = no_entry_there payload (take (length payload - at) (drop at payload)) at refl c.in_default.ensures in
    let walked = as_walked payload c.entries._done at c.entries.records c.entries.entries c.entries.invariant in
    let wrong = entry_wrong payload c.args.header.now.entries c.entries._done at c.entries.records walked (omega arith) (λ _. none) (λ e. absurd (omega arith)) in
    wrong_here c.args.header.now payload at c.wrong_count.result c.requires wrong c.wrong_count.ensures

pub returns-then-takes-eq0 : goal.returns-then-takes-eq0
returns-then-takes-eq0 c =
    let payload = c.args.payload.now in
    let at = c.entries.at in
    let split = c.in-Some.ensures in
    let nothing : entry_records (entry_of c.in-Some.parts) ≡ 0 = sym c.records-takes.ensures ∙ c.if-takes-eq0.true in
    let none = no_records_there payload (take (length payload - at) (drop at payload)) at c.in-Some.len (entry_of c.in-Some.parts) refl split.0 split.1 nothing in
    let walked = as_walked payload c.entries._done at c.entries.records c.entries.entries c.entries.invariant in
    let wrong = entry_wrong payload c.args.header.now.entries c.entries._done at c.entries.records walked (omega arith) (λ _. none) (λ e. absurd (omega arith)) in
    wrong_here c.args.header.now payload at c.wrong_count-then-takes-eq0.result c.requires wrong c.wrong_count-then-takes-eq0.ensures

pub overflow_add-records : goal.overflow_add-records
overflow_add-records c = let small = c.entries.invariant.small in omega (arith, small)

pub entries-preserved : goal.entries-preserved
entries-preserved c =
    let payload = c.args.payload.now in
    let at = c.entries.at in
    let split = c.in-Some.ensures in
    let len = c.in-Some.len in
    let entry = entry_of c.in-Some.parts in
    let some : 1 ≤ c.records-takes.result = omega arith in
    let few : c.records-takes.result ≤ 65535 = omega arith in
    let more = taken_more payload c.entries._done at c.entries.records c.entries.entries c.entries.invariant entry len c.records-takes.result (take (length payload - at) (drop at payload)) refl split.0 split.1 split.2 c.records-takes.ensures some few in
    let counted = subst (λ (n : ℕ). TakenSo payload (c.entries._done + 1) (at + len) (c.entries.records + n) (c.entries.entries ++ entry ∷ [])) (sym c.from-records.ensures) more in
    let pushed : c.push.new.self ≡ c.entries.entries ++ entry ∷ [] = c.in-Ok-push.ensures.ok ∙ ap (λ (e : Entry). c.entries.entries ++ e ∷ []) c.in-Ok.ensures in
    let P : List Entry → Type 0 = λ row. TakenSo payload (c.entries._done + 1) (at + len) (c.entries.records + c.from-records.result) row in
    subst P (sym pushed) counted

pub returns-then-at-payload : goal.returns-then-at-payload
returns-then-at-payload c =
    let payload = c.args.payload.now in
    let at = c.entries.at in
    let walked = as_walked payload c.entries._done at c.entries.records c.entries.entries c.entries.invariant in
    let wrong = entry_wrong payload c.args.header.now.entries c.entries._done at c.entries.records walked (omega arith) (λ less. absurd (omega (arith, less))) (λ e. omega arith) in
    wrong_here c.args.header.now payload at c.wrong_count-then-at-payload.result c.requires wrong c.wrong_count-then-at-payload.ensures

pub returns : goal.returns
returns c = taken_whole c.args.payload.now c.args.header.now.entries c.entries._done c.entries.at c.entries.records c.entries.entries (omega arith) c.entries.invariant (omega arith)
