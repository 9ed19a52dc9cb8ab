use Rattle.std.proofs.Common.{◌≡◌, ◌+◌, ◌-◌, ◌≤◌, length, take, drop, refl, sym, subst, ◌∙◌, arith}
use Rattle.chunk_format.specs.Chunks.{entry_records}
use Rattle.chunk_format.specs.Parts.{entry_of}
use Rattle.chunk_format.proofs.EntryLaws.{Walked, walked_start, walked_more, no_entry_there, no_records_there, entry_wrong}
use Rattle.chunk_format.proofs.check.walk_entries.Goals as goal

pub entries-init : goal.entries-init
entries-init c = walked_start c.args.payload.now

pub returns-in_default : goal.returns-in_default
returns-in_default c =
    let payload = c.args.payload.now in
    let at = c.entries.at in
    let none = no_entry_there payload (take (length payload - at) (drop at payload)) at refl c.in_default.ensures in
    entry_wrong payload c.args.count c.entries._done at c.entries.total c.entries.invariant (omega arith) (λ _. none) (λ e. absurd (omega arith))

pub returns-then-records-eq0 : goal.returns-then-records-eq0
returns-then-records-eq0 c =
    let payload = c.args.payload.now in
    let at = c.entries.at in
    let split = c.in-Some.ensures in
    let nothing : entry_records (entry_of c.in-Some.parts) ≡ 0 = sym c.records-records.ensures ∙ c.if-records-eq0.true in
    let none = no_records_there payload (take (length payload - at) (drop at payload)) at c.in-Some.len (entry_of c.in-Some.parts) refl split.0 split.1 nothing in
    entry_wrong payload c.args.count c.entries._done at c.entries.total c.entries.invariant (omega arith) (λ _. none) (λ e. absurd (omega arith))

pub entries-preserved : goal.entries-preserved
entries-preserved c =
    let split = c.in-Some.ensures in
    let some : 1 ≤ c.records-records.result = omega arith in
    let few : c.records-records.result ≤ 65535 = omega arith in
    let more = walked_more c.args.payload.now c.entries._done c.entries.at c.entries.total c.entries.invariant (entry_of c.in-Some.parts) c.in-Some.len c.records-records.result _ refl split.0 split.1 split.2 c.records-records.ensures some few in
    let same : c.records-records.result ≡ c.from-total.result = sym c.from-total.ensures in
    subst (λ n. Walked c.args.payload.now (c.entries._done + 1) (c.entries.at + c.in-Some.len) (c.entries.total + n)) same more
