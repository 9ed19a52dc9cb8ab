use Rattle.std.proofs.Common.{List, ℕ, Option, sym, subst, ◌∙◌}
use Rattle.hub_terms.specs.Calls.{Finding}
use Rattle.hub_terms.specs.Programs.{Runs}
use Rattle.session_tables.specs.declared.streams.StreamName.{StreamName}
use Rattle.session_core.specs.Speaking.{spoken}
use Rattle.session_core.specs.Ending.{ended_row, stream_row}
use Rattle.session_core.proofs.Answering.{on_ok}
use Rattle.session_core.proofs.Leading.{nothing_over, something_over}
use Rattle.session_core.proofs.ending.end_at.Goals as goal

pub returns-then-not-has_over-2-clause-ok : goal.returns-then-not-has_over-2-clause-ok
returns-then-not-has_over-2-clause-ok g c =
    let m = g.H.Hub.meaning in
    let t = c.args.tables.now in
    let known = c.stream_at-known.result.now in
    let does = subst (λ (n : List ℕ). m.does (Finding n) c.args.hub.now c.find.result c.find.new.self) c.bytes_of.ensures c.find.ensures in
    let here = nothing_over m t c.args.out.now known c.find.result c.running_on-running.result c.args.hub.now c.find.new.self (sym c.has_over.ensures ∙ c.if-not-has_over.false) does c.running_on-running.ensures (sym c.has_over-2.ensures ∙ c.if-not-has_over-2.true) in
    subst (λ (k : StreamName). Runs m (stream_row t c.args.out.now k) c.args.hub.now (spoken c.args.out.now t) c.find.new.self) c.stream_at-known.ensures here

pub returns-clause-ok : goal.returns-clause-ok
returns-clause-ok g c =
    let m = g.H.Hub.meaning in
    let t = c.args.tables.now in
    let out = c.args.out.now in
    let known = c.stream_at-known.result.now in
    let running = c.running_on-running.result in
    let got = spoken c.end_stream.new.out c.end_stream.new.tables in
    let does = subst (λ (n : List ℕ). m.does (Finding n) c.args.hub.now c.find.result c.find.new.self) c.bytes_of.ensures c.find.ensures in
    on_ok c.end_stream.result (λ last.
    let named = subst (λ (n : Option (List ℕ)). Runs m (ended_row t out known.stream running n) c.find.new.self got c.end_stream.new.hub) c.in_ok-name.ensures.cases last in
    let here = something_over m t out known c.find.result running c.args.hub.now c.find.new.self got c.end_stream.new.hub (sym c.has_over.ensures ∙ c.if-not-has_over.false) does c.running_on-running.ensures (sym c.has_over-2.ensures ∙ c.if-not-has_over-2.false) named in
    subst (λ (k : StreamName). Runs m (stream_row t out k) c.args.hub.now got c.end_stream.new.hub) c.stream_at-known.ensures here) c.end_stream.ensures.ok
