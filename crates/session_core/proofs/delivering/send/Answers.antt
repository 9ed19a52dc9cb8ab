use Rattle.std.proofs.Common.{◌≡◌, ◌∙◌, Option, Result, Ok, None, Some, refl, ap, subst}
use Rattle.std.specs.declared.alloc.AllocError.{AllocError}
use Rattle.chunk_format.specs.declared.chunk.Chunk.{Chunk}
use Rattle.hub_terms.specs.Calls.{NextChunk}
use Rattle.session_tables.specs.Subscribing.{put_slot}
use Rattle.session_core.proofs.Leading.{send_next, send_stop, send_all}
use Rattle.session_core.proofs.delivering.send.Goals as goal

pub chunks-init : goal.chunks-init
chunks-init g c = record { so = λ got new run. run; same = refl; later = g.met.H.Hub.laws.seen.same c.args.hub.now }

pub chunks-preserved : goal.chunks-preserved
chunks-preserved g c =
    let s = c.chunks.left in
    let is : c.next_chunk.result ≡ Ok (Some c.in-Ok-Some.chunk) = cc (c.in-Ok-Some.is, c.in-Ok-Some.field-0-is) in
    let does = subst (λ (r : Result (Option Chunk) AllocError). g.H.Hub.meaning.does (NextChunk s.stream s.next) c.chunks.hub r c.next_chunk.new.self) is c.next_chunk.ensures in
    let called = g.met.H.Hub.laws.called (NextChunk s.stream s.next) c.chunks.hub c.next_chunk.new.self (Ok (Some c.in-Ok-Some.chunk)) does in record {
      so = send_next g.H.Hub.meaning c.args.tables.now c.args.tables.now.second c.args.id c.args.subscription s c.give.new.subscription c.args.out.now c.chunks.out c.give.new.out c.in-Ok-Some.chunk
          c.args.hub.now c.chunks.hub c.next_chunk.new.self c.give.new.hub c.chunks.invariant.so refl c.chunks-test.true does c.in_ok-give-in-Ok-Some.ensures.ok;
      same = c.chunks.invariant.same;
      later = g.met.H.Hub.laws.seen.joins c.args.hub.now c.next_chunk.new.self c.give.new.hub (g.met.H.Hub.laws.seen.joins c.args.hub.now c.chunks.hub c.next_chunk.new.self c.chunks.invariant.later called.later) c.in_ok-give-in-Ok-Some.ensures.later;
    }

pub returns-in-Ok-None-clause-ok : goal.returns-in-Ok-None-clause-ok
returns-in-Ok-None-clause-ok g c =
    let s = c.chunks.left in
    let is : c.next_chunk.result ≡ Ok None = cc (c.in-Ok-None.is, c.in-Ok-None.field-0-is) in
    let does = subst (λ (r : Result (Option Chunk) AllocError). g.H.Hub.meaning.does (NextChunk s.stream s.next) c.chunks.hub r c.next_chunk.new.self) is c.next_chunk.ensures in
    send_stop g.H.Hub.meaning c.args.tables.now c.put.new.self c.args.id c.args.subscription s c.args.out.now c.chunks.out c.args.hub.now c.chunks.hub c.next_chunk.new.self c.chunks.invariant.so c.chunks-test.true does
    (c.put.ensures ∙ ap (put_slot c.args.id (Some s)) c.chunks.invariant.same)

pub returns-clause-ok : goal.returns-clause-ok
returns-clause-ok g c =
    send_all g.H.Hub.meaning c.args.tables.now c.put-2.new.self c.args.id c.args.subscription c.chunks.left c.args.out.now c.chunks.out c.args.hub.now c.chunks.hub c.chunks.invariant.so c.chunks-test.false
    (c.put-2.ensures ∙ ap (put_slot c.args.id (Some c.chunks.left)) c.chunks.invariant.same)
