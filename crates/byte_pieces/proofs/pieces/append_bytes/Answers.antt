use Rattle.std.proofs.Common.{◌∙◌, ℕ, List, ◌++◌, length, take, ap, arith}
use Rattle.std.proofs.lemmas.List.{take_rest, length-drop}
use Rattle.byte_pieces.specs.Joined.{all_bytes}
use Rattle.byte_pieces.proofs.Parts.{added_more}
use Rattle.byte_pieces.proofs.pieces.append_bytes.Goals as goal

pub loop-done-preserved : goal.loop-done-preserved
loop-done-preserved c =
    let ok = c.in_ok-count.ensures.ok in
    let bytes = c.args.bytes.now in
    let now = all_bytes c.loop-done.full.items c.loop-done.last.items in
    let rest = take_rest bytes c.loop-done.done in (
      omega (arith, ap (length {A = ℕ}) rest, length-drop {A = ℕ}),
      added_more (all_bytes c.args.full.now.items c.args.last.now.items) now (all_bytes c.append_some.new.full.items c.append_some.new.last.items) bytes c.loop-done.done c.in_ok-count.count c.loop-done.invariant.1 (ok.2 ∙ ap (λ (l : List ℕ). now ++ take c.in_ok-count.count l) rest),
      (λ pieces. c.in_ok-count.ensures.pieces (c.loop-done.invariant.2 pieces)),
    )
