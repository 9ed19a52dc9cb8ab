use Rattle.std.proofs.Common.{◌≡◌, ◌++◌, ◌∷◌, [], List, ℕ, ap, subst, ◌∙◌, append_assoc}
use Rattle.frame_wire.specs.Frames.{IsBody}
use Rattle.frame_wire.proofs.Streams.{frame_shortens, one_more, each_more}
use Rattle.frame_wire.proofs.stream.cut_frames.Goals as goal

pub frames-smaller : goal.frames-smaller
frames-smaller c = frame_shortens c.frames.cutter.rest c.next.new.self.body c.next.new.self.rest c.in-Frame.ensures.0

pub frames-preserved : goal.frames-preserved
frames-preserved c =
    let so_far = c.frames.invariant in
    let body = c.next.new.self.body in
    let is_body : c.in_ok-body-in-Frame.body ≡ body = c.in_ok-body-in-Frame.ensures ∙ c.body.ensures in
    let out : c.push.new.self ≡ c.args.out.now ++ (so_far.0 ++ body ∷ []) =
    c.in-Ok.ensures.ok ∙ ap (λ (x : List ℕ). c.frames.out ++ x ∷ []) is_body ∙ ap (λ (xs : List (List ℕ)). xs ++ body ∷ []) so_far.1 ∙ append_assoc c.args.out.now so_far.0 (body ∷ []) in
    let small = subst (λ (max : ℕ). IsBody max body) so_far.4 c.in-Frame.ensures.1 in (
      so_far.0 ++ body ∷ [],
      out,
      one_more c.args.cutter.now.rest so_far.0 c.frames.cutter.rest body c.next.new.self.rest so_far.2 c.in-Frame.ensures.0,
      each_more c.args.cutter.now.max so_far.0 body so_far.3 small,
      c.in-Frame.ensures.2 ∙ so_far.4,
    )
