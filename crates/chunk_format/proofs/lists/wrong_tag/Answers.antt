use Rattle.std.proofs.Common.{◌≡◌, ℕ, ◌-◌, length, take, drop, refl, subst, arith}
use Rattle.chunk_format.specs.Tags.{tag_bytes, IsTagOf}
use Rattle.chunk_format.specs.Parts.{tag_of}
use Rattle.chunk_format.proofs.Gone.{Gone, gone_more, no_tag_there, other_name, tags_wrong, tags_whole}
use Rattle.chunk_format.proofs.TagLaws.{none_false}
use Rattle.chunk_format.proofs.lists.wrong_tag.Goals as goal

pub returns-in_default-split_tag : goal.returns-in_default-split_tag
returns-in_default-split_tag c =
    let trailer = c.args.trailer.now in
    let first = c.in-Some.ensures in
    let name = c.in-Some.first.name.now in
    let none = no_tag_there name trailer (take (length trailer - c.tags.at) (drop c.tags.at trailer)) c.tags.at refl c.in_default-split_tag.ensures in
    tags_wrong name (tag_of c.in-Some.first) (drop c.in-Some.field-0-1 trailer) trailer c.args.entries c.tags._done c.tags.at (refl, first.0) first.1 c.tags.invariant
    (omega arith) (λ _. none) (λ e. absurd (omega arith))

pub returns-then-not-same_name : goal.returns-then-not-same_name
returns-then-not-same_name c =
    let trailer = c.args.trailer.now in
    let at = c.tags.at in
    let first = c.in-Some.ensures in
    let name = c.in-Some.first.name.now in
    let split = c.in-Some-split_tag.ensures in
    let left = take (length trailer - at) (drop at trailer) in
    let differs = none_false c.same_name.result (c.in-Some-split_tag.tag.name.now ≡ name) c.same_name.ensures c.if-not-same_name.true in
    let none = other_name name trailer left (drop c.in-Some-split_tag.len left) at (tag_of c.in-Some-split_tag.tag) refl split.0 split.1 differs in
    tags_wrong name (tag_of c.in-Some.first) (drop c.in-Some.field-0-1 trailer) trailer c.args.entries c.tags._done at (refl, first.0) first.1 c.tags.invariant
    (omega arith) (λ _. none) (λ e. absurd (omega arith))

pub tags-preserved : goal.tags-preserved
tags-preserved c =
    let name = c.in-Some.first.name.now in
    let split = c.in-Some-split_tag.ensures in
    let same = c.if-not-same_name.ensures.0 refl in
    gone_more tag_bytes (IsTagOf name) c.args.trailer.now c.tags._done c.tags.at c.tags.invariant (tag_of c.in-Some-split_tag.tag) c.in-Some-split_tag.len _ refl (same, split.0) split.1 split.2

pub returns-then-at-trailer : goal.returns-then-at-trailer
returns-then-at-trailer c =
    let trailer = c.args.trailer.now in
    let first = c.in-Some.ensures in
    tags_wrong c.in-Some.first.name.now (tag_of c.in-Some.first) (drop c.in-Some.field-0-1 trailer) trailer c.args.entries c.tags._done c.tags.at (refl, first.0) first.1 c.tags.invariant
    (omega arith) (λ lt. absurd (omega arith)) (λ _. c.if-at-trailer.true)

pub returns : goal.returns
returns c =
    let name = c.in-Some.first.name.now in
    let all : c.tags._done ≡ c.args.entries = omega arith in
    let gone = subst (λ (n : ℕ). Gone tag_bytes (IsTagOf name) c.args.trailer.now n c.tags.at) all c.tags.invariant in
    tags_whole name c.args.trailer.now c.args.entries c.tags.at gone c.if-at-trailer.false
