use Rattle.std.proofs.Common.{◌≡◌, ◌∷◌, [], ◌++◌, List, ℕ, take, drop, refl, ap, ◌∙◌, arith}
use Rattle.std.proofs.lemmas.List.{take_at, drop_at, length-take}
use Rattle.disk_calls.proofs.FrameLemmas.{settled_holds}
use Rattle.gated_words.specs.declared.record.Form.TheVariants as form
use Rattle.gated_words.specs.Words.{gate, shut}
use Rattle.gated_words.proofs.Spelling.{length-shut, length-spelled}
use Rattle.gated_words.proofs.Adding.{held_settled, words_end, words_written, words_sure, gate_written, gate_sure}
use Rattle.gated_words.proofs.add_pair.add.Goals as goal

front : (whole : List ℕ) (pair : ℕ × ℕ) → whole ≡ shut form.Second pair ++ gate ∷ [] → take 17 whole ≡ shut form.Second pair
front whole pair is = ap (λ (l : List ℕ). take 17 l) is ∙ take_at (shut form.Second pair) (gate ∷ []) 17 (omega (arith, length-shut form.Second pair))

back : (whole : List ℕ) (pair : ℕ × ℕ) → whole ≡ shut form.Second pair ++ gate ∷ [] → take 1 (drop 17 whole) ≡ gate ∷ []
back whole pair is = ap (λ (l : List ℕ). take 1 (drop 17 l)) is ∙ ap (λ (l : List ℕ). take 1 l) (drop_at (shut form.Second pair) (gate ∷ []) 17 (omega (arith, length-shut form.Second pair)))

pub append-requires : goal.append-requires
append-requires g c = λ told.
    let held = c.requires told in
    (_, settled_holds _ _ _ (held_settled _ _ _ _ c.second_file-two.ensures held), omega (arith, length-spelled form.Second c.args.pairs.now))

pub returns-in-Failed-clause-images : goal.returns-in-Failed-clause-images
returns-in-Failed-clause-images g c = λ told.
    let held = c.requires told in
    words_written _ _ _ _ _ _ _ c.second_file-two.ensures held (omega (arith, length-take {A = ℕ})) c.append.ensures.others (c.append.ensures.images told _ (held_settled _ _ _ _ c.second_file-two.ensures held))

pub append-requires-2 : goal.append-requires-2
append-requires-2 g c = λ told.
    let held = c.requires told in
    let settled = c.append.ensures.done told c.in_default.is _ (settled_holds _ _ _ (held_settled _ _ _ _ c.second_file-two.ensures held)) in
    let sure = words_sure _ _ _ _ _ (c.args.first, c.args.second) _ c.second_file-two.ensures held (omega arith) (omega arith) (front _ _ c.record_of-record.ensures) c.append.ensures.others settled in
    (_, settled_holds _ _ _ sure.settled, words_end c.args.pairs.now (c.args.first, c.args.second) _ refl)

pub returns-clause-images : goal.returns-clause-images
returns-clause-images g c = λ told.
    let held = c.requires told in
    let settled = c.append.ensures.done told c.in_default.is _ (settled_holds _ _ _ (held_settled _ _ _ _ c.second_file-two.ensures held)) in
    let sure = words_sure _ _ _ _ _ (c.args.first, c.args.second) _ c.second_file-two.ensures held (omega arith) (omega arith) (front _ _ c.record_of-record.ensures) c.append.ensures.others settled in
    gate_written _ _ _ _ _ _ _ sure (back _ _ c.record_of-record.ensures) c.append-2.ensures.others (c.append-2.ensures.images told _ sure.settled)

pub returns-clause-done : goal.returns-clause-done
returns-clause-done g c = λ told did.
    let held = c.requires told in
    let settled = c.append.ensures.done told c.in_default.is _ (settled_holds _ _ _ (held_settled _ _ _ _ c.second_file-two.ensures held)) in
    let sure = words_sure _ _ _ _ _ (c.args.first, c.args.second) _ c.second_file-two.ensures held (omega arith) (omega arith) (front _ _ c.record_of-record.ensures) c.append.ensures.others settled in
    gate_sure _ _ _ _ _ _ _ sure (back _ _ c.record_of-record.ensures) c.append-2.ensures.others (c.append-2.ensures.done told did _ (settled_holds _ _ _ sure.settled))
