-- Lines and their outputs, one after the other.
use Rattle.std.proofs.Common.{◌≡◌, ℕ, suc, ◌+◌, ◌<◌, List, [], ◌∷◌, ◌++◌, length, get_or, take, drop, Option, refl, sym, ap, subst, ◌∙◌, append_assoc, length-append, add-one, drop-cons}
use Rattle.std.proofs.lemmas.List.{append-nil, take-append-drop}
use Rattle.std.proofs.lemmas.List.Elements.{All-append, All-nil, All-from_recursion}
use Rattle.std.proofs.lemmas.Grind.{flat_map-append}
use Rattle.outside_io.specs.Known.{after_known}
use Rattle.outside_io.specs.declared.sink.Gave.TheVariants as gave
use Rattle.outside_io.proofs.KnownLaws.{added_more}
use Rattle.script_text.specs.declared.script.ScriptLine.{ScriptLine}
use Rattle.script_text.specs.Words.{line_feed, Lacks}
use Rattle.script_text.specs.Script.{words_of, line_bytes, IsScriptLine, Spells}
use Rattle.script_text.specs.declared.output.OutputLine.{OutputLine}
use Rattle.script_text.specs.Outputs.{output_bytes}
use Rattle.replay_node.specs.Outputs.{output_lines}
use Rattle.replay_node.specs.NodeState.{NodeState, LineGives, IsBad}
use Rattle.replay_node.specs.Replays.{Answers, lines_bytes, outputs_bytes, all_bytes, Plays}
use Rattle.replay_node.specs.Plays.{joined, Cuts}
use Rattle.script_text.proofs.Splits.{lacks_it_not}

-- the lines of outputs are their bytes
pub joined_lines : (outputs : List OutputLine) → joined (output_lines outputs) ≡ outputs_bytes outputs
joined_lines [] = refl
joined_lines (o ∷ os) = ap (λ (l : List ℕ). output_bytes o ++ l) (joined_lines os)

-- a write that failed within one of several lines
pub cut_lines : (w0 w1 w2 : Option (List ℕ)) (lines : List (List ℕ)) (i k : ℕ) (line : List ℕ) → i < length lines → line ≡ get_or lines i line
    → w1 ≡ after_known w0 (joined (take i lines)) → w2 ≡ after_known w1 (take k line) → Cuts gave.Failed (joined lines) w0 w2
cut_lines w0 w1 w2 lines i k line lt is before cut =
    let split : drop i lines ≡ line ∷ drop (i + 1) lines = drop-cons lines i line lt ∙ ap (λ (x : List ℕ). x ∷ drop (suc i) lines) (sym is) ∙ ap (λ (n : ℕ). line ∷ drop n lines) (sym (add-one i)) in
    let whole : lines ≡ take i lines ++ line ∷ drop (i + 1) lines = sym (take-append-drop i lines) ∙ ap (λ (l : List (List ℕ)). take i lines ++ l) split in
    let parts : joined lines ≡ joined (take i lines) ++ (line ++ joined (drop (i + 1) lines)) = ap joined whole ∙ flat_map-append (λ (l : List ℕ). l) (take i lines) (line ∷ drop (i + 1) lines) in
    let inner : line ++ joined (drop (i + 1) lines) ≡ take k line ++ (drop k line ++ joined (drop (i + 1) lines)) =
    ap (λ (l : List ℕ). l ++ joined (drop (i + 1) lines)) (sym (take-append-drop k line)) ∙ append_assoc (take k line) (drop k line) (joined (drop (i + 1) lines)) in (
      joined (take i lines) ++ take k line,
      (drop k line ++ joined (drop (i + 1) lines), parts ∙ ap (λ (l : List ℕ). joined (take i lines) ++ l) inner ∙ sym (append_assoc (joined (take i lines)) (take k line) (drop k line ++ joined (drop (i + 1) lines)))),
      added_more w0 w1 w2 (joined (take i lines)) (take k line) before cut,
    )

pub Answers-append : (a b c : NodeState) (ls ms : List ScriptLine) (os ps : List (List OutputLine)) → Answers a ls os b → Answers b ms ps c → Answers a (ls ++ ms) (os ++ ps) c
Answers-append a b c [] ms [] ps p q = subst (λ (n : NodeState). Answers n ms ps c) p q
Answers-append a b c (l ∷ ls) ms (o ∷ os) ps p q = (p.0, p.1, Answers-append p.0 b c ls ms os ps p.2 q)
Answers-append a b c [] ms (o ∷ os) ps p q = absurd p
Answers-append a b c (l ∷ ls) ms [] ps p q = absurd p

-- nothing yet
pub plays_none : (node : NodeState) (stream : List ℕ) → Plays node node stream stream [] 0
plays_none node stream = record { lines = []; outputs = []; run = refl; valid = All-nil IsScriptLine; read = refl; written = refl; count = refl }

-- one line
pub plays_line : (old new : NodeState) (bytes : List ℕ) (line : ScriptLine) (outputs : List OutputLine) → Spells bytes line → LineGives old line outputs new → Plays old new bytes [] (outputs_bytes outputs) 1
plays_line old new bytes line outputs spells gives = record {
  lines = line ∷ [];
  outputs = outputs ∷ [];
  run = (new, gives, refl);
  valid = All-from_recursion IsScriptLine (line ∷ []) (spells.valid, tt);
  read = spells.spelled ∙ sym (append-nil (lines_bytes (line ∷ [])) ∙ append-nil (line_bytes line));
  written = sym (append-nil (outputs_bytes outputs));
  count = refl;
}

-- one after the other
pub plays_then : (a b c : NodeState) (stream mid rest x y : List ℕ) (n m : ℕ) → Plays a b stream mid x n → Plays b c mid rest y m → Plays a c stream rest (x ++ y) (n + m)
plays_then a b c stream mid rest x y n m p q = record {
  lines = p.lines ++ q.lines;
  outputs = p.outputs ++ q.outputs;
  run = Answers-append a b c p.lines q.lines p.outputs q.outputs p.run q.run;
  valid = All-append IsScriptLine p.lines q.lines p.valid q.valid;
  read = p.read ∙ ap (λ (l : List ℕ). lines_bytes p.lines ++ l) q.read ∙ sym (append_assoc (lines_bytes p.lines) (lines_bytes q.lines) rest)
      ∙ ap (λ (l : List ℕ). l ++ rest) (sym (flat_map-append line_bytes p.lines q.lines));
  written = ap (λ (l : List ℕ). l ++ y) p.written ∙ ap (λ (l : List ℕ). all_bytes p.outputs ++ l) q.written ∙ sym (flat_map-append outputs_bytes p.outputs q.outputs);
  count = length-append p.lines q.lines ∙ ap (λ (k : ℕ). k + length q.lines) p.count ∙ ap (λ (k : ℕ). n + k) q.count;
}

-- the stream goes on
pub plays_more : (a b : NodeState) (stream rest given more : List ℕ) (n : ℕ) → Plays a b stream rest given n → Plays a b (stream ++ more) (rest ++ more) given n
plays_more a b stream rest given more n p = record {
  lines = p.lines;
  outputs = p.outputs;
  run = p.run;
  valid = p.valid;
  read = ap (λ (l : List ℕ). l ++ more) p.read ∙ append_assoc (lines_bytes p.lines) rest more;
  written = p.written;
  count = p.count;
}

-- without a line feed it is no line
pub no_feed_is_bad : (node : NodeState) (bytes : List ℕ) → Lacks line_feed bytes → IsBad node bytes
no_feed_is_bad node bytes lacks line spells outputs new gives = lacks_it_not line_feed (words_of line) [] (subst (Lacks line_feed) spells.spelled lacks)
