-- A line that was read, and is refused.
use Rattle.std.proofs.Common.{◌≡◌, ℕ, List, refl, subst}
use Rattle.script_text.specs.declared.script.ScriptLine.{ScriptLine}
use Rattle.script_text.specs.declared.script.ScriptLine.TheVariants.{Create, Prepare, Give, Poll, Settle}
use Rattle.script_text.specs.Script.{Spells}
use Rattle.script_text.proofs.Readings.{one_line}
use Rattle.replay_node.specs.NodeState.{NodeState, Refuses, IsBad}

pub bad_answer : (node : NodeState) (bytes : List ℕ) (line : ScriptLine) → Spells bytes line → Refuses node line → IsBad node bytes
bad_answer node bytes line spells refuses other also = subst (Refuses node) (one_line bytes line other spells also) refuses

-- no line that is served
pub record IsOther (line : ScriptLine) : Type 0 where
  pub no_create : (name : List ℕ) → line ≡ Create name → ⊥
  pub no_prepare : (connection : ℕ) (name : List ℕ) → line ≡ Prepare connection name → ⊥
  pub no_give : (connection : ℕ) (bytes : List ℕ) → line ≡ Give connection bytes → ⊥
  pub no_poll : (connection : ℕ) → line ≡ Poll connection → ⊥
  pub no_settle : (stream : ℕ) → line ≡ Settle stream → ⊥

-- every other line of the language is refused
pub others_refused : (node : NodeState) (line : ScriptLine) → IsOther line → Refuses node line
others_refused node (Create name) other outputs new gives = absurd (other.no_create name refl)
others_refused node (Prepare connection name) other outputs new gives = absurd (other.no_prepare connection name refl)
others_refused node (Give connection bytes) other outputs new gives = absurd (other.no_give connection bytes refl)
others_refused node (Poll connection) other outputs new gives = absurd (other.no_poll connection refl)
others_refused node (Settle stream) other outputs new gives = absurd (other.no_settle stream refl)
others_refused node line other outputs new gives = absurd gives
