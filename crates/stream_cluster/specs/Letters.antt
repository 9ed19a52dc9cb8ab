-- Messages by their places, counted from 0.
use Rattle.std.specs.Prelude.{◌≡◌, ℕ, Bool, ◌==◌, List, position, Some}
use Rattle.epoch_coordinator.specs.declared.message.Sent.{Sent}
use Rattle.replication_laws.specs.Cluster.{Letter, letter_in}

abbrev pub is_numbered : ℕ → Letter → Bool
is_numbered number l = l.number == number

-- the message of a number stands at a place, and goes to a receiver
pub record ComesTo (number place to : ℕ) (mail : List Letter) : Type 0 where
  pub at : position (is_numbered number) mail ≡ Some place
  pub sent : Sent
  pub is : letter_in number mail ≡ Some sent
  pub goes : sent.to ≡ to
