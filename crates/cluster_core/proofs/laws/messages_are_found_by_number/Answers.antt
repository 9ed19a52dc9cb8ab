use Rattle.cluster_core.proofs.Letters.{letter_none, letter_at, marked_at, without_at}
use Rattle.cluster_core.proofs.laws.messages_are_found_by_number.Goals as goal

pub returns : goal.returns
returns c = record { none = letter_none; found = λ number place mail n at is. letter_at number mail place n at is; marked = λ number place mail at. marked_at number mail place at; taken_out = λ number place mail at. without_at number mail place at }
