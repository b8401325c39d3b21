-- The parts of actions and transactions, as the tree told by position has them (crate `read_command`, Places).
use Rattle.std.specs.Prelude.{ℕ, ◌≡◌, List}
use Rattle.megaco.specs.Tree as tree
use Rattle.megaco.specs.Tree.{Triple, triple, priority, emergency, topology, Transaction, transaction}
use Rattle.megaco.specs.White.{sep_at}
use Rattle.megaco.specs.Tokens.{m_id_at}
use Rattle.base.specs.Lists.{part}
use Rattle.protocol.specs.Types.{Property, Priority, Emergency, Topology}
use Rattle.read_command.specs.Messages.{identifier_at, version_at, actions_start, closing_end}
use Rattle.read_command.specs.Production.{end_of, value_in, next_in}
use Rattle.read_command.specs.Places.{context_start, context_at, body_start, direction_at, party_end, two_start, direction_start, triple_at, property_at, actions_at, ack_at}
use Rattle.read_command.specs.Pieces.{Holds}
use Rattle.command_places.specs.Found.{bytes_of}
use Rattle.action_places.specs.declared.ContextPlaces.{ContextPlaces}
use Rattle.action_places.specs.declared.ActionPlaces.{ActionPlaces}
use Rattle.action_places.specs.declared.TriplePlaces.{TriplePlaces}
use Rattle.action_places.specs.declared.PropertyPlaces.{PropertyPlaces}
use Rattle.action_places.specs.declared.TransactionPlaces.{TransactionPlaces}
use Rattle.action_places.specs.declared.AckPlaces.{AckPlaces}

unfoldable pub context_places : List ℕ → ℕ → ContextPlaces
context_places s at = record { context = (context_at s at).tree; end = (context_at s at).end }

unfoldable pub action_places : List ℕ → ℕ → ActionPlaces
action_places s at = record { context = (context_at s (context_start s at)).tree; body = body_start s at }

-- ---- topology

pub record OfTriple (s : List ℕ) (at : ℕ) (r : TriplePlaces) : Type 0 where
  pub one : Holds s at (party_end s at) r.one
  pub two : Holds s (two_start s at) (party_end s (two_start s at)) r.two
  pub direction : r.direction ≡ (direction_at s (direction_start s at)).tree
  pub end : r.end ≡ (triple_at s at).end

-- a triple as its parts tell it
unfoldable pub triple_from : List ℕ → TriplePlaces → Triple
triple_from s r = triple (bytes_of s r.one) (bytes_of s r.two) r.direction

-- ---- properties

-- a property of the tree, its triples aside
unfoldable pub kind_of : tree.Property → Property
kind_of (priority n) = Priority n
kind_of emergency = Emergency
kind_of (topology ts) = Topology

unfoldable pub property_places : List ℕ → ℕ → PropertyPlaces
property_places s at = record { property = kind_of (property_at s at).tree; end = (property_at s at).end }

unfoldable pub transaction_places : List ℕ → ℕ → TransactionPlaces
transaction_places s at = record { id = value_in (identifier_at s at); body = actions_start s at }

-- a transaction as its parts tell it, and its end
unfoldable pub transaction_from : List ℕ → TransactionPlaces → Transaction
transaction_from s a = transaction a.id (actions_at s a.body).tree

unfoldable pub transaction_from_end : List ℕ → TransactionPlaces → ℕ
transaction_from_end s a = closing_end s (actions_at s a.body).end

-- ---- acknowledgements

unfoldable pub ack_places : List ℕ → ℕ → AckPlaces
ack_places s at = record { ack = (ack_at s at).tree; end = (ack_at s at).end }

-- ---- the sender's mId: where it begins and ends, and its bytes

unfoldable pub sender_start : List ℕ → ℕ
sender_start s = end_of (sep_at s (next_in (version_at s)))

unfoldable pub sender_end : List ℕ → ℕ
sender_end s = end_of (m_id_at s (sender_start s))

unfoldable pub sender_here : List ℕ → List ℕ
sender_here s = part s (sender_start s) (sender_end s)
