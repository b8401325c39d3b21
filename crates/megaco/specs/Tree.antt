-- The tree of a message. Names, words and values are the bytes received.
use Rattle.std.specs.Prelude.{ℕ, zero, suc, Bool, List}
use Rattle.std.proofs.Math.Option.{Option}
use Rattle.megaco.specs.declared.Ack.{Ack}
use Rattle.megaco.specs.declared.Context.{Context}
use Rattle.megaco.specs.declared.Direction.{Direction}

-- `octets`: the text in the braces of Local or Remote, which stands in the place of a value (document 02, CR 11)
pub data Value : Type 0 where
  plain quoted octets : List ℕ → Value

-- "Item: word, optional `/` word, optional `=` value, optional `{` items `}`"
pub data ItemOf (A : Type 0) : Type 0 where
  item : (word : List ℕ) (second : Option (List ℕ)) (value : Option Value) (inside : Option (List A)) → ItemOf A

-- "An item holds items in its turn": an item with k levels, its own among them
abbrev pub Item : ℕ → Type 0
Item zero = ⊥
Item (suc k) = ItemOf (Item k)

-- "the command's own are level 1, and level 9 is a fault"
abbrev pub Items : Type 0
Items = Option (List (Item 8))

-- "Command: optional `O-`, optional `W-`, word `=` termination, optional `{` items `}`"
pub data Command : Type 0 where
  command : (optional wild : Bool) (word name : List ℕ) (items : Items) → Command

-- "triples of two full names and Isolate/IS, Oneway/OW, Bothway/BW" (document 02, CR 6)
pub data Triple : Type 0 where
  triple : (one two : List ℕ) (direction : Direction) → Triple

-- "Properties: PR `=` 1 to 5 digits; EG", and "Topology/TP in an action's properties"
pub data Property : Type 0 where
  priority : ℕ → Property
  emergency : Property
  topology : List Triple → Property

pub data Action : Type 0 where
  action : (context : Context) (properties : List Property) (commands : List Command) → Action

pub data Transaction : Type 0 where
  transaction : (id : ℕ) (actions : List Action) → Transaction

-- TransactionResponseAck/K stands "in its turn among the transactions and as one of the eight" (document 02, CR 3)
pub data Part : Type 0 where
  request : Transaction → Part
  acknowledge : List Ack → Part

pub data Message : Type 0 where
  well_formed : List Part → Message
  fault400 fault406 : Message
  fault403 : (id : ℕ) → Message
