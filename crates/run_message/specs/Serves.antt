-- What the functions over a message promise.
use Rattle.std.specs.Prelude.{ℕ, ◌≡◌, Bool, List}
use Rattle.base.specs.Out.{Appended}
use Rattle.megaco.specs.State.{State}
use Rattle.megaco.specs.Room.{Room}
use Rattle.megaco.specs.Transaction.{Ran}
use Rattle.megaco.specs.Message.{Served}
use Rattle.room.specs.Keeping.{keep_fitting}

-- from the buffer o at `at`, a part of a message, or all of it, leaves the state t' and the room r', made of the lent slices, and the buffer o'; told: whether
-- there is a reply
pub record Serves (x : Served) (o : List ℕ) (at : ℕ) (t' : State) (r' : Room) (o' : List ℕ) (n : ℕ) (told : Bool) : Type 0 where
  pub state : t' ≡ x.state
  pub room : r' ≡ x.room
  pub text : Appended o at x.text o' n
  pub told_is : told ≡ x.told

-- a reply x: kept under the pair, where it fits, and put into the reply buffer
pub record Concluded (m : List ℕ) (id : ℕ) (x : List ℕ) (r : Room) (o : List ℕ) (at : ℕ) (r' : Room) (o' : List ℕ) (n : ℕ) : Type 0 where
  pub room : r' ≡ keep_fitting m id x r
  pub text : Appended o at x o' n

-- a transaction that ran, with its reply
pub record RanKept (m : List ℕ) (id : ℕ) (x : Ran) (r : Room) (o : List ℕ) (at : ℕ) (t' : State) (r' : Room) (o' : List ℕ) (n : ℕ) : Type 0 where
  pub state : t' ≡ x.state
  pub reply : Concluded m id x.text r o at r' o' n
