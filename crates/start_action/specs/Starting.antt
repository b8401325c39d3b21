-- What the functions of an action's start promise.
use Rattle.std.specs.Prelude.{ℕ, ◌+◌, ◌*◌, ◌≡◌, Bool, false, ◌&&◌, ◌||◌, List, [], ◌∷◌, ltb, eqb, Ok, Err}
use Rattle.base.specs.Pick.{pick}
use Rattle.megaco.specs.Table.{Write, write, cell, rec, priority_of, emergency_of}
use Rattle.megaco.specs.Tree as tree
use Rattle.megaco.specs.Reading.{unlimited}
use Rattle.megaco.specs.Square.{Square}
use Rattle.megaco.specs.Topology.{triples_of, any_topology, links_of}
use Rattle.megaco.specs.Attempt.{judge, number_of, flowing}
use Rattle.megaco.specs.Action.{link_checks, new_record, over15, set_properties}
use Rattle.protocol.specs.Types.{Checked, Context, Null, Numbered, Choose, All, Property, Priority, Emergency, Topology}
use Rattle.read_command.specs.Places.{properties_of}
use Rattle.start_action.specs.declared.PropertiesRead.{PropertiesRead}
use Rattle.start_action.specs.declared.Tested.{Tested}

-- a priority over 15
unfoldable pub over_one : Property → Bool
over_one (Priority n) = ltb 15 n
over_one Emergency = false
over_one Topology = false

-- a record with one property set in it
unfoldable pub set_one : Property → ℕ → ℕ
set_one (Priority n) r = 1 + n + 16 * emergency_of r
set_one Emergency r = 1 + priority_of r + 16
set_one Topology r = r

-- the properties that begin here
unfoldable pub properties_in : List ℕ → ℕ → List tree.Property
properties_in s at = properties_of (unlimited s) s at

-- what properties make of a new context's record and of the one held; 0 where a priority is over 15, and nothing is set
unfoldable pub given_by : List tree.Property → ℕ → PropertiesRead
given_by ps was = record { over = over15 ps; fresh = pick (over15 ps) 0 (set_properties ps new_record); held = pick (over15 ps) 0 (set_properties ps was) }

-- the tests at the start, by what is known of the properties: whether any is given, one over 15, topology; and what the tests of the triples come to
unfoldable pub judged_start : Context → Bool → Bool → Bool → Bool → ℕ → Checked → Checked
judged_start Null any over top alone held links = pick any (Err 421) (Ok tt)
judged_start (Numbered c) any over top alone held links = pick over (Err 449) (pick (any && eqb held 0) (Err 411) links)
judged_start Choose any over top alone held links = pick (any && alone || top) (Err 421) (pick over (Err 449) (Ok tt))
judged_start All any over top alone held links = Err 421

-- the tests of the triples
unfoldable pub linked : Context → List tree.Property → List ℕ → Checked
linked c ps t = judge (link_checks (links_of (number_of c) t (triples_of ps)))

pub record Tests (ps : List tree.Property) (c : Context) (t : List ℕ) (any over alone : Bool) (held : ℕ) (r : Tested) : Type 0 where
  pub given : r.topology ≡ any_topology ps
  pub code : r.checked ≡ judged_start c any over (any_topology ps) alone held (linked c ps t)

-- the record with its properties set, and the flows where topology is given
unfoldable pub property_writes : ℕ → Bool → ℕ → Square → List Write
property_writes c top r q = write (cell (rec c)) r ∷ pick top (flowing c q []) []

unfoldable pub wrote_start : Context → Bool → Bool → ℕ → Square → List Write
wrote_start Null any top r q = []
wrote_start (Numbered c) any top r q = pick any (property_writes c top r q) []
wrote_start Choose any top r q = []
wrote_start All any top r q = []
