-- Triples with their names looked up, as the code has them.
use Rattle.std.specs.Prelude.{ℕ, ◌≡◌, List, Bool, true, false}
use Rattle.megaco.specs.Tree as tree
use Rattle.megaco.specs.Square.{Square}
use Rattle.megaco.specs.Topology.{triples_of, Link, link, link_of, links_of, set_links}
use Rattle.megaco.specs.Attempt.{seen, flows_of}
use Rattle.protocol.specs.Types.{Property, Priority, Emergency, Topology}
use Rattle.read_command.specs.Places.{triple_at}
use Rattle.topology.specs.declared.Looked.{Looked}

unfoldable pub link_from : Looked → Link
link_from x = link x.twice x.one x.two x.direction

-- the triple at a place, looked up in context c
pub record Links (s : List ℕ) (at : ℕ) (t : List ℕ) (c : ℕ) (r : Looked) : Type 0 where
  pub is : link_from r ≡ link_of c t (triple_at s at).tree
  pub after : r.end ≡ (triple_at s at).end

unfoldable pub is_topology : Property → Bool
is_topology (Priority n) = false
is_topology Emergency = false
is_topology Topology = true

-- the flows of context c with the triples of properties set
unfoldable pub flows_after : List tree.Property → ℕ → List ℕ → Square
flows_after ps c t = set_links (links_of c t (triples_of ps)) (flows_of (seen c t))
