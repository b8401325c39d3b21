-- An action's start (document 01, 'Running'): its tests, and what it sets and reports. `there` is what it sees of its context, `links` are its
-- triples with their names looked up.
use Rattle.std.specs.Prelude.{ℕ, ◌+◌, ◌*◌, Bool, true, false, ◌&&◌, ◌||◌, List, [], ◌∷◌, ltb, eqb, Ok, Err}
use Rattle.base.specs.Pick.{pick}
use Rattle.megaco.specs.Tree.{Property, priority, emergency, topology}
use Rattle.megaco.specs.Table.{rec, cell, Write, write, priority_of, emergency_of}
use Rattle.megaco.specs.Topology.{any_topology, Link, link, is_unfit, is_absent, is_outside, set_links}
use Rattle.megaco.specs.Reply.{Report, failed, standing, Acted}
use Rattle.megaco.specs.Attempt.{Check, judge, flows_of, flowing, check}
use Rattle.megaco.specs.declared.Context.{Context}
use Rattle.megaco.specs.declared.Context.TheVariants.{Null, Numbered, Choose, All}
use Rattle.megaco.specs.Results.{Checked}
use Rattle.megaco.specs.declared.Seen.{Seen}

-- ---- its tests
unfoldable pub over15 : List Property → Bool
over15 [] = false
over15 (priority n ∷ ps) = ltb 15 n || over15 ps
over15 (emergency ∷ ps) = over15 ps
over15 (topology ts ∷ ps) = over15 ps

unfoldable pub any_given : List Property → Bool
any_given [] = false
any_given (p ∷ ps) = true

-- document 02, CR 6: "first faulty triple: 410 for a name twice in a triple, one with `*` or `$`, or ROOT; 430; 435 for one not in the context"
unfoldable pub link_checks : List Link → List Check
link_checks [] = []
link_checks (link twice a b d ∷ xs) =
    check (twice || is_unfit a || is_unfit b) 410 ∷ check (is_absent a || is_absent b) 430 ∷ check (is_outside a || is_outside b) 435 ∷ link_checks xs

-- "421 for context `*`; 421 for properties in `-`, or in `$` without commands; 449 for any priority over 15; 411 for properties in a
-- numbered context that does not exist"; of TP "In `$`, `-` or `*`: 421 at its old place", and its triples "after 411"
unfoldable pub start_checks : Context → List Property → Bool → Seen → List Link → List Check
start_checks Null ps alone there links = check (any_given ps) 421 ∷ []
start_checks (Numbered c) ps alone there links = check (over15 ps) 449 ∷ check (any_given ps && eqb there.held 0) 411 ∷ link_checks links
start_checks Choose ps alone there links = check (any_given ps && alone || any_topology ps) 421 ∷ check (over15 ps) 449 ∷ []
start_checks All ps alone there links = check true 421 ∷ []

-- ---- what it sets
-- "A new context has priority 0, no emergency"
abbrev pub new_record : ℕ
new_record = 1

-- "Properties are then set, the last of a kind holding"
unfoldable pub set_properties : List Property → ℕ → ℕ
set_properties [] r = r
set_properties (priority n ∷ ps) r = set_properties ps (1 + n + 16 * emergency_of r)
set_properties (emergency ∷ ps) r = set_properties ps (1 + priority_of r + 16)
set_properties (topology ts ∷ ps) r = set_properties ps r

-- "The triples of every TP in the action are set in order after 411, all or none"
unfoldable pub flow_writes : ℕ → List Property → Seen → List Link → List Write
flow_writes c ps there links = pick (any_topology ps) (flowing c (set_links links (flows_of there)) []) []

unfoldable pub start_writes : Context → List Property → Seen → List Link → List Write
start_writes Null ps there links = []
start_writes (Numbered c) ps there links = pick (any_given ps) (write (cell (rec c)) (set_properties ps there.held) ∷ flow_writes c ps there links) []
start_writes Choose ps there links = []
start_writes All ps there links = []

-- ---- what it leaves
-- what an action's start writes, and the action as it then stands
pub record Start : Type 0 where
  pub writes : List Write
  pub acted : Acted
  pub going : Bool

-- "An action of properties alone reports" them, as they are after setting
unfoldable pub start_reports : List Property → Bool → ℕ → List Report
start_reports ps alone r = pick alone (standing (set_properties ps r) ∷ []) []

-- those of `$` "are given to the context when it comes to be": the record that it will have is kept with the action
unfoldable pub started_by : Context → List Property → Bool → Seen → List Link → Checked → Start
started_by c ps alone there links (Ok tt) =
    record { writes = start_writes c ps there links; acted = record { at = c; given = set_properties ps new_record; said = start_reports ps alone there.held }; going = true }
started_by c ps alone there links (Err code) =
    record { writes = []; acted = record { at = c; given = new_record; said = failed code ∷ [] }; going = false }

unfoldable pub started : Context → List Property → Bool → Seen → List Link → Start
started c ps alone there links = started_by c ps alone there links (judge (start_checks c ps alone there links))
