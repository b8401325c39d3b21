-- The parts and ends that are found are those of the tree told by position, in the form in which `search` uses them.
use Rattle.std.specs.Prelude.{Some, None}
use Prim.Native.Nat.{ℕ, suc, ◌+◌, ◌-◌, ◌<◌, ◌≤◌}
use mathlib.Core.Path.{◌≡◌, refl, sym, ap, ◌∙◌}
use mathlib.Core.Bool.{Bool, true, false}
use mathlib.Core.List.{List}
use native.Mathlib.Omega.{arith}
use lib.ListN.{length}
use Rattle.base.specs.Pick.{pick}
use Rattle.base.specs.Lists.{is_at, part}
use Rattle.megaco.specs.Bytes.{comma, right_brace}
use Rattle.megaco.specs.Keywords.{spells}
use Rattle.megaco.specs.Tokens.{row_at, termination_at}
use Rattle.megaco.specs.Tree.{priority, emergency, topology, Triple}
use Rattle.megaco.specs.Reading.{unlimited, is_property, word_here}
use Rattle.protocol.specs.Types.{Parsed, WordByte, Direction, Topology, EmergencyToken, TopologyToken}
use Rattle.read_command.specs.declared.Piece.{Piece}
use Rattle.read_command.specs.Pieces.{Holds}
use Rattle.read_command.specs.declared.Rest.{Rest}
use Rattle.read_command.specs.Places.{body_start, direction_of, direction_at, party_at, party_end, two_start, direction_start, triple_at, triples_start, triples_at, topology_at, property_at, rest, rest_of, rest_in, body_end, action_at, actions_at}
use Rattle.read_command.specs.Messages.{actions_start, closing_end, transaction_end}
use Rattle.read_command.specs.Production.{end_of, past_white, past_sign, word_end}
use Rattle.command_places.specs.Found.{next_at}
use Rattle.command_places.proofs.NextLaws.{part_last, part_more}
use Rattle.action_places.specs.declared.ActionPlaces.{ActionPlaces}
use Rattle.action_places.specs.declared.TriplePlaces.{TriplePlaces}
use Rattle.action_places.specs.declared.PropertyPlaces.{PropertyPlaces}
use Rattle.action_places.specs.declared.TransactionPlaces.{TransactionPlaces}
use Rattle.action_places.specs.ActionPlaces.{action_places, OfTriple, triple_from, kind_of, property_places, transaction_places}

-- ---- topology

pub direction_found : (s : List ℕ) (at e : ℕ) (w : Piece) (r : Direction) → e ≡ row_at WordByte s at → Holds s at e w → r ≡ direction_of (part s w.from w.to) → r ≡ (direction_at s at).tree
unfolding direction_at word_end
direction_found s at e w r h g f = rw (← h, ← g.bytes) f

triple_ends : (s : List ℕ) (at u e : ℕ) → u ≡ direction_start s at → e ≡ row_at WordByte s u → past_white s e ≡ (triple_at s at).end
unfolding triple_at party_at direction_at word_end party_end two_start direction_start
triple_ends s at u e h g = rw (g, h)

pub triple_found : (s : List ℕ) (at a p q b r u e z : ℕ) (x y : Parsed) (one two : Piece) (d : Direction) → x ≡ termination_at s at → a ≡ end_of x → Holds s at a one
    → p ≡ past_white s a → q ≡ past_sign comma s p → y ≡ termination_at s q → b ≡ end_of y → Holds s q b two → r ≡ past_white s b → u ≡ past_sign comma s r
    → d ≡ (direction_at s u).tree → e ≡ row_at WordByte s u → z ≡ past_white s e → OfTriple s at (record { one = one; two = two; direction = d; end = z })
unfolding party_end two_start direction_start
triple_found s at a p q b r u e z x y one two d ex ea h ep eq ey eb k er eu ed ee ez =
    let first : a ≡ party_end s at = ea ∙ rw ex in
    let qs : q ≡ two_start s at = eq ∙ rw (ep, first) in
    let bs : b ≡ party_end s (two_start s at) = eb ∙ rw (ey, qs) in
    let us : u ≡ direction_start s at = eu ∙ rw (er, bs) in
    record { one = rw first at h; two = rw qs at (rw bs at k); direction = ed ∙ rw us; end = ez ∙ triple_ends s at u e us ee }

-- what its parts tell is the triple
pub triple_is : (s : List ℕ) (at : ℕ) (r : TriplePlaces) → OfTriple s at r → (triple_at s at).tree ≡ triple_from s r
unfolding triple_at party_at party_end two_start direction_start triple_from
triple_is s at r h = rw (h.one.bytes, h.two.bytes, h.direction)

-- ---- what a property is, by its kind

kind_pick : (x y : Bool) (ts : List Triple) (n : ℕ) → kind_of (pick x emergency (pick y (topology ts) (priority n))) ≡ Topology → pick x emergency (pick y (topology ts) (priority n)) ≡ topology ts
unfolding kind_of pick
kind_pick true y ts n e = cc
kind_pick false true ts n e = cc
kind_pick false false ts n e = cc

-- a topology has the triples that begin behind its brace
pub kind_topology : (s : List ℕ) (at : ℕ) → kind_of (property_at s at).tree ≡ Topology → (property_at s at).tree ≡ topology (triples_at s (triples_start s at)).tree
unfolding property_at topology_at triples_start
kind_topology s at e = kind_pick (spells EmergencyToken (word_here s at)) (spells TopologyToken (word_here s at)) _ _ e

-- ---- what follows the properties: n of them were read

pub rest_start : (s : List ℕ) (at : ℕ) → rest_of (unlimited s) s at ≡ rest_of (length s + 1 - 0) s at
unfolding unlimited
rest_start s at = let z : length s + 1 - 0 ≡ length s + 1 = omega arith in rw z

module _ (s : List ℕ) (n i : ℕ) (q : Rest) (inv : q ≡ rest_of (length s + 1 - n) s i) where
  pub rest_none : length s < n → rest false i ≡ q
  unfolding rest_of
  rest_none h = let z : length s + 1 - n ≡ 0 = omega arith in sym (inv ∙ rw z)

  module _ (h : n ≤ length s) (z : Bool) (d : z ≡ is_property (word_here s i)) where
    turn : q ≡ pick z (pick (is_at s (property_at s i).end comma) (rest_of (length s + 1 - (n + 1)) s (past_sign comma s (property_at s i).end)) (rest false (property_at s i).end)) (rest true i)
    unfolding rest_of
    turn = let k : length s + 1 - n ≡ suc (length s + 1 - (n + 1)) = omega arith in by (length s + 1 - n) (length s + 1 - (n + 1)) k inv
      where
        by : (a b : ℕ) → a ≡ suc b → q ≡ rest_of a s i → q ≡ pick z (pick (is_at s (property_at s i).end comma) (rest_of b s (past_sign comma s (property_at s i).end)) (rest false (property_at s i).end)) (rest true i)
        by a b e f = rw d (rw e at f)

    pub rest_commands : z ≡ false → rest true i ≡ q
    unfolding pick
    rest_commands f = sym (turn ∙ rw f)

    module _ (t : z ≡ true) (p : PropertyPlaces) (e : p ≡ property_places s i) (x : Parsed) (g : x ≡ next_at s p.end) where
      ends : p.end ≡ (property_at s i).end
      unfolding property_places
      ends = ap (λ (y : PropertyPlaces). y.end) e

      pub rest_last : x ≡ None → rest false p.end ≡ q
      unfolding pick
      rest_last w = sym (turn ∙ rw (t, ← ends) (part_last s p.end p.end refl x g (rest_of (length s + 1 - (n + 1)) s) (rest false p.end) w))

      pub rest_more : (u : ℕ) → x ≡ Some u → q ≡ rest_of (length s + 1 - (n + 1)) s u
      unfolding pick
      rest_more u w = turn ∙ rw t (part_more s p.end (property_at s i).end ends x g (rest_of (length s + 1 - (n + 1)) s) (rest false (property_at s i).end) u w)

-- ---- ends

pub action_ends : (s : List ℕ) (at e r : ℕ) (a : ActionPlaces) (b : Rest) → a ≡ action_places s at → b ≡ rest_of (unlimited s) s a.body → e ≡ body_end s b → r ≡ past_sign right_brace s e → r ≡ (action_at s at).end
unfolding action_at rest_in action_places
action_ends s at e r a b ea eb ee er =
    let z : a.body ≡ body_start s at = ap (λ (y : ActionPlaces). y.body) ea in
    er ∙ rw (ee, eb, z)

-- ---- transactions

pub transaction_ends : (s : List ℕ) (at e r : ℕ) (p : TransactionPlaces) → p ≡ transaction_places s at → e ≡ (actions_at s p.body).end → r ≡ closing_end s e → r ≡ transaction_end s at
unfolding transaction_end transaction_places
transaction_ends s at e r p ep ee er =
    let z : p.body ≡ actions_start s at = ap (λ (y : TransactionPlaces). y.body) ep in
    er ∙ rw (ee, z)
