-- Laws of properties and of an action's body, in the form in which `search` uses them.
use Rattle.std.specs.Prelude.{Some, None}
use Prim.Native.Nat.{ℕ, suc, ◌+◌, ◌-◌, ◌<◌, ◌≤◌}
use mathlib.Core.Path.{◌≡◌, sym, ap, ◌∙◌}
use mathlib.Core.List.{List}
use mathlib.Core.Bool.{Bool, true, false, ◌||◌}
use native.Mathlib.Omega.{arith}
use lib.ListN.{length}
use Rattle.base.specs.Pick.{pick}
use Rattle.base.specs.Lists.{part}
use Rattle.megaco.specs.Tokens.{row_at, after_number}
use Rattle.megaco.specs.Keywords.{spells}
use Rattle.megaco.specs.Reading.{unlimited, is_property, word_here}
use Rattle.protocol.specs.Types.{Parsed, Number, WordByte, Token, IsolateToken, OnewayToken, BothwayToken}
use Rattle.read_command.specs.declared.Piece.{Piece}
use Rattle.read_command.specs.Pieces.{Holds}
use Rattle.read_command.specs.Production.{number_after, joined_at}
use Rattle.read_command.specs.Places.{commands_at, is_direction, triple_at, triples_at, property_at, body_place}
use Rattle.read_command.proofs.ListLaws.{steps}

-- the place after a number that a call read
pub place_by_lem : (r : Parsed) (x y : Number) → r ≡ after_number y Some → y ≡ x → r ≡ after_number x Some
place_by_lem r x y h e = rw (← e) h

-- a number behind another part
pub behind_next : (x y : Parsed) (f : ℕ → Number) (r : Number) (p : ℕ) → y ≡ x → y ≡ Some p → r ≡ f p → r ≡ number_after x f
unfolding number_after
behind_next x y f r p e n h = rw (← e, n) h

pub behind_fault : (x y : Parsed) (f : ℕ → Number) → y ≡ x → y ≡ None → None ≡ number_after x f
unfolding number_after
behind_fault x y f e n = rw (← e, n)

pub ruleset parts = (steps, place_by_lem, behind_next, behind_fault)

-- the word that stands here
pub here : (k : Token) (s : List ℕ) (at e : ℕ) (w : Piece) (r : Bool) → e ≡ row_at WordByte s at → Holds s at e w → r ≡ spells k (part s w.from w.to) → r ≡ spells k (word_here s at)
unfolding word_here
here k s at e w r h g f = rw (← h, ← g.bytes) f

pub here_property : (s : List ℕ) (at e : ℕ) (w : Piece) (r : Bool) → e ≡ row_at WordByte s at → Holds s at e w → r ≡ is_property (part s w.from w.to) → r ≡ is_property (word_here s at)
unfolding word_here
here_property s at e w r h g f = rw (← h, ← g.bytes) f

-- ---- topology

pub direction_word : (w : List ℕ) (x y z : Bool) → x ≡ spells IsolateToken w → y ≡ spells OnewayToken w → z ≡ spells BothwayToken w → (x || y || z) ≡ is_direction w
unfolding is_direction
direction_word w x y z e f g = rw (e, f, g)

-- ---- an action's body: what it reads as, from the place that n of its properties were read up to

module _ (s : List ℕ) (most n i : ℕ) (q : Parsed) (inv : body_place (most - n) s i ≡ q) where
  pub body_none : most ≤ n → None ≡ q
  unfolding body_place
  body_none h = let z : most - n ≡ 0 = omega arith in ap (λ k. body_place k s i) (sym z) ∙ inv

  module _ (h : n < most) (z : Bool) (d : z ≡ is_property (word_here s i)) where
    turn : pick (is_property (word_here s i)) (joined_at (body_place (most - (n + 1)) s) s (property_at s i).place) (commands_at s i).place ≡ q
    unfolding body_place
    turn = let k : most - n ≡ suc (most - (n + 1)) = omega arith in ap (λ m. body_place m s i) (sym k) ∙ inv

    pub body_commands : (r : Parsed) → z ≡ false → r ≡ (commands_at s i).place → r ≡ q
    unfolding pick
    body_commands r f g = g ∙ sym (rw (← d, f)) ∙ turn

    pub body_property : z ≡ true → joined_at (body_place (most - (n + 1)) s) s (property_at s i).place ≡ q
    unfolding pick
    body_property t = sym (rw (← d, t)) ∙ turn
