-- Demand 3 is not empty: a computed pair that meets every condition.
use Prim.Native.Nat.{ℕ}
use mathlib.Core.Path.{◌≡◌, refl, sym, ap, ◌∙◌}
use mathlib.Core.Logic.{◌≢◌}
use mathlib.Core.Bool.{true, false}
use mathlib.Core.List.{List, [], ◌∷◌}
use mathlib.Core.Option.{none}
use lib.ListN.{length, replicate}
use native.Mathlib.Omega.{arith}
use borrow.Author.Tests.{leb-true, eq-eqb}
use Rattle.base.specs.Pick.{pick}
use Rattle.base.specs.Lists.{same}
use Rattle.base.specs.Bytes.{text}
use Rattle.base.proofs.TestLaws.{clash}
use Rattle.megaco.specs.Tree.{Transaction, Part, request}
use Rattle.megaco.specs.Reading.{sender_of}
use Rattle.megaco.specs.Kept.{find}
use Rattle.megaco.specs.Room.{Room, room, kept_of}
use Rattle.megaco.specs.Message.{identifier}
use Rattle.laws.proofs.RoomEmpty.{empty_room}
use Rattle.megaco.specs.Blocks.{blocks_are_sound}
use Rattle.megaco.specs.Tokens.{is_mid}
use Rattle.megaco.specs.Table.{words}
use Rattle.grammar.specs.Grammar.{at_most, a_request, transaction_list, last_part, next_part, megaco_message}
use Rattle.grammar.specs.Grammar
use Rattle.grammar.proofs.Theorems
use Rattle.grammar.proofs.OwnLaws.{own_mid_lem}
use Rattle.laws.specs.Witness.{message, read, start, lent, one, two}
use Rattle.laws.proofs.Witness.{tests, reads_one, reads_two, start_sound, both_change, apart}
use Rattle.demands.specs.Demands.{WellFormed, Pair}

-- a transaction that the grammar finds in a message is well-formed
first_formed : {b : List ℕ} {x : Transaction} {xs : List Part} → transaction_list b (request x ∷ xs) → WellFormed x
first_formed (last_part (a_request d)) = record { bytes = _; derives = d }
first_formed (next_part (a_request d) l) = record { bytes = _; derives = d }

pub formed : {m w : List ℕ} {x : Transaction} {xs : List Part} → megaco_message m 1 w (request x ∷ xs) → WellFormed x
formed (Grammar.message h (at_most l k)) = first_formed l

same_self : (l : List ℕ) → same l l ≡ true
unfolding same pick
same_self [] = refl
same_self (x ∷ l) = rw (eq-eqb x x refl) (same_self l)

other : (a b : List ℕ) → same a b ≡ false → a ≢ b
other a b e q = clash (sym (same_self b) ∙ sym (ap (λ (z : List ℕ). same z b) q) ∙ e)

-- ---- the pair of crate laws

start_long : length start ≡ words 8
unfolding tests
start_long = refl

lent_sound : blocks_are_sound (lent start).blocks ≡ true
unfolding tests
lent_sound = refl

abbrev own : List ℕ
own = text "[10.0.0.9]"

own_is : is_mid own ≡ true
unfolding tests
own_is = refl

admits_one : megaco_message (message one) 1 (sender_of (message one)) (request (read one) ∷ [])
admits_one = Theorems.read_derives (message one) (request (read one) ∷ []) reads_one

admits_two : megaco_message (message two) 1 (sender_of (message two)) (request (read two) ∷ [])
admits_two = Theorems.read_derives (message two) (request (read two) ∷ []) reads_two

abbrev fresh : Room
fresh = room (replicate 64 0) (replicate 33920 0)

-- nothing is kept
none_kept : (m : List ℕ) (id : ℕ) → find m id (kept_of fresh) ≡ none
unfolding find
none_kept m id = rw empty_room.1

numbers : (identifier (read one) ≡ 7) × (identifier (read two) ≡ 8)
unfolding tests identifier
numbers = (refl, refl)

pub pair : Pair
pair =
    record {
      lines = 8;
      state = lent start;
      room = fresh;
      own = own;
      one = message one;
      two = message two;
      x = read one;
      y = read two;
      conditions =
          record {
            start = start_sound;
            formed_one = formed admits_one;
            formed_two = formed admits_two;
            contexts_one = apart.contexts_one;
            contexts_two = apart.contexts_two;
            names_one = apart.names_one;
            names_two = apart.names_two;
            terminations = apart.terminations;
            contexts = apart.contexts;
            pairs = record { one = none_kept _ _; two = none_kept _ _; differ = λ p q. omega (arith, q, numbers.0, numbers.1) };
          };
      sent =
          record {
            one = admits_one;
            two = admits_two;
            size_one = (leb-true 1 _ refl, leb-true _ 4096 refl);
            size_two = (leb-true 1 _ refl, leb-true _ 4096 refl);
            lines = start_long;
            blocks = lent_sound;
            room = empty_room.0;
            own_fits = (own_mid_lem own).0 own_is;
          };
      changes_one = other _ _ both_change.0;
      changes_two = other _ _ both_change.1;
    }
