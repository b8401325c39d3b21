-- No reader goes back: what it finds is at or past the place where it began.
use Rattle.megaco.proofs.NumberParts.{same_next}
use Rattle.std.specs.Prelude.{Some, None}
use Prim.Native.Nat.{ℕ, zero, suc, ◌+◌, ◌-◌, ◌≤◌}
use mathlib.Core.Path.{◌≡◌, refl}
use mathlib.Core.Bool.{Bool, false, not, ◌&&◌, ◌||◌}
use mathlib.Core.List.{List, [], ◌∷◌}
use native.Mathlib.Omega.{arith}
use native.Mathlib.Nat.{le_refl, le_trans, le-add_right}
use lib.ListN.{drop}
use lib.Dec.{ltb, leb, eqb}
use Rattle.base.specs.Pick.{pick}
use Rattle.base.specs.Lists.{is_at, part}
use Rattle.megaco.specs.Bytes.{equal, dash, comma, left_brace, right_brace, slash, quote, dollar, star, is_digit}
use Rattle.megaco.specs.White.{after, goes_on, inside_after, stop_at, white_from, white_at}
use Rattle.megaco.specs.Keywords.{spells}
use Rattle.megaco.specs.Tokens.{mark_at, sign_at, row_at, up_to64, letter_at, word_at, keyword_at, path_start, path_name_at, termination_at, number_end, number_from, number_at, after_number, quoted_at, plain_at, value_at, octets_from, octets_at, at_least}
use Rattle.megaco.specs.Reading.{Read, unlimited, key_at, word_here, media_here, speech_here, identifier_from}
use Rattle.protocol.specs.Types.{Parsed, Number, number, Class, WordByte, NameByte, SafeByte, QuotedByte, Token, PriorityToken, EmergencyToken, TopologyToken}
use Rattle.tokens.proofs.TokenLaws.{pick_ind, row_ahead}
use Rattle.read_command.specs.Production.{Production, number_after, spaced_at, joined_at, list_at, value_in}
use Rattle.read_command.specs.Places.{second_at, value_item_at, braces_at, head_at, empty_at, or_none_at, item_at, items_at, speech_at, media_item_at, media_at, top_item_at, priority_at, property_at, is_direction, direction_at, party_at, triple_at, triples_at, topology_at, range_at, ack_at}

abbrev pub Onward : ℕ → Parsed → Type 0
Onward at x = (p : ℕ) → x ≡ Some p → at ≤ p

fault_on : (at : ℕ) → Onward at None
fault_on at p e = let z : ◌≡◌ {A = ℕ} 0 1 = cc in absurd (omega arith)

next_on : (at e : ℕ) → at ≤ e → Onward at (Some e)
next_on at e h p n = let z : e ≡ p = cc in omega arith

pick_on : (at : ℕ) (t : Bool) (x y : Parsed) → Onward at x → Onward at y → Onward at (pick t x y)
pick_on at t x y h k = pick_ind (Onward at) t x y h k

after_on : (at : ℕ) (x : Parsed) (f : ℕ → Parsed) → Onward at x → ((p : ℕ) → Onward p (f p)) → Onward at (after x f)
unfolding after
after_on at (Some q) f h k p e = le_trans (h q refl) (k q p e)
after_on at None f h k p e = fault_on at p e

-- from a place before
earlier : (a at : ℕ) (x : Parsed) → a ≤ at → Onward at x → Onward a x
earlier a at x h k p e = le_trans h (k p e)

-- ---- leaves

row_on : (k : Class) (s : List ℕ) (at : ℕ) → at ≤ row_at k s at
row_on k s at = row_ahead k s at (row_at k s at) refl

white_from_lem : (l : List ℕ) (n : ℕ) (inside : Bool) → Onward n (white_from l n inside)
unfolding white_from stop_at
white_from_lem [] n inside = pick_on n inside _ _ (fault_on n) (next_on n n (le_refl n))
white_from_lem (b ∷ t) n inside =
    pick_on n (goes_on inside b) _ _
    (earlier n (n + 1) _ (le-add_right n 1) (white_from_lem t (n + 1) (inside_after inside b)))
    (pick_on n inside _ _ (fault_on n) (next_on n n (le_refl n)))

pub white_on : (s : List ℕ) (at : ℕ) → Onward at (white_at s at)
unfolding white_at
white_on s at = white_from_lem (drop at s) at false

mark_on : (b : ℕ) (s : List ℕ) (at : ℕ) → Onward (at + 1) (mark_at b s at)
unfolding mark_at
mark_on b s at = pick_on (at + 1) (is_at s at b) _ _ (next_on (at + 1) (at + 1) (le_refl (at + 1))) (fault_on (at + 1))

pub sign_on : (b : ℕ) (s : List ℕ) (at : ℕ) → Onward (at + 1) (sign_at b s at)
unfolding sign_at
sign_on b s at = after_on (at + 1) (mark_at b s at) (white_at s) (mark_on b s at) (white_on s)

up_to_on : (a e : ℕ) → Onward e (up_to64 a e)
unfolding up_to64
up_to_on a e = pick_on e (ltb 64 (e - a)) _ _ (fault_on e) (next_on e e (le_refl e))

word_on : (s : List ℕ) (at : ℕ) → Onward at (word_at s at)
unfolding word_at
word_on s at = pick_on at (letter_at s at) _ _ (earlier at _ _ (row_on WordByte s at) (up_to_on at _)) (fault_on at)

quoted_on : (s : List ℕ) (at : ℕ) → Onward at (quoted_at s at)
unfolding quoted_at
quoted_on s at =
    let e : ℕ = row_at QuotedByte s (at + 1) in
    earlier at (at + 1) _ (le-add_right at 1)
    (after_on (at + 1) (up_to64 (at + 1) e) (mark_at quote s) (earlier (at + 1) e _ (row_on QuotedByte s (at + 1)) (up_to_on (at + 1) e))
    (λ p. earlier p (p + 1) _ (le-add_right p 1) (mark_on quote s p)))

plain_on : (s : List ℕ) (at : ℕ) → Onward at (plain_at s at)
unfolding plain_at
plain_on s at = pick_on at _ _ _ (earlier at _ _ (row_on SafeByte s at) (up_to_on at _)) (fault_on at)

value_on : (s : List ℕ) (at : ℕ) → Onward at (value_at s at)
unfolding value_at
value_on s at = pick_on at (is_at s at quote) _ _ (quoted_on s at) (plain_on s at)

spaced_on : (s : List ℕ) (at : ℕ) (x : Parsed) → Onward at x → Onward at (spaced_at s x)
unfolding spaced_at
spaced_on s at x h = after_on at x (white_at s) h (white_on s)

-- ---- items

sign_past : (b : ℕ) (s : List ℕ) (at : ℕ) → Onward at (sign_at b s at)
sign_past b s at = earlier at (at + 1) _ (le-add_right at 1) (sign_on b s at)

second_on : (s : List ℕ) (at : ℕ) → Onward at (second_at s at).place
unfolding second_at
second_on s at = pick_on at (is_at s at slash) _ _ (earlier at (at + 1) _ (le-add_right at 1) (word_on s (at + 1))) (next_on at at (le_refl at))

value_item_on : (s : List ℕ) (at : ℕ) → Onward at (value_item_at s at).place
unfolding value_item_at
value_item_on s at =
    pick_on at (is_at s at equal) _ _
    (after_on at (sign_at equal s at) _ (sign_past equal s at) (λ p. spaced_on s p (value_at s p) (value_on s p)))
    (next_on at at (le_refl at))

pub head_on : (s : List ℕ) (at : ℕ) → Onward at (head_at s at)
unfolding head_at
head_on s at =
    after_on at (word_at s at) _ (word_on s at)
    (λ p. after_on p (spaced_at s (second_at s p).place) _ (spaced_on s p (second_at s p).place (second_on s p)) (value_item_on s))

list_on : (one : ℕ → Parsed) (s : List ℕ) → ((i : ℕ) → Onward i (one i)) → (k at : ℕ) → Onward at (list_at one s k at)
unfolding list_at joined_at
list_on one s h zero at = fault_on at
list_on one s h (suc k) at =
    after_on at (one at) _ (h at)
    (λ p. pick_on p (is_at s p comma) _ _ (after_on p (sign_at comma s p) (list_at one s k) (sign_past comma s p) (list_on one s h k)) (next_on p p (le_refl p)))

module _ {A : Type 0} {r : ℕ → Read (List A)} (inner : (i : ℕ) → Production (r i)) (s : List ℕ) (h : (i : ℕ) → Onward i (inner i).place) where
  braces_on : (at : ℕ) → Onward at (braces_at inner s at).place
  unfolding braces_at
  braces_on at =
      pick_on at (is_at s at left_brace) _ _
      (after_on at (sign_at left_brace s at) _ (sign_past left_brace s at) (λ p. after_on p (inner p).place (sign_at right_brace s) (h p) (sign_past right_brace s)))
      (next_on at at (le_refl at))

module _ {A : Type 0} {r : ℕ → Read (List A)} (inner : (i : ℕ) → Production (r i)) (s : List ℕ) (h : (i : ℕ) → Onward i (inner i).place) where
  or_none_on : (empty : Bool) (at : ℕ) → Onward at (or_none_at empty inner s at).place
  unfolding or_none_at
  or_none_on empty at = pick_on at (empty && is_at s at right_brace) _ _ (next_on at at (le_refl at)) (h at)

  item_over : (left at : ℕ) → Onward at (item_at left inner s at).place
  unfolding item_at
  item_over left at = after_on at (head_at s at) _ (head_on s at) (braces_on (or_none_at (empty_at left s at) inner s) s (or_none_on (empty_at left s at)))

items_on : (k : ℕ) (s : List ℕ) (at : ℕ) → Onward at (items_at k s at).place
unfolding items_at
items_on zero s at = fault_on at
items_on (suc k) s at = list_on _ s (item_over (items_at k s) s (items_on k s) k) (unlimited s) at

pub item_on : (k : ℕ) (s : List ℕ) (at : ℕ) → Onward at (item_at k (items_at k s) s at).place
item_on k s at = item_over (items_at k s) s (items_on k s) k at

-- ---- Local and Remote

octets_from_lem : (l : List ℕ) (n : ℕ) (escaped : Bool) → Onward n (octets_from l n escaped)
unfolding octets_from
octets_from_lem [] n escaped = fault_on n
octets_from_lem (b ∷ t) n escaped =
    pick_on n (eqb b 0) _ _ (fault_on n)
    (pick_on n (eqb b right_brace && not escaped) _ _ (next_on n n (le_refl n))
    (earlier n (n + 1) _ (le-add_right n 1) (octets_from_lem t (n + 1) (eqb b 0x5c))))

octets_on : (s : List ℕ) (at : ℕ) → Onward at (octets_at s at)
unfolding octets_at
octets_on s at = octets_from_lem (drop at s) at false

speech_on : (s : List ℕ) (at : ℕ) → Onward at (speech_at s at).place
unfolding speech_at
speech_on s at =
    after_on at (spaced_at s (word_at s at)) _ (spaced_on s at (word_at s at) (word_on s at))
    (λ p. after_on p (sign_at left_brace s p) _ (sign_past left_brace s p)
    (λ q. after_on q (octets_at s q) (sign_at right_brace s) (octets_on s q) (sign_past right_brace s)))

pub media_item_on : (s : List ℕ) (at : ℕ) → Onward at (media_item_at s at).place
unfolding media_item_at
media_item_on s at = pick_on at (speech_here s at) _ _ (speech_on s at) (item_on 6 s at)

media_on : (s : List ℕ) (at : ℕ) → Onward at (media_at s at).place
unfolding media_at
media_on s at = list_on (λ j. (media_item_at s j).place) s (media_item_on s) (unlimited s) at

pub top_item_on : (s : List ℕ) (at : ℕ) → Onward at (top_item_at s at).place
unfolding top_item_at
top_item_on s at = pick_on at (media_here s at) _ _ (item_over (media_at s) s (media_on s) 7 at) (item_on 7 s at)

-- ---- topology

start_on : (s : List ℕ) (at : ℕ) → at ≤ path_start s at
unfolding path_start
start_on s at = pick_ind (λ p. at ≤ p) (is_at s at star) (at + 1) at (le-add_right at 1) (le_refl at)

path_on : (s : List ℕ) (at : ℕ) → Onward at (path_name_at s at)
unfolding path_name_at
path_on s at =
    pick_on at (letter_at s (path_start s at)) _ _
    (earlier at _ _ (le_trans (start_on s at) (row_on NameByte s (path_start s at))) (up_to_on at _)) (fault_on at)

termination_on : (s : List ℕ) (at : ℕ) → Onward at (termination_at s at)
unfolding termination_at
termination_on s at =
    pick_on at (letter_at s (path_start s at)) _ _ (path_on s at)
    (pick_on at (is_at s at star || is_at s at dollar) _ _ (next_on at (at + 1) (le-add_right at 1)) (fault_on at))

party_on : (s : List ℕ) (at : ℕ) → Onward at (party_at s at).place
unfolding party_at
party_on s at = spaced_on s at (termination_at s at) (termination_on s at)

direction_on : (s : List ℕ) (at : ℕ) → Onward at (direction_at s at).place
unfolding direction_at
direction_on s at = after_on at (word_at s at) _ (word_on s at) (λ p. pick_on p (is_direction (part s at p)) _ _ (next_on p p (le_refl p)) (fault_on p))

pub triple_on : (s : List ℕ) (at : ℕ) → Onward at (triple_at s at).place
unfolding triple_at
triple_on s at =
    after_on at (party_at s at).place _ (party_on s at)
    (λ p. after_on p (sign_at comma s p) _ (sign_past comma s p)
    (λ q. after_on q (party_at s q).place _ (party_on s q)
    (λ r. after_on r (sign_at comma s r) _ (sign_past comma s r)
    (λ u. spaced_on s u (direction_at s u).place (direction_on s u)))))

triples_on : (s : List ℕ) (at : ℕ) → Onward at (triples_at s at).place
unfolding triples_at
triples_on s at = list_on (λ j. (triple_at s j).place) s (triple_on s) (unlimited s) at

topology_on : (s : List ℕ) (at : ℕ) → Onward at (topology_at s at).place
unfolding topology_at
topology_on s at =
    after_on at (spaced_at s (word_at s at)) _ (spaced_on s at (word_at s at) (word_on s at))
    (λ p. after_on p (sign_at left_brace s p) _ (sign_past left_brace s p)
    (λ q. after_on q (triples_at s q).place _ (triples_on s q) (sign_past right_brace s)))

-- ---- properties

abbrev NumberOn : ℕ → Number → Type 0
NumberOn at x = (v p : ℕ) → x ≡ number v p → at ≤ p

bad_on : (at : ℕ) → NumberOn at None
bad_on at v p e = let z : ◌≡◌ {A = ℕ} 0 1 = cc in absurd (omega arith)

number_end_on : (at n v : ℕ) → NumberOn n (number_end at n v)
unfolding number_end
number_end_on at n v = pick_ind (NumberOn n) (ltb at n) _ _ (λ w p e. let z : n ≡ p = same_next e in omega arith) (bad_on n)

number_from_lem : (at most limit : ℕ) (l : List ℕ) (n v : ℕ) → NumberOn n (number_from at most limit l n v)
unfolding number_from
number_from_lem at most limit [] n v = number_end_on at n v
number_from_lem at most limit (b ∷ t) n v =
    pick_ind (NumberOn n) (is_digit b) _ _
    (pick_ind (NumberOn n) (leb most (n - at)) _ _ (bad_on n)
    (pick_ind (NumberOn n) _ _ _ (bad_on n) (λ w p e. le_trans (le-add_right n 1) (number_from_lem at most limit t (n + 1) _ w p e))))
    (number_end_on at n v)

number_on : (s : List ℕ) (at most limit : ℕ) → NumberOn at (number_at s at most limit)
unfolding number_at
number_on s at most limit = number_from_lem at most limit (drop at s) at 0

after_number_on : (at : ℕ) (n : Number) → NumberOn at n → Onward at (after_number n Some)
unfolding after_number
after_number_on at (Some (v, q)) h p e = let z : q ≡ p = cc in let m : at ≤ q = h v q refl in omega arith
after_number_on at None h p e = fault_on at p e

number_after_on : (at : ℕ) (x : Parsed) (f : ℕ → Number) → Onward at x → ((p : ℕ) → NumberOn p (f p)) → NumberOn at (number_after x f)
unfolding number_after
number_after_on at (Some q) f h k v p e = le_trans (h q refl) (k q v p e)
number_after_on at None f h k v p e = bad_on at v p e

keyword_on : (k : Token) (s : List ℕ) (at : ℕ) → Onward at (keyword_at k s at)
unfolding keyword_at
keyword_on k s at = after_on at (word_at s at) _ (word_on s at) (λ p. pick_on p (spells k (part s at p)) _ _ (next_on p p (le_refl p)) (fault_on p))

key_on : (k : Token) (s : List ℕ) (at : ℕ) → Onward at (key_at k s at)
unfolding key_at
key_on k s at = after_on at (keyword_at k s at) _ (keyword_on k s at) (λ p. after_on p (white_at s p) (sign_at equal s) (white_on s p) (sign_past equal s))

pub property_on : (s : List ℕ) (at : ℕ) → Onward at (property_at s at).place
unfolding property_at priority_at
property_on s at =
    pick_on at (spells EmergencyToken (word_here s at)) _ _
    (spaced_on s at (word_at s at) (word_on s at))
    (pick_on at (spells TopologyToken (word_here s at)) _ _ (topology_on s at)
    (spaced_on s at _ (after_number_on at _ (number_after_on at (key_at PriorityToken s at) _ (key_on PriorityToken s at) (λ p. number_on s p 5 99999)))))

-- ---- acknowledgements

at_least_on : (at low : ℕ) (n : Number) → NumberOn at n → NumberOn at (at_least low n)
unfolding at_least
at_least_on at low (Some (v, q)) h = pick_ind (NumberOn at) (leb low v) _ _ h (bad_on at)
at_least_on at low None h = bad_on at

identifier_from_on : (s : List ℕ) (at low : ℕ) → NumberOn at (identifier_from low s at)
unfolding identifier_from
identifier_from_on s at low = at_least_on at low _ (number_on s at 10 4294967295)

range_on : (s : List ℕ) (at : ℕ) → Onward at (range_at s at).place
unfolding range_at
range_on s at =
    after_on at (after_number (identifier_from 1 s at) Some) _ (after_number_on at _ (identifier_from_on s at 1))
    (λ p. pick_on p (is_at s p dash) _ _
    (earlier p (p + 1) _ (le-add_right p 1) (after_number_on (p + 1) _ (identifier_from_on s (p + 1) (value_in (identifier_from 1 s at)))))
    (next_on p p (le_refl p)))

pub ack_on : (s : List ℕ) (at : ℕ) → Onward at (ack_at s at).place
unfolding ack_at
ack_on s at = spaced_on s at _ (range_on s at)
