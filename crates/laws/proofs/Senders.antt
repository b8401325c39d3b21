-- A sender's mId has at most 72 bytes: `<`, 64 bytes, `>`, `:` and a port of 5 digits.
use Rattle.std.specs.Prelude.{Some, None}
use Prim.Native.Nat.{ℕ, ◌+◌, ◌*◌, ◌-◌, ◌≤◌}
use mathlib.Core.Bool.{◌||◌}
use mathlib.Core.List.{List, [], ◌∷◌}
use native.Mathlib.Omega.{arith}
use lib.Dec.{ltb, leb}
use lib.ListN.{length, drop, get_or, length-take}
use borrow.Author.Tests.{ltb-false, leb-false}
use Rattle.base.specs.Pick.{pick}
use Rattle.base.specs.Lists.{is_at, part}
use Rattle.base.proofs.PickLaws.{pick_ind}
use Rattle.megaco.specs.Bytes.{is_digit, is_letter, colon, dot}
use Rattle.megaco.specs.White.{after, sep_at}
use Rattle.megaco.specs.Tokens.{mark_at, letter_at, row_at, up_to64, path_start, path_name_at, number_end, number_from, number_at, after_number, port_at, octet_at, address_at, domain_at, m_id_at}
use Rattle.megaco.specs.Reading.{Read, got, fault, bind, skip, reading, start_at, sender_r, or_no_bytes, sender_of}
use Rattle.protocol.specs.Types.{Parsed, Number, number, NameByte, DomainByte}

-- a reader that ends at m or before
abbrev pub Reach : ℕ → Parsed → Type 0
Reach m (Some p) = p ≤ m
Reach m None = Unit {0}

abbrev Ends : ℕ → Number → Type 0
Ends m (Some (v, p)) = p ≤ m
Ends m None = Unit {0}

after_reach : (a b : ℕ) (x : Parsed) (f : ℕ → Parsed) → Reach a x → ((p : ℕ) → p ≤ a → Reach b (f p)) → Reach b (after x f)
unfolding after
after_reach a b (Some p) f h g = g p h
after_reach a b None f h g = tt

number_reach : (a b : ℕ) (x : Number) (f : ℕ → Parsed) → Ends a x → ((p : ℕ) → p ≤ a → Reach b (f p)) → Reach b (after_number x f)
unfolding after_number
number_reach a b (Some (v, p)) f h g = g p h
number_reach a b None f h g = tt

end_ends : (at n v m : ℕ) → n ≤ m → Ends m (number_end at n v)
unfolding number_end
end_ends at n v m h = pick_ind (Ends m) (ltb at n) (number v n) None (λ e. h) (λ e. tt)

from_ends : (at most limit : ℕ) (t : List ℕ) (n v : ℕ) → at ≤ n → n ≤ at + most → Ends (at + most) (number_from at most limit t n v)
unfolding number_from
from_ends at most limit [] n v l h = end_ends at n v (at + most) h
from_ends at most limit (b ∷ t) n v l h =
    let w : ℕ = v * 10 + (b - 48) in
    let r : Number = number_from at most limit t (n + 1) w in
    pick_ind (Ends (at + most)) (is_digit b) (pick (leb most (n - at)) None (pick (ltb limit w) None r)) (number_end at n v)
    (λ e. pick_ind (Ends (at + most)) (leb most (n - at)) None (pick (ltb limit w) None r) (λ f. tt)
    (λ f. pick_ind (Ends (at + most)) (ltb limit w) None r (λ g. tt) (λ g. from_ends at most limit t (n + 1) w (omega arith) (omega (arith, leb-false most (n - at) f)))))
    (λ e. end_ends at n v (at + most) h)

number_ends : (s : List ℕ) (at most limit : ℕ) → Ends (at + most) (number_at s at most limit)
unfolding number_at
number_ends s at most limit = from_ends at most limit (drop at s) at 0 (omega arith) (omega arith)

weaker : (a b : ℕ) (x : Parsed) → Reach a x → a ≤ b → Reach b x
weaker a b (Some p) h l = omega arith
weaker a b None h l = tt

mark_reach : (b : ℕ) (s : List ℕ) (at m : ℕ) → at + 1 ≤ m → Reach m (mark_at b s at)
unfolding mark_at
mark_reach b s at m h = pick_ind (Reach m) (is_at s at b) (Some (at + 1)) None (λ e. h) (λ e. tt)

up_to_reach : (a e m : ℕ) → a + 64 ≤ m → Reach m (up_to64 a e)
unfolding up_to64
up_to_reach a e m h = pick_ind (Reach m) (ltb 64 (e - a)) None (Some e) (λ g. tt) (λ g. omega (arith, ltb-false 64 (e - a) g))

port_reach : (s : List ℕ) (at m : ℕ) → at + 6 ≤ m → Reach m (port_at s at)
unfolding port_at
port_reach s at m h =
    pick_ind (Reach m) (is_at s at colon) (after_number (number_at s (at + 1) 5 65535) Some) (Some at)
    (λ e. number_reach (at + 1 + 5) m (number_at s (at + 1) 5 65535) Some (number_ends s (at + 1) 5 65535) (λ p l. omega arith)) (λ e. omega arith)

octet_reach : (b : ℕ) (s : List ℕ) (at m : ℕ) → at + 4 ≤ m → Reach m (octet_at b s at)
unfolding octet_at
octet_reach b s at m h = number_reach (at + 3) m (number_at s at 3 255) (mark_at b s) (number_ends s at 3 255) (λ p l. mark_reach b s p m (omega arith))

address_reach : (s : List ℕ) (at : ℕ) → Reach (at + 17) (address_at s at)
unfolding address_at
address_reach s at =
    after_reach (at + 5) (at + 17) (octet_at dot s (at + 1)) _ (octet_reach dot s (at + 1) (at + 5) (omega arith)) (λ p h.
    after_reach (at + 9) (at + 17) (octet_at dot s p) _ (octet_reach dot s p (at + 9) (omega arith)) (λ q g.
    after_reach (at + 13) (at + 17) (octet_at dot s q) _ (octet_reach dot s q (at + 13) (omega arith)) (λ r f. octet_reach 0x5d s r (at + 17) (omega arith))))

domain_reach : (s : List ℕ) (at : ℕ) → Reach (at + 66) (domain_at s at)
unfolding domain_at
domain_reach s at =
    pick_ind (Reach (at + 66)) (is_letter (get_or s (at + 1) 0) || is_digit (get_or s (at + 1) 0)) (after (up_to64 (at + 1) (row_at DomainByte s (at + 1))) (mark_at 0x3e s)) None
    (λ e. after_reach (at + 65) (at + 66) (up_to64 (at + 1) (row_at DomainByte s (at + 1))) (mark_at 0x3e s) (up_to_reach (at + 1) (row_at DomainByte s (at + 1)) (at + 65) (omega arith))
    (λ p h. mark_reach 0x3e s p (at + 66) (omega arith))) (λ e. tt)

path_reach : (s : List ℕ) (at : ℕ) → Reach (at + 72) (path_name_at s at)
unfolding path_name_at
path_reach s at =
    pick_ind (Reach (at + 72)) (letter_at s (path_start s at)) (up_to64 at (row_at NameByte s (path_start s at))) None
    (λ e. up_to_reach at (row_at NameByte s (path_start s at)) (at + 72) (omega arith)) (λ e. tt)

pub mid_reach : (s : List ℕ) (at : ℕ) → Reach (at + 72) (m_id_at s at)
unfolding m_id_at
mid_reach s at =
    let a : Parsed = after (address_at s at) (port_at s) in
    let d : Parsed = after (domain_at s at) (port_at s) in
    pick_ind (Reach (at + 72)) (is_at s at 0x5b) a (pick (is_at s at 0x3c) d (path_name_at s at))
    (λ e. after_reach (at + 17) (at + 72) (address_at s at) (port_at s) (address_reach s at) (λ p h. port_reach s p (at + 72) (omega arith)))
    (λ e. pick_ind (Reach (at + 72)) (is_at s at 0x3c) d (path_name_at s at)
    (λ f. after_reach (at + 66) (at + 72) (domain_at s at) (port_at s) (domain_reach s at) (λ p h. port_reach s p (at + 72) (omega arith))) (λ f. path_reach s at))

-- ---- the sender of a message

abbrev Short : Read (List ℕ) → Type 0
Short (got m p) = length m ≤ 72
Short fault = Unit {0}

part_short : (s : List ℕ) (at : ℕ) (x : Parsed) → Reach (at + 72) x → Short (reading x (part s at))
unfolding reading part
part_short s at (Some p) h = omega (arith, length-take (p - at) (drop at s))
part_short s at None h = tt

skip_short : (x : Parsed) (f : ℕ → Read (List ℕ)) → ((p : ℕ) → Short (f p)) → Short (skip x f)
unfolding skip
skip_short (Some p) f h = h p
skip_short None f h = tt

bind_short : (x : Read ℕ) (f : ℕ → ℕ → Read (List ℕ)) → ((v p : ℕ) → Short (f v p)) → Short (bind x f)
unfolding bind
bind_short (got v p) f h = h v p
bind_short fault f h = tt

sender_by : (x : Read (List ℕ)) → Short x → length (or_no_bytes x) ≤ 72
unfolding or_no_bytes
sender_by (got m p) h = h
sender_by fault h = omega arith

pub sender_short : (s : List ℕ) → length (sender_of s) ≤ 72
unfolding sender_of sender_r
sender_short s = sender_by (sender_r s) (skip_short (start_at s) _ (λ p. bind_short _ _ (λ v q. skip_short (sep_at s q) _ (λ a. part_short s a (m_id_at s a) (mid_reach s a)))))
