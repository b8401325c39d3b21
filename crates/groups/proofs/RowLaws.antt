-- One number at a place of some bytes: what was put there is taken, and what is taken was put.
use Rattle.std.specs.Prelude.{Some}
use Rattle.protocol.specs.Types.{number as got}
use Prim.Native.Nat.{ℕ, zero, suc, ◌+◌, ◌-◌, ◌/◌, ◌%◌, ◌<◌, ◌≤◌}
use mathlib.Core.Path.{◌≡◌, refl, sym, ap, ◌∙◌}
use mathlib.Core.List.{List, [], ◌∷◌, ◌++◌, append_assoc}
use mathlib.Core.Bool.{Bool, true, false}
use native.Mathlib.Omega.{arith}
use lib.ListN.{length, drop, length-append, length-drop}
use lib.Seq.{drop-append_seam, drop-drop}
use lib.Dec.{ltb}
use Rattle.base.specs.Pick.{pick}
use Rattle.groups.specs.Groups.{groups_f, number, take_f, take_at}
use Rattle.groups.specs.Rows.{encode, Bytes}
use Rattle.groups.proofs.GroupLaws.{taken, Stands, stands}
use Rattle.groups.proofs.TakeLaws.{bytes_drop}

some_groups : (k x : ℕ) → 1 ≤ length (groups_f k x)
unfolding groups_f pick
some_groups zero x = omega arith
some_groups (suc k) x = by (ltb x 128) ((128 + x % 128) ∷ groups_f k (x / 128)) (omega arith)
  where
    by : (t : Bool) (l : List ℕ) → 1 ≤ length l → 1 ≤ length (pick t (x ∷ []) l)
    by true l h = omega arith
    by false l h = h

-- a number has a byte at least
pub number_some : (x : ℕ) → 1 ≤ length (number x)
unfolding number
number_some x = some_groups 4 x

pub encode_append : (a b : List ℕ) → encode (a ++ b) ≡ encode a ++ encode b
unfolding encode
encode_append [] b = refl
encode_append (x ∷ a) b = rw (encode_append a b) (sym (append_assoc (number x) (encode a) (encode b)))

-- the first number of a row, and what follows
pub encode_cons : (x : ℕ) (xs r : List ℕ) → encode (x ∷ xs) ++ r ≡ number x ++ (encode xs ++ r)
unfolding encode
encode_cons x xs r = append_assoc (number x) (encode xs) r

pub encode_one : (x : ℕ) (r : List ℕ) → encode (x ∷ []) ++ r ≡ number x ++ r
unfolding encode
encode_one x r = append_assoc (number x) [] r

-- ---- what was put is taken

taken_number : (x : ℕ) (r : List ℕ) (at : ℕ) → x < 4294967296 → take_f 4 (number x ++ r) at ≡ got x (at + length (number x))
unfolding number
taken_number x r at h = taken 4 x r at (omega arith)

pub record Head (s : List ℕ) (p x q : ℕ) (l : List ℕ) : Type 0 where
  pub is : take_at s p ≡ got x q
  pub more : drop q s ≡ l
  pub within : q ≤ length s

pub head_at : (s : List ℕ) (p x : ℕ) (l : List ℕ) → x < 4294967296 → drop p s ≡ number x ++ l → Head s p x (p + length (number x)) l
unfolding take_at
head_at s p x l h e =
    let m : length s - p ≡ length (number x) + length l = sym (length-drop p s) ∙ ap length e ∙ length-append (number x) l in
    record {
      is = rw e (taken_number x l p h);
      more = sym (drop-drop (length (number x)) p s) ∙ rw e (drop-append_seam (number x) l);
      within = omega (arith, m, number_some x);
    }

-- ---- what is taken was put

pub record Takes (s : List ℕ) (p v q : ℕ) : Type 0 where
  pub small : v < 4294967296
  pub is : drop p s ≡ number v ++ drop q s

pub takes : (s : List ℕ) (p v q : ℕ) → Bytes s → take_at s p ≡ got v q → Takes s p v q
unfolding take_at number
takes s p v q b e =
    let a : Stands 4 (drop p s) p v q = stands 4 (drop p s) p v q (bytes_drop s p b) e in
    let d : drop (length (groups_f 4 v)) (drop p s) ≡ drop q s = drop-drop (length (groups_f 4 v)) p s ∙ rw (← a.next) in
    record { small = omega (arith, a.small); is = a.is ∙ rw d }
