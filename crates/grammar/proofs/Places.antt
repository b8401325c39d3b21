-- Places in a message: what stands from a place on, what a reader leaves, and how one reader follows another.
use Rattle.std.specs.Prelude.{Some, None}
use Prim.Native.Nat.{ℕ, zero, suc, ◌+◌, ◌-◌, ◌<◌, ◌≤◌}
use mathlib.Core.Path.{◌≡◌, refl, sym, ap, ◌∙◌}
use mathlib.Core.Bool.{Bool, true, false}
use mathlib.Core.List.{List, [], ◌∷◌, ◌++◌, append_assoc}
use lib.ListN.{length, get_or, drop, length-append, length-drop}
use lib.Seq.{drop-drop, drop-append_seam, take-append_seam}
use lib.Dec.{eqb}
use borrow.Author.Tests.{eqb-true}
use native.Mathlib.Omega.{arith}
use Rattle.base.specs.Pick.{pick}
use Rattle.base.specs.Lists.{is_at, part}
use Rattle.megaco.specs.White.{after}
use Rattle.megaco.specs.Tokens.{after_number}
use Rattle.megaco.specs.Reading.{Read, got, fault, bind, skip, reading, read_number}
use Rattle.protocol.specs.Types.{Parsed, Number, number}

-- ---- parts one after another

pub regroup3 : (a b c r : List ℕ) → (a ++ b ++ c) ++ r ≡ a ++ (b ++ (c ++ r))
regroup3 a b c r = simp append_assoc

pub regroup4 : (a b c d r : List ℕ) → (a ++ b ++ c ++ d) ++ r ≡ a ++ (b ++ (c ++ (d ++ r)))
regroup4 a b c d r = simp append_assoc

pub regroup5 : (a b c d e r : List ℕ) → (a ++ b ++ c ++ d ++ e) ++ r ≡ a ++ (b ++ (c ++ (d ++ (e ++ r))))
regroup5 a b c d e r = simp append_assoc

pub regroup6 : (a b c d e f r : List ℕ) → (a ++ b ++ c ++ d ++ e ++ f) ++ r ≡ a ++ (b ++ (c ++ (d ++ (e ++ (f ++ r)))))
regroup6 a b c d e f r = simp append_assoc

-- a part between two signs that have white space before them
pub regroup_braces : (u a b v c r : List ℕ) → ((u ++ a) ++ b ++ (v ++ c)) ++ r ≡ u ++ (a ++ (b ++ (v ++ (c ++ r))))
regroup_braces u a b v c r = simp append_assoc

-- a keyword, `=` and a part before them
pub regroup_request : (a b c u d e v f r : List ℕ)
    → (a ++ b ++ c ++ (u ++ d) ++ e ++ (v ++ f)) ++ r ≡ a ++ (b ++ (c ++ (u ++ (d ++ (e ++ (v ++ (f ++ r)))))))
regroup_request a b c u d e v f r = simp append_assoc

-- ---- bytes from a place on

-- the first byte, 0 if there is none
abbrev pub head : List ℕ → ℕ
head [] = 0
head (b ∷ t) = b

pub at_head : (s : List ℕ) (at : ℕ) → get_or s at 0 ≡ head (drop at s)
at_head [] zero = refl
at_head [] (suc n) = refl
at_head (x ∷ xs) zero = refl
at_head (x ∷ xs) (suc n) = at_head xs n

-- behind a part that stands at a place
pub behind : (s a rest : List ℕ) (at : ℕ) → drop at s ≡ a ++ rest → drop (at + length a) s ≡ rest
behind s a rest at h = sym (drop-drop (length a) at s) ∙ rw h (drop-append_seam a rest)

pub behind_at : (s a rest : List ℕ) (at e : ℕ) → e ≡ at + length a → drop at s ≡ a ++ rest → drop e s ≡ rest
behind_at s a rest at e l h = rw l (behind s a rest at h)

-- a part is no longer than the message
pub part_fits : (s a t : List ℕ) (at : ℕ) → drop at s ≡ a ++ t → length a ≤ length s
part_fits s a t at h = omega (arith, sym (length-drop at s) ∙ ap length h ∙ length-append a t)

-- the part itself
pub part_is : (s a rest : List ℕ) (at : ℕ) → drop at s ≡ a ++ rest → part s at (at + length a) ≡ a
unfolding part
part_is s a rest at h = let n : at + length a - at ≡ length a = omega arith in rw (n, h) (take-append_seam a rest)

pub part_to : (s a rest : List ℕ) (at e : ℕ) → e ≡ at + length a → drop at s ≡ a ++ rest → part s at e ≡ a
part_to s a rest at e l h = rw l (part_is s a rest at h)

pub is_at_head : (s t : List ℕ) (at b : ℕ) → drop at s ≡ t → is_at s at b ≡ eqb (head t) b
unfolding is_at
is_at_head s t at b h = rw (at_head s at, h)

-- a byte other than 0 that a test finds stands there
pub is_at_cons : (s : List ℕ) (at b : ℕ) → 0 < b → is_at s at b ≡ true → drop at s ≡ b ∷ drop (at + 1) s
unfolding is_at
is_at_cons s at b h e = go (drop at s) refl
  where
    is : head (drop at s) ≡ b
    is = sym (at_head s at) ∙ eqb-true _ b e

    go : (t : List ℕ) → drop at s ≡ t → drop at s ≡ b ∷ drop (at + 1) s
    go [] f = absurd (omega (arith, rw f at is))
    go (x ∷ t) f = f ∙ rw (rw f at is, behind s (x ∷ []) t at f)

-- nothing is said of what is behind
abbrev pub Any : List ℕ → Type 0
Any rest = Unit {0}

-- a part of the grammar stands here, and what is behind it does not make it longer
pub record Stands (X F : List ℕ → Type 0) (t rest : List ℕ) : Type 0 where
  pub bytes : List ℕ
  pub derives : X bytes
  pub split : t ≡ bytes ++ rest
  pub stops : F rest

-- ---- what a reader that succeeds leaves

-- a part that leaves nothing in the tree
pub record Finds (s : List ℕ) (r : Parsed) (rest : List ℕ) : Type 0 where
  pub end : ℕ
  pub is : r ≡ Some end
  pub leaves : drop end s ≡ rest

pub record Gets {A : Type 0} (s : List ℕ) (r : Read A) (x : A) (rest : List ℕ) : Type 0 where
  pub end : ℕ
  pub is : r ≡ got x end
  pub leaves : drop end s ≡ rest

pub record Counts (s : List ℕ) (r : Number) (v : ℕ) (rest : List ℕ) : Type 0 where
  pub end : ℕ
  pub is : r ≡ number v end
  pub leaves : drop end s ≡ rest

module _ (s : List ℕ) where
  -- a part that ends as long behind its place as it is
  pub finds : (a rest : List ℕ) (at : ℕ) (r : Parsed) → drop at s ≡ a ++ rest → r ≡ Some (at + length a) → Finds s r rest
  finds a rest at r h e = record { end = at + length a; is = e; leaves = behind s a rest at h }

  pub gets_here : {A : Type 0} (x : A) (at : ℕ) (rest : List ℕ) → drop at s ≡ rest → Gets s (got x at) x rest
  gets_here x at rest h = record { end = at; is = refl; leaves = h }

  pub finds_here : (at : ℕ) (rest : List ℕ) → drop at s ≡ rest → Finds s (Some at) rest
  finds_here at rest h = record { end = at; is = refl; leaves = h }

  -- one reader and then another
  pub finds_after : {mid rest : List ℕ} (r : Parsed) (f : ℕ → Parsed) → Finds s r mid → ((p : ℕ) → drop p s ≡ mid → Finds s (f p) rest)
      → Finds s (after r f) rest
  unfolding after
  finds_after r f g k = rw g.is (k g.end g.leaves)

  pub gets_skip : {A : Type 0} {x : A} {mid rest : List ℕ} (r : Parsed) (f : ℕ → Read A) → Finds s r mid
      → ((p : ℕ) → drop p s ≡ mid → Gets s (f p) x rest) → Gets s (skip r f) x rest
  unfolding skip
  gets_skip r f g k = rw g.is (k g.end g.leaves)

  pub gets_bind : {A B : Type 0} {x : B} {mid rest : List ℕ} (y : A) (r : Read A) (f : A → ℕ → Read B) → Gets s r y mid
      → ((p : ℕ) → drop p s ≡ mid → Gets s (f y p) x rest) → Gets s (bind r f) x rest
  unfolding bind
  gets_bind y r f g k = rw g.is (k g.end g.leaves)

  pub gets_number : {A : Type 0} {rest : List ℕ} (v : ℕ) (r : Number) (f : ℕ → A) → Counts s r v rest → Gets s (read_number r f) (f v) rest
  unfolding read_number
  gets_number v r f g = record { end = g.end; is = rw g.is; leaves = g.leaves }

  -- a part whose tree is its bytes
  pub gets_part : {A : Type 0} (a rest : List ℕ) (at : ℕ) (r : Parsed) (f : List ℕ → A) → drop at s ≡ a ++ rest → r ≡ Some (at + length a)
      → Gets s (reading r (λ e. f (part s at e))) (f a) rest
  unfolding reading
  gets_part a rest at r f h e = record { end = at + length a; is = rw (e, part_is s a rest at h); leaves = behind s a rest at h }

-- ---- what a reader that succeeded went through: the rest of the proof takes it by names

pub whether : {C : Type 0} (t : Bool) → (t ≡ true → C) → (t ≡ false → C) → C
whether true f g = f refl
whether false f g = g refl

pub given : {A C : Type 0} → A → (A → C) → C
given a f = f a

pub fault_next : {e : ℕ} → None ≡ Some e → ⊥
fault_next h = let z : ◌≡◌ {A = ℕ} 0 1 = cc in omega arith

pub next_same : {p e : ℕ} → Some p ≡ Some e → p ≡ e
next_same h = cc

-- a test that holds, of a reader that did not fault
pub pick_next : (t : Bool) (r : Parsed) (e : ℕ) → pick t r None ≡ Some e → (t ≡ true) × (r ≡ Some e)
unfolding pick
pick_next true r e h = (refl, h)
pick_next false r e h = absurd (fault_next h)

pub after_next : {C : Type 0} (r : Parsed) (f : ℕ → Parsed) (e : ℕ) → after r f ≡ Some e → ((p : ℕ) → r ≡ Some p → f p ≡ Some e → C) → C
unfolding after
after_next (Some p) f e h k = k p refl h
after_next None f e h k = absurd (fault_next h)

pub number_next : {C : Type 0} (r : Number) (f : ℕ → Parsed) (e : ℕ) → after_number r f ≡ Some e → ((v p : ℕ) → r ≡ number v p → f p ≡ Some e → C) → C
unfolding after_number
number_next (Some (v, p)) f e h k = k v p refl h
number_next None f e h k = absurd (fault_next h)

module _ {B : Type 0} (x : B) (e : ℕ) where
  pub fault_got : fault ≡ got x e → ⊥
  fault_got h = let z : ◌≡◌ {A = ℕ} 0 1 = cc in omega arith

  pub got_same : {a : B} {p : ℕ} → got a p ≡ got x e → (a ≡ x) × (p ≡ e)
  got_same h = ((cc), (cc))

  pub skip_got : {C : Type 0} (r : Parsed) (f : ℕ → Read B) → skip r f ≡ got x e → ((p : ℕ) → r ≡ Some p → f p ≡ got x e → C) → C
  unfolding skip
  skip_got (Some p) f h k = k p refl h
  skip_got None f h k = absurd (fault_got h)

  pub bind_got : {A C : Type 0} (r : Read A) (f : A → ℕ → Read B) → bind r f ≡ got x e → ((y : A) (p : ℕ) → r ≡ got y p → f y p ≡ got x e → C) → C
  unfolding bind
  bind_got (got y p) f h k = k y p refl h
  bind_got fault f h k = absurd (fault_got h)

  pub number_got : {C : Type 0} (r : Number) (f : ℕ → B) → read_number r f ≡ got x e → ((v : ℕ) → r ≡ number v e → f v ≡ x → C) → C
  unfolding read_number
  number_got (Some (v, p)) f h k = k v (cc) (cc)
  number_got None f h k = absurd (fault_got h)

  pub reading_got : (r : Parsed) (f : ℕ → B) → reading r f ≡ got x e → (r ≡ Some e) × (f e ≡ x)
  unfolding reading
  reading_got (Some p) f h = ((cc), (cc))
  reading_got None f h = absurd (fault_got h)
