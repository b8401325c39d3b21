-- A production by position. `Production r` stands beside a tree reader r of crate `megaco` (Reading) at one place: where a reader that keeps no
-- tree stops there, and, told without failing, the tree and the end; with the law that r says the same. There is one combinator for each of
-- Reading's, so a production is written once, in Reading's words, and its type says which reader it follows.
use Prim.Native.Nat.{ℕ, zero, suc, ◌+◌}
use Rattle.std.specs.Prelude.{◌≡◌, refl, Bool, Some, None}
use Rattle.std.proofs.Math.Bool.{true, false}
use mathlib.Core.List.{List, [], ◌∷◌}
use Rattle.base.specs.Pick.{pick}
use Rattle.base.specs.Lists.{is_at, part}
use Rattle.megaco.specs.Bytes.{comma}
use Rattle.megaco.specs.White.{after, white_at}
use Rattle.megaco.specs.Tokens.{sign_at, up_to64, row_at, word_at, letter_at, after_number}
use Rattle.megaco.specs.Reading.{Read, got, fault, bind, skip, reading, read_number, spaced, list_r, word_r}
use Rattle.protocol.specs.Types.{Parsed, Number, WordByte}

-- ---- places

-- where a reader stopped
unfoldable pub end_of : Parsed → ℕ
end_of (Some p) = p
end_of None = 0

unfoldable pub value_in : Number → ℕ
value_in (Some (v, p)) = v
value_in None = 0

unfoldable pub next_in : Number → ℕ
next_in (Some (v, p)) = p
next_in None = 0

-- a number behind another part
unfoldable pub number_after : Parsed → (ℕ → Number) → Number
number_after (Some p) f = f p
number_after None f = None

unfoldable pub past_white : List ℕ → ℕ → ℕ
past_white s at = end_of (white_at s at)

unfoldable pub past_sign : ℕ → List ℕ → ℕ → ℕ
past_sign b s at = end_of (sign_at b s at)

unfoldable pub word_end : List ℕ → ℕ → ℕ
word_end s at = row_at WordByte s at

-- a part and the white space after it
unfoldable pub spaced_at : List ℕ → Parsed → Parsed
spaced_at s x = after x (white_at s)

-- ---- parts joined by commas, at most k: where they stop, their trees, their end

-- a part, and what follows it behind a comma
unfoldable pub joined_at : (ℕ → Parsed) → List ℕ → Parsed → Parsed
joined_at rest s x =
    after x (λ p.
    let more = after (sign_at comma s p) rest in
    pick (is_at s p comma) more (Some p))

unfoldable pub list_at : (ℕ → Parsed) → List ℕ → ℕ → ℕ → Parsed
list_at one s zero at = None
list_at one s (suc k) at = joined_at (list_at one s k) s (one at)

unfoldable pub list_of : {A : Type 0} → (ℕ → A) → (ℕ → ℕ) → List ℕ → ℕ → ℕ → List A
list_of one end s zero at = []
list_of one end s (suc k) at =
    let more = list_of one end s k (past_sign comma s (end at)) in
    one at ∷ pick (is_at s (end at) comma) more []

unfoldable pub list_end : (ℕ → ℕ) → List ℕ → ℕ → ℕ → ℕ
list_end end s zero at = at
list_end end s (suc k) at =
    let more = list_end end s k (past_sign comma s (end at)) in
    pick (is_at s (end at) comma) more (end at)

-- the end of such parts, one of which ends at e, with at most k behind it
unfoldable pub list_after : (ℕ → ℕ) → List ℕ → ℕ → ℕ → ℕ
list_after end s k e = pick (is_at s e comma) (list_end end s k (past_sign comma s e)) e

-- ---- what is said of a production: the tree reader `r` faults where the reader by position `x` does, and else gives the tree `a` and ends at `e`

abbrev pub found : {A : Type 0} → Parsed → A → Read A
found x a = reading x (λ e. a)

pub record Reads {A : Type 0} (r : Read A) (x : Parsed) (a : A) (e : ℕ) : Type 0 where
  pub tree : r ≡ found x a
  pub ends : (p : ℕ) → x ≡ Some p → e ≡ p

pub record Production {A : Type 0} (r : Read A) : Type 0 where
  pub place : Parsed
  pub tree : A
  pub end : ℕ
  pub law : Reads r place tree end

-- ---- the combinators

module _ {A : Type 0} where
  pub fault_reads : (a : A) (e : ℕ) → Reads fault None a e
  unfolding reading
  fault_reads a e = record { tree = refl; ends = λ p n. cc }

  pub got_reads : (a : A) (e : ℕ) → Reads (got a e) (Some e) a e
  unfolding reading
  got_reads a e = record { tree = refl; ends = λ p n. cc }

  -- nothing reads here: what is told has no meaning
  abbrev pub fault_p : (a : A) (e : ℕ) → Production {A = A} fault
  fault_p a e = record { place = None; tree = a; end = e; law = fault_reads a e }

  abbrev pub got_p : (a : A) (e : ℕ) → Production (got a e)
  got_p a e = record { place = Some e; tree = a; end = e; law = got_reads a e }

  -- a token told by its place and its end, which is found by itself
  pub reading_to : (x : Parsed) (f : ℕ → A) (e : ℕ) → ((p : ℕ) → x ≡ Some p → e ≡ p) → Reads (reading x f) x (f e) e
  unfolding reading
  reading_to (Some p) f e h = rw (h p refl) (got_reads (f p) p)
  reading_to None f e h = fault_reads (f e) e

  pub reading_reads : (x : Parsed) (f : ℕ → A) → Reads (reading x f) x (f (end_of x)) (end_of x)
  unfolding end_of
  reading_reads x f = reading_to x f (end_of x) (λ p n. rw n)

  abbrev pub token_p : (x : Parsed) (f : ℕ → A) → Production (reading x f)
  token_p x f = record { place = x; tree = f (end_of x); end = end_of x; law = reading_reads x f }

  pub number_reads : (n : Number) (f : ℕ → A) → Reads (read_number n f) (after_number n Some) (f (value_in n)) (next_in n)
  unfolding read_number after_number value_in next_in
  number_reads (Some (v, p)) f = got_reads (f v) p
  number_reads None f = fault_reads (f 0) 0

  abbrev pub number_p : (n : Number) (f : ℕ → A) → Production (read_number n f)
  number_p n f = record { place = after_number n Some; tree = f (value_in n); end = next_in n; law = number_reads n f }

  pub pick_reads : (t : Bool) {r r' : Read A} {x x' : Parsed} {a a' : A} {e e' : ℕ} → Reads r x a e → Reads r' x' a' e' → Reads (pick t r r') (pick t x x') (pick t a a') (pick t e e')
  unfolding pick
  pick_reads true y n = y
  pick_reads false y n = n

  abbrev pub pick_p : (t : Bool) {r r' : Read A} → Production r → Production r' → Production (pick t r r')
  pick_p t x y =
      record { place = pick t x.place y.place; tree = pick t x.tree y.tree; end = pick t x.end y.end; law = pick_reads t x.law y.law }

  -- what must not be
  pub unless_reads : (t : Bool) (a : A) (e : ℕ) → Reads (pick t fault (got a e)) (pick t None (Some e)) a e
  unfolding pick
  unless_reads true a e = fault_reads a e
  unless_reads false a e = got_reads a e

  abbrev pub unless_p : (t : Bool) (a : A) (e : ℕ) → Production (pick t fault (got a e))
  unless_p t a e = record { place = pick t None (Some e); tree = a; end = e; law = unless_reads t a e }

module _ {A B : Type 0} where
  -- a part, and what follows it from its end
  pub bind_reads : {r : Read A} {x : Parsed} {a : A} {e e' : ℕ} (f : A → ℕ → Read B) (g : ℕ → Parsed) {b : B}
      → Reads r x a e → Reads (f a e) (g e) b e' → Reads (bind r f) (after x g) b e'
  unfolding bind reading after
  bind_reads {r} {x} {a} {e} {e'} f g {b} h k = rw h.tree (by x h.ends)
    where
      by : (y : Parsed) → ((p : ℕ) → y ≡ Some p → e ≡ p) → Reads (bind (found y a) f) (after y g) b e'
      by (Some p) n = rw (n p refl) at k
      by None n = fault_reads b e'

  abbrev pub bind_p : {r : Read A} {f : A → ℕ → Read B} → Production r → ((a : A) (p : ℕ) → Production (f a p)) → Production (bind r f)
  bind_p {r} {f} x k =
      record {
        place = after x.place (λ p. (k x.tree p).place);
        tree = (k x.tree x.end).tree;
        end = (k x.tree x.end).end;
        law = bind_reads f (λ p. (k x.tree p).place) x.law (k x.tree x.end).law;
      }

  -- the same where the part's tree goes into another
  pub map_reads : {r : Read A} {x : Parsed} {a : A} {e : ℕ} (f : A → B) → Reads r x a e → Reads (bind r (λ y p. got (f y) p)) x (f a) e
  unfolding bind reading
  map_reads {r} {x} {a} {e} f h = rw h.tree (by x h.ends)
    where
      by : (y : Parsed) → ((p : ℕ) → y ≡ Some p → e ≡ p) → Reads (bind (found y a) (λ z p. got (f z) p)) y (f a) e
      by (Some p) n = rw (n p refl) (got_reads (f a) p)
      by None n = fault_reads (f a) e

  abbrev pub map_p : (f : A → B) {r : Read A} → Production r → Production (bind r (λ y p. got (f y) p))
  map_p f x = record { place = x.place; tree = f x.tree; end = x.end; law = map_reads f x.law }

module _ {B : Type 0} where
  -- a part that leaves nothing in the tree
  pub skip_reads : (x : Parsed) {e : ℕ} (f : ℕ → Read B) (g : ℕ → Parsed) {b : B} → Reads (f (end_of x)) (g (end_of x)) b e → Reads (skip x f) (after x g) b e
  unfolding skip after end_of
  skip_reads (Some p) f g h = h
  skip_reads None {e} f g {b} h = fault_reads b e

  abbrev pub skip_p : (x : Parsed) {f : ℕ → Read B} → ((p : ℕ) → Production (f p)) → Production (skip x f)
  skip_p x {f} k =
      record { place = after x (λ p. (k p).place); tree = (k (end_of x)).tree; end = (k (end_of x)).end; law = skip_reads x f (λ p. (k p).place) (k (end_of x)).law }

  -- the same where the part's end is found by itself
  pub skip_to : (x : Parsed) (e : ℕ) {f : ℕ → Read B} (k : (p : ℕ) → Production (f p)) → ((p : ℕ) → x ≡ Some p → e ≡ p)
      → Reads (skip x f) (after x (λ p. (k p).place)) (k e).tree (k e).end
  unfolding skip after
  skip_to (Some p) e k h = rw (h p refl) (k p).law
  skip_to None e k h = fault_reads _ _

  pub sign_reads : (b : ℕ) (s : List ℕ) (at : ℕ) {f : ℕ → Read B} (k : (p : ℕ) → Production (f p))
      → Reads (skip (sign_at b s at) f) (after (sign_at b s at) (λ p. (k p).place)) (k (past_sign b s at)).tree (k (past_sign b s at)).end
  unfolding past_sign
  sign_reads b s at {f} k = (skip_p (sign_at b s at) {f = f} k).law

  abbrev pub sign_p : (b : ℕ) (s : List ℕ) (at : ℕ) {f : ℕ → Read B} → ((p : ℕ) → Production (f p)) → Production (skip (sign_at b s at) f)
  sign_p b s at {f} k =
      record { place = after (sign_at b s at) (λ p. (k p).place); tree = (k (past_sign b s at)).tree; end = (k (past_sign b s at)).end; law = sign_reads b s at k }

  pub skip_last : (x : Parsed) (b : B) → Reads (skip x (got b)) x b (end_of x)
  unfolding skip end_of
  skip_last (Some p) b = got_reads b p
  skip_last None b = fault_reads b 0

  abbrev pub last_p : (x : Parsed) (b : B) → Production (skip x (got b))
  last_p x b = record { place = x; tree = b; end = end_of x; law = skip_last x b }

  pub close_reads : (b : ℕ) (s : List ℕ) (at : ℕ) (a : B) → Reads (skip (sign_at b s at) (got a)) (sign_at b s at) a (past_sign b s at)
  unfolding past_sign
  close_reads b s at a = skip_last (sign_at b s at) a

  abbrev pub close_p : (b : ℕ) (s : List ℕ) (at : ℕ) (a : B) → Production (skip (sign_at b s at) (got a))
  close_p b s at a = record { place = sign_at b s at; tree = a; end = past_sign b s at; law = close_reads b s at a }

  pub spaced_reads : (s : List ℕ) {r : Read B} {x : Parsed} {a : B} {e : ℕ} → Reads r x a e → Reads (spaced s r) (spaced_at s x) a (past_white s e)
  unfolding spaced spaced_at past_white
  spaced_reads s {r} {x} {a} {e} h = bind_reads _ _ h (skip_last (white_at s e) a)

  abbrev pub spaced_p : (s : List ℕ) {r : Read B} → Production r → Production (spaced s r)
  spaced_p s x = record { place = spaced_at s x.place; tree = x.tree; end = past_white s x.end; law = spaced_reads s x.law }

  -- a number behind another part, and white space
  pub behind_reads : (s : List ℕ) (x : Parsed) (n : ℕ → Number) (f : ℕ → B)
      → let m = number_after x n in Reads (skip x (λ p. spaced s (read_number (n p) f))) (spaced_at s (after_number m Some)) (f (value_in m)) (past_white s (next_in m))
  unfolding skip number_after
  behind_reads s (Some p) n f = spaced_reads s (number_reads (n p) f)
  behind_reads s None n f = unfold after_number spaced_at after in fault_reads _ _

  abbrev pub behind_p : (s : List ℕ) (x : Parsed) (n : ℕ → Number) (f : ℕ → B) → Production (skip x (λ p. spaced s (read_number (n p) f)))
  behind_p s x n f =
      record { place = spaced_at s (after_number (number_after x n) Some); tree = f (value_in (number_after x n)); end = past_white s (next_in (number_after x n)); law = behind_reads s x n f }

  -- the same reader in other words
  abbrev pub placed_p : {r : Read B} (y : Parsed) (x : Production r) → x.place ≡ y → Production r
  placed_p {r} y x h = record { place = y; tree = x.tree; end = x.end; law = rw h at x.law }

pub after_assoc : (x : Parsed) (f g : ℕ → Parsed) → after (after x f) g ≡ after x (λ p. after (f p) g)
unfolding after
after_assoc (Some p) f g = refl
after_assoc None f g = refl

-- ---- words

ends_yes : (t : Bool) (x : Parsed) (e p : ℕ) → ((q : ℕ) → x ≡ Some q → e ≡ q) → pick t x None ≡ Some p → e ≡ p
unfolding pick
ends_yes true x e p h n = h p n
ends_yes false x e p h n = cc

ends_no : (t : Bool) (e p : ℕ) → pick t None (Some e) ≡ Some p → e ≡ p
unfolding pick
ends_no true e p n = cc
ends_no false e p n = cc

word_ends : (s : List ℕ) (at p : ℕ) → word_at s at ≡ Some p → word_end s at ≡ p
unfolding word_at word_end up_to64
word_ends s at p n = ends_yes (letter_at s at) _ _ p (λ q. ends_no _ _ q) n

pub keyword_reads : {A : Type 0} (s : List ℕ) (at : ℕ) (f : ℕ → A) → Reads (reading (word_at s at) f) (word_at s at) (f (word_end s at)) (word_end s at)
keyword_reads s at f = reading_to (word_at s at) f (word_end s at) (word_ends s at)

abbrev pub keyword_p : {A : Type 0} (s : List ℕ) (at : ℕ) (f : ℕ → A) → Production (reading (word_at s at) f)
keyword_p s at f = record { place = word_at s at; tree = f (word_end s at); end = word_end s at; law = keyword_reads s at f }

pub word_reads : (s : List ℕ) (at : ℕ) → Reads (word_r s at) (word_at s at) (part s at (word_end s at)) (word_end s at)
unfolding word_r
word_reads s at = keyword_reads s at (part s at)

abbrev pub word_p : (s : List ℕ) (at : ℕ) → Production (word_r s at)
word_p s at = record { place = word_at s at; tree = part s at (word_end s at); end = word_end s at; law = word_reads s at }

-- a word, and what follows it and its bytes
abbrev pub word_then_p : {B : Type 0} (s : List ℕ) (at : ℕ) {f : List ℕ → ℕ → Read B} → ((w : List ℕ) (p : ℕ) → Production (f w p)) → Production (bind (word_r s at) f)
word_then_p s at {f} k =
    let e : ℕ = word_end s at in
    record {
      place = after (word_at s at) (λ p. (k (part s at p) p).place);
      tree = (k (part s at e) e).tree;
      end = (k (part s at e) e).end;
      law = bind_reads f (λ p. (k (part s at p) p).place) (word_reads s at) (k (part s at e) e).law;
    }

-- a word of which only the place counts, white space, and what follows
pub past_word_reads : {B : Type 0} (s : List ℕ) (at : ℕ) {f : ℕ → Read B} (k : (p : ℕ) → Production (f p))
    → let e = past_white s (word_end s at) in Reads (skip (spaced_at s (word_at s at)) f) (after (spaced_at s (word_at s at)) (λ p. (k p).place)) (k e).tree (k e).end
past_word_reads s at k = skip_to (spaced_at s (word_at s at)) (past_white s (word_end s at)) k (spaced_reads s (keyword_reads s at (λ e. e))).ends

abbrev pub past_word_p : {B : Type 0} (s : List ℕ) (at : ℕ) {f : ℕ → Read B} → ((p : ℕ) → Production (f p)) → Production (skip (spaced_at s (word_at s at)) f)
past_word_p s at k =
    let e : ℕ = past_white s (word_end s at) in
    record { place = after (spaced_at s (word_at s at)) (λ p. (k p).place); tree = (k e).tree; end = (k e).end; law = past_word_reads s at k }

-- ---- lists joined by commas

turn : {A : Type 0} (t : Bool) (a : A) (p : ℕ) {x : Read (List A)} {y : Parsed} {l : List A} {e : ℕ}
    → Reads x y (a ∷ l) e → Reads (pick t x (got (a ∷ []) p)) (pick t y (Some p)) (a ∷ pick t l []) (pick t e p)
unfolding pick
turn true a p h = h
turn false a p h = got_reads (a ∷ []) p

module _ {A : Type 0} {r : ℕ → Read A} (one : (i : ℕ) → Production (r i)) (s : List ℕ) where
  pub list_reads : (k i : ℕ) → Reads (list_r r s k i) (list_at (λ j. (one j).place) s k i) (list_of (λ j. (one j).tree) (λ j. (one j).end) s k i) (list_end (λ j. (one j).end) s k i)
  unfolding list_r list_at joined_at list_of list_end past_sign
  list_reads zero i = fault_reads [] i
  list_reads (suc k) i =
      let e : ℕ = (one i).end in
      bind_reads _ _ (one i).law (turn (is_at s e comma) (one i).tree e
      (skip_reads (sign_at comma s e) _ _ (map_reads (λ l. (one i).tree ∷ l) (list_reads k (end_of (sign_at comma s e))))))

  abbrev pub list_p : (k i : ℕ) → Production (list_r r s k i)
  list_p k i =
      record {
        place = list_at (λ j. (one j).place) s k i;
        tree = list_of (λ j. (one j).tree) (λ j. (one j).end) s k i;
        end = list_end (λ j. (one j).end) s k i;
        law = list_reads k i;
      }
