-- Laws of words, names and values, in the form in which `search` uses them.
use Rattle.std.specs.Prelude.{Some, None}
use Prim.Native.Nat.{ℕ, suc, ◌+◌, ◌-◌, ◌<◌, ◌≤◌}
use mathlib.Core.Path.{◌≡◌, refl, sym, ◌∙◌}
use mathlib.Core.List.{List, [], ◌∷◌}
use mathlib.Core.Bool.{Bool, true, false, ◌||◌}
use native.Mathlib.Omega.{arith}
use native.Mathlib.Nat.{le_refl, le_trans, le-add_right, lt_of_not-le}
use lib.Dec.{ltb, eqb}
use borrow.Author.Tests.{lt-ltb, le-ltb, le-leb, lt-leb}
use lib.ListN.{length, get_or, drop, length-drop, get_or-eq_default}
use Rattle.base.specs.Pick.{pick}
use Rattle.base.specs.Lists.{is_at}
use Rattle.protocol.specs.Types.{Class, WordByte, NameByte, Parsed, Number, number}
use Rattle.megaco.specs.Bytes.{star, dollar, is_digit, in_class}
use Rattle.megaco.specs.Tokens.{letter_at, row_from, row_at, up_to64, word_at, path_start, path_name_at, termination_at, mark_at, after_number, m_id_at, whole_at, is_mid}
use Rattle.megaco.specs.White.{after}
use Rattle.text.proofs.TextLaws.{reads, no_letter}

-- what holds of both choices holds of the choice
pub pick_ind : {A : Type 0} (P : A → Type 0) (t : Bool) (a b : A) → P a → P b → P (pick t a b)
unfolding pick
pick_ind P true a b p q = p
pick_ind P false a b p q = q

-- past the end stands no digit
pub no_digit : (s : List ℕ) (i : ℕ) → length s ≤ i → false ≡ is_digit (get_or s i 0)
unfolding is_digit
no_digit s i h = rw (get_or-eq_default s 0 h)

-- ---- a row ends at its start or after it, and within the message

row_from_lem : (k : Class) (l : List ℕ) (n : ℕ) → n ≤ row_from k l n
unfolding row_from
row_from_lem k [] n = le_refl n
row_from_lem k (b ∷ t) n = pick_ind (λ x. n ≤ x) (in_class k b) _ _ (le_trans (le-add_right n 1) (row_from_lem k t (n + 1))) (le_refl n)

row_to : (k : Class) (l : List ℕ) (n : ℕ) → row_from k l n ≤ n + length l
unfolding row_from
row_to k [] n = omega arith
row_to k (b ∷ t) n = let h : row_from k t (n + 1) ≤ n + 1 + length t = row_to k t (n + 1) in pick_ind (λ x. x ≤ n + suc (length t)) (in_class k b) _ _ (omega arith) (omega arith)

module _ (k : Class) (s : List ℕ) (at e : ℕ) (r : e ≡ row_at k s at) where
  pub row_ahead : at ≤ e
  unfolding row_at
  row_ahead = rw r (row_from_lem k (drop at s) at)

  pub row_within : at ≤ length s → e ≤ length s
  unfolding row_at
  row_within h = rw r (let t : row_from k (drop at s) at ≤ at + length (drop at s) = row_to k (drop at s) at in omega (arith, length-drop at s))

-- ---- parts of at most 64 bytes

pub up_to_by : (a e e' : ℕ) (r : Parsed) → r ≡ up_to64 a e → e ≡ e' → r ≡ up_to64 a e'
up_to_by a e e' r h g = rw (← g) h

-- two tests that are calls' results
pub or_by : (a b x y t : Bool) → (x || y) ≡ t → x ≡ a → y ≡ b → (a || b) ≡ t
or_by a b x y t h f g = rw (← f, ← g) h

-- ---- a keyword's word is a part of the message

letter_within : (s : List ℕ) (at : ℕ) → letter_at s at ≡ true → at < length s
letter_within s at e = lt_of_not-le (λ (h : length s ≤ at). let z : ◌≡◌ {A = ℕ} 0 1 = cc (no_letter s at h) in omega arith)

up_to_is : (a e f : ℕ) → up_to64 a e ≡ Some f → e ≡ f
unfolding up_to64 pick
up_to_is a e f = by (ltb 64 (e - a))
  where
    by : (t : Bool) → pick t None (Some e) ≡ Some f → e ≡ f
    by true h = cc
    by false h = cc

word_part : (s : List ℕ) (at e : ℕ) → word_at s at ≡ Some e → (at ≤ e) × (e ≤ length s)
unfolding word_at pick
word_part s at e h = by (letter_at s at) refl h
  where
    by : (t : Bool) → letter_at s at ≡ t → pick t (up_to64 at (row_at WordByte s at)) None ≡ Some e → (at ≤ e) × (e ≤ length s)
    by true l g =
        let r : e ≡ row_at WordByte s at = sym (up_to_is at (row_at WordByte s at) e g) in
        let w : at < length s = letter_within s at l in
        (row_ahead WordByte s at e r, row_within WordByte s at e r (omega arith))
    by false l g = let z : ◌≡◌ {A = ℕ} 0 1 = cc in absurd (omega arith)

module _ (s : List ℕ) (at e : ℕ) (y : Parsed) (w : y ≡ word_at s at) (n : y ≡ Some e) where
  pub word_ahead : at ≤ e
  word_ahead = (word_part s at e (sym w ∙ n)).0

  pub word_within : e ≤ length s
  word_within = (word_part s at e (sym w ∙ n)).1

-- ---- path names and terminations: the word begins at p

module _ (s : List ℕ) (at p : ℕ) (g : p ≡ path_start s at) where
  pub path_ahead : (e : ℕ) → e ≡ row_at NameByte s p → at ≤ e
  unfolding path_start
  path_ahead e r = le_trans (rw g (pick_ind (λ x. at ≤ x) (is_at s at star) (at + 1) at (le-add_right at 1) (le_refl at))) (row_ahead NameByte s p e r)

  module _ (x : Bool) (l : x ≡ letter_at s p) where
    pub path_yes : (e : ℕ) (r : Parsed) → x ≡ true → e ≡ row_at NameByte s p → r ≡ up_to64 at e → r ≡ path_name_at s at
    unfolding path_name_at pick
    path_yes e r t h f = f ∙ rw (← g, ← l, t, ← h)

    pub path_no : x ≡ false → None ≡ path_name_at s at
    unfolding path_name_at pick
    path_no t = rw (← g, ← l, t)

    pub termination_path : (r : Parsed) → x ≡ true → r ≡ path_name_at s at → r ≡ termination_at s at
    unfolding termination_at pick
    termination_path r t h = rw (← g, ← l, t) h

    pub termination_star : (y : Bool) → x ≡ false → y ≡ is_at s at star → y ≡ true → Some (at + 1) ≡ termination_at s at
    unfolding termination_at pick
    termination_star y f h t = rw (← g, ← l, f, ← h, t)

    pub termination_dollar : (y : Bool) (r : Parsed) → x ≡ false → y ≡ is_at s at star → y ≡ false → r ≡ mark_at dollar s at → r ≡ termination_at s at
    unfolding termination_at mark_at pick
    termination_dollar y r f h t m = rw (← g, ← l, f, ← h, t) m

-- ---- the arms of a match on a number

pub number_next : (x : Number) (f : ℕ → Parsed) (y : Number) (r : Parsed) (v p : ℕ) → y ≡ x → y ≡ number v p → r ≡ f p → r ≡ after_number x f
unfolding after_number
number_next x f y r v p e n h = rw (← e, n) h

pub number_bad : (x : Number) (f : ℕ → Parsed) (y : Number) → y ≡ x → y ≡ None → None ≡ after_number x f
unfolding after_number
number_bad x f y e n = rw (← e, n)

pub ruleset tokens = (reads, up_to_by, number_next, number_bad)

-- ---- a call's result in the place of its definition

pub lt_by : (a e e' : ℕ) → a < e → e ≡ e' → ltb a e' ≡ true
lt_by a e e' h g = rw (← g) (lt-ltb a e h)

pub le_by : (a e e' : ℕ) → e ≤ a → e ≡ e' → ltb a e' ≡ false
le_by a e e' h g = rw (← g) (le-ltb a e h)

pub after_by : (y x : Parsed) (f : ℕ → Parsed) (r : Parsed) → r ≡ after y f → y ≡ x → r ≡ after x f
after_by y x f r h e = rw (← e) h

-- ---- the gateway's own mId

pub mid_long : (own : List ℕ) → 64 < length own → false ≡ is_mid own
unfolding is_mid
mid_long own h = rw (lt-leb (length own) 64 h)

module _ (own : List ℕ) (y : Parsed) (h : length own ≤ 64) (e : y ≡ m_id_at own 0) where
  pub mid_next : (p : ℕ) → y ≡ Some p → eqb p (length own) ≡ is_mid own
  unfolding is_mid whole_at
  mid_next p n = rw (le-leb (length own) 64 h, ← e, n)

  pub mid_fault : y ≡ None → false ≡ is_mid own
  unfolding is_mid whole_at
  mid_fault n = rw (le-leb (length own) 64 h, ← e, n)
