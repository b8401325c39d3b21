-- Signs, rows of a class and numbers: each is read as far as it goes.
use Rattle.megaco.proofs.NumberParts.{same_value, same_next}
use Rattle.std.specs.Prelude.{Some, None}
use Prim.Native.Nat.{ℕ, suc, ◌+◌, ◌*◌, ◌-◌, ◌<◌, ◌≤◌}
use mathlib.Core.Path.{◌≡◌, refl, sym, ap, ◌∙◌}
use mathlib.Core.Bool.{Bool, true, false}
use mathlib.Core.List.{List, [], ◌∷◌, ◌++◌}
use lib.ListN.{length, drop}
use lib.Dec.{ltb, leb}
use borrow.Author.Tests.{eq-eqb, ltb-true, ltb-false, leb-false, lt-ltb, le-ltb, lt-leb}
use native.Mathlib.Omega.{arith}
use native.Mathlib.Nat.{add-zero}
use Rattle.base.specs.Pick.{pick}
use Rattle.base.specs.Lists.{is_at}
use Rattle.megaco.specs.Bytes.{is_digit, in_class}
use Rattle.megaco.specs.White.{white_at}
use Rattle.megaco.specs.Tokens.{mark_at, sign_at, row_from, row_at, up_to64, number_end, number_from, number_at}
use Rattle.protocol.specs.Types.{Class, Number, number}
use Rattle.grammar.specs.Characters.{DIGIT, Many, no_more, and_then}
use Rattle.grammar.specs.Grammar.{LWSP, value_from, UINT, uint}
use Rattle.grammar.proofs.Classes.{Tests, digit_tests}
use Rattle.grammar.proofs.Places.{head, Stands, behind, behind_at, is_at_head, is_at_cons, Finds, Counts, finds, finds_after, fault_next, next_same, pick_next, after_next}
use Rattle.grammar.proofs.WhiteLaws.{Solid, white_complete, white_sound}

-- ---- signs

-- a sign and white space after it
pub data After (b : ℕ) : List ℕ → Type 0 where
  after_sign : {a : List ℕ} → LWSP a → After b (b ∷ a)

module _ (s : List ℕ) (at b : ℕ) where
  pub mark_exact : (rest : List ℕ) → drop at s ≡ b ∷ rest → mark_at b s at ≡ Some (at + 1)
  unfolding mark_at pick
  mark_exact rest h = rw (is_at_head s (b ∷ rest) at b h, eq-eqb b b refl)

  pub mark_complete : (rest : List ℕ) → drop at s ≡ b ∷ rest → Finds s (mark_at b s at) rest
  mark_complete rest h = finds s (b ∷ []) rest at _ h (mark_exact rest h)

  pub sign_complete : (rest : List ℕ) {a : List ℕ} → LWSP a → Solid rest → drop at s ≡ b ∷ a ++ rest → Finds s (sign_at b s at) rest
  unfolding sign_at
  sign_complete rest {a} w k h = finds_after s _ (white_at s) (mark_complete (a ++ rest) h) (λ p e. white_complete s rest p w k e)

  pub mark_sound : (e : ℕ) → 0 < b → mark_at b s at ≡ Some e → drop at s ≡ b ∷ drop e s
  unfolding mark_at
  mark_sound e z h = let p = pick_next (is_at s at b) _ e h in rw (← next_same p.1) (is_at_cons s at b z p.0)

  pub mark_next : (e : ℕ) → mark_at b s at ≡ Some e → e ≡ at + 1
  unfolding mark_at
  mark_next e h = sym (next_same (pick_next (is_at s at b) _ e h).1)

  pub sign_sound : (e : ℕ) → 0 < b → sign_at b s at ≡ Some e → Stands (After b) Solid (drop at s) (drop e s)
  unfolding sign_at
  sign_sound e z h = after_next _ _ e h (λ p m l.
      let w = white_sound s p e l in
      record { bytes = b ∷ w.bytes; derives = after_sign w.derives; split = mark_sound p z m ∙ ap (λ t. b ∷ t) w.split; stops = w.stops })

-- ---- rows of a class

-- a row does not go on here
abbrev pub Stops : (ℕ → Bool) → List ℕ → Type 0
Stops t rest = t (head rest) ≡ false

-- what stands here is a row and then what does not belong to it
pub record Row (X : ℕ → Type 0) (t : ℕ → Bool) (from : List ℕ) : Type 0 where
  pub bytes : List ℕ
  pub rest : List ℕ
  pub many : Many X bytes
  pub split : from ≡ bytes ++ rest
  pub stops : Stops t rest

pub row : (X : ℕ → Type 0) (t : ℕ → Bool) (k : Tests X t) (from : List ℕ) → Row X t from
row X t k [] = record { bytes = []; rest = []; many = no_more; split = refl; stops = k.ends }
row X t k (b ∷ from) = go (t b) refl (row X t k from)
  where
    go : (x : Bool) → t b ≡ x → Row X t from → Row X t (b ∷ from)
    go true e r =
        record { bytes = b ∷ r.bytes; rest = r.rest; many = and_then (k.tells b e) r.many; split = ap (λ l. b ∷ l) r.split; stops = r.stops }
    go false e r = record { bytes = []; rest = b ∷ from; many = no_more; split = refl; stops = e }

module _ (k : Class) {X : ℕ → Type 0} (c : Tests X (in_class k)) where
  row_run : {a : List ℕ} (rest : List ℕ) (n : ℕ) → Many X a → Stops (in_class k) rest → row_from k (a ++ rest) n ≡ n + length a
  unfolding row_from pick
  row_run [] n no_more h = rw (add-zero n)
  row_run (b ∷ rest) n no_more h = rw (h, add-zero n)
  row_run rest n (and_then {b} {bs} x m) h =
      let l : n + 1 + length bs ≡ n + suc (length bs) = omega arith in
      rw (c.passes b x, ← l) (row_run rest (n + 1) m h)

  pub row_is : (s rest : List ℕ) {a : List ℕ} (at : ℕ) → Many X a → Stops (in_class k) rest → drop at s ≡ a ++ rest → row_at k s at ≡ at + length a
  unfolding row_at
  row_is s rest at m h e = rw e (row_run rest at m h)

-- a part of a class of at most 64 bytes
pub up_to_64 : (a e p : ℕ) → up_to64 a e ≡ Some p → (e ≡ p) × (e - a ≤ 64)
unfolding up_to64 pick
up_to_64 a e p h = go (ltb 64 (e - a)) refl h
  where
    go : (x : Bool) → ltb 64 (e - a) ≡ x → pick x None (Some e) ≡ Some p → (e ≡ p) × (e - a ≤ 64)
    go true k f = absurd (fault_next f)
    go false k f = (next_same f, ltb-false _ _ k)

pub within_64 : (at n : ℕ) → n ≤ 64 → up_to64 at (at + n) ≡ Some (at + n)
unfolding up_to64 pick
within_64 at n h = let k : at + n - at ≤ 64 = omega arith in rw (le-ltb _ _ k)

-- ---- numbers

value_grows : (v : ℕ) (a : List ℕ) → v ≤ value_from v a
unfolding value_from
value_grows v [] = omega arith
value_grows v (b ∷ bs) = omega (arith, value_grows (v * 10 + (b - 48)) bs)

bad_got : {x e : ℕ} → None ≡ number x e → ⊥
bad_got h = let z : ◌≡◌ {A = ℕ} 0 1 = cc in omega arith

pub not_bad : (t : Bool) (r : Number) {x e : ℕ} → pick t None r ≡ number x e → (t ≡ false) × (r ≡ number x e)
unfolding pick
not_bad true r h = absurd (bad_got h)
not_bad false r h = (refl, h)

pub number_end_lem : (at n v x e : ℕ) → number_end at n v ≡ number x e → (x ≡ v) × (e ≡ n) × (at < n)
unfolding number_end pick
number_end_lem at n v x e h = go (ltb at n) refl h
  where
    go : (t : Bool) → ltb at n ≡ t → pick t (number v n) None ≡ number x e → (x ≡ v) × (e ≡ n) × (at < n)
    go true k f = (sym (same_value f), sym (same_next f), ltb-true at n k)
    go false k f = absurd (bad_got f)

module _ (at most limit : ℕ) where
  number_run : {a : List ℕ} (rest : List ℕ) (n v : ℕ) → Many DIGIT a → Stops is_digit rest → at ≤ n → n - at + length a ≤ most → value_from v a ≤ limit
      → at < n + length a → number_from at most limit (a ++ rest) n v ≡ number (value_from v a) (n + length a)
  unfolding number_from number_end value_from pick
  number_run [] n v no_more h o m l g = rw (lt-ltb at n (rw (add-zero n) at g), add-zero n)
  number_run (b ∷ rest) n v no_more h o m l g = rw (h, lt-ltb at n (rw (add-zero n) at g), add-zero n)
  number_run rest n v (and_then {b} {bs} x xs) h o m l g =
      let w = v * 10 + (b - 48) in
      let e : n + 1 + length bs ≡ n + suc (length bs) = omega arith in
      let i : leb most (n - at) ≡ false = lt-leb most (n - at) (omega arith) in
      let j : ltb limit w ≡ false = le-ltb limit w (omega (arith, value_grows w bs)) in
      rw (digit_tests.passes b x, i, j, ← e) (number_run rest (n + 1) w xs h (omega arith) (omega arith) l (omega arith))

  number_back : {a : List ℕ} (rest : List ℕ) (n v x e : ℕ) → Many DIGIT a → Stops is_digit rest → at ≤ n → n - at ≤ most → v ≤ limit
      → number_from at most limit (a ++ rest) n v ≡ number x e
      → (x ≡ value_from v a) × (e ≡ n + length a) × (n - at + length a ≤ most) × (value_from v a ≤ limit) × (at < n + length a)
  unfolding number_from number_end value_from pick
  number_back [] n v x e no_more h o m l g = let p = number_end_lem at n v x e g in (p.0, omega arith, omega arith, l, omega arith)
  number_back (b ∷ rest) n v x e no_more h o m l g = let p = number_end_lem at n v x e (rw h at g) in (p.0, omega arith, omega arith, l, omega arith)
  number_back rest n v x e (and_then {b} {bs} d ds) h o m l g =
      let w = v * 10 + (b - 48) in
      let p = not_bad (leb most (n - at)) _ (rw (digit_tests.passes b d) at g) in
      let q = not_bad (ltb limit w) _ p.1 in
      let i : n - at < most = leb-false most (n - at) p.0 in
      let r = number_back rest (n + 1) w x e ds h (omega arith) (omega arith) (ltb-false _ _ q.0) q.1 in
      (r.0, omega arith, omega arith, r.3, omega arith)

-- digits, with what is not a digit behind them
pub number_complete : (s rest : List ℕ) {a : List ℕ} {v : ℕ} (at most limit : ℕ) → UINT most limit a v → Stops is_digit rest → drop at s ≡ a ++ rest
    → Counts s (number_at s at most limit) v rest
unfolding number_at
number_complete s rest at most limit (uint {b} {bs} d ds m l) k h = record {
  end = at + length (b ∷ bs);
  is = rw h (number_run at most limit rest at 0 (and_then d ds) k (omega arith) (omega arith) l (omega arith));
  leaves = behind s (b ∷ bs) rest at h;
}

pub number_sound : (s : List ℕ) (at most limit v e : ℕ) → number_at s at most limit ≡ number v e
    → Stands (λ a. UINT most limit a v) (Stops is_digit) (drop at s) (drop e s)
unfolding number_at
number_sound s at most limit v e h = go (row DIGIT is_digit digit_tests (drop at s))
  where
    some : {a : List ℕ} → Many DIGIT a → 0 < length a → length a ≤ most → value_from 0 a ≤ limit → v ≡ value_from 0 a → UINT most limit a v
    some no_more o m l z = absurd (omega arith)
    some (and_then d ds) o m l z = rw z (uint d ds m l)

    go : Row DIGIT is_digit (drop at s) → Stands (λ a. UINT most limit a v) (Stops is_digit) (drop at s) (drop e s)
    go r =
        let q = number_back at most limit r.rest at 0 v e r.many r.stops (omega arith) (omega arith) (omega arith) (rw r.split at h) in
        let k : drop e s ≡ r.rest = behind_at s r.bytes r.rest at e q.1 r.split in
        record {
          bytes = r.bytes;
          derives = some r.many (omega arith) (omega arith) q.3 q.0;
          split = rw k r.split;
          stops = rw k
              r.stops;
        }
