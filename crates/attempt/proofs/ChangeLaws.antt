-- What the changes of an attempt do to a table, write by write; and that property words fit.
use Rattle.std.specs.Prelude.{Some, None}
use Prim.Native.Nat.{ℕ, zero, suc, ◌+◌, ◌*◌, ◌/◌, ◌%◌, ◌<◌, ◌≤◌, max}
use mathlib.Core.Path.{◌≡◌, refl, sym, ap, ◌∙◌}
use mathlib.Core.List.{List, [], ◌∷◌}
use mathlib.Core.Bool.{Bool, true, false, ◌&&◌, ◌||◌, false≢true}
use native.Mathlib.Omega.{arith}
use mir.Syntax.{w32}
use mir.Val.{Fits}
use lib.Dec.{ltb, eqb}
use borrow.Author.Tests.{le-leb, lt-leb, lt-ltb, ltb-true, ltb-false, eqb-true}
use lib.ListN.{get_or}
use Rattle.base.specs.Pick.{pick}
use Rattle.base.proofs.TestLaws.{and_both}
use Rattle.megaco.specs.Square.{Square, square_of, of_bits, of_rows, low_of, high_of, up_to, joined_flow, joined_row, joined, parted}
use Rattle.megaco.specs.Table.{Write, write, ctx, cell, prop, rec, used, flow, low_flow, high_flow, most, is_ephemeral, store, apply}
use Rattle.megaco.specs.Items.{update}
use Rattle.megaco.specs.Attempt.{number_of, is_choose, target, speaks, flows_of, flowing, joining, leaving, placed, marking, added, subtracted, side_writes, speaking, spoken, forgetting, changes}
use Rattle.protocol.specs.Types.{Op, Add, Modify, Subtract, Move, AuditValue, Context, Given, Speech, Kept, Released, Session, Values, Seen, View}
use Rattle.protocol.specs.Ranges.{InRange}
use Rattle.attempt.specs.Judging.{value_or}

-- ---- property words

value_small : (g : Given) (x m : ℕ) → value_or g 0 ≤ m → value_or g x ≤ max x m
value_small None x m h = omega arith
value_small (Some y) x m h = omega arith

module _ (vs : Values) (word a b : ℕ) (f : InRange vs) (e : a ≡ value_or vs.mode (word % 8)) (d : b ≡ value_or vs.state (word / 8)) where
  pub state_fits_lem : word < 4294967296 → Fits w32 (8 * b)
  state_fits_lem h = record { fits = omega (arith, d, value_small vs.state (word / 8) 2 f.state) }

  pub update_fits : word < 4294967296 → Fits w32 (a + 8 * b)
  update_fits h = record { fits = omega (arith, e, d, value_small vs.mode (word % 8) 4 f.mode, value_small vs.state (word / 8) 2 f.state) }

  pub update_by : a + 8 * b ≡ update vs word
  unfolding update
  update_by = rw (e, d)

-- ---- writes

first_write : (b : Bool) (w : Write) (ws : List Write) (t : List ℕ) → apply (pick b (w ∷ ws) ws) t ≡ apply ws (apply (pick b (w ∷ []) []) t)
unfolding apply pick
first_write true w ws t = refl
first_write false w ws t = refl

-- one write, or the two of a context's flows
first_writes : (b : Bool) (w : Write) (c : ℕ) (q : Square) (ws : List Write) (t : List ℕ)
    → apply (pick b (w ∷ ws) (flowing c q ws)) t ≡ apply ws (apply (pick b (w ∷ []) (flowing c q [])) t)
unfolding apply pick flowing
first_writes true w c q ws t = refl
first_writes false w c q ws t = refl

pub flows_put : (c : ℕ) (words : List ℕ) (q : Square) (t u : List ℕ) → words ≡ (low_of q ∷ high_of q ∷ [])
    → u ≡ apply (write (cell (flow (low_flow c))) (get_or words 0 0) ∷ write (cell (flow (high_flow c))) (get_or words 1 0) ∷ []) t → u ≡ apply (flowing c q []) t
unfolding flowing
flows_put c words q t u e p = p ∙ rw e

-- more members than eight leave no place unused
joined_full : (q : Square) (m k : ℕ) → 8 ≤ m → joined q 8 k ≡ joined q (m + 1) k
unfolding joined joined_row joined_flow up_to
joined_full q m k h =
    rw (
      lt-ltb 0 (m + 1) (omega arith),
      lt-ltb 1 (m + 1) (omega arith),
      lt-ltb 2 (m + 1) (omega arith),
      lt-ltb 3 (m + 1) (omega arith),
      lt-ltb 4 (m + 1) (omega arith),
      lt-ltb 5 (m + 1) (omega arith),
      lt-ltb 6 (m + 1) (omega arith),
      lt-ltb 7 (m + 1) (omega arith),
    )

pub joined_is : (s : Seen) (k n : ℕ) (q r : Square) → q ≡ square_of s.low s.high → n ≡ pick (ltb s.members most) (s.members + 1) most → r ≡ joined q n k
    → r ≡ joined (flows_of s) (s.members + 1) k
unfolding flows_of
joined_is s k n q r e f g = g ∙ rw (e, f) (by (ltb s.members most) refl)
  where
    by : (b : Bool) → ltb s.members most ≡ b
        → joined (square_of s.low s.high) (pick b (s.members + 1) most) k ≡ joined (square_of s.low s.high) (s.members + 1) k
    by true h = unfold pick in refl
    by false h = unfold pick in joined_full (square_of s.low s.high) s.members k (ltb-false s.members most h)

-- the second member
two_flow : (q : Square) (k : ℕ) → k < 2 → joined q 2 k ≡ joined [] 2 0
unfolding joined joined_row joined_flow up_to pick
two_flow q zero h = refl
two_flow q (suc zero) h = refl
two_flow q (suc (suc k)) h = absurd (omega arith)

pub two_put : (c : ℕ) (t u : List ℕ) → u ≡ apply (write (cell (flow (low_flow c))) 258 ∷ write (cell (flow (high_flow c))) 0 ∷ []) t
    → u ≡ apply (flowing c (joined [] 2 0) []) t
unfolding joined joined_row joined_flow up_to pick low_of high_of of_rows of_bits
two_put c t u e = flows_put c (258 ∷ 0 ∷ []) (joined [] 2 0) t u refl e

pub join_two : (c k : ℕ) (s : Seen) (t t' : List ℕ) → (eqb s.members 1 && ltb k 2) ≡ true → t' ≡ apply (flowing c (joined [] 2 0) []) t
    → t' ≡ apply (flowing c (joined (flows_of s) (s.members + 1) k) []) t
join_two c k s t t' h e =
    let b = and_both (eqb s.members 1) (ltb k 2) h in
    let m : 2 ≡ s.members + 1 = omega (arith, eqb-true s.members 1 b.0) in
    let j : joined [] 2 0 ≡ joined (flows_of s) (s.members + 1) k =
    sym (two_flow (flows_of s) k (ltb-true k 2 b.1)) ∙ ap (λ (n : ℕ). joined (flows_of s) n k) m in
    e ∙ ap (λ (q : Square). apply (flowing c q []) t) j

pub join_more : (c k : ℕ) (s : Seen) (q : Square) (t t' : List ℕ) → q ≡ joined (flows_of s) (s.members + 1) k → t' ≡ apply (flowing c q []) t
    → t' ≡ apply (flowing c (joined (flows_of s) (s.members + 1) k) []) t
join_more c k s q t t' h e = e ∙ rw h

pub parted_is : (s : Seen) (k : ℕ) (q r : Square) → q ≡ square_of s.low s.high → r ≡ parted q k → r ≡ parted (flows_of s) k
unfolding flows_of
parted_is s k q r e g = g ∙ rw e

module _ (at : Context) (given : ℕ) (v : View) (t : List ℕ) (x : Bool) (e : x ≡ is_choose at) where
  pub join_yes : (t' : List ℕ) → x ≡ true → t' ≡ store (write (cell (rec v.free)) given) t → t' ≡ apply (joining at given v []) t
  unfolding joining apply pick
  join_yes t' h p = rw (← e, h) p

  pub join_no : (t' : List ℕ) (c : ℕ) → x ≡ false → c ≡ number_of at
      → t' ≡ apply (flowing c (joined (flows_of v.there) (v.there.members + 1) v.into) []) t → t' ≡ apply (joining at given v []) t
  unfolding joining pick
  join_no t' c h f p = p ∙ rw (← e, h, f)

module _ (v : View) (t : List ℕ) where
  pub leave_yes : (t' : List ℕ) → v.from.members ≤ 1 → t' ≡ store (write (cell (rec v.here)) 0) t → t' ≡ apply (leaving v []) t
  unfolding leaving apply pick
  leave_yes t' h p = rw (le-leb v.from.members 1 h) p

  pub leave_no : (t' : List ℕ) (q : Square) → 1 < v.from.members → q ≡ parted (flows_of v.from) v.out → t' ≡ apply (flowing v.here q []) t
      → t' ≡ apply (leaving v []) t
  unfolding leaving pick
  leave_no t' q h g p = p ∙ rw (lt-leb v.from.members 1 h, g)

module _ (n i m : ℕ) (t : List ℕ) (x : Bool) (e : x ≡ is_ephemeral n i) where
  pub mark_yes : (t' : List ℕ) → x ≡ true → t' ≡ store (write (cell (used i)) m) t → t' ≡ apply (marking n i m []) t
  unfolding marking apply pick
  mark_yes t' h p = rw (← e, h) p

  pub mark_no : x ≡ false → t ≡ apply (marking n i m []) t
  unfolding marking apply pick
  mark_no h = rw (← e, h)

-- what is given for Local and Remote
module _ (i side : ℕ) (s : Speech) (t : List ℕ) where
  pub speak_kept : s ≡ Kept → t ≡ apply (speaking i side s []) t
  unfolding speaking apply
  speak_kept e = rw e

  pub speak_released : (t' : List ℕ) → s ≡ Released → t' ≡ apply (side_writes i side 0 0 0 0 []) t → t' ≡ apply (speaking i side s []) t
  unfolding speaking
  speak_released t' e p = rw e p

  pub speak_session : (t' : List ℕ) (a p k : ℕ) → s ≡ Session a p k → t' ≡ apply (side_writes i side 1 a p k []) t → t' ≡ apply (speaking i side s []) t
  unfolding speaking
  speak_session t' a p k e q = rw e q

speaking_first : (i side : ℕ) (s : Speech) (ws : List Write) (t : List ℕ) → apply (speaking i side s ws) t ≡ apply ws (apply (speaking i side s []) t)
unfolding speaking side_writes apply
speaking_first i side Kept ws t = refl
speaking_first i side Released ws t = refl
speaking_first i side (Session a p k) ws t = refl

pub both_spoken : (i : ℕ) (vs : Values) (t t₁ t₂ : List ℕ) → t₁ ≡ apply (speaking i 0 vs.local []) t → t₂ ≡ apply (speaking i 1 vs.remote []) t₁ → t₂ ≡ apply (spoken i vs []) t
unfolding spoken
both_spoken i vs t t₁ t₂ e f = f ∙ rw e (sym (speaking_first i 0 vs.local (speaking i 1 vs.remote []) t))

-- neither is given
kept_writes : (i side : ℕ) (s : Speech) (ws : List Write) → speaks s ≡ false → speaking i side s ws ≡ ws
unfolding speaking speaks
kept_writes i side Kept ws e = refl
kept_writes i side Released ws e = absurd (false≢true (sym e))
kept_writes i side (Session a p k) ws e = absurd (false≢true (sym e))

pub none_spoken : (i : ℕ) (vs : Values) (t : List ℕ) (x y : Bool) → x ≡ speaks vs.local → y ≡ speaks vs.remote → (x || y) ≡ false → t ≡ apply (spoken i vs []) t
unfolding spoken apply
none_spoken i vs t x y e f n =
    let b : (x ≡ false) × (y ≡ false) = or_none x y n in
    sym (rw (kept_writes i 0 vs.local (speaking i 1 vs.remote []) (sym e ∙ b.0), kept_writes i 1 vs.remote [] (sym f ∙ b.1)))
  where
    or_none : (x y : Bool) → (x || y) ≡ false → (x ≡ false) × (y ≡ false)
    or_none true y n = absurd (false≢true (sym n))
    or_none false y n = (refl, n)

spoken_first : (i : ℕ) (vs : Values) (ws : List Write) (t : List ℕ) → apply (spoken i vs ws) t ≡ apply ws (apply (spoken i vs []) t)
unfolding spoken
spoken_first i vs ws t =
    speaking_first i 0 vs.local (speaking i 1 vs.remote ws) t
    ∙ speaking_first i 1 vs.remote ws (apply (speaking i 0 vs.local []) t)
    ∙ ap (apply ws) (sym (speaking_first i 0 vs.local (speaking i 1 vs.remote []) t))

module _ (n i : ℕ) (t : List ℕ) (x : Bool) (e : x ≡ is_ephemeral n i) where
  pub forget_yes : (t₁ t₂ : List ℕ) → x ≡ true → t₁ ≡ apply (speaking i 0 Released []) t → t₂ ≡ apply (speaking i 1 Released []) t₁ → t₂ ≡ apply (forgetting n i []) t
  unfolding forgetting pick
  forget_yes t₁ t₂ h p q = rw (← e, h) (q ∙ rw p (sym (speaking_first i 0 Released (speaking i 1 Released []) t)))

  pub forget_no : x ≡ false → t ≡ apply (forgetting n i []) t
  unfolding forgetting apply pick
  forget_no h = rw (← e, h)

forgetting_first : (n i : ℕ) (ws : List Write) (t : List ℕ) → apply (forgetting n i ws) t ≡ apply ws (apply (forgetting n i []) t)
unfolding forgetting
forgetting_first n i ws t = by (is_ephemeral n i)
  where
    by : (b : Bool) → apply (pick b (speaking i 0 Released (speaking i 1 Released ws)) ws) t ≡ apply ws (apply (pick b (speaking i 0 Released (speaking i 1 Released [])) []) t)
    by true = unfold pick speaking side_writes apply in refl
    by false = unfold pick apply in refl

pub place_by_lem : (i c word : ℕ) (t t₁ t₂ : List ℕ) → t₁ ≡ store (write (ctx i) c) t → t₂ ≡ store (write (cell (prop i)) word) t₁ → t₂ ≡ apply (placed i c word) t
unfolding placed apply
place_by_lem i c word t t₁ t₂ e f = f ∙ rw e

one_is : ◌≡◌ {A = ℕ} 1 (pick true 1 0)
unfolding pick
one_is = refl

zero_is : ◌≡◌ {A = ℕ} 0 (pick false 1 0)
unfolding pick
zero_is = refl

-- the same, the write told in two ways
marked_first : (b : Bool) (w w' : Write) (ws : List Write) (t : List ℕ) → w ≡ w' → apply (pick b (w ∷ ws) ws) t ≡ apply ws (apply (pick b (w' ∷ []) []) t)
marked_first b w w' ws t e = first_write b w ws t ∙ ap (λ (x : Write). apply ws (apply (pick b (x ∷ []) []) t)) e

module _ (op : Op) (at : Context) (given i : ℕ) (vs : Values) (v : View) (t : List ℕ) where
  pub change_add : (t₁ t₂ t₃ t₄ : List ℕ) (c u w : ℕ) → op ≡ Add → t₁ ≡ apply (joining at given v []) t → t₂ ≡ apply (marking v.lines i (pick true 1 0) []) t₁
      → t₃ ≡ apply (spoken i vs []) t₂
      → c ≡ target at v → w ≡ added v.lines i v.word → u ≡ update vs w → t₄ ≡ apply (placed i c u) t₃ → t₄ ≡ apply (changes op at given i vs v) t
  unfolding changes joining marking
  change_add t₁ t₂ t₃ t₄ c u w o e m d f g h k =
      k ∙ rw (d, m, e, h, f, g, o)
      (sym (first_writes (is_choose at) _ _ _ _ t ∙ marked_first (is_ephemeral v.lines i) (write (cell (used i)) 1) (write (cell (used i)) (pick true 1 0)) _ _ as_written ∙ spoken_first i vs _ _))
    where
      as_written : write (cell (used i)) 1 ≡ write (cell (used i)) (pick true 1 0)
      as_written = ap (λ (n : ℕ). write (cell (used i)) n) one_is

  pub change_modify : (t₁ t₂ : List ℕ) (u : ℕ) → op ≡ Modify → t₁ ≡ apply (spoken i vs []) t → u ≡ update vs v.word → t₂ ≡ store (write (cell (prop i)) u) t₁
      → t₂ ≡ apply (changes op at given i vs v) t
  unfolding changes apply
  change_modify t₁ t₂ u o d h k = k ∙ rw (d, o, h) (sym (spoken_first i vs _ t))

  pub change_subtract : (t₁ t₂ t₃ t₄ : List ℕ) (w : ℕ) → op ≡ Subtract → t₁ ≡ apply (leaving v []) t → t₂ ≡ apply (marking v.lines i (pick false 1 0) []) t₁
      → t₃ ≡ apply (forgetting v.lines i []) t₂
      → w ≡ subtracted v.lines i v.word → t₄ ≡ apply (placed i 0 w) t₃ → t₄ ≡ apply (changes op at given i vs v) t
  unfolding changes leaving marking
  change_subtract t₁ t₂ t₃ t₄ w o e m d g k =
      k ∙ rw (d, m, e, g, o)
      (sym (first_writes _ _ _ _ _ t ∙ marked_first (is_ephemeral v.lines i) (write (cell (used i)) 0) (write (cell (used i)) (pick false 1 0)) _ _ as_written ∙ forgetting_first v.lines i _ _))
    where
      as_written : write (cell (used i)) 0 ≡ write (cell (used i)) (pick false 1 0)
      as_written = ap (λ (n : ℕ). write (cell (used i)) n) zero_is

  pub change_move : (t₁ t₂ t₃ t₄ : List ℕ) (c u : ℕ) → op ≡ Move → t₁ ≡ apply (leaving v []) t → t₂ ≡ apply (joining at given v []) t₁ → t₃ ≡ apply (spoken i vs []) t₂
      → c ≡ target at v → u ≡ update vs v.word → t₄ ≡ apply (placed i c u) t₃ → t₄ ≡ apply (changes op at given i vs v) t
  unfolding changes leaving joining
  change_move t₁ t₂ t₃ t₄ c u o e d g f h k =
      k ∙ rw (g, d, e, h, f, o) (sym (first_writes _ _ _ _ _ t ∙ first_writes (is_choose at) _ _ _ _ (apply (leaving v []) t) ∙ spoken_first i vs _ _))

  pub change_audit : op ≡ AuditValue → t ≡ apply (changes op at given i vs v) t
  unfolding changes apply
  change_audit o = rw o
