-- The figures after a packet, and blocks in the lent words: the laws of the code's returns.
use Rattle.std.proofs.Common.{◌≡◌, ℕ, zero, suc, ◌+◌, ◌-◌, ◌*◌, ◌/◌, ◌%◌, ◌^◌, ◌<◌, ◌≤◌, Bool, true, false, not, ◌&&◌, ◌||◌, eqb, ltb, leb, List, length, get_or, take, drop, set, min, sym, refl, ap, ◌∙◌, arith, get_or-drop, get_or-take, ltb-true, le-ltb, lt-ltb, eq-eqb, ne_eqb, leb-true}
use Rattle.base.specs.Pick.{pick}
use Rattle.base.specs.Lists.{every}
use Rattle.base.proofs.TestLaws.{clash, and_both}
use Rattle.sound.proofs.SpeechLaws.{none_at}
use Rattle.table.proofs.TableLaws.{read_past, store_past}
use Rattle.megaco.specs.Table.{line_terminations, is_ephemeral, ctx, get}
use Rattle.megaco.specs.Blocks.{block_words, block_at, with_block, no_packets, cleared, difference, size_of, jitter_after, one_more, most_jitter, updated, block_is_sound, sound_from, blocks_are_sound}
use Rattle.megaco.specs.Names.{within}
use Rattle.megaco.specs.Attempt.{renews}
use Rattle.megaco.specs.Command.{is_add}
use Rattle.megaco.specs.Call.{is_present}
use Rattle.megaco.specs.declared.Op.{Op}
use Rattle.megaco.specs.declared.Op.TheVariants.{Add, Modify, Subtract, Move, AuditValue}
use Rattle.megaco.specs.declared.Block.{Block}

-- ---- a packet

pub apart : (a b : ℕ) → b < 4294967296 → difference a b ≡ (a + (4294967296 - b)) % 4294967296
unfolding difference
apart a b h = let e : a + 4294967296 - b ≡ a + (4294967296 - b) = omega arith in rw e

pub one_more_held : (n : ℕ) → n < 4294967296 → one_more n ≡ min (n + 1) 4294967295
unfolding one_more pick
one_more_held n h = grind arith

pub size_small : (d : ℕ) → d < 2 ^ 31 → d ≡ size_of d
unfolding size_of pick
size_small d h = rw (lt-ltb d (2 ^ 31) h)

pub size_large : (d r : ℕ) → 2 ^ 31 ≤ d → r ≡ 2 ^ 32 - d → r ≡ size_of d
unfolding size_of pick
size_large d r h e = rw (le-ltb d (2 ^ 31) h) e

module _ (x : Block) (arrival stamp : ℕ) where
  pub stays : most_jitter < x.jitter → x ≡ updated x arrival stamp
  unfolding updated pick
  stays h = rw (lt-ltb most_jitter x.jitter h)

  pub first : (t : ℕ) → x.jitter ≤ most_jitter → t ≡ difference arrival stamp → x.packets ≡ 0 → record { packets = 1; transit = t; jitter = 0 } ≡ updated x arrival stamp
  unfolding updated pick
  first t h e z = rw (le-ltb most_jitter x.jitter h, z, e)

  pub next : (t a d j n : ℕ) → x.jitter ≤ most_jitter → t ≡ difference arrival stamp → (x.packets ≡ 0 → ⊥) → a ≡ difference t x.transit → d ≡ size_of a → j ≡ jitter_after x.jitter d → n ≡ one_more x.packets
      → record { packets = n; transit = t; jitter = j } ≡ updated x arrival stamp
  unfolding updated pick
  next t a d j n h e z f g k i = rw (le-ltb most_jitter x.jitter h, ne_eqb x.packets 0 z, ← e, ← f, ← g, ← k, ← i)

-- ---- blocks in the lent words

pub block_read : (k : ℕ) (b : List ℕ) (p t l h : ℕ) → p ≡ get_or b (4 * k) 0 → t ≡ get_or b (4 * k + 1) 0 → l ≡ get_or b (4 * k + 2) 0 → h ≡ get_or b (4 * k + 3) 0
    → record { packets = p; transit = t; jitter = l + 4294967296 * h } ≡ block_at k b
unfolding block_at
block_read k b p t l h e f g i = rw (e, f, g, i)

pub block_past : (k : ℕ) (b : List ℕ) → length b ≤ k → record { packets = 0; transit = 0; jitter = 0 } ≡ block_at k b
block_past k b h = block_read k b 0 0 0 0 (read_past b (4 * k) (omega arith)) (read_past b (4 * k + 1) (omega arith)) (read_past b (4 * k + 2) (omega arith)) (read_past b (4 * k + 3) (omega arith))

pub block_put : (k : ℕ) (x : Block) (b b₁ b₂ b₃ b₄ : List ℕ) → b₁ ≡ set b (4 * k) x.packets → b₂ ≡ set b₁ (4 * k + 1) x.transit → b₃ ≡ set b₂ (4 * k + 2) (x.jitter % 4294967296)
    → b₄ ≡ set b₃ (4 * k + 3) (x.jitter / 4294967296) → b₄ ≡ with_block k x b
unfolding with_block
block_put k x b b₁ b₂ b₃ b₄ e f g h = rw (h, g, f, e)

pub block_beyond : (k : ℕ) (x : Block) (b : List ℕ) → length b ≤ k → b ≡ with_block k x b
block_beyond k x b h = block_put k x b b b b b (store_past b (4 * k) _ (omega arith)) (store_past b (4 * k + 1) _ (omega arith)) (store_past b (4 * k + 2) _ (omega arith)) (store_past b (4 * k + 3) _ (omega arith))

pub packet_counted : (k arrival stamp : ℕ) (x y : Block) (b b' : List ℕ) → x ≡ block_at k b → y ≡ updated x arrival stamp → b' ≡ with_block k y b → b' ≡ with_block k (updated (block_at k b) arrival stamp) b
packet_counted k arrival stamp x y b b' p q r = rw (← p, ← q) r

-- ---- a new ephemeral

pub first_below : (a : Bool) (f i : ℕ) → (a && leb f i) ≡ true → f ≤ i
first_below a f i t = leb-true f i (and_both a (leb f i) t).1

module _ (op : Op) (n i f : ℕ) (b : List ℕ) (a : Bool) (f-is : f ≡ line_terminations n) (a-is : a ≡ is_add op) where
  pub renewed_one : (x : Block) (b' : List ℕ) → (a && leb f i) ≡ true → x ≡ no_packets → b' ≡ with_block (i - f) x b → b' ≡ cleared (renews op n i) b
  unfolding renews cleared is_ephemeral is_add pick
  renewed_one x b' t z e = by op (and_both a (leb f i) t).0 a-is
    where
      l : leb (line_terminations n) i ≡ true
      l = ap (λ (y : ℕ). leb y i) (sym f-is) ∙ (and_both a (leb f i) t).1

      by : (o : Op) → a ≡ true → a ≡ is_add o → b' ≡ cleared (renews o n i) b
      by Add p q = rw (l, ← f-is, ← z) e
      by Modify p q = absurd (clash (sym p ∙ q))
      by Subtract p q = absurd (clash (sym p ∙ q))
      by Move p q = absurd (clash (sym p ∙ q))
      by AuditValue p q = absurd (clash (sym p ∙ q))

  pub renewed_none : (a && leb f i) ≡ false → b ≡ cleared (renews op n i) b
  unfolding renews cleared is_ephemeral is_add pick
  renewed_none t = by op a-is
    where
      by : (o : Op) → a ≡ is_add o → b ≡ cleared (renews o n i) b
      by Add q = let l : leb (line_terminations n) i ≡ false = ap (λ (y : ℕ). leb y i) (sym f-is) ∙ (rw q at t) in rw l
      by Modify q = refl
      by Subtract q = refl
      by Move q = refl
      by AuditValue q = refl

-- ---- the ephemeral

pub above_none : (n most : ℕ) → (ltb 0 n && leb n most) ≡ true → 0 < n
above_none n most e = ltb-true 0 n (and_both (ltb 0 n) (leb n most) e).0

module _ (lines n : ℕ) (t : List ℕ) where
  pub is_there : (f i word : ℕ) → (ltb 0 n && leb n 64) ≡ true → f ≡ line_terminations lines → word ≡ get t (ctx (f + (n - 1))) → not (eqb word 0) ≡ is_present lines n t
  unfolding is_present within
  is_there f i word e g h = rw (e, h, g)

  pub not_one : (ltb 0 n && leb n 64) ≡ false → false ≡ is_present lines n t
  unfolding is_present within
  not_one e = rw e

-- ---- soundness

pub block_tested : (x : Block) → (leb x.jitter 34359738368 && (not (eqb x.packets 0) || (eqb x.transit 0 && eqb x.jitter 0))) ≡ block_is_sound x
unfolding block_is_sound pick
block_tested x = by (eqb x.packets 0) (eqb x.transit 0 && eqb x.jitter 0)
  where
    by : (p z : Bool) → (leb x.jitter 34359738368 && (not p || z)) ≡ (leb x.jitter most_jitter && pick p z true)
    by true z = refl
    by false z = refl

pub wrong_size : (b : List ℕ) → (length b ≡ 256 → ⊥) → false ≡ blocks_are_sound b
unfolding blocks_are_sound
wrong_size b h = rw (ne_eqb (length b) block_words h)

pub sound_begins : (b : List ℕ) → length b ≡ 256 → blocks_are_sound b ≡ sound_from (64 - 16 * 0) (16 * 0) b
unfolding blocks_are_sound
sound_begins b h = rw (eq-eqb (length b) block_words h)

-- n blocks from block k on, one by one
module _ (b : List ℕ) (n k i : ℕ) (q : Bool) (e : q ≡ sound_from (n - i) (k + i) b) where
  pub sound_on : (x : Block) (y : Bool) → i < n → x ≡ block_at (k + i) b → y ≡ block_is_sound x → y ≡ true → q ≡ sound_from (n - (i + 1)) (k + (i + 1)) b
  unfolding sound_from pick
  sound_on x y h f g t = let m : n - i ≡ suc (n - (i + 1)) = omega arith in let l : k + (i + 1) ≡ k + i + 1 = omega arith in e ∙ rw (m, ← f, ← g, t, l)

  pub sound_stops : (x : Block) (y : Bool) → i < n → x ≡ block_at (k + i) b → y ≡ block_is_sound x → y ≡ false → false ≡ q
  unfolding sound_from pick
  sound_stops x y h f g t = let m : n - i ≡ suc (n - (i + 1)) = omega arith in sym (e ∙ rw (m, ← f, ← g, t))

  pub sound_ends : n ≤ i → true ≡ q
  unfolding sound_from
  sound_ends h = let m : n - i ≡ 0 = omega arith in sym (e ∙ rw m)

pub sixteen_begins : (b : List ℕ) (k : ℕ) → sound_from 16 k b ≡ sound_from (16 - 0) (k + 0) b
sixteen_begins b k = let z : k + 0 ≡ k = omega arith in rw z

-- none of them has counted a packet
none_sound : block_is_sound no_packets ≡ true
unfolding block_is_sound pick
none_sound = refl

quiet_from : (n k : ℕ) (b : List ℕ) → ((j : ℕ) → j < 4 * n → get_or b (4 * k + j) 0 ≡ 0) → sound_from n k b ≡ true
unfolding sound_from pick
quiet_from zero k b z = refl
quiet_from (suc n) k b z =
    let a : 4 * k + 0 ≡ 4 * k = omega arith in
    let x : block_at k b ≡ no_packets =
    sym (block_read k b 0 0 0 0 (sym (rw a at (z 0 (omega arith)))) (sym (z 1 (omega arith))) (sym (z 2 (omega arith))) (sym (z 3 (omega arith)))) in
    rw (x, none_sound) (quiet_from n (k + 1) b (λ j h. let m : 4 * (k + 1) + j ≡ 4 * k + (4 + j) = omega arith in rw m (z (4 + j) (omega (arith, h)))))

-- some, and others
sound_both : (n m k : ℕ) (b : List ℕ) → sound_from (n + m) k b ≡ (sound_from n k b && sound_from m (k + n) b)
unfolding sound_from pick
sound_both zero m k b = let z : k + 0 ≡ k = omega arith in let y : 0 + m ≡ m = omega arith in rw (z, y)
sound_both (suc n) m k b = let z : suc n + m ≡ suc (n + m) = omega arith in rw z (by (sound_both n m (k + 1) b) (block_is_sound (block_at k b)))
  where
    by : sound_from (n + m) (k + 1) b ≡ (sound_from n (k + 1) b && sound_from m (k + 1 + n) b)
        → (t : Bool) → pick t (sound_from (n + m) (k + 1) b) false ≡ (pick t (sound_from n (k + 1) b) false && sound_from m (k + suc n) b)
    by e true = let l : k + suc n ≡ k + 1 + n = omega arith in rw l e
    by e false = refl

-- of eight blocks, whose words begin at a
eight_quiet : (b : List ℕ) (k a n : ℕ) (x : Bool) → a ≡ 4 * k → n ≡ 32 → x ≡ every (λ (w : ℕ). eqb w 0) (take n (drop a b)) → x ≡ true → sound_from 8 k b ≡ true
eight_quiet b k a n x p r e t = quiet_from 8 k b (λ j h.
    ap (λ (i : ℕ). get_or b (i + j) 0) (sym p) ∙ sym (get_or-drop a b j 0) ∙ sym (get_or-take n (drop a b) j 0 (omega (arith, h, r))) ∙ none_at (take n (drop a b)) (sym e ∙ t) j)

pub sixteen_quiet : (b : List ℕ) (k : ℕ) (x y : Bool) → x ≡ every (λ (w : ℕ). eqb w 0) (take (4 * k + 32 - 4 * k) (drop (4 * k) b))
    → y ≡ every (λ (w : ℕ). eqb w 0) (take (4 * k + 64 - (4 * k + 32)) (drop (4 * k + 32) b)) → (x && y) ≡ true → true ≡ sound_from 16 k b
sixteen_quiet b k x y e f t =
    let p = and_both x y t in
    sym (sound_both 8 8 k b ∙ rw (eight_quiet b k (4 * k) (4 * k + 32 - 4 * k) x refl (omega arith) e p.0, eight_quiet b (k + 8) (4 * k + 32) (4 * k + 64 - (4 * k + 32)) y (omega arith) (omega arith) f p.1))

module _ (b : List ℕ) (g : ℕ) (q : Bool) (e : q ≡ sound_from (64 - 16 * g) (16 * g) b) (y : Bool) (h : g < 4) (f : y ≡ sound_from 16 (16 * g) b) where
  split : q ≡ (y && sound_from (64 - 16 * (g + 1)) (16 * g + 16) b)
  split = let m : 64 - 16 * g ≡ 16 + (64 - 16 * (g + 1)) = omega (arith, h) in e ∙ rw (m, sound_both 16 (64 - 16 * (g + 1)) (16 * g) b, ← f)

  pub sixteen_on : y ≡ true → q ≡ sound_from (64 - 16 * (g + 1)) (16 * (g + 1)) b
  sixteen_on t = let l : 16 * (g + 1) ≡ 16 * g + 16 = omega arith in split ∙ rw (t, l)

  pub sixteen_stops : y ≡ false → false ≡ q
  sixteen_stops t = sym (split ∙ rw t)

pub sixteen_ends : (b : List ℕ) (g : ℕ) (q : Bool) → q ≡ sound_from (64 - 16 * g) (16 * g) b → 4 ≤ g → true ≡ q
unfolding sound_from
sixteen_ends b g q e h = let m : 64 - 16 * g ≡ 0 = omega arith in sym (e ∙ rw m)
