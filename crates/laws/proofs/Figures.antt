-- Blocks (document 02, CR 12): soundness as facts, and what messages do to them.
use Rattle.std.specs.Prelude.{Ok}
use Prim.Native.Nat.{ℕ, zero, suc, ◌+◌, ◌*◌, ◌-◌, ◌/◌, ◌%◌, ◌^◌, ◌≤◌, ◌<◌}
use mathlib.Core.Path.{◌≡◌, refl, sym, ap, ◌∙◌, subst}
use mathlib.Core.Logic.{◌≢◌, ◌⊎◌, inl, inr}
use mathlib.Core.Bool.{Bool, true, false, ◌&&◌}
use mathlib.Core.List.{List, [], ◌∷◌}
use lib.ListN.{length, get_or, set, replicate, length-set}
use lib.Seq.{get_or-set_same, get_or-set_other}
use lib.Dec.{leb, eqb}
use borrow.Author.Tests.{eqb-true, eqb-false, eq-eqb, leb-true, le-leb, not-false}
use native.Mathlib.Omega.{arith}
use Rattle.base.specs.Pick.{pick}
use Rattle.base.proofs.TestLaws.{clash, and_both, both_and, pick_of}
use Rattle.protocol.specs.Types.{Context, Op, Add, Modify, Subtract, Move, AuditValue, Checked, View, Values}
use Rattle.megaco.specs.Table.{ephemerals, line_terminations, fitted, is_ephemeral}
use Rattle.megaco.specs.Blocks.{block_words, block_at, with_block, no_packets, cleared, most_jitter, block_is_sound, sound_from, blocks_are_sound}
use Rattle.megaco.specs.State.{State, wrote, renewed}
use Rattle.megaco.specs.Names.{name_of}
use Rattle.megaco.specs.Attempt.{checks, renews, look, Effect, concluded, effect}
use Rattle.megaco.specs.Command.{is_add, attempts, command_error, Targets, no_target, gateway, targets, targets_of, run_targets}
use Rattle.megaco.specs.Room.{Room}
use Rattle.megaco.specs.Call.{call}
use Rattle.megaco.specs.declared.Block.{Block}
use Rattle.laws.specs.Passed.{Passed}
use Rattle.laws.specs.Figures.{SoundBlock, SoundBlocks, Attempt, attempted, OneAttempt, Reached, here, tried, began}
use Rattle.laws.proofs.Passed.{judged}
use Rattle.laws.proofs.Runs.{Keeps, call_keeps}

-- ---- one block among the words

-- the words as they are set, one after another
module _ (k : ℕ) (x : Block) (b : List ℕ) where
  abbrev w₁ : List ℕ
  w₁ = set b (4 * k) x.packets

  abbrev w₂ : List ℕ
  w₂ = set w₁ (4 * k + 1) x.transit

  abbrev w₃ : List ℕ
  w₃ = set w₂ (4 * k + 2) (x.jitter % 2 ^ 32)

  abbrev w₄ : List ℕ
  w₄ = set w₃ (4 * k + 3) (x.jitter / 2 ^ 32)

  word_other : (j : ℕ) → j ≢ 4 * k → j ≢ 4 * k + 1 → j ≢ 4 * k + 2 → j ≢ 4 * k + 3 → get_or (with_block k x b) j 0 ≡ get_or b j 0
  unfolding with_block
  word_other j p q r s =
      get_or-set_other w₃ (4 * k + 3) j (x.jitter / 2 ^ 32) 0 s ∙ get_or-set_other w₂ (4 * k + 2) j (x.jitter % 2 ^ 32) 0 r ∙ get_or-set_other w₁ (4 * k + 1) j x.transit 0 q ∙ get_or-set_other b (4 * k) j x.packets 0 p

  pub length_block : length (with_block k x b) ≡ length b
  unfolding with_block
  length_block = length-set w₃ (4 * k + 3) (x.jitter / 2 ^ 32) ∙ length-set w₂ (4 * k + 2) (x.jitter % 2 ^ 32) ∙ length-set w₁ (4 * k + 1) x.transit ∙ length-set b (4 * k) x.packets

pub block_other : (k : ℕ) (x : Block) (b : List ℕ) (j : ℕ) → j ≢ k → block_at j (with_block k x b) ≡ block_at j b
unfolding block_at
block_other k x b j h =
    let p = word_other k x b (4 * j) (λ e. h (omega arith)) (λ e. h (omega arith)) (λ e. h (omega arith)) (λ e. h (omega arith)) in
    let t = word_other k x b (4 * j + 1) (λ e. h (omega arith)) (λ e. h (omega arith)) (λ e. h (omega arith)) (λ e. h (omega arith)) in
    let l = word_other k x b (4 * j + 2) (λ e. h (omega arith)) (λ e. h (omega arith)) (λ e. h (omega arith)) (λ e. h (omega arith)) in
    let u = word_other k x b (4 * j + 3) (λ e. h (omega arith)) (λ e. h (omega arith)) (λ e. h (omega arith)) (λ e. h (omega arith)) in
    λ i. record { packets = p i; transit = t i; jitter = l i + 2 ^ 32 * u i }

halves : (j : ℕ) → j % 2 ^ 32 + 2 ^ 32 * (j / 2 ^ 32) ≡ j
halves j = omega arith

pub block_same : (k : ℕ) (x : Block) (b : List ℕ) → 4 * k + 3 < length b → block_at k (with_block k x b) ≡ x
unfolding block_at with_block
block_same k x b h =
    let b₁ = set b (4 * k) x.packets in
    let b₂ = set b₁ (4 * k + 1) x.transit in
    let b₃ = set b₂ (4 * k + 2) (x.jitter % 2 ^ 32) in
    let l₁ : length b₁ ≡ length b = length-set b _ _ in
    let l₂ : length b₂ ≡ length b₁ = length-set b₁ _ _ in
    let l₃ : length b₃ ≡ length b₂ = length-set b₂ _ _ in
    let p = get_or-set_other b₃ (4 * k + 3) (4 * k) (x.jitter / 2 ^ 32) 0 (λ e. omega arith) ∙ get_or-set_other b₂ (4 * k + 2) (4 * k) (x.jitter % 2 ^ 32) 0 (λ e. omega arith) ∙ get_or-set_other b₁ (4 * k + 1) (4 * k) x.transit 0 (λ e. omega arith) ∙ get_or-set_same b (4 * k) x.packets 0 (omega arith) in
    let t = get_or-set_other b₃ (4 * k + 3) (4 * k + 1) (x.jitter / 2 ^ 32) 0 (λ e. omega arith) ∙ get_or-set_other b₂ (4 * k + 2) (4 * k + 1) (x.jitter % 2 ^ 32) 0 (λ e. omega arith) ∙ get_or-set_same b₁ (4 * k + 1) x.transit 0 (omega (arith, l₁)) in
    let l = get_or-set_other b₃ (4 * k + 3) (4 * k + 2) (x.jitter / 2 ^ 32) 0 (λ e. omega arith) ∙ get_or-set_same b₂ (4 * k + 2) (x.jitter % 2 ^ 32) 0 (omega (arith, l₁, l₂)) in
    let u = get_or-set_same b₃ (4 * k + 3) (x.jitter / 2 ^ 32) 0 (omega (arith, l₁, l₂, l₃)) in
    (λ i. record { packets = p i; transit = t i; jitter = l i + 2 ^ 32 * u i }) ∙ (λ i. record { packets = x.packets; transit = x.transit; jitter = halves x.jitter i })

-- ---- soundness as facts

block_facts : (x : Block) → block_is_sound x ≡ true → SoundBlock x
unfolding block_is_sound pick
block_facts x e = record { low = leb-true x.jitter most_jitter a.0; zero = λ z. empty z (rw (eq-eqb x.packets 0 z) at a.1) }
  where
    a : (leb x.jitter most_jitter ≡ true) × (pick (eqb x.packets 0) (eqb x.transit 0 && eqb x.jitter 0) true ≡ true)
    a = and_both (leb x.jitter most_jitter) _ e

    empty : x.packets ≡ 0 → (eqb x.transit 0 && eqb x.jitter 0) ≡ true → x ≡ no_packets
    empty z w =
        let b = and_both (eqb x.transit 0) (eqb x.jitter 0) w in
        let t : x.transit ≡ 0 = eqb-true x.transit 0 b.0 in
        let j : x.jitter ≡ 0 = eqb-true x.jitter 0 b.1 in
        λ i. record { packets = z i; transit = t i; jitter = j i }

facts_block : (x : Block) → SoundBlock x → block_is_sound x ≡ true
unfolding block_is_sound
facts_block x s = both_and (leb x.jitter most_jitter) _ (le-leb x.jitter most_jitter s.low) (pick_of (λ (b : Bool). b ≡ true) (eqb x.packets 0)
    (λ e. let z : x ≡ no_packets = s.zero (eqb-true x.packets 0 e) in both_and (eqb x.transit 0) (eqb x.jitter 0) (ap (λ (y : Block). eqb y.transit 0) z) (ap (λ (y : Block). eqb y.jitter 0) z)) (λ _. refl))

both_picked : (t r : Bool) → pick t r false ≡ true → (t ≡ true) × (r ≡ true)
unfolding pick
both_picked true r e = (refl, e)
both_picked false r e = absurd (clash (sym e))

picked_both : (t r : Bool) → t ≡ true → r ≡ true → pick t r false ≡ true
unfolding pick
picked_both t r e f = rw (e, f)

from_facts : (n k : ℕ) (b : List ℕ) → sound_from n k b ≡ true → (j : ℕ) → k ≤ j → j < k + n → SoundBlock (block_at j b)
unfolding sound_from
from_facts zero k b e j p q = absurd (omega arith)
from_facts (suc n) k b e j p q = by (both_picked (block_is_sound (block_at k b)) (sound_from n (k + 1) b) e) (λ f h. from_facts n (k + 1) b f j h (omega arith)) (eqb j k) refl
  where
    by : (block_is_sound (block_at k b) ≡ true) × (sound_from n (k + 1) b ≡ true) → (sound_from n (k + 1) b ≡ true → k + 1 ≤ j → SoundBlock (block_at j b)) → (t : Bool) → eqb j k ≡ t → SoundBlock (block_at j b)
    by a g true f = subst (λ (i : ℕ). SoundBlock (block_at i b)) (sym (eqb-true j k f)) (block_facts (block_at k b) a.0)
    by a g false f = g a.1 (omega (arith, eqb-false j k f))

facts_from : (n k : ℕ) (b : List ℕ) → ((j : ℕ) → k ≤ j → j < k + n → SoundBlock (block_at j b)) → sound_from n k b ≡ true
unfolding sound_from
facts_from zero k b f = refl
facts_from (suc n) k b f = picked_both _ _ (facts_block (block_at k b) (f k (omega arith) (omega arith))) (facts_from n (k + 1) b (λ j p q. f j (omega arith) (omega arith)))

pub sound_blocks : (b : List ℕ) → blocks_are_sound b ≡ true → SoundBlocks b
unfolding blocks_are_sound
sound_blocks b e =
    let a = and_both (eqb (length b) block_words) (sound_from ephemerals 0 b) e in
    record { long = eqb-true (length b) block_words a.0; each = λ k h. from_facts ephemerals 0 b a.1 k (omega arith) (omega arith) }

pub blocks_sound : (b : List ℕ) → SoundBlocks b → blocks_are_sound b ≡ true
unfolding blocks_are_sound
blocks_sound b s = both_and (eqb (length b) block_words) _ (eq-eqb (length b) block_words s.long) (facts_from ephemerals 0 b (λ j p q. s.each j (omega arith)))

pub none_sound : SoundBlock no_packets
none_sound = record { low = omega arith; zero = λ _. refl }

pub fresh_blocks : blocks_are_sound (replicate block_words 0) ≡ true
unfolding blocks_are_sound sound_from block_is_sound block_at pick
fresh_blocks = refl

-- ---- messages

-- the blocks b come from the blocks a: each is as it was, or zero
pub record From (a b : List ℕ) : Type 0 where
  pub long : length b ≡ length a
  pub each : length a ≡ block_words → (k : ℕ) → k < ephemerals → (block_at k b ≡ block_at k a) ⊎ (block_at k b ≡ no_packets)

from_here : (a : List ℕ) → From a a
from_here a = record { long = refl; each = λ _ k _. inl refl }

one_cleared : (a b : List ℕ) (j : ℕ) → From a b → From a (with_block j no_packets b)
one_cleared a b j f = record { long = length_block j no_packets b ∙ f.long; each = λ l k h. by l k h (eqb k j) refl }
  where
    by : length a ≡ block_words → (k : ℕ) → k < ephemerals → (t : Bool) → eqb k j ≡ t
        → (block_at k (with_block j no_packets b) ≡ block_at k a) ⊎ (block_at k (with_block j no_packets b) ≡ no_packets)
    by l k h true e =
        let q : k ≡ j = eqb-true k j e in
        inr (ap (λ (i : ℕ). block_at i (with_block j no_packets b)) q ∙ block_same j no_packets b (omega (arith, q, h, l, f.long)))
    by l k h false e = with_other (block_other j no_packets b k (eqb-false k j e)) (f.each l k h)
      where
        with_other : block_at k (with_block j no_packets b) ≡ block_at k b → (block_at k b ≡ block_at k a) ⊎ (block_at k b ≡ no_packets)
            → (block_at k (with_block j no_packets b) ≡ block_at k a) ⊎ (block_at k (with_block j no_packets b) ≡ no_packets)
        with_other p (inl q) = inl (p ∙ q)
        with_other p (inr q) = inr (p ∙ q)

from_cleared : (ks a b : List ℕ) → From a b → From a (cleared ks b)
unfolding cleared
from_cleared [] a b f = f
from_cleared (k ∷ ks) a b f = from_cleared ks a (with_block k no_packets b) (one_cleared a b k f)

attempts_from : (a : List ℕ) (op : Op) (wild : Bool) (name : List ℕ) (given : ℕ) (vs : Values) (is : List ℕ) (at : Context) (st : State)
    → From a st.blocks → From a (attempts op wild name given vs is at st).state.blocks
unfolding attempts
attempts_from a op wild name given vs [] at st f = f
attempts_from a op wild name given vs (i ∷ is) at st f =
    let e : Effect = effect op wild name given vs i at (look at i st.table) (block_at (i - line_terminations (fitted st.table)) st.blocks) in
    attempts_from a op wild name given vs is e.at (renewed e.blocks (wrote e.writes st)) (from_cleared e.blocks a st.blocks f)

targets_from : (a : List ℕ) (op : Op) (name : List ℕ) (given : ℕ) (vs : Values) (x : Targets) (at : Context) (st : State) → From a st.blocks → From a (run_targets op name given vs x at st).state.blocks
unfolding run_targets command_error
targets_from a op name given vs (no_target code) at st f = f
targets_from a op name given vs gateway at st f = f
targets_from a op name given vs (targets wild is) at st f = attempts_from a op wild name given vs is at st f

from_kept : (a : List ℕ) → Keeps (λ st. From a st.blocks) (λ _. Unit {0})
from_kept a =
    record {
      orders = λ op name given vs items at st f _ _ _ _. targets_from a op name given vs (targets_of op at items (name_of (fitted st.table) name) st.table) at st f;
      starts = λ c ps alone st f. f;
      gives = λ c ps alone there links. tt;
    }

call_from : (n : ℕ) (m : List ℕ) (st : State) (r : Room) (own o : List ℕ) → From st.blocks (call n m st r own o).state.blocks
call_from n m st r own o = call_keeps (λ u. From st.blocks u.blocks) (λ _. Unit {0}) (from_kept st.blocks) n m st r own o (from_here st.blocks)

pub call_length_blocks : (n : ℕ) (m : List ℕ) (st : State) (r : Room) (own o : List ℕ) → length (call n m st r own o).state.blocks ≡ length st.blocks
call_length_blocks n m st r own o = (call_from n m st r own o).long

pub call_otherwise : (n : ℕ) (m : List ℕ) (st : State) (r : Room) (own o : List ℕ) (k : ℕ) → length st.blocks ≡ block_words → k < ephemerals
    → (block_at k (call n m st r own o).state.blocks ≡ block_at k st.blocks) ⊎ (block_at k (call n m st r own o).state.blocks ≡ no_packets)
call_otherwise n m st r own o k l h = (call_from n m st r own o).each l k h

pub call_blocks_sound : (n : ℕ) (m : List ℕ) (st : State) (r : Room) (own o : List ℕ) → blocks_are_sound st.blocks ≡ true → blocks_are_sound (call n m st r own o).state.blocks ≡ true
call_blocks_sound n m st r own o e =
    let s = sound_blocks st.blocks e in
    blocks_sound _ (record { long = call_length_blocks n m st r own o ∙ s.long; each = λ k h. by k (s.each k h) (call_otherwise n m st r own o k s.long h) })
  where
    by : (k : ℕ) → SoundBlock (block_at k st.blocks) → (block_at k (call n m st r own o).state.blocks ≡ block_at k st.blocks) ⊎ (block_at k (call n m st r own o).state.blocks ≡ no_packets)
        → SoundBlock (block_at k (call n m st r own o).state.blocks)
    by k s (inl p) = subst SoundBlock (sym p) s
    by k s (inr p) = subst SoundBlock (sym p) none_sound

-- ---- one attempt

-- what an effect does to block k
record Leaves (op : Op) (i : ℕ) (v : View) (b : List ℕ) (k : ℕ) (e : Effect) : Type 0 where
  absent : (op ≡ Add) × (i ≡ line_terminations v.lines + k) × ((e.good && true) ≡ true) → v.here ≡ 0
  zeroed : (op ≡ Add) × (i ≡ line_terminations v.lines + k) × ((e.good && true) ≡ true) → block_at k (cleared e.blocks b) ≡ no_packets
  stays : ¬ ((op ≡ Add) × (i ≡ line_terminations v.lines + k) × ((e.good && true) ≡ true)) → block_at k (cleared e.blocks b) ≡ block_at k b

module _ (i : ℕ) (v : View) (b : List ℕ) (k : ℕ) (l : length b ≡ block_words) (h : k < ephemerals) where
  abbrev first : ℕ
  first = line_terminations v.lines

  cleared_one : (t : Bool) → leb first i ≡ t
      → (i ≡ first + k → block_at k (cleared (pick t ((i - first) ∷ []) []) b) ≡ no_packets) × (¬ (i ≡ first + k) → block_at k (cleared (pick t ((i - first) ∷ []) []) b) ≡ block_at k b)
  unfolding cleared pick
  cleared_one true e =
      let f = leb-true first i e in (
        λ q. let p : i - first ≡ k = omega (arith, q) in ap (λ (j : ℕ). block_at k (with_block j no_packets b)) p ∙ block_same k no_packets b (omega (arith, l, h)),
        λ q. block_other (i - first) no_packets b k (λ p. q (omega (arith, p, f))),
      )
  cleared_one false e = (λ q. absurd (clash (sym (le-leb first i (omega (arith, q))) ∙ e)), λ q. refl)

  effect_leaves : (op : Op) (wild : Bool) (name : List ℕ) (given : ℕ) (vs : Values) (at : Context) (x : Block) → Leaves op i v b k (effect op wild name given vs i at v x)
  unfolding effect concluded renews is_add checks is_ephemeral cleared
  effect_leaves op wild name given vs at x =
      judged (λ (c : Checked). Leaves op i v b k (concluded op wild name given vs i at v x c)) (checks op at i vs v)
      (λ code. record { absent = λ q. absurd (clash (sym q.2)); zeroed = λ q. absurd (clash (sym q.2)); stays = λ _. refl }) (passed op)
    where
      none : (o : Op) (e : Effect) → is_add o ≡ false → e.blocks ≡ [] → Leaves o i v b k e
      none o e n r =
          record { absent = λ q. absurd (clash (sym (ap is_add q.0) ∙ n)); zeroed = λ q. absurd (clash (sym (ap is_add q.0) ∙ n)); stays = λ _. ap (λ (ks : List ℕ). block_at k (cleared ks b)) r }

      passed : (o : Op) → Passed (checks o at i vs v) → Leaves o i v b k (concluded o wild name given vs i at v x (Ok tt))
      passed Add p =
          let c = cleared_one (leb first i) refl in
          record { absent = λ _. eqb-true v.here 0 (not-false (eqb v.here 0) (search)); zeroed = λ q. c.0 q.1; stays = λ q. c.1 (λ e. q (refl, e, refl)) }
      passed Modify p = none Modify _ refl refl
      passed Subtract p = none Subtract _ refl refl
      passed Move p = none Move _ refl refl
      passed AuditValue p = none AuditValue _ refl refl

pub one_attempt : (a : Attempt) (st : State) (k : ℕ) → length st.blocks ≡ block_words → k < ephemerals → OneAttempt a st k
unfolding attempts look
one_attempt a st k l h =
    let v = look a.at a.number st.table in
    let x = block_at (a.number - line_terminations (fitted st.table)) st.blocks in
    let e = effect_leaves a.number v st.blocks k l h a.op a.wild a.name a.given a.values a.at x in
    record { absent = e.absent; zeroed = e.zeroed; stays = e.stays }

pub attempt_length : (a : Attempt) (st : State) → length (attempted a st).state.blocks ≡ length st.blocks
attempt_length a st = (attempts_from st.blocks a.op a.wild a.name a.given a.values (a.number ∷ []) a.at st (from_here st.blocks)).long

-- ---- a call is attempts, and actions' starts

attempts_reached : (st : State) (op : Op) (wild : Bool) (name : List ℕ) (given : ℕ) (vs : Values) (is : List ℕ) (at : Context) (u : State) → Reached st u → Reached st (attempts op wild name given vs is at u).state
unfolding attempts
attempts_reached st op wild name given vs [] at u r = r
attempts_reached st op wild name given vs (i ∷ is) at u r =
    let e : Effect = effect op wild name given vs i at (look at i u.table) (block_at (i - line_terminations (fitted u.table)) u.blocks) in
    attempts_reached st op wild name given vs is e.at (renewed e.blocks (wrote e.writes u))
    (tried r (record { op = op; wild = wild; name = name; given = given; values = vs; number = i; at = at }))

targets_reached : (st : State) (op : Op) (name : List ℕ) (given : ℕ) (vs : Values) (x : Targets) (at : Context) (u : State) → Reached st u → Reached st (run_targets op name given vs x at u).state
unfolding run_targets command_error
targets_reached st op name given vs (no_target code) at u r = r
targets_reached st op name given vs gateway at u r = r
targets_reached st op name given vs (targets wild is) at u r = attempts_reached st op wild name given vs is at u r

reached_kept : (st : State) → Keeps (Reached st) (λ _. Unit {0})
reached_kept st =
    record {
      orders = λ op name given vs items at u r _ _ _ _. targets_reached st op name given vs (targets_of op at items (name_of (fitted u.table) name) u.table) at u r;
      starts = λ c ps alone u r. began r _;
      gives = λ c ps alone there links. tt;
    }

pub call_reached : (n : ℕ) (m : List ℕ) (st : State) (r : Room) (own o : List ℕ) → Reached st (call n m st r own o).state
call_reached n m st r own o = call_keeps (Reached st) (λ _. Unit {0}) (reached_kept st) n m st r own o here
