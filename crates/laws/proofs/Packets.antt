-- Packets (document 02, CR 12): the figures of a row of packets, how far J goes, which packets are turned down, and what Subtract reports.
use Prim.Native.Nat.{ℕ, suc, ◌+◌, ◌-◌, ◌/◌, ◌^◌, ◌≤◌, ◌<◌, min}
use mathlib.Core.Path.{◌≡◌, refl, sym, ap, ◌∙◌, subst}
use mathlib.Core.Logic.{◌≢◌, ◌↔◌}
use mathlib.Core.Bool.{Bool, true, false, not, ◌&&◌}
use mathlib.Core.List.{List, [], ◌∷◌, ◌++◌}
use lib.ListN.{length}
use lib.Dec.{ltb, leb, eqb}
use borrow.Author.Tests.{eqb-true, eqb-false, eq-eqb, ne_eqb, ltb-true, ltb-false, lt-ltb, le-ltb, leb-true, le-leb, not-false}
use native.Mathlib.Omega.{arith}
use Rattle.base.specs.Pick.{pick}
use Rattle.base.proofs.PickLaws.{pick_ind}
use Rattle.base.proofs.TestLaws.{clash, and_both, both_and, pick_of}
use Rattle.protocol.specs.Types.{Context, Op, Subtract, Checked, View, Values}
use Rattle.megaco.specs.Table.{most_lines, ephemerals, line_terminations, fitted, is_ephemeral, words, ctx, get, sound}
use Rattle.megaco.specs.Blocks.{block_words, block_at, with_block, no_packets, difference, size_of, jitter_after, one_more, most_jitter, updated, reported, blocks_are_sound}
use Rattle.megaco.specs.State.{State}
use Rattle.megaco.specs.Names.{within, name_text}
use Rattle.megaco.specs.Reply.{Report, statistics, done}
use Rattle.megaco.specs.Attempt.{checks, look, told_of, concluded, effect}
use Rattle.megaco.specs.Command.{attempts}
use Rattle.megaco.specs.Call.{state_fits, Received, received, is_present, packet}
use Rattle.megaco.specs.declared.Block.{Block}
use Rattle.laws.specs.Figures.{SoundBlock, SoundBlocks, Attempt, attempted, Meets}
use Rattle.laws.specs.Packets.{Packet, transit_of, jitter_from, jitter_of, counted, FiguresOf, Saw, added, its, another, tried, began, LinesFit, StateFits, Present, PacketRefusal, lines_unfit, state_unfit, not_present, all_fit, Updates}
use Rattle.laws.proofs.Passed.{judged}
use Rattle.laws.proofs.Meant.{within_both}
use Rattle.laws.proofs.Figures.{length_block, block_other, block_same, sound_blocks, blocks_sound, one_attempt, attempt_length}

-- ---- which packets are turned down

-- a test that is up exactly when something does not hold
abbrev pub Tests : Bool → Type 0 → Type 0
Tests b G = b ≡ false ↔ G

pub unfit : {b : Bool} {G : Type 0} → Tests b G → b ≡ true → ¬ G
unfit q e g = clash (sym e ∙ q.1 g)

pub raised : (b : Bool) {G : Type 0} → Tests b G → ¬ G → b ≡ true
raised true q h = refl
raised false q h = absurd (h (q.0 refl))

pub not_up : (b : Bool) → b ≡ true → not b ≡ false
not_up b e = rw e

pub lines_test : (n : ℕ) → Tests (not (within n most_lines)) (LinesFit n)
unfolding within
lines_test n = (
  λ e. let b = and_both (ltb 0 n) (leb n 16) (not-false _ e) in (omega (arith, ltb-true 0 n b.0), leb-true n 16 b.1),
  λ h. not_up _ (both_and (ltb 0 n) (leb n 16) (lt-ltb 0 n (omega (arith, h.0))) (le-leb n 16 h.1)),
)

pub state_test : (n : ℕ) (st : State) → Tests (not (state_fits n st)) (StateFits n st)
unfolding state_fits
state_test n st = (
  λ e. let a = and_both (eqb (length st.table) (words n) && sound st.table) (blocks_are_sound st.blocks) (not-false _ e) in
      let b = and_both (eqb (length st.table) (words n)) (sound st.table) a.0 in (eqb-true (length st.table) (words n) b.0, b.1, a.1),
  λ h. not_up _ (both_and (eqb (length st.table) (words n) && sound st.table) (blocks_are_sound st.blocks) (both_and (eqb (length st.table) (words n)) (sound st.table) (eq-eqb (length st.table) (words n) h.0) h.1) h.2),
)

present_test : (n k : ℕ) (t : List ℕ) → Tests (not (is_present n k t)) (Present n k t)
unfolding is_present within
present_test n k t = (
  λ e. let a = and_both (ltb 0 k && leb k 64) (not (eqb word 0)) (not-false _ e) in
      let b = and_both (ltb 0 k) (leb k 64) a.0 in
      (omega (arith, ltb-true 0 k b.0), leb-true k 64 b.1, λ z. clash (sym a.1 ∙ ap not (eq-eqb word 0 z))),
  λ h. not_up _ (both_and (ltb 0 k && leb k 64) (not (eqb word 0)) (both_and (ltb 0 k) (leb k 64) (lt-ltb 0 k (omega (arith, h.0))) (le-leb k 64 h.1)) (ap not (ne_eqb word 0 h.2))),
)
  where
    word : ℕ
    word = get t (ctx (line_terminations n + (k - 1)))

module _ (n : ℕ) (st : State) (k arrival stamp : ℕ) where
  packet_refusal : PacketRefusal n st k (packet n st k arrival stamp).refusal
  unfolding packet
  packet_refusal =
      let P : Received → Type 0 = λ c. PacketRefusal n st k c.refusal in
      pick_ind P _ _ _ (λ z. lines_unfit (unfit (lines_test n) z)) λ e.
      let a = (lines_test n).0 e in
      pick_ind P _ _ _ (λ z. state_unfit a (unfit (state_test n st) z)) λ f.
      let b = (state_test n st).0 f in
      pick_ind P _ _ _ (λ z. not_present a b (unfit (present_test n k st.table) z)) λ g.
      all_fit a b ((present_test n k st.table).0 g)

  refusal_packet : (c : ℕ) → PacketRefusal n st k c → (packet n st k arrival stamp).refusal ≡ c
  unfolding packet pick
  refusal_packet c (lines_unfit h) = rw (raised _ (lines_test n) h)
  refusal_packet c (state_unfit a h) = rw ((lines_test n).1 a, raised _ (state_test n st) h)
  refusal_packet c (not_present a b h) = rw ((lines_test n).1 a, (state_test n st).1 b, raised _ (present_test n k st.table) h)
  refusal_packet c (all_fit a b h) = rw ((lines_test n).1 a, (state_test n st).1 b, (present_test n k st.table).1 h)

  pub packet_number : (c : ℕ) → (packet n st k arrival stamp).refusal ≡ c ↔ PacketRefusal n st k c
  packet_number c = (λ e. subst (PacketRefusal n st k) e packet_refusal, refusal_packet c)

-- ---- a packet

size_most : (d : ℕ) → d < 2 ^ 32 → size_of d ≤ 2 ^ 31
unfolding size_of
size_most d h = pick_ind (λ (n : ℕ). n ≤ 2 ^ 31) (ltb d (2 ^ 31)) d (2 ^ 32 - d) (λ t. let k = ltb-true d (2 ^ 31) t in omega arith) (λ t. let k = ltb-false d (2 ^ 31) t in omega arith)

below : (a b : ℕ) → difference a b < 2 ^ 32
unfolding difference
below a b = omega arith

after_most : (j d : ℕ) → j ≤ 2 ^ 35 → d ≤ 2 ^ 31 → jitter_after j d ≤ 2 ^ 35
unfolding jitter_after
after_most j d h k = omega arith

-- one step
pub bounded : (x : Block) (arrival stamp : ℕ) → x.jitter ≤ most_jitter → (updated x arrival stamp).jitter ≤ most_jitter
unfolding updated
bounded x arrival stamp h =
    pick_of (λ (y : Block). y.jitter ≤ most_jitter) (ltb most_jitter x.jitter) (λ _. h) (λ _. pick_of (λ (y : Block). y.jitter ≤ most_jitter) (eqb x.packets 0) (λ _. omega arith)
    (λ _. after_most x.jitter (size_of (difference (difference arrival stamp) x.transit)) h (size_most _ (below (difference arrival stamp) x.transit))))

more_than_none : (n : ℕ) → one_more n ≢ 0
unfolding one_more
more_than_none n = pick_ind (λ (m : ℕ). m ≢ 0) (ltb n 4294967295) (n + 1) n (λ _ e. omega arith) (λ t e. let k = ltb-false n 4294967295 t in omega arith)

some_packets : (x : Block) (arrival stamp : ℕ) → SoundBlock x → (updated x arrival stamp).packets ≡ 0 → ⊥
unfolding updated
some_packets x arrival stamp s =
    pick_of (λ (y : Block). y.packets ≡ 0 → ⊥) (ltb most_jitter x.jitter) (λ t _. let k = ltb-true most_jitter x.jitter t in absurd (omega (arith, s.low)))
    (λ _. pick_of (λ (y : Block). y.packets ≡ 0 → ⊥) (eqb x.packets 0) (λ _ e. omega arith) (λ _ e. more_than_none x.packets e))

update_sound : (x : Block) (arrival stamp : ℕ) → SoundBlock x → SoundBlock (updated x arrival stamp)
update_sound x arrival stamp s = record { low = bounded x arrival stamp s.low; zero = λ e. absurd (some_packets x arrival stamp s e) }

present_one : (n k : ℕ) (t : List ℕ) → is_present n k t ≡ true → (1 ≤ k) × (k ≤ ephemerals)
unfolding is_present
present_one n k t e = let b = within_both k ephemerals (and_both (within k ephemerals) _ e).0 in (omega arith, b.1)

-- what holds of a packet that is turned down, and of one that is taken, holds of every one
packet_ind : (P : Received → Type 0) (n : ℕ) (st : State) (k arrival stamp : ℕ) → ((r : ℕ) → 0 < r → P (received r st.blocks))
    → (SoundBlocks st.blocks → (1 ≤ k) × (k ≤ ephemerals) → P (received 0 (with_block (k - 1) (updated (block_at (k - 1) st.blocks) arrival stamp) st.blocks))) → P (packet n st k arrival stamp)
unfolding packet state_fits
packet_ind P n st k arrival stamp down up =
    pick_ind P _ _ _ (λ e. down 8 (omega arith)) λ a.
    pick_ind P _ _ _ (λ e. down 2 (omega arith)) λ b.
    pick_ind P _ _ _ (λ e. down 9 (omega arith)) λ c.
    up (sound_blocks st.blocks (and_both (eqb (length st.table) (words n) && sound st.table) (blocks_are_sound st.blocks) (not-false (state_fits n st) b)).1) (present_one n k st.table (not-false _ c))

pub packet_down : (n : ℕ) (st : State) (k arrival stamp : ℕ) → (packet n st k arrival stamp).refusal ≢ 0 → (packet n st k arrival stamp).blocks ≡ st.blocks
packet_down n st k arrival stamp = packet_ind (λ x. x.refusal ≢ 0 → x.blocks ≡ st.blocks) n st k arrival stamp (λ r p h. refl) (λ s b h. absurd (h refl))

pub packet_taken : (n : ℕ) (st : State) (k arrival stamp : ℕ) → (packet n st k arrival stamp).refusal ≡ 0 → Updates st.blocks (packet n st k arrival stamp).blocks k arrival stamp
packet_taken n st k arrival stamp =
    packet_ind (λ x. x.refusal ≡ 0 → Updates st.blocks x.blocks k arrival stamp) n st k arrival stamp (λ r p h. absurd (omega arith))
    (λ s b h. record { one = b; this = block_same (k - 1) _ st.blocks (omega (arith, s.long, b.0, b.1)); others = λ j g. block_other (k - 1) _ st.blocks j g })

pub packet_keeps : (n : ℕ) (st : State) (k arrival stamp : ℕ) → blocks_are_sound st.blocks ≡ true → blocks_are_sound (packet n st k arrival stamp).blocks ≡ true
packet_keeps n st k arrival stamp e =
    packet_ind (λ x. blocks_are_sound x.blocks ≡ true) n st k arrival stamp (λ r p. e)
    (λ s b. blocks_sound _ (record { long = length_block (k - 1) _ st.blocks ∙ s.long; each = λ j h. by s b j h (eqb j (k - 1)) refl }))
  where
    by : SoundBlocks st.blocks → (1 ≤ k) × (k ≤ ephemerals) → (j : ℕ) → j < ephemerals → (t : Bool) → eqb j (k - 1) ≡ t
        → SoundBlock (block_at j (with_block (k - 1) (updated (block_at (k - 1) st.blocks) arrival stamp) st.blocks))
    by s b j h true f =
        subst SoundBlock (sym (ap (λ (i : ℕ). block_at i (with_block (k - 1) (updated (block_at (k - 1) st.blocks) arrival stamp) st.blocks)) (eqb-true j (k - 1) f) ∙ block_same (k - 1) _ st.blocks (omega (arith, s.long, b.0, b.1))))
        (update_sound (block_at (k - 1) st.blocks) arrival stamp (s.each (k - 1) (omega (arith, b.0, b.1))))
    by s b j h false f = subst SoundBlock (sym (block_other (k - 1) _ st.blocks j (eqb-false j (k - 1) f))) (s.each j h)

-- ---- a row of packets

pub size_of_difference : (a b : ℕ) → size_of (difference a b) ≤ 2 ^ 31
size_of_difference a b = size_most (difference a b) (below a b)

close_most : (j d : ℕ) → j ≤ 2 ^ 35 - 8 → d ≤ 2 ^ 31 → jitter_after j d ≤ 2 ^ 35 - 8
unfolding jitter_after
close_most j d h k = omega arith

pub closest : (j : ℕ) → j < 2 ^ 35 - 8 → j < jitter_after j (2 ^ 31)
unfolding jitter_after
closest j h = omega arith

from_close : (t j : ℕ) (ps : List Packet) → j ≤ 2 ^ 35 - 8 → jitter_from t j ps ≤ 2 ^ 35 - 8
unfolding jitter_from
from_close t j [] h = h
from_close t j (p ∷ ps) h = from_close (transit_of p) (jitter_after j (size_of (difference (transit_of p) t))) ps (close_most j (size_of (difference (transit_of p) t)) h (size_of_difference (transit_of p) t))

pub closer : (ps : List Packet) → jitter_of ps ≤ 2 ^ 35 - 8
unfolding jitter_of
closer [] = omega arith
closer (p ∷ ps) = from_close (transit_of p) 0 ps (omega arith)

pub never_passes : (ps : List Packet) → jitter_of ps ≤ 2 ^ 35
never_passes ps = let h = closer ps in omega arith

-- an update of a block that has packets
next_packet : (x : Block) (arrival stamp : ℕ) → x.jitter ≤ most_jitter → x.packets ≢ 0
    → updated x arrival stamp ≡ record { packets = one_more x.packets; transit = difference arrival stamp; jitter = jitter_after x.jitter (size_of (difference (difference arrival stamp) x.transit)) }
unfolding updated pick
next_packet x arrival stamp h z = rw (le-ltb most_jitter x.jitter h, ne_eqb x.packets 0 z)

one_more_most : (n : ℕ) → n ≤ 4294967295 → one_more n ≤ 4294967295
unfolding one_more
one_more_most n h = pick_ind (λ (m : ℕ). m ≤ 4294967295) (ltb n 4294967295) (n + 1) n (λ t. let k = ltb-true n 4294967295 t in omega arith) (λ t. h)

one_more_held : (n m : ℕ) → n ≤ 4294967295 → min (one_more n + m) 4294967295 ≡ min (n + suc m) 4294967295
unfolding one_more
one_more_held n m h =
    pick_ind (λ (k : ℕ). min (k + m) 4294967295 ≡ min (n + suc m) 4294967295) (ltb n 4294967295) (n + 1) n (λ t. omega arith) (λ t. let k = ltb-false n 4294967295 t in omega arith)

-- packets that follow others
from_counted : (x : Block) (ps : List Packet) → x.jitter ≤ most_jitter → x.packets ≢ 0 → x.packets ≤ 4294967295
    → ((counted x ps).packets ≡ min (x.packets + length ps) 4294967295) × ((counted x ps).jitter ≡ jitter_from x.transit x.jitter ps)
unfolding counted jitter_from
from_counted x [] h z m = (omega arith, refl)
from_counted x (p ∷ ps) h z m =
    let d = size_of (difference (transit_of p) x.transit) in
    let y : Block = record { packets = one_more x.packets; transit = transit_of p; jitter = jitter_after x.jitter d } in
    let e : updated x p.arrival p.stamp ≡ y = next_packet x p.arrival p.stamp h z in
    let r = from_counted y ps (after_most x.jitter d h (size_of_difference (transit_of p) x.transit)) (more_than_none x.packets) (one_more_most x.packets m) in
    (ap (λ (w : Block). (counted w ps).packets) e ∙ r.0 ∙ one_more_held x.packets (length ps) m, ap (λ (w : Block). (counted w ps).jitter) e ∙ r.1)

first_packet : (arrival stamp : ℕ) → updated no_packets arrival stamp ≡ record { packets = 1; transit = difference arrival stamp; jitter = 0 }
unfolding updated pick
first_packet arrival stamp = refl

pub figures : (ps : List Packet) → FiguresOf ps (counted no_packets ps)
unfolding counted jitter_of reported
figures [] = record { packets = refl; jitter = refl; report = refl }
figures (p ∷ ps) =
    let y : Block = record { packets = 1; transit = transit_of p; jitter = 0 } in
    let e : updated no_packets p.arrival p.stamp ≡ y = first_packet p.arrival p.stamp in
    let r = from_counted y ps (omega arith) (λ z. omega arith) (omega arith) in
    let j : (counted no_packets (p ∷ ps)).jitter ≡ jitter_from (transit_of p) 0 ps = ap (λ (w : Block). (counted w ps).jitter) e ∙ r.1 in
    record { packets = ap (λ (w : Block). (counted w ps).packets) e ∙ r.0 ∙ omega arith; jitter = j; report = ap (λ (i : ℕ). i / 16) j }

-- ---- from the Add to the Subtract

counted_last : (x : Block) (ps : List Packet) (p : Packet) → counted x (ps ++ p ∷ []) ≡ updated (counted x ps) p.arrival p.stamp
unfolding counted
counted_last x [] p = refl
counted_last x (q ∷ ps) p = counted_last (updated x q.arrival q.stamp) ps p

packet_length : (n : ℕ) (st : State) (k arrival stamp : ℕ) → length (packet n st k arrival stamp).blocks ≡ length st.blocks
packet_length n st k arrival stamp = packet_ind (λ x. length x.blocks ≡ length st.blocks) n st k arrival stamp (λ r p. refl) (λ s b. length_block (k - 1) _ st.blocks)

packet_other : (n : ℕ) (st : State) (k j arrival stamp : ℕ) → j ≢ k + 1 → block_at k (packet n st j arrival stamp).blocks ≡ block_at k st.blocks
packet_other n st k j arrival stamp h =
    packet_ind (λ x. block_at k x.blocks ≡ block_at k st.blocks) n st j arrival stamp (λ r p. refl) (λ s b. block_other (j - 1) _ st.blocks k (λ e. h (omega (arith, e, b.0))))

packet_its : (n : ℕ) (st : State) (k arrival stamp : ℕ) → (packet n st (k + 1) arrival stamp).refusal ≡ 0 → block_at k (packet n st (k + 1) arrival stamp).blocks ≡ updated (block_at k st.blocks) arrival stamp
packet_its n st k arrival stamp e =
    subst (λ (i : ℕ). block_at i (packet n st (k + 1) arrival stamp).blocks ≡ updated (block_at i st.blocks) arrival stamp) (omega arith) (packet_taken n st (k + 1) arrival stamp e).this

-- what a block holds
record Holds (k : ℕ) (st : State) (ps : List Packet) : Type 0 where
  long : length st.blocks ≡ block_words
  block : block_at k st.blocks ≡ counted no_packets ps

saw_holds : (n k : ℕ) (st : State) (ps : List Packet) → k < ephemerals → Saw n k st ps → Holds k st ps
unfolding counted
saw_holds n k _ _ h (added a st l d) = record { long = attempt_length a st ∙ l; block = (one_attempt a st k l h).zeroed d }
saw_holds n k _ _ h (its {st} {ps} s p e) =
    let r = saw_holds n k st ps h s in
    record {
      long = packet_length n st (k + 1) p.arrival p.stamp ∙ r.long;
      block = packet_its n st k p.arrival p.stamp e ∙ ap (λ (x : Block). updated x p.arrival p.stamp) r.block ∙ sym (counted_last no_packets ps p);
    }
saw_holds n k _ _ h (another {st} {ps} s j p e) =
    let r = saw_holds n k st ps h s in
    record { long = packet_length n st j p.arrival p.stamp ∙ r.long; block = packet_other n st k j p.arrival p.stamp e ∙ r.block }
saw_holds n k _ _ h (tried {st} {ps} s a d) =
    let r = saw_holds n k st ps h s in
    record { long = attempt_length a st ∙ r.long; block = (one_attempt a st k r.long h).stays d ∙ r.block }
saw_holds n k _ _ h (began {st} {ps} s ws) = let r = saw_holds n k st ps h s in record { long = r.long; block = r.block }

-- a Subtract of an ephemeral that succeeds reports its block
subtract_reports : (wild : Bool) (name : List ℕ) (given : ℕ) (vs : Values) (i : ℕ) (at : Context) (v : View) (x : Block) → leb (line_terminations v.lines) i ≡ true
    → ((effect Subtract wild name given vs i at v x).good && true) ≡ true → (effect Subtract wild name given vs i at v x).report ≡ done Subtract (name_text v.lines i) (statistics x.packets (reported x))
unfolding effect concluded told_of is_ephemeral pick
subtract_reports wild name given vs i at v x h =
    judged (λ (c : Checked). ((concluded Subtract wild name given vs i at v x c).good && true) ≡ true → (concluded Subtract wild name given vs i at v x c).report ≡ done Subtract (name_text v.lines i) (statistics x.packets (reported x)))
    (checks Subtract at i vs v) (λ code g. absurd (clash (sym g))) (λ p g. rw h)

pub reports : (n k : ℕ) (st : State) (ps : List Packet) → k < ephemerals → Saw n k st ps → (a : Attempt) → a.op ≡ Subtract → Meets a st k → (attempted a st).going ≡ true
    → (attempted a st).reports ≡ done Subtract (name_text (fitted st.table) a.number) (statistics (min (length ps) 4294967295) (jitter_of ps / 16)) ∷ []
unfolding attempts look
reports n k st ps h s a e m =
    subst (λ (o : Op). (attempts o a.wild a.name a.given a.values (a.number ∷ []) a.at st).going ≡ true
    → (attempts o a.wild a.name a.given a.values (a.number ∷ []) a.at st).reports ≡ done Subtract (name_text (fitted st.table) a.number) (statistics (min (length ps) 4294967295) (jitter_of ps / 16)) ∷ []) (sym e) by
  where
    f : ℕ
    f = line_terminations (fitted st.table)

    x : Block
    x = block_at (a.number - f) st.blocks

    is : x ≡ counted no_packets ps
    is = ap (λ (j : ℕ). block_at j st.blocks) (omega (arith, m)) ∙ (saw_holds n k st ps h s).block

    told : statistics x.packets (reported x) ≡ statistics (min (length ps) 4294967295) (jitter_of ps / 16)
    told = ap (λ (y : Block). statistics y.packets (reported y)) is ∙ (λ i. statistics ((figures ps).packets i) ((figures ps).report i))

    by : (attempts Subtract a.wild a.name a.given a.values (a.number ∷ []) a.at st).going ≡ true
        → (attempts Subtract a.wild a.name a.given a.values (a.number ∷ []) a.at st).reports ≡ done Subtract (name_text (fitted st.table) a.number) (statistics (min (length ps) 4294967295) (jitter_of ps / 16)) ∷ []
    by g =
        let r = subtract_reports a.wild a.name a.given a.values a.number a.at (look a.at a.number st.table) x (le-leb f a.number (omega (arith, m))) g in
        ap (λ (z : Report). z ∷ []) (r ∙ ap (done Subtract (name_text (fitted st.table) a.number)) told)
