-- Attempts leave a sound table sound, in a numbered context, in null and in `$`, a wildcard's too.
use Prim.Native.Nat.{ℕ, zero, suc, ◌+◌, ◌-◌, ◌%◌, ◌≤◌, ◌<◌, min}
use mathlib.Core.Path.{◌≡◌, refl, sym, ap, ◌∙◌}
use mathlib.Core.Logic.{◌≢◌}
use mathlib.Core.Bool.{Bool, true, false, not, ◌&&◌, and-true, and-false}
use mathlib.Core.List.{List, [], ◌∷◌}
use lib.Dec.{ltb, leb, eqb}
use borrow.Author.Tests.{eqb-true, eqb-false, eq-eqb, ltb-true, lt-ltb, leb-true, leb-false, le-leb, not-true, not-false}
use native.Mathlib.Omega.{arith}
use Rattle.base.specs.Pick.{pick}
use Rattle.protocol.specs.Types.{Context, Null, Numbered, Choose, All, Op, Add, Modify, Subtract, Move, AuditValue, Checked, Speech, Kept, Released, Values, View}
use Rattle.megaco.specs.Table.{line_terminations, terminations, contexts, fitted, most, prop, rec, used, flow, low_flow, high_flow, ctx, cell, get, Write, write, apply, record_words, is_ephemeral, exists, known, members, free_context}
use Rattle.megaco.specs.Square.{Square, joined as joinedSquare, parted}
use Rattle.megaco.proofs.Squares.{shape_joined, shape_parted}
use Rattle.megaco.specs.Items.{update}
use Rattle.megaco.specs.Blocks.{block_at}
use Rattle.megaco.specs.State.{State, wrote, renewed}
use Rattle.megaco.specs.declared.Block.{Block}
use Rattle.megaco.specs.Attempt.{unseen, seen_in, seen, flows_of, flowing, number_of, free_at, look, is_choose, target, room_checks, checks, joining, leaving, placed, marking, added, subtracted, on_line, speaking, spoken, forgetting, changes, settled, Effect, concluded, effect}
use Rattle.megaco.specs.Command.{in_place, attempts}
use Rattle.base.proofs.TestLaws.{clash, and_both, both_and, pick_of}
use Rattle.laws.specs.Passed.{Passed}
use Rattle.laws.specs.Speech.{Sets, in_add, in_modify, in_move}
use Rattle.laws.specs.Sound.{Fit, SoundWord, Whole}
use Rattle.laws.proofs.Passed.{judged}
use Rattle.laws.proofs.Slots.{Within, fitted_apply}
use Rattle.laws.proofs.Counting.{member, place_low, lowest}
use Rattle.laws.proofs.Flows.{fit_joined, fit_parted}
use Rattle.laws.proofs.Sound.{alive, record_words_lem, record_at}
use Rattle.laws.proofs.Sides.{side_of, Voices, Mute, both_voices, mute_voices, both_other, OnEphemeral, on_ephemeral, both_within, MaySay, releases, may_say}
use Rattle.laws.proofs.Moved.{Moves, Streams, Fitting, low_low, high_high, low_high, high_low, moved_sound, moved_here, modifies, modified_place, modified_sound}
use Rattle.laws.proofs.Going.{Goes}
use Rattle.laws.proofs.Presence.{Present}
use Rattle.protocol.specs.Ranges.{InRange}
use Rattle.laws.proofs.Values.{update_sound}
use Rattle.laws.proofs.Meant.{Meant, Each, more, each_on}

-- ---- what an attempt sees

pub known_both : (c : ℕ) → known c ≡ true → (0 < c) × (c ≤ contexts)
unfolding known
known_both c e = let b = and_both (ltb 0 c) (leb c contexts) e in (ltb-true 0 c b.0, leb-true c contexts b.1)

pub both_known : (c : ℕ) → 0 < c → c ≤ contexts → known c ≡ true
unfolding known
both_known c p q = both_and (ltb 0 c) (leb c contexts) (lt-ltb 0 c p) (le-leb c contexts q)

pub seen_members : (c : ℕ) (t : List ℕ) → 0 < c → c ≤ contexts → (seen c t).members ≡ members c t
unfolding seen pick
seen_members c t p q = rw (both_known c p q, seen)

pub seen_held : (c : ℕ) (t : List ℕ) → 0 < c → c ≤ contexts → (seen c t).held ≡ get t (cell (rec c))
unfolding seen pick
seen_held c t p q = rw (both_known c p q, seen)

-- a record seen that is not 0 is that of a context
pub seen_there : (c : ℕ) (t : List ℕ) → 0 < (seen c t).held → (0 < c) × (c ≤ contexts) × (0 < get t (cell (rec c)))
unfolding seen pick
seen_there c t h = by (known c) refl h
  where
    by : (b : Bool) → known c ≡ b → 0 < (pick b (seen_in c t) unseen).held → (0 < c) × (c ≤ contexts) × (0 < get t (cell (rec c)))
    by true e h = let k = known_both c e in (k.0, k.1, h)
    by false e h = absurd (omega arith)

-- ---- what the tests of an attempt tell: `search` finds each among those passed, wherever it stands

may_join : (at : Context) (v : View) → Passed (room_checks at v) → (is_choose at && eqb v.free 0 ≡ false) × (v.there.members < most)
unfolding room_checks
may_join at v p = (search p, search leb-false)

may_add : (at : Context) (i : ℕ) (vs : Values) (v : View) → Passed (checks Add at i vs v) → (v.here ≡ 0) × OnEphemeral v.lines i vs.local vs.remote × Passed (room_checks at v)
unfolding checks on_line
may_add at i vs v p = (search (eqb-true, not-false), on_ephemeral v.lines i vs.local vs.remote (search p), search p)

may_modify : (at : Context) (i : ℕ) (vs : Values) (v : View) → Passed (checks Modify at i vs v) → OnEphemeral v.lines i vs.local vs.remote
unfolding checks on_line
may_modify at i vs v p = on_ephemeral v.lines i vs.local vs.remote (search p)

may_subtract : (at : Context) (i : ℕ) (vs : Values) (v : View) → Passed (checks Subtract at i vs v) → v.here ≡ number_of at
unfolding checks
may_subtract at i vs v p = search (eqb-true, not-false)

may_move : (at : Context) (i : ℕ) (vs : Values) (v : View) → Passed (checks Move at i vs v)
    → (v.here ≢ 0) × (v.here ≢ number_of at) × OnEphemeral v.lines i vs.local vs.remote × Passed (room_checks at v)
unfolding checks on_line
may_move at i vs v p = (search eqb-false, search eqb-false, on_ephemeral v.lines i vs.local vs.remote (search p), search p)

-- ---- what an attempt relies on, beside a sound table

-- a context that a termination may join: it exists, or it will be made
pub data Joins : Context → List ℕ → Type 0 where
  anew : {t : List ℕ} → Joins Choose t
  there : {c : ℕ} {t : List ℕ} → 0 < c → c ≤ contexts → 0 < get t (cell (rec c)) → Joins (Numbered c) t

-- a context that a termination may leave
pub data Stands : Context → Type 0 where
  stands : {c : ℕ} → 0 < c → Stands (Numbered c)

abbrev pub MayAttempt : Op → Context → List ℕ → Type 0
MayAttempt Add at t = Joins at t
MayAttempt Modify at t = Unit {0}
MayAttempt Subtract at t = Stands at
MayAttempt Move at t = Joins at t
MayAttempt AuditValue at t = Unit {0}

-- ---- the context that an attempt joins

record Target (at : Context) (t : List ℕ) (x : ℕ) : Type 0 where
  some : 0 < x
  low : x ≤ contexts
  room : members x t < most
  fresh : is_choose at ≡ true → get t (cell (rec x)) ≡ 0
  there : is_choose at ≡ false → 0 < get t (cell (rec x))
  named : is_choose at ≡ false → x ≡ number_of at

-- the lowest number absent has no record and no members
free_target_lem : (t : List ℕ) → Whole t → 0 < free_context t → Target Choose t (free_context t)
unfolding free_context is_choose
free_target_lem t W h =
    let a = lowest 1 (record_words t) h in
    let b : a.place < contexts = omega (arith, record_words_lem t W.long) in
    let z : get t (cell (rec (free_context t))) ≡ 0 = rw a.number (sym (record_at t a.place b) ∙ a.empty) in
    let l : free_context t ≤ contexts = omega arith in
    let s = W.held (free_context t) h l in
    record { some = h; low = l; room = omega arith; fresh = λ _. z; there = λ e. absurd (clash e); named = λ e. absurd (clash e) }

targeted : (at : Context) (i : ℕ) (t : List ℕ) → Whole t → Joins at t → Passed (room_checks at (look at i t)) → Target at t (target at (look at i t))
unfolding look target is_choose number_of free_at pick
targeted Choose i t W anew p = free_target_lem t W (omega (arith, eqb-false (free_context t) 0 (may_join Choose (look Choose i t) p).0))
targeted (Numbered c) i t W (there q l h) p =
    record {
      some = q;
      low = l;
      room = rw (seen_members c t q l) at (may_join (Numbered c) (look (Numbered c) i t) p).1;
      fresh = λ e. absurd (clash (sym e));
      there = λ _. h;
      named = λ _. refl;
    }
targeted Null i t W x3 p = elim x3 [ ]
targeted All i t W x4 p = elim x4 [ ]

-- ---- an attempt that passes its tests

-- what an attempt leaves: a sound table, on which the command may go on
pub record Leaves (op : Op) (at : Context) (t u : List ℕ) : Type 0 where
  pub whole : Whole u
  pub ready : MayAttempt op at u
  pub meant : (j : ℕ) → Meant op t j → Meant op u j

chosen : (at : Context) (v : View) → is_choose at ≡ true → target at v ≡ v.free
unfolding target pick
chosen at v e = rw e

-- the writes of an attempt: each of these laws knows one of the definitions
placed_moves : (n g d i x y : ℕ) → i < terminations n → Moves n false false false g d i x y (placed i x y)
unfolding placed pick
placed_moves n g d i x y h =
    record {
      within = omega arith;
      context = λ j v. refl;
      property = λ j v. refl;
      record' = λ c v. rw (and-false (eqb x c), and-false (eqb d c));
      place = λ j v. rw (and-false (eqb i j));
    }

-- with what is said of Local and Remote
spoken_moves : (n g d i x y : ℕ) (l r : Speech) (ws : List Write) → i < terminations n → OnEphemeral n i l r → Moves n false false false g d i x y ws
    → Moves n false false false g d i x y (speaking i 0 l (speaking i 1 r ws))
spoken_moves n g d i x y l r ws h o M =
    record {
      within = both_within n i l r ws h o M.within;
      context = λ j v. both_other i l r ws (ctx j) v tt ∙ M.context j v;
      property = λ j v. both_other i l r ws (cell (prop j)) v tt ∙ M.property j v;
      record' = λ c v. both_other i l r ws (cell (rec c)) v tt ∙ M.record' c v;
      place = λ j v. both_other i l r ws (cell (used j)) v tt ∙ M.place j v;
    }

forgetting_moves : (n g d i x y : ℕ) (ws : List Write) → i < terminations n → Moves n false false false g d i x y ws → Moves n false false false g d i x y (forgetting n i ws)
unfolding forgetting is_ephemeral
forgetting_moves n g d i x y ws h M =
    pick_of (Moves n false false false g d i x y) (leb (line_terminations n) i)
    (λ e. spoken_moves n g d i x y Released Released ws h (record { local = λ _. leb-true (line_terminations n) i e; remote = λ _. leb-true (line_terminations n) i e }) M)
    (λ e. M)

marking_moves : (n g d i x y m : ℕ) (ws : List Write) → i < terminations n → m % 2 ≡ min x 1 → Moves n false false false g d i x y ws
    → Moves n false false (is_ephemeral n i) g d i x y (marking n i m ws)
unfolding marking is_ephemeral pick
marking_moves n g d i x y m ws h z M =
    pick_of (Moves n false false (leb (line_terminations n) i) g d i x y) (leb (line_terminations n) i)
    (λ e. record {
      within = ((leb-true (line_terminations n) i e, h), M.within);
      context = M.context;
      property = M.property;
      record' = M.record';
      place = λ j v. M.place j _ ∙ rw (e, and-true (eqb i j), and-false (eqb i j), z);
    })
    (λ e. record {
      within = M.within;
      context = M.context;
      property = M.property;
      record' = M.record';
      place = λ j v. M.place j v ∙ rw (e, and-false (eqb i j));
    })

joining_moves : (at : Context) (mark : Bool) (g d i y : ℕ) (v : View) (t : List ℕ) (ws : List Write) → Target at t (target at v)
    → Moves (fitted t) false false mark g d i (target at v) y ws → Moves (fitted t) (is_choose at) false mark g d i (target at v) y (joining at g v ws)
unfolding joining flowing pick
joining_moves at mark g d i y v t ws T M =
    pick_of (Moves (fitted t) (is_choose at) false mark g d i (target at v) y) (is_choose at)
    (λ e. let n : target at v ≡ v.free = chosen at v e in
    record {
      within = ((rw (← n) T.some, rw (← n) T.low), M.within);
      context = M.context;
      property = M.property;
      record' = λ c w. M.record' c (pick (eqb v.free c) g w) ∙ rw (n, e, and-true (eqb v.free c), and-false (eqb v.free c), and-false (eqb d c));
      place = M.place;
    })
    (λ e. let n : target at v ≡ number_of at = T.named e in
    record {
      within = (omega (arith, n, T.some, T.low), (omega (arith, n, T.some, T.low), M.within));
      context = M.context;
      property = M.property;
      record' = λ c w. rw e (M.record' c w);
      place = M.place;
    })

leaving_moves : (n : ℕ) (new mark : Bool) (g i x y : ℕ) (v : View) (ws : List Write) → 0 < v.here → v.here ≤ contexts → Moves n new false mark g v.here i x y ws
    → Moves n new (leb v.from.members 1) mark g v.here i x y (leaving v ws)
unfolding leaving flowing pick
leaving_moves n new mark g i x y v ws p q M =
    pick_of (Moves n new (leb v.from.members 1) mark g v.here i x y) (leb v.from.members 1)
    (λ e. record {
      within = search M;
      context = M.context;
      property = M.property;
      record' = λ c w. M.record' c (pick (eqb v.here c) 0 w) ∙ rw (e, and-true (eqb v.here c), and-false (eqb v.here c));
      place = M.place;
    })
    (λ e. record {
      within = (omega (arith, p, q), (omega (arith, p, q), M.within));
      context = M.context;
      property = M.property;
      record' = λ c w. rw e (M.record' c w);
      place = M.place;
    })

-- ---- the flows that an attempt writes

-- of the context that it joins, and of the one that it leaves
abbrev joined_in : View → Square
joined_in v = joinedSquare (flows_of v.there) (v.there.members + 1) v.into

abbrev parted_in : View → Square
parted_in v = parted (flows_of v.from) v.out

module _ (d x : ℕ) (J P : Square) where
  placed_streams : (i c y : ℕ) → Streams false false d x J P (placed i c y)
  unfolding placed pick
  placed_streams i c y =
      record { low = λ e v h. rw (and-false (eqb x e), and-false (eqb d e)); high = λ e v h. rw (and-false (eqb x e), and-false (eqb d e)) }

  spoken_streams : (i : ℕ) (l r : Speech) (ws : List Write) → Streams false false d x J P ws → Streams false false d x J P (speaking i 0 l (speaking i 1 r ws))
  spoken_streams i l r ws S =
      record {
        low = λ e v h. both_other i l r ws (cell (flow (low_flow e))) v tt ∙ S.low e v h;
        high = λ e v h. both_other i l r ws (cell (flow (high_flow e))) v tt ∙ S.high e v h;
      }

  forgetting_streams : (n i : ℕ) (ws : List Write) → Streams false false d x J P ws → Streams false false d x J P (forgetting n i ws)
  unfolding forgetting
  forgetting_streams n i ws S = pick_of (Streams false false d x J P) (is_ephemeral n i) (λ e. spoken_streams i Released Released ws S) (λ e. S)

  marking_streams : (n i m : ℕ) (ws : List Write) → Streams false false d x J P ws → Streams false false d x J P (marking n i m ws)
  unfolding marking pick
  marking_streams n i m ws S = pick_of (Streams false false d x J P) (is_ephemeral n i) (λ e. record { low = S.low; high = S.high }) (λ e. S)

joining_streams : (at : Context) (g d x : ℕ) (v : View) (P : Square) (ws : List Write) → 0 < x → (is_choose at ≡ false → x ≡ number_of at)
    → Streams false false d x (joined_in v) P ws → Streams (not (is_choose at)) false d x (joined_in v) P (joining at g v ws)
unfolding joining flowing pick
joining_streams at g d x v P ws p t S =
    pick_of (Streams (not (is_choose at)) false d x (joined_in v) P) (is_choose at)
    (λ e. record { low = λ c w h. rw e (S.low c w h); high = λ c w h. rw e (S.high c w h) })
    (λ e. let n : x ≡ number_of at = t e in
    record {
      low = λ c w h. S.low c _ h ∙ rw (e, ← n, low_low x c p h, high_low x c, and-true (eqb x c), and-false (eqb x c), and-false (eqb d c));
      high = λ c w h. S.high c _ h ∙ rw (e, ← n, low_high x c, high_high x c p h, and-true (eqb x c), and-false (eqb x c), and-false (eqb d c));
    })

leaving_streams : (joins : Bool) (x : ℕ) (v : View) (J : Square) (ws : List Write) → 0 < v.here
    → Streams joins false v.here x J (parted_in v) ws → Streams joins (not (leb v.from.members 1)) v.here x J (parted_in v) (leaving v ws)
unfolding leaving flowing pick
leaving_streams joins x v J ws p S =
    pick_of (Streams joins (not (leb v.from.members 1)) v.here x J (parted_in v)) (leb v.from.members 1)
    (λ e. record { low = λ c w h. rw e (S.low c w h); high = λ c w h. rw e (S.high c w h) })
    (λ e. record {
      low = λ c w h. S.low c _ h ∙ rw (e, low_low v.here c p h, high_low v.here c, and-true (eqb v.here c), and-false (eqb v.here c));
      high = λ c w h. S.high c _ h ∙ rw (e, low_high v.here c, high_high v.here c p h, and-true (eqb v.here c), and-false (eqb v.here c));
    })

-- ---- what is said of Local and Remote

placed_mute : (i c y : ℕ) → Mute (placed i c y)
unfolding placed pick
placed_mute i c y k v = refl

property_mute : (i y : ℕ) → Mute (write (cell (prop i)) y ∷ [])
unfolding pick
property_mute i y k v = refl

module _ (i : ℕ) (l r : Speech) where
  marking_voices : (n j m : ℕ) (ws : List Write) → Voices i l r ws → Voices i l r (marking n j m ws)
  unfolding marking pick
  marking_voices n j m ws X = pick_of (Voices i l r) (is_ephemeral n j) (λ e. record { said = X.said }) (λ e. X)

  joining_voices : (at : Context) (g : ℕ) (v : View) (ws : List Write) → Voices i l r ws → Voices i l r (joining at g v ws)
  unfolding joining flowing pick
  joining_voices at g v ws X = pick_of (Voices i l r) (is_choose at) (λ e. record { said = X.said }) (λ e. record { said = X.said })

  leaving_voices : (v : View) (ws : List Write) → Voices i l r ws → Voices i l r (leaving v ws)
  unfolding leaving flowing pick
  leaving_voices v ws X = pick_of (Voices i l r) (leb v.from.members 1) (λ e. record { said = X.said }) (λ e. record { said = X.said })

-- what Subtract says of them
abbrev hushed : ℕ → ℕ → Speech
hushed n i = pick (is_ephemeral n i) Released Kept

-- what each command says of them
abbrev pub said_on : Op → ℕ → ℕ → Speech → Speech
said_on Add n i x = x
said_on Modify n i x = x
said_on Subtract n i x = hushed n i
said_on Move n i x = x
said_on AuditValue n i x = Kept

forgetting_voices : (n i : ℕ) (ws : List Write) → Mute ws → Voices i (hushed n i) (hushed n i) (forgetting n i ws)
unfolding forgetting
forgetting_voices n i ws m = by (is_ephemeral n i)
  where
    by : (b : Bool) → Voices i (pick b Released Kept) (pick b Released Kept) (pick b (speaking i 0 Released (speaking i 1 Released ws)) ws)
    by true = unfold pick in both_voices i Released Released ws m
    by false = unfold pick in mute_voices i ws m

hushed_says : (n i d : ℕ) → line_terminations n ≤ i → (side : ℕ) → side < 2 → MaySay d 0 (side_of side (hushed n i) (hushed n i))
unfolding is_ephemeral pick
hushed_says n i d h zero s = rw (le-leb (line_terminations n) i h) releases
hushed_says n i d h (suc side) s = rw (le-leb (line_terminations n) i h) releases

-- what items give may be said of a termination that is in a context then
given_says : (d x : ℕ) (vs : Values) → 0 < x → InRange vs → (side : ℕ) → side < 2 → MaySay d x (side_of side vs.local vs.remote)
given_says d x vs h f zero s = may_say d x vs.local h f.local
given_says d x vs h f (suc side) s = may_say d x vs.remote h f.remote

-- the flows of a context that is seen
pub seen_flows : (c : ℕ) (t : List ℕ) → Whole t → 0 < c → c ≤ contexts → Fit (members c t) (flows_of (seen c t))
unfolding seen flows_of pick
seen_flows c t W p q = rw (both_known c p q) (W.flows c p q).fit

-- the flows are sound: of a termination that goes from where it stands, d, to x
module _ (at : Context) (i : ℕ) (t : List ℕ) (W : Whole t) (h : i < terminations (fitted t)) where
  fit_leaving : 0 < get t (ctx i) → Fit (members (get t (ctx i)) t - 1) (parted_in (look at i t))
  unfolding look
  fit_leaving p = fit_parted _ (members (get t (ctx i)) t) _ (place_low _ t W.long (both_known (get t (ctx i)) p (W.place i h)) i h refl) (seen_flows (get t (ctx i)) t W p (W.place i h))

  last_leaving : 0 < get t (ctx i) → not (leb (look at i t).from.members 1) ≡ false → members (get t (ctx i)) t ≤ 1
  unfolding look
  last_leaving p e = rw (seen_members (get t (ctx i)) t p (W.place i h)) at (leb-true (seen (get t (ctx i)) t).members 1 (not-false (leb (seen (get t (ctx i)) t).members 1) e))

  fit_joining : (x : ℕ) → Target at t x → not (is_choose at) ≡ true → Fit (members x t + 1) (joined_in (look at i t))
  unfolding look
  fit_joining x T e =
      let n : x ≡ number_of at = T.named (not-true (is_choose at) e) in
      let m : (seen (number_of at) t).members ≡ members x t = rw n (seen_members (number_of at) t (rw n at T.some) (rw n at T.low)) in
      rw m (fit_joined _ (members x t + 1) _)

  -- a new context has no members
  alone_joining : (x : ℕ) → Target at t x → not (is_choose at) ≡ false → members x t ≡ 0
  alone_joining x T e = let s = W.held x T.some T.low in let z = T.fresh (not-false (is_choose at) e) in omega (arith, s.both, z)

-- a context that is joined
joined : (at : Context) (g d i x y : ℕ) (t : List ℕ) (last mark : Bool) → Target at t x → Present g → i < terminations (fitted t) → get t (ctx i) ≡ d → x ≢ d → SoundWord y
    → (0 < d → last ≡ leb (members d t) 1) → (mark ≡ false → line_terminations (fitted t) ≤ i → 0 < d) → Goes t (is_choose at) last mark g d i x y
joined at g d i x y t last mark T G h e n s ends some =
    record {
      small = h;
      from = e;
      away = n;
      low = T.low;
      word = s;
      absent = λ _ z. absurd (omega (arith, T.some));
      room = λ _. T.room;
      made = λ _. (G.some, G.low);
      there = λ e _. T.there e;
      ends = ends;
      stays = λ m k. let p : 0 < d = some m k in omega (arith, T.some);
    }

-- it exists then
joined_there : (at : Context) (i : ℕ) (v : View) (t u : List ℕ) → Joins at t → Target at t (target at v) → i < terminations (fitted u) → Whole u → get u (ctx i) ≡ target at v
    → Joins (settled at v) u
unfolding settled target is_choose number_of pick
joined_there at i v t u j T h W e = by at j T e
  where
    held : (x : ℕ) → 0 < x → x ≤ contexts → get u (ctx i) ≡ x → 0 < get u (cell (rec x))
    held x p q e = alive u W x p q (rw e at (member i u h W.long))

    by : (at : Context) → Joins at t → Target at t (target at v) → get u (ctx i) ≡ target at v → Joins (settled at v) u
    by Choose anew T e = there T.some T.low (held v.free T.some T.low e)
    by (Numbered c) (there p q _) T e = there p q (held c p q e)
    by Null x3 T e = elim x3 [ ]
    by All x4 T e = elim x4 [ ]

-- the context that it stands in
here_low : (i : ℕ) (t : List ℕ) → Whole t → i < terminations (fitted t) → 0 < get t (ctx i) → (seen (get t (ctx i)) t).members ≡ members (get t (ctx i)) t
here_low i t W h p = seen_members (get t (ctx i)) t p (W.place i h)

added_sound : (n i w : ℕ) → SoundWord w → SoundWord (added n i w)
unfolding added
added_sound n i w s = pick_of SoundWord (is_ephemeral n i) (λ _. omega arith) (λ _. s)

subtracted_sound : (n i w : ℕ) → SoundWord w → SoundWord (subtracted n i w)
unfolding subtracted
subtracted_sound n i w s = pick_of SoundWord (is_ephemeral n i) (λ _. omega arith) (λ _. omega arith)

subtracted_zero : (n i w : ℕ) → line_terminations n ≤ i → subtracted n i w ≡ 0
unfolding subtracted is_ephemeral pick
subtracted_zero n i w h = rw (le-leb (line_terminations n) i h)

-- an absent ephemeral does not exist
absent_gone : (n i word : ℕ) → line_terminations n ≤ i → word ≡ 0 → exists n i word ≡ true → ⊥
unfolding exists is_ephemeral
absent_gone n i word h z e = clash (sym (rw (le-leb (line_terminations n) i h, eq-eqb word 0 z) at e))

-- a Move goes elsewhere: a new context has no record, and that of the termination has one
moved_away : (at : Context) (i x : ℕ) (t : List ℕ) → Whole t → Target at t x → i < terminations (fitted t) → 0 < get t (ctx i) → get t (ctx i) ≢ number_of at → x ≢ get t (ctx i)
moved_away at i x t W T h p n e = by (is_choose at) refl
  where
    by : (b : Bool) → is_choose at ≡ b → ⊥
    by true c = omega (arith, alive t W x T.some T.low (rw e (member i t h W.long)), T.fresh c)
    by false c = n (sym e ∙ T.named c)

-- a termination that joins
arrives : (op : Op) (at : Context) (given d i y : ℕ) (t : List ℕ) (last mark : Bool) (ws : List Write) → in_place op ≡ false
    → ((c : Context) (u : List ℕ) → Joins c u → MayAttempt op c u) → Whole t → Joins at t → Target at t (target at (look at i t))
    → Moves (fitted t) (is_choose at) last mark given d i (target at (look at i t)) y ws → Goes t (is_choose at) last mark given d i (target at (look at i t)) y
    → (parts : Bool) → Streams (not (is_choose at)) parts d (target at (look at i t)) (joined_in (look at i t)) (parted_in (look at i t)) ws
    → Fitting t (not (is_choose at)) parts d (target at (look at i t)) (joined_in (look at i t)) (parted_in (look at i t))
    → (vs : Values) → InRange vs → Voices i vs.local vs.remote ws
    → Leaves op (settled at (look at i t)) t (apply ws t)
arrives op at given d i y t last mark ws n r W j T m g parts s f vs F X =
    let x : ℕ = target at (look at i t) in
    let S = moved_sound t (is_choose at) last mark given d i x y ws W m g (not (is_choose at)) parts (joined_in (look at i t)) (parted_in (look at i t)) s f
    vs.local vs.remote X (λ _. given_says d x vs T.some F) in
    record {
      whole = S;
      ready = r _ _ (joined_there at i (look at i t) t (apply ws t) j T (rw (fitted_apply ws t) g.small) S (moved_here t (is_choose at) last mark given d i x y ws W m g));
      meant = λ k u. record { small = rw (fitted_apply ws t) u.small; there = λ e. absurd (clash (sym e ∙ n)) };
    }

-- an ephemeral is no line
no_line : (n i : ℕ) → is_ephemeral n i ≡ false → line_terminations n ≤ i → ⊥
unfolding is_ephemeral
no_line n i e h = clash (sym (le-leb (line_terminations n) i h) ∙ e)

nonzero : (x : ℕ) → (x ≡ 0 → ⊥) → 0 < x
nonzero x h = omega arith

-- a termination that goes to null
departs : (c given i : ℕ) (t : List ℕ) → Whole t → 0 < c → i < terminations (fitted t) → get t (ctx i) ≡ number_of (Numbered c)
    → Leaves Subtract (settled (Numbered c) (look (Numbered c) i t)) t (apply (leaving (look (Numbered c) i t) (marking (fitted t) i 0 (forgetting (fitted t) i (placed i 0 (subtracted (fitted t) i (get t (cell (prop i)))))))) t)
unfolding look number_of settled is_choose in_place pick
departs c given i t W h k e =
    let w : ℕ = get t (cell (prop i)) in
    let d : ℕ = get t (ctx i) in
    let b : 0 < d = rw e h in
    record {
      whole = moved_sound t false (leb (seen d t).members 1) (is_ephemeral (fitted t) i) given d i 0 (subtracted (fitted t) i w) _ W
          (leaving_moves (fitted t) false (is_ephemeral (fitted t) i) given i 0 (subtracted (fitted t) i w) (look (Numbered c) i t) _ b (W.place i k)
          (marking_moves (fitted t) given d i 0 (subtracted (fitted t) i w) 0 _ k refl
          (forgetting_moves (fitted t) given d i 0 (subtracted (fitted t) i w) _ k (placed_moves (fitted t) given d i 0 (subtracted (fitted t) i w) k))))
          (record {
            small = k;
            from = refl;
            away = λ z. omega arith;
            low = omega arith;
            word = subtracted_sound (fitted t) i w (W.word i k);
            absent = λ z _. subtracted_zero (fitted t) i w z;
            room = λ z. absurd (omega arith);
            made = λ z. absurd (clash (sym z));
            there = λ _ z. absurd (omega arith);
            ends = λ z. ap (λ (m : ℕ). leb m 1) (here_low i t W k z);
            stays = λ m l. absurd (no_line (fitted t) i m l);
          })
          false (not (leb (look (Numbered c) i t).from.members 1)) (joined_in (look (Numbered c) i t)) (parted_in (look (Numbered c) i t))
          (leaving_streams false 0 (look (Numbered c) i t) (joined_in (look (Numbered c) i t)) _ b
          (marking_streams d 0 (joined_in (look (Numbered c) i t)) (parted_in (look (Numbered c) i t)) (fitted t) i 0 _
          (forgetting_streams d 0 (joined_in (look (Numbered c) i t)) (parted_in (look (Numbered c) i t)) (fitted t) i _ (placed_streams d 0 (joined_in (look (Numbered c) i t)) (parted_in (look (Numbered c) i t)) i 0 _))))
          (record {
            shape_in = shape_joined _ _ _;
            fit_in = λ z. absurd (clash (sym z));
            alone = λ _ z. absurd (omega arith);
            shape_out = shape_parted _ _;
            fit_out = λ _ _. fit_leaving (Numbered c) i t W k b;
            last = λ e _. last_leaving (Numbered c) i t W k b e;
          })
          (hushed (fitted t) i) (hushed (fitted t) i)
          (leaving_voices i (hushed (fitted t) i) (hushed (fitted t) i) (look (Numbered c) i t) _
          (marking_voices i (hushed (fitted t) i) (hushed (fitted t) i) (fitted t) i 0 _ (forgetting_voices (fitted t) i _ (placed_mute i 0 (subtracted (fitted t) i w)))))
          (λ z. hushed_says (fitted t) i d z);
      ready = stands h;
      meant = λ j m. record { small = rw (fitted_apply (leaving (look (Numbered c) i t) (marking (fitted t) i 0 (forgetting (fitted t) i (placed i 0 (subtracted (fitted t) i w))))) t) m.small; there = λ z. absurd (clash (sym z)) };
    }

-- what is added is absent, and where something is said there is an ephemeral
pub added_absent : (at : Context) (i : ℕ) (vs : Values) (t : List ℕ) → Passed (checks Add at i vs (look at i t)) → get t (ctx i) ≡ 0
unfolding look
added_absent at i vs t p = (may_add at i vs (look at i t) p).0

pub says_ephemeral : (op : Op) (at : Context) (i : ℕ) (vs : Values) (t : List ℕ) → Sets op → Passed (checks op at i vs (look at i t))
    → OnEphemeral (fitted t) i vs.local vs.remote
unfolding look
says_ephemeral _ at i vs t in_add p = (may_add at i vs (look at i t) p).1
says_ephemeral _ at i vs t in_modify p = may_modify at i vs (look at i t) p
says_ephemeral _ at i vs t in_move p = (may_move at i vs (look at i t) p).2

-- what its writes say of Local and Remote; they are to words of the table
pub record Says (op : Op) (n i : ℕ) (vs : Values) (ws : List Write) : Type 0 where
  pub voices : Voices i (said_on op n i vs.local) (said_on op n i vs.remote) ws
  pub within : Within n ws

pub attempt_says : (op : Op) (at : Context) (given i : ℕ) (vs : Values) (t : List ℕ) → Whole t → MayAttempt op at t → i < terminations (fitted t)
    → Passed (checks op at i vs (look at i t)) → Says op (fitted t) i vs (changes op at given i vs (look at i t))
unfolding changes spoken look
attempt_says Add at given i vs t W j h p =
    let v : View = look at i t in
    let y : ℕ = update vs (added (fitted t) i (get t (cell (prop i)))) in
    let q = may_add at i vs v p in
    let T = targeted at i t W j q.2 in
    record {
      voices = joining_voices i vs.local vs.remote at given v _
          (marking_voices i vs.local vs.remote (fitted t) i 1 _ (both_voices i vs.local vs.remote _ (placed_mute i (target at v) y)));
      within = (joining_moves at (is_ephemeral (fitted t) i) given 0 i y v t _ T
          (marking_moves (fitted t) given 0 i (target at v) y 1 _ h (omega (arith, T.some))
          (spoken_moves (fitted t) given 0 i (target at v) y vs.local vs.remote _ h q.1
          (placed_moves (fitted t) given 0 i (target at v) y h)))).within;
    }
attempt_says Modify at given i vs t W j h p =
    record {
      voices = both_voices i vs.local vs.remote _ (property_mute i _);
      within = both_within (fitted t) i vs.local vs.remote _ h (may_modify at i vs (look at i t) p) (h, tt);
    }
attempt_says Subtract (Numbered c) given i vs t W (stands l) h p =
    let v : View = look (Numbered c) i t in
    let y : ℕ = subtracted (fitted t) i (get t (cell (prop i))) in
    let d : ℕ = get t (ctx i) in
    let b : 0 < d = rw (may_subtract (Numbered c) i vs v p) (unfold number_of in l) in
    let x : Speech = hushed (fitted t) i in
    record {
      voices = leaving_voices i x x v _ (marking_voices i x x (fitted t) i 0 _ (forgetting_voices (fitted t) i _ (placed_mute i 0 y)));
      within = (leaving_moves (fitted t) false (is_ephemeral (fitted t) i) given i 0 y v _ b (W.place i h)
          (marking_moves (fitted t) given d i 0 y 0 _ h refl (forgetting_moves (fitted t) given d i 0 y _ h (placed_moves (fitted t) given d i 0 y h)))).within;
    }
attempt_says Move at given i vs t W j h p =
    let v : View = look at i t in
    let y : ℕ = update vs (get t (cell (prop i))) in
    let d : ℕ = get t (ctx i) in
    let q = may_move at i vs v p in
    let T = targeted at i t W j q.3 in
    record {
      voices = leaving_voices i vs.local vs.remote v _
          (joining_voices i vs.local vs.remote at given v _ (both_voices i vs.local vs.remote _ (placed_mute i (target at v) y)));
      within = (leaving_moves (fitted t) (is_choose at) false given i (target at v) y v _ (omega (arith, q.0)) (W.place i h)
          (joining_moves at false given d i y v t _ T
          (spoken_moves (fitted t) given d i (target at v) y vs.local vs.remote _ h q.2
          (placed_moves (fitted t) given d i (target at v) y h)))).within;
    }
attempt_says AuditValue at given i vs t W j h p = record { voices = mute_voices i [] (λ k v. refl); within = tt }
attempt_says Subtract Null given i vs t W j h p = elim j [ ]
attempt_says Subtract Choose given i vs t W j h p = elim j [ ]
attempt_says Subtract All given i vs t W j h p = elim j [ ]

pub attempt_sound : (op : Op) (at : Context) (given i : ℕ) (vs : Values) (t : List ℕ) → Whole t → MayAttempt op at t → Meant op t i → Present given → InRange vs
    → Passed (checks op at i vs (look at i t)) → Leaves op (settled at (look at i t)) t (apply (changes op at given i vs (look at i t)) t)
unfolding changes spoken look in_place apply
attempt_sound Add at given i vs t W j M G F p =
    let v : View = look at i t in
    let w : ℕ = added (fitted t) i (get t (cell (prop i))) in
    let q = may_add at i vs v p in
    let T = targeted at i t W j q.2 in
    let k : Bool = is_ephemeral (fitted t) i in
    arrives Add at given 0 i (update vs w) t false k _ refl (λ c u k. k) W j T
    (joining_moves at k given 0 i (update vs w) v t _ T (marking_moves (fitted t) given 0 i (target at v) (update vs w) 1 _ M.small (omega (arith, T.some))
    (spoken_moves (fitted t) given 0 i (target at v) (update vs w) vs.local vs.remote _ M.small q.1 (placed_moves (fitted t) given 0 i (target at v) (update vs w) M.small))))
    (joined at given 0 i (target at v) (update vs w) t false k T G M.small q.0 (λ z. omega (arith, T.some))
    (update_sound vs w F (added_sound (fitted t) i (get t (cell (prop i))) (W.word i M.small))) (λ z. absurd (omega arith)) (λ e h. absurd (no_line (fitted t) i e h)))
    false
    (joining_streams at given 0 (target at v) v (parted_in v) _ T.some T.named
    (marking_streams 0 (target at v) (joined_in v) (parted_in v) (fitted t) i 1 _
    (spoken_streams 0 (target at v) (joined_in v) (parted_in v) i vs.local vs.remote _ (placed_streams 0 (target at v) (joined_in v) (parted_in v) i _ _))))
    (record {
      shape_in = shape_joined _ _ _;
      fit_in = λ e. fit_joining at i t W M.small (target at v) T e;
      alone = λ e _. alone_joining at i t W M.small (target at v) T e;
      shape_out = shape_parted _ _;
      fit_out = λ e _. absurd (clash (sym e));
      last = λ _ z. absurd (omega arith);
    })
    vs F (attempt_says Add at given i vs t W j M.small p).voices
attempt_sound Modify at given i vs t W j M G F p =
    let w : ℕ = get t (cell (prop i)) in
    let o = may_modify at i vs (look at i t) p in
    let ws : List Write = modifies i vs.local vs.remote (update vs w) in
    let f = fitted_apply ws t in
    record {
      whole = modified_sound t i vs.local vs.remote (update vs w) W M.small o (update_sound vs w F (W.word i M.small))
          (λ k z. absurd (absent_gone (fitted t) i (get t (ctx i)) k z (M.there refl)))
          (λ k. given_says (get t (ctx i)) (get t (ctx i)) vs (nonzero (get t (ctx i)) (λ z. absent_gone (fitted t) i (get t (ctx i)) k z (M.there refl))) F);
      ready = tt;
      meant = λ k m. record { small = rw f m.small; there = λ e. rw (f, modified_place t i vs.local vs.remote (update vs w) W.long M.small o k m.small) (m.there e) };
    }
attempt_sound Subtract (Numbered c) given i vs t W (stands h) M G F p = departs c given i t W h M.small (may_subtract (Numbered c) i vs (look (Numbered c) i t) p)
attempt_sound Move at given i vs t W j M G F p =
    let v : View = look at i t in
    let w : ℕ = get t (cell (prop i)) in
    let d : ℕ = get t (ctx i) in
    let q = may_move at i vs v p in
    let b : 0 < d = omega (arith, q.0) in
    let T = targeted at i t W j q.3 in
    arrives Move at given d i (update vs w) t (leb (seen d t).members 1) false _ refl (λ c u k. k) W j T
    (leaving_moves (fitted t) (is_choose at) false given i (target at v) (update vs w) v _ b (W.place i M.small)
    (joining_moves at false given d i (update vs w) v t _ T
    (spoken_moves (fitted t) given d i (target at v) (update vs w) vs.local vs.remote _ M.small q.2 (placed_moves (fitted t) given d i (target at v) (update vs w) M.small))))
    (joined at given d i (target at v) (update vs w) t (leb (seen d t).members 1) false T G M.small refl (moved_away at i (target at v) t W T M.small b q.1)
    (update_sound vs w F (W.word i M.small)) (λ z. ap (λ (m : ℕ). leb m 1) (here_low i t W M.small z)) (λ _ _. b))
    (not (leb (seen d t).members 1))
    (leaving_streams (not (is_choose at)) (target at v) v (joined_in v) _ b
    (joining_streams at given d (target at v) v (parted_in v) _ T.some T.named
    (spoken_streams d (target at v) (joined_in v) (parted_in v) i vs.local vs.remote _ (placed_streams d (target at v) (joined_in v) (parted_in v) i _ _))))
    (record {
      shape_in = shape_joined _ _ _;
      fit_in = λ e. fit_joining at i t W M.small (target at v) T e;
      alone = λ e _. alone_joining at i t W M.small (target at v) T e;
      shape_out = shape_parted _ _;
      fit_out = λ _ _. fit_leaving at i t W M.small b;
      last = λ e _. last_leaving at i t W M.small b e;
    })
    vs F (attempt_says Move at given i vs t W j M.small p).voices
attempt_sound AuditValue at given i vs t W j M G F p = record { whole = W; ready = tt; meant = λ k m. m }
attempt_sound Subtract Null given i vs t W j M G F p = elim j [ ]
attempt_sound Subtract Choose given i vs t W j M G F p = elim j [ ]
attempt_sound Subtract All given i vs t W j M G F p = elim j [ ]

-- ---- the attempts of a command

pub effect_sound : (op : Op) (wild : Bool) (name : List ℕ) (given : ℕ) (vs : Values) (i : ℕ) (at : Context) (t : List ℕ) (b : Block)
    → Whole t → MayAttempt op at t → Meant op t i → Present given → InRange vs
    → Leaves op (effect op wild name given vs i at (look at i t) b).at t (apply (effect op wild name given vs i at (look at i t) b).writes t)
unfolding effect concluded apply
effect_sound op wild name given vs i at t b W r m G F =
    judged (λ (x : Checked). Leaves op (concluded op wild name given vs i at (look at i t) b x).at t (apply (concluded op wild name given vs i at (look at i t) b x).writes t))
    (checks op at i vs (look at i t)) (λ code. record { whole = W; ready = r; meant = λ j k. k })
    (λ p. attempt_sound op at given i vs t W r m G F p)

pub attempts_sound : (op : Op) (wild : Bool) (name : List ℕ) (given : ℕ) (vs : Values) (is : List ℕ) (at : Context) (st : State)
    → Whole st.table → MayAttempt op at st.table → Each (Meant op st.table) is → Present given → InRange vs → Whole (attempts op wild name given vs is at st).state.table
unfolding attempts
attempts_sound op wild name given vs [] at st W r m G F = W
attempts_sound op wild name given vs (i ∷ is) at st W r (more m ms) G F =
    let x : Block = block_at (i - line_terminations (fitted st.table)) st.blocks in
    let e : Effect = effect op wild name given vs i at (look at i st.table) x in
    let l = effect_sound op wild name given vs i at st.table x W r m G F in
    attempts_sound op wild name given vs is e.at (renewed e.blocks (wrote e.writes st)) l.whole l.ready (each_on (Meant op st.table) (Meant op (apply e.writes st.table)) is l.meant ms) G F
