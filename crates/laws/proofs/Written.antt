-- What an attempt, or an action's start, writes lies in its footprint.
use Prim.Native.Nat.{ℕ, ◌/◌, ◌≤◌, ◌<◌}
use mathlib.Core.Path.{◌≡◌, refl, sym, subst}
use mathlib.Core.Bool.{Bool, true, false, not, ◌&&◌}
use mathlib.Core.List.{List, []}
use lib.Dec.{eqb, leb}
use borrow.Author.Tests.{eqb-true, eqb-false, leb-true, not-false}
use native.Mathlib.Omega.{arith}
use Rattle.base.specs.Pick.{pick}
use Rattle.megaco.specs.Table.{line_terminations, prop, rec, flow, speech, low_flow, high_flow, speech_word, ctx, cell, Write, is_ephemeral, exists}
use Rattle.megaco.specs.declared.Block.{Block}
use Rattle.megaco.specs.Tree.{Property}
use Rattle.megaco.specs.Square.{Square}
use Rattle.megaco.specs.Topology.{any_topology, Link}
use Rattle.megaco.specs.Attempt.{seen, number_of, is_choose, target, checks, flowing, joining, leaving, placed, marking, speaks, on_line, side_writes, speaking, spoken, forgetting, changes, settled, renews, Effect, concluded, effect}
use Rattle.megaco.specs.Command.{is_null, in_place, forbidden_in_null, no_context}
use Rattle.megaco.specs.Action.{any_given, start_checks, flow_writes, start_writes, Start, started_by, started}
use Rattle.protocol.specs.Types.{Context, Null, Numbered, Choose, All, Op, Add, Modify, Subtract, Move, AuditValue, Checked, Speech, Kept, Released, Session, Values, Seen, View}
use Rattle.base.proofs.TestLaws.{clash, and_false}
use Rattle.laws.specs.Passed.{Passed}
use Rattle.laws.proofs.Passed.{judged}
use Rattle.laws.proofs.Sides.{OnEphemeral, on_ephemeral, speech_there}
use Rattle.laws.proofs.Frame.{Ours, AllOurs, nothing, also, Foot}
use Rattle.laws.proofs.Views.{known_above, held_known, Seat, low_there, low_mine, high_there, high_mine}

nonzero : (x : ℕ) → (x ≡ 0 → ⊥) → 0 < x
nonzero x h = omega arith

module _ (lines : ℕ) (N K : ℕ → Type 0) where
  pick_all : (b : Bool) (vs ws : List Write) → (b ≡ true → AllOurs lines N K vs) → AllOurs lines N K ws → AllOurs lines N K (pick b vs ws)
  unfolding pick
  pick_all true vs ws p q = p refl
  pick_all false vs ws p q = q

  -- a context that exists now: null, or one of the footprint
  pub seat_home : (op : Op) (w : Context) (t : List ℕ) → Seat lines N K w → no_context op w (seen (number_of w) t).held ≡ false → 0 < number_of w → K (number_of w)
  unfolding no_context number_of
  seat_home op Null t s e h = absurd (omega arith)
  seat_home op (Numbered c) t s e h = s (held_known c t e)
  seat_home op Choose t s e h = absurd s
  seat_home op All t s e h = absurd s

  -- a numbered one, but for a Modify or an AuditValue
  pub seat_above : (op : Op) (w : Context) (t : List ℕ) → Seat lines N K w → in_place op ≡ false → forbidden_in_null op w ≡ false → no_context op w (seen (number_of w) t).held ≡ false
      → 0 < number_of w
  unfolding no_context number_of forbidden_in_null is_null
  seat_above op Null t s x b e = absurd (clash (rw x at b))
  seat_above op (Numbered c) t s x b e = known_above c (held_known c t e)
  seat_above op Choose t s x b e = absurd s
  seat_above op All t s x b e = absurd s

  module _ (F : Foot lines N K) where
    -- one law for each kind of slot
    ours_ctx : (i v : ℕ) → N i → (0 < v → K v) → Ours lines N K (ctx i) v
    ours_ctx i v m k = record { valid = F.small i m; mine = m; fits = k }

    ours_prop : (i v : ℕ) → N i → Ours lines N K (cell (prop i)) v
    ours_prop i v m = record { valid = F.small i m; mine = m; fits = tt }

    ours_rec : (c v : ℕ) → K c → Ours lines N K (cell (rec c)) v
    ours_rec c v k = record { valid = (F.above c k, F.below c k); mine = k; fits = tt }

    ours_low : (c v : ℕ) → K c → Ours lines N K (cell (flow (low_flow c))) v
    ours_low c v k = record { valid = low_there lines N K F c k; mine = low_mine lines N K F c k; fits = tt }

    ours_high : (c v : ℕ) → K c → Ours lines N K (cell (flow (high_flow c))) v
    ours_high c v k = record { valid = high_there lines N K F c k; mine = high_mine lines N K F c k; fits = tt }

    flowing_all : (c : ℕ) (q : Square) (ws : List Write) → K c → AllOurs lines N K ws → AllOurs lines N K (flowing c q ws)
    unfolding flowing
    flowing_all c q ws k a = also (ours_low c _ k) (also (ours_high c _ k) a)

    placed_all : (i c word : ℕ) → N i → (0 < c → K c) → AllOurs lines N K (placed i c word)
    unfolding placed
    placed_all i c word m k = also (ours_ctx i c m k) (also (ours_prop i word m) nothing)

    -- the place of an ephemeral
    marking_all : (n i d : ℕ) (ws : List Write) → n ≡ lines → N i → AllOurs lines N K ws → AllOurs lines N K (marking n i d ws)
    unfolding marking is_ephemeral
    marking_all n i d ws f m a =
        pick_all (is_ephemeral n i) _ ws (λ e. also (record { valid = (rw (← f) (leb-true (line_terminations n) i e), F.small i m); mine = m; fits = tt }) a) a

    -- the words of an ephemeral's speech
    ours_speech : (i side j v : ℕ) → N i → line_terminations lines ≤ i → side < 2 → j < 4 → Ours lines N K (cell (speech (speech_word i side j))) v
    ours_speech i side j v m h s k =
        let e : i ≡ speech_word i side j / 8 = omega arith in
        record { valid = speech_there lines i side j h (F.small i m) s k; mine = subst N e m; fits = tt }

    side_all : (i side f a p k : ℕ) (ws : List Write) → N i → line_terminations lines ≤ i → side < 2 → AllOurs lines N K ws → AllOurs lines N K (side_writes i side f a p k ws)
    unfolding side_writes
    side_all i side f a p k ws m h s q =
        also (ours_speech i side 0 f m h s (omega arith)) (also (ours_speech i side 1 a m h s (omega arith))
        (also (ours_speech i side 2 p m h s (omega arith)) (also (ours_speech i side 3 k m h s (omega arith)) q)))

    speaking_all : (i side : ℕ) (x : Speech) (ws : List Write) → N i → (speaks x ≡ true → line_terminations lines ≤ i) → side < 2 → AllOurs lines N K ws → AllOurs lines N K (speaking i side x ws)
    unfolding speaking speaks
    speaking_all i side Kept ws m h s q = q
    speaking_all i side Released ws m h s q = side_all i side 0 0 0 0 ws m (h refl) s q
    speaking_all i side (Session a p k) ws m h s q = side_all i side 1 a p k ws m (h refl) s q

    -- what Local and Remote say of an ephemeral
    spoken_all : (n i : ℕ) (vs : Values) (ws : List Write) → n ≡ lines → N i → OnEphemeral n i vs.local vs.remote → AllOurs lines N K ws → AllOurs lines N K (spoken i vs ws)
    unfolding spoken
    spoken_all n i vs ws f m o a =
        let l : speaks vs.local ≡ true → line_terminations lines ≤ i = λ e. rw (← f) (o.local e) in
        let r : speaks vs.remote ≡ true → line_terminations lines ≤ i = λ e. rw (← f) (o.remote e) in
        let x : 0 < 2 = omega arith in
        let y : 1 < 2 = omega arith in
        search (speaking_all, l, r, x, y, m, a)

    forgetting_all : (n i : ℕ) (ws : List Write) → n ≡ lines → N i → AllOurs lines N K ws → AllOurs lines N K (forgetting n i ws)
    unfolding forgetting is_ephemeral
    forgetting_all n i ws f m a =
        pick_all (leb (line_terminations n) i) _ ws
        (λ e. let h : line_terminations lines ≤ i = rw (← f) (leb-true (line_terminations n) i e) in
        speaking_all i 0 Released _ m (λ _. h) (omega arith) (speaking_all i 1 Released ws m (λ _. h) (omega arith) a)) a

    -- no context is made where none is chosen
    target_home : (w : Context) (v : View) → Seat lines N K w → (0 < number_of w → K (number_of w)) → 0 < target w v → K (target w v)
    unfolding target is_choose pick
    target_home Null v s k = k
    target_home (Numbered c) v s k = k
    target_home Choose v s k = absurd s
    target_home All v s k = absurd s

    joining_all : (w : Context) (given : ℕ) (v : View) (ws : List Write) → Seat lines N K w → K (number_of w) → AllOurs lines N K ws → AllOurs lines N K (joining w given v ws)
    unfolding joining is_choose pick
    joining_all Null given v ws s k a = flowing_all (number_of Null) _ ws k a
    joining_all (Numbered c) given v ws s k a = flowing_all (number_of (Numbered c)) _ ws k a
    joining_all Choose given v ws s k a = absurd s
    joining_all All given v ws s k a = absurd s

    leaving_all : (v : View) (ws : List Write) → K v.here → AllOurs lines N K ws → AllOurs lines N K (leaving v ws)
    unfolding leaving
    leaving_all v ws k a = pick_all (leb v.from.members 1) _ _ (λ e. also (ours_rec v.here 0 k) a) (flowing_all v.here _ ws k a)

    -- an attempt that passes its tests, in a context that exists
    changes_all : (op : Op) (w : Context) (given i : ℕ) (vs : Values) (v : View) → v.lines ≡ lines → Seat lines N K w → N i → (0 < v.here → K v.here)
        → (0 < number_of w → K (number_of w)) → (in_place op ≡ false → 0 < number_of w) → Passed (checks op w i vs v) → AllOurs lines N K (changes op w given i vs v)
    unfolding checks on_line changes in_place
    changes_all Add w given i vs v f s m h k z p = joining_all w given v _ s (k (z refl)) (marking_all _ i 1 _ f m (spoken_all _ i vs _ f m (on_ephemeral _ i _ _ (search)) (placed_all i _ _ m (target_home w v s k))))
    changes_all Modify w given i vs v f s m h k z p = spoken_all _ i vs _ f m (on_ephemeral _ i _ _ (search)) (also (ours_prop i _ m) nothing)
    changes_all AuditValue w given i vs v f s m h k z p = nothing
    changes_all Subtract w given i vs v f s m h k z p =
        let e : v.here ≡ number_of w = eqb-true v.here (number_of w) (not-false (eqb v.here (number_of w)) (search)) in
        leaving_all v _ (h (rw e (z refl))) (marking_all _ i 0 _ f m (forgetting_all _ i _ f m (placed_all i 0 _ m (λ y. absurd (omega arith)))))
    changes_all Move w given i vs v f s m h k z p =
        leaving_all v _ (h (nonzero v.here (eqb-false v.here 0 (search)))) (joining_all w given v _ s (k (z refl)) (spoken_all _ i vs _ f m (on_ephemeral _ i _ _ (search)) (placed_all i _ _ m (target_home w v s k))))

    -- what an attempt writes, and where its action stands after it; no block is set to zero
    pub record OursAlone (e : Effect) : Type 0 where
      pub all : AllOurs lines N K e.writes
      pub seat : Seat lines N K e.at
      pub still : e.blocks ≡ []

    -- an Add of a termination that exists makes none
    no_line : (n i : ℕ) → exists n i 0 ≡ true → is_ephemeral n i ≡ false
    unfolding exists
    no_line n i e = by (is_ephemeral n i) e
      where
        by : (b : Bool) → not (b && true) ≡ true → b ≡ false
        by true e = sym e
        by false e = refl

    renews_none : (op : Op) (w : Context) (i : ℕ) (vs : Values) (v : View) → exists v.lines i v.here ≡ true → Passed (checks op w i vs v) → renews op v.lines i ≡ []
    unfolding renews checks pick
    renews_none Add w i vs v e p =
        let z : v.here ≡ 0 = eqb-true v.here 0 (not-false (eqb v.here 0) (search)) in
        rw (no_line v.lines i (rw z at e))
    renews_none Modify w i vs v e p = refl
    renews_none Subtract w i vs v e p = refl
    renews_none Move w i vs v e p = refl
    renews_none AuditValue w i vs v e p = refl

    seat_settled : (w : Context) (v : View) → Seat lines N K w → Seat lines N K (settled w v)
    unfolding settled is_choose pick
    seat_settled Null v s = s
    seat_settled (Numbered c) v s = s
    seat_settled Choose v s = absurd s
    seat_settled All v s = absurd s

    pub effect_lies : (op : Op) (wild : Bool) (name : List ℕ) (given : ℕ) (vs : Values) (i : ℕ) (w : Context) (v : View) (b : Block) → v.lines ≡ lines → Seat lines N K w → N i
        → exists v.lines i v.here ≡ true → (0 < v.here → K v.here) → (0 < number_of w → K (number_of w)) → (in_place op ≡ false → 0 < number_of w)
        → OursAlone (effect op wild name given vs i w v b)
    unfolding effect concluded
    effect_lies op wild name given vs i w v b f s m e h k z =
        judged (λ (x : Checked). OursAlone (concluded op wild name given vs i w v b x)) (checks op w i vs v) (λ code. record { all = nothing; seat = s; still = refl })
        (λ p. record { all = changes_all op w given i vs v f s m h k z p; seat = seat_settled w v s; still = renews_none op w i vs v e p })

    -- ---- an action's start

    -- what it writes, and where its action stands
    pub record StartLies (x : Start) : Type 0 where
      pub all : AllOurs lines N K x.writes
      pub seat : Seat lines N K x.acted.at

    -- the triples, in a context that exists
    flows_all : (c : ℕ) (ps : List Property) (there : Seen) (links : List Link) → K c → AllOurs lines N K (flow_writes c ps there links)
    unfolding flow_writes
    flows_all c ps there links k = pick_all (any_topology ps) _ [] (λ e. flowing_all c _ [] k nothing) nothing

    writes_all : (w : Context) (ps : List Property) (alone : Bool) (t : List ℕ) (links : List Link) → Seat lines N K w
        → Passed (start_checks w ps alone (seen (number_of w) t) links) → AllOurs lines N K (start_writes w ps (seen (number_of w) t) links)
    unfolding start_checks start_writes number_of
    writes_all Null ps alone t links s p = nothing
    writes_all (Numbered c) ps alone t links s p =
        pick_all (any_given ps) _ [] (λ e. let k : K c = s (held_known c t (and_false (any_given ps) (eqb (seen c t).held 0) e p.1.0)) in also (ours_rec c _ k) (flows_all c ps (seen c t) links k)) nothing
    writes_all Choose ps alone t links s p = absurd s
    writes_all All ps alone t links s p = absurd s

    pub started_lies : (w : Context) (ps : List Property) (alone : Bool) (t : List ℕ) (links : List Link) → Seat lines N K w → StartLies (started w ps alone (seen (number_of w) t) links)
    unfolding started started_by
    started_lies w ps alone t links s =
        judged (λ (x : Checked). StartLies (started_by w ps alone (seen (number_of w) t) links x)) (start_checks w ps alone (seen (number_of w) t) links) (λ code. record { all = nothing; seat = s })
        (λ p. record { all = writes_all w ps alone t links s p; seat = s })
