-- A sound table after writes. One law serves Add, Subtract and Move: a termination goes from where it stands to a context, null being 0.
use Prim.Native.Nat.{ℕ, ◌+◌, ◌-◌, ◌≤◌, ◌<◌, min}
use mathlib.Core.Path.{◌≡◌, refl, sym, ap, ◌∙◌, subst}
use mathlib.Core.Logic.{◌≢◌}
use mathlib.Core.Bool.{Bool, true, false, ◌&&◌}
use mathlib.Core.List.{List, [], ◌∷◌}
use lib.ListN.{length}
use lib.Dec.{leb, eqb}
use borrow.Author.Tests.{eqb-true, eq-eqb, ne_eqb, leb-true, leb-false}
use native.Mathlib.Omega.{arith}
use native.Mathlib.Decide.{ℕ_discrete}
use Rattle.base.specs.Pick.{pick}
use Rattle.megaco.specs.Table.{line_terminations, terminations, contexts, words, fitted, most, prop, rec, used, flow, speech, low_flow, high_flow, speech_word, Slot, ctx, cell, get, Write, write, apply, members}
use Rattle.megaco.specs.Square.{Square, low_of, high_of}
use Rattle.megaco.specs.Attempt.{flowing, speaking}
use Rattle.protocol.specs.Types.{Speech}
use Rattle.megaco.proofs.Squares.{Shape}
use Rattle.base.proofs.TestLaws.{pick_of}
use Rattle.laws.specs.Sound.{Fit, SoundFlows, SoundWord, SoundRecord, SoundSide, Whole}
use Rattle.laws.specs.Slots.{Valid}
use Rattle.laws.proofs.Slots.{length_apply, fitted_apply, holds, Within, get_apply, narrow_apply}
use Rattle.laws.proofs.Counting.{one, members_same, members_moved}
use Rattle.laws.proofs.Flows.{sound_packed}
use Rattle.laws.proofs.Going.{Goes}
use Rattle.laws.proofs.Sides.{side_of, side_word, Voices, both_voices, Other, both_other, OnEphemeral, both_within, speech_there, MaySay, side_goes}

-- the facts of a sound table, of what the words hold after writes
pub record Lands (ws : List Write) (t : List ℕ) : Type 0 where
  pub within : Within (fitted t) ws
  pub place : (i : ℕ) → i < terminations (fitted t) → holds ws (ctx i) (get t (ctx i)) ≤ contexts
  pub word : (i : ℕ) → i < terminations (fitted t) → SoundWord (holds ws (cell (prop i)) (get t (cell (prop i))))
  pub absent : (i : ℕ) → line_terminations (fitted t) ≤ i → i < terminations (fitted t) → holds ws (ctx i) (get t (ctx i)) ≡ 0 → holds ws (cell (prop i)) (get t (cell (prop i))) ≡ 0
  pub held : (c : ℕ) → 0 < c → c ≤ contexts → SoundRecord (holds ws (cell (rec c)) (get t (cell (rec c)))) (members c (apply ws t))
  pub marked : (i : ℕ) → line_terminations (fitted t) ≤ i → i < terminations (fitted t) → holds ws (cell (used i)) (get t (cell (used i))) ≡ min (holds ws (ctx i) (get t (ctx i))) 1
  pub flows : (c : ℕ) → 0 < c → c ≤ contexts
      → SoundFlows (holds ws (cell (flow (low_flow c))) (get t (cell (flow (low_flow c))))) (holds ws (cell (flow (high_flow c))) (get t (cell (flow (high_flow c))))) (members c (apply ws t))
  pub speech : (i side : ℕ) → line_terminations (fitted t) ≤ i → i < terminations (fitted t) → side < 2
      → SoundSide (holds ws (ctx i) (get t (ctx i)))
      (holds ws (cell (speech (speech_word i side 0))) (get t (cell (speech (speech_word i side 0))))) (holds ws (cell (speech (speech_word i side 1))) (get t (cell (speech (speech_word i side 1)))))
      (holds ws (cell (speech (speech_word i side 2))) (get t (cell (speech (speech_word i side 2))))) (holds ws (cell (speech (speech_word i side 3))) (get t (cell (speech (speech_word i side 3)))))

pub landed : (ws : List Write) (t : List ℕ) → Whole t → Lands ws t → Whole (apply ws t)
landed ws t W a =
    let n : ℕ = fitted t in
    let f : fitted (apply ws t) ≡ n = fitted_apply ws t in
    let l : length t ≡ words n = W.long in
    let b : (i : ℕ) → i < terminations (fitted (apply ws t)) → i < terminations n = λ i h. rw f at h in
    record {
      some = rw f W.some;
      few = rw f W.few;
      long = rw f (length_apply ws t ∙ l);
      place = λ i h. rw (get_apply n ws (ctx i) t a.within (b i h) l) (a.place i (b i h));
      word = λ i h. rw (get_apply n ws (cell (prop i)) t a.within (b i h) l) (a.word i (b i h));
      absent = λ i k h. rw (get_apply n ws (ctx i) t a.within (b i h) l, get_apply n ws (cell (prop i)) t a.within (b i h) l) (a.absent i (rw f at k) (b i h));
      held = λ c p q. rw (get_apply n ws (cell (rec c)) t a.within (p, q) l) (a.held c p q);
      marked = λ i k h. get_apply n ws (cell (used i)) t a.within (rw f at k, b i h) l ∙ rw (get_apply n ws (ctx i) t a.within (b i h) l) (a.marked i (rw f at k) (b i h));
      flows = λ c p q. rw (get_apply n ws (cell (flow (low_flow c))) t a.within (omega arith) l, get_apply n ws (cell (flow (high_flow c))) t a.within (omega arith) l) (a.flows c p q);
      speech = λ i side k h s.
          let v : (j : ℕ) → j < 4 → Valid n (cell (speech (speech_word i side j))) = λ j q. speech_there n i side j (rw f at k) (b i h) s q in
          rw (
            get_apply n ws (ctx i) t a.within (b i h) l,
            get_apply n ws (cell (speech (speech_word i side 0))) t a.within (v 0 (omega arith)) l,
            get_apply n ws (cell (speech (speech_word i side 1))) t a.within (v 1 (omega arith)) l,
            get_apply n ws (cell (speech (speech_word i side 2))) t a.within (v 2 (omega arith)) l,
            get_apply n ws (cell (speech (speech_word i side 3))) t a.within (v 3 (omega arith)) l,
          )
          (a.speech i side (rw f at k) (b i h) s);
      narrow = λ k h. rw f (narrow_apply n ws t a.within l W.narrow k h);
    }

-- ---- a termination goes from d to x, with a property word y

-- what the writes leave: where x is new its record is made, g; where the termination was the last in d, the record of d ends; where it is
-- marked, its place in the map is
pub record Moves (n : ℕ) (new last mark : Bool) (g d i x y : ℕ) (ws : List Write) : Type 0 where
  pub within : Within n ws
  pub context : (j v : ℕ) → holds ws (ctx j) v ≡ pick (eqb i j) x v
  pub property : (j v : ℕ) → holds ws (cell (prop j)) v ≡ pick (eqb i j) y v
  pub record' : (c v : ℕ) → holds ws (cell (rec c)) v ≡ pick (eqb x c && new) g (pick (eqb d c && last) 0 v)
  pub place : (j v : ℕ) → holds ws (cell (used j)) v ≡ pick (eqb i j && mark) (min x 1) v

-- what the writes leave of the flows: where it joins others in x, those of x are J; where it leaves others in d, those of d are P
pub record Streams (joins parts : Bool) (d x : ℕ) (J P : Square) (ws : List Write) : Type 0 where
  pub low : (c v : ℕ) → 0 < c → holds ws (cell (flow (low_flow c))) v ≡ pick (eqb x c && joins) (low_of J) (pick (eqb d c && parts) (low_of P) v)
  pub high : (c v : ℕ) → 0 < c → holds ws (cell (flow (high_flow c))) v ≡ pick (eqb x c && joins) (high_of J) (pick (eqb d c && parts) (high_of P) v)

-- when they are sound
pub record Fitting (t : List ℕ) (joins parts : Bool) (d x : ℕ) (J P : Square) : Type 0 where
  pub shape_in : Shape J
  pub fit_in : joins ≡ true → Fit (members x t + 1) J
  pub alone : joins ≡ false → 0 < x → members x t ≡ 0
  pub shape_out : Shape P
  pub fit_out : parts ≡ true → 0 < d → Fit (members d t - 1) P
  pub last : parts ≡ false → 0 < d → members d t ≤ 1

module _ (t : List ℕ) (new last mark : Bool) (g d i x y : ℕ) (ws : List Write) (W : Whole t) (M : Moves (fitted t) new last mark g d i x y ws) (G : Goes t new last mark g d i x y) where
  -- the termination stands there then, and the others where they stood
  moved_place : (j : ℕ) → j < terminations (fitted t) → get (apply ws t) (ctx j) ≡ pick (eqb i j) x (get t (ctx j))
  moved_place j h = get_apply (fitted t) ws (ctx j) t M.within h W.long ∙ M.context j (get t (ctx j))

  pub moved_here : get (apply ws t) (ctx i) ≡ x
  unfolding pick
  moved_here = moved_place i G.small ∙ rw (eq-eqb i i refl)

  moved_absent : (j : ℕ) → line_terminations (fitted t) ≤ j → j < terminations (fitted t) → (b : Bool) → eqb i j ≡ b
      → pick b x (get t (ctx j)) ≡ 0 → pick b y (get t (cell (prop j))) ≡ 0
  unfolding pick
  moved_absent j k h true e = G.absent (omega (arith, eqb-true i j e))
  moved_absent j k h false e = W.absent j k h

  moved_members : (c : ℕ) → members c (apply ws t) + one (eqb d c) ≡ members c t + one (eqb x c)
  moved_members c =
      subst (λ (z : ℕ). members c (apply ws t) + one (eqb z c) ≡ members c t + one (eqb x c)) G.from
      (members_moved c i x t (apply ws t) G.small W.long (length_apply ws t) moved_place)

  moved_record : (c n : ℕ) → 0 < c → c ≤ contexts → (a b e f : Bool) → new ≡ a → last ≡ b → eqb x c ≡ e → eqb d c ≡ f → n + one f ≡ members c t + one e
      → SoundRecord (pick (e && a) g (pick (f && b) 0 (get t (cell (rec c))))) n
  unfolding pick
  moved_record c n p q a b true true _ _ e f k = absurd (G.away (eqb-true x c e ∙ sym (eqb-true d c f)))
  moved_record c n p q true b true false u _ e f k =
      let z : x ≡ c = eqb-true x c e in
      let o : members c t < most = subst (λ (j : ℕ). members j t < most) z (G.room (omega arith)) in
      let s = G.made u in
      omega arith
  moved_record c n p q false b true false u _ e f k =
      let z : x ≡ c = eqb-true x c e in
      let o : members c t < most = subst (λ (j : ℕ). members j t < most) z (G.room (omega arith)) in
      let v : 0 < get t (cell (rec c)) = subst (λ (j : ℕ). 0 < get t (cell (rec j))) z (G.there u (omega arith)) in
      let s = W.held c p q in
      omega arith
  moved_record c n p q a true false true _ u e f k =
      let z : d ≡ c = eqb-true d c f in
      let o : members c t ≤ 1 = subst (λ (j : ℕ). members j t ≤ 1) z (leb-true (members d t) 1 (sym (G.ends (omega arith)) ∙ u)) in
      omega arith
  moved_record c n p q a false false true _ u e f k =
      let z : d ≡ c = eqb-true d c f in
      let o : 1 < members c t = subst (λ (j : ℕ). 1 < members j t) z (leb-false (members d t) 1 (sym (G.ends (omega arith)) ∙ u)) in
      let s = W.held c p q in
      omega arith
  moved_record c n p q a b false false _ _ e f k = let s = W.held c p q in omega arith

  moved_mark : (j : ℕ) → line_terminations (fitted t) ≤ j → j < terminations (fitted t) → (a b : Bool) → mark ≡ a → eqb i j ≡ b
      → pick (b && a) (min x 1) (get t (cell (used j))) ≡ min (pick b x (get t (ctx j))) 1
  unfolding pick
  moved_mark j k h true true u e = refl
  moved_mark j k h false true u e =
      let z : i ≡ j = eqb-true i j e in
      let o : get t (ctx j) ≡ d = subst (λ (l : ℕ). get t (ctx l) ≡ d) z G.from in
      W.marked j k h ∙ ap (λ (l : ℕ). min l 1) o ∙ sym (G.stays u (omega arith))
  moved_mark j k h a false u e = W.marked j k h

  module _ (joins parts : Bool) (J P : Square) (S : Streams joins parts d x J P ws) (H : Fitting t joins parts d x J P) where
    moved_flows : (c n : ℕ) → 0 < c → c ≤ contexts → (a b e f : Bool) → joins ≡ a → parts ≡ b → eqb x c ≡ e → eqb d c ≡ f → n + one f ≡ members c t + one e
        → SoundFlows (pick (e && a) (low_of J) (pick (f && b) (low_of P) (get t (cell (flow (low_flow c)))))) (pick (e && a) (high_of J) (pick (f && b) (high_of P) (get t (cell (flow (high_flow c)))))) n
    unfolding pick
    moved_flows c n p q a b true true _ _ e f k = absurd (G.away (eqb-true x c e ∙ sym (eqb-true d c f)))
    moved_flows c n p q true b true false u _ e f k =
        let z : members x t ≡ members c t = ap (λ (j : ℕ). members j t) (eqb-true x c e) in
        let m : members x t + 1 ≡ n = omega (arith, k, z) in
        subst (SoundFlows (low_of J) (high_of J)) m (sound_packed J (members x t + 1) H.shape_in (H.fit_in u))
    moved_flows c n p q false b true false u _ e f k =
        let y : x ≡ c = eqb-true x c e in
        let z : members c t ≡ 0 = subst (λ (j : ℕ). members j t ≡ 0) y (H.alone u (omega (arith, y, p))) in
        let s = W.flows c p q in
        record { low = s.low; high = s.high; fit = λ i j o. let r = s.fit i j o in absurd (omega (arith, r.0, z)) }
    moved_flows c n p q a true false true _ u e f k =
        let y : d ≡ c = eqb-true d c f in
        let z : members d t ≡ members c t = ap (λ (j : ℕ). members j t) y in
        let m : members d t - 1 ≡ n = omega (arith, k, z) in
        subst (SoundFlows (low_of P) (high_of P)) m (sound_packed P (members d t - 1) H.shape_out (H.fit_out u (omega (arith, y, p))))
    moved_flows c n p q a false false true _ u e f k =
        let y : d ≡ c = eqb-true d c f in
        let z : members c t ≤ 1 = subst (λ (j : ℕ). members j t ≤ 1) y (H.last u (omega (arith, y, p))) in
        let s = W.flows c p q in
        record { low = s.low; high = s.high; fit = λ i j o. let r = s.fit i j o in absurd (r.2 (omega (arith, r.0, r.1, z))) }
    moved_flows c n p q a b false false _ _ e f k =
        let m : members c t ≡ n = omega (arith, k) in
        subst (SoundFlows (get t (cell (flow (low_flow c)))) (get t (cell (flow (high_flow c))))) m (W.flows c p q)

    -- what is said of Local and of Remote
    module _ (l r : Speech) (X : Voices i l r ws) (Y : line_terminations (fitted t) ≤ i → (side : ℕ) → side < 2 → MaySay d x (side_of side l r)) where
      moved_side : (j side : ℕ) → line_terminations (fitted t) ≤ j → j < terminations (fitted t) → side < 2 → (b : Bool) → eqb i j ≡ b
          → let w : ℕ → ℕ = λ m. get t (cell (speech (speech_word j side m))) in let u : ℕ → ℕ = λ m. pick b (side_word (side_of side l r) m (w m)) (w m) in
          SoundSide (pick b x (get t (ctx j))) (u 0) (u 1) (u 2) (u 3)
      unfolding pick
      moved_side j side k h s true e =
          let z : i ≡ j = eqb-true i j e in
          let o : get t (ctx j) ≡ d = subst (λ (m : ℕ). get t (ctx m) ≡ d) z G.from in
          side_goes d x _ _ _ _ (side_of side l r) (Y (omega (arith, z)) side s)
          (subst (λ (m : ℕ). SoundSide m (get t (cell (speech (speech_word j side 0)))) (get t (cell (speech (speech_word j side 1)))) (get t (cell (speech (speech_word j side 2)))) (get t (cell (speech (speech_word j side 3))))) o
          (W.speech j side k h s))
      moved_side j side k h s false e = W.speech j side k h s

      pub moved_sound : Whole (apply ws t)
      moved_sound =
          landed ws t W
          (record {
            within = M.within;
            place = λ j h. rw (M.context j (get t (ctx j))) (pick_of (λ (z : ℕ). z ≤ contexts) (eqb i j) (λ _. G.low) (λ _. W.place j h));
            word = λ j h. rw (M.property j (get t (cell (prop j)))) (pick_of SoundWord (eqb i j) (λ _. G.word) (λ _. W.word j h));
            absent = λ j k h. rw (M.context j (get t (ctx j)), M.property j (get t (cell (prop j)))) (moved_absent j k h (eqb i j) refl);
            held = λ c p q. rw (M.record' c (get t (cell (rec c))))
                (moved_record c (members c (apply ws t)) p q new last (eqb x c) (eqb d c) refl refl refl refl (moved_members c));
            marked = λ j k h. rw (M.place j (get t (cell (used j))), M.context j (get t (ctx j))) (moved_mark j k h mark (eqb i j) refl refl);
            flows = λ c p q. rw (S.low c (get t (cell (flow (low_flow c)))) p, S.high c (get t (cell (flow (high_flow c)))) p)
                (moved_flows c (members c (apply ws t)) p q joins parts (eqb x c) (eqb d c) refl refl refl refl (moved_members c));
            speech = λ j side k h s.
                let w : ℕ → ℕ = λ m. get t (cell (speech (speech_word j side m))) in
                rw (M.context j (get t (ctx j)), X.said j side 0 (w 0) s (omega arith), X.said j side 1 (w 1) s (omega arith), X.said j side 2 (w 2) s (omega arith), X.said j side 3 (w 3) s (omega arith))
                (moved_side j side k h s (eqb i j) refl);
          })

-- ---- a word alone changes

-- a property and what is said of Local and Remote: no termination goes
abbrev pub modifies : ℕ → Speech → Speech → ℕ → List Write
modifies i l r y = speaking i 0 l (speaking i 1 r (write (cell (prop i)) y ∷ []))

pub modified_place : (t : List ℕ) (i : ℕ) (l r : Speech) (y : ℕ) → length t ≡ words (fitted t) → i < terminations (fitted t) → OnEphemeral (fitted t) i l r
    → (j : ℕ) → j < terminations (fitted t) → get (apply (modifies i l r y) t) (ctx j) ≡ get t (ctx j)
unfolding pick
modified_place t i l r y n b o j h =
    get_apply (fitted t) (modifies i l r y) (ctx j) t (both_within (fitted t) i l r _ b o (b, tt)) h n ∙ both_other i l r _ (ctx j) (get t (ctx j)) tt

pub modified_sound : (t : List ℕ) (i : ℕ) (l r : Speech) (y : ℕ) → Whole t → i < terminations (fitted t) → OnEphemeral (fitted t) i l r → SoundWord y
    → (line_terminations (fitted t) ≤ i → get t (ctx i) ≡ 0 → y ≡ 0)
    → (line_terminations (fitted t) ≤ i → (side : ℕ) → side < 2 → MaySay (get t (ctx i)) (get t (ctx i)) (side_of side l r))
    → Whole (apply (modifies i l r y) t)
unfolding pick
modified_sound t i l r y W b o s a m =
    landed ws t W
    (record {
      within = both_within (fitted t) i l r _ b o (b, tt);
      place = λ j h. rw (other (ctx j) _ tt) (W.place j h);
      word = λ j h. rw (other (cell (prop j)) _ tt) (pick_of SoundWord (eqb i j) (λ _. s) (λ _. W.word j h));
      absent = λ j k h. rw (other (ctx j) (get t (ctx j)) tt, other (cell (prop j)) (get t (cell (prop j))) tt)
          (λ z. pick_of (λ (v : ℕ). v ≡ 0) (eqb i j) (λ e. let n : i ≡ j = eqb-true i j e in a (omega arith) (rw n z)) (λ _. W.absent j k h z));
      held = λ c p q. rw (same c, other (cell (rec c)) (get t (cell (rec c))) tt) (W.held c p q);
      marked = λ j k h. rw (other (ctx j) (get t (ctx j)) tt, other (cell (used j)) (get t (cell (used j))) tt) (W.marked j k h);
      flows = λ c p q. rw (same c, other (cell (flow (low_flow c))) (get t (cell (flow (low_flow c)))) tt, other (cell (flow (high_flow c))) (get t (cell (flow (high_flow c)))) tt) (W.flows c p q);
      speech = λ j side k h u.
          let w : ℕ → ℕ = λ x. get t (cell (speech (speech_word j side x))) in
          rw (other (ctx j) (get t (ctx j)) tt, X.said j side 0 (w 0) u (omega arith), X.said j side 1 (w 1) u (omega arith), X.said j side 2 (w 2) u (omega arith), X.said j side 3 (w 3) u (omega arith))
          (sides j side k h u (eqb i j) refl);
    })
  where
    ws : List Write
    ws = modifies i l r y

    X : Voices i l r ws
    X = both_voices i l r _ (λ k v. refl)

    other : (x : Slot) (v : ℕ) → Other x → holds ws x v ≡ holds (write (cell (prop i)) y ∷ []) x v
    other x v = both_other i l r _ x v

    same : (c : ℕ) → members c (apply ws t) ≡ members c t
    same c = members_same c t (apply ws t) (length_apply ws t) (modified_place t i l r y W.long b o)

    sides : (j side : ℕ) → line_terminations (fitted t) ≤ j → j < terminations (fitted t) → side < 2 → (e : Bool) → eqb i j ≡ e
        → let w : ℕ → ℕ = λ x. get t (cell (speech (speech_word j side x))) in let u : ℕ → ℕ = λ x. pick e (side_word (side_of side l r) x (w x)) (w x) in
        SoundSide (get t (ctx j)) (u 0) (u 1) (u 2) (u 3)
    sides j side k h u true e =
        let z : i ≡ j = eqb-true i j e in
        let d : MaySay (get t (ctx j)) (get t (ctx j)) (side_of side l r) = subst (λ (x : ℕ). MaySay (get t (ctx x)) (get t (ctx x)) (side_of side l r)) z (m (omega (arith, z)) side u) in
        side_goes (get t (ctx j)) (get t (ctx j)) _ _ _ _ (side_of side l r) d (W.speech j side k h u)
    sides j side k h u false e = W.speech j side k h u

pub recorded_members : (t : List ℕ) (c r e : ℕ) → Whole t → 0 < c → c ≤ contexts → members e (apply (write (cell (rec c)) r ∷ []) t) ≡ members e t
unfolding pick
recorded_members t c r e W p q =
    let ws : List Write = write (cell (rec c)) r ∷ [] in
    members_same e t (apply ws t) (length_apply ws t) (λ j b. get_apply (fitted t) ws (ctx j) t ((p, q), tt) b W.long)

-- the record of a context that exists
pub recorded_sound : (t : List ℕ) (c r : ℕ) → Whole t → 0 < c → c ≤ contexts → 0 < get t (cell (rec c)) → 0 < r → r ≤ 32
    → Whole (apply (write (cell (rec c)) r ∷ []) t)
unfolding pick
recorded_sound t c r W p q h k l =
    landed ws t W
    (record {
      within = ((p, q), tt);
      place = W.place;
      word = W.word;
      absent = W.absent;
      held = λ e u v. rw (same e) (pick_of (λ (z : ℕ). SoundRecord z (members e t)) (eqb c e) (λ n. by e (eqb-true c e n) (W.held e u v)) (λ _. W.held e u v));
      marked = W.marked;
      flows = λ e u v. rw (same e) (W.flows e u v);
      speech = W.speech;
    })
  where
    ws : List Write
    ws = write (cell (rec c)) r ∷ []

    same : (e : ℕ) → members e (apply ws t) ≡ members e t
    same e = recorded_members t c r e W p q

    by : (e : ℕ) → c ≡ e → SoundRecord (get t (cell (rec e))) (members e t) → SoundRecord r (members e t)
    by e n s = let z : 0 < get t (cell (rec e)) = subst (λ (j : ℕ). 0 < get t (cell (rec j))) n h in omega arith

-- the words of a context's flows tell the context
pub low_low : (c e : ℕ) → 0 < c → 0 < e → eqb (low_flow c) (low_flow e) ≡ eqb c e
low_low c e p q = by (ℕ_discrete c e)
  where
    by : Dec (c ≡ e) → eqb (low_flow c) (low_flow e) ≡ eqb c e
    by (yes n) = rw n (eq-eqb (low_flow e) (low_flow e) refl ∙ sym (eq-eqb e e refl))
    by (no n) = ne_eqb (low_flow c) (low_flow e) (λ z. n (omega (arith, z, p, q))) ∙ sym (ne_eqb c e n)

pub high_high : (c e : ℕ) → 0 < c → 0 < e → eqb (high_flow c) (high_flow e) ≡ eqb c e
high_high c e p q = by (ℕ_discrete c e)
  where
    by : Dec (c ≡ e) → eqb (high_flow c) (high_flow e) ≡ eqb c e
    by (yes n) = rw n (eq-eqb (high_flow e) (high_flow e) refl ∙ sym (eq-eqb e e refl))
    by (no n) = ne_eqb (high_flow c) (high_flow e) (λ z. n (omega (arith, z, p, q))) ∙ sym (ne_eqb c e n)

pub low_high : (c e : ℕ) → eqb (low_flow c) (high_flow e) ≡ false
low_high c e = ne_eqb (low_flow c) (high_flow e) (λ z. omega (arith, z))

pub high_low : (c e : ℕ) → eqb (high_flow c) (low_flow e) ≡ false
high_low c e = ne_eqb (high_flow c) (low_flow e) (λ z. omega (arith, z))

-- the flows of a context
pub flowed_sound : (t : List ℕ) (c : ℕ) (q : Square) → Whole t → 0 < c → c ≤ contexts → Shape q → Fit (members c t) q → Whole (apply (flowing c q []) t)
unfolding flowing pick
flowed_sound t c q W p l s f =
    landed ws t W
    (record {
      within = (omega arith, (omega arith, tt));
      place = W.place;
      word = W.word;
      absent = W.absent;
      held = λ e u v. rw (same e) (W.held e u v);
      marked = W.marked;
      flows = λ e u v. rw (same e, low_low c e p u, high_low c e, low_high c e, high_high c e p u) (by e (eqb c e) refl (W.flows e u v));
      speech = W.speech;
    })
  where
    ws : List Write
    ws = flowing c q []

    same : (e : ℕ) → members e (apply ws t) ≡ members e t
    same e = members_same e t (apply ws t) (length_apply ws t) (λ j b. get_apply (fitted t) ws (ctx j) t (omega arith, (omega arith, tt)) b W.long)

    by : (e : ℕ) (b : Bool) → eqb c e ≡ b → SoundFlows (get t (cell (flow (low_flow e)))) (get t (cell (flow (high_flow e)))) (members e t)
        → SoundFlows (pick b (low_of q) (get t (cell (flow (low_flow e))))) (pick b (high_of q) (get t (cell (flow (high_flow e))))) (members e t)
    by e true n k = subst (λ (j : ℕ). SoundFlows (low_of q) (high_of q) (members j t)) (eqb-true c e n) (sound_packed q (members c t) s f)
    by e false n k = k
