-- One line is judged exactly as the grammar derives it.
use Rattle.megaco.proofs.NumberParts.{same_value, same_next}
use Rattle.std.specs.Prelude.{Some, None}
use Prim.Native.Nat.{ℕ, zero, suc, ◌+◌, ◌*◌, ◌-◌, ◌<◌, ◌≤◌}
use mathlib.Core.Path.{◌≡◌, refl, sym, ap, ◌∙◌}
use mathlib.Core.Bool.{Bool, true, false, not, ◌&&◌, ◌||◌, or-true}
use mathlib.Core.List.{List, [], ◌∷◌, ◌++◌, append_assoc, append-nil}
use native.Mathlib.Omega.{arith}
use lib.ListN.{length, get_or, drop, length-drop, drop_of_length-le}
use lib.Seq.{drop-drop}
use lib.Dec.{eqb, leb}
use borrow.Author.Tests.{eq-eqb, ne_eqb, eqb-true, eqb-false, le-leb, leb-true}
use Rattle.base.specs.Pick.{pick}
use Rattle.base.specs.Lists.{every, same, has, is_at}
use Rattle.base.specs.Bytes.{text}
use Rattle.base.proofs.TestLaws.{clash, pick_both, and_both, same_is, or_neither}
use Rattle.megaco.specs.Bytes.{equal, dot, is_letter, is_digit, is_line_end}
use Rattle.megaco.specs.Tokens.{letter_at, number_at}
use Rattle.grammar.specs.Characters.{ALPHA, upper, lower, DIGIT, digit, WSP, SP, HTAB, Many, no_more, and_then}
use Rattle.grammar.specs.Grammar.{V4hex, UINT, uint, UINT16}
use Rattle.grammar.proofs.Classes.{letter_passes, letter_tells}
use Rattle.grammar.proofs.NameLaws.{many_append}
use Rattle.grammar.proofs.Places.{Counts, behind, whether, given}
use Rattle.grammar.proofs.RowLaws.{Stops, number_complete, number_sound}
use Rattle.megaco.specs.Sdp.{begins, given_at, plus, joined, dotted_part_at, dotted_pair_at, dotted_at, ending, connection_of, payload_of, audio_of, is_blank, another_letter, is_skipped, sdp_line_of}
use Rattle.sdp_grammar.specs.Subset.{InLine, in_line, sdp_line, blank_line, other_line, version_line, connection_line, media_line}
use Rattle.protocol.specs.Types.{Number, number, SdpLine, Skipped, Version, Connection, Audio, Strange}

-- ---- complete

begins_own : (form t : List ℕ) → begins form (form ++ t) ≡ true
unfolding begins pick
begins_own [] t = refl
begins_own (x ∷ form) t = rw (eq-eqb x x refl) (begins_own form t)

given_yes : (form t s : List ℕ) (p : ℕ) → drop p s ≡ form ++ t → given_at form s p ≡ true
unfolding given_at
given_yes form t s p h = rw h (begins_own form t)

joined_complete : (s form t r : List ℕ) (k v w : ℕ) (x : Number) (f : ℕ → Number) → Counts s x v (form ++ t) → ((p : ℕ) → drop p s ≡ t → Counts s (f p) w r)
    → Counts s (joined k x form s f) (v * k + w) r
unfolding joined plus pick
joined_complete s form t r k v w x f y h =
    given (h (y.end + length form) (behind s form t y.end y.leaves)) (λ z.
    record { end = z.end; is = rw (y.is, given_yes form t s y.end y.leaves, z.is); leaves = z.leaves })

pair_complete : (s rest : List ℕ) {a b : List ℕ} {i j : ℕ} (at : ℕ) → V4hex a i → V4hex b j → Stops is_digit rest → drop at s ≡ a ++ (dot ∷ b ++ rest)
    → Counts s (dotted_pair_at s at) (i * 256 + j) rest
unfolding dotted_pair_at dotted_part_at is_digit
pair_complete s rest {a} {b} {i} {j} at x y k h =
    joined_complete s (text ".") (b ++ rest) rest 256 i j _ _ (number_complete s (dot ∷ b ++ rest) at 3 255 x refl h) (λ p m. number_complete s rest p 3 255 y k m)

address_complete : (s : List ℕ) {a b c d : List ℕ} {i j k l : ℕ} (at : ℕ) → V4hex a i → V4hex b j → V4hex c k → V4hex d l
    → drop at s ≡ a ++ (dot ∷ b ++ (dot ∷ c ++ dot ∷ d)) → Counts s (dotted_at s at) ((i * 256 + j) * 65536 + (k * 256 + l)) []
unfolding dotted_at is_digit
address_complete s {a} {b} {c} {d} {i} {j} {k} {l} at x y z w h =
    joined_complete s (text ".") (c ++ dot ∷ d) [] 65536 (i * 256 + j) (k * 256 + l) _ _
    (pair_complete s (dot ∷ c ++ dot ∷ d) at x y refl h) (λ p m. pair_complete s [] p z w refl (m ∙ ap (λ r. c ++ dot ∷ r) (sym (append-nil d))))

nothing_left : (l : List ℕ) (e : ℕ) → drop e l ≡ [] → length l ≤ e
nothing_left l e h = omega (arith, sym (length-drop e l) ∙ ap length h)

ending_complete : (l : List ℕ) (v : ℕ) (x : Number) (f : ℕ → SdpLine) → Counts l x v [] → ending x (length l) f ≡ f v
unfolding ending pick
ending_complete l v x f y = rw (y.is, le-leb (length l) y.end (nothing_left l y.end y.leaves))

connection_open : (t : List ℕ) → let l = text "c=IN IP4 " ++ t in sdp_line_of l ≡ ending (dotted_at l 9) (length l) Connection
unfolding sdp_line_of is_skipped every is_blank pick another_letter letter_at is_letter is_at same connection_of given_at begins
connection_open t = refl

media_open : (t : List ℕ) → let l = text "m=audio " ++ t in sdp_line_of l ≡ payload_of l (number_at l 8 5 65535)
unfolding sdp_line_of is_skipped every is_blank pick another_letter letter_at is_letter is_at same audio_of given_at begins
media_open t = refl

type_complete : (l rest : List ℕ) (p k : ℕ) (x : Number) → Counts l x p (text " RTP/AVP " ++ rest) → ((q : ℕ) → drop q l ≡ rest → Counts l (number_at l q 3 127) k []) → payload_of l x ≡ Audio p k
unfolding payload_of pick
type_complete l rest p k x y h =
    given y.end (λ e. rw (y.is, given_yes (text " RTP/AVP ") rest l y.end y.leaves)
    (ending_complete l k _ (Audio p) (h (y.end + 9) (behind l (text " RTP/AVP ") rest y.end y.leaves))))

blank_every : {a : List ℕ} → Many WSP a → every is_blank a ≡ true
unfolding every is_blank pick
blank_every no_more = refl
blank_every (and_then SP m) = blank_every m
blank_every (and_then HTAB m) = blank_every m

not_one : (b c : ℕ) → has c (text "vcm") ≡ true → has b (text "vcm") ≡ false → eqb b c ≡ false
not_one b c y n = whether (eqb b c) (λ e. absurd (clash (sym y ∙ ap (λ x. has x (text "vcm")) (sym (eqb-true b c e)) ∙ n))) (λ e. e)

another_yes : (b : ℕ) (bs : List ℕ) → is_letter b ≡ true → has b (text "vcm") ≡ false → another_letter (b ∷ equal ∷ bs) ≡ true
unfolding another_letter letter_at is_at has pick
another_yes b bs l n = rw (l, not_one b 0x76 refl n, not_one b 0x63 refl n, not_one b 0x6d refl n)

skipped_by : (l : List ℕ) → is_skipped l ≡ true → sdp_line_of l ≡ Skipped
unfolding sdp_line_of pick
skipped_by l e = rw e

blank_skips : {a : List ℕ} → Many WSP a → is_skipped a ≡ true
unfolding is_skipped
blank_skips m = rw (blank_every m)

other_skips : (b : ℕ) (bs : List ℕ) → is_letter b ≡ true → has b (text "vcm") ≡ false → is_skipped (b ∷ equal ∷ bs) ≡ true
unfolding is_skipped
other_skips b bs l n = rw (another_yes b bs l n) (or-true (every is_blank (b ∷ equal ∷ bs)))

version_is : sdp_line_of (text "v=0") ≡ Version
unfolding sdp_line_of is_skipped every is_blank pick another_letter letter_at is_letter is_at same
version_is = refl

media_is : {a b : List ℕ} {p k : ℕ} → UINT16 a p → UINT 3 127 b k → sdp_line_of (text "m=audio " ++ (a ++ (text " RTP/AVP " ++ b))) ≡ Audio p k
unfolding is_digit
media_is {a} {b} {p} {k} x y =
    let l = text "m=audio " ++ (a ++ (text " RTP/AVP " ++ b)) in
    media_open (a ++ (text " RTP/AVP " ++ b))
    ∙ type_complete l b p k _ (number_complete l (text " RTP/AVP " ++ b) 8 5 65535 x refl refl) (λ q m. number_complete l [] q 3 127 y refl (m ∙ sym (append-nil b)))

pub line_complete : {a : List ℕ} {x : SdpLine} → sdp_line a x → sdp_line_of a ≡ x
line_complete {a} (blank_line m) = skipped_by a (blank_skips m)
line_complete (other_line {b} {bs} x n m) = skipped_by (b ∷ equal ∷ bs) (other_skips b bs (letter_passes b x) n)
line_complete version_line = version_is
line_complete (connection_line {a} {b} {c} {d} {i} {j} {k} {l} x y z w) =
    let t = a ++ (dot ∷ b ++ (dot ∷ c ++ dot ∷ d)) in
    let v : (i * 256 + j) * 65536 + (k * 256 + l) ≡ i * 0x1000000 + j * 0x10000 + k * 0x100 + l = omega arith in
    connection_open t ∙ ending_complete (text "c=IN IP4 " ++ t) _ _ Connection (address_complete (text "c=IN IP4 " ++ t) 9 x y z w refl) ∙ ap Connection v
line_complete (media_line x y) = media_is x y

-- no line end stands in a line
digit_in : {b : ℕ} → DIGIT b → InLine b
unfolding is_line_end
digit_in (digit {b} l h) = in_line {b = b} (rw (ne_eqb b 0x0d (λ e. omega arith), ne_eqb b 0x0a (λ e. omega arith)))

alpha_in : {b : ℕ} → ALPHA b → InLine b
unfolding is_line_end
alpha_in (upper {b} l h) = in_line {b = b} (rw (ne_eqb b 0x0d (λ e. omega arith), ne_eqb b 0x0a (λ e. omega arith)))
alpha_in (lower {b} l h) = in_line {b = b} (rw (ne_eqb b 0x0d (λ e. omega arith), ne_eqb b 0x0a (λ e. omega arith)))

digits_in : {a : List ℕ} → Many DIGIT a → Many InLine a
digits_in no_more = no_more
digits_in (and_then d m) = and_then (digit_in d) (digits_in m)

uint_in : {most limit : ℕ} {a : List ℕ} {v : ℕ} → UINT most limit a v → Many InLine a
uint_in (uint d ds m l) = and_then (digit_in d) (digits_in ds)

every_in : (a : List ℕ) → every (λ b. not (is_line_end b)) a ≡ true → Many InLine a
unfolding every
every_in [] e = no_more
every_in (b ∷ a) e =
    let p = pick_both (not (is_line_end b)) _ e in
    and_then (in_line (whether (is_line_end b) (λ t. absurd (clash (sym (rw t at p.0)))) (λ t. t))) (every_in a p.1)

blank_in : {a : List ℕ} → Many WSP a → Many InLine a
unfolding is_line_end
blank_in no_more = no_more
blank_in (and_then SP m) = and_then (in_line refl) (blank_in m)
blank_in (and_then HTAB m) = and_then (in_line refl) (blank_in m)

pub line_in : {a : List ℕ} {x : SdpLine} → sdp_line a x → Many InLine a
unfolding is_line_end every pick
line_in (blank_line m) = blank_in m
line_in (other_line x n m) = and_then (alpha_in x) (and_then (in_line refl) m)
line_in version_line = every_in (text "v=0") refl
line_in (connection_line x y z w) =
    many_append (every_in (text "c=IN IP4 ") refl) (many_append (uint_in x) (and_then (in_line refl) (many_append (uint_in y) (and_then (in_line refl)
    (many_append (uint_in z) (and_then (in_line refl) (uint_in w)))))))
line_in (media_line x y) = many_append (every_in (text "m=audio ") refl) (many_append (uint_in x) (many_append (every_in (text " RTP/AVP ") refl) (uint_in y)))

-- ---- sound

begins_split : (form t : List ℕ) → begins form t ≡ true → t ≡ form ++ drop (length form) t
unfolding begins
begins_split [] t e = refl
begins_split (x ∷ form) [] e = absurd (clash (sym e))
begins_split (x ∷ form) (b ∷ t) e =
    let p = pick_both (eqb b x) (begins form t) e in
    let q : b ≡ x = eqb-true b x p.0 in
    let r : t ≡ form ++ drop (length form) t = begins_split form t p.1 in
    λ i. q i ∷ r i

given_split : (form s : List ℕ) (p : ℕ) → given_at form s p ≡ true → drop p s ≡ form ++ drop (p + length form) s
unfolding given_at
given_split form s p e = begins_split form (drop p s) e ∙ ap (λ t. form ++ t) (drop-drop (length form) p s)

bad_got : {v e : ℕ} → None ≡ number v e → ⊥
bad_got h = let z : ◌≡◌ {A = ℕ} 0 1 = cc in omega arith

plus_got : (a v e : ℕ) (r : Number) → plus a r ≡ number v e → (w : ℕ) × (r ≡ number w e) × (v ≡ a + w)
unfolding plus
plus_got a v e (Some (w, q)) h = (w, ap (number w) (same_next h), sym (same_value h))
plus_got a v e None h = absurd (bad_got h)

joined_got : {C : Type 0} (k : ℕ) (x : Number) (form s : List ℕ) (f : ℕ → Number) (v e : ℕ) → joined k x form s f ≡ number v e
    → ((u p w : ℕ) → x ≡ number u p → given_at form s p ≡ true → f (p + length form) ≡ number w e → v ≡ u * k + w → C) → C
unfolding joined pick
joined_got k None form s f v e h c = absurd (bad_got h)
joined_got {C} k (Some (u, p)) form s f v e h c = go (given_at form s p) refl h
  where
    go : (t : Bool) → given_at form s p ≡ t → pick t (plus (u * k) (f (p + length form))) None ≡ number v e → C
    go true g l = let r = plus_got (u * k) v e (f (p + length form)) l in c u p r.0 refl g r.1 r.2
    go false g l = absurd (bad_got l)

pair_got : {C : Type 0} (s : List ℕ) (at v e : ℕ) → dotted_pair_at s at ≡ number v e
    → ((a b : List ℕ) (i j : ℕ) → V4hex a i → V4hex b j → drop at s ≡ a ++ (dot ∷ b ++ drop e s) → v ≡ i * 256 + j → C) → C
unfolding dotted_pair_at dotted_part_at
pair_got s at v e h c = joined_got 256 _ (text ".") s _ v e h (λ u p w x g y z.
    given (number_sound s at 3 255 u p x) (λ m. given (number_sound s (p + 1) 3 255 w e y) (λ n.
    c m.bytes n.bytes u w m.derives n.derives (m.split ∙ ap (λ t. m.bytes ++ t) (given_split (text ".") s p g ∙ ap (λ t. dot ∷ t) n.split)) z)))

address_got : {C : Type 0} (s : List ℕ) (at v e : ℕ) → dotted_at s at ≡ number v e
    → ((a b c d : List ℕ) (i j k l : ℕ) → V4hex a i → V4hex b j → V4hex c k → V4hex d l → drop at s ≡ a ++ (dot ∷ b ++ (dot ∷ c ++ (dot ∷ d ++ drop e s)))
    → v ≡ i * 0x1000000 + j * 0x10000 + k * 0x100 + l → C) → C
unfolding dotted_at
address_got s at v e h r = joined_got 65536 _ (text ".") s _ v e h (λ u p w x g y z.
    pair_got s at u p x (λ a b i j m n o q. pair_got s (p + 1) w e y (λ c d k l m' n' o' q'.
    r a b c d i j k l m n m' n' (o ∙ ap (λ t. a ++ (dot ∷ b ++ t)) (given_split (text ".") s p g ∙ ap (λ t. dot ∷ t) o')) (omega arith))))

-- a number that ended a line
ending_got : {C : Type 0} (x : Number) (l : List ℕ) (f : ℕ → SdpLine) → (ending x (length l) f ≡ Strange → ⊥) → ((v e : ℕ) → x ≡ number v e → drop e l ≡ [] → ending x (length l) f ≡ f v → C) → C
unfolding ending pick
ending_got None l f n c = absurd (n refl)
ending_got {C} (Some (v, e)) l f n c = go (leb (length l) e) refl
  where
    none_left : length l ≤ e → drop e l ≡ []
    none_left h = drop_of_length-le l h

    go : (t : Bool) → leb (length l) e ≡ t → C
    go true k = c v e refl (none_left (leb-true (length l) e k)) (rw k)
    go false k = absurd (n (rw k))

connection_sound : (l : List ℕ) → (connection_of l ≡ Strange → ⊥) → sdp_line l (connection_of l)
unfolding connection_of pick
connection_sound l n = go (given_at (text "c=IN IP4 ") l 0) refl n
  where
    go : (t : Bool) → given_at (text "c=IN IP4 ") l 0 ≡ t → (pick t (ending (dotted_at l 9) (length l) Connection) Strange ≡ Strange → ⊥)
        → sdp_line l (pick t (ending (dotted_at l 9) (length l) Connection) Strange)
    go false g m = absurd (m refl)
    go true g m = ending_got (dotted_at l 9) l Connection m (λ v e x o y. address_got l 9 v e x (λ a b c d i j k q m₁ m₂ m₃ m₄ s z.
        let w : l ≡ text "c=IN IP4 " ++ (a ++ (dot ∷ b ++ (dot ∷ c ++ dot ∷ d))) =
        given_split (text "c=IN IP4 ") l 0 g ∙ ap (λ t. text "c=IN IP4 " ++ t) (s ∙ ap (λ t. a ++ (dot ∷ b ++ (dot ∷ c ++ (dot ∷ d ++ t)))) o ∙ ap (λ t. a ++ (dot ∷ b ++ (dot ∷ c ++ dot ∷ t))) (append-nil d)) in
        rw (y, z, w) (connection_line m₁ m₂ m₃ m₄)))

media_sound : (l : List ℕ) → (audio_of l ≡ Strange → ⊥) → sdp_line l (audio_of l)
unfolding audio_of payload_of pick
media_sound l n = go (given_at (text "m=audio ") l 0) refl n
  where
    types : (p q : ℕ) → number_at l 8 5 65535 ≡ number p q → given_at (text "m=audio ") l 0 ≡ true → (t : Bool) → given_at (text " RTP/AVP ") l q ≡ t
        → (pick t (ending (number_at l (q + 9) 3 127) (length l) (Audio p)) Strange ≡ Strange → ⊥)
        → sdp_line l (pick t (ending (number_at l (q + 9) 3 127) (length l) (Audio p)) Strange)
    types p q x g false h m = absurd (m refl)
    types p q x g true h m = ending_got (number_at l (q + 9) 3 127) l (Audio p) m (λ v e y o z.
        given (number_sound l 8 5 65535 p q x) (λ a. given (number_sound l (q + 9) 3 127 v e y) (λ b.
        let w : l ≡ text "m=audio " ++ (a.bytes ++ (text " RTP/AVP " ++ b.bytes)) =
        given_split (text "m=audio ") l 0 g ∙ ap (λ t. text "m=audio " ++ t) (a.split ∙ ap (λ t. a.bytes ++ t)
        (given_split (text " RTP/AVP ") l q h ∙ ap (λ t. text " RTP/AVP " ++ t) (b.split ∙ ap (λ t. b.bytes ++ t) o ∙ append-nil b.bytes))) in
        rw (z, w) (media_line a.derives b.derives))))

    ports : (r : Number) → number_at l 8 5 65535 ≡ r → given_at (text "m=audio ") l 0 ≡ true → (payload_of l r ≡ Strange → ⊥) → sdp_line l (payload_of l r)
    ports (Some (p, q)) x g m = types p q x g (given_at (text " RTP/AVP ") l q) refl m
    ports None x g m = absurd (m refl)

    go : (t : Bool) → given_at (text "m=audio ") l 0 ≡ t → (pick t (payload_of l (number_at l 8 5 65535)) Strange ≡ Strange → ⊥) → sdp_line l (pick t (payload_of l (number_at l 8 5 65535)) Strange)
    go false g m = absurd (m refl)
    go true g m = ports (number_at l 8 5 65535) refl g m

blank_many : (l : List ℕ) → every is_blank l ≡ true → Many WSP l
unfolding every is_blank
blank_many [] e = no_more
blank_many (b ∷ l) e =
    let p = pick_both (eqb b 0x20 || eqb b 0x09) _ e in
    and_then {b = b} (whether (eqb b 0x20) (λ t. rw (eqb-true b 0x20 t) SP) (λ t. rw (eqb-true b 0x09 (rw t at p.0)) HTAB)) (blank_many l p.1)

none_of : (b : ℕ) → eqb b 0x76 ≡ false → eqb b 0x63 ≡ false → eqb b 0x6d ≡ false → has b (text "vcm") ≡ false
unfolding has pick
none_of b x y z = rw (turned b 0x76 x, turned b 0x63 y, turned b 0x6d z)
  where
    turned : (a c : ℕ) → eqb a c ≡ false → eqb c a ≡ false
    turned a c e = ne_eqb c a (λ h. eqb-false a c e (sym h))

not_yes : (b : Bool) → not b ≡ true → b ≡ false
not_yes true e = absurd (clash (sym e))
not_yes false e = refl

five : (a b c d e : Bool) → (a && b && c && d && e) ≡ true → (a ≡ true) × (b ≡ true) × (c ≡ true) × (d ≡ true) × (e ≡ true)
five a b c d e h =
    let p = and_both (a && b && c && d) e h in
    let q = and_both (a && b && c) d p.0 in
    let r = and_both (a && b) c q.0 in
    let u = and_both a b r.0 in
    (u.0, u.1, r.1, q.1, p.1)

another_sound : (l : List ℕ) → Many InLine l → another_letter l ≡ true → sdp_line l Skipped
unfolding another_letter letter_at is_at
another_sound l m e = go l m (five (is_letter (get_or l 0 0)) (not (eqb (get_or l 0 0) 0x76)) (not (eqb (get_or l 0 0) 0x63)) (not (eqb (get_or l 0 0) 0x6d)) (eqb (get_or l 1 0) equal) e)
  where
    go : (t : List ℕ) → Many InLine t
        → (is_letter (get_or t 0 0) ≡ true) × (not (eqb (get_or t 0 0) 0x76) ≡ true) × (not (eqb (get_or t 0 0) 0x63) ≡ true) × (not (eqb (get_or t 0 0) 0x6d) ≡ true) × (eqb (get_or t 1 0) equal ≡ true)
        → sdp_line t Skipped
    go [] i p = absurd (clash (sym p.4))
    go (b ∷ []) i p = absurd (clash (sym p.4))
    go (b ∷ c ∷ t) (and_then i (and_then j k)) p =
        rw (eqb-true c equal p.4) (other_line (letter_tells b p.0) (none_of b (not_yes _ p.1) (not_yes _ p.2) (not_yes _ p.3)) k)

skipped_sound : (l : List ℕ) → Many InLine l → is_skipped l ≡ true → sdp_line l Skipped
unfolding is_skipped
skipped_sound l m e = whether (every is_blank l) (λ t. blank_line (blank_many l t)) (λ t. another_sound l m (rw t at e))

pub line_sound : (l : List ℕ) → Many InLine l → (sdp_line_of l ≡ Strange → ⊥) → sdp_line l (sdp_line_of l)
unfolding sdp_line_of pick
line_sound l m n = one (is_skipped l) refl n
  where
    three : (t : Bool) → is_at l 0 0x63 ≡ t → (pick t (connection_of l) (audio_of l) ≡ Strange → ⊥) → sdp_line l (pick t (connection_of l) (audio_of l))
    three true e k = connection_sound l k
    three false e k = media_sound l k

    two : (t : Bool) → same l (text "v=0") ≡ t → (pick t Version (pick (is_at l 0 0x63) (connection_of l) (audio_of l)) ≡ Strange → ⊥)
        → sdp_line l (pick t Version (pick (is_at l 0 0x63) (connection_of l) (audio_of l)))
    two true e k = rw (same_is l (text "v=0") e) version_line
    two false e k = three (is_at l 0 0x63) refl k

    one : (t : Bool) → is_skipped l ≡ t → (pick t Skipped (pick (same l (text "v=0")) Version (pick (is_at l 0 0x63) (connection_of l) (audio_of l))) ≡ Strange → ⊥)
        → sdp_line l (pick t Skipped (pick (same l (text "v=0")) Version (pick (is_at l 0 0x63) (connection_of l) (audio_of l))))
    one true e k = skipped_sound l m e
    one false e k = two (same l (text "v=0")) refl k
