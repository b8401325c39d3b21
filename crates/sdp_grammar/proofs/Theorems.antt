-- The reader's definition finds exactly what the grammar derives, with its one meaning.
use Prim.Native.Nat.{ℕ, suc}
use mathlib.Core.Path.{◌≡◌, refl, sym, ap, ◌∙◌}
use mathlib.Core.Bool.{Bool, true, false}
use mathlib.Core.List.{List, [], ◌∷◌, ◌++◌, append_assoc}
use native.Mathlib.Omega.{arith}
use lib.ListN.{length}
use lib.Dec.{eqb}
use borrow.Author.Tests.{eqb-true, ne_eqb}
use Rattle.base.specs.Pick.{pick}
use Rattle.base.specs.Lists.{every, is_at, same}
use Rattle.megaco.specs.Bytes.{is_line_end}
use Rattle.grammar.specs.Characters.{Many, no_more, and_then}
use Rattle.grammar.specs.Grammar.{EOL, CR, CRLF, LF}
use Rattle.grammar.proofs.Places.{whether, given}
use Rattle.megaco.specs.Sdp.{sdp_line_of, is_skipped, is_blank, sdp_step, stage_after, on_first, lines_of, sdp_finish, read_sdp}
use Rattle.sdp_grammar.specs.Subset.{InLine, in_line, sdp_line, sdp_lines, no_line, last_line, next_line, asked, Subset, session}
use Rattle.sdp_grammar.proofs.Steps.{kinds, walk, seen_walk, skip_step, other_step, broken_not, walk_session, session_walk}
use Rattle.sdp_grammar.proofs.LineLaws.{line_complete, line_in, line_sound}
use Rattle.protocol.specs.Types.{SdpLine, Skipped, SdpStage, NoLine, AfterVersion, AfterConnection, AfterAudio, Broken, EmptyText, Described}

-- ---- lines

-- a text, and its lines, each byte of a line end by itself
data Split : List ℕ → List (List ℕ) → Type 0 where
  no_split : Split [] []
  last_split : {l : List ℕ} → Many InLine l → Split l (l ∷ [])
  next_split : {l t : List ℕ} (e : ℕ) {ls : List (List ℕ)} → Many InLine l → is_line_end e ≡ true → Split t ls → Split (l ++ e ∷ t) (l ∷ ls)

split_first : (b : ℕ) {t : List ℕ} {ls : List (List ℕ)} → InLine b → Split t ls → Split (b ∷ t) (on_first b ls)
unfolding on_first
split_first b i no_split = last_split (and_then i no_more)
split_first b i (last_split m) = last_split (and_then i m)
split_first b i (next_split e m h r) = next_split e (and_then i m) h r

split : (s : List ℕ) → Split s (lines_of s)
unfolding lines_of pick
split [] = no_split
split (b ∷ t) = go (is_line_end b) refl (split t)
  where
    go : (x : Bool) → is_line_end b ≡ x → Split t (lines_of t) → Split (b ∷ t) (pick x ([] ∷ lines_of t) (on_first b (lines_of t)))
    go true e r = next_split b no_more e r
    go false e r = split_first b (in_line e) r

lines_next : {a : List ℕ} (e : ℕ) (t : List ℕ) → Many InLine a → is_line_end e ≡ true → lines_of (a ++ e ∷ t) ≡ a ∷ lines_of t
unfolding lines_of pick on_first
lines_next e t no_more h = rw h
lines_next e t (and_then (in_line i) m) h = rw (i, lines_next e t m h)

lines_last : (b : ℕ) (a : List ℕ) → Many InLine (b ∷ a) → lines_of (b ∷ a) ≡ (b ∷ a) ∷ []
unfolding lines_of pick on_first
lines_last b [] (and_then (in_line i) m) = rw i
lines_last b (c ∷ a) (and_then (in_line i) m) = rw (i, lines_last c a m)

-- ---- complete

empty_skipped : sdp_line_of [] ≡ Skipped
unfolding sdp_line_of is_skipped every pick
empty_skipped = refl

walk_last : (x : SdpStage) (a : List ℕ) (z : SdpLine) → sdp_line a z → walk x (kinds (lines_of a)) ≡ walk x (z ∷ [])
unfolding kinds walk lines_of
walk_last x [] z d = sym (skip_step x) ∙ ap (sdp_step x) (sym empty_skipped ∙ line_complete d)
walk_last x (b ∷ a) z d = rw (lines_last b a (line_in d), line_complete d)

walk_lines : {s : List ℕ} {zs : List SdpLine} (x : SdpStage) → sdp_lines s zs → walk x (kinds (lines_of s)) ≡ walk x zs
unfolding kinds walk lines_of pick is_line_end
walk_lines x no_line = refl
walk_lines x (last_line {a} {x = z} d) = walk_last x a z d
walk_lines x (next_line {a} {c} {x = z} d CR r) = rw (append_assoc a (0x0d ∷ []) c, lines_next 0x0d c (line_in d) refl, line_complete d) (walk_lines (sdp_step x z) r)
walk_lines x (next_line {a} {c} {x = z} d LF r) = rw (append_assoc a (0x0a ∷ []) c, lines_next 0x0a c (line_in d) refl, line_complete d) (walk_lines (sdp_step x z) r)
walk_lines x (next_line {a} {c} {x = z} d CRLF r) =
    rw (append_assoc a (0x0d ∷ 0x0a ∷ []) c, lines_next 0x0d (0x0a ∷ c) (line_in d) refl, line_complete d, empty_skipped, skip_step) (walk_lines (sdp_step x z) r)

-- a session's text is not empty
walk_none : (a p k : ℕ) (s : List ℕ) → length s ≡ 0 → walk NoLine (kinds (lines_of s)) ≡ AfterAudio a p k → ⊥
unfolding kinds walk lines_of
walk_none a p k [] e h = let z : ◌≡◌ {A = ℕ} 0 1 = cc in omega arith
walk_none a p k (b ∷ s) e h = omega arith

pub complete : {s : List ℕ} {a p k : ℕ} → Subset s a p k → read_sdp s ≡ Described a p k
unfolding read_sdp pick
complete (session {s} {xs} {a} {p} {k} d e) =
    let w : walk NoLine (kinds (lines_of s)) ≡ AfterAudio a p k = walk_lines NoLine d ∙ session_walk a p k xs e in
    let n : eqb (length s) 0 ≡ false = ne_eqb (length s) 0 (λ z. walk_none a p k s z w) in
    rw (n, seen_walk NoLine (lines_of s), w)

-- ---- sound

eol : (e : ℕ) → is_line_end e ≡ true → EOL (e ∷ [])
unfolding is_line_end
eol e h = whether (eqb e 0x0d) (λ t. rw (eqb-true e 0x0d t) CR) (λ t. rw (eqb-true e 0x0a (rw t at h)) LF)

lines_sound : (a p k : ℕ) {s : List ℕ} {ls : List (List ℕ)} (x : SdpStage) → Split s ls → walk x (kinds ls) ≡ AfterAudio a p k → sdp_lines s (kinds ls)
unfolding kinds walk
lines_sound a p k x no_split h = no_line
lines_sound a p k x (last_split {l} m) h = last_line (line_sound l m (λ e. broken_not a p k [] (sym (other_step x) ∙ ap (sdp_step x) (sym e) ∙ h)))
lines_sound a p k x (next_split {l} {t} e {ls} m i r) h =
    end_of i (line_sound l m (λ o. broken_not a p k (kinds ls) (rw (o, other_step x) at h))) (lines_sound a p k (sdp_step x (sdp_line_of l)) r h)
  where
    end_of : is_line_end e ≡ true → sdp_line l (sdp_line_of l) → sdp_lines t (kinds ls) → sdp_lines (l ++ e ∷ t) (sdp_line_of l ∷ kinds ls)
    end_of g d q = rw (append_assoc l (e ∷ []) t) at (next_line d (eol e g) q)

finished : (x : SdpStage) (a p k : ℕ) → sdp_finish x ≡ Described a p k → x ≡ AfterAudio a p k
finished (AfterAudio b q l) a p k h = cc
finished NoLine a p k h = let z : ◌≡◌ {A = ℕ} 0 1 = cc in absurd (omega arith)
finished AfterVersion a p k h = let z : ◌≡◌ {A = ℕ} 0 1 = cc in absurd (omega arith)
finished (AfterConnection b) a p k h = let z : ◌≡◌ {A = ℕ} 0 1 = cc in absurd (omega arith)
finished Broken a p k h = let z : ◌≡◌ {A = ℕ} 0 1 = cc in absurd (omega arith)

pub read_derives : (s : List ℕ) (a p k : ℕ) → read_sdp s ≡ Described a p k → Subset s a p k
unfolding read_sdp pick
read_derives s a p k h = go (eqb (length s) 0) h
  where
    go : (t : Bool) → pick t EmptyText (sdp_finish (stage_after NoLine (lines_of s))) ≡ Described a p k → Subset s a p k
    go true g = let z : ◌≡◌ {A = ℕ} 0 1 = cc in absurd (omega arith)
    go false g =
        let w : walk NoLine (kinds (lines_of s)) ≡ AfterAudio a p k = sym (seen_walk NoLine (lines_of s)) ∙ finished (stage_after NoLine (lines_of s)) a p k g in
        session (lines_sound a p k NoLine (split s) w) (walk_session a p k (kinds (lines_of s)) w)

pub one_meaning : {s : List ℕ} {a b p q k l : ℕ} → Subset s a p k → Subset s b q l → (a ≡ b) × (p ≡ q) × (k ≡ l)
one_meaning x y = let e = sym (complete x) ∙ complete y in ((cc), (cc), (cc))
