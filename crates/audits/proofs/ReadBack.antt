-- The text of an audit tells the state and the mode.
use Prim.Native.Nat.{ℕ, zero, suc, ◌+◌, ◌*◌, ◌≤◌, ◌<◌}
use mathlib.Core.Path.{◌≡◌, refl, sym, ap, ◌∙◌}
use mathlib.Core.Bool.{true}
use mathlib.Core.List.{List, [], ◌∷◌, ◌++◌}
use lib.ListN.{get_or}
use lib.Dec.{eqb}
use native.Mathlib.Omega.{arith}
use Rattle.base.specs.Pick.{pick}
use Rattle.base.specs.Bytes.{text, ◌then◌}
use Rattle.megaco.specs.Table.{terminations, fitted, cell, prop, get, mode_of, state_of, sound}
use Rattle.megaco.specs.Reply.{media, state_text, mode_text, service_states, local_control, descriptors, detail_text}
use Rattle.megaco.specs.Attempt.{detail_of}
use Rattle.laws.specs.Sound.{SoundWord}
use Rattle.laws.proofs.Sound.{sound_whole}
use Rattle.audits.specs.Audits.{TextsTell}

-- the state by the first letter of its text, the mode by the second of its
abbrev state_by : ℕ → ℕ
state_by b = pick (eqb b 0x49) 0 (pick (eqb b 0x4f) 1 2)

abbrev mode_by : ℕ → ℕ
mode_by b = pick (eqb b 0x4e) 0 (pick (eqb b 0x4f) 1 (pick (eqb b 0x43) 2 (pick (eqb b 0x52) 3 4)))

abbrev state_in : List ℕ → ℕ
state_in x = state_by (get_or x 9 0)

abbrev mode_in : List ℕ → ℕ
mode_in x = mode_by (get_or x 19 0)

-- each of the fifteen texts
read_back : (s m : ℕ) → s ≤ 2 → m ≤ 4 → (state_in (detail_text (media s m)) ≡ s) × (mode_in (detail_text (media s m)) ≡ m)
unfolding detail_text descriptors service_states local_control state_text mode_text ◌then◌ pick
read_back zero zero h k = (refl, refl)
read_back zero (suc zero) h k = (refl, refl)
read_back zero (suc (suc zero)) h k = (refl, refl)
read_back zero (suc (suc (suc zero))) h k = (refl, refl)
read_back zero (suc (suc (suc (suc zero)))) h k = (refl, refl)
read_back zero (suc (suc (suc (suc (suc m))))) h k = absurd (omega arith)
read_back (suc zero) zero h k = (refl, refl)
read_back (suc zero) (suc zero) h k = (refl, refl)
read_back (suc zero) (suc (suc zero)) h k = (refl, refl)
read_back (suc zero) (suc (suc (suc zero))) h k = (refl, refl)
read_back (suc zero) (suc (suc (suc (suc zero)))) h k = (refl, refl)
read_back (suc zero) (suc (suc (suc (suc (suc m))))) h k = absurd (omega arith)
read_back (suc (suc zero)) zero h k = (refl, refl)
read_back (suc (suc zero)) (suc zero) h k = (refl, refl)
read_back (suc (suc zero)) (suc (suc zero)) h k = (refl, refl)
read_back (suc (suc zero)) (suc (suc (suc zero))) h k = (refl, refl)
read_back (suc (suc zero)) (suc (suc (suc (suc zero)))) h k = (refl, refl)
read_back (suc (suc zero)) (suc (suc (suc (suc (suc m))))) h k = absurd (omega arith)
read_back (suc (suc (suc s))) m h k = absurd (omega arith)

-- a property word is its mode and its state
word_by : (w v : ℕ) → mode_of w ≡ mode_of v → state_of w ≡ state_of v → w ≡ v
word_by w v e f = omega arith

word_read_back : (w v : ℕ) → SoundWord w → SoundWord v → detail_text (detail_of true w) ≡ detail_text (detail_of true v) → w ≡ v
unfolding detail_of pick
word_read_back w v a b e =
    let p = read_back (state_of w) (mode_of w) a.state a.mode in
    let q = read_back (state_of v) (mode_of v) b.state b.mode in
    word_by w v (sym p.1 ∙ ap mode_in e ∙ q.1) (sym p.0 ∙ ap state_in e ∙ q.0)

pub texts_tell : TextsTell
texts_tell t s i j h k e = let W = sound_whole t s in word_read_back _ _ (W.word i h) (W.word j k) e
