-- At the place that is told, as long as is told, stands the text, and the name of its termination.
use Prim.Native.Nat.{ℕ, ◌+◌, ◌-◌, ◌≤◌, min}
use mathlib.Core.Path.{◌≡◌, refl, sym, ap, ◌∙◌}
use mathlib.Core.List.{List}
use native.Mathlib.Omega.{arith}
use lib.ListN.{length, drop, length-drop}
use lib.Seq.{length-take-le}
use Rattle.base.specs.Lists.{part}
use Rattle.read_command.specs.Pieces.{piece_of}
use Rattle.read_command.proofs.PartLaws.{part_within}
use Rattle.texts.specs.Texts.{holder_number, text_start, text_end, owner_start, owner_end, text_number, name_of, bytes_of, text_place, name_place, StandsAt}
use Rattle.texts.proofs.TreeLaws.{there_name, there_text}

-- a part that lies within the message
lies : (s : List ℕ) (a e : ℕ) (t : List ℕ) → a ≤ e → e ≤ length s → part s a e ≡ t → StandsAt s a t
lies s a e t o i h =
    let n : length t ≡ e - a = ap length (sym h) ∙ (unfold part in length-take-le (e - a) (drop a s) (omega (arith, length-drop a s))) in
    let z : a + length t ≡ e = omega arith in
    record { within = omega arith; bytes = ap (part s a) z ∙ h }

stands : (s : List ℕ) (a e : ℕ) (t : List ℕ) → part s a e ≡ t → StandsAt s (piece_of s a e).from t
unfolding piece_of
stands s a e t h = lies s (min a (min e (length s))) (min e (length s)) t (omega arith) (omega arith) (part_within s a e _ _ refl refl ∙ h)

pub text_stands : (s : List ℕ) (k : ℕ) → StandsAt s (text_place s k) (bytes_of (text_number s k))
unfolding text_place
text_stands s k = stands s (text_start s (holder_number s k)) (text_end s (holder_number s k)) _ (there_text s k)

pub name_stands : (s : List ℕ) (k : ℕ) → StandsAt s (name_place s k) (name_of (text_number s k))
unfolding name_place
name_stands s k = stands s (owner_start s (holder_number s k)) (owner_end s (holder_number s k)) _ (there_name s k)
