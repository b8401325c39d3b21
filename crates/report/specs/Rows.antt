-- Parts of reports that are written by themselves, and reports one after another.
use Rattle.std.specs.Prelude.{ℕ, Bool, false, List, [], ◌∷◌, eqb}
use Rattle.base.specs.Pick.{pick}
use Rattle.base.specs.Bytes.{text}
use Rattle.megaco.specs.Table.{emergency_of}
use Rattle.megaco.specs.Reply.{Report}

-- "then `,EG` if set"
unfoldable pub emergency_text : ℕ → List ℕ
emergency_text held = pick (eqb (emergency_of held) 0) [] (text ",EG")

-- whether no comma is due after some reports: `first` tells that none was due before them
unfoldable pub first_after : Bool → List Report → Bool
first_after first [] = first
first_after first (r ∷ rs) = false
