-- The conditions of demand 3 as computed tests; each holds exactly when its condition does (`apart-is`, in proofs/).
use Rattle.std.specs.Prelude.{ℕ, Bool, true, false, not, ◌&&◌, List, ◌++◌}
use Rattle.std.proofs.Math.Option.{Option, none, some}
use Rattle.base.specs.Lists.{has}
use Rattle.megaco.specs.Bytes.{star, dollar}
use Rattle.megaco.specs.Tree.{Transaction}
use Rattle.megaco.specs.Table.{fitted, ctx, get}
use Rattle.megaco.specs.Names.{name_of}
use Rattle.protocol.specs.Types.{Context, Null, Numbered, Choose, All, Name, Termination, Root, Chosen, Unchosen, Wildcard, Unmatched, Unknown}
use Rattle.laws.specs.Membership.{all?, none_shared?, only_zero_shared?, collect}
use Rattle.laws.specs.Apart.{contexts_of, names_of}

unfoldable pub by_number_or_null? : Context → Bool
by_number_or_null? Null = true
by_number_or_null? (Numbered c) = true
by_number_or_null? Choose = false
by_number_or_null? All = false

unfoldable pub contexts_plain? : Transaction → Bool
contexts_plain? x = all? by_number_or_null? (contexts_of x)

unfoldable pub name_plain? : List ℕ → Bool
name_plain? n = not (has star n) && not (has dollar n)

unfoldable pub names_plain? : Transaction → Bool
names_plain? x = all? name_plain? (names_of x)

-- the termination that a name means, the number that a context is written by
unfoldable pub termination_of : Name → Option ℕ
termination_of (Termination i) = some i
termination_of Root = none
termination_of Chosen = none
termination_of Unchosen = none
termination_of (Wildcard r) = none
termination_of Unmatched = none
termination_of Unknown = none

unfoldable pub written_number : Context → Option ℕ
written_number Null = none
written_number (Numbered c) = some c
written_number Choose = none
written_number All = none

-- the terminations named, the contexts written, the context words of terminations
unfoldable pub named : ℕ → Transaction → List ℕ
named lines x = collect (λ n. termination_of (name_of lines n)) (names_of x)

unfoldable pub numbered : Transaction → List ℕ
numbered x = collect written_number (contexts_of x)

unfoldable pub standing : List ℕ → List ℕ → List ℕ
standing t is = collect (λ i. some (get t (ctx i))) is

-- the contexts written, and those that the terminations named stand in
unfoldable pub reached : List ℕ → Transaction → List ℕ
reached t x = numbered x ++ standing t (named (fitted t) x)

unfoldable pub terminations_apart? : ℕ → Transaction → Transaction → Bool
terminations_apart? lines x y = none_shared? (named lines x) (named lines y)

unfoldable pub contexts_apart? : List ℕ → Transaction → Transaction → Bool
contexts_apart? t x y = only_zero_shared? (reached t x) (reached t y)

unfoldable pub apart? : List ℕ → Transaction → Transaction → Bool
apart? t x y = contexts_plain? x && contexts_plain? y && names_plain? x && names_plain? y && terminations_apart? (fitted t) x y && contexts_apart? t x y
