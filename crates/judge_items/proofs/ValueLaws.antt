-- A word's keyword gives what the definition says.
use Rattle.std.specs.Prelude.{Some, None}
use Prim.Native.Nat.{ℕ}
use mathlib.Core.Path.{◌≡◌}
use mathlib.Core.List.{List}
use mathlib.Core.Option.{none, some}
use Rattle.base.specs.Pick.{pick}
use Rattle.megaco.specs.Keywords.{meaning_of}
use Rattle.megaco.proofs.Meanings.{spells_means, spells_none}
use Rattle.megaco.specs.Items.{mode_given, state_given}
use Rattle.protocol.specs.Types.{Token, InactiveToken, SendonlyToken, RecvonlyToken, SendrecvToken, LoopbackToken, InSvcToken, OutOfSvcToken, TestToken, Given}
use Rattle.keywords.specs.Page.{token_of}
use Rattle.keywords.proofs.RowLaws.{token_some, token_none}
use Rattle.keywords.specs.Page.{Meaning}
use Rattle.judge_items.specs.Judging.{mode_by, state_by}

module _ (w : List ℕ) (m : Meaning) (h : token_of m ≡ meaning_of w) where
  pub mode_token : (k : Token) (r : Given) → m ≡ Some k → r ≡ mode_by k → r ≡ mode_given w
  unfolding mode_given mode_by
  mode_token k r g q =
      let z : meaning_of w ≡ some k = token_some w m k h g in
      rw (q, spells_means InactiveToken k w z, spells_means SendonlyToken k w z, spells_means RecvonlyToken k w z, spells_means SendrecvToken k w z, spells_means LoopbackToken k w z)

  pub mode_none : m ≡ None → None ≡ mode_given w
  unfolding mode_given pick
  mode_none g =
      let z : meaning_of w ≡ none = token_none w m h g in
      rw (spells_none InactiveToken w z, spells_none SendonlyToken w z, spells_none RecvonlyToken w z, spells_none SendrecvToken w z, spells_none LoopbackToken w z)

  pub state_token : (k : Token) (r : Given) → m ≡ Some k → r ≡ state_by k → r ≡ state_given w
  unfolding state_given state_by
  state_token k r g q =
      let z : meaning_of w ≡ some k = token_some w m k h g in
      rw (q, spells_means InSvcToken k w z, spells_means OutOfSvcToken k w z, spells_means TestToken k w z)

  pub state_none : m ≡ None → None ≡ state_given w
  unfolding state_given pick
  state_none g =
      let z : meaning_of w ≡ none = token_none w m h g in
      rw (spells_none InSvcToken w z, spells_none OutOfSvcToken w z, spells_none TestToken w z)
