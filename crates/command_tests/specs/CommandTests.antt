-- What the functions over one command promise.
use Rattle.std.specs.Prelude.{ℕ, List, Some, None}
use Rattle.std.proofs.Math.Option.{Option, none, some}
use Rattle.base.specs.Pick.{pick}
use Rattle.megaco.specs.Keywords.{is_token}
use Rattle.megaco.specs.Attempt.{seen, number_of}
use Rattle.protocol.specs.Types.{Context, Op, Add, Modify, Subtract, Move, AuditValue, Token, AddToken, ModifyToken, SubtractToken, MoveToken, AuditValueToken}
use Rattle.command_tests.specs.Found.{Found}

-- the definition's answer for what a word tells
unfoldable pub found_of : Found → Option Op
found_of (Some op) = some op
found_of None = none

-- what a keyword tells
unfoldable pub op_by : Token → Found
op_by k =
    pick (is_token AddToken k) (Some Add)
    (pick (is_token ModifyToken k) (Some Modify)
    (pick (is_token SubtractToken k) (Some Subtract)
    (pick (is_token MoveToken k) (Some Move)
    (pick (is_token AuditValueToken k) (Some AuditValue) None))))

-- the record of an action's context, 0 if it does not exist
unfoldable pub held_at : Context → List ℕ → ℕ
held_at at t = (seen (number_of at) t).held
