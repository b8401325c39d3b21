-- Parts of a reply's texts that are written by themselves, and the copy of a transaction's text out of a scratch buffer.
use Rattle.std.specs.Prelude.{ℕ, List, take, ltb}
use Rattle.base.specs.Pick.{pick}
use Rattle.base.specs.Bytes.{text, decimal, ◌then◌}
use Rattle.megaco.specs.Reply.{error_text, context_text, reply_text}
use Rattle.protocol.specs.Types.{Context}

-- `P=id{`
unfoldable pub reply_open : ℕ → List ℕ
reply_open id = text "P=" then decimal id then text "{"

-- `C=id{`
unfoldable pub action_open : Context → List ℕ
action_open c = text "C=" then context_text c then text "{"

-- "If `P=id{..}` would pass 2,048 bytes it becomes `P=id{ER=533{}}`": of a scratch buffer the n bytes that are used, or the error where they
-- are over 2,048
unfoldable pub limited_from : ℕ → List ℕ → ℕ → List ℕ
limited_from id scratch n = pick (ltb n 2049) (take n scratch) (reply_text id (error_text 533))
