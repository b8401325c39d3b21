-- The values that a command's items can give.
use Rattle.std.specs.Prelude.{ℕ, ◌^◌, ◌≤◌, ◌<◌, Ok, Err}
use Rattle.megaco.specs.Items.{change}
use Rattle.protocol.specs.Types.{Speech, Kept, Released, Session, Values, Judged}

-- an address of 32 bits, ports 0..65535, payload types 0..127
pub data SpeechInRange : Speech → Type 0 where
  kept : SpeechInRange Kept
  released : SpeechInRange Released
  session : {a p k : ℕ} → a < 2 ^ 32 → p ≤ 65535 → k ≤ 127 → SpeechInRange (Session a p k)

-- modes 0..4, states 0..2, where they are given
pub record InRange (vs : Values) : Type 0 where
  pub mode : change vs.mode 0 ≤ 4
  pub state : change vs.state 0 ≤ 2
  pub local : SpeechInRange vs.local
  pub remote : SpeechInRange vs.remote

-- the same of what items come to
pub data JudgedInRange : Judged → Type 0 where
  wrong : {code : ℕ} → JudgedInRange (Err code)
  right : {vs : Values} → InRange vs → JudgedInRange (Ok vs)
