-- The two matchers are equal: "It answers and refuses as the first on every map and string." (CR 9)
use Rattle.std.specs.Prelude.{ℕ, ◌≡◌, List}
use Rattle.digits.specs.Dialling.{Dialled, load, dial}
use Rattle.digits.specs.declared.ZeroStart.{ZeroStart}
use Rattle.std.specs.declared.option.Option.{Option}
use Rattle.dialling.specs.Cells.{plan_in, Keeps}
use Rattle.dialling.specs.declared.Loaded.{Loaded}

-- r is what the first matcher answers: `dialling::load` left `loaded` and `cells`, and `dialling::dial` answered on them (their promises)
pub record ByFirst (s : List ℕ) (start : ℕ) (rule : ZeroStart) (w : List ℕ) (r : Dialled) : Type 0 where
  pub loaded : Option Loaded
  pub cells : List ℕ
  pub kept : Keeps (load s start rule) loaded cells
  pub answer : r ≡ dial (plan_in loaded cells) w

-- r is what `dial_plain` answers (its promise)
pub record ByPlain (s : List ℕ) (start : ℕ) (rule : ZeroStart) (w : List ℕ) (r : Dialled) : Type 0 where
  pub answer : r ≡ dial (load s start rule) w

-- on every text, start timer, rule and dialled string, whatever bytes they are
abbrev pub Equal : Type 0
Equal = (s : List ℕ) (start : ℕ) (rule : ZeroStart) (w : List ℕ) (r q : Dialled) → ByFirst s start rule w r → ByPlain s start rule w q → q ≡ r
