-- The kept replies as document 02, CR 3 speaks of them: a list, the oldest first. Demand 2 reads this list as state.
use Rattle.std.specs.Prelude.{ℕ, ◌-◌, Bool, true, false, not, ◌&&◌, List, [], ◌∷◌, ◌++◌, length, drop, leb, eqb}
use Rattle.std.proofs.Math.Option.{Option, none, some}
use Rattle.base.specs.Pick.{pick}
use Rattle.base.specs.Lists.{same}

-- a reply `P=id{..}`, "under the sender's mId bytes and the identifier"
pub record Kept : Type 0 where
  pub sender : List ℕ
  pub id : ℕ
  pub reply : List ℕ

abbrev pub kept_under : List ℕ → ℕ → List ℕ → Kept
kept_under m id x = record { sender = m; id = id; reply = x }

unfoldable pub under : List ℕ → ℕ → Kept → Bool
under m id k = pick (eqb k.id id) (same k.sender m) false

-- "a request whose pair is kept gets the same bytes"
unfoldable pub find : List ℕ → ℕ → List Kept → Option (List ℕ)
find m id [] = none
find m id (k ∷ ks) = let r = find m id ks in pick (under m id k) (some k.reply) r

-- "Keep the last 16 replies": at most n of them, the youngest
unfoldable pub youngest : {A : Type 0} → ℕ → List A → List A
youngest n ks = drop (length ks - n) ks

-- "only with 16 held does the oldest go"
unfoldable pub keep : Kept → List Kept → List Kept
keep k ks = youngest 15 ks ++ (k ∷ [])

-- "K with identifiers and ranges drops that sender's replies": from a first identifier to a last
unfoldable pub acked : List ℕ → ℕ → ℕ → Kept → Bool
acked m first last k = pick (leb first k.id) (pick (leb k.id last) (same k.sender m) false) false

unfoldable pub without : (Kept → Bool) → List Kept → List Kept
without q [] = []
without q (k ∷ ks) = let r = without q ks in pick (q k) r (k ∷ r)

-- no pair is kept twice
unfoldable pub is_none : {A : Type 0} → Option A → Bool
is_none none = true
is_none (some x) = false

unfoldable pub distinct : List Kept → Bool
distinct [] = true
distinct (k ∷ ks) = let r = distinct ks in pick (is_none (find k.sender k.id ks)) r false
