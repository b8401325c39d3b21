-- What an audit may be trusted with, all of it.
use Prim.Native.Nat.{ℕ}
use mathlib.Core.Path.{◌≡◌, ap, sym, ◌∙◌}
use mathlib.Core.Logic.{◌≢◌, ◌⊎◌, inl, inr}
use mathlib.Core.List.{List}
use native.Mathlib.Omega.{arith}
use Rattle.megaco.specs.Tree.{Part, well_formed, fault400, fault403, fault406}
use Rattle.megaco.specs.Reading.{message_r}
use Rattle.megaco.specs.State.{State}
use Rattle.megaco.specs.Call.{call}
use Rattle.laws.proofs.Bounds.{fault_keeps}
use Rattle.audits.specs.Audits.{Faulty, AsBefore, Trusted}
use Rattle.audits.proofs.Keeping.{stays, transaction_stays}
use Rattle.audits.proofs.Reporting.{reports_held, reports_named}
use Rattle.audits.proofs.Matching.{reports_wild}
use Rattle.audits.proofs.ReadBack.{texts_tell}

not_run : (m : List ℕ) → Faulty m → (xs : List Part) → message_r m ≢ well_formed xs
not_run m (inl e) xs q = let z : ◌≡◌ {A = ℕ} 0 1 = cc in omega arith
not_run m (inr (inl (id, e))) xs q = let z : ◌≡◌ {A = ℕ} 0 1 = cc in omega arith
not_run m (inr (inr e)) xs q = let z : ◌≡◌ {A = ℕ} 0 1 = cc in omega arith

as_before : AsBefore
as_before n m k st r own o o' f = let q = fault_keeps n m st r own o (not_run m f) in (λ i. call n k (q.0 i) (q.1 i) own o')

pub audits : Trusted
audits =
    record {
      stays = stays;
      transaction_stays = transaction_stays;
      reports_held = reports_held;
      reports_named = reports_named;
      texts_tell = texts_tell;
      reports_wild = reports_wild;
      as_before = as_before;
    }
