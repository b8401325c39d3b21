-- What a controller may rely on when it audits (document 02, request 1: "Let the controller ask what it has"). Proved in proofs/Theorems.antt: `audits`.
use Rattle.std.specs.Prelude.{ℕ, ◌+◌, ◌≤◌, ◌<◌, ◌≡◌, ◌↔◌, ◌⊎◌, Bool, true, false, List, [], ◌∷◌, Ok}
use Rattle.std.proofs.Math.Option.{some}
use Rattle.base.specs.Bytes.{text}
use Rattle.megaco.specs.Tree.{Items, Command, command, Action, action, Transaction, transaction, fault400, fault403, fault406}
use Rattle.megaco.specs.Reading.{message_r}
use Rattle.megaco.specs.Table.{ctx, cell, prop, get, terminations, fitted, exists, mode_of, state_of, sound}
use Rattle.megaco.specs.State.{State}
use Rattle.megaco.specs.Names.{in_range, name_of, name_text}
use Rattle.megaco.specs.Items.{judge_items}
use Rattle.megaco.specs.Reply.{nothing, media, Report, done, refused, failed, detail_text}
use Rattle.megaco.specs.Attempt.{seen, number_of, detail_of}
use Rattle.megaco.specs.Command.{no_context, matches, op_of, run_command}
use Rattle.megaco.specs.Transaction.{run_transaction}
use Rattle.megaco.specs.Room.{Room}
use Rattle.megaco.specs.Call.{call}
use Rattle.protocol.specs.Types.{Context, AuditValue, Range, Termination, Wildcard, Values}
use Rattle.laws.specs.Membership.{◌∈◌}

-- a command that is AuditValue, without `W-`
abbrev pub IsAudit : Command → Type 0
IsAudit (command o w word name items) = op_of w word ≡ some AuditValue

-- ---- (a) "The table stays"

-- an audit, done or refused, leaves every word, whatever the state
abbrev pub Stays : Type 0
Stays = (c : Command) → IsAudit c → (given : ℕ) (at : Context) (st : State) → (run_command c given at st).state ≡ st

-- actions that set no property and hold audits alone
pub data Audits : List Command → Type 0 where
  no_more : Audits []
  more : {c : Command} {cs : List Command} → IsAudit c → Audits cs → Audits (c ∷ cs)

pub data OnlyAudits : List Action → Type 0 where
  no_more : OnlyAudits []
  more : {c : Context} {cs : List Command} {acts : List Action} → Audits cs → OnlyAudits acts → OnlyAudits (action c [] cs ∷ acts)

-- so does a transaction of audits
abbrev pub TransactionStays : Type 0
TransactionStays = (id : ℕ) (acts : List Action) → OnlyAudits acts → (st : State) → (run_transaction (transaction id acts) st).state ≡ st

-- ---- (b) "with the values held"

-- what an audit of a termination reports: its name and, where Media is audited, the state and the mode in its word of the table
abbrev pub held_report : Values → List ℕ → ℕ → Report
held_report vs t i = done AuditValue (name_text (fitted t) i) (detail_of vs.audited (get t (cell (prop i))))

-- a report that an audit may give: of a termination that stands in the action's context, what the table holds; of ROOT the name; or an error
pub data Honest (at : Context) (t : List ℕ) : Report → Type 0 where
  of_one : (vs : Values) (i : ℕ) → get t (ctx i) ≡ number_of at → Honest at t (held_report vs t i)
  of_root : Honest at t (done AuditValue (text "ROOT") nothing)
  of_none : (name : List ℕ) (code : ℕ) → Honest at t (refused AuditValue name code)
  of_action_lem : (code : ℕ) → Honest at t (failed code)

pub data AllHonest (at : Context) (t : List ℕ) : List Report → Type 0 where
  no_more : AllHonest at t []
  more : {r : Report} {rs : List Report} → Honest at t r → AllHonest at t rs → AllHonest at t (r ∷ rs)

-- whatever an audit reports is so
abbrev pub ReportsHeld : Type 0
ReportsHeld = (c : Command) → IsAudit c → (given : ℕ) (at : Context) (st : State) → AllHonest at st.table (run_command c given at st).reports

-- and an audit of a termination that stands in the action's context, with items that are well, is done
abbrev pub ReportsNamed : Type 0
ReportsNamed =
    (o w : Bool) (word name : List ℕ) (items : Items) (vs : Values) (given : ℕ) (at : Context) (st : State) (i : ℕ) → op_of w word ≡ some AuditValue
    → no_context AuditValue at (seen (number_of at) st.table).held ≡ false → judge_items AuditValue items ≡ Ok vs → name_of (fitted st.table) name ≡ Termination i
    → exists (fitted st.table) i (get st.table (ctx i)) ≡ true → get st.table (ctx i) ≡ number_of at
    → (run_command (command o w word name items) given at st).reports ≡ held_report vs st.table i ∷ []

-- the two texts determine the two values: in a sound table words that are reported alike are the same, so that other values are other bytes
abbrev pub TextsTell : Type 0
TextsTell =
    (t : List ℕ) → sound t ≡ true → (i j : ℕ) → i < terminations (fitted t) → j < terminations (fitted t)
    → detail_text (detail_of true (get t (cell (prop i)))) ≡ detail_text (detail_of true (get t (cell (prop j)))) → get t (cell (prop i)) ≡ get t (cell (prop j))

-- ---- (c) wildcards

-- the numbers of a row rise: each stands once, in ascending number
pub data Rising : ℕ → List ℕ → Type 0 where
  no_more : {i : ℕ} → Rising i []
  more : {i j : ℕ} {is : List ℕ} → i ≤ j → Rising (j + 1) is → Rising i (j ∷ is)

-- a termination that the name covers and that stands in the action's context
pub record Covered (r : Range) (at : Context) (t : List ℕ) (i : ℕ) : Type 0 where
  pub fits : i < terminations (fitted t)
  pub there : exists (fitted t) i (get t (ctx i)) ≡ true
  pub range : in_range (fitted t) r i ≡ true
  pub stands : get t (ctx i) ≡ number_of at

abbrev pub reports_of : (ℕ → Report) → List ℕ → List Report
reports_of f [] = []
reports_of f (i ∷ is) = f i ∷ reports_of f is

-- what a wildcard's audit reports: those covered, each once, in ascending number, each with what the table holds; 431 where there is none.
-- Whether the reply has room for them, or is 533, is `Reply.transaction_text`'s; the reports are these
pub record Wild (r : Range) (vs : Values) (name : List ℕ) (at : Context) (t : List ℕ) (rs : List Report) : Type 0 where
  pub matched : List ℕ
  pub exactly : (i : ℕ) → i ∈ matched ↔ Covered r at t i
  pub ascending : Rising 0 matched
  pub reports : (rs ≡ reports_of (held_report vs t) matched) ⊎ ((matched ≡ []) × (rs ≡ refused AuditValue name 431 ∷ []))

abbrev pub ReportsWild : Type 0
ReportsWild =
    (o w : Bool) (word name : List ℕ) (items : Items) (vs : Values) (given : ℕ) (at : Context) (st : State) (r : Range) → sound st.table ≡ true → op_of w word ≡ some AuditValue
    → no_context AuditValue at (seen (number_of at) st.table).held ≡ false → judge_items AuditValue items ≡ Ok vs → name_of (fitted st.table) name ≡ Wildcard r
    → Wild r vs name at st.table (run_command (command o w word name items) given at st).reports

-- ---- (d) the afternoon: after a message that is answered with 400, 403 or 406 any message, and so any audit, is answered as it would have been before it

abbrev pub Faulty : List ℕ → Type 0
Faulty m = (message_r m ≡ fault400) ⊎ ((id : ℕ) × (message_r m ≡ fault403 id)) ⊎ (message_r m ≡ fault406)

abbrev pub AsBefore : Type 0
AsBefore =
    (n : ℕ) (m k : List ℕ) (st : State) (r : Room) (own o o' : List ℕ) → Faulty m → call n k (call n m st r own o).state (call n m st r own o).room own o' ≡ call n k st r own o'

-- ---- all of it
pub record Trusted : Type 0 where
  pub stays : Stays
  pub transaction_stays : TransactionStays
  pub reports_held : ReportsHeld
  pub reports_named : ReportsNamed
  pub texts_tell : TextsTell
  pub reports_wild : ReportsWild
  pub as_before : AsBefore
