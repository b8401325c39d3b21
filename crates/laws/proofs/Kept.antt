-- Soundness is kept: from a sound table every command, step, transaction, message and call ends in a sound table, wildcards and `$`
-- included.
use Prim.Native.Nat.{ℕ, ◌≤◌, ◌<◌}
use mathlib.Core.Path.{◌≡◌, refl}
use mathlib.Core.Bool.{true, false}
use mathlib.Core.List.{List}
use lib.Dec.{eqb}
use borrow.Author.Tests.{eqb-false}
use native.Mathlib.Omega.{arith}
use Rattle.protocol.specs.Types.{Context, Null, Numbered, Choose, All, Op, Add, Modify, Subtract, Move, AuditValue, Values}
use Rattle.megaco.specs.Tree.{Command, Transaction, Part, Message}
use Rattle.megaco.specs.Table.{contexts, fitted, rec, cell, get, sound}
use Rattle.megaco.specs.State.{State}
use Rattle.megaco.specs.Names.{name_of}
use Rattle.megaco.specs.Attempt.{seen, number_of}
use Rattle.megaco.specs.Command.{command_error, Targets, no_target, gateway, targets, is_null, is_subtract, in_place, run_targets, forbidden_in_null, no_context, run_command}
use Rattle.megaco.specs.Transaction.{Step, Course, step, run_transaction}
use Rattle.megaco.specs.Room.{Room}
use Rattle.megaco.specs.Message.{run_part, run_message}
use Rattle.megaco.specs.Call.{call}
use Rattle.base.proofs.TestLaws.{clash}
use Rattle.laws.specs.Sound.{Whole}
use Rattle.laws.proofs.Sound.{sound_whole, whole_sound}
use Rattle.protocol.specs.Ranges.{InRange}
use Rattle.laws.proofs.Meant.{name_low, MeansTerminations, some_targets, targets_meant}
use Rattle.laws.proofs.Attempts.{seen_there, Joins, anew, there, Stands, stands, MayAttempt, attempts_sound}
use Rattle.laws.proofs.Presence.{Present}
use Rattle.laws.proofs.Starts.{start_sound, start_given}
use Rattle.laws.proofs.Runs.{Keeps, CourseKeeps, command_keeps, step_keeps, transaction_keeps, part_keeps, message_keeps, call_keeps}

-- tests 1 and 2 leave an attempt what it relies on
ready_there : (c : ℕ) (t : List ℕ) → eqb (seen c t).held 0 ≡ false → (0 < c) × (c ≤ contexts) × (0 < get t (cell (rec c)))
ready_there c t l = seen_there c t (omega (arith, eqb-false (seen c t).held 0 l))

ready_join : (op : Op) (at : Context) (t : List ℕ) → in_place op ≡ false → forbidden_in_null op at ≡ false → no_context op at (seen (number_of at) t).held ≡ false → Joins at t
unfolding forbidden_in_null is_null no_context number_of
ready_join op Null t n b l = absurd (clash (rw n at b))
ready_join op (Numbered c) t n b l = let k = ready_there c t l in there k.0 k.1 k.2
ready_join op Choose t n b l = anew
ready_join op All t n b l = absurd (clash l)

ready_leave : (at : Context) (t : List ℕ) → forbidden_in_null Subtract at ≡ false → no_context Subtract at (seen (number_of at) t).held ≡ false → Stands at
unfolding forbidden_in_null is_null in_place is_subtract no_context number_of
ready_leave Null t b l = absurd (clash b)
ready_leave (Numbered c) t b l = stands (ready_there c t l).0
ready_leave Choose t b l = absurd (clash l)
ready_leave All t b l = absurd (clash l)

pub ready : (op : Op) (at : Context) (t : List ℕ) → forbidden_in_null op at ≡ false → no_context op at (seen (number_of at) t).held ≡ false → MayAttempt op at t
unfolding in_place
ready Add at t b l = ready_join Add at t refl b l
ready Modify at t b l = tt
ready Subtract at t b l = ready_leave at t b l
ready Move at t b l = ready_join Move at t refl b l
ready AuditValue at t b l = tt

targets_sound : (op : Op) (name : List ℕ) (given : ℕ) (vs : Values) (a : Targets) (at : Context) (st : State) → Whole st.table → MeansTerminations op st.table a → Present given → InRange vs
    → MayAttempt op at st.table → Whole (run_targets op name given vs a at st).state.table
unfolding run_targets command_error
targets_sound op name given vs (no_target code) at st W a G F r = W
targets_sound op name given vs gateway at st W a G F r = W
targets_sound op name given vs (targets wild is) at st W (some_targets m) G F r = attempts_sound op wild name given vs is at st W r m G F

abbrev pub WholeIn : State → Type 0
WholeIn st = Whole st.table

pub whole_kept : Keeps WholeIn Present
whole_kept =
    record {
      orders = λ op name given vs items at st W G F b l. targets_sound op name given vs _ at st W (targets_meant op at items (name_of (fitted st.table) name) st.table W.long (name_low (fitted st.table) name)) G F (ready op at st.table b l);
      starts = λ c ps alone st W. start_sound c ps alone st.table W;
      gives = start_given;
    }

-- a step, from a sound table, where the running action gives a record that a context may have
pub step_sound : (s : Step) (x : Course) → CourseKeeps WholeIn Present x → CourseKeeps WholeIn Present (step s x)
step_sound = step_keeps WholeIn Present whole_kept

sound_by : (st u : State) → (WholeIn st → WholeIn u) → sound st.table ≡ true → sound u.table ≡ true
sound_by st u f s = whole_sound u.table (f (sound_whole st.table s))

pub command_sound : (c : Command) (given : ℕ) (at : Context) (st : State) → Present given → sound st.table ≡ true → sound (run_command c given at st).state.table ≡ true
command_sound c given at st G = sound_by st (run_command c given at st).state (λ W. command_keeps WholeIn Present whole_kept c given at st W G)

pub transaction_sound : (x : Transaction) (st : State) → sound st.table ≡ true → sound (run_transaction x st).state.table ≡ true
transaction_sound x st = sound_by st (run_transaction x st).state (transaction_keeps WholeIn Present whole_kept x st)

pub part_sound : (m : List ℕ) (x : Part) (st : State) (r : Room) → sound st.table ≡ true → sound (run_part m x st r).state.table ≡ true
part_sound m x st r = sound_by st (run_part m x st r).state (part_keeps WholeIn Present whole_kept m x st r)

pub message_sound : (m : List ℕ) (x : Message) (st : State) (r : Room) → sound st.table ≡ true → sound (run_message m x st r).state.table ≡ true
message_sound m x st r = sound_by st (run_message m x st r).state (message_keeps WholeIn Present whole_kept m x st r)

pub call_sound : (n : ℕ) (m : List ℕ) (st : State) (r : Room) (own o : List ℕ) → sound st.table ≡ true → sound (call n m st r own o).state.table ≡ true
call_sound n m st r own o = sound_by st (call n m st r own o).state (call_keeps WholeIn Present whole_kept n m st r own o)
