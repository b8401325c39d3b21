-- Document 01's fourteen examples ('Proof owed'): the six lines of the session and the eight short cases that begin with `T`, one table of
-- rows, proved by one computed test over the whole call, bytes to bytes and table to table, for any reply buffer that is long enough and any
-- sound room in which the pair is not kept. Four rows more
-- stand on one, eight and sixteen lines (document 02, CR 10), eight are audits (CR 1), and four have figures in the blocks (CR 12).
use Prim.Native.Nat.{ℕ, ◌≤◌}
use mathlib.Core.Path.{◌≡◌, refl, sym, ap, ◌∙◌}
use mathlib.Core.Bool.{Bool, true, false, not, ◌&&◌, ◌||◌}
use mathlib.Core.List.{List, [], ◌∷◌}
use mathlib.Core.Option.{none}
use lib.ListN.{length, replicate, set}
use lib.Dec.{ltb, eqb}
use borrow.Author.Tests.{le-ltb}
use Rattle.base.specs.Pick.{pick}
use Rattle.base.specs.Lists.{same}
use Rattle.base.specs.Bytes.{text, ◌then◌}
use Rattle.megaco.specs.Tokens.{is_mid}
use Rattle.megaco.specs.Reading.{message_r, sender_of}
use Rattle.megaco.specs.Table.{most_lines, words}
use Rattle.megaco.specs.Blocks.{block_words}
use Rattle.megaco.specs.Names.{within}
use Rattle.megaco.specs.Reply.{header_text, error_text, reply_text}
use Rattle.megaco.specs.State.{State, state}
use Rattle.megaco.specs.Tree.{request, acknowledge, Message, well_formed, fault400, fault403, fault406}
use Rattle.megaco.specs.Kept.{find}
use Rattle.megaco.specs.Room.{Room, kept_of, room_sound}
use Rattle.megaco.specs.Transaction.{Ran, ran, run_transaction}
use Rattle.megaco.specs.Message.{Served, served, identifier, answered, run_part, run_parts, run_message}
use Rattle.megaco.specs.Call.{state_fits, written, replied, taken, call}
use Rattle.base.proofs.TestLaws.{and_both, same_is, clash}
use Rattle.megaco.proofs.Opened.{opened}

-- the count of lines, a table and the blocks, a message, the reply to it, the table and the blocks after it
pub data Row : Type 0 where
  row_with : (lines : ℕ) (before blocks message reply after blocks' : List ℕ) → Row

-- blocks of which none has had a packet
abbrev pub no_figures : List ℕ
no_figures = replicate block_words 0

abbrev pub row : ℕ → List ℕ → List ℕ → List ℕ → List ℕ → Row
row n t m a u = row_with n t no_figures m a u no_figures

-- the gateway's own mId
abbrev pub own : List ℕ
own = text "[10.0.0.9]"

-- ---- the tables of the session

abbrev pub fresh : List ℕ
fresh = replicate (words 8) 0

-- L/1/5 and R/1 in context 1, the map 1, bits 1 and 8 of the flows
abbrev pub called : List ℕ
called = set (set (set (set (set fresh 4 1) 248 1) 624 1) 752 1) 754 258

-- L/1/5 moved to context 2
abbrev pub moved : List ℕ
moved = set (set (set called 4 2) 625 1) 754 0

-- R/1 subtracted, and context 1 with it
abbrev pub alone : List ℕ
alone = set (set (set moved 248 0) 624 0) 752 0

-- L/1/5 sends and receives
abbrev pub ended : List ℕ
ended = set alone 316 3

-- L/1/5 out of service, and R/1 with it, in test and looped back
abbrev pub tested : List ℕ
tested = set (set (set (set ended 316 11) 248 2) 560 20) 752 1

-- ---- the rows

unfoldable pub examples : List Row
examples =
    row 8 fresh (text "!/1 [10.0.0.1] T=7{C=${A=L/1/5,A=$}}") (text "!/1 [10.0.0.9] P=7{C=1{A=L/1/5,A=R/1}}") called
    ∷ row 8 called (text "!/1 [10.0.0.1] T=8{C=1{A=L/1/5}}") (text "!/1 [10.0.0.9] P=8{C=1{A=L/1/5{ER=433{}}}}") called
    ∷ row 8 called (text "!/1 [10.0.0.1] T=9{C=${MV=L/1/5}}") (text "!/1 [10.0.0.9] P=9{C=2{MV=L/1/5}}") moved
    ∷ row 8 moved (text "!/1 [10.0.0.1] T=10{C=1{S=*,A=L/2/1}}") (text "!/1 [10.0.0.9] P=10{C=1{S=R/1{SA{rtp/pr=0,rtp/jit=0}},A=L/2/1{ER=411{}}}}") alone
    ∷ row 8 alone (text "!/1 [10.0.0.1] T=11{C=2{O-S=L/8/31,MF=L/1/5{M{O{MO=SR}}}}}") (text "!/1 [10.0.0.9] P=11{C=2{S=L/8/31{ER=435{}},MF=L/1/5}}") ended
    ∷ row 8 ended (text "!/1 [10.0.0.1] T=12{C=2{S=L/8/31,S=L/1/5}}") (text "!/1 [10.0.0.9] P=12{C=2{S=L/8/31{ER=435{}}}}") ended
    ∷ row 8 fresh (text "!/1 [10.0.0.1] T=1{C=5{}}") (text "!/1 [10.0.0.9] P=1{ER=403{}}") fresh
    ∷ row 8 fresh (text "!/1 [10.0.0.1] T=1{}") (text "!/1 [10.0.0.9] P=1{ER=403{}}") fresh
    ∷ row 8 fresh (text "!/1 [10.0.0.1] T=1{C=5{S=*") (text "!/1 [10.0.0.9] P=1{ER=403{}}") fresh
    ∷ row 8 fresh (text "!/1 [10.0.0.1] T=1{C=1{PR=16}}") (text "!/1 [10.0.0.9] P=1{C=1{ER=449{}}}") fresh
    ∷ row 8 fresh (text "!/1 [10.0.0.1] T=1{C=5{PR=3}}") (text "!/1 [10.0.0.9] P=1{C=5{ER=411{}}}") fresh
    ∷ row 8 fresh (text "!/1 [10.0.0.1] T=1{C=-{A=$}}") (text "!/1 [10.0.0.9] P=1{C=-{ER=421{}}}") fresh
    ∷ row 8 fresh (text "!/1 [10.0.0.1] T=1{C=${A=R/1}}") (text "!/1 [10.0.0.9] P=1{C=${A=R/1{ER=430{}}}}") fresh
    ∷ row 8 fresh (text "!/1 [10.0.0.1] T=1{C=-{MF=*}}") (text "!/1 [10.0.0.9] P=1{ER=533{}}") fresh
    ∷ []

-- ---- other counts of lines

-- one line: L/1/31 is termination 30, R/1 is 31, of 95
abbrev pub on_one : List ℕ
on_one = set (set (set (set (set (replicate (words 1) 0) 30 1) 31 1) 190 1) 318 1) 320 258

-- sixteen lines: L/16/31 is termination 495, R/1 is 496, of 560
abbrev pub on_sixteen : List ℕ
on_sixteen = set (set (set (set (set (replicate (words 16) 0) 495 1) 496 1) 1120 1) 1248 1) 1250 258

pub shelves : List Row
shelves =
    row 8 fresh (text "!/1 [10.0.0.1] T=1{C=${A=L/9/1}}") (text "!/1 [10.0.0.9] P=1{C=${A=L/9/1{ER=430{}}}}") fresh
    ∷ row 1 (replicate (words 1) 0) (text "!/1 [10.0.0.1] T=1{C=${A=L/1/31,A=$,A=L/2/1}}") (text "!/1 [10.0.0.9] P=1{C=1{A=L/1/31,A=R/1,A=L/2/1{ER=430{}}}}") on_one
    ∷ row 16 (replicate (words 16) 0) (text "!/1 [10.0.0.1] T=1{C=${A=L/16/31,A=$,A=L/17/1}}") (text "!/1 [10.0.0.9] P=1{C=1{A=L/16/31,A=R/1,A=L/17/1{ER=430{}}}}") on_sixteen
    ∷ row 16 on_sixteen (text "!/1 [10.0.0.1] T=1{C=1{O-MF=L/16/*,O-MF=L/17/*,MF=L/016/31}}") (text "!/1 [10.0.0.9] P=1{C=1{MF=L/16/31,MF=L/17/*{ER=431{}},MF=L/016/31{ER=430{}}}}") on_sixteen
    ∷ []

-- ---- audits (document 02, CR 1): values held, items in their order, ROOT, names and places; the table stays

unfoldable pub audited : List Row
audited =
    row 8 fresh (text "!/1 [10.0.0.1] T=1{C=-{AV=L/1/1{AT{M}}}}") (text "!/1 [10.0.0.9] P=1{C=-{AV=L/1/1{M{TS{SI=IV},O{MO=IN}}}}}") fresh
    ∷ row 8 tested (text "!/1 [10.0.0.1] T=1{C=2{AuditValue=l/1/5{Audit{Media}},AV=*{AT{M}}}}")
    (text "!/1 [10.0.0.9] P=1{C=2{AV=L/1/5{M{TS{SI=OS},O{MO=SR}}},AV=L/1/5{M{TS{SI=OS},O{MO=SR}}},AV=R/1{M{TS{SI=TE},O{MO=LB}}}}}") tested
    ∷ row 8 ended (text "!/1 [10.0.0.1] T=1{C=2{O-AV=L/1/5{M},O-AV=L/1/5{M,AT{M}},O-AV=L/1/5{AT{M},AT},O-AV=L/1/5{AT{M,M=1}},O-AV=L/1/5{AT},O-AV=L/1/5{AT=1{M}},O-AV=L/1/5}}")
    (text "!/1 [10.0.0.9] P=1{C=2{AV=L/1/5{ER=447{}},AV=L/1/5{ER=447{}},AV=L/1/5{ER=448{}},AV=L/1/5{ER=448{}},AV=L/1/5{ER=442{}},AV=L/1/5{ER=442{}},AV=L/1/5{ER=442{}}}}") ended
    ∷ row 8 ended (text "!/1 [10.0.0.1] T=1{C=2{O-AV=L/1/5{AT{M{O}}},O-AV=L/1/5{AT{M=1}},O-AV=L/1/5{AT{TS,M=1}},O-AV=L/1/5{AT{M/x}},O-AV=foo,O-MF=L/1/5{AT{M}},S=L/1/5{AT{M}}}}")
    (text "!/1 [10.0.0.9] P=1{C=2{AV=L/1/5{ER=442{}},AV=L/1/5{ER=442{}},AV=L/1/5{ER=444{}},AV=L/1/5{ER=444{}},AV=foo{ER=442{}},MF=L/1/5{ER=444{}},S=L/1/5{ER=447{}}}}") ended
    ∷ row 8 ended (text "!/1 [10.0.0.1] T=1{C=-{O-AV=ROOT{AT{M}},O-AV=root,O-AV=${AT{M}},O-AV=R/*{AT{M}},O-AV=R/1{AT{M}},O-AV=L/1/5{AT{M}}},C=2{O-AV=ROOT{AT{M}}},C=3{O-AV=*{AT{M}}},C=${AV=L/1/1{AT{M}}}}")
    (text "!/1 [10.0.0.9] P=1{C=-{AV=ROOT{ER=447{}},AV=root{ER=442{}},AV=${ER=410{}},AV=R/*{ER=431{}},AV=R/1{ER=430{}},AV=L/1/5{ER=435{}}},C=2{AV=ROOT{ER=435{}}},C=3{AV=*{ER=411{}}},C=${AV=L/1/1{ER=411{}}}}") ended
    ∷ row 8 ended (text "!/1 [10.0.0.1] T=1{C=-{O-AV=ROOT{AT{}},AV=L/1/1{AT{ }}},C=2{O-AV=ROOT{AT{}},O-AV=*{Audit{}},O-AV=L/1/5{AT=1{}},O-AV=L/1/5{AT{},AT{}},O-MF=L/1/5{AT{}},O-S=L/1/5{AT{}},AV=L/1/1{AT{}}}}")
    (text "!/1 [10.0.0.9] P=1{C=-{AV=ROOT,AV=L/1/1},C=2{AV=ROOT{ER=435{}},AV=L/1/5,AV=L/1/5{ER=442{}},AV=L/1/5{ER=448{}},MF=L/1/5{ER=444{}},S=L/1/5{ER=447{}},AV=L/1/1{ER=435{}}}}") ended
    ∷ row 8 fresh (text "!/1 [10.0.0.1] T=1{C=-{AV=*{AT{}}}}") (text "!/1 [10.0.0.9] P=1{ER=533{}}") fresh
    ∷ row 8 fresh (text "!/1 [10.0.0.1] T=1{C=-{O-W-AV=*{AT{M}}}}") (text "!/1 [10.0.0.9] P=1{C=-{ER=443{}}}") fresh
    ∷ []

-- ---- figures (document 02, CR 12)

-- R/1 has had 7 packets and has jitter 2^35, R/2 (absent) 4294967295 and 31
abbrev pub figured : List ℕ
figured = set (set (set (set (set (set no_figures 0 7) 1 4294967295) 3 8) 4 4294967295) 5 9) 6 31

unfoldable pub figures_told : List Row
figures_told =
    row_with 8 moved figured (text "!/1 [10.0.0.1] T=10{C=1{S=*,A=L/2/1}}") (text "!/1 [10.0.0.9] P=10{C=1{S=R/1{SA{rtp/pr=7,rtp/jit=2147483648}},A=L/2/1{ER=411{}}}}") alone figured
    ∷ row_with 8 alone figured (text "!/1 [10.0.0.1] T=1{C=2{A=$,S=R/1,S=L/1/5}}") (text "!/1 [10.0.0.9] P=1{C=2{A=R/1,S=R/1{SA{rtp/pr=0,rtp/jit=0}},S=L/1/5}}") fresh (set (set (set figured 0 0) 1 0) 3 0)
    ∷ row_with 8 called figured (text "!/1 [10.0.0.1] T=1{C=1{A=$,O-S=R/1{M},MF=R/1,AV=R/1{AT{M}},S=R/*}}")
    (text "!/1 [10.0.0.9] P=1{C=1{A=R/2,S=R/1{ER=447{}},MF=R/1,AV=R/1{M{TS{SI=IV},O{MO=IN}}},S=R/1{SA{rtp/pr=7,rtp/jit=2147483648}},S=R/2{SA{rtp/pr=0,rtp/jit=0}}}}") (set (set (set (set called 248 0) 624 1) 752 0) 754 0) (set (set (set figured 4 0) 5 0) 6 0)
    ∷ row_with 8 called figured (text "!/1 [10.0.0.1] T=1{C=1{S=R/2}}") (text "!/1 [10.0.0.9] P=1{C=1{S=R/2{ER=430{}}}}") called figured
    ∷ []

-- ---- the test of a row, and what it tells

-- what a message of one request that runs, or one with a fault in its braces, leaves of the state, and its text
alone_in : Message → State → Ran
alone_in (well_formed (request x ∷ [])) st = let y = run_transaction x st in ran y.state (y.text then [])
alone_in (well_formed (request x ∷ y ∷ ps)) st = ran (state [] []) []
alone_in (well_formed (acknowledge ks ∷ ps)) st = ran (state [] []) []
alone_in (well_formed []) st = ran (state [] []) []
alone_in (fault403 id) st = ran st (reply_text id (error_text 403))
alone_in fault400 st = ran (state [] []) []
alone_in fault406 st = ran (state [] []) []

is_alone : Message → Bool
is_alone (well_formed (request x ∷ [])) = true
is_alone (well_formed (request x ∷ y ∷ ps)) = false
is_alone (well_formed (acknowledge ks ∷ ps)) = false
is_alone (well_formed []) = false
is_alone (fault403 id) = true
is_alone fault400 = false
is_alone fault406 = false

-- the pair of the message's request is not kept
abbrev pub Unkept : List ℕ → Message → Room → Type 0
Unkept m (well_formed (request x ∷ [])) r = find m (identifier x) (kept_of r) ≡ none
Unkept m (well_formed (request x ∷ y ∷ ps)) r = Unit {0}
Unkept m (well_formed (acknowledge ks ∷ ps)) r = Unit {0}
Unkept m (well_formed []) r = Unit {0}
Unkept m (fault403 id) r = Unit {0}
Unkept m fault400 r = Unit {0}
Unkept m fault406 r = Unit {0}

computed : List ℕ → State → List ℕ → Ran
computed m st own = let x = alone_in (message_r m) st in ran x.state (header_text own then x.text)

fits : Ran → List ℕ → List ℕ → List ℕ → Bool
fits x a u c = same x.state.table u && same x.state.blocks c && same x.text a

fitting : ℕ → State → Bool
fitting n st = within n most_lines && state_fits n st

admitted : ℕ → State → List ℕ → Bool
admitted n st m = fitting n st && (not (eqb (length m) 0 || ltb 4096 (length m)) && is_alone (message_r m))

holds : Row → Bool
holds (row_with n t b m a u c) = admitted n (state t b) m && fits (computed m (state t b) own) a u c

all_hold : List Row → Bool
all_hold [] = true
all_hold (r ∷ rs) = holds r && all_hold rs

-- a call with a long enough buffer answers, writes and leaves exactly what the row says, whatever sound room is lent in which the pair is not kept
abbrev pub Answers : Row → Type 0
Answers (row_with n t b m a u c) =
    (r : Room) → room_sound r ≡ true → Unkept (sender_of m) (message_r m) r → (o : List ℕ) → 16640 ≤ length o
    → call n m (state t b) r own o ≡ written (state u c) (run_message (sender_of m) (message_r m) (state t b) r).room a o

abbrev pub Hold : List Row → Type 0
Hold [] = Unit {0}
Hold (r ∷ rs) = Answers r × Hold rs

own_is : is_mid own ≡ true
unfolding opened
own_is = refl

not_true : (b : Bool) → not b ≡ true → b ≡ false
not_true true e = sym e
not_true false e = refl

-- a call that nothing turns down
taken_is : (n : ℕ) (m : List ℕ) (st : State) (r : Room) (o : List ℕ) → 16640 ≤ length o → fitting n st ≡ true → room_sound r ≡ true → (eqb (length m) 0 || ltb 4096 (length m)) ≡ false
    → call n m st r own o ≡ taken m st r own o
unfolding call fitting pick
taken_is n m st r o h s k e =
    let p = and_both (within n most_lines) (state_fits n st) s in rw (p.0, le-ltb (length o) 16640 h, p.1, k, own_is, e)

alone_is : (m : List ℕ) (x : Message) (st : State) (r : Room) → is_alone x ≡ true → Unkept m x r
    → run_message m x st r ≡ served (alone_in x st).state (run_message m x st r).room (alone_in x st).text true
unfolding is_alone alone_in run_message run_parts run_part answered
alone_is m (well_formed []) st r e u = absurd (clash (sym e))
alone_is m (well_formed (request x ∷ [])) st r e u = rw u
alone_is m (well_formed (request x ∷ y ∷ ys)) st r e u = absurd (clash (sym e))
alone_is m (well_formed (acknowledge ks ∷ ys)) st r e u = absurd (clash (sym e))
alone_is m fault400 st r e u = absurd (clash (sym e))
alone_is m (fault403 id) st r e u = refl
alone_is m fault406 st r e u = absurd (clash (sym e))

row_answers : (x : Row) → holds x ≡ true → Answers x
unfolding holds admitted fits taken replied pick computed
row_answers (row_with n t b m a u c) e =
    λ r k v o h.
    let st = state t b in
    let p = and_both (admitted n st m) (fits (computed m st own) a u c) e in
    let q = and_both (fitting n st) _ p.0 in
    let z = and_both (not (eqb (length m) 0 || ltb 4096 (length m))) (is_alone (message_r m)) q.1 in
    let w = and_both (same (computed m st own).state.table u && same (computed m st own).state.blocks c) (same (computed m st own).text a) p.1 in
    let s = and_both (same (computed m st own).state.table u) (same (computed m st own).state.blocks c) w.0 in
    let x : (alone_in (message_r m) st).state.table ≡ u = same_is (computed m st own).state.table u s.0 in
    let d : (alone_in (message_r m) st).state.blocks ≡ c = same_is (computed m st own).state.blocks c s.1 in
    let y : header_text own then (alone_in (message_r m) st).text ≡ a = same_is (computed m st own).text a w.1 in
    let g : Room = (run_message (sender_of m) (message_r m) st r).room in
    taken_is n m st r o h q.0 k (not_true _ z.0)
    ∙ ap (λ (d : Served). replied own d o) (alone_is (sender_of m) (message_r m) st r z.1 v)
    ∙ (λ i. written (state (x i) (d i)) g (y i) o)

rows_answer : (rs : List Row) → all_hold rs ≡ true → Hold rs
unfolding all_hold
rows_answer [] e = tt
rows_answer (r ∷ rs) e =
    let p = and_both (holds r) (all_hold rs) e in
    (row_answers r p.0, rows_answer rs p.1)

examples_compute : all_hold examples ≡ true
unfolding examples all_hold holds admitted fitting fits computed alone_in is_alone opened
examples_compute = refl

-- the fourteen examples
pub examples_hold : Hold examples
unfolding examples
examples_hold = rows_answer examples examples_compute

-- on one, eight and sixteen lines
shelves_compute : all_hold shelves ≡ true
unfolding shelves all_hold holds admitted fitting fits computed alone_in is_alone opened
shelves_compute = refl

pub shelves_hold : Hold shelves
unfolding shelves
shelves_hold = rows_answer shelves shelves_compute

-- "Word 4 is then 2, word 316 is 3, word 625 is 1, all others 0"
pub session_ends : ended ≡ set (set (set (replicate 1522 0) 4 2) 316 3) 625 1
session_ends = refl

-- audits
audited_compute : all_hold audited ≡ true
unfolding audited all_hold holds admitted fitting fits computed alone_in is_alone opened
audited_compute = refl

pub audited_hold : Hold audited
unfolding audited
audited_hold = rows_answer audited audited_compute

-- figures
figures_compute : all_hold figures_told ≡ true
unfolding figures_told all_hold holds admitted fitting fits computed alone_in is_alone opened
figures_compute = refl

pub figures_hold : Hold figures_told
unfolding figures_told
figures_hold = rows_answer figures_told figures_compute
