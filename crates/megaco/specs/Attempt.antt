-- One attempt of a command (document 01, 'Running'): it takes a small view of the table, is judged by it alone (tests 5 and 6), and then writes
-- a few words. `elim [ case ↦ result | .. ]` goes by cases, on one line.
use Rattle.std.specs.Prelude.{ℕ, ◌+◌, ◌*◌, ◌-◌, Bool, true, false, not, ◌&&◌, ◌||◌, List, [], ◌∷◌, leb, eqb, Ok, Err}
use Rattle.base.specs.Pick.{pick}
use Rattle.megaco.specs.Table.{prop, rec, used, flow, speech, low_flow, high_flow, speech_word, place_in, ctx, cell, Write, write, get, most, line_terminations, fitted, is_ephemeral, known, members, free_context, mode_of, state_of}
use Rattle.megaco.specs.Blocks.{reported}
use Rattle.megaco.specs.Names.{name_text}
use Rattle.megaco.specs.Square.{Square, square_of, low_of, high_of, joined, parted}
use Rattle.megaco.specs.Items.{update}
use Rattle.megaco.specs.Reply.{Detail, nothing, media, statistics, Report, done, refused}
use Rattle.megaco.specs.declared.Context.{Context}
use Rattle.megaco.specs.declared.Context.TheVariants.{Null, Numbered, Choose, All}
use Rattle.megaco.specs.declared.Op.{Op}
use Rattle.megaco.specs.declared.Op.TheVariants.{Add, Modify, Subtract, Move, AuditValue}
use Rattle.megaco.specs.Results.{Checked}
use Rattle.megaco.specs.declared.Speech.{Speech}
use Rattle.megaco.specs.declared.Speech.TheVariants.{Kept, Released, Session}
use Rattle.megaco.specs.declared.Values.{Values}
use Rattle.megaco.specs.declared.Seen.{Seen}
use Rattle.megaco.specs.declared.View.{View}
use Rattle.megaco.specs.declared.Block.{Block}

-- ---- tests: a flag, and the code to give where it is up; the first that is up decides
pub data Check : Type 0 where
  check : Bool → ℕ → Check

unfoldable pub judge : List Check → Checked
judge [] = Ok tt
judge (check b code ∷ cs) = let r = judge cs in pick b (Err code) r

-- ---- what an attempt sees of the table
abbrev pub unseen : Seen
unseen = record { held = 0; members = 0; low = 0; high = 0 }

abbrev pub seen_in : ℕ → List ℕ → Seen
seen_in c t = record { held = get t (cell (rec c)); members = members c t; low = get t (cell (flow (low_flow c))); high = get t (cell (flow (high_flow c))) }

unfoldable pub seen : ℕ → List ℕ → Seen
seen c t = pick (known c) (seen_in c t) unseen

-- the flows of a context
unfoldable pub flows_of : Seen → Square
flows_of s = square_of s.low s.high

-- null is 0 in the table; `$` and `*` are no number yet
unfoldable pub number_of : Context → ℕ
number_of = elim [ Null ↦ 0 | Numbered c ↦ c | Choose ↦ 0 | All ↦ 0 ]

-- "the lowest number absent before that attempt", asked in `$` alone
unfoldable pub free_at : Context → List ℕ → ℕ
free_at at t = elim at [ Null ↦ 0 | Numbered c ↦ 0 | Choose ↦ free_context t | All ↦ 0 ]

unfoldable pub look : Context → ℕ → List ℕ → View
look at i t =
    record { here = get t (ctx i); word = get t (cell (prop i)); there = seen (number_of at) t; from = seen (get t (ctx i)) t; free = free_at at t; lines = fitted t; into = place_in (number_of at) i t; out = place_in (get t (ctx i)) i t }

-- ---- tests 5 and 6
unfoldable pub is_choose : Context → Bool
is_choose = elim [ Null ↦ false | Numbered c ↦ false | Choose ↦ true | All ↦ false ]

-- the number of the context that an attempt means
unfoldable pub target : Context → View → ℕ
target at v = pick (is_choose at) v.free (number_of at)

-- "412: a context must be made and 128 exist, judged before a Move leaves. 434: the target holds 8"
unfoldable pub room_checks : Context → View → List Check
room_checks at v = check (is_choose at && eqb v.free 0) 412 ∷ check (leb most v.there.members) 434 ∷ []

-- whether Local or Remote stands among a command's items
unfoldable pub speaks : Speech → Bool
speaks = elim [ Kept ↦ false | Released ↦ true | Session a p k ↦ true ]

-- "447 on a line": "Only ephemerals have one", an empty text too
unfoldable pub on_line : ℕ → ℕ → Values → Bool
on_line n i vs = not (is_ephemeral n i) && (speaks vs.local || speaks vs.remote)

-- "Add: 433 if not in null. Modify, Subtract: 435 if not in the action's context. Move: 435 from null, 433 if already in the target"
-- and document 02, of AuditValue: "Tests and wildcards are as for Modify"; of Move, request 2, by clause 7.2.4: "503 (house), after Move's 435 and 433, before 412", where "the state held before the command's own
-- items" is 1, OutOfService; "Test state may still move"; of Local and Remote, request 11: "447 on a line, in Add, Modify and Move after the place test and 503"
unfoldable pub checks : Op → Context → ℕ → Values → View → List Check
checks Add at i vs v = check (not (eqb v.here 0)) 433 ∷ check (on_line v.lines i vs) 447 ∷ room_checks at v
checks Modify at i vs v = check (not (eqb v.here (number_of at))) 435 ∷ check (on_line v.lines i vs) 447 ∷ []
checks Subtract at i vs v = check (not (eqb v.here (number_of at))) 435 ∷ []
checks Move at i vs v =
    check (eqb v.here 0) 435 ∷ check (eqb v.here (number_of at)) 433 ∷ check (eqb (state_of v.word) 1) 503 ∷ check (on_line v.lines i vs) 447 ∷ room_checks at v
checks AuditValue at i vs v = check (not (eqb v.here (number_of at))) 435 ∷ []

-- ---- what it changes
-- the two words of a context's flows
unfoldable pub flowing : ℕ → Square → List Write → List Write
flowing c q ws = write (cell (flow (low_flow c))) (low_of q) ∷ write (cell (flow (high_flow c))) (high_of q) ∷ ws

-- the context that an attempt joins: `$` comes to be, with the record given, and has no flows; "a termination that joins is bothway with every
-- other"
unfoldable pub joining : Context → ℕ → View → List Write → List Write
joining at given v ws =
    pick (is_choose at) (write (cell (rec v.free)) given ∷ ws)
    (flowing (number_of at) (joined (flows_of v.there) (v.there.members + 1) v.into) ws)

-- "A context ends with its last termination"; "one that leaves takes its pairs with it", and the last has none
unfoldable pub leaving : View → List Write → List Write
leaving v ws = pick (leb v.from.members 1) (write (cell (rec v.here)) 0 ∷ ws) (flowing v.here (parted (flows_of v.from) v.out) ws)

unfoldable pub placed : ℕ → ℕ → ℕ → List Write
placed i c word = write (ctx i) c ∷ write (cell (prop i)) word ∷ []

-- the map's place of an ephemeral that comes to be, 1, or ends, 0
unfoldable pub marking : ℕ → ℕ → ℕ → List Write → List Write
marking n i d ws = pick (is_ephemeral n i) (write (cell (used i)) d ∷ ws) ws

-- "Add makes an ephemeral with property 0"
unfoldable pub added : ℕ → ℕ → ℕ → ℕ
added n i word = pick (is_ephemeral n i) 0 word

-- "Subtract removes an ephemeral; a line returns to null with mode 0, its state kept"
unfoldable pub subtracted : ℕ → ℕ → ℕ → ℕ
subtracted n i word = pick (is_ephemeral n i) 0 (8 * state_of word)

-- the four words of Local, side 0, or of Remote, side 1
unfoldable pub side_writes : ℕ → ℕ → ℕ → ℕ → ℕ → ℕ → List Write → List Write
side_writes i side flag a p k ws =
    write (cell (speech (speech_word i side 0))) flag ∷ write (cell (speech (speech_word i side 1))) a
    ∷ write (cell (speech (speech_word i side 2))) p ∷ write (cell (speech (speech_word i side 3))) k ∷ ws

-- what is given replaces the whole of its side; "empty text releases it"
unfoldable pub speaking : ℕ → ℕ → Speech → List Write → List Write
speaking i side Kept ws = ws
speaking i side Released ws = side_writes i side 0 0 0 0 ws
speaking i side (Session a p k) ws = side_writes i side 1 a p k ws

unfoldable pub spoken : ℕ → Values → List Write → List Write
spoken i vs ws = speaking i 0 vs.local (speaking i 1 vs.remote ws)

-- "Subtract forgets them"
unfoldable pub forgetting : ℕ → ℕ → List Write → List Write
forgetting n i ws = pick (is_ephemeral n i) (speaking i 0 Released (speaking i 1 Released ws)) ws

-- "Add, Modify and Move then set the values given"; of AuditValue, document 02: "The table stays"
unfoldable pub changes : Op → Context → ℕ → ℕ → Values → View → List Write
changes Add at given i vs v = joining at given v (marking v.lines i 1 (spoken i vs (placed i (target at v) (update vs (added v.lines i v.word)))))
changes Modify at given i vs v = spoken i vs (write (cell (prop i)) (update vs v.word) ∷ [])
changes Subtract at given i vs v = leaving v (marking v.lines i 0 (forgetting v.lines i (placed i 0 (subtracted v.lines i v.word))))
changes Move at given i vs v = leaving v (joining at given v (spoken i vs (placed i (target at v) (update vs v.word))))
changes AuditValue at given i vs v = []

-- the blocks that it sets to zero: "a new ephemeral starts at zero; no message changes a block otherwise"
unfoldable pub renews : Op → ℕ → ℕ → List ℕ
renews op n i = elim op [ Add ↦ pick (is_ephemeral n i) ((i - line_terminations n) ∷ []) [] | Modify ↦ [] | Subtract ↦ [] | Move ↦ [] | AuditValue ↦ [] ]

-- `$` "becomes .. the lowest number absent before that attempt, and stays that number for the rest of the action"
unfoldable pub settled : Context → View → Context
settled at v = pick (is_choose at) (Numbered v.free) at

-- ---- what it reports
-- what an attempt writes, the blocks that it sets to zero, what it reports, and the action's context after it
pub record Effect : Type 0 where
  pub writes : List Write
  pub blocks : List ℕ
  pub report : Report
  pub at : Context
  pub good : Bool

-- what a success tells: where the items audit them, "the values held"
unfoldable pub detail_of : Bool → ℕ → Detail
detail_of audited word = pick audited (media (state_of word) (mode_of word)) nothing

-- "Subtract of an ephemeral returns `S=R/1{SA{rtp/pr=n,rtp/jit=n}}`", the figures of its block x
unfoldable pub told_of : Op → Bool → ℕ → ℕ → ℕ → Block → Detail
told_of op audited word n i x =
    elim op [ Add ↦ detail_of audited word | Modify ↦ detail_of audited word | Subtract ↦ pick (is_ephemeral n i) (statistics x.packets (reported x)) (detail_of audited word) | Move ↦ detail_of audited word | AuditValue ↦ detail_of audited word ]

-- "A success, and an attempt of a wildcard, bears the full name with capital letters; other failures the bytes received"
unfoldable pub concluded : Op → Bool → List ℕ → ℕ → Values → ℕ → Context → View → Block → Checked → Effect
concluded op wild name given vs i at v x (Ok tt) =
    record { writes = changes op at given i vs v; blocks = renews op v.lines i; report = done op (name_text v.lines i) (told_of op vs.audited v.word v.lines i x); at = settled at v; good = true }
concluded op wild name given vs i at v x (Err code) =
    record { writes = []; blocks = []; report = refused op (pick wild (name_text v.lines i) name) code; at = at; good = false }

-- by the view and the block of termination i
unfoldable pub effect : Op → Bool → List ℕ → ℕ → Values → ℕ → Context → View → Block → Effect
effect op wild name given vs i at v x = concluded op wild name given vs i at v x (judge (checks op at i vs v))
