-- Document 01's session, "Input: ..", "Output: ..", from the calls for its six lines, which crate megaco proves (Examples).
use Prim.Native.Nat.{ℕ, zero, suc}
use mathlib.Core.Path.{◌≡◌, refl, sym, ap, ◌∙◌}
use mathlib.Core.Bool.{true}
use mathlib.Core.List.{List, [], ◌∷◌, ◌++◌}
use mathlib.Core.Option.{none}
use native.Mathlib.Omega.{arith}
use lib.ListN.{length, take, replicate, length-replicate}
use lib.Dec.{leb}
use borrow.Author.Tests.{leb-true}
use Rattle.base.specs.Pick.{pick}
use Rattle.base.specs.Bytes.{text, put, ◌then◌}
use Rattle.base.proofs.OutLaws.{take_put}
use Rattle.megaco.specs.State.{State, state}
use Rattle.megaco.specs.Tree.{request, acknowledge, Message, well_formed, fault400, fault403, fault406}
use Rattle.megaco.specs.Reading.{message_r, sender_of}
use Rattle.megaco.specs.Kept.{Kept, under, find, youngest, keep}
use Rattle.megaco.specs.Room.{Room, room, kept_of, room_sound}
use Rattle.megaco.specs.Message.{Served, identifier}
use Rattle.laws.specs.Bounds.{served_by}
use Rattle.laws.specs.KeptReplies.{Noted, answered_by, part_by, parts_by, message_by}
use Rattle.laws.proofs.Bounds.{served_follows}
use Rattle.laws.proofs.RoomEmpty.{empty_room}
use Rattle.megaco.specs.Call.{Called, written, call}
use Rattle.megaco.proofs.Opened.{opened}
use Rattle.megaco.proofs.Examples.{Row, row_with, no_figures, own, fresh, ended, examples, Unkept, Hold, examples_hold}
use Rattle.sessions.specs.Lines.{line_end, on_first, lines_of}
use Rattle.sessions.specs.Listing.{each, member_text, properties_text, context_line, present, count_line, parts_text, contexts_text, report_text}
use Rattle.sessions.specs.Session.{own_mid, fresh_table, answered, left_by, answer_text, session_text, rest_text, printed_text}

-- ---- rows of the examples one after another

-- the pair of the message's request is not kept
abbrev UnkeptIn : List ℕ → Message → List Kept → Type 0
UnkeptIn m (well_formed (request x ∷ [])) ks = find m (identifier x) ks ≡ none
UnkeptIn m (well_formed (request x ∷ y ∷ ps)) ks = Unit {0}
UnkeptIn m (well_formed (acknowledge as₁ ∷ ps)) ks = Unit {0}
UnkeptIn m (well_formed []) ks = Unit {0}
UnkeptIn m (fault403 id) ks = Unit {0}
UnkeptIn m fault400 ks = Unit {0}
UnkeptIn m fault406 ks = Unit {0}

unkept : (m : List ℕ) (y : Message) (r : Room) (ks : List Kept) → kept_of r ≡ ks → UnkeptIn m y ks → Unkept m y r
unkept m (well_formed (request x ∷ [])) r ks e u = ap (find m (identifier x)) e ∙ u
unkept m (well_formed (request x ∷ y ∷ ps)) r ks e u = tt
unkept m (well_formed (acknowledge as₁ ∷ ps)) r ks e u = tt
unkept m (well_formed []) r ks e u = tt
unkept m (fault403 id) r ks e u = tt
unkept m fault400 r ks e u = tt
unkept m fault406 r ks e u = tt

-- each on eight lines, from the table that the one before left, with a reply that fits, under a pair that those before have not kept
abbrev Follow : State → List Kept → List Row → State → Type 0
Follow t ks [] u = t ≡ u
Follow t ks (row_with n b f m a v g ∷ rs) u =
    (n ≡ 8) × (state b f ≡ t) × (leb (length a) 16640 ≡ true) × UnkeptIn (sender_of m) (message_r m) ks × Follow (state v g) (message_by (sender_of m) (message_r m) (state b f) ks).kept rs u

abbrev messages : List Row → List (List ℕ)
messages [] = []
messages (row_with n b f m a v g ∷ rs) = m ∷ messages rs

abbrev answers : List Row → List ℕ → List ℕ
answers [] x = x
answers (row_with n b f m a v g ∷ rs) x = (a then (line_end ∷ [])) then answers rs x

first_rows : (k : ℕ) (rs : List Row) → Hold rs → Hold (take k rs)
first_rows zero rs h = tt
first_rows (suc k) [] h = tt
first_rows (suc k) (r ∷ rs) h = (h.0, first_rows k rs h.1)

-- the answer to a line whose call is known
said : (m : List ℕ) (t : State) (r : Room) (a : List ℕ) (u : State) (v : Room) (ms : List (List ℕ)) → call 8 m t r own (replicate 16640 0) ≡ written u v a (replicate 16640 0) → leb (length a) 16640 ≡ true
    → session_text (m ∷ ms) (record { state = t; room = r }) ≡ ((a then (line_end ∷ [])) then session_text ms (record { state = u; room = v }))
unfolding session_text answered answer_text own_mid written pick
said m t r a u v ms e h =
    let p : take (length a) (put (replicate 16640 0) 0 a) ≡ a = take_put (replicate 16640 0) a (omega (arith, leb-true (length a) 16640 h, length-replicate {A = ℕ} 16640 0)) in
    ap (λ (c : Called). answer_text c then session_text ms (left_by c)) e ∙ ap (λ (x : List ℕ). (x then (line_end ∷ [])) then session_text ms (record { state = u; room = v })) p

said_rows : (rs : List Row) (t : State) (r : Room) (ks : List Kept) (u : State) → room_sound r ≡ true → kept_of r ≡ ks → Hold rs → Follow t ks rs u
    → session_text (messages rs) (record { state = t; room = r }) ≡ answers rs (report_text u.table)
said_rows [] t r ks u s k h e = (unfold session_text in ap (λ (x : State). report_text x.table) e)
said_rows (row_with n b c m a v g ∷ rs) t r ks u s k h f =
    let x : Served = served_by m (state b c) r in
    let q = served_follows m (state b c) r s in
    let e : call 8 m t r own (replicate 16640 0) ≡ written (state v g) x.room a (replicate 16640 0) =
    (λ i. call (sym f.0 i) m (sym f.1 i) r own (replicate 16640 0))
    ∙ h.0 r s (unkept (sender_of m) (message_r m) r ks k f.3) (replicate 16640 0) (omega (arith, length-replicate {A = ℕ} 16640 0)) in
    let l : kept_of x.room ≡ (message_by (sender_of m) (message_r m) (state b c) ks).kept =
    ap (λ (z : Noted). z.kept) q.noted_is ∙ ap (λ (z : List Kept). (message_by (sender_of m) (message_r m) (state b c) z).kept) k in
    said m t r a (state v g) x.room (messages rs) e f.2 ∙ ap (λ (z : List ℕ). (a then (line_end ∷ [])) then z) (said_rows rs (state v g) x.room _ u q.sound l h.1 f.4)

-- ---- the session

abbrev ends : List (List ℕ) → List ℕ
ends [] = []
ends (l ∷ ls) = l ++ line_end ∷ ends ls

abbrev input : List ℕ
input =
    ends
    (text "!/1 [10.0.0.1] T=7{C=${A=L/1/5,A=$}}"
    ∷ text "!/1 [10.0.0.1] T=8{C=1{A=L/1/5}}"
    ∷ text "!/1 [10.0.0.1] T=9{C=${MV=L/1/5}}"
    ∷ text "!/1 [10.0.0.1] T=10{C=1{S=*,A=L/2/1}}"
    ∷ text "!/1 [10.0.0.1] T=11{C=2{O-S=L/8/31,MF=L/1/5{M{O{MO=SR}}}}}"
    ∷ text "!/1 [10.0.0.1] T=12{C=2{S=L/8/31,S=L/1/5}}"
    ∷ [])

abbrev output : List ℕ
output =
    ends
    (text "!/1 [10.0.0.9] P=7{C=1{A=L/1/5,A=R/1}}"
    ∷ text "!/1 [10.0.0.9] P=8{C=1{A=L/1/5{ER=433{}}}}"
    ∷ text "!/1 [10.0.0.9] P=9{C=2{MV=L/1/5}}"
    ∷ text "!/1 [10.0.0.9] P=10{C=1{S=R/1{SA{rtp/pr=0,rtp/jit=0}},A=L/2/1{ER=411{}}}}"
    ∷ text "!/1 [10.0.0.9] P=11{C=2{S=L/8/31{ER=435{}},MF=L/1/5}}"
    ∷ text "!/1 [10.0.0.9] P=12{C=2{S=L/8/31{ER=435{}}}}"
    ∷ text "contexts 1"
    ∷ text "2 0 0 L/1/5"
    ∷ [])

lines_are : lines_of input ≡ messages (take 6 examples)
unfolding examples lines_of on_first pick
lines_are = refl

they_follow : Follow (state fresh no_figures) [] (take 6 examples) (state ended no_figures)
unfolding opened examples message_by parts_by part_by answered_by find under keep youngest
they_follow = (refl, refl, refl, refl, (refl, refl, refl, refl, (refl, refl, refl, refl, (refl, refl, refl, refl, (refl, refl, refl, refl, (refl, refl, refl, refl, refl))))))

listed : answers (take 6 examples) (report_text ended) ≡ output
unfolding opened examples each member_text properties_text context_line present count_line parts_text contexts_text
listed = refl

abbrev empty : Room
empty = room (replicate 64 0) (replicate 33920 0)

pub session_computes : printed_text input ≡ output
unfolding printed_text rest_text fresh_table
session_computes =
    ap (λ (ls : List (List ℕ)). session_text ls (record { state = state fresh no_figures; room = empty })) lines_are
    ∙ said_rows (take 6 examples) (state fresh no_figures) empty [] (state ended no_figures) empty_room.0 empty_room.1 (first_rows 6 examples examples_hold) they_follow
    ∙ listed
