-- The grammar on a few messages, by computing what they read as: it admits the session's first line, and calls for each fault.
use Prim.Native.Nat.{ℕ}
use mathlib.Core.Path.{refl}
use mathlib.Core.Bool.{true, false}
use mathlib.Core.List.{[], ◌∷◌}
use mathlib.Core.Option.{none, some}
use Rattle.base.specs.Bytes.{text}
use Rattle.megaco.specs.Tree.{plain, quoted, octets, item, command, action, transaction, triple, priority, emergency, topology, request, acknowledge}
use Rattle.protocol.specs.Types.{Null, Numbered, Choose, Oneway, Bothway}
use Rattle.megaco.proofs.Opened.{opened}
use Rattle.grammar.specs.Grammar.{megaco_message}
use Rattle.grammar.specs.Faults.{Fault403, Fault406}
use Rattle.grammar.proofs.Theorems.{read_derives, fault_400, fault_403, fault_406}

first_line : megaco_message (text "!/1 [10.0.0.1] T=7{C=${A=L/1/5,A=$}}") 1 (text "[10.0.0.1]")
    (request (transaction 7 (action Choose [] (command false false (text "A") (text "L/1/5") none ∷ command false false (text "A")
    (text "$") none ∷ []) ∷ [])) ∷ [])
unfolding opened
first_line = read_derives _ _ refl

-- white space and comments around signs, long keywords in any letter case, both prefixes, items of three levels, properties
spaced_line : megaco_message (text " MEGACO/01\t<gw.example>:2944 ; from\r\nTransaction = 1 ;one\n{ context=$ {\n o-W-add = * {M{o{mo=\"x y\"}}}} , C=1{PR=3 , EG}}\n") 1 (text "<gw.example>:2944")
    (request (transaction 1 (
    action Choose [] (command true true (text "add") (text "*") (some (
    item (text "M") none none (some (item (text "o") none none
    (some (item (text "mo") none (some (quoted (text "x y"))) none ∷ [])) ∷ [])) ∷ [])) ∷ [])
    ∷ action (Numbered 1) (priority 3 ∷ emergency ∷ []) [] ∷ [])) ∷ [])
unfolding opened
spaced_line = read_derives _ _ refl

-- "Audit/AT may have empty braces, at level 1 of any command": white space between them, a value before them; not at level 2, nor any other word
empty_audit_lem : megaco_message (text "!/1 [10.0.0.1] T=1{C=-{S=L/1/1{AT{},audit=1{ ;none\n}}}}") 1 (text "[10.0.0.1]")
    (request (transaction 1 (action Null [] (command false false (text "S") (text "L/1/1") (some (
    item (text "AT") none none (some []) ∷ item (text "audit") none (some (plain (text "1"))) (some []) ∷ [])) ∷ []) ∷ [])) ∷ [])
unfolding opened
empty_audit_lem = read_derives _ _ refl

inner_audit : Fault403 (text "!/1 [10.0.0.1] T=1{C=-{MF=L/1/1{M{AT{}}}}}") 1
unfolding opened
inner_audit = (fault_403 _ 1).0 refl

empty_media : Fault403 (text "!/1 [10.0.0.1] T=1{C=-{MF=L/1/1{M{}}}}") 1
unfolding opened
empty_media = (fault_403 _ 1).0 refl

-- Local and Remote with their texts: white space before a text is the brace's; a brace behind a backslash and an opening brace are the text's
speech_line : megaco_message (text "!/1 [10.0.0.1] T=1{C=1{MF=R/1{M{L{ \r\ns={\\}\n} , Remote ;r\n{},O{x{L{y}}}}}}}") 1 (text "[10.0.0.1]")
    (request (transaction 1 (action (Numbered 1) [] (command false false (text "MF") (text "R/1") (some (
    item (text "M") none none (some (
    item (text "L") none (some (octets (text "s={\\}\n"))) none
    ∷ item (text "Remote") none (some (octets [])) none
    ∷ item (text "O") none none (some (item (text "x") none none (some (item (text "L") none none (some (item (text "y") none none none ∷ [])) ∷ [])) ∷ []))
    ∷ [])) ∷ [])) ∷ []) ∷ [])) ∷ [])
unfolding opened
speech_line = read_derives _ _ refl

-- the brace behind the backslash does not end the text, so one is missing; empty braces behind a value, and outside Media
open_text : Fault403 (text "!/1 [10.0.0.1] T=1{C=1{MF=R/1{M{L{v=0\\}}}}}") 1
unfolding opened
open_text = (fault_403 _ 1).0 refl

valued_text : Fault403 (text "!/1 [10.0.0.1] T=1{C=1{MF=R/1{M{L=1{}}}}}") 1
unfolding opened
valued_text = (fault_403 _ 1).0 refl

outer_text : Fault403 (text "!/1 [10.0.0.1] T=1{C=1{MF=R/1{L{}}}}") 1
unfolding opened
outer_text = (fault_403 _ 1).0 refl

-- two triples in one topology, a property before it and a command behind it
topology_line : megaco_message (text "!/1 [10.0.0.1] T=1{C=2{PR=1,TP { L/1/1 , * , oneway, r/3,$,BW },S=*}}") 1 (text "[10.0.0.1]")
    (request (transaction 1 (
    action (Numbered 2) (priority 1 ∷ topology (triple (text "L/1/1") (text "*") Oneway ∷ triple (text "r/3") (text "$") Bothway ∷ []) ∷ [])
    (command false false (text "S") (text "*") none ∷ []) ∷ [])) ∷ [])
unfolding opened
topology_line = read_derives _ _ refl

-- no triple, two names without a direction, a word that is no direction
no_triple : Fault403 (text "!/1 [10.0.0.1] T=1{C=2{TP{}}}") 1
unfolding opened
no_triple = (fault_403 _ 1).0 refl

no_direction : Fault403 (text "!/1 [10.0.0.1] T=1{C=2{TP{L/1/1,L/1/2}}}") 1
unfolding opened
no_direction = (fault_403 _ 1).0 refl

other_direction : Fault403 (text "!/1 [10.0.0.1] T=1{C=2{TP{L/1/1,L/1/2,IN}}}") 1
unfolding opened
other_direction = (fault_403 _ 1).0 refl

-- K with identifiers and ranges, among the transactions
acknowledged_line : megaco_message (text "!/1 [10.0.0.1] K { 007 , 5-9 } T=5{C=-{MF=ROOT}}transactionresponseack{1}") 1 (text "[10.0.0.1]")
    (acknowledge (record { first = 7; last = 7 } ∷ record { first = 5; last = 9 } ∷ [])
    ∷ request (transaction 5 (action Null [] (command false false (text "MF") (text "ROOT") none ∷ []) ∷ []))
    ∷ acknowledge (record { first = 1; last = 1 } ∷ []) ∷ [])
unfolding opened
acknowledged_line = read_derives _ _ refl

-- "any fault in K, a backward range or an identifier 0 too, is 400"
backward_range : (id : ℕ) → ¬ Fault403 (text "!/1 [10.0.0.1] T=1{C=-{MF=ROOT}}K{9-5}") id
unfolding opened
backward_range = ((fault_400 _).0 refl).1

zero_acknowledged : (id : ℕ) → ¬ Fault403 (text "!/1 [10.0.0.1] K{0}") id
unfolding opened
zero_acknowledged = ((fault_400 _).0 refl).1

-- behind a whole K a transaction's fault is its own
fault_behind_ack : Fault403 (text "!/1 [10.0.0.1] K{1}T=7{}") 7
unfolding opened
fault_behind_ack = (fault_403 _ 7).0 refl

-- "T=1{}"
empty_braces : Fault403 (text "!/1 [10.0.0.1] T=1{}") 1
unfolding opened
empty_braces = (fault_403 _ 1).0 refl

zero_identifier_lem : Fault403 (text "!/1 [10.0.0.1] T=1{C=-{S=*}}T=0{") 0
unfolding opened
zero_identifier_lem = (fault_403 _ 0).0 refl

other_version_lem : Fault406 (text "!/2 [10.0.0.1] Q")
unfolding opened
other_version_lem = (fault_406 _).0 refl

-- the comment after the mId is not ended
broken_comment : ¬ Fault406 (text "!/2 [10.0.0.1] ;x")
unfolding opened
broken_comment = ((fault_400 _).0 refl).2
