-- Figure 7 of clause 7.1.18, panel by panel, as computed calls: T1, T2, T3 are L/1/1, L/1/2, L/1/3, the three members of context 1, places 0, 1
-- and 2. "In these examples it is assumed that the topology descriptors are applied in sequence."
use mathlib.Core.Path.{◌≡◌, refl}
use mathlib.Core.Bool.{true, false}
use mathlib.Core.List.{[]}
use Rattle.laws.specs.Witness.{with_words}
use Rattle.laws.specs.Figure7.{panel, shown, after_all, first, up_to2, up_to3, up_to4, up_to5, up_to6}
use Rattle.laws.proofs.Witness.{tests}

-- "all Terminations have a bothway connection to all other Terminations"
pub panel_1 : shown (after_all first (with_words [])) ≡ panel true true true true true true
unfolding tests shown after_all
panel_1 = refl

-- "Removes the connection between T1 and T2. T3 has a bothway connection with both T1 and T2"
pub panel_2 : shown (after_all up_to2 (with_words [])) ≡ panel false false true true true true
unfolding tests shown after_all
panel_2 = refl

-- "A oneway connection from T3 to T2 (i.e., T2 receives media flow from T3). A bothway connection between T1 and T3"
pub panel_3 : shown (after_all up_to3 (with_words [])) ≡ panel false false true true false true
unfolding tests shown after_all
panel_3 = refl

-- "A oneway connection between T2 to T3. T1 and T3 remain bothway connected"
pub panel_4 : shown (after_all up_to4 (with_words [])) ≡ panel false false true true true false
unfolding tests shown after_all
panel_4 = refl

-- "T2 is bothway connected to T3. This results in the same as 2"
pub panel_5 : shown (after_all up_to5 (with_words [])) ≡ shown (after_all up_to2 (with_words []))
unfolding tests shown after_all
panel_5 = refl

-- "All Terminations have a bothway connection to all other Terminations"
pub panel_6 : shown (after_all up_to6 (with_words [])) ≡ panel true true true true true true
unfolding tests shown after_all
panel_6 = refl
