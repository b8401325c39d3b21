-- Computed witnesses of the fold (document 02, CR 7): an action as its text, merged, and what both leave; and why refused triples are left aside.
use mathlib.Core.Path.{◌≡◌, refl}
use mathlib.Core.Bool.{true, false}
use Rattle.base.specs.Lists.{same}
use Rattle.base.specs.Bytes.{text}
use Rattle.megaco.specs.Table.{sound}
use Rattle.megaco.specs.Transaction.{run_transaction}
use Rattle.laws.specs.Witness.{read, lent}
use Rattle.laws.specs.Folding.{alike, on_one_pair, any_on, folded, untied, merged}
use Rattle.laws.specs.FoldedSample.{properties_of, three, cut, after, Alike, Differ, several, one, refused, refused_once}
use Rattle.laws.proofs.Witness.{tests}

-- both tables are sound
pub sound_both : (sound three ≡ true) × (sound cut ≡ true)
unfolding tests
sound_both = (refl, refl)

-- ---- the laws, one by one: the two actions leave the same table, and it is another than before

-- "the same triple twice in a row equals once"
pub twice : Alike three "T=1{C=1{TP{L/1/1,L/1/2,OW,L/1/1,L/1/2,OW}}}" "T=1{C=1{TP{L/1/1,L/1/2,OW}}}"
unfolding tests
twice = (refl, refl)

-- "Isolate and Bothway don't care for the order of names"
pub isolate : Alike three "T=1{C=1{TP{L/1/1,L/1/2,IS}}}" "T=1{C=1{TP{L/1/2,L/1/1,IS}}}"
unfolding tests
isolate = (refl, refl)

pub bothway : Alike cut "T=1{C=1{TP{L/1/1,L/1/2,BW}}}" "T=1{C=1{TP{L/1/2,L/1/1,BW}}}"
unfolding tests
bothway = (refl, refl)

-- "on one pair, its names in either order, only the last triple counts"
pub last : Alike three "T=1{C=1{TP{L/1/1,L/1/2,IS,L/1/1,L/1/2,OW}}}" "T=1{C=1{TP{L/1/1,L/1/2,OW}}}"
unfolding tests
last = (refl, refl)

pub last_turned : Alike three "T=1{C=1{TP{L/1/2,L/1/1,OW,L/1/1,L/1/2,OW}}}" "T=1{C=1{TP{L/1/1,L/1/2,OW}}}"
unfolding tests
last_turned = (refl, refl)

-- "triples on different pairs may change places"
pub places : Alike three "T=1{C=1{TP{L/1/1,L/1/2,OW,L/1/3,L/1/2,IS}}}" "T=1{C=1{TP{L/1/3,L/1/2,IS,L/1/1,L/1/2,OW}}}"
unfolding tests
places = (refl, refl)

-- ---- a condition dropped: the two actions are taken both, and leave two tables

-- Oneway with its names exchanged
pub oneway_exchanged : Differ three "T=1{C=1{TP{L/1/1,L/1/2,OW}}}" "T=1{C=1{TP{L/1/2,L/1/1,OW}}}"
unfolding tests
oneway_exchanged = (refl, refl, refl)

-- triples on one pair exchanged, its names in one order and in both
pub one_pair_exchanged : Differ three "T=1{C=1{TP{L/1/1,L/1/2,IS,L/1/1,L/1/2,OW}}}" "T=1{C=1{TP{L/1/1,L/1/2,OW,L/1/1,L/1/2,IS}}}"
unfolding tests
one_pair_exchanged = (refl, refl, refl)

pub turned_pair_exchanged : Differ three "T=1{C=1{TP{L/1/2,L/1/1,OW,L/1/1,L/1/2,OW}}}" "T=1{C=1{TP{L/1/1,L/1/2,OW,L/1/2,L/1/1,OW}}}"
unfolding tests
turned_pair_exchanged = (refl, refl, refl)

-- the last triple alone, where the one before is on another pair
pub other_pair_left_out : Differ three "T=1{C=1{TP{L/1/1,L/1/2,IS,L/1/1,L/1/3,OW}}}" "T=1{C=1{TP{L/1/1,L/1/3,OW}}}"
unfolding tests
other_pair_left_out = (refl, refl, refl)

-- ---- the fold

pub merges : merged (properties_of (read several)) ≡ properties_of (read one)
unfolding tests properties_of merged untied folded any_on on_one_pair alike
merges = refl

-- both leave the same table and reply, and the flows are other than before
pub ends_alike : (same (run_transaction (read several) (lent three)).state.table (run_transaction (read one) (lent three)).state.table ≡ true)
    × ((run_transaction (read several) (lent three)).text ≡ text "P=1{C=1{PR=3}}") × ((run_transaction (read one) (lent three)).text ≡ text "P=1{C=1{PR=3}}")
    × (same (run_transaction (read one) (lent three)).state.table three ≡ false)
unfolding tests
ends_alike = (refl, refl, refl, refl)

pub refused_apart : (merged (properties_of (read refused)) ≡ properties_of (read refused_once))
    × ((run_transaction (read refused) (lent three)).text ≡ text "P=1{C=1{ER=435{}}}") × ((run_transaction (read refused_once) (lent three)).text ≡ text "P=1{C=1{ER=430{}}}")
unfolding tests properties_of merged untied folded any_on on_one_pair alike
refused_apart = (refl, refl, refl)

-- why the shortest list is asked to set the same whatever the flows before: what the flows are already takes no triple at all
pub set_already : same (after "T=1{C=1{TP{L/1/1,L/1/2,BW}}}" three) three ≡ true
unfolding tests
set_already = refl
