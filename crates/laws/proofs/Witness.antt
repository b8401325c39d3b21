-- Demand 3 is not empty: two messages that meet its conditions, and that both change the table.
use mathlib.Core.Path.{◌≡◌, refl}
use mathlib.Core.Bool.{true, false}
use mathlib.Core.List.{[], ◌∷◌}
use Rattle.base.specs.Lists.{same}
use Rattle.base.specs.Bytes.{text}
use Rattle.megaco.specs.Tree.{request, well_formed}
use Rattle.megaco.specs.Reading.{message_r}
use Rattle.megaco.specs.Table.{sound}
use Rattle.megaco.specs.Transaction.{run_transaction}
use Rattle.megaco.proofs.Opened.{opened}
use Rattle.laws.specs.Membership.{all?, none_shared?, only_zero_shared?, ahead, collect}
use Rattle.laws.specs.Apart.{contexts_in, names_then, triples_then, names_in, Apart}
use Rattle.laws.specs.ApartTest.{by_number_or_null?, contexts_plain?, name_plain?, names_plain?, termination_of, written_number, named, numbered, standing, reached, terminations_apart?, contexts_apart?, apart?}
use Rattle.laws.specs.Mix.{mixed, steps_of, both_fresh}
use Rattle.laws.specs.Demand.{AsOneAfterOther}
use Rattle.laws.specs.Witness.{message, first_of, read, with_words, start, lent, one, two, map, alternate}
use Rattle.laws.proofs.Demand.{any_mixture}
use Rattle.laws.proofs.ApartTest.{apart_is}

-- every test, opened
unfoldable pub tests : Unit {0}
unfolding opened first_of with_words all? ahead collect contexts_in names_then triples_then names_in by_number_or_null? contexts_plain? name_plain? names_plain? termination_of written_number named numbered standing reached none_shared? only_zero_shared? terminations_apart? contexts_apart? apart?
tests = tt

-- ---- the pair meets the conditions

pub reads_one : message_r (message one) ≡ well_formed (request (read one) ∷ [])
unfolding tests
reads_one = refl

pub reads_two : message_r (message two) ≡ well_formed (request (read two) ∷ [])
unfolding tests
reads_two = refl

pub start_sound : sound start ≡ true
unfolding tests
start_sound = refl

apart_tested : apart? start (read one) (read two) ≡ true
unfolding tests
apart_tested = refl

-- both change the table
pub both_change : (same (run_transaction (read one) (lent start)).state.table start ≡ false) × (same (run_transaction (read two) (lent start)).state.table start ≡ false)
unfolding tests
both_change = (refl, refl)

pub share_the_map : (map start ≡ 3) × (map (run_transaction (read one) (lent start)).state.table ≡ 2) × (map (run_transaction (read two) (lent start)).state.table ≡ 1)
    × (map (run_transaction (read two) (run_transaction (read one) (lent start)).state).state.table ≡ 0)
unfolding tests
share_the_map = (refl, refl, refl, refl)

pub replies : ((run_transaction (read one) (lent start)).text ≡ text "P=7{C=1{S=L/1/1,S=R/1{SA{rtp/pr=7,rtp/jit=10}},A=L/8/31},C=-{MF=L/1/1}}")
    × ((run_transaction (read two) (lent start)).text ≡ text "P=8{C=2{A=R/9{ER=430{}},S=R/2{SA{rtp/pr=9,rtp/jit=0}},S=L/1/3},C=200{MV=ROOT{ER=411{}}},C=2{A=L/1/6{ER=411{}}}}")
unfolding tests
replies = (refl, refl)

pub apart : Apart start (read one) (read two)
apart = (apart_is start (read one) (read two)).0 apart_tested

-- ---- and turn by turn

pub turn_by_turn : AsOneAfterOther (lent start) (read one) (read two) (mixed (alternate (steps_of (read one)) (steps_of (read two))) (both_fresh (lent start)))
turn_by_turn = any_mixture (lent start) start_sound (read one) (read two) apart (alternate (steps_of (read one)) (steps_of (read two)))
