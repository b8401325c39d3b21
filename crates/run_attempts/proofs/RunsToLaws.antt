-- Outcomes one after another, and the loops that write them.
use Rattle.std.specs.Prelude.{Ok, Err}
use Prim.Native.Nat.{ℕ, ◌+◌, ◌-◌, ◌<◌, ◌≤◌, min}
use mathlib.Core.Path.{◌≡◌, refl, sym, ap, ◌∙◌, subst}
use mathlib.Core.List.{List, [], ◌∷◌, ◌++◌}
use mathlib.Core.Bool.{Bool, true, false, ◌&&◌}
use lib.ListN.{length, get_or, take, drop, drop_of_length-le}
use lib.Dec.{ltb, leb}
use borrow.Author.Tests.{ltb-true, ltb-false}
use lib.Seq.{drop-cons, take_all}
use native.Mathlib.Numerals.{add-one}
use native.Mathlib.Omega.{arith}
use Rattle.base.specs.Pick.{pick}
use Rattle.base.specs.Bytes.{text, ◌then◌}
use Rattle.base.specs.Out.{Appended}
use Rattle.base.proofs.OutLaws.{◌▸◌, none, take_put}
use Rattle.base.proofs.PickLaws.{pick_ind}
use Rattle.base.proofs.TestLaws.{clash, and_both}
use Rattle.megaco.specs.Reply.{Detail, statistics, Report, done, refused, tried_text, detail_text, separator, code_text, reports_text}
use Rattle.report.specs.Rows.{first_after}
use Rattle.report.proofs.ReportLaws.{reports_split, refused_is, done_is}
use Rattle.megaco.specs.Attempt.{effect, concluded, judge, checks, changes, settled, renews, detail_of, told_of, number_of, look}
use Rattle.megaco.specs.Command.{is_subtract, Outcome, outcome, attempts, wanted, matches_from, matches, match_targets, command_error, run_targets}
use Rattle.megaco.specs.Table.{most_lines, line_terminations, terminations, fitted, Sized, context_words, is_ephemeral, exists, apply}
use Rattle.megaco.specs.Blocks.{block_at, cleared, reported}
use Rattle.megaco.specs.declared.Block.{Block}
use Rattle.megaco.proofs.Regions.{context_region}
use Rattle.megaco.specs.State.{State, state, wrote, renewed}
use Rattle.megaco.specs.Names.{in_range, name_text}
use Rattle.attempt_view.specs.Noted.{Matched}
use Rattle.targets.specs.Targets.{targets_in}
use Rattle.targets.specs.declared.Target.{Target}
use Rattle.targets.specs.declared.Target.TheVariants.{NoTarget, Gateway, One, Many}
use Rattle.protocol.specs.Types.{Range, View, Checked, Context, Op, Add, Modify, Subtract, Move, AuditValue, Values}
use Rattle.run_attempts.specs.Contract.{RunsTo, joined, shown, CommandFailed}
use Rattle.run_attempts.specs.declared.Turn.{Turn}
use Rattle.run_attempts.specs.declared.CommandOutcome.{CommandOutcome}

abbrev pub command_outcome : ℕ → Context → Bool → CommandOutcome
command_outcome n at g = record { next = n; at = at; going = g }

-- reports that are there
pub data Some : List Report → Type 0 where
  some : {r : Report} {rs : List Report} → Some (r ∷ rs)

pub join_text : (first : Bool) (rs ys : List Report) → Some rs → reports_text first (rs ++ ys) ≡ reports_text first rs then reports_text false ys
unfolding first_after
join_text first _ ys (some {r = r} {rs = rs}) = reports_split first (r ∷ rs) ys

pub runs_join : (x y : Outcome) (first : Bool) (o : List ℕ) (at : ℕ) (t₁ : State) (o₁ : List ℕ) (t' : State) (o' : List ℕ) (w r : CommandOutcome) → Some x.reports
    → RunsTo x first o at t₁ o₁ w → RunsTo y false o₁ w.next t' o' r → RunsTo (joined x y) first o at t' o' (command_outcome r.next r.at (w.going && r.going))
unfolding joined
runs_join x y first o at t₁ o₁ t' o' w r s p q =
    record {
      state = q.state;
      text = rw (join_text first x.reports y.reports s) (p.text ▸ q.text);
      place = q.place;
      going = λ i. p.going i && q.going i;
    }

-- a run that has come to y, having been good so far, leads to x
pub record Leads (x : Outcome) (first : Bool) (o : List ℕ) (at : ℕ) (good : Bool) (y : Outcome) (f : Bool) (o₁ : List ℕ) (p : ℕ) : Type 0 where
  pub to : (t' : State) (o' : List ℕ) (n : ℕ) (c : Context) (g : Bool) → RunsTo y f o₁ p t' o' (command_outcome n c g) → RunsTo x first o at t' o' (command_outcome n c (good && g))

pub begins : (x : Outcome) (first : Bool) (o : List ℕ) (at : ℕ) → Leads x first o at true x first o at
begins x first o at = record { to = λ t' o' n c g d. d }

and_assoc : (a b c : Bool) → a && b && c ≡ a && (b && c)
and_assoc true b c = refl
and_assoc false b c = refl

-- the next outcome is written
pub leads_on : (x : Outcome) (first : Bool) (o : List ℕ) (at : ℕ) (good : Bool) (a b : Outcome) (f : Bool) (o₁ o₂ : List ℕ) (t₂ : State) (p : ℕ) (w : CommandOutcome)
    → Some a.reports → Leads x first o at good (joined a b) f o₁ p → RunsTo a f o₁ p t₂ o₂ w → Leads x first o at (good && w.going) b false o₂ w.next
leads_on x first o at good a b f o₁ o₂ t₂ p w s l d =
    record {
      to = λ t' o' n c g e.
          subst (λ (z : Bool). RunsTo x first o at t' o' (command_outcome n c z)) (sym (and_assoc good w.going g))
          (l.to t' o' n c (w.going && g) (runs_join a b f o₁ p t₂ o₂ t' o' w (command_outcome n c g) s d e));
    }

-- nothing more is done
pub done_none : (t : State) (o : List ℕ) (first : Bool) (at : ℕ) (c : Context) → RunsTo (outcome t [] c true) first o at t o (command_outcome at c true)
unfolding reports_text
done_none t o first at c = record { state = refl; text = none o at; place = refl; going = refl }

-- ---- attempts

module _ (op : Op) (wild : Bool) (name : List ℕ) (given : ℕ) (vs : Values) where
  abbrev one : ℕ → Context → State → Outcome
  one i at t = attempts op wild name given vs (i ∷ []) at t

  and_true : (a : Bool) → a && true ≡ a
  and_true true = refl
  and_true false = refl

  -- an attempt and the others after it
  pub tries_join : (i : ℕ) (is : List ℕ) (at : Context) (t : State)
      → attempts op wild name given vs (i ∷ is) at t ≡ joined (one i at t) (attempts op wild name given vs is (one i at t).at (one i at t).state)
  unfolding attempts joined
  tries_join i is at t =
      let e = effect op wild name given vs i at (look at i t.table) (block_at (i - line_terminations (fitted t.table)) t.blocks) in
      let r = attempts op wild name given vs is e.at (renewed e.blocks (wrote e.writes t)) in
      ap (λ (g : Bool). outcome r.state (e.report ∷ r.reports) r.at (g && r.going)) (sym (and_true e.good))

  pub one_some : (i : ℕ) (at : Context) (t : State) → Some (one i at t).reports
  unfolding attempts
  one_some i at t = some

  module _ (x : Outcome) (first : Bool) (o : List ℕ) (p₀ : ℕ) (good : Bool) (ms : List ℕ) (k : ℕ) (at : Context) (t : State) (f : Bool) (o₁ : List ℕ) (p : ℕ)
      (l : Leads x first o p₀ good (attempts op wild name given vs (drop k ms) at t) f o₁ p) where
    -- one more attempt is written
    pub tries_on : (i : ℕ) (t₂ : State) (o₂ : List ℕ) (w : CommandOutcome) → k < length ms → i ≡ get_or ms k 0 → RunsTo (one i at t) f o₁ p t₂ o₂ w
        → Leads x first o p₀ (good && w.going) (attempts op wild name given vs (drop (k + 1) ms) w.at t₂) false o₂ w.next
    tries_on i t₂ o₂ w h e d =
        let rest : Context → State → Outcome = λ c u. attempts op wild name given vs (drop (k + 1) ms) c u in
        let q : drop k ms ≡ i ∷ drop (k + 1) ms = rw (drop-cons ms k 0 h, add-one, e) in
        let m : Leads x first o p₀ good (joined (one i at t) (rest (one i at t).at (one i at t).state)) f o₁ p =
        subst (λ (z : Outcome). Leads x first o p₀ good z f o₁ p) (ap (λ (z : List ℕ). attempts op wild name given vs z at t) q ∙ tries_join i (drop (k + 1) ms) at t) l in
        leads_on x first o p₀ good (one i at t) (rest w.at t₂) f o₁ o₂ t₂ p w (one_some i at t)
        (subst (λ (z : Outcome). Leads x first o p₀ good (joined (one i at t) z) f o₁ p) (sym (λ j. rest (d.place j) (d.state j))) m) d

    -- none is left
    pub tries_end : length ms ≤ k → RunsTo x first o p₀ t o₁ (command_outcome p at good)
    unfolding attempts
    tries_end h =
        let m : Leads x first o p₀ good (outcome t [] at true) f o₁ p = subst (λ (z : List ℕ). Leads x first o p₀ good (attempts op wild name given vs z at t) f o₁ p) (drop_of_length-le ms h) l in
        subst (λ (z : Bool). RunsTo x first o p₀ t o₁ (command_outcome p at z)) (and_true good) (m.to t o₁ p at true (done_none t o₁ f p at))

-- ---- one attempt

-- the lines that an attempt sees
lines_seen : (at : Context) (i : ℕ) (t : List ℕ) (v : View) → v ≡ look at i t → v.lines ≡ fitted t
unfolding look
lines_seen at i t v e = ap (λ (y : View). y.lines) e

pub look_lines : (at : Context) (i : ℕ) (t : List ℕ) (v : View) → v ≡ look at i t → Sized t → 0 < v.lines
unfolding look
look_lines at i t v e s = rw e s.some

-- what a success tells behind the name
module _ (op : Op) (audited : Bool) (word lines i f : ℕ) (b : List ℕ) (a : Bool) (f-is : f ≡ line_terminations lines) (a-is : a ≡ is_subtract op) (o : List ℕ) (p : ℕ) (o' : List ℕ) (r : ℕ) where
  abbrev tells : Detail
  tells = told_of op audited word lines i (block_at (i - line_terminations lines) b)

  told_figures : (a && leb f i) ≡ true → tells ≡ statistics (block_at (i - f) b).packets (reported (block_at (i - f) b))
  unfolding told_of is_ephemeral is_subtract pick
  told_figures t = by op (and_both a (leb f i) t).0 a-is
    where
      l : leb (line_terminations lines) i ≡ true
      l = ap (λ (y : ℕ). leb y i) (sym f-is) ∙ (and_both a (leb f i) t).1

      by : (x : Op) → a ≡ true → a ≡ is_subtract x → told_of x audited word lines i (block_at (i - line_terminations lines) b) ≡ statistics (block_at (i - f) b).packets (reported (block_at (i - f) b))
      by Add q e = absurd (clash (sym q ∙ e))
      by Modify q e = absurd (clash (sym q ∙ e))
      by Subtract q e = rw (l, ← f-is)
      by Move q e = absurd (clash (sym q ∙ e))
      by AuditValue q e = absurd (clash (sym q ∙ e))

  told_detail : (a && leb f i) ≡ false → tells ≡ detail_of audited word
  unfolding told_of is_ephemeral is_subtract pick
  told_detail t = by op a-is
    where
      by : (x : Op) → a ≡ is_subtract x → told_of x audited word lines i (block_at (i - line_terminations lines) b) ≡ detail_of audited word
      by Add e = refl
      by Modify e = refl
      by Subtract e = let l : leb (line_terminations lines) i ≡ false = ap (λ (y : ℕ). leb y i) (sym f-is) ∙ (rw e at t) in rw l
      by Move e = refl
      by AuditValue e = refl

  pub figures_put : (x : Block) (j : ℕ) → (a && leb f i) ≡ true → x ≡ block_at (i - f) b → j ≡ reported x → Appended o p (detail_text (statistics x.packets j)) o' r
      → Appended o p (detail_text (told_of op audited word lines i (block_at (i - line_terminations lines) b))) o' r
  figures_put x j t e g d = subst (λ (y : Detail). Appended o p (detail_text y) o' r) ((λ k. statistics (e k).packets ((g ∙ ap reported e) k)) ∙ sym (told_figures t)) d

  pub detail_put : (a && leb f i) ≡ false → Appended o p (detail_text (detail_of audited word)) o' r
      → Appended o p (detail_text (told_of op audited word lines i (block_at (i - line_terminations lines) b))) o' r
  detail_put t d = subst (λ (y : Detail). Appended o p (detail_text y) o' r) (sym (told_detail t)) d

-- the name that a failed attempt bears
module _ (op : Op) (wild : Bool) (lines i : ℕ) (name : List ℕ) (code : ℕ) (first : Bool) (o : List ℕ) (p : ℕ) (o₁ o' : List ℕ) (q r : ℕ) where
  pub shown_full : wild ≡ true → Appended o p (separator first then tried_text op (name_text lines i)) o₁ q → Appended o₁ q (code_text code) o' r
      → Appended o p (reports_text first (refused op (shown lines wild i name) code ∷ [])) o' r
  unfolding shown pick
  shown_full e f g = rw e (refused_is o p o₁ o' q r first op (name_text lines i) code f g)

  pub shown_received : wild ≡ false → Appended o p (separator first then tried_text op name) o₁ q → Appended o₁ q (code_text code) o' r
      → Appended o p (reports_text first (refused op (shown lines wild i name) code ∷ [])) o' r
  unfolding shown pick
  shown_received e f g = rw e (refused_is o p o₁ o' q r first op name code f g)

module _ (op : Op) (wild : Bool) (name : List ℕ) (given : ℕ) (vs : Values) (i : ℕ) (at : Context) (first : Bool) (t b : List ℕ) (o : List ℕ) (p : ℕ) (v : View) (x : Checked) where
  -- the block of the termination
  abbrev figures : Block
  figures = block_at (i - line_terminations v.lines) b

  -- what an attempt comes to, by its tests
  abbrev comes : Checked → Outcome
  comes y = let e = concluded op wild name given vs i at v figures y in outcome (state (apply e.writes t) (cleared e.blocks b)) (e.report ∷ []) e.at (e.good && true)

  tries_one : v ≡ look at i t → x ≡ judge (checks op at i vs v) → attempts op wild name given vs (i ∷ []) at (state t b) ≡ comes x
  unfolding attempts effect
  tries_one e f = rw (← e, ← f, ← lines_seen at i t v e)

  pub attempt_does : (t' b' o' : List ℕ) (n : ℕ) (c : Context) → v ≡ look at i t → x ≡ judge (checks op at i vs v) → x ≡ Ok tt
      → t' ≡ apply (changes op at given i vs v) t → Appended o p (reports_text first (done op (name_text v.lines i) (told_of op vs.audited v.word v.lines i (block_at (i - line_terminations v.lines) b)) ∷ [])) o' n
      → b' ≡ cleared (renews op v.lines i) b → c ≡ settled at v
      → RunsTo (attempts op wild name given vs (i ∷ []) at (state t b)) first o p (state t' b') o' (command_outcome n c true)
  unfolding concluded
  attempt_does t' b' o' n c e f z g a h s =
      rw (tries_one e f ∙ ap comes z) (record { state = λ j. state (g j) (h j); text = a; place = s; going = refl })

  pub attempt_fails : (code : ℕ) (o' : List ℕ) (n : ℕ) → v ≡ look at i t → x ≡ judge (checks op at i vs v) → x ≡ Err code
      → Appended o p (reports_text first (refused op (shown v.lines wild i name) code ∷ [])) o' n
      → RunsTo (attempts op wild name given vs (i ∷ []) at (state t b)) first o p (state t b) o' (command_outcome n at false)
  unfolding concluded shown apply cleared
  attempt_fails code o' n e f z a = rw (tries_one e f ∙ ap comes z) (record { state = refl; text = a; place = refl; going = refl })

-- ---- a target

no_elements : (l : List ℕ) → length l ≡ 0 → l ≡ []
no_elements [] e = refl
no_elements (x ∷ xs) e = absurd (omega (arith, e))

-- no more are matched than there are
matches_from_lem : (lines : ℕ) (op : Op) (c : ℕ) (r : Range) (i : ℕ) (l : List ℕ) → length (matches_from lines op c r i l) ≤ length l
unfolding matches_from
matches_from_lem lines op c r i [] = omega arith
matches_from_lem lines op c r i (x ∷ xs) =
    let h : length (matches_from lines op c r (i + 1) xs) ≤ length xs = matches_from_lem lines op c r (i + 1) xs in
    let m : List ℕ = matches_from lines op c r (i + 1) xs in
    pick_ind (λ l. length l ≤ length (x ∷ xs)) (in_range lines r i && exists lines i x && wanted op c x) (i ∷ m) m (λ e. omega arith) (λ e. omega arith)

pub matches_few : (op : Op) (at : Context) (r : Range) (t z u : List ℕ) (k : ℕ) → Matched (matches op at r t) z u k → k ≤ terminations (fitted t)
unfolding matches
matches_few op at r t z u k m = omega (arith, m.many, matches_from_lem (fitted t) op (number_of at) r 0 (context_words t), (context_region t).few)

-- what was noted in a row that is long enough
noted : (z u is : List ℕ) (k : ℕ) → Matched is z u k → k ≤ length z → take k u ≡ is
noted z u is k m h = rw (m.many, m.row) (take_put z is (rw (← m.many) h))

-- the first numbers of a row, as they are lent
pub lent_first : (l : List ℕ) (n e : ℕ) → e ≡ min n (length l) → take (e - 0) (drop 0 l) ≡ take n l
lent_first l n e q = by (ltb (length l) n) refl
  where
    by : (b : Bool) → ltb (length l) n ≡ b → take (e - 0) (drop 0 l) ≡ take n l
    by true h =
        let f : e - 0 ≡ length l = omega (arith, ltb-true (length l) n h) in
        let g : length l ≤ n = omega (arith, ltb-true (length l) n h) in
        rw f (take_all (length l) l (omega arith) ∙ sym (take_all n l g))
    by false h = let f : e - 0 ≡ n = omega (arith, ltb-false (length l) n h) in rw f

pub noted_attempts : (op : Op) (name : List ℕ) (given : ℕ) (vs : Values) (at : Context) (first : Bool) (t : State) (o : List ℕ) (p : ℕ) (t' : State) (o' l ms : List ℕ) (n e : ℕ) (w : CommandOutcome)
    → e ≡ min n (length l) → ms ≡ take (e - 0) (drop 0 l) → RunsTo (attempts op true name given vs ms at t) first o p t' o' w → RunsTo (attempts op true name given vs (take n l) at t) first o p t' o' w
noted_attempts op name given vs at first t o p t' o' l ms n e w q f d = subst (λ (x : List ℕ). RunsTo (attempts op true name given vs x at t) first o p t' o' w) (f ∙ lent_first l n e q) d

module _ (op : Op) (name : List ℕ) (vs : Values) (turn : Turn) (t b o : List ℕ) (t' : State) (o' : List ℕ) where
  abbrev comes_to : Target → Outcome
  comes_to x = run_targets op name turn.given vs (targets_in x op turn.at t) turn.at (state t b)

  pub target_none : (x : Target) (code : ℕ) (w : CommandOutcome) → x ≡ NoTarget code → CommandFailed op name code turn o o' w → RunsTo (comes_to x) turn.first o turn.next (state t b) o' w
  unfolding targets_in run_targets command_error
  target_none x code w e m = rw e (record { state = refl; text = m.text; place = m.place; going = m.going })

  pub target_gateway : (x : Target) (n : ℕ) → x ≡ Gateway → Appended o turn.next (separator turn.first then tried_text op (text "ROOT")) o' n
      → RunsTo (comes_to x) turn.first o turn.next (state t b) o' (command_outcome n turn.at true)
  unfolding targets_in run_targets
  target_gateway x n e a = rw e (record { state = refl; text = done_is o turn.next o o' turn.next n turn.first op (text "ROOT") a; place = refl; going = refl })

  pub target_one : (x : Target) (i : ℕ) (w : CommandOutcome) → x ≡ One i → RunsTo (attempts op false name turn.given vs (i ∷ []) turn.at (state t b)) turn.first o turn.next t' o' w
      → RunsTo (comes_to x) turn.first o turn.next t' o' w
  unfolding targets_in run_targets
  target_one x i w e d = rw e d

  pub target_many : (x : Target) (r : Range) (w : CommandOutcome) → x ≡ Many r → RunsTo (comes_to (Many r)) turn.first o turn.next t' o' w → RunsTo (comes_to x) turn.first o turn.next t' o' w
  target_many x r w e d = rw e d

  -- nobody is matched
  pub many_none : (r : Range) (z u : List ℕ) (k : ℕ) (w : CommandOutcome) → Matched (matches op turn.at r t) z u k → k ≡ 0 → CommandFailed op name 431 turn o o' w
      → RunsTo (comes_to (Many r)) turn.first o turn.next (state t b) o' w
  unfolding targets_in run_targets command_error match_targets
  many_none r z u k w m e a =
      rw (no_elements (matches op turn.at r t) (sym m.many ∙ e)) (record { state = refl; text = a.text; place = a.place; going = a.going })

  -- those that were noted are tried
  pub many_some : (r : Range) (z u : List ℕ) (k : ℕ) (w : CommandOutcome) → Matched (matches op turn.at r t) z u k → (k ≡ 0 → ⊥) → length z ≡ 560 → fitted t ≤ most_lines
      → RunsTo (attempts op true name turn.given vs (take k u) turn.at (state t b)) turn.first o turn.next t' o' w → RunsTo (comes_to (Many r)) turn.first o turn.next t' o' w
  unfolding targets_in
  many_some r z u k w m n h g d =
      let ms : List ℕ = matches op turn.at r t in
      let f : k ≤ 560 = omega (arith, matches_few op turn.at r t z u k m) in
      let q : take k u ≡ ms = noted z u ms k m (rw h f) in
      by ms (λ z. n (m.many ∙ ap length z)) (subst (λ (l : List ℕ). RunsTo (attempts op true name turn.given vs l turn.at (state t b)) turn.first o turn.next t' o' w) q d)
    where
      by : (l : List ℕ) → (l ≡ [] → ⊥) → RunsTo (attempts op true name turn.given vs l turn.at (state t b)) turn.first o turn.next t' o' w
          → RunsTo (run_targets op name turn.given vs (match_targets l) turn.at (state t b)) turn.first o turn.next t' o' w
      by [] f d = absurd (f refl)
      by (i ∷ is) f d = unfold match_targets run_targets in d
