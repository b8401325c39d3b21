-- Laws of the plain matcher over a list and a map, in the form in which `search` uses them.
use mir.Val.{Fits}
use mir.Syntax.{w64}
use Prim.Native.Nat.{ℕ, suc, ◌+◌, ◌-◌, ◌^◌, ◌<◌, ◌≤◌}
use mathlib.Core.Path.{◌≡◌, refl, sym, ap, ◌∙◌}
use mathlib.Core.Bool.{Bool, true, false, ◌&&◌, ◌||◌, or-false}
use mathlib.Core.List.{List, [], ◌∷◌}
use mathlib.Core.Option.{Option, none, some}
use native.Mathlib.Omega.{arith}
use lib.ListN.{length, drop, length-drop, take}
use lib.Seq.{drop-drop}
use lib.Dec.{eqb}
use Rattle.base.specs.Pick.{pick}
use Rattle.base.specs.Lists.{is_at}
use Rattle.base.proofs.TestLaws.{clash, and_left, and_right}
use Rattle.megaco.specs.White.{white_at}
use Rattle.megaco.specs.Reading.{Read, got, fault}
use Rattle.protocol.specs.Types.{Parsed}
use Rattle.text.proofs.TextLaws.{within}
use Rattle.digits.specs.Symbols.{symbols_of}
use Rattle.digits.specs.DigitMap.{string_r, alternative_r, read, gone, onto, ends_at, list_f, bare_r, map_r, bar, left_paren}
use Rattle.digits.specs.Dialling.{matches_one, matches_any, plan, plan_of, load, dial, answered, progress, progress_of, is_dialled, first_timer}
use Rattle.digits.specs.declared.Reach.{Reach}
use Rattle.digits.specs.declared.ZeroStart.{ZeroStart}
use Rattle.std.specs.Prelude.{Some, None, Ok, Err}
use Rattle.std.specs.declared.option.Option.{Option as Maybe}
use Rattle.digits.specs.declared.Answer.{Answer}
use Rattle.digits.specs.declared.DialError.TheVariants.{BadMap, BadString}
use Rattle.digits.specs.Ways.{either}
use Rattle.map_text.specs.Ends.{between, Bounded, Begins}
use Rattle.map_text.specs.declared.Bounds.{Bounds}
use Rattle.dialling.specs.Live.{Reaches, ReachesAny}
use Rattle.dialling.specs.Cells.{alts_of, plan_in, Keeps}
use Rattle.dialling.specs.declared.Loaded.{Loaded}
use Rattle.dialling.proofs.StoreLaws.{string_from}
use Rattle.dialling.proofs.DialLaws.{dial_map, dial_string}
use Rattle.plain_digits.specs.Tries.{Tries, TriesAny}

-- ---- one alternative of a list

record Tried (u : List ℕ) (to : ℕ) (w : List ℕ) (r : Reach) : Type 0 where
  pub what : List ℕ
  pub reads : alternative_r u ≡ got what to
  pub reaches : Reaches what w r

tried : (u : List ℕ) (y : Maybe Bounds) (place : Bounds) (t w : List ℕ) (r : Reach) → Bounded u y → y ≡ Some place → t ≡ drop place.from u → Tries t w r → Tried u place.to w r
tried u y place t w r b e d f = by (alternative_r u) refl
  where
    by : (x : Read (List ℕ)) → alternative_r u ≡ x → Tried u place.to w r
    by (got a m) z =
        let g : Begins u a m y = b.within a m z in
        let i : y ≡ between g.from m = g.is in
        let h : ◌≡◌ {A = Bounds} place (record { from = g.from; to = m }) = cc in
        let p : place.from ≡ g.from = ap (λ (x : Bounds). x.from) h in
        let q : m ≡ place.to = sym (ap (λ (x : Bounds). x.to) h) in
        let l : string_r t ≡ got a g.size = rw (d, p) g.reads in
        record { what = a; reads = rw q at z; reaches = f.to 65 64 a g.size (string_from t a g.size l) }
    by fault z = let i : y ≡ None = b.broken z in let c : true ≡ false = cc in absurd (clash c)

or_two : (x a b : Bool) → x || (a || b) ≡ (x || a) || b
or_two true a b = refl
or_two false a b = refl

onto_some : (a : List ℕ) (x : Option (List (List ℕ))) (m : List (List ℕ)) → onto a x ≡ some m → (n : List (List ℕ)) × (x ≡ some n) × (m ≡ a ∷ n)
unfolding onto
onto_some a none m e = let c : true ≡ false = cc in absurd (clash c)
onto_some a (some n) m e = (n, refl, cc)

-- ---- the loop over a list

pub record TriesRest (s w : List ℕ) (i taken : ℕ) (known : Reach) (m : List (List ℕ)) : Type 0 where
  pub more : List (List ℕ)
  pub reads : list_f (16 - taken) (drop i s) ≡ some more
  pub sames : matches_any true m w ≡ known.matched || matches_any true more w
  pub goes : matches_any false m w ≡ known.longer || matches_any false more w

pub record TriesHere (s w : List ℕ) (i taken : ℕ) (known : Reach) : Type 0 where
  pub inside : i ≤ length s
  pub to : (m : List (List ℕ)) → list_f 16 s ≡ some m → TriesRest s w i taken known m

pub tries_start : (s w : List ℕ) → TriesHere s w 0 0 (record { matched = false; longer = false })
tries_start s w = record { inside = omega arith; to = λ m e. record { more = m; reads = e; sames = refl; goes = refl } }

module _ (s w : List ℕ) (i taken : ℕ) (known : Reach) (inv : TriesHere s w i taken known) where
  -- both are answered yes by the alternatives so far
  pub tries_enough : known.matched && known.longer ≡ true → TriesAny (list_f 16 s) w known
  tries_enough h = record { to = λ m e. enough (inv.to m e) }
    where
      p : known.matched ≡ true
      p = and_left known.matched known.longer h

      q : known.longer ≡ true
      q = and_right known.matched known.longer h

      enough : {m : List (List ℕ)} → TriesRest s w i taken known m → ReachesAny m w known
      enough x = record { matched = p ∙ sym (x.sames ∙ rw p); longer = q ∙ sym (x.goes ∙ rw q) }

  pub tries_many : (r : Reach) → 16 ≤ taken → TriesAny (list_f 16 s) w r
  unfolding list_f
  tries_many r h = record { to = λ m e. no_list (inv.to m e) }
    where
      no_list : {m : List (List ℕ)} → TriesRest s w i taken known m → ReachesAny m w r
      no_list x =
          let z : 16 - taken ≡ 0 = omega arith in
          let y : list_f 0 (drop i s) ≡ some x.more = rw z at x.reads in
          let c : true ≡ false = cc in absurd (clash c)

  module _ (h : taken < 16) (u : List ℕ) (r : u ≡ drop i s) (y : Maybe Bounds) (b : Bounded u y) where
    list_open : (m : List (List ℕ)) → list_f (16 - taken) (drop i s) ≡ some m
        → read (alternative_r u) (λ a e. pick (is_at u e bar) (onto a (list_f (16 - (taken + 1)) (drop (e + 1) u))) (pick (ends_at u e) (some (a ∷ [])) none)) ≡ some m
    unfolding list_f
    list_open m f = rw r (by (16 - taken) (16 - (taken + 1)) (omega arith) f)
      where
        by : (k j : ℕ) → k ≡ suc j → list_f k (drop i s) ≡ some m
            → read (alternative_r (drop i s)) (λ a e. pick (is_at (drop i s) e bar) (onto a (list_f j (drop (e + 1) (drop i s)))) (pick (ends_at (drop i s) e) (some (a ∷ [])) none)) ≡ some m
        by k j z g = rw z at g

    pub tries_broken : (q : Reach) → y ≡ None → TriesAny (list_f 16 s) w q
    unfolding read
    tries_broken q e = record { to = λ m f. let x = inv.to m f in let g = rw none_there at (list_open x.more x.reads) in let c : true ≡ false = cc in absurd (clash c) }
      where
        by : (x : Read (List ℕ)) → alternative_r u ≡ x → alternative_r u ≡ fault
        by (got a n) z =
            let g : Begins u a n y = b.within a n z in
            let j : y ≡ between g.from n = g.is in
            let c : true ≡ false = cc in absurd (clash c)
        by fault z = z

        none_there : alternative_r u ≡ fault
        none_there = by (alternative_r u) refl

    module _ (place : Bounds) (e : y ≡ Some place) (t : List ℕ) (d : t ≡ drop place.from u) (q joined : Reach) (f : Tries t w q) (join : joined ≡ either known q) (x : Bool) (g : x ≡ is_at u place.to bar) where
      here : Tried u place.to w q
      here = tried u y place t w q b e d f

      reads_as : (v : Bool) → x ≡ v → (m : List (List ℕ)) → list_f (16 - taken) (drop i s) ≡ some m
          → pick v (onto here.what (list_f (16 - (taken + 1)) (drop (place.to + 1) u))) (pick (ends_at u place.to) (some (here.what ∷ [])) none) ≡ some m
      unfolding read
      reads_as v k m j = by here.what here.reads
        where
          by : (a : List ℕ) → alternative_r u ≡ got a place.to → pick v (onto a (list_f (16 - (taken + 1)) (drop (place.to + 1) u))) (pick (ends_at u place.to) (some (a ∷ [])) none) ≡ some m
          by a z = rw (← k, g) (rw z at (list_open m j))

      pub bar_within : x ≡ true → i + (place.to + 1) ≤ length s
      bar_within h =
          let a : place.to < length u = within u place.to bar x g h (omega arith) in
          let c : length u ≡ length s - i = ap length r ∙ length-drop i s in
          let k : i ≤ length s = inv.inside in
          omega arith

      pub bar_fits : x ≡ true → length s < 2 ^ 64 → Fits w64 (place.to + 1)
      bar_fits h l = let k = bar_within h in record { fits = omega (arith, k) }

      pub bar_fits_2 : x ≡ true → length s < 2 ^ 64 → Fits w64 (i + (place.to + 1))
      bar_fits_2 h l = let k = bar_within h in record { fits = omega (arith, k) }

      pub tries_on : x ≡ true → TriesHere s w (i + (place.to + 1)) (taken + 1) joined
      unfolding pick matches_any
      tries_on h = record { inside = bar_within h; to = λ m j. next (inv.to m j) }
        where
          build : (m k n : List (List ℕ)) → matches_any true m w ≡ known.matched || matches_any true k w → matches_any false m w ≡ known.longer || matches_any false k w
              → list_f (16 - (taken + 1)) (drop (place.to + 1) u) ≡ some n → k ≡ here.what ∷ n → TriesRest s w (i + (place.to + 1)) (taken + 1) (either known q) m
          build m k n a c o v =
              record {
                more = n;
                reads = rw (← drop-drop (place.to + 1) i s, ← r) o;
                sames = a ∙ rw (v, ← here.reaches.matched) (or_two known.matched q.matched (matches_any true n w));
                goes = c ∙ rw (v, ← here.reaches.longer) (or_two known.longer q.longer (matches_any false n w));
              }

          next : {m : List (List ℕ)} → TriesRest s w i taken known m → TriesRest s w (i + (place.to + 1)) (taken + 1) joined m
          next {m} z =
              let o = onto_some here.what (list_f (16 - (taken + 1)) (drop (place.to + 1) u)) z.more (reads_as true h z.more z.reads) in
              rw join (build m z.more o.0 z.sames z.goes o.1 o.2)

      pub tries_last : x ≡ false → TriesAny (list_f 16 s) w joined
      unfolding pick matches_any
      tries_last h = record { to = λ m j. last (inv.to m j) }
        where
          one : (t : Bool) (m : List (List ℕ)) → pick t (some (here.what ∷ [])) none ≡ some m → m ≡ here.what ∷ []
          one true m k = cc
          one false m k = let c : true ≡ false = cc in absurd (clash c)

          last : {m : List (List ℕ)} → TriesRest s w i taken known m → ReachesAny m w joined
          last z =
              let o : z.more ≡ here.what ∷ [] = one (ends_at u place.to) z.more (reads_as false h z.more z.reads) in
              let v = here.reaches in
              rw join (record {
                matched = sym (z.sames ∙ rw (o, ← v.matched, or-false q.matched));
                longer = sym (z.goes ∙ rw (o, ← v.longer, or-false q.longer));
              })

-- ---- a map

module _ (s w : List ℕ) (x : Parsed) (e : x ≡ white_at s 0) where
  pub map_none : (r : Reach) → x ≡ None → TriesAny (map_r s) w r
  unfolding map_r gone
  map_none r f = record { to = λ m g. let j = rw (← e, f) at g in let c : true ≡ false = cc in absurd (clash c) }

  module _ (p : ℕ) (f : x ≡ Some p) (y : Bool) (g : y ≡ is_at s p left_paren) (r : Reach) where
    pub map_list : (t : List ℕ) → y ≡ true → t ≡ drop (p + 1) s → TriesAny (list_f 16 t) w r → TriesAny (map_r s) w r
    unfolding map_r gone pick
    map_list t h d l = rw (← e, f, ← g, h, ← d) l

    pub map_bare : y ≡ false → Tries s w r → TriesAny (map_r s) w r
    unfolding map_r gone pick bare_r read
    map_bare h l = rw (← e, f, ← g, h) (record { to = λ m j. by (string_r s) refl m j })
      where
        one : (a : List ℕ) (t : Bool) (m : List (List ℕ)) → pick t (some (a ∷ [])) none ≡ some m → m ≡ a ∷ []
        one a true m k = cc
        one a false m k = let c : true ≡ false = cc in absurd (clash c)

        alone : (a : List ℕ) → Reaches a w r → ReachesAny (a ∷ []) w r
        alone a z = unfold matches_any in record { matched = z.matched ∙ sym (or-false (matches_one true a w)); longer = z.longer ∙ sym (or-false (matches_one false a w)) }

        by : (z : Read (List ℕ)) → string_r s ≡ z → (m : List (List ℕ)) → read z (λ a n. pick (eqb n (length s)) (some (a ∷ [])) none) ≡ some m → ReachesAny m w r
        by (got a n) z m j = let o : m ≡ a ∷ [] = one a (eqb n (length s)) m j in rw o (alone a (l.to 65 64 a n (string_from s a n z)))
        by fault z m j = let c : true ≡ false = cc in absurd (clash c)

-- ---- the answer

module _ (s : List ℕ) (start : ℕ) (zero' : ZeroStart) (w : List ℕ) (o : Maybe Loaded) (cells : List ℕ) (e : Keeps (load s start zero') o cells) where
  pub plain_map : o ≡ None → Err BadMap ≡ dial (load s start zero') w
  plain_map h = rw (← e.is) (dial_map o cells w h)

  module _ (l : Loaded) (g : o ≡ Some l) (x : Bool) (k : x ≡ is_dialled w) where
    pub plain_string : x ≡ false → Err BadString ≡ dial (load s start zero') w
    plain_string h = rw (← e.is) (dial_string o cells w l g x k h)

    pub plain_answer : (r : Reach) (d : Answer) → x ≡ true → TriesAny (map_r s) (symbols_of w) r → Ok d ≡ answered l.first w (progress r.matched r.longer) → Ok d ≡ dial (load s start zero') w
    unfolding load plan_of plan_in
    plain_answer r d h f q = by (map_r s) refl (rw g at e.is)
      where
        by : (m : Option (List (List ℕ))) → map_r s ≡ m → plan (alts_of (take l.count cells)) l.first ≡ plan_of m (first_timer start zero')
            → Ok d ≡ dial (plan_of m (first_timer start zero')) w
        by none z j = let c : true ≡ false = cc in absurd (clash c)
        by (some m) z j =
            let i : plan (alts_of (take l.count cells)) l.first ≡ plan m (first_timer start zero') = j in
            let t : l.first ≡ first_timer start zero' = cc in
            let v = f.to m z in
            q ∙ rw (t, v.matched, v.longer) (unfold dial pick progress_of in rw (← k, h))
