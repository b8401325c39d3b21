-- Footprints. A footprint is a set N of terminations and a set K of contexts. The slots of the footprint are those that a termination
-- of N or a context of K owns; who stands in a context of K counts as part of it too.
use Prim.Native.Nat.{ℕ, ◌+◌, ◌/◌, ◌≤◌, ◌<◌}
use mathlib.Core.Path.{◌≡◌, refl, sym, ap, ◌∙◌, subst}
use mathlib.Core.Logic.{◌≢◌}
use mathlib.Core.Bool.{false}
use mathlib.Core.List.{List, [], ◌∷◌}
use lib.ListN.{length}
use lib.Dec.{eqb}
use borrow.Author.Tests.{ne_eqb}
use Rattle.megaco.specs.Table.{terminations, contexts, words, fitted, prop, rec, used, flow, speech, Slot, ctx, cell, get, Write, write, store, apply}
use Rattle.megaco.proofs.Sizes.{fitted_is}
use Rattle.base.proofs.TestLaws.{pick_of}
use Rattle.laws.specs.Slots.{Valid, held}
use Rattle.laws.proofs.Slots.{length_store, fitted_store, get_other, store_comm, alike, alike_same, get_store}

-- after a write a slot holds what was written, if it is that slot, or what it held
stored : (n : ℕ) (P : ℕ → Type 0) (r s : Slot) (v : ℕ) (t : List ℕ) → Valid n r → Valid n s → length t ≡ words n → (r ≡ s → P (held s v)) → P (get t s)
    → P (get (store (write r v) t) s)
stored n P r s v t hr hs l f g =
    subst P (sym (get_store n r s v t hr hs l)) (pick_of P (alike r s) (λ e. let q : r ≡ s = alike_same r s e in subst (λ (x : Slot). P (held x v)) (sym q) (f q)) (λ e. g))

-- whose a slot is
pub data Owner : Type 0 where
  termination context : ℕ → Owner

abbrev pub owner : Slot → Owner
owner (ctx i) = termination i
owner (cell (prop i)) = termination i
owner (cell (rec c)) = context c
owner (cell (used i)) = termination i
owner (cell (flow k)) = context (k / 2 + 1)
owner (cell (speech k)) = termination (k / 8)

module _ (lines : ℕ) (N K : ℕ → Type 0) where
  abbrev pub Mine : Owner → Type 0
  Mine (termination i) = N i
  Mine (context c) = K c

  -- a termination is put into null or into a context of the footprint
  abbrev pub Fits : Slot → ℕ → Type 0
  Fits (ctx i) v = 0 < v → K v
  Fits (cell x) v = Unit {0}

  -- a write of the footprint
  pub record Ours (s : Slot) (v : ℕ) : Type 0 where
    pub valid : Valid lines s
    pub mine : Mine (owner s)
    pub fits : Fits s v

  pub data AllOurs : List Write → Type 0 where
    nothing : AllOurs []
    also : {s : Slot} {v : ℕ} {ws : List Write} → Ours s v → AllOurs ws → AllOurs (write s v ∷ ws)

  -- the terminations and the contexts are those of the table
  pub record Foot : Type 0 where
    pub small : (i : ℕ) → N i → i < terminations lines
    pub above : (c : ℕ) → K c → 0 < c
    pub below : (c : ℕ) → K c → c ≤ contexts

  -- each termination of the footprint stands in null or in a context of it
  pub record Closed (t : List ℕ) : Type 0 where
    pub long : length t ≡ words lines
    pub home : (i : ℕ) → N i → 0 < get t (ctx i) → K (get t (ctx i))

  -- two tables look alike to the footprint
  pub record Agree (t u : List ℕ) : Type 0 where
    pub long : length t ≡ length u
    pub same : (s : Slot) → Valid lines s → Mine (owner s) → get t s ≡ get u s
    pub stand : (c : ℕ) → K c → (i : ℕ) → i < terminations lines → eqb (get t (ctx i)) c ≡ eqb (get u (ctx i)) c

  pub agree_refl : (t : List ℕ) → Agree t t
  agree_refl t = record { long = refl; same = λ s h m. refl; stand = λ c k i h. refl }

  pub agree_trans : (t u v : List ℕ) → Agree t u → Agree u v → Agree t v
  agree_trans t u v p q =
      record { long = p.long ∙ q.long; same = λ s h m. p.same s h m ∙ q.same s h m; stand = λ c k i h. p.stand c k i h ∙ q.stand c k i h }

  pub closed_agree : Foot → (t u : List ℕ) → Agree t u → Closed t → Closed u
  closed_agree F t u a c =
      record {
        long = sym a.long ∙ c.long;
        home = λ i m. subst (λ (x : ℕ). 0 < x → K x) (a.same (ctx i) (F.small i m) m) (c.home i m);
      }

  -- a write of the footprint keeps it closed
  closed_store : Foot → (s : Slot) (v : ℕ) (t : List ℕ) → Ours s v → Closed t → Closed (store (write s v) t)
  closed_store F s v t o c =
      record {
        long = length_store (write s v) t ∙ c.long;
        home = λ i m. stored lines (λ (x : ℕ). 0 < x → K x) s (ctx i) v t o.valid (F.small i m) c.long (λ e. subst (λ (r : Slot). Fits r v) e o.fits) (c.home i m);
      }

  pub closed_apply : Foot → (ws : List Write) (t : List ℕ) → AllOurs ws → Closed t → Closed (apply ws t)
  unfolding apply
  closed_apply F _ t nothing c = c
  closed_apply F _ t (also {s = s} {v = v} {ws = ws} o a) c = closed_apply F ws (store (write s v) t) a (closed_store F s v t o c)

-- ---- two footprints that have nothing in common

module _ (lines : ℕ) (N K M L : ℕ → Type 0) where
  pub record Disjoint : Type 0 where
    pub one : Foot lines N K
    pub two : Foot lines M L
    pub apart_terminations : (i : ℕ) → N i → M i → ⊥
    pub apart_contexts : (c : ℕ) → K c → L c → ⊥

  never : Disjoint → (o : Owner) → Mine lines N K o → Mine lines M L o → ⊥
  never D (termination i) a b = D.apart_terminations i a b
  never D (context c) a b = D.apart_contexts c a b

  differ : Disjoint → (s r : Slot) → Mine lines N K (owner s) → Mine lines M L (owner r) → s ≢ r
  differ D s r a b e = never D (owner r) (subst (λ (o : Slot). Mine lines N K (owner o)) e a) b

  -- no context of the first holds a value that fits the second
  strange : Disjoint → (c v : ℕ) → K c → (0 < v → L v) → eqb v c ≡ false
  strange D c v k f = ne_eqb v c (λ e. D.apart_contexts c k (subst L e (f (let h : 0 < c = D.one.above c k in rw e h))))

  -- a write of the second changes nothing that the first sees
  store_agree : Disjoint → (r : Slot) (v : ℕ) (t : List ℕ) → Ours lines M L r v → Closed lines M L t → Agree lines N K t (store (write r v) t)
  store_agree D r v t o c =
      record {
        long = sym (length_store (write r v) t);
        same = λ s h m. sym (get_other lines s r v t (fitted_is lines t c.long) h o.valid (differ D s r m o.mine));
        stand = λ d k i h. stored lines (λ (x : ℕ). eqb (get t (ctx i)) d ≡ eqb x d) r (ctx i) v t o.valid h c.long (at d k i) refl;
      }
    where
      at : (d : ℕ) → K d → (i : ℕ) → r ≡ ctx i → eqb (get t (ctx i)) d ≡ eqb v d
      at d k i e =
          let m : M i = subst (λ (x : Slot). Mine lines M L (owner x)) e o.mine in
          strange D d (get t (ctx i)) k (c.home i m) ∙ sym (strange D d v k (subst (λ (x : Slot). Fits lines M L x v) e o.fits))

  pub apply_agree : Disjoint → (ws : List Write) (t : List ℕ) → AllOurs lines M L ws → Closed lines M L t → Agree lines N K t (apply ws t)
  unfolding apply
  apply_agree D _ t nothing c = agree_refl lines N K t
  apply_agree D _ t (also {s = r} {v = v} {ws = ws} o a) c =
      let u = store (write r v) t in
      agree_trans lines N K t u (apply ws u) (store_agree D r v t o c) (apply_agree D ws u a (closed_store lines M L D.two r v t o c))

  -- writes of the two commute
  store_apply : Disjoint → (s : Slot) (v : ℕ) (ws : List Write) (t : List ℕ) → fitted t ≡ lines → Ours lines N K s v → AllOurs lines M L ws
      → store (write s v) (apply ws t) ≡ apply ws (store (write s v) t)
  unfolding apply
  store_apply D s v _ t f o nothing = refl
  store_apply D s v _ t f o (also {s = r} {v = x} {ws = ws} p a) =
      store_apply D s v ws (store (write r x) t) (fitted_store (write r x) t ∙ f) o a
      ∙ ap (apply ws) (sym (store_comm lines s r v x t f o.valid p.valid (differ D s r o.mine p.mine)))

  pub apply_comm : Disjoint → (vs ws : List Write) (t : List ℕ) → fitted t ≡ lines → AllOurs lines N K vs → AllOurs lines M L ws → apply vs (apply ws t) ≡ apply ws (apply vs t)
  unfolding apply
  apply_comm D _ ws t f nothing b = refl
  apply_comm D _ ws t f (also {s = s} {v = v} {ws = vs} o a) b =
      ap (apply vs) (store_apply D s v ws t f o b) ∙ apply_comm D vs ws (store (write s v) t) (fitted_store (write s v) t ∙ f) a b

pub disjoint_sym : (lines : ℕ) (N K M L : ℕ → Type 0) → Disjoint lines N K M L → Disjoint lines M L N K
disjoint_sym lines N K M L D =
    record { one = D.two; two = D.one; apart_terminations = λ i b a. D.apart_terminations i a b; apart_contexts = λ c b a. D.apart_contexts c a b }
