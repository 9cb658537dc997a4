-- Live numbers are counted: as many different ones as there are, and no rank is above them.
use Rattle.std.proofs.Common.{◌≡◌, ◌<◌, ◌≤◌, ℕ, zero, suc, cond, List, [], ◌∷◌, length, slice_get, Option, Some, None, is_some, count_by, Contains, refl, sym, ap, subst, ◌∙◌, arith}
use Rattle.std.proofs.lemmas.List.Sums.{sum_by-cons}
use Rattle.std.proofs.lemmas.Option.{slice_get_within, get_or_from_slice_get}
use Rattle.indexmap.proofs.IndexTableLemmas.Probe.{pigeonhole}
use Rattle.tree_pool.specs.declared.node.TreeId.{TreeId}
use Rattle.tree_pool.specs.declared.node.Slot.{Slot}
use Rattle.tree_pool.specs.Pools.{Slots, slot_at, IsLive, live_count}
use Rattle.tree_pool.specs.Kept.{IsOnce}
use Rattle.tree_pool.proofs.Pools.{live_slot}

-- how many slots before this key are live
abbrev pub before : Slots → ℕ → ℕ
before [] k = 0
before (o ∷ os) zero = 0
before (None ∷ os) (suc k) = before os k
before (Some s ∷ os) (suc k) = suc (before os k)

count_none : (os : Slots) → count_by is_some (None ∷ os) ≡ count_by is_some os
count_none os = omega (arith, sum_by-cons (λ (o : Option Slot). cond (is_some o) 1 0) None os)

count_some : (s : Slot) (os : Slots) → count_by is_some (Some s ∷ os) ≡ suc (count_by is_some os)
count_some s os = omega (arith, sum_by-cons (λ (o : Option Slot). cond (is_some o) 1 0) (Some s) os)

pub before_low : (os : Slots) (k : ℕ) (s : Slot) → slot_at os k ≡ Some s → before os k < live_count os
before_low [] k s e = absurd (cc)
before_low (None ∷ os) zero s e = absurd (cc)
before_low (Some t ∷ os) zero s e = omega (arith, count_some t os)
before_low (None ∷ os) (suc k) s e = omega (arith, count_none os, before_low os k s e)
before_low (Some t ∷ os) (suc k) s e = omega (arith, count_some t os, before_low os k s e)

pub before_same : (os : Slots) (k l : ℕ) (s t : Slot) → slot_at os k ≡ Some s → slot_at os l ≡ Some t → before os k ≡ before os l → k ≡ l
before_same [] k l s t ek el e = absurd (cc)
before_same (o ∷ os) zero zero s t ek el e = refl
before_same (None ∷ os) zero (suc l) s t ek el e = absurd (cc)
before_same (Some u ∷ os) zero (suc l) s t ek el e = absurd (omega (arith, e))
before_same (None ∷ os) (suc k) zero s t ek el e = absurd (cc)
before_same (Some u ∷ os) (suc k) zero s t ek el e = absurd (omega (arith, e))
before_same (None ∷ os) (suc k) (suc l) s t ek el e = ap suc (before_same os k l s t ek el e)
before_same (Some u ∷ os) (suc k) (suc l) s t ek el e = ap suc (before_same os k l s t ek el (omega (arith, e)))

pub at_place : (ids : List TreeId) (k : ℕ) → k < length ids → (x : TreeId) × (slice_get ids k ≡ Some x)
at_place [] k within = absurd (omega (arith, within))
at_place (y ∷ ys) zero within = (y, refl)
at_place (y ∷ ys) (suc k) within = at_place ys k (omega (arith, within))

pub member : (ids : List TreeId) (k : ℕ) (x : TreeId) → slice_get ids k ≡ Some x → Contains ids x
member ids k x e = (k, slice_get_within ids k x e, get_or_from_slice_get ids k x x e)

abbrev key_of : Option TreeId → ℕ
key_of None = 0
key_of (Some x) = x.key

module _ (pool : Slots) (ids : List TreeId) (once : IsOnce ids) (live : (x : TreeId) → Contains ids x → IsLive pool x) where
  held : (i : ℕ) → i < length ids → (x : TreeId) × (s : Slot) × (slice_get ids i ≡ Some x) × (slot_at pool x.key ≡ Some s)
  held i within =
      let x = at_place ids i within in
      let s = live_slot (slot_at pool x.0.key) (live x.0 (member ids i x.0 x.1)) in
      (x.0, s.0, x.1, s.1)

  low : (i : ℕ) → i < length ids → before pool (key_of (slice_get ids i)) < live_count pool
  low i within = let h = held i within in subst (λ o. before pool (key_of o) < live_count pool) (sym h.2) (before_low pool h.0.key h.1 h.3)

  apart : (i j : ℕ) → i < length ids → j < length ids → before pool (key_of (slice_get ids i)) ≡ before pool (key_of (slice_get ids j)) → i ≡ j
  apart i j wi wj e =
      let h = held i wi in
      let g = held j wj in
      let both : before pool h.0.key ≡ before pool g.0.key = ap (λ o. before pool (key_of o)) (sym h.2) ∙ e ∙ ap (λ o. before pool (key_of o)) g.2 in
      let same = before_same pool h.0.key g.0.key h.1 g.1 h.3 g.3 both in
      once i j h.0 h.2 (g.2 ∙ (λ t. Some (record { key = sym same t })))

  pub few : length ids ≤ live_count pool
  few = pigeonhole (length ids) (live_count pool) (λ i. before pool (key_of (slice_get ids i))) low apart
