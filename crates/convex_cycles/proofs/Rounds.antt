-- Walks round a cycle: the edge before and the edge after, and where a cycle changes from one kind of corner to another.
use Rattle.std.proofs.Common.{◌≡◌, ◌⊎◌, inl, inr, List, [], ◌∷◌, refl, sym, subst}
use Rattle.spec_space.specs.declared.Point.{Point}
use Rattle.convex_cycles.specs.Cycles.{Step, Follows, AreChained, IsRound}
use Rattle.convex_cycles.proofs.Lists.{Member}

-- ---- the edge before and the edge after
abbrev pub HasBefore : List Step → Step → Type 0
HasBefore steps e = (p : Step) × Member p steps × Follows p e

abbrev pub HasAfter : List Step → Step → Type 0
HasAfter steps e = (n : Step) × Member n steps × Follows e n

chained_before : (e : Step) (fs : List Step) (last : Step) → AreChained e fs last → (f : Step) → Member f fs ⊎ (f ≡ last) → HasBefore (e ∷ fs) f
chained_before e [] last c f (inl m) = absurd m
chained_before e [] last c f (inr same) = (e, inl refl, subst (λ x. Follows e x) (sym same) c)
chained_before e (g ∷ gs) last c f (inl (inl same)) = (e, inl refl, subst (λ x. Follows e x) (sym same) c.0)
chained_before e (g ∷ gs) last c f (inl (inr m)) = let r = chained_before g gs last c.1 f (inl m) in (r.0, inr r.1, r.2)
chained_before e (g ∷ gs) last c f (inr same) = let r = chained_before g gs last c.1 f (inr same) in (r.0, inr r.1, r.2)

chained_after : (e : Step) (fs : List Step) (last : Step) → AreChained e fs last → (f : Step) → Member f (e ∷ fs) → (n : Step) × (Member n fs ⊎ (n ≡ last)) × Follows f n
chained_after e [] last c f (inl same) = (last, inr refl, subst (λ x. Follows x last) (sym same) c)
chained_after e [] last c f (inr m) = absurd m
chained_after e (g ∷ gs) last c f (inl same) = (g, inl (inl refl), subst (λ x. Follows x g) (sym same) c.0)
chained_after e (g ∷ gs) last c f (inr m) = let r = chained_after g gs last c.1 f m in (r.0, later g gs last r.0 r.1, r.2)
  where
    later : (g : Step) (gs : List Step) (last n : Step) → Member n gs ⊎ (n ≡ last) → Member n (g ∷ gs) ⊎ (n ≡ last)
    later g gs last n (inl m) = inl (inr m)
    later g gs last n (inr same) = inr same

pub before : (steps : List Step) → IsRound steps → (e : Step) → Member e steps → HasBefore steps e
before [] round e m = absurd m
before (f ∷ fs) round e (inl same) = chained_before f fs f round e (inr same)
before (f ∷ fs) round e (inr m) = chained_before f fs f round e (inl m)

pub after : (steps : List Step) → IsRound steps → (e : Step) → Member e steps → HasAfter steps e
after [] round e m = absurd m
after (f ∷ fs) round e m = let r = chained_after f fs f round e m in (r.0, of_round f fs r.0 r.1, r.2)
  where
    of_round : (f : Step) (fs : List Step) (n : Step) → Member n fs ⊎ (n ≡ f) → Member n (f ∷ fs)
    of_round f fs n (inl m) = inr m
    of_round f fs n (inr same) = inl same

-- what holds where each edge begins holds where each ends
pub ends_from_starts : (P : Point → Type 0) (steps : List Step) → IsRound steps → ((e : Step) → Member e steps → P e.start) → (e : Step) → Member e steps → P e.end
ends_from_starts P steps round starts e m = let r = after steps round e m in subst P (sym r.2.0) (starts r.0 r.1)

-- ---- two kinds of corners
-- some edge begins at such a corner
abbrev pub Begins : (Point → Type 0) → List Step → Type 0
Begins R steps = (x : Step) × Member x steps × R x.start

-- an edge from a corner of the first kind to one of the second
abbrev pub Changes : (Point → Type 0) → (Point → Type 0) → List Step → Type 0
Changes P Q steps = (x : Step) × Member x steps × P x.start × Q x.end

module _ (P Q : Point → Type 0) (decide : (c : Point) → P c ⊎ Q c) (apart : (c : Point) → P c → Q c → ⊥) where
  later : (e : Step) (fs : List Step) → Changes P Q fs → Changes P Q (e ∷ fs)
  later e fs r = (r.0, inr r.1, r.2, r.3)

  -- from a corner of the first kind to a later one of the second
  rises : (e : Step) (fs : List Step) (last : Step) → AreChained e fs last → P e.start → Begins Q fs ⊎ Q last.start → Changes P Q (e ∷ fs)
  rises e [] last c low (inl b) = absurd b.1
  rises e [] last c low (inr high) = (e, inl refl, low, subst Q (sym c.0) high)
  rises e (g ∷ gs) last c low high = elim (decide e.end) [
    | inl still ↦ later e (g ∷ gs) (rises g gs last c.1 (subst P c.0.0 still) (rest (subst P c.0.0 still) high))
    | inr up ↦ (e, inl refl, low, up)
  ]
    where
      rest : P g.start → Begins Q (g ∷ gs) ⊎ Q last.start → Begins Q gs ⊎ Q last.start
      rest low (inl b) = elim b.1 [
        | inl same ↦ absurd (apart g.start low (subst (λ x. Q x.start) same b.2))
        | inr m ↦ inl (b.0, m, b.2)
      ]
      rest low (inr high) = inr high

  rises_later : (e : Step) (fs : List Step) (last : Step) → AreChained e fs last → Begins P (e ∷ fs) → Q last.start → Changes P Q (e ∷ fs)
  rises_later e [] last c b high = elim b.1 [
    | inl same ↦ rises e [] last c (subst (λ x. P x.start) same b.2) (inr high)
    | inr m ↦ absurd m
  ]
  rises_later e (g ∷ gs) last c b high = elim b.1 [
    | inl same ↦ rises e (g ∷ gs) last c (subst (λ x. P x.start) same b.2) (inr high)
    | inr m ↦ later e (g ∷ gs) (rises_later g gs last c.1 (b.0, m, b.2) high)
  ]

  -- a cycle with corners of both kinds has such an edge
  pub changes : (steps : List Step) → IsRound steps → Begins P steps → Begins Q steps → Changes P Q steps
  changes [] round low high = absurd low.1
  changes (e ∷ es) round low high = elim (decide e.start) [
    | inl first ↦ rises e es e round first (inl (elim high.1 [
      | inl same ↦ absurd (apart e.start first (subst (λ x. Q x.start) same high.2))
      | inr m ↦ (high.0, m, high.2)
    ]))
    | inr first ↦ rises_later e es e round low first
  ]

  -- some corner is of the second kind, or each is of the first
  pub some_or_none : (steps : List Step) → Begins Q steps ⊎ ((e : Step) → Member e steps → P e.start)
  some_or_none [] = inr (λ e m. absurd m)
  some_or_none (x ∷ xs) = elim (decide x.start) [
    | inr high ↦ inl (x, inl refl, high)
    | inl low ↦ elim (some_or_none xs) [
      | inl b ↦ inl (b.0, inr b.1, b.2)
      | inr none ↦ inr (all x xs low none)
    ]
  ]
    where
      all : (x : Step) (xs : List Step) → P x.start → ((e : Step) → Member e xs → P e.start) → (e : Step) → Member e (x ∷ xs) → P e.start
      all x xs low none e (inl same) = subst (λ y. P y.start) (sym same) low
      all x xs low none e (inr m) = none e m
