-- What the flags of the corners of a cycle say of its corners.
use Rattle.std.proofs.Common.{◌≡◌, ◌⊎◌, inl, inr, Bool, ◌||◌, true, false, List, [], ◌∷◌, ◌++◌, map, refl, sym, subst, ◌∙◌, true≢false}
use Rattle.std.specs.List.{list_any}
use Rattle.spec_space.specs.declared.Point.{Point}
use Rattle.spec_space.specs.declared.Plane.{Plane}
use Rattle.spec_space.specs.Points.{value}
use Rattle.convex_cycles.specs.Sides.{is_in_front}
use Rattle.convex_cycles.specs.Cycles.{Step}
use Rattle.convex_cycles.proofs.Lists.{Member}
use Rattle.convex_cycles.proofs.Flags.{Tells, front_tells}
use Rattle.convex_cycles.proofs.Rounds.{Begins}
use Rattle.convex_cycles.proofs.CutSides.{start_flag, round_flags}
use Rattle.convex_cycles.proofs.Cuts.{KeptBy, NotKeptBy}

pub kept_from_flag : (k : Plane) (c : Point) → is_in_front k c ≡ true → KeptBy k c
kept_from_flag k c e = subst (λ b. Tells b (value k c)) e (front_tells k c)

pub not_kept_from_flag : (k : Plane) (c : Point) → is_in_front k c ≡ false → NotKeptBy k c
not_kept_from_flag k c e = subst (λ b. Tells b (value k c)) e (front_tells k c)

either : (a b : Bool) → (a || b) ≡ true → (a ≡ true) ⊎ (b ≡ true)
either true b e = inl refl
either false b e = inr e

neither : (a b : Bool) → (a || b) ≡ false → (a ≡ false) × (b ≡ false)
neither true b e = absurd (true≢false e)
neither false b e = (refl, e)

-- a test that picks out the flag true
module _ (test : Bool → Bool) (of_true : test true ≡ true) (of_false : test false ≡ false) where
  passes : (b : Bool) → test b ≡ true → b ≡ true
  passes true e = refl
  passes false e = absurd (true≢false (sym e ∙ of_false))

  fails : (b : Bool) → test b ≡ false → b ≡ false
  fails true e = absurd (true≢false (sym of_true ∙ e))
  fails false e = refl

  some_start : (k : Plane) (es : List Step) (more : List Bool) → list_any test (map (start_flag k) es ++ more) ≡ true → Begins (KeptBy k) es ⊎ (list_any test more ≡ true)
  some_start k [] more e = inr e
  some_start k (x ∷ xs) more e = elim (either (test (start_flag k x)) (list_any test (map (start_flag k) xs ++ more)) e) [
    | inl here ↦ inl (x, inl refl, kept_from_flag k x.start (passes (start_flag k x) here))
    | inr rest ↦ elim (some_start k xs more rest) [
      | inl b ↦ inl (b.0, inr b.1, b.2)
      | inr last ↦ inr last
    ]
  ]

  no_start : (k : Plane) (es : List Step) (more : List Bool) → list_any test (map (start_flag k) es ++ more) ≡ false → (e : Step) → Member e es → NotKeptBy k e.start
  no_start k [] more none e m = absurd m
  no_start k (x ∷ xs) more none e (inl same) = subst (λ y. NotKeptBy k y.start) (sym same) (not_kept_from_flag k x.start (fails (start_flag k x) (neither (test (start_flag k x)) (list_any test (map (start_flag k) xs ++ more)) none).0))
  no_start k (x ∷ xs) more none e (inr m) = no_start k xs more (neither (test (start_flag k x)) (list_any test (map (start_flag k) xs ++ more)) none).1 e m

  -- some flag is true: some corner is kept
  pub some_kept : (k : Plane) (steps : List Step) → list_any test (round_flags k steps) ≡ true → Begins (KeptBy k) steps
  some_kept k [] e = absurd (true≢false (sym e))
  some_kept k (x ∷ xs) e = elim (some_start k (x ∷ xs) (start_flag k x ∷ []) e) [
    | inl b ↦ b
    | inr last ↦ elim (either (test (start_flag k x)) false last) [
      | inl here ↦ (x, inl refl, kept_from_flag k x.start (passes (start_flag k x) here))
      | inr none ↦ absurd (true≢false (sym none))
    ]
  ]

  -- none is: no corner is kept
  pub none_kept : (k : Plane) (steps : List Step) → list_any test (round_flags k steps) ≡ false → (e : Step) → Member e steps → NotKeptBy k e.start
  none_kept k [] none e m = absurd m
  none_kept k (x ∷ xs) none e m = no_start k (x ∷ xs) (start_flag k x ∷ []) none e m
