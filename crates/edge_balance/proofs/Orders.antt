-- The order of pairs of places is total, and tells all of them apart.
use Rattle.std.proofs.Common.{◌≡◌, inl, inr, ℕ, ◌<◌, ◌≤◌, false, refl, sym, ap, ◌∙◌, arith}
use Rattle.std.specs.Cmp.{IsTotalOrder}
use Rattle.std.specs.Ordering.{nat_cmp, ordering_then, ordering_reverse, is_lt}
use Rattle.std.specs.declared.cmp.Ordering.{Ordering}
use Rattle.std.specs.declared.cmp.Ordering.TheVariants.{Less, Equal, Greater}
use Rattle.std.proofs.lemmas.Bool.Decides.{nat_tests}
use Rattle.std.proofs.lemmas.Cmp.{nat_cmp_total, on_total, then_total, tied_itself}
use Rattle.spec_check.specs.Verdicts.{IsPairUpTo}
use Rattle.edge_balance.specs.Pairs.{pair_cmp}

pub pairs_total : IsTotalOrder pair_cmp
pairs_total = then_total (on_total (λ (p : ℕ × ℕ). p.0) nat_cmp_total) (on_total (λ (p : ℕ × ℕ). p.1) nat_cmp_total)

pub itself : (p : ℕ × ℕ) → pair_cmp p p ≡ Equal
itself p = tied_itself pairs_total p

-- the other way round
pub back : (p q : ℕ × ℕ) (o : Ordering) → pair_cmp p q ≡ o → pair_cmp q p ≡ ordering_reverse o
back p q o e = pairs_total.antisymm q p ∙ ap ordering_reverse e

then_equal : (o p : Ordering) → ordering_then o p ≡ Equal → (o ≡ Equal) × (p ≡ Equal)
then_equal Less p e = cc
then_equal Equal p e = (refl, e)
then_equal Greater p e = cc

same_number : (a b : ℕ) → nat_cmp a b ≡ Equal → a ≡ b
same_number a b e = grind (arith, nat_tests)

pub same_pair : (p q : ℕ × ℕ) → pair_cmp p q ≡ Equal → p ≡ q
same_pair p q e =
    let both = then_equal (nat_cmp p.0 q.0) (nat_cmp p.1 q.1) e in
    let first = same_number p.0 q.0 both.0 in
    let second = same_number p.1 q.1 both.1 in
    λ i. (first i, second i)

-- a pair that is not before another comes behind it or is the same
pub up_to : (p q : ℕ × ℕ) → is_lt (pair_cmp q p) ≡ false → IsPairUpTo p.0 p.1 q.0 q.1
up_to p q h = numbers p.0 p.1 q.0 q.1 h
  where
    numbers : (a b c d : ℕ) → is_lt (ordering_then (nat_cmp c a) (nat_cmp d b)) ≡ false → IsPairUpTo a b c d
    numbers a b c d h = by (nat_cmp c a) refl h
      where
        not_less : (m n : ℕ) → nat_cmp m n ≡ Less → m < n
        not_less m n e = grind (arith, nat_tests)

        greater : (m n : ℕ) → nat_cmp m n ≡ Greater → n < m
        greater m n e = grind (arith, nat_tests)

        not_lower : (m n : ℕ) → is_lt (nat_cmp m n) ≡ false → n ≤ m
        not_lower m n e = grind (arith, nat_tests)

        by : (o : Ordering) → nat_cmp c a ≡ o → is_lt (ordering_then o (nat_cmp d b)) ≡ false → IsPairUpTo a b c d
        by Less e h = cc
        by Equal e h = inr (sym (same_number c a e), not_lower d b h)
        by Greater e h = inl (greater c a e)
