-- The value of a node in front of its plane and behind it.
use Rattle.std.proofs.Common.{◌≡◌, ℕ, zero, suc, Option, slice_get, ℤ, pos, negsuc, ◌<ℤ◌, refl, sym, ap, subst, ◌∙◌, inl, inr, arith}
use Rattle.std.proofs.lemmas.Int.{ints}
use Rattle.tree_pool.specs.Trees.{Tree, node, level_by, choose, value_of, IsPlaneOf, IsTreeOver}

chosen_front : {X : Type 0} (v : ℤ) (a b : Option X) → pos 0 <ℤ v → choose v a b ≡ a
chosen_front (pos zero) a b h = absurd (omega (arith, ints))
chosen_front (pos (suc n)) a b h = refl
chosen_front (negsuc n) a b h = absurd (omega (arith, ints))

chosen_back : {X : Type 0} (v : ℤ) (a b : Option X) → v <ℤ pos 0 → choose v a b ≡ b
chosen_back (pos zero) a b h = absurd (omega (arith, ints))
chosen_back (pos (suc n)) a b h = absurd (omega (arith, ints))
chosen_back (negsuc n) a b h = refl

pub over_node : (k : ℕ) (f g t : Tree) → node k f g ≡ t → IsTreeOver k f g t
over_node k f g t e = subst (IsTreeOver k f g) e (record {
  in_front = λ planes q h. chosen_front (level_by (slice_get planes k) q) (value_of planes f q) (value_of planes g q) h;
  behind = λ planes q h. chosen_back (level_by (slice_get planes k) q) (value_of planes f q) (value_of planes g q) h;
  planes = λ h is. is;
})

pub over_same : (k : ℕ) (f g t : Tree) → f ≡ g → f ≡ t → IsTreeOver k f g t
over_same k f g t e w = record {
  in_front = λ planes q h. ap (λ x. value_of planes x q) (sym w);
  behind = λ planes q h. ap (λ x. value_of planes x q) (sym w ∙ e);
  planes = λ h is. inr (inl (subst (IsPlaneOf h) (sym w) is));
}
