-- One wall more, and one hole more.
use Rattle.std.proofs.Common.{◌≡◌, ℕ, ◌+◌, List, ◌++◌, ap, sym, ◌∙◌, append_assoc, add-one}
use Rattle.model_gen.specs.Model.{walls, wall, holes, hole}

pub walls_more : (old text grown : List ℕ) (i : ℕ) → text ≡ old ++ walls i → grown ≡ text ++ wall i → grown ≡ old ++ walls (i + 1)
walls_more old text grown i so_far one =
    one ∙ ap (λ t. t ++ wall i) so_far ∙ append_assoc old (walls i) (wall i) ∙ ap (λ k. old ++ walls k) (sym (add-one i))

pub holes_more : (old text grown : List ℕ) (i : ℕ) → text ≡ old ++ holes i → grown ≡ text ++ hole i → grown ≡ old ++ holes (i + 1)
holes_more old text grown i so_far one =
    one ∙ ap (λ t. t ++ hole i) so_far ∙ append_assoc old (holes i) (hole i) ∙ ap (λ k. old ++ holes k) (sym (add-one i))
