use Rattle.std.proofs.Common.{[], ◌∷◌, All, sym, subst}
use Rattle.std.proofs.lemmas.List.Elements.{All-cons, All-nil}
use Rattle.plane_core.specs.declared.numbers.Corner.{Corner}
use Rattle.world_print.specs.Ranges.{IsOnGrid}
use Rattle.page_trials.proofs.meshes.four_corners.Goals as goal

all_four : (a b c d : Corner) → IsOnGrid a → IsOnGrid b → IsOnGrid c → IsOnGrid d → All IsOnGrid (a ∷ (b ∷ (c ∷ (d ∷ []))))
all_four a b c d p q r s =
    All-cons IsOnGrid a (b ∷ (c ∷ (d ∷ []))) p (All-cons IsOnGrid b (c ∷ (d ∷ [])) q (All-cons IsOnGrid c (d ∷ []) r (All-cons IsOnGrid d [] s (All-nil IsOnGrid))))

pub returns-clause-reach : goal.returns-clause-reach
returns-clause-reach c =
    subst (All IsOnGrid) (sym c.in_ok-from_array.ensures.items)
    (all_four c.corner_at.result c.corner_at-2.result c.corner_at-3.result c.corner_at-4.result c.corner_at.ensures c.corner_at-2.ensures c.corner_at-3.ensures c.corner_at-4.ensures)
