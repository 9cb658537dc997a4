use Rattle.std.proofs.Common.{◌≡◌, ℕ, List, length, map, sym, ap, ap₂, subst, ◌∙◌}
use Rattle.std.specs.List.Sorted.{IsPermutation}
use Rattle.std.proofs.lemmas.List.{length-map}
use Rattle.std.proofs.lemmas.List.Sorted.{length_permutation}
use Rattle.exact_mesh.specs.Meshes.{face_of}
use Rattle.edge_balance.specs.Pairs.{turned, first_difference}
use Rattle.edge_balance.proofs.Counts.{pair_found}
use Rattle.edge_balance.proofs.balance.unbalanced.Goals as goal

pub returns : goal.returns
returns c =
    let edges = c.in_ok-edges.edges.items in
    let sorted = c.sort_unstable.new.self.items in
    let back = c.sort_unstable-2.new.self.items in
    let turned_is : c.in_ok-back.back.items ≡ map turned edges = c.in_ok-back.ensures ∙ ap (map turned) c.deref.ensures.value in
    let one = c.sort_unstable.ensures.permutation in
    let other = subst (λ (xs : List (ℕ × ℕ)). IsPermutation xs back) turned_is c.sort_unstable-2.ensures.permutation in
    let level : length back ≡ length sorted = length_permutation (map turned edges) back other ∙ length-map edges turned ∙ sym (length_permutation edges sorted one) in
    pair_found (map face_of c.args.faces.now) edges sorted back c.in_ok-edges.ensures one other c.sort_unstable.ensures.sorted c.sort_unstable-2.ensures.sorted level
    c.first_difference.result (c.first_difference.ensures ∙ ap₂ first_difference c.deref-2.ensures.value c.deref-3.ensures.value)
