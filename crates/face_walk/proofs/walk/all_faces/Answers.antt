use Rattle.std.proofs.Common.{rules}
use Rattle.std.proofs.lemmas.List.Sorted.{All-permutation, IsNonDecreasingBy-from_sort_by_key}
use Rattle.poly_frag.specs.Cycles.{IsFragment}
use Rattle.face_walk.specs.declared.faces.OutFace.{OutFace}
use Rattle.face_walk.proofs.Whole.{fit, faces_of_all}
use Rattle.face_walk.proofs.walk.all_faces.Goals as goal

pub returns-clause-fragments : goal.returns-clause-fragments
returns-clause-fragments c =
    All-permutation (λ (o : OutFace). IsFragment c.args.book.now o.frag) c.in_ok-faces.faces.items c.sort_by_key.new.self.items c.in_ok-sort_by_key.ensures.permutation c.in_ok-faces.ensures.fragments

pub returns-clause-faces : goal.returns-clause-faces
returns-clause-faces c t stands of_book tight =
    let planes = c.args.book.now in
    faces_of_all planes t c.in_ok-faces.faces.items c.sort_by_key.new.self.items
    (c.in_ok-faces.ensures.walked t stands (fit planes t c.count-planes.ensures.distinct c.count-planes.ensures.walls of_book tight)) c.in_ok-sort_by_key.ensures.permutation
    (IsNonDecreasingBy-from_sort_by_key (λ (o : OutFace). o.frag.support.k) _ c.in_ok-sort_by_key.ensures.sorted (λ a r q k. search rules))
