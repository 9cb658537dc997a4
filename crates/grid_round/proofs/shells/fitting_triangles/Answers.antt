use Rattle.std.proofs.Common.{◌≡◌, ◌++◌, ◌∙◌, ap, sym, true, not, map, subst}
use Rattle.std.specs.List.{list_all, find, All}
use Rattle.std.proofs.lemmas.List.{map-append, drop_all, take_all}
use Rattle.std.proofs.lemmas.List.Elements.{All-more}
use Rattle.spec_solid.specs.Extrusions.{face_triangles}
use Rattle.spec_grid.specs.Rounded.{is_triangle_fitting, is_face_fitting}
use Rattle.ray_law.specs.Faces.{BeginsWithCorner}
use Rattle.grid_solid.specs.Triangles.{triangle_of}
use Rattle.grid_round.proofs.Lists.{lists_step, lists_end}
use Rattle.grid_round.proofs.ShellLaws.{begins, find_step, face_triangles_near}
use Rattle.grid_round.proofs.shells.fitting_triangles.Goals as goal

pub are_fitting-requires : goal.are_fitting-requires
are_fitting-requires c =
    face_triangles_near c.args.faces.now c.loop-face.face-index c.face-item.result (map triangle_of c.deref.result.now) c.loop-face-test.true c.face-item.is
    (ap (map triangle_of) c.deref.ensures.value ∙ c.in_ok-more.ensures) c.requires

pub loop-face-preserved : goal.loop-face-preserved
loop-face-preserved c =
    let faces = c.args.faces.now in
    let i = c.loop-face.face-index in
    let face = c.face-item.result in
    let triangles = map triangle_of c.loop-face.triangles.items in
    let fits : is_face_fitting face ≡ true =
    sym (ap (list_all is_triangle_fitting) (ap (map triangle_of) c.deref.ensures.value ∙ c.in_ok-more.ensures)) ∙ sym c.are_fitting.ensures ∙ c.if-not-are_fitting.false in
    record {
      done = lists_step (λ f. face_triangles f.loops) faces i face triangles (map triangle_of c.append.new.self.items) _ c.loop-face-test.true
          (ap (map triangle_of) c.in_ok-append.ensures.items ∙ map-append triangle_of c.loop-face.triangles.items c.in_ok-more.more.items
          ∙ ap (λ ts. triangles ++ ts) (c.in_ok-more.ensures ∙ ap (λ f. face_triangles f.loops) c.face-item.is))
          c.loop-face.invariant.done;
      fitting = find_step is_face_fitting faces i face _ c.loop-face-test.true (sym (ap is_face_fitting c.face-item.is) ∙ fits) c.loop-face.invariant.fitting;
      begin = All-more (λ f. BeginsWithCorner f.loops) faces i face c.loop-face-test.true c.loop-face.invariant.begin
          (subst (λ f. BeginsWithCorner f.loops) (c.face.view_is ∙ c.face-item.is) (begins _ _ c.face.invariant));
    }

pub returns : goal.returns
returns c =
    let faces = c.args.faces.now in
    let i = c.loop-face.face-index in (
      lists_end (λ f. face_triangles f.loops) faces i (map triangle_of c.loop-face.triangles.items) _ c.loop-face-test.false c.loop-face.invariant.done,
      sym c.loop-face.invariant.fitting ∙ ap (find (λ f. not (is_face_fitting f))) (drop_all i faces c.loop-face-test.false),
      subst (All (λ f. BeginsWithCorner f.loops)) (take_all i faces c.loop-face-test.false) c.loop-face.invariant.begin,
    )
