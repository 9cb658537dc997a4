use Rattle.std.proofs.Common.{◌∙◌, IsSome, IfSome, sym, subst, true≢false}
use Rattle.std.specs.Prelude.{◌↔◌}
use Rattle.std.proofs.lemmas.Result.{on_ok_weaker}
use Rattle.poly_frag.specs.Frags.{plane_at}
use Rattle.plane_cells.specs.Cells.{HasPointOn}
use Rattle.plane_cells.specs.Polygons.{IsPolygon}
use Rattle.face_walk.proofs.Nodes.{own_none, own_added}
use Rattle.face_walk.proofs.visits.add_own_faces.Goals as goal

pub returns-in_default : goal.returns-in_default
returns-in_default c =
    let planes = c.args.book.now in
    let some = subst (λ o. IsSome o ↔ HasPointOn planes c.args.path.now (plane_at planes c.args.plane)) c.in_default.is c.in_ok-frag.ensures.some in
    record {
      added = own_none c.args.pool.now planes c.args.only c.args.path.now c.args.plane c.args.children.front c.args.children.back (λ q. true≢false (sym (some.1 q))) c.args.faces.now.items;
    }

pub returns : goal.returns
returns c =
    let planes = c.args.book.now in
    let polygon = subst (λ o. IfSome o (IsPolygon planes c.args.path.now c.args.plane)) c.in-Some.is c.in_ok-frag.ensures.polygon in
    record {
      added = on_ok_weaker c.add_faces.result
          (λ found. own_added c.args.pool.now planes c.args.only c.args.path.now c.args.plane c.args.children.front c.args.children.back c.in-Some.frag polygon (sym c.seeks.ensures.value ∙ c.if-not-seeks.false) c.args.faces.now.items
          c.add_faces.new.faces.items found)
          c.add_faces.ensures.added;
    }
