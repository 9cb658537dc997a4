use Rattle.std.proofs.Common.{All, IfOk, map, sym, subst}
use Rattle.std.specs.List.{AllZip, flat_map}
use Rattle.corner_book.specs.Corners.{corners_of}
use Rattle.edge_cut.specs.Outlines.{IsOfBook, starts_of, HasCorners}
use Rattle.exact_mesh.specs.Meshes.{face_of}
use Rattle.edge_cut.specs.Rounds.{IsFaceOf}
use Rattle.edge_cut.proofs.Meshed.{outlines_of_book, built-AreCut}
use Rattle.edge_cut.proofs.mesh.cut_faces.Goals as goal

pub gather-requires : goal.gather-requires
gather-requires c = record { given = subst (All (IsOfBook c.args.book.now)) (sym c.deref.ensures.value) (outlines_of_book c.args.book.now c.args.faces.now c.in_ok-outlines.outlines.items c.requires.cycles c.in_ok-outlines.ensures) }

pub build-requires-clause-given : goal.build-requires-clause-given
build-requires-clause-given c = subst (All (IsOfBook c.args.book.now)) (sym c.deref-2.ensures.value) (outlines_of_book c.args.book.now c.args.faces.now c.in_ok-outlines.outlines.items c.requires.cycles c.in_ok-outlines.ensures)

pub returns-clause-faces : goal.returns-clause-faces
returns-clause-faces c =
    let cutting = corners_of c.in_ok-corners.corners in
    built-AreCut c.args.book.now cutting c.args.faces.now c.in_ok-outlines.outlines.items c.build.result c.requires.cycles c.in_ok-outlines.ensures
    (subst (λ ws. HasCorners (flat_map starts_of ws) cutting) c.deref.ensures.value c.in_ok-corners.ensures.corners)
    (subst (λ ws. IfOk c.build.result (λ mesh. AllZip (IsFaceOf c.args.book.now cutting mesh.corners.items) ws (map face_of mesh.faces.items))) c.deref-2.ensures.value c.build.ensures.faces)
    c.build.ensures.order
