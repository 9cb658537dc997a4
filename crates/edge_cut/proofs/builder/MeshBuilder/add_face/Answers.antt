use Rattle.std.proofs.Common.{◌≡◌, List, ◌++◌, ◌∷◌, [], ap, sym, ◌∙◌, subst, map}
use Rattle.corner_book.specs.Corners.{corners_of as book_corners}
use Rattle.exact_mesh.specs.declared.mesh.MeshFace.{MeshFace}
use Rattle.exact_mesh.specs.Meshes.{face_of}
use Rattle.poly_frag.specs.Frags.{numbered, kept_side}
use Rattle.edge_cut.specs.Seen.{AreAt, outer_side, edges_seen, corners_seen}
use Rattle.edge_cut.proofs.Reversed.{map-append}
use Rattle.edge_cut.proofs.FirstUse.{order_next}
use Rattle.edge_cut.specs.Rounds.{corners_of, faces_of}
use Rattle.edge_cut.proofs.Meshed.{round_given}
use Rattle.edge_cut.proofs.builder.MeshBuilder.add_face.Goals as goal

-- one face more, over the faces that are as before
one_more : (old mid new : List MeshFace) (face : MeshFace) → mid ≡ old → new ≡ mid ++ face ∷ [] → map face_of new ≡ map face_of old ++ face_of face ∷ []
one_more old mid new face same items = ap (map face_of) (items ∙ ap (λ fs. fs ++ face ∷ []) same) ∙ map-append face_of old (face ∷ [])

pub outer_planes-requires : goal.outer_planes-requires
outer_planes-requires c = record { given = round_given c.args.book.now (book_corners c.args.corners.now) c.args.outline.now c.in_ok-round.round c.args.outline.now.front_out c.deref.result.now c.requires.given c.in_ok-round.ensures.round (c.deref.ensures.value ∙ c.turn.ensures.edges) }

pub returns-clause-face : goal.returns-clause-face
returns-clause-face c =
    let face : MeshFace = record { plane = c.outward_numbers-plane.result; edges = c.in_ok-edges.edges; corners = c.in_ok-places.places } in
    let b = c.args.outline.now.front_out in (
      face_of face,
      one_more c.args.self.now.faces.items c.places.new.self.faces.items c.push.new.self.items face (ap (λ v. v.items) c.in_ok-places.ensures.faces) c.in_ok-push.ensures.items,
      record {
        plane = c.outward_numbers-plane.ensures ∙ sym (ap (λ o. kept_side b (numbered o)) c.plane.ensures.value);
        cuts = c.in_ok-round.ensures.round.cuts;
        sides = c.in_ok-round.ensures.round.sides;
        cut = c.in_ok-round.ensures.round.cut;
        edges = c.in_ok-edges.ensures ∙ ap (map (outer_side c.args.book.now)) (c.deref.ensures.value ∙ c.turn.ensures.edges ∙ ap (edges_seen b) c.in_ok-round.ensures.round.edges);
        at = subst (AreAt (corners_of c.places.new.self) c.in_ok-places.places.items) (c.deref-2.ensures.value ∙ c.turn.ensures.corners ∙ ap (corners_seen b) c.in_ok-round.ensures.round.corners) c.in_ok-places.ensures.at;
      },
    )

pub returns-clause-order : goal.returns-clause-order
returns-clause-order c =
    let face : MeshFace = record { plane = c.outward_numbers-plane.result; edges = c.in_ok-edges.edges; corners = c.in_ok-places.places } in
    order_next (corners_of c.args.self.now) (corners_of c.places.new.self) (faces_of c.args.self.now) (map face_of c.push.new.self.items) (face_of face)
    (one_more c.args.self.now.faces.items c.places.new.self.faces.items c.push.new.self.items face (ap (λ v. v.items) c.in_ok-places.ensures.faces) c.in_ok-push.ensures.items)
    c.in_ok-places.ensures.next
