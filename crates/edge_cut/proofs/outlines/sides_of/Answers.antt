use Rattle.std.proofs.Common.{◌∙◌, sym, ap, subst}
use Rattle.std.proofs.lemmas.Result.{IfOk-weaker}
use Rattle.spec_page.specs.Faces.{rotated}
use Rattle.poly_frag.specs.Cycles.{AreCorners}
use Rattle.edge_cut.specs.Sides.{AreSides, AreJoined}
use Rattle.edge_cut.proofs.Made.{AreParts, joined-AreSides, length-before, length-after, length-starts, length-ends}
use Rattle.edge_cut.proofs.outlines.sides_of.Goals as goal

pub joined_sides-requires : goal.joined_sides-requires
joined_sides-requires c =
    let parts : AreParts c.args.book.now c.args.frag.now c.deref-2.result.now c.as_slice-edges.result.now c.deref-3.result.now c.deref-4.result.now c.deref-5.result.now = record {
      edges_are = c.as_slice-edges.ensures;
      before_is = ap rotated c.deref-2.ensures.value ∙ c.in_ok-before.ensures;
      after_is = c.deref-3.ensures.value ∙ c.in_ok-after.ensures;
      starts_are = subst (AreCorners c.args.book.now c.args.frag.now) (sym c.deref-4.ensures.value) c.in_ok-starts.ensures.corners;
      ends_are = c.deref-5.ensures.value ∙ c.in_ok-ends.ensures ∙ ap rotated (c.deref.ensures.value ∙ sym c.deref-4.ensures.value);
    } in
    record {
      before = length-before _ _ _ _ _ _ _ parts;
      after = length-after _ _ _ _ _ _ _ parts;
      starts = length-starts _ _ _ _ _ _ _ parts;
      ends = length-ends _ _ _ _ _ _ _ parts;
    }

pub returns : goal.returns
returns c =
    let before = c.deref-2.result.now in
    let edges = c.as_slice-edges.result.now in
    let after = c.deref-3.result.now in
    let starts = c.deref-4.result.now in
    let ends = c.deref-5.result.now in
    let parts : AreParts c.args.book.now c.args.frag.now before edges after starts ends = record {
      edges_are = c.as_slice-edges.ensures;
      before_is = ap rotated c.deref-2.ensures.value ∙ c.in_ok-before.ensures;
      after_is = c.deref-3.ensures.value ∙ c.in_ok-after.ensures;
      starts_are = subst (AreCorners c.args.book.now c.args.frag.now) (sym c.deref-4.ensures.value) c.in_ok-starts.ensures.corners;
      ends_are = c.deref-5.ensures.value ∙ c.in_ok-ends.ensures ∙ ap rotated (c.deref.ensures.value ∙ sym c.deref-4.ensures.value);
    } in
    IfOk-weaker c.joined_sides.result (λ sides. AreJoined sides.items before edges after starts ends) (λ sides. AreSides c.args.book.now c.args.frag.now sides.items)
    (λ sides made. joined-AreSides c.args.book.now c.args.frag.now before edges after starts ends parts sides.items made) c.joined_sides.ensures
