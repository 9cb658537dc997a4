use Rattle.std.proofs.Common.{◌≡◌, ◌∙◌, ap₂}
use Rattle.std.proofs.lemmas.Result.{IfOk-weaker}
use Rattle.spec_shape.specs.Shapes.{prism_faces, block_faces}
use Rattle.solid_expr.proofs.Outlines.{block_outline, height_within}
use Rattle.solid_expr.proofs.prism.block_faces.Goals as goal

pub prism_faces-requires-clause-loops : goal.prism_faces-requires-clause-loops
prism_faces-requires-clause-loops c = block_outline c.args.size.now c.in_ok-loops.loops c.in_ok-loops.ensures c.requires

pub prism_faces-requires-clause-sweep : goal.prism_faces-requires-clause-sweep
prism_faces-requires-clause-sweep c = height_within c.args.size.now c.height_of.result c.height_of.ensures c.requires

pub returns : goal.returns
returns c =
    IfOk-weaker c.prism_faces.result (λ faces. faces.items ≡ prism_faces c.args.at c.in_ok-loops.loops c.height_of.result) (λ faces. faces.items ≡ block_faces c.args.at c.args.size.now)
    (λ faces e. e ∙ ap₂ (λ ls way. prism_faces c.args.at ls way) c.in_ok-loops.ensures c.height_of.ensures)
    c.prism_faces.ensures
