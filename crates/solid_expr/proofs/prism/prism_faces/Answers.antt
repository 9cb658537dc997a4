use Rattle.std.proofs.Common.{◌≡◌, ◌∙◌, ◌++◌, ◌∷◌, [], ap, ap₂}
use Rattle.std.specs.List.{flat_map}
use Rattle.solid_expr.specs.Sides.{loop_sides}
use Rattle.solid_expr.proofs.Prisms.{prism_listed}
use Rattle.solid_expr.proofs.prism.prism_faces.Goals as goal

pub returns : goal.returns
returns c =
    let bottom = c.in_ok-bottom.field-0 in
    let top = c.in_ok-top.field-0 in
    let pushed = c.in_ok-push-2.ensures.items ∙ ap (λ fs. fs ++ top ∷ []) (c.in_ok-push.ensures.items ∙ ap (λ fs. fs ++ bottom ∷ []) c.new-faces.ensures.items) in
    prism_listed c.args.at c.args.sweep.now c.args.loops.now bottom top c.push_all_sides.new.faces.items c.in_ok-bottom.ensures c.in_ok-top.ensures
    (c.in_ok-push_all_sides.ensures ∙ ap₂ (λ fs ls. fs ++ flat_map (loop_sides c.args.at c.args.sweep.now) ls) pushed c.as_slice.ensures)
