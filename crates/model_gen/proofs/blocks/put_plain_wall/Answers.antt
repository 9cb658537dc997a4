use Rattle.std.proofs.Common.{pos, ◌+◌, ◌++◌, ap, ◌∙◌}
use Rattle.std.proofs.lemmas.Int.{to_z-of_z}
use mir.Syntax.{w64}
use Rattle.model_gen.specs.Lines.{wall_line}
use Rattle.model_gen.specs.Model.{placement, block}
use Rattle.model_gen.proofs.Texts.{joined_three, on_ok}
use Rattle.model_gen.proofs.blocks.put_plain_wall.Goals as goal

pub returns : goal.returns
returns c =
    let n = c.args.number in
    let old = c.args.page.now.items in
    on_ok c.put_wall_line.result
    (λ e. joined_three old c.put_place.new.page.items c.put_block.new.page.items c.put_wall_line.new.page.items (placement n c.args.x (pos 0) (pos 0)) (block (n + 3) 5000 200 3000) (wall_line (n + 7) (n + 2) (n + 6))
    (c.in_ok-put_place.ensures ∙ ap (λ x. old ++ placement n x (pos 0) (pos 0)) (to_z-of_z w64 c.args.x c.ranges.x)) c.in_ok-put_block.ensures e)
    c.put_wall_line.ensures
