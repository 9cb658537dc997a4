use Rattle.std.proofs.Common.{◌∙◌}
use Rattle.solid_tree.proofs.Kept.{swept_live, swept_stands, swept_keeps, swept_only}
use Rattle.solid_tree.proofs.sweep.sweep_others.Goals as goal

pub returns-clause-live : goal.returns-clause-live
returns-clause-live c =
    swept_live c.args.tree c.args.keep.now c.as_slice.result.now (c.as_slice.ensures.value ∙ c.in_ok-roots.ensures) c.args.pool.now c.sweep.new.self c.sweep.result c.sweep.ensures.live

pub returns-clause-stands : goal.returns-clause-stands
returns-clause-stands c =
    swept_stands c.args.tree c.args.keep.now c.as_slice.result.now (c.as_slice.ensures.value ∙ c.in_ok-roots.ensures) c.args.pool.now c.sweep.new.self c.sweep.result c.sweep.ensures.kept

pub returns-clause-kept : goal.returns-clause-kept
returns-clause-kept c =
    swept_keeps c.args.tree c.args.keep.now c.as_slice.result.now (c.as_slice.ensures.value ∙ c.in_ok-roots.ensures) c.args.pool.now c.sweep.new.self c.sweep.result c.sweep.ensures.kept c.sweep.ensures.err

pub returns-clause-only : goal.returns-clause-only
returns-clause-only c =
    swept_only c.args.tree c.args.keep.now c.as_slice.result.now (c.as_slice.ensures.value ∙ c.in_ok-roots.ensures) c.args.pool.now c.sweep.new.self c.count-live.ensures.trees c.sweep.ensures.trees c.sweep.result c.sweep.ensures.live c.sweep.ensures.kept

pub returns-clause-trees : goal.returns-clause-trees
returns-clause-trees c = c.sweep.ensures.trees
