use Rattle.std.proofs.Common.{◌++◌, map, subst}
use Rattle.std.specs.List.{flat_map}
use Rattle.spec_solid.specs.Planes.{solid_planes, body_planes}
use Rattle.spec_solid.specs.Solids.{is_inside_some, is_meant}
use Rattle.grid_solid.specs.Bodies.{body_of}
use Rattle.grid_solid.specs.Views.{solid_of}
use Rattle.solid_tree.specs.Unions.{HasTree, less}
use Rattle.solid_tree.proofs.ElementLaws.{has_stood, tree_has, element_is}
use Rattle.tree_pool.proofs.Laws.{live_kept}
use Rattle.solid_tree.proofs.Kept.{all_kept, kept_then, kept_thrice, roots_live}
use Rattle.solid_tree.proofs.Tight.{element_tight}
use Rattle.solid_tree.proofs.elements.solid_tree.Goals as goal

pub returns-clause-live : goal.returns-clause-live
returns-clause-live c = c.in_ok-sweep_others.ensures.live

pub less_openings-requires-clause-keep_live : goal.less_openings-requires-clause-keep_live
less_openings-requires-clause-keep_live c x h = live_kept c.args.pool.now c.union_tree.new.pool c.count-live.ensures.trees c.union_tree.ensures.trees c.union_tree.ensures.kept x (c.requires.keep_live x h)

pub sweep_others-requires-clause-keep_live : goal.sweep_others-requires-clause-keep_live
sweep_others-requires-clause-keep_live c =
    roots_live c.args.keep.now c.args.pool.now c.less_openings.new.pool c.count-live.ensures.trees c.less_openings.ensures.trees
    (kept_then c.args.keep.now c.args.pool.now c.union_tree.new.pool c.count-live.ensures.trees c.union_tree.ensures.trees (all_kept c.args.keep.now c.args.pool.now c.union_tree.new.pool c.union_tree.ensures.kept) c.less_openings.new.pool c.less_openings.ensures.kept)
    c.requires.keep_live

pub returns-in_err-items-clause-kept : goal.returns-in_err-items-clause-kept
returns-in_err-items-clause-kept c = all_kept c.args.keep.now c.args.pool.now c.union_tree.new.pool c.union_tree.ensures.kept

pub returns-in_err-tree-clause-kept : goal.returns-in_err-tree-clause-kept
returns-in_err-tree-clause-kept c =
    kept_then c.args.keep.now c.args.pool.now c.union_tree.new.pool c.count-live.ensures.trees c.union_tree.ensures.trees (all_kept c.args.keep.now c.args.pool.now c.union_tree.new.pool c.union_tree.ensures.kept) c.less_openings.new.pool c.less_openings.ensures.kept

pub returns-in_err-sweep_others-clause-kept : goal.returns-in_err-sweep_others-clause-kept
returns-in_err-sweep_others-clause-kept c = kept_thrice c.args.keep.now c.args.pool.now c.union_tree.new.pool c.less_openings.new.pool c.sweep_others.new.pool c.count-live.ensures.trees c.union_tree.ensures.trees c.less_openings.ensures.trees c.union_tree.ensures.kept c.less_openings.ensures.kept c.sweep_others.ensures.kept

pub returns-clause-kept : goal.returns-clause-kept
returns-clause-kept c = kept_thrice c.args.keep.now c.args.pool.now c.union_tree.new.pool c.less_openings.new.pool c.sweep_others.new.pool c.count-live.ensures.trees c.union_tree.ensures.trees c.less_openings.ensures.trees c.union_tree.ensures.kept c.less_openings.ensures.kept c.sweep_others.ensures.kept

pub returns-clause-only : goal.returns-clause-only
returns-clause-only c = c.in_ok-sweep_others.ensures.only

pub returns-clause-means : goal.returns-clause-means
returns-clause-means c t stands =
    let s = c.args.solid.now in
    let body = body_of s in
    let planes = c.less_openings.new.book in
    let before = c.less_openings.new.pool in
    let swept = c.sweep_others.new.pool in
    let tree = c.in_ok-tree.tree in
    let items = subst (λ ns. HasTree c.union_tree.new.pool c.union_tree.new.book (flat_map solid_planes (map solid_of ns)) (is_inside_some (map solid_of ns)) c.in_ok-items.items) c.as_slice.ensures c.in_ok-items.ensures.inside in
    let made = c.in_ok-tree.ensures.less (flat_map solid_planes (map solid_of s.items)) (is_inside_some (map solid_of s.items)) items in
    let whole = subst (λ ns. HasTree before planes (flat_map solid_planes (map solid_of s.items) ++ flat_map solid_planes (map solid_of ns)) (less (is_inside_some (map solid_of s.items)) (map solid_of ns)) tree) c.as_slice-2.ensures made in
    let last = has_stood before swept planes (body_planes body) (is_meant body) tree c.in_ok-sweep_others.ensures.stands whole in
    element_is planes s t (tree_has swept planes (body_planes body) (is_meant body) tree c.sweep_others.ensures.trees last t stands)

pub returns-clause-tight : goal.returns-clause-tight
returns-clause-tight c t stands =
    let s = c.args.solid.now in
    let body = body_of s in
    let planes = c.less_openings.new.book in
    let before = c.less_openings.new.pool in
    let swept = c.sweep_others.new.pool in
    let tree = c.in_ok-tree.tree in
    let items = subst (λ ns. HasTree c.union_tree.new.pool c.union_tree.new.book (flat_map solid_planes (map solid_of ns)) (is_inside_some (map solid_of ns)) c.in_ok-items.items) c.as_slice.ensures c.in_ok-items.ensures.inside in
    let made = c.in_ok-tree.ensures.less (flat_map solid_planes (map solid_of s.items)) (is_inside_some (map solid_of s.items)) items in
    let whole = subst (λ ns. HasTree before planes (flat_map solid_planes (map solid_of s.items) ++ flat_map solid_planes (map solid_of ns)) (less (is_inside_some (map solid_of s.items)) (map solid_of ns)) tree) c.as_slice-2.ensures made in
    let last = has_stood before swept planes (body_planes body) (is_meant body) tree c.in_ok-sweep_others.ensures.stands whole in
    element_tight planes s t (tree_has swept planes (body_planes body) (is_meant body) tree c.sweep_others.ensures.trees last t stands)
