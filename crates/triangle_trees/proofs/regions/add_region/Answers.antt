use Rattle.std.proofs.Common.{◌≡◌, pos, [], ◌∷◌, ◌++◌, sym, subst}
use Rattle.std.specs.Prelude.{IfSome, IfNone}
use Rattle.spec_solid.specs.Triangles.{turn}
use Rattle.grid_solid.specs.Triangles.{triangle_of}
use Rattle.triangle_trees.specs.Forms.{IsRegionBelow, AreRegionsBelow}
use Rattle.triangle_trees.proofs.Below.{upright_added, region_added}
use Rattle.triangle_trees.proofs.regions.add_region.Goals as goal

pub returns-in_ok-push-in-Some-clause-added : goal.returns-in_ok-push-in-Some-clause-added
returns-in_ok-push-in-Some-clause-added c ts are =
    let old = c.args.book.now in
    let new = c.region_below.new.book in
    let t = triangle_of c.args.t.now in
    let rs = c.args.regions.now.items in
    let region = c.in-Some.region in
    let is = subst (λ o. IfSome o (IsRegionBelow new t)) c.in-Some.is c.in_ok-region.ensures.region in
    subst (AreRegionsBelow new (ts ++ t ∷ [])) (sym c.in_ok-push-in-Some.ensures.items) (region_added 4 old new c.region_below.ensures.grown ts rs t region is are)

pub returns-in-None-clause-added : goal.returns-in-None-clause-added
returns-in-None-clause-added c ts are =
    let old = c.args.book.now in
    let new = c.region_below.new.book in
    let t = triangle_of c.args.t.now in
    let upright = subst (λ o. IfNone o ((turn t).z ≡ pos 0)) c.in-None.is c.in_ok-region.ensures.upright in
    upright_added 4 old new c.region_below.ensures.grown ts c.args.regions.now.items t upright are
