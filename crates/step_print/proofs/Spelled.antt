-- The spelling of a parameter by that of its parts.
use Rattle.std.proofs.Common.{◌≡◌, List, refl, ap}
use Rattle.std.proofs.lemmas.Simd.{map-map}
use Rattle.spec_step.specs.Grammar.{Want, spelling}
use Rattle.spec_step.specs.declared.tree.Param.{Param}
use Rattle.spec_step.specs.declared.tree.Param.TheOpen.{Param-F}
use Rattle.spec_step.specs.declared.tree.Param.TheOpen as layer
use Rattle.spec_step.specs.declared.tree.Param.TheFolds.{map-Param}

-- where parameters are parts of something that is known
pub map_known : {K : Type 0} (param : K → Param) (y : Param-F K)
    → map-Param Param (List Want) spelling (map-Param K Param param y) ≡ map-Param K (List Want) (λ e. spelling (param e)) y
map_known param layer.Unset = refl
map_known param layer.Derived = refl
map_known param (layer.Int p) = refl
map_known param (layer.Real p) = refl
map_known param (layer.Text p) = refl
map_known param (layer.Enumeration p) = refl
map_known param (layer.Binary p) = refl
map_known param (layer.Reference n) = refl
map_known param (layer.List es) = ap layer.List (map-map spelling param es)
map_known param (layer.Typed k e) = refl
