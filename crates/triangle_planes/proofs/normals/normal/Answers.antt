use Rattle.std.proofs.Common.{◌∙◌}
use Rattle.spec_space.specs.Points.{cross}
use Rattle.triangle_planes.proofs.normals.normal.Goals as goal

pub returns : goal.returns
returns c = record {
  value = c.cross.ensures.value ∙ (λ i. cross (c.way.ensures.value i) (c.way-2.ensures.value i));
  small = c.cross.ensures.small;
}
