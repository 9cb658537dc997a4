use Rattle.std.proofs.Common.{◌≡◌, ◌+◌, ◌*◌, ◌^◌, ◌≤◌, ◌<◌, ◌+ℤ◌, unsigned_abs, drop, length}
use Rattle.exact_mesh.specs.Meshes.{fan_of}
use Rattle.exact_mesh.proofs.volume.add_fan.Given as goal

-- what was added so far, with what is still to come, is the whole fan
abbrev pub invariant-loop-to : goal.invariant-loop-to
invariant-loop-to l = record {
  within : l.from < length l.corners;
  size : unsigned_abs l.sum ≤ unsigned_abs l.fn.sum + l.to-index * 2 ^ 127;
  all : l.sum +ℤ fan_of l.corners l.first l.from (drop l.to-index l.rest) ≡ l.fn.sum +ℤ fan_of l.corners l.first l.second l.rest;
}
