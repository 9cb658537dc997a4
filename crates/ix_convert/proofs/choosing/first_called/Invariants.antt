use Rattle.std.proofs.Common.{◌≡◌, drop}
use Rattle.mesh_out.specs.Writers.{first_named}
use Rattle.ix_convert.proofs.Named.{viewed}
use Rattle.ix_convert.proofs.choosing.first_called.Given as goal

-- the first of the name among those that are still to come is the first of all
abbrev pub invariant-loop-at : goal.invariant-loop-at
invariant-loop-at g l =
    first_named l.name (viewed (drop l.at l.writers) (λ w. (goal.MeshWriter-dyn g (w.vtable, w.value)).view w.value))
    ≡ first_named l.name (viewed l.writers (λ w. (goal.MeshWriter-dyn g (w.vtable, w.value)).view w.value))
