use Rattle.std.proofs.Common.{pos, ◌∙◌, sym, ap, unsigned_abs}
use Rattle.std.proofs.lemmas.Int.{to_z-of_z}
use Rattle.spec_num.specs.Roots.{whole_root}
use Rattle.ix_num.proofs.Roots.{root_is}
use mir.Syntax.{w128}
use Rattle.ix_num.proofs.root.whole_root.Goals as goal

pub returns-clause-value : goal.returns-clause-value
returns-clause-value c =
    let root = c.isqrt.ensures in
    to_z-of_z w128 c.isqrt.result (record { sfits = c.isqrt.type_inv })
    ∙ root.1
    ∙ ap pos (sym (root_is _ root.0 root.2 root.3))
    ∙ ap (λ z. pos (whole_root (unsigned_abs z))) (to_z-of_z w128 c.args.n c.ranges.n)
