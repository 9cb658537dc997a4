use Rattle.std.proofs.Common.{◌%◌, ◌≡◌, ◌⊎◌, inl, inr, arith}
use Rattle.std.specs.declared.cmp.Ordering.TheVariants.{Less, Equal, Greater}
use Rattle.std.proofs.lemmas.Cmp.{ranked}
use Rattle.ix_num.proofs.Fractions.{by_whole_parts, by_rests, none_left, turned}
use Rattle.ix_num.proofs.fraction.+compare_sizes.Goals as goal
use Rattle.ix_num.proofs.fraction.+compare_sizes.Goals.{then-first-eq0-via-then-first-eq0, then-first-eq0-via-else-first-eq0+then-second-eq0}

pub returns-in-Less : goal.returns-in-Less
returns-in-Less t c =
    let a = c.args in
    by_whole_parts a.a a.b a.c a.d c.requires.first c.requires.second (ranked _ _ Less c.in-Less.ensures)

pub returns-in-Greater : goal.returns-in-Greater
returns-in-Greater t c =
    let a = c.args in
    by_whole_parts a.c a.d a.a a.b c.requires.second c.requires.first (ranked _ _ Greater c.in-Greater.ensures)

pub returns-then-first-eq0 : goal.returns-then-first-eq0
returns-then-first-eq0 t c =
    let a = c.args in
    let none : (a.a % a.b ≡ 0) ⊎ (a.c % a.d ≡ 0) = elim c.then-first-eq0.branch [ then-first-eq0-via-then-first-eq0 w ↦ inl (omega arith) | then-first-eq0-via-else-first-eq0+then-second-eq0 w ↦ inr (omega arith) ] in
    by_rests a.a a.b a.c a.d _ c.requires.first c.requires.second (ranked _ _ Equal c.in-Equal.ensures)
    (none_left _ _ a.b a.d _ c.requires.first c.requires.second none (ranked _ _ _ c.cmp-then-first-eq0.ensures))

pub returns-else-second-eq0 : goal.returns-else-second-eq0
returns-else-second-eq0 t c =
    let a = c.args in
    by_rests a.a a.b a.c a.d _ c.requires.first c.requires.second (ranked _ _ Equal c.in-Equal.ensures)
    (turned (a.a % a.b) (a.c % a.d) a.b a.d _ c.compare_sizes.ensures)
