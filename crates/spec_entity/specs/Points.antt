-- The members of points and directions (IFC4).
use Rattle.std.specs.Prelude.{ℕ, ℤ, ◌^◌, ◌||◌, nat_le, nat_eq, unsigned_abs, List, length, Ok}
use Rattle.spec_step.specs.declared.tree.Param.{Param}
use Rattle.spec_table.specs.Sections.{DataSection}
use Rattle.spec_refusal.specs.declared.Refusal.TheVariants.{BadAttribute, NumberTooLarge}
use Rattle.spec_refusal.specs.Reads.{Read, next, only_if}
use Rattle.spec_entity.specs.Reads.{members, number}

-- the two or three members of the list that a point or a direction is
abbrev pub two_or_three : DataSection → ℕ → Read (List Param)
two_or_three section n =
    next (members section n 1) (λ ps. only_if (nat_eq (length ps) 2 || nat_eq (length ps) 3) (BadAttribute n 1) (Ok ps))

-- the greatest size of a ratio of a direction, which is 10^6
abbrev pub most_ratio : ℕ
most_ratio = 10 ^ 18

abbrev pub ratio : DataSection → ℕ → Param → Read ℤ
ratio section n p = next (number section n 1 p) (λ v. only_if (nat_le (unsigned_abs v) most_ratio) (NumberTooLarge n) (Ok v))
