use Rattle.std.proofs.Common.{◌≡◌, ◌++◌, drop, filter, nat_eq}
use Rattle.ix_page.proofs.items.only_among.Given as goal

-- those that were kept, with those that are still to come, are all
abbrev pub invariant-loop-number : goal.invariant-loop-number
invariant-loop-number l =
    filter (λ n. nat_eq n l.only) l.fn.numbers ≡ l.kept.items ++ filter (λ n. nat_eq n l.only) (drop l.number-index l.numbers)
