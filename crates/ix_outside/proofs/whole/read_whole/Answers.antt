use Rattle.std.proofs.Common.{◌+◌, ◌<◌, ◌≤◌, ◌++◌, length, take, arith, rules, length-append, length-take}
use Rattle.std.proofs.KnownBytes.{Consumes-trans}
use Rattle.ix_outside.proofs.whole.read_whole.Goals as goal

-- what was taken before, and then this chunk, whose length was tested
pub returns-then-is_err-clause-taken : goal.returns-then-is_err-clause-taken
returns-then-is_err-clause-taken g c not_too_large =
    let chunk = take c.in-Ok.count c.take.new.buf in
    let within : length (c.loop-count.bytes.items ++ chunk) ≤ c.args.limit = omega (arith, length-append c.loop-count.bytes.items chunk, length-take c.in-Ok.count c.take.new.buf) in
    (c.loop-count.bytes.items ++ chunk, within, Consumes-trans _ _ _ _ _ c.loop-count.invariant.taken c.in-Ok.ensures.bytes.0)

-- the same with a chunk that passed the limit
pub returns-then-count-limit-clause-passed : goal.returns-then-count-limit-clause-passed
returns-then-count-limit-clause-passed g c too_large =
    let before = c.loop-count.bytes.items in
    let chunk = take c.in-Ok.count c.take.new.buf in
    let past : c.args.limit < length (before ++ chunk) = omega (arith, length-append before chunk, length-take c.in-Ok.count c.take.new.buf, c.in-Ok.ensures.bound.0) in
    let by_one_take : length (before ++ chunk) ≤ c.args.limit + 4096 = omega (arith, length-append before chunk, length-take c.in-Ok.count c.take.new.buf) in
    ((before ++ chunk, past, by_one_take, Consumes-trans _ _ _ _ _ c.loop-count.invariant.taken c.in-Ok.ensures.bytes.0), search rules)
