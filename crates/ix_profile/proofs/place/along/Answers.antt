use Rattle.std.proofs.Common.{◌≡◌, ◌≤◌, ◌*◌, ◌^◌, unsigned_abs, subst, sym}
use Rattle.integer_laws.proofs.Computed.{arg, again, sum, product, fits}
use Rattle.ix_profile.proofs.Small.{small, rounded_is}
use Rattle.ix_profile.proofs.place.along.Goals as goal

pub overflow_add-first : goal.overflow_add-first
overflow_add-first c =
    let first = again (product (arg c.args.first c.requires.first tt) (arg c.args.x c.requires.x tt)) tt in
    let second = again (product (arg c.args.second c.requires.second tt) (arg c.args.y c.requires.y tt)) tt in
    fits (sum first second) tt

pub round_div-requires-clause-size : goal.round_div-requires-clause-size
round_div-requires-clause-size c =
    let first = again (product (arg c.args.first c.requires.first tt) (arg c.args.x c.requires.x tt)) tt in
    let second = again (product (arg c.args.second c.requires.second tt) (arg c.args.y c.requires.y tt)) tt in
    small (again (sum first second) tt) (2 ^ 125) tt

pub returns-clause-value : goal.returns-clause-value
returns-clause-value c =
    let first = again (product (arg c.args.first c.requires.first tt) (arg c.args.x c.requires.x tt)) tt in
    let second = again (product (arg c.args.second c.requires.second tt) (arg c.args.y c.requires.y tt)) tt in
    (again (rounded_is (2 * 10 ^ 16) c.round_div.ensures.value (again (sum first second) tt) tt) tt).is

pub returns-clause-within : goal.returns-clause-within
returns-clause-within c =
    let first = again (product (arg c.args.first c.requires.first tt) (arg c.args.x c.requires.x tt)) tt in
    let second = again (product (arg c.args.second c.requires.second tt) (arg c.args.y c.requires.y tt)) tt in
    small (again (rounded_is (2 * 10 ^ 16) c.round_div.ensures.value (again (sum first second) tt) tt) tt) (2 * 10 ^ 16) tt
