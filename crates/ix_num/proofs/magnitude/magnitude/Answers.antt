use Rattle.std.proofs.Common.{◌≡◌, ◌+◌, ◌-◌, ◌++◌, length, take, arith, length-append}
use Rattle.std.proofs.Math.Seq.{take-length}
use Rattle.spec_num.specs.Decimals.{value}
use Rattle.ix_num.proofs.Digits.{AreDigits-append}
use Rattle.ix_num.proofs.Rounding.{moved_down, nearest_any, from_scale, from_digits}
use Rattle.ix_num.proofs.magnitude.magnitude.Goals as goal

pub returns-then-up-down : goal.returns-then-up-down
returns-then-up-down c =
    let ds = c.args.ints.now ++ c.args.fraction.now in
    moved_down (value ds) (c.args.down - c.args.up) c.args.up c.args.down _ (omega arith)
    (λ e. nearest_any ds (c.args.down - c.args.up) (AreDigits-append _ _ c.requires.ints c.requires.fraction) (omega arith)) c.cut_off.ensures

pub returns-in_err-whole : goal.returns-in_err-whole
returns-in_err-whole c =
    let ds = c.args.ints.now ++ c.args.fraction.now in
    let all : take (length c.args.ints.now + length c.args.fraction.now) ds ≡ ds = rw (← length-append c.args.ints.now c.args.fraction.now) (take-length ds) in
    rw c.from_residual.ensures (from_digits (value ds) c.args.up c.args.down (omega arith) (rw all at c.in_err-whole.ensures))

pub returns : goal.returns
returns c =
    let ds = c.args.ints.now ++ c.args.fraction.now in
    let all : take (length c.args.ints.now + length c.args.fraction.now) ds ≡ ds = rw (← length-append c.args.ints.now c.args.fraction.now) (take-length ds) in
    let whole : c.in_ok-whole.whole ≡ value ds = rw all at c.in_ok-whole.ensures.0 in
    from_scale (value ds) c.args.up c.args.down _ (omega arith) (rw whole at c.scale.ensures)
