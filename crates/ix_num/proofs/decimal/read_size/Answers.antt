use Rattle.std.proofs.Common.{◌≡◌, ◌^◌, min, true, false, arith}
use Rattle.spec_num.specs.Decimals.{whole_digits, fraction_digits, exponent, exponent_digits, is_negative, value}
use Rattle.ix_num.proofs.Far.{size_above, size_below}
use Rattle.ix_num.proofs.decimal.read_size.Goals as goal

pub returns-then-is_negative : goal.returns-then-is_negative
returns-then-is_negative c =
    let whole : c.split_digits.result.0.now ≡ whole_digits c.args.text.now = cc in
    let fraction : c.split_digits-2.result.0.now ≡ fraction_digits c.args.text.now = cc in
    let sign : is_negative (exponent c.args.text.now) ≡ true = cc in
    let power : c.capped_value-power.result ≡ min (value (exponent_digits c.args.text.now)) (2 ^ 70) = cc in
    size_below c.args.text.now _ _ _ _ _ whole fraction sign power (omega arith) c.magnitude.ensures

pub returns : goal.returns
returns c =
    let whole : c.split_digits.result.0.now ≡ whole_digits c.args.text.now = cc in
    let fraction : c.split_digits-2.result.0.now ≡ fraction_digits c.args.text.now = cc in
    let sign : is_negative (exponent c.args.text.now) ≡ false = cc in
    let power : c.capped_value-power.result ≡ min (value (exponent_digits c.args.text.now)) (2 ^ 70) = cc in
    size_above c.args.text.now _ _ _ _ _ whole fraction sign power (omega arith) c.magnitude-2.ensures
