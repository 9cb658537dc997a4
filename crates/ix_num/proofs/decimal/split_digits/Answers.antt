use Rattle.std.proofs.Common.{◌≡◌, sym, subst}
use Rattle.spec_num.specs.Decimals.{digits}
use Rattle.ix_num.specs.Magnitudes.{AreDigits}
use Rattle.ix_num.proofs.Digits.{AreDigits-digits}
use Rattle.ix_num.proofs.decimal.split_digits.Goals as goal

pub returns-clause-all : goal.returns-clause-all
returns-clause-all c =
    let front : c.split_at.result.0.now ≡ digits c.args.text.now = cc in
    subst AreDigits (sym front) (AreDigits-digits c.args.text.now)
