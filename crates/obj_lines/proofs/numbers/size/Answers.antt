use Rattle.std.proofs.Common.{◌≡◌, ◌++◌, ◌<◌, ◌^◌, true, arith}
use Rattle.std.specs.List.{list_all}
use Rattle.std.specs.Char.{is_ascii_digit}
use Rattle.std.proofs.lemmas.List.{take-append-drop}
use Rattle.obj_lines.specs.Templates.{is_end}
use Rattle.obj_lines.proofs.Digits.{size_front, no_size}
use Rattle.obj_lines.proofs.numbers.size.Goals as goal

pub returns-in_err-number : goal.returns-in_err-number
returns-in_err-number c =
    let front = c.split_at.result.0.now in
    let rest = c.split_at.result.1.now in
    let split : front ++ rest ≡ c.args.text.now = rw (c.split_at.ensures.front, c.split_at.ensures.back) (take-append-drop c.digits_end.result c.args.text.now) in
    let digits : list_all is_ascii_digit front ≡ true = rw c.split_at.ensures.front c.digits_end.ensures.digits in
    let ends : is_end rest ≡ true = rw c.split_at.ensures.back c.digits_end.ensures.end in
    rw c.from_residual.ensures (no_size c.args.text.now front rest split digits ends c.in_err-number.ensures)

pub returns : goal.returns
returns c =
    let front = c.split_at.result.0.now in
    let rest = c.split_at.result.1.now in
    let split : front ++ rest ≡ c.args.text.now = rw (c.split_at.ensures.front, c.split_at.ensures.back) (take-append-drop c.digits_end.result c.args.text.now) in
    let digits : list_all is_ascii_digit front ≡ true = rw c.split_at.ensures.front c.digits_end.ensures.digits in
    let ends : is_end rest ≡ true = rw c.split_at.ensures.back c.digits_end.ensures.end in
    let small : c.in_ok-number.number < 2 ^ 128 = omega arith in
    size_front c.args.text.now front rest c.in_ok-number.number split digits ends small c.in_ok-number.ensures
