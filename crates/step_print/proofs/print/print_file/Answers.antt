use Rattle.std.proofs.Common.{arith, refl}
use Rattle.spec_step.specs.Lexemes.{lexeme_of}
use Rattle.spec_step.specs.Canonical.{IsCanonical}
use Rattle.step_text.proofs.Glue.{token_end}
use Rattle.step_text.proofs.OneAnswer.{ends_here}
use Rattle.step_print.proofs.Prints.{printed_more, print_same, print_again}
use Rattle.step_print.proofs.print.print_file.Goals as goal

pub loop-token-smaller : goal.loop-token-smaller
loop-token-smaller c = omega (arith, token_end c.args.file.now.source.now _ _ c.in-Got.ensures)

pub loop-token-preserved : goal.loop-token-preserved
loop-token-preserved c = record {
  within = (token_end c.args.file.now.source.now _ _ c.in-Got.ensures).2;
  printed = printed_more c.args.file.now.source.now c.loop-token.from c.in-Got.token c.loop-token.page.items c.put_token.new.page.items
      (lexeme_of c.args.file.now.source.now c.in-Got.token).text c.loop-token.invariant.printed c.in-Got.ensures refl c.in_ok-put_token.ensures;
}

whole_page : (c : goal.In_default) → IsCanonical c.args.file.now.source.now c.loop-token.page.items
whole_page c =
    let printed = c.loop-token.invariant.printed in
    let s = c.args.file.now.source.now in
    let end = ends_here s c.loop-token.from c.next_token.result printed.0 c.args.file.now.head c.args.file.now.instances c.next_token.ensures c.in_default.not-Got c.args.file.now.given printed.1 in
    (printed.0, (c.loop-token.from, printed.1, end), printed.2)

pub returns-clause-canonical : goal.returns-clause-canonical
returns-clause-canonical c = whole_page c

pub returns-clause-same : goal.returns-clause-same
returns-clause-same c = print_same c.args.file.now.source.now c.args.file.now.head c.args.file.now.instances c.loop-token.page.items c.args.file.now.given (whole_page c)

pub returns-clause-again : goal.returns-clause-again
returns-clause-again c = print_again c.args.file.now.source.now c.args.file.now.head c.args.file.now.instances c.loop-token.page.items c.args.file.now.given (whole_page c)
