use Rattle.std.proofs.Common.{arith, sym, subst}
use Rattle.step_text.specs.Answers.{IsCauseOrWant}
use Rattle.step_text.proofs.HasRead.{HasRead}
use Rattle.step_text.proofs.Glue.{gives, end_file, end_fault, nothing_read, start_state, bad_cause, halt_cause, read_more, token_end}
use Rattle.step_text.proofs.read.read_trees.Goals as goal

pub tokens-init : goal.tokens-init
tokens-init c = record {
  within = omega arith;
  read = subst (HasRead c.args.source.now 0) (sym (start_state (record { frames = c.new.result; head = c.new-2.result; instances = c.new-3.result }) c.new.ensures.items c.new-2.ensures c.new-3.ensures)) (nothing_read c.args.source.now);
}

pub returns-in-Bad-clause-cause : goal.returns-in-Bad-clause-cause
returns-in-Bad-clause-cause c = bad_cause c.args.source.now _ _ _ c.tokens.invariant.read c.in-Bad.ensures

pub returns-in-End-clause-file : goal.returns-in-End-clause-file
returns-in-End-clause-file c = end_file c.args.source.now c.tokens.from c.tokens.place c.tokens.progress c.finish.result c.tokens.invariant.read c.in-End.ensures c.finish.ensures.whole

pub returns-in-End-clause-cause : goal.returns-in-End-clause-cause
returns-in-End-clause-cause c = end_fault c.args.source.now c.tokens.from c.tokens.place c.tokens.progress c.finish.result c.tokens.invariant.read c.in-End.ensures c.finish.ensures.unfinished

pub returns-in_err-place-in-Got-clause-cause : goal.returns-in_err-place-in-Got-clause-cause
returns-in_err-place-in-Got-clause-cause c =
    let cause = halt_cause c.args.source.now _ _ _ _ c.tokens.invariant.read c.in-Got.ensures c.in_err-place-in-Got.ensures.halts in
    gives c.from_residual.result (IsCauseOrWant c.args.source.now) c.in_err-place-in-Got.field-0.0 c.from_residual.ensures.1 cause

pub tokens-smaller : goal.tokens-smaller
tokens-smaller c = omega (arith, token_end c.args.source.now _ _ c.in-Got.ensures)

pub tokens-preserved : goal.tokens-preserved
tokens-preserved c = record {
  within = (token_end c.args.source.now _ _ c.in-Got.ensures).2;
  read = read_more c.args.source.now _ _ _ _ c.in-Got.ensures c.tokens.invariant.read c.in_ok-place-in-Got.ensures.goes;
}
