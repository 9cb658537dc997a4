use Rattle.std.proofs.Common.{rules, refl}
use Rattle.spec_step.specs.Files.{IsAccepted}
use Rattle.step_text.specs.Answers.{IsCauseOrWant}
use Rattle.spec_step.specs.declared.fault.StepFault.TheVariants.{Schema, DuplicateNumber}
use Rattle.step_text.proofs.Glue.{gives, owes_nothing}
use Rattle.step_text.proofs.OneAnswer.{accepts_error, refuses_error, accepts_fault, refuses_fault, one_file, no_cause}
use Rattle.step_text.proofs.parse.parse_file.Goals as goal

pub returns-in_err-trees : goal.returns-in_err-trees
returns-in_err-trees c = record {
  source = owes_nothing _ _ c.from_residual.ensures.0;
  accepted = owes_nothing _ _ c.from_residual.ensures.0;
  accepts = accepts_error c.args.source.now c.from_residual.result c.in_err-trees.field-0.0 _ c.from_residual.ensures.1 c.in_err-trees.ensures.cause;
  refused = gives c.from_residual.result (IsCauseOrWant c.args.source.now) c.in_err-trees.field-0.0 c.from_residual.ensures.1 c.in_err-trees.ensures.cause;
  refuses = refuses_error c.args.source.now c.from_residual.result c.in_err-trees.field-0.0 c.from_residual.ensures.1 c.in_err-trees.ensures.cause;
}

pub returns-then-not-names_schema : goal.returns-then-not-names_schema
returns-then-not-names_schema c =
    let cause : IsCauseOrWant c.args.source.now Schema = search rules in
    record {
      source = tt;
      accepted = tt;
      accepts = accepts_fault c.args.source.now Schema cause;
      refused = cause;
      refuses = refuses_fault c.args.source.now Schema cause;
    }

pub returns-in-Some : goal.returns-in-Some
returns-in-Some c =
    let cause : IsCauseOrWant c.args.source.now (DuplicateNumber c.in-Some.repeat.number c.in-Some.repeat.first c.in-Some.repeat.second) = search rules in
    record {
      source = tt;
      accepted = tt;
      accepts = accepts_fault c.args.source.now (DuplicateNumber c.in-Some.repeat.number c.in-Some.repeat.first c.in-Some.repeat.second) cause;
      refused = cause;
      refuses = refuses_fault c.args.source.now (DuplicateNumber c.in-Some.repeat.number c.in-Some.repeat.first c.in-Some.repeat.second) cause;
    }

pub returns : goal.returns
returns c =
    let accepted : IsAccepted c.args.source.now c.in_ok-trees.trees.head c.in_ok-trees.trees.instances = search rules in
    record {
      source = refl;
      accepted = accepted;
      accepts = λ head instances a. one_file c.args.source.now c.in_ok-trees.trees.head head c.in_ok-trees.trees.instances instances c.in_ok-trees.ensures.file a.file;
      refused = tt;
      refuses = λ fault k. no_cause c.args.source.now c.in_ok-trees.trees.head c.in_ok-trees.trees.instances fault accepted k;
    }
