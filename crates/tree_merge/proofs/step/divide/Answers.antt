use Rattle.std.proofs.Common.{sym, subst}
use Rattle.tree_merge.specs.declared.work.State.TheVariants.{Down}
use Rattle.tree_merge.specs.Works.{GoesOn}
use Rattle.tree_merge.proofs.Steps.{front_only, back_only, crosses}
use Rattle.tree_merge.proofs.step.divide.Goals as goal

pub returns-in-FrontOnly : goal.returns-in-FrontOnly
returns-in-FrontOnly c = record {
  walk = λ pool table pair divided. front_only c.args.book.now table pool pair c.args.cell c.args.frames.now.items c.args.plane c.args.front c.args.back divided c.in-FrontOnly.ensures.answer;
}

pub returns-in-BackOnly : goal.returns-in-BackOnly
returns-in-BackOnly c = record {
  walk = λ pool table pair divided. back_only c.args.book.now table pool pair c.args.cell c.args.frames.now.items c.args.plane c.args.front c.args.back divided c.in-BackOnly.ensures.answer.1;
}

pub returns-in_ok-push-in-Crosses : goal.returns-in_ok-push-in-Crosses
returns-in_ok-push-in-Crosses c = record {
  walk = λ pool table pair divided.
      let parts = c.in_ok-before-in-Crosses in
      subst (λ fs. GoesOn c.args.book.now table pool (Down (record { cell = c.args.cell; pair = pair })) c.args.frames.now.items pool (Down (record { cell = parts.before; pair = c.args.front })) fs)
      (sym c.in_ok-push-in-Crosses.ensures.items)
      (crosses c.args.book.now table pool pair c.args.cell c.args.frames.now.items c.args.plane c.args.front c.args.back divided parts.before parts.behind parts.ensures.front parts.ensures.back);
}
