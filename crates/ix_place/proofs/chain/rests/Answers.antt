use Rattle.ix_place.proofs.Rests.{IsEnd, at_fork, at_first_end, at_second_end, first_rest, second_rest}
use Rattle.ix_place.proofs.chain.rests.Goals as goal
use Rattle.ix_place.proofs.chain.rests.Goals.{then-front-test+then-shared-opening+else-element-shared, then-front-test+else-shared-opening, else-front-test}

pub returns-clause-element : goal.returns-clause-element
returns-clause-element c =
    let ends : IsEnd c.args.element.now c.args.opening.now c.front.shared = elim c.front-test.branch [
      | then-front-test+then-shared-opening+else-element-shared w ↦
          at_fork c.args.element.now c.args.opening.now c.front.shared w.index-element-shared.result w.index-opening-shared.result w.front-test.true w.if-shared-opening.true w.if-element-shared.false
      | then-front-test+else-shared-opening w ↦ at_second_end c.args.element.now c.args.opening.now c.front.shared w.if-shared-opening.false
      | else-front-test w ↦ at_first_end c.args.element.now c.args.opening.now c.front.shared w.front-test.false
    ] in
    first_rest c.args.element.now c.args.opening.now c.front.shared ends c.front.invariant.same

pub returns-clause-opening : goal.returns-clause-opening
returns-clause-opening c =
    let ends : IsEnd c.args.element.now c.args.opening.now c.front.shared = elim c.front-test.branch [
      | then-front-test+then-shared-opening+else-element-shared w ↦
          at_fork c.args.element.now c.args.opening.now c.front.shared w.index-element-shared.result w.index-opening-shared.result w.front-test.true w.if-shared-opening.true w.if-element-shared.false
      | then-front-test+else-shared-opening w ↦ at_second_end c.args.element.now c.args.opening.now c.front.shared w.if-shared-opening.false
      | else-front-test w ↦ at_first_end c.args.element.now c.args.opening.now c.front.shared w.front-test.false
    ] in
    second_rest c.args.element.now c.args.opening.now c.front.shared ends c.front.invariant.same
