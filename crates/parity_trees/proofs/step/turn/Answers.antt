use Rattle.std.proofs.Common.{◌++◌, [], ◌∷◌, sym, subst}
use Rattle.parity_trees.specs.Works.{GoesOn}
use Rattle.parity_trees.proofs.Tops.{last_live}
use Rattle.parity_trees.proofs.step.turn.Goals as goal

pub go_on-requires-clause-frame : goal.go_on-requires-clause-frame
go_on-requires-clause-frame c =
    let walk = c.requires.walk in
    last_live c.args.book.now c.args.pool.now c.requires.trees walk.0 walk.1.part c.pop.new.self.items c.in-Some.frame c.args.frames.now.items c.in-Some.ensures.items walk.1.waits

pub returns-in_ok-next-in-Down-clause-turn : goal.returns-in_ok-next-in-Down-clause-turn
returns-in_ok-next-in-Down-clause-turn c =
    let pool = c.args.pool.now in
    subst (λ state. GoesOn c.args.book.now pool state c.args.frames.now.items pool c.in_ok-next-in-Down.next c.go_down.new.frames.items) (sym c.in-Down.is)
    c.in_ok-next-in-Down.ensures.walk

pub returns-in_ok-next-in-Some-clause-turn : goal.returns-in_ok-next-in-Some-clause-turn
returns-in_ok-next-in-Some-clause-turn c =
    let old = c.args.pool.now in
    let new = c.go_on.new.pool in
    let next = c.in_ok-next-in-Some.next in
    let rest = c.go_on.new.frames.items in
    subst (λ frames. GoesOn c.args.book.now old c.args.state frames new next rest) (sym c.in-Some.ensures.items)
    (subst (λ state. GoesOn c.args.book.now old state (c.pop.new.self.items ++ c.in-Some.frame ∷ []) new next rest) (sym c.in-Up.is)
    (c.in_ok-next-in-Some.ensures.walk c.args.book.now))
