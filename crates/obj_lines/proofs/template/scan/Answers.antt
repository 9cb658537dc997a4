use Rattle.std.proofs.Common.{◌+◌, drop, get_or, set, replicate, pos, to_z, of_z, sym, ap, arith}
use Rattle.obj_lines.proofs.Scans.{walk_start, walk_at, walk_past, place_room, place_missing, walk_place, byte_missing, walk_byte, walk_end, walk_over, walk_same, empty_is, empty_is_not, IsWalk}
use Rattle.obj_lines.proofs.Signed.{packed}
use Rattle.std.proofs.lemmas.List.{length-replicate}
use mir.Syntax.{w128}
use Rattle.obj_lines.proofs.template.scan.Goals as goal
use Rattle.obj_lines.proofs.template.scan.Goals.{then-is_place+in_ok-number, else-is_place+in_ok-rest}

pub loop-sign-init : goal.loop-sign-init
loop-sign-init g c = walk_start c.args.template.now c.args.text.now g.row.N (replicate g.row.N (pos 0)) (length-replicate g.row.N (pos 0)) c.requires.places c.requires.apart

pub returns-in_err-number : goal.returns-in_err-number
returns-in_err-number g c =
    let l = c.loop-sign in
    let template = c.args.template.now in
    let walk = walk_at template c.args.text.now g.row.N l.count l.numbers l.sign-index l.rest.now c.loop-sign-test.true l.invariant in
    rw c.from_residual.ensures
    (place_missing template c.args.text.now g.row.N l.count l.numbers (get_or template l.sign-index 0) (drop (l.sign-index + 1) template) l.rest.now walk (sym c.if-is_place.ensures) c.in_err-number.ensures)

pub bounds-numbers-count : goal.bounds-numbers-count
bounds-numbers-count g c =
    let l = c.loop-sign in
    let template = c.args.template.now in
    let walk = walk_at template c.args.text.now g.row.N l.count l.numbers l.sign-index l.rest.now c.loop-sign-test.true l.invariant in
    omega (arith, place_room template c.args.text.now g.row.N l.count l.numbers (get_or template l.sign-index 0) (drop (l.sign-index + 1) template) l.rest.now walk (sym c.if-is_place.ensures), walk.room)

pub returns-in_err-rest : goal.returns-in_err-rest
returns-in_err-rest g c =
    let l = c.loop-sign in
    let template = c.args.template.now in
    let walk = walk_at template c.args.text.now g.row.N l.count l.numbers l.sign-index l.rest.now c.loop-sign-test.true l.invariant in
    rw c.from_residual-in_err-rest.ensures
    (byte_missing template c.args.text.now g.row.N l.count l.numbers (get_or template l.sign-index 0) (drop (l.sign-index + 1) template) l.rest.now walk (sym c.if-is_place.ensures) c.in_err-rest.ensures)

pub loop-sign-preserved : goal.loop-sign-preserved
loop-sign-preserved g c =
    let l = c.loop-sign in
    let template = c.args.template.now in
    let walk = walk_at template c.args.text.now g.row.N l.count l.numbers l.sign-index l.rest.now c.loop-sign-test.true l.invariant in
    let tail = drop (l.sign-index + 1) template in
    elim c.if-is_place.branch [
      | then-is_place+in_ok-number w ↦
          let number = w.in_ok-number.number in
          let front = w.in_ok-number.ensures in
          walk_same template c.args.text.now g.row.N (l.count + 1) c.if-is_place.count (set l.numbers l.count (to_z w128 (of_z w128 number))) c.if-is_place.numbers tail w.in_ok-number.more.now c.if-is_place.rest.now
          w.count-is w.numbers-is (ap (λ b. b.now) w.rest-is)
          (packed (λ m. IsWalk template c.args.text.now g.row.N (l.count + 1) (set l.numbers l.count m) tail w.in_ok-number.more.now) number front.within
          (walk_place template c.args.text.now g.row.N l.count l.numbers (get_or template l.sign-index 0) tail l.rest.now walk (sym w.if-is_place.ensures) number w.in_ok-number.more.now front))
      | else-is_place+in_ok-rest w ↦
          walk_same template c.args.text.now g.row.N l.count c.if-is_place.count l.numbers c.if-is_place.numbers tail w.in_ok-rest.rest.now c.if-is_place.rest.now
          w.count-is w.numbers-is (ap (λ b. b.now) w.rest-is)
          (walk_byte template c.args.text.now g.row.N l.count l.numbers (get_or template l.sign-index 0) tail l.rest.now walk (sym w.if-is_place.ensures) w.in_ok-rest.rest.now w.in_ok-rest.ensures)
    ]

pub returns-then-is_empty : goal.returns-then-is_empty
returns-then-is_empty g c =
    let l = c.loop-sign in
    let walk = walk_past c.args.template.now c.args.text.now g.row.N l.count l.numbers l.sign-index l.rest.now c.loop-sign-test.false l.invariant in
    walk_end c.args.template.now c.args.text.now g.row.N l.count l.numbers l.rest.now walk (empty_is l.rest.now c.if-is_empty.ensures)

pub returns-else-is_empty : goal.returns-else-is_empty
returns-else-is_empty g c =
    let l = c.loop-sign in
    let walk = walk_past c.args.template.now c.args.text.now g.row.N l.count l.numbers l.sign-index l.rest.now c.loop-sign-test.false l.invariant in
    walk_over c.args.template.now c.args.text.now g.row.N l.count l.numbers l.rest.now walk (empty_is_not l.rest.now c.if-is_empty.ensures)
