use Rattle.std.proofs.Common.{[], ◌∷◌, ◌++◌, ◌∙◌, ap, sym, refl}
use Rattle.spec_grid.specs.Rounded.{face_on_grid, is_face_near}
use Rattle.grid_round.proofs.Steps.{map_step, map_end, test_step, test_fails, test_end}
use Rattle.grid_round.proofs.faces.round_faces.Goals as goal

pub loop-face-preserved : goal.loop-face-preserved
loop-face-preserved c =
    let to_grid = face_on_grid c.args.step c.args.under.now in
    let rounded = c.loop-face.rounded.items in
    let found = rw c.in-Some.is at c.in_ok-near.ensures in
    record {
      done = map_step to_grid c.args.faces.now c.loop-face.face-index c.face-item.result rounded c.push.new.self.items _ c.loop-face-test.true
          (c.in-Ok.ensures.items ∙ ap (λ f. rounded ++ f ∷ []) (found.0 ∙ ap to_grid c.face-item.is)) c.loop-face.invariant.done;
      near = test_step is_face_near to_grid c.args.faces.now c.loop-face.face-index c.face-item.result _ c.loop-face-test.true
          (sym (ap (λ f. is_face_near (to_grid f)) c.face-item.is) ∙ found.1) c.loop-face.invariant.near;
    }

pub returns-in_default : goal.returns-in_default
returns-in_default c =
    let to_grid = face_on_grid c.args.step c.args.under.now in
    let far = rw c.in_default.is at c.in_ok-near.ensures in
    rw c.into.ensures (
      refl,
      sym (test_fails is_face_near to_grid c.args.faces.now c.loop-face.face-index c.face-item.result _ c.loop-face-test.true
          (sym (ap (λ f. is_face_near (to_grid f)) c.face-item.is) ∙ far) c.loop-face.invariant.near),
    )

pub returns : goal.returns
returns c =
    let to_grid = face_on_grid c.args.step c.args.under.now in (
      map_end to_grid c.args.faces.now c.loop-face.face-index c.loop-face.rounded.items _ c.loop-face-test.false c.loop-face.invariant.done,
      sym (test_end is_face_near to_grid c.args.faces.now c.loop-face.face-index _ c.loop-face-test.false c.loop-face.invariant.near),
    )
