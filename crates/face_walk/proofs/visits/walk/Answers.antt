use Rattle.std.proofs.Common.{◌<◌, ◌++◌, ◌∷◌, [], length, All, sym, ap, subst, ◌∙◌}
use Rattle.std.proofs.lemmas.List.{nil_from_length}
use Rattle.std.proofs.lemmas.List.Elements.{All-nil}
use Rattle.plane_cells.specs.declared.steps.Step.{Step}
use Rattle.face_walk.specs.Works.{IsPathOf, IsSafeVisit, IsFragmentFace, IsOpened}
use Rattle.face_walk.proofs.Opened.{walk_begins, walk_goes_on, safe_top, safe_rest, path_next, stack_begins, stack_pop}
use Rattle.face_walk.proofs.Whole.{walk_ends}
use Rattle.face_walk.proofs.visits.walk.Goals as goal

pub walk-init : goal.walk-init
walk-init c =
    let pool = c.args.pool.now in
    let planes = c.args.book.now in
    let path = c.new-path.result.items in
    let none = c.new-visits.result.items in
    let before = c.new-faces.result.items in
    let visits = c.open.new.visits.items in
    let faces = c.open.new.faces.items in
    let opened = subst (λ steps. IsOpened pool planes c.args.only steps c.args.id none visits before faces) c.deref.ensures.value c.in_ok-open.ensures.opened in
    record {
      path = subst (IsPathOf planes) (sym c.new-path.ensures.items) (All-nil (λ (s : Step). s.plane.k < length planes));
      safe = opened.safe (subst (All (IsSafeVisit pool planes)) (sym c.new-visits.ensures.items) (All-nil (IsSafeVisit pool planes)));
      stacked = opened.stacked (stack_begins (length path) none c.new-visits.ensures.items);
      fragments = opened.fragments (subst (All (IsFragmentFace planes)) (sym c.new-faces.ensures.items) (All-nil (IsFragmentFace planes)));
      walk = λ t stands fit. walk_begins pool planes t fit c.args.only c.args.id stands path c.new-path.ensures.items none visits c.new-visits.ensures.items before faces c.new-faces.ensures.items opened;
    }

pub walk-preserved : goal.walk-preserved
walk-preserved c =
    let pool = c.args.pool.now in
    let planes = c.args.book.now in
    let path = c.walk.path.items in
    let next = c.push.new.self.items in
    let v = c.in-Some.visit in
    let waits = c.walk.visits.items in
    let rest = c.pop.new.self.items in
    let visits = c.open-in-Some.new.visits.items in
    let found = c.walk.faces.items in
    let faces = c.open-in-Some.new.faces.items in
    let popped = c.in-Some.ensures.items in
    let taken = c.in_ok-push.ensures.items ∙ ap (λ steps. steps ++ v.step ∷ []) c.truncate.ensures.items in
    let opened = subst (λ steps. IsOpened pool planes c.args.only steps v.id rest visits found faces) c.deref-in-Some.ensures.value c.in_ok-open-2.ensures.opened in
    let so_far = c.walk.invariant in
    record {
      path = path_next planes path next v taken so_far.path (safe_top pool planes waits rest v popped so_far.safe).given;
      safe = opened.safe (safe_rest pool planes waits rest v popped so_far.safe);
      stacked = opened.stacked (stack_pop path next v waits rest popped taken so_far.stacked);
      fragments = opened.fragments so_far.fragments;
      walk = λ t stands fit. walk_goes_on pool planes t fit c.args.only path next v waits rest visits found faces popped taken so_far.stacked (so_far.walk t stands fit) opened;
    }

pub returns-clause-walked : goal.returns-clause-walked
returns-clause-walked c t stands fit =
    let empty = nil_from_length c.walk.visits.items (sym c.walk.visits.ok.0 ∙ c.in_default.ensures.cases.0) in
    walk_ends c.args.pool.now c.args.book.now t c.args.only c.walk.path.items c.walk.visits.items c.walk.faces.items empty (c.walk.invariant.walk t stands fit)
