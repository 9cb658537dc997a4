use Rattle.std.proofs.Common.{◌<◌, ◌≡◌, ◌++◌, ◌∷◌, [], List, ℕ, length, take, set, sym, ap, ◌∙◌, arith, Result, Ok, Err, is_err, true, false}
use Rattle.std.specs.Result.{OnOk, OnErr}
use Rattle.corner_book.specs.Places.{unlisted}
use Rattle.corner_book.proofs.Changes.{step_on, step_off, set_same, unlisted-listed}
use Rattle.corner_book.proofs.lists.list_corner.Goals as goal
use Rattle.corner_book.proofs.lists.list_corner.Goals.{else-is_on-via-then-is_on+else-is_err, else-is_on-via-else-is_on}

at_err : {T E P : Type 0} → (r : Result T E) → is_err r ≡ true → OnErr r P → P
at_err (Ok x) e p = cc
at_err (Err x) e p = p

at_ok : {T E P : Type 0} → (r : Result T E) → is_err r ≡ false → OnOk r P → P
at_ok (Ok x) e p = p
at_ok (Err x) e p = cc

pub returns-then-is_err-clause-err : goal.returns-then-is_err-clause-err
returns-then-is_err-clause-err c =
    c.unlist_corner.ensures
    ∙ ap (unlisted (take c.loop-k.k c.args.book.now) c.args.corner.now)
    (set_same c.loop-k.lists.items c.loop-k.k c.index_mut.result.now c.push.new.self c.index_mut.ensures.value (at_err c.push.result (sym c.is_err.ensures.value ∙ c.if-is_err.true) c.push.ensures.err)
    ∙ c.loop-k.invariant)
    ∙ unlisted-listed (take c.loop-k.k c.args.book.now) c.args.corner.now c.args.place c.args.lists.now.items

pub loop-k-preserved : goal.loop-k-preserved
loop-k-preserved c =
    let below : c.loop-k.k < length c.args.lists.now.items = omega (arith, c.loop-k-test.true, c.requires, c.count-count.ensures.value, c.args.lists.now.ok.0) in
    elim c.else-is_on.branch [
      | else-is_on-via-then-is_on+else-is_err w ↦ step_on (λ l. l ++ c.args.place ∷ []) c.args.book.now c.args.corner.now c.args.lists.now.items c.loop-k.lists.items c.else-is_on.lists.items c.loop-k.k c.plane.result.now w.index_mut.result.now
          c.loop-k.invariant below c.plane.ensures.value (sym c.is_on.ensures ∙ w.if-is_on.true) w.index_mut.ensures.value
          (ap (λ v. v.items) w.lists-is ∙ ap (λ (l : List ℕ). set c.loop-k.lists.items c.loop-k.k l) (at_ok w.push.result (sym w.is_err.ensures.value ∙ w.if-is_err.false) w.push.ensures.ok))
      | else-is_on-via-else-is_on w ↦ step_off (λ l. l ++ c.args.place ∷ []) c.args.book.now c.args.corner.now c.args.lists.now.items c.loop-k.lists.items c.else-is_on.lists.items c.loop-k.k c.plane.result.now
          c.loop-k.invariant c.plane.ensures.value (sym c.is_on.ensures ∙ w.if-is_on.false) (ap (λ v. v.items) w.lists-is)
    ]
