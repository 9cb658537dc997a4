use Rattle.std.proofs.Common.{◌≡◌, ◌∙◌, sym, ap, cond, Some, None, subst, take, ◌==◌}
use Rattle.std.specs.BTreeMap.{get}
use Rattle.std.specs.Cmp.{unsigned_tied}
use Rattle.std.specs.Ordering.{nat_cmp}
use Rattle.spec_step.specs.Files.{HasDistinctNumbers}
use Rattle.step_text.proofs.Repeats.{place_of_number, repeats, distinct_more, place_more}
use Rattle.std.proofs.lemmas.List.{take_all}
use Rattle.step_text.proofs.repeat.first_repeat.Goals as goal

pub returns-in-Some : goal.returns-in-Some
returns-in-Some c =
    let i = c.instance-item.result in
    let k = c.loop-instance.instance-index in
    let seen : place_of_number i.number (take k c.args.instances.now) ≡ Some c.in-Some.first =
    sym (c.loop-instance.invariant.places i.number) ∙ sym c.in_ok-first.ensures.old ∙ c.in-Some.is in
    repeats c.args.instances.now k i c.in-Some.first c.loop-instance-test.true c.instance-item.is seen c.loop-instance.invariant.distinct

pub loop-instance-preserved : goal.loop-instance-preserved
loop-instance-preserved c =
    let i = c.instance-item.result in
    let k = c.loop-instance.instance-index in
    let is = c.args.instances.now in
    let unseen : place_of_number i.number (take k is) ≡ None =
    sym (c.loop-instance.invariant.places i.number) ∙ sym c.in_ok-first.ensures.old ∙ c.in_default.is in
    record {
      distinct = distinct_more is k i c.loop-instance-test.true c.instance-item.is unseen c.loop-instance.invariant.distinct;
      places = λ n. c.in_ok-first.ensures.updates.0 n
          ∙ ap (λ b. cond b (Some i.from) (get nat_cmp c.loop-instance.places n)) (unsigned_tied i.number n)
          ∙ ap (cond (i.number == n) (Some i.from)) (c.loop-instance.invariant.places n)
          ∙ sym (place_more n is k i c.loop-instance-test.true c.instance-item.is unseen);
    }

pub returns : goal.returns
returns c = subst HasDistinctNumbers (take_all c.loop-instance.instance-index c.args.instances.now c.loop-instance-test.false) c.loop-instance.invariant.distinct
