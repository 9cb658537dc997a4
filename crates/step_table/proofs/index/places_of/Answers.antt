use Rattle.std.proofs.Common.{◌∷◌, ◌++◌, [], take, sym, ◌∙◌, ap}
use Rattle.std.proofs.lemmas.List.{take_more}
use Rattle.std.specs.BTreeMap.{get}
use Rattle.std.specs.Ordering.{nat_cmp}
use Rattle.step_table.proofs.FirstPlaces.{place_at}
use Rattle.step_table.proofs.index.places_of.Goals as goal

pub loop-place-preserved : goal.loop-place-preserved
loop-place-preserved c = λ n.
    place_at c.args.instances.now c.loop-place.place n c.index-instances-place.result (get nat_cmp c.loop-place.places n) (get nat_cmp c.note.new.places n)
    c.loop-place-test.true
    (take_more c.args.instances.now c.loop-place.place c.index-instances-place.result c.loop-place-test.true
    ∙ ap (λ i. take c.loop-place.place c.args.instances.now ++ i ∷ []) (sym c.index-instances-place.is))
    (c.loop-place.invariant n) (c.in_ok-note.ensures n)
