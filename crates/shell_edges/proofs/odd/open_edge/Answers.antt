use Rattle.std.proofs.Common.{◌≡◌, sym, ap, ◌∙◌, Some, None, true, false}
use Rattle.std.specs.BTreeSet.{contains}
use Rattle.std.proofs.lemmas.List.{take_all}
use Rattle.spec_solid.specs.Triangles.{differ}
use Rattle.spec_shell.specs.Edges.{Edge, is_edge_before, open_edge}
use Rattle.shell_edges.proofs.Even.{none_exactly}
use Rattle.shell_edges.specs.declared.place.Place.{Place}
use Rattle.shell_edges.specs.Odd.{joint_cmp, edge_of, is_odd}
use Rattle.shell_edges.proofs.Odds.{is_odd-take, item_at, open_is, open_none}
use Rattle.shell_edges.proofs.Sets.{not_below, nothing, place_at}
use Rattle.shell_edges.proofs.odd.open_edge.Goals as goal

pub loop-edge-preserved : goal.loop-edge-preserved
loop-edge-preserved c = λ k. c.in_ok-count.ensures.counted k ∙ ap (differ _) (c.loop-edge.invariant k)
    ∙ is_odd-take c.args.edges.now c.loop-edge.edge-index _ (edge_of k) (item_at c.args.edges.now c.loop-edge.edge-index _ c.loop-edge-test.true)

pub returns-in-Some : goal.returns-in-Some
returns-in-Some c =
    let es = c.args.edges.now in
    let k = c.in-Some.least.now in
    let odds : (q : Place × Place) → contains joint_cmp c.loop-edge.odd q ≡ is_odd es (edge_of q) =
    λ q. c.loop-edge.invariant q ∙ ap (λ xs. is_odd xs (edge_of q)) (take_all c.loop-edge.edge-index es c.loop-edge-test.false) in
    let least : (f : Edge) → is_odd es f ≡ true → is_edge_before f (edge_of k) ≡ false =
    λ f h. let q : Place × Place = (place_at f.0, place_at f.1) in not_below k q (c.in-Some.ensures.least q (odds q ∙ h)) in
    let found : Some (c.vector.result, c.vector-in-Some.result) ≡ open_edge es =
    (λ i. Some (c.vector.ensures i, c.vector-in-Some.ensures i)) ∙ open_is es (edge_of k) (sym (odds k) ∙ c.in-Some.ensures.member) least in
    record { edge = found; closed = none_exactly es (Some (c.vector.result, c.vector-in-Some.result)) found }

pub returns : goal.returns
returns c =
    let es = c.args.edges.now in
    let odds : (q : Place × Place) → contains joint_cmp c.loop-edge.odd q ≡ is_odd es (edge_of q) =
    λ q. c.loop-edge.invariant q ∙ ap (λ xs. is_odd xs (edge_of q)) (take_all c.loop-edge.edge-index es c.loop-edge-test.false) in
    let found : None ≡ open_edge es =
    open_none es (λ f. sym (odds (place_at f.0, place_at f.1)) ∙ nothing c.loop-edge.odd (place_at f.0, place_at f.1) (λ more. c.in-None.ensures.variant.1 more)) in
    record { edge = found; closed = none_exactly es None found }
