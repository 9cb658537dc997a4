use Rattle.std.proofs.Common.{◌≡◌, ◌-◌, ◌∙◌, true, false, not, IfOk, length, take, drop, sym, ap, subst, rules, AllPairs}
use Rattle.std.specs.List.Sorted.{IsPartitionPoint}
use Rattle.std.proofs.lemmas.List.{take_rest}
use Rattle.std.proofs.lemmas.List.Sorted.{IsPartitionPoint-from_clause}
use Rattle.edge_cut.specs.Stretches.{comes_before}
use Rattle.edge_cut.proofs.Ranges.{parted_above, parted_below, above_rises, among_found}
use Rattle.edge_cut.proofs.inside.corners_among.Goals as goal

pub returns : goal.returns
returns c =
    let low = c.args.low.now in
    let high = c.args.high.now in
    let line = c.args.line.now in
    let first = c.partition_point-first.result in
    let count = c.partition_point-count.result in
    let point = IsPartitionPoint-from_clause (λ d. not (comes_before low d)) _ _ c.partition_point-first.ensures.partitioned (parted_above low line c.requires) (λ a r q k. search rules) in
    let same = take_rest line first in
    let up = subst (λ cs. AllPairs (λ d e. comes_before d e ≡ true) cs) (sym same) (above_rises low high line first c.requires point) in
    let last = IsPartitionPoint-from_clause (λ d. comes_before d high) _ _ c.partition_point-count.ensures.partitioned (parted_below high (take (length line - first) (drop first line)) up) (λ a r q k. search rules) in
    subst (λ cs. IfOk c.from_slice.result (λ v. v.items ≡ cs))
    (ap (take count) same ∙ among_found low high line first c.requires point count (subst (λ cs. IsPartitionPoint (λ d. comes_before d high ≡ true) (λ d. comes_before d high ≡ false) cs count) same last))
    c.from_slice.ensures.items
