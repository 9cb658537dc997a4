use Rattle.std.proofs.Common.{◌≤◌, length, arith}
use Rattle.edge_cut.proofs.Made.{map_next, all_made}
use Rattle.edge_cut.proofs.outlines.joined_sides.Goals as goal

pub loop-i-preserved : goal.loop-i-preserved
loop-i-preserved c =
    let old = c.loop-i.sides.items in
    let new = c.push.new.self.items in
    let s = c.side_at.result in
    record {
      made_before = map_next (λ s. s.before) old new s c.args.before.now c.loop-i.i c.side_at.ensures.before c.in_ok-push.ensures.items c.loop-i.invariant.made_before;
      made_edges = map_next (λ s. s.edge) old new s c.args.edges.now c.loop-i.i c.side_at.ensures.edge c.in_ok-push.ensures.items c.loop-i.invariant.made_edges;
      made_after = map_next (λ s. s.after) old new s c.args.after.now c.loop-i.i c.side_at.ensures.after c.in_ok-push.ensures.items c.loop-i.invariant.made_after;
      made_starts = map_next (λ s. s.start) old new s c.args.starts.now c.loop-i.i c.side_at.ensures.start c.in_ok-push.ensures.items c.loop-i.invariant.made_starts;
      made_ends = map_next (λ s. s.end) old new s c.args.ends.now c.loop-i.i c.side_at.ensures.end c.in_ok-push.ensures.items c.loop-i.invariant.made_ends;
    }

pub returns : goal.returns
returns c =
    let done = c.loop-i-test.false in
    let all : length c.args.edges.now ≤ c.loop-i.i = omega (arith, done) in
    all_made c.loop-i.i c.loop-i.sides.items c.args.before.now c.args.edges.now c.args.after.now c.args.starts.now c.args.ends.now all c.requires.before c.requires.after c.requires.starts c.requires.ends c.loop-i.invariant
