use Rattle.std.proofs.Common.{◌+◌, true, false, refl}
use Rattle.tree_pool.specs.Pools.{rank_at}
use Rattle.face_walk.proofs.Sheets.{weight_one, step_lower, one_divided, own_rest}
use Rattle.face_walk.proofs.lower.pass_own.Goals as goal

pub returns : goal.returns
returns c = record {
  divided = λ planes.
      let pool = c.args.pool.now in
      let ok = c.on_sides-places.ensures.trees in
      let s = c.args.sheet in
      let next = c.on_sides-places.result in
      let goes = c.on_sides-places.ensures.places in
      one_divided pool planes s (record { frag = s.frag; places = next }) c.args.sheets.now.items c.push.new.self.items c.in_ok-push.ensures.items (own_rest pool ok planes s c.args.plane.k c.requires.own next goes)
      (λ t id p d fit is alone. refl)
      (weight_one (rank_at pool next.front + rank_at pool next.back) (rank_at pool s.places.front + rank_at pool s.places.back) (step_lower pool ok s.places c.requires.live c.args.plane.k c.requires.crossing true false next goes));
}
