use Rattle.plane_core.specs.Views.{plane_of}
use Rattle.edge_cut.proofs.Turned.{turned_number, normal_size, turned_plane, seen_from_back}
use Rattle.edge_cut.proofs.builder.outward_numbers.Goals as goal

pub returns-else-front_out : goal.returns-else-front_out
returns-else-front_out c =
    let p = c.args.plane.now in
    seen_from_back c.args.front_out (plane_of p) _ c.if-front_out.false
    (turned_plane _ _ _ _ _ _ _ _ (turned_number p.a (normal_size p.a p.a_small)) (turned_number p.b (normal_size p.b p.b_small)) (turned_number p.c (normal_size p.c p.c_small)) (turned_number p.d p.d_small))
