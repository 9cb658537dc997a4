use Rattle.std.proofs.Common.{◌≡◌, ◌^◌, ◌-◌, ◌∙◌, ap, subst, map, get_or}
use Rattle.std.proofs.lemmas.Result.{IfOk-weaker}
use Rattle.spec_place.specs.Vectors.{origin}
use Rattle.spec_solid.specs.Extrusions.{face_triangles}
use Rattle.ix_profile.specs.Outlines.{IsOutline}
use Rattle.grid_solid.specs.Triangles.{triangle_of}
use Rattle.grid_round.specs.Fans.{fan_triangle}
use Rattle.grid_round.proofs.Fan.{face_cut}
use Rattle.grid_round.proofs.triangles.face_triangles.Goals as goal

pub returns : goal.returns
returns c =
    let loops = c.args.face.now.loops in
    let same = c.as_slice.ensures ∙ c.loops.ensures.value in
    let first = c.index-as_slice-0.result in
    let cut = face_cut (2 ^ 62 - 1) loops first origin (subst (λ ls. IsOutline (2 ^ 62 - 1) ls) c.loops.ensures.value c.loops.ensures.kept) (c.index-as_slice-0.is ∙ ap (λ ls. get_or ls 0 first) same) in
    IfOk-weaker c.fan.result
    (λ triangles. map triangle_of triangles.items ≡ map (fan_triangle (get_or c.points.result.now 0 origin)) c.deref.result.now)
    (λ triangles. map triangle_of triangles.items ≡ face_triangles loops)
    (λ triangles e. e ∙ (λ i. map (fan_triangle (get_or (c.points.ensures i) 0 origin)) ((c.deref.ensures.value ∙ c.in_ok-edges.ensures) i)) ∙ cut)
    c.fan.ensures
