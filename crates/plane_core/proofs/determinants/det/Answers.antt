use Rattle.integer_laws.proofs.Computed.{arg, again, sum, difference, product, fits}
use Rattle.plane_core.proofs.Sizes.{after}
use Rattle.plane_core.proofs.determinants.det.Goals as goal

pub overflow_mul-result : goal.overflow_mul-result
overflow_mul-result c =
    let p_x = arg c.args.p.x c.requires.first.first_small tt in
    let q_x = arg c.args.q.x c.requires.second.first_small tt in
    let r_x = arg c.args.r.x c.requires.third.first_small tt in
    let p_y = arg c.args.p.y c.requires.first.second_small tt in
    let q_y = arg c.args.q.y c.requires.second.second_small tt in
    let r_y = arg c.args.r.y c.requires.third.second_small tt in
    let p_z = arg c.args.p.z c.requires.first.third_small tt in
    let q_z = arg c.args.q.z c.requires.second.third_small tt in
    let r_z = arg c.args.r.z c.requires.third.third_small tt in
    let p_minor = again (after c.minor-p_minor.ensures.value (difference (product q_y r_z) (product q_z r_y))) tt in
    let q_minor = again (after c.minor-q_minor.ensures.value (difference (product r_y p_z) (product r_z p_y))) tt in
    let r_minor = again (after c.minor-r_minor.ensures.value (difference (product p_y q_z) (product p_z q_y))) tt in
    fits (product p_x p_minor) tt

pub overflow_mul-result-2 : goal.overflow_mul-result-2
overflow_mul-result-2 c =
    let p_x = arg c.args.p.x c.requires.first.first_small tt in
    let q_x = arg c.args.q.x c.requires.second.first_small tt in
    let r_x = arg c.args.r.x c.requires.third.first_small tt in
    let p_y = arg c.args.p.y c.requires.first.second_small tt in
    let q_y = arg c.args.q.y c.requires.second.second_small tt in
    let r_y = arg c.args.r.y c.requires.third.second_small tt in
    let p_z = arg c.args.p.z c.requires.first.third_small tt in
    let q_z = arg c.args.q.z c.requires.second.third_small tt in
    let r_z = arg c.args.r.z c.requires.third.third_small tt in
    let p_minor = again (after c.minor-p_minor.ensures.value (difference (product q_y r_z) (product q_z r_y))) tt in
    let q_minor = again (after c.minor-q_minor.ensures.value (difference (product r_y p_z) (product r_z p_y))) tt in
    let r_minor = again (after c.minor-r_minor.ensures.value (difference (product p_y q_z) (product p_z q_y))) tt in
    fits (product q_x q_minor) tt

pub overflow_mul-result-3 : goal.overflow_mul-result-3
overflow_mul-result-3 c =
    let p_x = arg c.args.p.x c.requires.first.first_small tt in
    let q_x = arg c.args.q.x c.requires.second.first_small tt in
    let r_x = arg c.args.r.x c.requires.third.first_small tt in
    let p_y = arg c.args.p.y c.requires.first.second_small tt in
    let q_y = arg c.args.q.y c.requires.second.second_small tt in
    let r_y = arg c.args.r.y c.requires.third.second_small tt in
    let p_z = arg c.args.p.z c.requires.first.third_small tt in
    let q_z = arg c.args.q.z c.requires.second.third_small tt in
    let r_z = arg c.args.r.z c.requires.third.third_small tt in
    let p_minor = again (after c.minor-p_minor.ensures.value (difference (product q_y r_z) (product q_z r_y))) tt in
    let q_minor = again (after c.minor-q_minor.ensures.value (difference (product r_y p_z) (product r_z p_y))) tt in
    let r_minor = again (after c.minor-r_minor.ensures.value (difference (product p_y q_z) (product p_z q_y))) tt in
    fits (product r_x r_minor) tt

pub overflow_add-result : goal.overflow_add-result
overflow_add-result c =
    let p_x = arg c.args.p.x c.requires.first.first_small tt in
    let q_x = arg c.args.q.x c.requires.second.first_small tt in
    let r_x = arg c.args.r.x c.requires.third.first_small tt in
    let p_y = arg c.args.p.y c.requires.first.second_small tt in
    let q_y = arg c.args.q.y c.requires.second.second_small tt in
    let r_y = arg c.args.r.y c.requires.third.second_small tt in
    let p_z = arg c.args.p.z c.requires.first.third_small tt in
    let q_z = arg c.args.q.z c.requires.second.third_small tt in
    let r_z = arg c.args.r.z c.requires.third.third_small tt in
    let p_minor = again (after c.minor-p_minor.ensures.value (difference (product q_y r_z) (product q_z r_y))) tt in
    let q_minor = again (after c.minor-q_minor.ensures.value (difference (product r_y p_z) (product r_z p_y))) tt in
    let r_minor = again (after c.minor-r_minor.ensures.value (difference (product p_y q_z) (product p_z q_y))) tt in
    fits (sum (again (product p_x p_minor) tt) (again (product q_x q_minor) tt)) tt

pub overflow_add-result-2 : goal.overflow_add-result-2
overflow_add-result-2 c =
    let p_x = arg c.args.p.x c.requires.first.first_small tt in
    let q_x = arg c.args.q.x c.requires.second.first_small tt in
    let r_x = arg c.args.r.x c.requires.third.first_small tt in
    let p_y = arg c.args.p.y c.requires.first.second_small tt in
    let q_y = arg c.args.q.y c.requires.second.second_small tt in
    let r_y = arg c.args.r.y c.requires.third.second_small tt in
    let p_z = arg c.args.p.z c.requires.first.third_small tt in
    let q_z = arg c.args.q.z c.requires.second.third_small tt in
    let r_z = arg c.args.r.z c.requires.third.third_small tt in
    let p_minor = again (after c.minor-p_minor.ensures.value (difference (product q_y r_z) (product q_z r_y))) tt in
    let q_minor = again (after c.minor-q_minor.ensures.value (difference (product r_y p_z) (product r_z p_y))) tt in
    let r_minor = again (after c.minor-r_minor.ensures.value (difference (product p_y q_z) (product p_z q_y))) tt in
    fits (sum (again (sum (again (product p_x p_minor) tt) (again (product q_x q_minor) tt)) tt) (again (product r_x r_minor) tt)) tt

pub returns : goal.returns
returns c =
    let p_x = arg c.args.p.x c.requires.first.first_small tt in
    let q_x = arg c.args.q.x c.requires.second.first_small tt in
    let r_x = arg c.args.r.x c.requires.third.first_small tt in
    let p_y = arg c.args.p.y c.requires.first.second_small tt in
    let q_y = arg c.args.q.y c.requires.second.second_small tt in
    let r_y = arg c.args.r.y c.requires.third.second_small tt in
    let p_z = arg c.args.p.z c.requires.first.third_small tt in
    let q_z = arg c.args.q.z c.requires.second.third_small tt in
    let r_z = arg c.args.r.z c.requires.third.third_small tt in
    let p_minor = again (after c.minor-p_minor.ensures.value (difference (product q_y r_z) (product q_z r_y))) tt in
    let q_minor = again (after c.minor-q_minor.ensures.value (difference (product r_y p_z) (product r_z p_y))) tt in
    let r_minor = again (after c.minor-r_minor.ensures.value (difference (product p_y q_z) (product p_z q_y))) tt in
    record { value = (again (sum (again (sum (again (product p_x p_minor) tt) (again (product q_x q_minor) tt)) tt) (again (product r_x r_minor) tt)) tt).is }
