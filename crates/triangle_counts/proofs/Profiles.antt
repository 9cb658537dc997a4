-- How far a profile makes the count grow: by six for each edge of its loops.
use Rattle.std.proofs.Common.{◌≡◌, ℕ, ℤ, pos, ◌+◌, ◌*◌, List, [], ◌∷◌, length, sum_by, Option, Some, None, Ok, Err, IfOk, if◌then◌else◌, refl, sym, ◌∙◌, ap, arith}
use Rattle.std.proofs.lemmas.List.Sums.{sum_by-cons}
use Rattle.std.proofs.lemmas.Result.{IfOk-at_ok}
use Rattle.spec_space.specs.declared.Vector.{Vector}
use Rattle.spec_place.specs.Axes.{plane_point}
use Rattle.spec_step.specs.declared.tree.Param.{Param}
use Rattle.ifc_kinds.specs.declared.kind.Kind.TheVariants as kind
use Rattle.spec_refusal.specs.Reads.{Read, next}
use Rattle.spec_shape.specs.Profiles.{rectangle, hollow, i_shape}
use Rattle.spec_entity.specs.Reads.{has_kind, instance_of_kinds, named_instance, member_instance, members}
use Rattle.spec_geometry.specs.Files.{File, positive, zero}
use Rattle.spec_geometry.specs.Axes.{PlaneAxes, if_plane_axes}
use Rattle.spec_geometry.specs.Curves.{curve, named_curve, curve_kinds}
use Rattle.spec_geometry.specs.Profiles as profiles
use Rattle.spec_geometry.specs.Profiles.{Counted, count_loop, counted_curve, positive_below, wall_thickness, profile_loops, placed_by, profile_kinds, named_profile}
use Rattle.triangle_counts.proofs.Reaches.{keeps, either, Reaches, Adds, no_more, then_more, as_many, count_reaches}
use Rattle.triangle_counts.proofs.Swept.{edge_count, moved_count}

abbrev pub six_edges : List Vector → ℕ
six_edges points = 6 * length points

abbrev pub all_edges : List (List Vector) → ℕ
all_edges loops = 6 * edge_count loops

abbrev pub Loops : Type 0
Loops = List (List Vector)

pub one_loop : (l : List Vector) (ls : Loops) → all_edges (l ∷ ls) ≡ six_edges l + all_edges ls
one_loop l ls = omega (arith, sum_by-cons length l ls)

pub counted_adds : (read : Read (List Vector)) (count : ℕ) → IfOk (counted_curve read count) (Adds six_edges count)
counted_adds read count =
    let made : List Vector → ℕ → Counted (List Vector) = λ points more. Ok (points, more) in
    let counted : List Vector → Counted (List Vector) = λ points. next (count_loop count points) (made points) in
    keeps (Adds six_edges count) read counted (λ points _.
    keeps (Adds six_edges count) (count_loop count points) (made points) (λ more e. IfOk-at_ok (Reaches count (six_edges points)) e (count_reaches count (six_edges points))))

before_others : (count : ℕ) (one : List Vector × ℕ) (more : Loops × ℕ) → Adds six_edges count one → Adds all_edges one.1 more → Adds all_edges count (one.0 ∷ more.0, more.1)
before_others count one more h k =
    as_many count (six_edges one.0 + all_edges more.0) (all_edges (one.0 ∷ more.0)) more.1 (sym (one_loop one.0 more.0))
    (then_more count (six_edges one.0) one.1 (all_edges more.0) more.1 h k)

inner_adds : (file : File) (n : ℕ) (ps : List Param) (count : ℕ) → IfOk (profiles.inner_curves file n ps count) (Adds all_edges count)
inner_adds file n [] count = no_more count
inner_adds file n (p ∷ ps) count =
    let made : List Vector × ℕ → Loops × ℕ → Counted Loops = λ one more. Ok (one.0 ∷ more.0, more.1) in
    let later : List Vector × ℕ → Counted Loops = λ one. next (profiles.inner_curves file n ps one.1) (made one) in
    let found : Read (List Vector) = next (member_instance file.section n 4 p) (λ m. next (instance_of_kinds file.section curve_kinds m) (curve file)) in
    keeps (Adds all_edges count) (profiles.inner_curve file n p count) later (λ one e.
    keeps (Adds all_edges count) (profiles.inner_curves file n ps one.1) (made one) (λ more d.
    before_others count one more (IfOk-at_ok (Adds six_edges count) e (counted_adds found count)) (IfOk-at_ok (Adds all_edges one.1) d (inner_adds file n ps one.1))))

closed_adds : (file : File) (n count : ℕ) → IfOk (profiles.closed_profile file n count) (Adds all_edges count)
closed_adds file n count =
    let made : List Vector × ℕ → Counted Loops = λ outer. Ok (outer.0 ∷ [], outer.1) in
    keeps (Adds all_edges count) (counted_curve (named_curve file n 3) count) made (λ outer e.
    before_others count outer ([], outer.1) (IfOk-at_ok (Adds six_edges count) e (counted_adds (named_curve file n 3) count)) (no_more outer.1))

voided_adds : (file : File) (n count : ℕ) → IfOk (profiles.profile_with_voids file n count) (Adds all_edges count)
voided_adds file n count =
    let made : List Vector × ℕ → Loops × ℕ → Counted Loops = λ outer inner. Ok (outer.0 ∷ inner.0, inner.1) in
    let inner : List Vector × ℕ → List Param → Counted Loops = λ outer ps. next (profiles.inner_curves file n ps outer.1) (made outer) in
    let listed : List Vector × ℕ → Counted Loops = λ outer. next (members file.section n 4) (inner outer) in
    keeps (Adds all_edges count) (counted_curve (named_curve file n 3) count) listed (λ outer e.
    keeps (Adds all_edges count) (members file.section n 4) (inner outer) (λ ps _.
    keeps (Adds all_edges count) (profiles.inner_curves file n ps outer.1) (made outer) (λ more d.
    before_others count outer more (IfOk-at_ok (Adds six_edges count) e (counted_adds (named_curve file n 3) count)) (IfOk-at_ok (Adds all_edges outer.1) d (inner_adds file n ps outer.1)))))

loops_reach : (count : ℕ) (loops : Loops) → IfOk (profiles.count_loops count loops) (Reaches count (all_edges loops))
loops_reach count [] = no_more count
loops_reach count (l ∷ ls) =
    let later : ℕ → Read ℕ = λ more. profiles.count_loops more ls in
    keeps (Reaches count (all_edges (l ∷ ls))) (count_loop count l) later (λ more e.
    rest more (IfOk-at_ok (Reaches count (six_edges l)) e (count_reaches count (six_edges l))) (profiles.count_loops more ls) (loops_reach more ls))
  where
    rest : (more : ℕ) → Reaches count (six_edges l) more → (r : Read ℕ) → IfOk r (Reaches more (all_edges ls)) → IfOk r (Reaches count (all_edges (l ∷ ls)))
    rest more h (Ok last) k = as_many count (six_edges l + all_edges ls) (all_edges (l ∷ ls)) last (sym (one_loop l ls)) (then_more count (six_edges l) more (all_edges ls) last h k)
    rest more h (Err refusal) k = tt

placed_edges : (position : Option PlaneAxes) (loops : Loops) → all_edges loops ≡ all_edges (placed_by position loops)
placed_edges None loops = refl
placed_edges (Some a) loops = ap (λ n. 6 * n) (sym (moved_count (λ p. plane_point a.at a.ref p.x p.y) loops))

loops_add : (count : ℕ) (position : Option PlaneAxes) (loops : Loops) → IfOk (profile_loops count position loops) (Adds all_edges count)
loops_add count position loops =
    let made : ℕ → Counted Loops = λ more. Ok (placed_by position loops, more) in
    keeps (Adds all_edges count) (profiles.count_loops count loops) made (λ more e.
    as_many count (all_edges loops) (all_edges (placed_by position loops)) more (placed_edges position loops) (IfOk-at_ok (Reaches count (all_edges loops)) e (loops_reach count loops)))

rectangle_adds : (file : File) (n count : ℕ) → IfOk (profiles.rectangle_profile file n count) (Adds all_edges count)
rectangle_adds file n count =
    let made : Option PlaneAxes → ℤ → ℤ → Counted Loops = λ position x y. profile_loops count position (rectangle x y) in
    let deep : Option PlaneAxes → ℤ → Counted Loops = λ position x. next (positive file n 5) (made position x) in
    let wide : Option PlaneAxes → Counted Loops = λ position. next (positive file n 4) (deep position) in
    keeps (Adds all_edges count) (if_plane_axes file n 3) wide (λ position _.
    keeps (Adds all_edges count) (positive file n 4) (deep position) (λ x _.
    keeps (Adds all_edges count) (positive file n 5) (made position x) (λ y _. loops_add count position (rectangle x y))))

hollow_adds : (file : File) (n count : ℕ) → IfOk (profiles.hollow_profile file n count) (Adds all_edges count)
hollow_adds file n count =
    let made : Option PlaneAxes → ℤ → ℤ → ℤ → Unit {0} → Counted Loops = λ position x y wall _. profile_loops count position (hollow x y wall) in
    let inner : Option PlaneAxes → ℤ → ℤ → ℤ → Unit {0} → Counted Loops = λ position x y wall _. next (zero file.section n 8) (made position x y wall) in
    let walled : Option PlaneAxes → ℤ → ℤ → ℤ → Counted Loops = λ position x y wall. next (zero file.section n 7) (inner position x y wall) in
    let both : Option PlaneAxes → ℤ → ℤ → Counted Loops = λ position x y. next (wall_thickness file n x y) (walled position x y) in
    let deep : Option PlaneAxes → ℤ → Counted Loops = λ position x. next (positive file n 5) (both position x) in
    let wide : Option PlaneAxes → Counted Loops = λ position. next (positive file n 4) (deep position) in
    keeps (Adds all_edges count) (if_plane_axes file n 3) wide (λ position _.
    keeps (Adds all_edges count) (positive file n 4) (deep position) (λ x _.
    keeps (Adds all_edges count) (positive file n 5) (both position x) (λ y _.
    keeps (Adds all_edges count) (wall_thickness file n x y) (walled position x y) (λ wall _.
    keeps (Adds all_edges count) (zero file.section n 7) (inner position x y wall) (λ u _.
    keeps (Adds all_edges count) (zero file.section n 8) (made position x y wall) (λ v _. loops_add count position (hollow x y wall)))))))

i_adds : (file : File) (n count : ℕ) → IfOk (profiles.i_shape_profile file n count) (Adds all_edges count)
i_adds file n count =
    let made : Option PlaneAxes → ℤ → ℤ → ℤ → ℤ → Unit {0} → Counted Loops = λ position x y web flange _. profile_loops count position (i_shape x y web flange) in
    let third : Option PlaneAxes → ℤ → ℤ → ℤ → ℤ → Unit {0} → Counted Loops = λ position x y web flange _. next (zero file.section n 10) (made position x y web flange) in
    let second : Option PlaneAxes → ℤ → ℤ → ℤ → ℤ → Unit {0} → Counted Loops = λ position x y web flange _. next (zero file.section n 9) (third position x y web flange) in
    let first : Option PlaneAxes → ℤ → ℤ → ℤ → ℤ → Counted Loops = λ position x y web flange. next (zero file.section n 8) (second position x y web flange) in
    let thick : Option PlaneAxes → ℤ → ℤ → ℤ → Counted Loops = λ position x y web. next (positive_below file n 7 (pos 2) y) (first position x y web) in
    let both : Option PlaneAxes → ℤ → ℤ → Counted Loops = λ position x y. next (positive_below file n 6 (pos 1) x) (thick position x y) in
    let deep : Option PlaneAxes → ℤ → Counted Loops = λ position x. next (positive file n 5) (both position x) in
    let wide : Option PlaneAxes → Counted Loops = λ position. next (positive file n 4) (deep position) in
    keeps (Adds all_edges count) (if_plane_axes file n 3) wide (λ position _.
    keeps (Adds all_edges count) (positive file n 4) (deep position) (λ x _.
    keeps (Adds all_edges count) (positive file n 5) (both position x) (λ y _.
    keeps (Adds all_edges count) (positive_below file n 6 (pos 1) x) (thick position x y) (λ web _.
    keeps (Adds all_edges count) (positive_below file n 7 (pos 2) y) (first position x y web) (λ flange _.
    keeps (Adds all_edges count) (zero file.section n 8) (second position x y web flange) (λ u _.
    keeps (Adds all_edges count) (zero file.section n 9) (third position x y web flange) (λ v _.
    keeps (Adds all_edges count) (zero file.section n 10) (made position x y web flange) (λ w _. loops_add count position (i_shape x y web flange)))))))))

profile_adds : (file : File) (n count : ℕ) → IfOk (profiles.profile file n count) (Adds all_edges count)
profile_adds file n count =
    let fourth : Counted Loops = if has_kind file.section n kind.RectangleHollowProfileDef then profiles.hollow_profile file n count else profiles.i_shape_profile file n count in
    let third : Counted Loops = if has_kind file.section n kind.RectangleProfileDef then profiles.rectangle_profile file n count else fourth in
    let second : Counted Loops = if has_kind file.section n kind.ArbitraryProfileDefWithVoids then profiles.profile_with_voids file n count else third in
    either (Adds all_edges count) (has_kind file.section n kind.ArbitraryClosedProfileDef) (profiles.closed_profile file n count) second (closed_adds file n count)
    (either (Adds all_edges count) (has_kind file.section n kind.ArbitraryProfileDefWithVoids) (profiles.profile_with_voids file n count) third (voided_adds file n count)
    (either (Adds all_edges count) (has_kind file.section n kind.RectangleProfileDef) (profiles.rectangle_profile file n count) fourth (rectangle_adds file n count)
    (either (Adds all_edges count) (has_kind file.section n kind.RectangleHollowProfileDef) (profiles.hollow_profile file n count) (profiles.i_shape_profile file n count) (hollow_adds file n count) (i_adds file n count))))

pub named_profile_adds : (file : File) (at position count : ℕ) → IfOk (named_profile file at position count) (Adds all_edges count)
named_profile_adds file at position count =
    keeps (Adds all_edges count) (named_instance file.section profile_kinds at position) (λ n. profiles.profile file n count) (λ n _. profile_adds file n count)
