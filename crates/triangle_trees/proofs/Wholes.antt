-- Trees of faces and primitives.
use Rattle.std.proofs.Common.{◌≡◌, ◌≢◌, ◌⊎◌, ℕ, zero, suc, ◌*◌, length, ◌<◌, ℤ, pos, negsuc, ◌*ℤ◌, ◌<ℤ◌, int_lt, Bool, true, false, not, List, [], ◌∷◌, ◌++◌, map, slice_get, Some, refl, sym, ap, subst, ◌∙◌, inl, inr, arith}
use Rattle.std.specs.Prelude.{if◌then◌else◌}
use Rattle.std.specs.List.{Contains, flat_map}
use Rattle.std.proofs.lemmas.Int.{ints}
use Rattle.spec_space.specs.declared.Point.{Point}
use Rattle.spec_space.specs.declared.Plane.{Plane}
use Rattle.spec_space.specs.Points.{IsPoint, value}
use Rattle.spec_solid.specs.Triangles.{Triangle, differ}
use Rattle.spec_solid.specs.Planes.{triangle_planes, solid_planes}
use Rattle.spec_solid.specs.Solids.{Shell, HalfSpace, is_inside}
use Rattle.ray_law.specs.Shells.{is_covered, is_covered_oddly}
use Rattle.ray_law.proofs.Shells.{inside_is_covered}
use Rattle.plane_core.specs.declared.numbers.Plane.{Plane as BookPlane}
use Rattle.plane_core.specs.Views.{plane_of}
use Rattle.tree_pool.specs.Trees.{Tree, leaf, level_by, value_of, IsPlaneOf, IsTreeOver}
use Rattle.grid_solid.specs.Triangles.{triangle_of}
use Rattle.grid_solid.specs.Shapes.{shape_solid}
use Rattle.grid_solid.specs.Views.{solid_of}
use Rattle.grid_solid.proofs.Folds.{shape-Shell}
use Rattle.grid_solid.specs.declared.triangles.GridTriangle.{GridTriangle}
use Rattle.grid_solid.specs.declared.nodes.GridNode.{GridNode}
use Rattle.grid_solid.specs.declared.nodes.GridNode.TheVariants as nodes
use Rattle.grid_solid.specs.declared.shells.GridShell.{GridShell}
use Rattle.grid_solid.specs.Counts.{plane_count}
use Rattle.plane_cells.specs.declared.steps.Step.{Step}
use Rattle.parity_trees.specs.declared.regions.Region.{Region}
use Rattle.parity_trees.specs.Regions.{all_sides, IsOffSides, IsParityOf}
use Rattle.triangle_trees.specs.Forms.{HasFormOf, IsOffAll, AreRegionsBelow, IsTreeOf}
use Rattle.triangle_trees.proofs.Covers.{off_form}
use Rattle.triangle_trees.proofs.Below.{differ_false}

pub off_level : (planes : List BookPlane) (ks : List Plane) (n : ℕ) (q : Point) → HasFormOf planes ks n → IsOffAll ks q → level_by (slice_get planes n) q ≢ pos 0
off_level planes ks n q f off z = off_form f.1 f.0 q f.4 (off f.1 f.3) (sym (ap (λ o. level_by o q) f.2) ∙ z)

-- ---- faces
pub face_is : (planes : List BookPlane) (ts : List Triangle) (rs : List Region) (t : Tree) → AreRegionsBelow planes ts rs → IsParityOf planes rs t → IsTreeOf planes (flat_map triangle_planes ts) (is_covered_oddly ts) t
face_is planes ts rs t are parity = record {
  value = λ q point cube off. parity.value q point cube (λ s c. off_level planes (flat_map triangle_planes ts) s.plane.k q (are.forms s c) off) ∙ ap Some (are.covers q off);
  among = λ n is. let m = parity.among n is in subst (HasFormOf planes (flat_map triangle_planes ts)) m.2 (are.forms m.0 m.1);
}

none_after : {A : Type 0} (xs : List A) → xs ++ [] ≡ xs
none_after [] = refl
none_after (x ∷ xs) = ap (λ ys. x ∷ ys) (none_after xs)

pub triangle_is : (planes : List BookPlane) (t : Triangle) (tree : Tree) → IsTreeOf planes (flat_map triangle_planes (t ∷ [])) (is_covered_oddly (t ∷ [])) tree → IsTreeOf planes (triangle_planes t) (is_covered t) tree
triangle_is planes t tree is =
    subst (λ ks. IsTreeOf planes ks (is_covered t) tree) (none_after (triangle_planes t)) (record {
      value = λ q point cube off. is.value q point cube off ∙ ap Some (differ_false (is_covered t q));
      among = is.among;
    })

-- ---- shells
pub shell_is : (planes : List BookPlane) (shell : GridShell) (tree : Tree) → IsTreeOf planes (flat_map triangle_planes (map triangle_of shell.triangles)) (is_covered_oddly (map triangle_of shell.triangles)) tree
    → IsTreeOf planes (solid_planes (Shell (map triangle_of shell.triangles))) (is_inside (Shell (map triangle_of shell.triangles))) tree
shell_is planes shell tree is = record {
  value = λ q point cube off. is.value q point cube off ∙ ap Some (sym (inside_is_covered (map triangle_of shell.triangles) q point shell.closed off));
  among = is.among;
}

-- ---- half-spaces
above_flag : (v : ℤ) (b : Bool) → int_lt (pos 0) v ≡ b → pos 0 <ℤ v → b ≡ true
above_flag v true e h = refl
above_flag v false e h = absurd (omega (arith, ints))

not_above_flag : (v : ℤ) (b : Bool) → int_lt (pos 0) v ≡ b → v <ℤ pos 0 → b ≡ false
not_above_flag v true e h = absurd (omega (arith, ints))
not_above_flag v false e h = refl

below_flag : (v : ℤ) (b : Bool) → int_lt v (pos 0) ≡ b → v <ℤ pos 0 → b ≡ true
below_flag v true e h = refl
below_flag v false e h = absurd (omega (arith, ints))

not_below_flag : (v : ℤ) (b : Bool) → int_lt v (pos 0) ≡ b → pos 0 <ℤ v → b ≡ false
not_below_flag v true e h = absurd (omega (arith, ints))
not_below_flag v false e h = refl

signs : (v : ℤ) → v ≢ pos 0 → (pos 0 <ℤ v) ⊎ (v <ℤ pos 0)
signs (pos zero) off = absurd (off refl)
signs (pos (suc n)) off = inl (omega (arith, ints))
signs (negsuc n) off = inr (omega (arith, ints))

front_value : (h : Plane) (f : Bool) (q : Point) → pos 0 <ℤ value h q → is_inside (HalfSpace h f) q ≡ f
front_value h true q p = above_flag (value h q) (int_lt (pos 0) (value h q)) refl p
front_value h false q p = not_below_flag (value h q) (int_lt (value h q) (pos 0)) refl p

back_value : (h : Plane) (f : Bool) (q : Point) → value h q <ℤ pos 0 → is_inside (HalfSpace h f) q ≡ not f
back_value h true q p = not_above_flag (value h q) (int_lt (pos 0) (value h q)) refl p
back_value h false q p = below_flag (value h q) (int_lt (value h q) (pos 0)) refl p

module _ (planes : List BookPlane) (p : BookPlane) (f : Bool) (n : ℕ) (number : slice_get planes n ≡ Some p) where
  abbrev level_here : (q : Point) → level_by (slice_get planes n) q ≡ value (plane_of p) q
  level_here q = ap (λ o. level_by o q) number

  pub half_space_is : (t : Tree) → IsTreeOver n (leaf f) (leaf (not f)) t → IsTreeOf planes (plane_of p ∷ []) (is_inside (HalfSpace (plane_of p) f)) t
  half_space_is t over = record {
    value = λ q point cube off. elim (signs (value (plane_of p) q) (off (plane_of p) (0, omega arith, refl))) [
      | inl h ↦ over.in_front planes q (subst (λ v. pos 0 <ℤ v) (sym (level_here q)) h) ∙ ap Some (sym (front_value (plane_of p) f q h))
      | inr h ↦ over.behind planes q (subst (λ v. v <ℤ pos 0) (sym (level_here q)) h) ∙ ap Some (sym (back_value (plane_of p) f q h))
    ];
    among = λ m is. by m (over.planes m is);
  }
    where
      once : (a : ℤ) → a ≡ pos 1 *ℤ a
      once a = omega (arith, ints)

      by : (m : ℕ) → (m ≡ n) ⊎ (⊥ ⊎ ⊥) → HasFormOf planes (plane_of p ∷ []) m
      by m (inl e) = (p, plane_of p, ap (slice_get planes) e ∙ number, (0, omega arith, refl), record { factor = pos 1; some = λ z. omega (arith, ints); times = (once p.a, once p.b, once p.c, once p.d) })
      by m (inr (inl i)) = absurd i
      by m (inr (inr i)) = absurd i

-- ---- nodes that are shells
pub node_shell : (node : GridNode) (shell : GridShell) → node ≡ nodes.Shell shell → solid_of node ≡ Shell (map triangle_of shell.triangles)
node_shell node shell e = ap solid_of e ∙ ap shape_solid (shape-Shell shell)

same_length : (xs : List GridTriangle) → length (map triangle_of xs) ≡ length xs
same_length [] = refl
same_length (x ∷ xs) = ap suc (same_length xs)

pub node_count : (node : GridNode) (shell : GridShell) (xs : List GridTriangle) → node ≡ nodes.Shell shell → xs ≡ shell.triangles → plane_count (solid_of node) ≡ 4 * length xs
node_count node shell xs e f = ap plane_count (node_shell node shell e) ∙ ap (λ n. 4 * n) (same_length shell.triangles ∙ sym (ap length f))

pub node_is : (planes : List BookPlane) (node : GridNode) (shell : GridShell) (xs : List GridTriangle) (tree : Tree) → node ≡ nodes.Shell shell → xs ≡ shell.triangles
    → IsTreeOf planes (flat_map triangle_planes (map triangle_of xs)) (is_covered_oddly (map triangle_of xs)) tree → IsTreeOf planes (solid_planes (solid_of node)) (is_inside (solid_of node)) tree
node_is planes node shell xs tree e f is =
    subst (λ s. IsTreeOf planes (solid_planes s) (is_inside s) tree) (sym (node_shell node shell e))
    (shell_is planes shell tree (subst (λ ts. IsTreeOf planes (flat_map triangle_planes (map triangle_of ts)) (is_covered_oddly (map triangle_of ts)) tree) f is))
