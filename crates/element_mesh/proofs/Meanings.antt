-- What the tree of an element says at the neighbours of a point that is alone on a plane of the element.
use Rattle.std.proofs.Common.{◌≡◌, ◌≢◌, ◌⊎◌, inl, inr, ℕ, zero, suc, Bool, true, false, true≢false, not, ◌&&◌, List, [], ◌∷◌, Option, Some, map, slice_get, ℤ, pos, negsuc, ◌<ℤ◌, refl, sym, ap, ◌∙◌, subst, arith}
use Rattle.std.specs.List.{flat_map}
use Rattle.std.specs.Ordering.{int_eq}
use Rattle.std.proofs.lemmas.Bool.Decides.{Decides-int_eq}
use Rattle.std.proofs.lemmas.Int.{ints}
use Rattle.std.proofs.lemmas.List.Elements.{Contains-append_left}
use Rattle.spec_space.specs.declared.Plane.{Plane}
use Rattle.spec_space.specs.declared.Point.{Point}
use Rattle.spec_space.specs.Points.{IsPoint, value}
use Rattle.spec_solid.specs.Solids.{is_inside_some, is_meant}
use Rattle.spec_solid.specs.Planes.{solid_planes, IsPlaneOf, IsAlone}
use Rattle.integer_laws.proofs.Cancel.{sign_cases}
use Rattle.plane_core.specs.declared.numbers.Plane.{Plane as BookPlane}
use Rattle.plane_core.specs.Views.{plane_of}
use Rattle.grid_solid.specs.Bodies.{body_of}
use Rattle.grid_solid.specs.Views.{solid_of}
use Rattle.grid_solid.specs.declared.solids.GridSolid.{GridSolid}
use Rattle.line_turns.proofs.Neighbours.{neighbour, neighbour_near, neighbour-IsPoint}
use Rattle.tree_pool.specs.Trees.{Tree, leaf, node, value_of, level_by, choose}
use Rattle.tree_pool.specs.Trees.{IsPlaneOf as HasPlane}
use Rattle.solid_tree.specs.Elements.{IsElementTree, IsOut}
use Rattle.solid_tree.proofs.Far.{far_items}
use Rattle.face_walk.specs.Faces.{IsInRange, is_true_at, told}
use Rattle.element_mesh.proofs.Beside.{off_given, off_planes, with_form, neighbour_off, neighbour_out, neighbour_inside}

-- ---- a plane of the book
same_plane : (h k : Plane) → h.a ≡ k.a → h.b ≡ k.b → h.c ≡ k.c → h.d ≡ k.d → h ≡ k
same_plane h k p q r s = λ i. record { a = p i; b = q i; c = r i; d = s i }

number_cases : (x y : ℤ) → (x ≡ y) ⊎ (x ≢ y)
number_cases x y = by (int_eq x y) refl
  where
    by : (t : Bool) → int_eq x y ≡ t → (x ≡ y) ⊎ (x ≢ y)
    by true e = inl ((Decides-int_eq x y).0 e)
    by false e = inr (λ same. true≢false (sym ((Decides-int_eq x y).1 same) ∙ e))

plane_cases : (h k : Plane) → (h ≡ k) ⊎ (h ≢ k)
plane_cases h k = elim (number_cases h.a k.a) [
  | inr apart ↦ inr (λ e. apart (ap (λ l. l.a) e))
  | inl a ↦ elim (number_cases h.b k.b) [
    | inr apart ↦ inr (λ e. apart (ap (λ l. l.b) e))
    | inl b ↦ elim (number_cases h.c k.c) [
      | inr apart ↦ inr (λ e. apart (ap (λ l. l.c) e))
      | inl c ↦ elim (number_cases h.d k.d) [
        | inr apart ↦ inr (λ e. apart (ap (λ l. l.d) e))
        | inl d ↦ inl (same_plane h k a b c d)
      ]
    ]
  ]
]

-- the plane has a number in the book
abbrev pub IsNumbered : List BookPlane → Plane → Type 0
IsNumbered planes h = (k : ℕ) × (b : BookPlane) × (slice_get planes k ≡ Some b) × (plane_of b ≡ h)

pub numbered_cases : (planes : List BookPlane) (h : Plane) → IsNumbered planes h ⊎ (IsNumbered planes h → ⊥)
numbered_cases [] h = inr none
  where
    none : IsNumbered [] h → ⊥
    none (k, b, at, same) = cc
numbered_cases (c ∷ cs) h = elim (plane_cases (plane_of c) h) [
  | inl same ↦ inl (0, c, refl, same)
  | inr apart ↦ elim (numbered_cases cs h) [
    | inl later ↦ inl (next later)
    | inr none ↦ inr (nowhere apart none)
  ]
]
  where
    next : IsNumbered cs h → IsNumbered (c ∷ cs) h
    next (k, b, at, same) = (suc k, b, at, same)

    nowhere : plane_of c ≢ h → (IsNumbered cs h → ⊥) → IsNumbered (c ∷ cs) h → ⊥
    nowhere apart none (zero, b, at, same) = apart (ap plane_of (first c b at) ∙ same)
      where
        first : (c b : BookPlane) → Some c ≡ Some b → c ≡ b
        first c b e = cc
    nowhere apart none (suc k, b, at, same) = none (k, b, at, same)

-- ---- two points on the same sides of the planes of a tree
record AreBeside (b : BookPlane) (p q : Point) : Type 0 where
  off : value (plane_of b) p ≢ pos 0
  front : pos 0 <ℤ value (plane_of b) p → pos 0 <ℤ value (plane_of b) q
  behind : value (plane_of b) p <ℤ pos 0 → value (plane_of b) q <ℤ pos 0

chosen_front : {X : Type 0} (x : ℤ) (f g : Option X) → pos 0 <ℤ x → choose x f g ≡ f
chosen_front (pos zero) f g h = absurd (omega (arith, ints, h))
chosen_front (pos (suc n)) f g h = refl
chosen_front (negsuc n) f g h = absurd (omega (arith, ints, h))

chosen_behind : {X : Type 0} (x : ℤ) (f g : Option X) → x <ℤ pos 0 → choose x f g ≡ g
chosen_behind (pos n) f g h = absurd (omega (arith, ints, h))
chosen_behind (negsuc n) f g h = refl

chosen_same : {X : Type 0} (x y : ℤ) (f g h k : Option X) → x ≢ pos 0 → (pos 0 <ℤ x → pos 0 <ℤ y) → (x <ℤ pos 0 → y <ℤ pos 0) → f ≡ h → g ≡ k → choose x f g ≡ choose y h k
chosen_same x y f g h k off front behind e d = elim (sign_cases x) [
  | inl low ↦ chosen_behind x f g low ∙ d ∙ sym (chosen_behind y h k (behind low))
  | inr (inl on) ↦ absurd (off on)
  | inr (inr high) ↦ chosen_front x f g high ∙ e ∙ sym (chosen_front y h k (front high))
]

value_same : (planes : List BookPlane) (t : Tree) (p q : Point) → ((k : ℕ) → HasPlane k t → (b : BookPlane) × (slice_get planes k ≡ Some b) × AreBeside b p q) → value_of planes t p ≡ value_of planes t q
value_same planes (leaf b) p q beside = refl
value_same planes (node k f g) p q beside = by (beside k (inl refl))
    (value_same planes f p q (λ n is. beside n (inr (inl is)))) (value_same planes g p q (λ n is. beside n (inr (inr is))))
  where
    at_node : (o : Option BookPlane) (b : BookPlane) → o ≡ Some b → AreBeside b p q → value_of planes f p ≡ value_of planes f q → value_of planes g p ≡ value_of planes g q
        → choose (level_by o p) (value_of planes f p) (value_of planes g p) ≡ choose (level_by o q) (value_of planes f q) (value_of planes g q)
    at_node o b at s e d = subst (λ o. choose (level_by o p) (value_of planes f p) (value_of planes g p) ≡ choose (level_by o q) (value_of planes f q) (value_of planes g q)) (sym at)
        (chosen_same (value (plane_of b) p) (value (plane_of b) q) (value_of planes f p) (value_of planes g p) (value_of planes f q) (value_of planes g q) s.off s.front s.behind e d)

    by : ((b : BookPlane) × (slice_get planes k ≡ Some b) × AreBeside b p q) → value_of planes f p ≡ value_of planes f q → value_of planes g p ≡ value_of planes g q
        → value_of planes (node k f g) p ≡ value_of planes (node k f g) q
    by (b, at, s) e d = at_node (slice_get planes k) b at s e d

-- ---- the meaning at a neighbour
same_some : (a b : Bool) → Some a ≡ Some b → a ≡ b
same_some a b e = cc

-- what is not refuted of two truth values holds
settled : (a b : Bool) → ((a ≢ b) → ⊥) → a ≡ b
settled true true f = refl
settled true false f = absurd (f true≢false)
settled false true f = absurd (f (λ e. true≢false (sym e)))
settled false false f = refl

module _ (planes : List BookPlane) (s : GridSolid) (t : Tree) (means : IsElementTree planes (body_of s) t) (h : Plane) (p : Point) (point : IsPoint p) (alone : IsAlone (body_of s) h p) where
  abbrev pub meaning : Bool → Bool
  meaning a = is_meant (body_of s) (neighbour a h p)

  -- ---- by a reduced form of the plane
  module _ (b : BookPlane) (lone : IsAlone (body_of s) (plane_of b) p) where
    value_is : (a : Bool) → IsInRange p → value_of planes t (neighbour a (plane_of b) p) ≡ Some (is_meant (body_of s) (neighbour a (plane_of b) p))
    value_is a r = means.value (neighbour a (plane_of b) p) (neighbour-IsPoint a (plane_of b) p point) (neighbour_inside a b p point r)
        (off_planes s (neighbour a (plane_of b) p) (neighbour_off s a b p lone))

    -- far out nothing is meant
    far_meaning : (a : Bool) → IsOut p → is_meant (body_of s) (neighbour a (plane_of b) p) ≡ false
    far_meaning a out =
        let q = neighbour a (plane_of b) p in
        ap (λ x. x && not (is_inside_some (map solid_of s.openings) q))
        (far_items s.items q (neighbour-IsPoint a (plane_of b) p point) (neighbour_out a b p out) s.bounded
        (λ k c. off_given s q (neighbour_off s a b p lone) k (Contains-append_left (flat_map solid_planes (map solid_of s.items)) (flat_map solid_planes (map solid_of s.openings)) k c)))

    -- the tree does not change across a plane that has no number
    unchanged : (a : Bool) → (IsNumbered planes (plane_of b) → ⊥) → value_of planes t p ≡ value_of planes t (neighbour a (plane_of b) p)
    unchanged a none = value_same planes t p (neighbour a (plane_of b) p) (λ k has. by k (means.among k has))
      where
        by : (k : ℕ) → ((c : BookPlane) × (slice_get planes k ≡ Some c) × IsPlaneOf (body_of s) (plane_of c)) → (c : BookPlane) × (slice_get planes k ≡ Some c) × AreBeside c p (neighbour a (plane_of b) p)
        by k (c, at, is) = (
          c,
          at,
          record {
            off = λ on. none (k, c, at, lone.2 (plane_of c) is on);
            front = (neighbour_near a b c p).front;
            behind = (neighbour_near a b c p).behind;
          },
        )

    unnumbered : IsInRange p → (IsNumbered planes (plane_of b) → ⊥) → is_meant (body_of s) (neighbour true (plane_of b) p) ≡ is_meant (body_of s) (neighbour false (plane_of b) p)
    unnumbered r none = same_some (is_meant (body_of s) (neighbour true (plane_of b) p)) (is_meant (body_of s) (neighbour false (plane_of b) p))
        (sym (value_is true r) ∙ sym (unchanged true none) ∙ unchanged false none ∙ value_is false r)

  -- ---- by the plane
  -- the tree tells the meaning at the neighbours of a point in range
  pub told_meaning : (a : Bool) → IsInRange p → is_true_at planes t (neighbour a h p) ≡ meaning a
  told_meaning a r = settled (is_true_at planes t (neighbour a h p)) (meaning a) (λ apart. with_form s h p alone (λ b same. apart (
      subst (λ k. IsAlone (body_of s) k p → is_true_at planes t (neighbour a k p) ≡ is_meant (body_of s) (neighbour a k p)) same
      (λ lone. ap told (value_is b lone a r)) alone)))

  -- no meaning differs far out
  pub far_same : IsOut p → meaning true ≡ meaning false
  far_same out = settled (meaning true) (meaning false) (λ apart. with_form s h p alone (λ b same. apart (
      subst (λ k. IsAlone (body_of s) k p → is_meant (body_of s) (neighbour true k p) ≡ is_meant (body_of s) (neighbour false k p)) same
      (λ lone. far_meaning b lone true out ∙ sym (far_meaning b lone false out)) alone)))

  -- nor across a plane without a number
  pub unnumbered_same : IsInRange p → (IsNumbered planes h → ⊥) → meaning true ≡ meaning false
  unnumbered_same r none = settled (meaning true) (meaning false) (λ apart. with_form s h p alone (λ b same. apart (
      subst (λ k. (IsNumbered planes k → ⊥) → IsAlone (body_of s) k p → is_meant (body_of s) (neighbour true k p) ≡ is_meant (body_of s) (neighbour false k p)) same
      (λ none lone. unnumbered b lone r none) none alone)))
