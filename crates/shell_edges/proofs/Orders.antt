-- The order of places and of edges is total, and tells all of them apart.
use Rattle.std.proofs.Common.{◌≡◌, ◌⊎◌, inl, inr, ℤ, int_lt, Bool, true, false, cond, ◌&&◌, ◌||◌, refl, sym, ap, ◌∙◌}
use Rattle.std.specs.Cmp.{IsTotalOrder}
use Rattle.std.specs.Ordering.{int_cmp, int_eq, ordering_then, ordering_reverse, is_lt, is_eq}
use Rattle.std.specs.declared.cmp.Ordering.{Ordering}
use Rattle.std.specs.declared.cmp.Ordering.TheVariants.{Less, Equal, Greater}
use Rattle.std.proofs.lemmas.Bool.Decides.{Decides-int_eq}
use Rattle.std.proofs.lemmas.Cmp.{int_cmp_total, on_total, then_total, tied_itself}
use Rattle.spec_space.specs.declared.Vector.{Vector}
use Rattle.spec_shell.specs.Edges.{Edge, is_same_place, is_before, is_edge_before}
use Rattle.shell_edges.specs.Odd.{vector_cmp, edge_cmp}

pub vectors_total : IsTotalOrder vector_cmp
vectors_total =
    then_total (on_total (λ (v : Vector). v.x) int_cmp_total) (then_total (on_total (λ (v : Vector). v.y) int_cmp_total) (on_total (λ (v : Vector). v.z) int_cmp_total))

pub edges_total : IsTotalOrder edge_cmp
edges_total = then_total (on_total (λ (e : Edge). e.0) vectors_total) (on_total (λ (e : Edge). e.1) vectors_total)

-- ---- equal in the order
then_equal : (o p : Ordering) → ordering_then o p ≡ Equal → (o ≡ Equal) × (p ≡ Equal)
then_equal Less p e = cc
then_equal Equal p e = (refl, e)
then_equal Greater p e = cc

same_number : (a b : ℤ) → int_cmp a b ≡ Equal → a ≡ b
same_number a b e = (Decides-int_eq a b).0 (ap is_eq e)

pub same_vector : (u v : Vector) → vector_cmp u v ≡ Equal → u ≡ v
same_vector u v e =
    let first = then_equal (int_cmp u.x v.x) (ordering_then (int_cmp u.y v.y) (int_cmp u.z v.z)) e in
    let rest = then_equal (int_cmp u.y v.y) (int_cmp u.z v.z) first.1 in
    let x = same_number u.x v.x first.0 in
    let y = same_number u.y v.y rest.0 in
    let z = same_number u.z v.z rest.1 in
    λ i. record { x = x i; y = y i; z = z i }

pub same_edge : (e f : Edge) → edge_cmp e f ≡ Equal → e ≡ f
same_edge e f h =
    let both = then_equal (vector_cmp e.0 f.0) (vector_cmp e.1 f.1) h in
    let first = same_vector e.0 f.0 both.0 in
    let second = same_vector e.1 f.1 both.1 in
    λ i. (first i, second i)

-- ---- the tests by the order
lower : (s t : Bool) → is_lt (cond s Less (cond t Greater Equal)) ≡ s
lower true t = refl
lower false true = refl
lower false false = refl

is_lt-then : (o p : Ordering) → is_lt (ordering_then o p) ≡ (is_lt o || (is_eq o && is_lt p))
is_lt-then Less p = refl
is_lt-then Equal p = refl
is_lt-then Greater p = refl

is_eq-then : (o p : Ordering) → is_eq (ordering_then o p) ≡ (is_eq o && is_eq p)
is_eq-then Less p = refl
is_eq-then Equal p = refl
is_eq-then Greater p = refl

lower_number : (a b : ℤ) → int_lt a b ≡ is_lt (int_cmp a b)
lower_number a b = sym (lower (int_lt a b) (int_lt b a))

pub before_by_order : (u v : Vector) → is_before u v ≡ is_lt (vector_cmp u v)
before_by_order u v =
    (λ i. lower_number u.x v.x i || (int_eq u.x v.x && (lower_number u.y v.y i || (int_eq u.y v.y && lower_number u.z v.z i))))
    ∙ ap (λ b. is_lt (int_cmp u.x v.x) || (int_eq u.x v.x && b)) (sym (is_lt-then (int_cmp u.y v.y) (int_cmp u.z v.z)))
    ∙ sym (is_lt-then (int_cmp u.x v.x) (ordering_then (int_cmp u.y v.y) (int_cmp u.z v.z)))

pub same_by_order : (u v : Vector) → is_same_place u v ≡ is_eq (vector_cmp u v)
same_by_order u v =
    ap (λ b. int_eq u.x v.x && b) (sym (is_eq-then (int_cmp u.y v.y) (int_cmp u.z v.z)))
    ∙ sym (is_eq-then (int_cmp u.x v.x) (ordering_then (int_cmp u.y v.y) (int_cmp u.z v.z)))

pub edge_before_by_order : (e f : Edge) → is_edge_before e f ≡ is_lt (edge_cmp e f)
edge_before_by_order e f =
    (λ i. before_by_order e.0 f.0 i || (same_by_order e.0 f.0 i && before_by_order e.1 f.1 i))
    ∙ sym (is_lt-then (vector_cmp e.0 f.0) (vector_cmp e.1 f.1))

-- ---- places
pub before : (u v : Vector) (o : Ordering) → vector_cmp u v ≡ o → is_before u v ≡ is_lt o
before u v o e = before_by_order u v ∙ ap is_lt e

same : (u v : Vector) (o : Ordering) → vector_cmp u v ≡ o → is_same_place u v ≡ is_eq o
same u v o e = same_by_order u v ∙ ap is_eq e

pub turned : (u v : Vector) (o : Ordering) → vector_cmp u v ≡ o → vector_cmp v u ≡ ordering_reverse o
turned u v o e = vectors_total.antisymm v u ∙ ap ordering_reverse e

pub is_itself : (u : Vector) → is_same_place u u ≡ true
is_itself u = same u u Equal (tied_itself vectors_total u)

equal_order : (o : Ordering) → is_eq o ≡ true → o ≡ Equal
equal_order Less e = cc
equal_order Equal e = refl
equal_order Greater e = cc

less_order : (o : Ordering) → is_lt o ≡ true → o ≡ Less
less_order Less e = refl
less_order Equal e = cc
less_order Greater e = cc

pub is_same : (u v : Vector) → is_same_place u v ≡ true → u ≡ v
is_same u v e = same_vector u v (equal_order (vector_cmp u v) (sym (same_by_order u v) ∙ e))

pub order_before : (u v : Vector) → is_before u v ≡ true → vector_cmp u v ≡ Less
order_before u v e = less_order (vector_cmp u v) (sym (before_by_order u v) ∙ e)

pub not_after : (u v : Vector) → is_before u v ≡ true → is_before v u ≡ false
not_after u v e = before v u Greater (turned u v Less (order_before u v e))

pub not_same : (u v : Vector) → is_before u v ≡ true → is_same_place u v ≡ false
not_same u v e = same u v Less (order_before u v e)

pub not_same_back : (u v : Vector) → is_before u v ≡ true → is_same_place v u ≡ false
not_same_back u v e = same v u Greater (turned u v Less (order_before u v e))

pub not_before_itself : (u : Vector) → is_before u u ≡ false
not_before_itself u = before u u Equal (tied_itself vectors_total u)

-- of two places that are not the same, one comes before the other
pub one_before : (u v : Vector) → is_same_place u v ≡ false → (is_before u v ≡ true) ⊎ ((is_before v u ≡ true) × (is_before u v ≡ false))
one_before u v h = by (vector_cmp u v) refl
  where
    by : (o : Ordering) → vector_cmp u v ≡ o → (is_before u v ≡ true) ⊎ ((is_before v u ≡ true) × (is_before u v ≡ false))
    by Less e = inl (before u v Less e)
    by Equal e = absurd (no (sym (same u v Equal e) ∙ h))
      where
        no : true ≡ false → ⊥
        no e = cc
    by Greater e = inr (before v u Less (turned u v Greater e), before u v Greater e)

-- edges of which neither comes before the other
pub neither_before : (e f : Edge) → is_edge_before e f ≡ false → is_edge_before f e ≡ false → e ≡ f
neither_before e f h k = by (edge_cmp e f) refl
  where
    no : (s : Bool) → s ≡ true → s ≡ false → ⊥
    no true a b = cc
    no false a b = cc

    by : (o : Ordering) → edge_cmp e f ≡ o → e ≡ f
    by Less g = absurd (no (is_edge_before e f) (edge_before_by_order e f ∙ ap is_lt g) h)
    by Equal g = same_edge e f g
    by Greater g = absurd (no (is_edge_before f e) (edge_before_by_order f e ∙ ap is_lt (edges_total.antisymm f e ∙ ap ordering_reverse g)) k)
