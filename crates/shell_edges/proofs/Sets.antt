-- An edge comes to a set of edges, or is taken from it.
use Rattle.std.proofs.Common.{◌≡◌, inl, inr, ◌<◌, Bool, true, false, cond, ◌&&◌, ◌||◌, List, [], ◌∷◌, length, refl, sym, ap, subst, ◌∙◌, arith}
use Rattle.std.specs.List.{list_any}
use Rattle.std.specs.Ordering.{is_eq, is_lt, is_gt, ordering_reverse}
use Rattle.std.specs.BTreeSet.{BTreeSet, contains}
use Rattle.std.specs.declared.cmp.Ordering.{Ordering}
use Rattle.std.specs.declared.cmp.Ordering.TheVariants.{Less, Equal, Greater}
use Rattle.spec_space.specs.declared.Vector.{Vector}
use Rattle.spec_solid.specs.Triangles.{differ}
use Rattle.spec_shell.specs.Edges.{Edge, is_before, is_edge_before, is_same_place, joins}
use Rattle.shell_edges.specs.declared.place.Place.{Place}
use Rattle.shell_edges.specs.Odd.{vector_cmp, edge_cmp, joint_cmp, edge_of, vector_of}
use Rattle.shell_edges.proofs.Orders.{vectors_total, edges_total, same_edge, edge_before_by_order, before, not_after, same_vector}
use Rattle.shell_edges.proofs.Odds.{back, both_true, is_joining, joins_own}
use Rattle.std.proofs.lemmas.Cmp.{tied_itself}

equal_order : (o : Ordering) → is_eq o ≡ true → o ≡ Equal
equal_order Less e = cc
equal_order Equal e = refl
equal_order Greater e = cc

-- keys with equal edges are found alike
found_alike : (j k : Place × Place) → edge_of j ≡ edge_of k → (ks : List (Place × Place)) → list_any (λ q. is_eq (joint_cmp j q)) ks ≡ list_any (λ q. is_eq (joint_cmp k q)) ks
found_alike j k e ks = ap (λ f. list_any (λ (q : Place × Place). is_eq (edge_cmp f (edge_of q))) ks) e

-- what an edge does that was there, and was taken away
pub taken : (j k : Place × Place) (old new : BTreeSet (Place × Place)) → true ≡ contains joint_cmp old j → contains joint_cmp new k ≡ cond (is_eq (joint_cmp j k)) false (contains joint_cmp old k)
    → contains joint_cmp new k ≡ differ (is_eq (joint_cmp j k)) (contains joint_cmp old k)
taken j k old new there e = e ∙ by (is_eq (joint_cmp j k)) refl
  where
    by : (s : Bool) → is_eq (joint_cmp j k) ≡ s → cond s false (contains joint_cmp old k) ≡ differ s (contains joint_cmp old k)
    by true h = ap (differ true) (there ∙ found_alike j k (same_edge (edge_of j) (edge_of k) (equal_order (joint_cmp j k) h)) old.keys)
    by false h = refl

-- what an edge does that was not there, and came
pub come : (j k : Place × Place) (old mid new : BTreeSet (Place × Place)) → false ≡ contains joint_cmp old j → contains joint_cmp mid k ≡ contains joint_cmp old k → contains joint_cmp new k ≡ cond (is_eq (joint_cmp j k)) true (contains joint_cmp mid k)
    → contains joint_cmp new k ≡ differ (is_eq (joint_cmp j k)) (contains joint_cmp old k)
come j k old mid new absent same e = e ∙ ap (cond (is_eq (joint_cmp j k)) true) same ∙ by (is_eq (joint_cmp j k)) refl
  where
    by : (s : Bool) → is_eq (joint_cmp j k) ≡ s → cond s true (contains joint_cmp old k) ≡ differ s (contains joint_cmp old k)
    by true h = ap (differ true) (absent ∙ found_alike j k (same_edge (edge_of j) (edge_of k) (equal_order (joint_cmp j k) h)) old.keys)
    by false h = refl

-- ---- the edge of a set that an edge of a loop is
same_truth : (s t : Bool) → (s ≡ true → t ≡ true) → (t ≡ true → s ≡ true) → s ≡ t
same_truth true t f g = sym (f refl)
same_truth false true f g = g refl
same_truth false false f g = refl

no : (s : Bool) → s ≡ true → s ≡ false → ⊥
no true a b = cc
no false a b = cc

-- a rising edge e, and any edge k
rising_meets : (e k : Edge) → is_before e.0 e.1 ≡ true → is_eq (edge_cmp e k) ≡ (is_before k.0 k.1 && joins k.0 k.1 e)
rising_meets e k first = same_truth (is_eq (edge_cmp e k)) (is_before k.0 k.1 && joins k.0 k.1 e) one two
  where
    one : is_eq (edge_cmp e k) ≡ true → (is_before k.0 k.1 && joins k.0 k.1 e) ≡ true
    one h = subst (λ (x : Edge). (is_before x.0 x.1 && joins x.0 x.1 e) ≡ true) (same_edge e k (equal_order (edge_cmp e k) h)) (λ i. first i && joins_own e i)

    two : (is_before k.0 k.1 && joins k.0 k.1 e) ≡ true → is_eq (edge_cmp e k) ≡ true
    two h =
        let both = both_true (is_before k.0 k.1) (joins k.0 k.1 e) h in
        elim (is_joining k e both.1) [
          | inl same ↦ subst (λ (x : Edge). is_eq (edge_cmp e x) ≡ true) same (ap is_eq (tied_itself edges_total e))
          | inr turned ↦ absurd (no (is_before e.0 e.1) first (subst (λ (x : Edge). is_before x.0 x.1 ≡ false) (sym turned) (not_after k.0 k.1 both.0)))
        ]

joins_turned_edge : (u v : Vector) (e : Edge) → joins u v (back e) ≡ joins u v e
joins_turned_edge u v e = by (is_same_place e.1 u) (is_same_place e.0 v) (is_same_place e.1 v) (is_same_place e.0 u)
  where
    by : (a b c d : Bool) → ((a && b) || (c && d)) ≡ ((d && c) || (b && a))
    by true true true true = refl
    by true true true false = refl
    by true true false true = refl
    by true true false false = refl
    by true false true true = refl
    by true false true false = refl
    by true false false true = refl
    by true false false false = refl
    by false true true true = refl
    by false true true false = refl
    by false true false true = refl
    by false true false false = refl
    by false false true true = refl
    by false false true false = refl
    by false false false true = refl
    by false false false false = refl

-- the counts of an edge by the order of its places
pub counts_rising : (e : Edge) (p q : Place) (k : Place × Place) → vector_of p ≡ e.0 → vector_of q ≡ e.1 → vector_cmp (vector_of p) (vector_of q) ≡ Less
    → is_eq (joint_cmp (p, q) k) ≡ (is_before (edge_of k).0 (edge_of k).1 && joins (edge_of k).0 (edge_of k).1 e)
counts_rising e p q k f g less =
    rising_meets (vector_of p, vector_of q) (edge_of k) (before (vector_of p) (vector_of q) Less less)
    ∙ ap (λ (x : Edge). is_before (edge_of k).0 (edge_of k).1 && joins (edge_of k).0 (edge_of k).1 x) (λ i. (f i, g i))

pub counts_falling : (e : Edge) (p q : Place) (k : Place × Place) → vector_of p ≡ e.0 → vector_of q ≡ e.1 → vector_cmp (vector_of q) (vector_of p) ≡ Less
    → is_eq (joint_cmp (q, p) k) ≡ (is_before (edge_of k).0 (edge_of k).1 && joins (edge_of k).0 (edge_of k).1 e)
counts_falling e p q k f g less =
    counts_rising (back e) q p k g f less
    ∙ ap (λ s. is_before (edge_of k).0 (edge_of k).1 && s) (joins_turned_edge (edge_of k).0 (edge_of k).1 e)

pub counts_nothing : (e : Edge) (p q : Place) (k : Place × Place) (s : Bool) → vector_of p ≡ e.0 → vector_of q ≡ e.1 → vector_cmp (vector_of p) (vector_of q) ≡ Equal
    → s ≡ differ (is_before (edge_of k).0 (edge_of k).1 && joins (edge_of k).0 (edge_of k).1 e) s
counts_nothing e p q k s f g equal = sym (ap (λ b. differ b s) (none (is_before (edge_of k).0 (edge_of k).1 && joins (edge_of k).0 (edge_of k).1 e) refl))
  where
    loop : e.0 ≡ e.1
    loop = sym f ∙ same_vector (vector_of p) (vector_of q) equal ∙ g

    none : (b : Bool) → (is_before (edge_of k).0 (edge_of k).1 && joins (edge_of k).0 (edge_of k).1 e) ≡ b → b ≡ false
    none false h = refl
    none true h =
        let both = both_true (is_before (edge_of k).0 (edge_of k).1) (joins (edge_of k).0 (edge_of k).1 e) h in
        absurd (no (is_before (edge_of k).0 (edge_of k).1) both.0 (elim (is_joining (edge_of k) e both.1) [
          | inl same ↦ subst (λ (x : Edge). is_before x.0 x.1 ≡ false) same (level e loop)
          | inr turned ↦ subst (λ (x : Edge). is_before x.1 x.0 ≡ false) turned (level (back e) (sym loop))
        ]))
      where
        level : (x : Edge) → x.0 ≡ x.1 → is_before x.0 x.1 ≡ false
        level x e = before x.0 x.1 Equal (subst (λ v. vector_cmp x.0 v ≡ Equal) e (tied_itself vectors_total x.0))

-- ---- the first edge of a set
pub not_below : (k q : Place × Place) → is_gt (joint_cmp k q) ≡ false → is_edge_before (edge_of q) (edge_of k) ≡ false
not_below k q h = edge_before_by_order (edge_of q) (edge_of k) ∙ ap is_lt (edges_total.antisymm (edge_of q) (edge_of k)) ∙ turn (joint_cmp k q) h
  where
    turn : (o : Ordering) → is_gt o ≡ false → is_lt (ordering_reverse o) ≡ false
    turn Less h = refl
    turn Equal h = refl
    turn Greater h = cc

abbrev pub place_at : (v : Vector) → Place
place_at v = record { x = v.x; y = v.y; z = v.z }

pub nothing : (s : BTreeSet (Place × Place)) (k : Place × Place) → (0 < length s.keys → false ≡ true) → contains joint_cmp s k ≡ false
nothing s k h = by s.keys h
  where
    by : (ks : List (Place × Place)) → (0 < length ks → false ≡ true) → list_any (λ q. is_eq (joint_cmp k q)) ks ≡ false
    by [] h = refl
    by (x ∷ xs) h = absurd (no true refl (sym (h (omega arith))))
