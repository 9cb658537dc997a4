-- Lists of trees, and what some of them tell together.
use Rattle.std.proofs.Common.{◌≡◌, ℕ, suc, ◌<◌, ◌≤◌, Some, get_or, Bool, true, false, List, [], ◌∷◌, ◌++◌, length, refl, sym, ap, subst, ◌∙◌, arith}
use Rattle.std.specs.Prelude.{◌||◌, remove}
use Rattle.std.specs.List.{All}
use Rattle.std.proofs.lemmas.List.Elements.{All-nil, All-cons, All-head, All-tail, All-push}
use Rattle.spec_solid.specs.declared.BoolOp.TheVariants.{Union}
use Rattle.spec_solid.specs.Solids.{truth}
use Rattle.tree_pool.specs.Trees.{leaf}
use Rattle.triangle_trees.proofs.Grown.{grown_itself}
use Rattle.spec_space.specs.declared.Point.{Point}
use Rattle.spec_space.specs.declared.Plane.{Plane}
use Rattle.plane_core.specs.declared.numbers.Plane.{Plane as BookPlane}
use Rattle.tree_pool.specs.declared.node.TreeId.{TreeId}
use Rattle.tree_pool.specs.Pools.{Slots, StandsFor, IsLive, KeepsTrees}
use Rattle.triangle_trees.specs.Forms.{IsGrown}
use Rattle.solid_tree.specs.Unions.{HasTree, HaveTrees, some_told, AreUnited}
use Rattle.solid_tree.proofs.Trees.{has_kept, tree_same}

pub have_kept : (n : ℕ) (old new : List BookPlane) (before after : Slots) → IsGrown n old new → KeepsTrees before after → (ks : List Plane) (tolds : List (Point → Bool)) (ids : List TreeId)
    → HaveTrees before old ks tolds ids → HaveTrees after new ks tolds ids
have_kept n old new before after grown kept ks [] [] h = tt
have_kept n old new before after grown kept ks [] (id ∷ ids) h = absurd h
have_kept n old new before after grown kept ks (told ∷ rest) [] h = absurd h
have_kept n old new before after grown kept ks (told ∷ rest) (id ∷ ids) h = (has_kept n old new before after grown kept ks told id h.0, have_kept n old new before after grown kept ks rest ids h.1)

pub have_push : (pool : Slots) (planes : List BookPlane) (ks : List Plane) (tolds : List (Point → Bool)) (ids : List TreeId) (told : Point → Bool) (id : TreeId)
    → HaveTrees pool planes ks tolds ids → HasTree pool planes ks told id → HaveTrees pool planes ks (tolds ++ told ∷ []) (ids ++ id ∷ [])
have_push pool planes ks [] [] told id h t = (t, tt)
have_push pool planes ks [] (x ∷ xs) told id h t = absurd h
have_push pool planes ks (f ∷ fs) [] told id h t = absurd h
have_push pool planes ks (f ∷ fs) (x ∷ xs) told id h t = (h.0, have_push pool planes ks fs xs told id h.1 t)

or_assoc : (p q r : Bool) → (p || (q || r)) ≡ ((p || q) || r)
or_assoc true q r = refl
or_assoc false q r = refl

or_false : (p : Bool) → (p || false) ≡ p
or_false true = refl
or_false false = refl

turned : (p q r : Bool) → (r || (p || q)) ≡ (p || (q || r))
turned true true true = refl
turned true true false = refl
turned true false true = refl
turned true false false = refl
turned false true true = refl
turned false true false = refl
turned false false true = refl
turned false false false = refl

pub some_push : (fs : List (Point → Bool)) (f : Point → Bool) (q : Point) → some_told (fs ++ f ∷ []) q ≡ (some_told fs q || f q)
some_push [] f q = or_false (f q)
some_push (g ∷ gs) f q = ap (λ b. g q || b) (some_push gs f q) ∙ or_assoc (g q) (some_told gs q) (f q)

-- the first two trees united go to the end
pub united_next : (planes : List BookPlane) (before after : Slots) → KeepsTrees before after → (ks : List Plane) (told : Point → Bool) (a b both : TreeId) (ids : List TreeId)
    → ((p q : Point → Bool) → HasTree before planes ks p a → HasTree before planes ks q b → HasTree after planes ks (λ x. p x || q x) both)
    → IsGrown 0 planes planes
    → AreUnited before planes ks told (a ∷ b ∷ ids) → AreUnited after planes ks told (ids ++ both ∷ [])
united_next planes before after kept ks told a b both ids merged grown ([], h, same) = absurd h
united_next planes before after kept ks told a b both ids merged grown (f ∷ [], h, same) = absurd h.1
united_next planes before after kept ks told a b both ids merged grown (f ∷ g ∷ fs, h, same) = (
  fs ++ (λ x. f x || g x) ∷ [],
  have_push after planes ks fs ids (λ x. f x || g x) both (have_kept 0 planes planes before after grown kept ks fs ids h.1.1) (merged f g h.0 h.1.0),
  λ q. some_push fs (λ x. f x || g x) q ∙ turned (f q) (g q) (some_told fs q) ∙ same q,
)

-- one tree alone is the union, and no tree is the union of nothing
pub united_one : (pool : Slots) (planes : List BookPlane) (ks : List Plane) (told : Point → Bool) (id : TreeId) → AreUnited pool planes ks told (id ∷ []) → (f : Point → Bool) × HasTree pool planes ks f id × ((q : Point) → f q ≡ told q)
united_one pool planes ks told id ([], h, same) = absurd h
united_one pool planes ks told id (f ∷ [], h, same) = (f, h.0, λ q. sym (or_false (f q)) ∙ same q)
united_one pool planes ks told id (f ∷ g ∷ fs, h, same) = absurd h.1

pub united_none : (pool : Slots) (planes : List BookPlane) (ks : List Plane) (told : Point → Bool) → AreUnited pool planes ks told [] → (q : Point) → false ≡ told q
united_none pool planes ks told ([], h, same) q = same q
united_none pool planes ks told (f ∷ fs, h, same) q = absurd h

-- ---- a round of a loop that unites
pub first_of : (xs : List TreeId) (x : TreeId) → 0 < length xs → x ≡ get_or xs 0 x → xs ≡ x ∷ remove xs 0
first_of [] x h e = absurd (omega arith)
first_of (y ∷ ys) x h e = ap (λ z. z ∷ ys) (sym e)

pub united_round : (planes : List BookPlane) (before after : Slots) (xs ys zs new : List TreeId) (a b both : TreeId) → xs ≡ a ∷ ys → ys ≡ b ∷ zs → new ≡ zs ++ both ∷ [] → KeepsTrees before after
    → ((ks : List Plane) (p q : Point → Bool) → HasTree before planes ks p a → HasTree before planes ks q b → HasTree after planes ks (λ x. truth Union (p x) (q x)) both)
    → (ks : List Plane) (told : Point → Bool) → AreUnited before planes ks told xs → AreUnited after planes ks told new
united_round planes before after xs ys zs new a b both e f g kept merged ks told u =
    subst (AreUnited after planes ks told) (sym g)
    (united_next planes before after kept ks told a b both zs (merged ks) (grown_itself 0 planes)
    (subst (AreUnited before planes ks told) (e ∙ ap (λ l. a ∷ l) f) u))

pub each_live : (before after : Slots) → ((id : TreeId) → IsLive before id → IsLive after id) → (xs : List TreeId) → All (IsLive before) xs → All (IsLive after) xs
each_live before after still [] all = All-nil (IsLive after)
each_live before after still (x ∷ xs) all = All-cons (IsLive after) x xs (still x (All-head (IsLive before) x xs all)) (each_live before after still xs (All-tail (IsLive before) x xs all))

pub live_round : (before after : Slots) (xs ys zs new : List TreeId) (a b both : TreeId) → xs ≡ a ∷ ys → ys ≡ b ∷ zs → new ≡ zs ++ both ∷ [] → ((id : TreeId) → IsLive before id → IsLive after id) → IsLive after both
    → All (IsLive before) xs → All (IsLive after) new
live_round before after xs ys zs new a b both e f g still live all =
    let whole = subst (All (IsLive before)) (e ∙ ap (λ l. a ∷ l) f) all in
    let rest = All-tail (IsLive before) b zs (All-tail (IsLive before) a (b ∷ zs) whole) in
    subst (All (IsLive after)) (sym g) (All-push (IsLive after) zs both (each_live before after still zs rest) live)

pub first_live : (before : Slots) (xs ys : List TreeId) (a : TreeId) → xs ≡ a ∷ ys → All (IsLive before) xs → IsLive before a × All (IsLive before) ys
first_live before xs ys a e all =
    let whole = subst (All (IsLive before)) e all in
    (All-head (IsLive before) a ys whole, All-tail (IsLive before) a ys whole)

-- ---- the end of the loop
pub united_last : (pool : Slots) (planes : List BookPlane) (ks : List Plane) (told : Point → Bool) (xs rest : List TreeId) (id : TreeId) → length xs ≤ 1 → xs ≡ rest ++ id ∷ [] → AreUnited pool planes ks told xs → HasTree pool planes ks told id
united_last pool planes ks told xs [] id h e u =
    let one = united_one pool planes ks told id (subst (AreUnited pool planes ks told) e u) in
    (one.1.0, one.1.1, tree_same planes ks one.0 told one.2 one.1.0 one.1.2)
united_last pool planes ks told xs (x ∷ ys) id h e u = absurd (long (subst (λ l. length l ≤ 1) e h))
  where
    longer : (ys : List TreeId) → 1 ≤ length (ys ++ id ∷ [])
    longer [] = omega arith
    longer (y ∷ ys) = omega arith

    long : suc (length (ys ++ id ∷ [])) ≤ 1 → ⊥
    long k = let m = longer ys in omega arith

pub united_empty : (pool : Slots) (planes : List BookPlane) (ks : List Plane) (told : Point → Bool) (id : TreeId) → StandsFor pool id (leaf false) → AreUnited pool planes ks told [] → HasTree pool planes ks told id
united_empty pool planes ks told id stands u = (leaf false, stands, record { value = λ q point cube off. ap Some (united_none pool planes ks told u q); among = λ n is. absurd is })

pub no_items : (xs : List TreeId) → length xs ≤ 0 → xs ≡ []
no_items [] h = refl
no_items (x ∷ xs) h = absurd (omega arith)
