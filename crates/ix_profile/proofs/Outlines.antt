-- What the loops of shapes keep.
use Rattle.std.proofs.Common.{◌≡◌, ℕ, ◌≤◌, ◌^◌, ◌*◌, T, leb, leb→le, List, [], ◌∷◌, length, map, refl, sym, subst, ◌∙◌, arith}
use Rattle.std.specs.Prelude.{All, Option, Some, None, unwrap_or}
use Rattle.std.proofs.lemmas.List.{length-map}
use Rattle.std.proofs.lemmas.List.Elements.{All-nil, All-cons, All-map, All-weaker}
use Rattle.spec_space.specs.declared.Vector.{Vector}
use Rattle.spec_place.specs.Vectors.{IsWithin, along_x}
use Rattle.spec_place.specs.Axes.{plane_point}
use Rattle.spec_shape.specs.Profiles.{placed_loops}
use Rattle.ix_place.proofs.Sizes.{wider}
use Rattle.ix_profile.specs.Outlines.{AreWithin, AreLong, IsLoop, IsOutline}

-- each of the points is within a bound
abbrev pub AreEachWithin : ℕ → List Vector → Type 0
AreEachWithin n [] = Unit {0}
AreEachWithin n (p ∷ ps) = IsWithin n p × AreEachWithin n ps

all_within : (n : ℕ) (ps : List Vector) → AreEachWithin n ps → All (IsWithin n) ps
all_within n [] h = All-nil (IsWithin n)
all_within n (p ∷ ps) h = All-cons (IsWithin n) p ps h.0 (all_within n ps h.1)

pub listed_loop : (n : ℕ) {ps qs : List Vector} → ps ≡ qs → AreEachWithin n qs → T (leb 3 (length qs)) → IsLoop n ps
listed_loop n {ps} {qs} e h t = subst (λ xs. IsLoop n xs) (sym e) (record { long = leb→le 3 (length qs) t; within = all_within n qs h })

pub one_outline : {n : ℕ} (l : List Vector) (loops : List (List Vector)) → IsLoop n l → loops ≡ l ∷ [] → IsOutline n loops
one_outline {n} l loops h e = subst (λ ls. IsOutline n ls) (sym e) (record {
  some = omega arith;
  long = All-cons (λ l. 3 ≤ length l) l [] h.long (All-nil (λ l. 3 ≤ length l));
  within = All-cons (All (IsWithin n)) l [] h.within (All-nil (All (IsWithin n)));
})

pub two_outlines : {n : ℕ} (l k : List Vector) (loops : List (List Vector)) → IsLoop n l → IsLoop n k → loops ≡ l ∷ k ∷ [] → IsOutline n loops
two_outlines {n} l k loops h g e = subst (λ ls. IsOutline n ls) (sym e) (record {
  some = omega arith;
  long = All-cons (λ l. 3 ≤ length l) l (k ∷ []) h.long (All-cons (λ l. 3 ≤ length l) k [] g.long (All-nil (λ l. 3 ≤ length l)));
  within = All-cons (All (IsWithin n)) l (k ∷ []) h.within (All-cons (All (IsWithin n)) k [] g.within (All-nil (All (IsWithin n))));
})

-- loops that are placed are as long as before
long_map : (f : Vector → Vector) (loops : List (List Vector)) → AreLong loops → AreLong (map (map f) loops)
long_map f loops h =
    All-map (λ l. 3 ≤ length l) (map f) loops
    (All-weaker (λ l. 3 ≤ length l) (λ l. 3 ≤ length (map f l)) (λ l k. subst (λ n. 3 ≤ n) (sym (length-map l f)) k) loops h)

pub moved_outline : (f : Vector → Vector) (m n : ℕ) (loops moved : List (List Vector)) → moved ≡ map (map f) loops → AreWithin n moved → IsOutline m loops → IsOutline n moved
moved_outline f m n loops moved e w h = record {
  some = subst (λ ls. 1 ≤ length ls) (sym e) (subst (λ k. 1 ≤ k) (sym (length-map loops (map f))) h.some);
  long = subst (λ ls. AreLong ls) (sym e) (long_map f loops h.long);
  within = w;
}

-- an unset reference direction is x
pub axis_set : (at : Vector) (ref : Option Vector) (loops : List (List Vector)) → placed_loops at (Some (unwrap_or ref along_x)) loops ≡ placed_loops at ref loops
axis_set at (Some u) loops = refl
axis_set at None loops = refl
