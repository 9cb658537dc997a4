-- The sides of a piece, made one by one from lists of their parts.
use Rattle.std.proofs.Common.{◌≡◌, ℕ, suc, ◌+◌, ◌≤◌, List, [], ◌∷◌, ◌++◌, Some, map, length, take, slice_get, get_or, refl, sym, ap, ap₂, ◌∙◌, subst, arith, length-append}
use Rattle.std.proofs.lemmas.List.{take_more, take_all, length-map}
use Rattle.std.proofs.lemmas.Option.{slice_get-get_or, slice_get_within}
use Rattle.spec_space.specs.declared.Point.{Point}
use Rattle.spec_page.specs.Faces.{rotated}
use Rattle.plane_core.specs.declared.numbers.Plane.{Plane as BookPlane}
use Rattle.plane_core.specs.declared.numbers.Corner.{Corner}
use Rattle.plane_core.specs.Views.{point_of}
use Rattle.poly_frag.specs.Frags.{support_of}
use Rattle.poly_frag.specs.Cycles.{AreCorners, AreMeets, AreMeetsRound, last_edge}
use Rattle.poly_frag.specs.declared.frag.Edge.{Edge}
use Rattle.poly_frag.specs.declared.frag.Frag.{Frag}
use Rattle.poly_frag.proofs.Reduced.{map_push}
use Rattle.edge_cut.specs.declared.sides.Side.{Side}
use Rattle.edge_cut.specs.Sides.{AreSides, AreJoined}

pub length-rotated : {X : Type 0} (xs : List X) → length (rotated xs) ≡ length xs
length-rotated [] = refl
length-rotated (x ∷ xs) = let e = length-append xs (x ∷ []) in omega (arith, e)

-- ---- one side more
same_some : {X : Type 0} (x y : X) → Some x ≡ Some y → x ≡ y
same_some x y e = cc

pub map_next : {X : Type 0} (f : Side → X) (sides next : List Side) (s : Side) (xs : List X) (i : ℕ) → slice_get xs i ≡ Some (f s) → next ≡ sides ++ s ∷ [] → map f sides ≡ take i xs → map f next ≡ take (i + 1) xs
map_next f sides next s xs i at items h =
    let below = slice_get_within xs i (f s) at in
    ap (map f) items ∙ map_push f sides s
    ∙ ap₂ (λ ys y. ys ++ y ∷ []) h (same_some (f s) (get_or xs i (f s)) (sym at ∙ slice_get-get_or xs i (f s) below))
    ∙ sym (take_more xs i (f s) below)

-- the sides made so far
pub record AreMade (i : ℕ) (sides : List Side) (before edges after : List Edge) (starts ends : List Corner) : Type 0 where
  pub made_before : map (λ s. s.before) sides ≡ take i before
  pub made_edges : map (λ s. s.edge) sides ≡ take i edges
  pub made_after : map (λ s. s.after) sides ≡ take i after
  pub made_starts : map (λ s. s.start) sides ≡ take i starts
  pub made_ends : map (λ s. s.end) sides ≡ take i ends

-- ---- all sides
pub length-corners : (planes : List BookPlane) (f : Frag) (cs : List Corner) → AreCorners planes f cs → length cs ≡ length f.edges.items
length-corners planes f cs m = sym (length-map cs point_of) ∙ round f.edges.items (map point_of cs) m
  where
    meets : (before : Edge) (es : List Edge) (ps : List Point) → AreMeets planes (support_of planes f) before es ps → length ps ≡ length es
    meets before [] [] m = refl
    meets before [] (p ∷ ps) m = absurd m
    meets before (e ∷ es) [] m = absurd m
    meets before (e ∷ es) (p ∷ ps) m = ap suc (meets e es ps m.1)

    round : (es : List Edge) (ps : List Point) → AreMeetsRound planes (support_of planes f) es ps → length ps ≡ length es
    round [] ps m = ap length m
    round (e ∷ es) ps m = meets (last_edge e es) (e ∷ es) ps m

pub record AreParts (planes : List BookPlane) (f : Frag) (before edges after : List Edge) (starts ends : List Corner) : Type 0 where
  pub edges_are : edges ≡ f.edges.items
  pub before_is : rotated before ≡ edges
  pub after_is : after ≡ rotated edges
  pub starts_are : AreCorners planes f starts
  pub ends_are : ends ≡ rotated starts

module _ (planes : List BookPlane) (f : Frag) (before edges after : List Edge) (starts ends : List Corner) (parts : AreParts planes f before edges after starts ends) where
  pub length-before : length before ≡ length edges
  length-before = sym (length-rotated before) ∙ ap length parts.before_is

  pub length-after : length after ≡ length edges
  length-after = ap length parts.after_is ∙ length-rotated edges

  pub length-starts : length starts ≡ length edges
  length-starts = length-corners planes f starts parts.starts_are ∙ ap length (sym parts.edges_are)

  pub length-ends : length ends ≡ length edges
  length-ends = ap length parts.ends_are ∙ length-rotated starts ∙ length-starts

  pub joined-AreSides : (sides : List Side) → AreJoined sides before edges after starts ends → AreSides planes f sides
  joined-AreSides sides made = record {
    edges = made.edge ∙ parts.edges_are;
    before = ap rotated made.before ∙ parts.before_is ∙ parts.edges_are;
    after = made.after ∙ parts.after_is ∙ ap rotated parts.edges_are;
    starts = subst (AreCorners planes f) (sym made.start) parts.starts_are;
    ends = made.end ∙ parts.ends_are ∙ ap rotated (sym made.start);
  }

-- the sides made so far, to the end
pub all_made : (i : ℕ) (sides : List Side) (before edges after : List Edge) (starts ends : List Corner) → length edges ≤ i → length before ≡ length edges → length after ≡ length edges → length starts ≡ length edges → length ends ≡ length edges
    → AreMade i sides before edges after starts ends → AreJoined sides before edges after starts ends
all_made i sides before edges after starts ends all b a s e made = record {
  before = made.made_before ∙ take_all i before (long before b);
  edge = made.made_edges ∙ take_all i edges all;
  after = made.made_after ∙ take_all i after (long after a);
  start = made.made_starts ∙ take_all i starts (long starts s);
  end = made.made_ends ∙ take_all i ends (long ends e);
}
  where
    long : {X : Type 0} (xs : List X) → length xs ≡ length edges → length xs ≤ i
    long xs h = omega (arith, h, all)
