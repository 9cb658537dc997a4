-- What a cut leaves of one edge, and that what is left of two edges keeps each other.
use Rattle.std.proofs.Common.{◌≡◌, ◌⊎◌, inl, inr, Bool, true, false, List, [], ◌∷◌, pos, ◌<ℤ◌, ◌≤ℤ◌, sym, ap, subst}
use Rattle.spec_space.specs.declared.Point.{Point}
use Rattle.spec_space.specs.declared.Plane.{Plane}
use Rattle.spec_space.specs.Points.{IsPoint, value}
use Rattle.convex_cycles.specs.Sides.{is_in_front}
use Rattle.convex_cycles.specs.Cycles.{Step, IsEdgeOf, KeepEachOther}
use Rattle.convex_cycles.proofs.Lists.{joined}
use Rattle.convex_cycles.proofs.Orders.{not_both}
use Rattle.convex_cycles.proofs.Flags.{Tells}
use Rattle.convex_cycles.proofs.Crossings.{crossing, crossing_positive}
use Rattle.convex_cycles.proofs.Turns.{ends_differ}
use Rattle.convex_cycles.proofs.NewEdges.{leaving, entering, along}
use Rattle.convex_cycles.proofs.Keeping.{Leaves, Enters, OneOrKept, apart, turned, keeps_start, keeps_end, only_leaving, only_entering}

-- where an edge begins and ends after the cut, if its corner there is kept or not
abbrev pub start_left : Plane → Step → Bool → Point
start_left k e true = e.start
start_left k e false = crossing k e.start e.end

abbrev pub end_left : Plane → Step → Bool → Point
end_left k e true = e.end
end_left k e false = crossing k e.end e.start

abbrev pub side_left : Bool → Plane → Plane → Plane
side_left true h k = h
side_left false h k = k

-- what is left of an edge of which some corner is kept
abbrev pub remaining : Plane → Step → Bool → Bool → Step
remaining k e b c = record { prev = side_left b e.prev k; side = e.side; next = side_left c e.next k; start = start_left k e b; end = end_left k e c }

-- the edges that one edge gives, where its start and its end are kept or not: behind the edge that leaves, the new edge on
-- the cut, to the edge v that enters
abbrev pub parts : Plane → Step → Step → Bool → Bool → List Step
parts k v e true true = e ∷ []
parts k v e true false = leaving k e ∷ along k e v ∷ []
parts k v e false true = entering k e ∷ []
parts k v e false false = []

abbrev pub parts_of : Plane → Step → Step → List Step
parts_of k v e = parts k v e (is_in_front k e.start) (is_in_front k e.end)

-- the edges after the cut k, of a cycle that v enters
abbrev pub cut_steps : Plane → Step → List Step → List Step
cut_steps k v steps = joined (parts_of k v) steps

-- the flags of the two corners of an edge
abbrev pub AreFlags : Plane → Step → Bool → Bool → Type 0
AreFlags k e b c = Tells b (value k e.start) × Tells c (value k e.end)

-- some corner is kept
abbrev pub KeepsSome : Bool → Bool → Type 0
KeepsSome true c = Unit {0}
KeepsSome false true = Unit {0}
KeepsSome false false = ⊥

-- an inner point q on the cut
module _ (s k : Plane) (q : Point) (is_point : IsPoint q) (on : value s q ≡ pos 0) (on_cut : value k q ≡ pos 0) where
  -- an edge that keeps q
  abbrev pub HasInside : Step → Type 0
  HasInside e = IsEdgeOf s e × (pos 0 <ℤ value e.side q)

  -- where one of two edges leaves and the other enters
  pub crossings_inside : (u v : Step) → HasInside u → HasInside v → Leaves k u → Enters k v → KeepEachOther u v → (pos 0 <ℤ value u.side (crossing k v.start v.end)) × (pos 0 <ℤ value v.side (crossing k u.end u.start))
  crossings_inside u v iu iv lu nv keeps = ends_differ s k u v q iu.0 iv.0 lu.0 lu.1 nv.0 nv.1 is_point on on_cut iu.1 iv.1 (keeps_start s v u iv.0 keeps.1) (keeps_end s v u iv.0 keeps.1) (keeps_start s u v iu.0 keeps.0) (keeps_end s u v iu.0 keeps.0)

  start_kept : (x : Step) (b c : Bool) → AreFlags k x b c → KeepsSome b c → value k x.end ≤ℤ pos 0 → pos 0 <ℤ value k x.start
  start_kept x true c flags some back = flags.0
  start_kept x false true flags some back = absurd (not_both (value k x.end) flags.1 back)
  start_kept x false false flags some back = absurd some

  end_kept : (x : Step) (b c : Bool) → AreFlags k x b c → KeepsSome b c → value k x.start ≤ℤ pos 0 → pos 0 <ℤ value k x.end
  end_kept x true c flags some back = absurd (not_both (value k x.start) flags.0 back)
  end_kept x false true flags some back = flags.1
  end_kept x false false flags some back = absurd some

  -- an edge keeps the new corner of another strictly
  new_start_inside : (x y : Step) (b c : Bool) → HasInside x → HasInside y → AreFlags k x b c → KeepsSome b c → Enters k y → KeepEachOther x y → pos 0 <ℤ value x.side (crossing k y.start y.end)
  new_start_inside x y b c ix iy flags some ny keeps = elim keeps.0.0 [
    | inl inside ↦ crossing_positive k x.side y.start y.end ny.0 ny.1 inside (keeps_end s x y ix.0 keeps.0)
    | inr same ↦
        let back : value k x.end ≤ℤ pos 0 = subst (λ p. value k p ≤ℤ pos 0) (sym same) ny.0 in
        (crossings_inside x y ix iy (start_kept x b c flags some back, back) ny keeps).0
  ]

  new_end_inside : (x y : Step) (b c : Bool) → HasInside x → HasInside y → AreFlags k x b c → KeepsSome b c → Leaves k y → KeepEachOther x y → pos 0 <ℤ value x.side (crossing k y.end y.start)
  new_end_inside x y b c ix iy flags some ly keeps = elim keeps.0.1 [
    | inl inside ↦ crossing_positive k x.side y.end y.start ly.1 ly.0 inside (keeps_start s x y ix.0 keeps.0)
    | inr same ↦
        let back : value k x.start ≤ℤ pos 0 = subst (λ p. value k p ≤ℤ pos 0) (sym same) ly.1 in
        (crossings_inside y x iy ix ly (back, end_kept x b c flags some back) (turned x y keeps)).1
  ]

  -- what is left of two edges
  start_case : (x y : Step) (b c d e : Bool) → HasInside x → HasInside y → AreFlags k x b c → KeepsSome b c → AreFlags k y d e → KeepsSome d e → KeepEachOther x y → (pos 0 <ℤ value x.side (start_left k y d)) ⊎ (end_left k x c ≡ start_left k y d)
  start_case x y b true true e ix iy fx sx fy sy keeps = keeps.0.0
  start_case x y b false true e ix iy fx sx fy sy keeps = elim keeps.0.0 [
    | inl inside ↦ inl inside
    | inr same ↦ absurd (apart k y.start x.end fy.0 fx.1 (sym same))
  ]
  start_case x y b c false e ix iy fx sx fy sy keeps = inl (new_start_inside x y b c ix iy fx sx (fy.0, end_kept y false e fy sy fy.0) keeps)

  end_case : (x y : Step) (b c d e : Bool) → HasInside x → HasInside y → AreFlags k x b c → KeepsSome b c → AreFlags k y d e → KeepsSome d e → KeepEachOther x y → (pos 0 <ℤ value x.side (end_left k y e)) ⊎ (start_left k x b ≡ end_left k y e)
  end_case x y true c d true ix iy fx sx fy sy keeps = keeps.0.1
  end_case x y false c d true ix iy fx sx fy sy keeps = elim keeps.0.1 [
    | inl inside ↦ inl inside
    | inr same ↦ absurd (apart k y.end x.start fy.1 fx.0 (sym same))
  ]
  end_case x y b c d false ix iy fx sx fy sy keeps = inl (new_end_inside x y b c ix iy fx sx (start_kept y d false fy sy fy.1, fy.1) keeps)

  pub remaining_keep : (x y : Step) (b c d e : Bool) → HasInside x → HasInside y → AreFlags k x b c → KeepsSome b c → AreFlags k y d e → KeepsSome d e → KeepEachOther x y → KeepEachOther (remaining k x b c) (remaining k y d e)
  remaining_keep x y b c d e ix iy fx sx fy sy keeps = (
    (start_case x y b c d e ix iy fx sx fy sy keeps, end_case x y b c d e ix iy fx sx fy sy keeps),
    (start_case y x d e b c iy ix fy sy fx sx (turned x y keeps), end_case y x d e b c iy ix fy sy fx sx (turned x y keeps)),
  )

  -- the new edge and what is left of another
  along_start : (u v y : Step) (b c : Bool) → IsEdgeOf s v → HasInside y → Enters k v → AreFlags k y b c → KeepsSome b c → OneOrKept y v → (pos 0 <ℤ value k (start_left k y b)) ⊎ (crossing k v.start v.end ≡ start_left k y b)
  along_start u v y true c iv iy nv fy sy to_v = inl fy.0
  along_start u v y false c iv iy nv fy sy to_v = inr (ap (λ e. crossing k e.start e.end) (sym (only_entering s k y v iy.0 iv to_v (fy.0, end_kept y false c fy sy fy.0) nv)))

  along_end : (u v y : Step) (b c : Bool) → IsEdgeOf s u → HasInside y → Leaves k u → AreFlags k y b c → KeepsSome b c → OneOrKept y u → (pos 0 <ℤ value k (end_left k y c)) ⊎ (crossing k u.end u.start ≡ end_left k y c)
  along_end u v y b true iu iy lu fy sy to_u = inl fy.1
  along_end u v y b false iu iy lu fy sy to_u = inr (ap (λ e. crossing k e.end e.start) (sym (only_leaving s k y u iy.0 iu to_u (start_kept y b false fy sy fy.1, fy.1) lu)))

  left_end : (y u : Step) (c : Bool) → Tells c (value k y.end) → value k u.end ≤ℤ pos 0 → y ≡ u → end_left k y c ≡ crossing k u.end u.start
  left_end y u true flag back same = absurd (apart k y.end u.end flag back (ap (λ e. e.end) same))
  left_end y u false flag back same = ap (λ e. crossing k e.end e.start) same

  left_start : (y v : Step) (b : Bool) → Tells b (value k y.start) → value k v.start ≤ℤ pos 0 → y ≡ v → start_left k y b ≡ crossing k v.start v.end
  left_start y v true flag back same = absurd (apart k y.start v.start flag back (ap (λ e. e.start) same))
  left_start y v false flag back same = ap (λ e. crossing k e.start e.end) same

  to_along_start : (u y : Step) (b c : Bool) → HasInside u → HasInside y → Leaves k u → AreFlags k y b c → KeepsSome b c → OneOrKept y u → (pos 0 <ℤ value y.side (crossing k u.end u.start)) ⊎ (end_left k y c ≡ crossing k u.end u.start)
  to_along_start u y b c iu iy lu fy sy (inl same) = inr (left_end y u c fy.1 lu.1 same)
  to_along_start u y b c iu iy lu fy sy (inr keeps) = inl (new_end_inside y u b c iy iu fy sy lu keeps)

  to_along_end : (v y : Step) (b c : Bool) → HasInside v → HasInside y → Enters k v → AreFlags k y b c → KeepsSome b c → OneOrKept y v → (pos 0 <ℤ value y.side (crossing k v.start v.end)) ⊎ (start_left k y b ≡ crossing k v.start v.end)
  to_along_end v y b c iv iy nv fy sy (inl same) = inr (left_start y v b fy.0 nv.0 same)
  to_along_end v y b c iv iy nv fy sy (inr keeps) = inl (new_start_inside y v b c iy iv fy sy nv keeps)

  pub along_keep : (u v y : Step) (b c : Bool) → HasInside u → HasInside v → HasInside y → Leaves k u → Enters k v → AreFlags k y b c → KeepsSome b c → OneOrKept y u → OneOrKept y v → KeepEachOther (along k u v) (remaining k y b c)
  along_keep u v y b c iu iv iy lu nv fy sy to_u to_v = (
    (along_start u v y b c iv.0 iy nv fy sy to_v, along_end u v y b c iu.0 iy lu fy sy to_u),
    (to_along_start u y b c iu iy lu fy sy to_u, to_along_end v y b c iv iy nv fy sy to_v),
  )
