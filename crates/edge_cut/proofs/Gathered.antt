-- The corners that are gathered.
use Rattle.std.proofs.Common.{◌≡◌, ◌⊎◌, inl, inr, ℕ, ◌+◌, ◌<◌, ◌≤◌, Bool, true, false, List, [], ◌∷◌, ◌++◌, map, length, take, get_or, All, Contains, refl, sym, ap, ◌∙◌, subst}
use Rattle.std.specs.Prelude.{◌↔◌}
use Rattle.std.specs.List.{flat_map}
use Rattle.std.proofs.lemmas.List.{take_more, take_all, append-nil}
use Rattle.std.proofs.lemmas.List.Elements.{Contains-append_left, Contains-append_right, Contains-append_cases}
use Rattle.std.proofs.lemmas.Grind.{flat_map-append}
use Rattle.plane_core.specs.declared.numbers.Plane.{Plane as BookPlane}
use Rattle.plane_core.specs.declared.numbers.Corner.{Corner}
use Rattle.plane_core.specs.declared.book.PlaneId.{PlaneId}
use Rattle.corner_book.specs.Corners.{MeetIn}
use Rattle.convex_cycles.proofs.Lists.{Member}
use Rattle.corner_book.proofs.Same.{corner_eq, corner_eq-Decides}
use Rattle.poly_frag.proofs.CornerSigns.{contains_member, member_contains}
use Rattle.poly_frag.proofs.Reduced.{map_push}
use Rattle.edge_cut.specs.declared.sides.Side.{Side}
use Rattle.edge_cut.specs.declared.sides.Outline.{Outline}
use Rattle.edge_cut.specs.Outlines.{starts_of, HasAdded, HasCorners}

-- ---- whether a corner is there
decide_member : (cs : List Corner) (c : Corner) → Member c cs ⊎ (Member c cs → ⊥)
decide_member [] c = inr (λ m. m)
decide_member (d ∷ cs) c = by (corner_eq c d) refl (decide_member cs c)
  where
    by : (b : Bool) → corner_eq c d ≡ b → Member c cs ⊎ (Member c cs → ⊥) → Member c (d ∷ cs) ⊎ (Member c (d ∷ cs) → ⊥)
    by true e rest = inl (inl ((corner_eq-Decides c d).0 e))
    by false e (inl m) = inl (inr m)
    by false e (inr none) = inr (λ m. elim m [ inl same ↦ clash ((corner_eq-Decides c d).1 same) e | inr later ↦ none later ])
      where
        clash : {b : Bool} → b ≡ true → b ≡ false → ⊥
        clash p q = cc

no_corner : (c : Corner) → Contains [] c → ⊥
no_corner c m = contains_member c [] m

-- ---- one corner more
pub added_none : (old : List Corner) → HasAdded old [] old
added_none old c = (λ m. inl m, λ m. elim m [ inl there ↦ there | inr none ↦ absurd (no_corner c none) ])

in_one : (c d : Corner) → Contains (d ∷ []) c → c ≡ d
in_one c d m = elim (contains_member c (d ∷ []) m) [ inl same ↦ same | inr none ↦ absurd none ]

one_there : (c d : Corner) → c ≡ d → Contains (d ∷ []) c
one_there c d e = member_contains c (d ∷ []) (inl e)

added_one : (old mid new more : List Corner) (c : Corner) → HasAdded old more mid → ((d : Corner) → Contains new d ↔ (Contains mid d ⊎ (d ≡ c))) → HasAdded old (more ++ c ∷ []) new
added_one old mid new more c h one d = (
  λ m. elim ((one d).0 m) [
    | inr same ↦ inr (Contains-append_right more (c ∷ []) d (one_there d c same))
    | inl there ↦ elim ((h d).0 there) [
      | inl there ↦ inl there
      | inr there ↦ inr (Contains-append_left more (c ∷ []) d there)
    ]
  ],
  λ m. elim m [
    | inl there ↦ (one d).1 (inl ((h d).1 (inl there)))
    | inr there ↦ elim (Contains-append_cases more (c ∷ []) d there) [
      | inl there ↦ (one d).1 (inl ((h d).1 (inr there)))
      | inr last ↦ (one d).1 (inr (in_one d c last))
    ]
  ],
)

pub one_more : (mid new : List Corner) (c : Corner) → (Contains mid c → new ≡ mid) → ((Contains mid c → ⊥) → new ≡ mid ++ c ∷ []) → (d : Corner) → Contains new d ↔ (Contains mid d ⊎ (d ≡ c))
one_more mid new c known added d = elim (decide_member mid c) [
  | inl there ↦
      let same = known (member_contains c mid there) in (
        λ m. inl (subst (λ cs. Contains cs d) same m),
        λ m. subst (λ cs. Contains cs d) (sym same) (elim m [ inl there ↦ there | inr e ↦ subst (Contains mid) (sym e) (member_contains c mid there) ]),
      )
  | inr absent ↦
      let grown = added (λ m. absent (contains_member c mid m)) in (
        λ m. elim (Contains-append_cases mid (c ∷ []) d (subst (λ cs. Contains cs d) grown m)) [ inl there ↦ inl there | inr last ↦ inr (in_one d c last) ],
        λ m. subst (λ cs. Contains cs d) (sym grown) (elim m [ inl there ↦ Contains-append_left mid (c ∷ []) d there | inr e ↦ Contains-append_right mid (c ∷ []) d (one_there d c e) ]),
      )
]

-- the corners of the sides so far, and the next
pub added_next : (old mid new : List Corner) (sides : List Side) (i : ℕ) (s : Side) → i < length sides → s ≡ get_or sides i s → (Contains mid s.start → new ≡ mid) → ((Contains mid s.start → ⊥) → new ≡ mid ++ s.start ∷ [])
    → HasAdded old (map (λ s. s.start) (take i sides)) mid → HasAdded old (map (λ s. s.start) (take (i + 1) sides)) new
added_next old mid new sides i s below at known added h =
    subst (λ cs. HasAdded old cs new) (sym (ap (map (λ s. s.start)) (take_more sides i s below) ∙ map_push (λ (s : Side). s.start) (take i sides) (get_or sides i s) ∙ ap (λ (t : Side). map (λ s. s.start) (take i sides) ++ t.start ∷ []) (sym at)))
    (added_one old mid new (map (λ s. s.start) (take i sides)) s.start h (one_more mid new s.start known added))

pub meet_at : (planes : List BookPlane) (id : PlaneId) (items sides : List Side) (i : ℕ) (s : Side) → items ≡ sides → i < length items → s ≡ get_or items i s → All (λ s. MeetIn planes (id ∷ (s.before.plane ∷ (s.edge.plane ∷ []))) s.start) sides
    → MeetIn planes (id ∷ (s.before.plane ∷ (s.edge.plane ∷ []))) s.start
meet_at planes id items sides i s same below at all =
    subst (λ s. MeetIn planes (id ∷ (s.before.plane ∷ (s.edge.plane ∷ []))) s.start) (sym at)
    (subst (All (λ s. MeetIn planes (id ∷ (s.before.plane ∷ (s.edge.plane ∷ []))) s.start)) (sym same) all i s below)

pub added_side : (old mid new : List Corner) (items sides : List Side) (i : ℕ) (s : Side) → items ≡ sides → i < length items → s ≡ get_or items i s → (Contains mid s.start → new ≡ mid) → ((Contains mid s.start → ⊥) → new ≡ mid ++ s.start ∷ [])
    → HasAdded old (map (λ s. s.start) (take i sides)) mid → HasAdded old (map (λ s. s.start) (take (i + 1) sides)) new
added_side old mid new items sides i s same below at known added h =
    added_next old mid new sides i s (subst (λ xs. i < length xs) same below) (subst (λ xs. s ≡ get_or xs i s) same at) known added h

pub added_all : (old new : List Corner) (items : List Side) (w : Outline) (i : ℕ) → items ≡ w.sides.items → length items ≤ i → HasAdded old (map (λ s. s.start) (take i w.sides.items)) new → HasAdded old (starts_of w) new
added_all old new items w i same all h = subst (λ ss. HasAdded old (map (λ s. s.start) ss) new) (take_all i w.sides.items (subst (λ xs. length xs ≤ i) same all)) h

-- ---- the corners of one outline more
pub gathered_none : (found : List Corner) → found ≡ [] → HasCorners [] found
gathered_none found e c = (λ m. subst (λ cs. Contains cs c) e m, λ m. absurd (no_corner c m))

pub gathered_next : (outlines : List Outline) (i : ℕ) (w : Outline) (old new : List Corner) → i < length outlines → w ≡ get_or outlines i w → HasAdded old (starts_of w) new
    → HasCorners (flat_map starts_of (take i outlines)) old → HasCorners (flat_map starts_of (take (i + 1) outlines)) new
gathered_next outlines i w old new below at more h = subst (λ cs. HasCorners cs new) (sym all) together
  where
    all : flat_map starts_of (take (i + 1) outlines) ≡ flat_map starts_of (take i outlines) ++ starts_of w
    all = ap (flat_map starts_of) (take_more outlines i w below ∙ ap (λ x. take i outlines ++ x ∷ []) (sym at)) ∙ flat_map-append starts_of (take i outlines) (w ∷ []) ∙ ap (λ cs. flat_map starts_of (take i outlines) ++ cs) (append-nil (starts_of w))

    together : HasCorners (flat_map starts_of (take i outlines) ++ starts_of w) new
    together c = (
      λ m. elim ((more c).0 m) [
        | inl there ↦ Contains-append_left (flat_map starts_of (take i outlines)) (starts_of w) c ((h c).0 there)
        | inr there ↦ Contains-append_right (flat_map starts_of (take i outlines)) (starts_of w) c there
      ],
      λ m. elim (Contains-append_cases (flat_map starts_of (take i outlines)) (starts_of w) c m) [
        | inl there ↦ (more c).1 (inl ((h c).1 there))
        | inr there ↦ (more c).1 (inr there)
      ],
    )

pub gathered_all : (outlines : List Outline) (i : ℕ) (found : List Corner) → length outlines ≤ i → HasCorners (flat_map starts_of (take i outlines)) found → HasCorners (flat_map starts_of outlines) found
gathered_all outlines i found all h = subst (λ ws. HasCorners (flat_map starts_of ws) found) (take_all i outlines all) h
