-- `holds` is true exactly where the point lies strictly inside, and which of the parts that a cut leaves hold a point.
use Rattle.std.proofs.Common.{◌≡◌, ◌≢◌, inl, inr, ℕ, ◌+◌, Bool, true, false, cond, ◌&&◌, List, [], ◌∷◌, ℤ, pos, neg_ℤ, ◌<ℤ◌, unsigned_abs, ◌==◌, refl, sym, ap, ◌∙◌, subst, arith, true≢false}
use Rattle.std.specs.List.{list_all}
use Rattle.std.proofs.lemmas.Int.{ints}
use Rattle.std.proofs.lemmas.Bool.{eqb-true}
use Rattle.std.proofs.lemmas.List.Elements.{All-nil, All-cons, All-head, All-tail}
use Rattle.spec_space.specs.declared.Point.{Point}
use Rattle.spec_space.specs.declared.Plane.{Plane}
use Rattle.spec_space.specs.Points.{IsPoint, value}
use Rattle.plane_core.specs.declared.numbers.Plane.{Plane as BookPlane}
use Rattle.integer_laws.proofs.Cancel.{sign_cases}
use Rattle.convex_cycles.specs.Sides.{is_in_front, IsWithin}
use Rattle.convex_cycles.proofs.Flags.{Tells, front_tells, front_flag}
use Rattle.poly_frag.specs.Frags.{support_of, sides_of, IsInside, IsPartOf, HasPart}
use Rattle.poly_frag.specs.declared.frag.Frag.{Frag}
use Rattle.face_walk.specs.Points.{holds}
use Rattle.face_walk.specs.Works.{in_frag}

-- ---- tests
both : (a b : Bool) → (a && b) ≡ true → (a ≡ true) × (b ≡ true)
both true b e = (refl, e)
both false b e = cc

pub same_flag : (a b : Bool) → (a ≡ true → b ≡ true) → (b ≡ true → a ≡ true) → a ≡ b
same_flag true true f g = refl
same_flag true false f g = sym (f refl)
same_flag false true f g = g refl
same_flag false false f g = refl

pub no_flag : (a : Bool) → (a ≡ true → ⊥) → a ≡ false
no_flag true f = absurd (f refl)
no_flag false f = refl

-- ---- sides
zero_from_size : (x : ℤ) → unsigned_abs x ≡ 0 → x ≡ pos 0
zero_from_size x e = omega (arith, ints)

pub in_front_from_flag : (h : Plane) (p : Point) → is_in_front h p ≡ true → pos 0 <ℤ value h p
in_front_from_flag h p e = subst (λ b. Tells b (value h p)) e (front_tells h p)

within_from_flags : (p : Point) (hs : List Plane) → list_all (λ h. is_in_front h p) hs ≡ true → IsWithin hs p
within_from_flags p [] e = All-nil (λ h. pos 0 <ℤ value h p)
within_from_flags p (h ∷ hs) e =
    let parts = both (is_in_front h p) (list_all (λ h. is_in_front h p) hs) e in
    All-cons (λ h. pos 0 <ℤ value h p) h hs (in_front_from_flag h p parts.0) (within_from_flags p hs parts.1)

flags_from_within : (p : Point) (hs : List Plane) → IsWithin hs p → list_all (λ h. is_in_front h p) hs ≡ true
flags_from_within p [] a = refl
flags_from_within p (h ∷ hs) a =
    rw (front_flag h p true (All-head (λ h. pos 0 <ℤ value h p) h hs a)) (flags_from_within p hs (All-tail (λ h. pos 0 <ℤ value h p) h hs a))

-- ---- fragments
pub inside_from_held : (planes : List BookPlane) (f : Frag) (p : Point) → holds planes f p ≡ true → IsInside planes f p
inside_from_held planes f p e =
    let parts = both (unsigned_abs (value (support_of planes f) p) == 0) (list_all (λ h. is_in_front h p) (sides_of planes f)) e in
    (zero_from_size (value (support_of planes f) p) (eqb-true _ _ parts.0), within_from_flags p (sides_of planes f) parts.1)

pub held_from_inside : (planes : List BookPlane) (f : Frag) (p : Point) → IsInside planes f p → holds planes f p ≡ true
held_from_inside planes f p i =
    ap (λ v. (unsigned_abs v == 0) && list_all (λ h. is_in_front h p) (sides_of planes f)) i.0 ∙ flags_from_within p (sides_of planes f) i.1

-- ---- parts of a fragment, on the two sides of a cut
abbrev pub IsOther : Plane → Plane → Type 0
IsOther k h = (p : Point) → value k p ≡ neg_ℤ (value h p)

up_there : (x y : ℤ) → y ≡ neg_ℤ x → x <ℤ pos 0 → pos 0 <ℤ y
up_there x y e h = omega (arith, ints)

clash_here : (x : ℤ) → x <ℤ pos 0 → pos 0 <ℤ x → ⊥
clash_here x h k = omega (arith, ints)

clash_there : (x y : ℤ) → y ≡ neg_ℤ x → pos 0 <ℤ x → pos 0 <ℤ y → ⊥
clash_there x y e h k = omega (arith, ints)

none_of : (planes : List BookPlane) (f g : Frag) (h : Plane) → IsPartOf planes g f h → (p : Point) → IsPoint p → holds planes f p ≡ false → holds planes g p ≡ false
none_of planes f g h part p is e = no_flag (holds planes g p) (λ t. true≢false (sym (held_from_inside planes f p ((part.inside p is).0 (inside_from_held planes g p t)).0) ∙ e))

in_front_of : (planes : List BookPlane) (f g : Frag) (h : Plane) → IsPartOf planes g f h → (p : Point) → IsPoint p → pos 0 <ℤ value h p → holds planes f p ≡ true → holds planes g p ≡ true
in_front_of planes f g h part p is front e = held_from_inside planes g p ((part.inside p is).1 (inside_from_held planes f p e, front))

module _ (planes : List BookPlane) (f : Frag) (h k : Plane) (other : IsOther k h) (p : Point) (is : IsPoint p) (off : holds planes f p ≡ true → value h p ≢ pos 0) (d : ℕ) where
  one_flag : (g : Frag) → IsPartOf planes g f h → (HasPart planes f k → ⊥) → (b : Bool) → holds planes f p ≡ b → holds planes g p ≡ b
  one_flag g part none false e = none_of planes f g h part p is e
  one_flag g part none true e = elim (sign_cases (value h p)) [
    | inl low ↦ absurd (none (p, is, inside_from_held planes f p e, up_there (value h p) (value k p) (other p) low))
    | inr (inl same) ↦ absurd (off e same)
    | inr (inr high) ↦ in_front_of planes f g h part p is high e
  ]

  -- where no part lies on the other side, the part is all
  pub held_by_one : (g : Frag) → IsPartOf planes g f h → (HasPart planes f k → ⊥) → in_frag planes d p g ≡ in_frag planes d p f
  held_by_one g part none = ap (λ b. cond b d 0) (one_flag g part none (holds planes f p) refl)

  zero_first : (n : ℕ) → 0 + n ≡ n
  zero_first n = omega arith

  zero_last : (n : ℕ) → n + 0 ≡ n
  zero_last n = omega arith

  two_flags : (g m : Frag) → IsPartOf planes g f h → IsPartOf planes m f k → (b : Bool) → holds planes f p ≡ b → cond (holds planes g p) d 0 + cond (holds planes m p) d 0 ≡ cond b d 0
  two_flags g m first second false e = rw (none_of planes f g h first p is e, none_of planes f m k second p is e) (zero_first 0)
  two_flags g m first second true e = elim (sign_cases (value h p)) [
    | inl low ↦
        let there = up_there (value h p) (value k p) (other p) low in
        rw (no_flag (holds planes g p) (λ t. clash_here (value h p) low ((first.inside p is).0 (inside_from_held planes g p t)).1), in_front_of planes f m k second p is there e) (zero_first d)
    | inr (inl same) ↦ absurd (off e same)
    | inr (inr high) ↦ rw (in_front_of planes f g h first p is high e, no_flag (holds planes m p) (λ t. clash_there (value h p) (value k p) (other p) high ((second.inside p is).0 (inside_from_held planes m p t)).1)) (zero_last d)
  ]

  -- of two parts one has the point, if the whole has it
  pub held_by_two : (g m : Frag) → IsPartOf planes g f h → IsPartOf planes m f k → in_frag planes d p g + in_frag planes d p m ≡ in_frag planes d p f
  held_by_two g m first second = two_flags g m first second (holds planes f p) refl
