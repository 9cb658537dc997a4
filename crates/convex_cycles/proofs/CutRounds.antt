-- The edges that a cut makes of a convex cycle go round again.
use Rattle.std.proofs.Common.{◌≡◌, inl, inr, Bool, true, false, List, [], ◌∷◌, ◌++◌, pos, ◌≤ℤ◌, refl, sym, subst, ap, ◌∙◌}
use Rattle.spec_space.specs.declared.Point.{Point}
use Rattle.spec_space.specs.declared.Plane.{Plane}
use Rattle.spec_space.specs.Points.{value}
use Rattle.convex_cycles.specs.Sides.{is_in_front}
use Rattle.convex_cycles.specs.Cycles.{Step, IsEdgeOf, Follows, AreChained, IsRound}
use Rattle.convex_cycles.proofs.Lists.{Each, Member}
use Rattle.convex_cycles.proofs.Flags.{front_tells, front_flag}
use Rattle.convex_cycles.proofs.NewEdges.{leaving, entering, along}
use Rattle.convex_cycles.proofs.Keeping.{Enters, OneOrKept, apart, only_entering}
use Rattle.convex_cycles.proofs.Remains.{parts, cut_steps, AreFlags}

-- the edge v that enters
module _ (s k : Plane) (v : Step) (v_edge : IsEdgeOf s v) (v_enters : Enters k v) where
  -- an edge of the cycle that v enters
  abbrev pub Stands : Step → Type 0
  Stands e = IsEdgeOf s e × OneOrKept e v

  -- the last edge so far ends as e does where the end of e is kept; else it is on the cut, before the edge that enters
  abbrev pub EndsAs : Step → Step → Bool → Type 0
  EndsAs x e true = (x.end ≡ e.end) × (x.next ≡ e.next) × (x.side ≡ e.side)
  EndsAs x e false = Follows x (entering k v)

  follows_kept : (x e f : Step) → EndsAs x e true → Follows e f → Follows x f
  follows_kept x e f ends follows = (ends.0 ∙ follows.0, ends.1 ∙ follows.1, ends.2 ∙ follows.2)

  enters_once : (f : Step) → Stands f → Enters k f → f ≡ v
  enters_once f is nf = only_entering s k f v is.0 v_edge is.1 nf v_enters

  follows_entering : (x f : Step) → Stands f → Enters k f → Follows x (entering k v) → Follows x (entering k f)
  follows_entering x f is nf follows = subst (λ e. Follows x (entering k e)) (sym (enters_once f is nf)) follows

  -- one edge more
  walk_step : (x e f o : Step) (rest : List Step) (b c : Bool) → Stands f → AreFlags k f b c → EndsAs x e b → Follows e f → ((y : Step) → EndsAs y f c → AreChained y rest o) → AreChained x (parts k v f b c ++ rest) o
  walk_step x e f o rest true true is ff ends follows go = (follows_kept x e f ends follows, go f (refl, refl, refl))
  walk_step x e f o rest true false is ff ends follows go = (follows_kept x e f ends follows, ((refl, refl, refl), go (along k f v) (refl, refl, refl)))
  walk_step x e f o rest false true is ff ends follows go = (follows_entering x f is ff ends, go (entering k f) (refl, refl, refl))
  walk_step x e f o rest false false is ff ends follows go = go x ends

  moved : (x e : Step) (p : Point) (b : Bool) → e.end ≡ p → is_in_front k p ≡ b → EndsAs x e (is_in_front k e.end) → EndsAs x e b
  moved x e p b same flag ends = subst (EndsAs x e) (ap (is_in_front k) same ∙ flag) ends

  -- o follows what ends as an edge before `last`
  abbrev pub Closes : Step → Step → Type 0
  Closes o last = (x e : Step) → EndsAs x e (is_in_front k e.end) → Follows e last → Follows x o

  walk : (x e o last : Step) (fs : List Step) → Closes o last → Each Stands fs → EndsAs x e (is_in_front k e.end) → AreChained e fs last → AreChained x (cut_steps k v fs) o
  walk x e o last [] closes all ends chain = closes x e ends chain
  walk x e o last (f ∷ fs) closes all ends chain =
      walk_step x e f o (cut_steps k v fs) (is_in_front k f.start) (is_in_front k f.end) all.0 (front_tells k f.start, front_tells k f.end) (moved x e f.start (is_in_front k f.start) chain.0.0 refl ends) chain.0
      (λ y ends. walk y f o last fs closes all.1 ends chain.1)

  ends_with : (x e : Step) (c : Bool) → is_in_front k e.end ≡ c → EndsAs x e c → EndsAs x e (is_in_front k e.end)
  ends_with x e c flag ends = subst (EndsAs x e) (sym flag) ends

  -- an edge whose start is not kept: before it the last edge is on the cut
  closes_entering : (f last : Step) → Stands f → Enters k f → is_in_front k last.start ≡ false → Closes (entering k f) last
  closes_entering f last is nf flag x e ends follows = follows_entering x f is nf (moved x e last.start false follows.0 flag ends)

  closes_kept : (o last : Step) → is_in_front k last.start ≡ true → ((x e : Step) → EndsAs x e true → Follows e last → Follows x o) → Closes o last
  closes_kept o last flag h x e ends follows = h x e (moved x e last.start true follows.0 flag ends) follows

  -- the first edge that is left is the one that enters
  first_left : (f last : Step) (fs : List Step) (b c : Bool) → AreFlags k f b c → value k f.start ≤ℤ pos 0 → value k last.start ≤ℤ pos 0 → Stands f → Each Stands fs → AreChained f fs last
      → (Member v fs → value k f.end ≤ℤ pos 0 → IsRound (cut_steps k v fs)) → Member v (f ∷ fs) → IsRound (parts k v f b c ++ cut_steps k v fs)
  first_left f last fs true c ff out last_out is all chain rest m = absurd (apart k f.start f.start ff.0 out refl)
  first_left f last fs false true ff out last_out is all chain rest m =
      walk (entering k f) f (entering k f) last fs (closes_entering f last is ff (front_flag k last.start false last_out)) all (ends_with (entering k f) f true (front_flag k f.end true ff.1) (refl, refl, refl)) chain
  first_left f last fs false false ff out last_out is all chain rest (inl same) = absurd (apart k v.end f.end v_enters.1 ff.1 (ap (λ e. e.end) same))
  first_left f last fs false false ff out last_out is all chain rest (inr m) = rest m ff.1

  -- from an edge whose end is not kept
  skip : (e last : Step) (fs : List Step) → value k e.end ≤ℤ pos 0 → value k last.start ≤ℤ pos 0 → Member v fs → Each Stands fs → AreChained e fs last → IsRound (cut_steps k v fs)
  skip e last [] out last_out m all chain = absurd m
  skip e last (f ∷ fs) out last_out m all chain =
      first_left f last fs (is_in_front k f.start) (is_in_front k f.end) (front_tells k f.start, front_tells k f.end) (subst (λ p. value k p ≤ℤ pos 0) chain.0.0 out) last_out all.0 all.1 chain.1 (λ m out. skip f last fs out last_out m all.1 chain.1) m

  -- a whole round from its first edge f on
  round_from : (f : Step) (fs : List Step) (b c : Bool) → AreFlags k f b c → Stands f → Each Stands fs → AreChained f fs f → Member v (f ∷ fs) → IsRound (parts k v f b c ++ cut_steps k v fs)
  round_from f fs true true ff is all chain m =
      walk f f f f fs (closes_kept f f (front_flag k f.start true ff.0) (follows_to f)) all (ends_with f f true (front_flag k f.end true ff.1) (refl, refl, refl)) chain
    where
      follows_to : (f x e : Step) → EndsAs x e true → Follows e f → Follows x f
      follows_to f x e ends follows = follows_kept x e f ends follows
  round_from f fs true false ff is all chain m =
      ((refl, refl, refl), walk (along k f v) f (leaving k f) f fs (closes_kept (leaving k f) f (front_flag k f.start true ff.0) (follows_to f)) all (ends_with (along k f v) f false (front_flag k f.end false ff.1) (refl, refl, refl)) chain)
    where
      follows_to : (f x e : Step) → EndsAs x e true → Follows e f → Follows x (leaving k f)
      follows_to f x e ends follows = follows_kept x e f ends follows
  round_from f fs false c ff is all chain m = first_left f f fs false c ff ff.0 ff.0 is all chain (λ m out. skip f f fs out ff.0 m all chain) m

  pub cut_round : (steps : List Step) → Each Stands steps → IsRound steps → Member v steps → IsRound (cut_steps k v steps)
  cut_round [] all round m = absurd m
  cut_round (f ∷ fs) all round m = round_from f fs (is_in_front k f.start) (is_in_front k f.end) (front_tells k f.start, front_tells k f.end) all.0 all.1 round m
