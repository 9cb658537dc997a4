-- Books that have grown, and what stands under their numbers.
use Rattle.std.proofs.Common.{◌≡◌, ℕ, ◌<◌, ◌≤◌, ◌+◌, Bool, List, length, slice_get, Some, refl, sym, ◌∙◌, arith}
use Rattle.std.proofs.lemmas.Option.{slice_get_within}
use Rattle.spec_space.specs.declared.Plane.{Plane}
use Rattle.plane_core.specs.declared.numbers.Plane.{Plane as BookPlane}
use Rattle.plane_cells.specs.declared.steps.Step.{Step}
use Rattle.triangle_trees.specs.Forms.{IsGrown, IsSideOf, HasFormOf}

pub grown_itself : (n : ℕ) (ps : List BookPlane) → IsGrown n ps ps
grown_itself n ps = record { same = λ k h. refl; longer = omega arith; most = omega arith }

pub grown_further : (m n o : ℕ) (a b c : List BookPlane) → m + n ≤ o → IsGrown m a b → IsGrown n b c → IsGrown o a c
grown_further m n o a b c enough p q = record {
  same = λ k h. q.same k (further k (length a) (length b) h p.longer) ∙ p.same k h;
  longer = let i = p.longer in let j = q.longer in omega arith;
  most = let i = p.most in let j = q.most in omega arith;
}
  where
    further : (k i j : ℕ) → k < i → i ≤ j → k < j
    further k i j h l = omega arith

pub grown_more : (m n : ℕ) (a b : List BookPlane) → m ≤ n → IsGrown m a b → IsGrown n a b
grown_more m n a b enough p = record { same = p.same; longer = p.longer; most = let i = p.most in omega arith }

-- a book with one plane added
pub grown_by_one : (a b : List BookPlane) → ((k : ℕ) → k < length a → slice_get b k ≡ slice_get a k) → (length a ≤ length b) × (length b ≤ length a + 1) → IsGrown 1 a b
grown_by_one a b same grown = record { same = same; longer = grown.0; most = grown.1 }

module _ (n : ℕ) (old new : List BookPlane) (grown : IsGrown n old new) where
  pub at_kept : (k : ℕ) (p : BookPlane) → slice_get old k ≡ Some p → slice_get new k ≡ Some p
  at_kept k p at = grown.same k (slice_get_within old k p at) ∙ at

  pub side_kept : (p : BookPlane) (f : Bool) (s : Step) → IsSideOf old p f s → IsSideOf new p f s
  side_kept p f s is = record { number = at_kept s.plane.k p is.number; side = is.side }

  pub form_kept : (ks : List Plane) (k : ℕ) → HasFormOf old ks k → HasFormOf new ks k
  form_kept ks k f = (f.0, f.1, at_kept k f.0 f.2, f.3, f.4)

  pub form_same : (ks : List Plane) (k : ℕ) → HasFormOf old ks k → slice_get new k ≡ slice_get old k
  form_same ks k f = grown.same k (slice_get_within old k f.0 f.2)

-- ---- planes added one after another
pub grown_two : (a b c : List BookPlane) → IsGrown 1 a b → IsGrown 1 b c → IsGrown 2 a c
grown_two a b c p q = grown_further 1 1 2 a b c (omega arith) p q

pub grown_three : (a b c d : List BookPlane) → IsGrown 1 a b → IsGrown 1 b c → IsGrown 1 c d → IsGrown 3 a d
grown_three a b c d p q r = grown_further 2 1 3 a c d (omega arith) (grown_two a b c p q) r

pub grown_four : (a b c d e : List BookPlane) → IsGrown 1 a b → IsGrown 1 b c → IsGrown 1 c d → IsGrown 1 d e → IsGrown 4 a e
grown_four a b c d e p q r s = grown_further 3 1 4 a d e (omega arith) (grown_three a b c d p q r) s
