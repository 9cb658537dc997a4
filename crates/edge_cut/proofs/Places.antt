-- The places of corners in a list that has grown.
use Rattle.std.proofs.Common.{◌≡◌, ℕ, zero, suc, ◌+◌, ◌<◌, List, [], ◌∷◌, ◌++◌, Some, length, take, slice_get, get_or, sym, ap, subst, ◌∙◌, append_assoc}
use Rattle.std.proofs.lemmas.List.{take_more}
use Rattle.plane_core.specs.declared.numbers.Corner.{Corner}
use Rattle.edge_cut.specs.Seen.{AreAt}
use Rattle.edge_cut.specs.Rounds.{IsGrown}

get_append : (xs ys : List Corner) (k : ℕ) (c : Corner) → slice_get xs k ≡ Some c → slice_get (xs ++ ys) k ≡ Some c
get_append [] ys k c e = cc
get_append (x ∷ xs) ys zero c e = e
get_append (x ∷ xs) ys (suc k) c e = get_append xs ys k c e

pub at_append : (keys more : List Corner) (ps : List ℕ) (cs : List Corner) → AreAt keys ps cs → AreAt (keys ++ more) ps cs
at_append keys more [] [] a = tt
at_append keys more (p ∷ ps) (c ∷ cs) a = (get_append keys more p c a.0, at_append keys more ps cs a.1)
at_append keys more _ _ a = absurd a

at_push : (keys : List Corner) (ps : List ℕ) (cs : List Corner) (p : ℕ) (c : Corner) → AreAt keys ps cs → slice_get keys p ≡ Some c → AreAt keys (ps ++ p ∷ []) (cs ++ c ∷ [])
at_push keys [] [] p c a e = (e, tt)
at_push keys (q ∷ ps) (d ∷ cs) p c a e = (a.0, at_push keys ps cs p c a.1 e)
at_push keys _ _ p c a e = absurd a

-- one corner more has its place
pub at_next : (old new : List Corner) (ps next : List ℕ) (around : List Corner) (i place : ℕ) (c : Corner) → i < length around → c ≡ get_or around i c
    → IsGrown old new → slice_get new place ≡ Some c → next ≡ ps ++ place ∷ [] → AreAt old ps (take i around) → AreAt new next (take (i + 1) around)
at_next old new ps next around i place c below item grown at items a =
    subst (λ qs. AreAt new qs (take (i + 1) around)) (sym items)
    (subst (AreAt new (ps ++ place ∷ [])) (sym (take_more around i c below ∙ ap (λ d. take i around ++ d ∷ []) (sym item)))
    (at_push new ps (take i around) place c (subst (λ keys. AreAt keys ps (take i around)) (sym grown.1) (at_append old grown.0 ps (take i around) a)) at))

pub grown_next : (old mid new : List Corner) → IsGrown old mid → IsGrown mid new → IsGrown old new
grown_next old mid new g h = (g.0 ++ h.0, h.1 ∙ ap (λ cs. cs ++ h.0) g.1 ∙ append_assoc old g.0 h.0)
