-- Lines that lead from what was read to what is read with them.
use Rattle.std.proofs.Common.{◌≡◌, ℕ, Some, List, [], ◌++◌, refl, sym, ap, ◌∙◌, subst, append_assoc, append-nil}
use Rattle.obj_lines.specs.PageLines.{PageLine, line_text}
use Rattle.obj_read.specs.States.{State, step}
use Rattle.obj_read.proofs.Texts.{IsLineKept}

-- the text is that of lines within the limits, which lead from one to the other
pub data Leads : State → List ℕ → State → Type 0 where
  done : {s t : State} {text : List ℕ} → text ≡ [] → s ≡ t → Leads s text t
  more : {s t : State} {text : List ℕ} (l : PageLine) (u : State) (rest : List ℕ) → IsLineKept l → step s l ≡ Some u → text ≡ line_text l ++ rest → Leads u rest t → Leads s text t

pub to_same : {s t : State} {text : List ℕ} (u : State) → Leads s text t → t ≡ u → Leads s text u
to_same {s} {t} {text} u p e = let P : State → Type 0 = λ x. Leads s text x in subst P e p

pub of_same : {s t : State} {text : List ℕ} (other : List ℕ) → Leads s text t → text ≡ other → Leads s other t
of_same {s} {t} {text} other p e = let P : List ℕ → Type 0 = λ x. Leads s x t in subst P e p

pub joined : {s t u : State} {a b : List ℕ} → Leads s a t → Leads t b u → Leads s (a ++ b) u
joined {s} {t} {u} {a} {b} (done e same) q =
    let P : State → Type 0 = λ x. Leads x b u in
    let Q : List ℕ → Type 0 = λ x. Leads s (x ++ b) u in
    subst Q (sym e) (subst P (sym same) q)
joined {s} {t} {u} {a} {b} (more l x rest kept stepped e p) q =
    more l x (rest ++ b) kept stepped (ap (λ k. k ++ b) e ∙ append_assoc (line_text l) rest b) (joined p q)

pub one : (s : State) (l : PageLine) (t : State) → IsLineKept l → step s l ≡ Some t → Leads s (line_text l) t
one s l t kept stepped = more l t [] kept stepped (sym (append-nil (line_text l))) (done refl refl)
