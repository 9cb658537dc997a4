-- Lines that are looked up by their numbers.
use Rattle.std.proofs.Common.{◌≡◌, Bool, true, false, Option, Some, cond, refl, sym, subst}
use Rattle.std.specs.Prelude.{nat_eq, IfSome}
use Rattle.std.proofs.lemmas.Bool.{eqb-true}
use Rattle.edge_cut.specs.declared.lines.LineId.{LineId}
use Rattle.edge_cut.specs.Lines.{line_eq}
use Rattle.edge_cut.proofs.Cutting.{both}

line_from_eq : (a b : LineId) → line_eq a b ≡ true → a ≡ b
line_from_eq a b e =
    let same = both (nat_eq a.first.k b.first.k) (nat_eq a.second.k b.second.k) e in
    λ i. record { first = record { k = eqb-true a.first.k b.first.k same.0 i }; second = record { k = eqb-true a.second.k b.second.k same.1 i } }

-- one line more
pub line_next : {V : Type 0} (P : LineId → V → Type 0) (old new : LineId → Option V) (key : LineId) (v : V) → ((q : LineId) → new q ≡ cond (line_eq key q) (Some v) (old q)) → P key v
    → ((q : LineId) → IfSome (old q) (P q)) → (q : LineId) → IfSome (new q) (P q)
line_next P old new key v updates here before q = subst (λ o. IfSome o (P q)) (sym (updates q)) (step (line_eq key q) refl)
  where
    step : (b : Bool) → line_eq key q ≡ b → IfSome (cond b (Some v) (old q)) (P q)
    step true e = subst (λ k. P k v) (line_from_eq key q e) here
    step false e = before q
