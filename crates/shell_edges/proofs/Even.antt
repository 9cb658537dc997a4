-- A shell is open nowhere exactly where each two places are joined by an even number of its edges.
use Rattle.std.proofs.Common.{◌≡◌, inl, inr, Bool, true, false, ◌&&◌, List, Option, Some, None, refl, sym, ap, ◌∙◌}
use Rattle.std.specs.Prelude.{◌↔◌, IsNone}
use Rattle.spec_space.specs.declared.Vector.{Vector}
use Rattle.spec_shell.specs.Edges.{Edge, AreEven, is_same_place, is_before, joins, oddly, open_edge}
use Rattle.shell_edges.specs.Odd.{is_odd}
use Rattle.shell_edges.proofs.Orders.{is_same, one_before, not_before_itself}
use Rattle.shell_edges.proofs.Odds.{none_odd, open_none, oddly_turned}

even_between : (es : List Edge) → ((f : Edge) → is_odd es f ≡ false) → (u v : Vector) → is_before u v ≡ true → oddly (joins u v) es ≡ false
even_between es h u v first = sym (ap (λ s. s && oddly (joins u v) es) first) ∙ h (u, v)

pub even_where_none : (es : List Edge) → open_edge es ≡ None → AreEven es
even_where_none es e u v apart = elim (one_before u v (differs (is_same_place u v) refl)) [
  | inl first ↦ even_between es odd u v first
  | inr second ↦ sym (oddly_turned u v es) ∙ even_between es odd v u second.0
]
  where
    odd : (f : Edge) → is_odd es f ≡ false
    odd = none_odd es e

    differs : (s : Bool) → is_same_place u v ≡ s → s ≡ false
    differs true h = absurd (apart (is_same u v h))
    differs false h = refl

pub none_where_even : (es : List Edge) → AreEven es → open_edge es ≡ None
none_where_even es even = sym (open_none es (λ f. by f (is_before f.0 f.1) refl))
  where
    no : true ≡ false → ⊥
    no e = cc

    by : (f : Edge) (s : Bool) → is_before f.0 f.1 ≡ s → (s && oddly (joins f.0 f.1) es) ≡ false
    by f false h = refl
    by f true h = even f.0 f.1 (λ same. no (sym h ∙ ap (λ v. is_before f.0 v) (sym same) ∙ not_before_itself f.0))

-- by what was found
pub none_exactly : (es : List Edge) (o : Option Edge) → o ≡ open_edge es → IsNone o ↔ AreEven es
none_exactly es None e = (λ none. even_where_none es (sym e), λ even. refl)
none_exactly es (Some f) e = (λ none. absurd (no none), λ even. absurd (some (e ∙ none_where_even es even)))
  where
    no : true ≡ false → ⊥
    no e = cc

    some : Some f ≡ None → ⊥
    some e = cc
