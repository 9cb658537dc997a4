-- An instance of a kind has one entry.
use Rattle.std.proofs.Common.{◌≡◌, ℕ, Bool, true, false, ◌||◌, List, [], ◌∷◌, Vec, Option, Some, None, Result, Ok, Err, IfOk, All, refl, sym, ◌∙◌, ap, subst}
use Rattle.std.proofs.lemmas.List.Elements.{All-weaker, filter_passes}
use Rattle.std.proofs.lemmas.Bool.{true≢false}
use Rattle.std.specs.List.{list_any}
use Rattle.spec_step.specs.declared.tree.Entry.{Entry}
use Rattle.spec_step.specs.declared.tree.Body.{Body}
use Rattle.spec_step.specs.declared.tree.Body.TheVariants.{Simple, Complex}
use Rattle.spec_step.specs.declared.tree.Instance.{Instance}
use Rattle.spec_table.specs.Sections.{DataSection, instance_of, IsSimple}
use Rattle.ifc_kinds.specs.Keywords.{element_kinds}
use Rattle.ifc_kinds.specs.declared.kind.Kind.{Kind}
use Rattle.spec_entity.specs.Reads.{body_has_kind, instance_has_kind, has_kind, is_one_of, numbers_of}
use Rattle.spec_entity.specs.Elements.{has_element_kind, elements}

simple_body : (text : List ℕ) (k : Kind) (b : Body) → body_has_kind text k b ≡ true → (e : Entry) × (b ≡ Simple e)
simple_body text k (Simple e) h = (e, refl)
simple_body text k (Complex es) h = absurd (true≢false (sym h))

pub simple_instance : (text : List ℕ) (k : Kind) (o : Option Instance) → instance_has_kind text k o ≡ true → (i : Instance) × (e : Entry) × (o ≡ Some i) × (i.body ≡ Simple e)
simple_instance text k (Some i) h = let b = simple_body text k i.body h in (i, b.0, refl, b.1)
simple_instance text k None h = absurd (true≢false (sym h))

pub simple_kind : (section : DataSection) (n : ℕ) (k : Kind) → has_kind section n k ≡ true → IsSimple section n
simple_kind section n k h = simple_instance section.text k (instance_of section n) h

here_or_later : (section : DataSection) (n : ℕ) (k : Kind) (ks : List Kind) (b : Bool) → has_kind section n k ≡ b → (b || list_any (has_kind section n) ks) ≡ true
    → (list_any (has_kind section n) ks ≡ true → IsSimple section n) → IsSimple section n
here_or_later section n k ks true e h later = simple_kind section n k e
here_or_later section n k ks false e h later = later h

-- a test of each kind, by the instance that was found
pub found_kind : (text : List ℕ) (i : Instance) (ks : List Kind) (o : Option Instance) → o ≡ Some i
    → list_any (λ k. body_has_kind text k i.body) ks ≡ list_any (λ k. instance_has_kind text k o) ks
found_kind text i ks o e = ap (λ o. list_any (λ k. instance_has_kind text k o) ks) (sym e)

passed_by_none : (text : List ℕ) (ks : List Kind) → list_any (λ k. instance_has_kind text k None) ks ≡ false
passed_by_none text [] = refl
passed_by_none text (k ∷ ks) = passed_by_none text ks

pub missing_kind : (text : List ℕ) (ks : List Kind) (o : Option Instance) → o ≡ None → false ≡ list_any (λ k. instance_has_kind text k o) ks
missing_kind text ks o e = sym (ap (λ o. list_any (λ k. instance_has_kind text k o) ks) e ∙ passed_by_none text ks)

pub simple_kinds : (section : DataSection) (n : ℕ) (ks : List Kind) → is_one_of section ks n ≡ true → IsSimple section n
simple_kinds section n [] h = absurd (true≢false (sym h))
simple_kinds section n (k ∷ ks) h = here_or_later section n k ks (has_kind section n k) refl h (simple_kinds section n ks)

all_simple : (section : DataSection) (ns : List ℕ) → All (λ n. has_element_kind section n ≡ true) ns → All (IsSimple section) ns
all_simple section ns pass = All-weaker (λ n. has_element_kind section n ≡ true) (IsSimple section) (λ n h. simple_kinds section n element_kinds h) ns pass

pub elements_simple : {E A : Type 0} (section : DataSection) (r : Result (Vec ℕ A) E) → IfOk r (λ numbers. numbers.items ≡ elements section) → IfOk r (λ numbers. All (IsSimple section) numbers.items)
elements_simple section (Ok numbers) e = subst (All (IsSimple section)) (sym e) (all_simple section (elements section) (filter_passes (has_element_kind section) (numbers_of section)))
elements_simple section (Err error) e = tt

pub elements_kinds : {E A : Type 0} (section : DataSection) (r : Result (Vec ℕ A) E) → IfOk r (λ numbers. numbers.items ≡ elements section) → IfOk r (λ numbers. All (λ n. has_element_kind section n ≡ true) numbers.items)
elements_kinds section (Ok numbers) e = subst (All (λ n. has_element_kind section n ≡ true)) (sym e) (filter_passes (has_element_kind section) (numbers_of section))
elements_kinds section (Err error) e = tt
