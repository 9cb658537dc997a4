-- What is read of parameters that are enumerations, references and lists.
use Rattle.std.proofs.Common.{◌≡◌, ℕ, List, Option, Some, Ok, Err, true, refl, ◌∙◌, ap}
use Rattle.std.specs.Prelude.{is_some, if◌then◌else◌}
use Rattle.std.specs.Option.{option_and_then}
use Rattle.spec_step.specs.Spans.{bytes_at}
use Rattle.spec_step.specs.declared.token.Span.{Span}
use Rattle.spec_step.specs.declared.tree.Param.{Param, out-Param}
use Rattle.spec_step.specs.declared.tree.Param as rolled
use Rattle.spec_step.specs.declared.tree.Param.TheVariants as param
use Rattle.spec_step.specs.declared.tree.Param.TheOpen.{Param-F}
use Rattle.spec_step.specs.declared.tree.Param.TheOpen as layer
use Rattle.spec_step.specs.declared.tree.Param.TheViews.{out-roll-Param}
use Rattle.spec_step.specs.declared.tree.Param.TheFolds.{fold-roll-Param}
use Rattle.spec_table.specs.Sections.{DataSection, instance_of, param_of}
use Rattle.spec_table.specs.declared.fault.AttrFault.TheVariants.{Dangling}
use Rattle.spec_table.specs.Innermost.{layer_inwards, innermost, layer_unless_unset, unless_unset}
use Rattle.spec_table.specs.Attributes.{Reading, inside, layer_enum, read_enum, layer_ref, read_ref, layer_list, read_list, some_of, if_set, attr_enum, attr_ref, attr_list}

-- what a parameter stands for that is no typed value
out_enumeration : (p : Span) → out-Param (innermost (param.Enumeration p)) ≡ layer.Enumeration p
unfolding rolled.roll-Param denote.Hole.Carrier.roll
out_enumeration p =
    ap (λ (f : Param → Param). out-Param (f (param.Enumeration p))) (fold-roll-Param (Param → Param) layer_inwards (layer.Enumeration p)) ∙ out-roll-Param (layer.Enumeration p)

out_reference : (n : ℕ) → out-Param (innermost (param.Reference n)) ≡ layer.Reference n
unfolding rolled.roll-Param denote.Hole.Carrier.roll
out_reference n =
    ap (λ (f : Param → Param). out-Param (f (param.Reference n))) (fold-roll-Param (Param → Param) layer_inwards (layer.Reference n)) ∙ out-roll-Param (layer.Reference n)

out_list : (ps : List Param) → out-Param (innermost (param.List ps)) ≡ layer.List ps
unfolding rolled.roll-Param denote.Hole.Carrier.roll
out_list ps =
    ap (λ (f : Param → Param). out-Param (f (param.List ps))) (fold-roll-Param (Param → Param) layer_inwards (layer.List ps)) ∙ out-roll-Param (layer.List ps)

set_by : {T : Type 0} (read : Param → Reading T) (q : Param) (x : Param-F Param) → out-Param (innermost q) ≡ x → layer_unless_unset q x ≡ Some q
    → if_set read (unless_unset q) ≡ some_of (read q)
set_by read q x e f = ap (λ y. if_set read (layer_unless_unset q y)) e ∙ ap (if_set read) f

module _ (section : DataSection) (n position : ℕ) where
  abbrev read_of : {T : Type 0} → (Param → Reading T) → Option Param → Reading (Option T)
  read_of read o = if_set read (option_and_then unless_unset o)

  pub enumeration_read : (p : Span) → param_of section n position ≡ Some (param.Enumeration p) → attr_enum section n position ≡ Ok (Some (inside (bytes_at section.text p)))
  enumeration_read p e =
      ap (read_of (read_enum section n position)) e
      ∙ set_by (read_enum section n position) (param.Enumeration p) (layer.Enumeration p) (out_enumeration p) refl
      ∙ ap (λ x. some_of (layer_enum section n position x)) (out_enumeration p)

  pub member_read : (m : ℕ) → is_some (instance_of section m) ≡ true → read_ref section n position (param.Reference m) ≡ Ok m
  member_read m h = ap (layer_ref section n position) (out_reference m) ∙ ap (λ b. if b then Ok m else Err (Dangling n m)) h

  pub reference_read : (m : ℕ) → param_of section n position ≡ Some (param.Reference m) → is_some (instance_of section m) ≡ true → attr_ref section n position ≡ Ok (Some m)
  reference_read m e h =
      ap (read_of (read_ref section n position)) e
      ∙ set_by (read_ref section n position) (param.Reference m) (layer.Reference m) (out_reference m) refl
      ∙ ap some_of (member_read m h)

  pub list_read : (ps : List Param) → param_of section n position ≡ Some (param.List ps) → attr_list section n position ≡ Ok (Some ps)
  list_read ps e =
      ap (read_of (read_list n position)) e
      ∙ set_by (read_list n position) (param.List ps) (layer.List ps) (out_list ps) refl
      ∙ ap (λ x. some_of (layer_list n position x)) (out_list ps)
