-- What a parameter stands for, layer by layer.
use Rattle.std.proofs.Common.{◌≡◌, ◌<◌, ℕ, zero, suc, sym, refl, ◌∙◌, ap, arith}
use Rattle.spec_step.specs.declared.token.Span.{Span}
use Rattle.spec_step.specs.declared.tree.Param.{Param, out-Param}
use Rattle.spec_step.specs.declared.tree.Param.TheVariants as param
use Rattle.spec_step.specs.declared.tree.Param.TheOpen.{Param-F}
use Rattle.spec_step.specs.declared.tree.Param.TheOpen as layer
use Rattle.spec_step.specs.declared.tree.Param.TheViews.{roll-Param, out-roll-Param}
use Rattle.spec_step.specs.declared.tree.Param.TheFolds.{fold-Param, fold-roll-Param}
use denote.Hole.Carrier.{roll}
use Rattle.spec_table.specs.Innermost.{layer_held_param, held_param, layer_inwards, innermost}

abbrev layer_depth : Param-F ℕ → ℕ
layer_depth (layer.Typed k n) = suc n
layer_depth x = zero

-- how many typed values stand around what a parameter stands for
abbrev pub depth : Param → ℕ
depth = fold-Param ℕ layer_depth

typed_rolled : (k : Span) (p : Param) → roll-Param (layer.Typed k p) ≡ param.Typed k p
unfolding roll-Param roll
typed_rolled k p = refl

depth_typed : (k : Span) (p : Param) → depth (param.Typed k p) ≡ suc (depth p)
depth_typed k p = ap depth (sym (typed_rolled k p)) ∙ fold-roll-Param ℕ layer_depth (layer.Typed k p)

held_typed : (k : Span) (p : Param) → held_param (param.Typed k p) ≡ p
held_typed k p = ap (layer_held_param (param.Typed k p)) (ap out-Param (sym (typed_rolled k p)) ∙ out-roll-Param (layer.Typed k p))

-- the way inwards from a parameter
abbrev inwards : Param → Param → Param
inwards = fold-Param (Param → Param) layer_inwards

inwards_typed : (k : Span) (p : Param) → inwards (param.Typed k p) ≡ (λ whole. inwards p (held_param whole))
inwards_typed k p = ap inwards (sym (typed_rolled k p)) ∙ fold-roll-Param (Param → Param) layer_inwards (layer.Typed k p)

-- a typed value stands for what it holds
innermost_typed : (k : Span) (p : Param) → innermost (param.Typed k p) ≡ innermost p
innermost_typed k p = ap (λ (f : Param → Param). f (param.Typed k p)) (inwards_typed k p) ∙ ap (inwards p) (held_typed k p)

-- one step inwards
pub shallower : (whole : Param) (k : Span) (p q : Param) → whole ≡ param.Typed k p → q ≡ p → depth q < depth whole
shallower whole k p q e h = omega (arith, ap depth e ∙ depth_typed k p, ap depth h)

pub same_innermost : (whole : Param) (k : Span) (p q : Param) → whole ≡ param.Typed k p → q ≡ p → innermost q ≡ innermost whole
same_innermost whole k p q e h = ap innermost h ∙ sym (ap innermost e ∙ innermost_typed k p)
