-- What a parameter stands for: a typed value stands for what it holds (a rule of this project).
use Rattle.std.specs.Prelude.{Option, Some, None}
use Rattle.spec_step.specs.declared.tree.Param.{Param, out-Param}
use Rattle.spec_step.specs.declared.tree.Param.TheOpen.{Param-F}
use Rattle.spec_step.specs.declared.tree.Param.TheOpen as layer
use Rattle.spec_step.specs.declared.tree.Param.TheFolds.{fold-Param}

abbrev pub layer_held_param : Param → Param-F Param → Param
layer_held_param whole (layer.Typed k p) = p
layer_held_param whole x = whole

-- what a typed value holds
abbrev pub held_param : Param → Param
held_param p = layer_held_param p (out-Param p)

abbrev pub layer_inwards : Param-F (Param → Param) → Param → Param
layer_inwards (layer.Typed k inwards) = λ whole. inwards (held_param whole)
layer_inwards x = λ whole. whole

-- what a parameter stands for: what stands in all typed values, one in another
abbrev pub innermost : Param → Param
innermost p = fold-Param (Param → Param) layer_inwards p p

abbrev pub layer_unless_unset : Param → Param-F Param → Option Param
layer_unless_unset whole layer.Unset = None
layer_unless_unset whole layer.Derived = None
layer_unless_unset whole x = Some whole

-- the parameter, but for one that stands for $ or *
abbrev pub unless_unset : Param → Option Param
unless_unset p = layer_unless_unset p (out-Param (innermost p))
