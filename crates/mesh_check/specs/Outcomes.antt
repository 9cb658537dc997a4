-- What is found of one element.
use Rattle.std.specs.Prelude.{ℕ}
use Rattle.spec_page.specs.Element.{Element}
use Rattle.spec_check.specs.Verdicts.{IsSoundElement, IsFaultOf}
use Rattle.spec_check.specs.declared.Verdict.{Verdict}
use Rattle.spec_check.specs.declared.Verdict.TheVariants.{Sound, FarCorner, OffPlane, NotConvex, Unbalanced, WrongVolume}

-- the element is sound, or this is wrong with it, where so many corners and faces stand before it
abbrev pub IsOutcome : ℕ → ℕ → ℕ → Element → Verdict → Type 0
IsOutcome grid corners faces e Sound = IsSoundElement grid e
IsOutcome grid corners faces e (FarCorner v) = IsFaultOf grid corners faces e (FarCorner v)
IsOutcome grid corners faces e (OffPlane face) = IsFaultOf grid corners faces e (OffPlane face)
IsOutcome grid corners faces e (NotConvex face) = IsFaultOf grid corners faces e (NotConvex face)
IsOutcome grid corners faces e (Unbalanced u v) = IsFaultOf grid corners faces e (Unbalanced u v)
IsOutcome grid corners faces e (WrongVolume n) = IsFaultOf grid corners faces e (WrongVolume n)
