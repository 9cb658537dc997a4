use Rattle.std.proofs.Common.{◌≡◌, IfSome, true, sym, ◌∙◌, subst}
use Rattle.ifc_kinds.specs.Keywords.{is_keyword}
use Rattle.ifc_kinds.proofs.Found.{named, known}
use Rattle.ifc_kinds.proofs.kind.Kind.of.Goals as goal

pub returns-clause-named : goal.returns-clause-named
returns-clause-named c = subst (λ o. IfSome o (λ k. is_keyword k c.args.keyword.now ≡ true)) (sym c.kind_with.ensures) (named c.args.keyword.now)

pub returns-clause-known : goal.returns-clause-known
returns-clause-known c = λ k h. c.kind_with.ensures ∙ known c.args.keyword.now k h
