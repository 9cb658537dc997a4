use Rattle.std.proofs.Common.{◌≡◌, ◌∙◌, ℕ, ◌<◌, suc, zero, List, [], true, false, take, drop, refl, sym, subst, arith}
use Rattle.std.proofs.Math.Nat.{add-sub_cancel_left}
use Rattle.std.proofs.lemmas.Bool.{true≢false}
use Rattle.std.proofs.lemmas.List.{take_rest}
use Rattle.spec_step.specs.Spelling.{is_spelled}
use Rattle.spec_step.specs.Longest.{IsLongest, NoToken}
use Rattle.spec_step.specs.Gaps.{Between}
use Rattle.spec_step.specs.declared.token.TokenKind.{TokenKind}
use Rattle.spec_step.specs.declared.token.TokenKind.TheVariants as kind
use Rattle.step_token.proofs.next.next_token.Goals as goal

no_bytes_spelled : (kind : TokenKind) → is_spelled kind [] ≡ false
no_bytes_spelled kind.StartWord = refl
no_bytes_spelled kind.EndWord = refl
no_bytes_spelled kind.Keyword = refl
no_bytes_spelled kind.Number = refl
no_bytes_spelled kind.Int = refl
no_bytes_spelled kind.Real = refl
no_bytes_spelled kind.Text = refl
no_bytes_spelled kind.Enumeration = refl
no_bytes_spelled kind.Binary = refl
no_bytes_spelled kind.Mark = refl

has_bytes : (bytes : List ℕ) (kind : TokenKind) (n : ℕ) → is_spelled kind (take n bytes) ≡ true → 0 < n
has_bytes bytes kind zero h = absurd (true≢false (sym h ∙ no_bytes_spelled kind))
has_bytes bytes kind (suc n) h = omega arith

pub returns-then-at-source : goal.returns-then-at-source
returns-then-at-source c = subst (Between c.args.source.now c.args.from) c.if-at-source.true c.skip-at.ensures.gap

pub returns-in-None : goal.returns-in-None
returns-in-None c =
    (c.skip-at.ensures, omega (arith, c.skip-at.ensures.within), subst (NoToken is_spelled) (take_rest c.args.source.now c.skip-at.result) c.in-None.ensures)

pub returns-in-Some : goal.returns-in-Some
returns-in-Some c =
    let at = c.skip-at.result in
    let n = c.in-Some.length in
    let longest : IsLongest is_spelled (drop at c.args.source.now) c.in-Some.kind n =
    subst (λ bytes. IsLongest is_spelled bytes c.in-Some.kind n) (take_rest c.args.source.now at) c.in-Some.ensures in
    let some : 0 < n = has_bytes (drop at c.args.source.now) c.in-Some.kind n longest.token in
    (c.skip-at.ensures, omega arith, rw (add-sub_cancel_left at n) longest)
