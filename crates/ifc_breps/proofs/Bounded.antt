-- A list that is read has members.
use Rattle.std.proofs.Common.{◌≡◌, ℕ, ◌≤◌, List, [], ◌∷◌, length, Result, Ok, Err, IfOk, subst, sym, arith}
use Rattle.std.specs.Borrow.{Bor}
use Rattle.spec_step.specs.declared.tree.Param.{Param}
use Rattle.spec_table.specs.Sections.{DataSection}
use Rattle.spec_table.specs.Attributes.{attr_list}
use Rattle.spec_refusal.specs.declared.Refusal.{Refusal}
use Rattle.spec_refusal.specs.Reads.{Read, next}
use Rattle.spec_entity.specs.Reads.{wanted_value, if_any, members}
use Rattle.entity_reader.specs.Lent.{plain_read}

some_found : (at position : ℕ) (ps : List Param) (r : Read (List Param)) → Ok ps ≡ next r (if_any at position) → 1 ≤ length ps
some_found at position ps (Ok []) e = absurd (cc)
some_found at position ps (Ok (x ∷ xs)) e = let h : ps ≡ x ∷ xs = cc in subst (λ l. 1 ≤ length l) (sym h) (omega arith)
some_found at position ps (Err refusal) e = absurd (cc)

some_members : (section : DataSection) (at position : ℕ) (ps : List Param) → Ok ps ≡ members section at position → 1 ≤ length ps
some_members section at position ps e = some_found at position ps (wanted_value at position (attr_list section at position)) e

pub members_some : (section : DataSection) (at position : ℕ) (r : Result (Bor (List Param)) Refusal) → plain_read r ≡ members section at position → IfOk r (λ ps. 1 ≤ length ps.now)
members_some section at position (Ok ps) e = some_members section at position ps.now e
members_some section at position (Err refusal) e = tt
