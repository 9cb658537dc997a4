-- The relations that void an element have one entry.
use Rattle.std.proofs.Common.{◌≡◌, ℕ, Bool, true, false, ◌&&◌, List, All, refl, sym, subst}
use Rattle.std.proofs.lemmas.List.Elements.{All-weaker, filter_passes}
use Rattle.spec_table.specs.Sections.{DataSection, IsSimple}
use Rattle.ifc_kinds.specs.declared.kind.Kind.TheVariants as kind
use Rattle.spec_entity.specs.Reads.{numbers_of}
use Rattle.spec_entity.specs.Elements.{voids}
use Rattle.spec_geometry.specs.Elements.{voiding}
use Rattle.entity_reader.proofs.Simple.{simple_kind}

first_of : (a b : Bool) → (a && b) ≡ true → a ≡ true
first_of true b h = refl
first_of false b h = h

pub listed_simple : (section : DataSection) (element : ℕ) (relations : List ℕ) → relations ≡ voiding section element → All (IsSimple section) relations
listed_simple section element relations is =
    subst (All (IsSimple section)) (sym is)
    (All-weaker (λ n. voids section element n ≡ true) (IsSimple section) (λ n h. simple_kind section n kind.RelVoidsElement (first_of _ _ h))
    (voiding section element) (filter_passes (voids section element) (numbers_of section)))
