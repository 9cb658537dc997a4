-- What every reader of elements reads, if the numbers of the section are short.
use Rattle.std.proofs.Common.{ℕ, Bool, true, false, cond, List, [], ◌∷◌, map, filter, codes, Option, Some, None, refl}
use Rattle.std.specs.Str.{str_eq_ignore_ascii_case}
use Rattle.spec_step.specs.declared.tree.Param.{Param}
use Rattle.spec_step.specs.declared.tree.Instance.{Instance}
use Rattle.spec_table.specs.Sections.{DataSection}
use Rattle.spec_table.specs.Attributes.{attr_ref, attr_real, attr_enum, attr_list}
use Rattle.ifc_kinds.specs.declared.kind.Kind.{Kind}
use Rattle.ifc_kinds.specs.declared.kind.Kind.TheVariants as kind
use Rattle.spec_refusal.specs.Reads.{Read}
use Rattle.spec_entity.specs.Reads.{wanted_value, numbers_of, instance_of_kinds, named_instance, member_instance, if_any, members, number, wanted_number}
use Rattle.spec_entity.specs.Operators.{operator_named, operator}
use Rattle.spec_entity.specs.Points.{two_or_three, ratio}
use Rattle.spec_entity.specs.Elements.{Representation, has_element_kind, elements, is_body, if_body, body_in, or_next, body_representation, body_representation_of, representation}
use Rattle.spec_check.specs.Limits.{IsShort}
use Rattle.table_limits.proofs.Kept.{IsKept, IsFew, few_short, Each, read, refused, onward, tested, either}
use Rattle.table_limits.proofs.Trees.{IsShortParam, IsShortList}
use Rattle.table_limits.proofs.Tables.{IsShortInstance, IsShortSection, Any, IfSet, ref_kept, real_kept, wanted_kept, attr_ref_kept, attr_real_kept, attr_enum_kept, attr_text_kept, attr_list_kept}

if_any_kept : (at position : ℕ) (ps : List Param) → IsShort at → IsShort position → IsShortList ps → IsKept IsShortList (if_any at position ps)
if_any_kept at position [] a p h = refused (a, p)
if_any_kept at position (q ∷ qs) a p h = read h

operator_named_kept : (n : ℕ) (text : List ℕ) → IsShort n → IsKept Any (operator_named n text)
operator_named_kept n text h =
    either (str_eq_ignore_ascii_case text (codes "UNION")) (read tt)
    (either (str_eq_ignore_ascii_case text (codes "INTERSECTION")) (read tt)
    (either (str_eq_ignore_ascii_case text (codes "DIFFERENCE")) (read tt) (refused (h, few_short refl))))

-- a representation of a section with short numbers
pub record IsShortRepresentation (r : Representation) : Type 0 where
  pub number : IsShort r.0
  pub items : IsShortList r.1

or_next_kept : (o : Option Representation) (rest : Read (Option Representation)) → IfSet IsShortRepresentation o → IsKept (IfSet IsShortRepresentation) rest → IsKept (IfSet IsShortRepresentation) (or_next o rest)
or_next_kept None rest h k = k
or_next_kept (Some r) rest h k = read h

-- Numbers of a file.

numbers_each : (is : List Instance) → Each IsShortInstance is → Each IsShort (map (λ i. i.number) is)
numbers_each [] h = tt
numbers_each (i ∷ is) h = (h.0.number, numbers_each is h.1)

one_more : {X : Type 0} (P : X → Type 0) (b : Bool) (x : X) (xs : List X) → P x → Each P xs → Each P (cond b (x ∷ xs) xs)
one_more P true x xs h k = (h, k)
one_more P false x xs h k = k

pub filter_each : {X : Type 0} (P : X → Type 0) (test : X → Bool) (xs : List X) → Each P xs → Each P (filter test xs)
filter_each P test [] h = tt
filter_each P test (x ∷ xs) h = one_more P (test x) x (filter test xs) h.0 (filter_each P test xs h.1)

module _ (section : DataSection) (short : IsShortSection section) where
  pub numbers_short : Each IsShort (numbers_of section)
  numbers_short = numbers_each section.instances short

  pub elements_short : Each IsShort (elements section)
  elements_short = filter_each IsShort (has_element_kind section) (numbers_of section) numbers_short

  pub kinds_kept : (kinds : List Kind) (n : ℕ) → IsShort n → IsKept IsShort (instance_of_kinds section kinds n)
  kinds_kept kinds n h = tested _ _ h (read h)

  pub wanted_ref : (at position : ℕ) → IsShort at → IsFew position → IsKept IsShort (wanted_value at position (attr_ref section at position))
  wanted_ref at position a p = wanted_kept at position (attr_ref section at position) a (few_short p) (attr_ref_kept section short at position a (few_short p))

  pub named_kept : (kinds : List Kind) (at position : ℕ) → IsShort at → IsFew position → IsKept IsShort (named_instance section kinds at position)
  named_kept kinds at position a p = onward (wanted_ref at position a p) (λ n h. kinds_kept kinds n h)

  pub member_kept : (at position : ℕ) (q : Param) → IsShort at → IsFew position → IsShortParam q → IsKept IsShort (member_instance section at position q)
  member_kept at position q a p h = ref_kept section at position q a (few_short p) h

  pub members_kept : (at position : ℕ) → IsShort at → IsFew position → IsKept IsShortList (members section at position)
  members_kept at position a p =
      onward (wanted_kept at position (attr_list section at position) a (few_short p) (attr_list_kept section short at position a (few_short p)))
      (λ ps h. if_any_kept at position ps a (few_short p) h)

  pub number_kept : (at position : ℕ) (q : Param) → IsShort at → IsFew position → IsKept Any (number section at position q)
  number_kept at position q a p = real_kept section at position q a (few_short p)

  pub wanted_number_kept : (at position : ℕ) → IsShort at → IsFew position → IsKept Any (wanted_number section at position)
  wanted_number_kept at position a p = wanted_kept at position (attr_real section at position) a (few_short p) (attr_real_kept section short at position a (few_short p))

  pub operator_kept : (n : ℕ) → IsShort n → IsKept Any (operator section n)
  operator_kept n h =
      onward (wanted_kept n 1 (attr_enum section n 1) h (few_short refl) (attr_enum_kept section short n 1 h (few_short refl)))
      (λ text _. operator_named_kept n text h)

  pub two_or_three_kept : (n : ℕ) → IsShort n → IsKept IsShortList (two_or_three section n)
  two_or_three_kept n h = onward (members_kept n 1 h refl) (λ ps k. tested _ _ (h, few_short refl) (read k))

  pub ratio_kept : (n : ℕ) (q : Param) → IsShort n → IsKept Any (ratio section n q)
  ratio_kept n q h = onward (number_kept n 1 q h refl) (λ v _. tested _ _ h (read tt))

  -- Representations.

  if_body_kept : (n : ℕ) (o : Option (List ℕ)) → IsShort n → IsKept (IfSet IsShortRepresentation) (if_body section n o)
  if_body_kept n o h =
      either (is_body o) (onward (members_kept n 4 h refl) (λ ms k. read (record { number = h; items = k }))) (read tt)

  body_in_kept : (shape : ℕ) (q : Param) → IsShort shape → IsShortParam q → IsKept (IfSet IsShortRepresentation) (body_in section shape q)
  body_in_kept shape q s h =
      onward (member_kept shape 3 q s refl h) (λ m a.
      onward (kinds_kept (kind.ShapeRepresentation ∷ []) m a) (λ n b.
      onward (attr_text_kept section short n 2 b (few_short refl)) (λ o _. if_body_kept n o b)))

  bodies_kept : (shape : ℕ) (ps : List Param) → IsShort shape → Each IsShortParam ps → IsKept (IfSet IsShortRepresentation) (body_representation section shape ps)
  bodies_kept shape [] s h = read tt
  bodies_kept shape (q ∷ qs) s h = onward (body_in_kept shape q s h.0) (λ o k. or_next_kept o (body_representation section shape qs) k (bodies_kept shape qs s h.1))

  body_kept : (o : Option ℕ) → IfSet IsShort o → IsKept (IfSet IsShortRepresentation) (body_representation_of section o)
  body_kept None h = read tt
  body_kept (Some n) h =
      onward (kinds_kept (kind.ProductDefinitionShape ∷ []) n h) (λ shape s.
      onward (members_kept shape 3 s refl) (λ ps k. bodies_kept shape ps s k.each))

  pub representation_kept : (product : ℕ) → IsShort product → IsKept (IfSet IsShortRepresentation) (representation section product)
  representation_kept product h = onward (attr_ref_kept section short product 7 h (few_short refl)) (λ o k. body_kept o k)
