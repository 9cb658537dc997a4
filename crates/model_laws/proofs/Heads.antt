-- The front of a model file as templates: the entries of its header, and its first instances.
use Rattle.std.proofs.Common.{◌≡◌, List, [], ◌∷◌, ◌++◌, refl, arith, codes}
use Rattle.std.specs.Fmt.{digits}
use Rattle.std.specs.List.{AllByRecursion, flat_map}
use Rattle.spec_step.specs.Lexemes.{Lexeme}
use Rattle.spec_step.specs.Canonical.{canonical}
use Rattle.model_gen.specs.Model as text
use Rattle.file_templates.proofs.Templates.{Atom, derived, int, real, text, enumeration, Argument, one, list, Call, Line, head_tokens, line_tokens, start_tokens, data_tokens}
use Rattle.file_templates.proofs.Spelled.{IsSpelledHead, IsSpelledLine}
use Rattle.file_templates.proofs.Numbers.{Rise}
use Rattle.model_laws.proofs.Lines.{line, nothing, named, one_named, text_of, empty, axes}

-- a list of an empty text
abbrev empty_list : Argument
empty_list = list (text (codes "''") ∷ [])

-- the entries of the header, one by one, and all
abbrev pub description : Call
description = record { keyword = codes "FILE_DESCRIPTION"; arguments = empty_list ∷ text_of (codes "'2;1'") ∷ [] }

abbrev pub file_name : Call
file_name = record { keyword = codes "FILE_NAME"; arguments = empty ∷ empty ∷ empty_list ∷ empty_list ∷ empty ∷ empty ∷ empty ∷ [] }

abbrev pub schema_text : Atom
schema_text = text (codes "'IFC4'")

abbrev pub schema : Call
schema = record { keyword = codes "FILE_SCHEMA"; arguments = list (schema_text ∷ []) ∷ [] }

abbrev pub header : List Call
header = description ∷ file_name ∷ schema ∷ []

-- the real 0
abbrev zero_atom : Atom
zero_atom = real (codes "0.")

-- the instances before the walls: the unit of a millimetre, the project, and the direction upwards
abbrev pub first_lines : List Line
first_lines =
    line 1 (codes "IFCSIUNIT") (one derived ∷ one (enumeration (codes ".LENGTHUNIT.")) ∷ one (enumeration (codes ".MILLI.")) ∷ one (enumeration (codes ".METRE.")) ∷ [])
    ∷ line 2 (codes "IFCUNITASSIGNMENT") (one_named 1 ∷ [])
    ∷ line 3 (codes "IFCCARTESIANPOINT") (list (zero_atom ∷ zero_atom ∷ zero_atom ∷ []) ∷ [])
    ∷ axes 4 3
    ∷ line 5 (codes "IFCGEOMETRICREPRESENTATIONCONTEXT") (nothing ∷ text_of (codes "'Model'") ∷ one (int (codes "3")) ∷ one (real (codes "1.E-5")) ∷ named 4 ∷ nothing ∷ [])
    ∷ line 6 (codes "IFCPROJECT") (text_of (codes "'1'") ∷ nothing ∷ text_of (codes "'p'") ∷ nothing ∷ nothing ∷ nothing ∷ nothing ∷ one_named 5 ∷ named 2 ∷ [])
    ∷ line 8 (codes "IFCDIRECTION") (list (zero_atom ∷ zero_atom ∷ real (codes "1.") ∷ []) ∷ [])
    ∷ []

-- the tokens up to the first wall, and their text
abbrev pub front_tokens : List Lexeme
front_tokens = ((start_tokens ++ flat_map head_tokens header) ++ data_tokens) ++ flat_map line_tokens first_lines

pub front_text : (more : List Lexeme) → canonical (front_tokens ++ more) ≡ text.head ++ canonical more
unfolding digits
front_text more = refl

pub header_spelled : AllByRecursion IsSpelledHead header
header_spelled = (
  record { call = record { keyword = refl; arguments = ((refl, tt), (refl, tt)) }; no_end = refl },
  (
    record { call = record { keyword = refl; arguments = (refl, (refl, ((refl, tt), ((refl, tt), (refl, (refl, (refl, tt))))))) }; no_end = refl },
    (record { call = record { keyword = refl; arguments = ((refl, tt), tt) }; no_end = refl }, tt),
  ),
)

pub first_rise : Rise 1 first_lines 100
first_rise = omega arith

pub first_spelled : AllByRecursion IsSpelledLine first_lines
first_spelled = (
  record { number = omega arith; call = record { keyword = refl; arguments = (tt, (refl, (refl, (refl, tt)))) } },
  (
    record { number = omega arith; call = record { keyword = refl; arguments = ((omega arith, tt), tt) } },
    (
      record { number = omega arith; call = record { keyword = refl; arguments = ((refl, (refl, (refl, tt))), tt) } },
      (
        record { number = omega arith; call = record { keyword = refl; arguments = (omega arith, (tt, (tt, tt))) } },
        (
          record { number = omega arith; call = record { keyword = refl; arguments = (tt, (refl, (refl, (refl, (omega arith, (tt, tt)))))) } },
          (
            record { number = omega arith; call = record { keyword = refl; arguments = (refl, (tt, (refl, (tt, (tt, (tt, (tt, ((omega arith, tt), (omega arith, tt))))))))) } },
            (record { number = omega arith; call = record { keyword = refl; arguments = ((refl, (refl, (refl, tt))), tt) } }, tt),
          ),
        ),
      ),
    ),
  ),
)
