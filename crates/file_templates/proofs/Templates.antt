-- Templates of a file: what its lines say, without the places at which they stand; the tokens of which they are printed, and
-- the trees that they are at a place.
use Rattle.std.proofs.Common.{ℕ, ◌+◌, List, [], ◌∷◌, ◌++◌, length, codes}
use Rattle.std.specs.Fmt.{decimal}
use Rattle.std.specs.List.{flat_map}
use Rattle.spec_step.specs.Lexemes.{Lexeme}
use Rattle.spec_step.specs.Canonical.{printed_bytes, line_end}
use Rattle.spec_step.specs.declared.token.Span.{Span}
use Rattle.spec_step.specs.declared.token.TokenKind.{TokenKind}
use Rattle.spec_step.specs.declared.token.TokenKind.TheVariants as kind
use Rattle.spec_step.specs.declared.tree.Param.{Param}
use Rattle.spec_step.specs.declared.tree.Param.TheVariants as param
use Rattle.spec_step.specs.declared.tree.Entry.{Entry}
use Rattle.spec_step.specs.declared.tree.Body.TheVariants.{Simple}
use Rattle.spec_step.specs.declared.tree.Instance.{Instance}

-- a parameter that is no list
pub data Atom : Type 0 where
  unset : Atom
  derived : Atom
  -- these with their bytes
  int : List ℕ → Atom
  real : List ℕ → Atom
  text : List ℕ → Atom
  enumeration : List ℕ → Atom
  -- the number of an instance
  reference : ℕ → Atom

-- a parameter: an atom, or a list of atoms
pub data Argument : Type 0 where
  one : Atom → Argument
  list : List Atom → Argument

-- a keyword and its parameters
pub record Call : Type 0 where
  pub keyword : List ℕ
  pub arguments : List Argument

-- an instance: its number, and what it is
pub record Line : Type 0 where
  pub number : ℕ
  pub call : Call

-- Tokens, wherever they stand.

-- a token of a kind with these bytes
abbrev pub token : TokenKind → List ℕ → Lexeme
token k bytes = record { kind = k; span = record { from = 0; end = 0 }; text = bytes }

-- a mark, a number of an instance, and an atom
abbrev pub mark_token : ℕ → Lexeme
mark_token b = token kind.Mark (b ∷ [])

abbrev pub number_token : ℕ → Lexeme
number_token n = token kind.Number (35 ∷ decimal n)

abbrev pub atom_token : Atom → Lexeme
atom_token unset = mark_token 36
atom_token derived = mark_token 42
atom_token (int bytes) = token kind.Int bytes
atom_token (real bytes) = token kind.Real bytes
atom_token (text bytes) = token kind.Text bytes
atom_token (enumeration bytes) = token kind.Enumeration bytes
atom_token (reference n) = number_token n

abbrev pub atom_tokens : Atom → List Lexeme
atom_tokens a = atom_token a ∷ []

-- the tokens of a list behind its first member, and those behind its opening parenthesis
abbrev pub further_tokens : {X : Type 0} → (X → List Lexeme) → List X → List Lexeme
further_tokens f [] = mark_token 41 ∷ []
further_tokens f (x ∷ xs) = mark_token 44 ∷ (f x ++ further_tokens f xs)

abbrev pub member_tokens : {X : Type 0} → (X → List Lexeme) → List X → List Lexeme
member_tokens f [] = mark_token 41 ∷ []
member_tokens f (x ∷ xs) = f x ++ further_tokens f xs

abbrev pub list_tokens : {X : Type 0} → (X → List Lexeme) → List X → List Lexeme
list_tokens f xs = mark_token 40 ∷ member_tokens f xs

-- the tokens of a parameter, and of a keyword with its parameters
abbrev pub argument_tokens : Argument → List Lexeme
argument_tokens (one a) = atom_tokens a
argument_tokens (list atoms) = list_tokens atom_tokens atoms

abbrev pub call_tokens : Call → List Lexeme
call_tokens c = token kind.Keyword c.keyword ∷ list_tokens argument_tokens c.arguments

-- an entry of the header, and an instance
abbrev pub head_tokens : Call → List Lexeme
head_tokens c = call_tokens c ++ mark_token 59 ∷ []

abbrev pub line_tokens : Line → List Lexeme
line_tokens l = number_token l.number ∷ mark_token 61 ∷ (call_tokens l.call ++ mark_token 59 ∷ [])

-- what frames a file
abbrev pub start_tokens : List Lexeme
start_tokens = token kind.StartWord (codes "ISO-10303-21") ∷ mark_token 59 ∷ token kind.Keyword (codes "HEADER") ∷ mark_token 59 ∷ []

abbrev pub section_tokens : List Lexeme
section_tokens = token kind.Keyword (codes "ENDSEC") ∷ mark_token 59 ∷ []

abbrev pub data_tokens : List Lexeme
data_tokens = section_tokens ++ token kind.Keyword (codes "DATA") ∷ mark_token 59 ∷ []

abbrev pub end_tokens : List Lexeme
end_tokens = section_tokens ++ token kind.EndWord (codes "END-ISO-10303-21") ∷ mark_token 59 ∷ []

-- a file of a header and instances
abbrev pub file_tokens : List Call → List Line → List Lexeme
file_tokens head lines = ((start_tokens ++ flat_map head_tokens head) ++ data_tokens ++ flat_map line_tokens lines) ++ end_tokens

-- Trees, by the place at which they stand.

-- the place behind tokens that are printed from a place on
abbrev pub behind : ℕ → List Lexeme → ℕ
behind at [] = at
behind at (l ∷ ls) = behind (at + length (printed_bytes l ++ line_end l)) ls

-- where a token stands that is printed at a place
abbrev pub span_at : ℕ → Lexeme → Span
span_at at l = record { from = at; end = at + length (printed_bytes l) }

-- an atom that stands at a place
abbrev pub atom_param : ℕ → Atom → Param
atom_param at unset = param.Unset
atom_param at derived = param.Derived
atom_param at (int bytes) = param.Int (span_at at (token kind.Int bytes))
atom_param at (real bytes) = param.Real (span_at at (token kind.Real bytes))
atom_param at (text bytes) = param.Text (span_at at (token kind.Text bytes))
atom_param at (enumeration bytes) = param.Enumeration (span_at at (token kind.Enumeration bytes))
atom_param at (reference n) = param.Reference n

-- the members of a list behind its first, where the comma before them stands at a place
abbrev pub further_params : {X : Type 0} → (X → List Lexeme) → (ℕ → X → Param) → ℕ → List X → List Param
further_params f p at [] = []
further_params f p at (x ∷ xs) =
    p (behind at (mark_token 44 ∷ [])) x ∷ further_params f p (behind (behind at (mark_token 44 ∷ [])) (f x)) xs

-- the members of a list, where its opening parenthesis stands at a place
abbrev pub member_params : {X : Type 0} → (X → List Lexeme) → (ℕ → X → Param) → ℕ → List X → List Param
member_params f p at [] = []
member_params f p at (x ∷ xs) =
    p (behind at (mark_token 40 ∷ [])) x ∷ further_params f p (behind (behind at (mark_token 40 ∷ [])) (f x)) xs

-- the parameter, and the keyword with its parameters
abbrev pub argument_param : ℕ → Argument → Param
argument_param at (one a) = atom_param at a
argument_param at (list atoms) = param.List (member_params atom_tokens atom_param at atoms)

abbrev pub call_entry : ℕ → Call → Entry
call_entry at c = record {
  keyword = span_at at (token kind.Keyword c.keyword);
  params = member_params argument_tokens argument_param (behind at (token kind.Keyword c.keyword ∷ [])) c.arguments;
}

-- the place of what an instance is, and that of its semicolon
abbrev pub call_place : ℕ → Line → ℕ
call_place at l = behind at (number_token l.number ∷ mark_token 61 ∷ [])

abbrev pub ending_place : ℕ → Line → ℕ
ending_place at l = behind (call_place at l) (call_tokens l.call)

-- the instance, from its number to its semicolon
abbrev pub line_instance : ℕ → Line → Instance
line_instance at l = record {
  number = l.number;
  body = Simple (call_entry (call_place at l) l.call);
  from = at;
  end = (span_at (ending_place at l) (mark_token 59)).end;
}

-- what stands from a place on, one behind the other
abbrev pub in_order : {X T : Type 0} → (X → List Lexeme) → (ℕ → X → T) → ℕ → List X → List T
in_order f tree at [] = []
in_order f tree at (x ∷ xs) = tree at x ∷ in_order f tree (behind at (f x)) xs

-- where the entries of the header and the instances begin
abbrev pub head_place : ℕ
head_place = behind 0 start_tokens

abbrev pub data_place : List Call → ℕ
data_place head = behind 0 ((start_tokens ++ flat_map head_tokens head) ++ data_tokens)

-- the entries of the header, and the instances, as they stand in the file
abbrev pub head_of : List Call → List Entry
head_of head = in_order head_tokens call_entry head_place head

abbrev pub instances_of : List Call → List Line → List Instance
instances_of head lines = in_order line_tokens line_instance (data_place head) lines
