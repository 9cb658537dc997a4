-- Templates that are well spelled: each of their tokens is one.
use Rattle.std.proofs.Common.{◌≡◌, true, false, List, [], ◌∷◌, ◌++◌, refl, codes}
use Rattle.std.specs.List.{AllByRecursion, flat_map}
use Rattle.spec_step.specs.Spelling.{is_spelled}
use Rattle.spec_step.specs.Lexemes.{Lexeme, IsToken}
use Rattle.spec_step.specs.Grammar.{spells_word}
use Rattle.spec_step.specs.declared.token.TokenKind.TheVariants as kind
use Rattle.step_print.proofs.Capitals.{printed_text}
use Rattle.file_templates.proofs.Templates.{Atom, unset, derived, int, real, text, enumeration, reference, Argument, one, list, Call, Line, token, mark_token, atom_tokens, further_tokens, list_tokens, argument_tokens, call_tokens, head_tokens, line_tokens, start_tokens, data_tokens, end_tokens, file_tokens}
use Rattle.file_templates.proofs.Decimals.{IsShortNumber, number_spelled}

-- the bytes of an atom are those of its kind
abbrev pub IsSpelledAtom : Atom → Type 0
IsSpelledAtom unset = Unit {0}
IsSpelledAtom derived = Unit {0}
IsSpelledAtom (int bytes) = is_spelled kind.Int bytes ≡ true
IsSpelledAtom (real bytes) = is_spelled kind.Real bytes ≡ true
IsSpelledAtom (text bytes) = is_spelled kind.Text bytes ≡ true
IsSpelledAtom (enumeration bytes) = is_spelled kind.Enumeration bytes ≡ true
IsSpelledAtom (reference n) = IsShortNumber n

-- and so are the atoms of a parameter
abbrev pub IsSpelledArgument : Argument → Type 0
IsSpelledArgument (one a) = IsSpelledAtom a
IsSpelledArgument (list atoms) = AllByRecursion IsSpelledAtom atoms

-- the keyword is one, and the parameters are well spelled
pub record IsSpelledCall (c : Call) : Type 0 where
  pub keyword : is_spelled kind.Keyword c.keyword ≡ true
  pub arguments : AllByRecursion IsSpelledArgument c.arguments

-- an entry of the header, which is not the end of its section
pub record IsSpelledHead (c : Call) : Type 0 where
  pub call : IsSpelledCall c
  pub no_end : spells_word (codes "ENDSEC") (token kind.Keyword (printed_text kind.Keyword c.keyword)) ≡ false

-- an instance of a short number
pub record IsSpelledLine (l : Line) : Type 0 where
  pub number : IsShortNumber l.number
  pub call : IsSpelledCall l.call

-- Their tokens.

abbrev AreTokens : List Lexeme → Type 0
AreTokens ls = AllByRecursion IsToken ls

tokens_both : (xs ys : List Lexeme) → AreTokens xs → AreTokens ys → AreTokens (xs ++ ys)
tokens_both [] ys h k = k
tokens_both (x ∷ xs) ys h k = (h.0, tokens_both xs ys h.1 k)

module _ {X : Type 0} (f : X → List Lexeme) (P : X → Type 0) (are : (x : X) → P x → AreTokens (f x)) where
  further_are : (xs : List X) → AllByRecursion P xs → AreTokens (further_tokens f xs)
  further_are [] h = (refl, tt)
  further_are (x ∷ xs) h = (refl, tokens_both (f x) (further_tokens f xs) (are x h.0) (further_are xs h.1))

  list_are : (xs : List X) → AllByRecursion P xs → AreTokens (list_tokens f xs)
  list_are [] h = (refl, (refl, tt))
  list_are (x ∷ xs) h = (refl, tokens_both (f x) (further_tokens f xs) (are x h.0) (further_are xs h.1))

  flat_are : (xs : List X) → AllByRecursion P xs → AreTokens (flat_map f xs)
  flat_are [] h = tt
  flat_are (x ∷ xs) h = tokens_both (f x) (flat_map f xs) (are x h.0) (flat_are xs h.1)

atom_are : (a : Atom) → IsSpelledAtom a → AreTokens (atom_tokens a)
atom_are unset h = (refl, tt)
atom_are derived h = (refl, tt)
atom_are (int bytes) h = (h, tt)
atom_are (real bytes) h = (h, tt)
atom_are (text bytes) h = (h, tt)
atom_are (enumeration bytes) h = (h, tt)
atom_are (reference n) h = (number_spelled n h, tt)

argument_are : (x : Argument) → IsSpelledArgument x → AreTokens (argument_tokens x)
argument_are (one a) h = atom_are a h
argument_are (list atoms) h = list_are atom_tokens IsSpelledAtom atom_are atoms h

call_are : (c : Call) → IsSpelledCall c → AreTokens (call_tokens c)
call_are c h = (h.keyword, list_are argument_tokens IsSpelledArgument argument_are c.arguments h.arguments)

head_are : (c : Call) → IsSpelledHead c → AreTokens (head_tokens c)
head_are c h = tokens_both (call_tokens c) (mark_token 59 ∷ []) (call_are c h.call) (refl, tt)

line_are : (l : Line) → IsSpelledLine l → AreTokens (line_tokens l)
line_are l h = (number_spelled l.number h.number, (refl, tokens_both (call_tokens l.call) (mark_token 59 ∷ []) (call_are l.call h.call) (refl, tt)))

pub file_are : (head : List Call) (lines : List Line) → AllByRecursion IsSpelledHead head → AllByRecursion IsSpelledLine lines → AllByRecursion IsToken (file_tokens head lines)
file_are head lines h k =
    let heads : List Lexeme = start_tokens ++ flat_map head_tokens head in
    let all : List Lexeme = flat_map line_tokens lines in
    tokens_both ((heads ++ data_tokens) ++ all) end_tokens
    (tokens_both (heads ++ data_tokens) all
    (tokens_both heads data_tokens
    (tokens_both start_tokens (flat_map head_tokens head) (refl, (refl, (refl, (refl, tt)))) (flat_are head_tokens IsSpelledHead head_are head h))
    (refl, (refl, (refl, (refl, tt)))))
    (flat_are line_tokens IsSpelledLine line_are lines k))
    (refl, (refl, (refl, (refl, tt))))
