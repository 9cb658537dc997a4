-- Files, and where and why a text is none.
use Rattle.std.specs.Prelude.{◌≡◌, ◌≢◌, ℕ, ◌+◌, ◌-◌, ◌≤◌, Bool, true, ◌&&◌, List, [], ◌∷◌, ◌++◌, codes, All, AllPairs, if◌then◌else◌}
use Rattle.std.specs.List.{Contains}
use Rattle.std.specs.Str.{str_eq_ignore_ascii_case, bytes_eq}
use Rattle.spec_step.specs.Kinds.{is_mark_kind}
use Rattle.spec_step.specs.Gaps.{IsNext, step_place}
use Rattle.spec_step.specs.Lexemes.{Lexeme, lexeme_of, IsToken, Reads, HasTokens}
use Rattle.spec_step.specs.Grammar.{IsDerived}
use Rattle.spec_step.specs.Spans.{bytes_at}
use Rattle.spec_step.specs.declared.token.Token.{Token}
use Rattle.spec_step.specs.declared.token.Span.{Span}
use Rattle.spec_step.specs.declared.token.TokenStep.{TokenStep}
use Rattle.spec_step.specs.declared.token.TokenStep.TheVariants.{Got, Bad, End}
use Rattle.spec_step.specs.declared.tree.Param.{Param}
use Rattle.spec_step.specs.declared.tree.Param.TheVariants as param
use Rattle.spec_step.specs.declared.tree.Entry.{Entry}
use Rattle.spec_step.specs.declared.tree.Instance.{Instance}
use Rattle.spec_step.specs.declared.fault.StepFault.{StepFault}
use Rattle.spec_step.specs.declared.fault.StepFault.TheVariants.{Syntax, Nested, Schema, DuplicateNumber, NoMemory}

-- Depth.

abbrev pub is_mark_of : List ℕ → Lexeme → Bool
is_mark_of text l = is_mark_kind l.kind && bytes_eq l.text text

-- how many parentheses stand open behind a token, where n stand open before it
abbrev pub open_after : ℕ → Lexeme → ℕ
open_after n l = if is_mark_of (codes "(") l then n + 1 else (if is_mark_of (codes ")") l then n - 1 else n)

-- how many parentheses stand open behind these tokens, where n stand open before them
abbrev pub open_behind : ℕ → List Lexeme → ℕ
open_behind n [] = n
open_behind n (l ∷ ls) = open_behind (open_after n l) ls

-- nowhere among the tokens stand more than 32 parentheses open
abbrev pub IsShallow : List Lexeme → Type 0
IsShallow ls = (front rest : List Lexeme) → ls ≡ front ++ rest → open_behind 0 front ≤ 32

-- Files.

-- the text is a file of the grammar, with these head entries and these instances
pub record IsFile (s : List ℕ) (head : List Entry) (instances : List Instance) : Type 0 where
  pub lexemes : List Lexeme
  pub tokens : HasTokens s lexemes
  pub derived : IsDerived lexemes head instances
  pub shallow : IsShallow lexemes

-- an entry of the header is FILE_SCHEMA, and its first parameter is a list with a text that is IFC4, letters of any case
pub record NamesSchema (s : List ℕ) (head : List Entry) : Type 0 where
  pub entry : Entry
  pub schemas : List Param
  pub others : List Param
  pub text : Span
  pub among : Contains head entry
  pub keyword : str_eq_ignore_ascii_case (bytes_at s entry.keyword) (codes "FILE_SCHEMA") ≡ true
  pub first : entry.params ≡ param.List schemas ∷ others
  pub member : Contains schemas (param.Text text)
  pub accepted : str_eq_ignore_ascii_case (bytes_at s text) (codes "'IFC4'") ≡ true

-- no two instances have one number
abbrev pub HasDistinctNumbers : List Instance → Type 0
HasDistinctNumbers instances = AllPairs (λ i j. i.number ≢ j.number) instances

-- the text is a file that passes the checks
pub record IsAccepted (s : List ℕ) (head : List Entry) (instances : List Instance) : Type 0 where
  pub file : IsFile s head instances
  pub schema : NamesSchema s head
  pub distinct : HasDistinctNumbers instances

-- Faults.

-- further tokens make a file of the grammar of these, however deep its parentheses
pub record BeginsFile (ls : List Lexeme) : Type 0 where
  pub more : List Lexeme
  pub head : List Entry
  pub instances : List Instance
  pub tokens : All IsToken more
  pub derived : IsDerived (ls ++ more) head instances

-- with what stands next these tokens begin no file, or the text ends there and they are none
abbrev pub BreaksOff : List ℕ → List Lexeme → TokenStep → Type 0
BreaksOff s ls (Got t) = BeginsFile (ls ++ lexeme_of s t ∷ []) → ⊥
BreaksOff s ls (Bad at) = Unit {0}
BreaksOff s ls End = (head : List Entry) (instances : List Instance) → IsDerived ls head instances → ⊥

-- the tokens before this place begin some file, and with the next none does, or the text ends here
pub record HasSyntaxFault (s : List ℕ) (at : ℕ) : Type 0 where
  pub before : List Lexeme
  pub to : ℕ
  pub step : TokenStep
  pub tokens : Reads s 0 before to
  pub begins : BeginsFile before
  pub shallow : IsShallow before
  pub next : IsNext s to step
  pub breaks : BreaksOff s before step
  pub place : at ≡ step_place s step

-- the token at this place may stand here, and opens the 33rd parenthesis that stands open
pub record HasNestedFault (s : List ℕ) (at : ℕ) : Type 0 where
  pub before : List Lexeme
  pub to : ℕ
  pub token : Token
  pub tokens : Reads s 0 before to
  pub shallow : IsShallow before
  pub next : IsNext s to (Got token)
  pub begins : BeginsFile (before ++ lexeme_of s token ∷ [])
  pub deep : open_behind 0 (before ++ lexeme_of s token ∷ []) ≡ 33
  pub place : at ≡ token.from

-- the second instance is the first in order whose number an earlier one has, and these are the two and their places
pub record RepeatsFirst (instances : List Instance) (n first second : ℕ) : Type 0 where
  pub before : List Instance
  pub one : Instance
  pub between : List Instance
  pub other : Instance
  pub behind : List Instance
  pub all : instances ≡ before ++ one ∷ (between ++ other ∷ behind)
  pub earlier : HasDistinctNumbers (before ++ one ∷ between)
  pub number_one : one.number ≡ n
  pub number_other : other.number ≡ n
  pub first_place : one.from ≡ first
  pub second_place : other.from ≡ second

-- a file whose header names no schema that is read
pub record LacksSchema (s : List ℕ) : Type 0 where
  pub head : List Entry
  pub instances : List Instance
  pub file : IsFile s head instances
  pub lacks : NamesSchema s head → ⊥

-- a file with a schema, in which a number is given twice
pub record HasDuplicate (s : List ℕ) (n first second : ℕ) : Type 0 where
  pub head : List Entry
  pub instances : List Instance
  pub file : IsFile s head instances
  pub schema : NamesSchema s head
  pub repeats : RepeatsFirst instances n first second

-- why a text is refused; want of memory is no cause that lies in the text
abbrev pub IsCause : List ℕ → StepFault → Type 0
IsCause s (Syntax at) = HasSyntaxFault s at
IsCause s (Nested at) = HasNestedFault s at
IsCause s Schema = LacksSchema s
IsCause s (DuplicateNumber n first second) = HasDuplicate s n first second
IsCause s NoMemory = ⊥
