-- The canonical spelling of a text: its tokens in their order with no blanks and comments, keywords in capitals, and a
-- line feed behind each semicolon.
use Rattle.std.specs.Prelude.{◌≡◌, ℕ, List, [], ◌++◌, map, codes, if◌then◌else◌, All}
use Rattle.std.specs.List.{flat_map}
use Rattle.std.specs.Str.{str_to_ascii_uppercase}
use Rattle.spec_step.specs.Kinds.{is_keyword_kind}
use Rattle.spec_step.specs.Spans.{bytes_at}
use Rattle.spec_step.specs.Lexemes.{Lexeme, HasTokens}
use Rattle.spec_step.specs.Files.{IsFile, is_mark_of}
use Rattle.spec_step.specs.declared.token.Span.{Span}
use Rattle.spec_step.specs.declared.tree.Param.{Param}
use Rattle.spec_step.specs.declared.tree.Param.TheVariants as param
use Rattle.spec_step.specs.declared.tree.Param.TheOpen.{Param-F}
use Rattle.spec_step.specs.declared.tree.Param.TheOpen as layer
use Rattle.spec_step.specs.declared.tree.Param.TheFolds.{fold-Param}
use Rattle.spec_step.specs.declared.tree.Entry.{Entry}
use Rattle.spec_step.specs.declared.tree.Body.{Body}
use Rattle.spec_step.specs.declared.tree.Body.TheVariants.{Simple, Complex}
use Rattle.spec_step.specs.declared.tree.Instance.{Instance}

-- the bytes of a token, of a keyword in capitals
abbrev pub printed_bytes : Lexeme → List ℕ
printed_bytes l = if is_keyword_kind l.kind then str_to_ascii_uppercase l.text else l.text

-- and the line feed behind a semicolon
abbrev pub line_end : Lexeme → List ℕ
line_end l = if is_mark_of (codes ";") l then codes "\n" else []

abbrev pub canonical : List Lexeme → List ℕ
canonical ls = flat_map (λ l. printed_bytes l ++ line_end l) ls

-- the page is the canonical spelling of the text's tokens
abbrev pub IsCanonical : List ℕ → List ℕ → Type 0
IsCanonical s page = (ls : List Lexeme) × HasTokens s ls × (page ≡ canonical ls)

-- The same trees, with their spans elsewhere.

abbrev pub layer_moved : (Span → Span) → Param-F Param → Param
layer_moved move layer.Unset = param.Unset
layer_moved move layer.Derived = param.Derived
layer_moved move (layer.Int p) = param.Int (move p)
layer_moved move (layer.Real p) = param.Real (move p)
layer_moved move (layer.Text p) = param.Text (move p)
layer_moved move (layer.Enumeration p) = param.Enumeration (move p)
layer_moved move (layer.Binary p) = param.Binary (move p)
layer_moved move (layer.Reference n) = param.Reference n
layer_moved move (layer.List ps) = param.List ps
layer_moved move (layer.Typed k p) = param.Typed (move k) p

abbrev pub moved_param : (Span → Span) → Param → Param
moved_param move = fold-Param Param (layer_moved move)

abbrev pub moved_entry : (Span → Span) → Entry → Entry
moved_entry move e = record { keyword = move e.keyword; params = map (moved_param move) e.params }

abbrev pub moved_body : (Span → Span) → Body → Body
moved_body move (Simple e) = Simple (moved_entry move e)
moved_body move (Complex es) = Complex (map (moved_entry move) es)

abbrev pub moved_instance : (Span → Span) → Instance → Instance
moved_instance move i =
    let whole : Span = move (record { from = i.from; end = i.end }) in
    record { number = i.number; body = moved_body move i.body; from = whole.from; end = whole.end }

-- the page is a file with the same numbers, the same keywords in capitals, and parameters with the same texts
pub record IsReprint (s : List ℕ) (head : List Entry) (instances : List Instance) (page : List ℕ) : Type 0 where
  pub move : Span → Span
  pub texts : (ls : List Lexeme) → HasTokens s ls → All (λ l. bytes_at page (move l.span) ≡ printed_bytes l) ls
  pub file : IsFile page (map (moved_entry move) head) (map (moved_instance move) instances)
