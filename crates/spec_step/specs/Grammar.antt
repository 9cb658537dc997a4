-- The grammar of a file (ISO 10303-21, one DATA section): which tokens spell which head entries and instances.
use Rattle.std.specs.Prelude.{◌≡◌, ℕ, Bool, List, [], ◌∷◌, ◌++◌, map, drop, codes, true, false, All}
use Rattle.std.specs.List.{AllZip, flat_map}
use Rattle.std.specs.Str.{str_eq_ignore_ascii_case}
use Rattle.spec_num.specs.Decimals.{value}
use Rattle.spec_step.specs.Lexemes.{Lexeme}
use Rattle.spec_step.specs.declared.token.Span.{Span}
use Rattle.spec_step.specs.declared.token.TokenKind.{TokenKind}
use Rattle.spec_step.specs.declared.token.TokenKind.TheVariants as kind
use Rattle.spec_step.specs.declared.tree.Param.{Param}
use Rattle.spec_step.specs.declared.tree.Param.TheOpen.{Param-F}
use Rattle.spec_step.specs.declared.tree.Param.TheOpen as layer
use Rattle.spec_step.specs.declared.tree.Param.TheFolds.{fold-Param}
use Rattle.spec_step.specs.declared.tree.Entry.{Entry}
use Rattle.spec_step.specs.declared.tree.Body.{Body}
use Rattle.spec_step.specs.declared.tree.Body.TheVariants.{Simple, Complex}
use Rattle.spec_step.specs.declared.tree.Instance.{Instance}

-- what the grammar wants of a token
pub data Want : Type 0 where
  -- the word with which a file starts, and the one with which it ends
  start_word : Want
  end_word : Want
  -- this keyword, in letters of any case
  word : List ℕ → Want
  -- this mark
  mark : ℕ → Want
  -- a token of this kind, which spans these bytes
  spanned : TokenKind → Span → Want
  -- a keyword other than ENDSEC, which spans these bytes
  head_keyword : Span → Want
  -- a number of this value
  reference : ℕ → Want
  -- a number of this value, which begins here
  number : ℕ → ℕ → Want
  -- the semicolon that ends here
  ending : ℕ → Want

-- the letters are those of the word, in any case
abbrev pub spells_word : List ℕ → Lexeme → Bool
spells_word w l = str_eq_ignore_ascii_case l.text w

-- a token is as wanted
abbrev pub IsAs : Want → Lexeme → Type 0
IsAs start_word l = l.kind ≡ kind.StartWord
IsAs end_word l = l.kind ≡ kind.EndWord
IsAs (word w) l = (l.kind ≡ kind.Keyword) × (spells_word w l ≡ true)
IsAs (mark b) l = (l.kind ≡ kind.Mark) × (l.text ≡ b ∷ [])
IsAs (spanned k p) l = (l.kind ≡ k) × (l.span ≡ p)
IsAs (head_keyword p) l = (l.kind ≡ kind.Keyword) × (l.span ≡ p) × (spells_word (codes "ENDSEC") l ≡ false)
IsAs (reference n) l = (l.kind ≡ kind.Number) × (value (drop 1 l.text) ≡ n)
IsAs (number n from) l = (l.kind ≡ kind.Number) × (value (drop 1 l.text) ≡ n) × (l.span.from ≡ from)
IsAs (ending end) l = (l.kind ≡ kind.Mark) × (l.text ≡ codes ";") × (l.span.end ≡ end)

-- the marks
abbrev pub semicolon : Want
semicolon = mark 59

abbrev pub equals : Want
equals = mark 61

abbrev pub opening : Want
opening = mark 40

abbrev pub closing : Want
closing = mark 41

abbrev pub comma : Want
comma = mark 44

-- the parameters of a list behind the first, and what closes it
abbrev pub further : List (List Want) → List Want
further [] = closing ∷ []
further (p ∷ ps) = comma ∷ (p ++ further ps)

-- what stands behind the opening parenthesis of a list
abbrev pub members : List (List Want) → List Want
members [] = closing ∷ []
members (p ∷ ps) = p ++ further ps

abbrev pub layer_spelling : Param-F (List Want) → List Want
layer_spelling layer.Unset = mark 36 ∷ []
layer_spelling layer.Derived = mark 42 ∷ []
layer_spelling (layer.Int p) = spanned kind.Int p ∷ []
layer_spelling (layer.Real p) = spanned kind.Real p ∷ []
layer_spelling (layer.Text p) = spanned kind.Text p ∷ []
layer_spelling (layer.Enumeration p) = spanned kind.Enumeration p ∷ []
layer_spelling (layer.Binary p) = spanned kind.Binary p ∷ []
layer_spelling (layer.Reference n) = reference n ∷ []
layer_spelling (layer.List ps) = opening ∷ members ps
layer_spelling (layer.Typed k p) = spanned kind.Keyword k ∷ opening ∷ (p ++ closing ∷ [])

-- param = "$" | "*" | Int | Real | Text | Enumeration | Binary | Number
--       | "(" [ param { "," param } ] ")" | Keyword "(" param ")"
abbrev pub spelling : Param → List Want
spelling = fold-Param (List Want) layer_spelling

-- what stands behind the keyword of an entry
abbrev pub arguments : List Param → List Want
arguments ps = opening ∷ members (map spelling ps)

-- entry = Keyword "(" [ param { "," param } ] ")"
abbrev pub entry_spelling : Entry → List Want
entry_spelling e = spanned kind.Keyword e.keyword ∷ arguments e.params

-- head = entry ";", where a keyword that is ENDSEC begins none
abbrev pub head_spelling : Entry → List Want
head_spelling e = head_keyword e.keyword ∷ (arguments e.params ++ semicolon ∷ [])

abbrev pub body_spelling : Body → List Want
body_spelling (Simple e) = entry_spelling e
body_spelling (Complex es) = opening ∷ (flat_map entry_spelling es ++ closing ∷ [])

-- instance = Number "=" entry ";" | Number "=" "(" entry entry* ")" ";"
abbrev pub instance_spelling : Instance → List Want
instance_spelling i = number i.number i.from ∷ equals ∷ (body_spelling i.body ++ ending i.end ∷ [])

-- the end of a section
abbrev pub section_end : List Want
section_end = word (codes "ENDSEC") ∷ semicolon ∷ []

abbrev pub file_start : List Want
file_start = start_word ∷ semicolon ∷ word (codes "HEADER") ∷ semicolon ∷ []

abbrev pub data_start : List Want
data_start = section_end ++ word (codes "DATA") ∷ semicolon ∷ []

abbrev pub file_end : List Want
file_end = section_end ++ end_word ∷ semicolon ∷ []

-- file = StartWord ";" "HEADER" ";" head* "ENDSEC" ";" "DATA" ";" instance* "ENDSEC" ";" EndWord ";"
abbrev pub file_spelling : List Entry → List Instance → List Want
file_spelling head instances =
    ((file_start ++ flat_map head_spelling head) ++ data_start ++ flat_map instance_spelling instances) ++ file_end

-- the parentheses of a complex instance hold at least one entry
abbrev pub HasEntry : Body → Type 0
HasEntry (Simple e) = Unit {0}
HasEntry (Complex es) = es ≡ [] → ⊥

-- the tokens are a file of the grammar, with these head entries and these instances
pub record IsDerived (ls : List Lexeme) (head : List Entry) (instances : List Instance) : Type 0 where
  pub tokens : AllZip IsAs (file_spelling head instances) ls
  pub entries : All (λ i. HasEntry i.body) instances
