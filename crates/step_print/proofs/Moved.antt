-- The trees of a file with their spans on the page are those of the page.
use Rattle.std.proofs.Common.{◌≡◌, ℕ, ◌+◌, ◌<◌, ◌≤◌, false, ◌==◌, ◌&&◌, List, [], ◌∷◌, ◌++◌, length, drop, ◌-◌, get_or, map, refl, sym, ◌∙◌, ap, arith, subst, inl, inr, cond, codes, All}
use Rattle.std.proofs.lemmas.Bool.{cases_Bool, eqb-true, eq-eqb}
use Rattle.std.proofs.lemmas.List.{map-append}
use Rattle.std.proofs.lemmas.Simd.{map-map}
use Rattle.std.proofs.lemmas.List.Elements.{All-map}
use Rattle.std.specs.List.{AllZip, AllByRecursion, flat_map}
use Rattle.std.specs.Str.{str_to_ascii_uppercase, str_eq_ignore_ascii_case, bytes_eq}
use Rattle.spec_num.specs.Decimals.{value}
use Rattle.spec_step.specs.Kinds.{is_keyword_kind, is_mark_kind}
use Rattle.spec_step.specs.Spans.{bytes_at}
use Rattle.spec_step.specs.Lexemes.{Lexeme, lexeme_of, Reads}
use Rattle.spec_step.specs.Files.{IsShallow, open_after, open_behind, is_mark_of}
use Rattle.spec_step.specs.Canonical.{printed_bytes, line_end, layer_moved, moved_param, moved_entry, moved_body, moved_instance}
use Rattle.spec_step.specs.Grammar.{Want, start_word, end_word, word, mark, spanned, head_keyword, reference, number, ending, opening, closing, semicolon, spells_word, IsAs, further, members, layer_spelling, spelling, entry_spelling, head_spelling, body_spelling, instance_spelling, file_start, data_start, file_end, file_spelling, HasEntry}
use Rattle.spec_step.specs.declared.token.Span.{Span}
use Rattle.spec_step.specs.declared.token.Token.{Token}
use Rattle.spec_step.specs.declared.token.TokenKind.{TokenKind}
use Rattle.spec_step.specs.declared.token.TokenKind.TheVariants as kind
use Rattle.spec_step.specs.declared.tree.Param.{Param}
use Rattle.spec_step.specs.declared.tree.Param.TheOpen.{Param-F}
use Rattle.spec_step.specs.declared.tree.Param.TheOpen as layer
use Rattle.spec_step.specs.declared.tree.Param.TheViews.{roll-Param}
use Rattle.spec_step.specs.declared.tree.Param.TheFolds.{ind-Param, fold-roll-Param, map-Param}
use denote.Hole.Carrier.{roll}
use Rattle.spec_step.specs.declared.tree.Entry.{Entry}
use Rattle.spec_step.specs.declared.tree.Body.{Body}
use Rattle.spec_step.specs.declared.tree.Body.TheVariants.{Simple, Complex}
use Rattle.spec_step.specs.declared.tree.Instance.{Instance}
use Rattle.step_print.proofs.Capitals.{same_letters, printed_mark}
use Rattle.step_print.proofs.Spelled.{map_known}
use Rattle.step_print.proofs.Placed.{placed}
use Rattle.step_token.proofs.Places.{got_from}

-- What the grammar wants of the printed tokens, where tokens that begin at x begin at `begin x` on the page, and those
-- that end at x end at `close x`.

module _ (begin close : ℕ → ℕ) where
  abbrev pub move : Span → Span
  move p = record { from = begin p.from; end = close p.end }

  abbrev pub moved_want : Want → Want
  moved_want start_word = start_word
  moved_want end_word = end_word
  moved_want (word w) = word w
  moved_want (mark b) = mark b
  moved_want (spanned k p) = spanned k (move p)
  moved_want (head_keyword p) = head_keyword (move p)
  moved_want (reference n) = reference n
  moved_want (number n from) = number n (begin from)
  moved_want (ending end) = ending (close end)

  -- the second is the first, as it is printed
  pub record IsPrinted (l m : Lexeme) : Type 0 where
    pub kind : m.kind ≡ l.kind
    pub span : m.span ≡ move l.span
    pub text : m.text ≡ printed_bytes l

-- a parameter is spelled as before, with its spans elsewhere
module _ (begin close : ℕ → ℕ) where
  abbrev there : Want → Want
  there = moved_want begin close

  abbrev goes : Span → Span
  goes = move begin close

  further_moved : {X : Type 0} (f g : X → List Want) → ((x : X) → f x ≡ map there (g x)) → (xs : List X) → further (map f xs) ≡ map there (further (map g xs))
  further_moved f g h [] = refl
  further_moved f g h (x ∷ xs) =
      ap (λ l. mark 44 ∷ (l ++ further (map f xs))) (h x) ∙ ap (λ l. mark 44 ∷ (map there (g x) ++ l)) (further_moved f g h xs)
      ∙ ap (λ l. mark 44 ∷ l) (sym (map-append there (g x) (further (map g xs))))

  members_moved : {X : Type 0} (f g : X → List Want) → ((x : X) → f x ≡ map there (g x)) → (xs : List X) → members (map f xs) ≡ map there (members (map g xs))
  members_moved f g h [] = refl
  members_moved f g h (x ∷ xs) =
      ap (λ l. l ++ further (map f xs)) (h x) ∙ ap (λ l. map there (g x) ++ l) (further_moved f g h xs)
      ∙ sym (map-append there (g x) (further (map g xs)))

  abbrev moved_layer : Param-F Param → Param-F Param
  moved_layer layer.Unset = layer.Unset
  moved_layer layer.Derived = layer.Derived
  moved_layer (layer.Int p) = layer.Int (goes p)
  moved_layer (layer.Real p) = layer.Real (goes p)
  moved_layer (layer.Text p) = layer.Text (goes p)
  moved_layer (layer.Enumeration p) = layer.Enumeration (goes p)
  moved_layer (layer.Binary p) = layer.Binary (goes p)
  moved_layer (layer.Reference n) = layer.Reference n
  moved_layer (layer.List ps) = layer.List ps
  moved_layer (layer.Typed k p) = layer.Typed (goes k) p

  rolled : (y : Param-F Param) → roll-Param (moved_layer y) ≡ layer_moved goes y
  unfolding roll-Param roll
  rolled layer.Unset = refl
  rolled layer.Derived = refl
  rolled (layer.Int p) = refl
  rolled (layer.Real p) = refl
  rolled (layer.Text p) = refl
  rolled (layer.Enumeration p) = refl
  rolled (layer.Binary p) = refl
  rolled (layer.Reference n) = refl
  rolled (layer.List ps) = refl
  rolled (layer.Typed k p) = refl

  spell_moved : (y : Param-F Param) → spelling (layer_moved goes y) ≡ layer_spelling (map-Param Param (List Want) spelling (moved_layer y))
  spell_moved y = ap spelling (sym (rolled y)) ∙ fold-roll-Param (List Want) layer_spelling (moved_layer y)

  -- the spelling of a parameter that has moved is what is wanted on the page
  abbrev Carried : Param → Type 0
  Carried p = spelling (moved_param goes p) ≡ map there (spelling p)

  abbrev Known : Type 0
  Known = (p : Param) × Carried p

  abbrev first : Known → Param
  first e = e.0

  list_moved : {K : Type 0} (at : K → Param) → ((e : K) → Carried (at e)) → (es : List K)
      → members (map spelling (map (moved_param goes) (map at es))) ≡ map there (members (map (λ e. spelling (at e)) es))
  list_moved at h es =
      ap (λ l. members (map spelling l)) (map-map (moved_param goes) at es) ∙ ap members (map-map spelling (λ e. moved_param goes (at e)) es)
      ∙ members_moved (λ e. spelling (moved_param goes (at e))) (λ e. spelling (at e)) h es

  typed_moved : (e : Known) → spelling (moved_param goes e.0) ++ closing ∷ [] ≡ map there (spelling e.0 ++ closing ∷ [])
  typed_moved e = ap (λ l. l ++ closing ∷ []) e.1 ∙ sym (map-append there (spelling e.0) (closing ∷ []))

  layer_carried : (y : Param-F Known)
      → layer_spelling (map-Param Param (List Want) spelling (moved_layer (map-Param Param Param (moved_param goes) (map-Param Known Param first y))))
      ≡ map there (layer_spelling (map-Param Known (List Want) (λ e. spelling e.0) y))
  layer_carried layer.Unset = refl
  layer_carried layer.Derived = refl
  layer_carried (layer.Int p) = refl
  layer_carried (layer.Real p) = refl
  layer_carried (layer.Text p) = refl
  layer_carried (layer.Enumeration p) = refl
  layer_carried (layer.Binary p) = refl
  layer_carried (layer.Reference n) = refl
  layer_carried (layer.List es) = ap (λ l. opening ∷ l) (list_moved first (λ e. e.1) es)
  layer_carried (layer.Typed k e) = ap (λ l. spanned kind.Keyword (goes k) ∷ (opening ∷ l)) (typed_moved e)

  param_moved : (p : Param) → Carried p
  param_moved = ind-Param Carried (λ x y is.
      let known : map-Param Param (List Want) spelling x ≡ map-Param Known (List Want) (λ e. spelling e.0) y =
      ap (map-Param Param (List Want) spelling) (sym is) ∙ map_known first y in
      ap spelling (fold-roll-Param Param (layer_moved goes) x ∙ ap (λ z. layer_moved goes (map-Param Param Param (moved_param goes) z)) (sym is))
      ∙ spell_moved (map-Param Param Param (moved_param goes) (map-Param Known Param first y))
      ∙ layer_carried y
      ∙ ap (map there) (ap layer_spelling (sym known) ∙ sym (fold-roll-Param (List Want) layer_spelling x)))

  members_carried : (ps : List Param) → members (map spelling (map (moved_param goes) ps)) ≡ map there (members (map spelling ps))
  members_carried ps =
      ap members (map-map spelling (moved_param goes) ps) ∙ members_moved (λ p. spelling (moved_param goes p)) spelling param_moved ps

  entry_carried : (e : Entry) → entry_spelling (moved_entry goes e) ≡ map there (entry_spelling e)
  entry_carried e = ap (λ l. spanned kind.Keyword (goes e.keyword) ∷ (opening ∷ l)) (members_carried e.params)

  head_carried : (e : Entry) → head_spelling (moved_entry goes e) ≡ map there (head_spelling e)
  head_carried e =
      ap (λ l. head_keyword (goes e.keyword) ∷ (opening ∷ (l ++ semicolon ∷ []))) (members_carried e.params)
      ∙ ap (λ l. head_keyword (goes e.keyword) ∷ (opening ∷ l)) (sym (map-append there (members (map spelling e.params)) (semicolon ∷ [])))

  flat_carried : {X : Type 0} (f : X → List Want) (g : X → X) → ((x : X) → f (g x) ≡ map there (f x)) → (xs : List X) → flat_map f (map g xs) ≡ map there (flat_map f xs)
  flat_carried f g h [] = refl
  flat_carried f g h (x ∷ xs) =
      ap (λ l. l ++ flat_map f (map g xs)) (h x) ∙ ap (λ l. map there (f x) ++ l) (flat_carried f g h xs) ∙ sym (map-append there (f x) (flat_map f xs))

  body_carried : (b : Body) → body_spelling (moved_body goes b) ≡ map there (body_spelling b)
  body_carried (Simple e) = entry_carried e
  body_carried (Complex es) =
      ap (λ l. opening ∷ (l ++ closing ∷ [])) (flat_carried entry_spelling (moved_entry goes) entry_carried es)
      ∙ ap (λ l. opening ∷ l) (sym (map-append there (flat_map entry_spelling es) (closing ∷ [])))

  instance_carried : (i : Instance) → instance_spelling (moved_instance goes i) ≡ map there (instance_spelling i)
  instance_carried i =
      ap (λ l. number i.number (begin i.from) ∷ (mark 61 ∷ (l ++ ending (close i.end) ∷ []))) (body_carried i.body)
      ∙ ap (λ l. number i.number (begin i.from) ∷ (mark 61 ∷ l)) (sym (map-append there (body_spelling i.body) (ending i.end ∷ [])))

  pub file_carried : (head : List Entry) (instances : List Instance)
      → file_spelling (map (moved_entry goes) head) (map (moved_instance goes) instances) ≡ map there (file_spelling head instances)
  file_carried head instances =
      let heads : List Want = flat_map head_spelling head in
      let all : List Want = flat_map instance_spelling instances in
      ap (λ l. ((file_start ++ l) ++ data_start ++ flat_map instance_spelling (map (moved_instance goes) instances)) ++ file_end) (flat_carried head_spelling (moved_entry goes) head_carried head)
      ∙ ap (λ l. ((file_start ++ map there heads) ++ data_start ++ l) ++ file_end) (flat_carried instance_spelling (moved_instance goes) instance_carried instances)
      ∙ sym (
      map-append there ((file_start ++ heads) ++ data_start ++ all) file_end
      ∙ ap (λ l. l ++ file_end) (
      map-append there ((file_start ++ heads) ++ data_start) all
      ∙ ap (λ l. l ++ map there all) (
      map-append there (file_start ++ heads) data_start
      ∙ ap (λ l. l ++ data_start) (map-append there file_start heads)
      )
      )
      )

-- From the tokens of a text to those of its page.

module _ (begin close : ℕ → ℕ) where
  same_word : (w : List ℕ) (l m : Lexeme) → l.kind ≡ kind.Keyword → IsPrinted begin close l m → spells_word w m ≡ spells_word w l
  same_word w l m k p =
      let text : m.text ≡ cond (is_keyword_kind l.kind) (str_to_ascii_uppercase l.text) l.text = p.text in
      ap (λ t. str_eq_ignore_ascii_case t w) (text ∙ ap (λ j. cond (is_keyword_kind j) (str_to_ascii_uppercase l.text) l.text) k) ∙ same_letters l.text w

  same_text : (k : TokenKind) (l m : Lexeme) → is_keyword_kind k ≡ false → l.kind ≡ k → IsPrinted begin close l m → m.text ≡ l.text
  same_text k l m other e p =
      let text : m.text ≡ cond (is_keyword_kind l.kind) (str_to_ascii_uppercase l.text) l.text = p.text in
      text ∙ ap (λ j. cond (is_keyword_kind j) (str_to_ascii_uppercase l.text) l.text) e ∙ ap (λ b. cond b (str_to_ascii_uppercase l.text) l.text) other

  -- a token as wanted is printed as is wanted on the page
  as_moved : (w : Want) (l m : Lexeme) → IsAs w l → IsPrinted begin close l m → IsAs (moved_want begin close w) m
  as_moved start_word l m h p = p.kind ∙ h
  as_moved end_word l m h p = p.kind ∙ h
  as_moved (word w) l m h p = (p.kind ∙ h.0, same_word w l m h.0 p ∙ h.1)
  as_moved (mark b) l m h p = (p.kind ∙ h.0, same_text kind.Mark l m refl h.0 p ∙ h.1)
  as_moved (spanned k s) l m h p = (p.kind ∙ h.0, p.span ∙ ap (move begin close) h.1)
  as_moved (head_keyword s) l m h p = (p.kind ∙ h.0, p.span ∙ ap (move begin close) h.1, same_word (codes "ENDSEC") l m h.0 p ∙ h.2)
  as_moved (reference n) l m h p = (p.kind ∙ h.0, ap (λ t. value (drop 1 t)) (same_text kind.Number l m refl h.0 p) ∙ h.1)
  as_moved (number n from) l m h p =
      (p.kind ∙ h.0, ap (λ t. value (drop 1 t)) (same_text kind.Number l m refl h.0 p) ∙ h.1, ap (λ (x : Span). x.from) p.span ∙ ap begin h.2)
  as_moved (ending end) l m h p = (p.kind ∙ h.0, same_text kind.Mark l m refl h.0 p ∙ h.1, ap (λ (x : Span). x.end) p.span ∙ ap close h.2)

  pub all_moved : (ws : List Want) (ls ms : List Lexeme) → AllZip IsAs ws ls → AllZip (IsPrinted begin close) ls ms → AllZip IsAs (map (moved_want begin close) ws) ms
  all_moved [] [] [] h p = tt
  all_moved [] [] (m ∷ ms) h p = absurd p
  all_moved [] (l ∷ ls) ms h p = absurd h
  all_moved (w ∷ ws) [] ms h p = absurd h
  all_moved (w ∷ ws) (l ∷ ls) [] h p = absurd p
  all_moved (w ∷ ws) (l ∷ ls) (m ∷ ms) h p = (as_moved w l m h.0 p.0, all_moved ws ls ms h.1 p.1)

  -- as many parentheses stand open on the page
  same_mark : (w : List ℕ) (l m : Lexeme) → IsPrinted begin close l m → is_mark_of w m ≡ is_mark_of w l
  same_mark w l m p =
      ap (λ k. is_mark_kind k && bytes_eq m.text w) p.kind ∙ ap (λ t. is_mark_kind l.kind && bytes_eq t w) p.text ∙ printed_mark l.kind l.text w

  after_moved : (n : ℕ) (l m : Lexeme) → IsPrinted begin close l m → open_after n m ≡ open_after n l
  after_moved n l m p =
      ap (λ b. cond b (n + 1) (cond (is_mark_of (codes ")") m) (n - 1) n)) (same_mark (codes "(") l m p)
      ∙ ap (λ b. cond (is_mark_of (codes "(") l) (n + 1) (cond b (n - 1) n)) (same_mark (codes ")") l m p)

  behind_moved : (n : ℕ) (ls ms : List Lexeme) → AllZip (IsPrinted begin close) ls ms → open_behind n ms ≡ open_behind n ls
  behind_moved n [] [] p = refl
  behind_moved n [] (m ∷ ms) p = absurd p
  behind_moved n (l ∷ ls) [] p = absurd p
  behind_moved n (l ∷ ls) (m ∷ ms) p = ap (λ x. open_behind x ms) (after_moved n l m p.0) ∙ behind_moved (open_after n l) ls ms p.1

  -- a front of the page is printed from a front of the text
  abbrev FrontOf : List Lexeme → List Lexeme → Type 0
  FrontOf ls front = (before : List Lexeme) × (behind : List Lexeme) × (ls ≡ before ++ behind) × AllZip (IsPrinted begin close) before front

  front_of : (ls front rest : List Lexeme) → AllZip (IsPrinted begin close) ls (front ++ rest) → FrontOf ls front
  front_of ls [] rest p = ([], ls, refl, tt)
  front_of [] (m ∷ front) rest p = absurd p
  front_of (l ∷ ls) (m ∷ front) rest p =
      let more : FrontOf ls front = front_of ls front rest p.1 in
      (l ∷ more.0, more.1, ap (λ x. l ∷ x) more.2, (p.0, more.3))

  pub shallow_moved : (ls ms : List Lexeme) → AllZip (IsPrinted begin close) ls ms → IsShallow ls → IsShallow ms
  shallow_moved ls ms p h front rest e =
      let f : FrontOf ls front = front_of ls front rest (subst (AllZip (IsPrinted begin close) ls) e p) in
      let same : open_behind 0 front ≡ open_behind 0 f.0 = behind_moved 0 f.0 front f.3 in
      let le : open_behind 0 f.0 ≤ 32 = h f.0 f.1 f.2 in
      omega arith

  map_empty : (es : List Entry) → (es ≡ [] → ⊥) → map (moved_entry (move begin close)) es ≡ [] → ⊥
  map_empty [] h e = h refl
  map_empty (x ∷ es) h e = cc

  body_moved : (b : Body) → HasEntry b → HasEntry (moved_body (move begin close) b)
  body_moved (Simple e) h = tt
  body_moved (Complex es) h = map_empty es h

  pub entries_moved : (instances : List Instance) → All (λ i. HasEntry i.body) instances → All (λ i. HasEntry i.body) (map (moved_instance (move begin close)) instances)
  entries_moved instances h =
      All-map (λ (i : Instance). HasEntry i.body) (moved_instance (move begin close)) instances (λ k d lt. body_moved (get_or instances k d).body (h k d lt))

-- Where the tokens of a text begin and end on its page, of which the first begins at `at`.

abbrev pub starts : ℕ → List Lexeme → ℕ → ℕ
starts at [] x = 0
starts at (l ∷ ls) x = cond (l.span.from == x) at (starts (at + length (printed_bytes l ++ line_end l)) ls x)

abbrev pub ends : ℕ → List Lexeme → ℕ → ℕ
ends at [] x = 0
ends at (l ∷ ls) x = cond (l.span.end == x) (at + length (printed_bytes l)) (ends (at + length (printed_bytes l ++ line_end l)) ls x)

chosen : (a x here rest : ℕ) → a ≡ x → cond (a == x) here rest ≡ here
chosen a x here rest e = ap (λ b. cond b here rest) (eq-eqb a x e)

passed : (a x here rest : ℕ) → (a ≡ x → ⊥) → cond (a == x) here rest ≡ rest
passed a x here rest h = elim (cases_Bool (a == x)) [ inl e ↦ absurd (h (eqb-true a x e)) | inr e ↦ ap (λ b. cond b here rest) e ]

abbrev span_of : ℕ → ℕ → Span
span_of from end = record { from = from; end = end }

-- the tokens of a text are printed where they are placed
pub all_printed : (begin close : ℕ → ℕ) (s : List ℕ) (from at to : ℕ) (ls : List Lexeme) → Reads s from ls to
    → ((x : ℕ) → from ≤ x → begin x ≡ starts at ls x) → ((x : ℕ) → from < x → close x ≡ ends at ls x) → AllZip (IsPrinted begin close) ls (placed at ls)
all_printed begin close s from at to [] h f g = tt
all_printed begin close s from at to (l ∷ ls) h f g =
    let first : l.span.from ≡ h.0.from = ap (λ (x : Lexeme). x.span.from) h.2 in
    let last : l.span.end ≡ h.0.end = ap (λ (x : Lexeme). x.span.end) h.2 in
    let up : from ≤ h.0.from = got_from s from h.0 h.1 in
    let wide : h.0.from < h.0.end = h.1.1 in
    let here : begin l.span.from ≡ at = f l.span.from (omega arith) ∙ chosen l.span.from l.span.from at (starts (at + length (printed_bytes l ++ line_end l)) ls l.span.from) refl in
    let there : close l.span.end ≡ at + length (printed_bytes l) =
    g l.span.end (omega arith) ∙ chosen l.span.end l.span.end (at + length (printed_bytes l)) (ends (at + length (printed_bytes l ++ line_end l)) ls l.span.end) refl in (
      record {
        kind = refl;
        span = ap (λ x. span_of x (at + length (printed_bytes l))) (sym here) ∙ ap (span_of (begin l.span.from)) (sym there);
        text = refl;
      },
      all_printed begin close s h.0.end (at + length (printed_bytes l ++ line_end l)) to ls h.3
          (λ x le. f x (omega arith) ∙ passed l.span.from x at (starts (at + length (printed_bytes l ++ line_end l)) ls x) (λ e. omega arith))
          (λ x lt. g x (omega arith) ∙ passed l.span.end x (at + length (printed_bytes l)) (ends (at + length (printed_bytes l ++ line_end l)) ls x) (λ e. omega arith)),
    )

-- the bytes of a token are its text
token_bytes : (page : List ℕ) (m : Lexeme) (t : Token) → m ≡ lexeme_of page t → bytes_at page m.span ≡ m.text
token_bytes page m t e = subst (λ (x : Lexeme). bytes_at page x.span ≡ x.text) (sym e) refl

pub all_texts : (begin close : ℕ → ℕ) (page : List ℕ) (at to : ℕ) (ls ms : List Lexeme) → AllZip (IsPrinted begin close) ls ms → Reads page at ms to
    → AllByRecursion (λ l. bytes_at page (move begin close l.span) ≡ printed_bytes l) ls
all_texts begin close page at to [] ms p h = tt
all_texts begin close page at to (l ∷ ls) [] p h = absurd p
all_texts begin close page at to (l ∷ ls) (m ∷ ms) p h =
    (ap (bytes_at page) (sym p.0.span) ∙ token_bytes page m h.0 h.2 ∙ p.0.text, all_texts begin close page h.0.end to ls ms p.1 h.3)
