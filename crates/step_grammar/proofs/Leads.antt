-- What is spelled leads from the place before it to the place behind it.
use Rattle.std.proofs.Common.{◌≡◌, ℕ, List, [], ◌∷◌, ◌++◌, Some, map, refl, sym, ◌∙◌, ap, subst, append_assoc}
use Rattle.std.specs.List.{AllZip}
use Rattle.spec_step.specs.Lexemes.{Lexeme}
use Rattle.spec_step.specs.Grammar.{Want, mark, spanned, reference, IsAs, opening, closing, members, further, layer_spelling, spelling, arguments}
use Rattle.spec_step.specs.declared.token.Span.{Span}
use Rattle.spec_step.specs.declared.token.TokenKind.TheVariants as kind
use Rattle.spec_step.specs.declared.tree.Param.{Param}
use Rattle.spec_step.specs.declared.tree.Param as rolled
use Rattle.spec_step.specs.declared.tree.Param.TheVariants as param
use Rattle.spec_step.specs.declared.tree.Param.TheOpen.{Param-F}
use Rattle.spec_step.specs.declared.tree.Param.TheOpen as layer
use Rattle.spec_step.specs.declared.tree.Param.TheFolds.{ind-Param, fold-roll-Param, map-Param}
use Rattle.step_grammar.specs.Symbols.{symbol_of}
use Rattle.step_grammar.specs.Entries.{Stand, entry_step}
use Rattle.step_grammar.specs.Places.{State, step, run_on}
use Rattle.step_grammar.specs.declared.symbol.Atom.TheVariants as atom
use Rattle.step_grammar.specs.declared.symbol.Symbol.{Symbol}
use Rattle.step_grammar.specs.declared.symbol.Symbol.TheVariants as symbol
use Rattle.step_grammar.specs.declared.entry.Frame.{Frame}
use Rattle.step_grammar.specs.declared.entry.Frame.TheVariants as frame
use Rattle.step_grammar.specs.declared.entry.Spot.{Spot}
use Rattle.step_grammar.specs.declared.entry.Spot.TheVariants as spot
use Rattle.step_grammar.proofs.Runs.{run_on-append, map_both}
use Rattle.step_grammar.proofs.Said.{as_mark, as_spanned, as_reference}

-- Tokens that are as wanted lead from one state to another.

pub record Leads (q : State) (ws : List Want) (next : State) : Type 0 where
  pub leads : (ls : List Lexeme) → AllZip IsAs ws ls → run_on (Some q) (map symbol_of ls) ≡ Some next

nil_run : (q : State) (ls : List Lexeme) → AllZip IsAs [] ls → run_on (Some q) (map symbol_of ls) ≡ Some q
nil_run q [] h = refl
nil_run q (l ∷ ls) h = absurd h

pub lead_nil : {q : State} → Leads q [] q
lead_nil {q} = record { leads = nil_run q }

cons_run : (q mid next : State) (w : Want) (ws : List Want) → ((l : Lexeme) → IsAs w l → step q (symbol_of l) ≡ Some mid) → Leads mid ws next
    → (ls : List Lexeme) → AllZip IsAs (w ∷ ws) ls → run_on (Some q) (map symbol_of ls) ≡ Some next
cons_run q mid next w ws here rest [] h = absurd h
cons_run q mid next w ws here rest (l ∷ ls) h = ap (λ o. run_on o (map symbol_of ls)) (here l h.0) ∙ rest.leads ls h.1

pub lead_cons : {q mid next : State} {w : Want} {ws : List Want} → ((l : Lexeme) → IsAs w l → step q (symbol_of l) ≡ Some mid) → Leads mid ws next → Leads q (w ∷ ws) next
lead_cons {q} {mid} {next} {w} {ws} here rest = record { leads = cons_run q mid next w ws here rest }

-- the tokens of two lists of wants, one after the other
record Split (xs ys : List Want) (ls : List Lexeme) : Type 0 where
  front : List Lexeme
  rest : List Lexeme
  both : ls ≡ front ++ rest
  zip_front : AllZip IsAs xs front
  zip_rest : AllZip IsAs ys rest

split : (xs ys : List Want) (ls : List Lexeme) → AllZip IsAs (xs ++ ys) ls → Split xs ys ls
split [] ys ls h = record { front = []; rest = ls; both = refl; zip_front = tt; zip_rest = h }
split (x ∷ xs) ys [] h = absurd h
split (x ∷ xs) ys (l ∷ ls) h =
    let s : Split xs ys ls = split xs ys ls h.1 in
    record { front = l ∷ s.front; rest = s.rest; both = ap (λ z. l ∷ z) s.both; zip_front = (h.0, s.zip_front); zip_rest = s.zip_rest }

both_run : (q mid next : State) (xs ys : List Want) → Leads q xs mid → Leads mid ys next → (ls : List Lexeme) → AllZip IsAs (xs ++ ys) ls → run_on (Some q) (map symbol_of ls) ≡ Some next
both_run q mid next xs ys h k ls z =
    let s : Split xs ys ls = split xs ys ls z in
    ap (λ x. run_on (Some q) (map symbol_of x)) s.both ∙ ap (run_on (Some q)) (map_both s.front s.rest)
    ∙ run_on-append (Some q) (map symbol_of s.front) (map symbol_of s.rest)
    ∙ ap (λ o. run_on o (map symbol_of s.rest)) (h.leads s.front s.zip_front) ∙ k.leads s.rest s.zip_rest

pub lead_both : {q mid next : State} {xs ys : List Want} → Leads q xs mid → Leads mid ys next → Leads q (xs ++ ys) next
lead_both {q} {mid} {next} {xs} {ys} h k = record { leads = both_run q mid next xs ys h k }

-- the same wants and the same end, written otherwise
pub lead_as : {q next : State} {ws : List Want} (other : State) (vs : List Want) → vs ≡ ws → next ≡ other → Leads q ws next → Leads q vs other
lead_as {q} {next} {ws} other vs e f h = subst (Leads q vs) f (subst (λ x. Leads q x next) (sym e) h)

-- Entries, wherever they stand: the state is a function of the place in the entry, and takes an entry's steps.
module _ (f : Stand → State) (carries : (p : Spot) (frames : List Frame) (s : Symbol) (next : Stand) → entry_step p frames s ≡ Some next → step (f (p, frames)) s ≡ Some (f next)) where
  -- the tokens lead over a parameter, also where it is the first of a list
  record Over (ws : List Want) (p : Param) : Type 0 where
    wanted : (frames : List Frame) → Leads (f (spot.Before, frames)) ws (f (spot.Behind p, frames))
    first : (frames : List Frame) → Leads (f (spot.Opened, frames)) ws (f (spot.Behind p, frames))

  over_token : (w : Want) (p : Param) (s : Lexeme → Symbol) → ((l : Lexeme) → IsAs w l → symbol_of l ≡ s l)
      → ((l : Lexeme) (frames : List Frame) → entry_step spot.Before frames (s l) ≡ Some (spot.Behind p, frames))
      → ((l : Lexeme) (frames : List Frame) → entry_step spot.Opened frames (s l) ≡ Some (spot.Behind p, frames)) → Over (w ∷ []) p
  over_token w p s said wanted first = record {
    wanted = λ frames. lead_cons (λ l h. ap (step (f (spot.Before, frames))) (said l h) ∙ carries spot.Before frames (s l) (spot.Behind p, frames) (wanted l frames)) lead_nil;
    first = λ frames. lead_cons (λ l h. ap (step (f (spot.Opened, frames))) (said l h) ∙ carries spot.Opened frames (s l) (spot.Behind p, frames) (first l frames)) lead_nil;
  }

  -- the mark leads from one place in the entry to another
  by_mark : (b : ℕ) (s : Symbol) (p : Spot) (frames : List Frame) (next : Stand) → ((l : Lexeme) → IsAs (mark b) l → symbol_of l ≡ s) → entry_step p frames s ≡ Some next
      → (l : Lexeme) → IsAs (mark b) l → step (f (p, frames)) (symbol_of l) ≡ Some (f next)
  by_mark b s p frames next said e l h = ap (step (f (p, frames))) (said l h) ∙ carries p frames s next e

  abbrev Known : Type 0
  Known = (p : Param) × Over (spelling p) p

  abbrev known_spelling : Known → List Want
  known_spelling e = spelling e.0

  abbrev known_param : Known → Param
  known_param e = e.0

  -- parentheses that hold a list of parameters, and what they make
  record Brackets (open_at : List Param → Frame) (shut : List Param → Spot) : Type 0 where
    empty : (frames : List Frame) → entry_step spot.Opened (open_at [] ∷ frames) symbol.Close ≡ Some (shut [], frames)
    last : (p : Param) (ps : List Param) (frames : List Frame) → entry_step (spot.Behind p) (open_at ps ∷ frames) symbol.Close ≡ Some (shut (ps ++ p ∷ []), frames)
    more : (p : Param) (ps : List Param) (frames : List Frame) → entry_step (spot.Behind p) (open_at ps ∷ frames) symbol.Comma ≡ Some (spot.Before, open_at (ps ++ p ∷ []) ∷ frames)

  lists : Brackets frame.List (λ ps. spot.Behind (param.List ps))
  lists = record { empty = λ frames. refl; last = λ p ps frames. refl; more = λ p ps frames. refl }

  of_entry : (k : Span) → Brackets (frame.Entry k) (λ ps. spot.Read (record { keyword = k; params = ps }))
  of_entry k = record { empty = λ frames. refl; last = λ p ps frames. refl; more = λ p ps frames. refl }

  -- the rest of a list, behind its parameter p
  lead_further : (open_at : List Param → Frame) (shut : List Param → Spot) → Brackets open_at shut → (es : List Known) (ps : List Param) (p : Param) (frames : List Frame)
      → Leads (f (spot.Behind p, open_at ps ∷ frames)) (further (map known_spelling es)) (f (shut (ps ++ p ∷ map known_param es), frames))
  lead_further open_at shut b [] ps p frames = lead_cons (by_mark 41 symbol.Close (spot.Behind p) (open_at ps ∷ frames) _ (as_mark 41) (b.last p ps frames)) lead_nil
  lead_further open_at shut b (e ∷ es) ps p frames =
      lead_cons (by_mark 44 symbol.Comma (spot.Behind p) (open_at ps ∷ frames) (spot.Before, open_at (ps ++ p ∷ []) ∷ frames) (as_mark 44) (b.more p ps frames))
      (lead_both (e.1.wanted (open_at (ps ++ p ∷ []) ∷ frames))
      (subst (λ x. Leads (f (spot.Behind e.0, open_at (ps ++ p ∷ []) ∷ frames)) (further (map known_spelling es)) (f (shut x, frames)))
      (append_assoc ps (p ∷ []) (e.0 ∷ map known_param es)) (lead_further open_at shut b es (ps ++ p ∷ []) e.0 frames)))

  -- all that stands behind an opening parenthesis
  lead_members : (open_at : List Param → Frame) (shut : List Param → Spot) → Brackets open_at shut → (es : List Known) (frames : List Frame)
      → Leads (f (spot.Opened, open_at [] ∷ frames)) (members (map known_spelling es)) (f (shut (map known_param es), frames))
  lead_members open_at shut b [] frames = lead_cons (by_mark 41 symbol.Close spot.Opened (open_at [] ∷ frames) _ (as_mark 41) (b.empty frames)) lead_nil
  lead_members open_at shut b (e ∷ es) frames = lead_both (e.1.first (open_at [] ∷ frames)) (lead_further open_at shut b es [] e.0 frames)

  lead_typed : (k : Span) (e : Known) (frames : List Frame) → Leads (f (spot.Typed k, frames)) (opening ∷ (spelling e.0 ++ closing ∷ [])) (f (spot.Behind (param.Typed k e.0), frames))
  lead_typed k e frames =
      lead_cons (by_mark 40 symbol.Open (spot.Typed k) frames (spot.Before, frame.Typed k ∷ frames) (as_mark 40) refl)
      (lead_both (e.1.wanted (frame.Typed k ∷ frames)) (lead_cons (by_mark 41 symbol.Close (spot.Behind e.0) (frame.Typed k ∷ frames) _ (as_mark 41) refl) lead_nil))

  over_list : (es : List Known) → Over (opening ∷ members (map known_spelling es)) (param.List (map known_param es))
  over_list es = record {
    wanted = λ frames. lead_cons (by_mark 40 symbol.Open spot.Before frames (spot.Opened, frame.List [] ∷ frames) (as_mark 40) refl) (lead_members frame.List _ lists es frames);
    first = λ frames. lead_cons (by_mark 40 symbol.Open spot.Opened frames (spot.Opened, frame.List [] ∷ frames) (as_mark 40) refl) (lead_members frame.List _ lists es frames);
  }

  over_typed : (k : Span) (e : Known) → Over (spanned kind.Keyword k ∷ opening ∷ (spelling e.0 ++ closing ∷ [])) (param.Typed k e.0)
  over_typed k e = record {
    wanted = λ frames. lead_cons (λ l h. ap (step (f (spot.Before, frames))) (as_spanned kind.Keyword k l h) ∙ carries spot.Before frames _ (spot.Typed k, frames) refl) (lead_typed k e frames);
    first = λ frames. lead_cons (λ l h. ap (step (f (spot.Opened, frames))) (as_spanned kind.Keyword k l h) ∙ carries spot.Opened frames _ (spot.Typed k, frames) refl) (lead_typed k e frames);
  }

  -- one layer of a parameter, whose children carry what is known of them
  over_layer : (y : Param-F Known) → Over (layer_spelling (map-Param Known (List Want) known_spelling y)) (rolled.roll-Param (map-Param Known Param known_param y))
  unfolding rolled.roll-Param denote.Hole.Carrier.roll
  over_layer layer.Unset = over_token (mark 36) param.Unset (λ l. symbol.Atom atom.Unset) (as_mark 36) (λ l frames. refl) (λ l frames. refl)
  over_layer layer.Derived = over_token (mark 42) param.Derived (λ l. symbol.Atom atom.Derived) (as_mark 42) (λ l frames. refl) (λ l frames. refl)
  over_layer (layer.Int p) = over_token (spanned kind.Int p) (param.Int p) (λ l. symbol.Atom (atom.Int p)) (as_spanned kind.Int p) (λ l frames. refl) (λ l frames. refl)
  over_layer (layer.Real p) = over_token (spanned kind.Real p) (param.Real p) (λ l. symbol.Atom (atom.Real p)) (as_spanned kind.Real p) (λ l frames. refl) (λ l frames. refl)
  over_layer (layer.Text p) = over_token (spanned kind.Text p) (param.Text p) (λ l. symbol.Atom (atom.Text p)) (as_spanned kind.Text p) (λ l frames. refl) (λ l frames. refl)
  over_layer (layer.Enumeration p) =
      over_token (spanned kind.Enumeration p) (param.Enumeration p) (λ l. symbol.Atom (atom.Enumeration p)) (as_spanned kind.Enumeration p) (λ l frames. refl) (λ l frames. refl)
  over_layer (layer.Binary p) = over_token (spanned kind.Binary p) (param.Binary p) (λ l. symbol.Atom (atom.Binary p)) (as_spanned kind.Binary p) (λ l frames. refl) (λ l frames. refl)
  over_layer (layer.Reference n) = over_token (reference n) (param.Reference n) (λ l. symbol.Number n l.span.from) (as_reference n) (λ l frames. refl) (λ l frames. refl)
  over_layer (layer.List es) = over_list es
  over_layer (layer.Typed k e) = over_typed k e

  spell_known : (es : List Known) → map spelling (map known_param es) ≡ map known_spelling es
  spell_known [] = refl
  spell_known (e ∷ es) = ap (λ l. spelling e.0 ∷ l) (spell_known es)

  map_known : (y : Param-F Known) → map-Param Param (List Want) spelling (map-Param Known Param known_param y) ≡ map-Param Known (List Want) known_spelling y
  map_known layer.Unset = refl
  map_known layer.Derived = refl
  map_known (layer.Int p) = refl
  map_known (layer.Real p) = refl
  map_known (layer.Text p) = refl
  map_known (layer.Enumeration p) = refl
  map_known (layer.Binary p) = refl
  map_known (layer.Reference n) = refl
  map_known (layer.List es) = ap layer.List (spell_known es)
  map_known (layer.Typed k e) = refl

  -- by induction on the parameter: y is x with what is known of each child
  over : (p : Param) → Over (spelling p) p
  over = ind-Param (λ q. Over (spelling q) q) (λ x y is.
      let here : map-Param Param (List Want) spelling x ≡ map-Param Known (List Want) known_spelling y = ap (map-Param Param (List Want) spelling) (sym is) ∙ map_known y in
      subst (Over (spelling (rolled.roll-Param x))) (ap rolled.roll-Param is)
      (subst (λ ws. Over ws (rolled.roll-Param (map-Param Known Param known_param y))) (sym (fold-roll-Param (List Want) layer_spelling x ∙ ap layer_spelling here)) (over_layer y)))

  abbrev known : List Param → List Known
  known [] = []
  known (p ∷ ps) = (p, over p) ∷ known ps

  known_spellings : (ps : List Param) → map known_spelling (known ps) ≡ map spelling ps
  known_spellings [] = refl
  known_spellings (p ∷ ps) = ap (λ l. spelling p ∷ l) (known_spellings ps)

  known_params : (ps : List Param) → map known_param (known ps) ≡ ps
  known_params [] = refl
  known_params (p ∷ ps) = ap (λ l. p ∷ l) (known_params ps)

  -- what stands behind an entry's keyword
  pub lead_arguments : (k : Span) (ps : List Param) → Leads (f (spot.Named k, [])) (arguments ps) (f (spot.Read (record { keyword = k; params = ps }), []))
  lead_arguments k ps =
      lead_cons (by_mark 40 symbol.Open (spot.Named k) [] (spot.Opened, frame.Entry k [] ∷ []) (as_mark 40) refl)
      (lead_as (f (spot.Read (record { keyword = k; params = ps }), [])) (members (map spelling ps)) (ap members (sym (known_spellings ps)))
      (ap (λ (x : List Param). f (spot.Read (record { keyword = k; params = x }), [])) (known_params ps)) (lead_members (frame.Entry k) _ (of_entry k) (known ps) []))
