-- What holds of a page that is read so far, whatever follows.
use Rattle.std.proofs.Common.{◌≡◌, ◌≢◌, ℕ, ◌+◌, ◌<◌, ◌≤◌, ◌^◌, Some, None, List, [], ◌∷◌, ◌++◌, inl, inr, ◌⊎◌, length, refl, sym, ap, ◌∙◌, subst, append_assoc, append-nil, arith, length-append}
use Rattle.std.specs.List.{All, sum_by}
use Rattle.std.proofs.lemmas.List.{length_push}
use Rattle.std.proofs.lemmas.List.Elements.{All-push, All-nil}
use Rattle.std.proofs.lemmas.Grind.{flat_map-append}
use Rattle.spec_page.specs.Items.{Item, face_count}
use Rattle.spec_page.specs.Page.{page_end}
use Rattle.spec_check.specs.Grammar.{IsPageText, IsCutPage, BeginsPage, IsLine, lines_text, IsBadLine}
use Rattle.obj_lines.specs.PageLines.{PageLine, line_text, IsLineWithin}
use Rattle.obj_lines.specs.Readings.{IsLineOf}
use Rattle.obj_read.specs.States.{State, Start, Ended, step, corners_of, corners_before}
use Rattle.obj_read.proofs.Begins.{begins}
use Rattle.obj_read.proofs.Leads.{Leads, done, more, of_same}
use Rattle.obj_read.proofs.Pages.{page_leads, cut_leads}
use Rattle.obj_read.proofs.Shapes.{line_fed, cut_same, feed_within}
use Rattle.obj_read.proofs.Sizes.{text_long, within_step, page_long}
use Rattle.obj_read.proofs.Steps.{grows}
use Rattle.obj_read.proofs.Texts.{IsKept, IsLineKept, line_kept, text_of}

-- what was read of the text, so many lines of it, and what is left
pub record IsReadSoFar (text rest : List ℕ) (lines : ℕ) (s : State) : Type 0 where
  pub before : List (List ℕ)
  pub cut : text ≡ lines_text before ++ rest
  pub are_lines : All IsLine before
  pub count : lines ≡ length before
  pub shorter : lines + length rest ≤ length text
  pub text_is : lines_text before ≡ text_of s
  pub kept : IsKept s
  pub leads : (after : List ℕ) (end : State) → Leads Start (lines_text before ++ after) end → Leads s after end

pub read_nothing : (text : List ℕ) → IsReadSoFar text text 0 Start
read_nothing text = record {
  before = [];
  cut = refl;
  are_lines = All-nil IsLine;
  count = refl;
  shorter = omega arith;
  text_is = refl;
  kept = tt;
  leads = λ after end p. p;
}

-- the first of the lines that lead on
record Turn (s : State) (line after : List ℕ) (end : State) : Type 0 where
  pub first : PageLine
  pub next : State
  pub kept : IsLineKept first
  pub text_is : line_text first ≡ line ++ 10 ∷ []
  pub stepped : step s first ≡ Some next
  pub leads : Leads next after end

some_same : (x y : State) → Some x ≡ Some y → x ≡ y
some_same x y e = cc

none_some : (x : State) → None ≡ Some x → ⊥
none_some x e = cc

regrouped : (before line after : List ℕ) → before ++ line ++ 10 ∷ [] ++ after ≡ before ++ (line ++ 10 ∷ after)
regrouped before line after = append_assoc (before ++ line) (10 ∷ []) after ∙ append_assoc before line (10 ∷ after)

fed_not_empty : (line after : List ℕ) → line ++ 10 ∷ after ≡ [] → ⊥
fed_not_empty [] after e = cc
fed_not_empty (c ∷ cs) after e = cc

turn : (s : State) (text line after : List ℕ) (end : State) → IsLine line → text ≡ line ++ 10 ∷ after → Leads s text end → Turn s line after end
turn s text line after end all e (done empty same) = absurd (fed_not_empty line after (sym e ∙ empty))
turn s text line after end all e (more l u rest kept stepped split p) =
    let f = line_fed l in
    let both : line ++ 10 ∷ after ≡ f.body ++ 10 ∷ rest = sym e ∙ split ∙ ap (λ t. t ++ rest) f.fed ∙ append_assoc f.body (10 ∷ []) rest in
    let same = cut_same line f.body after rest all f.line both in
    record {
      first = l;
      next = u;
      kept = kept;
      text_is = f.fed ∙ ap (λ t. t ++ 10 ∷ []) (sym same.0);
      stepped = stepped;
      leads = of_same after p (sym same.1);
    }

lines_text_push : (before : List (List ℕ)) (line : List ℕ) → lines_text (before ++ line ∷ []) ≡ lines_text before ++ (line ++ 10 ∷ [])
lines_text_push before line =
    flat_map-append (λ l. l ++ 10 ∷ []) before (line ∷ []) ∙ ap (λ t. lines_text before ++ t) (append-nil (line ++ 10 ∷ []))

feed_first : (before line after : List ℕ) → before ++ (line ++ 10 ∷ []) ++ after ≡ before ++ (line ++ 10 ∷ after)
feed_first before line after = append_assoc before (line ++ 10 ∷ []) after ∙ ap (λ t. before ++ t) (append_assoc line (10 ∷ []) after)

pub few_corners : (text rest : List ℕ) (lines : ℕ) (s : State) → IsReadSoFar text rest lines s → length text < 2 ^ 64 → corners_of s < 2 ^ 64
few_corners text rest lines s r small =
    let whole = ap length r.cut in
    let same = ap length r.text_is in
    omega (arith, text_long s, same, whole, length-append (lines_text r.before) rest)

-- one line more is read
pub read_line_more : (text rest line after : List ℕ) (lines : ℕ) (s : State) (l : PageLine) (t : State) → IsReadSoFar text rest lines s → length text < 2 ^ 64
    → rest ≡ line ++ 10 ∷ after → IsLine line → IsLineOf line l → step s l ≡ Some t → IsReadSoFar text after (lines + 1) t
read_line_more text rest line after lines s l t r small split all of stepped =
    let kept = line_kept l of.within in
    let few = few_corners text rest lines s r small in
    let g = grows s l t stepped r.kept kept in
    let pushed = lines_text_push r.before line in
    let turned : (behind : List ℕ) (end : State) → Leads Start (lines_text (r.before ++ line ∷ []) ++ behind) end → Leads t behind end = λ behind end p.
    let whole = of_same (lines_text r.before ++ (line ++ 10 ∷ behind)) p (ap (λ x. x ++ behind) pushed ∙ feed_first (lines_text r.before) line behind) in
    let at = turn s (line ++ 10 ∷ behind) line behind end all refl (r.leads (line ++ 10 ∷ behind) end whole) in
    let same : at.first ≡ l = of.sole at.first (within_step s at.first at.next at.stepped few at.kept) at.text_is in
    let P : State → Type 0 = λ x. Leads x behind end in
    let here : Some at.next ≡ Some t = sym at.stepped ∙ ap (step s) same ∙ stepped in
    subst P (some_same at.next t here) at.leads in
    record {
      before = r.before ++ line ∷ [];
      cut = r.cut ∙ ap (λ x. lines_text r.before ++ x) split ∙ sym (feed_first (lines_text r.before) line after) ∙ ap (λ x. x ++ after) (sym pushed);
      are_lines = All-push IsLine r.before line r.are_lines all;
      count = ap (λ n. n + 1) r.count ∙ sym (length_push r.before line);
      shorter = omega (arith, r.shorter, ap length split, length-append line (10 ∷ after));
      text_is = pushed ∙ ap (λ x. x ++ (line ++ 10 ∷ [])) r.text_is ∙ ap (λ x. text_of s ++ x) (sym of.text_is) ∙ sym g.text;
      kept = g.kept;
      leads = turned;
    }

-- a text that begins a page leads on
page_or_cut : (text : List ℕ) → ((grid : ℕ) × (items : List Item) × IsPageText text grid items) ⊎ IsCutPage text → (end : State) × Leads Start text end
page_or_cut text (inl p) = (Ended p.0 p.1, page_leads text p.0 p.1 p.2)
page_or_cut text (inr p) = cut_leads text p

-- no line with this text may follow
abbrev pub MayNotFollow : State → List ℕ → Type 0
MayNotFollow s line = (l : PageLine) → IsLineWithin l → line_text l ≡ line ++ 10 ∷ [] → step s l ≡ None

no_turn : (s : State) (line after : List ℕ) (end : State) → corners_of s < 2 ^ 64 → MayNotFollow s line → Turn s line after end → ⊥
no_turn s line after end few none at =
    let stops : step s at.first ≡ None = none at.first (within_step s at.first at.next at.stepped few at.kept) at.text_is in
    let goes : step s at.first ≡ Some at.next = at.stepped in
    none_some at.next (sym stops ∙ goes)

-- the line is the first that is not allowed
pub bad_line : (text rest line after : List ℕ) (lines : ℕ) (s : State) → IsReadSoFar text rest lines s → length text < 2 ^ 64
    → rest ≡ line ++ 10 ∷ after → IsLine line → MayNotFollow s line → IsBadLine text (lines + 1)
bad_line text rest line after lines s r small split all none =
    let few = few_corners text rest lines s r small in
    record {
      before = r.before;
      rest = rest;
      cut = r.cut;
      lines = r.are_lines;
      place = ap (λ n. n + 1) r.count;
      begins = subst BeginsPage (sym r.text_is) (begins s r.kept);
      stops = λ line' after' split' all' b.
          let same = cut_same line' line after' after all' all (sym split' ∙ split) in
          let front = lines_text r.before ++ line' ++ 10 ∷ [] in
          let p = page_or_cut (front ++ b.0) b.1 in
          let moved = of_same (lines_text r.before ++ (line ++ 10 ∷ b.0)) p.1 (regrouped (lines_text r.before) line' b.0 ∙ ap (λ x. lines_text r.before ++ (x ++ 10 ∷ b.0)) same.0) in
          no_turn s line b.0 p.0 few none (turn s (line ++ 10 ∷ b.0) line b.0 p.0 all refl (r.leads (line ++ 10 ∷ b.0) p.0 moved));
      no_page = λ grid items p.
          let whole = of_same (lines_text r.before ++ rest) (page_leads text grid items p) r.cut in
          no_turn s line after (Ended grid items) few none (turn s rest line after (Ended grid items) all split (r.leads rest (Ended grid items) whole));
    }

-- what is left of a line that lacks its line feed leads nowhere
no_lead : (s : State) (rest : List ℕ) (end : State) → IsLine rest → Leads s rest end → (rest ≡ []) × (s ≡ end)
no_lead s rest end all (done empty same) = (empty, same)
no_lead s rest end all (more l u behind kept stepped split p) =
    let f = line_fed l in
    let both : rest ≡ f.body ++ 10 ∷ behind = split ∙ ap (λ t. t ++ behind) f.fed ∙ append_assoc f.body (10 ∷ []) behind in
    absurd (feed_within f.body behind (subst IsLine both all))

-- the text ends too early
pub short_text : (text rest : List ℕ) (lines : ℕ) (s : State) → IsReadSoFar text rest lines s → IsLine rest
    → ((grid : ℕ) (items : List Item) → rest ≡ [] → s ≡ Ended grid items → ⊥) → IsBadLine text (lines + 1)
short_text text rest lines s r all unfinished =
    record {
      before = r.before;
      rest = rest;
      cut = r.cut;
      lines = r.are_lines;
      place = ap (λ n. n + 1) r.count;
      begins = subst BeginsPage (sym r.text_is) (begins s r.kept);
      stops = λ line after split all' b. feed_within line after (subst IsLine split all);
      no_page = λ grid items p.
          let whole = of_same (lines_text r.before ++ rest) (page_leads text grid items p) r.cut in
          let end = no_lead s rest (Ended grid items) all (r.leads rest (Ended grid items) whole) in
          unfinished grid items end.0 end.1;
    }

-- the whole text is read
pub whole_page : (text rest : List ℕ) (lines grid : ℕ) (items : List Item) → IsReadSoFar text rest lines (Ended grid items) → rest ≡ [] → IsPageText text grid items
whole_page text rest lines grid items r empty = record {
  grid_kept = r.kept.grid_kept;
  kept = r.kept.items_kept;
  printed = r.cut ∙ ap (λ x. lines_text r.before ++ x) empty ∙ append-nil (lines_text r.before) ∙ r.text_is;
}

pub sole_page : (text rest : List ℕ) (lines grid : ℕ) (items : List Item) (other : ℕ) (others : List Item) → IsReadSoFar text rest lines (Ended grid items) → rest ≡ []
    → IsPageText text other others → (grid ≡ other) × (items ≡ others)
sole_page text rest lines grid items other others r empty p =
    let s = Ended grid items in
    let whole = of_same (lines_text r.before ++ rest) (page_leads text other others p) r.cut in
    let P : List ℕ → Type 0 = λ x. IsLine x in
    let end = no_lead s rest (Ended other others) (subst P (sym empty) (All-nil (λ c. c ≢ 10))) (r.leads rest (Ended other others) whole) in
    let same : Ended grid items ≡ Ended other others = end.1 in
    (cc, cc)

-- a word holds the numbers of its corners and faces
pub few_parts : (text rest : List ℕ) (lines grid : ℕ) (items : List Item) → IsReadSoFar text rest lines (Ended grid items) → rest ≡ [] → length text < 2 ^ 64
    → corners_before items + sum_by face_count items < 2 ^ 64
few_parts text rest lines grid items r empty small =
    omega (arith, page_long grid items page_end, ap length (whole_page text rest lines grid items r empty).printed)

-- the state is that of a reader that has read all
pub of_end : (text rest : List ℕ) (lines : ℕ) (s t : State) → IsReadSoFar text rest lines s → s ≡ t → IsReadSoFar text rest lines t
of_end text rest lines s t r e = let P : State → Type 0 = λ x. IsReadSoFar text rest lines x in subst P e r
