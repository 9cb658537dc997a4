-- What a step of an entry answers where it returns.
use Rattle.std.proofs.Common.{◌≡◌, true, List, [], ◌∷◌, ◌++◌, reverse, Option, Some, Result, Ok, Err, is_err, IfOk, sym, ap, ◌∙◌}
use Rattle.std.proofs.lemmas.Bool.{true≢false}
use Rattle.std.proofs.lemmas.List.{reverse-append}
use Rattle.std.specs.Option.{option_to_list}
use Rattle.spec_step.specs.declared.token.Span.{Span}
use Rattle.spec_step.specs.declared.tree.Param.{Param}
use Rattle.spec_step.specs.declared.tree.Param.TheVariants as param
use Rattle.step_grammar.specs.declared.entry.Frame.{Frame}
use Rattle.step_grammar.specs.declared.entry.Frame.TheVariants as frame
use Rattle.step_grammar.specs.declared.entry.Spot.TheVariants as spot
use Rattle.step_grammar.specs.Entries.{close, close_empty, go_on, with_last}

-- an error owes nothing of what an answer owes
pub owes_nothing : {T E : Type 0} (r : Result T E) (P : T → Type 0) → is_err r ≡ true → IfOk r P
owes_nothing (Ok x) P e = absurd (true≢false (sym e))
owes_nothing (Err y) P e = tt

-- the parenthesis that was pushed is the innermost
pub pushed : (old new : List Frame) (f : Frame) → new ≡ old ++ f ∷ [] → reverse new ≡ f ∷ reverse old
pushed old new f e = ap reverse e ∙ reverse-append old (f ∷ [])

-- the parenthesis that was popped was the innermost
pub popped : (old new : List Frame) (r : Option Frame) (f g : Frame) → old ≡ new ++ option_to_list r → r ≡ Some f → f ≡ g → reverse old ≡ g ∷ reverse new
popped old new r f g e is same =
    pushed new old g (e ∙ ap (λ o. new ++ option_to_list o) (is ∙ ap Some same))

pub closes_list : (p : Param) (frames rest : List Frame) (ps all : List Param) → frames ≡ frame.List ps ∷ rest → all ≡ with_last ps p → Some (spot.Behind (param.List all), rest) ≡ close p frames
closes_list p frames rest ps all e h = rw (e, h)

pub closes_typed : (p q : Param) (frames rest : List Frame) (k : Span) → frames ≡ frame.Typed k ∷ rest → q ≡ p → Some (spot.Behind (param.Typed k q), rest) ≡ close p frames
closes_typed p q frames rest k e h = rw (e, h)

pub closes_entry : (p : Param) (frames rest : List Frame) (k : Span) (ps all : List Param) → frames ≡ frame.Entry k ps ∷ rest → all ≡ with_last ps p → Some (spot.Read (record { keyword = k; params = all }), rest) ≡ close p frames
closes_entry p frames rest k ps all e h = rw (e, h)

pub closes_empty_list : (frames rest : List Frame) (ps : List Param) → frames ≡ frame.List ps ∷ rest → ps ≡ [] → Some (spot.Behind (param.List ps), rest) ≡ close_empty frames
closes_empty_list frames rest ps e h = rw (e, h)

pub closes_empty_entry : (frames rest : List Frame) (k : Span) (ps : List Param) → frames ≡ frame.Entry k ps ∷ rest → ps ≡ [] → Some (spot.Read (record { keyword = k; params = ps }), rest) ≡ close_empty frames
closes_empty_entry frames rest k ps e h = rw (e, h)

pub goes_on_list : (p : Param) (frames rest now : List Frame) (ps all : List Param) → frames ≡ frame.List ps ∷ rest → all ≡ with_last ps p → now ≡ frame.List all ∷ rest → Some (spot.Before, now) ≡ go_on p frames
goes_on_list p frames rest now ps all e h n = rw (n, e, h)

pub goes_on_entry : (p : Param) (frames rest now : List Frame) (k : Span) (ps all : List Param) → frames ≡ frame.Entry k ps ∷ rest → all ≡ with_last ps p → now ≡ frame.Entry k all ∷ rest → Some (spot.Before, now) ≡ go_on p frames
goes_on_entry p frames rest now k ps all e h n = rw (n, e, h)
