-- The pages of `convert` keep the limits of pages, and their elements are sound.
use Rattle.std.proofs.Common.{◌≡◌, ℕ, ℤ, List, [], ◌∷◌, length, All, Option, Some, None, refl, sym, ◌∙◌, subst}
use Rattle.std.specs.Prelude.{nat_eq}
use Rattle.std.proofs.lemmas.List.Elements.{All-nil, All-cons, All-head, All-tail, All-filter}
use Rattle.spec_table.specs.Sections.{DataSection}
use Rattle.spec_entity.specs.Elements.{elements}
use Rattle.spec_geometry.specs.Files.{File}
use Rattle.spec_page.specs.Element.{Element}
use Rattle.spec_page.specs.Items.{Item, Printed, Skipped, Refused}
use Rattle.spec_outcome.specs.Outcomes.{Outcome, Bodyless, Faulty, Solid, outcome, IsElementOf, StandsFor, IsItemOf, AreItemsOf, wanted_of}
use Rattle.spec_check.specs.Limits.{IsShort, IsPageGrid, IsItemWithin}
use Rattle.spec_check.specs.Verdicts.{IsSoundElement, elements_in, IsSoundPage}
use Rattle.table_limits.proofs.Tables.{IsShortSection}
use Rattle.table_limits.proofs.Spellings.{accepted_short}
use Rattle.refusal_limits.proofs.Refusals.{IsOutcomeWithin, outcome_within, numbers_within}
use Rattle.spec_run.specs.Tasks.Converting.{Obj, IsPageOf}
use Rattle.page_laws.proofs.Prints.{print_sound, print_within}

-- an item keeps the limits, and is sound if it is an element
record IsFine (grid : ℕ) (item : Item) : Type 0 where
  pub within : IsItemWithin item
  pub sound : All (IsSoundElement grid) (elements_in (item ∷ []))

same_element : (grid n : ℕ) (e : Element) → e.number ≡ n → IsShort n → IsShort e.number
same_element grid n e same short = subst IsShort (sym same) short

item_fine : (grid n : ℕ) (o : Outcome) (item : Item) → IsShort n → IsOutcomeWithin o → StandsFor grid n o item → IsFine grid item
item_fine grid n Bodyless item short within is =
    subst (IsFine grid) (sym is) (record { within = short; sound = All-nil (IsSoundElement grid) })
item_fine grid n (Faulty why) item short within is =
    subst (IsFine grid) (sym is) (record { within = (short, within); sound = All-nil (IsSoundElement grid) })
item_fine grid n (Solid frame body) item short within (e, is, of) =
    subst (IsFine grid) (sym is) (record {
      within = print_within body grid e (same_element grid n e of.number short) of.print;
      sound = All-cons (IsSoundElement grid) e [] (print_sound body grid e of.print) (All-nil (IsSoundElement grid));
    })

sound_more : (grid : ℕ) (item : Item) (items : List Item) → All (IsSoundElement grid) (elements_in (item ∷ [])) → All (IsSoundElement grid) (elements_in items)
    → All (IsSoundElement grid) (elements_in (item ∷ items))
sound_more grid (Printed e) items h k = All-cons (IsSoundElement grid) e (elements_in items) (All-head (IsSoundElement grid) e [] h) k
sound_more grid (Skipped n) items h k = k
sound_more grid (Refused n why) items h k = k

record AreFine (grid : ℕ) (items : List Item) : Type 0 where
  pub within : All IsItemWithin items
  pub sound : All (IsSoundElement grid) (elements_in items)

items_fine : (file : File) → IsShortSection file.section → (ns : List ℕ) (items : List Item) → All IsShort ns → AreItemsOf file ns items → AreFine file.grid items
items_fine file short [] [] numbers are = record { within = All-nil IsItemWithin; sound = All-nil (IsSoundElement file.grid) }
items_fine file short [] (i ∷ is) numbers are = absurd are
items_fine file short (n ∷ ns) [] numbers are = absurd are
items_fine file short (n ∷ ns) (i ∷ is) numbers are =
    let number = All-head IsShort n ns numbers in
    let first = item_fine file.grid n (outcome file n) i number (outcome_within file short n number) are.0 in
    let more = items_fine file short ns is (All-tail IsShort n ns numbers) are.1 in
    record {
      within = All-cons IsItemWithin i is first.within more.within;
      sound = sound_more file.grid i is first.sound more.sound;
    }

wanted_short : (only : Option ℕ) (ns : List ℕ) → All IsShort ns → All IsShort (wanted_of only ns)
wanted_short None ns h = h
wanted_short (Some only) ns h = All-filter (λ n. nat_eq n only) IsShort ns h

pub page_sound : (grid : ℕ) (only : Option ℕ) (given page : List ℕ) (items : List Item) → IsPageGrid grid → IsPageOf grid only Obj given page items → IsSoundPage grid page
page_sound grid only given page items range h =
    let file : File = record { section = h.section; unit = h.unit; grid = grid } in
    let read = h.input.file in
    let fine = items_fine file (accepted_short given h.section read.head read.accepted read.small) (wanted_of only (elements h.section)) items
    (wanted_short only (elements h.section) (numbers_within given h.section read.head read.accepted read.small)) h.outcomes in
    record {
      items = items;
      page = record { grid_kept = range; kept = fine.within; printed = h.text };
      sound = fine.sound;
    }
