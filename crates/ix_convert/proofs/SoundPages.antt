-- The page in OBJ text of a file is sound, and what is put of it is done.
use Rattle.std.proofs.Common.{◌≡◌, ℕ, List, Bool, true, false, Option, None, refl, arith}
use Rattle.std.specs.Prelude.{◌==◌, ◌&&◌, if◌then◌else◌}
use Rattle.ix_words.specs.declared.status.Status.TheVariants.{Done, SomeRefused}
use Rattle.ix_words.specs.Statuses.{is_done}
use Rattle.ix_words.specs.Words.{IsGrid}
use Rattle.model_gen.specs.Model.{model}
use Rattle.spec_page.specs.Items.{Item}
use Rattle.spec_check.specs.Limits.{IsPageGrid}
use Rattle.spec_check.specs.Verdicts.{IsSoundPage}
use Rattle.spec_run.specs.Tasks.Converting.{Format, Obj, TextOf, IsPageOf, IsSoundIn, page_status}
use Rattle.page_laws.proofs.Pages.{page_sound}

pub sound_in : (grid : ℕ) (only : Option ℕ) (format : Format) (given page : List ℕ) (items : List Item) → IsGrid grid
    → IsPageOf grid only format given page items → IsSoundIn grid format page
sound_in grid only Obj given page items range h = page_sound grid only given page items (record { least = range.least; most = range.most }) h
sound_in grid only (TextOf writer) given page items range h = tt

millimetre : IsPageGrid 1000
millimetre = record { least = omega arith; most = omega arith }

pub sound_model : (n : ℕ) (page : List ℕ) (items : List Item) → IsPageOf 1000 None Obj (model n) page items → IsSoundPage 1000 page
sound_model n page items h = page_sound 1000 None (model n) page items millimetre h

one_of_done : (b : Bool) → true ≡ (true && is_done (if b then Done else SomeRefused))
one_of_done true = refl
one_of_done false = refl

pub page_is_done : (refused : ℕ) → true ≡ (true && is_done (page_status refused))
page_is_done refused = one_of_done (refused == 0)
