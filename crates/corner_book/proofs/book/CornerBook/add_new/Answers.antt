use Rattle.std.proofs.Common.{◌++◌, ◌∷◌, [], ◌∙◌, sym, ap, length, take, slice_get, arith}
use Rattle.std.specs.Map.{keys_of, values_of}
use Rattle.std.proofs.Math.Seq.{take-length}
use Rattle.corner_book.specs.Corners.{corners_of}
use Rattle.corner_book.specs.Places.{listed, unlisted, places_on_planes}
use Rattle.corner_book.proofs.Books.{goes_last, keys-last, values-last, length-keys, last_place}
use Rattle.corner_book.proofs.Changes.{length-changed, listed-places, unlisted-listed}
use Rattle.corner_book.proofs.Lines.{length-lists}
use Rattle.corner_book.proofs.book.CornerBook.add_new.Goals as goal

pub unlist_corner-requires-clause-lists : goal.unlist_corner-requires-clause-lists
unlist_corner-requires-clause-lists c =
    omega (
      arith,
      c.count.ensures.value,
      c.list_corner.new.lists.ok.0,
      ap length c.in_ok-list_corner.ensures.ok,
      length-changed (λ l. l ++ c.len-place.result ∷ []) c.args.book.now c.args.c c.args.self.now.lists.items,
      ap length c.requires.listed,
      length-lists c.args.book.now (corners_of c.args.self.now),
    )

pub returns-in-Ok-clause-corners : goal.returns-in-Ok-clause-corners
returns-in-Ok-clause-corners c =
    let es = c.args.self.now.corners.entries in
    ap keys_of (c.in-Ok.ensures.entries ∙ goes_last es c.args.c c.args.planes c.requires.absent) ∙ keys-last es c.args.c c.args.planes

pub returns-in-Ok-clause-planes : goal.returns-in-Ok-clause-planes
returns-in-Ok-clause-planes c =
    let es = c.args.self.now.corners.entries in
    ap values_of (c.in-Ok.ensures.entries ∙ goes_last es c.args.c c.args.planes c.requires.absent) ∙ values-last es c.args.c c.args.planes

pub returns-in-Ok-clause-place : goal.returns-in-Ok-clause-place
returns-in-Ok-clause-place c =
    let es = c.args.self.now.corners.entries in
    let keys = ap keys_of (c.in-Ok.ensures.entries ∙ goes_last es c.args.c c.args.planes c.requires.absent) ∙ keys-last es c.args.c c.args.planes in
    (λ i. slice_get (keys i) ((c.len-place.ensures.len ∙ sym (length-keys es)) i)) ∙ last_place (keys_of es) c.args.c

pub returns-in-Ok-clause-listed : goal.returns-in-Ok-clause-listed
returns-in-Ok-clause-listed c =
    let es = c.args.self.now.corners.entries in
    let keys = ap keys_of (c.in-Ok.ensures.entries ∙ goes_last es c.args.c c.args.planes c.requires.absent) ∙ keys-last es c.args.c c.args.planes in
    c.in_ok-list_corner.ensures.ok
    ∙ (λ i. listed c.args.book.now c.args.c ((c.len-place.ensures.len ∙ sym (length-keys es)) i) (c.requires.listed i))
    ∙ listed-places c.args.book.now (keys_of es) c.args.c ∙ ap (places_on_planes c.args.book.now) (sym keys)

pub returns-in-Err-clause-listed : goal.returns-in-Err-clause-listed
returns-in-Err-clause-listed c =
    c.unlist_corner.ensures
    ∙ (λ i. unlisted ((ap (λ n. take n c.args.book.now) c.count.ensures.value ∙ take-length c.args.book.now) i) c.args.c (c.in_ok-list_corner.ensures.ok i))
    ∙ unlisted-listed c.args.book.now c.args.c c.len-place.result c.args.self.now.lists.items
    ∙ c.requires.listed ∙ ap (λ es. places_on_planes c.args.book.now (keys_of es)) (sym c.in-Err.ensures.err)
