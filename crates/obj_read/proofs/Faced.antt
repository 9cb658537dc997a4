-- The corners that a reader counts, and its faces.
use Rattle.std.proofs.Common.{◌≡◌, ℕ, ◌+◌, ◌<◌, ◌^◌, Bool, cond, Some, None, List, length, map, sym, ap, ◌∙◌, subst, arith, vec_len}
use Rattle.std.proofs.lemmas.List.{length-map}
use Rattle.exact_mesh.specs.Meshes.{numbered_plane}
use Rattle.obj_read.specs.States.{Open, with_face, places_of, are_indices, faced, corners_of, corners_before}
use Rattle.obj_read.specs.Readers.{items_in, element_in, state_of}
use Rattle.obj_read.specs.declared.parts.Page.{Page}
use Rattle.obj_read.specs.declared.parts.Block.{Block}
use Rattle.obj_read.specs.declared.parts.Outline.{Outline}
use Rattle.obj_read.specs.declared.reader.Reader.{Reader}
use Rattle.obj_read.specs.declared.reader.Reader.TheVariants as reader
use Rattle.obj_read.proofs.Grown.{length-page_corners}

few : (p : Page) (b : Block) → corners_before (items_in p) + length (element_in b).corners < 2 ^ 64 → p.before + vec_len b.corners < 2 ^ 64
few p b h = omega (arith, h, p.summed, length-page_corners b.corners.items b.printed.items b.paired)

pub few_open : (r : Reader) (p : Page) (b : Block) → r ≡ reader.Open p b → corners_of (state_of r) < 2 ^ 64 → p.before + vec_len b.corners < 2 ^ 64
few_open r p b e h = let P : Reader → Type 0 = λ x. corners_of (state_of x) < 2 ^ 64 in few p b (subst P e h)

pub few_faced : (r : Reader) (p : Page) (b : Block) (o : Outline) → r ≡ reader.Faced p b o → corners_of (state_of r) < 2 ^ 64 → p.before + vec_len b.corners < 2 ^ 64
few_faced r p b o e h = let P : Reader → Type 0 = λ x. corners_of (state_of x) < 2 ^ 64 in few p b (subst P e h)

-- a face as its reader counts
counted_face : (p : Page) (b : Block) (o : Outline) (ns : List ℕ)
    → are_indices (corners_before (items_in p)) (length (element_in b).corners) (length (map numbered_plane o.edges.items)) ns
    ≡ are_indices p.before (vec_len b.corners) (vec_len o.edges) ns
counted_face p b o ns =
    let corners : length (element_in b).corners ≡ vec_len b.corners = omega (arith, length-page_corners b.corners.items b.printed.items b.paired, b.corners.ok.0) in
    let edges : length (map numbered_plane o.edges.items) ≡ vec_len o.edges = omega (arith, length-map o.edges.items numbered_plane, o.edges.ok.0) in
    ap (λ n. are_indices n (length (element_in b).corners) (length (map numbered_plane o.edges.items)) ns) (sym p.summed)
    ∙ ap (λ n. are_indices p.before n (length (map numbered_plane o.edges.items)) ns) corners
    ∙ ap (λ n. are_indices p.before (vec_len b.corners) n ns) edges

pub faced_as : (p : Page) (b : Block) (o : Outline) (ns : List ℕ) (fits : Bool) → are_indices p.before (vec_len b.corners) (vec_len o.edges) ns ≡ fits
    → faced p.grid (items_in p) (element_in b) (numbered_plane o.plane) (map numbered_plane o.edges.items) ns
    ≡ cond fits (Some (Open p.grid (items_in p) (with_face (element_in b) (record { plane = numbered_plane o.plane; edges = map numbered_plane o.edges.items; corners = places_of p.before ns })))) None
faced_as p b o ns fits e =
    ap (λ v. cond v (Some (Open p.grid (items_in p) (with_face (element_in b) (record { plane = numbered_plane o.plane; edges = map numbered_plane o.edges.items; corners = places_of (corners_before (items_in p)) ns })))) None) (counted_face p b o ns ∙ e)
    ∙ ap (λ n. cond fits (Some (Open p.grid (items_in p) (with_face (element_in b) (record { plane = numbered_plane o.plane; edges = map numbered_plane o.edges.items; corners = places_of n ns })))) None) (sym p.summed)
