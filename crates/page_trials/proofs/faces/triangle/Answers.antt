use Rattle.std.proofs.Common.{◌<◌, ◌≡◌, ℕ, vec_len, length, All, sym, subst, ◌∙◌, arith}
use Rattle.std.proofs.lemmas.List.{length-map}
use Rattle.std.proofs.lemmas.List.Elements.{All-map}
use Rattle.exact_mesh.specs.Meshes.{numbered_plane}
use Rattle.face_check.specs.Sizes.{IsSizedPlane}
use Rattle.page_trials.proofs.faces.triangle.Goals as goal

three : (m n a b : ℕ) → m ≡ 3 → n ≡ 3 → a ≡ m → b ≡ n → a ≡ b
three m n a b x y p q = omega arith

pub returns : goal.returns
returns c =
    let edges = c.in_ok-from_array.field-0.items in
    let corners = c.in_ok-from_array-2.field-0.items in
    record {
      plane = record { a = omega arith; b = omega arith; c = omega arith; d = omega arith };
      edges = All-map IsSizedPlane numbered_plane edges (subst (All (λ e. IsSizedPlane (numbered_plane e))) (sym c.in_ok-from_array.ensures.items) c.requires.edges);
      paired = length-map edges numbered_plane
          ∙ three (vec_len c.in_ok-from_array.field-0) (vec_len c.in_ok-from_array-2.field-0) (length edges) (length corners) c.in_ok-from_array.ensures.len c.in_ok-from_array-2.ensures.len
          (omega (arith, c.in_ok-from_array.field-0.ok.0)) (omega (arith, c.in_ok-from_array-2.field-0.ok.0));
      within = subst (All (λ i. i < 4)) (sym c.in_ok-from_array-2.ensures.items) c.requires.places;
    }
