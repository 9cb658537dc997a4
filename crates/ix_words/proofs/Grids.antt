-- The grid of the options of `convert` is in its range.
use Rattle.std.proofs.Common.{◌≡◌, ℕ, ◌+◌, Bool, true, false, List, [], ◌∷◌, Option, Some, None, IfSome, refl, subst, arith}
use Rattle.std.specs.Prelude.{nat_le, codes, if◌then◌else◌}
use Rattle.std.specs.Option.{option_map, option_and_then, unwrap_or}
use Rattle.std.proofs.lemmas.Bool.{leb-true}
use Rattle.ix_words.specs.declared.options.Options.{Options}
use Rattle.ix_words.specs.Words.{number_of, is_grid, grid_of, behind, no_options, once, format_at, with_further, with_option, with_word, with_words, IsGrid}
use Rattle.ix_words.proofs.Numerals.{and_left, and_right}

-- the grid is in its range, if there is one
abbrev IsFine : Options → Type 0
IsFine options = IfSome options.grid IsGrid

tested : (n : ℕ) (b : Bool) → is_grid n ≡ b → IfSome (if b then Some n else None) IsGrid
tested n true e = record {
  least = leb-true 1 n (and_left (nat_le 1 n) (nat_le n 10000) e);
  most = leb-true n 10000 (and_right (nat_le 1 n) (nat_le n 10000) e);
}
tested n false e = tt

read : (o : Option ℕ) → IfSome (option_and_then (λ grid. if is_grid grid then Some grid else None) o) IsGrid
read None = tt
read (Some n) = tested n (is_grid n) refl

grid_set : (options : Options) (earlier value : Option ℕ) → IfSome value IsGrid → IfSome (option_map (λ g. record { grid = Some g; only = options.only; format = options.format }) (once earlier value)) IsFine
grid_set options (Some e) value h = tt
grid_set options None None h = tt
grid_set options None (Some g) h = h

only_set : (options : Options) (earlier value : Option ℕ) → IsFine options → IfSome (option_map (λ n. record { grid = options.grid; only = Some n; format = options.format }) (once earlier value)) IsFine
only_set options (Some e) value h = tt
only_set options None None h = tt
only_set options None (Some n) h = h

format_set : (options : Options) (earlier value : Option ℕ) → IsFine options → IfSome (option_map (λ f. record { grid = options.grid; only = options.only; format = Some f }) (once earlier value)) IsFine
format_set options (Some e) value h = tt
format_set options None None h = tt
format_set options None (Some f) h = h

further_set : (options : Options) (place : ℕ) (only format : Option (List ℕ)) → IsFine options → IfSome (with_further options place only format) IsFine
further_set options place (Some text) format h = only_set options options.only (number_of text) h
further_set options place None (Some name) h = format_set options options.format (format_at place name) h
further_set options place None None h = tt

option_set : (options : Options) (place : ℕ) (grid only format : Option (List ℕ)) → IsFine options → IfSome (with_option options place grid only format) IsFine
option_set options place (Some text) only format h = grid_set options options.grid (grid_of text) (read (number_of text))
option_set options place None only format h = further_set options place only format h

then_fine : (f : Options → Option Options) (o : Option Options) → ((options : Options) → IsFine options → IfSome (f options) IsFine) → IfSome o IsFine → IfSome (option_and_then f o) IsFine
then_fine f None g h = tt
then_fine f (Some options) g h = g options h

words_set : (words : List (List ℕ)) (place : ℕ) (options : Options) → IsFine options → IfSome (with_words options place words) IsFine
words_set [] place options h = h
words_set (word ∷ words) place options h =
    then_fine (λ read. with_words read (place + 1) words) (with_word options place word) (words_set words (place + 1))
    (option_set options place (behind (codes "--grid=") word) (behind (codes "--only=") word) (behind (codes "--format=") word) h)

told : (o : Option ℕ) → IfSome o IsGrid → IsGrid (unwrap_or o 1000)
told None h = record { least = omega arith; most = omega arith }
told (Some grid) h = h

pub grid_told : (words : List (List ℕ)) (options : Options) → with_words no_options 2 words ≡ Some options → IsGrid (unwrap_or options.grid 1000)
grid_told words options is = told options.grid (subst (λ (o : Option Options). IfSome o IsFine) is (words_set words 2 no_options tt))
