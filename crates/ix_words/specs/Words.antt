-- The job that the words of a command line stand for, the program's name aside (rules of this project).
use Rattle.std.specs.Prelude.{ℕ, zero, suc, ◌+◌, ◌==◌, ◌≤◌, Bool, true, false, not, ◌&&◌, nat_le, List, [], ◌∷◌, length, take, drop, slice_get, Option, Some, None, ⊤, codes, if◌then◌else◌}
use Rattle.std.specs.Option.{option_map, option_and_then, unwrap_or}
use Rattle.std.specs.List.{list_all}
use Rattle.std.specs.Char.{is_ascii_digit}
use Rattle.std.specs.Str.{bytes_eq}
use Rattle.std.specs.Str.Parse.{digits_value}
use Rattle.ix_words.specs.declared.options.Options.{Options}
use Rattle.ix_words.specs.declared.job.Job.{Job}
use Rattle.ix_words.specs.declared.job.Job.TheVariants.{Convert, Check, Gen}

-- 1 to 18 digits, of which the first is not 0
abbrev pub is_numeral : List ℕ → Bool
is_numeral [] = false
is_numeral (c ∷ cs) = not (c == 48) && (nat_le (length (c ∷ cs)) 18 && list_all is_ascii_digit (c ∷ cs))

-- the number of a numeral
abbrev pub number_of : List ℕ → Option ℕ
number_of text = if is_numeral text then Some (digits_value 10 text) else None

-- a grid has from 1 to 10,000 micrometres
abbrev pub is_grid : ℕ → Bool
is_grid grid = nat_le 1 grid && nat_le grid 10000

abbrev pub grid_of : List ℕ → Option ℕ
grid_of text = option_and_then (λ grid. if is_grid grid then Some grid else None) (number_of text)

-- what stands behind a front, if the word begins with it
abbrev pub behind : List ℕ → List ℕ → Option (List ℕ)
behind front word = if bytes_eq (take (length front) word) front then Some (drop (length front) word) else None

-- The options of `convert`.

abbrev pub no_options : Options
no_options = record { grid = None; only = None; format = None }

-- an option is read once
abbrev pub once : Option ℕ → Option ℕ → Option ℕ
once None value = value
once (Some earlier) value = None

-- a format is told by the place of its word, counted from 1, and OBJ text by 0; its name has at least one byte
abbrev pub format_at : ℕ → List ℕ → Option ℕ
format_at place [] = None
format_at place (c ∷ cs) = if bytes_eq (c ∷ cs) (codes "obj") then Some 0 else Some place

abbrev pub with_grid : Options → List ℕ → Option Options
with_grid options text =
    option_map (λ g. record { grid = Some g; only = options.only; format = options.format }) (once options.grid (grid_of text))

abbrev pub with_only : Options → List ℕ → Option Options
with_only options text =
    option_map (λ n. record { grid = options.grid; only = Some n; format = options.format }) (once options.only (number_of text))

abbrev pub with_format : Options → ℕ → List ℕ → Option Options
with_format options place name =
    option_map (λ f. record { grid = options.grid; only = options.only; format = Some f }) (once options.format (format_at place name))

abbrev pub with_further : Options → ℕ → Option (List ℕ) → Option (List ℕ) → Option Options
with_further options place (Some only) format = with_only options only
with_further options place None (Some name) = with_format options place name
with_further options place None None = None

abbrev pub with_option : Options → ℕ → Option (List ℕ) → Option (List ℕ) → Option (List ℕ) → Option Options
with_option options place (Some grid) only format = with_grid options grid
with_option options place None only format = with_further options place only format

-- the options with the word at a place more: `--grid=N`, `--only=N` or `--format=NAME`
abbrev pub with_word : Options → ℕ → List ℕ → Option Options
with_word options place word =
    with_option options place (behind (codes "--grid=") word) (behind (codes "--only=") word) (behind (codes "--format=") word)

abbrev pub with_words : Options → ℕ → List (List ℕ) → Option Options
with_words options place [] = Some options
with_words options place (word ∷ words) = option_and_then (λ read. with_words read (place + 1) words) (with_word options place word)

-- the grid has 1000 micrometres where no word says another, and the format is OBJ text
abbrev pub convert_with : Options → Job
convert_with options = Convert (unwrap_or options.grid 1000) options.only (unwrap_or options.format 0)

-- `convert` with options; the first stands at place 2 among the words
abbrev pub convert_of : List (List ℕ) → Option Job
convert_of words = option_map convert_with (with_words no_options 2 words)

-- `check` alone
abbrev pub check_of : List (List ℕ) → Option Job
check_of [] = Some Check
check_of (word ∷ words) = None

-- a file is generated with from 1 to 150 walls
abbrev pub is_count : ℕ → Bool
is_count n = nat_le 1 n && nat_le n 150

abbrev pub count_of : List ℕ → Option ℕ
count_of text = option_and_then (λ n. if is_count n then Some n else None) (number_of text)

-- the number of walls that a word `--count=N` says
abbrev pub count_in : List ℕ → Option ℕ
count_in word = option_and_then count_of (behind (codes "--count=") word)

abbrev pub gen_with : Bool → List ℕ → Option Job
gen_with run word = option_map (λ n. Gen n run) (count_in word)

-- `--count=N` and `--run` in either order
abbrev pub run_of : List ℕ → List ℕ → Option Job
run_of word other =
    if bytes_eq word (codes "--run") then gen_with true other
    else if bytes_eq other (codes "--run") then gen_with true word else None

-- `gen` with `--count=N`, and at most one `--run` before or behind it
abbrev pub gen_of : List (List ℕ) → Option Job
gen_of [] = None
gen_of (word ∷ []) = gen_with false word
gen_of (word ∷ other ∷ []) = run_of word other
gen_of (word ∷ other ∷ third ∷ words) = None

-- the name that the word of a format says, which stands at this place, counted from 1; none for OBJ text
abbrev pub format_name : List (List ℕ) → ℕ → Option (List ℕ)
format_name words zero = None
format_name words (suc place) = option_and_then (behind (codes "--format=")) (slice_get words place)

-- the first word names the job, and what follows it are the job's options
abbrev pub job_of : List (List ℕ) → Option Job
job_of [] = None
job_of (word ∷ words) =
    if bytes_eq word (codes "convert") then convert_of words
    else if bytes_eq word (codes "check") then check_of words
    else if bytes_eq word (codes "gen") then gen_of words else None

pub record IsGrid (grid : ℕ) : Type 0 where
  pub least : 1 ≤ grid
  pub most : grid ≤ 10000

pub record IsCount (n : ℕ) : Type 0 where
  pub least : 1 ≤ n
  pub most : n ≤ 150

-- the numbers of a job are in their ranges
abbrev pub IsInRange : Job → Type 0
IsInRange (Convert grid only format) = IsGrid grid
IsInRange Check = ⊤
IsInRange (Gen n run) = IsCount n
