-- Kinds of lines, one after the other.
use Rattle.std.proofs.Common.{◌≢◌, ℕ, ℤ, List, [], ◌∷◌, ◌++◌, Option, Some, None, MatchOption, Result, Ok, Err, IfOk}
use Rattle.spec_refusal.specs.declared.Refusal.TheVariants.{Unsupported, Curved, BadAttribute, Dangling, NumberTooLarge, BadDirection, ScaleOutOfRange, TooDeep, ElementTooLarge, CornerTooFar, OpenShell, PlaneTooLarge, Unbounded}
use Rattle.std.specs.declared.alloc.AllocError.{AllocError}
use Rattle.spec_space.specs.declared.Vector.{Vector}
use Rattle.spec_refusal.specs.declared.Refusal.{Refusal}
use Rattle.obj_lines.specs.PageLines.{PageLine, line_text, IsLineWithin, Version, Grid, Element, Frame, Exact, Printed, Face, Edge, Indices, Volume, Skipped, Refused, End}
use Rattle.obj_lines.specs.declared.line.Line.{Line}
use Rattle.obj_lines.specs.Readings.{IsNotOf, IsReadingAs, IsReadingOf, IsLineOf, line_of, IsNoEarly, IsNoLate, IsNoShape, IsNoHead}

pub volume_reading : (text : List ℕ) (r : Option Line) → IsNotOf (λ (u : Unit {0}). Volume None) text → IsReadingAs (λ (six : ℤ). Volume (Some six)) text r → IsReadingAs Volume text r
volume_reading text None without with_some = by
  where
    by : (six : Option ℤ) → IsLineWithin (Volume six) → line_text (Volume six) ≢ text ++ 10 ∷ []
    by None h e = without tt h e
    by (Some six) h e = with_some six h e
volume_reading text (Some line) without with_some = with_some

pub refused_none : (text : List ℕ) → IsNoEarly text → IsNoLate text → IsNotOf (λ (n : ℕ × Refusal). Refused n.0 n.1) text
refused_none text early late a within e = by a.0 a.1 within e
  where
    by : (n : ℕ) (why : Refusal) → IsLineWithin (Refused n why) → line_text (Refused n why) ≢ text ++ 10 ∷ []
    by n (Unsupported at) w e = early.unsupported (n, at) w e
    by n (Curved at) w e = early.curved (n, at) w e
    by n (BadAttribute at place) w e = early.bad_attribute (n, at, place) w e
    by n (Dangling at number) w e = early.dangling (n, at, number) w e
    by n (NumberTooLarge at) w e = early.number_too_large (n, at) w e
    by n (BadDirection at) w e = early.bad_direction (n, at) w e
    by n (ScaleOutOfRange at) w e = early.scale_out_of_range (n, at) w e
    by n (TooDeep at) w e = late.too_deep (n, at) w e
    by n (ElementTooLarge count) w e = late.element_too_large (n, count) w e
    by n (CornerTooFar at) w e = late.corner_too_far (n, at) w e
    by n (OpenShell at from to) w e = late.open_shell (n, at, from, to) w e
    by n (PlaneTooLarge at) w e = late.plane_too_large (n, at) w e
    by n (Unbounded at) w e = late.unbounded (n, at) w e

pub refused_reading : (text : List ℕ) (r : Option Line) → IsNoEarly text → MatchOption r (IsNoLate text) (λ line. IsLineOf text (line_of line)) → IsReadingAs (λ (n : ℕ × Refusal). Refused n.0 n.1) text r
refused_reading text None early late = refused_none text early late
refused_reading text (Some line) early late = late

pub shape_reading : (text : List ℕ) (r : Option Line) → IsNotOf Exact text → IsNotOf Printed text → IsNotOf Edge text → IsNotOf Face text → IsReadingAs Volume text r → MatchOption r (IsNoShape text) (λ line. IsLineOf text (line_of line))
shape_reading text None exact printed edge face volume = record { exact = exact; printed = printed; edge = edge; face = face; volume = volume }
shape_reading text (Some line) exact printed edge face volume = volume

pub head_reading : (text : List ℕ) (r : Option Line) → IsNotOf Element text → IsNotOf Frame text → IsNotOf Skipped text → IsNotOf (λ (u : Unit {0}). Version) text → IsNotOf Grid text → IsReadingAs (λ (u : Unit {0}). End) text r
    → MatchOption r (IsNoHead text) (λ line. IsLineOf text (line_of line))
head_reading text None element frame skipped version grid end = record { element = element; frame = frame; skipped = skipped; version = version; grid = grid; end = end }
head_reading text (Some line) element frame skipped version grid end = end

-- no line at all has the text
all_none : (text : List ℕ) → IsNoShape text → IsNoHead text → IsNotOf (λ (n : ℕ × Refusal). Refused n.0 n.1) text → IsNotOf Indices text → IsReadingOf text None
all_none text shape head refused indices = by
  where
    by : (line : PageLine) → IsLineWithin line → line_text line ≢ text ++ 10 ∷ []
    by Version w e = head.version tt w e
    by (Grid n) w e = head.grid n w e
    by (Element n) w e = head.element n w e
    by (Frame f) w e = head.frame f w e
    by (Exact p) w e = shape.exact p w e
    by (Printed v) w e = shape.printed v w e
    by (Face h) w e = shape.face h w e
    by (Edge h) w e = shape.edge h w e
    by (Indices ns) w e = indices ns w e
    by (Volume six) w e = shape.volume six w e
    by (Skipped n) w e = head.skipped n w e
    by (Refused n why) w e = refused (n, why) w e
    by End w e = head.end tt w e

pub whole_reading : (text : List ℕ) (r : Result (Option Line) AllocError) → IsNoShape text → IsNoHead text → IsNotOf (λ (n : ℕ × Refusal). Refused n.0 n.1) text → IfOk r (IsReadingAs Indices text) → IfOk r (IsReadingOf text)
whole_reading text (Ok None) shape head refused indices = all_none text shape head refused indices
whole_reading text (Ok (Some line)) shape head refused indices = indices
whole_reading text (Err e) shape head refused indices = tt

pub early_reading : (text : List ℕ) (r : Option Line) → IsNotOf (λ (n : ℕ × ℕ). Refused n.0 (Unsupported n.1)) text → IsNotOf (λ (n : ℕ × ℕ). Refused n.0 (Curved n.1)) text
    → IsNotOf (λ (n : ℕ × ℕ × ℕ). Refused n.0 (BadAttribute n.1 n.2)) text → IsNotOf (λ (n : ℕ × ℕ × ℕ). Refused n.0 (Dangling n.1 n.2)) text
    → IsNotOf (λ (n : ℕ × ℕ). Refused n.0 (NumberTooLarge n.1)) text → IsNotOf (λ (n : ℕ × ℕ). Refused n.0 (BadDirection n.1)) text
    → IsReadingAs (λ (n : ℕ × ℕ). Refused n.0 (ScaleOutOfRange n.1)) text r → MatchOption r (IsNoEarly text) (λ line. IsLineOf text (line_of line))
early_reading text None a b c d e f last = record { unsupported = a; curved = b; bad_attribute = c; dangling = d; number_too_large = e; bad_direction = f; scale_out_of_range = last }
early_reading text (Some line) a b c d e f last = last

pub late_reading : (text : List ℕ) (r : Option Line) → IsNotOf (λ (n : ℕ × ℕ). Refused n.0 (TooDeep n.1)) text → IsNotOf (λ (n : ℕ × ℕ). Refused n.0 (ElementTooLarge n.1)) text
    → IsNotOf (λ (n : ℕ × ℕ). Refused n.0 (CornerTooFar n.1)) text → IsNotOf (λ (n : ℕ × ℕ × Vector × Vector). Refused n.0 (OpenShell n.1 n.2 n.3)) text
    → IsNotOf (λ (n : ℕ × ℕ). Refused n.0 (PlaneTooLarge n.1)) text → IsReadingAs (λ (n : ℕ × ℕ). Refused n.0 (Unbounded n.1)) text r → MatchOption r (IsNoLate text) (λ line. IsLineOf text (line_of line))
late_reading text None a b c d e last = record { too_deep = a; element_too_large = b; corner_too_far = c; open_shell = d; plane_too_large = e; unbounded = last }
late_reading text (Some line) a b c d e last = last
