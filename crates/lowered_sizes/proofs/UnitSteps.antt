-- The steps of a unit are bounded by the nodes of its statements as they are read.
use Rattle.std.specs.Prelude.{◌≡◌, ℕ, suc, ◌+◌, ◌*◌, ◌≤◌, not, Bool, true, false, List, [], ◌∷◌, ◌++◌, length, filter, Option, Some, None, slice_get, option_map, cond, if◌then◌else◌}
use Rattle.std.proofs.Common.{sym, ap, subst, arith}
use Rattle.std.proofs.lemmas.List.{length-append}
use Rattle.lowering.specs.l_core.f_tree.Facts.{ToSetLabel, ToGuard, ToLoop, ToTestLoop, Mark, Plain, Opens, Arm, Closes, Form, Passes, On, Line, ProgramUnit, Facts}
use Rattle.lowering.specs.l_core.f_tree.Nests.{Range, loop_of, range_to, range_by, ranges_from, ranges_of, is_within, goes_past, open_at}
use Rattle.lowering.specs.l_core.f_tree.Places.{terminal_of, place_of_label}
use Rattle.lowering.specs.l_core.f_tree.Step.{assigned_by, assigned_in}
use Rattle.lowering.specs.l_core.Pures.{Pures, NoPure, AndPure}
use Rattle.lowering.specs.l_core.Steps.{Step, Again, Text}
use Rattle.lowering.specs.Statements.{turn_code}
use Rattle.lowering.specs.Units.{free_at, loop_lowered, all_named, is_named, pass_code, statement_code, steps_of, is_counted, turn_size, ended_at, own_end, room_of, way_back, turn_of, turns_of, skip_code, line_code, both_codes, lines_code, start_of, lines_marks, text_with}
use Rattle.lowered_sizes.specs.ReadNodes.{form_nodes, lines_nodes, EachTextIsBounded}
use Rattle.ways_back.proofs.LoweredTexts.{text_lowered}
use Rattle.lowered_sizes.proofs.StatementSteps.{listed_size}

abbrev count : Option (List Step) → ℕ
count x = length (steps_of x)

-- ## Loops

turn_code_size : (once : Bool) (n : ℕ) (ps : Pures) → length (turn_code once n ps) ≤ 2
unfolding turn_code
turn_code_size once n (AndPure x (AndPure first (AndPure limit (AndPure by NoPure)))) = omega arith
turn_code_size once n ps = omega arith

turn_of_size : (u : ProgramUnit) (from : ℕ) (r : Range) → length (turn_of u from r) ≤ 2
unfolding turn_of
turn_of_size u from r = by (is_counted (slice_get u.lines r.first))
  where
    by : (b : Bool) → length (if b then turn_code u.onetrip (way_back u r (from + 1)) (loop_lowered u (free_at u r.first) r).value else Again (way_back u r from) ∷ []) ≤ 2
    by true = turn_code_size u.onetrip (way_back u r (from + 1)) (loop_lowered u (free_at u r.first) r).value
    by false = omega arith

turns_of_size : (u : ProgramUnit) (from : ℕ) (rs : List Range) → length (turns_of u from rs) ≤ 2 * length rs
unfolding turns_of
turns_of_size u from [] = omega arith
turns_of_size u from (r ∷ rs) =
    let whole = length-append (turn_of u from r) (turns_of u (from + turn_size u r) rs) in
    let one = turn_of_size u from r in
    let more = turns_of_size u (from + turn_size u r) rs in
    omega (arith, whole, one, more)

fewer : (p : Range → Bool) (xs : List Range) → length (filter p xs) ≤ length xs
fewer p [] = omega arith
fewer p (x ∷ xs) = by (p x) (fewer p xs)
  where
    by : (b : Bool) → length (filter p xs) ≤ length xs → length (cond b (x ∷ filter p xs) (filter p xs)) ≤ suc (length xs)
    by true more = omega (arith, more)
    by false more = omega (arith, more)

range_size : (i : ℕ) (last : Option ℕ) → length (range_to i last) ≤ 1
unfolding range_to
range_size i None = omega arith
range_size i (Some last) = omega arith

assigned_size : (form : Form) → length (assigned_by form) ≤ 1
unfolding assigned_by
assigned_size (On (ToSetLabel label) ts) = omega arith
assigned_size (On (ToGuard form) ts) = assigned_size form
assigned_size form = omega arith

-- a statement begins a loop, or names a label in ASSIGN, or neither
either_size : (u : ProgramUnit) (i : ℕ) (form : Form) → length (range_by u i (loop_of form)) + length (assigned_by form) ≤ 1
unfolding loop_of range_by assigned_by
either_size u i (On (ToLoop label) ts) = let one = range_size i (terminal_of u i label) in omega (arith, one)
either_size u i (On (ToTestLoop label) ts) = let one = range_size i (terminal_of u i label) in omega (arith, one)
either_size u i (On (ToGuard form) ts) = let one = assigned_size form in omega (arith, one)
either_size u i form = omega arith

ranges_size : (u : ProgramUnit) (i : ℕ) (lines : List Line) → length (ranges_from u i lines) + length (assigned_in lines) ≤ length lines
unfolding ranges_from assigned_in
ranges_size u i [] = omega arith
ranges_size u i (line ∷ lines) =
    let whole = length-append (ranges_from u (suc i) lines) (range_by u i (loop_of line.form)) in
    let labels = length-append (assigned_by line.form) (assigned_in lines) in
    let one = either_size u i line.form in
    let more = ranges_size u (suc i) lines in
    omega (arith, whole, labels, one, more)

ended_size : (u : ProgramUnit) (i : ℕ) → length (ended_at u i) + length (assigned_in u.lines) ≤ length u.lines
unfolding ended_at open_at ranges_of
ended_size u i =
    let one = fewer (λ r. not (goes_past i r)) (open_at u i) in
    let two = fewer (is_within i) (ranges_of u) in
    let all = ranges_size u 0 u.lines in
    omega (arith, one, two, all)

-- ## Statements

skip_size : (u : ProgramUnit) (i : ℕ) (mark : Mark) → length (skip_code u i mark) ≤ 1
unfolding skip_code
skip_size u i Plain = omega arith
skip_size u i Opens = omega arith
skip_size u i Arm = omega arith
skip_size u i Closes = omega arith

pass_size : (named : Bool) (form : Form) → length (pass_code named form) ≤ 1
unfolding pass_code
pass_size true Passes = omega arith
pass_size false Passes = omega arith
pass_size true (On head operands) = omega arith
pass_size false (On head operands) = omega arith

around : (before behind last : List Step) (x : Option (List Step)) → count (option_map (λ steps. before ++ steps ++ behind ++ last) x) ≤ length before + (count x + (length behind + length last))
unfolding steps_of
around before behind last None = omega arith
around before behind last (Some steps) =
    let one = length-append (before ++ steps ++ behind) last in
    let two = length-append (before ++ steps) behind in
    let three = length-append before steps in
    let whole : length (before ++ steps ++ behind ++ last) ≤ length before + (length steps + (length behind + length last)) = omega (arith, one, two, three) in
    whole

line_size : (u : ProgramUnit) (i : ℕ) (line : Line) → count (line_code u i line) ≤ 5 * suc (form_nodes line.form) + 2 * length u.lines
unfolding line_code statement_code
line_size u i line =
    let whole = around (skip_code u i line.mark) (pass_code (is_named (all_named u.lines) line.label) line.form) (turns_of u (own_end u i) (ended_at u i)) (statement_code u (free_at u i) (room_of u i line) line.form) in
    let skip = skip_size u i line.mark in
    let pass = pass_size (is_named (all_named u.lines) line.label) line.form in
    let turns = turns_of_size u (own_end u i) (ended_at u i) in
    let ended = ended_size u i in
    let own = listed_size u.onetrip (free_at u i) (room_of u i line) (assigned_in u.lines) line.form in
    omega (arith, whole, skip, pass, turns, ended, own)

both_size : (x y : Option (List Step)) → count (both_codes x y) ≤ count x + count y
unfolding both_codes steps_of
both_size None y = omega arith
both_size (Some steps) None = omega arith
both_size (Some steps) (Some later) = let whole = length-append steps later in omega (arith, whole)

lines_size : (u : ProgramUnit) (i : ℕ) (lines : List Line) → count (lines_code u i lines) ≤ 5 * lines_nodes lines + 2 * (length u.lines * length lines)
unfolding lines_code lines_nodes steps_of
lines_size u i [] = omega arith
lines_size u i (line ∷ lines) =
    let whole = both_size (line_code u i line) (lines_code u (suc i) lines) in
    let one = line_size u i line in
    let more = lines_size u (suc i) lines in
    omega (arith, whole, one, more)

-- ## The unit

steps_by : (c : Facts) (x : Option (List Step)) (u : Text) → text_with c x ≡ Some u → u.steps ≡ steps_of x
unfolding text_with steps_of
steps_by c None u h = absurd (cc)
steps_by c (Some steps) u h =
    let same : record {
      facts = c;
      steps = steps;
      begins = start_of c.program;
      position = λ label. option_map (start_of c.program) (place_of_label c.program label);
      marks = lines_marks c.program 0 c.program.lines;
    } ≡ u = cc in
    ap (λ (t : Text). t.steps) (sym same)

pub each_text_is_bounded : EachTextIsBounded
each_text_is_bounded c u h =
    subst (λ (steps : List Step). length steps ≤ 5 * lines_nodes c.program.lines + 2 * (length c.program.lines * length c.program.lines)) (sym (steps_by c (lines_code c.program 0 c.program.lines) u (text_lowered c u h)))
    (lines_size c.program 0 c.program.lines)
