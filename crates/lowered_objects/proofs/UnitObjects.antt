-- A lowered unit needs few temporaries, constants and strings for the nodes of its statements as they are read.
use Rattle.std.specs.Prelude.{◌≡◌, ℕ, zero, suc, ◌+◌, ◌*◌, ◌≤◌, ℤ, pos, Bool, true, false, List, [], ◌∷◌, ◌++◌, length, filter, Option, Some, None, slice_get, option_map, cond, if◌then◌else◌}
use Rattle.std.proofs.Common.{sym, ap, ◌∙◌, subst, arith}
use Rattle.std.proofs.lemmas.List.{length-append}
use Rattle.lowered_sizes.specs.l_core.f_tree.Values.{IsInt, IsLog, in_range}
use Rattle.lowered_sizes.specs.l_core.f_tree.Terms.{Terms, NoMore}
use Rattle.lowered_sizes.specs.l_core.f_tree.Facts.{LoopMark, Mark, Plain, Opens, Arm, Closes, ToLoop, Head, Form, Passes, On, Line, ProgramUnit, Facts}
use Rattle.lowered_sizes.specs.l_core.f_tree.Nests.{Range, loop_of, range_to, range_by, ranges_from, ranges_of, is_within, open_at}
use Rattle.lowered_sizes.specs.l_core.f_tree.Places.{terminal_of, place_of_label}
use Rattle.lowered_sizes.specs.l_core.f_tree.Step.{assigned_in}
use Rattle.lowered_sizes.specs.l_core.Pures.{Pure, Constant, Pures, NoPure, AndPure}
use Rattle.lowered_sizes.specs.l_core.Steps.{Takes, Step, Put, Compute, Again, Pass, CallFor, CallSub, Acts, Text}
use Rattle.lowered_sizes.specs.lowering.Statements.{loop_operands, test_by, back_by, turn_code, form_code}
use Rattle.lowered_sizes.specs.lowering.Units.{loop_at_line, free_of, free_at, loop_lowered, all_named, is_named, pass_code, listed, statement_code, steps_of, is_counted, turn_size, ended_at, own_end, room_of, way_back, turn_of, turns_of, skip_code, line_code, both_codes, lines_code, start_of, lines_marks, text_with}
use Rattle.lowered_sizes.specs.ReadNodes.{terms_nodes, head_nodes, form_nodes, lines_nodes}
use Rattle.unit_translation.specs.main_translation.Contents.{own_value, own_values, kind_value}
use Rattle.unit_translation.specs.behind_bounds.BehindBounds.{behind, steps_behind}
use Rattle.unit_translation.specs.UnitContents.{temporaries_kept, values_passed, values_from}
use Rattle.lowered_objects.specs.FewObjects.{form_text, lines_text, string_bytes, strings_bytes, EachTextNeedsFewObjects}
use Rattle.lowered_sizes.proofs.ways_back.LoweredTexts.{text_lowered}
use Rattle.lowered_objects.proofs.ExpressionObjects.{count, passed, all_passed, Has, has_none, has_more, has_both}
use Rattle.lowered_objects.proofs.StatementObjects.{loop_few, listed_needs}

-- ## Temporaries that open loops keep

nodes_at : Option Line → ℕ
nodes_at None = 0
nodes_at (Some line) = form_nodes line.form

-- the nodes of the DO statement of a range
loop_nodes : ProgramUnit → Range → ℕ
loop_nodes u r = nodes_at (slice_get u.lines r.first)

all_loops : ProgramUnit → List Range → ℕ
all_loops u [] = 0
all_loops u (r ∷ rs) = loop_nodes u r + all_loops u rs

no_loop : (k n : ℕ) → (loop_operands k NoMore).free ≤ k + n
unfolding loop_operands
no_loop k n = omega arith

head_free : (k : ℕ) (label : Option ℕ) (mark : Mark) (loop : LoopMark) (card : ℕ) (head : Head) (ts : Terms) → (loop_at_line k (Some (record { label = label; mark = mark; loop = loop; card = card; form = On head ts }))).free ≤ k + suc (head_nodes head + terms_nodes ts)
unfolding loop_at_line
head_free k label mark loop card (ToLoop to) ts = let few = (loop_few k ts).free in omega (arith, few)
head_free k label mark loop card head ts = no_loop k _

form_free : (k : ℕ) (label : Option ℕ) (mark : Mark) (loop : LoopMark) (card : ℕ) (form : Form) → (loop_at_line k (Some (record { label = label; mark = mark; loop = loop; card = card; form = form }))).free ≤ k + form_nodes form
unfolding loop_at_line form_nodes
form_free k label mark loop card Passes = no_loop k 0
form_free k label mark loop card (On head ts) = head_free k label mark loop card head ts

line_free : (k : ℕ) (x : Option Line) → (loop_at_line k x).free ≤ k + nodes_at x
unfolding loop_at_line nodes_at
line_free k None = no_loop k 0
line_free k (Some line) = form_free k line.label line.mark line.loop line.card line.form

free_within : (u : ProgramUnit) (rs : List Range) → free_of u rs ≤ all_loops u rs
unfolding free_of loop_lowered all_loops loop_nodes
free_within u [] = omega arith
free_within u (r ∷ outer) =
    let own = line_free (free_of u outer) (slice_get u.lines r.first) in
    let more = free_within u outer in
    omega (arith, own, more)

fewer : (u : ProgramUnit) (p : Range → Bool) (rs : List Range) → all_loops u (filter p rs) ≤ all_loops u rs
unfolding all_loops
fewer u p [] = omega arith
fewer u p (r ∷ rs) = by (p r) (fewer u p rs)
  where
    by : (b : Bool) → all_loops u (filter p rs) ≤ all_loops u rs → all_loops u (cond b (r ∷ filter p rs) (filter p rs)) ≤ loop_nodes u r + all_loops u rs
    by true more = omega (arith, more)
    by false more = omega (arith, more)

loops_both : (u : ProgramUnit) (rs ss : List Range) → all_loops u (rs ++ ss) ≡ all_loops u rs + all_loops u ss
unfolding all_loops
loops_both u [] ss = (let e : all_loops u ss ≡ 0 + all_loops u ss = omega arith in e)
loops_both u (r ∷ rs) ss = let more = loops_both u rs ss in (let e : loop_nodes u r + all_loops u (rs ++ ss) ≡ loop_nodes u r + all_loops u rs + all_loops u ss = omega (arith, more) in e)

-- the lines from a position on are these
abbrev StandFrom : ProgramUnit → ℕ → List Line → Type 0
StandFrom u i lines = (j : ℕ) → slice_get u.lines (i + j) ≡ slice_get lines j

own_range : (u : ProgramUnit) (i : ℕ) (line : Line) (last : Option ℕ) → slice_get u.lines i ≡ Some line → all_loops u (range_to i last) ≤ form_nodes line.form
unfolding range_to all_loops loop_nodes nodes_at
own_range u i line None at = omega arith
own_range u i line (Some last) at = let same : nodes_at (slice_get u.lines i) ≡ form_nodes line.form = ap nodes_at at in omega (arith, same)

own_ranges : (u : ProgramUnit) (i : ℕ) (line : Line) (found : Option (Option ℕ)) → slice_get u.lines i ≡ Some line → all_loops u (range_by u i found) ≤ form_nodes line.form
unfolding range_by all_loops
own_ranges u i line None at = omega arith
own_ranges u i line (Some label) at = own_range u i line (terminal_of u i label) at

ranges_within : (u : ProgramUnit) (i : ℕ) (lines : List Line) → StandFrom u i lines → all_loops u (ranges_from u i lines) ≤ lines_nodes lines
unfolding ranges_from all_loops lines_nodes
ranges_within u i [] stand = omega arith
ranges_within u i (line ∷ lines) stand =
    let whole = loops_both u (ranges_from u (suc i) lines) (range_by u i (loop_of line.form)) in
    let at : slice_get u.lines i ≡ Some line = ap (slice_get u.lines) {x = i} {y = i + 0} (omega arith) ∙ stand 0 in
    let own = own_ranges u i line (loop_of line.form) at in
    let more = ranges_within u (suc i) lines (λ j. ap (slice_get u.lines) {x = suc i + j} {y = i + suc j} (omega arith) ∙ stand (suc j)) in
    omega (arith, whole, own, more)

free_has : (u : ProgramUnit) (i : ℕ) → free_at u i ≤ lines_nodes u.lines
unfolding free_at open_at ranges_of
free_has u i =
    let one = free_within u (filter (is_within i) (ranges_from u 0 u.lines)) in
    let two = fewer u (is_within i) (ranges_from u 0 u.lines) in
    let all = ranges_within u 0 u.lines (λ j. ap (slice_get u.lines) {x = 0 + j} {y = j} (omega arith)) in
    omega (arith, one, two, all)

-- ## Statements

way_back_idle : (once : Bool) (x p test : Pure) (n : ℕ) → Has 0 0 0 (Put x p ∷ back_by once test n ∷ [])
unfolding back_by temporaries_kept all_passed passed strings_bytes string_bytes
way_back_idle true x p test n = record { kept = omega arith; values = omega arith; bytes = omega arith }
way_back_idle false x p test n = record { kept = omega arith; values = omega arith; bytes = omega arith }

turn_code_idle : (once : Bool) (n : ℕ) (ps : Pures) → Has 0 0 0 (turn_code once n ps)
unfolding turn_code
turn_code_idle once n (AndPure x (AndPure first (AndPure limit (AndPure by NoPure)))) = way_back_idle once x _ (test_by x limit by) n
turn_code_idle once n ps = has_none 0

again_idle : (n : ℕ) → Has 0 0 0 (Again n ∷ [])
unfolding temporaries_kept all_passed passed strings_bytes string_bytes
again_idle n = record { kept = omega arith; values = omega arith; bytes = omega arith }

turn_idle : (u : ProgramUnit) (from : ℕ) (r : Range) → Has 0 0 0 (turn_of u from r)
unfolding turn_of
turn_idle u from r = by (is_counted (slice_get u.lines r.first))
  where
    by : (b : Bool) → Has 0 0 0 (if b then turn_code u.onetrip (way_back u r (from + 1)) (loop_lowered u (free_at u r.first) r).value else Again (way_back u r from) ∷ [])
    by true = turn_code_idle u.onetrip (way_back u r (from + 1)) (loop_lowered u (free_at u r.first) r).value
    by false = again_idle (way_back u r from)

turns_idle : (u : ProgramUnit) (from : ℕ) (rs : List Range) → Has 0 0 0 (turns_of u from rs)
unfolding turns_of
turns_idle u from [] = has_none 0
turns_idle u from (r ∷ rs) = has_both 0 0 0 0 0 (turn_of u from r) (turns_of u (from + turn_size u r) rs) (turn_idle u from r) (turns_idle u (from + turn_size u r) rs)

skip_idle : (u : ProgramUnit) (i : ℕ) (mark : Mark) → Has 0 0 0 (skip_code u i mark)
unfolding skip_code temporaries_kept all_passed passed strings_bytes string_bytes
skip_idle u i Plain = has_none 0
skip_idle u i Opens = has_none 0
skip_idle u i Arm = record { kept = omega arith; values = omega arith; bytes = omega arith }
skip_idle u i Closes = has_none 0

pass_idle : (named : Bool) (form : Form) → Has 0 0 0 (pass_code named form)
unfolding pass_code temporaries_kept all_passed passed strings_bytes string_bytes
pass_idle true Passes = record { kept = omega arith; values = omega arith; bytes = omega arith }
pass_idle false Passes = has_none 0
pass_idle true (On head operands) = has_none 0
pass_idle false (On head operands) = has_none 0

around : (top most long : ℕ) (before behind last : List Step) (x : Option (List Step)) → Has 0 0 0 before → Has 0 0 0 behind → Has 0 0 0 last → Has top most long (steps_of x)
    → Has top most long (steps_of (option_map (λ steps. before ++ steps ++ behind ++ last) x))
unfolding steps_of
around top most long before behind last None one two three h = h
around top most long before behind last (Some steps) one two three h =
    let up : (xs : List Step) → Has 0 0 0 xs → Has top 0 0 xs = λ xs g. has_more 0 top 0 0 0 0 xs (omega arith) (omega arith) (omega arith) g in
    has_more top top (0 + most + 0 + 0) most (0 + long + 0 + 0) long (before ++ steps ++ behind ++ last) (omega arith) (omega arith) (omega arith)
    (has_both top (0 + most + 0) 0 (0 + long + 0) 0 (before ++ steps ++ behind) last
    (has_both top (0 + most) 0 (0 + long) 0 (before ++ steps) behind (has_both top 0 most 0 long before steps (up before one) h) (up behind two)) (up last three))

line_has : (u : ProgramUnit) (i : ℕ) (line : Line) → Has (free_at u i + form_nodes line.form) (3 * form_nodes line.form) (form_nodes line.form + form_text line.form) (steps_of (line_code u i line))
unfolding line_code statement_code
line_has u i line =
    around (free_at u i + form_nodes line.form) (3 * form_nodes line.form) (form_nodes line.form + form_text line.form) (skip_code u i line.mark) (pass_code (is_named (all_named u.lines) line.label) line.form) (turns_of u (own_end u i) (ended_at u i))
    (form_code u.onetrip (free_at u i) (room_of u i line) (listed (assigned_in u.lines) line.form)) (skip_idle u i line.mark) (pass_idle (is_named (all_named u.lines) line.label) line.form) (turns_idle u (own_end u i) (ended_at u i))
    (listed_needs u.onetrip (free_at u i) (room_of u i line) (assigned_in u.lines) line.form)

both_has : (top v w b c : ℕ) (x y : Option (List Step)) → Has top v b (steps_of x) → Has top w c (steps_of y) → Has top (v + w) (b + c) (steps_of (both_codes x y))
unfolding both_codes steps_of
both_has top v w b c None y one other = has_more 0 top 0 (v + w) 0 (b + c) [] (omega arith) (omega arith) (omega arith) (has_none 0)
both_has top v w b c (Some steps) None one other = has_more 0 top 0 (v + w) 0 (b + c) [] (omega arith) (omega arith) (omega arith) (has_none 0)
both_has top v w b c (Some steps) (Some later) one other = has_both top v w b c steps later one other

lines_has : (u : ProgramUnit) (i : ℕ) (lines : List Line) → lines_nodes lines ≤ lines_nodes u.lines → Has (2 * lines_nodes u.lines) (3 * lines_nodes lines) (lines_nodes lines + lines_text lines) (steps_of (lines_code u i lines))
unfolding lines_code lines_nodes lines_text steps_of
lines_has u i [] h = has_more 0 _ 0 _ 0 _ [] (omega arith) (omega arith) (omega arith) (has_none 0)
lines_has u i (line ∷ lines) h =
    let top = 2 * lines_nodes u.lines in
    let n = form_nodes line.form in
    let t = form_text line.form in
    let m = lines_nodes lines in
    let s = lines_text lines in
    let free = free_has u i in
    has_more top top (3 * n + 3 * m) (3 * (suc n + m)) (n + t + (m + s)) (suc n + m + (t + s)) (steps_of (both_codes (line_code u i line) (lines_code u (suc i) lines))) (omega arith) (omega arith) (omega arith)
    (both_has top (3 * n) (3 * m) (n + t) (m + s) (line_code u i line) (lines_code u (suc i) lines)
    (has_more (free_at u i + n) top (3 * n) (3 * n) (n + t) (n + t) (steps_of (line_code u i line)) (omega (arith, free, h)) (omega arith) (omega arith) (line_has u i line))
    (lines_has u (suc i) lines (omega (arith, h))))

-- ## Constants

kind_once : (x : Option ℤ) → length (kind_value x) ≤ 1
unfolding kind_value
kind_once None = omega arith
kind_once (Some z) = omega arith

range_once : (b : Bool) (z : ℤ) → length (if b then z ∷ [] else []) ≤ 1
range_once true z = omega arith
range_once false z = omega arith

own_once : (p : Pure) → length (own_value p) ≤ 1
unfolding own_value
own_once (Constant (IsInt z)) = range_once (in_range z) z
own_once (Constant (IsLog true)) = omega arith
own_once (Constant (IsLog false)) = omega arith
own_once p = omega arith

own_each : (ps : Pures) → length (own_values ps) ≤ count ps
unfolding own_values count
own_each NoPure = omega arith
own_each (AndPure p ps) =
    let whole = length-append (own_value p) (own_values ps) in
    let one = own_once p in
    let more = own_each ps in
    omega (arith, whole, one, more)

taken_few : (kinds own : List ℤ) → length kinds ≤ 1 → length own ≤ 1 → length (kinds ++ pos 1 ∷ own) ≤ 3
taken_few kinds own one other = let whole = length-append kinds (pos 1 ∷ own) in omega (arith, whole, one, other)

values_few : (u : Text) (n : ℕ) (st : Step) → length (values_passed u n st) ≤ passed st
unfolding values_passed passed
values_few u n (Acts Takes (AndPure p NoPure) m) = taken_few (kind_value _) (own_value p) (kind_once _) (own_once p)
values_few u n (Compute k f ps) = own_each ps
values_few u n (CallFor k callee ps) = own_each ps
values_few u n (CallSub k x ps) = own_each ps
values_few u n st = omega arith

all_few : (u : Text) (n : ℕ) (steps : List Step) → length (values_from u n steps) ≤ all_passed steps
unfolding values_from all_passed
all_few u n [] = omega arith
all_few u n (st ∷ later) =
    let whole = length-append (values_passed u n st) (values_from u (suc n) later) in
    let one = values_few u n st in
    let more = all_few u (suc n) later in
    omega (arith, whole, one, more)

-- ## The unit

steps_by : (c : Facts) (x : Option (List Step)) (u : Text) → text_with c x ≡ Some u → u.steps ≡ steps_of x
unfolding text_with steps_of
steps_by c None u h = absurd (cc)
steps_by c (Some steps) u h =
    let same : record {
      facts = c;
      steps = steps;
      begins = start_of c.program;
      position = λ label. option_map (start_of c.program) (place_of_label c.program label);
      marks = lines_marks c.program 0 c.program.lines;
    } ≡ u = cc in
    ap (λ (t : Text). t.steps) (sym same)

-- what stands before the steps needs nothing
stand_idle : Has 0 0 0 (Pass ∷ [])
unfolding temporaries_kept all_passed passed strings_bytes string_bytes
stand_idle = record { kept = omega arith; values = omega arith; bytes = omega arith }

behind_has : (top most long first : ℕ) (steps : List Step) → Has top most long steps → Has top most long (steps_behind first steps)
unfolding steps_behind
behind_has top most long zero steps h = h
behind_has top most long (suc first) steps h =
    has_more top top (0 + most) most (0 + long) long (Pass ∷ steps_behind first steps) (omega arith) (omega arith) (omega arith)
    (has_both top 0 most 0 long (Pass ∷ []) (steps_behind first steps) (has_more 0 top 0 0 0 0 (Pass ∷ []) (omega arith) (omega arith) (omega arith) stand_idle) (behind_has top most long first steps h))

pub each_text_needs_few : EachTextNeedsFewObjects
each_text_needs_few c u h first =
    let n = lines_nodes c.program.lines in
    let own : Has (2 * n) (3 * n) (n + lines_text c.program.lines) u.steps =
    subst (λ (steps : List Step). Has (2 * n) (3 * n) (n + lines_text c.program.lines) steps) (sym (steps_by c (lines_code c.program 0 c.program.lines) u (text_lowered c u h))) (lines_has c.program 0 c.program.lines (omega arith)) in
    let all = behind_has (2 * n) (3 * n) (n + lines_text c.program.lines) first u.steps own in
    let values = all.values in
    let constants = all_few (behind first u) 0 (steps_behind first u.steps) in
    record { temporaries = all.kept; constants = omega (arith, values, constants); strings = all.bytes }
