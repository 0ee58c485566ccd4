-- The tests that go back stand behind the terminal statements of loops, and no label stands before them.
use Rattle.std.specs.List.{list_any, prefix_len}
use Rattle.std.specs.Prelude.{◌≡◌, ℕ, zero, suc, ◌+◌, ◌<◌, ◌≤◌, nat_eq, nat_lt, Bool, true, false, not, cond, ◌||◌, List, [], ◌∷◌, ◌++◌, length, Option, Some, None, slice_get, option_map, position, if◌then◌else◌}
use Rattle.std.proofs.Common.{refl, sym, ap, ◌∙◌, subst, ⊎_elim, arith}
use Rattle.std.proofs.lemmas.Bool.{cases_lt, le-ltb, ne_eqb}
use Rattle.std.proofs.lemmas.List.{length-append}
use Rattle.lowering.specs.l_core.f_tree.Facts.{Line, ProgramUnit}
use Rattle.lowering.specs.l_core.f_tree.Nests.{Range}
use Rattle.lowering.specs.l_core.f_tree.Places.{place_of_label}
use Rattle.lowering.specs.l_core.Pures.{Pure}
use Rattle.lowering.specs.l_core.Steps.{Step, Put, Again, Text}
use Rattle.lowering.specs.Statements.{back_by}
use Rattle.lowering.specs.Units.{all_named, is_named, pass_code, is_counted, turn_size, ended_at, start_of, own_start, own_end, way_back, turn_of, turns_of, skip_code, line_code, lines_code}
use Rattle.main_translation.specs.Outlined.{labels_in, stands_at, label_before, whiles_in, name_by, label_at}
use Rattle.loop_marks.proofs.Codes.{tests_back, ends_at_line, ends_low, ends_up, own_low, own_high, start_first, start_up, start_next}
use Rattle.loop_marks.proofs.Placed.{line_parts, skip_long, own_long, both_by, turn_is, while_turn, line_long}
use Rattle.loop_marks.proofs.Ranges.{get_below}
use Rattle.loop_marks.proofs.Labels.{own_still}

-- ## Steps of two lists

-- a step of two lists is one of the first, or one of the second
either_get : {R : Type 0} → (xs ys : List Step) (k : ℕ) (st : Step) → slice_get (xs ++ ys) k ≡ Some st → (slice_get xs k ≡ Some st → R) → ((j : ℕ) → k ≡ length xs + j → slice_get ys j ≡ Some st → R) → R
either_get [] ys k st is one other = other k (omega arith) is
either_get (x ∷ xs) ys zero st is one other = one is
either_get (x ∷ xs) ys (suc k) st is one other = either_get xs ys k st is one (λ j from there. other j (omega (arith, from)) there)

none_second : (a b : Bool) → a || b ≡ false → b ≡ false
none_second true b none = absurd (cc)
none_second false b none = none

none_first : (a b : Bool) → a || b ≡ false → a ≡ false
none_first true b none = absurd (cc)
none_first false b none = refl

still_get : (xs : List Step) (k : ℕ) (st : Step) → slice_get xs k ≡ Some st → tests_back st ≡ true → list_any tests_back xs ≡ false → ⊥
still_get [] k st is back still = absurd (cc)
still_get (x ∷ xs) zero st is back still =
    let same : x ≡ st = cc in
    let holds : tests_back x ≡ true = ap tests_back same ∙ back in
    let clash : true ≡ false = sym holds ∙ none_first (tests_back x) (list_any tests_back xs) still in
    absurd (cc)
still_get (x ∷ xs) (suc k) st is back still = still_get xs k st is back (none_second (tests_back x) (list_any tests_back xs) still)

-- ## Where tests go back

-- a place behind a statement, among the steps that turn the loops which end there, but not the first of these
pub record IsBehind (p : ProgramUnit) (k : ℕ) : Type 0 where
  pub line : ℕ
  pub low : own_end p line < k
  pub high : k < start_of p (suc line)

first_put : (place value : Pure) (later more : List Step) (st : Step) → slice_get ((Put place value ∷ later) ++ more) 0 ≡ Some st → tests_back st ≡ false
first_put place value later more st is = ap tests_back (let same : st ≡ Put place value = cc in same)

first_again : (n : ℕ) (more : List Step) (st : Step) → slice_get ((Again n ∷ []) ++ more) 0 ≡ Some st → tests_back st ≡ false
first_again n more st is = ap tests_back (let same : st ≡ Again n = cc in same)

module _ (p : ProgramUnit) (steps : List Step) (lowered : lines_code p 0 p.lines ≡ Some steps) where
  turn_first : (from : ℕ) (r : Range) (more : List Step) (st : Step) → slice_get (turn_of p from r ++ more) 0 ≡ Some st → tests_back st ≡ false
  turn_first from r more st is = by (is_counted (slice_get p.lines r.first)) refl
    where
      by : (b : Bool) → is_counted (slice_get p.lines r.first) ≡ b → tests_back st ≡ false
      by true counted =
          let two = turn_is p steps lowered from r counted in
          first_put two.place two.value (back_by p.onetrip two.test (way_back p r (from + 1)) ∷ []) more st (ap (λ xs. slice_get (xs ++ more) 0) (sym two.is) ∙ is)
      by false other = first_again (way_back p r from) more st (ap (λ xs. slice_get (xs ++ more) 0) (sym (while_turn p from r other)) ∙ is)

  turns_first : (from : ℕ) (rs : List Range) (st : Step) → slice_get (turns_of p from rs) 0 ≡ Some st → tests_back st ≡ false
  unfolding turns_of
  turns_first from [] st is = absurd (cc)
  turns_first from (r ∷ rs) st is = turn_first from r (turns_of p (from + turn_size p r) rs) st is

  after_first : (j from : ℕ) (rs : List Range) (st : Step) → slice_get (turns_of p from rs) j ≡ Some st → tests_back st ≡ true → 0 < j
  after_first zero from rs st is back = absurd (let clash : true ≡ false = sym back ∙ turns_first from rs st is in cc)
  after_first (suc j) from rs st is back = omega arith

  line_back : (i : ℕ) (line : Line) (code : List Step) (k : ℕ) (st : Step) → slice_get p.lines i ≡ Some line → line_code p i line ≡ Some code → slice_get code k ≡ Some st → tests_back st ≡ true → IsBehind p (start_of p i + k)
  line_back i line code k st there is at back =
      let parts = line_parts p i line code is in
      let pass = pass_code (is_named (all_named p.lines) line.label) line.form in
      let before = (skip_code p i line.mark ++ parts.own) ++ pass in
      let inside = get_below code k st at in
      let long = line_long p steps lowered i line code is in
      let next = start_next p i line there in
      let passed = length-append (skip_code p i line.mark ++ parts.own) pass in
      let whole = length-append (skip_code p i line.mark) parts.own in
      let size = own_long p i line parts.own parts.is in
      let skip = skip_long p i line.mark in
      let end = ends_at_line p i line there in
      either_get before (turns_of p (own_end p i) (ended_at p i)) k st (ap (λ xs. slice_get xs k) parts.all ∙ at) (λ own. absurd (still_get before k st own back (own_still p i line parts.own parts.is)))
      (λ j from turn.
      let later = after_first j (own_end p i) (ended_at p i) st turn back in
      record { line = i; low = omega (arith, from, passed, whole, size, skip, end, later); high = omega (arith, inside, long, next) })

  no_step : (code : List Step) (k : ℕ) (st : Step) → [] ≡ code → slice_get code k ≡ Some st → ⊥
  no_step [] k st same is = absurd (cc)
  no_step (x ∷ code) k st same is = absurd (cc)

  lines_back : (i : ℕ) (lines : List Line) (code : List Step) (k : ℕ) (st : Step) → ((n j : ℕ) (line : Line) → j ≡ i + n → slice_get lines n ≡ Some line → slice_get p.lines j ≡ Some line) → lines_code p i lines ≡ Some code → slice_get code k ≡ Some st
      → tests_back st ≡ true → IsBehind p (start_of p i + k)
  unfolding lines_code
  lines_back i [] code k st rest is at back = absurd (no_step code k st (let same : [] ≡ code = cc in same) at)
  lines_back i (line ∷ lines) code k st rest is at back =
      let both = both_by (line_code p i line) (lines_code p (suc i) lines) code is in
      let there = rest 0 i line (omega arith) refl in
      let long = line_long p steps lowered i line both.first both.first_is in
      let next = start_next p i line there in
      either_get both.first both.later k st (ap (λ xs. slice_get xs k) both.all ∙ at) (λ one. line_back i line both.first k st there both.first_is one back)
      (λ j from other.
      subst (IsBehind p) (let place : start_of p (suc i) + j ≡ start_of p i + k = omega (arith, from, long, next) in place)
      (lines_back (suc i) lines both.later j st (λ n m l from' is'. rest (suc n) m l (omega (arith, from')) is') both.later_is other back))

  pub back_behind : (k : ℕ) (st : Step) → slice_get steps k ≡ Some st → tests_back st ≡ true → IsBehind p k
  back_behind k st is back =
      let none = start_first p in
      subst (IsBehind p) (let place : start_of p 0 + k ≡ k = omega (arith, none) in place)
      (lines_back 0 p.lines steps k st (λ n j line from there. ap (slice_get p.lines) (let same : j ≡ n = omega (arith, from) in same) ∙ there) lowered is back)

-- ## No label

start_apart : (p : ProgramUnit) (k j : ℕ) → IsBehind p k → start_of p j ≡ k → ⊥
start_apart p k j behind same =
    let low = behind.low in
    let high = behind.high in
    ⊎_elim (λ (less : j < suc behind.line).
    let up = start_up p j behind.line (omega (arith, less)) in
    let end = ends_low p behind.line in
    absurd (omega (arith, low, up, end, same)))
    (λ (more : suc behind.line ≤ j).
    let up = start_up p (suc behind.line) j more in
    absurd (omega (arith, high, up, same)))
    (cases_lt j (suc behind.line))

-- nor does a statement begin there, behind the step that passes the arms of its block
pub own_apart : (p : ProgramUnit) (k j : ℕ) (line : Line) → IsBehind p k → slice_get p.lines j ≡ Some line → own_start p j ≡ k → ⊥
own_apart p k j line behind is same =
    let low = behind.low in
    let high = behind.high in
    let begin = own_low p j in
    let end = own_high p j in
    ⊎_elim (λ (less : j < behind.line).
    let up = ends_up p j behind.line line is less in
    absurd (omega (arith, low, end, up, same)))
    (λ (more : behind.line ≤ j).
    ⊎_elim (λ (less : j < suc behind.line).
    let place : j ≡ behind.line = omega (arith, more, less) in
    let own : own_end p j ≡ own_end p behind.line = ap (own_end p) place in
    absurd (omega (arith, low, end, own, same)))
    (λ (later : suc behind.line ≤ j).
    let up = start_up p (suc behind.line) j later in
    absurd (omega (arith, high, begin, up, same)))
    (cases_lt j (suc behind.line)))
    (cases_lt j behind.line)

stands_apart : (p : ProgramUnit) (k : ℕ) (found : Option ℕ) → IsBehind p k → stands_at (option_map (start_of p) found) k ≡ false
unfolding stands_at
stands_apart p k None behind = refl
stands_apart p k (Some j) behind = ne_eqb (start_of p j) k (λ same. start_apart p k j behind same)

none_before : (place : ℕ → Option ℕ) (k : ℕ) (labels : List ℕ) → ((label : ℕ) → stands_at (place label) k ≡ false) → label_before place k labels ≡ None
unfolding label_before
none_before place k [] each = refl
none_before place k (label ∷ later) each = ap (λ b. if b then Some label else label_before place k later) (each label) ∙ none_before place k later each

none_long : (f : ℕ → Bool) (xs : List ℕ) → list_any f xs ≡ false → prefix_len (λ x. not (f x)) xs ≡ length xs
none_long f [] none = refl
none_long f (x ∷ xs) none =
    let more = none_long f xs (none_second (f x) (list_any f xs) none) in
    let one : 1 + prefix_len (λ y. not (f y)) xs ≡ suc (length xs) = omega (arith, more) in
    ap (λ b. cond (not b) (1 + prefix_len (λ y. not (f y)) xs) 0) (none_first (f x) (list_any f xs) none) ∙ one

none_found : (f : ℕ → Bool) (xs : List ℕ) → list_any f xs ≡ false → position f xs ≡ None
none_found f xs none =
    let long = none_long f xs none in
    (λ i. cond (nat_lt (long i) (length xs)) (Some (long i)) None) ∙ ap (λ b. cond b (Some (length xs)) None) (le-ltb (length xs) (length xs) (omega arith))

-- no label stands before a test that goes back, where none of the places at which DO WHILEs begin is its own
pub unlabelled : (u : Text) (k : ℕ) → u.position ≡ (λ label. option_map (start_of u.facts.program) (place_of_label u.facts.program label)) → IsBehind u.facts.program k → list_any (nat_eq k) (whiles_in u.marks) ≡ false → label_at u k ≡ None
unfolding label_at name_by
unlabelled u k places behind none =
    let before : label_before u.position k (labels_in u.steps) ≡ None =
    none_before u.position k (labels_in u.steps)
    (λ label. ap (λ (f : ℕ → Option ℕ). stands_at (f label) k) places ∙ stands_apart u.facts.program k (place_of_label u.facts.program label) behind) in
    (λ i. if nat_lt k (length u.steps) then name_by (before i) (none_found (nat_eq k) (whiles_in u.marks) none i) else None) ∙ neither (nat_lt k (length u.steps))
  where
    neither : (b : Bool) → (if b then name_by None None else None) ≡ None
    neither true = refl
    neither false = refl
