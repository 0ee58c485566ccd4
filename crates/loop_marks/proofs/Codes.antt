-- Where the code of each statement of a lowered unit stands.
use Rattle.std.specs.Prelude.{◌≡◌, ℕ, zero, suc, ◌+◌, ◌≤◌, ◌<◌, Bool, true, false, List, [], ◌∷◌, ◌++◌, length, Option, Some, None, slice_get}
use Rattle.std.proofs.Common.{refl, sym, ap, ◌∙◌, arith}
use Rattle.std.proofs.lemmas.List.{length-append}
use Rattle.lowering.specs.l_core.f_tree.Terms.{Terms, NoMore, More}
use Rattle.lowering.specs.l_core.f_tree.Facts as head
use Rattle.lowering.specs.l_core.f_tree.Facts.{Head, Form, Passes, On, Mark, Plain, Opens, Arm, Closes, Line, ProgramUnit}
use Rattle.lowering.specs.l_core.f_tree.Step.{assigned_in}
use Rattle.lowering.specs.l_core.Pures.{Pure, Pures, NoPure, AndPure}
use Rattle.lowering.specs.l_core.Steps.{Step, Put, Unless, AgainIf}
use Rattle.lowering.specs.Statements.{behind_operands, with_operands, unless_code, loop_operands, test_by, loop_test, loop_code, form_code, head_code}
use Rattle.lowering.specs.Units.{listed, statement_code, steps_of, is_counted, ended_at, turn_sizes, skip_size, form_size, line_size, size_before, start_of, mark_at, own_start, form_size_at, own_end}

-- ## Lists of steps

pub record StandsAt (steps : List Step) (a : ℕ) (code : List Step) : Type 0 where
  pub at : (k : ℕ) (st : Step) → slice_get code k ≡ Some st → slice_get steps (a + k) ≡ Some st

pub stands_whole : (steps : List Step) → StandsAt steps 0 steps
stands_whole steps = record { at = λ k st is. ap (slice_get steps) (let e : 0 + k ≡ k = omega arith in e) ∙ is }

get_front : (xs ys : List Step) (k : ℕ) (st : Step) → slice_get xs k ≡ Some st → slice_get (xs ++ ys) k ≡ Some st
get_front [] ys k st is = absurd (cc)
get_front (x ∷ xs) ys zero st is = is
get_front (x ∷ xs) ys (suc k) st is = get_front xs ys k st is

get_back : (xs ys : List Step) (j k : ℕ) (st : Step) → j ≡ length xs + k → slice_get ys k ≡ Some st → slice_get (xs ++ ys) j ≡ Some st
get_back [] ys j k st from is = ap (slice_get ys) (let e : j ≡ k = omega arith in e) ∙ is
get_back (x ∷ xs) ys zero k st from is = absurd (omega arith)
get_back (x ∷ xs) ys (suc j) k st from is = get_back xs ys j k st (omega arith) is

pub stands_front : (steps : List Step) (a : ℕ) (xs ys : List Step) → StandsAt steps a (xs ++ ys) → StandsAt steps a xs
stands_front steps a xs ys stands = record { at = λ k st is. stands.at k st (get_front xs ys k st is) }

pub stands_back : (steps : List Step) (a b : ℕ) (xs ys : List Step) → b ≡ a + length xs → StandsAt steps a (xs ++ ys) → StandsAt steps b ys
stands_back steps a b xs ys from stands = record {
  at = λ k st is. ap (slice_get steps) (let e : b + k ≡ a + (length xs + k) = omega (arith, from) in e) ∙ stands.at (length xs + k) st (get_back xs ys (length xs + k) k st refl is);
}

-- a list of steps, and those that stand behind it
pub record AreBehind (xs : List Step) (more : Option (List Step)) (all : List Step) : Type 0 where
  pub later : List Step
  pub later_is : more ≡ Some later
  pub is : xs ++ later ≡ all

behind_of : (xs : List Step) (more : Option (List Step)) (all : List Step) → behind_operands xs more ≡ Some all → AreBehind xs more all
unfolding behind_operands
behind_of xs None all h = absurd (cc)
behind_of xs (Some later) all h = record { later = later; later_is = refl; is = (let same : xs ++ later ≡ all = cc in same) }

-- a test that goes back where it holds
abbrev pub tests_back : Step → Bool
tests_back (AgainIf test size) = true
tests_back st = false

-- ## DO statements

pub record IsDo (form : Form) : Type 0 where
  pub label : Option ℕ
  pub operands : Terms
  pub is : form ≡ On (head.ToLoop label) operands

do_by : (form : Form) → elim form [ Passes ↦ false | On h operands ↦ elim h [ head.ToLoop label ↦ true | _ ↦ false ] ] ≡ true → IsDo form
do_by Passes h = absurd (cc)
do_by (On (head.ToLoop label) operands) h = record { label = label; operands = operands; is = refl }
do_by (On other operands) h = absurd (cc)

pub record IsDoLine (found : Option Line) : Type 0 where
  pub line : Line
  pub there : found ≡ Some line
  pub loops : IsDo line.form

pub do_found : (found : Option Line) → is_counted found ≡ true → IsDoLine found
unfolding is_counted
do_found None h = absurd (cc)
do_found (Some line) h = record { line = line; there = refl; loops = do_by line.form h }

pub do_counts : (found : Option Line) (line : Line) (label : Option ℕ) (operands : Terms) → found ≡ Some line → line.form ≡ On (head.ToLoop label) operands → is_counted found ≡ true
unfolding is_counted
do_counts found line label operands there form = ap is_counted there ∙ ap (λ (z : Form). elim z [ Passes ↦ false | On h ts ↦ elim h [ head.ToLoop l ↦ true | _ ↦ false ] ]) form

-- the operands of a DO, and what stands behind them
pub record IsDoCode (once : Bool) (n : ℕ) (ps : Pures) (code : List Step) : Type 0 where
  pub variable : Pure
  pub first : Pure
  pub limit : Pure
  pub by : Pure
  pub four : ps ≡ AndPure variable (AndPure first (AndPure limit (AndPure by NoPure)))
  pub is : Put variable first ∷ loop_test once (test_by variable limit by) n ≡ code

loop_code_of : (once : Bool) (n : ℕ) (ps : Pures) (code : List Step) → loop_code once n ps ≡ Some code → IsDoCode once n ps code
unfolding loop_code
loop_code_of once n (AndPure x (AndPure first (AndPure limit (AndPure by NoPure)))) code h =
    record { variable = x; first = first; limit = limit; by = by; four = refl; is = (let same : Put x first ∷ loop_test once (test_by x limit by) n ≡ code = cc in same) }
loop_code_of once n ps code h = absurd (cc)

pub record HasDoCode (once : Bool) (k n : ℕ) (operands : Terms) (own : List Step) : Type 0 where
  pub code : List Step
  pub kind : IsDoCode once n (loop_operands k operands).value code
  pub is : (loop_operands k operands).steps ++ code ≡ own

do_code : (once : Bool) (k n : ℕ) (label : Option ℕ) (operands : Terms) (own : List Step) → form_code once k n (On (head.ToLoop label) operands) ≡ Some own → HasDoCode once k n operands own
unfolding form_code head_code with_operands
do_code once k n label operands own h =
    let b = behind_of (loop_operands k operands).steps (loop_code once n (loop_operands k operands).value) own h in
    record { code = b.later; kind = loop_code_of once n (loop_operands k operands).value b.later b.later_is; is = b.is }

-- of a statement that is a DO
pub do_coded : (p : ProgramUnit) (k n : ℕ) (form : Form) (do' : IsDo form) (own : List Step) → statement_code p k n form ≡ Some own → HasDoCode p.onetrip k n do'.operands own
unfolding statement_code listed
do_coded p k n form do' own h = do_code p.onetrip k n do'.label do'.operands own (ap (λ (z : Form). form_code p.onetrip k n (listed (assigned_in p.lines) z)) (sym do'.is) ∙ h)

-- ## Sizes

unless_long : (steps : List Step) (n : ℕ) (ps : Pures) → length (steps_of (behind_operands steps (unless_code n [] ps))) ≡ length (steps_of (behind_operands steps (unless_code 0 [] ps)))
unfolding behind_operands unless_code steps_of
unless_long steps n (AndPure p NoPure) = length-append steps (Unless p n ∷ []) ∙ sym (length-append steps (Unless p 0 ∷ []))
unless_long steps n NoPure = refl
unless_long steps n (AndPure p (AndPure q ps)) = refl

test_long : (once : Bool) (test : Pure) (n : ℕ) → length (loop_test once test n) ≡ length (loop_test once test 0)
unfolding loop_test
test_long true test n = refl
test_long false test n = refl

loop_long : (steps : List Step) (once : Bool) (n : ℕ) (ps : Pures) → length (steps_of (behind_operands steps (loop_code once n ps))) ≡ length (steps_of (behind_operands steps (loop_code once 0 ps)))
unfolding behind_operands loop_code steps_of
loop_long steps once n (AndPure x (AndPure first (AndPure limit (AndPure by NoPure)))) =
    let one = length-append steps (Put x first ∷ loop_test once (test_by x limit by) n) in
    let other = length-append steps (Put x first ∷ loop_test once (test_by x limit by) 0) in
    let same = test_long once (test_by x limit by) n in
    one ∙ ap (λ m. length steps + suc m) same ∙ sym other
loop_long steps once n NoPure = refl
loop_long steps once n (AndPure x NoPure) = refl
loop_long steps once n (AndPure x (AndPure first NoPure)) = refl
loop_long steps once n (AndPure x (AndPure first (AndPure limit NoPure))) = refl
loop_long steps once n (AndPure x (AndPure first (AndPure limit (AndPure by (AndPure q ps))))) = refl

-- how many steps a form takes does not depend on how many are passed
pub form_long : (once : Bool) (k n : ℕ) (form : Form) → length (steps_of (form_code once k n form)) ≡ length (steps_of (form_code once k 0 form))
unfolding form_code head_code with_operands
form_long once k n Passes = refl
form_long once k n (On head.ToSet ts) = refl
form_long once k n (On head.ToSetText ts) = refl
form_long once k n (On (head.ToSetLabel label) ts) = refl
form_long once k n (On (head.ToGo label) NoMore) = refl
form_long once k n (On (head.ToGo label) (More t ts)) = refl
form_long once k n (On (head.ToPick labels) ts) = refl
form_long once k n (On (head.ToGoAssigned labels) ts) = refl
form_long once k n (On (head.ToGoBySign below at above) ts) = refl
form_long once k n (On (head.ToGuard form) ts) = refl
form_long once k n (On head.ToEnterArm ts) = unless_long _ n _
form_long once k n (On (head.ToLoop label) ts) = loop_long _ once n _
form_long once k n (On (head.ToTestLoop label) ts) = unless_long _ n _
form_long once k n (On (head.ToCall name) ts) = refl
form_long once k n (On head.ToReturn ts) = refl
form_long once k n (On (head.ToStop text) NoMore) = refl
form_long once k n (On (head.ToStop text) (More t ts)) = refl
form_long once k n (On (head.ToBegin way layout controls work) ts) = refl
form_long once k n (On (head.ToTransfer rest) ts) = refl
form_long once k n (On (head.ToRepeat items rest) ts) = refl
form_long once k n (On (head.ToTurn items q left by given rest) ts) = refl
form_long once k n (On head.ToFinish ts) = refl
form_long once k n (On (head.ToAuxiliary which controls) ts) = refl
form_long once k n (On head.ToEnd NoMore) = refl
form_long once k n (On head.ToEnd (More t ts)) = refl

size_none : (p : ProgramUnit) (i : ℕ) (lines : List Line) → size_before p i lines 0 ≡ 0
unfolding size_before
size_none p i [] = refl
size_none p i (line ∷ lines) = refl

size_next : (p : ProgramUnit) (i n j : ℕ) (lines : List Line) (line : Line) → j ≡ i + n → slice_get lines n ≡ Some line → size_before p i lines (suc n) ≡ size_before p i lines n + line_size p j line
unfolding size_before
size_next p i n j [] line from is = absurd (cc)
size_next p i zero j (x ∷ lines) line from is =
    let same : x ≡ line = cc in
    let none = size_none p (suc i) lines in
    let place : i ≡ j = omega arith in
    let one : line_size p i x ≡ line_size p j line = (λ m. line_size p (place m) (same m)) in
    let e : line_size p i x + size_before p (suc i) lines 0 ≡ 0 + line_size p j line = omega (arith, none, one) in
    e
size_next p i (suc n) j (x ∷ lines) line from is =
    let more = size_next p (suc i) n j lines line (omega arith) is in
    let e : line_size p i x + size_before p (suc i) lines (suc n) ≡ line_size p i x + size_before p (suc i) lines n + line_size p j line = omega (arith, more) in
    e

size_up : (p : ProgramUnit) (i n m : ℕ) (lines : List Line) → n ≤ m → size_before p i lines n ≤ size_before p i lines m
unfolding size_before
size_up p i n m [] le = let e : 0 ≤ 0 = omega arith in e
size_up p i zero m (x ∷ lines) le = let e : 0 ≤ size_before p i (x ∷ lines) m = omega arith in e
size_up p i (suc n) zero (x ∷ lines) le = absurd (omega arith)
size_up p i (suc n) (suc m) (x ∷ lines) le =
    let more = size_up p (suc i) n m lines (omega arith) in
    let e : line_size p i x + size_before p (suc i) lines n ≤ line_size p i x + size_before p (suc i) lines m = omega (arith, more) in
    e

pub start_up : (p : ProgramUnit) (i j : ℕ) → i ≤ j → start_of p i ≤ start_of p j
unfolding start_of
start_up p i j le = size_up p 0 i j p.lines le

pub start_first : (p : ProgramUnit) → start_of p 0 ≡ 0
unfolding start_of
start_first p = size_none p 0 p.lines

pub start_next : (p : ProgramUnit) (i : ℕ) (line : Line) → slice_get p.lines i ≡ Some line → start_of p (suc i) ≡ start_of p i + line_size p i line
unfolding start_of
start_next p i line is = size_next p 0 i i p.lines line (let e : i ≡ 0 + i = omega arith in e) is

pub ends_at_line : (p : ProgramUnit) (i : ℕ) (line : Line) → slice_get p.lines i ≡ Some line → own_end p i ≡ start_of p i + skip_size line.mark + form_size p i line
unfolding own_end own_start form_size_at mark_at
ends_at_line p i line is =
    let size : form_size_at p i (slice_get p.lines i) ≡ form_size p i line = ap (form_size_at p i) is in
    let mark : mark_at (slice_get p.lines i) ≡ skip_size line.mark = ap mark_at is in
    let sum : start_of p i + mark_at (slice_get p.lines i) + form_size_at p i (slice_get p.lines i) ≡ start_of p i + skip_size line.mark + form_size p i line = omega (arith, size, mark) in
    sum

pub ends_low : (p : ProgramUnit) (i : ℕ) → start_of p i ≤ own_end p i
unfolding own_end own_start
ends_low p i = let e : start_of p i ≤ start_of p i + mark_at (slice_get p.lines i) + form_size_at p i (slice_get p.lines i) = omega arith in e

pub own_low : (p : ProgramUnit) (i : ℕ) → start_of p i ≤ own_start p i
unfolding own_start
own_low p i = let e : start_of p i ≤ start_of p i + mark_at (slice_get p.lines i) = omega arith in e

pub own_high : (p : ProgramUnit) (i : ℕ) → own_start p i ≤ own_end p i
unfolding own_end
own_high p i = let e : own_start p i ≤ own_start p i + form_size_at p i (slice_get p.lines i) = omega arith in e

-- a statement ends before the next one begins
pub ends_before : (p : ProgramUnit) (i : ℕ) (line : Line) → slice_get p.lines i ≡ Some line → own_end p i ≤ start_of p (suc i)
unfolding line_size
ends_before p i line is =
    let next = start_next p i line is in
    let end = ends_at_line p i line is in
    let e : start_of p (suc i) ≡ start_of p i + (skip_size line.mark + form_size p i line + turn_sizes p (ended_at p i)) = next in
    omega (arith, e, end)

pub ends_up : (p : ProgramUnit) (i j : ℕ) (line : Line) → slice_get p.lines i ≡ Some line → i < j → own_end p i ≤ own_end p j
ends_up p i j line is less =
    let one = ends_before p i line is in
    let two = start_up p (suc i) j (omega arith) in
    let three = ends_low p j in
    omega (arith, one, two, three)
