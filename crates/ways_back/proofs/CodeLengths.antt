-- How long the code of a statement is does not depend on how many steps its condition passes, and a DO that is lowered has its four operands.
use Rattle.std.specs.Prelude.{◌≡◌, ℕ, zero, suc, ◌+◌, ◌≤◌, Bool, true, false, List, [], ◌∷◌, ◌++◌, length, Option, Some, slice_get}
use Rattle.std.proofs.Common.{refl, sym, ap, ◌∙◌, arith, true≢false}
use Rattle.lowering.specs.l_core.f_tree.Terms.{Terms, NoMore, More}
use Rattle.lowering.specs.l_core.f_tree.Facts as head
use Rattle.lowering.specs.l_core.f_tree.Facts.{Head, Form, Passes, On, Line, ProgramUnit}
use Rattle.lowering.specs.l_core.Pures.{Pure, Pures, NoPure, AndPure}
use Rattle.lowering.specs.l_core.Steps.{Step, Put, Unless}
use Rattle.lowering.specs.Expressions.{ForUse, lower_all}
use Rattle.lowering.specs.Statements.{behind_operands, with_operands, unless_code, loop_operands, test_by, loop_test, loop_code, form_code, head_code}
use Rattle.lowering.specs.Units.{steps_of, line_size, size_before}

same_length : (xs : List Step) (a b : Step) → length (xs ++ a ∷ []) ≡ length (xs ++ b ∷ [])
same_length [] a b = refl
same_length (x ∷ xs) a b = ap suc (same_length xs a b)

as_long : (xs : List Step) (c a b : Step) → length (xs ++ c ∷ a ∷ []) ≡ length (xs ++ c ∷ b ∷ [])
as_long [] c a b = refl
as_long (x ∷ xs) c a b = ap suc (as_long xs c a b)

pub length_both : (xs ys : List Step) → length (xs ++ ys) ≡ length xs + length ys
length_both [] ys = let e : length ys ≡ 0 + length ys = omega arith in e
length_both (x ∷ xs) ys = let one = length_both xs ys in let e : suc (length xs + length ys) ≡ suc (length xs) + length ys = omega arith in ap suc one ∙ e

unless_length : (steps : List Step) (n : ℕ) (ps : Pures) → length (steps_of (behind_operands steps (unless_code n [] ps))) ≡ length (steps_of (behind_operands steps (unless_code 0 [] ps)))
unfolding steps_of behind_operands unless_code
unless_length steps n NoPure = refl
unless_length steps n (AndPure p NoPure) = same_length steps (Unless p n) (Unless p 0)
unless_length steps n (AndPure p (AndPure q ps)) = refl

loop_length : (once : Bool) (steps : List Step) (n : ℕ) (ps : Pures) → length (steps_of (behind_operands steps (loop_code once n ps))) ≡ length (steps_of (behind_operands steps (loop_code once 0 ps)))
unfolding steps_of behind_operands loop_code loop_test
loop_length once steps n NoPure = refl
loop_length once steps n (AndPure x NoPure) = refl
loop_length once steps n (AndPure x (AndPure first NoPure)) = refl
loop_length once steps n (AndPure x (AndPure first (AndPure limit NoPure))) = refl
loop_length true steps n (AndPure x (AndPure first (AndPure limit (AndPure by NoPure)))) = refl
loop_length false steps n (AndPure x (AndPure first (AndPure limit (AndPure by NoPure)))) = as_long steps (Put x first) (Unless (test_by x limit by) n) (Unless (test_by x limit by) 0)
loop_length once steps n (AndPure x (AndPure first (AndPure limit (AndPure by (AndPure p ps))))) = refl

pub form_length : (once : Bool) (k n : ℕ) (form : Form) → length (steps_of (form_code once k n form)) ≡ length (steps_of (form_code once k 0 form))
unfolding form_code head_code with_operands
form_length once k n Passes = refl
form_length once k n (On head.ToSet ts) = refl
form_length once k n (On head.ToSetText ts) = refl
form_length once k n (On (head.ToSetLabel label) ts) = refl
form_length once k n (On (head.ToGo label) NoMore) = refl
form_length once k n (On (head.ToGo label) (More t ts)) = refl
form_length once k n (On (head.ToPick labels) ts) = refl
form_length once k n (On (head.ToGoAssigned labels) ts) = refl
form_length once k n (On (head.ToGoBySign below at above) ts) = refl
form_length once k n (On (head.ToGuard form) ts) = refl
form_length once k n (On head.ToEnterArm ts) = unless_length (lower_all NoPure ForUse k ts).steps n (lower_all NoPure ForUse k ts).value
form_length once k n (On (head.ToLoop label) ts) = loop_length once (loop_operands k ts).steps n (loop_operands k ts).value
form_length once k n (On (head.ToTestLoop label) ts) = unless_length (lower_all NoPure ForUse k ts).steps n (lower_all NoPure ForUse k ts).value
form_length once k n (On (head.ToCall name) ts) = refl
form_length once k n (On head.ToReturn ts) = refl
form_length once k n (On (head.ToStop text) NoMore) = refl
form_length once k n (On (head.ToStop text) (More t ts)) = refl
form_length once k n (On (head.ToBegin way layout controls work) ts) = refl
form_length once k n (On (head.ToTransfer rest) ts) = refl
form_length once k n (On (head.ToRepeat items rest) ts) = refl
form_length once k n (On (head.ToTurn items p left by given rest) ts) = refl
form_length once k n (On head.ToFinish ts) = refl
form_length once k n (On (head.ToAuxiliary which controls) ts) = refl
form_length once k n (On head.ToEnd NoMore) = refl
form_length once k n (On head.ToEnd (More t ts)) = refl

-- ## A DO that is lowered

-- it has its variable, its first value, its limit and its step
pub record HasFour (ps : Pures) : Type 0 where
  pub x : Pure
  pub first : Pure
  pub limit : Pure
  pub by : Pure
  pub is : ps ≡ AndPure x (AndPure first (AndPure limit (AndPure by NoPure)))

-- and a step at least; two, where it is tested before it turns
pub record IsLoweredLoop (once : Bool) (ps : Pures) (code : List Step) : Type 0 where
  pub four : HasFour ps
  pub some : 1 ≤ length code
  pub tested : once ≡ false → 2 ≤ length code

two_more : (steps : List Step) (a b : Step) → 2 ≤ length (steps ++ a ∷ b ∷ [])
two_more [] a b = let e : 2 ≤ suc (suc 0) = omega arith in e
two_more (x ∷ steps) a b = let later = two_more steps a b in let e : 2 ≤ suc (length (steps ++ a ∷ b ∷ [])) = omega (arith, later) in e

two_long : (once : Bool) (steps : List Step) (st : Step) (test : Pure) (n : ℕ) → once ≡ false → 2 ≤ length (steps ++ st ∷ loop_test once test n)
unfolding loop_test
two_long true steps st test n off = absurd (true≢false off)
two_long false steps st test n off = two_more steps st (Unless test n)

some_step : (steps more : List Step) (st : Step) → 1 ≤ length (steps ++ st ∷ more)
some_step [] more st = let e : 1 ≤ suc (length more) = omega arith in e
some_step (x ∷ steps) more st = let e : 1 ≤ suc (length (steps ++ st ∷ more)) = omega arith in e

four_of : (once : Bool) (steps : List Step) (n : ℕ) (ps : Pures) (code : List Step) → behind_operands steps (loop_code once n ps) ≡ Some code → IsLoweredLoop once ps code
unfolding behind_operands loop_code
four_of once steps n NoPure code e = absurd (cc)
four_of once steps n (AndPure x NoPure) code e = absurd (cc)
four_of once steps n (AndPure x (AndPure first NoPure)) code e = absurd (cc)
four_of once steps n (AndPure x (AndPure first (AndPure limit NoPure))) code e = absurd (cc)
four_of once steps n (AndPure x (AndPure first (AndPure limit (AndPure by NoPure)))) code e =
    let all : steps ++ Put x first ∷ loop_test once (test_by x limit by) n ≡ code = cc in
    let some = some_step steps (loop_test once (test_by x limit by) n) (Put x first) in
    let long = ap length (sym all) in
    record {
      four = record { x = x; first = first; limit = limit; by = by; is = refl };
      some = omega (arith, some, long);
      tested = λ off. let two = two_long once steps (Put x first) (test_by x limit by) n off in omega (arith, two, long);
    }
four_of once steps n (AndPure x (AndPure first (AndPure limit (AndPure by (AndPure q ps))))) code e = absurd (cc)

pub loop_four : (once : Bool) (k n : ℕ) (label : Option ℕ) (ts : Terms) (code : List Step) → form_code once k n (On (head.ToLoop label) ts) ≡ Some code → IsLoweredLoop once (loop_operands k ts).value code
unfolding form_code head_code with_operands
loop_four once k n label ts code e = four_of once (loop_operands k ts).steps n (loop_operands k ts).value code e

-- ## Lines

size_none : (p : ProgramUnit) (i : ℕ) (lines : List Line) → size_before p i lines 0 ≡ 0
unfolding size_before
size_none p i [] = refl
size_none p i (line ∷ lines) = refl

pub size_next : (p : ProgramUnit) (i n j : ℕ) (lines : List Line) (line : Line) → j ≡ i + n → slice_get lines n ≡ Some line → size_before p i lines (suc n) ≡ size_before p i lines n + line_size p j line
unfolding size_before
size_next p i n j [] line at is = absurd (cc)
size_next p i zero j (x ∷ lines) line at is =
    let same : x ≡ line = cc in
    let none = size_none p (suc i) lines in
    let here : j ≡ i = omega (arith, at) in
    let e : line_size p i x + size_before p (suc i) lines 0 ≡ 0 + line_size p i x = omega (arith, none) in
    e ∙ ap (λ z. 0 + line_size p i z) same ∙ ap (λ z. 0 + line_size p z line) (sym here)
size_next p i (suc n) j (x ∷ lines) line at is =
    let more = size_next p (suc i) n j lines line (omega (arith, at)) is in
    let e : line_size p i x + (size_before p (suc i) lines n + line_size p j line) ≡ line_size p i x + size_before p (suc i) lines n + line_size p j line = omega arith in
    ap (λ z. line_size p i x + z) more ∙ e
