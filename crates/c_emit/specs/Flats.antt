-- The flat C item for a lowered step over numbers: assignments, also of a label, tests, jumps, `switch`, the return of what is no function, and the
-- calls of the library for functions of numbers, list-directed output and STOP. One item for each step; none for a step
-- that is not emitted yet. ANSI X3.9-1978, sections 10, 11 and 15.10; C89, 3.3.2.2, 3.3.16, 3.6.4 and 3.6.6.
use Rattle.std.specs.Prelude.{ℕ, zero, suc, ◌+◌, ◌-◌, pos, List, [], ◌∷◌, length, Option, Some, None, option_map}
use Rattle.l_core.specs.f_tree.Values.{IsInt}
use Rattle.l_core.specs.f_tree.Facts.{Output, Listed, UnitKind, MainProgram, SubroutineUnit}
use Rattle.l_core.specs.Pures.{Temporary}
use Rattle.l_core.specs.Steps as step
use Rattle.l_core.specs.Steps.{Step}
use Rattle.c_image.specs.c_tree.Access.{ToNumber}
use Rattle.c_image.specs.c_tree.Terms.{Term, Constant, Variable}
use Rattle.c_image.specs.c_tree.Flat.{Flat, Assign, Branch, Select, Jump, Return, Nothing, CaseAt}
use Rattle.c_emit.specs.Numbers.{Writing, constant_value, value_term, place_term, if_number}
use Rattle.c_emit.specs.LibraryFunctions.{library_function}
use Rattle.c_emit.specs.Calls.{start_item, takes_item, finish_item, stop_item, held_terms, computed_item}

unfoldable pub assigned : Option Term → Option Term → Option Flat
assigned (Some target) (Some value) = Some (Assign target value)
assigned _ _ = None

-- a jump to a step, if there is one
unfoldable pub jump_to : (ℕ → ℕ) → Option ℕ → Option Flat
jump_to place None = None
jump_to place (Some n) = Some (Jump (place n))

-- the cases of a `switch`, so many as steps behind it each go to a label: the numbers grow by one from a first, and so do the steps
unfoldable pub cases_to : (ℕ → ℕ) → ℕ → ℕ → ℕ → List CaseAt
cases_to place number n zero = []
cases_to place number n (suc count) = record { number = pos number; position = place n } ∷ cases_to place (suc number) (suc n) count

-- the same, where the numbers are labels
unfoldable pub cases_for : (ℕ → ℕ) → ℕ → List ℕ → List CaseAt
cases_for place n [] = []
cases_for place n (label ∷ labels) = record { number = pos label; position = place n } ∷ cases_for place (suc n) labels

-- a `switch` over the label that a place holds, with a case for each label to which it may go, which may be none (11.3)
unfoldable pub switch_to : (ℕ → ℕ) → ℕ → List ℕ → Option Term → Option Flat
switch_to place n labels value = option_map (λ term. Select term (cases_for place (suc n) labels) (place (suc n + length labels))) value

-- END and RETURN: a procedure that is no function gives 0 (15.6.2)
unfoldable pub returned_by : UnitKind → Option Flat
returned_by MainProgram = Some (Return (Some (Constant (pos 0))))
returned_by SubroutineUnit = Some (Return (Some (Constant (pos 0))))
returned_by _ = None

-- given the position of the item for each step, and the step of each label
unfoldable pub flat_of : Writing → (ℕ → ℕ) → (ℕ → Option ℕ) → ℕ → Step → Option Flat
flat_of w place label n (step.Put target p) = assigned (place_term w target) (value_term w p)
flat_of w place label n (step.PutLabel target l) = assigned (place_term w target) (constant_value (IsInt (pos l)))
flat_of w place label n (step.Keep k p) = assigned (if_number (w.is_number k) (Some (Variable (w.naming.temporary k) ToNumber))) (value_term w p)
flat_of w place label n (step.Compute k f ps) = computed_item w (if_number (w.is_number k) (Some (Variable (w.naming.temporary k) ToNumber))) (library_function f) (held_terms w ps)
flat_of w place label n (step.Unless p m) = option_map (λ test. Branch test (place (suc n)) (place (suc n + m))) (value_term w p)
flat_of w place label n (step.AgainIf p m) = option_map (λ test. Branch test (place (n - m)) (place (suc n))) (value_term w p)
flat_of w place label n (step.Skip m) = Some (Jump (place (suc n + m)))
flat_of w place label n (step.Again m) = Some (Jump (place (n - m)))
flat_of w place label n (step.Jump l) = jump_to place (label l)
flat_of w place label n (step.Select p count) = option_map (λ value. Select value (cases_to place 1 (suc n) count) (place (suc n + count))) (value_term w p)
flat_of w place label n (step.JumpBy p labels) = switch_to place n labels (place_term w p)
flat_of w place label n (step.Branch k count) = option_map (λ value. Select value (cases_to place 1 (suc n) count) (place (suc n + count))) (value_term w (Temporary k))
flat_of w place label n (step.Way l) = jump_to place (label l)
flat_of w place label n step.Pass = Some Nothing
flat_of w place label n step.Back = returned_by w.facts.program.kind
flat_of w place label n (step.Acts (step.Starts Output Listed controls) ps m) = start_item w n controls ps
flat_of w place label n (step.Acts step.Takes ps m) = takes_item w n ps
flat_of w place label n (step.Acts step.Finishes ps zero) = finish_item w ps
flat_of w place label n (step.Halt text) = Some (stop_item w n text)
flat_of w place label n _ = None

unfoldable pub flats_opened : Unit {0}
unfolding assigned jump_to cases_to cases_for switch_to returned_by flat_of
flats_opened = tt
