-- The flat item that the data of an item stand for (C89, 3.6).
use Rattle.std.specs.Prelude.{ℕ, zero, suc, ◌+◌, ℤ, pos, ◌+ℤ◌, List, [], ◌∷◌, map, option_map}
use Rattle.c_tree.specs.Flat as flat
use Rattle.c_tree.specs.Flat.{Flat, Callee, Use, CaseAt}
use Rattle.linked_terms.specs.declared.items.LinkedCase.{LinkedCase}
use Rattle.linked_terms.specs.declared.items.LinkedCases.{LinkedCases}
use Rattle.linked_terms.specs.declared.items.LinkedCases.TheVariants as cases
use Rattle.linked_terms.specs.declared.items.LinkedCallee.{LinkedCallee}
use Rattle.linked_terms.specs.declared.items.LinkedCallee.TheVariants as callee
use Rattle.linked_terms.specs.declared.items.LinkedUse.{LinkedUse}
use Rattle.linked_terms.specs.declared.items.LinkedUse.TheVariants as answer
use Rattle.linked_terms.specs.declared.items.LinkedItem.{LinkedItem}
use Rattle.linked_terms.specs.declared.items.LinkedItem.TheVariants as item
use Rattle.linked_terms.specs.LinkedTerms.{term_of, terms_of}

abbrev pub case_of : LinkedCase → CaseAt
case_of case = record { number = case.number; position = case.position }

-- so many cases whose numbers grow by one from a first, and so do the positions of their jumps
unfoldable pub cases_on : ℤ → ℕ → ℕ → List CaseAt
cases_on number position zero = []
cases_on number position (suc count) =
    record { number = number; position = position } ∷ cases_on (number +ℤ pos 1) (position + 1) count

abbrev pub cases_of : LinkedCases → List CaseAt
cases_of (cases.Consecutive first position count) = cases_on first position count
cases_of (cases.Listed list) = map case_of list

abbrev pub callee_of : LinkedCallee → Callee
callee_of (callee.Direct number) = flat.Direct number
callee_of (callee.Through term) = flat.Through (term_of term)

abbrev pub use_of : LinkedUse → Use
use_of answer.Ignored = flat.Ignored
use_of (answer.Kept target) = flat.Kept (term_of target)
use_of answer.Returned = flat.Returned

abbrev pub flat_of : LinkedItem → Flat
flat_of (item.Assign target value) = flat.Assign (term_of target) (term_of value)
flat_of (item.Branch test on off) = flat.Branch (term_of test) on off
flat_of (item.Select value chosen otherwise) = flat.Select (term_of value) (cases_of chosen) otherwise
flat_of (item.Jump position) = flat.Jump position
flat_of (item.Invoke how callee arguments) = flat.Invoke (use_of how) (callee_of callee) (terms_of arguments)
flat_of (item.Return value) = flat.Return (option_map term_of value)
flat_of item.ReturnAnswer = flat.ReturnAnswer
flat_of item.Nothing = flat.Nothing
