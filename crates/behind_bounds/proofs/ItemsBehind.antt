-- The item of a step that stands behind others is its item where its own steps are numbered from 0.
use Rattle.std.specs.Prelude.{◌≡◌, ℕ, zero, suc, ◌+◌, ◌-◌, ◌≤◌, pos, List, [], ◌∷◌, length, Option, Some, None, option_map}
use Rattle.std.proofs.Common.{refl, ap, ◌∙◌, arith}
use Rattle.procedure_emission.specs.f_tree.Values.{IsInt}
use Rattle.procedure_emission.specs.f_tree.Facts.{Output, Listed}
use Rattle.procedure_emission.specs.l_core.Pures.{Pure, Temporary}
use Rattle.procedure_emission.specs.l_core.Steps as step
use Rattle.procedure_emission.specs.l_core.Steps.{Step}
use Rattle.procedure_emission.specs.c_tree.Access.{ToNumber}
use Rattle.procedure_emission.specs.c_tree.Terms.{Term, Variable}
use Rattle.procedure_emission.specs.c_tree.Flat.{Ignored, Branch, Select, Jump, CaseAt}
use Rattle.procedure_emission.specs.c_emit.Numbers.{Writing, constant_value, if_number, place_term, value_term}
use Rattle.procedure_emission.specs.c_emit.LibraryFunctions.{library_function}
use Rattle.procedure_emission.specs.c_emit.Calls.{computed_item, held_terms}
use Rattle.procedure_emission.specs.c_emit.Flats.{assigned, jump_to, cases_to, cases_for, switch_to, flat_of}
use Rattle.procedure_emission.specs.ProcedureItems.{Numbers, call_item, basic_wanted, kept_item, call_for_item, procedure_item}
use Rattle.behind_bounds.specs.BehindBounds.{position_behind, writing_behind, GoesBackWithin, ItemsStandBehind}
use Rattle.behind_bounds.proofs.ValuesBehind.{value_same, place_same, all_held_same}
use Rattle.behind_bounds.proofs.CallsBehind.{start_same, takes_same, finish_same, stop_same, computed_same, called_same, arguments_same, back_same, back_by_same}

module _ (first : ℕ) where
  abbrev on : ℕ → ℕ
  on m = first + m

  abbrev own : ℕ → ℕ
  own m = m

  jump_same : (found : Option ℕ) → jump_to own (option_map (λ n. first + n) found) ≡ jump_to on found
  unfolding jump_to
  jump_same None = refl
  jump_same (Some n) = refl

  cases_same : (number at n count : ℕ) → at ≡ first + n → cases_to own number at count ≡ cases_to on number n count
  unfolding cases_to
  cases_same number at n zero is = refl
  cases_same number at n (suc count) is =
      λ i. (let one : CaseAt = record { number = pos number; position = is i } in one) ∷ cases_same (suc number) (suc at) (suc n) count (omega (arith, is)) i

  labels_same : (at n : ℕ) (labels : List ℕ) → at ≡ first + n → cases_for own at labels ≡ cases_for on n labels
  unfolding cases_for
  labels_same at n [] is = refl
  labels_same at n (label ∷ labels) is =
      λ i. (let one : CaseAt = record { number = pos label; position = is i } in one) ∷ labels_same (suc at) (suc n) labels (omega (arith, is)) i

  switch_same : (n : ℕ) (labels : List ℕ) (x y : Option Term) → x ≡ y → switch_to own (first + n) labels x ≡ switch_to on n labels y
  unfolding switch_to
  switch_same n labels x y same =
      let behind : suc (first + n) + length labels ≡ first + (suc n + length labels) = omega arith in
      λ i. option_map (λ term. Select term (labels_same (suc (first + n)) (suc n) labels (omega arith) i) (behind i)) (same i)

  module _ (w : Writing) where
    abbrev v : Writing
    v = writing_behind first w

    branch_same : (n m : ℕ) (p : Pure) → option_map (λ test. Branch test (suc (first + n)) (suc (first + n) + m)) (value_term w p) ≡ option_map (λ test. Branch test (first + suc n) (first + (suc n + m))) (value_term v p)
    branch_same n m p =
        let next : suc (first + n) ≡ first + suc n = omega arith in
        let passed : suc (first + n) + m ≡ first + (suc n + m) = omega arith in
        λ i. option_map (λ test. Branch test (next i) (passed i)) (value_same w first p i)

    again_same : (n m : ℕ) (p : Pure) → m ≤ n → option_map (λ test. Branch test ((first + n) - m) (suc (first + n))) (value_term w p) ≡ option_map (λ test. Branch test (first + (n - m)) (first + suc n)) (value_term v p)
    again_same n m p within =
        let next : suc (first + n) ≡ first + suc n = omega arith in
        let back : (first + n) - m ≡ first + (n - m) = omega (arith, within) in
        λ i. option_map (λ test. Branch test (back i) (next i)) (value_same w first p i)

    select_same : (n count : ℕ) (p : Pure) →
        option_map (λ value. Select value (cases_to own 1 (suc (first + n)) count) (suc (first + n) + count)) (value_term w p)
        ≡ option_map (λ value. Select value (cases_to on 1 (suc n) count) (first + (suc n + count))) (value_term v p)
    select_same n count p =
        let behind : suc (first + n) + count ≡ first + (suc n + count) = omega arith in
        λ i. option_map (λ value. Select value (cases_same 1 (suc (first + n)) (suc n) count (omega arith) i) (behind i)) (value_same w first p i)

    module _ (numbers : Numbers) (position : ℕ → Option ℕ) where
      flat_same : (n : ℕ) (st : Step) → GoesBackWithin n st → flat_of w own (position_behind first position) (first + n) st ≡ flat_of v on position n st
      unfolding flat_of position_behind
      flat_same n (step.Put target p) within = λ i. assigned (place_same w first target i) (value_same w first p i)
      flat_same n (step.PutLabel target l) within = ap (λ term. assigned term (constant_value (IsInt (pos l)))) (place_same w first target)
      flat_same n (step.PutText target ps) within = refl
      flat_same n (step.Keep k p) within = ap (assigned (if_number (w.is_number k) (Some (Variable (w.naming.temporary k) ToNumber)))) (value_same w first p)
      flat_same n (step.Compute k f ps) within =
          ap (computed_item w (if_number (w.is_number k) (Some (Variable (w.naming.temporary k) ToNumber))) (library_function f)) (all_held_same w first ps)
          ∙ computed_same w first (if_number (w.is_number k) (Some (Variable (w.naming.temporary k) ToNumber))) (library_function f) (held_terms v ps)
      flat_same n (step.Unless p m) within = branch_same n m p
      flat_same n (step.AgainIf p m) within = again_same n m p (within.again_if p m refl)
      flat_same n (step.Skip m) within = ap (λ k. Some (Jump k)) (let e : suc (first + n) + m ≡ first + (suc n + m) = omega arith in e)
      flat_same n (step.Again m) within = let le = within.again m refl in ap (λ k. Some (Jump k)) (let e : (first + n) - m ≡ first + (n - m) = omega (arith, le) in e)
      flat_same n (step.Jump l) within = jump_same (position l)
      flat_same n (step.Select p count) within = select_same n count p
      flat_same n (step.JumpBy p labels) within = switch_same n labels (place_term w p) (place_term v p) (place_same w first p)
      flat_same n step.Pass within = refl
      flat_same n step.Back within = refl
      flat_same n (step.BackBy p) within = refl
      flat_same n (step.CallFor k callee ps) within = refl
      flat_same n (step.CallSub k name ps) within = refl
      flat_same n (step.Branch k count) within = select_same n count (Temporary k)
      flat_same n (step.Way l) within = jump_same (position l)
      flat_same n (step.Halt text) within = ap Some (stop_same w first n text)
      flat_same n (step.Acts (step.Starts Output Listed controls) ps m) within = start_same w first n controls ps
      flat_same n (step.Acts (step.Starts way layout controls) ps m) within = refl
      flat_same n (step.Acts step.Takes ps m) within = takes_same w first n ps
      flat_same n (step.Acts step.Finishes ps zero) within = finish_same w first ps
      flat_same n (step.Acts step.Finishes ps (suc m)) within = refl
      flat_same n (step.Acts (step.Auxiliary which controls) ps m) within = refl

      item_same : (n : ℕ) (st : Step) → GoesBackWithin n st → procedure_item numbers w own (position_behind first position) (first + n) st ≡ procedure_item numbers v on position n st
      unfolding procedure_item call_for_item
      item_same n (step.CallFor k callee ps) within =
          λ i. kept_item (basic_wanted callee.want) (if_number (w.is_number k) (Some (Variable (w.naming.temporary k) ToNumber))) (called_same w first numbers callee.name i) (arguments_same w first numbers ps i)
      item_same n (step.CallSub k name ps) within = λ i. call_item Ignored (called_same w first numbers name i) (arguments_same w first numbers ps i)
      item_same n step.Back within = back_same w first w.facts.program.kind
      item_same n (step.BackBy p) within = back_by_same w first p w.facts.program.kind
      item_same n st within = flat_same n st within

pub items_stand_behind : ItemsStandBehind
items_stand_behind numbers w position first n st within = item_same first w numbers position n st within
