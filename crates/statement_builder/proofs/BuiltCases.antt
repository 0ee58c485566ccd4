-- The cases of a `switch`, case by case.
use Rattle.std.specs.Prelude.{◌≡◌, ℕ, zero, suc, ◌+◌, ◌-◌, ◌<◌, ◌≤◌, ℤ, nat_eq, Bool, true, false, not, ◌&&◌, ◌||◌, List, [], ◌∷◌, ◌++◌, length, take, drop, Option, Some, None, option_map, slice_get, get_or, if◌then◌else◌}
use Rattle.std.proofs.Common.{refl, sym, ap, ◌∙◌, arith}
use Rattle.std.specs.List.{list_any}
use Rattle.std.specs.Ordering.{int_eq}
use Rattle.std.proofs.lemmas.Bool.{and_from, eq-eqb, ne_eqb}
use Rattle.std.proofs.lemmas.List.{append-nil, append_assoc, drop_all, drop_more, length-drop, length-take-le, take_all}
use Rattle.c_tree.specs.declared.expression.CExpr.{CExpr}
use Rattle.c_tree.specs.declared.statement.CCase.{CCase}
use Rattle.c_tree.specs.declared.statement.CStmt.TheVariants as stmt
use Rattle.c_structure.specs.Statements.{before_cases, is_case_number, are_case_numbers}
use Rattle.named_items.specs.declared.item.Case.{Case}
use Rattle.named_items.specs.declared.item.Item.{Item}
use Rattle.named_items.specs.declared.part.Part.{Part}
use Rattle.named_items.specs.Layouts.{Layout}
use Rattle.named_items.specs.Structured.{part, cases_for, switch_by, switch_for}
use Rattle.statement_builder.specs.SwitchCases.{case_at, numbers_of, has_number, is_own_number}
use Rattle.statement_builder.proofs.Building.{some_same}

-- ## Cases one behind another

-- cases behind those that are found
unfoldable pub behind_cases : List CCase → Option (List CCase) → Option (List CCase)
behind_cases found later = option_map (λ cases. found ++ cases) later

behind_first : (later : Option (List CCase)) → behind_cases [] later ≡ later
unfolding behind_cases
behind_first None = refl
behind_first (Some cases) = refl

behind_done : (found : List CCase) → behind_cases found (Some []) ≡ Some found
unfolding behind_cases
behind_done found = ap Some (append-nil found)

behind_one : (found : List CCase) (one : CCase) (later : Option (List CCase)) → behind_cases found (before_cases (Some one) later) ≡ behind_cases (found ++ one ∷ []) later
unfolding behind_cases before_cases
behind_one found one None = refl
behind_one found one (Some cases) = ap Some (sym (append_assoc found (one ∷ []) cases))

behind_none : (found : List CCase) (later : Option (List CCase)) → behind_cases found (before_cases None later) ≡ None
unfolding behind_cases before_cases
behind_none found None = refl
behind_none found (Some cases) = refl

no_cases : (l : Layout) (n : ℕ) (later : List Item) → cases_for l n [] later ≡ Some []
unfolding cases_for
no_cases l n [] = refl
no_cases l n (i ∷ later) = refl

-- the first case is that of the first item
case_more : (l : Layout) (n k : ℕ) (one : Case) (cases : List Case) (later : List Item)
    → cases_for l n (one ∷ cases) (drop k later) ≡ before_cases (case_at l n one (slice_get later k)) (cases_for l (n + 1) cases (drop (suc k) later))
unfolding cases_for case_at before_cases
case_more l n zero one cases [] = refl
case_more l n (suc k) one cases [] = refl
case_more l n zero one cases (i ∷ later) = refl
case_more l n (suc k) one cases (i ∷ later) = case_more l n k one cases later

-- what is found and the cases behind it are the cases from the first on
pub record AreFound (l : Layout) (n : ℕ) (cases : List Case) (later : List Item) (found : List CCase) (k : ℕ) : Type 0 where
  pub told : behind_cases found (cases_for l (n + k) (drop k cases) (drop k later)) ≡ cases_for l n cases later
  pub within : k ≤ length cases

pub found_first : (l : Layout) (n : ℕ) (cases : List Case) (later : List Item) (found : List CCase) → found ≡ [] → AreFound l n cases later found 0
found_first l n cases later found none =
    let same : n + 0 ≡ n = omega arith in
    record { told = (λ i. behind_cases (none i) (cases_for l (same i) cases later)) ∙ behind_first (cases_for l n cases later); within = omega arith }

module _ (l : Layout) (n : ℕ) (cases : List Case) (later : List Item) (found : List CCase) (k : ℕ) (are : AreFound l n cases later found k) where
  at_next : (one d : Case) → k < length cases → one ≡ get_or cases k d
      → cases_for l (n + k) (drop k cases) (drop k later) ≡ before_cases (case_at l (n + k) one (slice_get later k)) (cases_for l (n + k + 1) (drop (k + 1) cases) (drop (k + 1) later))
  at_next one d less is =
      ap (λ cs. cases_for l (n + k) cs (drop k later)) (drop_more cases k d less ∙ ap (λ c. c ∷ drop (k + 1) cases) (sym is))
      ∙ case_more l (n + k) k one (drop (k + 1) cases) later
      ∙ (let next : suc k ≡ k + 1 = omega arith in ap (λ m. before_cases (case_at l (n + k) one (slice_get later k)) (cases_for l (n + k + 1) (drop (k + 1) cases) (drop m later))) next)

  pub found_done : length cases ≤ k → Some found ≡ cases_for l n cases later
  found_done past =
      sym (behind_done found) ∙ ap (behind_cases found) (sym (no_cases l (n + k) (drop k later))) ∙ ap (λ cs. behind_cases found (cases_for l (n + k) cs (drop k later))) (sym (drop_all k cases past)) ∙ are.told

  pub found_none : (one d : Case) → k < length cases → one ≡ get_or cases k d → None ≡ case_at l (n + k) one (slice_get later k) → None ≡ cases_for l n cases later
  found_none one d less is none =
      sym (behind_none found (cases_for l (n + k + 1) (drop (k + 1) cases) (drop (k + 1) later)))
      ∙ ap (λ c. behind_cases found (before_cases c (cases_for l (n + k + 1) (drop (k + 1) cases) (drop (k + 1) later)))) none
      ∙ ap (behind_cases found) (sym (at_next one d less is)) ∙ are.told

  pub found_more : (one d : Case) (case : CCase) (all : List CCase) (m : ℕ) → k < length cases → one ≡ get_or cases k d → Some case ≡ case_at l (n + k) one (slice_get later k) → all ≡ found ++ case ∷ [] → m ≡ k + 1
      → AreFound l n cases later all m
  found_more one d case all m less is some whole next =
      let rest = cases_for l (n + k + 1) (drop (k + 1) cases) (drop (k + 1) later) in
      let onward : n + m ≡ n + k + 1 = omega (arith, next) in
      record {
        told = (λ i. behind_cases (whole i) (cases_for l (onward i) (drop (next i) cases) (drop (next i) later)))
            ∙ sym (behind_one found case rest)
            ∙ ap (λ c. behind_cases found (before_cases c rest)) some
            ∙ ap (behind_cases found) (sym (at_next one d less is))
            ∙ are.told;
        within = omega (arith, less, next);
      }

-- ## Numbers of cases

same_among : (z : ℤ) (cases : List Case) → list_any (int_eq z) (numbers_of cases) ≡ list_any (has_number z) cases
unfolding has_number
same_among z [] = refl
same_among z (one ∷ cases) = ap (λ b. int_eq z one.number || b) (same_among z cases)

and_third : (a b c : Bool) → (a && (b && c)) ≡ ((a && b) && c)
and_third true b c = refl
and_third false b c = refl

number_more : (cases : List Case) (k : ℕ) (d : Case) → k < length cases
    → are_case_numbers (numbers_of (drop k cases)) ≡ (is_own_number (get_or cases k d).number (drop (k + 1) cases) && are_case_numbers (numbers_of (drop (k + 1) cases)))
unfolding are_case_numbers is_own_number
number_more cases k d less =
    let one = get_or cases k d in
    let later = drop (k + 1) cases in
    ap (λ cs. are_case_numbers (numbers_of cs)) (drop_more cases k d less)
    ∙ ap (λ b. is_case_number one.number && (not b && are_case_numbers (numbers_of later))) (same_among one.number later)
    ∙ and_third (is_case_number one.number) (not (list_any (has_number one.number) later)) (are_case_numbers (numbers_of later))

-- the numbers are those of cases, where those from a later one on are
pub record AreCounted (cases : List Case) (k : ℕ) : Type 0 where
  pub told : are_case_numbers (numbers_of (drop k cases)) ≡ are_case_numbers (numbers_of cases)
  pub within : k ≤ length cases

pub counted_first : (cases : List Case) → AreCounted cases 0
counted_first cases = record { told = refl; within = omega arith }

-- the cases behind one, as a slice up to the end
up_to_end : (cases : List Case) (k : ℕ) → take (length cases - (k + 1)) (drop (k + 1) cases) ≡ drop (k + 1) cases
up_to_end cases k = take_all (length cases - (k + 1)) (drop (k + 1) cases) (let long = length-drop (k + 1) cases in omega (arith, long))

own_first : (cases : List Case) (k : ℕ) (d : Case) (own : Bool) → k < length cases → own ≡ is_own_number (get_or cases k d).number (take (length cases - (k + 1)) (drop (k + 1) cases))
    → (own && are_case_numbers (numbers_of (drop (k + 1) cases))) ≡ are_case_numbers (numbers_of (drop k cases))
own_first cases k d own less is =
    ap (λ c. c && are_case_numbers (numbers_of (drop (k + 1) cases))) (is ∙ ap (is_own_number (get_or cases k d).number) (up_to_end cases k)) ∙ sym (number_more cases k d less)

pub counted_more : (cases : List Case) (k m : ℕ) (d : Case) → AreCounted cases k → k < length cases → true ≡ is_own_number (get_or cases k d).number (take (length cases - (k + 1)) (drop (k + 1) cases)) → m ≡ k + 1 → AreCounted cases m
counted_more cases k m d are less is next = record {
  told = ap (λ n. are_case_numbers (numbers_of (drop n cases))) next ∙ own_first cases k d true less is ∙ are.told;
  within = omega (arith, less, next);
}

pub counted_not : (cases : List Case) (k : ℕ) (d : Case) → AreCounted cases k → k < length cases → false ≡ is_own_number (get_or cases k d).number (take (length cases - (k + 1)) (drop (k + 1) cases)) → false ≡ are_case_numbers (numbers_of cases)
counted_not cases k d are less is = own_first cases k d false less is ∙ are.told

pub counted_all : (cases : List Case) (k : ℕ) → AreCounted cases k → length cases ≤ k → true ≡ are_case_numbers (numbers_of cases)
unfolding are_case_numbers
counted_all cases k are past = sym (ap (λ cs. are_case_numbers (numbers_of cs)) (drop_all k cases past)) ∙ are.told

-- ## Switches

-- there are no more cases than items
cases_fit : (l : Layout) (n : ℕ) (cases : List Case) (later : List Item) (found : List CCase) → cases_for l n cases later ≡ Some found → length cases ≤ length later
unfolding cases_for before_cases case_at
cases_fit l n [] later found h = omega arith
cases_fit l n (one ∷ cases) [] found h = absurd (cc)
cases_fit l n (one ∷ cases) (i ∷ later) found h = by (case_at l n one (Some i)) (cases_for l (n + 1) cases later) (cases_fit l (n + 1) cases later) h
  where
    by : (x : Option CCase) (xs : Option (List CCase)) → ((rest : List CCase) → xs ≡ Some rest → length cases ≤ length later) → before_cases x xs ≡ Some found → suc (length cases) ≤ suc (length later)
    by (Some c) (Some rest) fit g = let less = fit rest refl in omega (arith, less)
    by (Some c) None fit g = absurd (cc)
    by None xs fit g = absurd (cc)

cases_past : (l : Layout) (n : ℕ) (cases : List Case) (later : List Item) → length later < length cases → cases_for l n cases later ≡ None
cases_past l n cases later short = by (cases_for l n cases later) refl
  where
    by : (xs : Option (List CCase)) → cases_for l n cases later ≡ xs → xs ≡ None
    by None h = refl
    by (Some found) h = let fit = cases_fit l n cases later found h in absurd (omega (arith, fit, short))

module _ (l : Layout) (n otherwise : ℕ) (value : CExpr) (cases : List Case) where
  pub switch_past : (count : ℕ) (queue : List Item) → count ≤ length queue → count < length cases → None ≡ switch_for l n value cases otherwise (take count queue)
  unfolding switch_for switch_by
  switch_past count queue room past = by (nat_eq otherwise (n + 1 + length cases) && are_case_numbers (numbers_of cases))
    where
      by : (b : Bool) → None ≡ (if b then switch_by value (length cases) (cases_for l (n + 1) cases (take count queue)) else None)
      by true = let long = length-take-le count queue room in sym (ap (switch_by value (length cases)) (cases_past l (n + 1) cases (take count queue) (omega (arith, long, past))))
      by false = refl

  pub switch_elsewhere : (later : List Item) → (otherwise ≡ n + 1 + length cases → ⊥) → None ≡ switch_for l n value cases otherwise later
  unfolding switch_for
  switch_elsewhere later other =
      sym (ap (λ b. if b && are_case_numbers (numbers_of cases) then switch_by value (length cases) (cases_for l (n + 1) cases later) else None) (ne_eqb otherwise (n + 1 + length cases) other))

  pub switch_otherwise : (later : List Item) → false ≡ are_case_numbers (numbers_of cases) → None ≡ switch_for l n value cases otherwise later
  unfolding switch_for
  switch_otherwise later is = by (nat_eq otherwise (n + 1 + length cases)) (are_case_numbers (numbers_of cases)) (sym is)
    where
      by : (a c : Bool) → c ≡ false → None ≡ (if a && c then switch_by value (length cases) (cases_for l (n + 1) cases later) else None)
      by true true none = absurd (cc)
      by true false none = refl
      by false c none = refl

  pub switch_built : (later : List Item) (found : Option (List CCase)) (r : Option Part) → otherwise ≡ n + 1 + length cases → true ≡ are_case_numbers (numbers_of cases) → found ≡ cases_for l (n + 1) cases later → r ≡ switch_by value (length cases) found
      → r ≡ switch_for l n value cases otherwise later
  unfolding switch_for
  switch_built later found r at counts is made =
      made ∙ ap (switch_by value (length cases)) is
      ∙ sym (ap (λ b. if b then switch_by value (length cases) (cases_for l (n + 1) cases later) else None)
      (and_from _ _ (eq-eqb otherwise (n + 1 + length cases) at) (sym counts)))

  -- no more items belong to a switch than there are
  pub switch_taken : (count : ℕ) (queue : List Item) (found : Option Part) → count ≤ length queue → found ≡ switch_for l n value cases otherwise (take count queue) → (p : Part) → found ≡ Some p → p.taken ≤ count
  unfolding switch_for switch_by
  switch_taken count queue found room is p h = by (nat_eq otherwise (n + 1 + length cases) && are_case_numbers (numbers_of cases)) (cases_for l (n + 1) cases (take count queue)) (cases_fit l (n + 1) cases (take count queue)) (sym is ∙ h)
    where
      by : (b : Bool) (xs : Option (List CCase)) → ((rest : List CCase) → xs ≡ Some rest → length cases ≤ length (take count queue)) → (if b then switch_by value (length cases) xs else None) ≡ Some p → p.taken ≤ count
      by true (Some rest) fit g =
          let fits = fit rest refl in
          let long = length-take-le count queue room in
          let same : p.taken ≡ length cases = sym (ap (λ q. q.taken) (some_same (part (stmt.Switch value rest) (length cases)) p g)) in
          omega (arith, fits, long, same)
      by true None fit g = absurd (cc)
      by false xs fit g = absurd (cc)
