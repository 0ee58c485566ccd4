-- The numbers of cases: each is written with digits, and none stands twice.
use Rattle.std.specs.Prelude.{◌≡◌, ℕ, ◌≤◌, ℤ, pos, negsuc, Bool, true, false, not, ◌&&◌, List, [], ◌∷◌}
use Rattle.std.specs.List.{list_any}
use Rattle.std.specs.Ordering.{int_eq}
use Rattle.std.proofs.Common.{refl}
use Rattle.std.proofs.lemmas.Bool.{and_parts, or_from, leb-true}
use Rattle.main_translation_laws.specs.c_tree.CStatementText.{has_twice}
use Rattle.main_translation_laws.specs.c_structure.Statements.{is_case_number, are_case_numbers}

-- a number that digits are written for
pub record HasDigits (z : ℤ) : Type 0 where
  pub number : ℕ
  pub is : z ≡ pos number
  pub small : number ≤ 2147483647

pub digits_of : (z : ℤ) → is_case_number z ≡ true → HasDigits z
unfolding is_case_number
digits_of (pos n) h = record { number = n; is = refl; small = leb-true n 2147483647 h }
digits_of (negsuc n) h = absurd (cc)

is_not : (b : Bool) → not b ≡ true → b ≡ false
is_not true h = absurd (cc)
is_not false h = refl

pub none_twice : (numbers : List ℤ) → are_case_numbers numbers ≡ true → has_twice numbers ≡ false
unfolding are_case_numbers
none_twice [] are = refl
none_twice (number ∷ later) are =
    let both = and_parts (is_case_number number) (not (list_any (int_eq number) later) && are_case_numbers later) are in
    let rest = and_parts (not (list_any (int_eq number) later)) (are_case_numbers later) both.1 in
    or_from (list_any (int_eq number) later) (has_twice later) (is_not (list_any (int_eq number) later) rest.0) (none_twice later rest.1)
