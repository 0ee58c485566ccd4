-- Whether a number stands among those of some cases, as the table tells it.
use Rattle.std.proofs.Common.{◌≡◌, refl, sym, ap, ◌∙◌, subst, ℕ, nat_eq, pos, Bool, true, false, ◌||◌, List, [], ◌∷◌, ◌++◌, map, Option, Some, is_some, if◌then◌else◌}
use Rattle.std.specs.List.{list_any}
use Rattle.std.specs.Ordering.{int_eq}
use Rattle.c_tree.specs.declared.statement.CCase.{CCase}
use Rattle.c_tree.specs.CStatementText.{case_numbers}
use Rattle.c_statement_readers.specs.CaseReader.{case_of}

or-assoc : (a b c : Bool) → (a || (b || c)) ≡ ((a || b) || c)
or-assoc true b c = refl
or-assoc false b c = refl

or-false : (b : Bool) → (b || false) ≡ b
or-false true = refl
or-false false = refl

pub numbers-more : (q n : ℕ) (label : List ℕ) (cases : List CCase)
    → list_any (int_eq (pos q)) (case_numbers (cases ++ (case_of n label ∷ []))) ≡ (list_any (int_eq (pos q)) (case_numbers cases) || int_eq (pos q) (pos n))
numbers-more q n label [] = or-false (int_eq (pos q) (pos n))
numbers-more q n label (first ∷ later) =
    ap (λ b. int_eq (pos q) first.number || b) (numbers-more q n label later)
    ∙ or-assoc (int_eq (pos q) first.number) (list_any (int_eq (pos q)) (case_numbers later)) (int_eq (pos q) (pos n))

put-by : (same there : Bool) (old : Option (Unit {0})) → is_some old ≡ there → is_some (if same then Some tt else old) ≡ (there || same)
put-by true true old is = refl
put-by true false old is = refl
put-by false true old is = is
put-by false false old is = is

pub told-more : (q n : ℕ) (label : List ℕ) (cases : List CCase) (old now : Option (Unit {0})) → is_some old ≡ list_any (int_eq (pos q)) (case_numbers cases)
    → now ≡ (if nat_eq n q then Some tt else old) → nat_eq n q ≡ int_eq (pos q) (pos n)
    → is_some now ≡ list_any (int_eq (pos q)) (case_numbers (cases ++ (case_of n label ∷ [])))
told-more q n label cases old now told put same =
    ap is_some put ∙ (ap (λ (b : Bool). is_some (if b then Some tt else old)) same
    ∙ (put-by (int_eq (pos q) (pos n)) (list_any (int_eq (pos q)) (case_numbers cases)) old told ∙ sym (numbers-more q n label cases)))

pub labels-more : (n : ℕ) (label : List ℕ) (cases : List CCase)
    → map (λ (case : CCase). case.label) (cases ++ (case_of n label ∷ [])) ≡ map (λ (case : CCase). case.label) cases ++ label ∷ []
labels-more n label [] = refl
labels-more n label (first ∷ later) = ap (λ z. first.label ∷ z) (labels-more n label later)
