-- Fields that do not fit, and the columns of a field.
use Rattle.std.proofs.Common.{◌≡◌, ℕ, ℤ, ◌+◌, ◌-◌, ◌≤◌, ◌<◌, Bool, true, false, List, [], ◌∷◌, ◌++◌, length, take, max, replicate, Option, Some, refl, ap, subst, rules, arith, length-append, length-take}
use Rattle.std.specs.Prelude.{Result, Err, nat_le, if◌then◌else◌}
use Rattle.std.proofs.lemmas.Bool.Decides.{nat_tests}
use Rattle.std.proofs.lemmas.List.{same_lists, places, length-replicate}
use Rattle.edit_rules.specs.edit_meaning.EditedFields.{right_in, int_text, int_field, logical_field, text_field}
use Rattle.edit_rules.specs.edit_meaning.EditedRecords.{Sheet, Output, with_text}
use Rattle.edit_rules.specs.edit_meaning.Halts.{Number}
use Rattle.formatted_records.specs.declared.halt.Halt.{Halt}
use Rattle.formatted_records.specs.declared.halt.Halt.TheVariants.{PastColumns}
use Rattle.formatted_records.specs.declared.sheet.RecordSheet.{RecordSheet}
use Rattle.formatted_records.specs.Sheets.{StandsOn, ActsBy, shown}

beyond : (on : Sheet) (text : List ℕ) (out : Output) → on.columns < out.before + length text → with_text on text out ≡ record out { halted = Some (Number 5) }
beyond on text out h = by (nat_le (out.before + length text) on.columns) refl
  where
    by : (fits : Bool) → nat_le (out.before + length text) on.columns ≡ fits → with_text on text out ≡ record out { halted = Some (Number 5) }
    by true is = absurd (grind (arith, nat_tests))
    by false is = grind (arith, nat_tests)

-- a text of more columns than a record has
pub too-wide : (on : Sheet) (complete : List (List ℕ)) (sheet : RecordSheet) (text : List ℕ) (width : ℕ) → StandsOn on complete sheet → length text ≡ width → 1024 < width →
    ActsBy on (with_text on text) complete sheet sheet (Err PastColumns)
too-wide on complete sheet text width stands is wide =
    let narrow : sheet.columns ≤ 1024 = sheet.narrow in
    let same : on.columns ≡ sheet.columns = stands.columns in
    (refl, beyond on text (shown sheet complete) (omega arith))

-- the same act, by an equal text
pub same-text : (on : Sheet) (complete : List (List ℕ)) (old new : RecordSheet) (result : Result (Unit {0}) Halt) (text field : List ℕ) → text ≡ field →
    ActsBy on (with_text on text) complete old new result → ActsBy on (with_text on field) complete old new result
same-text on complete old new result text field is acts = subst (λ (one : List ℕ). ActsBy on (with_text on one) complete old new result) is acts

length-right : (width : ℕ) (text : List ℕ) → length (right_in width text) ≡ width
length-right width text = by (nat_le (length text) width) refl
  where
    by : (fits : Bool) → nat_le (length text) width ≡ fits → length (if fits then replicate (width - length text) 32 ++ text else replicate width 42) ≡ width
    by true is =
        let within : length text ≤ width = grind (arith, nat_tests) in
        omega (arith, length-append (replicate (width - length text) 32) text, length-replicate {A = ℕ} (width - length text) 32)
    by false is = length-replicate {A = ℕ} width 42

pub length-int : (number : ℤ) (width : ℕ) (least : Option ℕ) (plus : Bool) → length (int_field number width least plus) ≡ width
unfolding int_field
length-int number width least plus = length-right width (int_text number least plus)

pub length-logical : (truth : Bool) (width : ℕ) → 1 ≤ width → length (logical_field truth width) ≡ width
unfolding logical_field
length-logical truth width some =
    let letter : ℕ = if truth then 84 else 70 in
    let blanks : List ℕ = replicate (width - 1) 32 in
    omega (arith, length-append blanks (letter ∷ []), length-replicate {A = ℕ} (width - 1) 32)

pub logical-widened : (truth : Bool) (width : ℕ) → logical_field truth (max width 1) ≡ logical_field truth width
unfolding logical_field
logical-widened truth width =
    let same : max width 1 - 1 ≡ width - 1 = omega arith in
    ap (λ (n : ℕ). replicate n 32 ++ (if truth then 84 else 70) ∷ []) same

pub length-text : (text : List ℕ) (width : ℕ) → length (text_field text width) ≡ width
unfolding text_field
length-text text width =
    omega (arith, length-append (replicate (width - length text) 32) (take width text), length-replicate {A = ℕ} (width - length text) 32, length-take width text)

pub text-whole : (text : List ℕ) → text_field text (length text) ≡ text
unfolding text_field
text-whole text = same_lists _ _ (search (rules, places)) (λ k d h. grind (arith, places))
