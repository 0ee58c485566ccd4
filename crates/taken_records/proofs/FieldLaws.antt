-- What an item takes from its field.
use Rattle.std.proofs.Common.{◌≡◌, ℕ, ℤ, ◌+◌, ◌-◌, ◌≤◌, ◌<◌, Bool, true, false, List, [], ◌∷◌, ◌++◌, length, take, drop, replicate, min, Option, None, Some, refl, ap, sym, ◌∙◌, subst, arith, ◌⊎◌, inl, inr}
use Rattle.std.specs.Prelude.{Result, Ok, Err, nat_le, unwrap_or, if◌then◌else◌}
use Rattle.std.proofs.lemmas.Bool.{lt-leb, le-leb, cases_lt}
use Rattle.std.proofs.lemmas.List.{take_all, length-drop, length-append, length-replicate}
use Rattle.edit_rules.specs.edit_meaning.Formats.{TextIn, Edit, Act, Control}
use Rattle.edit_rules.specs.edit_meaning.Halts.{Number}
use Rattle.edit_rules.specs.edit_meaning.ListItems.{Value, TextValue}
use Rattle.edit_rules.specs.edit_meaning.TakenFields.{int_in, logical_in, text_in}
use Rattle.edit_rules.specs.edit_meaning.TakenRecords.{Input, WantText, halted_by, moved_to, columns_of, with_value, with_int, with_field, with_control}
use Rattle.taken_records.specs.declared.halt.Halt.{Halt}
use Rattle.taken_records.specs.declared.halt.Halt.TheVariants.{PastColumns}
use Rattle.taken_records.specs.declared.fields.Taken.{Taken}
use Rattle.taken_records.specs.declared.fields.Want.{Want}
use Rattle.formatted_records.specs.declared.fields.Field.{Field}
use Rattle.formatted_records.specs.Sheets.{descriptor_of}
use Rattle.taken_records.specs.declared.record.RecordInput.{RecordInput}
use Rattle.taken_records.specs.Records.{halt_of, want_of, shown, line_in, ReadsInt, Acts, ActsBy, Takes, TakesBy}
use Rattle.taken_records.proofs.BlankLaws.{failing_of, int-failing, logical-before}
use Rattle.taken_records.proofs.ColumnLaws.{columns-in, columns-within, columns-past, text-taken}

-- ## The columns of a field

-- so many columns stand in the line, or blanks stand behind it in the field and in what is read of it
pub data IsField (read : RecordInput) (width : ℕ) (field : List ℕ) : Type 0 where
  Whole : columns_of read.before width (line_in read) ≡ field → IsField read width field
  Past : 1024 < read.before + width → (more : ℕ) → 10 ≤ more → columns_of read.before width (line_in read) ≡ drop read.before read.line ++ replicate more 32 →
      field ≡ drop read.before read.line ++ replicate (1024 + read.before) 32 → IsField read width field

pub field-is : (read : RecordInput) (width most : ℕ) (columns field : List ℕ) → most ≡ min width 2048 → columns ≡ drop read.before read.line ++ replicate (1024 + read.before) 32 →
    field ≡ take most columns → IsField read width field
field-is read width most columns field is all cut = by (cases_lt 2048 width)
  where
    by : (2048 < width) ⊎ (width ≤ 2048) → IsField read width field
    by (inr small) =
        let stands : read.before ≤ 1024 = read.stands in
        let same : most ≡ width = omega arith in
        let fits : read.before + width ≤ 1024 + (1024 + read.before) = omega arith in
        Whole (columns-in read.line read.used read.before width (1024 + read.before) read.whole read.within read.stands read.blank fits
        ∙ ap (take width) (sym all) ∙ ap (λ (n : ℕ). take n columns) (sym same) ∙ sym cut)
    by (inl large) =
        let stands : read.before ≤ 1024 = read.stands in
        let most_is : most ≡ 2048 = omega arith in
        let rest_is : length (drop read.before read.line) ≡ 1024 - read.before = length-drop read.before read.line ∙ ap (λ (n : ℕ). n - read.before) read.whole in
        let size_is : length (drop read.before read.line ++ replicate (1024 + read.before) 32) ≡ 2048 =
        length-append (drop read.before read.line) (replicate (1024 + read.before) 32) ∙ omega (arith, rest_is, length-replicate {A = ℕ} (1024 + read.before) 32) in
        let size_of : length columns ≤ most = omega (arith, size_is, ap length all) in
        Past (omega arith) (read.before + width - 1024) (omega arith)
        (columns-past read.line read.used read.before width read.whole read.within read.stands read.blank (omega arith))
        (cut ∙ take_all most columns size_of ∙ all)

-- ## Integers

-- what a value from a field comes to that goes past the last column
value-past : (value : Value) (width : ℕ) (input : Input) → 1024 < input.before + width → with_value value width input ≡ halted_by (Number 5) input
value-past value width input past =
    ap (λ (fits : Bool). if fits then record input { before = input.before + width; values = input.values ++ value ∷ [] } else halted_by (Number 5) input)
    (lt-leb (input.before + width) 1024 past)

int-past : (width : ℕ) (found : Result ℤ ℕ) (input : Input) → 1024 < input.before + width → with_int width found input ≡ halted_by (Number (unwrap_or (failing_of found) 5)) input
int-past width (Ok number) input past = value-past _ width input past
int-past width (Err error) input past = refl

pub int-reads : (read : RecordInput) (width : ℕ) (field : List ℕ) (found : Result ℤ ℕ) → found ≡ int_in field read.zeros → IsField read width field → ReadsInt read width found
int-reads read width field found is (Whole columns) later values =
    ap (λ (one : Result ℤ ℕ). with_int width one (shown read later values)) (ap (λ (text : List ℕ). int_in text read.zeros) columns ∙ sym is)
int-reads read width field found is (Past past more some columns whole) later values =
    let stands : read.before ≤ 1024 = read.stands in
    let same : failing_of (int_in (columns_of read.before width (line_in read)) read.zeros) ≡ failing_of found =
    ap (λ (text : List ℕ). failing_of (int_in text read.zeros)) columns
    ∙ int-failing read.zeros (drop read.before read.line) more (1024 + read.before) some (omega arith)
    ∙ ap (λ (text : List ℕ). failing_of (int_in text read.zeros)) (sym whole) ∙ ap failing_of (sym is) in
    int-past width (int_in (columns_of read.before width (line_in read)) read.zeros) (shown read later values) past
    ∙ ap (λ (error : Option ℕ). halted_by (Number (unwrap_or error 5)) (shown read later values)) same
    ∙ sym (int-past width found (shown read later values) past)

-- ## Logicals

pub logical-reads : (read : RecordInput) (width : ℕ) (field : List ℕ) (found : Result Bool ℕ) → found ≡ logical_in field → IsField read width field → found ≡ logical_in (columns_of read.before width (line_in read))
logical-reads read width field found is (Whole columns) = is ∙ ap logical_in (sym columns)
logical-reads read width field found is (Past past more some columns whole) =
    is ∙ ap logical_in whole ∙ logical-before (drop read.before read.line) (1024 + read.before) ∙ sym (logical-before (drop read.before read.line) more) ∙ ap logical_in (sym columns)

-- ## Behind a field

-- a value is taken where the position moves behind its field
pub value-moved : (value : Value) (old new : RecordInput) (width : ℕ) (later : List (List ℕ)) (values : List Value) →
    moved_to (old.before + width) (shown old later values) ≡ shown new later values → with_value value width (shown old later values) ≡ shown new later (values ++ value ∷ [])
value-moved value old new width later values = by (nat_le (old.before + width) 1024)
  where
    by : (fits : Bool) →
        (let moved : Input = if fits then record (shown old later values) { before = old.before + width } else halted_by (Number 5) (shown old later values) in moved) ≡ shown new later values →
        (let taken : Input = if fits then record (shown old later values) { before = old.before + width; values = values ++ value ∷ [] } else halted_by (Number 5) (shown old later values) in taken)
        ≡ shown new later (values ++ value ∷ [])
    by true is = ap (λ (input : Input). record input { values = values ++ value ∷ [] }) is
    by false is = let none : Some (Number 5) ≡ None = ap (λ (input : Input). input.halted) is in absurd (cc)

-- and none where it does not
pub value-halted : (value : Value) (old : RecordInput) (why : Halt) (width : ℕ) (later : List (List ℕ)) (values : List Value) →
    moved_to (old.before + width) (shown old later values) ≡ halted_by (halt_of why) (shown old later values) →
    with_value value width (shown old later values) ≡ halted_by (halt_of why) (shown old later values)
value-halted value old why width later values = by (nat_le (old.before + width) 1024)
  where
    by : (fits : Bool) →
        (let moved : Input = if fits then record (shown old later values) { before = old.before + width } else halted_by (Number 5) (shown old later values) in moved)
        ≡ halted_by (halt_of why) (shown old later values) →
        (let taken : Input = if fits then record (shown old later values) { before = old.before + width; values = values ++ value ∷ [] } else halted_by (Number 5) (shown old later values) in taken)
        ≡ halted_by (halt_of why) (shown old later values)
    by true is = let none : None ≡ Some (halt_of why) = ap (λ (input : Input). input.halted) is in absurd (cc)
    by false is = is

-- ## Texts

value-within : (value : Value) (width : ℕ) (input : Input) → input.before + width ≤ 1024 →
    with_value value width input ≡ record input { before = input.before + width; values = input.values ++ value ∷ [] }
value-within value width input within =
    ap (λ (fits : Bool). if fits then record input { before = input.before + width; values = input.values ++ value ∷ [] } else halted_by (Number 5) input)
    (le-leb (input.before + width) 1024 within)

pub text-past : (old : RecordInput) (width size : ℕ) (later : List (List ℕ)) (values : List Value) → 1024 - old.before < width →
    TakesBy (TextIn (Some width)) (WantText size) later values old old (Err PastColumns)
text-past old width size later values wide =
    let stands : old.before ≤ 1024 = old.stands in
    (refl, value-past _ width (shown old later values) (omega arith))

pub text-takes : (old : RecordInput) (width size from blanks : ℕ) (later : List (List ℕ)) (values : List Value) → width ≤ 1024 - old.before → from ≡ old.before + (width - size) → blanks ≡ size - width →
    with_field (TextIn (Some width)) (WantText size) (shown old later values)
    ≡ record (shown old later values) {
      before = old.before + width;
      values = values ++ TextValue (take ((old.before + width) - from) (drop from old.line) ++ replicate blanks 32) ∷ [];
    }
text-takes old width size from blanks later values within begins padded =
    let stands : old.before ≤ 1024 = old.stands in
    let fits : old.before + width ≤ 1024 = omega arith in
    let text_is : text_in (columns_of old.before width (line_in old)) size ≡ take ((old.before + width) - from) (drop from old.line) ++ replicate (size - width) 32 =
    text-taken old.line (columns_of old.before width (line_in old)) old.before width size from (old.before + width) old.whole fits
    (columns-within old.line old.used old.before width old.whole old.within old.stands old.blank fits) begins refl in
    value-within (TextValue (text_in (columns_of old.before width (line_in old)) size)) width (shown old later values) fits
    ∙ ap (λ (text : List ℕ). record (shown old later values) { before = old.before + width; values = values ++ TextValue text ∷ [] })
    (text_is ∙ ap (λ (n : ℕ). take ((old.before + width) - from) (drop from old.line) ++ replicate n 32) (sym padded))

-- ## The same act or field

pub acts-as : (act act' : Input → Input) (later : List (List ℕ)) (values : List Value) (old new : RecordInput) (result : Result (Unit {0}) Halt) →
    act (shown old later values) ≡ act' (shown old later values) → ActsBy act' later values old new result → ActsBy act later values old new result
acts-as act act' later values old new (Ok done) same acts = same ∙ acts
acts-as act act' later values old new (Err why) same acts = (acts.0, same ∙ acts.1)

pub same-control : (one other : Control) (old new : RecordInput) (result : Result (Unit {0}) Halt) → (let e : Option Edit = Some (Act one) in e) ≡ Some (Act other) →
    Acts (with_control one) old new result → Acts (with_control other) old new result
same-control one other old new result is acts =
    let same : one ≡ other = cc in subst (λ (control : Control). Acts (with_control control) old new result) same acts

pub takes-as : (field field' : Field) (want want' : Want) (old new : RecordInput) (result : Result Taken Halt) → field ≡ field' → want ≡ want' →
    Takes (descriptor_of field') (want_of want') old new result → Takes (descriptor_of field) (want_of want) old new result
takes-as field field' want want' old new result same wanted takes =
    subst (λ (one : Field). Takes (descriptor_of one) (want_of want) old new result) (sym same)
    (subst (λ (one : Want). Takes (descriptor_of field') (want_of one) old new result) (sym wanted) takes)

pub text-as : (width : Option ℕ) (wide size : ℕ) (old new : RecordInput) (result : Result Taken Halt) → wide ≡ unwrap_or width size →
    Takes (TextIn (Some wide)) (WantText size) old new result → Takes (TextIn width) (WantText size) old new result
text-as width wide size old new result is takes later values = by result (takes later values)
  where
    same : with_field (TextIn width) (WantText size) (shown old later values) ≡ with_field (TextIn (Some wide)) (WantText size) (shown old later values)
    same = ap (λ (n : ℕ). with_value (TextValue (text_in (columns_of old.before n (line_in old)) size)) n (shown old later values)) (sym is)

    by : (found : Result Taken Halt) → TakesBy (TextIn (Some wide)) (WantText size) later values old new found → TakesBy (TextIn width) (WantText size) later values old new found
    by (Ok value) taken = same ∙ taken
    by (Err why) taken = (taken.0, same ∙ taken.1)
