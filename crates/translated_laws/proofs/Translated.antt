-- The file of a FORTRAN file of which all forms are translated is that of one plain main program, and so its text is faithful.
use Rattle.std.specs.List.{list_all}
use Rattle.std.specs.Prelude.{◌≡◌, ℕ, zero, suc, ◌+◌, ◌^◌, ◌<◌, nat_lt, nat_le, Bool, true, false, ◌&&◌, List, [], ◌∷◌, ◌++◌, length, Option, Some, None, option_map, slice_get}
use Rattle.std.proofs.Common.{refl, ap, ◌∙◌, subst}
use Rattle.std.proofs.lemmas.Bool.{leb-true, ltb-true}
use Rattle.translated_forms.specs.f_tree.declared.names.Options.{Options}
use Rattle.translated_forms.specs.f_tree.declared.refusals.Refusal.{Refusal}
use Rattle.translated_forms.specs.f_tree.declared.units.Unit.{Unit as WrittenUnit}
use Rattle.translated_forms.specs.f_tree.Values.{Bytes}
use Rattle.translated_forms.specs.f_tree.Facts.{ProgramUnit}
use Rattle.translated_forms.specs.f_tree.Setting.{IsIn, first_in, later_in}
use Rattle.translated_forms.specs.f_tree.Lines.{unit_read}
use Rattle.translated_forms.specs.declaration_rows.NameRows.{given_names}
use Rattle.translated_forms.specs.l_core.Steps.{Step, Halt, Text}
use Rattle.translated_forms.specs.lowering.Units.{lowered_unit}
use Rattle.translated_forms.specs.c_tree.declared.statement.CStmt.{CStmt}
use Rattle.translated_forms.specs.c_tree.declared.file.CFile.{CFile}
use Rattle.named_main_laws.specs.c_text.Printed.{printed}
use Rattle.translated_forms.specs.faithful.Faithful.{Faithful}
use Rattle.translated_forms.specs.faithful.UnitsAtStart.{AreBytes}
use Rattle.translated_forms.specs.main_file.MainFile.{main_file}
use Rattle.plain_mains.specs.main_programs.MainRuns.{plain_facts}
use Rattle.translated_forms.specs.main_translation.Contents.{temporaries_in, inventory_of}
use Rattle.translated_forms.specs.main_translation.Outlined.{labels_in}
use Rattle.plain_mains.specs.main_translation_laws.PlainMains.{IsPlainText}
use Rattle.plain_mains.specs.PlainUnits.{is_plain_main, PlainMainsAreTold}
use Rattle.plain_files.specs.PlainFiles.{is_spellable, EachPlainFileIsFaithful}
use Rattle.translated_forms.specs.named_mains.NamedMains.{named_body_of}
use Rattle.named_main_laws.specs.NamedBodies.{EachNamedBodyIsABody, EachMainFileIsOfBytes}
use Rattle.translated_forms.specs.LoweredForms.{statements_lower}
use Rattle.translated_forms.specs.TranslatedForms.{stop_fits, fits, file_if, file_by, unit_file, units_file, file_of, form_row, row_unless, unit_not_translated, others_not_translated, units_not_translated}
use Rattle.translated_laws.specs.FaithfulTranslations.{translation_of, EachTranslatedFileHasOne, EachTranslationIsFaithful}

-- ## Lists and options

pub left : (a b : Bool) → a && b ≡ true → a ≡ true
left true b h = refl
left false b h = absurd (cc)

pub right : (a b : Bool) → a && b ≡ true → b ≡ true
right true b h = h
right false b h = absurd (cc)

pub each_of : {A : Type 0} (test : A → Bool) (xs : List A) → list_all test xs ≡ true → (x : A) → IsIn x xs → test x ≡ true
each_of test [] all x o = elim o [ ]
each_of test (y ∷ ys) all _ first_in = left (test y) (list_all test ys) all
each_of test (y ∷ ys) all x (later_in o) = each_of test ys (right (test y) (list_all test ys) all) x o

some_same : {A : Type 0} (x y : A) → Some x ≡ Some y → x ≡ y
some_same x y h = cc

found_of : {A : Type 0} (test : A → Bool) (xs : List A) → list_all test xs ≡ true → (n : ℕ) (x : A) → slice_get xs n ≡ Some x → test x ≡ true
found_of test [] all n x at = absurd (cc)
found_of test (y ∷ ys) all zero x at = subst (λ z. test z ≡ true) (some_same y x at) (left (test y) (list_all test ys) all)
found_of test (y ∷ ys) all (suc n) x at = found_of test ys (right (test y) (list_all test ys) all) n x at

pub nothing_before : {A : Type 0} (xs ys : List A) → xs ++ ys ≡ [] → xs ≡ []
nothing_before [] ys h = refl
nothing_before (x ∷ xs) ys h = absurd (cc)

pub nothing_behind : {A : Type 0} (xs ys : List A) → xs ++ ys ≡ [] → ys ≡ []
nothing_behind [] ys h = h
nothing_behind (x ∷ xs) ys h = absurd (cc)

-- what an option is mapped from
pub record IsMapped {A B : Type 0} (f : A → B) (x : Option A) (b : B) : Type 0 where
  pub from : A
  pub was : x ≡ Some from
  pub gives : f from ≡ b

pub mapped : {A B : Type 0} (f : A → B) (x : Option A) (b : B) → option_map f x ≡ Some b → IsMapped f x b
mapped f None b h = absurd (cc)
mapped f (Some a) b h = record { from = a; was = refl; gives = some_same (f a) b h }

-- ## A file whose forms are all translated has one

-- an option that holds something
record HasOne {A : Type 0} (x : Option A) : Type 0 where
  value : A
  was : x ≡ Some value

no_row : (x : Option CFile) (r : Refusal) → row_unless x r ≡ [] → HasOne x
unfolding row_unless
no_row None r h = absurd (cc)
no_row (Some file) r h = record { value = file; was = refl }

one_unit : (options : Options) (u : WrittenUnit) (us : List WrittenUnit) → unit_not_translated options u ≡ [] → others_not_translated us ≡ [] → HasOne (units_file options (u ∷ us))
unfolding unit_not_translated others_not_translated units_file
one_unit options u [] one others = no_row (unit_file options u) (form_row u u.statements) one
one_unit options u (v ∷ us) one others = absurd (cc)

each_translated : (options : Options) (us : List WrittenUnit) → units_not_translated options us ≡ [] → HasOne (units_file options us)
unfolding units_not_translated
each_translated options [] h = absurd (cc)
each_translated options (u ∷ us) h =
    one_unit options u us (nothing_before (unit_not_translated options u) (others_not_translated us) h) (nothing_behind (unit_not_translated options u) (others_not_translated us) h)

pub translated_files_have_one : EachTranslatedFileHasOne
translated_files_have_one options tree none = let one = each_translated options tree.units none in record { file = one.value; is = one.was }

-- ## What a file is made of

-- what a test gives where it gives something
record IsGiven (b : Bool) (x : Option CFile) (file : CFile) : Type 0 where
  passed : b ≡ true
  was : x ≡ Some file

given : (b : Bool) (x : Option CFile) (file : CFile) → file_if b x ≡ Some file → IsGiven b x file
unfolding file_if
given true x file h = record { passed = refl; was = h }
given false x file h = absurd (cc)

-- a file with the lowered text and the statements that it is made of
record IsMade (unit : ProgramUnit) (lowered : Option Text) (file : CFile) : Type 0 where
  text : Text
  is_lowered : lowered ≡ Some text
  short : fits text ≡ true
  body : List CStmt
  has_body : named_body_of unit text ≡ Some body
  made : main_file (inventory_of unit text) body ≡ file

made_of : (unit : ProgramUnit) (lowered : Option Text) (file : CFile) → file_by unit lowered ≡ Some file → IsMade unit lowered file
unfolding file_by
made_of unit None file h = absurd (cc)
made_of unit (Some u) file h =
    let found = given (fits u) (option_map (main_file (inventory_of unit u)) (named_body_of unit u)) file h in
    let source = mapped (main_file (inventory_of unit u)) (named_body_of unit u) file found.was in
    record { text = u; is_lowered = refl; short = found.passed; body = source.from; has_body = source.was; made = source.gives }

-- a file of one unit
record IsOfOne (options : Options) (us : List WrittenUnit) (file : CFile) : Type 0 where
  unit : WrittenUnit
  alone : us ≡ unit ∷ []
  plain : is_plain_main options unit ≡ true
  spells : is_spellable (unit_read options unit) ≡ true
  made : IsMade (unit_read options unit) (lowered_unit (plain_facts (unit_read options unit))) file

of_one : (options : Options) (us : List WrittenUnit) (file : CFile) → units_file options us ≡ Some file → IsOfOne options us file
unfolding units_file unit_file
of_one options [] file h = absurd (cc)
of_one options (u ∷ v ∷ us) file h = absurd (cc)
of_one options (u ∷ []) file h =
    let read = unit_read options u in
    let tests = is_spellable read && statements_lower (given_names u) u.statements in
    let found = given (is_plain_main options u && tests) (file_by read (lowered_unit (plain_facts read))) file h in
    record {
      unit = u;
      alone = refl;
      plain = left (is_plain_main options u) tests found.passed;
      spells = left (is_spellable read) (statements_lower (given_names u) u.statements) (right (is_plain_main options u) tests found.passed);
      made = made_of read (lowered_unit (plain_facts read)) file found.was;
    }

-- ## Texts that fit

pub stops : (steps : List Step) → list_all stop_fits steps ≡ true → (n : ℕ) (text : Bytes) → slice_get steps n ≡ Some (Halt text) → AreBytes text × (length text < 2147483648)
unfolding stop_fits
stops steps all n text at =
    let are : Bool = list_all (λ (byte : ℕ). nat_lt byte 256) text in
    let one : are && nat_lt (length text) 2147483648 ≡ true = found_of stop_fits steps all n (Halt text) at in
    ((λ byte o. ltb-true byte 256 (each_of (λ (byte : ℕ). nat_lt byte 256) text (left are (nat_lt (length text) 2147483648) one) byte o)), ltb-true (length text) 2147483648 (right are (nat_lt (length text) 2147483648) one))

plain_text : (u : Text) → fits u ≡ true → IsPlainText u
unfolding fits
plain_text u h =
    let few_steps = nat_le (1 + length u.steps) (2 ^ 64) in
    let few_temporaries = nat_le (1 + temporaries_in u.steps) (2 ^ 64) in
    let few_marks = nat_le (1 + length u.marks) (2 ^ 64) in
    let small_labels = list_all (λ (label : ℕ). nat_lt label (2 ^ 64)) (labels_in u.steps) in
    let stops_fit = list_all stop_fits u.steps in
    let second = right few_steps (few_temporaries && (few_marks && (small_labels && stops_fit))) h in
    let third = right few_temporaries (few_marks && (small_labels && stops_fit)) second in
    let fourth = right few_marks (small_labels && stops_fit) third in
    record {
      steps = leb-true (1 + length u.steps) (2 ^ 64) (left few_steps (few_temporaries && (few_marks && (small_labels && stops_fit))) h);
      temporaries = leb-true (1 + temporaries_in u.steps) (2 ^ 64) (left few_temporaries (few_marks && (small_labels && stops_fit)) second);
      marks = leb-true (1 + length u.marks) (2 ^ 64) (left few_marks (small_labels && stops_fit) third);
      labels = λ label o. ltb-true label (2 ^ 64) (each_of (λ (k : ℕ). nat_lt k (2 ^ 64)) (labels_in u.steps) (left small_labels stops_fit fourth) label o);
      stops = stops u.steps (right small_labels stops_fit fourth);
    }

-- ## The whole

pub translations_are_faithful : PlainMainsAreTold → EachNamedBodyIsABody → EachMainFileIsOfBytes → EachPlainFileIsFaithful → EachTranslationIsFaithful
unfolding translation_of
translations_are_faithful told named bytes faithful options tree text faultless h =
    let source = mapped printed (file_of options tree) text h in
    let one = of_one options tree.units source.from source.was in
    let unit = unit_read options one.unit in
    let made = one.made in
    let short = plain_text made.text made.short in
    let body = named unit made.text made.body (told options one.unit one.plain) made.is_lowered short made.has_body in
    let strings = bytes unit made.text made.body short made.has_body in
    subst (λ printed_text. Faithful options (tree ∷ []) (printed_text ∷ [])) (ap printed made.made ∙ source.gives)
    (faithful options tree one.unit made.text made.body one.alone faultless one.plain one.spells made.is_lowered short body strings)
