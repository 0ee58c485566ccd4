-- The laws of plain main programs, of their files and of printed texts, put together.
use Rattle.std.specs.List.{list_all}
use Rattle.std.specs.Prelude.{◌≡◌, ℕ, ◌≤◌, Bool, true, List, [], ◌∷◌, ◌++◌, map, Option, Some, None}
use Rattle.std.proofs.Common.{sym, subst}
use Rattle.std.proofs.lemmas.Bool.{leb-true}
use Rattle.fortran_totality.specs.f_tree.declared.names.Options.{Options}
use Rattle.fortran_totality.specs.f_tree.declared.refusals.Refusal.{Refusal}
use Rattle.fortran_totality.specs.f_tree.declared.units.File.{File}
use Rattle.fortran_totality.specs.f_tree.declared.units.Unit.{Unit as WrittenUnit}
use Rattle.fortran_totality.specs.f_tree.Facts.{Bounds, Member, ProgramUnit}
use Rattle.fortran_totality.specs.f_tree.Valuing.{elements_of}
use Rattle.fortran_totality.specs.f_tree.Holding.{EachRunIsMeant}
use Rattle.fortran_totality.specs.f_tree.Lines.{unit_read}
use Rattle.fortran_totality.specs.f_tree.Meaning.{units_in, units_of}
use Rattle.fortran_totality.specs.f_tree.Setting.{IsIn, first_in, later_in, IsSetting}
use Rattle.fortran_totality.specs.f_tree.WellFormed.{AreWellFormed}
use Rattle.c_spelling.specs.c_tree.Tokens.{begins_with, is_letter}
use Rattle.c_spelling.specs.c_text.Printed.{printed}
use Rattle.c_spelling.proofs.Files.{file_spelled}
use Rattle.declaration_laws.specs.declaration_rows.SetRows.{Faults}
use Rattle.declaration_laws.proofs.SetFits.{sets_formed}
use Rattle.main_faithfulness.specs.main_translation.Contents.{count_by}
use Rattle.main_faithfulness.specs.main_translation_laws.PlainMains.{IsPlainMain}
use Rattle.main_faithfulness.specs.main_programs.MainRuns.{plain_setting}
use Rattle.main_faithfulness.specs.MainFaithful.{IsMeant}
use Rattle.main_faithfulness.proofs.Settings.{plain_is_setting}
use Rattle.main_faithfulness.proofs.Faithfulness.{plain_mains_are_faithful}
use Rattle.main_file_texts.specs.WellFormedMains.{IsSpellable}
use Rattle.main_file_texts.proofs.Files.{main_files_are_well_formed}
use Rattle.plain_mains.proofs.PlainUnits.{plain_mains_are_told}
use Rattle.plain_files.specs.PlainFiles.{has_element, is_spellable_name, is_spellable, made_file, EachPlainFileIsFaithful}
use Rattle.c_spelling.proofs.c_laws.TokenSpellings.{and-first, and-second}

each_of : {A : Type 0} (test : A → Bool) (xs : List A) → list_all test xs ≡ true → (x : A) → IsIn x xs → test x ≡ true
each_of test [] all x o = elim o [ ]
each_of test (y ∷ ys) all _ first_in = and-first (test y) (list_all test ys) all
each_of test (y ∷ ys) all x (later_in o) = each_of test ys (and-second (test y) (list_all test ys) all) x o

-- ## Names

pub named : (unit : ProgramUnit) → is_spellable unit ≡ true → (m : Member) → IsIn m unit.stored → is_spellable_name unit m ≡ true
unfolding is_spellable
named unit is m o = each_of (is_spellable_name unit) unit.stored is m o

some_element : (count : Option ℕ) (n : ℕ) → has_element count ≡ true → count ≡ Some n → 1 ≤ n
unfolding has_element
some_element None n is same = absurd (cc)
some_element (Some m) n is same = let here : m ≡ n = cc in subst (λ k. 1 ≤ k) here (leb-true 1 m is)

array_element : (bs : List Bounds) (n : ℕ) → has_element (elements_of bs) ≡ true → count_by bs ≡ Some n → 1 ≤ n
unfolding count_by
array_element [] n is same = absurd (cc)
array_element (b ∷ bs) n is same = some_element (elements_of (b ∷ bs)) n is same

spellable : (unit : ProgramUnit) → is_spellable unit ≡ true → IsSpellable unit
unfolding is_spellable_name
spellable unit is = record {
  letters = λ m o. and-first (begins_with is_letter m.name) (has_element (elements_of (unit.attribute m.name).bounds)) (named unit is m o);
  elements = λ m n o count. array_element (unit.attribute m.name).bounds n (and-second (begins_with is_letter m.name) (has_element (elements_of (unit.attribute m.name).bounds)) (named unit is m o)) count;
}

-- ## The set of one file

one_unit : (options : Options) (tree : File) (u : WrittenUnit) → tree.units ≡ u ∷ [] → units_in options (tree ∷ []) ≡ unit_read options u ∷ []
unfolding units_in
one_unit options tree u alone = λ i. map (unit_read options) (alone i) ++ []

meant : EachRunIsMeant → (options : Options) (tree : File) (u : WrittenUnit) → tree.units ≡ u ∷ [] → ((r : Refusal) → Faults options (record { files = tree ∷ [] }) r → ⊥) → IsPlainMain (unit_read options u) → IsMeant (unit_read options u)
unfolding units_of
meant runs options tree u alone faultless plain units n =
    let unit = unit_read options u in
    let same = one_unit options tree u alone in
    let setting : IsSetting (unit ∷ []) (plain_setting unit) = plain_is_setting unit plain in
    let formed = sets_formed options (record { files = tree ∷ [] }) (plain_setting unit) (subst (λ S. IsSetting S (plain_setting unit)) (sym same) setting) faultless in
    runs (plain_setting unit) (unit ∷ []) units n (subst (λ S. AreWellFormed (plain_setting unit) S) same formed)

pub plain_files_are_faithful : EachRunIsMeant → EachPlainFileIsFaithful
plain_files_are_faithful runs options tree u text body alone faultless is spells lowered short made bytes =
    let unit = unit_read options u in
    let plain = plain_mains_are_told options u is in
    let formed = main_files_are_well_formed unit text body plain (spellable unit spells) lowered short made in
    plain_mains_are_faithful options tree unit text body (printed (made_file unit text body)) (one_unit options tree u alone) plain lowered short made (file_spelled (made_file unit text body) bytes formed)
    (meant runs options tree u alone faultless plain)
