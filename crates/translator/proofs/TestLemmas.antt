-- The tests of a unit, in the order in which the code asks them.
use Rattle.std.specs.List.{list_all}
use Rattle.std.specs.Prelude.{◌≡◌, Bool, true, false, ◌&&◌, List, [], ◌∷◌}
use Rattle.std.proofs.Common.{refl, sym, ap, ◌∙◌}
use Rattle.f_tree.specs.declared.names.Options.{Options}
use Rattle.f_tree.specs.declared.units.Unit.{Unit as GivenUnit}
use Rattle.f_tree.specs.Values.{Bytes}
use Rattle.f_tree.specs.Facts.{EntryPoint}
use Rattle.f_tree.specs.Reading.{name_or_none}
use Rattle.f_tree.specs.Lines.{entries_from, unit_kind, unit_read, program_of, with_ties}
use Rattle.unit_forms.specs.lowering_laws.Layout.{are_direct, has_end}
use Rattle.unit_forms.specs.plain_forms.PlainUnits.{has_none, has_own_storage, loops_fit, has_plain_lines}
use Rattle.unit_forms.specs.plain_forms.SpellableNames.{is_spellable}
use Rattle.unit_forms.specs.PlainProcedures.{may_run, heading_fits, has_no_entries, has_plain_heading, each_name_is_plain, is_plain_unit}
use Rattle.unit_forms.specs.SpellableUnits.{is_called_well, is_spellable_entry, is_spellable_unit}
use Rattle.translated_files.specs.TranslatedFiles.{procedures_are_defined}
use Rattle.translator.specs.UnitFiles.{IsPlainIf, dummy_is_spelled}
use Rattle.translator.proofs.NameLemmas.{dummies_spelled}

-- ## Truth values

abbrev all_six : Bool → Bool → Bool → Bool → Bool → Bool → Bool
all_six parts spelled heading defined direct loops = parts && (spelled && (heading && (defined && (direct && loops))))

ends_false : (q t e f : Bool) → false ≡ (q && (t && (e && (f && false))))
ends_false false t e f = refl
ends_false true false e f = refl
ends_false true true false f = refl
ends_false true true true false = refl
ends_false true true true true = refl

ends_true : (q t e f : Bool) → (q && ((t && (e && true)) && f)) ≡ (q && (t && (e && (f && true))))
ends_true false t e f = refl
ends_true true false e f = refl
ends_true true true false f = refl
ends_true true true true false = refl
ends_true true true true true = refl

behind_lines : (d z l q t e f : Bool) → (((d && (z && l)) && q) && ((t && (e && true)) && f)) ≡ (q && (t && (e && (f && ((d && z) && l)))))
behind_lines false z l q t e f = ends_false q t e f
behind_lines true false l q t e f = ends_false q t e f
behind_lines true true false q t e f = ends_false q t e f
behind_lines true true true q t e f = ends_true q t e f

in_order : (m h n s p d z l q t e x f : Bool) → (n ≡ true → x ≡ true)
    → ((m && (h && (n && (s && (p && ((d && (z && l)) && q)))))) && ((t && (e && x)) && f)) ≡ all_six (m && (h && (n && (s && (p && q))))) t e f (d && z) l
in_order false h n s p d z l q t e x f none = refl
in_order true false n s p d z l q t e x f none = refl
in_order true true false s p d z l q t e x f none = refl
in_order true true true false p d z l q t e x f none = refl
in_order true true true true false d z l q t e x f none = refl
in_order true true true true true d z l q t e x f none = ap (λ y. ((d && (z && l)) && q) && ((t && (e && y)) && f)) (none refl) ∙ behind_lines d z l q t e f

-- ## A unit

pub no_entries : {A : Type 0} (xs : List A) → has_none xs ≡ true → xs ≡ []
unfolding has_none
no_entries [] none = refl
no_entries (x ∷ xs) none = absurd (cc)

none_unspelled : (test : EntryPoint → Bool) (es : List EntryPoint) → has_none es ≡ true → list_all test es ≡ true
none_unspelled test es none = ap (list_all test) (no_entries es none)

module _ (procedures : List Bytes) (u : GivenUnit) where
  abbrev parts_test : Bool
  parts_test = may_run (unit_kind u) && (heading_fits (unit_kind u) u.dummies && (has_no_entries u && (has_own_storage u && (has_plain_heading u && each_name_is_plain u))))

  abbrev spelled_test : Options → Bool
  spelled_test options = is_spellable (unit_read options u)

  abbrev heading_test : Bool
  heading_test = is_called_well (unit_kind u) (name_or_none u.name) && list_all dummy_is_spelled u.dummies

  abbrev defined_test : Bool
  defined_test = procedures_are_defined procedures u

  abbrev lines_test : Options → Bool
  lines_test options = are_direct (unit_read options u).lines && has_end (unit_read options u).lines

  abbrev loops_test : Options → Bool
  loops_test options = loops_fit (unit_read options u)

  abbrev others_spelled : Bool
  others_spelled = list_all (is_spellable_entry (unit_kind u)) (entries_from 0 u.statements)

  spelled_whole : (options : Options) → is_spellable_unit (unit_read options u) ≡ (spelled_test options && (heading_test && others_spelled))
  unfolding is_spellable_unit is_spellable_entry unit_read with_ties program_of
  spelled_whole options =
      ap (λ b. spelled_test options && ((is_called_well (unit_kind u) (name_or_none u.name) && b) && others_spelled)) (sym (dummies_spelled u.dummies))

  tests : (options : Options) → (is_plain_unit options u && (is_spellable_unit (unit_read options u) && procedures_are_defined procedures u))
      ≡ all_six parts_test (spelled_test options) heading_test defined_test (lines_test options) (loops_test options)
  unfolding is_plain_unit has_plain_lines has_no_entries
  tests options =
      ap (λ b. is_plain_unit options u && (b && defined_test)) (spelled_whole options)
      ∙ in_order (may_run (unit_kind u)) (heading_fits (unit_kind u) u.dummies) (has_no_entries u) (has_own_storage u) (has_plain_heading u) (are_direct (unit_read options u).lines)
      (has_end (unit_read options u).lines) (loops_fit (unit_read options u)) (each_name_is_plain u) (is_spellable (unit_read options u)) heading_test others_spelled defined_test
      (none_unspelled (is_spellable_entry (unit_kind u)) (entries_from 0 u.statements))

  pub parts_fail : (a : Bool) → a ≡ parts_test → a ≡ false → IsPlainIf procedures u false
  parts_fail a parts is = record {
    is = λ options. sym (tests options ∙ ap (λ b. all_six b (spelled_test options) heading_test defined_test (lines_test options) (loops_test options)) (sym parts ∙ is));
  }

  passed : (a : Bool) → a ≡ parts_test → a ≡ true → (options : Options) → (is_plain_unit options u && (is_spellable_unit (unit_read options u) && procedures_are_defined procedures u))
      ≡ all_six true (spelled_test options) heading_test defined_test (lines_test options) (loops_test options)
  passed a parts one options = tests options ∙ ap (λ b. all_six b (spelled_test options) heading_test defined_test (lines_test options) (loops_test options)) (sym parts ∙ one)

  pub spelling_fails : (a b : Bool) → a ≡ parts_test → a ≡ true → ((options : Options) → b ≡ spelled_test options) → b ≡ false → IsPlainIf procedures u false
  spelling_fails a b parts one spelled is = record {
    is = λ options. sym (passed a parts one options ∙ ap (λ c. all_six true c heading_test defined_test (lines_test options) (loops_test options)) (sym (spelled options) ∙ is));
  }

  spelled_passed : (a b : Bool) → a ≡ parts_test → a ≡ true → ((options : Options) → b ≡ spelled_test options) → b ≡ true → (options : Options)
      → (is_plain_unit options u && (is_spellable_unit (unit_read options u) && procedures_are_defined procedures u))
      ≡ all_six true true heading_test defined_test (lines_test options) (loops_test options)
  spelled_passed a b parts one spelled two options =
      passed a parts one options ∙ ap (λ c. all_six true c heading_test defined_test (lines_test options) (loops_test options)) (sym (spelled options) ∙ two)

  pub heading_fails : (a b c : Bool) → a ≡ parts_test → a ≡ true → ((options : Options) → b ≡ spelled_test options) → b ≡ true → c ≡ heading_test → c ≡ false → IsPlainIf procedures u false
  heading_fails a b c parts one spelled two heading is = record {
    is = λ options. sym (spelled_passed a b parts one spelled two options ∙ ap (λ d. all_six true true d defined_test (lines_test options) (loops_test options)) (sym heading ∙ is));
  }

  heading_passed : (a b c : Bool) → a ≡ parts_test → a ≡ true → ((options : Options) → b ≡ spelled_test options) → b ≡ true → c ≡ heading_test → c ≡ true → (options : Options)
      → (is_plain_unit options u && (is_spellable_unit (unit_read options u) && procedures_are_defined procedures u)) ≡ all_six true true true defined_test (lines_test options) (loops_test options)
  heading_passed a b c parts one spelled two heading three options =
      spelled_passed a b parts one spelled two options ∙ ap (λ d. all_six true true d defined_test (lines_test options) (loops_test options)) (sym heading ∙ three)

  module _ (a b c : Bool) (parts : a ≡ parts_test) (one : a ≡ true) (spelled : (options : Options) → b ≡ spelled_test options) (two : b ≡ true) (heading : c ≡ heading_test) (three : c ≡ true) where
    pub names_fail : (d : Bool) → d ≡ defined_test → d ≡ false → IsPlainIf procedures u false
    names_fail d defined is = record {
      is = λ options. sym (heading_passed a b c parts one spelled two heading three options ∙ ap (λ e. all_six true true true e (lines_test options) (loops_test options)) (sym defined ∙ is));
    }

    names_passed : (d : Bool) → d ≡ defined_test → d ≡ true → (options : Options)
        → (is_plain_unit options u && (is_spellable_unit (unit_read options u) && procedures_are_defined procedures u)) ≡ all_six true true true true (lines_test options) (loops_test options)
    names_passed d defined four options =
        heading_passed a b c parts one spelled two heading three options ∙ ap (λ e. all_six true true true e (lines_test options) (loops_test options)) (sym defined ∙ four)

    pub lines_fail : (d e : Bool) → d ≡ defined_test → d ≡ true → ((options : Options) → e ≡ lines_test options) → e ≡ false → IsPlainIf procedures u false
    lines_fail d e defined four direct is = record {
      is = λ options. sym (names_passed d defined four options ∙ ap (λ f. all_six true true true true f (loops_test options)) (sym (direct options) ∙ is));
    }

    pub loops_decide : (d e : Bool) → d ≡ defined_test → d ≡ true → ((options : Options) → e ≡ lines_test options) → e ≡ true → (f : Bool) → ((options : Options) → f ≡ loops_test options)
        → IsPlainIf procedures u f
    loops_decide d e defined four direct five f loops = record {
      is = λ options. loops options ∙ sym (names_passed d defined four options ∙ ap (λ g. all_six true true true true g (loops_test options)) (sym (direct options) ∙ five));
    }
