-- The lowered text of a unit.
use Rattle.std.specs.Prelude.{◌≡◌, ℕ, Bool, true, false, ◌&&◌, List, map, length, Option, Some, None, Result, Ok, Err, IfOk, if◌then◌else◌}
use Rattle.std.proofs.Common.{refl, sym, ap, subst, ◌∙◌}
use Rattle.std.proofs.lemmas.Bool.{and_parts}
use Rattle.f_tree.specs.declared.names.Options.{Options}
use Rattle.f_tree.specs.declared.units.Unit.{Unit as GivenUnit}
use Rattle.f_tree.specs.Values.{Bytes}
use Rattle.f_tree.specs.Facts.{Facts}
use Rattle.f_tree.specs.Lines.{unit_read, with_ties, program_of}
use Rattle.f_tree.specs.Meaning.{facts_at}
use Rattle.declaration_rows.specs.NameRows.{given_names}
use Rattle.lowered_tree.specs.l_core.Steps.{Step, Text}
use Rattle.expression_lowering.specs.lowering.Units.{lines_code, text_with, if_called_well, lowered_unit}
use Rattle.lowered_text.specs.declared.text.LoweredText.{LoweredText}
use Rattle.name_facts.specs.declared.table.NameFacts.{NameFacts}
use Rattle.name_facts.specs.GivenFacts.{AreNameFacts}
use Rattle.unit_lowering.specs.statement_places.StatementPlaces as placed
use Rattle.translated_forms.specs.LoweredForms.{statements_lower}
use Rattle.unit_forms.specs.OwnSetting.{own_setting}
use Rattle.unit_forms.specs.PlainProcedures.{is_plain_unit}
use Rattle.unit_forms.specs.SpellableUnits.{is_spellable_unit}
use Rattle.unit_lowering.specs.LoweredUnits.{IsTextOf, IsLoweredUnit}
use Rattle.unit_translation.specs.behind_bounds.BehindBounds.{behind}
use Rattle.unit_translation.specs.UnitContents.{LoweredUnit, whole_text}
use Rattle.lowered_text.specs.Texts.{IsText}
use Rattle.translated_files.specs.TranslatedFiles.{procedure_names, procedures_are_defined, passes_tests, lowered_by, lowered_at}
use Rattle.translator.specs.FittingSteps.{FitsIf}
use Rattle.translator.specs.UnitFiles.{use_in, kept_among, unit_by, IsPlainIf, IsLoweredIf, IsFittingIf, IsWholeIf, IsTextAt, IsTextIf}
use Rattle.translator.proofs.Agreement.{same_statements}
use Rattle.translator.proofs.ToldUnits.{facts_given, lines_read, bounds_read}

-- what follows of what a call gives
pub if_ok : {A E : Type 0} (P Q : A → Type 0) (r : Result A E) → ((a : A) → P a → Q a) → IfOk r P → IfOk r Q
if_ok P Q (Ok a) step h = step a h
if_ok P Q (Err e) step h = h

-- ## Tests

no_text : (a s d l : Bool) (x : Option LoweredUnit) → (a && (s && d)) ≡ false → (if a && (s && (d && l)) then x else None) ≡ None
no_text true true true l x is = absurd (cc)
no_text true true false l x is = refl
no_text true false d l x is = refl
no_text false s d l x is = refl

unlowered_text : (a s d l : Bool) (x : Option LoweredUnit) → l ≡ false → (if a && (s && (d && l)) then x else None) ≡ None
unlowered_text true true true true x is = absurd (cc)
unlowered_text true true true false x is = refl
unlowered_text true true false l x is = refl
unlowered_text true false d l x is = refl
unlowered_text false s d l x is = refl

some_text : (a s d l : Bool) (x : Option LoweredUnit) → (a && (s && d)) ≡ true → l ≡ true → (if a && (s && (d && l)) then x else None) ≡ x
some_text true true true true x one two = refl
some_text true true true false x one two = absurd (cc)
some_text true true false l x one two = absurd (cc)
some_text true false d l x one two = absurd (cc)
some_text false s d l x one two = absurd (cc)

-- ## A lowered text

abbrev facts_or : Facts → Option Text → Facts
facts_or c None = c
facts_or c (Some t) = t.facts

facts_kept : (c : Facts) (o : Option (List Step)) → facts_or c (text_with c o) ≡ c
unfolding text_with
facts_kept c None = refl
facts_kept c (Some steps) = refl

-- a lowered text is that of its unit
same_facts : (c : Facts) (t : Text) → lowered_unit c ≡ Some t → t.facts ≡ c
unfolding lowered_unit
same_facts c t is = ap (facts_or c) (sym is) ∙ facts_kept c (if_called_well (lines_code c.program 0 c.program.lines))

module _ (options : Options) (procedures : List Bytes) (u : GivenUnit) where
  abbrev lowers : Bool
  lowers = statements_lower (given_names u) u.statements

  tests_by : (units : List GivenUnit) → procedure_names units ≡ procedures
      → (is_plain_unit options u && (is_spellable_unit (unit_read options u) && procedures_are_defined (procedure_names units) u))
      ≡ (is_plain_unit options u && (is_spellable_unit (unit_read options u) && procedures_are_defined procedures u))
  tests_by units names = ap (λ xs. is_plain_unit options u && (is_spellable_unit (unit_read options u) && procedures_are_defined xs u)) names

  pub text_of_other : (b : Bool) → b ≡ false → IsPlainIf procedures u b → IsTextIf options procedures u None
  unfolding IsTextIf lowered_at passes_tests
  text_of_other b is plain units j names =
      no_text (is_plain_unit options u) (is_spellable_unit (unit_read options u)) (procedures_are_defined (procedure_names units) u) lowers _
      (tests_by units names ∙ sym (plain.is options) ∙ is)

  unlowered : (table : NameFacts) → AreNameFacts u table → placed.statements_lower table u.statements ≡ false → IsTextIf options procedures u None
  unfolding IsTextIf lowered_at passes_tests
  unlowered table are none units j names =
      unlowered_text (is_plain_unit options u) (is_spellable_unit (unit_read options u)) (procedures_are_defined (procedure_names units) u) lowers _
      (sym (same_statements table (given_names u) (facts_given u table are) u.statements) ∙ none)

  pub text_of_unlowered : (table : NameFacts) (text : Option LoweredText) → AreNameFacts u table → text ≡ None → IsLoweredIf table options.onetrip u.statements text
      → IsTextIf options procedures u None
  unfolding IsLoweredIf
  text_of_unlowered table None are is lowered = unlowered table are lowered
  text_of_unlowered table (Some t) are is lowered = absurd (cc)

  module _ (table : NameFacts) (t : LoweredText) (are : AreNameFacts u table) (plain : IsPlainIf procedures u true) (lowered : IsLoweredUnit table options.onetrip u.statements t)
      (units : List GivenUnit) (j : ℕ) (names : procedure_names units ≡ procedures) where
    abbrev facts : Facts
    facts = facts_at (own_setting (map (unit_read options) units)) j (Some (unit_read options u))

    text : IsTextOf facts t
    unfolding facts_at
    text = lowered.meant facts (given_names u) (lines_read options u) (facts_given u table are)

    program : text.text.facts.program ≡ unit_read options u
    unfolding facts_at
    program = ap (λ (c : Facts). c.program) (same_facts facts text.text text.lowered)

    by_text : lowered_at options units j u ≡ lowered_by options u (Some text.text)
    unfolding lowered_at passes_tests
    by_text =
        some_text (is_plain_unit options u) (is_spellable_unit (unit_read options u)) (procedures_are_defined (procedure_names units) u) lowers (lowered_by options u (lowered_unit facts))
        (tests_by units names ∙ sym (plain.is options)) (sym (same_statements table (given_names u) (facts_given u table are) u.statements) ∙ lowered.lowers)
        ∙ ap (lowered_by options u) text.lowered

    abbrev made : LoweredUnit
    made = unit_by options u text.text

    is_plain : is_plain_unit options u ≡ true
    is_plain = (and_parts (is_plain_unit options u) (is_spellable_unit (unit_read options u) && procedures_are_defined procedures u) (sym (plain.is options))).0

    -- behind so many bounds as the unit keeps
    module _ (first : ℕ) (as_many : first ≡ length (kept_among u u.dummies)) (whole : LoweredText) (is : (x : Text) → IsText t x → IsText whole (behind first x)) where
      whole_is : IsText whole (whole_text made)
      whole_is =
          subst (λ n. IsText whole (behind n text.text)) (as_many ∙ sym (ap length (bounds_read options u is_plain)))
          (is text.text text.is)

      by_fit : (b : Bool) → FitsIf whole b → lowered_at options units j u ≡ (if b then Some made else None)
      unfolding lowered_by use_in unit_read with_ties program_of given_names
      by_fit b fits = by_text ∙ ap (λ c. if c then Some made else None) (sym (fits.is (whole_text made) whole_is))

      at_text : FitsIf whole true → IsTextAt options u whole (lowered_at options units j u)
      at_text fits = record { plain = is_plain; text = text.text; found = by_fit true fits; is = whole_is; program = program }

  by_fitting : (table : NameFacts) (t : LoweredText) (first : ℕ) (whole : LoweredText) (found : Option LoweredText) → AreNameFacts u table → IsPlainIf procedures u true →
      IsLoweredUnit table options.onetrip u.statements t → first ≡ length (kept_among u u.dummies) → ((x : Text) → IsText t x → IsText whole (behind first x)) → IsFittingIf whole found →
      IsTextIf options procedures u found
  unfolding IsFittingIf IsTextIf
  by_fitting table t first whole None are plain lowered as_many is fitting = λ units j names. by_fit table t are plain lowered units j names first as_many whole is false fitting
  by_fitting table t first whole (Some other) are plain lowered as_many is fitting = λ units j names.
      subst (λ s. IsTextAt options u s (lowered_at options units j u)) (sym fitting.same) (at_text table t are plain lowered units j names first as_many whole is fitting.fits)

  pub text_of_lowered : (table : NameFacts) (b : Bool) (lowering : Option LoweredText) (t : LoweredText) (first : ℕ) (found : Option LoweredText) → AreNameFacts u table → b ≡ true →
      IsPlainIf procedures u b → lowering ≡ Some t → IsLoweredIf table options.onetrip u.statements lowering → first ≡ length (kept_among u u.dummies) → IsWholeIf first t found →
      IsTextIf options procedures u found
  unfolding IsLoweredIf
  text_of_lowered table b lowering t first found are is plain some lowered as_many all =
      by_fitting table t first all.whole found are (subst (IsPlainIf procedures u) is plain) (subst (IsLoweredIf table options.onetrip u.statements) some lowered) as_many all.is all.fitting
