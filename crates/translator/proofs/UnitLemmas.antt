-- A unit that is lowered, and what its function is written from.
use Rattle.std.specs.Prelude.{◌≡◌, ℕ, List, map, length, Option, Some, None}
use Rattle.std.proofs.Common.{sym, ap, subst, ◌∙◌}
use Rattle.std.proofs.lemmas.List.{length-map}
use Rattle.f_tree.specs.declared.names.Options.{Options}
use Rattle.f_tree.specs.declared.units.Unit.{Unit as GivenUnit}
use Rattle.f_tree.specs.Values.{Bytes}
use Rattle.declaration_rows.specs.NameRows.{all_names}
use Rattle.lowered_text.specs.declared.text.LoweredText.{LoweredText}
use Rattle.name_facts.specs.GivenFacts.{AreNameFacts}
use Rattle.unit_contents.specs.ContentsOf.{AreContentsOf}
use Rattle.unit_translation.specs.UnitContents.{LoweredUnit}
use Rattle.unit_writer.specs.declared.heading.Heading.{Heading}
use Rattle.unit_writer.specs.ToldUnits.{bound_told, IsToldUnit}
use Rattle.translated_files.specs.TranslatedFiles.{lowered_at}
use Rattle.translator.specs.declared.unit.PlainUnit.{PlainUnit}
use Rattle.translator.specs.UnitFiles.{unit_by, kept_among, IsHeading, IsTextAt, IsTextIf, IsUnitAt, IsUnitIf}
use Rattle.translator.proofs.ToldUnits.{unit_told}

pub no_unit : (options : Options) (procedures : List Bytes) (u : GivenUnit) (text : Option LoweredText) → text ≡ None → IsTextIf options procedures u text → IsUnitIf options procedures u None
unfolding IsTextIf IsUnitIf
no_unit options procedures u None none is = is
no_unit options procedures u (Some t) none is = absurd (cc)

module _ (options : Options) (u : GivenUnit) (plain : PlainUnit) (are : AreNameFacts u plain.table) (all : map (λ name. name.now) plain.names.items ≡ all_names u) (is : IsHeading u plain.heading)
    (contents : AreContentsOf plain.table plain.text plain.contents) (given : plain.unit.now ≡ u) where
  unit_at : (found : Option LoweredUnit) → IsTextAt options u plain.text found → IsUnitAt u plain found
  unit_at found text = record {
    lowered = unit_by options u text.text;
    found = text.found;
    told = record {
      program = text.program;
      told =
          subst (λ xs. IsToldUnit plain.table xs plain.heading (unit_by options u text.text)) (sym all)
          (unit_told options u text.plain plain.table plain.heading text.text are is);
      text = text.is;
      contents = contents;
    };
    given = given;
  }

  pub unit_found : (procedures : List Bytes) (text : Option LoweredText) → text ≡ Some plain.text → IsTextIf options procedures u text → IsUnitIf options procedures u (Some plain)
  unfolding IsTextIf IsUnitIf
  unit_found procedures None some made = absurd (cc)
  unit_found procedures (Some t) some made = λ units j names. unit_at (lowered_at options units j u) (subst (λ s. IsTextAt options u s (lowered_at options units j u)) (let same : t ≡ plain.text = cc in same) (made units j names))

-- as many bounds are kept as the heading has
pub as_many_kept : (u : GivenUnit) (heading : Heading) (n : ℕ) → IsHeading u heading → n ≡ length heading.bounds.items → n ≡ length (kept_among u u.dummies)
as_many_kept u heading n is counted = counted ∙ sym (length-map heading.bounds.items bound_told) ∙ ap length is.bounds
