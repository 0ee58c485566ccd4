use Rattle.std.specs.Prelude.{◌≡◌, List, Err}
use Rattle.std.proofs.Common.{ap, rules, subst, sym, ◌∙◌}
use Rattle.f_tree.specs.declared.refusals.Fail.TheVariants as fail
use Rattle.name_table.specs.Named.{names_in}
use Rattle.translator.specs.declared.unit.PlainUnit.{PlainUnit}
use Rattle.translator.specs.LoweredFiles.{EachIsKnown, AreTranslatedUnits, AreWrittenFiles, WereLowered, units_given}
use Rattle.translator.proofs.WholeLemmas.{units_refused, units_lowered, units_known, units_translated, none_translated}
use Rattle.translator.proofs.files.translated.Goals as goal

pub returns-in_err-plain : goal.returns-in_err-plain
returns-in_err-plain c =
    subst (AreTranslatedUnits c.args.options c.args.files.now) (sym (let e : c.from_residual-in_err-plain.result ≡ Err c.in_err-plain.field-0.0 = search rules in e))
    (units_refused c.args.options c.args.files.now (names_in c.in_ok-procedures.procedures) c.in_err-plain.field-0.0 (sym c.in_ok-procedures.ensures.names) c.in_err-plain.ensures)

pub written-requires : goal.written-requires
written-requires c =
    let were : WereLowered c.args.options c.args.files.now c.in_ok-plain.plain.items =
    units_lowered c.args.options c.args.files.now (names_in c.in_ok-procedures.procedures) c.in_ok-plain.plain (sym c.in_ok-procedures.ensures.names) c.in_ok-plain.ensures in
    record {
      known = subst EachIsKnown (sym c.as_slice.ensures.value) (units_known c.args.options c.args.files.now c.in_ok-plain.plain.items were);
      given = ap units_given c.as_slice.ensures.value ∙ were.given;
    }

pub returns : goal.returns
returns c =
    units_translated c.args.options c.args.files.now c.in_ok-plain.plain.items c.written.result
    (units_lowered c.args.options c.args.files.now (names_in c.in_ok-procedures.procedures) c.in_ok-plain.plain (sym c.in_ok-procedures.ensures.names) c.in_ok-plain.ensures)
    (subst (λ (ps : List PlainUnit). AreWrittenFiles c.args.files.now ps c.written.result) c.as_slice.ensures.value c.written.ensures)

pub returns-in_err-procedures : goal.returns-in_err-procedures
returns-in_err-procedures c = none_translated c.args.options c.args.files.now c.from_residual.result (let e : c.from_residual.result ≡ Err fail.NoMemory = search rules in e)
