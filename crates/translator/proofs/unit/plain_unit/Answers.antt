use Rattle.std.proofs.Common.{refl, ◌∙◌}
use Rattle.name_table.specs.Named.{names_in}
use Rattle.translator.proofs.UnitLemmas.{no_unit, unit_found, as_many_kept}
use Rattle.translator.proofs.unit.plain_unit.Goals as goal

pub returns-in_default : goal.returns-in_default
returns-in_default c = no_unit c.args.options (names_in c.args.procedures.now) c.args.unit.now _ c.in_default.is c.in_ok-found.ensures

pub returns : goal.returns
returns c =
    unit_found c.args.options c.args.unit.now _ c.in_ok-table.ensures c.in_ok-names.ensures.names c.in_ok-names.ensures.heading c.in_ok-contents.ensures refl (names_in c.args.procedures.now) _
    c.in-Some.is c.in_ok-found.ensures

pub text_of-requires-clause-first : goal.text_of-requires-clause-first
text_of-requires-clause-first c = as_many_kept c.args.unit.now _ c.len-first.result c.in_ok-names.ensures.heading
    (c.len-first.ensures ∙ c.in_ok-names.field-0.heading.bounds.ok.0)
