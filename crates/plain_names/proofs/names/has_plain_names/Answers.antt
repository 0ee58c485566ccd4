use Rattle.std.proofs.Common.{◌≡◌, ◌∙◌, arith}
use Rattle.std.proofs.lemmas.Grind.{common_steps}
use Rattle.plain_forms.specs.PlainUnits.{names_are_plain}
use Rattle.plain_names.proofs.Described.{all_plain}
use Rattle.plain_names.proofs.names.has_plain_names.Goals as goal

pub returns-then-has_own_storage : goal.returns-then-has_own_storage
returns-then-has_own_storage c =
    let plain : c.are_plain.result ≡ names_are_plain c.args.unit.now =
    c.are_plain.ensures ∙ all_plain c.args.unit.now c.args.table.now c.args.names.now c.requires.table c.requires.names in
    grind (arith, common_steps)
