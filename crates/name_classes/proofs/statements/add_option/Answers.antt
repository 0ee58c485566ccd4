use Rattle.std.proofs.Common.{sym, ap, option_copied}
use Rattle.name_uses.proofs.ArrayLemmas.{adds_none, adds_one}
use Rattle.name_classes.proofs.StatementForms.{option-Some, option-None}
use Rattle.name_classes.proofs.statements.add_option.Goals as goal

pub returns-in-Some : goal.returns-in-Some
returns-in-Some c =
    adds_one c.add.result c.args.names.now c.add.new.self _ _ (sym (option-Some _ _ (ap option_copied c.in-Some.is))) c.add.ensures.names c.add.ensures.is_set

pub returns-in-None : goal.returns-in-None
returns-in-None c = adds_none c.args.names.now _ c.requires (option-None _ (ap option_copied c.in-None.is))
