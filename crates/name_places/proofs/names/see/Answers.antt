use Rattle.std.proofs.Common.{◌∷◌, [], map, ap, sym, ◌∙◌}
use Rattle.name_table.specs.Named.{texts}
use Rattle.name_table.proofs.SetLemmas.{texts_more}
use Rattle.name_places.proofs.SeenLemmas.{seen_already, seen_first}
use Rattle.name_places.proofs.names.see.Goals as goal

pub returns-then-has-clause-names : goal.returns-then-has-clause-names
returns-then-has-clause-names c = seen_already c.args.seen.now _ c.args.name.now c.has.result c.requires c.has.ensures c.if-has.true

pub returns-clause-names : goal.returns-clause-names
returns-clause-names c =
    seen_first c.args.seen.now _ _ c.args.name.now c.has.result c.requires c.has.ensures c.if-has.false (ap texts c.in_ok-push.ensures.items ∙ texts_more c.args.names.now.items c.args.name)
