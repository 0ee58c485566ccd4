use Rattle.std.proofs.Common.{sym, ap, ◌∙◌}
use Rattle.std.specs.List.{list_any}
use Rattle.f_tree.specs.Values.{Bytes}
use Rattle.f_tree.specs.Uses.{is_among}
use Rattle.f_tree.specs.declared.statements.ConstantDefinition.{ConstantDefinition}
use Rattle.name_table.specs.Named.{names_in}
use Rattle.statement_order.specs.BeforeSteps.{constant_names}
use Rattle.statement_order.proofs.BeforeForms.{defines-Parameter, defines-other}
use Rattle.statement_order.proofs.before.defines_used.Goals as goal

pub returns-in-Parameter : goal.returns-in-Parameter
returns-in-Parameter c =
    let used = names_in c.args.used.now in
    c.any_used.ensures ∙ ap (list_any (λ (d : ConstantDefinition). is_among d.name used)) c.as_slice.ensures ∙ sym (defines-Parameter used c.in-Parameter.items)
    ∙ ap (λ b. list_any (λ (x : Bytes). is_among x used) (constant_names b)) (sym c.in-Parameter.is)

pub returns-in_default : goal.returns-in_default
returns-in_default c = defines-other (names_in c.args.used.now) c.args.body.now c.in_default.not-Parameter
