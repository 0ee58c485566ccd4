use Rattle.std.proofs.Common.{sym, ap, ◌∙◌}
use Rattle.c_tree.specs.FlatForm.{is_return}
use Rattle.flat_linker.proofs.ReturnForms.{return-Label}
use Rattle.flat_linker.proofs.bodies.+is_return.Goals as goal

pub returns-in-Label : goal.returns-in-Label
returns-in-Label t c = c.is_return.ensures ∙ ap is_return c.get.ensures ∙ sym (ap is_return c.in-Label.is ∙ return-Label c.in-Label.field-0 _)
