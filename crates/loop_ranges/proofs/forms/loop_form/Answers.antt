use Rattle.std.proofs.Common.{sym, ap, ◌∙◌}
use Rattle.loop_ranges.specs.LoopForms.{form_of}
use Rattle.loop_ranges.proofs.FormLemmas.{form-Do, form-DoWhile}
use Rattle.loop_ranges.proofs.forms.loop_form.Goals as goal

pub returns-in-Do : goal.returns-in-Do
returns-in-Do c = c.begun_by.ensures ∙ sym (ap form_of c.in-Do.is ∙ form-Do c.in-Do.label c.in-Do.field-1)

pub returns-in-DoWhile : goal.returns-in-DoWhile
returns-in-DoWhile c = c.begun_by-in-DoWhile.ensures ∙ sym (ap form_of c.in-DoWhile.is ∙ form-DoWhile c.in-DoWhile.label c.in-DoWhile.field-1)
