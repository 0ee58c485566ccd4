use Rattle.std.specs.List.{list_all}
use Rattle.std.proofs.Common.{◌&&◌, nat_lt, length, sym, ap, ◌∙◌}
use Rattle.lowered_tree.specs.Shapes.{step_of}
use Rattle.translator.specs.FittingSteps.{step_fits}
use Rattle.translator.proofs.FitLemmas.{fits-Keep, fits-Compute, fits-CallFor, fits-Jump, fits-Way, fits-Halt, fits-other}
use Rattle.translator.proofs.fitting.step_fits.Goals as goal

pub returns-in-Keep : goal.returns-in-Keep
returns-in-Keep c = fits-Keep c.in-Keep.temporary c.in-Keep.field-1 ∙ sym (ap (λ st. step_fits (step_of st)) c.in-Keep.is)

pub returns-in-Compute : goal.returns-in-Compute
returns-in-Compute c = fits-Compute c.in-Compute.temporary c.in-Compute.field-1 c.in-Compute.field-2 ∙ sym (ap (λ st. step_fits (step_of st)) c.in-Compute.is)

pub returns-in-CallFor : goal.returns-in-CallFor
returns-in-CallFor c = fits-CallFor c.in-CallFor.temporary c.in-CallFor.field-1 c.in-CallFor.field-2 ∙ sym (ap (λ st. step_fits (step_of st)) c.in-CallFor.is)

pub returns-in-Jump : goal.returns-in-Jump
returns-in-Jump c = c.label_fits.ensures ∙ fits-Jump c.in-Jump.label ∙ sym (ap (λ st. step_fits (step_of st)) c.in-Jump.is)

pub returns-in-Way : goal.returns-in-Way
returns-in-Way c = c.label_fits-in-Way.ensures ∙ fits-Way c.in-Way.label ∙ sym (ap (λ st. step_fits (step_of st)) c.in-Way.is)

pub returns-in-Halt : goal.returns-in-Halt
returns-in-Halt c =
    c.stop_fits.ensures ∙ ap (λ text. list_all (λ byte. nat_lt byte 256) text && nat_lt (length text) 2147483648) c.as_slice.ensures
    ∙ fits-Halt c.in-Halt.text ∙ sym (ap (λ st. step_fits (step_of st)) c.in-Halt.is)

pub returns-in_default : goal.returns-in_default
returns-in_default c = fits-other c.args.step.now c.in_default.not-Keep c.in_default.not-Compute c.in_default.not-CallFor c.in_default.not-Jump c.in_default.not-Way c.in_default.not-Halt
