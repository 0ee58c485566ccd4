use Rattle.translate_command.proofs.Endings.{was_put, not_in_form}
use Rattle.translate_command.proofs.command.translate_source.Goals as goal

pub returns-in-Err : goal.returns-in-Err
returns-in-Err g c = λ files named some.
    not_in_form c.args.options.now c.args.job.now files c.args.read.now.named.names c.args.read.now.included c.args.forms.now c.args.tos c.as_slice-checked.result.now c.in-Ok.made
    (g.H.Shelf.state c.args.shelf.now) c.in-Err.why c.as_slice-checked.ensures (c.in-Ok.ensures.done files named some) c.in-Err.ensures.err

pub returns : goal.returns
returns g c = λ files named some.
    was_put c.args.options.now c.args.job.now files c.args.read.now.named.names c.args.read.now.included c.args.forms.now c.args.tos c.as_slice-olds.result.now c.in-Ok.made
    (g.H.Shelf.state c.args.shelf.now) (g.H.Shelf.state c.put_outputs.new.shelf) c.put_outputs.result c.as_slice-olds.ensures (c.in-Ok.ensures.done files named some)
    c.in-Ok-check_texts.ensures.ok c.put_outputs.ensures
