use Rattle.std.proofs.Common.{◌++◌, ap, ◌∙◌}
use Rattle.unit_writer.proofs.LocalLaws.{calls_behind}
use Rattle.unit_writer.proofs.Walks.{put_fifth}
use Rattle.unit_writer.proofs.locals.add_calls.Goals as goal

pub returns : goal.returns
returns c =
    put_fifth c.args.locals.now.items _ _ _ _ _ _ _ _ _ _ c.in_ok-add_start.ensures c.in_ok-add_output_item.ensures c.in_ok-add_finish.ensures c.in_ok-add_stop.ensures c.in_ok-add_functions.ensures
    ∙ ap (λ ys. c.args.locals.now.items ++ ys) (calls_behind c.args.calls.now _ c.deref.ensures.value)
