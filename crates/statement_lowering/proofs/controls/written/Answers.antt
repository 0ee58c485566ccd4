use Rattle.statement_lowering.proofs.ControlWords.{written-whole}
use Rattle.statement_lowering.proofs.controls.written.Goals as goal

pub returns : goal.returns
returns c = λ way names.
    written-whole way names c.args.controls.now _ (c.in_ok-words.ensures way names) (c.error_in-on_error.ensures way names) (c.end_in-on_end.ensures way names)
