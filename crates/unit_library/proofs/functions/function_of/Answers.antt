use Rattle.unit_library.proofs.ArgumentLaws.{form-at}
use Rattle.unit_library.proofs.functions.function_of.Goals as goal

pub returns : goal.returns
returns c = form-at c.functions.result.now c.args.number c.function_at.result c.functions.ensures c.function_at.ensures
