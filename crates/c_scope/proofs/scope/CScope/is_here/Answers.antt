use Rattle.std.proofs.Common.{◌∙◌}
use Rattle.c_scope.proofs.ScopeLemmas.{here-has}
use Rattle.c_scope.proofs.scope.CScope.is_here.Goals as goal

pub returns : goal.returns
returns c = c.contains_key.ensures ∙ here-has c.args.self.now c.args.name.now
