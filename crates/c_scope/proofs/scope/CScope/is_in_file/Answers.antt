use Rattle.std.proofs.Common.{◌∙◌}
use Rattle.c_scope.proofs.ScopeLemmas.{file-has}
use Rattle.c_scope.proofs.scope.CScope.is_in_file.Goals as goal

pub returns : goal.returns
returns c = c.contains_key.ensures ∙ file-has c.args.self.now c.args.name.now
