-- The prototypes of the functions are those of the tree.
use Rattle.std.proofs.Common.{◌≡◌, subst}
use Rattle.std.specs.Prelude.{IfOk}
use Rattle.prototypes.specs.TreePrototypes.{function_prototypes}
use Rattle.proto_file.proofs.TreeSteps.{result_of_its_file, result_told}
use Rattle.proto_file.proofs.tree.protos_of.Goals as goal

pub returns : goal.returns
returns c =
    let found = subst (λ fs. IfOk c.function_prototypes.result (λ protos. protos ≡ function_prototypes fs)) c.as_slice.ensures c.function_prototypes.ensures in
    record {
      functions = found;
      translated = result_of_its_file c.args.file.now c.function_prototypes.result found;
      told = result_told c.args.file.now c.function_prototypes.result found;
    }
