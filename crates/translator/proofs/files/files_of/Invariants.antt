use Rattle.std.proofs.Common.{bytes_eq}
use Rattle.std.specs.HashMap.{get_by}
use Rattle.translator.proofs.SetLemmas.{AreSoFar}
use Rattle.translator.proofs.files.files_of.Given as goal

abbrev pub invariant-loop-file : goal.invariant-loop-file
invariant-loop-file l = AreSoFar l.files l.units (λ x. get_by (λ k. bytes_eq x k.now) l.fn.procedures) l.file-index l.left l.found l.refusal
