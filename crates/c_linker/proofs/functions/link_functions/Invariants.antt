use Rattle.std.proofs.Common.{◌≡◌, ℕ, List, length, drop}
use Rattle.c_tree.specs.Linking as tree
use Rattle.first_names.specs.FirstNames.{first_of}
use Rattle.function_linker.specs.LinkedFunctions.{file_names}
use Rattle.c_linker.proofs.PartLaws.{Goes}
use Rattle.c_linker.proofs.functions.link_functions.Given as goal

abbrev pub invariant-loop-function : goal.invariant-loop-function
invariant-loop-function l = record {
  same_names : (q : List ℕ) → file_names l.names q ≡ file_names l.initial.names q;
  linked : (own : ℕ) →
      Goes own (tree.linked_functions (first_of l.numbers) own (file_names l.initial.names) (length l.initial.objects) l.list)
      (tree.linked_functions (first_of l.numbers) own (file_names l.initial.names) (length l.objects) (drop l.function-index l.list)) l.initial.functions l.functions l.initial.objects l.objects;
}
