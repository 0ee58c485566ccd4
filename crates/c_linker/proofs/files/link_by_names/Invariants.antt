use Rattle.std.proofs.Common.{ℕ, length, drop}
use Rattle.c_tree.specs.Linking as tree
use Rattle.first_names.specs.FirstNames.{first_of}
use Rattle.c_linker.proofs.PartLaws.{Goes}
use Rattle.c_linker.proofs.files.link_by_names.Given as goal

abbrev pub invariant-loop-file : goal.invariant-loop-file
invariant-loop-file l = (own : ℕ) →
    Goes own (tree.linked_files (first_of l.numbers) (first_of l.places) own (length l.initial.objects) l.files)
    (tree.linked_files (first_of l.numbers) (first_of l.places) own (length l.objects) (drop l.file-index l.files)) l.initial.functions l.functions l.initial.objects l.objects
