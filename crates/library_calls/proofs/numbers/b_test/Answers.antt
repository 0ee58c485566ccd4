use Rattle.std.proofs.Common.{to_z, of_z, refl, rules}
use Rattle.std.specs.Int.{w32}
use Rattle.c_tree.specs.Builtins as builtin
use Rattle.c_tree.specs.LibraryNumbers as numbers
use Rattle.c_tree.specs.Library.{library}
use Rattle.library_calls.proofs.ArgumentLemmas.{numbers-answered, numbers-faulty}
use Rattle.library_calls.proofs.numbers.b_test.Goals as goal

pub returns-in-Ok : goal.returns-in-Ok
unfolding library
returns-in-Ok c =
    numbers-answered builtin.b_test numbers.bit_tested c.args.run.now c.args.number c.args.place c.in-Ok.one c.in-Ok.other (to_z w32 (of_z w32 c.in-Ok.one)) (to_z w32 (of_z w32 c.in-Ok.other)) c.bit_tested.result
    (λ world. refl) c.in-Ok.ensures (search rules) (search rules) c.bit_tested.ensures

pub returns-in-Err : goal.returns-in-Err
unfolding library
returns-in-Err c = (numbers-faulty numbers.bit_tested c.args.run.now c.args.number c.args.place c.in-Err.fault c.in-Err.ensures, refl)
