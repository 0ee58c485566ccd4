use Rattle.std.proofs.Common.{to_z, of_z, refl, rules}
use Rattle.std.specs.Int.{w32}
use Rattle.c_tree.specs.Builtins as builtin
use Rattle.c_tree.specs.LibraryNumbers as numbers
use Rattle.c_tree.specs.Library.{library}
use Rattle.library_calls.proofs.ArgumentLemmas.{numbers-answered, numbers-faulty}
use Rattle.library_calls.proofs.numbers.i_sign.Goals as goal

pub returns-in-Ok : goal.returns-in-Ok
unfolding library
returns-in-Ok c =
    numbers-answered builtin.i_sign numbers.signed c.args.run.now c.args.number c.args.sign c.in-Ok.one c.in-Ok.other (to_z w32 (of_z w32 c.in-Ok.one)) (to_z w32 (of_z w32 c.in-Ok.other)) c.signed.result
    (λ world. refl) c.in-Ok.ensures (search rules) (search rules) c.signed.ensures

pub returns-in-Err : goal.returns-in-Err
unfolding library
returns-in-Err c = (numbers-faulty numbers.signed c.args.run.now c.args.number c.args.sign c.in-Err.fault c.in-Err.ensures, refl)
