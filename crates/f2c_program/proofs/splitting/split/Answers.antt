use Rattle.std.proofs.Common.{Err, refl, arith}
use Rattle.split_command.specs.declared.failing.SplitFail.TheVariants as fail
use Rattle.f2c_program.proofs.splitting.split.Goals as goal

pub returns-in-Err : goal.returns-in-Err
returns-in-Err g c = record { result = Err fail.NoMemory; split = record { same = refl; later = omega arith }; outcome_is = refl }
