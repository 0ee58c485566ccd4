-- Why a file was not split, by why it was not cut or its pieces were not named.
use Rattle.std.specs.Prelude.{◌≡◌}
use Rattle.f_tree.specs.declared.refusals.Fail.{Fail}
use Rattle.f_tree.specs.declared.refusals.Fail.TheVariants as fail
use Rattle.piece_choice.specs.declared.choosing.NamesFail.{NamesFail}
use Rattle.piece_choice.specs.declared.choosing.NamesFail.TheVariants as names_fail
use Rattle.split_command.specs.declared.failing.SplitFail.{SplitFail}
use Rattle.split_command.specs.declared.failing.SplitFail.TheVariants as split_fail

abbrev pub IsFailOfCut : Fail → SplitFail → Type 0
IsFailOfCut fail.NoMemory found = found ≡ split_fail.NoMemory
IsFailOfCut (fail.Refused refusal) found = found ≡ split_fail.Refused refusal

abbrev pub IsFailOfNames : NamesFail → SplitFail → Type 0
IsFailOfNames names_fail.NoMemory found = found ≡ split_fail.NoMemory
IsFailOfNames (names_fail.Failed name) found = found ≡ split_fail.Unasked name
IsFailOfNames (names_fail.NoneFree number) found = found ≡ split_fail.NoFreeName number
