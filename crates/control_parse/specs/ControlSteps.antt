-- What a list of controls takes, by the statement that it belongs to. ANSI X3.9-1978, sections 12.8.1 and 12.10.
use Rattle.std.specs.Prelude.{Bool, List}
use Rattle.f_tree.specs.declared.statements.Control.{Control}
use Rattle.fortran_grammar.specs.ControlForms.{Constants, no_constants, constants_of_open, constants_of_close, fits_read, fits_write, fits_auxiliary, words_of_open, words_of_close, words_of_position}
use Rattle.control_parse.specs.declared.controls.ControlsOf.{ControlsOf}
use Rattle.control_parse.specs.declared.controls.ControlsOf.TheVariants as statement

unfoldable pub constants_of : ControlsOf → Constants
constants_of statement.Open = constants_of_open
constants_of statement.Close = constants_of_close
constants_of statement.Read = no_constants
constants_of statement.Write = no_constants
constants_of statement.Position = no_constants

unfoldable pub fits_of : ControlsOf → List Control → Bool
fits_of statement.Read = fits_read
fits_of statement.Write = fits_write
fits_of statement.Open = fits_auxiliary words_of_open
fits_of statement.Close = fits_auxiliary words_of_close
fits_of statement.Position = fits_auxiliary words_of_position
