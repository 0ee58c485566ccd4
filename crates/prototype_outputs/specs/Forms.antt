-- Texts that are prototype files, and the first of some that is none. CSTR 149.
use Rattle.std.specs.Prelude.{◌≡◌, ℕ, List, [], ◌∷◌, take, slice_get, Some}
use Rattle.proto_file.specs.prototypes.PrototypeText.{IsFile, RefusedLine}
use Rattle.prototype_outputs.specs.declared.forms.FormFail.{FormFail}
use Rattle.prototype_outputs.specs.declared.forms.FormFail.TheVariants as fail

-- each text is one
unfoldable pub AreFiles : List (List ℕ) → Type 0
AreFiles [] = Unit {0}
AreFiles (text ∷ texts) = IsFile text × AreFiles texts

-- the text with this number is the first that is none, for this line
pub record IsFirstBad (texts : List (List ℕ)) (number line : ℕ) : Type 0 where
  pub text : List ℕ
  pub text_is : slice_get texts number ≡ Some text
  pub before : AreFiles (take number texts)
  pub refused : RefusedLine text line

abbrev pub HasNoForm : List (List ℕ) → FormFail → Type 0
HasNoForm texts (fail.NotPrototype number line) = IsFirstBad texts number line
HasNoForm texts fail.NoMemory = Unit {0}
