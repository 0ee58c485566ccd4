-- The bytes from a place on that are set, and the format that begins them (ANSI X3.9-1978, 13.1).
use Rattle.std.specs.Prelude.{◌≡◌, ℕ, List, [], ◌∷◌, length, drop, Option, Some, None, Bool, true, false, Result, Ok, Err, slice_get}
use Rattle.c_tree.specs.declared.outcome.CValue.{CValue}
use Rattle.c_tree.specs.declared.outcome.CValue.TheVariants.{Pointer, Null}
use Rattle.c_tree.specs.declared.outcome.CFault.{CFault}
use Rattle.c_tree.specs.declared.outcome.CFault.TheVariants.{Unset, Outside, Kind}
use Rattle.c_tree.specs.Faults.{Or, failing}
use Rattle.c_tree.specs.Objects.{Object, Bytes, Values}
use Rattle.edit_rules.specs.edit_meaning.Formats.{Format}
use Rattle.edit_rules.specs.edit_meaning.FormatGrammar.{SpellsFormat}
use Rattle.formatted_output.specs.declared.formats.SetFront.{SetFront}

-- bytes up to the first that is not set, and why the one behind them cannot be read
abbrev pub set_bytes : List (Option ℕ) → List ℕ
set_bytes [] = []
set_bytes (None ∷ later) = []
set_bytes (Some byte ∷ later) = byte ∷ set_bytes later

abbrev pub fault_behind : List (Option ℕ) → CFault
fault_behind [] = Outside
fault_behind (None ∷ later) = Unset
fault_behind (Some byte ∷ later) = fault_behind later

pub record Front : Type 0 where
  pub text : List ℕ
  pub fault : CFault

abbrev pub front_of : Option Object → ℕ → Front
front_of None offset = record { text = []; fault = Outside }
front_of (Some (Bytes bytes)) offset = record { text = set_bytes (drop offset bytes); fault = fault_behind (drop offset bytes) }
front_of (Some (Values held)) offset = record { text = []; fault = Kind }

abbrev pub front_at : List Object → CValue → Front
front_at objects (Pointer object offset) = front_of (slice_get objects object) offset
front_at objects Null = record { text = []; fault = Outside }
front_at objects other = record { text = []; fault = Kind }

abbrev pub IsFrontOf : Front → SetFront → Type 0
IsFrontOf front given = (given.size ≡ length front.text) × (given.fault ≡ front.fault)

-- there is a format, which begins a text; there is none; or it has a fault
abbrev pub ReadsFormat : Or (Option Format) → List ℕ → Result Bool CFault → Type 0
ReadsFormat meaning text (Ok true) = (format : Format) × ((after : List ℕ) × (meaning ≡ Ok (Some format)) × SpellsFormat format text after)
ReadsFormat meaning text (Ok false) = meaning ≡ Ok None
ReadsFormat meaning text (Err fault) = meaning ≡ failing fault
