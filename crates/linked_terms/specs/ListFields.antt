-- The names of the fields of control lists (C89, 3.3.2.3, and f2c.h).
use Rattle.std.specs.Prelude.{ℕ, List, [], ◌∷◌, Option, Some, None, codes, bytes_eq, if◌then◌else◌}
use Rattle.linked_terms.specs.declared.fields.ListField.{ListField}
use Rattle.linked_terms.specs.declared.fields.ListField.TheVariants as field

abbrev pub name_of_field : ListField → List ℕ
name_of_field field.TransferError = codes "cierr"
name_of_field field.TransferUnit = codes "ciunit"
name_of_field field.TransferEnd = codes "ciend"
name_of_field field.TransferFormat = codes "cifmt"
name_of_field field.TransferRecord = codes "cirec"
name_of_field field.InternalError = codes "icierr"
name_of_field field.InternalUnit = codes "iciunit"
name_of_field field.InternalEnd = codes "iciend"
name_of_field field.InternalFormat = codes "icifmt"
name_of_field field.InternalLength = codes "icirlen"
name_of_field field.InternalCount = codes "icirnum"
name_of_field field.OpenError = codes "oerr"
name_of_field field.OpenUnit = codes "ounit"
name_of_field field.OpenFile = codes "ofnm"
name_of_field field.OpenFileLength = codes "ofnmlen"
name_of_field field.OpenStatus = codes "osta"
name_of_field field.OpenAccess = codes "oacc"
name_of_field field.OpenForm = codes "ofm"
name_of_field field.OpenLength = codes "orl"
name_of_field field.OpenBlank = codes "oblnk"
name_of_field field.CloseError = codes "cerr"
name_of_field field.CloseUnit = codes "cunit"
name_of_field field.CloseStatus = codes "csta"
name_of_field field.PositionError = codes "aerr"
name_of_field field.PositionUnit = codes "aunit"

-- the fields of all control lists
abbrev pub all_fields : List ListField
all_fields =
    field.TransferError
    ∷ field.TransferUnit
    ∷ field.TransferEnd
    ∷ field.TransferFormat
    ∷ field.TransferRecord
    ∷ field.InternalError
    ∷ field.InternalUnit
    ∷ field.InternalEnd
    ∷ field.InternalFormat
    ∷ field.InternalLength
    ∷ field.InternalCount
    ∷ field.OpenError
    ∷ field.OpenUnit
    ∷ field.OpenFile
    ∷ field.OpenFileLength
    ∷ field.OpenStatus
    ∷ field.OpenAccess
    ∷ field.OpenForm
    ∷ field.OpenLength
    ∷ field.OpenBlank
    ∷ field.CloseError
    ∷ field.CloseUnit
    ∷ field.CloseStatus
    ∷ field.PositionError
    ∷ field.PositionUnit
    ∷ []

-- the first of these fields that has a name
unfoldable pub first_named : List ℕ → List ListField → Option ListField
first_named name [] = None
first_named name (field ∷ later) = if bytes_eq name (name_of_field field) then Some field else first_named name later
