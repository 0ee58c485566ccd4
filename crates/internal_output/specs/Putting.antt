-- The values that make records, and the records that are stored in an internal file (ANSI X3.9-1978, 12.9.5.2 and 13.6.2).
use Rattle.std.specs.Prelude.{◌≡◌, ℕ, List, [], ◌∷◌, ◌++◌, Result, Ok, Err, OnOk}
use Rattle.c_tree.specs.Objects.{Object}
use Rattle.edit_rules.specs.edit_meaning.Listed.{ListedValue, listing}
use Rattle.edit_rules.specs.declared.list_writer.ListWriter.{ListWriter}
use Rattle.edit_rules.specs.Writer.{done_by, making_of, Stands}
use Rattle.internal_output.specs.declared.files.FileRecords.{FileRecords}
use Rattle.internal_output.specs.declared.files.RecordRefusal.{RecordRefusal}
use Rattle.internal_output.specs.Files.{Fills}

-- values make these lines behind the complete records before them; where one is not stored, others may come behind it
abbrev pub Makes : List ListedValue → List (List ℕ) → List (List ℕ) → ListWriter → List ℕ → Result (Unit {0}) RecordRefusal → Type 0
Makes values complete lines writer line (Ok done) = listing values ≡ record { complete = complete ++ lines; making = making_of writer line }
Makes values complete lines writer line (Err refusal) = (later : List (List ℕ)) × ((listing values).complete ≡ complete ++ lines ++ later)

-- a value is put behind those before it
pub record PutsValue (item : ListedValue) (writer : ListWriter) (line : List ℕ) (writer' : ListWriter) (line' : List ℕ)
    (file : FileRecords) (objects : List Object) (file' : FileRecords) (objects' : List Object) (result : Result (Unit {0}) RecordRefusal) : Type 0 where
  pub lines : List (List ℕ)
  pub stores : Fills lines file objects file' objects' result
  pub makes : (values : List ListedValue) → (complete : List (List ℕ)) → Stands values item complete writer line →
      Makes (values ++ item ∷ []) complete lines writer' line' result
  pub whole : OnOk result (done_by writer' ≡ 0)

-- values are put behind those before them
pub record PutsItems (items : List ListedValue) (writer : ListWriter) (line : List ℕ) (writer' : ListWriter) (line' : List ℕ)
    (file : FileRecords) (objects : List Object) (file' : FileRecords) (objects' : List Object) (result : Result (Unit {0}) RecordRefusal) : Type 0 where
  pub lines : List (List ℕ)
  pub stores : Fills lines file objects file' objects' result
  pub makes : (values : List ListedValue) → (complete : List (List ℕ)) → listing values ≡ record { complete = complete; making = making_of writer line } →
      Makes (values ++ items) complete lines writer' line' result
  pub whole : OnOk result (done_by writer' ≡ 0)
