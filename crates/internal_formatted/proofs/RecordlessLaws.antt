-- A file that has no record: a format makes nothing there.
use Rattle.std.proofs.Common.{◌≡◌, ℕ, zero, suc, Bool, true, false, List, [], length, Some, None, refl, ap, sym, ◌∙◌, arith}
use Rattle.std.proofs.lemmas.Bool.Decides.{nat_tests}
use Rattle.std.specs.Prelude.{Option, Err, nat_lt, if◌then◌else◌}
use Rattle.edit_rules.specs.edit_meaning.Formats.{Format, edits_for}
use Rattle.edit_rules.specs.edit_meaning.Halts.{Halt, EndOfRecords}
use Rattle.edit_rules.specs.edit_meaning.Listed.{ListedValue}
use Rattle.edit_rules.specs.edit_meaning.EditedRecords.{Sheet, Output, internal_sheet, output, output_closed, made_on, made_ahead}
use Rattle.edit_rules.specs.edit_meaning.Transfers.{unserved_by}
use Rattle.c_tree.specs.World.{Transfer}
use Rattle.formatted_records.specs.declared.halt.Halt.{Halt as Why}
use Rattle.formatted_records.specs.Sheets.{halt_of, BeginsIn}
use Rattle.internal_formatted.specs.declared.calls.InternalFormatted.{InternalFormatted}
use Rattle.internal_formatted.specs.Transferring.{Going}
use Rattle.internal_formatted.proofs.ItemLaws.{page_of}

-- the output there
abbrev pub nothing_made : Output
nothing_made = record { complete = []; making = []; before = 0; plus = false; halted = Some EndOfRecords }

stays-halted : (page : Sheet) (unserved : ℕ) → unserved_by (output page) unserved (Some EndOfRecords) nothing_made ≡ nothing_made
stays-halted page zero = refl
stays-halted page (suc more) = refl

pub made-nothing : (columns : ℕ) (format : Format) (values : List ListedValue) → made_on (internal_sheet 0 columns) format values false ≡ nothing_made
unfolding made_on
made-nothing columns format values = stays-halted (internal_sheet 0 columns) (edits_for format (length values)).unserved

pub closed-nothing : (columns : ℕ) (format : Format) (values : List ListedValue) → made_on (internal_sheet 0 columns) format values true ≡ nothing_made
unfolding made_on
closed-nothing columns format values =
    ap (output_closed (internal_sheet 0 columns) (edits_for format (length values)).left) (stays-halted (internal_sheet 0 columns) (edits_for format (length values)).unserved)

pub ahead-nothing : (columns : ℕ) (format : Format) (values : List ListedValue) → made_ahead (internal_sheet 0 columns) format values ≡ nothing_made
unfolding made_ahead
ahead-nothing columns format values = stays-halted (internal_sheet 0 columns) (edits_for format (suc (length values))).unserved

-- an output that goes on has a record
pub going-not : (text : List ℕ) (out : InternalFormatted) (transfer : Transfer) → Going text out transfer → out.file.count ≡ 0 → ⊥
going-not text out transfer stands none =
    let nothing : made_on (page_of out) stands.format transfer.values false ≡ nothing_made =
    ap (λ (count : ℕ). made_on (internal_sheet count out.file.size) stands.format transfer.values false) none ∙ made-nothing out.file.size stands.format transfer.values in
    let halted : (let h : Option Halt = Some EndOfRecords in h) ≡ None = ap (λ (o : Output). o.halted) (sym nothing ∙ stands.made) in
    absurd (cc)

-- a file with records has a first one
runs-on : (there : Bool) (why : Halt) → there ≡ true → (if there then record nothing_made { halted = None } else nothing_made).halted ≡ Some why → ⊥
runs-on true why is halted = absurd (cc)
runs-on false why is halted = absurd (cc)

pub first-there : (records columns : ℕ) (why : Why) → (records ≡ 0 → ⊥) → BeginsIn (internal_sheet records columns) (Err why) → ⊥
first-there zero columns why some is = some refl
first-there (suc more) columns why some is =
    let there : nat_lt 0 (suc more) ≡ true = grind (arith, nat_tests) in runs-on (nat_lt 0 (suc more)) (halt_of why) there (ap (λ (o : Output). o.halted) is)
