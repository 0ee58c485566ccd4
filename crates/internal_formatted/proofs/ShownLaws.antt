-- A transfer for which a formatted output on an internal file stands.
use Rattle.std.proofs.Common.{◌≡◌, ℕ, ℤ, List, [], ap, ◌∙◌}
use Rattle.c_tree.specs.World.{Direction, Output, Layout, Formatted, Medium, Internal, Transfer}
use Rattle.edit_rules.specs.edit_meaning.Formats.{Format}
use Rattle.edit_rules.specs.edit_meaning.Listed.{ListedValue}
use Rattle.internal_output.specs.Files.{file_of}
use Rattle.internal_formatted.specs.declared.calls.InternalFormatted.{InternalFormatted}
use Rattle.internal_formatted.specs.Transferring.{Going, Recordless}

-- the transfer, with what the output says of it
abbrev pub shown_by : InternalFormatted → Format → Transfer → Transfer
shown_by output format transfer = record transfer {
  direction = Output;
  layout = Formatted format;
  medium = Internal (file_of output.file);
  on_error = output.on_error;
  on_end = output.on_end;
}

shown-as :
    (output : InternalFormatted) (format : Format) (transfer : Transfer) → transfer.direction ≡ Output → transfer.layout ≡ Formatted format → transfer.medium ≡ Internal (file_of output.file) →
    transfer.on_error ≡ output.on_error → transfer.on_end ≡ output.on_end → transfer ≡ shown_by output format transfer
shown-as output format transfer same_direction same_layout same_medium same_error same_end =
    ap (λ (direction : Direction). record transfer { direction = direction }) same_direction
    ∙ ap (λ (layout : Layout). record transfer { direction = Output; layout = layout }) same_layout
    ∙ ap (λ (medium : Medium). record transfer { direction = Output; layout = Formatted format; medium = medium }) same_medium
    ∙ ap (λ (number : ℤ). record transfer { direction = Output; layout = Formatted format; medium = Internal (file_of output.file); on_error = number }) same_error
    ∙ ap (λ (number : ℤ). record transfer { direction = Output; layout = Formatted format; medium = Internal (file_of output.file); on_error = output.on_error; on_end = number }) same_end

pub is-shown : (text : List ℕ) (output : InternalFormatted) (transfer : Transfer) → (stands : Going text output transfer) → transfer ≡ shown_by output stands.format transfer
is-shown text output transfer stands = shown-as output stands.format transfer stands.direction stands.layout stands.medium stands.on_error stands.on_end

-- and before its first item
abbrev pub blank_by : InternalFormatted → Format → Transfer → Transfer
blank_by output format transfer = record (shown_by output format transfer) { values = []; written = 0 }

pub is-recordless : {text : List ℕ} (output : InternalFormatted) (transfer : Transfer) → (stands : Recordless text output transfer) → transfer ≡ blank_by output stands.format transfer
is-recordless output transfer stands =
    shown-as output stands.format transfer stands.direction stands.layout stands.medium stands.on_error stands.on_end
    ∙ ap (λ (values : List ListedValue). record (shown_by output stands.format transfer) { values = values }) stands.values
    ∙ ap (λ (written : ℕ). record (shown_by output stands.format transfer) { values = []; written = written }) stands.written
