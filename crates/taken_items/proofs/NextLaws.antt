-- The items of a formatted input, each before the next, and the edits that take none.
use Rattle.std.proofs.Common.{◌≡◌, ℕ, suc, refl, ap, ◌∙◌}
use Rattle.c_tree.specs.declared.outcome.CValue.{CValue}
use Rattle.c_tree.specs.Faults.{Or, after}
use Rattle.c_tree.specs.World.{World, Transfer}
use Rattle.c_tree.specs.LibraryArguments.{shifted}
use Rattle.c_tree.specs.Transfers.{Passage}
use Rattle.c_tree.specs.TransferInput.{formatted_item}
use Rattle.c_tree.specs.TransferCalls.{each_item, then_later}
use Rattle.edit_rules.specs.edit_meaning.Formats.{Format}
use Rattle.edit_rules.specs.declared.edits.Edit.{Edit}
use Rattle.edit_rules.specs.declared.edits.Edit.TheVariants as edit
use Rattle.taken_records.specs.Records.{TakesNone}

pub takes-none : (given : Edit) → (given ≡ edit.NextRecord → ⊥) → TakesNone given
takes-none (edit.Int width least) a = tt
takes-none (edit.Logical width) a = tt
takes-none (edit.Text width) a = tt
takes-none (edit.Literal from to doubled) a = tt
takes-none (edit.Column column) a = tt
takes-none (edit.Left columns) a = tt
takes-none (edit.Right columns) a = tt
takes-none edit.NextRecord a = a refl
takes-none (edit.ShowPlus plus) a = tt
takes-none (edit.ZeroBlanks zeros) a = tt
takes-none edit.Done a = tt
takes-none edit.NoDescriptor a = tt

-- the items from the next on
pub from-next : (format : Format) (size left less : ℕ) (pointer : CValue) (transfer : Transfer) (world : World) (passage : Or Passage) → left ≡ suc less →
    formatted_item format size pointer transfer world ≡ passage →
    each_item size (formatted_item format size) left pointer transfer world
    ≡ after passage (λ one. then_later one (λ changed after_it. each_item size (formatted_item format size) less (shifted size pointer) changed after_it))
from-next format size left less pointer transfer world passage more is =
    ap (λ (n : ℕ). each_item size (formatted_item format size) n pointer transfer world) more
    ∙ ap (λ (one : Or Passage). after one (λ one. then_later one (λ changed after_it. each_item size (formatted_item format size) less (shifted size pointer) changed after_it))) is
