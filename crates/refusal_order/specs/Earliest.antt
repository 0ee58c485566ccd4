-- The earliest of refusals that may be there, and the least row of some.
use Rattle.std.specs.Prelude.{ℕ, nat_lt, List, [], ◌∷◌, Option, Some, None, if◌then◌else◌}
use Rattle.f_tree.specs.declared.refusals.Kind.{Kind}
use Rattle.f_tree.specs.declared.refusals.Refusal.{Refusal}
use Rattle.f_tree.specs.RefusalRows.{number_of}
use Rattle.declaration_rows.specs.Verdicts.{earlier}

-- by file, then card, then number; of two alike the first
unfoldable pub earliest : Option Refusal → Option Refusal → Option Refusal
earliest None other = other
earliest (Some r) other = Some (earlier r other)

-- by number; of two alike the first
unfoldable pub less : Kind → Option Kind → Kind
less k None = k
less k (Some l) = if nat_lt (number_of l) (number_of k) then l else k

unfoldable pub least : Option Kind → Option Kind → Option Kind
least None other = other
least (Some k) other = Some (less k other)

unfoldable pub least_of : List Kind → Option Kind
least_of [] = None
least_of (k ∷ ks) = Some (less k (least_of ks))

-- a row that may be there, at a card of a file
unfoldable pub refusal_of : ℕ → ℕ → Option Kind → Option Refusal
refusal_of file card None = None
refusal_of file card (Some k) = Some (record { file = file; card = card; kind = k })
