-- F07 of INCLUDE, as the code finds it: by the number of cards of each included file, by its name.
use Rattle.std.specs.Prelude.{ℕ, suc, ◌+◌, nat_lt, bytes_eq, List, [], ◌∷◌, unwrap_or, Option, Some, None, if◌then◌else◌}
use Rattle.std.specs.Borrow.{Bor}
use Rattle.std.specs.HashMap.{HashMap, get_by}
use Rattle.f_tree.specs.declared.refusals.Kind.TheVariants.{FileTooLong}
use Rattle.f_tree.specs.declared.refusals.Refusal.{Refusal}
use Rattle.fortran_text.specs.FirstFault.{most_cards}
use Rattle.fortran_text.specs.StatementsOfFile.{FileCards}
use Rattle.fortran_text.specs.declared.source.Statement.{Statement}
use Rattle.source_acceptance.specs.SourceFiles.{included_name}
use Rattle.source_reader.specs.PartReading.{or_else}

-- The value of the first of these names.
unfoldable pub first_named : {A : Type 0} → List (List ℕ) → List A → List ℕ → Option A
first_named (name ∷ names) (value ∷ values) x = if bytes_eq name x then Some value else first_named names values x
first_named _ _ x = None

-- The value of a name in a map.
abbrev pub value_named : {A S : Type 0} → HashMap (Bor (List ℕ)) A S → List ℕ → Option A
value_named values name = get_by (λ key. bytes_eq name key.now) values

-- How many cards a name counts.
abbrev pub count_in : {S : Type 0} → HashMap (Bor (List ℕ)) ℕ S → List ℕ → ℕ
count_in counts name = unwrap_or (value_named counts name) 0

abbrev pub count_at : (List ℕ → ℕ) → Option (List ℕ) → Option ℕ
count_at count None = None
count_at count (Some name) = Some (count name)

-- A sum with what is added to it, if that is no more than the greatest number.
abbrev pub added : ℕ → Option ℕ → Option ℕ
added sum None = Some sum
added sum (Some more) = if nat_lt most_cards (sum + more) then None else Some (sum + more)

unfoldable pub passes : (List ℕ → ℕ) → ℕ → List Statement → Option ℕ
passes count sum [] = None
passes count sum (s ∷ ss) = elim (added sum (count_at count (included_name s))) [ None ↦ Some s.card | Some more ↦ passes count more ss ]

abbrev pub too_long_at : ℕ → Option ℕ → Option Refusal
too_long_at file None = None
too_long_at file (Some card) = Some (record { file = file; card = card; kind = FileTooLong })

abbrev pub passing : (List ℕ → ℕ) → ℕ → FileCards → Option Refusal
passing count file cards = too_long_at file (passes count cards.cards cards.statements)

-- The first file that is too long, from the file with a number on.
unfoldable pub first_passing : (List ℕ → ℕ) → ℕ → List FileCards → Option Refusal
first_passing count file [] = None
first_passing count file (cards ∷ more) = or_else (passing count file cards) (first_passing count (suc file) more)
