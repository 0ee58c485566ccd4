-- The size of one item, and the rows of one name. ANSI X3.9-1978, sections 5.1, 5.7 and 8.4.2.
use Rattle.std.specs.Prelude.{ℕ, ◌*◌, min, nat_lt, Bool, false, not, ◌&&◌, List, [], ◌∷◌, ◌++◌, Option, Some, None}
use Rattle.f_tree.specs.declared.names.Class.TheVariants as class
use Rattle.f_tree.specs.declared.refusals.Kind.TheVariants.{UseOfAssumedLength, StorageTooLarge}
use Rattle.f_tree.specs.declared.refusals.Refusal.{Refusal}
use Rattle.f_tree.specs.declared.units.Unit.{Unit as WrittenUnit}
use Rattle.f_tree.specs.Values.{Bytes}
use Rattle.f_tree.specs.Lines.{is_character}
use Rattle.declaration_rows.specs.Judgement.{unless}
use Rattle.declaration_rows.specs.LengthRows as rows
use Rattle.declaration_rows.specs.LengthRows.{declared_width}
use Rattle.declaration_rows.specs.NameRows.{given_names, at_first, mentions, first_statements, is_star}
use Rattle.declaration_rows.specs.SharedStorageRows.{most_storage}
use Rattle.f_tree.specs.Attributes.{typed_name}
use Rattle.f_tree.specs.Valuing.{size_of_dimension}
use Rattle.name_facts.specs.declared.fact.Bound.{Bound}
use Rattle.name_facts.specs.declared.fact.NameFact.{NameFact}
use Rattle.name_facts.specs.GivenFacts.{bounds_of}

-- numbers past the greatest size count as one more than that
unfoldable pub capped : ℕ → ℕ
capped n = min n 67108865

unfoldable pub capped_elements : List Bound → ℕ
capped_elements [] = 1
capped_elements (b ∷ bs) = capped (size_of_dimension (bounds_of b) * capped_elements bs)

unfoldable pub is_large : ℕ → Bool
is_large n = nat_lt most_storage n

unfoldable pub is_large_array : List Bound → Option ℕ → Bool
is_large_array bs None = false
is_large_array bs (Some width) = is_large (capped_elements bs * width)

unfoldable pub is_large_width : Option ℕ → Bool
is_large_width width = is_large (declared_width width)

unfoldable pub is_large_fact : NameFact → Bool
is_large_fact f = elim f.class [
  | class.Stored ↦ is_large_array f.bounds f.width
  | _ ↦ is_character f.basic && is_large_width f.width
]

-- a procedure that is no dummy, or a statement function, whose own type gives it length (*)
unfoldable pub is_external_star : WrittenUnit → Bytes → NameFact → Bool
is_external_star u x f = elim f.class [
  | class.Procedure ↦ is_character f.basic && is_star (typed_name u x).length
  | class.StatementFunction ↦ is_character f.basic && is_star (typed_name u x).length
  | _ ↦ false
]

-- the rows of one name
unfoldable pub rows_of : WrittenUnit → Bytes → Bool → Bool → List Refusal
rows_of u x star large =
    at_first u (mentions u x) (first_statements u x) (unless (not star) UseOfAssumedLength ++ unless (not large) StorageTooLarge)

unfoldable pub item_row : WrittenUnit → Bytes → List Refusal
item_row u x = rows_of u x (rows.is_external_star u x (given_names u x)) (rows.is_large_item (given_names u x))
