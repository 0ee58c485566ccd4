-- What is read of included files in the places of INCLUDE.
use Rattle.std.specs.Prelude.{◌≡◌, ℕ, false, bytes_eq, List, [], ◌∷◌, ◌++◌, option_map, Option, Some, None, Result, Ok, Err}
use Rattle.std.specs.Borrow.{Bor}
use Rattle.std.specs.HashMap.{HashMap, get_by}
use Rattle.f_tree.specs.declared.refusals.Fail.{Fail}
use Rattle.f_tree.specs.declared.refusals.Fail.TheVariants as fail
use Rattle.f_tree.specs.declared.units.Part.{Part}
use Rattle.fortran_text.specs.StatementsOfFile.{FileCards}
use Rattle.fortran_grammar.specs.IncludedFiles.{part_named}
use Rattle.file_parse.specs.ReadSoFar.{AreTrees}

-- The cards of the included file with a name.
abbrev pub cards_named : {S : Type 0} → HashMap (Bor (List ℕ)) (Bor FileCards) S → List ℕ → Option FileCards
cards_named places name = option_map (λ cards. cards.now) (get_by (λ key. bytes_eq name key.now) places)

-- The statements of a part are spelled by the cards, and none of them has a row; without cards there is no part.
abbrev pub StandsFor : Option FileCards → List Part → List ℕ → Type 0
StandsFor None parts name = part_named name parts ≡ []
StandsFor (Some cards) parts name = AreTrees false cards.statements (Ok (part_named name parts))

-- The parts are those of included files.
pub record AreParts (find : List ℕ → Option FileCards) (parts : List Part) : Type 0 where
  pub stand : (name : List ℕ) → StandsFor (find name) parts name

-- A value under the parts that included files spell; want of memory says nothing.
abbrev pub IsUnder : {A : Type 0} → (List ℕ → Option FileCards) → (List Part → A) → Result A Fail → Type 0
IsUnder find value (Ok x) = (parts : List Part) → AreParts find parts → x ≡ value parts
IsUnder find value (Err (fail.Refused r)) = (parts : List Part) → AreParts find parts → ⊥
IsUnder find value (Err fail.NoMemory) = Unit {0}

-- A value, or want of memory.
abbrev pub IsExactly : {A : Type 0} → A → Result A Fail → Type 0
IsExactly value (Ok x) = x ≡ value
IsExactly value (Err (fail.Refused r)) = ⊥
IsExactly value (Err fail.NoMemory) = Unit {0}

-- Items, and one or what stands in its place.
abbrev pub IsInPlace : {A : Type 0} → List A → A → Result (Option (List A)) Fail → Result (List A) Fail → Type 0
IsInPlace done own (Ok (Some part)) r = IsExactly (done ++ part) r
IsInPlace done own (Ok None) r = IsExactly (done ++ own ∷ []) r
IsInPlace done own (Err f) r = r ≡ Err f
