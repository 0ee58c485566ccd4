-- Names that hide those around them (C89, 3.1.2.1).
use Rattle.std.specs.Prelude.{◌≡◌, ℕ, List, bytes_eq, if◌then◌else◌}
use Rattle.c_tree.specs.Terms.{Term}
use Rattle.c_tree.specs.Drafts.{Scope}
use Rattle.first_names.specs.FirstNames.{first_of}
use Rattle.first_names.specs.declared.FirstNames.{FirstNames}
use Rattle.expression_linker.specs.NamesInScope.{term_or}
use Rattle.expression_linker.specs.declared.things.NamedThing.{NamedThing}

-- the scope in which one more name stands for a term
abbrev pub with_name : List ℕ → Term → Scope → Scope
with_name name term outer q = if bytes_eq q name then term else outer q

-- what was given to names before, around these names, is what is given to them now, around the names outside
abbrev pub Hides : FirstNames NamedThing → FirstNames NamedThing → (Scope → Scope) → Type 0
Hides before now inner = (outer : Scope) (q : List ℕ) → term_or (first_of before q) (inner outer q) ≡ term_or (first_of now q) (outer q)
