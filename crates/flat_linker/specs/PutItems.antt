-- What putting the items of statements behind others gives.
use Rattle.std.specs.Prelude.{◌≡◌, ℕ, ◌+◌, true, List, [], ◌∷◌, ◌++◌, length, map, Result, Ok, Err}
use Rattle.c_tree.specs.Flat.{Flat}
use Rattle.c_tree.specs.Drafts.{Scope, Draft}
use Rattle.c_tree.specs.FlatForm.{Labels, Body}
use Rattle.linked_terms.specs.LinkedItems.{flat_of}
use Rattle.expression_linker.specs.declared.failure.LinkFail.{LinkFail}
use Rattle.expression_linker.specs.declared.failure.LinkFail.TheVariants as fail
use Rattle.flat_linker.specs.declared.written.Written.{Written}
use Rattle.flat_linker.specs.LostNames.{some_lost}

-- the items of a part stand behind those before; so many strings and so many items are counted
pub record Stand (part : List Flat) (strings size : ℕ) (before now : Written) : Type 0 where
  pub items : map flat_of now.items ≡ map flat_of before.items ++ part
  pub next : now.next ≡ before.next + strings
  pub count : length now.items ≡ length before.items + size

-- the items of the part stand there, or the part links nothing; want of memory says nothing
abbrev pub Puts : Result (Unit {0}) LinkFail → List Flat → ℕ → ℕ → Written → Written → Type 0
Puts (Ok done) part strings size before now = Stand part strings size before now
Puts (Err fail.Unknown) part strings size before now = some_lost part ≡ true
Puts (Err fail.Memory) part strings size before now = Unit {0}

-- one item
abbrev pub PutsOne : Result (Unit {0}) LinkFail → Draft Flat → Scope → Written → Written → Type 0
PutsOne result item scope before now = Puts result (item.drawn scope before.next ∷ []) (length item.strings) 1 before now

-- statements, at the position behind the items before
abbrev pub PutsBody : Result (Unit {0}) LinkFail → Body → Scope → Labels → Written → Written → Type 0
PutsBody result part scope labels before now =
    Puts result (part.items.drawn scope before.next labels (length before.items)) (length part.items.strings) part.size before now
