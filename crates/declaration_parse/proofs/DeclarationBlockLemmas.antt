-- The groups of a COMMON statement, put together name by name.
use Rattle.std.proofs.Common.{◌≡◌, refl, sym, ◌∙◌, ap, ℕ, List, [], ◌∷◌, ◌++◌, Option, Some, None}
use Rattle.std.proofs.Common.{append_assoc}
use Rattle.f_tree.specs.declared.statements.ArrayDeclarator.{ArrayDeclarator}
use Rattle.f_tree.specs.declared.statements.CommonGroup.{CommonGroup}
use Rattle.fortran_grammar.specs.DeclarationForms.{Placed, common_groups}
use Rattle.declaration_parse.specs.DeclarationSteps.{next_group, groups_from}

-- the last name is put to the groups of those before it
from-snoc : (found : List CommonGroup × CommonGroup) (names : List Placed) (placed : Placed)
    → groups_from found (names ++ placed ∷ []) ≡ next_group (groups_from found names) placed
unfolding groups_from
from-snoc found [] placed = refl
from-snoc found (x ∷ names) placed = from-snoc (next_group found x) names placed

pub from-last : (found p : List CommonGroup × CommonGroup) (names rest : List Placed) (placed : Placed) → names ≡ rest ++ placed ∷ []
    → p ≡ groups_from found rest → next_group p placed ≡ groups_from found names
from-last found p names rest placed names_are p_is =
    ap (λ q. next_group q placed) p_is ∙ sym (from-snoc found rest placed) ∙ ap (λ l. groups_from found l) (sym names_are)

pub ruleset group_steps = (from-last)

abbrev group : Option (List ℕ) → List ArrayDeclarator → CommonGroup
group block names = record { block = block; items = names }

abbrev all_of : List CommonGroup × CommonGroup → List CommonGroup
all_of p = p.0 ++ p.1 ∷ []

-- all groups are those found and those of the names that follow
from-all : (found : List CommonGroup) (block : Option (List ℕ)) (names : List ArrayDeclarator) (more : List Placed)
    → all_of (groups_from (found, group block names) more) ≡ found ++ common_groups block names more
unfolding groups_from common_groups next_group
from-all found block names [] = refl
from-all found block names ((None, name) ∷ more) = from-all found block (names ++ name ∷ []) more
from-all found block names ((Some other, name) ∷ more) =
    from-all (found ++ group block names ∷ []) other (name ∷ []) more ∙ append_assoc found (group block names ∷ []) (common_groups other (name ∷ []) more)

pub from-first : (groups : List CommonGroup) (last first : CommonGroup) (more : List Placed) → (groups, last) ≡ groups_from ([], first) more
    → groups ++ last ∷ [] ≡ common_groups first.block first.items more
from-first groups last first more p_is = ap all_of p_is ∙ from-all [] first.block first.items more

pub ruleset whole_groups = (from-first)
