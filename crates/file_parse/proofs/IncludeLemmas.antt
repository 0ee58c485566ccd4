-- The files that statements include.
use Rattle.std.specs.Prelude.{◌≡◌, ◌<◌, ◌≤◌, ◌+◌, ℕ, List, [], ◌∷◌, ◌++◌, length, drop, Option, Some, None}
use Rattle.std.specs.Option.{option_to_list}
use Rattle.std.proofs.Common.{refl, sym, ap, ◌∙◌, append_assoc, get_or}
use Rattle.std.proofs.lemmas.List.{append-nil, drop_more, drop_all}
use Rattle.f_tree.specs.declared.statements.Body as whole
use Rattle.f_tree.specs.declared.statements.Body.{Body, IfOne', more_of-Body}
use Rattle.f_tree.specs.declared.statements.Stmt.{Stmt}
use Rattle.f_tree.specs.declared.units.Unit.{Unit as ProgramUnit}
use Rattle.f_tree.specs.Folds.{layer_of}
use Rattle.fortran_grammar.specs.IncludedFiles.{included_by, mentioned_in, mentions_of}

pub includes_nothing : (b : Body) → ((name : List ℕ) → b ≡ whole.Include name → ⊥) → included_by b ≡ None
unfolding included_by layer_of
includes_nothing (whole.Include name) other = absurd (other name refl)
includes_nothing (IfOne' e s (more_of-Body b r)) other = refl
includes_nothing b other = refl

-- one statement more
mention_first : (s : Stmt) (more : List Stmt) (o : Option (List ℕ)) → included_by s.body ≡ o → mentioned_in (s ∷ more) ≡ option_to_list o ++ mentioned_in more
unfolding mentioned_in
mention_first s more None is = ap (λ o. elim o [ None ↦ mentioned_in more | Some name ↦ name ∷ mentioned_in more ]) is
mention_first s more (Some name) is = ap (λ o. elim o [ None ↦ mentioned_in more | Some name ↦ name ∷ mentioned_in more ]) is

no_mention : mentioned_in [] ≡ []
unfolding mentioned_in
no_mention = refl

pub mentions_go_on : (statements : List Stmt) (i : ℕ) (s : Stmt) (names more : List (List ℕ)) → i < length statements → s ≡ get_or statements i s →
    mentioned_in statements ≡ names ++ mentioned_in (drop i statements) → more ≡ names ++ option_to_list (included_by s.body) →
    mentioned_in statements ≡ more ++ mentioned_in (drop (i + 1) statements)
mentions_go_on statements i s names more within is so_far more_is =
    so_far
    ∙ (ap (λ l. names ++ mentioned_in l) (drop_more statements i s within ∙ ap (λ t. t ∷ drop (i + 1) statements) (sym is))
    ∙ (ap (λ l. names ++ l) (mention_first s (drop (i + 1) statements) (included_by s.body) refl)
    ∙ (sym (append_assoc names (option_to_list (included_by s.body)) (mentioned_in (drop (i + 1) statements)))
    ∙ ap (λ l. l ++ mentioned_in (drop (i + 1) statements)) (sym more_is))))

pub mentions_end : (statements : List Stmt) (i : ℕ) (names : List (List ℕ)) → length statements ≤ i →
    mentioned_in statements ≡ names ++ mentioned_in (drop i statements) → names ≡ mentioned_in statements
mentions_end statements i names past so_far =
    sym (so_far ∙ (ap (λ l. names ++ mentioned_in l) (drop_all i statements past) ∙ (ap (λ l. names ++ l) no_mention ∙ append-nil names)))

-- one unit more
unit_first : (u : ProgramUnit) (more : List ProgramUnit) → mentions_of (u ∷ more) ≡ mentioned_in u.statements ++ mentions_of more
unfolding mentions_of
unit_first u more = refl

no_unit : mentions_of [] ≡ []
unfolding mentions_of
no_unit = refl

pub units_go_on : (units : List ProgramUnit) (i : ℕ) (u : ProgramUnit) (names more next : List (List ℕ)) → i < length units → u ≡ get_or units i u →
    mentions_of units ≡ names ++ mentions_of (drop i units) → more ≡ mentioned_in u.statements → next ≡ names ++ more →
    mentions_of units ≡ next ++ mentions_of (drop (i + 1) units)
units_go_on units i u names more next within is so_far more_is next_is =
    so_far
    ∙ (ap (λ l. names ++ mentions_of l) (drop_more units i u within ∙ ap (λ t. t ∷ drop (i + 1) units) (sym is))
    ∙ (ap (λ l. names ++ l) (unit_first u (drop (i + 1) units) ∙ ap (λ l. l ++ mentions_of (drop (i + 1) units)) (sym more_is))
    ∙ (sym (append_assoc names more (mentions_of (drop (i + 1) units))) ∙ ap (λ l. l ++ mentions_of (drop (i + 1) units)) (sym next_is))))

pub units_end : (units : List ProgramUnit) (i : ℕ) (names : List (List ℕ)) → length units ≤ i →
    mentions_of units ≡ names ++ mentions_of (drop i units) → names ≡ mentions_of units
units_end units i names past so_far =
    sym (so_far ∙ (ap (λ l. names ++ mentions_of l) (drop_all i units past) ∙ (ap (λ l. names ++ l) no_unit ∙ append-nil names)))
