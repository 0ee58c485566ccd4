-- A statement by its form.
use Rattle.std.specs.Prelude.{◌≡◌, ℕ, Bool, true, false, List, ◌⊎◌, Result, Err}
use Rattle.std.proofs.Common.{refl, ap, ◌∙◌, inl, inr}
use Rattle.f_tree.specs.declared.statements.Body.{Body}
use Rattle.lowering.specs.Statements.{form_code}
use Rattle.lowered_tree.specs.declared.steps.Step.{Step}
use Rattle.name_facts.specs.declared.table.NameFacts.{NameFacts}
use Rattle.f_tree.specs.Lines.{Naming}
use Rattle.expression_lowering.specs.declared.answers.LowerError.{LowerError}
use Rattle.expression_lowering.specs.declared.answers.LowerError.TheVariants.{NotLowered}
use Rattle.statement_lowering.specs.declared.around.Around.{Around}
use Rattle.statement_lowering.specs.StatementForms.{Forms, forms_of, passing}
use Rattle.statement_lowering.specs.LoweredStatements.{is_lowered_statement}
use Rattle.statement_lowering.specs.StatementOutcomes.{IsOutcome}
use Rattle.statement_lowering.proofs.Additions.{by-form, by-equation, not-lowered}

-- a statement of a form
pub by-body : (table : NameFacts) (ls : List ℕ) (around : Around) (b x : Body) (l : Bool) (f : Forms) (before after : List Step) (r : Result (Unit {0}) LowerError) → b ≡ x →
    is_lowered_statement table x ≡ l → forms_of ls x ≡ f → IsOutcome table around l f before after r → IsOutcome table around (is_lowered_statement table b) (forms_of ls b) before after r
by-body table ls around b x l f before after r is lowers does h =
    by-equation table around l (is_lowered_statement table b) f (forms_of ls b) before after r (ap (is_lowered_statement table) is ∙ lowers) (ap (forms_of ls) is ∙ does) h

-- a statement of a form that takes the steps of another
pub by-steps : (table : NameFacts) (ls : List ℕ) (around : Around) (b x : Body) (l : Bool) (f g : Forms) (before after : List Step) (r : Result (Unit {0}) LowerError) → b ≡ x →
    is_lowered_statement table x ≡ l → forms_of ls x ≡ g →
    ((names : Naming) → form_code around.once around.free around.room (g names) ≡ form_code around.once around.free around.room (f names)) →
    IsOutcome table around l f before after r → IsOutcome table around (is_lowered_statement table b) (forms_of ls b) before after r
by-steps table ls around b x l f g before after r is lowers does same h =
    by-body table ls around b x l g before after r is lowers does (by-form table around l l f g before after r refl same h)

-- what takes no step
pub passes : (table : NameFacts) (ls : List ℕ) (around : Around) (b : Body) (before after : List Step) (r : Result (Unit {0}) LowerError) → IsOutcome table around true passing before after r →
    (x : Body) → b ≡ x → is_lowered_statement table x ≡ true → forms_of ls x ≡ passing → IsOutcome table around (is_lowered_statement table b) (forms_of ls b) before after r
passes table ls around b before after r h x is lowers does = by-body table ls around b x true passing before after r is lowers does h

-- one of two that take no step
pub either-passes : (table : NameFacts) (ls : List ℕ) (around : Around) (b x y : Body) (before after : List Step) (r : Result (Unit {0}) LowerError) → (b ≡ x) ⊎ (b ≡ y) →
    is_lowered_statement table x ≡ true → is_lowered_statement table y ≡ true → forms_of ls x ≡ passing → forms_of ls y ≡ passing →
    IsOutcome table around true passing before after r → IsOutcome table around (is_lowered_statement table b) (forms_of ls b) before after r
either-passes table ls around b x y before after r (inl is) one other does too h = passes table ls around b before after r h x is one does
either-passes table ls around b x y before after r (inr is) one other does too h = passes table ls around b before after r h y is other too

-- what is not lowered
pub refused : (table : NameFacts) (ls : List ℕ) (around : Around) (b : Body) (before : List Step) (x : Body) → b ≡ x → is_lowered_statement table x ≡ false →
    IsOutcome table around (is_lowered_statement table b) (forms_of ls b) before before (Err NotLowered)
refused table ls around b before x is lowers = not-lowered table around (is_lowered_statement table b) (forms_of ls b) before (ap (is_lowered_statement table) is ∙ lowers)

-- one of two of one form
pub either-body : (table : NameFacts) (ls : List ℕ) (around : Around) (b x y : Body) (l : Bool) (f : Forms) (before after : List Step) (r : Result (Unit {0}) LowerError) → (b ≡ x) ⊎ (b ≡ y) →
    is_lowered_statement table x ≡ l → is_lowered_statement table y ≡ l → forms_of ls x ≡ f → forms_of ls y ≡ f →
    IsOutcome table around l f before after r → IsOutcome table around (is_lowered_statement table b) (forms_of ls b) before after r
either-body table ls around b x y l f before after r (inl is) one other does too h = by-body table ls around b x l f before after r is one does h
either-body table ls around b x y l f before after r (inr is) one other does too h = by-body table ls around b y l f before after r is other too h
