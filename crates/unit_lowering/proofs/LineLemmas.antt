-- The steps of statements, as they are appended.
use Rattle.std.proofs.Common.{◌≡◌, ℕ, suc, ◌+◌, Bool, true, false, List, [], ◌∷◌, ◌++◌, length, length-append, Option, Some, None, option_map, slice_get, Result, Ok, Err, append_assoc, refl, sym, ap, ◌∙◌, arith}
use Rattle.std.proofs.lemmas.List.{append-nil}
use Rattle.f_tree.specs.declared.statements.Body.{Body}
use Rattle.f_tree.specs.declared.statements.Stmt.{Stmt}
use Rattle.f_tree.specs.Facts.{Form, Passes, On}
use Rattle.f_tree.specs.Lines.{Naming, form_of, mark_of}
use Rattle.lowered_tree.specs.l_core.Steps.{Step, Pass}
use Rattle.lowering.specs.Statements.{form_code}
use Rattle.lowering.specs.Units.{pass_code, listed, both_codes}
use Rattle.lowered_tree.specs.declared.steps.Step as tree
use Rattle.lowered_tree.specs.Shapes.{steps_of}
use Rattle.name_facts.specs.declared.table.NameFacts.{NameFacts}
use Rattle.expression_lowering.specs.declared.answers.LowerError.{LowerError}
use Rattle.expression_lowering.specs.declared.answers.LowerError.TheVariants.{NotLowered, NoMemory}
use Rattle.expression_lowering.specs.TableNames.{AreFactsOf}
use Rattle.statement_lowering.specs.declared.around.Around.{Around}
use Rattle.statement_lowering.specs.StatementForms.{forms_of}
use Rattle.statement_lowering.specs.LoweredStatements.{is_lowered_statement}
use Rattle.statement_lowering.specs.StatementOutcomes.{AreAdded, IsOutcome}
use Rattle.statement_places.specs.declared.places.Turn.{Turn}
use Rattle.statement_places.specs.declared.places.StatementPlace.{StatementPlace}
use Rattle.unit_lowering.specs.LineSteps.{skip_steps, turns_steps, own_steps, line_steps, line_by, line_at, lines_steps}
use Rattle.statement_places.proofs.SizeTheorem.{listed_pass}
use Rattle.unit_lowering.proofs.BegunForms.{form_begun}
use Rattle.unit_lowering.proofs.RowLemmas.{joined_none, joined_more}

-- WHAT A STATEMENT ITSELF ADDS
pub statement_added : (table : NameFacts) (assigned : List ℕ) (around : Around) (b : Body) (before after : List tree.Step) (a : Unit {0}) →
    IsOutcome table around (is_lowered_statement table b) (forms_of assigned b) before after (Ok a) → (names : Naming) → AreFactsOf names table →
    AreAdded (form_code around.once around.free around.room (listed assigned (form_of names b))) before after
unfolding IsOutcome forms_of
statement_added table assigned around b before after a said names told = said.meant names told

pub statement_refused : (table : NameFacts) (assigned : List ℕ) (around : Around) (b : Body) (before after : List tree.Step) (r : Result (Unit {0}) LowerError) →
    IsOutcome table around (is_lowered_statement table b) (forms_of assigned b) before after r → r ≡ Err NotLowered → is_lowered_statement table b ≡ false
unfolding IsOutcome
statement_refused table assigned around b before after (Ok a) said none = absurd (cc)
statement_refused table assigned around b before after (Err NotLowered) said none = said.0
statement_refused table assigned around b before after (Err NoMemory) said none = absurd (cc)

long_as : (xs : List tree.Step) → length (steps_of xs) ≡ length xs
long_as [] = refl
long_as (x ∷ xs) = ap suc (long_as xs)

empty_by : (xs : List Step) → length xs ≡ 0 → xs ≡ []
empty_by [] none = refl
empty_by (x ∷ xs) none = absurd (omega arith)

nothing_added : (before after : List tree.Step) (added : List Step) → steps_of after ≡ steps_of before ++ added → length after ≡ length before → added ≡ []
nothing_added before after added put same =
    empty_by added (omega (arith, ap length put, length-append (steps_of before) added, long_as before, long_as after))

something_added : (before after : List tree.Step) (added : List Step) → steps_of after ≡ steps_of before ++ added → added ≡ [] → length after ≡ length before
something_added before after added put none =
    sym (long_as after) ∙ ap length (put ∙ ap (λ xs. steps_of before ++ xs) none ∙ append-nil (steps_of before)) ∙ long_as before

pass_where : (once : Bool) (k n : ℕ) (form : Form) (added : List Step) (named : Bool) → form_code once k n form ≡ Some added → added ≡ [] → named ≡ true →
    pass_code named form ≡ Pass ∷ []
unfolding pass_code
pass_where once k n Passes added true is none here = refl
pass_where once k n (On head operands) added true is none here = absurd (form_begun once k n head operands (is ∙ ap Some none))
pass_where once k n form added false is none here = absurd (cc)

no_pass : (once : Bool) (k n : ℕ) (form : Form) (added : List Step) (named : Bool) → form_code once k n form ≡ Some added → (named ≡ true → added ≡ [] → ⊥) →
    pass_code named form ≡ []
unfolding pass_code form_code
no_pass once k n form added false is none = refl
no_pass once k n Passes added true is none = absurd (none refl (let e : added ≡ [] = cc in e))
no_pass once k n (On head operands) added true is none = refl

own_is : (once : Bool) (assigned : List ℕ) (names : Naming) (s : Stmt) (place : StatementPlace) (added more : List Step) → form_code once place.free place.room (listed assigned (form_of names s.body)) ≡ Some added →
    pass_code place.is_named (form_of names s.body) ≡ more → own_steps once assigned names s place ≡ Some (added ++ more)
unfolding own_steps
own_is once assigned names s place added more is then =
    ap (option_map (λ steps. steps ++ pass_code place.is_named (form_of names s.body))) is ∙ ap (λ xs. Some (added ++ xs)) then

pub own_passed : (once : Bool) (assigned : List ℕ) (names : Naming) (s : Stmt) (place : StatementPlace) (before mid after : List tree.Step) →
    AreAdded (form_code once place.free place.room (listed assigned (form_of names s.body))) before mid → place.is_named ≡ true → length mid ≡ length before →
    steps_of after ≡ steps_of mid ++ Pass ∷ [] → AreAdded (own_steps once assigned names s place) before after
own_passed once assigned names s place before mid after own named same put = record {
  added = own.added ++ Pass ∷ [];
  is = own_is once assigned names s place own.added (Pass ∷ []) own.is
      (listed_pass assigned place.is_named (form_of names s.body)
      ∙ pass_where once place.free place.room (listed assigned (form_of names s.body)) own.added place.is_named own.is (nothing_added before mid own.added own.steps same) named);
  steps = put ∙ ap (λ xs. xs ++ Pass ∷ []) own.steps ∙ append_assoc (steps_of before) own.added (Pass ∷ []);
}

pub own_alone : (once : Bool) (assigned : List ℕ) (names : Naming) (s : Stmt) (place : StatementPlace) (before after : List tree.Step) →
    AreAdded (form_code once place.free place.room (listed assigned (form_of names s.body))) before after → (place.is_named ≡ true → length after ≡ length before → ⊥) →
    AreAdded (own_steps once assigned names s place) before after
own_alone once assigned names s place before after own none = record {
  added = own.added ++ [];
  is = own_is once assigned names s place own.added [] own.is
      (listed_pass assigned place.is_named (form_of names s.body)
      ∙ no_pass once place.free place.room (listed assigned (form_of names s.body)) own.added place.is_named own.is
      (λ named empty. none named (something_added before after own.added own.steps empty)));
  steps = own.steps ∙ ap (λ xs. steps_of before ++ xs) (sym (append-nil own.added));
}

-- ITS LINE
pub line_added : (once : Bool) (assigned : List ℕ) (names : Naming) (ss : List Stmt) (places : List StatementPlace) (s : Stmt) (place : StatementPlace) (turns : List Turn)
    (before skipped own after : List tree.Step) → steps_of skipped ≡ steps_of before ++ skip_steps (mark_of s.body) place.skip →
    AreAdded (own_steps once assigned names s place) skipped own → turns ≡ place.turns.items → steps_of after ≡ steps_of own ++ turns_steps once names ss places turns →
    AreAdded (line_steps once assigned names ss places s place) before after
unfolding line_steps
line_added once assigned names ss places s place turns before skipped own after skips added same ends =
    let skip = skip_steps (mark_of s.body) place.skip in
    let end = turns_steps once names ss places place.turns.items in
    record {
      added = (skip ++ added.added) ++ end;
      is = ap (option_map (λ steps. (skip ++ steps) ++ end)) added.is;
      steps = ends ∙ ap (λ ts. steps_of own ++ turns_steps once names ss places ts) same
          ∙ ap (λ xs. xs ++ end) (added.steps ∙ ap (λ xs. xs ++ added.added) skips ∙ append_assoc (steps_of before) skip added.added)
          ∙ append_assoc (steps_of before) (skip ++ added.added) end;
    }

added_along : (a b : Option (List Step)) (before after : List tree.Step) → a ≡ b → AreAdded a before after → AreAdded b before after
added_along a b before after same added = record { added = added.added; is = sym same ∙ added.is; steps = added.steps }

line_there : (once : Bool) (assigned : List ℕ) (names : Naming) (ss : List Stmt) (places : List StatementPlace) (i : ℕ) (s : Stmt) (place : StatementPlace) →
    Some s ≡ slice_get ss i → Some place ≡ slice_get places i → line_steps once assigned names ss places s place ≡ line_at once assigned names ss places i
unfolding line_at line_by
line_there once assigned names ss places i s place there stands = ap (λ o. line_by once assigned names ss places o (Some place)) there ∙ ap (line_by once assigned names ss places (slice_get ss i)) stands

pub line_at-there : (once : Bool) (assigned : List ℕ) (names : Naming) (ss : List Stmt) (places : List StatementPlace) (i : ℕ) (s : Stmt) (place : StatementPlace) (before after : List tree.Step) →
    Some s ≡ slice_get ss i → Some place ≡ slice_get places i → AreAdded (line_steps once assigned names ss places s place) before after →
    AreAdded (line_at once assigned names ss places i) before after
line_at-there once assigned names ss places i s place before after there stands =
    added_along (line_steps once assigned names ss places s place) (line_at once assigned names ss places i) before after (line_there once assigned names ss places i s place there stands)

none_added : (code : Option (List Step)) (steps : List tree.Step) → code ≡ Some [] → AreAdded code steps steps
none_added code steps is = record { added = []; is = is; steps = sym (append-nil (steps_of steps)) }

none_without : (once : Bool) (assigned : List ℕ) (names : Naming) (ss : List Stmt) (places : List StatementPlace) (o : Option Stmt) → line_by once assigned names ss places o None ≡ Some []
unfolding line_by
none_without once assigned names ss places None = refl
none_without once assigned names ss places (Some s) = refl

pub line_at-no_statement : (once : Bool) (assigned : List ℕ) (names : Naming) (ss : List Stmt) (places : List StatementPlace) (i : ℕ) (steps : List tree.Step) → None ≡ slice_get ss i →
    AreAdded (line_at once assigned names ss places i) steps steps
unfolding line_at line_by
line_at-no_statement once assigned names ss places i steps none =
    none_added (line_at once assigned names ss places i) steps (ap (λ s. line_by once assigned names ss places s (slice_get places i)) (sym none))

pub line_at-no_place : (once : Bool) (assigned : List ℕ) (names : Naming) (ss : List Stmt) (places : List StatementPlace) (i : ℕ) (steps : List tree.Step) → None ≡ slice_get places i →
    AreAdded (line_at once assigned names ss places i) steps steps
unfolding line_at
line_at-no_place once assigned names ss places i steps none =
    none_added (line_at once assigned names ss places i) steps
    (ap (line_by once assigned names ss places (slice_get ss i)) (sym none) ∙ none_without once assigned names ss places (slice_get ss i))

-- ALL LINES
pub lines_steps-none : (once : Bool) (assigned : List ℕ) (names : Naming) (ss : List Stmt) (places : List StatementPlace) → lines_steps once assigned names ss places 0 ≡ Some []
unfolding lines_steps
lines_steps-none once assigned names ss places = joined_none both_codes (Some []) (line_at once assigned names ss places)

lines_steps-more : (once : Bool) (assigned : List ℕ) (names : Naming) (ss : List Stmt) (places : List StatementPlace) (i : ℕ) →
    lines_steps once assigned names ss places (i + 1) ≡ both_codes (lines_steps once assigned names ss places i) (line_at once assigned names ss places i)
unfolding lines_steps
lines_steps-more once assigned names ss places i = joined_more both_codes (Some []) (line_at once assigned names ss places) i

both_added : (one more : List Step) → both_codes (Some one) (Some more) ≡ Some (one ++ more)
unfolding both_codes
both_added one more = refl

pub lines_added : (once : Bool) (assigned : List ℕ) (names : Naming) (ss : List Stmt) (places : List StatementPlace) (i : ℕ) (before after : List tree.Step) →
    lines_steps once assigned names ss places i ≡ Some (steps_of before) → AreAdded (line_at once assigned names ss places i) before after →
    lines_steps once assigned names ss places (i + 1) ≡ Some (steps_of after)
lines_added once assigned names ss places i before after so_far line =
    lines_steps-more once assigned names ss places i ∙ ap (λ o. both_codes o (line_at once assigned names ss places i)) so_far ∙ ap (both_codes (Some (steps_of before))) line.is
    ∙ both_added (steps_of before) line.added ∙ ap Some (sym line.steps)
