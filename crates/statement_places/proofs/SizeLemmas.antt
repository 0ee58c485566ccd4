-- Steps as the code counts them.
use Rattle.std.proofs.Common.{◌≡◌, ℕ, zero, suc, ◌+◌, ◌<◌, ◌≤◌, Bool, true, false, ◌&&◌, List, [], ◌∷◌, ◌++◌, drop, get_or, length, Option, Some, Ok, Err, refl, sym, ap, subst, ◌∙◌, arith}
use Rattle.std.specs.Prelude.{slice_get}
use Rattle.std.proofs.lemmas.List.{drop_all}
use Rattle.f_tree.specs.declared.statements.Body as whole
use Rattle.f_tree.specs.declared.statements.Body.{Body, IfOne', more_of-Body}
use Rattle.f_tree.specs.declared.statements.Stmt.{Stmt}
use Rattle.f_tree.specs.Folds.{fold_body, layer_of}
use Rattle.lowering.specs.l_core.Steps as act
use Rattle.expression_lowering.specs.lowered_tree.declared.steps.Step.{Step}
use Rattle.expression_lowering.specs.lowered_tree.Shapes.{steps_of}
use Rattle.name_facts.specs.declared.table.NameFacts.{NameFacts}
use Rattle.expression_lowering.specs.declared.answers.LowerError.{LowerError}
use Rattle.expression_lowering.specs.declared.answers.LowerError.TheVariants.{NotLowered, NoMemory}
use Rattle.statement_lowering.specs.declared.around.Around.{Around}
use Rattle.statement_lowering.specs.LoweredStatements.{layer_lowers, is_lowered_statement}
use Rattle.open_loops.specs.LoopPlaces.{loop_lowers, loops_lower}
use Rattle.statement_lowering.specs.StatementForms.{Forms, forms_of}
use Rattle.statement_lowering.specs.StatementOutcomes.{IsLoweredForm, IsOutcome}
use Rattle.statement_places.specs.StatementPlaces.{statements_lower}
use Rattle.lowering.specs.Units.{is_named}
use Rattle.open_loops.specs.declared.places.LoopPlace.{LoopPlace}
use Rattle.statement_places.specs.declared.sizes.Size.{Size}
use Rattle.statement_places.specs.StatementSizes.{turn_size_in, turn_sizes_in, free_in, ended_in, IsCodeSize, IsSize, AreSizes}
use Rattle.statement_places.proofs.ListLemmas.{rest_is, same_read}

-- TURNS
turns_step : (ss : List Stmt) (k : ℕ) (ks : List ℕ) → turn_sizes_in ss (k ∷ ks) ≡ turn_size_in ss k + turn_sizes_in ss ks
unfolding turn_sizes_in
turns_step ss k ks = refl

turns_none : (ss : List Stmt) → turn_sizes_in ss [] ≡ 0
unfolding turn_sizes_in
turns_none ss = refl

pub turns_more : (ss : List Stmt) (ks : List ℕ) (i k d sum after whole : ℕ) → i < length ks → k ≡ get_or ks i d → sum + turn_sizes_in ss (drop i ks) ≡ whole → after ≡ sum + turn_size_in ss k
    → after + turn_sizes_in ss (drop (i + 1) ks) ≡ whole
turns_more ss ks i k d sum after whole h is so_far put =
    let here = ap (turn_sizes_in ss) (rest_is ks i k d h is) ∙ turns_step ss k (drop (i + 1) ks) in
    omega (arith, so_far, put, here)

pub turns_end : (ss : List Stmt) (ks : List ℕ) (i sum whole : ℕ) → length ks ≤ i → sum + turn_sizes_in ss (drop i ks) ≡ whole → sum ≡ whole
turns_end ss ks i sum whole h so_far =
    let none = ap (turn_sizes_in ss) (drop_all i ks h) ∙ turns_none ss in
    omega (arith, so_far, none)

-- WHAT LOWERING ANSWERS
pub refused : (table : NameFacts) (around : Around) (lowers : Bool) (forms : Forms) (before after : List Step) (e : LowerError) → IsOutcome table around lowers forms before after (Err e)
    → e ≡ NotLowered → lowers ≡ false
unfolding IsOutcome
refused table around lowers forms before after NotLowered said is = said.0
refused table around lowers forms before after NoMemory said is = absurd (cc)

lowered : (table : NameFacts) (around : Around) (lowers : Bool) (forms : Forms) (before after : List Step) (a : Unit {0}) → IsOutcome table around lowers forms before after (Ok a)
    → IsLoweredForm table around lowers forms before after
unfolding IsOutcome
lowered table around lowers forms before after a said = said

count_steps : (xs : List Step) → length (steps_of xs) ≡ length xs
count_steps [] = refl
count_steps (x ∷ xs) = ap suc (count_steps xs)

count_added : (before after : List Step) (added : List act.Step) → before ≡ [] → steps_of after ≡ steps_of before ++ added → length after ≡ length added
count_added before after added none is = sym (count_steps after) ∙ ap length (is ∙ ap (λ (xs : List Step). steps_of xs ++ added) none)

pub counted : (table : NameFacts) (once : Bool) (assigned : List ℕ) (free : ℕ) (b : Body) (before after : List Step) (a : Unit {0}) (n : ℕ) → before ≡ [] → n ≡ length after
    → IsOutcome table (record { once = once; free = free; room = 0 }) (is_lowered_statement table b) (forms_of assigned b) before after (Ok a) → IsCodeSize table once assigned free b n
unfolding forms_of
counted table once assigned free b before after a n none is said =
    let known = lowered table (record { once = once; free = free; room = 0 }) (is_lowered_statement table b) (forms_of assigned b) before after a said in
    record {
      lowers = known.built;
      meant = λ names told.
          let steps = known.meant names told in
          record { added = steps.added; is = steps.is; count = is ∙ count_added before after steps.added none steps.steps };
    }

-- a statement that is not lowered is among the others
and_none : (b : Bool) → (b && false) ≡ false
and_none true = refl
and_none false = refl

pub some_refused : (table : NameFacts) (ss : List Stmt) (i : ℕ) (s d : Stmt) → i < length ss → s ≡ get_or ss i d → is_lowered_statement table s.body ≡ false → statements_lower table ss ≡ false
unfolding statements_lower
some_refused table [] i s d h is none = absurd (omega (arith, h))
some_refused table (t ∷ ss) zero s d h is none = ap (λ b. b && statements_lower table ss) (ap (λ (x : Stmt). is_lowered_statement table x.body) (sym is) ∙ none)
some_refused table (t ∷ ss) (suc i) s d h is none =
    ap (λ b. is_lowered_statement table t.body && b) (some_refused table ss i s d (let e : suc i < suc (length ss) = h in omega (arith, e)) is none) ∙ and_none (is_lowered_statement table t.body)

-- the sizes of statements so far, and one more
pub size_here : (table : NameFacts) (once : Bool) (assigned labels : List ℕ) (ss : List Stmt) (loops : List LoopPlace) (i : ℕ) (s t d : Stmt) (free : ℕ) (ended : List ℕ) (named : Bool) (b : Body) (label : Option ℕ)
    (size : Size) → i < length ss → s ≡ get_or ss i d → IsSize table once assigned ss free ended named b size → b ≡ s.body → free ≡ free_in loops i → ended ≡ ended_in loops i
    → named ≡ is_named labels label → label ≡ s.label → slice_get ss i ≡ Some t → IsSize table once assigned ss (free_in loops i) (ended_in loops i) (is_named labels t.label) t.body size
size_here table once assigned labels ss loops i s t d free ended named b label size h is known is_body is_free is_ended is_named' is_label at =
    subst (λ (x : Stmt). IsSize table once assigned ss (free_in loops i) (ended_in loops i) (is_named labels x.label) x.body size) (same_read ss i s t d h is at)
    (subst (λ x. IsSize table once assigned ss (free_in loops i) (ended_in loops i) (is_named labels s.label) x size) is_body
    (subst (λ x. IsSize table once assigned ss (free_in loops i) (ended_in loops i) x b size) (is_named' ∙ ap (is_named labels) is_label)
    (subst (λ ks. IsSize table once assigned ss (free_in loops i) ks named b size) is_ended (subst (λ n. IsSize table once assigned ss n ended named b size) is_free known))))

pub sized : (table : NameFacts) (once : Bool) (assigned labels : List ℕ) (ss : List Stmt) (loops : List LoopPlace) (sizes : List Size) (i : ℕ) → length sizes ≡ i → i ≡ length ss
    → ((k : ℕ) (size : Size) → slice_get sizes k ≡ Some size → (s : Stmt) → slice_get ss k ≡ Some s → IsSize table once assigned ss (free_in loops k) (ended_in loops k) (is_named labels s.label) s.body size)
    → AreSizes table once assigned labels ss loops sizes
sized table once assigned labels ss loops sizes i count all known = record { count = count ∙ all; each = known }

-- loops that are not lowered are among the statements
by_bool : (P : Type 0) (b : Bool) → (b ≡ true → P) → (b ≡ false → P) → P
by_bool P true yes' no' = yes' refl
by_bool P false yes' no' = no' refl

loop_refused : (table : NameFacts) (b : Body) → loop_lowers table b ≡ false → is_lowered_statement table b ≡ false
unfolding loop_lowers layer_of is_lowered_statement fold_body layer_lowers
loop_refused table (whole.Do label control) none = none
loop_refused table (IfOne' e s (more_of-Body b r)) none = absurd (cc)
loop_refused table _ none = absurd (cc)

pub loops_refused : (table : NameFacts) (ss : List Stmt) → loops_lower table ss ≡ false → statements_lower table ss ≡ false
unfolding loops_lower statements_lower
loops_refused table [] none = absurd (cc)
loops_refused table (s ∷ ss) none =
    by_bool ((is_lowered_statement table s.body && statements_lower table ss) ≡ false) (loop_lowers table s.body)
    (λ lowers.
    ap (λ b. is_lowered_statement table s.body && b) (loops_refused table ss (sym (ap (λ b. b && loops_lower table ss) lowers) ∙ none)) ∙ and_none (is_lowered_statement table s.body))
    (λ refuses. ap (λ b. b && statements_lower table ss) (loop_refused table s.body refuses))
