-- What the readers of expressions and of calls give where few nests may be open, they give where more may be.
use Rattle.std.proofs.Common.{◌≡◌, refl, sym, ap, ◌∙◌, subst, ℕ, ◌≤◌, le_refl, Bool, true, false, ◌&&◌, codes, bytes_eq, List, [], ◌∷◌, ◌++◌, Option, Some, None, Result, Ok, Err, arith}
use Rattle.c_tree.specs.declared.expression.CExpr.{CExpr}
use Rattle.c_tree.specs.declared.expression.CCall.{CCall}
use Rattle.c_tree.specs.Tokens.{Word, Digits, Quoted, Sign, Including, Bad}
use Rattle.c_tree.specs.CWords.{is_among}
use Rattle.c_tree.specs.CExpressionText.{Scope}
use Rattle.c_readers.specs.Readers.{Tokens, Outcome, Reader, ◌>>=◌, a_sign, a_name}
use Rattle.c_readers.specs.ExpressionReader.{expression}
use Rattle.c_readers.specs.CallReader.{arguments, called, through_a_parameter, starred, has_some, by_function, by_opening, call}
use Rattle.c_readers.specs.grammar.Exactness.{Took, Stopped, Judged, Good}
use Rattle.c_statement_laws.proofs.c_grammar_laws.ExpressionGood.{good_expressions}
use Rattle.c_statement_laws.proofs.c_grammar_laws.CallGood.{all_good_arguments}
use Rattle.c_expression_reader.specs.declared.failure.Failure.{Failure}
use Rattle.c_expression_reader.specs.declared.failure.Failure.TheVariants.{Memory, NotC}
use Rattle.c_expression_reader.specs.Readings.{shown, Gives}

-- what one reading gives, another gives too
abbrev pub Lasts : {A : Type 0} → Option (Outcome A) → Option (Outcome A) → Type 0
Lasts {A = A} few more = (outcome : Outcome A) → few ≡ Some outcome → more ≡ Some outcome

pub none-lasts : {A : Type 0} (more : Option (Outcome A)) → Lasts None more
none-lasts more outcome h = absurd (cc)

judged-lasts : {A : Type 0} (nests : ℕ) (Spelled : A → Tokens → Tokens → Type 0) (more : Reader A) (tokens : Tokens) (given : Option (Outcome A))
    → Judged nests Spelled more tokens given → Lasts given (more tokens)
judged-lasts nests Spelled more tokens None judged outcome h = none-lasts (more tokens) outcome h
judged-lasts nests Spelled more tokens (Some (Ok p)) judged outcome h = (ap more judged.whole ∙ judged.local p.1 refl) ∙ h
judged-lasts nests Spelled more tokens (Some (Err rest)) judged outcome h = (ap more judged.whole ∙ judged.local rest refl) ∙ h

good-lasts : {A : Type 0} {nests : ℕ} {Spelled : A → Tokens → Tokens → Type 0} {read more : Reader A} (tokens : Tokens) → Good nests Spelled read more
    → Lasts (read tokens) (more tokens)
good-lasts {nests = nests} {Spelled = Spelled} {read = read} {more = more} tokens good = judged-lasts nests Spelled more tokens (read tokens) (good.judged tokens)

pub same-lasts : {A : Type 0} (given : Option (Outcome A)) → Lasts given given
same-lasts given outcome h = h

pub then-lasts : {A B : Type 0} (first : Option (Outcome A)) (few more : A → Reader B) → ((x : A) (p : Tokens) → Lasts (few x p) (more x p))
    → Lasts (first >>= few) (first >>= more)
then-lasts None few more lasts outcome h = h
then-lasts (Some (Err rest)) few more lasts outcome h = h
then-lasts (Some (Ok p)) few more lasts outcome h = lasts p.0 p.1 outcome h

pub first-lasts : {A B : Type 0} (few more : Option (Outcome A)) (next : A → Reader B) → Lasts few more → Lasts (few >>= next) (more >>= next)
first-lasts None more next lasts outcome h = absurd (cc)
first-lasts (Some given) more next lasts outcome h = subst (λ z. (z >>= next) ≡ Some outcome) (sym (lasts given refl)) h

pub both-last : {A B : Type 0} (few more : Option (Outcome A)) (next further : A → Reader B) → Lasts few more → ((x : A) (p : Tokens) → Lasts (next x p) (further x p))
    → Lasts (few >>= next) (more >>= further)
both-last few more next further lasts further-lasts outcome h = first-lasts few more further lasts outcome (then-lasts few next further further-lasts outcome h)

pub gives-lasts : {A B : Type 0} (found : A → B × Tokens) (result : Result A Failure) (few more : Option (Outcome B)) → Lasts few more → Gives found result few
    → Gives found result more
gives-lasts found (Ok x) few more lasts h = lasts (Ok (found x)) h
gives-lasts found (Err (NotC rest)) few more lasts h = lasts (Err (shown rest.now)) h
gives-lasts found (Err Memory) few more lasts h = tt

-- ## Expressions

expression-lasts : (scope : Scope) (few count place : ℕ) (tokens : Tokens) → few ≤ count → place ≤ 9 → Lasts (expression scope few place tokens) (expression scope count place tokens)
expression-lasts scope few count place tokens least within =
    good-lasts tokens (good_expressions scope few count place least within)

pub expression_lasts : {A : Type 0} (found : A → CExpr × Tokens) (scope : Scope) (few count place : ℕ) (tokens : Tokens) (result : Result A Failure) → few ≤ count → place ≤ 9
    → Gives found result (expression scope few place tokens) → Gives found result (expression scope count place tokens)
expression_lasts found scope few count place tokens result least within h =
    gives-lasts found result (expression scope few place tokens) (expression scope count place tokens) (expression-lasts scope few count place tokens least within) h

-- ## Calls

arguments-lasts : (scope : Scope) (few count : ℕ) (tokens : Tokens) → few ≤ count → Lasts (arguments scope few count tokens) (arguments scope count count tokens)
arguments-lasts scope few count tokens least =
    good-lasts tokens (all_good_arguments scope few count count count least least (le_refl count))

called-lasts : (scope : Scope) (few count : ℕ) (through : Bool) (name : List ℕ) (tokens : Tokens) → few ≤ count
    → Lasts (called scope few count through name tokens) (called scope count count through name tokens)
unfolding called
called-lasts scope few count through name tokens least =
    then-lasts (a_sign (codes "(") tokens) _ _ (λ u p. first-lasts (arguments scope few count p) (arguments scope count count p) _ (arguments-lasts scope few count p least))

through-lasts : (scope : Scope) (few count : ℕ) (tokens : Tokens) → few ≤ count → Lasts (through_a_parameter scope few count tokens) (through_a_parameter scope count count tokens)
unfolding through_a_parameter
through-lasts scope few count tokens least =
    then-lasts (a_name (λ name. is_among name scope.pointers) tokens) _ _
    (λ name p. then-lasts (a_sign (codes ")") p) _ _ (λ u q. called-lasts scope few count true name q least))

starred-lasts : (scope : Scope) (few count : ℕ) (tokens : Tokens) → few ≤ count → Lasts (starred scope few count tokens) (starred scope count count tokens)
unfolding starred
starred-lasts scope few count tokens least = then-lasts (a_sign (codes "*") tokens) _ _ (λ u p. through-lasts scope few count p least)

function-lasts : (scope : Scope) (few count : ℕ) (name : List ℕ) (more : Tokens) (is : Bool) → few ≤ count
    → Lasts (by_function scope few count name more is) (by_function scope count count name more is)
unfolding by_function
function-lasts scope few count name more true least = called-lasts scope few count false name more least
function-lasts scope few count name more false least = λ outcome h. h

opening-lasts : (scope : Scope) (few count : ℕ) (text : List ℕ) (more : Tokens) (is : Bool) → few ≤ count
    → Lasts (by_opening scope few count text more is) (by_opening scope count count text more is)
unfolding by_opening
opening-lasts scope few count text more true least = starred-lasts scope few count more least
opening-lasts scope few count text more false least = λ outcome h. h

call-lasts : (scope : Scope) (few count : ℕ) (tokens : Tokens) → few ≤ count → Lasts (call scope few count tokens) (call scope count count tokens)
unfolding call
call-lasts scope few count [] least = λ outcome h. h
call-lasts scope few count (Word name ∷ more) least = function-lasts scope few count name more (is_among name scope.functions) least
call-lasts scope few count (Sign text ∷ more) least = opening-lasts scope few count text more (bytes_eq text (codes "(") && has_some scope.pointers) least
call-lasts scope few count (Digits n ∷ more) least = λ outcome h. h
call-lasts scope few count (Quoted bytes ∷ more) least = λ outcome h. h
call-lasts scope few count (Including ∷ more) least = λ outcome h. h
call-lasts scope few count (Bad ∷ more) least = λ outcome h. h

pub call_lasts : {A : Type 0} (found : A → CCall × Tokens) (scope : Scope) (few count : ℕ) (tokens : Tokens) (result : Result A Failure) → few ≤ count
    → Gives found result (call scope few count tokens) → Gives found result (call scope count count tokens)
call_lasts found scope few count tokens result least h =
    gives-lasts found result (call scope few count tokens) (call scope count count tokens) (call-lasts scope few count tokens least) h
