-- The parts of a file are read as they stand, where functions are.
use Rattle.std.proofs.Common.{◌≡◌, refl, sym, ap, subst, ℕ, zero, suc, ◌≤◌, le_refl, Bool, true, false, ◌&&◌, List, [], ◌∷◌, ◌++◌, codes, bytes_eq, if◌then◌else◌, Option, arith}
use Rattle.c_file_readers.specs.c_tree.declared.types.ResultType.TheVariants as result
use Rattle.c_file_readers.specs.c_tree.declared.file.CConstant.{CConstant}
use Rattle.c_file_readers.specs.c_tree.declared.file.CFunction.{CFunction}
use Rattle.c_file_readers.specs.c_tree.declared.file.CFile.{CFile}
use Rattle.c_file_readers.specs.c_tree.Tokens.{Token, Word, Sign}
use Rattle.c_file_readers.specs.c_tree.CExpressionText.{Scope}
use Rattle.c_file_readers.specs.c_tree.CDeclarationText.{IsNew, with_object, with_array, with_function}
use Rattle.c_file_readers.specs.c_readers.Readers.{Tokens, Outcome, Reader, ◌>>=◌}
use Rattle.c_file_readers.specs.c_readers.DeclarationReader.{is_new}
use Rattle.c_file_readers.specs.grammar.Exactness.{head, Judged, Good}
use Rattle.c_file_readers.proofs.grammar.Judging.{Onto, filled-then, judged-then-some, in_turn_of, good-as, judged-also, judged-fewer, behind-token, stays-end, at-the-token, at-the-end}
use Rattle.c_statement_laws.proofs.c_grammar_laws.TokenGood.{equal-texts, OneName, good-name}
use Rattle.c_statement_laws.proofs.c_grammar_laws.FreshNames.{fresh_name, fresh-new, new-name}
use Rattle.c_file_readers.specs.c_statement_readers.PartReader.{starts_with}
use Rattle.c_statement_laws.specs.StatementLaws.{InOrder, ScopesInOrder, GoodBodies}
use Rattle.c_file_readers.specs.ObjectReader.{Named}
use Rattle.c_file_readers.specs.FileReader as reader
use Rattle.c_file_readers.specs.FileReader.{function_behind, a_function, Part, Objects, Constants, Functions, with_one_object, with_one_constant, with_one_function, Further, by_part, parts}
use Rattle.c_file_laws.specs.FileLaws.{ObjectNew, ConstantNew, FunctionNew}
use Rattle.c_file_laws.proofs.ObjectGood.{ObjectBehind, good-integers-behind, good_objects, good_constants}
use Rattle.c_file_laws.proofs.FunctionGood.{FunctionBehind, good-function-behind, good_functions}
use Rattle.c_file_laws.proofs.PartsBehind.{Fits, PartsBehind, none-behind, object-behind, constant-behind, function-behind, object-long, constant-long, function-long}
use Rattle.c_file_laws.proofs.IntegerLed.{by_bracket, behind_integer, integer_led, led-same}

-- a reader that takes a token at least, with another behind it that may open a nest less
good-and-more : {A B : Type 0} {First : A → Tokens → Tokens → Type 0} {Whole : B → Tokens → Tokens → Type 0} {read more : Reader A} {next above : A → Reader B} (bound fewer : ℕ)
    → bound ≤ suc fewer → ((x : A) → First x [] [] → ⊥) → Good bound First read more
    → ((x : A) (p q : Tokens) → First x p q → Good fewer (Onto First Whole x) (next x) (above x)) → Good bound Whole (λ ts. read ts >>= next) (λ ts. more ts >>= above)
good-and-more {First = First} {Whole = Whole} {read = read} {more = more} {next = next} {above = above} bound fewer least some first later = record {
  able = filled-then First (Onto First Whole) Whole (λ x y p q r f n. n p f) [] first.able (later first.able.tree (first.able.later ++ []) [] (first.able.spelled [])).able;
  judged = λ tokens. judged-then-some First (Onto First Whole) Whole (λ x y p q r f n. n p f) bound fewer more next above tokens least some later (read tokens) (first.judged tokens);
}

-- a reader that reads as another does where this token stands first
judged-like : {A : Type 0} (Spelled : A → Tokens → Tokens → Type 0) {more above : Reader A} (bound : ℕ) (tokens : Tokens) (one other : Option (Outcome A))
    → ((p : Tokens) → head p ≡ head tokens → above p ≡ more p) → other ≡ one → Judged bound Spelled more tokens one → Judged bound Spelled above tokens other
judged-like Spelled {above = above} bound tokens one other lifts same judged =
    subst (λ z. Judged bound Spelled above tokens z) (sym same) (judged-also Spelled bound tokens lifts one judged)

no-object : (here : List (List ℕ)) (one : Named) → ObjectNew here one [] [] → ⊥
no-object here one new = let k : 3 ≤ 0 = object-long new.reads in omega (arith, k)

no-constant : (here : List (List ℕ)) (one : CConstant) → ConstantNew here one [] [] → ⊥
no-constant here one new = let k : 1 ≤ 0 = constant-long new.reads in omega (arith, k)

no-function : (scope : Scope) (here : List (List ℕ)) (one : CFunction) → FunctionNew scope here one [] [] → ⊥
no-function scope here one new = let k : 3 ≤ 0 = function-long new.reads in omega (arith, k)

module _ (scopes : ScopesInOrder) (bodies : GoodBodies) where
  module _ (bound fewer nests more count most : ℕ) (least : bound ≤ suc fewer) (low : bound ≤ nests) (wide : nests ≤ more) (scope : Scope) (here : List (List ℕ)) (before : CFile) (good : InOrder scope)
      (again : (part : Part) (scope : Scope) (here : List (List ℕ)) (before : CFile) → InOrder scope
      → Good fewer (PartsBehind part scope here before) (parts nests count part scope here before) (parts more most part scope here before)) where
    abbrev Behind : Part → CFile → Tokens → Tokens → Type 0
    Behind part = PartsBehind part scope here before

    -- ## A part, and what stands behind it

    good-object-first : Good bound (Behind Objects) (reader.an_object_and_more (parts nests count) scope here before) (reader.an_object_and_more (parts more most) scope here before)
    unfolding reader.an_object_and_more
    good-object-first =
        good-and-more {First = ObjectNew here} bound fewer least (no-object here) (good_objects here bound)
        (λ one p0 q0 is. good-as (λ made q r more front first. object-behind scope here before one made front q r first more)
        (again Objects (with_array one.1 scope) (one.1 ∷ here) (with_one_object one.0 before) (scopes.array one.1 scope is.fresh.named good)))

    good-constant-first : (part : Part) → ((constants : List CConstant) → Fits part [] constants)
        → Good bound (Behind part) (reader.a_constant_and_more (parts nests count) scope here before) (reader.a_constant_and_more (parts more most) scope here before)
    unfolding reader.a_constant_and_more
    good-constant-first part fit =
        good-and-more {First = ConstantNew here} bound fewer least (no-constant here) (good_constants here bound)
        (λ one p0 q0 is. good-as (λ made q r more front first. constant-behind scope here before part fit one made front q r first more)
        (again Constants (with_object one.name scope) (one.name ∷ here) (with_one_constant one before) (scopes.object one.name scope is.fresh.named good)))

    good-function-first : (part : Part)
        → Good bound (Behind part) (reader.a_function_and_more nests (parts nests count) scope here before) (reader.a_function_and_more more (parts more most) scope here before)
    unfolding reader.a_function_and_more
    good-function-first part =
        good-and-more {First = FunctionNew scope here} bound fewer least (no-function scope here) (good_functions scopes bodies scope here bound nests more good low wide)
        (λ one p0 q0 is. good-as (λ made q r more front first. function-behind scope here before part one made front q r first more)
        (again Functions (with_function one.name scope) (one.name ∷ here) (with_one_function one before) (scopes.function one.name scope is.fresh.named good)))

    -- ## Behind `integer`

    abbrev BehindInteger : List ℕ → CFile → Tokens → Tokens → Type 0
    BehindInteger name made p q = Behind Objects made (Word (codes "integer") ∷ Word name ∷ p) q

    good-bracket : (name : List ℕ) → IsNew name here → (opens : Bool)
        → Good bound (BehindInteger name) (λ ts. by_bracket nests (parts nests count) scope here before name ts opens) (λ ts. by_bracket more (parts more most) scope here before name ts opens)
    unfolding by_bracket
    good-bracket name new true =
        good-and-more {First = ObjectBehind here (codes "integer") name} bound fewer least
        (λ one first. let k : 3 ≤ 2 = object-long first.reads in omega (arith, k)) (good-integers-behind here name new)
        (λ one p0 q0 is. good-as (λ made q r more front first. object-behind scope here before one made (Word (codes "integer") ∷ Word name ∷ front) q r first more)
        (again Objects (with_array one.1 scope) (one.1 ∷ here) (with_one_object one.0 before) (scopes.array one.1 scope is.fresh.named good)))
    good-bracket name new false =
        good-and-more {First = FunctionBehind scope here result.Integer name} bound fewer least
        (λ one first. let k : 3 ≤ 2 = function-long first.reads in omega (arith, k)) (good-function-behind scopes bodies scope here good bound nests more low wide result.Integer name new)
        (λ one p0 q0 is. good-as (λ made q r more front first. function-behind scope here before Objects one made (Word (codes "integer") ∷ Word name ∷ front) q r first more)
        (again Functions (with_function one.name scope) (one.name ∷ here) (with_one_function one before) (scopes.function one.name scope is.fresh.named good)))

    as-bracket : (name : List ℕ) → IsNew name here → (opens : Bool) (tokens : Tokens) → starts_with (codes "[") tokens ≡ opens
        → ((p : Tokens) → head p ≡ head tokens → behind_integer more (parts more most) scope here before name p ≡ by_bracket more (parts more most) scope here before name p opens)
        → Judged bound (BehindInteger name) (behind_integer more (parts more most) scope here before name) tokens (behind_integer nests (parts nests count) scope here before name tokens)
    unfolding behind_integer
    as-bracket name new opens tokens is lifts =
        judged-like (BehindInteger name) bound tokens (by_bracket nests (parts nests count) scope here before name tokens opens)
        (by_bracket nests (parts nests count) scope here before name tokens (starts_with (codes "[") tokens)) lifts
        (ap (by_bracket nests (parts nests count) scope here before name tokens) is) ((good-bracket name new opens).judged tokens)

    behind-integer-judged : (name : List ℕ) → IsNew name here → (tokens : Tokens)
        → Judged bound (BehindInteger name) (behind_integer more (parts more most) scope here before name) tokens (behind_integer nests (parts nests count) scope here before name tokens)
    unfolding behind_integer
    behind-integer-judged name new [] =
        as-bracket name new false [] refl
        (at-the-end (λ p. behind_integer more (parts more most) scope here before name p ≡ by_bracket more (parts more most) scope here before name p false) refl)
    behind-integer-judged name new (Sign sign ∷ behind) =
        as-bracket name new (bytes_eq sign (codes "[")) (Sign sign ∷ behind) refl
        (at-the-token (λ p. behind_integer more (parts more most) scope here before name p ≡ by_bracket more (parts more most) scope here before name p (bytes_eq sign (codes "[")))
        (Sign sign) (λ p. refl))
    behind-integer-judged name new (token ∷ behind) =
        as-bracket name new false (token ∷ behind) refl
        (at-the-token (λ p. behind_integer more (parts more most) scope here before name p ≡ by_bracket more (parts more most) scope here before name p false) token (λ p. refl))

    good-behind-integer : (name : List ℕ) → IsNew name here
        → Good bound (BehindInteger name) (behind_integer nests (parts nests count) scope here before name) (behind_integer more (parts more most) scope here before name)
    good-behind-integer name new = record { able = (good-bracket name new false).able; judged = behind-integer-judged name new }

    good-integer-led : Good bound (λ made p q. Behind Objects made (Word (codes "integer") ∷ p) q)
        (integer_led nests (parts nests count) scope here before) (integer_led more (parts more most) scope here before)
    unfolding integer_led
    good-integer-led =
        in_turn_of {First = OneName (is_new here)} (good-name (is_new here) (fresh_name here) (fresh-new here))
        (λ name p0 q0 is. good-as (λ made p q spelled front named. subst (λ z. Behind Objects made (Word (codes "integer") ∷ z) q) (sym named.is) spelled)
        (good-behind-integer name (new-name here name is.passed)))

    integer-judged : (behind : Tokens)
        → Judged bound (Behind Objects) (parts more (suc most) Objects scope here before) (Word (codes "integer") ∷ behind) (parts nests (suc count) Objects scope here before (Word (codes "integer") ∷ behind))
    integer-judged behind =
        subst (λ z. Judged bound (Behind Objects) (parts more (suc most) Objects scope here before) (Word (codes "integer") ∷ behind) z) (sym (led-same nests count scope here before behind))
        (judged-fewer (Behind Objects) (parts more (suc most) Objects scope here before) bound (suc bound) (Word (codes "integer") ∷ behind) (omega arith) (integer_led nests (parts nests count) scope here before behind)
        (behind-token (λ made p q. Behind Objects made (Word (codes "integer") ∷ p) q) (Behind Objects) (integer_led more (parts more most) scope here before) (parts more (suc most) Objects scope here before) bound
        (Word (codes "integer")) behind (λ made p q spelled. spelled) (λ p. led-same more most scope here before p) (integer_led nests (parts nests count) scope here before behind)
        (good-integer-led.judged behind)))

    -- ## By the first word

    -- a part that begins with this token whatever stands behind it
    as-first : (part : Part) (token : Token) (behind : Tokens) (object constant : Bool)
        → ((p : Tokens) → reader.may_be_object part (token ∷ p) ≡ object) → ((p : Tokens) → reader.may_be_constant part (token ∷ p) ≡ constant)
        → Good bound (Behind part) (λ ts. by_part nests (parts nests count) scope here before ts object constant) (λ ts. by_part more (parts more most) scope here before ts object constant)
        → Judged bound (Behind part) (parts more (suc most) part scope here before) (token ∷ behind) (parts nests (suc count) part scope here before (token ∷ behind))
    unfolding parts
    as-first part token behind object constant one other g =
        judged-like (Behind part) bound (token ∷ behind) (by_part nests (parts nests count) scope here before (token ∷ behind) object constant) (parts nests (suc count) part scope here before (token ∷ behind))
        (at-the-token (λ p. parts more (suc most) part scope here before p ≡ by_part more (parts more most) scope here before p object constant) token
        (λ p i. by_part more (parts more most) scope here before (token ∷ p) (one p i) (other p i)))
        (λ i. by_part nests (parts nests count) scope here before (token ∷ behind) (one behind i) (other behind i)) (g.judged (token ∷ behind))

    good-by-object : (constant : Bool)
        → Good bound (Behind Objects) (λ ts. by_part nests (parts nests count) scope here before ts true constant) (λ ts. by_part more (parts more most) scope here before ts true constant)
    unfolding by_part
    good-by-object constant = good-object-first

    good-by-constant : (part : Part) → ((constants : List CConstant) → Fits part [] constants)
        → Good bound (Behind part) (λ ts. by_part nests (parts nests count) scope here before ts false true) (λ ts. by_part more (parts more most) scope here before ts false true)
    unfolding by_part
    good-by-constant part fit = good-constant-first part fit

    good-by-function : (part : Part)
        → Good bound (Behind part) (λ ts. by_part nests (parts nests count) scope here before ts false false) (λ ts. by_part more (parts more most) scope here before ts false false)
    unfolding by_part
    good-by-function part = good-function-first part

    constants-word : (word : List ℕ) (behind : Tokens) (static : Bool) → bytes_eq word (codes "static") ≡ static
        → Judged bound (Behind Constants) (parts more (suc most) Constants scope here before) (Word word ∷ behind) (parts nests (suc count) Constants scope here before (Word word ∷ behind))
    constants-word word behind true h = as-first Constants (Word word) behind false true (λ p. refl) (λ p. h) (good-by-constant Constants (λ constants. refl))
    constants-word word behind false h = as-first Constants (Word word) behind false false (λ p. refl) (λ p. h) (good-by-function Constants)

    objects-word : (word : List ℕ) (behind : Tokens) (char integer static : Bool) → bytes_eq word (codes "char") ≡ char → bytes_eq word (codes "integer") ≡ integer → bytes_eq word (codes "static") ≡ static
        → Judged bound (Behind Objects) (parts more (suc most) Objects scope here before) (Word word ∷ behind) (parts nests (suc count) Objects scope here before (Word word ∷ behind))
    objects-word word behind true integer static c i s =
        as-first Objects (Word word) behind true static
        (λ p. ap (λ (z : Bool). if z then true else (bytes_eq word (codes "integer") && reader.names_array p)) c) (λ p. s) (good-by-object static)
    objects-word word behind false true static c i s =
        subst (λ z. Judged bound (Behind Objects) (parts more (suc most) Objects scope here before) (Word z ∷ behind) (parts nests (suc count) Objects scope here before (Word z ∷ behind)))
        (sym (equal-texts word (codes "integer") i)) (integer-judged behind)
    objects-word word behind false false true c i s =
        as-first Objects (Word word) behind false true
        (λ p j. if c j then true else (i j && reader.names_array p)) (λ p. s) (good-by-constant Objects (λ constants. tt))
    objects-word word behind false false false c i s =
        as-first Objects (Word word) behind false false
        (λ p j. if c j then true else (i j && reader.names_array p)) (λ p. s) (good-by-function Objects)

    parts-judged : (part : Part) (tokens : Tokens)
        → Judged bound (Behind part) (parts more (suc most) part scope here before) tokens (parts nests (suc count) part scope here before tokens)
    unfolding parts
    parts-judged part [] = stays-end bound before (λ p. none-behind scope here before part p) refl
    parts-judged Objects (Word word ∷ behind) =
        objects-word word behind (bytes_eq word (codes "char")) (bytes_eq word (codes "integer")) (bytes_eq word (codes "static")) refl refl refl
    parts-judged Constants (Word word ∷ behind) = constants-word word behind (bytes_eq word (codes "static")) refl
    parts-judged Functions (token ∷ behind) = as-first Functions token behind false false (λ p. refl) (λ p. refl) (good-by-function Functions)
    parts-judged Objects (token ∷ behind) = as-first Objects token behind false false (λ p. refl) (λ p. refl) (good-by-function Objects)
    parts-judged Constants (token ∷ behind) = as-first Constants token behind false false (λ p. refl) (λ p. refl) (good-by-function Constants)

    pub good-step : (part : Part) → Good bound (Behind part) (parts nests (suc count) part scope here before) (parts more (suc most) part scope here before)
    good-step part = record { able = record { later = []; tree = before; spelled = λ behind. none-behind scope here before part behind }; judged = parts-judged part }

  pub good-parts : (bound nests more count most : ℕ) (part : Part) (scope : Scope) (here : List (List ℕ)) (before : CFile) → InOrder scope → bound ≤ nests → nests ≤ more → bound ≤ count → count ≤ most
      → Good bound (PartsBehind part scope here before) (parts nests count part scope here before) (parts more most part scope here before)
  unfolding parts
  good-parts bound nests more zero most part scope here before good low wide few high = record {
    able = record { later = []; tree = before; spelled = λ behind. none-behind scope here before part behind };
    judged = λ tokens. omega (arith, few);
  }
  good-parts bound nests more (suc count) zero part scope here before good low wide few high = absurd (let h : suc count ≤ 0 = high in omega (arith, h))
  good-parts zero nests more (suc count) (suc most) part scope here before good low wide few high =
      good-step zero zero nests more count most (omega arith) low wide scope here before good
      (λ other s names made order. good-parts zero nests more count most other s names made order (omega arith) wide (omega arith) (omega (arith, high))) part
  good-parts (suc bound) nests more (suc count) (suc most) part scope here before good low wide few high =
      good-step (suc bound) bound nests more count most (le_refl (suc bound)) low wide scope here before good
      (λ other s names made order. good-parts bound nests more count most other s names made order (omega (arith, low)) wide (omega (arith, few)) (omega (arith, high))) part
