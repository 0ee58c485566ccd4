-- The parts of a file that are spelled are read, where bodies are.
use Rattle.std.proofs.Common.{◌≡◌, refl, sym, ap, ◌∙◌, subst, ℕ, zero, suc, ◌+◌, ◌≤◌, true, false, List, [], ◌∷◌, codes, arith}
use Rattle.c_file_readers.specs.c_tree.declared.types.ResultType.{ResultType}
use Rattle.c_file_readers.specs.c_tree.declared.types.ResultType.TheVariants as result
use Rattle.c_file_readers.specs.c_tree.declared.file.CObject.{CObject}
use Rattle.c_file_readers.specs.c_tree.declared.file.CConstant.{CConstant}
use Rattle.c_file_readers.specs.c_tree.declared.file.CFunction.{CFunction}
use Rattle.c_file_readers.specs.c_tree.declared.file.CFile.{CFile}
use Rattle.c_file_readers.specs.c_tree.Tokens.{Word, Sign}
use Rattle.c_file_readers.specs.c_tree.CWords.{AWord, result_word}
use Rattle.c_file_readers.specs.c_tree.CExpressionText.{Scope}
use Rattle.c_file_readers.specs.c_tree.CDeclarationText as text
use Rattle.c_file_readers.specs.c_tree.CDeclarationText.{ReadsArray, ReadsObject, with_object, with_array, with_function}
use Rattle.c_file_readers.specs.c_tree.CText as grammar
use Rattle.c_file_readers.specs.c_tree.CText.{ReadsFunction, ReadsConstant}
use Rattle.c_file_readers.specs.c_readers.Readers.{Tokens, found, ◌>>=◌}
use Rattle.c_file_readers.specs.c_readers.DeclarationReader.{is_new}
use Rattle.c_statement_laws.proofs.c_grammar_laws.CallComplete.{Soon}
use Rattle.c_statement_laws.proofs.c_grammar_laws.FreshNames.{passes-new}
use Rattle.c_statement_laws.specs.StatementLaws.{InOrder, ScopesInOrder}
use Rattle.c_file_readers.specs.ObjectReader.{Named, an_object, a_constant}
use Rattle.c_file_readers.specs.FileReader as reader
use Rattle.c_file_readers.specs.FileReader.{a_function, Part, Objects, Constants, Functions, begins_object, may_be_object, may_be_constant, with_one_object, with_one_constant, with_one_function, by_part, parts}
use Rattle.c_file_laws.proofs.ObjectReads.{object-read, constant-read}
use Rattle.c_file_laws.proofs.FunctionReads.{BodiesRead, function-read}
use Rattle.c_file_laws.proofs.PartsTo.{some-part, PartsTo, no_part, function_first, constant_first, object_first}
use Rattle.c_file_laws.proofs.PartsBehind.{joined, Fits, joined-none, joined-object, joined-constant, joined-function}

-- ## What stands first

record FunctionStart (p : Tokens) : Type 0 where
  of : ResultType
  name : List ℕ
  more : Tokens
  is : p ≡ Word (result_word of) ∷ Word name ∷ Sign (codes "(") ∷ more

function-start : {scope : Scope} {one : CFunction} {p q : Tokens} → ReadsFunction scope one p q → FunctionStart p
function-start (grammar.a_function of name {s = s} met word named opens heads closes begins declares statements) = record {
  of = of;
  name = name;
  more = s;
  is = word ∙ ap (λ z. Word (result_word of) ∷ z) (named ∙ ap (λ z. Word name ∷ z) opens);
}

function-no-object : (part : Part) (of : ResultType) (name : List ℕ) (more : Tokens) → may_be_object part (Word (result_word of) ∷ Word name ∷ Sign (codes "(") ∷ more) ≡ false
function-no-object Objects result.Int name more = refl
function-no-object Objects result.Integer name more = refl
function-no-object Objects result.Logical name more = refl
function-no-object Objects result.Void name more = refl
function-no-object Constants of name more = refl
function-no-object Functions of name more = refl

function-no-constant : (part : Part) (of : ResultType) (more : Tokens) → may_be_constant part (Word (result_word of) ∷ more) ≡ false
function-no-constant Objects result.Int more = refl
function-no-constant Objects result.Integer more = refl
function-no-constant Objects result.Logical more = refl
function-no-constant Objects result.Void more = refl
function-no-constant Constants result.Int more = refl
function-no-constant Constants result.Integer more = refl
function-no-constant Constants result.Logical more = refl
function-no-constant Constants result.Void more = refl
function-no-constant Functions of more = refl

constant-start : {one : CConstant} {p q : Tokens} → ReadsConstant one p q → (r : Tokens) × AWord (codes "static") p r
constant-start (grammar.a_constant name {q = q} first second named equals value ends) = (q, first)

constant-no-object : (part : Part) (more : Tokens) → may_be_object part (Word (codes "static") ∷ more) ≡ false
constant-no-object Objects more = refl
constant-no-object Constants more = refl
constant-no-object Functions more = refl

takes-constant : (part : Part) (first : CConstant) (later : List CConstant) → Fits part [] (first ∷ later) → (more : Tokens) → may_be_constant part (Word (codes "static") ∷ more) ≡ true
takes-constant Objects first later fits more = refl
takes-constant Constants first later fits more = refl
takes-constant Functions first later fits more = absurd (some-part first later fits.1)

record ArrayStart (name : List ℕ) (p : Tokens) : Type 0 where
  more : Tokens
  is : p ≡ Word name ∷ Sign (codes "[") ∷ more

array-start : {name : List ℕ} {n : ℕ} {p q : Tokens} → ReadsArray name n p q → ArrayStart name p
array-start (text.an_array name n {r = r} l named opens is closes) = record { more = r; is = named ∙ ap (λ z. Word name ∷ z) opens }

object-start : {one : CObject} {name : List ℕ} {p q : Tokens} → ReadsObject one name p q → begins_object p ≡ true
object-start (text.integers name n word array reads) = ap begins_object (word ∙ ap (λ z. Word (codes "integer") ∷ z) (array-start array).is)
object-start (text.chars name n word array reads) = ap begins_object word

-- ## One part

module _ (nests count : ℕ) (scope : Scope) (here : List (List ℕ)) (before : CFile) where
  by-object : (one : Named) (p q : Tokens) → begins_object p ≡ true → an_object (is_new here) p ≡ found one q
      → parts nests (suc count) Objects scope here before p ≡ parts nests count Objects (with_array one.1 scope) (one.1 ∷ here) (with_one_object one.0 before) q
  unfolding parts by_part reader.an_object_and_more
  by-object one [] q h g = absurd (let e : false ≡ true = h in cc)
  by-object one (token ∷ more) q h g =
      ap (λ z. by_part nests (parts nests count) scope here before (token ∷ more) z (may_be_constant Objects (token ∷ more))) h
      ∙ ap (λ z. z >>= (λ x. parts nests count Objects (with_array x.1 scope) (x.1 ∷ here) (with_one_object x.0 before))) g

  by-constant : (part : Part) (one : CConstant) (more q : Tokens) → may_be_constant part (Word (codes "static") ∷ more) ≡ true
      → a_constant (is_new here) (Word (codes "static") ∷ more) ≡ found one q
      → parts nests (suc count) part scope here before (Word (codes "static") ∷ more) ≡ parts nests count Constants (with_object one.name scope) (one.name ∷ here) (with_one_constant one before) q
  unfolding parts by_part reader.a_constant_and_more
  by-constant part one more q h g =
      (λ i. by_part nests (parts nests count) scope here before (Word (codes "static") ∷ more) (constant-no-object part more i) (h i))
      ∙ ap (λ z. z >>= (λ x. parts nests count Constants (with_object x.name scope) (x.name ∷ here) (with_one_constant x before))) g

  by-function : (part : Part) (one : CFunction) (of : ResultType) (name : List ℕ) (more q : Tokens)
      → a_function nests scope (is_new here) (Word (result_word of) ∷ Word name ∷ Sign (codes "(") ∷ more) ≡ found one q
      → parts nests (suc count) part scope here before (Word (result_word of) ∷ Word name ∷ Sign (codes "(") ∷ more)
      ≡ parts nests count Functions (with_function one.name scope) (one.name ∷ here) (with_one_function one before) q
  unfolding parts by_part reader.a_function_and_more
  by-function part one of name more q g =
      (λ i. by_part nests (parts nests count) scope here before (Word (result_word of) ∷ Word name ∷ Sign (codes "(") ∷ more)
      (function-no-object part of name more i) (function-no-constant part of (Word name ∷ Sign (codes "(") ∷ more) i))
      ∙ ap (λ z. z >>= (λ x. parts nests count Functions (with_function x.name scope) (x.name ∷ here) (with_one_function x before))) g

  constant-step : (part : Part) (one : CConstant) (later : List CConstant) (p q : Tokens) → Fits part [] (one ∷ later) → ReadsConstant one p q → a_constant (is_new here) p ≡ found one q
      → parts nests (suc count) part scope here before p ≡ parts nests count Constants (with_object one.name scope) (one.name ∷ here) (with_one_constant one before) q
  constant-step part one later p q fits reads =
      let s = constant-start reads in
      subst (λ z. a_constant (is_new here) z ≡ found one q
      → parts nests (suc count) part scope here before z ≡ parts nests count Constants (with_object one.name scope) (one.name ∷ here) (with_one_constant one before) q)
      (sym s.1) (by-constant part one s.0 q (takes-constant part one later fits s.0))

  function-step : (part : Part) (one : CFunction) (p q : Tokens) → ReadsFunction scope one p q → a_function nests scope (is_new here) p ≡ found one q
      → parts nests (suc count) part scope here before p ≡ parts nests count Functions (with_function one.name scope) (one.name ∷ here) (with_one_function one before) q
  function-step part one p q reads =
      let s = function-start reads in
      subst (λ z. a_function nests scope (is_new here) z ≡ found one q
      → parts nests (suc count) part scope here before z ≡ parts nests count Functions (with_function one.name scope) (one.name ∷ here) (with_one_function one before) q)
      (sym s.is) (by-function part one s.of s.name s.more q)

  end-step : (part : Part) → parts nests (suc count) part scope here before [] ≡ found (joined before [] [] []) []
  unfolding parts
  end-step part = ap (λ z. found z []) (joined-none before)

-- ## All parts

-- what holds from some numbers on, with one part more
part-more : {P Q : ℕ → ℕ → Type 0} (first : ℕ) → ((nests count : ℕ) → first ≤ nests → P nests count → Q nests (suc count)) → Soon P → Soon Q
part-more {P = P} {Q = Q} first step s = record { first = suc (first + s.first); holds = by }
  where
    by : (nests count : ℕ) → suc (first + s.first) ≤ nests → suc (first + s.first) ≤ count → Q nests count
    by nests zero h g = absurd (let k : suc (first + s.first) ≤ 0 = g in omega (arith, k))
    by nests (suc count) h g = step nests count (omega (arith, h)) (s.holds nests count (omega (arith, h)) (omega (arith, g)))

abbrev pub PartsRead : Part → Scope → List (List ℕ) → CFile → List CObject → List CConstant → List CFunction → Tokens → Type 0
PartsRead part scope here before objects constants functions p = Soon (λ nests count. parts nests count part scope here before p ≡ found (joined before objects constants functions) [])

ends-read : (part : Part) (scope : Scope) (here : List (List ℕ)) (before : CFile) (p : Tokens) → p ≡ [] → PartsRead part scope here before [] [] [] p
ends-read part scope here before p end =
    subst (λ z. PartsRead part scope here before [] [] [] z) (sym end) (record { first = 1; holds = by })
  where
    by : (nests count : ℕ) → 1 ≤ nests → 1 ≤ count → parts nests count part scope here before [] ≡ found (joined before [] [] []) []
    by nests zero h g = absurd (let k : 1 ≤ 0 = g in omega (arith, k))
    by nests (suc count) h g = end-step nests count scope here before part

object-more : (part : Part) (scope : Scope) (here : List (List ℕ)) (before : CFile) (one : CObject) (name : List ℕ) (objects : List CObject) (constants : List CConstant) (functions : List CFunction)
    (p q : Tokens) → Fits part (one ∷ objects) constants → ReadsObject one name p q → an_object (is_new here) p ≡ found (one, name) q
    → PartsRead Objects (with_array name scope) (name ∷ here) (with_one_object one before) objects constants functions q → PartsRead part scope here before (one ∷ objects) constants functions p
object-more Objects scope here before one name objects constants functions p q fits reads is s =
    part-more 0 (λ nests count h z. by-object nests count scope here before (one, name) p q (object-start reads) is ∙ (z ∙ ap (λ x. found x []) (joined-object before one objects constants functions))) s
object-more Constants scope here before one name objects constants functions p q fits reads is s = absurd (some-part one objects fits)
object-more Functions scope here before one name objects constants functions p q fits reads is s = absurd (some-part one objects fits.0)

module _ (scopes : ScopesInOrder) (whole : BodiesRead) where
  pub parts-read : {scope : Scope} {here : List (List ℕ)} {objects : List CObject} {constants : List CConstant} {functions : List CFunction} {p q : Tokens}
      → PartsTo scope here objects constants functions p q → q ≡ [] → (part : Part) → Fits part objects constants → InOrder scope → (before : CFile)
      → PartsRead part scope here before objects constants functions p
  parts-read (no_part scope here {p = p}) end part fits good before = ends-read part scope here before p end
  parts-read (function_first scope here {first = first} {later = later} {p = p} {q = q} reads new more) end part fits good before =
      let e = function-read scopes whole (is_new here) scope first p q good new.named (passes-new here first.name new) reads in
      part-more e.first
      (λ nests count h z. function-step nests count scope here before part first p q reads (e.holds nests h) ∙ (z ∙ ap (λ x. found x []) (joined-function before first [] [] later)))
      (parts-read more end Functions (refl, refl) (scopes.function first.name scope new.named good) (with_one_function first before))
  parts-read (constant_first scope here {first = first} {later = later} {functions = functions} {p = p} {q = q} reads new more) end part fits good before =
      part-more 0
      (λ nests count h z. constant-step nests count scope here before part first later p q fits reads (constant-read (is_new here) first p q (passes-new here first.name new) reads)
      ∙ (z ∙ ap (λ x. found x []) (joined-constant before first [] later functions)))
      (parts-read more end Constants refl (scopes.object first.name scope new.named good) (with_one_constant first before))
  parts-read (object_first scope here {first = first} {name = name} {later = later} {constants = constants} {functions = functions} {p = p} {q = q} reads new more) end part fits good before =
      object-more part scope here before first name later constants functions p q fits reads (object-read (is_new here) first name p q (passes-new here name new) reads)
      (parts-read more end Objects tt (scopes.array name scope new.named good) (with_one_object first before))
