-- Tokens that begin no well-formed file although each of them may stand in one: what the derivation of a file with them
-- at its front would have to be, form by form.
use Rattle.std.specs.Prelude.{◌≡◌, ◌≤◌, ℕ, ℤ, Bool, true, false, ◌||◌, List, [], ◌∷◌, length, codes, Option}
use Rattle.std.proofs.Common.{refl, ap, sym, ◌∙◌, subst, true≢false, le_refl, arith}
use Rattle.c_tree.specs.declared.types.FunctionType.TheVariants as pointer
use Rattle.c_tree.specs.declared.types.NumberType.{NumberType}
use Rattle.c_tree.specs.declared.types.NumberType.TheVariants as number
use Rattle.c_tree.specs.declared.types.ParameterType.{ParameterType}
use Rattle.c_tree.specs.declared.types.ParameterType.TheVariants as parameter
use Rattle.c_tree.specs.declared.expression.UnaryOp.{UnaryOp}
use Rattle.c_tree.specs.declared.expression.UnaryOp.TheVariants as prefix
use Rattle.c_tree.specs.declared.expression.Extreme.{Extreme}
use Rattle.c_tree.specs.declared.expression.Extreme.TheVariants as extreme
use Rattle.c_tree.specs.declared.expression.CExpr.{CExpr}
use Rattle.c_tree.specs.declared.expression.CCall.{CCall}
use Rattle.c_tree.specs.declared.statement.CStmt.{CStmt}
use Rattle.c_tree.specs.declared.statement.CStmt.TheVariants as stmt
use Rattle.c_tree.specs.declared.declaration.CParam.{CParam}
use Rattle.c_tree.specs.declared.declaration.CLocal.{CLocal}
use Rattle.c_tree.specs.declared.file.CObject.{CObject}
use Rattle.c_tree.specs.declared.file.CConstant.{CConstant}
use Rattle.c_tree.specs.declared.file.CFunction.{CFunction}
use Rattle.c_tree.specs.Tokens.{Token, Including, Word, Digits, Quoted, Sign, Bad}
use Rattle.c_tree.specs.CWords.{is_among, Next, Stand, Separated, last_item, one_item, parameter_tokens, prefix_sign, extreme_word, number_word}
use Rattle.c_tree.specs.CLabels.{labels_meet}
use Rattle.c_tree.specs.CExpressionText.{Scope, an_object, a_function, IsKnown, declared_before, a_truth, ReadsExpr, a_number, a_string, a_name, parenthesised, prefixed, casted, between, chosen, indexed, a_field, size, extreme_of, magnitude, ReadsCall, by_name, through_a_parameter}
use Rattle.c_tree.specs.CStatementText.{ReadsTested, tested, ReadsFor, for_head, ReadsStmt, assigned, assigned_call, called, empty, a_block, labelled, jump, returned, returned_value, returned_call, if_only, if_else, switched, repeated_for, repeated_do, ReadsStmts, closed, one_more}
use Rattle.c_tree.specs.CDeclarationText as text
use Rattle.c_tree.specs.CDeclarationText.{with_function}
use Rattle.c_tree.specs.CText as file
use Rattle.c_laws.proofs.Refusals.{tail}

abbrev pub has_token : List Token → Bool
has_token [] = false
has_token (first ∷ later) = true

-- the word at the head of some tokens, if one stands there
abbrev pub word_at : List Token → List ℕ
word_at (Word text ∷ later) = text
word_at other = []

-- the sign at the head of some tokens, if one stands there
abbrev pub sign_at : List Token → List ℕ
sign_at (Sign text ∷ later) = text
sign_at other = []

abbrev pub has_sign : List ℕ → List Token → Bool
has_sign text tokens = is_among (sign_at tokens) (text ∷ [])

abbrev pub has_word : List (List ℕ) → List Token → Bool
has_word texts tokens = is_among (word_at tokens) texts

-- what stands behind a token of known tokens
pub behind : {token : Token} {p q other : List Token} → Next token p q → p ≡ other → q ≡ tail other
behind a h = ap tail (sym a ∙ h)

-- a test tells two lists of tokens apart
pub apart : {A : Type 0} (test : List Token → Bool) {p other : List Token} → test p ≡ true → test other ≡ false → p ≡ other → A
apart test h k e = absurd (true≢false (sym h ∙ (ap test e ∙ k)))

pub or-left : (a b : Bool) → a ≡ true → (a || b) ≡ true
or-left true b h = refl
or-left false b h = absurd (true≢false (sym h))

pub or-right : (a b : Bool) → b ≡ true → (a || b) ≡ true
or-right true b h = refl
or-right false b h = h

-- whether an expression may use a name, or a word begins one
abbrev pub leads_word : Scope → List ℕ → Bool
leads_word scope word =
    is_among word scope.objects
    || (is_among word scope.functions
    || (is_among word (codes "TRUE_" ∷ codes "FALSE_" ∷ [])
    || is_among word (codes "sizeof" ∷ codes "max" ∷ codes "min" ∷ codes "abs" ∷ [])))

-- whether an expression may begin with some tokens, by the first
abbrev pub leads : Scope → List Token → Bool
leads scope [] = false
leads scope (Word text ∷ later) = leads_word scope text
leads scope (Digits n ∷ later) = true
leads scope (Quoted bytes ∷ later) = true
leads scope (Sign text ∷ later) = is_among text (codes "(" ∷ codes "-" ∷ codes "!" ∷ codes "*" ∷ codes "&" ∷ [])
leads scope (Including ∷ later) = false
leads scope (Bad ∷ later) = false

pub known-leads : {scope : Scope} (name : List ℕ) → IsKnown scope name → leads_word scope name ≡ true
known-leads {scope = scope} name (declared_before (an_object h)) = or-left (is_among name scope.objects) _ h
known-leads {scope = scope} name (declared_before (a_function h)) =
    or-right (is_among name scope.objects) _ (or-left (is_among name scope.functions) _ h)
known-leads {scope = scope} name (a_truth h) =
    or-right
    (is_among name scope.objects)
    _
    (or-right (is_among name scope.functions) _ (or-left (is_among name (codes "TRUE_" ∷ codes "FALSE_" ∷ [])) _ h))

pub function-leads : (scope : Scope) (name : List ℕ) → is_among name scope.functions ≡ true → leads_word scope name ≡ true
function-leads scope name h = known-leads {scope = scope} name (declared_before (a_function h))

pub word-leads : (scope : Scope) (word : List ℕ) → is_among word (codes "sizeof" ∷ codes "max" ∷ codes "min" ∷ codes "abs" ∷ []) ≡ true
    → leads_word scope word ≡ true
word-leads scope word h =
    or-right
    (is_among word scope.objects)
    _
    (or-right (is_among word scope.functions) _ (or-right (is_among word (codes "TRUE_" ∷ codes "FALSE_" ∷ [])) _ h))

pub prefix-leads : (scope : Scope) (o : UnaryOp) (later : List Token) → leads scope (Sign (prefix_sign o) ∷ later) ≡ true
prefix-leads scope prefix.Minus later = refl
prefix-leads scope prefix.Not later = refl
prefix-leads scope prefix.Deref later = refl
prefix-leads scope prefix.Address later = refl

pub extreme-leads : (scope : Scope) (which : Extreme) → leads_word scope (extreme_word which) ≡ true
extreme-leads scope extreme.Max = word-leads scope (codes "max") refl
extreme-leads scope extreme.Min = word-leads scope (codes "min") refl

-- an expression begins with a token that leads one
pub expression-leads : {scope : Scope} {place : ℕ} {e : CExpr} {p q : List Token} → ReadsExpr scope place e p q → leads scope p ≡ true
expression-leads {scope = scope} (a_number place n h a) = ap (leads scope) a
expression-leads {scope = scope} (a_string place bytes a) = ap (leads scope) a
expression-leads {scope = scope} (a_name place name h a) = ap (leads scope) a ∙ known-leads name h
expression-leads {scope = scope} (parenthesised place a e b) = ap (leads scope) a
expression-leads {scope = scope} (prefixed place o {q = q} h a e) = ap (leads scope) a ∙ prefix-leads scope o q
expression-leads {scope = scope} (casted place of h a t b e) = ap (leads scope) a
expression-leads (between place o h e a f) = expression-leads e
expression-leads (chosen place h e a f b g) = expression-leads e
expression-leads (indexed place h e a i b) = expression-leads e
expression-leads (a_field place name h n e a b) = expression-leads e
expression-leads {scope = scope} (size place a b c d) = ap (leads scope) a ∙ word-leads scope (codes "sizeof") refl
expression-leads {scope = scope} (extreme_of place which a b e c f d) = ap (leads scope) a ∙ extreme-leads scope which
expression-leads {scope = scope} (magnitude place a b e c) = ap (leads scope) a ∙ word-leads scope (codes "abs") refl

pub call-leads : {scope : Scope} {call : CCall} {p q : List Token} → ReadsCall scope call p q → leads scope p ≡ true
call-leads {scope = scope} (by_name name h a b all) = ap (leads scope) a ∙ function-leads scope name h
call-leads {scope = scope} (through_a_parameter name h a b c d e all) = ap (leads scope) a

-- whether a word with a colon behind it stands at the head of some tokens
abbrev pub names_label : List Token → Bool
names_label (Word text ∷ later) = has_sign (codes ":") later
names_label other = false

-- the words that a statement may begin with
abbrev pub opening : List (List ℕ)
opening = codes "goto" ∷ codes "return" ∷ codes "if" ∷ codes "switch" ∷ codes "for" ∷ codes "do" ∷ []

-- whether a statement may begin with some tokens, by the first two
abbrev pub states : Scope → List Token → Bool
states scope tokens =
    leads scope tokens
    || (has_word opening tokens
    || (has_sign (codes ";") tokens || (has_sign (codes "{") tokens || names_label tokens)))

pub leads-states : (scope : Scope) (tokens : List Token) → leads scope tokens ≡ true → states scope tokens ≡ true
leads-states scope tokens h = or-left (leads scope tokens) _ h

pub word-states : (scope : Scope) (tokens : List Token) → has_word opening tokens ≡ true → states scope tokens ≡ true
word-states scope tokens h = or-right (leads scope tokens) _ (or-left (has_word opening tokens) _ h)

pub empty-states : (scope : Scope) (tokens : List Token) → has_sign (codes ";") tokens ≡ true → states scope tokens ≡ true
empty-states scope tokens h = or-right (leads scope tokens) _ (or-right (has_word opening tokens) _ (or-left (has_sign (codes ";") tokens) _ h))

pub block-states : (scope : Scope) (tokens : List Token) → has_sign (codes "{") tokens ≡ true → states scope tokens ≡ true
block-states scope tokens h =
    or-right
    (leads scope tokens)
    _
    (or-right (has_word opening tokens) _ (or-right (has_sign (codes ";") tokens) _ (or-left (has_sign (codes "{") tokens) _ h)))

pub label-states : (scope : Scope) (tokens : List Token) → names_label tokens ≡ true → states scope tokens ≡ true
label-states scope tokens h =
    or-right
    (leads scope tokens)
    _
    (or-right (has_word opening tokens) _ (or-right (has_sign (codes ";") tokens) _ (or-right (has_sign (codes "{") tokens) _ h)))

pub tested-word : {scope : Scope} {word : List ℕ} {e : CExpr} {p q : List Token} → ReadsTested scope word e p q → word_at p ≡ word
tested-word (tested word a b e c) = ap word_at a

pub for-word : {scope : Scope} {target first test : CExpr} {turn : _} {p q : List Token} → ReadsFor scope target first test turn p q → word_at p ≡ codes "for"
for-word (for_head a b target c first d test e turn f) = ap word_at a

-- a statement begins with tokens that begin one
pub statement-states : {scope : Scope} {one : CStmt} {p q : List Token} → ReadsStmt scope one p q → states scope p ≡ true
statement-states {scope = scope} (assigned {p = p} target a e b) = leads-states scope p (expression-leads target)
statement-states {scope = scope} (assigned_call {p = p} target a call b) = leads-states scope p (expression-leads target)
statement-states {scope = scope} (called {p = p} call a) = leads-states scope p (call-leads call)
statement-states {scope = scope} (empty {p = p} a) = empty-states scope p (ap (has_sign (codes ";")) a)
statement-states {scope = scope} (a_block {p = p} a inner) = block-states scope p (ap (has_sign (codes "{")) a)
statement-states {scope = scope} (labelled label {p = p} h a b inner) =
    label-states scope p (ap names_label a ∙ ap (has_sign (codes ":")) b)
statement-states {scope = scope} (jump label {p = p} a b c) = word-states scope p (ap (has_word opening) a)
statement-states {scope = scope} (returned {p = p} a b) = word-states scope p (ap (has_word opening) a)
statement-states {scope = scope} (returned_value {p = p} a e b) = word-states scope p (ap (has_word opening) a)
statement-states {scope = scope} (returned_call {p = p} a call b) = word-states scope p (ap (has_word opening) a)
statement-states {scope = scope} (if_only {p = p} t a first) = word-states scope p (ap (λ z. is_among z opening) (tested-word t))
statement-states {scope = scope} (if_else {p = p} t a first b c second) = word-states scope p (ap (λ z. is_among z opening) (tested-word t))
statement-states {scope = scope} (switched {p = p} h t a cases) = word-states scope p (ap (λ z. is_among z opening) (tested-word t))
statement-states {scope = scope} (repeated_for {p = p} t a inner) = word-states scope p (ap (λ z. is_among z opening) (for-word t))
statement-states {scope = scope} (repeated_do {p = p} a b inner t c) = word-states scope p (ap (has_word opening) a)

-- the words that a declaration at the head of a function begins with
abbrev pub declaring : List (List ℕ)
declaring = codes "extern" ∷ codes "static" ∷ codes "integer" ∷ codes "logical" ∷ codes "char" ∷ codes "address" ∷ []

pub number-declares : (of : NumberType) → is_among (number_word of) declaring ≡ true
number-declares number.Integer = refl
number-declares number.Logical = refl

pub local-declares : {scope : Scope} {one : CLocal} {name : List ℕ} {p q : List Token} → text.ReadsLocal scope one name p q → has_word declaring p ≡ true
local-declares (text.an_extern of name a b c d types e) = ap (has_word declaring) a
local-declares (text.static a x) = ap (has_word declaring) a
local-declares (text.a_number of name a b c) = ap (has_word declaring) a ∙ number-declares of
local-declares (text.an_array_of_numbers of name n a b c) = ap (has_word declaring) a ∙ number-declares of
local-declares (text.an_array_of_chars name n a b c) = ap (has_word declaring) a
local-declares (text.an_array_of_addresses name n a b c) = ap (has_word declaring) a

-- the statements of a body with its declarations
pub record Body (scope : Scope) (tokens : List Token) : Type 0 where
  pub stmts : List CStmt
  pub rest : List Token
  pub meet : labels_meet stmts ≡ true
  pub reads : ReadsStmts scope stmts tokens rest

-- no declaration stands where no word of one does
pub without-locals : {scope : Scope} {here : List (List ℕ)} {all : List CLocal} {last : Scope} {stmts : List CStmt} {p q r : List Token}
    → text.ReadsLocals scope here all last p q → labels_meet stmts ≡ true → ReadsStmts last stmts q r → has_word declaring p ≡ false → Body scope p
without-locals {stmts = stmts} {r = r} (text.no_local scope here) meet reads h = record { stmts = stmts; rest = r; meet = meet; reads = reads }
without-locals (text.one_local scope last here x fresh later) meet reads h = absurd (true≢false (sym (local-declares x) ∙ h))

-- `void` stands for no parameter alone
pub parameter-not-void : (of : ParameterType) (p q rest : List Token) → Stand (parameter_tokens of) p q → p ≡ Word (codes "void") ∷ rest → ⊥
parameter-not-void parameter.Integers p q rest a h = apart (has_word (codes "integer" ∷ [])) refl refl (sym a ∙ h)
parameter-not-void parameter.Logicals p q rest a h = apart (has_word (codes "logical" ∷ [])) refl refl (sym a ∙ h)
parameter-not-void parameter.Chars p q rest a h = apart (has_word (codes "char" ∷ [])) refl refl (sym a ∙ h)
parameter-not-void parameter.Length p q rest a h = apart (has_word (codes "ftnlen" ∷ [])) refl refl (sym a ∙ h)
parameter-not-void parameter.Int p q rest a h = apart (has_word (codes "int" ∷ [])) refl refl (sym a ∙ h)
parameter-not-void (parameter.Function pointer.Subroutine) p q rest a h = apart (has_word (codes "S_fp" ∷ [])) refl refl (sym a ∙ h)
parameter-not-void (parameter.Function pointer.Integer) p q rest a h = apart (has_word (codes "I_fp" ∷ [])) refl refl (sym a ∙ h)
parameter-not-void (parameter.Function pointer.Logical) p q rest a h = apart (has_word (codes "L_fp" ∷ [])) refl refl (sym a ∙ h)
parameter-not-void (parameter.Function pointer.Unknown) p q rest a h = apart (has_word (codes "U_fp" ∷ [])) refl refl (sym a ∙ h)

-- what `void` leaves: the scope, the names and the tokens
pub record Left (scope last : Scope) (q rest : List Token) : Type 0 where
  pub scopes : last ≡ scope
  pub tokens : q ≡ rest

pub void-leaves : {scope : Scope} {here : List (List ℕ)} {all : List CParam} {last : Scope} {names : List (List ℕ)} {p q rest : List Token}
    → text.ReadsParams scope here all last names p q → p ≡ Word (codes "void") ∷ rest → Left scope last q rest
void-leaves (text.no_parameter scope here a) h = record { scopes = refl; tokens = behind a h }
void-leaves (text.last_parameter scope here of name t a fresh) h = absurd (parameter-not-void of _ _ _ t h)
void-leaves (text.one_parameter scope last here names of name t a fresh b later) h = absurd (parameter-not-void of _ _ _ t h)

-- the main program up to its body
abbrev pub main_front : List Token → List Token
main_front body =
    Word (codes "int") ∷ Word (codes "MAIN__") ∷ Sign (codes "(") ∷ Word (codes "void") ∷ Sign (codes ")") ∷ Sign (codes "{") ∷ body

abbrev pub main_scope : Scope
main_scope = with_function (codes "MAIN__") file.no_names

pub main-function : {one : CFunction} {p q : List Token} (body : List Token) → file.ReadsFunction file.no_names one p q → p ≡ main_front body
    → has_word declaring body ≡ false → Body main_scope body
main-function body (file.a_function of name {locals = locals} {body = stmts} {outer = outer} {inner = inner} {here = here} {v = v} {w = w} {x = x} meet a b c params d e declared stated) h none =
    let k1 = behind a h in
    let n = ap word_at (sym b ∙ k1) in
    let k3 = behind c (behind b k1) in
    let left = void-leaves params k3 in
    let k5 = behind e (behind d left.tokens) in
    let scopes : outer ≡ main_scope
    = left.scopes ∙ ap (λ z. with_function z file.no_names) n in
    without-locals
    (subst (λ z. text.ReadsLocals main_scope here locals inner z w) k5 (subst (λ z. text.ReadsLocals z here locals inner v w) scopes declared))
    meet
    stated
    none

pub main-functions : {here : List (List ℕ)} {all : List CFunction} {p : List Token} (body : List Token) → file.ReadsFunctions file.no_names here all p
    → p ≡ main_front body → has_word declaring body ≡ false → Body main_scope body
main-functions body (file.no_function scope here) h none = apart (λ z. has_token z) refl refl (sym h)
main-functions body (file.one_function scope here one fresh later) h none = main-function body one h none

pub constant-static : {one : CConstant} {p q : List Token} → file.ReadsConstant one p q → has_word (codes "static" ∷ []) p ≡ true
constant-static (file.a_constant name a b c d x e) = ap (has_word (codes "static" ∷ [])) a

pub object-word : {one : CObject} {name : List ℕ} {p q : List Token} → text.ReadsObject one name p q → has_word (codes "integer" ∷ codes "char" ∷ []) p ≡ true
object-word (text.integers name n a b c) = ap (has_word (codes "integer" ∷ codes "char" ∷ [])) a
object-word (text.chars name n a b c) = ap (has_word (codes "integer" ∷ codes "char" ∷ [])) a

-- the body of a file that begins with the main program, if no declaration stands at its head
pub main-parts : {here : List (List ℕ)} {objects : List CObject} {constants : List CConstant} {functions : List CFunction} {p : List Token} (body : List Token)
    → file.ReadsParts file.no_names here objects constants functions p → p ≡ main_front body → has_word declaring body ≡ false → Body main_scope body
main-parts body (file.only_functions scope here all) h none = main-functions body all h none
main-parts body (file.one_constant scope here one fresh later) h none = apart (has_word (codes "static" ∷ [])) (constant-static one) refl h
main-parts body (file.one_object scope here one fresh later) h none = apart (has_word (codes "integer" ∷ codes "char" ∷ [])) (object-word one) refl h

-- a body goes on with a statement or its closing brace
pub no-body : {scope : Scope} {stmts : List CStmt} {p q : List Token} → ReadsStmts scope stmts p q → has_sign (codes "}") p ≡ false → states scope p ≡ false → ⊥
no-body (closed a) h k = true≢false (sym (ap (has_sign (codes "}")) a) ∙ h)
no-body (one_more first later) h k = true≢false (sym (statement-states first) ∙ k)

-- a main program whose body begins with tokens that begin no declaration, no statement and no end
pub no-main : {objects : List CObject} {constants : List CConstant} {functions : List CFunction} {here : List (List ℕ)} {p : List Token} (body : List Token)
    → file.ReadsParts file.no_names here objects constants functions p → p ≡ main_front body → has_word declaring body ≡ false → has_sign (codes "}") body ≡ false
    → states main_scope body ≡ false → ⊥
no-main body parts h none k l = no-body (main-parts body parts h none).reads k l

pub no-main-file : (tokens body : List Token) → tokens ≡ Including ∷ main_front body → has_word declaring body ≡ false → has_sign (codes "}") body ≡ false
    → states main_scope body ≡ false → (one : _) → file.ReadsFile one tokens → ⊥
no-main-file tokens body h none k l one reads = no-main body reads.parts (behind reads.including h) none k l

-- a jump, with what stands behind it
pub record Jumps (label : List ℕ) (one : CStmt) (q rest : List Token) : Type 0 where
  pub is : one ≡ stmt.Goto label
  pub tokens : q ≡ rest

abbrev pub jump_front : List ℕ → List Token → List Token
jump_front label rest = Word (codes "goto") ∷ Word label ∷ Sign (codes ";") ∷ rest

-- `goto`, a word and a semicolon are a jump and nothing else
pub jump-alone : {scope : Scope} {one : CStmt} {p q : List Token} (label : List ℕ) (rest : List Token) → ReadsStmt scope one p q → p ≡ jump_front label rest
    → leads_word scope (codes "goto") ≡ false → Jumps label one q rest
jump-alone {scope = scope} label rest (assigned target a e b) h k = apart (leads scope) (expression-leads target) k h
jump-alone {scope = scope} label rest (assigned_call target a call b) h k = apart (leads scope) (expression-leads target) k h
jump-alone {scope = scope} label rest (called call a) h k = apart (leads scope) (call-leads call) k h
jump-alone label rest (empty a) h k = apart (has_sign (codes ";")) (ap (has_sign (codes ";")) a) refl h
jump-alone label rest (a_block a inner) h k = apart (has_sign (codes "{")) (ap (has_sign (codes "{")) a) refl h
jump-alone label rest (labelled other n a b inner) h k =
    apart names_label (ap names_label a ∙ ap (has_sign (codes ":")) b) refl h
jump-alone label rest (jump other a b c) h k = record { is = ap (λ z. stmt.Goto z) (ap word_at (sym b ∙ behind a h)); tokens = behind c (behind b (behind a h)) }
jump-alone label rest (returned a b) h k = apart (has_word (codes "return" ∷ [])) (ap (has_word (codes "return" ∷ [])) a) refl h
jump-alone label rest (returned_value a e b) h k = apart (has_word (codes "return" ∷ [])) (ap (has_word (codes "return" ∷ [])) a) refl h
jump-alone label rest (returned_call a call b) h k = apart (has_word (codes "return" ∷ [])) (ap (has_word (codes "return" ∷ [])) a) refl h
jump-alone label rest (if_only t a first) h k = apart (has_word (codes "if" ∷ [])) (ap (λ z. is_among z (codes "if" ∷ [])) (tested-word t)) refl h
jump-alone label rest (if_else t a first b c second) h k = apart (has_word (codes "if" ∷ [])) (ap (λ z. is_among z (codes "if" ∷ [])) (tested-word t)) refl h
jump-alone label rest (switched n t a cases) h k = apart (has_word (codes "switch" ∷ [])) (ap (λ z. is_among z (codes "switch" ∷ [])) (tested-word t)) refl h
jump-alone label rest (repeated_for t a inner) h k = apart (has_word (codes "for" ∷ [])) (ap (λ z. is_among z (codes "for" ∷ [])) (for-word t)) refl h
jump-alone label rest (repeated_do a b inner t c) h k = apart (has_word (codes "do" ∷ [])) (ap (has_word (codes "do" ∷ [])) a) refl h

-- a body that is a jump alone, to a label that does not stand
pub jumps-nowhere : {stmts : List CStmt} {p q : List Token} (label : List ℕ) (later : List Token) → ReadsStmts main_scope stmts p q
    → p ≡ jump_front label (Sign (codes "}") ∷ later) → labels_meet (stmt.Goto label ∷ []) ≡ false → labels_meet stmts ≡ true → ⊥
jumps-nowhere label later (closed a) h k m = apart (has_sign (codes "}")) (ap (has_sign (codes "}")) a) refl h
jumps-nowhere label later (one_more first (closed a)) h k m =
    true≢false (sym m ∙ (ap (λ z. labels_meet (z ∷ [])) (jump-alone label (Sign (codes "}") ∷ later) first h refl).is ∙ k))
jumps-nowhere label later (one_more first (one_more second more)) h k m =
    apart (states main_scope) (statement-states second) refl (jump-alone label (Sign (codes "}") ∷ later) first h refl).tokens

pub no-label-file : (tokens later : List Token) (label : List ℕ) → tokens ≡ Including ∷ main_front (jump_front label (Sign (codes "}") ∷ later))
    → labels_meet (stmt.Goto label ∷ []) ≡ false → (one : _) → file.ReadsFile one tokens → ⊥
no-label-file tokens later label h k one reads =
    let body = main-parts (jump_front label (Sign (codes "}") ∷ later)) reads.parts (behind reads.including h) refl in
    jumps-nowhere label later body.reads refl k body.meet

-- the number at the head of some tokens, if one stands there
abbrev pub digits_at : List Token → ℕ
digits_at (Digits n ∷ later) = n
digits_at other = 0

-- an array of one element up to its closing bracket
abbrev pub array_front : List ℕ → List Token → List Token
array_front name rest = Word name ∷ Sign (codes "[") ∷ Digits 1 ∷ Sign (codes "]") ∷ rest

-- what such an array leaves: its number of elements and the tokens
pub record Single (n : ℕ) (q rest : List Token) : Type 0 where
  pub one : n ≡ 1
  pub tokens : q ≡ rest

pub array-leaves : {name : List ℕ} {n : ℕ} {p q : List Token} (word : List ℕ) (rest : List Token) → text.ReadsArray name n p q → p ≡ array_front word rest → Single n q rest
array-leaves word rest (text.an_array name n fits a b c d) h = record {
  one = ap digits_at (sym c ∙ behind b (behind a h));
  tokens = behind d (behind c (behind b (behind a h)));
}

-- a number that a comma follows is a value by itself
pub value-leaves : {value : ℤ} {p q : List Token} (n : ℕ) (rest : List Token) → text.ReadsValue value p q → p ≡ Digits n ∷ rest → q ≡ rest
value-leaves n rest (text.plain m fits a) h = behind a h
value-leaves n rest (text.negative m fits a b) h = apart (has_sign (codes "-")) (ap (has_sign (codes "-")) a) refl h
value-leaves n rest (text.negative_zero a b) h = apart (has_sign (codes "-")) (ap (has_sign (codes "-")) a) refl h
value-leaves n rest (text.least a b c d e f) h = apart (has_sign (codes "(")) (ap (has_sign (codes "(")) a) refl h

pub some-item : {T : Type 0} {Item : T → List Token → List Token → Type 0} {closing : List ℕ} {items : List T} {p q : List Token}
    → Separated Item closing items p q → 1 ≤ length items
some-item (last_item x a) = le_refl 1
some-item (one_item {later = later} x a more) = let h = some-item more in omega (arith, h)

-- values of which the first is a number and a comma follows are two at least
pub two-values : {values : List ℤ} {p q : List Token} (n : ℕ) (later : List Token) → text.ReadsValues values p q → p ≡ Digits n ∷ Sign (codes ",") ∷ later → 2 ≤ length values
two-values n later (last_item x a) h =
    apart (has_sign (codes "}")) (ap (has_sign (codes "}")) a) refl (value-leaves n (Sign (codes ",") ∷ later) x h)
two-values n later (one_item x a more) h = let k = some-item more in omega (arith, k)

abbrev pub image_front : ℕ → List Token → List Token
image_front n later = Sign (codes "=") ∷ Sign (codes "{") ∷ Digits n ∷ Sign (codes ",") ∷ later

pub image-not-longer : {m : ℕ} {image : Option (List ℤ)} {p q : List Token} (n : ℕ) (later : List Token) → text.ReadsNumbers m image p q → m ≡ 1
    → p ≡ image_front n later → ⊥
image-not-longer n later (text.no_image a) one h = apart (has_sign (codes ";")) (ap (has_sign (codes ";")) a) refl h
image-not-longer n later (text.an_image fits a b all c) one h = let two = two-values n later all (behind b (behind a h)) in omega (arith, fits, one, two)

pub object-not-longer : {one : CObject} {name : List ℕ} {p q : List Token} (word : List ℕ) (n : ℕ) (later : List Token) → text.ReadsObject one name p q
    → p ≡ Word (codes "integer") ∷ array_front word (image_front n later) → ⊥
object-not-longer word n later (text.integers name m a b c) h =
    let left = array-leaves word (image_front n later) b (behind a h) in image-not-longer n later c left.one left.tokens
object-not-longer word n later (text.chars name m a b c) h = apart (has_word (codes "char" ∷ [])) (ap (has_word (codes "char" ∷ [])) a) refl h

-- no function begins as an array does
pub array-no-function : {scope : Scope} {one : CFunction} {p q : List Token} (type word : List ℕ) (rest : List Token) → file.ReadsFunction scope one p q
    → p ≡ Word type ∷ array_front word rest → ⊥
array-no-function type word rest (file.a_function of name meet a b c params d e declared stated) h =
    apart (has_sign (codes "(")) (ap (has_sign (codes "(")) c) refl (behind b (behind a h))

pub array-no-functions : {scope : Scope} {here : List (List ℕ)} {all : List CFunction} {p : List Token} (type word : List ℕ) (rest : List Token)
    → file.ReadsFunctions scope here all p → p ≡ Word type ∷ array_front word rest → ⊥
array-no-functions type word rest (file.no_function scope here) h = apart (λ z. has_token z) refl refl (sym h)
array-no-functions type word rest (file.one_function scope here one fresh later) h = array-no-function type word rest one h

pub parts-not-longer : {scope : Scope} {here : List (List ℕ)} {objects : List CObject} {constants : List CConstant} {functions : List CFunction} {p : List Token}
    (word : List ℕ) (n : ℕ) (later : List Token) → file.ReadsParts scope here objects constants functions p
    → p ≡ Word (codes "integer") ∷ array_front word (image_front n later) → ⊥
parts-not-longer word n later (file.only_functions scope here all) h = array-no-functions (codes "integer") word (image_front n later) all h
parts-not-longer word n later (file.one_constant scope here one fresh more) h = apart (has_word (codes "static" ∷ [])) (constant-static one) refl h
parts-not-longer word n later (file.one_object scope here one fresh more) h = object-not-longer word n later one h

pub no-long-image : (tokens later : List Token) (word : List ℕ) (n : ℕ) → tokens ≡ Including ∷ Word (codes "integer") ∷ array_front word (image_front n later)
    → (one : _) → file.ReadsFile one tokens → ⊥
no-long-image tokens later word n h one reads = parts-not-longer word n later reads.parts (behind reads.including h)
