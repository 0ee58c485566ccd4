-- No statement begins with a word that begins a declaration, so the declarations of a function end where its statements begin.
use Rattle.std.proofs.Common.{◌≡◌, refl, sym, ap, ◌∙◌, Bool, true, false, not, ◌&&◌, ◌||◌, List, codes, bytes_eq, ℕ, is_some}
use Rattle.std.specs.List.{list_all}
use Rattle.c_file_readers.specs.c_tree.declared.expression.CExpr.{CExpr}
use Rattle.c_file_readers.specs.c_tree.declared.expression.CCall.{CCall}
use Rattle.c_file_readers.specs.c_tree.declared.expression.Extreme.TheVariants as extreme
use Rattle.c_file_readers.specs.c_tree.declared.statement.CStmt.{CStmt}
use Rattle.c_file_readers.specs.c_tree.declared.statement.CNext.{CNext}
use Rattle.c_file_readers.specs.c_tree.Tokens.{begins_with, is_letter, is_word_byte}
use Rattle.c_file_readers.specs.c_tree.CWords.{is_among, is_name, words}
use Rattle.c_file_readers.specs.c_tree.CExpressionText as expression
use Rattle.c_file_readers.specs.c_tree.CExpressionText.{Scope, IsKnown, ReadsExpr, ReadsCall}
use Rattle.c_file_readers.specs.c_tree.CStatementText as text
use Rattle.c_file_readers.specs.c_tree.CStatementText.{ReadsStmt, ReadsStmts, ReadsTested, ReadsFor}
use Rattle.c_file_readers.specs.c_readers.Readers.{Tokens, lookup}
use Rattle.c_file_readers.specs.c_readers.DeclarationReader.{local_words}
use Rattle.c_statement_laws.specs.c_grammar_laws.ExpressionLaws.{OfNames}
use Rattle.c_statement_laws.specs.c_grammar_laws.DeclarationLaws.{begins_local}
use Rattle.c_statement_laws.proofs.c_grammar_laws.TokenGood.{equal-texts}
use Rattle.c_statement_laws.proofs.c_grammar_laws.ExpressionSteps.{not-found, among-names}

and-right : (a b : Bool) → (a && b) ≡ true → b ≡ true
and-right true b h = h
and-right false b h = absurd (let e : false ≡ true = h in cc)

not-false : (a : Bool) → not a ≡ true → a ≡ false
not-false true h = sym h
not-false false h = refl

-- a name is no word of a declaration
no-word : (name : List ℕ) → is_name name ≡ true → is_among name words ≡ false
no-word name h =
    not-false (is_among name words)
    (and-right (list_all is_word_byte name) (not (is_among name words)) (and-right (begins_with is_letter name) (list_all is_word_byte name && not (is_among name words)) h))

name-begins : (name : List ℕ) → is_name name ≡ true → is_some (lookup name local_words) ≡ false
name-begins name h = ap is_some (not-found name words local_words refl (no-word name h))

known-begins : {scope : Scope} {name : List ℕ} → OfNames scope → IsKnown scope name → is_some (lookup name local_words) ≡ false
known-begins {scope = scope} {name = name} of (expression.declared_before (expression.an_object h)) = name-begins name (among-names name scope.objects of.objects h)
known-begins {scope = scope} {name = name} of (expression.declared_before (expression.a_function h)) = name-begins name (among-names name scope.functions of.functions h)
known-begins {name = name} of (expression.a_truth h) = by (bytes_eq name (codes "TRUE_")) (bytes_eq name (codes "FALSE_")) refl refl h
  where
    by : (one other : Bool) → bytes_eq name (codes "TRUE_") ≡ one → bytes_eq name (codes "FALSE_") ≡ other → (one || (other || false)) ≡ true
        → is_some (lookup name local_words) ≡ false
    by true other s t h = ap (λ z. is_some (lookup z local_words)) (equal-texts name (codes "TRUE_") s)
    by false true s t h = ap (λ z. is_some (lookup z local_words)) (equal-texts name (codes "FALSE_") t)
    by false false s t h = absurd (let e : false ≡ true = h in cc)

expression-begins : {scope : Scope} {place : ℕ} {e : CExpr} {p q : Tokens} → OfNames scope → ReadsExpr scope place e p q → begins_local p ≡ false
expression-begins of (expression.a_number place n h a) = ap begins_local a
expression-begins of (expression.a_string place bytes a) = ap begins_local a
expression-begins of (expression.a_name place name h a) = ap begins_local a ∙ known-begins of h
expression-begins of (expression.parenthesised place a e b) = ap begins_local a
expression-begins of (expression.prefixed place o h a e) = ap begins_local a
expression-begins of (expression.casted place to h a t b e) = ap begins_local a
expression-begins of (expression.between place o h e a f) = expression-begins of e
expression-begins of (expression.chosen place h e a f b g) = expression-begins of e
expression-begins of (expression.indexed place h e a i b) = expression-begins of e
expression-begins of (expression.a_field place name h n e a b) = expression-begins of e
expression-begins of (expression.size place a b c d) = ap begins_local a
expression-begins of (expression.extreme_of place extreme.Max a b e c f d) = ap begins_local a
expression-begins of (expression.extreme_of place extreme.Min a b e c f d) = ap begins_local a
expression-begins of (expression.magnitude place a b e c) = ap begins_local a

call-begins : {scope : Scope} {one : CCall} {p q : Tokens} → OfNames scope → ReadsCall scope one p q → begins_local p ≡ false
call-begins {scope = scope} of (expression.by_name name known a b c) = ap begins_local a ∙ name-begins name (among-names name scope.functions of.functions known)
call-begins of (expression.through_a_parameter name known a b c d e f) = ap begins_local a

for-begins : {scope : Scope} {target first test : CExpr} {turn : CNext} {p q : Tokens} → ReadsFor scope target first test turn p q → begins_local p ≡ false
for-begins (text.for_head a b c d e f g h i j) = ap begins_local a

tested-begins : {scope : Scope} {word : List ℕ} {e : CExpr} {p q : Tokens} → is_some (lookup word local_words) ≡ false → ReadsTested scope word e p q → begins_local p ≡ false
tested-begins plain (text.tested word a b c d) = ap begins_local a ∙ plain

statement-begins : {scope : Scope} {one : CStmt} {p q : Tokens} → OfNames scope → ReadsStmt scope one p q → begins_local p ≡ false
statement-begins of (text.assigned a b c d) = expression-begins of a
statement-begins of (text.assigned_call a b c d) = expression-begins of a
statement-begins of (text.called c d) = call-begins of c
statement-begins of (text.empty a) = ap begins_local a
statement-begins of (text.a_block a b) = ap begins_local a
statement-begins of (text.labelled label named a b c) = ap begins_local a ∙ name-begins label named
statement-begins of (text.jump label a b c) = ap begins_local a
statement-begins of (text.returned a b) = ap begins_local a
statement-begins of (text.returned_value a b c) = ap begins_local a
statement-begins of (text.returned_call a b c) = ap begins_local a
statement-begins of (text.if_only a b c) = tested-begins refl a
statement-begins of (text.if_else a b c d e f) = tested-begins refl a
statement-begins of (text.switched o a b c) = tested-begins refl a
statement-begins of (text.repeated_for a b c) = for-begins a
statement-begins of (text.repeated_do a b c d e) = ap begins_local a

pub body-begins : {scope : Scope} {all : List CStmt} {p q : Tokens} → OfNames scope → ReadsStmts scope all p q → begins_local p ≡ false
body-begins of (text.closed a) = ap begins_local a
body-begins of (text.one_more first later) = statement-begins of first
