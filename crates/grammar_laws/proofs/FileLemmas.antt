-- The statements of a file spell one tree at most, since those of each statement do.
use Rattle.std.specs.Prelude.{◌≡◌, ℕ, Bool, true, false, List, [], ◌∷◌, Option, Some}
use Rattle.std.proofs.Common.{refl, sym, ap, ◌∙◌, subst}
use Rattle.fortran_grammar.specs.f_tree.declared.statements.Body.{Body}
use Rattle.fortran_grammar.specs.f_tree.declared.statements.Stmt.{Stmt}
use Rattle.fortran_grammar.specs.f_tree.declared.units.Unit.{Unit as ProgramUnit}
use Rattle.fortran_grammar.specs.f_tree.declared.units.File.{File}
use Rattle.fortran_grammar.specs.f_tree.declared.units.Part.{Part}
use Rattle.fortran_grammar.specs.fortran_text.declared.source.Statement.{Statement}
use Rattle.fortran_grammar.specs.fortran_lexemes.declared.kinds.StmtKind.{StmtKind}
use Rattle.fortran_grammar.specs.UnitsOfFile.{pieces_of, SpellsText, SpellsStatement, SpellsStatements, no_statements, one_statement, statements_of_units, unit_of, SpellsUnits, no_units, one_unit}
use Rattle.grammar_laws.specs.FileStatements.{EachFileSpellsOneTree, EachPartSpellsOneTree}
use Rattle.grammar_laws.proofs.StatementLaws.{one_statement as one_statement_law}

some_once : {A : Type 0} (a b : A) → Some a ≡ Some b → a ≡ b
some_once a b same = cc

abbrev stated : Option ℕ → ℕ → ℕ → Body → Stmt
stated label file card b = record { label = label; file = file; card = card; body = b }

same_statement : (s t : Stmt) → s.label ≡ t.label → s.file ≡ t.file → s.card ≡ t.card → s.body ≡ t.body → s ≡ t
same_statement s t labels files cards bodies =
    ap (λ l. stated l s.file s.card s.body) labels ∙ (ap (λ f. stated t.label f s.card s.body) files ∙
    (ap (λ c. stated t.label t.file c s.body) cards ∙ ap (λ b. stated t.label t.file t.card b) bodies))

same_list : (s t : Stmt) (ss ts : List Stmt) → s ≡ t → ss ≡ ts → (s ∷ ss) ≡ (t ∷ ts)
same_list s t ss ts same rest = cc

same_units : (u v : ProgramUnit) (us vs : List ProgramUnit) → u ≡ v → us ≡ vs → (u ∷ us) ≡ (v ∷ vs)
same_units u v us vs same rest = cc

abbrev filed : List ProgramUnit → File
filed us = record { units = us }

same_file : (a b : File) → a.units ≡ b.units → a ≡ b
same_file a b same = ap (λ us. filed us) same

abbrev parted : List ℕ → List Stmt → Part
parted name ss = record { name = name; statements = ss }

same_part : (a b : Part) → a.name ≡ b.name → a.statements ≡ b.statements → a ≡ b
same_part a b names same = ap (λ x. parted x a.statements) names ∙ ap (λ ss. parted b.name ss) same

one_text : (k l : StmtKind) (source : Statement) (a b : Body) → k ≡ l → SpellsText k source a → SpellsText l source b → a ≡ b
one_text k l source a b same x y =
    one_statement_law a b (pieces_of k source) x.spells (subst (λ m. SpellsText m source b) (sym same) y).spells

one_tree : (first : Bool) (source : Statement) (s t : Stmt) → SpellsStatement first source s → SpellsStatement first source t → s ≡ t
one_tree first source s t x y =
    let kinds : x.kind ≡ y.kind = some_once x.kind y.kind (sym x.of_kind ∙ y.of_kind) in
    let bodies : s.body ≡ t.body = one_text x.kind y.kind source s.body t.body kinds x.says y.says in
    let labels : s.label ≡ t.label = x.label ∙ sym y.label in
    let files : s.file ≡ t.file = x.file ∙ sym y.file in
    let cards : s.card ≡ t.card = x.card ∙ sym y.card in
    same_statement s t labels files cards bodies

pub one_list : (first : Bool) (sources : List Statement) (s t : List Stmt) → SpellsStatements first sources s → SpellsStatements first sources t → s ≡ t
one_list first [] _ _ (no_statements _) (no_statements _) = refl
one_list first (source ∷ sources) _ _ (one_statement _ _ s _ ss x more) (one_statement _ _ t _ ts y others) =
    same_list s t ss ts (one_tree first source s t x y) (one_list false sources ss ts more others)

one_unit_of : (s t : List Stmt) (u v : ProgramUnit) → s ≡ t → unit_of s ≡ u ∷ [] → unit_of t ≡ v ∷ [] → u ≡ v
one_unit_of s t u v same x y = let both : (u ∷ []) ≡ (v ∷ []) = sym x ∙ (ap unit_of same ∙ y) in cc

one_units : (sources : List (List Statement)) (us vs : List ProgramUnit) → SpellsUnits sources us → SpellsUnits sources vs → us ≡ vs
one_units [] _ _ no_units no_units = refl
one_units (sources ∷ more) _ _ (one_unit _ s u _ us x head rest) (one_unit _ t v _ vs y other others) =
    same_units u v us vs (one_unit_of s t u v (one_list true sources s t x y) head other) (one_units more us vs rest others)

pub one_file : EachFileSpellsOneTree
one_file sources a b x y = same_file a b (one_units (statements_of_units sources) a.units b.units x y)

pub one_part : EachPartSpellsOneTree
one_part name sources a b x y =
    same_part a b (x.named ∙ sym y.named) (one_list false sources a.statements b.statements x.statements y.statements)
