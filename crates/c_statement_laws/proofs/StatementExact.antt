-- The readers of statements and of the statements of a function are exact.
use Rattle.std.proofs.Common.{◌≡◌, refl, sym, ◌∙◌, subst, ℕ, le_refl, Bool, true, false, List, [], Some, None, arith}
use Rattle.std.specs.List.{list_all}
use Rattle.std.proofs.lemmas.Bool.{and_from, eqb-true}
use Rattle.std.proofs.lemmas.List.Folds.{list_all-append}
use Rattle.c_grammar_laws.specs.c_tree.declared.statement.CStmt.{CStmt}
use Rattle.c_grammar_laws.specs.c_tree.declared.statement.CStmt.TheVariants as stmt
use Rattle.c_grammar_laws.specs.c_tree.CWords.{is_among, is_name}
use Rattle.c_grammar_laws.specs.c_tree.CLabels.{LabelsOf, no_label, both, standing, labels_of, labels_of_all, stands_once}
use Rattle.c_grammar_laws.specs.c_tree.CExpressionText.{Scope}
use Rattle.c_grammar_laws.specs.c_tree.CStatementText as form
use Rattle.c_grammar_laws.specs.c_tree.CStatementText.{ReadsStmt, ReadsStmts}
use Rattle.c_grammar_laws.specs.c_readers.Readers.{Tokens}
use Rattle.c_grammar_laws.specs.ExpressionLaws.{Anything}
use Rattle.c_grammar_laws.proofs.grammar.GoodExact.{good-exact}
use Rattle.c_statement_readers.specs.LabelTests.{may_be_named, can_meet, meet}
use Rattle.c_statement_readers.specs.StatementReader.{statement, body}
use Rattle.c_statement_laws.specs.StatementLaws.{StatementIs, BodyIs, EndsStatement, ExactStatements, ExactBodies}
use Rattle.c_statement_laws.proofs.LabelLaws.{all-at, all-each, times, absent-times, may-be-named, labels-set, labels-set-call, labels-call, labels-empty, labels-return, labels-return-call, labels-block, labels-label, labels-goto, labels-if, labels-if-else, labels-switch, labels-for, labels-do}
use Rattle.c_statement_laws.proofs.StatementGood.{good_statements}
use Rattle.c_statement_laws.proofs.BodyGood.{good_bodies}
use Rattle.c_statement_laws.proofs.StatementReads.{statement-read, statements-read}

-- ## The labels that stand are names

abbrev StandNames : LabelsOf → Type 0
StandNames labels = list_all is_name labels.stand ≡ true

both-stand : (one other : LabelsOf) → StandNames one → StandNames other → StandNames (both one other)
both-stand one other a b = list_all-append is_name one.stand other.stand ∙ and_from (list_all is_name one.stand) (list_all is_name other.stand) a b

stand-as : (one other : LabelsOf) → one ≡ other → StandNames other → StandNames one
stand-as one other h a = subst StandNames (sym h) a

mutual
  stand-names : {scope : Scope} {one : CStmt} {p q : Tokens} → ReadsStmt scope one p q → StandNames (labels_of one)
  stand-names (form.assigned {target = target} {e = e} a b c d) = stand-as (labels_of (stmt.Set target e)) no_label (labels-set target e) refl
  stand-names (form.assigned_call {target = target} {call = one} a b c d) = stand-as (labels_of (stmt.SetCall target one)) no_label (labels-set-call target one) refl
  stand-names (form.called {call = one} a b) = stand-as (labels_of (stmt.Call one)) no_label (labels-call one) refl
  stand-names (form.empty a) = stand-as (labels_of stmt.Empty) no_label labels-empty refl
  stand-names (form.a_block {inner = inner} a b) = stand-as (labels_of (stmt.Block inner)) (labels_of_all inner) (labels-block inner) (all-stand-names b)
  stand-names (form.labelled label {inner = inner} named a b c) =
      stand-as (labels_of (stmt.Label label inner)) (standing label (labels_of inner)) (labels-label label inner)
      (and_from (is_name label) (list_all is_name (labels_of inner).stand) named (stand-names c))
  stand-names (form.jump label a b c) = subst StandNames (sym (labels-goto label)) refl
  stand-names (form.returned a b) = stand-as (labels_of (stmt.Return None)) no_label (labels-return None) refl
  stand-names (form.returned_value {e = e} a b c) = stand-as (labels_of (stmt.Return (Some e))) no_label (labels-return (Some e)) refl
  stand-names (form.returned_call {call = one} a b c) = stand-as (labels_of (stmt.ReturnCall one)) no_label (labels-return-call one) refl
  stand-names (form.if_only {e = e} {first = first} a b c) =
      stand-as (labels_of (stmt.If e first None)) (both (labels_of_all first) no_label) (labels-if e first) (both-stand (labels_of_all first) no_label (all-stand-names c) refl)
  stand-names (form.if_else {e = e} {first = first} {second = second} a b c d f g) =
      stand-as (labels_of (stmt.If e first (Some second))) (both (labels_of_all first) (labels_of_all second)) (labels-if-else e first second)
      (both-stand (labels_of_all first) (labels_of_all second) (all-stand-names c) (all-stand-names g))
  stand-names (form.switched {e = e} {cases = all} once a b c) = subst StandNames (sym (labels-switch e all)) refl
  stand-names (form.repeated_for {target = target} {first = first} {test = test} {turn = turn} {inner = inner} a b c) =
      stand-as (labels_of (stmt.For target first test turn inner)) (labels_of_all inner) (labels-for target first test turn inner) (all-stand-names c)
  stand-names (form.repeated_do {inner = inner} {e = e} a b c d f) =
      stand-as (labels_of (stmt.DoWhile inner e)) (labels_of_all inner) (labels-do inner e) (all-stand-names c)

  all-stand-names : {scope : Scope} {all : List CStmt} {p q : Tokens} → ReadsStmts scope all p q → StandNames (labels_of_all all)
  all-stand-names (form.closed a) = refl
  all-stand-names (form.one_more {first = first} {later = later} a b) = both-stand (labels_of first) (labels_of_all later) (stand-names a) (all-stand-names b)

-- where each label that is named stands once, and those that stand are names, they can meet
there : (name : List ℕ) (stand : List (List ℕ)) → times name stand ≡ 1 → (among : Bool) → is_among name stand ≡ among → among ≡ true
there name stand once true h = refl
there name stand once false h = absurd (let k = absent-times name stand h in omega (arith, k, once))

met-can : (labels : LabelsOf) → StandNames labels → meet labels ≡ true → can_meet labels ≡ true
met-can labels names met =
    all-each (may_be_named labels.stand) labels.named
    (λ name m.
    let once : times name labels.stand ≡ 1 = eqb-true (times name labels.stand) 1 (all-at (stands_once labels.stand) name labels.named met m) in
    may-be-named labels.stand name
    (record {
      named = all-at is_name name labels.stand names (there name labels.stand once (is_among name labels.stand) refl);
      few = omega (arith, once);
    }))

-- ## Exactness

pub exact_statements : ExactStatements
exact_statements scope before good can =
    good-exact (StatementIs scope before) EndsStatement (λ nests. statement scope nests nests before)
    (λ nests more least. good_statements scope before nests more nests more good can least (le_refl nests) least)
    (λ one p q is ends.
    let s = statement-read scope good is.reads before is.can ends in record { first = s.first; holds = λ n h. s.holds n n h h })
    refl

pub exact_bodies : ExactBodies
unfolding body
exact_bodies scope good =
    good-exact (BodyIs scope) Anything (λ nests. body scope nests nests) (λ nests more least. good_bodies scope nests more nests more good least (le_refl nests) least)
    (λ all p q is ends.
    let s = statements-read scope good is.reads no_label [] meet (met-can (labels_of_all all) (all-stand-names is.reads) is.met) is.met in
    record { first = s.first; holds = λ n h. s.holds n n n h h h })
    tt
