-- The reader of statements is exact, and so pieces spell one statement at most.
use Rattle.std.proofs.Common.{◌≡◌, ℕ, true, [], ◌∷◌, Option, Some, None, option_map, refl, sym, ap, subst, ◌∙◌}
use Rattle.fortran_grammar.specs.f_tree.declared.expressions.Expr.{Expr}
use Rattle.fortran_grammar.specs.f_tree.declared.names.Basic.{Basic}
use Rattle.fortran_grammar.specs.f_tree.declared.statements.AuxiliaryKind.TheVariants as auxiliary
use Rattle.fortran_grammar.specs.f_tree.declared.statements.Body.{Body}
use Rattle.fortran_grammar.specs.f_tree.declared.statements.Body as body
use Rattle.fortran_grammar.specs.fortran_lexemes.Lexemes.{Lexeme, Lexemes, Word}
use Rattle.fortran_grammar.specs.fortran_lexemes.declared.kinds.StmtKind.{StmtKind}
use Rattle.fortran_grammar.specs.fortran_lexemes.declared.kinds.StmtKind.TheVariants as kind
use Rattle.fortran_grammar.specs.Forms.{sort, behind, Said, Meant, Both, UpTo, Led, Piece, says_first, NoPiece, NamePiece, NumberPiece, WordPiece, ThenWord}
use Rattle.fortran_grammar.specs.StatementForms.{if_sign, AssignmentForm, TestForm, SignLabelsForm}
use Rattle.fortran_grammar.specs.DeclarationForms.{TypeStatementForm, type_of}
use Rattle.fortran_grammar.specs.StatementSpelling as spelled
use Rattle.fortran_grammar.specs.StatementSpelling.{SpellsAction, SpellsBody}
use Rattle.grammar_laws.specs.Exactness.{Reader}
use Rattle.grammar_laws.specs.FormReading.{same, going_on}
use Rattle.grammar_laws.specs.StatementReading.{assignment_form, test_form, sign_labels_form}
use Rattle.grammar_laws.specs.DeclarationReading.{type_statement_form}
use Rattle.grammar_laws.specs.StatementReader.{ended, whole, action_by_word, read_by, read_action, behind_condition, other_by_word, read_other, read_by_word, read_statement}
use Rattle.grammar_laws.specs.StatementStatements.{OneStatement, StatementsReadAreSpelled, StatementsSpelledAreRead}
use Rattle.grammar_laws.proofs.FormTests.{or_else, is, or_left, covered, kept_apart, same_equal, equal_same}
use Rattle.grammar_laws.proofs.FormExact.{gone_on, by_bool, if_true, if_false}
use Rattle.grammar_laws.proofs.FormKnown.{Known, known_said}
use Rattle.grammar_laws.proofs.StatementExact.{assignment_form_known, assign_form_known, goto_form_known, test_form_known, sign_labels_form_known, arithmetic_if_form_known, else_if_form_known, do_form_known, do_while_form_known, call_form_known, return_form_known, stop_form_known, entry_form_known, format_form_known, include_form_known}
use Rattle.grammar_laws.proofs.ListExact.{data_form_known}
use Rattle.grammar_laws.proofs.DeclarationExact.{dimension_statement_form_known, type_statement_form_known, function_form_known, common_form_known, equivalence_form_known, implicit_form_known, parameter_form_known, external_form_known, intrinsic_form_known, save_form_known, program_form_known, subroutine_form_known, block_data_form_known}
use Rattle.grammar_laws.proofs.ControlExact.{read_form_known, write_form_known, print_form_known, open_form_known, close_form_known, position_form_known}

-- up to the last piece
ended_at : {A : Type 0} (x : A) (rest : Lexemes) (y : A) → ended x rest ≡ Some y → (x ≡ y) × (rest ≡ [])
unfolding ended
ended_at x [] y h = (cc, refl)
ended_at x (p ∷ more) y h = absurd (cc)

whole_sound : {A : Type 0} {read : Reader A} {f : A → Lexemes → Lexemes → Type 0} → Known read f → (b : A) (pieces : Lexemes)
    → whole read pieces ≡ Some b → f b pieces []
unfolding whole
whole_sound {A} {read} {f} a b pieces h =
    let one = gone_on (read pieces) ended b h in
    let last = ended_at one.0.0 one.0.1 b one.2 in
    subst (λ c. f c pieces []) last.0 (subst (λ rest. f one.0.0 pieces rest) last.1 (a.told.exact.sound one.0.0 pieces one.0.1 one.1))

whole_complete : {A : Type 0} {read : Reader A} {f : A → Lexemes → Lexemes → Type 0} (a : Known read f) → a.follows NoPiece ≡ true
    → (b : A) (pieces : Lexemes) → f b pieces [] → whole read pieces ≡ Some b
unfolding whole going_on ended sort
whole_complete a fits b pieces h = ap (λ o. going_on o ended) (a.told.exact.complete b pieces [] h fits)

-- a statement of one word
word_alone : (P : Lexemes → Body → Type 0) (k : StmtKind) (x b : Body) (more : Lexemes) → Said x b more [] → P (Word k ∷ []) x
    → P (Word k ∷ more) b
unfolding Said
word_alone P k x b more h p = subst (λ c. P (Word k ∷ more) c) (sym h.0) (subst (λ rest. P (Word k ∷ rest) x) (sym h.1) p)

said_alone : (x : Body) → Said x x [] []
unfolding Said
said_alone x = (refl, refl)

-- statements that may stand in a logical IF
by_action : (k : StmtKind) (more : Lexemes) (b : Body) → read_by (action_by_word k) more ≡ Some b → SpellsAction (Word k ∷ more) b
unfolding read_by action_by_word
by_action kind.Assign more b h = spelled.assign b more (whole_sound assign_form_known b more h)
by_action kind.Goto more b h = spelled.go_to b more (whole_sound goto_form_known b more h)
by_action kind.If more b h = spelled.arithmetic_if b more (whole_sound arithmetic_if_form_known b more h)
by_action kind.Call more b h = spelled.call b more (whole_sound call_form_known b more h)
by_action kind.Return more b h = spelled.return b more (whole_sound return_form_known b more h)
by_action kind.Stop more b h = spelled.stop b more (whole_sound stop_form_known b more h)
by_action kind.Read more b h = spelled.read b more (whole_sound read_form_known b more h)
by_action kind.Write more b h = spelled.write b more (whole_sound write_form_known b more h)
by_action kind.Print more b h = spelled.print b more (whole_sound print_form_known b more h)
by_action kind.OpenUnit more b h = spelled.open_ b more (whole_sound open_form_known b more h)
by_action kind.Close more b h = spelled.close b more (whole_sound close_form_known b more h)
by_action kind.Backspace more b h = spelled.backspace b more (whole_sound (position_form_known auxiliary.Backspace) b more h)
by_action kind.EndFile more b h = spelled.end_file b more (whole_sound (position_form_known auxiliary.EndFile) b more h)
by_action kind.Rewind more b h = spelled.rewind b more (whole_sound (position_form_known auxiliary.Rewind) b more h)
by_action kind.Continue more b h = word_alone SpellsAction kind.Continue body.Continue b more
    (whole_sound (known_said body.Continue) b more h) spelled.continue_
by_action kind.Assignment more b h = absurd (cc)
by_action kind.Do more b h = absurd (cc)
by_action kind.DoWhile more b h = absurd (cc)
by_action kind.BlockData more b h = absurd (cc)
by_action kind.Character more b h = absurd (cc)
by_action kind.Common more b h = absurd (cc)
by_action kind.Complex more b h = absurd (cc)
by_action kind.Init more b h = absurd (cc)
by_action kind.Dimension more b h = absurd (cc)
by_action kind.DoublePrecision more b h = absurd (cc)
by_action kind.Else more b h = absurd (cc)
by_action kind.ElseIf more b h = absurd (cc)
by_action kind.End more b h = absurd (cc)
by_action kind.EndDo more b h = absurd (cc)
by_action kind.EndIf more b h = absurd (cc)
by_action kind.Entry more b h = absurd (cc)
by_action kind.Equivalence more b h = absurd (cc)
by_action kind.External more b h = absurd (cc)
by_action kind.Format more b h = absurd (cc)
by_action kind.Function more b h = absurd (cc)
by_action kind.Implicit more b h = absurd (cc)
by_action kind.Include more b h = absurd (cc)
by_action kind.Inquire more b h = absurd (cc)
by_action kind.Integer more b h = absurd (cc)
by_action kind.Intrinsic more b h = absurd (cc)
by_action kind.Logical more b h = absurd (cc)
by_action kind.Namelist more b h = absurd (cc)
by_action kind.Parameter more b h = absurd (cc)
by_action kind.Pause more b h = absurd (cc)
by_action kind.Program more b h = absurd (cc)
by_action kind.Real more b h = absurd (cc)
by_action kind.Save more b h = absurd (cc)
by_action kind.Subroutine more b h = absurd (cc)

action_sound : (pieces : Lexemes) (b : Body) → read_action pieces ≡ Some b → SpellsAction pieces b
unfolding read_action
action_sound [] b h = spelled.assignment b [] (whole_sound assignment_form_known b [] h)
action_sound (Word k ∷ more) b h = by_action k more b h
action_sound (p ∷ more) b h = spelled.assignment b (p ∷ more) (whole_sound assignment_form_known b (p ∷ more) h)

-- an assignment begins with a name
assignment_begins : (b : Body) (pieces : Lexemes) → AssignmentForm b pieces [] → is NamePiece (sort pieces) ≡ true
assignment_begins b pieces h = covered assignment_form_known.starts (is NamePiece) (sort pieces) refl
    (assignment_form_known.told.begins b pieces [] h)

assigned : (pieces : Lexemes) → is NamePiece (sort pieces) ≡ true
    → (read_action pieces ≡ whole assignment_form pieces) × (read_statement pieces ≡ whole assignment_form pieces)
unfolding read_action read_statement sort
assigned [] h = (refl, refl)
assigned (Word k ∷ more) h = absurd (cc)
assigned (p ∷ more) h = (refl, refl)

action_complete : (b : Body) (pieces : Lexemes) → SpellsAction pieces b → read_action pieces ≡ Some b
unfolding read_action read_by action_by_word
action_complete _ _ (spelled.assignment b pieces h) =
    (assigned pieces (assignment_begins b pieces h)).0 ∙ whole_complete assignment_form_known refl b pieces h
action_complete _ _ (spelled.assign b pieces h) = whole_complete assign_form_known refl b pieces h
action_complete _ _ (spelled.go_to b pieces h) = whole_complete goto_form_known refl b pieces h
action_complete _ _ (spelled.arithmetic_if b pieces h) = whole_complete arithmetic_if_form_known refl b pieces h
action_complete _ _ (spelled.call b pieces h) = whole_complete call_form_known refl b pieces h
action_complete _ _ (spelled.return b pieces h) = whole_complete return_form_known refl b pieces h
action_complete _ _ (spelled.stop b pieces h) = whole_complete stop_form_known refl b pieces h
action_complete _ _ (spelled.read b pieces h) = whole_complete read_form_known refl b pieces h
action_complete _ _ (spelled.write b pieces h) = whole_complete write_form_known refl b pieces h
action_complete _ _ (spelled.print b pieces h) = whole_complete print_form_known refl b pieces h
action_complete _ _ (spelled.open_ b pieces h) = whole_complete open_form_known refl b pieces h
action_complete _ _ (spelled.close b pieces h) = whole_complete close_form_known refl b pieces h
action_complete _ _ (spelled.backspace b pieces h) = whole_complete (position_form_known auxiliary.Backspace) refl b pieces h
action_complete _ _ (spelled.end_file b pieces h) = whole_complete (position_form_known auxiliary.EndFile) refl b pieces h
action_complete _ _ (spelled.rewind b pieces h) = whole_complete (position_form_known auxiliary.Rewind) refl b pieces h
action_complete _ _ spelled.continue_ = whole_complete (known_said body.Continue) refl body.Continue [] (said_alone body.Continue)

action_begins : (b : Body) (pieces : Lexemes) → SpellsAction pieces b → or_else (is NamePiece) (is WordPiece) (sort pieces) ≡ true
unfolding sort
action_begins _ _ (spelled.assignment b pieces h) =
    or_left (is NamePiece (sort pieces)) (is WordPiece (sort pieces)) (assignment_begins b pieces h)
action_begins _ _ (spelled.assign b pieces h) = refl
action_begins _ _ (spelled.go_to b pieces h) = refl
action_begins _ _ (spelled.arithmetic_if b pieces h) = refl
action_begins _ _ (spelled.call b pieces h) = refl
action_begins _ _ (spelled.return b pieces h) = refl
action_begins _ _ (spelled.stop b pieces h) = refl
action_begins _ _ (spelled.read b pieces h) = refl
action_begins _ _ (spelled.write b pieces h) = refl
action_begins _ _ (spelled.print b pieces h) = refl
action_begins _ _ (spelled.open_ b pieces h) = refl
action_begins _ _ (spelled.close b pieces h) = refl
action_begins _ _ (spelled.backspace b pieces h) = refl
action_begins _ _ (spelled.end_file b pieces h) = refl
action_begins _ _ (spelled.rewind b pieces h) = refl
action_begins _ _ spelled.continue_ = refl

-- behind the condition of an IF
mapped : {A B : Type 0} (mean : A → B) (o : Option A) (y : B) → option_map mean o ≡ Some y → (x : A) × (o ≡ Some x) × (mean x ≡ y)
mapped mean None y h = absurd (cc)
mapped mean (Some x) y h = (x, refl, cc)

condition_sound : (e : Expr) (pieces rest : Lexemes) (b : Body) → TestForm e pieces rest → behind_condition e rest ≡ Some b
    → SpellsBody (Word kind.If ∷ pieces) b
unfolding behind_condition Meant Both UpTo
condition_sound e pieces rest b test h =
    by_bool {A = SpellsBody (Word kind.If ∷ pieces) b} (same ThenWord (sort rest))
    (λ s. let last = ended_at (body.IfThen e) (behind rest) b (sym (if_true _ _ _ s) ∙ h) in
    spelled.block_if b pieces (e, sym last.0, (rest, test, same_equal ThenWord (sort rest) s, sym last.1)))
    (λ s. let h' = sym (if_false _ _ _ s) ∙ h in
    by_bool {A = SpellsBody (Word kind.If ∷ pieces) b} (same NumberPiece (sort rest))
    (λ n. let labels = mapped (λ labels. if_sign (e, labels)) (whole sign_labels_form rest) b (sym (if_true _ _ _ n) ∙ h') in
    spelled.action b (Word kind.If ∷ pieces) (spelled.arithmetic_if b pieces
    ((e, labels.0), sym labels.2, (rest, test, whole_sound sign_labels_form_known labels.0 rest labels.1))))
    (λ n. let inner = mapped (body.IfOne e) (read_action rest) b (sym (if_false _ _ _ n) ∙ h') in
    subst (λ c. SpellsBody (Word kind.If ∷ pieces) c) inner.2
    (spelled.logical_if e inner.0 pieces rest test (action_sound rest inner.0 inner.1))))

if_sound : (pieces : Lexemes) (b : Body) → going_on (test_form pieces) behind_condition ≡ Some b → SpellsBody (Word kind.If ∷ pieces) b
if_sound pieces b h =
    let one = gone_on (test_form pieces) behind_condition b h in
    condition_sound one.0.0 pieces one.0.1 b (test_form_known.told.exact.sound one.0.0 pieces one.0.1 one.1) one.2

if_read : (e : Expr) (pieces rest : Lexemes) → TestForm e pieces rest → read_statement (Word kind.If ∷ pieces) ≡ behind_condition e rest
unfolding read_statement read_by_word going_on
if_read e pieces rest test = ap (λ o. going_on o behind_condition) (test_form_known.told.exact.complete e pieces rest test refl)

block_if_complete : (b : Body) (pieces : Lexemes) (e : Expr) → b ≡ body.IfThen e → (rest : Lexemes) → TestForm e pieces rest
    → sort rest ≡ ThenWord → [] ≡ behind rest
    → read_statement (Word kind.If ∷ pieces) ≡ Some b
unfolding behind_condition ended
block_if_complete b pieces e says rest test then_word last =
    if_read e pieces rest test ∙ if_true (same ThenWord (sort rest)) _ _ (equal_same ThenWord (sort rest) then_word)
    ∙ ap (ended (body.IfThen e)) (sym last) ∙ ap Some (sym says)

arithmetic_if_complete : (b : Body) (pieces : Lexemes) (p : Expr × (ℕ × (ℕ × ℕ))) → b ≡ if_sign p → (rest : Lexemes)
    → TestForm p.0 pieces rest → SignLabelsForm p.1 rest []
    → read_statement (Word kind.If ∷ pieces) ≡ Some b
unfolding behind_condition
arithmetic_if_complete b pieces p says rest test labels =
    let number = sign_labels_form_known.told.begins p.1 rest [] labels in
    if_read p.0 pieces rest test
    ∙ if_false (same ThenWord (sort rest)) _ _ (kept_apart (is ThenWord) (is NumberPiece) (sort rest) refl number)
    ∙ if_true (same NumberPiece (sort rest)) _ _ number
    ∙ ap (option_map (λ labels. if_sign (p.0, labels))) (whole_complete sign_labels_form_known refl p.1 rest labels)
    ∙ ap Some (sym says)

logical_if_complete : (e : Expr) (b : Body) (pieces rest : Lexemes) → TestForm e pieces rest → SpellsAction rest b
    → read_statement (Word kind.If ∷ pieces) ≡ Some (body.IfOne e b)
unfolding behind_condition
logical_if_complete e b pieces rest test inner =
    let begins = action_begins b rest inner in
    if_read e pieces rest test
    ∙ if_false (same ThenWord (sort rest)) _ _ (kept_apart (is ThenWord) (or_else (is NamePiece) (is WordPiece)) (sort rest) refl begins)
    ∙ if_false (same NumberPiece (sort rest)) _ _ (kept_apart (is NumberPiece) (or_else (is NamePiece) (is WordPiece)) (sort rest) refl
    begins)
    ∙ ap (option_map (body.IfOne e)) (action_complete b rest inner)

-- statements by their words
other_sound : (k : StmtKind) (more : Lexemes) (b : Body) → read_other k (other_by_word k) more ≡ Some b → SpellsBody (Word k ∷ more) b
unfolding read_other other_by_word
other_sound kind.ElseIf more b h = spelled.else_if b more (whole_sound else_if_form_known b more h)
other_sound kind.Do more b h = spelled.do_loop b more (whole_sound do_form_known b more h)
other_sound kind.DoWhile more b h = spelled.do_while b more (whole_sound do_while_form_known b more h)
other_sound kind.Function more b h = spelled.function b more (whole_sound function_form_known b more h)
other_sound kind.Program more b h = spelled.program b more (whole_sound program_form_known b more h)
other_sound kind.Subroutine more b h = spelled.subroutine b more (whole_sound subroutine_form_known b more h)
other_sound kind.BlockData more b h = spelled.block_data b more (whole_sound block_data_form_known b more h)
other_sound kind.Entry more b h = spelled.entry b more (whole_sound entry_form_known b more h)
other_sound kind.Dimension more b h = spelled.dimension b more (whole_sound dimension_statement_form_known b more h)
other_sound kind.Common more b h = spelled.common b more (whole_sound common_form_known b more h)
other_sound kind.Equivalence more b h = spelled.equivalence b more (whole_sound equivalence_form_known b more h)
other_sound kind.Implicit more b h = spelled.implicit b more (whole_sound implicit_form_known b more h)
other_sound kind.Parameter more b h = spelled.parameter b more (whole_sound parameter_form_known b more h)
other_sound kind.External more b h = spelled.external b more (whole_sound external_form_known b more h)
other_sound kind.Intrinsic more b h = spelled.intrinsic b more (whole_sound intrinsic_form_known b more h)
other_sound kind.Save more b h = spelled.save b more (whole_sound save_form_known b more h)
other_sound kind.Init more b h = spelled.data_statement b more (whole_sound data_form_known b more h)
other_sound kind.Format more b h = spelled.format b more (whole_sound format_form_known b more h)
other_sound kind.Include more b h = spelled.include b more (whole_sound include_form_known b more h)
other_sound kind.Else more b h =
    word_alone SpellsBody kind.Else body.Else b more (whole_sound (known_said body.Else) b more h) spelled.else
other_sound kind.EndIf more b h =
    word_alone SpellsBody kind.EndIf body.EndIf b more (whole_sound (known_said body.EndIf) b more h) spelled.end_if
other_sound kind.EndDo more b h =
    word_alone SpellsBody kind.EndDo body.EndDo b more (whole_sound (known_said body.EndDo) b more h) spelled.end_do
other_sound kind.End more b h =
    word_alone SpellsBody kind.End body.End b more (whole_sound (known_said body.End) b more h) spelled.end
other_sound kind.Assignment more b h = spelled.action b (Word kind.Assignment ∷ more) (by_action kind.Assignment more b h)
other_sound kind.Assign more b h = spelled.action b (Word kind.Assign ∷ more) (by_action kind.Assign more b h)
other_sound kind.Backspace more b h = spelled.action b (Word kind.Backspace ∷ more) (by_action kind.Backspace more b h)
other_sound kind.Call more b h = spelled.action b (Word kind.Call ∷ more) (by_action kind.Call more b h)
other_sound kind.Character more b h = spelled.action b (Word kind.Character ∷ more) (by_action kind.Character more b h)
other_sound kind.Close more b h = spelled.action b (Word kind.Close ∷ more) (by_action kind.Close more b h)
other_sound kind.Complex more b h = spelled.action b (Word kind.Complex ∷ more) (by_action kind.Complex more b h)
other_sound kind.Continue more b h = spelled.action b (Word kind.Continue ∷ more) (by_action kind.Continue more b h)
other_sound kind.DoublePrecision more b h = spelled.action b (Word kind.DoublePrecision ∷ more) (by_action kind.DoublePrecision more b h)
other_sound kind.EndFile more b h = spelled.action b (Word kind.EndFile ∷ more) (by_action kind.EndFile more b h)
other_sound kind.Goto more b h = spelled.action b (Word kind.Goto ∷ more) (by_action kind.Goto more b h)
other_sound kind.If more b h = spelled.action b (Word kind.If ∷ more) (by_action kind.If more b h)
other_sound kind.Inquire more b h = spelled.action b (Word kind.Inquire ∷ more) (by_action kind.Inquire more b h)
other_sound kind.Integer more b h = spelled.action b (Word kind.Integer ∷ more) (by_action kind.Integer more b h)
other_sound kind.Logical more b h = spelled.action b (Word kind.Logical ∷ more) (by_action kind.Logical more b h)
other_sound kind.Namelist more b h = spelled.action b (Word kind.Namelist ∷ more) (by_action kind.Namelist more b h)
other_sound kind.OpenUnit more b h = spelled.action b (Word kind.OpenUnit ∷ more) (by_action kind.OpenUnit more b h)
other_sound kind.Pause more b h = spelled.action b (Word kind.Pause ∷ more) (by_action kind.Pause more b h)
other_sound kind.Print more b h = spelled.action b (Word kind.Print ∷ more) (by_action kind.Print more b h)
other_sound kind.Read more b h = spelled.action b (Word kind.Read ∷ more) (by_action kind.Read more b h)
other_sound kind.Real more b h = spelled.action b (Word kind.Real ∷ more) (by_action kind.Real more b h)
other_sound kind.Return more b h = spelled.action b (Word kind.Return ∷ more) (by_action kind.Return more b h)
other_sound kind.Rewind more b h = spelled.action b (Word kind.Rewind ∷ more) (by_action kind.Rewind more b h)
other_sound kind.Stop more b h = spelled.action b (Word kind.Stop ∷ more) (by_action kind.Stop more b h)
other_sound kind.Write more b h = spelled.action b (Word kind.Write ∷ more) (by_action kind.Write more b h)

word_sound : (k : StmtKind) (more : Lexemes) (b : Body) → read_by_word k more ≡ Some b → SpellsBody (Word k ∷ more) b
unfolding read_by_word
word_sound kind.If more b h = if_sound more b h
word_sound kind.Integer more b h = spelled.type_statement b (Word kind.Integer ∷ more)
    (whole_sound type_statement_form_known b (Word kind.Integer ∷ more) h)
word_sound kind.Logical more b h = spelled.type_statement b (Word kind.Logical ∷ more)
    (whole_sound type_statement_form_known b (Word kind.Logical ∷ more) h)
word_sound kind.Character more b h = spelled.type_statement b (Word kind.Character ∷ more)
    (whole_sound type_statement_form_known b (Word kind.Character ∷ more) h)
word_sound kind.Assignment more b h = other_sound kind.Assignment more b h
word_sound kind.Do more b h = other_sound kind.Do more b h
word_sound kind.DoWhile more b h = other_sound kind.DoWhile more b h
word_sound kind.Assign more b h = other_sound kind.Assign more b h
word_sound kind.Backspace more b h = other_sound kind.Backspace more b h
word_sound kind.BlockData more b h = other_sound kind.BlockData more b h
word_sound kind.Call more b h = other_sound kind.Call more b h
word_sound kind.Close more b h = other_sound kind.Close more b h
word_sound kind.Common more b h = other_sound kind.Common more b h
word_sound kind.Complex more b h = other_sound kind.Complex more b h
word_sound kind.Continue more b h = other_sound kind.Continue more b h
word_sound kind.Init more b h = other_sound kind.Init more b h
word_sound kind.Dimension more b h = other_sound kind.Dimension more b h
word_sound kind.DoublePrecision more b h = other_sound kind.DoublePrecision more b h
word_sound kind.Else more b h = other_sound kind.Else more b h
word_sound kind.ElseIf more b h = other_sound kind.ElseIf more b h
word_sound kind.End more b h = other_sound kind.End more b h
word_sound kind.EndDo more b h = other_sound kind.EndDo more b h
word_sound kind.EndFile more b h = other_sound kind.EndFile more b h
word_sound kind.EndIf more b h = other_sound kind.EndIf more b h
word_sound kind.Entry more b h = other_sound kind.Entry more b h
word_sound kind.Equivalence more b h = other_sound kind.Equivalence more b h
word_sound kind.External more b h = other_sound kind.External more b h
word_sound kind.Format more b h = other_sound kind.Format more b h
word_sound kind.Function more b h = other_sound kind.Function more b h
word_sound kind.Goto more b h = other_sound kind.Goto more b h
word_sound kind.Implicit more b h = other_sound kind.Implicit more b h
word_sound kind.Include more b h = other_sound kind.Include more b h
word_sound kind.Inquire more b h = other_sound kind.Inquire more b h
word_sound kind.Intrinsic more b h = other_sound kind.Intrinsic more b h
word_sound kind.Namelist more b h = other_sound kind.Namelist more b h
word_sound kind.OpenUnit more b h = other_sound kind.OpenUnit more b h
word_sound kind.Parameter more b h = other_sound kind.Parameter more b h
word_sound kind.Pause more b h = other_sound kind.Pause more b h
word_sound kind.Print more b h = other_sound kind.Print more b h
word_sound kind.Program more b h = other_sound kind.Program more b h
word_sound kind.Read more b h = other_sound kind.Read more b h
word_sound kind.Real more b h = other_sound kind.Real more b h
word_sound kind.Return more b h = other_sound kind.Return more b h
word_sound kind.Rewind more b h = other_sound kind.Rewind more b h
word_sound kind.Save more b h = other_sound kind.Save more b h
word_sound kind.Stop more b h = other_sound kind.Stop more b h
word_sound kind.Subroutine more b h = other_sound kind.Subroutine more b h
word_sound kind.Write more b h = other_sound kind.Write more b h

pub statement_sound : StatementsReadAreSpelled
unfolding read_statement
statement_sound b [] h = spelled.action b [] (spelled.assignment b [] (whole_sound assignment_form_known b [] h))
statement_sound b (Word k ∷ more) h = word_sound k more b h
statement_sound b (p ∷ more) h = spelled.action b (p ∷ more)
    (spelled.assignment b (p ∷ more) (whole_sound assignment_form_known b (p ∷ more) h))

abbrev IsGiven : Option Basic → Type 0
IsGiven None = ⊥
IsGiven (Some b) = Unit {0}

-- a type statement begins with the word of a type
typed_read : (p : Lexeme) (more : Lexemes) → (x : Option Basic) → type_of p ≡ x → IsGiven x
    → read_statement (p ∷ more) ≡ whole type_statement_form (p ∷ more)
unfolding type_of read_statement read_by_word
typed_read (Word kind.Integer) more x e given = refl
typed_read (Word kind.Logical) more x e given = refl
typed_read (Word kind.Character) more x e given = refl
typed_read p more None e given = elim given [ ]
typed_read p more (Some b) e given = absurd (cc)

type_statement_read : (b : Body) (pieces : Lexemes) → TypeStatementForm b pieces []
    → read_statement pieces ≡ whole type_statement_form pieces
unfolding Meant Led Piece says_first
type_statement_read b [] h = absurd (let e = h.2.1.2.1.0 in cc)
type_statement_read b (p ∷ more) h = typed_read p more (Some h.2.1.0.0) h.2.1.2.1.0 tt

action_statement_complete : (b : Body) (pieces : Lexemes) → SpellsAction pieces b → read_statement pieces ≡ Some b
unfolding read_statement read_by_word read_other other_by_word read_by action_by_word Meant Both
action_statement_complete _ _ (spelled.assignment b pieces h) =
    (assigned pieces (assignment_begins b pieces h)).1 ∙ whole_complete assignment_form_known refl b pieces h
action_statement_complete _ _ (spelled.arithmetic_if b pieces h) = arithmetic_if_complete b pieces h.0 h.1 h.2.0 h.2.1 h.2.2
action_statement_complete _ _ (spelled.assign b pieces h) = whole_complete assign_form_known refl b pieces h
action_statement_complete _ _ (spelled.go_to b pieces h) = whole_complete goto_form_known refl b pieces h
action_statement_complete _ _ (spelled.call b pieces h) = whole_complete call_form_known refl b pieces h
action_statement_complete _ _ (spelled.return b pieces h) = whole_complete return_form_known refl b pieces h
action_statement_complete _ _ (spelled.stop b pieces h) = whole_complete stop_form_known refl b pieces h
action_statement_complete _ _ (spelled.read b pieces h) = whole_complete read_form_known refl b pieces h
action_statement_complete _ _ (spelled.write b pieces h) = whole_complete write_form_known refl b pieces h
action_statement_complete _ _ (spelled.print b pieces h) = whole_complete print_form_known refl b pieces h
action_statement_complete _ _ (spelled.open_ b pieces h) = whole_complete open_form_known refl b pieces h
action_statement_complete _ _ (spelled.close b pieces h) = whole_complete close_form_known refl b pieces h
action_statement_complete _ _ (spelled.backspace b pieces h) = whole_complete (position_form_known auxiliary.Backspace) refl b pieces h
action_statement_complete _ _ (spelled.end_file b pieces h) = whole_complete (position_form_known auxiliary.EndFile) refl b pieces h
action_statement_complete _ _ (spelled.rewind b pieces h) = whole_complete (position_form_known auxiliary.Rewind) refl b pieces h
action_statement_complete _ _ spelled.continue_ = whole_complete (known_said body.Continue) refl body.Continue []
    (said_alone body.Continue)

pub statement_complete : StatementsSpelledAreRead
unfolding read_statement read_by_word read_other other_by_word Meant UpTo
statement_complete _ _ (spelled.action b pieces h) = action_statement_complete b pieces h
statement_complete _ _ (spelled.logical_if e b pieces rest test inner) = logical_if_complete e b pieces rest test inner
statement_complete _ _ (spelled.block_if b pieces h) = block_if_complete b pieces h.0 h.1 h.2.0 h.2.1 h.2.2 h.2.3
statement_complete _ _ (spelled.type_statement b pieces h) = type_statement_read b pieces h
    ∙ whole_complete type_statement_form_known refl b pieces h
statement_complete _ _ (spelled.else_if b pieces h) = whole_complete else_if_form_known refl b pieces h
statement_complete _ _ (spelled.do_loop b pieces h) = whole_complete do_form_known refl b pieces h
statement_complete _ _ (spelled.do_while b pieces h) = whole_complete do_while_form_known refl b pieces h
statement_complete _ _ (spelled.function b pieces h) = whole_complete function_form_known refl b pieces h
statement_complete _ _ (spelled.program b pieces h) = whole_complete program_form_known refl b pieces h
statement_complete _ _ (spelled.subroutine b pieces h) = whole_complete subroutine_form_known refl b pieces h
statement_complete _ _ (spelled.block_data b pieces h) = whole_complete block_data_form_known refl b pieces h
statement_complete _ _ (spelled.entry b pieces h) = whole_complete entry_form_known refl b pieces h
statement_complete _ _ (spelled.dimension b pieces h) = whole_complete dimension_statement_form_known refl b pieces h
statement_complete _ _ (spelled.common b pieces h) = whole_complete common_form_known refl b pieces h
statement_complete _ _ (spelled.equivalence b pieces h) = whole_complete equivalence_form_known refl b pieces h
statement_complete _ _ (spelled.implicit b pieces h) = whole_complete implicit_form_known refl b pieces h
statement_complete _ _ (spelled.parameter b pieces h) = whole_complete parameter_form_known refl b pieces h
statement_complete _ _ (spelled.external b pieces h) = whole_complete external_form_known refl b pieces h
statement_complete _ _ (spelled.intrinsic b pieces h) = whole_complete intrinsic_form_known refl b pieces h
statement_complete _ _ (spelled.save b pieces h) = whole_complete save_form_known refl b pieces h
statement_complete _ _ (spelled.data_statement b pieces h) = whole_complete data_form_known refl b pieces h
statement_complete _ _ (spelled.format b pieces h) = whole_complete format_form_known refl b pieces h
statement_complete _ _ (spelled.include b pieces h) = whole_complete include_form_known refl b pieces h
statement_complete _ _ spelled.else = whole_complete (known_said body.Else) refl body.Else [] (said_alone body.Else)
statement_complete _ _ spelled.end_if = whole_complete (known_said body.EndIf) refl body.EndIf [] (said_alone body.EndIf)
statement_complete _ _ spelled.end_do = whole_complete (known_said body.EndDo) refl body.EndDo [] (said_alone body.EndDo)
statement_complete _ _ spelled.end = whole_complete (known_said body.End) refl body.End [] (said_alone body.End)

-- Pieces spell one statement at most.
pub one_statement : OneStatement
one_statement one other pieces s t =
    let e : Some one ≡ Some other = sym (statement_complete one pieces s) ∙ statement_complete other pieces t in
    cc
