-- The readers of the lists of READ, WRITE, PRINT and DATA are exact: an implied DO is no expression, since an expression in parentheses ends
-- where the first comma of the loop stands.
use Rattle.std.proofs.Common.{◌≡◌, ℕ, zero, suc, ◌≤◌, inl, inr, Bool, true, false, List, [], ◌∷◌, length, Option, Some, None, pos, refl, sym, ap, subst, ◌∙◌, ⊎_elim, le_trans, arith}
use Rattle.fortran_grammar.specs.f_tree.declared.expressions.Expr.{Expr}
use Rattle.fortran_grammar.specs.f_tree.declared.expressions.Expr as expr
use Rattle.fortran_grammar.specs.f_tree.declared.statements.Body.{Body}
use Rattle.fortran_grammar.specs.f_tree.declared.statements.Body as body
use Rattle.fortran_grammar.specs.f_tree.declared.statements.DataGroup.{DataGroup}
use Rattle.fortran_grammar.specs.f_tree.declared.statements.ListItem.{ListItem}
use Rattle.fortran_grammar.specs.f_tree.declared.statements.ListItem as item
use Rattle.fortran_grammar.specs.f_tree.declared.statements.LoopControl.{LoopControl}
use Rattle.fortran_grammar.specs.fortran_lexemes.Lexemes.{Lexeme, Lexemes, Name, Infix, Truth, Mark}
use Rattle.fortran_grammar.specs.fortran_lexemes.declared.signs.Sign.TheVariants as sign
use Rattle.fortran_grammar.specs.f_tree.declared.expressions.BinaryOp.{BinaryOp}
use Rattle.fortran_grammar.specs.f_tree.declared.expressions.BinaryOp.TheVariants as operator
use Rattle.grammar_laws.specs.Exactness.{stops}
use Rattle.grammar_laws.proofs.ExpressionFollows.{name_alone}
use Rattle.fortran_grammar.specs.ExpressionSpelling as spell
use Rattle.fortran_grammar.specs.ExpressionSpelling.{left, SpellsExpr, SpellsExpression, SpellsPlace}
use Rattle.fortran_grammar.specs.Forms.{Sort, sort, behind, Piece, After, UpTo, Both, Either, Meant, Separated, alone, with_more, Enclosed, WithComma, NoPiece, NamePiece, TruthPiece, Open, Close, Comma, Equals, Star, Slash, Plus, Minus}
use Rattle.fortran_grammar.specs.StatementForms.{LoopForm}
use Rattle.fortran_grammar.specs.ListForms.{DeepItem, ImpliedDo, truth_of, value_of, single, data_group, chained, ItemForm, ItemsForm, ElementForm, DataPlaceForm, IntegerForm, OtherConstantForm, CountForm, DataValueForm, DataGroupForm, DataForm}
use Rattle.grammar_laws.specs.Exactness.{Reader}
use Rattle.grammar_laws.specs.ExpressionReading.{read_expression}
use Rattle.grammar_laws.specs.FormReading.{is_keyed, piece, meant, enclosed, looped}
use Rattle.grammar_laws.specs.StatementReading.{loop_form}
use Rattle.grammar_laws.specs.ListReading.{deep_item, implied_do, item_form, items_form, element_form, data_place_form, integer_form, other_constant_form, count_form, data_value_form, data_group_form, data_form}
use Rattle.grammar_laws.proofs.FormTests.{Test, all, also, or_else, is, covers, equal_same}
use Rattle.grammar_laws.proofs.FormExact.{Told, same_rest, shorter, told_meant, told_enclosed, told_list_and_other, by_bool, told_either_first, told_widened}
use Rattle.grammar_laws.proofs.FormKnown.{Known, known_after, known_up_to, known_enclosed, known_with_comma, known_maybe, known_separated, known_many, known_meant, known_both, known_either, known_either_first, known_piece, known_name, known_number, known_quoted, known_expression, known_place, beginning, expression_told}
use Rattle.grammar_laws.proofs.StatementExact.{loop_form_known}

abbrev loop_of_items : List ListItem × LoopControl → ListItem
loop_of_items p = item.Loop p.0 p.1

separated_first : {A C : Type 0} {f : A → Lexemes → Lexemes → Type 0} (xs : List A) (before end : Lexemes) → Separated f xs before end
    → sort end ≡ Comma → ((x : A) (middle : Lexemes) → f x before middle → sort middle ≡ Comma → C) → C
separated_first _ _ _ (alone x before end h) comma give = give x end h comma
separated_first _ _ _ (with_more x xs before middle end h between more) comma give = give x middle h between

-- a list whose items are spelled by another form too, where no more pieces are left than so many
separated_map : {A : Type 0} {f g : A → Lexemes → Lexemes → Type 0} (k : ℕ)
    → ((x : A) (before end : Lexemes) → length before ≤ k → f x before end → g x before end)
    → ((x : A) (before end : Lexemes) → f x before end → length end ≤ length before)
    → (xs : List A) (before end : Lexemes) → length before ≤ k → Separated f xs before end → Separated g xs before end
separated_map k change no_longer _ _ _ short (alone x before end s) = alone x before end (change x before end short s)
separated_map k change no_longer _ _ _ short (with_more x xs before middle end s between more) =
    with_more x xs before middle end (change x before middle short s) between
    (separated_map k change no_longer xs (behind middle) end
    (le_trans (shorter middle) (le_trans (no_longer x before middle s) short)) more)

-- a name and `=`
opened_unkeyed : (before : Lexemes) → sort before ≡ Open → is_keyed before ≡ false
unfolding sort is_keyed
opened_unkeyed [] opened = refl
opened_unkeyed (Name x ∷ more) opened = absurd (cc)
opened_unkeyed (p ∷ more) opened = refl

keyed_equals : (before : Lexemes) → is_keyed before ≡ true → sort (behind before) ≡ Equals
unfolding sort is_keyed behind
keyed_equals [] h = absurd (cc)
keyed_equals (Name x ∷ Mark sign.Equals ∷ more) h = refl
keyed_equals (Name x ∷ more) h = absurd (cc)
keyed_equals (p ∷ more) h = absurd (cc)

opened_length : (before : Lexemes) (k : ℕ) → sort before ≡ Open → length before ≤ suc k → length (behind before) ≤ k
unfolding sort behind
opened_length [] k opened short = absurd (cc)
opened_length (p ∷ more) k opened short = omega arith

opened_somewhere : {A : Type 0} (before : Lexemes) → sort before ≡ Open → length before ≤ 0 → A
unfolding sort
opened_somewhere [] opened short = absurd (cc)
opened_somewhere (p ∷ more) opened short = absurd (omega arith)

equals_only : (o : BinaryOp) (more : Lexemes) → sort (Infix o ∷ more) ≡ Equals → ⊥
unfolding sort
equals_only operator.Times more h = absurd (cc)
equals_only operator.Divide more h = absurd (cc)
equals_only operator.Concatenate more h = absurd (cc)
equals_only operator.Plus more h = absurd (cc)
equals_only operator.Minus more h = absurd (cc)
equals_only o more h = absurd (cc)

pub named_equals : (before : Lexemes) → is NamePiece (sort before) ≡ true → sort (behind before) ≡ Equals → is_keyed before ≡ true
unfolding sort is_keyed behind
named_equals [] named h = absurd (cc)
named_equals (Name x ∷ []) named h = absurd (cc)
named_equals (Name x ∷ Mark sign.Equals ∷ more) named h = refl
named_equals (Name x ∷ Infix o ∷ more) named h = absurd (equals_only o more h)
named_equals (Name x ∷ p ∷ more) named h = absurd (cc)
named_equals (Infix operator.Times ∷ more) named h = absurd (cc)
named_equals (Infix operator.Divide ∷ more) named h = absurd (cc)
named_equals (Infix operator.Concatenate ∷ more) named h = absurd (cc)
named_equals (Infix operator.Plus ∷ more) named h = absurd (cc)
named_equals (Infix operator.Minus ∷ more) named h = absurd (cc)
named_equals (Infix o ∷ more) named h = absurd (cc)
named_equals (Mark sign.Open ∷ more) named h = absurd (cc)
named_equals (Mark sign.Close ∷ more) named h = absurd (cc)
named_equals (Mark sign.Comma ∷ more) named h = absurd (cc)
named_equals (Mark sign.Equals ∷ more) named h = absurd (cc)
named_equals (Mark sign.Colon ∷ more) named h = absurd (cc)
named_equals (Mark sign.Point ∷ more) named h = absurd (cc)
named_equals (p ∷ more) named h = absurd (cc)

-- a loop begins with a name and `=`
loop_keyed : (y : LoopControl) (before end : Lexemes) → LoopForm y before end → is_keyed before ≡ true
unfolding Meant Both After Piece
loop_keyed y before end h =
    named_equals before (known_name.told.begins h.0.0 before h.2.0 h.2.1) (subst (λ m. sort m ≡ Equals) h.2.1.1 h.2.2.0)

-- what stands in parentheses up to the closing one
abbrev Inside : (Expr → Lexemes → Lexemes → Type 0) → Lexemes → Type 0
Inside f before = (e : Expr) × (middle : Lexemes) × f e (behind before) middle × (sort middle ≡ Close)

-- items of a form, and implied DO loops of them
module _ {read : Reader Expr} {f : Expr → Lexemes → Lexemes → Type 0} {F S L : Test} (T M : Test) (a : Told read f F S L)
    (inside : (e : Expr) (before after : Lexemes) → f e before after → sort before ≡ Open → Inside f before)
    (unkeyed : (e : Expr) (before after : Lexemes) → f e before after → sort after ≡ Comma → is_keyed before ≡ false)
    (at_comma : F Comma ≡ true) (at_close : F Close ≡ true) (S-T : covers S T ≡ true) (L-M : covers L M ≡ true)
    (F-F : covers F F ≡ true) (F-all : covers F (also F all) ≡ true)
    (S-open : covers (or_else S (is Open)) T ≡ true) (L-open : covers (or_else L (is Open)) M ≡ true) where
  abbrev LoopPart : ℕ → ListItem → Lexemes → Lexemes → Type 0
  LoopPart n = Meant loop_of_items (Enclosed (Both (UpTo (Separated (DeepItem n f)) Comma) LoopForm))

  clash : (e c : Expr) (before middle rest : Lexemes) → f e before middle → sort middle ≡ Comma → f c before rest → sort rest ≡ Close → ⊥
  clash e c before middle rest s comma t close =
      let one = a.exact.complete e before middle s (subst (λ k. F k ≡ true) (sym comma) at_comma) in
      let two = a.exact.complete c before rest t (subst (λ k. F k ≡ true) (sym close) at_close) in
      let k : Close ≡ Comma = sym close ∙ ap sort (same_rest _ _ (sym one ∙ two)) ∙ comma in
      absurd (cc)

  -- no loop begins as an item does
  no_item : (n : ℕ) (i : ListItem) (before end : Lexemes) → LoopPart n i before end → (e : Expr) (rest : Lexemes) → f e before rest → ⊥
  unfolding Meant Enclosed After UpTo Both DeepItem Either
  no_item zero i before end h e rest s =
      let within = inside e before rest s h.2.0 in
      separated_first h.0.0 (behind before) h.2.1.1.1.0 h.2.1.1.1.1 h.2.1.1.1.2
      (λ x middle spelled comma. clash spelled.0 within.0 (behind before) middle within.1
      spelled.2 comma within.2 within.3)
  no_item (suc n) i before end h e rest s =
      let within = inside e before rest s h.2.0 in
      separated_first h.0.0 (behind before) h.2.1.1.1.0 h.2.1.1.1.1 h.2.1.1.1.2 (λ x middle spelled comma.
      ⊎_elim (λ (one : Meant item.Item f x (behind before) middle). clash one.0 within.0 (behind before) middle within.1 one.2 comma
      within.2 within.3)
      (λ (loop : LoopPart n x (behind before) middle). no_item n x (behind before) middle loop within.0 within.1 within.2) spelled)

  pub loop_refuses : (n : ℕ) (i : ListItem) (before end : Lexemes) → LoopPart n i before end → meant item.Item read before ≡ None
  unfolding Meant
  loop_refuses n i before end h = from (meant item.Item read before) refl
    where
      from : (o : Option (ListItem × Lexemes)) → meant item.Item read before ≡ o → o ≡ None
      from None found = refl
      from (Some r) found =
          let s = (told_meant item.Item a).exact.sound r.0 before r.1 found in
          absurd (no_item n i before end h s.0 r.1 s.2)

  item_unkeyed : (n : ℕ) (i : ListItem) (before after : Lexemes) → DeepItem n f i before after → sort after ≡ Comma
      → is_keyed before ≡ false
  unfolding Meant Enclosed After DeepItem Either
  item_unkeyed zero i before after h comma = unkeyed h.0 before after h.2 comma
  item_unkeyed (suc n) i before after (inl h) comma = unkeyed h.0 before after h.2 comma
  item_unkeyed (suc n) i before after (inr h) comma = opened_unkeyed before h.2.0

  pub deep_told : (n : ℕ) → Told (deep_item n read) (DeepItem n f) F T M
  unfolding deep_item DeepItem
  deep_told zero = told_widened F T M (told_meant item.Item a) F-F S-T L-M
  deep_told (suc n) =
      told_widened F T M
      (told_either_first (told_meant item.Item a) (told_meant loop_of_items
      (told_enclosed (told_list_and_other (deep_told n) loop_form_known.told at_comma (item_unkeyed n) loop_keyed) refl))
      (λ i before end h ok. loop_refuses n i before end h))
      F-all S-open L-open

  pub loop_told : (n : ℕ) → Told (meant loop_of_items (enclosed (looped (deep_item n read) loop_form))) (LoopPart n) all (is Open)
      (is Open)
  loop_told n = told_meant loop_of_items (told_enclosed (told_list_and_other (deep_told n) loop_form_known.told at_comma (item_unkeyed n)
      loop_keyed) refl)

  -- no loops are deeper than the pieces are many
  abbrev Within : ℕ → List ListItem × LoopControl → Lexemes → Lexemes → Type 0
  Within n = Both (UpTo (Separated (DeepItem n f)) Comma) LoopForm

  deepened_list : (n k j : ℕ) → ((i : ListItem) (before end : Lexemes) → length before ≤ j → DeepItem n f i before end
      → DeepItem k f i before end)
      → (p : List ListItem × LoopControl) (before end : Lexemes) → length before ≤ j → Within n p before end → Within k p before end
  unfolding Both UpTo
  deepened_list n k j deepen p before end short h = (
    h.0,
    (h.1.0, separated_map j deepen (λ x b e s. (deep_told n).exact.no_longer x b e s) p.0 before h.1.0 short h.1.1, h.1.2, h.1.3),
    h.2,
  )

  deepened : (n k : ℕ) (i : ListItem) (before end : Lexemes) → length before ≤ k → DeepItem n f i before end → DeepItem k f i before end
  unfolding DeepItem Either Meant Enclosed After UpTo
  deepened zero zero i before end short h = h
  deepened zero (suc k) i before end short h = inl h
  deepened (suc n) zero i before end short (inl h) = h
  deepened (suc n) zero i before end short (inr h) = opened_somewhere before h.2.0 short
  deepened (suc n) (suc k) i before end short (inl h) = inl h
  deepened (suc n) (suc k) i before end short (inr h) =
      inr (
        h.0,
        h.1,
        (
          h.2.0,
          (
            h.2.1.0,
            deepened_list n k k (λ x b e s t. deepened n k x b e s t) h.0 (behind before) h.2.1.0 (opened_length before k h.2.0 short)
                h.2.1.1,
            h.2.1.2,
            h.2.1.3,
          ),
        ),
      )

  loop_deepened : (n : ℕ) (i : ListItem) (before end : Lexemes) → LoopPart n i before end → LoopPart (length before) i before end
  unfolding Meant Enclosed After UpTo
  loop_deepened n i before end h = (
    h.0,
    h.1,
    (
      h.2.0,
      (
        h.2.1.0,
        deepened_list n (length before) (length before) (λ x b e s t. deepened n (length before) x b e s t) h.0 (behind before) h.2.1.0
            (shorter before) h.2.1.1,
        h.2.1.2,
        h.2.1.3,
      ),
    ),
  )

  pub implied_do_told : Told (implied_do read) (ImpliedDo f) all (is Open) (is Open)
  unfolding implied_do ImpliedDo
  implied_do_told = record {
    exact = record {
      sound = λ i before end h. (length before, (loop_told (length before)).exact.sound i before end h);
      complete = λ i before end h ok. (loop_told (length before)).exact.complete i before end (loop_deepened h.0 i before end h.1) refl;
      no_longer = λ i before end h. (loop_told h.0).exact.no_longer i before end h.1;
    };
    begins = λ i before end h. (loop_told h.0).begins i before end h.1;
    leads_on = λ i before end h ok. (loop_told h.0).begins i before end h.1;
  }

  abbrev pub implied_do_known : Known (implied_do read) (ImpliedDo f)
  implied_do_known = record { follows = all; starts = is Open; leads = is Open; told = implied_do_told }

  pub implied_do_refuses : (i : ListItem) (before end : Lexemes) → ImpliedDo f i before end → meant item.Item read before ≡ None
  unfolding ImpliedDo
  implied_do_refuses i before end h = loop_refuses h.0 i before end h.1

-- an expression that begins with a parenthesis has an expression in it
name_not_open : {A : Type 0} (before : Lexemes) → is NamePiece (sort before) ≡ true → sort before ≡ Open → A
name_not_open before named opened = absurd (let e = subst (λ k. is NamePiece k ≡ true) opened named in cc)

pub expression_inside : (l : ℕ) (e : Expr) (before after : Lexemes) → SpellsExpr l e before after → sort before ≡ Open
    → Inside SpellsExpression before
unfolding sort behind
expression_inside _ _ _ _ (spell.number l digits value q n small) opened = absurd (cc)
expression_inside _ _ _ _ (spell.text l characters q n) opened = absurd (cc)
expression_inside _ _ _ _ (spell.truth l b q n) opened = absurd (cc)
expression_inside _ _ _ _ (spell.place l e p q n s) opened = name_not_open p (known_place.told.begins e p q s) opened
expression_inside _ _ _ _ (spell.call l x q n) opened = absurd (cc)
expression_inside _ _ _ _ (spell.parenthesised l e p q n s) opened = (e, _, s, refl)
expression_inside _ _ _ _ (spell.negative l e p q n s) opened = absurd (cc)
expression_inside _ _ _ _ (spell.positive l e p q n s) opened = absurd (cc)
expression_inside _ _ _ _ (spell.negated l e p q n s) opened = absurd (cc)
expression_inside _ _ _ _ (spell.between l o a b p m q n s t) opened = expression_inside (left o) a p _ s opened

-- no expression before a comma begins with a name and `=`
keyed_name : (before : Lexemes) → is_keyed before ≡ true → (x : List ℕ) × (more : Lexemes) × (before ≡ Name x ∷ Mark sign.Equals ∷ more)
unfolding is_keyed
keyed_name [] h = absurd (cc)
keyed_name (Name x ∷ Mark sign.Equals ∷ more) h = (x, more, refl)
keyed_name (Name x ∷ more) h = absurd (cc)
keyed_name (p ∷ more) h = absurd (cc)

equals_sort : (more : Lexemes) → (sort (Mark sign.Equals ∷ more) ≡ Equals) × (stops (Mark sign.Equals ∷ more) ≡ true)
unfolding sort stops
equals_sort more = (refl, refl)

pub expression_unkeyed : (e : Expr) (before after : Lexemes) → SpellsExpression e before after → is Equals (sort after) ≡ false
    → is_keyed before ≡ false
expression_unkeyed e before after s other =
    by_bool {A = is_keyed before ≡ false} (is_keyed before)
    (λ keyed. let name = keyed_name before keyed in
    let rest = (name_alone 1 e before after s name.0 (Mark sign.Equals ∷ name.1) (equals_sort name.1).1 name.2).left_over in
    let equals : is Equals (sort after) ≡ true = equal_same Equals (sort after) (ap sort rest ∙ (equals_sort name.1).0) in
    absurd (cc))
    (λ unkeyed. unkeyed)

pub expression_no_loop : (e : Expr) (before after : Lexemes) → SpellsExpression e before after → sort after ≡ Comma
    → is_keyed before ≡ false
expression_no_loop e before after s comma = expression_unkeyed e before after s (subst (λ k. is Equals k ≡ false) (sym comma) refl)

abbrev pub expression_loop_known : Known (implied_do read_expression) (ImpliedDo SpellsExpression)
expression_loop_known = implied_do_known beginning beginning expression_told (expression_inside 1) expression_no_loop refl refl refl refl
    refl refl refl refl

pub expression_loop_refuses : (i : ListItem) (before end : Lexemes) → ImpliedDo SpellsExpression i before end → all (sort end) ≡ true
    → meant item.Item read_expression before ≡ None
expression_loop_refuses i before end h ok =
    implied_do_refuses beginning beginning expression_told (expression_inside 1) expression_no_loop refl refl refl refl refl refl refl
    refl i before end h

abbrev pub item_form_known : Known item_form ItemForm
item_form_known = known_either_first (known_meant item.Item known_expression) expression_loop_known expression_loop_refuses

abbrev pub items_form_known : Known items_form ItemsForm
items_form_known = known_separated item_form_known refl

abbrev pub element_form_known : Known element_form ElementForm
element_form_known = known_meant (λ p. expr.Apply p.0 p.1) (known_both known_name
    (known_enclosed (known_separated known_expression refl) refl) refl)

abbrev named_or_open : Test
named_or_open = or_else (is NamePiece) (is Open)

pub element_inside : (e : Expr) (before after : Lexemes) → ElementForm e before after → sort before ≡ Open → Inside ElementForm before
element_inside e before after s opened = name_not_open before (element_form_known.told.begins e before after s) opened

pub element_no_loop : (e : Expr) (before after : Lexemes) → ElementForm e before after → sort after ≡ Comma → is_keyed before ≡ false
unfolding Meant Both Enclosed After Piece
element_no_loop e before after s comma =
    by_bool {A = is_keyed before ≡ false} (is_keyed before)
    (λ keyed. let opened = subst (λ m. sort m ≡ Open) s.2.1.1 s.2.2.0 in
    let k : Open ≡ Equals = sym opened ∙ keyed_equals before keyed in
    absurd (cc))
    (λ unkeyed. unkeyed)

abbrev pub element_loop_known : Known (implied_do element_form) (ImpliedDo ElementForm)
element_loop_known = implied_do_known named_or_open named_or_open element_form_known.told element_inside element_no_loop refl refl refl
    refl refl refl
    refl refl

abbrev pub data_place_form_known : Known data_place_form DataPlaceForm
data_place_form_known = known_either (known_meant item.Item known_place) element_loop_known refl

pub truth_first : (p : Lexeme) (more : Lexemes) (x : Bool) → truth_of p ≡ Some x → is TruthPiece (sort (p ∷ more)) ≡ true
unfolding truth_of sort
truth_first (Truth b) more x h = refl
truth_first other more x h = absurd (cc)

abbrev pub truth_of_known : Known (piece truth_of) (Piece truth_of)
truth_of_known = known_piece truth_of (is TruthPiece) truth_first

abbrev pub integer_form_known : Known integer_form IntegerForm
integer_form_known = known_meant (λ n. expr.Int (pos n)) known_number

abbrev pub other_constant_form_known : Known other_constant_form OtherConstantForm
other_constant_form_known = known_either (known_meant expr.Minus (known_after integer_form_known Minus))
    (known_either (known_meant expr.Plus (known_after integer_form_known Plus))
    (known_either (known_meant expr.Text known_quoted) (known_meant expr.Logical truth_of_known) refl) refl) refl

abbrev pub count_form_known : Known count_form CountForm
count_form_known = known_either integer_form_known (known_meant expr.Name known_name) refl

abbrev pub data_value_form_known : Known data_value_form DataValueForm
data_value_form_known = known_either (known_meant value_of (known_both count_form_known
    (known_maybe (known_after (known_either count_form_known other_constant_form_known refl) Star)) refl))
    (known_meant single other_constant_form_known) refl

abbrev pub data_group_form_known : Known data_group_form DataGroupForm
data_group_form_known = known_meant data_group (known_both (known_separated data_place_form_known refl)
    (known_after (known_up_to (known_separated data_value_form_known refl) Slash refl) Slash) refl)

-- a piece of a sort before what is left
pub marked_shortens : (before end : Lexemes) (k : Sort) → is NoPiece k ≡ false → sort before ≡ k → length end ≤ length (behind before)
    → suc (length end) ≤ length before
unfolding sort behind
marked_shortens [] end k other h short = absurd (let e = subst (λ j. is NoPiece j ≡ false) (sym h) other in cc)
marked_shortens (p ∷ more) end k other h short = omega arith

behind_slash : (g : DataGroup) (before end : Lexemes) → DataGroupForm g before end → suc (length end) ≤ length before
unfolding Meant Both After
behind_slash g before end h =
    let places = h.2.1 in
    let values = h.2.2 in
    le_trans
    (marked_shortens h.2.0 end Slash refl values.0 ((known_up_to (known_separated data_value_form_known refl) Slash
    refl).told.exact.no_longer h.0.1 (behind h.2.0) end values.1))
    ((known_separated data_place_form_known refl).told.exact.no_longer h.0.0 before h.2.0 places)

-- a group takes a piece, the slash at least
pub group_shortens : (g : DataGroup) (before end : Lexemes) → WithComma DataGroupForm g before end → suc (length end) ≤ length before
unfolding WithComma Either After
group_shortens g before end (inl h) = marked_shortens before end Comma refl h.0
    (data_group_form_known.told.exact.no_longer g (behind before) end h.1)
group_shortens g before end (inr h) = behind_slash g before end h

abbrev pub data_form_known : Known data_form DataForm
data_form_known = known_meant (λ p. body.Init (chained p)) (known_both data_group_form_known
    (known_many (known_with_comma data_group_form_known refl) group_shortens refl) refl)
