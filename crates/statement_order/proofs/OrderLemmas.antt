-- The rows of the order of a statement by what is kept of those before it.
use Rattle.std.proofs.Common.{◌≡◌, ℕ, Bool, true, false, not, ◌&&◌, ◌||◌, List, [], ◌∷◌, ◌++◌, map, append_assoc, bytes_eq, refl, sym, ap, ◌∙◌}
use Rattle.std.specs.List.{list_any}
use Rattle.std.proofs.lemmas.List.{map-append}
use Rattle.f_tree.specs.Values.{Bytes}
use Rattle.f_tree.specs.Folds.{layer_of}
use Rattle.f_tree.specs.declared.statements.Body.{Body}
use Rattle.f_tree.specs.declared.statements.Body.TheOpen as body
use Rattle.f_tree.specs.declared.statements.ConstantDefinition.{ConstantDefinition}
use Rattle.f_tree.specs.declared.statements.Declarator.{Declarator}
use Rattle.f_tree.specs.declared.statements.ImplicitGroup.{ImplicitGroup}
use Rattle.f_tree.specs.declared.statements.LetterRange.{LetterRange}
use Rattle.f_tree.specs.declared.statements.UnitKind.{UnitKind}
use Rattle.f_tree.specs.declared.statements.Stmt.{Stmt}
use Rattle.f_tree.specs.declared.units.Unit.{Unit as WrittenUnit}
use Rattle.f_tree.specs.declared.refusals.Kind.{Kind}
use Rattle.f_tree.specs.declared.refusals.Kind.TheVariants.{StatementOutOfOrder}
use Rattle.f_tree.specs.declared.refusals.Refusal.{Refusal}
use Rattle.f_tree.specs.Uses.{is_among, uses_of_body}
use Rattle.f_tree.specs.Attributes.{constants_in, letter_is_in, arrays_of}
use Rattle.declaration_rows.specs.Judgement.{unless}
use Rattle.declaration_rows.specs.NameRows.{stood}
use Rattle.declaration_rows.specs.OrderRows.{Rank, Stage, order_rows, rank_of, stage_behind, is_implicit_none, is_implicit, is_second_implicit, is_typed_by_letter, types_name, constants_before, uses_name, is_used_before, constant_order_rows, kind_rows, ordered_rows}
use Rattle.name_table.specs.Named.{names_in, IsNameSet}
use Rattle.name_table.proofs.Texts.{bytes_eq_flip}
use Rattle.name_table.proofs.SetLemmas.{among_both}
use Rattle.statement_order.specs.declared.before.Before.{Before}
use Rattle.statement_order.specs.BeforeSteps.{in_range, letter_typed, first_passes, constant_names, types_by, uses_as, Notes, AreBefore}
use Rattle.statement_order.specs.RowSteps.{rows_at}
use Rattle.statement_order.proofs.UseSets.{or_turn, any_append}

-- lists in which something is found
none_any : {A : Type 0} (xs : List A) → false ≡ list_any (λ x. false) xs
none_any [] = refl
none_any (x ∷ xs) = none_any xs

four : (a b c d : Bool) → ((a || b) || (c || d)) ≡ ((a || c) || (b || d))
four true b c d = refl
four false true true d = refl
four false true false d = refl
four false false true d = refl
four false false false d = refl

any_either : {A : Type 0} (p q : A → Bool) (xs : List A) → (list_any p xs || list_any q xs) ≡ list_any (λ x. p x || q x) xs
any_either p q [] = refl
any_either p q (x ∷ xs) = four (p x) (list_any p xs) (q x) (list_any q xs) ∙ ap (λ b. (p x || q x) || b) (any_either p q xs)

any_turn : {A B : Type 0} (r : A → B → Bool) (as' : List A) (bs : List B) → list_any (λ a. list_any (r a) bs) as' ≡ list_any (λ b. list_any (λ a. r a b) as') bs
any_turn r [] bs = none_any bs
any_turn r (a ∷ as') bs = ap (λ c. list_any (r a) bs || c) (any_turn r as' bs) ∙ any_either (r a) (λ b. list_any (λ c. r c b) as') bs

among_any : (x : Bytes) (ys : List Bytes) → is_among x ys ≡ list_any (bytes_eq x) ys
unfolding is_among
among_any x [] = refl
among_any x (y ∷ ys) = ap (λ b. bytes_eq x y || b) (among_any x ys)

among_names : (x : Bytes) (ds : List Declarator) → list_any (λ (d : Declarator). bytes_eq d.name x) ds ≡ is_among x (map (λ (d : Declarator). d.name) ds)
unfolding is_among
among_names x [] = refl
among_names x (d ∷ ds) =
    ap (λ b. b || list_any (λ (e : Declarator). bytes_eq e.name x) ds) (bytes_eq_flip d.name x) ∙ ap (λ b. bytes_eq x d.name || b) (among_names x ds)

declared_turn : (constants cs : List Bytes) (ds : List Declarator) → ((x : Bytes) → is_among x constants ≡ is_among x cs)
    → list_any (λ (d : Declarator). is_among d.name constants) ds ≡ list_any (λ x. is_among x (map (λ (d : Declarator). d.name) ds)) cs
declared_turn constants cs ds same =
    (λ i. list_any (λ (d : Declarator). (same d.name ∙ among_any d.name cs) i) ds) ∙ any_turn (λ (d : Declarator) (x : Bytes). bytes_eq d.name x) ds cs
    ∙ (λ i. list_any (λ x. among_names x ds i) cs)

letter_in_is : (c : ℕ) (rs : List LetterRange) → list_any (in_range c) rs ≡ letter_is_in c rs
unfolding letter_is_in in_range
letter_in_is c [] = refl
letter_in_is c (r ∷ rs) = ap (λ b. in_range c r || b) (letter_in_is c rs)

typed_first : (groups : List ImplicitGroup) (x : Bytes) → first_passes (letter_typed groups) x ≡ is_typed_by_letter x groups
unfolding first_passes is_typed_by_letter
typed_first groups [] = refl
typed_first groups (c ∷ cs) = λ i. list_any (λ (g : ImplicitGroup). letter_in_is c g.letters i) groups

types_layer : (constants : List Bytes) (letters : List ℕ) (cs : List Bytes) → ((x : Bytes) → is_among x constants ≡ is_among x cs)
    → ((p : ℕ → Bool) → list_any p letters ≡ list_any (first_passes p) cs) → (l : body.Body-F Body)
    → (elim l [
      | body.Declare spec items ↦ list_any (λ (d : Declarator). is_among d.name constants) items
      | body.Implicit groups ↦ list_any (letter_typed groups) letters
      | _ ↦ false
    ])
    ≡ list_any
    (λ x. elim l [
      | body.Declare spec items ↦ is_among x (map (λ (d : Declarator). d.name) items)
      | body.Implicit groups ↦ is_typed_by_letter x groups
      | _ ↦ false
    ])
    cs
types_layer constants letters cs same firsts (body.Declare spec items) = declared_turn constants cs items same
types_layer constants letters cs same firsts (body.Implicit groups) = firsts (letter_typed groups) ∙ (λ i. list_any (λ x. typed_first groups x i) cs)
types_layer constants letters cs same firsts _ = none_any cs

typed_before : (arrays : List Bytes) (known : Before) (ss : List Stmt) (b : Body) → AreBefore arrays known ss
    → types_by (names_in known.constants) known.letters.items b ≡ list_any (types_name b) (constants_before ss)
unfolding types_by types_name
typed_before arrays known ss b before =
    types_layer (names_in known.constants) known.letters.items (constants_before ss) before.constants before.letters (layer_of b)

used_before : (arrays : List Bytes) (known : Before) (ss : List Stmt) (b : Body) → AreBefore arrays known ss
    → list_any (λ (x : Bytes). is_among x (names_in known.used)) (constant_names b) ≡ list_any (is_used_before arrays ss) (map (λ (d : ConstantDefinition). d.name) (constants_in b))
unfolding constant_names is_used_before
used_before arrays known ss b before = λ i. list_any (λ (x : Bytes). before.used x i) (map (λ (d : ConstantDefinition). d.name) (constants_in b))

second_before : (arrays : List Bytes) (known : Before) (ss : List Stmt) (b : Body) → AreBefore arrays known ss
    → (is_implicit b && (known.has_none || (is_implicit_none b && known.has_implicit))) ≡ is_second_implicit ss b
unfolding is_second_implicit
second_before arrays known ss b before =
    ap (λ n. is_implicit b && (n || (is_implicit_none b && known.has_implicit))) before.none
    ∙ ap (λ n. is_implicit b && (list_any (λ (s : Stmt). is_implicit_none s.body) ss || (is_implicit_none b && n))) before.implicit

-- rows put one behind the other
stood_both : (s : Stmt) (ks ls : List Kind) → stood s (ks ++ ls) ≡ stood s ks ++ stood s ls
unfolding stood
stood_both s ks ls = map-append (λ (k : Kind). record { file = s.file; card = s.card; kind = k }) ks ls

behind : (s : Stmt) (found : List Refusal) (ks ls : List Kind) → (found ++ stood s ks) ++ stood s ls ≡ found ++ stood s (ks ++ ls)
behind s found ks ls = append_assoc found (stood s ks) (stood s ls) ∙ ap (λ rs. found ++ rs) (sym (stood_both s ks ls))

pub five_rows : (s : Stmt) (found one two three after last : List Refusal) (a b c d e : List Kind) → one ≡ found ++ stood s a → two ≡ one ++ stood s b → three ≡ two ++ stood s c
    → after ≡ three ++ stood s d → last ≡ after ++ stood s e → last ≡ found ++ stood s (a ++ (b ++ ((c ++ d) ++ e)))
five_rows s found one two three after last a b c d e first second third fourth fifth =
    fifth ∙ ap (λ rs. rs ++ stood s e) (fourth ∙ ap (λ rs. rs ++ stood s d) third ∙ behind s two c d) ∙ behind s two (c ++ d) e
    ∙ ap (λ rs. rs ++ stood s ((c ++ d) ++ e)) (second ∙ ap (λ rs. rs ++ stood s b) first) ∙ ap (λ rs. rs ++ stood s ((c ++ d) ++ e)) (behind s found a b)
    ∙ behind s found (a ++ b) ((c ++ d) ++ e) ∙ ap (λ ks. found ++ stood s ks) (append_assoc a b ((c ++ d) ++ e))

pub rows_are : (kind : UnitKind) (arrays : List Bytes) (stage : Stage) (rank : Rank) (known : Before) (ss : List Stmt) (s : Stmt) (second typed used : Bool) (k : List Kind) → AreBefore arrays known ss
    → rank ≡ rank_of arrays s.body
    → second ≡ (is_implicit s.body && (known.has_none || (is_implicit_none s.body && known.has_implicit)))
    → typed ≡ types_by (names_in known.constants) known.letters.items s.body
    → used ≡ list_any (λ (x : Bytes). is_among x (names_in known.used)) (constant_names s.body) → k ≡ kind_rows kind s.body
    → stood s
    (order_rows stage rank ++ (unless (not second) StatementOutOfOrder ++ ((unless (not typed) StatementOutOfOrder ++ unless (not used) StatementOutOfOrder) ++ k)))
    ≡ rows_at kind arrays stage ss s
unfolding rows_at constant_order_rows
rows_are kind arrays stage rank known ss s second typed used k before ranked is_second is_typed is_used is_kind =
    ap
    (λ r. stood s (order_rows stage r ++ (unless (not second) StatementOutOfOrder ++ ((unless (not typed) StatementOutOfOrder ++ unless (not used) StatementOutOfOrder) ++ k))))
    ranked
    ∙ ap
    (λ b. stood s (order_rows stage (rank_of arrays s.body) ++ (unless (not b) StatementOutOfOrder ++ ((unless (not typed) StatementOutOfOrder ++ unless (not used) StatementOutOfOrder) ++ k))))
    (is_second ∙ second_before arrays known ss s.body before)
    ∙ ap
    (λ b. stood s (order_rows stage (rank_of arrays s.body) ++ (unless (not (is_second_implicit ss s.body)) StatementOutOfOrder ++ ((unless (not b) StatementOutOfOrder ++ unless (not used) StatementOutOfOrder) ++ k))))
    (is_typed ∙ typed_before arrays known ss s.body before)
    ∙ ap
    (λ b. stood s (order_rows stage (rank_of arrays s.body) ++ (unless (not (is_second_implicit ss s.body)) StatementOutOfOrder ++ ((unless (not (list_any (types_name s.body) (constants_before ss))) StatementOutOfOrder ++ unless (not b) StatementOutOfOrder) ++ k))))
    (is_used ∙ used_before arrays known ss s.body before)
    ∙ ap
    (λ ks. stood s (order_rows stage (rank_of arrays s.body) ++ (unless (not (is_second_implicit ss s.body)) StatementOutOfOrder ++ ((unless (not (list_any (types_name s.body) (constants_before ss))) StatementOutOfOrder ++ unless (not (list_any (is_used_before arrays ss) (map (λ (d : ConstantDefinition). d.name) (constants_in s.body)))) StatementOutOfOrder) ++ ks))))
    is_kind

-- what is known behind a statement
pub known_behind : (arrays : List Bytes) (old new : Before) (ss : List Stmt) (s : Stmt) → AreBefore arrays old ss → Notes arrays old new s → AreBefore arrays new (s ∷ ss)
unfolding constants_before uses_name uses_as constant_names
known_behind arrays old new ss s before notes = record {
  none = notes.none ∙ ap (λ b. is_implicit_none s.body || b) before.none;
  implicit = notes.implicit ∙ ap (λ b. is_implicit s.body || b) before.implicit;
  constants = λ x.
      ap (is_among x) notes.constants ∙ among_both x (names_in old.constants) (constant_names s.body)
      ∙ ap (λ b. b || is_among x (constant_names s.body)) (before.constants x) ∙ or_turn (is_among x (constants_before ss)) (is_among x (constant_names s.body))
      ∙ sym (among_both x (constant_names s.body) (constants_before ss));
  constants_set = notes.constants_set;
  letters = λ p.
      notes.letters p ∙ ap (λ b. b || list_any (first_passes p) (constant_names s.body)) (before.letters p)
      ∙ or_turn (list_any (first_passes p) (constants_before ss)) (list_any (first_passes p) (constant_names s.body))
      ∙ sym (any_append (first_passes p) (constant_names s.body) (constants_before ss));
  used = λ x.
      notes.used x ∙ ap (λ b. b || list_any (uses_as x) (uses_of_body arrays s.body)) (before.used x)
      ∙ or_turn (list_any (uses_name arrays x) ss) (list_any (uses_as x) (uses_of_body arrays s.body));
  used_set = notes.used_set;
}

-- a walk over the statements, with the stage and the statements before
pub record Walked : Type 0 where
  pub stage : Stage
  pub seen : List Stmt

abbrev pub rows_on : WrittenUnit → Walked → List Stmt → List Refusal
rows_on u w ss = ordered_rows u w.stage w.seen ss

abbrev pub row_on : WrittenUnit → Walked → Stmt → List Refusal
row_on u w s = rows_at u.kind (arrays_of u) w.stage w.seen s

abbrev pub walked_on : WrittenUnit → Walked → Stmt → Walked
walked_on u w s = record { stage = stage_behind w.stage (rank_of (arrays_of u) s.body); seen = s ∷ w.seen }

pub order_step : (u : WrittenUnit) (w : Walked) (s : Stmt) (ss : List Stmt) → rows_on u w (s ∷ ss) ≡ row_on u w s ++ rows_on u (walked_on u w s) ss
unfolding ordered_rows rows_at
order_step u w s ss = refl

pub order_none : (u : WrittenUnit) (w : Walked) → rows_on u w [] ≡ []
unfolding ordered_rows
order_none u w = refl

pub walked_as : (one other : Stage) (seen : List Stmt) → one ≡ other → record { stage = one; seen = seen } ≡ (let w : Walked = record { stage = other; seen = seen } in w)
walked_as one other seen same = ap (λ st. let w : Walked = record { stage = st; seen = seen } in w) same

pub nothing_known : (arrays : List Bytes) (known : Before) → known.has_none ≡ false → known.has_implicit ≡ false → names_in known.constants ≡ [] → IsNameSet known.constants → known.letters.items ≡ []
    → names_in known.used ≡ [] → IsNameSet known.used → AreBefore arrays known []
unfolding constants_before
nothing_known arrays known none implicit constants constants_set letters used used_set = record {
  none = none;
  implicit = implicit;
  constants = λ x. ap (is_among x) constants;
  constants_set = constants_set;
  letters = λ p. ap (list_any p) letters;
  used = λ x. ap (is_among x) used ∙ among_any x [];
  used_set = used_set;
}
