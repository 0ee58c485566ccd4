-- What is kept while cards are read makes the statements of all the cards.
use Rattle.std.proofs.Common.{◌≡◌, ℕ, suc, ◌+◌, ◌≤◌, Bool, true, false, List, [], ◌∷◌, ◌++◌, refl, sym, ap, ◌∙◌, add-one, append_assoc, arith, Option, Some, None}
use Rattle.std.specs.Prelude.{if◌then◌else◌}
use Rattle.std.proofs.lemmas.List.{append-nil}
use Rattle.fortran_text.specs.CardRows.{open_behind}
use Rattle.fortran_text.specs.Cards.{Card}
use Rattle.fortran_text.specs.CharactersOfText.{is_end}
use Rattle.fortran_text.specs.KindsOfCards.{kind_of, text_of}
use Rattle.fortran_text.specs.StatementsOfFile.{before_text, continued, statement, before_statements, statements}
use Rattle.fortran_text.specs.declared.source.CardKind.{CardKind}
use Rattle.fortran_text.specs.declared.source.CardKind.TheVariants.{Comment, Initial, Continuation}
use Rattle.fortran_text.specs.declared.source.Statement.{Statement}
use Rattle.cards.specs.Passes.{begun, extended, closed, with_begun, with_more, group_by, group_after, groups_after, counted, count_of, nothing}
use Rattle.cards.specs.declared.grouping.Current.{Current}
use Rattle.cards.specs.declared.grouping.Group.{Group}

-- how many continuation cards stand open
counted_begun : (done : List Statement) (s : Statement) (ends : Bool) → counted (with_begun done s ends).current ≡ (if ends then None else Some 0)
counted_begun done s true = refl
counted_begun done s false = refl

counted_more : (current : Option Current) (text : List ℕ) → counted (with_more current text) ≡ open_behind Continuation text (counted current)
unfolding open_behind
counted_more None text = refl
counted_more (Some current) text = ap (λ n. Some n) (add-one current.continuations)

counted_by : (kind : CardKind) (file number : ℕ) (group : Group) (columns : List ℕ)
    → counted (group_by kind file number group columns).current ≡ open_behind kind (text_of columns) (counted group.current)
unfolding open_behind
counted_by Comment file number group columns = refl
counted_by Initial file number group columns = counted_begun (closed group.done group.current) (begun file number columns) (is_end (text_of columns))
counted_by Continuation file number group columns = counted_more group.current (text_of columns)

pub counted_after : (file number : ℕ) (group : Group) (columns : List ℕ)
    → counted (group_after file number group columns).current ≡ open_behind (kind_of columns) (text_of columns) (counted group.current)
unfolding group_after
counted_after file number group columns = counted_by (kind_of columns) file number group columns

count_begun : (done : List Statement) (s : Statement) (ends : Bool) → count_of (with_begun done s ends).current ≡ 0
count_begun done s true = refl
count_begun done s false = refl

count_more : (current : Option Current) (text : List ℕ) → count_of (with_more current text) ≤ count_of current + 1
count_more None text = omega arith
count_more (Some current) text = omega arith

count_by : (kind : CardKind) (file number : ℕ) (group : Group) (columns : List ℕ) → count_of (group_by kind file number group columns).current ≤ count_of group.current + 1
count_by Comment file number group columns = omega arith
count_by Initial file number group columns = omega (arith, count_begun (closed group.done group.current) (begun file number columns) (is_end (text_of columns)))
count_by Continuation file number group columns = count_more group.current (text_of columns)

pub count_after : (file number : ℕ) (group : Group) (columns : List ℕ) → count_of (group_after file number group columns).current ≤ count_of group.current + 1
unfolding group_after
count_after file number group columns = count_by (kind_of columns) file number group columns

-- the statement that may go on, with the text that follows
opened : Option Current → List ℕ → List Statement
opened None text = []
opened (Some current) text = extended current.statement text ∷ []

extended-nil : (s : Statement) → extended s [] ≡ s
extended-nil s = ap (λ (t : List ℕ). record s { text = t }) (append-nil s.text)

extended-twice : (s : Statement) (text later : List ℕ) → extended (extended s text) later ≡ extended s (text ++ later)
extended-twice s text later = ap (λ (t : List ℕ). record s { text = t }) (append_assoc s.text text later)

closed_is : (done : List Statement) (current : Option Current) → closed done current ≡ done ++ opened current []
unfolding opened
closed_is done None = sym (append-nil done)
closed_is done (Some current) = ap (λ s. done ++ s ∷ []) (sym (extended-nil current.statement))

opened_more : (current : Option Current) (text later : List ℕ) → opened (with_more current text) later ≡ opened current (text ++ later)
unfolding opened
opened_more None text later = refl
opened_more (Some current) text later = ap (λ s. s ∷ []) (extended-twice current.statement text later)

statement_end : (file number : ℕ) (card : Card) (more : List Card) → is_end (text_of card.columns) ≡ true → statement file number card more ≡ begun file number card.columns
unfolding statement
statement_end file number card more h = rw h

statement_longer : (file number : ℕ) (card : Card) (more : List Card) → is_end (text_of card.columns) ≡ false
    → statement file number card more ≡ extended (begun file number card.columns) (continued more)
unfolding statement
statement_longer file number card more h = rw h

-- one card
begun_step : (file number : ℕ) (before : List Statement) (card : Card) (more : List Card) (later : List Statement) (ends : Bool) → is_end (text_of card.columns) ≡ ends
    → (with_begun before (begun file number card.columns) ends).done ++ (opened (with_begun before (begun file number card.columns) ends).current (continued more) ++ later)
    ≡ before ++ (statement file number card more ∷ later)
unfolding opened
begun_step file number before card more later true h =
    append_assoc before (begun file number card.columns ∷ []) later ∙ ap (λ s. before ++ (s ∷ later)) (sym (statement_end file number card more h))
begun_step file number before card more later false h =
    ap (λ s. before ++ (s ∷ later)) (sym (statement_longer file number card more h))

step : (kind : CardKind) (file number : ℕ) (group : Group) (card : Card) (more : List Card) (later : List Statement)
    → (group_by kind file number group card.columns).done ++ (opened (group_by kind file number group card.columns).current (continued more) ++ later)
    ≡ group.done ++ (opened group.current (before_text kind (text_of card.columns) (continued more)) ++ before_statements kind (statement file number card more) later)
unfolding before_text before_statements
step Comment file number group card more later = refl
step Initial file number group card more later =
    let s = statement file number card more in
    begun_step file number (closed group.done group.current) card more later (is_end (text_of card.columns)) refl
    ∙ ap (λ l. l ++ (s ∷ later)) (closed_is group.done group.current)
    ∙ append_assoc group.done (opened group.current []) (s ∷ later)
step Continuation file number group card more later = ap (λ l. group.done ++ (l ++ later)) (opened_more group.current (text_of card.columns) (continued more))

groups_statements : (cards : List Card) (file number : ℕ) (group : Group)
    → closed (groups_after file number group cards).done (groups_after file number group cards).current ≡ group.done ++ (opened group.current (continued cards) ++
    statements file number cards)
unfolding groups_after group_after continued statements
groups_statements [] file number group = closed_is group.done group.current ∙ ap (λ l. group.done ++ l) (sym (append-nil (opened group.current [])))
groups_statements (card ∷ more) file number group =
    groups_statements more file (suc number) (group_after file number group card.columns)
    ∙ step (kind_of card.columns) file number group card more (statements file (suc number) more)

pub all_statements : (cards : List Card) (file : ℕ) (group : Group) → groups_after file 1 nothing cards ≡ group → closed group.done group.current ≡ statements file 1 cards
unfolding opened
all_statements cards file group is = sym (ap (λ (g : Group). closed g.done g.current) is) ∙ groups_statements cards file 1 nothing
