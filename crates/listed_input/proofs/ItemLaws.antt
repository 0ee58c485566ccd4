-- What one item of a list takes, from what it is given.
use Rattle.std.proofs.Common.{◌≡◌, ℕ, ℤ, zero, suc, ◌+◌, ◌-◌, ◌≤◌, ◌==◌, ◌||◌, ◌&&◌, nat_lt, Bool, true, false, not, if◌then◌else◌, Option, None, Some, Result, Ok, Err, List, [], ◌∷◌, ◌++◌, length, take, drop, arith, refl, sym, ap, ◌∙◌, subst, one-add, append_assoc, append-nil}
use Rattle.std.specs.Bool.{⊤}
use Rattle.std.proofs.lemmas.Bool.{eqb-true}
use Rattle.edit_rules.specs.edit_meaning.ListInput.{is_separator, Kind, IntItem, LogicalItem, TextItem, Place, Between, Repeated, Nulls, Inside, Given, Number, Truth, Piece, Null, Slash, NeedRecord, Wrong, Sought, AtEnd, AtNull, AtSlash, AtValue, sought, Ending, Open, Well, Badly, ending, run_length, word_length, behind_constant, piece_before, piece_by, piece, text_constant, int_word, logical_word, given_number, given_truth, constant_as, nulls, repeated_as, counted_as, count_before, digit_count, given_behind, inside, given}
use Rattle.edit_rules.specs.edit_meaning.ListItems.{Value, IntValue, LogicalValue, TextValue, Kept, Outcome, Filled, Slashed, Failed, EndOfRecords, Item, Takes, Stops, characters, behind_text, begun_with, begun_with_value, begun_with_outcome, text_item, text_over, item_by, renewed, in_record, item_over}
use Rattle.listed_input.specs.Searching.{IsOutside, rest_size}

-- the item where its record is used up
abbrev pub InNext : Place → List (List ℕ) → Kind → Item → Type 0
InNext place [] kind item = item ≡ Stops (EndOfRecords [])
InNext place (next ∷ later) kind item = item ≡ item_over (in_record next place) later kind

-- an item that is given this
abbrev pub IsItem : Item → List (List ℕ) → Kind → Given → Type 0
IsItem item later kind (Number number place) = item ≡ Takes (IntValue number) place later
IsItem item later kind (Truth truth place) = item ≡ Takes (LogicalValue truth) place later
IsItem item later kind (Piece text false place) = item ≡ Takes (TextValue text) place later
IsItem item later kind (Piece text true place) = item ≡ begun_with text (item_over place later kind)
IsItem item later kind (Null place) = item ≡ Takes Kept place later
IsItem item later kind Slash = item ≡ Stops Slashed
IsItem item later kind (Wrong number) = item ≡ Stops (Failed number [])
IsItem item later kind (NeedRecord place) = InNext place later kind item

-- a piece of a text that goes on leads to a place inside it; where it goes on in the next record, it stands for no values more
abbrev pub GoesInside : Given → Type 0
GoesInside (Piece text true (Inside more constant rest)) = ⊤
GoesInside (Piece text true (Between valued rest)) = ⊥
GoesInside (Piece text true (Repeated more rest)) = ⊥
GoesInside (Piece text true (Nulls more rest)) = ⊥
GoesInside (Piece text false place) = ⊤
GoesInside (Number number place) = ⊤
GoesInside (Truth truth place) = ⊤
GoesInside (Null place) = ⊤
GoesInside Slash = ⊤
GoesInside (Wrong number) = ⊤
GoesInside (NeedRecord (Between valued rest)) = ⊤
GoesInside (NeedRecord (Repeated more rest)) = ⊤
GoesInside (NeedRecord (Nulls more rest)) = ⊤
GoesInside (NeedRecord (Inside more constant rest)) = more ≡ 0

before_goes : (more : ℕ) (constant run rest : List ℕ) → GoesInside (piece_before more constant run rest)
before_goes more constant run [] = tt
before_goes more constant run (q ∷ []) = tt
before_goes more constant run (q ∷ c ∷ cs) = by_quote (c == 39)
  where
    by_quote : (b : Bool) → GoesInside (if b then Piece (run ++ q ∷ []) true (Inside more constant cs) else Piece run false (behind_constant more constant (c ∷ cs)))
    by_quote true = tt
    by_quote false = tt

piece_goes : (e : Ending) (more : ℕ) (constant text : List ℕ) → GoesInside (piece_by e more constant text)
piece_goes Badly more constant text = tt
piece_goes Well more constant text = before_goes more constant (take (run_length text) text) (drop (run_length text) text)
piece_goes Open zero constant text = before_goes zero constant (take (run_length text) text) (drop (run_length text) text)
piece_goes Open (suc more) constant text = tt

text_goes : (more : ℕ) (constant rest : List ℕ) → GoesInside (text_constant more constant rest)
text_goes more constant [] = tt
text_goes more constant (c ∷ cs) = by_quote (c == 39)
  where
    by_quote : (b : Bool) → GoesInside (if b then piece more constant cs else Piece (take (word_length (c ∷ cs)) (c ∷ cs)) false (behind_constant more constant (drop (word_length (c ∷ cs)) (c ∷ cs))))
    by_quote true = piece_goes (ending false cs) more constant cs
    by_quote false = tt

number_goes : (r : Result ℤ ℕ) (place : Place) → GoesInside (given_number r place)
number_goes (Ok number) place = tt
number_goes (Err error) place = tt

truth_goes : (r : Result Bool ℕ) (place : Place) → GoesInside (given_truth r place)
truth_goes (Ok truth) place = tt
truth_goes (Err error) place = tt

constant_goes : (kind : Kind) (more : ℕ) (rest : List ℕ) → GoesInside (constant_as kind more rest)
constant_goes IntItem more rest = number_goes (int_word (take (word_length rest) rest)) (behind_constant more rest (drop (word_length rest) rest))
constant_goes LogicalItem more rest = truth_goes (logical_word (take (word_length rest) rest)) (behind_constant more rest (drop (word_length rest) rest))
constant_goes TextItem more rest = text_goes more rest rest

nulls_go : (more : ℕ) (rest : List ℕ) → GoesInside (nulls more rest)
nulls_go zero rest = tt
nulls_go (suc more) rest = tt

repeated_goes : (kind : Kind) (more : ℕ) (rest : List ℕ) → GoesInside (repeated_as kind more rest)
repeated_goes kind more rest = by_word (nat_lt 0 (word_length rest))
  where
    by_word : (b : Bool) → GoesInside (if b then constant_as kind more rest else nulls more rest)
    by_word true = constant_goes kind more rest
    by_word false = nulls_go more rest

counted_goes : (kind : Kind) (count : Option ℕ) (rest : List ℕ) → GoesInside (counted_as kind count rest)
counted_goes kind None rest = constant_goes kind 0 rest
counted_goes kind (Some count) rest = repeated_goes kind (count - 1) (drop 1 (drop (digit_count rest) rest))

behind_goes : (kind : Kind) (s : Sought) → GoesInside (given_behind kind s)
behind_goes kind (AtEnd valued) = tt
behind_goes kind (AtNull rest) = tt
behind_goes kind AtSlash = tt
behind_goes kind (AtValue rest) = counted_goes kind (count_before rest) rest

-- the apostrophe that ends a run
AtQuote : List ℕ → Type 0
AtQuote [] = ⊤
AtQuote (q ∷ cs) = (q == 39) ≡ true

run_by : (b : Bool) (c : ℕ) (cs : List ℕ) (n : ℕ) → (c == 39) ≡ b → AtQuote (drop n cs) → AtQuote (drop (if not b then 1 + n else 0) (c ∷ cs))
unfolding AtQuote
run_by true c cs n e h = e
run_by false c cs n e h = rw one-add h

run_ends : (text : List ℕ) → AtQuote (drop (run_length text) text)
unfolding AtQuote
run_ends [] = tt
run_ends (c ∷ cs) = run_by (c == 39) c cs (run_length cs) refl (run_ends cs)

ending_by : (b : Bool) (c : ℕ) (cs : List ℕ) (n : ℕ) → (c == 39) ≡ b → ending false cs ≡ ending false (drop n cs)
    → ending b cs ≡ ending false (drop (if not b then 1 + n else 0) (c ∷ cs))
ending_by true c cs n e h = ap (λ x. ending x cs) (sym e)
ending_by false c cs n e h = rw one-add h

ending_run : (text : List ℕ) → ending false text ≡ ending false (drop (run_length text) text)
ending_run [] = refl
ending_run (c ∷ cs) = ending_by (c == 39) c cs (run_length cs) refl (ending_run cs)

behind_by : (b : Bool) (c : ℕ) (cs : List ℕ) (n : ℕ) → (c == 39) ≡ b → behind_text false cs ≡ behind_text false (drop n cs)
    → behind_text b cs ≡ behind_text false (drop (if not b then 1 + n else 0) (c ∷ cs))
behind_by true c cs n e h = ap (λ x. behind_text x cs) (sym e)
behind_by false c cs n e h = rw one-add h

behind_run : (text : List ℕ) → behind_text false text ≡ behind_text false (drop (run_length text) text)
behind_run [] = refl
behind_run (c ∷ cs) = behind_by (c == 39) c cs (run_length cs) refl (behind_run cs)

characters_by : (b : Bool) (c : ℕ) (cs : List ℕ) (n : ℕ) → (c == 39) ≡ b → characters false cs ≡ take n cs ++ characters false (drop n cs)
    → (if b then characters b cs else c ∷ characters b cs)
    ≡ take (if not b then 1 + n else 0) (c ∷ cs) ++ characters false (drop (if not b then 1 + n else 0) (c ∷ cs))
characters_by true c cs n e h = rw e refl
characters_by false c cs n e h = rw one-add (ap (λ z. c ∷ z) h)

characters_run : (text : List ℕ) → characters false text ≡ take (run_length text) text ++ characters false (drop (run_length text) text)
characters_run [] = refl
characters_run (c ∷ cs) = characters_by (c == 39) c cs (run_length cs) refl (characters_run cs)

outcome-twice : (a b : List ℕ) (o : Outcome) → begun_with_outcome a (begun_with_outcome b o) ≡ begun_with_outcome (a ++ b) o
outcome-twice a b Filled = refl
outcome-twice a b Slashed = refl
outcome-twice a b (Failed number text) = ap (Failed number) (sym (append_assoc a b text))
outcome-twice a b (EndOfRecords text) = ap EndOfRecords (sym (append_assoc a b text))

value-twice : (a b : List ℕ) (v : Value) → begun_with_value a (begun_with_value b v) ≡ begun_with_value (a ++ b) v
value-twice a b (IntValue number) = refl
value-twice a b (LogicalValue truth) = refl
value-twice a b (TextValue text) = ap TextValue (sym (append_assoc a b text))
value-twice a b Kept = refl

pub begun-twice : (a b : List ℕ) (item : Item) → begun_with a (begun_with b item) ≡ begun_with (a ++ b) item
begun-twice a b (Takes value place later) = ap (λ v. Takes v place later) (value-twice a b value)
begun-twice a b (Stops outcome) = ap Stops (outcome-twice a b outcome)

-- what a text takes in the next record, if there is one
abbrev on_in : List (List ℕ) → Item
on_in [] = Stops (EndOfRecords [])
on_in (next ∷ later) = text_over 0 [] next later

text_over-is : (more : ℕ) (constant rest : List ℕ) (later : List (List ℕ))
    → text_over more constant rest later ≡ text_item (ending false rest) more constant (characters false rest) (behind_text false rest) later (on_in later)
text_over-is more constant rest [] = refl
text_over-is more constant rest (next ∷ later) = refl

pub item_over-inside : (more : ℕ) (constant rest : List ℕ) (later : List (List ℕ)) (kind : Kind) → item_over (Inside more constant rest) later kind ≡ text_over more constant rest later
item_over-inside more constant rest [] kind = refl
item_over-inside more constant rest (next ∷ later) kind = refl

-- a text that goes on within its record or in the next one
more_of_it : (more : ℕ) (constant front rest : List ℕ) (later : List (List ℕ)) (kind : Kind) (item : Item)
    → item ≡ begun_with front (text_over more constant rest later) → item ≡ begun_with front (item_over (Inside more constant rest) later kind)
more_of_it more constant front rest later kind item e = e ∙ ap (begun_with front) (sym (item_over-inside more constant rest later kind))

doubled : (e : Ending) (more : ℕ) (constant run : List ℕ) (q : ℕ) (text rest : List ℕ) (later : List (List ℕ)) (on : Item) → (e ≡ Badly → ⊥) → (e ≡ Open → more ≡ 0)
    → text_item e more constant (run ++ q ∷ text) rest later on ≡ begun_with (run ++ q ∷ []) (text_item e more constant text rest later on)
doubled Well more constant run q text rest later on b o = ap (λ z. Takes (TextValue z) (behind_constant more constant rest) later) (sym (append_assoc run (q ∷ []) text))
doubled Badly more constant run q text rest later on b o = absurd (b refl)
doubled Open zero constant run q text rest later on b o =
    ap (λ z. begun_with z on) (sym (append_assoc run (q ∷ []) text)) ∙ sym (begun-twice (run ++ q ∷ []) text on)
doubled Open (suc more) constant run q text rest later on b o = absurd (let z : suc more ≡ 0 = o refl in cc)

-- the item of a text of which `run` stands before the apostrophe `rest`
abbrev at_rest : ℕ → List ℕ → List ℕ → List ℕ → List (List ℕ) → Item
at_rest more constant run rest later = text_item (ending false rest) more constant (run ++ characters false rest) (behind_text false rest) later (on_in later)

-- what a piece is by how the text ends: wrong, or up to the apostrophe
abbrev piece_at : Ending → ℕ → List ℕ → List ℕ → List ℕ → Given
piece_at Badly more constant run rest = Wrong 1
piece_at Well more constant run rest = piece_before more constant run rest
piece_at Open zero constant run rest = piece_before 0 constant run rest
piece_at Open (suc more) constant run rest = Wrong 1

piece_at-is : (e : Ending) (more : ℕ) (constant text : List ℕ)
    → piece_by e more constant text ≡ piece_at e more constant (take (run_length text) text) (drop (run_length text) text)
piece_at-is Badly more constant text = refl
piece_at-is Well more constant text = refl
piece_at-is Open zero constant text = refl
piece_at-is Open (suc more) constant text = refl

-- no apostrophe stands in the rest of the record
at_end : (more : ℕ) (constant run : List ℕ) (later : List (List ℕ)) (kind : Kind)
    → IsItem (at_rest more constant run [] later) later kind (piece_at Open more constant run [])
at_end zero constant run later kind =
    more_of_it 0 constant run [] later kind _
    (ap (λ z. begun_with z (on_in later)) refl ∙ sym (begun-twice run [] (on_in later)) ∙ ap (begun_with run) (sym (text_over-is 0 constant [] later)))
at_end (suc more) constant run later kind = refl

-- what is given where the text ends before the rest
abbrev closed_as : Ending → List ℕ → Place → Given
closed_as Well run place = Piece run false place
closed_as Badly run place = Wrong 1
closed_as Open run place = Wrong 1

-- a single apostrophe ends the text
closed : (e : Ending) (more : ℕ) (constant run rest : List ℕ) (later : List (List ℕ)) (kind : Kind) (on : Item) → (e ≡ Open → ⊥)
    → IsItem (text_item e more constant (run ++ []) rest later on) later kind
    (closed_as e run (behind_constant more constant rest))
closed Well more constant run rest later kind on o = ap (λ z. Takes (TextValue z) (behind_constant more constant rest) later) (append-nil run)
closed Badly more constant run rest later kind on o = refl
closed Open more constant run rest later kind on o = absurd (o refl)

-- what is given where the text goes on behind a doubled apostrophe
abbrev doubled_as : Ending → ℕ → List ℕ → ℕ → List ℕ → List ℕ → Given
doubled_as Well more run q constant cs = Piece (run ++ q ∷ []) true (Inside more constant cs)
doubled_as Badly more run q constant cs = Wrong 1
doubled_as Open zero run q constant cs = Piece (run ++ q ∷ []) true (Inside 0 constant cs)
doubled_as Open (suc more) run q constant cs = Wrong 1

-- a doubled apostrophe stands for one
two : (e : Ending) (more : ℕ) (constant run : List ℕ) (q : ℕ) (cs : List ℕ) (later : List (List ℕ)) (kind : Kind) → e ≡ ending false cs
    → IsItem (text_item e more constant (run ++ q ∷ characters false cs) (behind_text false cs) later (on_in later)) later kind
    (doubled_as e more run q constant cs)
two Well more constant run q cs later kind e =
    more_of_it more constant (run ++ q ∷ []) cs later kind _
    (doubled Well more constant run q (characters false cs) (behind_text false cs) later (on_in later) (λ h. cc) (λ h. cc)
    ∙ ap (begun_with (run ++ q ∷ [])) (ap (λ x. text_item x more constant (characters false cs) (behind_text false cs) later (on_in later)) e ∙ sym (text_over-is more constant cs later)))
two Badly more constant run q cs later kind e = refl
two Open zero constant run q cs later kind e =
    more_of_it 0 constant (run ++ q ∷ []) cs later kind _
    (doubled Open 0 constant run q (characters false cs) (behind_text false cs) later (on_in later) (λ h. cc) (λ _. refl)
    ∙ ap (begun_with (run ++ q ∷ [])) (ap (λ x. text_item x 0 constant (characters false cs) (behind_text false cs) later (on_in later)) e ∙ sym (text_over-is 0 constant cs later)))
two Open (suc more) constant run q cs later kind e = refl

piece_two : (e : Ending) (more : ℕ) (constant run : List ℕ) (q c : ℕ) (cs : List ℕ) → (c == 39) ≡ true
    → doubled_as e more run q constant cs ≡ piece_at e more constant run (q ∷ c ∷ cs)
piece_two Well more constant run q c cs h = rw h refl
piece_two Badly more constant run q c cs h = refl
piece_two Open zero constant run q c cs h = rw h refl
piece_two Open (suc more) constant run q c cs h = refl

piece_one : (e : Ending) (more : ℕ) (constant run : List ℕ) (q c : ℕ) (cs : List ℕ) → (c == 39) ≡ false → (e ≡ Open → ⊥)
    → closed_as e run (behind_constant more constant (c ∷ cs)) ≡ piece_at e more constant run (q ∷ c ∷ cs)
piece_one Well more constant run q c cs h o = rw h refl
piece_one Badly more constant run q c cs h o = refl
piece_one Open more constant run q c cs h o = absurd (o refl)

not_open : (b : Bool) → (if b then Well else Badly) ≡ Open → ⊥
not_open true h = cc
not_open false h = cc

-- a second character behind the apostrophe
by_second : (b : Bool) (more : ℕ) (constant run : List ℕ) (q c : ℕ) (cs : List ℕ) (later : List (List ℕ)) (kind : Kind) → (c == 39) ≡ b → (q == 39) ≡ true
    → IsItem (text_item (if b then ending false cs else (if is_separator c then Well else Badly)) more constant
    (run ++ (if b then c ∷ characters false cs else []))
    (if b then behind_text false cs else c ∷ cs) later (on_in later)) later kind
    (piece_at (if b then ending false cs else (if is_separator c then Well else Badly)) more constant run (q ∷ c ∷ cs))
by_second true more constant run q c cs later kind e f =
    let same : q ≡ c = eqb-true q 39 f ∙ sym (eqb-true c 39 e) in
    subst (λ d. IsItem (text_item (ending false cs) more constant (run ++ d ∷ characters false cs) (behind_text false cs) later (on_in later)) later kind
    (piece_at (ending false cs) more constant run (q ∷ c ∷ cs))) same
    (subst (λ g. IsItem (text_item (ending false cs) more constant (run ++ q ∷ characters false cs) (behind_text false cs) later (on_in later)) later kind g)
    (piece_two (ending false cs) more constant run q c cs e) (two (ending false cs) more constant run q cs later kind refl))
by_second false more constant run q c cs later kind e f =
    let how : Ending = if is_separator c then Well else Badly in
    subst (λ g. IsItem (text_item how more constant (run ++ []) (c ∷ cs) later (on_in later)) later kind g)
    (piece_one how more constant run q c cs e (not_open (is_separator c)))
    (closed how more constant run (c ∷ cs) later kind (on_in later) (not_open (is_separator c)))

rest_follows : (more : ℕ) (constant run rest : List ℕ) (later : List (List ℕ)) (kind : Kind) → AtQuote rest
    → IsItem (at_rest more constant run rest later) later kind (piece_at (ending false rest) more constant run rest)
unfolding AtQuote
rest_follows more constant run [] later kind h = at_end more constant run later kind
rest_follows more constant run (q ∷ []) later kind h =
    subst (λ a. IsItem (text_item (ending a []) more constant (run ++ (if a then characters a [] else q ∷ characters a [])) (behind_text a []) later (on_in later)) later kind
    (piece_at (ending a []) more constant run (q ∷ []))) (sym h)
    (closed Well more constant run [] later kind (on_in later) (λ o. cc))
rest_follows more constant run (q ∷ c ∷ cs) later kind h =
    subst (λ a. IsItem (text_item (ending a (c ∷ cs)) more constant (run ++ (if a then characters a (c ∷ cs) else q ∷ characters a (c ∷ cs))) (behind_text a (c ∷ cs)) later (on_in later)) later kind
    (piece_at (ending a (c ∷ cs)) more constant run (q ∷ c ∷ cs))) (sym h)
    (by_second (c == 39) more constant run q c cs later kind refl h)

text_item-at : (more : ℕ) (constant text : List ℕ) (later : List (List ℕ))
    → text_over more constant text later ≡ at_rest more constant (take (run_length text) text) (drop (run_length text) text) later
text_item-at more constant text later =
    text_over-is more constant text later
    ∙ ap (λ e. text_item e more constant (characters false text) (behind_text false text) later (on_in later)) (ending_run text)
    ∙ ap (λ z. text_item (ending false (drop (run_length text) text)) more constant z (behind_text false text) later (on_in later)) (characters_run text)
    ∙ ap (λ z. text_item (ending false (drop (run_length text) text)) more constant (take (run_length text) text ++ characters false (drop (run_length text) text)) z later (on_in later)) (behind_run text)

text_follows : (more : ℕ) (constant text : List ℕ) (later : List (List ℕ)) (kind : Kind)
    → IsItem (text_over more constant text later) later kind (piece more constant text)
text_follows more constant text later kind =
    let run : List ℕ = take (run_length text) text in
    let rest : List ℕ = drop (run_length text) text in
    subst (λ i. IsItem i later kind (piece more constant text)) (sym (text_item-at more constant text later))
    (subst (λ g. IsItem (at_rest more constant run rest later) later kind g)
    (ap (λ e. piece_at e more constant run rest) (sym (ending_run text)) ∙ sym (piece_at-is (ending false text) more constant text))
    (rest_follows more constant run rest later kind (run_ends text)))

pub begun-none : (item : Item) → begun_with [] item ≡ item
begun-none (Takes (IntValue number) place later) = refl
begun-none (Takes (LogicalValue truth) place later) = refl
begun-none (Takes (TextValue text) place later) = refl
begun-none (Takes Kept place later) = refl
begun-none (Stops Filled) = refl
begun-none (Stops Slashed) = refl
begun-none (Stops (Failed number text)) = refl
begun-none (Stops (EndOfRecords text)) = refl

used_up : (constant : List ℕ) (later : List (List ℕ)) (kind : Kind) → InNext (Inside 0 [] []) later kind (text_over 0 constant [] later)
used_up constant [] kind = refl
used_up constant (next ∷ later) kind = begun-none (text_over 0 [] next later) ∙ sym (item_over-inside 0 [] next later kind)

inside_follows : (more : ℕ) (constant rest : List ℕ) (later : List (List ℕ)) (kind : Kind)
    → IsItem (text_over more constant rest later) later kind (inside more constant rest)
inside_follows zero constant [] later kind = used_up constant later kind
inside_follows (suc more) constant [] [] kind = refl
inside_follows (suc more) constant [] (next ∷ later) kind = refl
inside_follows zero constant (c ∷ cs) later kind = text_follows zero constant (c ∷ cs) later kind
inside_follows (suc more) constant (c ∷ cs) later kind = text_follows (suc more) constant (c ∷ cs) later kind

by_end : (g : Given) (kind : Kind) → GoesInside g → IsItem (item_by g [] (Stops (EndOfRecords []))) [] kind g
by_end (Number number place) kind h = refl
by_end (Truth truth place) kind h = refl
by_end (Piece text false place) kind h = refl
by_end (Piece text true (Inside more constant rest)) kind h = ap (begun_with text) (sym (item_over-inside more constant rest [] kind))
by_end (Piece text true (Between valued rest)) kind h = absurd h
by_end (Piece text true (Repeated more rest)) kind h = absurd h
by_end (Piece text true (Nulls more rest)) kind h = absurd h
by_end (Null place) kind h = refl
by_end Slash kind h = refl
by_end (Wrong number) kind h = refl
by_end (NeedRecord place) kind h = refl

by_next : (g : Given) (next : List ℕ) (later : List (List ℕ)) (kind : Kind) → GoesInside g
    → IsItem (item_by g (next ∷ later) (item_over (renewed g next) later kind)) (next ∷ later) kind g
by_next (Number number place) next later kind h = refl
by_next (Truth truth place) next later kind h = refl
by_next (Piece text false place) next later kind h = refl
by_next (Piece text true (Inside more constant rest)) next later kind h = ap (begun_with text) (sym (item_over-inside more constant rest (next ∷ later) kind))
by_next (Piece text true (Between valued rest)) next later kind h = absurd h
by_next (Piece text true (Repeated more rest)) next later kind h = absurd h
by_next (Piece text true (Nulls more rest)) next later kind h = absurd h
by_next (Null place) next later kind h = refl
by_next Slash next later kind h = refl
by_next (Wrong number) next later kind h = refl
by_next (NeedRecord place) next later kind h = refl

-- what an item takes follows from what it is given at its place
pub given-item : (place : Place) (later : List (List ℕ)) (kind : Kind) → IsItem (item_over place later kind) later kind (given place kind)
unfolding given
given-item (Between valued rest) [] kind = by_end (given_behind kind (sought valued rest)) kind (behind_goes kind (sought valued rest))
given-item (Between valued rest) (next ∷ later) kind = by_next (given_behind kind (sought valued rest)) next later kind (behind_goes kind (sought valued rest))
given-item (Repeated more rest) [] kind = by_end (constant_as kind more rest) kind (constant_goes kind more rest)
given-item (Repeated more rest) (next ∷ later) kind = by_next (constant_as kind more rest) next later kind (constant_goes kind more rest)
given-item (Nulls more rest) [] kind = by_end (nulls more rest) kind (nulls_go more rest)
given-item (Nulls more rest) (next ∷ later) kind = by_next (nulls more rest) next later kind (nulls_go more rest)
given-item (Inside more constant rest) [] kind = inside_follows more constant rest [] kind
given-item (Inside more constant rest) (next ∷ later) kind = inside_follows more constant rest (next ∷ later) kind

-- ## Inside a text

abbrev pub IsInside : Place → Type 0
IsInside (Between valued rest) = ⊥
IsInside (Repeated more rest) = ⊥
IsInside (Nulls more rest) = ⊥
IsInside (Inside more constant rest) = ⊤

-- inside a text there is a piece of it, an error, or the end of the record
abbrev pub IsOfText : Given → Type 0
IsOfText (Piece text goes_on place) = ⊤
IsOfText (NeedRecord place) = IsInside place
IsOfText (Wrong number) = ⊤
IsOfText (Number number place) = ⊥
IsOfText (Truth truth place) = ⊥
IsOfText (Null place) = ⊥
IsOfText Slash = ⊥

before_text : (more : ℕ) (constant run rest : List ℕ) → IsOfText (piece_before more constant run rest)
before_text more constant run [] = tt
before_text more constant run (q ∷ []) = tt
before_text more constant run (q ∷ c ∷ cs) = by_quote (c == 39)
  where
    by_quote : (b : Bool) → IsOfText (if b then Piece (run ++ q ∷ []) true (Inside more constant cs) else Piece run false (behind_constant more constant (c ∷ cs)))
    by_quote true = tt
    by_quote false = tt

piece_text : (e : Ending) (more : ℕ) (constant text : List ℕ) → IsOfText (piece_by e more constant text)
piece_text Badly more constant text = tt
piece_text Well more constant text = before_text more constant (take (run_length text) text) (drop (run_length text) text)
piece_text Open zero constant text = before_text zero constant (take (run_length text) text) (drop (run_length text) text)
piece_text Open (suc more) constant text = tt

pub inside-text : (more : ℕ) (constant rest : List ℕ) (kind : Kind) → IsOfText (given (Inside more constant rest) kind)
unfolding given
inside-text zero constant [] kind = tt
inside-text (suc more) constant [] kind = tt
inside-text zero constant (c ∷ cs) kind = piece_text (ending false (c ∷ cs)) zero constant (c ∷ cs)
inside-text (suc more) constant (c ∷ cs) kind = piece_text (ending false (c ∷ cs)) (suc more) constant (c ∷ cs)

-- a piece that goes on leads inside
pub goes-inside : (place : Place) (kind : Kind) → GoesInside (given place kind)
unfolding given
goes-inside (Between valued rest) kind = behind_goes kind (sought valued rest)
goes-inside (Repeated more rest) kind = constant_goes kind more rest
goes-inside (Nulls more rest) kind = nulls_go more rest
goes-inside (Inside zero constant []) kind = refl
goes-inside (Inside (suc more) constant []) kind = tt
goes-inside (Inside zero constant (c ∷ cs)) kind = piece_goes (ending false (c ∷ cs)) zero constant (c ∷ cs)
goes-inside (Inside (suc more) constant (c ∷ cs)) kind = piece_goes (ending false (c ∷ cs)) (suc more) constant (c ∷ cs)

-- ## What follows for a place

pub no-piece-outside : (text : List ℕ) (place : Place) → GoesInside (Piece text true place) → IsOutside place → ⊥
no-piece-outside text (Between valued rest) goes outside = goes
no-piece-outside text (Repeated more rest) goes outside = goes
no-piece-outside text (Nulls more rest) goes outside = goes
no-piece-outside text (Inside more constant rest) goes outside = outside

not-both : (place : Place) → IsInside place → IsOutside place → ⊥
not-both (Between valued rest) inside outside = inside
not-both (Repeated more rest) inside outside = inside
not-both (Nulls more rest) inside outside = inside
not-both (Inside more constant rest) inside outside = outside

-- outside a text, or there is one of these
pub outside-by : (place : Place) (kind : Kind) (g : Given) → g ≡ given place kind → (IsOfText g → ⊥) → IsOutside place
outside-by (Between valued rest) kind g is none = tt
outside-by (Repeated more rest) kind g is none = tt
outside-by (Nulls more rest) kind g is none = tt
outside-by (Inside more constant rest) kind g is none = absurd (none (subst IsOfText (sym is) (inside-text more constant rest kind)))

pub needs-outside : (place next : Place) (kind : Kind) → NeedRecord next ≡ given place kind → IsOutside next → IsOutside place
needs-outside place next kind is outside = outside-by place kind (NeedRecord next) is (λ inside. not-both next inside outside)

-- what stands for no values more does not go back to its constant
any-item : (e : Ending) (a b text rest : List ℕ) (later : List (List ℕ)) (on : Item) → text_item e 0 a text rest later on ≡ text_item e 0 b text rest later on
any-item Well a b text rest later on = refl
any-item Badly a b text rest later on = refl
any-item Open a b text rest later on = refl

pub any-constant : (more : ℕ) (a b rest : List ℕ) (later : List (List ℕ)) (kind : Kind) → more ≡ 0 → item_over (Inside more a rest) later kind ≡ item_over (Inside more b rest) later kind
any-constant more a b rest later kind is =
    subst (λ (n : ℕ). item_over (Inside n a rest) later kind ≡ item_over (Inside n b rest) later kind) (sym is)
    (item_over-inside 0 a rest later kind ∙ text_over-is 0 a rest later
    ∙ any-item (ending false rest) a b (characters false rest) (behind_text false rest) later (on_in later)
    ∙ sym (text_over-is 0 b rest later) ∙ sym (item_over-inside 0 b rest later kind))

-- an item of a text is a text, or stops at an error or at the end of the records
abbrev pub IsTextItem : Item → Type 0
IsTextItem (Takes (TextValue text) place later) = ⊤
IsTextItem (Takes (IntValue number) place later) = ⊥
IsTextItem (Takes (LogicalValue truth) place later) = ⊥
IsTextItem (Takes Kept place later) = ⊥
IsTextItem (Stops (Failed number text)) = ⊤
IsTextItem (Stops (EndOfRecords text)) = ⊤
IsTextItem (Stops Filled) = ⊥
IsTextItem (Stops Slashed) = ⊥

begun-text : (front : List ℕ) (item : Item) → IsTextItem item → IsTextItem (begun_with front item)
begun-text front (Takes (TextValue text) place later) is = tt
begun-text front (Takes (IntValue number) place later) is = is
begun-text front (Takes (LogicalValue truth) place later) is = is
begun-text front (Takes Kept place later) is = is
begun-text front (Stops (Failed number text)) is = tt
begun-text front (Stops (EndOfRecords text)) is = tt
begun-text front (Stops Filled) is = is
begun-text front (Stops Slashed) is = is

of-text : (e : Ending) (more : ℕ) (constant text rest : List ℕ) (later : List (List ℕ)) (on : Item) → IsTextItem on → IsTextItem (text_item e more constant text rest later on)
of-text Well more constant text rest later on is = tt
of-text Badly more constant text rest later on is = tt
of-text Open zero constant text rest later on is = begun-text text on is
of-text Open (suc more) constant text rest later on is = tt

over-text : (more : ℕ) (constant rest : List ℕ) (later : List (List ℕ)) → IsTextItem (text_over more constant rest later)
over-text more constant rest [] = of-text (ending false rest) more constant (characters false rest) (behind_text false rest) [] (Stops (EndOfRecords [])) tt
over-text more constant rest (next ∷ later) =
    of-text (ending false rest) more constant (characters false rest) (behind_text false rest) (next ∷ later) (text_over 0 [] next later) (over-text 0 [] next later)

pub inside-item : (text : List ℕ) (place : Place) (later : List (List ℕ)) (kind : Kind) → GoesInside (Piece text true place) → IsTextItem (item_over place later kind)
inside-item text (Between valued rest) later kind goes = absurd goes
inside-item text (Repeated more rest) later kind goes = absurd goes
inside-item text (Nulls more rest) later kind goes = absurd goes
inside-item text (Inside more constant rest) later kind goes = subst IsTextItem (sym (item_over-inside more constant rest later kind)) (over-text more constant rest later)

-- ## A piece of a text uses up bytes of its record

Shrinks : ℕ → Given → Type 0
Shrinks n (Piece text true place) = rest_size place + 1 ≤ n
Shrinks n (Piece text false place) = ⊤
Shrinks n (Number number place) = ⊤
Shrinks n (Truth truth place) = ⊤
Shrinks n (Null place) = ⊤
Shrinks n Slash = ⊤
Shrinks n (Wrong number) = ⊤
Shrinks n (NeedRecord place) = ⊤

dropped-less : (n : ℕ) (xs : List ℕ) → length (drop n xs) ≤ length xs
dropped-less zero xs = omega arith
dropped-less (suc n) [] = omega arith
dropped-less (suc n) (x ∷ xs) = let rest : length (drop n xs) ≤ length xs = dropped-less n xs in omega (arith, rest)

shrinks-more : (m n : ℕ) (g : Given) → m ≤ n → Shrinks m g → Shrinks n g
unfolding Shrinks
shrinks-more m n (Piece text true place) below is = let less : rest_size place + 1 ≤ m = is in omega (arith, below, less)
shrinks-more m n (Piece text false place) below is = tt
shrinks-more m n (Number number place) below is = tt
shrinks-more m n (Truth truth place) below is = tt
shrinks-more m n (Null place) below is = tt
shrinks-more m n Slash below is = tt
shrinks-more m n (Wrong number) below is = tt
shrinks-more m n (NeedRecord place) below is = tt

before_shrinks : (n more : ℕ) (constant run rest : List ℕ) → 1 ≤ n → length rest ≤ n → Shrinks n (piece_before more constant run rest)
unfolding Shrinks
before_shrinks n more constant run [] some within = omega (arith, some)
before_shrinks n more constant run (q ∷ []) some within = tt
before_shrinks n more constant run (q ∷ c ∷ cs) some within = by_quote (c == 39) (omega (arith, within))
  where
    by_quote : (b : Bool) → length cs + 1 ≤ n →
        Shrinks n (if b then Piece (run ++ q ∷ []) true (Inside more constant cs) else Piece run false (behind_constant more constant (c ∷ cs)))
    by_quote true less = less
    by_quote false less = tt

piece_shrinks : (n : ℕ) (e : Ending) (more : ℕ) (constant text : List ℕ) → 1 ≤ n → length text ≤ n → Shrinks n (piece_by e more constant text)
unfolding Shrinks
piece_shrinks n Badly more constant text some within = tt
piece_shrinks n Well more constant text some within =
    before_shrinks n more constant (take (run_length text) text) (drop (run_length text) text) some (omega (arith, within, dropped-less (run_length text) text))
piece_shrinks n Open zero constant text some within =
    before_shrinks n zero constant (take (run_length text) text) (drop (run_length text) text) some (omega (arith, within, dropped-less (run_length text) text))
piece_shrinks n Open (suc more) constant text some within = tt

text_shrinks : (more : ℕ) (constant rest : List ℕ) → Shrinks (length rest) (text_constant more constant rest)
unfolding Shrinks
text_shrinks more constant [] = tt
text_shrinks more constant (c ∷ cs) = by_quote (c == 39) (piece_shrinks (length (c ∷ cs)) (ending false cs) more constant cs (omega arith) (omega arith))
  where
    by_quote : (b : Bool) → Shrinks (length (c ∷ cs)) (piece more constant cs) →
        Shrinks (length (c ∷ cs)) (if b then piece more constant cs else Piece (take (word_length (c ∷ cs)) (c ∷ cs)) false (behind_constant more constant (drop (word_length (c ∷ cs)) (c ∷ cs))))
    by_quote true is = is
    by_quote false is = tt

number_shrinks : (n : ℕ) (r : Result ℤ ℕ) (place : Place) → Shrinks n (given_number r place)
unfolding Shrinks
number_shrinks n (Ok number) place = tt
number_shrinks n (Err error) place = tt

truth_shrinks : (n : ℕ) (r : Result Bool ℕ) (place : Place) → Shrinks n (given_truth r place)
unfolding Shrinks
truth_shrinks n (Ok truth) place = tt
truth_shrinks n (Err error) place = tt

constant_shrinks : (kind : Kind) (more : ℕ) (rest : List ℕ) → Shrinks (length rest) (constant_as kind more rest)
constant_shrinks IntItem more rest = number_shrinks (length rest) (int_word (take (word_length rest) rest)) (behind_constant more rest (drop (word_length rest) rest))
constant_shrinks LogicalItem more rest = truth_shrinks (length rest) (logical_word (take (word_length rest) rest)) (behind_constant more rest (drop (word_length rest) rest))
constant_shrinks TextItem more rest = text_shrinks more rest rest

nulls_shrink : (n more : ℕ) (rest : List ℕ) → Shrinks n (nulls more rest)
unfolding Shrinks
nulls_shrink n zero rest = tt
nulls_shrink n (suc more) rest = tt

repeated_shrinks : (kind : Kind) (more : ℕ) (rest : List ℕ) → Shrinks (length rest) (repeated_as kind more rest)
repeated_shrinks kind more rest = by_word (nat_lt 0 (word_length rest))
  where
    by_word : (b : Bool) → Shrinks (length rest) (if b then constant_as kind more rest else nulls more rest)
    by_word true = constant_shrinks kind more rest
    by_word false = nulls_shrink (length rest) more rest

counted_shrinks : (kind : Kind) (count : Option ℕ) (rest : List ℕ) → Shrinks (length rest) (counted_as kind count rest)
counted_shrinks kind None rest = constant_shrinks kind 0 rest
counted_shrinks kind (Some count) rest =
    shrinks-more (length (drop 1 (drop (digit_count rest) rest))) (length rest) _
    (omega (arith, dropped-less 1 (drop (digit_count rest) rest), dropped-less (digit_count rest) rest))
    (repeated_shrinks kind (count - 1) (drop 1 (drop (digit_count rest) rest)))

Within : ℕ → Sought → Type 0
Within n (AtValue rest) = length rest ≤ n
Within n (AtEnd valued) = ⊤
Within n (AtNull rest) = ⊤
Within n AtSlash = ⊤

within-more : (m n : ℕ) (s : Sought) → m ≤ n → Within m s → Within n s
unfolding Within
within-more m n (AtValue rest) below is = let less : length rest ≤ m = is in omega (arith, below, less)
within-more m n (AtEnd valued) below is = tt
within-more m n (AtNull rest) below is = tt
within-more m n AtSlash below is = tt

chosen-within : (passes comma slash : Bool) (n c : ℕ) (cs : List ℕ) (next : Sought) → length (c ∷ cs) ≤ n → Within n next →
    Within n (if passes then next else (if comma then AtNull cs else (if slash then AtSlash else AtValue (c ∷ cs))))
unfolding Within
chosen-within true comma slash n c cs next within is = is
chosen-within false true slash n c cs next within is = tt
chosen-within false false true n c cs next within is = tt
chosen-within false false false n c cs next within is = within

sought-within : (valued : Bool) (rest : List ℕ) → Within (length rest) (sought valued rest)
unfolding Within
sought-within valued [] = tt
sought-within valued (c ∷ cs) =
    chosen-within (c == 32 || (c == 44 && valued)) (c == 44) (c == 47) (length (c ∷ cs)) c cs (sought (valued && c == 32) cs) (omega arith)
    (within-more (length cs) (length (c ∷ cs)) (sought (valued && c == 32) cs) (omega arith) (sought-within (valued && c == 32) cs))

behind_shrinks : (n : ℕ) (kind : Kind) (s : Sought) → Within n s → Shrinks n (given_behind kind s)
unfolding Shrinks Within
behind_shrinks n kind (AtEnd valued) within = tt
behind_shrinks n kind (AtNull rest) within = tt
behind_shrinks n kind AtSlash within = tt
behind_shrinks n kind (AtValue rest) within = shrinks-more (length rest) n (counted_as kind (count_before rest) rest) within (counted_shrinks kind (count_before rest) rest)

given-shrinks : (place : Place) (kind : Kind) → Shrinks (rest_size place) (given place kind)
unfolding given Shrinks
given-shrinks (Between valued rest) kind = behind_shrinks (length rest) kind (sought valued rest) (sought-within valued rest)
given-shrinks (Repeated more rest) kind = constant_shrinks kind more rest
given-shrinks (Nulls more rest) kind = nulls_shrink (length rest) more rest
given-shrinks (Inside zero constant []) kind = tt
given-shrinks (Inside (suc more) constant []) kind = tt
given-shrinks (Inside zero constant (c ∷ cs)) kind = piece_shrinks (length (c ∷ cs)) (ending false (c ∷ cs)) zero constant (c ∷ cs) (omega arith) (omega arith)
given-shrinks (Inside (suc more) constant (c ∷ cs)) kind = piece_shrinks (length (c ∷ cs)) (ending false (c ∷ cs)) (suc more) constant (c ∷ cs) (omega arith) (omega arith)

pub piece-shrinks : (place next : Place) (kind : Kind) (text : List ℕ) → Piece text true next ≡ given place kind → rest_size next + 1 ≤ rest_size place
unfolding Shrinks
piece-shrinks place next kind text is = subst (Shrinks (rest_size place)) (sym is) (given-shrinks place kind)
