-- The items of a list, from what the first of them is given.
use Rattle.std.proofs.Common.{◌≡◌, ℕ, ℤ, zero, suc, ◌+◌, ◌-◌, ◌==◌, nat_lt, Bool, true, false, not, if◌then◌else◌, Option, None, Some, Result, Ok, Err, List, [], ◌∷◌, ◌++◌, take, drop, refl, sym, ap, ◌∙◌, subst, one-add, append_assoc, append-nil}
use Rattle.std.specs.Bool.{⊤}
use Rattle.std.proofs.lemmas.Bool.{eqb-true}
use Rattle.edit_meaning.specs.ListInput.{is_separator, Kind, IntItem, LogicalItem, TextItem, Place, Between, Repeated, Nulls, Inside, Given, Number, Truth, Piece, Null, Slash, NeedRecord, Wrong, Sought, AtEnd, AtNull, AtSlash, AtValue, sought, Ending, Open, Well, Badly, ending, run_length, word_length, behind_constant, piece_before, piece_by, piece, text_constant, int_word, logical_word, given_number, given_truth, constant_as, nulls, repeated_as, counted_as, count_before, digit_count, given_behind, inside, given}
use Rattle.edit_meaning.specs.ListItems.{Value, IntValue, LogicalValue, TextValue, Kept, Outcome, Filled, Slashed, Failed, EndOfRecords, Items, Item, Takes, Stops, characters, behind_text, begun_with, begun_with_value, begun_with_outcome, text_item, text_over, item_by, renewed, item_over, place_behind, records_behind, before, items_from, begun_items, InNextRecord, Follows}

-- a piece of a text that goes on leads to a place inside it
abbrev GoesInside : Given → Type 0
GoesInside (Piece text true (Inside more constant rest)) = ⊤
GoesInside (Piece text true (Between valued rest)) = ⊥
GoesInside (Piece text true (Repeated more rest)) = ⊥
GoesInside (Piece text true (Nulls more rest)) = ⊥
GoesInside (Piece text false place) = ⊤
GoesInside (Number number place) = ⊤
GoesInside (Truth truth place) = ⊤
GoesInside (Null place) = ⊤
GoesInside Slash = ⊤
GoesInside (Wrong number) = ⊤
GoesInside (NeedRecord place) = ⊤

before_goes : (more : ℕ) (constant run rest : List ℕ) → GoesInside (piece_before more constant run rest)
before_goes more constant run [] = tt
before_goes more constant run (q ∷ []) = tt
before_goes more constant run (q ∷ c ∷ cs) = by_quote (c == 39)
  where
    by_quote : (b : Bool) → GoesInside (if b then Piece (run ++ q ∷ []) true (Inside more constant cs) else Piece run false (behind_constant more constant (c ∷ cs)))
    by_quote true = tt
    by_quote false = tt

piece_goes : (e : Ending) (more : ℕ) (constant text : List ℕ) → GoesInside (piece_by e more constant text)
piece_goes Badly more constant text = tt
piece_goes Well more constant text = before_goes more constant (take (run_length text) text) (drop (run_length text) text)
piece_goes Open zero constant text = before_goes zero constant (take (run_length text) text) (drop (run_length text) text)
piece_goes Open (suc more) constant text = tt

text_goes : (more : ℕ) (constant rest : List ℕ) → GoesInside (text_constant more constant rest)
text_goes more constant [] = tt
text_goes more constant (c ∷ cs) = by_quote (c == 39)
  where
    by_quote : (b : Bool) → GoesInside (if b then piece more constant cs else Piece (take (word_length (c ∷ cs)) (c ∷ cs)) false (behind_constant more constant (drop (word_length (c ∷ cs)) (c ∷ cs))))
    by_quote true = piece_goes (ending false cs) more constant cs
    by_quote false = tt

number_goes : (r : Result ℤ ℕ) (place : Place) → GoesInside (given_number r place)
number_goes (Ok number) place = tt
number_goes (Err error) place = tt

truth_goes : (r : Result Bool ℕ) (place : Place) → GoesInside (given_truth r place)
truth_goes (Ok truth) place = tt
truth_goes (Err error) place = tt

constant_goes : (kind : Kind) (more : ℕ) (rest : List ℕ) → GoesInside (constant_as kind more rest)
constant_goes IntItem more rest = number_goes (int_word (take (word_length rest) rest)) (behind_constant more rest (drop (word_length rest) rest))
constant_goes LogicalItem more rest = truth_goes (logical_word (take (word_length rest) rest)) (behind_constant more rest (drop (word_length rest) rest))
constant_goes TextItem more rest = text_goes more rest rest

nulls_go : (more : ℕ) (rest : List ℕ) → GoesInside (nulls more rest)
nulls_go zero rest = tt
nulls_go (suc more) rest = tt

repeated_goes : (kind : Kind) (more : ℕ) (rest : List ℕ) → GoesInside (repeated_as kind more rest)
repeated_goes kind more rest = by_word (nat_lt 0 (word_length rest))
  where
    by_word : (b : Bool) → GoesInside (if b then constant_as kind more rest else nulls more rest)
    by_word true = constant_goes kind more rest
    by_word false = nulls_go more rest

counted_goes : (kind : Kind) (count : Option ℕ) (rest : List ℕ) → GoesInside (counted_as kind count rest)
counted_goes kind None rest = constant_goes kind 0 rest
counted_goes kind (Some count) rest = repeated_goes kind (count - 1) (drop 1 (drop (digit_count rest) rest))

behind_goes : (kind : Kind) (s : Sought) → GoesInside (given_behind kind s)
behind_goes kind (AtEnd valued) = tt
behind_goes kind (AtNull rest) = tt
behind_goes kind AtSlash = tt
behind_goes kind (AtValue rest) = counted_goes kind (count_before rest) rest

-- characters before an item are characters before the items
begun-before : (front : List ℕ) (item : Item) (others : Items) → before (begun_with front item) others ≡ begun_items front (before item others)
begun-before front (Takes value place later) others = refl
begun-before front (Stops outcome) others = refl

begun-all : (front : List ℕ) (item : Item) (kinds : List Kind)
    → before (begun_with front item) (items_from (place_behind (begun_with front item)) (records_behind (begun_with front item)) kinds)
    ≡ begun_items front (before item (items_from (place_behind item) (records_behind item) kinds))
begun-all front (Takes value place later) kinds = refl
begun-all front (Stops outcome) kinds = refl

-- the items from the one that stands first
abbrev all_from : Item → List Kind → Items
all_from item kinds = before item (items_from (place_behind item) (records_behind item) kinds)

follows_end : (g : Given) (kind : Kind) (kinds : List Kind) → GoesInside g → Follows (all_from (item_by g [] (Stops (EndOfRecords []))) kinds) [] kind kinds g
unfolding items_from
follows_end (Number number place) kind kinds h = refl
follows_end (Truth truth place) kind kinds h = refl
follows_end (Piece text false place) kind kinds h = refl
follows_end (Piece text true (Inside more constant rest)) kind kinds h = begun-all text (text_over more constant rest []) kinds
follows_end (Piece text true (Between valued rest)) kind kinds h = absurd h
follows_end (Piece text true (Repeated more rest)) kind kinds h = absurd h
follows_end (Piece text true (Nulls more rest)) kind kinds h = absurd h
follows_end (Null place) kind kinds h = refl
follows_end Slash kind kinds h = refl
follows_end (Wrong number) kind kinds h = refl
follows_end (NeedRecord place) kind kinds h = refl

follows_next : (g : Given) (next : List ℕ) (later : List (List ℕ)) (kind : Kind) (kinds : List Kind) → GoesInside g
    → Follows (all_from (item_by g (next ∷ later) (item_over (renewed g next) later kind)) kinds) (next ∷ later) kind kinds g
unfolding items_from
follows_next (Number number place) next later kind kinds h = refl
follows_next (Truth truth place) next later kind kinds h = refl
follows_next (Piece text false place) next later kind kinds h = refl
follows_next (Piece text true (Inside more constant rest)) next later kind kinds h = begun-all text (text_over more constant rest (next ∷ later)) kinds
follows_next (Piece text true (Between valued rest)) next later kind kinds h = absurd h
follows_next (Piece text true (Repeated more rest)) next later kind kinds h = absurd h
follows_next (Piece text true (Nulls more rest)) next later kind kinds h = absurd h
follows_next (Null place) next later kind kinds h = refl
follows_next Slash next later kind kinds h = refl
follows_next (Wrong number) next later kind kinds h = refl
follows_next (NeedRecord place) next later kind kinds h = refl

-- the apostrophe that ends a run
AtQuote : List ℕ → Type 0
AtQuote [] = ⊤
AtQuote (q ∷ cs) = (q == 39) ≡ true

run_by : (b : Bool) (c : ℕ) (cs : List ℕ) (n : ℕ) → (c == 39) ≡ b → AtQuote (drop n cs) → AtQuote (drop (if not b then 1 + n else 0) (c ∷ cs))
unfolding AtQuote
run_by true c cs n e h = e
run_by false c cs n e h = rw one-add h

run_ends : (text : List ℕ) → AtQuote (drop (run_length text) text)
unfolding AtQuote
run_ends [] = tt
run_ends (c ∷ cs) = run_by (c == 39) c cs (run_length cs) refl (run_ends cs)

ending_by : (b : Bool) (c : ℕ) (cs : List ℕ) (n : ℕ) → (c == 39) ≡ b → ending false cs ≡ ending false (drop n cs)
    → ending b cs ≡ ending false (drop (if not b then 1 + n else 0) (c ∷ cs))
ending_by true c cs n e h = ap (λ x. ending x cs) (sym e)
ending_by false c cs n e h = rw one-add h

ending_run : (text : List ℕ) → ending false text ≡ ending false (drop (run_length text) text)
ending_run [] = refl
ending_run (c ∷ cs) = ending_by (c == 39) c cs (run_length cs) refl (ending_run cs)

behind_by : (b : Bool) (c : ℕ) (cs : List ℕ) (n : ℕ) → (c == 39) ≡ b → behind_text false cs ≡ behind_text false (drop n cs)
    → behind_text b cs ≡ behind_text false (drop (if not b then 1 + n else 0) (c ∷ cs))
behind_by true c cs n e h = ap (λ x. behind_text x cs) (sym e)
behind_by false c cs n e h = rw one-add h

behind_run : (text : List ℕ) → behind_text false text ≡ behind_text false (drop (run_length text) text)
behind_run [] = refl
behind_run (c ∷ cs) = behind_by (c == 39) c cs (run_length cs) refl (behind_run cs)

characters_by : (b : Bool) (c : ℕ) (cs : List ℕ) (n : ℕ) → (c == 39) ≡ b → characters false cs ≡ take n cs ++ characters false (drop n cs)
    → (if b then characters b cs else c ∷ characters b cs)
    ≡ take (if not b then 1 + n else 0) (c ∷ cs) ++ characters false (drop (if not b then 1 + n else 0) (c ∷ cs))
characters_by true c cs n e h = rw e refl
characters_by false c cs n e h = rw one-add (ap (λ z. c ∷ z) h)

characters_run : (text : List ℕ) → characters false text ≡ take (run_length text) text ++ characters false (drop (run_length text) text)
characters_run [] = refl
characters_run (c ∷ cs) = characters_by (c == 39) c cs (run_length cs) refl (characters_run cs)

outcome-twice : (a b : List ℕ) (o : Outcome) → begun_with_outcome a (begun_with_outcome b o) ≡ begun_with_outcome (a ++ b) o
outcome-twice a b Filled = refl
outcome-twice a b Slashed = refl
outcome-twice a b (Failed number text) = ap (Failed number) (sym (append_assoc a b text))
outcome-twice a b (EndOfRecords text) = ap EndOfRecords (sym (append_assoc a b text))

value-twice : (a b : List ℕ) (v : Value) → begun_with_value a (begun_with_value b v) ≡ begun_with_value (a ++ b) v
value-twice a b (IntValue number) = refl
value-twice a b (LogicalValue truth) = refl
value-twice a b (TextValue text) = ap TextValue (sym (append_assoc a b text))
value-twice a b Kept = refl

begun-twice : (a b : List ℕ) (item : Item) → begun_with a (begun_with b item) ≡ begun_with (a ++ b) item
begun-twice a b (Takes value place later) = ap (λ v. Takes v place later) (value-twice a b value)
begun-twice a b (Stops outcome) = ap Stops (outcome-twice a b outcome)

-- what a text takes in the next record, if there is one
abbrev on_in : List (List ℕ) → Item
on_in [] = Stops (EndOfRecords [])
on_in (next ∷ later) = text_over 0 [] next later

text_over-is : (more : ℕ) (constant rest : List ℕ) (later : List (List ℕ))
    → text_over more constant rest later ≡ text_item (ending false rest) more constant (characters false rest) (behind_text false rest) later (on_in later)
text_over-is more constant rest [] = refl
text_over-is more constant rest (next ∷ later) = refl

item_over-inside : (more : ℕ) (constant rest : List ℕ) (later : List (List ℕ)) (kind : Kind) → item_over (Inside more constant rest) later kind ≡ text_over more constant rest later
item_over-inside more constant rest [] kind = refl
item_over-inside more constant rest (next ∷ later) kind = refl

items_from-inside : (more : ℕ) (constant rest : List ℕ) (later : List (List ℕ)) (kind : Kind) (kinds : List Kind)
    → items_from (Inside more constant rest) later (kind ∷ kinds) ≡ all_from (text_over more constant rest later) kinds
unfolding items_from
items_from-inside more constant rest later kind kinds = ap (λ i. all_from i kinds) (item_over-inside more constant rest later kind)

-- a text that goes on within its record or in the next one
more_of_it : (more : ℕ) (constant front rest : List ℕ) (later : List (List ℕ)) (kind : Kind) (kinds : List Kind) (item : Item)
    → item ≡ begun_with front (text_over more constant rest later)
    → all_from item kinds ≡ begun_items front (items_from (Inside more constant rest) later (kind ∷ kinds))
more_of_it more constant front rest later kind kinds item e =
    ap (λ i. all_from i kinds) e ∙ begun-all front (text_over more constant rest later) kinds ∙ ap (begun_items front) (sym (items_from-inside more constant rest later kind kinds))

doubled : (e : Ending) (more : ℕ) (constant run : List ℕ) (q : ℕ) (text rest : List ℕ) (later : List (List ℕ)) (on : Item) → (e ≡ Badly → ⊥) → (e ≡ Open → more ≡ 0)
    → text_item e more constant (run ++ q ∷ text) rest later on ≡ begun_with (run ++ q ∷ []) (text_item e more constant text rest later on)
doubled Well more constant run q text rest later on b o = ap (λ z. Takes (TextValue z) (behind_constant more constant rest) later) (sym (append_assoc run (q ∷ []) text))
doubled Badly more constant run q text rest later on b o = absurd (b refl)
doubled Open zero constant run q text rest later on b o =
    ap (λ z. begun_with z on) (sym (append_assoc run (q ∷ []) text)) ∙ sym (begun-twice (run ++ q ∷ []) text on)
doubled Open (suc more) constant run q text rest later on b o = absurd (let z : suc more ≡ 0 = o refl in cc)

-- the item of a text of which `run` stands before the apostrophe `rest`
abbrev at_rest : ℕ → List ℕ → List ℕ → List ℕ → List (List ℕ) → Item
at_rest more constant run rest later = text_item (ending false rest) more constant (run ++ characters false rest) (behind_text false rest) later (on_in later)

-- what a piece is by how the text ends: wrong, or up to the apostrophe
abbrev piece_at : Ending → ℕ → List ℕ → List ℕ → List ℕ → Given
piece_at Badly more constant run rest = Wrong 1
piece_at Well more constant run rest = piece_before more constant run rest
piece_at Open zero constant run rest = piece_before 0 constant run rest
piece_at Open (suc more) constant run rest = Wrong 1

piece_at-is : (e : Ending) (more : ℕ) (constant text : List ℕ)
    → piece_by e more constant text ≡ piece_at e more constant (take (run_length text) text) (drop (run_length text) text)
piece_at-is Badly more constant text = refl
piece_at-is Well more constant text = refl
piece_at-is Open zero constant text = refl
piece_at-is Open (suc more) constant text = refl

-- no apostrophe stands in the rest of the record
at_end : (more : ℕ) (constant run : List ℕ) (later : List (List ℕ)) (kind : Kind) (kinds : List Kind)
    → Follows (all_from (at_rest more constant run [] later) kinds) later kind kinds (piece_at Open more constant run [])
at_end zero constant run later kind kinds =
    more_of_it 0 constant run [] later kind kinds _
    (ap (λ z. begun_with z (on_in later)) refl ∙ sym (begun-twice run [] (on_in later)) ∙ ap (begun_with run) (sym (text_over-is 0 constant [] later)))
at_end (suc more) constant run later kind kinds = refl

-- what is given where the text ends before the rest
abbrev closed_as : Ending → List ℕ → Place → Given
closed_as Well run place = Piece run false place
closed_as Badly run place = Wrong 1
closed_as Open run place = Wrong 1

-- a single apostrophe ends the text
closed : (e : Ending) (more : ℕ) (constant run rest : List ℕ) (later : List (List ℕ)) (kind : Kind) (kinds : List Kind) (on : Item) → (e ≡ Open → ⊥)
    → Follows (all_from (text_item e more constant (run ++ []) rest later on) kinds) later kind kinds
    (closed_as e run (behind_constant more constant rest))
closed Well more constant run rest later kind kinds on o = ap (λ z. all_from (Takes (TextValue z) (behind_constant more constant rest) later) kinds) (append-nil run)
closed Badly more constant run rest later kind kinds on o = refl
closed Open more constant run rest later kind kinds on o = absurd (o refl)

-- what is given where the text goes on behind a doubled apostrophe
abbrev doubled_as : Ending → ℕ → List ℕ → ℕ → List ℕ → List ℕ → Given
doubled_as Well more run q constant cs = Piece (run ++ q ∷ []) true (Inside more constant cs)
doubled_as Badly more run q constant cs = Wrong 1
doubled_as Open zero run q constant cs = Piece (run ++ q ∷ []) true (Inside 0 constant cs)
doubled_as Open (suc more) run q constant cs = Wrong 1

-- a doubled apostrophe stands for one
two : (e : Ending) (more : ℕ) (constant run : List ℕ) (q : ℕ) (cs : List ℕ) (later : List (List ℕ)) (kind : Kind) (kinds : List Kind) → e ≡ ending false cs
    → Follows (all_from (text_item e more constant (run ++ q ∷ characters false cs) (behind_text false cs) later (on_in later)) kinds) later kind kinds
    (doubled_as e more run q constant cs)
two Well more constant run q cs later kind kinds e =
    more_of_it more constant (run ++ q ∷ []) cs later kind kinds _
    (doubled Well more constant run q (characters false cs) (behind_text false cs) later (on_in later) (λ h. cc) (λ h. cc)
    ∙ ap (begun_with (run ++ q ∷ [])) (ap (λ x. text_item x more constant (characters false cs) (behind_text false cs) later (on_in later)) e ∙ sym (text_over-is more constant cs later)))
two Badly more constant run q cs later kind kinds e = refl
two Open zero constant run q cs later kind kinds e =
    more_of_it 0 constant (run ++ q ∷ []) cs later kind kinds _
    (doubled Open 0 constant run q (characters false cs) (behind_text false cs) later (on_in later) (λ h. cc) (λ _. refl)
    ∙ ap (begun_with (run ++ q ∷ [])) (ap (λ x. text_item x 0 constant (characters false cs) (behind_text false cs) later (on_in later)) e ∙ sym (text_over-is 0 constant cs later)))
two Open (suc more) constant run q cs later kind kinds e = refl

piece_two : (e : Ending) (more : ℕ) (constant run : List ℕ) (q c : ℕ) (cs : List ℕ) → (c == 39) ≡ true
    → doubled_as e more run q constant cs ≡ piece_at e more constant run (q ∷ c ∷ cs)
piece_two Well more constant run q c cs h = rw h refl
piece_two Badly more constant run q c cs h = refl
piece_two Open zero constant run q c cs h = rw h refl
piece_two Open (suc more) constant run q c cs h = refl

piece_one : (e : Ending) (more : ℕ) (constant run : List ℕ) (q c : ℕ) (cs : List ℕ) → (c == 39) ≡ false → (e ≡ Open → ⊥)
    → closed_as e run (behind_constant more constant (c ∷ cs)) ≡ piece_at e more constant run (q ∷ c ∷ cs)
piece_one Well more constant run q c cs h o = rw h refl
piece_one Badly more constant run q c cs h o = refl
piece_one Open more constant run q c cs h o = absurd (o refl)

not_open : (b : Bool) → (if b then Well else Badly) ≡ Open → ⊥
not_open true h = cc
not_open false h = cc

-- a second character behind the apostrophe
by_second : (b : Bool) (more : ℕ) (constant run : List ℕ) (q c : ℕ) (cs : List ℕ) (later : List (List ℕ)) (kind : Kind) (kinds : List Kind) → (c == 39) ≡ b → (q == 39) ≡ true
    → Follows (all_from (text_item (if b then ending false cs else (if is_separator c then Well else Badly)) more constant
    (run ++ (if b then c ∷ characters false cs else []))
    (if b then behind_text false cs else c ∷ cs) later (on_in later)) kinds) later kind kinds
    (piece_at (if b then ending false cs else (if is_separator c then Well else Badly)) more constant run (q ∷ c ∷ cs))
by_second true more constant run q c cs later kind kinds e f =
    let same : q ≡ c = eqb-true q 39 f ∙ sym (eqb-true c 39 e) in
    subst (λ d. Follows (all_from (text_item (ending false cs) more constant (run ++ d ∷ characters false cs) (behind_text false cs) later (on_in later)) kinds) later kind kinds
    (piece_at (ending false cs) more constant run (q ∷ c ∷ cs))) same
    (subst (λ g. Follows (all_from (text_item (ending false cs) more constant (run ++ q ∷ characters false cs) (behind_text false cs) later (on_in later)) kinds) later kind kinds g)
    (piece_two (ending false cs) more constant run q c cs e) (two (ending false cs) more constant run q cs later kind kinds refl))
by_second false more constant run q c cs later kind kinds e f =
    let how : Ending = if is_separator c then Well else Badly in
    subst (λ g. Follows (all_from (text_item how more constant (run ++ []) (c ∷ cs) later (on_in later)) kinds) later kind kinds g)
    (piece_one how more constant run q c cs e (not_open (is_separator c)))
    (closed how more constant run (c ∷ cs) later kind kinds (on_in later) (not_open (is_separator c)))

rest_follows : (more : ℕ) (constant run rest : List ℕ) (later : List (List ℕ)) (kind : Kind) (kinds : List Kind) → AtQuote rest
    → Follows (all_from (at_rest more constant run rest later) kinds) later kind kinds (piece_at (ending false rest) more constant run rest)
unfolding AtQuote
rest_follows more constant run [] later kind kinds h = at_end more constant run later kind kinds
rest_follows more constant run (q ∷ []) later kind kinds h =
    subst (λ a. Follows (all_from (text_item (ending a []) more constant (run ++ (if a then characters a [] else q ∷ characters a [])) (behind_text a []) later (on_in later)) kinds) later kind kinds
    (piece_at (ending a []) more constant run (q ∷ []))) (sym h)
    (closed Well more constant run [] later kind kinds (on_in later) (λ o. cc))
rest_follows more constant run (q ∷ c ∷ cs) later kind kinds h =
    subst (λ a. Follows (all_from (text_item (ending a (c ∷ cs)) more constant (run ++ (if a then characters a (c ∷ cs) else q ∷ characters a (c ∷ cs))) (behind_text a (c ∷ cs)) later (on_in later)) kinds) later kind kinds
    (piece_at (ending a (c ∷ cs)) more constant run (q ∷ c ∷ cs))) (sym h)
    (by_second (c == 39) more constant run q c cs later kind kinds refl h)

text_item-at : (more : ℕ) (constant text : List ℕ) (later : List (List ℕ))
    → text_over more constant text later ≡ at_rest more constant (take (run_length text) text) (drop (run_length text) text) later
text_item-at more constant text later =
    text_over-is more constant text later
    ∙ ap (λ e. text_item e more constant (characters false text) (behind_text false text) later (on_in later)) (ending_run text)
    ∙ ap (λ z. text_item (ending false (drop (run_length text) text)) more constant z (behind_text false text) later (on_in later)) (characters_run text)
    ∙ ap (λ z. text_item (ending false (drop (run_length text) text)) more constant (take (run_length text) text ++ characters false (drop (run_length text) text)) z later (on_in later)) (behind_run text)

text_follows : (more : ℕ) (constant text : List ℕ) (later : List (List ℕ)) (kind : Kind) (kinds : List Kind)
    → Follows (all_from (text_over more constant text later) kinds) later kind kinds (piece more constant text)
text_follows more constant text later kind kinds =
    let run : List ℕ = take (run_length text) text in
    let rest : List ℕ = drop (run_length text) text in
    subst (λ i. Follows (all_from i kinds) later kind kinds (piece more constant text)) (sym (text_item-at more constant text later))
    (subst (λ g. Follows (all_from (at_rest more constant run rest later) kinds) later kind kinds g)
    (ap (λ e. piece_at e more constant run rest) (sym (ending_run text)) ∙ sym (piece_at-is (ending false text) more constant text))
    (rest_follows more constant run rest later kind kinds (run_ends text)))

begun-none : (item : Item) → begun_with [] item ≡ item
begun-none (Takes (IntValue number) place later) = refl
begun-none (Takes (LogicalValue truth) place later) = refl
begun-none (Takes (TextValue text) place later) = refl
begun-none (Takes Kept place later) = refl
begun-none (Stops Filled) = refl
begun-none (Stops Slashed) = refl
begun-none (Stops (Failed number text)) = refl
begun-none (Stops (EndOfRecords text)) = refl

used_up : (constant : List ℕ) (later : List (List ℕ)) (kind : Kind) (kinds : List Kind)
    → InNextRecord (Inside 0 [] []) later (kind ∷ kinds) (all_from (text_over 0 constant [] later) kinds)
used_up constant [] kind kinds = refl
used_up constant (next ∷ later) kind kinds = ap (λ i. all_from i kinds) (begun-none (text_over 0 [] next later)) ∙ sym (items_from-inside 0 [] next later kind kinds)

inside_follows : (more : ℕ) (constant rest : List ℕ) (later : List (List ℕ)) (kind : Kind) (kinds : List Kind)
    → Follows (all_from (text_over more constant rest later) kinds) later kind kinds (inside more constant rest)
inside_follows zero constant [] later kind kinds = used_up constant later kind kinds
inside_follows (suc more) constant [] [] kind kinds = refl
inside_follows (suc more) constant [] (next ∷ later) kind kinds = refl
inside_follows zero constant (c ∷ cs) later kind kinds = text_follows zero constant (c ∷ cs) later kind kinds
inside_follows (suc more) constant (c ∷ cs) later kind kinds = text_follows (suc more) constant (c ∷ cs) later kind kinds

-- the items of a list follow from what the first of them is given at its place
pub given-follows : (place : Place) (later : List (List ℕ)) (kind : Kind) (kinds : List Kind)
    → Follows (items_from place later (kind ∷ kinds)) later kind kinds (given place kind)
unfolding given items_from
given-follows (Between valued rest) [] kind kinds = follows_end (given_behind kind (sought valued rest)) kind kinds (behind_goes kind (sought valued rest))
given-follows (Between valued rest) (next ∷ later) kind kinds = follows_next (given_behind kind (sought valued rest)) next later kind kinds (behind_goes kind (sought valued rest))
given-follows (Repeated more rest) [] kind kinds = follows_end (constant_as kind more rest) kind kinds (constant_goes kind more rest)
given-follows (Repeated more rest) (next ∷ later) kind kinds = follows_next (constant_as kind more rest) next later kind kinds (constant_goes kind more rest)
given-follows (Nulls more rest) [] kind kinds = follows_end (nulls more rest) kind kinds (nulls_go more rest)
given-follows (Nulls more rest) (next ∷ later) kind kinds = follows_next (nulls more rest) next later kind kinds (nulls_go more rest)
given-follows (Inside more constant rest) [] kind kinds = inside_follows more constant rest [] kind kinds
given-follows (Inside more constant rest) (next ∷ later) kind kinds = inside_follows more constant rest (next ∷ later) kind kinds
