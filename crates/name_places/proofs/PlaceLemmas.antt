-- Where the rows of a name stand, by the numbers of statements.
use Rattle.std.specs.Prelude.{◌≡◌, ℕ, suc, max, Bool, true, false, ◌||◌, ◌&&◌, List, [], ◌∷◌, ◌++◌, map, bytes_eq, Option, Some, None, option_map, slice_get, if◌then◌else◌}
use Rattle.std.proofs.Common.{◌+◌, ◌<◌, ◌≤◌, take, get_or, length, Result, Ok, Err, OnOk, IfOk, ◌⊎◌, inl, inr, refl, sym, ap, subst, ◌∙◌, arith}
use Rattle.std.proofs.lemmas.List.{take_more, length-take-le}
use Rattle.f_tree.specs.declared.names.Class.{Class}
use Rattle.f_tree.specs.declared.names.Class.TheVariants as class
use Rattle.f_tree.specs.declared.refusals.Kind.{Kind}
use Rattle.f_tree.specs.declared.refusals.Refusal.{Refusal}
use Rattle.f_tree.specs.declared.statements.Body.{Body}
use Rattle.f_tree.specs.declared.statements.Stmt.{Stmt}
use Rattle.f_tree.specs.declared.units.Unit.{Unit as WrittenUnit}
use Rattle.f_tree.specs.Values.{Bytes}
use Rattle.f_tree.specs.Uses.{Use, is_among, uses_of_body}
use Rattle.f_tree.specs.Attributes.{Shaped, shaped_in, external_in, called, is_used_as, arrays_of, own_names, all_dummies}
use Rattle.f_tree.specs.Facts.{Attribute}
use Rattle.declaration_rows.specs.NameRows.{stood, at_first, at_both, mentions, declares, fixes, shapes_name, makes, first_statements}
use Rattle.name_table.specs.declared.NameTable.{NameTable}
use Rattle.name_table.specs.Named.{value_of}
use Rattle.name_table.proofs.SetLemmas.{among_both}
use Rattle.name_table.proofs.Texts.{bytes_eq_flip}
use Rattle.name_places.specs.declared.place.Place.{Place}
use Rattle.name_places.specs.declared.places.NamePlaces.{NamePlaces}
use Rattle.name_places.proofs.NoteLemmas.{notes_as, notes_both}
use Rattle.name_places.specs.FirstPlaces.{first_at, first_or, noted, Notes, NotesStatement, use_names, called_names, declared_in, mentioned_in, fixed_in, procedures_in, AreFirst, ArePlaces, makes_by, unit_place, statement_place, placed, rows_at, later}

-- ONE STATEMENT MORE
abbrev onward : Option ℕ → Option ℕ
onward o = option_map (λ k. suc k) o

first_one : (b : Bool) → (if b then Some 0 else None) ≡ first_or None b 0
unfolding first_or
first_one true = refl
first_one false = refl

onward_first : (o : Option ℕ) (b : Bool) (n : ℕ) → onward (first_or o b n) ≡ first_or (onward o) b (suc n)
unfolding first_or
onward_first None true n = refl
onward_first None false n = refl
onward_first (Some k) b n = refl

first_by : (a b : Bool) (o p : Option ℕ) (n : ℕ) → p ≡ first_or o b n → (if a then Some 0 else onward p) ≡ first_or (if a then Some 0 else onward o) b (suc n)
unfolding first_or
first_by true b o p n is = refl
first_by false b o p n is = ap onward is ∙ onward_first o b n

first_push : (test : Body → Bool) (ss : List Stmt) (s : Stmt) → first_at test (ss ++ s ∷ []) ≡ first_or (first_at test ss) (test s.body) (length ss)
unfolding first_at
first_push test [] s = first_one (test s.body)
first_push test (t ∷ ss) s = first_by (test t.body) (test s.body) (first_at test ss) (first_at test (ss ++ s ∷ [])) (length ss) (first_push test ss s)

pub first_none : (test : Body → Bool) → first_at test [] ≡ None
unfolding first_at
first_none test = refl

pub table_more : (f : Body → List Bytes) (ss : List Stmt) (at : ℕ) (s d : Stmt) (old new : NameTable ℕ) → at < length ss → s ≡ get_or ss at d
    → ((q : Bytes) → value_of old q ≡ first_at (λ b. is_among q (f b)) (take at ss)) → Notes at old new (f s.body)
    → (q : Bytes) → value_of new q ≡ first_at (λ b. is_among q (f b)) (take (at + 1) ss)
unfolding noted
table_more f ss at s d old new h is so_far notes q =
    notes.has q ∙ ap (λ o. first_or o (is_among q (f s.body)) at) (so_far q)
    ∙ ap (first_or (first_at (λ b. is_among q (f b)) (take at ss)) (is_among q (f s.body))) (sym (length-take-le at ss (let e : at ≤ length ss = omega arith in e)))
    ∙ sym (first_push (λ b. is_among q (f b)) (take at ss) s)
    ∙ ap (first_at (λ b. is_among q (f b))) (ap (λ (t : Stmt). take at ss ++ t ∷ []) is ∙ sym (take_more ss at d h))

pub notes_all : {A E : Type 0} (r : Result A E) (arrays : List Bytes) (at : ℕ) (old : NamePlaces) (mentioned declared fixed externals procedures : NameTable ℕ) (b : Body) (us vs : List Use)
    → us ≡ [] ++ uses_of_body arrays b → vs ≡ [] ++ uses_of_body arrays b → Notes at old.mentioned mentioned (use_names us) → Notes at old.declared declared (declared_in b) → Notes at old.fixed fixed (fixed_in b)
    → Notes at old.procedures externals (external_in b) → OnOk r (Notes at externals procedures (called_names vs))
    → OnOk r (NotesStatement arrays at old (record { mentioned = mentioned; declared = declared; fixed = fixed; procedures = procedures }) b)
unfolding mentioned_in procedures_in
notes_all (Ok x) arrays at old mentioned declared fixed externals procedures b us vs is same one two three four five = record {
  mentioned = notes_as at _ _ _ _ (ap use_names is) one;
  declared = two;
  fixed = three;
  procedures = notes_both at old.procedures externals procedures _ _ four (notes_as at _ _ _ _ (ap called_names same) five);
}
notes_all (Err e) arrays at old mentioned declared fixed externals procedures b us vs is same one two three four five = five

-- SORTS OF STATEMENTS
first_alike : (test other : Body → Bool) (ss : List Stmt) → ((b : Body) → test b ≡ other b) → first_at test ss ≡ first_at other ss
unfolding first_at
first_alike test other [] same = refl
first_alike test other (s ∷ ss) same =
    ap (λ b. if b then Some 0 else onward (first_at test ss)) (same s.body) ∙ ap (λ o. if other s.body then Some 0 else onward o) (first_alike test other ss same)

shapes_is : (q : Bytes) (ss : List Shaped) → is_among q (map (λ (s : Shaped). s.name) ss) ≡ shapes_name q ss
unfolding is_among shapes_name
shapes_is q [] = refl
shapes_is q (s ∷ ss) = ap (λ b. b || is_among q (map (λ (t : Shaped). t.name) ss)) (bytes_eq_flip q s.name) ∙ ap (λ b. bytes_eq s.name q || b) (shapes_is q ss)

declares_is : (q : Bytes) (b : Body) → is_among q (declared_in b) ≡ declares q b
unfolding declared_in declares
declares_is q b = shapes_is q (shaped_in b)

and_true : (b : Bool) → (b && true) ≡ b
and_true true = refl
and_true false = refl

and_false : (b : Bool) → (b && false) ≡ false
and_false true = refl
and_false false = refl

called_one : (b : Bool) (x y : Bytes) (ys : List Bytes) (rest : Bool) → is_among x ys ≡ rest → is_among x (if b then y ∷ ys else ys) ≡ ((bytes_eq y x && b) || rest)
unfolding is_among
called_one true x y ys rest is = ap (λ c. bytes_eq x y || c) is ∙ ap (λ c. c || rest) (bytes_eq_flip x y ∙ sym (and_true (bytes_eq y x)))
called_one false x y ys rest is = is ∙ ap (λ c. c || rest) (sym (and_false (bytes_eq y x)))

called_is : (x : Bytes) (us : List Use) → is_among x (called_names us) ≡ is_used_as called x us
unfolding called_names is_used_as is_among
called_is x [] = refl
called_is x (u ∷ us) = called_one (called u.manner) x u.name (called_names us) (is_used_as called x us) (called_is x us)

pub makes_is : (u : WrittenUnit) (x : Bytes) (a : Attribute) (b : Body) → makes u x a b ≡ makes_by u x a.class b
unfolding makes makes_by procedures_in
makes_is u x a b = made a.class
  where
    made : (k : Class) → (elim k [ class.Constant ↦ fixes x b | class.DummyProcedure ↦ is_among x (external_in b) || is_used_as called x (uses_of_body (arrays_of u) b) | _ ↦ true ]) ≡ makes_by u x k b
    made class.Constant = refl
    made class.DummyProcedure =
        ap (λ c. is_among x (external_in b) || c) (sym (called_is x (uses_of_body (arrays_of u) b))) ∙ sym (among_both x (external_in b) (called_names (uses_of_body (arrays_of u) b)))
    made class.Stored = refl
    made class.Dummy = refl
    made class.Result = refl
    made class.Procedure = refl
    made class.StatementFunction = refl
    made class.Intrinsic = refl
    made class.Unit = refl

mentions_is : (u : WrittenUnit) (q : Bytes) (b : Body) → is_among q (mentioned_in (arrays_of u) b) ≡ mentions u q b
unfolding mentions mentioned_in use_names
mentions_is u q b = refl

fixes_is : (q : Bytes) (b : Body) → is_among q (fixed_in b) ≡ fixes q b
unfolding fixes fixed_in
fixes_is q b = refl

procedure_is : (u : WrittenUnit) (q : Bytes) (b : Body) → is_among q (procedures_in (arrays_of u) b) ≡ makes_by u q class.DummyProcedure b
unfolding makes_by
procedure_is u q b = refl

pub places_of : (u : WrittenUnit) (arrays : List Bytes) (places : NamePlaces) → arrays ≡ arrays_of u → AreFirst arrays u.statements places → ArePlaces u places
places_of u arrays places is first =
    let known : AreFirst (arrays_of u) u.statements places = subst (λ names. AreFirst names u.statements places) is first in
    record {
      mentioned = λ q. known.mentioned q ∙ first_alike _ _ u.statements (mentions_is u q);
      declared = λ q. known.declared q ∙ first_alike _ _ u.statements (declares_is q);
      fixed = λ q. known.fixed q ∙ first_alike _ _ u.statements (fixes_is q);
      procedures = λ q. known.procedures q ∙ first_alike _ _ u.statements (procedure_is u q);
    }

pub places_ok : {E : Type 0} (r : Result NamePlaces E) (u : WrittenUnit) (arrays : List Bytes) (ss : List Stmt) → ss ≡ u.statements → arrays ≡ arrays_of u → IfOk r (λ places. AreFirst arrays ss places)
    → IfOk r (λ places. ArePlaces u places)
places_ok (Ok places) u arrays ss these is first = places_of u arrays places is (subst (λ (ts : List Stmt). AreFirst arrays ts places) these first)
places_ok (Err e) u arrays ss these is first = first

-- WHERE ROWS STAND
placed_more : (u : WrittenUnit) (s : Stmt) (ss : List Stmt) (o : Option ℕ) → placed u (s ∷ ss) (onward o) ≡ placed u ss o
unfolding placed
placed_more u s ss None = refl
placed_more u s ss (Some k) = refl

stood_is : (u : WrittenUnit) (s : Stmt) (ss : List Stmt) (kinds : List Kind) → stood s kinds ≡ rows_at (placed u (s ∷ ss) (Some 0)) kinds
unfolding stood rows_at placed statement_place
stood_is u s ss kinds = refl

at_unit : (u : WrittenUnit) (kinds : List Kind) → map (λ (k : Kind). record { file = u.file; card = u.card; kind = k }) kinds ≡ rows_at (unit_place u) kinds
unfolding rows_at unit_place
at_unit u kinds = refl

first_by_place : (u : WrittenUnit) (s : Stmt) (ss : List Stmt) (kinds : List Kind) (b : Bool) (o : Option ℕ) (rest : List Refusal) → rest ≡ rows_at (placed u ss o) kinds
    → (if b then stood s kinds else rest) ≡ rows_at (placed u (s ∷ ss) (if b then Some 0 else onward o)) kinds
first_by_place u s ss kinds true o rest is = stood_is u s ss kinds
first_by_place u s ss kinds false o rest is = is ∙ ap (λ p. rows_at p kinds) (sym (placed_more u s ss o))

pub first_placed : (u : WrittenUnit) (test : Body → Bool) (ss : List Stmt) (kinds : List Kind) → at_first u test ss kinds ≡ rows_at (placed u ss (first_at test ss)) kinds
unfolding at_first first_at placed
first_placed u test [] kinds = at_unit u kinds
first_placed u test (s ∷ ss) kinds = first_by_place u s ss kinds (test s.body) (first_at test ss) (at_first u test ss kinds) (first_placed u test ss kinds)

zero_later : (k : ℕ) → max 0 k ≡ k
zero_later k = omega arith

later_zero : (k : ℕ) → max (suc k) 0 ≡ suc k
later_zero k = omega arith

suc_later : (j k : ℕ) → max (suc j) (suc k) ≡ suc (max j k)
suc_later j k = omega arith

later_first : (o : Option ℕ) → later (Some 0) o ≡ o
unfolding later
later_first None = refl
later_first (Some k) = ap (λ n. Some n) (zero_later k)

later_second : (o : Option ℕ) → later (onward o) (Some 0) ≡ onward o
unfolding later
later_second None = refl
later_second (Some k) = ap (λ n. Some n) (later_zero k)

later_onward : (o p : Option ℕ) → later (onward o) (onward p) ≡ onward (later o p)
unfolding later
later_onward None p = refl
later_onward (Some j) None = refl
later_onward (Some j) (Some k) = ap (λ n. Some n) (suc_later j k)

both_by : (u : WrittenUnit) (s : Stmt) (ss : List Stmt) (kinds : List Kind) (b c : Bool) (o p : Option ℕ) (first second rest : List Refusal)
    → first ≡ rows_at (placed u (s ∷ ss) (if c then Some 0 else onward p)) kinds → second ≡ rows_at (placed u ss o) kinds → rest ≡ rows_at (placed u ss (later o p)) kinds
    → (if b then first else if c then second else rest) ≡ rows_at (placed u (s ∷ ss) (later (if b then Some 0 else onward o) (if c then Some 0 else onward p))) kinds
both_by u s ss kinds true c o p first second rest one two three = one ∙ ap (λ q. rows_at (placed u (s ∷ ss) q) kinds) (sym (later_first (if c then Some 0 else onward p)))
both_by u s ss kinds false true o p first second rest one two three =
    two ∙ ap (λ q. rows_at q kinds) (sym (placed_more u s ss o)) ∙ ap (λ q. rows_at (placed u (s ∷ ss) q) kinds) (sym (later_second o))
both_by u s ss kinds false false o p first second rest one two three =
    three ∙ ap (λ q. rows_at q kinds) (sym (placed_more u s ss (later o p))) ∙ ap (λ q. rows_at (placed u (s ∷ ss) q) kinds) (sym (later_onward o p))

pub both_placed : (u : WrittenUnit) (one other : Body → Bool) (ss : List Stmt) (kinds : List Kind) → at_both u one other ss kinds ≡ rows_at (placed u ss (later (first_at one ss) (first_at other ss))) kinds
unfolding at_both first_at placed later
both_placed u one other [] kinds = at_unit u kinds
both_placed u one other (s ∷ ss) kinds =
    both_by u s ss kinds (one s.body) (other s.body) (first_at one ss) (first_at other ss) (at_first u other (s ∷ ss) kinds) (at_first u one ss kinds) (at_both u one other ss kinds)
    (first_placed u other (s ∷ ss) kinds) (first_placed u one ss kinds) (both_placed u one other ss kinds)

-- of a unit
head_by : (u : WrittenUnit) (x : Bytes) (ss : List Stmt) (b : Bool) (kinds : List Kind) → b ≡ true → at_first u (mentions u x) (if b then [] else ss) kinds ≡ rows_at (placed u u.statements None) kinds
unfolding placed unit_place first_at
head_by u x ss true kinds is = first_placed u (mentions u x) [] kinds
head_by u x ss false kinds is = absurd (cc)

pub head_placed : (u : WrittenUnit) (x : Bytes) (kinds : List Kind) → is_among x (own_names u ++ all_dummies u) ≡ true
    → at_first u (mentions u x) (first_statements u x) kinds ≡ rows_at (placed u u.statements None) kinds
unfolding first_statements
head_placed u x kinds head = head_by u x u.statements (is_among x (own_names u ++ all_dummies u)) kinds head

other_by : (u : WrittenUnit) (x : Bytes) (ss : List Stmt) (b : Bool) (kinds : List Kind) → b ≡ false → at_first u (mentions u x) (if b then [] else ss) kinds ≡ rows_at (placed u ss (first_at (mentions u x) ss)) kinds
other_by u x ss false kinds is = first_placed u (mentions u x) ss kinds
other_by u x ss true kinds is = absurd (cc)

pub mention_placed : (u : WrittenUnit) (places : NamePlaces) (x : Bytes) (kinds : List Kind) → ArePlaces u places → is_among x (own_names u ++ all_dummies u) ≡ false
    → at_first u (mentions u x) (first_statements u x) kinds ≡ rows_at (placed u u.statements (value_of places.mentioned x)) kinds
unfolding first_statements
mention_placed u places x kinds known other =
    other_by u x u.statements (is_among x (own_names u ++ all_dummies u)) kinds other ∙ ap (λ o. rows_at (placed u u.statements o) kinds) (sym (known.mentioned x))

pub declaration_placed : (u : WrittenUnit) (places : NamePlaces) (x : Bytes) (kinds : List Kind) → ArePlaces u places
    → at_first u (declares x) u.statements kinds ≡ rows_at (placed u u.statements (value_of places.declared x)) kinds
declaration_placed u places x kinds known = first_placed u (declares x) u.statements kinds ∙ ap (λ o. rows_at (placed u u.statements o) kinds) (sym (known.declared x))

pub parameter_placed : (u : WrittenUnit) (places : NamePlaces) (x : Bytes) (kinds : List Kind) → ArePlaces u places
    → at_first u (fixes x) u.statements kinds ≡ rows_at (placed u u.statements (value_of places.fixed x)) kinds
parameter_placed u places x kinds known = first_placed u (fixes x) u.statements kinds ∙ ap (λ o. rows_at (placed u u.statements o) kinds) (sym (known.fixed x))

constant_is : (u : WrittenUnit) (x : Bytes) (ss : List Stmt) → first_at (makes_by u x class.Constant) ss ≡ first_at (fixes x) ss
unfolding makes_by
constant_is u x ss = first_alike (makes_by u x class.Constant) (fixes x) ss (λ b. refl)

pub constant_placed : (u : WrittenUnit) (places : NamePlaces) (x : Bytes) (kinds : List Kind) → ArePlaces u places
    → at_both u (makes_by u x class.Constant) (declares x) u.statements kinds ≡ rows_at (placed u u.statements (later (value_of places.fixed x) (value_of places.declared x))) kinds
constant_placed u places x kinds known =
    both_placed u (makes_by u x class.Constant) (declares x) u.statements kinds
    ∙ ap (λ o. rows_at (placed u u.statements (later o (first_at (declares x) u.statements))) kinds) (constant_is u x u.statements ∙ sym (known.fixed x))
    ∙ ap (λ o. rows_at (placed u u.statements (later (value_of places.fixed x) o)) kinds) (sym (known.declared x))

pub procedure_placed : (u : WrittenUnit) (places : NamePlaces) (x : Bytes) (kinds : List Kind) → ArePlaces u places
    → at_both u (makes_by u x class.DummyProcedure) (declares x) u.statements kinds ≡ rows_at (placed u u.statements (later (value_of places.procedures x) (value_of places.declared x))) kinds
procedure_placed u places x kinds known =
    both_placed u (makes_by u x class.DummyProcedure) (declares x) u.statements kinds
    ∙ ap (λ o. rows_at (placed u u.statements (later o (first_at (declares x) u.statements))) kinds) (sym (known.procedures x))
    ∙ ap (λ o. rows_at (placed u u.statements (later (value_of places.procedures x) o)) kinds) (sym (known.declared x))

-- what always holds has stood at the first statement
always_by : (u : WrittenUnit) (one other : Body → Bool) (ss : List Stmt) (kinds : List Kind) → ((b : Body) → one b ≡ true) → at_both u one other ss kinds ≡ at_first u other ss kinds
unfolding at_both at_first
always_by u one other [] kinds always = refl
always_by u one other (s ∷ ss) kinds always =
    ap (λ b. if b then at_first u other (s ∷ ss) kinds else if other s.body then at_first u one ss kinds else at_both u one other ss kinds) (always s.body)

pub data HasNone : Class → Type 0 where
  stored : HasNone class.Stored
  dummy : HasNone class.Dummy
  result : HasNone class.Result
  procedure : HasNone class.Procedure
  function : HasNone class.StatementFunction
  intrinsic : HasNone class.Intrinsic
  unit : HasNone class.Unit

makes_always : (u : WrittenUnit) (x : Bytes) (k : Class) → HasNone k → (b : Body) → makes_by u x k b ≡ true
unfolding makes_by
makes_always u x class.Stored stored b = refl
makes_always u x class.Dummy dummy b = refl
makes_always u x class.Result result b = refl
makes_always u x class.Procedure procedure b = refl
makes_always u x class.StatementFunction function b = refl
makes_always u x class.Intrinsic intrinsic b = refl
makes_always u x class.Unit unit b = refl
makes_always u x class.Constant none b = elim none [ ]
makes_always u x class.DummyProcedure none b = elim none [ ]

pub other_placed : (u : WrittenUnit) (places : NamePlaces) (x : Bytes) (k : Class) (kinds : List Kind) → ArePlaces u places → HasNone k
    → at_both u (makes_by u x k) (declares x) u.statements kinds ≡ rows_at (placed u u.statements (value_of places.declared x)) kinds
other_placed u places x k kinds known none = always_by u (makes_by u x k) (declares x) u.statements kinds (makes_always u x k none) ∙ declaration_placed u places x kinds known

-- by the class that a name is found to have
pub constant_at : (u : WrittenUnit) (places : NamePlaces) (x : Bytes) (k : Class) (kinds : List Kind) (place : Place) → ArePlaces u places → k ≡ class.Constant
    → place ≡ placed u u.statements (later (value_of places.fixed x) (value_of places.declared x)) → at_both u (makes_by u x k) (declares x) u.statements kinds ≡ rows_at place kinds
constant_at u places x k kinds place known is at =
    ap (λ c. at_both u (makes_by u x c) (declares x) u.statements kinds) is ∙ constant_placed u places x kinds known ∙ ap (λ (p : Place). rows_at p kinds) (sym at)

pub procedure_at : (u : WrittenUnit) (places : NamePlaces) (x : Bytes) (k : Class) (kinds : List Kind) (place : Place) → ArePlaces u places → k ≡ class.DummyProcedure
    → place ≡ placed u u.statements (later (value_of places.procedures x) (value_of places.declared x)) → at_both u (makes_by u x k) (declares x) u.statements kinds ≡ rows_at place kinds
procedure_at u places x k kinds place known is at =
    ap (λ c. at_both u (makes_by u x c) (declares x) u.statements kinds) is ∙ procedure_placed u places x kinds known ∙ ap (λ (p : Place). rows_at p kinds) (sym at)

pub other_at : (u : WrittenUnit) (places : NamePlaces) (x : Bytes) (k : Class) (kinds : List Kind) (place : Place) → ArePlaces u places → HasNone k
    → place ≡ placed u u.statements (value_of places.declared x) → at_both u (makes_by u x k) (declares x) u.statements kinds ≡ rows_at place kinds
other_at u places x k kinds place known none at = other_placed u places x k kinds known none ∙ ap (λ (p : Place). rows_at p kinds) (sym at)

none_as : (k l : Class) → k ≡ l → HasNone l → HasNone k
none_as k l is none = subst HasNone (sym is) none

pub stored_none : (k : Class) → k ≡ class.Stored ⊎ (k ≡ class.Dummy ⊎ k ≡ class.Result) → HasNone k
stored_none k (inl is) = none_as k class.Stored is stored
stored_none k (inr (inl is)) = none_as k class.Dummy is dummy
stored_none k (inr (inr is)) = none_as k class.Result is result

pub function_none : (k : Class) → k ≡ class.StatementFunction ⊎ k ≡ class.Procedure → HasNone k
function_none k (inl is) = none_as k class.StatementFunction is function
function_none k (inr is) = none_as k class.Procedure is procedure

pub unit_none : (k : Class) → k ≡ class.Unit ⊎ k ≡ class.Intrinsic → HasNone k
unit_none k (inl is) = none_as k class.Unit is unit
unit_none k (inr is) = none_as k class.Intrinsic is intrinsic
