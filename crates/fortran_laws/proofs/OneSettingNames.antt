-- A program unit that is read names each stored name once, and its EQUIVALENCE statements tie stored names alone.
use Rattle.std.proofs.Common.{◌≡◌, ℕ, Bool, true, false, ◌||◌, List, [], ◌∷◌, ◌++◌, Option, Some, None, refl, sym, ap, ◌∙◌, subst, cond}
use Rattle.std.specs.Prelude.{bytes_eq}
use Rattle.std.proofs.lemmas.Slice.Eq.{bytes_eq-Decides}
use Rattle.f_tree.specs.declared.names.Class.{Class}
use Rattle.f_tree.specs.declared.names.Class.TheVariants as class
use Rattle.f_tree.specs.declared.names.Options.{Options}
use Rattle.f_tree.specs.declared.units.Unit.{Unit as WrittenUnit}
use Rattle.f_tree.specs.declared.statements.UnitKind.{UnitKind}
use Rattle.f_tree.specs.declared.statements.UnitKind.TheVariants as kind
use Rattle.f_tree.specs.Values.{Bytes}
use Rattle.f_tree.specs.Facts.{Member, Attribute}
use Rattle.f_tree.specs.Setting.{IsIn, first_in, later_in, IsMember, here, there, AreDistinct, no_names, another_name}
use Rattle.f_tree.specs.Uses.{Use, is_among, seen_from, first_seen}
use Rattle.f_tree.specs.Attributes.{Constant, Expansion, Signs, described, attribute_of, with_expansions, without_expansion, with_dimensions, with_class, class_of, class_by, own_class, signs_of, own_names, option_list, names_of, all_described}
use Rattle.f_tree.specs.Lines.{stored_among, is_stored, size_of, unit_read, with_ties, program_of}

-- names in first-seen order stand once each
data OnceEach : List Bytes → Type 0 where
  no_more_names : OnceEach []
  one_more_name : {x : Bytes} {xs : List Bytes} → (IsIn x xs → ⊥) → OnceEach xs → OnceEach (x ∷ xs)

neither : (a b : Bool) → (a || b) ≡ false → b ≡ false
neither true b e = absurd (cc)
neither false b e = e

either : (a b : Bool) → a ≡ true → (a || b) ≡ true
either true b e = refl
either false b e = absurd (cc)

own_bytes : (x : Bytes) → bytes_eq x x ≡ true
own_bytes x = (bytes_eq-Decides x x).1 refl

among_first : (x : Bytes) (xs : List Bytes) → is_among x (x ∷ xs) ≡ true
unfolding is_among
among_first x xs = either (bytes_eq x x) (is_among x xs) (own_bytes x)

among_rest : (y x : Bytes) (xs : List Bytes) → is_among y (x ∷ xs) ≡ false → is_among y xs ≡ false
unfolding is_among
among_rest y x xs e = neither (bytes_eq y x) (is_among y xs) e

new_first : (y x : Bytes) (seen rest : List Bytes) → is_among x seen ≡ false → (IsIn y rest → is_among y (x ∷ seen) ≡ false) → IsIn y (x ∷ rest) → is_among y seen ≡ false
new_first y x seen rest e later first_in = e
new_first y x seen rest e later (later_in i) = among_rest y x seen (later i)

new_if : (y x : Bytes) (seen kept rest : List Bytes) (b : Bool) → is_among x seen ≡ b → (IsIn y kept → is_among y seen ≡ false) →
    (IsIn y rest → is_among y (x ∷ seen) ≡ false) → IsIn y (cond b kept (x ∷ rest)) → is_among y seen ≡ false
new_if y x seen kept rest true e before later i = before i
new_if y x seen kept rest false e before later i = new_first y x seen rest e later i

seen_is_new : (y : Bytes) (seen : List Bytes) (us : List Use) → IsIn y (seen_from seen us) → is_among y seen ≡ false
unfolding seen_from
seen_is_new y seen [] i = elim i [ ]
seen_is_new y seen (u ∷ us) i = new_if y u.name seen (seen_from seen us) (seen_from (u.name ∷ seen) us) (is_among u.name seen) refl
    (seen_is_new y seen us) (seen_is_new y (u.name ∷ seen) us) i

once_if : (x : Bytes) (kept rest : List Bytes) (b : Bool) → OnceEach kept → (IsIn x rest → ⊥) → OnceEach rest → OnceEach (cond b kept (x ∷ rest))
once_if x kept rest true a apart r = a
once_if x kept rest false a apart r = one_more_name apart r

seen_once : (seen : List Bytes) (us : List Use) → OnceEach (seen_from seen us)
unfolding seen_from
seen_once seen [] = no_more_names
seen_once seen (u ∷ us) = once_if u.name (seen_from seen us) (seen_from (u.name ∷ seen) us) (is_among u.name seen) (seen_once seen us)
    (λ i. absurd (let e : false ≡ true = sym (seen_is_new u.name (u.name ∷ seen) us i) ∙ among_first u.name seen in cc))
    (seen_once (u.name ∷ seen) us)

-- the name of the unit itself is not stored
kept_if : (own rest : Class) (constant dummy procedure name : Bool) → name ≡ true → (own ≡ class.Stored → ⊥) →
    cond constant class.Constant (cond dummy (cond procedure class.DummyProcedure class.Dummy) (cond name own rest)) ≡ class.Stored → ⊥
kept_if own rest true dummy procedure name t apart e = absurd (cc)
kept_if own rest false true true name t apart e = absurd (cc)
kept_if own rest false true false name t apart e = absurd (cc)
kept_if own rest false false procedure true t apart e = apart e
kept_if own rest false false procedure false t apart e = absurd (cc)

own_kept : (own : Class) (g : Signs) → g.is_own_name ≡ true → (own ≡ class.Stored → ⊥) → class_by own g ≡ class.Stored → ⊥
unfolding class_by
own_kept own g t apart e = kept_if own _ g.is_constant g.is_dummy _ g.is_own_name t apart e

own_by : (u : WrittenUnit) (k : UnitKind) → own_class (record u { kind = k }) ≡ class.Stored → ⊥
unfolding own_class
own_by u kind.Main e = absurd (cc)
own_by u kind.Subroutine e = absurd (cc)
own_by u (kind.Function spec) e = absurd (cc)
own_by u kind.BlockData e = absurd (cc)

own_name : (u : WrittenUnit) (y : Bytes) (more : List Bytes) (o : Option Bytes) → o ≡ Some y → is_among y (option_list o ++ more) ≡ true
unfolding option_list
own_name u y more None e = absurd (cc)
own_name u y more (Some x) e = subst (λ z. is_among y (z ∷ more) ≡ true) (let q : y ≡ x = cc in q) (among_first y more)

own_not_stored : (u : WrittenUnit) (uses : List Use) (cs : List Constant) (es : List Expansion) (y : Bytes) → u.name ≡ Some y →
    (attribute_of u uses cs es y).class ≡ class.Stored → ⊥
unfolding attribute_of with_expansions without_expansion with_dimensions with_class class_of signs_of own_names
own_not_stored u uses cs es y e f = own_kept (own_class u) (signs_of u uses y) (own_name u y _ u.name e) (own_by u u.kind) f

-- what is stored, by its class
stored_by : (a : Attribute) (k : Class) → is_stored (record a { class = k }) ≡ true → k ≡ class.Stored
unfolding is_stored
stored_by a class.Stored e = refl
stored_by a class.Constant e = absurd (cc)
stored_by a class.Dummy e = absurd (cc)
stored_by a class.Result e = absurd (cc)
stored_by a class.Procedure e = absurd (cc)
stored_by a class.DummyProcedure e = absurd (cc)
stored_by a class.StatementFunction e = absurd (cc)
stored_by a class.Intrinsic e = absurd (cc)
stored_by a class.Unit e = absurd (cc)

pub by_stored : (a : Attribute) (k : Class) → k ≡ class.Stored → is_stored (record a { class = k }) ≡ true
unfolding is_stored
by_stored a k e = ap (λ z. is_stored (record a { class = z })) e

-- the stored names of a list of names are among the names, and stand once each where those do
among_first_of : (y x : Bytes) (n : ℕ) (xs : List Bytes) (ms : List Member) → (IsMember y ms → IsIn y xs) → IsMember y (record { name = x; size = n } ∷ ms) → IsIn y (x ∷ xs)
among_first_of y x n xs ms later here = first_in
among_first_of y x n xs ms later (there i) = later_in (later i)

names_if : (y x : Bytes) (n : ℕ) (xs : List Bytes) (ms : List Member) (b : Bool) → (IsMember y ms → IsIn y xs) →
    IsMember y (cond b (record { name = x; size = n } ∷ ms) ms) → IsIn y (x ∷ xs)
names_if y x n xs ms true later i = among_first_of y x n xs ms later i
names_if y x n xs ms false later i = later_in (later i)

names_of_stored : (u : WrittenUnit) (uses : List Use) (cs : List Constant) (es : List Expansion) (xs : List Bytes) (y : Bytes) →
    IsMember y (stored_among (described u uses cs es xs)) → IsIn y xs
unfolding described stored_among
names_of_stored u uses cs es [] y i = elim i [ ]
names_of_stored u uses cs es (x ∷ xs) y i = names_if y x (size_of (attribute_of u uses cs es x)) xs (stored_among (described u uses cs es xs)) (is_stored (attribute_of u uses cs es x))
    (names_of_stored u uses cs es xs y) i

distinct_if : (x : Bytes) (n : ℕ) (ms : List Member) (b : Bool) → (IsMember x ms → ⊥) → AreDistinct ms → AreDistinct (cond b (record { name = x; size = n } ∷ ms) ms)
distinct_if x n ms true apart d = another_name apart d
distinct_if x n ms false apart d = d

stored_once : (u : WrittenUnit) (uses : List Use) (cs : List Constant) (es : List Expansion) (xs : List Bytes) → OnceEach xs → AreDistinct (stored_among (described u uses cs es xs))
unfolding described stored_among
stored_once u uses cs es [] o = no_names
stored_once u uses cs es (x ∷ xs) (one_more_name apart o) =
    distinct_if x (size_of (attribute_of u uses cs es x)) (stored_among (described u uses cs es xs)) (is_stored (attribute_of u uses cs es x))
    (λ i. apart (names_of_stored u uses cs es xs x i)) (stored_once u uses cs es xs o)

left_out : (m : Member) (ms : List Member) (b : Bool) → (b ≡ true → ⊥) → AreDistinct ms → AreDistinct (cond b (m ∷ ms) ms)
left_out m ms true apart d = absurd (apart refl)
left_out m ms false apart d = d

stored_with_own : (u : WrittenUnit) (uses : List Use) (cs : List Constant) (es : List Expansion) (xs : List Bytes) (o : Option Bytes) → u.name ≡ o → OnceEach xs →
    AreDistinct (stored_among (described u uses cs es (option_list o ++ xs)))
unfolding described stored_among option_list
stored_with_own u uses cs es xs None e o = stored_once u uses cs es xs o
stored_with_own u uses cs es xs (Some y) e o = left_out _ (stored_among (described u uses cs es xs)) (is_stored (attribute_of u uses cs es y))
    (λ t. own_not_stored u uses cs es y e (stored_by (attribute_of u uses cs es y) (attribute_of u uses cs es y).class t)) (stored_once u uses cs es xs o)

distinct_names : (u : WrittenUnit) (uses : List Use) (cs : List Constant) (es : List Expansion) → AreDistinct (stored_among (described u uses cs es (names_of u uses)))
unfolding names_of first_seen
distinct_names u uses cs es = stored_with_own u uses cs es _ u.name refl (seen_once [] _)

-- no stored name of a unit that is read stands twice
pub distinct_stored : (options : Options) (u : WrittenUnit) → AreDistinct (unit_read options u).stored
unfolding unit_read with_ties program_of all_described
distinct_stored options u = distinct_names u _ _ _
