-- A subroutine or function that refuses its call because it disagrees differs from it, or a length does.
use Rattle.std.specs.Prelude.{◌≡◌, ℕ, nat_le, Bool, true, false, not, ◌&&◌, ◌||◌, List, [], ◌∷◌, Option, Some, None, IsTrue, if◌then◌else◌}
use Rattle.std.proofs.Common.{refl, sym, ◌∙◌, subst}
use Rattle.fortran_totality.specs.f_tree.declared.names.Class.{Class}
use Rattle.fortran_totality.specs.f_tree.declared.names.Class.TheVariants as class
use Rattle.fortran_totality.specs.f_tree.simulation.Machine.{Refused}
use Rattle.fortran_totality.specs.f_tree.Values.{Bytes, Spot, Datum, IsInt, IsLog, IsText, IsSpot, IsProc, IsLabel, Nothing, Act, Disagreement, NoMeaning, Checked, Gives, Fails, given_that}
use Rattle.fortran_totality.specs.f_tree.Terms.{Wanted, AsSubroutine, AsFunction}
use Rattle.fortran_totality.specs.f_tree.Store.{Store}
use Rattle.fortran_totality.specs.f_tree.Facts.{Bounds, Attribute, Formal, Named, Alternate, UnitKind, MainProgram, SubroutineUnit, FunctionUnit, BlockDataUnit, EntryPoint, Form, Line, ProgramUnit, Facts, Frame}
use Rattle.fortran_totality.specs.f_tree.World.{World, View, Passed, entered}
use Rattle.fortran_totality.specs.f_tree.Places.{arrived}
use Rattle.fortran_totality.specs.f_tree.Association.{same_basic, same_width, serves, Bindings, is_array_dummy, bound_as, agreed, bind_all, all_dimensions_by, bounds_for, result_of, with_result, frame_of, begun_with, begun_bound, begun_at, start, length_of}
use Rattle.fortran_totality.specs.f_tree.Setting.{IsIn, first_in, later_in}
use Rattle.fortran_totality.specs.f_tree.WellFormed.{IsWellFormed, is_dummy}
use Rattle.agreeing_runs.specs.Mismatches.{result_differs, argument_differs, formal_differs, arguments_differ, differs, longer_than, any_longer, result_length_differs, length_differs, EachRefusedCallDiffers}
use Rattle.agreeing_runs.proofs.PlaceLemmas.{ViewHas, EachHas, arrived_has}
use Rattle.agreeing_runs.proofs.ActLemmas.{is_other, Other, EachShaped, all_other}

-- WHAT IS BOUND. The names that are bound are those of the dummy arguments
unfoldable EachName : (Bytes → Type 0) → List Bytes → Type 0
EachName P [] = Unit {0}
EachName P (x ∷ xs) = P x × EachName P xs

unfoldable EachBound : (Bytes → Type 0) → Checked Bindings → Type 0
EachBound P (Gives bs) = EachName P bs.names
EachBound P (Fails act) = Unit {0}

module _ (P : Bytes → Type 0) where
  named_bound : (x : Bytes) (d : Datum) (one : Checked Datum) (r : Checked Bindings) → P x → EachBound P r →
      EachBound P (given_that one (λ b. given_that r (λ bs. Gives (record bs { names = x ∷ bs.names; values = b ∷ bs.values; lengths = length_of d ∷ bs.lengths }))))
  unfolding EachBound EachName given_that
  named_bound x d (Fails act) r here each = tt
  named_bound x d (Gives b) (Fails act) here each = tt
  named_bound x d (Gives b) (Gives bs) here each = (here, each)

  label_bound : (l : ℕ) (r : Checked Bindings) → EachBound P r → EachBound P (given_that r (λ bs. Gives (record bs { labels = l ∷ bs.labels })))
  unfolding EachBound given_that
  label_bound l (Fails act) each = tt
  label_bound l (Gives bs) each = each

  each_bound : (u : ProgramUnit) (formals : List Formal) (ds : List Datum) → ((x : Bytes) → IsIn (Named x) formals → P x) → EachBound P (bind_all u formals ds)
  unfolding bind_all EachBound EachName
  each_bound u [] [] all = tt
  each_bound u (Named x ∷ formals) (d ∷ ds) all =
      named_bound x d (agreed (u.attribute x) d) (bind_all u formals ds) (all x first_in) (each_bound u formals ds (λ y is. all y (later_in is)))
  each_bound u (Alternate ∷ formals) (IsLabel l ∷ ds) all = label_bound l (bind_all u formals ds) (each_bound u formals ds (λ y is. all y (later_in is)))
  each_bound u _ _ all = tt

-- BEGINNING. Past its arguments a procedure comes to another act
module _ (c : Facts) where
  unfoldable Anything : Form → Type 0
  Anything form = Unit {0}

  all_lines : (lines : List Line) → EachHas Anything lines
  unfolding EachHas Anything
  all_lines [] = tt
  all_lines (line ∷ lines) = (tt, all_lines lines)

  entered_apart : (w : World) (r : Checked View) → ViewHas Anything r → entered r w ≡ Refused Disagreement → ⊥
  unfolding entered ViewHas
  entered_apart w (Gives v) has is = absurd (cc)
  entered_apart w (Fails act) has is = absurd (let same : act ≡ Disagreement = cc in let bad : NoMeaning ≡ Disagreement = sym has ∙ same in cc)

  with_apart : (w : World) (f : Frame) (names : List Bytes) (r : Checked (List (List Bounds))) → Other r → begun_with c w f names r ≡ Refused Disagreement → ⊥
  unfolding begun_with Other is_other
  with_apart w f names (Gives bs) other is =
      let g : Frame = record f { dimensions = λ x. bounds_for x names bs } in
      entered_apart w (arrived c.program g [] f.called.start) (arrived_has Anything c.program (all_lines c.program.lines) g [] f.called.start) is
  with_apart w f names (Fails act) other is =
      absurd (let same : act ≡ Disagreement = cc in let bad : false ≡ true = subst (λ z. is_other z ≡ true) same other in cc)

  each_shaped : (least : ℕ) (f : Frame) (s : Store) → IsWellFormed c least → (xs : List Bytes) → EachName (λ x. IsTrue (is_dummy (c.program.attribute x).class)) xs → EachShaped c f s xs
  unfolding EachShaped EachName
  each_shaped least f s well [] each = tt
  each_shaped least f s well (x ∷ xs) each = (well.dummies x each.0, each_shaped least f s well xs each.1)

  bound_apart : (least : ℕ) (w : World) (e : EntryPoint) (result : Option Spot) (r : Checked Bindings) → IsWellFormed c least →
      EachBound (λ x. IsTrue (is_dummy (c.program.attribute x).class)) r → begun_bound c w e result r ≡ Refused Disagreement → (act : Act) × (r ≡ Fails act)
  unfolding begun_bound EachBound
  bound_apart least w e result (Gives bs) well each is =
      let s : Store = with_result c.program.kind result w.store in
      let f : Frame = frame_of e bs (result_of c.program.kind (c.program.attribute e.name) result w.store) _ in
      absurd (with_apart (record w { store = s }) f bs.names (all_dimensions_by c f s bs.names) (all_other c f s bs.names (each_shaped least f s well bs.names each)) is)
  bound_apart least w e result (Fails act) well each is = (act, refl)

-- WHAT IS REFUSED
either_true : (a b : Bool) → b ≡ true → (a || b) ≡ true
either_true true b is = refl
either_true false b is = is

joined_parts : (a b p q : Bool) → (b || q) ≡ true → ((a || b) || (p || q)) ≡ true
joined_parts true b p q is = refl
joined_parts false true p q is = refl
joined_parts false false true q is = refl
joined_parts false false false q is = is

result_parts : (a b p q : Bool) → (a || p) ≡ true → ((a || b) || (p || q)) ≡ true
result_parts true b p q is = refl
result_parts false true p q is = refl
result_parts false false true q is = refl
result_parts false false false q is = absurd (cc)

-- an actual argument that its dummy argument does not take
longer_if : (array b : Bool) (d : Datum) (act : Act) → (if array || b then Gives d else Fails Disagreement) ≡ Fails act → not b ≡ true
longer_if true b d act fails = absurd (cc)
longer_if false true d act fails = absurd (cc)
longer_if false false d act fails = refl

bound_longer : (a : Attribute) (o : Option ℕ) (p : Spot) (act : Act) → bound_as a o p ≡ Fails act → longer_than o (IsSpot p) ≡ true
unfolding bound_as longer_than
bound_longer a None p act fails = absurd (cc)
bound_longer a (Some m) p act fails = longer_if (is_array_dummy a) (nat_le m p.width) (IsSpot (record p { width = m })) act fails

spot_differs : (a : Attribute) (p : Spot) (act : Act) (b : Bool) → (if b then bound_as a a.width p else Fails Disagreement) ≡ Fails act →
    (not b || longer_than a.width (IsSpot p)) ≡ true
spot_differs a p act true fails = bound_longer a a.width p act fails
spot_differs a p act false fails = refl

agreed_differs : (k : Class) (a : Attribute) (d : Datum) (act : Act) → IsTrue (is_dummy k) → agreed (record a { class = k }) d ≡ Fails act →
    (argument_differs (record a { class = k }) d || longer_than a.width d) ≡ true
unfolding agreed argument_differs is_dummy
agreed_differs class.Dummy a (IsSpot p) act dummy fails = spot_differs (record a { class = class.Dummy }) p act (same_basic a.basic p.basic) fails
agreed_differs class.DummyProcedure a (IsSpot p) act dummy fails = refl
agreed_differs class.Dummy a (IsProc x) act dummy fails = refl
agreed_differs class.DummyProcedure a (IsProc x) act dummy fails = absurd (cc)
agreed_differs k a (IsInt z) act dummy fails = refl
agreed_differs k a (IsLog b) act dummy fails = refl
agreed_differs k a (IsText cs) act dummy fails = refl
agreed_differs k a (IsLabel l) act dummy fails = refl
agreed_differs k a Nothing act dummy fails = refl
agreed_differs _ a (IsSpot p) act dummy fails = absurd (cc)
agreed_differs _ a (IsProc x) act dummy fails = absurd (cc)

named_differs : (u : ProgramUnit) (x : Bytes) (formals : List Formal) (d : Datum) (ds : List Datum) (act : Act) (one : Checked Datum) (r : Checked Bindings) →
    given_that one (λ b. given_that r (λ bs. Gives (record bs { names = x ∷ bs.names; values = b ∷ bs.values; lengths = length_of d ∷ bs.lengths }))) ≡ Fails act →
    ((other : Act) → one ≡ Fails other → (argument_differs (u.attribute x) d || longer_than (u.attribute x).width d) ≡ true) →
    ((other : Act) → r ≡ Fails other → (arguments_differ u formals ds || any_longer u formals ds) ≡ true) →
    (arguments_differ u (Named x ∷ formals) (d ∷ ds) || any_longer u (Named x ∷ formals) (d ∷ ds)) ≡ true
unfolding given_that arguments_differ any_longer formal_differs
named_differs u x formals d ds act (Fails other) r fails first later =
    result_parts (argument_differs (u.attribute x) d) (arguments_differ u formals ds) (longer_than (u.attribute x).width d) (any_longer u formals ds) (first other refl)
named_differs u x formals d ds act (Gives b) (Fails other) fails first later =
    joined_parts (argument_differs (u.attribute x) d) (arguments_differ u formals ds) (longer_than (u.attribute x).width d) (any_longer u formals ds) (later other refl)
named_differs u x formals d ds act (Gives b) (Gives bs) fails first later = absurd (cc)

label_fails : (l : ℕ) (act : Act) (r : Checked Bindings) → given_that r (λ bs. Gives (record bs { labels = l ∷ bs.labels })) ≡ Fails act → (other : Act) × (r ≡ Fails other)
unfolding given_that
label_fails l act (Fails other) fails = (other, refl)
label_fails l act (Gives bs) fails = absurd (cc)

bind_differs : (u : ProgramUnit) (formals : List Formal) (ds : List Datum) (act : Act) → ((x : Bytes) → IsIn (Named x) formals → IsTrue (is_dummy (u.attribute x).class)) →
    bind_all u formals ds ≡ Fails act → (arguments_differ u formals ds || any_longer u formals ds) ≡ true
unfolding bind_all arguments_differ any_longer formal_differs
bind_differs u [] [] act dummies fails = absurd (cc)
bind_differs u [] (d ∷ ds) act dummies fails = refl
bind_differs u (Named x ∷ formals) [] act dummies fails = refl
bind_differs u (Alternate ∷ formals) [] act dummies fails = refl
bind_differs u (Named x ∷ formals) (d ∷ ds) act dummies fails =
    named_differs u x formals d ds act (agreed (u.attribute x) d) (bind_all u formals ds) fails
    (λ other is. agreed_differs (u.attribute x).class (u.attribute x) d other (dummies x first_in) is)
    (λ other is. bind_differs u formals ds other (λ y among. dummies y (later_in among)) is)
bind_differs u (Alternate ∷ formals) (IsLabel l ∷ ds) act dummies fails =
    let h = label_fails l act (bind_all u formals ds) fails in bind_differs u formals ds h.0 (λ y among. dummies y (later_in among)) h.1
bind_differs u (Alternate ∷ formals) (_ ∷ ds) act dummies fails = refl

-- an entry that is not what the reference wants
parts_differ : (a b : Bool) → (a && b) ≡ false → (not a || not b) ≡ true
parts_differ true true none = absurd (cc)
parts_differ true false none = refl
parts_differ false b none = refl

serves_differs : (kind : UnitKind) (a : Attribute) (want : Wanted) → serves kind a want ≡ false → (result_differs kind a want || result_length_differs a want) ≡ true
unfolding serves result_differs result_length_differs
serves_differs MainProgram a AsSubroutine none = absurd (cc)
serves_differs MainProgram a (AsFunction basic width) none = refl
serves_differs SubroutineUnit a AsSubroutine none = absurd (cc)
serves_differs SubroutineUnit a (AsFunction basic width) none = refl
serves_differs FunctionUnit a AsSubroutine none = refl
serves_differs FunctionUnit a (AsFunction basic width) none = parts_differ (same_basic a.basic basic) (same_width basic a.width width) none
serves_differs BlockDataUnit a want none = refl

refused_if : (c : Facts) (least : ℕ) (passed : Passed) (w : World) (e : EntryPoint) (b : Bool) → serves c.program.kind (c.program.attribute e.name) passed.want ≡ b →
    IsWellFormed c least → ((x : Bytes) → IsIn (Named x) e.formals → IsTrue (is_dummy (c.program.attribute x).class)) →
    (if b then begun_bound c w e passed.result (bind_all c.program e.formals passed.actuals) else Refused Disagreement) ≡ Refused Disagreement →
    (differs c.program e passed.want passed.actuals || length_differs c.program e passed.want passed.actuals) ≡ true
unfolding differs length_differs
refused_if c least passed w e true served well dummies is =
    let h = bound_apart c least w e passed.result (bind_all c.program e.formals passed.actuals) well
    (each_bound (λ x. IsTrue (is_dummy (c.program.attribute x).class)) c.program e.formals passed.actuals dummies) is in
    joined_parts (result_differs c.program.kind (c.program.attribute e.name) passed.want) (arguments_differ c.program e.formals passed.actuals)
    (result_length_differs (c.program.attribute e.name) passed.want) (any_longer c.program e.formals passed.actuals)
    (bind_differs c.program e.formals passed.actuals h.0 dummies h.1)
refused_if c least passed w e false served well dummies is =
    result_parts (result_differs c.program.kind (c.program.attribute e.name) passed.want) (arguments_differ c.program e.formals passed.actuals)
    (result_length_differs (c.program.attribute e.name) passed.want) (any_longer c.program e.formals passed.actuals)
    (serves_differs c.program.kind (c.program.attribute e.name) passed.want served)

pub refused_calls : EachRefusedCallDiffers
unfolding start begun_at
refused_calls c least name passed w e well entry dummies is =
    refused_if c least passed w e (serves c.program.kind (c.program.attribute e.name) passed.want) refl well dummies
    (subst (λ o. begun_at c passed w o ≡ Refused Disagreement) entry is)
