-- The first layer: each unit is simulated by its lowered text.
use Rattle.std.specs.Prelude.{◌≡◌, ℕ, zero, suc, ◌+◌, ◌<◌, ◌≤◌, Bool, true, false, not, if◌then◌else◌, List, [], ◌∷◌, length, slice_get, Option, Some, None, refl}
use Rattle.std.proofs.Common.{sym, ap, ◌∙◌, subst, arith}
use Rattle.simulation.specs.Machine.{Goes, Ends, Calls, Answers, Breaks, Entry, Enters, Refused}
use Rattle.simulation.specs.LocalSimulation.{Does, last, more, Kit, Pairing, Couple, Meets, Resumed, Local}
use Rattle.small_instance.specs.declared.source.Place.{Place}
use Rattle.small_instance.specs.declared.source.Operand.{Operand}
use Rattle.small_instance.specs.declared.source.Operand.TheVariants as operand
use Rattle.small_instance.specs.declared.source.Argument.{Argument}
use Rattle.small_instance.specs.declared.source.Argument.TheVariants.{ByReference, ByValue}
use Rattle.small_instance.specs.declared.source.Statement.{Statement}
use Rattle.small_instance.specs.declared.source.Statement.TheVariants as stmt
use Rattle.small_instance.specs.Store.{Store, Value, Is, Bad, Tied, Ties, Untied, set_cell, cell_of, defined, fetch, tie_cell, tie_value, with_fresh, without_fresh}
use Rattle.small_instance.specs.SourceLanguage as S
use Rattle.small_instance.specs.MiddleLanguage as M
use Rattle.small_instance.specs.SourceLanguage.{Text, Begins, Awaits, Sums}
use Rattle.small_instance.specs.Translation.{size_of, sizes_before, position_of, atom_of, passed_of, fill_of, lowered_statement, lowered_body, lowered}
use Rattle.small_instance.proofs.Positions.{step_at, size_within}

-- The two languages have one store, so a world has nothing to say.
abbrev pub upper_kit : Kit S.source_language M.middle_language
upper_kit = record {
  World = Unit {0};
  Grows = λ i μ μ'. Unit {0};
  Passed = λ μ s n b m k c. (s ≡ m) × (n ≡ k) × (b ≡ c);
  Given = λ μ s r m q. (s ≡ m) × (r ≡ q);
  Claimed = λ f. ⊥;
  Told = λ f e. ⊥;
}

-- which steps belong to which moment of a statement
pub data Placed (u : Text) (v : S.View) (x : M.View) : Type 0 where
  ready : v.doing ≡ Begins → x.at ≡ position_of u.body v.at → Placed u v x
  entering : v.doing ≡ Begins → x.at ≡ 0 → v.at ≡ (if x.by_second then u.second else 0) → Placed u v x
  summing : (p : Place) (l : Operand) (unit : ℕ) (by_second : Bool) (a b : Argument) (n r : ℕ) →
      slice_get u.body v.at ≡ Some (stmt.SetCalling p l unit by_second a b) → v.doing ≡ Sums n r →
      x.at ≡ position_of u.body v.at + 4 → x.saved ≡ Some n → x.answer ≡ Some r → Placed u v x

pub record Paired (u : Text) (v : S.View) (s : Store) (x : M.View) (m : Store) : Type 0 where
  pub store : s ≡ m
  pub bound : v.bound ≡ x.bound
  pub placed : Placed u v x

abbrev pub upper_pairing : Text → Pairing upper_kit
upper_pairing u = record {
  Houses = λ μ. Unit {0};
  Idle = λ μ. Unit {0};
  Matched = λ μ v s x m. Paired u v s x m;
  Halted = λ μ v s x m. s ≡ m;
  Waits = λ μ μ' v x. v.bound ≡ x.bound;
}

abbrev pub upper_couple : ℕ → Text → Couple upper_kit
upper_couple i u = record {
  number = i;
  pairing = upper_pairing u;
  source = u;
  target = lowered u;
  weight = λ x. 1;
  most = λ v. length (lowered u);
  spare = 1;
  wrapper = λ n. None;
  inner = record { unit = i; by_second = false };
}

-- steps that lead from one view to another, over one store
abbrev Leads : Text → M.View → Store → ℕ → M.View → Type 0
Leads u x s n x' = (k : ℕ) (e : M.MiddleEvent) → Does M.middle_language (λ y. 1) (lowered u) x' s k e → Does M.middle_language (λ y. 1) (lowered u) x s (n + k) e

leads_nowhere : (u : Text) (x : M.View) (s : Store) → Leads u x s 0 x
leads_nowhere u x s k e path = let z : k ≡ 0 + k = omega arith in subst (λ n. Does M.middle_language (λ y. 1) (lowered u) x s n e) z path

leads_on : (u : Text) (x y z : M.View) (s : Store) (n : ℕ) → Leads u x s n y → M.middle_language.step (lowered u) y s ≡ Goes z s → Leads u x s (suc n) z
leads_on u x y z s n leads goes k e path =
    let size : n + (1 + k) ≡ suc n + k = omega arith in
    subst (λ n. Does M.middle_language (λ y. 1) (lowered u) x s n e) size (leads (1 + k) e (more goes path refl))

-- a step of the middle language that does what the source does, with room for so many steps
abbrev Corresponds : Text → ℕ → S.SourceEvent → M.MiddleEvent → Type 0
Corresponds u room (Goes v s) e = (1 ≤ room) × (x : M.View) × (e ≡ Goes x s) × Paired u v s x s
Corresponds u room (Ends z v s) e = (1 ≤ room) × (x : M.View) × (e ≡ Ends z x s)
Corresponds u room (Calls v s n b) e = (2 ≤ room) × (x : M.View) × (e ≡ Calls x s n b) × (v.bound ≡ x.bound) × ((s' : Store) (r : ℕ) → Resumed (upper_couple 0 u) tt (S.source_language.resume u v r s') x r s')
Corresponds u room (Answers s r) e = (1 ≤ room) × (e ≡ Answers s r)
Corresponds u room (Breaks f) e = Unit {0}

met : (i : ℕ) (u : Text) (x y : M.View) (s : Store) (n room most : ℕ) → Leads u x s n y → n + room ≤ most → (e : S.SourceEvent) →
    Corresponds u room e (M.middle_language.step (lowered u) y s) → Meets (upper_couple i u) tt x s most e
met i u x y s n room most leads size (Goes v s') c =
    let some : 1 ≤ room = c.0 in
    record { count = n + 1; view = c.1; shared = s'; does = leads 1 (Goes c.1 s') (last c.2 refl); few = omega arith; matched = c.3 }
met i u x y s n room most leads size (Ends z v s') c =
    let some : 1 ≤ room = c.0 in
    record { count = n + 1; view = c.1; shared = s'; does = leads 1 (Ends z c.1 s') (last c.2 refl); few = omega arith; halted = refl }
met i u x y s n room most leads size (Calls v s' name b) c =
    let some : 2 ≤ room = c.0 in
    record {
      count = n + 1;
      view = c.1;
      shared = s';
      name = name;
      arg = b;
      does = leads 1 (Calls c.1 s' name b) (last c.2 refl);
      few = omega arith;
      world = tt;
      grows = tt;
      passed = (refl, refl, refl);
      waits = c.3;
      resumes = λ s₂ r m q given. subst (λ m. Resumed (upper_couple i u) tt (S.source_language.resume u v r s₂) c.1 q m) given.0
          (subst (λ q. Resumed (upper_couple i u) tt (S.source_language.resume u v r s₂) c.1 q s₂) given.1 (again (S.source_language.resume u v r s₂) r s₂ (c.4 s₂ r)));
    }
  where
    again : (y : Entry S.source_sorts) (r : ℕ) (m : Store) → Resumed (upper_couple 0 u) tt y c.1 r m → Resumed (upper_couple i u) tt y c.1 r m
    again (Enters v s) r m h = h
    again (Refused f) r m h = h
met i u x y s n room most leads size (Answers s' r) c =
    let some : 1 ≤ room = c.0 in
    record { count = n + 1; shared = s'; ans = r; does = leads 1 (Answers s' r) (last c.1 refl); few = omega arith; given = (refl, refl) }
met i u x y s n room most leads size (Breaks f) c = λ claimed. absurd claimed

next_position : (body : List Statement) (i : ℕ) (st : Statement) → slice_get body i ≡ Some st → position_of body (i + 1) ≡ position_of body i + size_of st
next_position body i st e =
    let n : i + 1 ≡ suc i = omega arith in
    let s : sizes_before body (suc i) ≡ sizes_before body i + size_of st = go body i e in
    let s' : sizes_before body (i + 1) ≡ sizes_before body (suc i) = ap (sizes_before body) n in
    omega arith
  where
    start : (body : List Statement) → sizes_before body zero ≡ 0
    start [] = refl
    start (x ∷ body) = refl

    go : (body : List Statement) (i : ℕ) → slice_get body i ≡ Some st → sizes_before body (suc i) ≡ sizes_before body i + size_of st
    go [] i e = absurd (grind arith)
    go (x ∷ body) zero e =
        let e' : Some x ≡ Some st = e in
        let same : size_of x ≡ size_of st = ap size_of cc in
        let z : sizes_before body zero ≡ 0 = start body in
        omega arith
    go (x ∷ body) (suc i) e = let h : sizes_before body (suc i) ≡ sizes_before body i + size_of st = go body i e in omega arith

first_position : (body : List Statement) → position_of body 0 ≡ 1
first_position [] = refl
first_position (x ∷ body) = refl

-- an operand has its value
atom_value : (x : M.View) (s : Store) (o : Operand) → M.value_of x s (atom_of o) ≡ S.value_of x.bound s o
atom_value x s (operand.Constant n) = refl
atom_value x s (operand.Of p) = refl

module _ (u : Text) (i : ℕ) (x : M.View) (s : Store) (room : ℕ) (some : 1 ≤ room) where
  goes_corresponds : (n p : ℕ) → p ≡ position_of u.body n → Corresponds u room (S.goes_to (record { at = i; bound = x.bound; doing = Begins }) n s) (M.goes_to x p s)
  goes_corresponds n p e = (some, record x { at = p }, refl, record { store = refl; bound = refl; placed = ready refl e })

  put_corresponds : (c : Option ℕ) (n : ℕ) (doing : S.Doing) → x.at + 1 ≡ position_of u.body (i + 1) →
      Corresponds u room (S.then_cell c (λ c. S.goes_to (record { at = i; bound = x.bound; doing = doing }) (i + 1) (set_cell c n s)))
      (M.then_cell c (λ c. M.goes_to x (x.at + 1) (set_cell c n s)))
  put_corresponds (Some c) n doing e = (some, record x { at = x.at + 1 }, refl, record { store = refl; bound = refl; placed = ready refl e })
  put_corresponds None n doing e = tt

  set_corresponds : (a b : Value) (c : Option ℕ) → x.at + 1 ≡ position_of u.body (i + 1) →
      Corresponds u room (S.then_value a (λ n. S.then_value b (λ k. S.then_cell c (λ c. S.goes_to (record { at = i; bound = x.bound; doing = Begins }) (i + 1) (set_cell c (n + k) s)))))
      (M.then_value a (λ n. M.then_value b (λ k. M.then_cell c (λ c. M.goes_to x (x.at + 1) (set_cell c (n + k) s)))))
  set_corresponds (Is n) (Is k) c e = put_corresponds c (n + k) Begins e
  set_corresponds (Is n) (Bad f) c e = tt
  set_corresponds (Bad f) b c e = tt

  unless_corresponds : (a : Value) (n : ℕ) → x.at + 1 ≡ position_of u.body (i + 1) →
      Corresponds u room (S.then_value a (S.branch (record { at = i; bound = x.bound; doing = Begins }) n s)) (M.then_value a (M.branch x (position_of u.body n) s))
  unless_corresponds (Is zero) n e = goes_corresponds n (position_of u.body n) refl
  unless_corresponds (Is (suc k)) n e = goes_corresponds (i + 1) (x.at + 1) e
  unless_corresponds (Bad f) n e = tt

  give_corresponds : (a : Value) → Corresponds u room (S.then_value a (λ n. Answers s n)) (M.then_value a (λ n. Answers s n))
  give_corresponds (Is n) = (some, refl)
  give_corresponds (Bad f) = tt

  -- a statement of one step, at its step
  one_step : (st : Statement) → slice_get u.body i ≡ Some st → size_of st ≡ 1 → x.at ≡ position_of u.body i →
      Corresponds u room (S.deed (Some st) (record { at = i; bound = x.bound; doing = Begins }) s) (M.deed (slice_get (lowered_statement u.body st) 0) x s)
  one_step (stmt.Set p l r) found one at =
      let after : position_of u.body (i + 1) ≡ position_of u.body i + 1 = next_position u.body i (stmt.Set p l r) found in
      subst (λ a. Corresponds u room (S.deed (Some (stmt.Set p l r)) (record { at = i; bound = x.bound; doing = Begins }) s) (M.then_value a (λ n. M.then_value (M.value_of x s (atom_of r)) (λ k. M.then_cell (cell_of x.bound p) (λ c. M.goes_to x (x.at + 1) (set_cell c (n + k) s))))))
      (sym (atom_value x s l))
      (subst (λ b. Corresponds u room (S.deed (Some (stmt.Set p l r)) (record { at = i; bound = x.bound; doing = Begins }) s) (M.then_value (S.value_of x.bound s l) (λ n. M.then_value b (λ k. M.then_cell (cell_of x.bound p) (λ c. M.goes_to x (x.at + 1) (set_cell c (n + k) s))))))
      (sym (atom_value x s r)) (set_corresponds (S.value_of x.bound s l) (S.value_of x.bound s r) (cell_of x.bound p) (omega arith)))
  one_step (stmt.SetCalling p l unit by_second a b) found one at = absurd (omega arith)
  one_step (stmt.Unless p n) found one at =
      let after : position_of u.body (i + 1) ≡ position_of u.body i + 1 = next_position u.body i (stmt.Unless p n) found in
      unless_corresponds (fetch x.bound s p) n (omega arith)
  one_step (stmt.GoTo n) found one at = goes_corresponds n (position_of u.body n) refl
  one_step (stmt.Give o) found one at =
      subst (λ a. Corresponds u room (S.deed (Some (stmt.Give o)) (record { at = i; bound = x.bound; doing = Begins }) s) (M.then_value a (λ n. Answers s n)))
      (sym (atom_value x s o)) (give_corresponds (S.value_of x.bound s o))
  one_step stmt.Stop found one at = (some, x, refl)

-- the view after an argument's step, and what the argument is tied to there
record Filled (k : Bool) (a : Argument) (x : M.View) (s : Store) (fresh c : ℕ) (y : Option ℕ) : Type 0 where
  view : M.View
  goes : M.deed (Some (fill_of k a)) x s ≡ Goes view s
  at : view.at ≡ x.at + 1
  bound : view.bound ≡ x.bound
  saved : view.saved ≡ x.saved
  other : M.slot view (not k) ≡ M.slot x (not k)
  tied : M.tie view fresh k (passed_of a) ≡ Ties c y

filled_value : (k : Bool) (o : Operand) (x : M.View) (s : Store) (fresh c : ℕ) (y : Option ℕ) (val : Value) → S.value_of x.bound s o ≡ val → tie_value fresh val ≡ Ties c y → Filled k (ByValue o) x s fresh c y
filled_value false o x s fresh c y (Is n) e tied = record {
  view = record x { at = x.at + 1; first_slot = Some n };
  goes = ap (λ v. M.then_value v (λ n. M.goes_to (M.with_slot false n x) (x.at + 1) s)) (atom_value x s o ∙ e);
  at = refl;
  bound = refl;
  saved = refl;
  other = refl;
  tied = tied;
}
filled_value true o x s fresh c y (Is n) e tied = record {
  view = record x { at = x.at + 1; second_slot = Some n };
  goes = ap (λ v. M.then_value v (λ n. M.goes_to (M.with_slot true n x) (x.at + 1) s)) (atom_value x s o ∙ e);
  at = refl;
  bound = refl;
  saved = refl;
  other = refl;
  tied = tied;
}
filled_value k o x s fresh c y (Bad f) e tied = absurd (untied tied)
  where
    untied : Untied f ≡ Ties c y → ⊥
    untied h = grind arith

filled : (k : Bool) (a : Argument) (x : M.View) (s : Store) (fresh c : ℕ) (y : Option ℕ) → S.tie x.bound s fresh a ≡ Ties c y → Filled k a x s fresh c y
filled k (ByReference p) x s fresh c y tied = record { view = record x { at = x.at + 1 }; goes = refl; at = refl; bound = refl; saved = refl; other = refl; tied = tied }
filled k (ByValue o) x s fresh c y tied = filled_value k o x s fresh c y (S.value_of x.bound s o) refl tied

-- what an argument is tied to rests on the bound cells and its own slot
tie_stays : (k : Bool) (a : Argument) (x z : M.View) (fresh : ℕ) → z.bound ≡ x.bound → M.slot z k ≡ M.slot x k → M.tie z fresh k (passed_of a) ≡ M.tie x fresh k (passed_of a)
tie_stays k (ByReference p) x z fresh bound same = ap (λ b. tie_cell (cell_of b p)) bound
tie_stays k (ByValue o) x z fresh bound same = ap (λ y. tie_value fresh (defined y)) same

module _ (j : ℕ) (u : Text) (x y : M.View) (s : Store) (i : ℕ) (p : Place) (l : Operand) (unit : ℕ) (by_second : Bool) (a b : Argument)
    (found : slice_get u.body i ≡ Some (stmt.SetCalling p l unit by_second a b)) (at : y.at ≡ position_of u.body i) (steps : ℕ) (few : steps ≤ 1) (leads : Leads u x s steps y) where
  step_here : (z : M.View) (k : ℕ) → z.at ≡ position_of u.body i + k → k < 5 → M.middle_language.step (lowered u) z s ≡ M.deed (slice_get (lowered_statement u.body (stmt.SetCalling p l unit by_second a b)) k) z s
  step_here z k e h = ap (λ n. M.deed (slice_get (lowered u) n) z s) e ∙ ap (λ o. M.deed o z s) (step_at u i k (stmt.SetCalling p l unit by_second a b) found h)

  -- the call itself, where the operand and both arguments stand ready
  call_corresponds : (n : ℕ) (z : M.View) (c d : ℕ) (v w : Option ℕ) → z.at ≡ position_of u.body i + 3 → z.bound ≡ y.bound → z.saved ≡ Some n →
      M.tie z s.height false (passed_of a) ≡ Ties c v → M.tie z (s.height + 1) true (passed_of b) ≡ Ties d w →
      Corresponds u 2 (Calls (record { at = i; bound = y.bound; doing = Awaits n }) (with_fresh v w s) (record { unit = unit; by_second = by_second }) (record { first = c; second = d })) (M.middle_language.step (lowered u) z s)
  call_corresponds n z c d v w at_call bound saved first second = (
    omega arith,
    z,
    step_here z 3 at_call (omega arith)
        ∙ ap (λ t. M.then_tied t (λ c x. M.then_tied (M.tie z (s.height + 1) true (passed_of b)) (λ d y. Calls z (with_fresh x y s) (record { unit = unit; by_second = by_second }) (record { first = c; second = d })))) first
        ∙ ap (λ t. M.then_tied t (λ d y. Calls z (with_fresh v y s) (record { unit = unit; by_second = by_second }) (record { first = c; second = d }))) second,
    sym bound,
    λ s' r. (
      record z { at = z.at + 1; answer = Some r; first_slot = None; second_slot = None },
      without_fresh s',
      refl,
      record { store = refl; bound = sym bound; placed = let e : z.at + 1 ≡ position_of u.body i + 4 = omega arith in summing p l unit by_second a b n r found refl e saved refl },
    ),
  )

  call_met : (left : Value) → S.value_of y.bound s l ≡ left → (ta : Tied) → S.tie y.bound s s.height a ≡ ta → (tb : Tied) → S.tie y.bound s (s.height + 1) b ≡ tb →
      Meets (upper_couple j u) tt x s (length (lowered u)) (S.then_value left (λ n. S.then_tied ta (λ c v. S.then_tied tb (λ d w.
      Calls (record { at = i; bound = y.bound; doing = Awaits n }) (with_fresh v w s) (record { unit = unit; by_second = by_second }) (record { first = c; second = d })))))
  call_met (Bad f) e ta ea tb eb = λ claimed. absurd claimed
  call_met (Is n) e (Untied f) ea tb eb = λ claimed. absurd claimed
  call_met (Is n) e (Ties c v) ea (Untied f) eb = λ claimed. absurd claimed
  call_met (Is n) e (Ties c v) ea (Ties d w) eb =
      let kept : M.View = record y { at = y.at + 1; saved = Some n } in
      let at_zero : y.at ≡ position_of u.body i + 0 = omega arith in
      let at_one : y.at + 1 ≡ position_of u.body i + 1 = omega arith in
      let keeps : M.middle_language.step (lowered u) y s ≡ Goes kept s =
      step_here y 0 at_zero (omega arith) ∙ ap (λ v. M.then_value v (λ n. M.goes_to (M.with_temporary false n y) (y.at + 1) s)) (atom_value y s l ∙ e) in
      let one = filled false a kept s s.height c v ea in
      let at_two : one.view.at ≡ position_of u.body i + 2 = let h : one.view.at ≡ y.at + 1 + 1 = one.at in omega arith in
      let fills : M.middle_language.step (lowered u) kept s ≡ Goes one.view s = step_here kept 1 at_one (omega arith) ∙ one.goes in
      let eb' : S.tie one.view.bound s (s.height + 1) b ≡ Ties d w = ap (λ g. S.tie g s (s.height + 1) b) one.bound ∙ eb in
      let two = filled true b one.view s (s.height + 1) d w eb' in
      let at_three : two.view.at ≡ position_of u.body i + 3 = let h : two.view.at ≡ one.view.at + 1 = two.at in omega arith in
      let fills' : M.middle_language.step (lowered u) one.view s ≡ Goes two.view s = step_here one.view 2 at_two (omega arith) ∙ two.goes in
      let way = leads_on u x one.view two.view s (suc (suc steps)) (leads_on u x kept one.view s (suc steps) (leads_on u x y kept s steps leads keeps) fills) fills' in
      let within : size_of (stmt.SetCalling p l unit by_second a b) ≤ length (lowered_body u.body u.body) = size_within u.body u.body i (stmt.SetCalling p l unit by_second a b) found in
      let within' : 5 ≤ length (lowered_body u.body u.body) = within in
      let enough : suc (suc (suc steps)) + 2 ≤ length (lowered u) = omega arith in
      met j u x two.view s (suc (suc (suc steps))) 2 (length (lowered u)) way enough (Calls (record { at = i; bound = y.bound; doing = Awaits n }) (with_fresh v w s) (record { unit = unit; by_second = by_second }) (record { first = c; second = d }))
      (call_corresponds n two.view c d v w at_three (two.bound ∙ one.bound) (two.saved ∙ one.saved)
      (tie_stays false a one.view two.view s.height two.bound two.other ∙ one.tied) two.tied)

simple : (j : ℕ) (u : Text) (x y : M.View) (s : Store) (i steps : ℕ) → steps ≤ 1 → Leads u x s steps y → y.at ≡ position_of u.body i →
    (st : Statement) → slice_get u.body i ≡ Some st → size_of st ≡ 1 → Meets (upper_couple j u) tt x s (length (lowered u)) (S.deed (Some st) (record { at = i; bound = y.bound; doing = Begins }) s)
simple j u x y s i steps few leads at st found one =
    let within : size_of st ≤ length (lowered_body u.body u.body) = size_within u.body u.body i st found in
    let enough : steps + 1 ≤ length (lowered u) = omega arith in
    let short : 0 < size_of st = omega arith in
    let there : y.at ≡ position_of u.body i + 0 = omega arith in
    let here : M.middle_language.step (lowered u) y s ≡ M.deed (slice_get (lowered_statement u.body st) 0) y s =
    ap (λ n. M.deed (slice_get (lowered u) n) y s) there ∙ ap (λ o. M.deed o y s) (step_at u i 0 st found short) in
    met j u x y s steps 1 (length (lowered u)) leads enough (S.deed (Some st) (record { at = i; bound = y.bound; doing = Begins }) s)
    (subst (λ e. Corresponds u 1 (S.deed (Some st) (record { at = i; bound = y.bound; doing = Begins }) s) e) (sym here) (one_step u i y s 1 (omega arith) st found one at))

-- a statement met from its first step
from_start : (j : ℕ) (u : Text) (x y : M.View) (s : Store) (i steps : ℕ) → steps ≤ 1 → Leads u x s steps y → y.at ≡ position_of u.body i →
    (o : Option Statement) → slice_get u.body i ≡ o → Meets (upper_couple j u) tt x s (length (lowered u)) (S.deed o (record { at = i; bound = y.bound; doing = Begins }) s)
from_start j u x y s i steps few leads at None found = λ claimed. absurd claimed
from_start j u x y s i steps few leads at (Some (stmt.SetCalling p l unit by_second a b)) found =
    call_met j u x y s i p l unit by_second a b found at steps few leads (S.value_of y.bound s l) refl (S.tie y.bound s s.height a) refl (S.tie y.bound s (s.height + 1) b) refl
from_start j u x y s i steps few leads at (Some (stmt.Set p l r)) found = simple j u x y s i steps few leads at (stmt.Set p l r) found refl
from_start j u x y s i steps few leads at (Some (stmt.Unless p n)) found = simple j u x y s i steps few leads at (stmt.Unless p n) found refl
from_start j u x y s i steps few leads at (Some (stmt.GoTo n)) found = simple j u x y s i steps few leads at (stmt.GoTo n) found refl
from_start j u x y s i steps few leads at (Some (stmt.Give o)) found = simple j u x y s i steps few leads at (stmt.Give o) found refl
from_start j u x y s i steps few leads at (Some stmt.Stop) found = simple j u x y s i steps few leads at stmt.Stop found refl

-- the answered call puts the sum
sum_met : (j : ℕ) (u : Text) (x : M.View) (s : Store) (i : ℕ) (p : Place) (l : Operand) (unit : ℕ) (by_second : Bool) (a b : Argument) (n r : ℕ) →
    slice_get u.body i ≡ Some (stmt.SetCalling p l unit by_second a b) → x.at ≡ position_of u.body i + 4 → x.saved ≡ Some n → x.answer ≡ Some r →
    Meets (upper_couple j u) tt x s (length (lowered u)) (S.deed (Some (stmt.SetCalling p l unit by_second a b)) (record { at = i; bound = x.bound; doing = Sums n r }) s)
sum_met j u x s i p l unit by_second a b n r found at saved answer =
    let within : size_of (stmt.SetCalling p l unit by_second a b) ≤ length (lowered_body u.body u.body) = size_within u.body u.body i (stmt.SetCalling p l unit by_second a b) found in
    let within' : 5 ≤ length (lowered_body u.body u.body) = within in
    let after : position_of u.body (i + 1) ≡ position_of u.body i + 5 = next_position u.body i (stmt.SetCalling p l unit by_second a b) found in
    let next : x.at + 1 ≡ position_of u.body (i + 1) = omega arith in
    let enough : 0 + 1 ≤ length (lowered u) = omega arith in
    let here : M.middle_language.step (lowered u) x s ≡ M.then_cell (cell_of x.bound p) (λ c. M.goes_to x (x.at + 1) (set_cell c (n + r) s)) =
    ap (λ k. M.deed (slice_get (lowered u) k) x s) at
    ∙ ap (λ o. M.deed o x s) (step_at u i 4 (stmt.SetCalling p l unit by_second a b) found (omega arith))
    ∙ ap (λ y. M.then_value (defined y) (λ n. M.then_value (defined x.answer) (λ r. M.then_cell (cell_of x.bound p) (λ c. M.goes_to x (x.at + 1) (set_cell c (n + r) s))))) saved
    ∙ ap (λ y. M.then_value (defined y) (λ r. M.then_cell (cell_of x.bound p) (λ c. M.goes_to x (x.at + 1) (set_cell c (n + r) s)))) answer in
    met j u x x s 0 1 (length (lowered u)) (leads_nowhere u x s) enough (S.deed (Some (stmt.SetCalling p l unit by_second a b)) (record { at = i; bound = x.bound; doing = Sums n r }) s)
    (subst (λ e. Corresponds u 1 (S.deed (Some (stmt.SetCalling p l unit by_second a b)) (record { at = i; bound = x.bound; doing = Sums n r }) s) e) (sym here)
    (put_corresponds u i x s 1 (omega arith) (cell_of x.bound p) (n + r) (Sums n r) next))

-- the source step from its view, given how the views are placed
placed_met : (j : ℕ) (u : Text) (v : S.View) (x : M.View) (s : Store) → Placed u v x →
    Meets (upper_couple j u) tt x s (length (lowered u)) (S.deed (slice_get u.body v.at) (record { at = v.at; bound = x.bound; doing = v.doing }) s)
placed_met j u v x s (ready begins at) =
    subst (λ d. Meets (upper_couple j u) tt x s (length (lowered u)) (S.deed (slice_get u.body v.at) (record { at = v.at; bound = x.bound; doing = d }) s)) (sym begins)
    (from_start j u x x s v.at 0 (omega arith) (leads_nowhere u x s) at (slice_get u.body v.at) refl)
placed_met j u v x s (entering begins at start) =
    let y : M.View = record x { at = (if x.by_second then position_of u.body u.second else 1) } in
    let selects : M.middle_language.step (lowered u) x s ≡ Goes y s =
    ap (λ n. M.deed (slice_get (lowered u) n) x s) at ∙ ap (λ n. M.goes_to x n s) (chosen x.by_second) in
    let there : y.at ≡ position_of u.body v.at = chosen' x.by_second ∙ ap (position_of u.body) (sym start) in
    subst (λ d. Meets (upper_couple j u) tt x s (length (lowered u)) (S.deed (slice_get u.body v.at) (record { at = v.at; bound = x.bound; doing = d }) s)) (sym begins)
    (from_start j u x y s v.at 1 (omega arith) (leads_on u x x y s 0 (leads_nowhere u x s) selects) there (slice_get u.body v.at) refl)
  where
    chosen : (q : Bool) → (if q then position_of u.body u.second else x.at + 1) ≡ (if q then position_of u.body u.second else 1)
    chosen true = refl
    chosen false = let h : x.at ≡ 0 = at in omega arith

    chosen' : (q : Bool) → (if q then position_of u.body u.second else 1) ≡ position_of u.body (if q then u.second else 0)
    chosen' true = refl
    chosen' false = sym (first_position u.body)
placed_met j u v x s (summing p l unit by_second a b n r found sums at saved answer) =
    subst (λ d. Meets (upper_couple j u) tt x s (length (lowered u)) (S.deed (slice_get u.body v.at) (record { at = v.at; bound = x.bound; doing = d }) s)) (sym sums)
    (subst (λ o. Meets (upper_couple j u) tt x s (length (lowered u)) (S.deed o (record { at = v.at; bound = x.bound; doing = Sums n r }) s)) (sym found)
    (sum_met j u x s v.at p l unit by_second a b n r found at saved answer))

-- the first layer's local simulation
pub upper_simulates : (j : ℕ) (u : Text) → Local (upper_couple j u)
upper_simulates j u = record {
  starts = λ μ s n b m k c houses idle passed. record {
    view = record { at = 0; bound = c; by_second = k.by_second; saved = None; answer = None; first_slot = None; second_slot = None };
    shared = m;
    starts = refl;
    matched = record { store = passed.0; bound = passed.2; placed = entering refl refl (ap (λ n. if n.by_second then u.second else 0) passed.1) };
  };
  refuses = λ n b s x e claimed. claimed;
  follows = λ μ v s x m paired.
      subst (λ m. Meets (upper_couple j u) tt x m (length (lowered u)) (S.deed (slice_get u.body v.at) v s)) paired.store
      (subst (λ b. Meets (upper_couple j u) tt x s (length (lowered u)) (S.deed (slice_get u.body v.at) (record { at = v.at; bound = b; doing = v.doing }) s)) (sym paired.bound)
      (placed_met j u v x s paired.placed));
}
