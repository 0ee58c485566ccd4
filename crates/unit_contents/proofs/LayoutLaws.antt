-- Labels, arms and loops by the positions of steps: one more, and the whole.
use Rattle.std.specs.Prelude.{◌≡◌, ℕ, zero, suc, ◌+◌, ◌-◌, ◌<◌, ◌≤◌, nat_eq, Bool, true, false, ◌&&◌, ◌||◌, List, [], ◌∷◌, map, length, position, Option, Some, None, is_none, slice_get, if◌then◌else◌}
use Rattle.std.specs.List.{list_any}
use Rattle.std.specs.Option.{SomeIff}
use Rattle.std.proofs.Common.{refl, ap, sym, ◌∙◌, subst, take, drop, get_or, ⊎_elim, arith}
use Rattle.std.proofs.lemmas.Bool.{cases_lt, lt-ltb, le-ltb}
use Rattle.std.proofs.lemmas.List.{drop-map, drop_all, drop_more, take_all, length-drop, length-map, get_or_past}
use Rattle.std.proofs.lemmas.Option.{slice_get_past, unwrap_or-slice_get}
use Rattle.f_tree.specs.Facts.{Facts}
use Rattle.lowered_tree.specs.l_core.Pures as core
use Rattle.lowered_tree.specs.l_core.Steps.{Unless, AgainIf}
use Rattle.lowered_tree.specs.l_core.Steps as acts
use Rattle.lowered_tree.specs.declared.pures.Pure.{Pure}
use Rattle.lowered_tree.specs.declared.steps.Step.{Step}
use Rattle.lowered_tree.specs.declared.steps.Step.TheVariants as step
use Rattle.lowered_tree.specs.Shapes.{pure_of, step_of, steps_of}
use Rattle.lowered_text.specs.declared.text.LoweredText.{LoweredText}
use Rattle.lowered_text.specs.declared.text.Marked.{Marked}
use Rattle.lowered_text.specs.Texts.{mark_of, marked_of}
use Rattle.named_items.specs.declared.layout.Layout.{Layout}
use Rattle.main_translation.specs.Outlined.{labels_in, label_before, whiles_in, name_by, label_at, passes_arms, opens_loop, turn_of, opens_once, goes_back_by, turn_behind, loop_at}
use Rattle.unit_contents.specs.Tables.{text_of, place_in, AreNames, is_opening_by, opens_by, AreOpenings, AreArms, turn_by, turn_opened, AreTurns, AreLaidOut}
use Rattle.unit_contents.proofs.Lists.{flat_read}
use Rattle.unit_contents.proofs.TargetLaws.{or_none, equal_either_way}

-- ## Labels

abbrev pub own_name : LoweredText → ℕ → Option (List ℕ)
own_name t n = name_by (label_before (place_in t) n (labels_in (steps_of t.steps.items))) (position (nat_eq n) (whiles_in (map marked_of t.marks.items)))

-- the labels of the positions before one
pub record AreNamedTo (t : LoweredText) (i : ℕ) (names : List (Option (List ℕ))) : Type 0 where
  pub size : length names ≡ i
  pub told : (n : ℕ) → n < length names → get_or names n None ≡ own_name t n

pub names_end : (t : LoweredText) (i : ℕ) (names : List (Option (List ℕ))) → i ≡ length t.steps.items → AreNamedTo t i names → AreNames t names
unfolding label_at
names_end t i names all known =
    let size : length names ≡ length t.steps.items = known.size ∙ all in
    let steps : length (steps_of t.steps.items) ≡ length t.steps.items = length-map t.steps.items step_of in
    record {
      size = size;
      told = λ c begins n.
          ⊎_elim
          (λ (low : n < length names). known.told n low ∙ sym (ap (λ b. if b then own_name t n else None) (lt-ltb n (length (steps_of t.steps.items)) (omega (arith, size, steps, low)))))
          (λ (high : length names ≤ n).
          get_or_past names n None high ∙ sym (ap (λ b. if b then own_name t n else None) (le-ltb n (length (steps_of t.steps.items)) (omega (arith, size, steps, high)))))
          (cases_lt n (length names));
    }

-- ## Arms

pub passes-Skip : (s : Step) (m : ℕ) → s ≡ step.Skip m → true ≡ passes_arms (Some (step_of s))
unfolding passes_arms
passes-Skip s m is = sym (ap (λ r. passes_arms (Some (step_of r))) is)

pub passes-other : (s : Step) → ((m : ℕ) → s ≡ step.Skip m → ⊥) → false ≡ passes_arms (Some (step_of s))
unfolding passes_arms
passes-other (step.Skip m) other = absurd (other m refl)
passes-other s other = refl

pub ruleset passing_forms = (passes-Skip, passes-other)

abbrev pub own_arm : List Step → List (Option (List ℕ)) → ℕ → Bool
own_arm steps names n = passes_arms (slice_get (steps_of steps) n) && is_none (get_or names n None)

pub record AreArmsTo (steps : List Step) (names : List (Option (List ℕ))) (i : ℕ) (arms : List Bool) : Type 0 where
  pub size : length arms ≡ i
  pub told : (n : ℕ) → n < length arms → get_or arms n false ≡ own_arm steps names n

-- ## Where loops open

pub opening_noted : (once : Bool) (marked : Marked) (n : ℕ) (b : Bool) → is_opening_by once (mark_of marked.mark) ≡ true → (b || nat_eq n marked.at) ≡ (b || opens_by once n (marked_of marked))
unfolding marked_of
opening_noted once marked n b opens = ap (λ t. b || t) (equal_either_way n marked.at ∙ sym (ap (λ t. t && nat_eq marked.at n) opens))

pub opening_kept : (once : Bool) (marked : Marked) (n : ℕ) (b : Bool) → is_opening_by once (mark_of marked.mark) ≡ false → b ≡ (b || opens_by once n (marked_of marked))
unfolding marked_of
opening_kept once marked n b opens = sym (ap (λ t. b || (t && nat_eq marked.at n)) opens ∙ or_none b)

-- the loops that the marks before one open are noted
pub record AreOpenedTo (t : LoweredText) (once : Bool) (i : ℕ) (table : List Bool) : Type 0 where
  pub size : length table ≡ length t.steps.items
  pub noted : (n : ℕ) → n < length table
      → (get_or table n false || list_any (opens_by once n) (map marked_of (drop i t.marks.items))) ≡ list_any (opens_by once n) (map marked_of t.marks.items)

-- ## Turns

turn_by_size : (p : core.Pure) (n : ℕ) (turn : Option ℕ) → SomeIff turn (2 ≤ n) (n - 2) → turn ≡ turn_of (Some (Unless p n))
unfolding turn_of
turn_by_size p zero None h = refl
turn_by_size p zero (Some m) h = absurd (let low : 2 ≤ 0 = h.0 in omega arith)
turn_by_size p (suc zero) None h = refl
turn_by_size p (suc zero) (Some m) h = absurd (let low : 2 ≤ 1 = h.0 in omega arith)
turn_by_size p (suc (suc n)) None h = absurd (h (omega arith))
turn_by_size p (suc (suc n)) (Some m) h = ap Some (let is : m ≡ suc (suc n) - 2 = h.1 in omega (arith, is))

pub turn-Unless : (s : Step) (p : Pure) (n : ℕ) (turn : Option ℕ) → s ≡ step.Unless p n → SomeIff turn (2 ≤ n) (n - 2) → turn ≡ turn_of (Some (step_of s))
turn-Unless s p n turn is found = turn_by_size (pure_of p) n turn found ∙ sym (ap (λ r. turn_of (Some (step_of r))) is)

pub turn-other : (s : Step) → ((p : Pure) (n : ℕ) → s ≡ step.Unless p n → ⊥) → None ≡ turn_of (Some (step_of s))
unfolding turn_of
turn-other (step.Unless p n) other = absurd (other p n refl)
turn-other s other = refl

-- steps that test behind others
pub back-AgainIf : (s : Step) (p : Pure) (m count : ℕ) → s ≡ step.AgainIf p m → nat_eq m count ≡ goes_back_by count (step_of s)
unfolding goes_back_by
back-AgainIf s p m count is = sym (ap (λ r. goes_back_by count (step_of r)) is)

pub back-other : (s : Step) (count : ℕ) → ((p : Pure) (m : ℕ) → s ≡ step.AgainIf p m → ⊥) → false ≡ goes_back_by count (step_of s)
unfolding goes_back_by
back-other (step.AgainIf p m) count other = absurd (other p m refl)
back-other s count other = refl

pub ruleset back_forms = (back-AgainIf, back-other)

-- what is looked for among steps is looked for among those from one on
abbrev pub IsSought : List Step → ℕ → Type 0
IsSought steps i = turn_behind 0 (steps_of steps) ≡ turn_behind i (steps_of (drop i steps))

behind_one : (count : ℕ) (st : acts.Step) (later : List acts.Step) (b : Bool) → goes_back_by count st ≡ b → turn_behind count (st ∷ later) ≡ (if b then Some count else turn_behind (suc count) later)
unfolding turn_behind
behind_one count st later b is = ap (λ c. if c then Some count else turn_behind (suc count) later) is

behind_none : (count : ℕ) → turn_behind count [] ≡ None
unfolding turn_behind
behind_none count = refl

sought_from : (steps : List Step) (i : ℕ) (s : Step) → i < length steps → s ≡ get_or steps i s → IsSought steps i → (b : Bool) → b ≡ goes_back_by i (step_of s)
    → turn_behind 0 (steps_of steps) ≡ (if b then Some i else turn_behind (suc i) (steps_of (drop (i + 1) steps)))
sought_from steps i s low at known b is =
    known ∙ ap (λ xs. turn_behind i (steps_of xs)) (drop_more steps i s low ∙ ap (λ x. x ∷ drop (i + 1) steps) (sym at)) ∙ behind_one i (step_of s) (steps_of (drop (i + 1) steps)) b (sym is)

pub sought_found : (steps : List Step) (i : ℕ) (s : Step) (b : Bool) → i < length steps → s ≡ get_or steps i s → IsSought steps i → b ≡ goes_back_by i (step_of s) → b ≡ true → Some i ≡ turn_behind 0 (steps_of steps)
sought_found steps i s b low at known is holds = sym (sought_from steps i s low at known b is ∙ ap (λ c. if c then Some i else turn_behind (suc i) (steps_of (drop (i + 1) steps))) holds)

pub sought_more : (steps : List Step) (i : ℕ) (s : Step) (b : Bool) → i < length steps → s ≡ get_or steps i s → IsSought steps i → b ≡ goes_back_by i (step_of s) → b ≡ false → IsSought steps (i + 1)
sought_more steps i s b low at known is fails =
    let one : suc i ≡ i + 1 = omega arith in
    sought_from steps i s low at known b is ∙ ap (λ c. if c then Some i else turn_behind (suc i) (steps_of (drop (i + 1) steps))) fails
    ∙ ap (λ k. turn_behind k (steps_of (drop (i + 1) steps))) one

pub sought_none : (steps : List Step) (i : ℕ) → length steps ≤ i → IsSought steps i → None ≡ turn_behind 0 (steps_of steps)
sought_none steps i end known = sym (known ∙ ap (λ xs. turn_behind i (steps_of xs)) (drop_all i steps end) ∙ behind_none i)

-- the turn of a loop that opens at a step
pub opened_past : (steps : List Step) (openings onces : List Bool) (n : ℕ) → length openings ≡ length steps → length onces ≡ length steps → length steps ≤ n → None ≡ turn_opened steps openings onces n
opened_past steps openings onces n size size' past =
    sym (λ k. turn_by (get_or_past openings n false (omega (arith, size, past)) k) (get_or_past onces n false (omega (arith, size', past)) k) (turn_of (slice_get (steps_of steps) n)) (turn_behind 0 (drop n (steps_of steps))))

pub opened_tested : (steps : List Step) (openings onces : List Bool) (n : ℕ) (turn : Option ℕ) → get_or openings n false ≡ true → turn ≡ turn_of (slice_get (steps_of steps) n) → turn ≡ turn_opened steps openings onces n
opened_tested steps openings onces n turn opens is =
    is ∙ sym (ap (λ b. turn_by b (get_or onces n false) (turn_of (slice_get (steps_of steps) n)) (turn_behind 0 (drop n (steps_of steps)))) opens)

pub opened_behind : (steps : List Step) (openings onces : List Bool) (n : ℕ) (turn : Option ℕ) → get_or openings n false ≡ false → get_or onces n false ≡ true → turn ≡ turn_behind 0 (steps_of (take (length steps - n) (drop n steps)))
    → turn ≡ turn_opened steps openings onces n
opened_behind steps openings onces n turn shut opens is =
    let all : take (length steps - n) (drop n steps) ≡ drop n steps = (let left = length-drop n steps in take_all (length steps - n) (drop n steps) (omega (arith, left))) in
    is ∙ ap (λ ss. turn_behind 0 (steps_of ss)) all ∙ ap (turn_behind 0) (sym (drop-map step_of n steps))
    ∙ sym (λ k. turn_by (shut k) (opens k) (turn_of (slice_get (steps_of steps) n)) (turn_behind 0 (drop n (steps_of steps))))

pub opened_none : (steps : List Step) (openings onces : List Bool) (n : ℕ) → get_or openings n false ≡ false → get_or onces n false ≡ false → None ≡ turn_opened steps openings onces n
opened_none steps openings onces n shut shut' = sym (λ k. turn_by (shut k) (shut' k) (turn_of (slice_get (steps_of steps) n)) (turn_behind 0 (drop n (steps_of steps))))

pub ruleset opened_forms = (opened_past, opened_tested, opened_behind, opened_none)

pub record AreTurnsTo (steps : List Step) (openings onces : List Bool) (i : ℕ) (turns : List (Option ℕ)) : Type 0 where
  pub size : length turns ≡ i
  pub told : (n : ℕ) → n < length turns → get_or turns n None ≡ turn_opened steps openings onces (suc n)

-- ## The whole

abbrev no_number : Option ℕ
no_number = None

turn_none : turn_of None ≡ None
unfolding turn_of
turn_none = refl

passes_none : passes_arms None ≡ false
unfolding passes_arms
passes_none = refl

no_turn : (b c : Bool) → turn_by b c None None ≡ no_number
no_turn true c = refl
no_turn false true = refl
no_turn false false = refl

past_steps : (steps : List Step) (n : ℕ) → length steps ≤ n → slice_get (steps_of steps) n ≡ None
past_steps steps n past = slice_get_past (steps_of steps) n (omega (arith, length-map steps step_of, past))

-- whether marks open loops at a position
abbrev opened_by : LoweredText → Bool → ℕ → Bool
opened_by t once n = list_any (opens_by once n) (map marked_of t.marks.items)

loop_by : (t : LoweredText) (openings onces : List Bool) (n : ℕ) → AreOpenings t false openings → AreOpenings t true onces
    → turn_opened t.steps.items openings onces n
    ≡ turn_by (opened_by t false n) (opened_by t true n) (turn_of (slice_get (steps_of t.steps.items) n)) (turn_behind 0 (drop n (steps_of t.steps.items)))
loop_by t openings onces n known known' =
    let tested = turn_of (slice_get (steps_of t.steps.items) n) in
    let behind = turn_behind 0 (drop n (steps_of t.steps.items)) in
    ⊎_elim (λ (low : n < length openings). (λ k. turn_by (known.told n low k) (known'.told n (omega (arith, low, known.size, known'.size)) k) tested behind))
    (λ (high : length openings ≤ n).
    let past : length t.steps.items ≤ n = omega (arith, known.size, high) in
    let none : tested ≡ None = ap turn_of (past_steps t.steps.items n past) ∙ turn_none in
    let none' : behind ≡ None = ap (turn_behind 0) (drop_all n (steps_of t.steps.items) (omega (arith, length-map t.steps.items step_of, past))) ∙ behind_none 0 in
    (λ k. turn_by (get_or openings n false) (get_or onces n false) (none k) (none' k)) ∙ no_turn (get_or openings n false) (get_or onces n false)
    ∙ sym ((λ k. turn_by (opened_by t false n) (opened_by t true n) (none k) (none' k)) ∙ no_turn (opened_by t false n) (opened_by t true n)))
    (cases_lt n (length openings))

loop_is : (t : LoweredText) (c : Facts) (begins : ℕ → ℕ) (n : ℕ)
    → turn_by (opened_by t false (suc n)) (opened_by t true (suc n)) (turn_of (slice_get (steps_of t.steps.items) (suc n))) (turn_behind 0 (drop (suc n) (steps_of t.steps.items))) ≡ loop_at (text_of t c begins) n
unfolding loop_at opens_loop opens_once
loop_is t c begins n = refl

pub laid_out : (t : LoweredText) (ss : List Step) (names : List (Option (List ℕ))) (openings onces : List Bool) (layout : Layout) → ss ≡ t.steps.items → names ≡ layout.labels.items
    → AreNames t layout.labels.items → AreArms ss names layout.arms.items → AreOpenings t false openings → AreOpenings t true onces → AreTurns ss openings onces layout.loops.items → AreLaidOut t layout
laid_out t ss names openings onces layout same named known arms opened opened' turns =
    let arms' : AreArms t.steps.items layout.labels.items layout.arms.items
    = subst (λ xs. AreArms t.steps.items xs layout.arms.items) named (subst (λ xs. AreArms xs names layout.arms.items) same arms) in
    let turns' : AreTurns t.steps.items openings onces layout.loops.items = subst (λ xs. AreTurns xs openings onces layout.loops.items) same turns in
    record {
      labels = λ c begins n. flat_read layout.labels.items n ∙ known.told c begins n;
      arms = λ c begins n.
          unwrap_or-slice_get layout.arms.items n false
          ∙ ⊎_elim
          (λ (low : n < length layout.arms.items).
          arms'.told n low ∙ ap (λ o. passes_arms (slice_get (steps_of t.steps.items) n) && is_none o) (known.told c begins n))
          (λ (high : length layout.arms.items ≤ n).
          get_or_past layout.arms.items n false high
          ∙ sym (ap (λ o. passes_arms o && is_none (label_at (text_of t c begins) n)) (past_steps t.steps.items n (omega (arith, arms'.size, high))) ∙ ap (λ b. b && is_none (label_at (text_of t c begins) n)) passes_none))
          (cases_lt n (length layout.arms.items));
      loops = λ c begins n.
          flat_read layout.loops.items n
          ∙ ⊎_elim (λ (low : n < length layout.loops.items). turns'.told n low)
          (λ (high : length layout.loops.items ≤ n).
          get_or_past layout.loops.items n None high
          ∙ opened_past t.steps.items openings onces (suc n) opened.size opened'.size (omega (arith, turns'.size, high)))
          (cases_lt n (length layout.loops.items))
          ∙ loop_by t openings onces (suc n) opened opened' ∙ loop_is t c begins n;
    }
