-- One part of a walk through a format.
use Rattle.std.proofs.Common.{◌≡◌, ◌==◌, Bool, true, false, nat_le, if◌then◌else◌, Option, None, Some, unwrap_or, List, [], ◌∷◌, ◌++◌, ℕ, zero, suc, ◌+◌, ◌-◌, ◌≤◌, ◌<◌, max, length, length-drop, drop, refl, sym, ap, ◌∙◌, subst, append_assoc, append-nil, ◌⊎◌, inl, inr, arith}
use Rattle.std.proofs.Math.ListN.{drop_of_length-le}
use Rattle.std.proofs.lemmas.Bool.{cases_lt}
use Rattle.edit_meaning.specs.Formats as formats
use Rattle.edit_meaning.specs.Formats.{Format, Empty, Item, Act, Stop, Served, served, led_by, has_item, before_more, copies, pass, last_group, closing}
use Rattle.edit_meaning.specs.FormatGrammar.{seen, Joint, Opened as OpenedJoint, Wanted, Behind, SpellsList, SpellsFormat, left_parenthesis}
use Rattle.edit_rules.specs.FormatParts as parts
use Rattle.edit_rules.specs.FormatParts.{Parted, giving, number_of, sign_of, letter_part, part_of}
use Rattle.edit_rules.specs.FormatScans.{weight_of, weight_in, heaviest, Scanned}
use Rattle.edit_rules.specs.PartPlaces.{edit_in, giving_if, part_in, parted_in}
use Rattle.edit_rules.specs.declared.format_parts.Part as code_part
use Rattle.edit_rules.specs.declared.format_parts.Parted as code_parted
use Rattle.edit_meaning.specs.Transfers.{for_next, turned}
use Rattle.edit_rules.specs.Walks.{group_of, Below, outermost, within, Here, fresh, begun, Stands, reach_by, reach, GivenItem, GivenNone, Given, SameFor, GoesOn, StandsIn}
use Rattle.edit_rules.specs.declared.edits.Edit as code
use Rattle.edit_rules.specs.declared.edits.Edit.TheVariants as edit
use Rattle.edit_rules.specs.declared.format_parts.Part.TheVariants as part
use Rattle.edit_rules.specs.declared.format_walk.Group.{Group}
use Rattle.edit_rules.specs.declared.format_walk.FormatWalk.{FormatWalk}
use Rattle.edit_rules.proofs.FormatReads.{Reads, closes, joins, gives, opens, reads, spelled_some}
use Rattle.edit_rules.proofs.FormatScanSteps.{heaviest-append, heaviest-repeated}
use Rattle.edit_rules.proofs.PartSteps.{unlike}
use Rattle.edit_rules.proofs.EditLaws.{served_some}

part_is : {a b : Parted} → a ≡ b → a.part ≡ b.part
part_is e = ap (λ (p : Parted). p.part) e

behind_is : {a b : Parted} → a ≡ b → a.behind ≡ b.behind
behind_is e = ap (λ (p : Parted). p.behind) e

-- the list in which the walk stands is shorter
record Rebased (text : List ℕ) (groups : List Group) (depth : ℕ) (current : Format) (after : List ℕ) (outer : List formats.Edit) (top : Format) : Type 0 where
  base : Format
  below : Below text groups base depth current after outer
  same : last_group base ≡ last_group top

rebased : {text : List ℕ} {groups : List Group} {top : Format} {depth : ℕ} {current : Format} {after : List ℕ} {outer : List formats.Edit}
    → Below text groups top depth current after outer → (later : Format) → last_group later ≡ last_group current → Rebased text groups depth later after outer top
rebased (outermost e r) later g = record { base = later; below = outermost refl r; same = g ∙ ap last_group e }
rebased {top = top} (within inner next behind outer a b c d e f g) later h = record { base = top; below = within inner next behind outer a b c d e f g; same = refl }

-- the walk is before a part of its list
placed : {text : List ℕ} {again rest : List formats.Edit} {walk : FormatWalk} (s : Stands text again walk rest) (place : ℕ) (joint : Joint) (current : Format)
    → place ≤ length text → SpellsList (suc walk.depth) joint current (drop place text) s.after → last_group current ≡ last_group s.current
    → Stands text again (record walk { place = place; left = 0 }) (pass current ++ s.outer)
placed {text = text} {walk = walk} s place joint current w spells groups =
    let r : Rebased text walk.groups walk.depth current s.after s.outer s.top = rebased s.below current groups in
    record {
      within = w;
      begins_within = s.begins_within;
      deep = s.deep;
      current = current;
      top = r.base;
      after = s.after;
      here = pass current;
      outer = s.outer;
      stands = fresh joint refl spells refl;
      below = r.below;
      whole = refl;
      reverted = s.reverted;
      joint = s.joint;
      end = s.end;
      spells = s.spells;
      target = s.target;
      goes_on = s.goes_on ∙ ap (λ g. unwrap_or g s.reverted) (sym r.same);
      goes_round = s.goes_round;
      repeats = s.repeats;
    }

-- what is to come is the same where it is the same list
same_for : (wants : Bool) (again rest left : List formats.Edit) → left ≡ rest → SameFor wants again rest left
same_for true again rest left e = ap (for_next again) e
same_for false again rest left e = e

reaches_less : (text : List ℕ) (place behind : ℕ) (here later : List formats.Edit) → place < behind → behind ≤ length text → nat_le 2 (heaviest later) ≡ nat_le 2 (heaviest here)
    → suc (reach_by text behind later) ≤ reach_by text place here
reaches_less text place behind here later b w e =
    subst (λ q. suc (reach_by text behind later) ≤ (length text - place) + (if q then 0 else length text)) e
    (shorter (if nat_le 2 (heaviest later) then 0 else length text))
  where
    shorter : (n : ℕ) → suc ((length text - behind) + n) ≤ (length text - place) + n
    shorter n = omega arith

-- the walk before a part that only joins others
record Joined {text : List ℕ} {again rest : List formats.Edit} {walk : FormatWalk} (s : Stands text again walk rest) (behind : List ℕ) : Type 0 where
  joint : Joint
  spells : SpellsList (suc walk.depth) joint s.current behind s.after
  here : s.here ≡ pass s.current

module _ (text : List ℕ) (again rest : List formats.Edit) (walk : FormatWalk) (s : Stands text again walk rest) (behind : ℕ) where
  joined_by : {here : List formats.Edit} → (joint : Joint) → part_of (drop walk.place text) ≡ record { part = parts.Joint; behind = drop behind text } → here ≡ pass s.current
      → s.here ≡ here → Reads (suc walk.depth) s.current (drop walk.place text) s.after → Joined s (drop behind text)
  joined_by j p h k (closes e _) = absurd (let q : parts.Closing ≡ parts.Joint = sym (part_is e) ∙ part_is p in cc)
  joined_by j p h k (joins joint middle e later) = record {
    joint = joint;
    spells = subst (λ t. SpellsList (suc walk.depth) joint s.current t s.after) (sym (behind_is e) ∙ behind_is p) later;
    here = k ∙ h;
  }
  joined_by j p h k (gives n given later joint middle e _ _ _ _) = absurd (let q : parts.Giving n given ≡ parts.Joint = sym (part_is e) ∙ part_is p in cc)
  joined_by j p h k (opens n inner later inside middle e _ _ _ _ _) = absurd (let q : parts.Opening n ≡ parts.Joint = sym (part_is e) ∙ part_is p in cc)

  joined_here : {here : List formats.Edit} → s.here ≡ here → part_of (drop walk.place text) ≡ record { part = parts.Joint; behind = drop behind text }
      → Here text walk.place walk.left walk.depth s.current s.after here → Joined s (drop behind text)
  joined_here k p (fresh joint l spells h) = joined_by joint p h k (reads spells)
  joined_here k p (begun count given joint middle _ _ e _ _) = absurd (let q : parts.Giving count given ≡ parts.Joint = sym (part_is e) ∙ part_is p in cc)

  pub joint_on : (wants : Bool) → walk.place < behind → behind ≤ length text → part_of (drop walk.place text) ≡ record { part = parts.Joint; behind = drop behind text }
      → GoesOn wants text again rest (reach s) (record walk { place = behind; left = 0 })
  unfolding placed
  joint_on wants b w p =
      let j : Joined s (drop behind text) = joined_here refl p s.stands in
      record {
        left = pass s.current ++ s.outer;
        stands = placed s behind j.joint s.current w j.spells refl;
        same = same_for wants again rest (pass s.current ++ s.outer) (ap (λ (h : List formats.Edit). h ++ s.outer) (sym j.here) ∙ sym s.whole);
        less = reaches_less text walk.place behind s.here (pass s.current) b w (ap (λ h. nat_le 2 (heaviest h)) (sym j.here));
      }

-- the walk before an edit
pub record Before {text : List ℕ} {again rest : List formats.Edit} {walk : FormatWalk} (s : Stands text again walk rest) (times : ℕ) (given : formats.Edit) (behind : List ℕ) : Type 0 where
  pub later : Format
  pub joint : Joint
  pub copies_left : ℕ
  some : 1 ≤ copies_left
  is_left : walk.left ≡ 0 → copies_left ≡ times
  is_begun : 1 ≤ walk.left → (copies_left ≡ walk.left) × (2 ≤ weight_of given)
  spells : SpellsList (suc walk.depth) joint later behind s.after
  here : s.here ≡ copies copies_left (given ∷ []) ++ pass later
  groups : last_group later ≡ last_group s.current

module _ (text : List ℕ) (again rest : List formats.Edit) (walk : FormatWalk) (s : Stands text again walk rest) (times : ℕ) (given : formats.Edit) (behind : List ℕ)
    (p : part_of (drop walk.place text) ≡ giving times given behind) where
  before_by : walk.left ≡ 0 → s.here ≡ pass s.current → Reads (suc walk.depth) s.current (drop walk.place text) s.after → Before s times given behind
  before_by l k (closes e _) = absurd (let q : parts.Closing ≡ parts.Giving times given = sym (part_is e) ∙ part_is p in cc)
  before_by l k (joins joint middle e later) = absurd (let q : parts.Joint ≡ parts.Giving times given = sym (part_is e) ∙ part_is p in cc)
  before_by l k (gives n this later joint middle e some spells same groups) =
      let q : parts.Giving n this ≡ parts.Giving times given = sym (part_is e) ∙ part_is p in
      let f : this ≡ given = cc in
      let g : n ≡ times = cc in
      record {
        later = later;
        joint = joint;
        copies_left = n;
        some = some;
        is_left = λ _. g;
        is_begun = λ h. absurd (omega arith);
        spells = subst (λ t. SpellsList (suc walk.depth) joint later t s.after) (sym (behind_is e) ∙ behind_is p) spells;
        here = k ∙ same ∙ ap (λ z. copies n (z ∷ []) ++ pass later) f;
        groups = sym groups;
      }
  before_by l k (opens n inner later inside middle e _ _ _ _ _) = absurd (let q : parts.Opening n ≡ parts.Giving times given = sym (part_is e) ∙ part_is p in cc)

  before_here : {here : List formats.Edit} → s.here ≡ here → Here text walk.place walk.left walk.depth s.current s.after here → Before s times given behind
  before_here k (fresh joint l spells h) = before_by l (k ∙ h) (reads spells)
  before_here k (begun count this joint middle some heavy e spells h) =
      let q : parts.Giving count this ≡ parts.Giving times given = sym (part_is e) ∙ part_is p in
      let f : this ≡ given = cc in
      record {
        later = s.current;
        joint = joint;
        copies_left = walk.left;
        some = some;
        is_left = λ z. absurd (omega arith);
        is_begun = λ _. (refl, subst (λ z. 2 ≤ weight_of z) f heavy);
        spells = subst (λ t. SpellsList (suc walk.depth) joint s.current t s.after) (sym (behind_is e) ∙ behind_is p) spells;
        here = k ∙ h ∙ ap (λ z. copies walk.left (z ∷ []) ++ pass s.current) f;
        groups = refl;
      }

  pub before : Before s times given behind
  before = before_here refl s.stands

none_left : (n : ℕ) → (1 ≤ n → ⊥) → n ≡ 0
none_left zero h = refl
none_left (suc n) h = absurd (h (omega arith))

stop_light : (n : ℕ) → nat_le 2 (max 1 n) ≡ nat_le 2 n
stop_light n = grind arith

module _ (text : List ℕ) (again rest : List formats.Edit) (walk : FormatWalk) (s : Stands text again walk rest) (behind : ℕ)
    (p : part_of (drop walk.place text) ≡ giving 1 Stop (drop behind text)) where
  stop_once : (b : Before s 1 Stop (drop behind text)) → b.copies_left ≡ 1
  stop_once b =
      b.is_left (none_left walk.left (λ h. let f : 2 ≤ 1 = (b.is_begun h).1 in absurd (omega arith)))

  stop_here : (b : Before s 1 Stop (drop behind text)) → s.here ≡ Stop ∷ pass b.later
  stop_here b = b.here ∙ ap (λ n. copies n (Stop ∷ []) ++ pass b.later) (stop_once b)

  pub colon_on : walk.place < behind → behind ≤ length text → GoesOn true text again rest (reach s) (record walk { place = behind; left = 0 })
  unfolding placed
  colon_on h w =
      let b : Before s 1 Stop (drop behind text) = before text again rest walk s 1 Stop (drop behind text) p in
      record {
        left = pass b.later ++ s.outer;
        stands = placed s behind b.joint b.later w b.spells b.groups;
        same = sym (ap (for_next again) (s.whole ∙ ap (λ (l : List formats.Edit). l ++ s.outer) (stop_here b)));
        less = reaches_less text walk.place behind s.here (pass b.later) h w (sym (ap (λ l. nat_le 2 (heaviest l)) (stop_here b) ∙ stop_light (heaviest (pass b.later))));
      }

  pub colon_done : Given false text again rest walk edit.Done
  colon_done =
      let b : Before s 1 Stop (drop behind text) = before text again rest walk s 1 Stop (drop behind text) p in
      (refl, s, ap closing (s.whole ∙ ap (λ (l : List formats.Edit). l ++ s.outer) (stop_here b)))

-- what is to come begins with an edit
turned_done : (b : Bool) (again : List formats.Edit) (s : Served) → s.unserved ≡ 0 → turned b again s ≡ s
turned_done false again s e = refl
turned_done true again s e = ap (λ u. before_more u s (served 1 again)) e

turned-led : (b : Bool) (again : List formats.Edit) (e : formats.Edit) (u : ℕ) (s : Served) → turned b again (led_by e (record s { unserved = u })) ≡ led_by e (turned b again (record s { unserved = u }))
turned-led false again e u s = refl
turned-led true again e zero s = refl
turned-led true again e (suc u) s = refl

item_next : (again : List formats.Edit) (d : formats.Descriptor) (left : List formats.Edit) → for_next again (Item d ∷ left) ≡ record { edits = Item d ∷ []; unserved = 0; left = left }
item_next again d left = turned_done (has_item again) again (record { edits = Item d ∷ []; unserved = 0; left = left }) refl

act_next : (again : List formats.Edit) (c : formats.Control) (left : List formats.Edit) → for_next again (Act c ∷ left) ≡ led_by (Act c) (for_next again left)
act_next again c left = turned-led (has_item again) again (Act c) (served 1 left).unserved (served 1 left)

-- an edit of a part is an edit of the format, or none
record Real (text : List ℕ) (given : code.Edit) : Type 0 where
  edit : formats.Edit
  is : edit_in text given ≡ Some edit
  weighs : weight_of edit ≡ weight_in given

real : (text : List ℕ) (given : code.Edit) → (weight_in given ≡ 0 → ⊥) → Real text given
real text (edit.Int width least) h = record { edit = _; is = refl; weighs = refl }
real text (edit.Logical width) h = record { edit = _; is = refl; weighs = refl }
real text (edit.Text width) h = record { edit = _; is = refl; weighs = refl }
real text (edit.Literal from to doubled) h = record { edit = _; is = refl; weighs = refl }
real text (edit.Column column) h = record { edit = _; is = refl; weighs = refl }
real text (edit.Left columns) h = record { edit = _; is = refl; weighs = refl }
real text (edit.Right columns) h = record { edit = _; is = refl; weighs = refl }
real text edit.NextRecord h = record { edit = _; is = refl; weighs = refl }
real text (edit.ShowPlus plus) h = record { edit = _; is = refl; weighs = refl }
real text (edit.ZeroBlanks zeros) h = record { edit = _; is = refl; weighs = refl }
real text edit.Done h = absurd (h refl)
real text edit.NoDescriptor h = absurd (h refl)

pub unreal : (text : List ℕ) (times : ℕ) (given : code.Edit) → weight_in given ≡ 0 → part_in text (part.Give times given) ≡ parts.Joint
unreal text times (edit.Int width least) h = absurd (omega arith)
unreal text times (edit.Logical width) h = absurd (omega arith)
unreal text times (edit.Text width) h = absurd (omega arith)
unreal text times (edit.Literal from to doubled) h = absurd (omega arith)
unreal text times (edit.Column column) h = absurd (omega arith)
unreal text times (edit.Left columns) h = absurd (omega arith)
unreal text times (edit.Right columns) h = absurd (omega arith)
unreal text times edit.NextRecord h = absurd (omega arith)
unreal text times (edit.ShowPlus plus) h = absurd (omega arith)
unreal text times (edit.ZeroBlanks zeros) h = absurd (omega arith)
unreal text times edit.Done h = refl
unreal text times edit.NoDescriptor h = refl

-- the walk behind an edit
module _ (text : List ℕ) (again rest : List formats.Edit) (walk : FormatWalk) (s : Stands text again walk rest) (times : ℕ) (given : formats.Edit) (behind : ℕ)
    (b : Before s times given (drop behind text)) where
  last_given : behind ≤ length text → Stands text again (record walk { place = behind; left = 0 }) (pass b.later ++ s.outer)
  last_given w = placed s behind b.joint b.later w b.spells b.groups

  more_given : (m : ℕ) → part_of (drop walk.place text) ≡ giving times given (drop behind text) → 2 ≤ weight_of given
      → Stands text again (record walk { left = suc m }) ((copies (suc m) (given ∷ []) ++ pass b.later) ++ s.outer)
  more_given m p heavy =
      let r : Rebased text walk.groups walk.depth b.later s.after s.outer s.top = rebased s.below b.later b.groups in
      record {
        within = s.within;
        begins_within = s.begins_within;
        deep = s.deep;
        current = b.later;
        top = r.base;
        after = s.after;
        here = copies (suc m) (given ∷ []) ++ pass b.later;
        outer = s.outer;
        stands = begun times given b.joint (drop behind text) (omega arith) heavy p b.spells refl;
        below = r.below;
        whole = refl;
        reverted = s.reverted;
        joint = s.joint;
        end = s.end;
        spells = s.spells;
        target = s.target;
        goes_on = s.goes_on ∙ ap (λ g. unwrap_or g s.reverted) (sym r.same);
        goes_round = s.goes_round;
        repeats = s.repeats;
      }

copies_are : (left n times : ℕ) → (left ≡ 0 → n ≡ times) → (1 ≤ left → n ≡ left) → n ≡ (if left == 0 then times else left)
copies_are zero n times f g = f refl
copies_are (suc left) n times f g = g (omega arith) ∙ sym (ap (λ q. if q then times else suc left) (unlike (suc left) 0 (λ e. absurd (cc))))

item_answer : (text : List ℕ) (again rest left : List formats.Edit) (walk : FormatWalk) (e : code.Edit) (given : formats.Edit) → Stands text again walk left → rest ≡ given ∷ left
    → 2 ≤ weight_of given → GivenItem text again rest walk e (Some given)
item_answer text again rest left walk e (Item d) st eq h = (left, st, ap (for_next again) eq ∙ item_next again d left)
item_answer text again rest left walk e (Act c) st eq h = (left, st, ap (for_next again) eq ∙ act_next again c left)
item_answer text again rest left walk e Stop st eq h = absurd (omega arith)

none_answer : (text : List ℕ) (again rest left : List formats.Edit) (walk : FormatWalk) (e : code.Edit) (given : formats.Edit) → Stands text again walk left → rest ≡ given ∷ left
    → 2 ≤ weight_of given → (weight_of given ≡ 3 → ⊥) → GivenNone text again rest walk e (Some given)
none_answer text again rest left walk e (Item d) st eq h g = absurd (g refl)
none_answer text again rest left walk e (Act c) st eq h g = (left, st, ap closing eq)
none_answer text again rest left walk e Stop st eq h g = absurd (omega arith)

given_answer : (wants : Bool) (text : List ℕ) (again rest left : List formats.Edit) (walk : FormatWalk) (e : code.Edit) (given : formats.Edit) → Stands text again walk left → rest ≡ given ∷ left
    → 2 ≤ weight_of given → (wants ≡ false → weight_of given ≡ 3 → ⊥) → edit_in text e ≡ Some given → Given wants text again rest walk e
given_answer true text again rest left walk e given st eq h g is =
    subst (λ o. GivenItem text again rest walk e o) (sym is) (item_answer text again rest left walk e given st eq h)
given_answer false text again rest left walk e given st eq h g is =
    subst (λ o. GivenNone text again rest walk e o) (sym is) (none_answer text again rest left walk e given st eq h (g refl))

item_closes : (given : formats.Edit) (left : List formats.Edit) → weight_of given ≡ 3 → closing (given ∷ left) ≡ []
item_closes (Item d) left h = refl
item_closes (Act c) left h = absurd (omega arith)
item_closes Stop left h = absurd (omega arith)

heavy_by : (e : code.Edit) → (weight_in e ≡ 0 → ⊥) → 2 ≤ weight_in e
heavy_by (edit.Int width least) h = omega arith
heavy_by (edit.Logical width) h = omega arith
heavy_by (edit.Text width) h = omega arith
heavy_by (edit.Literal from to doubled) h = omega arith
heavy_by (edit.Column column) h = omega arith
heavy_by (edit.Left columns) h = omega arith
heavy_by (edit.Right columns) h = omega arith
heavy_by edit.NextRecord h = omega arith
heavy_by (edit.ShowPlus plus) h = omega arith
heavy_by (edit.ZeroBlanks zeros) h = omega arith
heavy_by edit.Done h = absurd (h refl)
heavy_by edit.NoDescriptor h = absurd (h refl)

heavy_enough : {text : List ℕ} {e : code.Edit} (r : Real text e) → (weight_in e ≡ 0 → ⊥) → 2 ≤ weight_of r.edit
heavy_enough {e = e} r h = subst (λ n. 2 ≤ n) (sym r.weighs) (heavy_by e h)

module _ (text : List ℕ) (again rest : List formats.Edit) (walk : FormatWalk) (s : Stands text again walk rest) (times : ℕ) (e : code.Edit) (behind : ℕ)
    (p : part_of (drop walk.place text) ≡ record { part = part_in text (part.Give times e); behind = drop behind text }) where
  pub give_on : (wants : Bool) → walk.place < behind → behind ≤ length text → weight_in e ≡ 0
      → GoesOn wants text again rest (reach s) (record walk { place = behind; left = 0 })
  give_on wants h w z =
      joint_on text again rest walk s behind wants h w (p ∙ ap (λ q. let r : Parted = record { part = q; behind = drop behind text } in r) (unreal text times e z))

  real_part : (r : Real text e) → part_of (drop walk.place text) ≡ giving times r.edit (drop behind text)
  real_part r = p ∙ ap (λ o. let q : Parted = record { part = giving_if times o; behind = drop behind text } in q) r.is

  first_is : (r : Real text e) (b : Before s times r.edit (drop behind text)) (m : ℕ) → b.copies_left ≡ suc m
      → rest ≡ r.edit ∷ ((copies m (r.edit ∷ []) ++ pass b.later) ++ s.outer)
  first_is r b m n = s.whole ∙ ap (λ (l : List formats.Edit). l ++ s.outer) (b.here ∙ ap (λ k. copies k (r.edit ∷ []) ++ pass b.later) n)

  pub give_done : weight_in e ≡ 3 → Given false text again rest walk edit.Done
  give_done h =
      let r : Real text e = real text e (λ z. absurd (omega arith)) in
      let b : Before s times r.edit (drop behind text) = before text again rest walk s times r.edit (drop behind text) (real_part r) in
      (refl, s, ap closing (first_is r b (b.copies_left - 1) (let n = b.some in omega arith)) ∙ item_closes r.edit _ (r.weighs ∙ h))

  give_by : (wants : Bool) (next : FormatWalk) (r : Real text e) (b : Before s times r.edit (drop behind text)) (n : ℕ) → b.copies_left ≡ n
      → behind ≤ length text → (weight_in e ≡ 0 → ⊥) → (wants ≡ false → weight_in e ≡ 3 → ⊥)
      → (n ≤ 1 → next ≡ record walk { place = behind; left = 0 }) → (1 < n → next ≡ record walk { left = n - 1 }) → Given wants text again rest next e
  give_by wants next r b zero k w h g last more = absurd (let n = b.some in omega arith)
  give_by wants next r b (suc zero) k w h g last more =
      subst (λ v. Given wants text again rest v e) (sym (last (omega arith)))
      (given_answer wants text again rest _ _ e r.edit (last_given text again rest walk s times r.edit behind b w) (first_is r b 0 k) (heavy_enough r h)
      (λ f z. g f (sym r.weighs ∙ z)) r.is)
  give_by wants next r b (suc (suc m)) k w h g last more =
      let fewer : suc (suc m) - 1 ≡ suc m = omega arith in
      subst (λ v. Given wants text again rest v e) (sym (more (omega arith) ∙ ap (λ n. let v : FormatWalk = record walk { left = n } in v) fewer))
      (given_answer wants text again rest _ _ e r.edit (more_given text again rest walk s times r.edit behind b m (real_part r) (heavy_enough r h)) (first_is r b (suc m) k) (heavy_enough r h)
      (λ f z. g f (sym r.weighs ∙ z)) r.is)

  pub give_answer : (wants : Bool) (next : FormatWalk) → behind ≤ length text → (weight_in e ≡ 0 → ⊥) → (wants ≡ false → weight_in e ≡ 3 → ⊥)
      → ((if walk.left == 0 then times else walk.left) ≤ 1 → next ≡ record walk { place = behind; left = 0 })
      → (1 < (if walk.left == 0 then times else walk.left) → next ≡ record walk { left = (if walk.left == 0 then times else walk.left) - 1 })
      → Given wants text again rest next e
  give_answer wants next w h g last more =
      let r : Real text e = real text e h in
      let b : Before s times r.edit (drop behind text) = before text again rest walk s times r.edit (drop behind text) (real_part r) in
      give_by wants next r b (if walk.left == 0 then times else walk.left) (copies_are walk.left b.copies_left times b.is_left (λ z. (b.is_begun z).0)) w h g last more

-- a group that opens
pub record Opened {text : List ℕ} {again rest : List formats.Edit} {walk : FormatWalk} (s : Stands text again walk rest) (times : ℕ) (inside : List ℕ) : Type 0 where
  pub inner : Format
  pub later : Format
  pub middle : List ℕ
  pub some : 1 ≤ times
  pub deep : suc walk.depth < 20
  pub spells : SpellsList (suc (suc walk.depth)) Wanted inner inside middle
  pub on : SpellsList (suc walk.depth) Behind later middle s.after
  pub is : s.current ≡ formats.Group times inner later
  pub here : s.here ≡ pass s.current
  pub joint : Joint
  pub this : SpellsList (suc walk.depth) joint s.current (drop walk.place text) s.after

module _ (text : List ℕ) (again rest : List formats.Edit) (walk : FormatWalk) (s : Stands text again walk rest) (times : ℕ) (inside : List ℕ)
    (p : part_of (drop walk.place text) ≡ record { part = parts.Opening times; behind = inside }) where
  opened_by : (joint : Joint) → SpellsList (suc walk.depth) joint s.current (drop walk.place text) s.after → s.here ≡ pass s.current
      → Reads (suc walk.depth) s.current (drop walk.place text) s.after → Opened s times inside
  opened_by j t k (closes e _) = absurd (let q : parts.Closing ≡ parts.Opening times = sym (part_is e) ∙ part_is p in cc)
  opened_by j t k (joins joint middle e later) = absurd (let q : parts.Joint ≡ parts.Opening times = sym (part_is e) ∙ part_is p in cc)
  opened_by j t k (gives n this later joint middle e _ _ _ _) = absurd (let q : parts.Giving n this ≡ parts.Opening times = sym (part_is e) ∙ part_is p in cc)
  opened_by j t k (opens n inner later at middle e some deep spells on is) =
      let q : parts.Opening n ≡ parts.Opening times = sym (part_is e) ∙ part_is p in
      let same : n ≡ times = cc in
      record {
        inner = inner;
        later = later;
        middle = middle;
        some = subst (λ z. 1 ≤ z) same some;
        deep = deep;
        spells = subst (λ z. SpellsList (suc (suc walk.depth)) Wanted inner z middle) (sym (behind_is e) ∙ behind_is p) spells;
        on = on;
        is = is ∙ ap (λ z. formats.Group z inner later) same;
        here = k;
        joint = j;
        this = t;
      }

  opened_here : {here : List formats.Edit} → s.here ≡ here → Here text walk.place walk.left walk.depth s.current s.after here → Opened s times inside
  opened_here k (fresh joint l spells h) = opened_by joint spells (k ∙ h) (reads spells)
  opened_here k (begun count this joint middle _ _ e _ _) = absurd (let q : parts.Giving count this ≡ parts.Opening times = sym (part_is e) ∙ part_is p in cc)

  pub opened : Opened s times inside
  opened = opened_here refl s.stands

-- the rest outside all groups, where the list in which the walk stands goes on with these items
record Retopped (text : List ℕ) (groups : List Group) (top : Format) (depth : ℕ) (current later : Format) (after : List ℕ) (outer : List formats.Edit) : Type 0 where
  base : Format
  below : Below text groups base depth later after outer
  none : depth ≡ 0 → (base ≡ later) × (top ≡ current)
  some : 1 ≤ depth → base ≡ top

retopped : {text : List ℕ} {groups : List Group} {top : Format} {depth : ℕ} {current : Format} {after : List ℕ} {outer : List formats.Edit}
    → Below text groups top depth current after outer → (later : Format) → Retopped text groups top depth current later after outer
retopped (outermost e r) later = record { base = later; below = outermost refl r; none = λ _. (refl, sym e); some = λ h. absurd (omega arith) }
retopped {top = top} (within inner next behind outer a b c d e f g) later =
    record { base = top; below = within inner next behind outer a b c d e f g; none = λ h. absurd (cc); some = λ _. refl }

-- where the format is gone on with, behind a group
record Reverts (text : List ℕ) (target top : Format) (place : ℕ) : Type 0 where
  begins_within : place ≤ length text
  reverted : Format
  joint : Joint
  end : List ℕ
  spells : SpellsList 1 joint reverted (drop place text) end
  goes_on : target ≡ unwrap_or (last_group top) reverted

module _ {text : List ℕ} {again rest : List formats.Edit} {walk : FormatWalk} (s : Stands text again walk rest) (times : ℕ) (inside : List ℕ) (o : Opened s times inside) where
  reverts_by : (depth : ℕ) → walk.depth ≡ depth → (t : Retopped text walk.groups s.top walk.depth s.current o.later s.after s.outer)
      → Reverts text s.target t.base (if depth == 0 then walk.place else walk.again)
  reverts_by zero e t =
      let parts = t.none e in
      record {
        begins_within = s.within;
        reverted = s.current;
        joint = o.joint;
        end = s.after;
        spells = subst (λ d. SpellsList (suc d) o.joint s.current (drop walk.place text) s.after) e o.this;
        goes_on = s.goes_on ∙ ap (λ f. unwrap_or (last_group f) s.reverted) (parts.1 ∙ o.is)
            ∙ ap (λ f. unwrap_or (last_group o.later) f) (sym o.is) ∙ ap (λ f. unwrap_or (last_group f) s.current) (sym parts.0);
      }
  reverts_by (suc depth) e t =
      subst (λ q. Reverts text s.target t.base (if q then walk.place else walk.again)) (sym (unlike (suc depth) 0 (λ z. absurd (cc))))
      (record {
        begins_within = s.begins_within;
        reverted = s.reverted;
        joint = s.joint;
        end = s.end;
        spells = s.spells;
        goes_on = s.goes_on ∙ ap (λ f. unwrap_or (last_group f) s.reverted) (sym (t.some (omega arith)));
      })

  -- the group is passed as a whole
  pub passed : (behind : ℕ) → behind ≤ length text → drop behind text ≡ o.middle
      → Stands text again (record walk { place = behind; left = 0; again = (if walk.depth == 0 then walk.place else walk.again) }) (pass o.later ++ s.outer)
  passed behind w e =
      let t : Retopped text walk.groups s.top walk.depth s.current o.later s.after s.outer = retopped s.below o.later in
      let r : Reverts text s.target t.base (if walk.depth == 0 then walk.place else walk.again) = reverts_by walk.depth refl t in
      record {
        within = w;
        begins_within = r.begins_within;
        deep = s.deep;
        current = o.later;
        top = t.base;
        after = s.after;
        here = pass o.later;
        outer = s.outer;
        stands = fresh Behind refl (subst (λ z. SpellsList (suc walk.depth) Behind o.later z s.after) (sym e) o.on) refl;
        below = t.below;
        whole = refl;
        reverted = r.reverted;
        joint = r.joint;
        end = r.end;
        spells = r.spells;
        target = s.target;
        goes_on = r.goes_on;
        goes_round = s.goes_round;
        repeats = s.repeats;
      }

-- further groups change nothing of those below
below_keeps : {text : List ℕ} {groups : List Group} {top : Format} {depth : ℕ} {current : Format} {after : List ℕ} {outer : List formats.Edit} (others : List Group)
    → ((i : ℕ) → i < depth → group_of others i ≡ group_of groups i) → Below text groups top depth current after outer → Below text others top depth current after outer
below_keeps others h (outermost e r) = outermost e r
below_keeps {text = text} others h (within {depth = depth} {after = after} {rest = rest} inner later behind outer a b c d e f g) =
    let same = h depth (omega arith) in
    within inner later behind outer
    (subst (λ (z : Group). SpellsList (suc (suc depth)) Wanted inner (drop z.start text) after) (sym same) a)
    (subst (λ (z : Group). 1 ≤ z.start) (sym same) b)
    (subst (λ (z : Group). z.start ≤ length text) (sym same) c) d e
    (below_keeps others (λ i l. h i (omega arith)) f)
    (subst (λ (z : Group). rest ≡ copies z.left (pass inner) ++ (pass later ++ outer)) (sym same) g)

unrolled : (n : ℕ) (a b c : List formats.Edit) → 1 ≤ n → (copies n a ++ b) ++ c ≡ a ++ (copies (n - 1) a ++ (b ++ c))
unrolled zero a b c h = absurd (omega arith)
unrolled (suc n) a b c h =
    append_assoc (a ++ copies n a) b c ∙ append_assoc a (copies n a) (b ++ c)
    ∙ ap (λ k. a ++ (copies k a ++ (b ++ c))) (fewer n)
  where
    fewer : (k : ℕ) → k ≡ suc k - 1
    fewer k = omega arith

module _ {text : List ℕ} {again rest : List formats.Edit} {walk : FormatWalk} (s : Stands text again walk rest) (times : ℕ) (behind : ℕ) (o : Opened s times (drop behind text)) where
  -- the group is entered
  pub entered : (groups : List Group) → group_of groups walk.depth ≡ record { start = behind; left = times - 1 }
      → ((i : ℕ) → i < walk.depth → group_of groups i ≡ group_of walk.groups i) → 1 ≤ behind → behind ≤ length text → 2 ≤ heaviest (pass o.inner)
      → Stands text again (record { place = behind; left = 0; again = (if walk.depth == 0 then walk.place else walk.again); depth = suc walk.depth; groups = groups }) rest
  entered groups this others b w heavy =
      let t : Retopped text walk.groups s.top walk.depth s.current o.later s.after s.outer = retopped s.below o.later in
      let r : Reverts text s.target t.base (if walk.depth == 0 then walk.place else walk.again) = reverts_by s times (drop behind text) o walk.depth refl t in
      record {
        within = w;
        begins_within = r.begins_within;
        deep = o.deep;
        current = o.inner;
        top = t.base;
        after = o.middle;
        here = pass o.inner;
        outer = copies (times - 1) (pass o.inner) ++ (pass o.later ++ s.outer);
        stands = fresh Wanted refl o.spells refl;
        below = within o.inner o.later s.after s.outer
            (subst (λ (z : Group). SpellsList (suc (suc walk.depth)) Wanted o.inner (drop z.start text) o.middle) (sym this) o.spells)
            (subst (λ (z : Group). 1 ≤ z.start) (sym this) b)
            (subst (λ (z : Group). z.start ≤ length text) (sym this) w)
            heavy o.on (below_keeps groups others t.below)
            (ap (λ (z : Group). copies z.left (pass o.inner) ++ (pass o.later ++ s.outer)) (sym this));
        whole = s.whole ∙ ap (λ (l : List formats.Edit). l ++ s.outer) (o.here ∙ ap pass o.is) ∙ unrolled times (pass o.inner) (pass o.later) s.outer o.some;
        reverted = r.reverted;
        joint = r.joint;
        end = r.end;
        spells = r.spells;
        target = s.target;
        goes_on = r.goes_on;
        goes_round = s.goes_round;
        repeats = s.repeats;
      }

-- colons alone do nothing for an item, and end the walk without one
stops_skipped : (x left : List formats.Edit) → heaviest x ≤ 1 → served 1 (x ++ left) ≡ served 1 left
stops_skipped [] left h = refl
stops_skipped (Item d ∷ x) left h = absurd (omega arith)
stops_skipped (Act c ∷ x) left h = absurd (omega arith)
stops_skipped (Stop ∷ x) left h = stops_skipped x left (omega arith)

stops_close : (x left : List formats.Edit) → heaviest x ≡ 1 → closing (x ++ left) ≡ []
stops_close [] left h = absurd (omega arith)
stops_close (Item d ∷ x) left h = absurd (omega arith)
stops_close (Act c ∷ x) left h = absurd (omega arith)
stops_close (Stop ∷ x) left h = refl

nothing_there : (x : List formats.Edit) → heaviest x ≡ 0 → x ≡ []
nothing_there [] h = refl
nothing_there (Item d ∷ x) h = absurd (omega arith)
nothing_there (Act c ∷ x) h = absurd (omega arith)
nothing_there (Stop ∷ x) h = absurd (omega arith)

heavy_test : (n : ℕ) → 2 ≤ n → nat_le 2 n ≡ true
heavy_test n h = grind arith

light_test : (n m : ℕ) → n ≤ 1 → nat_le 2 m ≡ nat_le 2 (max n m)
light_test zero m h = ap (nat_le 2) (let e : m ≡ max 0 m = omega arith in e)
light_test (suc zero) m h = sym (stop_light m)
light_test (suc (suc n)) m h = absurd (omega arith)

module _ (text : List ℕ) (again rest : List formats.Edit) (walk : FormatWalk) (s : Stands text again walk rest) (times : ℕ) (behind : ℕ)
    (p : part_of (drop walk.place text) ≡ record { part = parts.Opening times; behind = drop behind text }) where
  this_group : Opened s times (drop behind text)
  this_group = opened text again rest walk s times (drop behind text) p

  group_here : s.here ≡ copies times (pass this_group.inner) ++ pass this_group.later
  group_here = this_group.here ∙ ap pass this_group.is

  group_weight : heaviest s.here ≡ max (heaviest (pass this_group.inner)) (heaviest (pass this_group.later))
  group_weight =
      ap heaviest group_here ∙ heaviest-append (copies times (pass this_group.inner)) (pass this_group.later)
      ∙ ap (λ n. max n (heaviest (pass this_group.later))) (heaviest-repeated times (pass this_group.inner) this_group.some)

  group_rest : rest ≡ copies times (pass this_group.inner) ++ (pass this_group.later ++ s.outer)
  group_rest = s.whole ∙ ap (λ (l : List formats.Edit). l ++ s.outer) group_here ∙ append_assoc (copies times (pass this_group.inner)) (pass this_group.later) s.outer

  weighed : (weight : ℕ) (after : List ℕ)
      → ((depth : ℕ) → (joint : Joint) → (format : Format) → (end : List ℕ) → SpellsList depth joint format (drop behind text) end → Scanned (heaviest (pass format)) end weight after)
      → Scanned (heaviest (pass this_group.inner)) this_group.middle weight after
  weighed weight after h = h (suc (suc walk.depth)) Wanted this_group.inner this_group.middle this_group.spells

  pub open_on : (wants : Bool) (groups : List Group) → group_of groups walk.depth ≡ record { start = behind; left = times - 1 }
      → ((i : ℕ) → i < walk.depth → group_of groups i ≡ group_of walk.groups i) → walk.place < behind → behind ≤ length text
      → (weight : ℕ) (after : List ℕ)
      → ((depth : ℕ) → (joint : Joint) → (format : Format) → (end : List ℕ) → SpellsList depth joint format (drop behind text) end → Scanned (heaviest (pass format)) end weight after)
      → 1 < weight
      → GoesOn wants text again rest (reach s)
      (record { place = behind; left = 0; again = (if walk.depth == 0 then walk.place else walk.again); depth = suc walk.depth; groups = groups })
  unfolding entered
  open_on wants groups this others b w weight after scan h =
      let heavy : 2 ≤ heaviest (pass this_group.inner) = let e = (weighed weight after scan).weighs in omega arith in
      record {
        left = rest;
        stands = entered s times behind this_group groups this others (omega arith) w heavy;
        same = same_for wants again rest rest refl;
        less = reaches_less text walk.place behind s.here (pass this_group.inner) b w
            (heavy_test _ heavy ∙ sym (heavy_test (heaviest s.here) (let g = group_weight in omega arith)));
      }

  skipped_same : (wants : Bool) (weight : ℕ) → weight ≡ heaviest (pass this_group.inner) → weight ≤ 1 → (wants ≡ false → weight ≡ 1 → ⊥)
      → SameFor wants again rest (pass this_group.later ++ s.outer)
  skipped_same true weight e h g =
      sym (ap (for_next again) group_rest
      ∙ ap (turned (has_item again) again) (stops_skipped (copies times (pass this_group.inner)) (pass this_group.later ++ s.outer)
      (let r = heaviest-repeated times (pass this_group.inner) this_group.some in omega arith)))
  skipped_same false zero e h g =
      sym (group_rest ∙ ap (λ (l : List formats.Edit). l ++ (pass this_group.later ++ s.outer))
      (nothing_there (copies times (pass this_group.inner)) (heaviest-repeated times (pass this_group.inner) this_group.some ∙ sym e)))
  skipped_same false (suc zero) e h g = absurd (g refl refl)
  skipped_same false (suc (suc weight)) e h g = absurd (omega arith)

  pub open_passed : (wants : Bool) (after : ℕ) → walk.place < after → after ≤ length text → (weight : ℕ)
      → ((depth : ℕ) → (joint : Joint) → (format : Format) → (end : List ℕ) → SpellsList depth joint format (drop behind text) end → Scanned (heaviest (pass format)) end weight (drop after text))
      → weight ≤ 1 → (wants ≡ false → weight ≡ 1 → ⊥)
      → GoesOn wants text again rest (reach s) (record walk { place = after; left = 0; again = (if walk.depth == 0 then walk.place else walk.again) })
  unfolding passed
  open_passed wants after b w weight scan h g =
      let scanned : Scanned (heaviest (pass this_group.inner)) this_group.middle weight (drop after text) = weighed weight (drop after text) scan in
      record {
        left = pass this_group.later ++ s.outer;
        stands = passed s times (drop behind text) this_group after w scanned.ends;
        same = skipped_same wants weight scanned.weighs h g;
        less = reaches_less text walk.place after s.here (pass this_group.later) b w
            (light_test (heaviest (pass this_group.inner)) (heaviest (pass this_group.later)) (let e = scanned.weighs in omega arith) ∙ ap (nat_le 2) (sym group_weight));
      }

  pub open_done : (weight : ℕ) (after : List ℕ)
      → ((depth : ℕ) → (joint : Joint) → (format : Format) → (end : List ℕ) → SpellsList depth joint format (drop behind text) end → Scanned (heaviest (pass format)) end weight after)
      → weight ≡ 1 → Given false text again rest walk edit.Done
  open_done weight after scan h = (
    refl,
    s,
    ap closing group_rest ∙ stops_close (copies times (pass this_group.inner)) (pass this_group.later ++ s.outer)
        (heaviest-repeated times (pass this_group.inner) this_group.some ∙ sym (weighed weight after scan).weighs ∙ h),
  )

-- a list that ends
pub record Closed {text : List ℕ} {again rest : List formats.Edit} {walk : FormatWalk} (s : Stands text again walk rest) (behind : List ℕ) : Type 0 where
  pub ends : behind ≡ s.after
  pub empty : s.current ≡ Empty
  pub here : s.here ≡ []

module _ (text : List ℕ) (again rest : List formats.Edit) (walk : FormatWalk) (s : Stands text again walk rest) (behind : List ℕ)
    (p : part_of (drop walk.place text) ≡ record { part = parts.Closing; behind = behind }) where
  closed_by : s.here ≡ pass s.current → Reads (suc walk.depth) s.current (drop walk.place text) s.after → Closed s behind
  closed_by k (closes e f) = record { ends = sym (behind_is p) ∙ behind_is e; empty = f; here = k ∙ ap pass f }
  closed_by k (joins joint middle e later) = absurd (let q : parts.Joint ≡ parts.Closing = sym (part_is e) ∙ part_is p in cc)
  closed_by k (gives n this later joint middle e _ _ _ _) = absurd (let q : parts.Giving n this ≡ parts.Closing = sym (part_is e) ∙ part_is p in cc)
  closed_by k (opens n inner later at middle e _ _ _ _ _) = absurd (let q : parts.Opening n ≡ parts.Closing = sym (part_is e) ∙ part_is p in cc)

  closed_here : {here : List formats.Edit} → s.here ≡ here → Here text walk.place walk.left walk.depth s.current s.after here → Closed s behind
  closed_here k (fresh joint l spells h) = closed_by (k ∙ h) (reads spells)
  closed_here k (begun count this joint middle _ _ e _ _) = absurd (let q : parts.Giving count this ≡ parts.Closing = sym (part_is e) ∙ part_is p in cc)

  pub closed : Closed s behind
  closed = closed_here refl s.stands

closing_less : (text : List ℕ) (place behind : ℕ) (here later : List formats.Edit) → place < behind → behind ≤ length text → here ≡ []
    → suc (reach_by text behind later) ≤ reach_by text place here
closing_less text place behind here later b w e =
    subst (λ (h : List formats.Edit). suc (reach_by text behind later) ≤ reach_by text place h) (sym e) (less_by (nat_le 2 (heaviest later))) where
      less_by : (q : Bool) → suc ((length text - behind) + (if q then 0 else length text)) ≤ (length text - place) + length text
      less_by true = omega arith
      less_by false = omega arith

turning_less : (text : List ℕ) (place start : ℕ) (here inner : List formats.Edit) → place < length text → 1 ≤ start → start ≤ length text → here ≡ [] → 2 ≤ heaviest inner
    → suc (reach_by text start inner) ≤ reach_by text place here
turning_less text place start here inner b o w e h =
    subst (λ (l : List formats.Edit). suc (reach_by text start inner) ≤ reach_by text place l) (sym e)
    (subst (λ q. suc ((length text - start) + (if q then 0 else length text)) ≤ (length text - place) + length text) (sym (heavy_test (heaviest inner) h)) (omega arith))

unrolled_once : (n : ℕ) (a c : List formats.Edit) → 1 ≤ n → copies n a ++ c ≡ a ++ (copies (n - 1) a ++ c)
unrolled_once zero a c h = absurd (omega arith)
unrolled_once (suc n) a c h = append_assoc a (copies n a) c ∙ ap (λ k. a ++ (copies k a ++ c)) (fewer n)
  where
    fewer : (k : ℕ) → k ≡ suc k - 1
    fewer k = omega arith

module _ (text : List ℕ) (again rest : List formats.Edit) (walk : FormatWalk) (s : Stands text again walk rest) (wants : Bool) (depth : ℕ) (e : walk.depth ≡ suc depth)
    (behind : ℕ) (c : Closed s (drop behind text)) (b : walk.place < behind) (w : behind ≤ length text) where
  pop_by : {current : Format} {after : List ℕ} {outer : List formats.Edit} → Below text walk.groups s.top (suc depth) current after outer → after ≡ s.after → outer ≡ s.outer
      → (group_of walk.groups depth).left ≡ 0 → GoesOn wants text again rest (reach s) (record walk { place = behind; left = 0; depth = walk.depth - 1 })
  pop_by (within inner later next out a o i heavy on f g) ea eo z =
      let less : depth ≡ walk.depth - 1 = omega arith in
      record {
        left = rest;
        stands = record {
          within = w;
          begins_within = s.begins_within;
          deep = let h = s.deep in omega arith;
          current = later;
          top = s.top;
          after = next;
          here = pass later;
          outer = out;
          stands = fresh Behind refl (subst (λ n. SpellsList (suc n) Behind later (drop behind text) next) less (subst (λ t. SpellsList (suc depth) Behind later t next) (ea ∙ sym c.ends) on)) refl;
          below = subst (λ n. Below text walk.groups s.top n later next out) less f;
          whole = s.whole ∙ ap (λ (h : List formats.Edit). h ++ s.outer) c.here ∙ sym eo ∙ g ∙ ap (λ n. copies n (pass inner) ++ (pass later ++ out)) z;
          reverted = s.reverted;
          joint = s.joint;
          end = s.end;
          spells = s.spells;
          target = s.target;
          goes_on = s.goes_on;
          goes_round = s.goes_round;
          repeats = s.repeats;
        };
        same = same_for wants again rest rest refl;
        less = closing_less text walk.place behind s.here (pass later) b w c.here;
      }

  pub pop : (group_of walk.groups depth).left ≡ 0 → GoesOn wants text again rest (reach s) (record walk { place = behind; left = 0; depth = walk.depth - 1 })
  pop z = pop_by (subst (λ n. Below text walk.groups s.top n s.current s.after s.outer) e s.below) refl refl z

  turn_by : {current : Format} {after : List ℕ} {outer : List formats.Edit} (groups : List Group) → Below text walk.groups s.top (suc depth) current after outer → after ≡ s.after → outer ≡ s.outer
      → 1 ≤ (group_of walk.groups depth).left → group_of groups depth ≡ record { start = (group_of walk.groups depth).start; left = (group_of walk.groups depth).left - 1 }
      → ((i : ℕ) → i < depth → group_of groups i ≡ group_of walk.groups i)
      → GoesOn wants text again rest (reach s) (record walk { place = (group_of walk.groups depth).start; left = 0; groups = groups })
  turn_by groups (within inner later next out a o i heavy on f g) ea eo z this others =
      let group : Group = group_of walk.groups depth in
      record {
        left = rest;
        stands = record {
          within = i;
          begins_within = s.begins_within;
          deep = s.deep;
          current = inner;
          top = s.top;
          after = s.after;
          here = pass inner;
          outer = copies (group.left - 1) (pass inner) ++ (pass later ++ out);
          stands = fresh Wanted refl (subst (λ n. SpellsList (suc n) Wanted inner (drop group.start text) s.after) (sym e) (subst (λ t. SpellsList (suc (suc depth)) Wanted inner (drop group.start text) t) ea a)) refl;
          below = subst (λ n. Below text groups s.top n inner s.after (copies (group.left - 1) (pass inner) ++ (pass later ++ out))) (sym e)
              (within inner later next out
              (subst (λ (z : Group). SpellsList (suc (suc depth)) Wanted inner (drop z.start text) s.after) (sym this) (subst (λ t. SpellsList (suc (suc depth)) Wanted inner (drop group.start text) t) ea a))
              (subst (λ (z : Group). 1 ≤ z.start) (sym this) o) (subst (λ (z : Group). z.start ≤ length text) (sym this) i) heavy
              (subst (λ t. SpellsList (suc depth) Behind later t next) ea on) (below_keeps groups others f)
              (ap (λ (z : Group). copies z.left (pass inner) ++ (pass later ++ out)) (sym this)));
          whole = s.whole ∙ ap (λ (h : List formats.Edit). h ++ s.outer) c.here ∙ sym eo ∙ g ∙ unrolled_once group.left (pass inner) (pass later ++ out) z;
          reverted = s.reverted;
          joint = s.joint;
          end = s.end;
          spells = s.spells;
          target = s.target;
          goes_on = s.goes_on;
          goes_round = s.goes_round;
          repeats = s.repeats;
        };
        same = same_for wants again rest rest refl;
        less = turning_less text walk.place group.start s.here (pass inner) (omega arith) o i c.here heavy;
      }

  pub turn : (groups : List Group) → 1 ≤ (group_of walk.groups depth).left
      → group_of groups depth ≡ record { start = (group_of walk.groups depth).start; left = (group_of walk.groups depth).left - 1 }
      → ((i : ℕ) → i < depth → group_of groups i ≡ group_of walk.groups i)
      → GoesOn wants text again rest (reach s) (record walk { place = (group_of walk.groups depth).start; left = 0; groups = groups })
  turn groups z this others = turn_by groups (subst (λ n. Below text walk.groups s.top n s.current s.after s.outer) e s.below) refl refl z this others

items_weigh : (edits : List formats.Edit) → heaviest edits ≡ 3 → has_item edits ≡ true
items_weigh [] h = absurd (omega arith)
items_weigh (Item d ∷ edits) h = refl
items_weigh (Act c ∷ edits) h = items_weigh edits (omega arith)
items_weigh (Stop ∷ edits) h = items_weigh edits (omega arith)

heaviest-le : (edits : List formats.Edit) → heaviest edits ≤ 3
heaviest-le [] = omega arith
heaviest-le (Item d ∷ edits) = omega (arith, heaviest-le edits)
heaviest-le (Act c ∷ edits) = omega (arith, heaviest-le edits)
heaviest-le (Stop ∷ edits) = omega (arith, heaviest-le edits)

no_items : (edits : List formats.Edit) → (heaviest edits ≡ 3 → ⊥) → has_item edits ≡ false
no_items [] h = refl
no_items (Item d ∷ edits) h = absurd (h (omega (arith, heaviest-le edits)))
no_items (Act c ∷ edits) h = no_items edits (λ e. h (omega arith))
no_items (Stop ∷ edits) h = no_items edits (λ e. h (omega arith))

round_again : (b : Bool) (again : List formats.Edit) → b ≡ true → (served 1 again).unserved ≡ 0 → turned b again (served 1 []) ≡ led_by (Act formats.NextRecord) (turned b again (served 1 again))
round_again true again e z = ap (led_by (Act formats.NextRecord)) (sym (turned_done true again (served 1 again) z))
round_again false again e z = absurd (cc)

none_again : (b : Bool) (again : List formats.Edit) → b ≡ false → turned b again (served 1 []) ≡ served 1 []
none_again false again e = refl
none_again true again e = absurd (cc)

module _ (text : List ℕ) (again rest : List formats.Edit) (walk : FormatWalk) (s : Stands text again walk rest) (e : walk.depth ≡ 0)
    (behind : List ℕ) (c : Closed s behind) where
  end_by : {depth : ℕ} {after : List ℕ} {outer : List formats.Edit} {current : Format} → depth ≡ 0 → Below text walk.groups s.top depth current after outer → (current ≡ s.top) × (outer ≡ [])
  end_by z (outermost f r) = (f, r)
  end_by z (within _ _ _ _ _ _ _ _ _ _ _) = absurd (cc)

  rest_none : rest ≡ []
  rest_none = s.whole ∙ ap (λ (h : List formats.Edit). h ++ s.outer) c.here ∙ (end_by e s.below).1

  target_is : s.target ≡ s.reverted
  target_is = s.goes_on ∙ ap (λ f. unwrap_or (last_group f) s.reverted) (sym ((end_by e s.below).0) ∙ c.empty)

  pub end_done : Given false text again rest walk edit.Done
  end_done = (refl, s, ap closing rest_none)

  weighs_again : (weight : ℕ) (after : List ℕ)
      → ((depth : ℕ) → (joint : Joint) → (format : Format) → (end : List ℕ) → SpellsList depth joint format (drop walk.again text) end → Scanned (heaviest (pass format)) end weight after)
      → weight ≡ heaviest again
  weighs_again weight after scan = (scan 1 s.joint s.reverted s.end s.spells).weighs ∙ ap heaviest (sym (s.repeats ∙ ap pass target_is))

  pub end_none : (weight : ℕ) (after : List ℕ)
      → ((depth : ℕ) → (joint : Joint) → (format : Format) → (end : List ℕ) → SpellsList depth joint format (drop walk.again text) end → Scanned (heaviest (pass format)) end weight after)
      → (weight ≡ 3 → ⊥) → Given true text again rest walk edit.NoDescriptor
  end_none weight after scan h =
      let none : has_item again ≡ false = no_items again (λ z. h (weighs_again weight after scan ∙ z)) in
      let next : for_next again rest ≡ served 1 [] = ap (for_next again) rest_none ∙ none_again (has_item again) again none in
      (refl, (rest, s, refl), ap (λ (z : Served). z.edits) next, ap (λ (z : Served). z.unserved) next)

  pub end_again : (weight : ℕ) (after : List ℕ)
      → ((depth : ℕ) → (joint : Joint) → (format : Format) → (end : List ℕ) → SpellsList depth joint format (drop walk.again text) end → Scanned (heaviest (pass format)) end weight after)
      → weight ≡ 3 → Given true text again rest (record walk { place = walk.again; left = 0 }) edit.NextRecord
  end_again weight after scan h =
      let some : has_item again ≡ true = items_weigh again (sym (weighs_again weight after scan) ∙ h) in
      let unserved : (served 1 again).unserved ≡ 0 = let z = served_some 0 again some in omega arith in (
        again,
        record {
          within = s.begins_within;
          begins_within = s.begins_within;
          deep = s.deep;
          current = s.reverted;
          top = s.reverted;
          after = s.end;
          here = again;
          outer = [];
          stands = fresh s.joint refl (subst (λ n. SpellsList (suc n) s.joint s.reverted (drop walk.again text) s.end) (sym e) s.spells) (s.repeats ∙ ap pass target_is);
          below = subst (λ n. Below text walk.groups s.reverted n s.reverted s.end []) (sym e) (outermost refl refl);
          whole = sym (append-nil again);
          reverted = s.reverted;
          joint = s.joint;
          end = s.end;
          spells = s.spells;
          target = s.target;
          goes_on = s.goes_round ∙ ap (λ f. unwrap_or (last_group f) f) target_is;
          goes_round = s.goes_round;
          repeats = s.repeats;
        },
        ap (for_next again) rest_none ∙ round_again (has_item again) again some unserved,
      )

part_none : (part_of []).part ≡ parts.Joint
unfolding part_of number_of sign_of letter_part
part_none = refl

-- a walk stands before a part
pub stands_before : {text : List ℕ} {again rest : List formats.Edit} {walk : FormatWalk} → Stands text again walk rest → walk.place < length text
stands_before {text = text} {walk = walk} s = before_by s.stands (cases_lt walk.place (length text)) where
  before_by : Here text walk.place walk.left walk.depth s.current s.after s.here → (walk.place < length text) ⊎ (length text ≤ walk.place) → walk.place < length text
  before_by h (inl l) = l
  before_by (fresh joint l spells h) (inr m) = let k : 0 < length (drop walk.place text) = spelled_some spells in omega (arith, k, length-drop walk.place text)
  before_by (begun count given joint middle _ _ e spells h) (inr m) =
      absurd (let q : parts.Giving count given ≡ parts.Joint = sym (part_is e) ∙ ap (λ t. (part_of t).part) (drop_of_length-le text m) ∙ part_none in cc)

-- what an edit is for what is to come it is for what is the same
pub given_same : (wants : Bool) (text : List ℕ) (again rest left : List formats.Edit) (walk : FormatWalk) (e : code.Edit) → SameFor wants again rest left
    → Given wants text again left walk e → Given wants text again rest walk e
given_same false text again rest left walk e same g = subst (λ l. GivenNone text again l walk e (edit_in text e)) same g
given_same true text again rest left walk e same g = by_edit (edit_in text e) g where
  by_edit : (o : Option formats.Edit) → GivenItem text again left walk e o → GivenItem text again rest walk e o
  by_edit (Some (Item d)) h = (h.0, h.1, sym same ∙ h.2)
  by_edit (Some (Act c)) h = (h.0, h.1, sym same ∙ h.2)
  by_edit (Some Stop) h = h
  by_edit None h =
      (h.0, (h.1.0, h.1.1, h.1.2 ∙ same), ap (λ (z : Served). z.edits) (sym same) ∙ h.2, ap (λ (z : Served). z.unserved) (sym same) ∙ h.3)

same_trans : (wants : Bool) (again a b c : List formats.Edit) → SameFor wants again a b → SameFor wants again b c → SameFor wants again a c
same_trans true again a b c p q = q ∙ p
same_trans false again a b c p q = q ∙ p

-- after so many turns a walk has come so far
pub record Comes (wants : Bool) (text : List ℕ) (again rest : List formats.Edit) (turn : ℕ) (walk : FormatWalk) : Type 0 where
  pub left : List formats.Edit
  pub stands : Stands text again walk left
  pub same : SameFor wants again rest left
  pub less : reach stands + turn ≤ length text + length text

reach_most : (text : List ℕ) (place : ℕ) (here : List formats.Edit) → reach_by text place here ≤ length text + length text
reach_most text place here = most_by (nat_le 2 (heaviest here)) where
  most_by : (q : Bool) → (length text - place) + (if q then 0 else length text) ≤ length text + length text
  most_by true = omega arith
  most_by false = omega arith

pub comes_first : (wants : Bool) (text : List ℕ) (again rest : List formats.Edit) (walk : FormatWalk) → Stands text again walk rest → Comes wants text again rest 0 walk
comes_first wants text again rest walk s = record { left = rest; stands = s; same = same_for wants again rest rest refl; less = let m = reach_most text walk.place s.here in omega arith }

pub comes_on : (wants : Bool) (text : List ℕ) (again rest : List formats.Edit) (turn : ℕ) (walk next : FormatWalk) (c : Comes wants text again rest turn walk)
    → GoesOn wants text again c.left (reach c.stands) next → Comes wants text again rest (turn + 1) next
comes_on wants text again rest turn walk next c g =
    record { left = g.left; stands = g.stands; same = same_trans wants again rest c.left g.left c.same g.same; less = let a = c.less in let b = g.less in omega arith }

pub comes_no_further : (wants : Bool) (text : List ℕ) (again rest : List formats.Edit) (turn : ℕ) (walk : FormatWalk) → Comes wants text again rest turn walk → length text + length text < turn → ⊥
comes_no_further wants text again rest turn walk c h = absurd (let a = c.less in omega arith)

pub part_known : (text before : List ℕ) (parted : code_parted.Parted) (given : code_part.Part) → parted_in text parted ≡ part_of before → parted.part ≡ given
    → part_of before ≡ record { part = part_in text given; behind = drop parted.behind text }
part_known text before parted given e is = sym e ∙ ap (λ q. let r : Parted = record { part = part_in text q; behind = drop parted.behind text } in r) is

-- the last group of a format is the last one of what it is gone on with
group_again : (format again : Format) → last_group format ≡ Some again → last_group again ≡ Some again
group_again Empty again e = absurd (cc)
group_again (formats.Takes n d later) again e = group_again later again e
group_again (formats.Does n c later) again e = group_again later again e
group_again (formats.Colon later) again e = group_again later again e
group_again (formats.Group n inner later) again e = by_later (last_group later) refl (group_again later) where
  by_later : (o : Option Format) → last_group later ≡ o → ((g : Format) → last_group later ≡ Some g → last_group g ≡ Some g) → last_group again ≡ Some again
  by_later (Some g) f h =
      let same : g ≡ again = let q : Some (unwrap_or (last_group later) (formats.Group n inner later)) ≡ Some (unwrap_or (Some g) (formats.Group n inner later)) = ap (λ z. Some (unwrap_or z (formats.Group n inner later))) f in cc in
      subst (λ z. last_group z ≡ Some z) same (h g f)
  by_later None f h =
      let same : formats.Group n inner later ≡ again = let q : Some (unwrap_or (last_group later) (formats.Group n inner later)) ≡ Some (unwrap_or None (formats.Group n inner later)) = ap (λ z. Some (unwrap_or z (formats.Group n inner later))) f in cc in
      subst (λ z. last_group z ≡ Some z) same (ap (λ z. Some (unwrap_or z (formats.Group n inner later))) f)

goes_round : (format : Format) → formats.reverted format ≡ unwrap_or (last_group (formats.reverted format)) (formats.reverted format)
goes_round format = by_group (last_group format) refl where
  by_group : (o : Option Format) → last_group format ≡ o → unwrap_or o format ≡ unwrap_or (last_group (unwrap_or o format)) (unwrap_or o format)
  by_group (Some g) e = sym (ap (λ z. unwrap_or z g) (group_again format g e))
  by_group None e = sym (ap (λ z. unwrap_or z format) e)

pub stands_first : (text : List ℕ) (walk : FormatWalk) (joint : Joint) (format : Format) (after : List ℕ) → walk.place ≤ length text → walk.left ≡ 0 → walk.depth ≡ 0 → walk.again ≡ walk.place
    → SpellsList 1 joint format (drop walk.place text) after → Stands text (pass (formats.reverted format)) walk (pass format)
stands_first text walk joint format after w l d a spells = record {
  within = w;
  begins_within = omega arith;
  deep = omega arith;
  current = format;
  top = format;
  after = after;
  here = pass format;
  outer = [];
  stands = fresh joint l (subst (λ n. SpellsList (suc n) joint format (drop walk.place text) after) (sym d) spells) refl;
  below = subst (λ n. Below text walk.groups format n format after []) (sym d) (outermost refl refl);
  whole = sym (append-nil (pass format));
  reverted = format;
  joint = joint;
  end = after;
  spells = subst (λ n. SpellsList 1 joint format (drop n text) after) (sym a) spells;
  target = formats.reverted format;
  goes_on = refl;
  goes_round = goes_round format;
  repeats = refl;
}

pub started : (text : List ℕ) (walk : FormatWalk) (format : Format) (after : List ℕ) → walk.place ≤ length text → walk.left ≡ 0 → walk.depth ≡ 0 → walk.again ≡ walk.place
    → ((c : ℕ) (rest : List ℕ) → seen text ≡ c ∷ rest → drop walk.place text ≡ rest) → SpellsFormat format text after → Stands text (pass (formats.reverted format)) walk (pass format)
started text walk format after w l d a h (left_parenthesis {middle = middle} s spells) =
    stands_first text walk OpenedJoint format after w l d a (subst (λ t. SpellsList 1 OpenedJoint format t after) (sym (h 40 middle s)) spells)

-- behind an edit the walk stands in the text
pub given_stands : (wants : Bool) (text : List ℕ) (again rest : List formats.Edit) (walk : FormatWalk) (e : code.Edit) → Given wants text again rest walk e → StandsIn walk text
given_stands true text again rest walk e g = by_edit (edit_in text e) g where
  by_edit : (o : Option formats.Edit) → GivenItem text again rest walk e o → StandsIn walk text
  by_edit (Some (Item d)) h = record { again = again; rest = h.0; stands = h.1 }
  by_edit (Some (Act c)) h = record { again = again; rest = h.0; stands = h.1 }
  by_edit (Some Stop) h = absurd h
  by_edit None h = record { again = again; rest = h.1.0; stands = h.1.1 }
given_stands false text again rest walk e g = by_edit (edit_in text e) g where
  by_edit : (o : Option formats.Edit) → GivenNone text again rest walk e o → StandsIn walk text
  by_edit (Some (Item d)) h = absurd h
  by_edit (Some (Act c)) h = record { again = again; rest = h.0; stands = h.1 }
  by_edit (Some Stop) h = absurd h
  by_edit None h = record { again = again; rest = rest; stands = h.1 }
