-- What is to come of a format where a walk stands in its text: its place and its counts tell it, and so how many edits come before the
-- next item, and behind the last one.
use Rattle.std.proofs.Common.{◌≡◌, ℕ, zero, suc, ◌≤◌, List, [], ◌∷◌, ◌++◌, length, drop, refl, sym, ap, ◌∙◌, arith}
use Rattle.std.specs.Prelude.{unwrap_or, IsTrue}
use Rattle.edit_rules.specs.edit_meaning.Formats as formats
use Rattle.edit_rules.specs.edit_meaning.Formats.{Format, Empty, Stop, Item, Act, Served, led_by, copies, pass, last_group, closing}
use Rattle.edit_rules.specs.edit_meaning.FormatGrammar.{Joint, Free, may_close, takes_comma, takes_item, SpellsList, right_parenthesis, comma, descriptor, control, group, slash, slashes, colon, scale}
use Rattle.edit_rules.specs.edit_meaning.FormatTexts.{Going, Outside, At, fresh, Found, Nothing, Front, found}
use Rattle.edit_rules.specs.edit_meaning.Transfers.{for_next}
use Rattle.edit_rules.specs.FormatParts as parts
use Rattle.edit_rules.specs.FormatParts.{Giving, giving, part_of}
use Rattle.edit_rules.specs.Walks.{group_of, Below, outermost, within, Here, fresh as before_part, begun, Stands}
use Rattle.edit_rules.specs.declared.format_walk.Group.{Group}
use Rattle.edit_rules.specs.declared.format_walk.FormatWalk.{FormatWalk}
use Rattle.edit_rules.proofs.FormatSpelled.{list_run, found_done}

-- ## A list of items from its text

shallow : {depth : ℕ} {joint : Joint} {list : Format} {before after : List ℕ} (low : ℕ) → low ≤ depth → SpellsList depth joint list before after → SpellsList low joint list before after
shallow low h (right_parenthesis t e) = right_parenthesis t e
shallow low h (comma t e more) = comma t e (shallow low h more)
shallow low h (descriptor t r d more) = descriptor t r d (shallow low h more)
shallow low h (control t c more) = control t c (shallow low h more)
shallow low h (group t r e l inside more) = group t r e (omega arith) (shallow (suc low) (omega arith) inside) (shallow low h more)
shallow low h (slash e more) = slash e (shallow low h more)
shallow low h (slashes t n b e more) = slashes t n b e (shallow low h more)
shallow low h (colon e more) = colon e (shallow low h more)
shallow low h (scale t s more) = scale t s (shallow low h more)

freely : {depth : ℕ} {joint : Joint} {list : Format} {before after : List ℕ} → SpellsList depth joint list before after → SpellsList depth Free list before after
freely (right_parenthesis t e) = let yes : IsTrue (may_close Free) = refl in right_parenthesis yes e
freely (comma t e more) = let yes : IsTrue (takes_comma Free) = refl in comma yes e more
freely (descriptor t r d more) = let yes : IsTrue (takes_item Free) = refl in descriptor yes r d more
freely (control t c more) = let yes : IsTrue (takes_item Free) = refl in control yes c more
freely (group t r e l inside more) = let yes : IsTrue (takes_item Free) = refl in group yes r e l inside more
freely (slash e more) = slash e more
freely (slashes t n b e more) = let yes : IsTrue (takes_item Free) = refl in slashes yes n b e more
freely (colon e more) = colon e more
freely (scale t s more) = let yes : IsTrue (takes_item Free) = refl in scale yes s more

list_found : List ℕ → Found
list_found text = found text (Going (Outside (At Free)) (fresh (λ later. later)) [])

list_in : Found → Format
list_in Nothing = Empty
list_in (Front list after) = list

after_in : Found → List ℕ
after_in Nothing = []
after_in (Front list after) = after

abbrev list_at : List ℕ → Format
list_at text = list_in (list_found text)

abbrev after_at : List ℕ → List ℕ
after_at text = after_in (list_found text)

is-found : {depth : ℕ} {joint : Joint} {list : Format} {before after : List ℕ} → SpellsList (suc depth) joint list before after → list_found before ≡ Front list after
unfolding list_found
is-found {list = list} {after = after} spells = list_run (λ later. later) [] refl (freely (shallow 1 (omega arith) spells)) ∙ found_done after list

record IsList (list : Format) (before after : List ℕ) : Type 0 where
  list_is : list ≡ list_at before
  after_is : after ≡ after_at before

is-list : {depth : ℕ} {joint : Joint} {list : Format} {before after : List ℕ} → SpellsList (suc depth) joint list before after → IsList list before after
unfolding list_in after_in
is-list spells = record { list_is = sym (ap list_in (is-found spells)); after_is = sym (ap after_in (is-found spells)) }

-- ## What is to come

giving_in : parts.Part → formats.Edit
giving_in (Giving count edit) = edit
giving_in other = Stop

-- the rest of the list in which a walk stands, and the text behind that list
here_of : List ℕ → ℕ → List formats.Edit
here_of before zero = pass (list_at before)
here_of before (suc left) = copies (suc left) (giving_in (part_of before).part ∷ []) ++ pass (list_at (part_of before).behind)

text_of : List ℕ → ℕ → List ℕ
text_of before zero = before
text_of before (suc left) = (part_of before).behind

-- what is to come behind that list
outer_of : List ℕ → List Group → ℕ → List ℕ → List formats.Edit
outer_of text groups zero after = []
outer_of text groups (suc depth) after =
    copies (group_of groups depth).left (pass (list_at (drop (group_of groups depth).start text)))
    ++ (pass (list_at after) ++ outer_of text groups depth (after_at after))

-- the rest of the outermost list
top_of : ℕ → Format → List ℕ → Format
top_of zero current after = current
top_of (suc depth) current after = top_of depth (list_at after) (after_at after)

abbrev rest_of : List ℕ → FormatWalk → List formats.Edit
rest_of text walk =
    here_of (drop walk.place text) walk.left ++ outer_of text walk.groups walk.depth (after_at (text_of (drop walk.place text) walk.left))

abbrev again_of : List ℕ → FormatWalk → List formats.Edit
again_of text walk =
    pass
    (unwrap_or
    (last_group (top_of walk.depth (list_at (text_of (drop walk.place text) walk.left)) (after_at (text_of (drop walk.place text) walk.left))))
    (list_at (drop walk.again text)))

record IsBelow (text : List ℕ) (groups : List Group) (top : Format) (depth : ℕ) (current : Format) (after : List ℕ) (rest : List formats.Edit) : Type 0 where
  rest_is : rest ≡ outer_of text groups depth after
  top_is : top ≡ top_of depth current after

is-below : {text : List ℕ} {groups : List Group} {top : Format} {depth : ℕ} {current : Format} {after : List ℕ} {rest : List formats.Edit} →
    Below text groups top depth current after rest → IsBelow text groups top depth current after rest
unfolding outer_of top_of
is-below (outermost same none) = record { rest_is = none; top_is = sym same }
is-below {text = text} {groups = groups} {after = after} (within {depth = depth} inner later behind outer inside starts bound heavy follows below is) =
    let lower : IsBelow text groups _ depth later behind outer = is-below below in
    let one : IsList inner (drop (group_of groups depth).start text) after = is-list inside in
    let next : IsList later after behind = is-list follows in
    record {
      rest_is = is
          ∙ ap (λ (list : Format). copies (group_of groups depth).left (pass list) ++ (pass later ++ outer)) one.list_is
          ∙ ap (λ (list : Format). copies (group_of groups depth).left (pass (list_at (drop (group_of groups depth).start text))) ++ (pass list ++ outer)) next.list_is
          ∙ ap (λ (others : List formats.Edit). copies (group_of groups depth).left (pass (list_at (drop (group_of groups depth).start text))) ++ (pass (list_at after) ++ others))
          (lower.rest_is ∙ ap (outer_of text groups depth) next.after_is);
      top_is = lower.top_is ∙ ap (λ (list : Format). top_of depth list behind) next.list_is ∙ ap (top_of depth (list_at after)) next.after_is;
    }

record IsHere (before : List ℕ) (left : ℕ) (current : Format) (after : List ℕ) (here : List formats.Edit) : Type 0 where
  here_is : here ≡ here_of before left
  current_is : current ≡ list_at (text_of before left)
  after_is : after ≡ after_at (text_of before left)

fresh-here : (before : List ℕ) (left : ℕ) (current : Format) (after : List ℕ) (here : List formats.Edit) → left ≡ 0 → IsList current before after → here ≡ pass current →
    IsHere before left current after here
unfolding here_of text_of
fresh-here before zero current after here none list is = record { here_is = is ∙ ap pass list.list_is; current_is = list.list_is; after_is = list.after_is }
fresh-here before (suc left) current after here none list is = absurd (omega arith)

begun-here : (before : List ℕ) (left count : ℕ) (given : formats.Edit) (middle : List ℕ) (current : Format) (after : List ℕ) (here : List formats.Edit) → 1 ≤ left →
    part_of before ≡ giving count given middle → IsList current middle after → here ≡ copies left (given ∷ []) ++ pass current → IsHere before left current after here
unfolding here_of text_of giving_in
begun-here before zero count given middle current after here some part list is = absurd (omega arith)
begun-here before (suc left) count given middle current after here some part list is =
    let moved : middle ≡ (part_of before).behind = sym (ap (λ (one : parts.Parted). one.behind) part) in
    let edit : given ≡ giving_in (part_of before).part = sym (ap (λ (one : parts.Parted). giving_in one.part) part) in
    record {
      here_is = is
          ∙ ap (λ (one : formats.Edit). copies (suc left) (one ∷ []) ++ pass current) edit
          ∙ ap (λ (one : Format). copies (suc left) (giving_in (part_of before).part ∷ []) ++ pass one) (list.list_is ∙ ap list_at moved);
      current_is = list.list_is ∙ ap list_at moved;
      after_is = list.after_is ∙ ap after_at moved;
    }

is-here : {text : List ℕ} {place left depth : ℕ} {current : Format} {after : List ℕ} {here : List formats.Edit} → Here text place left depth current after here →
    IsHere (drop place text) left current after here
is-here {text = text} {place = place} {left = left} {current = current} {after = after} {here = here} (before_part joint none spells is) =
    fresh-here (drop place text) left current after here none (is-list spells) is
is-here {text = text} {place = place} {left = left} {current = current} {after = after} {here = here} (begun count given joint middle some heavy part spells is) =
    begun-here (drop place text) left count given middle current after here some part (is-list spells) is

-- what is to come is what the place and the counts of the walk tell
record IsPlaced (text : List ℕ) (again : List formats.Edit) (walk : FormatWalk) (rest : List formats.Edit) : Type 0 where
  rest_is : rest ≡ rest_of text walk
  again_is : again ≡ again_of text walk

is-placed : (text : List ℕ) (again : List formats.Edit) (walk : FormatWalk) (rest : List formats.Edit) → Stands text again walk rest → IsPlaced text again walk rest
is-placed text again walk rest stands =
    let here : IsHere (drop walk.place text) walk.left stands.current stands.after stands.here = is-here stands.stands in
    let below : IsBelow text walk.groups stands.top walk.depth stands.current stands.after stands.outer = is-below stands.below in
    let reverted : IsList stands.reverted (drop walk.again text) stands.end = is-list stands.spells in
    record {
      rest_is = stands.whole
          ∙ ap (λ (one : List formats.Edit). one ++ stands.outer) here.here_is
          ∙ ap (λ (one : List formats.Edit). here_of (drop walk.place text) walk.left ++ one) (below.rest_is ∙ ap (outer_of text walk.groups walk.depth) here.after_is);
      again_is = stands.repeats
          ∙ ap pass
          (stands.goes_on
          ∙ ap (λ (list : Format). unwrap_or (last_group list) stands.reverted)
          (below.top_is ∙ ap (λ (list : Format). top_of walk.depth list stands.after) here.current_is
          ∙ ap (top_of walk.depth (list_at (text_of (drop walk.place text) walk.left))) here.after_is)
          ∙ ap (unwrap_or (last_group (top_of walk.depth (list_at (text_of (drop walk.place text) walk.left)) (after_at (text_of (drop walk.place text) walk.left))))) reverted.list_is);
    }

-- how many edits come before the next item, with it; and how many behind the last one
pub edits_ahead : List ℕ → FormatWalk → ℕ
edits_ahead text walk = length (for_next (again_of text walk) (rest_of text walk)).edits

pub edits_behind : List ℕ → FormatWalk → ℕ
edits_behind text walk = length (closing (rest_of text walk))

pub ahead-is : (text : List ℕ) (again : List formats.Edit) (walk : FormatWalk) (rest : List formats.Edit) → Stands text again walk rest → edits_ahead text walk ≡ length (for_next again rest).edits
unfolding edits_ahead
ahead-is text again walk rest stands =
    let placed : IsPlaced text again walk rest = is-placed text again walk rest stands in
    sym (ap (λ (one : List formats.Edit). length (for_next one rest).edits) placed.again_is ∙ ap (λ (one : List formats.Edit). length (for_next (again_of text walk) one).edits) placed.rest_is)

pub behind-is : (text : List ℕ) (again : List formats.Edit) (walk : FormatWalk) (rest : List formats.Edit) → Stands text again walk rest → edits_behind text walk ≡ length (closing rest)
unfolding edits_behind
behind-is text again walk rest stands = sym (ap (λ (one : List formats.Edit). length (closing one)) (is-placed text again walk rest stands).rest_is)
