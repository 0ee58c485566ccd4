-- A list of items is gone through, groups and all, up to its right parenthesis.
use Rattle.std.proofs.Common.{◌≡◌, max, List, [], ◌∷◌, ◌++◌, ℕ, zero, suc, ◌+◌, ◌-◌, ◌≤◌, ◌<◌, length, length-drop, drop, refl, sym, ap, ◌∙◌, subst, arith}
use Rattle.edit_meaning.specs.Formats.{Format, Edit, Stop, copies, pass}
use Rattle.edit_meaning.specs.FormatGrammar.{Joint, Wanted, Behind, SpellsList}
use Rattle.edit_rules.specs.FormatParts as parts
use Rattle.edit_rules.specs.FormatParts.{Parted, part_of}
use Rattle.edit_rules.specs.FormatScans.{weight_of, heaviest, Under, last, within, Scanning, Scanned, weight_in}
use Rattle.edit_rules.specs.PartPlaces.{part_in, parted_in}
use Rattle.edit_rules.specs.declared.format_parts.Parted as code_parted
use Rattle.edit_rules.specs.declared.format_parts.Part as code_part
use Rattle.edit_rules.specs.declared.edits.Edit as code
use Rattle.edit_rules.specs.declared.edits.Edit.TheVariants as edit
use Rattle.edit_rules.specs.declared.format_parts.Part.TheVariants as part
use Rattle.edit_rules.proofs.FormatReads.{Reads, closes, joins, gives, opens, reads, spelled_some}

pub heaviest-append : (a b : List Edit) → heaviest (a ++ b) ≡ max (heaviest a) (heaviest b)
heaviest-append [] b = omega arith
heaviest-append (e ∷ a) b = omega (arith, heaviest-append a b)

heaviest-copies : (n : ℕ) (edits : List Edit) → heaviest (copies n edits) ≤ heaviest edits
heaviest-copies zero edits = omega arith
heaviest-copies (suc n) edits = omega (arith, heaviest-append edits (copies n edits), heaviest-copies n edits)

pub heaviest-repeated : (n : ℕ) (edits : List Edit) → 1 ≤ n → heaviest (copies n edits) ≡ heaviest edits
heaviest-repeated zero edits h = absurd (omega arith)
heaviest-repeated (suc n) edits h = omega (arith, heaviest-append edits (copies n edits), heaviest-copies n edits)

pub scan_start : {inside : ℕ} {joint : Joint} {format : Format} {before after : List ℕ} → SpellsList inside joint format before after
    → Scanning (heaviest (pass format)) after 0 0 before
scan_start {inside = inside} {joint = joint} {format = format} {after = after} spells =
    record { inside = inside; joint = joint; format = format; after = after; more = 0; spells = spells; under = last refl refl; sum = omega arith }

part_is : {a b : Parted} → a ≡ b → a.part ≡ b.part
part_is e = ap (λ (p : Parted). p.part) e

behind_is : {a b : Parted} → a ≡ b → a.behind ≡ b.behind
behind_is e = ap (λ (p : Parted). p.behind) e

module _ (total : ℕ) (end : List ℕ) (depth weight : ℕ) (before : List ℕ) where
  joint_by : (part_of before).part ≡ parts.Joint → (s : Scanning total end depth weight before) → Reads s.inside s.format before s.after
      → Scanning total end depth weight (part_of before).behind
  joint_by p s (closes e _) = absurd (let q : parts.Closing ≡ parts.Joint = sym (part_is e) ∙ p in cc)
  joint_by p s (joins joint middle e later) = record {
    inside = s.inside;
    joint = joint;
    format = s.format;
    after = s.after;
    more = s.more;
    spells = subst (λ t. SpellsList s.inside joint s.format t s.after) (sym (behind_is e)) later;
    under = s.under;
    sum = s.sum;
  }
  joint_by p s (gives n edit later joint middle e _ _ _ _) = absurd (let q : parts.Giving n edit ≡ parts.Joint = sym (part_is e) ∙ p in cc)
  joint_by p s (opens n inner later inside middle e _ _ _ _ _) = absurd (let q : parts.Opening n ≡ parts.Joint = sym (part_is e) ∙ p in cc)

  pub scan_joint : (part_of before).part ≡ parts.Joint → Scanning total end depth weight before → Scanning total end depth weight (part_of before).behind
  scan_joint p s = joint_by p s (reads s.spells)

  give_by : (times : ℕ) (edit : Edit) → (part_of before).part ≡ parts.Giving times edit → (s : Scanning total end depth weight before) → Reads s.inside s.format before s.after
      → Scanning total end depth (max weight (weight_of edit)) (part_of before).behind
  give_by times edit p s (closes e _) = absurd (let q : parts.Closing ≡ parts.Giving times edit = sym (part_is e) ∙ p in cc)
  give_by times edit p s (joins joint middle e later) = absurd (let q : parts.Joint ≡ parts.Giving times edit = sym (part_is e) ∙ p in cc)
  give_by times edit p s (gives n given later joint middle e some spells same _) =
      let q : parts.Giving n given ≡ parts.Giving times edit = sym (part_is e) ∙ p in
      let f : given ≡ edit = cc in
      let weighs : weight_of given ≡ weight_of edit = ap weight_of f in
      record {
        inside = s.inside;
        joint = joint;
        format = later;
        after = s.after;
        more = s.more;
        spells = subst (λ t. SpellsList s.inside joint later t s.after) (sym (behind_is e)) spells;
        under = s.under;
        sum = let w = ap heaviest same in omega (arith, s.sum, w, heaviest-append (copies n (given ∷ [])) (pass later), heaviest-repeated n (given ∷ []) some, weighs);
      }
  give_by times edit p s (opens n inner later inside middle e _ _ _ _ _) = absurd (let q : parts.Opening n ≡ parts.Giving times edit = sym (part_is e) ∙ p in cc)

  pub scan_give : (times : ℕ) (edit : Edit) → (part_of before).part ≡ parts.Giving times edit → Scanning total end depth weight before
      → Scanning total end depth (max weight (weight_of edit)) (part_of before).behind
  scan_give times edit p s = give_by times edit p s (reads s.spells)

  open_by : (times : ℕ) → (part_of before).part ≡ parts.Opening times → (s : Scanning total end depth weight before) → Reads s.inside s.format before s.after
      → Scanning total end (suc depth) weight (part_of before).behind
  open_by times p s (closes e _) = absurd (let q : parts.Closing ≡ parts.Opening times = sym (part_is e) ∙ p in cc)
  open_by times p s (joins joint middle e later) = absurd (let q : parts.Joint ≡ parts.Opening times = sym (part_is e) ∙ p in cc)
  open_by times p s (gives n edit later joint middle e _ _ _ _) = absurd (let q : parts.Giving n edit ≡ parts.Opening times = sym (part_is e) ∙ p in cc)
  open_by times p s (opens n inner later inside middle e some deep spelled behind is) = record {
    inside = suc s.inside;
    joint = Wanted;
    format = inner;
    after = middle;
    more = max (heaviest (pass later)) s.more;
    spells = subst (λ t. SpellsList (suc s.inside) Wanted inner t middle) (sym (behind_is e)) spelled;
    under = within s.inside later s.after s.more behind s.under refl;
    sum = let w = ap (λ (f : Format). heaviest (pass f)) is in
        omega (arith, s.sum, w, heaviest-append (copies n (pass inner)) (pass later), heaviest-repeated n (pass inner) some);
  }

  pub scan_open : (times : ℕ) → (part_of before).part ≡ parts.Opening times → Scanning total end depth weight before
      → Scanning total end (suc depth) weight (part_of before).behind
  scan_open times p s = open_by times p s (reads s.spells)

module _ (total : ℕ) (end : List ℕ) (weight : ℕ) (before : List ℕ) where
  closed_by : (depth : ℕ) → (part_of before).part ≡ parts.Closing → (s : Scanning total end depth weight before) → Reads s.inside s.format before s.after
      → ((part_of before).behind ≡ s.after) × (max weight s.more ≡ total)
  closed_by depth p s (closes e f) = (behind_is e, let w = ap (λ (f : Format). heaviest (pass f)) f in omega (arith, s.sum, w))
  closed_by depth p s (joins joint middle e later) = absurd (let q : parts.Joint ≡ parts.Closing = sym (part_is e) ∙ p in cc)
  closed_by depth p s (gives n edit later joint middle e _ _ _ _) = absurd (let q : parts.Giving n edit ≡ parts.Closing = sym (part_is e) ∙ p in cc)
  closed_by depth p s (opens n inner later inside middle e _ _ _ _ _) = absurd (let q : parts.Opening n ≡ parts.Closing = sym (part_is e) ∙ p in cc)

  last_by : {after : List ℕ} {more : ℕ} → Under end 0 after more → (part_of before).behind ≡ after → max weight more ≡ total → Scanned total end weight (part_of before).behind
  last_by (last e f) b s = record { weighs = omega (arith, s, f); ends = b ∙ e }

  pub scan_end : (part_of before).part ≡ parts.Closing → Scanning total end 0 weight before → Scanned total end weight (part_of before).behind
  scan_end p s = let c = closed_by 0 p s (reads s.spells) in last_by s.under c.0 c.1

  outer_by : {depth : ℕ} {after : List ℕ} {more : ℕ} → Under end (suc depth) after more → (part_of before).behind ≡ after → max weight more ≡ total
      → Scanning total end depth weight (part_of before).behind
  outer_by (within inside later behind rest spells under e) b s = record {
    inside = inside;
    joint = Behind;
    format = later;
    after = behind;
    more = rest;
    spells = subst (λ t. SpellsList inside Behind later t behind) (sym b) spells;
    under = under;
    sum = omega (arith, s, e);
  }

  pub scan_close : (depth : ℕ) → (part_of before).part ≡ parts.Closing → Scanning total end (suc depth) weight before
      → Scanning total end depth weight (part_of before).behind
  scan_close depth p s = let c = closed_by (suc depth) p s (reads s.spells) in outer_by s.under c.0 c.1

-- nothing is gone through at the end of the text
pub scan_some : {total depth weight : ℕ} {end : List ℕ} → Scanning total end depth weight [] → ⊥
scan_some s = absurd (let h : 0 < length {A = ℕ} [] = spelled_some s.spells in omega (arith, h))

module _ (total : ℕ) (end : List ℕ) (depth weight : ℕ) (before text : List ℕ) where
  controls_by : (times : ℕ) (e : Edit) → weight_of e ≡ 2 → (part_of before).part ≡ parts.Giving times e → Scanning total end depth weight before
      → Scanning total end depth (max weight 2) (part_of before).behind
  controls_by times e w p s = subst (λ n. Scanning total end depth (max weight n) (part_of before).behind) w (scan_give total end depth weight before times e p s)

  nothing_by : (part_of before).part ≡ parts.Joint → Scanning total end depth weight before → Scanning total end depth (max weight 0) (part_of before).behind
  nothing_by p s = subst (λ n. Scanning total end depth n (part_of before).behind) (let e : weight ≡ max weight 0 = omega arith in e) (scan_joint total end depth weight before p s)

  -- an edit of the text is passed
  pub scan_edit : (times : ℕ) (given : code.Edit) → (part_of before).part ≡ part_in text (part.Give times given) → Scanning total end depth weight before
      → Scanning total end depth (max weight (weight_in given)) (part_of before).behind
  scan_edit times (edit.Int width least) p s = scan_give total end depth weight before times _ p s
  scan_edit times (edit.Logical width) p s = scan_give total end depth weight before times _ p s
  scan_edit times (edit.Text width) p s = scan_give total end depth weight before times _ p s
  scan_edit times (edit.Literal from to doubled) p s = controls_by times _ refl p s
  scan_edit times (edit.Column column) p s = controls_by times _ refl p s
  scan_edit times (edit.Left columns) p s = controls_by times _ refl p s
  scan_edit times (edit.Right columns) p s = controls_by times _ refl p s
  scan_edit times edit.NextRecord p s = controls_by times _ refl p s
  scan_edit times (edit.ShowPlus plus) p s = controls_by times _ refl p s
  scan_edit times (edit.ZeroBlanks zeros) p s = controls_by times _ refl p s
  scan_edit times edit.Done p s = nothing_by p s
  scan_edit times edit.NoDescriptor p s = nothing_by p s

module _ (total : ℕ) (end : List ℕ) (depth weight : ℕ) (before text : List ℕ) (given : code_part.Part) (p : (part_of before).part ≡ part_in text given) where
  pub over_joint : given ≡ part.Joint → Scanning total end depth weight before → Scanning total end depth weight (part_of before).behind
  over_joint e s = scan_joint total end depth weight before (p ∙ ap (part_in text) e) s

  pub over_open : (times : ℕ) → given ≡ part.Open times → Scanning total end depth weight before → Scanning total end (depth + 1) weight (part_of before).behind
  over_open times e s =
      subst (λ n. Scanning total end n weight (part_of before).behind) (let f : suc depth ≡ depth + 1 = omega arith in f)
      (scan_open total end depth weight before times (p ∙ ap (part_in text) e) s)

  pub over_close : given ≡ part.Close → 0 < depth → Scanning total end depth weight before → Scanning total end (depth - 1) weight (part_of before).behind
  over_close e h s =
      scan_close total end weight before (depth - 1) (p ∙ ap (part_in text) e)
      (subst (λ n. Scanning total end n weight before) (let f : depth ≡ suc (depth - 1) = omega arith in f) s)

  pub over_colon : (heavier : ℕ) → heavier ≡ max weight 1 → given ≡ part.Colon → Scanning total end depth weight before → Scanning total end depth heavier (part_of before).behind
  over_colon heavier h e s =
      subst (λ n. Scanning total end depth n (part_of before).behind) (sym h) (scan_give total end depth weight before 1 Stop (p ∙ ap (part_in text) e) s)

  pub over_edit : (times : ℕ) (e : code.Edit) (its heavier : ℕ) → its ≡ weight_in e → heavier ≡ max weight its → given ≡ part.Give times e → Scanning total end depth weight before
      → Scanning total end depth heavier (part_of before).behind
  over_edit times e its heavier i h is s =
      subst (λ n. Scanning total end depth n (part_of before).behind) (sym (h ∙ ap (max weight) i)) (scan_edit total end depth weight before text times e (p ∙ ap (part_in text) is) s)

pub ends_at : (total : ℕ) (end : List ℕ) (depth weight : ℕ) (before text : List ℕ) (parted : code_parted.Parted) → parted_in text parted ≡ part_of before
    → parted.part ≡ part.Close → depth ≡ 0 → Scanning total end depth weight before → Scanned total end weight (drop parted.behind text)
ends_at total end depth weight before text parted e is outermost s =
    subst (λ t. Scanned total end weight t) (sym (behind_is e))
    (scan_end total end weight before (sym (part_is e) ∙ ap (part_in text) is) (subst (λ n. Scanning total end n weight before) outermost s))

pub no_end : (total : ℕ) (end : List ℕ) (depth weight at : ℕ) (text : List ℕ) → length text ≤ at → Scanning total end depth weight (drop at text) → ⊥
no_end total end depth weight at text h s =
    absurd (let k : 0 < length (drop at text) = spelled_some s.spells in omega (arith, k, length-drop at text))
