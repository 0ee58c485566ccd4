-- Givens put behind those that are kept, one by one, and what a table has of them.
use Rattle.std.specs.Prelude.{◌≡◌, ℕ, Bool, true, false, ◌&&◌, ◌||◌, List, [], ◌∷◌, ◌++◌, bytes_eq, Option, Some, None, if◌then◌else◌}
use Rattle.std.proofs.Common.{refl, sym, ap, ◌∙◌}
use Rattle.std.proofs.lemmas.Slice.Eq.{bytes_eq-Decides}
use Rattle.f_tree.specs.Values.{Bytes}
use Rattle.f_tree.specs.Attributes.{entry_dummies_in, named_dummies}
use Rattle.f_tree.specs.declared.refusals.Kind.TheVariants.{ConflictingAttributes}
use Rattle.f_tree.specs.declared.refusals.Refusal.{Refusal}
use Rattle.f_tree.specs.declared.statements.Stmt.{Stmt}
use Rattle.f_tree.specs.declared.units.Unit.{Unit as WrittenUnit}
use Rattle.declaration_rows.specs.Judgement.{unless}
use Rattle.declaration_rows.specs.NameRows.{stood}
use Rattle.declaration_rows.specs.GivenRows.{Given, Gift, given, exclude, conflicts, Kept, kept_from, no_name_twice, givens_of, heading_givens}
use Rattle.name_table.specs.declared.NameTable.{NameTable}
use Rattle.name_table.specs.Named.{value_of}
use Rattle.given_judge.specs.declared.gifts.Barred.{Barred}
use Rattle.given_judge.specs.declared.gifts.Gift.TheVariants as gift
use Rattle.given_judge.specs.declared.givens.GivenName.{GivenName}
use Rattle.given_judge.specs.GiftsSeen.{bars, bars_at}
use Rattle.given_judge.specs.KeptSeen.{IsKept, Keeps, IsJudged, statement_rows}

-- CONFLICTS
abbrev clashes : Given → Given → Bool
clashes g k = bytes_eq k.name g.name && exclude k.gift g.gift

or_none : (b : Bool) → (b || false) ≡ b
or_none true = refl
or_none false = refl

or_along : (a b c : Bool) → (a || (b || c)) ≡ ((a || b) || c)
or_along true b c = refl
or_along false b c = refl

pub conflicts_more : (ks : List Given) (k g : Given) → conflicts (ks ++ k ∷ []) g ≡ (conflicts ks g || clashes g k)
unfolding conflicts
conflicts_more [] k g = or_none (clashes g k)
conflicts_more (h ∷ ks) k g = ap (λ b. clashes g h || b) (conflicts_more ks k g) ∙ or_along (clashes g h) (conflicts ks g) (clashes g k)

pub conflicts_none : (g : Given) → conflicts [] g ≡ false
unfolding conflicts
conflicts_none g = refl

-- ONE BEHIND THE OTHER
givens_by : (b : Bool) (one other first second : Kept) (hs : List Given) → one.givens ≡ (kept_from first.givens hs).givens → other.givens ≡ (kept_from second.givens hs).givens
    → (if b then record one { sound = false } else other).givens ≡ (kept_from (if b then record first { sound = false } else second).givens hs).givens
givens_by true one other first second hs is other_is = is
givens_by false one other first second hs is other_is = other_is

givens_append : (ks gs hs : List Given) → (kept_from ks (gs ++ hs)).givens ≡ (kept_from (kept_from ks gs).givens hs).givens
unfolding kept_from
givens_append ks [] hs = refl
givens_append ks (g ∷ gs) hs =
    givens_by (conflicts ks g) (kept_from ks (gs ++ hs)) (kept_from (ks ++ g ∷ []) (gs ++ hs)) (kept_from ks gs) (kept_from (ks ++ g ∷ []) gs) hs (givens_append ks gs hs)
    (givens_append (ks ++ g ∷ []) gs hs)

sound_by : (b : Bool) (one other first second : Kept) (hs : List Given) → other.sound ≡ (second.sound && (kept_from second.givens hs).sound)
    → (if b then record one { sound = false } else other).sound
    ≡ ((if b then record first { sound = false } else second).sound && (kept_from (if b then record first { sound = false } else second).givens hs).sound)
sound_by true one other first second hs is = refl
sound_by false one other first second hs is = is

sound_append : (ks gs hs : List Given) → (kept_from ks (gs ++ hs)).sound ≡ ((kept_from ks gs).sound && (kept_from (kept_from ks gs).givens hs).sound)
unfolding kept_from
sound_append ks [] hs = refl
sound_append ks (g ∷ gs) hs =
    sound_by (conflicts ks g) (kept_from ks (gs ++ hs)) (kept_from (ks ++ g ∷ []) (gs ++ hs)) (kept_from ks gs) (kept_from (ks ++ g ∷ []) gs) hs (sound_append (ks ++ g ∷ []) gs hs)

and_flip : (a b : Bool) → (a && b) ≡ (b && a)
and_flip true true = refl
and_flip true false = refl
and_flip false true = refl
and_flip false false = refl

-- WHAT A TABLE HAS
kept_as : (t : NameTable Barred) (ks ls : List Given) → ks ≡ ls → IsKept t ks → IsKept t ls
kept_as t ks ls is known = record { barred = λ x g. known.barred x g ∙ ap (λ gs. conflicts gs (given g x)) is }

pub keeps_none : (t : NameTable Barred) → Keeps t t [] true
unfolding kept_from
keeps_none t = record { kept = λ ks known. known; sound = λ ks known. refl }

pub keeps_both : (before between after : NameTable Barred) (gs hs : List Given) (one other both : Bool) → Keeps before between gs one → Keeps between after hs other → both ≡ (other && one)
    → Keeps before after (gs ++ hs) both
keeps_both before between after gs hs one other both first second is = record {
  kept = λ ks known. kept_as after (kept_from (kept_from ks gs).givens hs).givens (kept_from ks (gs ++ hs)).givens (sym (givens_append ks gs hs)) (second.kept (kept_from ks gs).givens (first.kept ks known));
  sound = λ ks known.
      is ∙ and_flip other one ∙ ap (λ b. b && other) (first.sound ks known) ∙ ap (λ b. (kept_from ks gs).sound && b) (second.sound (kept_from ks gs).givens (first.kept ks known))
      ∙ sym (sound_append ks gs hs);
}

one_by : (ks : List Given) (g : Given) (b : Bool) → conflicts ks g ≡ b → kept_from ks (g ∷ []) ≡ (if b then record { givens = ks; sound = false } else record { givens = ks ++ g ∷ []; sound = true })
unfolding kept_from
one_by ks g b is = ap (λ c. if c then record (kept_from ks []) { sound = false } else kept_from (ks ++ g ∷ []) []) is

barred_at : (t : NameTable Barred) (ks : List Given) (g : Given) (b : Bool) → IsKept t ks → bars_at (value_of t g.name) g.gift ≡ b → conflicts ks g ≡ b
unfolding given
barred_at t ks g b known is = sym (known.barred g.name g.gift) ∙ is

-- a given that conflicts is not kept
pub keeps_not : (t : NameTable Barred) (g : Given) → bars_at (value_of t g.name) g.gift ≡ true → Keeps t t (g ∷ []) false
keeps_not t g is = record {
  kept = λ ks known. kept_as t ks (kept_from ks (g ∷ [])).givens (sym (ap (λ (k : Kept). k.givens) (one_by ks g true (barred_at t ks g true known is)))) known;
  sound = λ ks known. sym (ap (λ (k : Kept). k.sound) (one_by ks g true (barred_at t ks g true known is)));
}

put_by : (e : Bool) (before : Option Barred) (wider : Barred) (at : Option Barred) (g : Gift) (k : Gift) (c : Bool) → ((h : Gift) → bars wider h ≡ (bars_at before h || exclude k h)) → bars_at at g ≡ c
    → (e ≡ true → before ≡ at) → bars_at (if e then Some wider else at) g ≡ (c || (e && exclude k g))
unfolding bars_at
put_by true before wider at g k c also is same = also g ∙ ap (λ o. bars_at o g || exclude k g) (same refl) ∙ ap (λ b. b || exclude k g) is
put_by false before wider at g k c also is same = is ∙ sym (or_none c)

same_name : (t : NameTable Barred) (x y : Bytes) → bytes_eq x y ≡ true → value_of t x ≡ value_of t y
same_name t x y h = ap (value_of t) ((bytes_eq-Decides x y).0 h)

-- one that does not conflict is kept
pub keeps_one : (t after : NameTable Barred) (g : Given) (wider : Barred) → bars_at (value_of t g.name) g.gift ≡ false
    → ((h : Gift) → bars wider h ≡ (bars_at (value_of t g.name) h || exclude g.gift h)) → ((q : List ℕ) → value_of after q ≡ (if bytes_eq g.name q then Some wider else value_of t q))
    → Keeps t after (g ∷ []) true
unfolding given
keeps_one t after g wider is also put = record {
  kept = λ ks known.
      kept_as after (ks ++ g ∷ []) (kept_from ks (g ∷ [])).givens (sym (ap (λ (k : Kept). k.givens) (one_by ks g false (barred_at t ks g false known is))))
      (record {
        barred = λ x h.
            ap (λ o. bars_at o h) (put x)
            ∙ put_by (bytes_eq g.name x) (value_of t g.name) wider (value_of t x) h g.gift (conflicts ks (given h x)) also (known.barred x h) (same_name t g.name x)
            ∙ sym (conflicts_more ks g (given h x));
      });
  sound = λ ks known. sym (ap (λ (k : Kept). k.sound) (one_by ks g false (barred_at t ks g false known is)));
}

-- no name is barred anything yet
pub nothing_kept : (t : NameTable Barred) → ((q : List ℕ) → value_of t q ≡ None) → IsKept t []
unfolding bars_at
nothing_kept t none = record { barred = λ x g. ap (λ o. bars_at o g) (none x) ∙ sym (conflicts_none (given g x)) }

pub keeps_end : (before after : NameTable Barred) (gs hs : List Given) (sound : Bool) → gs ≡ hs → Keeps before after gs sound → Keeps before after hs sound
keeps_end before after gs hs sound is keeps = record {
  kept = λ ks known. kept_as after (kept_from ks gs).givens (kept_from ks hs).givens (ap (λ ls. (kept_from ks ls).givens) is) (keeps.kept ks known);
  sound = λ ks known. keeps.sound ks known ∙ ap (λ ls. (kept_from ks ls).sound) is;
}

-- the first statement of a unit, and another one
pub heading_kept : (u : WrittenUnit) (before after : NameTable Barred) (gs : List Given) (sound : Bool) → gs ≡ heading_givens u → Keeps before after gs sound → IsKept before []
    → IsKept after (kept_from [] (heading_givens u)).givens
heading_kept u before after gs sound is keeps known = (keeps_end before after gs (heading_givens u) sound is keeps).kept [] known

pub heading_sound : (u : WrittenUnit) (before after : NameTable Barred) (gs : List Given) (sound differ : Bool) → gs ≡ heading_givens u → Keeps before after gs sound → IsKept before []
    → differ ≡ no_name_twice (named_dummies u.dummies) → (sound && differ) ≡ ((kept_from [] (heading_givens u)).sound && no_name_twice (named_dummies u.dummies))
heading_sound u before after gs sound differ is keeps known differ_is =
    ap (λ b. b && differ) ((keeps_end before after gs (heading_givens u) sound is keeps).sound [] known) ∙ ap (λ b. (kept_from [] (heading_givens u)).sound && b) differ_is

pub judged : (u : WrittenUnit) (s : Stmt) (before after : NameTable Barred) (found now : List Refusal) (gs : List Given) (sound differ holds : Bool) → gs ≡ givens_of u s.body
    → Keeps before after gs sound → differ ≡ no_name_twice (entry_dummies_in s.body) → holds ≡ (sound && differ) → now ≡ found ++ stood s (unless holds ConflictingAttributes)
    → IsJudged u s before after found now
unfolding statement_rows
judged u s before after found now gs sound differ holds is keeps differ_is holds_is put =
    let all : Keeps before after (givens_of u s.body) sound = keeps_end before after gs (givens_of u s.body) sound is keeps in
    record {
      kept = λ ks known. all.kept ks known;
      rows = λ ks known.
          put ∙ ap (λ b. found ++ stood s (unless b ConflictingAttributes)) holds_is ∙ ap (λ b. found ++ stood s (unless (b && differ) ConflictingAttributes)) (all.sound ks known)
          ∙ ap (λ b. found ++ stood s (unless ((kept_from ks (givens_of u s.body)).sound && b) ConflictingAttributes)) differ_is;
    }

-- what stands past the end of a list of givens
abbrev pub no_given : GivenName
no_given = record { name = record { ref_ptr = (0, 0); now = [] }; gift = gift.TypeOf }
