-- The names of included files.
use Rattle.std.specs.Prelude.{◌≡◌, ◌<◌, ◌≤◌, ◌+◌, ℕ, Bool, true, false, not, cond, ◌||◌, bytes_eq, List, [], ◌∷◌, ◌++◌, length, drop, Option, Some, None, if◌then◌else◌}
use Rattle.std.specs.Option.{option_to_list}
use Rattle.std.specs.Borrow.{Bor}
use Rattle.std.specs.Bool.{OnFalse}
use Rattle.std.specs.HashSet.{HashSet, contains}
use Rattle.std.specs.List.{list_any}
use Rattle.std.proofs.Common.{refl, sym, ap, ◌∙◌, subst, append_assoc, get_or}
use Rattle.std.proofs.lemmas.List.{append-nil, drop_more, drop_all}
use Rattle.std.proofs.lemmas.Slice.Eq.{bytes_eq-Decides}
use Rattle.f_tree.specs.Uses.{is_among}
use Rattle.fortran_text.specs.StatementsOfFile.{FileCards}
use Rattle.fortran_text.specs.declared.source.Statement.{Statement}
use Rattle.source_acceptance.specs.SourceFiles.{included_name, names_in, first_mentions}
use Rattle.source_reader.specs.Mentions.{mentioned_in_cards}

-- NAMES IN STATEMENTS
name_first : (s : Statement) (more : List Statement) (o : Option (List ℕ)) → included_name s ≡ o → names_in (s ∷ more) ≡ option_to_list o ++ names_in more
unfolding names_in
name_first s more None is = ap (λ o. elim o [ None ↦ names_in more | Some name ↦ name ∷ names_in more ]) is
name_first s more (Some name) is = ap (λ o. elim o [ None ↦ names_in more | Some name ↦ name ∷ names_in more ]) is

no_name : names_in [] ≡ []
unfolding names_in
no_name = refl

pub names_go_on : (statements : List Statement) (i : ℕ) (s : Statement) (names more : List (List ℕ)) (o : Option (List ℕ)) → i < length statements →
    s ≡ get_or statements i s → names_in statements ≡ names ++ names_in (drop i statements) → o ≡ included_name s → more ≡ names ++ option_to_list o →
    names_in statements ≡ more ++ names_in (drop (i + 1) statements)
names_go_on statements i s names more o within is so_far name_is more_is =
    so_far
    ∙ (ap (λ l. names ++ names_in l) (drop_more statements i s within ∙ ap (λ t. t ∷ drop (i + 1) statements) (sym is))
    ∙ (ap (λ l. names ++ l) (name_first s (drop (i + 1) statements) o (sym name_is))
    ∙ (sym (append_assoc names (option_to_list o) (names_in (drop (i + 1) statements)))
    ∙ ap (λ l. l ++ names_in (drop (i + 1) statements)) (sym more_is))))

pub names_end : (statements : List Statement) (i : ℕ) (names : List (List ℕ)) → length statements ≤ i →
    names_in statements ≡ names ++ names_in (drop i statements) → names ≡ names_in statements
names_end statements i names past so_far =
    sym (so_far ∙ (ap (λ l. names ++ names_in l) (drop_all i statements past) ∙ (ap (λ l. names ++ l) no_name ∙ append-nil names)))

-- NAMES IN FILES
file_first : (f : FileCards) (more : List FileCards) → mentioned_in_cards (f ∷ more) ≡ names_in f.statements ++ mentioned_in_cards more
unfolding mentioned_in_cards
file_first f more = refl

no_file : mentioned_in_cards [] ≡ []
unfolding mentioned_in_cards
no_file = refl

pub files_go_on : (files : List FileCards) (i : ℕ) (f : FileCards) (names more next : List (List ℕ)) → i < length files → f ≡ get_or files i f →
    mentioned_in_cards files ≡ names ++ mentioned_in_cards (drop i files) → more ≡ names_in f.statements → next ≡ names ++ more →
    mentioned_in_cards files ≡ next ++ mentioned_in_cards (drop (i + 1) files)
files_go_on files i f names more next within is so_far more_is next_is =
    so_far
    ∙ (ap (λ l. names ++ mentioned_in_cards l) (drop_more files i f within ∙ ap (λ t. t ∷ drop (i + 1) files) (sym is))
    ∙ (ap (λ l. names ++ l) (file_first f (drop (i + 1) files) ∙ ap (λ l. l ++ mentioned_in_cards (drop (i + 1) files)) (sym more_is))
    ∙ (sym (append_assoc names more (mentioned_in_cards (drop (i + 1) files))) ∙ ap (λ l. l ++ mentioned_in_cards (drop (i + 1) files)) (sym next_is))))

pub files_end : (files : List FileCards) (i : ℕ) (names : List (List ℕ)) → length files ≤ i →
    mentioned_in_cards files ≡ names ++ mentioned_in_cards (drop i files) → names ≡ mentioned_in_cards files
files_end files i names past so_far =
    sym (so_far ∙ (ap (λ l. names ++ mentioned_in_cards l) (drop_all i files past) ∙ (ap (λ l. names ++ l) no_file ∙ append-nil names)))

-- EACH NAME ONCE
opposite : (b : Bool) → b ≡ false → b ≡ true → ⊥
opposite b no_more yes_more = let e : false ≡ true = sym no_more ∙ yes_more in absurd (cc)

pub same_bytes : (xs ys : List ℕ) → bytes_eq xs ys ≡ true → xs ≡ ys
same_bytes xs ys is = (bytes_eq-Decides xs ys).0 is

pub bytes_same : (xs ys : List ℕ) → xs ≡ ys → bytes_eq xs ys ≡ true
bytes_same xs ys is = (bytes_eq-Decides xs ys).1 is

turned_by : (xs ys : List ℕ) (a b : Bool) → bytes_eq xs ys ≡ a → bytes_eq ys xs ≡ b → a ≡ b
turned_by xs ys true true one other = refl
turned_by xs ys true false one other = absurd (opposite (bytes_eq ys xs) other (bytes_same ys xs (sym (same_bytes xs ys one))))
turned_by xs ys false true one other = absurd (opposite (bytes_eq xs ys) one (bytes_same xs ys (sym (same_bytes ys xs other))))
turned_by xs ys false false one other = refl

pub turned : (xs ys : List ℕ) → bytes_eq xs ys ≡ bytes_eq ys xs
turned xs ys = turned_by xs ys (bytes_eq xs ys) (bytes_eq ys xs) refl refl

mention_by : (seen : List (List ℕ)) (name : List ℕ) (more : List (List ℕ)) (b : Bool) → is_among name seen ≡ b →
    first_mentions seen (name ∷ more) ≡ (if b then first_mentions seen more else name ∷ first_mentions (name ∷ seen) more)
unfolding first_mentions
mention_by seen name more b is = ap (λ c. if c then first_mentions seen more else name ∷ first_mentions (name ∷ seen) more) is

no_mention : (seen : List (List ℕ)) → first_mentions seen [] ≡ []
unfolding first_mentions
no_mention seen = refl

among_first : (x y : List ℕ) (ys : List (List ℕ)) → is_among x (y ∷ ys) ≡ (bytes_eq x y || is_among x ys)
unfolding is_among
among_first x y ys = refl

pub record Noted (mentions rest names : List (List ℕ)) (has : Bor (List ℕ) → Bool) : Type 0 where
  pub seen : List (List ℕ)
  pub among : (q : Bor (List ℕ)) → has q ≡ is_among q.now seen
  pub split : first_mentions [] mentions ≡ names ++ first_mentions seen rest

among_none : (x : List ℕ) → is_among x [] ≡ false
unfolding is_among
among_none x = refl

pub noting_starts : (mentions : List (List ℕ)) (has : Bor (List ℕ) → Bool) → ((q : Bor (List ℕ)) → has q ≡ false) → Noted mentions mentions [] has
noting_starts mentions has none = record { seen = []; among = λ q. none q ∙ sym (among_none q.now); split = refl }

pub noting_old : (mentions rest names : List (List ℕ)) (has next : Bor (List ℕ) → Bool) (name : Bor (List ℕ)) →
    Noted mentions (name.now ∷ rest) names has → has name ≡ true → ((q : Bor (List ℕ)) → next q ≡ has q) → Noted mentions rest names next
noting_old mentions rest names has next name so_far known same = record {
  seen = so_far.seen;
  among = λ q. same q ∙ so_far.among q;
  split = so_far.split ∙ ap (λ l. names ++ l) (mention_by so_far.seen name.now rest true (sym (so_far.among name) ∙ known));
}

cond_or : (b c d : Bool) → b ≡ d → cond b true c ≡ (d || c)
cond_or true c true is = refl
cond_or false c false is = refl
cond_or true c false is = absurd (cc)
cond_or false c true is = absurd (cc)

pub noting_new : (mentions rest names more : List (List ℕ)) (has next : Bor (List ℕ) → Bool) (name : Bor (List ℕ)) →
    Noted mentions (name.now ∷ rest) names has → has name ≡ false → ((q : Bor (List ℕ)) → next q ≡ cond (bytes_eq name.now q.now) true (has q)) →
    more ≡ names ++ name.now ∷ [] → Noted mentions rest more next
noting_new mentions rest names more has next name so_far unknown changed more_is = record {
  seen = name.now ∷ so_far.seen;
  among = λ q. changed q ∙ (cond_or (bytes_eq name.now q.now) (has q) (bytes_eq q.now name.now) (turned name.now q.now)
      ∙ (ap (λ b. bytes_eq q.now name.now || b) (so_far.among q) ∙ sym (among_first q.now name.now so_far.seen)));
  split = so_far.split ∙ (ap (λ l. names ++ l) (mention_by so_far.seen name.now rest false (sym (so_far.among name) ∙ unknown))
      ∙ (sym (append_assoc names (name.now ∷ []) (first_mentions (name.now ∷ so_far.seen) rest))
      ∙ ap (λ l. l ++ first_mentions (name.now ∷ so_far.seen) rest) (sym more_is)));
}

pub noting_at : (mentions names : List (List ℕ)) (has : Bor (List ℕ) → Bool) (i : ℕ) (name : List ℕ) → i < length mentions → name ≡ get_or mentions i name →
    Noted mentions (drop i mentions) names has → Noted mentions (name ∷ drop (i + 1) mentions) names has
noting_at mentions names has i name within is so_far =
    subst (λ l. Noted mentions l names has) (drop_more mentions i name within ∙ ap (λ n. n ∷ drop (i + 1) mentions) (sym is)) so_far

-- the names that are in a set
abbrev pub has_name : {S : Type 0} → HashSet (Bor (List ℕ)) S → Bor (List ℕ) → Bool
has_name set q = contains (λ x y. bytes_eq x.now y.now) set q

keys_same : {S : Type 0} (old new : HashSet (Bor (List ℕ)) S) → new.keys ≡ old.keys → (q : Bor (List ℕ)) → has_name new q ≡ has_name old q
keys_same old new same q = ap (list_any (λ (y : Bor (List ℕ)). bytes_eq q.now y.now)) same

not_false : (b : Bool) → false ≡ not b → b ≡ true
not_false true is = refl
not_false false is = absurd (cc)

not_true : (b : Bool) → true ≡ not b → b ≡ false
not_true false is = refl
not_true true is = absurd (cc)

pub noting_begins : {S : Type 0} (mentions names : List (List ℕ)) (set : HashSet (Bor (List ℕ)) S) → names ≡ [] → set.keys ≡ [] →
    Noted mentions mentions names (has_name set)
noting_begins mentions names set no_names no_keys =
    subst (λ l. Noted mentions mentions l (has_name set)) (sym no_names)
    (noting_starts mentions (has_name set) (λ q. ap (list_any (λ (y : Bor (List ℕ)). bytes_eq q.now y.now)) no_keys))

noting_key : (mentions names : List (List ℕ)) (has : Bor (List ℕ) → Bool) (i : ℕ) (item : List ℕ) (key : Bor (List ℕ)) → i < length mentions →
    item ≡ get_or mentions i item → key.now ≡ item → Noted mentions (drop i mentions) names has → Noted mentions (key.now ∷ drop (i + 1) mentions) names has
noting_key mentions names has i item key within is key_is so_far =
    subst (λ n. Noted mentions (n ∷ drop (i + 1) mentions) names has) (sym key_is) (noting_at mentions names has i item within is so_far)

pub noting_known : {S : Type 0} (mentions names next : List (List ℕ)) (i : ℕ) (item : List ℕ) (key : Bor (List ℕ)) (old new : HashSet (Bor (List ℕ)) S)
    (added : Bool) → i < length mentions → item ≡ get_or mentions i item → key.now ≡ item → Noted mentions (drop i mentions) names (has_name old) →
    added ≡ not (has_name old key) → OnFalse added (new.keys ≡ old.keys) → added ≡ false → next ≡ names →
    Noted mentions (drop (i + 1) mentions) next (has_name new)
noting_known mentions names next i item key old new added within is key_is so_far added_is unchanged false_is next_is =
    subst (λ l. Noted mentions (drop (i + 1) mentions) l (has_name new)) (sym next_is)
    (noting_old mentions (drop (i + 1) mentions) names (has_name old) (has_name new) key
    (noting_key mentions names (has_name old) i item key within is key_is so_far) (not_false (has_name old key) (sym false_is ∙ added_is))
    (keys_same old new (subst (λ b. OnFalse b (new.keys ≡ old.keys)) false_is unchanged)))

pub noting_unknown : {S : Type 0} (mentions names next : List (List ℕ)) (i : ℕ) (item copy : List ℕ) (key : Bor (List ℕ)) (old new : HashSet (Bor (List ℕ)) S)
    (added : Bool) → i < length mentions → item ≡ get_or mentions i item → key.now ≡ item → Noted mentions (drop i mentions) names (has_name old) →
    added ≡ not (has_name old key) → ((q : Bor (List ℕ)) → has_name new q ≡ cond (bytes_eq key.now q.now) true (has_name old q)) → added ≡ true →
    copy ≡ item → next ≡ names ++ copy ∷ [] → Noted mentions (drop (i + 1) mentions) next (has_name new)
noting_unknown mentions names next i item copy key old new added within is key_is so_far added_is changed true_is copy_is next_is =
    noting_new mentions (drop (i + 1) mentions) names next (has_name old) (has_name new) key
    (noting_key mentions names (has_name old) i item key within is key_is so_far) (not_true (has_name old key) (sym true_is ∙ added_is)) changed
    (next_is ∙ ap (λ n. names ++ n ∷ []) (copy_is ∙ sym key_is))

pub noting_ends : (mentions rest names : List (List ℕ)) (has : Bor (List ℕ) → Bool) → Noted mentions rest names has → rest ≡ [] → names ≡ first_mentions [] mentions
noting_ends mentions rest names has so_far none =
    sym (so_far.split ∙ (ap (λ l. names ++ first_mentions so_far.seen l) none ∙ (ap (λ l. names ++ l) (no_mention so_far.seen) ∙ append-nil names)))
