-- The reader of bounded lists at numbers of items that code counts down.
use Rattle.std.proofs.Common.{◌≡◌, refl, ◌∙◌, ℕ, zero, suc, ◌-◌, ◌<◌, ◌≤◌, Bool, true, false, if◌then◌else◌, bytes_eq, List, [], ◌∷◌, ◌++◌, arith}
use Rattle.c_tree.specs.Tokens.{Word, Digits, Quoted, Sign, Including, Bad}
use Rattle.c_readers.specs.Readers.{Tokens, Reader, found, refused, ◌>>=◌, a_sign}
use Rattle.c_readers.specs.ListReader.{Closes, Neither, by_separator, behind_item}
use Rattle.c_readers.specs.ValueReader.{behind_bounded, bounded}
use Rattle.c_expression_reader.specs.Lists.{is_closed}
use Rattle.c_expression_reader.proofs.ListSteps.{closed_or, behind-closing}
use Rattle.c_declaration_reader.specs.Items.{is_closed_within}

-- where no item may follow
last-sign : {A : Type 0} (again : Reader (List A)) (items : List A) (text : List ℕ) (more : Tokens) (closes : Bool)
    → by_separator again items text more (if closes then Closes else Neither)
    ≡ (((if closes then found tt more else refused (Sign text ∷ more)) >>= (λ (u : Unit {0}). found true)) >>= closed_or again items)
last-sign again items text more true = refl
last-sign again items text more false = refl

-- where items may follow
unbounded : {A : Type 0} (again : Reader (List A)) (left : ℕ) (closing : List ℕ) (items : List A) (tokens : Tokens)
    → behind_bounded again (suc left) closing items tokens ≡ behind_item again closing items tokens
unfolding behind_bounded behind_item
unbounded again left closing items [] = refl
unbounded again left closing items (Sign text ∷ more) = refl
unbounded again left closing items (Word text ∷ more) = refl
unbounded again left closing items (Digits n ∷ more) = refl
unbounded again left closing items (Quoted bytes ∷ more) = refl
unbounded again left closing items (Including ∷ more) = refl
unbounded again left closing items (Bad ∷ more) = refl

pub behind-bounded : {A : Type 0} (again : Reader (List A)) (left : ℕ) (closing : List ℕ) (items : List A) (tokens : Tokens)
    → behind_bounded again left closing items tokens ≡ (is_closed_within left closing tokens >>= closed_or again items)
unfolding behind_bounded is_closed_within a_sign
behind-bounded again zero closing items [] = refl
behind-bounded again zero closing items (Sign text ∷ more) = last-sign again items text more (bytes_eq text closing)
behind-bounded again zero closing items (Word text ∷ more) = refl
behind-bounded again zero closing items (Digits n ∷ more) = refl
behind-bounded again zero closing items (Quoted bytes ∷ more) = refl
behind-bounded again zero closing items (Including ∷ more) = refl
behind-bounded again zero closing items (Bad ∷ more) = refl
behind-bounded again (suc left) closing items tokens = unbounded again left closing items tokens ∙ behind-closing again closing items tokens

pub bounded-step : {A : Type 0} (item : Reader A) (closing : List ℕ) (count : ℕ) (items : List A) (tokens : Tokens) → 0 < count
    → bounded item closing count items tokens
    ≡ (item tokens >>= (λ one. behind_bounded (bounded item closing (count - 1) (items ++ (one ∷ []))) (count - 1) closing (items ++ (one ∷ []))))
unfolding bounded
bounded-step item closing zero items tokens h = absurd (omega arith)
bounded-step item closing (suc count) items tokens h = let e : suc count - 1 ≡ count = omega arith in rw e refl

pub bounded-none : {A : Type 0} (item : Reader A) (closing : List ℕ) (count : ℕ) (items : List A) (tokens : Tokens) → count ≤ 0
    → bounded item closing count items tokens ≡ refused tokens
unfolding bounded
bounded-none item closing zero items tokens h = refl
bounded-none item closing (suc count) items tokens h = absurd (omega (arith, h))

-- where items may follow
pub closed_more : (left : ℕ) (closing : List ℕ) (tokens : Tokens) → 0 < left → is_closed_within left closing tokens ≡ is_closed closing tokens
unfolding is_closed_within
closed_more zero closing tokens h = absurd (omega arith)
closed_more (suc left) closing tokens h = refl

pub ruleset bounded_steps = (bounded-step, bounded-none, behind-bounded)
