-- What is told of a shelf before and after a command and its message.
use Rattle.std.proofs.Common.{◌≡◌, ℕ, ◌+◌, ◌<◌, ◌≤◌, List, [], ◌∷◌, ◌++◌, ◌^◌, Option, Some, None, option_map, refl, ap, ◌∙◌, subst, arith}
use Rattle.std.specs.Prelude.{IfSome}
use Rattle.f2c_outside.specs.declared.shelves.Place.TheVariants.{Fault}
use Rattle.f2c_outside.specs.Shelf.{ShelfState, Contents, Rose, Quiet, added}
use Rattle.f2c_outside.proofs.ShelfLaws.{told-nil}
use Rattle.shelf_texts.specs.Messages.{Said, Gained}
use Rattle.shelf_texts.specs.ShelfLoops.{Both, IsFront}

-- a fact of what is told, where something is
pub some_at : {A : Type 0} (told : Option A) (Q : A → Type 0) (x : A) → told ≡ Some x → IfSome told Q → Q x
some_at None Q x is fact = absurd (cc)
some_at (Some y) Q x is fact = let same : y ≡ x = cc in subst Q same fact

pub for_some : {A : Type 0} (told : Option A) (Q : A → Type 0) → ((x : A) → told ≡ Some x → Q x) → IfSome told Q
for_some None Q h = tt
for_some (Some x) Q h = h x refl

pub both_then :
    {A : Type 0} (told told' : Option A) (P Q : A → A → Type 0)
    → Both told told' P
    → ((x y : A) → told ≡ Some x → P x y → Q x y)
    → Both told told' Q
both_then None None P Q fact h = tt
both_then (Some x) (Some y) P Q fact h = h x y refl fact
both_then None (Some y) P Q fact h = absurd fact
both_then (Some x) None P Q fact h = absurd fact

pub both_mapped :
    {A : Type 0} (f : A → A) (told told' : Option A) (P Q : A → A → Type 0)
    → Both (option_map f told) told' P
    → ((x y : A) → told ≡ Some x → P (f x) y → Q x y)
    → Both told told' Q
both_mapped f None None P Q fact h = tt
both_mapped f (Some x) (Some y) P Q fact h = h x y refl fact
both_mapped f None (Some y) P Q fact h = absurd fact
both_mapped f (Some x) None P Q fact h = absurd fact

pub gained-told :
    (line part : List ℕ) (before middle after : ℕ) (told told' : Option Contents)
    → IsFront part line
    → told' ≡ option_map (added Fault part) told
    → (Quiet middle after → told' ≡ option_map (added Fault line) told)
    → before ≤ middle
    → middle ≤ after
    → Both told told' (Gained line before after)
gained-told line part before middle after None None front put whole first last = tt
gained-told line part before middle after (Some x) (Some y) front put whole first last =
    record {
      part = part;
      front = front;
      put = cc;
      whole = λ quiet.
          let below : after + 1 < 2 ^ 64 = quiet.below
          in let same : after ≡ middle = omega (arith, quiet.same)
          in let q : Quiet middle after = record { below = below; same = same }
          in let e : Some y ≡ Some (added Fault line x) = whole q in cc;
    }
gained-told line part before middle after None (Some y) front put whole first last = absurd (cc)
gained-told line part before middle after (Some x) None front put whole first last = absurd (cc)

-- what a message that follows on a state with these contents leaves
pub gained :
    (line : List ℕ) (told : Option Contents) (before : ℕ) (m a : ShelfState)
    → m.told ≡ told
    → before ≤ m.faults
    → Said line m a
    → Both told a.told (Gained line before a.faults)
gained line told before m a is first said =
    subst (λ (t : Option Contents). Both t a.told (Gained line before a.faults)) is
    (gained-told line said.part before m.faults a.faults m.told a.told said.front said.put said.whole first said.later)

pub front-nil : (part : List ℕ) → IsFront part [] → part ≡ []
front-nil [] front = refl
front-nil (x ∷ part) front = let e : x ∷ (part ++ front.rest) ≡ [] = front.is in absurd (cc)

-- an empty message changes nothing
pub said-nil : (b a : ShelfState) → Said [] b a → a.told ≡ b.told
said-nil b a said =
    said.put
    ∙ ap (λ (part : List ℕ). option_map (added Fault part) b.told) (front-nil said.part said.front)
    ∙ told-nil Fault b.told

pub both-map :
    {A : Type 0} (f : A → A) (told told' : Option A) (P : A → A → Type 0)
    → told' ≡ option_map f told
    → ((x : A) → told ≡ Some x → P x (f x))
    → Both told told' P
both-map f None None P is h = tt
both-map f (Some x) (Some y) P is h = let e : f x ≡ y = cc in subst (P x) e (h x refl)
both-map f None (Some y) P is h = absurd (cc)
both-map f (Some x) None P is h = absurd (cc)

pub not_both : (before after : ℕ) → Rose before after → Quiet before after → ⊥
not_both before after rose quiet =
    let less : before < after = rose quiet.below in let same : after ≡ before = quiet.same in omega arith
