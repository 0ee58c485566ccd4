-- What a function knows of its names stays while the world grows, and while its temporaries keep values.
use Rattle.std.specs.Prelude.{◌≡◌, ◌≢◌, ℕ, ◌<◌, ℤ, pos, List, Option, Some}
use Rattle.std.proofs.Common.{refl, sym, ◌∙◌, subst}
use Rattle.c_image.specs.f_tree.Values.{Spot, Datum, IsInt}
use Rattle.c_image.specs.f_tree.Facts.{Facts, Frame}
use Rattle.c_image.specs.f_tree.Valuing.{size_of_dimension}
use Rattle.c_laws.specs.c_tree.declared.outcome.CValue.TheVariants.{Pointer}
use Rattle.c_laws.specs.c_tree.Objects.{Object}
use Rattle.c_laws.specs.c_tree.Objects as object
use Rattle.c_image.specs.World.{World, changed, with_held, Extends}
use Rattle.c_image.specs.Held.{BeginWith, Holds}
use Rattle.c_image.specs.Addresses.{Address, Alone, Inside, InTexts, Through, access_to, pointer_object, Reaches}
use Rattle.c_image.specs.Elements.{Quantity, Written, Saved}
use Rattle.c_image.specs.Knowing.{Naming, IsQuantity, Knows, IsApart}
use Rattle.c_image_laws.proofs.ListLaws.{by_equal}
use Rattle.c_image_laws.proofs.Growing.{changed_there, changed_elsewhere}
use Rattle.c_image_laws.proofs.SoundPlaces.{sound_later}

-- what each object that is held holds later
abbrev pub HeldLater : (ℕ → Option Object) → (ℕ → Option Object) → Type 0
HeldLater before after = (k : ℕ) (held : Object) → before k ≡ Some held → after k ≡ Some held

pub holds_later : (before after : ℕ → Option Object) (k : ℕ) (d : Datum) → HeldLater before after → Holds (before k) d → Holds (after k) d
holds_later before after k d later holds = record { bytes = holds.bytes; is = later k (object.Bytes holds.bytes) holds.is; begins = holds.begins }

pub reaches_later : (μ ν : World) (p : Spot) (address : Address) → Extends μ ν → p.sequence < μ.height → Reaches μ p address → Reaches ν p address
reaches_later μ ν p (Alone own) extends there reaches = (extends.homes p.sequence there ∙ reaches.0, reaches.1)
reaches_later μ ν p (Inside own before) extends there reaches = (extends.homes p.sequence there ∙ reaches.0, reaches.1)
reaches_later μ ν p (InTexts own before) extends there reaches = (extends.homes p.sequence there ∙ reaches.0, reaches.1, reaches.2)
reaches_later μ ν p (Through parameter) extends there reaches =
    (reaches.0, extends.homes p.sequence there ∙ reaches.1, extends.frozen parameter (pointer_object (access_to p.basic) (Pointer reaches.0 p.first)) reaches.2)

quantity_later : (μ ν : World) (quantity : Quantity) (z : ℤ) → Extends μ ν → IsQuantity μ quantity z → IsQuantity ν quantity z
quantity_later μ ν (Written number) z extends is = is
quantity_later μ ν (Saved k) z extends is = holds_later μ.frozen ν.frozen k (IsInt z) extends.frozen is

-- What is known is known later
pub knows_later : (μ ν : World) (naming : Naming) (facts : Facts) (frame : Frame) (temporaries : ℕ → Option Datum) → Extends μ ν → Knows μ naming facts frame temporaries →
    Knows ν naming facts frame temporaries
knows_later μ ν naming facts frame temporaries extends knows = record {
  sound = λ x p is. sound_later μ ν p extends (knows.sound x p is);
  reaches = λ x p is. reaches_later μ ν p (naming.address x) extends (knows.sound x p is).there (knows.reaches x p is);
  lengths = λ x n has is. holds_later μ.frozen ν.frozen (naming.length x) (IsInt (pos n)) extends.frozen (knows.lengths x n has is);
  lowers = λ x k b is. quantity_later μ ν (naming.lower x k) b.lower extends (knows.lowers x k b is);
  sizes = λ x k b u is upper. quantity_later μ ν (naming.size x k) (pos (size_of_dimension b)) extends (knows.sizes x k b u is upper);
  kept = λ k d is. holds_later μ.frozen ν.frozen (naming.temporary k) d extends.frozen (knows.kept k d is);
}

-- ## A temporary keeps a value

-- an object other than the temporary's
holds_apart : (frozen : ℕ → Option Object) (k other : ℕ) (held : Option Object) (d : Datum) → other ≢ k → Holds (frozen other) d → Holds (changed frozen k held other) d
holds_apart frozen k other held d apart holds =
    subst (λ found. Holds found d) (sym (changed_elsewhere frozen k other held apart)) holds

reaches_apart : (μ : World) (k : ℕ) (held : Option Object) (p : Spot) (address : Address) → ((parameter : ℕ) → address ≡ Through parameter → parameter ≢ k) → Reaches μ p address →
    Reaches (with_held μ k held) p address
reaches_apart μ k held p (Alone own) apart reaches = reaches
reaches_apart μ k held p (Inside own before) apart reaches = reaches
reaches_apart μ k held p (InTexts own before) apart reaches = reaches
reaches_apart μ k held p (Through parameter) apart reaches =
    (reaches.0, reaches.1, changed_elsewhere μ.frozen k parameter held (apart parameter refl) ∙ reaches.2)

quantity_apart : (μ : World) (k : ℕ) (held : Option Object) (quantity : Quantity) (z : ℤ) → ((saved : ℕ) → quantity ≡ Saved saved → saved ≢ k) → IsQuantity μ quantity z →
    IsQuantity (with_held μ k held) quantity z
quantity_apart μ k held (Written number) z apart is = is
quantity_apart μ k held (Saved saved) z apart is = holds_apart μ.frozen k saved held (IsInt z) (apart saved refl) is

-- What is known is known still, and that the temporary has the value
pub knows_kept : (μ : World) (naming : Naming) (facts : Facts) (frame : Frame) (temporaries : ℕ → Option Datum) (k : ℕ) (d : Datum) (bytes : List (Option ℕ)) → IsApart naming k →
    BeginWith d bytes → Knows μ naming facts frame temporaries →
    Knows (with_held μ (naming.temporary k) (Some (object.Bytes bytes))) naming facts frame (changed temporaries k (Some d))
knows_kept μ naming facts frame temporaries k d bytes apart begins knows = record {
  sound = λ x p is. (let sound = knows.sound x p is in record { there = sound.there; shaped = sound.shaped; inside = sound.inside });
  reaches = λ x p is. reaches_apart μ own held p (naming.address x) (apart.addresses x) (knows.reaches x p is);
  lengths = λ x n has is. holds_apart μ.frozen own (naming.length x) held (IsInt (pos n)) (apart.lengths x) (knows.lengths x n has is);
  lowers = λ x i b is. quantity_apart μ own held (naming.lower x i) b.lower (apart.lowers x i) (knows.lowers x i b is);
  sizes = λ x i b u is upper. quantity_apart μ own held (naming.size x i) (pos (size_of_dimension b)) (apart.sizes x i) (knows.sizes x i b u is upper);
  kept = λ j e is. by_equal (Holds (changed μ.frozen own held (naming.temporary j)) e) j k
      (λ same. now j e same (is_now j e same is))
      (λ other. holds_apart μ.frozen own (naming.temporary j) held e (λ one. other (apart.temporaries j one)) (knows.kept j e (sym (changed_elsewhere temporaries k j (Some d) other) ∙ is)));
}
  where
    own : ℕ
    own = naming.temporary k

    held : Option Object
    held = Some (object.Bytes bytes)

    is_now : (j : ℕ) (e : Datum) → j ≡ k → changed temporaries k (Some d) j ≡ Some e → d ≡ e
    is_now j e same is =
        let there : changed temporaries k (Some d) j ≡ Some d = subst (λ i. changed temporaries k (Some d) i ≡ Some d) (sym same) (changed_there temporaries k (Some d)) in
        let both : Some d ≡ Some e = sym there ∙ is in cc

    now : (j : ℕ) (e : Datum) → j ≡ k → d ≡ e → Holds (changed μ.frozen own held (naming.temporary j)) e
    now j e same value =
        subst (λ i. Holds (changed μ.frozen own held (naming.temporary i)) e) (sym same)
        (subst (Holds (changed μ.frozen own held own)) value
        (record { bytes = bytes; is = changed_there μ.frozen own held; begins = begins }))
