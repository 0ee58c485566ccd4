-- Transfers that agree do so while the world grows.
use Rattle.std.specs.Prelude.{◌≡◌, ℕ, ◌<◌, Option, Some}
use Rattle.std.proofs.Common.{refl, ◌∙◌, arith}
use Rattle.procedure_emission.specs.f_tree.Values.{Spot}
use Rattle.procedure_emission.specs.f_tree.World as fortran
use Rattle.procedure_emission.specs.c_tree.World as c
use Rattle.procedure_emission.specs.faithful.SameTransfer.{SameMedium, on_unit, in_file, SameTransfer, neither, both}
use Rattle.procedure_emission.specs.c_image.World.{World, Extends}
use Rattle.procedure_emission.specs.emitted_texts.SecondLayer.{TransfersStand}

medium_later : (μ ν : World) (behind : ℕ) (m : fortran.Medium) (m' : c.Medium) → Extends μ ν → ((p : Spot) → m ≡ fortran.Internal p → p.sequence < μ.height) → SameMedium μ.homes behind m m' → SameMedium ν.homes behind m m'
medium_later μ ν behind _ _ grown low (on_unit unit) = on_unit unit
medium_later μ ν behind _ _ grown low (in_file place file same) =
    in_file place file (record { object = grown.homes place.sequence (low place refl) ∙ same.object; offset = same.offset; size = same.size; count = same.count; position = same.position })

same_later : (μ ν : World) (one : Option fortran.Transfer) (other : Option c.Transfer) → Extends μ ν → ((x : fortran.Transfer) (p : Spot) → one ≡ Some x → x.medium ≡ fortran.Internal p → p.sequence < μ.height)
    → SameTransfer μ.homes one other → SameTransfer ν.homes one other
same_later μ ν _ _ grown low neither = neither
same_later μ ν _ _ grown low (both one other agree) =
    both one other (record {
      direction = agree.direction;
      layout = agree.layout;
      medium = medium_later μ ν one.written one.medium other.medium grown (λ p is. low one p refl is) agree.medium;
      progress = agree.progress;
    })

pub transfers_stand_later : (μ ν : World) (one : Option fortran.Transfer) (other : Option c.Transfer) → Extends μ ν → TransfersStand μ one other → TransfersStand ν one other
transfers_stand_later μ ν one other grown stand = record {
  same = same_later μ ν one other grown stand.below stand.same;
  below = λ x p is internal. let low = stand.below x p is internal in let higher = grown.higher in omega (arith, low, higher);
}
