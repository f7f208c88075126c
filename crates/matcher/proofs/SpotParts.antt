-- The two parts of a spot, on its own stretch.
use Rattle.std.proofs.Common.{◌≡◌, ℕ, ◌+◌, ◌<◌, Bool, List, length, ap, arith}
use Rattle.rules.specs.Languages.{Sight}
use Rattle.policies.specs.Orders.{Order}
use Rattle.matcher.specs.declared.frame.Frame.{Frame}
use Rattle.matcher.specs.declared.frame.Spot.{Spot}
use Rattle.matcher.specs.Sizes.{PairRoom}
use Rattle.matcher.specs.Frames.{frame_rows, second_node, Laid, On}
use Rattle.matcher.specs.Benches.{Right}
use Rattle.matcher.specs.Searches.{Sought, ToldAt}
use Rattle.matcher.proofs.Firm.{right_told}

-- x is a part of the spot s
pub record PartOf (f : Frame) (s x : Spot) : Type 0 where
  pub above : s.node < x.node
  pub inside : x.node < length (frame_rows f)
  pub start : x.start ≡ s.start
  pub end : x.end ≡ s.end

pub first_part : (f : Frame) (s x : Spot) → x ≡ record s { node = s.node + 1 } → PairRoom (frame_rows f) f.sizes s.node → PartOf f s x
first_part f s x is room =
    let e = ap (λ (y : Spot). y.node) is in record {
      above = omega (arith, e);
      inside = omega (arith, e, room.second_some, room.within);
      start = ap (λ (y : Spot). y.start) is;
      end = ap (λ (y : Spot). y.end) is;
    }

pub second_part : (f : Frame) (s x : Spot) → x ≡ record s { node = second_node f s.node } → PairRoom (frame_rows f) f.sizes s.node → PartOf f s x
second_part f s x is room =
    let e = ap (λ (y : Spot). y.node) is in record {
      above = omega (arith, e);
      inside = omega (arith, e, room.second_some, room.within);
      start = ap (λ (y : Spot). y.start) is;
      end = ap (λ (y : Spot). y.end) is;
    }

-- the code of a part can be asked for
pub part_sought : (above : Order) (f : Frame) (w : List Sight) (bs : List ℕ) (s x : Spot) → PartOf f s x → On f s → Laid f bs → Right above (frame_rows f) w f.symbols bs → Sought above f w bs x
part_sought above f w bs s x part on laid right = record {
  laid = laid;
  on = record { node = part.inside; start = omega (arith, part.start, part.end, on.start); end = omega (arith, part.end, on.end) };
  right = right;
}

-- that of x, once it is told of both parts x and y
pub told_sought : (above : Order) (f : Frame) (w : List Sight) (bs one two : List ℕ) (s x y : Spot) (r r' : Bool) → PartOf f s x → On f s → Laid f two → Right above (frame_rows f) w f.symbols bs → ToldAt f w bs one x r → ToldAt f w one two y r' → Sought above f w two x
told_sought above f w bs one two s x y r r' part on laid right told told' =
    part_sought above f w two s x part on laid
    (right_told above (frame_rows f) w f.symbols one two y.node y.start y.end r' (right_told above (frame_rows f) w f.symbols bs one x.node x.start x.end r right told) told')
