-- The six numbers of a box and the three of its centre are finite, so that their bits may be taken.
use Rattle.std.specs.Prelude.{◌≡◌, true, List, ℕ}
use Rattle.studio_rules.specs.declared.BoundingBox.{BoundingBox}
use Rattle.shared_words.specs.Lists.{every}
use Rattle.shared_words.specs.Floats.{finite}
use Rattle.studio_rules.specs.Box.{bounding_box_of, centre_of}
use Rattle.studio_rules.specs.Within.{Numbers}

pub record NineNumbers (b : BoundingBox) : Type 0 where
  pub low : Numbers b.low
  pub high : Numbers b.high
  pub centre : Numbers (centre_of b)

-- Where all coordinates are finite, so are the box and its centre: no half and no sum overflows. It holds of any count n,
-- since behind the end of the list `coordinate` reads zeros.
abbrev pub BoxIsFinite : Type 0
BoxIsFinite = (n : ℕ) (vertices : List ℕ) → every finite vertices ≡ true → NineNumbers (bounding_box_of n vertices)
