-- What holds of the numbers in an answer besides what they are: they fit 32 bits, and floats are numbers. (It follows from
-- the answers' definitions; a caller that gives the numbers out needs it.)
use Rattle.studio_rules.specs.declared.Span.{Span}
use Rattle.studio_rules.specs.declared.Sizes.{Sizes}
use Rattle.studio_rules.specs.declared.Counts.{Counts}
use Rattle.shared_words.specs.declared.Refusal.{Refusal}
use Rattle.std.specs.Prelude.{◌≡◌, true, not, ◌+◌, ◌≤◌, ◌<◌, ◌^◌, T, Float, Result, Ok, Err}
use Rattle.std.specs.Float.{binary32}
use Rattle.std.specs.Float.Ieee.{is_nan, to_bits}
use Rattle.shared_words.specs.Refusals.{limit}
use Rattle.studio_rules.specs.declared.Boxed.{Boxed}
use Rattle.studio_rules.specs.declared.Corner.{Corner}
use Rattle.shared_words.specs.Floats.{finite}
use Rattle.shared_words.specs.Floats.{float}

abbrev pub CountsWithin : Result Counts Refusal → Type 0
CountsWithin (Ok c) = (c.headers < 2 ^ 32) × (c.own < 2 ^ 32) × (c.skipped < 2 ^ 32)
CountsWithin (Err r) = Unit

abbrev pub NameWithin : Result Span Refusal → Type 0
NameWithin (Ok span) = span.offset + span.size ≤ limit
NameWithin (Err r) = Unit

abbrev pub SizesWithin : Result Sizes Refusal → Type 0
SizesWithin (Ok n) = (n.vertices ≤ limit) × (n.faces ≤ limit) × (n.pairs ≤ limit)
SizesWithin (Err r) = Unit

-- x is a number, its bits pass the test that a coordinate in a file must pass, and they are read back as x
pub record Number (x : Float) : Type 0 where
  pub not-nan : T (not (is_nan x))
  pub finite-bits : finite (to_bits binary32 x) ≡ true
  pub read_back : float (to_bits binary32 x) ≡ x

pub record Numbers (c : Corner) : Type 0 where
  pub x : Number c.x
  pub y : Number c.y
  pub z : Number c.z

abbrev pub BoxNumbers : Result Boxed Refusal → Type 0
BoxNumbers (Ok b) = Numbers b.around.low × Numbers b.around.high × Numbers b.centre
BoxNumbers (Err r) = Unit
