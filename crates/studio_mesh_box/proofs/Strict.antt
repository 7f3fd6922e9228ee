-- A comparison of finite floats that is an order, whichever way it runs: `<`, and `<` turned round.
use mathlib.Core.Path.{◌≡◌, refl}
use mathlib.Core.Bool.{Bool, true, false}
use lib.Ieee.{Float, lt, eq}
use Rattle.studio_mesh_box.specs.Around.{gt}
use Rattle.studio_mesh_box.proofs.Order.{Finite, never, lt_irrefl, lt_asym, lt-mixed, lt-apart}

pub record Strict (before : Float → Float → Bool) : Type 0 where
  pub irrefl : (x : Float) → Finite x → before x x ≡ false
  pub asym : (x y : Float) → Finite x → Finite y → before x y ≡ true → before y x ≡ false
  -- what comes before a comes before each c that does not
  pub mixed : (b a c : Float) → Finite b → Finite a → Finite c → before b a ≡ true → before c a ≡ false → before b c ≡ true
  pub apart : (x y : Float) → Finite x → Finite y → before x y ≡ true → eq y x ≡ false

pub upward : Strict lt
upward = record { irrefl = lt_irrefl; asym = lt_asym; mixed = lt-mixed; apart = λ x y f g h. (lt-apart x y f g h).0 }

pub downward : Strict gt
downward = record {
  irrefl = lt_irrefl;
  asym = λ x y f g h. lt_asym y x g f h;
  mixed = λ b a c fb fa fc h k. turned b a c fb fa fc h k (lt c b) refl;
  apart = λ x y f g h. (lt-apart y x g f h).1;
}
  where
    turned : (b a c : Float) → Finite b → Finite a → Finite c → lt a b ≡ true → lt a c ≡ false → (t : Bool) → lt c b ≡ t → t ≡ true
    turned b a c fb fa fc h k true e = refl
    turned b a c fb fa fc h k false e = absurd (never (lt a c) (lt-mixed a b c fa fb fc h e) k)

-- y does not come before x, and b does: so y does not come before b
pub through : (before : Float → Float → Bool) → Strict before → (y b x : Float) → Finite y → Finite b → Finite x → before b x ≡ true → before y x ≡ false → before y b ≡ false
through before o y b x fy fb fx h k = o.asym b y fb fy (o.mixed b x y fb fx fy h k)
