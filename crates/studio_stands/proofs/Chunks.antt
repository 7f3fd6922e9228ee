-- The first chunk of a run that stands in a file: its header, its own data, its children and what follows it. That the run
-- parses says that each identifier fits its two bytes.
use mathlib.Core.Path.{◌≡◌, sym, ap, ◌∙◌}
use mathlib.Core.Bool.{true}
use mathlib.Core.List.{List}
use Prim.Native.Nat.{ℕ, ◌+◌, ◌<◌, ◌^◌}
use native.Mathlib.Omega.{arith}
use lib.ListN.{length}
use lib.Seq.{slice, length-slice}
use Rattle.studio_rules.specs.Table.{listed}
use Rattle.studio_rules.specs.Layout.{Run, skip, known, size}
use Rattle.studio_rules.specs.Rules.{unlisted}
use Rattle.studio_rules.specs.Parses.{Place, Parses}
use Rattle.studio_rules.proofs.Parses.{fits_small, unlisted_small, not-both}
use Rattle.studio_rules.proofs.Sound.{length-bytes}
use Rattle.studio_stands.specs.Stands.{Stands, Headed}
use Rattle.studio_stands.proofs.Layouts.{skip-headed, skip-rest, known-headed, known_own, known_kids, known-rest}

-- ---- identifiers

-- an unlisted chunk is none that is looked for
pub unlisted_other : (id x : ℕ) → unlisted id ≡ true → listed x ≡ true → id ≡ x → ⊥
unlisted_other id x u l e = not-both id u (ap listed e ∙ l)

-- ---- a run

module _ (s : List ℕ) (at stop : ℕ) where
  pub stands-size : (t : Run) → Stands t s at stop → at + size t ≡ stop
  stands-size t h = omega (arith, sym (length-bytes t) ∙ ap length h.is ∙ length-slice at stop s h.stays, h.order)

  stands_small : (t : Run) → Stands t s at stop → size t < 2 ^ 32
  stands_small t h = omega (arith, stands-size t h, h.stays, h.small)

  module _ (p : Place) where
    -- it begins with a chunk to skip
    module _ (id : ℕ) (body : List ℕ) (rest : Run) (h : Stands (skip id body rest) s at stop) (parses : Parses p (skip id body rest)) where
      pub skip-header : Headed s at stop id (6 + length body)
      skip-header = skip-headed s at stop h.stays id body rest h.is (unlisted_small id parses.0) (stands_small _ h)

      pub after-skip : Stands rest s (at + (6 + length body)) stop
      after-skip = record {
        order = omega (arith, skip-header.ends);
        stays = h.stays;
        small = h.small;
        is = skip-rest s at stop h.stays id body rest h.is (unlisted_small id parses.0) (stands_small _ h);
      }

    -- it begins with a known chunk
    module _ (id : ℕ) (own : List ℕ) (kids rest : Run) (h : Stands (known id own kids rest) s at stop) (parses : Parses p (known id own kids rest)) where
      id_small : id < 2 ^ 16
      id_small = fits_small p id own kids parses.0

      pub known-header : Headed s at stop id (6 + length own + size kids)
      known-header = known-headed s at stop h.stays id own kids rest h.is id_small (stands_small _ h)

      pub own_here : own ≡ slice (at + 6) (at + 6 + length own) s
      own_here = known_own s at stop h.stays id own kids rest h.is id_small (stands_small _ h)

      pub kids_here : Stands kids s (at + (6 + length own)) (at + (6 + length own + size kids))
      kids_here = record {
        order = omega arith;
        stays = omega (arith, known-header.ends, h.stays);
        small = h.small;
        is = known_kids s at stop h.stays id own kids rest h.is id_small (stands_small _ h);
      }

      pub after-known : Stands rest s (at + (6 + length own + size kids)) stop
      after-known = record {
        order = omega (arith, known-header.ends);
        stays = h.stays;
        small = h.small;
        is = known-rest s at stop h.stays id own kids rest h.is id_small (stands_small _ h);
      }
