-- A child of an identifier, by its offset in the file: where its own data stands there.
use mathlib.Core.Path.{◌≡◌, refl, sym}
use mathlib.Core.Bool.{Bool, true, false, ◌||◌, false≢true}
use mathlib.Core.List.{List}
use Prim.Native.Nat.{ℕ, ◌+◌, ◌≤◌}
use native.Mathlib.Omega.{arith}
use lib.Dec.{eqb}
use lib.ListN.{length}
use lib.Seq.{slice}
use borrow.Author.Tests.{eqb-true, eqb-false, ne_eqb}
use Rattle.shared_words.specs.Lists.{among}
use Rattle.studio_rules.specs.Table.{shape}
use Rattle.studio_rules.specs.OwnData.{own_size}
use Rattle.studio_rules.specs.Layout.{Run, end, skip, known, size, identifiers, child, offset_of}
use Rattle.studio_rules.specs.Parses.{Place, Parses}
use Rattle.studio_stands.specs.Stands.{Stands, Headed}
use Rattle.studio_stands.proofs.Chunks.{after-skip, known-header, own_here, after-known}

-- the first child x of the run t of p, which stands in s from o to stop
pub record Found (p : Place) (x : ℕ) (t : Run) (s : List ℕ) (o stop : ℕ) : Type 0 where
  pub after : o ≤ offset_of x o t
  pub ends : offset_of x o t + 6 + length (child x t) ≤ stop
  pub is : child x t ≡ slice (offset_of x o t + 6) (offset_of x o t + 6 + length (child x t)) s
  pub exact : own_size (shape x) p.own (child x t) ≡ length (child x t)

pub child-found : (p : Place) (x : ℕ) (t : Run) (s : List ℕ) (o stop : ℕ) → Stands t s o stop → Parses p t → among x (identifiers t) ≡ true → Found p x t s o stop
child-found p x end s o stop l h a = absurd (false≢true a)
child-found p x (skip id body rest) s o stop l h a =
    let f = child-found p x rest s (o + (6 + length body)) stop (after-skip s o stop p id body rest l h) h.1 a in
    record { after = omega (arith, f.after); ends = f.ends; is = f.is; exact = f.exact }
child-found p x (known id own kids rest) s o stop l h a =
    go (eqb id x) refl a (λ q. child-found p x rest s (o + (6 + length own + size kids)) stop (after-known s o stop p id own kids rest l h) h.2 q)
    (known-header s o stop p id own kids rest l h) (own_here s o stop p id own kids rest l h)
  where
    go : (b : Bool) → eqb id x ≡ b → (eqb x id || among x (identifiers rest)) ≡ true →
        (among x (identifiers rest) ≡ true → Found p x rest s (o + (6 + length own + size kids)) stop) →
        Headed s o stop id (6 + length own + size kids) → own ≡ slice (o + 6) (o + 6 + length own) s → Found p x (known id own kids rest) s o stop
    go true b a f w q = record {
      after = rw b (omega arith);
      ends = rw b (omega (arith, w.ends));
      is = rw b q;
      exact = rw (b, ← (eqb-true id x b)) (eqb-true _ _ h.0.own_data_exact_lem);
    }
    go false b a f w q =
        let g = f (rw (ne_eqb x id (λ q. eqb-false id x b (sym q))) at a) in
        record { after = rw b (omega (arith, g.after)); ends = rw b g.ends; is = rw b g.is; exact = rw b g.exact }
