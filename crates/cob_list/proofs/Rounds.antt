-- What is known at each round of the pass, and at its end.
use mathlib.Core.Path.{◌≡◌, refl, sym, ap, subst, ◌∙◌}
use Prim.Native.Nat.{ℕ, suc, ◌+◌, ◌-◌, ◌*◌, ◌<◌, ◌≤◌}
use mathlib.Core.Bool.{Bool, true, false}
use native.Mathlib.Omega.{arith}
use mathlib.Core.List.{List, [], ◌∷◌}
use lib.ListN.{length, get_or, set, length-set}
use Rattle.shared_words.specs.Effects.{filled}
use Rattle.shared_words.specs.Lists.{total}
use Rattle.shared_words.specs.Refusals.{limit}
use Rattle.cob_rules.specs.Layout.{Chunk, kind, parent, size, Layout}
use Rattle.cob_rules.specs.Kinds.{listed}
use Rattle.cob_rules.specs.Rules.{AllPlaced, Meets}
use Rattle.cob_rules.specs.Gives.{list}
use Rattle.cob_rules.specs.Calls.{record_bytes}
use Rattle.cob_rules.proofs.Verdict.{accepted_exactly, one-accepted}
use Rattle.cob_rules.proofs.PutIn.{length-bytes}
use Rattle.cob_chunk.specs.Chunks.{chunk_in, Stated}
use Rattle.cob_list.specs.Filling.{top_for, Fillable, Fills, EndPut, PutListed}
use Rattle.cob_list.proofs.Owned.{Topped}
use Rattle.cob_list.proofs.Passing.{Passing, starts, filled-all, room, next, here-stated, here-fits, here-topped, skipped, recorded}

-- a chunk has at least 20 bytes
many-bytes : (cs seen : List Chunk) → AllPlaced seen cs → 20 * length cs ≤ total size cs
many-bytes [] seen a = omega arith
many-bytes (c ∷ cs) seen a = omega (arith, a.0.lawful.header-whole, many-bytes cs (c ∷ seen) a.1)

few-chunks : {s : List ℕ} {l : Layout} → Meets s l → suc (length l.chunks) ≤ 52428
few-chunks {s} {l} m = omega (arith, m.within-limit, ap length m.is, length-bytes l, many-bytes l.chunks [] m.chunks, m.last.header-whole)

module _ {s : List ℕ} {count : ℕ} {ids links row : List ℕ} (f : Fillable s count ids links row) where
  pub meets : Meets s f.layout
  meets = (accepted_exactly s f.layout).0 f.is

  pub few : count ≤ 52428
  few = omega (arith, f.nodes_are, few-chunks meets)

-- the rows before a round
pub record Round (s : List ℕ) (count : ℕ) (ids links up₀ row₀ up row : List ℕ) (at to k : ℕ) : Type 0 where
  pub given : Fillable s count ids links row₀
  pub passing : Passing s given.layout count ids up row₀ row at to k
  pub row-long : length row ≡ length row₀
  pub up-long : length up ≡ length up₀
  pub tops : count ≤ length up₀

pub first : (s : List ℕ) (count : ℕ) (ids links up row : List ℕ) → Fillable s count ids links row → count ≤ length up → Round s count ids links up row up row 32 0 1
first s count ids links up row f t =
    record { given = f; passing = starts up row (meets f) f.nodes_are f.holds; row-long = refl; up-long = refl; tops = t }

pub fills : {s : List ℕ} {count : ℕ} {ids links up₀ row₀ up row row' : List ℕ} {at to k : ℕ} → Round s count ids links up₀ row₀ up row at to k → count ≤ k →
    EndPut s at row to row' → Fills s row₀ row'
fills {s} {count} {ids} {links} {up₀} {row₀} r b p = record {
  told = λ l e.
      filled-all r.passing (meets r.given) b p ∙
      ap (λ (x : Layout). filled (record_bytes.encode (list x)) row₀) (one-accepted s r.given.is e);
}

-- ---- one round

module _ {s : List ℕ} {count : ℕ} {ids links up₀ row₀ up row : List ℕ} {at to k : ℕ} (r : Round s count ids links up₀ row₀ up row at to k) (b : k < count) where
  abbrev here : Chunk
  here = chunk_in s at

  pub stated-here : Stated s at
  stated-here = here-stated r.passing b

  pub fits-here : at + size here ≤ length s
  fits-here = here-fits r.passing b

  pub short : length s ≤ limit
  short = (meets r.given).within-limit

  pub room-here : to + 24 ≤ length row
  room-here = room r.passing r.given.room r.row-long

  module _ {t : ℕ} (e : t ≡ top_for ids count up k (parent here)) where
    topped-here : Topped ids up r.passing.seen (next r.passing b).chunk t
    topped-here = here-topped r.passing b r.given.tree (omega (arith, r.tops, r.up-long)) t e

    -- the node of the owner is one of the tree
    pub top-inside : t < count
    top-inside = omega (arith, topped-here.below, r.passing.node, b)

    pub more : {next : ℕ} {row' : List ℕ} {to' : ℕ} → next ≡ at + size here → PutListed s at next (get_or ids t 0) row to row' to' → length row' ≡ length row →
        Round s count ids links up₀ row₀ (set up k t) row' next to' (k + 1)
    more {next} {row'} {to'} n p g = record {
      given = r.given;
      passing = subst (λ (o : ℕ). Passing s r.given.layout count ids (set up k t) row₀ row' o to' (k + 1)) (sym n) (go (listed (kind here)) refl);
      row-long = g ∙ r.row-long;
      up-long = length-set up k t ∙ r.up-long;
      tops = r.tops;
    }
      where
        d : next - at ≡ size here
        d = omega arith

        go : (y : Bool) → listed (kind here) ≡ y → Passing s r.given.layout count ids (set up k t) row₀ row' (at + size here) to' (k + 1)
        go true q = recorded r.passing b topped-here q (rw d at (p.yes q))
        go false q = let z = p.no q in rw (z.0, z.1) (skipped r.passing b topped-here q)
