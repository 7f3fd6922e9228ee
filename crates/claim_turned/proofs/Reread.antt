-- Bytes with another value in the length field of one chunk, and a layout that they have all the same: it is the same
-- around the chunk, and there whole unlisted chunks have changed their parent.
use mathlib.Core.Path.{◌≡◌, sym, ap, ◌∙◌}
use mathlib.Core.Logic.{◌⊎◌}
use Prim.Native.Nat.{ℕ, ◌+◌, ◌^◌, ◌<◌}
use native.Mathlib.Omega.{arith}
use mathlib.Core.Bool.{true, ◌||◌}
use mathlib.Core.List.{List, ◌++◌}
use lib.ListN.{length}
use Rattle.studio_rules.specs.Table.{plus}
use Rattle.studio_rules.specs.Layout.{Run, known, header, size, bytes}
use Rattle.studio_rules.specs.Rules.{no_child}
use Rattle.studio_rules.specs.Parses.{Place, within, Parses}
use Rattle.studio_rules.proofs.Sound.{length-bytes}
use Rattle.studio_rules.proofs.Apart.{under-apart}
use Rattle.claim_turned.proofs.First.{Enters, first-known}
use Rattle.claim_turned.proofs.TwoWays.{Takes, two_ways, sizes-add}
use Rattle.claim_turned.proofs.Context.{Context, plug, fill, around, parses-there, Rereads, rereads}
use Rattle.claim_turned.proofs.Field.{offset_within}

-- the layout v of p has n as the length of the chunk, which had the children `kids` and was followed by `rest`
pub record Reread (p : Place) (c : Context) (id : ℕ) (own : List ℕ) (kids rest : Run) (n : ℕ) (v : Run) : Type 0 where
  pub kids' : Run
  pub rest' : Run
  pub is : v ≡ plug c (known id own kids' rest')
  pub len_is : n ≡ 6 + length own + size kids'
  pub in_plus : (plus id || no_child kids') ≡ true
  pub takes : Takes kids rest kids' rest' ⊎ Takes kids' rest' kids rest

module _ (p : Place) (c : Context) (id : ℕ) (own : List ℕ) (kids rest : Run) (n : ℕ) (v : Run) where
  abbrev body : List ℕ
  body = own ++ (bytes kids ++ bytes rest)

  enters_reread : (u : Run) → v ≡ plug c u → size u < 2 ^ 32 → Parses (around p c) (known id own kids rest) → Enters (around p c) id n own (bytes kids ++ bytes rest) u →
      Reread p c id own kids rest n v
  enters_reread u e l h f =
      let z : size kids + size rest < 2 ^ 32 = omega (arith, ap size f.is, sizes-add kids rest f.kids f.rest (sym f.bytes_are)) in
      record {
        kids' = f.kids;
        rest' = f.rest;
        is = e ∙ ap (plug c) f.is;
        len_is = f.len;
        in_plus = f.fits.in_plus;
        takes =
            two_ways (within id own) (around p c) (λ y a. under-apart (around p c).id id y h.0.in_place a) kids rest f.kids f.rest z
            h.1 h.2 f.parses_kids f.parses-rest (sym f.bytes_are);
      }

  pub reread : n < 2 ^ 32 → size v < 2 ^ 32 → Parses p (plug c (known id own kids rest)) → Parses p v → bytes v ≡ fill c (header id n ++ body) → Reread p c id own kids rest n v
  reread m l h h' e = go (rereads p c (known id own kids rest) v (header id n ++ body) l h h' e)
    where
      go : Rereads p c (header id n ++ body) v → Reread p c id own kids rest n v
      go q =
          let o = parses-there p c (known id own kids rest) h in
          let z : size q.there < 2 ^ 32 = omega (arith, offset_within c (header id n ++ body), ap length e, length-bytes v, ap length q.bytes_are, length-bytes q.there) in
          enters_reread q.there q.is z o (first-known (around p c) id n own (bytes kids ++ bytes rest) kids q.there o.0 m z q.parses q.bytes_are)
