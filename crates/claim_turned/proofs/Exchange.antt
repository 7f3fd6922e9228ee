-- Whole unlisted chunks w that change their parent, from behind a chunk to its end or back: what a reader gets of that
-- chunk and of what follows it is the same, but for the chunk's length.
use mathlib.Core.Path.{◌≡◌, refl, sym}
use mathlib.Core.Logic.{◌⊎◌, inl, inr}
use Prim.Native.Nat.{ℕ, suc, ◌+◌, ◌-◌}
use native.Mathlib.Omega.{arith}
use mathlib.Core.List.{List, ◌++◌, append-nil}
use lib.ListN.{length}
use Rattle.studio_rules.specs.declared.Record.{Record}
use Rattle.studio_rules.specs.Layout.{Run, known, size, child, ◌then◌}
use Rattle.studio_rules.specs.Gives.{record_count, records_of, pairs_of, mapping_table, mesh_of, meshes_of}
use Rattle.studio_rules.proofs.Gaps.{child-same, pairs-same, mapping_same, record_count-same}
use Rattle.claim_turned.proofs.Then.{records_then, no-records, no-meshes}
use Rattle.studio_rules.proofs.Then.{size_then, meshes_then}
use Rattle.claim_turned.proofs.Bare.{bare, same-of-bare, bare_then_none, bare-none_then}
use Rattle.claim_turned.proofs.TwoWays.{Takes}

-- the records behind that of a chunk at o: those of its children, and those of what follows it
abbrev pub later : ℕ → ℕ → ℕ → ℕ → List ℕ → Run → Run → List Record
later o depth parent next own kids rest =
    records_of (o + (6 + length own)) (suc depth) next (suc next) kids ++ records_of (o + (6 + length own + size kids)) depth parent (suc (next + record_count kids)) rest

-- the tables of a mesh come from its known children
pub mesh-same : (at l : ℕ) (kids kids' : Run) → bare kids' ≡ bare kids → mesh_of at l kids' ≡ mesh_of at l kids
mesh-same at l kids kids' e =
    rw (same-of-bare mapping_table mapping_same kids kids' e, same-of-bare pairs_of pairs-same kids kids' e, same-of-bare (child 0x4110) (child-same 0x4110) kids kids' e, same-of-bare (child 0x4120) (child-same 0x4120) kids kids' e)

-- a chunk with the children `kids`, which `rest` follows; and with kids', which rest' follows
pub record Same (id : ℕ) (own : List ℕ) (kids rest kids' rest' : Run) : Type 0 where
  pub sizes : size kids' + size rest' ≡ size kids + size rest
  pub bares : bare (known id own kids' rest') ≡ bare (known id own kids rest)
  pub counts : record_count kids' ≡ record_count kids
  pub laters : (o depth parent next : ℕ) → later o depth parent next own kids' rest' ≡ later o depth parent next own kids rest
  pub meshes : (o at l : ℕ) → meshes_of o at l (known id own kids' rest') ≡ meshes_of o at l (known id own kids rest)

same_back : (id : ℕ) (own : List ℕ) (kids rest kids' rest' : Run) → Same id own kids rest kids' rest' → Same id own kids' rest' kids rest
same_back id own kids rest kids' rest' h = record {
  sizes = sym h.sizes;
  bares = sym h.bares;
  counts = sym h.counts;
  laters = λ o depth parent next. sym (h.laters o depth parent next);
  meshes = λ o at l. sym (h.meshes o at l);
}

-- the chunk takes w in
module _ (id : ℕ) (own : List ℕ) (kids w rest : Run) (n : record_count w ≡ 0) where
  count_same : record_count (kids then w) ≡ record_count kids
  count_same = same-of-bare record_count record_count-same kids (kids then w) (bare_then_none kids w n)

  later_same : (o depth parent next : ℕ) → later o depth parent next own (kids then w) rest ≡ later o depth parent next own kids (w then rest)
  later_same o depth parent next =
      let o₁ : ℕ = o + (6 + length own) in
      let o₂ : ℕ = o + (6 + length own + size kids) in
      let o₃ : ℕ = o + (6 + length own + size (kids then w)) in
      let k : ℕ = suc (next + record_count kids) in
      let a = records_then o₁ (o₁ + size kids) (suc depth) next (suc next) (suc next + record_count kids) kids w refl refl in
      let b = records_then o₂ o₃ depth parent k k w rest (omega (arith, size_then kids w)) (omega arith) in
      rw (a, no-records (o₁ + size kids) (suc depth) next (suc next + record_count kids) w n, append-nil (records_of o₁ (suc depth) next (suc next) kids), count_same, b, no-records o₂ depth parent k w n)

  meshes-same : (o at l : ℕ) → meshes_of o at l (known id own (kids then w) rest) ≡ meshes_of o at l (known id own kids (w then rest))
  meshes-same o at l =
      let o₁ : ℕ = o + (6 + length own) in
      let o₂ : ℕ = o + (6 + length own + size kids) in
      let o₃ : ℕ = o + (6 + length own + size (kids then w)) in
      let a = meshes_then o₁ (o₁ + size kids) (o + 6) (length own - 1) kids w refl in
      let b = meshes_then o₂ o₃ at l w rest (omega (arith, size_then kids w)) in
      rw (mesh-same at l kids (kids then w) (bare_then_none kids w n), a, no-meshes (o₁ + size kids) (o + 6) (length own - 1) w n, append-nil (meshes_of o₁ (o + 6) (length own - 1) kids), b, no-meshes o₂ at l w n)

  takes_in : Same id own kids (w then rest) (kids then w) rest
  takes_in = record {
    sizes = omega (arith, size_then kids w, size_then w rest);
    bares = rw (bare_then_none kids w n, bare-none_then w rest n);
    counts = count_same;
    laters = later_same;
    meshes = meshes-same;
  }

same_takes : (id : ℕ) (own : List ℕ) (kids rest kids' rest' : Run) → Takes kids rest kids' rest' → Same id own kids rest kids' rest'
same_takes id own kids rest kids' rest' h = rw (h.more, h.fewer) (takes_in id own kids h.w rest' h.none-known)

pub same : (id : ℕ) (own : List ℕ) (kids rest kids' rest' : Run) → Takes kids rest kids' rest' ⊎ Takes kids' rest' kids rest → Same id own kids rest kids' rest'
same id own kids rest kids' rest' (inl h) = same_takes id own kids rest kids' rest' h
same id own kids rest kids' rest' (inr h) = same_back id own kids' rest' kids rest (same_takes id own kids' rest' kids rest h)

pub same-chunk : (id : ℕ) (own : List ℕ) (kids rest : Run) → Same id own kids rest kids rest
same-chunk id own kids rest = record { sizes = refl; counts = refl; bares = refl; laters = λ o depth parent next. refl; meshes = λ o at l. refl }
