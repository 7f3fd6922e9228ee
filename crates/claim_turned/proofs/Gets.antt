-- What a reader gets of a layout, and of another reading of it with n as the length of one chunk: the same but for that
-- length.
use mathlib.Core.Path.{◌≡◌, ap, ◌∙◌}
use Prim.Native.Nat.{ℕ, ◌+◌}
use native.Mathlib.Omega.{arith}
use mathlib.Core.List.{[]}
use mathlib.Core.Option.{some}
use lib.ListN.{length, get_elem?}
use Rattle.studio_rules.specs.declared.Record.{Record}
use Rattle.studio_rules.specs.Layout.{Run, known, figure, size}
use Rattle.studio_rules.specs.Gives.{record_count, list, headers, owned, skipped, meshes, meshes_of, fathers, parts_from, parts}
use Rattle.studio_rules.specs.Calls.{counts_of}
use Rattle.studio_rules.specs.Parses.{in_file}
use Rattle.studio_rules.proofs.Gaps.{record_count-same, headers-same, owned-same, fathers-same}
use Rattle.studio_rules.proofs.Theorems.{counted-once}
use Rattle.claim_turned.specs.Turned.{SameButLength}
use Rattle.claim_turned.proofs.Bare.{bare, same-of-bare}
use Rattle.claim_turned.proofs.Field.{offset_in}
use Rattle.claim_turned.proofs.Number.{Found}
use Rattle.claim_turned.proofs.Exchange.{Same, same}
use Rattle.claim_turned.proofs.Around.{size-plug, bare-plug, meshes-plug, Listed, listed-first, listed-plug}
use Rattle.claim_turned.proofs.Reread.{Reread}

module _ (kids kids' : Run) (i n : ℕ) (f : Found i (figure kids)) (q : Reread in_file f.context f.id f.own f.kids f.rest n (figure kids')) where
  abbrev old : Run
  old = known f.id f.own f.kids f.rest

  abbrev new : Run
  new = known f.id f.own q.kids' q.rest'

  pub chunk-same : Same f.id f.own f.kids f.rest q.kids' q.rest'
  chunk-same = same f.id f.own f.kids f.rest q.kids' q.rest' q.takes

  new-size : size new ≡ size old
  new-size = omega (arith, chunk-same.sizes)

  pub size_same : size (figure kids') ≡ size (figure kids)
  size_same = ap size q.is ∙ size-plug f.context old new new-size ∙ ap size f.is

  pub bare-same : bare (figure kids') ≡ bare (figure kids)
  bare-same = ap bare q.is ∙ bare-plug f.context old new chunk-same.bares ∙ ap bare f.is

  meshes-same : meshes kids' ≡ meshes kids
  meshes-same = ap (meshes_of 0 0 0) q.is ∙ meshes-plug f.context old new new-size chunk-same.bares chunk-same.meshes 0 0 0 ∙ ap (meshes_of 0 0 0) f.is

  pub kids_bare : bare kids' ≡ bare kids
  kids_bare = let b = bare-same in cc

  parts_same : parts kids' ≡ parts kids
  parts_same = ap (parts_from []) (same-of-bare fathers fathers-same kids kids' kids_bare)

  listed : Listed n (6 + length f.own + size f.kids) i (offset_in f.context) 0 0 0 0 (figure kids) (figure kids')
  listed =
      let first = listed-first f.id f.own f.kids f.rest q.kids' q.rest' n chunk-same q.len_is in
      let l = listed-plug f.context old new n (6 + length f.own + size f.kids) new-size chunk-same.bares first 0 0 0 0 in
      rw (f.is, f.number, ← q.is) at l

  counts_same : counts_of kids' ≡ counts_of kids
  counts_same =
      let c = same-of-bare record_count record_count-same (figure kids) (figure kids') bare-same in
      let h = same-of-bare headers headers-same (figure kids) (figure kids') bare-same in
      let o = same-of-bare owned owned-same (figure kids) (figure kids') bare-same in
      let k : skipped (figure kids') ≡ skipped (figure kids) = omega (arith, counted-once (figure kids), counted-once (figure kids'), size_same) in
      cc

  pub gets_same : (r : Record) → get_elem? (list kids) i ≡ some r → SameButLength i r n kids kids'
  gets_same r in_List =
      let h = listed.changed.0 in
      let e : listed.r ≡ r = cc in
      record { one-length = rw (← e) listed.changed.1; counts_same = counts_same; meshes-same = meshes-same; parts_same = parts_same }
