-- `studio_figure_judge::judge_materials` meets its contract.
use mathlib.Core.Path.{◌≡◌, ◌∙◌}
use Prim.Native.Nat.{ℕ, ◌+◌, ◌/◌}
use native.Mathlib.Omega.{arith}
use mathlib.Core.List.{List, []}
use lib.ListN.{length}
use Rattle.shared_words.specs.declared.Refusal.TheVariants.{NoMaterial}
use Rattle.shared_words.specs.Lists.{first_fault}
use Rattle.studio_figure_rules.specs.Judged.{one_of}
use Rattle.studio_figure_rows.specs.Rows.{name_at}
use Rattle.studio_figure_rows.proofs.Answers.{none-broken, row-found, row-through}
use Rattle.studio_figure_rows.proofs.Runs.{capped-under, run_length}
use Rattle.studio_figure_names.specs.Names.{names_in}
use Rattle.studio_figure_judge.specs.Judged.{materials_at, groups_at, material_names, group_names}
use Rattle.studio_figure_judge.proofs.judge_materials.Goals as goal

module _ (names objects materials groups : List ℕ) (first from group : ℕ) where
  -- the group that was found is the first whose name is no material's
  fault : first ≡ materials_at objects → from ≡ groups_at objects materials →
      group ≡ first_fault (one_of (names_in 1 materials names first (length materials))) (names_in 2 groups names from (length groups / 2)) →
      group ≡ first_fault (one_of (material_names names objects materials)) (group_names names objects materials groups)
  fault e f h = rw (e, f) at h

pub overflow_add-from : goal.overflow_add-from
overflow_add-from c =
    let e = capped-under _ _ _ _ c.sum-first.ensures (omega arith) in
    let f = capped-under _ _ _ _ c.sum.ensures (omega arith) in
    omega arith

pub first_unnamed-requires : goal.first_unnamed-requires
first_unnamed-requires c =
    let e = capped-under _ _ _ _ c.sum-first.ensures (omega arith) in
    let f = capped-under _ _ _ _ c.sum.ensures (omega arith) in
    (omega arith, omega arith, omega arith)

pub returns-in-Some : goal.returns-in-Some
returns-in-Some c =
    let a = c.args in
    let e = capped-under _ _ _ _ c.sum-first.ensures (omega arith) in
    let f = capped-under _ _ _ _ c.sum.ensures (omega arith) in
    let found = fault a.names.now a.objects.now a.materials.now a.groups.now c.sum-first.result (c.sum-first.result + c.sum.result) c.in-Some.group (omega arith) (omega arith) c.in-Some.ensures.is in
    row-found (one_of (material_names a.names.now a.objects.now a.materials.now)) (group_names a.names.now a.objects.now a.materials.now a.groups.now) NoMaterial [] _ found
    (omega (arith, c.in-Some.ensures.within, run_length (name_at 2 a.groups.now a.names.now (groups_at a.objects.now a.materials.now)) 0 (length a.groups.now / 2)))

pub returns-in-None : goal.returns-in-None
returns-in-None c =
    let a = c.args in
    let e = capped-under _ _ _ _ c.sum-first.ensures (omega arith) in
    let f = capped-under _ _ _ _ c.sum.ensures (omega arith) in
    let found = fault a.names.now a.objects.now a.materials.now a.groups.now c.sum-first.result (c.sum-first.result + c.sum.result) (length a.groups.now / 2) (omega arith) (omega arith) c.in-None.ensures.is in
    none-broken ∙
    row-through (one_of (material_names a.names.now a.objects.now a.materials.now)) (group_names a.names.now a.objects.now a.materials.now a.groups.now) NoMaterial [] _ found
    (omega (arith, run_length (name_at 2 a.groups.now a.names.now (groups_at a.objects.now a.materials.now)) 0 (length a.groups.now / 2)))
