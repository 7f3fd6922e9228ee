-- The corners, then the pairs.
use Rattle.std.specs.Prelude.{Ok, Err}
use mathlib.Core.Path.{refl, sym, ap, ◌∙◌, subst}
use native.Mathlib.Omega.{arith}
use mathlib.Core.Option.{Option}
use Prim.Native.Nat.{ℕ}
use Rattle.shared_words.specs.declared.Refusal.{Refusal}
use Rattle.shared_words.proofs.Conditions.{broken-here, broken-later, unbroken}
use Rattle.studio_marks.specs.Marks.{ShutIs, corners_at, pairs_at}
use lib.ListN.{get_or}
use Rattle.studio_marks.proofs.at_mesh_end.Goals as goal

pub overflow_cast-marks : goal.overflow_cast-marks
overflow_cast-marks c = omega (arith, c.type_inv.marks 0)

pub count_at-n-requires : goal.count_at-n-requires
count_at-n-requires c = c.requires.1.vertices

pub overflow_cast-faces : goal.overflow_cast-faces
overflow_cast-faces c = omega (arith, c.type_inv.marks 1)

pub corners_fine-requires : goal.corners_fine-requires
corners_fine-requires c = c.requires.1.faces

pub returns-then-not-corners_fine : goal.returns-then-not-corners_fine
returns-then-not-corners_fine c =
    let x = c in
    let n = c.count_at-n.ensures.0 in
    let e = ap (λ (m : ℕ). corners_at x.args.file.now (get_or x.args.marks.now 1 0) m) (sym n) ∙ sym c.corners_fine.ensures ∙ c.if-not-corners_fine.true in
    subst (λ (y : Option Refusal). ShutIs y (Err (Refusal.Index (get_or x.args.marks.now 1 0)))) (sym (broken-here _ _ _ e)) refl

pub overflow_cast-pairs : goal.overflow_cast-pairs
overflow_cast-pairs c = omega (arith, c.type_inv.marks 2)

pub pairs_fine-requires : goal.pairs_fine-requires
pairs_fine-requires c = c.requires.1.pairs

pub returns-then-not-pairs_fine : goal.returns-then-not-pairs_fine
returns-then-not-pairs_fine c =
    let x = c in
    let n = c.count_at-n.ensures.0 in
    let e = ap (λ (m : ℕ). corners_at x.args.file.now (get_or x.args.marks.now 1 0) m) (sym n) ∙ sym c.corners_fine.ensures ∙ c.if-not-corners_fine.false in
    let f = ap (λ (m : ℕ). pairs_at x.args.file.now (get_or x.args.marks.now 2 0) x.args.as_many m) (sym n) ∙ sym c.pairs_fine.ensures ∙ c.if-not-pairs_fine.true in
    subst (λ (y : Option Refusal). ShutIs y (Err (Refusal.Count (get_or x.args.marks.now 2 0)))) (sym (broken-later _ _ _ e ∙ broken-here _ _ _ f)) refl

pub returns : goal.returns
returns c =
    let x = c in
    let n = c.count_at-n.ensures.0 in
    let e = ap (λ (m : ℕ). corners_at x.args.file.now (get_or x.args.marks.now 1 0) m) (sym n) ∙ sym c.corners_fine.ensures ∙ c.if-not-corners_fine.false in
    let f = ap (λ (m : ℕ). pairs_at x.args.file.now (get_or x.args.marks.now 2 0) x.args.as_many m) (sym n) ∙ sym c.pairs_fine.ensures ∙ c.if-not-pairs_fine.false in
    subst (λ (y : Option Refusal). ShutIs y (Ok tt)) (sym (unbroken _ (e, (f, tt)))) refl
