-- A leaf's body is its own data; else the row's shape says how long it is, and it fits.
use mathlib.Core.Path.{◌≡◌, refl, sym, ◌∙◌}
use Prim.Native.Nat.{ℕ, zero, suc, ◌<◌}
use native.Mathlib.Omega.{arith}
use lib.Seq.{slice}
use Rattle.studio_rules.specs.Table.{name, counted}
use Rattle.studio_row.specs.Packed.{size_in, kind_in}
use Rattle.studio_own_size.proofs.Sizes.{fixed-is, kind-fixed, kind-name, kind-counted, around-any}
use Rattle.studio_list_walk.proofs.Owns.{found-shape, found-leaf}
use Rattle.studio_list_walk.proofs.own_length.Goals as goal

two : (k : ℕ) → k < 3 → (k ≡ 0 → ⊥) → (k ≡ 1 → ⊥) → k ≡ 2
two zero h a b = absurd (a refl)
two (suc zero) h a b = absurd (b refl)
two (suc (suc k)) h a b = omega arith

pub returns-then-not-may_have_children : goal.returns-then-not-may_have_children
returns-then-not-may_have_children c =
    let x = c in let both = found-leaf x.args.file.now x.args.row x.requires.0 x.requires.1 (sym c.may_have_children.ensures ∙ c.if-not-may_have_children.true) in record { is = both.0; within = both.1 }

pub returns-in-0 : goal.returns-in-0
returns-in-0 c =
    let x = c in
    let a = x.args in
    let k = sym c.kind-kind.ensures ∙ c.in-0.is in
    let z = c.size-size.ensures.is in let both = found-shape a.file.now a.row x.requires.0 x.requires.1 (sym c.may_have_children.ensures ∙ c.if-not-may_have_children.false) c.fitting.result
    (λ around. rw (kind-fixed a.row k) (fixed-is a.file.now a.at a.stop (omega arith) (omega arith) (size_in a.row) around c.fitting.result (rw z at c.fitting.ensures)))
    c.unwrap_or.result c.unwrap_or.ensures in record { is = both.0; within = both.1 }

pub returns-in-1 : goal.returns-in-1
returns-in-1 c =
    let x = c in
    let a = x.args in
    let k = sym c.kind-kind.ensures ∙ c.in-1.is in let both = found-shape a.file.now a.row x.requires.0 x.requires.1 (sym c.may_have_children.ensures ∙ c.if-not-may_have_children.false) c.name_size.result
    (λ around. rw (kind-name a.row k) (around-any name (λ x y body. refl) around (slice a.at a.stop a.file.now) c.name_size.result c.name_size.ensures))
    c.unwrap_or-in-1.result c.unwrap_or-in-1.ensures in record { is = both.0; within = both.1 }

pub returns-in_default : goal.returns-in_default
returns-in_default c =
    let x = c in
    let a = x.args in
    let h = sym c.may_have_children.ensures ∙ c.if-not-may_have_children.false in
    let e = c.kind-kind.ensures in
    let i = x.requires.2 h in
    let k : kind_in a.row ≡ 2 = two (kind_in a.row) i (λ z. omega arith) (λ z. omega arith) in
    let z = c.size-size.ensures.is in let both = found-shape a.file.now a.row x.requires.0 x.requires.1 h c.counted_size.result
    (λ around. rw (kind-counted a.row k) (around-any (counted (size_in a.row)) (λ x y body. refl) around (slice a.at a.stop a.file.now) c.counted_size.result (rw z at c.counted_size.ensures)))
    c.unwrap_or-in_default.result c.unwrap_or-in_default.ensures in record { is = both.0; within = both.1 }
