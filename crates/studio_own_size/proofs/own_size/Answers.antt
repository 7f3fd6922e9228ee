-- One shape for each kind.
use mathlib.Core.Path.{refl, sym, ◌∙◌}
use native.Mathlib.Omega.{arith}
use Rattle.studio_rules.specs.Table.{fixed, name, counted, each, named_words, named}
use Rattle.studio_row.specs.Packed.{size_in}
use mathlib.Core.List.{[]}
use lib.Seq.{slice}
use Rattle.studio_own_size.proofs.Sizes.{product_small, fixed-is, each-is, kind-fixed, kind-name, kind-counted, kind-each, kind_words, kind-named, name_fine, fit_any}
use Rattle.studio_own_size.proofs.own_size.Goals as goal

pub overflow_mul-size : goal.overflow_mul-size
overflow_mul-size c = omega (arith, product_small c.size-in-3.result c.args.count c.size-in-3.ensures.small (omega arith))

pub returns-in-0 : goal.returns-in-0
returns-in-0 c = λ around h.
    let a = c.args in
    let z = c.size.ensures.is in
    rw (kind-fixed a.row (sym c.kind-kind.ensures ∙ c.in-0.is))
    (name_fine (fixed (size_in a.row)) around (slice a.at a.stop a.file.now) refl c.fitting.result
    (fixed-is a.file.now a.at a.stop (omega arith) (omega arith) (size_in a.row) around c.fitting.result (rw z at c.fitting.ensures)))

pub returns-in-1 : goal.returns-in-1
returns-in-1 c = λ around h.
    let a = c.args in
    rw (kind-name a.row (sym c.kind-kind.ensures ∙ c.in-1.is))
    (fit_any name (λ x y body. refl) around (slice a.at a.stop a.file.now) c.short_label.result c.short_label.ensures)

pub returns-in-2 : goal.returns-in-2
returns-in-2 c = λ around h.
    let a = c.args in
    let z = c.size-in-2.ensures.is in
    rw (kind-counted a.row (sym c.kind-kind.ensures ∙ c.in-2.is))
    (fit_any (counted (size_in a.row)) (λ x y body. refl) around (slice a.at a.stop a.file.now) c.counted_size.result
    (name_fine (counted (size_in a.row)) [] (slice a.at a.stop a.file.now) refl c.counted_size.result (rw z at c.counted_size.ensures)))

pub returns-in-3 : goal.returns-in-3
returns-in-3 c = λ around h.
    let a = c.args in
    let z = c.size-in-3.ensures.is in
    rw (kind-each a.row (sym c.kind-kind.ensures ∙ c.in-3.is))
    (name_fine (each (size_in a.row)) around (slice a.at a.stop a.file.now) refl c.fitting-in-3.result
    (each-is a.file.now a.at a.stop (omega arith) (omega arith) (size_in a.row) a.count around h c.fitting-in-3.result (rw z at c.fitting-in-3.ensures)))

pub returns-in-4 : goal.returns-in-4
returns-in-4 c = λ around h.
    let a = c.args in
    rw (kind_words a.row (sym c.kind-kind.ensures ∙ c.in-4.is))
    (fit_any named_words (λ x y body. refl) around (slice a.at a.stop a.file.now) c.named_words_size.result c.named_words_size.ensures)

pub returns-in_default : goal.returns-in_default
returns-in_default c = λ around h.
    let a = c.args in
    let k = c.kind-kind.ensures in
    let z = c.size-in_default.ensures.is in
    rw (kind-named a.row (λ e. omega arith) (λ e. omega arith) (λ e. omega arith) (λ e. omega arith) (λ e. omega arith))
    (fit_any (named (size_in a.row)) (λ x y body. refl) around (slice a.at a.stop a.file.now) c.named_size.result (rw z at c.named_size.ensures))
