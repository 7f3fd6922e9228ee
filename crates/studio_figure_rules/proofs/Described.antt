-- Figures given as rows: whether the rows fit is judged before what they give, and what is written reads back.
use Rattle.std.specs.Prelude.{Result, Ok, Err}
use mathlib.Core.Path.{◌≡◌, refl, sym, ap, ◌∙◌, subst}
use Prim.Native.Nat.{ℕ, ◌^◌}
use native.Mathlib.Omega.{arith}
use mathlib.Core.Bool.{true, false}
use mathlib.Core.List.{List, [], ◌∷◌, ◌++◌, map}
use mathlib.Core.Option.{Option, none, some, some-ne-none}
use lib.Ieee.{binary32, to_bits}
use lib.ListN.{length, take, drop}
use Rattle.shared_words.specs.declared.Refusal.{Refusal}
use Rattle.studio_rules.specs.Layout.{figure, bytes}
use Rattle.shared_words.specs.Conditions.{Condition, must, broken}
use Rattle.shared_words.specs.Effects.{Effect}
use Rattle.shared_words.specs.Lists.{every}
use Rattle.studio_rules.specs.Rules.{all_below}
use Rattle.shared_words.proofs.Bools.{both}
use Rattle.studio_write_judge.specs.Judged.{answer_of}
use Rattle.studio_write.specs.Write.{writing}
use Rattle.studio_write.specs.ReadsBack.{Floats32}
use Rattle.studio_write.proofs.Floats.{floats_small}
use Rattle.studio_figure_rules.specs.Built.{layout}
use Rattle.studio_figure_rules.specs.Judged.{size_of, conditions, judged_figure}
use Rattle.studio_figure_rules.specs.Write.{write_figure}
use Rattle.studio_figure_rules.specs.Described.{Flat, fit_conditions, described, judged_flat, write_flat, FitsFirst, ObjectCounts, objects_in, objects_of}
use Rattle.studio_figure_rules.specs.Given.{Group, Object, Bits32}
use Rattle.studio_figure_rules.specs.ReadsBack.{ReadsBack, FlatReadsBack}
use Rattle.studio_figure_rules.proofs.Lists.{every_take, every_drop}
use Rattle.studio_figure_rules.proofs.ReadsBack.{written-reads-back}

-- ---- conditions after others

pub broken-first : (cs ds : List Condition) (r : Refusal) → broken cs ≡ some r → broken (cs ++ ds) ≡ some r
unfolding broken
broken-first [] ds r h = let z : ◌≡◌ {A = Option Refusal} (some r) none = cc in absurd (some-ne-none r z)
broken-first (must true x ∷ cs) ds r h = broken-first cs ds r h
broken-first (must false x ∷ cs) ds r h = h

pub broken-rest : (cs ds : List Condition) → broken cs ≡ none → broken (cs ++ ds) ≡ broken ds
unfolding broken
broken-rest [] ds h = refl
broken-rest (must true x ∷ cs) ds h = broken-rest cs ds h
broken-rest (must false x ∷ cs) ds h = absurd (some-ne-none x h)

-- ---- the rows, then what they give

pub fits-first : (r : Flat) (out : List ℕ) → FitsFirst r out
unfolding write_flat judged_flat write_figure judged_figure
fits-first r out =
    let rest = conditions (described r) (length out) in
    let answer : Option Refusal → Effect (Result ℕ Refusal) (List ℕ) = λ o. writing (bytes (figure (layout (described r)))) out (answer_of (size_of (described r)) o) in
    record { misfit = λ x h. ap answer (broken-first (fit_conditions r) rest x h); fits = λ h. ap answer (broken-rest (fit_conditions r) rest h) }

-- ---- what is written reads back

objects-bits : (cs : List ObjectCounts) (names vertices corners smoothing : List ℕ) (groups : List Group) → all_below (256 ^ 4) vertices ≡ true →
    every (λ (o : Object). all_below (256 ^ 4) o.vertices) (objects_of cs names vertices corners smoothing groups) ≡ true
unfolding every
objects-bits [] names vertices corners smoothing groups h = refl
objects-bits (c ∷ cs) names vertices corners smoothing groups h =
    both _ _ (every_take _ c.floats vertices h)
    (objects-bits cs (drop c.name names) (drop c.floats vertices) (drop c.corners corners) (drop c.smoothing smoothing) (drop c.groups groups)
    (every_drop _ c.floats vertices h))

described-bits : (r : Flat) → Floats32 r.vertices → Bits32 (described r)
described-bits r h = objects-bits (objects_in r) r.names (map (to_bits binary32) r.vertices) r.corners r.smoothing _ (floats_small r.vertices h)

pub flat-reads-back : FlatReadsBack
flat-reads-back r out size h e = go (broken (fit_conditions r)) refl
  where
    go : (o : Option Refusal) → broken (fit_conditions r) ≡ o → ReadsBack (described r) (take size (write_flat r out).rows)
    go none b =
        let same = (fits-first r out).fits b in
        let answer : (write_figure (described r) out).answer ≡ Ok size = sym (ap (λ (w : Effect (Result ℕ Refusal) (List ℕ)). w.answer) same) ∙ e in
        subst (λ (w : Effect (Result ℕ Refusal) (List ℕ)). ReadsBack (described r) (take size w.rows)) (sym same)
        (written-reads-back (described r) out size (described-bits r h) answer)
    go (some x) b =
        let refused : Err x ≡ Ok size = sym (ap (λ (w : Effect (Result ℕ Refusal) (List ℕ)). w.answer) ((fits-first r out).misfit x b)) ∙ e in
        let z : ◌≡◌ {A = ℕ} 0 1 = cc in
        absurd (omega arith)
