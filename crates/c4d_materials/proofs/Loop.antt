-- The loop over a MAT4: what is left of the walk answers for the whole.
use mathlib.Core.Path.{◌≡◌, refl, ap, ◌∙◌}
use Prim.Native.Nat.{ℕ, suc, ◌+◌, ◌<◌, ◌≤◌}
use native.Mathlib.Omega.{arith}
use mathlib.Core.Bool.{Bool, true, false, cond}
use mathlib.Core.List.{List}
use mathlib.Core.Option.{some}
use lib.Dec.{eqb}
use lib.ListN.{length}
use lib.Seq.{slice}
use Rattle.shared_words.specs.declared.Refusal.TheVariants.{Overrun, Order}
use Rattle.shared_words.specs.Conditions.{broken, Answer, refused, accepted}
use Rattle.shared_words.proofs.Bools.{bit_small}
use Rattle.c4d_rules.specs.Blocks.{Block, material_header}
use Rattle.c4d_rules.specs.Kinds.{mat_end, mat_next}
use Rattle.c4d_rules.specs.Rules.{material_id, nexts}
use Rattle.c4d_rules.specs.Read.{with_more, walk}
use Rattle.c4d_rules.specs.Walk.{material_grammar}
use Rattle.c4d_blocks.specs.Headers.{block_in, overrun, Tells}
use Rattle.c4d_blocks.proofs.Steps.{at-end, overruns, refuses, goes_on}
use Rattle.std.specs.Prelude.{Result, Ok, Err}
use Rattle.shared_words.specs.declared.Refusal.{Refusal}
use Rattle.c4d_materials.specs.Counted.{counted_from}

counted-more : (n : ℕ) (b : Block) (w : Answer (List Block)) → counted_from n (with_more b w) ≡ counted_from (n + cond (eqb (material_id b) mat_next) 1 0) w
counted-more n b (refused r) = refl
counted-more n b (accepted bs) = ap (λ (k : ℕ). Ok k) (go (eqb (material_id b) mat_next))
  where
    go : (q : Bool) → n + cond q (suc (nexts bs)) (nexts bs) ≡ n + cond q 1 0 + nexts bs
    go true = omega arith
    go false = omega arith

-- what is counted of the MAT4 at `chunk`
abbrev pub whole : List ℕ → ℕ → ℕ → Result ℕ Refusal
whole s chunk to = counted_from 0 (walk (material_grammar chunk) false (chunk + 8) (slice (chunk + 8) to s))

pub record On (s : List ℕ) (chunk to at : ℕ) (ended : Bool) (n : ℕ) : Type 0 where
  pub goes : whole s chunk to ≡ counted_from n (walk (material_grammar chunk) ended at (slice at to s))
  pub within : at ≤ to
  pub few : n ≤ at

pub on-start : (s : List ℕ) (chunk to : ℕ) → chunk + 8 ≤ to → On s chunk to (chunk + 8) false 0
on-start s chunk to l = record { goes = refl; within = l; few = omega arith }

module _ (s : List ℕ) (chunk to at : ℕ) (m : to ≤ length s) where
  module _ (ended : Bool) (n : ℕ) (i : On s chunk to at ended n) (l : at < to) where
    pub on-cut : overrun material_header s at to ≡ some (Overrun at) → whole s chunk to ≡ Err (Overrun at)
    on-cut e = i.goes ∙ ap (counted_from n) (overruns (material_grammar chunk) (omega arith) s ended at to l m (Overrun at) e)

  pub on-after : (n id len : ℕ) → On s chunk to at true n → at < to → Tells material_header s at to id len → whole s chunk to ≡ Err (Order at)
  unfolding broken
  on-after n id len i l t = i.goes ∙ ap (counted_from n) (refuses (material_grammar chunk) (omega arith) s true at to l m id len t (Order at) refl)

  pub on-more : (n id len : ℕ) → On s chunk to at false n → at < to → Tells material_header s at to id len →
      On s chunk to (at + (4 + len)) (eqb id mat_end) (n + cond (eqb id mat_next) 1 0)
  unfolding broken
  on-more n id len i l t =
      let b = block_in material_header s at to in
      let f = t.fits in
      let k = i.few in
      record {
        goes = i.goes ∙ ap (counted_from n) (goes_on (material_grammar chunk) (omega arith) s false at to l m id len t b refl) ∙
            counted-more n b (walk (material_grammar chunk) (eqb (material_id b) mat_end) (at + (4 + len)) (slice (at + (4 + len)) to s)) ∙ rw t.id-is;
        within = omega arith;
        few = omega (arith, bit_small (eqb id mat_next));
      }

  pub on_open : (n : ℕ) → On s chunk to at false n → to ≤ at → whole s chunk to ≡ Err (Order chunk)
  unfolding broken
  on_open n i l = i.goes ∙ ap (counted_from n) (at-end (material_grammar chunk) (omega arith) s false at to (omega (arith, i.within)))

  pub on-end : (n : ℕ) → On s chunk to at true n → to ≤ at → whole s chunk to ≡ Ok n
  unfolding broken
  on-end n i l =
      let z : n + 0 ≡ n = omega arith in
      i.goes ∙ ap (counted_from n) (at-end (material_grammar chunk) (omega arith) s true at to (omega (arith, i.within))) ∙ ap (λ (k : ℕ). Ok k) z
