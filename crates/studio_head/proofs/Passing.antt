-- One unlisted chunk more is passed over.
use mathlib.Core.Path.{◌≡◌, subst}
use mathlib.Core.Bool.{false}
use mathlib.Core.List.{List}
use Prim.Native.Nat.{ℕ, ◌+◌, ◌≤◌, ◌<◌}
use native.Mathlib.Omega.{arith}
use lib.ListN.{length}
use lib.Seq.{slice, length-slice}
use Rattle.studio_rules.specs.Table.{listed}
use Rattle.studio_rules.specs.Rules.{Parent}
use Rattle.shared_words.specs.Conditions.{broken}
use Rattle.studio_rules.specs.Walk.{header_conditions, length_field}
use Rattle.studio_head.specs.declared.Header.{Header}
use Rattle.studio_head.specs.Heads.{HeaderIs, HeaderWithin, header_of}
use Rattle.studio_head.specs.Passes.{Passes, none_yet, one_more}
use Rattle.studio_head.proofs.Opens.{step_skip}
use Rattle.std.specs.Prelude.{Result}
use Rattle.shared_words.specs.declared.Refusal.{Refusal}

-- how far it has come
pub record Passed (s : List ℕ) (at end o : ℕ) : Type 0 where
  pub past : at ≤ o
  pub before : o ≤ end
  pub passes : (p : Parent) (seen : List ℕ) → Passes p seen s at end o

pub passed_none : (s : List ℕ) (at end : ℕ) → at ≤ end → Passed s at end at
passed_none s at end h = record { past = omega arith; before = h; passes = λ p seen. none_yet }

pub passed-one : (s : List ℕ) (at end o : ℕ) → Passed s at end o → o < end → end ≤ length s → (r : Result Header Refusal) → HeaderIs s o (broken (header_conditions o (slice o end s) (length_field (slice o end s)))) r →
    (id past : ℕ) → r ≡ header_of id past → HeaderWithin o end (header_of id past) → listed id ≡ false → Passed s at end past
passed-one s at end o d h l r i id past e w u =
    let n : o + (6 + length (slice (o + 6) past s)) ≡ past = omega (arith, length-slice (o + 6) past s (omega (arith, w.1))) in
    record {
      past = omega (arith, d.past, w.0);
      before = w.1;
      passes = λ p seen.
          subst (Passes p seen s at end) n
          (one_more o id (slice (o + 6) past s) (slice past end s) (d.passes p seen) h (step_skip p seen s o end h l r i id past e u));
    }
