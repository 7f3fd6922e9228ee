-- Whether the floats of a list are finite, k of them an entry.
use Prim.Native.Nat.{ℕ, ◌+◌, ◌*◌}
use lib.ListN.{drop}
use mathlib.Core.Path.{◌≡◌, ap, ◌∙◌}
use native.Mathlib.Omega.{arith}
use Rattle.shared_numbers.specs.Numbers.{long_at}
use Rattle.shared_words.specs.Bytes.{numbers}
use Rattle.shared_words.specs.Floats.{finite}
use Rattle.shared_words.specs.Lists.{every}
use Rattle.cob_mesh.proofs.list_finite.Goals as goal

pub overflow_mul-k : goal.overflow_mul-k
overflow_mul-k c = let x = c.args in
    let e : x.k * c.wide-count.result ≡ x.k * long_at x.s.now x.at = ap (λ (n : ℕ). x.k * n) (c.wide-count.ensures ∙ c.long_at.ensures.is) in
    omega (arith, c.requires.1)

pub all_finite-requires : goal.all_finite-requires
all_finite-requires c = let x = c.args in
    let e : x.k * c.wide-count.result ≡ x.k * long_at x.s.now x.at = ap (λ (n : ℕ). x.k * n) (c.wide-count.ensures ∙ c.long_at.ensures.is) in
    omega (arith, c.requires.1)

pub returns : goal.returns
returns c = let x = c.args in
    c.all_finite.ensures ∙ ap (λ (n : ℕ). every finite (numbers 4 (x.k * n) (drop (x.at + 4) x.s.now))) (c.wide-count.ensures ∙ c.long_at.ensures.is)
