-- The byte counts of a file add to its length, which is within the limit: so each fits 32 bits.
use Rattle.shared_words.specs.declared.Refusal.{Refusal}
use Rattle.std.specs.Prelude.{Result, Ok, Err}
use mathlib.Core.Path.{◌≡◌, refl, ap}
use mathlib.Core.List.{List}
use Prim.Native.Nat.{ℕ}
use native.Mathlib.Omega.{arith}
use Rattle.studio_rules.specs.declared.Counts.{Counts}
use Rattle.shared_words.specs.Bytes.{Bytes}
use Rattle.studio_rules.specs.Calls.{check_call}
use Rattle.studio_rules.proofs.Theorems.{counts-add}
use Rattle.studio_check.proofs.Accepted.{accepted-by, meets-by}
use Rattle.studio_rules.specs.Within.{CountsWithin}

pub counts-within : (s : List ℕ) → Bytes s → CountsWithin (check_call s)
counts-within s b = go (check_call s) refl
  where
    go : (x : Result Counts Refusal) → check_call s ≡ x → CountsWithin x
    go (Err r) e = tt
    go (Ok c) e =
        let a = accepted-by s c e in
        let m = meets-by b a in
        let n = counts-add s a.kids m in
        let l = m.within-limit in
        let q = a.counts_are in
        let h = ap (λ (x : Counts). x.headers) q in
        let o = ap (λ (x : Counts). x.own) q in
        let k = ap (λ (x : Counts). x.skipped) q in
        (omega arith, omega arith, omega arith)
