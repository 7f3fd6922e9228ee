-- A layout whose bytes are a part of a file: where its first chunk stands there, and what follows it.
use mathlib.Core.Path.{◌≡◌, refl, sym, ap, ◌∙◌}
use mathlib.Core.List.{List, ◌++◌}
use Prim.Native.Nat.{ℕ, ◌+◌, ◌-◌, ◌≤◌, ◌<◌, ◌^◌}
use native.Mathlib.Omega.{arith}
use lib.ListN.{length, take, drop, length-append}
use lib.Seq.{slice, length-slice, take_at, drop_at}
use Rattle.shared_words.specs.Bytes.{value}
use Rattle.studio_rules.specs.Layout.{Run, skip, known, size, header, bytes}
use Rattle.shared_words.proofs.Bytes.{value-le}
use Rattle.studio_rules.proofs.Sound.{length-bytes}
use Rattle.studio_stands.specs.Stands.{Headed}
use Rattle.shared_numbers.proofs.Slices.{drop-slice, take-slice, word_slice, long-slice}

module _ (s : List ℕ) (o stop : ℕ) (stays : stop ≤ length s) where
  -- bytes that begin with a header
  headed : (id n : ℕ) (more : List ℕ) → header id n ++ more ≡ slice o stop s → id < 2 ^ 16 → n < 2 ^ 32 → n ≤ 6 + length more → Headed s o stop id n
  headed id n more e i l f =
      let z : 6 + length more ≡ stop - o = omega (arith, ap length e ∙ length-slice o stop s stays) in
      let w : o + 6 ≤ stop = omega arith in
      record {
        six = w;
        ends = omega arith;
        id-is = sym (word_slice o stop s (omega arith)) ∙ ap (λ (x : List ℕ). value (take 2 x)) (sym e) ∙ value-le 2 id i;
        length-is = sym (long-slice (o + 2) stop s (omega arith)) ∙ ap (λ (x : List ℕ). value (take 4 x)) (sym (drop-slice 2 o stop s)) ∙ ap (λ (x : List ℕ). value (take 4 (drop 2 x))) (sym e) ∙ value-le 4 n l;
      }

  -- what stands behind the header: a part and the rest
  behind : (id n : ℕ) (part more : List ℕ) → header id n ++ (part ++ more) ≡ slice o stop s → more ≡ slice (o + (6 + length part)) stop s
  behind id n part more e =
      let q : o + 6 + length part ≡ o + (6 + length part) = omega arith in
      sym (drop_at part more (length part) refl) ∙ ap (λ (x : List ℕ). drop (length part) (drop 6 x)) e ∙ ap (drop (length part)) (drop-slice 6 o stop s) ∙
      drop-slice (length part) (o + 6) stop s ∙ ap (λ (k : ℕ). slice k stop s) q

  front : (id n : ℕ) (part more : List ℕ) → header id n ++ (part ++ more) ≡ slice o stop s → part ≡ slice (o + 6) (o + 6 + length part) s
  front id n part more e =
      let z : 6 + length (part ++ more) ≡ stop - o = omega (arith, ap length e ∙ length-slice o stop s stays) in
      sym (take_at part more (length part) refl) ∙ ap (λ (x : List ℕ). take (length part) (drop 6 x)) e ∙ ap (take (length part)) (drop-slice 6 o stop s) ∙
      take-slice (length part) (o + 6) stop s (omega (arith, length-append part more))

  module _ (id : ℕ) (body : List ℕ) (rest : Run) (e : bytes (skip id body rest) ≡ slice o stop s) (i : id < 2 ^ 16) (l : size (skip id body rest) < 2 ^ 32) where
    pub skip-headed : Headed s o stop id (6 + length body)
    skip-headed = headed id (6 + length body) (body ++ bytes rest) e i (omega arith) (omega (arith, length-append body (bytes rest)))

    pub skip-rest : bytes rest ≡ slice (o + (6 + length body)) stop s
    skip-rest = behind id (6 + length body) body (bytes rest) e

  module _ (id : ℕ) (own : List ℕ) (kids rest : Run) (e : bytes (known id own kids rest) ≡ slice o stop s) (i : id < 2 ^ 16) (l : size (known id own kids rest) < 2 ^ 32) where
    pub known-headed : Headed s o stop id (6 + length own + size kids)
    known-headed =
        headed id (6 + length own + size kids) (own ++ (bytes kids ++ bytes rest)) e i (omega arith)
        (omega (arith, length-append own (bytes kids ++ bytes rest), length-append (bytes kids) (bytes rest), length-bytes kids))

    pub known_own : own ≡ slice (o + 6) (o + 6 + length own) s
    known_own = front id (6 + length own + size kids) own (bytes kids ++ bytes rest) e

    both : bytes kids ++ bytes rest ≡ slice (o + (6 + length own)) stop s
    both = behind id (6 + length own + size kids) own (bytes kids ++ bytes rest) e

    pub known_kids : bytes kids ≡ slice (o + (6 + length own)) (o + (6 + length own + size kids)) s
    known_kids =
        let k : o + (6 + length own) + size kids ≡ o + (6 + length own + size kids) = omega arith in
        sym (take_at (bytes kids) (bytes rest) (size kids) (length-bytes kids)) ∙ ap (take (size kids)) both ∙
        take-slice (size kids) (o + (6 + length own)) stop s (omega (arith, known-headed.ends)) ∙ ap (λ (n : ℕ). slice (o + (6 + length own)) n s) k

    pub known-rest : bytes rest ≡ slice (o + (6 + length own + size kids)) stop s
    known-rest =
        let k : o + (6 + length own) + size kids ≡ o + (6 + length own + size kids) = omega arith in
        sym (drop_at (bytes kids) (bytes rest) (size kids) (length-bytes kids)) ∙ ap (drop (size kids)) both ∙
        drop-slice (size kids) (o + (6 + length own)) stop s ∙ ap (λ (n : ℕ). slice n stop s) k
