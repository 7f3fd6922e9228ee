-- The parts of a step are parts of the file.
use mathlib.Core.Path.{◌≡◌, refl, sym, ap, ◌∙◌}
use mathlib.Core.List.{List, ◌++◌}
use Prim.Native.Nat.{ℕ, suc, ◌+◌, ◌-◌, ◌≤◌, ◌<◌}
use native.Mathlib.Omega.{arith}
use lib.ListN.{length, take, drop, get_or, length-append}
use lib.Seq.{slice, slice-cons, length-slice, take_at, drop_at}
use Rattle.shared_words.specs.Bytes.{Bytes}
use Rattle.studio_rules.specs.Layout.{header}
use Rattle.studio_rules.specs.Rules.{Parent}
use Rattle.studio_rules.specs.Walk.{Step, stop, pass, enter, step, taken, walk}
use Rattle.shared_words.proofs.Bytes.{bytes_drop, bytes_take}
use Rattle.studio_rules.proofs.Steps.{Says, step-says}
use Rattle.studio_rules.proofs.Fuel.{walk_cons}
use Rattle.shared_numbers.proofs.Slices.{drop-slice, take-slice}

pub bytes-slice : (s : List ℕ) (at end : ℕ) → Bytes s → Bytes (slice at end s)
bytes-slice s at end b = bytes_drop at (take end s) (bytes_take end s b)

pub record PassedAt (s : List ℕ) (at end past : ℕ) (rest : List ℕ) : Type 0 where
  pub ends : past ≤ end
  pub rest-is : rest ≡ slice past end s

pub record EnteredAt (s : List ℕ) (at end from past : ℕ) (kids rest : List ℕ) : Type 0 where
  pub ends : past ≤ end
  pub kids_are : kids ≡ slice from past s
  pub rest-is : rest ≡ slice past end s

abbrev pub PartsAt : List ℕ → ℕ → ℕ → Step → Type 0
PartsAt s at end (stop x) = Unit
PartsAt s at end (pass id body rest) = PassedAt s at end (at + (6 + length body)) rest
PartsAt s at end (enter id own kids rest) = EnteredAt s at end (at + (6 + length own)) (at + (6 + length own + length kids)) kids rest

module _ (s : List ℕ) (at end : ℕ) (o : at < end) (l : end ≤ length s) where
  -- what stands behind a header and a part of the body
  behind : (id n : ℕ) (part more : List ℕ) → header id n ++ (part ++ more) ≡ slice at end s → more ≡ slice (at + (6 + length part)) end s
  behind id n part more e =
      let q : at + 6 + length part ≡ at + (6 + length part) = omega arith in
      sym (drop_at part more (length part) refl) ∙ ap (λ (x : List ℕ). drop (length part) (drop 6 x)) e ∙ ap (drop (length part)) (drop-slice 6 at end s) ∙
      drop-slice (length part) (at + 6) end s ∙ ap (λ (k : ℕ). slice k end s) q

  fills : (id n : ℕ) (more : List ℕ) → header id n ++ more ≡ slice at end s → 6 + length more ≡ end - at
  fills id n more e = omega (arith, ap length e ∙ length-slice at end s l)

  parts : (p : Parent) (seen : List ℕ) (x : Step) → Says p seen (slice at end s) x → PartsAt s at end x
  parts p seen (stop x) h = tt
  parts p seen (pass id body rest) h =
      record { ends = omega (arith, fills id (6 + length body) (body ++ rest) h.is, length-append body rest); rest-is = behind id (6 + length body) body rest h.is }
  parts p seen (enter id own kids rest) h =
      let f = fills id (6 + length own + length kids) (own ++ (kids ++ rest)) h.is in
      let b = behind id (6 + length own + length kids) own (kids ++ rest) h.is in
      let k : at + (6 + length own) + length kids ≡ at + (6 + length own + length kids) = omega arith in
      let z : at + (6 + length own + length kids) ≤ end = omega (arith, length-append own (kids ++ rest), length-append kids rest) in
      record {
        ends = z;
        kids_are = sym (take_at kids rest (length kids) refl) ∙ ap (take (length kids)) b ∙ take-slice (length kids) (at + (6 + length own)) end s (omega arith) ∙ ap (λ (n : ℕ). slice (at + (6 + length own)) n s) k;
        rest-is = sym (drop_at kids rest (length kids) refl) ∙ ap (drop (length kids)) b ∙ drop-slice (length kids) (at + (6 + length own)) end s ∙ ap (λ (n : ℕ). slice n end s) k;
      }

  pub step-parts : (p : Parent) (seen : List ℕ) → Bytes s → PartsAt s at end (step p seen at (slice at end s))
  step-parts p seen b = parts p seen (step p seen at (slice at end s)) (step-says p seen at (slice at end s) (bytes-slice s at end b))

  -- the walk of a part that is not empty
  pub walk-part : (p : Parent) (seen : List ℕ) → walk p seen at (slice at end s) ≡ taken walk p seen at (step p seen at (slice at end s))
  walk-part p seen = rw (slice-cons at end s 0 o l) (walk_cons p seen at (get_or s at 0) (slice (suc at) end s))
