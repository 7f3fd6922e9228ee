-- A run is its first chunk and the rest: so are its bytes, its records, and what is written of it.
use mathlib.Core.Path.{◌≡◌, refl, sym, ap, ◌∙◌}
use mathlib.Core.List.{List, ◌++◌, append-nil, append_assoc}
use Prim.Native.Nat.{ℕ, suc, ◌+◌, ◌-◌, ◌≤◌, ◌<◌}
use native.Mathlib.Omega.{arith}
use lib.ListN.{length, take, drop}
use lib.Seq.{take_at, drop_at}
use Rattle.studio_rules.specs.declared.Record.{Record}
use Rattle.studio_rules.specs.Layout.{Run, end, skip, known, size, bytes}
use Rattle.studio_rules.specs.Parses.{Place, Parses}
use Rattle.studio_rules.specs.Gives.{record_count, records_of}
use Rattle.studio_rules.proofs.Sound.{length-bytes}
use Rattle.shared_numbers.specs.Numbers.{long_at}
use Rattle.shared_numbers.proofs.Slices.{drop-slice, take-slice}
use Rattle.studio_stands.proofs.Chunks.{stands-size, skip-header, known-header}
use Rattle.studio_list_rows.specs.Lent.{Lent, written}
use Rattle.studio_list_walk.specs.Laid.{first, Laid, Listed}
use Rattle.studio_list_rows.proofs.Rows.{written_on}
use Rattle.studio_rules.proofs.Jumps.{length-records}

abbrev pub rest : Run → Run
rest end = end
rest (skip id body more) = more
rest (known id own kids more) = more

-- ---- the parts of a run

split-bytes : (t : Run) → bytes (first t) ++ bytes (rest t) ≡ bytes t
split-bytes end = refl
split-bytes (skip id body more) = rw (append-nil body)
split-bytes (known id own kids more) = rw (append-nil (bytes kids), append_assoc own (bytes kids) (bytes more))

split-size : (t : Run) → size (first t) + size (rest t) ≡ size t
split-size end = refl
split-size (skip id body more) = omega arith
split-size (known id own kids more) = omega arith

pub split-count : (t : Run) → record_count (first t) + record_count (rest t) ≡ record_count t
split-count end = refl
split-count (skip id body more) = omega arith
split-count (known id own kids more) = omega arith

split-records : (o depth parent next : ℕ) (t : Run) →
    records_of o depth parent next (first t) ++ records_of (o + size (first t)) depth parent (next + record_count (first t)) (rest t) ≡ records_of o depth parent next t
split-records o depth parent next end = refl
split-records o depth parent next (skip id body more) =
    let a : o + (6 + length body + 0) ≡ o + (6 + length body) = omega arith in
    let b : next + 0 ≡ next = omega arith in
    rw (a, b)
split-records o depth parent next (known id own kids more) =
    let a : o + (6 + length own + size kids + 0) ≡ o + (6 + length own + size kids) = omega arith in
    let b : next + suc (record_count kids + 0) ≡ suc (next + record_count kids) = omega arith in
    rw (a, b, append-nil (records_of (o + (6 + length own)) (suc depth) next (suc next) kids))

parses-first : (p : Place) (t : Run) → Parses p t → Parses p (first t)
parses-first p end o = tt
parses-first p (skip id body more) o = (o.0, tt)
parses-first p (known id own kids more) o = (o.0, o.1, tt)

parses-rest : (p : Place) (t : Run) → Parses p t → Parses p (rest t)
parses-rest p end o = tt
parses-rest p (skip id body more) o = o.1
parses-rest p (known id own kids more) o = o.2

-- ---- a run in the file

pub laid-size : {s : List ℕ} {at stop : ℕ} {p : Place} {t : Run} → Laid s at stop p t → size t ≡ stop - at
laid-size {s} {at} {stop} {t = t} l = omega (arith, stands-size s at stop t l.stands)

-- The first chunk of a run from `at` to stop, where n is its length field: what it is alone, and what follows it.
pub record FirstAt (s : List ℕ) (at stop : ℕ) (p : Place) (n : ℕ) (t : Run) : Type 0 where
  pub size_is : n ≡ size (first t)
  pub header : 6 ≤ n
  pub ends : at + n ≤ stop
  pub alone : Laid s at (at + n) p (first t)
  pub follows : Laid s (at + n) stop p (rest t)

module _ {s : List ℕ} {at stop : ℕ} {p : Place} (more : at < stop) where
  -- the length field of its first chunk counts that chunk's bytes
  first-length : (t : Run) → Laid s at stop p t → (long_at s (at + 2) ≡ size (first t)) × (6 ≤ size (first t))
  first-length end l = absurd (omega (arith, laid-size l))
  first-length (skip id body r) l = ((skip-header s at stop p id body r l.stands l.parses).length-is ∙ omega arith, omega arith)
  first-length (known id own kids r) l = ((known-header s at stop p id own kids r l.stands l.parses).length-is ∙ omega arith, omega arith)

  module _ (t : Run) (l : Laid s at stop p t) where
    first_ends : at + size (first t) ≤ stop
    first_ends = omega (arith, laid-size l, split-size t)

    pub header-ends : at + 6 ≤ stop
    header-ends = omega (arith, first_ends, (first-length t l).1)

    pub first-at : (n : ℕ) → n ≡ long_at s (at + 2) → FirstAt s at stop p n t
    first-at n e =
        let z : n ≡ size (first t) = e ∙ (first-length t l).0 in
        record {
          size_is = z;
          header = omega (arith, (first-length t l).1);
          ends = omega (arith, first_ends);
          alone = record {
            stands = record {
              order = omega arith;
              stays = omega (arith, first_ends, l.stands.stays);
              small = l.stands.small;
              is = sym (take_at (bytes (first t)) (bytes (rest t)) n (length-bytes (first t) ∙ sym z)) ∙ ap (take n) (split-bytes t ∙ l.stands.is) ∙ take-slice n at stop s (omega (arith, first_ends));
            };
            parses = parses-first p t l.parses;
          };
          follows = record {
            stands = record {
              order = omega (arith, first_ends);
              stays = l.stands.stays;
              small = l.stands.small;
              is = sym (drop_at (bytes (first t)) (bytes (rest t)) n (length-bytes (first t) ∙ sym z)) ∙ ap (drop n) (split-bytes t ∙ l.stands.is) ∙ drop-slice n at stop s;
            };
            parses = parses-rest p t l.parses;
          };
        }

-- ---- a run in the rows

no_bytes : (t : Run) → size t ≡ 0 → t ≡ end
no_bytes end h = refl
no_bytes (skip id body more) h = absurd (omega arith)
no_bytes (known id own kids more) h = absurd (omega arith)

-- nothing is left
pub listed-end : (l : Lent) (at depth parent next : ℕ) (t : Run) → size t ≡ 0 → Listed l at depth parent next t l next
listed-end l at depth parent next t h =
    let e : t ≡ end = no_bytes t h in
    rw e (record { counts = omega arith; fills = refl })

pub listed-on : {l : Lent} {at depth parent next : ℕ} (t : Run) {l₁ : Lent} {n₁ : ℕ} {l₂ : Lent} {n₂ : ℕ} →
    Listed l at depth parent next (first t) l₁ n₁ → Listed l₁ (at + size (first t)) depth parent n₁ (rest t) l₂ n₂ →
    Listed l at depth parent next t l₂ n₂
listed-on {l} {at} {depth} {parent} {next} t {l₁} h g =
    let a = records_of at depth parent next (first t) in
    let b : ℕ → List Record = λ n. records_of (at + size (first t)) depth parent n (rest t) in
    let k = next + record_count (first t) in
    record {
      counts = omega (arith, g.counts, h.counts, split-count t);
      fills =
          g.fills ∙ ap (λ (n : ℕ). written l₁ n (b n)) h.counts ∙ ap (λ (x : Lent). written x k (b k)) h.fills ∙
          written_on l next a (b k) (record_count (first t)) (length-records at depth parent next (first t)) ∙ ap (written l next) (split-records at depth parent next t);
    }
