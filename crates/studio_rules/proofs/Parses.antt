-- What obeys the rules parses; and the identifiers of known and of skipped chunks.
use mathlib.Core.Path.{◌≡◌, sym, ◌∙◌}
use mathlib.Core.Bool.{true, not, true≢false}
use mathlib.Core.List.{List, [], ◌∷◌}
use Prim.Native.Nat.{ℕ, ◌^◌, ◌<◌}
use lib.Dec.{ltb}
use borrow.Author.Tests.{ltb-true, not-true}
use Rattle.studio_rules.specs.Table.{listed}
use Rattle.studio_rules.specs.Layout.{Run, end, skip, known}
use Rattle.studio_rules.specs.Rules.{Parent, unlisted, inside, Obeys}
use Rattle.studio_rules.specs.Parses.{Place, within, Fits, Parses}
use Rattle.shared_words.proofs.Bools.{and_parts}
use Rattle.studio_rules.proofs.Rows.{under-listed, listed_small}

pub parses : (p : Parent) (seen : List ℕ) (t : Run) → Obeys p seen t → Parses (within p.id p.own) t
parses p seen end h = tt
parses p seen (skip id body rest) h = (h.0, parses p seen rest h.1)
parses p seen (known id own kids rest) h = (
  record { in_place = h.0.in_place; own_data_exact_lem = h.0.own_data_exact_lem; in_plus = h.1.in_plus },
  parses (inside p seen id own) [] kids h.2,
  parses p (id ∷ seen) rest h.3,
)

-- ---- the identifiers of known and of skipped chunks

pub fits-listed : (p : Place) (id : ℕ) (own : List ℕ) (kids : Run) → Fits p id own kids → listed id ≡ true
fits-listed p id own kids l = under-listed p.id id l.in_place

pub fits_small : (p : Place) (id : ℕ) (own : List ℕ) (kids : Run) → Fits p id own kids → id < 2 ^ 16
fits_small p id own kids l = ltb-true id 0x1_0000 (listed_small id (fits-listed p id own kids l))

pub unlisted_small : (id : ℕ) → unlisted id ≡ true → id < 2 ^ 16
unlisted_small id u = ltb-true id 0x1_0000 (and_parts _ _ u).0

pub not-both : (id : ℕ) → unlisted id ≡ true → listed id ≡ true → ⊥
not-both id u l = true≢false (sym l ∙ not-true (listed id) (and_parts (ltb id 0x1_0000) (not (listed id)) u).1)
