-- The lines of a flat row: one more at the end, and those of the records that it holds.
use mathlib.Core.Path.{◌≡◌, refl, sym, ap, ◌∙◌}
use mathlib.Core.List.{List, [], ◌∷◌, ◌++◌, append_assoc, append-nil}
use Prim.Native.Nat.{ℕ, zero, suc, ◌+◌, ◌*◌}
use native.Mathlib.Numerals.{add-one}
use native.Mathlib.Omega.{arith}
use lib.ListN.{length, drop, get_or}
use lib.Seq.{get_or-drop}
use Rattle.studio_rules.specs.declared.Record.{Record}
use Rattle.studio_rules.specs.Gives.{record_numbers, flat}
use Rattle.listing_text.specs.Lines.{chunk_line, lines, line_at, row_lines}

-- the record after the first stands seven numbers further on
at_drop : (row : List ℕ) (j k : ℕ) → get_or (drop record_numbers row) (j + k) 0 ≡ get_or row (record_numbers + j + k) 0
at_drop row j k =
    let e : record_numbers + j + k ≡ record_numbers + (j + k) = omega arith in
    rw e (get_or-drop record_numbers row (j + k) 0)

line-drop : (row : List ℕ) (j : ℕ) → line_at (drop record_numbers row) j ≡ line_at row (record_numbers + j)
line-drop row j = rw (at_drop row j 3, get_or-drop record_numbers row j 0, at_drop row j 1, at_drop row j 2)

lines-suc : (row : List ℕ) (i : ℕ) → row_lines (suc i) row ≡ row_lines i row ++ line_at row (record_numbers * i)
lines-suc row zero = append-nil (line_at row 0)
lines-suc row (suc i) =
    let j : record_numbers * suc i ≡ record_numbers + record_numbers * i = omega arith in
    ap (λ (l : List ℕ). line_at row 0 ++ l) (lines-suc (drop record_numbers row) i) ∙
    rw (j, line-drop row (record_numbers * i)) (sym (append_assoc (line_at row 0) (row_lines i (drop record_numbers row)) (line_at row (record_numbers + record_numbers * i))))

-- the lines of the first i + 1 records
pub lines_more : (row : List ℕ) (i : ℕ) → row_lines (i + 1) row ≡ row_lines i row ++ line_at row (record_numbers * i)
lines_more row i = rw (add-one i) (lines-suc row i)

-- a row that begins with records has their lines
pub lines-flat : (rs : List Record) (rest : List ℕ) → row_lines (length rs) (flat rs ++ rest) ≡ lines rs
lines-flat [] rest = refl
lines-flat (r ∷ rs) rest = ap (λ (l : List ℕ). chunk_line r.depth r.identifier r.offset r.len ++ l) (lines-flat rs rest)
