-- The chunk at a place of the file: skipped where the table has no row for its identifier, else a record and its children.
use mathlib.Core.Path.{◌≡◌, refl, sym, ap, ◌∙◌}
use mathlib.Core.Bool.{not}
use mathlib.Core.List.{List, [], ◌∷◌, ◌++◌, append-nil}
use Prim.Native.Nat.{ℕ, suc, ◌+◌, ◌-◌, ◌≤◌}
use native.Mathlib.Omega.{arith}
use lib.Dec.{ltb}
use lib.ListN.{length, drop}
use lib.Seq.{slice}
use borrow.Author.Tests.{eqb-false, eqb-true, not-true}
use Rattle.studio_rules.specs.declared.Record.{Record}
use Rattle.studio_rules.specs.Table.{listed, plus, shape}
use Rattle.studio_rules.specs.OwnData.{own_size}
use Rattle.studio_rules.specs.Layout.{Run, end, skip, known, size, bytes}
use Rattle.studio_rules.specs.Rules.{no_child}
use Rattle.studio_rules.specs.Parses.{Place, within, Fits}
use Rattle.studio_rules.specs.Gives.{record_count, records_of}
use Rattle.shared_words.proofs.Bools.{and_parts, or_second}
use Rattle.shared_numbers.specs.Numbers.{word_at}
use Rattle.shared_numbers.proofs.Slices.{drop-slice}
use Rattle.studio_rules.proofs.Parses.{fits-listed}
use Rattle.studio_stands.proofs.Chunks.{skip-header, known-header, kids_here}
use Rattle.studio_row.specs.Packed.{row_of}
use Rattle.studio_row.proofs.Facts.{row-of-listed, row-of-unlisted, plus-is, shape_is}
use Rattle.studio_list_rows.specs.Lent.{Lent, written}
use Rattle.studio_list_walk.specs.Laid.{first, Laid, Bounds, Listed, Begins}
use Rattle.studio_list_rows.proofs.Rows.{written-before}
use Rattle.studio_list_walk.proofs.Runs.{laid-size, listed-end}
use Rattle.studio_rules.proofs.Complete.{no_bytes}

-- own data of a lawful chunk, before its children's bytes
lawful-begins : (p : Place) (id : ℕ) (own : List ℕ) (kids : Run) → Fits p id own kids → Begins (row_of id) p.own own (bytes kids ++ [])
lawful-begins p id own kids l =
    let i = fits-listed p id own kids l in
    record {
      exact = λ h. rw (shape_is id i) (eqb-true (own_size (shape id) p.own own) (length own) l.own_data_exact_lem);
      whole = λ e. append-nil (bytes kids) ∙ no_bytes kids (or_second (plus id) (no_child kids) l.in_plus (sym (plus-is id i) ∙ e));
    }

-- A chunk of this identifier from `at` to stop, with so many bytes of own data: what it is around its children, and its
-- records by theirs.
pub record Entered (s : List ℕ) (at stop id own : ℕ) (t : Run) : Type 0 where
  pub around : Place
  pub kids : Run
  pub laid : Laid s (at + 6 + own) stop around kids
  pub fills : stop ≡ at + 6 + own + size kids
  pub counts : record_count t ≡ suc (record_count kids)
  pub lists : (depth parent next : ℕ) → records_of at depth parent next t ≡
      record { identifier = id; offset = at; len = stop - at; depth = depth; parent = parent; own = own; next = next + 1 + record_count kids } ∷
      records_of (at + 6 + own) (depth + 1) next (next + 1) kids

module _ {s : List ℕ} {at stop depth parent next : ℕ} (order : at + 6 ≤ stop) (bounds : Bounds s at stop depth parent next) {id row : ℕ} (id-is : id ≡ word_at s at) (row_is : row ≡ row_of id) where
  -- a chunk without a row
  pub skipped-listed : (records : Lent) → row ≡ 0 → (p : Place) (t : Run) → Laid s at stop p (first t) → Listed records at depth parent next (first t) records next
  skipped-listed records e p end l = absurd (omega (arith, laid-size l))
  skipped-listed records e p (skip id₁ body rest) l = record { counts = omega arith; fills = refl }
  skipped-listed records e p (known id₁ own kids rest) l =
      let z = laid-size l in
      let w = l.parses.0 in
      let j = (known-header s at stop p id₁ own kids end l.stands l.parses).id-is in
      absurd (eqb-false (row_of id₁) 0 (row-of-listed id₁ (fits-listed p id₁ own kids w)) (ap row_of (sym j ∙ sym id-is) ∙ sym row_is ∙ e))

  -- a chunk with one; k is what own data comes to
  module _ {k : ℕ} (found : (around own more : List ℕ) → Begins row around own more → own ++ more ≡ slice (at + 6) stop s → k ≡ length own) where
    pub entered : (row ≡ 0 → ⊥) → (p : Place) (t : Run) → Laid s at stop p (first t) → Entered s at stop id k (first t)
    entered e p end l = absurd (omega (arith, laid-size l))
    entered e p (skip id₁ body rest) l =
        let z = laid-size l in
        let u = l.parses.0 in
        let j = (skip-header s at stop p id₁ body end l.stands l.parses).id-is in
        absurd (e (row_is ∙ (ap row_of (id-is ∙ j) ∙ row-of-unlisted id₁ (not-true (listed id₁) (and_parts (ltb id₁ 0x1_0000) (not (listed id₁)) u).1))))
    entered e p (known id₁ own kids rest) l =
        let z = laid-size l in
        let w = l.parses.0 in
        let j = id-is ∙ (known-header s at stop p id₁ own kids end l.stands l.parses).id-is in
        let b : Begins row p.own own (bytes kids ++ []) = rw (row_is, j) (lawful-begins p id₁ own kids w) in
        let n : k ≡ length own = found p.own own (bytes kids ++ []) b (ap (drop 6) l.stands.is ∙ drop-slice 6 at stop s) in
        let f : at + 6 + k ≡ at + (6 + length own) = omega arith in
        let g : stop ≡ at + (6 + length own + size kids) = omega arith in
        let a : stop - at ≡ 6 + length own + size kids = omega arith in
        record {
          around = within id₁ own;
          kids = kids;
          laid = record { stands = rw (f, g) (kids_here s at stop p id₁ own kids end l.stands l.parses); parses = l.parses.1 };
          fills = omega arith;
          counts = omega arith;
          lists = λ depth parent next.
              let d : depth + 1 ≡ suc depth = omega arith in
              let q : next + 1 ≡ suc next = omega arith in
              rw (j, a, f, n, d, q, append-nil (records_of (at + (6 + length own)) (suc depth) next (suc next) kids));
        }

module _ {s : List ℕ} {at stop id own : ℕ} {t : Run} (e : Entered s at stop id own t) where
  -- behind the last record inside it stands number r
  abbrev its_record : ℕ → ℕ → ℕ → Record
  its_record depth parent r = record { identifier = id; offset = at; len = stop - at; depth = depth; parent = parent; own = own; next = r }

  module _ (l : Lent) (depth parent next : ℕ) {l₁ : Lent} {r : ℕ} where
    -- without children there is nothing to list before it
    pub childless : at + 6 + own ≡ stop → l₁ ≡ l → r ≡ next + 1 → Listed l (at + 6 + own) (depth + 1) next (next + 1) e.kids l₁ r
    childless f u v = rw (u, v) (listed-end l (at + 6 + own) (depth + 1) next (next + 1) e.kids (omega (arith, e.fills)))

    -- the records of its children, and then its own
    pub entered-listed : Listed l (at + 6 + own) (depth + 1) next (next + 1) e.kids l₁ r →
        {l₂ : Lent} → l₂ ≡ written l₁ next (its_record depth parent r ∷ []) → Listed l at depth parent next t l₂ r
    entered-listed h w =
        let a = its_record depth parent in
        let b = records_of (at + 6 + own) (depth + 1) next (next + 1) e.kids in
        let n = next + 1 + record_count e.kids in
        record {
          counts = omega (arith, h.counts, e.counts);
          fills =
              w ∙ ap (λ (x : Lent). written x next (a r ∷ [])) h.fills ∙ written-before l next (a r ∷ []) b 1 refl ∙
              ap (λ (k : ℕ). written l next (a k ∷ b)) h.counts ∙ ap (written l next) (sym (e.lists depth parent next));
        }
