-- The test of one row, in the order in which the code comes to know it.
use mathlib.Core.Path.{◌≡◌, refl, sym, ap, subst, ◌∙◌}
use Prim.Native.Nat.{ℕ, ◌+◌, ◌/◌, ◌%◌, ◌<◌, ◌≤◌}
use native.Mathlib.Numerals.{add-one}
use native.Mathlib.Omega.{arith}
use mathlib.Core.Bool.{Bool, false, not, false≢true, and-true, and-false}
use mathlib.Core.List.{List}
use lib.Dec.{leb, ltb}
use lib.ListN.{length}
use borrow.Author.Tests.{lt-ltb, le-ltb, le-leb, lt-leb}
use Rattle.shared_name_tree.specs.Names.{Grown}
use Rattle.slip_rules.specs.declared.Numbers.{Numbers}
use Rattle.slip_rules.specs.Rules.{is_named, sums_proper, named_before, most_entries}
use Rattle.slip_rules.specs.Calls.{within}
use Rattle.slip_seen.specs.Seen.{Seen}
use Rattle.slip_seen.proofs.Seen.{seen-answer, seen-on}
use Rattle.slip_write_judge.specs.Rows.{row_no, entry_no, names_from, Inside, good_row, GoodRow}
use Rattle.slip_write_judge.proofs.Rows.{name-long, names_then}

-- equal rows have equal numbers
pub record Same (n m : Numbers) : Type 0 where
  pub name : n.name ≡ m.name
  pub len : n.len ≡ m.len
  pub sums : n.sums ≡ m.sums

pub same_row : {n m : Numbers} → n ≡ m → Same n m
same_row e = record { name = ap (λ (x : Numbers). x.name) e; len = ap (λ (x : Numbers). x.len) e; sums = ap (λ (x : Numbers). x.sums) e }

module _ (names s nodes : List ℕ) (i : ℕ) where
  refused-row : good_row names s i ≡ false → GoodRow names s nodes i false nodes
  refused-row e = record {
    is = sym e;
    inside = λ f. absurd (false≢true f);
    short = λ f. absurd (false≢true f);
    few = λ f. absurd (false≢true f);
    seen = λ f. absurd (false≢true f);
    room = refl;
  }

  pub off_many : most_entries ≤ i → GoodRow names s nodes i false nodes
  unfolding good_row
  off_many l = refused-row (rw (le-ltb i most_entries l))

  pub off_outside : length names < (row_no s i).name + (row_no s i).len → GoodRow names s nodes i false nodes
  unfolding good_row
  off_outside l = refused-row (rw (lt-leb ((row_no s i).name + (row_no s i).len) (length names) l, and-false (ltb i most_entries)))

  off_named : is_named (entry_no names s i) ≡ false → GoodRow names s nodes i false nodes
  unfolding good_row
  off_named e = refused-row (rw (e, and-false (within names (row_no s i)), and-false (ltb i most_entries)))

  pub off_empty : Inside names s i → (row_no s i).len ≡ 0 → GoodRow names s nodes i false nodes
  off_empty h e = off_named (rw (lt-leb 1 (length (entry_no names s i).name) (omega (arith, name-long names (row_no s i) h))))

  pub off_long : Inside names s i → 255 < (row_no s i).len → GoodRow names s nodes i false nodes
  off_long h l =
      off_named
      (rw (lt-leb (length (entry_no names s i).name) 255 (omega (arith, name-long names (row_no s i) h)), and-false (leb 1 (length (entry_no names s i).name))))

  off_sums : sums_proper (entry_no names s i) ≡ false → GoodRow names s nodes i false nodes
  unfolding good_row
  off_sums e = refused-row (rw (e, and-false (is_named (entry_no names s i)), and-false (within names (row_no s i)), and-false (ltb i most_entries)))

  pub off_first : (row_no s i).sums % 256 ≡ 255 → GoodRow names s nodes i false nodes
  off_first e = off_sums (rw (lt-leb ((row_no s i).sums % 256) 254 (omega arith)))

  pub off_second : 254 < (row_no s i).sums / 256 → GoodRow names s nodes i false nodes
  off_second l = off_sums (rw (lt-leb ((row_no s i).sums / 256) 254 l, and-false (leb ((row_no s i).sums % 256) 254)))

  module _ (l : i < most_entries) (h : Inside names s i) (p : 0 < (row_no s i).len) (q : (row_no s i).len ≤ 255) (f : (row_no s i).sums % 256 < 255)
      (g : (row_no s i).sums / 256 ≤ 254) where
    on-good : good_row names s i ≡ not (named_before (entry_no names s i).name (names_from names i s 0))
    unfolding good_row
    on-good =
        let n = name-long names (row_no s i) h in
        rw (
          lt-ltb i most_entries l,
          le-leb ((row_no s i).name + (row_no s i).len) (length names) h,
          le-leb 1 (length (entry_no names s i).name) (omega arith),
          le-leb (length (entry_no names s i).name) 255 (omega arith),
          le-leb ((row_no s i).sums % 256) 254 (omega arith),
          le-leb ((row_no s i).sums / 256) 254 g,
          and-true (not (named_before (entry_no names s i).name (names_from names i s 0))),
        )

    pub on-all : (nodes' : List ℕ) (r : Bool) → Seen names nodes i (names_from names i s 0) → Grown names nodes i (entry_no names s i).name r nodes' →
        GoodRow names s nodes i r nodes'
    on-all nodes' r e t = record {
      is = seen-answer e t ∙ sym on-good;
      inside = λ f. h;
      short = λ f. q;
      few = λ f. l;
      seen = λ f. subst (Seen names nodes' (i + 1)) (names_then names i s ∙ ap (λ (k : ℕ). names_from names k s 0) (sym (add-one i)))
          (seen-on e (subst (λ (b : Bool). Grown names nodes i (entry_no names s i).name b nodes') f t));
      room = t.size;
    }
