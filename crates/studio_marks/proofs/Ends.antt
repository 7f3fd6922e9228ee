-- The conditions at a chunk's end, read off the marks that its children left.
use Rattle.std.specs.Prelude.{Result, Ok, Err}
use mathlib.Core.Path.{◌≡◌, refl, sym, ap, ◌∙◌, subst}
use mathlib.Core.Logic.{inl, inr, ◌↔◌}
use mathlib.Core.Bool.{Bool, true, false, not, ◌||◌, cond, true≢false, false≢true, and-true, or-false}
use mathlib.Core.List.{List, [], ◌∷◌}
use mathlib.Core.Option.{Option, none, some}
use Prim.Native.Nat.{ℕ, ◌+◌, ◌*◌, ◌≤◌, ◌<◌}
use native.Mathlib.Omega.{arith}
use lib.Dec.{eqb, leb}
use lib.ListN.{length, drop, get_or, get_or-replicate}
use lib.Seq.{slice}
use borrow.Author.Tests.{eqb-true, eqb-false, ne_eqb, le-leb, lt-leb, leb-true}
use Rattle.shared_words.specs.declared.Refusal.{Refusal}
use Rattle.shared_words.specs.Lists.{every, among}
use Rattle.studio_rules.specs.Table.{listed, limits, needs, at_most_one_ids, at_least_one_ids, rows, Shape, shape, counted}
use Rattle.studio_rules.specs.OwnData.{count, corners, face_corners, own_size}
use Rattle.studio_rules.specs.Layout.{Run, identifiers, child, offset_of}
use Rattle.studio_rules.specs.Rules.{Parent, tally, few, all_below, none_missing, as_many_pairs, pairs_fit}
use Rattle.studio_rules.specs.Parses.{Place, within}
use Rattle.studio_rules.proofs.Children.{child-none}
use Rattle.studio_rules.proofs.Parses.{parses}
use Rattle.studio_rules.proofs.Once.{at_most_one}
use Rattle.shared_words.specs.Conditions.{Condition, must, broken}
use Rattle.studio_rules.specs.Walk.{end_conditions, mesh_conditions}
use Rattle.shared_words.proofs.Bools.{and_parts}
use Rattle.shared_words.proofs.Conditions.{broken-here, broken-later, unbroken}
use Rattle.shared_numbers.specs.Numbers.{word_at}
use Rattle.shared_numbers.proofs.Slices.{word_slice, drop-slice}
use Rattle.studio_scan.proofs.Parts.{corners-slice}
use Rattle.studio_row.specs.Packed.{places, slot_of, row_of}
use Rattle.studio_row.proofs.Facts.{SlotTest, same-is}
use Rattle.studio_marks.specs.Marks.{tally_slot, Under, no_marks, Kept, ShutIs, RuleIs, Placed, count_at, corners_at, pairs_at, MeshPlaced, mesh_broken}
use Rattle.studio_marks.proofs.Slots.{all_slot, tally_slot_lem, groups_slotted}
use Rattle.studio_marks.proofs.After.{under_of, marks-zero, Alone, marks-place}
use Rattle.studio_marks.proofs.Children.{Found, child-found}
use Rattle.studio_rules.proofs.Rows.{vertices-counted, faces-counted, pairs-counted}

-- a group of one identifier: it alone has its slot
alone : (x : ℕ) (ys : List ℕ) → all_slot ys (x ∷ []) ≡ true → Alone x (slot_of x) ys
alone x [] h = tt
alone x (y ∷ ys) h =
    let a = and_parts (SlotTest y (x ∷ [])) (all_slot ys (x ∷ [])) h in
    (sym (same-is (among y (x ∷ [])) (eqb (slot_of y) (slot_of x)) (and_parts _ _ a.0).0) ∙ or-false (eqb y x), alone x ys a.1)

-- equal conditions, where their refusals differ only if they hold
broken-same : (b c : Bool) (x y : Refusal) (bs cs : List Condition) → b ≡ c → (c ≡ false → x ≡ y) → broken bs ≡ broken cs → broken (must b x ∷ bs) ≡ broken (must c y ∷ cs)
unfolding broken
broken-same true true x y bs cs e r h = h
broken-same true false x y bs cs e r h = absurd (true≢false e)
broken-same false true x y bs cs e r h = absurd (false≢true e)
broken-same false false x y bs cs e r h = ap some (r refl)

-- ---- one slot, of a group of one identifier x

module _ (q : Parent) (t : Run) (s : List ℕ) (from stop : ℕ) (marks : List ℕ) (k : Kept q t s from stop marks)
    (x : ℕ) (a : all_slot (identifiers t) (x ∷ []) ≡ true) (h : slot_of x < 5) where
  slot_zero : (get_or marks (slot_of x) 0 ≡ 0) ↔ ((get_or no_marks (slot_of x) 0 ≡ 0) × (tally_slot (slot_of x) (identifiers t) ≡ 0))
  slot_zero = rw k.marked (marks-zero from t no_marks (slot_of x) k.begins (h, refl))

  -- the mark is empty just where none came
  pub needed : eqb (get_or marks (slot_of x) 0) 0 ≡ not (leb 1 (tally (x ∷ []) (identifiers t)))
  needed = go (eqb (get_or marks (slot_of x) 0) 0) refl
    where
      n : tally (x ∷ []) (identifiers t) ≡ tally_slot (slot_of x) (identifiers t)
      n = tally_slot_lem (x ∷ []) (identifiers t) a

      go : (b : Bool) → eqb (get_or marks (slot_of x) 0) 0 ≡ b → b ≡ not (leb 1 (tally (x ∷ []) (identifiers t)))
      go true e = rw (lt-leb 1 (tally (x ∷ []) (identifiers t)) (omega (arith, n, (slot_zero.0 (eqb-true _ _ e)).1)))
      go false e =
          let q : tally_slot (slot_of x) (identifiers t) ≡ 0 → ⊥ = λ q. eqb-false _ _ e (slot_zero.1 (get_or-replicate 6 (slot_of x) 0 0 (omega (arith, h)), q)) in
          rw (le-leb 1 (tally (x ∷ []) (identifiers t)) (omega (arith, n)))

  -- it is the offset of x, or 0
  module _ (f : leb (tally (x ∷ []) (identifiers t)) 1 ≡ true) where
    mark-is : get_or marks (slot_of x) 0 ≡ cond (among x (identifiers t)) (offset_of x from t) 0
    mark-is =
        rw k.marked
        (marks-place x from t no_marks (slot_of x) (h, refl) (omega (arith, tally_slot_lem (x ∷ []) (identifiers t) a, leb-true (tally (x ∷ []) (identifiers t)) 1 f)) (alone x (identifiers t) a) ∙
        ap (λ (n : ℕ). cond (among x (identifiers t)) (offset_of x from t) n) (get_or-replicate 6 (slot_of x) 0 0 (omega (arith, h))))

    pub mark-none : among x (identifiers t) ≡ false → get_or marks (slot_of x) 0 ≡ 0
    mark-none e = mark-is ∙ rw e

    pub mark-at : among x (identifiers t) ≡ true → get_or marks (slot_of x) 0 ≡ offset_of x from t
    mark-at e = mark-is ∙ rw e

-- ---- a mesh's marks

-- one group of a mesh: x alone, in its slot
pub record Group (x slot : ℕ) (ys : List ℕ) : Type 0 where
  pub slot_is : slot_of x ≡ slot
  pub alone_in : all_slot ys (x ∷ []) ≡ true
  pub at_most_one : leb (tally (x ∷ []) ys) 1 ≡ true

pub record Groups (ys : List ℕ) : Type 0 where
  pub vertices : Group 0x4110 0 ys
  pub faces : Group 0x4120 1 ys
  pub pairs : Group 0x4140 2 ys

mesh_groups : (ys : List ℕ) → every (all_slot ys) (limits 0x4100) ≡ true → few 0x4100 ys ≡ true → Groups ys
unfolding rows limits at_most_one_ids every places row_of
mesh_groups ys a f =
    let a₀ = and_parts (all_slot ys (0x4110 ∷ [])) _ a in
    let a₁ = and_parts (all_slot ys (0x4120 ∷ [])) _ a₀.1 in
    let a₂ = and_parts (all_slot ys (0x4140 ∷ [])) _ a₁.1 in
    let f₀ = and_parts (leb (tally (0x4110 ∷ []) ys) 1) _ f in
    let f₁ = and_parts (leb (tally (0x4120 ∷ []) ys) 1) _ f₀.1 in
    let f₂ = and_parts (leb (tally (0x4140 ∷ []) ys) 1) _ f₁.1 in
    record {
      vertices = record { slot_is = refl; alone_in = a₀.0; at_most_one = f₀.0 };
      faces = record { slot_is = refl; alone_in = a₁.0; at_most_one = f₁.0 };
      pairs = record { slot_is = refl; alone_in = a₂.0; at_most_one = f₂.0 };
    }

-- own data that is counted begins with a count word, which stands in the file
module _ (p : Place) (x : ℕ) (t : Run) (s : List ℕ) (o stop n : ℕ) (l : stop ≤ length s) (f : Found p x t s o stop) (c : own_size (counted n) p.own (child x t) ≡ length (child x t)) where
  at : ℕ
  at = offset_of x o t

  pub word_there : offset_of x o t + 8 ≤ stop
  word_there = omega (arith, f.ends, c)

  pub counted-at : count (child x t) ≡ word_at s (offset_of x o t + 6)
  counted-at = ap count f.is ∙ word_slice (offset_of x o t + 6) (offset_of x o t + 6 + length (child x t)) s (omega (arith, c))

  pub counted-ends : offset_of x o t + 8 + n * word_at s (offset_of x o t + 6) ≤ stop
  counted-ends = rw (← counted-at) (omega (arith, f.ends, c))

-- a chunk q, as it tells where its children stand
abbrev around : Parent → Place
around q = within q.id q.own

kept_under : {q : Parent} {t : Run} {s : List ℕ} {from stop : ℕ} {marks : List ℕ} → Kept q t s from stop marks → Under q.id (identifiers t)
kept_under {q} {t} k = under_of (around q) t (parses q [] t k.obeys)

module _ (q : Parent) (i : q.id ≡ 0x4100) (t : Run) (s : List ℕ) (from stop : ℕ) (marks : List ℕ) (k : Kept q t s from stop marks) where
  groups : Groups (identifiers t)
  unfolding rows listed
  groups =
      mesh_groups (identifiers t) (groups_slotted 0x4100 refl (identifiers t) (rw i at (kept_under k))) (rw i at (at_most_one q t k.obeys))

  found : (x : ℕ) → among x (identifiers t) ≡ true → Found (around q) x t s from stop
  found x = child-found (around q) x t s from stop k.stands (parses q [] t k.obeys)

  -- what is told of one of the three: no chunk and no mark, or a chunk whose own data stands behind its mark
  pub record There (x slot n : ℕ) : Type 0 where
    pub at : get_or marks slot 0 ≡ offset_of x from t
    pub nonzero : eqb (get_or marks slot 0) 0 ≡ false
    pub word : get_or marks slot 0 + 8 ≤ length s
    pub count-is : count (child x t) ≡ word_at s (get_or marks slot 0 + 6)
    pub all : get_or marks slot 0 + 8 + n * word_at s (get_or marks slot 0 + 6) ≤ length s
    pub own_is : child x t ≡ slice (get_or marks slot 0 + 6) (get_or marks slot 0 + 6 + length (child x t)) s
    pub own_size_lem : length (child x t) ≡ 2 + n * count (child x t)

  there : (x slot n : ℕ) → Group x slot (identifiers t) → slot < 5 → shape x ≡ counted n → among x (identifiers t) ≡ true → There x slot n
  there x slot n g h sh a =
      let f = found x a in
      let c : own_size (counted n) q.own (child x t) ≡ length (child x t) = subst (λ (z : Shape). own_size z q.own (child x t) ≡ length (child x t)) sh f.exact in
      let m : get_or marks slot 0 ≡ offset_of x from t = rw (← g.slot_is) (mark-at q t s from stop marks k x g.alone_in (rw g.slot_is h) g.at_most_one a) in
      let b = k.begins in
      let z = k.stands.stays in
      let w = word_there (around q) x t s from stop n z f c in
      let e = counted-ends (around q) x t s from stop n z f c in
      record {
        at = m;
        nonzero = rw m (ne_eqb (offset_of x from t) 0 (λ q. omega (arith, f.after)));
        word = rw m (omega arith);
        count-is = rw m (counted-at (around q) x t s from stop n z f c);
        all = rw m (omega arith);
        own_is = rw m f.is;
        own_size_lem = sym c;
      }

  absent : (x slot : ℕ) → Group x slot (identifiers t) → slot < 5 → among x (identifiers t) ≡ false → get_or marks slot 0 ≡ 0
  absent x slot g h a = rw (← g.slot_is) (mark-none q t s from stop marks k x g.alone_in (rw g.slot_is h) g.at_most_one a)

  -- ---- the three marks

  count_of : (x slot n : ℕ) → Group x slot (identifiers t) → slot < 5 → shape x ≡ counted n → count_at s (get_or marks slot 0) ≡ count (child x t)
  unfolding count_at
  count_of x slot n g h sh = go (among x (identifiers t)) refl
    where
      go : (b : Bool) → among x (identifiers t) ≡ b → count_at s (get_or marks slot 0) ≡ count (child x t)
      go true a = let w = there x slot n g h sh a in rw w.nonzero (sym w.count-is)
      go false a = rw (absent x slot g h a, child-none x t a)

  placed_of : (x slot n : ℕ) → Group x slot (identifiers t) → slot < 5 → shape x ≡ counted n → Placed s (get_or marks slot 0) (2 + n * count_at s (get_or marks slot 0))
  unfolding count_at
  placed_of x slot n g h sh = go (among x (identifiers t)) refl
    where
      go : (b : Bool) → among x (identifiers t) ≡ b → Placed s (get_or marks slot 0) (2 + n * count_at s (get_or marks slot 0))
      go true a = let w = there x slot n g h sh a in inr (rw w.nonzero (omega (arith, w.all)))
      go false a = inl (absent x slot g h a)

  less : (m n : ℕ) → Placed s m (2 + n) → Placed s m 2
  less m n (inl e) = inl e
  less m n (inr e) = inr (omega (arith, e))

  pub mesh-placed : MeshPlaced s marks
  mesh-placed = record {
    vertices = less (get_or marks 0 0) (12 * count_at s (get_or marks 0 0)) (placed_of 0x4110 0 12 groups.vertices (omega arith) vertices-counted);
    faces = placed_of 0x4120 1 8 groups.faces (omega arith) faces-counted;
    pairs = less (get_or marks 2 0) (8 * count_at s (get_or marks 2 0)) (placed_of 0x4140 2 8 groups.pairs (omega arith) pairs-counted);
  }

  vertex-count : count_at s (get_or marks 0 0) ≡ count (child 0x4110 t)
  vertex-count = count_of 0x4110 0 12 groups.vertices (omega arith) vertices-counted

  corners_are : (n : ℕ) → corners_at s (get_or marks 1 0) n ≡ all_below n (face_corners (child 0x4120 t))
  unfolding corners_at every
  corners_are n = go (among 0x4120 (identifiers t)) refl
    where
      go : (b : Bool) → among 0x4120 (identifiers t) ≡ b → corners_at s (get_or marks 1 0) n ≡ all_below n (face_corners (child 0x4120 t))
      go false a = rw (absent 0x4120 1 groups.faces (omega arith) a, child-none 0x4120 t a)
      go true a =
          let w = there 0x4120 1 8 groups.faces (omega arith) faces-counted a in
          let m : ℕ = get_or marks 1 0 in
          let q : get_or marks 1 0 + 6 + 2 ≡ get_or marks 1 0 + 8 = omega arith in
          let d : drop 2 (child 0x4120 t) ≡ slice (get_or marks 1 0 + 8) (get_or marks 1 0 + 6 + length (child 0x4120 t)) s =
          ap (drop 2) w.own_is ∙ drop-slice 2 (get_or marks 1 0 + 6) (get_or marks 1 0 + 6 + length (child 0x4120 t)) s ∙ ap (λ (j : ℕ). slice j (get_or marks 1 0 + 6 + length (child 0x4120 t)) s) q in
          let e : corners (word_at s (get_or marks 1 0 + 6)) (slice (get_or marks 1 0 + 8) (get_or marks 1 0 + 6 + length (child 0x4120 t)) s) ≡ corners (word_at s (get_or marks 1 0 + 6)) (drop (get_or marks 1 0 + 8) s) =
          corners-slice (word_at s (get_or marks 1 0 + 6)) (get_or marks 1 0 + 8) (get_or marks 1 0 + 6 + length (child 0x4120 t)) s (omega (arith, w.own_size_lem, w.count-is)) in
          rw w.nonzero (ap (all_below n) (sym (ap (λ (j : ℕ). corners j (drop 2 (child 0x4120 t))) w.count-is ∙ ap (corners (word_at s (get_or marks 1 0 + 6))) d ∙ e)))

  pairs_are : (as_many : Bool) → RuleIs q as_many → (n : ℕ) → pairs_at s (get_or marks 2 0) as_many n ≡ (not (among 0x4140 (identifiers t)) || pairs_fit q.version (count (child 0x4140 t)) n)
  unfolding pairs_at
  pairs_are as_many rule n = rw (← rule) (go (among 0x4140 (identifiers t)) refl)
    where
      go : (b : Bool) → among 0x4140 (identifiers t) ≡ b → pairs_at s (get_or marks 2 0) (as_many_pairs q.version) n ≡ (not b || pairs_fit q.version (count (child 0x4140 t)) n)
      go false a = rw (absent 0x4140 2 groups.pairs (omega arith) a)
      go true a = let w = there 0x4140 2 8 groups.pairs (omega arith) pairs-counted a in rw (w.nonzero, w.count-is)

  -- a condition that fails has its chunk
  present : (x slot n : ℕ) → Group x slot (identifiers t) → slot < 5 → shape x ≡ counted n → (among x (identifiers t) ≡ false → ⊥) → get_or marks slot 0 ≡ offset_of x from t
  present x slot n g h sh no_way = go (among x (identifiers t)) refl
    where
      go : (b : Bool) → among x (identifiers t) ≡ b → get_or marks slot 0 ≡ offset_of x from t
      go true a = (there x slot n g h sh a).at
      go false a = absurd (no_way a)

  no-faces : (n : ℕ) → among 0x4120 (identifiers t) ≡ false → all_below n (face_corners (child 0x4120 t)) ≡ true
  unfolding every
  no-faces n a = rw (child-none 0x4120 t a)

  pub mesh-broken : (as_many : Bool) → RuleIs q as_many → mesh_broken s as_many marks ≡ broken (mesh_conditions q from t)
  mesh-broken as_many rule =
      rw i
      (
      broken-same _ _ _ _ _ _ (rw vertex-count (corners_are (count (child 0x4110 t))))
      (λ e. ap Refusal.Index (present 0x4120 1 8 groups.faces (omega arith) faces-counted (λ a. true≢false (sym (no-faces (count (child 0x4110 t)) a) ∙ e))))
      (broken-same _ _ _ _ _ _ (rw vertex-count (pairs_are as_many rule (count (child 0x4110 t))))
      (λ e. ap Refusal.Count (present 0x4140 2 8 groups.pairs (omega arith) pairs-counted (λ a. true≢false (sym (rw a) ∙ e)))) refl))

-- ---- at least one: 3D3D in 4D4D, A000 in AFFF, B010 in B002

module _ (q : Parent) (t : Run) (s : List ℕ) (from stop : ℕ) (marks : List ℕ) (k : Kept q t s from stop marks) where
  pub figure-needs : q.id ≡ 0x4D4D → eqb (get_or marks 1 0) 0 ≡ not (none_missing q t)
  unfolding rows listed limits at_most_one_ids needs at_least_one_ids every places row_of
  figure-needs i =
      let a = and_parts (all_slot (identifiers t) (0x0002 ∷ [])) _ (groups_slotted 0x4D4D refl (identifiers t) (rw i at (kept_under k))) in
      rw i
      (needed q t s from stop marks k 0x3D3D (and_parts (all_slot (identifiers t) (0x3D3D ∷ [])) _ a.1).0 (omega arith) ∙
      ap not (sym (and-true (leb 1 (tally (0x3D3D ∷ []) (identifiers t))))))

  pub material-needs : q.id ≡ 0xAFFF → eqb (get_or marks 0 0) 0 ≡ not (none_missing q t)
  unfolding rows listed limits at_most_one_ids needs at_least_one_ids every places row_of
  material-needs i =
      let a = groups_slotted 0xAFFF refl (identifiers t) (rw i at (kept_under k)) in
      rw i
      (needed q t s from stop marks k 0xA000 (and_parts (all_slot (identifiers t) (0xA000 ∷ [])) true a).0 (omega arith) ∙
      ap not (sym (and-true (leb 1 (tally (0xA000 ∷ []) (identifiers t))))))

  pub part-needs : q.id ≡ 0xB002 → eqb (get_or marks 0 0) 0 ≡ not (none_missing q t)
  unfolding rows listed limits at_most_one_ids needs at_least_one_ids every places row_of
  part-needs i =
      let a = groups_slotted 0xB002 refl (identifiers t) (rw i at (kept_under k)) in
      rw i
      (needed q t s from stop marks k 0xB010 (and_parts (all_slot (identifiers t) (0xB010 ∷ [])) true a).0 (omega arith) ∙
      ap not (sym (and-true (leb 1 (tally (0xB010 ∷ []) (identifiers t))))))

pub other_needs : (q : Parent) (t : Run) → (q.id ≡ 0x4D4D → ⊥) → (q.id ≡ 0xAFFF → ⊥) → (q.id ≡ 0xB002 → ⊥) → none_missing q t ≡ true
unfolding needs at_least_one_ids every
other_needs q t a b c = rw (ne_eqb q.id 0x4D4D a, ne_eqb q.id 0xAFFF b, ne_eqb q.id 0xB002 c)

-- ---- all of it

pub end-missing : (q : Parent) (o : ℕ) (t : Run) → none_missing q t ≡ false → ShutIs (broken (end_conditions q o t)) (Err (Refusal.Missing o))
end-missing q o t h = subst (λ (x : Option Refusal). ShutIs x (Err (Refusal.Missing o))) (sym (broken-here _ _ _ h)) refl

pub end-mesh : (q : Parent) (o : ℕ) (t : Run) (x : Option Refusal) (r : Result Unit Refusal) → none_missing q t ≡ true → x ≡ broken (mesh_conditions q (o + (6 + length q.own)) t) → ShutIs x r → ShutIs (broken (end_conditions q o t)) r
end-mesh q o t x r h e f = subst (λ (y : Option Refusal). ShutIs y r) (e ∙ sym (broken-later _ _ _ h)) f

pub end_other : (q : Parent) (o : ℕ) (t : Run) → none_missing q t ≡ true → (q.id ≡ 0x4100 → ⊥) → ShutIs (broken (end_conditions q o t)) (Ok tt)
end_other q o t h n =
    end-mesh q o t none (Ok tt) h (sym (unbroken (mesh_conditions q (o + (6 + length q.own)) t) (rw (ne_eqb q.id 0x4100 n), (rw (ne_eqb q.id 0x4100 n), tt)))) refl
