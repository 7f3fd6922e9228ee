-- Own data of the chunks on the way and of a mesh's lists, where it stands in the file.
use mathlib.Core.Path.{◌≡◌, refl, sym, ap, ◌∙◌, subst}
use mathlib.Core.Bool.{Bool, true, false, cond}
use mathlib.Core.Logic.{⊎_elim}
use mathlib.Core.List.{List, [], ◌∷◌, ◌++◌}
use Prim.Native.Nat.{ℕ, ◌+◌, ◌*◌, ◌≤◌, ◌<◌}
use native.Mathlib.Omega.{arith}
use lib.Dec.{eqb}
use lib.ListN.{length, take, drop, take-append-drop}
use lib.Seq.{slice, slice_empty}
use borrow.Author.Tests.{eqb-true, eq-eqb}
use Rattle.shared_words.specs.Bytes.{value, numbers}
use Rattle.shared_words.specs.Lists.{every, among}
use Rattle.studio_rules.specs.Table.{Shape, fixed, name, counted, rows, listed, shape}
use Rattle.shared_words.specs.Floats.{finite}
use Rattle.studio_rules.specs.OwnData.{name_size, count, own_size, corners, vertex_numbers, mapping_numbers, face_corners}
use Rattle.studio_rules.specs.Layout.{Run, end, skip, known, identifiers, child, offset_of}
use Rattle.studio_rules.specs.Rules.{Parent, only, Own, Obeys}
use Rattle.studio_rules.specs.Gives.{mesh_of}
use Rattle.studio_meshes_rules.specs.Standing.{elements_at}
use Rattle.shared_words.proofs.Bools.{and_parts, every_nil}
use Rattle.studio_rules.proofs.OwnSize.{own_size-more}
use Rattle.studio_rules.proofs.Mapping.{Fitting, given-at-most, pairs-all_or_none}
use Rattle.shared_numbers.specs.Numbers.{word_at, long_at}
use Rattle.shared_numbers.proofs.Slices.{drop-slice, take-slice, word_slice}
use Rattle.studio_scan.proofs.Parts.{numbers-slice, corners-slice}
use Rattle.studio_mesh_find.specs.declared.Elements.{Elements}
use Rattle.studio_mesh_find.specs.declared.Mapping.{Mapping}
use Rattle.studio_child.specs.Runs.{Spans}
use Rattle.studio_mesh_find.specs.Places.{ElementsAre, MappingIs, PlaceIs}
use Rattle.studio_child.proofs.Runs.{First, own_here, header-here, child-onward, among-onward, first-there, first-nowhere}
use Rattle.studio_rules.proofs.Rows.{pairs-counted}

-- own data of a known chunk is as long as its shape says
pub own_exact : (p : Parent) (x : ℕ) (own : List ℕ) (kids rest : Run) (s : List ℕ) (at stop : ℕ) → Spans p (known x own kids rest) s at stop →
    (sh : Shape) → shape x ≡ sh → own_size sh p.own own ≡ length own
own_exact p x own kids rest s at stop h sh e = subst (λ (z : Shape). own_size z p.own own ≡ length own) e (eqb-true _ _ h.obeys.0.own_data_exact_lem)

-- ---- counted own data

module _ (k : ℕ) (own s : List ℕ) (at : ℕ) (sized : 2 + k * count own ≡ length own) (there : own ≡ slice (at + 6) (at + 6 + length own) s) (stays : at + 6 + length own ≤ length s) where
  pub count-there : word_at s (at + 6) ≡ count own
  count-there = sym (word_slice (at + 6) (at + 6 + length own) s (omega arith)) ∙ ap (λ (l : List ℕ). value (take 2 l)) (sym there)

  pub counts-there : (n : ℕ) → n ≡ word_at s (at + 6) → ElementsAre k own s record { at = at + 8; count = n }
  counts-there n e =
      let c : n ≡ count own = e ∙ count-there in
      let a : at + 6 + 2 ≡ at + 8 = omega arith in
      let b : at + 6 + length own ≡ at + 8 + k * n = rw c (omega arith) in record {
        count-is = c;
        are = ap (drop 2) there ∙ drop-slice 2 (at + 6) (at + 6 + length own) s ∙ ap (λ (i : ℕ). slice i (at + 6 + length own) s) a ∙ ap (λ (i : ℕ). slice (at + 8) i s) b;
        stay = omega arith;
      }

-- no own data has no elements
pub counts-none : (k : ℕ) (s : List ℕ) → ElementsAre k [] s record { at = 0; count = 0 }
counts-none k s = record { count-is = refl; are = rw (mul-none k) (sym (slice_empty 0 s)); stay = omega (arith, mul-none k) }
  where
    mul-none : (k : ℕ) → 0 + k * 0 ≡ 0
    mul-none k = omega arith

module _ (own s : List ℕ) (r : Elements) where
  pub vertices-there : ElementsAre 12 own s r → vertex_numbers own ≡ numbers 4 (3 * r.count) (drop r.at s)
  vertices-there h = rw (← h.count-is, h.are) (numbers-slice 4 (3 * r.count) r.at (r.at + 12 * r.count) s (omega arith))

  pub pairs-there : ElementsAre 8 own s r → mapping_numbers own ≡ numbers 4 (2 * r.count) (drop r.at s)
  pairs-there h = rw (← h.count-is, h.are) (numbers-slice 4 (2 * r.count) r.at (r.at + 8 * r.count) s (omega arith))

  pub corners-there : ElementsAre 8 own s r → face_corners own ≡ corners r.count (drop r.at s)
  corners-there h = rw (← h.count-is, h.are) (corners-slice r.count r.at (r.at + 8 * r.count) s (omega arith))

-- ---- the first child of counted own data, at o

module _ (x k : ℕ) (e : shape x ≡ counted k) (p : Parent) (t : Run) (s : List ℕ) (at stop : ℕ) (h : Spans p t s at stop) (o : ℕ) (is : o ≡ offset_of x at t) where
  module _ (l : o < stop) where
    first : First x p t s at stop h
    first = first-there x p t s at stop h (omega arith)

    first_ends : o + 6 + length first.own ≤ length s
    first_ends = omega (arith, (header-here p s (offset_of x at t) stop x first.own first.kids first.rest first.spans).ends, h.stands.stays)

    sized : 2 + k * count first.own ≡ length first.own
    sized = own_exact p x first.own first.kids first.rest s (offset_of x at t) stop first.spans (counted k) e

    child-is : child x t ≡ first.own
    child-is = child-onward x t ∙ ap (child x) first.is ∙ rw (eq-eqb x x refl)

    pub word_first : o + 8 ≤ length s
    word_first = omega (arith, first_ends, sized)

    own_first : first.own ≡ slice (o + 6) (o + 6 + length first.own) s
    own_first =
        own_here p s (offset_of x at t) stop x first.own first.kids first.rest first.spans ∙
        ap (λ (i : ℕ). slice (i + 6) (i + 6 + length first.own) s) (sym is)

    pub counts-first : (n : ℕ) → n ≡ word_at s (o + 6) → ElementsAre k (child x t) s record { at = o + 8; count = n }
    counts-first n f = rw child-is (counts-there k first.own s o sized own_first first_ends n f)

    pub there-first : among x (identifiers t) ≡ true
    there-first = among-onward x t ∙ ap (λ (r : Run). among x (identifiers r)) first.is ∙ rw (eq-eqb x x refl)

  pub there-nowhere : stop ≤ o → among x (identifiers t) ≡ false
  there-nowhere l = among-onward x t ∙ ap (λ (r : Run). among x (identifiers r)) (first-nowhere x p t s at stop h (omega arith))

  pub counts-nowhere : stop ≤ o → ElementsAre k (child x t) s record { at = 0; count = 0 }
  counts-nowhere l =
      let c : child x t ≡ [] = child-onward x t ∙ ap (child x) (first-nowhere x p t s at stop h (omega arith)) in
      rw c (counts-none k s)

  -- where they begin
  pub begins-first : o < stop → o + 8 ≡ elements_at x at t
  begins-first l = rw (there-first l, is)

  pub begins-nowhere : stop ≤ o → 0 ≡ elements_at x at t
  begins-nowhere l = rw (there-nowhere l)

-- ---- a mesh

-- own data of the child x passes a test that every chunk x passes
child-passes : (x : ℕ) (test : List ℕ → Bool) → test [] ≡ true → ((p : Parent) (seen : List ℕ) (id : ℕ) (own : List ℕ) → Own p seen id own → only x id (test own) ≡ true) →
    (p : Parent) (seen : List ℕ) (t : Run) → Obeys p seen t → test (child x t) ≡ true
child-passes x test z each p seen end h = z
child-passes x test z each p seen (skip id body rest) h = child-passes x test z each p seen rest h.1
child-passes x test z each p seen (known id own kids rest) h = go (eqb id x) (each p seen id own h.0) (child-passes x test z each p (id ∷ seen) rest h.3)
  where
    go : (b : Bool) → cond b (test own) true ≡ true → test (child x rest) ≡ true → test (cond b own (child x rest)) ≡ true
    go true q ih = q
    go false q ih = ih

-- the floats of a 4110 and of a 4140 are finite
pub vertices-finite : (p : Parent) (seen : List ℕ) (t : Run) → Obeys p seen t → every finite (vertex_numbers (child 0x4110 t)) ≡ true
vertices-finite = child-passes 0x4110 (λ own. every finite (vertex_numbers own)) (every_nil finite) (λ p seen id own h. (and_parts (only 0x4110 id (every finite (vertex_numbers own))) (only 0x4140 id (every finite (mapping_numbers own))) h.numbers-finite).0)

pairs-finite : (p : Parent) (seen : List ℕ) (t : Run) → Obeys p seen t → every finite (mapping_numbers (child 0x4140 t)) ≡ true
pairs-finite = child-passes 0x4140 (λ own. every finite (mapping_numbers own)) (every_nil finite) (λ p seen id own h. (and_parts (only 0x4110 id (every finite (vertex_numbers own))) (only 0x4140 id (every finite (mapping_numbers own))) h.numbers-finite).1)

pub place-there : (p : Parent) (seen : List ℕ) (kids : Run) (s : List ℕ) → Obeys p seen kids → (v : ℕ) → Fitting v kids → (na ns : ℕ) (vs fs : Elements) (ps : Mapping) →
    ElementsAre 12 (child 0x4110 kids) s vs → ElementsAre 8 (child 0x4120 kids) s fs → MappingIs kids s ps →
    PlaceIs s (mesh_of na ns kids) record { name = na; size = ns; vertices = vs; faces = fs; mapping = ps }
place-there p seen kids s h v fitting na ns vs fs ps a b d =
    let given = pairs-there (child 0x4140 kids) s record { at = ps.at; count = ps.count } d.given in
    record {
      name-at = refl;
      name-size = refl;
      vertex-count = a.count-is;
      vertices_are = vertices-there (child 0x4110 kids) s vs a;
      vertices_stay = a.stay;
      vertices-finite = vertices-finite p seen kids h;
      face-count = b.count-is;
      corners_are = corners-there (child 0x4120 kids) s fs b;
      faces_stay = b.stay;
      pair_count_lem = d.pairs_are;
      mapping_is = rw (given, d.pairs_are);
      mapping_stays = d.given.stay;
      mapping_fits = omega (arith, d.given.count-is, d.pairs_are, given-at-most v kids fitting);
      pairs_fit_lem = ⊎_elim (λ e. omega (arith, d.pairs_are, a.count-is, e)) (λ e. omega (arith, d.pairs_are, e)) (pairs-all_or_none kids);
      mapping_finite = rw given at (pairs-finite p seen kids h);
    }

-- ---- a mapping, by its 4140 at o

module _ (p : Parent) (t : Run) (s : List ℕ) (at stop : ℕ) (h : Spans p t s at stop) (o : ℕ) (is : o ≡ offset_of 0x4140 at t) where
  pub mapping_first : o < stop → (m : ℕ) → m ≡ word_at s (o + 6) → (n : ℕ) → n ≡ count (child 0x4110 t) → MappingIs t s record { at = o + 8; count = m; pairs = n }
  mapping_first l m f n e =
      record { given = counts-first 0x4140 8 pairs-counted p t s at stop h o is l m f; pairs_are = rw (there-first 0x4140 8 pairs-counted p t s at stop h o is l) e }

  pub mapping_nowhere : stop ≤ o → MappingIs t s record { at = 0; count = 0; pairs = 0 }
  mapping_nowhere l =
      record { given = counts-nowhere 0x4140 8 pairs-counted p t s at stop h o is l; pairs_are = rw (there-nowhere 0x4140 8 pairs-counted p t s at stop h o is l) }

-- ---- own data by the table

pub all_listed : (listed 0x3D3D ≡ true) × (listed 0x4000 ≡ true) × (listed 0x4100 ≡ true) × (listed 0x4110 ≡ true) × (listed 0x4120 ≡ true) × (listed 0x4140 ≡ true)
unfolding listed rows
all_listed = (refl, refl, refl, refl, refl, refl)

module _ (p : Parent) (own : List ℕ) (kids rest : Run) (s : List ℕ) (at stop : ℕ) where
  -- 3D3D and 4100 have none
  pub objects_own : Spans p (known 0x3D3D own kids rest) s at stop → length own ≡ 0
  unfolding shape rows
  objects_own h = sym (own_exact p 0x3D3D own kids rest s at stop h (fixed 0) refl)

  pub mesh_own : Spans p (known 0x4100 own kids rest) s at stop → length own ≡ 0
  unfolding shape rows
  mesh_own h = sym (own_exact p 0x4100 own kids rest s at stop h (fixed 0) refl)

  -- a 4000 has its name
  module _ (h : Spans p (known 0x4000 own kids rest) s at stop) where
    object_own : name_size own ≡ length own
    unfolding shape rows
    object_own = own_exact p 0x4000 own kids rest s at stop h name refl

    pub name-there : name_size (slice (at + 6) (at + long_at s (at + 2)) s) ≡ length own
    name-there =
        let w = header-here p s at stop 0x4000 own kids rest h in
        let body : List ℕ = slice (at + 6) (at + long_at s (at + 2)) s in
        let front : take (length own) body ≡ own =
        take-slice (length own) (at + 6) (at + long_at s (at + 2)) s (omega (arith, w.length-is)) ∙ sym (own_here p s at stop 0x4000 own kids rest h) in
        ap name_size (sym (take-append-drop (length own) body) ∙ ap (λ (l : List ℕ). l ++ drop (length own) body) front) ∙
        own_size-more name [] own (drop (length own) body) object_own

    pub name-some : 1 ≤ length own
    name-some = go own object_own
      where
        go : (own : List ℕ) → name_size own ≡ length own → 1 ≤ length own
        go [] e = absurd (omega (arith, e))
        go (b ∷ own) e = omega arith
